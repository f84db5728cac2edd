use Rattle.std.proofs.Common.{◌∙◌, subst, sym}
use Rattle.std.proofs.lemmas.Result.{err_from_is_err_and}
use Rattle.std.specs.Prelude.{IfErr}
use Rattle.mqb_trying.specs.Notes.{nothing_noted}
use Rattle.mqb_trying.specs.Trying.{IsRefusedBy, tried, try_all}
use Rattle.mqb_trying.proofs.Finished.{fits_too, is_refusal, op_refuses, planned_is, read_too, size_too, whole_refuses}
use Rattle.mqb_trying.proofs.trying.try_ops.Goals as goal

pub returns-in_err-notes-clause-refused : goal.returns-in_err-notes-clause-refused
returns-in_err-notes-clause-refused c =
    let s = c.args.contents.now.lists in
    let ops = c.args.ops.now in
    let p = err_from_is_err_and c.from_residual.result c.from_residual.ensures.1 in
    subst (λ r. IfErr r (IsRefusedBy (tried s c.args.now ops))) (sym p.1)
    (op_refuses s c.args.now ops p.0 c.requires (sym c.count_refusal.ensures ∙ c.in_default.is)
    (subst (IsRefusedBy (try_all s c.args.now 0 (nothing_noted s) ops)) (sym p.2) c.in_err-notes.ensures.refused))

pub returns-in-Some-whole_fault-clause-refused : goal.returns-in-Some-whole_fault-clause-refused
returns-in-Some-whole_fault-clause-refused c =
    let s = c.args.contents.now.lists in
    let ops = c.args.ops.now in
    is_refusal (tried s c.args.now ops) c.in-Some-whole_fault.fault
    (whole_refuses s c.args.now ops c.in_ok-notes.notes c.requires (sym c.count_refusal.ensures ∙ c.in_default.is) c.in_ok-notes.ensures.ok c.in-Some-whole_fault.fault
    (sym c.whole_fault.ensures ∙ c.in-Some-whole_fault.is))

pub returns-clause-planned : goal.returns-clause-planned
returns-clause-planned c = planned_is c.args.contents.now.lists c.args.now c.args.ops.now c.in_ok-notes.notes c.requires (sym c.count_refusal.ensures ∙ c.in_default.is)
    c.in_ok-notes.ensures.ok (sym c.whole_fault.ensures ∙ c.in_default-whole_fault.is) c.trial_of.result c.trial_of.ensures.ops c.trial_of.ensures.done

pub returns-clause-size : goal.returns-clause-size
returns-clause-size c = size_too c.args.contents.now.lists c.args.now c.args.ops.now c.in_ok-notes.notes c.requires (sym c.count_refusal.ensures ∙ c.in_default.is)
    c.in_ok-notes.ensures.ok (sym c.whole_fault.ensures ∙ c.in_default-whole_fault.is) c.trial_of.result c.trial_of.ensures.ops c.trial_of.ensures.done
    c.records_are_spelled.ensures c.plain_size.ensures

pub returns-clause-read : goal.returns-clause-read
returns-clause-read c = read_too c.args.contents.now.lists c.args.now c.args.ops.now c.in_ok-notes.notes c.requires (sym c.count_refusal.ensures ∙ c.in_default.is)
    c.in_ok-notes.ensures.ok (sym c.whole_fault.ensures ∙ c.in_default-whole_fault.is) c.trial_of.result c.trial_of.ensures.ops c.trial_of.ensures.done
    c.trial_of.ensures.read

pub returns-clause-fits : goal.returns-clause-fits
returns-clause-fits c = fits_too c.args.contents.now.lists c.args.now c.args.ops.now c.in_ok-notes.notes c.requires (sym c.count_refusal.ensures ∙ c.in_default.is)
    c.in_ok-notes.ensures.ok (sym c.whole_fault.ensures ∙ c.in_default-whole_fault.is) c.trial_of.result c.trial_of.ensures.ops c.trial_of.ensures.done
    c.records_fit.ensures
