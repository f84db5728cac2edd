use Rattle.std.proofs.Common.{◌≡◌, ◌∙◌, ap, subst, sym}
use Rattle.std.proofs.lemmas.Result.{err_from_is_err_and}
use Rattle.std.specs.Prelude.{Err, List, false, ℕ}
use Rattle.mqb_journal.specs.declared.faults.OpenFault.{OpenFault}
use Rattle.mqb_journal.specs.declared.faults.OpenFault.TheVariants as opening
use Rattle.mqb_journal.specs.declared.faults.ScanFault.{ScanFault}
use Rattle.mqb_model.specs.records.Reading.{record_of}
use Rattle.mqb_state.specs.Unfit.{is_fit}
use Rattle.mqb_store.proofs.Faulty.{breaks_off}
use Rattle.mqb_store.proofs.Read.{IsMade, may_go_on, read_all, read_more, stands_behind, unfit_from}
use Rattle.mqb_store.proofs.Steps.{HasEnded, HasGoneOn, bad_scan, same_guid_then, same_fault, stands_at_end, stands_then, unfit_then}
use Rattle.mqb_journal.specs.States.{ScanState}
use Rattle.mqb_store.proofs.replaying.step.Goals as goal

pub returns-then-not-branch-clause-read : goal.returns-then-not-branch-clause-read
returns-then-not-branch-clause-read g c =
    let d = g.D.Disk.view c.args.disk.now in
    let e = g.D.Disk.view c.advance.new.disk in
    let done : HasEnded d e c.args.scan.now c.advance.new.self c.requires.read.base c.requires.read.entries = record {
      behind = stands_behind c.requires.read;
      next = c.in_ok-advance.ensures.ended c.if-not-branch.true;
      within = c.advance.ensures.within;
      lent = c.in_ok-advance.ensures.all c.requires.read.base c.requires.read.entries c.requires.read.lent c.if-not-branch.true;
      reads = c.advance.ensures.reads;
    } in
    read_all d e c.args.scan.now c.advance.new.self c.args.state.now.lists c.args.lines.now.items c.requires.read
    (ap (λ (s : ScanState). s.guid) done.next) (stands_at_end done)

pub returns-in_err-advance-clause-bad : goal.returns-in_err-advance-clause-bad
returns-in_err-advance-clause-bad g c at is =
    let d = g.D.Disk.view c.args.disk.now in
    let p = err_from_is_err_and c.from_residual.result c.from_residual.ensures.1 in
    let fault = sym p.2 ∙ same_fault p.0 (opening.BadStore at) (sym p.1 ∙ is) in
    let h = c.in_err-advance.ensures.bad at
    (ap (λ (f : ScanFault). Err f) (bad_scan c.in_err-advance.field-0.0 at fault)) in
    breaks_off d c.args.scan.now c.requires.read.base c.requires.read.entries at (stands_behind c.requires.read)
    (may_go_on c.requires.read) h.0 h.1

pub returns-in_err-apply-clause-bad : goal.returns-in_err-apply-clause-bad
returns-in_err-apply-clause-bad g c at is =
    let d = g.D.Disk.view c.args.disk.now in
    let e = g.D.Disk.view c.advance.new.disk in
    let t = c.advance.new.self in
    let s = c.args.state.now.lists in
    let gone : HasGoneOn d e c.args.scan.now t c.requires.read.base c.requires.read.entries = record {
      behind = stands_behind c.requires.read;
      next = c.in_ok-advance.ensures.advanced c.if-not-branch.false;
      within = c.advance.ensures.within;
      lent = c.in_ok-advance.ensures.more c.requires.read.base c.requires.read.entries c.requires.read.lent c.if-not-branch.false;
      reads = c.advance.ensures.reads;
    } in
    let p = err_from_is_err_and c.from_residual-in_err-apply.result c.from_residual-in_err-apply.ensures.1 in
    let h = c.in_err-apply.ensures.bad at (ap (λ (f : OpenFault). Err f) (sym p.2 ∙ same_fault p.0 (opening.BadStore at) (sym p.1 ∙ is))) in
    unfit_then gone at (may_go_on c.requires.read) (h.0 ∙ c.place.ensures.place)
    (unfit_from c.entries_go_on.ensures c.args.scan.now.guid c.requires.read.base c.requires.read.entries t.lent s c.requires.read.state
    (subst (λ (l : List ℕ). is_fit s (record_of l) ≡ false) c.record.ensures.lent h.1))

pub returns-clause-read : goal.returns-clause-read
returns-clause-read g c =
    let d = g.D.Disk.view c.args.disk.now in
    let e = g.D.Disk.view c.advance.new.disk in
    let gone : HasGoneOn d e c.args.scan.now c.advance.new.self c.requires.read.base c.requires.read.entries = record {
      behind = stands_behind c.requires.read;
      next = c.in_ok-advance.ensures.advanced c.if-not-branch.false;
      within = c.advance.ensures.within;
      lent = c.in_ok-advance.ensures.more c.requires.read.base c.requires.read.entries c.requires.read.lent c.if-not-branch.false;
      reads = c.advance.ensures.reads;
    } in
    read_more c.entries_go_on.ensures c.durable_is_applied.ensures d e c.args.scan.now c.advance.new.self c.args.state.now.lists c.apply.new.state.lists
    c.args.lines.now.items c.apply.new.lines.items c.advance.new.self.lent c.requires.read c.is_valid.ensures (same_guid_then gone) (stands_then gone)
    (subst (λ (l : List ℕ). IsMade c.args.state.now.lists (record_of l) c.apply.new.state.lists c.apply.new.lines.items) c.record.ensures.lent c.in_ok-apply.ensures.ok)
