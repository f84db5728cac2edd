use Rattle.std.proofs.Common.{ap, ◌++◌, ◌≡◌, ◌∙◌, List, inl, refl, ℕ}
use Rattle.std.proofs.lemmas.Result.{err_from_is_err_and}
use Rattle.std.specs.Prelude.{Some}
use Rattle.mqb_script.specs.declared.faults.ScriptFault.TheVariants as script
use Rattle.mqb_transcript.specs.Generator.{generated}
use Rattle.mqb_replay.specs.Devices.{Devices, devices}
use Rattle.mqb_replay.proofs.Telling.{untouched}
use Rattle.mqb_replay.proofs.Trying.{not_read}
use Rattle.mqb_replay.proofs.trials.make_and_try.Goals as goal

pub returns-in_err-make_script-clause-ends : goal.returns-in_err-make_script-clause-ends
returns-in_err-make_script-clause-ends g c =
    let p = err_from_is_err_and c.from_residual.result c.from_residual.ensures.1 in
    let b : Devices = devices (g.M.Medium.strings c.args.medium.now) (g.P.Disk.view c.args.first.now) (g.P.Disk.view c.args.second.now) in
    rw (p.1, p.2) (inl (untouched b (g.K.Sink.taken c.args.out.now)))

pub returns-in_err-script-clause-ends : goal.returns-in_err-script-clause-ends
returns-in_err-script-clause-ends g c =
    let p = err_from_is_err_and c.from_residual-in_err-script.result c.from_residual-in_err-script.ensures.1 in
    let made = c.made_scripts_are_scripts.ensures c.args.n c.requires.least c.requires.most in
    let b : Devices = devices (g.M.Medium.strings c.args.medium.now) (g.P.Disk.view c.args.first.now) (g.P.Disk.view c.args.second.now) in
    let text : c.deref.result.now ≡ generated c.args.n = c.deref.ensures.value ∙ c.in_ok-make_script.ensures.ok ∙ ap (λ (t : List ℕ). t ++ generated c.args.n) c.new-text.ensures.items in
    let told : Some c.new.result.rest.now ≡ Some (generated c.args.n) = c.new.ensures.held ∙ ap (λ (t : List ℕ). Some t) text in
    let is : c.in_err-script.field-0.0 ≡ script.Memory = not_read c.args.n made (Some c.new.result.rest.now) (Some c.read_script.new.source.rest.now) told c.in_err-script.field-0.0 0 refl
    c.in_err-script.ensures.reads c.in_err-script.ensures.cause in
    rw (p.1, p.2, is) (inl (untouched b (g.K.Sink.taken c.args.out.now)))
