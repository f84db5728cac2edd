use Rattle.std.proofs.Common.{◌≡◌, Err, Result, Some, ap, refl, subst, sym, ◌∙◌}
use Rattle.std.proofs.lemmas.Result.{err_from_is_err_and}
use Rattle.mqb_entries.specs.declared.entry.Entry.TheVariants as form
use Rattle.mqb_model.specs.managers.Beside.{Nothing}
use Rattle.mqb_store.specs.declared.faults.WriteFault.{WriteFault}
use Rattle.mqb_store.specs.declared.faults.WriteFault.TheVariants as fault
use Rattle.mqb_manager.specs.States.{manager_of}
use Rattle.mqb_manager.specs.Writing.{WritesEntry, write_of}
use Rattle.mqb_manager.proofs.Calls.{unmade_call}
use Rattle.mqb_manager.proofs.manager.Manager.write_trial.Goals as goal

pub returns-in_err-views : goal.returns-in_err-views
returns-in_err-views g c =
    let m = c.args.self.now in
    let d = g.D.Disk.view c.args.disk.now in
    let o = write_of (manager_of m) (Some (form.Commit c.args.now c.args.trial.now.ops)) Nothing in
    let p = err_from_is_err_and c.from_residual.result c.from_residual.ensures.1 in
    subst (λ (r : Result (Unit {0}) WriteFault). WritesEntry d d (c.args.disk.now ≡ c.args.disk.now) m m (Some (form.Commit c.args.now c.args.trial.now.ops)) Nothing r) (sym (p.1 ∙ ap Err p.2))
    (record {
      call = unmade_call fault.Memory fault.DiskFault d m o (g.met.D.Disk.lawful c.args.disk.now) (λ same. let none : ⊥ = cc in none);
      untouched = λ none. refl;
      memory = λ same. refl;
      calls = tt;
    })
