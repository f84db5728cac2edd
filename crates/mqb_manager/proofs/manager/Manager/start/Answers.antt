use Rattle.std.proofs.Common.{◌≡◌, Err, ap, subst, sym, ◌∙◌}
use Rattle.mqb_outside.specs.Images.{Each}
use Rattle.mqb_journal.specs.declared.faults.OpenFault.TheVariants as opening
use Rattle.mqb_model.specs.managers.Manager.{unlinked}
use Rattle.mqb_model.specs.managers.Valid.{IsValidManager}
use Rattle.mqb_model.specs.state.State.{State}
use Rattle.mqb_store.specs.States.{StoreState}
use Rattle.mqb_store.specs.mqb_store_laws.Images.{HasLastLines, OpensTo}
use Rattle.mqb_manager.proofs.manager.Manager.start.Goals as goal

pub unlinked-requires-clause-valid : goal.unlinked-requires-clause-valid
unlinked-requires-clause-valid g c =
    subst (λ (s : State). IsValidManager (unlinked s)) c.in-Ok.ensures.durable (c.restarted_is_valid.ensures c.in-Ok.store.state c.state-state.ensures.valid)

pub returns-in-Ok-clause-opens : goal.returns-in-Ok-clause-opens
returns-in-Ok-clause-opens g c =
    subst (λ (w : StoreState). Each (g.D.Disk.view c.args.disk.now).reads (OpensTo w.journal.guid w.journal.count w.state)) (sym c.unlinked.ensures.store) c.in-Ok.ensures.opens

pub returns-in-Ok-clause-lines : goal.returns-in-Ok-clause-lines
returns-in-Ok-clause-lines g c =
    subst (λ (w : StoreState). Each (g.D.Disk.view c.args.disk.now).reads (HasLastLines w.journal.guid w.lines)) (sym c.unlinked.ensures.store) c.in-Ok.ensures.lines

pub returns-in-Err-clause-bad : goal.returns-in-Err-clause-bad
returns-in-Err-clause-bad g c = λ at same. c.start.ensures.bad at (c.in-Err.is ∙ (let inside : c.in-Err.fault ≡ opening.BadStore at = cc in ap Err inside))
