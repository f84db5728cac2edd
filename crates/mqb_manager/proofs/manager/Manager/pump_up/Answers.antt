use Rattle.std.proofs.Common.{◌≡◌, refl, sym, ◌∙◌}
use Rattle.std.specs.Prelude.{Err}
use Rattle.mqb_model.specs.calls.pump.Pump.{pump}
use Rattle.mqb_model.specs.declared.faults.PumpFault.TheVariants as fault
use Rattle.mqb_manager.specs.States.{manager_of}
use Rattle.mqb_manager.proofs.Comes.{comes_unlinked}
use Rattle.mqb_manager.proofs.Conditions.{down_is}
use Rattle.mqb_manager.proofs.Sent.{answer_pumped}
use Rattle.mqb_manager.proofs.manager.Manager.pump_up.Goals as goal

pub returns-in-None-clause-pumped : goal.returns-in-None-clause-pumped
returns-in-None-clause-pumped g c = let m = c.args.self.now in
    answer_pumped (g.D.Disk.view c.args.disk.now) (c.args.disk.now ≡ c.args.disk.now) m (g.met.D.Disk.lawful c.args.disk.now) refl (pump (manager_of m) c.args.now) (Err fault.NotLinked) c.args.out.now.items
    c.is_valid.ensures (comes_unlinked (manager_of m) c.args.now (down_is m ∙ c.requires.up) (sym c.linked.ensures ∙ c.in-None.is)) (λ same. let none : ⊥ = cc in none)

pub pump_linked-requires : goal.pump_linked-requires
pump_linked-requires g c = record { up = c.requires.up; on = c.requires.on; session = sym c.linked.ensures ∙ c.in-Some.is }

pub returns-in-Some-clause-pumped : goal.returns-in-Some-clause-pumped
returns-in-Some-clause-pumped g c = c.pump_linked.ensures
