use Rattle.std.proofs.Common.{◌≡◌, refl, sym, subst, ◌∙◌}
use Rattle.mqb_model.specs.calls.pump.Pump.{PumpOutcome, pump, sending_one}
use Rattle.mqb_model.specs.managers.Outcomes.{succeeded}
use Rattle.mqb_model.specs.managers.Valid.{IsValidManager}
use Rattle.mqb_manager.specs.States.{manager_of}
use Rattle.mqb_manager.proofs.Comes.{owed_is}
use Rattle.mqb_manager.proofs.Sent.{one_fits, quiet_pumped}
use Rattle.mqb_manager.proofs.manager.Manager.pump_linked.Goals as goal

pub send_one-requires : goal.send_one-requires
send_one-requires g c = let m = c.args.self.now in record {
  well_formed = c.set_up_packet.ensures.well_formed;
  size = c.set_up_packet.ensures.size;
  valid = subst (λ (o : PumpOutcome). IsValidManager (succeeded (manager_of m) o))
      (owed_is m c.args.now c.args.session c.in-Some.part c.set_up_packet.result c.owed.new.self c.requires.up c.requires.session
      (sym c.owed.ensures.owed ∙ c.in-Some.is) c.set_up_packet.ensures.packet c.owed.ensures.left)
      ((c.calls_can_be_written.ensures.valid (manager_of m) c.is_valid.ensures).pumps c.args.now).succeeds;
}

pub returns-in-Some : goal.returns-in-Some
returns-in-Some g c = let m = c.args.self.now in
    quiet_pumped (g.D.Disk.view c.args.disk.now) (c.args.disk.now ≡ c.args.disk.now) m (g.met.D.Disk.lawful c.args.disk.now) refl c.send_one.new.self (pump (manager_of m) c.args.now)
    (sending_one (manager_of m) c.set_up_packet.result c.owed.new.self) c.args.out.now.items c.send_one.new.out.items c.send_one.result
    (owed_is m c.args.now c.args.session c.in-Some.part c.set_up_packet.result c.owed.new.self c.requires.up c.requires.session
    (sym c.owed.ensures.owed ∙ c.in-Some.is) c.set_up_packet.ensures.packet c.owed.ensures.left)
    (λ same. let none : ⊥ = cc in none) c.send_one.ensures.quiet c.send_one.ensures.sent
    (one_fits c.send_one.result c.set_up_packet.result c.set_up_packet.ensures.fits) c.send_one.ensures.refused

pub pump_ready-requires : goal.pump_ready-requires
pump_ready-requires g c = record { linked = c.requires; none = sym c.owed.ensures.owed ∙ c.in-None.is }

pub returns-in-None : goal.returns-in-None
returns-in-None g c = c.pump_ready.ensures
