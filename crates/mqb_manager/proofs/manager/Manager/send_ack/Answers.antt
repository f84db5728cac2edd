use Rattle.std.proofs.Common.{◌≡◌, sym, subst, ◌∙◌}
use Rattle.std.specs.Prelude.{◌++◌, All, Ok, OnOk, flat_map}
use Rattle.mqb_model.specs.calls.pump.Pump.{PumpOutcome}
use Rattle.mqb_model.specs.declared.faults.PumpFault.TheVariants as fault
use Rattle.mqb_model.specs.managers.Outcomes.{succeeded}
use Rattle.mqb_model.specs.managers.Valid.{IsValidManager}
use Rattle.mqb_manager.specs.States.{manager_of}
use Rattle.std.proofs.lemmas.List.{append-nil}
use Rattle.std.proofs.lemmas.List.Elements.{All-nil}
use Rattle.mqb_packet.specs.Plain.{plain_spelling}
use Rattle.mqb_packet.specs.Values.{IsPacket}
use Rattle.mqb_manager.specs.Quiet.{IsQuiet}
use Rattle.mqb_manager.proofs.Comes.{ack_is, no_ack_goes}
use Rattle.mqb_manager.proofs.Quiet.{quiet_answer}
use Rattle.mqb_manager.proofs.Sent.{one_fits}
use Rattle.mqb_manager.proofs.manager.Manager.send_ack.Goals as goal

pub send_one-requires : goal.send_one-requires
send_one-requires c = let m = c.args.self.now in record {
  well_formed = c.set_up_packet-packet.ensures.well_formed;
  size = c.set_up_packet-packet.ensures.size;
  valid = subst (λ (o : PumpOutcome). IsValidManager (succeeded (manager_of m) o))
      (ack_is (manager_of m) c.args.session c.stamp.result c.set_up_packet-packet.result c.stamp.new.self (sym c.owes_ack.ensures ∙ c.if-owes_ack.true) c.stamp.ensures.head
      c.set_up_packet-packet.ensures.packet c.stamp.ensures.left) c.requires.valid;
}

pub returns-then-owes_ack : goal.returns-then-owes_ack
returns-then-owes_ack c = let m = c.args.self.now in
    let is = ack_is (manager_of m) c.args.session c.stamp.result c.set_up_packet-packet.result c.stamp.new.self (sym c.owes_ack.ensures ∙ c.if-owes_ack.true) c.stamp.ensures.head
    c.set_up_packet-packet.ensures.packet c.stamp.ensures.left in record {
      quiet = subst (λ (o : PumpOutcome). IsQuiet fault.Memory m c.send_one.new.self o c.send_one.result) (sym is) c.send_one.ensures.quiet;
      sent = subst (λ (o : PumpOutcome). OnOk c.send_one.result (c.send_one.new.out.items ≡ c.args.out.now.items ++ flat_map plain_spelling o.packets)) (sym is) c.send_one.ensures.sent;
      fits = subst (λ (o : PumpOutcome). OnOk c.send_one.result (All IsPacket o.packets)) (sym is) (one_fits c.send_one.result c.set_up_packet-packet.result c.set_up_packet-packet.ensures.fits);
      refused = c.send_one.ensures.refused;
    }

pub returns-else-owes_ack : goal.returns-else-owes_ack
returns-else-owes_ack c = let m = c.args.self.now in
    let is = no_ack_goes (manager_of m) c.args.session (sym c.owes_ack.ensures ∙ c.if-owes_ack.false) in record {
      quiet = subst (λ (o : PumpOutcome). IsQuiet fault.Memory m m o (Ok 0)) (sym is) (quiet_answer fault.Memory m (Ok 0) c.is_valid.ensures);
      sent = subst (λ (o : PumpOutcome). c.args.out.now.items ≡ c.args.out.now.items ++ flat_map plain_spelling o.packets) (sym is) (sym (append-nil c.args.out.now.items));
      fits = subst (λ (o : PumpOutcome). All IsPacket o.packets) (sym is) (All-nil IsPacket);
      refused = tt;
    }
