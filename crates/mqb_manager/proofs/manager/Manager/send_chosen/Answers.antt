use Rattle.std.proofs.Common.{◌≡◌, refl, sym, ap, subst, ◌∙◌}
use Rattle.std.specs.Prelude.{◌&&◌, Bool, Err, length}
use Rattle.mqb_model.specs.calls.pump.Pump.{PumpOutcome, pump, sending_ack}
use Rattle.mqb_model.specs.declared.faults.PumpFault.TheVariants as fault
use Rattle.mqb_model.specs.managers.Outcomes.{succeeded}
use Rattle.mqb_model.specs.managers.Valid.{IsValidManager}
use Rattle.mqb_manager.specs.States.{manager_of}
use Rattle.mqb_session.specs.Sending.{is_spent}
use Rattle.mqb_manager.proofs.Comes.{ack_answers, none_there, some_there}
use Rattle.mqb_manager.proofs.Sent.{answer_pumped, idle_is, peer_there, quiet_pumped, sent_is, spent_is}
use Rattle.mqb_manager.proofs.manager.Manager.send_chosen.Goals as goal

pub returns-then-is_stuck : goal.returns-then-is_stuck
returns-then-is_stuck g c = let m = c.args.self.now in let k = c.args.sending.peer in
    answer_pumped (g.D.Disk.view c.args.disk.now) (c.args.disk.now ≡ c.args.disk.now) m (g.met.D.Disk.lawful c.args.disk.now) refl (pump (manager_of m) c.args.now) (Err fault.Spent) c.args.out.now.items
    c.is_valid.ensures (spent_is m c.args.session c.args.now k c.requires.linked.session (peer_there (manager_of m) k c.is_valid.ensures c.requires.peer) c.requires.comes
    (sym (ap (λ (b : Bool). is_spent c.args.session && b) c.requires.any) ∙ sym c.is_stuck.ensures ∙ c.if-is_stuck.true))
    (λ same. let none : ⊥ = cc in none)

pub send_ack-requires : goal.send_ack-requires
send_ack-requires g c = let m = c.args.self.now in let k = c.args.sending.peer in
    record {
      valid = subst (λ (o : PumpOutcome). IsValidManager (succeeded (manager_of m) o))
          (idle_is m c.args.session c.args.now k c.requires.linked.session (peer_there (manager_of m) k c.is_valid.ensures c.requires.peer) c.requires.comes
          (sym (ap (λ (b : Bool). is_spent c.args.session && b) c.requires.any) ∙ sym c.is_stuck.ensures ∙ c.if-is_stuck.false)
          (none_there (length c.args.sending.choices.choices) _ (sym c.is_idle.ensures ∙ c.if-is_idle.true) c.requires.planned.count))
          ((c.calls_can_be_written.ensures.valid (manager_of m) c.is_valid.ensures).pumps c.args.now).succeeds;
    }

pub returns-then-is_idle : goal.returns-then-is_idle
returns-then-is_idle g c = let m = c.args.self.now in let k = c.args.sending.peer in
    quiet_pumped (g.D.Disk.view c.args.disk.now) (c.args.disk.now ≡ c.args.disk.now) m (g.met.D.Disk.lawful c.args.disk.now) refl c.send_ack.new.self (pump (manager_of m) c.args.now)
    (sending_ack (manager_of m) c.args.session) c.args.out.now.items c.send_ack.new.out.items c.send_ack.result
    (idle_is m c.args.session c.args.now k c.requires.linked.session (peer_there (manager_of m) k c.is_valid.ensures c.requires.peer) c.requires.comes
    (sym (ap (λ (b : Bool). is_spent c.args.session && b) c.requires.any) ∙ sym c.is_stuck.ensures ∙ c.if-is_stuck.false)
    (none_there (length c.args.sending.choices.choices) _ (sym c.is_idle.ensures ∙ c.if-is_idle.true) c.requires.planned.count))
    (ack_answers (manager_of m) c.args.session) c.send_ack.ensures.quiet c.send_ack.ensures.sent c.send_ack.ensures.fits c.send_ack.ensures.refused

pub send_all-requires : goal.send_all-requires
send_all-requires g c = let m = c.args.self.now in let k = c.args.sending.peer in record {
  linked = c.requires.linked;
  index = c.requires.index;
  planned = c.requires.planned;
  comes = sent_is m c.args.session c.args.now k c.requires.linked.session (peer_there (manager_of m) k c.is_valid.ensures c.requires.peer) c.requires.comes
      (sym (ap (λ (b : Bool). is_spent c.args.session && b) c.requires.any) ∙ sym c.is_stuck.ensures ∙ c.if-is_stuck.false)
      (some_there (length c.args.sending.choices.choices) _ (sym c.is_idle.ensures ∙ c.if-is_idle.false) c.requires.planned.count);
}

pub returns : goal.returns
returns g c = c.send_all.ensures
