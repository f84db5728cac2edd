use Rattle.std.proofs.Common.{ap, ◌∙◌, arith, ◌≡◌, ◌∷◌, length, List}
use Rattle.mqb_contents.proofs.Grown.{grown_trans}
use Rattle.mqb_packet.specs.declared.packet.UserPacket.{UserPacket}
use Rattle.mqb_records.proofs.Stepping.{send_step}
use Rattle.mqb_records.proofs.commit.send_all.Goals as goal

pub loop-packet-preserved : goal.loop-packet-preserved
loop-packet-preserved c =
    let are : c.loop-packet.packets.items ≡ c.in-Some.packet ∷ c.pop_front.new.self.items = c.in-Some.ensures.items in
    let count = ap (λ (ps : List UserPacket). length ps) are in
    let before = c.loop-packet.invariant.held in
    let more = c.in_ok-send.ensures.held in
    record {
      so_far = send_step c.args.now c.loop-packet.draft.effect c.send.new.draft.effect c.in-Some.packet c.pop_front.new.self.items c.loop-packet.packets.items are
          c.in_ok-send.ensures.fit c.in_ok-send.ensures.ok ∙ c.loop-packet.invariant.so_far;
      ordered = c.in_ok-send.ensures.ordered;
      start = c.send.ensures.start ∙ c.loop-packet.invariant.start;
      grown = grown_trans c.loop-packet.invariant.grown c.send.ensures.grown;
      held = omega (arith, count, before, more);
    }

pub returns-in_err-send-clause-grown : goal.returns-in_err-send-clause-grown
returns-in_err-send-clause-grown c = grown_trans c.loop-packet.invariant.grown c.send.ensures.grown
