use Rattle.std.proofs.Common.{◌≡◌, false, true, rules, sym, ◌∙◌}
use Rattle.mqb_turns.proofs.Quiet.{drop_none, drop_one, dropped_so, there_so}
use Rattle.mqb_turns.specs.Sides.{side}
use Rattle.mqb_turns.proofs.links.drop_packet.Goals as goal

pub returns-then-drop_packet : goal.returns-then-drop_packet
returns-then-drop_packet c = let there : c.drop_packet.result ≡ true = search rules in λ which.
    drop_one which (side c.args.own.now c.args.other.now c.args.traffic.now) c.args.k c.drop_packet.new.self
    (there_so which c.args.own.now c.args.other.now c.args.traffic.now c.args.k ∙ sym c.drop_packet.ensures.there ∙ there)
    (dropped_so which c.args.own.now c.args.other.now c.args.traffic.now c.drop_packet.new.self c.args.k c.drop_packet.ensures.dropped)

pub returns-else-drop_packet : goal.returns-else-drop_packet
returns-else-drop_packet c = let there : c.drop_packet.result ≡ false = search rules in λ which.
    drop_none which (side c.args.own.now c.args.other.now c.args.traffic.now) c.args.k c.drop_packet.new.self
    (there_so which c.args.own.now c.args.other.now c.args.traffic.now c.args.k ∙ sym c.drop_packet.ensures.there ∙ there)
    (dropped_so which c.args.own.now c.args.other.now c.args.traffic.now c.drop_packet.new.self c.args.k c.drop_packet.ensures.dropped)
