use Rattle.std.proofs.Common.{◌≡◌, true, rules, ◌∙◌}
use Rattle.mqb_script.specs.declared.managers.Which.TheVariants.{Alpha}
use Rattle.mqb_turns.proofs.Parting.{linked_so}
use Rattle.mqb_turns.proofs.Quiet.{disconnect_one}
use Rattle.mqb_turns.specs.Sides.{side}
use Rattle.mqb_turns.proofs.links.disconnect.Goals as goal

pub returns : goal.returns
returns c = let linked : c.is_linked.result ≡ true = search rules in λ which.
    disconnect_one which (side c.args.own.now c.args.other.now c.args.traffic.now) (side c.part.new.own c.part.new.other c.part.new.traffic)
    (linked_so c.is_linked.result c.args.own.now c.args.other.now c.args.traffic.now c.is_linked.ensures.connected which Alpha ∙ linked) (c.part.ensures which)
