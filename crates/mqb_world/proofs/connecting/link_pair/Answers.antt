use Rattle.mqb_world.proofs.Joined.{pair_linked}
use Rattle.mqb_world.proofs.connecting.link_pair.Goals as goal

pub returns-clause-network : goal.returns-clause-network
returns-clause-network c = pair_linked c.args.which c.args.own.now c.args.other.now c.link.new.self c.link-2.new.self c.args.traffic.now c.begin.new.self c.args.own_window c.args.other_window
    c.requires.peers c.link.ensures.left c.link-2.ensures.left c.begin.ensures
