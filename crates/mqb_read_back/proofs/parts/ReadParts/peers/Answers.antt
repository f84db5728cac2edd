use Rattle.std.proofs.Common.{◌∙◌, arith}
use Rattle.mqb_read_back.proofs.Loops.{join_more}
use Rattle.mqb_read_back.proofs.parts.ReadParts.peers.Goals as goal

pub loop-preserved : goal.loop-preserved
loop-preserved c = record {
  joined = join_more c.peer.new.self c.peer.new.cursor c.loop.invariant.joined c.loop-test.true c.in_ok-peer.ensures.joined;
  peers = omega (arith, c.in_ok-peer.ensures.peers, c.loop.invariant.peers);
  places = c.in_ok-peer.ensures.places ∙ c.loop.invariant.places;
}

pub peer-requires : goal.peer-requires
peer-requires c = omega (arith, c.loop.invariant.peers, c.loop-test.true, c.in_ok-count.ensures.within)
