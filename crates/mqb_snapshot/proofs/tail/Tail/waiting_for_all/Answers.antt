use Rattle.std.proofs.Common.{◌≡◌, ap, arith, length, ◌∙◌}
use Rattle.mqb_snapshot.specs.Spelled.{spelled_plain}
use Rattle.mqb_plain.specs.Lists.{messages_of}
use Rattle.mqb_snapshot.specs.Values.{AreHeld}
use Rattle.mqb_snapshot.proofs.SoFar.{more_there, of_all}
use Rattle.mqb_snapshot.proofs.Walks.{put_there}
use Rattle.mqb_snapshot.proofs.tail.Tail.waiting_for_all.Goals as goal

pub loop-k-preserved : goal.loop-k-preserved
loop-k-preserved c = record {
  put = put_there spelled_plain c.args.contents.now.lists.plain c.loop-k.k c.args.self.now.text c.loop-k.self.text c.waiting.new.self.text c.loop-k.invariant.put c.in_ok-waiting.ensures.added;
  front = c.in_ok-waiting.ensures.front ∙ c.loop-k.invariant.front;
  typed = more_there (λ p. AreHeld (messages_of p.recoverable)) c.args.contents.now.lists.plain c.loop-k.k c.loop-k.invariant.typed c.in_ok-waiting.ensures.typed;
}

pub returns-clause-typed : goal.returns-clause-typed
returns-clause-typed c =
    let test = c.loop-k-test.false in
    let peers : length c.peers.result.now ≡ length c.args.contents.now.lists.peers = ap length c.peers.ensures.peers in
    let plain = c.peers.ensures.plain in
    of_all (λ p. AreHeld (messages_of p.recoverable)) c.args.contents.now.lists.plain c.loop-k.k (omega (arith, test, peers, plain)) c.loop-k.invariant.typed
