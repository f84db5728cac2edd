use Rattle.std.proofs.Common.{length, ◌∙◌, arith}
use Rattle.mqb_snapshot.specs.Spelled.{spelled_identity, word}
use Rattle.mqb_snapshot.specs.Values.{IsIdentity}
use Rattle.mqb_snapshot.proofs.SoFar.{more, of_all}
use Rattle.mqb_snapshot.proofs.Walks.{put_more, put_all}
use Rattle.mqb_snapshot.proofs.tail.Tail.identities.Goals as goal

pub loop-identity-preserved : goal.loop-identity-preserved
loop-identity-preserved c = record {
  put = put_more spelled_identity c.args.identities.now c.loop-identity.identity-index c.u32.new.self.text c.loop-identity.self.text c.identity-item.result c.identity.new.self.text c.loop-identity.invariant.put c.loop-identity-test.true c.identity-item.is c.in_ok-identity.ensures.added;
  front = c.in_ok-identity.ensures.front ∙ c.loop-identity.invariant.front;
  typed = more IsIdentity c.args.identities.now c.loop-identity.identity-index c.identity-item.result c.loop-identity.invariant.typed c.loop-identity-test.true c.identity-item.is c.in_ok-identity.ensures.typed;
}

pub returns : goal.returns
returns c = record {
  added = put_all spelled_identity c.args.identities.now c.loop-identity.identity-index c.args.self.now.text (word (length c.args.identities.now)) c.u32.new.self.text c.loop-identity.self.text c.in_ok-u32.ensures.added c.loop-identity.invariant.put (omega (arith, c.loop-identity-test.false));
  front = c.loop-identity.invariant.front;
  typed = of_all IsIdentity c.args.identities.now c.loop-identity.identity-index (omega (arith, c.loop-identity-test.false)) c.loop-identity.invariant.typed;
}
