use Rattle.std.proofs.Common.{length, ◌∙◌, arith, rules}
use Rattle.mqb_snapshot.specs.Spelled.{spelled_kept, word}
use Rattle.mqb_snapshot.specs.Values.{IsHeld}
use Rattle.mqb_snapshot.proofs.SoFar.{more_got, of_all}
use Rattle.mqb_snapshot.proofs.Walks.{put_got, put_all}
use Rattle.mqb_snapshot.proofs.tail.Tail.kept_list.Goals as goal

pub loop-at-preserved : goal.loop-at-preserved
loop-at-preserved c = record {
  put = put_got spelled_kept c.args.list.now.items c.loop-at.at c.u32.new.self.text c.loop-at.self.text c.get.result.now c.kept.new.self.text c.loop-at.invariant.put c.get.ensures.kept c.in_ok-kept.ensures.added;
  front = c.in_ok-kept.ensures.front ∙ c.loop-at.invariant.front;
  typed = more_got (λ k. IsHeld k.message) c.args.list.now.items c.loop-at.at c.get.result.now c.loop-at.invariant.typed c.get.ensures.kept c.in_ok-kept.ensures.typed;
}

pub returns : goal.returns
returns c = record {
  added = put_all spelled_kept c.args.list.now.items c.loop-at.at c.args.self.now.text (word (length c.args.list.now.items)) c.u32.new.self.text c.loop-at.self.text
      (rw (c.len.ensures.len) at c.in_ok-u32.ensures.added) c.loop-at.invariant.put (omega (arith, c.loop-at-test.false, c.len-at-end.ensures.len));
  front = c.loop-at.invariant.front;
  few = search rules;
  typed = of_all (λ k. IsHeld k.message) c.args.list.now.items c.loop-at.at (omega (arith, c.loop-at-test.false, c.len-at-end.ensures.len)) c.loop-at.invariant.typed;
}
