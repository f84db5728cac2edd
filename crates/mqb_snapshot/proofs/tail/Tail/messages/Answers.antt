use Rattle.std.proofs.Common.{ℕ, ◌++◌, ap, length, sym, ◌∙◌, arith}
use Rattle.std.proofs.lemmas.Option.{get_or_from_slice_get}
use Rattle.mqb_snapshot.specs.Spelled.{spelled_message, word}
use Rattle.mqb_snapshot.specs.Values.{IsHeld}
use Rattle.mqb_snapshot.proofs.SoFar.{more, of_all}
use Rattle.mqb_snapshot.proofs.Walks.{put_more, put_all}
use Rattle.mqb_snapshot.proofs.tail.Tail.messages.Goals as goal

pub loop-index-preserved : goal.loop-index-preserved
loop-index-preserved c =
    let is = sym (get_or_from_slice_get c.args.messages.now c.loop-index.index c.at-message.result.now c.at-message.result.now c.at-message.ensures) in
    record {
      put = put_more spelled_message c.args.messages.now c.loop-index.index c.u32.new.self.text c.loop-index.self.text c.at-message.result.now c.message.new.self.text c.loop-index.invariant.put (omega (arith, c.loop-index-test.true, c.len-index-end.ensures)) is c.in_ok-message.ensures.added;
      front = c.in_ok-message.ensures.front ∙ c.loop-index.invariant.front;
      typed = more IsHeld c.args.messages.now c.loop-index.index c.at-message.result.now c.loop-index.invariant.typed (omega (arith, c.loop-index-test.true, c.len-index-end.ensures)) is c.in_ok-message.ensures.typed;
    }

pub returns : goal.returns
returns c = record {
  added = put_all spelled_message c.args.messages.now c.loop-index.index c.args.self.now.text (word (length c.args.messages.now)) c.u32.new.self.text c.loop-index.self.text (c.in_ok-u32.ensures.added ∙ ap (λ (n : ℕ). c.args.self.now.text ++ word n) c.len.ensures) c.loop-index.invariant.put (omega (arith, c.loop-index-test.false, c.len-index-end.ensures));
  front = c.loop-index.invariant.front;
  typed = record {
    few = let most = c.requires.few in omega (arith, most);
    each = of_all IsHeld c.args.messages.now c.loop-index.index (omega (arith, c.loop-index-test.false, c.len-index-end.ensures)) c.loop-index.invariant.typed;
  };
}
