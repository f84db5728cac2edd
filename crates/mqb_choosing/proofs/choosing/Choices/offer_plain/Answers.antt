use Rattle.std.proofs.Common.{◌≡◌, ◌<◌, ℕ, List, Option, drop, length, map, ap, subst, sym, ◌∙◌, arith}
use Rattle.std.proofs.lemmas.Bool.Decides.{nat_tests}
use Rattle.std.specs.Prelude.{IsSomeAnd}
use Rattle.mqb_base.specs.declared.message.Message.{Message}
use Rattle.mqb_plain.specs.Lists.{messages_of}
use Rattle.mqb_plain.specs.Plain.{PlainLists, outgoing_in}
use Rattle.mqb_choosing.specs.Choices.{origin_in}
use Rattle.mqb_choosing.specs.Going.{unsent_in}
use Rattle.mqb_choosing.proofs.Left.{AreLeft, left_begins, left_same}
use Rattle.mqb_choosing.proofs.Waiting.{plain_in, plain_offered, plain_ready, unsent_is}
use Rattle.mqb_choosing.proofs.choosing.Choices.offer_plain.Goals as goal

pub loop-index-init : goal.loop-index-init
loop-index-init c =
    let s = c.args.contents.now.lists in
    let p : PlainLists = c.plain-plain.result.now.lists in
    let ms : List Message = messages_of (outgoing_in c.args.lane p) in
    let from : length c.marks-index.result.now ≡ _ = ap length c.marks-index.ensures in
    let same : unsent_in c.args.lane p ≡ map (plain_in c.args.lane) (drop (length c.marks-index.result.now) ms) =
    unsent_is (origin_in c.args.lane) (outgoing_in c.args.lane p) c.messages_in-index-end.ensures.in_order
    ∙ ap (λ (n : ℕ). map (plain_in c.args.lane) (drop n ms)) (sym from) in
    record {
      left = subst (λ (o : Option PlainLists). IsSomeAnd o (λ p. AreLeft s c.args.self.now c.args.self.now
          (map (plain_in c.args.lane) (drop (length c.marks-index.result.now) (messages_of (outgoing_in c.args.lane p)))) (unsent_in c.args.lane p))) (sym c.plain-plain.ensures)
          (left_same s c.args.self.now c.args.self.now (unsent_in c.args.lane p) (map (plain_in c.args.lane) (drop (length c.marks-index.result.now) ms)) (unsent_in c.args.lane p) same
          (left_begins s c.args.self.now (unsent_in c.args.lane p)));
    }

pub offer-requires : goal.offer-requires
offer-requires c =
    let p : PlainLists = c.plain-plain.result.now.lists in
    let within : c.loop-index.index < length (messages_of (outgoing_in c.args.lane p)) =
    grind (arith, nat_tests, c.loop-index-test.true, ap length c.messages_in-index-end.ensures.messages) in
    plain_ready c.args.contents.now.lists c.args.peer c.args.lane c.loop-index.index p c.requires.sendable c.plain-plain.ensures within

pub loop-index-preserved : goal.loop-index-preserved
loop-index-preserved c = record {
  left = plain_offered c.args.contents.now.lists c.args.self.now c.loop-index.self c.offer.new.self c.args.peer c.args.lane c.loop-index.index
      c.plain-plain.result.now.lists c.plain-plain.ensures c.in_ok-offer.ensures c.loop-index.invariant.left;
}
