use Rattle.std.proofs.Common.{◌≡◌, ◌<◌, ◌≤◌, ◌∙◌, ℕ, List, length, max, sym, ap, subst, arith}
use Rattle.std.specs.List.{All, insert, remove}
use Rattle.mqb_base.specs.Rooms.{Room}
use Rattle.mqb_base.specs.declared.message.Message.{Message}
use Rattle.mqb_queue.specs.Levels.{level, Counted}
use Rattle.mqb_queue.specs.Passes.{ArePassed}
use Rattle.mqb_queue.proofs.Levels.{at_level_most, at_level_inserted, counted_more, all_inserted}
use Rattle.mqb_queue.proofs.Passed.{removed_again}
use Rattle.mqb_queue.proofs.messages.MessageList.insert.Goals as goal

pub count_more-requires : goal.count_more-requires
count_more-requires c =
    let k : ℕ = level c.args.message.priority in
    let within : k < 8 = omega arith in
    let there : length c.self.inside.messages.items < c.self.inside.messages.room =
    subst (λ (r : Room Message). length r.items < r.room) (sym c.self.view_is) c.requires.room in
    omega (arith, c.self.invariant.counted.counted k within, at_level_most k c.self.inside.messages.items, c.room.ensures.room, there)

pub raise-requires-clause-passed : goal.raise-requires-clause-passed
raise-requires-clause-passed c =
    let old = c.self.inside.messages.items in
    let there : c.args.at ≤ length old = subst (λ (r : Room Message). c.args.at ≤ length r.items) (sym c.self.view_is) c.requires.place in
    let items : c.as_split-messages.result ≡ insert old c.args.at c.args.message =
    c.as_split-messages.ensures.items ∙ ap (λ (r : Room Message). r.items) c.insert.ensures in
    subst (λ (ms : List Message). ArePassed c.self.inside.passes (remove ms c.args.at)) (sym items)
    (subst (λ (ms : List Message). ArePassed c.self.inside.passes ms) (sym (removed_again old c.args.at c.args.message there)) c.self.invariant.passed)

pub invariant_of-self : goal.invariant_of-self
invariant_of-self c =
    let old = c.self.inside.messages.items in
    let m = c.args.message in
    let items : c.insert.new.self.items ≡ insert old c.args.at m = ap (λ (r : Room Message). r.items) c.insert.ensures in
    let top : c.max-self-inside.result ≡ max c.self.inside.top m.priority = c.max-self-inside.ensures in
    record {
      bounded = subst (λ (ms : List Message). All (λ n. n.priority ≤ c.max-self-inside.result) ms) (sym items)
          (all_inserted c.self.inside.top c.max-self-inside.result c.args.at m old (omega (arith, top)) (omega (arith, top)) c.self.invariant.bounded);
      counted = subst (λ (ms : List Message). Counted c.count_more.new.counts ms) (sym items)
          (subst (λ (ns : List ℕ). Counted ns (insert old c.args.at m)) (sym c.count_more.ensures)
          (counted_more c.self.inside.counts old (insert old c.args.at m) (level m.priority) c.self.invariant.counted (λ k. at_level_inserted k c.args.at m old)));
      passed = subst (λ (ms : List Message). ArePassed c.raise.new.passes ms) c.as_split-messages.ensures.items c.raise.ensures;
    }
