use Rattle.std.proofs.Common.{◌≡◌, ◌<◌, ◌≤◌, ◌∙◌, ℕ, List, length, sym, ap, subst}
use Rattle.std.specs.List.{All, remove}
use Rattle.mqb_base.specs.Rooms.{Room}
use Rattle.mqb_base.specs.declared.message.Message.{Message}
use Rattle.mqb_queue.specs.Levels.{level, Counted}
use Rattle.mqb_queue.specs.Passes.{ArePassed}
use Rattle.mqb_queue.specs.declared.passes.Pass.{Pass}
use Rattle.mqb_queue.proofs.Levels.{at_level_removed, counted_less, counted_there}
use Rattle.mqb_queue.proofs.Passed.{passes_removed}
use Rattle.mqb_queue.proofs.Positions.{all_left}
use Rattle.mqb_queue.proofs.messages.MessageList.remove.Goals as goal

pub count_less-requires : goal.count_less-requires
count_less-requires c =
    counted_there c.self.inside.counts c.self.inside.messages.items c.args.at c.remove-message.result c.self.invariant.counted c.remove-message.ensures.removed

pub go_on-requires-clause-counted : goal.go_on-requires-clause-counted
go_on-requires-clause-counted c =
    let old = c.self.inside.messages.items in
    let m = c.remove-message.result in
    let items : c.as_split-messages.result ≡ remove old c.args.at = c.as_split-messages.ensures.items ∙ ap (λ (r : Room Message). r.items) c.remove-message.ensures.rest in
    subst (λ (ms : List Message). Counted c.count_less.new.counts ms) (sym items)
    (subst (λ (ns : List ℕ). Counted ns (remove old c.args.at)) (sym c.count_less.ensures)
    (counted_less c.self.inside.counts old (remove old c.args.at) (level m.priority) c.self.invariant.counted
    (λ k. at_level_removed k c.args.at m old c.remove-message.ensures.removed)))

pub go_on-requires-clause-passed : goal.go_on-requires-clause-passed
go_on-requires-clause-passed c =
    let old = c.self.inside.messages.items in
    let items : c.as_split-messages.result ≡ remove old c.args.at = c.as_split-messages.ensures.items ∙ ap (λ (r : Room Message). r.items) c.remove-message.ensures.rest in
    let there : c.args.at < length old = subst (λ (r : Room Message). c.args.at < length r.items) (sym c.self.view_is) c.requires in
    subst (λ (ms : List Message). ArePassed c.shift.new.passes ms) (sym items)
    (subst (λ (ps : List Pass). ArePassed ps (remove old c.args.at)) (sym c.shift.ensures)
    (passes_removed c.self.inside.passes c.args.at old there c.self.invariant.passed))

pub invariant_of-self : goal.invariant_of-self
invariant_of-self c =
    let old = c.self.inside.messages.items in
    let m = c.remove-message.result in
    let items : c.remove-message.new.self.items ≡ remove old c.args.at = ap (λ (r : Room Message). r.items) c.remove-message.ensures.rest in
    record {
      bounded = subst (λ (ms : List Message). All (λ n. n.priority ≤ c.self.inside.top) ms) (sym items)
          (all_left (λ n. n.priority ≤ c.self.inside.top) old c.args.at c.self.invariant.bounded);
      counted = subst (λ (ms : List Message). Counted c.count_less.new.counts ms) (sym items)
          (subst (λ (ns : List ℕ). Counted ns (remove old c.args.at)) (sym c.count_less.ensures)
          (counted_less c.self.inside.counts old (remove old c.args.at) (level m.priority) c.self.invariant.counted
          (λ k. at_level_removed k c.args.at m old c.remove-message.ensures.removed)));
      passed = subst (λ (ms : List Message). ArePassed c.go_on.new.passes ms) c.as_split-messages.ensures.items c.go_on.ensures;
    }
