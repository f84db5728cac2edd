use Rattle.std.proofs.Common.{◌≡◌, ℕ, suc, ◌+◌, ◌-◌, ◌++◌, max, take, sym, ap, ◌∙◌, arith, rules, inl, inr}
use Rattle.std.specs.List.{flat_map}
use Rattle.mqb_queue.specs.First.{is_free, top_priority}
use Rattle.mqb_transcript.specs.Printing.{wrote}
use Rattle.mqb_commands.specs.Messages.{message_line}
use Rattle.mqb_commands.proofs.Order.{by_priority, by_priority_in_turn}
use Rattle.mqb_commands.proofs.Putting.{all_below, all_written, next_priority}
use Rattle.mqb_commands.proofs.turns.Taking.put_by_priority.Goals as goal

pub loop-priority-preserved : goal.loop-priority-preserved
loop-priority-preserved c =
    let at = c.args.self.at in
    let now = c.args.self.now in
    let held = c.args.durable.now ++ c.args.express.now in
    let page = c.loop-priority.printer in
    let p : ℕ = c.loop-priority.priority - 1 in
    let step : suc p ≡ c.loop-priority.priority = omega arith in
    record {
      whole = next_priority at now p c.loop-priority.more c.in_ok-more.more held page c.put_lists.new.printer c.in_ok-more.ensures
          ∙ ap (λ (n : ℕ). wrote page (flat_map (message_line page.hosts now) (take c.loop-priority.more (by_priority (is_free at now) n held)))) step
          ∙ c.loop-priority.invariant.whole;
      within = omega arith;
    }

pub returns-else-more-gt0 : goal.returns-else-more-gt0
returns-else-more-gt0 c =
    let free = is_free c.args.self.at c.args.self.now in
    let held = c.args.durable.now ++ c.args.express.now in
    let none : c.loop-priority.more ≡ 0 = omega arith in
    let top : c.max-top.result ≡ max (top_priority free c.args.durable.now) (top_priority free c.args.express.now) = first_of (cc, search rules, omega arith) in
    record {
      taken = take c.args.count (by_priority free (c.max-top.result + 1) held);
      in_turn = by_priority_in_turn free c.args.count (c.max-top.result + 1) held (all_below free c.max-top.result c.args.durable.now c.args.express.now top);
      put = sym (all_written c.args.self.at c.args.self.now c.loop-priority.priority c.loop-priority.more held c.loop-priority.printer (inr none))
          ∙ c.loop-priority.invariant.whole;
    }

pub returns-after-loop-priority : goal.returns-after-loop-priority
returns-after-loop-priority c =
    let free = is_free c.args.self.at c.args.self.now in
    let held = c.args.durable.now ++ c.args.express.now in
    let none : c.loop-priority.priority ≡ 0 = omega arith in
    let top : c.max-top.result ≡ max (top_priority free c.args.durable.now) (top_priority free c.args.express.now) = first_of (cc, search rules, omega arith) in
    record {
      taken = take c.args.count (by_priority free (c.max-top.result + 1) held);
      in_turn = by_priority_in_turn free c.args.count (c.max-top.result + 1) held (all_below free c.max-top.result c.args.durable.now c.args.express.now top);
      put = sym (all_written c.args.self.at c.args.self.now c.loop-priority.priority c.loop-priority.more held c.loop-priority.printer (inl none))
          ∙ c.loop-priority.invariant.whole;
    }
