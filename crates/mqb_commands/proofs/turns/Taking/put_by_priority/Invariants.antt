use Rattle.std.proofs.Common.{◌≡◌, ℕ, ◌+◌, ◌++◌, ◌≤◌, take}
use Rattle.std.specs.List.{flat_map}
use Rattle.mqb_commands.specs.Messages.{message_line}
use Rattle.mqb_queue.specs.First.{is_free}
use Rattle.mqb_transcript.specs.Printing.{wrote}
use Rattle.mqb_commands.proofs.Order.{by_priority}
use Rattle.mqb_commands.proofs.turns.Taking.put_by_priority.Given as goal

abbrev pub invariant-loop-priority : goal.invariant-loop-priority
invariant-loop-priority l =
    let order = λ (n : ℕ). by_priority (is_free l.self.at l.self.now) n (l.durable ++ l.express) in
    record {
      -- with the lines that are left the text is whole
      whole : wrote l.printer (flat_map (message_line l.printer.hosts l.self.now) (take l.more (order l.priority)))
          ≡ wrote l.initial.printer (flat_map (message_line l.initial.printer.hosts l.self.now) (take l.count (order (l.top + 1))));
      within : l.priority ≤ l.top + 1;
    }

abbrev pub decreases-loop-priority : goal.decreases-loop-priority
decreases-loop-priority l = l.priority
