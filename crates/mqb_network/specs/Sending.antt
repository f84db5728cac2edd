-- The events pump and flow.
use Rattle.std.specs.List.{enumerate_from, range_with_len}
use Rattle.std.specs.Option.{option_map_or}
use Rattle.std.specs.Prelude.{[], ◌++◌, ◌+◌, ◌∷◌, Err, List, None, Ok, Option, Result, Some, fold}
use Rattle.std.specs.Prelude.{if◌then◌else◌, is_some, length, ℕ}
use Rattle.mqb_base.specs.declared.ledger.Line.{Line}
use Rattle.mqb_model.specs.calls.pump.Pump.{PumpOutcome, pump}
use Rattle.mqb_model.specs.declared.faults.PumpFault.{PumpFault}
use Rattle.mqb_packet.specs.declared.packet.Packet.{Packet}
use Rattle.mqb_queue.specs.Places.{numbered}
use Rattle.mqb_network.specs.Answers.{Answer, reply_to}
use Rattle.mqb_network.specs.Choices.{Choice, Failure, choice_behind, failure_in}
use Rattle.mqb_network.specs.Courses.{Course, called, posted}
use Rattle.mqb_network.specs.Delivering.{Delivered, passed, unheard}
use Rattle.mqb_network.specs.Network.{manager_at}
use Rattle.mqb_network.specs.Replies.{Arrival}
use Rattle.mqb_network.specs.Replies as reply

-- the numbers of so many packets behind those that were sent before
abbrev pub numbers_behind : ℕ → ℕ → List ℕ
numbers_behind before count = range_with_len (before + 1) count

-- the reply to a pump
abbrev pub pumped : ℕ → Result ℕ PumpFault → List Line → reply.Reply
pumped before (Ok count) lines = reply.Pumped (numbers_behind before count)
pumped before (Err fault) lines = reply.NotPumped fault

-- a pump whose disk fails gives no packets out
abbrev pub packets_unless : PumpOutcome → Option Failure → List Packet
packets_unless outcome None = outcome.packets
packets_unless outcome (Some how) = []

-- the packets that it gives out
abbrev pub packets_out : PumpOutcome → Choice → List Packet
packets_out outcome choice = packets_unless outcome (failure_in choice outcome)

-- a manager's packets go
abbrev pub pump_by : ℕ → ℕ → PumpOutcome → Choice → Course → Answer
pump_by i now outcome choice c = record {
  reply = reply_to i outcome choice (pumped (length c.network.notes)) c;
  after = posted i now (packets_out outcome choice) (called i outcome choice c);
}

-- the event
abbrev pub pump_out : ℕ → ℕ → Choice → Course → Answer
pump_out i now choice c = pump_by i now (pump (manager_at c.network i) now) choice c

-- Flow.

-- what became of the packets so far, and what is left to choose
pub record Passing : Type 0 where
  pub arrivals : List Arrival
  pub after : Course
  pub left : Choice

-- one arrival more
abbrev pub with_arrival : ℕ → List Arrival → Delivered → Passing
with_arrival k arrivals d = record {
  arrivals = arrivals ++ record { packet = k; delivery = d.delivery } ∷ [];
  after = d.after;
  left = d.left;
}

-- one packet more is delivered
abbrev pub passed_on : ℕ → Passing → ℕ × Packet → Passing
passed_on now t given = with_arrival given.0 t.arrivals
    (option_map_or (λ note. passed note given.1 now t.left t.after)
    (numbered t.after.network.notes given.0) (unheard t.left t.after))

-- packets with their numbers are delivered in turn
abbrev pub all_passed : ℕ → Choice → Course → List (ℕ × Packet) → Passing
all_passed now choice c given =
    fold (passed_on now) (record { arrivals = []; after = c; left = choice }) given

-- the answer
abbrev pub flowed : Passing → Answer
flowed t = record { reply = reply.Flowed t.arrivals; after = t.after }

-- what was pumped is delivered
abbrev pub pumped_flows : ℕ → ℕ → PumpOutcome → Choice → Course → Answer
pumped_flows i now outcome choice c =
    flowed (all_passed now (choice_behind choice outcome) (pump_by i now outcome choice c).after
    (enumerate_from (length c.network.notes + 1) outcome.packets))

-- a pump that was refused, or failed, is the answer
abbrev pub flow_by : ℕ → ℕ → PumpOutcome → Choice → Course → Result ℕ PumpFault → Answer
flow_by i now outcome choice c (Err fault) = pump_by i now outcome choice c
flow_by i now outcome choice c (Ok count) = if is_some (failure_in choice outcome)
    then pump_by i now outcome choice c
    else pumped_flows i now outcome choice c

-- a pump flows
abbrev pub flow_with : ℕ → ℕ → PumpOutcome → Choice → Course → Answer
flow_with i now outcome choice c = flow_by i now outcome choice c outcome.answer

-- the event
abbrev pub flow : ℕ → ℕ → Choice → Course → Answer
flow i now choice c = flow_with i now (pump (manager_at c.network i) now) choice c
