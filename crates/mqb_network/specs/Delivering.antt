-- The events deliver and drop.
use Rattle.std.specs.Option.{option_map_or}
use Rattle.std.specs.Prelude.{Bool, Err, List, Ok, Option, Result, Some, false, if◌then◌else◌}
use Rattle.std.specs.Prelude.{is_some, true, ℕ}
use Rattle.mqb_base.specs.declared.heard.Heard.{Heard}
use Rattle.mqb_base.specs.declared.heard.Heard.TheVariants as heard
use Rattle.mqb_base.specs.declared.ledger.Line.{Line}
use Rattle.mqb_model.specs.calls.hear.Hear.{hear}
use Rattle.mqb_model.specs.calls.hear.Session.{HeardOutcome}
use Rattle.mqb_model.specs.declared.faults.HearFault.{HearFault}
use Rattle.mqb_packet.specs.declared.packet.Packet.{Packet}
use Rattle.mqb_queue.specs.Places.{numbered}
use Rattle.mqb_network.specs.Answers.{Answer, lines_at, only}
use Rattle.mqb_network.specs.Changes.{dropped, ended}
use Rattle.mqb_network.specs.Choices.{Choice, choice_behind, failure_in}
use Rattle.mqb_network.specs.Courses.{Course, called, moved}
use Rattle.mqb_network.specs.Network.{Note, is_underway, manager_at}
use Rattle.mqb_network.specs.Replies.{Delivery}
use Rattle.mqb_network.specs.Replies as reply

-- what became of a packet, and what is left to choose
pub record Delivered : Type 0 where
  pub delivery : Delivery
  pub after : Course
  pub left : Choice

-- a manager's answer says that the session is closed
abbrev pub closes : Result Heard HearFault → Bool
closes (Ok (heard.Closed cause)) = true
closes _ = false

-- a manager that is not linked hears nothing
abbrev pub heard_with : Result Heard HearFault → List Line → Delivery
heard_with (Ok answer) lines = reply.Heard answer lines
heard_with (Err fault) lines = reply.Gone

-- a packet that closes the session ends the connection
abbrev pub after_hearing : ℕ → HeardOutcome → Choice → Course → Course
after_hearing i outcome choice c = if closes outcome.answer
    then moved (ended i) (called i outcome choice c)
    else called i outcome choice c

-- a manager hears a packet
abbrev pub heard_by : ℕ → HeardOutcome → Choice → Course → Delivered
heard_by i outcome choice c = record {
  delivery = option_map_or reply.Unheard (failure_in choice outcome)
      (heard_with outcome.answer (lines_at i outcome c));
  after = after_hearing i outcome choice c;
  left = choice_behind choice outcome;
}

-- nothing is heard
abbrev pub unheard : Choice → Course → Delivered
unheard choice c = record { delivery = reply.Gone; after = c; left = choice }

-- a packet with this note is heard by its receiver, where it still can be
abbrev pub passed : Note → Packet → ℕ → Choice → Course → Delivered
passed note p now choice c = if is_underway c.network note
    then heard_by note.receiver (hear (manager_at c.network note.receiver) p now) choice c
    else unheard choice c

-- the reply to a delivery: a disk's failure is one of its own
abbrev pub delivery_reply : Delivery → reply.Reply
delivery_reply (reply.Unheard how) = reply.DiskFailed how
delivery_reply delivery = reply.Delivered delivery

-- the answer
abbrev pub delivered : Delivered → Answer
delivered d = record { reply = delivery_reply d.delivery; after = d.after }

-- a packet that has a note and says this
abbrev pub deliver_packet : Option Note → Option Packet → ℕ → Choice → Course → Answer
deliver_packet (Some note) (Some p) now choice c = delivered (passed note p now choice c)
deliver_packet _ _ now choice c = only c reply.NoPacket

-- the packet of a number, which says this
abbrev pub deliver : ℕ → Option Packet → ℕ → Choice → Course → Answer
deliver k p now choice c = deliver_packet (numbered c.network.notes k) p now choice c

-- it is dropped, where there is one
abbrev pub drop_packet : ℕ → Course → Answer
drop_packet k c = if is_some (numbered c.network.notes k)
    then record { reply = reply.Dropped; after = moved (dropped k) c }
    else only c reply.NoPacket
