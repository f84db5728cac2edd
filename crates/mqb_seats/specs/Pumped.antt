-- What became of the packets that a manager gave out.
use Rattle.std.specs.Prelude.{[], ◌++◌, ◌≡◌, Bool, Err, List, None, Ok, Result, Some, flat_map}
use Rattle.std.specs.Prelude.{if◌then◌else◌, map, ℕ}
use Rattle.mqb_outside.specs.Disk.{View}
use Rattle.mqb_model.specs.calls.pump.Pump.{PumpOutcome}
use Rattle.mqb_model.specs.declared.faults.PumpFault.{PumpFault}
use Rattle.mqb_model.specs.declared.faults.PumpFault.TheVariants as fault
use Rattle.mqb_model.specs.managers.Outcomes.{answering, lines_after}
use Rattle.mqb_moves.specs.Moves.{IsMove}
use Rattle.mqb_moves.specs.Seats.{SeatState, seated}
use Rattle.mqb_packet.specs.Plain.{plain_spelling}
use Rattle.mqb_packet.specs.declared.packet.Packet.{Packet}
use Rattle.mqb_posts.specs.Packets.{AreWritable}
use Rattle.mqb_posts.specs.Posting.{HasFront, IsCutOff, IsWithin}
use Rattle.mqb_posts.specs.declared.faults.PostFault.{PostFault}
use Rattle.mqb_posts.specs.declared.faults.PostFault.TheVariants as post
use Rattle.mqb_replies.specs.declared.faults.AnswerFault.{AnswerFault}
use Rattle.mqb_replies.specs.declared.faults.AnswerFault.TheVariants.{DiskFault, Memory}
use Rattle.mqb_transcript.specs.declared.replies.Reply.{Reply}
use Rattle.mqb_transcript.specs.declared.replies.Reply.TheVariants as reply
use Rattle.mqb_seats.specs.Called.{failure_of, how_by}
use Rattle.mqb_seats.specs.declared.packets.Pumped.{Pumped}
use Rattle.mqb_seats.specs.declared.packets.Pumped.TheVariants.{Broke, Refused, Went}

-- why no packets go
abbrev pub pump_fault_reply : PumpFault → Result Reply AnswerFault
pump_fault_reply fault.Down = Ok reply.Down
pump_fault_reply fault.NotLinked = Ok reply.Unlinked
pump_fault_reply fault.Spent = Ok reply.Spent
pump_fault_reply fault.Memory = Err Memory
pump_fault_reply fault.DiskFault = Err DiskFault

-- A pump is refused for this, and changes nothing; it is told so.
pub record IsRefused (s : SeatState) (o : PumpOutcome) (given : Reply) : Type 0 where
  pub why : PumpFault
  pub unchanged : o ≡ answering (seated s) (Err why)
  pub told : pump_fault_reply why ≡ Ok given

-- So many packets went, with the lines of a record; or the pump was refused; or
-- the disk failed in it.
abbrev pub IsPumped : View → View → Bool → SeatState → SeatState → PumpOutcome → Pumped → Type 0
IsPumped d e stopped s t o (Went count recorded) = IsMove d e s t o None × (o.answer ≡ Ok count)
    × ((if recorded then t.manager.store.lines else []) ≡ lines_after (seated s) o)
IsPumped d e stopped s t o (Refused given) = IsMove d e s t o None × IsRefused s o given
IsPumped d e stopped s t o (Broke how) =
    IsMove d e s t o (Some (failure_of how)) × (how ≡ how_by stopped)

-- what a manager answers to a pump, told so
abbrev pub TellsPumped : Bool → Result ℕ PumpFault → Bool → Pumped → Type 0
TellsPumped stopped r recorded (Went count told) = (r ≡ Ok count) × (told ≡ recorded)
TellsPumped stopped r recorded (Refused given) =
    (why : PumpFault) × (r ≡ Err why) × (pump_fault_reply why ≡ Ok given)
TellsPumped stopped r recorded (Broke how) = (r ≡ Err fault.DiskFault) × (how ≡ how_by stopped)

-- the packets that went
abbrev pub packets_by : PumpOutcome → Pumped → List Packet
packets_by o (Went count recorded) = o.packets
packets_by o _ = []

-- bytes are their plain spellings, one behind the other
pub record SpellPumped (o : PumpOutcome) (bytes : List ℕ) (pumped : Pumped) : Type 0 where
  pub writable : AreWritable (packets_by o pumped)
  pub are : bytes ≡ flat_map plain_spelling (packets_by o pumped)

-- Each packet that went is a string of the medium now; or one of those that were to go would not
-- fit it, which has those before it; or memory ran out.
abbrev pub ArePosted : (strings strings_now : List (List ℕ)) → PumpOutcome → Result Pumped PostFault
    → Type 0
ArePosted strings strings_now o (Ok pumped) =
    (strings_now ≡ strings ++ map plain_spelling (packets_by o pumped)) × IsWithin strings_now
    × AreWritable (packets_by o pumped)
ArePosted strings strings_now o (Err post.NetFull) =
    IsCutOff strings strings_now (map plain_spelling o.packets)
ArePosted strings strings_now o (Err post.Memory) =
    HasFront strings strings_now (map plain_spelling o.packets)
