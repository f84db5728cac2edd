-- What is read was read from bytes.
use Rattle.std.specs.Prelude.{◌≡◌, List, Some, ℕ}
use Rattle.mqb_entries.specs.Formats.{IsBytes}
use Rattle.mqb_entries.specs.declared.entry.Entry.{Entry}
use Rattle.mqb_packet.specs.declared.packet.UserPacket.{UserPacket}
use Rattle.mqb_model.specs.records.Carrying.{IsRead, IsRecorded}
use Rattle.mqb_model.specs.records.Reading.{record_in, user_packet_of}
use Rattle.mqb_model.specs.records.Record.{Record}
use Rattle.mqb_model.specs.Typed.{IsTyped}

-- The message of a user packet that bytes spell can be carried in a packet without further headers.
abbrev pub PacketsAreRead : Type 0
PacketsAreRead = (bytes : List ℕ) (p : UserPacket) → IsBytes bytes → user_packet_of bytes ≡ Some p
    → IsRecorded p.message

-- The record that an entry is was read.
abbrev pub EntriesAreRead : Type 0
EntriesAreRead = (entry : Entry) (r : Record) → IsTyped entry → record_in entry ≡ Some r → IsRead r
