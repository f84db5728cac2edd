-- What records tell of that were read, or that a call made.
use Rattle.std.specs.Prelude.{All}
use Rattle.mqb_base.specs.declared.message.Message.{Message}
use Rattle.mqb_packet.specs.mqb_names.Values.{IsName}
use Rattle.mqb_packet.specs.declared.packet.Headers.TheVariants as headers
use Rattle.mqb_model.specs.records.Commit.{sends_of}
use Rattle.mqb_model.specs.records.Record as entry
use Rattle.mqb_model.specs.records.Record.{Part, Record}
use Rattle.mqb_model.specs.state.Valid.{IsCarried}

-- a message as a record tells of it: it can be carried in a packet without further headers
abbrev pub IsRecorded : Message → Type 0
IsRecorded m = IsCarried headers.Bare m

-- the messages of a part are
abbrev pub IsRecordedPart : Part → Type 0
IsRecordedPart (entry.Decided p) = IsRecorded p.message
IsRecordedPart (entry.Stored p) = IsRecorded p.message
IsRecordedPart _ = Unit {0}

-- The host of a peer is a name, and messages can be carried.
abbrev pub IsRead : Record → Type 0
IsRead (entry.Peer peer) = IsName peer.host
IsRead (entry.Commit now ops) = All IsRecorded (sends_of ops)
IsRead (entry.Plain now p) = IsRecorded p.message
IsRead (entry.Arrived now numbers part) = IsRecordedPart part
IsRead _ = Unit {0}
