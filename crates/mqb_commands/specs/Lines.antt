-- The lines of packets.
use Rattle.std.specs.Fmt.{decimal}
use Rattle.std.specs.Prelude.{[], ◌+◌, ◌++◌, ◌∷◌, Bool, Err, List, Ok, Result, codes, false, length}
use Rattle.std.specs.Prelude.{true, ℕ}
use Rattle.mqb_fields.specs.declared.faults.HeadFault.{HeadFault}
use Rattle.mqb_packet.specs.Parts.{Internal, PacketParts, User, UserParts, packet_of}
use Rattle.mqb_setup.specs.declared.internal.Internal.TheVariants as part
use Rattle.mqb_transcript.specs.Texts.{class_text, spaced}

-- how a message is delivered: by the transaction header, and else by the bit of
-- a recoverable packet
unfoldable pub delivery_text : (transaction recoverable : Bool) → List ℕ
delivery_text true recoverable = codes "transactional"
delivery_text false true = codes "recoverable"
delivery_text false false = codes "express"

-- the class and the message number of a user packet, and how it is delivered
unfoldable pub user_text : UserParts → List ℕ
user_text parts =
    codes "user " ++ class_text parts.props.class ++ spaced (decimal parts.user.number)
    ++ spaced (delivery_text parts.user.transaction parts.user.recoverable)

unfoldable pub packet_text : PacketParts → List ℕ
packet_text (User parts) = user_text parts
packet_text (Internal (part.Establish establish)) = codes "establish"
packet_text (Internal (part.Parameters parameters)) = codes "parameters"
packet_text (Internal (part.Ack head)) = codes "ack"

-- the line of a packet of a size at a place of the stream
unfoldable pub line_text : (place size : ℕ) → PacketParts → List ℕ
line_text place size parts =
    decimal place ++ spaced (decimal size) ++ spaced (packet_text parts) ++ codes "\n"

-- the line of the packet that a frame is, where it is one
abbrev pub line_if : (place size : ℕ) → Result PacketParts HeadFault → List ℕ
line_if place size (Ok parts) = line_text place size parts
line_if place size (Err why) = []

-- the lines of frames, the first of which stands at a place of the stream
abbrev pub lines_from : ℕ → List (List ℕ) → List ℕ
lines_from place [] = []
lines_from place (frame ∷ frames) =
    line_if place (length frame) (packet_of frame) ++ lines_from (place + length frame) frames
