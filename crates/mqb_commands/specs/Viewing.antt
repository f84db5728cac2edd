-- How far a viewer is, between two pieces of an input.
use Rattle.std.specs.Prelude.{[], ◌+◌, ◌++◌, ◌≡◌, ◌∷◌, Err, IsOk, List, Ok, Option, Result, length}
use Rattle.std.specs.Prelude.{true, ℕ}
use Rattle.mqb_outside.specs.Faults.{Rose}
use Rattle.mqb_outside.specs.Told.{Took}
use Rattle.mqb_packet.specs.Parts.{packet_of}
use Rattle.mqb_serving.specs.declared.faults.PeerFault.TheVariants as peer
use Rattle.mqb_stream.specs.Cutting.{joined}
use Rattle.mqb_stream.specs.Framing.{Framing, next, wants_more}
use Rattle.mqb_commands.specs.Outputs.{TookFront}
use Rattle.mqb_commands.specs.declared.shown_faults.ShowFault.{ShowFault}
use Rattle.mqb_commands.specs.declared.shown_faults.ShowFault.TheVariants as fault
use Rattle.mqb_commands.specs.Cuts.{BeginsBad, IsCut, held_at}
use Rattle.mqb_commands.specs.Lines.{line_if, lines_from}

-- the line of the packet that a frame at a place is
abbrev pub frame_line : ℕ → List ℕ → List ℕ
frame_line place frame = line_if place (length frame) (packet_of frame)

-- A frame at a place was shown, or it is no packet.
abbrev pub ShowsFrame : ℕ → List ℕ → (before after : Option (List ℕ)) → Result (Unit {0}) ShowFault
    → Type 0
ShowsFrame place frame before after (Ok done) =
    IsOk (packet_of frame) × Took before after (frame_line place frame)
ShowsFrame place frame before after (Err (fault.Peer (peer.Bad at why))) =
    (at ≡ place) × (packet_of frame ≡ Err why) × (after ≡ before)
ShowsFrame place frame before after (Err fault.WriteFault) =
    IsOk (packet_of frame) × TookFront before after (frame_line place frame)
ShowsFrame place frame before after (Err fault.Memory) = after ≡ before
ShowsFrame place frame before after (Err _) = ⊥

-- From one framer to another, packets of the bytes were shown, and some bytes are unread.
pub record GoesOn (f g : Framing) (bytes unread : List ℕ)
    (before after : Option (List ℕ)) : Type 0 where
  pub packets : List (List ℕ)
  pub cut : IsCut (f.held ++ bytes) packets (g.held ++ unread)
  pub framer : g ≡ held_at (f.place + length (joined packets)) g.held
  pub wrote : Took before after (lines_from f.place packets)

-- why it stopped behind packets, and what of their lines was written
abbrev pub StopsBehind : (place : ℕ) (rest lines : List ℕ) → (before after : Option (List ℕ))
    → ShowFault → Type 0
StopsBehind place rest lines before after (fault.Peer (peer.Bad at why)) =
    (at ≡ place) × BeginsBad place rest why × Took before after lines
StopsBehind place rest lines before after fault.WriteFault = TookFront before after lines
StopsBehind place rest lines before after fault.Memory = TookFront before after lines
StopsBehind place rest lines before after _ = ⊥

-- From a framer on, packets of the bytes were shown, and then it stopped.
pub record Stops (f : Framing) (bytes : List ℕ) (before after : Option (List ℕ))
    (why : ShowFault) : Type 0 where
  pub packets : List (List ℕ)
  pub rest : List ℕ
  pub cut : IsCut (f.held ++ bytes) packets rest
  pub stops : StopsBehind (f.place + length (joined packets)) rest
      (lines_from f.place packets) before after why

-- what is said where no more bytes come: well, where no part of a packet is held
abbrev pub end_of : List ℕ → Result (Unit {0}) ShowFault
end_of [] = Ok tt
end_of (byte ∷ held) = Err (fault.Peer peer.PeerClosed)

-- a framer that wants more bytes of a packet
abbrev pub IsOpen : Framing → Type 0
IsOpen f = wants_more (next f) ≡ true

-- Bytes were shown up to where the framer wants more, or it stopped.
abbrev pub ShowsBytes : (f g : Framing) (bytes unread : List ℕ) → (before after : Option (List ℕ))
    → Result (Unit {0}) ShowFault → Type 0
ShowsBytes f g bytes unread before after (Ok done) = GoesOn f g bytes unread before after × IsOpen g
ShowsBytes f g bytes unread before after (Err why) = Stops f bytes before after why

-- a fault of the output comes only where its count of faults rose, which else stays
abbrev pub ShowCause : ℕ → ℕ → Result (Unit {0}) ShowFault → Type 0
ShowCause before after (Err fault.WriteFault) = Rose before after
ShowCause before after _ = after ≡ before
