-- What the inspector says of the bytes of a capture.
use Rattle.std.specs.Prelude.{◌≡◌, ◌<◌, ◌≤◌, ℕ, Bool, true, false, List, [], length, take, count_by}
use Rattle.std.specs.Prelude.{Result, Ok, Err}
use Rattle.mqb_fields.specs.Reading.{Reading, rest_of}
use Rattle.mqb_capture.specs.declared.answers.BreakCause.{BreakCause}
use Rattle.mqb_capture.specs.declared.answers.BreakCause.TheVariants as cause
use Rattle.mqb_capture.specs.declared.answers.InspectFault.{InspectFault}
use Rattle.mqb_capture.specs.declared.answers.InspectFault.TheVariants as fault
use Rattle.mqb_capture.specs.declared.answers.TheConstants.{MAX_CAPTURE}
use Rattle.mqb_capture.specs.declared.answers.Verdict.{Verdict}
use Rattle.mqb_capture.specs.declared.answers.Verdict.TheVariants as verdict
use Rattle.mqb_capture.specs.Grammar.{Head, Piece, Begins, head_at, piece_at}
use Rattle.mqb_capture.specs.Events.{Event, Sent, Heard, watched}
use Rattle.mqb_capture.specs.Lawful.{AreLawful, IsLawful, NothingIsLeft}
use Rattle.mqb_capture.specs.Breaks.{BreaksAt}

abbrev pub is_sent : Event → Bool
is_sent (Sent p) = true
is_sent _ = false

abbrev pub is_heard : Event → Bool
is_heard (Heard p) = true
is_heard _ = false

-- A packet of whole pieces breaks a capture, whatever stands behind them.
pub record Breaks (bytes : List ℕ) (index : ℕ) (why : BreakCause) : Type 0 where
  pub head : Head
  pub pieces : List Piece
  pub end : Reading
  pub begins : Begins bytes head pieces end
  pub breaks : BreaksAt head (watched pieces).events index why

-- Whatever whole pieces a capture has are lawful. Behind them no piece stands,
-- which is told by a place.
pub record IsLawfulUpTo (bytes : List ℕ) (at : ℕ) : Type 0 where
  pub head : Head
  pub pieces : List Piece
  pub end : Reading
  pub begins : Begins bytes head pieces end
  pub stops : piece_at end ≡ Err at
  pub lawful : AreLawful head (watched pieces).events

-- Only a rest is left, behind so many packets.
pub record IsCut (bytes : List ℕ) (index : ℕ) : Type 0 where
  pub up_to : IsLawfulUpTo bytes (length bytes)
  pub whole : rest_of up_to.end ≡ []
  pub left : NothingIsLeft (watched up_to.pieces) → ⊥
  pub at : index ≡ length (watched up_to.pieces).events

-- Bytes are no capture, and nothing breaks it before the place where this shows: the head is none,
-- or what stands behind whole pieces is. A piece that is cut short because no more bytes are looked
-- at does not show it.
pub data IsNoCapture (bytes : List ℕ) (at : ℕ) : Type 0 where
  NoHead : head_at (record { bytes = bytes; at = 0 }) ≡ Err at → IsNoCapture bytes at
  NoPiece : (up_to : IsLawfulUpTo bytes at) → (rest_of up_to.end ≡ [] → ⊥) → at < MAX_CAPTURE
      → IsNoCapture bytes at

-- a verdict, of so many bytes as are looked at
abbrev pub SaysVerdict : List ℕ → Verdict → Type 0
SaysVerdict bytes (verdict.Lawful sent heard) = (length bytes < MAX_CAPTURE) × (l : IsLawful bytes)
    × (sent ≡ count_by is_sent (watched l.pieces).events)
    × (heard ≡ count_by is_heard (watched l.pieces).events)
SaysVerdict bytes (verdict.Broken index cause.Cut) =
    (length bytes < MAX_CAPTURE) × IsCut bytes index
SaysVerdict bytes (verdict.Broken index why) = Breaks (take MAX_CAPTURE bytes) index why

-- no verdict
abbrev pub SaysFault : List ℕ → InspectFault → Type 0
SaysFault bytes (fault.Capture at) = IsNoCapture (take MAX_CAPTURE bytes) at
SaysFault bytes fault.TooMuch =
    (MAX_CAPTURE ≤ length bytes) × IsLawfulUpTo (take MAX_CAPTURE bytes) MAX_CAPTURE
SaysFault bytes fault.ReadFault = Unit {0}
SaysFault bytes fault.Memory = Unit {0}

-- The inspector says this of bytes.
abbrev pub Says : List ℕ → Result Verdict InspectFault → Type 0
Says bytes (Ok verdict) = SaysVerdict bytes verdict
Says bytes (Err fault) = SaysFault bytes fault
