-- What a checkpoint writes, and what it leaves before its switch is thrown.
use Rattle.std.specs.Prelude.{◌≡◌, ◌≢◌, ℕ, ◌+◌, ◌<◌, ◌==◌, List, [], ◌∷◌, length, take, slice_index}
use Rattle.std.specs.Prelude.{Option, Some, None}
use Rattle.mqb_fields.specs.Writing.{put_at}
use Rattle.mqb_outside.specs.Images.{Torn}
use Rattle.mqb_layout.specs.Layouts.{area_size, layout_then}
use Rattle.mqb_journal.specs.Store.{Base, StandsFor}
use Rattle.mqb_journal.specs.Journals.{StandsIn}
use Rattle.mqb_layout.specs.declared.layout.Layout.{Layout}
use Rattle.mqb_layout.specs.Checkpoints.{block_for, block_place, mark_for, mark_place}
use Rattle.mqb_layout.specs.Checkpoints.{switch_place, switch_byte}

-- with this byte at the switch an image is the old store
abbrev pub KeepsOld : Option Layout → ℕ → Type 0
KeepsOld None byte = byte ≢ 2
KeepsOld (Some l) byte = (byte == 1) ≡ l.second

-- The new area lies ready behind a switch that is not thrown: whatever byte a crash leaves there,
-- the image is the old store or the new one.
pub record IsStaged (guid : List ℕ) (later : Option Layout) (old : Base) (records : List (List ℕ))
    (next : Layout) (end : ℕ) (new : Base) (image : List ℕ) : Type 0 where
  pub long : end < length image
  pub keeps : (c : List ℕ) → Torn (switch_place later) 1 image c
      → KeepsOld later (slice_index c (switch_place later)) → StandsFor guid old records c
  pub throws : (c : List ℕ) → Torn (switch_place later) 1 image c
      → (KeepsOld later (slice_index c (switch_place later)) → ⊥)
      → StandsIn guid (Some next) end new [] c

-- What the calls of a checkpoint write: the block with the new area, the mark beside it, and the
-- byte that switches over; and what stands behind the area is cut off.
abbrev pub IsRewritten : Option Layout → (end count : ℕ) → List ℕ → List ℕ → List ℕ → Type 0
IsRewritten later end count base old new =
    let size : ℕ = length base in
    let laid : List ℕ =
    put_at (put_at old (block_place later end size) (block_for later end count base))
    (mark_place later) (mark_for later end size) in
    new ≡ take ((layout_then later end size).place + area_size size)
    (put_at laid (switch_place later) (switch_byte later ∷ []))
