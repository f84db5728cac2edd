-- How a stream of bytes is cut into frames.
use Rattle.std.specs.Prelude.{◌≡◌, ℕ, nat_le, List, ◌++◌, take, length, Result, Ok}
use Rattle.std.specs.Prelude.{Err, if◌then◌else◌}
use Rattle.std.specs.List.{flat_map, AllByRecursion}
use Rattle.mqb_fields.specs.declared.faults.HeadFault.{HeadFault}
use Rattle.mqb_fields.specs.Faults.{past_end}
use Rattle.mqb_fields.specs.Reading.{◌>>=◌}
use Rattle.mqb_heads.specs.Base.{base_of}

-- the size in the base header that the first 16 bytes are: a greater one than the limit is the
-- fault of the size field
unfoldable pub packet_size : ℕ → List ℕ → Result ℕ HeadFault
packet_size limit bytes = do
  head ← base_of (take 16 bytes)
  if nat_le head.size limit then Ok head.size else Err past_end

-- bytes that begin with a base header whose size is within the limit and is their count
abbrev pub IsFrame : ℕ → List ℕ → Type 0
IsFrame limit bytes = packet_size limit bytes ≡ Ok (length bytes)

-- the bytes of frames, one after another
abbrev pub joined : List (List ℕ) → List ℕ
joined frames = flat_map (λ frame. frame) frames

-- no frame begins these bytes
abbrev pub BeginsNoFrame : ℕ → List ℕ → Type 0
BeginsNoFrame limit bytes = (front back : List ℕ) → bytes ≡ front ++ back → IsFrame limit front → ⊥

-- bytes that are frames one after another and then a rest that no frame begins
pub record CutsInto (limit : ℕ) (bytes : List ℕ) (frames : List (List ℕ))
    (rest : List ℕ) : Type 0 where
  pub whole : bytes ≡ joined frames ++ rest
  pub each : AllByRecursion (IsFrame limit) frames
  pub end : BeginsNoFrame limit rest
