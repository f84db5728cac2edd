-- Each field is read as it is spelled.
use Rattle.std.proofs.Common.{◌+◌, ◌≡◌, ◌<◌, ℕ, ◌^◌, List, ◌++◌, length}
use Rattle.mqb_fields.specs.Reading.{Reading, rest_of, moved, number_of}
use Rattle.mqb_fields.specs.Writing.{bytes_of}
use Rattle.mqb_entries.specs.Formats.{IsBytes}

pub record IsWidth (width : ℕ) : Type 0 where
  pub count : (n : ℕ) → length (bytes_of width n) ≡ width
  pub back : (bytes : List ℕ) → IsBytes bytes → length bytes ≡ width
      → (number_of width bytes < 256 ^ width) × (bytes_of width (number_of width bytes) ≡ bytes)

-- the text up to a place was read
pub record Spans (r : Reading) (text : List ℕ) (after : Reading) : Type 0 where
  pub stands : rest_of r ≡ text ++ rest_of after
  pub place : after ≡ moved (length text) r
  pub bytes : IsBytes (rest_of after)
