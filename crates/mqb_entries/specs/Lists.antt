-- Members of one form, one behind the other.
use Rattle.std.specs.Prelude.{◌≡◌, ℕ, zero, suc, ◌&&◌, ◌==◌, nat_le, List, [], ◌∷◌, length, Option}
use Rattle.std.specs.Prelude.{Some, None, Result, Ok, Err, if◌then◌else◌}
use Rattle.std.specs.List.{flat_map, AllByRecursion}
use Rattle.mqb_fields.specs.Reading.{◌>>=◌, Reading, rest_of, number_at}
use Rattle.mqb_entries.specs.declared.faults.EntryFault.{EntryFault}
use Rattle.mqb_entries.specs.Fields.{field, outside}

-- so many members
abbrev pub many : {X : Type 0} → (Reading → Result (X × Reading) EntryFault) → ℕ → Reading
    → Result (List X × Reading) EntryFault
many member zero r = Ok ([], r)
many member (suc n) r = do
  first ← member r
  others ← many member n first.1
  Ok (first.0 ∷ others.0, others.1)

-- where so many members end
unfoldable pub passed : {X : Type 0} → (Reading → Result (X × Reading) EntryFault) → ℕ → Reading
    → Result Reading EntryFault
passed member n r = do
  members ← many member n r
  Ok members.1

-- a count, a number of this width from low to high
unfoldable pub count_at : ℕ → ℕ → ℕ → Reading → Result (ℕ × Reading) EntryFault
count_at width low high r = do
  count ← field r (number_at width r)
  if nat_le low count.0 && nat_le count.0 high then Ok count else outside r

abbrev pub start : List ℕ → Reading
start bytes = record { bytes = bytes; at = 0 }

-- what was read, where nothing is left
abbrev pub whole : {X : Type 0} → Result (List X × Reading) EntryFault → Option (List X)
whole (Ok members) = if length (rest_of members.1) == 0 then Some members.0 else None
whole (Err _) = None

-- the members that bytes spell, all of the bytes
unfoldable pub members_of : {X : Type 0} → (Reading → Result (X × Reading) EntryFault) → ℕ → List ℕ
    → Option (List X)
members_of member n bytes = whole (many member n (start bytes))

-- these bytes are so many members, spelled one behind the other
pub record AreSpelled {X : Type 0} (spell : X → List ℕ) (Fits : X → Type 0) (n : ℕ) (bytes : List ℕ)
    (members : List X) : Type 0 where
  pub text : bytes ≡ flat_map spell members
  pub count : length members ≡ n
  pub each : AllByRecursion Fits members
