use Rattle.std.specs.Prelude.{◌≡◌, ℕ, ◌+◌, ◌-◌, List, length, take, drop, Result, Ok, Err}
use Rattle.std.specs.Prelude.{nat_lt, if◌then◌else◌}
use Rattle.byteorder.specs.Endian.{little_number}
use Rattle.mqb_fields.specs.declared.faults.Short.{Short}
use Rattle.mqb_fields.specs.Guids.{swapped}

-- a list of bytes, and the place up to which it was read
pub record Reading : Type 0 where
  pub bytes : List ℕ
  pub at : ℕ

-- what is left
abbrev pub rest_of : Reading → List ℕ
rest_of r = drop r.at r.bytes

-- some bytes on
abbrev pub moved : ℕ → Reading → Reading
moved count r = record r { at = r.at + count }

infixl 10 ◌>>=◌
abbrev pub ◌>>=◌ : {A B E : Type 0} → Result A E → (A → Result B E) → Result B E
(Ok x) >>= f = f x
(Err e) >>= f = Err e

-- the next count bytes
abbrev pub part_at : ℕ → Reading → Result (List ℕ × Reading) Short
part_at count r = if nat_lt (length r.bytes - r.at) count
    then Err (record { at = r.at })
    else Ok (take count (rest_of r), moved count r)

-- where the next count bytes end
abbrev pub after : ℕ → Reading → Result Reading Short
after count r = do
  part ← part_at count r
  Ok part.1

-- the number in the first width bytes, the lowest first
abbrev pub number_of : ℕ → List ℕ → ℕ
number_of width bytes = little_number width bytes

-- the number in the next width bytes
abbrev pub number_at : ℕ → Reading → Result (ℕ × Reading) Short
number_at width r = do
  part ← part_at width r
  Ok (number_of width part.0, part.1)

-- a GUID, in the order of its text
abbrev pub guid_at : Reading → Result (List ℕ × Reading) Short
guid_at r = do
  part ← part_at 16 r
  Ok (swapped part.0, part.1)

-- What a call that began at old and ended at new answered, seen by view, is what reading gives.
abbrev pub ReadsAs : {X Y E : Type 0} → (X → Y) → (Reading → Result (Y × Reading) E) → Reading
    → Reading → Result X E → Type 0
ReadsAs view read old new (Ok x) = read old ≡ Ok (view x, new)
ReadsAs view read old new (Err e) = read old ≡ Err e

abbrev pub Reads : {X E : Type 0} → (Reading → Result (X × Reading) E) → Reading → Reading
    → Result X E → Type 0
Reads = ReadsAs (λ x. x)

-- What a call that reads nothing answered, and where it ended, is where reading moves to.
abbrev pub Moves : {X E : Type 0} → (Reading → Result Reading E) → Reading → Reading → Result X E
    → Type 0
Moves move old new (Ok _) = move old ≡ Ok new
Moves move old new (Err e) = move old ≡ Err e
