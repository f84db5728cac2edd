-- Lines, words and numbers of a text.
use Rattle.std.specs.Prelude.{ℕ, Bool, ◌+◌, ◌*◌, ◌-◌, ◌^◌, ◌==◌, ◌&&◌, not, min, nat_le, List, ◌++◌}
use Rattle.std.specs.Prelude.{length, take, drop, fold, Option, Some, None, if◌then◌else◌}
use Rattle.std.specs.Fmt.{decimal}
use Rattle.std.specs.List.{slice_split, list_all}
use Rattle.mqb_base.specs.Same.{same_bytes}

-- the parts of a text between these bytes
abbrev pub parts_by : ℕ → List ℕ → List (List ℕ)
parts_by by text = slice_split (λ b. b == by) text

-- its lines
abbrev pub lines_of : List ℕ → List (List ℕ)
lines_of text = parts_by 10 text

-- the words of a line
abbrev pub words_of : List ℕ → List (List ℕ)
words_of line = parts_by 32 line

abbrev pub is_digit : ℕ → Bool
is_digit b = nat_le 48 b && nat_le b 57

-- the number that digits spell
abbrev pub value_of : List ℕ → ℕ
value_of digits = fold (λ n b. n * 10 + (b - 48)) 0 digits

-- the number of a packet that a word spells; no picture has packets of so great a number as 2 ^ 32,
-- so none above it are told apart
unfoldable pub packet_of : List ℕ → Option ℕ
packet_of word = if list_all is_digit word && not (length word == 0)
    then Some (min (value_of word) (2 ^ 32)) else None

-- a number, and a text on each side of it
abbrev pub around : List ℕ → ℕ → List ℕ → List ℕ
around front number back = front ++ decimal number ++ back

-- what stands behind the front of a text
unfoldable pub behind : List ℕ → List ℕ → Option (List ℕ)
behind front text =
    if same_bytes (take (length front) text) front then Some (drop (length front) text) else None

-- what stands in front of the end of a text
unfoldable pub in_front_of : List ℕ → List ℕ → Option (List ℕ)
in_front_of back text =
    if same_bytes (drop (length text - length back) text) back
    then Some (take (length text - length back) text) else None
