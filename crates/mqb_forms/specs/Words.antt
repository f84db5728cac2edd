use Rattle.std.specs.Prelude.{ℕ, Bool, ◌+◌, ◌*◌, ◌-◌, ◌==◌, ◌&&◌, ◌||◌, not, nat_le, nat_lt, List}
use Rattle.std.specs.Prelude.{length, slice_index, fold, Result, Ok}
use Rattle.std.specs.List.{slice_split, list_all}
use Rattle.mqb_forms.specs.declared.faults.LineKind.{LineKind}
use Rattle.mqb_forms.specs.Faults.{only_if}

-- the fields of a word: its parts between commas
abbrev pub fields_of : List ℕ → List (List ℕ)
fields_of word = slice_split (λ b. b == 44) word

-- Numbers.

abbrev pub is_digit : ℕ → Bool
is_digit b = nat_le 48 b && nat_le b 57

-- the number that digits spell
abbrev pub value_of : List ℕ → ℕ
value_of digits = fold (λ n b. n * 10 + (b - 48)) 0 digits

-- one digit or more, without a leading zero
abbrev pub is_decimal : List ℕ → Bool
is_decimal word = list_all is_digit word
    && (length word == 1 || (nat_lt 1 (length word) && not (slice_index word 0 == 48)))

abbrev pub is_within : ℕ → ℕ → ℕ → Bool
is_within least greatest n = nat_le least n && nat_le n greatest

-- the number from least to greatest that a word spells
unfoldable pub number_in : ℕ → ℕ → List ℕ → Result ℕ LineKind
number_in least greatest word =
    only_if (is_decimal word && is_within least greatest (value_of word)) (Ok (value_of word))
