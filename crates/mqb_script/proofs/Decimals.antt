-- A number's text is read back as the number.
use Rattle.std.proofs.Common.{◌≡◌, ℕ, ◌+◌, ◌-◌, ◌*◌, ◌/◌, ◌%◌, ◌^◌, ◌<◌, ◌≤◌, true, List, [], ◌∷◌, ◌++◌, length, get_or, Ok, ap, arith}
use Rattle.std.specs.List.{list_all}
use Rattle.std.specs.Fmt.{decimal}
use Rattle.std.proofs.lemmas.Fmt.{decimal_by_steps, decimal_digit, decimal_nonempty, first_decimal}
use Rattle.std.proofs.lemmas.List.Folds.{list_all-append}
use Rattle.std.proofs.lemmas.List.Sums.{fold-append}
use Rattle.std.proofs.lemmas.Bool.Decides.{nat_tests}
use Rattle.mqb_forms.specs.Words.{is_digit, value_of, is_decimal, number_in}
use Rattle.mqb_forms.specs.Values.{MOST}

-- digits, and the number that they spell
pub record Spells (n : ℕ) (digits : List ℕ) : Type 0 where
  pub digit : list_all is_digit digits ≡ true
  pub value : value_of digits ≡ n

one_digit : (n : ℕ) → n < 10 → Spells n ((48 + n) ∷ [])
one_digit n small = record { digit = grind (arith, nat_tests); value = grind arith }

more_digits : (n : ℕ) (front : List ℕ) → 10 ≤ n → Spells (n / 10) front → Spells n (front ++ (48 + n % 10) ∷ [])
more_digits n front large spells = record {
  digit = rw (list_all-append is_digit front ((48 + n % 10) ∷ []), spells.digit) (grind (arith, nat_tests));
  value = rw (fold-append (λ v b. v * 10 + (b - 48)) 0 front ((48 + n % 10) ∷ []), spells.value) (omega arith);
}

pub decimal_spells : (n : ℕ) → n < 2 ^ 64 → Spells n (decimal n)
decimal_spells = decimal_by_steps Spells one_digit more_digits

decimal_form : (digits : List ℕ) (n : ℕ) → list_all is_digit digits ≡ true → 0 < length digits → (0 < n → 48 < get_or digits 0 0)
    → (n ≡ 0 → length digits ≡ 1)
    → is_decimal digits ≡ true
decimal_form digits n all some first zero = rw all (grind (arith, nat_tests))

pub is_decimal_of : (n : ℕ) → n < 2 ^ 64 → is_decimal (decimal n) ≡ true
is_decimal_of n small =
    decimal_form (decimal n) n (decimal_spells n small).digit (decimal_nonempty n small) (λ above. first_decimal n above small)
    (λ none. ap length (decimal_digit n (omega arith)))

-- a word that spells a number in the range
in_range : (least greatest n : ℕ) (word : List ℕ) → is_decimal word ≡ true → value_of word ≡ n → least ≤ n → n ≤ greatest
    → number_in least greatest word ≡ Ok n
unfolding number_in
in_range least greatest n word form value low high = rw (form, value) (grind (arith, nat_tests))

pub number_up_to : (least greatest n : ℕ) → least ≤ n → n ≤ greatest → greatest ≤ MOST → number_in least greatest (decimal n) ≡ Ok n
number_up_to least greatest n low high most =
    let small : n < 2 ^ 64 = omega arith in
    in_range least greatest n (decimal n) (is_decimal_of n small) (decimal_spells n small).value low high

pub number_back : (least n : ℕ) → least ≤ n → n ≤ MOST → number_in least MOST (decimal n) ≡ Ok n
number_back least n low high = number_up_to least MOST n low high (omega arith)
