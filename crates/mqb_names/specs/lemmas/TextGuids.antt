-- The characters that a GUID is read from are its printed form, its letters in either case.
use Rattle.std.proofs.Common.{◌≡◌, ◌<◌, ℕ, zero, suc, ◌+◌, ◌*◌, ◌/◌, ◌%◌, Bool, true, false, cond}
use Rattle.std.proofs.Common.{◌&&◌, ◌||◌, ◌==◌, ◌⊎◌, inl, inr, List, [], ◌∷◌, length, get_or}
use Rattle.std.proofs.Common.{slice_index, All, Some, None, refl, sym, ap, ◌∙◌}
use Rattle.std.proofs.Common.{arith, if◌then◌else◌}
use Rattle.std.proofs.lemmas.Bool.Decides.{nat_tests}
use Rattle.std.proofs.lemmas.List.{get_or_default}
use Rattle.std.specs.List.{list_all}
use Rattle.std.specs.Char.{to_ascii_lowercase}
use Rattle.uuid.specs.Text.{lower, hex_digit, nibble, is_hex_digit, value_of, by_index}
use Rattle.uuid.specs.Text.{byte_of_digits, hyphen, hyphen_place, digit_place, is_hyphen_place}
use Rattle.uuid.specs.Text.{digits_of, has_hyphens, parsed_hyphenated, hyphenated_text}
use Rattle.uuid.proofs.TextLemmas.{by_index_length, by_index_at, nibble_even, nibble_odd}
use Rattle.uuid.proofs.TextLemmas.{nibble_small, simple_some, hyphens_pass}
use Rattle.mqb_names.specs.Parts.{same_word}
use Rattle.mqb_names.specs.Grammar.{Word}
use Rattle.mqb_names.specs.lemmas.TextWords.{both_hold, alike, word_length}

same_letter : (b c : ℕ) → alike b c ≡ true → to_ascii_lowercase b ≡ to_ascii_lowercase c
same_letter b c e = grind (arith, nat_tests)

letter_same : (b c : ℕ) → to_ascii_lowercase b ≡ to_ascii_lowercase c → alike b c ≡ true
letter_same b c e = grind (arith, nat_tests)

word_at : (text word : List ℕ) → Word word text → (k : ℕ)
    → to_ascii_lowercase (get_or text k 0) ≡ to_ascii_lowercase (get_or word k 0)
unfolding same_word
word_at [] [] e k = refl
word_at [] (c ∷ word) e k = absurd cc
word_at (b ∷ text) [] e k = absurd cc
word_at (b ∷ text) (c ∷ word) e zero =
    same_letter b c (both_hold (alike b c) (same_word text word) e).0
word_at (b ∷ text) (c ∷ word) e (suc k) =
    word_at text word (both_hold (alike b c) (same_word text word) e).1 k

both_true : (v w : Bool) → v ≡ true → w ≡ true → (v && w) ≡ true
both_true v w e f = rw e f

word_from : (text word : List ℕ) → length text ≡ length word → ((k : ℕ) → k < length text
    → to_ascii_lowercase (get_or text k 0) ≡ to_ascii_lowercase (get_or word k 0)) → Word word text
unfolding same_word
word_from [] [] len at = refl
word_from [] (c ∷ word) len at = absurd (omega arith)
word_from (b ∷ text) [] len at = absurd (omega arith)
word_from (b ∷ text) (c ∷ word) len at =
    both_true (alike b c) (same_word text word) (letter_same b c (at 0 (omega arith)))
    (word_from text word (omega arith) (λ k within. at (suc k) (omega arith)))

-- the character at each place of the printed form
printed_at : (bytes : List ℕ) (k : ℕ) → k < 36 → get_or (hyphenated_text lower bytes) k 0
    ≡ (if is_hyphen_place k then hyphen else hex_digit lower (nibble bytes (digit_place k)))
printed_at bytes k within = by_index_at 36
    (λ j. if is_hyphen_place j then hyphen else hex_digit lower (nibble bytes (digit_place j))) k
    0 within

hyphen_alone : (b : ℕ) → to_ascii_lowercase b ≡ 45 → (b == 45) ≡ true
hyphen_alone b e = grind (arith, nat_tests)

digit_alike : (b n : ℕ) → n < 16 → to_ascii_lowercase b ≡ to_ascii_lowercase (hex_digit lower n)
    → (is_hex_digit b ≡ true) × (value_of b ≡ n)
digit_alike b n small e = (grind (arith, nat_tests), grind (arith, nat_tests))

alike_digit : (b : ℕ) → is_hex_digit b ≡ true
    → to_ascii_lowercase b ≡ to_ascii_lowercase (hex_digit lower (value_of b))
alike_digit b e = grind (arith, nat_tests)

value_small : (b : ℕ) → is_hex_digit b ≡ true → value_of b < 16
value_small b e = grind (arith, nat_tests)

no_hyphen : (i : ℕ) → i < 32 → is_hyphen_place (hyphen_place i) ≡ false
no_hyphen i within = grind (arith, nat_tests)

place_back : (i : ℕ) → i < 32 → digit_place (hyphen_place i) ≡ i
place_back i within = grind (arith, nat_tests)

place_within : (i : ℕ) → i < 32 → hyphen_place i < 36
place_within i within = grind (arith, nat_tests)

-- a text like the printed form is read
module _ (text bytes : List ℕ) (is : Word (hyphenated_text lower bytes) text) where
  hyphen_here : (k : ℕ) → k < 36 → is_hyphen_place k ≡ true → (slice_index text k == hyphen) ≡ true
  hyphen_here k within here =
      let printed : get_or (hyphenated_text lower bytes) k 0 ≡ 45 =
      printed_at bytes k within ∙ rw here refl in
      hyphen_alone (get_or text k 0)
      (word_at text (hyphenated_text lower bytes) is k ∙ ap to_ascii_lowercase printed)

  digit_here : (i : ℕ) → i < 32 → (is_hex_digit (slice_index text (hyphen_place i)) ≡ true)
      × (value_of (slice_index text (hyphen_place i)) ≡ nibble bytes i)
  digit_here i within =
      let printed : get_or (hyphenated_text lower bytes) (hyphen_place i) 0
      ≡ hex_digit lower (nibble bytes i) =
      printed_at bytes (hyphen_place i) (place_within i within)
      ∙ rw (no_hyphen i within, place_back i within) refl in
      digit_alike (get_or text (hyphen_place i) 0) (nibble bytes i) (nibble_small bytes i)
      (word_at text (hyphenated_text lower bytes) is (hyphen_place i)
      ∙ ap to_ascii_lowercase printed)

digits_at : (text : List ℕ) (i : ℕ) → i < 32
    → get_or (digits_of text) i 0 ≡ slice_index text (hyphen_place i)
digits_at text i within = by_index_at 32 (λ j. slice_index text (hyphen_place j)) i 0 within

pub guid_from_word : (text bytes : List ℕ) → length bytes ≡ 16 → All (λ b. b < 256) bytes
    → Word (hyphenated_text lower bytes) text → parsed_hyphenated text ≡ Some bytes
guid_from_word text bytes len small is =
    let long : length text ≡ 36 =
    word_length text (hyphenated_text lower bytes) is ∙ by_index_length 36 _ in
    let hyphens : has_hyphens text ≡ true =
    rw (
      hyphen_here text bytes is 8 (omega arith) refl,
      hyphen_here text bytes is 13 (omega arith) refl,
      hyphen_here text bytes is 18 (omega arith) refl,
      hyphen_here text bytes is 23 (omega arith) refl,
    ) refl in
    let hex = digits_of text in
    let digits : (k : ℕ) → k < 32 → is_hex_digit (get_or hex k 0) ≡ true =
    λ k within. rw (digits_at text k within) (digit_here text bytes is k within).0 in
    let values : (k : ℕ) → k < 32 → value_of (get_or hex k 0) ≡ nibble bytes k =
    λ k within. rw (digits_at text k within) (digit_here text bytes is k within).1 in
    let read : (i d : ℕ) → i < 16 → get_or bytes i d ≡ byte_of_digits hex i = λ i d within.
    let fits : slice_index bytes i < 256 = small i 0 (omega arith) in
    let whole : slice_index bytes i ≡ nibble bytes (2 * i) * 16 + nibble bytes (2 * i + 1) =
    rw (nibble_even bytes i, nibble_odd bytes i) (omega arith) in
    let both : byte_of_digits hex i ≡ nibble bytes (2 * i) * 16 + nibble bytes (2 * i + 1) =
    rw (values (2 * i) (omega arith), values (2 * i + 1) (omega arith)) refl in
    get_or_default bytes i d 0 (omega arith) ∙ whole ∙ sym both in
    sym (hyphens_pass text long hyphens)
    ∙ sym (simple_some hex bytes (by_index_length 32 _) len digits read)

-- a text that is read is like the printed form
parts_read : (v w : Bool) (x y : List ℕ) → cond v (cond w (Some x) None) None ≡ Some y
    → (v ≡ true) × (w ≡ true) × (x ≡ y)
parts_read true true x y e = (refl, refl, cc)
parts_read true false x y e = absurd cc
parts_read false w x y e = absurd cc

equal_from : (a b : ℕ) → (a == b) ≡ true → a ≡ b
equal_from a b e = grind (arith, nat_tests)

one_of : (v w : Bool) → (v || w) ≡ true → (v ≡ true) ⊎ (w ≡ true)
one_of true w e = inl refl
one_of false w e = inr e

each_digit : (hex : List ℕ) → list_all is_hex_digit hex ≡ true → (k : ℕ) → k < length hex
    → is_hex_digit (get_or hex k 0) ≡ true
each_digit [] all k within = absurd (omega arith)
each_digit (b ∷ hex) all zero within =
    (both_hold (is_hex_digit b) (list_all is_hex_digit hex) all).0
each_digit (b ∷ hex) all (suc k) within =
    each_digit hex (both_hold (is_hex_digit b) (list_all is_hex_digit hex) all).1 k (omega arith)

hyphen_stands : (text : List ℕ) → has_hyphens text ≡ true → (k : ℕ) → is_hyphen_place k ≡ true
    → get_or text k 0 ≡ 45
hyphen_stands text hyphens k here =
    let at = λ (j : ℕ). slice_index text j == hyphen in
    let first = both_hold (at 8 && at 13 && at 18) (at 23) hyphens in
    let second = both_hold (at 8 && at 13) (at 18) first.0 in
    let third = both_hold (at 8) (at 13) second.0 in
    let stands = λ (j : ℕ) (is : at j ≡ true) (same : (k == j) ≡ true). ap
    (λ (m : ℕ). get_or text m 0) (equal_from k j same) ∙ equal_from (get_or text j 0) 45 is in
    elim (one_of ((k == 8) || (k == 13) || (k == 18)) (k == 23) here) [
      | inl more ↦ elim (one_of ((k == 8) || (k == 13)) (k == 18) more) [
        | inl two ↦ elim (one_of (k == 8) (k == 13) two) [
          | inl is ↦ stands 8 third.0 is
          | inr is ↦ stands 13 third.1 is
        ]
        | inr is ↦ stands 18 second.1 is
      ]
      | inr is ↦ stands 23 first.1 is
    ]

nibble_of : (hex : List ℕ) → ((k : ℕ) → k < 32 → is_hex_digit (get_or hex k 0) ≡ true) → (i : ℕ)
    → i < 32 → (v : Bool) → (i % 2 == 0) ≡ v
    → nibble (by_index 16 (byte_of_digits hex)) i ≡ value_of (get_or hex i 0)
nibble_of hex digits i within true is =
    let even : i % 2 ≡ 0 = equal_from (i % 2) 0 is in
    let back : 2 * (i / 2) ≡ i = omega arith in
    let a = value_of (get_or hex (2 * (i / 2)) 0) in
    let b = value_of (get_or hex (2 * (i / 2) + 1) 0) in
    let a_small : a < 16 =
    value_small (get_or hex (2 * (i / 2)) 0) (digits (2 * (i / 2)) (omega arith)) in
    let b_small : b < 16 =
    value_small (get_or hex (2 * (i / 2) + 1) 0) (digits (2 * (i / 2) + 1) (omega arith)) in
    let byte : slice_index (by_index 16 (byte_of_digits hex)) (i / 2) ≡ a * 16 + b =
    by_index_at 16 (byte_of_digits hex) (i / 2) 0 (omega arith) in
    let high : (a * 16 + b) / 16 % 16 ≡ a = omega arith in
    rw (is, byte) (high ∙ ap (λ (k : ℕ). value_of (get_or hex k 0)) back)
nibble_of hex digits i within false is =
    let odd : i % 2 ≡ 1 = grind (arith, nat_tests) in
    let back : 2 * (i / 2) + 1 ≡ i = omega arith in
    let a = value_of (get_or hex (2 * (i / 2)) 0) in
    let b = value_of (get_or hex (2 * (i / 2) + 1) 0) in
    let b_small : b < 16 =
    value_small (get_or hex (2 * (i / 2) + 1) 0) (digits (2 * (i / 2) + 1) (omega arith)) in
    let byte : slice_index (by_index 16 (byte_of_digits hex)) (i / 2) ≡ a * 16 + b =
    by_index_at 16 (byte_of_digits hex) (i / 2) 0 (omega arith) in
    let low : (a * 16 + b) % 16 ≡ b = omega arith in
    rw (is, byte) (low ∙ ap (λ (k : ℕ). value_of (get_or hex k 0)) back)

digit_back : (k : ℕ) → k < 36 → is_hyphen_place k ≡ false
    → (hyphen_place (digit_place k) ≡ k) × (digit_place k < 32)
digit_back k within here = (grind (arith, nat_tests), grind (arith, nat_tests))

place_alike : (text bytes : List ℕ) → has_hyphens text ≡ true
    → ((k : ℕ) → k < 32 → is_hex_digit (get_or (digits_of text) k 0) ≡ true)
    → ((i : ℕ) → i < 32 → nibble bytes i ≡ value_of (get_or (digits_of text) i 0)) → (k : ℕ)
    → k < 36 → (v : Bool) → is_hyphen_place k ≡ v
    → to_ascii_lowercase (get_or text k 0)
    ≡ to_ascii_lowercase (if v then hyphen else hex_digit lower (nibble bytes (digit_place k)))
place_alike text bytes hyphens digits nibbles k within true here =
    ap to_ascii_lowercase (hyphen_stands text hyphens k here)
place_alike text bytes hyphens digits nibbles k within false here =
    let i = digit_place k in
    let place = digit_back k within here in
    let stands : get_or (digits_of text) i 0 ≡ get_or text k 0 =
    digits_at text i place.1 ∙ ap (λ (m : ℕ). get_or text m 0) place.0 in
    ap to_ascii_lowercase (sym stands)
    ∙ alike_digit (get_or (digits_of text) i 0) (digits i place.1)
    ∙ ap (λ (n : ℕ). to_ascii_lowercase (hex_digit lower n)) (sym (nibbles i place.1))

pub word_from_guid : (text bytes : List ℕ) → parsed_hyphenated text ≡ Some bytes
    → Word (hyphenated_text lower bytes) text
word_from_guid text bytes e =
    let hex = digits_of text in
    let given = parts_read ((length text == 36) && has_hyphens text)
    ((length hex == 32) && list_all is_hex_digit hex)
    (by_index 16 (byte_of_digits hex)) bytes e in
    let form = both_hold (length text == 36) (has_hyphens text) given.0 in
    let long : length text ≡ 36 = equal_from (length text) 36 form.0 in
    let same : length text ≡ length (hyphenated_text lower bytes) =
    long ∙ sym (by_index_length 36 _) in
    let all = (both_hold (length hex == 32) (list_all is_hex_digit hex) given.1).1 in
    let count : length hex ≡ 32 = by_index_length 32 _ in
    let digits : (k : ℕ) → k < 32 → is_hex_digit (get_or hex k 0) ≡ true =
    λ k within. each_digit hex all k (omega arith) in
    let nibbles : (i : ℕ) → i < 32 → nibble bytes i ≡ value_of (get_or hex i 0) = λ i within.
    ap (λ (xs : List ℕ). nibble xs i) (sym given.2)
    ∙ nibble_of hex digits i within (i % 2 == 0) refl in
    word_from text (hyphenated_text lower bytes) same
    (λ k within. let inside : k < 36 = omega arith in
    place_alike text bytes form.1 digits nibbles k inside (is_hyphen_place k) refl
    ∙ ap to_ascii_lowercase (sym (printed_at bytes k inside)))
