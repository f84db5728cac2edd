-- Flags are read letter by letter.
use Rattle.std.proofs.Common.{◌≡◌, ◌≢◌, ℕ, ◌+◌, ◌^◌, ◌<◌, ◌≤◌, Bool, true, false, ◌==◌, ◌||◌, not, nat_lt, nat_le, if◌then◌else◌, List, [], ◌∷◌, ◌++◌, length, drop, Option, Some, None, find, position, ok_or, codes, slice_index, Result, Ok, Err, refl, sym, ap, ◌∙◌, append_assoc, append-nil, arith}
use Rattle.std.specs.List.{range_with_len, list_all}
use Rattle.std.specs.Option.{option_map}
use Rattle.std.proofs.lemmas.Bool.{eqb-true}
use Rattle.std.proofs.lemmas.Bool.Decides.{nat_tests}
use Rattle.std.proofs.lemmas.List.{at_drop_more, drop_all}
use Rattle.std.proofs.lemmas.List.Quantifiers.{position-Some}
use Rattle.mqb_base.specs.Same.{same_bytes}
use Rattle.mqb_fields.specs.Reading.{◌>>=◌}
use Rattle.mqb_forms.specs.declared.faults.LineKind.{LineKind}
use Rattle.mqb_forms.specs.declared.faults.LineKind.TheVariants.{Value}
use Rattle.mqb_forms.specs.Sends.{flag_letters, flag_bit, letters_of, flags_text, flags_of, is_body_byte}
use Rattle.mqb_forms.proofs.Tests.{same_is, all_below, below_at, found_within}

-- the flags of letters behind others, each letter's bit greater than the flags before it
abbrev pub flags_from : ℕ → List ℕ → Result ℕ LineKind
flags_from flags [] = Ok flags
flags_from flags (letter ∷ letters) = do
  bit ← flag_bit letter
  if nat_lt flags bit then flags_from (flags + bit) letters else Err Value

-- Facts about the 64 flags, by computing.

abbrev is_number : Result ℕ LineKind → ℕ → Bool
is_number (Ok m) n = m == n
is_number (Err kind) n = false

number_is : (r : Result ℕ LineKind) (n : ℕ) → is_number r n ≡ true → r ≡ Ok n
number_is (Ok m) n h = ap Ok (eqb-true m n h)
number_is (Err kind) n h = cc

abbrev is_spelled : ℕ → Bool
is_spelled n = is_number (flags_from 0 (letters_of n)) n

all_spelled : all_below 64 is_spelled ≡ true
all_spelled = refl

abbrev is_told : ℕ → Bool
is_told n = is_number (flags_of (flags_text n)) n

all_told : all_below 64 is_told ≡ true
unfolding flags_of
all_told = refl

abbrev grows : ℕ → ℕ → Bool
grows place flags = not (nat_lt flags (2 ^ place))
    || same_bytes (letters_of (flags + 2 ^ place)) (letters_of flags ++ slice_index flag_letters place ∷ [])

all_grow : all_below 6 (λ place. all_below 64 (grows place)) ≡ true
all_grow = refl

all_small : all_below 6 (λ place. nat_le (2 ^ place) 32) ≡ true
all_small = refl

-- Letters and bits.

pub record IsFlag (letter bit : ℕ) : Type 0 where
  pub place : ℕ
  pub within : place < 6
  pub letter_is : slice_index flag_letters place ≡ letter
  pub bit_is : 2 ^ place ≡ bit

flag_at : (letter bit : ℕ) (o : Option ℕ) → position (λ l. l == letter) flag_letters ≡ o
    → ok_or (option_map (λ place. 2 ^ place) o) Value ≡ Ok bit → IsFlag letter bit
flag_at letter bit None e h = cc
flag_at letter bit (Some place) e h =
    let f = position-Some (λ l. l == letter) flag_letters place 0 e in
    record { place = place; within = f.0; letter_is = eqb-true (slice_index flag_letters place) letter f.1; bit_is = cc }

pub flag_of : (letter bit : ℕ) → flag_bit letter ≡ Ok bit → IsFlag letter bit
flag_of letter bit h = flag_at letter bit (position (λ l. l == letter) flag_letters) refl h

no_flag : (o : Option ℕ) (kind : LineKind) → ok_or (option_map (λ place. 2 ^ place) o) Value ≡ Err kind → kind ≡ Value
no_flag None kind h = cc
no_flag (Some place) kind h = cc

pub no_flag_bit : (letter : ℕ) (kind : LineKind) → flag_bit letter ≡ Err kind → kind ≡ Value
no_flag_bit letter kind h = no_flag (position (λ l. l == letter) flag_letters) kind h

small_power : (place : ℕ) → place < 6 → 2 ^ place ≤ 32
small_power place within =
    let test : nat_le (2 ^ place) 32 ≡ true = below_at 6 (λ p. nat_le (2 ^ p) 32) place all_small within in grind (arith, nat_tests)

pub small_bit : (letter bit : ℕ) → flag_bit letter ≡ Ok bit → bit ≤ 32
small_bit letter bit h = let f = flag_of letter bit h in rw (← f.bit_is) (small_power f.place f.within)

or_so : (a b : Bool) → (not a || b) ≡ true → a ≡ true → b ≡ true
or_so true b h is = h
or_so false b h is = cc

power_grows : (place flags : ℕ) → place < 6 → flags < 64 → nat_lt flags (2 ^ place) ≡ true
    → letters_of (flags + 2 ^ place) ≡ letters_of flags ++ slice_index flag_letters place ∷ []
power_grows place flags within few above =
    same_is (letters_of (flags + 2 ^ place)) (letters_of flags ++ slice_index flag_letters place ∷ [])
    (or_so (nat_lt flags (2 ^ place)) _ (below_at 64 (grows place) flags (below_at 6 (λ p. all_below 64 (grows p)) place all_grow within) few) above)

letter_grows : (letter bit flags : ℕ) → flag_bit letter ≡ Ok bit → flags < 64 → nat_lt flags bit ≡ true
    → letters_of (flags + bit) ≡ letters_of flags ++ letter ∷ []
letter_grows letter bit flags h few above =
    let f = flag_of letter bit h in
    let grown = power_grows f.place flags f.within few (rw f.bit_is above) in
    rw (f.letter_is, f.bit_is) at grown

-- Letters that are read are the letters of the flags.

pub record IsSpelledFrom (from : ℕ) (letters : List ℕ) (flags : ℕ) : Type 0 where
  pub spelled : letters_of from ++ letters ≡ letters_of flags
  pub few : flags < 64
  pub more : from ≤ flags

spelled_on : (from bit flags letter : ℕ) (letters : List ℕ) → flag_bit letter ≡ Ok bit → from < 64 → nat_lt from bit ≡ true
    → IsSpelledFrom (from + bit) letters flags → IsSpelledFrom from (letter ∷ letters) flags
spelled_on from bit flags letter letters h few above later = record {
  spelled = sym (append_assoc (letters_of from) (letter ∷ []) letters) ∙ ap (λ front. front ++ letters) (sym (letter_grows letter bit from h few above))
      ∙ later.spelled;
  few = later.few;
  more = let m : from + bit ≤ flags = later.more in omega arith;
}

spelled_test : (from bit flags letter : ℕ) (letters : List ℕ) (above : Bool) → flag_bit letter ≡ Ok bit → from < 64 → nat_lt from bit ≡ above
    → (if above then flags_from (from + bit) letters else Err Value) ≡ Ok flags
    → (from + bit < 64 → flags_from (from + bit) letters ≡ Ok flags → IsSpelledFrom (from + bit) letters flags)
    → IsSpelledFrom from (letter ∷ letters) flags
spelled_test from bit flags letter letters true h few above read later =
    let small : bit ≤ 32 = small_bit letter bit h in
    let below : from < bit = grind (arith, nat_tests) in
    spelled_on from bit flags letter letters h few above (later (omega arith) read)
spelled_test from bit flags letter letters false h few above read later = cc

spelled_step : (from flags letter : ℕ) (letters : List ℕ) (r : Result ℕ LineKind) → flag_bit letter ≡ r → from < 64
    → (r >>= λ bit. if nat_lt from bit then flags_from (from + bit) letters else Err Value) ≡ Ok flags
    → ((bit : ℕ) → from + bit < 64 → flags_from (from + bit) letters ≡ Ok flags → IsSpelledFrom (from + bit) letters flags)
    → IsSpelledFrom from (letter ∷ letters) flags
spelled_step from flags letter letters (Ok bit) h few read later =
    spelled_test from bit flags letter letters (nat_lt from bit) h few refl read (later bit)
spelled_step from flags letter letters (Err kind) h few read later = cc

pub spelled_from : (from : ℕ) (letters : List ℕ) (flags : ℕ) → from < 64 → flags_from from letters ≡ Ok flags → IsSpelledFrom from letters flags
spelled_from from [] flags few read =
    let is : from ≡ flags = cc in record { spelled = append-nil (letters_of from) ∙ ap letters_of is; few = omega arith; more = omega arith }
spelled_from from (letter ∷ letters) flags few read =
    spelled_step from flags letter letters (flag_bit letter) refl few read (λ bit small more. spelled_from (from + bit) letters flags small more)

-- What a whole word says.

not_zero_text : (flags : ℕ) (zero : Bool) → (flags == 0) ≡ zero → zero ≡ false → flags_text flags ≡ letters_of flags
not_zero_text flags zero e is = rw (e ∙ is) refl

pub flags_read : (word : List ℕ) (flags : ℕ) → flags_from 0 word ≡ Ok flags → flags ≢ 0 → flags_of word ≡ Ok flags
flags_read word flags read some =
    let s = spelled_from 0 word flags (omega arith) read in
    let text : flags_text flags ≡ letters_of flags = not_zero_text flags (flags == 0) refl (grind (arith, nat_tests)) in
    let is : word ≡ flags_text flags = s.spelled ∙ sym text in
    ap flags_of is ∙ number_is (flags_of (flags_text flags)) flags (below_at 64 is_told flags all_told s.few)

pub dash_read : (word : List ℕ) → same_bytes word (codes "-") ≡ true → flags_of word ≡ Ok 0
unfolding flags_of
dash_read word h = rw (same_is word (codes "-") h) refl

found_text : (word : List ℕ) (flags : ℕ) (zero : Bool) → (flags == 0) ≡ zero → flags_text flags ≡ word → same_bytes word (codes "-") ≡ false
    → letters_of flags ≡ word
found_text word flags true e text dash = let dashed : same_bytes word (codes "-") ≡ true = rw (← text) (rw e refl) in cc
found_text word flags false e text dash = sym (not_zero_text flags false e refl) ∙ text

not_found : (word : List ℕ) (kind : LineKind) (o : Option ℕ) → find (λ flags. same_bytes (flags_text flags) word) (range_with_len 0 64) ≡ o
    → flags_from 0 word ≡ Err kind → same_bytes word (codes "-") ≡ false → ok_or o Value ≡ Err Value
not_found word kind None e read dash = refl
not_found word kind (Some flags) e read dash =
    let f = found_within (λ flags. same_bytes (flags_text flags) word) 0 64 flags e in
    let letters : letters_of flags ≡ word = found_text word flags (flags == 0) refl (same_is (flags_text flags) word f.passes) dash in
    let spelled : flags_from 0 (letters_of flags) ≡ Ok flags =
    number_is (flags_from 0 (letters_of flags)) flags (below_at 64 is_spelled flags all_spelled f.within) in
    let other : flags_from 0 word ≡ Ok flags = rw letters at spelled in
    cc

pub flags_refused : (word : List ℕ) (kind : LineKind) → flags_from 0 word ≡ Err kind → same_bytes word (codes "-") ≡ false
    → flags_of word ≡ Err Value
unfolding flags_of
flags_refused word kind read dash =
    not_found word kind (find (λ flags. same_bytes (flags_text flags) word) (range_with_len 0 64)) refl read dash

no_letters : flags_of [] ≡ Err Value
unfolding flags_of
no_letters = refl

pub nothing_refused : (word : List ℕ) → flags_from 0 word ≡ Ok 0 → flags_of word ≡ Err Value
nothing_refused word read =
    let s = spelled_from 0 word 0 (omega arith) read in
    let is : word ≡ [] = s.spelled in
    ap flags_of is ∙ no_letters

-- One letter of a loop over a word.

letter_more : (from letter bit : ℕ) (letters : List ℕ) → flag_bit letter ≡ Ok bit → nat_lt from bit ≡ true
    → flags_from from (letter ∷ letters) ≡ flags_from (from + bit) letters
letter_more from letter bit letters h above = rw (h, above) refl

letter_low : (from letter bit : ℕ) (letters : List ℕ) → flag_bit letter ≡ Ok bit → nat_lt from bit ≡ false
    → flags_from from (letter ∷ letters) ≡ Err Value
letter_low from letter bit letters h above = rw (h, above) refl

letter_unknown : (from letter : ℕ) (kind : LineKind) (letters : List ℕ) → flag_bit letter ≡ Err kind
    → flags_from from (letter ∷ letters) ≡ Err kind
letter_unknown from letter kind letters h = rw h refl

pub reads_on : (whole : Result ℕ LineKind) (from place bit : ℕ) (word : List ℕ) → whole ≡ flags_from from (drop place word) → place < length word
    → flag_bit (slice_index word place) ≡ Ok bit → from < bit → whole ≡ flags_from (from + bit) (drop (place + 1) word)
reads_on whole from place bit word read within h above =
    read ∙ at_drop_more (flags_from from) word place 0 within
    ∙ letter_more from (slice_index word place) bit (drop (place + 1) word) h (grind (arith, nat_tests))

pub stops_low : (whole : Result ℕ LineKind) (from place bit : ℕ) (word : List ℕ) → whole ≡ flags_from from (drop place word) → place < length word
    → flag_bit (slice_index word place) ≡ Ok bit → bit ≤ from → whole ≡ Err Value
stops_low whole from place bit word read within h low =
    read ∙ at_drop_more (flags_from from) word place 0 within
    ∙ letter_low from (slice_index word place) bit (drop (place + 1) word) h (grind (arith, nat_tests))

pub stops_unknown : (whole : Result ℕ LineKind) (from place : ℕ) (kind : LineKind) (word : List ℕ) → whole ≡ flags_from from (drop place word)
    → place < length word → flag_bit (slice_index word place) ≡ Err kind → whole ≡ Err kind
stops_unknown whole from place kind word read within h =
    read ∙ at_drop_more (flags_from from) word place 0 within ∙ letter_unknown from (slice_index word place) kind (drop (place + 1) word) h

pub reads_all : (whole : Result ℕ LineKind) (from place : ℕ) (word : List ℕ) → whole ≡ flags_from from (drop place word) → length word ≤ place
    → whole ≡ Ok from
reads_all whole from place word read end = read ∙ ap (flags_from from) (drop_all place word end)

pub flags_back : (flags : ℕ) → flags < 64 → flags_of (flags_text flags) ≡ Ok flags
flags_back flags few = number_is (flags_of (flags_text flags)) flags (below_at 64 is_told flags all_told few)

abbrev is_field : ℕ → Bool
is_field flags = list_all is_body_byte (flags_text flags)

all_fields : all_below 64 is_field ≡ true
all_fields = refl

pub flags_bytes : (flags : ℕ) → flags < 64 → list_all is_body_byte (flags_text flags) ≡ true
flags_bytes flags few = below_at 64 is_field flags all_fields few
