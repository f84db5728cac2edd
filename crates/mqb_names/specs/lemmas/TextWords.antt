-- Words at the front of a text, their letters in either case.
use Rattle.std.proofs.Common.{◌≡◌, ℕ, suc, Bool, true, false, not, ◌&&◌, ◌||◌, List, [], ◌∷◌, ◌++◌}
use Rattle.std.proofs.Common.{length, refl, sym, ap, ◌∙◌, arith, true≢false}
use Rattle.std.proofs.lemmas.Bool.Decides.{nat_tests}
use Rattle.std.proofs.lemmas.List.{take_at}
use Rattle.std.specs.List.{prefix_len}
use Rattle.std.specs.Char.{to_ascii_lowercase}
use Rattle.std.specs.Prelude.{nat_eq}
use Rattle.uuid.specs.Text.{is_hex_digit}
use Rattle.mqb_names.specs.Printed.{backslash}
use Rattle.mqb_names.specs.Parts.{same_word, begins, is_stop}
use Rattle.mqb_names.specs.Grammar.{Word}

pub both_hold : (v w : Bool) → (v && w) ≡ true → (v ≡ true) × (w ≡ true)
both_hold true w e = (refl, e)
both_hold false w e = absurd cc

-- a letter is that of a word, whatever its case
abbrev pub alike : ℕ → ℕ → Bool
alike b c = nat_eq (to_ascii_lowercase b) (to_ascii_lowercase c)

pub word_length : (text word : List ℕ) → Word word text → length text ≡ length word
unfolding same_word
word_length [] [] e = refl
word_length [] (c ∷ word) e = absurd cc
word_length (b ∷ text) [] e = absurd cc
word_length (b ∷ text) (c ∷ word) e =
    ap suc (word_length text word (both_hold (alike b c) (same_word text word) e).1)

pub word_begins : (text rest word : List ℕ) → Word word text → begins (text ++ rest) word ≡ true
word_begins text rest word e = ap (λ (front : List ℕ). same_word front word)
    (take_at text rest (length word) (word_length text word e)) ∙ e

-- two words that no text begins with both
abbrev pub clash : List ℕ → List ℕ → Bool
clash [] other = false
clash (c ∷ word) [] = false
clash (c ∷ word) (d ∷ other) = not (alike c d) || clash word other

letters_apart : (b c d : ℕ) → alike b c ≡ true → alike c d ≡ false → alike b d ≡ false
letters_apart b c d same differ = grind (arith, nat_tests)

first_differs : (v : Bool) (w : Bool) → v ≡ false → (v && w) ≡ false
first_differs true w e = absurd cc
first_differs false w e = refl

rest_differs : (v : Bool) (w : Bool) → w ≡ false → (v && w) ≡ false
rest_differs true w e = e
rest_differs false w e = refl

here_or_behind : (b c d : ℕ) (p q v : Bool) → alike c d ≡ v → alike b c ≡ true → (not v || p) ≡ true
    → (p ≡ true → q ≡ false) → (alike b d && q) ≡ false
here_or_behind b c d p q true is same apart behind = rest_differs (alike b d) q (behind apart)
here_or_behind b c d p q false is same apart behind =
    first_differs (alike b d) q (letters_apart b c d same is)

pub begins_apart : (text rest word other : List ℕ) → Word word text → clash word other ≡ true
    → begins (text ++ rest) other ≡ false
unfolding same_word
begins_apart [] rest [] other e apart = absurd cc
begins_apart [] rest (c ∷ word) other e apart = absurd cc
begins_apart (b ∷ text) rest [] other e apart = absurd cc
begins_apart (b ∷ text) rest (c ∷ word) [] e apart = absurd cc
begins_apart (b ∷ text) rest (c ∷ word) (d ∷ other) e apart =
    let both = both_hold (alike b c) (same_word text word) e in
    here_or_behind b c d (clash word other) (begins (text ++ rest) other)
    (alike c d) refl both.0 apart (λ p. begins_apart text rest word other both.1 p)

fails : (v : Bool) → (v ≡ true → true ≡ false) → v ≡ false
fails true refused = absurd (true≢false (refused refl))
fails false refused = refl

pub words_apart : (text word other : List ℕ) → Word word text → clash word other ≡ true
    → same_word text other ≡ false
words_apart text word other e apart = fails (same_word text other)
    (λ is. sym (word_begins text [] other is) ∙ begins_apart text [] word other e apart)

-- a backslash or a semicolon has no other case
backslash_stops : (b : ℕ) → alike b backslash ≡ true → is_stop b ≡ true
backslash_stops b is = grind (arith, nat_tests)

semicolon_stops : (b : ℕ) → alike b 0x3B ≡ true → is_stop b ≡ true
semicolon_stops b is = grind (arith, nat_tests)

semicolon_no_digit : (b : ℕ) → alike b 0x3B ≡ true → is_hex_digit b ≡ false
semicolon_no_digit b is = grind (arith, nat_tests)

pub backslash_front : (text rest word : List ℕ) → Word (backslash ∷ word) text
    → prefix_len (λ b. not (is_stop b)) (text ++ rest) ≡ 0
unfolding same_word
backslash_front [] rest word e = absurd cc
backslash_front (b ∷ text) rest word e =
    rw (backslash_stops b (both_hold (alike b backslash) (same_word text word) e).0) refl

pub semicolon_front : (text word : List ℕ) → Word (0x3B ∷ word) text
    → prefix_len (λ b. not (is_stop b)) text ≡ 0
unfolding same_word
semicolon_front [] word e = absurd cc
semicolon_front (b ∷ text) word e =
    rw (semicolon_stops b (both_hold (alike b 0x3B) (same_word text word) e).0) refl

pub semicolon_behind_digits : (text word : List ℕ) → Word (0x3B ∷ word) text
    → prefix_len (λ b. not (not (is_hex_digit b))) text ≡ 0
unfolding same_word
semicolon_behind_digits [] word e = absurd cc
semicolon_behind_digits (b ∷ text) word e =
    rw (semicolon_no_digit b (both_hold (alike b 0x3B) (same_word text word) e).0) refl
