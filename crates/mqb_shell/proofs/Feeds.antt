-- The first line feed of a text.
use Rattle.std.proofs.Common.{◌≡◌, ◌≢◌, ◌∙◌, ◌+◌, ◌++◌, ◌<◌, ◌≤◌, ◌∷◌, ◌==◌, Bool, List, None, Some, ap, cond, drop, false, get_or, length, nat_lt, refl, subst, suc, sym, take, true, arith, ℕ}
use Rattle.std.proofs.Math.Seq.{drop-cons}
use Rattle.std.proofs.lemmas.Bool.Decides.{nat_tests}
use Rattle.std.proofs.lemmas.Bool.{eqb-false, eqb-true}
use Rattle.std.proofs.lemmas.List.{get_or-take, length-take, take-append-drop}
use Rattle.std.proofs.lemmas.List.Quantifiers.{position-Some}
use Rattle.std.proofs.lemmas.List.Sums.{fails_before_first}
use Rattle.std.specs.List.{position, position_or_len}
use Rattle.mqb_shell.specs.Lines.{IsOneLine}

-- a byte is a line feed
abbrev pub is_feed : ℕ → Bool
is_feed b = b == 10

none_before : (n size : ℕ) (b : Bool) → b ≡ nat_lt n size → cond b (Some n) None ≡ None → size ≤ n
none_before n size true is none = absurd (let never : ⊥ = cc in never)
none_before n size false is none = grind (arith, nat_tests, is)

-- where no first one is found there is none
pub one_line : (text : List ℕ) → position is_feed text ≡ None → IsOneLine text
one_line text none k d within =
    let past : length text ≤ position_or_len is_feed text = none_before (position_or_len is_feed text) (length text) (nat_lt (position_or_len is_feed text) (length text)) refl none in
    eqb-false _ 10 (fails_before_first is_feed text k d (omega (arith, past, within)))

-- what stands before the first one is one line
pub line_before : (text : List ℕ) (at : ℕ) → position is_feed text ≡ Some at → IsOneLine (take at text)
line_before text at is k d within =
    let found = position-Some is_feed text at d is in
    let size = length-take at text in
    let before : k < at = omega (arith, size, within) in
    subst (λ (b : ℕ). b ≢ 10) (sym (get_or-take at text k d before)) (eqb-false _ 10 (found.2 k before))

pub feed_within : (text : List ℕ) (at : ℕ) → position is_feed text ≡ Some at → at < length text
feed_within text at is = (position-Some is_feed text at 0 is).0

-- and the rest behind it
pub cut_at : (text : List ℕ) (at : ℕ) → position is_feed text ≡ Some at → text ≡ take at text ++ 10 ∷ drop (at + 1) text
cut_at text at is =
    let found = position-Some is_feed text at 0 is in
    let ten : get_or text at 0 ≡ 10 = eqb-true _ 10 found.1 in
    let next : suc at ≡ at + 1 = omega arith in
    sym (take-append-drop at text) ∙ ap (λ (rest : List ℕ). take at text ++ rest) (drop-cons text at 0 found.0 ∙ ap (λ (k : ℕ). get_or text at 0 ∷ drop k text) next ∙ ap (λ (b : ℕ). b ∷ drop (at + 1) text) ten)
