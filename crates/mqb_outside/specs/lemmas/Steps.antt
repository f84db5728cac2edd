-- What a write leaves where nothing is torn is one of the contents that a torn write may leave.
use Rattle.std.proofs.Common.{◌≡◌, ℕ, ◌+◌, ◌-◌, ◌≤◌, List, ◌++◌, length, take, drop, sym, ◌∙◌, ap}
use Rattle.std.proofs.Common.{subst, arith, length-append, length-drop, append_assoc}
use Rattle.std.proofs.lemmas.List.{length-take-le, take_at, drop_at, drop-drop}
use Rattle.mqb_outside.specs.Images.{Written, Torn}

module _ (at n : ℕ) (bytes old : List ℕ) (place : at ≤ length old) (fits : length bytes ≤ n) where
  abbrev new : List ℕ
  new = take at old ++ bytes ++ drop (at + length bytes) old

  front : length (take at old) ≡ at
  front = length-take-le at old place

  long : length new ≡ at + length bytes + (length old - (at + length bytes))
  long = omega (
    arith,
    front,
    length-append (take at old ++ bytes) (drop (at + length bytes) old),
    length-append (take at old) bytes,
    length-drop (at + length bytes) old,
  )

  before : take at new ≡ take at old
  before = ap (λ (l : List ℕ). take at l)
      (append_assoc (take at old) bytes (drop (at + length bytes) old))
      ∙ take_at (take at old) (bytes ++ drop (at + length bytes) old) at front

  behind : drop (at + length bytes) new ≡ drop (at + length bytes) old
  behind = drop_at (take at old ++ bytes) (drop (at + length bytes) old) (at + length bytes)
      (omega (arith, front, length-append (take at old) bytes))

  more : (l : List ℕ) → drop (at + n) l ≡ drop (n - length bytes) (drop (at + length bytes) l)
  more l =
      let same : at + n ≡ at + length bytes + (n - length bytes) = omega arith in
      ap (λ (k : ℕ). drop k l) same ∙ sym (drop-drop (n - length bytes) (at + length bytes) l)

  written : Torn at n old new
  written = record {
    before = before;
    after = more new ∙ ap (λ (l : List ℕ). drop (n - length bytes) l) behind ∙ sym (more old);
    no_shorter = omega (arith, long);
    no_longer = omega (arith, long);
  }

-- fewer bytes than the range are written, and the rest stays
pub written_torn : (at n : ℕ) (bytes old later : List ℕ) → at ≤ length old → length bytes ≤ n
    → Written at bytes old later → Torn at n old later
written_torn at n bytes old later place fits is =
    subst (λ (l : List ℕ). Torn at n old l) (sym is) (written at n bytes old place fits)

-- a write that did not take place
pub nothing_torn : (at n : ℕ) (old : List ℕ) → Torn at n old old
nothing_torn at n old = record {
  before = λ _. take at old;
  after = λ _. drop (at + n) old;
  no_shorter = omega arith;
  no_longer = omega arith;
}

-- the length after a write
pub length-written : (at : ℕ) (bytes old later : List ℕ) → at ≤ length old
    → Written at bytes old later
    → length later ≡ at + length bytes + (length old - (at + length bytes))
length-written at bytes old later place is =
    ap length is ∙ long at (length bytes) bytes old place (omega arith)
