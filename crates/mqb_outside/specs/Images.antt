use Rattle.std.specs.Prelude.{◌≡◌, ◌⊎◌, ℕ, ◌+◌, ◌≤◌, max, List, ◌++◌, length, take, drop}

-- each content that is told has P; where none is told, that says nothing
abbrev pub Each : (List ℕ → Type 0) → (List ℕ → Type 0) → Type 0
Each told P = (c : List ℕ) → told c → P c

-- the same contents are told
pub record Same (old new : List ℕ → Type 0) : Type 0 where
  pub none_new : Each new old
  pub none_lost : Each old new

-- each new content is an old one after a step
abbrev pub Follows : (List ℕ → List ℕ → Type 0) → (List ℕ → Type 0) → (List ℕ → Type 0) → Type 0
Follows step old new = (c : List ℕ) → new c → (d : List ℕ) × old d × step d c

-- new is old with these bytes at this place
abbrev pub Written : ℕ → List ℕ → List ℕ → List ℕ → Type 0
Written at bytes old new = new ≡ take at old ++ bytes ++ drop (at + length bytes) old

-- after a write of n bytes that a crash cuts short: any bytes in the range and past the old end,
-- the same elsewhere, and the part past the old end missing from any place on
pub record Torn (at n : ℕ) (old new : List ℕ) : Type 0 where
  pub before : take at new ≡ take at old
  pub after : drop (at + n) new ≡ drop (at + n) old
  pub no_shorter : length old ≤ length new
  pub no_longer : length new ≤ max (length old) (at + n)

-- after a cut
abbrev pub IsCut : ℕ → List ℕ → List ℕ → Type 0
IsCut n old new = new ≡ take n old

-- after a cut that a crash finds made or not made
abbrev pub MayBeCut : ℕ → List ℕ → List ℕ → Type 0
MayBeCut n old new = (new ≡ old) ⊎ (new ≡ take n old)
