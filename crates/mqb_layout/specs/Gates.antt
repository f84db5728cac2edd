use Rattle.std.specs.Prelude.{◌≡◌, ◌≢◌, ℕ, ◌+◌, Bool, true, false, List, ◌∷◌, drop}

-- the gate at this place is not open
pub record IsClosedAt (gate : ℕ) (c : List ℕ) : Type 0 where
  pub byte : ℕ
  pub closed : byte ≢ 1
  pub is : drop gate c ≡ byte ∷ drop (gate + 1) c

-- the gate at this place is open
abbrev pub IsOpenAt : ℕ → List ℕ → Type 0
IsOpenAt gate c = drop gate c ≡ 1 ∷ drop (gate + 1) c

-- whether the gate at this place is open
pub record HasGate (gate : ℕ) (is_open : Bool) (c : List ℕ) : Type 0 where
  pub when_open : is_open ≡ true → IsOpenAt gate c
  pub when_shut : is_open ≡ false → IsClosedAt gate c
