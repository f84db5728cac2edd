-- A disk without bytes has none after a call that failed.
use Rattle.std.proofs.Common.{[], ◌≡◌, ◌+◌, ◌≤◌, arith, inl, length, max, refl, ℕ}
use Rattle.mqb_outside.specs.Images.{Follows, MayBeCut, Torn}

longest : (n at len : ℕ) → n ≤ max n (at + len)
longest n at len = omega arith

pub still_torn : (at n : ℕ) → Follows (Torn at n) (λ c. c ≡ []) (λ c. c ≡ [])
still_torn at n c none = (c, none, record { before = refl; after = refl; no_shorter = omega arith; no_longer = longest (length c) at n })

pub still_cut : (n : ℕ) → Follows (MayBeCut n) (λ c. c ≡ []) (λ c. c ≡ [])
still_cut n c none = (c, none, inl refl)
