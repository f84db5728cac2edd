-- Where the front of a text ends.
use Rattle.std.proofs.Common.{◌≡◌, ◌≤◌, ◌<◌, ◌+◌, ◌*◌, ◌^◌, add-one, ℕ, List, length, unwrap_or, not, arith, Bool}
use Rattle.std.proofs.lemmas.Bool.Decides.{nat_tests}
use Rattle.std.proofs.lemmas.List.Sums.{prefix_len-le-length}
use Rattle.std.proofs.Math.Nat.{pow-le-pow_right, pow-suc}
use Rattle.std.specs.Prelude.{position}
use Rattle.std.specs.List.{position_or_len}

pub before_end : (p : ℕ → Bool) (xs : List ℕ) → unwrap_or (position p xs) (length xs) ≡ position_or_len p xs
before_end p xs = let within : position_or_len p xs ≤ length xs = prefix_len-le-length (λ x. not (p x)) xs in grind (arith, nat_tests, within)

-- a number of less than eight hexadecimal digits, and one more
pub one_more_digit : (n i : ℕ) → n < 16 ^ i → i < 8 → (n * 16 + 15 < 2 ^ 32) × ((v : ℕ) → v < 16 → n * 16 + v < 16 ^ (i + 1))
one_more_digit n i small few =
    let step : 16 ^ (i + 1) ≡ 16 ^ i * 16 = rw add-one (pow-suc 16 i) in
    let top : 16 ^ (i + 1) ≤ 16 ^ 8 = pow-le-pow_right {n = 16} (omega arith) {i = i + 1} {j = 8} (omega arith) in
    (omega (arith, step, top), λ v below. omega (arith, step))
