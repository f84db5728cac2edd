-- The units of a label and its bytes.
use Rattle.std.proofs.Common.{◌≡◌, ◌≤◌, ◌<◌, ℕ, ◌+◌, ◌-◌, ◌*◌, ◌/◌, ◌%◌, ◌^◌, List, [], ◌∷◌, ◌++◌, length, drop, slice_index, All, refl, sym, ap, ◌∙◌, arith, append_assoc}
use Rattle.std.proofs.lemmas.List.Elements.{All-head, All-tail}
use Rattle.mqb_heads.specs.Properties.{label_bytes}
use Rattle.mqb_packet.specs.Spelled.{units_of}

pub length_units : (bytes : List ℕ) (n : ℕ) → length bytes ≡ 2 * n → length (units_of bytes) ≡ n
length_units [] n len = omega (arith, len)
length_units (a ∷ []) n len = absurd (omega (arith, len))
length_units (a ∷ b ∷ rest) n len =
    let less : length rest ≡ 2 * (n - 1) = omega (arith, len) in
    omega (arith, len, length_units rest (n - 1) less)

unit_back : (u : ℕ) → u < 2 ^ 16 → u % 256 + 256 * (u / 256 % 256) ≡ u
unit_back u small = omega arith

pub units_again : (units : List ℕ) → All (λ unit. unit < 2 ^ 16) units → units_of (label_bytes units) ≡ units
units_again [] small = refl
units_again (u ∷ units) small =
    let fits : ℕ → Type 0 = λ unit. unit < 2 ^ 16 in
    rw (unit_back u (All-head fits u units small), units_again units (All-tail fits u units small)) refl
