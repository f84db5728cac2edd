-- The units of a text.
use Rattle.std.proofs.Common.{◌≡◌, ◌≤◌, ◌<◌, ℕ, ◌+◌, ◌*◌, true, List, [], ◌∷◌, ◌++◌, length, drop}
use Rattle.std.proofs.Common.{slice_index, take, get_or, Option, Some, None, option_map, refl, sym}
use Rattle.std.proofs.Common.{ap, ◌∙◌, append_assoc, length-append, arith, ltb, ◌==◌, ◌&&◌}
use Rattle.std.proofs.lemmas.Bool.Decides.{nat_tests}
use Rattle.std.proofs.lemmas.Grind.{take_at_read}
use Rattle.std.proofs.lemmas.List.{length-take-le, take_at}
use Rattle.std.specs.Int.{byte_at}
use Rattle.mqb_fields.specs.Writing.{put_at, bytes_of, Wrote}
use Rattle.mqb_fields.specs.lemmas.Again.{put_then, put_all}
use Rattle.mqb_names.specs.Wire.{text_of, units}

-- a text that begins so
abbrev pub with_front : List ℕ → Option (List ℕ) → Option (List ℕ)
with_front front text = option_map (λ behind. front ++ behind) text

front_twice : (front : List ℕ) (low : ℕ) (text : Option (List ℕ))
    → with_front front (option_map (λ behind. low ∷ behind) text)
    ≡ with_front (front ++ low ∷ []) text
front_twice front low None = refl
front_twice front low (Some behind) =
    ap (λ (text : List ℕ). Some text) (sym (append_assoc front (low ∷ []) behind))

pub unit_more : (front rest : List ℕ) → 2 ≤ length rest → slice_index rest 0 < 128
    → slice_index rest 1 ≡ 0
    → with_front front (text_of rest)
    ≡ with_front (front ++ slice_index rest 0 ∷ []) (text_of (drop 2 rest))
unit_more front [] long low high = absurd (omega arith)
unit_more front (a ∷ []) long low high = absurd (omega arith)
unit_more front (a ∷ b ∷ rest) long low high =
    let small : (ltb a 128 && b == 0) ≡ true = grind (arith, nat_tests) in
    rw small (front_twice front a (text_of rest))

pub length_units : (text : List ℕ) → length (units text) ≡ 2 * length text
length_units [] = refl
length_units (b ∷ text) = omega (arith, length_units text)

pub units_append : (first second : List ℕ) → units (first ++ second) ≡ units first ++ units second
units_append [] second = refl
units_append (b ∷ first) second =
    ap (λ (behind : List ℕ). b ∷ 0 ∷ behind) (units_append first second)

-- a byte as a unit
unit_bytes : (b : ℕ) → b < 256 → bytes_of 2 b ≡ b ∷ 0 ∷ []
unit_bytes b small =
    let low : byte_at 0 b ≡ b = omega arith in
    let high : byte_at 1 b ≡ 0 = omega arith in
    rw (low, high) refl

-- one byte more of a text
pub unit_put : (to text : List ℕ) (at i b : ℕ) → i < length text → b ≡ get_or text i 0 → b < 256
    → at + 2 * length text ≤ length to
    → put_at (put_at to at (units (take i text))) (at + 2 * i) (bytes_of 2 b)
    ≡ put_at to at (units (take (i + 1) text))
unit_put to text at i b within is_b small room =
    let front : length (units (take i text)) ≡ 2 * i =
    omega (arith, length_units (take i text), length-take-le i text (omega arith)) in
    let place : at + 2 * i ≡ at + length (units (take i text)) = omega (arith, front) in
    let more : take (i + 1) text ≡ take i text ++ b ∷ [] =
    (take_at_read text i 0 within).1 ∙ ap (λ (x : ℕ). take i text ++ x ∷ []) (sym is_b) in
    rw (
      place,
      put_then to (units (take i text)) (bytes_of 2 b) at (omega (arith, front)),
      unit_bytes b small,
      more,
      units_append (take i text) (b ∷ []),
    ) refl

pub length_direct : (n : ℕ) (text : List ℕ)
    → length (bytes_of 2 n ++ units text) ≡ 2 + 2 * length text
length_direct n text = omega (arith, length-append (bytes_of 2 n) (units text), length_units text)

-- the wire form of a direct name, from the count and the units
pub direct_put : (to text : List ℕ) (n : ℕ) → length to ≡ length (bytes_of 2 n ++ units text)
    → put_at (put_at to 0 (bytes_of 2 n)) 2 (units text) ≡ bytes_of 2 n ++ units text
direct_put to text n len =
    put_then to (bytes_of 2 n) (units text) 0
    (omega (arith, len, length-append (bytes_of 2 n) (units text)))
    ∙ put_all to (bytes_of 2 n ++ units text) len

-- what was written at the front of a buffer
pub front_put : (to text new : List ℕ) (stop : ℕ) → Wrote to 0 text new stop
    → take (length text) new ≡ text
front_put to text new stop wrote =
    ap (take (length text)) wrote.put ∙ take_at text (drop (0 + length text) to) (length text) refl
