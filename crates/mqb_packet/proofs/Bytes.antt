-- Bytes below 256, and the numbers and GUIDs that they spell.
use Rattle.std.proofs.Common.{◌≡◌, ◌<◌, ℕ, ◌+◌, ◌-◌, ◌^◌, ltb, List, [], ◌∷◌, ◌++◌, length, take, drop, Ok, refl, sym, ap, subst, ◌∙◌, arith, length-append, length-drop}
use Rattle.std.specs.List.{AllByRecursion}
use Rattle.std.proofs.lemmas.Bool.{ltb-false}
use Rattle.std.proofs.lemmas.List.{take-append-drop, length-take-le}
use Rattle.std.proofs.lemmas.List.Elements.{All-from_recursion}
use Rattle.mqb_fields.specs.Guids.{swapped}
use Rattle.mqb_fields.specs.Reading.{Reading, rest_of, moved, part_at, number_of, number_at, guid_at}
use Rattle.mqb_heads.specs.mqb_names.Values.{AreBytes}
use Rattle.mqb_heads.specs.lemmas.ReadLaws.{bind_ok, unless_ok}
use Rattle.mqb_packet.proofs.Steps.{ok_is}

abbrev pub AreSmall : List ℕ → Type 0
AreSmall bytes = AllByRecursion (λ b. b < 256) bytes

small_parts : (front rest : List ℕ) → AreSmall (front ++ rest) → AreSmall front × AreSmall rest
small_parts [] rest small = (tt, small)
small_parts (b ∷ front) rest small = let both = small_parts front rest small.1 in ((small.0, both.0), both.1)

pub both_small : (bytes first second : List ℕ) → first ++ second ≡ bytes → AreSmall bytes → AreSmall first × AreSmall second
both_small bytes first second whole small = small_parts first second (subst AreSmall (sym whole) small)

pub both_long : (bytes first second : List ℕ) → first ++ second ≡ bytes → length bytes ≡ length first + length second
both_long bytes first second whole = sym (ap length whole) ∙ length-append first second

pub cut_small : (count : ℕ) (bytes : List ℕ) → AreSmall bytes → AreSmall (take count bytes) × AreSmall (drop count bytes)
cut_small count bytes small = both_small bytes (take count bytes) (drop count bytes) (take-append-drop count bytes) small

pub two_small : (bytes : List ℕ) → AreSmall bytes → length bytes ≡ 2 → number_of 2 bytes < 2 ^ 16
two_small [] small len = absurd (omega (arith, len))
two_small (a ∷ []) small len = absurd (omega (arith, len))
two_small (a ∷ b ∷ []) small len = omega (arith, small.0, small.1.0)
two_small (a ∷ b ∷ c ∷ bytes) small len = absurd (omega (arith, len))

pub four_small : (bytes : List ℕ) → AreSmall bytes → length bytes ≡ 4 → number_of 4 bytes < 2 ^ 32
four_small [] small len = absurd (omega (arith, len))
four_small (a ∷ []) small len = absurd (omega (arith, len))
four_small (a ∷ b ∷ []) small len = absurd (omega (arith, len))
four_small (a ∷ b ∷ c ∷ []) small len = absurd (omega (arith, len))
four_small (a ∷ b ∷ c ∷ d ∷ []) small len = omega (arith, small.0, small.1.0, small.1.1.0, small.1.1.1.0)
four_small (a ∷ b ∷ c ∷ d ∷ e ∷ bytes) small len = absurd (omega (arith, len))

pub swapped_small : (bytes : List ℕ) → AreSmall bytes → length bytes ≡ 16 → AreBytes 16 (swapped bytes)
swapped_small bytes small len =
    let all = All-from_recursion (λ b. b < 256) bytes small in
    let at = λ (k : ℕ) (within : k < 16). all k 0 (omega (arith, len, within)) in (
      refl,
      All-from_recursion (λ b. b < 256) (swapped bytes) (at 3 (omega arith), (at 2 (omega arith), (at 1 (omega arith), (at 0 (omega arith), (at 5 (omega arith), (at 4 (omega arith), (at 7 (omega arith), (at 6 (omega arith), (at 8 (omega arith), (at 9 (omega arith), (at 10 (omega arith), (at 11 (omega arith), (at 12 (omega arith), (at 13 (omega arith), (at 14 (omega arith), (at 15 (omega arith), tt)))))))))))))))),
    )

-- so many bytes that were read
part_is : (count : ℕ) (r : Reading) (x : List ℕ × Reading) → part_at count r ≡ Ok x
    → (take count (rest_of r) ≡ x.0) × (moved count r ≡ x.1) × (length (take count (rest_of r)) ≡ count)
part_is count r x e =
    let read = unless_ok (ltb (length r.bytes - r.at) count) _ (Ok (take count (rest_of r), moved count r)) x e in
    let same = ok_is (take count (rest_of r), moved count r) x read.1 in
    let long = ltb-false _ _ read.0 in (
      ap (λ (y : List ℕ × Reading). y.0) same,
      ap (λ (y : List ℕ × Reading). y.1) same,
      length-take-le count (rest_of r) (omega (arith, long, length-drop r.at r.bytes)),
    )

pub guid_small : (r : Reading) (x : List ℕ × Reading) → AreSmall (rest_of r) → guid_at r ≡ Ok x → AreBytes 16 x.0 × (moved 16 r ≡ x.1)
guid_small r x small e =
    let part = bind_ok (part_at 16 r) _ x e in
    let read = part_is 16 r part.0 part.1 in
    let valid = swapped_small (take 16 (rest_of r)) (cut_small 16 (rest_of r) small).0 read.2 in
    let same = ok_is (swapped part.0.0, part.0.1) x part.2 in (
      subst (AreBytes 16) (ap swapped read.0 ∙ ap (λ (y : List ℕ × Reading). y.0) same) valid,
      read.1 ∙ ap (λ (y : List ℕ × Reading). y.1) same,
    )

pub number_small : (r : Reading) (x : ℕ × Reading) → AreSmall (rest_of r) → number_at 4 r ≡ Ok x → x.0 < 2 ^ 32
number_small r x small e =
    let part = bind_ok (part_at 4 r) _ x e in
    let read = part_is 4 r part.0 part.1 in
    let few = four_small (take 4 (rest_of r)) (cut_small 4 (rest_of r) small).0 read.2 in
    let same = ok_is (number_of 4 part.0.0, part.0.1) x part.2 in
    subst (λ (n : ℕ). n < 2 ^ 32) (ap (number_of 4) read.0 ∙ ap (λ (y : ℕ × Reading). y.0) same) few
