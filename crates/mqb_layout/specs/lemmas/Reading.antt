-- What the bytes at a place spell.
use Rattle.std.proofs.Common.{◌≡◌, ℕ, zero, suc, ◌+◌, ◌^◌, ◌<◌, List, [], ◌∷◌, ◌++◌, length, get_or}
use Rattle.std.proofs.Common.{take, drop, refl, sym, ◌∙◌, ap, arith}
use Rattle.byteorder.specs.Numbers.{little_number-reads_back}
use Rattle.mqb_fields.specs.Guids.{swapped}
use Rattle.mqb_fields.specs.Writing.{bytes_of}
use Rattle.mqb_fields.specs.Reading.{number_of}
use Rattle.std.proofs.lemmas.List.{append-nil, take-append-drop, drop-drop, drop_all, drop_more}

-- what was read at a place stands there
pub read_split : (at n : ℕ) (c buf : List ℕ) → buf ≡ take n (drop at c)
    → drop at c ≡ buf ++ drop (at + n) c
read_split at n c buf is =
    sym (take-append-drop n (drop at c)) ∙ ap (λ (l : List ℕ). l ++ drop n (drop at c)) (sym is)
    ∙ ap (λ (l : List ℕ). buf ++ l) (drop-drop n at c)

-- n elements of a list, from a place on
abbrev pub spelled : ℕ → ℕ → List ℕ → List ℕ
spelled zero i l = []
spelled (suc n) i l = get_or l i 0 ∷ spelled n (i + 1) l

pub drop_spelled : (n i : ℕ) (l : List ℕ) → length l ≡ i + n → drop i l ≡ spelled n i l
drop_spelled zero i l is = drop_all i l (omega arith)
drop_spelled (suc n) i l is = drop_more l i 0 (omega arith)
    ∙ ap (λ (r : List ℕ). get_or l i 0 ∷ r) (drop_spelled n (i + 1) l (omega arith))

-- a GUID is its wire form in wire form
pub swapped_twice : (guid : List ℕ) → length guid ≡ 16 → swapped (swapped guid) ≡ guid
swapped_twice guid long = sym (drop_spelled 16 0 guid long)

pub number_back : (number : ℕ) → number < 256 ^ 4 → number_of 4 (bytes_of 4 number) ≡ number
number_back number fits = ap (λ (l : List ℕ). number_of 4 l) (sym (append-nil (bytes_of 4 number)))
    ∙ little_number-reads_back 4 number [] fits

-- a number is that of its first bytes
pub first_four : (l : List ℕ) → number_of 4 (take 4 l) ≡ number_of 4 l
first_four [] = refl
first_four (a ∷ []) = refl
first_four (a ∷ b ∷ []) = refl
first_four (a ∷ b ∷ c ∷ []) = refl
first_four (a ∷ b ∷ c ∷ d ∷ l) = refl
