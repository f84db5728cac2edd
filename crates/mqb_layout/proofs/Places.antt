-- What was read at a place.
use Rattle.std.proofs.Common.{◌≡◌, eqb, ℕ, ◌+◌, ◌<◌, List, ◌∷◌, ◌++◌, length, get_or, take, drop, sym, ◌∙◌, ap, arith}
use Rattle.std.specs.Int.{from_le_bytes, w32}
use Rattle.mqb_fields.specs.Reading.{number_of}
use Rattle.mqb_layout.specs.Gates.{HasGate}
use Rattle.mqb_layout.specs.lemmas.Reading.{read_split, first_four}
use Rattle.std.proofs.Math.ListN.{get_or-append}
use Rattle.std.proofs.lemmas.Bool.{eqb-true, eqb-false}
use Rattle.std.proofs.lemmas.List.{take-append-le, take-take, drop_more, get_or-drop, get_or-take}

-- a gate is open where its byte is 1
pub gate_of : (at byte : ℕ) (c : List ℕ) → drop at c ≡ byte ∷ drop (at + 1) c → HasGate at (eqb byte 1) c
gate_of at byte c is = record {
  when_open = λ one. is ∙ ap (λ (b : ℕ). b ∷ drop (at + 1) c) (eqb-true byte 1 one);
  when_shut = λ other. record { byte = byte; closed = eqb-false byte 1 other; is = is };
}

-- the byte n bytes behind a place, where so many and one more were read from there
pub read_behind : (at n : ℕ) (c buf rest : List ℕ) → at + n < length c → length buf ≡ n + 1 → buf ≡ take (n + 1) (drop at c)
    → drop (at + n) c ≡ get_or (buf ++ rest) n 0 ∷ drop (at + n + 1) c
read_behind at n c buf rest within size is =
    let byte : get_or (buf ++ rest) n 0 ≡ get_or c (at + n) 0 =
    get_or-append buf rest 0 n (omega (arith, size)) ∙ ap (λ (l : List ℕ). get_or l n 0) is ∙ get_or-take (n + 1) (drop at c) n 0 (omega arith) ∙ get_or-drop at c n 0 in
    drop_more c (at + n) 0 within ∙ ap (λ (b : ℕ). b ∷ drop (at + n + 1) c) (sym byte)

pub read_byte : (at : ℕ) (c buf : List ℕ) → at < length c → buf ≡ take 1 (drop at c) → drop at c ≡ get_or buf 0 0 ∷ drop (at + 1) c
read_byte at c buf within is =
    let byte : get_or buf 0 0 ≡ get_or c at 0 = ap (λ (l : List ℕ). get_or l 0 0) is ∙ get_or-take 1 (drop at c) 0 0 (omega arith) ∙ get_or-drop at c 0 0 ∙ ap (λ (i : ℕ). get_or c i 0) (let same : at + 0 ≡ at = omega arith in same) in
    drop_more c at 0 within ∙ ap (λ (b : ℕ). b ∷ drop (at + 1) c) (sym byte)

-- what was read into the front of a buffer, but for the last byte of it
pub read_front : (at n : ℕ) (c buf rest : List ℕ) → length buf ≡ n + 1 → buf ≡ take (n + 1) (drop at c) → drop at c ≡ take n (buf ++ rest) ++ drop (at + n) c
read_front at n c buf rest size is =
    read_split at n c (take n (buf ++ rest)) (take-append-le n buf rest (omega (arith, size)) ∙ ap (λ (l : List ℕ). take n l) is ∙ take-take n (n + 1) (drop at c) (omega arith))

pub number_is : (bs : List ℕ) (n : ℕ) → n ≡ from_le_bytes w32 bs → n ≡ number_of 4 bs
number_is bs n is = omega (arith, is)

-- the number in the four bytes at a place
pub read_number : (at n : ℕ) (c buf : List ℕ) → n ≡ number_of 4 buf → buf ≡ take 4 (drop at c) → n ≡ number_of 4 (drop at c)
read_number at n c buf number is = number ∙ ap (λ (l : List ℕ). number_of 4 l) is ∙ first_four (drop at c)
