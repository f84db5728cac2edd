-- How many bytes a wire form has, by its own bytes alone.
use Rattle.std.proofs.Common.{◌≡◌, ◌≤◌, ◌<◌, ℕ, ◌+◌, ◌*◌, ◌-◌, Bool, true, false, cond, ltb, ◌==◌}
use Rattle.std.proofs.Common.{List, length, take, Result, Ok, Err, refl, sym, ap, ◌∙◌, ◌⊎◌, inl}
use Rattle.std.proofs.Common.{inr, arith, ◌++◌, length-append}
use Rattle.std.proofs.lemmas.Bool.{cases_lt, eqb-true, le-ltb, lt-ltb, ltb-false}
use Rattle.std.proofs.lemmas.List.{length-take-le, take-append-le, take-take}
use Rattle.mqb_fields.specs.Reading.{number_at, number_of}
use Rattle.mqb_fields.specs.Writing.{bytes_of}
use Rattle.mqb_fields.specs.lemmas.Again.{number_back}
use Rattle.mqb_names.specs.declared.wire.WireFault.{WireFault}
use Rattle.mqb_names.specs.declared.wire.WireFault.TheVariants.{Short, Bad}
use Rattle.mqb_names.specs.Wire.{start, direct_length, length_at}

-- by the count of the units
abbrev counted : ℕ → Result ℕ WireFault
counted n = cond (ltb 141 n) (Err Bad) (Ok (2 + 2 * n))

counted_long : (n len : ℕ) → counted n ≡ Ok len → 2 ≤ len
counted_long n len =
    elim (ltb 141 n) as (λ v. cond v (Err Bad) (Ok (2 + 2 * n)) ≡ Ok len → 2 ≤ len) [
      | true ↦ λ e. absurd cc
      | false ↦ λ e. let same : 2 + 2 * n ≡ len = cc in omega (arith, same)
    ]

direct_counted : (bytes : List ℕ) → 2 ≤ length bytes
    → direct_length (number_at 2 (start bytes)) ≡ counted (number_of 2 (take 2 bytes))
direct_counted bytes long =
    let enough : ltb (length bytes - 0) 2 ≡ false = le-ltb _ _ (omega arith) in rw enough refl

direct_short : (bytes : List ℕ) → length bytes < 2
    → direct_length (number_at 2 (start bytes)) ≡ Err Short
direct_short bytes short =
    let few : ltb (length bytes - 0) 2 ≡ true = lt-ltb _ _ (omega arith) in rw few refl

direct_ok : (bytes : List ℕ) (len : ℕ) → direct_length (number_at 2 (start bytes)) ≡ Ok len
    → (2 ≤ length bytes) × (counted (number_of 2 (take 2 bytes)) ≡ Ok len)
direct_ok bytes len e = elim (cases_lt (length bytes) 2) [
  | inl short ↦ let none = direct_short bytes short in absurd cc
  | inr long ↦ (long, sym (direct_counted bytes long) ∙ e)
]

direct_taken : (bytes : List ℕ) (len : ℕ) → len ≤ length bytes
    → direct_length (number_at 2 (start bytes)) ≡ Ok len
    → direct_length (number_at 2 (start (take len bytes))) ≡ Ok len
direct_taken bytes len within e =
    let ok = direct_ok bytes len e in
    let long : 2 ≤ len = counted_long _ len ok.1 in
    let front : take 2 (take len bytes) ≡ take 2 bytes = take-take 2 len bytes long in
    direct_counted (take len bytes) (omega (arith, length-take-le len bytes within))
    ∙ ap (λ (part : List ℕ). counted (number_of 2 part)) front ∙ ok.1

direct_more : (bytes rest : List ℕ) (len : ℕ) → direct_length (number_at 2 (start bytes)) ≡ Ok len
    → direct_length (number_at 2 (start (bytes ++ rest))) ≡ Ok len
direct_more bytes rest len e =
    let ok = direct_ok bytes len e in
    let front : take 2 (bytes ++ rest) ≡ take 2 bytes = take-append-le 2 bytes rest ok.0 in
    direct_counted (bytes ++ rest) (omega (arith, ok.0, length-append bytes rest))
    ∙ ap (λ (part : List ℕ). counted (number_of 2 part)) front ∙ ok.1

abbrev by_kind : Bool → Bool → Bool → Result ℕ WireFault → Result ℕ WireFault
by_kind public private direct length =
    cond public (Ok 16) (cond private (Ok 20) (cond direct length (Err Bad)))

same_kind : (public private direct : Bool) (length after : Result ℕ WireFault) (len : ℕ)
    → (length ≡ Ok len → after ≡ Ok len)
    → by_kind public private direct length ≡ Ok len → by_kind public private direct after ≡ Ok len
same_kind true private direct length after len then e = e
same_kind false true direct length after len then e = e
same_kind false false true length after len then e = then e
same_kind false false false length after len then e = e

pub length_taken : (kind : ℕ) (bytes : List ℕ) (len : ℕ) → length_at kind bytes ≡ Ok len
    → len ≤ length bytes
    → length_at kind (take len bytes) ≡ Ok (length (take len bytes))
unfolding length_at
length_taken kind bytes len e within =
    same_kind (kind == 1) (kind == 2) (kind == 3) _ _ len (direct_taken bytes len within) e
    ∙ ap (λ (n : ℕ). Ok n) (sym (length-take-le len bytes within))

long_by_kind : (public private direct : Bool) (length : Result ℕ WireFault) (len : ℕ)
    → (length ≡ Ok len → 2 ≤ len)
    → by_kind public private direct length ≡ Ok len → 2 ≤ len
long_by_kind true private direct length len then e = let same : 16 ≡ len = cc in omega (arith, same)
long_by_kind false true direct length len then e = let same : 20 ≡ len = cc in omega (arith, same)
long_by_kind false false true length len then e = then e
long_by_kind false false false length len then e = absurd cc

pub length_long : (kind : ℕ) (bytes : List ℕ) (len : ℕ) → length_at kind bytes ≡ Ok len → 2 ≤ len
unfolding length_at
length_long kind bytes len e = long_by_kind (kind == 1) (kind == 2) (kind == 3) _ len
    (λ direct. counted_long _ len (direct_ok bytes len direct).1) e

pub counted_few : (count : ℕ) (rest : List ℕ) → count ≤ 141
    → direct_length (number_at 2 (start (bytes_of 2 count ++ rest))) ≡ Ok (2 + 2 * count)
counted_few count rest few =
    let back : number_of 2 (bytes_of 2 count) ≡ count = number_back 2 count (omega arith) in
    let not_many : ltb 141 count ≡ false = le-ltb _ _ (omega arith) in
    direct_counted (bytes_of 2 count ++ rest) (omega (arith, length-append (bytes_of 2 count) rest))
    ∙ rw (back, not_many) refl

-- What follows does not matter.
pub length_more : (kind : ℕ) (bytes rest : List ℕ) (len : ℕ) → length_at kind bytes ≡ Ok len
    → length_at kind (bytes ++ rest) ≡ Ok len
unfolding length_at
length_more kind bytes rest len e =
    same_kind (kind == 1) (kind == 2) (kind == 3) _ _ len (direct_more bytes rest len) e

some_kind : (public private direct : Bool) (length : Result ℕ WireFault) (len : ℕ)
    → by_kind public private direct length ≡ Ok len
    → (public ≡ true) ⊎ ((private ≡ true) ⊎ (direct ≡ true))
some_kind true private direct length len e = inl refl
some_kind false true direct length len e = inr (inl refl)
some_kind false false true length len e = inr (inr refl)
some_kind false false false length len e = absurd cc

-- a name has one of three types
pub kind_within : (kind : ℕ) (bytes : List ℕ) (len : ℕ) → length_at kind bytes ≡ Ok len
    → (1 ≤ kind) × (kind ≤ 3)
unfolding length_at
kind_within kind bytes len e = elim (some_kind (kind == 1) (kind == 2) (kind == 3) _ len e) [
  | inl is ↦ let same = eqb-true kind 1 is in (omega (arith, same), omega (arith, same))
  | inr (inl is) ↦ let same = eqb-true kind 2 is in (omega (arith, same), omega (arith, same))
  | inr (inr is) ↦ let same = eqb-true kind 3 is in (omega (arith, same), omega (arith, same))
]

counted_is : (n len : ℕ) → counted n ≡ Ok len → (n ≤ 141) × (2 + 2 * n ≡ len)
counted_is n len e = elim (ltb 141 n) as (λ v. ltb 141 n ≡ v
    → cond v (Err Bad) (Ok (2 + 2 * n)) ≡ Ok len → (n ≤ 141) × (2 + 2 * n ≡ len)) [
      | true ↦ λ many bad. absurd cc
      | false ↦ λ few ok. (ltb-false _ _ few, cc)
    ] refl e

-- the count of a direct name's units, in its first two bytes
pub count_is : (bytes : List ℕ) (len : ℕ) → length_at 3 bytes ≡ Ok len
    → (2 ≤ length bytes) × (number_of 2 (take 2 bytes) ≤ 141)
    × (2 + 2 * number_of 2 (take 2 bytes) ≡ len)
unfolding length_at
count_is bytes len e =
    let ok = direct_ok bytes len e in
    let is = counted_is (number_of 2 (take 2 bytes)) len ok.1 in
    (ok.0, is.0, is.1)
