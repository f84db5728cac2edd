-- Lists of bytes, byte by byte.
use Rattle.std.proofs.Common.{◌≡◌, inl, inr, ◌⊎◌, ℕ, zero, suc, ◌+◌, ◌-◌, ◌^◌, ◌<◌, ◌≤◌, List, ◌++◌, length, take, drop, slice_index, refl, sym, ◌∙◌, ap, arith, append_assoc, length-drop}
use Rattle.std.proofs.lemmas.List.{ext_get_or, length-take-le, get_or-take, get_or-drop, take-append-drop, drop-drop, take_at, drop_at}
use Rattle.byteorder.specs.Endian.{little_from}
use Rattle.byteorder.specs.Numbers.{little_number-reads_back}
use Rattle.mqb_outside.specs.Images.{Written, Torn}
use Rattle.mqb_outside.specs.lemmas.Steps.{written_torn}
use Rattle.mqb_fields.specs.Reading.{number_of}
use Rattle.mqb_fields.specs.Writing.{bytes_of}
use Rattle.mqb_layout.specs.Store.{part}

pub length-part : (at n : ℕ) (l : List ℕ) → at + n ≤ length l → length (part at n l) ≡ n
length-part at n l long = length-take-le n (drop at l) (omega (arith, length-drop at l))

pub byte_in_part : (at n i : ℕ) (l : List ℕ) → i < n → slice_index (part at n l) i ≡ slice_index l (at + i)
byte_in_part at n i l lt = get_or-take n (drop at l) i 0 lt ∙ get_or-drop at l i 0

-- two lists that agree from a place on have the same part there
pub same_part : (x y : List ℕ) (at n : ℕ) → at + n ≤ length x → at + n ≤ length y → ((i : ℕ) → at ≤ i → i < at + n → slice_index y i ≡ slice_index x i) → part at n y ≡ part at n x
same_part x y at n long size same = ext_get_or 0 (part at n y) (part at n x) (length-part at n y size ∙ sym (length-part at n x long))
    (λ i lt. (
    let within : i < n = omega (arith, lt, length-part at n y size) in
    byte_in_part at n i y within ∙ same (at + i) (omega arith) (omega (arith, within)) ∙ sym (byte_in_part at n i x within)
    ))

-- the number in these bytes too
little_same : (n j at : ℕ) (x y : List ℕ) → ((i : ℕ) → at ≤ i → i < at + j + n → slice_index y i ≡ slice_index x i) → little_from j n (drop at y) ≡ little_from j n (drop at x)
little_same zero j at x y same = refl
little_same (suc n) j at x y same =
    let byte : slice_index (drop at y) j ≡ slice_index (drop at x) j = get_or-drop at y j 0 ∙ same (at + j) (omega arith) (omega arith) ∙ sym (get_or-drop at x j 0) in
    let rest = little_same n (suc j) at x y (λ i lo hi. same i lo (omega (arith, hi))) in
    rw (byte, rest) refl

pub same_number : (n at : ℕ) (x y : List ℕ) → ((i : ℕ) → at ≤ i → i < at + n → slice_index y i ≡ slice_index x i) → number_of n (drop at y) ≡ number_of n (drop at x)
same_number n at x y same = little_same n 0 at x y (λ i lo hi. same i lo (omega (arith, hi)))

-- the number that stands at a place
pub number_at_part : (n at number : ℕ) (l : List ℕ) → number < 256 ^ n → part at n l ≡ bytes_of n number → number_of n (drop at l) ≡ number
number_at_part n at number l fits is =
    ap (λ (r : List ℕ). number_of n r) (sym (take-append-drop n (drop at l)) ∙ ap (λ (r : List ℕ). r ++ drop n (drop at l)) is) ∙ little_number-reads_back n number (drop n (drop at l)) fits

-- a list in three parts
pub in_parts : (at n : ℕ) (l : List ℕ) → l ≡ take at l ++ part at n l ++ drop (at + n) l
in_parts at n l =
    sym (take-append-drop at l) ∙ ap (λ (r : List ℕ). take at l ++ r) (sym (take-append-drop n (drop at l)) ∙ ap (λ (r : List ℕ). part at n l ++ r) (drop-drop n at l))
    ∙ sym (append_assoc (take at l) (part at n l) (drop (at + n) l))

pub drop_in_parts : (at n : ℕ) (l : List ℕ) → drop at l ≡ part at n l ++ drop (at + n) l
drop_in_parts at n l = sym (take-append-drop n (drop at l)) ∙ ap (λ (r : List ℕ). part at n l ++ r) (drop-drop n at l)

-- a part of a part
pub part_of_part : (at n from m : ℕ) (l : List ℕ) → from + m ≤ n → at + n ≤ length l → part from m (part at n l) ≡ part (at + from) m l
part_of_part at n from m l within long =
    let size : length (part at n l) ≡ n = length-part at n l long in
    ext_get_or 0 (part from m (part at n l)) (part (at + from) m l)
    (length-part from m (part at n l) (omega (arith, size)) ∙ sym (length-part (at + from) m l (omega arith)))
    (λ i lt. (
    let small : i < m = omega (arith, lt, length-part from m (part at n l) (omega (arith, size))) in
    byte_in_part from m i (part at n l) small ∙ byte_in_part at n (from + i) l (omega (arith, small)) ∙ ap (λ (k : ℕ). slice_index l k) (let same : at + (from + i) ≡ at + from + i = omega arith in same)
    ∙ sym (byte_in_part (at + from) m i l small)
    ))

-- what stands in the middle
pub part_at : (a b c : List ℕ) (at n : ℕ) → length a ≡ at → length b ≡ n → part at n (a ++ b ++ c) ≡ b
part_at a b c at n before size =
    ap (λ (l : List ℕ). take n (drop at l)) (append_assoc a b c) ∙ ap (λ (l : List ℕ). take n l) (drop_at a (b ++ c) at before) ∙ take_at b c n size

-- a torn write leaves each byte outside of it
pub torn_same : (at n : ℕ) (old new : List ℕ) → Torn at n old new → (i : ℕ) → (i < at) ⊎ (at + n ≤ i) → slice_index new i ≡ slice_index old i
torn_same at n old new torn i (inl below) =
    sym (get_or-take at new i 0 below) ∙ ap (λ (l : List ℕ). slice_index l i) torn.before ∙ get_or-take at old i 0 below
torn_same at n old new torn i (inr behind) =
    let place : at + n + (i - (at + n)) ≡ i = omega (arith, behind) in
    ap (λ (k : ℕ). slice_index new k) (sym place) ∙ sym (get_or-drop (at + n) new (i - (at + n)) 0) ∙ ap (λ (l : List ℕ). slice_index l (i - (at + n))) torn.after
    ∙ get_or-drop (at + n) old (i - (at + n)) 0 ∙ ap (λ (k : ℕ). slice_index old k) place

-- what is written stands there
pub written_part : (at : ℕ) (bytes old new : List ℕ) → at ≤ length old → Written at bytes old new → part at (length bytes) new ≡ bytes
written_part at bytes old new place is =
    ap (λ (l : List ℕ). part at (length bytes) l) is ∙ part_at (take at old) bytes (drop (at + length bytes) old) at (length bytes) (length-take-le at old place) refl

pub written_same : (at : ℕ) (bytes old new : List ℕ) → at ≤ length old → Written at bytes old new → (i : ℕ) → (i < at) ⊎ (at + length bytes ≤ i) → slice_index new i ≡ slice_index old i
written_same at bytes old new place is = torn_same at (length bytes) old new (written_torn at (length bytes) bytes old new place (omega arith) is)
