-- What was put at a place is read there.
use Rattle.std.proofs.Common.{◌≡◌, ℕ, ◌+◌, ◌-◌, ◌^◌, ◌<◌, ◌≤◌, false, ltb, List, [], ◌∷◌, ◌++◌}
use Rattle.std.proofs.Common.{length, take, drop, Ok, refl, sym, ap, ◌∙◌, append_assoc, zero, suc}
use Rattle.std.proofs.Common.{slice_index, arith, length-append, length-drop, drop-cons}
use Rattle.std.proofs.lemmas.Bool.{le-ltb}
use Rattle.std.proofs.lemmas.List.{take_at, drop_at, length-take-le, append-nil}
use Rattle.std.proofs.lemmas.List.{drop_all, drop-drop}
use Rattle.byteorder.specs.Numbers.{length-bytes_low_first, little_number-reads_back}
use Rattle.mqb_fields.specs.Reading.{number_of, part_at, number_at, guid_at}
use Rattle.mqb_fields.specs.Writing.{put_at, bytes_of}
use Rattle.mqb_fields.specs.Guids.{swapped}

-- the rest of a list from the place of what was put
drop-put_at : (to bytes : List ℕ) (at : ℕ) → at + length bytes ≤ length to
    → drop at (put_at to at bytes) ≡ bytes ++ drop (at + length bytes) to
drop-put_at to bytes at room =
    let front : length (take at to) ≡ at = length-take-le at to (omega arith) in
    rw (append_assoc (take at to) bytes (drop (at + length bytes) to))
    (drop_at (take at to) (bytes ++ drop (at + length bytes) to) at front)

pub length-put_at : (to bytes : List ℕ) (at : ℕ) → at + length bytes ≤ length to
    → length (put_at to at bytes) ≡ length to
length-put_at to bytes at room =
    omega (
      arith,
      length-append (take at to ++ bytes) (drop (at + length bytes) to),
      length-append (take at to) bytes,
      length-take-le at to (omega arith),
      length-drop (at + length bytes) to,
    )

-- What is put behind what was put is put with it as one.
pub put_then : (to first second : List ℕ) (at : ℕ) → at + length first ≤ length to
    → put_at (put_at to at first) (at + length first) second ≡ put_at to at (first ++ second)
put_then to first second at room =
    let front : length (take at to ++ first) ≡ at + length first =
    omega (arith, length-append (take at to) first, length-take-le at to (omega arith)) in
    let rest = drop (at + length first) to in
    let kept : take (at + length first) (put_at to at first) ≡ take at to ++ first =
    take_at (take at to ++ first) rest (at + length first) front in
    let behind : drop (at + length first + length second) (put_at to at first)
    ≡ drop (at + length (first ++ second)) to =
    sym (drop-drop (length second) (at + length first) (put_at to at first))
    ∙ ap (drop (length second)) (drop_at (take at to ++ first) rest (at + length first) front)
    ∙ drop-drop (length second) (at + length first) to
    ∙ ap (λ (count : ℕ). drop count to) (omega (arith, length-append first second)) in
    rw (kept, behind, append_assoc (take at to) first second) refl

-- What fills a list is all of it then.
pub put_all : (to bytes : List ℕ) → length to ≡ length bytes → put_at to 0 bytes ≡ bytes
put_all to bytes len = rw (drop_all (0 + length bytes) to (omega arith), append-nil bytes) refl

pub part_again : (to bytes : List ℕ) (at count : ℕ) → length bytes ≡ count → at + count ≤ length to
    → part_at count (record { bytes = put_at to at bytes; at = at })
    ≡ Ok (bytes, record { bytes = put_at to at bytes; at = at + count })
part_again to bytes at count is_count room =
    let enough : ltb (length (put_at to at bytes) - at) count ≡ false =
    le-ltb _ _ (omega (arith, length-put_at to bytes at (omega arith))) in
    let part : take count (drop at (put_at to at bytes)) ≡ bytes =
    rw (drop-put_at to bytes at (omega arith))
    (take_at bytes (drop (at + length bytes) to) count is_count) in
    rw (enough, part) refl

pub number_back : (width number : ℕ) → number < 256 ^ width
    → number_of width (bytes_of width number) ≡ number
number_back width number fits =
    ap (number_of width) (sym (append-nil (bytes_of width number)))
    ∙ little_number-reads_back width number [] fits

pub number_again : (to : List ℕ) (at width number : ℕ) → at + width ≤ length to
    → number < 256 ^ width
    → number_at width (record { bytes = put_at to at (bytes_of width number); at = at })
    ≡ Ok (number, record { bytes = put_at to at (bytes_of width number); at = at + width })
number_again to at width number room fits =
    let bytes = bytes_of width number in
    rw (
      part_again to bytes at width (length-bytes_low_first 0 width number) room,
      number_back width number fits,
    ) refl

-- the count members of a list from a place
abbrev members : ℕ → ℕ → List ℕ → List ℕ
members i zero list = []
members i (suc count) list = slice_index list i ∷ members (suc i) count list

members_all : (i count : ℕ) (list : List ℕ) → length list ≡ i + count
    → members i count list ≡ drop i list
members_all i zero list len = sym (drop_all i list (omega arith))
members_all i (suc count) list len =
    let here : i < length list = omega arith in
    rw (members_all (suc i) count list (omega arith), drop-cons list i 0) refl

pub swapped_twice : (guid : List ℕ) → length guid ≡ 16 → swapped (swapped guid) ≡ guid
swapped_twice guid len = members_all 0 16 guid len

pub guid_again : (to guid : List ℕ) (at : ℕ) → at + 16 ≤ length to → length guid ≡ 16
    → guid_at (record { bytes = put_at to at (swapped guid); at = at })
    ≡ Ok (guid, record { bytes = put_at to at (swapped guid); at = at + 16 })
guid_again to guid at room len =
    rw (part_again to (swapped guid) at 16 refl room, swapped_twice guid len) refl
