-- Parts that are put one behind another are put as one.
use Rattle.std.proofs.Common.{◌≡◌, ℕ, ◌+◌, ◌-◌, ◌≤◌, List, [], ◌++◌, length, take, drop, refl, sym}
use Rattle.std.proofs.Common.{ap, ◌∙◌, append_assoc, arith, length-append, length-drop}
use Rattle.std.proofs.lemmas.List.{length-take-le, drop-drop, drop_all, take_all}
use Rattle.std.proofs.lemmas.List.{append-nil, length-replicate}
use borrow.Rule.Slice.PartMut.{put_mid}
use Rattle.mqb_fields.specs.Writing.{put_at}
use Rattle.mqb_fields.specs.lemmas.Again.{put_then}
use Rattle.mqb_setup.specs.Internals.{filler}

pub length_filler : length filler ≡ 512
unfolding filler
length_filler = length-replicate {A = ℕ} 512 0x5A

length_put : (to part : List ℕ) (at : ℕ) → at + length part ≤ length to
    → length (put_at to at part) ≡ length to
length_put to part at room =
    omega (
      arith,
      length-append (take at to ++ part) (drop (at + length part) to),
      length-append (take at to) part,
      length-take-le at to (omega arith),
      length-drop (at + length part) to,
    )

put_next : (to first second : List ℕ) (place : ℕ) → length first ≡ place → place ≤ length to
    → put_at (put_at to 0 first) place second ≡ put_at to 0 (first ++ second)
put_next to first second place len room =
    let there : place ≡ 0 + length first = omega (arith, len) in
    rw there (put_then to first second 0 (omega arith))

-- what is put into the rest is put behind
put_behind : (to part : List ℕ) (at : ℕ) → at ≤ length to
    → put_mid at (length to - at) to (put_at (drop at to) 0 part) ≡ put_at to at part
put_behind to part at room =
    let none : drop (length to - at) (drop at to) ≡ [] =
    drop_all (length to - at) (drop at to) (omega (arith, length-drop at to)) in
    let place : at + (0 + length part) ≡ at + length part = omega arith in
    let rest : drop (0 + length part) (drop at to) ≡ drop (at + length part) to =
    drop-drop (0 + length part) at to ∙ ap (λ (n : ℕ). drop n to) place in
    rw (none, rest, append-nil (part ++ drop (at + length part) to))
    (sym (append_assoc (take at to) part (drop (at + length part) to)))

pub establish_put : (to client server stamp reserved rest one two three four five : List ℕ)
    → length client ≡ 16 → length server ≡ 16 → length stamp ≡ 4 → length reserved ≡ 4
    → 40 + length rest ≤ length to → one ≡ put_at to 0 client → two ≡ put_at one 16 server
    → three ≡ put_at two 32 stamp → four ≡ put_at three 36 reserved → five ≡ put_at four 40 rest
    → five ≡ put_at to 0 (client ++ server ++ stamp ++ reserved ++ rest)
establish_put to client server stamp reserved rest one two three four five l1 l2 l3 l4 room e1 e2
    e3 e4 e5 =
    let n2 : length (client ++ server) ≡ 32 = omega (arith, length-append client server, l1, l2) in
    let n3 : length (client ++ server ++ stamp) ≡ 36 =
    omega (arith, length-append (client ++ server) stamp, n2, l3) in
    let n4 : length (client ++ server ++ stamp ++ reserved) ≡ 40 =
    omega (arith, length-append (client ++ server ++ stamp) reserved, n3, l4) in
    rw (
      e5,
      e4,
      e3,
      e2,
      e1,
      put_next to client server 16 l1 (omega arith),
      put_next to (client ++ server) stamp 32 n2 (omega arith),
      put_next to (client ++ server ++ stamp) reserved 36 n3 (omega arith),
      put_next to (client ++ server ++ stamp ++ reserved) rest 40 n4 (omega arith),
    ) refl

pub internal_put : (to flags reserved part one two three : List ℕ) → length flags ≡ 2
    → length reserved ≡ 2 → 4 + length part ≤ length to
    → one ≡ put_at to 0 flags → two ≡ put_at one 2 reserved
    → three ≡ put_at (take (length two - 4) (drop 4 two)) 0 part
    → put_mid 4 (length two - 4) two three ≡ put_at to 0 (flags ++ reserved ++ part)
internal_put to flags reserved part one two three l1 l2 room e1 e2 e3 =
    let n2 : length (flags ++ reserved) ≡ 4 = omega (arith, length-append flags reserved, l1, l2) in
    let both : two ≡ put_at to 0 (flags ++ reserved) =
    e2 ∙ ap (λ (list : List ℕ). put_at list 2 reserved) e1
    ∙ put_next to flags reserved 2 l1 (omega arith) in
    let long : length two ≡ length to =
    ap length both ∙ length_put to (flags ++ reserved) 0 (omega (arith, n2)) in
    let whole : take (length two - 4) (drop 4 two) ≡ drop 4 two =
    take_all (length two - 4) (drop 4 two) (omega (arith, length-drop 4 two)) in
    ap (put_mid 4 (length two - 4) two) (e3 ∙ ap (λ (list : List ℕ). put_at list 0 part) whole)
    ∙ put_behind two part 4 (omega (arith, long))
    ∙ ap (λ (list : List ℕ). put_at list 4 part) both
    ∙ put_next to (flags ++ reserved) part 4 n2 (omega arith)
