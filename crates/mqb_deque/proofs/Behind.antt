-- What stands behind the first slots.
use Rattle.std.proofs.Common.{◌≡◌, ℕ, zero, suc, ◌<◌, ◌≤◌, ◌+◌, ◌-◌, List, [], ◌∷◌, ◌++◌, length, take, drop, get_or, ap, ◌∙◌, arith, add-one}
use Rattle.std.proofs.lemmas.List.{length-take-le, drop-take, drop_more, take-take, drop-drop}
use Rattle.std.specs.List.{insert, remove}
use Rattle.mqb_base.specs.Rooms.{Room}

pub drop_remove : {X : Type 0} (h at : ℕ) (xs : List X) → h + at < length xs → drop h (remove xs (h + at)) ≡ remove (drop h xs) at
drop_remove zero at xs within = let e : 0 + at ≡ at = omega arith in ap (λ (k : ℕ). remove xs k) e
drop_remove (suc h) at [] within = absurd (omega arith)
drop_remove (suc h) at (x ∷ xs) within =
    let e : suc h + at ≡ suc (h + at) = omega arith in
    ap (λ (k : ℕ). drop (suc h) (remove (x ∷ xs) k)) e ∙ drop_remove h at xs (omega arith)

pub drop_insert : {X : Type 0} (h at : ℕ) (x : X) (xs : List X) → h + at ≤ length xs → drop h (insert xs (h + at) x) ≡ insert (drop h xs) at x
drop_insert zero at x xs within = let e : 0 + at ≡ at = omega arith in ap (λ (k : ℕ). insert xs k x) e
drop_insert (suc h) at x [] within = absurd (omega arith)
drop_insert (suc h) at x (y ∷ xs) within =
    let e : suc h + at ≡ suc (h + at) = omega arith in
    ap (λ (k : ℕ). drop (suc h) (insert (y ∷ xs) k x)) e ∙ drop_insert h at x xs (omega arith)

-- the last of some first members goes before them
pub raised : {X : Type 0} (xs ys : List X) (at : ℕ) → at < length xs
    → ys ≡ drop (length (take (at + 1) xs) - 1) (take (at + 1) xs) ++ take (length (take (at + 1) xs) - 1) (take (at + 1) xs)
    → drop 1 (ys ++ drop (at + 1) xs) ≡ remove xs at
raised [] ys at within is = absurd (omega arith)
raised {X} (d ∷ rest) ys at within is =
    ap (λ (zs : List X). drop 1 (zs ++ drop (at + 1) xs)) moved
    ∙ ap (λ (k : ℕ). take at xs ++ drop k xs) (add-one at)
  where
    xs : List X
    xs = d ∷ rest

    len : length (take (at + 1) xs) - 1 ≡ at
    len = let l : length (take (at + 1) xs) ≡ at + 1 = length-take-le (at + 1) xs (omega (arith, within)) in omega (arith, l)

    last : drop at (take (at + 1) xs) ≡ get_or xs at d ∷ []
    last = drop-take at 1 xs ∙ ap (λ (zs : List X). take 1 zs) (drop_more xs at d within)

    moved : ys ≡ get_or xs at d ∷ take at xs
    moved =
        is
        ∙ (ap (λ (k : ℕ). drop k (take (at + 1) xs) ++ take k (take (at + 1) xs)) len
        ∙ (ap (λ (zs : List X). zs ++ take at (take (at + 1) xs)) last
        ∙ ap (λ (zs : List X). get_or xs at d ∷ zs) (take-take at (at + 1) xs (omega arith))))

-- the first one leaves, of those that some have left
pub one_more_left : {X : Type 0} (l r s : Room X) (k : ℕ) → r ≡ record l { items = drop k l.items } → s ≡ record r { items = remove r.items 0 }
    → s ≡ record l { items = drop (k + 1) l.items }
one_more_left {X} l r s k left is =
    is
    ∙ (ap (λ (o : Room X). record o { items = remove o.items 0 }) left
    ∙ ap (λ (xs : List X). record l { items = xs }) (drop-drop 1 k l.items))
