-- What stands before a gap and behind it.
use Rattle.std.proofs.Common.{◌≡◌, ℕ, zero, suc, ◌<◌, ◌≤◌, ◌+◌, ◌-◌, List, [], ◌∷◌, ◌++◌, length, take, drop, get_or, set, refl, sym, ap, ◌∙◌, arith, append_assoc}
use Rattle.std.specs.List.{insert, remove, remove_range, slice_get, swap}
use Rattle.std.proofs.lemmas.List.{take-append-drop, length-set, length-take-le, take-take, take-set-le, take_more, take_more_set, drop-set-lt, drop-set, drop_more, drop-drop, drop-append-le, take-append-le}
use Rattle.std.proofs.lemmas.List.Edits.{insert-append_right, remove-append_right}
use Rattle.mqb_deque.specs.Gaps.{around}
use Rattle.mqb_deque.proofs.Behind.{drop_insert, drop_remove}

-- a member of a list in two parts

pub slice_get_left : {X : Type 0} (xs ys : List X) (k : ℕ) → k < length xs → slice_get (xs ++ ys) k ≡ slice_get xs k
slice_get_left [] ys k within = absurd (omega (arith, within))
slice_get_left (x ∷ xs) ys zero within = refl
slice_get_left (x ∷ xs) ys (suc k) within = slice_get_left xs ys k (omega (arith, within))

pub slice_get_right : {X : Type 0} (xs ys : List X) (k : ℕ) → length xs ≤ k → slice_get (xs ++ ys) k ≡ slice_get ys (k - length xs)
slice_get_right [] ys k behind = let e : k ≡ k - 0 = omega arith in ap (λ (j : ℕ). slice_get ys j) e
slice_get_right (x ∷ xs) ys zero behind = absurd (omega (arith, behind))
slice_get_right (x ∷ xs) ys (suc k) behind =
    let e : k - length xs ≡ suc k - suc (length xs) = omega arith in
    slice_get_right xs ys k (omega (arith, behind)) ∙ ap (λ (j : ℕ). slice_get ys j) e

slice_get_drop : {X : Type 0} (n k : ℕ) (xs : List X) → slice_get (drop n xs) k ≡ slice_get xs (n + k)
slice_get_drop zero k xs = let e : k ≡ 0 + k = omega arith in ap (λ (j : ℕ). slice_get xs j) e
slice_get_drop (suc n) k [] = refl
slice_get_drop (suc n) k (x ∷ xs) =
    let e : suc (n + k) ≡ suc n + k = omega arith in
    slice_get_drop n k xs ∙ ap (λ (j : ℕ). slice_get (x ∷ xs) j) e

-- the whole of a list without a gap
pub closed : {X : Type 0} (front gap : ℕ) (xs ys : List X) → front + gap ≤ length xs → ys ≡ remove_range xs front (front + gap)
    → around front 0 ys ≡ around front gap xs
closed front gap xs ys within is =
    let e : front + 0 ≡ front = omega arith in
    ap (λ (k : ℕ). take front ys ++ drop k ys) e ∙ (take-append-drop front ys ∙ is)

-- the member behind a gap, before it
raised : {X : Type 0} (front gap : ℕ) (d : X) (xs : List X) → 0 < gap → front + gap < length xs
    → around (front + 1) gap (set (set xs front (get_or xs (front + gap) d)) (front + gap) (get_or xs front d)) ≡ around front gap xs
raised {X} front gap d xs some within =
    ap (λ (zs : List X). zs ++ drop (front + 1 + gap) end) taken
    ∙ (ap (λ (zs : List X). (take front xs ++ m ∷ []) ++ zs) left
    ∙ (append_assoc (take front xs) (m ∷ []) (drop (front + gap + 1) xs)
    ∙ ap (λ (zs : List X). take front xs ++ zs) (sym (drop_more xs (front + gap) d within))))
  where
    m : X
    m = get_or xs (front + gap) d

    mid : List X
    mid = set xs front m

    end : List X
    end = set mid (front + gap) (get_or xs front d)

    taken : take (front + 1) end ≡ take front xs ++ m ∷ []
    taken =
        take-set-le (front + 1) mid (front + gap) (get_or xs front d) (omega (arith, some))
        ∙ take_more_set xs front m (omega (arith, within))

    left : drop (front + 1 + gap) end ≡ drop (front + gap + 1) xs
    left =
        drop-set-lt (front + 1 + gap) mid (front + gap) (get_or xs front d) (omega arith)
        ∙ (drop-set-lt (front + 1 + gap) xs front m (omega arith)
        ∙ (let e : front + 1 + gap ≡ front + gap + 1 = omega arith in ap (λ (k : ℕ). drop k xs) e))

-- the member before a gap, behind it
lowered : {X : Type 0} (front gap : ℕ) (d : X) (xs : List X) → 0 < gap → front + gap < length xs
    → around front gap (set (set xs front (get_or xs (front + gap) d)) (front + gap) (get_or xs front d)) ≡ around (front + 1) gap xs
lowered {X} front gap d xs some within =
    ap (λ (zs : List X). zs ++ drop (front + gap) end) taken
    ∙ (ap (λ (zs : List X). take front xs ++ zs) left
    ∙ (sym (append_assoc (take front xs) (m ∷ []) (drop (front + 1 + gap) xs))
    ∙ ap (λ (zs : List X). zs ++ drop (front + 1 + gap) xs) (sym (take_more xs front d (omega (arith, within))))))
  where
    m : X
    m = get_or xs front d

    mid : List X
    mid = set xs front (get_or xs (front + gap) d)

    end : List X
    end = set mid (front + gap) m

    taken : take front end ≡ take front xs
    taken =
        take-set-le front mid (front + gap) m (omega arith)
        ∙ take-set-le front xs front (get_or xs (front + gap) d) (omega arith)

    left : drop (front + gap) end ≡ m ∷ drop (front + 1 + gap) xs
    left =
        let len : length mid ≡ length xs = length-set xs front (get_or xs (front + gap) d) in
        drop-set mid (front + gap) m (omega (arith, len, within))
        ∙ (ap (λ (zs : List X). m ∷ zs) (drop-set-lt (front + gap + 1) xs front (get_or xs (front + gap) d) (omega arith))
        ∙ (let e : front + gap + 1 ≡ front + 1 + gap = omega arith in ap (λ (k : ℕ). m ∷ drop k xs) e))

pub swapped_up : {X : Type 0} (front gap : ℕ) (xs ys : List X) → 0 < gap → front + gap < length xs → ys ≡ swap xs front (front + gap)
    → around (front + 1) gap ys ≡ around front gap xs
swapped_up front gap [] ys some within is = absurd (omega (arith, within))
swapped_up {X} front gap (d ∷ rest) ys some within is =
    ap (λ (zs : List X). around (front + 1) gap zs) is ∙ raised front gap d (d ∷ rest) some within

pub swapped_down : {X : Type 0} (front gap : ℕ) (xs ys : List X) → 0 < gap → front + gap < length xs → ys ≡ swap xs front (front + gap)
    → around front gap ys ≡ around (front + 1) gap xs
swapped_down front gap [] ys some within is = absurd (omega (arith, within))
swapped_down {X} front gap (d ∷ rest) ys some within is =
    ap (λ (zs : List X). around front gap zs) is ∙ lowered front gap d (d ∷ rest) some within

-- members that stand before the gap, and those behind it

taken_of : {X : Type 0} (front k : ℕ) (xs zs : List X) → front ≤ k → k ≤ length xs → take front (take k xs ++ zs) ≡ take front xs
taken_of front k xs zs before within =
    let len : length (take k xs) ≡ k = length-take-le k xs within in
    take-append-le front (take k xs) zs (omega (arith, len, before)) ∙ take-take front k xs before

pub vacated : {X : Type 0} (front gap : ℕ) (y : X) (xs : List X) → front + gap < length xs
    → around front (gap + 1) (set xs (front + gap) y) ≡ remove (around front gap xs) front
vacated {X} front gap y xs within =
    ap (λ (zs : List X). zs ++ drop (front + (gap + 1)) (set xs (front + gap) y)) (take-set-le front xs (front + gap) y (omega arith))
    ∙ (ap (λ (zs : List X). take front xs ++ zs) (drop-set-lt (front + (gap + 1)) xs (front + gap) y (omega arith) ∙ rest)
    ∙ sym (remove-append_right (take front xs) (drop (front + gap) xs) front front (length-take-le front xs (omega (arith, within))) (omega arith)))
  where
    rest : drop (front + (gap + 1)) xs ≡ remove (drop (front + gap) xs) (front - front)
    rest =
        (let e : front + (gap + 1) ≡ front + gap + 1 = omega arith in ap (λ (k : ℕ). drop k xs) e)
        ∙ (sym (drop-drop 1 (front + gap) xs)
        ∙ (let e : 0 ≡ front - front = omega arith in ap (λ (k : ℕ). remove (drop (front + gap) xs) k) e))

pub reoccupied : {X : Type 0} (front gap : ℕ) (x : X) (xs : List X) → 0 < gap → front + gap ≤ length xs
    → around front (gap - 1) (set xs (front + gap - 1) x) ≡ insert (around front gap xs) front x
reoccupied {X} front gap x xs some within =
    ap (λ (zs : List X). zs ++ drop (front + (gap - 1)) (set xs (front + gap - 1) x))
    (take-set-le front xs (front + gap - 1) x (omega (arith, some)))
    ∙ (ap (λ (zs : List X). take front xs ++ zs) rest
    ∙ sym (insert-append_right (take front xs) (drop (front + gap) xs) front front x (length-take-le front xs (omega (arith, within))) (omega arith)))
  where
    rest : drop (front + (gap - 1)) (set xs (front + gap - 1) x) ≡ insert (drop (front + gap) xs) (front - front) x
    rest =
        (let e : front + (gap - 1) ≡ front + gap - 1 = omega (arith, some) in ap (λ (k : ℕ). drop k (set xs (front + gap - 1) x)) e)
        ∙ (drop-set xs (front + gap - 1) x (omega (arith, some, within))
        ∙ ((let e : front + gap - 1 + 1 ≡ front + gap = omega (arith, some) in ap (λ (k : ℕ). x ∷ drop k xs) e)
        ∙ (let e : 0 ≡ front - front = omega arith in ap (λ (k : ℕ). insert (drop (front + gap) xs) k x) e)))

pub taken_out : {X : Type 0} (front gap at : ℕ) (xs : List X) → front ≤ at → gap + at < length xs
    → around front gap (remove xs (gap + at)) ≡ remove (around front gap xs) at
taken_out {X} front gap at xs behind within =
    ap (λ (zs : List X). zs ++ drop (front + gap) (remove xs (gap + at)))
    (taken_of front (gap + at) xs (drop (suc (gap + at)) xs) (omega (arith, behind)) (omega (arith, within)))
    ∙ (ap (λ (zs : List X). take front xs ++ zs) rest
    ∙ sym (remove-append_right (take front xs) (drop (front + gap) xs) front at (length-take-le front xs (omega (arith, behind, within))) behind))
  where
    rest : drop (front + gap) (remove xs (gap + at)) ≡ remove (drop (front + gap) xs) (at - front)
    rest =
        (let e : gap + at ≡ front + gap + (at - front) = omega (arith, behind) in ap (λ (k : ℕ). drop (front + gap) (remove xs k)) e)
        ∙ drop_remove (front + gap) (at - front) xs (omega (arith, behind, within))

pub put_in : {X : Type 0} (front gap at : ℕ) (x : X) (xs : List X) → front ≤ at → gap + at ≤ length xs
    → around front gap (insert xs (gap + at) x) ≡ insert (around front gap xs) at x
put_in {X} front gap at x xs behind within =
    ap (λ (zs : List X). zs ++ drop (front + gap) (insert xs (gap + at) x))
    (taken_of front (gap + at) xs (x ∷ drop (gap + at) xs) (omega (arith, behind)) within)
    ∙ (ap (λ (zs : List X). take front xs ++ zs) rest
    ∙ sym (insert-append_right (take front xs) (drop (front + gap) xs) front at x (length-take-le front xs (omega (arith, behind, within))) behind))
  where
    rest : drop (front + gap) (insert xs (gap + at) x) ≡ insert (drop (front + gap) xs) (at - front) x
    rest =
        (let e : gap + at ≡ front + gap + (at - front) = omega (arith, behind) in ap (λ (k : ℕ). drop (front + gap) (insert xs k x)) e)
        ∙ drop_insert (front + gap) (at - front) x xs (omega (arith, behind, within))

pub pushed : {X : Type 0} (front gap : ℕ) (x : X) (xs : List X) → front + gap ≤ length xs
    → around front gap (xs ++ x ∷ []) ≡ around front gap xs ++ x ∷ []
pushed {X} front gap x xs within =
    ap (λ (zs : List X). zs ++ drop (front + gap) (xs ++ x ∷ [])) (take-append-le front xs (x ∷ []) (omega (arith, within)))
    ∙ (ap (λ (zs : List X). take front xs ++ zs) (drop-append-le (front + gap) xs (x ∷ []) within)
    ∙ sym (append_assoc (take front xs) (drop (front + gap) xs) (x ∷ [])))

-- the member at a place behind the gap
pub got_behind : {X : Type 0} (front gap at : ℕ) (xs : List X) → front ≤ at → front + gap ≤ length xs
    → slice_get (around front gap xs) at ≡ slice_get xs (gap + at)
got_behind {X} front gap at xs behind within =
    slice_get_right (take front xs) (drop (front + gap) xs) at (omega (arith, len, behind))
    ∙ (slice_get_drop (front + gap) (at - length (take front xs)) xs
    ∙ (let e : front + gap + (at - length (take front xs)) ≡ gap + at = omega (arith, len, behind) in ap (λ (k : ℕ). slice_get xs k) e))
  where
    len : length (take front xs) ≡ front
    len = length-take-le front xs (omega (arith, within))
