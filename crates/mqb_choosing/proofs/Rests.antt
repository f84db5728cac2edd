-- What a manager knows of a connection: rows behind the end of its lists.
use Rattle.std.proofs.Common.{refl, sym, ap, ◌∙◌, drop, get_or, length, set, take, arith, length-append, append_assoc}
use Rattle.std.proofs.lemmas.List.{length-replicate, replicate-append-replicate, append-nil, at_drop_more, drop-set-lt, drop_all, take_all, take_more_set}
use Rattle.std.specs.List.{zip}
use Rattle.std.specs.Prelude.{[], ◌++◌, ◌+◌, ◌-◌, ◌<◌, ◌==◌, ◌∷◌, ◌≡◌, ◌≤◌, Bool, List, false, if◌then◌else◌, map, replicate, true, ℕ}
use Rattle.mqb_model.specs.Lists.{grown}
use Rattle.mqb_model.specs.calls.Link.{begun_anew}
use Rattle.mqb_orders.specs.Rows.{Row}

pub grown_length : {X : Type 0} (blank : X) (n : ℕ) (xs : List X) → length (grown blank n xs) ≡ length xs + (n - length xs)
grown_length blank n xs = let whole = length-append xs (replicate (n - length xs) blank) in
    let more = length-replicate (n - length xs) blank in omega (arith, whole, more)

-- a list that is grown once more is as if grown at once
pub grown_again : {X : Type 0} (blank : X) (n k : ℕ) (xs : List X) → n ≤ k → grown blank k (grown blank n xs) ≡ grown blank k xs
grown_again blank n k xs le =
    let len = grown_length blank n xs in
    let sum : (n - length xs) + (k - length (grown blank n xs)) ≡ k - length xs = omega (arith, le, len) in
    append_assoc xs (replicate (n - length xs) blank) (replicate (k - length (grown blank n xs)) blank)
    ∙ ap (λ ys. xs ++ ys) (replicate-append-replicate (n - length xs) (k - length (grown blank n xs)) blank ∙ ap (λ j. replicate j blank) sum)

-- where the list has so many members then, it had no more
pub no_more : {X : Type 0} (blank : X) (n k : ℕ) (xs : List X) → length (grown blank k (grown blank n xs)) ≡ k → n ≤ k
no_more blank n k xs e = let once = grown_length blank n xs in let twice = grown_length blank k (grown blank n xs) in omega (arith, e, once, twice)

pub within : {X : Type 0} (blank : X) (n : ℕ) (xs : List X) → length (grown blank n xs) ≡ n → length xs ≤ n
within blank n xs e = let once = grown_length blank n xs in omega (arith, e, once)

-- it has them already
pub grown_whole : {X : Type 0} (blank : X) (n : ℕ) (xs : List X) → length xs ≡ n → grown blank n xs ≡ xs
grown_whole blank n xs e = let none : n - length xs ≡ 0 = omega (arith, e) in
    ap (λ k. xs ++ replicate k blank) none ∙ append-nil xs

-- Rows begin anew.

zero_or_zero : (b : Bool) → ◌≡◌ {A = ℕ} (if b then 0 else 0) 0
zero_or_zero true = refl
zero_or_zero false = refl

zero_anew : (peer : ℕ) (row : Row) → begun_anew peer (row, 0) ≡ 0
zero_anew peer row = zero_or_zero (row.peer == peer)

zeros_anew : (peer : ℕ) (rows : List Row) → map (begun_anew peer) (zip rows (replicate (length rows) 0)) ≡ replicate (length rows) 0
zeros_anew peer [] = refl
zeros_anew peer (row ∷ rows) = ap (λ n. n ∷ map (begun_anew peer) (zip rows (replicate (length rows) 0))) (zero_anew peer row)
    ∙ ap (λ ns. 0 ∷ ns) (zeros_anew peer rows)

grown_none : (n : ℕ) → grown {X = ℕ} 0 n [] ≡ replicate n 0
grown_none n = let same : n - 0 ≡ n = omega arith in ap (λ k. replicate k 0) same

grown_one : (row : Row) (rows : List Row) (n : ℕ) (ns : List ℕ) → grown 0 (length (row ∷ rows)) (n ∷ ns) ≡ n ∷ grown 0 (length rows) ns
grown_one row rows n ns = let same : length (row ∷ rows) - length (n ∷ ns) ≡ length rows - length ns = omega arith in ap (λ k. n ∷ (ns ++ replicate k 0)) same

-- rows that are behind the end of the numbers have none, also once they begin anew
pub anew_grown : (peer : ℕ) (rows : List Row) (ns : List ℕ) → length ns ≤ length rows
    → grown 0 (length rows) (map (begun_anew peer) (zip rows ns)) ≡ map (begun_anew peer) (zip rows (grown 0 (length rows) ns))
anew_grown peer [] [] le = refl
anew_grown peer [] (n ∷ ns) le = absurd (let none : ⊥ = omega (arith, le) in none)
anew_grown peer (row ∷ rows) [] le = grown_none (length (row ∷ rows)) ∙ sym (zeros_anew peer (row ∷ rows))
    ∙ ap (λ ms. map (begun_anew peer) (zip (row ∷ rows) ms)) (sym (grown_none (length (row ∷ rows))))
anew_grown peer (row ∷ rows) (n ∷ ns) le = grown_one row rows (begun_anew peer (row, n)) (map (begun_anew peer) (zip rows ns))
    ∙ ap (λ ms. begun_anew peer (row, n) ∷ ms) (anew_grown peer rows ns (omega (arith, le)))
    ∙ ap (λ ms. map (begun_anew peer) (zip (row ∷ rows) ms)) (sym (grown_one row rows n ns))

pub anew_length : (peer : ℕ) (rows : List Row) (ns : List ℕ) → length ns ≡ length rows → length (map (begun_anew peer) (zip rows ns)) ≡ length rows
anew_length peer [] ns e = refl
anew_length peer (row ∷ rows) [] e = absurd (let none : ⊥ = omega (arith, e) in none)
anew_length peer (row ∷ rows) (n ∷ ns) e = let rest = anew_length peer rows ns (omega (arith, e)) in omega (arith, rest)

-- one row more
pub one_anew : (peer : ℕ) (rows : List Row) (ns : List ℕ) (k : ℕ) (row : Row) (n : ℕ) → k < length rows → k < length ns → row ≡ get_or rows k row → n ≡ get_or ns k n
    → take (k + 1) (set ns k (begun_anew peer (row, n))) ++ map (begun_anew peer) (zip (drop (k + 1) rows) (drop (k + 1) (set ns k (begun_anew peer (row, n)))))
    ≡ take k ns ++ map (begun_anew peer) (zip (drop k rows) (drop k ns))
one_anew peer rows ns k row n in_rows in_ns is has =
    let v = begun_anew peer (row, n) in
    let rest = map (begun_anew peer) (zip (drop (k + 1) rows) (drop (k + 1) ns)) in
    ap (λ (ms : List ℕ). take (k + 1) (set ns k v) ++ map (begun_anew peer) (zip (drop (k + 1) rows) ms)) (drop-set-lt (k + 1) ns k v (omega arith))
    ∙ ap (λ (ms : List ℕ). ms ++ rest) (take_more_set ns k v in_ns)
    ∙ append_assoc (take k ns) (v ∷ []) rest
    ∙ ap (λ (m : ℕ). take k ns ++ m ∷ rest) (ap (λ (r : Row). begun_anew peer (r, n)) is ∙ ap (λ (m : ℕ). begun_anew peer (get_or rows k row, m)) has)
    ∙ ap (λ (ms : List ℕ). take k ns ++ map (begun_anew peer) (zip (get_or rows k row ∷ drop (k + 1) rows) ms)) (sym (at_drop_more (λ (ms : List ℕ). ms) ns k n in_ns))
    ∙ ap (λ (rs : List Row). take k ns ++ map (begun_anew peer) (zip rs (drop k ns))) (sym (at_drop_more (λ (rs : List Row). rs) rows k row in_rows))

zip_none : (rows : List Row) → zip {X = ℕ} rows [] ≡ []
zip_none [] = refl
zip_none (row ∷ rows) = refl

-- no row more
pub none_left : (peer : ℕ) (rows : List Row) (ns : List ℕ) (k : ℕ) → length ns ≤ k
    → take k ns ++ map (begun_anew peer) (zip (drop k rows) (drop k ns)) ≡ ns
none_left peer rows ns k past =
    ap (λ (ms : List ℕ). take k ns ++ map (begun_anew peer) (zip (drop k rows) ms)) (drop_all k ns past)
    ∙ ap (λ (ps : List (Row × ℕ)). take k ns ++ map (begun_anew peer) ps) (zip_none (drop k rows))
    ∙ append-nil (take k ns) ∙ take_all k ns past
