-- First words, and what stands behind them.
use Rattle.std.proofs.Common.{◌≡◌, ℕ, ◌+◌, ◌-◌, ◌<◌, ◌≤◌, ◌++◌, List, [], drop, length, map, take, append-nil, subst, sym, arith}
use mathlib.Core.Logic.{⊎_elim}
use Rattle.std.proofs.lemmas.Bool.{cases_eq}
use Rattle.std.proofs.lemmas.List.{drop_all, drop-map, length-drop, length-map, map-append, take_all, take-map}

-- the words of a front, with a rest behind it
pub joined : {W : Type 0} (f : W → List ℕ) (words sample : List W) (count : ℕ) → map f (take count words ++ drop count sample) ≡ take count (map f words) ++ drop count (map f sample)
joined f words sample count =
    let both = map-append f (take count words) (drop count sample) in
    let front = take-map f count words in
    let rest = drop-map f count sample in
    cc

-- and where nothing is left of it
pub alone : {W : Type 0} (f : W → List ℕ) (words sample : List W) (count : ℕ) → length sample ≤ count
    → map f (take count words) ≡ take count (map f words) ++ drop count (map f sample)
alone f words sample count past =
    let same = length-map sample f in
    let none = drop_all count (map f sample) (omega (arith, same, past)) in
    let front = take-map f count words in
    let bare = append-nil (take count (map f words)) in
    cc

-- a rest is as long as what is left
pub whole : {W : Type 0} (count : ℕ) (sample : List W) → take (length sample - count) (drop count sample) ≡ drop count sample
whole count sample = take_all (length sample - count) (drop count sample) (let left = length-drop count sample in omega (arith, left))

-- what holds below a place and at it holds below the next one
pub one_more : (P : ℕ → Type 0) (at : ℕ) → ((k : ℕ) → k < at → P k) → P at → (k : ℕ) → k < at + 1 → P k
one_more P at before here k within = ⊎_elim (λ e. subst P (sym e) here) (λ n. before k (omega arith)) (cases_eq k at)
