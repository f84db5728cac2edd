use Rattle.std.proofs.Common.{◌≡◌, ◌≤◌, ℕ, ◌+◌, List, [], ◌++◌, length, take, drop, sym, ◌∙◌, ap, refl, Option, Some, None}
use Rattle.std.proofs.lemmas.List.{take-append-drop, drop-append-le, drop-drop, drop-take, append_assoc}
use Rattle.std.proofs.Math.Seq.{drop-length}
use Rattle.std.specs.Option.{option_map}

-- what is left at a place is its first part and what is left behind that
pub drop_is_take_drop : (at n : ℕ) (xs : List ℕ) → drop at xs ≡ take n (drop at xs) ++ drop (at + n) xs
drop_is_take_drop at n xs = sym (ap (λ (rest : List ℕ). take n (drop at xs) ++ rest) (sym (drop-drop n at xs)) ∙ take-append-drop n (drop at xs))

-- what is left of bytes whose front is known is what is left of the front, and what lies behind it
pub left_of_more : (at len : ℕ) (xs old : List ℕ) → at ≤ length old → take len xs ≡ old → drop at xs ≡ drop at old ++ drop len xs
left_of_more at len xs old le e = sym (ap (λ (ys : List ℕ). drop at ys) (take-append-drop len xs)) ∙ ap (λ (front : List ℕ). drop at (front ++ drop len xs)) e ∙ drop-append-le at old (drop len xs) le

-- what came stands behind what was left
pub stands_behind : (left new came : List ℕ) (before after : Option (List ℕ)) → new ≡ left ++ came → before ≡ option_map (λ rest. came ++ rest) after
    → option_map (λ rest. new ++ rest) after ≡ option_map (λ rest. left ++ rest) before
stands_behind left new came before None e gave = sym (ap (option_map (λ (rest : List ℕ). left ++ rest)) gave)
stands_behind left new came before (Some r) e gave = ap (λ (n : List ℕ). Some (n ++ r)) e ∙ ap Some (append_assoc left came r) ∙ sym (ap (option_map (λ (rest : List ℕ). left ++ rest)) gave)

-- where nothing came before, what is held is what is to come
pub nothing_before : (held : Option (List ℕ)) → option_map (λ rest. [] ++ rest) held ≡ held
nothing_before None = refl
nothing_before (Some r) = refl

-- what was left, and behind it what came, is what is left
pub behind_left : (at len : ℕ) (old new left : List ℕ) (before after : Option (List ℕ)) → at ≤ length old → drop at old ≡ left → take len new ≡ old
    → before ≡ option_map (λ rest. drop len new ++ rest) after → option_map (λ rest. drop at new ++ rest) after ≡ option_map (λ rest. left ++ rest) before
behind_left at len old new left before after le was front = stands_behind left (drop at new) (drop len new) before after (left_of_more at len new old le front ∙ ap (λ (l : List ℕ). l ++ drop len new) was)

-- what came, where so much of it is kept
pub heard_behind : (old len n : ℕ) (xs kept : List ℕ) (before after : Option (List ℕ)) → len ≡ old → kept ≡ take (len + n) xs
    → before ≡ option_map (λ rest. take n (drop len xs) ++ rest) after → before ≡ option_map (λ rest. drop old kept ++ rest) after
heard_behind old len n xs kept before after same is gave = gave ∙ ap (λ (came : List ℕ). option_map (λ (rest : List ℕ). came ++ rest) after)
    (sym (ap (λ (ys : List ℕ). drop len ys) is ∙ drop-take len n xs) ∙ ap (λ (k : ℕ). drop k kept) same)

-- where nothing of it is kept, nothing came
pub nothing_behind : (xs : List ℕ) (held : Option (List ℕ)) → held ≡ option_map (λ rest. drop (length xs) xs ++ rest) held
nothing_behind xs held = sym (ap (λ (came : List ℕ). option_map (λ (rest : List ℕ). came ++ rest) held) (drop-length xs) ∙ nothing_before held)
