-- Parts that lack a byte, joined by it, are split again.
use Rattle.std.proofs.Common.{◌≡◌, ℕ, Bool, true, false, ◌==◌, ◌&&◌, not, List, [], ◌∷◌, ◌++◌, refl, ap, ◌∙◌, arith}
use Rattle.std.specs.List.{list_all, slice_split, join_with_byte}
use Rattle.std.proofs.lemmas.List.Folds.{list_all-append}
use Rattle.std.proofs.lemmas.Bool.Decides.{nat_tests}
use Rattle.mqb_forms.proofs.Tests.{both}

abbrev pub lacks : ℕ → List ℕ → Bool
lacks c part = list_all (λ b. not (b == c)) part

abbrev pub all_lack : ℕ → List (List ℕ) → Bool
all_lack c parts = list_all (lacks c) parts

differs_and : (a b : Bool) → (not a && b) ≡ true → (a ≡ false) × (b ≡ true)
differs_and true b h = cc
differs_and false b h = (refl, h)

same_test : (c : ℕ) → (c == c) ≡ true
same_test c = grind (arith, nat_tests)

pub split_last : (c : ℕ) (part : List ℕ) → lacks c part ≡ true → slice_split (λ b. b == c) part ≡ part ∷ []
split_last c [] h = refl
split_last c (x ∷ part) h = let k = differs_and (x == c) (lacks c part) h in rw (k.0, split_last c part k.1) refl

pub split_first : (c : ℕ) (part rest : List ℕ) → lacks c part ≡ true
    → slice_split (λ b. b == c) (part ++ c ∷ rest) ≡ part ∷ slice_split (λ b. b == c) rest
split_first c [] rest h = rw (same_test c) refl
split_first c (x ∷ part) rest h = let k = differs_and (x == c) (lacks c part) h in rw (k.0, split_first c part rest k.1) refl

pub split_join : (c : ℕ) (part : List ℕ) (parts : List (List ℕ)) → all_lack c (part ∷ parts) ≡ true
    → slice_split (λ b. b == c) (join_with_byte c (part ∷ parts)) ≡ part ∷ parts
split_join c part [] h = split_last c part (both (lacks c part) true h).0
split_join c part (next ∷ parts) h =
    let k = both (lacks c part) (all_lack c (next ∷ parts)) h in
    split_first c part (join_with_byte c (next ∷ parts)) k.0 ∙ ap (λ rest. part ∷ rest) (split_join c next parts k.1)

pub lacks-append : (c : ℕ) (xs ys : List ℕ) → lacks c xs ≡ true → lacks c ys ≡ true → lacks c (xs ++ ys) ≡ true
lacks-append c xs ys a b = rw (list_all-append (λ x. not (x == c)) xs ys, a, b) refl

-- where each byte that passes a test is another byte, what passes it lacks the byte
pub lacks_where : (c : ℕ) (test : ℕ → Bool) (other : (b : ℕ) → test b ≡ true → (b == c) ≡ false) (part : List ℕ) → list_all test part ≡ true
    → lacks c part ≡ true
lacks_where c test other [] h = refl
lacks_where c test other (x ∷ part) h = let k = both (test x) (list_all test part) h in rw (other x k.0, lacks_where c test other part k.1) refl

-- where each part lacks a byte, so does what another byte joins of them
pub lacks-join : (c by : ℕ) → (by == c) ≡ false → (part : List ℕ) (parts : List (List ℕ)) → all_lack c (part ∷ parts) ≡ true
    → lacks c (join_with_byte by (part ∷ parts)) ≡ true
lacks-join c by other part [] h = (both (lacks c part) true h).0
lacks-join c by other part (next ∷ parts) h =
    let k = both (lacks c part) (all_lack c (next ∷ parts)) h in
    lacks-append c part (by ∷ join_with_byte by (next ∷ parts)) k.0 (rw (other, lacks-join c by other next parts k.1) refl)
