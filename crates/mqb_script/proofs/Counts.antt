-- Words that are looked at one after another.
use Rattle.std.proofs.Common.{◌≡◌, ℕ, ◌+◌, ◌<◌, ◌≤◌, Bool, true, false, ◌&&◌, List, drop, length, map, get_or, refl, ap, ◌∙◌, Bor}
use Rattle.std.specs.List.{list_all}
use Rattle.std.proofs.lemmas.List.{at_drop_more, drop_all, length-map}
use Rattle.mqb_script.specs.Lines.{is_some_word}

pub ruleset counting = length-map

-- the words from a place on are none empty
abbrev pub are_some_from : ℕ → List (Bor (List ℕ)) → Bool
are_some_from place words = list_all is_some_word (map (λ word. word.now) (drop place words))

and_true : (a b : Bool) → a ≡ true → (a && b) ≡ b
and_true true b h = refl
and_true false b h = cc

and_false : (a b : Bool) → a ≡ false → (a && b) ≡ false
and_false true b h = cc
and_false false b h = refl

pub none_more : (whole : Bool) (place : ℕ) (words : List (Bor (List ℕ))) (d : Bor (List ℕ)) → whole ≡ are_some_from place words
    → place < length words → is_some_word (get_or words place d).now ≡ false
    → whole ≡ false
none_more whole place words d read within is =
    read ∙ at_drop_more (λ rest. list_all is_some_word (map (λ word. word.now) rest)) words place d within
    ∙ and_false (is_some_word (get_or words place d).now) (are_some_from (place + 1) words) is

pub all_some : (whole : Bool) (place : ℕ) (words : List (Bor (List ℕ))) → whole ≡ are_some_from place words → length words ≤ place → whole ≡ true
all_some whole place words read end =
    read ∙ ap (λ rest. list_all is_some_word (map (λ (word : Bor (List ℕ)). word.now) rest)) (drop_all place words end)
