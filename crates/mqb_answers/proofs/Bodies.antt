-- The lines of the messages that ops took, one behind the other.
use Rattle.std.proofs.Common.{◌≡◌, ℕ, ◌+◌, ◌<◌, [], ◌∷◌, ◌++◌, List, None, Option, Some, ap, append-nil, append_assoc, get_or, length, refl, sym, take, ◌∙◌}
use Rattle.std.proofs.lemmas.Grind.{flat_map-append}
use Rattle.std.proofs.lemmas.List.Elements.{filter_map-append}
use Rattle.std.proofs.lemmas.List.{take_more}
use Rattle.std.specs.List.{filter_map, flat_map}
use Rattle.std.specs.Option.{option_map_or}

-- what one item gives
single : {X Y : Type 0} (f : Y → List ℕ) (o : Option Y) (rest : X → Option Y) (x : X) → rest x ≡ o
    → flat_map f (filter_map rest (x ∷ [])) ≡ option_map_or f o []
single f None rest x is = rw is refl
single f (Some y) rest x is = rw is (append-nil (f y))

-- one item more
taken_more : {X Y : Type 0} (f : Y → List ℕ) (g : X → Option Y) (xs : List X) (k : ℕ) (x : X) → k < length xs → x ≡ get_or xs k x
    → flat_map f (filter_map g (take (k + 1) xs)) ≡ flat_map f (filter_map g (take k xs)) ++ option_map_or f (g x) []
taken_more f g xs k x within is =
    ap (λ ys. flat_map f (filter_map g ys)) (take_more xs k x within ∙ ap (λ y. take k xs ++ y ∷ []) (sym is))
    ∙ ap (flat_map f) (filter_map-append g (take k xs) (x ∷ []))
    ∙ flat_map-append f (filter_map g (take k xs)) (filter_map g (x ∷ []))
    ∙ ap (λ more. flat_map f (filter_map g (take k xs)) ++ more) (single f (g x) g x refl)

-- a text with one item more behind it
pub text_more : {X Y : Type 0} (f : Y → List ℕ) (g : X → Option Y) (start text next : List ℕ) (xs : List X) (k : ℕ) (x : X)
    → text ≡ start ++ flat_map f (filter_map g (take k xs)) → k < length xs → x ≡ get_or xs k x
    → next ≡ text ++ option_map_or f (g x) []
    → next ≡ start ++ flat_map f (filter_map g (take (k + 1) xs))
text_more f g start text next xs k x before within is now =
    now ∙ ap (λ t. t ++ option_map_or f (g x) []) before
    ∙ append_assoc start (flat_map f (filter_map g (take k xs))) (option_map_or f (g x) [])
    ∙ ap (λ more. start ++ more) (sym (taken_more f g xs k x within is))
