-- The lines of a list up to a place, and from there on.
use Rattle.std.proofs.Common.{◌≡◌, ◌+◌, ◌<◌, List, [], ◌∷◌, ◌++◌, ap, arith, drop, drop-cons, get_or, length, suc, sym, take, ◌∙◌, ℕ}
use Rattle.std.proofs.lemmas.List.{take-append-drop}
use Rattle.std.proofs.Math.Seq.{take-suc}
use Rattle.mqb_script.specs.declared.events.Event.{Event}

-- the lines before a place and the line there
pub taken_one : (lines : List (ℕ × Event)) (i : ℕ) (line : ℕ × Event) → i < length lines → line ≡ get_or lines i line
    → take (i + 1) lines ≡ take i lines ++ line ∷ []
taken_one lines i line within there =
    let next : suc i ≡ i + 1 = omega arith in
    ap (λ (n : ℕ). take n lines) (sym next) ∙ take-suc lines i line within ∙ ap (λ (x : ℕ × Event). take i lines ++ x ∷ []) (sym there)

-- the line at a place, and those behind it
pub line_at : (lines : List (ℕ × Event)) (i : ℕ) (line : ℕ × Event) → i < length lines → line ≡ get_or lines i line → drop i lines ≡ line ∷ drop (i + 1) lines
line_at lines i line within there =
    let next : suc i ≡ i + 1 = omega arith in
    drop-cons lines i line within ∙ ap (λ (x : ℕ × Event). x ∷ drop (suc i) lines) (sym there) ∙ ap (λ (n : ℕ). line ∷ drop n lines) next

pub split_at : (lines : List (ℕ × Event)) (i : ℕ) (line : ℕ × Event) → i < length lines → line ≡ get_or lines i line
    → lines ≡ take i lines ++ line ∷ drop (i + 1) lines
split_at lines i line within there =
    sym (take-append-drop i lines) ∙ ap (λ (xs : List (ℕ × Event)). take i lines ++ xs) (line_at lines i line within there)
