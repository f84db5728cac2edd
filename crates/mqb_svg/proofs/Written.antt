-- Texts that are written one behind the other.
use Rattle.std.proofs.Common.{◌≡◌, ℕ, suc, ◌+◌, ◌<◌, List, [], ◌∷◌, ◌++◌, length, take, drop, get_or, drop-cons, Result, Ok, Err, OnOk, sym, ap, ◌∙◌, append_assoc, append-nil, arith}
use Rattle.std.specs.List.{flat_map}
use Rattle.std.proofs.lemmas.List.{take_more}
use Rattle.std.proofs.lemmas.Grind.{flat_map-append}
use Rattle.mqb_svg.specs.declared.elements.Element.{Element}
use Rattle.mqb_svg.specs.Svg.{ROW, row_text, rows_from}

flat_more : {X : Type 0} (f : X → List ℕ) (xs : List X) (k : ℕ) (d : X) → k < length xs
    → flat_map f (take (k + 1) xs) ≡ flat_map f (take k xs) ++ f (get_or xs k d)
flat_more f xs k d within =
    ap (flat_map f) (take_more xs k d within) ∙ flat_map-append f (take k xs) (get_or xs k d ∷ [])
    ∙ ap (λ rest. flat_map f (take k xs) ++ rest) (append-nil (f (get_or xs k d)))

-- the text of one member more
pub wrote_more : {X : Type 0} (f : X → List ℕ) (start page next : List ℕ) (xs : List X) (k : ℕ) (d : X)
    → page ≡ start ++ flat_map f (take k xs) → k < length xs → next ≡ page ++ f (get_or xs k d)
    → next ≡ start ++ flat_map f (take (k + 1) xs)
wrote_more f start page next xs k d before within now =
    now ∙ ap (λ p. p ++ f (get_or xs k d)) before ∙ append_assoc start (flat_map f (take k xs)) (f (get_or xs k d))
    ∙ ap (λ rest. start ++ rest) (sym (flat_more f xs k d within))

-- the row of one element more
pub rows_more : (whole page next : List ℕ) (y k : ℕ) (xs : List Element) (x : Element) → page ++ rows_from y (drop k xs) ≡ whole → k < length xs
    → x ≡ get_or xs k x → next ≡ page ++ row_text y x → next ++ rows_from (y + ROW) (drop (k + 1) xs) ≡ whole
rows_more whole page next y k xs x before within is now =
    let behind : List ℕ = rows_from (y + ROW) (drop (k + 1) xs) in
    let step : suc k ≡ k + 1 = omega arith in
    let split : drop k xs ≡ x ∷ drop (k + 1) xs =
    drop-cons xs k x within ∙ ap (λ (e : Element). e ∷ drop (suc k) xs) (sym is) ∙ ap (λ (n : ℕ). x ∷ drop n xs) step in
    ap (λ (p : List ℕ). p ++ behind) now ∙ append_assoc page (row_text y x) behind
    ∙ ap (λ (es : List Element). page ++ rows_from y es) (sym split) ∙ before

-- Four texts and five, the last one by a call that may want memory.

pub wrote_four : {T E : Type 0} (r : Result T E) (start p1 p2 p3 last a b c d : List ℕ) → p1 ≡ start ++ a → p2 ≡ p1 ++ b → p3 ≡ p2 ++ c
    → OnOk r (last ≡ p3 ++ d) → OnOk r (last ≡ start ++ (((a ++ b) ++ c) ++ d))
wrote_four (Err e) start p1 p2 p3 last a b c d first second third fourth = tt
wrote_four (Ok x) start p1 p2 p3 last a b c d first second third fourth =
    fourth ∙ ap (λ (p : List ℕ). p ++ d) third ∙ ap (λ (p : List ℕ). (p ++ c) ++ d) second ∙ ap (λ (p : List ℕ). ((p ++ b) ++ c) ++ d) first
    ∙ simp append_assoc

pub wrote_five : {T E : Type 0} (r : Result T E) (start p1 p2 p3 p4 last a b c d e : List ℕ) → p1 ≡ start ++ a → p2 ≡ p1 ++ b → p3 ≡ p2 ++ c
    → p4 ≡ p3 ++ d → OnOk r (last ≡ p4 ++ e) → OnOk r (last ≡ start ++ ((((a ++ b) ++ c) ++ d) ++ e))
wrote_five (Err x) start p1 p2 p3 p4 last a b c d e first second third fourth fifth = tt
wrote_five (Ok x) start p1 p2 p3 p4 last a b c d e first second third fourth fifth =
    fifth ∙ ap (λ (p : List ℕ). p ++ e) fourth ∙ ap (λ (p : List ℕ). (p ++ d) ++ e) third ∙ ap (λ (p : List ℕ). ((p ++ c) ++ d) ++ e) second
    ∙ ap (λ (p : List ℕ). (((p ++ b) ++ c) ++ d) ++ e) first ∙ simp append_assoc
