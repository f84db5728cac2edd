-- What a line adds to the picture that was drawn.
use Rattle.std.proofs.Common.{◌≡◌, ℕ, ◌+◌, ◌-◌, ◌<◌, ◌≤◌, List, length, take, drop, map, get_or, codes, Some, Result, refl, sym, ap, subst, ◌∙◌, arith, Bor}
use Rattle.std.proofs.lemmas.List.{at_drop_more, drop_all, take_all, drop-drop, length-drop, take-map, drop-map}
use Rattle.std.specs.List.{position}
use Rattle.mqb_base.specs.Same.{same_bytes}
use Rattle.mqb_picture.specs.Words.{lines_of}
use Rattle.mqb_picture.specs.declared.faults.Kind.{Kind}
use Rattle.mqb_picture.specs.declared.faults.Fault.{Fault}
use Rattle.mqb_picture.specs.Faults.{IsFaultOf}
use Rattle.mqb_picture.specs.Elements.{Progress}
use Rattle.mqb_picture.specs.Reading.{ended, drawn_from, blank, split_from, picture_of, TurnsTo, Stops}

abbrev texts : List (Bor (List ℕ)) → List (List ℕ)
texts lines = map (λ line. line.now) lines

-- The lines before a place were drawn with the replies before another: the whole is what those from there on give.
abbrev pub IsDrawnTo : Result Progress Kind → ℕ → ℕ → List (Bor (List ℕ)) → ℕ → List (Bor (List ℕ)) → Progress → Type 0
IsDrawnTo whole n place script at replies p = whole ≡ drawn_from n (texts (drop place script)) (texts (drop at replies)) p

-- what a range that goes to the end takes of a list
abbrev rest_at : {X : Type 0} → ℕ → List X → List X
rest_at at xs = take (length xs - at) (drop at xs)

rest_is : {X : Type 0} (at : ℕ) (xs : List X) → rest_at at xs ≡ drop at xs
rest_is at xs = let all : length (drop at xs) ≤ length xs - at = simp length-drop (omega arith) in take_all (length xs - at) (drop at xs) all

pub drawn_more : (whole : Result Progress Kind) (n place at count : ℕ) (script replies : List (Bor (List ℕ))) (p q : Progress) (d : Bor (List ℕ))
    → IsDrawnTo whole n place script at replies p → place < length script
    → TurnsTo (n + 1) (get_or script place d).now (texts (rest_at at replies)) p (texts (drop count (rest_at at replies))) q
    → IsDrawnTo whole (n + 1) (place + 1) script (at + count) replies q
drawn_more whole n place at count script replies p q d read within turn =
    let line : List ℕ = (get_or script place d).now in
    let turns : TurnsTo (n + 1) line (texts (drop at replies)) p (texts (drop (at + count) replies)) q =
    subst (λ (rest : List (Bor (List ℕ))). TurnsTo (n + 1) line (texts (drop at replies)) p (texts rest) q) (drop-drop count at replies)
    (subst (λ (rest : List (Bor (List ℕ))). TurnsTo (n + 1) line (texts rest) p (texts (drop count rest)) q) (rest_is at replies) turn) in
    read ∙ at_drop_more (λ rest. drawn_from n (texts rest) (texts (drop at replies)) p) script place d within
    ∙ turns n (texts (drop (place + 1) script)) refl

pub drawn_refused : (whole : Result Progress Kind) (n place at : ℕ) (script replies : List (Bor (List ℕ))) (p : Progress) (d : Bor (List ℕ)) (e : Fault)
    → IsDrawnTo whole n place script at replies p → place < length script
    → Stops (n + 1) (get_or script place d).now (texts (rest_at at replies)) p e → IsFaultOf whole e
drawn_refused whole n place at script replies p d e read within stop = λ kind is.
    let line : List ℕ = (get_or script place d).now in
    let stops : Stops (n + 1) line (texts (drop at replies)) p e =
    subst (λ (rest : List (Bor (List ℕ))). Stops (n + 1) line (texts rest) p e) (rest_is at replies) stop in
    read ∙ at_drop_more (λ rest. drawn_from n (texts rest) (texts (drop at replies)) p) script place d within
    ∙ stops n (texts (drop (place + 1) script)) refl kind is

pub drawn_end : (whole : Result Progress Kind) (n place at : ℕ) (script replies : List (Bor (List ℕ))) (p : Progress)
    → IsDrawnTo whole n place script at replies p → length script ≤ place → whole ≡ ended (texts (drop at replies)) p
drawn_end whole n place at script replies p read end =
    read ∙ ap (λ (rest : List (Bor (List ℕ))). drawn_from n (texts rest) (texts (drop at replies)) p) (drop_all place script end)

-- the script stands before the line at a place, and the replies behind it
pub split_is : (text : List ℕ) (items l1 l2 l3 : List (Bor (List ℕ))) (at : ℕ) → texts items ≡ lines_of text → l1 ≡ items → l2 ≡ items → l3 ≡ items
    → position (λ line. same_bytes line (codes "transcript")) (texts l1) ≡ Some at
    → drawn_from 0 (texts (take at l2)) (texts (rest_at (at + 1) l3)) blank ≡ picture_of text
unfolding picture_of
split_is text items l1 l2 l3 at lines one two three found =
    let found' : position (λ line. same_bytes line (codes "transcript")) (texts items) ≡ Some at =
    subst (λ (ls : List (Bor (List ℕ))). position (λ line. same_bytes line (codes "transcript")) (texts ls) ≡ Some at) one found in
    let whole : split_from (texts items) (position (λ line. same_bytes line (codes "transcript")) (texts items)) ≡ picture_of text =
    ap (λ (ls : List (List ℕ)). split_from ls (position (λ line. same_bytes line (codes "transcript")) ls)) lines in
    let front : texts (take at l2) ≡ take at (texts items) = ap (λ (ls : List (Bor (List ℕ))). texts (take at ls)) two ∙ sym (take-map (λ (line : Bor (List ℕ)). line.now) at items) in
    let back : texts (drop (at + 1) l3) ≡ drop (at + 1) (texts items) = ap (λ (ls : List (Bor (List ℕ))). texts (drop (at + 1) ls)) three ∙ sym (drop-map (λ (line : Bor (List ℕ)). line.now) (at + 1) items) in
    ap (λ (ls : List (Bor (List ℕ))). drawn_from 0 (texts (take at l2)) (texts ls) blank) (rest_is (at + 1) l3)
    ∙ ap (λ (ls : List (List ℕ)). drawn_from 0 ls (texts (drop (at + 1) l3)) blank) front
    ∙ ap (λ (ls : List (List ℕ)). drawn_from 0 (take at (texts items)) ls blank) back
    ∙ ap (split_from (texts items)) (sym found') ∙ whole
