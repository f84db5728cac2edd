-- What is said of the bytes that were taken is said of all that a source held.
use Rattle.std.proofs.Common.{◌≡◌, ◌<◌, ◌≤◌, ℕ, Bool, true, false, List, [], ◌∷◌, ◌++◌, length, take, nat_lt, Option, None, Some, Result, Ok, Err, refl, sym, ap, subst, ◌∙◌, append-nil, arith}
use Rattle.std.specs.Prelude.{IfSome}
use Rattle.std.proofs.lemmas.Bool.{ltb-false, ltb-true}
use Rattle.std.proofs.lemmas.List.{take_all}
use Rattle.mqb_capture.specs.Verdicts.{Says}
use Rattle.mqb_capture.specs.declared.answers.BreakCause.TheVariants as cause
use Rattle.mqb_capture.specs.declared.answers.InspectFault.{InspectFault}
use Rattle.mqb_capture.specs.declared.answers.TheConstants.{MAX_CAPTURE}
use Rattle.mqb_capture.specs.declared.answers.Verdict.{Verdict}
use Rattle.mqb_capture.specs.declared.answers.Verdict.TheVariants as verdict
use Rattle.mqb_inspect.specs.Input.{IsAtEnd, IsTaken}
use Rattle.mqb_inspect.specs.Saying.{EndsInput}

take_length : (xs ys : List ℕ) → take (length xs) (xs ++ ys) ≡ xs
take_length [] ys = refl
take_length (x ∷ xs) ys = ap (λ (zs : List ℕ). x ∷ zs) (take_length xs ys)

taken_is : (text rest : List ℕ) → length text ≤ MAX_CAPTURE → (length text < MAX_CAPTURE → rest ≡ []) → take MAX_CAPTURE (text ++ rest) ≡ text
taken_is text rest most ended = by (nat_lt (length text) MAX_CAPTURE) refl
  where
    by : (b : Bool) → nat_lt (length text) MAX_CAPTURE ≡ b → take MAX_CAPTURE (text ++ rest) ≡ text
    by true e =
        ap (λ (r : List ℕ). take MAX_CAPTURE (text ++ r)) (ended (ltb-true (length text) MAX_CAPTURE e))
        ∙ ap (λ (t : List ℕ). take MAX_CAPTURE t) (append-nil text) ∙ take_all MAX_CAPTURE text most
    by false e =
        let least = ltb-false (length text) MAX_CAPTURE e in
        let same : MAX_CAPTURE ≡ length text = omega (arith, least, most) in
        ap (λ (n : ℕ). take n (text ++ rest)) same ∙ take_length text rest

pub told_says : (before after : Option (List ℕ)) (text : List ℕ) (r : Result Verdict InspectFault) → IsTaken before after text
    → ((whole : List ℕ) → take MAX_CAPTURE whole ≡ text → Says whole r) → IfSome before (λ bytes. Says bytes r)
told_says before None text r t says = subst (λ (o : Option (List ℕ)). IfSome o (λ bytes. Says bytes r)) (sym t.gave) tt
told_says before (Some rest) text r t says = subst (λ (o : Option (List ℕ)). IfSome o (λ bytes. Says bytes r)) (sym t.gave) (says (text ++ rest) (taken_is text rest t.most t.ended))

ends_by : (after : Option (List ℕ)) (text : List ℕ) (r : Result Verdict InspectFault) → (length text < MAX_CAPTURE → IsAtEnd after) → Says text r → EndsInput r after
ends_by after text (Ok (verdict.Lawful sent heard)) ended said = ended said.0
ends_by after text (Ok (verdict.Broken index cause.Cut)) ended said = ended said.0
ends_by after text (Ok (verdict.Broken index (cause.Bad fault))) ended said = tt
ends_by after text (Ok (verdict.Broken index cause.Origin)) ended said = tt
ends_by after text (Ok (verdict.Broken index cause.Phase)) ended said = tt
ends_by after text (Ok (verdict.Broken index cause.Window)) ended said = tt
ends_by after text (Ok (verdict.Broken index cause.Stamp)) ended said = tt
ends_by after text (Ok (verdict.Broken index (cause.Closed why))) ended said = tt
ends_by after text (Ok (verdict.Broken index cause.Link)) ended said = tt
ends_by after text (Err why) ended said = tt

-- what was read of it
pub told_ends : (before after : Option (List ℕ)) (text : List ℕ) (r : Result Verdict InspectFault) → IsTaken before after text
    → ((whole : List ℕ) → take MAX_CAPTURE whole ≡ text → Says whole r) → EndsInput r after
told_ends before after text r t says = ends_by after text r t.ended (says text (take_all MAX_CAPTURE text t.most))
