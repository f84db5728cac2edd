-- What a sink takes, one text after another.
use Rattle.std.proofs.Common.{◌≡◌, ℕ, List, [], ◌++◌, take, drop, Option, Some, None, refl, sym, ap, subst, ◌∙◌, append_assoc, append-nil}
use Rattle.std.proofs.lemmas.List.{take-append-drop}
use Rattle.std.specs.Option.{option_map}
use Rattle.mqb_outside.specs.Told.{Took}
use Rattle.mqb_inspect.specs.Outputs.{TookFront}

pub took_then : (a b c : Option (List ℕ)) (x y : List ℕ) → Took a b x → Took b c y → Took a c (x ++ y)
took_then None b c x y first second = second ∙ ap (λ (o : Option (List ℕ)). option_map (λ t. t ++ y) o) first
took_then (Some t) b c x y first second =
    second ∙ ap (λ (o : Option (List ℕ)). option_map (λ t. t ++ y) o) first ∙ ap (λ (z : List ℕ). Some z) (append_assoc t x y)

pub took_none : (a : Option (List ℕ)) → Took a a []
took_none None = refl
took_none (Some t) = ap (λ (x : List ℕ). Some x) (sym (append-nil t))

-- Of a text this was taken, and that is left.
pub record TookSoFar (before after : Option (List ℕ)) (text left : List ℕ) : Type 0 where
  pub written : List ℕ
  pub whole : written ++ left ≡ text
  pub took : Took before after written

pub so_far_none : (a : Option (List ℕ)) (text : List ℕ) → TookSoFar a a text text
so_far_none a text = record { written = []; whole = refl; took = took_none a }

pub so_far_then : (a b c : Option (List ℕ)) (text left : List ℕ) (n : ℕ) → TookSoFar a b text left → Took b c (take n left) → TookSoFar a c text (drop n left)
so_far_then a b c text left n before more = record {
  written = before.written ++ take n left;
  whole = append_assoc before.written (take n left) (drop n left) ∙ ap (λ (x : List ℕ). before.written ++ x) (take-append-drop n left) ∙ before.whole;
  took = took_then a b c before.written (take n left) before.took more;
}

pub so_far_front : (a b : Option (List ℕ)) (text left : List ℕ) → TookSoFar a b text left → TookFront a b text
so_far_front a b text left s = record { written = s.written; left = left; whole = s.whole; took = s.took }

pub so_far_all : (a b : Option (List ℕ)) (text left : List ℕ) → left ≡ [] → TookSoFar a b text left → Took a b text
so_far_all a b text left none s =
    subst (λ (x : List ℕ). Took a b x) (sym (append-nil s.written) ∙ ap (λ (x : List ℕ). s.written ++ x) (sym none) ∙ s.whole) s.took

-- nothing was taken yet
pub front_none : (a : Option (List ℕ)) (text : List ℕ) → TookFront a a text
front_none a text = record { written = []; left = text; whole = refl; took = took_none a }
