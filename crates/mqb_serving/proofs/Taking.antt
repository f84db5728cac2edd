-- What a sink takes, one text after another, and fronts of texts.
use Rattle.std.proofs.Common.{◌≡◌, ℕ, List, [], ◌++◌, Option, Some, None, refl, sym, ap, subst, ◌∙◌, append_assoc, take, drop}
use Rattle.std.proofs.lemmas.List.{append-nil, take-append-drop}
use Rattle.std.specs.Option.{option_map}
use Rattle.mqb_outside.specs.Told.{Gave, Took}
use Rattle.mqb_serving.specs.Laws.{Begins}
use Rattle.mqb_serving.specs.Steps.{TookFront}

pub took_then : (a b c : Option (List ℕ)) (x y : List ℕ) → Took a b x → Took b c y → Took a c (x ++ y)
took_then None b c x y first second = second ∙ ap (λ (o : Option (List ℕ)). option_map (λ t. t ++ y) o) first
took_then (Some t) b c x y first second =
    second ∙ ap (λ (o : Option (List ℕ)). option_map (λ t. t ++ y) o) first ∙ ap (λ (z : List ℕ). Some z) (append_assoc t x y)

pub took_none : (a : Option (List ℕ)) → Took a a []
took_none None = refl
took_none (Some t) = ap (λ (x : List ℕ). Some x) (sym (append-nil t))

-- what stayed has taken nothing
pub took_same : (a b : Option (List ℕ)) → b ≡ a → Took a b []
took_same a b same = subst (λ (o : Option (List ℕ)). Took a o []) (sym same) (took_none a)

pub gave_then : (a b c : Option (List ℕ)) (x y : List ℕ) → Gave a b x → Gave b c y → Gave a c (x ++ y)
gave_then a b None x y first second = first ∙ ap (λ (o : Option (List ℕ)). option_map (λ t. x ++ t) o) second
gave_then a b (Some t) x y first second =
    first ∙ ap (λ (o : Option (List ℕ)). option_map (λ t. x ++ t) o) second ∙ ap (λ (z : List ℕ). Some z) (sym (append_assoc x y t))

pub gave_none : (a : Option (List ℕ)) → Gave a a []
gave_none None = refl
gave_none (Some t) = refl

pub gave_same : (a b : Option (List ℕ)) → b ≡ a → Gave a b []
gave_same a b same = subst (λ (o : Option (List ℕ)). Gave a o []) (sym same) (gave_none a)

-- fronts

pub begins_same : (x y : List ℕ) → x ≡ y → Begins x y
begins_same x y same = ([], sym same ∙ sym (append-nil x))

pub begins_behind : (x y z : List ℕ) → Begins y z → Begins (x ++ y) (x ++ z)
begins_behind x y z b = (b.0, ap (λ (t : List ℕ). x ++ t) b.1 ∙ sym (append_assoc x y b.0))

pub begins_then : (x y z : List ℕ) → Begins x y → Begins y z → Begins x z
begins_then x y z first second = (first.0 ++ second.0, second.1 ∙ ap (λ (t : List ℕ). t ++ second.0) first.1 ∙ append_assoc x first.0 second.0)

pub front_none : (a b : Option (List ℕ)) (bytes : List ℕ) → b ≡ a → TookFront a b bytes
front_none a b bytes same = record { written = []; left = bytes; whole = refl; took = took_same a b same }

-- Of a text this was taken, and that is left.
pub record TookSoFar (before after : Option (List ℕ)) (text left : List ℕ) : Type 0 where
  pub written : List ℕ
  pub whole : written ++ left ≡ text
  pub took : Took before after written

pub so_far_none : (a : Option (List ℕ)) (text : List ℕ) → TookSoFar a a text text
so_far_none a text = record { written = []; whole = refl; took = took_none a }

pub so_far_then : (a b c : Option (List ℕ)) (text left : List ℕ) (n : ℕ) → TookSoFar a b text left → Took b c (take n left) → TookSoFar a c text (drop n left)
so_far_then a b c text left n before more = record {
  written = before.written ++ take n left;
  whole = append_assoc before.written (take n left) (drop n left) ∙ ap (λ (x : List ℕ). before.written ++ x) (take-append-drop n left) ∙ before.whole;
  took = took_then a b c before.written (take n left) before.took more;
}

-- a front was
pub so_far_front : (a b c : Option (List ℕ)) (text left : List ℕ) → TookSoFar a b text left → c ≡ b → TookFront a c text
so_far_front a b c text left s same = record { written = s.written; left = left; whole = s.whole; took = subst (λ (o : Option (List ℕ)). Took a o s.written) (sym same) s.took }

-- and in the end all
pub so_far_all : (a b : Option (List ℕ)) (text left : List ℕ) → left ≡ [] → TookSoFar a b text left → Took a b text
so_far_all a b text left none s =
    subst (λ (x : List ℕ). Took a b x) (sym (append-nil s.written) ∙ ap (λ (x : List ℕ). s.written ++ x) (sym none) ∙ s.whole) s.took
