-- Lines that were answered behind others.
use Rattle.std.proofs.Common.{◌≡◌, ◌∙◌, ◌++◌, ◌∷◌, [], List, Option, ap, append_assoc, refl, subst, sym, ℕ}
use Rattle.std.proofs.lemmas.Grind.{flat_map-append}
use Rattle.std.proofs.lemmas.List.{map-append}
use Rattle.std.specs.List.{AllByRecursion}
use Rattle.mqb_commands.specs.declared.status.Status.{Status}
use Rattle.mqb_shell.specs.Answered.{Answered, Answers, GoesOver, StopsIn, lines_of}
use Rattle.mqb_shell.specs.Lines.{IsCut, IsOneLine, joined}
use Rattle.mqb_shell.specs.Standing.{Standing}

all_then : (P : List ℕ → Type 0) (xs ys : List (List ℕ)) → AllByRecursion P xs → AllByRecursion P ys → AllByRecursion P (xs ++ ys)
all_then P [] ys first second = second
all_then P (x ∷ xs) ys first second = (first.0, all_then P xs ys first.1 second)

joined_then : (xs ys : List (List ℕ)) → joined (xs ++ ys) ≡ joined xs ++ joined ys
joined_then xs ys = flat_map-append (λ line. line ++ 10 ∷ []) xs ys

-- a text that is cut, and what is behind it too
pub cut_then : (held x y : List ℕ) (xs ys : List (List ℕ)) (mid rest : List ℕ) → IsCut (held ++ x) xs mid → IsCut (mid ++ y) ys rest → IsCut (held ++ (x ++ y)) (xs ++ ys) rest
cut_then held x y xs ys mid rest first second = record {
  whole = sym (append_assoc held x y) ∙ ap (λ (t : List ℕ). t ++ y) first.whole ∙ append_assoc (joined xs) mid y
      ∙ ap (λ (t : List ℕ). joined xs ++ t) second.whole ∙ sym (append_assoc (joined xs) (joined ys) rest)
      ∙ ap (λ (t : List ℕ). t ++ rest) (sym (joined_then xs ys));
  each = all_then IsOneLine xs ys first.each second.each;
}

-- none yet
pub cut_none : (text : List ℕ) → IsCut text [] text
cut_none text = record { whole = refl; each = tt }

answers_then : (steady : Option ℕ) (b m a : Standing) (before mid after : Option (List ℕ)) (xs ys : List Answered)
    → Answers steady b before xs m mid → Answers steady m mid ys a after → Answers steady b before (xs ++ ys) a after
answers_then steady b m a before mid after [] ys first second =
    subst (λ (k : Standing). Answers steady k before ys a after) first.0 (subst (λ (t : Option (List ℕ)). Answers steady m t ys a after) first.1 second)
answers_then steady b m a before mid after (x ∷ xs) ys first second = (first.0, answers_then steady x.behind m a x.taken mid after xs ys first.1 second)

lines_then : (xs ys : List Answered) → lines_of (xs ++ ys) ≡ lines_of xs ++ lines_of ys
lines_then xs ys = map-append (λ (x : Answered). x.line) xs ys

module _ {steady : Option ℕ} {held x y mid : List ℕ} {b m a : Standing} {before told after : Option (List ℕ)} (first : GoesOver steady held x mid b m before told) where
  pub goes_then : {rest : List ℕ} → GoesOver steady mid y rest m a told after → GoesOver steady held (x ++ y) rest b a before after
  goes_then {rest} second = record {
    done = first.done ++ second.done;
    cut = subst (λ (lines : List (List ℕ)). IsCut (held ++ (x ++ y)) lines rest) (sym (lines_then first.done second.done))
        (cut_then held x y (lines_of first.done) (lines_of second.done) mid rest first.cut second.cut);
    one = second.one;
    answers = answers_then steady b m a before told after first.done second.done first.answers second.answers;
  }

  pub stops_then : {r : Status} → StopsIn steady mid y m a told after r → StopsIn steady held (x ++ y) b a before after r
  stops_then {r} second = record {
    done = first.done ++ second.done;
    rest = second.rest;
    mid = second.mid;
    told = second.told;
    cut = subst (λ (lines : List (List ℕ)). IsCut (held ++ (x ++ y)) lines second.rest) (sym (lines_then first.done second.done))
        (cut_then held x y (lines_of first.done) (lines_of second.done) mid second.rest first.cut second.cut);
    answers = answers_then steady b m second.mid before told second.told first.done second.done first.answers second.answers;
    stops = second.stops;
  }
