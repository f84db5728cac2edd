-- Connections that were served behind others.
use Rattle.std.proofs.Common.{◌≡◌, ◌+◌, ℕ, List, [], ◌∷◌, ◌++◌, length, Option, Some, None, refl, sym, ap, subst, ◌∙◌, append_assoc, append-nil, arith}
use Rattle.std.proofs.lemmas.List.{map-append}
use Rattle.std.specs.List.{AllByRecursion}
use Rattle.std.specs.Option.{option_map}
use Rattle.std.specs.Prelude.{map}
use Rattle.mqb_outside.specs.Net.{Ended}
use Rattle.mqb_manager.specs.States.{ManagerState}
use Rattle.mqb_serving.specs.declared.purpose.Purpose.{Purpose}
use Rattle.mqb_connections.specs.Served.{with_last}
use Rattle.mqb_connections.specs.Visits.{AreFinished, Visit, Visits, end_line, lines_from}

pub visits_then : (asks : Purpose) (steady : Option ℕ) (m n o : ManagerState) (xs ys : List Visit)
    → Visits asks steady m xs n → Visits asks steady n ys o → Visits asks steady m (xs ++ ys) o
visits_then asks steady m n o [] ys first second = subst (λ (k : ManagerState). Visits asks steady k ys o) first second
visits_then asks steady m n o (x ∷ xs) ys first second = (first.0, visits_then asks steady x.after n o xs ys first.1 second)

pub lines_then : (number next : ℕ) (xs ys : List Visit) → next ≡ number + length xs → lines_from number (xs ++ ys) ≡ lines_from number xs ++ lines_from next ys
lines_then number next [] ys is =
    let same : number ≡ next = omega arith in
    ap (λ (k : ℕ). lines_from k ys) same
lines_then number next (x ∷ xs) ys is =
    let is_rest : next ≡ number + 1 + length xs = omega arith in
    ap (λ (rest : List ℕ). end_line number x.end ++ rest) (lines_then (number + 1) next xs ys is_rest)
    ∙ sym (append_assoc (end_line number x.end) (lines_from (number + 1) xs) (lines_from next ys))

-- what a net tells of connections
abbrev ends_of : List Visit → List Ended
ends_of visits = map (λ v. v.ended) visits

pub finished_then : (a b c : Option (List Ended)) (xs ys : List Visit) → AreFinished a b xs → AreFinished b c ys → AreFinished a c (xs ++ ys)
finished_then None b c xs ys first second = second ∙ ap (λ (o : Option (List Ended)). option_map (λ ended. ended ++ ends_of ys) o) first
finished_then (Some before) b c xs ys first second =
    second ∙ ap (λ (o : Option (List Ended)). option_map (λ ended. ended ++ ends_of ys) o) first
    ∙ ap (λ (ended : List Ended). Some ended)
    (append_assoc before (ends_of xs) (ends_of ys) ∙ ap (λ (ended : List Ended). before ++ ended) (sym (map-append (λ (v : Visit). v.ended) xs ys)))

pub finished_none : (a b : Option (List Ended)) → b ≡ a → AreFinished a b []
finished_none None b same = same
finished_none (Some before) b same = same ∙ ap (λ (ended : List Ended). Some ended) (sym (append-nil before))

pub all_then : (P : Visit → Type 0) (xs ys : List Visit) → AllByRecursion P xs → AllByRecursion P ys → AllByRecursion P (xs ++ ys)
all_then P [] ys first second = second
all_then P (x ∷ xs) ys first second = (first.0, all_then P xs ys first.1 second)

pub with_last_then : (xs ys : List Visit) (last : Option Visit) → with_last (xs ++ ys) last ≡ xs ++ with_last ys last
with_last_then xs ys None = refl
with_last_then xs ys (Some v) = append_assoc xs ys (v ∷ [])
