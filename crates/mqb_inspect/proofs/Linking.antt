-- Whether a message fits those that came before it.
use Rattle.std.proofs.Common.{◌≡◌, ◌<◌, true, false, ◌&&◌, nat_lt, List, [], ◌∷◌, ◌++◌, sym, ◌∙◌}
use Rattle.std.specs.List.{AllByRecursion}
use Rattle.std.proofs.lemmas.Bool.{true≢false}
use Rattle.mqb_capture.specs.Judged.{fits}
use Rattle.mqb_capture.specs.Links.{AreLinked, Fit}
use Rattle.mqb_capture.specs.declared.link.Link.{Link}
use Rattle.mqb_capture.proofs.Judging.{tests_fit}
use Rattle.mqb_capture.proofs.Keeping.{all_two, linked_last, linked_more}
use Rattle.mqb_capture.proofs.Lists.{all_back, all_front, all_map}
use Rattle.mqb_capture.proofs.Sames.{Tests, tests_all, tests_and, tests_less}
use Rattle.mqb_inspect.specs.Linking.{fits_all, may_join}

abbrev FitBoth : Link → Link → Type 0
FitBoth n a = Fit a n × Fit n a

tests_join : (came : List Link) (n : Link) → Tests (may_join came n) ((n.tx.previous < n.tx.number) × AllByRecursion (FitBoth n) came)
tests_join came n = tests_and (nat_lt n.tx.previous n.tx.number) (fits_all came n) (tests_less n.tx.previous n.tx.number)
    (tests_all (λ a. fits a n && fits n a) (FitBoth n) (λ a. tests_and (fits a n) (fits n a) (tests_fit a n) (tests_fit n a)) came)

-- A message that may join those that came is linked with them.
pub join_linked : (came : List Link) (n : Link) → AreLinked came → true ≡ may_join came n → AreLinked (came ++ n ∷ [])
join_linked came n linked may =
    let both = (tests_join came n).holds (sym may) in
    linked_more came n linked both.0 (all_map (FitBoth n) (λ a. Fit a n) came (λ a f. f.0) both.1) (all_map (FitBoth n) (Fit n) came (λ a f. f.1) both.1)

-- One that may not is not.
pub join_refused : (came : List Link) (n : Link) → false ≡ may_join came n → AreLinked (came ++ n ∷ []) → ⊥
join_refused came n none linked =
    let behind : AllByRecursion (Fit n) came = all_front (Fit n) came (n ∷ []) (all_back (λ a. AllByRecursion (Fit a) (came ++ n ∷ [])) came (n ∷ []) linked.fit).0 in
    let last = linked_last came n linked in
    true≢false (sym ((tests_join came n).passes (last.0, all_two (λ a. Fit a n) (Fit n) came last.1 behind)) ∙ sym none)
