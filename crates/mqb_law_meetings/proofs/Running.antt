-- Courses of runs whose events ask for what is in order, and what holds of them.
use Rattle.std.proofs.Common.{◌≡◌, ℕ, zero, suc, ◌<◌, false, ◌++◌, List, [], ◌∷◌, Some, refl, sym, ap, subst, ◌∙◌}
use Rattle.std.proofs.lemmas.List.Elements.{All-append}
use Rattle.std.specs.Prelude.{All, IsTrue, length, slice_get}
use Rattle.mqb_base.specs.declared.ids.Identity.{Identity}
use Rattle.mqb_history.specs.Drafted.{AlwaysValid, AreInOrder, IsDraftedEvent}
use Rattle.mqb_history.specs.Laws.{HistoriesAreOrderly, RunsHaveHistories}
use Rattle.mqb_history.specs.Orderly.{IsOrderly}
use Rattle.mqb_model.specs.managers.Valid.{IsValidManager}
use Rattle.mqb_model.specs.state.Resolving.{peer_known}
use Rattle.mqb_network.specs.Courses.{Course}
use Rattle.mqb_network.specs.Network.{manager_at}
use Rattle.mqb_network.specs.Runs.{IsRun, IsRunFrom, Move, after_run, beginning, course_after, may, moved_on}
use Rattle.mqb_law_meetings.proofs.Laws.{run_is_orderly}
use Rattle.mqb_law_meetings.proofs.Members.{all_each}
use Rattle.mqb_law_meetings.proofs.Sending.{valid_now}
use Rattle.mqb_law_meetings.proofs.Sides.{Accord}

-- a course of a run whose events ask for what is in order
pub record InRun (known : List Identity) (c : Course) : Type 0 where
  pub moves : List Move
  pub is : c ≡ after_run known moves
  pub drafted : All (λ (m : Move). IsDraftedEvent m.event) moves
  pub run : IsRun known moves

pub after_append : (c : Course) (xs ys : List Move) → course_after c (xs ++ ys) ≡ course_after (course_after c xs) ys
after_append c [] ys = refl
after_append c (x ∷ xs) ys = after_append (moved_on c x) xs ys

from_append : (c : Course) (xs ys : List Move) → IsRunFrom c xs → IsRunFrom (course_after c xs) ys → IsRunFrom c (xs ++ ys)
from_append c [] ys h k = k
from_append c (x ∷ xs) ys h k = (h.0, from_append (moved_on c x) xs ys h.1 k)

-- it goes on
pub run_on : (known : List Identity) (c : Course) (ms : List Move) → InRun known c → IsRunFrom c ms → All (λ (m : Move). IsDraftedEvent m.event) ms → InRun known (course_after c ms)
run_on known c ms r goes drafted = record {
  moves = r.moves ++ ms;
  is = ap (λ z. course_after z ms) r.is ∙ sym (after_append (beginning known) r.moves ms);
  drafted = All-append (λ (m : Move). IsDraftedEvent m.event) r.moves ms r.drafted drafted;
  run = from_append (beginning known) r.moves ms r.run (subst (λ z. IsRunFrom z ms) r.is goes);
}

all_one : {X : Type 0} (P : X → Type 0) (x : X) → P x → All P (x ∷ [])
all_one P x h = all_each P (x ∷ []) at
  where
    at : (k : ℕ) (y : _) → slice_get (x ∷ []) k ≡ Some y → P y
    at zero y e = let same : x ≡ y = cc in subst P same h
    at (suc k) y e = absurd (let no : ⊥ = cc in no)

pub run_move : (known : List Identity) (c : Course) (m : Move) → InRun known c → IsTrue (may c m.event m.choice) → IsDraftedEvent m.event → InRun known (moved_on c m)
run_move known c m r may_be drafted = run_on known c (m ∷ []) r (may_be, tt) (all_one (λ (x : Move). IsDraftedEvent x.event) m drafted)

-- What holds of each.

abbrev pub AccordAt : List Identity → Course → Type 0
AccordAt known c = (i j k : ℕ) → i < length known → j < length known → (i ≡ j → ⊥)
    → peer_known (manager_at c.network i).state (manager_at c.network j).state.identity.guid ≡ Some k → Accord (manager_at c.network i).state (manager_at c.network j).state k

abbrev pub AlwaysAccord : Type 0
AlwaysAccord = (known : List Identity) (ms : List Move) → AreInOrder known → All (λ (m : Move). IsDraftedEvent m.event) ms → IsRun known ms → AccordAt known (after_run known ms)

pub record Facts (known : List Identity) (c : Course) : Type 0 where
  pub orderly : IsOrderly known c
  pub valid : (v : ℕ) → IsValidManager (manager_at c.network v)
  pub accord : AccordAt known c

pub facts_of : HistoriesAreOrderly → RunsHaveHistories → AlwaysValid → AlwaysAccord → (known : List Identity) → AreInOrder known → (c : Course) → InRun known c → Facts known c
facts_of orderly histories always accords known order c r = subst (Facts known) (sym r.is) (record {
  orderly = run_is_orderly orderly histories known r.moves order.apart r.run;
  valid = λ v. valid_now (after_run known r.moves) v (always known r.moves order r.drafted r.run (λ i. false) v);
  accord = accords known r.moves order r.drafted r.run;
})
