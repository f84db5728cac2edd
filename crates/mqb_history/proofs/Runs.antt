-- Each point of each run has a history, and so what each change keeps holds there.
use Rattle.std.proofs.Common.{refl, ap, sym, subst, inl, inr}
use Rattle.std.specs.List.{range_with_len}
use Rattle.std.specs.Prelude.{[], ◌∷◌, ◌≡◌, Bool, List, Option, Some, None, cond, false, fold, is_none, is_some, length, not, true, ℕ}
use Rattle.mqb_base.specs.declared.ids.Identity.{Identity}
use Rattle.mqb_model.specs.managers.Manager.{doubt_of}
use Rattle.mqb_model.specs.records.Record.{Record}
use Rattle.mqb_network.specs.Courses.{Course, found_kept}
use Rattle.mqb_network.specs.Doubts.{settled_at}
use Rattle.mqb_network.specs.Laws.{AreApart}
use Rattle.mqb_network.specs.Network.{is_connected, manager_at}
use Rattle.mqb_network.specs.Runs.{IsRun, IsRunFrom, Move, after_run, beginning, course_after, moved_on}
use Rattle.mqb_network.proofs.Joining.{move_in_course}
use Rattle.mqb_history.specs.Changes.{Finds, changed, may_change}
use Rattle.mqb_history.specs.Histories.{HasHistory}
use Rattle.mqb_history.specs.Laws.{RunsHaveHistories}
use Rattle.mqb_history.specs.Orderly.{IsOrderly}
use Rattle.mqb_exactly_once.specs.Words.{In}
use Rattle.mqb_history.specs.Changes.{Change}
use Rattle.mqb_history.proofs.Keeping.{IsClosed, IsClosedUnder, IsGiven, event_keeps, event_keeps_under}
use Rattle.mqb_history.proofs.Lists.{join_and}
use Rattle.mqb_history.proofs.Orderly.{histories_are_orderly}
use Rattle.mqb_history.proofs.Parting.{doubt_free}
use Rattle.mqb_network.specs.Doubts.{settled}

-- a history goes on by each change
has_history : (known : List Identity) → AreApart known → IsClosed known (HasHistory known)
has_history known apart = record {
  orderly = λ c h. subst (IsOrderly known) h.2 (histories_are_orderly known h.0 apart h.1);
  keeps = λ c x may h. (x ∷ h.0, (subst (λ d. may_change d x ≡ true) (sym h.2) may, h.1), ap (changed x) h.2);
}

moves_keep : (known : List Identity) (P : Course → Type 0) → IsClosed known P → (c : Course) (ms : List Move) → IsRunFrom c ms → P c → P (course_after c ms)
moves_keep known P k c [] run h = h
moves_keep known P k c (m ∷ ms) run h = moves_keep known P k (moved_on c m) ms run.1
    (subst P (sym (move_in_course c m)) (event_keeps known P k c m.event m.choice run.0 h))

settled_at_keeps : (known : List Identity) (P : Course → Type 0) → IsClosed known P → (kept : ℕ → Bool) (c : Course) (i : ℕ) → P c → P (settled_at kept c i)
settled_at_keeps known P k kept c i h = at (is_none (doubt_of (manager_at c.network i).condition)) refl (kept i)
  where
    some : (o : Option Record) → is_none o ≡ false → is_some o ≡ true
    some None e = sym e
    some (Some r) e = refl

    at : (b : Bool) → is_none (doubt_of (manager_at c.network i).condition) ≡ b → (chosen : Bool) → P (cond b c (cond chosen (found_kept i c) c))
    at true e chosen = h
    at false e false = h
    at false e true = k.keeps c (Finds i) (join_and (not (is_connected c.network i)) (is_some (doubt_of (manager_at c.network i).condition))
        (ap not (doubt_free known c i (k.orderly c h) e)) (some (doubt_of (manager_at c.network i).condition) e)) h

settled_keeps : (known : List Identity) (P : Course → Type 0) → IsClosed known P → (kept : ℕ → Bool) (c : Course) (is : List ℕ) → P c → P (fold (settled_at kept) c is)
settled_keeps known P k kept c [] h = h
settled_keeps known P k kept c (i ∷ is) h = settled_keeps known P k kept (settled_at kept c i) is (settled_at_keeps known P k kept c i h)

pub runs_have_histories : RunsHaveHistories
runs_have_histories known ms apart run kept = (
  reached,
  settled_keeps known (HasHistory known) (has_history known apart) kept (after_run known ms)
      (range_with_len 0 (length (after_run known ms).network.managers)) reached,
)
  where
    reached : HasHistory known (after_run known ms)
    reached = moves_keep known (HasHistory known) (has_history known apart) (beginning known) ms run ([], tt, refl)

-- what each change keeps holds at each point of each run, whatever became of the records in doubt
pub always_kept : (known : List Identity) (P : Course → Type 0) → IsClosed known P → (ms : List Move) → IsRun known ms → (kept : ℕ → Bool) → P (beginning known)
    → P (settled kept (after_run known ms))
always_kept known P k ms run kept h = settled_keeps known P k kept (after_run known ms) (range_with_len 0 (length (after_run known ms).network.managers))
    (moves_keep known P k (beginning known) ms run h)

-- The same of what only the given changes keep, where what the moves send is given.

-- it is
abbrev pub AreGiven : (Change → Type 0) → List Move → Type 0
AreGiven A ms = (m : Move) → In m ms → IsGiven A m.event

given_keep : (A : Change → Type 0) (known : List Identity) (P : Course → Type 0) → IsClosedUnder A known P → (c : Course) (ms : List Move) → AreGiven A ms → IsRunFrom c ms → P c → P (course_after c ms)
given_keep A known P k c [] given run h = h
given_keep A known P k c (m ∷ ms) given run h = given_keep A known P k (moved_on c m) ms (λ x i. given x (inr i)) run.1
    (subst P (sym (move_in_course c m)) (event_keeps_under A known P k c m.event m.choice (given m (inl refl)) run.0 h))

settles_given : (A : Change → Type 0) (known : List Identity) (P : Course → Type 0) → IsClosedUnder A known P → (kept : ℕ → Bool) (c : Course) (is : List ℕ) → P c → P (fold (settled_at kept) c is)
settles_given A known P k kept c [] h = h
settles_given A known P k kept c (i ∷ is) h = settles_given A known P k kept (settled_at kept c i) is (at (is_none (doubt_of (manager_at c.network i).condition)) refl (kept i))
  where
    some : (o : Option Record) → is_none o ≡ false → is_some o ≡ true
    some None e = sym e
    some (Some r) e = refl

    at : (b : Bool) → is_none (doubt_of (manager_at c.network i).condition) ≡ b → (chosen : Bool) → P (cond b c (cond chosen (found_kept i c) c))
    at true e chosen = h
    at false e false = h
    at false e true = k.keeps c (Finds i) (k.others (Finds i) tt) (join_and (not (is_connected c.network i)) (is_some (doubt_of (manager_at c.network i).condition))
        (ap not (doubt_free known c i (k.orderly c h) e)) (some (doubt_of (manager_at c.network i).condition) e)) h

pub always_given : (A : Change → Type 0) (known : List Identity) (P : Course → Type 0) → IsClosedUnder A known P → (ms : List Move) → AreGiven A ms → IsRun known ms → (kept : ℕ → Bool) → P (beginning known)
    → P (settled kept (after_run known ms))
always_given A known P k ms given run kept h = settles_given A known P k kept (after_run known ms) (range_with_len 0 (length (after_run known ms).network.managers))
    (given_keep A known P k (beginning known) ms given run h)
