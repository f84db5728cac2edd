-- Behind the meetings that bring all over, what a row still keeps stands in a queue at its receiver.
use Rattle.std.proofs.Common.{◌≡◌, ℕ, ◌<◌, ◌≤◌, inl, inr, Bool, true, false, nat_lt, Some, refl, sym, subst, ◌∙◌, arith}
use Rattle.std.proofs.lemmas.Bool.{true≢false}
use Rattle.std.proofs.lemmas.Bool.Decides.{nat_tests}
use Rattle.std.specs.Prelude.{IsTrue, length}
use Rattle.mqb_base.specs.Bits.{keeps_dead}
use Rattle.mqb_exactly_once.specs.Words.{In}
use Rattle.mqb_history.specs.Acked.{IsDecidedThere}
use Rattle.mqb_history.specs.Awaited.{AreFatesAwaited, AreKeptForFates, FatesAreAwaited, IsAwaited, IsHeld}
use Rattle.mqb_history.specs.Laws.{HistoriesAreOrderly, RunsHaveHistories}
use Rattle.mqb_history.specs.Orderly.{IsOrderly}
use Rattle.mqb_model.specs.declared.limits.TheConstants.{MAX_NUMBER}
use Rattle.mqb_model.specs.state.Resolving.{peer_known}
use Rattle.mqb_network.specs.Courses.{Course}
use Rattle.mqb_network.specs.Network.{manager_at}
use Rattle.mqb_network.specs.Runs.{after_run, course_after}
use Rattle.mqb_orders.specs.Rows.{Row}
use Rattle.mqb_orders.specs.declared.kept.Kept.{Kept}
use Rattle.mqb_law_meetings.specs.Drained.{IsDrained}
use Rattle.mqb_law_meetings.specs.Recovery.{Forgets, Recovers}
use Rattle.mqb_law_meetings.specs.Work.{met, work}
use Rattle.mqb_law_meetings.proofs.Delivering.{meetings_run, of_run, outstanding, plain_outstanding}
use Rattle.mqb_law_meetings.proofs.Laws.{run_is_orderly}
use Rattle.mqb_law_meetings.proofs.Recovering.{starts_drafted}
use Rattle.mqb_law_meetings.proofs.Running.{InRun, run_on}

-- two that have nothing for one another
module _ (c : Course) (a b : ℕ) (laws : AreFatesAwaited c × AreKeptForFates c) (drained : IsDrained c.network a b) (there : b < length c.network.managers) (left : (manager_at c.network b).state.next_number ≤ MAX_NUMBER)
    (row : Row) (k : Kept) (inside : In row (manager_at c.network a).state.outs) (knows : peer_known (manager_at c.network a).state (manager_at c.network b).state.identity.guid ≡ Some row.peer) (kept : In k row.kept) where
  low : k.number ≤ row.acked
  low = at (nat_lt row.acked k.number) refl
    where
      not_above : nat_lt row.acked k.number ≡ false → k.number ≤ row.acked
      not_above e = grind (arith, nat_tests)

      at : (t : Bool) → nat_lt row.acked k.number ≡ t → k.number ≤ row.acked
      at true e = absurd (true≢false (sym (outstanding c a b row.peer knows row inside refl k kept e) ∙ drained.first))
      at false e = not_above e

  is_held : IsHeld c.network b k.message.id
  is_held = at (laws.0 a b row k there inside knows kept asked.0 asked.1)
    where
      asked : IsTrue (keeps_dead k.message) × IsDecidedThere c a row k.number
      asked = laws.1 a row k inside kept low

      at : IsAwaited c.network a b k.message.id → IsHeld c.network b k.message.id
      at (inl held) = held
      at (inr (inl waits)) = absurd (true≢false (sym (plain_outstanding c b a waits.index waits.known waits.lists waits.there waits.final waits.inside) ∙ drained.second))
      at (inr (inr none)) = absurd (omega (arith, none, left))

pub forgets : Recovers → HistoriesAreOrderly → RunsHaveHistories → FatesAreAwaited → Forgets
forgets recovers orderly histories fates known before ms a b moment order drafted run in_a in_b differ starts stamps other_stamps left row k inside knows kept =
    is_held z a b (of_run (λ c. AreFatesAwaited c × AreKeptForFates c) fates known order.apart z in_run) drained there left row k inside knows kept
  where
    c : Course
    c = course_after (after_run known before) ms

    z : Course
    z = met c a b moment

    in_run : InRun known z
    in_run = meetings_run known a b moment (work c.network a b) c
        (run_on known (after_run known before) ms (record { moves = before; is = refl; drafted = drafted; run = run }) starts.run (starts_drafted ms a b starts.events))

    drained : IsDrained z.network a b
    drained = recovers known before ms a b moment order drafted run in_a in_b differ starts stamps other_stamps

    o : IsOrderly known z
    o = subst (IsOrderly known) (sym in_run.is) (run_is_orderly orderly histories known in_run.moves order.apart in_run.run)

    there : b < length z.network.managers
    there = subst (λ n. b < n) (sym o.count) in_b
