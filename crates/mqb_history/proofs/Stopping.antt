-- What a failure leaves stays until it is settled.
use Rattle.std.proofs.Common.{refl, ap, sym, subst, ◌∙◌}
use Rattle.std.specs.Prelude.{◌<◌, ◌≡◌, Bool, None, Option, Some, cond, false, length, not, slice_get, true, unwrap_or, ℕ}
use Rattle.mqb_model.specs.calls.Link.{unlink}
use Rattle.mqb_model.specs.declared.answers.Role.TheVariants as role
use Rattle.mqb_model.specs.managers.Manager.{Down, Manager, Up, is_down}
use Rattle.mqb_model.specs.managers.Outcomes.{failed, succeeded}
use Rattle.mqb_model.specs.managers.Restarts.{restarted, unread}
use Rattle.mqb_network.specs.Changes.{parted}
use Rattle.mqb_network.specs.Choices.{Failure}
use Rattle.mqb_network.specs.Connecting.{asking, linked_as}
use Rattle.mqb_network.specs.Courses.{Course}
use Rattle.mqb_network.specs.Network.{Network, Note, manager_at, nobody, with_manager}
use Rattle.mqb_packet.specs.declared.packet.Packet.{Packet}
use Rattle.mqb_queue.specs.Places.{numbered}
use Rattle.mqb_model.specs.calls.Call.{Call, Hear, Pump, outcome_of}
use Rattle.mqb_history.specs.Changes.{Change, Calls, Drops, Ends, Fails, Finds, Hears, Links, Pumps, Restarts, calling, changed, given_out, hearing, is_of_packets, may_change, may_fail, may_hear}
use Rattle.mqb_history.specs.Doubts.{IsAsBefore, StaysDown, started_by}
use Rattle.mqb_history.specs.Laws.{DownStays, FailuresAreSettled}
use Rattle.mqb_history.proofs.Beginning.{linked_condition, linked_same_state}
use Rattle.mqb_history.proofs.Ending.{parted_at}
use Rattle.mqb_history.proofs.Lists.{clash, set_there, split_and, true_not_false}
use Rattle.mqb_history.proofs.Ordering.{with_at}
use Rattle.mqb_history.proofs.Refusing.{down_changes_nothing, down_is_idle}
use Rattle.mqb_history.proofs.Written.{noted_managers}

-- A manager in a state and a condition in which it is down.
record IsDownAs (old m : Manager) : Type 0 where
  pub down : is_down old ≡ true
  pub state : m.state ≡ old.state
  pub condition : m.condition ≡ old.condition

down_by : (m next : Manager) → next.condition ≡ m.condition → is_down next ≡ is_down m
down_by m next e = ap (λ x. elim x [ Up ↦ false | Down doubt ↦ true ]) e

-- it does not part
parted_down : (old m : Manager) → IsDownAs old m → IsDownAs old (parted m)
parted_down old m h = at (is_down m) (down_by old m h.condition ∙ h.down)
  where
    at : (b : Bool) → b ≡ true → IsDownAs old (cond b m (succeeded m (unlink m)))
    at true e = h
    at false e = absurd (clash (sym e))

itself : (m : Manager) → is_down m ≡ true → IsDownAs m m
itself m e = record { down = e; state = refl; condition = refl }

as_before : (old m : Manager) → IsDownAs old m → IsAsBefore old m
as_before old m h = record { state = h.state; condition = h.condition }

-- a call of another manager, or one that is refused
idle_down : (n : Network) (i j : ℕ) (call : Call) → is_down (manager_at n j) ≡ true
    → IsDownAs (manager_at n j) (manager_at (with_manager n i (succeeded (manager_at n i) (outcome_of (manager_at n i) call))) j)
idle_down n i j call down = with_at (IsDownAs (manager_at n j)) n i j (succeeded (manager_at n i) (outcome_of (manager_at n i) call)) (itself (manager_at n j) down)
    (λ e. record {
      down = down;
      state = down_changes_nothing (manager_at n i) call (subst (λ k. is_down (manager_at n k) ≡ true) (sym e) down) ∙ ap (λ k. (manager_at n k).state) e;
      condition = ap (λ k. (manager_at n k).condition) e;
    })

-- a disk that fails is another one's
not_failing : (m : Manager) (call : Call) (how : Failure) → is_down m ≡ true → may_fail m call (Some how) ≡ true → ⊥
not_failing m call how down may = true_not_false (outcome_of m call).touches may (down_is_idle m call down).touches

calling_down : (c : Course) (i j : ℕ) (call : Call) (failure : Option Failure) → may_fail (manager_at c.network i) call failure ≡ true → is_down (manager_at c.network j) ≡ true
    → IsDownAs (manager_at c.network j) (manager_at (calling i call failure c).network j)
calling_down c i j call None may down = idle_down c.network i j call down
calling_down c i j call (Some how) may down = parted_at (IsDownAs (manager_at c.network j)) (with_manager c.network i (failed (manager_at c.network i) (outcome_of (manager_at c.network i) call))) i j
    (parted_down (manager_at c.network j))
    (with_at (IsDownAs (manager_at c.network j)) c.network i j (failed (manager_at c.network i) (outcome_of (manager_at c.network i) call)) (itself (manager_at c.network j) down)
    (λ e. absurd (not_failing (manager_at c.network i) call how (subst (λ k. is_down (manager_at c.network k) ≡ true) (sym e) down) may)))

hearing_down : (c : Course) (note : Option Note) (p : Option Packet) (now j : ℕ) (failure : Option Failure) → may_hear c note p now failure ≡ true → is_down (manager_at c.network j) ≡ true
    → IsDownAs (manager_at c.network j) (manager_at (hearing note p now failure c).network j)
hearing_down c None p now j failure may down = itself (manager_at c.network j) down
hearing_down c (Some note) None now j failure may down = itself (manager_at c.network j) down
hearing_down c (Some note) (Some p) now j failure may down = calling_down c note.receiver j (Hear now p) failure (split_and _ (may_fail (manager_at c.network note.receiver) (Hear now p) failure) may).1 down

-- a manager that is not started again
started_down : (n : Network) (i j : ℕ) (m : Manager) → is_down (manager_at n j) ≡ true → (Some i ≡ Some j → ⊥) → IsDownAs (manager_at n j) (manager_at (with_manager n i m) j)
started_down n i j m down apart = with_at (IsDownAs (manager_at n j)) n i j m (itself (manager_at n j) down) (λ e. absurd (apart (ap (λ k. Some k) e)))

stays_down : (c : Course) (x : Change) → may_change c x ≡ true → StaysDown c x
stays_down c x may j down apart = as_before (manager_at c.network j) (manager_at (changed x c).network j) (at x may apart)
  where
    at : (x : Change) → may_change c x ≡ true → (started_by x ≡ Some j → ⊥) → IsDownAs (manager_at c.network j) (manager_at (changed x c).network j)
    at (Calls i call failure) may apart = calling_down c i j call failure (split_and (not (is_of_packets call)) (may_fail (manager_at c.network i) call failure) may).1 down
    at (Pumps i now failure) may apart = subst (λ ms. IsDownAs (manager_at c.network j) (unwrap_or (slice_get ms j) nobody))
        (sym (noted_managers i now (length (given_out (outcome_of (manager_at c.network i) (Pump now)) failure)) (calling i (Pump now) failure c).network))
        (calling_down c i j (Pump now) failure may down)
    at (Hears k now failure) may apart = hearing_down c (numbered c.network.notes k) (numbered c.sent k) now j failure may down
    at (Links a b window_a window_b) may apart = let end = asking (manager_at c.network a).state (manager_at c.network b).state.identity.guid in record {
      down = down;
      state = linked_same_state (linked_as a end window_a c.network) b j role.Acceptor window_b ∙ linked_same_state c.network a j end window_a;
      condition = linked_condition (linked_as a end window_a c.network) b j role.Acceptor window_b ∙ linked_condition c.network a j end window_a;
    }
    at (Ends i) may apart = parted_at (IsDownAs (manager_at c.network j)) c.network i j (parted_down (manager_at c.network j)) (itself (manager_at c.network j) down)
    at (Drops k) may apart = itself (manager_at c.network j) down
    at (Restarts i) may apart = started_down c.network i j (restarted (manager_at c.network i) false) down apart
    at (Finds i) may apart = started_down c.network i j (restarted (manager_at c.network i) true) down apart
    at (Fails i) may apart = started_down c.network i j (unread (manager_at c.network i)) down apart

pub down_stays : DownStays
down_stays = stays_down

-- Failures and starts.

-- a manager that is put where one was
put_there : (n : Network) (i : ℕ) (m : Manager) → i < length n.managers → manager_at (with_manager n i m) i ≡ m
put_there n i m lt = ap (λ o. unwrap_or o nobody) (set_there n.managers i m lt)

pub failures_are_settled : FailuresAreSettled
failures_are_settled c i lt = record {
  fails = λ call how. let outcome = outcome_of (manager_at c.network i) call in let old = failed (manager_at c.network i) outcome in
      let h = parted_at (IsDownAs old) (with_manager c.network i old) i i (parted_down old) (subst (IsDownAs old) (sym (put_there c.network i old lt)) (itself old refl)) in
      record { state = h.state; condition = h.condition };
  kept = put_there c.network i (restarted (manager_at c.network i) true) lt;
  lost = put_there c.network i (restarted (manager_at c.network i) false) lt;
}
