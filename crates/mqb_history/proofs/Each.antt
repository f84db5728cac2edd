-- What holds of each record that was written or is in doubt holds behind a change, where it holds of what the change writes.
use Rattle.std.proofs.Common.{refl, sym, subst, ◌∙◌}
use Rattle.std.specs.List.{AllByRecursion}
use Rattle.std.specs.Prelude.{[], ◌++◌, ◌∷◌, ◌≡◌, IfSome, List, None, Option, Some, false, length, option_map, slice_get, true, unwrap_or, ℕ}
use Rattle.mqb_base.specs.declared.ids.Identity.{Identity}
use Rattle.mqb_model.specs.declared.answers.Role.TheVariants as role
use Rattle.mqb_model.specs.managers.Manager.{Manager, doubt_of}
use Rattle.mqb_model.specs.managers.Outcomes.{failed, succeeded}
use Rattle.mqb_model.specs.managers.Restarts.{restarted, unread}
use Rattle.mqb_model.specs.records.Record.{Record}
use Rattle.mqb_network.specs.Changes.{ended}
use Rattle.mqb_network.specs.Choices.{Failure}
use Rattle.mqb_network.specs.Connecting.{asking, linked_as}
use Rattle.mqb_network.specs.Courses.{Course, Written, posted, written_by}
use Rattle.mqb_network.specs.Network.{Network, Note, formatted, manager_at, nobody, others, with_manager}
use Rattle.mqb_network.specs.Runs.{beginning}
use Rattle.mqb_packet.specs.declared.packet.Packet.{Packet}
use Rattle.mqb_queue.specs.Places.{numbered}
use Rattle.mqb_model.specs.calls.Call.{Call, Hear, Pump, outcome_of}
use Rattle.mqb_history.specs.Changes.{Calls, Change, Drops, Ends, Fails, Finds, Hears, Links, Pumps, Restarts, calling, changed, given_out, hearing}
use Rattle.mqb_history.proofs.Beginning.{linked_condition}
use Rattle.mqb_history.proofs.Ending.{parted_at, parted_condition}
use Rattle.mqb_history.proofs.Lists.{all_append, all_weaker, if_some}
use Rattle.mqb_history.proofs.Ordering.{with_at}
use Rattle.mqb_history.proofs.Orderly.{map_get}
use Rattle.mqb_history.proofs.Written.{noted_managers}

pub record EachRecord (Q : ℕ → Record → Type 0) (c : Course) : Type 0 where
  pub written : AllByRecursion (λ w. Q w.by w.entry) c.written
  pub doubts : (i : ℕ) → IfSome (doubt_of (manager_at c.network i).condition) (Q i)

-- it holds of what a call writes, by a manager
abbrev pub OfCall : (ℕ → Record → Type 0) → Course → ℕ → Call → Type 0
OfCall Q c i call = IfSome (outcome_of (manager_at c.network i) call).entry (Q i)

-- of what a change does
abbrev pub OfChange : (ℕ → Record → Type 0) → Course → Change → Type 0
OfChange Q c (Calls i call failure) = OfCall Q c i call
OfChange Q c (Pumps i now failure) = OfCall Q c i (Pump now)
OfChange Q c (Hears k now failure) = (note : Note) (p : Packet) → numbered c.network.notes k ≡ Some note → numbered c.sent k ≡ Some p → OfCall Q c note.receiver (Hear now p)
OfChange Q c _ = Unit {0}

-- less is known
pub each_weaker : (P Q : ℕ → Record → Type 0) → ((i : ℕ) (r : Record) → P i r → Q i r) → (c : Course) → EachRecord P c → EachRecord Q c
each_weaker P Q weaker c h = record {
  written = all_weaker (λ (w : Written). P w.by w.entry) (λ w. Q w.by w.entry) (λ w g. weaker w.by w.entry g) c.written h.written;
  doubts = λ i. if_some (P i) (Q i) (doubt_of (manager_at c.network i).condition) (weaker i) (h.doubts i);
}

module _ (Q : ℕ → Record → Type 0) where
  with_one : (ws : List Written) (i : ℕ) (m : Manager) (o : Option Record) → IfSome o (Q i) → AllByRecursion (λ (w : Written). Q w.by w.entry) ws → AllByRecursion (λ (w : Written). Q w.by w.entry) (ws ++ written_by i m o)
  with_one ws i m None new h = all_append (λ (w : Written). Q w.by w.entry) ws [] h tt
  with_one ws i m (Some r) new h = all_append (λ (w : Written). Q w.by w.entry) ws (record { by = i; before = m.state; entry = r } ∷ []) h (new, tt)

  -- one manager is another one now
  with_doubt : (n : Network) (i : ℕ) (m : Manager) → ((j : ℕ) → IfSome (doubt_of (manager_at n j).condition) (Q j)) → IfSome (doubt_of m.condition) (Q i)
      → (j : ℕ) → IfSome (doubt_of (manager_at (with_manager n i m) j).condition) (Q j)
  with_doubt n i m h new j = with_at (λ x. IfSome (doubt_of x.condition) (Q j)) n i j m (h j) (λ e. subst (λ k. IfSome (doubt_of m.condition) (Q k)) e new)

  parted_doubts : (n : Network) (i : ℕ) → ((j : ℕ) → IfSome (doubt_of (manager_at n j).condition) (Q j)) → (j : ℕ)
      → IfSome (doubt_of (manager_at (ended i n) j).condition) (Q j)
  parted_doubts n i h j = parted_at (λ x. IfSome (doubt_of x.condition) (Q j)) n i j (λ x g. subst (λ y. IfSome (doubt_of y) (Q j)) (sym (parted_condition x)) g) (h j)

  each_call : (c : Course) (i : ℕ) (call : Call) (failure : Option Failure) → OfCall Q c i call → EachRecord Q c → EachRecord Q (calling i call failure c)
  each_call c i call None new h = record {
    written = with_one c.written i (manager_at c.network i) (outcome_of (manager_at c.network i) call).entry new h.written;
    doubts = with_doubt c.network i (succeeded (manager_at c.network i) (outcome_of (manager_at c.network i) call)) h.doubts (h.doubts i);
  }
  each_call c i call (Some how) new h = record {
    written = h.written;
    doubts = let m = failed (manager_at c.network i) (outcome_of (manager_at c.network i) call) in
        parted_doubts (with_manager c.network i m) i (with_doubt c.network i m h.doubts new);
  }

  each_posted : (c : Course) (i now : ℕ) (packets : List Packet) → EachRecord Q c → EachRecord Q (posted i now packets c)
  each_posted c i now packets h = record {
    written = h.written;
    doubts = λ j. subst (λ ms. IfSome (doubt_of (unwrap_or (slice_get ms j) nobody).condition) (Q j)) (sym (noted_managers i now (length packets) c.network)) (h.doubts j);
  }

  each_hearing : (c : Course) (k now : ℕ) (failure : Option Failure) (note : Option Note) (p : Option Packet) → numbered c.network.notes k ≡ note → numbered c.sent k ≡ p
      → OfChange Q c (Hears k now failure) → EachRecord Q c → EachRecord Q (hearing note p now failure c)
  each_hearing c k now failure None p e f new h = h
  each_hearing c k now failure (Some note) None e f new h = h
  each_hearing c k now failure (Some note) (Some p) e f new h = each_call c note.receiver (Hear now p) failure (new note p e f) h

  pub each_change : (c : Course) (x : Change) → OfChange Q c x → EachRecord Q c → EachRecord Q (changed x c)
  each_change c (Calls i call failure) new h = each_call c i call failure new h
  each_change c (Pumps i now failure) new h = each_posted (calling i (Pump now) failure c) i now (given_out (outcome_of (manager_at c.network i) (Pump now)) failure) (each_call c i (Pump now) failure new h)
  each_change c (Hears k now failure) new h = each_hearing c k now failure (numbered c.network.notes k) (numbered c.sent k) refl refl new h
  each_change c (Links a b window_a window_b) new h = record {
    written = h.written;
    doubts = λ j. let end = asking (manager_at c.network a).state (manager_at c.network b).state.identity.guid in
        subst (λ y. IfSome (doubt_of y) (Q j)) (sym (linked_condition (linked_as a end window_a c.network) b j role.Acceptor window_b ∙ linked_condition c.network a j end window_a)) (h.doubts j);
  }
  each_change c (Ends i) new h = record { written = h.written; doubts = parted_doubts c.network i h.doubts }
  each_change c (Drops k) new h = record { written = h.written; doubts = h.doubts }
  each_change c (Restarts i) new h = record { written = h.written; doubts = with_doubt c.network i (restarted (manager_at c.network i) false) h.doubts tt }
  each_change c (Finds i) new h = record {
    written = with_one c.written i (manager_at c.network i) (doubt_of (manager_at c.network i).condition) (h.doubts i) h.written;
    doubts = with_doubt c.network i (restarted (manager_at c.network i) true) h.doubts tt;
  }
  each_change c (Fails i) new h = record { written = h.written; doubts = with_doubt c.network i (unread (manager_at c.network i)) h.doubts (h.doubts i) }

  pub each_begins : (known : List Identity) → EachRecord Q (beginning known)
  each_begins known = record {
    written = tt;
    doubts = λ i. subst (λ o. IfSome (doubt_of (unwrap_or o nobody).condition) (Q i)) (sym (map_get (λ own. formatted own (others known own)) known i)) (at i (slice_get known i));
  }
    where
      at : (i : ℕ) (o : Option Identity) → IfSome (doubt_of (unwrap_or (option_map (λ own. formatted own (others known own)) o) nobody).condition) (Q i)
      at i None = tt
      at i (Some own) = tt
