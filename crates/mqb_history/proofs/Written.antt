-- What each record keeps of a manager's state and of the records that it wrote holds at each point of each run.
use Rattle.std.proofs.Common.{refl, ap, sym, subst, ◌∙◌, arith}
use Rattle.std.specs.Option.{option_map_or}
use Rattle.std.specs.Prelude.{[], ◌++◌, ◌==◌, ◌∷◌, ◌≡◌, Bool, IfSome, List, None, Option, Some, cond, false, length, option_map, replicate, slice_get, true, unwrap_or, ℕ}
use Rattle.mqb_base.specs.declared.ids.Identity.{Identity}
use Rattle.mqb_model.specs.managers.Manager.{Manager, doubt_of, is_down}
use Rattle.mqb_model.specs.managers.Outcomes.{failed, recorded, succeeded}
use Rattle.mqb_model.specs.managers.Restarts.{restarted, unread}
use Rattle.mqb_model.specs.records.Applying.{apply}
use Rattle.mqb_model.specs.records.Record.{Record}
use Rattle.mqb_model.specs.state.Durable.{durable}
use Rattle.mqb_model.specs.state.State.{State}
use Rattle.mqb_network.specs.Changes.{ended, note_by, noted, parted}
use Rattle.mqb_network.specs.Choices.{Failure}
use Rattle.mqb_network.specs.Connecting.{asking, linked_as}
use Rattle.mqb_network.specs.Courses.{Course, Written, posted, written_by}
use Rattle.mqb_network.specs.Laws.{Always, AreApart}
use Rattle.mqb_network.specs.Network.{Connection, Network, Note, connection_of, formatted, manager_at, nobody, others, with_manager}
use Rattle.mqb_network.specs.Runs.{beginning}
use Rattle.mqb_packet.specs.declared.packet.Packet.{Packet}
use Rattle.mqb_queue.specs.Places.{numbered}
use Rattle.mqb_model.specs.calls.Call.{Call, Hear, Pump, outcome_of}
use Rattle.mqb_history.specs.Changes.{Change, Calls, Drops, Ends, Fails, Finds, Hears, Links, Pumps, Restarts, calling, changed, given_out, hearing, may_change}
use Rattle.mqb_history.specs.Decided.{written_of}
use Rattle.mqb_history.specs.Made.{IsMade}
use Rattle.mqb_history.specs.Orderly.{IsOrderly}
use Rattle.mqb_history.proofs.Applying.{beside_rows}
use Rattle.mqb_history.proofs.Beginning.{linked_same_state}
use Rattle.mqb_history.proofs.Calling.{calls_are_modest, made_only}
use Rattle.mqb_history.proofs.Ending.{parted_at, parted_rows}
use Rattle.mqb_history.proofs.Keeping.{IsClosed}
use Rattle.mqb_history.proofs.Lists.{append_nothing, apart_numbers, equal_numbers, get_within, other_numbers, same_number, set_apart, set_get, set_there}
use Rattle.mqb_history.proofs.Ordering.{with_at}
use Rattle.mqb_history.proofs.Orderly.{begins_orderly, change_orderly, map_get}
use Rattle.mqb_history.proofs.Refusing.{down_is_idle}
use Rattle.mqb_history.proofs.Runs.{always_kept}
use Rattle.mqb_session.specs.State.{no_guid}
use Rattle.mqb_model.specs.declared.answers.Role.TheVariants as role
use Rattle.mqb_history.proofs.Staying.{HasSameRows}

-- What holds of a manager's state and its records: at the start, where nothing but what is in no row changes, and by each record that a call made.
pub record IsByRecords (Q : State → List Written → Type 0) : Type 0 where
  pub starts : (own : Identity) (peers : List Identity) → Q (formatted own peers).state []
  pub quiet : (a b : State) (ws : List Written) → HasSameRows a b → Q a ws → Q b ws
  pub grows : (i : ℕ) (s : State) (r : Record) (ws : List Written) → IsMade s r → Q s ws → Q (apply s r) (ws ++ record { by = i; before = s; entry = r } ∷ [])

-- the manager at an index, with its records
abbrev pub OfManager : (State → List Written → Type 0) → ℕ → Course → Type 0
OfManager Q i c = Q (manager_at c.network i).state (written_of i c.written)

abbrev pub IsOrderlyWith : List Identity → (State → List Written → Type 0) → Course → Type 0
IsOrderlyWith known Q c = IsOrderly known c × ((i : ℕ) → OfManager Q i c)

-- The records of one manager.

pub of_append : (i : ℕ) (xs ys : List Written) → written_of i (xs ++ ys) ≡ written_of i xs ++ written_of i ys
of_append i [] ys = refl
of_append i (x ∷ xs) ys = at (x.by == i) (of_append i xs ys)
  where
    at : (b : Bool) → written_of i (xs ++ ys) ≡ written_of i xs ++ written_of i ys
        → cond b (x ∷ written_of i (xs ++ ys)) (written_of i (xs ++ ys)) ≡ cond b (x ∷ written_of i xs) (written_of i xs) ++ written_of i ys
    at true rest = ap (λ zs. x ∷ zs) rest
    at false rest = rest

-- a record of its own joins them, and one of another does not
pub own_more : (i : ℕ) (m : Manager) (o : Option Record) (ws : List Written) → written_of i (ws ++ written_by i m o) ≡ written_of i ws ++ written_by i m o
own_more i m None ws = of_append i ws []
own_more i m (Some r) ws = of_append i ws (record { by = i; before = m.state; entry = r } ∷ [])
    ∙ ap (λ b. written_of i ws ++ cond b (record { by = i; before = m.state; entry = r } ∷ []) []) (same_number i)

pub other_more : (i j : ℕ) (m : Manager) (o : Option Record) (ws : List Written) → (i ≡ j → ⊥) → written_of j (ws ++ written_by i m o) ≡ written_of j ws
other_more i j m None ws apart = ap (written_of j) (append_nothing ws)
other_more i j m (Some r) ws apart = of_append j ws (record { by = i; before = m.state; entry = r } ∷ [])
    ∙ ap (λ b. written_of j ws ++ cond b (record { by = i; before = m.state; entry = r } ∷ []) []) (other_numbers i j apart) ∙ append_nothing (written_of j ws)

-- What holds of each manager by its index: where nothing but what is in no row changes, and by each record that a call made.
pub record IsLasting (Q : ℕ → State → List Written → Type 0) : Type 0 where
  pub quiet : (i : ℕ) (a b : State) (ws : List Written) → HasSameRows a b → Q i a ws → Q i b ws
  pub grows : (i : ℕ) (s : State) (r : Record) (ws : List Written) → IsMade s r → Q i s ws → Q i (apply s r) (ws ++ record { by = i; before = s; entry = r } ∷ [])

abbrev pub OfEach : (ℕ → State → List Written → Type 0) → Course → ℕ → Type 0
OfEach Q c j = Q j (manager_at c.network j).state (written_of j c.written)

-- by a record, where there is one
recorded_grows : (Q : ℕ → State → List Written → Type 0) → IsLasting Q → (i : ℕ) (m : Manager) (o : Option Record) (ws : List Written) → IfSome o (IsMade m.state)
    → Q i m.state (written_of i ws) → Q i (recorded m.state o) (written_of i (ws ++ written_by i m o))
recorded_grows Q q i m None ws made h = subst (Q i m.state) (sym (own_more i m None ws ∙ append_nothing (written_of i ws))) h
recorded_grows Q q i m (Some r) ws made h = subst (Q i (apply m.state r)) (sym (own_more i m (Some r) ws)) (q.grows i m.state r (written_of i ws) made h)

-- one manager wrote a record, where there is one, and is in this state now; the others are as before
some_written : (Q : ℕ → State → List Written → Type 0) → IsLasting Q → (n : Network) (i : ℕ) (m : Manager) (o : Option Record) (ws : List Written)
    → IfSome o (IsMade (manager_at n i).state) → HasSameRows (recorded (manager_at n i).state o) m.state → (slice_get n.managers i ≡ None → o ≡ None)
    → ((j : ℕ) → Q j (manager_at n j).state (written_of j ws))
    → (j : ℕ) → Q j (manager_at (with_manager n i m) j).state (written_of j (ws ++ written_by i (manager_at n i) o))
some_written Q q n i m o ws made rows absent h j = at (i == j) refl
  where
    all : List Written
    all = written_of i (ws ++ written_by i (manager_at n i) o)

    here : Q i m.state all
    here = q.quiet i (recorded (manager_at n i).state o) m.state all rows (recorded_grows Q q i (manager_at n i) o ws made (h i))

    nothing : (x : Option Record) → x ≡ None → Q i (manager_at n i).state (written_of i (ws ++ written_by i (manager_at n i) x))
    nothing x e = subst (λ y. Q i (manager_at n i).state (written_of i (ws ++ written_by i (manager_at n i) y))) (sym e)
        (subst (Q i (manager_at n i).state) (sym (ap (written_of i) (append_nothing ws))) (h i))

    own : (x : Option Manager) → slice_get n.managers i ≡ x → Q i (manager_at (with_manager n i m) i).state all
    own None e = set_get (λ x. Q i (unwrap_or x nobody).state all) n.managers i i m (nothing o (absent e)) (λ same lt. here)
    own (Some x) e = subst (λ y. Q i (unwrap_or y nobody).state all) (sym (set_there n.managers i m (get_within n.managers i x e))) here

    at : (b : Bool) → (i == j) ≡ b → Q j (manager_at (with_manager n i m) j).state (written_of j (ws ++ written_by i (manager_at n i) o))
    at true f = subst (λ k. Q k (manager_at (with_manager n i m) k).state (written_of k (ws ++ written_by i (manager_at n i) o))) (equal_numbers i j f)
        (own (slice_get n.managers i) refl)
    at false f = subst (Q j (manager_at (with_manager n i m) j).state) (sym (other_more i j (manager_at n i) o ws (apart_numbers i j f)))
        (subst (λ y. Q j (unwrap_or y nobody).state (written_of j ws)) (sym (set_apart n.managers i j m (apart_numbers i j f))) (h j))

-- Changes.

-- a manager that is not there writes nothing
pub absent_idle : (n : Network) (i : ℕ) (call : Call) → slice_get n.managers i ≡ None → (outcome_of (manager_at n i) call).entry ≡ None
absent_idle n i call e = (down_is_idle (manager_at n i) call (ap (λ x. is_down (unwrap_or x nobody)) e)).entry

ended_keeps : (Q : ℕ → State → List Written → Type 0) → IsLasting Q → (n : Network) (i j : ℕ) (ws : List Written) → Q j (manager_at n j).state ws → Q j (manager_at (ended i n) j).state ws
ended_keeps Q q n i j ws h = parted_at (λ m. Q j m.state ws) n i j (λ m h. q.quiet j m.state (parted m).state ws (parted_rows m) h) h

calling_keeps : (Q : ℕ → State → List Written → Type 0) → IsLasting Q → (i : ℕ) (call : Call) (failure : Option Failure) (c : Course)
    → ((j : ℕ) → OfEach Q c j) → (j : ℕ) → OfEach Q (calling i call failure c) j
calling_keeps Q q i call None c h = let m = manager_at c.network i in let outcome = outcome_of m call in
    some_written Q q c.network i (succeeded m outcome) outcome.entry c.written (made_only _ m.state outcome.entry (calls_are_modest m call).entry) (beside_rows outcome.beside (recorded m.state outcome.entry))
    (absent_idle c.network i call) h
calling_keeps Q q i call (Some how) c h = λ j. let m = manager_at c.network i in let outcome = outcome_of m call in
    ended_keeps Q q (with_manager c.network i (failed m outcome)) i j (written_of j c.written)
    (with_at (λ x. Q j x.state (written_of j c.written)) c.network i j (failed m outcome) (h j) (λ e. subst (λ k. Q j (manager_at c.network k).state (written_of j c.written)) (sym e) (h j)))

pub noted_managers : (i now count : ℕ) (n : Network) → (noted i now count n).managers ≡ n.managers
noted_managers i now count n = at (connection_of n i)
  where
    at : (o : Option Connection) → (option_map_or (λ c. record n { notes = n.notes ++ replicate count (note_by i now c) }) o n).managers ≡ n.managers
    at None = refl
    at (Some c) = refl

posted_keeps : (Q : ℕ → State → List Written → Type 0) (i now : ℕ) (packets : List Packet) (c : Course) → ((j : ℕ) → OfEach Q c j) → (j : ℕ) → OfEach Q (posted i now packets c) j
posted_keeps Q i now packets c h j = subst (λ ms. Q j (unwrap_or (slice_get ms j) nobody).state (written_of j c.written)) (sym (noted_managers i now (length packets) c.network)) (h j)

hearing_keeps : (Q : ℕ → State → List Written → Type 0) → IsLasting Q → (note : Option Note) (p : Option Packet) (now : ℕ) (failure : Option Failure) (c : Course)
    → ((j : ℕ) → OfEach Q c j) → (j : ℕ) → OfEach Q (hearing note p now failure c) j
hearing_keeps Q q None p now failure c h = h
hearing_keeps Q q (Some note) None now failure c h = h
hearing_keeps Q q (Some note) (Some p) now failure c h = calling_keeps Q q note.receiver (Hear now p) failure c h

pub durable_rows : (s : State) → HasSameRows s (durable s)
durable_rows s = record { manager = record { identity = refl; peers = refl }; outs = refl; ins = refl; next_ordinal = refl; numbers = omega arith }

-- a manager is in what its store stands for
durable_keeps : (Q : ℕ → State → List Written → Type 0) → IsLasting Q → (c : Course) (i : ℕ) (m : Manager) → m.state ≡ durable (manager_at c.network i).state
    → ((j : ℕ) → OfEach Q c j) → (j : ℕ) → Q j (manager_at (with_manager c.network i m) j).state (written_of j c.written)
durable_keeps Q q c i m same h j = with_at (λ x. Q j x.state (written_of j c.written)) c.network i j m (h j)
    (λ e. subst (λ s. Q j s (written_of j c.written)) (sym same) (q.quiet j (manager_at c.network i).state (durable (manager_at c.network i).state) (written_of j c.written)
    (durable_rows (manager_at c.network i).state) (subst (λ k. Q j (manager_at c.network k).state (written_of j c.written)) (sym e) (h j))))

pub change_lasts : (known : List Identity) (Q : ℕ → State → List Written → Type 0) → IsLasting Q → (c : Course) (x : Change) → may_change c x ≡ true → IsOrderly known c
    → ((j : ℕ) → OfEach Q c j) → (j : ℕ) → OfEach Q (changed x c) j
change_lasts known Q q c (Calls i call failure) may o h = calling_keeps Q q i call failure c h
change_lasts known Q q c (Pumps i now failure) may o h = posted_keeps Q i now (given_out (outcome_of (manager_at c.network i) (Pump now)) failure) (calling i (Pump now) failure c)
    (calling_keeps Q q i (Pump now) failure c h)
change_lasts known Q q c (Hears k now failure) may o h = hearing_keeps Q q (numbered c.network.notes k) (numbered c.sent k) now failure c h
change_lasts known Q q c (Links a b window_a window_b) may o h = λ j. let end = asking (manager_at c.network a).state (manager_at c.network b).state.identity.guid in
    subst (λ s. Q j s (written_of j c.written)) (sym (linked_same_state (linked_as a end window_a c.network) b j role.Acceptor window_b ∙ linked_same_state c.network a j end window_a)) (h j)
change_lasts known Q q c (Ends i) may o h = λ j. ended_keeps Q q c.network i j (written_of j c.written) (h j)
change_lasts known Q q c (Drops k) may o h = h
change_lasts known Q q c (Restarts i) may o h = durable_keeps Q q c i (restarted (manager_at c.network i) false) refl h
change_lasts known Q q c (Finds i) may o h = let m = manager_at c.network i in
    some_written Q q c.network i (restarted m true) (doubt_of m.condition) c.written (o.doubts i) (durable_rows (recorded m.state (doubt_of m.condition)))
    (λ e. ap (λ x. doubt_of (unwrap_or x nobody).condition) e) h
change_lasts known Q q c (Fails i) may o h = durable_keeps Q q c i (unread (manager_at c.network i)) refl h

pub change_keeps : (known : List Identity) (Q : State → List Written → Type 0) → IsByRecords Q → (c : Course) (x : Change) → may_change c x ≡ true → IsOrderly known c
    → ((j : ℕ) → OfManager Q j c) → (j : ℕ) → OfManager Q j (changed x c)
change_keeps known Q q c x may o h = change_lasts known (λ i. Q) (record { quiet = λ i. q.quiet; grows = q.grows }) c x may o h

-- it is kept by each change
pub by_records : (known : List Identity) (Q : State → List Written → Type 0) → AreApart known → IsByRecords Q → IsClosed known (IsOrderlyWith known Q)
by_records known Q apart q = record {
  orderly = λ c h. h.0;
  keeps = λ c x may h. (change_orderly known c x apart may h.0, change_keeps known Q q c x may h.0 h.1);
}

pub begins_with : (known : List Identity) (Q : State → List Written → Type 0) → IsByRecords Q → IsOrderlyWith known Q (beginning known)
begins_with known Q q = (begins_orderly known, λ i. subst (λ o. Q (unwrap_or o nobody).state []) (sym (map_get (λ own. formatted own (others known own)) known i)) (at (slice_get known i)))
  where
    at : (o : Option Identity) → Q (unwrap_or (option_map (λ own. formatted own (others known own)) o) nobody).state []
    at None = q.starts (record { host = []; guid = no_guid; address = [] }) []
    at (Some own) = q.starts own (others known own)

-- and so it holds at each point of each run, whatever became of the records in doubt
pub always_by_records : (Q : State → List Written → Type 0) → IsByRecords Q → Always (λ c. (i : ℕ) → OfManager Q i c)
always_by_records Q q known ms apart run kept = (always_kept known (IsOrderlyWith known Q) (by_records known Q apart q) ms run kept (begins_with known Q q)).1
