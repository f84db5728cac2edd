-- How each change of a course goes: one manager writes a record, or none does.
use Rattle.std.proofs.Common.{refl, ap, sym, subst, ◌∙◌}
use Rattle.std.specs.Option.{option_map_or}
use Rattle.std.specs.Prelude.{◌-◌, ◌==◌, ◌≡◌, IfSome, List, None, Option, Some, false, not, slice_get, slice_set, suc, true, unwrap_or, zero, ℕ}
use Rattle.mqb_exactly_once.specs.Words.{In}
use Rattle.mqb_exactly_once.specs.World.{Channel, Transfer}
use Rattle.mqb_model.specs.managers.Manager.{Manager, doubt_of}
use Rattle.mqb_model.specs.managers.Outcomes.{failed, recorded, succeeded}
use Rattle.mqb_model.specs.managers.Restarts.{restarted, unread}
use Rattle.mqb_model.specs.records.Record.{Record}
use Rattle.mqb_network.specs.Changes.{as_dropped, ended, ended_by, parted}
use Rattle.mqb_network.specs.Choices.{Failure}
use Rattle.mqb_network.specs.Courses.{Course}
use Rattle.mqb_network.specs.Network.{Connection, Network, Note, connection_of, manager_at, nobody, with_manager}
use Rattle.mqb_queue.specs.Places.{numbered, with_numbered}
use Rattle.mqb_model.specs.calls.Call.{Call, outcome_of}
use Rattle.mqb_history.specs.Changes.{Drops, Ends, Fails, Finds, Restarts, calling, changed}
use Rattle.mqb_history.proofs.Applying.{beside_rows}
use Rattle.mqb_history.proofs.Between.{elsewhere}
use Rattle.mqb_history.proofs.Carrying.{numbered_suc, place_there}
use Rattle.mqb_history.proofs.Ending.{parted_at, parted_condition, parted_rows}
use Rattle.mqb_history.proofs.Linked.{Goes}
use Rattle.mqb_history.proofs.Posted.{IsSameNoteAt}
use Rattle.mqb_history.proofs.Lists.{append_nothing, get_within, none_some, set_get, set_there, some_is}
use Rattle.mqb_history.proofs.Ordering.{ended_notes, with_at}
use Rattle.mqb_history.proofs.Outside.{filtered_in}
use Rattle.mqb_history.proofs.Ruling.{MayRule}
use Rattle.mqb_history.proofs.Staying.{HasSameRows, rows_then, same_rows}
use Rattle.mqb_history.proofs.Written.{absent_idle, durable_rows}

same_note : (notes : List Note) (k : ℕ) (note : Note) → numbered notes k ≡ Some note → IsSameNoteAt notes k note
same_note notes k note e = record { old = note; there = e; sender = refl; receiver = refl; connection = refl; moment = refl }

rows_equal : (a b : Manager) → b ≡ a → HasSameRows a.state b.state
rows_equal a b e = subst (λ (x : Manager). HasSameRows a.state x.state) (sym e) (same_rows a.state)

-- a manager that is another one now, where it is there
placed_rows : (n : Network) (a : ℕ) (m : Manager) (o : Option Record) → (slice_get n.managers a ≡ None → o ≡ None) → HasSameRows (recorded (manager_at n a).state o) m.state
    → HasSameRows (recorded (manager_at n a).state o) (manager_at (with_manager n a m) a).state
placed_rows n a m o absent rows = at (slice_get n.managers a) refl
  where
    Goal : Option Manager → Type 0
    Goal x = HasSameRows (recorded (manager_at n a).state o) (unwrap_or x nobody).state

    at : (x : Option Manager) → slice_get n.managers a ≡ x → Goal (slice_get (slice_set n.managers a m) a)
    at None e = set_get Goal n.managers a a m (subst (λ r. HasSameRows (recorded (manager_at n a).state r) (manager_at n a).state) (sym (absent e)) (same_rows (manager_at n a).state)) (λ same lt. rows)
    at (Some x) e = subst Goal (sym (set_there n.managers a m (get_within n.managers a x e))) rows

-- Calls.

pub called_goes : (a : ℕ) (call : Call) (c : Course) → Goes c (calling a call None c) a (outcome_of (manager_at c.network a) call).entry
called_goes a call c = let m = manager_at c.network a in let outcome = outcome_of m call in record {
  others = λ x apart. rows_equal (manager_at c.network x) _ (elsewhere c.network a x (succeeded m outcome) apart);
  own = placed_rows c.network a (succeeded m outcome) outcome.entry (absent_idle c.network a call) (beside_rows outcome.beside (recorded m.state outcome.entry));
  written = refl;
  connections = λ e i. i;
  notes = same_note c.network.notes;
  notes_kept = same_note c.network.notes;
  sent = refl;
}

-- connections of which one ended
ended_in : (n : Network) (a : ℕ) (e : Connection) → In e (ended a n).connections → In e n.connections
ended_in n a e i = at (connection_of n a) i
  where
    at : (o : Option Connection) → In e (option_map_or (ended_by n) o n).connections → In e n.connections
    at None i = i
    at (Some x) i = filtered_in (λ (y : Connection). not (y.number == x.number)) n.connections e i

ended_rows : (n : Network) (a x : ℕ) → HasSameRows (manager_at n x).state (manager_at (ended a n) x).state
ended_rows n a x = parted_at (λ y. HasSameRows (manager_at n x).state y.state) n a x (λ m h. rows_then (manager_at n x).state m.state (parted m).state h (parted_rows m)) (same_rows (manager_at n x).state)

pub failed_goes : (a : ℕ) (call : Call) (how : Failure) (c : Course) → Goes c (calling a call (Some how) c) a None
failed_goes a call how c = record {
  others = λ x apart. rows x;
  own = rows a;
  written = sym (append_nothing c.written);
  connections = λ e i. ended_in between a e i;
  notes = λ k note e. same_note c.network.notes k note (subst (λ (notes : List Note). numbered notes k ≡ Some note) (ended_notes between a) e);
  notes_kept = λ k note e. subst (λ (notes : List Note). IsSameNoteAt notes k note) (sym (ended_notes between a)) (same_note c.network.notes k note e);
  sent = refl;
}
  where
    m : Manager
    m = manager_at c.network a

    between : Network
    between = with_manager c.network a (failed m (outcome_of m call))

    rows : (x : ℕ) → HasSameRows (manager_at c.network x).state (manager_at (ended a between) x).state
    rows x = rows_then (manager_at c.network x).state (manager_at between x).state (manager_at (ended a between) x).state
        (with_at (λ y. HasSameRows (manager_at c.network x).state y.state) c.network a x (failed m (outcome_of m call)) (same_rows (manager_at c.network x).state)
        (λ e. subst (λ k. HasSameRows (manager_at c.network k).state m.state) e (same_rows m.state))) (ended_rows between a x)

pub ends_goes : (a : ℕ) (c : Course) → Goes c (changed (Ends a) c) a None
ends_goes a c = record {
  others = λ x apart. ended_rows c.network a x;
  own = ended_rows c.network a a;
  written = sym (append_nothing c.written);
  connections = ended_in c.network a;
  notes = λ k note e. same_note c.network.notes k note (subst (λ (notes : List Note). numbered notes k ≡ Some note) (ended_notes c.network a) e);
  notes_kept = λ k note e. subst (λ (notes : List Note). IsSameNoteAt notes k note) (sym (ended_notes c.network a)) (same_note c.network.notes k note e);
  sent = refl;
}

-- Packets that are dropped.

set_same : (notes : List Note) (d k : ℕ) (x note : Note) → slice_get notes (d - 1) ≡ Some x → numbered (slice_set notes (d - 1) (as_dropped x)) k ≡ Some note → IsSameNoteAt notes k note
set_same notes d zero x note place e = absurd (none_some e)
set_same notes d (suc k) x note place e = set_get (λ o. o ≡ Some note → IsSameNoteAt notes (suc k) note) notes (d - 1) k (as_dropped x)
    (λ f. same_note notes (suc k) note (numbered_suc notes k ∙ f))
    (λ same lt f. let is = some_is (as_dropped x) note f in record {
      old = x;
      there = numbered_suc notes k ∙ ap (slice_get notes) (sym same) ∙ place;
      sender = ap (λ (y : Note). y.sender) is;
      receiver = ap (λ (y : Note). y.receiver) is;
      connection = ap (λ (y : Note). y.connection) is;
      moment = ap (λ (y : Note). y.moment) is;
    })
    (sym (numbered_suc (slice_set notes (d - 1) (as_dropped x)) k) ∙ e)

dropped_same : (notes : List Note) (d k : ℕ) (note : Note) → numbered (with_numbered notes d as_dropped) k ≡ Some note → IsSameNoteAt notes k note
dropped_same notes d k note e = at (numbered notes d) refl e
  where
    at : (o : Option Note) → numbered notes d ≡ o → numbered (option_map_or (λ x. slice_set notes (d - 1) (as_dropped x)) o notes) k ≡ Some note → IsSameNoteAt notes k note
    at None f e = same_note notes k note e
    at (Some x) f e = set_same notes d k x note (place_there notes d x f) e

-- each note that was there is
set_kept : (notes : List Note) (d k : ℕ) (x note : Note) → slice_get notes (d - 1) ≡ Some x → numbered notes k ≡ Some note → IsSameNoteAt (slice_set notes (d - 1) (as_dropped x)) k note
set_kept notes d zero x note place e = absurd (none_some e)
set_kept notes d (suc k) x note place e = set_get (λ o. slice_get (slice_set notes (d - 1) (as_dropped x)) k ≡ o → IsSameNoteAt (slice_set notes (d - 1) (as_dropped x)) (suc k) note) notes (d - 1) k (as_dropped x)
    (λ f. same_note (slice_set notes (d - 1) (as_dropped x)) (suc k) note (numbered_suc (slice_set notes (d - 1) (as_dropped x)) k ∙ f ∙ sym (numbered_suc notes k) ∙ e))
    (λ same lt f. let is = some_is x note (sym place ∙ ap (slice_get notes) same ∙ sym (numbered_suc notes k) ∙ e) in record {
      old = as_dropped x;
      there = numbered_suc (slice_set notes (d - 1) (as_dropped x)) k ∙ f;
      sender = ap (λ (y : Note). y.sender) is;
      receiver = ap (λ (y : Note). y.receiver) is;
      connection = ap (λ (y : Note). y.connection) is;
      moment = ap (λ (y : Note). y.moment) is;
    })
    refl

dropped_kept : (notes : List Note) (d k : ℕ) (note : Note) → numbered notes k ≡ Some note → IsSameNoteAt (with_numbered notes d as_dropped) k note
dropped_kept notes d k note e = at (numbered notes d) refl
  where
    at : (o : Option Note) → numbered notes d ≡ o → IsSameNoteAt (option_map_or (λ x. slice_set notes (d - 1) (as_dropped x)) o notes) k note
    at None f = same_note notes k note e
    at (Some x) f = set_kept notes d k x note (place_there notes d x f) e

pub drops_goes : (k : ℕ) (c : Course) → Goes c (changed (Drops k) c) 0 None
drops_goes k c = record {
  others = λ x apart. same_rows (manager_at c.network x).state;
  own = same_rows (manager_at c.network 0).state;
  written = sym (append_nothing c.written);
  connections = λ e i. i;
  notes = dropped_same c.network.notes k;
  notes_kept = dropped_kept c.network.notes k;
  sent = refl;
}

-- Managers that are started again.

stored_rows : (c : Course) (a : ℕ) (m : Manager) → HasSameRows (manager_at c.network a).state m.state → (x : ℕ) → HasSameRows (manager_at c.network x).state (manager_at (with_manager c.network a m) x).state
stored_rows c a m rows x = with_at (λ y. HasSameRows (manager_at c.network x).state y.state) c.network a x m (same_rows (manager_at c.network x).state)
    (λ e. subst (λ k. HasSameRows (manager_at c.network k).state m.state) e rows)

pub restarts_goes : (a : ℕ) (c : Course) → Goes c (changed (Restarts a) c) a None
restarts_goes a c = let m = manager_at c.network a in record {
  others = λ x apart. stored_rows c a (restarted m false) (durable_rows m.state) x;
  own = stored_rows c a (restarted m false) (durable_rows m.state) a;
  written = sym (append_nothing c.written);
  connections = λ e i. i;
  notes = same_note c.network.notes;
  notes_kept = same_note c.network.notes;
  sent = refl;
}

pub fails_goes : (a : ℕ) (c : Course) → Goes c (changed (Fails a) c) a None
fails_goes a c = let m = manager_at c.network a in record {
  others = λ x apart. stored_rows c a (unread m) (durable_rows m.state) x;
  own = stored_rows c a (unread m) (durable_rows m.state) a;
  written = sym (append_nothing c.written);
  connections = λ e i. i;
  notes = same_note c.network.notes;
  notes_kept = same_note c.network.notes;
  sent = refl;
}

pub finds_goes : (a : ℕ) (c : Course) → Goes c (changed (Finds a) c) a (doubt_of (manager_at c.network a).condition)
finds_goes a c = let m = manager_at c.network a in record {
  others = λ x apart. rows_equal (manager_at c.network x) _ (elsewhere c.network a x (restarted m true) apart);
  own = placed_rows c.network a (restarted m true) (doubt_of m.condition) (λ e. ap (λ x. doubt_of (unwrap_or x nobody).condition) e) (durable_rows (recorded m.state (doubt_of m.condition)));
  written = refl;
  connections = λ e i. i;
  notes = same_note c.network.notes;
  notes_kept = same_note c.network.notes;
  sent = refl;
}

-- What is in doubt.

abbrev MayDoubt : Channel → List Transfer → ℕ → Manager → Type 0
MayDoubt ch ts number m = IfSome (doubt_of m.condition) (MayRule ch ts number)

pub called_doubt : (ch : Channel) (ts : List Transfer) (number a j : ℕ) (call : Call) (failure : Option Failure) (c : Course) → MayDoubt ch ts number (manager_at c.network j)
    → (a ≡ j → IfSome (outcome_of (manager_at c.network a) call).entry (MayRule ch ts number)) → MayDoubt ch ts number (manager_at (calling a call failure c).network j)
called_doubt ch ts number a j call None c h may = let m = manager_at c.network a in
    with_at (MayDoubt ch ts number) c.network a j (succeeded m (outcome_of m call)) h (λ e. subst (λ k. MayDoubt ch ts number (manager_at c.network k)) (sym e) h)
called_doubt ch ts number a j call (Some how) c h may = let m = manager_at c.network a in let between = with_manager c.network a (failed m (outcome_of m call)) in
    ended_doubt between (with_at (MayDoubt ch ts number) c.network a j (failed m (outcome_of m call)) h may)
  where
    ended_doubt : (n : Network) → MayDoubt ch ts number (manager_at n j) → MayDoubt ch ts number (manager_at (ended a n) j)
    ended_doubt n g = parted_at (MayDoubt ch ts number) n a j (λ m k. subst (λ x. IfSome (doubt_of x) (MayRule ch ts number)) (sym (parted_condition m)) k) g

pub ended_doubt : (ch : Channel) (ts : List Transfer) (number a j : ℕ) (n : Network) → MayDoubt ch ts number (manager_at n j) → MayDoubt ch ts number (manager_at (ended a n) j)
ended_doubt ch ts number a j n g = parted_at (MayDoubt ch ts number) n a j (λ m k. subst (λ x. IfSome (doubt_of x) (MayRule ch ts number)) (sym (parted_condition m)) k) g

pub started_doubt : (ch : Channel) (ts : List Transfer) (number a j : ℕ) (n : Network) (m : Manager) → MayDoubt ch ts number (manager_at n j) → (a ≡ j → MayDoubt ch ts number m)
    → MayDoubt ch ts number (manager_at (with_manager n a m) j)
started_doubt ch ts number a j n m h new = with_at (MayDoubt ch ts number) n a j m h new
