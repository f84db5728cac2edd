-- What a manager makes of a packet by a plan.
use Rattle.std.proofs.Common.{inl, inr, refl, sym, ap, subst, ◌∙◌, length}
use Rattle.std.specs.Option.{option_map_or}
use Rattle.std.specs.Prelude.{[], ◌+◌, ◌≡◌, ◌≤◌, ◌⊎◌, Bool, Err, IfSome, IsSome, IsSomeAnd, List, None, Ok, Option, Some, cond, false, is_some, option_map, true, ℕ}
use Rattle.mqb_outside.specs.Disk.{Lawful, LeavesOnly, View}
use Rattle.mqb_entries.specs.SpelledEntries.{Fits, spelled}
use Rattle.mqb_entries.specs.declared.entry.Entry.{Entry}
use Rattle.mqb_store.specs.Work.{beside_of}
use Rattle.mqb_hearing.specs.Arrivals.{bytes_of_packet}
use Rattle.mqb_hearing.specs.Plans.{IsAsHeard, OnHeard, ShowsReadable, outcome_of, owing_row, rest_after}
use Rattle.mqb_hearing.specs.declared.hearing.Hearing.{Hearing}
use Rattle.mqb_journal.specs.States.{JournalState}
use Rattle.mqb_model.specs.Lists.{grown}
use Rattle.mqb_model.specs.calls.hear.Hear.{IsReadable, hear, hear_linked}
use Rattle.mqb_model.specs.calls.hear.Session.{HeardOutcome, with_session}
use Rattle.mqb_model.specs.declared.faults.HearFault.TheVariants as fault
use Rattle.mqb_model.specs.declared.limits.TheConstants.{MAX_RECORD}
use Rattle.mqb_model.specs.laws.Durable as model_laws
use Rattle.mqb_model.specs.laws.Fitting.{IsFitting, RecordsFit}
use Rattle.mqb_model.specs.laws.Keeping.{CallsKeepValid, StaysValid}
use Rattle.mqb_model.specs.managers.Beside.{Beside, beside_done}
use Rattle.mqb_model.specs.managers.Manager.{Condition, Manager, Rest, is_down, rest_for}
use Rattle.mqb_model.specs.managers.Outcomes.{Outcome, answering, failed, failed_under, recorded, succeeded, unless}
use Rattle.mqb_model.specs.managers.Valid.{IsValidManager}
use Rattle.mqb_model.specs.records.Applying.{fits, lines_of}
use Rattle.mqb_model.specs.records.Reading.{record_in}
use Rattle.mqb_model.specs.records.Record.{Record}
use Rattle.mqb_model.specs.state.Durable.{durable}
use Rattle.mqb_model.specs.state.State.{State}
use Rattle.mqb_model.specs.state.Valid.{IsValidState}
use Rattle.mqb_packet.specs.Parts.{seen_packet}
use Rattle.mqb_packet.specs.Spelled.{packet_in}
use Rattle.mqb_packet.specs.declared.lent.PacketView.{PacketView}
use Rattle.mqb_packet.specs.declared.packet.Packet.{Packet}
use Rattle.mqb_session.specs.State as one_end
use Rattle.mqb_store.specs.States as stores
use Rattle.mqb_store.specs.States.{IsSameStore, StoreState}
use Rattle.mqb_store.specs.Writing.{CanWrite, LeavesStore, change_in, written}
use Rattle.mqb_manager.specs.Calls.{IsCall}
use Rattle.mqb_choosing.specs.Owed.{marked}
use Rattle.mqb_manager.specs.Seen.{seen}
use Rattle.mqb_manager.specs.States.{IsUp, ManagerState, condition_of, manager_of}
use Rattle.mqb_store.specs.mqb_store_laws.Images.{Opens}
use Rattle.mqb_store.specs.mqb_store_laws.Writing.{WritesOne}
use Rattle.mqb_store.specs.Together.{LeavesValid}
use Rattle.mqb_manager.proofs.Calls.{change_is}
use Rattle.mqb_manager.proofs.Conditions.{up_condition}
use Rattle.mqb_choosing.proofs.OwedRows.{marked_grown}
use Rattle.mqb_choosing.proofs.Rests.{grown_again, no_more}
use Rattle.mqb_manager.proofs.Written.{IsBroken, IsStored}
use Rattle.mqb_manager.proofs.Written as writes

-- a linked manager that is up hears
pub linked_hears : (m : Manager) (p : Packet) (now : ℕ) (session : one_end.State) → is_down m ≡ false → m.rest.session ≡ Some session → hear m p now ≡ hear_linked m now p session
linked_hears m p now session up e =
    ap (λ (b : Bool). unless m (cond b (Some fault.Down) None) (option_map_or (hear_linked m now p) m.rest.session (answering m (Err fault.NotLinked)))) up
    ∙ ap (λ (o : Option one_end.State). option_map_or (hear_linked m now p) o (answering m (Err fault.NotLinked))) e

pub down_hears : (m : Manager) (p : Packet) (now : ℕ) → is_down m ≡ true → hear m p now ≡ answering m (Err fault.Down)
down_hears m p now down =
    ap (λ (b : Bool). unless m (cond b (Some fault.Down) None) (option_map_or (hear_linked m now p) m.rest.session (answering m (Err fault.NotLinked)))) down

pub unlinked_hears : (m : Manager) (p : Packet) (now : ℕ) → is_down m ≡ false → m.rest.session ≡ None → hear m p now ≡ answering m (Err fault.NotLinked)
unlinked_hears m p now up e =
    ap (λ (b : Bool). unless m (cond b (Some fault.Down) None) (option_map_or (hear_linked m now p) m.rest.session (answering m (Err fault.NotLinked)))) up
    ∙ ap (λ (o : Option one_end.State). option_map_or (hear_linked m now p) o (answering m (Err fault.NotLinked))) e

-- an outcome is what its parts are
abbrev outcome_with : {A : Type 0} → A → Bool → Option Record → Beside → Rest → List Packet → Outcome A
outcome_with answer touches entry beside rest packets = record { answer = answer; touches = touches; entry = entry; beside = beside; rest = rest; packets = packets }

pub same_outcome : {A : Type 0} (o p : Outcome A) → o.answer ≡ p.answer → o.touches ≡ p.touches → o.entry ≡ p.entry → o.beside ≡ p.beside → o.rest ≡ p.rest → o.packets ≡ p.packets → o ≡ p
same_outcome o p answer touches entry beside rest packets =
    ap (λ x. outcome_with x o.touches o.entry o.beside o.rest o.packets) answer
    ∙ ap (λ x. outcome_with p.answer x o.entry o.beside o.rest o.packets) touches
    ∙ ap (λ x. outcome_with p.answer p.touches x o.beside o.rest o.packets) entry
    ∙ ap (λ x. outcome_with p.answer p.touches p.entry x o.rest o.packets) beside
    ∙ ap (λ x. outcome_with p.answer p.touches p.entry p.beside x o.packets) rest
    ∙ ap (λ x. outcome_with p.answer p.touches p.entry p.beside p.rest x) packets

-- Whatever packet the view shows, the plan is what hearing it comes to.
abbrev pub IsPlan : Manager → ℕ → PacketView → Hearing → Type 0
IsPlan m now v h = (p : Packet) → packet_in (seen_packet v) ≡ Some p → hear m p now ≡ outcome_of m h

-- What is said of a plan for those with this state and this session.
pub record IsPlanned (s : State) (session : one_end.State) (now : ℕ) (v : PacketView) (h : Hearing) : Type 0 where
  pub answer : OnHeard s session now v (λ m o. o.answer ≡ Ok h.answer)
  pub entry : OnHeard s session now v (λ m o. o.entry ≡ h.arrival.written)
  pub beside : OnHeard s session now v (λ m o. o.beside ≡ beside_of h.work)
  pub rest : OnHeard s session now v (λ m o. o.rest ≡ rest_after h m.rest)
  pub touches : OnHeard s session now v (λ m o. o.touches ≡ is_some h.arrival.written)
  pub packets : OnHeard s session now v (λ m o. o.packets ≡ [])

-- A manager is up, and has this state and this session.
pub record IsLinkedBy (m : ManagerState) (s : State) (session : one_end.State) : Type 0 where
  pub up : is_down (manager_of m) ≡ false
  pub kept : m.store.state ≡ s
  pub linked : m.session ≡ Some session

pub plan_is : (m : ManagerState) (s : State) (session : one_end.State) (now : ℕ) (v : PacketView) (h : Hearing) → IsLinkedBy m s session → IsPlanned s session now v h
    → IsPlan (manager_of m) now v h
plan_is m s session now v h has planned p there = let k = manager_of m in
    linked_hears k p now session has.up has.linked
    ∙ same_outcome (hear_linked k now p session) (outcome_of k h) (planned.answer k p has.kept there) (planned.touches k p has.kept there) (planned.entry k p has.kept there)
    (planned.beside k p has.kept there) (planned.rest k p has.kept there) (planned.packets k p has.kept there)

module _ (m : Manager) (now : ℕ) (v : PacketView) (h : Hearing) (valid : IsValidManager m) (shows : ShowsReadable v) (plan : IsPlan m now v h) where
  -- the packet that the view shows
  shown : (o : Option Packet) → packet_in (seen_packet v) ≡ o → IsSomeAnd o IsReadable → (p : Packet) × (packet_in (seen_packet v) ≡ Some p) × IsReadable p
  shown None e r = absurd r
  shown (Some p) e r = (p, e, r)

  packet : (p : Packet) × (packet_in (seen_packet v) ≡ Some p) × IsReadable p
  packet = shown (packet_in (seen_packet v)) refl shows

  pub plan_fits : RecordsFit → IsFitting m (outcome_of m h)
  plan_fits law = subst (λ (o : HeardOutcome). IsFitting m o) (plan packet.0 packet.1) ((law m).hears valid packet.0 now packet.2)

  pub plan_valid : CallsKeepValid → StaysValid m (outcome_of m h)
  plan_valid law = subst (λ (o : HeardOutcome). StaysValid m o) (plan packet.0 packet.1) ((law m valid).hears packet.0 now packet.2)

  pub plan_stored : model_laws.CallsLeaveStore → model_laws.LeavesStore m (outcome_of m h)
  plan_stored law = subst (λ (o : HeardOutcome). model_laws.LeavesStore m o) (plan packet.0 packet.1) ((law m valid).hears packet.0 now packet.2)

-- The record of an entry.

fit_in : (s : State) (o : Option Record) (r : Record) → o ≡ Some r → fits s r ≡ true → IsSomeAnd o (λ r. fits s r ≡ true)
fit_in s o r e fit = subst (λ (o : Option Record). IsSomeAnd o (λ r. fits s r ≡ true)) (sym e) fit

-- an entry is the record of a plan, or there is neither
abbrev pub Shows : Option Entry → Option Record → Type 0
Shows entry arrival = option_map record_in entry ≡ option_map (λ r. Some r) arrival

pub can_write : (s : State) (entry : Option Entry) (arrival : Option Record) → Shows entry arrival → IfSome entry Fits → IfSome entry (λ e. length (spelled e) ≤ MAX_RECORD)
    → IfSome arrival (λ r. fits s r ≡ true) → IfSome entry (CanWrite s)
can_write s None arrival shows put small fit = tt
can_write s (Some form) None shows put small fit = absurd (let none : ⊥ = cc in none)
can_write s (Some form) (Some r) shows put small fit = record { put = put; small = small; fits = fit_in s (record_in form) r (let is : record_in form ≡ Some r = cc in is) fit }

-- what is left is valid
pub leaves_valid : (s : State) (entry : Option Entry) (arrival : Option Record) (b : Beside) → Shows entry arrival → IsValidState (beside_done b (recorded s arrival)) → LeavesValid s entry b
leaves_valid s None None b shows v = v
leaves_valid s None (Some r) b shows v = absurd (let none : ⊥ = cc in none)
leaves_valid s (Some form) None b shows v = absurd (let none : ⊥ = cc in none)
leaves_valid s (Some form) (Some r) b shows v = let is : record_in form ≡ Some r = cc in
    subst (λ (o : Option Record). IfSome o (λ r. fits s r ≡ true → IsValidState (beside_done b (recorded s (Some r))))) (sym is) (λ fit. v)

counted : (entry : Option Entry) (arrival : Option Record) → Shows entry arrival → ◌≡◌ {A = ℕ} (option_map_or (λ _. 1) entry 0) (option_map_or (λ _. 1) arrival 0)
counted None None shows = refl
counted None (Some r) shows = absurd (let none : ⊥ = cc in none)
counted (Some form) None shows = absurd (let none : ⊥ = cc in none)
counted (Some form) (Some r) shows = refl

-- a disk that failed was called
there : (entry : Option Entry) (arrival : Option Record) → Shows entry arrival → (P : Entry → Type 0) → IsSomeAnd entry P → IsSome arrival
there None arrival shows P h = absurd h
there (Some form) None shows P h = absurd (let none : ⊥ = cc in none)
there (Some form) (Some r) shows P h = refl

-- what holds where there is an entry
pub entry_there : (entry : Option Entry) (arrival : Option Record) (P : Type 0) → Shows entry arrival → IfSome entry (λ e. P) → IfSome arrival (λ r. P)
entry_there None None P shows h = tt
entry_there None (Some r) P shows h = absurd (let none : ⊥ = cc in none)
entry_there (Some form) None P shows h = tt
entry_there (Some form) (Some r) P shows h = h

-- what was spelled of an entry is as it arrived
pub spelled_as : (bytes packet : List ℕ) (entry : Option Entry) (arrival : Option Record) → Shows entry arrival → IfSome entry (λ e. bytes_of_packet e ≡ packet)
    → IfSome entry (λ e. bytes ≡ spelled e) → IfSome arrival (IsAsHeard packet bytes)
spelled_as bytes packet None None shows whole spells = tt
spelled_as bytes packet (Some form) None shows whole spells = tt
spelled_as bytes packet None (Some r) shows whole spells = absurd (let none : ⊥ = cc in none)
spelled_as bytes packet (Some form) (Some r) shows whole spells = let is : record_in form ≡ Some r = cc in record { entry = form; told = is; spells = spells; packet = inr whole }

pub some_then : (entry : Option Entry) (P : Entry → Type 0) → IsSomeAnd entry P → IfSome entry P
some_then None P h = tt
some_then (Some form) P h = h

-- what is of the packet that arrived is of the one that was heard
brought : (of arrived whole : List ℕ) → (arrived ≡ []) ⊎ (arrived ≡ whole) → (of ≡ []) ⊎ (of ≡ arrived) → (of ≡ []) ⊎ (of ≡ whole)
brought of arrived whole which (inl none) = inl none
brought of arrived whole (inl none) (inr same) = inl (same ∙ none)
brought of arrived whole (inr heard) (inr same) = inr (same ∙ heard)

pub heard_as : (bytes arrived whole : List ℕ) (arrival : Option Record) → (arrived ≡ []) ⊎ (arrived ≡ whole) → IfSome arrival (IsAsHeard arrived bytes) → IfSome arrival (IsAsHeard whole bytes)
heard_as bytes arrived whole None which is = tt
heard_as bytes arrived whole (Some r) which is = record { entry = is.entry; told = is.told; spells = is.spells; packet = brought (bytes_of_packet is.entry) arrived whole which is.packet }

-- What is asked of a plan that is followed.
pub record CanFollow (m : ManagerState) (h : Hearing) : Type 0 where
  pub up : IsUp m
  pub fits : IsFitting (manager_of m) (outcome_of (manager_of m) h)
  pub valid : StaysValid (manager_of m) (outcome_of (manager_of m) h)
  pub stored : model_laws.LeavesStore (manager_of m) (outcome_of (manager_of m) h)

module _ (w x : StoreState) (session : Option one_end.State) (cs : List ℕ) (os : List Bool) (h : Hearing) where
  abbrev m : ManagerState
  m = seen w session cs os

  abbrev o : HeardOutcome
  o = outcome_of (manager_of m) h

  -- what is seen of the manager after it
  abbrev n : ManagerState
  n = seen x (Some h.session) cs (marked h.owes os)

  -- the state after it
  abbrev s : State
  s = beside_done (beside_of h.work) (recorded w.state h.arrival.written)

  rest_by : (owes : Option ℕ) → rest_for s (owing_row owes (with_session (manager_of m).rest h.session))
      ≡ record { session = Some h.session; cursors = grown 0 (length s.outs) m.cursors; owes = grown false (length s.ins) (marked owes m.owes) }
  rest_by None = refl
  rest_by (Some k) = refl

  pub heard_manager : stores.IsUp w → stores.IsUp x → x.state ≡ s → IsValidManager (succeeded (manager_of m) o) → manager_of n ≡ succeeded (manager_of m) o
  heard_manager up still state valid =
      ap (λ (t : State). record {
        state = t;
        rest = record { session = Some h.session; cursors = grown 0 (length t.outs) cs; owes = grown false (length t.ins) (marked h.owes os) };
        condition = condition_of x;
      }) state
      ∙ ap (λ (c : Condition). record {
        state = s;
        rest = record { session = Some h.session; cursors = grown 0 (length s.outs) cs; owes = grown false (length s.ins) (marked h.owes os) };
        condition = c;
      }) (up_condition x still ∙ sym (up_condition w up))
      ∙ ap (λ (ns : List ℕ). record {
        state = s;
        rest = record { session = Some h.session; cursors = ns; owes = grown false (length s.ins) (marked h.owes os) };
        condition = condition_of w;
      }) (sym (grown_again 0 (length w.state.outs) (length s.outs) cs (no_more 0 (length w.state.outs) (length s.outs) cs cursors)))
      ∙ ap (λ (bs : List Bool). record {
        state = s;
        rest = record { session = Some h.session; cursors = grown 0 (length s.outs) m.cursors; owes = bs };
        condition = condition_of w;
      }) (marked_grown (length w.state.ins) (length s.ins) h.owes os owes)
      ∙ ap (λ (rest : Rest). record { state = s; rest = rest; condition = condition_of w }) (sym rest)
    where
      rest : rest_for s o.rest ≡ record { session = Some h.session; cursors = grown 0 (length s.outs) m.cursors; owes = grown false (length s.ins) (marked h.owes m.owes) }
      rest = rest_by h.owes

      cursors : length (grown 0 (length s.outs) m.cursors) ≡ length s.outs
      cursors = subst (λ (r : Rest). length r.cursors ≡ length s.outs) rest valid.cursors

      owes : length (grown false (length s.ins) (marked h.owes m.owes)) ≡ length s.ins
      owes = subst (λ (r : Rest). length r.owes ≡ length s.ins) rest valid.owes

  heard_valid : stores.IsUp w → stores.IsUp x → x.state ≡ s → IsValidManager (succeeded (manager_of m) o) → IsValidManager (manager_of n)
  heard_valid up still state valid = subst IsValidManager (sym (heard_manager up still state valid)) valid

  module _ (d e : View) (entry : Option Entry) (shows : Shows entry h.arrival.written) where
    is : change_in entry ≡ h.arrival.written
    is = change_is entry h.arrival.written shows

    -- the state after the write
    left : x.state ≡ written w.state entry (beside_of h.work) → x.state ≡ s
    left state = state ∙ ap (λ (r : Option Record). beside_done (beside_of h.work) (recorded w.state r)) is

    opens : (t : View) → LeavesOnly d t (Opens w.journal w.state (change_in entry)) → LeavesOnly d t (Opens w.journal w.state h.arrival.written)
    opens t run = subst (λ (r : Option Record). LeavesOnly d t (Opens w.journal w.state r)) is run

    wrote_as : (t : View) → WritesOne d t w.journal x.journal x.entry (change_in entry) → WritesOne d t w.journal x.journal x.entry h.arrival.written
    wrote_as t wrote = subst (λ (r : Option Record). WritesOne d t w.journal x.journal x.entry r) is wrote

    pub heard_after : stores.IsUp w → IsStored d e w x entry (beside_of h.work) → IsValidManager (succeeded (manager_of m) o) → IsValidManager (manager_of n)
    heard_after up stored valid = heard_valid up stored.up (left stored.state) valid

    pub heard_call : stores.IsUp w → IsStored d e w x entry (beside_of h.work) → IsValidManager (succeeded (manager_of m) o)
        → IsCall fault.Memory fault.DiskFault d e m n o (Ok h.answer)
    heard_call up stored valid = record {
      ends = inl (
        refl,
        record {
          manager = heard_manager up stored.up (left stored.state) valid;
          lines = stored.lines ∙ ap (λ (r : Option Record). option_map_or (lines_of w.state) r w.lines) is;
          count = stored.count ∙ ap (λ k. w.journal.count + k) (counted entry h.arrival.written shows);
          guid = stored.guid;
        },
      );
      on = λ on still. stored.on;
      settled = λ on settled still. stored.settled settled;
      wrote = wrote_as e stored.wrote;
      moments = λ on settled. opens e (stored.moments settled);
      doubt = λ on settled not_up. absurd (not_up stored.up);
      rose = λ same. absurd (let none : ⊥ = cc in none);
      stayed = λ not. stored.stayed;
      switch = stored.switch;
    }

    pub wanting_call : stores.IsUp w → IsSameStore w x → Lawful d → IsCall fault.Memory fault.DiskFault d d m (seen x session cs os) o (Err fault.Memory)
    wanting_call up same law = let call = writes.same_call d d w x session cs os entry (beside_of h.work) up same law in record {
      ends = inr (inl (refl, record { manager = writes.same_manager d d w x session cs os entry (beside_of h.work) up same; store = same }));
      on = call.on;
      settled = call.settled;
      wrote = wrote_as d call.wrote;
      moments = λ on settled. opens d (call.moments on settled);
      doubt = call.doubt;
      rose = λ wrong. absurd (let none : ⊥ = cc in none);
      stayed = λ not. refl;
      switch = refl;
    }

    pub broken_call : IfSome entry (CanWrite w.state) → IsBroken d e w x entry → IsCall fault.Memory fault.DiskFault d e m (seen x None [] []) o (Err fault.DiskFault)
    broken_call can broken = let call = writes.broken_call d e w x session cs os entry (beside_of h.work) can broken in record {
      ends = inr (inr (
        refl,
        record {
          entry = there entry h.arrival.written shows _ broken.doubt;
          manager = writes.broken_manager d e w x session cs os entry (beside_of h.work) broken ∙ ap (failed_under (manager_of m)) is;
          lines = broken.lines;
          count = ap (λ (j : JournalState). j.count) broken.journal;
          guid = ap (λ (j : JournalState). j.guid) broken.journal;
        },
      ));
      on = call.on;
      settled = call.settled;
      wrote = wrote_as e broken.wrote;
      moments = λ on settled. opens e (broken.moments settled);
      doubt = call.doubt;
      rose = λ same. broken.rose;
      stayed = λ not. absurd (not refl);
      switch = broken.switch;
    }

    pub broken_after : IsBroken d e w x entry → IsValidManager (failed (manager_of m) o) → IsValidManager (manager_of (seen x None [] []))
    broken_after broken valid = writes.broken_valid d e w x session cs os entry (beside_of h.work) broken (subst (λ (r : Option Record). IsValidManager (failed_under (manager_of m) r)) (sym is) valid)

    -- The same of a manager that is these parts, and can follow the plan.
    module _ (whole : ManagerState) (parts : m ≡ whole) (ready : CanFollow whole h) where
      mine : CanFollow m h
      mine = subst (λ (k : ManagerState). CanFollow k h) (sym parts) ready

      pub may_write : IfSome entry Fits → IfSome entry (λ e. length (spelled e) ≤ MAX_RECORD) → IfSome entry (CanWrite w.state)
      may_write put small = can_write w.state entry h.arrival.written shows put small mine.fits

      pub may_leave : LeavesValid w.state entry (beside_of h.work)
      may_leave = leaves_valid w.state entry h.arrival.written (beside_of h.work) shows mine.valid.succeeds.state

      pub leaves_store : LeavesStore w.state entry (beside_of h.work)
      leaves_store = subst (λ (r : Option Record). durable (beside_done (beside_of h.work) (recorded w.state r)) ≡ durable (recorded w.state r)) (sym is) mine.stored

      pub ok_valid : IsStored d e w x entry (beside_of h.work) → (bs : List Bool) → bs ≡ marked h.owes os → IsValidManager (manager_of (seen x (Some h.session) cs bs))
      ok_valid stored bs marks = subst (λ (bs : List Bool). IsValidManager (manager_of (seen x (Some h.session) cs bs))) (sym marks) (heard_after mine.up stored mine.valid.succeeds)

      pub ok_call : IsStored d e w x entry (beside_of h.work) → (bs : List Bool) → bs ≡ marked h.owes os
          → IsCall fault.Memory fault.DiskFault d e whole (seen x (Some h.session) cs bs) (outcome_of (manager_of whole) h) (Ok h.answer)
      ok_call stored bs marks = subst (λ (bs : List Bool). IsCall fault.Memory fault.DiskFault d e whole (seen x (Some h.session) cs bs) (outcome_of (manager_of whole) h) (Ok h.answer)) (sym marks)
          (subst (λ (k : ManagerState). IsCall fault.Memory fault.DiskFault d e k n (outcome_of (manager_of k) h) (Ok h.answer)) parts (heard_call mine.up stored mine.valid.succeeds))

      pub fault_valid : IsBroken d e w x entry → IsValidManager (manager_of (seen x None [] []))
      fault_valid broken = broken_after broken mine.valid.fails

      pub fault_call : IfSome entry (CanWrite w.state) → IsBroken d e w x entry
          → IsCall fault.Memory fault.DiskFault d e whole (seen x None [] []) (outcome_of (manager_of whole) h) (Err fault.DiskFault)
      fault_call can broken = subst (λ (k : ManagerState). IsCall fault.Memory fault.DiskFault d e k (seen x None [] []) (outcome_of (manager_of k) h) (Err fault.DiskFault)) parts (broken_call can broken)

      pub memory_call : IsSameStore w x → Lawful d → IsCall fault.Memory fault.DiskFault d d whole (seen x session cs os) (outcome_of (manager_of whole) h) (Err fault.Memory)
      memory_call same law = subst (λ (k : ManagerState). IsCall fault.Memory fault.DiskFault d d k (seen x session cs os) (outcome_of (manager_of k) h) (Err fault.Memory)) parts (wanting_call mine.up same law)
