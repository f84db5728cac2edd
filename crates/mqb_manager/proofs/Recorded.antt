-- Packets go once their marks were recorded.
use Rattle.std.proofs.Common.{arith, refl, sym, ap, subst, ◌∙◌, ◌<◌}
use Rattle.std.proofs.lemmas.Bool.Decides.{nat_tests}
use Rattle.std.proofs.lemmas.List.Elements.{All-map}
use Rattle.std.proofs.lemmas.Option.{slice_get_within}
use Rattle.std.specs.Prelude.{◌+◌, ◌++◌, ◌==◌, ◌≡◌, ◌≤◌, All, Bool, Err, IfSome, IsSomeAnd, List, None, Ok, Option, Result, Some, false, flat_map, fold, if◌then◌else◌, length, map, slice_get, sum_by, true, ℕ}
use Rattle.mqb_base.specs.declared.heads.SessionHead.{SessionHead}
use Rattle.mqb_base.specs.declared.ids.Guid.{Guid}
use Rattle.mqb_base.specs.declared.ids.Identity.{Identity}
use Rattle.mqb_outside.specs.Disk.{Counted, View}
use Rattle.mqb_entries.specs.declared.entry.Entry.TheVariants as form
use Rattle.mqb_entries.specs.declared.members.Mark.{Mark}
use Rattle.mqb_packet.specs.Plain.{plain_spelling}
use Rattle.mqb_packet.specs.Values.{IsPacket}
use Rattle.mqb_plain.specs.Plain.{PlainLists}
use Rattle.mqb_session.specs.State as one_end
use Rattle.mqb_choosing.specs.Choices.{IsThere, bytes_in, shown_in}
use Rattle.mqb_choosing.specs.declared.choice.Choice.{Choice}
use Rattle.mqb_choosing.specs.Going.{Going, candidates_to, known}
use Rattle.mqb_choosing.specs.Noting.{AreNextSent}
use Rattle.mqb_model.specs.calls.pump.Candidates.{Candidate, candidates}
use Rattle.mqb_model.specs.calls.pump.Choosing.{candidate_size, chosen, with_heads}
use Rattle.mqb_model.specs.calls.pump.Pump.{PumpOutcome, marks_for, offered_entry, origin_of, packet_for, pump, sending_all, settled}
use Rattle.mqb_model.specs.declared.faults.PumpFault.{PumpFault}
use Rattle.mqb_model.specs.declared.faults.PumpFault.TheVariants as fault
use Rattle.mqb_model.specs.declared.limits.TheConstants.{MAX_PACKETS}
use Rattle.mqb_model.specs.laws.Durable as model_laws
use Rattle.mqb_model.specs.laws.Fitting.{RecordsAreSpelled, RecordsFit}
use Rattle.mqb_model.specs.laws.Keeping.{AppliedIsValid, CallsKeepValid}
use Rattle.mqb_model.specs.managers.Beside.{Origin, noted}
use Rattle.mqb_model.specs.managers.Beside as beside
use Rattle.mqb_model.specs.managers.Manager.{Manager, Rest, linked_peer, rest_for}
use Rattle.mqb_model.specs.managers.Outcomes.{failed_under, recorded, succeeded}
use Rattle.mqb_model.specs.managers.Valid.{IsSentIn, IsValidManager}
use Rattle.mqb_model.specs.records.Applying.{fits}
use Rattle.mqb_model.specs.records.Counting.{IsSpellable}
use Rattle.mqb_model.specs.records.Offered.{mark_raised}
use Rattle.mqb_model.specs.records.Record as entry
use Rattle.mqb_model.specs.records.Record.{Record}
use Rattle.mqb_model.specs.state.State.{State}
use Rattle.mqb_model.specs.state.Valid.{IsValidState}
use Rattle.mqb_store.specs.Writing.{CanWrite, change_in}
use Rattle.mqb_store.specs.declared.faults.WriteFault.{WriteFault}
use Rattle.mqb_store.specs.declared.faults.WriteFault.TheVariants as write
use Rattle.mqb_manager.specs.Calls.{IsCall}
use Rattle.mqb_choosing.specs.Plans.{offered_form}
use Rattle.mqb_manager.specs.Pumps.{CanNoteAll, ComesToSend, IsPlanned, IsPumped, going_to, pump_fault, sent_as, with_sent}
use Rattle.mqb_manager.specs.States.{IsOnDisk, IsUp, ManagerState, manager_of}
use Rattle.mqb_manager.specs.Writing.{IsReady, write_of}
use Rattle.mqb_manager.proofs.Borne.{borne}
use Rattle.mqb_manager.proofs.Calls.{stays_same}
use Rattle.mqb_manager.proofs.Comes.{chosen_few}
use Rattle.mqb_manager.proofs.Conditions.{up_condition}
use Rattle.mqb_manager.proofs.Going.{form_is, sent_call, sent_manager, state_is, unsent_call}
use Rattle.mqb_manager.proofs.Noted.{can_note_all}
use Rattle.mqb_manager.proofs.Offered.{rows_raised, rows_valid}
use Rattle.mqb_manager.proofs.Raised.{all_shown_stay, all_there_stay}
use Rattle.mqb_manager.proofs.Sent.{IsPeer, known_is}
use Rattle.mqb_manager.proofs.Spelled.{candidates_are, marks_small, sent_shown, spelled_all, with_heads_of}

-- The marks' record, where one rises.

none_below : (marks : List Mark) → (length marks == 0) ≡ true → length marks ≤ MAX_PACKETS
none_below marks none = grind (arith, nat_tests)

pub few_marks : (marks : List Mark) → IfSome (if length marks == 0 then None else Some (entry.Offered marks)) IsSpellable → length marks ≤ MAX_PACKETS
few_marks marks = at (length marks == 0) refl
  where
    at : (b : Bool) → (length marks == 0) ≡ b → IfSome (if b then None else Some (entry.Offered marks)) IsSpellable → length marks ≤ MAX_PACKETS
    at true is h = none_below marks is
    at false is h = h.1

can_offer : (s : State) (marks : List Mark) → IfSome (if length marks == 0 then None else Some (entry.Offered marks)) IsSpellable
    → IfSome (if length marks == 0 then None else Some (entry.Offered marks)) (λ r. fits s r ≡ true) → IfSome (offered_form marks) (CanWrite s)
can_offer s marks = at (length marks == 0)
  where
    at : (b : Bool) → IfSome (if b then None else Some (entry.Offered marks)) IsSpellable → IfSome (if b then None else Some (entry.Offered marks)) (λ r. fits s r ≡ true)
        → IfSome (if b then None else Some (form.Offered marks)) (CanWrite s)
    at true h fit = tt
    at false h fit = record { put = (h.0, h.1); small = marks_small marks h.1; fits = fit }

no_form : (marks : List Mark) → (if length marks == 0 then None else Some (entry.Offered marks)) ≡ None → offered_form marks ≡ None
no_form marks = at (length marks == 0)
  where
    at : (b : Bool) → (if b then None else Some (entry.Offered marks)) ≡ None → (if b then None else Some (form.Offered marks)) ≡ None
    at true none = refl
    at false none = absurd (let no : ⊥ = cc in no)

-- where memory was wanting, so it was when they were to be written
memory_fault : (P : Type 0) (w : WriteFault) (why : PumpFault) → why ≡ pump_fault w → (◌≡◌ {A = Result (Unit {0}) WriteFault} (Err w) (Err write.Memory) → P)
    → ◌≡◌ {A = Result ℕ PumpFault} (Err why) (Err fault.Memory) → P
memory_fault P write.Memory why is stayed same = stayed refl
memory_fault P write.DiskFault why is stayed same = absurd (let no : ⊥ = cc in no)

if_formed : (P : Type 0) (marks : List Mark) → IfSome (offered_form marks) (λ _. P) → IfSome (if length marks == 0 then None else Some (entry.Offered marks)) (λ _. P)
if_formed P marks = at (length marks == 0)
  where
    at : (b : Bool) → IfSome (if b then None else Some (form.Offered marks)) (λ _. P) → IfSome (if b then None else Some (entry.Offered marks)) (λ _. P)
    at true h = tt
    at false h = h

plain_stays : (s : State) (marks : List Mark) → (recorded s (if length marks == 0 then None else Some (entry.Offered marks))).plain ≡ s.plain
plain_stays s marks = at (length marks == 0)
  where
    at : (b : Bool) → (recorded s (if b then None else Some (entry.Offered marks))).plain ≡ s.plain
    at true = refl
    at false = ap (λ (t : State). t.plain) (rows_raised s marks).state

peers_stay : (s : State) (marks : List Mark) → (recorded s (if length marks == 0 then None else Some (entry.Offered marks))).peers ≡ s.peers
peers_stay s marks = at (length marks == 0)
  where
    at : (b : Bool) → (recorded s (if b then None else Some (entry.Offered marks))).peers ≡ s.peers
    at true = refl
    at false = ap (λ (t : State). t.peers) (rows_raised s marks).state

-- what was chosen stands where it stood
shown_stays : (s : State) (marks : List Mark) (choices : List Choice)
    → shown_in (recorded s (if length marks == 0 then None else Some (entry.Offered marks))) choices ≡ shown_in s choices
shown_stays s marks choices = at (length marks == 0)
  where
    at : (b : Bool) → shown_in (recorded s (if b then None else Some (entry.Offered marks))) choices ≡ shown_in s choices
    at true = refl
    at false = all_shown_stay s marks choices

there_stays : (s : State) (marks : List Mark) (choices : List Choice) → All (IsThere s) choices
    → All (IsThere (recorded s (if length marks == 0 then None else Some (entry.Offered marks)))) choices
there_stays s marks choices there = at (length marks == 0)
  where
    at : (b : Bool) → All (IsThere (recorded s (if b then None else Some (entry.Offered marks)))) choices
    at true = there
    at false = all_there_stay s marks choices there

stays_valid : (m : ManagerState) (marks : List Mark) → AppliedIsValid → IsUp m → IsValidManager (manager_of m)
    → IfSome (if length marks == 0 then None else Some (entry.Offered marks)) (λ r. fits m.store.state r ≡ true)
    → IsValidManager (record (manager_of m) {
      state = recorded m.store.state (if length marks == 0 then None else Some (entry.Offered marks));
      rest = rest_for (recorded m.store.state (if length marks == 0 then None else Some (entry.Offered marks))) (manager_of m).rest;
    })
stays_valid m marks applied up valid = at (length marks == 0)
  where
    M : Manager
    M = manager_of m

    at : (b : Bool) → IfSome (if b then None else Some (entry.Offered marks)) (λ r. fits m.store.state r ≡ true)
        → IsValidManager (record (manager_of m) {
          state = recorded m.store.state (if b then None else Some (entry.Offered marks));
          rest = rest_for (recorded m.store.state (if b then None else Some (entry.Offered marks))) (manager_of m).rest;
        })
    at true fit = subst IsValidManager (stays_same {A = ℕ} (manager_of m) 0 valid) valid
    at false fit =
        let t = fold mark_raised m.store.state marks in
        let same = rows_raised m.store.state marks in
        subst (λ (x : State). IsValidManager (record (manager_of m) { state = x; rest = rest_for x (manager_of m).rest })) (sym same.state)
        (rows_valid (manager_of m) t.outs valid (up_condition m.store up) same.count
        (subst IsValidState same.state (applied m.store.state (entry.Offered marks) valid.state tt fit)))

-- What is sent, from a manager for which it was planned.
pub record IsTarget (m : ManagerState) (session : one_end.State) (now k : ℕ) : Type 0 where
  pub to : Identity
  pub here : slice_get m.store.state.peers k ≡ Some to
  pub comes : pump (manager_of m) now ≡ sending_all (manager_of m) now session k to.guid (going_to m session now k)

pub target : (m : ManagerState) (session : one_end.State) (now k : ℕ) → ComesToSend m session now k → IsTarget m session now k
target m session now k = at (slice_get m.store.state.peers k) refl
  where
    at : (o : Option Identity) → slice_get m.store.state.peers k ≡ o
        → IsSomeAnd o (λ to. pump (manager_of m) now ≡ sending_all (manager_of m) now session k to.guid (going_to m session now k)) → IsTarget m session now k
    at None is h = absurd h
    at (Some to) is h = record { to = to; here = is; comes = h }

pub peer_below : (m : ManagerState) (session : one_end.State) (now k : ℕ) → ComesToSend m session now k → k < length m.store.state.peers
peer_below m session now k comes = let x = target m session now k comes in slice_get_within m.store.state.peers k x.to x.here

pub few_planned : (m : ManagerState) (session : one_end.State) (now k : ℕ) (g : Going) (cursors : List ℕ) (owes : List Bool)
    → IsPlanned m session now k g cursors owes → length g.choices ≤ MAX_PACKETS
few_planned m session now k g cursors owes planned =
    let few = chosen_few session (candidates_to m.store.state (known session m.cursors m.owes) now k) in
    subst (λ (n : ℕ). n ≤ MAX_PACKETS) (sym planned.count) few

module _ (m : ManagerState) (session : one_end.State) (now k : ℕ) (g : Going) (cursors : List ℕ) (owes : List Bool) (marks : List Mark)
    (planned : IsPlanned m session now k g cursors owes) (linked : m.session ≡ Some session) (valid : IsValidManager (manager_of m)) (up : IsUp m)
    (x : IsTarget m session now k) (is_marks : marks ≡ marks_for m.store.state (map (λ given. given.0) (shown_in m.store.state g.choices))) where
  abbrev cs : List Candidate
  cs = going_to m session now k

  abbrev M : Manager
  M = manager_of m

  marks_are : marks ≡ marks_for m.store.state cs
  marks_are = is_marks ∙ ap (marks_for m.store.state) (ap (map (λ given. given.0)) planned.packets ∙ with_heads_of session cs)

  entry_is : (pump M now).entry ≡ (if length marks == 0 then None else Some (entry.Offered marks))
  entry_is = ap (λ (o : PumpOutcome). o.entry) x.comes ∙ sym (ap (λ (ms : List Mark). if length ms == 0 then None else Some (entry.Offered ms)) marks_are)

  pub marks_few : RecordsAreSpelled → length marks ≤ MAX_PACKETS
  marks_few spelled = few_marks marks (subst (λ (r : Option Record). IfSome r IsSpellable) entry_is ((spelled M).pumps valid now))

  change : change_in (offered_form marks) ≡ (if length marks == 0 then None else Some (entry.Offered marks))
  change = form_is m.store.state cs marks marks_are ∙ sym (ap (λ (ms : List Mark). if length ms == 0 then None else Some (entry.Offered ms)) marks_are)

  pub ready : (d : View) → IsOnDisk d m → RecordsFit → RecordsAreSpelled → CallsKeepValid → AppliedIsValid → IsReady d m (offered_form marks) beside.Nothing
  ready d on fit spelled keep applied = record {
    up = up;
    on = on;
    can = can_offer m.store.state marks (subst (λ (r : Option Record). IfSome r IsSpellable) entry_is ((spelled M).pumps valid now)) fitting;
    valid = record {
      succeeds = subst (λ (r : Option Record). IsValidManager (record (manager_of m) { state = recorded m.store.state r; rest = rest_for (recorded m.store.state r) (manager_of m).rest }))
          (sym change) (stays_valid m marks applied up valid fitting);
      fails = subst (λ (r : Option Record). IsValidManager (failed_under M r)) (entry_is ∙ sym change) ((keep M valid).pumps now).fails;
    };
    stored = refl;
  }
    where
      fitting : IfSome (if length marks == 0 then None else Some (entry.Offered marks)) (λ r. fits m.store.state r ≡ true)
      fitting = subst (λ (r : Option Record). IfSome r (λ r. fits m.store.state r ≡ true)) entry_is ((fit M).pumps valid now)

  sent_same : map sent_as g.choices ≡ map origin_of (with_heads session cs)
  sent_same = sym (sent_shown m.store.state g.choices planned.there) ∙ ap (map origin_of) planned.packets

  abbrev Next : Type 0
  Next = (s : State) (rest : Rest) (now k : ℕ) (peer : Identity) (p : PlainLists) (session : one_end.State) → IsSentIn session p
      → AreNextSent p (map origin_of (with_heads session (chosen session 0 0 (candidates s rest now k peer p))))

  -- each can be noted
  pub can_note : (d e : View) (n : ManagerState) → k ≡ linked_peer m.store.state session → Next → IsPeer m.store.state k
      → IsCall write.Memory write.DiskFault d e m n (write_of M (offered_form marks) beside.Nothing) (Ok tt) → CanNoteAll k n.store.state (map sent_as g.choices)
  can_note d e n index next at call =
      subst (CanNoteAll k n.store.state) (sym sent_same) (can_note_all k n.store.state at.lists (map origin_of (with_heads session cs))
      (ap (λ (ps : List PlainLists). slice_get ps k) (ap (λ (t : State). t.plain) (state_is d e m n (offered_form marks) call ∙ ap (recorded m.store.state) change)
      ∙ plain_stays m.store.state marks) ∙ at.there)
      (subst (λ (waiting : List Candidate). AreNextSent at.lists (map origin_of (with_heads session (chosen session 0 0 waiting))))
      (sym (candidates_are m.store.state (known session m.cursors m.owes) now k at.peer at.lists at.here at.there))
      (next m.store.state (known session m.cursors m.owes) now k at.peer at.lists session
      (borne M session at.lists valid (up_condition m.store up) linked (ap (slice_get m.store.state.plain) (sym index) ∙ at.there)))))

  rest_is : known session cursors owes ≡ settled M.rest cs
  rest_is = planned.settled ∙ ap (λ (rest : Rest). settled rest cs) (sym (known_is m session linked))

  module _ (d e : View) (n : ManagerState) where
    abbrev Written : Result (Unit {0}) WriteFault → Type 0
    Written w = IsCall write.Memory write.DiskFault d e m n (write_of M (offered_form marks) beside.Nothing) w

    change_entry : change_in (offered_form marks) ≡ offered_entry m.store.state cs
    change_entry = form_is m.store.state cs marks marks_are

    pub valid_then : Written (Ok tt) → CallsKeepValid → IsValidManager (manager_of (with_sent n k g cursors owes))
    valid_then call keep = subst IsValidManager
        (sym (sent_manager d e m n (offered_form marks) now session k x.to.guid cs g cursors owes call change_entry sent_same planned.behind rest_is))
        (subst (λ (o : PumpOutcome). IsValidManager (succeeded M o)) x.comes ((keep M valid).pumps now).succeeds)

    abbrev o : PumpOutcome
    o = sending_all M now session k x.to.guid cs

    -- where the peer is there, so are the bytes
    pub to_target : (before after : List ℕ)
        → IsSomeAnd (slice_get m.store.state.peers k) (λ to. after ≡ before ++ flat_map (λ given. plain_spelling (packet_for to.guid now given)) (shown_in m.store.state g.choices))
        → after ≡ before ++ flat_map (λ given. plain_spelling (packet_for x.to.guid now given)) (shown_in m.store.state g.choices)
    to_target before after put = subst (λ (o : Option Identity). IsSomeAnd o (λ to. after ≡ before ++ flat_map (λ given. plain_spelling (packet_for to.guid now given)) (shown_in m.store.state g.choices))) x.here put

    -- and what they say fits
    fit_target : IsSomeAnd (slice_get m.store.state.peers k) (λ to. All (λ given. IsPacket (packet_for to.guid now given)) (shown_in m.store.state g.choices))
        → All (λ given. IsPacket (packet_for x.to.guid now given)) (shown_in m.store.state g.choices)
    fit_target fits = subst (λ (o : Option Identity). IsSomeAnd o (λ to. All (λ given. IsPacket (packet_for to.guid now given)) (shown_in m.store.state g.choices))) x.here fits

    -- Behind the record of the marks what was chosen can be put.

    after : Written (Ok tt) → n.store.state ≡ recorded m.store.state (if length marks == 0 then None else Some (entry.Offered marks))
    after call = state_is d e m n (offered_form marks) call ∙ ap (recorded m.store.state) change

    pub peers_then : Written (Ok tt) → n.store.state.peers ≡ m.store.state.peers
    peers_then call = ap (λ (t : State). t.peers) (after call) ∙ peers_stay m.store.state marks

    pub shown_then : Written (Ok tt) → shown_in n.store.state g.choices ≡ shown_in m.store.state g.choices
    shown_then call = ap (λ (t : State). shown_in t g.choices) (after call) ∙ shown_stays m.store.state marks g.choices

    pub there_then : Written (Ok tt) → All (IsThere n.store.state) g.choices
    there_then call = subst (λ (t : State). All (IsThere t) g.choices) (sym (after call)) (there_stays m.store.state marks g.choices planned.there)

    pub room_then : (before room : ℕ) → Written (Ok tt) → before + g.bytes ≤ room → before + bytes_in n.store.state g.choices ≤ room
    room_then before room call enough = subst (λ (size : ℕ). before + size ≤ room)
        (planned.bytes ∙ sym (ap (λ (given : List (Candidate × SessionHead)). sum_by (λ given. candidate_size given.0) given) (shown_then call))) enough

    pub of_before : (P : Guid → List (Candidate × SessionHead) → Type 0) → Written (Ok tt)
        → IsSomeAnd (slice_get n.store.state.peers k) (λ to. P to.guid (shown_in n.store.state g.choices))
        → IsSomeAnd (slice_get m.store.state.peers k) (λ to. P to.guid (shown_in m.store.state g.choices))
    of_before P call put = subst (λ (given : List (Candidate × SessionHead)). IsSomeAnd (slice_get m.store.state.peers k) (λ to. P to.guid given)) (shown_then call)
        (subst (λ (peers : List Identity). IsSomeAnd (slice_get peers k) (λ to. P to.guid (shown_in n.store.state g.choices))) (peers_then call) put)

    pub sent_pumped : (kept : Type 0) (N : ManagerState) (before after : List ℕ) (count : ℕ) → Written (Ok tt) → model_laws.CallsLeaveStore
        → N ≡ with_sent n k g cursors owes → count ≡ length g.choices
        → IsSomeAnd (slice_get m.store.state.peers k) (λ to. after ≡ before ++ flat_map (λ given. plain_spelling (packet_for to.guid now given)) (shown_in m.store.state g.choices))
        → IsSomeAnd (slice_get m.store.state.peers k) (λ to. All (λ given. IsPacket (packet_for to.guid now given)) (shown_in m.store.state g.choices))
        → (offered_form marks ≡ None → kept) → IfSome (offered_form marks) (λ _. Counted 4 d.calls e.calls)
        → IsPumped d e kept m N (pump M now) before after (Ok count)
    sent_pumped kept N before after count call leave is counted put fits untouched calls =
        subst (λ (p : PumpOutcome). IsPumped d e kept m N p before after (Ok count)) (sym x.comes) (record {
          call = subst (λ (N : ManagerState). IsCall fault.Memory fault.DiskFault d e m N o (Ok count)) (sym is)
              (subst (λ (c : ℕ). IsCall fault.Memory fault.DiskFault d e m (with_sent n k g cursors owes) o (Ok c)) (sym (counted ∙ planned.count))
              (sent_call d e m n (offered_form marks) now session k x.to.guid cs g cursors owes up call change_entry sent_same planned.behind rest_is
              (subst (model_laws.LeavesStore M) x.comes ((leave M valid).pumps now))));
          sent = to_target before after put ∙ ap (λ (given : List (Candidate × SessionHead)). before ++ flat_map (λ given. plain_spelling (packet_for x.to.guid now given)) given) planned.packets
              ∙ ap (λ (bytes : List ℕ). before ++ bytes) (spelled_all x.to.guid now (with_heads session cs));
          fits = All-map IsPacket (packet_for x.to.guid now) (with_heads session cs)
              (subst (λ (given : List (Candidate × SessionHead)). All (λ given. IsPacket (packet_for x.to.guid now given)) given) planned.packets (fit_target fits));
          refused = tt;
          untouched = λ none. untouched (no_form marks (sym entry_is ∙ ap (λ (o : PumpOutcome). o.entry) x.comes ∙ none));
          memory = λ wanting. absurd (let no : ⊥ = cc in no);
          calls = subst (λ (r : Option Record). IfSome r (λ _. Counted 4 d.calls e.calls)) (sym entry_is ∙ ap (λ (o : PumpOutcome). o.entry) x.comes)
              (if_formed (Counted 4 d.calls e.calls) marks calls);
        })

    pub unsent_pumped : (kept : Type 0) (before after : List ℕ) (w : WriteFault) (why : PumpFault) → Written (Err w) → why ≡ pump_fault w → after ≡ before
        → (offered_form marks ≡ None → kept) → (◌≡◌ {A = Result (Unit {0}) WriteFault} (Err w) (Err write.Memory) → kept)
        → IsPumped d e kept m n (pump M now) before after (Err why)
    unsent_pumped kept before after w why call is back untouched stayed = record {
      call = subst (λ (f : PumpFault). IsCall fault.Memory fault.DiskFault d e m n (pump M now) (Err f)) (sym is)
          (unsent_call d e m n (offered_form marks) (pump M now) w (change ∙ sym entry_is) call);
      sent = tt;
      fits = tt;
      refused = back;
      untouched = λ none. untouched (no_form marks (sym entry_is ∙ none));
      memory = memory_fault kept w why is stayed;
      calls = tt;
    }
