-- What a pump of an end that may send comes to: its first candidate goes, an acknowledgement, or nothing.
use Rattle.std.proofs.Common.{◌≡◌, ℕ, ◌+◌, ◌-◌, ◌<◌, ◌==◌, ◌&&◌, Bool, true, false, cond, nat_lt, not, List, [], ◌∷◌, Option, Some, None, refl, sym, ap, subst, ◌∙◌, arith}
use Rattle.std.proofs.lemmas.Bool.Decides.{nat_tests}
use Rattle.std.specs.Option.{option_map_or}
use Rattle.std.specs.Prelude.{Err, Ok, fold, length, map, option_and_then, position, slice_get, unwrap_or}
use Rattle.mqb_base.specs.declared.ids.Identity.{Identity}
use Rattle.mqb_law_progress.specs.Progress.{unacknowledged}
use Rattle.mqb_model.specs.Lists.{first_where, with_changed, with_first_changed}
use Rattle.mqb_model.specs.calls.pump.Candidates.{Candidate, candidates}
use Rattle.mqb_model.specs.calls.pump.Choosing.{candidate_size, chosen, is_within, kind_of, session_after}
use Rattle.mqb_model.specs.calls.pump.Pump.{marks_for, offered_entry, pump, pump_at, pump_linked, pump_owed, pump_to, pump_with, sending_ack, sending_all, sending_chosen}
use Rattle.mqb_model.specs.declared.faults.PumpFault.TheVariants as fault
use Rattle.mqb_model.specs.declared.limits.TheConstants.{MAX_PACKETS}
use Rattle.mqb_model.specs.managers.Beside.{OfExpress, OfRecoverable, OfRow, Origin, Owed}
use Rattle.mqb_model.specs.managers.Manager.{Condition, Manager, is_down, linked_peer}
use Rattle.mqb_model.specs.managers.Outcomes.{answering, recorded, unless}
use Rattle.mqb_model.specs.managers.Readers.{awaits}
use Rattle.mqb_model.specs.records.Applying.{apply}
use Rattle.mqb_model.specs.records.Offered.{mark_raised, with_offered}
use Rattle.mqb_model.specs.records.Record as entry
use Rattle.mqb_model.specs.state.Resolving.{peer_known}
use Rattle.mqb_model.specs.state.Rows.{has_ordinal}
use Rattle.mqb_model.specs.state.State.{State}
use Rattle.mqb_orders.specs.Rows.{Row}
use Rattle.mqb_plain.specs.Plain.{PlainLists}
use Rattle.mqb_session.specs.Phases.{owed_by}
use Rattle.mqb_session.specs.Sending.{is_ready, is_spent, is_used_up, may_send, stamped}
use Rattle.mqb_session.specs.State as one_end
use Rattle.mqb_session.specs.declared.heads.Kind.TheVariants as kind
use Rattle.mqb_law_meetings.proofs.Idle.{and_false}
use Rattle.mqb_law_meetings.proofs.Lists.{changed_length, get_within, within_get}
use Rattle.mqb_law_meetings.proofs.Members.{first_changed_map, first_changed_same}
use Rattle.mqb_law_meetings.proofs.Turns.{Hears, row_credit}

-- One packet into a window of 1.

full : (x : one_end.State) → nat_lt (x.sent - x.acked) x.peer_window ≡ false → may_send x ≡ false
full x none = ap (λ b. is_ready x.phase && (not (is_used_up x) && b)) none ∙ ap (λ b. is_ready x.phase && b) (and_false (not (is_used_up x))) ∙ and_false (is_ready x.phase)

none_chosen : (x : one_end.State) (count bytes : ℕ) (cs : List Candidate) → may_send x ≡ false → chosen x count bytes cs ≡ []
none_chosen x count bytes [] none = refl
none_chosen x count bytes (c ∷ cs) none = rw none refl

one_more : (sent acked window : ℕ) → acked ≡ sent → window ≡ 1 → nat_lt (sent + 1 - acked) window ≡ false
one_more sent acked window same one = grind (arith, nat_tests)

after_one : (x : one_end.State) (o : Origin) → x.acked ≡ x.sent → x.peer_window ≡ 1 → may_send (stamped (kind_of o) x).1 ≡ false
after_one x (Owed row) same one = full (stamped kind.Plain x).1 (one_more x.sent x.acked x.peer_window same one)
after_one x OfRecoverable same one = full (stamped kind.Recoverable x).1 (one_more x.sent x.acked x.peer_window same one)
after_one x OfExpress same one = full (stamped kind.Plain x).1 (one_more x.sent x.acked x.peer_window same one)
after_one x (OfRow row number) same one = full (stamped kind.Plain x).1 (one_more x.sent x.acked x.peer_window same one)

room_left : (sent acked window : ℕ) → acked ≡ sent → window ≡ 1 → nat_lt (sent - acked) window ≡ true
room_left sent acked window same one = grind (arith, nat_tests)

not_used : (sent : ℕ) → sent < 65535 → (sent == 65535) ≡ false
not_used sent few = grind (arith, nat_tests)

module _ (x : Manager) (a : one_end.State) (k : ℕ) (peer : Identity) (now : ℕ) (h : Hears x a k peer) (window : a.peer_window ≡ 1) (free : a.acked ≡ a.sent) (few : a.sent < 65535) where
  not_down : is_down x ≡ false
  not_down = ap (λ (c : Condition). is_down (record x { condition = c })) h.up

  linked_is : linked_peer x.state a ≡ k
  linked_is = ap (λ o. unwrap_or (option_and_then (peer_known x.state) o) (length x.state.peers)) h.who ∙ ap (λ o. unwrap_or o (length x.state.peers)) h.knows

  -- the plain lists for the peer are there
  pub lists_there : (p : PlainLists) × (slice_get x.state.plain k ≡ Some p)
  lists_there = within_get x.state.plain k (subst (λ n. k < n) (sym h.valid.state.plain_lists) (get_within x.state.peers k peer h.there))

  pub pump_is : (p : PlainLists) → slice_get x.state.plain k ≡ Some p → pump x now ≡ pump_with x now a k peer.guid (candidates x.state x.rest now k peer p)
  pump_is p lists = ap (λ (b : Bool). unless x (cond b (Some fault.Down) None) (option_map_or (pump_linked x now) x.rest.session (answering x (Err fault.NotLinked)))) not_down
      ∙ ap (λ (o : Option one_end.State). option_map_or (pump_linked x now) o (answering x (Err fault.NotLinked))) h.linked
      ∙ ap (λ p. pump_owed x now a (owed_by p now a)) h.ready
      ∙ ap (λ p. cond (is_ready p) (pump_at x now a (linked_peer x.state a)) (answering x (Ok 0))) h.ready
      ∙ ap (pump_at x now a) linked_is
      ∙ ap (λ o. option_map_or (λ y. option_map_or (pump_to x now a k y) (slice_get x.state.plain k) (answering x (Ok 0))) o (answering x (Ok 0))) h.there
      ∙ ap (λ o. option_map_or (pump_to x now a k peer) o (answering x (Ok 0))) lists

  pub may : may_send a ≡ true
  may = ap (λ p. is_ready p && (not (is_used_up a) && nat_lt (a.sent - a.acked) a.peer_window)) h.ready
      ∙ ap (λ b. not b && nat_lt (a.sent - a.acked) a.peer_window) (not_used a.sent few)
      ∙ room_left a.sent a.acked a.peer_window free window

  not_spent : is_spent a ≡ false
  not_spent = ap (λ b. is_ready a.phase && b) (not_used a.sent few) ∙ and_false (is_ready a.phase)

  one_chosen : (c : Candidate) (cs : List Candidate) → chosen a 0 0 (c ∷ cs) ≡ c ∷ []
  one_chosen c cs = ap (λ b. cond (b && nat_lt 0 MAX_PACKETS && is_within 0 0 c) (c ∷ chosen (session_after a c) (0 + 1) (0 + candidate_size c) cs) []) may
      ∙ ap (λ r. c ∷ r) (none_chosen (session_after a c) (0 + 1) (0 + candidate_size c) cs (after_one a c.origin free window))

  -- its first candidate goes
  pub first_goes : (p : PlainLists) (c : Candidate) (cs : List Candidate) → slice_get x.state.plain k ≡ Some p → candidates x.state x.rest now k peer p ≡ c ∷ cs
      → pump x now ≡ sending_all x now a k peer.guid (c ∷ [])
  first_goes p c cs lists are = pump_is p lists ∙ ap (pump_with x now a k peer.guid) are
      ∙ ap (λ b. cond (b && not (length (c ∷ cs) == 0)) (answering x (Err fault.Spent)) (sending_chosen x now a k peer.guid (chosen a 0 0 (c ∷ cs)))) not_spent
      ∙ ap (sending_chosen x now a k peer.guid) (one_chosen c cs)

  -- or an acknowledgement, where one is owed
  pub none_goes : (p : PlainLists) → slice_get x.state.plain k ≡ Some p → candidates x.state x.rest now k peer p ≡ [] → pump x now ≡ sending_ack x a
  none_goes p lists are = pump_is p lists ∙ ap (pump_with x now a k peer.guid) are
      ∙ ap (λ b. cond (b && false) (answering x (Err fault.Spent)) (sending_ack x a)) not_spent

-- What is recorded of packets that go: marks rise, and nothing else of a row changes.

-- a row without its mark
abbrev pub core : Row → Row
core row = record row { offered = 0 }

pub record IsOffered (s t : State) : Type 0 where
  pub outs : List Row
  pub is : t ≡ record s { outs = outs }
  pub count : length outs ≡ length s.outs
  pub same : map core outs ≡ map core s.outs
  pub work : map unacknowledged outs ≡ map unacknowledged s.outs
  pub credit : (u : State) (j : ℕ) → option_map_or (row_credit u) (first_where (awaits j) outs) 0 ≡ option_map_or (row_credit u) (first_where (awaits j) s.outs) 0

first_changed_length : {X : Type 0} (change : X → X) (p : X → Bool) (xs : List X) → length (with_first_changed change p xs) ≡ length xs
first_changed_length change p xs = at (position p xs)
  where
    at : (o : Option ℕ) → length (option_map_or (with_changed change xs) o xs) ≡ length xs
    at None = refl
    at (Some k) = changed_length change xs k

none_offered : (s : State) → IsOffered s s
none_offered s = record { outs = s.outs; is = refl; count = refl; same = refl; work = refl; credit = λ u j. refl }

all_offered : (s : State) (marks : List _) → IsOffered s (fold mark_raised s marks)
all_offered s [] = none_offered s
all_offered s (m ∷ marks) =
    let r = all_offered (mark_raised s m) marks in
    let change = with_offered m.number in
    let p = has_ordinal m.ordinal in
    record {
      outs = r.outs;
      is = r.is;
      count = r.count ∙ first_changed_length change p s.outs;
      same = r.same ∙ first_changed_map core change (λ row. refl) p s.outs;
      work = r.work ∙ first_changed_map unacknowledged change (λ row. refl) p s.outs;
      credit = λ u j. r.credit u j ∙ first_changed_same (awaits j) (row_credit u) 0 change (λ row. refl) (λ row. refl) p s.outs;
    }

pub offered : (s : State) (cs : List Candidate) → IsOffered s (recorded s (offered_entry s cs))
offered s cs = at (length (marks_for s cs) == 0)
  where
    at : (b : Bool) → IsOffered s (option_map_or (apply s) (cond b None (Some (entry.Offered (marks_for s cs)))) s)
    at true = none_offered s
    at false = all_offered s (marks_for s cs)
