-- What a manager knows behind a pump of its session, whatever went.
use Rattle.std.proofs.Common.{refl, ap, sym, subst, ◌∙◌, arith}
use Rattle.std.specs.List.{AllByRecursion}
use Rattle.std.specs.Option.{option_map_or}
use Rattle.std.specs.Prelude.{[], ◌&&◌, ◌++◌, ◌==◌, ◌∷◌, ◌≡◌, ◌≤◌, Bool, Err, IfSome, List, None, Ok, Option, Some, cond, filter_map, fold, length, not, slice_get, suc, true, false, zero, ℕ}
use Rattle.mqb_base.specs.declared.ids.Guid.{Guid}
use Rattle.mqb_base.specs.declared.ids.Identity.{Identity}
use Rattle.mqb_base.specs.declared.message.Message.{Message}
use Rattle.mqb_entries.specs.declared.members.Mark.{Mark}
use Rattle.mqb_packet.specs.declared.packet.Packet.{Packet}
use Rattle.mqb_packet.specs.declared.packet.Packet.TheVariants as packet
use Rattle.mqb_plain.specs.Plain.{PlainLists, outgoing_in}
use Rattle.mqb_session.specs.Hearing.{after_owed}
use Rattle.mqb_session.specs.Phases.{owed_by}
use Rattle.mqb_session.specs.Sending.{is_ready, is_spent, stamped}
use Rattle.mqb_session.specs.State as one_end
use Rattle.mqb_session.specs.declared.phase.Phase.{Phase}
use Rattle.mqb_session.specs.declared.phase.Phase.TheVariants as phase
use Rattle.mqb_session.specs.declared.heads.Kind.TheVariants as kind
use Rattle.mqb_setup.specs.declared.internal.Internal.{Internal}
use Rattle.mqb_setup.specs.declared.internal.Internal.TheVariants as internal
use Rattle.mqb_model.specs.calls.pump.Candidates.{Candidate, candidates}
use Rattle.mqb_model.specs.calls.pump.Choosing.{chosen, session_behind}
use Rattle.mqb_model.specs.calls.pump.Pump.{PumpOutcome, marks_for, offered_entry, pump_at, pump_linked, pump_owed, pump_to, pump_with, sending_all, sending_chosen, sending_one, set_up_packet}
use Rattle.mqb_model.specs.declared.faults.PumpFault.TheVariants as fault
use Rattle.mqb_model.specs.managers.Manager.{Manager, linked_peer}
use Rattle.mqb_model.specs.managers.Outcomes.{answering, recorded, state_after}
use Rattle.mqb_model.specs.records.Offered.{mark_raised}
use Rattle.mqb_model.specs.records.Record.{Record}
use Rattle.mqb_model.specs.records.Record as entry
use Rattle.mqb_model.specs.state.State.{State}
use Rattle.mqb_packet.specs.declared.packet.UserPacket.{UserPacket}
use Rattle.mqb_base.specs.declared.message.Lane.{Lane}
use Rattle.mqb_history.proofs.Heard.{got_told, stored_told}
use Rattle.mqb_history.proofs.Lists.{append_nothing}
use Rattle.mqb_history.proofs.Offerable.{AreThese, all_left, candidates_these, chosen_first}
use Rattle.mqb_history.proofs.Pumped.{AreMarks, AreRepeated, CountsOf, Sends, all_got_told, all_noted, all_sent, all_told, filter_append, from_lane, none_more, none_repeated, unsent_at, unsent_in, users_of}
use Rattle.mqb_history.proofs.Lasting.{applied_waits}
use Rattle.mqb_history.proofs.Unreleased.{PlainWaits, Waits}

-- a record of marks alone
abbrev pub IsOfMarks : Record → Type 0
IsOfMarks (entry.Offered marks) = Unit {0}
IsOfMarks _ = ⊥

-- What a manager of these messages knows behind a pump.
pub record Pumps (own : Guid) (ps : List UserPacket) (m : Manager) (before : one_end.State) (outcome : PumpOutcome) : Type 0 where
  pub after : one_end.State
  pub session : outcome.rest.session ≡ Some after
  pub sends : Sends before after (users_of outcome.packets)
  pub told : AllByRecursion (λ x. stored_told x ≤ before.stored) outcome.packets
  pub told_got : AllByRecursion (λ x. got_told x ≤ before.got) outcome.packets
  pub repeats : AreRepeated before.sent before.recoverable_sent outcome.packets
  pub entry : IfSome outcome.entry IsOfMarks
  pub waits : Waits own (AreMarks (ps ++ users_of outcome.packets)) (state_after m outcome)

module _ (own : Guid) (ps : List UserPacket) (m : Manager) (waits : Waits own (AreMarks ps) m.state) where
  -- nothing of the state changes
  same_state : Waits own (AreMarks (ps ++ [])) m.state
  same_state = subst (λ xs. Waits own (AreMarks xs) m.state) (sym (append_nothing ps)) waits

  nothing_pumped : (before : one_end.State) → m.rest.session ≡ Some before → Pumps own ps m before (answering m (Ok 0))
  nothing_pumped before e = record { after = before; session = e; sends = none_more before before refl refl refl refl refl refl; told = tt; told_got = tt; repeats = tt; entry = tt; waits = same_state }

  one_pumped : (before after : one_end.State) (x : Packet) → users_of (x ∷ []) ≡ [] → stored_told x ≤ before.stored → got_told x ≤ before.got → AreRepeated before.sent before.recoverable_sent (x ∷ []) → Sends before after []
      → Pumps own ps m before (sending_one m x after)
  one_pumped before after x none told got repeats sends = record {
    after = after;
    session = refl;
    sends = subst (Sends before after) (sym none) sends;
    told = (told, tt);
    told_got = (got, tt);
    repeats = repeats;
    entry = tt;
    waits = subst (λ xs. Waits own (AreMarks (ps ++ xs)) m.state) (sym none) same_state;
  }

  -- a packet of the set-up tells no more than is known
  abbrev IsModest : one_end.State → Internal → Type 0
  IsModest before owed = (stored_told (set_up_packet owed) ≤ before.stored) × (got_told (set_up_packet owed) ≤ before.got) × AreRepeated before.sent before.recoverable_sent (set_up_packet owed ∷ [])

  owed_pumped : (now : ℕ) (before : one_end.State) (owed : Internal) → IsModest before owed → Pumps own ps m before (sending_one m (set_up_packet owed) (after_owed now before))
  owed_pumped now before owed told = one_pumped before (after_owed now before) (set_up_packet owed) (none owed) told.0 told.1 told.2 (none_more before (after_owed now before) refl refl refl refl refl refl)
    where
      none : (owed : Internal) → users_of (set_up_packet owed ∷ []) ≡ []
      none (internal.Establish e) = refl
      none owed = refl

  ack_pumped : (before : one_end.State) → m.rest.session ≡ Some before
      → Pumps own ps m before (cond before.owes (sending_one m (packet.Ack (stamped kind.Ack before).0) (stamped kind.Ack before).1) (answering m (Ok 0)))
  ack_pumped before e = at before.owes
    where
      at : (b : Bool) → Pumps own ps m before (cond b (sending_one m (packet.Ack (stamped kind.Ack before).0) (stamped kind.Ack before).1) (answering m (Ok 0)))
      at true = one_pumped before (stamped kind.Ack before).1 (packet.Ack (stamped kind.Ack before).0) refl (omega arith) (omega arith) (refl, refl, tt) (none_more before (stamped kind.Ack before).1 refl refl refl refl refl refl)
      at false = nothing_pumped before e

  marks_plain : (s : State) (marks : List Mark) → (fold mark_raised s marks).plain ≡ s.plain
  marks_plain s [] = refl
  marks_plain s (mark ∷ marks) = marks_plain (mark_raised s mark) marks

  marks_identity : (s : State) (marks : List Mark) → (fold mark_raised s marks).identity ≡ s.identity
  marks_identity s [] = refl
  marks_identity s (mark ∷ marks) = marks_identity (mark_raised s mark) marks

  offered_plain : (cs : List Candidate) → (recorded m.state (offered_entry m.state cs)).plain ≡ m.state.plain
  offered_plain cs = at (length (marks_for m.state cs) == 0)
    where
      at : (b : Bool) → (recorded m.state (cond b None (Some (entry.Offered (marks_for m.state cs))))).plain ≡ m.state.plain
      at true = refl
      at false = marks_plain m.state (marks_for m.state cs)

  offered_waits : (cs : List Candidate) → Waits own (AreMarks ps) (recorded m.state (offered_entry m.state cs))
  offered_waits cs = at (length (marks_for m.state cs) == 0)
    where
      at : (b : Bool) → Waits own (AreMarks ps) (recorded m.state (cond b None (Some (entry.Offered (marks_for m.state cs)))))
      at true = waits
      at false = applied_waits own (AreMarks ps) m.state (entry.Offered (marks_for m.state cs)) tt waits

  offered_only : (cs : List Candidate) → IfSome (offered_entry m.state cs) IsOfMarks
  offered_only cs = at (length (marks_for m.state cs) == 0)
    where
      at : (b : Bool) → IfSome (cond b None (Some (entry.Offered (marks_for m.state cs)))) IsOfMarks
      at true = tt
      at false = tt

  all_pumped : (now : ℕ) (before : one_end.State) (k : ℕ) (to : Guid) (cs others : List Candidate) (ms : Lane → List Message) → CountsOf ps before
      → AreThese ms (cs ++ others) → ((kind : Lane) → unsent_at kind m.state.plain k ≡ ms kind) → Pumps own ps m before (sending_all m now before k to cs)
  all_pumped now before k to cs others ms e these unsent = record {
    after = session_behind before cs;
    session = refl;
    sends = all_sent to now before cs (all_left cs others these.right);
    told = all_told to now before.stored before cs refl;
    told_got = all_got_told to now before.got before cs refl;
    repeats = none_repeated to now before.sent before.recoverable_sent before cs;
    entry = offered_only cs;
    waits = all_noted own to now k ps before cs (λ kind. filter_map (from_lane kind) others) (recorded m.state (offered_entry m.state cs)) (all_left cs others these.right) e (record {
      waits = offered_waits cs;
      unsent = λ kind. ap (λ ps. unsent_at kind ps k) (offered_plain cs) ∙ unsent kind ∙ sym (these.lanes kind) ∙ filter_append (from_lane kind) cs others;
    });
  }

  chosen_pumped : (now : ℕ) (before : one_end.State) (k : ℕ) (to : Guid) (cs others : List Candidate) (ms : Lane → List Message) → m.rest.session ≡ Some before → CountsOf ps before
      → AreThese ms (cs ++ others) → ((kind : Lane) → unsent_at kind m.state.plain k ≡ ms kind) → Pumps own ps m before (sending_chosen m now before k to cs)
  chosen_pumped now before k to [] others ms linked e these unsent = ack_pumped before linked
  chosen_pumped now before k to (c ∷ cs) others ms linked e these unsent = all_pumped now before k to (c ∷ cs) others ms e these unsent

  spent_pumped : (before : one_end.State) → m.rest.session ≡ Some before → Pumps own ps m before (answering m (Err fault.Spent))
  spent_pumped before e = record { after = before; session = e; sends = none_more before before refl refl refl refl refl refl; told = tt; told_got = tt; repeats = tt; entry = tt; waits = same_state }

  with_pumped : (now : ℕ) (before : one_end.State) (k : ℕ) (to : Guid) (cs : List Candidate) (ms : Lane → List Message) → m.rest.session ≡ Some before → CountsOf ps before
      → AreThese ms cs → ((kind : Lane) → unsent_at kind m.state.plain k ≡ ms kind) → Pumps own ps m before (pump_with m now before k to cs)
  with_pumped now before k to cs ms linked e these unsent = at (is_spent before && not (length cs == 0))
    where
      at : (b : Bool) → Pumps own ps m before (cond b (answering m (Err fault.Spent)) (sending_chosen m now before k to (chosen before 0 0 cs)))
      at true = spent_pumped before linked
      at false = let first = chosen_first before 0 0 cs in
          chosen_pumped now before k to (chosen before 0 0 cs) first.0 ms linked e (subst (AreThese ms) first.1 these) unsent

  lists_waits : (k : ℕ) → IfSome (slice_get m.state.plain k) (PlainWaits own (AreMarks ps))
  lists_waits k = get m.state.plain k waits.plain
    where
      get : (xs : List PlainLists) (j : ℕ) → AllByRecursion (PlainWaits own (AreMarks ps)) xs → IfSome (slice_get xs j) (PlainWaits own (AreMarks ps))
      get [] j g = tt
      get (p ∷ xs) zero g = g.0
      get (p ∷ xs) (suc j) g = get xs j g.1

  peer_pumped : (now : ℕ) (before : one_end.State) (k : ℕ) → m.rest.session ≡ Some before → CountsOf ps before → Pumps own ps m before (pump_at m now before k)
  peer_pumped now before k linked e = at (slice_get m.state.peers k)
    where
      to : (peer : Identity) (o : Option PlainLists) → slice_get m.state.plain k ≡ o → IfSome o (PlainWaits own (AreMarks ps))
          → Pumps own ps m before (option_map_or (pump_to m now before k peer) o (answering m (Ok 0)))
      to peer None f g = nothing_pumped before linked
      to peer (Some p) f g = with_pumped now before k peer.guid (candidates m.state m.rest now k peer p) (λ kind. filter_map unsent_in (outgoing_in kind p)) linked e
          (candidates_these own (AreMarks ps) m.state m.rest now k peer p g)
          (λ kind. ap (λ (o : Option PlainLists). option_map_or (λ (q : PlainLists). filter_map unsent_in (outgoing_in kind q)) o []) f)

      at : (o : Option Identity) → Pumps own ps m before (option_map_or (λ peer. option_map_or (pump_to m now before k peer) (slice_get m.state.plain k) (answering m (Ok 0))) o (answering m (Ok 0)))
      at None = nothing_pumped before linked
      at (Some peer) = to peer (slice_get m.state.plain k) refl (lists_waits k)

  owed_or_pumped : (now : ℕ) (before : one_end.State) (o : Option Internal) → m.rest.session ≡ Some before → CountsOf ps before
      → IfSome o (IsModest before) → Pumps own ps m before (pump_owed m now before o)
  owed_or_pumped now before (Some owed) linked e told = owed_pumped now before owed told
  owed_or_pumped now before None linked e told = at (is_ready before.phase)
    where
      at : (b : Bool) → Pumps own ps m before (cond b (pump_at m now before (linked_peer m.state before)) (answering m (Ok 0)))
      at true = peer_pumped now before (linked_peer m.state before) linked e
      at false = nothing_pumped before linked

  pub linked_pumped : (now : ℕ) (before : one_end.State) → m.rest.session ≡ Some before → CountsOf ps before → Pumps own ps m before (pump_linked m now before)
  linked_pumped now before linked e = owed_or_pumped now before (owed_by before.phase now before) linked e (told before.phase)
    where
      told : (f : Phase) → IfSome (owed_by f now before) (IsModest before)
      told phase.WaitEstablish = tt
      told phase.WaitParameters = tt
      told phase.Ready = tt
      told (phase.Closed why) = tt
      told f = (omega arith, omega arith, tt)
