-- Each change keeps what is known of managers and packets, and so it holds of each course.
use Rattle.std.proofs.Common.{refl, ap, sym, subst, ◌∙◌, arith, inl, inr}
use Rattle.std.specs.List.{AllByRecursion}
use Rattle.std.specs.Option.{option_map_or}
use Rattle.std.specs.Prelude.{[], ◌++◌, ◌<◌, ◌∷◌, ◌≡◌, ◌⊎◌, IfSome, List, None, Option, Some, false, fold, length, map, not, option_map, replicate, slice_get, suc, true, unwrap_or, zero, ℕ}
use Rattle.mqb_base.specs.declared.ids.Guid.{Guid}
use Rattle.mqb_base.specs.declared.ids.Identity.{Identity}
use Rattle.mqb_base.specs.declared.ids.MessageId.{MessageId}
use Rattle.mqb_exactly_once.specs.Words.{In}
use Rattle.mqb_exactly_once.specs.World.{Position}
use Rattle.mqb_model.specs.declared.answers.Role.{Role}
use Rattle.mqb_model.specs.declared.answers.Role.TheVariants as role
use Rattle.mqb_model.specs.managers.Manager.{Manager, doubt_of, is_down}
use Rattle.mqb_model.specs.managers.Outcomes.{recorded}
use Rattle.mqb_model.specs.managers.Restarts.{restarted, unread}
use Rattle.mqb_model.specs.records.Applying.{apply}
use Rattle.mqb_model.specs.records.Record.{Record}
use Rattle.mqb_model.specs.records.Record as entry
use Rattle.mqb_model.specs.state.Durable.{durable}
use Rattle.mqb_model.specs.state.State.{State, empty}
use Rattle.mqb_network.specs.Changes.{note_by}
use Rattle.mqb_network.specs.Choices.{Failure}
use Rattle.mqb_network.specs.Connecting.{asking, linked_as}
use Rattle.mqb_network.specs.Courses.{Course, posted}
use Rattle.mqb_network.specs.Laws.{AreApart}
use Rattle.mqb_network.specs.Network.{Connection, Note, connection_of, formatted, manager_at, nobody, others}
use Rattle.mqb_network.specs.Runs.{beginning}
use Rattle.mqb_orders.specs.Rows.{Row}
use Rattle.mqb_packet.specs.declared.packet.Packet.{Packet}
use Rattle.mqb_packet.specs.declared.packet.Packet.TheVariants as packet
use Rattle.mqb_packet.specs.declared.packet.UserPacket.{UserPacket}
use Rattle.mqb_plain.specs.Lists.{unsent}
use Rattle.mqb_queue.specs.Places.{numbered}
use Rattle.mqb_history.specs.Acked.{SpellsDecided}
use Rattle.mqb_model.specs.calls.Call.{Call, Hear, Pump, outcome_of}
use Rattle.mqb_history.specs.Changes.{Change, Calls, Drops, Ends, Fails, Finds, Hears, Links, Pumps, Restarts, calling, changed, given_out, hearing, is_of_packets, may_change}
use Rattle.mqb_history.specs.Decided.{decisions, written_of}
use Rattle.mqb_history.specs.Made.{IsMade}
use Rattle.mqb_history.proofs.Acting.{IsTrueRecord, calls_beside, marks_true, work_true}
use Rattle.mqb_history.proofs.Beginning.{linked_condition, linked_same_state}
use Rattle.mqb_history.proofs.Begun.{AreRolling, rolling_by_records}
use Rattle.mqb_history.proofs.Bounded.{AreBounded, bounded_by_records}
use Rattle.mqb_history.proofs.Calling.{calls_are_modest, made_only}
use Rattle.mqb_history.proofs.Carrying.{IsCarrying, carrying_begins, carrying_closed, calling_noted, carrying_decided, dropped_note, numbered_split, numbered_suc, numbered_within, replicated}
use Rattle.mqb_history.proofs.Committing.{IsCounted, IsOwnBelow, all_in, kept_at}
use Rattle.mqb_history.proofs.Crediting.{IsSound, heard_truly, only_row, row_of}
use Rattle.mqb_history.proofs.Addressing.{AreLed, IsLedPacket, pump_led}
use Rattle.mqb_history.proofs.Rows.{HasRow}
use Rattle.mqb_history.proofs.Names.{same_guid_is}
use Rattle.mqb_history.specs.Carried.{IsCommittedBy}
use Rattle.mqb_history.specs.Committed.{commitments}
use Rattle.mqb_base.specs.Same.{same_guid}
use Rattle.mqb_base.specs.declared.heads.TxHead.{TxHead}
use Rattle.mqb_base.specs.declared.ids.SequenceId.{SequenceId}
use Rattle.mqb_base.specs.declared.message.Message.{Message}
use Rattle.mqb_model.specs.state.Resolving.{resolved}
use Rattle.mqb_model.specs.declared.target.Target.TheVariants.{AtPeer}
use Rattle.mqb_history.proofs.Ending.{parted_at}
use Rattle.mqb_history.proofs.Fresh.{AreTold, IsToldTruly, told_by_records}
use Rattle.mqb_history.proofs.Heeding.{IsHonestCall, hears_honest}
use Rattle.mqb_history.proofs.Honest.{HasTrueDoubt, IsHonestly, IsRightAt, IsTrulySent, at_doubt, calling_doubts, calling_packets, calling_right, calling_written, doubt_on, joined, packets_on, parted_doubt_true, parted_right, quiet_right, recorded_right, sent_later, still_right, stored_right, written_more, written_still, wrote_right}
use Rattle.mqb_history.proofs.Keeping.{IsClosed}
use Rattle.mqb_history.proofs.Later.{CameRightly, LeadsFrom, IsAckedTruly, IsNote, IsTold, IsUnused, Known, Later, Unused, Vacant, change_later}
use Rattle.mqb_history.proofs.Lists.{get_within, if_some, none_some, not_true, split_and, within_get}
use Rattle.mqb_history.proofs.Named.{IsRightBeside}
use Rattle.mqb_history.proofs.Naming.{IsSafe, Knows}
use Rattle.mqb_history.proofs.Numbering.{AreCounted}
use Rattle.mqb_history.proofs.Ordering.{ended_notes}
use Rattle.mqb_history.proofs.Orderly.{formatted_itself, map_get}
use Rattle.mqb_history.proofs.Recalling.{applied_knows}
use Rattle.mqb_history.proofs.Refusing.{down_is_idle}
use Rattle.mqb_history.proofs.Requests.{IsIdle}
use Rattle.mqb_history.proofs.Serving.{IsWork, calls_work}
use Rattle.mqb_history.proofs.Spelling.{GoesRightly, IsRightPacket, PumpsRightly, SpellsRow, pumps_right}
use Rattle.mqb_history.proofs.Trusting.{true_moved}
use Rattle.mqb_history.proofs.Undecided.{IsKnown, committed_one, known_one, one_manager}
use Rattle.mqb_history.proofs.Written.{begins_with, change_keeps, noted_managers}

-- What holds of each course.
pub record IsCredible (known : List Identity) (c : Course) : Type 0 where
  pub carrying : IsCarrying known c
  pub rolling : (i : ℕ) → AreRolling (manager_at c.network i).state (written_of i c.written)
  pub told : (i : ℕ) → AreTold (manager_at c.network i).state (written_of i c.written)
  pub bounded : (i : ℕ) → AreBounded (manager_at c.network i).state (written_of i c.written)
  pub honest : IsHonestly known c

pub sound_of : (known : List Identity) (c : Course) → IsCredible known c → IsSound known c
sound_of known c h = record { orderly = h.carrying.0.0; marked = h.carrying.0.1; rolling = h.rolling; told = h.told; truly = carrying_decided known c h.carrying; bounded = h.bounded }

-- Packets that are sent.

module _ (known : List Identity) (apart : AreApart known) (c : Course) (h : IsCredible known c) where
  abbrev state_at : ℕ → State
  state_at i = (manager_at c.network i).state

  abbrev guid_at : ℕ → Guid
  guid_at i = (state_at i).identity.guid

  abbrev IsRightly : ℕ → UserPacket → Type 0
  IsRightly i p = GoesRightly (guid_at i) (Known known c i) (Vacant c i) (λ id e. inl e) (state_at i) p.to p.message

  -- an identifier of its own that it never committed is unused
  unused : (i : ℕ) (x : Manager) (id : MessageId) → slice_get c.network.managers i ≡ Some x → id.qm ≡ guid_at i → id.number < (state_at i).next_number → Vacant c i id.number → Unused known c id
  unused i x id there own below vacant = λ j low same. subst IsOf (sym (one j low (same ∙ own))) record_of
    where
      IsOf : ℕ → Type 0
      IsOf k = IsUnused (state_at k) (written_of k c.written) id.number

      record_of : IsOf i
      record_of = record { below = below; uncommitted = vacant }

      place : (j : ℕ) → j < length known → (y : Manager) × (slice_get c.network.managers j ≡ Some y)
      place j low = within_get c.network.managers j (let count = h.carrying.0.0.count in omega (arith, low, count))

      one : (j : ℕ) → j < length known → guid_at j ≡ guid_at i → j ≡ i
      one j low same = let y = place j low in one_manager known c j i apart (known_one known c j y.0 h.carrying.0.0 y.1) (known_one known c i x h.carrying.0.0 there) same

  goes_told : (i : ℕ) (x : Manager) (p : UserPacket) → slice_get c.network.managers i ≡ Some x → IsRightly i p → IsTold known c i p
  goes_told i x p there right = record { order = λ e. spells (right.order e); plain = λ e. note (right.plain e) }
    where
      spells : SpellsRow (state_at i) p.to p.message → SpellsDecided c i p
      spells g = record {
        source = g.own;
        position = record { sequence = g.row.sequence; number = g.row.last };
        spelled = g.spelled;
        destination = g.row.destination;
        decided = subst (λ to. In {A = Position} (record { sequence = g.row.sequence; number = g.row.last }) (decisions (record { source = to; destination = g.row.destination }) (written_of i c.written)))
            g.source (all_in (IsToldTruly (written_of i c.written)) (state_at i).ins g.row (h.told i).ins g.there);
      }

      note : IsSafe (guid_at i) (Known known c i) (Vacant c i) (state_at i).next_number (unsent p.message) → IsNote known c i p
      note g = record { within = let low = get_within c.network.managers i x there in let count = h.carrying.0.0.count in omega (arith, low, count); source = g.source; unused = unused i x p.message.id there g.source g.below g.unused; about = g.about }

  -- what a row keeps leads to its peer
  leads_of : (i : ℕ) → AreLed (state_at i)
  leads_of i row k inside kept = ap (resolved (state_at i)) (sym destination)
      ∙ all_in (λ (x : Row). resolved (state_at i) x.destination ≡ AtPeer x.peer) (state_at i).outs row (h.rolling i).led inside
    where
      committed : In (kept_at row k) (commitments (written_of i c.written))
      committed = (all_in (IsCounted (commitments (written_of i c.written))) (state_at i).outs row (h.carrying.0.1 i).0.0.0.0.0.rows inside).kept k kept

      place : HasRow (state_at i).outs (kept_at row k)
      place = row_of known apart c (sound_of known c h) i (kept_at row k) committed

      destination : row.destination ≡ k.message.destination
      destination = sym (ap (λ (x : Row). x.destination) (only_row known apart c (sound_of known c h) i place.0 row place.1 inside (ap (λ (q : SequenceId). q.ordinal) place.2))) ∙ place.3

  -- what a pump gives out
  given_sent : (i now : ℕ) (failure : Option Failure) (p : UserPacket) → In (packet.User p) (given_out (outcome_of (manager_at c.network i) (Pump now)) failure) → IsTrulySent known c i p
  given_sent i now (Some how) p inside = absurd inside
  given_sent i now None p inside = at (slice_get c.network.managers i) refl
    where
      none : slice_get c.network.managers i ≡ None → (outcome_of (manager_at c.network i) (Pump now)).packets ≡ []
      none e = (down_is_idle (manager_at c.network i) (Pump now) (ap (λ x. is_down (unwrap_or x nobody)) e)).packets

      right : PumpsRightly (guid_at i) (Known known c i) (Vacant c i) (λ id e. inl e) (state_at i) (outcome_of (manager_at c.network i) (Pump now))
      right = pumps_right (guid_at i) (Known known c i) (Vacant c i) (λ id e. inl e) (manager_at c.network i) now (h.honest.managers i).knows

      at : (o : Option Manager) → slice_get c.network.managers i ≡ o → IsTrulySent known c i p
      at None e = absurd (subst (In (packet.User p)) (none e) inside)
      at (Some x) e = record {
        plain = λ t. goes_told i x p e (all_in (IsRightPacket (guid_at i) (Known known c i) (Vacant c i) (λ id e. inl e) (state_at i)) (outcome_of (manager_at c.network i) (Pump now)).packets (packet.User p) right.packets inside p refl t);
        stream = λ tx t. all_in (IsLedPacket (state_at i)) (outcome_of (manager_at c.network i) (Pump now)).packets (packet.User p) (pump_led (manager_at c.network i) now (leads_of i)) inside p tx refl t;
      }

-- packets that are known join the others
posted_sent : (known : List Identity) (b c d : Course) (i now : ℕ) (packets : List Packet) → length b.network.notes ≡ length b.sent
    → ((p : UserPacket) → In (packet.User p) packets → IsTrulySent known d i p)
    → ((k : ℕ) (note : Note) (p : UserPacket) → numbered b.network.notes k ≡ Some note → numbered b.sent k ≡ Some (packet.User p) → IsTrulySent known d note.sender p)
    → (k : ℕ) (note : Note) (p : UserPacket) → numbered (posted i now packets b).network.notes k ≡ Some note → numbered (posted i now packets b).sent k ≡ Some (packet.User p) → IsTrulySent known d note.sender p
posted_sent known b c d i now packets noted_all new old k note p e f = at (connection_of b.network i) e
  where
    notes_of : Option Connection → List Note
    notes_of o = (option_map_or (λ (x : Connection). record b.network { notes = b.network.notes ++ replicate (length packets) (note_by i now x) }) o b.network).notes

    by : (x : Connection) → (numbered b.network.notes k ≡ Some note) ⊎ ((length b.network.notes < k) × In note (replicate (length packets) (note_by i now x)))
        → (numbered b.sent k ≡ Some (packet.User p)) ⊎ ((length b.sent < k) × In (packet.User p) packets) → IsTrulySent known d note.sender p
    by x (inl a) (inl g) = old k note p a g
    by x (inl a) (inr g) = let low = numbered_within b.network.notes k note a in let high = g.0 in absurd (omega (arith, low, high, noted_all))
    by x (inr a) (inl g) = let low = numbered_within b.sent k (packet.User p) g in let high = a.0 in absurd (omega (arith, low, high, noted_all))
    by x (inr a) (inr g) = subst (λ (y : Note). IsTrulySent known d y.sender p) (replicated (length packets) (note_by i now x) note a.1) (new p g.1)

    alone : numbered b.network.notes k ≡ Some note → (numbered b.sent k ≡ Some (packet.User p)) ⊎ ((length b.sent < k) × In (packet.User p) packets) → IsTrulySent known d note.sender p
    alone a (inl g) = old k note p a g
    alone a (inr g) = let low = numbered_within b.network.notes k note a in let high = g.0 in absurd (omega (arith, low, high, noted_all))

    at : (o : Option Connection) → numbered (notes_of o) k ≡ Some note → IsTrulySent known d note.sender p
    at None a = alone a (numbered_split b.sent packets k (packet.User p) f)
    at (Some x) a = by x (numbered_split b.network.notes (replicate (length packets) (note_by i now x)) k note a) (numbered_split b.sent packets k (packet.User p) f)

-- Changes.

module _ (known : List Identity) (apart : AreApart known) (c : Course) (h : IsCredible known c) where
  abbrev manager : ℕ → Manager
  manager i = manager_at c.network i

  counted : (j : ℕ) → AreCounted (manager j).state (written_of j c.written)
  counted j = (h.carrying.0.1 j).0.0.0.0.0

  -- a record of a call is one that was made
  made_by : (i : ℕ) (call : Call) → IfSome (outcome_of (manager i) call).entry (IsMade (manager i).state)
  made_by i call = made_only _ (manager i).state (outcome_of (manager i) call).entry (calls_are_modest (manager i) call).entry

  -- what a call records and does is true
  record IsTrueCall (i : ℕ) (call : Call) : Type 0 where
    pub entry : IfSome (outcome_of (manager i) call).entry (IsTrueRecord known c i (manager i).state)
    pub beside : IsRightBeside (manager i).state (outcome_of (manager i) call).beside

  calling_honest : (d : Course) → Later known c d → (i : ℕ) (call : Call) (failure : Option Failure) → IsTrueCall i call → d ≡ calling i call failure c → IsHonestly known d
  calling_honest d later i call failure true_call same = record {
    managers = λ j. subst (λ (x : Course). IsRightAt known d j (manager_at x.network j).state) (sym same)
        (calling_right known c d later counted i call failure (ap (λ (x : Course). x.written) same) (made_by i call) true_call.entry true_call.beside h.honest.managers j);
    packets = λ k note p e f. calling_packets known c d later counted i call failure h.honest.packets k note p
        (subst (λ (x : Course). numbered x.network.notes k ≡ Some note) same e) (subst (λ (x : Course). numbered x.sent k ≡ Some (packet.User p)) same f);
    doubts = λ j. subst (λ (x : Course). HasTrueDoubt known d j (manager_at x.network j)) (sym same) (calling_doubts known c d later counted i call failure true_call.entry h.honest.doubts j);
    written = calling_written known c d later counted i call failure (ap (λ (x : Course). x.written) same) true_call.entry h.honest.written;
  }

  pumping_honest : (d : Course) → Later known c d → (i now : ℕ) (failure : Option Failure) → d ≡ changed (Pumps i now failure) c → IsHonestly known d
  pumping_honest d later i now failure same = record {
    managers = λ j. subst (λ (x : Course). IsRightAt known d j (manager_at x.network j).state) (sym same)
        (subst (λ ms. IsRightAt known d j (unwrap_or (slice_get ms j) nobody).state) (sym (noted_managers i now (length packets) b.network))
        (calling_right known c d later counted i (Pump now) failure (ap (λ (x : Course). x.written) same) (made_by i (Pump now)) entry pumps.beside h.honest.managers j));
    packets = λ k note p e f. posted_sent known b c d i now packets (calling_noted i (Pump now) failure c h.carrying.0.0.noted)
        (λ q inside. sent_later known c d later counted i q (given_sent known apart c h i now failure q inside))
        (calling_packets known c d later counted i (Pump now) failure h.honest.packets) k note p
        (subst (λ (x : Course). numbered x.network.notes k ≡ Some note) same e) (subst (λ (x : Course). numbered x.sent k ≡ Some (packet.User p)) same f);
    doubts = λ j. subst (λ (x : Course). HasTrueDoubt known d j (manager_at x.network j)) (sym same)
        (subst (λ ms. HasTrueDoubt known d j (unwrap_or (slice_get ms j) nobody)) (sym (noted_managers i now (length packets) b.network))
        (calling_doubts known c d later counted i (Pump now) failure entry h.honest.doubts j));
    written = calling_written known c d later counted i (Pump now) failure (ap (λ (x : Course). x.written) same) entry h.honest.written;
  }
    where
      b : Course
      b = calling i (Pump now) failure c

      packets : List Packet
      packets = given_out (outcome_of (manager i) (Pump now)) failure

      pumps : PumpsRightly (manager i).state.identity.guid (Known known c i) (Vacant c i) (λ id e. inl e) (manager i).state (outcome_of (manager i) (Pump now))
      pumps = pumps_right (manager i).state.identity.guid (Known known c i) (Vacant c i) (λ id e. inl e) (manager i) now (h.honest.managers i).knows

      entry : IfSome (outcome_of (manager i) (Pump now)).entry (IsTrueRecord known c i (manager i).state)
      entry = if_some _ (IsTrueRecord known c i (manager i).state) (outcome_of (manager i) (Pump now)).entry (marks_true known c i (manager i).state) pumps.entry

  -- a packet of a stream comes from where it leads here
  came : (k : ℕ) (note : Note) (x : Manager) (p : UserPacket) (tx : TxHead) → numbered c.network.notes k ≡ Some note → numbered c.sent k ≡ Some (packet.User p)
      → slice_get c.network.managers note.receiver ≡ Some x → same_guid p.to (manager note.receiver).state.identity.guid ≡ true → p.tx ≡ Some tx → CameRightly known c note.receiver p
  came k note x p tx e f there to t = record {
    source = note.sender;
    within = get_within known note.sender sender.own sender.there;
    own = sym ((all_in (IsOwnBelow (manager note.sender).state.identity.guid (manager note.sender).state.next_number) (commitments (written_of note.sender c.written))
        carried.commitment (counted note.sender).own_ids carried.there).0) ∙ ap (λ (m : Message). m.id.qm) (sym carried.message);
    here = let low = get_within c.network.managers note.receiver x there in let count = h.carrying.0.0.count in omega (arith, low, count);
    leads = subst (λ g. LeadsFrom (manager note.sender).state g p.message.destination) (same_guid_is p.to (manager note.receiver).state.identity.guid to)
        ((h.honest.packets k note p e f).stream tx t);
  }
    where
      carried : IsCommittedBy note.sender c.written note.moment p tx
      carried = h.carrying.1.carried k note p tx e f t

      sender : IsKnown known c note.sender
      sender = committed_one known c note.sender carried.commitment h.carrying.0.0 (h.carrying.0.1 note.sender).0.0.0 carried.there

  -- a packet is heard
  hears_true : (k now : ℕ) (note : Note) (x : Packet) → numbered c.network.notes k ≡ Some note → numbered c.sent k ≡ Some x → IsTrueCall note.receiver (Hear now x)
  hears_true k now note x e f = at (slice_get c.network.managers note.receiver) refl
    where
      call : (y : Manager) → slice_get c.network.managers note.receiver ≡ Some y → IsHonestCall known c note.receiver (manager note.receiver) x now
      call y there = hears_honest known c note.receiver (manager note.receiver) now x (λ before session p same meant. let sent = f ∙ ap (λ z. Some z) same in record {
        plain = λ none. heard_truly known apart c (sound_of known c h) note.receiver note.sender before p ((h.honest.packets k note p e sent).plain none) meant (h.honest.managers note.receiver).knows;
        stream = λ tx t. came k note y p tx e sent there meant.to t;
      })

      idle : slice_get c.network.managers note.receiver ≡ None → IsIdle (outcome_of (manager note.receiver) (Hear now x))
      idle none = down_is_idle (manager note.receiver) (Hear now x) (ap (λ y. is_down (unwrap_or y nobody)) none)

      at : (o : Option Manager) → slice_get c.network.managers note.receiver ≡ o → IsTrueCall note.receiver (Hear now x)
      at None none = record {
        entry = subst (λ o. IfSome o (IsTrueRecord known c note.receiver (manager note.receiver).state)) (sym (idle none).entry) tt;
        beside = subst (IsRightBeside (manager note.receiver).state) (sym (idle none).beside) tt;
      }
      at (Some y) there = record { entry = (call y there).entry; beside = (call y there).beside }

  hearing_honest : (d : Course) → Later known c d → (k now : ℕ) (failure : Option Failure) (note : Option Note) (x : Option Packet) → numbered c.network.notes k ≡ note → numbered c.sent k ≡ x
      → d ≡ hearing note x now failure c → IsHonestly known d
  hearing_honest d later k now failure None x e f same = subst (IsHonestly known) (sym same) h.honest
  hearing_honest d later k now failure (Some note) None e f same = subst (IsHonestly known) (sym same) h.honest
  hearing_honest d later k now failure (Some note) (Some x) e f same = calling_honest d later note.receiver (Hear now x) failure (hears_true k now note x e f) same

  -- a call that has nothing to do with packets
  works_true : (i : ℕ) (call : Call) → is_of_packets call ≡ false → IsTrueCall i call
  works_true i call quiet = record {
    entry = if_some (IsWork (manager i).state.identity.guid) (IsTrueRecord known c i (manager i).state) (outcome_of (manager i) call).entry
        (work_true known c i (manager i).state (manager i).state.identity.guid) (calls_work (manager i).state.identity.guid (manager i) call refl quiet).entry;
    beside = calls_beside (manager i).state (manager i) call quiet;
  }

  change_honest : (x : Change) → may_change c x ≡ true → Later known c (changed x c) → IsHonestly known (changed x c)
  change_honest (Calls i call failure) may later = calling_honest (calling i call failure c) later i call failure
      (works_true i call (not_true (is_of_packets call) (split_and (not (is_of_packets call)) _ may).0)) refl
  change_honest (Pumps i now failure) may later = pumping_honest (changed (Pumps i now failure) c) later i now failure refl
  change_honest (Hears k now failure) may later = hearing_honest (changed (Hears k now failure) c) later k now failure (numbered c.network.notes k) (numbered c.sent k) refl refl refl
  change_honest (Links a b window_a window_b) may later = record {
    managers = λ j. subst (IsRightAt known d j) (sym (states j)) (quiet_right known c d later counted j refl (h.honest.managers j));
    packets = packets_on known c d later counted h.honest.packets;
    doubts = λ j. subst (λ x. IfSome (doubt_of x) (IsTrueRecord known d j (manager_at d.network j).state)) (sym (conditions j))
        (subst (λ s. IfSome (doubt_of (manager j).condition) (IsTrueRecord known d j s)) (sym (states j)) (doubt_on known c d later counted j (manager j) (h.honest.doubts j)));
    written = written_still known c d later counted refl h.honest.written;
  }
    where
      d : Course
      d = changed (Links a b window_a window_b) c

      end : Role
      end = asking (manager a).state (manager b).state.identity.guid

      states : (j : ℕ) → (manager_at d.network j).state ≡ (manager j).state
      states j = linked_same_state (linked_as a end window_a c.network) b j role.Acceptor window_b ∙ linked_same_state c.network a j end window_a

      conditions : (j : ℕ) → (manager_at d.network j).condition ≡ (manager j).condition
      conditions j = linked_condition (linked_as a end window_a c.network) b j role.Acceptor window_b ∙ linked_condition c.network a j end window_a
  change_honest (Ends i) may later = let d = changed (Ends i) c in record {
    managers = λ j. parted_at (λ x. IsRightAt known d j x.state) c.network i j (parted_right known c d later counted j) (quiet_right known c d later counted j refl (h.honest.managers j));
    packets = λ k note p e f. packets_on known c d later counted h.honest.packets k note p (subst (λ (notes : List Note). numbered notes k ≡ Some note) (ended_notes c.network i) e) f;
    doubts = λ j. parted_at (HasTrueDoubt known d j) c.network i j (parted_doubt_true known c d later counted j) (doubt_on known c d later counted j (manager j) (h.honest.doubts j));
    written = written_still known c d later counted refl h.honest.written;
  }
  change_honest (Drops n) may later = let d = changed (Drops n) c in record {
    managers = λ j. quiet_right known c d later counted j refl (h.honest.managers j);
    packets = λ k note p e f. let old = dropped_note c.network.notes n k note e in
        subst (λ s. IsTrulySent known d s p) old.2 (packets_on known c d later counted h.honest.packets k old.0 p old.1 f);
    doubts = λ j. doubt_on known c d later counted j (manager j) (h.honest.doubts j);
    written = written_still known c d later counted refl h.honest.written;
  }
  change_honest (Restarts i) may later = let d = changed (Restarts i) c in let m = restarted (manager i) false in record {
    managers = still_right known c d later counted i m refl (stored_right known c d later counted i (manager i).state (quiet_right known c d later counted i refl (h.honest.managers i))) h.honest.managers;
    packets = packets_on known c d later counted h.honest.packets;
    doubts = at_doubt known c d later counted i m tt h.honest.doubts;
    written = written_still known c d later counted refl h.honest.written;
  }
  change_honest (Finds i) may later = let d = changed (Finds i) c in let m = restarted (manager i) true in let o = doubt_of (manager i).condition in record {
    managers = wrote_right known c d later counted i m o refl (λ e. ap (λ x. doubt_of (unwrap_or x nobody).condition) e)
        (stored_right known c d later counted i (recorded (manager i).state o)
        (recorded_right known c d later counted i o (h.carrying.0.0.doubts i) (h.honest.doubts i) (joined known c d later counted i o refl) (h.honest.managers i))) h.honest.managers;
    packets = packets_on known c d later counted h.honest.packets;
    doubts = at_doubt known c d later counted i m tt h.honest.doubts;
    written = written_more known c d later counted i o refl (h.honest.doubts i) h.honest.written;
  }
  change_honest (Fails i) may later = let d = changed (Fails i) c in let m = unread (manager i) in record {
    managers = still_right known c d later counted i m refl (stored_right known c d later counted i (manager i).state (quiet_right known c d later counted i refl (h.honest.managers i))) h.honest.managers;
    packets = packets_on known c d later counted h.honest.packets;
    doubts = at_doubt known c d later counted i m (moved (doubt_of (manager i).condition) (doubt_on known c d later counted i (manager i) (h.honest.doubts i))) h.honest.doubts;
    written = written_still known c d later counted refl h.honest.written;
  }
    where
      moved : (o : Option Record) → IfSome o (IsTrueRecord known (changed (Fails i) c) i (manager i).state) → IfSome o (IsTrueRecord known (changed (Fails i) c) i (durable (manager i).state))
      moved None g = tt
      moved (Some r) g = true_moved known (changed (Fails i) c) i (manager i).state (durable (manager i).state) r refl refl g

-- The start.

module _ (own : Guid) (K : MessageId → Type 0) (V : ℕ → Type 0) (mine : (id : MessageId) → id.qm ≡ own → K id) (P : Row → Type 0) where
  begun_right : (ps : List Identity) (s : State) → Knows own K V s × AllByRecursion P s.outs
      → Knows own K V (fold apply s (map (λ p. entry.Peer p) ps)) × AllByRecursion P (fold apply s (map (λ p. entry.Peer p) ps)).outs
  begun_right [] s h = h
  begun_right (p ∷ ps) s h = begun_right ps (apply s (entry.Peer p)) (applied_knows own K V mine s (entry.Peer p) tt h.0, h.1)

begun_at : (known : List Identity) (K : MessageId → Type 0) (V : ℕ → Type 0) (P : Row → Type 0) (o : Option Identity) → ((n : ℕ) → V n)
    → ((id : MessageId) → id.qm ≡ (unwrap_or (option_map (λ own. formatted own (others known own)) o) nobody).state.identity.guid → K id)
    → Knows (unwrap_or (option_map (λ own. formatted own (others known own)) o) nobody).state.identity.guid K V (unwrap_or (option_map (λ own. formatted own (others known own)) o) nobody).state
    × AllByRecursion P (unwrap_or (option_map (λ own. formatted own (others known own)) o) nobody).state.outs
begun_at known K V P None free mine = (
  record {
    identity = refl;
    bounded = omega arith;
    fresh = λ n le. free n;
    plain = tt;
    places = record { queues = tt; dead = record { durable = tt; express = tt }; dead_xact = record { durable = tt; express = tt }; journal = record { durable = tt; express = tt } };
    rows = tt;
  },
  tt,
)
begun_at known K V P (Some own) free mine = subst (λ g. Knows g K V s × AllByRecursion P s.outs) (sym same)
    (begun_right own.guid K V (λ id e. mine id (e ∙ sym same)) P (others known own) (empty own) (
      record {
        identity = refl;
        bounded = omega arith;
        fresh = λ n le. free n;
        plain = tt;
        places = record { queues = tt; dead = record { durable = tt; express = tt }; dead_xact = record { durable = tt; express = tt }; journal = record { durable = tt; express = tt } };
        rows = tt;
      },
      tt,
    ))
  where
    s : State
    s = (formatted own (others known own)).state

    same : s.identity.guid ≡ own.guid
    same = ap (λ (x : Identity). x.guid) (formatted_itself known own).identity

begins_honest : (known : List Identity) → IsHonestly known (beginning known)
begins_honest known = record {
  managers = λ j. let g = right j in record { knows = g.0; rows = g.1 };
  packets = λ k note p e f. absurd (nothing_numbered k note e);
  written = λ j w inside. absurd inside;
  doubts = λ j. subst (λ o. IfSome (doubt_of (unwrap_or o nobody).condition) (IsTrueRecord known (beginning known) j (unwrap_or o nobody).state))
      (sym (map_get (λ own. formatted own (others known own)) known j)) (doubts j (slice_get known j));
}
  where
    right : (j : ℕ) → Knows (manager_at (beginning known).network j).state.identity.guid (Known known (beginning known) j) (Vacant (beginning known) j) (manager_at (beginning known).network j).state
        × AllByRecursion (IsAckedTruly (beginning known) j) (manager_at (beginning known).network j).state.outs
    right j = subst (λ o. Knows (unwrap_or o nobody).state.identity.guid (Known known (beginning known) j) (Vacant (beginning known) j) (unwrap_or o nobody).state
        × AllByRecursion (IsAckedTruly (beginning known) j) (unwrap_or o nobody).state.outs) (sym (map_get (λ own. formatted own (others known own)) known j))
        (begun_at known (Known known (beginning known) j) (Vacant (beginning known) j) (IsAckedTruly (beginning known) j) (slice_get known j) (λ n m inside. absurd inside)
        (λ id e. inl (e ∙ ap (λ o. (unwrap_or o nobody).state.identity.guid) (sym (map_get (λ own. formatted own (others known own)) known j)))))

    nothing_numbered : (k : ℕ) (note : Note) → numbered [] k ≡ Some note → ⊥
    nothing_numbered zero note e = none_some e
    nothing_numbered (suc k) note e = none_some (sym (numbered_suc [] k) ∙ e)

    doubts : (j : ℕ) (o : Option Identity) → IfSome (doubt_of (unwrap_or (option_map (λ own. formatted own (others known own)) o) nobody).condition)
        (IsTrueRecord known (beginning known) j (unwrap_or (option_map (λ own. formatted own (others known own)) o) nobody).state)
    doubts j None = tt
    doubts j (Some own) = tt

-- What holds of each course.

pub credible_closed : (known : List Identity) → AreApart known → IsClosed known (IsCredible known)
credible_closed known apart = record {
  orderly = λ c h. h.carrying.0.0;
  keeps = λ c x may h. record {
    carrying = (carrying_closed known apart).keeps c x may h.carrying;
    rolling = change_keeps known AreRolling rolling_by_records c x may h.carrying.0.0 h.rolling;
    told = change_keeps known AreTold told_by_records c x may h.carrying.0.0 h.told;
    bounded = change_keeps known AreBounded bounded_by_records c x may h.carrying.0.0 h.bounded;
    honest = change_honest known apart c h x may (change_later known c x may h.carrying.0.0);
  };
}

pub credible_begins : (known : List Identity) → IsCredible known (beginning known)
credible_begins known = record {
  carrying = carrying_begins known;
  rolling = (begins_with known AreRolling rolling_by_records).1;
  told = (begins_with known AreTold told_by_records).1;
  bounded = (begins_with known AreBounded bounded_by_records).1;
  honest = begins_honest known;
}
