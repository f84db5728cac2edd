-- Each change of a course keeps a stream world of each channel going along.
use Rattle.mqb_history.specs.Acked.{IsDecidedThere, is_order_ack}
use Rattle.mqb_history.proofs.Answering.{IsCredible}
use Rattle.mqb_history.proofs.Attesting.{heard_ack}
use Rattle.mqb_history.proofs.Awaiting.{HeardAcks, call_awaits, called_awaits, ended_awaits, started_awaits}
use Rattle.mqb_history.proofs.Finishing.{MayAck}
use Rattle.mqb_history.proofs.Recorded.{IsAckHeard, calls_are_of}
use Rattle.mqb_history.proofs.Recording.{Awaits}
use Rattle.mqb_history.proofs.Spelling.{SpellsRow}
use Rattle.mqb_history.proofs.Receipting.{AreTelling, Tells, marks_ins, row_tells}
use Rattle.std.proofs.Common.{refl, ap, sym, subst, ◌∙◌, inl, inr}
use Rattle.std.specs.List.{list_any}
use Rattle.std.specs.Prelude.{◌≡◌, ◌⊎◌, IfSome, List, None, Option, Some, false, length, not, option_map, slice_get, true, unwrap_or, ℕ}
use Rattle.mqb_base.specs.Same.{same_guid}
use Rattle.mqb_base.specs.declared.heads.TxHead.{TxHead}
use Rattle.mqb_base.specs.declared.ids.Guid.{Guid}
use Rattle.mqb_base.specs.declared.ids.Identity.{Identity}
use Rattle.mqb_base.specs.declared.queue_names.QueueName.{QueueName}
use Rattle.mqb_exactly_once.specs.Words.{In}
use Rattle.mqb_exactly_once.specs.World.{Channel}
use Rattle.mqb_model.specs.declared.target.Target.TheVariants.{AtPeer}
use Rattle.mqb_model.specs.managers.Manager.{Condition, Down, Manager, Up, doubt_of, is_down}
use Rattle.mqb_model.specs.managers.Restarts.{restarted, unread}
use Rattle.mqb_model.specs.state.Resolving.{resolved}
use Rattle.mqb_model.specs.state.State.{empty}
use Rattle.mqb_network.specs.Choices.{Failure}
use Rattle.mqb_network.specs.Connecting.{any_connected, any_down}
use Rattle.mqb_network.specs.Courses.{Course}
use Rattle.mqb_network.specs.Laws.{AreApart}
use Rattle.mqb_network.specs.Network.{Connection, Note, is_connected, is_end, is_underway, manager_at, nobody, others}
use Rattle.mqb_packet.specs.declared.packet.Packet.{Packet}
use Rattle.mqb_packet.specs.declared.packet.Packet.TheVariants as packet
use Rattle.mqb_packet.specs.declared.packet.UserPacket.{UserPacket}
use Rattle.mqb_queue.specs.Places.{numbered}
use Rattle.mqb_model.specs.calls.Call.{Call, Hear, Pump, outcome_of}
use Rattle.mqb_history.specs.Changes.{Calls, Change, Drops, Ends, Fails, Finds, Hears, Links, Pumps, Restarts, calling, changed, given_out, hearing, is_of_packets, may_change, may_fail, may_hear}
use Rattle.mqb_history.specs.Decided.{written_of}
use Rattle.mqb_history.specs.Made.{IsFrom}
use Rattle.mqb_history.specs.Orderly.{IsItself, IsOrderly}
use Rattle.mqb_history.proofs.Beginnings.{begins_linked}
use Rattle.mqb_history.proofs.Between.{AreEnds, first_end, in_any}
use Rattle.mqb_history.proofs.Calling.{calls_are_modest, from_only, made_only}
use Rattle.mqb_history.proofs.Carrying.{IsCarrying, calling_noted, none_heard}
use Rattle.mqb_history.proofs.Chaining.{called_doubt, called_goes, drops_goes, ended_doubt, ends_goes, failed_goes, fails_goes, finds_goes, restarts_goes, started_doubt}
use Rattle.mqb_history.proofs.Dispatching.{CanSend, IsOfChannel}
use Rattle.mqb_history.proofs.Enlisting.{leads_same}
use Rattle.mqb_history.proofs.Catching.{heard_may, heard_transfer}
use Rattle.mqb_history.proofs.Knowing.{not_own_peer}
use Rattle.mqb_history.proofs.Linked.{AwaitsIn, ComesBack, IsAckedAt, IsLinked, IsSentBack, goes_linked}
use Rattle.mqb_history.proofs.Receiving.{AreFinalsReceived, IsFinalReceived, IsReceived, heard_received, pump_received, pumped_notes, pumped_sent, unheard_received}
use Rattle.mqb_history.proofs.Later.{IsNote}
use Rattle.mqb_history.proofs.Courses.{known_of, one_guid, who_is}
use Rattle.mqb_history.proofs.Believing.{position_there}
use Rattle.mqb_history.proofs.Acquainting.{TellFates}
use Rattle.mqb_model.specs.records.Record.{Record}
use Rattle.mqb_model.specs.records.Record as entry
use Rattle.mqb_model.specs.state.Places.{is_express}
use Rattle.mqb_fate.specs.Orders.{is_final_class}
use Rattle.std.specs.Prelude.{position as place_of}
use Rattle.mqb_history.proofs.Lists.{clash, get_in, neither, none_some, not_true, some_is, split_and, true_not_false, within_get}
use Rattle.mqb_history.proofs.Marked.{AreMarked}
use Rattle.mqb_base.specs.declared.ids.SequenceId.{SequenceId}
use Rattle.mqb_base.specs.declared.message.Message.{Message}
use Rattle.mqb_model.specs.managers.Outcomes.{recorded}
use Rattle.mqb_orders.specs.Rows.{Row}
use Rattle.mqb_history.specs.Committed.{commitments}
use Rattle.mqb_history.specs.Decided.{decisions}
use Rattle.mqb_history.proofs.Committing.{IsCounted, all_in, kept_at}
use Rattle.mqb_history.proofs.Due.{one_row}
use Rattle.mqb_history.proofs.Outgoing.{IsOfRow, packet_of_row, pump_marks, row_can_send}
use Rattle.mqb_history.proofs.Posting.{posted_linked}
use Rattle.mqb_history.proofs.Rows.{HasRow}
use Rattle.mqb_history.proofs.Sourcing.{same_elsewhere}
use Rattle.mqb_history.proofs.Names.{same_guid_is, same_guid_refl}
use Rattle.mqb_history.proofs.Ruling.{MayRule}
use Rattle.mqb_history.proofs.Storing.{KeepsStorage}
use Rattle.mqb_history.proofs.Undecided.{IsKnown}
use Rattle.mqb_history.proofs.Written.{noted_managers}

-- A destination leads from one manager to another, whatever they do.
pub record Route (known : List Identity) (i j : ℕ) (d : QueueName) : Type 0 where
  pub own : Identity
  pub other : Identity
  pub own_there : slice_get known i ≡ Some own
  pub other_there : slice_get known j ≡ Some other
  pub peer : ℕ
  pub target : resolved (record (empty own) { peers = others known own }) d ≡ AtPeer peer
  pub identity : option_map (λ (p : Identity). p.guid) (slice_get (others known own) peer) ≡ Some other.guid

-- its channel
abbrev pub channel_on : (known : List Identity) (i j : ℕ) (d : QueueName) → Route known i j d → Channel
channel_on known i j d r = record { source = r.own.guid; destination = d }

-- it does not lead to where it comes from
pub route_apart : (known : List Identity) (i j : ℕ) (d : QueueName) → Route known i j d → i ≡ j → ⊥
route_apart known i j d r same = at (slice_get (others known r.own) r.peer) refl r.identity
  where
    one : r.own ≡ r.other
    one = some_is r.own r.other (sym r.own_there ∙ ap (slice_get known) same ∙ r.other_there)

    none : (p : Identity) → In p (others known r.own) → p.guid ≡ r.other.guid → ⊥
    none p inside e = true_not_false (list_any (λ (x : Identity). same_guid x.guid r.own.guid) (others known r.own))
        (in_any (λ (x : Identity). same_guid x.guid r.own.guid) (others known r.own) p inside
        (subst (λ g. same_guid g r.own.guid ≡ true) (sym (e ∙ ap (λ (x : Identity). x.guid) (sym one))) (same_guid_refl r.own.guid))) (not_own_peer r.own.guid known)

    guid_is : (a b : Guid) → Some a ≡ Some b → a ≡ b
    guid_is a b e = some_is a b e

    at : (o : Option Identity) → slice_get (others known r.own) r.peer ≡ o → option_map (λ (p : Identity). p.guid) o ≡ Some r.other.guid → ⊥
    at None e f = none_some f
    at (Some p) e f = none p (get_in (others known r.own) r.peer p e) (guid_is p.guid r.other.guid f)

up_doubt : (x : Condition) → elim x [ Up ↦ false | Down doubt ↦ true ] ≡ false → doubt_of x ≡ None
up_doubt Up e = refl
up_doubt (Down doubt) e = absurd (clash e)

heard_same : (now at : ℕ) (x y : Packet) → Hear now x ≡ Hear at y → x ≡ y
heard_same now at x y e = cc

module _ (known : List Identity) (apart : AreApart known) (i j : ℕ) (d : QueueName) (r : Route known i j d) (c : Course) (o : IsOrderly known c)
    (held : (a : ℕ) → AreMarked (manager_at c.network a).state (written_of a c.written)) (carrying : IsCarrying known c) (storage : KeepsStorage c)
    (spells : (a now : ℕ) (p : UserPacket) → In (packet.User p) (outcome_of (manager_at c.network a) (Pump now)).packets → p.tx ≡ None → is_order_ack p.message ≡ true
    → SpellsRow (manager_at c.network a).state p.to p.message) (credible : IsCredible known c)
    (decider_is : (row : Row) (n : ℕ) → row.peer ≡ r.peer → (there : IsDecidedThere c i row n) → there.decider ≡ j) (received : AreFinalsReceived c) where
  abbrev ch : Channel
  ch = channel_on known i j d r

  abbrev Links_at : Course → Type 0
  Links_at z = IsLinked z i j ch d r.peer

  abbrev Acked_at : Course → Type 0
  Acked_at z = IsAckedAt z i j ch d r.peer

  itself : IsItself known r.own (manager_at c.network i).state
  itself = subst (λ x. IfSome x (λ own. IsItself known own (manager_at c.network i).state)) r.own_there (o.themselves i)

  leads : resolved (manager_at c.network i).state d ≡ AtPeer r.peer
  leads = leads_same (record (empty r.own) { peers = others known r.own }) (manager_at c.network i).state d r.peer (record { identity = itself.identity; peers = itself.peers }) r.target

  own_guid : (manager_at c.network i).state.identity.guid ≡ ch.source
  own_guid = ap (λ (x : Identity). x.guid) itself.identity

  source : IsKnown known c i
  source = record { own = r.own; there = r.own_there; guid = own_guid }

  differ : i ≡ j → ⊥
  differ = route_apart known i j d r

  -- what final acknowledgements of the channel tell in a course
  abbrev Tells_at : Course → Type 0
  Tells_at z = TellFates z i j ch d

  -- one of which a record tells came back, where it came from the peer
  came_back : (p : UserPacket) → IsReceived c.network.notes c.sent i p → place_of (λ (x : Identity). same_guid x.guid p.message.id.qm) (manager_at c.network i).state.peers ≡ Some r.peer
      → IsSentBack c.network.notes c.sent i j p
  came_back p x leads_there = record { place = x.place; note = x.note; noted = x.noted; there = x.there; sender = sender; receiver = x.receiver; plain = x.plain; final = x.final }
    where
      note : IsNote known c x.note.sender p
      note = ((credible.honest.packets x.place x.note p x.noted x.there).plain x.plain).plain
          (not_true (is_express p.message.delivery) (split_and (not (is_express p.message.delivery)) (is_final_class p.message.class) x.final).0)

      peer : (y : Identity) × (slice_get (manager_at c.network i).state.peers r.peer ≡ Some y) × (same_guid y.guid p.message.id.qm ≡ true)
      peer = position_there (λ (y : Identity). same_guid y.guid p.message.id.qm) (manager_at c.network i).state.peers r.peer leads_there

      other : peer.0.guid ≡ r.other.guid
      other = some_is peer.0.guid r.other.guid (ap (λ (y : Option Identity). option_map (λ (q : Identity). q.guid) y) (sym peer.1)
          ∙ ap (λ (ps : List Identity). option_map (λ (q : Identity). q.guid) (slice_get ps r.peer)) itself.peers ∙ r.identity)

      own : (y : Identity) × (slice_get known x.note.sender ≡ Some y)
      own = within_get known x.note.sender note.within

      sender : x.note.sender ≡ j
      sender = one_guid known x.note.sender j own.0 r.other apart own.1 r.other_there
          (sym (ap (λ (y : Identity). y.guid) (who_is known c x.note.sender own.0 (known_of known c o) own.1)) ∙ sym note.source ∙ sym (same_guid_is peer.0.guid p.message.id.qm peer.2) ∙ other)

  comes_back : (q : Record) → IsFinalReceived c.network.notes c.sent i q → ComesBack r.peer (manager_at c.network i).state.peers c.network.notes c.sent i j q
  comes_back (entry.Arrived now numbers (entry.Final p)) x = came_back p x
  comes_back q x = tt

  -- where a record of a manager does, at the source
  abbrev Comes : ℕ → Option Record → Type 0
  Comes a x = a ≡ i → IfSome x (ComesBack r.peer (manager_at c.network a).state.peers c.network.notes c.sent i j)

  some_comes : (a : ℕ) (x : Option Record) → IfSome x (IsFinalReceived c.network.notes c.sent a) → Comes a x
  some_comes a None h e = tt
  some_comes a (Some q) h e = subst (λ n. ComesBack r.peer (manager_at c.network n).state.peers c.network.notes c.sent i j q) (sym e)
      (comes_back q (subst (λ n. IsFinalReceived c.network.notes c.sent n q) e h))

  module _ (h : Links_at c) where
    -- calls
    abbrev Hears_at : ℕ → Call → Type 0
    Hears_at a call = a ≡ i → HeardAcks (manager_at c.network a).state call d h.world.order_acks h.world.connection

    call_waits : (a : ℕ) (call : Call) → Hears_at a call → a ≡ i
        → IfSome (outcome_of (manager_at c.network a) call).entry (Awaits d h.world.order_acks h.world.connection (manager_at c.network a).state.outs)
    call_waits a call heard e = call_awaits (manager_at c.network a).state call d h.world.order_acks h.world.connection (outcome_of (manager_at c.network a) call).entry
        (calls_are_of (manager_at c.network a) call).entry (heard e)

    calling_linked : (a : ℕ) (call : Call) (failure : Option Failure)
        → (a ≡ j → IfSome (outcome_of (manager_at c.network a) call).entry (MayRule ch h.world.transfers h.world.connection)) → Hears_at a call
        → Acked_at (calling a call failure c) → Tells_at (calling a call failure c) → Comes a (outcome_of (manager_at c.network a) call).entry → Links_at (calling a call failure c)
    calling_linked a call None may heard truly tell come = let m = manager_at c.network a in
        goes_linked i j ch d r.peer c (calling a call None c) a (outcome_of m call).entry (called_goes a call c) (made_only _ m.state (outcome_of m call).entry (calls_are_modest m call).entry) differ h
        (held i) leads truly may (called_doubt ch h.world.transfers h.world.connection a j call None c h.doubt may) (call_waits a call heard) tell come
        (called_awaits d h.world.order_acks h.world.connection a i call None c h.awaits (call_waits a call heard))
    calling_linked a call (Some how) may heard truly tell come =
        goes_linked i j ch d r.peer c (calling a call (Some how) c) a None (failed_goes a call how c) tt differ h (held i) leads truly (λ e. tt)
        (called_doubt ch h.world.transfers h.world.connection a j call (Some how) c h.doubt may) (λ e. tt) tell (λ e. tt)
        (called_awaits d h.world.order_acks h.world.connection a i call (Some how) c h.awaits (call_waits a call heard))

    -- a call of another kind hears no order acknowledgement
    unheard_acks : (a : ℕ) (call : Call) → is_of_packets call ≡ false → Hears_at a call
    unheard_acks a call quiet e now x same = absurd (clash (sym (ap is_of_packets same) ∙ quiet))

    pump_acks : (a now : ℕ) → Hears_at a (Pump now)
    pump_acks a now e at x same = absurd (let none : ⊥ = cc in none)

    -- what hears nothing decides nothing
    unheard_may : (a : ℕ) (call : Call) → is_of_packets call ≡ false → IfSome (outcome_of (manager_at c.network a) call).entry (MayRule ch h.world.transfers h.world.connection)
    unheard_may a call quiet = heard_may ch h.world.transfers h.world.connection None (outcome_of (manager_at c.network a) call).entry
        (subst (λ x. IfSome (outcome_of (manager_at c.network a) call).entry (IsFrom x)) (none_heard call quiet)
        (from_only _ (manager_at c.network a).state (outcome_of (manager_at c.network a) call).entry (calls_are_modest (manager_at c.network a) call).entry))
        (λ p tx e. absurd (none_some e))

    pump_may : (a now : ℕ) → IfSome (outcome_of (manager_at c.network a) (Pump now)).entry (MayRule ch h.world.transfers h.world.connection)
    pump_may a now = heard_may ch h.world.transfers h.world.connection None (outcome_of (manager_at c.network a) (Pump now)).entry
        (from_only _ (manager_at c.network a).state (outcome_of (manager_at c.network a) (Pump now)).entry (calls_are_modest (manager_at c.network a) (Pump now)).entry)
        (λ p tx e. absurd (none_some e))

    -- packets are heard
    hears_linked : (k now : ℕ) (failure : Option Failure) (note : Option Note) (p : Option Packet) → numbered c.network.notes k ≡ note → numbered c.sent k ≡ p
        → may_hear c note p now failure ≡ true → Acked_at (hearing note p now failure c) → Tells_at (hearing note p now failure c) → Links_at (hearing note p now failure c)
    hears_linked k now failure None p e f may truly tell = h
    hears_linked k now failure (Some note) None e f may truly tell = h
    hears_linked k now failure (Some note) (Some x) e f may truly tell = calling_linked note.receiver (Hear now x) failure
        (λ to. heard_may ch h.world.transfers h.world.connection (Some x) (outcome_of (manager_at c.network note.receiver) (Hear now x)).entry
        (from_only _ (manager_at c.network note.receiver).state (outcome_of (manager_at c.network note.receiver) (Hear now x)).entry (calls_are_modest (manager_at c.network note.receiver) (Hear now x)).entry)
        (λ p tx g t inside. heard_transfer known c i j ch d r.peer apart o held carrying.1.carried storage source own_guid refl h k note p tx e (f ∙ g) t
        (split_and (is_underway c.network note) (may_fail (manager_at c.network note.receiver) (Hear now x) failure) may).0 to inside)) heard_acks truly tell
        (some_comes note.receiver (outcome_of (manager_at c.network note.receiver) (Hear now x)).entry (heard_received c k now note x e f))
      where
        heard_acks : Hears_at note.receiver (Hear now x)
        heard_acks to at y same ordinal number g = subst (λ a. MayAck d h.world.order_acks h.world.connection (manager_at c.network a).state.outs ordinal number) (sym to)
            (heard_ack known apart c i j ch d r.peer credible storage own_guid refl decider_is h k note x e f
            (split_and (is_underway c.network note) (may_fail (manager_at c.network note.receiver) (Hear now x) failure) may).0 to ordinal number
            (subst (λ a. IsAckHeard (manager_at c.network a).state.identity.guid x ordinal number) to
            (subst (λ z. IsAckHeard (manager_at c.network note.receiver).state.identity.guid z ordinal number) (sym (heard_same now at x y same)) g)))

    -- a connection begins
    links_linked : (a b window_a window_b : ℕ) → may_change c (Links a b window_a window_b) ≡ true → Links_at (changed (Links a b window_a window_b) c)
    links_linked a b window_a window_b may = begins_linked c i j ch d r.peer a b window_a window_b storage.numbered up differ h free
      where
        tests : (not (any_down c.network a b) ≡ true) × (not (any_connected c.network a b) ≡ true)
        tests = split_and (not (any_down c.network a b)) (not (any_connected c.network a b)) may

        ups : (is_down (manager_at c.network a) ≡ false) × (is_down (manager_at c.network b) ≡ false)
        ups = neither (is_down (manager_at c.network a)) (is_down (manager_at c.network b)) tests.0

        frees : (is_connected c.network a ≡ false) × (is_connected c.network b ≡ false)
        frees = neither (is_connected c.network a) (is_connected c.network b) tests.1

        up : (x : ℕ) → (x ≡ a) ⊎ (x ≡ b) → doubt_of (manager_at c.network x).condition ≡ None
        up x (inl e) = subst (λ n. doubt_of (manager_at c.network n).condition ≡ None) (sym e) (up_doubt (manager_at c.network a).condition ups.0)
        up x (inr e) = subst (λ n. doubt_of (manager_at c.network n).condition ≡ None) (sym e) (up_doubt (manager_at c.network b).condition ups.1)

        no_end : (x : ℕ) → is_connected c.network x ≡ false → (e : Connection) → In e c.network.connections → (y : ℕ) → AreEnds e x y → ⊥
        no_end x none e inside y ends = true_not_false (is_connected c.network x) (in_any (is_end x) c.network.connections e inside (first_end e x y ends)) none

        free : (x : ℕ) → (x ≡ a) ⊎ (x ≡ b) → (e : Connection) → In e c.network.connections → (y : ℕ) → AreEnds e x y → ⊥
        free x (inl e) = no_end x (subst (λ n. is_connected c.network n ≡ false) (sym e) frees.0)
        free x (inr e) = no_end x (subst (λ n. is_connected c.network n ≡ false) (sym e) frees.1)

    -- other changes
    ends_linked : (a : ℕ) → Acked_at (changed (Ends a) c) → Tells_at (changed (Ends a) c) → Links_at (changed (Ends a) c)
    ends_linked a truly tell = goes_linked i j ch d r.peer c (changed (Ends a) c) a None (ends_goes a c) tt differ h (held i) leads truly (λ e. tt)
        (ended_doubt ch h.world.transfers h.world.connection a j c.network h.doubt) (λ e. tt) tell (λ e. tt) (ended_awaits d h.world.order_acks h.world.connection a i c.network h.awaits)

    drops_linked : (k : ℕ) → Acked_at (changed (Drops k) c) → Tells_at (changed (Drops k) c) → Links_at (changed (Drops k) c)
    drops_linked k truly tell = goes_linked i j ch d r.peer c (changed (Drops k) c) 0 None (drops_goes k c) tt differ h (held i) leads truly (λ e. tt) h.doubt (λ e. tt) tell (λ e. tt) h.awaits

    restarts_linked : (a : ℕ) → Acked_at (changed (Restarts a) c) → Tells_at (changed (Restarts a) c) → Links_at (changed (Restarts a) c)
    restarts_linked a truly tell = goes_linked i j ch d r.peer c (changed (Restarts a) c) a None (restarts_goes a c) tt differ h (held i) leads truly (λ e. tt)
        (started_doubt ch h.world.transfers h.world.connection a j c.network (restarted (manager_at c.network a) false) h.doubt (λ e. tt)) (λ e. tt) tell (λ e. tt)
        (started_awaits d h.world.order_acks h.world.connection a i c.network (restarted (manager_at c.network a) false) h.awaits (λ e. tt))

    at_doubt : (a : ℕ) → a ≡ j → IfSome (doubt_of (manager_at c.network a).condition) (MayRule ch h.world.transfers h.world.connection)
    at_doubt a e = subst (λ n. IfSome (doubt_of (manager_at c.network n).condition) (MayRule ch h.world.transfers h.world.connection)) (sym e) h.doubt

    at_waits : (a : ℕ) → a ≡ i → IfSome (doubt_of (manager_at c.network a).condition) (Awaits d h.world.order_acks h.world.connection (manager_at c.network a).state.outs)
    at_waits a e = subst (λ n. AwaitsIn d h.world.order_acks h.world.connection (manager_at c.network n)) (sym e) h.awaits

    fails_linked : (a : ℕ) → Acked_at (changed (Fails a) c) → Tells_at (changed (Fails a) c) → Links_at (changed (Fails a) c)
    fails_linked a truly tell = goes_linked i j ch d r.peer c (changed (Fails a) c) a None (fails_goes a c) tt differ h (held i) leads truly (λ e. tt)
        (started_doubt ch h.world.transfers h.world.connection a j c.network (unread (manager_at c.network a)) h.doubt (at_doubt a)) (λ e. tt) tell (λ e. tt)
        (started_awaits d h.world.order_acks h.world.connection a i c.network (unread (manager_at c.network a)) h.awaits (at_waits a))

    finds_linked : (a : ℕ) → Acked_at (changed (Finds a) c) → Tells_at (changed (Finds a) c) → Links_at (changed (Finds a) c)
    finds_linked a truly tell = goes_linked i j ch d r.peer c (changed (Finds a) c) a (doubt_of (manager_at c.network a).condition) (finds_goes a c) (o.doubts a) differ h (held i) leads truly (at_doubt a)
        (started_doubt ch h.world.transfers h.world.connection a j c.network (restarted (manager_at c.network a) true) h.doubt (λ e. tt)) (at_waits a) tell
        (some_comes a (doubt_of (manager_at c.network a).condition) (received.doubts a))
        (started_awaits d h.world.order_acks h.world.connection a i c.network (restarted (manager_at c.network a) true) h.awaits (λ e. tt))

    -- a pump
    module _ (a now : ℕ) (failure : Option Failure) where
      abbrev m : Manager
      m = manager_at c.network a

      abbrev called_first : Course
      called_first = calling a (Pump now) failure c

      abbrev zs : List Packet
      zs = given_out (outcome_of m (Pump now)) failure

      -- what is sent changes no manager
      with_managers : (Q : List Manager → Type 0) → Q (changed (Pumps a now failure) c).network.managers → Q called_first.network.managers
      with_managers Q = subst Q (noted_managers a now (length zs) called_first.network)

      row_leads : (p : UserPacket) (tx : TxHead) (g : IsOfRow m.state (outcome_of m (Pump now)).entry now p tx) → p.message.destination ≡ d → g.row.destination ≡ d
      row_leads p tx g to = sym (ap (λ (x : Row). x.destination) one) ∙ place.3 ∙ ap (λ (x : Message). x.destination) (sym g.message) ∙ to
        where
          place : HasRow m.state.outs (kept_at g.row g.kept)
          place = all_in (HasRow m.state.outs) (commitments (written_of a c.written)) (kept_at g.row g.kept) (held a).0.0.0.1
              ((all_in (IsCounted (commitments (written_of a c.written))) m.state.outs g.row (held a).0.0.0.0.0.rows g.there).kept g.kept g.inside)

          one : place.0 ≡ g.row
          one = one_row m.state.outs place.0 g.row (held a).0.0.0.0.0.rise place.1 g.there (ap (λ (q : SequenceId). q.ordinal) place.2)

      pumps_linked : Acked_at (changed (Pumps a now failure) c) → AreMarked (manager_at (changed (Pumps a now failure) c).network i).state (written_of i called_first.written)
          → AreTelling (manager_at (changed (Pumps a now failure) c).network j).state (written_of j called_first.written) → Tells_at (changed (Pumps a now failure) c) → Links_at (changed (Pumps a now failure) c)
      pumps_linked truly held_now telling_now tell = posted_linked called_first i j ch d r.peer a now zs (calling_noted a (Pump now) failure c o.noted) differ first (can failure first held_first)
          (tells failure first telling_first)
        where
          acked_first : Acked_at called_first
          acked_first = with_managers (λ ms. (row : Row) → In row (unwrap_or (slice_get ms i) nobody).state.outs → row.destination ≡ d → row.peer ≡ r.peer
              → (row.acked ≡ 0) ⊎ In (record { sequence = row.sequence; number = row.acked }) (decisions ch (written_of j called_first.written))) truly

          held_first : AreMarked (manager_at called_first.network i).state (written_of i called_first.written)
          held_first = with_managers (λ ms. AreMarked (unwrap_or (slice_get ms i) nobody).state (written_of i called_first.written)) held_now

          telling_first : AreTelling (manager_at called_first.network j).state (written_of j called_first.written)
          telling_first = with_managers (λ ms. AreTelling (unwrap_or (slice_get ms j) nobody).state (written_of j called_first.written)) telling_now

          tell_first : Tells_at called_first
          tell_first k note p e f = tell k note p (pumped_notes c a now failure k note e) (pumped_sent c a now failure k (packet.User p) f)

          first : Links_at called_first
          first = calling_linked a (Pump now) failure (λ e. pump_may a now) (pump_acks a now) acked_first tell_first (some_comes a (outcome_of m (Pump now)).entry (pump_received c a now))

          can : (f : Option Failure) → (g : Links_at (calling a (Pump now) f c)) → AreMarked (manager_at (calling a (Pump now) f c).network i).state (written_of i (calling a (Pump now) f c).written)
              → a ≡ i → (p : UserPacket) (tx : TxHead) → IsOfChannel d (given_out (outcome_of m (Pump now)) f) p tx → CanSend g.world now p tx
          can (Some how) g marked same p tx x = absurd x.0
          can None g marked same p tx x = let q = packet_of_row m now (packet.User p) p tx (held a).0.0.0.0.0.rise x.0 refl x.1 in
              row_can_send d r.peer ch g.world m.state (manager_at (calling a (Pump now) None c).network i).state (written_of i (calling a (Pump now) None c).written)
              (outcome_of m (Pump now)).entry now marked.0.0 g.connected
              (record { world = g.world; reached = g.reached; same = same_elsewhere g.world; rows = g.rows; committed = g.committed; expired = g.expired })
              (held a).0.0.0.0.0.rise (made_only _ m.state (outcome_of m (Pump now)).entry (calls_are_modest m (Pump now)).entry) (pump_marks m now)
              (subst (λ n. (manager_at (calling a (Pump now) None c).network n).state.outs ≡ (recorded m.state (outcome_of m (Pump now)).entry).outs) same (called_goes a (Pump now) c).own.outs)
              p tx q (row_leads p tx q x.2)

          tells : (f : Option Failure) → (g : Links_at (calling a (Pump now) f c)) → AreTelling (manager_at (calling a (Pump now) f c).network j).state (written_of j (calling a (Pump now) f c).written)
              → a ≡ j → (p : UserPacket) → In (packet.User p) (given_out (outcome_of m (Pump now)) f) → p.tx ≡ None → is_order_ack p.message ≡ true
              → Tells ch (written_of j (calling a (Pump now) f c).written) g.world.decided p
          tells (Some how) g telling same p inside t is = absurd inside
          tells None g telling same p inside t is = row_tells ch (manager_at (calling a (Pump now) None c).network j).state m.state (written_of j (calling a (Pump now) None c).written) g.world.decided p
              telling g.decided
              (subst (λ n. (manager_at (calling a (Pump now) None c).network n).state.ins ≡ m.state.ins) same
              ((called_goes a (Pump now) c).own.ins ∙ marks_ins m.state (outcome_of m (Pump now)).entry (pump_marks m now)))
              (spells a now p inside t is)

  -- every change
  pub change_linked : (x : Change) → may_change c x ≡ true → Acked_at (changed x c) → ((a : ℕ) → AreMarked (manager_at (changed x c).network a).state (written_of a (changed x c).written))
      → ((a : ℕ) → AreTelling (manager_at (changed x c).network a).state (written_of a (changed x c).written)) → Tells_at (changed x c) → Links_at c → Links_at (changed x c)
  change_linked (Calls a call failure) may truly held_now telling_now tell h = let quiet = not_true (is_of_packets call) (split_and (not (is_of_packets call)) (may_fail (manager_at c.network a) call failure) may).0 in
      calling_linked h a call failure (λ e. unheard_may h a call quiet) (unheard_acks h a call quiet) truly tell
      (some_comes a (outcome_of (manager_at c.network a) call).entry (unheard_received c a call quiet))
  change_linked (Pumps a now failure) may truly held_now telling_now tell h = pumps_linked h a now failure truly (held_now i) (telling_now j) tell
  change_linked (Hears k now failure) may truly held_now telling_now tell h = hears_linked h k now failure (numbered c.network.notes k) (numbered c.sent k) refl refl may truly tell
  change_linked (Links a b window_a window_b) may truly held_now telling_now tell h = links_linked h a b window_a window_b may
  change_linked (Ends a) may truly held_now telling_now tell h = ends_linked h a truly tell
  change_linked (Drops k) may truly held_now telling_now tell h = drops_linked h k truly tell
  change_linked (Restarts a) may truly held_now telling_now tell h = restarts_linked h a truly tell
  change_linked (Finds a) may truly held_now telling_now tell h = finds_linked h a truly tell
  change_linked (Fails a) may truly held_now telling_now tell h = fails_linked h a truly tell
