-- What a manager hears of what was decided it may believe: its packets are its peer's, and its rows are of what it committed.
use Rattle.std.proofs.Common.{refl, ap, sym, subst, ◌∙◌, arith, inl, inr}
use Rattle.std.specs.List.{list_any}
use Rattle.std.specs.Option.{option_map_or}
use Rattle.std.specs.Prelude.{◌&&◌, ◌+◌, ◌<◌, ◌==◌, ◌^◌, ◌≡◌, ◌≤◌, ◌⊎◌, Bool, IfSome, List, None, Option, Some, cond, false, length, option_and_then, slice_get, true, unwrap_or, ℕ}
use Rattle.mqb_base.specs.Same.{same_guid, same_id, same_name}
use Rattle.mqb_base.specs.Sequences.{same_sequence}
use Rattle.mqb_base.specs.declared.class.TheConstants.Class.{NORMAL, ORDER_ACKNOWLEDGEMENT}
use Rattle.mqb_base.specs.declared.heads.TxHead.{TxHead}
use Rattle.mqb_base.specs.declared.ids.Guid.{Guid}
use Rattle.mqb_base.specs.declared.ids.Identity.{Identity}
use Rattle.mqb_base.specs.declared.ids.MessageId.{MessageId}
use Rattle.mqb_base.specs.declared.ids.SequenceId.{SequenceId}
use Rattle.mqb_base.specs.declared.message.Delivery.{Delivery}
use Rattle.mqb_base.specs.declared.message.Delivery.TheVariants as delivery
use Rattle.mqb_base.specs.declared.message.Message.{Message}
use Rattle.mqb_base.specs.declared.queue_names.QueueName.{QueueName}
use Rattle.mqb_exactly_once.proofs.Positions.{same_sequence_is}
use Rattle.mqb_exactly_once.specs.Words.{In, position_of}
use Rattle.mqb_exactly_once.specs.World.{Channel, Commitment, Position}
use Rattle.mqb_fate.specs.Orders.{ack_body, acked_by, is_final_class}
use Rattle.mqb_fate.specs.declared.orders.OrderAck.{OrderAck}
use Rattle.mqb_orders.specs.Rows.{Row}
use Rattle.mqb_orders.specs.declared.kept.Kept.{Kept}
use Rattle.mqb_packet.specs.declared.packet.UserPacket.{UserPacket}
use Rattle.mqb_session.specs.State as one_end
use Rattle.mqb_model.specs.calls.hear.Streams.{acknowledged_in, may_acknowledge, raises}
use Rattle.mqb_model.specs.declared.limits.TheConstants.{MAX_NUMBER}
use Rattle.mqb_model.specs.declared.target.Target.TheVariants.{AtPeer}
use Rattle.mqb_model.specs.managers.Manager.{Manager, linked_peer}
use Rattle.mqb_model.specs.records.Arrived.{raises_ack}
use Rattle.mqb_model.specs.records.Finals.{is_final}
use Rattle.mqb_model.specs.records.Packets.{is_recoverable}
use Rattle.mqb_model.specs.records.Record as entry
use Rattle.mqb_model.specs.state.Places.{is_express}
use Rattle.mqb_model.specs.state.Resolving.{is_for_order_layer, peer_known, resolved}
use Rattle.mqb_model.specs.state.State.{State}
use Rattle.mqb_network.specs.Courses.{Course, Written}
use Rattle.mqb_network.specs.Laws.{AreApart}
use Rattle.mqb_network.specs.Network.{manager_at, nobody}
use Rattle.mqb_history.specs.Acked.{IsDecidedThere, LeadsTo, SpellsDecided}
use Rattle.mqb_history.specs.Carried.{AreDecidedTruly, ComesFromItsSource}
use Rattle.mqb_history.specs.Committed.{commitments}
use Rattle.mqb_history.specs.Decided.{decisions, written_of}
use Rattle.mqb_history.specs.Orderly.{IsItself, IsOrderly}
use Rattle.mqb_history.proofs.Begun.{AreRolling}
use Rattle.mqb_history.proofs.Between.{in_any}
use Rattle.mqb_history.proofs.Bounded.{AreBounded, small_number}
use Rattle.mqb_history.proofs.Committing.{IsCounted, all_in, kept_at}
use Rattle.mqb_history.proofs.Due.{one_row}
use Rattle.mqb_history.proofs.Fresh.{AreTold}
use Rattle.mqb_history.proofs.Heeding.{IsHeardTruly, IsMeant}
use Rattle.mqb_history.proofs.Knowing.{not_own_peer}
use Rattle.mqb_history.proofs.Later.{DecideIt, IsNote, IsTold, Known, Unused, Vacant}
use Rattle.mqb_history.proofs.Lists.{clash, equal_numbers, get_in, get_within, none_some, split_and, true_not_false}
use Rattle.mqb_history.proofs.Marked.{AreMarked}
use Rattle.mqb_history.proofs.Names.{same_guid_is, same_name_is}
use Rattle.mqb_history.proofs.Naming.{KeepsOwn, Knows}
use Rattle.mqb_history.proofs.Outside.{filtered_in}
use Rattle.mqb_history.proofs.Rows.{HasRow}
use Rattle.mqb_history.proofs.Skipping.{Decides, sourced}
use Rattle.mqb_history.proofs.Believing.{Reads, decides_in, position_there, resolved_there, same_committed, same_id_is, spelled_reads}
use Rattle.mqb_history.proofs.Undecided.{IsKnown, committed_one, in_decisions, known_one, one_manager}

-- What holds of each course.
pub record IsSound (known : List Identity) (c : Course) : Type 0 where
  pub orderly : IsOrderly known c
  pub marked : (i : ℕ) → AreMarked (manager_at c.network i).state (written_of i c.written)
  pub rolling : (i : ℕ) → AreRolling (manager_at c.network i).state (written_of i c.written)
  pub told : (i : ℕ) → AreTold (manager_at c.network i).state (written_of i c.written)
  pub truly : AreDecidedTruly c
  pub bounded : (i : ℕ) → AreBounded (manager_at c.network i).state (written_of i c.written)

module _ (known : List Identity) (apart : AreApart known) (c : Course) (h : IsSound known c) where
  abbrev state_at : ℕ → State
  state_at i = (manager_at c.network i).state

  abbrev committed_by : ℕ → List Commitment
  committed_by i = commitments (written_of i c.written)

  -- a manager that has a row is one of those that are known
  pub row_known : (i : ℕ) (row : Row) → In row (state_at i).outs → IsKnown known c i
  row_known i row inside = at (slice_get c.network.managers i) refl
    where
      at : (x : Option Manager) → slice_get c.network.managers i ≡ x → IsKnown known c i
      at None e = absurd (subst (λ (y : Option Manager). In row (unwrap_or y nobody).state.outs) e inside)
      at (Some x) e = known_one known c i x h.orderly e

  -- what is decided of a manager's channel is of what it committed
  pub record IsItsOwn (i : ℕ) (p : UserPacket) (tx : TxHead) : Type 0 where
    pub commitment : Commitment
    pub there : In commitment (committed_by i)
    pub position : commitment.position ≡ position_of tx
    pub id : p.message.id ≡ commitment.message.id
    pub destination : p.message.destination ≡ commitment.message.destination

  pub own_decided : (i j : ℕ) (row : Row) (w : Written) (now : ℕ) (numbers : List ℕ) (p : UserPacket) (tx : TxHead) → In row (state_at i).outs → In w (written_of j c.written)
      → w.entry ≡ entry.Arrived now numbers (entry.Decided p) → p.tx ≡ Some tx → p.message.id.qm ≡ (state_at i).identity.guid → IsItsOwn i p tx
  own_decided i j row w now numbers p tx inside there e t qm = record {
    commitment = source.committed.commitment;
    there = subst (λ k. In source.committed.commitment (committed_by k)) same source.committed.there;
    position = source.committed.position;
    id = ap (λ (m : Message). m.id) source.committed.message;
    destination = ap (λ (m : Message). m.destination) source.committed.message;
  }
    where
      source : ComesFromItsSource c c.written p tx
      source = sourced c h.truly w (filtered_in (λ (x : Written). x.by == j) c.written w there) now numbers p tx e t

      same : source.source ≡ i
      same = one_manager known c source.source i apart
          (committed_one known c source.source source.committed.commitment h.orderly (h.marked source.source).0.0.0 source.committed.there) (row_known i row inside) (source.own ∙ qm)

  -- the row of a commitment
  pub row_of : (i : ℕ) (m : Commitment) → In m (committed_by i) → HasRow (state_at i).outs m
  row_of i m inside = all_in (HasRow (state_at i).outs) (committed_by i) m (h.marked i).0.0.0.1 inside

  pub only_row : (i : ℕ) (a b : Row) → In a (state_at i).outs → In b (state_at i).outs → a.sequence.ordinal ≡ b.sequence.ordinal → a ≡ b
  only_row i a b x y same = one_row (state_at i).outs a b (h.marked i).0.0.0.0.0.rise x y same

  -- a peer that is known by its identifier leads to its manager
  leads_known : (i j peer : ℕ) (row : Row) (g : Guid) → peer_known (state_at i) g ≡ Some peer → row.peer ≡ peer → g ≡ (state_at j).identity.guid → LeadsTo c i row j
  leads_known i j peer row g e same is = let found = position_there (λ (p : Identity). same_guid p.guid g) (state_at i).peers peer e in record {
    peer = found.0;
    there = ap (slice_get (state_at i).peers) same ∙ found.1;
    is = sym is ∙ sym (same_guid_is found.0.guid g found.2);
  }

  -- What a manager acknowledges of a row of another one: it decided what that committed there.
  pub record IsAckOf (i j : ℕ) (row : Row) (to : Guid) (destination : QueueName) (position : Position) (number : ℕ) : Type 0 where
    pub commitment : Commitment
    pub there : In commitment (committed_by i)
    pub committed : commitment.position ≡ position
    pub leads : commitment.message.destination ≡ row.destination
    pub place : position ≡ record { sequence = row.sequence; number = number }
    pub channel : ◌≡◌ {A = Channel} (record { source = to; destination = destination }) (record { source = (state_at i).identity.guid; destination = row.destination })

  pub ack_of : (i j : ℕ) (row : Row) (to : Guid) (body : List ℕ) (destination : QueueName) (position : Position) (ack : OrderAck) → to ≡ (state_at i).identity.guid
      → (state_at i).next_number ≤ MAX_NUMBER + 1 → In row (state_at i).outs → body ≡ ack_body (record { sequence = position.sequence; number = position.number }) → acked_by body ≡ Some ack
      → In position (decisions (record { source = to; destination = destination }) (written_of j c.written)) → row.sequence.ordinal ≡ ack.sequence.ordinal → IsAckOf i j row to destination position ack.number
  ack_of i j row to body destination position ack to_this bounded inside spelled read decided ordinal = record {
    commitment = own.commitment;
    there = own.there;
    committed = own.position ∙ found.2.position;
    leads = sym kept_in.3 ∙ ap (λ (x : Row). x.destination) same_row;
    place = ap (λ q. record { sequence = q; number = position.number }) sequence ∙ ap (λ n. record { sequence = row.sequence; number = n }) (sym (reads.number low_number));
    channel = ap (λ g. record { source = g; destination = destination }) to_this
        ∙ ap (λ d. record { source = (state_at i).identity.guid; destination = d })
        (sym (same_name_is found.2.packet.message.destination destination inside_channel.1) ∙ own.destination ∙ sym kept_in.3 ∙ ap (λ (x : Row). x.destination) same_row);
  }
    where
      reads : Reads position ack
      reads = spelled_reads body position ack spelled read

      found : (w : Written) × In w (written_of j c.written) × Decides (record { source = to; destination = destination }) w.entry position
      found = in_decisions (record { source = to; destination = destination }) position (written_of j c.written) decided

      inside_channel : (same_guid found.2.packet.message.id.qm to ≡ true) × (same_name found.2.packet.message.destination destination ≡ true)
      inside_channel = split_and (same_guid found.2.packet.message.id.qm to) (same_name found.2.packet.message.destination destination) found.2.inside

      own : IsItsOwn i found.2.packet found.2.head
      own = own_decided i j row found.0 found.2.now found.2.numbers found.2.packet found.2.head inside found.1 found.2.entry found.2.there
          (same_guid_is found.2.packet.message.id.qm to inside_channel.0 ∙ to_this)

      bound : position.sequence.ordinal < 256 ^ 4
      bound = let low = all_in (λ (x : Commitment). x.position.sequence.ordinal < (state_at i).next_ordinal) (committed_by i) own.commitment (h.marked i).0.0.0.0.0.given own.there in
          let few = (h.told i).few in let same = ap (λ (q : Position). q.sequence.ordinal) (own.position ∙ found.2.position) in small (omega (arith, low, few, bounded, same))
        where
          small : position.sequence.ordinal < MAX_NUMBER + 1 → position.sequence.ordinal < 256 ^ 4
          small less = omega (arith, less)

      low_number : position.number < 256 ^ 4
      low_number = let low = small_number (state_at i) (written_of i c.written) own.commitment (h.bounded i) own.there in
          let same = ap (λ (q : Position). q.number) (own.position ∙ found.2.position) in small (omega (arith, low, same))
        where
          small : position.number < MAX_NUMBER + 1 → position.number < 256 ^ 4
          small less = omega (arith, less)

      kept_in : HasRow (state_at i).outs own.commitment
      kept_in = row_of i own.commitment own.there

      same_row : kept_in.0 ≡ row
      same_row = only_row i kept_in.0 row kept_in.1 inside (ap (λ (q : SequenceId). q.ordinal) (kept_in.2 ∙ ap (λ (q : Position). q.sequence) (own.position ∙ found.2.position))
          ∙ sym (reads.ordinal bound) ∙ sym ordinal)

      sequence : position.sequence ≡ row.sequence
      sequence = sym (ap (λ (q : Position). q.sequence) (own.position ∙ found.2.position)) ∙ sym kept_in.2 ∙ ap (λ (x : Row). x.sequence) same_row

  -- Order acknowledgements.

  module _ (i j : ℕ) (before : one_end.State) (p : UserPacket) (told : IsTold known c j p) (meant : IsMeant (state_at i) before p)
      (knows : Knows (state_at i).identity.guid (Known known c i) (Vacant c i) (state_at i)) where
    to_this : p.to ≡ (state_at i).identity.guid
    to_this = same_guid_is p.to (state_at i).identity.guid meant.to

    -- the peer is the one whose identifier the message bears
    peer_borne : linked_peer (state_at i) before ≡ unwrap_or (peer_known (state_at i) p.message.id.qm) (length (state_at i).peers)
    peer_borne = at before.peer meant.from
      where
        at : (o : Option Guid) → option_map_or (same_guid p.message.id.qm) o false ≡ true
            → unwrap_or (option_and_then (peer_known (state_at i)) o) (length (state_at i).peers) ≡ unwrap_or (peer_known (state_at i) p.message.id.qm) (length (state_at i).peers)
        at None e = absurd (clash (sym e))
        at (Some g) e = ap (λ x. unwrap_or (peer_known (state_at i) x) (length (state_at i).peers)) (sym (same_guid_is p.message.id.qm g e))

    -- and a row to it leads to the sender
    row_leads : (row : Row) → In row (state_at i).outs → row.peer ≡ linked_peer (state_at i) before → p.message.id.qm ≡ (state_at j).identity.guid → LeadsTo c i row j
    row_leads row inside same source = at (peer_known (state_at i) p.message.id.qm) refl (same ∙ peer_borne)
      where
        there : (peer : Identity) × (slice_get (state_at i).peers row.peer ≡ Some peer)
        there = resolved_there (state_at i) row.destination row.peer (all_in (λ (x : Row). resolved (state_at i) x.destination ≡ AtPeer x.peer) (state_at i).outs row (h.rolling i).led inside)

        at : (o : Option ℕ) → peer_known (state_at i) p.message.id.qm ≡ o → row.peer ≡ unwrap_or o (length (state_at i).peers) → LeadsTo c i row j
        at None e f = let low = get_within (state_at i).peers row.peer there.0 there.1 in absurd (omega (arith, low, f))
        at (Some peer) e f = leads_known i j peer row p.message.id.qm e f source

    acks_order : (ack : OrderAck) → acknowledged_in (state_at i) p.message ≡ Some ack → (is_express p.message.delivery && p.message.class.0 == ORDER_ACKNOWLEDGEMENT.0 ≡ true) × (acked_by p.message.body ≡ Some ack)
    acks_order ack e = at (may_acknowledge (state_at i) p.message) refl e
      where
        at : (b : Bool) → may_acknowledge (state_at i) p.message ≡ b → cond b (acked_by p.message.body) None ≡ Some ack
            → (is_express p.message.delivery && p.message.class.0 == ORDER_ACKNOWLEDGEMENT.0 ≡ true) × (acked_by p.message.body ≡ Some ack)
        at true f g = ((split_and (is_express p.message.delivery && p.message.class.0 == ORDER_ACKNOWLEDGEMENT.0) (is_for_order_layer (state_at i) p.message.destination) f).0, g)
        at false f g = absurd (none_some g)

    acked : (ack : OrderAck) → acknowledged_in (state_at i) p.message ≡ Some ack → (raised row : Row) → In raised (state_at i).outs → raises (linked_peer (state_at i) before) ack raised ≡ true
        → In row (state_at i).outs → row.sequence.ordinal ≡ ack.sequence.ordinal → IsDecidedThere c i row ack.number
    acked ack e raised row there raises_it inside ordinal = record {
      decider = j;
      leads = row_leads row inside (sym (ap (λ (x : Row). x.peer) one) ∙ to_peer) spells.source;
      decided = subst (λ (q : Position). In q (decisions (record { source = (state_at i).identity.guid; destination = row.destination }) (written_of j c.written))) of.place
          (subst (λ (ch : Channel). In spells.position (decisions ch (written_of j c.written))) of.channel spells.decided);
    }
      where
        tests : (is_express p.message.delivery && p.message.class.0 == ORDER_ACKNOWLEDGEMENT.0 ≡ true) × (acked_by p.message.body ≡ Some ack)
        tests = acks_order ack e

        spells : SpellsDecided c j p
        spells = told.order tests.0

        of : IsAckOf i j row p.to spells.destination spells.position ack.number
        of = ack_of i j row p.to p.message.body spells.destination spells.position ack to_this knows.bounded inside spells.spelled tests.1 spells.decided ordinal

        parts : ((raised.peer == linked_peer (state_at i) before) ≡ true) × (same_sequence raised.sequence ack.sequence ≡ true)
        parts = split_and (raised.peer == linked_peer (state_at i) before) (same_sequence raised.sequence ack.sequence)
            (split_and (raised.peer == linked_peer (state_at i) before && same_sequence raised.sequence ack.sequence) (raises_ack ack.number raised) raises_it).0

        to_peer : raised.peer ≡ linked_peer (state_at i) before
        to_peer = equal_numbers raised.peer (linked_peer (state_at i) before) parts.0

        one : raised ≡ row
        one = only_row i raised row there inside (ap (λ (q : SequenceId). q.ordinal) (same_sequence_is raised.sequence ack.sequence parts.1) ∙ sym ordinal)

    -- Final acknowledgements.

    final_tests : is_final (state_at i) p.message ≡ true → (is_express p.message.delivery ≡ false) × (is_final_class p.message.class ≡ true)
    final_tests e = let all = split_and (is_recoverable p.message.delivery && is_final_class p.message.class) (is_for_order_layer (state_at i) p.message.destination) e in
        let both = split_and (is_recoverable p.message.delivery) (is_final_class p.message.class) all.0 in (at p.message.delivery both.0, both.1)
      where
        at : (x : Delivery) → is_recoverable x ≡ true → is_express x ≡ false
        at delivery.Express f = absurd (clash (sym f))
        at delivery.Recoverable f = refl
        at delivery.Transactional f = refl

    -- an ordinary message is no final acknowledgement
    not_ordinary : p.message.class.0 ≡ NORMAL.0 → is_final_class p.message.class ≡ true → ⊥
    not_ordinary e f = clash (sym (subst (λ n. is_final_class (record { 0 = n }) ≡ true) e f))

    finished : is_final (state_at i) p.message ≡ true → (k : Kept) (row : Row) → In row (state_at i).outs → peer_known (state_at i) p.message.id.qm ≡ Some row.peer → In k row.kept
        → same_id k.message.id p.message.correlation ≡ true → IsDecidedThere c i row k.number
    finished final k row inside peer kept named = by note.about
      where
        tests : (is_express p.message.delivery ≡ false) × (is_final_class p.message.class ≡ true)
        tests = final_tests final

        note : IsNote known c j p
        note = told.plain tests.0

        same : k.message.id ≡ p.message.correlation
        same = same_id_is k.message.id p.message.correlation named

        mine : k.message.id.qm ≡ (state_at i).identity.guid
        mine = all_in (KeepsOwn (state_at i).identity.guid) (state_at i).outs row knows.rows inside k kept

        committed : In (kept_at row k) (committed_by i)
        committed = (all_in (IsCounted (committed_by i)) (state_at i).outs row (h.marked i).0.0.0.0.0.rows inside).kept k kept

        place : HasRow (state_at i).outs (kept_at row k)
        place = row_of i (kept_at row k) committed

        destination : row.destination ≡ k.message.destination
        destination = sym (ap (λ (x : Row). x.destination) (only_row i place.0 row place.1 inside (ap (λ (q : SequenceId). q.ordinal) place.2))) ∙ place.3

        is_known : IsKnown known c i
        is_known = row_known i row inside

        -- none is its own peer
        not_itself : (state_at j).identity.guid ≡ (state_at i).identity.guid → ⊥
        not_itself e = true_not_false (list_any (λ (x : Identity). same_guid x.guid (state_at i).identity.guid) (state_at i).peers)
            (in_any (λ (x : Identity). same_guid x.guid (state_at i).identity.guid) (state_at i).peers found.0 (get_in (state_at i).peers row.peer found.0 found.1)
            (subst (λ g. same_guid found.0.guid g ≡ true) (note.source ∙ e) found.2)) none
          where
            found : (x : Identity) × (slice_get (state_at i).peers row.peer ≡ Some x) × (same_guid x.guid p.message.id.qm ≡ true)
            found = position_there (λ (x : Identity). same_guid x.guid p.message.id.qm) (state_at i).peers row.peer peer

            itself : IsItself known is_known.own (state_at i)
            itself = subst (λ (o : Option Identity). IfSome o (λ own. IsItself known own (state_at i))) is_known.there (h.orderly.themselves i)

            none : list_any (λ (x : Identity). same_guid x.guid (state_at i).identity.guid) (state_at i).peers ≡ false
            none = subst (λ (own : Identity). list_any (λ (x : Identity). same_guid x.guid own.guid) (state_at i).peers ≡ false) (sym itself.identity)
                (subst (λ (ps : List Identity). list_any (λ (x : Identity). same_guid x.guid is_known.own.guid) ps ≡ false) (sym itself.peers) (not_own_peer is_known.own.guid known))

        decided : DecideIt (written_of j c.written) p.message.correlation → IsDecidedThere c i row k.number
        decided d = record {
          decider = j;
          leads = leads_known i j row.peer row p.message.id.qm peer refl note.source;
          decided = subst (λ (ch : Channel). In {A = Position} (record { sequence = row.sequence; number = k.number }) (decisions ch (written_of j c.written))) channel
              (subst (λ (q : Position). In q (decisions (record { source = d.packet.message.id.qm; destination = d.packet.message.destination }) (written_of j c.written)))
              (sym own.position ∙ ap (λ (x : Commitment). x.position) one) (decides_in (written_of j c.written) d.written d.now d.numbers d.packet d.head d.there d.entry d.tx));
        }
          where
            qm : d.packet.message.id.qm ≡ (state_at i).identity.guid
            qm = ap (λ (x : MessageId). x.qm) (d.names ∙ sym same) ∙ mine

            own : IsItsOwn i d.packet d.head
            own = own_decided i j row d.written d.now d.numbers d.packet d.head inside d.there d.entry d.tx qm

            one : own.commitment ≡ kept_at row k
            one = same_committed (committed_by i) own.commitment (kept_at row k) (h.marked i).0.0.0.0.0.differ own.there committed (sym own.id ∙ d.names ∙ sym same)

            channel : ◌≡◌ {A = Channel} (record { source = d.packet.message.id.qm; destination = d.packet.message.destination }) (record { source = (state_at i).identity.guid; destination = row.destination })
            channel = ap (λ g. record { source = g; destination = d.packet.message.destination }) qm
                ∙ ap (λ x. record { source = (state_at i).identity.guid; destination = x }) (own.destination ∙ ap (λ (x : Commitment). x.message.destination) one ∙ sym destination)

        unused : Unused known c p.message.correlation → ⊥
        unused u = (u i (get_within known i is_known.own is_known.there) (sym mine ∙ ap (λ (x : MessageId). x.qm) same)).uncommitted (kept_at row k) committed (ap (λ (x : MessageId). x.number) same)

        by : ((p.message.class.0 == NORMAL.0) ≡ true) ⊎ Known known c j p.message.correlation → IsDecidedThere c i row k.number
        by (inl e) = absurd (not_ordinary (equal_numbers p.message.class.0 NORMAL.0 e) tests.1)
        by (inr (inl e)) = absurd (not_itself (sym e ∙ ap (λ (x : MessageId). x.qm) (sym same) ∙ mine))
        by (inr (inr (inl d))) = decided d
        by (inr (inr (inr u))) = absurd (unused u)

    pub heard_truly : IsHeardTruly known c i (state_at i) (linked_peer (state_at i) before) p
    heard_truly = record { stored = λ e. (told.plain e).unused; acked = acked; finished = finished }
