-- What an order acknowledgement leaves of the end that hears it: more of a row is acknowledged.
use Rattle.std.proofs.Common.{◌≡◌, ℕ, zero, suc, ◌≤◌, ◌<◌, ◌==◌, ◌&&◌, ◌||◌, Bool, true, false, cond, nat_le, nat_lt, List, [], ◌∷◌, ◌^◌, Some, None, drop, refl, sym, ap, subst, ◌∙◌, arith}
use Rattle.std.proofs.lemmas.Bool.{and_from, lt-ltb, ltb-true}
use Rattle.std.proofs.lemmas.Bool.Decides.{nat_tests}
use Rattle.std.proofs.lemmas.List.Elements.{recursion_from_All}
use Rattle.std.specs.List.{list_any}
use Rattle.std.specs.Option.{option_map_or}
use Rattle.std.specs.Prelude.{codes, length, map, option_map, position, slice_get}
use Rattle.byteorder.specs.Endian.{little_bytes, little_number}
use Rattle.byteorder.specs.Numbers.{little_number-reads_back}
use Rattle.std.specs.Char.{to_ascii_lowercase}
use Rattle.mqb_base.specs.Same.{same_bytes, same_guid, same_ignoring_case}
use Rattle.mqb_base.specs.Sequences.{same_sequence}
use Rattle.mqb_base.specs.declared.heard.Heard.TheVariants as answer
use Rattle.mqb_base.specs.declared.ids.Identity.{Identity}
use Rattle.mqb_fate.specs.Orders.{ack_body, acked_by, is_order_name}
use Rattle.mqb_fate.specs.declared.orders.OrderAck.{OrderAck}
use Rattle.mqb_exactly_once.proofs.Members.{any_from_In}
use Rattle.mqb_exactly_once.proofs.Positions.{same_sequence_refl}
use Rattle.mqb_exactly_once.specs.Words.{In}
use Rattle.mqb_law_progress.proofs.Answering.{each_is_in_order}
use Rattle.mqb_law_progress.proofs.Falling.{acknowledging_falls}
use Rattle.mqb_law_progress.specs.Steps.{AreInStep}
use Rattle.mqb_model.specs.Lists.{with_changed, with_first_changed}
use Rattle.mqb_model.specs.calls.hear.Hear.{hear, listening}
use Rattle.mqb_model.specs.calls.hear.Plain.{hear_message}
use Rattle.mqb_model.specs.calls.hear.Session.{heard_as, peer_heard, with_session}
use Rattle.mqb_model.specs.calls.hear.Streams.{hear_order_ack, order_acked, raises}
use Rattle.mqb_model.specs.calls.pump.Candidates.{ack_of}
use Rattle.mqb_model.specs.calls.pump.Pump.{carriage_for}
use Rattle.mqb_model.specs.declared.target.Target.TheVariants.{Here}
use Rattle.mqb_model.specs.managers.Manager.{Manager, linked_peer}
use Rattle.mqb_model.specs.managers.Outcomes.{succeeded}
use Rattle.mqb_model.specs.records.Arrived.{raises_ack}
use Rattle.mqb_model.specs.records.Record.{Nothing, OrderAcknowledged}
use Rattle.mqb_model.specs.state.Resolving.{at_peer, is_for_order_layer, is_here, peer_at, queue_named}
use Rattle.mqb_base.specs.declared.queue_names.Host.TheVariants.{Os}
use Rattle.mqb_model.specs.state.Rows.{has_ordinal}
use Rattle.mqb_model.specs.state.State.{State}
use Rattle.mqb_model.specs.state.Valid.{IsGivenOrdinal, IsInOrder}
use Rattle.mqb_orders.specs.Rows.{Row, acknowledged}
use Rattle.mqb_orders.specs.declared.kept.Kept.{Kept}
use Rattle.mqb_packet.specs.Plain.{carried_user}
use Rattle.mqb_packet.specs.declared.packet.Packet.TheVariants as packet
use Rattle.mqb_packet.specs.declared.packet.UserPacket.{UserPacket}
use Rattle.mqb_session.specs.Sending.{stamped}
use Rattle.mqb_session.specs.State as one_end
use Rattle.mqb_session.specs.declared.heads.Kind.TheVariants as kind
use Rattle.mqb_law_meetings.specs.Recovery.{AreStamped}
use Rattle.mqb_law_meetings.proofs.Chosen.{in_got}
use Rattle.mqb_law_meetings.proofs.Finishing.{changed_count, changed_raised, falls_pays, first_in}
use Rattle.mqb_law_meetings.proofs.Firsts.{PairsByRecursion, all_got, first_at, pairs_of, position_cons}
use Rattle.mqb_law_meetings.proofs.Hearing as hears
use Rattle.mqb_law_meetings.proofs.Hearing.{Takes}
use Rattle.mqb_law_meetings.proofs.HearingPlain.{hears_ack, hears_plain, quiet}
use Rattle.mqb_law_meetings.proofs.HearingRow.{hears_row}
use Rattle.mqb_law_meetings.proofs.Leaving.{order_of}
use Rattle.mqb_law_meetings.proofs.Lists.{changed_there, same_guid_refl, same_number}
use Rattle.mqb_law_meetings.proofs.Releasing.{Clears}
use Rattle.mqb_law_meetings.proofs.Same.{same_bytes_refl}
use Rattle.mqb_law_meetings.proofs.Sides.{Accord, Acknowledged, HearsAll, HearsOrder, Quiet, after_user}
use Rattle.mqb_law_meetings.proofs.Turns.{Hears, IsBrought, Pends}

-- What is spelled is read.

read_back : (ack : OrderAck) → ack.sequence.ordinal < 256 ^ 4 → ack.sequence.stamp < 256 ^ 4 → ack.number < 256 ^ 4 → acked_by (ack_body ack) ≡ Some ack
read_back ack ordinal stamp number = ap (λ n. Some (record { sequence = record { ordinal = n; stamp = little_number 4 (drop 4 spelled) }; number = little_number 4 (drop 8 spelled) }))
    (little_number-reads_back 4 ack.sequence.ordinal (drop 4 spelled) ordinal)
    ∙ ap (λ n. Some (record { sequence = record { ordinal = ack.sequence.ordinal; stamp = n }; number = little_number 4 (drop 8 spelled) }))
    (little_number-reads_back 4 ack.sequence.stamp (drop 8 spelled) stamp)
    ∙ ap (λ n. Some (record { sequence = ack.sequence; number = n })) (little_number-reads_back 4 ack.number (little_bytes 4 0) number)
  where
    spelled : List ℕ
    spelled = ack_body ack

-- The row of an ordinal.

ordinal_at : (rows : List Row) (i : ℕ) (row : Row) → PairsByRecursion (λ a b. a.sequence.ordinal < b.sequence.ordinal) rows → slice_get rows i ≡ Some row
    → position (has_ordinal row.sequence.ordinal) rows ≡ Some i
ordinal_at [] i row rises e = absurd (let none : ⊥ = cc in none)
ordinal_at (z ∷ zs) zero row rises e = position_cons (has_ordinal row.sequence.ordinal) z zs ∙ ap (λ b. cond b (Some 0) (option_map (λ k. suc k) (position (has_ordinal row.sequence.ordinal) zs)))
    (let same : z ≡ row = cc in subst (λ (w : Row). (w.sequence.ordinal == row.sequence.ordinal) ≡ true) (sym same) (same_number row.sequence.ordinal))
ordinal_at (z ∷ zs) (suc i) row rises e = position_cons (has_ordinal row.sequence.ordinal) z zs
    ∙ ap (λ b. cond b (Some 0) (option_map (λ k. suc k) (position (has_ordinal row.sequence.ordinal) zs))) (lower z.sequence.ordinal row.sequence.ordinal
    (all_got (λ (w : Row). z.sequence.ordinal < w.sequence.ordinal) zs i row e rises.0))
    ∙ ap (option_map (λ k. suc k)) (ordinal_at zs i row rises.1 e)
  where
    lower : (a b : ℕ) → a < b → (a == b) ≡ false
    lower a b less = grind (arith, nat_tests)

up_to : (a b : ℕ) → a ≤ b → nat_le a b ≡ true
up_to a b within = grind (arith, nat_tests)

module _ (x y : Manager) (a b : one_end.State) (l : ℕ) (peer : Identity) (now : ℕ) (h : Hears y b l peer) (pd : Pends y b l []) (step : AreInStep a b)
    (is_peer : x.state.identity ≡ peer) (stamped_all : AreStamped y.state) (accord : Accord y.state x.state l) (i j : ℕ) (n : Kept) (br : IsBrought x y l i n j) where
  abbrev row : Row
  row = br.row

  abbrev ack : OrderAck
  ack = ack_of br.owing

  abbrev u : UserPacket
  u = carried_user (order_of x.state y.state.identity now j br.owing).message (carriage_for y.state.identity.guid now (order_of x.state y.state.identity now j br.owing, (stamped kind.Plain a).0))

  abbrev z : one_end.State
  z = after_user b

  base_clears : Clears y.state (hears.base y b l peer h [] pd) 0
  base_clears = hears.base_clears y b l peer h [] pd

  abbrev base : State
  base = hears.base y b l peer h [] pd

  in_order : IsInOrder (length y.state.peers) row
  in_order = all_got (IsInOrder (length y.state.peers)) y.state.outs i row br.there (recursion_from_All (IsInOrder (length y.state.peers)) y.state.outs h.valid.state.rows)

  given : IsGivenOrdinal y.state.next_ordinal row
  given = all_got (IsGivenOrdinal y.state.next_ordinal) y.state.outs i row br.there (recursion_from_All (IsGivenOrdinal y.state.next_ordinal) y.state.outs h.valid.state.ordinals_given)

  stamp : row.sequence.stamp < 4294967296
  stamp = all_got (λ (r : Row). r.sequence.stamp < 4294967296) y.state.outs i row br.there (recursion_from_All (λ (r : Row). r.sequence.stamp < 4294967296) y.state.outs stamped_all)

  offered : br.owing.last ≤ row.offered
  offered = accord.offered i row n br.owing br.there br.peer br.first br.found br.sequence

  waits : In n row.kept × (nat_lt row.acked n.number ≡ true)
  waits = first_in (λ k. nat_lt row.acked k.number) row.kept n br.first

  over : row.acked < n.number
  over = ltb-true row.acked n.number waits.1

  -- it is heard as what it says

  spelled : acked_by u.message.body ≡ Some ack
  spelled = read_back ack (subst (λ q. q.ordinal < 256 ^ 4) (sym br.sequence) ordinal) (subst (λ q. q.stamp < 256 ^ 4) (sym br.sequence) stamp) number
    where
      ordinal : row.sequence.ordinal < 4294967296
      ordinal = let e = given.below in let f = (h.valid.state.next_ordinal).1 in omega (arith, e, f)

      number : br.owing.last < 4294967296
      number = let e = offered in let f = in_order.offered in let g = in_order.committed in omega (arith, e, f, g)

  for_layer : is_for_order_layer y.state u.message.destination ≡ true
  for_layer = and_from (is_order_name (codes "order_queue$")) (is_here (cond (same_bytes y.state.identity.host (codes ".") || same_ignoring_case y.state.identity.host y.state.identity.host)
      (Here (queue_named y.state (codes "order_queue$"))) (at_peer (peer_at y.state (Os y.state.identity.host)))))
      (same_bytes_refl (map to_ascii_lowercase (codes "order_queue$")))
      (ap (λ t. is_here (cond t (Here (queue_named y.state (codes "order_queue$"))) (at_peer (peer_at y.state (Os y.state.identity.host)))))
      (ap (λ t. same_bytes y.state.identity.host (codes ".") || t) (same_bytes_refl (map to_ascii_lowercase y.state.identity.host)) ∙ or_true (same_bytes y.state.identity.host (codes "."))))
    where
      or_true : (t : Bool) → (t || true) ≡ true
      or_true true = refl
      or_true false = refl

  raised : list_any (raises (peer_heard (listening y z now)) ack) y.state.outs ≡ true
  raised = any_from_In (raises (linked_peer y.state z) ack) row y.state.outs (in_got y.state.outs i row br.there) (and_from (row.peer == linked_peer y.state z && same_sequence row.sequence ack.sequence) (raises_ack ack.number row)
      (and_from (row.peer == linked_peer y.state z) (same_sequence row.sequence ack.sequence)
      (ap (λ k. row.peer == k) (hears.linked_to y b l peer h) ∙ ap (λ k. k == l) br.peer ∙ same_number l)
      (subst (λ q. same_sequence row.sequence q ≡ true) (sym br.sequence) (same_sequence_refl row.sequence)))
      (and_from (nat_lt row.acked ack.number) (nat_le ack.number row.offered)
      (lt-ltb row.acked ack.number (let e = over in let f = br.reached in omega (arith, e, f))) (up_to ack.number row.offered offered)))

  heard_is : hear y (packet.User u) now ≡ order_acked (listening y z now) ack
  heard_is = hears.user_called y b l peer h u now (stamped kind.Plain a).0 z refl refl (ap (λ (p : Identity). same_guid p.guid peer.guid) is_peer ∙ same_guid_refl peer.guid)
      (same_guid_refl y.state.identity.guid) (each_is_in_order a b h.ready step (hears.session y b l peer h).kept kind.Plain tt)
      ∙ ap (λ t. option_map_or (hear_order_ack (listening y z now)) (cond t (acked_by u.message.body) None) (hear_message (listening y z now) true u)) for_layer
      ∙ ap (λ o. option_map_or (hear_order_ack (listening y z now)) o (hear_message (listening y z now) true u)) spelled
      ∙ ap (λ t. cond t (order_acked (listening y z now) ack) (heard_as (listening y z now) Nothing answer.OldAck)) raised

  -- and acknowledges the row

  abbrev made : State
  made = record base { outs = with_first_changed (acknowledged ack.number) (has_ordinal ack.sequence.ordinal) base.outs }

  are : made.outs ≡ with_changed (acknowledged ack.number) y.state.outs i
  are = ap (λ rows. with_first_changed (acknowledged ack.number) (has_ordinal ack.sequence.ordinal) rows) base_clears.outs
      ∙ ap (λ q. with_first_changed (acknowledged ack.number) (has_ordinal q.ordinal) y.state.outs) br.sequence
      ∙ first_at (acknowledged ack.number) (has_ordinal row.sequence.ordinal) y.state.outs i (ordinal_at y.state.outs i row
      (pairs_of (λ p q. p.sequence.ordinal < q.sequence.ordinal) y.state.outs h.valid.state.ordinals_rise) br.there)

  takes : Takes y.state made l 1 0
  takes = record {
    identity = base_clears.identity;
    peers = base_clears.peers;
    fresh = base_clears.fresh;
    ordinary = base_clears.ordinary l;
    raised = changed_raised y.state made (acknowledged ack.number) i row br.there are refl refl (omega arith);
    count = changed_count y.state made (acknowledged ack.number) i row br.there are;
    work = λ o. let f = falls_pays y.state made (acknowledged ack.number) i row br.there are (acknowledging_falls row n ack.number waits.0 over br.reached) o l in
        let c = base_clears.work in omega (arith, f, c);
  }

  pub order_heard : Acknowledged y (hear y (packet.User u) now) l z i n.number
  order_heard = record {
    quiet = was;
    row = acknowledged ack.number row;
    there = subst (λ (m : Manager). slice_get m.state.outs i ≡ Some (acknowledged ack.number row)) (sym behind)
        (ap (λ rows. slice_get rows i) are ∙ changed_there (acknowledged ack.number) y.state.outs i ∙ ap (option_map (acknowledged ack.number)) br.there);
    reached = let e = br.reached in omega (arith, e);
  }
    where
      was : Quiet y (hear y (packet.User u) now) l z 1 0
      was = quiet y a b l peer [] now h pd step (hear y (packet.User u) now) z refl refl (OrderAcknowledged ack.sequence.ordinal ack.number) (answer.OrderAcked ack.sequence.ordinal ack.number) 1 0
          heard_is refl takes base_clears.ins

      behind : succeeded y (hear y (packet.User u) now) ≡ hears.behind y b l peer h [] pd z now refl refl (OrderAcknowledged ack.sequence.ordinal ack.number)
          (answer.OrderAcked ack.sequence.ordinal ack.number) (with_session y.rest z) refl refl 1 0 takes
      behind = ap (succeeded y) heard_is ∙ hears.behind_is y b l peer h [] pd z now refl refl (OrderAcknowledged ack.sequence.ordinal ack.number)
          (answer.OrderAcked ack.sequence.ordinal ack.number) (with_session y.rest z) refl refl 1 0 takes

pub hears_order : HearsOrder
hears_order x y a b l peer now h pd step is_peer stamps accord i j n br = order_heard x y a b l peer now h pd step is_peer stamps accord i j n br

-- all of it
pub hears_all : HearsAll
hears_all = record { ack = hears_ack; plain = hears_plain; row = hears_row; order = hears_order }
