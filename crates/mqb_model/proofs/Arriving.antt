-- A state stays valid where messages are released and something arrives.
use Rattle.std.proofs.Common.{refl, ap, sym, subst, ◌∙◌, length, arith}
use Rattle.std.proofs.lemmas.Bool.Decides.{nat_tests}
use Rattle.std.proofs.lemmas.List.Elements.{All-from_recursion, recursion_from_All}
use Rattle.std.proofs.lemmas.List.Quantifiers.{position-Some}
use Rattle.std.proofs.lemmas.Option.{slice_get-get_or}
use Rattle.std.specs.List.{AllByRecursion}
use Rattle.std.specs.Option.{option_map_or}
use Rattle.std.specs.Prelude.{◌&&◌, ◌++◌, ◌||◌, ◌∷◌, ◌≡◌, ◌≤◌, [], Bool, IfSome, IsTrue, List, None, Option, Some, cond, false, fold, is_some, map, max, nat_le, nat_lt, not, option_and_then, position, slice_get, slice_set, true, ℕ}
use Rattle.mqb_base.specs.Bits.{keeps_dead}
use Rattle.mqb_base.specs.Classes.{is_negative}
use Rattle.mqb_base.specs.QueueNames.{names_queue}
use Rattle.mqb_base.specs.Same.{same_guid, same_name}
use Rattle.mqb_base.specs.declared.class.Class.{Class}
use Rattle.mqb_base.specs.declared.heads.TxHead.{TxHead}
use Rattle.mqb_base.specs.declared.ids.Guid.{Guid}
use Rattle.mqb_base.specs.declared.message.Message.{Message}
use Rattle.mqb_base.specs.declared.queue_names.QueueName.{QueueName}
use Rattle.mqb_base.specs.declared.queue_names.QueueName.TheVariants.{Public}
use Rattle.mqb_base.specs.declared.queues.EntryPlace.TheVariants as place
use Rattle.mqb_fate.specs.Asking.{is_ordinary, is_transactional}
use Rattle.mqb_orders.specs.KeptLists.{released}
use Rattle.mqb_orders.specs.Rows.{Row, acknowledged}
use Rattle.mqb_orders.specs.declared.kept.Kept.{Kept}
use Rattle.mqb_orders.specs.declared.rows.InRow.{InRow}
use Rattle.mqb_packet.specs.declared.packet.UserPacket.{UserPacket}
use Rattle.mqb_plain.specs.Lists.{messages_of}
use Rattle.mqb_model.specs.Lists.{with_changed, with_first_changed}
use Rattle.mqb_model.specs.laws.Keeping.{ArrivedIsValid}
use Rattle.mqb_model.specs.records.Carrying.{IsRecordedPart}
use Rattle.mqb_model.specs.records.Arrived.{part_fits, part_made, raises_ack}
use Rattle.mqb_model.specs.records.Decisions.{decided_fits, decided_row, message_decided, with_decided}
use Rattle.mqb_model.specs.records.Finals.{dead_for, final_stored, finished_at, finished_by, finished_row, index_finished, is_final, is_offered_as, kept_named, with_finished}
use Rattle.mqb_model.specs.records.Packets.{is_recoverable}
use Rattle.mqb_model.specs.records.Record as entry
use Rattle.mqb_model.specs.records.Record.{Part}
use Rattle.mqb_model.specs.records.Releases.{has_recoverable, is_released_by, message_released, releases_fit, releases_made, without_recoverable, without_released}
use Rattle.mqb_model.specs.rules.Arrivals.{refusal_of}
use Rattle.mqb_model.specs.rules.Effects.{Effect, begun, joined}
use Rattle.mqb_model.specs.state.Places.{put_at}
use Rattle.mqb_model.specs.state.Resolving.{peer_known, resolved}
use Rattle.mqb_model.specs.state.Rows.{has_ordinal, in_index, is_row_of, row_of_ordinal, with_row}
use Rattle.mqb_model.specs.state.State.{State}
use Rattle.mqb_model.specs.state.Valid.{IsInOrder, IsValidState}
use Rattle.mqb_model.proofs.Accepting.{IsHere, arrived_stands, refusal_here, refusal_known, stored_stands}
use Rattle.mqb_model.proofs.Departing.{RowKeeps, if_some, less_in_order, rows_keep, valid_stands}
use Rattle.mqb_model.proofs.Holding.{get_holds, not_express, transactional_durable}
use Rattle.mqb_model.proofs.Members.{Fewer, PairsByRecursion, all_append, all_pairs, all_weaker, changed_all, changed_fewer, changed_pairs, fewer_filter, fewer_filtered, fewer_map, fewer_without, first_all, first_fewer, first_holds, first_length, first_pairs, first_passes, none_passes, pairs_of, pairs_push, set_one, set_pairs, split_and}
use Rattle.mqb_model.proofs.Names.{same_guid_is, same_guid_refl, same_name_is, same_name_refl}
use Rattle.mqb_model.proofs.Offering.{IsHeaded, Precedes, all_headed}
use Rattle.mqb_model.proofs.Remaining.{IsPlaced, Stands, plain_stands, put_stands, rows_stand}

-- Releases.

released_stands : (whose : Guid) (low high : ℕ) (s : State) (number : ℕ) → Stands whose low high s → Stands whose low high (without_released s number)
released_stands whose low high s number h = plain_stands whose low high s (with_first_changed (without_recoverable s number) (has_recoverable s number) s.plain)
    (first_length (without_recoverable s number) (has_recoverable s number) s.plain)
    (first_fewer (λ p. messages_of p.recoverable) (without_recoverable s number) (has_recoverable s number) s.plain
    (λ p. fewer_map (λ o. o.message) (fewer_without (is_released_by s number) p.recoverable))) h

releases_stand : (whose : Guid) (low high : ℕ) (e : Effect) (numbers : List ℕ) → Stands whose low high e.state → Stands whose low high (fold message_released e numbers).state
releases_stand whose low high e [] h = h
releases_stand whose low high e (number ∷ numbers) h = releases_stand whose low high (message_released e number) numbers (released_stands whose low high e.state number h)

-- Order acknowledgements.

given : (next : ℕ) (row : Row) (acked : ℕ) (ks : List Kept) → IsHeaded next row → IsHeaded next (record row { acked = acked; kept = ks })
given next row acked ks g = (record { first = (g.0).first; below = (g.0).below }, g.1)

at_most : (a b : ℕ) → nat_le a b ≡ true → a ≤ b
at_most a b h = grind (arith, nat_tests)

greater : (a b c : ℕ) → a ≤ c → b ≤ c → max a b ≤ c
greater a b c h k = omega arith

acked_stands : (whose : Guid) (low high : ℕ) (s : State) (ordinal number : ℕ) → option_map_or (raises_ack number) (row_of_ordinal s ordinal) false ≡ true → Stands whose low high s
    → Stands whose low high (with_row (acknowledged number) s ordinal)
acked_stands whose low high s ordinal number f h = rows_stand whose low high s (with_first_changed (acknowledged number) (has_ordinal ordinal) s.outs)
    (first_all Given (acknowledged number) (has_ordinal ordinal) s.outs (if_some (λ row. Given row → Given (acknowledged number row)) (row_of_ordinal s ordinal)
    (λ row g. given s.next_ordinal row (max row.acked number) (released (max row.acked number) row.kept) g)) (all_headed s h.valid))
    (first_pairs Precedes (acknowledged number) (has_ordinal ordinal) s.outs (λ x z r. r) (λ x z r. r) (pairs_of Precedes s.outs h.valid.ordinals_rise))
    (first_all Order (acknowledged number) (has_ordinal ordinal) s.outs (raised (row_of_ordinal s ordinal) f) (recursion_from_All Order s.outs h.valid.rows))
    (first_fewer (λ row. map (λ k. k.message) row.kept) (acknowledged number) (has_ordinal ordinal) s.outs
    (λ row. fewer_map (λ k. k.message) (fewer_filter (λ k. nat_lt (max row.acked number) k.number || keeps_dead k.message) row.kept))) h
  where
    Given : Row → Type 0
    Given row = IsHeaded s.next_ordinal row

    Order : Row → Type 0
    Order row = IsInOrder (length s.peers) row

    raised : (o : Option Row) → option_map_or (raises_ack number) o false ≡ true → IfSome o (λ row. Order row → Order (acknowledged number row))
    raised None e = tt
    raised (Some row) e = λ one. less_in_order (length s.peers) row (released (max row.acked number) row.kept) (max row.acked number)
        (greater row.acked number row.offered one.acked (at_most number row.offered (split_and (nat_lt row.acked number) (nat_le number row.offered) e).1))
        (fewer_filter (λ k. nat_lt (max row.acked number) k.number || keeps_dead k.message) row.kept) one

-- Final acknowledgements.

dead_stands : (whose : Guid) (low high : ℕ) (class : Class) (s : State) (m : Message) → IsPlaced m → Stands whose low high s → Stands whose low high (dead_for class s m)
dead_stands whose low high class s m p h = at (is_negative class.0)
  where
    at : (b : Bool) → Stands whose low high (cond b (put_at s place.DeadXact m) s)
    at true = put_stands whose low high s place.DeadXact m p h
    at false = h

fewer_finished : (m : Message) (number : ℕ) (row : Row) → Fewer (finished_row m.correlation number row).kept row.kept
fewer_finished m number row = fewer_filtered (λ k. nat_lt (max row.acked number) k.number || keeps_dead k.message) (fewer_without (is_offered_as m.correlation row) row.kept)

with_finished_stands : (whose : Guid) (low high : ℕ) (s : State) (m : Message) (index : ℕ) (k : Kept) → IfSome (slice_get s.outs index) (λ row. k.number ≤ row.offered)
    → Stands whose low high s → Stands whose low high (with_finished m.correlation s index k)
with_finished_stands whose low high s m index k offered h = rows_stand whose low high s (with_changed change s.outs index)
    (changed_all Given change s.outs index (if_some (λ row. Given row → Given (change row)) (slice_get s.outs index)
    (λ row g. given s.next_ordinal row (max row.acked k.number) (change row).kept g)) (all_headed s h.valid))
    (changed_pairs Precedes change s.outs index (λ x z r. r) (λ x z r. r) (pairs_of Precedes s.outs h.valid.ordinals_rise))
    (changed_all Order change s.outs index (done (slice_get s.outs index) offered) (recursion_from_All Order s.outs h.valid.rows))
    (changed_fewer (λ row. map (λ k. k.message) row.kept) change s.outs index (λ row. fewer_map (λ k. k.message) (fewer_finished m k.number row))) h
  where
    change : Row → Row
    change row = finished_row m.correlation k.number row

    Given : Row → Type 0
    Given row = IsHeaded s.next_ordinal row

    Order : Row → Type 0
    Order row = IsInOrder (length s.peers) row

    done : (o : Option Row) → IfSome o (λ row. k.number ≤ row.offered) → IfSome o (λ row. Order row → Order (change row))
    done None le = tt
    done (Some row) le = λ one. less_in_order (length s.peers) row (change row).kept (max row.acked k.number) (greater row.acked k.number row.offered one.acked le)
        (fewer_finished m k.number row) one

finished_at_stands : (whose : Guid) (low high : ℕ) (s : State) (m : Message) (index : ℕ) → Stands whose low high s → Stands whose low high (finished_at s m index)
finished_at_stands whose low high s m index h = at (slice_get s.outs index) refl (get_holds RowKeeps s.outs index (rows_keep s h.valid))
  where
    each : (row : Row) → slice_get s.outs index ≡ Some row → (o : Option Kept) → IfSome o (λ k. IsPlaced k.message) → IfSome o (λ k. is_offered_as m.correlation row k ≡ true)
        → Stands whose low high (option_map_or (λ k. dead_for m.class (with_finished m.correlation s index k) k.message) o s)
    each row there None p passes = h
    each row there (Some k) p passes = dead_stands whose low high m.class (with_finished m.correlation s index k) k.message p
        (with_finished_stands whose low high s m index k (subst (λ o. IfSome o (λ row. k.number ≤ row.offered)) (sym there)
        (at_most k.number row.offered (split_and _ (nat_le k.number row.offered) passes).1)) h)

    at : (o : Option Row) → slice_get s.outs index ≡ o → IfSome o RowKeeps
        → Stands whose low high (option_map_or (λ k. dead_for m.class (with_finished m.correlation s index k) k.message) (option_and_then (kept_named m.correlation) o) s)
    at None there r = h
    at (Some row) there r = each row there (kept_named m.correlation row) (first_holds (λ k. IsPlaced k.message) (is_offered_as m.correlation row) row.kept r)
        (first_passes (is_offered_as m.correlation row) row.kept)

final_stands : (whose : Guid) (low high : ℕ) (s : State) (m : Message) → Stands whose low high s → Stands whose low high (final_stored s m).state
final_stands whose low high s m h = at (peer_known s m.id.qm)
  where
    by : (o : Option ℕ) → Stands whose low high (option_map_or (finished_at s m) o s)
    by None = h
    by (Some index) = finished_at_stands whose low high s m index h

    at : (o : Option ℕ) → Stands whose low high (option_map_or (λ peer. finished_by s peer m) o s)
    at None = h
    at (Some peer) = by (index_finished s peer m)

-- Decisions.

-- rows of different sources or destinations
abbrev Sources : InRow → InRow → Type 0
Sources a b = is_row_of a.source a.destination b ≡ false

-- a row for a queue
abbrev IsToQueue : InRow → Type 0
IsToQueue row = IsTrue (names_queue row.destination)

ins_stand : (whose : Guid) (low high : ℕ) (s : State) (rows : List InRow) → PairsByRecursion Sources rows → AllByRecursion IsToQueue rows → Stands whose low high s
    → Stands whose low high (record s { ins = rows })
ins_stand whose low high s rows differ to_queues h = let v = h.valid in record {
  valid = record {
    few_peers = v.few_peers;
    few_queues = v.few_queues;
    peers_differ = v.peers_differ;
    queues_differ = v.queues_differ;
    plain_lists = v.plain_lists;
    hosts = v.hosts;
    ordinals_rise = v.ordinals_rise;
    ordinals_given = v.ordinals_given;
    rows = v.rows;
    sources_differ = all_pairs Sources rows differ;
    outs_to_queues = v.outs_to_queues;
    ins_to_queues = All-from_recursion IsToQueue rows to_queues;
    kept = v.kept;
    plain = v.plain;
    placed = v.placed;
    recoverable = v.recoverable;
    durable = v.durable;
    next_number = v.next_number;
    next_ordinal = v.next_ordinal;
    settings = v.settings;
    own = v.own;
    ids_differ = v.ids_differ;
  };
  above = h.above;
  owner = h.owner;
  apart = h.apart;
}

-- a row of another source or destination is none of this one, seen from either
other_way : (source : Guid) (destination : QueueName) (row new : InRow) → new.source ≡ source → new.destination ≡ destination
    → is_row_of source destination row ≡ false → Sources row new
other_way source destination row new from to other = at (is_row_of row.source row.destination new) refl
  where
    at : (b : Bool) → is_row_of row.source row.destination new ≡ b → b ≡ false
    at false e = refl
    at true e = let both = split_and (same_guid new.source row.source) (same_name new.destination row.destination) e in
        let one : row.source ≡ source = sym (same_guid_is new.source row.source both.0) ∙ from in
        let two : row.destination ≡ destination = sym (same_name_is new.destination row.destination both.1) ∙ to in
        sym (ap (λ g. same_guid g source && same_name row.destination destination) one ∙ ap (λ d. same_guid source source && same_name d destination) two
        ∙ ap (λ b. b && same_name destination destination) (same_guid_refl source) ∙ same_name_refl destination) ∙ other

decided_differ : (s : State) (m : Message) (tx : TxHead) → IsValidState s → PairsByRecursion Sources (with_decided s m tx).ins
decided_differ s m tx v = at (in_index s m) refl
  where
    new : InRow
    new = decided_row m tx

    passes : InRow → Bool
    passes row = is_row_of m.id.qm m.destination row

    rows : PairsByRecursion Sources s.ins
    rows = pairs_of Sources s.ins v.sources_differ

    replaced : (k : ℕ) (old : InRow) → slice_get s.ins k ≡ Some old → passes old ≡ true → PairsByRecursion Sources (slice_set s.ins k new)
    replaced k old there e = let both = split_and (same_guid old.source m.id.qm) (same_name old.destination m.destination) e in
        let from : m.id.qm ≡ old.source = sym (same_guid_is old.source m.id.qm both.0) in
        let to : m.destination ≡ old.destination = sym (same_name_is old.destination m.destination both.1) in
        set_pairs Sources s.ins k old new there
        (λ z h. ap (λ g. same_guid g z.source && same_name m.destination z.destination) from ∙ ap (λ d. same_guid old.source z.source && same_name d z.destination) to ∙ h)
        (λ z h. ap (λ g. same_guid z.source g && same_name z.destination m.destination) from ∙ ap (λ d. same_guid z.source old.source && same_name z.destination d) to ∙ h) rows

    at : (o : Option ℕ) → position passes s.ins ≡ o → PairsByRecursion Sources (option_map_or (λ k. slice_set s.ins k new) o (s.ins ++ new ∷ []))
    at None e = pairs_push Sources s.ins new (all_weaker (λ row. passes row ≡ false) (λ row. Sources row new)
        (λ row other. other_way m.id.qm m.destination row new refl refl other) s.ins (none_passes passes s.ins e)) rows
    at (Some k) e = let found = position-Some passes s.ins k new e in replaced k _ (slice_get-get_or s.ins k new found.0) found.1

decided_to_queues : (s : State) (m : Message) (tx : TxHead) → IsTrue (names_queue m.destination) → IsValidState s → AllByRecursion IsToQueue (with_decided s m tx).ins
decided_to_queues s m tx named v = at (in_index s m)
  where
    new : InRow
    new = decided_row m tx

    rows : AllByRecursion IsToQueue s.ins
    rows = recursion_from_All IsToQueue s.ins v.ins_to_queues

    at : (o : Option ℕ) → AllByRecursion IsToQueue (option_map_or (λ k. slice_set s.ins k new) o (s.ins ++ new ∷ []))
    at None = all_append IsToQueue s.ins (new ∷ []) rows (named, tt)
    at (Some k) = set_one IsToQueue s.ins k new named rows

-- where names lead does not depend on incoming rows
pub resolved_stays : (s : State) (rows : List InRow) (name : QueueName) → resolved (record s { ins = rows }) name ≡ resolved s name
resolved_stays s rows (Public guid true) = refl
resolved_stays s rows name = refl

decided_stands : (whose : Guid) (low high now : ℕ) (s : State) (p : UserPacket) (tx : TxHead) → IsPlaced p.message → Stands whose low high s → Stands whose low high (message_decided now s p tx).state
decided_stands whose low high now s p tx placed h = arrived_stands whose low high after p.message now (refusal_of s p) (refusal_known s p)
    (λ e. subst IsHere (sym (resolved_stays s after.ins p.message.destination)) (refusal_here s p e)) placed
    (ins_stand whose low high s after.ins (decided_differ s p.message tx h.valid) (decided_to_queues s p.message tx (placed.0).well_formed.destination h.valid) h)
  where
    after : State
    after = with_decided s p.message tx

part_stands : (whose : Guid) (low high now : ℕ) (e : Effect) (part : Part) → IsRecordedPart part → part_fits e.state part ≡ true → Stands whose low high e.state
    → Stands whose low high (part_made now e part).state
part_stands whose low high now e entry.Nothing told f h = h
part_stands whose low high now e (entry.Decided p) told f h = at p.tx
  where
    fits_part : decided_fits e.state p ≡ true
    fits_part = (split_and (is_some (peer_known e.state p.message.id.qm)) (decided_fits e.state p) f).1

    transactional : is_transactional p.message.delivery ≡ true
    transactional = (split_and (is_transactional p.message.delivery) (is_ordinary p.message)
        (split_and (is_transactional p.message.delivery && is_ordinary p.message) _ fits_part).0).0

    at : (o : Option TxHead) → Stands whose low high (option_map_or (λ tx. joined e (message_decided now e.state p tx)) o e).state
    at None = h
    at (Some tx) = decided_stands whose low high now e.state p tx (told, transactional_durable p.message.delivery transactional) h
part_stands whose low high now e (entry.Stored p) told f h = stored_stands whose low high now e.state p (told, not_express p.message.delivery recoverable) h
  where
    whole : ((is_some (peer_known e.state p.message.id.qm) && is_recoverable p.message.delivery) ≡ true) × (not (is_final e.state p.message) ≡ true)
    whole = split_and (is_some (peer_known e.state p.message.id.qm) && is_recoverable p.message.delivery) (not (is_final e.state p.message)) f

    recoverable : is_recoverable p.message.delivery ≡ true
    recoverable = (split_and (is_some (peer_known e.state p.message.id.qm)) (is_recoverable p.message.delivery) whole.0).1
part_stands whose low high now e (entry.OrderAcknowledged ordinal number) told f h = acked_stands whose low high e.state ordinal number f h
part_stands whose low high now e (entry.Final p) told f h = final_stands whose low high e.state p.message h

pub arrived_is_valid : ArrivedIsValid
arrived_is_valid s now numbers part v told f = (part_stands s.identity.guid 0 0 now (releases_made s numbers) part told both.1 (releases_stand s.identity.guid 0 0 (begun s) numbers (valid_stands s v))).valid
  where
    both : (releases_fit (begun s) numbers ≡ true) × (part_fits (releases_made s numbers).state part ≡ true)
    both = split_and (releases_fit (begun s) numbers) (part_fits (releases_made s numbers).state part) f
