-- A record fits what a store stands for exactly where it fits the state, and does the same to it.
use Rattle.std.proofs.Common.{refl, ap, ◌∙◌}
use Rattle.std.proofs.lemmas.List.{length-map}
use Rattle.std.specs.List.{AllByRecursion}
use Rattle.std.specs.Option.{option_map_or}
use Rattle.std.specs.Prelude.{◌&&◌, ◌+◌, ◌==◌, ◌∷◌, ◌||◌, ◌≡◌, [], Bool, IfSome, List, None, Option, Some, cond, false, fold, is_none, is_some, length, nat_le, nat_lt, not, option_and_then, option_map, position, slice_get, true, ℕ}
use Rattle.mqb_base.specs.Classes.{is_negative}
use Rattle.mqb_base.specs.Same.{same_guid}
use Rattle.mqb_base.specs.declared.class.Class.{Class}
use Rattle.mqb_base.specs.declared.heads.TxHead.{TxHead}
use Rattle.mqb_base.specs.declared.ids.MessageId.{MessageId}
use Rattle.mqb_base.specs.declared.ledger.Line.TheVariants as line
use Rattle.mqb_base.specs.declared.message.Message.{Message}
use Rattle.mqb_base.specs.declared.queue_names.QueueName.{QueueName}
use Rattle.mqb_base.specs.declared.queues.EntryPlace.{EntryPlace}
use Rattle.mqb_base.specs.declared.queues.EntryPlace.TheVariants as place
use Rattle.mqb_base.specs.declared.queues.QueuePlan.{QueuePlan}
use Rattle.mqb_entries.specs.declared.members.Mark.{Mark}
use Rattle.mqb_fate.specs.Asking.{is_ordinary, is_transactional}
use Rattle.mqb_fate.specs.Orders.{is_final_class, is_order_name, names_order_layer}
use Rattle.mqb_orders.specs.Judging.{verdict_of}
use Rattle.mqb_orders.specs.Rows.{Row}
use Rattle.mqb_orders.specs.declared.kept.Kept.{Kept}
use Rattle.mqb_packet.specs.declared.packet.Headers.{Headers}
use Rattle.mqb_packet.specs.declared.packet.Headers.TheVariants as headers
use Rattle.mqb_packet.specs.declared.packet.UserPacket.{UserPacket}
use Rattle.mqb_queue.specs.Lists.{Lists}
use Rattle.mqb_queue.specs.Places.{lists_at}
use Rattle.mqb_model.specs.Lists.{with_changed, with_first_changed}
use Rattle.mqb_model.specs.declared.limits.TheConstants.{MAX_NUMBER, MAX_QUEUES}
use Rattle.mqb_model.specs.declared.target.Target.{Target}
use Rattle.mqb_model.specs.declared.target.Target.TheVariants.{AtPeer}
use Rattle.mqb_model.specs.laws.Durable.{DurableIsApplied, DurableIsFitted, durable_effect}
use Rattle.mqb_model.specs.records.Arrived.{arrived_fits, is_from_peer, part_fits, part_made}
use Rattle.mqb_model.specs.records.Commit.{commit_effect, commit_fits, join_fits, joins_fit, op_taken, send_made, sends_fit, sends_numbered, sends_of, take_fits, takes_fit, takes_made}
use Rattle.mqb_model.specs.records.Decisions.{decided_fits, is_next, message_decided}
use Rattle.mqb_model.specs.records.Finals.{dead_for, final_stored, finished_at, finished_by, index_finished, is_final, is_offered_as, kept_named, with_finished}
use Rattle.mqb_model.specs.records.Offered.{mark_fits, mark_raised, offered_fits}
use Rattle.mqb_model.specs.records.Packets.{is_own_packet, is_recoverable, is_sendable, is_too_large}
use Rattle.mqb_model.specs.records.Peer.{is_taken_by, next_queue, queue_fits, queue_there}
use Rattle.mqb_model.specs.records.Plain.{plain_fits}
use Rattle.mqb_model.specs.records.Record as entry
use Rattle.mqb_model.specs.records.Record.{Part, RecordOp, Send, Take, Nothing, Decided, Stored, OrderAcknowledged, Final}
use Rattle.mqb_model.specs.records.Releases.{has_recoverable, message_released, release_fits, releases_fit, releases_made, without_recoverable}
use Rattle.mqb_model.specs.rules.Effects.{Effect, begun, joined, with_line}
use Rattle.mqb_model.specs.rules.Numbers.{is_numbered}
use Rattle.mqb_model.specs.rules.Takes.{taken}
use Rattle.mqb_model.specs.state.Durable.{durable, durable_lists, durable_plain, durable_queue}
use Rattle.mqb_model.specs.state.Places.{put_at}
use Rattle.mqb_model.specs.state.Resolving.{guid_at, is_found, is_here, peer_known, resolved}
use Rattle.mqb_model.specs.state.Rows.{in_row}
use Rattle.mqb_model.specs.state.State.{State}
use Rattle.mqb_model.proofs.Holding.{Holds, IsDurable, PlainHolds, RowHolds, changed_holds, get_holds, not_express, transactional_durable, valid_holds}
use Rattle.mqb_model.proofs.Leaving.{index_same, purged_same, taken_holds, taken_same}
use Rattle.mqb_model.proofs.Lenses.{lists_same, put_same, resolved_same}
use Rattle.mqb_model.proofs.Mapped.{any_mapped, any_same}
use Rattle.mqb_model.proofs.Recording.{decided_same, message_sent_same, offered_same, peer_same, plain_same, queue_same, released_by_same, released_same, releases_same, stored_same}
use Rattle.mqb_model.proofs.Ticking.{first_holds, ticked_same, without_first_holds}

-- both parts of a test

left : (a b : Bool) → (a && b) ≡ true → a ≡ true
left true b h = refl
left false b h = h

right : (a b : Bool) → (a && b) ≡ true → b ≡ true
right true b h = h
right false b h = absurd (let e : ⊥ = cc in e)

-- Transactions.

takes_same : (now : ℕ) (e : Effect) (ops : List RecordOp) → Holds e.state
    → fold (op_taken now) (durable_effect e) ops ≡ durable_effect (fold (op_taken now) e ops)
takes_same now e [] h = refl
takes_same now e (Send p ∷ ops) h = takes_same now e ops h
takes_same now e (Take queue id ∷ ops) h = ap (λ u. fold (op_taken now) u ops) (taken_same (place.Queue queue) id now e h)
    ∙ takes_same now (taken (place.Queue queue) id now e) ops (taken_holds (place.Queue queue) id now e h)

sent_durable : (ops : List RecordOp) → AllByRecursion IsDurable (sends_of ops)
sent_durable [] = tt
sent_durable (Send p ∷ ops) = (refl, sent_durable ops)
sent_durable (Take queue id ∷ ops) = sent_durable ops

send_made_same : (now : ℕ) (e : Effect) (m : Message) → IsDurable m → send_made now (durable_effect e) m ≡ durable_effect (send_made now e m)
send_made_same now e m d = ap (λ x. joined (durable_effect e) x) (message_sent_same now e.state m d)

sends_same : (now : ℕ) (e : Effect) (ms : List Message) → AllByRecursion IsDurable ms → fold (send_made now) (durable_effect e) ms ≡ durable_effect (fold (send_made now) e ms)
sends_same now e [] d = refl
sends_same now e (m ∷ ms) d = ap (λ u. fold (send_made now) u ms) (send_made_same now e m d.0) ∙ sends_same now (send_made now e m) ms d.1

takes_made_same : (s : State) (now : ℕ) (ops : List RecordOp) → Holds s → takes_made (durable s) now ops ≡ durable_effect (takes_made s now ops)
takes_made_same s now ops h = takes_same now (sends_numbered s ops) ops h

commit_same : (s : State) (now : ℕ) (ops : List RecordOp) → Holds s → commit_effect (durable s) now ops ≡ durable_effect (commit_effect s now ops)
commit_same s now ops h = ap (λ u. fold (send_made now) u (sends_of ops)) (takes_made_same s now ops h) ∙ sends_same now (takes_made s now ops) (sends_of ops) (sent_durable ops)

-- Final acknowledgements.

dead_same : (class : Class) (s : State) (m : Message) → IsDurable m → dead_for class (durable s) m ≡ durable (dead_for class s m)
dead_same class s m d = by (is_negative class.0)
  where
    by : (b : Bool) → cond b (put_at (durable s) place.DeadXact m) (durable s) ≡ durable (cond b (put_at s place.DeadXact m) s)
    by true = put_same s place.DeadXact m d
    by false = refl

finished_same : (s : State) (m : Message) (index : ℕ) → Holds s → finished_at (durable s) m index ≡ durable (finished_at s m index)
finished_same s m index h = by (option_and_then (kept_named m.correlation) (slice_get s.outs index)) (named (slice_get s.outs index) (get_holds RowHolds s.outs index h.rows))
  where
    named : (o : Option Row) → IfSome o RowHolds → IfSome (option_and_then (kept_named m.correlation) o) (λ k. IsDurable k.message)
    named None d = tt
    named (Some row) d = first_holds (λ k. IsDurable k.message) (is_offered_as m.correlation row) row.kept d

    by : (o : Option Kept) → IfSome o (λ k. IsDurable k.message)
        → option_map_or (λ k. dead_for m.class (with_finished m.correlation (durable s) index k) k.message) o (durable s)
        ≡ durable (option_map_or (λ k. dead_for m.class (with_finished m.correlation s index k) k.message) o s)
    by None d = refl
    by (Some k) d = dead_same m.class (with_finished m.correlation s index k) k.message d

final_same : (s : State) (m : Message) → Holds s → final_stored (durable s) m ≡ durable_effect (final_stored s m)
final_same s m h = ap (λ u. with_line (line.Stored m.id) u) (at (peer_known s m.id.qm))
  where
    by : (o : Option ℕ) → option_map_or (finished_at (durable s) m) o (durable s) ≡ durable (option_map_or (finished_at s m) o s)
    by None = refl
    by (Some index) = finished_same s m index h

    at : (o : Option ℕ) → option_map_or (λ peer. finished_by (durable s) peer m) o (durable s) ≡ durable (option_map_or (λ peer. finished_by s peer m) o s)
    at None = refl
    at (Some peer) = by (index_finished s peer m)

-- Releases keep durable lists durable.

first_changed_holds : {X : Type 0} (Q : X → Type 0) (change : X → X) (p : X → Bool) (xs : List X) → ((x : X) → Q x → Q (change x)) → AllByRecursion Q xs
    → AllByRecursion Q (with_first_changed change p xs)
first_changed_holds Q change p xs keeps all = at (position p xs)
  where
    at : (o : Option ℕ) → AllByRecursion Q (option_map_or (with_changed change xs) o xs)
    at None = all
    at (Some k) = changed_holds Q change xs k keeps all

released_holds : (e : Effect) (number : ℕ) → Holds e.state → Holds (message_released e number).state
released_holds e number h = record {
  queues = h.queues;
  dead = h.dead;
  dead_xact = h.dead_xact;
  journal = h.journal;
  waiting = first_changed_holds PlainHolds (without_recoverable e.state number) (has_recoverable e.state number) e.state.plain
      (λ p d. without_first_holds (λ o. IsDurable o.message) _ p.recoverable d) h.waiting;
  rows = h.rows;
}

releases_hold : (e : Effect) (numbers : List ℕ) → Holds e.state → Holds (fold message_released e numbers).state
releases_hold e [] h = h
releases_hold e (number ∷ numbers) h = releases_hold (message_released e number) numbers (released_holds e number h)

-- What arrived.

part_same : (now : ℕ) (e : Effect) (part : Part) → Holds e.state → part_fits e.state part ≡ true → part_made now (durable_effect e) part ≡ durable_effect (part_made now e part)
part_same now e Nothing h f = refl
part_same now e (Decided p) h f = by p.tx
  where
    durable_one : IsDurable p.message
    durable_one = let kind = is_transactional p.message.delivery in let ordinary = is_ordinary p.message in
        transactional_durable p.message.delivery (left kind ordinary (left (kind && ordinary) (option_map_or (λ tx. is_next (verdict_of (in_row e.state p.message) tx)) p.tx false)
        (right (is_from_peer e.state p.message) (decided_fits e.state p) f)))

    by : (o : Option TxHead) → option_map_or (λ tx. joined (durable_effect e) (message_decided now (durable e.state) p tx)) o (durable_effect e)
        ≡ durable_effect (option_map_or (λ tx. joined e (message_decided now e.state p tx)) o e)
    by None = refl
    by (Some tx) = ap (λ x. joined (durable_effect e) x) (decided_same now e.state p tx durable_one)
part_same now e (Stored p) h f = let peer = is_from_peer e.state p.message in let kind = is_recoverable p.message.delivery in
    ap (λ x. joined (durable_effect e) x) (stored_same now e.state p (not_express p.message.delivery (right peer kind (left (peer && kind) (not (is_final e.state p.message)) f))))
part_same now e (OrderAcknowledged ordinal number) h f = refl
part_same now e (Final p) h f = ap (λ x. joined (durable_effect e) x) (final_same e.state p.message h)

arrived_record_same : (s : State) (now : ℕ) (numbers : List ℕ) (part : Part) → Holds s → arrived_fits s numbers part ≡ true
    → part_made now (releases_made (durable s) numbers) part ≡ durable_effect (part_made now (releases_made s numbers) part)
arrived_record_same s now numbers part h f = ap (λ u. part_made now u part) (releases_same (begun s) numbers)
    ∙ part_same now (releases_made s numbers) part (releases_hold (begun s) numbers h) (right (releases_fit (begun s) numbers) (part_fits (releases_made s numbers).state part) f)

-- A plain message is recoverable.

plain_is_durable : (s : State) (p : UserPacket) → plain_fits s p ≡ true → IsDurable p.message
plain_is_durable s p f = not_express p.message.delivery (at (is_numbered s s.next_number p.message) (nat_le s.next_number MAX_NUMBER) (is_recoverable p.message.delivery) (is_none p.tx) (is_none p.session)
    (is_found (resolved s p.message.destination)) (same_guid p.to (guid_at s (resolved s p.message.destination))) (not (is_too_large headers.Session p.message)) f)
  where
    at : (a b c d e g i j : Bool) → (((((((a && b) && c) && d) && e) && g) && i) && j) ≡ true → c ≡ true
    at a b c d e g i j h = right (a && b) c (left ((a && b) && c) d (left (((a && b) && c) && d) e (left ((((a && b) && c) && d) && e) g
        (left (((((a && b) && c) && d) && e) && g) i (left ((((((a && b) && c) && d) && e) && g) && i) j h)))))

pub durable_is_applied : DurableIsApplied
durable_is_applied s (entry.Identity identity) v f = refl
durable_is_applied s (entry.Peer peer) v f = peer_same s peer
durable_is_applied s (entry.CreateQueue number plan) v f = queue_same s plan
durable_is_applied s (entry.Commit now ops) v f = commit_same s now ops (valid_holds s v)
durable_is_applied s (entry.Plain now p) v f = plain_same s now p (plain_is_durable s p f)
durable_is_applied s (entry.Offered marks) v f = offered_same s marks
durable_is_applied s (entry.Arrived now numbers part) v f = arrived_record_same s now numbers part (valid_holds s v) f
durable_is_applied s (entry.Taken now at id) v f = taken_same at id now (begun s) (valid_holds s v)
durable_is_applied s (entry.Purged now at) v f = purged_same at now (begun s) (valid_holds s v)
durable_is_applied s (entry.Ticked now) v f = ticked_same now (begun s) (valid_holds s v)
durable_is_applied s (entry.Set setting) v f = refl

-- Which records fit.

own_same : (s : State) (number : ℕ) (p : UserPacket) → is_own_packet (durable s) number p ≡ is_own_packet s number p
own_same s number p = ap (λ t. is_numbered s number p.message && nat_le number MAX_NUMBER && is_recoverable p.message.delivery && is_none p.tx && is_none p.session
    && is_found t && same_guid p.to (guid_at s t)) (resolved_same s p.message.destination)

sendable_same : (s : State) (beside : Headers) (number : ℕ) (p : UserPacket) → is_sendable (durable s) beside number p ≡ is_sendable s beside number p
sendable_same s beside number p = ap (λ b. b && not (is_too_large beside p.message)) (own_same s number p)

sends_fit_same : (s : State) (number : ℕ) (ops : List RecordOp) → sends_fit (durable s) number ops ≡ sends_fit s number ops
sends_fit_same s number [] = refl
sends_fit_same s number (Send p ∷ ops) = ap (λ b. b && sends_fit (durable s) (number + 1) ops) (sendable_same s headers.TxAndSession number p)
    ∙ ap (λ b. is_sendable s headers.TxAndSession number p && b) (sends_fit_same s (number + 1) ops)
sends_fit_same s number (Take queue id ∷ ops) = sends_fit_same s number ops

take_fits_same : (s : State) (now : ℕ) (at : EntryPlace) (id : MessageId) → take_fits (durable s) now at id ≡ take_fits s now at id
take_fits_same s now at id = ap is_some (index_same s at id now)

takes_fit_same : (now : ℕ) (e : Effect) (ops : List RecordOp) → Holds e.state → takes_fit (durable_effect e) now ops ≡ takes_fit e now ops
takes_fit_same now e [] h = refl
takes_fit_same now e (Send p ∷ ops) h = takes_fit_same now e ops h
takes_fit_same now e (Take queue id ∷ ops) h = ap (λ b. b && takes_fit (taken (place.Queue queue) id now (durable_effect e)) now ops) (take_fits_same e.state now (place.Queue queue) id)
    ∙ ap (λ b. take_fits e.state now (place.Queue queue) id && b) (ap (λ u. takes_fit u now ops) (taken_same (place.Queue queue) id now e h)
    ∙ takes_fit_same now (taken (place.Queue queue) id now e) ops (taken_holds (place.Queue queue) id now e h))

join_fits_same : (s : State) (t : Target) (destination : QueueName) → join_fits (durable s) t destination ≡ join_fits s t destination
join_fits_same s (AtPeer k) destination = refl
join_fits_same s t destination = refl

joins_fit_same : (now : ℕ) (e : Effect) (ms : List Message) → AllByRecursion IsDurable ms → joins_fit (durable_effect e) now ms ≡ joins_fit e now ms
joins_fit_same now e [] d = refl
joins_fit_same now e (m ∷ ms) d = ap (λ t. join_fits (durable e.state) t m.destination && joins_fit (send_made now (durable_effect e) m) now ms) (resolved_same e.state m.destination)
    ∙ ap (λ b. b && joins_fit (send_made now (durable_effect e) m) now ms) (join_fits_same e.state (resolved e.state m.destination) m.destination)
    ∙ ap (λ b. join_fits e.state (resolved e.state m.destination) m.destination && b) (ap (λ u. joins_fit u now ms) (send_made_same now e m d.0) ∙ joins_fit_same now (send_made now e m) ms d.1)

commit_fits_same : (s : State) (now : ℕ) (ops : List RecordOp) → Holds s → commit_fits (durable s) now ops ≡ commit_fits s now ops
commit_fits_same s now ops h = ap (λ b. (b && takes_fit (sends_numbered (durable s) ops) now ops) && joins_fit (takes_made (durable s) now ops) now (sends_of ops)) (sends_fit_same s s.next_number ops)
    ∙ ap (λ b. (sends_fit s s.next_number ops && b) && joins_fit (takes_made (durable s) now ops) now (sends_of ops)) (takes_fit_same now (sends_numbered s ops) ops h)
    ∙ ap (λ b. (sends_fit s s.next_number ops && takes_fit (sends_numbered s ops) now ops) && b)
    (ap (λ u. joins_fit u now (sends_of ops)) (takes_made_same s now ops h) ∙ joins_fit_same now (takes_made s now ops) (sends_of ops) (sent_durable ops))

queue_fits_same : (s : State) (number : ℕ) (plan : QueuePlan) → queue_fits (durable s) number plan ≡ queue_fits s number plan
queue_fits_same s number plan = ap (λ n. number == n + 1 && not (queue_there (durable s) plan) && nat_lt n MAX_QUEUES) (length-map s.places.queues durable_queue)
    ∙ ap (λ b. number == next_queue s && not (is_order_name plan.name || b) && nat_lt (length s.places.queues) MAX_QUEUES) (any_mapped (is_taken_by plan) durable_queue s.places.queues)

marks_fit_same : (s : State) (marks : List Mark) → offered_fits (durable s) marks ≡ offered_fits s marks
marks_fit_same s [] = refl
marks_fit_same s (mark ∷ marks) = ap (λ b. mark_fits s mark && b) (marks_fit_same (mark_raised s mark) marks)

release_fits_same : (s : State) (number : ℕ) → release_fits (durable s) number ≡ release_fits s number
release_fits_same s number = any_mapped (has_recoverable (durable s) number) durable_plain s.plain ∙ any_same (λ p. has_recoverable (durable s) number (durable_plain p)) (has_recoverable s number) s.plain (released_by_same s number)

releases_fit_same : (e : Effect) (numbers : List ℕ) → releases_fit (durable_effect e) numbers ≡ releases_fit e numbers
releases_fit_same e [] = refl
releases_fit_same e (number ∷ numbers) = ap (λ b. b && releases_fit (message_released (durable_effect e) number) numbers) (release_fits_same e.state number)
    ∙ ap (λ b. release_fits e.state number && b) (ap (λ u. releases_fit u numbers) (released_same e number) ∙ releases_fit_same (message_released e number) numbers)

final_test_same : (s : State) (m : Message) → is_final (durable s) m ≡ is_final s m
final_test_same s m = ap (λ t. (is_recoverable m.delivery && is_final_class m.class) && (names_order_layer m.destination && is_here t)) (resolved_same s m.destination)

part_fits_same : (s : State) (part : Part) → part_fits (durable s) part ≡ part_fits s part
part_fits_same s (Stored p) = ap (λ b. is_from_peer s p.message && is_recoverable p.message.delivery && not b) (final_test_same s p.message)
part_fits_same s (Final p) = ap (λ b. is_from_peer s p.message && b) (final_test_same s p.message)
part_fits_same s part = refl

arrived_fits_same : (s : State) (numbers : List ℕ) (part : Part) → arrived_fits (durable s) numbers part ≡ arrived_fits s numbers part
arrived_fits_same s numbers part = ap (λ b. b && part_fits (releases_made (durable s) numbers).state part) (releases_fit_same (begun s) numbers)
    ∙ ap (λ b. releases_fit (begun s) numbers && b) (ap (λ u. part_fits u.state part) (releases_same (begun s) numbers) ∙ part_fits_same (releases_made s numbers).state part)

place_fits_same : (s : State) (at : EntryPlace) → is_some (lists_at (durable s).places at) ≡ is_some (lists_at s.places at)
place_fits_same s at = ap is_some (lists_same s.places at) ∙ by (lists_at s.places at)
  where
    by : (o : Option Lists) → is_some (option_map durable_lists o) ≡ is_some o
    by None = refl
    by (Some l) = refl

pub durable_is_fitted : DurableIsFitted
durable_is_fitted s (entry.CreateQueue number plan) v = queue_fits_same s number plan
durable_is_fitted s (entry.Commit now ops) v = commit_fits_same s now ops (valid_holds s v)
durable_is_fitted s (entry.Plain now p) v = sendable_same s headers.Session s.next_number p
durable_is_fitted s (entry.Offered marks) v = marks_fit_same s marks
durable_is_fitted s (entry.Arrived now numbers part) v = arrived_fits_same s numbers part
durable_is_fitted s (entry.Taken now at id) v = take_fits_same s now at id
durable_is_fitted s (entry.Purged now at) v = place_fits_same s at
durable_is_fitted s r v = refl
