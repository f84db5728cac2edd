-- What records and what is done beside them keep of a manager's state: who it is, and its rows where the record is of no stream.
use Rattle.std.proofs.Common.{refl, arith}
use Rattle.std.specs.Option.{option_map_or}
use Rattle.std.specs.Prelude.{[], ◌∷◌, Bool, List, None, Option, Some, cond, fold, suc, zero, ℕ}
use Rattle.mqb_base.specs.declared.message.Delivery.TheVariants as delivery
use Rattle.mqb_base.specs.declared.message.Lane.TheVariants as lane
use Rattle.mqb_base.specs.declared.message.Message.{Message}
use Rattle.mqb_base.specs.declared.heads.SessionHead.{SessionHead}
use Rattle.mqb_base.specs.declared.queues.EntryPlace.TheVariants as place
use Rattle.mqb_entries.specs.declared.members.Mark.{Mark}
use Rattle.mqb_model.specs.declared.target.Target.{Target}
use Rattle.mqb_model.specs.declared.target.Target.TheVariants.{AtPeer, Here, Nowhere}
use Rattle.mqb_model.specs.managers.Beside.{Beside, Origin, beside_done, express_sent, noted, without_acked}
use Rattle.mqb_model.specs.managers.Beside as beside
use Rattle.mqb_model.specs.managers.Outcomes.{recorded}
use Rattle.mqb_model.specs.records.Applying.{apply}
use Rattle.mqb_model.specs.records.Arrived.{part_made}
use Rattle.mqb_model.specs.records.Commit.{op_taken, send_made, sends_numbered, sends_of, takes_made}
use Rattle.mqb_model.specs.records.Decisions.{message_decided, with_decided}
use Rattle.mqb_model.specs.records.Finals.{finished_at, final_stored, finished_by, index_finished, kept_named, with_finished, dead_for}
use Rattle.mqb_model.specs.records.Offered.{mark_raised}
use Rattle.mqb_model.specs.records.Record.{Part, Record, RecordOp}
use Rattle.mqb_model.specs.records.Record as entry
use Rattle.mqb_model.specs.records.Releases.{message_released, releases_made}
use Rattle.mqb_model.specs.rules.Arrivals.{refusal_of, storing_refusal}
use Rattle.mqb_model.specs.rules.Effects.{Effect, begun, joined}
use Rattle.mqb_model.specs.rules.Notices.{arrived, meets}
use Rattle.mqb_model.specs.rules.Numbers.{number_taken, numbers_taken}
use Rattle.mqb_model.specs.rules.Sends.{committed_to, journalled, message_sent}
use Rattle.mqb_model.specs.rules.Sequences.{join, new_sequence, sequence_in_use, with_kept, with_sequence}
use Rattle.mqb_model.specs.state.Rows.{with_row}
use Rattle.mqb_base.specs.declared.class.TheConstants.Class.{REACH_TIMEOUT}
use Rattle.mqb_model.specs.rules.Timeouts.{expiring, expiring_in, message_expired, next_expired, row_expired, rows_expired, with_expired}
use Rattle.mqb_model.specs.state.Places.{put_at, with_plain}
use Rattle.mqb_model.specs.state.Resolving.{peer_known, resolved}
use Rattle.mqb_model.specs.state.State.{State}
use Rattle.mqb_orders.specs.Rows.{Row}
use Rattle.mqb_base.specs.Classes.{is_negative}
use Rattle.std.specs.Prelude.{IfSome, false, length, option_and_then, slice_get, true}
use Rattle.mqb_base.specs.declared.heads.TxHead.{TxHead}
use Rattle.mqb_model.specs.Loops.{for_each_below, repeated}
use Rattle.mqb_packet.specs.declared.packet.UserPacket.{UserPacket}
use Rattle.mqb_history.specs.Made.{IsMade}
use Rattle.mqb_history.proofs.Staying.{HasSameRows, IsSameManager, KeepsRows, arrived_rows, delivered_rows, journalled_rows, manager_then, meets_rows, number_rows, plain_sent_rows, purged_rows, put_rows, rows_then, same_manager, same_rows, taken_at_rows, taken_rows, ticked_rows}

-- What is done beside a record.

noted_rows : (peer : ℕ) (s : State) (o : Origin) (head : SessionHead) → HasSameRows s (noted peer s (o, head))
noted_rows peer s (beside.Owed row) head = number_rows s delivery.Express
noted_rows peer s beside.OfRecoverable head = record { manager = record { identity = refl; peers = refl }; outs = refl; ins = refl; next_ordinal = refl; numbers = omega arith }
noted_rows peer s beside.OfExpress head = record { manager = record { identity = refl; peers = refl }; outs = refl; ins = refl; next_ordinal = refl; numbers = omega arith }
noted_rows peer s (beside.OfRow row number) head = same_rows s

all_noted_rows : (peer : ℕ) (s : State) (sent : List (Origin × SessionHead)) → HasSameRows s (fold (noted peer) s sent)
all_noted_rows peer s [] = same_rows s
all_noted_rows peer s (g ∷ gs) = rows_then s (noted peer s g) (fold (noted peer) (noted peer s g) gs) (noted_rows peer s g.0 g.1) (all_noted_rows peer (noted peer s g) gs)

pub beside_rows : (b : Beside) (s : State) → HasSameRows s (beside_done b s)
beside_rows beside.Nothing s = same_rows s
beside_rows (beside.SendsExpress now m) s = rows_then s (number_taken s delivery.Express) (express_sent s m now) (number_rows s delivery.Express)
    (plain_sent_rows (number_taken s delivery.Express) m now)
beside_rows (beside.TakesExpress now at index) s = taken_at_rows lane.Express at index now (begun s)
beside_rows (beside.PurgesExpress now at) s = purged_rows lane.Express at now (begun s)
beside_rows (beside.TicksExpress now) s = ticked_rows lane.Express now (begun s)
beside_rows beside.Unmarks s = record { manager = record { identity = refl; peers = refl }; outs = refl; ins = refl; next_ordinal = refl; numbers = omega arith }
beside_rows (beside.DropsExpress peer number) s = record { manager = record { identity = refl; peers = refl }; outs = refl; ins = refl; next_ordinal = refl; numbers = omega arith }
beside_rows (beside.HearsExpress peer number now m refusal) s = rows_then s (with_plain (without_acked number) s peer) (arrived (with_plain (without_acked number) s peer) m now refusal)
    (record { manager = record { identity = refl; peers = refl }; outs = refl; ins = refl; next_ordinal = refl; numbers = omega arith }) (arrived_rows (with_plain (without_acked number) s peer) m now refusal)
beside_rows (beside.NotesSent peer sent) s = all_noted_rows peer s sent

-- Transactions.

-- an effect is of the same manager
abbrev pub KeepsManager : Effect → Effect → Type 0
KeepsManager e f = IsSameManager e.state f.state

manager_or : {X : Type 0} (s : State) (f : X → State) (o : Option X) → ((x : X) → IsSameManager s (f x)) → IsSameManager s (option_map_or f o s)
manager_or s f None some = same_manager s
manager_or s f (Some x) some = some x

effect_or : {X : Type 0} (e : Effect) (f : X → Effect) (o : Option X) → ((x : X) → KeepsManager e (f x)) → KeepsManager e (option_map_or f o e)
effect_or e f None some = same_manager e.state
effect_or e f (Some x) some = some x

op_taken_rows : (now : ℕ) (e : Effect) (op : RecordOp) → KeepsRows e (op_taken now e op)
op_taken_rows now e (entry.Send p) = same_rows e.state
op_taken_rows now e (entry.Take queue id) = taken_rows (place.Queue queue) id now e

pub ops_taken_rows : (now : ℕ) (e : Effect) (ops : List RecordOp) → KeepsRows e (fold (op_taken now) e ops)
ops_taken_rows now e [] = same_rows e.state
ops_taken_rows now e (op ∷ ops) = rows_then e.state (op_taken now e op).state (fold (op_taken now) (op_taken now e op) ops).state (op_taken_rows now e op) (ops_taken_rows now (op_taken now e op) ops)

pub takes_made_rows : (s : State) (now : ℕ) (ops : List RecordOp) → HasSameRows s (takes_made s now ops).state
takes_made_rows s now ops = rows_then s (sends_numbered s ops).state (takes_made s now ops).state
    (record { manager = record { identity = refl; peers = refl }; outs = refl; ins = refl; next_ordinal = refl; numbers = omega arith }) (ops_taken_rows now (sends_numbered s ops) ops)

join_manager : (s : State) (peer now : ℕ) (m : Message) → IsSameManager s (join s peer now m)
join_manager s peer now m = at (sequence_in_use s peer m.destination)
  where
    at : (o : Option Row) → IsSameManager s (option_map_or (λ row. with_row (with_kept m) s row.sequence.ordinal) o
        (with_sequence s (with_kept m (new_sequence s peer m.destination now))))
    at None = record { identity = refl; peers = refl }
    at (Some row) = record { identity = refl; peers = refl }

to_manager : (now : ℕ) (s : State) (t : Target) (m : Message) → IsSameManager s (committed_to now s t m).state
to_manager now s (AtPeer k) m = join_manager s k now m
to_manager now s (Here queue) m = (delivered_rows s (Here queue) m now).manager
to_manager now s Nowhere m = (delivered_rows s Nowhere m now).manager

pub sent_manager : (now : ℕ) (s : State) (m : Message) → IsSameManager s (message_sent now s m).state
sent_manager now s m = manager_then s (journalled s m) (message_sent now s m).state (journalled_rows s m).manager (to_manager now (journalled s m) (resolved s m.destination) m)

sends_manager : (now : ℕ) (e : Effect) (ms : List Message) → KeepsManager e (fold (send_made now) e ms)
sends_manager now e [] = same_manager e.state
sends_manager now e (m ∷ ms) = manager_then e.state (send_made now e m).state (fold (send_made now) (send_made now e m) ms).state (sent_manager now e.state m) (sends_manager now (send_made now e m) ms)

-- Marks, releases and parts.

marks_manager : (s : State) (marks : List Mark) → IsSameManager s (fold mark_raised s marks)
marks_manager s [] = same_manager s
marks_manager s (mark ∷ marks) = manager_then s (mark_raised s mark) (fold mark_raised (mark_raised s mark) marks) (record { identity = refl; peers = refl }) (marks_manager (mark_raised s mark) marks)

pub releases_rows : (e : Effect) (numbers : List ℕ) → KeepsRows e (fold message_released e numbers)
releases_rows e [] = same_rows e.state
releases_rows e (n ∷ ns) = rows_then e.state (message_released e n).state (fold message_released (message_released e n) ns).state
    (record { manager = record { identity = refl; peers = refl }; outs = refl; ins = refl; next_ordinal = refl; numbers = omega arith }) (releases_rows (message_released e n) ns)

pub dead_rows : (class : _) (s : State) (m : Message) → HasSameRows s (dead_for class s m)
dead_rows class s m = at (is_negative class.0)
  where
    at : (b : Bool) → HasSameRows s (cond b (put_at s place.DeadXact m) s)
    at true = put_rows s place.DeadXact m
    at false = same_rows s

finished_at_manager : (s : State) (m : Message) (index : ℕ) → IsSameManager s (finished_at s m index)
finished_at_manager s m index = manager_or s (λ k. dead_for m.class (with_finished m.correlation s index k) k.message)
    (option_and_then (kept_named m.correlation) (slice_get s.outs index))
    (λ k. manager_then s (with_finished m.correlation s index k) (dead_for m.class (with_finished m.correlation s index k) k.message)
    (record { identity = refl; peers = refl }) (dead_rows m.class (with_finished m.correlation s index k) k.message).manager)

finished_manager : (s : State) (peer : ℕ) (m : Message) → IsSameManager s (finished_by s peer m)
finished_manager s peer m = manager_or s (finished_at s m) (index_finished s peer m) (finished_at_manager s m)

final_manager : (s : State) (m : Message) → IsSameManager s (final_stored s m).state
final_manager s m = manager_or s (λ peer. finished_by s peer m) (peer_known s m.id.qm) (λ peer. finished_manager s peer m)

decided_manager : (now : ℕ) (s : State) (p : UserPacket) (tx : TxHead) → IsSameManager s (message_decided now s p tx).state
decided_manager now s p tx = manager_then s (with_decided s p.message tx) (message_decided now s p tx).state (record { identity = refl; peers = refl })
    (arrived_rows (with_decided s p.message tx) p.message now (refusal_of s p)).manager

part_manager : (now : ℕ) (e : Effect) (part : Part) → KeepsManager e (part_made now e part)
part_manager now e entry.Nothing = same_manager e.state
part_manager now e (entry.Decided p) = effect_or e (λ tx. joined e (message_decided now e.state p tx)) p.tx (λ tx. decided_manager now e.state p tx)
part_manager now e (entry.Stored p) = (arrived_rows e.state p.message now (storing_refusal e.state p)).manager
part_manager now e (entry.OrderAcknowledged ordinal number) = record { identity = refl; peers = refl }
part_manager now e (entry.Final p) = final_manager e.state p.message

-- Messages of sequences expire.

pub expired_manager : (now k : ℕ) (e : Effect) → KeepsManager e (next_expired now k e)
expired_manager now k e = effect_or e (λ (row : Row). option_map_or (λ kept. joined e (message_expired now k e.state row kept)) (expiring now row) e) (slice_get e.state.outs k)
    (λ row. effect_or e (λ kept. joined e (message_expired now k e.state row kept)) (expiring now row)
    (λ kept. manager_then e.state (with_expired now e.state k) (meets (with_expired now e.state k) kept.message REACH_TIMEOUT now)
    (record { identity = refl; peers = refl }) (meets_rows (with_expired now e.state k) kept.message REACH_TIMEOUT now).manager))

repeated_manager : (step : Effect → Effect) → ((e : Effect) → KeepsManager e (step e)) → (n : ℕ) (e : Effect) → KeepsManager e (repeated n step e)
repeated_manager step keeps zero e = same_manager e.state
repeated_manager step keeps (suc n) e = manager_then e.state (repeated n step e).state (step (repeated n step e)).state (repeated_manager step keeps n e) (keeps (repeated n step e))

each_manager : (step : ℕ → Effect → Effect) → ((k : ℕ) (e : Effect) → KeepsManager e (step k e)) → (n : ℕ) (e : Effect) → KeepsManager e (for_each_below n step e)
each_manager step keeps zero e = same_manager e.state
each_manager step keeps (suc n) e = manager_then e.state (for_each_below n step e).state (step n (for_each_below n step e)).state (each_manager step keeps n e) (keeps n (for_each_below n step e))

expiring_manager : (now : ℕ) (e : Effect) → KeepsManager e (rows_expired now e)
expiring_manager now e = each_manager (row_expired now)
    (λ k e. repeated_manager (next_expired now k) (expired_manager now k) (option_map_or (expiring_in now) (slice_get e.state.outs k) 0) e) (length e.state.outs) e

-- Every record but one of a peer.

-- a record adds no peer
abbrev pub IsOfNoPeer : Record → Type 0
IsOfNoPeer (entry.Peer peer) = ⊥
IsOfNoPeer _ = Unit {0}

pub made_of_no_peer : (s : State) (r : Record) → IsMade s r → IsOfNoPeer r
made_of_no_peer s (entry.Peer peer) h = h
made_of_no_peer s r h = tt

pub applied_manager : (s : State) (r : Record) → IsOfNoPeer r → IsSameManager s (apply s r)
applied_manager s (entry.Identity identity) h = same_manager s
applied_manager s (entry.Peer peer) h = absurd h
applied_manager s (entry.CreateQueue number plan) h = record { identity = refl; peers = refl }
applied_manager s (entry.Commit now ops) h = manager_then s (takes_made s now ops).state (apply s (entry.Commit now ops)) (takes_made_rows s now ops).manager
    (sends_manager now (takes_made s now ops) (sends_of ops))
applied_manager s (entry.Plain now p) h = manager_then s (numbers_taken s 1) (apply s (entry.Plain now p)) (record { identity = refl; peers = refl })
    (plain_sent_rows (numbers_taken s 1) p.message now).manager
applied_manager s (entry.Offered marks) h = marks_manager s marks
applied_manager s (entry.Arrived now numbers part) h = manager_then s (releases_made s numbers).state (apply s (entry.Arrived now numbers part))
    (releases_rows (begun s) numbers).manager (part_manager now (releases_made s numbers) part)
applied_manager s (entry.Taken now at id) h = (taken_rows at id now (begun s)).manager
applied_manager s (entry.Purged now at) h = (purged_rows lane.Durable at now (begun s)).manager
applied_manager s (entry.Ticked now) h = manager_then s (rows_expired now (begun s)).state (apply s (entry.Ticked now)) (expiring_manager now (begun s))
    (ticked_rows lane.Durable now (rows_expired now (begun s))).manager
applied_manager s (entry.Set setting) h = record { identity = refl; peers = refl }

-- a call's record, where there is one, and what it does beside it
pub recorded_manager : (s : State) (o : Option Record) → IfSome o (IsMade s) → IsSameManager s (recorded s o)
recorded_manager s None h = same_manager s
recorded_manager s (Some r) h = applied_manager s r (made_of_no_peer s r h)
