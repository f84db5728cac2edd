-- Incoming rows: only a record of a decision touches them.
use Rattle.std.proofs.Common.{refl, ap, ◌∙◌}
use Rattle.std.specs.Option.{option_map_or}
use Rattle.std.specs.Prelude.{[], ◌++◌, ◌∷◌, ◌≡◌, List, None, Option, Some, fold, length, option_and_then, position, slice_get, slice_set, suc, zero, ℕ}
use Rattle.mqb_base.specs.declared.class.TheConstants.Class.{REACH_TIMEOUT}
use Rattle.mqb_base.specs.declared.heads.TxHead.{TxHead}
use Rattle.mqb_base.specs.declared.message.Lane.TheVariants as lane
use Rattle.mqb_base.specs.declared.message.Message.{Message}
use Rattle.mqb_entries.specs.declared.members.Mark.{Mark}
use Rattle.mqb_model.specs.Loops.{for_each_below, repeated}
use Rattle.mqb_model.specs.declared.target.Target.{Target}
use Rattle.mqb_model.specs.declared.target.Target.TheVariants.{AtPeer, Here, Nowhere}
use Rattle.mqb_model.specs.records.Applying.{apply}
use Rattle.mqb_model.specs.records.Commit.{send_made, sends_of, takes_made}
use Rattle.mqb_model.specs.records.Decisions.{decided_row, message_decided, with_decided}
use Rattle.mqb_model.specs.records.Finals.{dead_for, final_stored, finished_at, finished_by, index_finished, kept_named, with_finished}
use Rattle.mqb_model.specs.records.Offered.{mark_raised}
use Rattle.mqb_model.specs.records.Record.{Part, Record}
use Rattle.mqb_model.specs.records.Record as entry
use Rattle.mqb_model.specs.records.Releases.{releases_made}
use Rattle.mqb_model.specs.rules.Arrivals.{refusal_of, storing_refusal}
use Rattle.mqb_model.specs.rules.Effects.{Effect, begun, joined}
use Rattle.mqb_model.specs.rules.Numbers.{numbers_taken}
use Rattle.mqb_model.specs.rules.Sends.{committed_to, journalled}
use Rattle.mqb_model.specs.rules.Sequences.{join, new_sequence, sequence_in_use, with_kept, with_sequence}
use Rattle.mqb_model.specs.rules.Timeouts.{expiring, expiring_in, message_expired, next_expired, row_expired, rows_expired, with_expired}
use Rattle.mqb_model.specs.state.Resolving.{peer_known, resolved}
use Rattle.mqb_model.specs.state.Rows.{is_row_of, with_row}
use Rattle.mqb_model.specs.state.State.{State}
use Rattle.mqb_orders.specs.Rows.{Row}
use Rattle.mqb_packet.specs.declared.packet.UserPacket.{UserPacket}
use Rattle.mqb_history.proofs.Applying.{dead_rows, releases_rows, takes_made_rows}
use Rattle.mqb_history.proofs.Staying.{arrived_rows, delivered_rows, journalled_rows, meets_rows, plain_sent_rows, purged_rows, taken_rows, ticked_rows}

-- the same incoming rows
abbrev SameIns : State → State → Type 0
SameIns a b = b.ins ≡ a.ins

ins_or : {X : Type 0} (s : State) (f : X → State) (o : Option X) → ((x : X) → SameIns s (f x)) → SameIns s (option_map_or f o s)
ins_or s f None some = refl
ins_or s f (Some x) some = some x

effect_or : {X : Type 0} (e : Effect) (f : X → Effect) (o : Option X) → ((x : X) → SameIns e.state (f x).state) → SameIns e.state (option_map_or f o e).state
effect_or e f None some = refl
effect_or e f (Some x) some = some x

join_ins : (s : State) (peer now : ℕ) (m : Message) → SameIns s (join s peer now m)
join_ins s peer now m = at (sequence_in_use s peer m.destination)
  where
    at : (o : Option Row) → SameIns s (option_map_or (λ row. with_row (with_kept m) s row.sequence.ordinal) o
        (with_sequence s (with_kept m (new_sequence s peer m.destination now))))
    at None = refl
    at (Some row) = refl

to_ins : (now : ℕ) (s : State) (t : Target) (m : Message) → SameIns s (committed_to now s t m).state
to_ins now s (AtPeer k) m = join_ins s k now m
to_ins now s (Here queue) m = (delivered_rows s (Here queue) m now).ins
to_ins now s Nowhere m = (delivered_rows s Nowhere m now).ins

sends_ins : (now : ℕ) (e : Effect) (ms : List Message) → SameIns e.state (fold (send_made now) e ms).state
sends_ins now e [] = refl
sends_ins now e (m ∷ ms) = sends_ins now (send_made now e m) ms
    ∙ to_ins now (journalled e.state m) (resolved e.state m.destination) m ∙ (journalled_rows e.state m).ins

marks_ins : (s : State) (marks : List Mark) → SameIns s (fold mark_raised s marks)
marks_ins s [] = refl
marks_ins s (mark ∷ marks) = marks_ins (mark_raised s mark) marks

finished_ins : (s : State) (m : Message) (index : ℕ) → SameIns s (finished_at s m index)
finished_ins s m index = ins_or s (λ k. dead_for m.class (with_finished m.correlation s index k) k.message)
    (option_and_then (kept_named m.correlation) (slice_get s.outs index)) (λ k. (dead_rows m.class (with_finished m.correlation s index k) k.message).ins)

final_ins : (s : State) (m : Message) → SameIns s (final_stored s m).state
final_ins s m = ins_or s (λ peer. finished_by s peer m) (peer_known s m.id.qm)
    (λ peer. ins_or s (finished_at s m) (index_finished s peer m) (finished_ins s m))

expired_ins : (now k : ℕ) (e : Effect) → SameIns e.state (next_expired now k e).state
expired_ins now k e = effect_or e (λ (row : Row). option_map_or (λ kept. joined e (message_expired now k e.state row kept)) (expiring now row) e) (slice_get e.state.outs k)
    (λ row. effect_or e (λ kept. joined e (message_expired now k e.state row kept)) (expiring now row)
    (λ kept. (meets_rows (with_expired now e.state k) kept.message REACH_TIMEOUT now).ins))

repeated_ins : (step : Effect → Effect) → ((e : Effect) → SameIns e.state (step e).state) → (n : ℕ) (e : Effect) → SameIns e.state (repeated n step e).state
repeated_ins step keeps zero e = refl
repeated_ins step keeps (suc n) e = keeps (repeated n step e) ∙ repeated_ins step keeps n e

each_ins : (step : ℕ → Effect → Effect) → ((k : ℕ) (e : Effect) → SameIns e.state (step k e).state) → (n : ℕ) (e : Effect) → SameIns e.state (for_each_below n step e).state
each_ins step keeps zero e = refl
each_ins step keeps (suc n) e = keeps n (for_each_below n step e) ∙ each_ins step keeps n e

expiring_ins : (now : ℕ) (e : Effect) → SameIns e.state (rows_expired now e).state
expiring_ins now e = each_ins (row_expired now)
    (λ k e. repeated_ins (next_expired now k) (expired_ins now k) (option_map_or (expiring_in now) (slice_get e.state.outs k) 0) e) (length e.state.outs) e

-- a record that decides nothing
abbrev pub DecidesNothing : Record → Type 0
DecidesNothing (entry.Arrived now numbers (entry.Decided p)) = ⊥
DecidesNothing _ = Unit {0}

pub applied_ins : (s : State) (r : Record) → DecidesNothing r → SameIns s (apply s r)
applied_ins s (entry.Commit now ops) h = sends_ins now (takes_made s now ops) (sends_of ops) ∙ (takes_made_rows s now ops).ins
applied_ins s (entry.Plain now p) h = (plain_sent_rows (numbers_taken s 1) p.message now).ins
applied_ins s (entry.Offered marks) h = marks_ins s marks
applied_ins s (entry.Arrived now numbers entry.Nothing) h = (releases_rows (begun s) numbers).ins
applied_ins s (entry.Arrived now numbers (entry.Decided p)) h = absurd h
applied_ins s (entry.Arrived now numbers (entry.Stored p)) h = let e = releases_made s numbers in
    (arrived_rows e.state p.message now (storing_refusal e.state p)).ins ∙ (releases_rows (begun s) numbers).ins
applied_ins s (entry.Arrived now numbers (entry.OrderAcknowledged ordinal number)) h = (releases_rows (begun s) numbers).ins
applied_ins s (entry.Arrived now numbers (entry.Final p)) h = final_ins (releases_made s numbers).state p.message ∙ (releases_rows (begun s) numbers).ins
applied_ins s (entry.Taken now at id) h = (taken_rows at id now (begun s)).ins
applied_ins s (entry.Purged now at) h = (purged_rows lane.Durable at now (begun s)).ins
applied_ins s (entry.Ticked now) h = (ticked_rows lane.Durable now (rows_expired now (begun s))).ins ∙ expiring_ins now (begun s)
applied_ins s r h = refl

-- and one that decides a message with this header: its row is another one now
pub decided_ins : (s : State) (now : ℕ) (numbers : List ℕ) (p : UserPacket) (tx : TxHead) → p.tx ≡ Some tx
    → (apply s (entry.Arrived now numbers (entry.Decided p))).ins ≡ (with_decided s p.message tx).ins
decided_ins s now numbers p tx there = ap (λ o. (option_map_or (λ tx. joined e (message_decided now e.state p tx)) o e).state.ins) there
    ∙ (arrived_rows (with_decided e.state p.message tx) p.message now (refusal_of e.state p)).ins
    ∙ ap (λ rows. option_map_or (λ k. slice_set rows k (decided_row p.message tx)) (position (is_row_of p.message.id.qm p.message.destination) rows) (rows ++ decided_row p.message tx ∷ []))
    (releases_rows (begun s) numbers).ins
  where
    e : Effect
    e = releases_made s numbers
