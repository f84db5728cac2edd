-- What is done behind other things is done as by itself, and its lines stand behind theirs.
use Rattle.std.proofs.Common.{refl, ap, sym, ◌∙◌}
use Rattle.std.proofs.lemmas.List.{append-nil, append_assoc}
use Rattle.std.specs.Option.{option_map_or}
use Rattle.std.specs.Prelude.{◌+◌, ◌≡◌, List, None, Option, Some, length, slice_get, suc, zero, ℕ}
use Rattle.mqb_base.specs.declared.ids.MessageId.{MessageId}
use Rattle.mqb_base.specs.declared.ledger.Line.{Line}
use Rattle.mqb_base.specs.declared.message.Lane.{Lane}
use Rattle.mqb_base.specs.declared.message.Lane.TheVariants as lane
use Rattle.mqb_base.specs.declared.queues.EntryPlace.{EntryPlace}
use Rattle.mqb_orders.specs.Rows.{Row}
use Rattle.mqb_plain.specs.Plain.{PlainLists, outgoing_in}
use Rattle.mqb_plain.specs.declared.outgoing.Outgoing.{Outgoing}
use Rattle.mqb_queue.specs.First.{index_named}
use Rattle.mqb_queue.specs.Lists.{messages_in}
use Rattle.mqb_queue.specs.Places.{Queue}
use Rattle.mqb_model.specs.Loops.{for_each_below, repeated}
use Rattle.mqb_model.specs.rules.Effects.{Effect, begun, joined, without_line}
use Rattle.mqb_model.specs.rules.Purges.{count_at, message_purged, oldest_purged, purged}
use Rattle.mqb_model.specs.rules.Takes.{message_at, message_taken, taken, taken_at}
use Rattle.mqb_model.specs.rules.Timeouts.{expiring, expiring_in, lane_ticked, lapsing, lapsing_in, message_expired, message_lapsed, message_swept, next_expired, next_lapsed, next_swept, peer_lapsed, queue_swept, row_expired, rows_expired, sweeping, sweeping_in}
use Rattle.mqb_model.specs.state.State.{State}

pub joined_again : (e f g : Effect) → joined (joined e f) g ≡ joined e (joined f g)
joined_again e f g = ap with_lines (append_assoc e.lines f.lines g.lines)
  where
    with_lines : List Line → Effect
    with_lines ls = record { state = g.state; lines = ls }

pub joined_begun : (e : Effect) (s : State) → joined e (begun s) ≡ without_line e s
joined_begun e s = ap with_lines (append-nil e.lines)
  where
    with_lines : List Line → Effect
    with_lines ls = record { state = s; lines = ls }

-- what was done before makes no difference but for its lines
abbrev pub Frames : (Effect → Effect) → Type 0
Frames f = (e x : Effect) → f (joined e x) ≡ joined e (f x)

-- it is done to a state, and its lines join those before
pub whole : (f : Effect → Effect) → Frames f → (e : Effect) → f e ≡ joined e (f (begun e.state))
whole f frames e = ap f (sym (joined_begun e e.state)) ∙ frames e (begun e.state)

pub repeated_frames : (n : ℕ) (f : Effect → Effect) → Frames f → Frames (repeated n f)
repeated_frames zero f frames e x = refl
repeated_frames (suc n) f frames e x = ap f (repeated_frames n f frames e x) ∙ frames e (repeated n f x)

each_frames : (n : ℕ) (f : ℕ → Effect → Effect) → ((k : ℕ) → Frames (f k)) → Frames (for_each_below n f)
each_frames zero f frames e x = refl
each_frames (suc n) f frames e x = ap (f n) (each_frames n f frames e x) ∙ frames n e (for_each_below n f x)

-- a thing that is done where there is one
some_frames : {X : Type 0} (make : X → Effect) (e x : Effect) (o : Option X)
    → option_map_or (λ y. joined (joined e x) (make y)) o (joined e x) ≡ joined e (option_map_or (λ y. joined x (make y)) o x)
some_frames make e x None = refl
some_frames make e x (Some y) = joined_again e x (make y)

-- Takes and purges.

taken_at_frames : (kind : Lane) (at : EntryPlace) (k now : ℕ) → Frames (taken_at kind at k now)
taken_at_frames kind at k now e x = some_frames (message_taken kind at k now x.state) e x (message_at kind x.state at k)

pub taken_frames : (at : EntryPlace) (id : MessageId) (now : ℕ) → Frames (taken at id now)
taken_frames at id now e x = by (index_named x.state.places at id now)
  where
    by : (o : Option ℕ) → option_map_or (λ k. taken_at lane.Durable at k now (joined e x)) o (joined e x)
        ≡ joined e (option_map_or (λ k. taken_at lane.Durable at k now x) o x)
    by None = refl
    by (Some k) = taken_at_frames lane.Durable at k now e x

oldest_frames : (kind : Lane) (at : EntryPlace) (now : ℕ) → Frames (oldest_purged kind at now)
oldest_frames kind at now e x = some_frames (message_purged kind at now x.state) e x (message_at kind x.state at 0)

pub purged_frames : (kind : Lane) (at : EntryPlace) (now : ℕ) → Frames (purged kind at now)
purged_frames kind at now e x = repeated_frames (count_at kind x.state at) (oldest_purged kind at now) (oldest_frames kind at now) e x

-- Ticks.

expired_frames : (now k : ℕ) → Frames (next_expired now k)
expired_frames now k e x = by (slice_get x.state.outs k)
  where
    by : (o : Option Row) → option_map_or (λ row. option_map_or (λ kept. joined (joined e x) (message_expired now k x.state row kept)) (expiring now row) (joined e x)) o (joined e x)
        ≡ joined e (option_map_or (λ row. option_map_or (λ kept. joined x (message_expired now k x.state row kept)) (expiring now row) x) o x)
    by None = refl
    by (Some row) = some_frames (message_expired now k x.state row) e x (expiring now row)

row_frames : (now k : ℕ) → Frames (row_expired now k)
row_frames now k e x = repeated_frames (option_map_or (expiring_in now) (slice_get x.state.outs k) 0) (next_expired now k) (expired_frames now k) e x

pub rows_frames : (now : ℕ) → Frames (rows_expired now)
rows_frames now e x = each_frames (length x.state.outs) (row_expired now) (row_frames now) e x

lapsed_frames : (kind : Lane) (now k : ℕ) → Frames (next_lapsed kind now k)
lapsed_frames kind now k e x = by (slice_get x.state.plain k)
  where
    one : (p : PlainLists) (o : Option ℕ)
        → option_map_or (λ index. option_map_or (λ o. joined (joined e x) (message_lapsed kind now k index x.state o.message)) (slice_get (outgoing_in kind p) index) (joined e x)) o (joined e x)
        ≡ joined e (option_map_or (λ index. option_map_or (λ o. joined x (message_lapsed kind now k index x.state o.message)) (slice_get (outgoing_in kind p) index) x) o x)
    one p None = refl
    one p (Some index) = some_frames (λ (o : Outgoing). message_lapsed kind now k index x.state o.message) e x (slice_get (outgoing_in kind p) index)

    by : (o : Option PlainLists)
        → option_map_or (λ p. option_map_or (λ index. option_map_or (λ o. joined (joined e x) (message_lapsed kind now k index x.state o.message)) (slice_get (outgoing_in kind p) index) (joined e x))
        (lapsing kind now p) (joined e x)) o (joined e x)
        ≡ joined e (option_map_or (λ p. option_map_or (λ index. option_map_or (λ o. joined x (message_lapsed kind now k index x.state o.message)) (slice_get (outgoing_in kind p) index) x)
        (lapsing kind now p) x) o x)
    by None = refl
    by (Some p) = one p (lapsing kind now p)

peer_frames : (kind : Lane) (now k : ℕ) → Frames (peer_lapsed kind now k)
peer_frames kind now k e x = repeated_frames (option_map_or (lapsing_in kind now) (slice_get x.state.plain k) 0) (next_lapsed kind now k) (lapsed_frames kind now k) e x

swept_frames : (kind : Lane) (now k : ℕ) → Frames (next_swept kind now k)
swept_frames kind now k e x = by (slice_get x.state.places.queues k)
  where
    one : (q : Queue) (o : Option ℕ)
        → option_map_or (λ index. option_map_or (λ m. joined (joined e x) (message_swept kind now (k + 1) index x.state m)) (slice_get (messages_in kind q.lists) index) (joined e x)) o (joined e x)
        ≡ joined e (option_map_or (λ index. option_map_or (λ m. joined x (message_swept kind now (k + 1) index x.state m)) (slice_get (messages_in kind q.lists) index) x) o x)
    one q None = refl
    one q (Some index) = some_frames (message_swept kind now (k + 1) index x.state) e x (slice_get (messages_in kind q.lists) index)

    by : (o : Option Queue)
        → option_map_or (λ q. option_map_or (λ index. option_map_or (λ m. joined (joined e x) (message_swept kind now (k + 1) index x.state m)) (slice_get (messages_in kind q.lists) index) (joined e x))
        (sweeping kind now q) (joined e x)) o (joined e x)
        ≡ joined e (option_map_or (λ q. option_map_or (λ index. option_map_or (λ m. joined x (message_swept kind now (k + 1) index x.state m)) (slice_get (messages_in kind q.lists) index) x)
        (sweeping kind now q) x) o x)
    by None = refl
    by (Some q) = one q (sweeping kind now q)

queue_frames : (kind : Lane) (now k : ℕ) → Frames (queue_swept kind now k)
queue_frames kind now k e x = repeated_frames (option_map_or (sweeping_in kind now) (slice_get x.state.places.queues k) 0) (next_swept kind now k) (swept_frames kind now k) e x

pub ticked_frames : (kind : Lane) (now : ℕ) → Frames (lane_ticked kind now)
ticked_frames kind now e x = ap (for_each_below (length x.state.places.queues) (queue_swept kind now))
    (each_frames (length x.state.plain) (peer_lapsed kind now) (peer_frames kind now) e x)
    ∙ each_frames (length x.state.places.queues) (queue_swept kind now) (queue_frames kind now) e (for_each_below (length x.state.plain) (peer_lapsed kind now) x)

-- Each of them, done to a state.

pub taken_whole : (at : EntryPlace) (id : MessageId) (now : ℕ) (e : Effect) → taken at id now e ≡ joined e (taken at id now (begun e.state))
taken_whole at id now e = whole (taken at id now) (taken_frames at id now) e

pub purged_whole : (kind : Lane) (at : EntryPlace) (now : ℕ) (e : Effect) → purged kind at now e ≡ joined e (purged kind at now (begun e.state))
purged_whole kind at now e = whole (purged kind at now) (purged_frames kind at now) e

pub ticked_whole : (now : ℕ) (e : Effect)
    → lane_ticked lane.Durable now (rows_expired now e) ≡ joined e (lane_ticked lane.Durable now (rows_expired now (begun e.state)))
ticked_whole now e = whole (λ x. lane_ticked lane.Durable now (rows_expired now x))
    (λ e x. ap (lane_ticked lane.Durable now) (rows_frames now e x) ∙ ticked_frames lane.Durable now e (rows_expired now x)) e
