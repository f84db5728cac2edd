-- What a manager's state keeps: notices, places and plain messages touch no row and no identity.
use Rattle.std.proofs.Common.{refl, ◌∙◌, arith}
use Rattle.std.specs.Option.{option_map_or}
use Rattle.std.specs.Prelude.{◌+◌, ◌≡◌, ◌≤◌, Bool, None, Option, Some, cond, suc, zero, ℕ}
use Rattle.mqb_base.specs.Bits.{keeps_copy}
use Rattle.mqb_base.specs.declared.class.Class.{Class}
use Rattle.mqb_base.specs.declared.ids.Identity.{Identity}
use Rattle.mqb_base.specs.declared.message.Delivery.{Delivery}
use Rattle.mqb_base.specs.declared.message.Delivery.TheVariants as delivery
use Rattle.mqb_base.specs.declared.message.Lane.{Lane}
use Rattle.mqb_base.specs.declared.message.Lane.TheVariants as lane
use Rattle.mqb_base.specs.declared.ids.MessageId.{MessageId}
use Rattle.mqb_base.specs.declared.message.Message.{Message}
use Rattle.mqb_base.specs.declared.queues.EntryPlace.{EntryPlace}
use Rattle.mqb_base.specs.declared.queues.EntryPlace.TheVariants as place
use Rattle.mqb_plain.specs.Plain.{PlainLists, outgoing_in, without}
use Rattle.mqb_plain.specs.declared.outgoing.Outgoing.{Outgoing}
use Rattle.mqb_queue.specs.First.{index_named, is_queue}
use Rattle.mqb_queue.specs.Lists.{messages_in}
use Rattle.mqb_queue.specs.Places.{Queue, numbered}
use Rattle.std.specs.Prelude.{false, length, slice_get, true}
use Rattle.mqb_model.specs.Loops.{for_each_below, repeated}
use Rattle.mqb_model.specs.declared.target.Target.{Target}
use Rattle.mqb_model.specs.declared.target.Target.TheVariants.{AtPeer, Here, Nowhere}
use Rattle.mqb_model.specs.rules.Effects.{Effect, joined}
use Rattle.mqb_model.specs.rules.Notices.{admin_about, admin_told, arrived, buried, dead_place, final_about, final_told, final_told_at, may_go, meets, told}
use Rattle.mqb_model.specs.rules.Numbers.{number_taken}
use Rattle.mqb_model.specs.rules.Purges.{after_purge, count_at, message_purged, oldest_purged, purged}
use Rattle.mqb_model.specs.rules.Sends.{delivered, journalled, plain_sent}
use Rattle.mqb_model.specs.rules.Takes.{after_take, copied, message_at, message_taken, taken, taken_at}
use Rattle.mqb_model.specs.rules.Timeouts.{lane_ticked, lapsing, lapsing_in, message_lapsed, message_swept, next_lapsed, next_swept, peer_lapsed, queue_swept, sweeping, sweeping_in}
use Rattle.mqb_model.specs.state.Places.{placed, put_at, with_plain, without_at}
use Rattle.mqb_model.specs.state.Resolving.{peer_known, resolved}
use Rattle.mqb_model.specs.state.State.{State}
use Rattle.mqb_base.specs.declared.class.TheConstants.Class.{QUEUE_PURGED, REACHED_QUEUE, REACH_TIMEOUT, RECEIVED, RECEIVE_TIMEOUT}

-- a state is one manager's, whose peers are the same
pub record IsSameManager (a b : State) : Type 0 where
  pub identity : b.identity ≡ a.identity
  pub peers : b.peers ≡ a.peers

-- and its rows are the same, and no number is given back
pub record HasSameRows (a b : State) : Type 0 where
  pub manager : IsSameManager a b
  pub outs : b.outs ≡ a.outs
  pub ins : b.ins ≡ a.ins
  pub next_ordinal : b.next_ordinal ≡ a.next_ordinal
  pub numbers : a.next_number ≤ b.next_number

pub same_manager : (s : State) → IsSameManager s s
same_manager s = record { identity = refl; peers = refl }

pub manager_then : (a b c : State) → IsSameManager a b → IsSameManager b c → IsSameManager a c
manager_then a b c f g = record { identity = g.identity ∙ f.identity; peers = g.peers ∙ f.peers }

pub same_rows : (s : State) → HasSameRows s s
same_rows s = record { manager = same_manager s; outs = refl; ins = refl; next_ordinal = refl; numbers = omega arith }

pub rows_then : (a b c : State) → HasSameRows a b → HasSameRows b c → HasSameRows a c
rows_then a b c f g = record {
  manager = manager_then a b c f.manager g.manager;
  outs = g.outs ∙ f.outs;
  ins = g.ins ∙ f.ins;
  next_ordinal = g.next_ordinal ∙ f.next_ordinal;
  numbers = let low = f.numbers in let high = g.numbers in omega (arith, low, high);
}

-- what is done where something is there
pub rows_or : {X : Type 0} (s : State) (f : X → State) (o : Option X) → ((x : X) → HasSameRows s (f x)) → HasSameRows s (option_map_or f o s)
rows_or s f None some = same_rows s
rows_or s f (Some x) some = some x

pub rows_if : (s : State) (b : Bool) (x y : State) → HasSameRows s x → HasSameRows s y → HasSameRows s (cond b x y)
rows_if s true x y left right = left
rows_if s false x y left right = right

pub put_rows : (s : State) (at : EntryPlace) (m : Message) → HasSameRows s (put_at s at m)
put_rows s at m = record { manager = record { identity = refl; peers = refl }; outs = refl; ins = refl; next_ordinal = refl; numbers = omega arith }

pub without_rows : (kind : Lane) (s : State) (at : EntryPlace) (k : ℕ) → HasSameRows s (without_at kind s at k)
without_rows kind s at k = record { manager = record { identity = refl; peers = refl }; outs = refl; ins = refl; next_ordinal = refl; numbers = omega arith }

pub placed_rows : (s : State) (t : Target) (m : Message) → HasSameRows s (placed s t m)
placed_rows s (Here queue) m = rows_or s (λ number. put_at s (place.Queue number) m) queue (λ number. put_rows s (place.Queue number) m)
placed_rows s (AtPeer k) m = record { manager = record { identity = refl; peers = refl }; outs = refl; ins = refl; next_ordinal = refl; numbers = omega arith }
placed_rows s Nowhere m = same_rows s

pub number_rows : (s : State) (d : Delivery) → HasSameRows s (number_taken s d)
number_rows s delivery.Express = record { manager = record { identity = refl; peers = refl }; outs = refl; ins = refl; next_ordinal = refl; numbers = omega arith }
number_rows s d = record { manager = record { identity = refl; peers = refl }; outs = refl; ins = refl; next_ordinal = refl; numbers = omega arith }

told_rows : (s : State) (t : Target) (n : Message) → HasSameRows s (told s t n)
told_rows s t n = rows_if s (may_go s t n.delivery) (placed (number_taken s n.delivery) t n) s
    (rows_then s (number_taken s n.delivery) (placed (number_taken s n.delivery) t n) (number_rows s n.delivery) (placed_rows (number_taken s n.delivery) t n)) (same_rows s)

admin_rows : (s : State) (m : Message) (class : Class) (now : ℕ) → HasSameRows s (admin_told s m class now)
admin_rows s m class now = rows_or s (λ notice. told s (resolved s notice.destination) notice) (admin_about s m class now)
    (λ notice. told_rows s (resolved s notice.destination) notice)

final_at_rows : (s : State) (k : ℕ) (peer : Identity) (m : Message) (class : Class) (now : ℕ) → HasSameRows s (final_told_at s k peer m class now)
final_at_rows s k peer m class now = rows_or s (told s (AtPeer k)) (final_about s peer m class now) (told_rows s (AtPeer k))

final_rows : (s : State) (m : Message) (class : Class) (now : ℕ) → HasSameRows s (final_told s m class now)
final_rows s m class now = rows_or s (λ k. option_map_or (λ peer. final_told_at s k peer m class now) (slice_get s.peers k) s) (peer_known s m.id.qm)
    (λ k. rows_or s (λ peer. final_told_at s k peer m class now) (slice_get s.peers k) (λ peer. final_at_rows s k peer m class now))

buried_rows : (s : State) (m : Message) (class : Class) → HasSameRows s (buried s m class)
buried_rows s m class = rows_or s (λ at. put_at s at m) (dead_place s m class) (λ at. put_rows s at m)

pub meets_rows : (s : State) (m : Message) (class : Class) (now : ℕ) → HasSameRows s (meets s m class now)
meets_rows s m class now = let told = admin_told s m class now in let final = final_told told m class now in
    rows_then s told (buried final m class) (admin_rows s m class now)
    (rows_then told final (buried final m class) (final_rows told m class now) (buried_rows final m class))

pub arrived_rows : (s : State) (m : Message) (now : ℕ) (refusal : Option Class) → HasSameRows s (arrived s m now refusal)
arrived_rows s m now None = rows_then s (placed s (resolved s m.destination) m) (meets (placed s (resolved s m.destination) m) m REACHED_QUEUE now)
    (placed_rows s (resolved s m.destination) m) (meets_rows (placed s (resolved s m.destination) m) m REACHED_QUEUE now)
arrived_rows s m now (Some class) = meets_rows s m class now

-- Messages leave places.

copied_rows : (s : State) (number : ℕ) (m : Message) → HasSameRows s (copied s number m)
copied_rows s number m = rows_or s (λ (q : Queue). cond q.plan.journal (put_at s (place.JournalOf number) m) s) (numbered s.places.queues number)
    (λ q. rows_if s q.plan.journal (put_at s (place.JournalOf number) m) s (put_rows s (place.JournalOf number) m) (same_rows s))

pub after_take_rows : (s : State) (at : EntryPlace) (m : Message) (now : ℕ) → HasSameRows s (after_take s at m now)
after_take_rows s (place.Queue number) m now = rows_then s (copied s number m) (after_take s (place.Queue number) m now) (copied_rows s number m) (meets_rows (copied s number m) m RECEIVED now)
after_take_rows s at m now = same_rows s

-- an effect keeps the rows of another
abbrev pub KeepsRows : Effect → Effect → Type 0
KeepsRows e f = HasSameRows e.state f.state

pub keeps_or : {X : Type 0} (e : Effect) (f : X → Effect) (o : Option X) → ((x : X) → KeepsRows e (f x)) → KeepsRows e (option_map_or f o e)
keeps_or e f None some = same_rows e.state
keeps_or e f (Some x) some = some x

pub taken_at_rows : (kind : Lane) (at : EntryPlace) (k now : ℕ) (e : Effect) → KeepsRows e (taken_at kind at k now e)
taken_at_rows kind at k now e = keeps_or e (λ m. joined e (message_taken kind at k now e.state m)) (message_at kind e.state at k) (λ m. rows_then e.state (without_at kind e.state at k) (after_take (without_at kind e.state at k) at m now)
    (without_rows kind e.state at k) (after_take_rows (without_at kind e.state at k) at m now))

pub taken_rows : (at : EntryPlace) (id : MessageId) (now : ℕ) (e : Effect) → KeepsRows e (taken at id now e)
taken_rows at id now e = keeps_or e (λ k. taken_at lane.Durable at k now e) (index_named e.state.places at id now) (λ k. taken_at_rows lane.Durable at k now e)

pub repeated_rows : (step : Effect → Effect) → ((e : Effect) → KeepsRows e (step e)) → (n : ℕ) (e : Effect) → KeepsRows e (repeated n step e)
repeated_rows step keeps zero e = same_rows e.state
repeated_rows step keeps (suc n) e = rows_then e.state (repeated n step e).state (step (repeated n step e)).state (repeated_rows step keeps n e) (keeps (repeated n step e))

pub each_rows : (step : ℕ → Effect → Effect) → ((k : ℕ) (e : Effect) → KeepsRows e (step k e)) → (n : ℕ) (e : Effect) → KeepsRows e (for_each_below n step e)
each_rows step keeps zero e = same_rows e.state
each_rows step keeps (suc n) e = rows_then e.state (for_each_below n step e).state (step n (for_each_below n step e)).state (each_rows step keeps n e) (keeps n (for_each_below n step e))

pub after_purge_rows : (s : State) (at : EntryPlace) (m : Message) (now : ℕ) → HasSameRows s (after_purge s at m now)
after_purge_rows s at m now = rows_if s (is_queue at) (meets s m QUEUE_PURGED now) s (meets_rows s m QUEUE_PURGED now) (same_rows s)

oldest_rows : (kind : Lane) (at : EntryPlace) (now : ℕ) (e : Effect) → KeepsRows e (oldest_purged kind at now e)
oldest_rows kind at now e = keeps_or e (λ m. joined e (message_purged kind at now e.state m)) (message_at kind e.state at 0) (λ m. rows_then e.state (without_at kind e.state at 0) (after_purge (without_at kind e.state at 0) at m now)
    (without_rows kind e.state at 0) (after_purge_rows (without_at kind e.state at 0) at m now))

pub purged_rows : (kind : Lane) (at : EntryPlace) (now : ℕ) (e : Effect) → KeepsRows e (purged kind at now e)
purged_rows kind at now e = repeated_rows (oldest_purged kind at now) (oldest_rows kind at now) (count_at kind e.state at) e

-- Plain messages lapse, and messages of queues are swept.

pub lapsed_one : (kind : Lane) (now k index : ℕ) (s : State) (m : Message) → HasSameRows s (message_lapsed kind now k index s m).state
lapsed_one kind now k index s m = rows_then s (with_plain (without kind index) s k) (message_lapsed kind now k index s m).state
    (record { manager = record { identity = refl; peers = refl }; outs = refl; ins = refl; next_ordinal = refl; numbers = omega arith })
    (meets_rows (with_plain (without kind index) s k) m REACH_TIMEOUT now)

lapsed_rows : (kind : Lane) (now k : ℕ) (e : Effect) → KeepsRows e (next_lapsed kind now k e)
lapsed_rows kind now k e = keeps_or e (λ (p : PlainLists). option_map_or (λ index.
    option_map_or (λ (o : Outgoing). joined e (message_lapsed kind now k index e.state o.message)) (slice_get (outgoing_in kind p) index) e)
    (lapsing kind now p) e) (slice_get e.state.plain k)
    (λ p. keeps_or e (λ index. option_map_or (λ (o : Outgoing). joined e (message_lapsed kind now k index e.state o.message)) (slice_get (outgoing_in kind p) index) e) (lapsing kind now p)
    (λ index. keeps_or e (λ (o : Outgoing). joined e (message_lapsed kind now k index e.state o.message)) (slice_get (outgoing_in kind p) index)
    (λ o. lapsed_one kind now k index e.state o.message)))

pub swept_one : (kind : Lane) (now number index : ℕ) (s : State) (m : Message) → HasSameRows s (message_swept kind now number index s m).state
swept_one kind now number index s m = rows_then s (without_at kind s (place.Queue number) index) (message_swept kind now number index s m).state
    (without_rows kind s (place.Queue number) index) (meets_rows (without_at kind s (place.Queue number) index) m RECEIVE_TIMEOUT now)

swept_rows : (kind : Lane) (now k : ℕ) (e : Effect) → KeepsRows e (next_swept kind now k e)
swept_rows kind now k e = keeps_or e (λ (q : Queue). option_map_or (λ index.
    option_map_or (λ m. joined e (message_swept kind now (k + 1) index e.state m)) (slice_get (messages_in kind q.lists) index) e)
    (sweeping kind now q) e) (slice_get e.state.places.queues k)
    (λ q. keeps_or e (λ index. option_map_or (λ m. joined e (message_swept kind now (k + 1) index e.state m)) (slice_get (messages_in kind q.lists) index) e) (sweeping kind now q)
    (λ index. keeps_or e (λ m. joined e (message_swept kind now (k + 1) index e.state m)) (slice_get (messages_in kind q.lists) index)
    (λ m. swept_one kind now (k + 1) index e.state m)))

peer_lapsed_rows : (kind : Lane) (now k : ℕ) (e : Effect) → KeepsRows e (peer_lapsed kind now k e)
peer_lapsed_rows kind now k e = repeated_rows (next_lapsed kind now k) (lapsed_rows kind now k) (option_map_or (lapsing_in kind now) (slice_get e.state.plain k) 0) e

queue_swept_rows : (kind : Lane) (now k : ℕ) (e : Effect) → KeepsRows e (queue_swept kind now k e)
queue_swept_rows kind now k e = repeated_rows (next_swept kind now k) (swept_rows kind now k) (option_map_or (sweeping_in kind now) (slice_get e.state.places.queues k) 0) e

pub ticked_rows : (kind : Lane) (now : ℕ) (e : Effect) → KeepsRows e (lane_ticked kind now e)
ticked_rows kind now e = let lapsed = for_each_below (length e.state.plain) (peer_lapsed kind now) e in
    rows_then e.state lapsed.state (lane_ticked kind now e).state (each_rows (peer_lapsed kind now) (peer_lapsed_rows kind now) (length e.state.plain) e)
    (each_rows (queue_swept kind now) (queue_swept_rows kind now) (length e.state.places.queues) lapsed)

-- A manager's own messages are sent.

pub journalled_rows : (s : State) (m : Message) → HasSameRows s (journalled s m)
journalled_rows s m = rows_if s (keeps_copy m) (put_at s place.Journal m) s (put_rows s place.Journal m) (same_rows s)

pub delivered_rows : (s : State) (t : Target) (m : Message) (now : ℕ) → HasSameRows s (delivered s t m now)
delivered_rows s (AtPeer k) m now = placed_rows s (AtPeer k) m
delivered_rows s (Here queue) m now = rows_then s (placed s (Here queue) m) (meets (placed s (Here queue) m) m REACHED_QUEUE now) (placed_rows s (Here queue) m)
    (meets_rows (placed s (Here queue) m) m REACHED_QUEUE now)
delivered_rows s Nowhere m now = meets_rows s m REACHED_QUEUE now

pub plain_sent_rows : (s : State) (m : Message) (now : ℕ) → HasSameRows s (plain_sent s m now)
plain_sent_rows s m now = rows_then s (journalled s m) (plain_sent s m now) (journalled_rows s m) (delivered_rows (journalled s m) (resolved s m.destination) m now)
