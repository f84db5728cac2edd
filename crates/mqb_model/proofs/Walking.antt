-- A fact of states that holds after each step of a rule holds after the whole: where a message meets a class, and where messages are taken, purged
-- and due.
use Rattle.std.proofs.Common.{refl}
use Rattle.std.specs.List.{AllByRecursion}
use Rattle.std.specs.Option.{option_map_or}
use Rattle.std.specs.Prelude.{◌&&◌, ◌+◌, ◌≡◌, Bool, IfSome, IsTrue, None, Option, Some, cond, false, length, not, option_and_then, slice_get, true, ℕ}
use Rattle.mqb_base.specs.declared.class.Class.{Class}
use Rattle.mqb_base.specs.declared.class.TheConstants.Class.{QUEUE_PURGED, REACH_TIMEOUT, RECEIVED, RECEIVE_TIMEOUT}
use Rattle.mqb_base.specs.declared.ids.Identity.{Identity}
use Rattle.mqb_base.specs.declared.message.Lane.{Lane}
use Rattle.mqb_base.specs.declared.message.Message.{Message}
use Rattle.mqb_base.specs.declared.queues.EntryPlace.{EntryPlace}
use Rattle.mqb_base.specs.declared.queues.EntryPlace.TheVariants as place
use Rattle.mqb_base.specs.declared.queues.Place.TheVariants as named
use Rattle.mqb_fate.specs.Asking.{final_is_due, is_ordinary, is_transactional}
use Rattle.mqb_base.specs.Bits.{keeps_dead}
use Rattle.mqb_base.specs.Classes.{is_class, is_negative}
use Rattle.mqb_plain.specs.Plain.{PlainLists, outgoing_in, without}
use Rattle.mqb_plain.specs.declared.outgoing.Outgoing.{Outgoing}
use Rattle.mqb_queue.specs.First.{is_queue}
use Rattle.mqb_queue.specs.Lists.{messages_in}
use Rattle.mqb_queue.specs.Places.{Queue, numbered, place_named}
use Rattle.mqb_model.specs.declared.target.Target.{Target}
use Rattle.mqb_model.specs.declared.target.Target.TheVariants.{AtPeer}
use Rattle.mqb_model.specs.Loops.{for_each_below}
use Rattle.mqb_model.specs.rules.Effects.{Effect, joined}
use Rattle.mqb_model.specs.rules.Notices.{admin_about, admin_told, buried, final_about, final_told, final_told_at, may_go, meets, told}
use Rattle.mqb_model.specs.rules.Numbers.{number_taken}
use Rattle.mqb_model.specs.rules.Purges.{count_at, message_purged, oldest_purged, purged}
use Rattle.mqb_model.specs.rules.Takes.{after_take, copied, message_at, message_taken, taken_at}
use Rattle.mqb_model.specs.rules.Timeouts.{lane_ticked, lapsing, lapsing_in, message_lapsed, message_swept, next_lapsed, next_swept, peer_lapsed, queue_swept, sweeping, sweeping_in}
use Rattle.mqb_model.specs.state.Places.{placed, put_at, with_plain, without_at}
use Rattle.mqb_model.specs.state.Resolving.{peer_known, resolved}
use Rattle.mqb_model.specs.state.State.{State}
use Rattle.mqb_model.proofs.Departing.{for_each_keeps, repeated_keeps}
use Rattle.mqb_model.proofs.Holding.{get_holds}

-- A fact of states outlasts notices about messages of a kind.
pub record Outlasts (Met Notice : Message → Type 0) (P : State → Type 0) : Type 0 where
  pub admin : (s : State) (m : Message) (class : Class) (now : ℕ) → Met m → IsTrue (is_class class.0) → P s → IfSome (admin_about s m class now) Notice
  pub final : (s : State) (peer : Identity) (m : Message) (class : Class) (now : ℕ) → Met m → P s → IfSome (final_about s peer m class now) Notice
  pub told : (s : State) (t : Target) (n : Message) → Notice n → may_go s t n.delivery ≡ true → P s → P (placed (number_taken s n.delivery) t n)
  pub dead : (s : State) (m : Message) → Met m → P s → P (put_at s place.Dead m)
  pub dead_xact : (s : State) (m : Message) → Met m → P s → P (put_at s place.DeadXact m)

module _ (Met Notice : Message → Type 0) (P : State → Type 0) (w : Outlasts Met Notice P) where
  told_outlasts : (s : State) (t : Target) (n : Message) → Notice n → P s → P (told s t n)
  told_outlasts s t n i h = at (may_go s t n.delivery) refl
    where
      at : (b : Bool) → may_go s t n.delivery ≡ b → P (cond b (placed (number_taken s n.delivery) t n) s)
      at true e = w.told s t n i e h
      at false e = h

  admin_outlasts : (s : State) (m : Message) (class : Class) (now : ℕ) → Met m → IsTrue (is_class class.0) → P s → P (admin_told s m class now)
  admin_outlasts s m class now l known h = at (admin_about s m class now) (w.admin s m class now l known h)
    where
      at : (o : Option Message) → IfSome o Notice → P (option_map_or (λ n. told s (resolved s n.destination) n) o s)
      at None i = h
      at (Some n) i = told_outlasts s (resolved s n.destination) n i h

  final_outlasts : (s : State) (m : Message) (class : Class) (now : ℕ) → Met m → P s → P (final_told s m class now)
  final_outlasts s m class now l h = at (peer_known s m.id.qm)
    where
      made : (k : ℕ) (o : Option Message) → IfSome o Notice → P (option_map_or (told s (AtPeer k)) o s)
      made k None i = h
      made k (Some n) i = told_outlasts s (AtPeer k) n i h

      to : (k : ℕ) (o : Option Identity) → P (option_map_or (λ peer. final_told_at s k peer m class now) o s)
      to k None = h
      to k (Some peer) = made k (final_about s peer m class now) (w.final s peer m class now l h)

      at : (o : Option ℕ) → P (option_map_or (λ k. option_map_or (λ peer. final_told_at s k peer m class now) (slice_get s.peers k) s) o s)
      at None = h
      at (Some k) = to k (slice_get s.peers k)

  buried_outlasts : (s : State) (m : Message) (class : Class) → Met m → P s → P (buried s m class)
  buried_outlasts s m class l h = at ((is_ordinary m && is_negative class.0) && keeps_dead m && not (final_is_due m class s.identity.guid))
    where
      into : (b : Bool) → P (option_map_or (λ at. put_at s at m) (place_named s.places.queues (cond b named.DeadXact named.Dead)) s)
      into true = w.dead_xact s m l h
      into false = w.dead s m l h

      at : (b : Bool) → P (option_map_or (λ at. put_at s at m)
          (option_and_then (place_named s.places.queues) (cond b (Some (cond (is_transactional m.delivery) named.DeadXact named.Dead)) None)) s)
      at true = into (is_transactional m.delivery)
      at false = h

  pub meets_outlasts : (s : State) (m : Message) (class : Class) (now : ℕ) → Met m → IsTrue (is_class class.0) → P s → P (meets s m class now)
  meets_outlasts s m class now l known h = let one = admin_told s m class now in let two = final_told one m class now in
      buried_outlasts two m class l (final_outlasts one m class now l (admin_outlasts s m class now l known h))

-- It outlasts that messages of a lane leave.
pub record OutlastsLeaving (kind : Lane) (Met : Message → Type 0) (P : State → Type 0) : Type 0 where
  pub item : (s : State) (at : EntryPlace) (k : ℕ) → P s → IfSome (message_at kind s at k) Met
  pub leaves : (s : State) (at : EntryPlace) (k : ℕ) → P s → P (without_at kind s at k)
  pub copy : (s : State) (number : ℕ) (m : Message) → Met m → P s → P (put_at s (place.JournalOf number) m)
  pub waiting : (s : State) (k : ℕ) → P s → IfSome (slice_get s.plain k) (λ p. AllByRecursion (λ o. Met o.message) (outgoing_in kind p))
  pub dropped : (index : ℕ) (s : State) (k : ℕ) → P s → P (with_plain (without kind index) s k)
  pub queued : (s : State) (k : ℕ) → P s → IfSome (slice_get s.places.queues k) (λ q. AllByRecursion Met (messages_in kind q.lists))

module _ (kind : Lane) (Met Notice : Message → Type 0) (P : State → Type 0) (w : Outlasts Met Notice P) (v : OutlastsLeaving kind Met P) where
  copied_outlasts : (s : State) (number : ℕ) (m : Message) → Met m → P s → P (copied s number m)
  copied_outlasts s number m l h = at (numbered s.places.queues number)
    where
      journalled : (b : Bool) → P (cond b (put_at s (place.JournalOf number) m) s)
      journalled true = v.copy s number m l h
      journalled false = h

      at : (o : Option Queue) → P (option_map_or (λ q. cond q.plan.journal (put_at s (place.JournalOf number) m) s) o s)
      at None = h
      at (Some q) = journalled q.plan.journal

  pub after_take_outlasts : (s : State) (at : EntryPlace) (m : Message) (now : ℕ) → Met m → P s → P (after_take s at m now)
  after_take_outlasts s (place.Queue number) m now l h = meets_outlasts Met Notice P w (copied s number m) m RECEIVED now l refl (copied_outlasts s number m l h)
  after_take_outlasts s at m now l h = h

  pub taken_at_outlasts : (at : EntryPlace) (k now : ℕ) (e : Effect) → P e.state → P (taken_at kind at k now e).state
  taken_at_outlasts at k now e h = of (message_at kind e.state at k) (v.item e.state at k h)
    where
      of : (o : Option Message) → IfSome o Met → P (option_map_or (λ m. joined e (message_taken kind at k now e.state m)) o e).state
      of None l = h
      of (Some m) l = after_take_outlasts (without_at kind e.state at k) at m now l (v.leaves e.state at k h)

  oldest_outlasts : (at : EntryPlace) (now : ℕ) (e : Effect) → P e.state → P (oldest_purged kind at now e).state
  oldest_outlasts at now e h = of (message_at kind e.state at 0) (v.item e.state at 0 h)
    where
      after : (m : Message) (b : Bool) → Met m → P (cond b (meets (without_at kind e.state at 0) m QUEUE_PURGED now) (without_at kind e.state at 0))
      after m true l = meets_outlasts Met Notice P w (without_at kind e.state at 0) m QUEUE_PURGED now l refl (v.leaves e.state at 0 h)
      after m false l = v.leaves e.state at 0 h

      of : (o : Option Message) → IfSome o Met → P (option_map_or (λ m. joined e (message_purged kind at now e.state m)) o e).state
      of None l = h
      of (Some m) l = after m (is_queue at) l

  pub purged_outlasts : (at : EntryPlace) (now : ℕ) (e : Effect) → P e.state → P (purged kind at now e).state
  purged_outlasts at now e h = repeated_keeps (λ e. P e.state) (oldest_purged kind at now) (count_at kind e.state at) e (λ e h. oldest_outlasts at now e h) h

  lapsed_outlasts : (now k : ℕ) (e : Effect) → P e.state → P (next_lapsed kind now k e).state
  lapsed_outlasts now k e h = at (slice_get e.state.plain k) (v.waiting e.state k h)
    where
      each : (index : ℕ) (o : Option Outgoing) → IfSome o (λ o. Met o.message)
          → P (option_map_or (λ o. joined e (message_lapsed kind now k index e.state o.message)) o e).state
      each index None l = h
      each index (Some o) l = meets_outlasts Met Notice P w (with_plain (without kind index) e.state k) o.message REACH_TIMEOUT now l refl (v.dropped index e.state k h)

      first : (p : PlainLists) (o : Option ℕ) → AllByRecursion (λ o. Met o.message) (outgoing_in kind p)
          → P (option_map_or (λ index. option_map_or (λ o. joined e (message_lapsed kind now k index e.state o.message)) (slice_get (outgoing_in kind p) index) e) o e).state
      first p None r = h
      first p (Some index) r = each index (slice_get (outgoing_in kind p) index) (get_holds (λ o. Met o.message) (outgoing_in kind p) index r)

      at : (o : Option PlainLists) → IfSome o (λ p. AllByRecursion (λ o. Met o.message) (outgoing_in kind p)) → P (option_map_or (λ p. option_map_or (λ index.
          option_map_or (λ o. joined e (message_lapsed kind now k index e.state o.message)) (slice_get (outgoing_in kind p) index) e) (lapsing kind now p) e) o e).state
      at None r = h
      at (Some p) r = first p (lapsing kind now p) r

  swept_outlasts : (now k : ℕ) (e : Effect) → P e.state → P (next_swept kind now k e).state
  swept_outlasts now k e h = at (slice_get e.state.places.queues k) (v.queued e.state k h)
    where
      each : (index : ℕ) (o : Option Message) → IfSome o Met → P (option_map_or (λ m. joined e (message_swept kind now (k + 1) index e.state m)) o e).state
      each index None l = h
      each index (Some m) l = meets_outlasts Met Notice P w (without_at kind e.state (place.Queue (k + 1)) index) m RECEIVE_TIMEOUT now l refl
          (v.leaves e.state (place.Queue (k + 1)) index h)

      first : (q : Queue) (o : Option ℕ) → AllByRecursion Met (messages_in kind q.lists)
          → P (option_map_or (λ index. option_map_or (λ m. joined e (message_swept kind now (k + 1) index e.state m)) (slice_get (messages_in kind q.lists) index) e) o e).state
      first q None r = h
      first q (Some index) r = each index (slice_get (messages_in kind q.lists) index) (get_holds Met (messages_in kind q.lists) index r)

      at : (o : Option Queue) → IfSome o (λ q. AllByRecursion Met (messages_in kind q.lists)) → P (option_map_or (λ q. option_map_or (λ index.
          option_map_or (λ m. joined e (message_swept kind now (k + 1) index e.state m)) (slice_get (messages_in kind q.lists) index) e) (sweeping kind now q) e) o e).state
      at None r = h
      at (Some q) r = first q (sweeping kind now q) r

  pub ticked_outlasts : (now : ℕ) (e : Effect) → P e.state → P (lane_ticked kind now e).state
  ticked_outlasts now e h = for_each_keeps (λ e. P e.state) (queue_swept kind now) (length e.state.places.queues) lapsed
      (λ k e h. repeated_keeps (λ e. P e.state) (next_swept kind now k) (option_map_or (sweeping_in kind now) (slice_get e.state.places.queues k) 0) e (λ e h. swept_outlasts now k e h) h)
      (for_each_keeps (λ e. P e.state) (peer_lapsed kind now) (length e.state.plain) e
      (λ k e h. repeated_keeps (λ e. P e.state) (next_lapsed kind now k) (option_map_or (lapsing_in kind now) (slice_get e.state.plain k) 0) e (λ e h. lapsed_outlasts now k e h) h) h)
    where
      lapsed : Effect
      lapsed = for_each_below (length e.state.plain) (peer_lapsed kind now) e
