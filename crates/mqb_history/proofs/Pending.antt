-- A message of another manager's stream that was decided, and asks for a final acknowledgement: it stands in a queue, or the acknowledgement waits for its source, or no number is left for that. Each
-- record keeps this, unless it releases the acknowledgement.
use Rattle.std.proofs.Common.{refl, ap, sym, subst, ◌∙◌, arith, inl, inr}
use Rattle.std.proofs.lemmas.Bool.Decides.{nat_tests}
use Rattle.std.specs.Option.{option_map_or}
use Rattle.std.specs.Prelude.{[], ◌&&◌, ◌+◌, ◌++◌, ◌-◌, ◌<◌, ◌==◌, ◌∷◌, ◌≡◌, ◌≤◌, ◌⊎◌, Bool, IfSome, List, None, Option, Some, cond, false, fold, length, nat_le, not, option_and_then, option_map, position, remove, slice_get, slice_set, suc, true, zero, ℕ}
use Rattle.mqb_base.specs.Bits.{keeps_dead}
use Rattle.mqb_base.specs.Same.{same_guid}
use Rattle.mqb_base.specs.declared.class.Class.{Class}
use Rattle.mqb_base.specs.declared.class.TheConstants.Class.{REACHED_QUEUE}
use Rattle.mqb_base.specs.declared.heads.TxHead.{TxHead}
use Rattle.mqb_base.specs.declared.ids.Guid.{Guid}
use Rattle.mqb_base.specs.declared.ids.Identity.{Identity}
use Rattle.mqb_base.specs.declared.ids.MessageId.{MessageId}
use Rattle.mqb_base.specs.declared.message.Delivery.{Delivery}
use Rattle.mqb_base.specs.declared.message.Delivery.TheVariants as delivery
use Rattle.mqb_base.specs.declared.message.Lane.TheVariants as lane
use Rattle.mqb_base.specs.declared.message.Message.{Message}
use Rattle.mqb_base.specs.declared.queues.EntryPlace.TheVariants as place
use Rattle.mqb_base.specs.declared.times.TheConstants.{UNLIMITED}
use Rattle.mqb_exactly_once.specs.Words.{In}
use Rattle.mqb_fate.specs.Asking.{final_is_due, is_ordinary, is_transactional}
use Rattle.mqb_fate.specs.Notices.{notice_about}
use Rattle.mqb_fate.specs.Orders.{is_final_class, order_layer}
use Rattle.mqb_model.specs.declared.limits.TheConstants.{MAX_NUMBER}
use Rattle.mqb_model.specs.declared.target.Target.TheVariants.{AtPeer}
use Rattle.mqb_model.specs.records.Applying.{apply}
use Rattle.mqb_model.specs.records.Decisions.{message_decided, with_decided}
use Rattle.mqb_model.specs.records.Record.{Part, Record}
use Rattle.mqb_model.specs.records.Record as entry
use Rattle.mqb_model.specs.records.Releases.{has_recoverable, is_released_by, message_released, releases_made, without_recoverable, without_released}
use Rattle.mqb_model.specs.rules.Arrivals.{refusal_of}
use Rattle.mqb_model.specs.rules.Effects.{Effect, begun}
use Rattle.mqb_model.specs.rules.Notices.{admin_told, arrived, buried, final_told, final_told_at, meets, told}
use Rattle.mqb_model.specs.rules.Numbers.{number_taken, own_id}
use Rattle.mqb_model.specs.rules.Takes.{message_at}
use Rattle.mqb_model.specs.rules.Timeouts.{cannot_reach, lapses, lapsing}
use Rattle.mqb_model.specs.state.Places.{with_plain, without_at}
use Rattle.mqb_model.specs.state.Resolving.{peer_known}
use Rattle.mqb_model.specs.state.State.{State}
use Rattle.mqb_packet.specs.declared.packet.UserPacket.{UserPacket}
use Rattle.mqb_plain.specs.Lists.{messages_of, unsent}
use Rattle.mqb_plain.specs.Plain.{PlainLists, pushed, without}
use Rattle.mqb_plain.specs.declared.outgoing.Outgoing.{Outgoing}
use Rattle.mqb_queue.specs.Lists as held
use Rattle.mqb_queue.specs.Lists.{Lists, put}
use Rattle.mqb_queue.specs.Places.{Places, Queue, changed_at, lists_at, numbered}
use Rattle.mqb_history.specs.Made.{IsMade}
use Rattle.mqb_history.proofs.Applying.{releases_rows}
use Rattle.mqb_history.proofs.Believing.{position_there, same_id_is}
use Rattle.mqb_history.proofs.Carrying.{place_there}
use Rattle.mqb_history.proofs.Committing.{in_end}
use Rattle.mqb_history.proofs.Containing.{OfRefusals, class_refused}
use Rattle.mqb_history.proofs.Enduring.{Endures, StandsAt, StandsIn, WaitsFor, admin_endures, arrived_endures, buried_endures, left_stands, meets_endures, told_endures}
use Rattle.mqb_history.proofs.Lists.{changed_get, changed_length, changed_there, clash, get_in, join_and, none_some, same_number, some_is, true_not_false, within_get}
use Rattle.mqb_history.proofs.Surviving.{IsOfEnds, Survives, record_survives}
use Rattle.mqb_history.proofs.Putting.{decided_joins, released_places}

-- A message, who decided it, where its source stands among the peers of that, and a number from which on numbers are new.
pub record Subject : Type 0 where
  pub own : Guid
  pub id : MessageId
  pub index : ℕ
  pub source : Identity
  pub base : ℕ

-- a message is that one, and asks for a final acknowledgement
pub record Asks (x : Subject) (m : Message) : Type 0 where
  pub names : m.id ≡ x.id
  pub ordinary : is_ordinary m ≡ true
  pub transactional : is_transactional m.delivery ≡ true
  pub dead : keeps_dead m ≡ true

-- a message is the final acknowledgement
pub record IsFinalOf (x : Subject) (f : Message) : Type 0 where
  pub names : f.correlation ≡ x.id
  pub class : is_final_class f.class ≡ true
  pub to : f.destination ≡ order_layer x.source.host
  pub recoverable : f.delivery ≡ delivery.Recoverable
  pub own : f.id.qm ≡ x.own

-- what a manager knows of it
pub record Knows (x : Subject) (s : State) : Type 0 where
  pub own : s.identity.guid ≡ x.own
  pub index : peer_known s x.id.qm ≡ Some x.index
  pub there : slice_get s.peers x.index ≡ Some x.source
  pub list : x.index < length s.plain
  pub late : x.base ≤ s.next_number

-- it waits in a state, without a limit in time, under a number of which something holds
pub record IsToBeTold (x : Subject) (K : ℕ → Type 0) (s : State) : Type 0 where
  pub final : Message
  pub waits : WaitsFor s x.index final
  pub is : IsFinalOf x final
  pub unlimited : final.reach ≡ UNLIMITED
  pub known : K final.id.number

abbrev pub IsOpen : Subject → (ℕ → Type 0) → State → Type 0
IsOpen x K s = (MAX_NUMBER < s.next_number) ⊎ (((m : Message) × StandsIn s m × Asks x m) ⊎ IsToBeTold x K s)

abbrev pub Pends : Subject → (ℕ → Type 0) → State → Type 0
Pends x K s = Knows x s × IsOpen x K s

pub knows_on : (x : Subject) (a b : State) → Endures a b → Knows x a → Knows x b
knows_on x a b e k = record {
  own = ap (λ (i : Identity). i.guid) e.manager.identity ∙ k.own;
  index = subst (λ (ps : List Identity). position (λ p. same_guid p.guid x.id.qm) ps ≡ Some x.index) (sym e.manager.peers) k.index;
  there = subst (λ (ps : List Identity). slice_get ps x.index ≡ Some x.source) (sym e.manager.peers) k.there;
  list = let same = e.lists in let lt = k.list in omega (arith, same, lt);
  late = let up = e.numbers in let le = k.late in omega (arith, up, le);
}

-- a message that is not limited in time never lapses
unlimited : (now : ℕ) (m : Message) → m.reach ≡ UNLIMITED → cannot_reach now m ≡ false
unlimited now m e = ap (λ r. not (r == UNLIMITED) && nat_le (m.sent + r) now) e ∙ ap (λ b. not b && nat_le (m.sent + UNLIMITED) now) (same_number UNLIMITED)

-- a waiting message stays where one leaves its list, unless it is that
removed_message : (os : List Outgoing) (k : ℕ) (m : Message) → In m (messages_of os) → In m (messages_of (remove os k)) ⊎ ((o : Outgoing) × (slice_get os k ≡ Some o) × (o.message ≡ m))
removed_message [] k m i = absurd i
removed_message (o ∷ os) zero m (inl e) = inr (o, refl, e)
removed_message (o ∷ os) zero m (inr i) = inl i
removed_message (o ∷ os) (suc k) m (inl e) = inl (inl e)
removed_message (o ∷ os) (suc k) m (inr i) = at (removed_message os k m i)
  where
    at : In m (messages_of (remove os k)) ⊎ ((p : Outgoing) × (slice_get os k ≡ Some p) × (p.message ≡ m))
        → In m (messages_of (o ∷ remove os k)) ⊎ ((p : Outgoing) × (slice_get os k ≡ Some p) × (p.message ≡ m))
    at (inl j) = inl (inr j)
    at (inr f) = inr f

-- the lists for one peer change
waits_or : (C : Type 0) (change : PlainLists → PlainLists) (s : State) (j k : ℕ) (m : Message)
    → ((p : PlainLists) → slice_get s.plain j ≡ Some p → In m (messages_of p.recoverable) → In m (messages_of (change p).recoverable) ⊎ C) → WaitsFor s k m → WaitsFor (with_plain change s j) k m ⊎ C
waits_or C change s j k m keeps h = changed_get (λ o. ((p : PlainLists) × (o ≡ Some p) × In m (messages_of p.recoverable)) ⊎ C) change s.plain j k (inl h)
    (λ same p there. at p (keeps p (ap (slice_get s.plain) same ∙ there) (subst (λ (y : PlainLists). In m (messages_of y.recoverable)) (some_is h.0 p (sym h.1 ∙ there)) h.2)))
  where
    at : (p : PlainLists) → In m (messages_of (change p).recoverable) ⊎ C → ((y : PlainLists) × (Some (change p) ≡ Some y) × In m (messages_of y.recoverable)) ⊎ C
    at p (inl i) = inl (change p, refl, i)
    at p (inr c) = inr c

module _ (x : Subject) (K : ℕ → Type 0) (fresh : (n : ℕ) → x.base ≤ n → K n) (apart : same_guid x.id.qm x.own ≡ false) where
  pub open_on : (a b : State) → Endures a b → IsOpen x K a → IsOpen x K b
  open_on a b e (inl none) = inl (let up = e.numbers in omega (arith, up, none))
  open_on a b e (inr (inl h)) = inr (inl (h.0, e.stands h.0 h.1, h.2))
  open_on a b e (inr (inr h)) = inr (inr (record { final = h.final; waits = e.waits x.index h.final h.waits; is = h.is; unlimited = h.unlimited; known = h.known }))

  pends_on : (a b : State) → Endures a b → Pends x K a → Pends x K b
  pends_on a b e h = (knows_on x a b e h.0, open_on a b e h.1)

  -- The message meets its end.

  is_due : (m : Message) (class : Class) (own : Guid) → Asks x m → own ≡ x.own → IsOfEnds class → final_is_due m class own ≡ true
  is_due m class own asks same ends = join_and (((is_ordinary m && is_transactional m.delivery) && not (same_guid m.id.qm own)) && keeps_dead m) (not (class.0 == REACHED_QUEUE.0))
      (join_and ((is_ordinary m && is_transactional m.delivery) && not (same_guid m.id.qm own)) (keeps_dead m)
      (join_and (is_ordinary m && is_transactional m.delivery) (not (same_guid m.id.qm own)) (join_and (is_ordinary m) (is_transactional m.delivery) asks.ordinary asks.transactional) other)
      asks.dead) (ap not ends.1)
    where
      other : not (same_guid m.id.qm own) ≡ true
      other = ap (λ (i : MessageId). not (same_guid i.qm own)) asks.names ∙ ap (λ g. not (same_guid x.id.qm g)) same ∙ ap not apart

  messages_end : (os : List Outgoing) (m : Message) → In m (messages_of (os ++ unsent m ∷ []))
  messages_end [] m = inl refl
  messages_end (o ∷ os) m = inr (messages_end os m)

  full : (n : ℕ) → nat_le n MAX_NUMBER ≡ false → MAX_NUMBER < n
  full n e = grind (arith, nat_tests)

  tells : (s : State) (m : Message) (class : Class) (now : ℕ) → Knows x s → Asks x m → IsOfEnds class → Pends x K (final_told s m class now)
  tells s m class now k asks ends = subst (λ o. Pends x K (option_map_or (λ j. option_map_or (λ peer. final_told_at s j peer m class now) (slice_get s.peers j) s) o s))
      (sym (ap (λ (i : MessageId). peer_known s i.qm) asks.names ∙ k.index))
      (subst (λ o. Pends x K (option_map_or (λ peer. final_told_at s x.index peer m class now) o s)) (sym k.there) (at (nat_le s.next_number MAX_NUMBER) refl))
    where
      notice : Message
      notice = notice_about m class delivery.Recoverable (order_layer x.source.host) (record { qm = s.identity.guid; number = s.next_number }) now

      taken : State
      taken = number_taken s delivery.Recoverable

      list : (p : PlainLists) × (slice_get s.plain x.index ≡ Some p)
      list = within_get s.plain x.index k.list

      goes : Pends x K (told s (AtPeer x.index) notice)
      goes = (
        knows_on x s (told s (AtPeer x.index) notice) (told_endures s (AtPeer x.index) notice) k,
        inr (inr (record {
          final = notice;
          waits = (pushed lane.Durable notice list.0, changed_there (pushed lane.Durable notice) s.plain x.index ∙ ap (option_map (pushed lane.Durable notice)) list.1, messages_end list.0.recoverable notice);
          is = record { names = asks.names; class = ends.0; to = refl; recoverable = refl; own = k.own };
          unlimited = refl;
          known = fresh s.next_number k.late;
        })),
      )

      made : (b : Bool) → final_is_due m class s.identity.guid ≡ b → Pends x K (option_map_or (told s (AtPeer x.index)) (cond b (Some notice) None) s)
      made true due = goes
      made false due = absurd (true_not_false (final_is_due m class s.identity.guid) (is_due m class s.identity.guid asks k.own ends) due)

      at : (b : Bool) → nat_le s.next_number MAX_NUMBER ≡ b → Pends x K (option_map_or (told s (AtPeer x.index)) (option_and_then (λ number.
          cond (final_is_due m class s.identity.guid) (Some (notice_about m class delivery.Recoverable (order_layer x.source.host) (record { qm = s.identity.guid; number = number }) now)) None)
          (cond b (Some s.next_number) None)) s)
      at true e = made (final_is_due m class s.identity.guid) refl
      at false e = (k, inl (full s.next_number e))

  meets_tells : (s : State) (m : Message) (class : Class) (now : ℕ) → Knows x s → Asks x m → IsOfEnds class → Pends x K (meets s m class now)
  meets_tells s m class now k asks ends = let one = admin_told s m class now in let two = final_told one m class now in
      pends_on two (buried two m class) (buried_endures two m class) (tells one m class now (knows_on x s one (admin_endures s m class now) k) asks ends)

  -- What leaves.

  without_knows : (s : State) (n k : ℕ) → Knows x s → Knows x (without_at lane.Durable s (place.Queue n) k)
  without_knows s n k h = record { own = h.own; index = h.index; there = h.there; list = h.list; late = h.late }

  leaves_pending : (s t : State) (n k : ℕ) (m : Message) (class : Class) (now : ℕ) → message_at lane.Durable s (place.Queue n) k ≡ Some m → IsOfEnds class → Endures (without_at lane.Durable s (place.Queue n) k) t
      → Pends x K s → Pends x K (meets t m class now)
  leaves_pending s t n k m class now there ends e h = at h.1
    where
      out : State
      out = without_at lane.Durable s (place.Queue n) k

      stays : IsOpen x K out → Pends x K (meets t m class now)
      stays o = pends_on t (meets t m class now) (meets_endures t m class now) (pends_on out t e (without_knows s n k h.0, o))

      at : IsOpen x K s → Pends x K (meets t m class now)
      at (inl none) = stays (inl none)
      at (inr (inr told)) = stays (inr (inr (record { final = told.final; waits = told.waits; is = told.is; unlimited = told.unlimited; known = told.known })))
      at (inr (inl (y, stands, asks))) = by (left_stands y s.places n k m there stands)
        where
          by : StandsAt y (changed_at s.places (place.Queue n) (held.without lane.Durable k)) ⊎ (m ≡ y) → Pends x K (meets t m class now)
          by (inl stood) = stays (inr (inl (y, stood, asks)))
          by (inr same) = meets_tells t m class now (knows_on x out t e (without_knows s n k h.0)) (subst (Asks x) (sym same) asks) ends

  lapses_knowing : (s : State) (j index : ℕ) → Knows x s → Knows x (with_plain (without lane.Durable index) s j)
  lapses_knowing s j index h = let same = changed_length (without lane.Durable index) s.plain j in let lt = h.list in
      record { own = h.own; index = h.index; there = h.there; list = omega (arith, same, lt); late = h.late }

  lapses_pending : (s : State) (j index now : ℕ) (p : PlainLists) → slice_get s.plain j ≡ Some p → lapsing lane.Durable now p ≡ Some index → Pends x K s → Pends x K (with_plain (without lane.Durable index) s j)
  lapses_pending s j index now p there found h = (lapses_knowing s j index h.0, at h.1)
    where
      after : State
      after = with_plain (without lane.Durable index) s j

      at : IsOpen x K s → IsOpen x K after
      at (inl none) = inl none
      at (inr (inl stands)) = inr (inl stands)
      at (inr (inr told)) = by (waits_or ⊥ (without lane.Durable index) s j x.index f keeps told.waits)
        where
          f : Message
          f = told.final

          none_lapses : (o : Outgoing) → slice_get p.recoverable index ≡ Some o → o.message ≡ f → ⊥
          none_lapses o e same = let q = position_there (lapses now) p.recoverable index found in
              true_not_false (cannot_reach now f) (subst (λ y. cannot_reach now y ≡ true) (ap (λ (z : Outgoing). z.message) (some_is q.0 o (sym q.1 ∙ e)) ∙ same) q.2) (unlimited now f told.unlimited)

          keeps : (y : PlainLists) → slice_get s.plain j ≡ Some y → In f (messages_of y.recoverable) → In f (messages_of (without lane.Durable index y).recoverable) ⊎ ⊥
          keeps y e i = left (removed_message y.recoverable index f i)
            where
              left : In f (messages_of (remove y.recoverable index)) ⊎ ((o : Outgoing) × (slice_get y.recoverable index ≡ Some o) × (o.message ≡ f)) → In f (messages_of (remove y.recoverable index)) ⊎ ⊥
              left (inl k) = inl k
              left (inr (o, g, same)) = absurd (none_lapses o (ap (λ (z : PlainLists). slice_get z.recoverable index) (some_is p y (sym there ∙ e)) ∙ g) same)

          by : WaitsFor after x.index f ⊎ ⊥ → IsOpen x K after
          by (inl w) = inr (inr (record { final = f; waits = w; is = told.is; unlimited = told.unlimited; known = told.known }))
          by (inr none) = absurd none

  pub pends_survives : Survives lane.Durable (Pends x K)
  pends_survives = record { on = pends_on; leaves = leaves_pending; lapses = lapses_pending }

  -- Releases.

  released_or : (s : State) (n k : ℕ) (m : Message) → WaitsFor s k m → WaitsFor (without_released s n) k m ⊎ (m.id ≡ own_id s n)
  released_or s n k m h = by (position (has_recoverable s n) s.plain)
    where
      list : (p : PlainLists) → In m (messages_of p.recoverable) → In m (messages_of (without_recoverable s n p).recoverable) ⊎ (m.id ≡ own_id s n)
      list p i = at (position (is_released_by s n) p.recoverable) refl
        where
          left : (j : ℕ) → position (is_released_by s n) p.recoverable ≡ Some j → In m (messages_of (remove p.recoverable j)) ⊎ ((o : Outgoing) × (slice_get p.recoverable j ≡ Some o) × (o.message ≡ m))
              → In m (messages_of (remove p.recoverable j)) ⊎ (m.id ≡ own_id s n)
          left j e (inl g) = inl g
          left j e (inr (o, g, same)) = let q = position_there (is_released_by s n) p.recoverable j e in
              inr (ap (λ (y : Message). y.id) (sym same) ∙ same_id_is o.message.id (own_id s n) (subst (λ (z : Outgoing). is_released_by s n z ≡ true) (some_is q.0 o (sym q.1 ∙ g)) q.2))

          at : (o : Option ℕ) → position (is_released_by s n) p.recoverable ≡ o → In m (messages_of (option_map_or (remove p.recoverable) o p.recoverable)) ⊎ (m.id ≡ own_id s n)
          at None e = inl i
          at (Some j) e = left j e (removed_message p.recoverable j m i)

      by : (o : Option ℕ) → WaitsFor (record s { plain = option_map_or (λ j. option_map_or (λ p. slice_set s.plain j (without_recoverable s n p)) (slice_get s.plain j) s.plain) o s.plain }) k m ⊎ (m.id ≡ own_id s n)
      by None = inl h
      by (Some j) = waits_or (m.id ≡ own_id s n) (without_recoverable s n) s j k m (λ p there i. list p i) h

  first_length : (s : State) (n : ℕ) → length (without_released s n).plain ≡ length s.plain
  first_length s n = at (position (has_recoverable s n) s.plain)
    where
      at : (o : Option ℕ) → length (option_map_or (λ j. option_map_or (λ p. slice_set s.plain j (without_recoverable s n p)) (slice_get s.plain j) s.plain) o s.plain) ≡ length s.plain
      at None = refl
      at (Some j) = changed_length (without_recoverable s n) s.plain j

  released_knows : (s : State) (n : ℕ) → Knows x s → Knows x (without_released s n)
  released_knows s n h = let same = first_length s n in let lt = h.list in record { own = h.own; index = h.index; there = h.there; list = omega (arith, same, lt); late = h.late }

  pub releases_know : (e : Effect) (ns : List ℕ) → Knows x e.state → Knows x (fold message_released e ns).state
  releases_know e [] h = h
  releases_know e (n ∷ ns) h = releases_know (message_released e n) ns (released_knows e.state n h)

  waits_through : (e : Effect) (ns : List ℕ) (f : Message) → WaitsFor e.state x.index f → WaitsFor (fold message_released e ns).state x.index f ⊎ In f.id.number ns
  waits_through e [] f h = inl h
  waits_through e (n ∷ ns) f h = at (waits_through (message_released e n) ns f) (released_or e.state n x.index f h)
    where
      later : WaitsFor (fold message_released (message_released e n) ns).state x.index f ⊎ In f.id.number ns → WaitsFor (fold message_released (message_released e n) ns).state x.index f ⊎ In f.id.number (n ∷ ns)
      later (inl w) = inl w
      later (inr i) = inr (inr i)

      at : (WaitsFor (without_released e.state n) x.index f → WaitsFor (fold message_released (message_released e n) ns).state x.index f ⊎ In f.id.number ns)
          → WaitsFor (without_released e.state n) x.index f ⊎ (f.id ≡ own_id e.state n) → WaitsFor (fold message_released (message_released e n) ns).state x.index f ⊎ In f.id.number (n ∷ ns)
      at rest (inl w) = later (rest w)
      at rest (inr same) = inr (inl (ap (λ (i : MessageId). i.number) (sym same)))

  -- the acknowledgement waits in a state, under a number of these
  abbrev pub OneReleased : State → List ℕ → Type 0
  OneReleased s ns = (told : IsToBeTold x K s) × In told.final.id.number ns

  releases_or : (s : State) (ns : List ℕ) → Pends x K s → Pends x K (releases_made s ns).state ⊎ OneReleased s ns
  releases_or s ns h = by h.1
    where
      after : State
      after = (releases_made s ns).state

      by : IsOpen x K s → Pends x K after ⊎ OneReleased s ns
      by (inl none) = inl (releases_know (begun s) ns h.0, inl (let up = (releases_rows (begun s) ns).numbers in omega (arith, up, none)))
      by (inr (inl (m, stands, asks))) = inl (releases_know (begun s) ns h.0, inr (inl (m, subst (StandsAt m) (sym (released_places (begun s) ns)) stands, asks)))
      by (inr (inr told)) = at (waits_through (begun s) ns told.final told.waits)
        where
          at : WaitsFor after x.index told.final ⊎ In told.final.id.number ns → Pends x K after ⊎ OneReleased s ns
          at (inl w) = inl (releases_know (begun s) ns h.0, inr (inr (record { final = told.final; waits = w; is = told.is; unlimited = told.unlimited; known = told.known })))
          at (inr i) = inr (told, i)

  -- It is decided.

  of_transaction : (d : Delivery) → is_transactional d ≡ true → d ≡ delivery.Transactional
  of_transaction delivery.Express e = absurd (clash (sym e))
  of_transaction delivery.Recoverable e = absurd (clash (sym e))
  of_transaction delivery.Transactional e = refl

  ends_refuse : OfRefusals IsOfEnds
  ends_refuse = record { late = (refl, refl); nowhere = (refl, refl); of_queue = (refl, refl); of_message = (refl, refl); full = (refl, refl) }

  queue_stands : (p : Places) (n : ℕ) (l : Lists) (m : Message) → lists_at p (place.Queue n) ≡ Some l → In m l.durable → StandsAt m p
  queue_stands p n l m e i = at (numbered p.queues n) refl e
    where
      at : (o : Option Queue) → numbered p.queues n ≡ o → option_map (λ (q : Queue). q.lists) o ≡ Some l → StandsAt m p
      at None f g = absurd (none_some g)
      at (Some q) f g = (q, get_in p.queues (n - 1) q (place_there p.queues n q f), subst (λ (y : Lists). In m y.durable) (sym (some_is q.lists l g)) i)

  pub decided_pends : (now : ℕ) (s : State) (p : UserPacket) (tx : TxHead) → Knows x s → Asks x p.message → Pends x K (message_decided now s p tx).state
  decided_pends now s p tx k asks = at (refusal_of s p) refl (class_refused IsOfEnds ends_refuse s p)
    where
      t : State
      t = with_decided s p.message tx

      knows : Knows x t
      knows = record { own = k.own; index = k.index; there = k.there; list = k.list; late = k.late }

      at : (o : Option Class) → refusal_of s p ≡ o → IfSome o IsOfEnds → Pends x K (message_decided now s p tx).state
      at (Some class) e ends = subst (λ o. Pends x K (arrived t p.message now o)) (sym e) (meets_tells t p.message class now knows asks ends)
      at None e ends = let joins = decided_joins now s p tx e (of_transaction p.message.delivery asks.transactional) in (
        knows_on x t (message_decided now s p tx).state (arrived_endures t p.message now (refusal_of s p)) knows,
        inr (inl (p.message, queue_stands (message_decided now s p tx).state.places joins.queue (put lane.Durable p.message joins.lists) p.message joins.after (in_end joins.lists.durable p.message), asks)),
      )

  -- Records.

  -- a record releases the acknowledgement
  abbrev pub Releases : State → Record → Type 0
  Releases s (entry.Arrived now numbers part) = OneReleased s numbers
  Releases s r = ⊥

  pub record_pends : (s : State) (r : Record) → IsMade s r → Pends x K s → Pends x K (apply s r) ⊎ Releases s r
  record_pends s (entry.Arrived now numbers part) made h = at (releases_or s numbers h)
    where
      at : Pends x K (releases_made s numbers).state ⊎ OneReleased s numbers → Pends x K (apply s (entry.Arrived now numbers part)) ⊎ OneReleased s numbers
      at (inl g) = inl (record_survives (Pends x K) pends_survives s (entry.Arrived now numbers part) made g)
      at (inr g) = inr g
  record_pends s r made h = inl (record_survives (Pends x K) pends_survives s r made h)

  knows_survives : Survives lane.Durable (Knows x)
  knows_survives = record {
    on = knows_on x;
    leaves = λ s t n k m class now there ends e h. knows_on x t (meets t m class now) (meets_endures t m class now) (knows_on x (without_at lane.Durable s (place.Queue n) k) t e (without_knows s n k h));
    lapses = λ s j index now p there found h. lapses_knowing s j index h;
  }

  pub record_knows : (s : State) (r : Record) → IsMade s r → Knows x s → Knows x (apply s r)
  record_knows s (entry.Arrived now numbers part) made h = record_survives (Knows x) knows_survives s (entry.Arrived now numbers part) made (releases_know (begun s) numbers h)
  record_knows s r made h = record_survives (Knows x) knows_survives s r made h
