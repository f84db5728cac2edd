-- What calls of a connection leave of a manager: itself and its peers, its rows, and that what waits for peers is its own.
use Rattle.std.proofs.Common.{refl, ap, sym, subst, ◌∙◌}
use Rattle.std.specs.List.{AllByRecursion}
use Rattle.std.specs.Option.{option_map_or}
use Rattle.std.specs.Prelude.{[], ◌&&◌, ◌==◌, ◌∷◌, ◌≡◌, Bool, IfSome, List, None, Option, Some, cond, false, fold, is_none, not, option_and_then, option_map, slice_get, true, ℕ}
use Rattle.mqb_base.specs.Lanes.{lane_of}
use Rattle.mqb_base.specs.declared.class.Class.{Class}
use Rattle.mqb_base.specs.declared.class.TheConstants.Class.{BAD_DESTINATION, REACHED_QUEUE, REACH_TIMEOUT}
use Rattle.mqb_base.specs.declared.heads.SessionHead.{SessionHead}
use Rattle.mqb_base.specs.declared.heads.TxHead.{TxHead}
use Rattle.mqb_base.specs.declared.ids.Guid.{Guid}
use Rattle.mqb_base.specs.declared.ids.Identity.{Identity}
use Rattle.mqb_base.specs.declared.message.Delivery.{Delivery}
use Rattle.mqb_base.specs.declared.message.Delivery.TheVariants as delivery
use Rattle.mqb_base.specs.declared.message.Message.{Message}
use Rattle.mqb_base.specs.declared.message.Lane.TheVariants as lane
use Rattle.mqb_base.specs.declared.queue_names.QueueName.{QueueName}
use Rattle.mqb_base.specs.declared.queue_names.QueueName.TheVariants as name
use Rattle.mqb_base.specs.declared.queues.EntryPlace.{EntryPlace}
use Rattle.mqb_base.specs.declared.queues.EntryPlace.TheVariants as place
use Rattle.mqb_entries.specs.declared.members.Mark.{Mark}
use Rattle.mqb_fate.specs.Asking.{asks_for, final_is_due, is_ordinary, is_transactional}
use Rattle.mqb_base.specs.Classes.{is_negative}
use Rattle.mqb_fate.specs.Orders.{order_layer}
use Rattle.mqb_fate.specs.Notices.{admin_delivery, admin_notice, final_notice, notice_about}
use Rattle.mqb_orders.specs.Rows.{acknowledged}
use Rattle.mqb_packet.specs.declared.packet.UserPacket.{UserPacket}
use Rattle.mqb_plain.specs.Lists.{is_sent_by, marked_next, unsent}
use Rattle.mqb_plain.specs.Plain.{PlainLists, pushed}
use Rattle.mqb_plain.specs.declared.outgoing.Outgoing.{Outgoing}
use Rattle.mqb_queue.specs.Places.{Places}
use Rattle.mqb_session.specs.declared.heads.Kind.TheVariants as kind
use Rattle.mqb_model.specs.declared.target.Target.{Target}
use Rattle.mqb_model.specs.declared.target.Target.TheVariants.{AtPeer, Here, Nowhere}
use Rattle.mqb_model.specs.managers.Beside.{OfExpress, OfRecoverable, OfRow, Origin, Owed, beside_done, noted, noted_as, with_marked, without_acked}
use Rattle.mqb_model.specs.managers.Beside as beside
use Rattle.mqb_model.specs.records.Applying.{apply}
use Rattle.mqb_model.specs.records.Arrived.{part_made}
use Rattle.mqb_model.specs.records.Decisions.{message_decided, with_decided}
use Rattle.mqb_model.specs.records.Finals.{dead_for, final_stored, finished_at, finished_by, finished_row, index_finished, kept_named, with_finished}
use Rattle.mqb_model.specs.records.Offered.{mark_raised, with_offered}
use Rattle.mqb_model.specs.records.Record.{Part, Record}
use Rattle.mqb_model.specs.records.Record as entry
use Rattle.mqb_model.specs.records.Releases.{has_recoverable, is_released_by, message_released, releases_made, without_recoverable, without_released}
use Rattle.mqb_model.specs.rules.Arrivals.{refusal_of, storing_refusal, target_refusal}
use Rattle.mqb_model.specs.rules.Effects.{Effect, begun, joined}
use Rattle.mqb_model.specs.rules.Notices.{admin_about, admin_told, arrived, buried, dead_place, final_about, final_told, final_told_at, may_go, meets, told}
use Rattle.mqb_model.specs.rules.Numbers.{number_left, number_taken}
use Rattle.mqb_model.specs.state.Places.{placed, put_at, with_plain}
use Rattle.mqb_model.specs.state.Resolving.{is_for_order_layer, peer_known, resolved}
use Rattle.mqb_model.specs.state.Rows.{has_ordinal}
use Rattle.mqb_model.specs.state.State.{State}
use Rattle.mqb_capture.specs.Lawful.{kind_for}
use Rattle.mqb_law_captures.proofs.Rows.{IsOwnOf, RowsGo, acknowledged_goes, changed_goes, finished_goes, first_goes, offered_goes, rows_same, rows_then}
use Rattle.mqb_law_captures.proofs.Lists.{all_append, changed_holds, fewer_all, fewer_filter, fewer_without, first_holds}

-- a fact of messages holds of those behind the first that is marked
marked_all : (Q : Outgoing → Type 0) (number : ℕ) (items : List Outgoing) → ((o : Outgoing) → Q o → Q (record o { mark = Some number })) → AllByRecursion Q items → AllByRecursion Q (marked_next number items)
marked_all Q number [] f h = tt
marked_all Q number (o ∷ items) f h = at (marked_all Q number items f h.1) (is_none o.mark)
  where
    at : AllByRecursion Q (marked_next number items) → (b : Bool) → AllByRecursion Q (cond b (record o { mark = Some number } ∷ items) (o ∷ marked_next number items))
    at more true = (f o h.0, h.1)
    at more false = (h.0, more)

module _ (own : Guid) where
  -- what waits for one peer is this manager's own
  pub record WaitsOwn (p : PlainLists) : Type 0 where
    pub recoverable : AllByRecursion (λ (o : Outgoing). IsOwnOf own kind.Recoverable o.message) p.recoverable
    pub express : AllByRecursion (λ (o : Outgoing). IsOwnOf own kind.Plain o.message) p.express

  -- From one state to another.
  pub record Leaves (a b : State) : Type 0 where
    pub identity : b.identity ≡ a.identity
    pub peers : b.peers ≡ a.peers
    pub rows : RowsGo own a.outs b.outs
    pub plain : a.identity.guid ≡ own → AllByRecursion WaitsOwn a.plain → AllByRecursion WaitsOwn b.plain

  pub leaves_same : (s : State) → Leaves s s
  leaves_same s = record { identity = refl; peers = refl; rows = rows_same own s.outs; plain = λ is h. h }

  pub leaves_then : (a b c : State) → Leaves a b → Leaves b c → Leaves a c
  leaves_then a b c f g = record {
    identity = g.identity ∙ f.identity;
    peers = g.peers ∙ f.peers;
    rows = rows_then own a.outs b.outs c.outs f.rows g.rows;
    plain = λ is h. g.plain (ap (λ (i : Identity). i.guid) f.identity ∙ is) (f.plain is h);
  }

  leaves_or : {X : Type 0} (s : State) (f : X → State) (o : Option X) → ((x : X) → o ≡ Some x → Leaves s (f x)) → Leaves s (option_map_or f o s)
  leaves_or s f None some = leaves_same s
  leaves_or s f (Some x) some = some x refl

  leaves_if : (s : State) (b : Bool) (x y : State) → Leaves s x → Leaves s y → Leaves s (cond b x y)
  leaves_if s true x y left right = left
  leaves_if s false x y left right = right

  -- Messages join places and plain lists.

  -- a message of this manager that is in no stream
  abbrev IsNotice : State → Message → Type 0
  IsNotice s m = (m.id.qm ≡ s.identity.guid) × (is_transactional m.delivery ≡ false)

  put_leaves : (s : State) (at : EntryPlace) (m : Message) → Leaves s (put_at s at m)
  put_leaves s at m = record { identity = refl; peers = refl; rows = rows_same own s.outs; plain = λ is h. h }

  number_leaves : (s : State) (d : Delivery) → Leaves s (number_taken s d)
  number_leaves s delivery.Express = record { identity = refl; peers = refl; rows = rows_same own s.outs; plain = λ is h. h }
  number_leaves s d = record { identity = refl; peers = refl; rows = rows_same own s.outs; plain = λ is h. h }

  plain_leaves : (change : PlainLists → PlainLists) (s : State) (k : ℕ) → (s.identity.guid ≡ own → (p : PlainLists) → WaitsOwn p → WaitsOwn (change p)) → Leaves s (with_plain change s k)
  plain_leaves change s k keeps = record {
    identity = refl;
    peers = refl;
    rows = rows_same own s.outs;
    plain = λ is h. changed_holds WaitsOwn change s.plain k (keeps is) h;
  }

  pushed_own : (m : Message) → m.id.qm ≡ own → is_transactional m.delivery ≡ false → (p : PlainLists) → WaitsOwn p → WaitsOwn (pushed (lane_of m.delivery) m p)
  pushed_own m source other p h = at m.delivery refl other
    where
      at : (d : Delivery) → m.delivery ≡ d → is_transactional d ≡ false → WaitsOwn (pushed (lane_of d) m p)
      at delivery.Express e f = record {
        recoverable = h.recoverable;
        express = all_append (λ (o : Outgoing). IsOwnOf own kind.Plain o.message) p.express (unsent m ∷ []) h.express ((source, ap kind_for e), tt);
      }
      at delivery.Recoverable e f = record {
        recoverable = all_append (λ (o : Outgoing). IsOwnOf own kind.Recoverable o.message) p.recoverable (unsent m ∷ []) h.recoverable ((source, ap kind_for e), tt);
        express = h.express;
      }
      at delivery.Transactional e f = absurd (let none : ⊥ = cc in none)

  placed_leaves : (s : State) (t : Target) (m : Message) → IsNotice s m → Leaves s (placed s t m)
  placed_leaves s (Here queue) m is = leaves_or s (λ number. put_at s (place.Queue number) m) queue (λ number e. put_leaves s (place.Queue number) m)
  placed_leaves s (AtPeer k) m is = plain_leaves (pushed (lane_of m.delivery) m) s k (λ same p h. pushed_own m (is.0 ∙ same) is.1 p h)
  placed_leaves s Nowhere m is = leaves_same s

  -- Notices.

  told_leaves : (s : State) (t : Target) (notice : Message) → IsNotice s notice → Leaves s (told s t notice)
  told_leaves s t notice is = leaves_if s (may_go s t notice.delivery) (placed (number_taken s notice.delivery) t notice) s
      (leaves_then s (number_taken s notice.delivery) (placed (number_taken s notice.delivery) t notice) (number_leaves s notice.delivery)
      (placed_leaves (number_taken s notice.delivery) t notice (is.0 ∙ sym (ap (λ (i : Identity). i.guid) (number_leaves s notice.delivery).identity), is.1))) (leaves_same s)

  admin_plain : (d : Delivery) → is_transactional (admin_delivery d) ≡ false
  admin_plain delivery.Express = refl
  admin_plain d = refl

  admin_is : (s : State) (m : Message) (class : Class) (now : ℕ) → IfSome (admin_about s m class now) (IsNotice s)
  admin_is s m class now = at (number_left s (admin_delivery m.delivery))
    where
      named : (number : ℕ) (o : Option QueueName) → IfSome (option_map (λ admin. notice_about m class (admin_delivery m.delivery) admin (record { qm = s.identity.guid; number = number }) now) o) (IsNotice s)
      named number None = tt
      named number (Some admin) = (refl, admin_plain m.delivery)

      by : (number : ℕ) (b : Bool)
          → IfSome (cond b (option_map (λ admin. notice_about m class (admin_delivery m.delivery) admin (record { qm = s.identity.guid; number = number }) now) m.admin) None) (IsNotice s)
      by number true = named number m.admin
      by number false = tt

      at : (o : Option ℕ) → IfSome (option_and_then (λ number. admin_notice m class s.identity.guid number now) o) (IsNotice s)
      at None = tt
      at (Some number) = by number (is_ordinary m && asks_for m class)

  notice_or : (s : State) (f : Message → State) (o : Option Message) → IfSome o (IsNotice s) → ((x : Message) → IsNotice s x → Leaves s (f x)) → Leaves s (option_map_or f o s)
  notice_or s f None is some = leaves_same s
  notice_or s f (Some x) is some = some x is

  admin_leaves : (s : State) (m : Message) (class : Class) (now : ℕ) → Leaves s (admin_told s m class now)
  admin_leaves s m class now = notice_or s (λ notice. told s (resolved s notice.destination) notice) (admin_about s m class now) (admin_is s m class now)
      (λ notice is. told_leaves s (resolved s notice.destination) notice is)

  final_is : (s : State) (peer : Identity) (m : Message) (class : Class) (now : ℕ) → IfSome (final_about s peer m class now) (IsNotice s)
  final_is s peer m class now = at (number_left s delivery.Recoverable)
    where
      by : (number : ℕ) (b : Bool) → IfSome (cond b (Some (notice_about m class delivery.Recoverable (order_layer peer.host) (record { qm = s.identity.guid; number = number }) now)) None) (IsNotice s)
      by number true = (refl, refl)
      by number false = tt

      at : (o : Option ℕ) → IfSome (option_and_then (λ number. final_notice m class s.identity.guid peer number now) o) (IsNotice s)
      at None = tt
      at (Some number) = by number (final_is_due m class s.identity.guid)

  final_leaves : (s : State) (m : Message) (class : Class) (now : ℕ) → Leaves s (final_told s m class now)
  final_leaves s m class now = leaves_or s (λ k. option_map_or (λ peer. final_told_at s k peer m class now) (slice_get s.peers k) s) (peer_known s m.id.qm)
      (λ k e. leaves_or s (λ peer. final_told_at s k peer m class now) (slice_get s.peers k)
      (λ peer f. notice_or s (told s (AtPeer k)) (final_about s peer m class now) (final_is s peer m class now) (λ notice is. told_leaves s (AtPeer k) notice is)))

  buried_leaves : (s : State) (m : Message) (class : Class) → Leaves s (buried s m class)
  buried_leaves s m class = leaves_or s (λ at. put_at s at m) (dead_place s m class) (λ at e. put_leaves s at m)

  meets_leaves : (s : State) (m : Message) (class : Class) (now : ℕ) → Leaves s (meets s m class now)
  meets_leaves s m class now = let first = admin_told s m class now in let second = final_told first m class now in
      leaves_then s first (buried second m class) (admin_leaves s m class now)
      (leaves_then first second (buried second m class) (final_leaves first m class now) (buried_leaves second m class))

  -- Messages arrive.

  -- a message that is put stays here
  abbrev IsHere : Target → Type 0
  IsHere t = (number : ℕ) × (t ≡ Here (Some number))

  target_here : (s : State) (t : Target) (d : Delivery) → target_refusal s t d ≡ None → IsHere t
  target_here s (Here (Some number)) d e = (number, refl)
  target_here s t d e = absurd (let none : ⊥ = cc in none)

  refusal_here : (s : State) (p : UserPacket) → refusal_of s p ≡ None → IsHere (resolved s p.message.destination)
  refusal_here s p e = at (p.remaining == 0) e
    where
      at : (b : Bool) → cond b (Some REACH_TIMEOUT) (target_refusal s (resolved s p.message.destination) p.message.delivery) ≡ None → IsHere (resolved s p.message.destination)
      at true f = absurd (let none : ⊥ = cc in none)
      at false f = target_here s (resolved s p.message.destination) p.message.delivery f

  storing_here : (s : State) (p : UserPacket) → storing_refusal s p ≡ None → IsHere (resolved s p.message.destination)
  storing_here s p e = at (is_for_order_layer s p.message.destination) e
    where
      at : (b : Bool) → cond b (Some BAD_DESTINATION) (refusal_of s p) ≡ None → IsHere (resolved s p.message.destination)
      at true f = absurd (let none : ⊥ = cc in none)
      at false f = refusal_here s p f

  -- a name leads where it leads by the identity, the peers and the places
  pub resolved_by : (a b : State) → b.identity ≡ a.identity → b.peers ≡ a.peers → b.places ≡ a.places → (d : QueueName) → resolved b d ≡ resolved a d
  resolved_by a b identity peers places d = at d ∙ ap (λ (i : Identity). resolved (record a { identity = i; peers = b.peers; places = b.places }) d) identity
      ∙ ap (λ (ps : List Identity). resolved (record a { peers = ps; places = b.places }) d) peers
      ∙ ap (λ (q : Places). resolved (record a { places = q }) d) places
    where
      at : (d : QueueName) → resolved b d ≡ resolved (record a { identity = b.identity; peers = b.peers; places = b.places }) d
      at (name.Public guid false) = refl
      at (name.Private qm number false) = refl
      at (name.Direct host queue false) = refl
      at x = refl

  placed_here : (s : State) (t : Target) (m : Message) → IsHere t → Leaves s (placed s t m)
  placed_here s t m here = subst (λ (x : Target). Leaves s (placed s x m)) (sym here.1) (put_leaves s (place.Queue here.0) m)

  arrived_leaves : (s : State) (m : Message) (now : ℕ) (refusal : Option Class) → (refusal ≡ None → IsHere (resolved s m.destination)) → Leaves s (arrived s m now refusal)
  arrived_leaves s m now None here = leaves_then s (placed s (resolved s m.destination) m) (meets (placed s (resolved s m.destination) m) m REACHED_QUEUE now)
      (placed_here s (resolved s m.destination) m (here refl)) (meets_leaves (placed s (resolved s m.destination) m) m REACHED_QUEUE now)
  arrived_leaves s m now (Some class) here = meets_leaves s m class now

  -- Released messages.

  released_own : (s : State) (number : ℕ) (p : PlainLists) → WaitsOwn p → WaitsOwn (without_recoverable s number p)
  released_own s number p h = record {
    recoverable = fewer_all (λ (o : Outgoing). IsOwnOf own kind.Recoverable o.message) (fewer_without (is_released_by s number) p.recoverable) h.recoverable;
    express = h.express;
  }

  release_leaves : (s : State) (number : ℕ) → Leaves s (without_released s number)
  release_leaves s number = record {
    identity = refl;
    peers = refl;
    rows = rows_same own s.outs;
    plain = λ is h. first_holds WaitsOwn (without_recoverable s number) (has_recoverable s number) s.plain (released_own s number) h;
  }

  releases_leave : (e : Effect) (numbers : List ℕ) → Leaves e.state (fold message_released e numbers).state
  releases_leave e [] = leaves_same e.state
  releases_leave e (n ∷ ns) = leaves_then e.state (message_released e n).state (fold message_released (message_released e n) ns).state (release_leaves e.state n)
      (releases_leave (message_released e n) ns)

  pub releases_places : (e : Effect) (numbers : List ℕ) → (fold message_released e numbers).state.places ≡ e.state.places
  releases_places e [] = refl
  releases_places e (n ∷ ns) = releases_places (message_released e n) ns

  -- Parts.

  effect_or : {X : Type 0} (e : Effect) (f : X → Effect) (o : Option X) → ((x : X) → Leaves e.state (f x).state) → Leaves e.state (option_map_or f o e).state
  effect_or e f None some = leaves_same e.state
  effect_or e f (Some x) some = some x

  decided_leaves : (now : ℕ) (s : State) (p : UserPacket) (tx : TxHead) → Leaves s (message_decided now s p tx).state
  decided_leaves now s p tx = let t = with_decided s p.message tx in
      leaves_then s t (arrived t p.message now (refusal_of s p)) (record { identity = refl; peers = refl; rows = rows_same own s.outs; plain = λ is h. h })
      (arrived_leaves t p.message now (refusal_of s p) (λ none. let here = refusal_here s p none in (here.0, resolved_by s t refl refl refl p.message.destination ∙ here.1)))

  stored_leaves : (now : ℕ) (s : State) (p : UserPacket) → Leaves s (arrived s p.message now (storing_refusal s p))
  stored_leaves now s p = arrived_leaves s p.message now (storing_refusal s p) (storing_here s p)

  dead_leaves : (class : Class) (s : State) (m : Message) → Leaves s (dead_for class s m)
  dead_leaves class s m = at (is_negative class.0)
    where
      at : (b : Bool) → Leaves s (cond b (put_at s place.DeadXact m) s)
      at true = put_leaves s place.DeadXact m
      at false = leaves_same s

  finished_leaves : (s : State) (m : Message) (index : ℕ) → Leaves s (finished_at s m index)
  finished_leaves s m index = leaves_or s (λ k. dead_for m.class (with_finished m.correlation s index k) k.message) (option_and_then (kept_named m.correlation) (slice_get s.outs index))
      (λ k e. leaves_then s (with_finished m.correlation s index k) (dead_for m.class (with_finished m.correlation s index k) k.message)
      (record {
        identity = refl;
        peers = refl;
        rows = changed_goes own (finished_row m.correlation k.number) s.outs index
            (λ a there. finished_goes own m.correlation k a (ap (option_and_then (kept_named m.correlation)) (sym there) ∙ e));
        plain = λ is h. h;
      })
      (dead_leaves m.class (with_finished m.correlation s index k) k.message))

  final_leaves_rows : (s : State) (m : Message) → Leaves s (final_stored s m).state
  final_leaves_rows s m = leaves_or s (λ peer. finished_by s peer m) (peer_known s m.id.qm)
      (λ peer e. leaves_or s (finished_at s m) (index_finished s peer m) (λ index f. finished_leaves s m index))

  part_leaves : (now : ℕ) (e : Effect) (part : Part) → Leaves e.state (part_made now e part).state
  part_leaves now e entry.Nothing = leaves_same e.state
  part_leaves now e (entry.Decided p) = effect_or e (λ tx. joined e (message_decided now e.state p tx)) p.tx (λ tx. decided_leaves now e.state p tx)
  part_leaves now e (entry.Stored p) = stored_leaves now e.state p
  part_leaves now e (entry.OrderAcknowledged ordinal number) = record {
    identity = refl;
    peers = refl;
    rows = first_goes own (acknowledged number) (has_ordinal ordinal) e.state.outs (acknowledged_goes own number);
    plain = λ is h. h;
  }
  part_leaves now e (entry.Final p) = final_leaves_rows e.state p.message

  pub record_leaves : (s : State) (now : ℕ) (numbers : List ℕ) (part : Part) → Leaves s (apply s (entry.Arrived now numbers part))
  record_leaves s now numbers part = leaves_then s (releases_made s numbers).state (apply s (entry.Arrived now numbers part)) (releases_leave (begun s) numbers)
      (part_leaves now (releases_made s numbers) part)

  -- Express messages.

  acked_own : (number : ℕ) (p : PlainLists) → WaitsOwn p → WaitsOwn (without_acked number p)
  acked_own number p h = record {
    recoverable = h.recoverable;
    express = fewer_all (λ (o : Outgoing). IsOwnOf own kind.Plain o.message) (fewer_filter (λ o. not (is_sent_by number o)) p.express) h.express;
  }

  pub dropped_leaves : (s : State) (peer number : ℕ) → Leaves s (beside_done (beside.DropsExpress peer number) s)
  dropped_leaves s peer number = plain_leaves (without_acked number) s peer (λ is p h. acked_own number p h)

  pub express_leaves : (s t : State) (peer number now : ℕ) (p : UserPacket) → t.identity ≡ s.identity → t.peers ≡ s.peers → t.places ≡ s.places
      → Leaves t (beside_done (beside.HearsExpress peer number now p.message (refusal_of s p)) t)
  express_leaves s t peer number now p identity peers places = let u = with_plain (without_acked number) t peer in
      leaves_then t u (arrived u p.message now (refusal_of s p)) (dropped_leaves t peer number)
      (arrived_leaves u p.message now (refusal_of s p) (λ none. let here = refusal_here s p none in (here.0, resolved_by s u identity peers places p.message.destination ∙ here.1)))

  -- What a pump notes.

  marked_own : (n : ℕ) (p : PlainLists) → WaitsOwn p → WaitsOwn (with_marked lane.Durable n p) × WaitsOwn (with_marked lane.Express n p)
  marked_own n p h = (
    record { recoverable = marked_all (λ (o : Outgoing). IsOwnOf own kind.Recoverable o.message) n p.recoverable (λ o g. g) h.recoverable; express = h.express },
    record { recoverable = h.recoverable; express = marked_all (λ (o : Outgoing). IsOwnOf own kind.Plain o.message) n p.express (λ o g. g) h.express },
  )

  noted_leaves : (peer : ℕ) (head : SessionHead) (s : State) (from : Origin) → Leaves s (noted_as peer head s from)
  noted_leaves peer head s (Owed row) = number_leaves s delivery.Express
  noted_leaves peer head s OfRecoverable = plain_leaves (with_marked lane.Durable head.recoverable) s peer (λ is p h. (marked_own head.recoverable p h).0)
  noted_leaves peer head s OfExpress = plain_leaves (with_marked lane.Express head.user) s peer (λ is p h. (marked_own head.user p h).1)
  noted_leaves peer head s (OfRow row number) = leaves_same s

  pub notes_leave : (peer : ℕ) (s : State) (sent : List (Origin × SessionHead)) → Leaves s (fold (noted peer) s sent)
  notes_leave peer s [] = leaves_same s
  notes_leave peer s (given ∷ sent) = leaves_then s (noted peer s given) (fold (noted peer) (noted peer s given) sent) (noted_leaves peer given.1 s given.0)
      (notes_leave peer (noted peer s given) sent)

  pub marks_leave : (s : State) (marks : List Mark) → Leaves s (fold mark_raised s marks)
  marks_leave s [] = leaves_same s
  marks_leave s (mark ∷ marks) = leaves_then s (mark_raised s mark) (fold mark_raised (mark_raised s mark) marks)
      (record { identity = refl; peers = refl; rows = first_goes own (with_offered mark.number) (has_ordinal mark.ordinal) s.outs (offered_goes own mark.number); plain = λ is h. h })
      (marks_leave (mark_raised s mark) marks)
