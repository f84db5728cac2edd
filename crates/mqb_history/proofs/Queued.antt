-- How many copies of a message queues have behind each step, and how many wait for peers: what is put, taken, purged, swept and told.
use Rattle.std.proofs.Common.{refl, ap, sym, subst, ◌∙◌, arith}
use Rattle.std.specs.Option.{option_map_or}
use Rattle.std.specs.Prelude.{◌&&◌, ◌+◌, ◌≡◌, ◌≤◌, Bool, IfSome, None, Option, Some, cond, false, nat_le, not, option_and_then, option_map, slice_get, true, ℕ}
use Rattle.mqb_base.specs.Bits.{keeps_dead}
use Rattle.mqb_base.specs.Classes.{is_negative}
use Rattle.mqb_base.specs.Lanes.{lane_of}
use Rattle.mqb_base.specs.declared.class.Class.{Class}
use Rattle.mqb_base.specs.declared.ids.Identity.{Identity}
use Rattle.mqb_base.specs.declared.ids.MessageId.{MessageId}
use Rattle.mqb_base.specs.declared.message.Delivery.{Delivery}
use Rattle.mqb_base.specs.declared.message.Delivery.TheVariants as delivery
use Rattle.mqb_base.specs.declared.message.Message.{Message}
use Rattle.mqb_base.specs.declared.queue_names.QueueName.{QueueName}
use Rattle.mqb_base.specs.declared.queues.EntryPlace.{EntryPlace}
use Rattle.mqb_base.specs.declared.queues.EntryPlace.TheVariants as place
use Rattle.mqb_base.specs.declared.queues.Place.TheVariants as named
use Rattle.mqb_fate.specs.Asking.{asks_for, final_is_due, is_ordinary, is_transactional}
use Rattle.mqb_fate.specs.Notices.{admin_delivery, notice_about}
use Rattle.mqb_fate.specs.Orders.{order_layer}
use Rattle.mqb_model.specs.declared.limits.TheConstants.{MAX_NUMBER}
use Rattle.mqb_model.specs.declared.target.Target.{Target}
use Rattle.mqb_model.specs.declared.target.Target.TheVariants.{AtPeer, Here, Nowhere}
use Rattle.mqb_model.specs.rules.Notices.{admin_about, admin_told, buried, dead_place, final_about, final_told, final_told_at, may_go, meets, told}
use Rattle.mqb_model.specs.rules.Numbers.{number_left, number_taken}
use Rattle.mqb_model.specs.state.Places.{is_express, placed, put_at}
use Rattle.mqb_model.specs.state.Resolving.{peer_known, resolved}
use Rattle.mqb_model.specs.state.State.{State}
use Rattle.mqb_plain.specs.Plain.{PlainLists, pushed}
use Rattle.mqb_queue.specs.First.{is_queue}
use Rattle.mqb_queue.specs.Lists as held
use Rattle.mqb_queue.specs.Places.{place_named}
use Rattle.mqb_history.proofs.Lists.{clash}
use Rattle.mqb_history.proofs.Owned.{given, given_next, given_same, in_list, in_plain, pushed_more, tally_changed}
use Rattle.mqb_history.proofs.Tallies.{copies, elsewhere, put_more, weight}

-- One state leads to another one: as many copies leave queues, and no more come to them, nor wait for peers, than these and one of each number that is given.
pub record Moves (x : MessageId) (less more : ℕ) (a b : State) : Type 0 where
  pub up : given x a ≤ given x b
  pub queues : copies x b + less + given x a ≤ copies x a + more + given x b
  pub both : copies x b + in_plain x b + less + given x a ≤ copies x a + in_plain x a + more + given x b

module _ (x : MessageId) where
  abbrev pub Still : State → State → Type 0
  Still a b = Moves x 0 0 a b

  -- no number is given
  pub without_number : (less more : ℕ) (a b : State) → b.identity ≡ a.identity → b.next_number ≡ a.next_number → copies x b + less ≤ copies x a + more
      → copies x b + in_plain x b + less ≤ copies x a + in_plain x a + more → Moves x less more a b
  without_number less more a b own next queues both = let same = given_same x a b own next in record {
    up = omega (arith, same);
    queues = omega (arith, same, queues);
    both = omega (arith, same, both);
  }

  pub stays : (s : State) → Still s s
  stays s = record { up = omega arith; queues = omega arith; both = omega arith }

  pub moves_then : (less more fewer further : ℕ) (a b c : State) → Moves x less more a b → Moves x fewer further b c → Moves x (less + fewer) (more + further) a c
  moves_then less more fewer further a b c f g = record {
    up = let one = f.up in let two = g.up in omega (arith, one, two);
    queues = let one = f.queues in let two = g.queues in omega (arith, one, two);
    both = let one = f.both in let two = g.both in omega (arith, one, two);
  }

  pub still_then : (less more : ℕ) (a b c : State) → Still a b → Moves x less more b c → Moves x less more a c
  still_then less more a b c f g = record {
    up = let one = f.up in let two = g.up in omega (arith, one, two);
    queues = let one = f.queues in let two = g.queues in omega (arith, one, two);
    both = let one = f.both in let two = g.both in omega (arith, one, two);
  }

  pub then_still : (less more : ℕ) (a b c : State) → Moves x less more a b → Still b c → Moves x less more a c
  then_still less more a b c f g = record {
    up = let one = f.up in let two = g.up in omega (arith, one, two);
    queues = let one = f.queues in let two = g.queues in omega (arith, one, two);
    both = let one = f.both in let two = g.both in omega (arith, one, two);
  }

  pub more_moves : (less more further : ℕ) (a b : State) → more ≤ further → Moves x less more a b → Moves x less further a b
  more_moves less more further a b le h = record { up = h.up; queues = let one = h.queues in omega (arith, one, le); both = let one = h.both in omega (arith, one, le) }

  pub still_or : {X : Type 0} (s : State) (f : X → State) (o : Option X) → ((y : X) → Still s (f y)) → Still s (option_map_or f o s)
  still_or s f None some = stays s
  still_or s f (Some y) some = some y

  pub still_if : (s : State) (b : Bool) (f g : State) → Still s f → Still s g → Still s (cond b f g)
  still_if s true f g left right = left
  still_if s false f g left right = right

  -- Puts.

  pub put_aside : (s : State) (at : EntryPlace) (m : Message) → is_queue at ≡ false → Still s (put_at s at m)
  put_aside s at m e = let le = elsewhere x s.places at (held.put (lane_of m.delivery) m) e in without_number 0 0 s (put_at s at m) refl refl (omega (arith, le)) (omega (arith, le))

  queued_more : (s : State) (t : Target) (m : Message) (n : ℕ) → (is_express m.delivery ≡ false → weight x m.id ≤ n) → copies x (placed s t m) ≤ copies x s + n
  queued_more s (Here (Some k)) m n few = put_more x s.places (place.Queue k) m n few
  queued_more s t m n few = omega arith

  placed_more : (s : State) (t : Target) (m : Message) (n : ℕ) → (is_express m.delivery ≡ false → weight x m.id ≤ n) → copies x (placed s t m) + in_plain x (placed s t m) ≤ copies x s + in_plain x s + n
  placed_more s (Here None) m n few = omega arith
  placed_more s (Here (Some k)) m n few = let le = put_more x s.places (place.Queue k) m n few in omega (arith, le)
  placed_more s (AtPeer k) m n few = let le = tally_changed (λ (p : PlainLists). in_list x p.recoverable) (pushed (lane_of m.delivery) m) s.plain k n (λ p. pushed_more x m p n few) in omega (arith, le)
  placed_more s Nowhere m n few = omega arith

  placed_own : (s : State) (t : Target) (m : Message) → ((placed s t m).identity ≡ s.identity) × ((placed s t m).next_number ≡ s.next_number)
  placed_own s (Here None) m = (refl, refl)
  placed_own s (Here (Some k)) m = (refl, refl)
  placed_own s t m = (refl, refl)

  pub placed_moves : (s : State) (t : Target) (m : Message) (n : ℕ) → (is_express m.delivery ≡ false → weight x m.id ≤ n) → Moves x 0 n s (placed s t m)
  placed_moves s t m n few = let own = placed_own s t m in let queues = queued_more s t m n few in let both = placed_more s t m n few in
      without_number 0 n s (placed s t m) own.0 own.1 (omega (arith, queues)) (omega (arith, both))

  -- Notices.

  -- a durable notice bears the next number
  abbrev IsNumbered : State → Message → Type 0
  IsNumbered s n = is_express n.delivery ≡ false → n.id ≡ record { qm = s.identity.guid; number = s.next_number }

  told_still : (s : State) (t : Target) (n : Message) → IsNumbered s n → Still s (told s t n)
  told_still s t n number = still_if s (may_go s t n.delivery) (placed (number_taken s n.delivery) t n) s (goes n.delivery refl) (stays s)
    where
      durable : (d : Delivery) → n.delivery ≡ d → is_express d ≡ false → number_taken s d ≡ record s { next_number = s.next_number + 1 } → Still s (placed (number_taken s d) t n)
      durable d e e_durable same = subst (λ y. Still s (placed y t n)) (sym same) (record {
        up = let same = given_same x taken (placed taken t n) own.0 own.1 in omega (arith, same, more);
        queues = let le = queued_more taken t n (weight x n.id) (λ f. omega arith) in let same = given_same x taken (placed taken t n) own.0 own.1 in omega (arith, le, same, more);
        both = let le = placed_more taken t n (weight x n.id) (λ f. omega arith) in let same = given_same x taken (placed taken t n) own.0 own.1 in omega (arith, le, same, more);
      })
        where
          taken : State
          taken = record s { next_number = s.next_number + 1 }

          own : ((placed taken t n).identity ≡ taken.identity) × ((placed taken t n).next_number ≡ taken.next_number)
          own = placed_own taken t n

          more : given x s + weight x n.id ≤ given x taken
          more = subst (λ i. given x s + weight x i ≤ given x taken) (sym (number (ap is_express e ∙ e_durable))) (given_next x s.identity.guid s.next_number)

      goes : (d : Delivery) → n.delivery ≡ d → Still s (placed (number_taken s n.delivery) t n)
      goes delivery.Express e = subst (λ d. Still s (placed (number_taken s d) t n)) (sym e)
          (still_then 0 0 s (number_taken s delivery.Express) (placed (number_taken s delivery.Express) t n)
          (without_number 0 0 s (number_taken s delivery.Express) refl refl (omega arith) (omega arith))
          (placed_moves (number_taken s delivery.Express) t n 0 (λ f. absurd (clash (sym (ap is_express e) ∙ f)))))
      goes delivery.Recoverable e = subst (λ d. Still s (placed (number_taken s d) t n)) (sym e) (durable delivery.Recoverable e refl refl)
      goes delivery.Transactional e = subst (λ d. Still s (placed (number_taken s d) t n)) (sym e) (durable delivery.Transactional e refl refl)

  -- the number that is left for a durable notice is the next one
  left_next : (s : State) (d : Delivery) → IfSome (number_left s d) (λ n. is_express d ≡ false → n ≡ s.next_number)
  left_next s delivery.Express = λ e. absurd (clash e)
  left_next s delivery.Recoverable = at (nat_le s.next_number MAX_NUMBER)
    where
      at : (b : Bool) → IfSome (cond b (Some s.next_number) None) (λ n. is_express delivery.Recoverable ≡ false → n ≡ s.next_number)
      at true = λ e. refl
      at false = tt
  left_next s delivery.Transactional = at (nat_le s.next_number MAX_NUMBER)
    where
      at : (b : Bool) → IfSome (cond b (Some s.next_number) None) (λ n. is_express delivery.Transactional ≡ false → n ≡ s.next_number)
      at true = λ e. refl
      at false = tt

  made_numbered : (s : State) (m : Message) (class : Class) (d : Delivery) (to : QueueName) (number now : ℕ) → (is_express d ≡ false → number ≡ s.next_number)
      → IsNumbered s (notice_about m class d to (record { qm = s.identity.guid; number = number }) now)
  made_numbered s m class d to number now next = λ e. ap (λ n. record { qm = s.identity.guid; number = n }) (next e)

  admin_numbered : (s : State) (m : Message) (class : Class) (now : ℕ) → IfSome (admin_about s m class now) (IsNumbered s)
  admin_numbered s m class now = at (number_left s (admin_delivery m.delivery)) (left_next s (admin_delivery m.delivery))
    where
      made : (number : ℕ) (b : Bool) (admin : Option QueueName) → (is_express (admin_delivery m.delivery) ≡ false → number ≡ s.next_number)
          → IfSome (cond b (option_map (λ a. notice_about m class (admin_delivery m.delivery) a (record { qm = s.identity.guid; number = number }) now) admin) None) (IsNumbered s)
      made number true None g = tt
      made number true (Some a) g = made_numbered s m class (admin_delivery m.delivery) a number now g
      made number false admin g = tt

      at : (o : Option ℕ) → IfSome o (λ n. is_express (admin_delivery m.delivery) ≡ false → n ≡ s.next_number) → IfSome (option_and_then (λ number. cond (is_ordinary m && asks_for m class)
          (option_map (λ a. notice_about m class (admin_delivery m.delivery) a (record { qm = s.identity.guid; number = number }) now) m.admin) None) o) (IsNumbered s)
      at None g = tt
      at (Some number) g = made number (is_ordinary m && asks_for m class) m.admin g

  final_numbered : (s : State) (peer : Identity) (m : Message) (class : Class) (now : ℕ) → IfSome (final_about s peer m class now) (IsNumbered s)
  final_numbered s peer m class now = at (number_left s delivery.Recoverable) (left_next s delivery.Recoverable)
    where
      made : (number : ℕ) (b : Bool) → (is_express delivery.Recoverable ≡ false → number ≡ s.next_number)
          → IfSome (cond b (Some (notice_about m class delivery.Recoverable (order_layer peer.host) (record { qm = s.identity.guid; number = number }) now)) None) (IsNumbered s)
      made number true g = made_numbered s m class delivery.Recoverable (order_layer peer.host) number now g
      made number false g = tt

      at : (o : Option ℕ) → IfSome o (λ n. is_express delivery.Recoverable ≡ false → n ≡ s.next_number) → IfSome (option_and_then (λ number. cond (final_is_due m class s.identity.guid)
          (Some (notice_about m class delivery.Recoverable (order_layer peer.host) (record { qm = s.identity.guid; number = number }) now)) None) o) (IsNumbered s)
      at None g = tt
      at (Some number) g = made number (final_is_due m class s.identity.guid) g

  admin_still : (s : State) (m : Message) (class : Class) (now : ℕ) → Still s (admin_told s m class now)
  admin_still s m class now = at (admin_about s m class now) (admin_numbered s m class now)
    where
      at : (o : Option Message) → IfSome o (IsNumbered s) → Still s (option_map_or (λ n. told s (resolved s n.destination) n) o s)
      at None g = stays s
      at (Some n) g = told_still s (resolved s n.destination) n g

  final_still : (s : State) (m : Message) (class : Class) (now : ℕ) → Still s (final_told s m class now)
  final_still s m class now = still_or s (λ k. option_map_or (λ peer. final_told_at s k peer m class now) (slice_get s.peers k) s) (peer_known s m.id.qm)
      (λ k. still_or s (λ peer. final_told_at s k peer m class now) (slice_get s.peers k) (λ peer. made k (final_about s peer m class now) (final_numbered s peer m class now)))
    where
      made : (k : ℕ) (o : Option Message) → IfSome o (IsNumbered s) → Still s (option_map_or (told s (AtPeer k)) o s)
      made k None g = stays s
      made k (Some n) g = told_still s (AtPeer k) n g

  buried_still : (s : State) (m : Message) (class : Class) → Still s (buried s m class)
  buried_still s m class = at (dead_place s m class) (aside ((is_ordinary m && is_negative class.0) && keeps_dead m && not (final_is_due m class s.identity.guid)) (is_transactional m.delivery))
    where
      aside : (b t : Bool) → IfSome (option_and_then (place_named s.places.queues) (cond b (Some (cond t named.DeadXact named.Dead)) None)) (λ at. is_queue at ≡ false)
      aside true true = refl
      aside true false = refl
      aside false t = tt

      at : (o : Option EntryPlace) → IfSome o (λ at. is_queue at ≡ false) → Still s (option_map_or (λ at. put_at s at m) o s)
      at None g = stays s
      at (Some into) g = put_aside s into m g

  pub meets_still : (s : State) (m : Message) (class : Class) (now : ℕ) → Still s (meets s m class now)
  meets_still s m class now = let one = admin_told s m class now in let two = final_told one m class now in
      still_then 0 0 s one (buried two m class) (admin_still s m class now) (still_then 0 0 one two (buried two m class) (final_still one m class now) (buried_still two m class))
