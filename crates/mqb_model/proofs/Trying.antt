-- The record of a transaction fits: its takes come to what was tried, and so do its sends.
use Rattle.std.proofs.Common.{refl, ap, sym, subst, ◌∙◌, ◌⊎◌, inl, inr, arith, get_or}
use Rattle.std.proofs.lemmas.Bool.Decides.{nat_tests}
use Rattle.std.proofs.lemmas.List.Quantifiers.{position-Some}
use Rattle.std.proofs.lemmas.Option.{get_or_from_slice_get}
use Rattle.std.specs.Option.{option_map_or}
use Rattle.std.specs.Prelude.{◌&&◌, ◌-◌, ◌==◌, ◌∷◌, ◌≡◌, ◌≤◌, [], Bool, IfSome, List, None, Option, Some, cond, false, filter, fold, is_none, is_some, map, max, nat_le, not, option_and_then, option_map, position, remove, slice_get, slice_set, suc, true, zero, ℕ}
use Rattle.mqb_base.specs.Lanes.{lane_of}
use Rattle.mqb_base.specs.Same.{same_id}
use Rattle.mqb_base.specs.declared.class.Class.{Class}
use Rattle.mqb_base.specs.declared.class.TheConstants.Class.{BAD_DESTINATION, MESSAGE_NOT_TRANSACTIONAL, QUEUE_NOT_TRANSACTIONAL, QUOTA_EXCEEDED, RECEIVED}
use Rattle.mqb_base.specs.declared.ids.Identity.{Identity}
use Rattle.mqb_base.specs.declared.message.Delivery.{Delivery}
use Rattle.mqb_base.specs.declared.message.Delivery.TheVariants as delivery
use Rattle.mqb_base.specs.declared.message.Lane.TheVariants as lane
use Rattle.mqb_base.specs.declared.message.Message.{Message}
use Rattle.mqb_base.specs.declared.queue_names.QueueName.{QueueName}
use Rattle.mqb_base.specs.declared.queues.EntryPlace.TheVariants as place
use Rattle.mqb_base.specs.declared.queues.QueuePlan.{QueuePlan}
use Rattle.mqb_fate.specs.Asking.{asks_for, final_is_due, is_ordinary, is_transactional}
use Rattle.mqb_fate.specs.Notices.{admin_delivery, admin_notice, final_notice, notice_about}
use Rattle.mqb_fate.specs.Orders.{order_layer}
use Rattle.mqb_queue.specs.Arrival.{length_met}
use Rattle.mqb_queue.specs.First.{first_index, index_named, is_free, is_wanted, top_priority}
use Rattle.mqb_queue.specs.Lists.{Lists, put}
use Rattle.mqb_queue.specs.Lists as places
use Rattle.mqb_queue.specs.Places.{Places, Queue, changed_at, numbered}
use Rattle.mqb_model.specs.declared.target.Target.{Target}
use Rattle.mqb_model.specs.declared.target.Target.TheVariants.{Here}
use Rattle.mqb_model.specs.records.Commit.{take_fits}
use Rattle.mqb_model.specs.rules.Arrivals.{is_recorded, refusal_by}
use Rattle.mqb_model.specs.rules.Effects.{Effect, joined}
use Rattle.mqb_model.specs.rules.Notices.{admin_about, final_about, may_go}
use Rattle.mqb_model.specs.rules.Numbers.{number_left, number_taken}
use Rattle.mqb_model.specs.rules.Takes.{after_take, copied, message_at, message_taken, taken, taken_at}
use Rattle.mqb_model.specs.state.Places.{placed, put_at, without_at}
use Rattle.mqb_model.specs.state.State.{State}
use Rattle.mqb_model.proofs.Cores.{Any}
use Rattle.mqb_model.proofs.Finding.{position_cons}
use Rattle.mqb_model.proofs.Linking.{itself, same_itself}
use Rattle.mqb_model.proofs.Mapped.{numbered_mapped}
use Rattle.mqb_model.proofs.Members.{set_same, some_is, split_and}
use Rattle.mqb_model.proofs.Remaining.{numbered_get}
use Rattle.mqb_model.proofs.Taking.{HasTop, first_free, top_from, tops}
use Rattle.mqb_model.proofs.Walking.{Outlasts, meets_outlasts}

-- Of fewer messages that can be taken the first is the same, where it is one of them.

position_is : {X : Type 0} (p q : X → Bool) (xs : List X) (k : ℕ) (x : X) → position p xs ≡ Some k → slice_get xs k ≡ Some x → q x ≡ true
    → ((y : X) → q y ≡ true → p y ≡ true) → position q xs ≡ Some k
position_is p q [] k x e there t f = absurd (let none : ⊥ = cc in none)
position_is p q (z ∷ zs) k x e there t f = position_cons q z zs ∙ by (p z) refl (position p zs) refl (sym (position_cons p z zs) ∙ e)
    (λ i found there. position_is p q zs i x found there t f)
  where
    not_then : (a b : Bool) → (b ≡ true → a ≡ true) → a ≡ false → b ≡ false
    not_then a true f e = absurd (let yes : a ≡ true = f refl in let none : ⊥ = cc in none)
    not_then a false f e = refl

    first : (k : ℕ) → Some 0 ≡ Some k → slice_get (z ∷ zs) k ≡ Some x → q z ≡ true
    first zero e there = ap q (some_is z x there) ∙ t
    first (suc i) e there = absurd (let zero_is = some_is 0 (suc i) e in let none : ⊥ = omega (arith, zero_is) in none)

    later : (i k : ℕ) → Some (suc i) ≡ Some k → slice_get (z ∷ zs) k ≡ Some x → slice_get zs i ≡ Some x
    later i k e there = ap (λ n. slice_get (z ∷ zs) n) (some_is (suc i) k e) ∙ there

    by : (b : Bool) → p z ≡ b → (o : Option ℕ) → position p zs ≡ o → cond b (Some 0) (option_map (λ i. suc i) o) ≡ Some k
        → ((i : ℕ) → position p zs ≡ Some i → slice_get zs i ≡ Some x → position q zs ≡ Some i) → cond (q z) (Some 0) (option_map (λ i. suc i) (position q zs)) ≡ Some k
    by true g o found same more = ap (λ b. cond b (Some 0) (option_map (λ i. suc i) (position q zs))) (first k same there) ∙ same
    by false g None found same more = absurd (let none : ⊥ = cc in none)
    by false g (Some i) found same more = ap (λ b. cond b (Some 0) (option_map (λ i. suc i) (position q zs))) (not_then (p z) (q z) (f z) g)
        ∙ ap (option_map (λ i. suc i)) (more i found (later i k same there)) ∙ same

fold_low : (low : ℕ) (xs : List ℕ) → low ≤ fold max low xs
fold_low low [] = omega arith
fold_low low (x ∷ xs) = let more = fold_low (max low x) xs in omega (arith, more)

-- a free message is not above the greatest priority
below_top : (free : Message → Bool) (low : ℕ) (held : List Message) (k : ℕ) (m : Message) → slice_get held k ≡ Some m → free m ≡ true → m.priority ≤ top_from free low held
below_top free low [] k m e f = absurd (let none : ⊥ = cc in none)
below_top free low (z ∷ zs) k m e f = by k e (free z) refl (λ low i e. below_top free low zs i m e f)
  where
    by : (k : ℕ) → slice_get (z ∷ zs) k ≡ Some m → (b : Bool) → free z ≡ b → ((low i : ℕ) → slice_get zs i ≡ Some m → m.priority ≤ top_from free low zs)
        → m.priority ≤ fold max low (map (λ m. m.priority) (cond b (z ∷ filter free zs) (filter free zs)))
    by zero e true g more = let same = ap (λ m. m.priority) (some_is z m e) in let most = fold_low (max low z.priority) (map (λ m. m.priority) (filter free zs)) in omega (arith, same, most)
    by zero e false g more = absurd (let same : free z ≡ true = ap free (some_is z m e) ∙ f in let none : ⊥ = cc in none)
    by (suc i) e true g more = more (max low z.priority) i e
    by (suc i) e false g more = more low i e

wanted_first : (free wanted : Message → Bool) (held : List Message) (k : ℕ) (m : Message) → ((o : Message) → wanted o ≡ true → free o ≡ true) → wanted m ≡ true
    → first_index free held ≡ Some k → slice_get held k ≡ Some m → first_index wanted held ≡ Some k
wanted_first free wanted held k m subset w found there = position_is (λ o. free o && nat_le (top_priority free held) o.priority) (λ o. wanted o && nat_le (top_priority wanted held) o.priority)
    held k m found there (and (wanted m) (nat_le (top_priority wanted held) m.priority) w (most (top_priority wanted held) m.priority (by (tops wanted 0 held))))
    (λ o e. let both = split_and (wanted o) (nat_le (top_priority wanted held) o.priority) e in
    and (free o) (nat_le (top_priority free held) o.priority) (subset o both.0) (over (top_priority free held) m.priority (top_priority wanted held) o.priority reaches (below_top wanted 0 held k m there w) both.1))
  where
    and : (a b : Bool) → a ≡ true → b ≡ true → (a && b) ≡ true
    and a b h k = ap (λ x. x && b) h ∙ k

    most : (a b : ℕ) → a ≤ b → nat_le a b ≡ true
    most a b le = grind (arith, nat_tests)

    least : (a b : ℕ) → nat_le a b ≡ true → a ≤ b
    least a b e = grind (arith, nat_tests)

    over : (a b c d : ℕ) → a ≤ b → b ≤ c → nat_le c d ≡ true → nat_le a d ≡ true
    over a b c d ab bc e = grind (arith, nat_tests)

    reaches : top_priority free held ≤ m.priority
    reaches = least (top_priority free held) m.priority (passes (position-Some (λ o. free o && nat_le (top_priority free held) o.priority) held k m found).1)
      where
        passes : (free (get_or held k m) && nat_le (top_priority free held) (get_or held k m).priority) ≡ true → nat_le (top_priority free held) m.priority ≡ true
        passes e = subst (λ o. nat_le (top_priority free held) o.priority ≡ true) (get_or_from_slice_get held k m m there)
            (split_and (free (get_or held k m)) (nat_le (top_priority free held) (get_or held k m).priority) e).1

    by : (top_from wanted 0 held ≤ 0) ⊎ HasTop wanted (top_from wanted 0 held) held → top_priority wanted held ≤ m.priority
    by (inl none) = let less : top_priority wanted held ≤ 0 = none in omega (arith, less)
    by (inr h) = let at_most = below_top free 0 held h.0 h.1 h.2 (subset h.1 h.3) in let top : top_priority wanted held ≤ (h.1).priority = h.4 in
        let whole : (h.1).priority ≤ top_priority free held = at_most in omega (arith, top, whole, reaches)

-- What transactions see of queues: their plans, and the durable messages of those that are transactional.

abbrev pub seen : Queue → QueuePlan × List Message
seen q = (q.plan, cond q.plan.transactional q.lists.durable [])

abbrev pub all_seen : State → List (QueuePlan × List Message)
all_seen s = map seen s.places.queues

-- a queue is changed in what is not seen
lists_seen : (p : Places) (n : ℕ) (g : Lists → Lists) → IfSome (numbered p.queues n) (λ q. seen (record q { lists = g q.lists }) ≡ seen q)
    → map seen (changed_at p (place.Queue n) g).queues ≡ map seen p.queues
lists_seen p n g same = by (numbered p.queues n) refl same
  where
    by : (o : Option Queue) → numbered p.queues n ≡ o → IfSome o (λ q. seen (record q { lists = g q.lists }) ≡ seen q)
        → map seen (option_map_or (λ l. record p { queues = option_map_or (λ x. slice_set p.queues (n - 1) (record x { lists = g l })) o p.queues }) (option_map (λ q. q.lists) o) p).queues ≡ map seen p.queues
    by None e h = refl
    by (Some q) e h = set_same seen p.queues (n - 1) q (record q { lists = g q.lists }) (numbered_get p.queues n q e) h

journal_seen : (p : Places) (n : ℕ) (g : Lists → Lists) → map seen (changed_at p (place.JournalOf n) g).queues ≡ map seen p.queues
journal_seen p n g = by (numbered p.queues n) refl
  where
    by : (o : Option Queue) → numbered p.queues n ≡ o
        → map seen (option_map_or (λ l. record p { queues = option_map_or (λ x. slice_set p.queues (n - 1) (record x { journal = g l })) o p.queues }) (option_map (λ q. q.journal) o) p).queues ≡ map seen p.queues
    by None e = refl
    by (Some q) e = set_same seen p.queues (n - 1) q (record q { journal = g q.journal }) (numbered_get p.queues n q e) refl

set_mapped : {X Y : Type 0} (f : X → Y) (xs : List X) (k : ℕ) (x : X) → map f (slice_set xs k x) ≡ slice_set (map f xs) k (f x)
set_mapped f [] k x = refl
set_mapped f (z ∷ zs) zero x = refl
set_mapped f (z ∷ zs) (suc k) x = ap (λ ys. f z ∷ ys) (set_mapped f zs k x)

-- a durable message leaves a transactional queue
removed_seen : (p : Places) (n k : ℕ) (q : Queue) → numbered p.queues n ≡ Some q → q.plan.transactional ≡ true
    → map seen (changed_at p (place.Queue n) (places.without lane.Durable k)).queues ≡ slice_set (map seen p.queues) (n - 1) (q.plan, remove q.lists.durable k)
removed_seen p n k q e t = ap (λ o. map seen (option_map_or (λ l. record p { queues = option_map_or (λ x. slice_set p.queues (n - 1) (record x { lists = places.without lane.Durable k l })) o p.queues })
    (option_map (λ q. q.lists) o) p).queues) e ∙ set_mapped seen p.queues (n - 1) (record q { lists = places.without lane.Durable k q.lists })
    ∙ ap (λ b. slice_set (map seen p.queues) (n - 1) (q.plan, cond b (remove q.lists.durable k) [])) t

-- Notices go into no transactional queue.

-- a notice is not transactional
abbrev IsPlain : Message → Type 0
IsPlain n = is_transactional n.delivery ≡ false

notice_delivery : (x : Delivery) → is_transactional (admin_delivery x) ≡ false
notice_delivery delivery.Express = refl
notice_delivery x = refl

admin_plain : (s : State) (m : Message) (class : Class) (now : ℕ) → IfSome (admin_about s m class now) IsPlain
admin_plain s m class now = by (number_left s (admin_delivery m.delivery))
  where
    made : (number : ℕ) (b : Bool) (o : Option QueueName)
        → IfSome (cond b (option_map (λ admin. notice_about m class (admin_delivery m.delivery) admin (record { qm = s.identity.guid; number = number }) now) o) None) IsPlain
    made number true None = tt
    made number true (Some admin) = notice_delivery m.delivery
    made number false o = tt

    by : (o : Option ℕ) → IfSome (option_and_then (λ number. admin_notice m class s.identity.guid number now) o) IsPlain
    by None = tt
    by (Some number) = made number (is_ordinary m && asks_for m class) m.admin

final_plain : (s : State) (peer : Identity) (m : Message) (class : Class) (now : ℕ) → IfSome (final_about s peer m class now) IsPlain
final_plain s peer m class now = by (number_left s delivery.Recoverable)
  where
    due : (number : ℕ) (b : Bool) → IfSome (cond b (Some (notice_about m class delivery.Recoverable (order_layer peer.host) (record { qm = s.identity.guid; number = number }) now)) None) IsPlain
    due number true = refl
    due number false = tt

    by : (o : Option ℕ) → IfSome (option_and_then (λ number. final_notice m class s.identity.guid peer number now) o) IsPlain
    by None = tt
    by (Some number) = due number (final_is_due m class s.identity.guid)

-- a queue that takes what is not transactional is not transactional
takes_plain : (q : Queue) (x : Delivery) → is_transactional x ≡ false → is_none (refusal_by x q) ≡ true → q.plan.transactional ≡ false
takes_plain q x plain none = by (is_transactional x) plain q.plan.transactional none
  where
    by : (t : Bool) → t ≡ false → (b : Bool)
        → is_none (cond (t && not b) (Some QUEUE_NOT_TRANSACTIONAL) (cond (not t && b) (Some MESSAGE_NOT_TRANSACTIONAL)
        (cond (nat_le q.plan.quota (length_met (is_recorded x) q.lists)) (Some QUOTA_EXCEEDED) None))) ≡ true → b ≡ false
    by true e b h = absurd (let none : ⊥ = cc in none)
    by false e true h = absurd (let none : ⊥ = cc in none)
    by false e false h = refl

number_places : (s : State) (x : Delivery) → (number_taken s x).places ≡ s.places
number_places s delivery.Express = refl
number_places s x = refl

-- a queue that is not transactional is seen by its plan alone
plain_seen : (q : Queue) (l : Lists) → q.plan.transactional ≡ false → seen (record q { lists = l }) ≡ seen q
plain_seen q l e = ap (λ b. (q.plan, cond b l.durable [])) e ∙ sym (ap (λ b. (q.plan, cond b q.lists.durable [])) e)

goes_seen : (s : State) (n : ℕ) (m : Message) → IsPlain m → may_go s (Here (Some n)) m.delivery ≡ true → map seen (changed_at s.places (place.Queue n) (put (lane_of m.delivery) m)).queues ≡ all_seen s
goes_seen s n m plain goes = lists_seen s.places n (put (lane_of m.delivery) m) (by (numbered s.places.queues n) goes)
  where
    by : (o : Option Queue) → is_none (option_map_or (refusal_by m.delivery) o (Some BAD_DESTINATION)) ≡ true
        → IfSome o (λ q. seen (record q { lists = put (lane_of m.delivery) m q.lists }) ≡ seen q)
    by None h = tt
    by (Some q) h = plain_seen q (put (lane_of m.delivery) m q.lists) (takes_plain q m.delivery plain h)

told_seen : (s : State) (t : Target) (m : Message) → IsPlain m → may_go s t m.delivery ≡ true → all_seen (placed (number_taken s m.delivery) t m) ≡ all_seen s
told_seen s (Here (Some n)) m plain goes = ap (λ p. map seen (changed_at p (place.Queue n) (put (lane_of m.delivery) m)).queues) (number_places s m.delivery) ∙ goes_seen s n m plain goes
told_seen s t m plain goes = ap (λ p. map seen p.queues) (number_places s m.delivery)

seen_outlasts : (w : List (QueuePlan × List Message)) → Outlasts Any IsPlain (λ s. all_seen s ≡ w)
seen_outlasts w = record {
  admin = λ s m class now l known h. admin_plain s m class now;
  final = λ s peer m class now l h. final_plain s peer m class now;
  told = λ s t n plain goes h. told_seen s t n plain goes ∙ h;
  dead = λ s m l h. h;
  dead_xact = λ s m l h. h;
}

-- a take leaves of what is seen what the removal leaves
after_seen : (s : State) (n : ℕ) (m : Message) (now : ℕ) → all_seen (after_take s (place.Queue n) m now) ≡ all_seen s
after_seen s n m now = meets_outlasts Any IsPlain (λ t. all_seen t ≡ all_seen s) (seen_outlasts (all_seen s)) (copied s n m) m RECEIVED now tt refl (at (numbered s.places.queues n))
  where
    journalled : (b : Bool) → all_seen (cond b (put_at s (place.JournalOf n) m) s) ≡ all_seen s
    journalled true = journal_seen s.places n (put (lane_of m.delivery) m)
    journalled false = refl

    at : (o : Option Queue) → all_seen (option_map_or (λ q. cond q.plan.journal (put_at s (place.JournalOf n) m) s) o s) ≡ all_seen s
    at None = refl
    at (Some q) = journalled q.plan.journal

-- One take: what was tried on one state comes to the same on another that is seen alike.
pub record TakesAlike (x : State) (now n k : ℕ) (m : Message) (e : Effect) : Type 0 where
  pub fits : take_fits e.state now (place.Queue n) m.id ≡ true
  pub seen_after : all_seen (taken (place.Queue n) m.id now e).state ≡ all_seen (without_at lane.Durable x (place.Queue n) k)

pub takes_alike : (x : State) (now n k : ℕ) (q : Queue) (m : Message) (e : Effect) → all_seen e.state ≡ all_seen x → numbered x.places.queues n ≡ Some q → q.plan.transactional ≡ true
    → first_index (is_free (place.Queue n) now) q.lists.durable ≡ Some k → slice_get q.lists.durable k ≡ Some m → TakesAlike x now n k m e
takes_alike x now n k q m e same there t found message = by (numbered e.state.places.queues n) refl
    (sym (numbered_mapped seen e.state.places.queues n) ∙ ap (λ qs. numbered qs n) same ∙ numbered_mapped seen x.places.queues n ∙ ap (option_map seen) there)
  where
    -- the queue of the other state has the same plan and the same durable messages
    queue_is : (r : Queue) → seen r ≡ seen q → (r.plan ≡ q.plan) × (r.lists.durable ≡ q.lists.durable)
    queue_is r e = let plan : r.plan ≡ q.plan = ap (λ pair. pair.0) e in
        (plan, ap (λ b. cond b r.lists.durable []) (sym (ap (λ p. p.transactional) plan ∙ t)) ∙ ap (λ pair. pair.1) e ∙ ap (λ b. cond b q.lists.durable []) t)

    free : is_free (place.Queue n) now m ≡ true
    free = first_free (is_free (place.Queue n) now) q.lists.durable k m found message

    named : is_wanted (place.Queue n) now (Some m.id) m ≡ true
    named = ap (λ b. b && same_id m.id m.id) free ∙ ap (λ b. b && m.id.number == m.id.number) (same_itself m.id.qm.0) ∙ itself m.id.number

    index : first_index (is_wanted (place.Queue n) now (Some m.id)) q.lists.durable ≡ Some k
    index = wanted_first (is_free (place.Queue n) now) (is_wanted (place.Queue n) now (Some m.id)) q.lists.durable k m
        (λ o w. (split_and (is_free (place.Queue n) now o) (same_id o.id m.id) w).0) named found message

    on : (r : Queue) → numbered e.state.places.queues n ≡ Some r → (r.plan ≡ q.plan) × (r.lists.durable ≡ q.lists.durable) → TakesAlike x now n k m e
    on r here alike = record {
      fits = ap is_some indexed;
      seen_after = ap (λ o. all_seen (option_map_or (λ i. taken_at lane.Durable (place.Queue n) i now e) o e).state) indexed
          ∙ ap (λ o. all_seen (option_map_or (λ m. joined e (message_taken lane.Durable (place.Queue n) k now e.state m)) o e).state) there_too
          ∙ after_seen (without_at lane.Durable e.state (place.Queue n) k) n m now
          ∙ removed_seen e.state.places n k r here (ap (λ p. p.transactional) alike.0 ∙ t)
          ∙ ap (λ qs. slice_set qs (n - 1) (r.plan, remove r.lists.durable k)) same
          ∙ ap (λ plan. slice_set (all_seen x) (n - 1) (plan, remove r.lists.durable k)) alike.0
          ∙ ap (λ ms. slice_set (all_seen x) (n - 1) (q.plan, remove ms k)) alike.1
          ∙ sym (removed_seen x.places n k q there t);
    }
      where
        indexed : index_named e.state.places (place.Queue n) m.id now ≡ Some k
        indexed = ap (λ o. option_and_then (λ l. first_index (is_wanted (place.Queue n) now (Some m.id)) l.durable) (option_map (λ q. q.lists) o)) here
            ∙ ap (λ ms. first_index (is_wanted (place.Queue n) now (Some m.id)) ms) alike.1 ∙ index

        there_too : message_at lane.Durable e.state (place.Queue n) k ≡ Some m
        there_too = ap (λ o. option_and_then (λ l. slice_get l.durable k) (option_map (λ q. q.lists) o)) here ∙ ap (λ ms. slice_get ms k) alike.1 ∙ message

    by : (o : Option Queue) → numbered e.state.places.queues n ≡ o → option_map seen o ≡ Some (seen q) → TakesAlike x now n k m e
    by None here f = absurd (let none : ⊥ = cc in none)
    by (Some r) here f = on r here (queue_is r (some_is (seen r) (seen q) f))
