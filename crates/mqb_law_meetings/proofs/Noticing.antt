-- What an arrival brings: notices, each unsent behind the others for its peer, and nothing else that waits.
use Rattle.std.proofs.Common.{◌≡◌, ℕ, suc, ◌+◌, ◌≤◌, ◌⊎◌, inl, inr, ◌==◌, ◌&&◌, Bool, true, false, cond, not, nat_le, List, [], ◌∷◌, ◌++◌, Option, Some, None, refl, sym, ap, subst, ◌∙◌, arith}
use Rattle.std.proofs.lemmas.Bool.{and_parts}
use Rattle.std.specs.List.{AllByRecursion}
use Rattle.std.specs.Option.{option_map_or}
use Rattle.std.specs.Prelude.{IfSome, filter, length, map, option_and_then, option_map, slice_get, sum}
use Rattle.mqb_base.specs.Bits.{keeps_dead}
use Rattle.mqb_base.specs.Lanes.{lane_of}
use Rattle.mqb_base.specs.Same.{same_guid}
use Rattle.mqb_base.specs.declared.class.Class.{Class}
use Rattle.mqb_base.specs.declared.class.TheConstants.Class.{BAD_DESTINATION, MESSAGE_NOT_TRANSACTIONAL, NORMAL, QUEUE_NOT_TRANSACTIONAL, QUOTA_EXCEEDED, REACHED_QUEUE, REACH_TIMEOUT}
use Rattle.mqb_base.specs.declared.ids.Identity.{Identity}
use Rattle.mqb_base.specs.declared.ids.MessageId.{MessageId}
use Rattle.mqb_base.specs.declared.message.Delivery.{Delivery}
use Rattle.mqb_base.specs.declared.message.Delivery.TheVariants as delivery
use Rattle.mqb_base.specs.declared.message.Lane.TheVariants as lane
use Rattle.mqb_base.specs.declared.message.Message.{Message}
use Rattle.mqb_base.specs.declared.queue_names.QueueName.{QueueName}
use Rattle.mqb_base.specs.declared.queues.EntryPlace.{EntryPlace}
use Rattle.mqb_fate.specs.Asking.{asks_for, final_is_due, is_ordinary, is_transactional}
use Rattle.mqb_fate.specs.Notices.{admin_delivery, notice_about}
use Rattle.mqb_fate.specs.Orders.{order_layer}
use Rattle.mqb_model.specs.Lists.{with_changed}
use Rattle.mqb_model.specs.declared.target.Target.{Target}
use Rattle.mqb_model.specs.declared.target.Target.TheVariants.{AtPeer, Here, Nowhere}
use Rattle.mqb_model.specs.rules.Arrivals.{is_recorded, refusal_by, refusal_of, storing_refusal, target_refusal}
use Rattle.mqb_model.specs.rules.Notices.{admin_told, arrived, buried, dead_place, final_told, final_told_at, may_go, meets, told}
use Rattle.mqb_model.specs.rules.Numbers.{number_left, number_taken}
use Rattle.mqb_model.specs.state.Places.{is_express, placed, put_at, with_plain}
use Rattle.mqb_model.specs.state.Resolving.{is_for_order_layer, peer_known, resolved}
use Rattle.mqb_model.specs.state.State.{State}
use Rattle.mqb_packet.specs.declared.packet.UserPacket.{UserPacket}
use Rattle.mqb_plain.specs.Lists.{messages_of, unsent}
use Rattle.mqb_plain.specs.Plain.{PlainLists, pushed}
use Rattle.mqb_plain.specs.declared.outgoing.Outgoing.{Outgoing}
use Rattle.mqb_queue.specs.Arrival.{length_met, queue_refusal}
use Rattle.mqb_queue.specs.Places.{Queue, numbered}
use Rattle.mqb_law_meetings.specs.Work.{plain_work, work_for}
use Rattle.mqb_law_meetings.proofs.Firsts.{all_append, changed_all, changed_at_most, changed_sum, sum_cons}

-- no express message, and no message that counts as sent
pub record IsFresh (p : PlainLists) : Type 0 where
  pub express : p.express ≡ []
  pub unsent : AllByRecursion (λ o. o.mark ≡ None) p.recoverable

-- how many ordinary messages wait for one peer
abbrev pub ordinary_in : PlainLists → ℕ
ordinary_in p = length (filter is_ordinary (messages_of p.recoverable))

-- A state with a few notices more for peers, whatever became of its places and numbers.
pub record Leaves (s t : State) (count : ℕ) : Type 0 where
  pub identity : t.identity ≡ s.identity
  pub peers : t.peers ≡ s.peers
  pub outs : t.outs ≡ s.outs
  pub ins : t.ins ≡ s.ins
  pub work : sum (map plain_work t.plain) ≤ sum (map plain_work s.plain) + count
  pub fresh : AllByRecursion IsFresh s.plain → AllByRecursion IsFresh t.plain
  pub ordinary : (k : ℕ) → option_map_or ordinary_in (slice_get t.plain k) 0 ≤ option_map_or ordinary_in (slice_get s.plain k) 0

pub kept : (s t : State) (count : ℕ) → t.identity ≡ s.identity → t.peers ≡ s.peers → t.outs ≡ s.outs → t.ins ≡ s.ins → t.plain ≡ s.plain → Leaves s t count
kept s t count identity peers outs ins plain = record {
  identity = identity;
  peers = peers;
  outs = outs;
  ins = ins;
  work = let e : sum (map plain_work t.plain) ≡ sum (map plain_work s.plain) = ap (λ (ps : List PlainLists). sum (map plain_work ps)) plain in omega (arith, e);
  fresh = λ h. subst (AllByRecursion IsFresh) (sym plain) h;
  ordinary = λ k. let e : option_map_or ordinary_in (slice_get t.plain k) 0 ≡ option_map_or ordinary_in (slice_get s.plain k) 0
      = ap (λ (ps : List PlainLists). option_map_or ordinary_in (slice_get ps k) 0) plain in omega (arith, e);
}

pub same : (s : State) (count : ℕ) → Leaves s s count
same s count = kept s s count refl refl refl refl refl

pub then : (s t u : State) (m n count : ℕ) → m + n ≤ count → Leaves s t m → Leaves t u n → Leaves s u count
then s t u m n count within a b = record {
  identity = b.identity ∙ a.identity;
  peers = b.peers ∙ a.peers;
  outs = b.outs ∙ a.outs;
  ins = b.ins ∙ a.ins;
  work = let x = a.work in let y = b.work in omega (arith, x, y, within);
  fresh = λ h. b.fresh (a.fresh h);
  ordinary = λ k. let x = a.ordinary k in let y = b.ordinary k in omega (arith, x, y);
}

-- A notice joins the others.

pushed_work : (items : List Outgoing) (m : Message) → sum (map work_for (messages_of (items ++ unsent m ∷ []))) ≡ sum (map work_for (messages_of items)) + work_for m
pushed_work [] m = let e = sum_cons (work_for m) [] in omega (arith, e)
pushed_work (o ∷ items) m = let a = sum_cons (work_for o.message) (map work_for (messages_of (items ++ unsent m ∷ []))) in
    let b = sum_cons (work_for o.message) (map work_for (messages_of items)) in let r = pushed_work items m in omega (arith, a, b, r)

pushed_ordinary : (items : List Outgoing) (m : Message) → is_ordinary m ≡ false
    → length (filter is_ordinary (messages_of (items ++ unsent m ∷ []))) ≡ length (filter is_ordinary (messages_of items))
pushed_ordinary [] m other = rw other refl
pushed_ordinary (o ∷ items) m other = at (is_ordinary o.message) (pushed_ordinary items m other)
  where
    left : List Outgoing → List Message
    left xs = filter is_ordinary (messages_of xs)

    at : (b : Bool) → length (left (items ++ unsent m ∷ [])) ≡ length (left items)
        → length (cond b (o.message ∷ left (items ++ unsent m ∷ [])) (left (items ++ unsent m ∷ []))) ≡ length (cond b (o.message ∷ left items) (left items))
    at true e = ap (λ n. suc n) e
    at false e = e

pushed_leaves : (s t : State) (k : ℕ) (m : Message) → is_ordinary m ≡ false → t.identity ≡ s.identity → t.peers ≡ s.peers → t.outs ≡ s.outs → t.ins ≡ s.ins
    → t.plain ≡ with_changed (pushed lane.Durable m) s.plain k → Leaves s t 1
pushed_leaves s t k m other identity peers outs ins plain = record {
  identity = identity;
  peers = peers;
  outs = outs;
  ins = ins;
  work = subst (λ (ps : List PlainLists). sum (map plain_work ps) ≤ sum (map plain_work s.plain) + 1) (sym plain)
      (changed_sum plain_work (pushed lane.Durable m) 1 (λ p. let e = pushed_work p.recoverable m in omega (arith, e, one)) s.plain k);
  fresh = λ h. subst (AllByRecursion IsFresh) (sym plain) (changed_all IsFresh (pushed lane.Durable m)
      (λ p f. record { express = f.express; unsent = all_append (λ (o : Outgoing). o.mark ≡ None) p.recoverable (unsent m ∷ []) f.unsent (refl, tt) }) s.plain k h);
  ordinary = λ j. subst (λ (ps : List PlainLists). option_map_or ordinary_in (slice_get ps j) 0 ≤ option_map_or ordinary_in (slice_get s.plain j) 0) (sym plain)
      (changed_at_most ordinary_in (pushed lane.Durable m) (λ p. let e = pushed_ordinary p.recoverable m other in omega (arith, e)) s.plain k j);
}
  where
    one : work_for m ≡ 1
    one = ap (λ b. cond b 3 1) other

told_leaves : (s : State) (target : Target) (notice : Message) → notice.delivery ≡ delivery.Recoverable → is_ordinary notice ≡ false → Leaves s (told s target notice) 1
told_leaves s target notice kind other = at (may_go s target notice.delivery)
  where
    go : (t : Target) → Leaves s (placed (number_taken s notice.delivery) t notice) 1
    go (AtPeer k) = subst (λ d. Leaves s (with_plain (pushed (lane_of d) notice) (number_taken s d) k) 1) (sym kind)
        (pushed_leaves s (with_plain (pushed lane.Durable notice) (number_taken s delivery.Recoverable) k) k notice other refl refl refl refl refl)
    go (Here None) = rw kind (kept s _ 1 refl refl refl refl refl)
    go (Here (Some number)) = rw kind (kept s _ 1 refl refl refl refl refl)
    go Nowhere = rw kind (kept s _ 1 refl refl refl refl refl)

    at : (b : Bool) → Leaves s (cond b (placed (number_taken s notice.delivery) target notice) s) 1
    at true = go target
    at false = same s 1

-- What follows a message.

-- how many notices follow at most
abbrev pub notices_of : Message → ℕ
notices_of m = cond (is_ordinary m) (cond (is_transactional m.delivery) 2 1) 0

-- It is told in notices, and put: so whatever holds behind each of these holds behind all of it, with so many notices.
module _ (R : State → State → ℕ → Type 0) (stays : (s : State) (count : ℕ) → R s s count) (goes_on : (s t u : State) (i j count : ℕ) → i + j ≤ count → R s t i → R t u j → R s u count)
    (m : Message) (class : Class) (now : ℕ) (puts_at : (s : State) (at : EntryPlace) → R s (put_at s at m) 0)
    (tells : is_ordinary m ≡ true → (s : State) (target : Target) (d : Delivery) → (d ≡ admin_delivery m.delivery) ⊎ (d ≡ delivery.Recoverable) → (to : QueueName) (id : MessageId)
    → R s (told s target (notice_about m class d to id now)) 1) where
  admin_by : (s : State) → R s (admin_told s m class now) (cond (is_ordinary m) 1 0)
  admin_by s = numbered (number_left s (admin_delivery m.delivery))
    where
      about : ℕ → QueueName → Message
      about number to = notice_about m class (admin_delivery m.delivery) to (record { qm = s.identity.guid; number = number }) now

      tell : Option Message → State
      tell o = option_map_or (λ notice. told s (resolved s notice.destination) notice) o s

      made : (number : ℕ) (o a : Bool) → is_ordinary m ≡ o → (admin : Option QueueName) → R s (tell (cond (o && a) (option_map (about number) admin) None)) (cond o 1 0)
      made number true true is (Some to) = tells is s (resolved s to) (admin_delivery m.delivery) (inl refl) to (record { qm = s.identity.guid; number = number })
      made number true true is None = stays s 1
      made number true false is admin = stays s 1
      made number false a is admin = stays s 0

      numbered : (o : Option ℕ) → R s (tell (option_and_then (λ number. cond (is_ordinary m && asks_for m class) (option_map (about number) m.admin) None) o)) (cond (is_ordinary m) 1 0)
      numbered None = stays s (cond (is_ordinary m) 1 0)
      numbered (Some number) = made number (is_ordinary m) (asks_for m class) refl m.admin

  final_by : (s : State) → R s (final_told s m class now) (cond (is_ordinary m && is_transactional m.delivery) 1 0)
  final_by s = known (peer_known s m.id.qm)
    where
      count : ℕ
      count = cond (is_ordinary m && is_transactional m.delivery) 1 0

      about : ℕ → Identity → Message
      about number peer = notice_about m class delivery.Recoverable (order_layer peer.host) (record { qm = s.identity.guid; number = number }) now

      due : final_is_due m class s.identity.guid ≡ true → (is_ordinary m && is_transactional m.delivery) ≡ true
      due e = let own = not (same_guid m.id.qm s.identity.guid) in
          let whole = and_parts ((is_ordinary m && is_transactional m.delivery && own) && keeps_dead m) (not (class.0 == REACHED_QUEUE.0)) e in
          let parts = and_parts (is_ordinary m && is_transactional m.delivery && own) (keeps_dead m) whole.0 in
          (and_parts (is_ordinary m && is_transactional m.delivery) own parts.0).0

      made : (k number : ℕ) (peer : Identity) (b : Bool) → final_is_due m class s.identity.guid ≡ b → R s (option_map_or (told s (AtPeer k)) (cond b (Some (about number peer)) None) s) count
      made k number peer true e = subst (λ n. R s (told s (AtPeer k) (about number peer)) n) (sym (ap (λ b. cond b 1 0) (due e)))
          (tells (and_parts (is_ordinary m) (is_transactional m.delivery) (due e)).0 s (AtPeer k) delivery.Recoverable (inr refl) (order_layer peer.host) (record { qm = s.identity.guid; number = number }))
      made k number peer false e = stays s count

      left : (k : ℕ) (peer : Identity) (o : Option ℕ)
          → R s (option_map_or (told s (AtPeer k)) (option_and_then (λ number. cond (final_is_due m class s.identity.guid) (Some (about number peer)) None) o) s) count
      left k peer None = stays s count
      left k peer (Some number) = made k number peer (final_is_due m class s.identity.guid) refl

      there : (k : ℕ) (o : Option Identity) → R s (option_map_or (λ peer. final_told_at s k peer m class now) o s) count
      there k None = stays s count
      there k (Some peer) = left k peer (number_left s delivery.Recoverable)

      known : (o : Option ℕ) → R s (option_map_or (λ k. option_map_or (λ peer. final_told_at s k peer m class now) (slice_get s.peers k) s) o s) count
      known None = stays s count
      known (Some k) = there k (slice_get s.peers k)

  buried_by : (s : State) → R s (buried s m class) 0
  buried_by s = at (dead_place s m class)
    where
      at : (o : Option EntryPlace) → R s (option_map_or (λ at. put_at s at m) o s) 0
      at None = stays s 0
      at (Some place) = puts_at s place

  pub meets_by : (s : State) → R s (meets s m class now) (notices_of m)
  meets_by s = goes_on s told_final (meets s m class now) (notices_of m) 0 (notices_of m) (omega arith)
      (goes_on s told_admin told_final (cond (is_ordinary m) 1 0) (cond (is_ordinary m && is_transactional m.delivery) 1 0) (notices_of m) (within (is_ordinary m) (is_transactional m.delivery))
      (admin_by s) (final_by told_admin)) (buried_by told_final)
    where
      told_admin : State
      told_admin = admin_told s m class now

      told_final : State
      told_final = final_told told_admin m class now

      within : (o t : Bool) → cond o 1 0 + cond (o && t) 1 0 ≤ cond o (cond t 2 1) 0
      within true true = omega arith
      within true false = omega arith
      within false t = omega arith

pub meets_leaves : (s : State) (m : Message) (class : Class) (now : ℕ) → is_express m.delivery ≡ false → (class.0 == NORMAL.0) ≡ false → Leaves s (meets s m class now) (notices_of m)
meets_leaves s m class now durable other = meets_by Leaves same then m class now (λ t at. kept t _ 0 refl refl refl refl refl)
    (λ is t target d which to id. told_leaves t target (notice_about m class d to id now) (recoverable d which) other) s
  where
    admin : (d : Delivery) → is_express d ≡ false → admin_delivery d ≡ delivery.Recoverable
    admin delivery.Express e = absurd (let none : ⊥ = cc in none)
    admin delivery.Recoverable e = refl
    admin delivery.Transactional e = refl

    recoverable : (d : Delivery) → (d ≡ admin_delivery m.delivery) ⊎ (d ≡ delivery.Recoverable) → d ≡ delivery.Recoverable
    recoverable d (inl e) = e ∙ admin m.delivery durable
    recoverable d (inr e) = e

-- Why a message is refused, and where it goes otherwise.

abbrev pub IsOfNotice : Option Class → Type 0
IsOfNotice o = IfSome o (λ class. (class.0 == NORMAL.0) ≡ false)

queue_refuses : (q : Queue) (n : ℕ) (transactional : Bool) → IsOfNotice (queue_refusal q.plan n transactional)
queue_refuses q n t = at (t && not q.plan.transactional) (not t && q.plan.transactional) (nat_le q.plan.quota n)
  where
    at : (a b c : Bool) → IsOfNotice (cond a (Some QUEUE_NOT_TRANSACTIONAL) (cond b (Some MESSAGE_NOT_TRANSACTIONAL) (cond c (Some QUOTA_EXCEEDED) None)))
    at true b c = refl
    at false true c = refl
    at false false true = refl
    at false false false = tt

target_refuses : (s : State) (target : Target) (d : Delivery) → IsOfNotice (target_refusal s target d)
target_refuses s (Here (Some number)) d = at (numbered s.places.queues number)
  where
    at : (o : Option Queue) → IsOfNotice (option_map_or (refusal_by d) o (Some BAD_DESTINATION))
    at None = refl
    at (Some q) = queue_refuses q (length_met (is_recorded d) q.lists) (is_transactional d)
target_refuses s (Here None) d = refl
target_refuses s (AtPeer k) d = refl
target_refuses s Nowhere d = refl

pub refuses : (s : State) (p : UserPacket) → IsOfNotice (refusal_of s p)
refuses s p = at (p.remaining == 0)
  where
    at : (b : Bool) → IsOfNotice (cond b (Some REACH_TIMEOUT) (target_refusal s (resolved s p.message.destination) p.message.delivery))
    at true = refl
    at false = target_refuses s (resolved s p.message.destination) p.message.delivery

pub refuses_stored : (s : State) (p : UserPacket) → IsOfNotice (storing_refusal s p)
refuses_stored s p = at (is_for_order_layer s p.message.destination)
  where
    at : (b : Bool) → IsOfNotice (cond b (Some BAD_DESTINATION) (refusal_of s p))
    at true = refl
    at false = refuses s p

-- what is not refused is for a queue here
pub lands : (s : State) (p : UserPacket) → refusal_of s p ≡ None → (number : ℕ) × (resolved s p.message.destination ≡ Here (Some number))
lands s p e = at (resolved s p.message.destination) refl (unrefused (p.remaining == 0) e)
  where
    unrefused : (b : Bool) → cond b (Some REACH_TIMEOUT) (target_refusal s (resolved s p.message.destination) p.message.delivery) ≡ None
        → target_refusal s (resolved s p.message.destination) p.message.delivery ≡ None
    unrefused true n = absurd (let none : ⊥ = cc in none)
    unrefused false n = n

    at : (target : Target) → resolved s p.message.destination ≡ target → target_refusal s target p.message.delivery ≡ None → (number : ℕ) × (resolved s p.message.destination ≡ Here (Some number))
    at (Here (Some number)) is n = (number, is)
    at (Here None) is n = absurd (let none : ⊥ = cc in none)
    at (AtPeer k) is n = absurd (let none : ⊥ = cc in none)
    at Nowhere is n = absurd (let none : ⊥ = cc in none)

-- and put there
pub puts : (s : State) (p : UserPacket) → refusal_of s p ≡ None → (t : State) → resolved t p.message.destination ≡ resolved s p.message.destination
    → (m : Message) → Leaves t (placed t (resolved t p.message.destination) m) 0
puts s p e t same_target m = let h = lands s p e in subst (λ target. Leaves t (placed t target m) 0) (sym (same_target ∙ h.1)) (kept t _ 0 refl refl refl refl refl)

pub stored_unrefused : (s : State) (p : UserPacket) → storing_refusal s p ≡ None → refusal_of s p ≡ None
stored_unrefused s p = at (is_for_order_layer s p.message.destination)
  where
    at : (b : Bool) → cond b (Some BAD_DESTINATION) (refusal_of s p) ≡ None → refusal_of s p ≡ None
    at true n = absurd (let none : ⊥ = cc in none)
    at false n = n

-- A message arrives: it is put and brings notices, or it is refused and brings them.
pub arrived_leaves : (t : State) (m : Message) (now : ℕ) (refusal : Option Class) → is_express m.delivery ≡ false → IsOfNotice refusal
    → (refusal ≡ None → Leaves t (placed t (resolved t m.destination) m) 0) → Leaves t (arrived t m now refusal) (notices_of m)
arrived_leaves t m now (Some class) durable class_is put = meets_leaves t m class now durable class_is
arrived_leaves t m now None durable class_is put = then t (placed t (resolved t m.destination) m) _ 0 (notices_of m) (notices_of m) (omega arith)
    (put refl) (meets_leaves (placed t (resolved t m.destination) m) m REACHED_QUEUE now durable refl)
