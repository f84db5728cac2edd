-- A take is noted as it is tried.
use Rattle.std.proofs.Common.{refl, ap, sym, subst, ◌∙◌, arith}
use Rattle.std.proofs.lemmas.Bool.{eqb-true, true≢false}
use Rattle.std.proofs.lemmas.List.{map-append}
use Rattle.std.proofs.lemmas.Option.{none-some, same_Some}
use Rattle.std.specs.Option.{option_map_or}
use Rattle.std.specs.Prelude.{[], ◌++◌, ◌==◌, ◌∷◌, ◌≡◌, Bool, Err, List, None, Ok, Option, Some, cond, false, option_and_then, option_map, remove, slice_get, true, ℕ}
use Rattle.mqb_base.specs.declared.draft.Op.TheVariants as asked
use Rattle.mqb_base.specs.declared.message.Lane.TheVariants as lane
use Rattle.mqb_base.specs.declared.queues.EntryPlace.TheVariants as place
use Rattle.mqb_fields.specs.Reading.{◌>>=◌}
use Rattle.mqb_queue.specs.First.{first_index, is_free}
use Rattle.mqb_queue.specs.Lists.{Lists}
use Rattle.mqb_queue.specs.Lists as lists
use Rattle.mqb_queue.specs.Places.{Queue, numbered}
use Rattle.mqb_model.specs.calls.Commit.{Trial, first_free, try_op}
use Rattle.mqb_model.specs.calls.Commit as commit
use Rattle.mqb_model.specs.declared.faults.OpFault.TheVariants as op_fault
use Rattle.mqb_model.specs.declared.answers.Done.TheVariants as done
use Rattle.mqb_model.specs.records.Record as entry
use Rattle.mqb_model.specs.state.Resolving.{queue_named}
use Rattle.mqb_model.specs.state.State.{State}
use Rattle.mqb_trying.specs.declared.notes.PlannedOp.TheVariants as planned
use Rattle.mqb_trying.specs.declared.notes.Take.{Take}
use Rattle.mqb_trying.specs.Notes.{Noted, record_op}
use Rattle.mqb_trying.specs.Takes.{mark_of, may_take, message_of_take, next_index, next_of, noted_take, take_from, take_of, try_take, with_take}
use Rattle.mqb_trying.proofs.Following.{Agrees, Follows, InOrder, changed_lists, durable, queue_at}
use Rattle.mqb_trying.proofs.Left.{Finds, IsFound, left_in, next_is_first, other_same, untaken}
use Rattle.mqb_trying.proofs.Marks.{IsOrdered, other_ordered, same_next, still_ordered}
use Rattle.mqb_trying.proofs.Names.{named_same, place_names, plan, plan_same}

module _ (s : State) (now : ℕ) (n : Noted) (t : Trial) (h : Follows s now n t) (number : ℕ) where
  module _ (j k : ℕ) (q r : Queue) (q_there : numbered s.places.queues number ≡ Some q) (r_there : numbered t.taking.places.queues number ≡ Some r)
      (held : r.lists.durable ≡ left_in n.takes number q.lists.durable) (f : IsFound n.takes number now 0 q.lists.durable j k)
      (next : next_index (mark_of n.takes number q.lists.durable) now q.lists.durable ≡ Some j) where
    abbrev take : Take
    take = record { queue = number; index = j }

    abbrev takes : List Take
    takes = n.takes ++ take ∷ []

    here : option_map durable (option_map (lists.without lane.Durable k) (queue_at t.taking number)) ≡ option_map (λ l. left_in takes number l.durable) (queue_at s number)
    here = ap (λ o. option_map durable (option_map (lists.without lane.Durable k) (option_map (λ q. q.lists) o))) r_there
        ∙ ap (λ ms. Some (remove ms k)) held
        ∙ ap (λ ms. Some ms) (sym f.rest)
        ∙ sym (ap (λ o. option_map (λ l. left_in takes number l.durable) (option_map (λ q. q.lists) o)) q_there)

    others : (other : ℕ) (o : Option Lists) → (number == other) ≡ false → option_map (λ l. left_in n.takes other l.durable) o ≡ option_map (λ l. left_in takes other l.durable) o
    others other None e = refl
    others other (Some l) e = ap (λ ms. Some ms) (sym (other_same n.takes number j other l.durable e))

    left : (other : ℕ) → option_map durable (queue_at (commit.with_take t number k f.message).taking other) ≡ option_map (λ l. left_in takes other l.durable) (queue_at s other)
    left other = ap (option_map durable) (changed_lists t.taking.places number other (lists.without lane.Durable k)) ∙ at (number == other) refl
      where
        at : (b : Bool) → (number == other) ≡ b
            → option_map durable (cond b (option_map (lists.without lane.Durable k) (queue_at t.taking number)) (queue_at t.taking other))
            ≡ option_map (λ l. left_in takes other l.durable) (queue_at s other)
        at true e = here ∙ ap (λ x. option_map (λ l. left_in takes x l.durable) (queue_at s x)) (eqb-true number other e)
        at false e = h.left other ∙ others other (queue_at s other) e

    mine : (other : ℕ) (p : Queue) → number ≡ other → numbered s.places.queues other ≡ Some p → IsOrdered takes other now p.lists.durable
    mine other p e there = subst (λ x. IsOrdered takes x now p.lists.durable) e
        (subst (λ (q : Queue). IsOrdered takes number now q.lists.durable) (same_Some q p (sym q_there ∙ ap (numbered s.places.queues) e ∙ there))
        (still_ordered n.takes number now j f.offset q.lists.durable f.message f.place f.there (h.order number q q_there) next))

    order : InOrder s now takes
    order other p there = at (number == other) refl
      where
        at : (b : Bool) → (number == other) ≡ b → IsOrdered takes other now p.lists.durable
        at true e = mine other p (eqb-true number other e) there
        at false e = other_ordered n.takes number j other now p.lists.durable e (h.order other p there)

    take_follows : Follows s now (with_take n take f.message) (commit.with_take t number k f.message)
    take_follows = record {
      leads = h.leads;
      takes_lead = place_names (lists.without lane.Durable k) t.taking (place.Queue number) ∙ h.takes_lead;
      roll = h.roll;
      number = h.number;
      ordinal = h.ordinal;
      counts = h.counts;
      ends = h.ends;
      rise = h.rise;
      left = left;
      order = order;
      ops = ap (λ ops. ops ++ entry.Take number f.message.id ∷ []) h.ops ∙ sym (map-append record_op n.ops (planned.Take number f.message.id ∷ []));
      done = ap (λ ds. ds ++ done.Took f.message ∷ []) h.done;
    }

    message_there : message_of_take s take ≡ Some f.message
    message_there = ap (λ o. option_and_then (λ q. slice_get q.lists.durable j) o) q_there ∙ ap (λ i. slice_get q.lists.durable i) same ∙ f.there
      where
        same : j ≡ f.offset
        same = let p = f.place in omega (arith, p)

    message_left : slice_get r.lists.durable k ≡ Some f.message
    message_left = ap (λ ms. slice_get ms k) held ∙ f.left

    taken_agrees : Agrees s now (noted_take s n take) (option_map_or (λ m. Ok (commit.with_take t number k m)) (slice_get r.lists.durable k) (Err op_fault.QueueEmpty))
    taken_agrees = subst (λ o. Agrees s now (option_map_or (λ m. Ok (with_take n take m)) o (Err op_fault.QueueEmpty))
        (option_map_or (λ m. Ok (commit.with_take t number k m)) (slice_get r.lists.durable k) (Err op_fault.QueueEmpty))) (sym message_there)
        (subst (λ o. Agrees s now (Ok (with_take n take f.message)) (option_map_or (λ m. Ok (commit.with_take t number k m)) o (Err op_fault.QueueEmpty))) (sym message_left) take_follows)

  module _ (q r : Queue) (q_there : numbered s.places.queues number ≡ Some q) (r_there : numbered t.taking.places.queues number ≡ Some r) where
    held : r.lists.durable ≡ left_in n.takes number q.lists.durable
    held = same_Some r.lists.durable (left_in n.takes number q.lists.durable)
        (sym (ap (λ o. option_map durable (option_map (λ q. q.lists) o)) r_there) ∙ h.left number
        ∙ ap (λ o. option_map (λ l. left_in n.takes number l.durable) (option_map (λ q. q.lists) o)) q_there)

    abbrev index : Option ℕ
    index = next_index (mark_of n.takes number q.lists.durable) now q.lists.durable

    finds : Finds n.takes number now 0 q.lists.durable index (first_free number now r)
    finds = subst (λ o. Finds n.takes number now 0 q.lists.durable o (first_free number now r))
        (same_next (untaken n.takes number now) (may_take (mark_of n.takes number q.lists.durable) now) q.lists.durable (h.order number q q_there))
        (subst (λ ms. Finds n.takes number now 0 q.lists.durable (next_of (untaken n.takes number now) q.lists.durable) (first_index (is_free (place.Queue number) now) ms)) (sym held)
        (next_is_first n.takes number now q.lists.durable))

    first_agrees : Agrees s now (option_map_or (λ k. Ok (record { queue = number; index = k })) index (Err op_fault.QueueEmpty) >>= noted_take s n)
        (commit.take_first t now number r)
    first_agrees = at index (first_free number now r) refl finds
      where
        at : (o p : Option ℕ) → index ≡ o → Finds n.takes number now 0 q.lists.durable o p
            → Agrees s now (option_map_or (λ k. Ok (record { queue = number; index = k })) o (Err op_fault.QueueEmpty) >>= noted_take s n)
            (option_map_or (λ k. option_map_or (λ m. Ok (commit.with_take t number k m)) (slice_get r.lists.durable k) (Err op_fault.QueueEmpty)) p (Err op_fault.QueueEmpty))
        at None None is f = refl
        at None (Some k) is f = absurd f
        at (Some j) None is f = absurd f
        at (Some j) (Some k) is f = taken_agrees j k q r q_there r_there held f is

    from_agrees : q.plan.transactional ≡ r.plan.transactional → Agrees s now (take_from n.takes now number q >>= noted_take s n) (commit.take_from t now number r)
    from_agrees same = at q.plan.transactional r.plan.transactional same
      where
        at : (b c : Bool) → b ≡ c
            → Agrees s now (cond b (option_map_or (λ k. Ok (record { queue = number; index = k })) index (Err op_fault.QueueEmpty)) (Err op_fault.NotTransactional) >>= noted_take s n)
            (cond c (commit.take_first t now number r) (Err op_fault.NotTransactional))
        at true true e = first_agrees
        at false false e = refl
        at true false e = absurd (true≢false e)
        at false true e = absurd (true≢false (sym e))

  number_agrees : Agrees s now (take_of s n.takes now number >>= noted_take s n) (commit.take_of t now number)
  number_agrees = at (numbered s.places.queues number) (numbered t.taking.places.queues number) refl refl (plan_same t.taking s number h.takes_lead)
    where
      at : (o p : Option Queue) → numbered s.places.queues number ≡ o → numbered t.taking.places.queues number ≡ p → option_map plan p ≡ option_map plan o
          → Agrees s now (option_map_or (take_from n.takes now number) o (Err op_fault.NoQueue) >>= noted_take s n) (option_map_or (commit.take_from t now number) p (Err op_fault.NoQueue))
      at None None a b plans = refl
      at None (Some r) a b plans = absurd (none-some r.plan (sym plans))
      at (Some q) None a b plans = absurd (none-some q.plan plans)
      at (Some q) (Some r) a b plans = from_agrees q r a b (ap (λ p. p.transactional) (sym (same_Some r.plan q.plan plans)))

pub takes_agree : (s : State) (now : ℕ) (n : Noted) (t : Trial) (name : List ℕ) → Follows s now n t → Agrees s now (try_take s now n name) (try_op t now (asked.Take name))
takes_agree s now n t name h = subst (λ o. Agrees s now (try_take s now n name) (option_map_or (commit.take_of t now) o (Err op_fault.NoQueue))) (sym (named_same t.taking s name h.takes_lead))
    (at (queue_named s name))
  where
    at : (o : Option ℕ) → Agrees s now (option_map_or (take_of s n.takes now) o (Err op_fault.NoQueue) >>= noted_take s n) (option_map_or (commit.take_of t now) o (Err op_fault.NoQueue))
    at None = refl
    at (Some number) = number_agrees s now n t h number
