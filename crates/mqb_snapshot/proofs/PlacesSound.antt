-- Messages of places that join those before them.
use Rattle.std.proofs.Common.{◌≡◌, ◌≤◌, ◌+◌, ◌-◌, ℕ, Bool, true, false, List, [], ◌∷◌, ◌++◌, length, map, Option, Some, None, refl, sym, ap, ap₂, subst, ◌∙◌, inl}
use Rattle.std.proofs.lemmas.List.{length-map, map-set}
use Rattle.std.proofs.lemmas.Option.{slice_get-map}
use Rattle.std.specs.List.{AllByRecursion, flat_map, list_any}
use Rattle.std.specs.Option.{option_map, option_map_or}
use Rattle.std.specs.Prelude.{◌||◌, slice_get, slice_set}
use Rattle.mqb_base.specs.Lanes.{lane_of}
use Rattle.mqb_base.specs.Same.{same_guid, same_ignoring_case}
use Rattle.mqb_base.specs.declared.message.Lane.{Lane}
use Rattle.mqb_base.specs.declared.message.Lane.TheVariants as lane
use Rattle.mqb_base.specs.declared.message.Message.{Message}
use Rattle.mqb_base.specs.declared.queues.EntryPlace.{EntryPlace}
use Rattle.mqb_base.specs.declared.queues.EntryPlace.TheVariants as place
use Rattle.mqb_base.specs.declared.queues.QueuePlan.{QueuePlan}
use Rattle.mqb_fate.specs.Orders.{is_order_name}
use Rattle.mqb_model.specs.declared.limits.TheConstants.{MAX_QUEUES}
use Rattle.mqb_model.specs.records.Peer.{is_taken_by}
use Rattle.mqb_model.specs.state.Places.{is_express, put_at}
use Rattle.mqb_model.specs.state.Valid.{AreNew, taken_among}
use Rattle.mqb_packet.specs.declared.packet.Headers.TheVariants.{Bare}
use Rattle.mqb_queue.proofs.Lens.{is_there, set_same}
use Rattle.mqb_queue.specs.Lists.{put}
use Rattle.mqb_queue.specs.Places.{Places, Queue, changed_at, numbered, with_lists, with_numbered}
use Rattle.mqb_snapshot.specs.Fields.{durably}
use Rattle.mqb_snapshot.specs.Parts.{Parts}
use Rattle.mqb_snapshot.specs.Reading.{held_joined, place_joined, placed_joined, places_joined}
use Rattle.mqb_snapshot.specs.Values.{IsPlan}
use Rattle.mqb_snapshot.proofs.FieldsRead.{flag_reads}
use Rattle.mqb_snapshot.proofs.Lists.{IsGrown, all_grown, grown_at_end, grown_before, grown_behind, set_grown}
use Rattle.mqb_snapshot.proofs.MessagesRead.{IsStored, message_reads}
use Rattle.mqb_snapshot.proofs.Readers.{Reads, behind, each_reads, finished, list_reads}
use Rattle.mqb_snapshot.proofs.Sound.{AreQueues, IsPlaced, IsSound}

-- Queues of the same plans.

abbrev plans_of : List Queue → List QueuePlan
plans_of queues = map (λ q. q.plan) queues

-- a plan has the name or the GUID of another one
abbrev is_taken : QueuePlan → QueuePlan → Bool
is_taken plan p = same_ignoring_case p.name plan.name || option_map_or (λ guid. option_map_or (same_guid guid) p.public false) plan.public false

by_plans : (plan : QueuePlan) (queues : List Queue) → list_any (is_taken_by plan) queues ≡ list_any (is_taken plan) (plans_of queues)
by_plans plan [] = refl
by_plans plan (q ∷ queues) = ap (λ b. is_taken_by plan q || b) (by_plans plan queues)

same_taken : (known others : List Queue) (x y : Queue) → plans_of known ≡ plans_of others → x.plan ≡ y.plan → taken_among known x ≡ taken_among others y
same_taken known others x y one two =
    ap (λ b. is_order_name x.plan.name || b) (by_plans x.plan known)
    ∙ ap₂ (λ (plan : QueuePlan) (plans : List QueuePlan). is_order_name plan.name || list_any (is_taken plan) plans) two one
    ∙ sym (ap (λ b. is_order_name y.plan.name || b) (by_plans y.plan others))

still_new : (known others xs ys : List Queue) → plans_of known ≡ plans_of others → plans_of xs ≡ plans_of ys → AreNew taken_among known xs → AreNew taken_among others ys
still_new known others [] [] one two h = tt
still_new known others [] (y ∷ ys) one two h = absurd (let none : ⊥ = cc in none)
still_new known others (x ∷ xs) [] one two h = absurd (let none : ⊥ = cc in none)
still_new known others (x ∷ xs) (y ∷ ys) one two h =
    let here : x.plan ≡ y.plan = cc in
    let behind : plans_of xs ≡ plans_of ys = cc in
    (sym (same_taken known others x y one here) ∙ h.0, still_new (known ++ x ∷ []) (others ++ y ∷ []) xs ys (pushed known others x y one here) behind h.1)
  where
    pushed : (ks os : List Queue) (k o : Queue) → plans_of ks ≡ plans_of os → k.plan ≡ o.plan → plans_of (ks ++ k ∷ []) ≡ plans_of (os ++ o ∷ [])
    pushed [] [] k o same here = ap (λ (plan : QueuePlan). plan ∷ []) here
    pushed [] (b ∷ os) k o same here = absurd (let none : ⊥ = cc in none)
    pushed (a ∷ ks) [] k o same here = absurd (let none : ⊥ = cc in none)
    pushed (a ∷ ks) (b ∷ os) k o same here =
        let first : a.plan ≡ b.plan = cc in
        let rest : plans_of ks ≡ plans_of os = cc in
        ap₂ (λ (plan : QueuePlan) (plans : List QueuePlan). plan ∷ plans) first (pushed ks os k o rest here)

-- A message more in a place.

abbrev in_queue : Queue → List Message
in_queue q = q.lists.durable ++ q.journal.durable

-- the durable messages of places
abbrev messages_of : Places → List Message
messages_of p = flat_map in_queue p.queues ++ p.dead.durable ++ p.dead_xact.durable ++ p.journal.durable

-- places with a message more, or the same where the place is not there
record IsPut (m : Message) (before after : Places) : Type 0 where
  pub plans : plans_of before.queues ≡ plans_of after.queues
  pub grown : IsGrown m (messages_of before) (messages_of after)

stays : (m : Message) (p : Places) → IsPut m p p
stays m p = record { plans = refl; grown = inl refl }

queues_grown : (m : Message) (p : Places) (queues : List Queue) → IsGrown m (flat_map in_queue p.queues) (flat_map in_queue queues)
    → IsGrown m (messages_of p) (messages_of (record p { queues = queues }))
queues_grown m p queues g = grown_before m p.journal.durable _ _ (grown_before m p.dead_xact.durable _ _ (grown_before m p.dead.durable _ _ g))

-- one queue is another one, of the same plan
put_in : (m : Message) (p : Places) (number : ℕ) (q z : Queue) (change : Queue → Queue) → numbered p.queues number ≡ Some q → change q ≡ z → z.plan ≡ q.plan
    → IsGrown m (in_queue q) (in_queue z) → IsPut m p (record p { queues = with_numbered p.queues number change })
put_in m p number q z change there is plan g = subst (λ (queues : List Queue). IsPut m p (record p { queues = queues })) (sym whole) (record {
  plans = sym (map-set (λ q. q.plan) p.queues (number - 1) z ∙ set_same (plans_of p.queues) (number - 1) z.plan planned);
  grown = queues_grown m p (slice_set p.queues (number - 1) z) (set_grown in_queue m p.queues (number - 1) q z got g);
})
  where
    got : slice_get p.queues (number - 1) ≡ Some q
    got = (is_there p.queues number q there).1

    whole : with_numbered p.queues number change ≡ slice_set p.queues (number - 1) z
    whole = ap (λ (o : Option Queue). option_map_or (λ x. slice_set p.queues (number - 1) (change x)) o p.queues) there ∙ ap (λ (x : Queue). slice_set p.queues (number - 1) x) is

    planned : slice_get (plans_of p.queues) (number - 1) ≡ Some z.plan
    planned = slice_get-map (λ q. q.plan) p.queues (number - 1) ∙ ap (option_map (λ q. q.plan)) got ∙ ap (λ (x : QueuePlan). Some x) (sym plan)

put_queue : (m : Message) (p : Places) (number : ℕ) (o : Option Queue) → numbered p.queues number ≡ o
    → IsPut m p (option_map_or (λ l. with_lists p (place.Queue number) (put lane.Durable m l)) (option_map (λ q. q.lists) o) p)
put_queue m p number None there = stays m p
put_queue m p number (Some q) there = put_in m p number q (record q { lists = put lane.Durable m q.lists }) (λ r. record r { lists = put lane.Durable m q.lists }) there refl refl
    (grown_before m q.journal.durable q.lists.durable (q.lists.durable ++ m ∷ []) (grown_at_end m q.lists.durable))

put_journal : (m : Message) (p : Places) (number : ℕ) (o : Option Queue) → numbered p.queues number ≡ o
    → IsPut m p (option_map_or (λ l. with_lists p (place.JournalOf number) (put lane.Durable m l)) (option_map (λ q. q.journal) o) p)
put_journal m p number None there = stays m p
put_journal m p number (Some q) there = put_in m p number q (record q { journal = put lane.Durable m q.journal }) (λ r. record r { journal = put lane.Durable m q.journal }) there refl refl
    (grown_behind m q.lists.durable q.journal.durable (q.journal.durable ++ m ∷ []) (grown_at_end m q.journal.durable))

put_is : (m : Message) (p : Places) (at : EntryPlace) → IsPut m p (changed_at p at (put lane.Durable m))
put_is m p (place.Queue number) = put_queue m p number (numbered p.queues number) refl
put_is m p (place.JournalOf number) = put_journal m p number (numbered p.queues number) refl
put_is m p place.Dead = record {
  plans = refl;
  grown = grown_before m p.journal.durable _ _ (grown_before m p.dead_xact.durable _ _ (grown_behind m (flat_map in_queue p.queues) _ _ (grown_at_end m p.dead.durable)));
}
put_is m p place.DeadXact = record {
  plans = refl;
  grown = grown_before m p.journal.durable _ _ (grown_behind m (flat_map in_queue p.queues ++ p.dead.durable) _ _ (grown_at_end m p.dead_xact.durable));
}
put_is m p place.Journal = record {
  plans = refl;
  grown = grown_behind m (flat_map in_queue p.queues ++ p.dead.durable ++ p.dead_xact.durable) _ _ (grown_at_end m p.journal.durable);
}

pub durable_lane : (transactional : Bool) → lane_of (durably transactional) ≡ lane.Durable
durable_lane true = refl
durable_lane false = refl

not_express : (transactional : Bool) → is_express (durably transactional) ≡ false
not_express true = refl
not_express false = refl

queues_stay : (before after : List Queue) → plans_of before ≡ plans_of after → AreQueues before → AreQueues after
queues_stay before after same is = record {
  few = subst (λ n. n ≤ MAX_QUEUES) (sym (length-map before (λ q. q.plan)) ∙ ap length same ∙ length-map after (λ q. q.plan)) is.few;
  differ = still_new [] [] before after refl same is.differ;
  each = subst (AllByRecursion IsPlan) same is.each;
}

placed_more : (at : EntryPlace) (p : Parts) (transactional : Bool) (m : Message) → IsSound p → IsStored Bare transactional m → IsSound (record p { state = put_at p.state at m })
placed_more at p transactional m is new =
    subst (λ (l : Lane). IsSound (record p { state = record p.state { places = changed_at p.state.places at (put l m) } })) (sym (ap lane_of new.delivery ∙ durable_lane transactional)) (record {
      identity = is.identity;
      peers = is.peers;
      lists = is.lists;
      queues = queues_stay p.state.places.queues _ is_put.plans is.queues;
      placed = all_grown IsPlaced m _ _ is_put.grown is.placed ((new.carried, new.held), ap is_express new.delivery ∙ not_express transactional);
      outs = is.outs;
      ins = is.ins;
      kept = is.kept;
      waiting = is.waiting;
      own = is.own;
    })
  where
    is_put : IsPut m p.state.places (changed_at p.state.places at (put lane.Durable m))
    is_put = put_is m p.state.places at

placed_joins : (at : EntryPlace) (p : Parts) → IsSound p → Reads (placed_joined at p) IsSound
unfolding placed_joined
placed_joins at p is = record {
  gives = λ r x all e.
      behind IsSound flag_reads r _ x all e (λ transactional transactional_end is_flag transactional_left transactional_rest.
      behind IsSound (message_reads Bare transactional) transactional_end _ x transactional_left transactional_rest (λ message message_end is_message message_left message_rest.
      finished IsSound (record p { state = put_at p.state at message }) message_end x (placed_more at p transactional message is is_message) message_left message_rest));
}

place_joins : (at : EntryPlace) (p : Parts) → IsSound p → Reads (place_joined at p) IsSound
unfolding place_joined
place_joins at p is = list_reads (λ n. IsSound) (λ n. placed_joins at) p (λ n few. is)

held_joins : (k : ℕ) (p : Parts) → IsSound p → Reads (held_joined k p) IsSound
unfolding held_joined
held_joins k p is = record {
  gives = λ r x all e.
      behind IsSound (place_joins (place.Queue (k + 1)) p is) r _ x all e (λ queue queue_end is_queue queue_left queue_rest.
      (place_joins (place.JournalOf (k + 1)) queue is_queue).gives queue_end x queue_left queue_rest);
}

pub places_join : (p : Parts) → IsSound p → Reads (places_joined p) IsSound
unfolding places_joined
places_join p is = record {
  gives = λ r x all e.
      behind IsSound (each_reads (λ k. IsSound) held_joins (length p.state.places.queues) 0 p is) r _ x all e (λ queues queues_end is_queues queues_left queues_rest.
      behind IsSound (place_joins place.Dead queues is_queues) queues_end _ x queues_left queues_rest (λ dead dead_end is_dead dead_left dead_rest.
      behind IsSound (place_joins place.DeadXact dead is_dead) dead_end _ x dead_left dead_rest (λ dead_xact dead_xact_end is_dead_xact dead_xact_left dead_xact_rest.
      (place_joins place.Journal dead_xact is_dead_xact).gives dead_xact_end x dead_xact_left dead_xact_rest)));
}
