-- States of a manager that stand: they are valid, and no number of a range is the number of a message that waits. Which changes leave them so.
use Rattle.std.proofs.Common.{refl, ap, sym, subst, ◌∙◌, ◌⊎◌, length, arith}
use Rattle.std.proofs.lemmas.List.{length-map, map-append}
use Rattle.std.proofs.lemmas.List.Elements.{All-from_recursion, All-push, recursion_from_All}
use Rattle.std.specs.List.{AllByRecursion, flat_map, list_any}
use Rattle.std.specs.Option.{option_map_or}
use Rattle.std.specs.Prelude.{◌+◌, ◌++◌, ◌-◌, ◌<◌, ◌==◌, ◌||◌, ◌∷◌, ◌≡◌, ◌≤◌, [], All, Bool, List, None, Option, Some, cond, false, map, slice_get, slice_set, true, ℕ}
use Rattle.mqb_base.specs.Lanes.{lane_of}
use Rattle.mqb_base.specs.Same.{same_guid, same_ignoring_case}
use Rattle.mqb_base.specs.declared.ids.Guid.{Guid}
use Rattle.mqb_base.specs.declared.message.Delivery.{Delivery}
use Rattle.mqb_base.specs.declared.message.Delivery.TheVariants as delivery
use Rattle.mqb_base.specs.declared.message.Lane.TheVariants as lane
use Rattle.mqb_base.specs.declared.message.Message.{Message}
use Rattle.mqb_base.specs.declared.queues.EntryPlace.{EntryPlace}
use Rattle.mqb_base.specs.declared.queues.EntryPlace.TheVariants as place
use Rattle.mqb_base.specs.declared.queues.QueuePlan.{QueuePlan}
use Rattle.mqb_fate.specs.Orders.{is_order_name}
use Rattle.mqb_orders.specs.Rows.{Row}
use Rattle.mqb_packet.specs.declared.packet.Headers.TheVariants as headers
use Rattle.mqb_plain.specs.Lists.{messages_of, unsent}
use Rattle.mqb_plain.specs.Plain.{PlainLists, pushed}
use Rattle.mqb_queue.specs.Lists.{Lists, put, without}
use Rattle.mqb_queue.specs.Places.{Places, Queue, changed_at, lists_at, numbered, with_lists, with_numbered}
use Rattle.mqb_model.specs.Lists.{with_changed}
use Rattle.mqb_model.specs.declared.limits.TheConstants.{MAX_NUMBER, MAX_QUEUES}
use Rattle.mqb_model.specs.records.Packets.{is_recoverable}
use Rattle.mqb_model.specs.state.Places.{is_express, put_at, with_place, with_plain, without_at}
use Rattle.mqb_model.specs.state.State.{State}
use Rattle.mqb_model.specs.state.Valid.{AreNew, IsCarried, IsInOrder, IsOwn, IsValidState, kept_messages, placed_messages, recoverable_messages, taken_among}
use Rattle.mqb_model.proofs.Having.{PlacesHave, changed_have, join_places, split_places, weaker_have}
use Rattle.mqb_model.proofs.Holding.{removed_holds}
use Rattle.mqb_model.proofs.Mapped.{any_mapped}
use Rattle.mqb_model.proofs.Members.{Fewer, Gains, PairsByRecursion, all_pairs, changed_gains, changed_length, fewer_all, fewer_append, fewer_pairs, gains_all, gains_behind, gains_end, gains_pairs, pairs_of, same, set_same}
use Rattle.mqb_model.proofs.Offering.{Differ, IsHeaded, Precedes, kept_in, rows_valid}

-- a number below a range, or behind it
abbrev pub IsApart : ℕ → ℕ → Message → Type 0
IsApart low high m = (m.id.number < low) ⊎ (high ≤ m.id.number)

-- the messages whose identifiers differ
abbrev pub waiting : State → List Message
waiting s = kept_messages s ++ recoverable_messages s

pub record Stands (whose : Guid) (low high : ℕ) (s : State) : Type 0 where
  pub valid : IsValidState s
  pub above : high ≤ s.next_number
  pub owner : s.identity.guid ≡ whose
  pub apart : AllByRecursion (IsApart low high) (waiting s)

-- Places.

-- a durable message of a place
abbrev pub IsPlaced : Message → Type 0
IsPlaced m = IsCarried headers.Bare m × (is_express m.delivery ≡ false)

-- those of a place are
abbrev pub PlacedIn : Lists → Type 0
PlacedIn l = All IsPlaced l.durable

pub places_are : (s : State) → IsValidState s → PlacesHave PlacedIn s.places
places_are s v = weaker_have (λ l. AllByRecursion IsPlaced l.durable) PlacedIn (λ l h. All-from_recursion IsPlaced l.durable h) s.places
    (split_places (λ l. l.durable) IsPlaced s.places (recursion_from_All IsPlaced (placed_messages s) (λ k d lt. (v.placed k d lt, v.durable k d lt))))

all_placed : (s : State) → PlacesHave PlacedIn s.places → All IsPlaced (placed_messages s)
all_placed s h = All-from_recursion IsPlaced (placed_messages s) (join_places (λ l. l.durable) IsPlaced s.places
    (weaker_have PlacedIn (λ l. AllByRecursion IsPlaced l.durable) (λ l h. recursion_from_All IsPlaced l.durable h) s.places h))

-- Queues are new beside others by their plans.

abbrev pub plan_of : Queue → QueuePlan
plan_of q = q.plan

-- a plan takes the name or the GUID of another
abbrev takes_from : QueuePlan → QueuePlan → Bool
takes_from plan other = same_ignoring_case other.name plan.name
    || option_map_or (λ guid. option_map_or (same_guid guid) other.public false) plan.public false

abbrev planned_among : List QueuePlan → QueuePlan → Bool
planned_among plans plan = is_order_name plan.name || list_any (takes_from plan) plans

taken_is : (before : List Queue) (q : Queue) → planned_among (map plan_of before) q.plan ≡ taken_among before q
taken_is before q = ap (λ b. is_order_name q.plan.name || b) (any_mapped (takes_from q.plan) plan_of before)

new_plans : (before qs : List Queue) → AreNew taken_among before qs → AreNew planned_among (map plan_of before) (map plan_of qs)
new_plans before [] h = tt
new_plans before (q ∷ qs) h = (
  taken_is before q ∙ h.0,
  subst (λ b. AreNew planned_among b (map plan_of qs)) (map-append plan_of before (q ∷ [])) (new_plans (before ++ q ∷ []) qs h.1),
)

new_queues : (before qs : List Queue) → AreNew planned_among (map plan_of before) (map plan_of qs) → AreNew taken_among before qs
new_queues before [] h = tt
new_queues before (q ∷ qs) h = (
  sym (taken_is before q) ∙ h.0,
  new_queues (before ++ q ∷ []) qs (subst (λ b. AreNew planned_among b (map plan_of qs)) (sym (map-append plan_of before (q ∷ []))) h.1),
)

-- other places stand in the state, of which the queues have the same plans
pub places_stand : (whose : Guid) (low high : ℕ) (s : State) (p : Places) → Stands whose low high s → map plan_of p.queues ≡ map plan_of s.places.queues → PlacesHave PlacedIn p
    → Stands whose low high (record s { places = p })
places_stand whose low high s p h plans are = let v = h.valid in record {
  valid = record {
    few_peers = v.few_peers;
    few_queues = subst (λ n. n ≤ MAX_QUEUES) (sym counted) v.few_queues;
    peers_differ = v.peers_differ;
    queues_differ = new_queues [] p.queues (subst (λ plans. AreNew planned_among [] plans) (sym plans) (new_plans [] s.places.queues v.queues_differ));
    plain_lists = v.plain_lists;
    hosts = v.hosts;
    ordinals_rise = v.ordinals_rise;
    ordinals_given = v.ordinals_given;
    rows = v.rows;
    sources_differ = v.sources_differ;
    outs_to_queues = v.outs_to_queues;
    ins_to_queues = v.ins_to_queues;
    kept = v.kept;
    plain = v.plain;
    placed = λ k d lt. (all_placed (record s { places = p }) are k d lt).0;
    recoverable = v.recoverable;
    durable = λ k d lt. (all_placed (record s { places = p }) are k d lt).1;
    next_number = v.next_number;
    next_ordinal = v.next_ordinal;
    settings = v.settings;
    own = v.own;
    ids_differ = v.ids_differ;
  };
  above = h.above;
  owner = h.owner;
  apart = h.apart;
}
  where
    counted : length p.queues ≡ length s.places.queues
    counted = sym (length-map p.queues plan_of) ∙ ap length plans ∙ length-map s.places.queues plan_of

-- what a place holds is changed

pub numbered_get : {X : Type 0} (xs : List X) (n : ℕ) (x : X) → numbered xs n ≡ Some x → slice_get xs (n - 1) ≡ Some x
numbered_get xs n x e = at (n == 0) e
  where
    at : (b : Bool) → cond b None (slice_get xs (n - 1)) ≡ Some x → slice_get xs (n - 1) ≡ Some x
    at true e = absurd (let none : ⊥ = cc in none)
    at false e = e

plans_stay : (qs : List Queue) (n : ℕ) (change : Queue → Queue) → ((q : Queue) → plan_of (change q) ≡ plan_of q)
    → map plan_of (with_numbered qs n change) ≡ map plan_of qs
plans_stay qs n change keeps = at (numbered qs n) refl
  where
    at : (o : Option Queue) → numbered qs n ≡ o → map plan_of (option_map_or (λ x. slice_set qs (n - 1) (change x)) o qs) ≡ map plan_of qs
    at None e = refl
    at (Some q) e = set_same plan_of qs (n - 1) q (change q) (numbered_get qs n q e) (keeps q)

with_lists_plans : (p : Places) (at : EntryPlace) (l : Lists) → map plan_of (with_lists p at l).queues ≡ map plan_of p.queues
with_lists_plans p (place.Queue n) l = plans_stay p.queues n (λ q. record q { lists = l }) (λ q. refl)
with_lists_plans p (place.JournalOf n) l = plans_stay p.queues n (λ q. record q { journal = l }) (λ q. refl)
with_lists_plans p at l = refl

-- the plans of queues stay where what a place holds is changed
pub changed_plans : (p : Places) (at : EntryPlace) (g : Lists → Lists) → map plan_of (changed_at p at g).queues ≡ map plan_of p.queues
changed_plans p at g = by (lists_at p at)
  where
    by : (o : Option Lists) → map plan_of (option_map_or (λ l. with_lists p at (g l)) o p).queues ≡ map plan_of p.queues
    by None = refl
    by (Some l) = with_lists_plans p at (g l)

pub place_stands : (whose : Guid) (low high : ℕ) (s : State) (at : EntryPlace) (g : Lists → Lists) → ((l : Lists) → All IsPlaced l.durable → All IsPlaced (g l).durable)
    → Stands whose low high s → Stands whose low high (with_place g s at)
place_stands whose low high s at g keeps h = places_stand whose low high s (changed_at s.places at g) h (changed_plans s.places at g)
    (changed_have PlacedIn s.places at g keeps (places_are s h.valid))

pub put_stands : (whose : Guid) (low high : ℕ) (s : State) (at : EntryPlace) (m : Message) → IsPlaced m → Stands whose low high s → Stands whose low high (put_at s at m)
put_stands whose low high s at m placed h = by m.delivery placed.1
  where
    by : (x : Delivery) → is_express x ≡ false → Stands whose low high (with_place (put (lane_of x) m) s at)
    by delivery.Express e = absurd (let none : ⊥ = cc in none)
    by delivery.Recoverable e = place_stands whose low high s at (put lane.Durable m) (λ l k. All-push IsPlaced l.durable m k placed) h
    by delivery.Transactional e = place_stands whose low high s at (put lane.Durable m) (λ l k. All-push IsPlaced l.durable m k placed) h

pub without_stands : (whose : Guid) (low high : ℕ) (s : State) (at : EntryPlace) (k : ℕ) → Stands whose low high s → Stands whose low high (without_at lane.Durable s at k)
without_stands whose low high s at k h = place_stands whose low high s at (without lane.Durable k) (λ l d. removed_holds IsPlaced l.durable k d) h

-- Numbers.

pub number_stands : (whose : Guid) (low high : ℕ) (s : State) → s.next_number ≤ MAX_NUMBER → Stands whose low high s → Stands whose low high (record s { next_number = s.next_number + 1 })
number_stands whose low high s left h = let v = h.valid in record {
  valid = record {
    few_peers = v.few_peers;
    few_queues = v.few_queues;
    peers_differ = v.peers_differ;
    queues_differ = v.queues_differ;
    plain_lists = v.plain_lists;
    hosts = v.hosts;
    ordinals_rise = v.ordinals_rise;
    ordinals_given = v.ordinals_given;
    rows = v.rows;
    sources_differ = v.sources_differ;
    outs_to_queues = v.outs_to_queues;
    ins_to_queues = v.ins_to_queues;
    kept = v.kept;
    plain = v.plain;
    placed = v.placed;
    recoverable = v.recoverable;
    durable = v.durable;
    next_number = (omega arith, omega arith);
    next_ordinal = v.next_ordinal;
    settings = v.settings;
    own = λ k d lt. let one = v.own k d lt in record { source = one.source; number = later _ s.next_number one.number };
    ids_differ = v.ids_differ;
  };
  above = let high_one : high ≤ s.next_number = h.above in omega arith;
  owner = h.owner;
  apart = h.apart;
}
  where
    later : (n next : ℕ) → n < next → n < next + 1
    later n next lt = omega arith

-- Plain messages.

-- the recoverable messages of these lists
abbrev pub plain_in : List PlainLists → List Message
plain_in ps = flat_map (λ p. messages_of p.recoverable) ps

-- a message that is new beside those that wait
pub record IsFresh (whose : Guid) (low high : ℕ) (s : State) (m : Message) : Type 0 where
  pub own : IsOwn s.identity.guid s.next_number m
  pub before : AllByRecursion (λ o. Differ o m) (waiting s)
  pub behind : AllByRecursion (Differ m) (waiting s)
  pub apart : IsApart low high m

pub pushed_stands : (whose : Guid) (low high : ℕ) (s : State) (k : ℕ) (m : Message) → IsCarried headers.Session m → is_recoverable m.delivery ≡ true
    → IsFresh whose low high s m → Stands whose low high s → Stands whose low high (with_plain (pushed lane.Durable m) s k)
pushed_stands whose low high s k m carried recoverable fresh h = let v = h.valid in record {
  valid = record {
    few_peers = v.few_peers;
    few_queues = v.few_queues;
    peers_differ = v.peers_differ;
    queues_differ = v.queues_differ;
    plain_lists = changed_length (pushed lane.Durable m) s.plain k ∙ v.plain_lists;
    hosts = v.hosts;
    ordinals_rise = v.ordinals_rise;
    ordinals_given = v.ordinals_given;
    rows = v.rows;
    sources_differ = v.sources_differ;
    outs_to_queues = v.outs_to_queues;
    ins_to_queues = v.ins_to_queues;
    kept = v.kept;
    plain = All-from_recursion (IsCarried headers.Session) (plain_in after)
        (gains_all (IsCarried headers.Session) m gained carried (recursion_from_All (IsCarried headers.Session) (recoverable_messages s) v.plain));
    placed = v.placed;
    recoverable = All-from_recursion Recoverable (plain_in after)
        (gains_all Recoverable m gained recoverable (recursion_from_All Recoverable (recoverable_messages s) v.recoverable));
    durable = v.durable;
    next_number = v.next_number;
    next_ordinal = v.next_ordinal;
    settings = v.settings;
    own = All-from_recursion own (kept_messages s ++ plain_in after) (gains_all own m whole fresh.own (recursion_from_All own (waiting s) v.own));
    ids_differ = all_pairs Differ (kept_messages s ++ plain_in after)
        (gains_pairs Differ m whole fresh.before fresh.behind (pairs_of Differ (waiting s) v.ids_differ));
  };
  above = h.above;
  owner = h.owner;
  apart = gains_all (IsApart low high) m whole fresh.apart h.apart;
}
  where
    after : List PlainLists
    after = with_changed (pushed lane.Durable m) s.plain k

    own : Message → Type 0
    own o = IsOwn s.identity.guid s.next_number o

    Recoverable : Message → Type 0
    Recoverable o = is_recoverable o.delivery ≡ true

    gained : Gains m (recoverable_messages s) (plain_in after)
    gained = changed_gains (λ p. messages_of p.recoverable) m (pushed lane.Durable m) s.plain k (λ p. gains_end (λ o. o.message) (unsent m) p.recoverable)

    whole : Gains m (waiting s) (kept_messages s ++ plain_in after)
    whole = gains_behind m (kept_messages s) gained

-- other lists stand in the state, which have no recoverable message more
pub plain_stands : (whose : Guid) (low high : ℕ) (s : State) (ps : List PlainLists) → length ps ≡ length s.plain → Fewer (plain_in ps) (recoverable_messages s)
    → Stands whose low high s → Stands whose low high (record s { plain = ps })
plain_stands whose low high s ps counted fewer h = let v = h.valid in record {
  valid = record {
    few_peers = v.few_peers;
    few_queues = v.few_queues;
    peers_differ = v.peers_differ;
    queues_differ = v.queues_differ;
    plain_lists = counted ∙ v.plain_lists;
    hosts = v.hosts;
    ordinals_rise = v.ordinals_rise;
    ordinals_given = v.ordinals_given;
    rows = v.rows;
    sources_differ = v.sources_differ;
    outs_to_queues = v.outs_to_queues;
    ins_to_queues = v.ins_to_queues;
    kept = v.kept;
    plain = All-from_recursion (IsCarried headers.Session) (plain_in ps)
        (fewer_all (IsCarried headers.Session) fewer (recursion_from_All (IsCarried headers.Session) (recoverable_messages s) v.plain));
    placed = v.placed;
    recoverable = All-from_recursion Recoverable (plain_in ps) (fewer_all Recoverable fewer (recursion_from_All Recoverable (recoverable_messages s) v.recoverable));
    durable = v.durable;
    next_number = v.next_number;
    next_ordinal = v.next_ordinal;
    settings = v.settings;
    own = All-from_recursion own (kept_messages s ++ plain_in ps) (fewer_all own whole (recursion_from_All own (waiting s) v.own));
    ids_differ = all_pairs Differ (kept_messages s ++ plain_in ps) (fewer_pairs Differ whole (pairs_of Differ (waiting s) v.ids_differ));
  };
  above = h.above;
  owner = h.owner;
  apart = fewer_all (IsApart low high) whole h.apart;
}
  where
    own : Message → Type 0
    own o = IsOwn s.identity.guid s.next_number o

    Recoverable : Message → Type 0
    Recoverable o = is_recoverable o.delivery ≡ true

    whole : Fewer (kept_messages s ++ plain_in ps) (waiting s)
    whole = fewer_append (same (kept_messages s)) fewer

-- Rows.

pub rows_stand : (whose : Guid) (low high : ℕ) (s : State) (rows : List Row) → AllByRecursion (IsHeaded s.next_ordinal) rows → PairsByRecursion Precedes rows
    → AllByRecursion (IsInOrder (length s.peers)) rows → Fewer (kept_in rows) (kept_messages s) → Stands whose low high s → Stands whose low high (record s { outs = rows })
rows_stand whose low high s rows given rise order fewer h = record {
  valid = rows_valid s rows h.valid given rise order fewer;
  above = h.above;
  owner = h.owner;
  apart = fewer_all (IsApart low high) (fewer_append fewer (same (recoverable_messages s))) h.apart;
}
