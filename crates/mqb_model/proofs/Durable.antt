-- What a store stands for is valid where the state is.
use Rattle.std.proofs.Common.{refl, ap, sym, subst, ◌∙◌}
use Rattle.std.proofs.lemmas.List.{length-map, map-append}
use Rattle.std.proofs.lemmas.List.Folds.{flat_map-map}
use Rattle.std.specs.List.{flat_map, list_any}
use Rattle.std.specs.Prelude.{◌++◌, ◌∷◌, ◌||◌, ◌≡◌, ◌≤◌, [], All, AllPairs, Bool, List, false, map, true}
use Rattle.mqb_base.specs.Same.{same_id}
use Rattle.mqb_fate.specs.Orders.{is_order_name}
use Rattle.mqb_packet.specs.declared.packet.Headers.TheVariants as headers
use Rattle.mqb_plain.specs.Lists.{messages_of, unmarked}
use Rattle.mqb_plain.specs.declared.outgoing.Outgoing.{Outgoing}
use Rattle.mqb_plain.specs.Plain.{PlainLists}
use Rattle.mqb_queue.specs.Places.{Queue}
use Rattle.mqb_model.specs.declared.limits.TheConstants.{MAX_QUEUES}
use Rattle.mqb_model.specs.laws.Validity.{DurableIsValid}
use Rattle.mqb_model.specs.records.Packets.{is_recoverable}
use Rattle.mqb_model.specs.records.Peer.{is_taken_by}
use Rattle.mqb_model.specs.state.Durable.{durable, durable_plain, durable_queue}
use Rattle.mqb_model.specs.state.Places.{is_express}
use Rattle.mqb_model.specs.state.State.{State}
use Rattle.mqb_model.specs.state.Valid.{AreNew, IsCarried, IsOwn, IsValidState, kept_messages, placed_messages, recoverable_messages, taken_among}

-- a test of members that were mapped
any_mapped : {X Y : Type 0} (test : Y → Bool) (f : X → Y) (xs : List X) → list_any test (map f xs) ≡ list_any (λ x. test (f x)) xs
any_mapped test f [] = refl
any_mapped test f (x ∷ xs) = ap (λ b. test (f x) || b) (any_mapped test f xs)

-- queues take names and GUIDs by their plans
taken_mapped : (before : List Queue) (q : Queue) → taken_among (map durable_queue before) (durable_queue q) ≡ taken_among before q
taken_mapped before q = ap (λ b. is_order_name q.plan.name || b) (any_mapped (is_taken_by q.plan) durable_queue before)

new_mapped : (before qs : List Queue) → AreNew taken_among before qs → AreNew taken_among (map durable_queue before) (map durable_queue qs)
new_mapped before [] h = tt
new_mapped before (q ∷ qs) h = (
  taken_mapped before q ∙ h.0,
  subst (λ b. AreNew taken_among b (map durable_queue qs)) (map-append durable_queue before (q ∷ [])) (new_mapped (before ++ q ∷ []) qs h.1),
)

-- messages stay where marks go
pub messages_stay : (items : List Outgoing) → messages_of (unmarked items) ≡ messages_of items
messages_stay [] = refl
messages_stay (o ∷ items) = ap (λ ms. o.message ∷ ms) (messages_stay items)

recoverable_stay : (ps : List PlainLists) → flat_map (λ p. messages_of p.recoverable) (map durable_plain ps) ≡ flat_map (λ p. messages_of p.recoverable) ps
recoverable_stay [] = refl
recoverable_stay (p ∷ ps) = ap (λ ms. ms ++ flat_map (λ p. messages_of p.recoverable) (map durable_plain ps)) (messages_stay p.recoverable)
    ∙ ap (λ ms. messages_of p.recoverable ++ ms) (recoverable_stay ps)

placed_stay : (s : State) → placed_messages (durable s) ≡ placed_messages s
placed_stay s = ap (λ ms. ms ++ s.places.dead.durable ++ s.places.dead_xact.durable ++ s.places.journal.durable)
    (flat_map-map (λ q. q.lists.durable ++ q.journal.durable) durable_queue s.places.queues)

pub durable_is_valid : DurableIsValid
durable_is_valid s v = record {
  few_peers = v.few_peers;
  few_queues = subst (λ n. n ≤ MAX_QUEUES) (sym (length-map s.places.queues durable_queue)) v.few_queues;
  peers_differ = v.peers_differ;
  queues_differ = new_mapped [] s.places.queues v.queues_differ;
  plain_lists = length-map s.plain durable_plain ∙ v.plain_lists;
  hosts = v.hosts;
  ordinals_rise = v.ordinals_rise;
  ordinals_given = v.ordinals_given;
  rows = v.rows;
  sources_differ = v.sources_differ;
  outs_to_queues = v.outs_to_queues;
  ins_to_queues = v.ins_to_queues;
  kept = v.kept;
  plain = subst (λ ms. All (IsCarried headers.Session) ms) (sym plain) v.plain;
  placed = subst (λ ms. All (IsCarried headers.Bare) ms) (sym (placed_stay s)) v.placed;
  recoverable = subst (λ ms. All (λ m. is_recoverable m.delivery ≡ true) ms) (sym plain) v.recoverable;
  durable = subst (λ ms. All (λ m. is_express m.delivery ≡ false) ms) (sym (placed_stay s)) v.durable;
  next_number = v.next_number;
  next_ordinal = v.next_ordinal;
  settings = v.settings;
  own = subst (λ ms. All (IsOwn s.identity.guid s.next_number) (kept_messages s ++ ms)) (sym plain) v.own;
  ids_differ = subst (λ ms. AllPairs (λ a b. same_id a.id b.id ≡ false) (kept_messages s ++ ms)) (sym plain) v.ids_differ;
}
  where
    plain : recoverable_messages (durable s) ≡ recoverable_messages s
    plain = recoverable_stay s.plain

-- A state is valid where what its store stands for is.

new_before : (before qs : List Queue) → AreNew taken_among (map durable_queue before) (map durable_queue qs) → AreNew taken_among before qs
new_before before [] h = tt
new_before before (q ∷ qs) h = (
  sym (taken_mapped before q) ∙ h.0,
  new_before (before ++ q ∷ []) qs (subst (λ b. AreNew taken_among b (map durable_queue qs)) (sym (map-append durable_queue before (q ∷ []))) h.1),
)

pub stands_for_valid : (s : State) → IsValidState (durable s) → IsValidState s
stands_for_valid s v = record {
  few_peers = v.few_peers;
  few_queues = subst (λ n. n ≤ MAX_QUEUES) (length-map s.places.queues durable_queue) v.few_queues;
  peers_differ = v.peers_differ;
  queues_differ = new_before [] s.places.queues v.queues_differ;
  plain_lists = sym (length-map s.plain durable_plain) ∙ v.plain_lists;
  hosts = v.hosts;
  ordinals_rise = v.ordinals_rise;
  ordinals_given = v.ordinals_given;
  rows = v.rows;
  sources_differ = v.sources_differ;
  outs_to_queues = v.outs_to_queues;
  ins_to_queues = v.ins_to_queues;
  kept = v.kept;
  plain = subst (λ ms. All (IsCarried headers.Session) ms) plain v.plain;
  placed = subst (λ ms. All (IsCarried headers.Bare) ms) (placed_stay s) v.placed;
  recoverable = subst (λ ms. All (λ m. is_recoverable m.delivery ≡ true) ms) plain v.recoverable;
  durable = subst (λ ms. All (λ m. is_express m.delivery ≡ false) ms) (placed_stay s) v.durable;
  next_number = v.next_number;
  next_ordinal = v.next_ordinal;
  settings = v.settings;
  own = subst (λ ms. All (IsOwn s.identity.guid s.next_number) (kept_messages s ++ ms)) plain v.own;
  ids_differ = subst (λ ms. AllPairs (λ a b. same_id a.id b.id ≡ false) (kept_messages s ++ ms)) plain v.ids_differ;
}
  where
    plain : recoverable_messages (durable s) ≡ recoverable_messages s
    plain = recoverable_stay s.plain
