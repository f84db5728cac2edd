-- A state stays valid where a peer or a queue joins.
use Rattle.std.proofs.Common.{refl, ap, sym, subst, ◌∙◌, length, arith}
use Rattle.std.proofs.lemmas.Bool.Decides.{nat_tests}
use Rattle.std.proofs.lemmas.List.{length-append}
use Rattle.std.proofs.lemmas.List.Elements.{All-push}
use Rattle.std.specs.List.{flat_map}
use Rattle.std.specs.Prelude.{◌&&◌, ◌+◌, ◌++◌, ◌<◌, ◌==◌, ◌∷◌, ◌≡◌, ◌≤◌, [], All, AllPairs, Bool, List, false, nat_lt, not, true, ℕ}
use Rattle.mqb_base.specs.Same.{same_id}
use Rattle.mqb_base.specs.declared.queues.QueuePlan.{QueuePlan}
use Rattle.mqb_packet.specs.mqb_names.Values.{IsName}
use Rattle.mqb_orders.specs.Rows.{Row}
use Rattle.mqb_packet.specs.declared.packet.Headers.TheVariants as headers
use Rattle.mqb_plain.specs.Lists.{messages_of}
use Rattle.mqb_plain.specs.Plain.{PlainLists, no_plain}
use Rattle.mqb_queue.specs.Places.{Queue, new_queue}
use Rattle.mqb_model.specs.declared.limits.TheConstants.{MAX_PEERS, MAX_QUEUES}
use Rattle.mqb_model.specs.laws.Keeping.{MadeQueueIsValid, AddedPeerIsValid}
use Rattle.mqb_model.specs.records.Packets.{is_recoverable}
use Rattle.mqb_model.specs.records.Peer.{next_queue, peer_there, queue_there, with_new_queue, with_peer}
use Rattle.mqb_model.specs.state.Places.{is_express}
use Rattle.mqb_model.specs.state.Valid.{AreNew, IsCarried, IsInOrder, IsOwn, kept_messages, met_among, placed_messages, recoverable_messages, taken_among}
use Rattle.mqb_model.proofs.Members.{not_true, split_and}

-- one more is within the limit
pub room : (n limit : ℕ) → nat_lt n limit ≡ true → n + 1 ≤ limit
room n limit h = grind (arith, nat_tests)

pub append_nothing : {X : Type 0} (xs : List X) → xs ++ [] ≡ xs
append_nothing [] = refl
append_nothing (x ∷ xs) = ap (λ rest. x ∷ rest) (append_nothing xs)

push_front : {X : Type 0} (before : List X) (y : X) (xs : List X) → (before ++ y ∷ []) ++ xs ≡ before ++ (y ∷ xs)
push_front [] y xs = refl
push_front (b ∷ before) y xs = ap (λ rest. b ∷ rest) (push_front before y xs)

-- a member that is new beside all the others joins them
new_push : {X : Type 0} (there : List X → X → Bool) (before xs : List X) (x : X) → AreNew there before xs → there (before ++ xs) x ≡ false
    → AreNew there before (xs ++ x ∷ [])
new_push there before [] x h e = (subst (λ known. there known x ≡ false) (append_nothing before) e, tt)
new_push there before (y ∷ xs) x h e = (
  h.0,
  new_push there (before ++ y ∷ []) xs x h.1 (subst (λ known. there known x ≡ false) (sym (push_front before y xs)) e),
)

one_more : {X : Type 0} (xs : List X) (x : X) (limit : ℕ) → nat_lt (length xs) limit ≡ true → length (xs ++ x ∷ []) ≤ limit
one_more xs x limit h = subst (λ n. n ≤ limit) (sym (length-append xs (x ∷ []))) (room (length xs) limit h)

recoverable_stay : (ps : List PlainLists) → flat_map (λ p. messages_of p.recoverable) (ps ++ no_plain ∷ []) ≡ flat_map (λ p. messages_of p.recoverable) ps
recoverable_stay [] = refl
recoverable_stay (p ∷ ps) = ap (λ ms. messages_of p.recoverable ++ ms) (recoverable_stay ps)

still_in_order : (n k : ℕ) → n ≤ k → (row : Row) → IsInOrder n row → IsInOrder k row
still_in_order n k le row h = let below : row.peer < n = h.peer in record {
  peer = omega arith;
  acked = h.acked;
  offered = h.offered;
  committed = h.committed;
  rises = h.rises;
  kept = h.kept;
}

pub added_peer_is_valid : AddedPeerIsValid
added_peer_is_valid s peer v told f = record {
  few_peers = one_more s.peers peer MAX_PEERS both.1;
  few_queues = v.few_queues;
  peers_differ = new_push met_among (s.identity ∷ []) s.peers peer v.peers_differ (not_true (peer_there s peer) both.0);
  queues_differ = v.queues_differ;
  plain_lists = length-append s.plain (no_plain ∷ []) ∙ ap (λ n. n + 1) v.plain_lists ∙ sym more;
  hosts = All-push (λ p. IsName p.host) s.peers peer v.hosts told;
  ordinals_rise = v.ordinals_rise;
  ordinals_given = v.ordinals_given;
  rows = λ k d lt. still_in_order (length s.peers) (length (s.peers ++ peer ∷ [])) (let counted = more in omega (arith, counted)) _ (v.rows k d lt);
  sources_differ = v.sources_differ;
  outs_to_queues = v.outs_to_queues;
  ins_to_queues = v.ins_to_queues;
  kept = v.kept;
  plain = subst (λ ms. All (IsCarried headers.Session) ms) (sym plain) v.plain;
  placed = v.placed;
  recoverable = subst (λ ms. All (λ m. is_recoverable m.delivery ≡ true) ms) (sym plain) v.recoverable;
  durable = v.durable;
  next_number = v.next_number;
  next_ordinal = v.next_ordinal;
  settings = v.settings;
  own = subst (λ ms. All (IsOwn s.identity.guid s.next_number) (kept_messages s ++ ms)) (sym plain) v.own;
  ids_differ = subst (λ ms. AllPairs (λ a b. same_id a.id b.id ≡ false) (kept_messages s ++ ms)) (sym plain) v.ids_differ;
}
  where
    both : (not (peer_there s peer) ≡ true) × (nat_lt (length s.peers) MAX_PEERS ≡ true)
    both = split_and (not (peer_there s peer)) (nat_lt (length s.peers) MAX_PEERS) f

    more : length (s.peers ++ peer ∷ []) ≡ length s.peers + 1
    more = length-append s.peers (peer ∷ [])

    plain : recoverable_messages (with_peer s peer) ≡ recoverable_messages s
    plain = recoverable_stay s.plain

placed_stay : (qs : List Queue) (plan : QueuePlan) → flat_map (λ q. q.lists.durable ++ q.journal.durable) (qs ++ new_queue plan ∷ [])
    ≡ flat_map (λ q. q.lists.durable ++ q.journal.durable) qs
placed_stay [] plan = refl
placed_stay (q ∷ qs) plan = ap (λ ms. (q.lists.durable ++ q.journal.durable) ++ ms) (placed_stay qs plan)

pub made_queue_is_valid : MadeQueueIsValid
made_queue_is_valid s number plan v f = record {
  few_peers = v.few_peers;
  few_queues = one_more s.places.queues (new_queue plan) MAX_QUEUES both.1;
  peers_differ = v.peers_differ;
  queues_differ = new_push taken_among [] s.places.queues (new_queue plan) v.queues_differ (not_true (queue_there s plan) fresh.1);
  plain_lists = v.plain_lists;
  hosts = v.hosts;
  ordinals_rise = v.ordinals_rise;
  ordinals_given = v.ordinals_given;
  rows = v.rows;
  sources_differ = v.sources_differ;
  outs_to_queues = v.outs_to_queues;
  ins_to_queues = v.ins_to_queues;
  kept = v.kept;
  plain = v.plain;
  placed = subst (λ ms. All (IsCarried headers.Bare) ms) (sym placed) v.placed;
  recoverable = v.recoverable;
  durable = subst (λ ms. All (λ m. is_express m.delivery ≡ false) ms) (sym placed) v.durable;
  next_number = v.next_number;
  next_ordinal = v.next_ordinal;
  settings = v.settings;
  own = v.own;
  ids_differ = v.ids_differ;
}
  where
    both : (((number == next_queue s) && not (queue_there s plan)) ≡ true) × (nat_lt (length s.places.queues) MAX_QUEUES ≡ true)
    both = split_and ((number == next_queue s) && not (queue_there s plan)) (nat_lt (length s.places.queues) MAX_QUEUES) f

    fresh : ((number == next_queue s) ≡ true) × (not (queue_there s plan) ≡ true)
    fresh = split_and (number == next_queue s) (not (queue_there s plan)) both.0

    placed : placed_messages (with_new_queue s plan) ≡ placed_messages s
    placed = ap (λ ms. ms ++ s.places.dead.durable ++ s.places.dead_xact.durable ++ s.places.journal.durable) (placed_stay s.places.queues plan)
