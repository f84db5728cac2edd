-- Peers and queues that join those before them.
use Rattle.std.proofs.Common.{◌≡◌, ◌≤◌, ◌<◌, ◌+◌, ℕ, suc, Bool, false, List, [], ◌∷◌, ◌++◌, length, map, Option, Some, None, refl, sym, ap, ap₂, subst, arith}
use Rattle.std.proofs.lemmas.Bool.{not-true, or_parts}
use Rattle.std.proofs.lemmas.List.{length_push, map-append}
use Rattle.std.proofs.lemmas.List.Elements.{recursion_from_All}
use Rattle.std.specs.List.{AllByRecursion, list_any}
use Rattle.std.specs.Option.{option_map_or}
use Rattle.std.specs.Prelude.{◌||◌, IfSome, is_some, not, position}
use Rattle.mqb_base.specs.Same.{same_guid, same_ignoring_case}
use Rattle.mqb_base.specs.declared.ids.Guid.{Guid}
use Rattle.mqb_base.specs.declared.ids.Identity.{Identity}
use Rattle.mqb_base.specs.declared.message.Message.{Message}
use Rattle.mqb_base.specs.declared.queues.QueuePlan.{QueuePlan}
use Rattle.mqb_fate.specs.Orders.{is_order_name}
use Rattle.mqb_model.specs.declared.limits.TheConstants.{MAX_PEERS, MAX_QUEUES}
use Rattle.mqb_model.specs.records.Peer.{is_met, is_taken_by, shares_guid, with_new_queue, with_peer}
use Rattle.mqb_model.specs.state.Resolving.{is_registered, peer_known}
use Rattle.mqb_model.specs.state.State.{State}
use Rattle.mqb_model.specs.state.Valid.{met_among, recoverable_messages, kept_messages, taken_among}
use Rattle.mqb_names.specs.Values.{AreBytes}
use Rattle.mqb_orders.specs.Rows.{Row}
use Rattle.mqb_plain.specs.Lists.{messages_of}
use Rattle.mqb_plain.specs.Plain.{no_plain}
use Rattle.mqb_queue.proofs.Positions.{none_passes}
use Rattle.mqb_queue.specs.Places.{Queue, found, new_queue}
use Rattle.mqb_snapshot.proofs.Members.{all_weaker, no_member, none_of}
use Rattle.mqb_snapshot.specs.Fields.{guid_known, guid_registered, host_at, host_known, is_queue_taken, peer_guid_at, queue_name_at}
use Rattle.mqb_snapshot.specs.Parts.{Parts}
use Rattle.mqb_snapshot.specs.Reading.{peer_at, peer_joined, peers_joined, plan_at, queue_joined, queues_joined}
use Rattle.mqb_snapshot.specs.Values.{IsIdentity, IsPlan}
use Rattle.mqb_snapshot.proofs.FieldsRead.{IsNewGuid, address_reads, flag_reads, guid_reads, name_reads, registered_reads, within_reads, word_reads}
use Rattle.mqb_snapshot.proofs.Lists.{all_pushed, all_two, new_pushed, none_more}
use Rattle.mqb_snapshot.proofs.Readers.{Reads, behind, finished, joined_reads, step, tested_reads, weaker}
use Rattle.mqb_snapshot.proofs.Sound.{AreOwn, IsPlaced, IsSound, IsSoundRow, IsWaiting}

neither : (a b : Bool) → a ≡ false → b ≡ false → (a || b) ≡ false
neither a b one two = ap₂ (λ x y. x || y) one two

none_there : (o : Option ℕ) → is_some o ≡ false → o ≡ None
none_there None e = refl
none_there (Some k) e = absurd cc

none_at : {X : Type 0} (p : X → Bool) (xs : List X) → is_some (position p xs) ≡ false → AllByRecursion (λ x. p x ≡ false) xs
none_at p xs e = recursion_from_All (λ x. p x ≡ false) xs (none_passes p xs (none_there (position p xs) e))

-- Peers.

-- an identity that no manager shares that is known
abbrev pub IsNewPeer : State → Identity → Type 0
IsNewPeer s peer = IsIdentity peer × (host_known s peer.host ≡ false) × (guid_known s peer.guid ≡ false)

not_met : (s : State) (peer : Identity) → host_known s peer.host ≡ false → guid_known s peer.guid ≡ false → met_among (s.identity ∷ s.peers) peer ≡ false
not_met s peer host guid = no_member (λ k. is_met k peer) (s.identity ∷ s.peers)
    (all_weaker (λ k. (same_guid k.guid peer.guid ≡ false) × (same_ignoring_case k.host peer.host ≡ false)) (λ k. is_met k peer ≡ false)
    (λ k both. neither (same_guid k.guid peer.guid) (same_ignoring_case k.host peer.host) both.0 both.1) (s.identity ∷ s.peers)
    (all_two (λ k. same_guid k.guid peer.guid ≡ false) (λ k. same_ignoring_case k.host peer.host ≡ false) (s.identity ∷ s.peers) (guids.0, none_at (λ k. same_guid k.guid peer.guid) s.peers guids.1)
    (hosts.0, none_of (λ k. same_ignoring_case k.host peer.host) s.peers hosts.1)))
  where
    hosts : (same_ignoring_case s.identity.host peer.host ≡ false) × (list_any (λ k. same_ignoring_case k.host peer.host) s.peers ≡ false)
    hosts = or_parts _ _ host

    guids : (same_guid s.identity.guid peer.guid ≡ false) × (is_some (peer_known s peer.guid) ≡ false)
    guids = or_parts _ _ guid

pub peer_reads : (s : State) → Reads (peer_at s) (IsNewPeer s)
unfolding peer_at host_at peer_guid_at
peer_reads s = record {
  gives = λ r x all e.
      behind (IsNewPeer s) (tested_reads (λ host. not (host_known s host)) name_reads) r _ x all e (λ host host_end is_host host_left host_rest.
      behind (IsNewPeer s) (tested_reads (λ guid. not (guid_known s guid)) guid_reads) host_end _ x host_left host_rest (λ guid guid_end is_guid guid_left guid_rest.
      behind (IsNewPeer s) address_reads guid_end _ x guid_left guid_rest (λ address address_end is_address address_left address_rest.
      finished (IsNewPeer s) (record { host = host; guid = guid; address = address }) address_end x
      (record { host = is_host.0; guid = is_guid.0; address = is_address }, not-true _ is_host.1, not-true _ is_guid.1) address_left address_rest)));
}

one_peer_more : (n : ℕ) (row : Row) → IsSoundRow n row → IsSoundRow (n + 1) row
one_peer_more n row is = record {
  order = let peer : row.peer < n = (is.order).peer in record {
    peer = omega (arith, peer);
    acked = (is.order).acked;
    offered = (is.order).offered;
    committed = (is.order).committed;
    rises = (is.order).rises;
    kept = (is.order).kept;
  };
  first = is.first;
  stamp = is.stamp;
  destination = is.destination;
  queue = is.queue;
}

peer_more : (p : Parts) (peer : Identity) → IsSound p → IsNewPeer p.state peer → length p.state.peers < MAX_PEERS → IsSound (record p { state = with_peer p.state peer })
peer_more p peer is new room = record {
  identity = is.identity;
  peers = record {
    few = omega (arith, room, long);
    differ = new_pushed met_among (p.state.identity ∷ []) p.state.peers peer (is.peers).differ (not_met p.state peer new.1 new.2);
    each = all_pushed IsIdentity p.state.peers peer (is.peers).each new.0;
  };
  lists = omega (arith, is.lists, long, length_push p.state.plain no_plain);
  queues = is.queues;
  placed = is.placed;
  outs = record {
    rise = (is.outs).rise;
    each = subst (λ (n : ℕ). AllByRecursion (IsSoundRow n) p.state.outs) (sym long)
        (all_weaker (IsSoundRow (length p.state.peers)) (IsSoundRow (length p.state.peers + 1)) (one_peer_more (length p.state.peers)) p.state.outs (is.outs).each);
  };
  ins = is.ins;
  kept = is.kept;
  waiting = subst (AllByRecursion IsWaiting) (sym same) is.waiting;
  own = subst (λ ms. AreOwn p.state.identity.guid p.numbers (kept_messages p.state ++ ms)) (sym same) is.own;
}
  where
    long : length (p.state.peers ++ peer ∷ []) ≡ length p.state.peers + 1
    long = length_push p.state.peers peer

    same : recoverable_messages (with_peer p.state peer) ≡ recoverable_messages p.state
    same = none_more (λ l. messages_of l.recoverable) p.state.plain no_plain refl

-- with no queue yet
abbrev pub HasNoQueue : Parts → Type 0
HasNoQueue p = IsSound p × (p.state.places.queues ≡ [])

-- and with room for so many peers more
abbrev HasRoom : ℕ → Parts → Type 0
HasRoom n p = HasNoQueue p × (length p.state.peers + n ≤ MAX_PEERS)

peer_joins : (n : ℕ) (p : Parts) → HasRoom (suc n) p → Reads (peer_joined p) (HasRoom n)
unfolding peer_joined
peer_joins n p is = record {
  gives = λ r x all e.
      let room : length p.state.peers + suc n ≤ MAX_PEERS = is.1 in
      let peer = step (peer_reads p.state) r _ x all e in
      finished (HasRoom n) (record p { state = with_peer p.state peer.part.0 }) peer.part.1 x
      ((peer_more p peer.part.0 is.0.0 peer.holds (omega (arith, room)), is.0.1), omega (arith, room, length_push p.state.peers peer.part.0)) peer.bytes peer.rest;
}

pub peers_join : (p : Parts) → HasNoQueue p → p.state.peers ≡ [] → Reads (peers_joined p) HasNoQueue
unfolding peers_joined
peers_join p is none = record {
  gives = λ r x all e.
      behind HasNoQueue (within_reads 0 MAX_PEERS) r _ x all e (λ count count_end is_count count_left count_rest.
      let most : count ≤ MAX_PEERS = is_count.1 in
      (weaker HasNoQueue (λ q h. h.0) (joined_reads HasRoom peer_joins count p (is, omega (arith, most, ap length none)))).gives count_end x count_left count_rest);
}

-- Queues.

-- a plan of which no queue has the name or the GUID
abbrev pub IsNewPlan : State → QueuePlan → Type 0
IsNewPlan s plan = IsPlan plan × (is_queue_taken s plan.name ≡ false) × IfSome plan.public (λ guid. guid_registered s guid ≡ false)

guid_value : (s : State) (public : Option Guid) → IfSome public (IsNewGuid s) → IfSome public (λ guid. AreBytes 16 guid.0)
guid_value s None h = tt
guid_value s (Some guid) h = h.0

guid_new : (s : State) (public : Option Guid) → IfSome public (IsNewGuid s) → IfSome public (λ guid. guid_registered s guid ≡ false)
guid_new s None h = tt
guid_new s (Some guid) h = not-true _ h.1

pub plan_reads : (s : State) → Reads (plan_at s) (IsNewPlan s)
unfolding plan_at queue_name_at
plan_reads s = record {
  gives = λ r x all e.
      behind (IsNewPlan s) (tested_reads (λ name. not (is_queue_taken s name)) name_reads) r _ x all e (λ name name_end is_name name_left name_rest.
      behind (IsNewPlan s) (registered_reads s) name_end _ x name_left name_rest (λ public public_end is_public public_left public_rest.
      behind (IsNewPlan s) flag_reads public_end _ x public_left public_rest (λ transactional transactional_end is_flag transactional_left transactional_rest.
      behind (IsNewPlan s) word_reads transactional_end _ x transactional_left transactional_rest (λ quota quota_end is_quota quota_left quota_rest.
      behind (IsNewPlan s) flag_reads quota_end _ x quota_left quota_rest (λ journal journal_end is_journal journal_left journal_rest.
      finished (IsNewPlan s) (record { name = name; public = public; transactional = transactional; quota = quota; journal = journal }) journal_end x
      (record { name = is_name.0; public = guid_value s public is_public; quota = is_quota }, not-true _ is_name.1, guid_new s public is_public) journal_left journal_rest)))));
}

none_shares : (s : State) (plan : QueuePlan) (public : Option Guid) → IfSome public (λ guid. guid_registered s guid ≡ false)
    → AllByRecursion (λ q. option_map_or (λ guid. is_registered guid q) public false ≡ false) s.places.queues
none_shares s plan None new = all_false s.places.queues
  where
    all_false : (qs : List Queue) → AllByRecursion (λ q. false ≡ false) qs
    all_false [] = tt
    all_false (q ∷ qs) = (refl, all_false qs)
none_shares s plan (Some guid) new = none_of (is_registered guid) s.places.queues new

not_taken : (s : State) (plan : QueuePlan) → IsNewPlan s plan → taken_among s.places.queues (new_queue plan) ≡ false
not_taken s plan new = neither (is_order_name plan.name) (list_any (is_taken_by plan) s.places.queues) name.0 (no_member (is_taken_by plan) s.places.queues
    (all_weaker (λ q. (same_ignoring_case q.plan.name plan.name ≡ false) × (shares_guid plan q ≡ false)) (λ q. is_taken_by plan q ≡ false)
    (λ q both. neither (same_ignoring_case q.plan.name plan.name) (shares_guid plan q) both.0 both.1) s.places.queues
    (all_two (λ q. same_ignoring_case q.plan.name plan.name ≡ false) (λ q. shares_guid plan q ≡ false) s.places.queues
    (none_at (λ q. same_ignoring_case q.plan.name plan.name) s.places.queues name.1) (none_shares s plan plan.public new.2))))
  where
    name : (is_order_name plan.name ≡ false) × (is_some (found s.places.queues plan.name) ≡ false)
    name = or_parts _ _ new.1

queue_more : (p : Parts) (plan : QueuePlan) → IsSound p → IsNewPlan p.state plan → length p.state.places.queues < MAX_QUEUES → IsSound (record p { state = with_new_queue p.state plan })
queue_more p plan is new room = record {
  identity = is.identity;
  peers = is.peers;
  lists = is.lists;
  queues = record {
    few = omega (arith, room, length_push p.state.places.queues (new_queue plan));
    differ = new_pushed taken_among [] p.state.places.queues (new_queue plan) (is.queues).differ (not_taken p.state plan new);
    each = subst (AllByRecursion IsPlan) (sym (map-append (λ q. q.plan) p.state.places.queues (new_queue plan ∷ [])))
        (all_pushed IsPlan (map (λ q. q.plan) p.state.places.queues) plan (is.queues).each new.0);
  };
  placed = subst (λ (ms : List Message). AllByRecursion IsPlaced (ms ++ p.state.places.dead.durable ++ p.state.places.dead_xact.durable ++ p.state.places.journal.durable))
      (sym (none_more (λ q. q.lists.durable ++ q.journal.durable) p.state.places.queues (new_queue plan) refl)) is.placed;
  outs = is.outs;
  ins = is.ins;
  kept = is.kept;
  waiting = is.waiting;
  own = is.own;
}

-- with room for so many queues more
abbrev HasQueueRoom : ℕ → Parts → Type 0
HasQueueRoom n p = IsSound p × (length p.state.places.queues + n ≤ MAX_QUEUES)

queue_joins : (n : ℕ) (p : Parts) → HasQueueRoom (suc n) p → Reads (queue_joined p) (HasQueueRoom n)
unfolding queue_joined
queue_joins n p is = record {
  gives = λ r x all e.
      let room : length p.state.places.queues + suc n ≤ MAX_QUEUES = is.1 in
      let plan = step (plan_reads p.state) r _ x all e in
      finished (HasQueueRoom n) (record p { state = with_new_queue p.state plan.part.0 }) plan.part.1 x
      (queue_more p plan.part.0 is.0 plan.holds (omega (arith, room)), omega (arith, room, length_push p.state.places.queues (new_queue plan.part.0))) plan.bytes plan.rest;
}

pub queues_join : (p : Parts) → HasNoQueue p → Reads (queues_joined p) IsSound
unfolding queues_joined
queues_join p is = record {
  gives = λ r x all e.
      behind IsSound (within_reads 0 MAX_QUEUES) r _ x all e (λ count count_end is_count count_left count_rest.
      let most : count ≤ MAX_QUEUES = is_count.1 in
      (weaker IsSound (λ q h. h.0) (joined_reads HasQueueRoom queue_joins count p (is.0, omega (arith, most, ap length is.1)))).gives count_end x count_left count_rest);
}
