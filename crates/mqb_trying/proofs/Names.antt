-- What of a state decides where names lead. The ops of a transaction leave it.
use Rattle.std.proofs.Common.{refl, ap, sym, ◌∙◌}
use Rattle.std.proofs.lemmas.Option.{slice_get-map}
use Rattle.std.specs.Option.{option_map_or}
use Rattle.std.specs.Prelude.{◌-◌, ◌==◌, ◌≡◌, Bool, List, None, Option, Some, cond, false, map, option_map, position, slice_get, true, ℕ}
use Rattle.mqb_base.specs.Same.{same_guid, same_ignoring_case}
use Rattle.mqb_base.specs.declared.ids.Guid.{Guid}
use Rattle.mqb_base.specs.declared.ids.Identity.{Identity}
use Rattle.mqb_base.specs.declared.message.Message.{Message}
use Rattle.mqb_base.specs.declared.queue_names.QueueName.{QueueName}
use Rattle.mqb_base.specs.declared.queue_names.QueueName.TheVariants.{Direct, Machine, Private, Public}
use Rattle.mqb_base.specs.declared.queues.EntryPlace.{EntryPlace}
use Rattle.mqb_base.specs.declared.queues.QueuePlan.{QueuePlan}
use Rattle.mqb_orders.specs.Rows.{Row}
use Rattle.mqb_queue.specs.Lists.{Lists}
use Rattle.mqb_queue.specs.Places.{Queue, lists_at, numbered, with_lists}
use Rattle.mqb_queue.proofs.Others.{plans_stay}
use Rattle.mqb_queue.proofs.Positions.{position_map}
use Rattle.mqb_model.specs.Lists.{number_at}
use Rattle.mqb_model.specs.declared.target.Target.{Target}
use Rattle.mqb_model.specs.declared.target.Target.TheVariants.{AtPeer, Here, Nowhere}
use Rattle.mqb_model.specs.rules.Sequences.{join, new_sequence, sequence_in_use, with_kept, with_sequence}
use Rattle.mqb_model.specs.state.Places.{with_place}
use Rattle.mqb_model.specs.state.Resolving.{at_peer, at_queue, guid_at, is_host_of, is_own_host, queue_named, resolved}
use Rattle.mqb_model.specs.state.Rows.{with_row}
use Rattle.mqb_model.specs.state.State.{State}

pub record Names : Type 0 where
  pub identity : Identity
  pub peers : List Identity
  pub plans : List QueuePlan

abbrev pub plan : Queue → QueuePlan
plan q = q.plan

abbrev pub names : State → Names
names s = record { identity = s.identity; peers = s.peers; plans = map plan s.places.queues }

-- the member of a number
pub numbered_mapped : {X Y : Type 0} (f : X → Y) (xs : List X) (n : ℕ) → numbered (map f xs) n ≡ option_map f (numbered xs n)
numbered_mapped f xs n = ap (λ o. cond (n == 0) None o) (slice_get-map f xs (n - 1)) ∙ at (n == 0)
  where
    at : (b : Bool) → cond b None (option_map f (slice_get xs (n - 1))) ≡ option_map f (cond b None (slice_get xs (n - 1)))
    at true = refl
    at false = refl

-- where a name leads
abbrev lead : Names → QueueName → Target
lead n (Public guid false) = at_queue (number_at (position (λ p. option_map_or (same_guid guid) p.public false) n.plans))
lead n (Private qm number false) = cond (same_guid qm n.identity.guid) (Here (option_map (λ p. number) (numbered n.plans number)))
    (at_peer (position (λ p. same_guid p.guid qm) n.peers))
lead n (Direct host queue false) = cond (is_own_host n.identity host) (Here (number_at (position (λ p. same_ignoring_case p.name queue) n.plans)))
    (at_peer (position (is_host_of host) n.peers))
lead n _ = Nowhere

numbered_plans : (qs : List Queue) (n : ℕ) → option_map (λ q. n) (numbered qs n) ≡ option_map (λ p. n) (numbered (map plan qs) n)
numbered_plans qs n = at (numbered qs n) ∙ ap (option_map (λ p. n)) (sym (numbered_mapped plan qs n))
  where
    at : (o : Option Queue) → option_map (λ q. n) o ≡ option_map (λ p. n) (option_map plan o)
    at None = refl
    at (Some q) = refl

lead_is : (s : State) (name : QueueName) → resolved s name ≡ lead (names s) name
lead_is s (Public guid true) = refl
lead_is s (Public guid false) = ap (λ o. at_queue (number_at o)) (sym (position_map plan (λ p. option_map_or (same_guid guid) p.public false) s.places.queues))
lead_is s (Private qm number true) = refl
lead_is s (Private qm number false) = ap (λ o. cond (same_guid qm s.identity.guid) (Here o) (at_peer (position (λ p. same_guid p.guid qm) s.peers))) (numbered_plans s.places.queues number)
lead_is s (Direct host queue true) = refl
lead_is s (Direct host queue false) = ap (λ o. cond (is_own_host s.identity host) (Here (number_at o)) (at_peer (position (is_host_of host) s.peers)))
    (sym (position_map plan (λ p. same_ignoring_case p.name queue) s.places.queues))
lead_is s (Machine qm kind) = refl

pub lead_same : (s t : State) (name : QueueName) → names s ≡ names t → resolved s name ≡ resolved t name
lead_same s t name e = lead_is s name ∙ ap (λ n. lead n name) e ∙ sym (lead_is t name)

-- the queue with a name
pub named_same : (s t : State) (name : List ℕ) → names s ≡ names t → queue_named s name ≡ queue_named t name
named_same s t name e = ap number_at (sym (by s)) ∙ ap (λ n. number_at (position (λ p. same_ignoring_case p.name name) n.plans)) e ∙ ap number_at (by t)
  where
    by : (s : State) → position (λ p. same_ignoring_case p.name name) (map plan s.places.queues) ≡ position (λ q. same_ignoring_case q.plan.name name) s.places.queues
    by s = position_map plan (λ p. same_ignoring_case p.name name) s.places.queues

-- the plan of the queue of a number
pub plan_same : (s t : State) (n : ℕ) → names s ≡ names t → option_map plan (numbered s.places.queues n) ≡ option_map plan (numbered t.places.queues n)
plan_same s t n e = sym (numbered_mapped plan s.places.queues n) ∙ ap (λ x. numbered x.plans n) e ∙ numbered_mapped plan t.places.queues n

abbrev guid_of : Names → Target → Guid
guid_of n (AtPeer k) = option_map_or (λ p. p.guid) (slice_get n.peers k) n.identity.guid
guid_of n _ = n.identity.guid

guid_is : (s : State) (t : Target) → guid_at s t ≡ guid_of (names s) t
guid_is s (AtPeer k) = refl
guid_is s (Here queue) = refl
guid_is s Nowhere = refl

pub guid_same : (s t : State) (to : Target) → names s ≡ names t → guid_at s to ≡ guid_at t to
guid_same s t to e = guid_is s to ∙ ap (λ n. guid_of n to) e ∙ sym (guid_is t to)

-- They stay where the messages of a place change, and where one joins a sequence.

pub place_names : (g : Lists → Lists) (s : State) (at : EntryPlace) → names (with_place g s at) ≡ names s
place_names g s at = of (lists_at s.places at)
  where
    of : (o : Option Lists) → names (record s { places = option_map_or (λ l. with_lists s.places at (g l)) o s.places }) ≡ names s
    of None = refl
    of (Some l) = ap (λ plans. record { identity = s.identity; peers = s.peers; plans = plans }) (plans_stay s.places at (g l))

pub join_names : (s : State) (peer now : ℕ) (m : Message) → names (join s peer now m) ≡ names s
join_names s peer now m = at (sequence_in_use s peer m.destination)
  where
    new : Row
    new = with_kept m (new_sequence s peer m.destination now)

    at : (o : Option Row) → names (option_map_or (λ row. with_row (with_kept m) s row.sequence.ordinal) o (with_sequence s new)) ≡ names s
    at None = refl
    at (Some row) = refl
