-- What of a state decides where names lead and which sequences messages join, and what notices leave of it.
use Rattle.std.proofs.Common.{refl, ap, sym, ◌∙◌}
use Rattle.std.specs.List.{AllByRecursion, last_or}
use Rattle.std.specs.Option.{option_map_or}
use Rattle.std.specs.Prelude.{◌+◌, ◌++◌, ◌||◌, ◌∷◌, ◌≡◌, [], Bool, IfSome, List, None, Option, Some, cond, false, filter, fold, is_some, map, nat_le, nat_lt, option_and_then, option_map, position, slice_get, true, ℕ}
use Rattle.mqb_base.specs.Lanes.{lane_of}
use Rattle.mqb_base.specs.Same.{same_guid, same_ignoring_case}
use Rattle.mqb_base.specs.declared.class.TheConstants.Class.{REACHED_QUEUE}
use Rattle.mqb_base.specs.declared.ids.Guid.{Guid}
use Rattle.mqb_base.specs.declared.ids.Identity.{Identity}
use Rattle.mqb_base.specs.declared.ids.MessageId.{MessageId}
use Rattle.mqb_base.specs.declared.message.Delivery.{Delivery}
use Rattle.mqb_base.specs.declared.message.Delivery.TheVariants as delivery
use Rattle.mqb_base.specs.declared.message.Lane.TheVariants as lane
use Rattle.mqb_base.specs.declared.message.Message.{Message}
use Rattle.mqb_base.specs.declared.queue_names.QueueName.{QueueName}
use Rattle.mqb_base.specs.declared.queue_names.QueueName.TheVariants.{Direct, Private, Public}
use Rattle.mqb_base.specs.declared.queues.EntryPlace.{EntryPlace}
use Rattle.mqb_base.specs.declared.queues.EntryPlace.TheVariants as place
use Rattle.mqb_base.specs.declared.queues.QueuePlan.{QueuePlan}
use Rattle.mqb_orders.specs.Rows.{Row, leads_to}
use Rattle.mqb_plain.specs.Plain.{PlainLists}
use Rattle.mqb_queue.specs.First.{index_named}
use Rattle.mqb_queue.specs.Lists.{Lists, put}
use Rattle.mqb_queue.specs.Lists as places
use Rattle.mqb_queue.specs.Places.{Queue, numbered}
use Rattle.mqb_model.specs.Lists.{number_at, with_first_changed}
use Rattle.mqb_model.specs.declared.limits.TheConstants.{MAX_ORDINAL}
use Rattle.mqb_model.specs.declared.target.Target.{Target}
use Rattle.mqb_model.specs.declared.target.Target.TheVariants.{AtPeer, Here, Nowhere}
use Rattle.mqb_model.specs.records.Commit.{op_taken}
use Rattle.mqb_model.specs.records.Record.{RecordOp, Send, Take}
use Rattle.mqb_model.specs.rules.Effects.{Effect}
use Rattle.mqb_model.specs.rules.Notices.{meets}
use Rattle.mqb_model.specs.rules.Numbers.{number_taken}
use Rattle.mqb_model.specs.rules.Sends.{delivered, journalled}
use Rattle.mqb_model.specs.rules.Sequences.{join, may_join, new_sequence, sequence_in_use, with_kept, with_sequence}
use Rattle.mqb_model.specs.rules.Takes.{taken, taken_at}
use Rattle.mqb_model.specs.state.Places.{placed, put_at, with_place}
use Rattle.mqb_model.specs.state.Resolving.{at_peer, at_queue, guid_at, is_host_of, is_own_host, resolved}
use Rattle.mqb_model.specs.state.Rows.{has_ordinal, with_row}
use Rattle.mqb_model.specs.state.State.{State}
use Rattle.mqb_base.specs.Bits.{keeps_copy}
use Rattle.mqb_model.proofs.Mapped.{numbered_mapped, position_mapped}
use Rattle.mqb_model.proofs.Remaining.{changed_plans}
use Rattle.mqb_model.proofs.Walking.{Outlasts, OutlastsLeaving, meets_outlasts, taken_at_outlasts}

-- Names.

pub record Names : Type 0 where
  pub identity : Identity
  pub peers : List Identity
  pub plans : List QueuePlan

abbrev pub names : State → Names
names s = record { identity = s.identity; peers = s.peers; plans = map (λ q. q.plan) s.places.queues }

-- where a name leads
abbrev pub lead : Names → QueueName → Target
lead n (Public guid false) = at_queue (number_at (position (λ plan. option_map_or (same_guid guid) plan.public false) n.plans))
lead n (Private qm number false) = cond (same_guid qm n.identity.guid) (Here (option_map (λ plan. number) (numbered n.plans number)))
    (at_peer (position (λ p. same_guid p.guid qm) n.peers))
lead n (Direct host queue false) = cond (is_own_host n.identity host) (Here (number_at (position (λ plan. same_ignoring_case plan.name queue) n.plans)))
    (at_peer (position (is_host_of host) n.peers))
lead n _ = Nowhere

numbered_plans : (qs : List Queue) (n : ℕ) → option_map (λ q. n) (numbered qs n) ≡ option_map (λ plan. n) (numbered (map (λ q. q.plan) qs) n)
numbered_plans qs n = at (numbered qs n) ∙ ap (option_map (λ plan. n)) (sym (numbered_mapped (λ q. q.plan) qs n))
  where
    at : (o : Option Queue) → option_map (λ q. n) o ≡ option_map (λ plan. n) (option_map (λ q. q.plan) o)
    at None = refl
    at (Some q) = refl

pub lead_is : (s : State) (name : QueueName) → resolved s name ≡ lead (names s) name
lead_is s (Public guid false) = ap (λ o. at_queue (number_at o)) (sym (position_mapped (λ plan. option_map_or (same_guid guid) plan.public false) (λ q. q.plan) s.places.queues))
lead_is s (Private qm number false) = ap (λ o. cond (same_guid qm s.identity.guid) (Here o) (at_peer (position (λ p. same_guid p.guid qm) s.peers))) (numbered_plans s.places.queues number)
lead_is s (Direct host queue false) = ap (λ o. cond (is_own_host s.identity host) (Here (number_at o)) (at_peer (position (is_host_of host) s.peers)))
    (sym (position_mapped (λ plan. same_ignoring_case plan.name queue) (λ q. q.plan) s.places.queues))
lead_is s name = refl

pub lead_same : (s t : State) (name : QueueName) → names s ≡ names t → resolved s name ≡ resolved t name
lead_same s t name e = lead_is s name ∙ ap (λ n. lead n name) e ∙ sym (lead_is t name)

abbrev guid_of : Names → Target → Guid
guid_of n (AtPeer k) = option_map_or (λ p. p.guid) (slice_get n.peers k) n.identity.guid
guid_of n _ = n.identity.guid

guid_is : (s : State) (t : Target) → guid_at s t ≡ guid_of (names s) t
guid_is s (AtPeer k) = refl
guid_is s t = refl

pub guid_same : (s t : State) (to : Target) → names s ≡ names t → guid_at s to ≡ guid_at t to
guid_same s t to e = guid_is s to ∙ ap (λ n. guid_of n to) e ∙ sym (guid_is t to)

-- Sequences.

pub record Core : Type 0 where
  pub names : Names
  pub outs : List Row
  pub next_ordinal : ℕ
  pub roll : ℕ

abbrev pub core : State → Core
core s = record { names = names s; outs = s.outs; next_ordinal = s.next_ordinal; roll = s.roll }

place_core : (s : State) (at : EntryPlace) (g : Lists → Lists) → core (with_place g s at) ≡ core s
place_core s at g = ap (λ plans. record (core s) { names = record (names s) { plans = plans } }) (changed_plans s.places at g)

pub put_core : (s : State) (at : EntryPlace) (m : Message) → core (put_at s at m) ≡ core s
put_core s at m = place_core s at (put (lane_of m.delivery) m)

number_core : (s : State) (x : Delivery) → core (number_taken s x) ≡ core s
number_core s delivery.Express = refl
number_core s x = refl

placed_core : (s : State) (t : Target) (m : Message) → core (placed s t m) ≡ core s
placed_core s (Here (Some n)) m = put_core s (place.Queue n) m
placed_core s t m = refl

-- any message
abbrev pub Any : Message → Type 0
Any m = Unit {0}

pub any_some : (o : Option Message) → IfSome o Any
any_some None = tt
any_some (Some m) = tt

pub all_any : {X : Type 0} (xs : List X) → AllByRecursion (λ x. Unit {0}) xs
all_any [] = tt
all_any (x ∷ xs) = (tt, all_any xs)

pub if_any : {X : Type 0} (Q : X → Type 0) (o : Option X) → ((x : X) → Q x) → IfSome o Q
if_any Q None f = tt
if_any Q (Some x) f = f x

module _ (c : Core) where
  -- a state with this core
  abbrev pub HasCore : State → Type 0
  HasCore s = core s ≡ c

  core_outlasts : Outlasts Any Any HasCore
  core_outlasts = record {
    admin = λ s m class now l known h. any_some _;
    final = λ s peer m class now l h. any_some _;
    told = λ s t n i goes h. placed_core (number_taken s n.delivery) t n ∙ number_core s n.delivery ∙ h;
    dead = λ s m l h. put_core s place.Dead m ∙ h;
    dead_xact = λ s m l h. put_core s place.DeadXact m ∙ h;
  }

  core_leaving : OutlastsLeaving lane.Durable Any HasCore
  core_leaving = record {
    item = λ s at k h. any_some _;
    leaves = λ s at k h. place_core s at (places.without lane.Durable k) ∙ h;
    copy = λ s number m l h. put_core s (place.JournalOf number) m ∙ h;
    waiting = λ s k h. if_any {X = PlainLists} (λ p. AllByRecursion (λ o. Unit {0}) p.recoverable) _ (λ p. all_any p.recoverable);
    dropped = λ index s k h. h;
    queued = λ s k h. if_any {X = Queue} (λ q. AllByRecursion Any q.lists.durable) _ (λ q. all_any q.lists.durable);
  }

  pub meets_core : (s : State) (m : Message) (now : ℕ) → HasCore s → HasCore (meets s m REACHED_QUEUE now)
  meets_core s m now h = meets_outlasts Any Any HasCore core_outlasts s m REACHED_QUEUE now tt refl h

  taken_core : (at : EntryPlace) (id : MessageId) (now : ℕ) (e : Effect) → HasCore e.state → HasCore (taken at id now e).state
  taken_core at id now e h = of (index_named e.state.places at id now)
    where
      of : (o : Option ℕ) → HasCore (option_map_or (λ k. taken_at lane.Durable at k now e) o e).state
      of None = h
      of (Some k) = taken_at_outlasts lane.Durable Any Any HasCore core_outlasts core_leaving at k now e h

  pub takes_core : (now : ℕ) (e : Effect) (ops : List RecordOp) → HasCore e.state → HasCore (fold (op_taken now) e ops).state
  takes_core now e [] h = h
  takes_core now e (Send p ∷ ops) h = takes_core now e ops h
  takes_core now e (Take queue id ∷ ops) h = takes_core now (op_taken now e (Take queue id)) ops (taken_core (place.Queue queue) id now e h)

-- A message joins a sequence by the core alone.

-- the sequence in use
abbrev in_use : Core → ℕ → QueueName → Option Row
in_use c peer destination = option_and_then (λ row. cond (nat_lt row.committed c.roll) (Some row) None) (last_or None (filter (leads_to peer destination) c.outs))

-- a sequence is in use, or an ordinal is left
abbrev may_in : Core → ℕ → QueueName → Bool
may_in c peer destination = is_some (in_use c peer destination) || nat_le c.next_ordinal MAX_ORDINAL

pub may_same : (s t : State) (peer : ℕ) (destination : QueueName) → core s ≡ core t → may_join s peer destination ≡ may_join t peer destination
may_same s t peer destination e = ap (λ c. may_in c peer destination) e

abbrev begin_in : Core → ℕ → ℕ → Message → Row
begin_in c peer now m = with_kept m (record {
  peer = peer;
  destination = m.destination;
  sequence = record { ordinal = c.next_ordinal; stamp = now };
  committed = 0;
  offered = 0;
  acked = 0;
  kept = [];
})

-- the core once a message joined
abbrev join_in : Core → ℕ → ℕ → Message → Core
join_in c peer now m = option_map_or (λ row. record c { outs = with_first_changed (with_kept m) (has_ordinal row.sequence.ordinal) c.outs })
    (in_use c peer m.destination) (record c { outs = c.outs ++ begin_in c peer now m ∷ []; next_ordinal = c.next_ordinal + 1 })

join_core : (s : State) (peer now : ℕ) (m : Message) → core (join s peer now m) ≡ join_in (core s) peer now m
join_core s peer now m = at (sequence_in_use s peer m.destination)
  where
    new : Row
    new = with_kept m (new_sequence s peer m.destination now)

    at : (o : Option Row) → core (option_map_or (λ row. with_row (with_kept m) s row.sequence.ordinal) o (with_sequence s new))
        ≡ option_map_or (λ row. record (core s) { outs = with_first_changed (with_kept m) (has_ordinal row.sequence.ordinal) s.outs }) o
        (record (core s) { outs = s.outs ++ new ∷ []; next_ordinal = s.next_ordinal + 1 })
    at None = refl
    at (Some row) = refl

pub join_same : (s t : State) (peer now : ℕ) (m : Message) → core s ≡ core t → core (join s peer now m) ≡ core (join t peer now m)
join_same s t peer now m e = join_core s peer now m ∙ ap (λ c. join_in c peer now m) e ∙ sym (join_core t peer now m)

pub journalled_core : (s : State) (m : Message) → core (journalled s m) ≡ core s
journalled_core s m = at (keeps_copy m)
  where
    at : (b : Bool) → core (cond b (put_at s place.Journal m) s) ≡ core s
    at true = put_core s place.Journal m
    at false = refl

pub delivered_core : (s : State) (queue : Option ℕ) (m : Message) (now : ℕ) → core (delivered s (Here queue) m now) ≡ core s
delivered_core s None m now = meets_core (core s) s m now refl
delivered_core s (Some n) m now = meets_core (core s) (put_at s (place.Queue n) m) m now (put_core s (place.Queue n) m)

pub join_names : (s : State) (peer now : ℕ) (m : Message) → names (join s peer now m) ≡ names s
join_names s peer now m = at (sequence_in_use s peer m.destination)
  where
    new : Row
    new = with_kept m (new_sequence s peer m.destination now)

    at : (o : Option Row) → names (option_map_or (λ row. with_row (with_kept m) s row.sequence.ordinal) o (with_sequence s new)) ≡ names s
    at None = refl
    at (Some row) = refl

pub join_number : (s : State) (peer now : ℕ) (m : Message) → (join s peer now m).next_number ≡ s.next_number
join_number s peer now m = at (sequence_in_use s peer m.destination)
  where
    new : Row
    new = with_kept m (new_sequence s peer m.destination now)

    at : (o : Option Row) → (option_map_or (λ row. with_row (with_kept m) s row.sequence.ordinal) o (with_sequence s new)).next_number ≡ s.next_number
    at None = refl
    at (Some row) = refl
