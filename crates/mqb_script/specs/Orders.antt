-- The events of a script with orders in it.
use Rattle.std.specs.Fmt.{decimal}
use Rattle.std.specs.List.{filter_map, flat_map, range_with_len}
use Rattle.std.specs.Prelude.{[], ◌*◌, ◌+◌, ◌++◌, ◌-◌, ◌/◌, ◌==◌, ◌∷◌, Bool, List, None, Option}
use Rattle.std.specs.Prelude.{Some, codes, false, if◌then◌else◌, nat_le, true, ℕ}
use Rattle.mqb_base.specs.declared.draft.Op.{Op}
use Rattle.mqb_base.specs.declared.draft.Op.TheVariants as op
use Rattle.mqb_base.specs.declared.queue_names.Host.TheVariants.{Os}
use Rattle.mqb_base.specs.declared.queue_names.QueueName.{QueueName}
use Rattle.mqb_base.specs.declared.queue_names.QueueName.TheVariants.{Direct}
use Rattle.mqb_base.specs.declared.queues.QueuePlan.{QueuePlan}
use Rattle.mqb_outside.specs.declared.power.Pick.TheVariants.{Old}
use Rattle.mqb_forms.specs.Sends.{parts_of}
use Rattle.mqb_forms.specs.Values.{MOST}
use Rattle.mqb_forms.specs.declared.sends.Names.{Names}
use Rattle.mqb_forms.specs.declared.sends.Terms.{Terms}
use Rattle.mqb_script.specs.declared.events.Event.{Event}
use Rattle.mqb_script.specs.declared.events.Event.TheVariants.{Commit, Connect, Disconnect, Flow}
use Rattle.mqb_script.specs.declared.events.Event.TheVariants.{Queue, Restart}
use Rattle.mqb_script.specs.Managers.{index_of}
use Rattle.mqb_script.specs.declared.managers.Which.TheVariants.{Alpha, Beta}
use Rattle.mqb_transcript.specs.Generator.{block_count, moment_of}

-- a queue by its host
abbrev pub queue_at : List ℕ → List ℕ → QueueName
queue_at host queue = Direct (Os host) queue false

abbrev pub replies_at : QueueName
replies_at = queue_at (codes "alpha") (codes "replies")

-- from where an order goes, and to where it is answered
abbrev pub order_names : Names
order_names = record {
  destination = queue_at (codes "beta") (codes "orders");
  admin = Some replies_at;
  response = Some replies_at;
}

-- four days, unlimited, and the acknowledgements that are asked for
abbrev pub order_terms : Terms
order_terms = record { reach = 345600; life = MOST; flags = 20 }

abbrev pub order_body : ℕ → List ℕ
order_body k = codes "order-" ++ decimal k

abbrev pub order : ℕ → Op
order k = op.Send (parts_of 0 order_names order_terms (order_body k))

-- it is one of n orders
abbrev pub order_within : ℕ → ℕ → Option Op
order_within n k = if nat_le k n then Some (order k) else None

-- the orders of a block
abbrev pub orders_in : ℕ → ℕ → List Op
orders_in n block = filter_map (order_within n) (range_with_len (4 * block - 3) 4)

abbrev pub alpha : ℕ
alpha = index_of Alpha

abbrev pub beta : ℕ
beta = index_of Beta

abbrev pub connection_at : ℕ → Event
connection_at moment = Connect alpha beta moment 64 64

-- where it is said, the connection ends by an event and a new one begins
abbrev pub broken_by : Bool → Event → ℕ → List Event
broken_by here e moment = if here then e ∷ connection_at moment ∷ [] else []

abbrev pub breaks_in : ℕ → ℕ → List Event
breaks_in count block = broken_by (block == count / 4 + 1) (Disconnect alpha) (moment_of block)
    ++ broken_by (block == count / 2 + 1) (Restart alpha Old) (moment_of block)
    ++ broken_by (block == 3 * count / 4 + 1) (Restart beta Old) (moment_of block)
    ++ broken_by (block == count) (Disconnect alpha) (moment_of block)

abbrev pub flows_at : ℕ → List Event
flows_at moment = Flow alpha moment ∷ Flow beta moment ∷ Flow alpha moment ∷ []

abbrev pub block_of : ℕ → ℕ → List Event
block_of n block = Commit alpha (moment_of block) (orders_in n block)
    ∷ (breaks_in (block_count n) block ++ flows_at (moment_of block))

abbrev pub plan_of : List ℕ → (transactional : Bool) → QueuePlan
plan_of name transactional = record {
  name = name;
  public = None;
  transactional = transactional;
  quota = 100000;
  journal = false;
}

abbrev pub head_events : List Event
head_events = Queue alpha (plan_of (codes "replies") false)
    ∷ Queue beta (plan_of (codes "orders") true) ∷ connection_at 1000 ∷ []

-- those of the script of n orders
abbrev pub events_of : ℕ → List Event
events_of n = head_events ++ flat_map (block_of n) (range_with_len 1 (block_count n))
