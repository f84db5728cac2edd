-- What a worker makes of the message that waits in a queue.
use Rattle.std.specs.Option.{option_map_or}
use Rattle.std.specs.Prelude.{[], ◌&&◌, ◌++◌, ◌∷◌, Bool, List, None, Option, false, is_none}
use Rattle.std.specs.Prelude.{option_and_then, option_map, ℕ}
use Rattle.mqb_base.specs.declared.draft.Op.{Op}
use Rattle.mqb_base.specs.declared.draft.Op.TheVariants as op
use Rattle.mqb_base.specs.declared.draft.Parts.{Parts}
use Rattle.mqb_base.specs.declared.message.Message.{Message}
use Rattle.mqb_base.specs.declared.queue_names.QueueName.{QueueName}
use Rattle.mqb_base.specs.declared.queues.EntryPlace.TheVariants as place
use Rattle.mqb_base.specs.declared.times.TheConstants.{UNLIMITED}
use Rattle.mqb_queue.specs.First.{first_of, is_free}
use Rattle.mqb_queue.specs.Places.{Queue, numbered}
use Rattle.mqb_model.specs.state.Resolving.{queue_named}
use Rattle.mqb_model.specs.state.State.{State}

-- What waits.

-- the queue with a name
abbrev pub queue_by : State → (name : List ℕ) → Option Queue
queue_by s name = option_and_then (numbered s.places.queues) (queue_named s name)

-- the first message of a queue that is not due
abbrev pub waiting_of : (now number : ℕ) → Queue → Option Message
waiting_of now number q = first_of (is_free (place.Queue number) now) q.lists.durable

-- that of the queue of a number
abbrev pub waiting_at : State → (now number : ℕ) → Option Message
waiting_at s now number = option_and_then (waiting_of now number) (numbered s.places.queues number)

-- that of the queue with a name
abbrev pub waiting_in : State → (name : List ℕ) → (now : ℕ) → Option Message
waiting_in s name now = option_and_then (waiting_at s now) (queue_named s name)

-- the queue is there and transactional, and nothing waits in it
abbrev pub is_idle : State → (name : List ℕ) → (now : ℕ) → Bool
is_idle s name now = is_none (waiting_in s name now)
    && option_map_or (λ q. q.plan.transactional) (queue_by s name) false

-- The reply.

-- what is made of a body: it stands behind a prefix
abbrev pub prefixed : (prefix body : List ℕ) → List ℕ
prefixed prefix body = prefix ++ body

-- the reply to a message, by what is made of its body
abbrev pub reply_to : (List ℕ → List ℕ) → Message → QueueName → Parts
reply_to h m to = record {
  destination = to;
  priority = 0;
  reach = UNLIMITED;
  life = UNLIMITED;
  admin = None;
  response = None;
  ack = 0;
  journal = 0;
  correlation = m.id;
  body_type = 0;
  tag = 0;
  label = [];
  extension = [];
  body = h m.body;
}

-- the reply to what waits, where it asks for one
abbrev pub reply_for : (List ℕ → List ℕ) → Option Message → Option Parts
reply_for h waiting = option_and_then (λ m. option_map (reply_to h m) m.response) waiting

-- The work.

-- a reply is sent, where there is one
abbrev pub sends : Option Parts → List Op
sends reply = option_map_or (λ p. op.Send p ∷ []) reply []

-- what waits is taken, and its reply is sent
abbrev pub work_with : (name : List ℕ) → (List ℕ → List ℕ) → Option Message → List Op
work_with name h waiting = op.Take name ∷ sends (reply_for h waiting)

-- The ops of a worker at a moment. Where nothing waits that is a take, which is refused.
abbrev pub work : State → (name : List ℕ) → (List ℕ → List ℕ) → (now : ℕ) → List Op
work s name h now = work_with name h (waiting_in s name now)
