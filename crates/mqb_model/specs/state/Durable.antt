-- What of a state its store stands for. A restart leaves this alone.
use Rattle.std.specs.Prelude.{[], map}
use Rattle.mqb_plain.specs.Lists.{unmarked}
use Rattle.mqb_plain.specs.Plain.{PlainLists}
use Rattle.mqb_queue.specs.Lists.{Lists}
use Rattle.mqb_queue.specs.Places.{Places, Queue}
use Rattle.mqb_model.specs.declared.limits.TheConstants.{FIRST_EXPRESS}
use Rattle.mqb_model.specs.state.State.{State}

-- of a place its durable messages
abbrev pub durable_lists : Lists → Lists
durable_lists l = record l { express = [] }

-- of a queue those of itself and of its journal
abbrev pub durable_queue : Queue → Queue
durable_queue q = record q { lists = durable_lists q.lists; journal = durable_lists q.journal }

-- of all places theirs
abbrev pub durable_places : Places → Places
durable_places p = record {
  queues = map durable_queue p.queues;
  dead = durable_lists p.dead;
  dead_xact = durable_lists p.dead_xact;
  journal = durable_lists p.journal;
}

-- of the plain messages for a peer the recoverable ones, as if none was sent yet
abbrev pub durable_plain : PlainLists → PlainLists
durable_plain p = record { recoverable = unmarked p.recoverable; express = [] }

-- the state without express messages and marks
abbrev pub durable : State → State
durable s = record s {
  plain = map durable_plain s.plain;
  places = durable_places s.places;
  next_express = FIRST_EXPRESS;
}
