-- What a call does to express messages and to marks, beside its record and after it.
use Rattle.std.specs.Prelude.{List, Option, filter, fold, map, not, ℕ}
use Rattle.mqb_base.specs.declared.class.Class.{Class}
use Rattle.mqb_base.specs.declared.heads.SessionHead.{SessionHead}
use Rattle.mqb_base.specs.declared.message.Delivery.TheVariants.{Express}
use Rattle.mqb_base.specs.declared.message.Lane.{Lane}
use Rattle.mqb_base.specs.declared.message.Lane.TheVariants as lane
use Rattle.mqb_base.specs.declared.message.Message.{Message}
use Rattle.mqb_base.specs.declared.queues.EntryPlace.{EntryPlace}
use Rattle.mqb_plain.specs.Lists.{is_sent_by, marked_next, unmarked}
use Rattle.mqb_plain.specs.Plain.{PlainLists, outgoing_in, with_outgoing}
use Rattle.mqb_model.specs.rules.Effects.{begun}
use Rattle.mqb_model.specs.rules.Notices.{arrived}
use Rattle.mqb_model.specs.rules.Numbers.{number_taken}
use Rattle.mqb_model.specs.rules.Purges.{purged}
use Rattle.mqb_model.specs.rules.Sends.{plain_sent}
use Rattle.mqb_model.specs.rules.Takes.{taken_at}
use Rattle.mqb_model.specs.rules.Timeouts.{lane_ticked}
use Rattle.mqb_model.specs.state.Places.{with_plain}
use Rattle.mqb_model.specs.state.State.{State}

-- where a packet of a pump comes from: an incoming row that owes an acknowledgement, the plain
-- messages for the peer, or a number of an outgoing row
pub data Origin : Type 0 where
  Owed : (row : ℕ) → Origin
  OfRecoverable : Origin
  OfExpress : Origin
  OfRow : (row number : ℕ) → Origin

-- one of these, or nothing
pub data Beside : Type 0 where
  Nothing : Beside
  -- an express message is sent, under the next express number
  SendsExpress : (now : ℕ) → Message → Beside
  -- the express message of a place at an index is taken
  TakesExpress : (now : ℕ) → EntryPlace → (index : ℕ) → Beside
  -- the express messages of a place are purged
  PurgesExpress : (now : ℕ) → EntryPlace → Beside
  -- the express messages that are due leave
  TicksExpress : (now : ℕ) → Beside
  -- no plain message counts as sent any more
  Unmarks : Beside
  -- the express messages for a peer that it acknowledged up to a number leave
  DropsExpress : (peer number : ℕ) → Beside
  -- they leave, and then an express message arrives, or is refused
  HearsExpress : (peer number : ℕ) → (now : ℕ) → Message → Option Class → Beside
  -- packets were sent to a peer with these session headers
  NotesSent : (peer : ℕ) → List (Origin × SessionHead) → Beside

-- an express message takes its number and is sent
abbrev pub express_sent : State → Message → ℕ → State
express_sent s m now = plain_sent (number_taken s Express) m now

-- no plain message of a peer counts as sent
abbrev pub all_unmarked : PlainLists → PlainLists
all_unmarked p = record { recoverable = unmarked p.recoverable; express = unmarked p.express }

-- the express messages that were acknowledged up to a number leave
abbrev pub without_acked : ℕ → PlainLists → PlainLists
without_acked number p = record p { express = filter (λ o. not (is_sent_by number o)) p.express }

-- the first unsent message of a lane was sent with a number
abbrev pub with_marked : Lane → ℕ → PlainLists → PlainLists
with_marked kind number p = with_outgoing kind (marked_next number (outgoing_in kind p)) p

-- An acknowledgement took a number. A plain message has the number that its header gives its list.
abbrev pub noted_as : ℕ → SessionHead → State → Origin → State
noted_as peer head s (Owed row) = number_taken s Express
noted_as peer head s OfRecoverable = with_plain (with_marked lane.Durable head.recoverable) s peer
noted_as peer head s OfExpress = with_plain (with_marked lane.Express head.user) s peer
noted_as peer head s (OfRow row number) = s

-- one packet more is noted
abbrev pub noted : ℕ → State → Origin × SessionHead → State
noted peer s given = noted_as peer given.1 s given.0

-- what it leaves
abbrev pub beside_done : Beside → State → State
beside_done Nothing s = s
beside_done (SendsExpress now m) s = express_sent s m now
beside_done (TakesExpress now at index) s = (taken_at lane.Express at index now (begun s)).state
beside_done (PurgesExpress now at) s = (purged lane.Express at now (begun s)).state
beside_done (TicksExpress now) s = (lane_ticked lane.Express now (begun s)).state
beside_done Unmarks s = record s { plain = map all_unmarked s.plain }
beside_done (DropsExpress peer number) s = with_plain (without_acked number) s peer
beside_done (HearsExpress peer number now m refusal) s =
    arrived (with_plain (without_acked number) s peer) m now refusal
beside_done (NotesSent peer sent) s = fold (noted peer) s sent
