-- What the destination of a channel knows of the fates of messages.
use Rattle.std.specs.Prelude.{◌≡◌, List}
use Rattle.mqb_base.specs.declared.ids.MessageId.{MessageId}
use Rattle.mqb_base.specs.declared.ledger.Line.{Line}
use Rattle.mqb_base.specs.declared.ledger.Line.TheVariants as line
use Rattle.mqb_exactly_once.specs.Outcomes.{Departure, MessageFate, Put, Queue_purged}
use Rattle.mqb_exactly_once.specs.Outcomes.{Receive_timeout, Received, Refused}
use Rattle.mqb_exactly_once.specs.Outcomes.{Was_put, Was_refused}
use Rattle.mqb_exactly_once.specs.Words.{In}
use Rattle.mqb_exactly_once.specs.World.{Decision, KnownFate}

-- the line of a message that left its queue
abbrev pub departure_line : Departure → MessageId → Line
departure_line Received id = line.Took id
departure_line Queue_purged id = line.Purged id
departure_line Receive_timeout id = line.Swept id

-- what was decided came to this: it was refused so, or it was put and a line tells
-- how it left its queue
abbrev pub CameTo : List Line → Decision → MessageFate → Type 0
CameTo ledger d (Was_refused reason) = d.outcome ≡ Refused reason
CameTo ledger d (Was_put departure) =
    (d.outcome ≡ Put) × In (departure_line departure d.message.id) ledger

-- The fates that are known are those to which decisions came by these lines, and no others.
pub record ShowsFates (ledger : List Line) (decided : List Decision)
    (fates : List KnownFate) : Type 0 where
  pub told : (f : KnownFate) → In f fates
      → (d : Decision) × In d decided × (d.position ≡ f.position) × CameTo ledger d f.fate
  pub known : (d : Decision) (fate : MessageFate) → In d decided → CameTo ledger d fate
      → In (record { position = d.position; fate = fate }) fates
