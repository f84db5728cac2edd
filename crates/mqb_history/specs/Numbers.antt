-- Whatever lines name, and whatever message there is, has a number that a manager gave.
use Rattle.std.specs.Prelude.{◌<◌, ◌≡◌, IsFalse, Option, Some, length, ℕ}
use Rattle.mqb_base.specs.declared.ids.MessageId.{MessageId}
use Rattle.mqb_base.specs.declared.ledger.Line.{Line}
use Rattle.mqb_base.specs.declared.ledger.Line.TheVariants as line
use Rattle.mqb_base.specs.declared.message.Message.{Message}
use Rattle.mqb_exactly_once.specs.Words.{In}
use Rattle.mqb_fate.specs.Asking.{is_ordinary}
use Rattle.mqb_model.specs.state.Places.{is_express}
use Rattle.mqb_network.specs.Courses.{Course}
use Rattle.mqb_network.specs.Network.{manager_at}
use Rattle.mqb_history.specs.Truths.{committed_in, noticed, told_by}

-- the message that a line names
abbrev pub named_in : Line → Option MessageId
named_in (line.Committed stream number id) = Some id
named_in (line.Expired stream number id moment) = Some id
named_in (line.Put stream number id) = Some id
named_in (line.Refused stream number class id) = Some id
named_in (line.Local id) = Some id
named_in (line.Stored id) = Some id
named_in (line.Bounced class id) = Some id
named_in (line.Released id) = Some id
named_in (line.Took id) = Some id
named_in (line.Purged id) = Some id
named_in (line.Lapsed id) = Some id
named_in (line.Swept id) = Some id
named_in (line.Emptied id) = Some id

-- A manager gave the number of an identifier: that is its own, and below the next number.
pub record HasNumber (c : Course) (id : MessageId) : Type 0 where
  pub by : ℕ
  pub there : by < length c.network.managers
  pub source : id.qm ≡ (manager_at c.network by).state.identity.guid
  pub below : id.number < (manager_at c.network by).state.next_number

-- so it is with what a line names
abbrev pub AreLinesNumbered : Course → Type 0
AreLinesNumbered c = (id : MessageId) → In id (told_by named_in c) → HasNumber c id

-- and with each message that a manager has, or that went in a packet, unless it is express
abbrev pub AreMessagesNumbered : Course → Type 0
AreMessagesNumbered c =
    (m : Message) → In m (noticed c) → IsFalse (is_express m.delivery) → HasNumber c m.id

-- So it is with the message of which a notice tells, unless that is express.
abbrev pub AreCorrelationsNumbered : Course → Type 0
AreCorrelationsNumbered c = (m : Message) → In m (noticed c) → IsFalse (is_ordinary m)
    → IsFalse (is_express m.delivery) → HasNumber c m.correlation

-- And no notice bears the identifier of a message that joined a stream.
abbrev pub AreNoticesApart : Course → Type 0
AreNoticesApart c = (m : Message) → In m (noticed c) → IsFalse (is_ordinary m)
    → In m.id (told_by committed_in c) → ⊥
