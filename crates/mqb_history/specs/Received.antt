-- What notices say of messages that left their queues is true.
use Rattle.std.specs.Prelude.{◌<◌, ◌≡◌, ◌≤◌, IsTrue, None, Option, Some, nat_le}
use Rattle.mqb_base.specs.declared.ids.MessageId.{MessageId}
use Rattle.mqb_base.specs.declared.ledger.Line.{Line}
use Rattle.mqb_base.specs.declared.ledger.Line.TheVariants as line
use Rattle.mqb_base.specs.declared.message.Message.{Message}
use Rattle.mqb_exactly_once.specs.Words.{In}
use Rattle.mqb_model.specs.declared.limits.TheConstants.{FIRST_EXPRESS}
use Rattle.mqb_network.specs.Courses.{Course}
use Rattle.mqb_network.specs.Laws.{Always, lines_written}
use Rattle.mqb_history.specs.Copies.{came_in, sent_in, times}
use Rattle.mqb_history.specs.Truths.{noticed, told_by}

-- a message says that another one left its queue and was not received
abbrev pub Misses : MessageId → Message → Type 0
Misses id m = (m.correlation ≡ id) × IsTrue (nat_le 0xC000 m.class.0)

-- What lines say of messages.

-- it was purged, or its time to be received was over
abbrev pub missed_in : Line → Option MessageId
missed_in (line.Purged id) = Some id
missed_in (line.Swept id) = Some id
missed_in _ = None

abbrev pub taken_in : Line → Option MessageId
taken_in (line.Took id) = Some id
taken_in _ = None

-- A notice that a message was not received names one that was purged, or swept, or an express one.
abbrev pub AreMissesTrue : Course → Type 0
AreMissesTrue c =
    (m : Message) (id : MessageId) → In m (noticed c) → Misses id m → id.number < FIRST_EXPRESS
    → In id (told_by missed_in c)

-- None of those that were sent in a transaction, or put where they were sent, is express.
abbrev pub AreSentDurable : Course → Type 0
AreSentDurable c = (id : MessageId) → In id (told_by sent_in c) → id.number < FIRST_EXPRESS

-- Of those none that was purged, or swept, was ever taken.
abbrev pub IsNoMissTaken : Course → Type 0
IsNoMissTaken c = (id : MessageId) → In id (told_by sent_in c) → In id (told_by missed_in c)
    → In id (told_by taken_in c) → ⊥

-- And none that such a notice names was.
abbrev pub IsNoMissReceived : Course → Type 0
IsNoMissReceived c = (m : Message) (id : MessageId) → In m (noticed c) → Misses id m
    → In id (told_by sent_in c) → In id (told_by taken_in c) → ⊥

-- What a notice of a message that was not received says is so: it left its queue by a
-- purge or a sweep. And where the message was sent in a transaction, or put where it was
-- sent, it was never taken.
pub record IsReceivedTruly (c : Course) : Type 0 where
  pub misses : AreMissesTrue c
  pub durable : AreSentDurable c
  pub not_taken : IsNoMissTaken c
  pub not_received : IsNoMissReceived c

-- Such notices tell the truth, at each point of each run.
abbrev pub AlwaysReceivedTruly : Type 0
AlwaysReceivedTruly = Always IsReceivedTruly

-- So do those of plain messages that went in packets, where such a message came to a queue once:
-- the message that is named was never taken.
abbrev pub IsPlainReceivedTruly : Course → Type 0
IsPlainReceivedTruly c =
    (m : Message) (id : MessageId) → In m (noticed c) → Misses id m → id.number < FIRST_EXPRESS
    → times came_in id (lines_written c.written) ≤ 1 → In id (told_by taken_in c) → ⊥

abbrev pub AlwaysReceivedTrulyOfPlain : Type 0
AlwaysReceivedTrulyOfPlain = Always IsPlainReceivedTruly
