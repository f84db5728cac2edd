use Rattle.std.specs.Prelude.{◌≡◌, ℕ, suc, ◌<◌, ◌≤◌, max}
use Rattle.std.specs.Prelude.{IsTrue, IsFalse, true, false, ◌==◌, List, ◌∷◌, Some, if◌then◌else◌, ⊤}
use Rattle.mqb_base.specs.declared.ids.SequenceId.{SequenceId}
use Rattle.mqb_base.specs.declared.message.Message.{Message}
use Rattle.mqb_base.specs.Sequences.{same_sequence, earlier}
use Rattle.mqb_orders.specs.declared.judging.Verdict.{Verdict}
use Rattle.mqb_orders.specs.declared.judging.Verdict.TheVariants.{Next}
use Rattle.mqb_orders.specs.Judging.{verdict_of}
use Rattle.mqb_exactly_once.specs.Outcomes.{Outcome, Put, Refused, Departure, Was_put}
use Rattle.mqb_exactly_once.specs.Outcomes.{Was_refused, is_late}
use Rattle.mqb_exactly_once.specs.World.{Position, Commitment, Decision, KnownFate, Transfer}
use Rattle.mqb_exactly_once.specs.World.{OrderAck, FinalAck, StreamWorld}
use Rattle.mqb_exactly_once.specs.Words.{In, position_of, kept, count, previous, newest, row}
use Rattle.mqb_exactly_once.specs.Words.{due, carried}

-- A step carries its choices.
pub data StreamStep : Type 0 where
  -- a message joins the last sequence, or begins a later one
  Commit : (sequence : SequenceId) → (message : Message) → StreamStep
  -- a message's time to reach its queue is over before it was offered
  Expire : (commitment : Commitment) → (moment : ℕ) → StreamStep
  -- the messages of a sequence up to this one may be sent from now on, and no longer expire
  Offer : (position : Position) → StreamStep
  Send : (commitment : Commitment) → (moment : ℕ) → StreamStep
  -- a packet is heard, and this is decided where it is next
  Arrive : (packet : Transfer) → (outcome : Outcome) → StreamStep
  -- a message that was put leaves its queue
  Fate : (position : Position) → (departure : Departure) → StreamStep
  -- the destination acknowledges what it decided last, and the source hears it
  Acknowledge : (position : Position) → StreamStep
  Acknowledged : (packet : OrderAck) → StreamStep
  -- the destination tells a fate, and the source hears it
  Tell : (fate : KnownFate) → StreamStep
  Told : (packet : FinalAck) → StreamStep
  Connect : StreamStep
  -- the connection ends, or a manager crashes
  End : StreamStep

-- the marks, where the mark of p's sequence becomes p's number
abbrev pub marked : Position → (SequenceId → ℕ) → SequenceId → ℕ
marked p marks s = if same_sequence p.sequence s then p.number else marks s

-- the marks, where it becomes the greater of the two
abbrev pub raised : Position → (SequenceId → ℕ) → SequenceId → ℕ
raised p marks s = if same_sequence p.sequence s then max (marks s) p.number else marks s

-- the next message of a sequence
abbrev pub commitment : StreamWorld → SequenceId → Message → Commitment
commitment w s m =
    record { position = record { sequence = s; number = suc (count w.committed s) }; message = m }

-- the packet that carries a message at a moment
abbrev pub transfer : StreamWorld → Commitment → ℕ → Transfer
transfer w c moment = record {
  head = record {
    sequence = c.position.sequence;
    number = c.position.number;
    previous = previous w c.position.sequence c.position.number;
  };
  message = carried c.message moment;
  sent_at = moment;
  connection = w.connection;
}

abbrev pub decision : Transfer → Outcome → Decision
decision p outcome =
    record { position = position_of p.head; message = p.message; outcome = outcome }

-- a packet that is next is decided, and no other
abbrev pub decided_after : Verdict → Decision → List Decision → List Decision
decided_after Next d decided = d ∷ decided
decided_after _ d decided = decided

-- a refusal is the message's fate
abbrev pub fates_after : Verdict → Position → Outcome → List KnownFate → List KnownFate
fates_after Next p (Refused reason) fates =
    record { position = p; fate = Was_refused reason } ∷ fates
fates_after _ p _ fates = fates

abbrev pub verdict : StreamWorld → Transfer → Verdict
verdict w p = verdict_of (row w.channel w.decided) p.head

-- the world after a step
abbrev pub happens : StreamWorld → StreamStep → StreamWorld
happens w (Commit s m) = record w { committed = commitment w s m ∷ w.committed }
happens w (Expire c moment) =
    record w { expired = record { position = c.position; moment = moment } ∷ w.expired }
happens w (Offer p) = record w { offered = marked p w.offered }
happens w (Send c moment) = record w { transfers = transfer w c moment ∷ w.transfers }
happens w (Arrive p outcome) = record w {
  decided = decided_after (verdict w p) (decision p outcome) w.decided;
  fates = fates_after (verdict w p) (position_of p.head) outcome w.fates;
}
happens w (Fate p departure) =
    record w { fates = record { position = p; fate = Was_put departure } ∷ w.fates }
happens w (Acknowledge p) =
    record w { order_acks = record { position = p; connection = w.connection } ∷ w.order_acks }
happens w (Acknowledged a) = record w { acknowledged = marked a.position w.acknowledged }
happens w (Tell f) = record w {
  final_acks =
      record { position = f.position; fate = f.fate; connection = w.connection } ∷ w.final_acks;
}
happens w (Told a) = record w { acknowledged = raised a.position w.acknowledged }
happens w Connect = record w { connection = suc w.connection; connected = true }
happens w End = record w { connected = false }

-- of each earlier sequence, each kept number is acknowledged
abbrev pub EarlierAcknowledged : StreamWorld → SequenceId → Type 0
EarlierAcknowledged w s = (p : Position) → IsTrue (earlier p.sequence s) → IsTrue (kept w p)
    → p.number ≤ w.acknowledged p.sequence

-- a packet of the connection that stands
abbrev pub IsPresent : StreamWorld → ℕ → Type 0
IsPresent w connection = IsTrue w.connected × (connection ≡ w.connection)

-- the step can happen
abbrev pub May : StreamWorld → StreamStep → Type 0
May w (Commit s m) = (c : Commitment) → In c w.committed → IsFalse (earlier s c.position.sequence)
May w (Expire c moment) =
    In c w.committed
    × IsTrue (kept w c.position)
    × (w.offered c.position.sequence < c.position.number)
    × IsTrue (due c.message moment)
May w (Offer p) =
    IsTrue (kept w p) × (w.offered p.sequence < p.number) × EarlierAcknowledged w p.sequence
May w (Send c moment) =
    IsTrue w.connected
    × In c w.committed
    × IsTrue (kept w c.position)
    × (w.acknowledged c.position.sequence < c.position.number)
    × (c.position.number ≤ w.offered c.position.sequence)
May w (Arrive p outcome) =
    IsPresent w p.connection × In p w.transfers × (is_late outcome ≡ (p.message.reach == 0))
May w (Fate p departure) = (d : Decision) × In d w.decided × (d.position ≡ p) × (d.outcome ≡ Put)
May w (Acknowledge p) = IsTrue w.connected × (newest w.decided ≡ Some p)
May w (Acknowledged a) =
    IsPresent w a.connection
    × In a w.order_acks
    × (w.acknowledged a.position.sequence < a.position.number)
    × (a.position.number ≤ w.offered a.position.sequence)
May w (Tell f) = IsTrue w.connected × In f w.fates
May w (Told a) = IsPresent w a.connection × In a w.final_acks
May w Connect = IsFalse w.connected
May w End = ⊤
