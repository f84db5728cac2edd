-- What a queue gets is the message that was committed.
use Rattle.std.specs.Prelude.{◌++◌, ◌∷◌, ◌≡◌, List, Some, ℕ}
use Rattle.mqb_base.specs.declared.ids.MessageId.{MessageId}
use Rattle.mqb_base.specs.declared.ledger.Line.TheVariants as line
use Rattle.mqb_base.specs.declared.ledger.Stream.{Stream}
use Rattle.mqb_base.specs.declared.message.Lane.TheVariants as lane
use Rattle.mqb_base.specs.declared.message.Message.{Message}
use Rattle.mqb_base.specs.declared.queues.EntryPlace.TheVariants as place
use Rattle.mqb_exactly_once.specs.Words.{In}
use Rattle.mqb_exactly_once.specs.World.{Commitment}
use Rattle.mqb_model.specs.declared.target.Target.TheVariants.{Here}
use Rattle.mqb_model.specs.records.Applying.{apply, lines_of}
use Rattle.mqb_model.specs.state.Resolving.{resolved}
use Rattle.mqb_model.specs.state.State.{State}
use Rattle.mqb_network.specs.Courses.{Course, Written}
use Rattle.mqb_network.specs.Laws.{Always}
use Rattle.mqb_network.specs.Network.{manager_at}
use Rattle.mqb_queue.specs.Lists.{Lists, put}
use Rattle.mqb_queue.specs.Places.{lists_at}
use Rattle.mqb_history.specs.Committed.{commitments}
use Rattle.mqb_history.specs.Decided.{written_of}
use Rattle.mqb_history.specs.Told.{Joined, joined_by}

-- From one state to another a message joined the queue to which its destination leads, at the end
-- of the durable messages.
pub record JoinsQueue (s t : State) (m : Message) : Type 0 where
  pub queue : ℕ
  pub leads : resolved s m.destination ≡ Here (Some queue)
  pub lists : Lists
  pub before : lists_at s.places (place.Queue queue) ≡ Some lists
  pub after : lists_at t.places (place.Queue queue) ≡ Some (put lane.Durable m lists)

-- What a record puts was committed by the source of its stream before. It is the same in every
-- field but the time to reach its queue.
pub record PutsCommitted (c : Course) (before : List Written) (w : Written)
    (told : Joined) : Type 0 where
  pub source : ℕ
  pub commitment : Commitment
  pub there : In commitment (commitments (written_of source before))
  pub joined : joined_by (manager_at c.network source).state.identity.guid commitment ≡ told
  pub reach : ℕ
  pub joins :
      JoinsQueue w.before (apply w.before w.entry) (record commitment.message { reach = reach })

-- Each Put line tells of a message that was committed, and that its record brought
-- to the end of a queue.
abbrev pub ArePutTruly : Course → Type 0
ArePutTruly c =
    (before behind : List Written) (w : Written) (stream : Stream) (number : ℕ) (id : MessageId)
    → c.written ≡ before ++ w ∷ behind → In (line.Put stream number id) (lines_of w.before w.entry)
    → PutsCommitted c before w (record { stream = stream; number = number; id = id })

-- What a queue gets is the committed message.
abbrev pub PutIsTheCommittedMessage : Type 0
PutIsTheCommittedMessage = Always ArePutTruly
