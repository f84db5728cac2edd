-- How often messages came to queues, left them, and stand there.
use Rattle.std.specs.Prelude.{◌+◌, ◌<◌, ◌≡◌, ◌≤◌, List, None, Option, Some, count_by, filter_map}
use Rattle.std.specs.Prelude.{max, sum_by, ℕ}
use Rattle.mqb_base.specs.Same.{same_id}
use Rattle.mqb_base.specs.declared.ids.MessageId.{MessageId}
use Rattle.mqb_base.specs.declared.ledger.Line.{Line}
use Rattle.mqb_base.specs.declared.ledger.Line.TheVariants as line
use Rattle.mqb_exactly_once.specs.Words.{In}
use Rattle.mqb_model.specs.declared.limits.TheConstants.{FIRST_EXPRESS}
use Rattle.mqb_network.specs.Courses.{Course}
use Rattle.mqb_network.specs.Laws.{Always, lines_written}
use Rattle.mqb_queue.specs.Places.{Queue}
use Rattle.mqb_history.specs.Truths.{all_of, committed_in, put_in, told_by}

-- What lines say of messages.

-- it joined a stream, or was put where it was sent
abbrev pub sent_in : Line → Option MessageId
sent_in (line.Committed stream number id) = Some id
sent_in (line.Local id) = Some id
sent_in _ = None

-- it came to a queue
abbrev pub came_in : Line → Option MessageId
came_in (line.Put stream number id) = Some id
came_in (line.Stored id) = Some id
came_in (line.Local id) = Some id
came_in _ = None

-- it left one: it was taken, purged, or swept
abbrev pub left_in : Line → Option MessageId
left_in (line.Took id) = Some id
left_in (line.Purged id) = Some id
left_in (line.Swept id) = Some id
left_in _ = None

-- how often lines say so
abbrev pub times : (Line → Option MessageId) → MessageId → List Line → ℕ
times kind id ledger = count_by (same_id id) (filter_map kind ledger)

-- how many messages of a queue bear an identifier
abbrev pub bearing : MessageId → Queue → ℕ
bearing id q = count_by (λ m. same_id id m.id) (all_of q.lists)

-- and how many of all queues of all managers
abbrev pub standing : MessageId → Course → ℕ
standing id c = sum_by (λ m. sum_by (bearing id) m.state.places.queues) c.network.managers

-- Unless a message is express, no more copies of it stand in queues, or left them, than lines
-- say came to queues; and where no line says so of a message, which is a notice that was put
-- where it was made, one.
abbrev pub AreCopiesTold : Course → Type 0
AreCopiesTold c = (id : MessageId) → id.number < FIRST_EXPRESS
    → standing id c + times left_in id (lines_written c.written)
    ≤ max 1 (times came_in id (lines_written c.written))

-- What was sent in a transaction, or put where it was sent, comes to a queue once at most.
abbrev pub IsSentOnce : Course → Type 0
IsSentOnce c =
    (id : MessageId) → In id (told_by sent_in c) → times came_in id (lines_written c.written) ≤ 1

-- What joined a stream and was not put stands in no queue, and left none.
abbrev pub IsNoneUnput : Course → Type 0
IsNoneUnput c = (id : MessageId) → In id (told_by committed_in c) → (In id (told_by put_in c) → ⊥)
    → standing id c + times left_in id (lines_written c.written) ≡ 0

-- Queues have, and let go, no more than came to them: each message that is sent in a transaction,
-- or put where it is sent, is in one queue at most, once, and leaves it once.
pub record AreCopiesRight (c : Course) : Type 0 where
  pub told : AreCopiesTold c
  pub once : IsSentOnce c
  pub unput : IsNoneUnput c

-- So it is at each point of each run.
abbrev pub AlwaysCopiedRightly : Type 0
AlwaysCopiedRightly = Always AreCopiesRight
