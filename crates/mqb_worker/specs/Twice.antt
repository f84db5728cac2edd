-- No message is taken twice, in a run of a network.
use Rattle.std.specs.Prelude.{◌≤◌}
use Rattle.mqb_base.specs.declared.ids.MessageId.{MessageId}
use Rattle.mqb_exactly_once.specs.Words.{In}
use Rattle.mqb_history.specs.Copies.{left_in, sent_in, times}
use Rattle.mqb_history.specs.Truths.{told_by}
use Rattle.mqb_network.specs.Courses.{Course}
use Rattle.mqb_network.specs.Laws.{Always, lines_written}

-- What was sent in a transaction, or put where it was sent, leaves a queue once at most, of all
-- queues of all managers: it is taken, purged or swept.
abbrev pub IsLeftOnce : Course → Type 0
IsLeftOnce c =
    (id : MessageId) → In id (told_by sent_in c) → times left_in id (lines_written c.written) ≤ 1

-- So it is at each point of each run, whoever takes.
abbrev pub NoneIsTakenTwice : Type 0
NoneIsTakenTwice = Always IsLeftOnce
