-- Which messages there are beside notices and express ones: those that were sent.
use Rattle.std.specs.Prelude.{[], ◌∷◌, ◌≡◌, ◌≤◌, IsFalse, IsTrue, List, count_by, flat_map}
use Rattle.mqb_base.specs.Same.{same_id}
use Rattle.mqb_base.specs.declared.ids.MessageId.{MessageId}
use Rattle.mqb_base.specs.declared.message.Message.{Message}
use Rattle.mqb_exactly_once.specs.Words.{In}
use Rattle.mqb_fate.specs.Asking.{is_ordinary, is_transactional}
use Rattle.mqb_model.specs.records.Commit.{sends_of}
use Rattle.mqb_model.specs.records.Record.{Record}
use Rattle.mqb_model.specs.records.Record as entry
use Rattle.mqb_model.specs.state.Places.{is_express}
use Rattle.mqb_network.specs.Courses.{Course, Written}
use Rattle.mqb_network.specs.Laws.{Always}
use Rattle.mqb_history.specs.Truths.{committed_in, noticed, told_by}

-- the messages that a record sends
abbrev pub sends_in : Record → List Message
sends_in (entry.Commit now ops) = sends_of ops
sends_in (entry.Plain now p) = p.message ∷ []
sends_in _ = []

-- those that records sent, in order
abbrev pub all_sends : List Written → List Message
all_sends written = flat_map (λ w. sends_in w.entry) written

-- A message is one of these in every field but the time to reach its queue.
pub record IsOneOf (sends : List Message) (m : Message) : Type 0 where
  pub send : Message
  pub inside : In send sends
  pub same : m ≡ record send { reach = m.reach }

-- Each ordinary message that a manager has, or that went in a packet, is one that a record sent,
-- unless it is express.
abbrev pub AreAsSent : Course → Type 0
AreAsSent c =
    (m : Message) → In m (noticed c) → IsTrue (is_ordinary m) → IsFalse (is_express m.delivery)
    → IsOneOf (all_sends c.written) m

-- No two messages that were sent bear one identifier.
abbrev pub IsEachSentOnce : Course → Type 0
IsEachSentOnce c = (id : MessageId) → count_by (λ m. same_id id m.id) (all_sends c.written) ≤ 1

-- One that joined a stream is transactional wherever it is.
abbrev pub AreCommittedTransactional : Course → Type 0
AreCommittedTransactional c =
    (m : Message) → In m (noticed c) → IsTrue (is_ordinary m) → IsFalse (is_express m.delivery)
    → In m.id (told_by committed_in c) → IsTrue (is_transactional m.delivery)

-- What is there, and so whatever is taken, is what was sent under its identifier.
pub record AreSentRightly (c : Course) : Type 0 where
  pub as_sent : AreAsSent c
  pub once : IsEachSentOnce c
  pub transactional : AreCommittedTransactional c

-- So it is at each point of each run.
abbrev pub AlwaysSentRightly : Type 0
AlwaysSentRightly = Always AreSentRightly
