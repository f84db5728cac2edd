-- What the records of a manager say of the messages that it commits to streams.
use Rattle.std.specs.List.{AllByRecursion, cons_option, flat_map, range_with_len}
use Rattle.std.specs.Prelude.{[], ◌+◌, ◌∷◌, ◌≡◌, IsFalse, List, None, Option, Some, filter_map}
use Rattle.std.specs.Prelude.{if◌then◌else◌, length, ℕ}
use Rattle.mqb_base.specs.Same.{same_id}
use Rattle.mqb_base.specs.Sequences.{same_sequence}
use Rattle.mqb_base.specs.declared.ids.SequenceId.{SequenceId}
use Rattle.mqb_base.specs.declared.message.Message.{Message}
use Rattle.mqb_exactly_once.specs.World.{Commitment}
use Rattle.mqb_model.specs.declared.target.Target.{Target}
use Rattle.mqb_model.specs.declared.target.Target.TheVariants.{AtPeer}
use Rattle.mqb_model.specs.records.Commit.{send_made, sends_of, takes_made}
use Rattle.mqb_model.specs.records.Record.{Record}
use Rattle.mqb_model.specs.records.Record as entry
use Rattle.mqb_model.specs.rules.Effects.{Effect}
use Rattle.mqb_model.specs.rules.Sends.{journalled}
use Rattle.mqb_model.specs.rules.Sequences.{sequence_for}
use Rattle.mqb_model.specs.state.Resolving.{resolved}
use Rattle.mqb_model.specs.state.State.{State}
use Rattle.mqb_network.specs.Courses.{Course, Written}
use Rattle.mqb_orders.specs.Rows.{Row}
use Rattle.mqb_history.specs.Decided.{written_of}

-- a message joins a row: under the number behind the last one
abbrev pub commitment_to : Row → Message → Commitment
commitment_to row m = record {
  position = record { sequence = row.sequence; number = row.committed + 1 };
  message = m;
}

-- a message for a peer joins its sequence
abbrev pub commitment_at : ℕ → State → Target → Message → Option Commitment
commitment_at now s (AtPeer k) m = Some (commitment_to (sequence_for s k m.destination now) m)
commitment_at now s target m = None

-- those of the sends of a transaction, one after another
abbrev pub commitments_of : ℕ → Effect → List Message → List Commitment
commitments_of now e [] = []
commitments_of now e (m ∷ ms) =
    cons_option (commitment_at now (journalled e.state m) (resolved e.state m.destination) m)
    (commitments_of now (send_made now e m) ms)

-- those of a record that met a state
abbrev pub commitments_in : State → Record → List Commitment
commitments_in s (entry.Commit now ops) = commitments_of now (takes_made s now ops) (sends_of ops)
commitments_in s _ = []

-- those of records, in order
abbrev pub commitments : List Written → List Commitment
commitments written = flat_map (λ w. commitments_in w.before w.entry) written

-- the number of a commitment to a sequence
abbrev pub number_in : SequenceId → Commitment → Option ℕ
number_in s c = if same_sequence c.position.sequence s then Some c.position.number else None

-- the numbers of a sequence, in order
abbrev pub numbers_in : SequenceId → List Commitment → List ℕ
numbers_in s cs = filter_map (number_in s) cs

-- no two messages have one identifier
abbrev pub IdentifiersDiffer : List Commitment → Type 0
IdentifiersDiffer [] = Unit {0}
IdentifiersDiffer (c ∷ cs) =
    AllByRecursion (λ d. IsFalse (same_id c.message.id d.message.id)) cs × IdentifiersDiffer cs

-- what holds of the messages that a manager commits
pub record IsCommittedInOrder (cs : List Commitment) : Type 0 where
  -- those of each sequence are numbered 1, 2, and so on
  pub numbered : (s : SequenceId) → numbers_in s cs ≡ range_with_len 1 (length (numbers_in s cs))
  -- no two have one identifier
  pub differ : IdentifiersDiffer cs

-- Each manager numbers the messages of each sequence from 1 on, and gives each message an
-- identifier of its own.
abbrev pub AreCommittedInOrder : Course → Type 0
AreCommittedInOrder c = (i : ℕ) → IsCommittedInOrder (commitments (written_of i c.written))
