use Rattle.std.specs.Prelude.{ℕ, nat_lt, nat_le, Option, Some, None, if◌then◌else◌}
use Rattle.mqb_base.specs.declared.heads.TxHead.{TxHead}
use Rattle.mqb_base.specs.declared.ids.SequenceId.{SequenceId}
use Rattle.mqb_base.specs.Sequences.{same_sequence, earlier}
use Rattle.mqb_orders.specs.declared.judging.Verdict.{Verdict}
use Rattle.mqb_orders.specs.declared.judging.Verdict.TheVariants.{Next, Duplicate, Gap, Stale}
use Rattle.mqb_orders.specs.declared.rows.InRow.{InRow}

-- the last decided number of a sequence that is not earlier than the row's: 0 where it is a new one
abbrev pub decided_of : InRow → SequenceId → ℕ
decided_of row sequence = if same_sequence row.sequence sequence then row.last else 0

-- the same, where there may be no row
abbrev pub decided : Option InRow → SequenceId → ℕ
decided None sequence = 0
decided (Some row) sequence = decided_of row sequence

-- what a packet is, once d was decided of its sequence
abbrev pub verdict_after : ℕ → TxHead → Verdict
verdict_after d tx =
    if nat_le tx.number d then Duplicate else if nat_lt d tx.previous then Gap else Next

-- what a packet is to its row, or to the want of one
abbrev pub verdict_of : Option InRow → TxHead → Verdict
verdict_of None tx = verdict_after 0 tx
verdict_of (Some row) tx = if earlier tx.sequence row.sequence then Stale
    else verdict_after (decided_of row tx.sequence) tx
