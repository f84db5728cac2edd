-- What a call writes into a store: one entry, or nothing.
use Rattle.std.specs.Prelude.{[], ◌+◌, ◌++◌, ◌∷◌, ◌≡◌, List, Option, ℕ}
use Rattle.mqb_outside.specs.Disk.{AtMost, IsSettled, LeavesOnly, View}
use Rattle.mqb_journal.specs.Journals.{GoesOn}
use Rattle.mqb_journal.specs.States.{JournalState}
use Rattle.mqb_journal.specs.Store.{Base, IsBeforeOrAfter}
use Rattle.mqb_model.specs.records.Reading.{record_of}
use Rattle.mqb_model.specs.records.Record.{Record}

-- a journal with one record more
abbrev pub HasOneMore : JournalState → JournalState → Type 0
HasOneMore j k = k.count ≡ j.count + 1

-- A call writes this entry, which is its record, or nothing. The journal behind it has one record
-- more, or it has not.
pub record WritesOne (d e : View) (j k : JournalState) (entry : List ℕ)
    (r : Option Record) : Type 0 where
  -- with one record more, that is the record of the entry,
  pub reads : HasOneMore j k → record_of entry ≡ r
  -- and the disk stands for the entries from before, and behind them for this one,
  pub joins : HasOneMore j k → (base : Base) (entries : List (List ℕ)) → GoesOn d j base entries
      → GoesOn e k base (entries ++ entry ∷ [])
  -- and is settled, whatever it was before
  pub durable : HasOneMore j k → IsSettled e
  -- a crash at any moment of the call leaves the entries from before it, or them and this one
  pub images : (base : Base) (entries : List (List ℕ)) → GoesOn d j base entries → IsSettled d
      → LeavesOnly d e (IsBeforeOrAfter j.guid.0 base entries entry)
  -- four calls of the disk at most, however it ends
  pub most : AtMost 4 d.calls e.calls
