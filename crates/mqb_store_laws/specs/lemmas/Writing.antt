-- What a call writes, by whether it comes to its end.
use Rattle.std.proofs.Common.{inl, arith}
use Rattle.std.specs.Prelude.{[], ◌++◌, ◌∷◌, ◌≡◌, List, Option, ℕ}
use Rattle.mqb_outside.specs.Disk.{AtMost, IsSettled, Lawful, LeavesOnly, View}
use Rattle.mqb_outside.specs.lemmas.Counts.{at_most_none}
use Rattle.mqb_outside.specs.lemmas.Runs.{started}
use Rattle.mqb_journal.specs.Journals.{GoesOn}
use Rattle.mqb_journal.specs.States.{JournalState}
use Rattle.mqb_journal.specs.Store.{Base, IsBeforeOrAfter}
use Rattle.mqb_journal.specs.lemmas.Carrying.{goes_on_stands}
use Rattle.mqb_model.specs.records.Reading.{record_of}
use Rattle.mqb_model.specs.records.Record.{Record}
use Rattle.mqb_store_laws.specs.Writing.{HasOneMore, WritesOne}

-- as many records are not one more
not_more : (j k : JournalState) → k.count ≡ j.count → HasOneMore j k → ⊥
not_more j k same more = omega (arith, same, more)

-- It fails, or there is nothing to write.
pub writes_none : (d e : View) (j k : JournalState) (entry : List ℕ) (r : Option Record)
    → k.count ≡ j.count
    → ((base : Base) (entries : List (List ℕ)) → GoesOn d j base entries → IsSettled d
    → LeavesOnly d e (IsBeforeOrAfter j.guid.0 base entries entry)) → AtMost 4 d.calls e.calls
    → WritesOne d e j k entry r
writes_none d e j k entry r same moments most = record {
  reads = λ more. absurd (not_more j k same more);
  joins = λ more base entries on. absurd (not_more j k same more);
  durable = λ more. absurd (not_more j k same more);
  images = moments;
  most = most;
}

-- The disk is not called.
pub writes_nothing : (d : View) (j k : JournalState) (entry : List ℕ) (r : Option Record) → Lawful d
    → k.count ≡ j.count → WritesOne d d j k entry r
writes_nothing d j k entry r law same = writes_none d d j k entry r same
    (λ base entries on settled. started d (IsBeforeOrAfter j.guid.0 base entries entry) law
    (λ c left. inl (goes_on_stands d j base entries on c (settled c left))))
    (at_most_none 4 d.calls)

-- It goes well.
pub writes_entry : (d e : View) (j k : JournalState) (entry : List ℕ) (r : Option Record)
    → record_of entry ≡ r → IsSettled e
    → ((base : Base) (entries : List (List ℕ)) → GoesOn d j base entries
    → GoesOn e k base (entries ++ entry ∷ []))
    → ((base : Base) (entries : List (List ℕ)) → GoesOn d j base entries → IsSettled d
    → LeavesOnly d e (IsBeforeOrAfter j.guid.0 base entries entry)) → AtMost 4 d.calls e.calls
    → WritesOne d e j k entry r
writes_entry d e j k entry r reads settled joins moments most = record {
  reads = λ more. reads;
  joins = λ more base entries on. joins base entries on;
  durable = λ more. settled;
  images = moments;
  most = most;
}
