-- What is carried through calls that read and sync.
use Rattle.std.proofs.Common.{◌∙◌}
use Rattle.std.specs.Prelude.{◌≡◌, List, ℕ}
use Rattle.mqb_outside.specs.Disk.{Elapses, IsSettled, Lawful, OnlyReads, View}
use Rattle.mqb_outside.specs.Images.{Each, Same}
use Rattle.mqb_outside.specs.lemmas.Runs.{goes_on, started, then_on, weaker}
use Rattle.mqb_journal.specs.Journals.{Lent}
use Rattle.mqb_journal.specs.States.{JournalState, ScanState}
use Rattle.mqb_journal.specs.Store.{Base}
use Rattle.mqb_model.specs.state.State.{State}
use Rattle.mqb_store_laws.specs.Images.{IsOn}
use Rattle.mqb_store_laws.specs.lemmas.Carrying.{on_told}
use Rattle.mqb_store_laws.specs.Settling.{OnlySettles}

-- calls that only read
pub reads_settle : (d e : View) → OnlyReads d e → OnlySettles d e
reads_settle d e reads =
    record { reads = reads.unchanged.reads; run = reads.run; switch = reads.switch }

-- a sync
pub sync_settles : (d e : View) → Lawful d → Same d.reads e.reads → Each e.leaves d.leaves
    → Elapses d e → e.switch ≡ d.switch → OnlySettles d e
sync_settles d e law same fewer time switch = record {
  reads = same;
  run = goes_on d d e d.leaves (started d d.leaves law (λ c left. left)) time fewer;
  switch = switch;
}

-- calls that read and sync, and then more of them
pub settles_then : (d e f : View) → OnlySettles d e → OnlySettles e f → OnlySettles d f
settles_then d e f first second = record {
  reads = record {
    none_new = λ c told. first.reads.none_new c (second.reads.none_new c told);
    none_lost = λ c told. second.reads.none_lost c (first.reads.none_lost c told);
  };
  run = then_on d e f d.leaves first.run (weaker e f e.leaves d.leaves second.run first.run.now);
  switch = second.switch ∙ first.switch;
}

pub on_settled : (d e : View) (j : JournalState) (s : State) → IsOn d j s → OnlySettles d e
    → IsOn e j s
on_settled d e j s on settles = on_told d e j s on settles.reads.none_new

pub settled_still : (d e : View) → IsSettled d → OnlySettles d e → IsSettled e
settled_still d e settled settles c left =
    settles.reads.none_lost c (settled c (settles.run.now c left))

pub lent_settled : (d e : View) (s : ScanState) (base : Base) (records : List (List ℕ))
    → Lent d s base records → OnlySettles d e → Lent e s base records
lent_settled d e s base records lent settles = record {
  first = lent.first;
  behind = lent.behind;
  front = λ c told. lent.front c (settles.reads.none_new c told);
  laid = λ c told. lent.laid c (settles.reads.none_new c told);
  begins = λ c told. lent.begins c (settles.reads.none_new c told);
  long = λ c told. lent.long c (settles.reads.none_new c told);
  small = lent.small;
  place = lent.place;
  count = lent.count;
  held = lent.held;
  gate = λ c told. lent.gate c (settles.reads.none_new c told);
  shut = lent.shut;
}
