-- What carries a journal's condition from call to call.
use Rattle.std.proofs.Common.{◌≡◌, ℕ, ◌+◌, ◌<◌, List, ◌∷◌, ◌++◌, length, drop, None, true, false}
use Rattle.std.proofs.Common.{◌∙◌, ap, arith, length-append, length-drop}
use Rattle.mqb_outside.specs.Images.{Each}
use Rattle.mqb_outside.specs.Disk.{View, IsSettled, Unchanged, OnlyReads}
use Rattle.mqb_journal.specs.Store.{Base, StandsFor, chain}
use Rattle.mqb_journal.specs.States.{JournalState, ScanState, finished}
use Rattle.mqb_journal.specs.Journals.{GoesOn, Lent}

-- over a disk of which nothing new is told
pub goes_on_told : (d e : View) (j : JournalState) (base : Base) (records : List (List ℕ))
    → GoesOn d j base records → Each e.reads d.reads → GoesOn e j base records
goes_on_told d e j base records on told = record {
  first = on.first;
  behind = on.behind;
  stands = λ c reads. on.stands c (told c reads);
  small = on.small;
  end = on.end;
  count = on.count;
  up = on.up;
}

-- through a call that only reads
pub goes_on_read : (d e : View) (j : JournalState) (base : Base) (records : List (List ℕ))
    → GoesOn d j base records → OnlyReads d e → GoesOn e j base records
goes_on_read d e j base records on reads =
    goes_on_told d e j base records on reads.unchanged.reads.none_new

-- through a call of the power switch
pub goes_on_unchanged : (d e : View) (j : JournalState) (base : Base) (records : List (List ℕ))
    → GoesOn d j base records → Unchanged d e → GoesOn e j base records
goes_on_unchanged d e j base records on same =
    goes_on_told d e j base records on same.reads.none_new

-- through a restart of a settled disk
pub goes_on_restarted : (d e : View) (j : JournalState) (base : Base) (records : List (List ℕ))
    → GoesOn d j base records → IsSettled d → Each e.reads d.leaves → GoesOn e j base records
goes_on_restarted d e j base records on settled left =
    goes_on_told d e j base records on (λ c reads. settled c (left c reads))

-- through a refusal, which may leave more room
pub goes_on_refused :
    (d : View) (j : JournalState) (room : ℕ) (base : Base) (records : List (List ℕ))
    → GoesOn d j base records → GoesOn d (record j { room = room }) base records
goes_on_refused d j room base records on = record {
  first = on.first;
  behind = on.behind;
  stands = on.stands;
  small = on.small;
  end = on.end;
  count = on.count;
  up = on.up;
}

-- what a read gives stands for the base and the records
pub goes_on_stands : (d : View) (j : JournalState) (base : Base) (records : List (List ℕ))
    → GoesOn d j base records → Each d.reads (StandsFor j.guid.0 base records)
goes_on_stands d j base records on c told =
    let is = on.stands c told in
    record { first = on.first; front = is.front; small = on.small; stands = is.stands }

-- the gate behind the records is there, so that a record can be added
pub goes_on_gate : (d : View) (j : JournalState) (base : Base) (records : List (List ℕ))
    → GoesOn d j base records → Each d.reads (λ c. j.end < length c)
goes_on_gate d j base records on c told =
    let has = (on.stands c told).stands in
    omega (
      arith,
      on.end,
      ap length has.is,
      length-drop on.first c,
      length-append (chain records) (has.gate ∷ has.rest),
    )

-- a scan that has ended goes on as a journal
pub lent_goes_on : (d : View) (s : ScanState) (room : ℕ) (base : Base) (records : List (List ℕ))
    → Lent d s base records → s.ended ≡ true → GoesOn d (finished s room) base records
lent_goes_on d s room base records lent ended = record {
  first = lent.first;
  behind = lent.behind;
  stands = λ c told. (let shut = (lent.gate c told).when_shut (lent.shut ended) in record {
    front = lent.front c told;
    laid = lent.laid c told;
    stands = record {
      gate = shut.byte;
      rest = drop (s.gate + 1) c;
      closed = shut.closed;
      is = lent.begins c told ∙ ap (λ (l : List ℕ). chain records ++ l) shut.is;
    };
  });
  small = lent.small;
  end = lent.place;
  count = lent.count;
  up = λ _. false;
}

-- once its base was taken
pub lent_taken : (d : View) (s : ScanState) (base : Base) (records : List (List ℕ))
    → Lent d s base records → Lent d (record s { base = None }) base records
lent_taken d s base records lent = record {
  first = lent.first;
  behind = lent.behind;
  front = lent.front;
  laid = lent.laid;
  begins = lent.begins;
  long = lent.long;
  small = lent.small;
  place = lent.place;
  count = lent.count;
  held = tt;
  gate = lent.gate;
  shut = lent.shut;
}
