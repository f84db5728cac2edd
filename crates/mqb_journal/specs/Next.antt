-- What `Scan::next` leaves once the record that it lent is no longer borrowed.
use Rattle.std.specs.Prelude.{◌≡◌, ◌+◌, ◌<◌, ◌≤◌, max, ℕ, List, [], ◌∷◌, ◌++◌, Option, None, Result}
use Rattle.std.specs.Prelude.{IfOk, IfSome}
use Rattle.std.specs.Borrow.{Fml, Bor, MutBor}
use Rattle.std.specs.Io.BufRead.{Rests}
use Rattle.mqb_outside.specs.Disk.{View}
use Rattle.mqb_journal.specs.Store.{Base}
use Rattle.mqb_journal.specs.States.{ScanState, advanced, ended}
use Rattle.mqb_journal.specs.Journals.{Lent}
use Rattle.mqb_journal.specs.declared.faults.ScanFault.{ScanFault}
use Rattle.mqb_journal.specs.contracts.scan.Scan.{the_row}

-- a scan lent the next record, or found that there is none
pub record HasMoved (d e : View) (old : ScanState) (r : Result (Option (Bor (List ℕ))) ScanFault)
    (new : ScanState) : Type 0 where
  pub more : (base : Base) (records : List (List ℕ)) → Lent d old base records
      → IfOk r (λ next. IfSome next (λ entry. Lent e new base (records ++ entry.now ∷ [])))
  pub all : (base : Base) (records : List (List ℕ)) → Lent d old base records
      → IfOk r (λ next. next ≡ None → Lent e new base records)
  pub advanced : IfOk r (λ next. IfSome next (λ entry. new ≡ advanced old entry.now new.is_open))
  pub ended : IfOk r (λ next. next ≡ None → new ≡ ended old)
  pub within : new.gate < new.len
  -- no further than the gate behind the record
  pub reached : IfOk r (λ next. e.reached ≤ max d.reached (new.gate + 1))

abbrev pub EndsAs : View → View → MutBor ScanState → Result (Option (Bor (List ℕ))) ScanFault → Fml
EndsAs d e scan r = Rests the_row scan (HasMoved d e scan.now r)
