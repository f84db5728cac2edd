-- How far a start has read.
use Rattle.std.proofs.Common.{inl, inr, refl}
use Rattle.std.specs.Prelude.{[], ◌+◌, ◌≤◌, List, max, ℕ}
use Rattle.mqb_base.specs.declared.ledger.Line.{Line}
use Rattle.mqb_outside.specs.Disk.{OnlyReads, View}
use Rattle.mqb_outside.specs.Images.{Each}
use Rattle.mqb_journal.specs.Scan.{ReadsOnlyAt}
use Rattle.mqb_journal.specs.States.{ScanState}
use Rattle.mqb_journal.specs.Store.{Nothing}
use Rattle.mqb_journal.specs.lemmas.Reaching.{reads_on}
use Rattle.mqb_model.specs.state.State.{State}
use Rattle.mqb_store.proofs.Faulty.{StandsBehind, goes_well}
use Rattle.mqb_store.proofs.Read.{may_go_on, stands_behind}
use Rattle.mqb_store.specs.Reaching.{ReadsInOrder, StopsBehind}
use Rattle.mqb_store.specs.Replaying.{IsReadUpTo}

-- One step more was tried, whatever came of it.
pub stops_behind : (d m e : View) {scan : ScanState} {s : State} {lines : List Line} (before : ℕ) → IsReadUpTo m scan s lines → OnlyReads d m
    → m.reached ≤ max before (scan.gate + 1) → Each m.reads (ReadsOnlyAt scan.gate m.reached e.reached) → Each d.reads (StopsBehind before e.reached)
stops_behind d m e {scan} {s} {lines} before read reads so_far next c told =
    let here = reads.unchanged.reads.none_lost c told in
    record {
      guid = scan.guid;
      base = read.base;
      entries = read.entries;
      gate = scan.gate;
      here = goes_well m scan read.base read.entries (stands_behind read) (may_go_on read) c here;
      next = reads_on scan.gate before m.reached e.reached c so_far (next c here);
    }

-- The first record was read, or was to be read.
pub stops_at_first : (m e : View) {scan : ScanState} (before : ℕ) → StandsBehind m scan Nothing [] → m.reached ≤ max before (scan.gate + 1)
    → Each m.reads (ReadsOnlyAt scan.gate m.reached e.reached) → Each m.reads (ReadsInOrder before e.reached)
stops_at_first m e {scan} before behind so_far next c told = inr (record {
  guid = scan.guid;
  base = Nothing;
  entries = [];
  gate = scan.gate;
  here = goes_well m scan Nothing [] behind (inl (refl, refl)) c told;
  next = reads_on scan.gate before m.reached e.reached c so_far (next c told);
})

-- over the disk from before calls that only read
pub in_order_before : (d m : View) (before now : ℕ) → OnlyReads d m → Each m.reads (ReadsInOrder before now) → Each d.reads (ReadsInOrder before now)
in_order_before d m before now reads order c told = order c (reads.unchanged.reads.none_lost c told)
