use Rattle.std.proofs.Common.{◌≡◌, ◌≤◌, ◌+◌, ◌-◌, false, max}
use Rattle.mqb_outside.specs.Disk.{OnlyReads}
use Rattle.mqb_store.proofs.replaying.replay.Given as goal
use Rattle.mqb_store.specs.Replaying.{IsReadUpTo}

-- what was read so far stands for the state
abbrev pub invariant-records : goal.invariant-records
invariant-records g l = record {
  read : IsReadUpTo (g.D.Disk.view l.disk) l.scan l.state.lists l.lines.items;
  going : l.scan.ended ≡ false;
  reads : OnlyReads (g.D.Disk.view l.fn.disk) (g.D.Disk.view l.disk);
  behind : l.fn.scan.gate ≤ l.scan.gate;
  reached : (g.D.Disk.view l.disk).reached ≤ max (g.D.Disk.view l.fn.disk).reached (l.scan.gate + 1);
  faults : (g.D.Disk.view l.disk).faults ≡ (g.D.Disk.view l.fn.disk).faults;
}

abbrev pub decreases-records : goal.decreases-records
decreases-records g l = l.scan.len - l.scan.gate
