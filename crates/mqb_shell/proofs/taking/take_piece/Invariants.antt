use Rattle.std.proofs.Common.{◌+◌, ◌-◌, ◌≡◌, ◌≤◌, List, length, take, ℕ}
use Rattle.std.specs.Prelude.{None}
use Rattle.mqb_manager.specs.Keeping.{KeepsDisk}
use Rattle.mqb_manager.specs.States.{IsUp}
use Rattle.mqb_shell.specs.Answered.{Keeps}
use Rattle.mqb_shell.specs.Lines.{IsOneLine}
use Rattle.mqb_shell.specs.declared.asking.TheConstants.{MAX_LINE}
use Rattle.mqb_shell.proofs.taking.take_piece.Given as goal

-- so much of the piece was taken, and the shell goes on
abbrev pub invariant-loop-at : goal.invariant-loop-at
invariant-loop-at g l = record {
  within : l.at ≤ length l.piece;
  keeps : (held : List ℕ) → l.fn.line.items ≡ take (MAX_LINE + 1) held → IsOneLine held
      → Keeps (g.C.Clock.steady l.fn.clock) held (take l.at l.piece) l.line.items (record {
        manager = l.fn.manager;
        disk_faults = (g.D.Disk.view l.fn.disk).faults;
        asked = g.C.Clock.asked l.fn.clock;
        finished = g.N.Net.finished l.fn.net;
        faults = g.N.Net.faults l.fn.net;
        lost = g.N.Net.lost l.fn.net;
        idle = g.N.Net.idle l.fn.net;
      }) (record {
        manager = l.manager;
        disk_faults = (g.D.Disk.view l.disk).faults;
        asked = g.C.Clock.asked l.clock;
        finished = g.N.Net.finished l.net;
        faults = g.N.Net.faults l.net;
        lost = g.N.Net.lost l.net;
        idle = g.N.Net.idle l.net;
      }) (g.K.Sink.taken l.fn.out) (g.K.Sink.taken l.out);
  disk : KeepsDisk (g.D.Disk.view l.fn.disk) (g.D.Disk.view l.disk) l.fn.manager l.manager;
  up : IsUp l.manager;
  unlinked : l.manager.session ≡ None;
  calm : (g.D.Disk.view l.disk).faults ≡ (g.D.Disk.view l.fn.disk).faults;
  write_faults : g.K.Sink.write_faults l.out ≡ g.K.Sink.write_faults l.fn.out;
  unfinished : g.N.Net.unfinished l.net ≡ g.N.Net.unfinished l.fn.net;
  clock : g.C.Clock.steady l.clock ≡ g.C.Clock.steady l.fn.clock;
}

abbrev pub decreases-loop-at : goal.decreases-loop-at
decreases-loop-at g l = length l.piece - l.at
