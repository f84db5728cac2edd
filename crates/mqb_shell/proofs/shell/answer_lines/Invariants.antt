use Rattle.std.proofs.Common.{◌<◌, ◌≡◌, length}
use Rattle.std.specs.Prelude.{None}
use Rattle.mqb_manager.specs.Keeping.{KeepsDisk}
use Rattle.mqb_manager.specs.States.{IsUp}
use Rattle.mqb_shell.proofs.Whole.{SoFar}
use Rattle.mqb_shell.proofs.shell.answer_lines.Given as goal

-- every line that was read is answered, and the shell goes on
abbrev pub invariant-loop-read : goal.invariant-loop-read
invariant-loop-read g l = record {
  so_far : SoFar (g.C.Clock.steady l.fn.clock) (g.S.Source.held l.fn.input) (g.S.Source.held l.input) (g.K.Sink.taken l.fn.out) (g.K.Sink.taken l.out) (record {
    manager = l.fn.manager;
    disk_faults = (g.D.Disk.view l.fn.disk).faults;
    asked = g.C.Clock.asked l.fn.clock;
    finished = g.N.Net.finished l.fn.net;
    faults = g.N.Net.faults l.fn.net;
    lost = g.N.Net.lost l.fn.net;
    idle = g.N.Net.idle l.fn.net;
  }) (record {
    manager = l.manager;
    disk_faults = (g.D.Disk.view l.disk).faults;
    asked = g.C.Clock.asked l.clock;
    finished = g.N.Net.finished l.net;
    faults = g.N.Net.faults l.net;
    lost = g.N.Net.lost l.net;
    idle = g.N.Net.idle l.net;
  }) l.line.items l._read;
  room : 0 < length l.buffer.items;
  disk : KeepsDisk (g.D.Disk.view l.fn.disk) (g.D.Disk.view l.disk) l.fn.manager l.manager;
  up : IsUp l.manager;
  unlinked : l.manager.session ≡ None;
  calm : (g.D.Disk.view l.disk).faults ≡ (g.D.Disk.view l.fn.disk).faults;
  read_faults : g.S.Source.read_faults l.input ≡ g.S.Source.read_faults l.fn.input;
  write_faults : g.K.Sink.write_faults l.out ≡ g.K.Sink.write_faults l.fn.out;
  unfinished : g.N.Net.unfinished l.net ≡ g.N.Net.unfinished l.fn.net;
  clock : g.C.Clock.steady l.clock ≡ g.C.Clock.steady l.fn.clock;
}
