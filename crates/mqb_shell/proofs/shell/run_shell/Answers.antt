use Rattle.std.proofs.Common.{inl, inr, refl}
use Rattle.mqb_commands.specs.Causes.{DiskFaultHasCause}
use Rattle.mqb_commands.specs.Outputs.{ReadFaultHasCause}
use Rattle.mqb_commands.specs.lemmas.Opening.{line_fails, on_store}
use Rattle.mqb_connections.proofs.Unopened.{unopened_disk, unopened_read}
use Rattle.mqb_shell.specs.Shells.{IsShellEnd}
use Rattle.mqb_shell.proofs.Ends.{said_is}
use Rattle.mqb_shell.proofs.Opening.{line_said, unopened_end, unopened_plain}
use Rattle.mqb_shell.proofs.shell.run_shell.Goals as goal

pub write-requires : goal.write-requires
write-requires g c = unopened_plain (g.D.Disk.view c.args.disk.now) (g.D.Disk.view c.open.new.disk) c.in-Err.fault _ c.in-Err.ensures.fails c.fault.ensures

pub returns-in-Err-clause-shell : goal.returns-in-Err-clause-shell
returns-in-Err-clause-shell g c = inr (record {
  fails = record {
    text = c.fault.result.text.items;
    end = c.fault.result.end;
    means = line_fails (g.D.Disk.view c.args.disk.now) (g.D.Disk.view c.open.new.disk) c.in-Err.fault c.fault.result.end c.fault.result.text.items
        c.in-Err.ensures.fails c.open.ensures.reads c.fault.ensures;
    told = c.write.ensures.told;
    some = c.write.ensures.some;
  };
  unread = refl;
  never = refl;
  untouched = record { finished = refl; faults = refl; lost = refl; idle = refl };
})

pub returns-in-Err-clause-read_faults : goal.returns-in-Err-clause-read_faults
returns-in-Err-clause-read_faults g c =
    let reads = g.S.Source.read_faults c.args.input.now in
    said_is (ReadFaultHasCause reads reads) c.in-Err.fault c.write.result
    (unopened_read _ _ (g.D.Disk.view c.args.disk.now) (g.D.Disk.view c.open.new.disk) c.in-Err.fault c.in-Err.ensures.fails) tt tt
    (line_said c.fault.ensures c.write.ensures.told c.write.ensures.some)

pub returns-in-Err-clause-disk_faults : goal.returns-in-Err-clause-disk_faults
returns-in-Err-clause-disk_faults g c =
    let d = g.D.Disk.view c.args.disk.now in
    let f = g.D.Disk.view c.open.new.disk in
    said_is (DiskFaultHasCause d.faults f.faults) c.in-Err.fault c.write.result (unopened_disk d f c.in-Err.fault c.in-Err.ensures.fails) tt tt
    (line_said c.fault.ensures c.write.ensures.told c.write.ensures.some)

pub returns-in-Err-clause-ends : goal.returns-in-Err-clause-ends
returns-in-Err-clause-ends g c =
    said_is IsShellEnd c.in-Err.fault c.write.result
    (unopened_end (g.D.Disk.view c.args.disk.now) (g.D.Disk.view c.open.new.disk) c.in-Err.fault c.in-Err.ensures.fails) tt tt
    (line_said c.fault.ensures c.write.ensures.told c.write.ensures.some)

pub returns-clause-shell : goal.returns-clause-shell
returns-clause-shell g c =
    let d = g.D.Disk.view c.args.disk.now in
    let f = g.D.Disk.view c.open.new.disk in
    let e = g.D.Disk.view c.answer_lines-end.new.disk in
    inl (on_store c.in-Ok.ensures.opened c.open.ensures.reads (record {
      shell = rw (← c.in-Ok.ensures.cause) c.answer_lines-end.ensures.shell;
      settled = λ up. c.answer_lines-end.ensures.disk.settled (λ _. c.in-Ok.ensures.on) c.in-Ok.ensures.settled up;
    }) c.answer_lines-end.ensures.disk)
