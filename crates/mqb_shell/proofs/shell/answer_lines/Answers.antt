use Rattle.std.proofs.Common.{◌<◌, ◌≡◌, ◌≤◌, ◌∙◌, List, Option, ap, length, length-append, length-take, refl, subst, sym, take, arith, ℕ}
use Rattle.std.proofs.lemmas.Bool.Decides.{nat_tests}
use Rattle.mqb_commands.specs.Causes.{DiskFaultHasCause}
use Rattle.mqb_commands.specs.Outputs.{ReadFaultHasCause}
use Rattle.mqb_commands.specs.Shown.{IsAtEnd}
use Rattle.mqb_commands.specs.declared.status.Status.TheVariants as status
use Rattle.mqb_manager.specs.lemmas.Keeping.{keeping_goes_on, nothing_keeps}
use Rattle.mqb_outside.specs.Faults.{Rose}
use Rattle.mqb_outside.specs.Told.{Gave}
use Rattle.mqb_serving.specs.declared.faults.PeerFault.TheVariants as peer
use Rattle.mqb_shell.specs.Shells.{EndsInput, IsShellEnd}
use Rattle.mqb_shell.proofs.Ends.{said_is, stop_is_end, stop_reads}
use Rattle.mqb_shell.proofs.Whole.{failed, finished, flooded, front_read, input_is, none_given, none_so_far, nothing_read, so_far_more, stopped_within}
use Rattle.mqb_shell.proofs.shell.answer_lines.Goals as goal

pub returns-in_default-clause-shell : goal.returns-in_default-clause-shell
returns-in_default-clause-shell g c = nothing_read

pub take_piece-requires-clause-on : goal.take_piece-requires-clause-on
take_piece-requires-clause-on g c = c.loop-read.invariant.disk.on (λ _. c.requires.on) c.loop-read.invariant.up

pub loop-read-init : goal.loop-read-init
loop-read-init g c = record {
  so_far = none_so_far c.new-line.ensures.items;
  room = omega (arith, c.in-Ok.ensures.len);
  disk = nothing_keeps (g.D.Disk.view c.args.disk.now) c.args.manager.now;
  up = c.requires.up;
  unlinked = c.requires.unlinked;
  calm = refl;
  read_faults = refl;
  write_faults = refl;
  unfinished = refl;
  clock = refl;
}

pub loop-read-preserved : goal.loop-read-preserved
loop-read-preserved g c =
    let so_far = c.loop-read.invariant in
    let read = c.in-Ok-read.ensures in
    let one = c.in-Ok-take_piece.ensures in
    let n = c.in-Ok-read.count in
    let front : List ℕ = c.read.new.buf in
    let left : Option (List ℕ) = g.S.Source.held c.loop-read.input in
    let size : length front ≡ c.loop-read.buffer.len = omega (arith, c.read.auto.buf, c.deref_mut.ensures.len) in
    let within : n ≤ length front = omega (arith, read.within, c.read.auto.buf) in
    let same : take n c.deref.result.now ≡ take n front =
    ap (λ (t : List ℕ). take n t) c.deref.ensures.value ∙ front_read n c.loop-read.buffer.len front _ within (omega (arith, size)) in
    let long : 0 < length front = omega (arith, size, so_far.room, ap length c.deref_mut.ensures.value, c.deref_mut.ensures.len) in
    let some : 0 < length (take n c.deref.result.now) = grind (arith, nat_tests, c.in-Ok-read.count-test, ap length same, length-take n front, within) in
    record {
      so_far = so_far_more so_far.so_far so_far.clock (subst (λ (t : List ℕ). Gave left (g.S.Source.held c.read.new.self) t) (sym same) read.gave) some one.takes;
      room = simp (length-take, length-append) (omega (arith, long, size));
      disk = keeping_goes_on _ _ _ _ _ _ so_far.disk so_far.up one.disk;
      up = one.up;
      unlinked = one.unlinked;
      calm = one.calm ∙ so_far.calm;
      read_faults = read.cause ∙ so_far.read_faults;
      write_faults = one.quiet (λ is. let none : ⊥ = cc in none) ∙ so_far.write_faults;
      unfinished = one.unfinished ∙ so_far.unfinished;
      clock = one.clock ∙ so_far.clock;
    }

pub returns-in-Ok-eq0-clause-shell : goal.returns-in-Ok-eq0-clause-shell
returns-in-Ok-eq0-clause-shell g c =
    let so_far = c.loop-read.invariant in
    let read = c.in-Ok-eq0.ensures in
    let before : Option (List ℕ) = g.S.Source.held c.loop-read.input in
    let now : Option (List ℕ) = g.S.Source.held c.read.new.self in
    let zero : c.in-Ok-eq0.field-0 ≡ 0 = grind (arith, nat_tests, c.in-Ok-eq0.field-0-test) in
    let same : now ≡ before = none_given before now (subst (λ (n : ℕ). Gave before now (take n c.read.new.buf)) zero read.gave) in
    let room : 0 < length c.deref_mut.result.now = subst (λ (t : List ℕ). 0 < length t) (sym c.deref_mut.ensures.value) so_far.room in
    finished so_far.so_far same (subst IsAtEnd (sym same) (read.ended zero room))
    (subst (λ (t : List ℕ). EndsInput t (g.K.Sink.taken c.loop-read.out) (g.K.Sink.taken c.end_input.new.out) c.end_input.result) c.as_slice.ensures.value c.end_input.ensures.ends)

pub returns-in-Ok-eq0-clause-read_faults : goal.returns-in-Ok-eq0-clause-read_faults
returns-in-Ok-eq0-clause-read_faults g c =
    let reads = g.S.Source.read_faults in
    input_is (ReadFaultHasCause (reads c.args.input.now) (reads c.read.new.self)) c.as_slice.result.now _ _ c.end_input.result tt tt tt tt c.end_input.ensures.ends

pub returns-in-Ok-eq0-clause-disk_faults : goal.returns-in-Ok-eq0-clause-disk_faults
returns-in-Ok-eq0-clause-disk_faults g c =
    input_is (DiskFaultHasCause (g.D.Disk.view c.args.disk.now).faults (g.D.Disk.view c.loop-read.disk).faults) c.as_slice.result.now _ _ c.end_input.result tt tt tt tt
    c.end_input.ensures.ends

pub returns-in-Ok-eq0-clause-ends : goal.returns-in-Ok-eq0-clause-ends
returns-in-Ok-eq0-clause-ends g c = input_is IsShellEnd c.as_slice.result.now _ _ c.end_input.result tt tt tt tt c.end_input.ensures.ends

pub returns-in-Err-clause-shell : goal.returns-in-Err-clause-shell
returns-in-Err-clause-shell g c = failed c.loop-read.invariant.so_far c.in-Err.ensures.unchanged c.stop.ensures.said

pub returns-in-Err-clause-read_faults : goal.returns-in-Err-clause-read_faults
returns-in-Err-clause-read_faults g c =
    let reads = g.S.Source.read_faults in
    let rose : Rose (reads c.args.input.now) (reads c.read.new.self) =
    subst (λ (n : ℕ). Rose n (reads c.read.new.self)) c.loop-read.invariant.read_faults c.in-Err.ensures.cause in
    said_is (ReadFaultHasCause (reads c.args.input.now) (reads c.read.new.self)) status.ReadFault c.stop.result rose tt tt c.stop.ensures.said

pub returns-in-Err-clause-disk_faults : goal.returns-in-Err-clause-disk_faults
returns-in-Err-clause-disk_faults g c =
    said_is (DiskFaultHasCause (g.D.Disk.view c.args.disk.now).faults (g.D.Disk.view c.loop-read.disk).faults) status.ReadFault c.stop.result tt tt tt c.stop.ensures.said

pub returns-in-Err-clause-ends : goal.returns-in-Err-clause-ends
returns-in-Err-clause-ends g c = said_is IsShellEnd status.ReadFault c.stop.result tt tt tt c.stop.ensures.said

pub returns-in-Err-take_piece-clause-shell : goal.returns-in-Err-take_piece-clause-shell
returns-in-Err-take_piece-clause-shell g c =
    let read = c.in-Ok-read.ensures in
    let n = c.in-Ok-read.count in
    let front : List ℕ = c.read.new.buf in
    let left : Option (List ℕ) = g.S.Source.held c.loop-read.input in
    let size : length front ≡ c.loop-read.buffer.len = omega (arith, c.read.auto.buf, c.deref_mut.ensures.len) in
    let within : n ≤ length front = omega (arith, read.within, c.read.auto.buf) in
    let same : take n c.deref.result.now ≡ take n front =
    ap (λ (t : List ℕ). take n t) c.deref.ensures.value ∙ front_read n c.loop-read.buffer.len front _ within (omega (arith, size)) in
    stopped_within c.loop-read.invariant.so_far c.loop-read.invariant.clock (subst (λ (t : List ℕ). Gave left (g.S.Source.held c.read.new.self) t) (sym same) read.gave)
    c.in-Err-take_piece.ensures.ends c.in-Err-take_piece.ensures.takes

pub returns-in-Err-take_piece-clause-disk : goal.returns-in-Err-take_piece-clause-disk
returns-in-Err-take_piece-clause-disk g c =
    keeping_goes_on _ _ _ _ _ _ c.loop-read.invariant.disk c.loop-read.invariant.up c.in-Err-take_piece.ensures.disk

pub returns-in-Err-take_piece-clause-read_faults : goal.returns-in-Err-take_piece-clause-read_faults
returns-in-Err-take_piece-clause-read_faults g c = stop_reads _ _ c.in-Err-take_piece.end c.in-Err-take_piece.ensures.ends

pub returns-in-Err-take_piece-clause-ends : goal.returns-in-Err-take_piece-clause-ends
returns-in-Err-take_piece-clause-ends g c = stop_is_end c.in-Err-take_piece.end c.in-Err-take_piece.ensures.ends

pub returns-clause-shell : goal.returns-clause-shell
returns-clause-shell g c = flooded c.loop-read.invariant.so_far (omega arith) c.stop-2.ensures.said

pub returns-clause-read_faults : goal.returns-clause-read_faults
returns-clause-read_faults g c =
    said_is (ReadFaultHasCause (g.S.Source.read_faults c.args.input.now) (g.S.Source.read_faults c.loop-read.input)) (status.Peer peer.TooMuch) c.stop-2.result tt tt tt
    c.stop-2.ensures.said

pub returns-clause-disk_faults : goal.returns-clause-disk_faults
returns-clause-disk_faults g c =
    said_is (DiskFaultHasCause (g.D.Disk.view c.args.disk.now).faults (g.D.Disk.view c.loop-read.disk).faults) (status.Peer peer.TooMuch) c.stop-2.result tt tt tt
    c.stop-2.ensures.said

pub returns-clause-ends : goal.returns-clause-ends
returns-clause-ends g c = said_is IsShellEnd (status.Peer peer.TooMuch) c.stop-2.result tt tt tt c.stop-2.ensures.said
