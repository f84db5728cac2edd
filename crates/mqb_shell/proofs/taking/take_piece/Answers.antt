use Rattle.std.proofs.Common.{◌∙◌, length-drop, refl, arith}
use Rattle.std.proofs.lemmas.List.{take_all}
use Rattle.mqb_manager.specs.lemmas.Keeping.{keeping_goes_on, nothing_keeps}
use Rattle.mqb_shell.proofs.Pieces.{all_behind, front_more, keeps_none, keeps_then, stops_behind}
use Rattle.mqb_shell.proofs.taking.take_piece.Goals as goal

pub loop-at-init : goal.loop-at-init
loop-at-init g c = record {
  within = omega arith;
  keeps = λ held is one. keeps_none is one;
  disk = nothing_keeps (g.D.Disk.view c.args.disk.now) c.args.manager.now;
  up = c.requires.up;
  unlinked = c.requires.unlinked;
  calm = refl;
  write_faults = refl;
  unfinished = refl;
  clock = refl;
}

pub take_front-requires-clause-on : goal.take_front-requires-clause-on
take_front-requires-clause-on g c = c.loop-at.invariant.disk.on (λ _. c.requires.on) c.loop-at.invariant.up

pub loop-at-preserved : goal.loop-at-preserved
loop-at-preserved g c =
    let so_far = c.loop-at.invariant in
    let one = c.in-Ok.ensures in
    record {
      within = omega (arith, one.count.1, length-drop c.loop-at.at c.args.piece.now, so_far.within);
      keeps = λ held is line. rw (← front_more c.args.piece.now c.loop-at.at c.in-Ok.count) (keeps_then so_far.clock (so_far.keeps held is line) one.takes);
      disk = keeping_goes_on _ _ _ _ _ _ so_far.disk so_far.up one.disk;
      up = one.up;
      unlinked = one.unlinked;
      calm = one.calm ∙ so_far.calm;
      write_faults = one.quiet (λ is. let none : ⊥ = cc in none) ∙ so_far.write_faults;
      unfinished = one.unfinished ∙ so_far.unfinished;
      clock = one.clock ∙ so_far.clock;
    }

pub returns-in-Err-clause-takes : goal.returns-in-Err-clause-takes
returns-in-Err-clause-takes g c = λ held is one.
    rw (← all_behind c.args.piece.now c.loop-at.at) (stops_behind c.loop-at.invariant.clock (c.loop-at.invariant.keeps held is one) c.in-Err.ensures.takes)

pub returns-in-Err-clause-disk : goal.returns-in-Err-clause-disk
returns-in-Err-clause-disk g c = keeping_goes_on _ _ _ _ _ _ c.loop-at.invariant.disk c.loop-at.invariant.up c.in-Err.ensures.disk

pub returns-in-Err-clause-write_faults : goal.returns-in-Err-clause-write_faults
returns-in-Err-clause-write_faults g c = rw (← c.loop-at.invariant.write_faults) c.in-Err.ensures.write_faults

pub returns-in-Err-clause-disk_faults : goal.returns-in-Err-clause-disk_faults
returns-in-Err-clause-disk_faults g c = rw (← c.loop-at.invariant.calm) c.in-Err.ensures.disk_faults

pub returns-clause-takes : goal.returns-clause-takes
returns-clause-takes g c = λ held is one. rw (← take_all c.loop-at.at c.args.piece.now (omega arith)) (c.loop-at.invariant.keeps held is one)
