use Rattle.std.proofs.Common.{◌∙◌, ◌+◌, arith, refl}
use Rattle.std.proofs.lemmas.Result.{err_from_is_err_and}
use Rattle.mqb_manager.specs.lemmas.Keeping.{keeping_goes_on, nothing_keeps}
use Rattle.mqb_outside.specs.lemmas.Counts.{at_most_more, at_most_none, at_most_then, counted_at_most}
use Rattle.mqb_work.proofs.Joining.{no_work, works_then}
use Rattle.mqb_work.proofs.running.work_all.Goals as goal

pub loop-index-init : goal.loop-index-init
loop-index-init g c = record {
  works = no_work c.args.job.now c.args.hosts.now (g.C.Clock.steady c.args.clock.now) c.args.manager.now (g.K.Sink.taken c.args.out.now);
  up = c.requires.up;
  disk = nothing_keeps (g.D.Disk.view c.args.disk.now) c.args.manager.now;
  write_faults = refl;
  disk_faults = refl;
  clock = refl;
  asked = at_most_none 0 _;
}

pub returns-in_err-turn_and_tell-clause-works : goal.returns-in_err-turn_and_tell-clause-works
returns-in_err-turn_and_tell-clause-works g c =
    let same = err_from_is_err_and c.from_residual.result c.from_residual.ensures.1 in
    let so_far = c.loop-index.invariant in
    rw (same.1, same.2) (works_then so_far.clock (omega arith) (λ is. let none : ⊥ = cc in absurd none) so_far.works c.in_err-turn_and_tell.ensures.works)

pub returns-in_err-turn_and_tell-clause-asked : goal.returns-in_err-turn_and_tell-clause-asked
returns-in_err-turn_and_tell-clause-asked g c =
    let so_far = c.loop-index.invariant in
    at_most_more (c.loop-index._index + 1) c.args.job.now.count _ _ (omega arith)
    (at_most_then c.loop-index._index 1 _ _ _ so_far.asked (counted_at_most 1 _ _ c.in_err-turn_and_tell.ensures.asked))

pub returns-in_err-turn_and_tell-clause-disk : goal.returns-in_err-turn_and_tell-clause-disk
returns-in_err-turn_and_tell-clause-disk g c =
    let so_far = c.loop-index.invariant in
    keeping_goes_on _ _ _ _ _ _ so_far.disk so_far.up c.in_err-turn_and_tell.ensures.disk

pub loop-index-preserved : goal.loop-index-preserved
loop-index-preserved g c =
    let so_far = c.loop-index.invariant in
    let one = c.in_ok-turn_and_tell.ensures in
    record {
      works = works_then so_far.clock (omega arith) (λ _. refl) so_far.works one.works;
      up = one.up (λ is. let none : ⊥ = cc in none);
      disk = keeping_goes_on _ _ _ _ _ _ so_far.disk so_far.up one.disk;
      write_faults = one.write_faults ∙ so_far.write_faults;
      disk_faults = one.disk_faults ∙ so_far.disk_faults;
      clock = one.clock ∙ so_far.clock;
      asked = at_most_then c.loop-index._index 1 _ _ _ so_far.asked (counted_at_most 1 _ _ one.asked);
    }
