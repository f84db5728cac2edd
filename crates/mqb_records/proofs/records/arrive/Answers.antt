use Rattle.std.proofs.Common.{rules, ◌≡◌, None, Err}
use Rattle.mqb_arrivals.specs.declared.faults.RecordFault.TheVariants as fault
use Rattle.mqb_queue.proofs.Changed.{on_ok}
use Rattle.mqb_contents.proofs.Grown.{grown_trans}
use Rattle.mqb_model.specs.records.Reading.{part_of}
use Rattle.mqb_model.specs.records.Stepwise.{releases_stepwise}
use Rattle.mqb_records.proofs.Recording.{arrived_applied, arrived_few, part_unfit, released_unfit}
use Rattle.mqb_records.proofs.records.arrive.Goals as goal

pub returns-in_err-release_all-clause-unfit : goal.returns-in_err-release_all-clause-unfit
returns-in_err-release_all-clause-unfit c h =
    let told : c.from_residual.result ≡ Err fault.Unfit → releases_stepwise c.args.draft.now.effect c.args.released.now ≡ None = search rules in
    released_unfit c.stepwise_is_effect.ensures c.args.now c.args.draft.now.effect c.args.released.now (part_of c.args.part.now) (told h)

pub returns-clause-ok : goal.returns-clause-ok
returns-clause-ok c = on_ok c.make_part.result c.make_part.ensures.ok (λ made.
    arrived_applied c.stepwise_is_effect.ensures c.args.now c.args.draft.now.effect c.release_all.new.draft.effect c.make_part.new.draft.effect c.args.released.now
    (part_of c.args.part.now) c.in_ok-release_all.ensures.ok made)

pub returns-clause-grown : goal.returns-clause-grown
returns-clause-grown c = grown_trans c.release_all.ensures.grown c.make_part.ensures.grown

pub returns-clause-few : goal.returns-clause-few
returns-clause-few c = on_ok c.make_part.result c.make_part.ensures.few (λ few.
    arrived_few c.args.now c.args.draft.now.effect c.release_all.new.draft.effect c.args.released.now (part_of c.args.part.now)
    c.args.draft.now.held c.release_all.new.draft.held c.make_part.new.draft.held c.in_ok-release_all.ensures.ok c.in_ok-release_all.ensures.held few)

pub returns-clause-unfit : goal.returns-clause-unfit
returns-clause-unfit c h = part_unfit c.stepwise_is_effect.ensures c.args.now c.args.draft.now.effect c.release_all.new.draft.effect c.args.released.now
    (part_of c.args.part.now) c.in_ok-release_all.ensures.ok (c.make_part.ensures.unfit h)
