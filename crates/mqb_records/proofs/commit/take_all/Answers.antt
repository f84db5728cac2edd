use Rattle.std.proofs.Common.{ap, sym, subst, ◌∙◌, arith, ◌≡◌, ◌∷◌}
use Rattle.mqb_base.specs.declared.queues.EntryPlace.TheVariants as place
use Rattle.mqb_entries.specs.declared.members.OpView.{OpView}
use Rattle.mqb_entries.specs.declared.members.OpView.TheVariants as view
use Rattle.mqb_contents.proofs.Grown.{grown_trans}
use Rattle.mqb_model.specs.rules.Effects.{Effect}
use Rattle.mqb_records.specs.Ops.{takes_in}
use Rattle.mqb_records.specs.Ordered.{IsOrdered}
use Rattle.mqb_records.proofs.Ordering.{taken_ordered}
use Rattle.mqb_records.proofs.Stepping.{take_step}
use Rattle.mqb_records.proofs.commit.take_all.Goals as goal

pub loop-op-preserved-in-Continue-1 : goal.loop-op-preserved-in-Continue-1
loop-op-preserved-in-Continue-1 c =
    let are : c.loop-op.op-iterator ≡ view.Take c.in-Take.queue c.in-Take.id ∷ c.next.new.self =
    c.in-Some.ensures.steps ∙ ap (λ (op : OpView). op ∷ c.next.new.self) c.in-Take.is in
    let count = ap takes_in are in
    let before = c.loop-op.invariant.held in
    let more = c.in_ok-take.ensures.held in
    record {
      so_far = take_step c.args.now c.loop-op.draft.effect c.take.new.draft.effect c.in-Take.queue c.in-Take.id c.next.new.self c.loop-op.op-iterator are
          c.in_ok-take.ensures.fit c.in_ok-take.ensures.ok ∙ c.loop-op.invariant.so_far;
      ordered = subst (λ (e : Effect). IsOrdered e.state) (sym c.in_ok-take.ensures.ok)
          (taken_ordered (place.Queue c.in-Take.queue) c.in-Take.id c.args.now c.loop-op.draft.effect c.loop-op.invariant.ordered);
      start = c.take.ensures.start ∙ c.loop-op.invariant.start;
      grown = grown_trans c.loop-op.invariant.grown c.take.ensures.grown;
      held = omega (arith, count, before, more);
    }

pub returns-in_err-take-clause-grown : goal.returns-in_err-take-clause-grown
returns-in_err-take-clause-grown c = grown_trans c.loop-op.invariant.grown c.take.ensures.grown
