use Rattle.std.proofs.Common.{◌<◌, ap, ◌∙◌, subst, sym, arith}
use Rattle.mqb_base.specs.declared.message.Lane.TheVariants as lane
use Rattle.mqb_contents.specs.mqb_tables.Waits.{plain_count}
use Rattle.mqb_contents.proofs.Grown.{grown_trans}
use Rattle.mqb_model.specs.managers.Beside.{without_acked}
use Rattle.mqb_model.specs.rules.Effects.{Effect}
use Rattle.mqb_model.specs.state.Places.{with_plain}
use Rattle.mqb_model.specs.state.State.{State}
use Rattle.mqb_timeouts.proofs.Dropped.{FirstLeaves, acked_twice, fewer}
use Rattle.mqb_timeouts.proofs.acked.drop_acked.Goals as goal

pub loop-draft-smaller : goal.loop-draft-smaller
loop-draft-smaller c =
    let first = subst (λ (s : State). FirstLeaves c.args.number s c.args.peer) c.contents.ensures (c.is_acked.ensures.first c.loop-draft-test.true) in
    subst (λ (e : Effect). plain_count e.state.plain c.args.peer lane.Express < plain_count c.loop-draft.draft.effect.state.plain c.args.peer lane.Express)
    (sym c.in_ok-take_out_plain.ensures.ok) (fewer c.args.number c.loop-draft.draft.effect.state c.args.peer first)

pub loop-draft-preserved : goal.loop-draft-preserved
loop-draft-preserved c =
    let first = subst (λ (s : State). FirstLeaves c.args.number s c.args.peer) c.contents.ensures (c.is_acked.ensures.first c.loop-draft-test.true) in
    record {
      same = ap (λ (e : Effect). with_plain (without_acked c.args.number) e.state c.args.peer) c.in_ok-take_out_plain.ensures.ok
          ∙ (acked_twice c.args.number c.loop-draft.draft.effect.state c.args.peer first ∙ c.loop-draft.invariant.same);
      lines = ap (λ (e : Effect). e.lines) c.in_ok-take_out_plain.ensures.ok ∙ c.loop-draft.invariant.lines;
      start = c.take_out_plain.ensures.start ∙ c.loop-draft.invariant.start;
      grown = grown_trans c.loop-draft.invariant.grown c.take_out_plain.ensures.grown;
      held = omega (arith, c.in_ok-take_out_plain.ensures.held, c.loop-draft.invariant.held);
    }

pub returns-in_err-take_out_plain-clause-grown : goal.returns-in_err-take_out_plain-clause-grown
returns-in_err-take_out_plain-clause-grown c = grown_trans c.loop-draft.invariant.grown c.take_out_plain.ensures.grown
