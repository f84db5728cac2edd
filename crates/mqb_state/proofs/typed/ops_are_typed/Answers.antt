use Rattle.std.proofs.Common.{subst, sym, List}
use Rattle.std.specs.List.{AllByRecursion}
use Rattle.mqb_entries.specs.declared.members.OpView.{OpView}
use Rattle.mqb_model.specs.Typed.{IsTypedOp}
use Rattle.mqb_state.proofs.typed.ops_are_typed.Goals as goal

pub loop-op-preserved : goal.loop-op-preserved
loop-op-preserved c = λ rest. c.loop-op.invariant (subst (λ (ops : List OpView). AllByRecursion IsTypedOp ops) (sym c.in-Some.ensures.steps) (c.op_is_typed.ensures, rest))
