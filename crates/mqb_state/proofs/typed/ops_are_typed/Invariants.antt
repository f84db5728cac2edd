use Rattle.std.specs.List.{AllByRecursion}
use Rattle.mqb_model.specs.Typed.{IsTypedOp}
use Rattle.mqb_state.proofs.typed.ops_are_typed.Given as goal

-- if the ops that are left are typed, all are
abbrev pub invariant-loop-op : goal.invariant-loop-op
invariant-loop-op l = AllByRecursion IsTypedOp l.op-iterator → AllByRecursion IsTypedOp l.ops
