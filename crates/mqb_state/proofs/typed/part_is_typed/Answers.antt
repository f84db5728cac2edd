use Rattle.std.proofs.Common.{inl, inr, subst, sym}
use Rattle.mqb_model.specs.Typed.{IsTypedPart}
use Rattle.mqb_state.proofs.typed.part_is_typed.Goals as goal

pub returns-in-Decided : goal.returns-in-Decided
returns-in-Decided c = elim c.in-Decided.is [
  | inl e ↦ subst IsTypedPart (sym e) c.packet_tells.ensures
  | inr e ↦ subst IsTypedPart (sym e) c.packet_tells.ensures
]
