use Rattle.std.proofs.Common.{subst, sym}
use Rattle.mqb_model.specs.Typed.{IsTyped}
use Rattle.mqb_state.proofs.typed.entry_is_typed.Goals as goal

pub returns-in-Plain : goal.returns-in-Plain
returns-in-Plain c = subst IsTyped (sym c.in-Plain.is) c.packet_tells.ensures
