-- What is kept by a message that a send tells, and by the steps of a transaction.
use Rattle.std.specs.Prelude.{◌≡◌, []}
use Rattle.mqb_base.specs.declared.draft.Op.{Op}
use Rattle.mqb_base.specs.declared.draft.Op.TheVariants as op
use Rattle.mqb_base.specs.declared.draft.Parts.{Parts}
use Rattle.mqb_forms.specs.Sends.{no_id}

-- a message as a send tells it: without label and extension, and with 0 in what no field tells
pub record IsPlain (parts : Parts) : Type 0 where
  pub label : parts.label ≡ []
  pub extension : parts.extension ≡ []
  pub body_type : parts.body_type ≡ 0
  pub tag : parts.tag ≡ 0
  pub correlation : parts.correlation ≡ no_id

-- the sends of a transaction have priority 0
abbrev pub IsFormedOp : Op → Type 0
IsFormedOp (op.Send parts) = (parts.priority ≡ 0) × IsPlain parts
IsFormedOp (op.Take name) = Unit {0}
