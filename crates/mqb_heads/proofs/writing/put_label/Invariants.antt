use Rattle.std.proofs.Common.{take}
use Rattle.mqb_heads.specs.Properties.{label_bytes}
use Rattle.mqb_fields.specs.Writing.{Wrote}
use Rattle.mqb_heads.proofs.writing.put_label.Given as goal

-- the units so far are written
abbrev pub invariant-loop-unit : goal.invariant-loop-unit
invariant-loop-unit l = Wrote l.fn.to l.at (label_bytes (take l.unit-index l.units)) l.to l.end
