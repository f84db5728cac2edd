use Rattle.std.proofs.Common.{◌≡◌, take}
use Rattle.mqb_commands.specs.Messages.{unit_bytes}
use Rattle.mqb_commands.proofs.message_lines.unit_bytes.Given as goal

abbrev pub invariant-loop-unit : goal.invariant-loop-unit
invariant-loop-unit l = l.bytes.items ≡ unit_bytes (take l.unit-index l.units)
