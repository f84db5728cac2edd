use Rattle.std.proofs.Common.{◌≡◌, ◌≤◌, length, take}
use Rattle.mqb_forms.proofs.words.few_parts.Given as goal

abbrev pub invariant-loop-part : goal.invariant-loop-part
invariant-loop-part l = record { within : l.count ≤ length l.room; read : take l.count l.room ≡ l.yielded }
