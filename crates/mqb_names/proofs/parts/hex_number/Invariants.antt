use Rattle.std.proofs.Common.{◌≡◌, ◌<◌, ◌^◌, take}
use Rattle.mqb_names.specs.Parts.{hex_number}
use Rattle.mqb_names.proofs.parts.hex_number.Given as goal

-- the number of the digits so far
abbrev pub invariant-loop-digit : goal.invariant-loop-digit
invariant-loop-digit l = record {
  value : l.number ≡ hex_number (take l.digit-index l.digits);
  small : l.number < 16 ^ l.digit-index;
}
