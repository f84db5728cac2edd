use Rattle.std.proofs.Common.{◌≡◌, ◌+◌, ◌*◌, length, take}
use Rattle.mqb_names.specs.Wire.{text_of}
use Rattle.mqb_names.specs.lemmas.Units.{with_front}
use Rattle.mqb_names.proofs.wire_reading.copy_text.Given as goal

-- the text so far, and what the units that are left add to it
abbrev pub invariant-loop-rest : goal.invariant-loop-rest
invariant-loop-rest l = record {
  text : with_front (take l.len l.room) (text_of l.rest) ≡ text_of l.units;
  count : 2 * l.len + length l.rest ≡ length l.units;
}

abbrev pub decreases-loop-rest : goal.decreases-loop-rest
decreases-loop-rest l = length l.rest
