use Rattle.std.proofs.Common.{◌≡◌, ◌+◌, ◌*◌, take}
use Rattle.mqb_fields.specs.Writing.{put_at}
use Rattle.mqb_names.specs.Wire.{units}
use Rattle.mqb_names.proofs.wire_writing.put_units.Given as goal

-- the bytes so far are put
abbrev pub invariant-loop-byte : goal.invariant-loop-byte
invariant-loop-byte l = record {
  put : l.to ≡ put_at l.fn.to l.at (units (take l.byte-index l.text));
  end : l.end ≡ l.at + 2 * l.byte-index;
}
