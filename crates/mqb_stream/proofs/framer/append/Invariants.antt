use Rattle.std.proofs.Common.{◌≡◌, ◌++◌, take}
use Rattle.std.specs.Prelude.{vec_capacity}
use Rattle.mqb_stream.proofs.framer.append.Given as goal

-- the bytes so far are appended
abbrev pub invariant-loop-byte : goal.invariant-loop-byte
invariant-loop-byte l = record {
  bytes : l.buffer.items ≡ l.fn.buffer.items ++ take l.byte-index l.bytes;
  room : vec_capacity l.buffer ≡ vec_capacity l.fn.buffer;
}
