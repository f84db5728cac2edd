use Rattle.std.proofs.Common.{◌≡◌, ◌++◌, length, take, arith, length-append, length-take}
use Rattle.mqb_picture.proofs.Taking.{gave_more}
use Rattle.mqb_picture.proofs.input.read_all.Goals as goal

pub returns-then-len-count-gt-MAX_LENGTH-clause-part : goal.returns-then-len-count-gt-MAX_LENGTH-clause-part
returns-then-len-count-gt-MAX_LENGTH-clause-part g c = record {
  text = c.loop-count.text.items ++ take c.in-Ok.count c.read.new.buf;
  gave = gave_more _ _ _ _ _ c.loop-count.invariant.gave c.in-Ok.ensures.gave;
  long = let same : length c.read.new.buf ≡ length c.loop-count.buffer =
      c.read.auto.buf in simp (length-append, length-take) (omega (arith, c.in-Ok.ensures.within));
}

pub returns-then-is_err-clause-part : goal.returns-then-is_err-clause-part
returns-then-is_err-clause-part g c = record {
  text = c.loop-count.text.items ++ take c.in-Ok.count c.read.new.buf;
  gave = gave_more _ _ _ _ _ c.loop-count.invariant.gave c.in-Ok.ensures.gave;
  long = let h = c.loop-count.text.ok in simp (length-append, length-take) (omega arith);
}
