use Rattle.std.proofs.Common.{◌≡◌, ◌++◌, length, take, arith, length-append, length-take}
use Rattle.mqb_script.proofs.Gathered.{gave_more}
use Rattle.mqb_script.proofs.reading.read_all.Goals as goal

pub returns-then-len-count-gt-MAX_LENGTH-clause-fault : goal.returns-then-len-count-gt-MAX_LENGTH-clause-fault
returns-then-len-count-gt-MAX_LENGTH-clause-fault g c = λ script_of. record {
  text = c.loop-count.text.items ++ take c.in-Ok.count c.read.new.buf;
  gave = gave_more _ _ _ _ _ c.loop-count.invariant.gave c.in-Ok.ensures.gave;
  answers = let same : length c.read.new.buf ≡ length c.loop-count.buffer =
      c.read.auto.buf in simp (length-append, length-take) (omega (arith, c.in-Ok.ensures.within));
  ended = tt;
}

pub returns-then-is_err-clause-fault : goal.returns-then-is_err-clause-fault
returns-then-is_err-clause-fault g c = λ script_of. record {
  text = c.loop-count.text.items ++ take c.in-Ok.count c.read.new.buf;
  gave = gave_more _ _ _ _ _ c.loop-count.invariant.gave c.in-Ok.ensures.gave;
  answers = let h = c.loop-count.text.ok in simp (length-append, length-take) (omega arith);
  ended = tt;
}
