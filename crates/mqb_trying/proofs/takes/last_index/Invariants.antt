use Rattle.std.proofs.Common.{◌≡◌}
use Rattle.std.specs.Iterator.Adapters.{rev_source}
use Rattle.std.specs.Slice.Iter.{iter_rest}
use Rattle.mqb_trying.specs.Takes.{last_index}
use Rattle.mqb_trying.proofs.takes.last_index.Given as goal

abbrev pub invariant-loop-take : goal.invariant-loop-take
invariant-loop-take l = record {
  can_next : (goal.iterator-loop-take).can_next l.take-iterator;
  is_finite : (goal.iterator-loop-take).is_finite l.take-iterator;
  left : last_index (iter_rest (rev_source l.take-iterator)) l.queue ≡ last_index l.takes l.queue;
}
