use Rattle.std.proofs.Common.{◌≡◌}
use Rattle.std.specs.Iterator.Adapters.{rev_source}
use Rattle.std.specs.Slice.Iter.{iter_rest}
use Rattle.mqb_trying.specs.Sends.{last_end}
use Rattle.mqb_trying.proofs.sends.last_end.Given as goal

abbrev pub invariant-loop-end : goal.invariant-loop-end
invariant-loop-end l = record {
  can_next : (goal.iterator-loop-end).can_next l.end-iterator;
  is_finite : (goal.iterator-loop-end).is_finite l.end-iterator;
  left : last_end l.contents.lists (iter_rest (rev_source l.end-iterator)) l.peer l.destination ≡ last_end l.contents.lists l.ends l.peer l.destination;
}
