-- What a start of a store leaves of its disk.
use Rattle.std.specs.Prelude.{◌≡◌}
use Rattle.mqb_outside.specs.Disk.{LeavesOnly, View}
use Rattle.mqb_outside.specs.Images.{Same}

-- after calls that read and sync: the same is read, and no new content is left
-- at any moment of them
pub record OnlySettles (old new : View) : Type 0 where
  pub reads : Same old.reads new.reads
  pub run : LeavesOnly old new old.leaves
  pub switch : new.switch ≡ old.switch
