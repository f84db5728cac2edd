use Rattle.std.proofs.Common.{ap}
use Rattle.mqb_disk.specs.Extent.{Extent}
use Rattle.mqb_disk.proofs.Tears.{wrote_leaves_as}
use Rattle.mqb_disk.proofs.memory_disk.MemoryDiskDisk.write_at.Goals as goal

pub returns-then-eq-2-clause-leaves : goal.returns-then-eq-2-clause-leaves
returns-then-eq-2-clause-leaves c =
    let e = c.put.ensures in
    wrote_leaves_as _ _ _ _ _ _ _ _ e.noted (ap (λ (s : Extent). s.contents) e.safe) c.requires.place e.written

pub returns-else-eq-2-clause-leaves : goal.returns-else-eq-2-clause-leaves
returns-else-eq-2-clause-leaves c =
    let e = c.put.ensures in
    wrote_leaves_as _ _ _ _ _ _ _ _ e.noted (ap (λ (s : Extent). s.contents) e.safe) c.requires.place e.written
