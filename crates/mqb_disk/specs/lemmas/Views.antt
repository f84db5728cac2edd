-- Lemmas of Views.
use Rattle.std.specs.Prelude.{◌≤◌, Bool, cond, length}
use Rattle.std.proofs.Common.{inl, sym, ◌∙◌, subst, arith}
use Rattle.mqb_outside.specs.Disk.{Lawful}
use Rattle.mqb_disk.specs.lemmas.Changes.{left_within}
use Rattle.mqb_disk.specs.declared.memory_disk.MemoryDisk.{MemoryDisk}
use Rattle.mqb_disk.specs.Views.{memory_view, contents, room}

-- past moments are not told
pub memory_lawful : (d : MemoryDisk) → Lawful (memory_view d)
memory_lawful d = record {
  one = λ a b is other. is ∙ sym other;
  is_left = λ c is. inl is;
  only_now = λ c none. absurd none;
  counts_now = λ keeps t le c left. absurd (subst (λ (b : Bool). cond b ⊥ (Unit {0})) keeps tt);
  tells = λ keeps. absurd (subst (λ (b : Bool). cond b ⊥ (Unit {0})) keeps tt);
  bound = λ c left. (let fits : length c ≤ d.current.room = left_within d.current.room
      d.changes.items d.safe.contents d.current.contents c d.fit d.safe_within d.within left in
      omega (arith, fits, d.bounded));
}
