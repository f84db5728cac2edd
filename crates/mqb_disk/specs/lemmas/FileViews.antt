-- Lemmas of FileViews.
use Rattle.std.specs.Prelude.{Bool, cond}
use Rattle.std.proofs.Common.{subst}
use Rattle.mqb_outside.specs.Disk.{Lawful}
use Rattle.mqb_disk.specs.declared.file_disk.FileDisk.{FileDisk}
use Rattle.mqb_disk.specs.FileViews.{file_view}

pub file_lawful : (d : FileDisk) → Lawful (file_view d)
file_lawful d = record {
  one = λ a b none other. absurd none;
  is_left = λ c none. none;
  only_now = λ c none. none;
  counts_now = λ keeps t le c none. none;
  tells = λ keeps. absurd (subst (λ (b : Bool). cond b ⊥ (Unit {0})) keeps tt);
  bound = λ c none. absurd none;
}
