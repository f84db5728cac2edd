-- Lemmas of Disks.
use Rattle.std.proofs.Common.{subst, sym, ◌∙◌, arith}
use Rattle.std.specs.Prelude.{[], ◌≡◌, ◌≤◌, List, length, refl, ℕ}
use Rattle.mqb_outside.specs.Disk.{Lawful}
use Rattle.mqb_outside.specs.declared.disk.TheConstants.{MAX_DISK}
use Rattle.mqb.specs.declared.no_disk.NoDisk.{NoDisk}
use Rattle.mqb.specs.Disks.{no_disk_view}

none_bound : (c : List ℕ) → c ≡ [] → length c ≤ MAX_DISK
none_bound c none = subst (λ (x : List ℕ). length x ≤ MAX_DISK) (sym none) (omega arith)

pub no_disk_lawful : (d : NoDisk) → Lawful (no_disk_view d)
no_disk_lawful d = record {
  one = λ a b none other. none ∙ sym other;
  is_left = λ c none. none;
  only_now = λ c none. none;
  counts_now = λ keeps t le c none. none;
  tells = λ keeps. ([], refl);
  bound = none_bound;
}
