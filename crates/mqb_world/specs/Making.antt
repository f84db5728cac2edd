-- The disks on which two managers are made.
use Rattle.std.specs.Prelude.{[], ◌<◌, ◌≡◌, ◌⊎◌, length}
use Rattle.mqb_outside.specs.Disk.{OnlyReads, View}
use Rattle.mqb_outside.specs.Images.{Each}

-- a disk has no bytes
abbrev pub IsEmpty : View → Type 0
IsEmpty d = Each d.reads (λ c. c ≡ [])

-- it has some
abbrev pub HasBytes : View → Type 0
HasBytes d = Each d.reads (λ c. 0 < length c)

-- Where one of two disks has bytes, both are only read.
abbrev pub KeepBytes : (first first_now second second_now : View) → Type 0
KeepBytes first first_now second second_now =
    HasBytes first ⊎ HasBytes second → OnlyReads first first_now × OnlyReads second second_now
