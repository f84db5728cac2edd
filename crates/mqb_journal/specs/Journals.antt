use Rattle.std.specs.Prelude.{◌≡◌, ℕ, ◌+◌, List, length, true, false, IfSome, Option, Some, None}
use Rattle.std.specs.Prelude.{Result, Ok, Err}
use Rattle.std.specs.List.{All}
use Rattle.mqb_outside.specs.Images.{Each}
use Rattle.mqb_outside.specs.Disk.{View}
use Rattle.mqb_journal.specs.Store.{Base, Nothing, After, count_of, bytes_in, HasFront, HasChain}
use Rattle.mqb_journal.specs.Store.{IsSmall, chain}
use Rattle.mqb_layout.specs.Layouts.{layout_of}
use Rattle.mqb_layout.specs.declared.limits.TheConstants.{HEADER}
use Rattle.mqb_layout.specs.declared.layout.Layout.{Layout}
use Rattle.mqb_journal.specs.States.{JournalState, ScanState}
use Rattle.mqb_journal.specs.Scan.{BeginsWith}
use Rattle.mqb_layout.specs.Gates.{HasGate}
use Rattle.mqb_journal.specs.declared.faults.AppendFault.{AppendFault}
use Rattle.mqb_journal.specs.declared.faults.AppendFault.TheVariants as append
use Rattle.mqb_journal.specs.declared.faults.CheckpointFault.{CheckpointFault}
use Rattle.mqb_journal.specs.declared.faults.CheckpointFault.TheVariants as fault

-- how an image lies that has this base
abbrev pub layout_in : Base → List ℕ → Option Layout
layout_in Nothing image = None
layout_in (After count bytes) image = Some (layout_of image)

-- It stands for them, lies so, and has its first gate at a place.
pub record StandsIn (guid : List ℕ) (later : Option Layout) (first : ℕ) (base : Base)
    (records : List (List ℕ)) (image : List ℕ) : Type 0 where
  pub front : HasFront guid base first image
  pub laid : layout_in base image ≡ later
  pub stands : HasChain first records image

-- A disk stands for the base and the records that this journal goes on from.
-- Of version 1 it is known where the first gate stands also of a disk that tells no contents.
pub record GoesOn (d : View) (j : JournalState) (base : Base)
    (records : List (List ℕ)) : Type 0 where
  pub first : ℕ
  pub behind : j.later ≡ None → first ≡ HEADER
  pub stands : Each d.reads (StandsIn j.guid.0 j.later first base records)
  pub small : All IsSmall records
  pub end : j.end ≡ first + length (chain records)
  pub count : j.count ≡ count_of base + length records
  pub up : j.down ≡ false

-- These contents have a front with this GUID, so many records before it, and this base.
pub record IsFrontOf (told : List ℕ → Type 0) (guid : List ℕ) (later : Option Layout)
    (first count : ℕ) (held : Option (List ℕ)) : Type 0 where
  pub base : Base
  pub front : Each told (HasFront guid base first)
  pub laid : Each told (λ c. layout_in base c ≡ later)
  pub behind : later ≡ None → first ≡ HEADER
  pub counted : count ≡ count_of base
  pub held_is : bytes_in base ≡ held

-- a scan of this disk has lent these records, behind this base
pub record Lent (d : View) (s : ScanState) (base : Base) (records : List (List ℕ)) : Type 0 where
  pub first : ℕ
  pub behind : s.later ≡ None → first ≡ HEADER
  pub front : Each d.reads (HasFront s.guid.0 base first)
  pub laid : Each d.reads (λ c. layout_in base c ≡ s.later)
  pub begins : Each d.reads (BeginsWith first records s.gate)
  pub long : Each d.reads (λ c. s.len ≡ length c)
  pub small : All IsSmall records
  pub place : s.gate ≡ first + length (chain records)
  pub count : s.count ≡ count_of base + length records
  pub held : IfSome s.base (λ bytes. bytes_in base ≡ Some bytes)
  pub gate : Each d.reads (HasGate s.gate s.is_open)
  pub shut : s.ended ≡ true → s.is_open ≡ false

-- an append that did not begin
abbrev pub Refused : {T : Type 0} → Result T AppendFault → Type 0
Refused (Ok _) = ⊥
Refused (Err append.Down) = Unit {0}
Refused (Err append.TooLarge) = Unit {0}
Refused (Err append.Memory) = Unit {0}
Refused (Err append.DiskFault) = ⊥

-- a checkpoint that did not begin
abbrev pub RefusedBase : {T : Type 0} → Result T CheckpointFault → Type 0
RefusedBase (Ok _) = ⊥
RefusedBase (Err fault.Down) = Unit {0}
RefusedBase (Err fault.TooFar) = Unit {0}
RefusedBase (Err fault.TooLarge) = Unit {0}
RefusedBase (Err fault.Memory) = Unit {0}
RefusedBase (Err fault.DiskFault) = ⊥
