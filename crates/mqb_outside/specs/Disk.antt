use Rattle.std.specs.Prelude.{◌≡◌, ◌⊎◌, ℕ, ◌+◌, ◌≤◌, min, max, Bool, true, List, length, Option}
use Rattle.mqb_outside.specs.Faults.{END}
use Rattle.mqb_outside.specs.declared.power.Pick.{Pick}
use Rattle.mqb_outside.specs.Images.{Each, Same}
use Rattle.mqb_outside.specs.declared.disk.TheConstants.{MAX_DISK}

-- what was asked of a power switch, which no call of a disk changes
pub record Switch : Type 0 where
  pub arms : ℕ
  pub restarts : ℕ
  pub last_pick : Option Pick
  -- what the last restart left
  pub last_left : Option (List ℕ)

-- all that is told of a disk; where contents are not told, there are none
pub record View : Type 1 where
  -- what a read gives
  pub reads : List ℕ → Type 0
  -- what a crash at this moment may leave
  pub leaves : List ℕ → Type 0
  -- the moment, as a number that does not fall
  pub moment : ℕ
  -- what a crash at some moment from that one on might have left
  pub since : ℕ → List ℕ → Type 0
  -- it keeps the list of its calls, so that since tells all of these
  pub keeps_calls : Bool
  -- how many calls were made of it
  pub calls : ℕ
  -- how often it has failed
  pub faults : ℕ
  -- where the furthest read that was asked for ends
  pub reached : ℕ
  pub switch : Switch

-- a crash leaves nothing else than what a read gives
abbrev pub IsSettled : View → Type 0
IsSettled d = Each d.leaves d.reads

-- what a read gives and what a crash may leave stay
pub record Unchanged (old new : View) : Type 0 where
  pub reads : Same old.reads new.reads
  pub leaves : Same old.leaves new.leaves

-- Time goes on: a crash since t might have left what it might have left before, or
-- what it may leave now.
pub record Elapses (old new : View) : Type 0 where
  pub later : old.moment ≤ new.moment
  pub nothing_else : (t : ℕ) (c : List ℕ) → t ≤ old.moment → new.since t c
      → old.since t c ⊎ new.leaves c
  pub keeps : (t : ℕ) (c : List ℕ) → t ≤ old.moment → old.since t c → new.since t c
  pub keeping : new.keeps_calls ≡ old.keeps_calls

-- A crash now leaves a content that has P, and so does a crash at any moment since old, where
-- such moments are told.
pub record LeavesOnly (old new : View) (P : List ℕ → Type 0) : Type 0 where
  pub now : Each new.leaves P
  pub later : old.moment ≤ new.moment
  pub each : Each (new.since old.moment) P
  -- for a run that began earlier
  pub before : (t : ℕ) (c : List ℕ) → t ≤ old.moment → new.since t c → old.since t c ⊎ P c
  pub keeping : new.keeps_calls ≡ old.keeps_calls

-- after calls that only read: no new content is left at any moment of them
pub record OnlyReads (old new : View) : Type 0 where
  pub unchanged : Unchanged old new
  pub run : LeavesOnly old new old.leaves
  pub switch : new.switch ≡ old.switch

-- a count went up by n, or as far as its end
pub record Counted (n before now : ℕ) : Type 0 where
  pub later : before ≤ now
  pub sum : now ≡ min (before + n) END

-- a count went up by n at most
pub record AtMost (n before now : ℕ) : Type 0 where
  pub later : before ≤ now
  pub most : now ≤ before + n

-- where reads end after one more, of n bytes from a place on; such places end where counts do
abbrev pub reached_by : ℕ → ℕ → ℕ → ℕ
reached_by at n reached = max reached (min (at + n) END)

-- laws of what is told
pub record Lawful (d : View) : Type 0 where
  -- a read gives one content
  pub one : (a b : List ℕ) → d.reads a → d.reads b → a ≡ b
  -- a disk as it reads is one of its images
  pub is_left : Each d.reads d.leaves
  -- since this moment there is no other
  pub only_now : Each (d.since d.moment) d.leaves
  -- this moment is one of those since an earlier one
  pub counts_now : d.keeps_calls ≡ true → (t : ℕ) → t ≤ d.moment → Each d.leaves (d.since t)
  -- a disk that keeps its calls tells what a read gives
  pub tells : d.keeps_calls ≡ true → (c : List ℕ) × d.reads c
  -- neither what a read gives nor what a crash may leave is longer than a disk can be
  pub bound : Each d.leaves (λ c. length c ≤ MAX_DISK)
