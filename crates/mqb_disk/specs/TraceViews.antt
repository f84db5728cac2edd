use Rattle.std.specs.Prelude.{◌≡◌, ℕ, ◌+◌, ◌-◌, List, [], ◌∷◌, ◌++◌, length, true, None, Result}
use Rattle.std.specs.Prelude.{Ok, Err}
use Rattle.mqb_outside.specs.Disk.{View}
use Rattle.mqb_disk.specs.History.{Event, history, held, ImageAt, Since}
use Rattle.mqb_disk.specs.declared.trace_disk.Call.{Call}
use Rattle.mqb_disk.specs.declared.trace_disk.TraceDisk.{TraceDisk}

-- what a disk tells after these events, so many calls and so many faults, read as far as that
abbrev pub view_of : List Event → ℕ → ℕ → ℕ → View
view_of events calls faults reached = record {
  reads = λ c. c ≡ held events;
  leaves = ImageAt events;
  moment = length events;
  since = Since events;
  keeps_calls = true;
  calls = calls;
  faults = faults;
  reached = reached;
  switch = record { arms = 0; restarts = 0; last_pick = None; last_left = None };
}

-- the calls that changed it, the last of them first
abbrev pub history_of : TraceDisk → List Event
history_of d = history d.bytes.items d.calls.items

abbrev pub trace_view : TraceDisk → View
trace_view d = view_of (history_of d) d.made d.faults d.reached

-- the calls that changed it so far, in order
abbrev pub calls_of : TraceDisk → List Call
calls_of d = d.calls.items

-- the bytes of all writes so far, in order
abbrev pub written_of : TraceDisk → List ℕ
written_of d = d.bytes.items

-- the place and the length of each read so far
abbrev pub reads_of : TraceDisk → List (ℕ × ℕ)
reads_of d = d.reads.items

-- how many bytes it can hold
abbrev pub room : TraceDisk → ℕ
room d = d.current.room

-- how many written bytes it still takes
abbrev pub bytes_left : TraceDisk → ℕ
bytes_left d = room d - length (written_of d)

-- how many calls it still takes
abbrev pub calls_left : TraceDisk → ℕ
calls_left d = d.left

-- a call that answered Ok is kept, and no other
abbrev pub Keeps : {T E : Type 0} → Event → TraceDisk → TraceDisk → Result T E → Type 0
Keeps event old new (Ok _) = history_of new ≡ event ∷ history_of old
Keeps event old new (Err _) = history_of new ≡ history_of old

-- a read that answered Ok is listed, and no other
abbrev pub Lists : {T E : Type 0} → ℕ → ℕ → TraceDisk → TraceDisk → Result T E → Type 0
Lists at count old new (Ok _) = reads_of new ≡ reads_of old ++ (at, count) ∷ []
Lists at count old new (Err _) = reads_of new ≡ reads_of old

-- a call that answered Ok takes one of those that are left, and no other does
abbrev pub Uses : {T E : Type 0} → TraceDisk → TraceDisk → Result T E → Type 0
Uses old new (Ok _) = calls_left old ≡ calls_left new + 1
Uses old new (Err _) = calls_left new ≡ calls_left old
