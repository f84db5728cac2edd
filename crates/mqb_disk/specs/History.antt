use Rattle.std.specs.Prelude.{◌≡◌, ◌⊎◌, ℕ, ◌+◌, ◌≤◌, List, [], ◌∷◌, ◌++◌, length, take, drop}
use Rattle.std.specs.Prelude.{map, reverse}
use Rattle.mqb_outside.specs.Images.{Torn, MayBeCut}
use Rattle.mqb_disk.specs.declared.trace_disk.Call.{Call}
use Rattle.mqb_disk.specs.declared.trace_disk.Call.TheVariants as call

-- a call that changed a disk
pub data Event : Type 0 where
  Wrote : ℕ → List ℕ → Event
  WasCut : ℕ → Event
  Synced : Event

-- where a call's bytes end in the bytes that are kept
abbrev pub end_of : Call → ℕ
end_of (call.Wrote at from n) = from + n
end_of (call.Cut n) = 0
end_of call.Synced = 0

abbrev pub fits : ℕ → Call → Type 0
fits size one = end_of one ≤ size

abbrev pub event_of : List ℕ → Call → Event
event_of bytes (call.Wrote at from n) = Wrote at (take n (drop from bytes))
event_of bytes (call.Cut n) = WasCut n
event_of bytes call.Synced = Synced

-- the events of these calls, the last of them first
abbrev pub history : List ℕ → List Call → List Event
history bytes calls = reverse (map (event_of bytes) calls)

-- what a read gives after these events
abbrev pub held : List Event → List ℕ
held [] = []
held (Wrote at bytes ∷ events) =
    take at (held events) ++ bytes ++ drop (at + length bytes) (held events)
held (WasCut n ∷ events) = take n (held events)
held (Synced ∷ events) = held events

-- what a crash may leave after these events
abbrev pub ImageAt : List Event → List ℕ → Type 0
ImageAt [] c = c ≡ []
ImageAt (Wrote at bytes ∷ events) c = (c ≡ held (Wrote at bytes ∷ events))
    ⊎ ((d : List ℕ) × ImageAt events d × Torn at (length bytes) d c)
ImageAt (WasCut n ∷ events) c =
    (c ≡ held (WasCut n ∷ events)) ⊎ ((d : List ℕ) × ImageAt events d × MayBeCut n d c)
ImageAt (Synced ∷ events) c = c ≡ held events

-- what a crash might have left after at least t of these events
abbrev pub Since : List Event → ℕ → List ℕ → Type 0
Since [] t c = (t ≤ 0) × ImageAt [] c
Since (event ∷ events) t c =
    ((t ≤ length (event ∷ events)) × ImageAt (event ∷ events) c) ⊎ Since events t c

-- where the bytes of an event end on the disk
abbrev pub reach_of : Event → ℕ
reach_of (Wrote at bytes) = at + length bytes
reach_of (WasCut n) = 0
reach_of Synced = 0

abbrev pub reaches_within : ℕ → Event → Type 0
reaches_within room event = reach_of event ≤ room
