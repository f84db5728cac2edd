use Rattle.std.specs.Prelude.{◌≡◌, ℕ, ◌+◌, ◌^◌, ◌<◌, ◌≤◌, Bool, true, false, List, length, ◌&&◌}
use Rattle.std.specs.Prelude.{◌||◌, nat_lt, Option, Some, is_none}
use Rattle.mqb_outside.specs.declared.disk.TheConstants.{MAX_DISK}
use Rattle.mqb_base.specs.declared.ids.Guid.{Guid}
use Rattle.mqb_layout.specs.declared.layout.Layout.{Layout}
use Rattle.mqb_journal.specs.declared.limits.TheConstants.{MAX_RECORD}
use Rattle.mqb_layout.specs.declared.limits.TheConstants.{AREA, MOST_HEAD}
use Rattle.mqb_layout.specs.Layouts.{IsWithinStore, head_behind, layout_then}

-- what is seen of a journal
pub record JournalState : Type 0 where
  pub guid : Guid
  -- of version 2
  pub later : Option Layout
  -- where the closed gate stands
  pub end : ℕ
  -- how many records there were since the store was formatted
  pub count : ℕ
  -- a call has failed
  pub down : Bool
  -- the bytes that are reserved for a record with its length and a gate
  pub room : ℕ

-- after a checkpoint
abbrev pub checkpointed : JournalState → (base : ℕ) → JournalState
checkpointed j base = record j {
  later = Some (layout_then j.later j.end base);
  end = (layout_then j.later j.end base).place + AREA + base;
}

-- why none is made
abbrev pub is_too_far : JournalState → Bool
is_too_far j = (is_none j.later && nat_lt MOST_HEAD (head_behind j.end)) || nat_lt (2 ^ 63) j.count

-- with one record more, whose length is size
abbrev pub appended : JournalState → ℕ → JournalState
appended j size = record j { end = j.end + 5 + size; count = j.count + 1 }

-- what is seen of a store that is read one record at a time
pub record ScanState : Type 0 where
  pub guid : Guid
  pub later : Option Layout
  -- how long the disk is
  pub len : ℕ
  -- where the next gate stands
  pub gate : ℕ
  -- the gate of the record that was lent last, or the first gate
  pub place : ℕ
  -- how many records there were since the store was formatted, up to there
  pub count : ℕ
  -- the base, until it is taken
  pub base : Option (List ℕ)
  -- the record that was lent last
  pub lent : List ℕ
  -- the next gate is open
  pub is_open : Bool
  -- it was said that there is no record more
  pub ended : Bool

-- before the first record, with a buffer that has this at its front
abbrev pub begun : Guid → Option Layout → (len gate count : ℕ) → Option (List ℕ) → Bool → List ℕ
    → ScanState
begun guid later len gate count base is_open lent = record {
  guid = guid;
  later = later;
  len = len;
  gate = gate;
  place = gate;
  count = count;
  base = base;
  lent = lent;
  is_open = is_open;
  ended = false;
}

-- after it lent this record, behind which a gate stands that is open or not
abbrev pub advanced : ScanState → List ℕ → Bool → ScanState
advanced s entry is_open = record s {
  gate = s.gate + 5 + length entry;
  place = s.gate;
  count = s.count + 1;
  lent = entry;
  is_open = is_open;
  ended = false;
}

-- after the last record
abbrev pub ended : ScanState → ScanState
ended s = record s { ended = true }

-- the journal that goes on from there, with this room
abbrev pub finished : ScanState → ℕ → JournalState
finished s room = record {
  guid = s.guid;
  later = s.later;
  end = s.gate;
  count = s.count;
  down = false;
  room = room;
}

-- a scan stands within the disk, and its record and the gate behind it within the buffer
pub record IsWithin (len gate place count held buffer : ℕ) (later : Option Layout) : Type 0 where
  pub bound : len ≤ MAX_DISK
  pub within : gate < len
  pub behind : place ≤ gate
  pub counted : count ≤ 2 ^ 63 + gate
  pub small : held ≤ MAX_RECORD
  pub room : buffer ≡ MAX_RECORD + 1
  pub laid : IsWithinStore later gate
