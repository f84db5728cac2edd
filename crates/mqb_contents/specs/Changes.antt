-- The changes of a state, one by one: what each makes of the lists and of their rooms, and the
-- change that takes it back.
use Rattle.std.specs.Option.{option_map_or}
use Rattle.std.specs.Prelude.{[], ◌++◌, ◌+◌, ◌<◌, ◌≡◌, ◌≤◌, ◌∷◌, IsSomeAnd, List, None, insert}
use Rattle.std.specs.Prelude.{length, remove, slice_get, ℕ}
use Rattle.mqb_base.specs.Rooms.{WithRooms}
use Rattle.mqb_plain.specs.Plain as plain
use Rattle.mqb_plain.specs.Plain.{no_plain, outgoing_in}
use Rattle.mqb_queue.specs.Lists.{inserted, messages_in}
use Rattle.mqb_queue.specs.Places.{found, lists_at, new_queue, no_queue_room}
use Rattle.mqb_tables.specs.mqb_model.declared.limits.TheConstants.{MAX_PEERS, MAX_QUEUES}
use Rattle.mqb_tables.specs.mqb_model.records.Peer.{with_new_queue, with_peer}
use Rattle.mqb_tables.specs.mqb_model.rules.Purges.{count_at}
use Rattle.mqb_tables.specs.mqb_model.rules.Takes.{message_at}
use Rattle.mqb_tables.specs.mqb_model.state.Places.{with_place, with_plain, without_at}
use Rattle.mqb_tables.specs.mqb_model.state.State.{State}
use Rattle.mqb_tables.specs.Keys.{HasKey, in_key, out_key, same_in_key, same_out_key}
use Rattle.mqb_tables.specs.Ends.{last_else, last_of, without_last}
use Rattle.mqb_contents.specs.Rooms.{StateRooms, kept_room, place_room}
use Rattle.mqb_tables.specs.Rooms.{plain_room}
use Rattle.mqb_contents.specs.Rows.{CanKeep, IsBegun, KeepsCommitted, begun_row, deciding, keeping}
use Rattle.mqb_contents.specs.Rows.{kept_count, marks_of, with_in, with_marks, with_out}
use Rattle.mqb_tables.specs.Waits.{CanWait, plain_count}
use Rattle.mqb_contents.specs.Seen.{counters_of}
use Rattle.mqb_contents.specs.declared.change.Change.{Change}
use Rattle.mqb_contents.specs.declared.change.Change.TheVariants as change

-- the lists after a change
abbrev pub lists_after : State → Change → State
lists_after s (change.Insert at kind k m) = with_place (inserted kind k m) s at
lists_after s (change.Remove at kind k) = without_at kind s at k
lists_after s (change.InsertPlain peer kind k o) = with_plain (plain.inserted kind k o) s peer
lists_after s (change.RemovePlain peer kind k) = with_plain (plain.without kind k) s peer
lists_after s (change.InsertKept row k kept) =
    with_out (λ r. keeping (insert r.kept k kept) r) s row
lists_after s (change.RemoveKept row k) = with_out (λ r. keeping (remove r.kept k) r) s row
lists_after s (change.Mark row marks) = with_out (with_marks marks) s row
lists_after s (change.AddRow r) =
    record s { outs = s.outs ++ begun_row r.peer r.destination r.sequence ∷ [] }
lists_after s change.DropRow = record s { outs = without_last s.outs }
lists_after s (change.Decide k sequence last) = with_in (deciding sequence last) s k
lists_after s (change.AddIn row) = record s { ins = s.ins ++ row ∷ [] }
lists_after s change.DropIn = record s { ins = without_last s.ins }
lists_after s (change.AddPeer p) = with_peer s p.identity
lists_after s change.DropPeer =
    record s { peers = without_last s.peers; plain = without_last s.plain }
lists_after s (change.AddQueue q) = with_new_queue s q.plan
lists_after s change.DropQueue =
    record s { places = record s.places { queues = without_last s.places.queues } }
lists_after s (change.Count c) = record s {
  next_number = c.next_number;
  next_ordinal = c.next_ordinal;
  roll = c.roll;
  next_express = c.next_express;
}

-- The rooms after a change: a row, a peer and a queue come and go with theirs.
abbrev pub rooms_after : StateRooms → Change → StateRooms
rooms_after r (change.AddRow row) =
    record r { outs = record r.outs { each = r.outs.each ++ row.room ∷ [] } }
rooms_after r change.DropRow = record r { outs = record r.outs { each = without_last r.outs.each } }
rooms_after r (change.AddPeer p) =
    record r { plain = record r.plain { each = r.plain.each ++ p.rooms ∷ [] } }
rooms_after r change.DropPeer =
    record r { plain = record r.plain { each = without_last r.plain.each } }
rooms_after r (change.AddQueue q) =
    record r { places = record r.places { queues = r.places.queues ++ q.rooms ∷ [] } }
rooms_after r change.DropQueue =
    record r { places = record r.places { queues = without_last r.places.queues } }
rooms_after r _ = r

-- both
abbrev pub changed : WithRooms State StateRooms → Change → WithRooms State StateRooms
changed w c = record { lists = lists_after w.lists c; rooms = rooms_after w.rooms c }

-- the change that takes a change back
abbrev pub inverse : WithRooms State StateRooms → Change → Change
inverse w (change.Insert at kind k m) = change.Remove at kind k
inverse w (change.Remove at kind k) = option_map_or (λ m. change.Insert at kind k m)
    (message_at kind w.lists at k) (change.Remove at kind k)
inverse w (change.InsertPlain peer kind k o) = change.RemovePlain peer kind k
inverse w (change.RemovePlain peer kind k) = option_map_or (λ p.
    option_map_or (λ o. change.InsertPlain peer kind k o) (slice_get (outgoing_in kind p) k)
    (change.RemovePlain peer kind k))
    (slice_get w.lists.plain peer) (change.RemovePlain peer kind k)
inverse w (change.InsertKept row k kept) = change.RemoveKept row k
inverse w (change.RemoveKept row k) = option_map_or (λ r.
    option_map_or (λ kept. change.InsertKept row k kept) (slice_get r.kept k)
    (change.RemoveKept row k))
    (slice_get w.lists.outs row) (change.RemoveKept row k)
inverse w (change.Mark row marks) = option_map_or (λ r. change.Mark row (marks_of r))
    (slice_get w.lists.outs row) (change.Mark row marks)
inverse w (change.AddRow r) = change.DropRow
inverse w change.DropRow = option_map_or (λ r. change.AddRow (record {
  peer = r.peer;
  destination = r.destination;
  sequence = r.sequence;
  room = last_else w.rooms.outs.each 0;
})) (last_of w.lists.outs) change.DropRow
inverse w (change.Decide k sequence last) = option_map_or (λ r. change.Decide k r.sequence r.last)
    (slice_get w.lists.ins k) (change.Decide k sequence last)
inverse w (change.AddIn row) = change.DropIn
inverse w change.DropIn =
    option_map_or (λ row. change.AddIn row) (last_of w.lists.ins) change.DropIn
inverse w (change.AddPeer p) = change.DropPeer
inverse w change.DropPeer = option_map_or (λ p.
    change.AddPeer (record { identity = p; rooms = last_else w.rooms.plain.each plain.no_room }))
    (last_of w.lists.peers) change.DropPeer
inverse w (change.AddQueue q) = change.DropQueue
inverse w change.DropQueue = option_map_or (λ q. change.AddQueue
    (record { plan = q.plan; rooms = last_else w.rooms.places.queues no_queue_room }))
    (last_of w.lists.places.queues) change.DropQueue
inverse w (change.Count c) = change.Count (counters_of w.lists)

-- A change can be made: what it names is there, and what it puts is in order.
abbrev pub Can : State → Change → Type 0
Can s (change.Insert at kind k m) =
    IsSomeAnd (lists_at s.places at) (λ l. k ≤ length (messages_in kind l))
Can s (change.Remove at kind k) =
    IsSomeAnd (lists_at s.places at) (λ l. k < length (messages_in kind l))
Can s (change.InsertPlain peer kind k o) = IsSomeAnd (slice_get s.plain peer) (CanWait kind k o)
Can s (change.RemovePlain peer kind k) =
    IsSomeAnd (slice_get s.plain peer) (λ p. k < length (outgoing_in kind p))
Can s (change.InsertKept row k kept) = IsSomeAnd (slice_get s.outs row) (CanKeep k kept)
Can s (change.RemoveKept row k) = IsSomeAnd (slice_get s.outs row) (λ r. k < length r.kept)
Can s (change.Mark row marks) =
    IsSomeAnd (slice_get s.outs row) (λ r. KeepsCommitted (with_marks marks r))
Can s (change.AddRow r) = Unit {0}
Can s change.DropRow = IsSomeAnd (last_of s.outs) IsBegun
Can s (change.Decide k sequence last) = k < length s.ins
Can s (change.AddIn row) = Unit {0}
Can s change.DropIn = 0 < length s.ins
Can s (change.AddPeer p) = length s.peers < MAX_PEERS
Can s change.DropPeer = (0 < length s.peers) × IsSomeAnd (last_of s.plain) (λ p. p ≡ no_plain)
Can s (change.AddQueue q) =
    (found s.places.queues q.plan.name ≡ None) × (length s.places.queues < MAX_QUEUES)
Can s change.DropQueue = IsSomeAnd (last_of s.places.queues) (λ q. q ≡ new_queue q.plan)
Can s (change.Count c) = Unit {0}

-- A change needs no memory.
abbrev pub HasRoom : WithRooms State StateRooms → Change → Type 0
HasRoom w (change.Insert at kind k m) = count_at kind w.lists at < place_room w.rooms.places at kind
HasRoom w (change.InsertPlain peer kind k o) =
    plain_count w.lists.plain peer kind < plain_room w.rooms.plain peer kind
HasRoom w (change.InsertKept row k kept) = kept_count w.lists.outs row < kept_room w.rooms.outs row
HasRoom w (change.AddRow r) = (length w.lists.outs < w.rooms.outs.more)
    × HasKey same_out_key w.rooms.in_use (out_key r.peer r.destination)
HasRoom w change.DropRow = 0 < length w.rooms.outs.each
HasRoom w (change.AddIn row) = (length w.lists.ins < w.rooms.ins)
    × HasKey same_in_key w.rooms.sources (in_key row.source row.destination)
HasRoom w (change.AddPeer p) =
    (length w.lists.peers < w.rooms.peers) × (length w.lists.plain < w.rooms.plain.more)
HasRoom w change.DropPeer = 0 < length w.rooms.plain.each
HasRoom w (change.AddQueue q) = length w.lists.places.queues < w.rooms.places.more_queues
HasRoom w change.DropQueue = 0 < length w.rooms.places.queues
HasRoom w _ = Unit {0}

-- A change was made: what stands then, and the change back, which can be made and needs no memory.
pub record IsMade (before : WithRooms State StateRooms) (c : Change)
    (after : WithRooms State StateRooms) (back : Change) : Type 0 where
  pub made : after ≡ changed before c
  pub back_is : back ≡ inverse before c
  pub can_back : Can after.lists back
  pub has_room : HasRoom after back

-- The first change is made first.
abbrev pub redone : State → List Change → State
redone s [] = s
redone s (c ∷ cs) = redone (lists_after s c) cs

-- the rooms after changes
abbrev pub rooms_redone : StateRooms → List Change → StateRooms
rooms_redone r [] = r
rooms_redone r (c ∷ cs) = rooms_redone (rooms_after r c) cs

-- Changes can be made in turn, and need no memory.
abbrev pub AllReady : WithRooms State StateRooms → List Change → Type 0
AllReady w [] = Unit {0}
AllReady w (c ∷ cs) = Can w.lists c × HasRoom w c × AllReady (changed w c) cs

-- how many messages a change holds
abbrev pub held : Change → ℕ
held (change.Insert at kind k m) = 1
held (change.InsertPlain peer kind k o) = 1
held (change.InsertKept row k kept) = 1
held _ = 0

-- how many messages the change back from a change holds
abbrev pub held_back : Change → ℕ
held_back (change.Remove at kind k) = 1
held_back (change.RemovePlain peer kind k) = 1
held_back (change.RemoveKept row k) = 1
held_back _ = 0

-- how many messages changes hold
abbrev pub messages : List Change → ℕ
messages [] = 0
messages (c ∷ cs) = held c + messages cs

-- how many messages the changes back from changes hold
abbrev pub messages_back : List Change → ℕ
messages_back [] = 0
messages_back (c ∷ cs) = held_back c + messages_back cs
