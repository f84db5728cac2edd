-- A change and the change back.
use Rattle.std.proofs.Common.{◌≡◌, ℕ, ◌-◌, ◌<◌, ◌≤◌, List, [], ◌∷◌, ◌++◌, length, Option, Some, refl, sym, ap, ◌∙◌, arith}
use Rattle.std.specs.Prelude.{slice_get}
use Rattle.std.specs.List.{insert, remove}
use Rattle.std.specs.Option.{option_and_then, option_map_or}
use Rattle.mqb_base.specs.Rooms.{WithRooms}
use Rattle.mqb_base.specs.declared.ids.Identity.{Identity}
use Rattle.mqb_base.specs.declared.ids.SequenceId.{SequenceId}
use Rattle.mqb_base.specs.declared.message.Lane.{Lane}
use Rattle.mqb_base.specs.declared.message.Lane.TheVariants as lane
use Rattle.mqb_base.specs.declared.message.Message.{Message}
use Rattle.mqb_base.specs.declared.queues.EntryPlace.{EntryPlace}
use Rattle.mqb_orders.specs.Rows.{Row}
use Rattle.mqb_orders.specs.declared.kept.Kept.{Kept}
use Rattle.mqb_orders.specs.declared.rows.InRow.{InRow}
use Rattle.mqb_plain.specs.Plain as plain
use Rattle.mqb_plain.specs.Plain.{PlainLists, PlainRooms, no_plain, outgoing_in}
use Rattle.mqb_plain.specs.declared.outgoing.Outgoing.{Outgoing}
use Rattle.mqb_queue.specs.Lists.{Lists, inserted, messages_in, without}
use Rattle.mqb_queue.specs.Places.{Places, Queue, QueueRooms, lists_at, new_queue, no_queue_room}
use Rattle.mqb_tables.specs.mqb_model.state.State.{State}
use Rattle.mqb_contents.specs.Changes.{Can, HasRoom, changed, held, held_back, inverse, lists_after, rooms_after}
use Rattle.mqb_tables.specs.Ends.{last_else, last_of, without_last}
use Rattle.mqb_contents.specs.Rooms.{StateRooms}
use Rattle.mqb_contents.specs.Rows.{CanKeep, IsBegun, KeepsCommitted, begun_row, deciding, keeping, marks_of, with_marks}
use Rattle.mqb_tables.specs.Waits.{CanWait}
use Rattle.mqb_contents.specs.declared.change.Change.{Change}
use Rattle.mqb_contents.specs.declared.change.Change.TheVariants as change
use Rattle.mqb_contents.specs.declared.marks.RowMarks.{RowMarks}
use Rattle.mqb_tables.proofs.Members.{at_some, changed_back, insert-remove, pushed_without_last, remove-insert, there, without_last_else, without_last_pushed}
use Rattle.mqb_contents.proofs.Places.{place_back}

abbrev Whole : Type 0
Whole = WithRooms State StateRooms

-- ---- lanes

inserted_back : (kind : Lane) (k : ℕ) (m : Message) (l : Lists) → k ≤ length (messages_in kind l) → without kind k (inserted kind k m l) ≡ l
inserted_back lane.Durable k m l h = ap (λ ms. record l { durable = ms }) (remove-insert l.durable k m h)
inserted_back lane.Express k m l h = ap (λ ms. record l { express = ms }) (remove-insert l.express k m h)

removed_back : (kind : Lane) (k : ℕ) (m : Message) (l : Lists) → slice_get (messages_in kind l) k ≡ Some m → inserted kind k m (without kind k l) ≡ l
removed_back lane.Durable k m l h = ap (λ ms. record l { durable = ms }) (insert-remove l.durable k m h)
removed_back lane.Express k m l h = ap (λ ms. record l { express = ms }) (insert-remove l.express k m h)

plain_inserted_back : (kind : Lane) (k : ℕ) (o : Outgoing) (p : PlainLists) → k ≤ length (outgoing_in kind p) → plain.without kind k (plain.inserted kind k o p) ≡ p
plain_inserted_back lane.Durable k o p h = ap (λ os. record p { recoverable = os }) (remove-insert p.recoverable k o h)
plain_inserted_back lane.Express k o p h = ap (λ os. record p { express = os }) (remove-insert p.express k o h)

plain_removed_back : (kind : Lane) (k : ℕ) (o : Outgoing) (p : PlainLists) → slice_get (outgoing_in kind p) k ≡ Some o → plain.inserted kind k o (plain.without kind k p) ≡ p
plain_removed_back lane.Durable k o p h = ap (λ os. record p { recoverable = os }) (insert-remove p.recoverable k o h)
plain_removed_back lane.Express k o p h = ap (λ os. record p { express = os }) (insert-remove p.express k o h)

-- ---- the change back, where a change can be made

module _ (w : Whole) where
  pub back_in : (at : EntryPlace) (kind : Lane) (k : ℕ) → Can w.lists (change.Remove at kind k)
      → (l : Lists) × (m : Message) × (lists_at w.lists.places at ≡ Some l) × (slice_get (messages_in kind l) k ≡ Some m)
      × (inverse w (change.Remove at kind k) ≡ change.Insert at kind k m)
  back_in at kind k h =
      let a = at_some (λ l. k < length (messages_in kind l)) (lists_at w.lists.places at) h in
      let m = there (messages_in kind a.0) k a.2 in (
        a.0,
        m.0,
        a.1,
        m.1,
        ap (λ (o : Option Lists). option_map_or (λ m. change.Insert at kind k m) (option_and_then (λ l. slice_get (messages_in kind l) k) o) (change.Remove at kind k)) a.1
            ∙ ap (λ (o : Option Message). option_map_or (λ m. change.Insert at kind k m) o (change.Remove at kind k)) m.1,
      )

  pub back_in_plain : (peer : ℕ) (kind : Lane) (k : ℕ) → Can w.lists (change.RemovePlain peer kind k)
      → (p : PlainLists) × (o : Outgoing) × (slice_get w.lists.plain peer ≡ Some p) × (slice_get (outgoing_in kind p) k ≡ Some o)
      × (inverse w (change.RemovePlain peer kind k) ≡ change.InsertPlain peer kind k o)
  back_in_plain peer kind k h =
      let a = at_some (λ p. k < length (outgoing_in kind p)) (slice_get w.lists.plain peer) h in
      let o = there (outgoing_in kind a.0) k a.2 in (
        a.0,
        o.0,
        a.1,
        o.1,
        ap (λ (q : Option PlainLists). option_map_or (λ p. option_map_or (λ o. change.InsertPlain peer kind k o) (slice_get (outgoing_in kind p) k)
            (change.RemovePlain peer kind k)) q (change.RemovePlain peer kind k)) a.1
            ∙ ap (λ (q : Option Outgoing). option_map_or (λ o. change.InsertPlain peer kind k o) q (change.RemovePlain peer kind k)) o.1,
      )

  pub back_kept : (row k : ℕ) → Can w.lists (change.RemoveKept row k)
      → (r : Row) × (x : Kept) × (slice_get w.lists.outs row ≡ Some r) × (slice_get r.kept k ≡ Some x)
      × (inverse w (change.RemoveKept row k) ≡ change.InsertKept row k x)
  back_kept row k h =
      let a = at_some (λ r. k < length r.kept) (slice_get w.lists.outs row) h in
      let x = there a.0.kept k a.2 in (
        a.0,
        x.0,
        a.1,
        x.1,
        ap (λ (q : Option Row). option_map_or (λ r. option_map_or (λ x. change.InsertKept row k x) (slice_get r.kept k) (change.RemoveKept row k)) q
            (change.RemoveKept row k)) a.1
            ∙ ap (λ (q : Option Kept). option_map_or (λ x. change.InsertKept row k x) q (change.RemoveKept row k)) x.1,
      )

  pub back_marked : (row : ℕ) (marks : RowMarks) → Can w.lists (change.Mark row marks)
      → (r : Row) × (slice_get w.lists.outs row ≡ Some r) × (inverse w (change.Mark row marks) ≡ change.Mark row (marks_of r))
  back_marked row marks h =
      let a = at_some (λ r. KeepsCommitted (with_marks marks r)) (slice_get w.lists.outs row) h in
      (a.0, a.1, ap (λ (q : Option Row). option_map_or (λ r. change.Mark row (marks_of r)) q (change.Mark row marks)) a.1)

  pub back_decided : (k : ℕ) (sequence : SequenceId) (last : ℕ) → Can w.lists (change.Decide k sequence last)
      → (r : InRow) × (slice_get w.lists.ins k ≡ Some r) × (inverse w (change.Decide k sequence last) ≡ change.Decide k r.sequence r.last)
  back_decided k sequence last h =
      let a = there w.lists.ins k h in
      (a.0, a.1, ap (λ (q : Option InRow). option_map_or (λ r. change.Decide k r.sequence r.last) q (change.Decide k sequence last)) a.1)

  pub row_back : Can w.lists change.DropRow
      → (r : Row) × (last_of w.lists.outs ≡ Some r) × (r ≡ begun_row r.peer r.destination r.sequence)
      × (inverse w change.DropRow ≡ change.AddRow (record { peer = r.peer; destination = r.destination; sequence = r.sequence; room = last_else w.rooms.outs.each 0 }))
  row_back h =
      let a = at_some IsBegun (last_of w.lists.outs) h in (
        a.0,
        a.1,
        a.2,
        ap (λ (q : Option Row). option_map_or (λ r. change.AddRow (record {
          peer = r.peer;
          destination = r.destination;
          sequence = r.sequence;
          room = last_else w.rooms.outs.each 0;
        })) q change.DropRow) a.1,
      )

  pub in_back : Can w.lists change.DropIn → (r : InRow) × (last_of w.lists.ins ≡ Some r) × (inverse w change.DropIn ≡ change.AddIn r)
  in_back h =
      let a = there w.lists.ins (length w.lists.ins - 1) (omega (arith, h)) in
      (a.0, a.1, ap (λ (q : Option InRow). option_map_or (λ r. change.AddIn r) q change.DropIn) a.1)

  pub peer_back : Can w.lists change.DropPeer
      → (p : Identity) × (last_of w.lists.peers ≡ Some p) × (last_of w.lists.plain ≡ Some no_plain)
      × (inverse w change.DropPeer ≡ change.AddPeer (record { identity = p; rooms = last_else w.rooms.plain.each plain.no_room }))
  peer_back h =
      let a = there w.lists.peers (length w.lists.peers - 1) (let some : 0 < length w.lists.peers = h.0 in omega (arith, some)) in
      let b = at_some (λ p. p ≡ no_plain) (last_of w.lists.plain) h.1 in (
        a.0,
        a.1,
        b.1 ∙ ap Some b.2,
        ap (λ (q : Option Identity). option_map_or (λ p. change.AddPeer (record { identity = p; rooms = last_else w.rooms.plain.each plain.no_room })) q change.DropPeer) a.1,
      )

  pub queue_back : Can w.lists change.DropQueue
      → (q : Queue) × (last_of w.lists.places.queues ≡ Some q) × (q ≡ new_queue q.plan)
      × (inverse w change.DropQueue ≡ change.AddQueue (record { plan = q.plan; rooms = last_else w.rooms.places.queues no_queue_room }))
  queue_back h =
      let a = at_some (λ q. q ≡ new_queue q.plan) (last_of w.lists.places.queues) h in
      (a.0, a.1, a.2, ap (λ (o : Option Queue). option_map_or (λ q. change.AddQueue (record { plan = q.plan; rooms = last_else w.rooms.places.queues no_queue_room })) o change.DropQueue) a.1)

-- ---- the lists are as before

pub lists_back : (w : Whole) (c : Change) → Can w.lists c → lists_after (lists_after w.lists c) (inverse w c) ≡ w.lists
lists_back w (change.Insert at kind k m) h =
    let a = at_some (λ l. k ≤ length (messages_in kind l)) (lists_at w.lists.places at) h in
    ap (λ (p : Places). record w.lists { places = p }) (place_back w.lists.places at a.0 (inserted kind k m) (without kind k) a.1 (inserted_back kind k m a.0 a.2))
lists_back w (change.Remove at kind k) h =
    let b = back_in w at kind k h in
    ap (lists_after (lists_after w.lists (change.Remove at kind k))) b.4
    ∙ ap (λ (p : Places). record w.lists { places = p }) (place_back w.lists.places at b.0 (without kind k) (inserted kind k b.1) b.2 (removed_back kind k b.1 b.0 b.3))
lists_back w (change.InsertPlain peer kind k o) h =
    let a = at_some (CanWait kind k o) (slice_get w.lists.plain peer) h in
    ap (λ (l : List PlainLists). record w.lists { plain = l })
    (changed_back (plain.inserted kind k o) (plain.without kind k) w.lists.plain peer a.0 a.1 (plain_inserted_back kind k o a.0 a.2.0))
lists_back w (change.RemovePlain peer kind k) h =
    let b = back_in_plain w peer kind k h in
    ap (lists_after (lists_after w.lists (change.RemovePlain peer kind k))) b.4
    ∙ ap (λ (l : List PlainLists). record w.lists { plain = l })
    (changed_back (plain.without kind k) (plain.inserted kind k b.1) w.lists.plain peer b.0 b.2 (plain_removed_back kind k b.1 b.0 b.3))
lists_back w (change.InsertKept row k x) h =
    let a = at_some (CanKeep k x) (slice_get w.lists.outs row) h in
    ap (λ (l : List Row). record w.lists { outs = l })
    (changed_back (λ r. keeping (insert r.kept k x) r) (λ r. keeping (remove r.kept k) r) w.lists.outs row a.0 a.1
    (ap (λ l. keeping l a.0) (remove-insert a.0.kept k x a.2.0)))
lists_back w (change.RemoveKept row k) h =
    let b = back_kept w row k h in
    ap (lists_after (lists_after w.lists (change.RemoveKept row k))) b.4
    ∙ ap (λ (l : List Row). record w.lists { outs = l })
    (changed_back (λ r. keeping (remove r.kept k) r) (λ r. keeping (insert r.kept k b.1) r) w.lists.outs row b.0 b.2
    (ap (λ l. keeping l b.0) (insert-remove b.0.kept k b.1 b.3)))
lists_back w (change.Mark row marks) h =
    let b = back_marked w row marks h in
    ap (lists_after (lists_after w.lists (change.Mark row marks))) b.2
    ∙ ap (λ (l : List Row). record w.lists { outs = l }) (changed_back (with_marks marks) (with_marks (marks_of b.0)) w.lists.outs row b.0 b.1 refl)
lists_back w (change.AddRow r) h =
    ap (λ (l : List Row). record w.lists { outs = l }) (pushed_without_last w.lists.outs (begun_row r.peer r.destination r.sequence))
lists_back w change.DropRow h =
    let b = row_back w h in
    ap (lists_after (lists_after w.lists change.DropRow)) b.3
    ∙ (ap (λ (r : Row). record w.lists { outs = without_last w.lists.outs ++ r ∷ [] }) (sym b.2)
    ∙ ap (λ (l : List Row). record w.lists { outs = l }) (without_last_pushed w.lists.outs b.0 b.1))
lists_back w (change.Decide k sequence last) h =
    let b = back_decided w k sequence last h in
    ap (lists_after (lists_after w.lists (change.Decide k sequence last))) b.2
    ∙ ap (λ (l : List InRow). record w.lists { ins = l }) (changed_back (deciding sequence last) (deciding b.0.sequence b.0.last) w.lists.ins k b.0 b.1 refl)
lists_back w (change.AddIn r) h = ap (λ (l : List InRow). record w.lists { ins = l }) (pushed_without_last w.lists.ins r)
lists_back w change.DropIn h =
    let b = in_back w h in
    ap (lists_after (lists_after w.lists change.DropIn)) b.2
    ∙ ap (λ (l : List InRow). record w.lists { ins = l }) (without_last_pushed w.lists.ins b.0 b.1)
lists_back w (change.AddPeer p) h =
    ap (λ (l : List Identity). record w.lists { peers = l; plain = without_last (w.lists.plain ++ no_plain ∷ []) }) (pushed_without_last w.lists.peers p.identity)
    ∙ ap (λ (l : List PlainLists). record w.lists { plain = l }) (pushed_without_last w.lists.plain no_plain)
lists_back w change.DropPeer h =
    let b = peer_back w h in
    ap (lists_after (lists_after w.lists change.DropPeer)) b.3
    ∙ (ap (λ (l : List Identity). record w.lists { peers = l; plain = without_last w.lists.plain ++ no_plain ∷ [] }) (without_last_pushed w.lists.peers b.0 b.1)
    ∙ ap (λ (l : List PlainLists). record w.lists { plain = l }) (without_last_pushed w.lists.plain no_plain b.2))
lists_back w (change.AddQueue q) h =
    ap (λ (l : List Queue). record w.lists { places = record w.lists.places { queues = l } }) (pushed_without_last w.lists.places.queues (new_queue q.plan))
lists_back w change.DropQueue h =
    let b = queue_back w h in
    ap (lists_after (lists_after w.lists change.DropQueue)) b.3
    ∙ (ap (λ (q : Queue). record w.lists { places = record w.lists.places { queues = without_last w.lists.places.queues ++ q ∷ [] } }) (sym b.2)
    ∙ ap (λ (l : List Queue). record w.lists { places = record w.lists.places { queues = l } }) (without_last_pushed w.lists.places.queues b.0 b.1))
lists_back w (change.Count c) h = refl

-- ---- and their rooms

pub rooms_back : (w : Whole) (c : Change) → Can w.lists c → HasRoom w c → rooms_after (rooms_after w.rooms c) (inverse w c) ≡ w.rooms
rooms_back w (change.Insert at kind k m) can h = refl
rooms_back w (change.Remove at kind k) can h = ap (rooms_after w.rooms) (back_in w at kind k can).4
rooms_back w (change.InsertPlain peer kind k o) can h = refl
rooms_back w (change.RemovePlain peer kind k) can h = ap (rooms_after w.rooms) (back_in_plain w peer kind k can).4
rooms_back w (change.InsertKept row k x) can h = refl
rooms_back w (change.RemoveKept row k) can h = ap (rooms_after w.rooms) (back_kept w row k can).4
rooms_back w (change.Mark row marks) can h = ap (rooms_after w.rooms) (back_marked w row marks can).2
rooms_back w (change.AddRow r) can h = ap (λ (l : List ℕ). record w.rooms { outs = record w.rooms.outs { each = l } }) (pushed_without_last w.rooms.outs.each r.room)
rooms_back w change.DropRow can h =
    ap (rooms_after (rooms_after w.rooms change.DropRow)) (row_back w can).3
    ∙ ap (λ (l : List ℕ). record w.rooms { outs = record w.rooms.outs { each = l } }) (without_last_else w.rooms.outs.each 0 h)
rooms_back w (change.Decide k sequence last) can h = ap (rooms_after w.rooms) (back_decided w k sequence last can).2
rooms_back w (change.AddIn r) can h = refl
rooms_back w change.DropIn can h = ap (rooms_after w.rooms) (in_back w can).2
rooms_back w (change.AddPeer p) can h =
    ap (λ (l : List PlainRooms). record w.rooms { plain = record w.rooms.plain { each = l } }) (pushed_without_last w.rooms.plain.each p.rooms)
rooms_back w change.DropPeer can h =
    ap (rooms_after (rooms_after w.rooms change.DropPeer)) (peer_back w can).3
    ∙ ap (λ (l : List PlainRooms). record w.rooms { plain = record w.rooms.plain { each = l } }) (without_last_else w.rooms.plain.each plain.no_room h)
rooms_back w (change.AddQueue q) can h =
    ap (λ (l : List QueueRooms). record w.rooms { places = record w.rooms.places { queues = l } }) (pushed_without_last w.rooms.places.queues q.rooms)
rooms_back w change.DropQueue can h =
    ap (rooms_after (rooms_after w.rooms change.DropQueue)) (queue_back w can).3
    ∙ ap (λ (l : List QueueRooms). record w.rooms { places = record w.rooms.places { queues = l } }) (without_last_else w.rooms.places.queues no_queue_room h)
rooms_back w (change.Count c) can h = refl

-- Both are.
pub whole_back : (w : Whole) (c : Change) → Can w.lists c → HasRoom w c → changed (changed w c) (inverse w c) ≡ w
whole_back w c can room =
    ap (λ (s : State). record { lists = s; rooms = rooms_after (rooms_after w.rooms c) (inverse w c) }) (lists_back w c can)
    ∙ ap (λ (r : StateRooms). record { lists = w.lists; rooms = r }) (rooms_back w c can room)

-- ---- what the change back holds

pub held_of_inverse : (w : Whole) (c : Change) → Can w.lists c → held (inverse w c) ≡ held_back c
held_of_inverse w (change.Insert at kind k m) h = refl
held_of_inverse w (change.Remove at kind k) h = ap held (back_in w at kind k h).4
held_of_inverse w (change.InsertPlain peer kind k o) h = refl
held_of_inverse w (change.RemovePlain peer kind k) h = ap held (back_in_plain w peer kind k h).4
held_of_inverse w (change.InsertKept row k x) h = refl
held_of_inverse w (change.RemoveKept row k) h = ap held (back_kept w row k h).4
held_of_inverse w (change.Mark row marks) h = ap held (back_marked w row marks h).2
held_of_inverse w (change.AddRow r) h = refl
held_of_inverse w change.DropRow h = ap held (row_back w h).3
held_of_inverse w (change.Decide k sequence last) h = ap held (back_decided w k sequence last h).2
held_of_inverse w (change.AddIn r) h = refl
held_of_inverse w change.DropIn h = ap held (in_back w h).2
held_of_inverse w (change.AddPeer p) h = refl
held_of_inverse w change.DropPeer h = ap held (peer_back w h).3
held_of_inverse w (change.AddQueue q) h = refl
held_of_inverse w change.DropQueue h = ap held (queue_back w h).3
held_of_inverse w (change.Count c) h = refl

pub held_back_of_inverse : (w : Whole) (c : Change) → Can w.lists c → held_back (inverse w c) ≡ held c
held_back_of_inverse w (change.Insert at kind k m) h = refl
held_back_of_inverse w (change.Remove at kind k) h = ap held_back (back_in w at kind k h).4
held_back_of_inverse w (change.InsertPlain peer kind k o) h = refl
held_back_of_inverse w (change.RemovePlain peer kind k) h = ap held_back (back_in_plain w peer kind k h).4
held_back_of_inverse w (change.InsertKept row k x) h = refl
held_back_of_inverse w (change.RemoveKept row k) h = ap held_back (back_kept w row k h).4
held_back_of_inverse w (change.Mark row marks) h = ap held_back (back_marked w row marks h).2
held_back_of_inverse w (change.AddRow r) h = refl
held_back_of_inverse w change.DropRow h = ap held_back (row_back w h).3
held_back_of_inverse w (change.Decide k sequence last) h = ap held_back (back_decided w k sequence last h).2
held_back_of_inverse w (change.AddIn r) h = refl
held_back_of_inverse w change.DropIn h = ap held_back (in_back w h).2
held_back_of_inverse w (change.AddPeer p) h = refl
held_back_of_inverse w change.DropPeer h = ap held_back (peer_back w h).3
held_back_of_inverse w (change.AddQueue q) h = refl
held_back_of_inverse w change.DropQueue h = ap held_back (queue_back w h).3
held_back_of_inverse w (change.Count c) h = refl
