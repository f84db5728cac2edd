-- The state that bytes are read as: it is valid, fits the types of a program, and is read again from its own bytes.
use Rattle.std.proofs.Common.{◌≡◌, ◌<◌, ◌^◌, ℕ, List, ◌++◌, length, map, Ok, sym, ap, subst, ◌∙◌}
use Rattle.std.proofs.lemmas.List.{length-map}
use Rattle.std.proofs.lemmas.List.Elements.{All-from_recursion, recursion_from_All}
use Rattle.std.specs.List.{flat_map}
use Rattle.std.specs.Prelude.{◌==◌, All}
use Rattle.mqb_base.specs.declared.message.Message.{Message}
use Rattle.mqb_entries.specs.Lists.{start}
use Rattle.mqb_fields.specs.Reading.{rest_of}
use Rattle.mqb_heads.specs.lemmas.ReadLaws.{if_ok}
use Rattle.mqb_model.specs.state.Durable.{durable}
use Rattle.mqb_model.specs.state.State.{State}
use Rattle.mqb_model.specs.state.Valid.{IsValidState, kept_messages, placed_messages, recoverable_messages}
use Rattle.mqb_orders.specs.Rows.{Row}
use Rattle.mqb_packet.specs.declared.packet.Headers.TheVariants.{TxAndSession}
use Rattle.mqb_plain.specs.Lists.{messages_of}
use Rattle.mqb_plain.specs.Plain.{PlainLists}
use Rattle.mqb_queue.specs.Places.{Queue}
use Rattle.mqb_snapshot.proofs.Carried.{append_left, append_right, each_of, unmapped}
use Rattle.mqb_snapshot.proofs.StateAgain.{snapshots_are_read_back}
use Rattle.mqb_snapshot.specs.Parts.{Parts}
use Rattle.mqb_snapshot.specs.Reading.{state_of}
use Rattle.mqb_snapshot.specs.Values.{AreHeld, ArePlaces, IsCounted, IsHeld, IsIdentity, IsOut, IsPlan, IsQueue, IsState}
use Rattle.mqb_snapshot.proofs.PlacesFilled.{IsFullQueue}
use Rattle.mqb_snapshot.proofs.PlainFilled.{IsFullPlain}
use Rattle.mqb_snapshot.proofs.Readers.{both_read, step}
use Rattle.mqb_snapshot.proofs.RowsFilled.{IsCountedRow}
use Rattle.mqb_snapshot.proofs.Sound.{CanBeCarried, IsPlaced, IsSound, IsSoundRow, IsWaiting}
use Rattle.mqb_snapshot.proofs.StateFilled.{IsComplete, parts_complete, state_stays}
use Rattle.mqb_snapshot.proofs.StateSound.{IsValidSound, identity_reads, parts_join}
use Rattle.mqb_snapshot.specs.ReadLaws.{ReadStatesAreDurable, ReadStatesAreSpelled, ReadStatesAreValid, ReadStatesFit}

-- The parts that bytes are read as.

pub record IsReadState (s : State) : Type 0 where
  pub parts : Parts
  pub state : parts.state ≡ s
  pub sound : IsValidSound parts
  pub complete : IsComplete parts

read_state : (bytes : List ℕ) (s : State) → All (λ b. b < 256) bytes → state_of bytes ≡ Ok s → IsReadState s
unfolding state_of
read_state bytes s all e =
    let identity = step identity_reads (start bytes) _ s (recursion_from_All (λ b. b < 256) bytes all) e in
    let own = identity.part.0 in
    let parts = step (both_read (parts_join own identity.holds) (parts_complete own)) identity.part.1 _ s identity.bytes identity.rest in
    let whole = if_ok (length (rest_of parts.part.1) == 0) (record { at = parts.part.1.at }) parts.part.0.state s parts.rest in
    record { parts = parts.part.0; state = whole.1; sound = parts.holds.0; complete = parts.holds.1 }

pub read_states_are_valid : ReadStatesAreValid
read_states_are_valid bytes s all e = let read = read_state bytes s all e in subst IsValidState read.state (read.sound).0

-- What it has fits its types.

held : (P : Message → Type 0) → ((m : Message) → P m → IsHeld m) → (ms : List Message) → IsCounted ms → All P ms → AreHeld ms
held P is ms few all = record { few = few; each = λ k d lt. is _ (all k d lt) }

module _ (p : Parts) (is : IsSound p) (full : IsComplete p) where
  in_queues : List Message
  in_queues = flat_map (λ q. q.lists.durable ++ q.journal.durable) p.state.places.queues

  all_placed : All IsPlaced (placed_messages p.state)
  all_placed = All-from_recursion IsPlaced (placed_messages p.state) is.placed

  three : All IsPlaced (in_queues ++ p.state.places.dead.durable ++ p.state.places.dead_xact.durable)
  unfolding in_queues
  three = append_left IsPlaced (in_queues ++ p.state.places.dead.durable ++ p.state.places.dead_xact.durable) p.state.places.journal.durable all_placed

  two : All IsPlaced (in_queues ++ p.state.places.dead.durable)
  two = append_left IsPlaced (in_queues ++ p.state.places.dead.durable) p.state.places.dead_xact.durable three

  placed_held : (ms : List Message) → IsCounted ms → All IsPlaced ms → AreHeld ms
  placed_held = held IsPlaced (λ m h. h.0.1)

  queue_fits : (q : Queue) → IsPlan q.plan → IsFullQueue q → All IsPlaced (q.lists.durable ++ q.journal.durable) → IsQueue q
  queue_fits q plan few all = record {
    plan = plan;
    lists = placed_held q.lists.durable few.0.0 (append_left IsPlaced q.lists.durable q.journal.durable all);
    journal = placed_held q.journal.durable few.1.0 (append_right IsPlaced q.lists.durable q.journal.durable all);
  }

  queues_fit : All IsQueue p.state.places.queues
  unfolding in_queues
  queues_fit k d lt = queue_fits _
      (unmapped IsPlan (λ q. q.plan) p.state.places.queues (All-from_recursion IsPlan (map (λ q. q.plan) p.state.places.queues) (is.queues).each) k d lt)
      (All-from_recursion IsFullQueue p.state.places.queues full.queues k d lt)
      (each_of IsPlaced (λ q. q.lists.durable ++ q.journal.durable) p.state.places.queues (append_left IsPlaced in_queues p.state.places.dead.durable two) k d lt)

  places_fit : ArePlaces p.state.places
  unfolding in_queues
  places_fit = record {
    queues = queues_fit;
    dead = placed_held p.state.places.dead.durable (full.dead).0 (append_right IsPlaced in_queues p.state.places.dead.durable two);
    dead_xact = placed_held p.state.places.dead_xact.durable (full.dead_xact).0 (append_right IsPlaced (in_queues ++ p.state.places.dead.durable) p.state.places.dead_xact.durable three);
    journal = placed_held p.state.places.journal.durable (full.journal).0
        (append_right IsPlaced (in_queues ++ p.state.places.dead.durable ++ p.state.places.dead_xact.durable) p.state.places.journal.durable all_placed);
  }

  plain_fit : All (λ l. AreHeld (messages_of l.recoverable)) p.state.plain
  plain_fit k d lt = held IsWaiting (λ m h. h.0.1) _
      (counted _ (All-from_recursion IsFullPlain p.state.plain full.plain k d lt))
      (each_of IsWaiting (λ l. messages_of l.recoverable) p.state.plain (All-from_recursion IsWaiting (recoverable_messages p.state) is.waiting) k d lt)
    where
      counted : (l : PlainLists) → IsFullPlain l → IsCounted (messages_of l.recoverable)
      counted l h = subst (λ (n : ℕ). n < 2 ^ 32) (sym (length-map l.recoverable (λ o. o.message))) h.0

  row_fits : (row : Row) → IsSoundRow (length p.state.peers) row → IsCountedRow row → All (λ k. CanBeCarried TxAndSession k.message) row.kept → IsOut row
  row_fits row h few all = record { destination = h.destination; stamp = h.stamp; few = few; each = λ k d lt. (all k d lt).1 }

  outs_fit : All IsOut p.state.outs
  outs_fit k d lt = row_fits _
      (All-from_recursion (IsSoundRow (length p.state.peers)) p.state.outs (is.outs).each k d lt)
      (All-from_recursion IsCountedRow p.state.outs (full.outs).0 k d lt)
      (unmapped (CanBeCarried TxAndSession) (λ k. k.message) _ (each_of (CanBeCarried TxAndSession) (λ row. map (λ k. k.message) row.kept) p.state.outs
      (All-from_recursion (CanBeCarried TxAndSession) (kept_messages p.state) is.kept) k d lt))

  state_fits : IsState p.state
  state_fits = record {
    identity = is.identity;
    peers = All-from_recursion IsIdentity p.state.peers (is.peers).each;
    places = places_fit;
    plain = plain_fit;
    few_outs = (full.outs).1;
    outs = outs_fit;
    few_ins = full.ins;
    ins = λ k d lt. (All-from_recursion _ p.state.ins (is.ins).each k d lt).0;
  }

pub read_states_fit : ReadStatesFit
read_states_fit bytes s all e = let read = read_state bytes s all e in subst IsState read.state (state_fits read.parts (read.sound).1 read.complete)

-- It is read again from its own bytes.

pub read_states_are_durable : ReadStatesAreDurable
read_states_are_durable bytes s all e = let read = read_state bytes s all e in subst (λ (t : State). durable t ≡ t) read.state (state_stays read.parts read.complete)

pub read_states_are_spelled : ReadStatesAreSpelled
read_states_are_spelled bytes s all e =
    snapshots_are_read_back s (read_states_are_valid bytes s all e) (read_states_fit bytes s all e) ∙ ap (λ (t : State). Ok t) (read_states_are_durable bytes s all e)
