-- A valid state is read back as what a store of it stands for.
use Rattle.std.proofs.Common.{◌≡◌, ◌≤◌, ◌<◌, ◌+◌, ◌^◌, ℕ, true, List, [], ◌∷◌, ◌++◌, length, map, refl, sym, ap, subst, ◌∙◌, append_assoc, arith}
use Rattle.std.proofs.lemmas.List.{append-nil}
use Rattle.std.proofs.lemmas.List.Elements.{recursion_from_All}
use Rattle.std.specs.List.{AllByRecursion, flat_map}
use Rattle.std.specs.Prelude.{All}
use Rattle.mqb_base.specs.Same.{same_guid}
use Rattle.mqb_base.specs.declared.ids.Guid.{Guid}
use Rattle.mqb_base.specs.declared.message.Message.{Message}
use Rattle.mqb_entries.specs.lemmas.Formats.{rest_again}
use Rattle.mqb_entries.specs.Lists.{start}
use Rattle.mqb_fields.specs.Reading.{◌>>=◌, moved, rest_of}
use Rattle.mqb_model.specs.declared.limits.TheConstants.{MAX_ORDINAL}
use Rattle.mqb_model.specs.records.Packets.{is_recoverable}
use Rattle.mqb_model.specs.state.Durable.{durable_places, durable_plain}
use Rattle.mqb_model.specs.state.State.{State}
use Rattle.mqb_model.specs.state.Valid.{IsCarried, IsGivenOrdinal, IsOwn, IsValidState, kept_messages, recoverable_messages}
use Rattle.mqb_packet.specs.declared.packet.Headers.TheVariants.{Session, TxAndSession}
use Rattle.mqb_plain.specs.Lists.{messages_of}
use Rattle.mqb_plain.specs.Plain.{PlainLists}
use Rattle.mqb_snapshot.proofs.Backs.{IsReadAs, then_read}
use Rattle.mqb_snapshot.proofs.Carried.{append_left, append_right, each_of, unmapped}
use Rattle.mqb_snapshot.proofs.FieldsAgain.{identity_read}
use Rattle.mqb_snapshot.proofs.InsAgain.{AreCounters, counters_read, counters_with, ins_read, ins_with}
use Rattle.mqb_snapshot.proofs.Members.{all_weaker}
use Rattle.mqb_snapshot.proofs.OutsAgain.{IsReadable, outs_read, rows_with}
use Rattle.mqb_snapshot.proofs.OwnAgain.{all_behind, all_both, all_front, numbers_apart, numbers_of}
use Rattle.mqb_snapshot.proofs.PeersAgain.{knowing, none_waits, peers_read, queues_read, with_peers, with_queues}
use Rattle.mqb_snapshot.proofs.PlacesAgain.{places_read}
use Rattle.mqb_snapshot.proofs.PlainAgain.{AreWaiting, IsWaiting, plain_read, plain_with}
use Rattle.mqb_snapshot.specs.Laws.{SnapshotsAreReadBack}
use Rattle.mqb_snapshot.specs.Parts.{Parts, each_joined, list_joined}
use Rattle.mqb_snapshot.specs.Reading.{counters_joined, parts_joined, peers_joined, places_joined, queues_joined, row_joined, source_joined, state_of, waiting_joined}
use Rattle.mqb_snapshot.specs.Snapshot.{snapshot, spelled_counters}
use Rattle.mqb_snapshot.specs.Spelled.{counted, spelled_identity, spelled_in, spelled_out, spelled_places, spelled_plain, spelled_plan}
use Rattle.mqb_snapshot.specs.Values.{AreHeld, IsState}

-- What a valid state says of each part.

-- a recoverable message of the manager
abbrev IsSent : Guid → Message → Type 0
IsSent own m = IsCarried Session m × (is_recoverable m.delivery ≡ true) × (same_guid m.id.qm own ≡ true)

waits : (own : Guid) (ms : List Message) → All (IsSent own) ms → AreHeld ms → AreWaiting own ms
waits own ms sent held = (held.few, recursion_from_All (IsWaiting own) ms (λ k d lt. let one = sent k d lt in (one.0, one.1, one.2, held.each k d lt)))

all_wait : (s : State) → IsValidState s → IsState s → All (λ p. AreWaiting s.identity.guid (messages_of p.recoverable)) s.plain
all_wait s v t k d lt = waits s.identity.guid _ (each_of (IsSent s.identity.guid) (λ p. messages_of p.recoverable) s.plain sent k d lt) (t.plain k d lt)
  where
    mine : All (IsOwn s.identity.guid s.next_number) (recoverable_messages s)
    mine = append_right (IsOwn s.identity.guid s.next_number) (kept_messages s) (recoverable_messages s) v.own

    sent : All (IsSent s.identity.guid) (recoverable_messages s)
    sent j e less = (v.plain j e less, v.recoverable j e less, (mine j e less).source)

given_below : (n next : ℕ) → n < next → next ≤ MAX_ORDINAL + 1 → n < 2 ^ 32
given_below n next less most = omega (arith, less, most)

all_readable : (s : State) → IsValidState s → IsState s → All (IsReadable s.identity.guid (length s.peers)) s.outs
all_readable s v t k d lt = record {
  order = v.rows k d lt;
  first = (v.ordinals_given k d lt).first;
  ordinal = given_below _ s.next_ordinal (v.ordinals_given k d lt).below v.next_ordinal.1;
  queue = v.outs_to_queues k d lt;
  value = t.outs k d lt;
  carried = unmapped (IsCarried TxAndSession) (λ k. k.message) _ (each_of (IsCarried TxAndSession) (λ row. map (λ k. k.message) row.kept) s.outs v.kept k d lt);
  sent = unmapped Mine (λ k. k.message) _ (each_of Mine (λ row. map (λ k. k.message) row.kept) s.outs mine k d lt);
}
  where
    Mine : Message → Type 0
    Mine m = same_guid m.id.qm s.identity.guid ≡ true

    mine : All Mine (kept_messages s)
    mine j e less = (append_left (IsOwn s.identity.guid s.next_number) (kept_messages s) (recoverable_messages s) v.own j e less).source

counters : (s : State) → IsValidState s → AreCounters s (recoverable_messages s ++ kept_messages s) s.outs
counters s v = record {
  next_number = v.next_number;
  next_ordinal = v.next_ordinal;
  roll = v.settings;
  numbers = all_both Below (recoverable_messages s) (kept_messages s) (all_behind Below (kept_messages s) (recoverable_messages s) both) (all_front Below (kept_messages s) (recoverable_messages s) both);
  ordinals = all_weaker (IsGivenOrdinal s.next_ordinal) (λ row. row.sequence.ordinal < s.next_ordinal) (λ row g. g.below) s.outs
      (recursion_from_All (IsGivenOrdinal s.next_ordinal) s.outs v.ordinals_given);
}
  where
    Below : Message → Type 0
    Below m = m.id.number < s.next_number

    both : AllByRecursion Below (kept_messages s ++ recoverable_messages s)
    both = all_weaker (IsOwn s.identity.guid s.next_number) Below (λ m w. w.number) (kept_messages s ++ recoverable_messages s)
        (recursion_from_All (IsOwn s.identity.guid s.next_number) (kept_messages s ++ recoverable_messages s) v.own)

none_for_each : {X Y : Type 0} (xs : List X) (ys : List Y) → length xs ≡ length ys → none_waits xs ≡ none_waits ys
none_for_each [] [] e = refl
none_for_each [] (y ∷ ys) e = absurd (omega (arith, e))
none_for_each (x ∷ xs) [] e = absurd (omega (arith, e))
none_for_each (x ∷ xs) (y ∷ ys) e = ap (λ rest. record { recoverable = []; express = [] } ∷ rest) (none_for_each xs ys (omega (arith, e)))

-- The parts of a state, one after another.

-- up to the places of messages
abbrev with_all_places : State → State
with_all_places s = record (knowing s.identity s.peers) { places = durable_places s.places }

-- and the plain messages
abbrev with_all_plain : State → State
with_all_plain s = record (with_all_places s) { plain = map durable_plain s.plain }

-- and the outgoing rows
abbrev with_all_outs : State → State
with_all_outs s = record (with_all_plain s) { outs = s.outs }

-- the numbers of the manager's own messages
abbrev own_numbers : State → List ℕ
own_numbers s = numbers_of (recoverable_messages s ++ kept_messages s)

module _ (s : State) (v : IsValidState s) (t : IsState s) where
  plain_parts : IsReadAs (each_joined (length (none_waits s.peers)) 0 waiting_joined (plain_with (with_all_places s) [] (none_waits s.peers))) (flat_map spelled_plain s.plain)
      (rows_with (with_all_plain s) (numbers_of (recoverable_messages s)) [])
  plain_parts = subst (λ (ps : List PlainLists). IsReadAs (each_joined (length ps) 0 waiting_joined (plain_with (with_all_places s) [] ps)) (flat_map spelled_plain s.plain)
      (rows_with (with_all_plain s) (numbers_of (recoverable_messages s)) [])) (none_for_each s.plain s.peers v.plain_lists)
      (plain_read (with_all_places s) s.plain (kept_messages s) (numbers_apart s v) (all_wait s v t))

  out_parts : IsReadAs (list_joined row_joined (rows_with (with_all_plain s) (numbers_of (recoverable_messages s)) [])) (counted spelled_out s.outs)
      (ins_with (with_all_outs s) (own_numbers s) [])
  out_parts = outs_read (with_all_plain s) (recoverable_messages s) s.outs v.few_peers t.few_outs (all_readable s v t) v.ordinals_rise (numbers_apart s v)

  in_parts : IsReadAs (list_joined source_joined (ins_with (with_all_outs s) (own_numbers s) [])) (counted spelled_in s.ins) (ins_with (with_all_outs s) (own_numbers s) s.ins)
  in_parts = ins_read (with_all_outs s) (own_numbers s) s.ins t.few_ins (λ k d lt. (t.ins k d lt, v.ins_to_queues k d lt)) v.sources_differ

  counter_parts : IsReadAs (counters_joined (ins_with (with_all_outs s) (own_numbers s) s.ins)) (spelled_counters s) (counters_with (ins_with (with_all_outs s) (own_numbers s) s.ins) s)
  counter_parts = counters_read (ins_with (with_all_outs s) (own_numbers s) s.ins) s (recoverable_messages s ++ kept_messages s) refl (counters s v)

  place_parts : IsReadAs (places_joined (with_queues s.identity s.peers s.places.queues [])) (spelled_places s.places) (plain_with (with_all_places s) [] (none_waits s.peers))
  place_parts = places_read (knowing s.identity s.peers) [] s.places (λ k d lt. (v.placed k d lt, v.durable k d lt)) t.places

  queue_parts : IsReadAs (queues_joined (with_peers s.identity s.peers [])) (counted (λ q. spelled_plan q.plan) s.places.queues) (with_queues s.identity s.peers s.places.queues [])
  queue_parts = queues_read s.identity s.peers s.places.queues v.few_queues (λ k d lt. ((t.places).queues k d lt).plan) v.queues_differ

  peer_parts : IsReadAs (peers_joined (with_peers s.identity [] s.peers)) (counted spelled_identity s.peers) (with_peers s.identity s.peers [])
  peer_parts = peers_read s.identity s.peers v.few_peers t.peers v.peers_differ

  -- what stands behind the identity
  abbrev behind_identity : List ℕ
  behind_identity = counted spelled_identity s.peers ++ (counted (λ q. spelled_plan q.plan) s.places.queues ++ (spelled_places s.places ++ (flat_map spelled_plain s.plain
      ++ (counted spelled_out s.outs ++ (counted spelled_in s.ins ++ spelled_counters s)))))

  all_parts : IsReadAs (parts_joined (with_peers s.identity [] s.peers)) behind_identity (counters_with (ins_with (with_all_outs s) (own_numbers s) s.ins) s)
  unfolding parts_joined
  all_parts =
      let seven = then_read {Y = Parts} _ counters_joined (counted spelled_in s.ins) (spelled_counters s) _ _ in_parts counter_parts in
      let six = then_read {Y = Parts} _ (λ outs r. list_joined source_joined outs r >>= λ ins. counters_joined ins.0 ins.1)
      (counted spelled_out s.outs) (counted spelled_in s.ins ++ spelled_counters s) _ _ out_parts seven in
      let five = then_read {Y = Parts} _ (λ plain r. list_joined row_joined plain r >>= λ outs. list_joined source_joined outs.0 outs.1 >>= λ ins. counters_joined ins.0 ins.1)
      (flat_map spelled_plain s.plain) (counted spelled_out s.outs ++ (counted spelled_in s.ins ++ spelled_counters s)) _ _ plain_parts six in
      let four = then_read {Y = Parts} _ (λ places r. each_joined (length places.state.plain) 0 waiting_joined places r >>= λ plain. list_joined row_joined plain.0 plain.1
      >>= λ outs. list_joined source_joined outs.0 outs.1 >>= λ ins. counters_joined ins.0 ins.1)
      (spelled_places s.places) (flat_map spelled_plain s.plain ++ (counted spelled_out s.outs ++ (counted spelled_in s.ins ++ spelled_counters s))) _ _ place_parts five in
      let three = then_read {Y = Parts} _ (λ queues r. places_joined queues r >>= λ places. each_joined (length places.0.state.plain) 0 waiting_joined places.0 places.1
      >>= λ plain. list_joined row_joined plain.0 plain.1 >>= λ outs. list_joined source_joined outs.0 outs.1 >>= λ ins. counters_joined ins.0 ins.1)
      (counted (λ q. spelled_plan q.plan) s.places.queues) (spelled_places s.places ++ (flat_map spelled_plain s.plain ++ (counted spelled_out s.outs ++ (counted spelled_in s.ins ++ spelled_counters s))))
      _ _ queue_parts four in
      then_read {Y = Parts} _ (λ peers r. queues_joined peers r >>= λ queues. places_joined queues.0 queues.1 >>= λ places. each_joined (length places.0.state.plain) 0 waiting_joined places.0 places.1
      >>= λ plain. list_joined row_joined plain.0 plain.1 >>= λ outs. list_joined source_joined outs.0 outs.1 >>= λ ins. counters_joined ins.0 ins.1)
      (counted spelled_identity s.peers)
      (counted (λ q. spelled_plan q.plan) s.places.queues ++ (spelled_places s.places ++ (flat_map spelled_plain s.plain ++ (counted spelled_out s.outs ++ (counted spelled_in s.ins ++ spelled_counters s)))))
      _ _ peer_parts three

  -- Nothing follows.

  eight_parts : (a b c d e f g h : List ℕ) → a ++ b ++ c ++ d ++ e ++ f ++ g ++ h ≡ a ++ (b ++ (c ++ (d ++ (e ++ (f ++ (g ++ h))))))
  eight_parts a b c d e f g h = simp append_assoc

  text : snapshot s ≡ spelled_identity s.identity ++ behind_identity
  text = eight_parts (spelled_identity s.identity) (counted spelled_identity s.peers) (counted (λ q. spelled_plan q.plan) s.places.queues) (spelled_places s.places)
      (flat_map spelled_plain s.plain) (counted spelled_out s.outs) (counted spelled_in s.ins) (spelled_counters s)

pub snapshots_are_read_back : SnapshotsAreReadBack
unfolding state_of
snapshots_are_read_back s v t =
    let identity = spelled_identity s.identity in
    let parts = behind_identity s v t in
    let first = start (snapshot s) in
    let behind = moved (length identity) first in
    let one = identity_read s.identity t.identity first parts (text s v t) in
    let left : rest_of behind ≡ parts = rest_again first identity parts (text s v t) in
    let two = all_parts s v t behind [] (left ∙ sym (append-nil parts)) in
    let end : rest_of (moved (length parts) behind) ≡ [] = rest_again behind parts [] (left ∙ sym (append-nil parts)) in
    rw (one, two, end) refl
