-- The parts of a state are read as those of a valid one.
use Rattle.std.proofs.Common.{◌≡◌, ◌≤◌, ◌<◌, ◌+◌, ℕ, true, false, List, [], length, refl, arith}
use Rattle.std.proofs.lemmas.Bool.{and_from, and_parts, leb-true, le-leb, ltb-true}
use Rattle.std.proofs.lemmas.List.Elements.{All-from_recursion}
use Rattle.std.specs.List.{AllByRecursion, list_all}
use Rattle.std.specs.Prelude.{◌&&◌, All, IsTrue, nat_le, nat_lt}
use Rattle.mqb_base.specs.QueueNames.{names_queue}
use Rattle.mqb_base.specs.Same.{same_guid, same_id}
use Rattle.mqb_base.specs.declared.ids.Identity.{Identity}
use Rattle.mqb_model.specs.declared.limits.TheConstants.{MAX_NUMBER, MAX_ORDINAL, MAX_ROLL}
use Rattle.mqb_model.specs.records.Packets.{is_recoverable}
use Rattle.mqb_model.specs.state.Places.{is_express}
use Rattle.mqb_model.specs.state.State.{State, empty}
use Rattle.mqb_model.specs.state.Valid.{IsCarried, IsGivenOrdinal, IsInOrder, IsOwn, IsValidState, kept_messages, placed_messages, recoverable_messages}
use Rattle.mqb_names.specs.Values.{IsName}
use Rattle.mqb_packet.specs.declared.packet.Headers.TheVariants.{Bare, Session, TxAndSession}
use Rattle.mqb_snapshot.proofs.Members.{all_weaker}
use Rattle.mqb_snapshot.specs.Parts.{Parts}
use Rattle.mqb_snapshot.specs.Reading.{counters_joined, identity_at, is_next, is_next_ordinal, last_ordinal, parts_joined}
use Rattle.mqb_snapshot.specs.Values.{IsIdentity, IsIn}
use Rattle.mqb_snapshot.proofs.FieldsRead.{address_reads, guid_reads, name_reads, within_reads, word_reads}
use Rattle.mqb_snapshot.proofs.InsSound.{source_joins}
use Rattle.mqb_snapshot.proofs.Lists.{all_two, below_last, pairs_all}
use Rattle.mqb_snapshot.proofs.OutsSound.{row_joins}
use Rattle.mqb_snapshot.proofs.PeersSound.{peers_join, queues_join}
use Rattle.mqb_snapshot.proofs.PlacesSound.{places_join}
use Rattle.mqb_snapshot.proofs.PlainSound.{waiting_joins}
use Rattle.mqb_snapshot.proofs.Readers.{Reads, behind, each_reads, finished, list_reads, tested_reads}
use Rattle.mqb_snapshot.proofs.Sound.{Among, CanBeCarried, Differ, IsPlaced, IsSound, IsSoundRow, IsWaiting, Rise, below_next, own_messages}

pub identity_reads : Reads identity_at IsIdentity
unfolding identity_at
identity_reads = record {
  gives = λ r x all e.
      behind IsIdentity name_reads r _ x all e (λ host host_end is_host host_left host_rest.
      behind IsIdentity guid_reads host_end _ x host_left host_rest (λ guid guid_end is_guid guid_left guid_rest.
      behind IsIdentity address_reads guid_end _ x guid_left guid_rest (λ address address_end is_address address_left address_rest.
      finished IsIdentity (record { host = host; guid = guid; address = address }) address_end x
      (record { host = is_host; guid = is_guid; address = is_address }) address_left address_rest)));
}

-- All by index, where less is wanted of each.
all_of : {X : Type 0} (P Q : X → Type 0) → ((x : X) → P x → Q x) → (xs : List X) → AllByRecursion P xs → All Q xs
all_of P Q less xs h = All-from_recursion Q xs (all_weaker P Q less xs h)

-- The counters.

is_valid : (p : Parts) (number ordinal roll : ℕ) → IsSound p → is_next p.numbers number ≡ true → is_next_ordinal p.state ordinal ≡ true → 1 ≤ roll → roll ≤ MAX_ROLL
    → IsValidState (record p.state { next_number = number; next_ordinal = ordinal; roll = roll })
is_valid p number ordinal roll is next next_ordinal least most = record {
  few_peers = (is.peers).few;
  few_queues = (is.queues).few;
  peers_differ = (is.peers).differ;
  queues_differ = (is.queues).differ;
  plain_lists = is.lists;
  hosts = all_of IsIdentity (λ peer. IsName peer.host) (λ peer h. h.host) s.peers (is.peers).each;
  ordinals_rise = pairs_all Rise s.outs (is.outs).rise;
  ordinals_given = all_of (λ row. IsSoundRow (length s.peers) row × (row.sequence.ordinal < ordinal)) (IsGivenOrdinal ordinal) (λ row both. record { first = (both.0).first; below = both.1 }) s.outs
      (all_two (IsSoundRow (length s.peers)) (λ row. row.sequence.ordinal < ordinal) s.outs (is.outs).each (below_last (λ row. row.sequence.ordinal) s.outs ordinal (is.outs).rise above));
  rows = all_of (IsSoundRow (length s.peers)) (IsInOrder (length s.peers)) (λ row h. h.order) s.outs (is.outs).each;
  sources_differ = pairs_all Differ s.ins (is.ins).differ;
  outs_to_queues = all_of (IsSoundRow (length s.peers)) (λ row. IsTrue (names_queue row.destination)) (λ row h. h.queue) s.outs (is.outs).each;
  ins_to_queues = all_of (λ row. IsIn row × IsTrue (names_queue row.destination)) (λ row. IsTrue (names_queue row.destination)) (λ row h. h.1) s.ins (is.ins).each;
  kept = all_of (CanBeCarried TxAndSession) (IsCarried TxAndSession) (λ m h. h.0) (kept_messages s) is.kept;
  plain = all_of IsWaiting (IsCarried Session) (λ m h. h.0.0) (recoverable_messages s) is.waiting;
  placed = all_of IsPlaced (IsCarried Bare) (λ m h. h.0.0) (placed_messages s) is.placed;
  recoverable = all_of IsWaiting (λ m. is_recoverable m.delivery ≡ true) (λ m h. h.1) (recoverable_messages s) is.waiting;
  durable = all_of IsPlaced (λ m. is_express m.delivery ≡ false) (λ m h. h.1) (placed_messages s) is.placed;
  next_number = (leb-true _ _ limits.0, leb-true _ _ limits.1);
  next_ordinal = (omega (arith, above), leb-true _ _ ordinals.1);
  settings = and_from (nat_le 1 roll) (nat_le roll MAX_ROLL) (le-leb 1 roll least) (le-leb roll MAX_ROLL most);
  own = all_of (λ m. (same_guid m.id.qm s.identity.guid ≡ true) × Among m.id.number p.numbers) (IsOwn s.identity.guid number)
      (λ m both. record { source = both.0; number = below_next m.id.number number p.numbers numbers.1 both.1 }) (own_messages s)
      (all_two (λ m. same_guid m.id.qm s.identity.guid ≡ true) (λ m. Among m.id.number p.numbers) (own_messages s) (is.own).source (is.own).known);
  ids_differ = pairs_all (λ a b. same_id a.id b.id ≡ false) (own_messages s) (is.own).differ;
}
  where
    s : State
    s = p.state

    numbers : ((nat_le 1 number && nat_le number (MAX_NUMBER + 1)) ≡ true) × (list_all (λ n. nat_lt n number) p.numbers ≡ true)
    numbers = and_parts _ _ next

    limits : (nat_le 1 number ≡ true) × (nat_le number (MAX_NUMBER + 1) ≡ true)
    limits = and_parts _ _ numbers.0

    ordinals : (nat_lt (last_ordinal s) ordinal ≡ true) × (nat_le ordinal (MAX_ORDINAL + 1) ≡ true)
    ordinals = and_parts _ _ next_ordinal

    above : last_ordinal s < ordinal
    above = ltb-true (last_ordinal s) ordinal ordinals.0

-- parts of a valid state
abbrev pub IsValidSound : Parts → Type 0
IsValidSound p = IsValidState p.state × IsSound p

counters_join : (p : Parts) → IsSound p → Reads (counters_joined p) IsValidSound
unfolding counters_joined
counters_join p is = record {
  gives = λ r x all e.
      behind IsValidSound (tested_reads (is_next p.numbers) word_reads) r _ x all e (λ number number_end is_number number_left number_rest.
      behind IsValidSound (tested_reads (is_next_ordinal p.state) word_reads) number_end _ x number_left number_rest (λ ordinal ordinal_end is_ordinal ordinal_left ordinal_rest.
      behind IsValidSound (within_reads 1 MAX_ROLL) ordinal_end _ x ordinal_left ordinal_rest (λ roll roll_end is_roll roll_left roll_rest.
      finished IsValidSound (record p { state = record p.state { next_number = number; next_ordinal = ordinal; roll = roll } }) roll_end x (
        is_valid p number ordinal roll is is_number.1 is_ordinal.1 is_roll.0 is_roll.1,
        record {
          identity = is.identity;
          peers = is.peers;
          lists = is.lists;
          queues = is.queues;
          placed = is.placed;
          outs = is.outs;
          ins = is.ins;
          kept = is.kept;
          waiting = is.waiting;
          own = is.own;
        },
      ) roll_left roll_rest)));
}

-- All parts.

nothing_read : (own : Identity) → IsIdentity own → IsSound (record { state = empty own; numbers = [] })
nothing_read own is = record {
  identity = is;
  peers = record { few = omega arith; differ = tt; each = tt };
  lists = refl;
  queues = record { few = omega arith; differ = tt; each = tt };
  placed = tt;
  outs = record { rise = tt; each = tt };
  ins = record { differ = tt; each = tt };
  kept = tt;
  waiting = tt;
  own = record { source = tt; known = tt; differ = tt };
}

pub parts_join : (own : Identity) → IsIdentity own → Reads (parts_joined (record { state = empty own; numbers = [] })) IsValidSound
unfolding parts_joined
parts_join own is = record {
  gives = λ r x all e.
      behind IsValidSound (peers_join (record { state = empty own; numbers = [] }) (nothing_read own is, refl) refl) r _ x all e (λ peers peers_end is_peers peers_left peers_rest.
      behind IsValidSound (queues_join peers is_peers) peers_end _ x peers_left peers_rest (λ queues queues_end is_queues queues_left queues_rest.
      behind IsValidSound (places_join queues is_queues) queues_end _ x queues_left queues_rest (λ places places_end is_places places_left places_rest.
      behind IsValidSound (each_reads (λ k. IsSound) waiting_joins (length places.state.plain) 0 places is_places) places_end _ x places_left places_rest (λ plain plain_end is_plain plain_left plain_rest.
      behind IsValidSound (list_reads (λ n. IsSound) (λ n. row_joins) plain (λ n few. is_plain)) plain_end _ x plain_left plain_rest (λ outs outs_end is_outs outs_left outs_rest.
      behind IsValidSound (list_reads (λ n. IsSound) (λ n. source_joins) outs (λ n few. is_outs)) outs_end _ x outs_left outs_rest (λ ins ins_end is_ins ins_left ins_rest.
      (counters_join ins is_ins).gives ins_end x ins_left ins_rest))))));
}
