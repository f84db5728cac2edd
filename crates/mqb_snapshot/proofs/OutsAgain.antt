-- The outgoing rows of a state are read as they are spelled, with the messages that they keep.
use Rattle.std.proofs.Common.{◌≡◌, ◌≤◌, ◌<◌, ◌^◌, ℕ, Bool, true, false, List, [], ◌∷◌, ◌++◌, length, map, Option, Some, None, Ok, refl, sym, ap, ap₂, subst, ◌∙◌, append_assoc, arith}
use Rattle.std.proofs.lemmas.Bool.{and_from}
use Rattle.std.proofs.lemmas.Bool.Decides.{nat_tests}
use Rattle.std.proofs.lemmas.List.{append-nil, map-append}
use Rattle.std.proofs.lemmas.Grind.{flat_map-append}
use Rattle.std.specs.List.{AllByRecursion, flat_map}
use Rattle.std.specs.Option.{option_map_or}
use Rattle.std.specs.Prelude.{◌&&◌, ◌-◌, All, AllPairs, IfSome, IsTrue, nat_le, nat_lt, slice_get}
use Rattle.mqb_base.specs.QueueNames.{names_queue}
use Rattle.mqb_base.specs.Same.{same_guid}
use Rattle.mqb_base.specs.declared.ids.Guid.{Guid}
use Rattle.mqb_base.specs.declared.message.Message.{Message}
use Rattle.mqb_base.specs.declared.queue_names.QueueName.{QueueName}
use Rattle.mqb_entries.specs.lemmas.FieldFormats.{flag_format}
use Rattle.mqb_entries.specs.Fields.{flag_at, u32_at}
use Rattle.mqb_entries.specs.Spelled.{spelled_flag, spelled_packet}
use Rattle.mqb_fate.specs.Asking.{is_transactional}
use Rattle.mqb_fields.specs.Reading.{◌>>=◌}
use Rattle.mqb_model.specs.declared.limits.TheConstants.{MAX_PEERS, MAX_ROLL}
use Rattle.mqb_model.specs.state.State.{State}
use Rattle.mqb_model.specs.state.Valid.{IsCarried, IsInOrder, IsKeptBy}
use Rattle.mqb_orders.specs.Rows.{Row}
use Rattle.mqb_orders.specs.declared.kept.Kept.{Kept}
use Rattle.mqb_packet.specs.Plain.{plain_user_packet}
use Rattle.mqb_packet.specs.declared.packet.Headers.TheVariants.{TxAndSession}
use Rattle.mqb_snapshot.proofs.Backs.{IsReadAs, Joins, list_joined_read, of_format, same_text, same_value, seen_read, tested_read, then_read}
use Rattle.mqb_snapshot.proofs.FieldsAgain.{destination_read, own_read, transactional, within_read, word_read}
use Rattle.mqb_snapshot.proofs.Members.{Pairs, at_index, before_here, changed_here, got_here, here}
use Rattle.mqb_snapshot.proofs.OwnAgain.{Apart, IsPart, numbers_more, numbers_of, own_here}
use Rattle.mqb_snapshot.specs.Fields.{destination_at, is_own, own_at, within_at}
use Rattle.mqb_snapshot.specs.Parts.{Parts, list_joined, tested}
use Rattle.mqb_snapshot.specs.Reading.{head_at, keeping, kept_joined, last_number, last_ordinal, may_keep, row_joined, with_kept}
use Rattle.mqb_snapshot.specs.Spelled.{counted, spelled_destination, spelled_kept, spelled_out, stored, word}
use Rattle.mqb_snapshot.specs.Values.{IsHeld, IsOut}

-- Rows.

-- a row that can be read where there are so many peers
pub record IsReadable (own : Guid) (peers : ℕ) (row : Row) : Type 0 where
  pub order : IsInOrder peers row
  pub first : 1 ≤ row.sequence.ordinal
  pub ordinal : row.sequence.ordinal < 2 ^ 32
  pub queue : IsTrue (names_queue row.destination)
  pub value : IsOut row
  pub carried : All (λ k. IsCarried TxAndSession k.message) row.kept
  pub sent : All (λ k. same_guid k.message.id.qm own ≡ true) row.kept

-- a row that keeps these messages
abbrev row_with : Row → List Kept → Row
row_with row ks = record row { kept = ks }

abbrev head_text : Row → List ℕ
head_text row = word row.peer ++ spelled_destination row.destination ++ word row.sequence.ordinal ++ word row.sequence.stamp
    ++ word row.committed ++ word row.offered ++ word row.acked

seven_parts : (a b c d e f g : List ℕ) → a ++ (b ++ (c ++ (d ++ (e ++ (f ++ g))))) ≡ a ++ b ++ c ++ d ++ e ++ f ++ g
seven_parts a b c d e f g = simp append_assoc

pub less : (a b : ℕ) → a < b → nat_lt a b ≡ true
less a b h = grind (arith, nat_tests)

pub not_more : (a b : ℕ) → a ≤ b → nat_le a b ≡ true
not_more a b h = grind (arith, nat_tests)

-- a number above all of a list is above its last one, or above 0
pub above_last : {X : Type 0} (of : X → ℕ) (n : ℕ) (o : Option X) → 0 < n → IfSome o (λ x. of x < n) → nat_lt (option_map_or of o 0) n ≡ true
above_last of n None some h = less 0 n some
above_last of n (Some x) some h = less (of x) n h

abbrev made_head : ℕ → QueueName → ℕ → ℕ → ℕ → ℕ → ℕ → Row
made_head peer destination ordinal stamp committed offered acked = record {
  peer = peer;
  destination = destination;
  sequence = record { ordinal = ordinal; stamp = stamp };
  committed = committed;
  offered = offered;
  acked = acked;
  kept = [];
}

module _ (s : State) (row : Row) (few : length s.peers ≤ MAX_PEERS) (is : IsReadable s.identity.guid (length s.peers) row) (above : AllByRecursion (λ y. y.sequence.ordinal < row.sequence.ordinal) s.outs) where
  committed_few : row.committed ≤ MAX_ROLL
  committed_few = (is.order).committed

  offered_few : row.offered ≤ row.committed
  offered_few = (is.order).offered

  acked_few : row.acked ≤ row.offered
  acked_few = (is.order).acked

  peer_in : row.peer < length s.peers
  peer_in = (is.order).peer

  acked_read : IsReadAs (λ r. within_at 0 row.offered r >>= λ acked. Ok (made_head row.peer row.destination row.sequence.ordinal row.sequence.stamp row.committed row.offered acked.0, acked.1)) (word row.acked) (row_with row [])
  acked_read = seen_read {Y = Row} (within_at 0 row.offered) (made_head row.peer row.destination row.sequence.ordinal row.sequence.stamp row.committed row.offered) (word row.acked) row.acked
      (within_read 0 row.offered row.acked (omega arith) acked_few (omega (arith, committed_few, offered_few)))

  offered_read : IsReadAs (λ r. within_at 0 row.committed r >>= λ offered. within_at 0 offered.0 offered.1 >>= λ acked.
      Ok (made_head row.peer row.destination row.sequence.ordinal row.sequence.stamp row.committed offered.0 acked.0, acked.1)) (word row.offered ++ word row.acked) (row_with row [])
  offered_read = then_read {Y = Row} (within_at 0 row.committed) (λ offered r. within_at 0 offered r >>= λ acked.
      Ok (made_head row.peer row.destination row.sequence.ordinal row.sequence.stamp row.committed offered acked.0, acked.1)) (word row.offered) (word row.acked) row.offered (row_with row [])
      (within_read 0 row.committed row.offered (omega arith) offered_few (omega (arith, committed_few))) acked_read

  committed_read : IsReadAs (λ r. within_at 0 MAX_ROLL r >>= λ committed. within_at 0 committed.0 committed.1 >>= λ offered. within_at 0 offered.0 offered.1 >>= λ acked.
      Ok (made_head row.peer row.destination row.sequence.ordinal row.sequence.stamp committed.0 offered.0 acked.0, acked.1)) (word row.committed ++ (word row.offered ++ word row.acked)) (row_with row [])
  committed_read = then_read {Y = Row} (within_at 0 MAX_ROLL) (λ committed r. within_at 0 committed r >>= λ offered. within_at 0 offered.0 offered.1 >>= λ acked.
      Ok (made_head row.peer row.destination row.sequence.ordinal row.sequence.stamp committed offered.0 acked.0, acked.1)) (word row.committed) (word row.offered ++ word row.acked) row.committed (row_with row [])
      (within_read 0 MAX_ROLL row.committed (omega arith) committed_few (omega arith)) offered_read

  stamp_read : IsReadAs (λ r. u32_at r >>= λ stamp. within_at 0 MAX_ROLL stamp.1 >>= λ committed. within_at 0 committed.0 committed.1 >>= λ offered. within_at 0 offered.0 offered.1 >>= λ acked.
      Ok (made_head row.peer row.destination row.sequence.ordinal stamp.0 committed.0 offered.0 acked.0, acked.1)) (word row.sequence.stamp ++ (word row.committed ++ (word row.offered ++ word row.acked))) (row_with row [])
  stamp_read = then_read {Y = Row} u32_at (λ stamp r. within_at 0 MAX_ROLL r >>= λ committed. within_at 0 committed.0 committed.1 >>= λ offered. within_at 0 offered.0 offered.1 >>= λ acked.
      Ok (made_head row.peer row.destination row.sequence.ordinal stamp committed.0 offered.0 acked.0, acked.1)) (word row.sequence.stamp) (word row.committed ++ (word row.offered ++ word row.acked)) row.sequence.stamp (row_with row [])
      (word_read row.sequence.stamp (is.value).stamp) committed_read

  ordinal_read : IsReadAs (λ r. tested (nat_lt (last_ordinal s)) u32_at r >>= λ ordinal. u32_at ordinal.1 >>= λ stamp. within_at 0 MAX_ROLL stamp.1 >>= λ committed. within_at 0 committed.0 committed.1
      >>= λ offered. within_at 0 offered.0 offered.1 >>= λ acked. Ok (made_head row.peer row.destination ordinal.0 stamp.0 committed.0 offered.0 acked.0, acked.1))
      (word row.sequence.ordinal ++ (word row.sequence.stamp ++ (word row.committed ++ (word row.offered ++ word row.acked)))) (row_with row [])
  ordinal_read = then_read {Y = Row} (tested (nat_lt (last_ordinal s)) u32_at) (λ ordinal r. u32_at r >>= λ stamp. within_at 0 MAX_ROLL stamp.1 >>= λ committed. within_at 0 committed.0 committed.1
      >>= λ offered. within_at 0 offered.0 offered.1 >>= λ acked. Ok (made_head row.peer row.destination ordinal stamp.0 committed.0 offered.0 acked.0, acked.1))
      (word row.sequence.ordinal) (word row.sequence.stamp ++ (word row.committed ++ (word row.offered ++ word row.acked))) row.sequence.ordinal (row_with row [])
      (tested_read (nat_lt (last_ordinal s)) u32_at (word row.sequence.ordinal) row.sequence.ordinal (word_read row.sequence.ordinal is.ordinal)
      (above_last (λ y. y.sequence.ordinal) row.sequence.ordinal (slice_get s.outs (length s.outs - 1)) (let first : 1 ≤ row.sequence.ordinal = is.first in omega arith)
      (at_index (λ y. y.sequence.ordinal < row.sequence.ordinal) s.outs (length s.outs - 1) above))) stamp_read

  pub head_read : IsReadAs (head_at s) (head_text row) (row_with row [])
  unfolding head_at
  head_read = same_text (head_at s) _ (head_text row) (row_with row [])
      (seven_parts (word row.peer) (spelled_destination row.destination) (word row.sequence.ordinal) (word row.sequence.stamp) (word row.committed) (word row.offered) (word row.acked))
      (then_read {Y = Row} (tested (λ k. nat_lt k (length s.peers)) u32_at) (λ peer r. destination_at r >>= λ destination. tested (nat_lt (last_ordinal s)) u32_at destination.1 >>= λ ordinal. u32_at ordinal.1
      >>= λ stamp. within_at 0 MAX_ROLL stamp.1 >>= λ committed. within_at 0 committed.0 committed.1 >>= λ offered. within_at 0 offered.0 offered.1 >>= λ acked.
      Ok (made_head peer destination.0 ordinal.0 stamp.0 committed.0 offered.0 acked.0, acked.1))
      (word row.peer) (spelled_destination row.destination ++ (word row.sequence.ordinal ++ (word row.sequence.stamp ++ (word row.committed ++ (word row.offered ++ word row.acked))))) row.peer (row_with row [])
      (tested_read (λ k. nat_lt k (length s.peers)) u32_at (word row.peer) row.peer (word_read row.peer (omega (arith, few, peer_in))) (less row.peer (length s.peers) peer_in))
      (then_read {Y = Row} destination_at (λ destination r. tested (nat_lt (last_ordinal s)) u32_at r >>= λ ordinal. u32_at ordinal.1
      >>= λ stamp. within_at 0 MAX_ROLL stamp.1 >>= λ committed. within_at 0 committed.0 committed.1 >>= λ offered. within_at 0 offered.0 offered.1 >>= λ acked.
      Ok (made_head row.peer destination ordinal.0 stamp.0 committed.0 offered.0 acked.0, acked.1))
      (spelled_destination row.destination) (word row.sequence.ordinal ++ (word row.sequence.stamp ++ (word row.committed ++ (word row.offered ++ word row.acked)))) row.destination (row_with row [])
      (destination_read row.destination (is.value).destination is.queue) ordinal_read))

-- Kept messages.

-- parts with these rows
abbrev pub rows_with : State → List ℕ → List Row → Parts
rows_with s numbers rows = record { state = record s { outs = rows }; numbers = numbers }

-- parts in which the row at an index keeps a message more
abbrev keeping_more : ℕ → Parts → Kept → Parts
keeping_more n p k = record { state = with_kept p.state n k; numbers = p.numbers ++ k.message.id.number ∷ [] }

one_read : (n : ℕ) (p : Parts) (k : Kept) → k.number < 2 ^ 32 → may_keep p.state n k.number ≡ true → is_transactional k.message.delivery ≡ true → IsCarried TxAndSession k.message
    → IsHeld k.message → is_own p k.message ≡ true → IsReadAs (kept_joined n p) (spelled_kept k) (keeping_more n p k)
unfolding kept_joined
one_read n p k few may tx carried held own = let packet = spelled_packet (plain_user_packet (stored k.message)) in
    subst (λ (b : Bool). IsReadAs (kept_joined n p) (word k.number ++ (spelled_flag b ++ packet)) (keeping_more n p k)) (sym tx)
    (then_read {Y = Parts} (tested (may_keep p.state n) u32_at) (λ number r. tested (λ flag. flag) flag_at r >>= λ flag. own_at p TxAndSession true flag.1 >>= λ message.
    Ok (keeping_more n p (record { number = number; message = message.0 }), message.1)) (word k.number) (spelled_flag true ++ packet) k.number (keeping_more n p k)
    (tested_read (may_keep p.state n) u32_at (word k.number) k.number (word_read k.number few) may)
    (then_read {Y = Parts} (tested (λ flag. flag) flag_at) (λ flag r. own_at p TxAndSession true r >>= λ message.
    Ok (keeping_more n p (record { number = k.number; message = message.0 }), message.1)) (spelled_flag true) packet true (keeping_more n p k)
    (tested_read (λ flag. flag) flag_at (spelled_flag true) true (of_format flag_format true tt) refl)
    (seen_read {Y = Parts} (own_at p TxAndSession true) (λ message. keeping_more n p (record { number = k.number; message = message })) packet k.message
    (subst (λ (b : Bool). IsReadAs (own_at p TxAndSession b) packet k.message) tx (own_read p TxAndSession k.message carried held (transactional k.message.delivery tx) own)))))

-- The messages that one row keeps.

-- the messages that rows keep
abbrev pub kept_in : List Row → List Message
kept_in rows = flat_map (λ row. map (λ k. k.message) row.kept) rows

abbrev kept_by : List Kept → List Message
kept_by ks = map (λ k. k.message) ks

-- parts whose last row keeps these messages
abbrev last_with : State → List Message → List Row → Row → List Kept → Parts
last_with s front before row ks = rows_with s (numbers_of (front ++ kept_by ks)) (before ++ (row_with row ks ∷ []))

last_below : (before : List Kept) (k : Kept) → 1 ≤ k.number → AllByRecursion (λ j. j.number < k.number) before → nat_lt (last_number before) k.number ≡ true
last_below before k first rises = above_last (λ j. j.number) k.number (slice_get before (length before - 1)) (omega arith) (at_index (λ j. j.number < k.number) before (length before - 1) rises)

may : (s : State) (numbers : List ℕ) (before : List Row) (row : Row) (ks : List Kept) (k : Kept) → IsKeptBy row k → AllByRecursion (λ j. j.number < k.number) ks
    → may_keep (rows_with s numbers (before ++ (row_with row ks ∷ []))).state (length before) k.number ≡ true
may s numbers before row ks k kept rises =
    ap (λ (o : Option Row). option_map_or (λ r. nat_lt (last_number r.kept) k.number && nat_le k.number r.committed) o false) (got_here before (row_with row ks) [])
    ∙ and_from (nat_lt (last_number ks) k.number) (nat_le k.number row.committed) (last_below ks k kept.first rises) (not_more k.number row.committed kept.last)

-- what holds of a message that a row keeps
module _ (own : Guid) (peers : ℕ) (row : Row) (is : IsReadable own peers row) (ks : List Kept) (k : Kept) (behind : List Kept) (e : row.kept ≡ ks ++ (k ∷ behind)) where
  kept_here : IsKeptBy row k
  kept_here = here (IsKeptBy row) row.kept ks k behind e (is.order).kept

  rises_here : AllByRecursion (λ j. j.number < k.number) ks
  rises_here = before_here (λ i j. i.number < j.number) row.kept ks k behind e (is.order).rises

  few_here : k.number < 2 ^ 32
  few_here = let last : k.number ≤ row.committed = kept_here.last in let most : row.committed ≤ MAX_ROLL = (is.order).committed in omega (arith, last, most)

  carried_here : IsCarried TxAndSession k.message
  carried_here = here (λ k. IsCarried TxAndSession k.message) row.kept ks k behind e is.carried

  held_here : IsHeld k.message
  held_here = here (λ k. IsHeld k.message) row.kept ks k behind e (is.value).each

  sent_here : same_guid k.message.id.qm own ≡ true
  sent_here = here (λ k. same_guid k.message.id.qm own ≡ true) row.kept ks k behind e is.sent

  part_here : kept_by row.kept ≡ kept_by ks ++ (k.message ∷ kept_by behind)
  part_here = ap kept_by e ∙ map-append (λ k. k.message) ks (k ∷ behind)

kept_numbers : (front : List Message) (ks : List Kept) (k : Kept) → numbers_of (front ++ kept_by ks) ++ k.message.id.number ∷ [] ≡ numbers_of (front ++ kept_by (ks ++ k ∷ []))
kept_numbers front ks k = numbers_more front (kept_by ks) k.message ∙ ap (λ (ms : List Message). numbers_of (front ++ ms)) (sym (map-append (λ k. k.message) ks (k ∷ [])))

kept_join : (s : State) (all front more : List Message) (before : List Row) (row : Row) (peers : ℕ) → IsReadable s.identity.guid peers row → IsPart all front (kept_by row.kept) more
    → Joins (kept_joined (length before)) spelled_kept (λ ks behind. last_with s front before row ks) row.kept
kept_join s all front more before row peers is part ks k behind e =
    same_value (kept_joined (length before) (last_with s front before row ks)) (spelled_kept k) (keeping_more (length before) (last_with s front before row ks) k) (last_with s front before row (ks ++ k ∷ []))
    (ap₂ (λ (ns : List ℕ) (rows : List Row). rows_with s ns rows) (kept_numbers front ks k) (changed_here (keeping k) before (row_with row ks) []))
    (one_read (length before) (last_with s front before row ks) k (few_here s.identity.guid peers row is ks k behind e)
    (may s (numbers_of (front ++ kept_by ks)) before row ks k (kept_here s.identity.guid peers row is ks k behind e) (rises_here s.identity.guid peers row is ks k behind e))
    (kept_here s.identity.guid peers row is ks k behind e).transactional (carried_here s.identity.guid peers row is ks k behind e) (held_here s.identity.guid peers row is ks k behind e)
    (own_here (last_with s front before row ks) all front (kept_by row.kept) more (kept_by ks) k.message (kept_by behind) part (part_here s.identity.guid peers row is ks k behind e) refl
    (sent_here s.identity.guid peers row is ks k behind e)))

kept_read : (s : State) (all front more : List Message) (before : List Row) (row : Row) (peers : ℕ) → IsReadable s.identity.guid peers row → IsPart all front (kept_by row.kept) more
    → IsReadAs (list_joined (kept_joined (length before)) (rows_with s (numbers_of front) (before ++ (row_with row [] ∷ [])))) (counted spelled_kept row.kept)
    (rows_with s (numbers_of (front ++ kept_by row.kept)) (before ++ row ∷ []))
kept_read s all front more before row peers is part =
    subst (λ (ms : List Message). IsReadAs (list_joined (kept_joined (length before)) (rows_with s (numbers_of ms) (before ++ (row_with row [] ∷ [])))) (counted spelled_kept row.kept)
    (rows_with s (numbers_of (front ++ kept_by row.kept)) (before ++ row ∷ []))) (append-nil front)
    (list_joined_read (kept_joined (length before)) spelled_kept (λ ks behind. last_with s front before row ks) row.kept (is.value).few (kept_join s all front more before row peers is part))

-- All rows.

-- parts with rows, and the numbers of the messages that they keep behind others
abbrev outs_with : State → List Message → List Row → Parts
outs_with s front before = rows_with s (numbers_of (front ++ kept_in before)) before

part_of : (front : List Message) (rows before : List Row) (row : Row) (behind : List Row) → rows ≡ before ++ (row ∷ behind) → Pairs Apart (front ++ kept_in rows)
    → IsPart (front ++ kept_in rows) (front ++ kept_in before) (kept_by row.kept) (kept_in behind)
part_of front rows before row behind e apart = record {
  apart = apart;
  whole = ap (λ (rs : List Row). front ++ kept_in rs) e ∙ ap (λ (ms : List Message). front ++ ms) (flat_map-append (λ row. map (λ k. k.message) row.kept) before (row ∷ behind))
      ∙ sym (append_assoc front (kept_in before) (kept_by row.kept ++ kept_in behind));
}

one_row_more : (front : List Message) (before : List Row) (row : Row) → (front ++ kept_in before) ++ kept_by row.kept ≡ front ++ kept_in (before ++ row ∷ [])
one_row_more front before row = append_assoc front (kept_in before) (kept_by row.kept)
    ∙ ap (λ (ms : List Message). front ++ ms) (sym (flat_map-append (λ row. map (λ k. k.message) row.kept) before (row ∷ []) ∙ ap (λ (ms : List Message). kept_in before ++ ms) (append-nil (kept_by row.kept))))

row_joins : (s : State) (front : List Message) (rows : List Row) → length s.peers ≤ MAX_PEERS → All (IsReadable s.identity.guid (length s.peers)) rows
    → AllPairs (λ a b. a.sequence.ordinal < b.sequence.ordinal) rows → Pairs Apart (front ++ kept_in rows)
    → Joins row_joined spelled_out (λ before behind. outs_with s front before) rows
unfolding row_joined
row_joins s front rows few are rise apart before row behind e =
    same_value (row_joined (outs_with s front before)) (spelled_out row) (rows_with s (numbers_of ((front ++ kept_in before) ++ kept_by row.kept)) (before ++ row ∷ [])) (outs_with s front (before ++ row ∷ []))
    (ap (λ (ms : List Message). rows_with s (numbers_of ms) (before ++ row ∷ [])) (one_row_more front before row))
    (then_read {Y = Parts} (head_at (outs_with s front before).state)
    (λ head. list_joined (kept_joined (length before)) (rows_with s (numbers_of (front ++ kept_in before)) (before ++ (head ∷ []))))
    (head_text row) (counted spelled_kept row.kept) (row_with row []) (rows_with s (numbers_of ((front ++ kept_in before) ++ kept_by row.kept)) (before ++ row ∷ []))
    (head_read (outs_with s front before).state row few is (before_here (λ a b. a.sequence.ordinal < b.sequence.ordinal) rows before row behind e rise))
    (kept_read s (front ++ kept_in rows) (front ++ kept_in before) (kept_in behind) before row (length s.peers) is (part_of front rows before row behind e apart)))
  where
    is : IsReadable s.identity.guid (length s.peers) row
    is = here (IsReadable s.identity.guid (length s.peers)) rows before row behind e are

pub outs_read : (s : State) (front : List Message) (rows : List Row) → length s.peers ≤ MAX_PEERS → length rows < 2 ^ 32 → All (IsReadable s.identity.guid (length s.peers)) rows
    → AllPairs (λ a b. a.sequence.ordinal < b.sequence.ordinal) rows → Pairs Apart (front ++ kept_in rows)
    → IsReadAs (list_joined row_joined (rows_with s (numbers_of front) [])) (counted spelled_out rows) (rows_with s (numbers_of (front ++ kept_in rows)) rows)
outs_read s front rows few counted_rows are rise apart =
    subst (λ (ms : List Message). IsReadAs (list_joined row_joined (rows_with s (numbers_of ms) [])) (counted spelled_out rows) (rows_with s (numbers_of (front ++ kept_in rows)) rows)) (append-nil front)
    (list_joined_read row_joined spelled_out (λ before behind. outs_with s front before) rows counted_rows (row_joins s front rows few are rise apart))
