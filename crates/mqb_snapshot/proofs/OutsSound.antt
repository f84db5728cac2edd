-- Outgoing rows that join those before them, and the messages that they keep.
use Rattle.std.proofs.Common.{◌≡◌, ◌≤◌, ◌<◌, ℕ, true, false, List, [], ◌∷◌, ◌++◌, length, map, Option, Some, refl, sym, ap, subst, ◌∙◌, inl, arith}
use Rattle.std.proofs.lemmas.Bool.{and_parts, leb-true, ltb-true}
use Rattle.std.proofs.lemmas.List.{map-append}
use Rattle.std.proofs.lemmas.List.Elements.{All-from_recursion, recursion_from_All}
use Rattle.std.specs.List.{AllByRecursion}
use Rattle.std.specs.Option.{option_map_or}
use Rattle.std.specs.Prelude.{◌&&◌, nat_le, nat_lt, slice_get}
use Rattle.mqb_base.specs.declared.message.Message.{Message}
use Rattle.mqb_fate.specs.Asking.{is_transactional}
use Rattle.mqb_model.specs.declared.limits.TheConstants.{MAX_ROLL}
use Rattle.mqb_model.specs.state.State.{State}
use Rattle.mqb_model.specs.state.Valid.{IsKeptBy, kept_messages, recoverable_messages}
use Rattle.mqb_orders.specs.Rows.{Row}
use Rattle.mqb_orders.specs.declared.kept.Kept.{Kept}
use Rattle.mqb_packet.specs.declared.packet.Headers.TheVariants.{TxAndSession}
use Rattle.mqb_snapshot.proofs.Members.{Pairs, all_weaker, pairs_of}
use Rattle.mqb_snapshot.specs.Parts.{Parts}
use Rattle.mqb_snapshot.specs.Reading.{head_at, keeping, kept_joined, last_number, last_ordinal, may_keep, row_joined, with_kept, with_row}
use Rattle.mqb_snapshot.proofs.FieldsRead.{destination_reads, flag_reads, within_reads, word_reads}
use Rattle.mqb_snapshot.proofs.Lists.{IsGrown, all_got, all_grown, all_pushed, all_set, below_last, changed_to, grown_at_end, grown_before, none_more, pairs_all, pairs_pushed, pairs_set, set_grown}
use Rattle.mqb_snapshot.proofs.MessagesRead.{IsOwnStored, own_reads}
use Rattle.mqb_snapshot.proofs.Readers.{Reads, behind, finished, list_reads, tested_reads}
use Rattle.mqb_snapshot.proofs.Sound.{AreOuts, AreOwn, CanBeCarried, IsSound, IsSoundRow, Rise, own_more}

abbrev kept_by : Row → List Message
kept_by row = map (λ k. k.message) row.kept

-- A row that keeps a message more.

one_kept : (k : Kept) (row : Row) → IsGrown k.message (kept_by row) (kept_by (keeping k row))
one_kept k row = subst (IsGrown k.message (kept_by row)) (sym (map-append (λ k. k.message) row.kept (k ∷ []))) (grown_at_end k.message (kept_by row))

kept_grown : (s : State) (k : ℕ) (kept : Kept) → IsGrown kept.message (kept_messages s) (kept_messages (with_kept s k kept))
kept_grown s k kept = changed_to (λ rows. IsGrown kept.message (kept_messages s) (kept_messages (record s { outs = rows }))) (keeping kept) s.outs k (inl refl)
    (λ row got. set_grown kept_by kept.message s.outs k row (keeping kept row) got (one_kept kept row))

-- a number that follows those of a row, up to the last one
record Follows (row : Row) (number : ℕ) : Type 0 where
  pub above : last_number row.kept < number
  pub within : number ≤ row.committed

follows : (s : State) (k number : ℕ) (row : Row) → slice_get s.outs k ≡ Some row → may_keep s k number ≡ true → Follows row number
follows s k number row got may =
    let here = sym (ap (λ (o : Option Row). option_map_or (λ r. nat_lt (last_number r.kept) number && nat_le number r.committed) o false) got) ∙ may in
    let both = and_parts (nat_lt (last_number row.kept) number) (nat_le number row.committed) here in
    record { above = ltb-true _ _ both.0; within = leb-true _ _ both.1 }

keeps_more : (peers : ℕ) (row : Row) (k : Kept) → IsSoundRow peers row → Follows row k.number → is_transactional k.message.delivery ≡ true → IsSoundRow peers (keeping k row)
keeps_more peers row k is next transactional = record {
  order = record {
    peer = (is.order).peer;
    acked = (is.order).acked;
    offered = (is.order).offered;
    committed = (is.order).committed;
    rises = pairs_all (λ a b. a.number < b.number) (row.kept ++ k ∷ []) (pairs_pushed (λ a b. a.number < b.number) row.kept k rises (below_last (λ a. a.number) row.kept k.number rises next.above));
    kept = All-from_recursion (IsKeptBy (keeping k row)) (row.kept ++ k ∷ []) (all_pushed (IsKeptBy (keeping k row)) row.kept k
        (all_weaker (IsKeptBy row) (IsKeptBy (keeping k row)) (λ j h. record { first = h.first; last = h.last; transactional = h.transactional }) row.kept
        (recursion_from_All (IsKeptBy row) row.kept (is.order).kept))
        (let above : last_number row.kept < k.number = next.above in record { first = omega (arith, above); last = next.within; transactional = transactional }));
  };
  first = is.first;
  stamp = is.stamp;
  destination = is.destination;
  queue = is.queue;
}
  where
    rises : Pairs (λ a b. a.number < b.number) row.kept
    rises = pairs_of (λ a b. a.number < b.number) row.kept (is.order).rises

outs_keep : (peers : ℕ) (s : State) (k : ℕ) (kept : Kept) → AreOuts peers s.outs → may_keep s k kept.number ≡ true → is_transactional kept.message.delivery ≡ true
    → AreOuts peers (with_kept s k kept).outs
outs_keep peers s k kept are may transactional = changed_to (AreOuts peers) (keeping kept) s.outs k are (λ row got. record {
  rise = pairs_set Rise s.outs k row (keeping kept row) got (λ y h. h) (λ y h. h) are.rise;
  each = all_set (IsSoundRow peers) s.outs k (keeping kept row) are.each
      (keeps_more peers row kept (all_got (IsSoundRow peers) s.outs k row got are.each) (follows s k kept.number row got may) transactional);
})

-- parts in which the row at an index keeps a message more
abbrev pub keeping_more : ℕ → Parts → Kept → Parts
keeping_more k p kept = record { state = with_kept p.state k kept; numbers = p.numbers ++ kept.message.id.number ∷ [] }

kept_more : (k : ℕ) (p : Parts) (kept : Kept) → IsSound p → may_keep p.state k kept.number ≡ true → IsOwnStored p TxAndSession true kept.message → IsSound (keeping_more k p kept)
kept_more k p kept is may new = record {
  identity = is.identity;
  peers = is.peers;
  lists = is.lists;
  queues = is.queues;
  placed = is.placed;
  outs = outs_keep (length p.state.peers) p.state k kept is.outs may (ap is_transactional new.0.delivery);
  ins = is.ins;
  kept = all_grown (CanBeCarried TxAndSession) kept.message _ _ (kept_grown p.state k kept) is.kept (new.0.carried, new.0.held);
  waiting = is.waiting;
  own = own_more p kept.message _ _ (grown_before kept.message (recoverable_messages p.state) _ _ (kept_grown p.state k kept)) new.1 is.own;
}

kept_joins : (k : ℕ) (p : Parts) → IsSound p → Reads (kept_joined k p) IsSound
unfolding kept_joined
kept_joins k p is = record {
  gives = λ r x all e.
      behind IsSound (tested_reads (may_keep p.state k) word_reads) r _ x all e (λ number number_end is_number number_left number_rest.
      behind IsSound (tested_reads (λ flag. flag) flag_reads) number_end _ x number_left number_rest (λ transactional transactional_end is_flag transactional_left transactional_rest.
      behind IsSound (own_reads p TxAndSession true) transactional_end _ x transactional_left transactional_rest (λ message message_end is_message message_left message_rest.
      let kept : Kept = record { number = number; message = message } in
      finished IsSound (keeping_more k p kept) message_end x (kept_more k p kept is is_number.1 is_message) message_left message_rest)));
}

-- A row more.

-- a row that follows the others, and keeps nothing yet
pub record IsHead (s : State) (row : Row) : Type 0 where
  pub sound : IsSoundRow (length s.peers) row
  pub above : last_ordinal s < row.sequence.ordinal
  pub none : row.kept ≡ []

pub head_reads : (s : State) → Reads (head_at s) (IsHead s)
unfolding head_at
head_reads s = record {
  gives = λ r x all e.
      behind (IsHead s) (tested_reads (λ k. nat_lt k (length s.peers)) word_reads) r _ x all e (λ peer peer_end is_peer peer_left peer_rest.
      behind (IsHead s) destination_reads peer_end _ x peer_left peer_rest (λ destination destination_end is_destination destination_left destination_rest.
      behind (IsHead s) (tested_reads (nat_lt (last_ordinal s)) word_reads) destination_end _ x destination_left destination_rest (λ ordinal ordinal_end is_ordinal ordinal_left ordinal_rest.
      behind (IsHead s) word_reads ordinal_end _ x ordinal_left ordinal_rest (λ stamp stamp_end is_stamp stamp_left stamp_rest.
      behind (IsHead s) (within_reads 0 MAX_ROLL) stamp_end _ x stamp_left stamp_rest (λ committed committed_end is_committed committed_left committed_rest.
      behind (IsHead s) (within_reads 0 committed) committed_end _ x committed_left committed_rest (λ offered offered_end is_offered offered_left offered_rest.
      behind (IsHead s) (within_reads 0 offered) offered_end _ x offered_left offered_rest (λ acked acked_end is_acked acked_left acked_rest.
      let above : last_ordinal s < ordinal = ltb-true (last_ordinal s) ordinal is_ordinal.1 in
      finished (IsHead s) (record {
        peer = peer;
        destination = destination;
        sequence = record { ordinal = ordinal; stamp = stamp };
        committed = committed;
        offered = offered;
        acked = acked;
        kept = [];
      }) acked_end x (record {
        sound = record {
          order = record {
            peer = ltb-true peer (length s.peers) is_peer.1;
            acked = is_acked.1;
            offered = is_offered.1;
            committed = is_committed.1;
            rises = pairs_all (λ a b. a.number < b.number) [] tt;
            kept = All-from_recursion _ [] tt;
          };
          first = omega (arith, above);
          stamp = is_stamp;
          destination = is_destination.0;
          queue = is_destination.1;
        };
        above = above;
        none = refl;
      }) acked_left acked_rest)))))));
}

row_more : (p : Parts) (row : Row) → IsSound p → IsHead p.state row → IsSound (record p { state = with_row p.state row })
row_more p row is new = record {
  identity = is.identity;
  peers = is.peers;
  lists = is.lists;
  queues = is.queues;
  placed = is.placed;
  outs = record {
    rise = pairs_pushed Rise p.state.outs row (is.outs).rise (below_last (λ r. r.sequence.ordinal) p.state.outs row.sequence.ordinal (is.outs).rise new.above);
    each = all_pushed (IsSoundRow (length p.state.peers)) p.state.outs row (is.outs).each new.sound;
  };
  ins = is.ins;
  kept = subst (AllByRecursion (CanBeCarried TxAndSession)) (sym same) is.kept;
  waiting = is.waiting;
  own = subst (λ ms. AreOwn p.state.identity.guid p.numbers (ms ++ recoverable_messages p.state)) (sym same) is.own;
}
  where
    same : kept_messages (with_row p.state row) ≡ kept_messages p.state
    same = none_more kept_by p.state.outs row (ap (λ ks. map (λ k. k.message) ks) new.none)

pub row_joins : (p : Parts) → IsSound p → Reads (row_joined p) IsSound
unfolding row_joined
row_joins p is = record {
  gives = λ r x all e.
      behind IsSound (head_reads p.state) r _ x all e (λ head head_end is_head head_left head_rest.
      (list_reads (λ n. IsSound) (λ n. kept_joins (length p.state.outs)) (record p { state = with_row p.state head }) (λ n few. row_more p head is is_head)).gives
      head_end x head_left head_rest);
}
