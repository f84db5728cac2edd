-- A state stays valid where its sequences are offered.
use Rattle.std.proofs.Common.{refl, ap, sym, ◌∙◌, length, arith}
use Rattle.std.proofs.lemmas.Bool.Decides.{nat_tests}
use Rattle.std.proofs.lemmas.List.Elements.{All-from_recursion, recursion_from_All}
use Rattle.std.specs.List.{AllByRecursion, flat_map, list_any}
use Rattle.std.specs.Option.{option_map_or}
use Rattle.std.specs.Prelude.{◌++◌, ◌<◌, ◌==◌, ◌||◌, ◌∷◌, ◌≡◌, ◌≤◌, [], All, Bool, IfSome, IsTrue, List, None, Option, Some, false, map, nat_lt, true, ℕ}
use Rattle.mqb_base.specs.QueueNames.{names_queue}
use Rattle.mqb_base.specs.Same.{same_id}
use Rattle.mqb_base.specs.declared.message.Message.{Message}
use Rattle.mqb_entries.specs.declared.members.Mark.{Mark}
use Rattle.mqb_orders.specs.Rows.{Row}
use Rattle.mqb_orders.specs.declared.kept.Kept.{Kept}
use Rattle.mqb_packet.specs.declared.packet.Headers.TheVariants as headers
use Rattle.mqb_model.specs.laws.Keeping.{OfferedIsValid}
use Rattle.mqb_model.specs.records.Offered.{mark_fits, mark_raised, offered_fits, raises_offer, with_offered}
use Rattle.mqb_model.specs.state.Rows.{has_ordinal, row_of_ordinal}
use Rattle.mqb_model.specs.state.State.{State}
use Rattle.mqb_model.specs.state.Valid.{IsCarried, IsGivenOrdinal, IsInOrder, IsKeptBy, IsOwn, IsValidState, kept_messages, recoverable_messages}
use Rattle.mqb_model.proofs.Members.{Fewer, PairsByRecursion, all_pairs, fewer_all, fewer_append, fewer_pairs, first_all, first_fewer, first_pairs, pairs_of, same, split_and}

-- the messages that rows keep
abbrev pub kept_in : List Row → List Message
kept_in rows = flat_map (λ row. map (λ k. k.message) row.kept) rows

-- an earlier ordinal
abbrev pub Precedes : Row → Row → Type 0
Precedes a b = a.sequence.ordinal < b.sequence.ordinal

-- a row of an ordinal that was given, to a queue
abbrev pub IsHeaded : ℕ → Row → Type 0
IsHeaded next row = IsGivenOrdinal next row × IsTrue (names_queue row.destination)

pub all_headed : (s : State) → IsValidState s → AllByRecursion (IsHeaded s.next_ordinal) s.outs
all_headed s v = recursion_from_All (IsHeaded s.next_ordinal) s.outs (λ k d lt. (v.ordinals_given k d lt, v.outs_to_queues k d lt))

-- messages with different identifiers
abbrev pub Differ : Message → Message → Type 0
Differ a b = same_id a.id b.id ≡ false

-- other rows stand in the state, which keep no message more
pub rows_valid : (s : State) (rows : List Row) → IsValidState s → AllByRecursion (IsHeaded s.next_ordinal) rows → PairsByRecursion Precedes rows
    → AllByRecursion (IsInOrder (length s.peers)) rows → Fewer (kept_in rows) (kept_messages s) → IsValidState (record s { outs = rows })
rows_valid s rows v headed rise order fewer = record {
  few_peers = v.few_peers;
  few_queues = v.few_queues;
  peers_differ = v.peers_differ;
  queues_differ = v.queues_differ;
  plain_lists = v.plain_lists;
  hosts = v.hosts;
  ordinals_rise = all_pairs Precedes rows rise;
  ordinals_given = λ k d lt. (heads k d lt).0;
  rows = All-from_recursion (IsInOrder (length s.peers)) rows order;
  sources_differ = v.sources_differ;
  outs_to_queues = λ k d lt. (heads k d lt).1;
  ins_to_queues = v.ins_to_queues;
  kept = All-from_recursion (IsCarried headers.TxAndSession) (kept_in rows)
      (fewer_all (IsCarried headers.TxAndSession) fewer (recursion_from_All (IsCarried headers.TxAndSession) (kept_messages s) v.kept));
  plain = v.plain;
  placed = v.placed;
  recoverable = v.recoverable;
  durable = v.durable;
  next_number = v.next_number;
  next_ordinal = v.next_ordinal;
  settings = v.settings;
  own = All-from_recursion own (kept_in rows ++ recoverable_messages s)
      (fewer_all own whole (recursion_from_All own (kept_messages s ++ recoverable_messages s) v.own));
  ids_differ = all_pairs Differ (kept_in rows ++ recoverable_messages s)
      (fewer_pairs Differ whole (pairs_of Differ (kept_messages s ++ recoverable_messages s) v.ids_differ));
}
  where
    heads : All (IsHeaded s.next_ordinal) rows
    heads = All-from_recursion (IsHeaded s.next_ordinal) rows headed

    own : Message → Type 0
    own m = IsOwn s.identity.guid s.next_number m

    whole : Fewer (kept_in rows ++ recoverable_messages s) (kept_messages s ++ recoverable_messages s)
    whole = fewer_append fewer (same (recoverable_messages s))

-- a number that a row keeps was committed
kept_below : (row : Row) (n : ℕ) (ks : List Kept) → AllByRecursion (IsKeptBy row) ks → list_any (λ k. k.number == n) ks ≡ true → n ≤ row.committed
kept_below row n [] h e = absurd (let none : ⊥ = cc in none)
kept_below row n (k ∷ ks) h e = at (k.number == n) refl (kept_below row n ks h.1)
  where
    at : (b : Bool) → (k.number == n) ≡ b → (list_any (λ k. k.number == n) ks ≡ true → n ≤ row.committed) → n ≤ row.committed
    at true is behind = let last : k.number ≤ row.committed = (h.0).last in grind (arith, nat_tests)
    at false other behind = behind (ap (λ b. b || list_any (λ k. k.number == n) ks) (sym other) ∙ e)

-- an offered row is in order
offered_in_order : (peers : ℕ) (mark : Mark) (row : Row) → raises_offer mark row ≡ true → IsInOrder peers row → IsInOrder peers (with_offered mark.number row)
offered_in_order peers mark row f h = record {
  peer = h.peer;
  acked = above row.acked row.offered mark.number h.acked both.0;
  offered = kept_below row mark.number row.kept (recursion_from_All (IsKeptBy row) row.kept h.kept) both.1;
  committed = h.committed;
  rises = h.rises;
  kept = λ k d lt. let one = h.kept k d lt in record { first = one.first; last = one.last; transactional = one.transactional };
}
  where
    above : (acked offered number : ℕ) → acked ≤ offered → nat_lt offered number ≡ true → acked ≤ number
    above acked offered number le lt = grind (arith, nat_tests)

    both : (nat_lt row.offered mark.number ≡ true) × (list_any (λ k. k.number == mark.number) row.kept ≡ true)
    both = split_and (nat_lt row.offered mark.number) (list_any (λ k. k.number == mark.number) row.kept) f

mark_valid : (s : State) (mark : Mark) → IsValidState s → option_map_or (raises_offer mark) (row_of_ordinal s mark.ordinal) false ≡ true → IsValidState (mark_raised s mark)
mark_valid s mark v f = rows_valid s (mark_raised s mark).outs v
    (first_all (IsHeaded s.next_ordinal) change passes s.outs (any (row_of_ordinal s mark.ordinal)) (all_headed s v))
    (first_pairs Precedes change passes s.outs (λ x z h. h) (λ x z h. h) (pairs_of Precedes s.outs v.ordinals_rise))
    (first_all (IsInOrder (length s.peers)) change passes s.outs (raised (row_of_ordinal s mark.ordinal) f) (recursion_from_All (IsInOrder (length s.peers)) s.outs v.rows))
    (first_fewer (λ row. map (λ k. k.message) row.kept) change passes s.outs (λ row. same (map (λ k. k.message) row.kept)))
  where
    change : Row → Row
    change row = with_offered mark.number row

    passes : Row → Bool
    passes row = has_ordinal mark.ordinal row

    any : (o : Option Row) → IfSome o (λ row. IsHeaded s.next_ordinal row → IsHeaded s.next_ordinal (change row))
    any None = tt
    any (Some row) = λ h. (record { first = (h.0).first; below = (h.0).below }, h.1)

    raised : (o : Option Row) → option_map_or (raises_offer mark) o false ≡ true → IfSome o (λ row. IsInOrder (length s.peers) row → IsInOrder (length s.peers) (change row))
    raised None e = tt
    raised (Some row) e = offered_in_order (length s.peers) mark row e

pub offered_is_valid : OfferedIsValid
offered_is_valid s [] v f = v
offered_is_valid s (mark ∷ marks) v f = offered_is_valid (mark_raised s mark) marks (mark_valid s mark v both.0) both.1
  where
    both : (mark_fits s mark ≡ true) × (offered_fits (mark_raised s mark) marks ≡ true)
    both = split_and (mark_fits s mark) (offered_fits (mark_raised s mark) marks) f
