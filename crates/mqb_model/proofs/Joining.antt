-- States stand where a message of a transaction joins its sequence.
use Rattle.std.proofs.Common.{refl, sym, subst, length, arith}
use Rattle.std.proofs.lemmas.Bool.Decides.{nat_tests}
use Rattle.std.proofs.lemmas.List.Elements.{All-from_recursion, recursion_from_All}
use Rattle.std.proofs.lemmas.List.Quantifiers.{position-Some}
use Rattle.std.specs.List.{AllByRecursion}
use Rattle.std.specs.Option.{option_map_or}
use Rattle.std.specs.Prelude.{◌+◌, ◌++◌, ◌<◌, ◌==◌, ◌||◌, ◌∷◌, ◌≡◌, ◌≤◌, [], All, Bool, IfSome, List, None, Option, Some, cond, false, filter, is_some, map, nat_le, nat_lt, option_and_then, position, true, ℕ}
use Rattle.mqb_base.specs.Same.{same_guid}
use Rattle.mqb_base.specs.declared.ids.Guid.{Guid}
use Rattle.mqb_base.specs.declared.ids.Identity.{Identity}
use Rattle.mqb_base.specs.declared.message.Message.{Message}
use Rattle.mqb_base.specs.declared.queue_names.QueueName.{QueueName}
use Rattle.mqb_base.specs.declared.queue_names.QueueName.TheVariants.{Direct, Private, Public}
use Rattle.mqb_fate.specs.Asking.{is_transactional}
use Rattle.mqb_orders.specs.Rows.{Row, leads_to}
use Rattle.mqb_orders.specs.declared.kept.Kept.{Kept}
use Rattle.mqb_packet.specs.declared.packet.Headers.TheVariants as headers
use Rattle.mqb_model.specs.Lists.{with_first_changed}
use Rattle.mqb_model.specs.declared.limits.TheConstants.{MAX_ORDINAL, MAX_ROLL}
use Rattle.mqb_model.specs.declared.target.Target.TheVariants.{AtPeer, Here, Nowhere}
use Rattle.mqb_model.specs.rules.Sequences.{join, may_join, new_sequence, sequence_in_use, with_kept, with_sequence}
use Rattle.mqb_model.specs.state.Resolving.{at_peer, is_host_of, is_own_host, peer_at, peer_known, queue_named, queue_numbered, queue_registered, resolved}
use Rattle.mqb_model.specs.state.Rows.{has_ordinal, last_sequence, row_of_ordinal, with_row}
use Rattle.mqb_model.specs.state.State.{State}
use Rattle.mqb_model.specs.state.Valid.{IsCarried, IsInOrder, IsKeptBy, IsOwn, IsValidState, kept_messages, recoverable_messages}
use Rattle.mqb_model.proofs.Departing.{if_some}
use Rattle.mqb_model.proofs.Members.{Gains, PairsByRecursion, all_append, all_pairs, all_weaker, fewer_all, fewer_filter, first_all, first_gains, first_holds, first_pairs, first_passes, gains_all, gains_before, gains_behind, gains_end, gains_pairs, here, last_holds, pairs_of, pairs_push, split_and}
use Rattle.mqb_model.proofs.Offering.{Differ, IsHeaded, Precedes, all_headed, kept_in}
use Rattle.mqb_model.proofs.Remaining.{IsApart, IsFresh, Stands, waiting}

-- A name leads to a peer that is there.

peer_within : (s : State) (passes : Identity → Bool) (k : ℕ) → at_peer (position passes s.peers) ≡ AtPeer k → k < length s.peers
peer_within s passes k e = at (position passes s.peers) refl e
  where
    at : (o : Option ℕ) → position passes s.peers ≡ o → at_peer o ≡ AtPeer k → k < length s.peers
    at None there e = absurd (let none : ⊥ = cc in none)
    at (Some j) there e = let same : j ≡ k = cc in subst (λ n. n < length s.peers) same ((position-Some passes s.peers j s.identity there).0)

pub led_within : (s : State) (name : QueueName) (k : ℕ) → resolved s name ≡ AtPeer k → k < length s.peers
led_within s (Public guid false) k e = at (queue_registered s guid) e
  where
    at : (o : Option ℕ) → option_map_or (λ number. Here (Some number)) o Nowhere ≡ AtPeer k → k < length s.peers
    at None e = absurd (let none : ⊥ = cc in none)
    at (Some number) e = absurd (let none : ⊥ = cc in none)
led_within s (Private qm number false) k e = at (same_guid qm s.identity.guid) e
  where
    at : (b : Bool) → cond b (Here (queue_numbered s number)) (at_peer (peer_known s qm)) ≡ AtPeer k → k < length s.peers
    at true e = absurd (let none : ⊥ = cc in none)
    at false e = peer_within s (λ p. same_guid p.guid qm) k e
led_within s (Direct host queue false) k e = at (is_own_host s.identity host) e
  where
    at : (b : Bool) → cond b (Here (queue_named s queue)) (at_peer (peer_at s host)) ≡ AtPeer k → k < length s.peers
    at true e = absurd (let none : ⊥ = cc in none)
    at false e = peer_within s (λ p. is_host_of host p) k e
led_within s name k e = absurd (let none : ⊥ = cc in none)

-- A message joins rows.

pub gained_stands : (whose : Guid) (low high : ℕ) (s : State) (rows : List Row) (next : ℕ) (m : Message) → (1 ≤ next) × (next ≤ MAX_ORDINAL + 1)
    → AllByRecursion (IsHeaded next) rows → PairsByRecursion Precedes rows → AllByRecursion (IsInOrder (length s.peers)) rows
    → Gains m (kept_messages s) (kept_in rows) → IsCarried headers.TxAndSession m → IsFresh whose low high s m → Stands whose low high s
    → Stands whose low high (record s { outs = rows; next_ordinal = next })
gained_stands whose low high s rows next m left headed rise order gains carried fresh h = let v = h.valid in record {
  valid = record {
    few_peers = v.few_peers;
    few_queues = v.few_queues;
    peers_differ = v.peers_differ;
    queues_differ = v.queues_differ;
    plain_lists = v.plain_lists;
    hosts = v.hosts;
    ordinals_rise = all_pairs Precedes rows rise;
    ordinals_given = λ k d lt. (heads k d lt).0;
    rows = All-from_recursion (IsInOrder (length s.peers)) rows order;
    sources_differ = v.sources_differ;
    outs_to_queues = λ k d lt. (heads k d lt).1;
    ins_to_queues = v.ins_to_queues;
    kept = All-from_recursion (IsCarried headers.TxAndSession) (kept_in rows)
        (gains_all (IsCarried headers.TxAndSession) m gains carried (recursion_from_All (IsCarried headers.TxAndSession) (kept_messages s) v.kept));
    plain = v.plain;
    placed = v.placed;
    recoverable = v.recoverable;
    durable = v.durable;
    next_number = v.next_number;
    next_ordinal = left;
    settings = v.settings;
    own = All-from_recursion own (kept_in rows ++ recoverable_messages s) (gains_all own m whole fresh.own (recursion_from_All own (waiting s) v.own));
    ids_differ = all_pairs Differ (kept_in rows ++ recoverable_messages s)
        (gains_pairs Differ m whole fresh.before fresh.behind (pairs_of Differ (waiting s) v.ids_differ));
  };
  above = h.above;
  owner = h.owner;
  apart = gains_all (IsApart low high) m whole fresh.apart h.apart;
}
  where
    heads : All (IsHeaded next) rows
    heads = All-from_recursion (IsHeaded next) rows headed

    own : Message → Type 0
    own o = IsOwn s.identity.guid s.next_number o

    whole : Gains m (waiting s) (kept_in rows ++ recoverable_messages s)
    whole = gains_before m (recoverable_messages s) gains

-- the messages of one row
abbrev of_row : Row → List Message
of_row row = map (λ k. k.message) row.kept

-- One more in a row that is there.

with_kept_in_order : (n : ℕ) (m : Message) (row : Row) → is_transactional m.delivery ≡ true → row.committed < MAX_ROLL → IsInOrder n row → IsInOrder n (with_kept m row)
with_kept_in_order n m row transactional room h = record {
  peer = h.peer;
  acked = h.acked;
  offered = let old : row.offered ≤ row.committed = h.offered in omega arith;
  committed = omega arith;
  rises = all_pairs (λ j k. j.number < k.number) (row.kept ++ new ∷ []) (pairs_push (λ j k. j.number < k.number) row.kept new
      (all_weaker (IsKeptBy row) (λ k. k.number < row.committed + 1) (λ k one. let last : k.number ≤ row.committed = one.last in omega arith) row.kept olds)
      (pairs_of (λ j k. j.number < k.number) row.kept h.rises));
  kept = All-from_recursion (IsKeptBy (with_kept m row)) (row.kept ++ new ∷ []) (all_append (IsKeptBy (with_kept m row)) row.kept (new ∷ [])
      (all_weaker (IsKeptBy row) (IsKeptBy (with_kept m row)) (λ k one. let last : k.number ≤ row.committed = one.last in record { first = one.first; last = omega arith; transactional = one.transactional }) row.kept olds)
      (record { first = omega arith; last = omega arith; transactional = transactional }, tt));
}
  where
    new : Kept
    new = record { number = row.committed + 1; message = m }

    olds : AllByRecursion (IsKeptBy row) row.kept
    olds = recursion_from_All (IsKeptBy row) row.kept h.kept

-- an ordinal is that of one row

abbrev IsOnly : List Row → Row → Type 0
IsOnly rows row = AllByRecursion (λ r. (r.sequence.ordinal ≡ row.sequence.ordinal) → r ≡ row) rows

only_ones : (rows : List Row) → PairsByRecursion Precedes rows → AllByRecursion (IsOnly rows) rows
only_ones [] h = tt
only_ones (x ∷ xs) h = (
  (λ e. refl, all_weaker (Precedes x) (λ r. (r.sequence.ordinal ≡ x.sequence.ordinal) → r ≡ x) (λ r lt e. absurd (omega (arith, lt, e))) xs h.0),
  both xs h.0 (only_ones xs h.1),
)
  where
    both : (rs : List Row) → AllByRecursion (Precedes x) rs → AllByRecursion (IsOnly xs) rs → AllByRecursion (IsOnly (x ∷ xs)) rs
    both [] a b = tt
    both (r ∷ rs) a b = ((λ e. absurd (let lt : x.sequence.ordinal < r.sequence.ordinal = a.0 in omega (arith, lt, e)), b.0), both rs a.1 b.1)

same_number : (a b : ℕ) → (a == b) ≡ true → a ≡ b
same_number a b h = grind (arith, nat_tests)

is_less : (a b : ℕ) → nat_lt a b ≡ true → a < b
is_less a b h = grind (arith, nat_tests)

at_most : (a b : ℕ) → nat_le a b ≡ true → a ≤ b
at_most a b h = grind (arith, nat_tests)

-- a row in use has room for one more
roomy : (s : State) (peer : ℕ) (destination : QueueName) → IsValidState s
    → IfSome (sequence_in_use s peer destination) (λ row. IsOnly s.outs row × (row.committed < MAX_ROLL))
roomy s peer destination v = at (last_sequence s peer destination)
    (last_holds (IsOnly s.outs) None (filter (leads_to peer destination) s.outs) tt
    (fewer_all (IsOnly s.outs) (fewer_filter (leads_to peer destination) s.outs) (only_ones s.outs (pairs_of Precedes s.outs v.ordinals_rise))))
  where
    roll : s.roll ≤ MAX_ROLL
    roll = at_most s.roll MAX_ROLL (split_and (nat_le 1 s.roll) (nat_le s.roll MAX_ROLL) v.settings).1

    tested : (row : Row) → IsOnly s.outs row → (b : Bool) → nat_lt row.committed s.roll ≡ b
        → IfSome (cond b (Some row) None) (λ row. IsOnly s.outs row × (row.committed < MAX_ROLL))
    tested row one true e = (one, let less : row.committed < s.roll = is_less row.committed s.roll e in let most = roll in omega (arith, less, most))
    tested row one false e = tt

    at : (o : Option Row) → IfSome o (IsOnly s.outs)
        → IfSome (option_and_then (λ row. cond (nat_lt row.committed s.roll) (Some row) None) o) (λ row. IsOnly s.outs row × (row.committed < MAX_ROLL))
    at None h = tt
    at (Some row) h = tested row h (nat_lt row.committed s.roll) refl

-- A new row.

pushed_gains : (rows : List Row) (row : Row) (m : Message) → of_row row ≡ m ∷ [] → Gains m (kept_in rows) (kept_in (rows ++ row ∷ []))
pushed_gains [] row m e = subst (λ ms. Gains m [] (ms ++ [])) (sym e) here
pushed_gains (r ∷ rows) row m e = gains_behind m (of_row r) (pushed_gains rows row m e)

pub join_stands : (whose : Guid) (low high : ℕ) (s : State) (peer now : ℕ) (m : Message) → peer < length s.peers → may_join s peer m.destination ≡ true
    → is_transactional m.delivery ≡ true → IsCarried headers.TxAndSession m → IsFresh whose low high s m → Stands whose low high s
    → Stands whose low high (join s peer now m)
join_stands whose low high s peer now m within may transactional carried fresh h = at (sequence_in_use s peer m.destination) (roomy s peer m.destination h.valid) may
  where
    Order : Row → Type 0
    Order row = IsInOrder (length s.peers) row

    old : (row : Row) → IsOnly s.outs row → row.committed < MAX_ROLL → Stands whose low high (with_row (with_kept m) s row.sequence.ordinal)
    old row only room = gained_stands whose low high s (with_first_changed (with_kept m) passes s.outs) s.next_ordinal m h.valid.next_ordinal
        (first_all (IsHeaded s.next_ordinal) (with_kept m) passes s.outs (if_some (λ r. IsHeaded s.next_ordinal r → IsHeaded s.next_ordinal (with_kept m r))
        (row_of_ordinal s row.sequence.ordinal) (λ r g. (record { first = (g.0).first; below = (g.0).below }, g.1))) (all_headed s h.valid))
        (first_pairs Precedes (with_kept m) passes s.outs (λ x z r. r) (λ x z r. r) (pairs_of Precedes s.outs h.valid.ordinals_rise))
        (first_all Order (with_kept m) passes s.outs (each (row_of_ordinal s row.sequence.ordinal)
        (first_holds (λ r. (r.sequence.ordinal ≡ row.sequence.ordinal) → r ≡ row) passes s.outs only) (first_passes passes s.outs)) (recursion_from_All Order s.outs h.valid.rows))
        (first_gains of_row m (with_kept m) passes s.outs (λ r. gains_end (λ k. k.message) (record { number = r.committed + 1; message = m }) r.kept)) carried fresh h
      where
        passes : Row → Bool
        passes r = has_ordinal row.sequence.ordinal r

        each : (o : Option Row) → IfSome o (λ r. (r.sequence.ordinal ≡ row.sequence.ordinal) → r ≡ row) → IfSome o (λ r. passes r ≡ true)
            → IfSome o (λ r. Order r → Order (with_kept m r))
        each None one passed = tt
        each (Some r) one passed = with_kept_in_order (length s.peers) m r transactional
            (subst (λ x. x.committed < MAX_ROLL) (sym (one (same_number r.sequence.ordinal row.sequence.ordinal passed))) room)

    new : s.next_ordinal ≤ MAX_ORDINAL → Stands whose low high (with_sequence s (with_kept m (new_sequence s peer m.destination now)))
    new left = let first : 1 ≤ s.next_ordinal = h.valid.next_ordinal.0 in let row = with_kept m (new_sequence s peer m.destination now) in
        gained_stands whose low high s (s.outs ++ row ∷ []) (s.next_ordinal + 1) m (omega arith, omega arith)
        (all_append (IsHeaded (s.next_ordinal + 1)) s.outs (row ∷ [])
        (all_weaker (IsHeaded s.next_ordinal) (IsHeaded (s.next_ordinal + 1)) (λ r g. let below : r.sequence.ordinal < s.next_ordinal = (g.0).below in (record { first = (g.0).first; below = omega arith }, g.1)) s.outs headed)
        ((record { first = first; below = omega arith }, carried.well_formed.destination), tt))
        (pairs_push Precedes s.outs row (all_weaker (IsHeaded s.next_ordinal) (λ r. Precedes r row) (λ r g. (g.0).below) s.outs headed) (pairs_of Precedes s.outs h.valid.ordinals_rise))
        (all_append Order s.outs (row ∷ []) (recursion_from_All Order s.outs h.valid.rows)
        (with_kept_in_order (length s.peers) m (new_sequence s peer m.destination now) transactional (omega arith) begins, tt))
        (pushed_gains s.outs row m refl) carried fresh h
      where
        headed : AllByRecursion (IsHeaded s.next_ordinal) s.outs
        headed = all_headed s h.valid

        begins : Order (new_sequence s peer m.destination now)
        begins = record {
          peer = within;
          acked = omega arith;
          offered = omega arith;
          committed = omega arith;
          rises = λ i j d less lt. absurd (omega arith);
          kept = λ k d lt. absurd (omega arith);
        }

    at : (o : Option Row) → IfSome o (λ row. IsOnly s.outs row × (row.committed < MAX_ROLL)) → (is_some o || nat_le s.next_ordinal MAX_ORDINAL) ≡ true
        → Stands whose low high (option_map_or (λ row. with_row (with_kept m) s row.sequence.ordinal) o (with_sequence s (with_kept m (new_sequence s peer m.destination now))))
    at None r may = new (at_most s.next_ordinal MAX_ORDINAL may)
    at (Some row) r may = old row r.0 r.1
