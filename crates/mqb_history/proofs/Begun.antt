-- Of two rows that lead to one destination the later one is offered nothing before all that the earlier one keeps is acknowledged.
use Rattle.std.proofs.Common.{refl, ap, sym, subst, ◌∙◌, arith, inl, inr}
use Rattle.std.proofs.lemmas.Bool.Decides.{nat_tests}
use Rattle.std.specs.List.{AllByRecursion, last_or, list_any}
use Rattle.std.specs.Option.{option_map_or}
use Rattle.std.specs.Prelude.{[], ◌&&◌, ◌+◌, ◌++◌, ◌<◌, ◌==◌, ◌||◌, ◌∷◌, ◌≡◌, ◌≤◌, ◌⊎◌, Bool, List, None, Option, Some, cond, false, filter, fold, max, nat_lt, not, option_and_then, slice_get, suc, take, true, zero, ℕ}
use Rattle.mqb_base.specs.Bits.{keeps_dead}
use Rattle.mqb_base.specs.Same.{same_name}
use Rattle.mqb_base.specs.declared.ids.SequenceId.{SequenceId}
use Rattle.mqb_base.specs.declared.message.Message.{Message}
use Rattle.mqb_base.specs.declared.queue_names.QueueName.{QueueName}
use Rattle.mqb_entries.specs.declared.members.Mark.{Mark}
use Rattle.mqb_exactly_once.specs.Words.{In}
use Rattle.mqb_model.specs.Lists.{without_first}
use Rattle.mqb_model.specs.declared.target.Target.{Target}
use Rattle.mqb_model.specs.declared.target.Target.TheVariants.{AtPeer, Here, Nowhere}
use Rattle.mqb_model.specs.records.Applying.{apply}
use Rattle.mqb_model.specs.records.Commit.{send_made, sends_of, takes_made}
use Rattle.mqb_model.specs.records.Finals.{is_offered_as}
use Rattle.mqb_model.specs.records.Record.{Record}
use Rattle.mqb_model.specs.records.Record as entry
use Rattle.mqb_model.specs.rules.Effects.{Effect}
use Rattle.mqb_model.specs.rules.Sends.{committed_to, journalled}
use Rattle.mqb_model.specs.rules.Sequences.{join, new_sequence, sequence_in_use, with_kept, with_sequence}
use Rattle.mqb_model.specs.rules.Timeouts.{expires}
use Rattle.mqb_model.specs.state.Resolving.{resolved}
use Rattle.mqb_model.specs.state.Rows.{has_ordinal, last_sequence, with_row}
use Rattle.mqb_model.specs.state.State.{State, empty}
use Rattle.mqb_network.specs.Courses.{Course, Written}
use Rattle.mqb_network.specs.Doubts.{settled}
use Rattle.mqb_network.specs.Laws.{lines_written}
use Rattle.mqb_network.specs.Network.{manager_at}
use Rattle.mqb_network.specs.Runs.{after_run}
use Rattle.mqb_orders.specs.Rows.{Row, has_unacknowledged, is_open, leads_to}
use Rattle.mqb_orders.specs.declared.kept.Kept.{Kept}
use Rattle.mqb_history.specs.Begun.{AreBegunInOrder}
use Rattle.mqb_history.specs.Decided.{written_of}
use Rattle.mqb_history.specs.Expired.{expiries_told}
use Rattle.mqb_history.specs.Leading.{RowsAreLed}
use Rattle.mqb_history.specs.Laws.{AlwaysBegunInOrder}
use Rattle.mqb_history.specs.Made.{IsMade}
use Rattle.mqb_history.specs.Waiting.{AreWaiting, IsInRow}
use Rattle.mqb_history.proofs.Applying.{applied_manager, made_of_no_peer, takes_made_rows}
use Rattle.mqb_history.proofs.Between.{in_any}
use Rattle.mqb_history.proofs.Committing.{OrdinalsRise, all_in, first_changed, in_split, is_first_changed}
use Rattle.mqb_history.proofs.Due.{one_row}
use Rattle.mqb_history.proofs.Lists.{all_append, all_weaker, equal_numbers, get_in, join_and, none_some, not_true, same_number, some_is, split_and, true_not_false}
use Rattle.mqb_history.proofs.Marked.{made_marks}
use Rattle.mqb_history.proofs.Names.{same_name_is, same_name_refl}
use Rattle.mqb_history.proofs.Numbering.{AreCounted, changed_all, counted_by_records, in_use_in, joined_outs, last_in, rise_kept, rise_new}
use Rattle.mqb_history.proofs.Outside.{filtered_in, without_in}
use Rattle.mqb_history.proofs.Rowwise.{Allows, IsCommit, Raises, applied_each, resolved_peer}
use Rattle.mqb_history.proofs.Sparing.{all_of}
use Rattle.mqb_history.proofs.Staying.{HasSameRows, delivered_rows, journalled_rows}
use Rattle.mqb_history.proofs.Waiting.{always_waiting}
use Rattle.mqb_history.proofs.Written.{IsByRecords, always_by_records}

-- all that a row keeps is acknowledged
abbrev pub IsFree : Row → Type 0
IsFree row = (k : Kept) → In k row.kept → k.number ≤ row.acked

-- rows to one destination begin in order
abbrev pub AreBegun : List Row → Type 0
AreBegun rows = (a b : Row) → In a rows → In b rows → a.peer ≡ b.peer → a.destination ≡ b.destination → a.sequence.ordinal < b.sequence.ordinal → 0 < b.offered → IsFree a

-- Records that are of no transaction.

-- a row came from another one, which may have been marked
record Came (s : State) (r : Record) (row : Row) : Type 0 where
  pub old : Row
  pub there : In old s.outs
  pub peer : row.peer ≡ old.peer
  pub destination : row.destination ≡ old.destination
  pub sequence : row.sequence ≡ old.sequence
  pub kept : (k : Kept) → In k row.kept → In k old.kept
  pub acked : old.acked ≤ row.acked
  pub offered : (row.offered ≡ old.offered) ⊎ ((mark : Mark) × Raises r mark × (mark.ordinal ≡ old.sequence.ordinal))

-- with less, and acknowledged as far or further
less_came : (s : State) (r : Record) (row : Row) (acked : ℕ) (kept : List Kept) → ((k : Kept) → In k kept → In k row.kept) → row.acked ≤ acked → Came s r row
    → Came s r (record row { acked = acked; kept = kept })
less_came s r row acked kept fewer more h = record {
  old = h.old;
  there = h.there;
  peer = h.peer;
  destination = h.destination;
  sequence = h.sequence;
  kept = λ k i. h.kept k (fewer k i);
  acked = let low = h.acked in omega (arith, low, more);
  offered = h.offered;
}

came_allows : (s : State) (r : Record) → (IsCommit r → ⊥) → Allows (Came s r) s r
came_allows s r other = record {
  begins = λ commit t peer destination now low manager leads. absurd (other commit);
  joins = λ commit m row h. absurd (other commit);
  offers = λ mark row raises same h. record {
    old = h.old;
    there = h.there;
    peer = h.peer;
    destination = h.destination;
    sequence = h.sequence;
    kept = h.kept;
    acked = h.acked;
    offered = inr (mark, raises, sym same ∙ ap (λ (q : SequenceId). q.ordinal) h.sequence);
  };
  acknowledges = λ ordinal number row acks same h. less_came s r row (max row.acked number) _
      (λ k i. filtered_in (λ (x : Kept). nat_lt (max row.acked number) x.number || keeps_dead x.message) row.kept k i) (omega arith) h;
  finishes = λ m k row ends peer named h. less_came s r row (max row.acked k.number) _
      (λ x i. without_in (is_offered_as m.correlation row) row.kept x
      (filtered_in (λ (y : Kept). nat_lt (max row.acked k.number) y.number || keeps_dead y.message) (without_first (is_offered_as m.correlation row) row.kept) x i)) (omega arith) h;
  expires = λ now row h. less_came s r row row.acked _ (λ k i. without_in (expires now row) row.kept k i) (omega arith) h;
}

-- Rows before an open one are free, where they lead where it leads.

before_in : (rows : List Row) (k : ℕ) (row a : Row) → slice_get rows k ≡ Some row → OrdinalsRise rows → In a rows → a.sequence.ordinal < row.sequence.ordinal → In a (take k rows)
before_in [] k row a e rise i less = absurd i
before_in (x ∷ rows) zero row a e rise (inl f) less = let own = ap (λ (y : Row). y.sequence.ordinal) (some_is x row e) in let same = ap (λ (y : Row). y.sequence.ordinal) f in
    absurd (omega (arith, own, same, less))
before_in (x ∷ rows) zero row a e rise (inr i) less = let own = ap (λ (y : Row). y.sequence.ordinal) (some_is x row e) in
    let more = all_in (λ y. x.sequence.ordinal < y.sequence.ordinal) rows a rise.0 i in absurd (omega (arith, own, more, less))
before_in (x ∷ rows) (suc k) row a e rise (inl f) less = inl f
before_in (x ∷ rows) (suc k) row a e rise (inr i) less = inr (before_in rows k row a e rise.1 i less)

open_free : (rows : List Row) (k : ℕ) (row a : Row) → slice_get rows k ≡ Some row → is_open rows k ≡ true → OrdinalsRise rows → In a rows → a.peer ≡ row.peer → a.destination ≡ row.destination
    → a.sequence.ordinal < row.sequence.ordinal → IsFree a
open_free rows k row a there opened rise inside peer destination less = λ x i. under x.number (not_more x i)
  where
    test : Row → Bool
    test r = leads_to row.peer row.destination r && has_unacknowledged r

    none : list_any test (take k rows) ≡ false
    none = not_true (list_any test (take k rows)) (subst (λ (o : Option Row).
        option_map_or (λ (y : Row). not (list_any (λ r. leads_to y.peer y.destination r && has_unacknowledged r) (take k rows))) o false ≡ true) there opened)

    leads : leads_to row.peer row.destination a ≡ true
    leads = join_and (a.peer == row.peer) (same_name a.destination row.destination)
        (subst (λ n. (n == row.peer) ≡ true) (sym peer) (same_number row.peer)) (subst (λ d. same_name d row.destination ≡ true) (sym destination) (same_name_refl row.destination))

    under : (n : ℕ) → nat_lt a.acked n ≡ false → n ≤ a.acked
    under n e = grind (arith, nat_tests)

    not_more : (x : Kept) → In x a.kept → nat_lt a.acked x.number ≡ false
    not_more x i = at (nat_lt a.acked x.number) refl
      where
        at : (b : Bool) → nat_lt a.acked x.number ≡ b → b ≡ false
        at false e = refl
        at true e = absurd (true_not_false (list_any test (take k rows)) (in_any test (take k rows) a (before_in rows k row a there rise inside less)
            (join_and (leads_to row.peer row.destination a) (has_unacknowledged a) leads (in_any (λ (y : Kept). nat_lt a.acked y.number) a.kept x i e))) none)

quiet_begun : (s : State) (r : Record) → (IsCommit r → ⊥) → IsMade s r → OrdinalsRise s.outs → AreBegun s.outs → AreBegun (apply s r).outs
quiet_begun s r other made rise h a b i j peer destination less some = by from_b.offered
  where
    all : AllByRecursion (Came s r) (apply s r).outs
    all = applied_each (Came s r) s r (came_allows s r other) (all_of (Came s r) s.outs (λ row inside. record {
      old = row;
      there = inside;
      peer = refl;
      destination = refl;
      sequence = refl;
      kept = λ k x. x;
      acked = omega arith;
      offered = inl refl;
    }))

    from_a : Came s r a
    from_a = all_in (Came s r) (apply s r).outs a all i

    from_b : Came s r b
    from_b = all_in (Came s r) (apply s r).outs b all j

    same_peer : from_a.old.peer ≡ from_b.old.peer
    same_peer = sym from_a.peer ∙ peer ∙ from_b.peer

    same_destination : from_a.old.destination ≡ from_b.old.destination
    same_destination = sym from_a.destination ∙ destination ∙ from_b.destination

    earlier_old : from_a.old.sequence.ordinal < from_b.old.sequence.ordinal
    earlier_old = let e = ap (λ (q : SequenceId). q.ordinal) from_a.sequence in let f = ap (λ (q : SequenceId). q.ordinal) from_b.sequence in omega (arith, less, e, f)

    freed : IsFree from_a.old → IsFree a
    freed free k x = let low = free k (from_a.kept k x) in let more = from_a.acked in omega (arith, low, more)

    by : (b.offered ≡ from_b.old.offered) ⊎ ((mark : Mark) × Raises r mark × (mark.ordinal ≡ from_b.old.sequence.ordinal)) → IsFree a
    by (inl e) = freed (h from_a.old from_b.old from_a.there from_b.there same_peer same_destination earlier_old (omega (arith, some, e)))
    by (inr g) = let m = made_marks s r made g.0 g.1 in
        let one = one_row s.outs m.row from_b.old rise (get_in s.outs m.index m.row m.there) from_b.there (sym m.ordinal ∙ g.2) in
        freed (open_free s.outs m.index from_b.old from_a.old (m.there ∙ ap (λ x. Some x) one) m.open_ rise from_a.there same_peer same_destination earlier_old)

-- Transactions.

-- rows of which one changed
changed_from : (change : Row → Row) (test : Row → Bool) (rows : List Row) (x : Row) → In x (first_changed change test rows)
    → (y : Row) × In y rows × ((x ≡ y) ⊎ ((x ≡ change y) × (test y ≡ true)))
changed_from change test [] x i = absurd i
changed_from change test (y ∷ rows) x i = at (λ j. changed_from change test rows x j) (test y) refl i
  where
    Goal : List Row → Type 0
    Goal zs = (z : Row) × In z zs × ((x ≡ z) ⊎ ((x ≡ change z) × (test z ≡ true)))

    later : Goal rows → Goal (y ∷ rows)
    later g = (g.0, inr g.1, g.2)

    at : (In x (first_changed change test rows) → Goal rows) → (b : Bool) → test y ≡ b → In x (cond b (change y ∷ rows) (y ∷ first_changed change test rows)) → Goal (y ∷ rows)
    at rest true e (inl f) = (y, inl refl, inr (sym f, e))
    at rest true e (inr j) = (x, inr j, inl refl)
    at rest false e (inl f) = (y, inl refl, inl (sym f))
    at rest false e (inr j) = later (rest j)

-- the last row that passes is behind all that pass
last_greatest : (test : Row → Bool) (o : Option Row) (rows : List Row) (row b : Row) → last_or o (filter test rows) ≡ Some row → OrdinalsRise rows → In b rows → test b ≡ true
    → b.sequence.ordinal ≤ row.sequence.ordinal
last_greatest test o [] row b e rise i passes = absurd i
last_greatest test o (x ∷ rows) row b e rise i passes = at (λ p g j. last_greatest test p rows row b g rise.1 j passes) (test x) refl e i
  where
    first : (Some x ≡ Some row) ⊎ In row rows → x.sequence.ordinal ≤ row.sequence.ordinal
    first (inl f) = let same = ap (λ (y : Row). y.sequence.ordinal) (some_is x row f) in omega (arith, same)
    first (inr j) = let less = all_in (λ y. x.sequence.ordinal < y.sequence.ordinal) rows row rise.0 j in omega (arith, less)

    at : ((p : Option Row) → last_or p (filter test rows) ≡ Some row → In b rows → b.sequence.ordinal ≤ row.sequence.ordinal)
        → (t : Bool) → test x ≡ t → last_or o (cond t (x ∷ filter test rows) (filter test rows)) ≡ Some row → In b (x ∷ rows) → b.sequence.ordinal ≤ row.sequence.ordinal
    at rest true f g (inl same) = subst (λ (y : Row). y.sequence.ordinal ≤ row.sequence.ordinal) same (first (last_in test (Some x) rows row g))
    at rest true f g (inr j) = rest (Some x) g j
    at rest false f g (inl same) = absurd (true_not_false (test b) passes (subst (λ (y : Row). test y ≡ false) same f))
    at rest false f g (inr j) = rest o g j

last_passes : (test : Row → Bool) (o : Option Row) (rows : List Row) (row : Row) → ((x : Row) → o ≡ Some x → test x ≡ true) → last_or o (filter test rows) ≡ Some row → test row ≡ true
last_passes test o [] row h e = h row e
last_passes test o (x ∷ rows) row h e = at (λ p k g. last_passes test p rows row k g) (test x) refl e
  where
    at : ((p : Option Row) → ((y : Row) → p ≡ Some y → test y ≡ true) → last_or p (filter test rows) ≡ Some row → test row ≡ true)
        → (t : Bool) → test x ≡ t → last_or o (cond t (x ∷ filter test rows) (filter test rows)) ≡ Some row → test row ≡ true
    at rest true f g = rest (Some x) (λ y same. subst (λ (z : Row). test z ≡ true) (some_is x y same) f) g
    at rest false f g = rest o h g

last_of_use : (s : State) (peer : ℕ) (destination : QueueName) (row : Row) → sequence_in_use s peer destination ≡ Some row → last_sequence s peer destination ≡ Some row
last_of_use s peer destination row e = at (last_sequence s peer destination) e
  where
    at : (o : Option Row) → option_and_then (λ row. cond (nat_lt row.committed s.roll) (Some row) None) o ≡ Some row → o ≡ Some row
    at None f = absurd (none_some f)
    at (Some x) f = by (nat_lt x.committed s.roll) f
      where
        by : (b : Bool) → cond b (Some x) None ≡ Some row → Some x ≡ Some row
        by true g = g
        by false g = absurd (none_some g)

-- rows in order, and their ordinals
record Rolls (s : State) : Type 0 where
  pub rise : OrdinalsRise s.outs
  pub below : AllByRecursion (λ row. row.sequence.ordinal < s.next_ordinal) s.outs
  pub begun : AreBegun s.outs

same_rolls : (s t : State) → HasSameRows s t → Rolls s → Rolls t
same_rolls s t same h = record {
  rise = subst OrdinalsRise (sym same.outs) h.rise;
  below = subst (λ n. AllByRecursion (λ row. row.sequence.ordinal < n) t.outs) (sym same.next_ordinal)
      (subst (AllByRecursion (λ row. row.sequence.ordinal < s.next_ordinal)) (sym same.outs) h.below);
  begun = subst AreBegun (sym same.outs) h.begun;
}

-- a message joins the last row to its destination
use_begun : (s : State) (peer : ℕ) (m : Message) (row : Row) → sequence_in_use s peer m.destination ≡ Some row → Rolls s
    → AreBegun (first_changed (with_kept m) (has_ordinal row.sequence.ordinal) s.outs)
use_begun s peer m row used h a b i j peers destination less some = by from_a.2 from_b.2
  where
    from_a : (y : Row) × In y s.outs × ((a ≡ y) ⊎ ((a ≡ with_kept m y) × (has_ordinal row.sequence.ordinal y ≡ true)))
    from_a = changed_from (with_kept m) (has_ordinal row.sequence.ordinal) s.outs a i

    from_b : (y : Row) × In y s.outs × ((b ≡ y) ⊎ ((b ≡ with_kept m y) × (has_ordinal row.sequence.ordinal y ≡ true)))
    from_b = changed_from (with_kept m) (has_ordinal row.sequence.ordinal) s.outs b j

    last : last_sequence s peer m.destination ≡ Some row
    last = last_of_use s peer m.destination row used

    passes : leads_to peer m.destination row ≡ true
    passes = last_passes (leads_to peer m.destination) None s.outs row (λ x e. absurd (none_some e)) last

    leads : (row.peer ≡ peer) × (row.destination ≡ m.destination)
    leads = let both = split_and (row.peer == peer) (same_name row.destination m.destination) passes in (equal_numbers row.peer peer both.0, same_name_is row.destination m.destination both.1)

    -- the later one is as before, but for what it keeps
    before : (x : Row) → (x ≡ from_b.0) ⊎ ((x ≡ with_kept m from_b.0) × (has_ordinal row.sequence.ordinal from_b.0 ≡ true))
        → (x.peer ≡ from_b.0.peer) × (x.destination ≡ from_b.0.destination) × (x.sequence.ordinal ≡ from_b.0.sequence.ordinal) × (x.offered ≡ from_b.0.offered)
    before x (inl e) = (ap (λ (y : Row). y.peer) e, ap (λ (y : Row). y.destination) e, ap (λ (y : Row). y.sequence.ordinal) e, ap (λ (y : Row). y.offered) e)
    before x (inr e) = (ap (λ (y : Row). y.peer) e.0, ap (λ (y : Row). y.destination) e.0, ap (λ (y : Row). y.sequence.ordinal) e.0, ap (λ (y : Row). y.offered) e.0)

    -- the one that takes the message is the last
    taken : a ≡ with_kept m from_a.0 → has_ordinal row.sequence.ordinal from_a.0 ≡ true → ⊥
    taken e ordinal = let g = before b from_b.2 in
        let one = one_row s.outs from_a.0 row h.rise from_a.1 (in_use_in s peer m.destination row used) (equal_numbers from_a.0.sequence.ordinal row.sequence.ordinal ordinal) in
        let to_peer = sym g.0 ∙ sym peers ∙ ap (λ (y : Row). y.peer) e ∙ ap (λ (y : Row). y.peer) one ∙ leads.0 in
        let to_destination = sym g.1 ∙ sym destination ∙ ap (λ (y : Row). y.destination) e ∙ ap (λ (y : Row). y.destination) one ∙ leads.1 in
        let low = last_greatest (leads_to peer m.destination) None s.outs row from_b.0 last h.rise from_b.1 (join_and (from_b.0.peer == peer) (same_name from_b.0.destination m.destination)
        (subst (λ n. (n == peer) ≡ true) (sym to_peer) (same_number peer)) (subst (λ d. same_name d m.destination ≡ true) (sym to_destination) (same_name_refl m.destination))) in
        let own = ap (λ (y : Row). y.sequence.ordinal) e in let same = ap (λ (y : Row). y.sequence.ordinal) one in let other = g.2 in omega (arith, low, own, same, other, less)

    by : (a ≡ from_a.0) ⊎ ((a ≡ with_kept m from_a.0) × (has_ordinal row.sequence.ordinal from_a.0 ≡ true))
        → (b ≡ from_b.0) ⊎ ((b ≡ with_kept m from_b.0) × (has_ordinal row.sequence.ordinal from_b.0 ≡ true)) → IsFree a
    by (inr e) g = absurd (taken e.0 e.1)
    by (inl e) g = let x = before b g in subst IsFree (sym e) (h.begun from_a.0 from_b.0 from_a.1 from_b.1 (sym (ap (λ (y : Row). y.peer) e) ∙ peers ∙ x.0)
        (sym (ap (λ (y : Row). y.destination) e) ∙ destination ∙ x.1)
        (let own = ap (λ (y : Row). y.sequence.ordinal) e in let other = x.2 in omega (arith, less, own, other)) (let same = x.3 in omega (arith, some, same)))

-- a row begins
new_begun : (s : State) (new : Row) → new.sequence.ordinal ≡ s.next_ordinal → new.offered ≡ 0 → Rolls s → AreBegun (s.outs ++ new ∷ [])
new_begun s new ordinal none h a b i j peers destination less some = by (in_split s.outs (new ∷ []) a i) (in_split s.outs (new ∷ []) b j)
  where
    by : In a s.outs ⊎ In a (new ∷ []) → In b s.outs ⊎ In b (new ∷ []) → IsFree a
    by (inl x) (inl y) = h.begun a b x y peers destination less some
    by x (inr (inl e)) = let same = ap (λ (y : Row). y.offered) e in absurd (omega (arith, some, same, none))
    by x (inr (inr nothing)) = absurd nothing
    by (inr (inl e)) (inl y) = let low = all_in (λ (z : Row). z.sequence.ordinal < s.next_ordinal) s.outs b h.below y in let same = ap (λ (z : Row). z.sequence.ordinal) e in
        absurd (omega (arith, low, same, ordinal, less))
    by (inr (inr nothing)) (inl y) = absurd nothing

join_rolls : (s : State) (peer now : ℕ) (m : Message) → Rolls s → Rolls (join s peer now m)
join_rolls s peer now m h = at (sequence_in_use s peer m.destination) refl
  where
    new : Row
    new = with_kept m (new_sequence s peer m.destination now)

    at : (o : Option Row) → sequence_in_use s peer m.destination ≡ o → Rolls (option_map_or (λ row. with_row (with_kept m) s row.sequence.ordinal) o (with_sequence s new))
    at None e = record {
      rise = rise_new s.outs new h.rise h.below;
      below = all_append (λ row. row.sequence.ordinal < s.next_ordinal + 1) s.outs (new ∷ [])
          (all_weaker (λ (row : Row). row.sequence.ordinal < s.next_ordinal) (λ row. row.sequence.ordinal < s.next_ordinal + 1) (λ row less. omega (arith, less)) s.outs h.below) (omega arith, tt);
      begun = new_begun s new refl refl h;
    }
    at (Some row) e = let test = has_ordinal row.sequence.ordinal in let same = sym (is_first_changed (with_kept m) test s.outs) in record {
      rise = subst OrdinalsRise same (rise_kept m test s.outs h.rise);
      below = subst (AllByRecursion (λ (x : Row). x.sequence.ordinal < s.next_ordinal)) same (changed_all (λ x. x.sequence.ordinal < s.next_ordinal) (with_kept m) test s.outs (λ x less. less) h.below);
      begun = subst AreBegun same (use_begun s peer m row e h);
    }

to_rolls : (now : ℕ) (s : State) (t : Target) (m : Message) → Rolls s → Rolls (committed_to now s t m).state
to_rolls now s (AtPeer k) m h = join_rolls s k now m h
to_rolls now s (Here queue) m h = same_rolls s (committed_to now s (Here queue) m).state (delivered_rows s (Here queue) m now) h
to_rolls now s Nowhere m h = same_rolls s (committed_to now s Nowhere m).state (delivered_rows s Nowhere m now) h

sends_roll : (now : ℕ) (e : Effect) (ms : List Message) → Rolls e.state → Rolls (fold (send_made now) e ms).state
sends_roll now e [] h = h
sends_roll now e (m ∷ ms) h = sends_roll now (send_made now e m) ms
    (to_rolls now (journalled e.state m) (resolved e.state m.destination) m (same_rolls e.state (journalled e.state m) (journalled_rows e.state m) h))

-- Records.

-- what holds of a manager's rows: they begin in order, and lead where their destinations lead
pub record AreRolling (s : State) (ws : List Written) : Type 0 where
  pub counted : AreCounted s ws
  pub begun : AreBegun s.outs
  pub led : AllByRecursion (λ row. resolved s row.destination ≡ AtPeer row.peer) s.outs

record_begun : (s : State) (r : Record) (ws : List Written) → IsMade s r → AreRolling s ws → AreBegun (apply s r).outs
record_begun s r ws made h = at r made
  where
    at : (x : Record) → IsMade s x → AreBegun (apply s x).outs
    at (entry.Peer peer) made = absurd made
    at (entry.Commit now ops) made = (sends_roll now (takes_made s now ops) (sends_of ops)
        (same_rolls s (takes_made s now ops).state (takes_made_rows s now ops) (record { rise = h.counted.rise; below = h.counted.below; begun = h.begun }))).begun
    at r made = quiet_begun s r (λ x. x) made h.counted.rise h.begun

record_led : (s : State) (r : Record) → IsMade s r → AllByRecursion (λ row. resolved s row.destination ≡ AtPeer row.peer) s.outs
    → AllByRecursion (λ row. resolved (apply s r) row.destination ≡ AtPeer row.peer) (apply s r).outs
record_led s r made h = all_weaker (λ (row : Row). resolved s row.destination ≡ AtPeer row.peer) (λ row. resolved (apply s r) row.destination ≡ AtPeer row.peer)
    (λ row leads. resolved_peer s (apply s r) (applied_manager s r (made_of_no_peer s r made)) row.destination row.peer leads) (apply s r).outs
    (applied_each (λ (row : Row). resolved s row.destination ≡ AtPeer row.peer) s r (record {
      begins = λ commit t peer destination now low manager leads. resolved_peer t s (record { identity = sym manager.identity; peers = sym manager.peers }) destination peer leads;
      joins = λ commit m row g. g;
      offers = λ mark row raises same g. g;
      acknowledges = λ ordinal number row acks same g. g;
      finishes = λ m k row ends peer named g. g;
      expires = λ now row g. g;
    }) h)

pub rolling_by_records : IsByRecords AreRolling
rolling_by_records = record {
  starts = λ own peers. record {
    counted = counted_by_records.starts own peers;
    begun = subst AreBegun (sym (joined_outs (empty own) peers)) (λ a b i j peer destination less some k x. absurd i);
    led = subst (AllByRecursion _) (sym (joined_outs (empty own) peers)) tt;
  };
  quiet = λ a b ws same h. record {
    counted = counted_by_records.quiet a b ws same h.counted;
    begun = subst AreBegun (sym same.outs) h.begun;
    led = all_weaker (λ (row : Row). resolved a row.destination ≡ AtPeer row.peer) (λ row. resolved b row.destination ≡ AtPeer row.peer)
        (λ row leads. resolved_peer a b same.manager row.destination row.peer leads) b.outs
        (subst (AllByRecursion (λ (row : Row). resolved a row.destination ≡ AtPeer row.peer)) (sym same.outs) h.led);
  };
  grows = λ i s r ws made h. record {
    counted = counted_by_records.grows i s r ws made h.counted;
    begun = record_begun s r ws made h;
    led = record_led s r made h.led;
  };
}

-- The law.

peer_is : (j k : ℕ) → AtPeer j ≡ AtPeer k → j ≡ k
peer_is j k e = cc

pub rows_are_led : RowsAreLed
rows_are_led known ms apart run kept i row inside = let s = (manager_at (settled kept (after_run known ms)).network i).state in
    all_in (λ (y : Row). resolved s y.destination ≡ AtPeer y.peer) s.outs row (always_by_records AreRolling rolling_by_records known ms apart run kept i).led inside

pub always_begun_in_order : AlwaysBegunInOrder
always_begun_in_order known ms apart run kept = of_course (settled kept (after_run known ms)) (always_by_records AreRolling rolling_by_records known ms apart run kept) (always_waiting known ms apart run kept)
  where
    of_course : (c : Course) → ((i : ℕ) → AreRolling (manager_at c.network i).state (written_of i c.written)) → AreWaiting c → AreBegunInOrder c
    of_course c h waiting i a b inside behind destination less some m committed same = by (waiting i m committed)
      where
        s : State
        s = (manager_at c.network i).state

        leads : (row : Row) → In row s.outs → resolved s row.destination ≡ AtPeer row.peer
        leads row x = all_in (λ (y : Row). resolved s y.destination ≡ AtPeer y.peer) s.outs row (h i).led x

        peer : a.peer ≡ b.peer
        peer = peer_is a.peer b.peer (sym (leads a inside) ∙ ap (resolved s) destination ∙ leads b behind)

        free : IsFree a
        free = (h i).begun a b inside behind peer destination less some

        own : (g : IsInRow s m) → g.row ≡ a
        own g = one_row s.outs g.row a (h i).counted.rise g.there inside (ap (λ (q : SequenceId). q.ordinal) (g.sequence ∙ same))

        acked : (g : IsInRow s m) → (m.position.number ≤ g.row.acked) ⊎ In (record { number = m.position.number; message = m.message }) g.row.kept → m.position.number ≤ a.acked
        acked g (inl low) = subst (λ (x : Row). m.position.number ≤ x.acked) (own g) low
        acked g (inr x) = free (record { number = m.position.number; message = m.message }) (subst (λ (y : Row). In (record { number = m.position.number; message = m.message }) y.kept) (own g) x)

        by : IsInRow s m ⊎ In m.position (expiries_told (lines_written (written_of i c.written)))
            → (m.position.number ≤ a.acked) ⊎ In m.position (expiries_told (lines_written (written_of i c.written)))
        by (inl g) = inl (acked g g.waits)
        by (inr e) = inr e
