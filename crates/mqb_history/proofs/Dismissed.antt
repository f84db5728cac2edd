-- What a stored final acknowledgement names no row to its sender keeps any more.
use Rattle.std.proofs.Common.{refl, ap, sym, subst, ◌∙◌, arith, inl, inr}
use Rattle.std.proofs.lemmas.Bool.Decides.{nat_tests}
use Rattle.std.specs.List.{AllByRecursion, cons_option, list_any, range_with_len}
use Rattle.std.specs.Option.{option_map_or}
use Rattle.std.specs.Prelude.{[], ◌+◌, ◌<◌, ◌==◌, ◌||◌, ◌∷◌, ◌≡◌, ◌≤◌, ◌⊎◌, Bool, List, None, Option, Some, cond, length, max, nat_le, nat_lt, option_and_then, position, remove, slice_get, slice_set, suc, true, zero, ℕ}
use Rattle.mqb_base.specs.Bits.{keeps_dead}
use Rattle.mqb_base.specs.Same.{same_id}
use Rattle.mqb_base.specs.Sequences.{same_sequence}
use Rattle.mqb_base.specs.declared.ids.SequenceId.{SequenceId}
use Rattle.mqb_base.specs.declared.message.Message.{Message}
use Rattle.mqb_entries.specs.declared.members.Mark.{Mark}
use Rattle.mqb_exactly_once.specs.Words.{In}
use Rattle.mqb_exactly_once.specs.World.{Commitment, Position}
use Rattle.mqb_model.specs.Lists.{without_first}
use Rattle.mqb_model.specs.records.Finals.{dead_for, final_stored, finished_at, finished_by, finished_row, has_named, is_offered_as, kept_named, names_kept, with_finished}
use Rattle.mqb_model.specs.records.Record.{Record}
use Rattle.mqb_model.specs.rules.Timeouts.{expires}
use Rattle.mqb_model.specs.state.Resolving.{peer_known}
use Rattle.mqb_model.specs.state.State.{State}
use Rattle.mqb_network.specs.Courses.{Written}
use Rattle.mqb_network.specs.Laws.{lines_written}
use Rattle.mqb_orders.specs.Rows.{Row}
use Rattle.mqb_orders.specs.declared.kept.Kept.{Kept}
use Rattle.mqb_history.specs.Committed.{commitments, number_in, numbers_in}
use Rattle.mqb_history.proofs.Acquainting.{same_id_refl}
use Rattle.mqb_history.proofs.Applying.{dead_rows}
use Rattle.mqb_history.proofs.Awaited.{none_found}
use Rattle.mqb_history.proofs.Believing.{position_there, same_committed, same_id_is}
use Rattle.mqb_history.proofs.Between.{all_in, any_in, in_any, in_either}
use Rattle.mqb_history.proofs.Committing.{IsCounted, OrdinalsRise, itself, kept_at}
use Rattle.mqb_history.proofs.Due.{one_row}
use Rattle.mqb_history.proofs.Kept.{counted_low}
use Rattle.mqb_history.proofs.Lists.{all_weaker, get_in, join_and, none_some, same_number, some_is, split_and}
use Rattle.mqb_history.proofs.Marked.{AreMarked}
use Rattle.mqb_history.proofs.Numbering.{AreCounted}
use Rattle.mqb_history.proofs.Offering.{WasOffered}
use Rattle.mqb_history.proofs.Outside.{KeptRise, filtered_in}
use Rattle.mqb_history.proofs.Previous.{in_numbers}
use Rattle.mqb_history.proofs.Rows.{HasRow}
use Rattle.mqb_history.proofs.Rowwise.{Allows}
use Rattle.mqb_history.proofs.Sparing.{IsTidy, all_of}
use Rattle.mqb_history.proofs.Unreleased.{without_all}

-- A position has one commitment.

abbrev NoTwice : List ℕ → Type 0
NoTwice [] = Unit {0}
NoTwice (n ∷ ns) = (In n ns → ⊥) × NoTwice ns

pub range_low : (a len n : ℕ) → In n (range_with_len a len) → a ≤ n
range_low a zero n i = absurd i
range_low a (suc len) n (inl e) = omega (arith, e)
range_low a (suc len) n (inr i) = let low = range_low (a + 1) len n i in omega (arith, low)

range_once : (a len : ℕ) → NoTwice (range_with_len a len)
range_once a zero = tt
range_once a (suc len) = (λ i. let low = range_low (a + 1) len a i in omega (arith, low), range_once (a + 1) len)

first_once : (q : SequenceId) (z y : Commitment) (cs : List Commitment) → z.position.sequence ≡ q → In y cs → y.position.sequence ≡ q → y.position.number ≡ z.position.number → NoTwice (numbers_in q (z ∷ cs)) → ⊥
first_once q z y cs e j f n once = (subst (λ o. NoTwice (cons_option o (numbers_in q cs))) is once).0
    (subst (λ m. In m (numbers_in q cs)) n (subst (λ s. In y.position.number (numbers_in s cs)) f (in_numbers cs y j)))
  where
    is : number_in q z ≡ Some z.position.number
    is = ap (λ b. cond b (Some z.position.number) None) (subst (λ s. same_sequence z.position.sequence s ≡ true) e (itself z.position.sequence))

tail_once : (o : Option ℕ) (ns : List ℕ) → NoTwice (cons_option o ns) → NoTwice ns
tail_once None ns h = h
tail_once (Some n) ns h = h.1

one_numbered : (q : SequenceId) (cs : List Commitment) (x y : Commitment) → NoTwice (numbers_in q cs) → In x cs → In y cs → x.position.sequence ≡ q → y.position.sequence ≡ q → x.position.number ≡ y.position.number → x ≡ y
one_numbered q [] x y once i j a b n = absurd i
one_numbered q (z ∷ cs) x y once (inl e) (inl f) a b n = sym e ∙ f
one_numbered q (z ∷ cs) x y once (inl e) (inr j) a b n = absurd (first_once q z y cs (ap (λ (c : Commitment). c.position.sequence) e ∙ a) j b (sym n ∙ ap (λ (c : Commitment). c.position.number) (sym e)) once)
one_numbered q (z ∷ cs) x y once (inr i) (inl f) a b n = absurd (first_once q z x cs (ap (λ (c : Commitment). c.position.sequence) f ∙ b) i a (n ∙ ap (λ (c : Commitment). c.position.number) (sym f)) once)
one_numbered q (z ∷ cs) x y once (inr i) (inr j) a b n = one_numbered q cs x y (tail_once (number_in q z) (numbers_in q cs) once) i j a b n

pub one_position : (cs : List Commitment) → ((q : SequenceId) → numbers_in q cs ≡ range_with_len 1 (length (numbers_in q cs))) → (x y : Commitment) → In x cs → In y cs → x.position ≡ y.position → x ≡ y
one_position cs numbered x y i j e = let q = x.position.sequence in one_numbered q cs x y (subst NoTwice (sym (numbered q)) (range_once 1 (length (numbers_in q cs)))) i j
    refl (ap (λ (p : Position). p.sequence) (sym e)) (ap (λ (p : Position). p.number) e)

-- Kept messages that leave.

pub without_in : (test : Kept → Bool) (ks : List Kept) (k : Kept) → In k (without_first test ks) → In k ks
without_in test ks k i = all_in (λ x. In x ks) (without_first test ks) k (without_all (λ x. In x ks) test ks (all_of (λ x. In x ks) ks (λ x j. j))) i

removed_number : (ks : List Kept) (b : ℕ) (k x : Kept) → KeptRise ks → slice_get ks b ≡ Some k → In x (remove ks b) → x.number ≡ k.number → ⊥
removed_number [] b k x rise e i n = none_some e
removed_number (z ∷ ks) zero k x rise e i n = let lt = all_in (λ (y : Kept). z.number < y.number) ks x rise.0 i in let same = ap (λ (y : Kept). y.number) (some_is z k e) in omega (arith, lt, same, n)
removed_number (z ∷ ks) (suc b) k x rise e (inl f) n = let lt = all_in (λ (y : Kept). z.number < y.number) ks k rise.0 (get_in ks b k e) in let same = ap (λ (y : Kept). y.number) f in omega (arith, lt, same, n)
removed_number (z ∷ ks) (suc b) k x rise e (inr i) n = removed_number ks b k x rise.1 e i n

module _ (index : ℕ) (q : SequenceId) (n : ℕ) where
  -- a row of the sequence to that peer does not keep the number, which was committed
  abbrev pub Gone : Row → Type 0
  Gone row = row.peer ≡ index → row.sequence.ordinal ≡ q.ordinal → (n ≤ row.committed) × ((k : Kept) → In k row.kept → k.number ≡ n → ⊥)

  pub gone_allows : (s : State) (r : Record) → q.ordinal < s.next_ordinal → Allows Gone s r
  gone_allows s r given = record {
    begins = λ commit t peer destination now le same leads p o. let e : t.next_ordinal ≡ q.ordinal = o in absurd (omega (arith, given, le, e));
    joins = λ commit m row g p o. let h = g p o in let low = h.0 in (omega (arith, low), λ k i e. joined m row low h.1 k e (in_either row.kept (record { number = row.committed + 1; message = m } ∷ []) k i));
    offers = λ mark row r o g. g;
    acknowledges = λ ordinal number row a o g p e. let h = g p e in (h.0, λ k i. h.1 k (filtered_in (λ (x : Kept). nat_lt (max row.acked number) x.number || keeps_dead x.message) row.kept k i));
    finishes = λ m k row f e named g p o. let h = g p o in (
      h.0,
      λ x i. h.1 x (without_in (is_offered_as m.correlation row) row.kept x
          (filtered_in (λ (y : Kept). nat_lt (max row.acked k.number) y.number || keeps_dead y.message) (without_first (is_offered_as m.correlation row) row.kept) x i)),
    );
    expires = λ now row g p o. let h = g p o in (h.0, λ x i. h.1 x (without_in (expires now row) row.kept x i));
  }
    where
      joined : (m : Message) (row : Row) → n ≤ row.committed → ((k : Kept) → In k row.kept → k.number ≡ n → ⊥) → (k : Kept) → k.number ≡ n → In k row.kept ⊎ In k (record { number = row.committed + 1; message = m } ∷ []) → ⊥
      joined m row low none k e (inl i) = none k i e
      joined m row low none k e (inr (inl f)) = let new = ap (λ (x : Kept). x.number) f in omega (arith, low, new, e)
      joined m row low none k e (inr (inr i)) = i

  -- the row of the sequence is another one
  set_gone : (rows : List Row) (a : ℕ) (row new : Row) → OrdinalsRise rows → slice_get rows a ≡ Some row → row.sequence.ordinal ≡ q.ordinal → Gone new → AllByRecursion Gone (slice_set rows a new)
  set_gone [] a row new rise e same g = tt
  set_gone (x ∷ rows) zero row new rise e same g = (
    g,
    all_weaker (λ (b : Row). x.sequence.ordinal < b.sequence.ordinal) Gone
        (λ b lt p o. let is = ap (λ (y : Row). y.sequence.ordinal) (some_is x row e) in absurd (omega (arith, lt, is, same, o))) rows rise.0,
  )
  set_gone (x ∷ rows) (suc a) row new rise e same g = (
    λ p o. let lt = all_in (λ (b : Row). x.sequence.ordinal < b.sequence.ordinal) rows row rise.0 (get_in rows a row e) in absurd (omega (arith, lt, same, o)),
    set_gone rows a row new rise.1 e same g,
  )

-- The row of a commitment counts its number, and keeps nothing else under it.
module _ (s : State) (ws : List Written) (x : Commitment) (marked : AreMarked s ws) (inside : In x (commitments ws)) (row : Row) (i : In row s.outs) where
  abbrev counts : AreCounted s ws
  counts = marked.0.0.0.0.0

  place : HasRow s.outs x
  place = all_in (HasRow s.outs) (commitments ws) x marked.0.0.0.1 inside

  sequence_is : row.sequence.ordinal ≡ x.position.sequence.ordinal → row.sequence ≡ x.position.sequence
  sequence_is same = ap (λ (y : Row). y.sequence) (one_row s.outs row place.0 counts.rise i place.1 (same ∙ ap (λ (z : SequenceId). z.ordinal) (sym place.2))) ∙ place.2

  pub row_low : row.sequence.ordinal ≡ x.position.sequence.ordinal → x.position.number ≤ row.committed
  row_low same = counted_low (commitments ws) row counts.numbered (all_in (IsCounted (commitments ws)) s.outs row counts.rows i) x.position.number
      (subst (λ z. In x.position.number (numbers_in z (commitments ws))) (sym (sequence_is same)) (in_numbers (commitments ws) x inside))

  pub row_number : (k : Kept) → In k row.kept → row.sequence.ordinal ≡ x.position.sequence.ordinal → k.number ≡ x.position.number → kept_at row k ≡ x
  row_number k j same number = one_position (commitments ws) counts.numbered (kept_at row k) x ((all_in (IsCounted (commitments ws)) s.outs row counts.rows i).kept k j) inside
      (ap (λ z. record { sequence = z; number = k.number }) (sequence_is same) ∙ ap (λ z. record { sequence = x.position.sequence; number = z }) number)

-- A message of a manager that knows the peer, the commitment that it names, and a mark above it.
module _ (index : ℕ) (s : State) (ws : List Written) (m : Message) (x : Commitment) (mark : Mark) (marked : AreMarked s ws) (inside : In x (commitments ws)) (names : x.message.id ≡ m.correlation)
    (offered : AllByRecursion (WasOffered mark) s.outs) (ordinal : mark.ordinal ≡ x.position.sequence.ordinal) (enough : x.position.number ≤ mark.number) (known : peer_known s m.id.qm ≡ Some index) where
  abbrev q : SequenceId
  q = x.position.sequence

  abbrev n : ℕ
  n = x.position.number

  abbrev counted : AreCounted s ws
  counted = marked.0.0.0.0.0

  abbrev cs : List Commitment
  cs = commitments ws

  kept_in : (row : Row) (k : Kept) → In row s.outs → In k row.kept → In (kept_at row k) cs
  kept_in row k i j = (all_in (IsCounted cs) s.outs row counted.rows i).kept k j

  -- what a row keeps under its identifier
  of_id : (row : Row) (k : Kept) → In row s.outs → In k row.kept → k.message.id ≡ m.correlation → kept_at row k ≡ x
  of_id row k i j same = same_committed cs (kept_at row k) x counted.differ (kept_in row k i j) inside (same ∙ sym names)

  named : (k : Kept) → k.message.id ≡ m.correlation → names_kept m.correlation k ≡ true
  named k e = subst (λ i. same_id i m.correlation ≡ true) (sym e) (same_id_refl m.correlation)

  abbrev AllGone : State → Type 0
  AllGone t = AllByRecursion (Gone index q n) t.outs

  le_true : (a b : ℕ) → a ≤ b → nat_le a b ≡ true
  le_true a b h = grind (arith, nat_tests)

  module _ (a : ℕ) (row : Row) (there : slice_get s.outs a ≡ Some row) (has : has_named index m.correlation row ≡ true) where
    k : (k : Kept) × In k row.kept × (names_kept m.correlation k ≡ true)
    k = any_in (names_kept m.correlation) row.kept (split_and (row.peer == index) (list_any (names_kept m.correlation) row.kept) has).1

    is : kept_at row k.0 ≡ x
    is = of_id row k.0 (get_in s.outs a row there) k.1 (same_id_is k.0.message.id m.correlation k.2)

    row_ordinal : row.sequence.ordinal ≡ q.ordinal
    row_ordinal = ap (λ (y : Commitment). y.position.sequence.ordinal) is

    passes : is_offered_as m.correlation row k.0 ≡ true
    passes = join_and (names_kept m.correlation k.0) (nat_le k.0.number row.offered) k.2
        (let up = all_in (WasOffered mark) s.outs row offered (get_in s.outs a row there) (row_ordinal ∙ sym ordinal) in let number = ap (λ (y : Commitment). y.position.number) is in
        le_true k.0.number row.offered (omega (arith, up, number, enough)))

    tidy : IsTidy (lines_written ws) row
    tidy = all_in (IsTidy (lines_written ws)) s.outs row marked.0.1 (get_in s.outs a row there)

    -- the message of the row that leaves
    leaves : (b : ℕ) → position (is_offered_as m.correlation row) row.kept ≡ Some b → (y : Kept) → slice_get row.kept b ≡ Some y → is_offered_as m.correlation row y ≡ true
        → AllGone (dead_for m.class (with_finished m.correlation s a y) y.message)
    leaves b e y at_b test = subst (AllByRecursion (Gone index q n)) (sym (dead_rows m.class (with_finished m.correlation s a y) y.message).outs)
        (subst (λ o. AllByRecursion (Gone index q n) (option_map_or (λ z. slice_set s.outs a (finished_row m.correlation y.number z)) o s.outs)) (sym there)
        (set_gone index q n s.outs a row (finished_row m.correlation y.number row) counted.rise there row_ordinal (λ p o. (low, none))))
      where
        number : y.number ≡ n
        number = ap (λ (z : Commitment). z.position.number) (of_id row y (get_in s.outs a row there) (get_in row.kept b y at_b)
            (same_id_is y.message.id m.correlation (split_and (names_kept m.correlation y) (nat_le y.number row.offered) test).0))

        low : n ≤ row.committed
        low = let le = all_in (λ (z : Kept). z.number ≤ row.committed) row.kept y tidy.within (get_in row.kept b y at_b) in omega (arith, le, number)

        none : (z : Kept) → In z (finished_row m.correlation y.number row).kept → z.number ≡ n → ⊥
        none z i g = removed_number row.kept b y z tidy.rises at_b
            (subst (λ o. In z (option_map_or (remove row.kept) o row.kept)) e
            (filtered_in (λ (v : Kept). nat_lt (max row.acked y.number) v.number || keeps_dead v.message) (without_first (is_offered_as m.correlation row) row.kept) z i)) (g ∙ sym number)

    at_row : AllGone (finished_at s m a)
    at_row = subst (λ o. AllGone (option_map_or (λ y. dead_for m.class (with_finished m.correlation s a y) y.message) (option_and_then (kept_named m.correlation) o) s)) (sym there)
        (by (position (is_offered_as m.correlation row) row.kept) refl)
      where
        by : (o : Option ℕ) → position (is_offered_as m.correlation row) row.kept ≡ o
            → AllGone (option_map_or (λ y. dead_for m.class (with_finished m.correlation s a y) y.message) (option_and_then (slice_get row.kept) o) s)
        by None e = absurd (none_found (is_offered_as m.correlation row) row.kept (in_any (is_offered_as m.correlation row) row.kept k.0 k.1 passes) e)
        by (Some b) e = let g = position_there (is_offered_as m.correlation row) row.kept b e in
            subst (λ o. AllGone (option_map_or (λ y. dead_for m.class (with_finished m.correlation s a y) y.message) o s)) (sym g.1) (leaves b e g.0 g.1 g.2)

  pub final_gone : AllByRecursion (Gone index q n) (final_stored s m).state.outs
  final_gone = subst (λ o. AllGone (option_map_or (λ peer. finished_by s peer m) o s)) (sym known) (by (position (has_named index m.correlation) s.outs) refl)
    where
      gone : position (has_named index m.correlation) s.outs ≡ None → (row : Row) → In row s.outs → Gone index q n row
      gone e row i p o = (
        row_low s ws x marked inside row i o,
        λ k j number. none_found (has_named index m.correlation) s.outs (in_any (has_named index m.correlation) s.outs row i
            (join_and (row.peer == index) (list_any (names_kept m.correlation) row.kept) (subst (λ z. (row.peer == z) ≡ true) p (same_number row.peer))
            (in_any (names_kept m.correlation) row.kept k j (named k (ap (λ (y : Commitment). y.message.id) (row_number s ws x marked inside row i k j o number) ∙ names))))) e,
      )

      each : (rows : List Row) → ((row : Row) → In row rows → Gone index q n row) → AllByRecursion (Gone index q n) rows
      each [] h = tt
      each (row ∷ rows) h = (h row (inl refl), each rows (λ y i. h y (inr i)))

      by : (o : Option ℕ) → position (has_named index m.correlation) s.outs ≡ o → AllGone (option_map_or (finished_at s m) o s)
      by None e = each s.outs (gone e)
      by (Some a) e = let g = position_there (has_named index m.correlation) s.outs a e in at_row a g.0 g.1 g.2
