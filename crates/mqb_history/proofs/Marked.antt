-- Whatever a row keeps at or below its mark was offered, and so is each message of a stream that a pump sends.
use Rattle.std.proofs.Common.{refl, ap, sym, subst, ◌∙◌, arith, inl, inr}
use Rattle.std.proofs.lemmas.Bool.Decides.{nat_tests}
use Rattle.std.proofs.lemmas.List.{append_assoc}
use Rattle.std.specs.List.{AllByRecursion, cons_option, enumerate_from}
use Rattle.std.specs.Prelude.{[], ◌+◌, ◌++◌, ◌<◌, ◌==◌, ◌||◌, ◌∷◌, ◌≡◌, ◌≤◌, ◌⊎◌, Bool, List, None, Option, Some, cond, false, filter_map, fold, max, nat_lt, slice_get, suc, true, zero, ℕ}
use Rattle.mqb_base.specs.Bits.{keeps_dead}
use Rattle.mqb_base.specs.declared.message.Message.{Message}
use Rattle.mqb_entries.specs.declared.members.Mark.{Mark}
use Rattle.mqb_exactly_once.specs.Words.{In}
use Rattle.mqb_exactly_once.specs.World.{Position}
use Rattle.mqb_model.specs.Lists.{without_first}
use Rattle.mqb_model.specs.calls.pump.Candidates.{Candidate}
use Rattle.mqb_model.specs.calls.pump.Pump.{greatest_sent, mark_for, number_of_row}
use Rattle.mqb_model.specs.managers.Beside.{OfRow, Origin}
use Rattle.mqb_model.specs.records.Applying.{apply}
use Rattle.mqb_model.specs.records.Finals.{is_offered_as}
use Rattle.mqb_model.specs.records.Record.{Record}
use Rattle.mqb_model.specs.records.Record as entry
use Rattle.mqb_model.specs.rules.Timeouts.{expires}
use Rattle.mqb_model.specs.state.State.{State, empty}
use Rattle.mqb_network.specs.Courses.{Written}
use Rattle.mqb_network.specs.Laws.{lines_written}
use Rattle.mqb_orders.specs.Rows.{Row, is_open}
use Rattle.mqb_orders.specs.declared.kept.Kept.{Kept}
use Rattle.mqb_history.specs.Made.{IsMade, IsOfRows}
use Rattle.mqb_history.specs.Offered.{IsOffered}
use Rattle.mqb_history.proofs.Committing.{all_in, in_split}
use Rattle.mqb_history.proofs.Due.{one_row}
use Rattle.mqb_history.proofs.Lists.{all_weaker, equal_numbers, get_in, none_some, same_number, some_is}
use Rattle.mqb_history.proofs.Numbering.{joined_outs}
use Rattle.mqb_history.proofs.Opening.{AreOfRows}
use Rattle.mqb_history.proofs.Outside.{filtered_in, without_in}
use Rattle.mqb_history.proofs.Rowwise.{Allows, Raises, applied_each}
use Rattle.mqb_history.proofs.Sparing.{AreTidy, IsTidy, all_of, expiries_given, tidy_allows, tidy_by_records}
use Rattle.mqb_history.proofs.Written.{IsByRecords}

-- The marks of a pump.

pub fold_from : (a : ℕ) (ns : List ℕ) → a ≤ fold max a ns
fold_from a [] = omega arith
fold_from a (n ∷ ns) = let low = fold_from (max a n) ns in omega (arith, low)

fold_above : (a n : ℕ) (ns : List ℕ) → In n ns → n ≤ fold max a ns
fold_above a n [] i = absurd i
fold_above a n (m ∷ ns) (inl e) = let low = fold_from (max a m) ns in omega (arith, low, e)
fold_above a n (m ∷ ns) (inr i) = fold_above (max a m) n ns i

pub fold_member : (a : ℕ) (ns : List ℕ) → (fold max a ns ≡ a) ⊎ In (fold max a ns) ns
fold_member a [] = inl refl
fold_member a (n ∷ ns) = at (fold_member (max a n) ns) (nat_lt a n) refl
  where
    more : nat_lt a n ≡ true → max a n ≡ n
    more e = grind (arith, nat_tests)

    less : nat_lt a n ≡ false → max a n ≡ a
    less e = grind (arith, nat_tests)

    at : (fold max (max a n) ns ≡ max a n) ⊎ In (fold max (max a n) ns) ns → (b : Bool) → nat_lt a n ≡ b → (fold max (max a n) ns ≡ a) ⊎ In (fold max (max a n) ns) (n ∷ ns)
    at (inr i) b e = inr (inr i)
    at (inl f) true e = inr (inl (sym (f ∙ more e)))
    at (inl f) false e = inl (f ∙ less e)

-- a candidate of a row goes under no more than the greatest number of its row
pub sent_below : (cs : List Candidate) (c : Candidate) (index number : ℕ) → In c cs → c.origin ≡ OfRow index number → number ≤ greatest_sent cs index
sent_below cs c index number i e = fold_above 0 number (filter_map (λ (x : Candidate). number_of_row index x.origin) cs) (among cs i)
  where
    own : number_of_row index c.origin ≡ Some number
    own = ap (number_of_row index) e ∙ ap (λ b. cond b (Some number) None) (same_number index)

    among : (xs : List Candidate) → In c xs → In number (filter_map (λ (x : Candidate). number_of_row index x.origin) xs)
    among [] j = absurd j
    among (x ∷ xs) (inl f) = subst (λ (o : Option ℕ). In number (cons_option o (filter_map (λ (y : Candidate). number_of_row index y.origin) xs)))
        (sym (ap (λ (y : Candidate). number_of_row index y.origin) f ∙ own)) (inl refl)
    among (x ∷ xs) (inr j) = at (number_of_row index x.origin) (among xs j)
      where
        at : (o : Option ℕ) → In number (filter_map (λ (y : Candidate). number_of_row index y.origin) xs) → In number (cons_option o (filter_map (λ (y : Candidate). number_of_row index y.origin) xs))
        at None k = k
        at (Some n) k = inr k

-- the candidate that has the greatest number of a row
record HasGreatest (outs : List Row) (index number : ℕ) : Type 0 where
  pub row : Row
  pub there : slice_get outs index ≡ Some row
  pub kept : Kept
  pub inside : In kept row.kept
  pub numbered : number ≡ kept.number
  pub open_ : is_open outs index ≡ true

greatest_kept : (outs : List Row) (cs : List Candidate) (index : ℕ) → AreOfRows outs cs → (0 < greatest_sent cs index) → HasGreatest outs index (greatest_sent cs index)
greatest_kept outs cs index h some = at (fold_member 0 (filter_map (λ (c : Candidate). number_of_row index c.origin) cs))
  where
    of_candidate : (n : ℕ) (c : Candidate) (o : Origin) → IsOfRows outs c o → number_of_row index o ≡ Some n → HasGreatest outs index n
    of_candidate n c (OfRow row number) g e = by (row == index) refl e
      where
        by : (b : Bool) → (row == index) ≡ b → cond b (Some number) None ≡ Some n → HasGreatest outs index n
        by true f e = subst (HasGreatest outs index) (some_is number n e) (subst (λ k. HasGreatest outs k number) (equal_numbers row index f)
            (record { row = g.row; there = g.there; kept = g.kept; inside = g.inside; numbered = g.numbered; open_ = g.open_ }))
        by false f e = absurd (none_some e)
    of_candidate n c o g e = absurd (none_some e)

    among : (n : ℕ) (xs : List Candidate) → AreOfRows outs xs → In n (filter_map (λ (c : Candidate). number_of_row index c.origin) xs) → HasGreatest outs index n
    among n [] g i = absurd i
    among n (x ∷ xs) g i = by (λ j. among n xs g.1 j) (number_of_row index x.origin) refl i
      where
        by : (In n (filter_map (λ (c : Candidate). number_of_row index c.origin) xs) → HasGreatest outs index n) → (o : Option ℕ) → number_of_row index x.origin ≡ o
            → In n (cons_option o (filter_map (λ (c : Candidate). number_of_row index c.origin) xs)) → HasGreatest outs index n
        by rest None e j = rest j
        by rest (Some k) e (inl f) = subst (HasGreatest outs index) f (of_candidate k x x.origin g.0 e)
        by rest (Some k) e (inr j) = rest j

    at : (greatest_sent cs index ≡ 0) ⊎ In (greatest_sent cs index) (filter_map (λ (c : Candidate). number_of_row index c.origin) cs) → HasGreatest outs index (greatest_sent cs index)
    at (inl e) = absurd (omega (arith, some, e))
    at (inr i) = among (greatest_sent cs index) cs h i

-- A mark is of a number that an open row keeps.
pub record IsMarkOf (outs : List Row) (mark : Mark) : Type 0 where
  pub index : ℕ
  pub row : Row
  pub there : slice_get outs index ≡ Some row
  pub ordinal : mark.ordinal ≡ row.sequence.ordinal
  pub rises : row.offered < mark.number
  pub kept : Kept
  pub inside : In kept row.kept
  pub numbered : mark.number ≡ kept.number
  pub open_ : is_open outs index ≡ true

marks_are : (outs : List Row) (cs : List Candidate) (n : ℕ) (rows : List Row) → AreOfRows outs cs → ((k : ℕ) (row : Row) → slice_get rows k ≡ Some row → slice_get outs (n + k) ≡ Some row)
    → AllByRecursion (IsMarkOf outs) (filter_map (mark_for cs) (enumerate_from n rows))
marks_are outs cs n [] h there = tt
marks_are outs cs n (row ∷ rows) h there = at (marks_are outs cs (n + 1) rows h (λ k x e. subst (λ i. slice_get outs i ≡ Some x) (let f : n + suc k ≡ n + 1 + k = omega arith in f) (there (suc k) x e)))
    (nat_lt row.offered (greatest_sent cs n)) refl
  where
    rest : List Mark
    rest = filter_map (mark_for cs) (enumerate_from (n + 1) rows)

    own : slice_get outs n ≡ Some row
    own = subst (λ i. slice_get outs i ≡ Some row) (let e : n + 0 ≡ n = omega arith in e) (there 0 row refl)

    some : nat_lt row.offered (greatest_sent cs n) ≡ true → 0 < greatest_sent cs n
    some e = grind (arith, nat_tests)

    more : nat_lt row.offered (greatest_sent cs n) ≡ true → row.offered < greatest_sent cs n
    more e = grind (arith, nat_tests)

    new : row.offered < greatest_sent cs n → HasGreatest outs n (greatest_sent cs n) → IsMarkOf outs (record { ordinal = row.sequence.ordinal; number = greatest_sent cs n })
    new less g = let same = some_is g.row row (sym g.there ∙ own) in
        record { index = n; row = g.row; there = g.there; ordinal = ap (λ (x : Row). x.sequence.ordinal) (sym same); rises = subst (λ (x : Row). x.offered < greatest_sent cs n) (sym same) less; kept = g.kept; inside = g.inside; numbered = g.numbered; open_ = g.open_ }

    at : AllByRecursion (IsMarkOf outs) rest → (b : Bool) → nat_lt row.offered (greatest_sent cs n) ≡ b
        → AllByRecursion (IsMarkOf outs) (cons_option (cond b (Some (record { ordinal = row.sequence.ordinal; number = greatest_sent cs n })) None) rest)
    at behind true e = (new (more e) (greatest_kept outs cs n h (some e)), behind)
    at behind false e = behind

pub marks_of_rows : (outs : List Row) (cs : List Candidate) → AreOfRows outs cs → AllByRecursion (IsMarkOf outs) (filter_map (mark_for cs) (enumerate_from 0 outs))
marks_of_rows outs cs h = marks_are outs cs 0 outs h (λ k row e. subst (λ i. slice_get outs i ≡ Some row) (let f : k ≡ 0 + k = omega arith in f) e)

-- a row whose greatest number is above its mark is marked
pub mark_in : (cs : List Candidate) (n : ℕ) (rows : List Row) (k : ℕ) (row : Row) → slice_get rows k ≡ Some row → nat_lt row.offered (greatest_sent cs (n + k)) ≡ true
    → In (record { ordinal = row.sequence.ordinal; number = greatest_sent cs (n + k) }) (filter_map (mark_for cs) (enumerate_from n rows))
mark_in cs n [] k row e f = absurd (none_some e)
mark_in cs n (x ∷ rows) zero row e f = subst (λ b. In m (cons_option (cond b (Some (record { ordinal = x.sequence.ordinal; number = greatest_sent cs n })) None) rest)) (sym test)
    (inl (ap (λ (y : Row). record { ordinal = y.sequence.ordinal; number = greatest_sent cs n }) same ∙ ap (λ i. record { ordinal = row.sequence.ordinal; number = greatest_sent cs i }) (sym none)))
  where
    rest : List Mark
    rest = filter_map (mark_for cs) (enumerate_from (n + 1) rows)

    m : Mark
    m = record { ordinal = row.sequence.ordinal; number = greatest_sent cs (n + 0) }

    none : n + 0 ≡ n
    none = omega arith

    same : x ≡ row
    same = some_is x row e

    test : nat_lt x.offered (greatest_sent cs n) ≡ true
    test = ap (λ (y : Row). nat_lt y.offered (greatest_sent cs n)) same ∙ ap (λ i. nat_lt row.offered (greatest_sent cs i)) (sym none) ∙ f
mark_in cs n (x ∷ rows) (suc k) row e f = at (λ g. mark_in cs (n + 1) rows k row e g) (nat_lt x.offered (greatest_sent cs n))
  where
    next : n + suc k ≡ n + 1 + k
    next = omega arith

    Goal : ℕ → Type 0
    Goal i = In (record { ordinal = row.sequence.ordinal; number = greatest_sent cs i }) (filter_map (mark_for cs) (enumerate_from (n + 1) rows))

    at : (nat_lt row.offered (greatest_sent cs (n + 1 + k)) ≡ true → Goal (n + 1 + k)) → (b : Bool) → In (record { ordinal = row.sequence.ordinal; number = greatest_sent cs (n + suc k) })
        (cons_option (cond b (Some (record { ordinal = x.sequence.ordinal; number = greatest_sent cs n })) None) (filter_map (mark_for cs) (enumerate_from (n + 1) rows)))
    at rest true = inr (subst Goal (sym next) (rest (subst (λ i. nat_lt row.offered (greatest_sent cs i) ≡ true) next f)))
    at rest false = subst Goal (sym next) (rest (subst (λ i. nat_lt row.offered (greatest_sent cs i) ≡ true) next f))

-- Rows.

pub offered_more : (ws more : List Written) (p : Position) → IsOffered ws p → IsOffered (ws ++ more) p
offered_more ws more p h = record {
  before = h.before;
  offering = h.offering;
  behind = h.behind ++ more;
  split = ap (λ xs. xs ++ more) h.split ∙ append_assoc h.before (h.offering ∷ h.behind) more;
  marks = h.marks;
  offers = h.offers;
  mark = h.mark;
  there = h.there;
  ordinal = h.ordinal;
  enough = h.enough;
  unexpired = h.unexpired;
}

-- what a row keeps at or below its mark was offered
pub record IsMarked (ws : List Written) (row : Row) : Type 0 where
  pub offered : row.offered ≤ row.committed
  pub kept : (k : Kept) → In k row.kept → k.number ≤ row.offered → IsOffered ws (record { sequence = row.sequence; number = k.number })

-- and no mark of a record is above its count
record MayBeMarked (ws : List Written) (r : Record) (row : Row) : Type 0 where
  pub marked : IsMarked ws row
  pub bound : (mark : Mark) → Raises r mark → row.sequence.ordinal ≡ mark.ordinal → mark.number ≤ row.committed

less_marked : (ws : List Written) (r : Record) (row : Row) (acked : ℕ) (kept : List Kept) → ((k : Kept) → In k kept → In k row.kept) → MayBeMarked ws r row
    → MayBeMarked ws r (record row { acked = acked; kept = kept })
less_marked ws r row acked kept fewer h = record { marked = record { offered = h.marked.offered; kept = λ k i le. h.marked.kept k (fewer k i) le }; bound = h.bound }

-- the record that raises a mark
raised_by : (r : Record) (mark : Mark) → Raises r mark → (marks : List Mark) × (r ≡ entry.Offered marks) × In mark marks
raised_by (entry.Offered marks) mark h = (marks, refl, h)
raised_by r mark h = absurd h

module _ (i : ℕ) (s : State) (r : Record) (ws : List Written) where
  abbrev w : Written
  w = record { by = i; before = s; entry = r }

  abbrev now_ws : List Written
  now_ws = ws ++ w ∷ []

  -- a row that is tidy, and may be marked
  abbrev Stays : Row → Type 0
  Stays row = IsTidy (lines_written ws) row × MayBeMarked now_ws r row

  new_offered : (mark : Mark) (row : Row) → Raises r mark → row.sequence.ordinal ≡ mark.ordinal → IsTidy (lines_written ws) row → (k : Kept) → In k row.kept → k.number ≤ mark.number
      → IsOffered now_ws (record { sequence = row.sequence; number = k.number })
  new_offered mark row raises same tidy k inside le = let g = raised_by r mark raises in record {
    before = ws;
    offering = w;
    behind = [];
    split = refl;
    marks = g.0;
    offers = g.1;
    mark = mark;
    there = g.2;
    ordinal = sym same;
    enough = le;
    unexpired = tidy.spared k inside;
  }

  stays : Allows (IsTidy (lines_written ws)) s r → ((mark : Mark) → Raises r mark → mark.ordinal < s.next_ordinal) → Allows Stays s r
  stays tidy given = record {
    begins = λ commit t peer destination now low manager leads. (
      tidy.begins commit t peer destination now low manager leads,
      record {
        marked = record { offered = omega arith; kept = λ k i le. absurd i };
        bound = λ mark raises same. let less = given mark raises in absurd (omega (arith, less, low, same));
      },
    );
    joins = λ commit m row h. (
      tidy.joins commit m row h.0,
      record {
        marked = record {
          offered = let le = h.1.marked.offered in omega (arith, le);
          kept = λ k i le. joined m row h.1 k le (in_split row.kept (record { number = row.committed + 1; message = m } ∷ []) k i);
        };
        bound = λ mark raises same. let le = h.1.bound mark raises same in omega (arith, le);
      },
    );
    offers = λ mark row raises same h. (
      tidy.offers mark row raises same h.0,
      record { marked = record { offered = h.1.bound mark raises same; kept = λ k i le. new_offered mark row raises same h.0 k i le }; bound = h.1.bound },
    );
    acknowledges = λ ordinal number row acks same h. (
      tidy.acknowledges ordinal number row acks same h.0,
      less_marked now_ws r row (max row.acked number) _ (λ k i. filtered_in (λ (x : Kept). nat_lt (max row.acked number) x.number || keeps_dead x.message) row.kept k i) h.1,
    );
    finishes = λ m k row ends peer named h. (
      tidy.finishes m k row ends peer named h.0,
      less_marked now_ws r row (max row.acked k.number) _
          (λ x i. without_in (is_offered_as m.correlation row) row.kept x
          (filtered_in (λ (y : Kept). nat_lt (max row.acked k.number) y.number || keeps_dead y.message) (without_first (is_offered_as m.correlation row) row.kept) x i)) h.1,
    );
    expires = λ now row h. (
      tidy.expires now row h.0,
      less_marked now_ws r row row.acked _ (λ k i. without_in (expires now row) row.kept k i) h.1,
    );
  }
    where
      joined : (m : Message) (row : Row) → MayBeMarked now_ws r row → (k : Kept) → k.number ≤ row.offered → In k row.kept ⊎ In k (record { number = row.committed + 1; message = m } ∷ [])
          → IsOffered now_ws (record { sequence = row.sequence; number = k.number })
      joined m row h k le (inl i) = h.marked.kept k i le
      joined m row h k le (inr (inl e)) = let own = ap (λ (x : Kept). x.number) e in let low = h.marked.offered in absurd (omega (arith, le, own, low))
      joined m row h k le (inr (inr none)) = absurd none

-- Records.

-- the marks of a record that was made are of its rows
pub made_marks : (s : State) (r : Record) → IsMade s r → (mark : Mark) → Raises r mark → IsMarkOf s.outs mark
made_marks s (entry.Offered marks) made mark h = all_in (IsMarkOf s.outs) marks mark (subst (AllByRecursion (IsMarkOf s.outs)) (sym made.1) (marks_of_rows s.outs made.0 made.2)) h
made_marks s r made mark h = absurd h

-- what holds of a manager's rows and its records
abbrev pub AreMarked : State → List Written → Type 0
AreMarked s ws = AreTidy s ws × AllByRecursion (IsMarked ws) s.outs

record_marked : (i : ℕ) (s : State) (r : Record) (ws : List Written) → IsMade s r → AreMarked s ws → AllByRecursion (IsMarked (ws ++ record { by = i; before = s; entry = r } ∷ [])) (apply s r).outs
record_marked i s r ws made h = all_weaker (Stays i s r ws) (IsMarked now) (λ row g. g.1.marked) (apply s r).outs
    (applied_each (Stays i s r ws) s r (stays i s r ws (tidy_allows (lines_written ws) s r (expiries_given s ws h.0)) given) (all_of (Stays i s r ws) s.outs starts))
  where
    now : List Written
    now = ws ++ record { by = i; before = s; entry = r } ∷ []

    given : (mark : Mark) → Raises r mark → mark.ordinal < s.next_ordinal
    given mark raises = let g = made_marks s r made mark raises in
        let less = all_in (λ (x : Row). x.sequence.ordinal < s.next_ordinal) s.outs g.row h.0.0.0.0.0.below (get_in s.outs g.index g.row g.there) in let e = g.ordinal in omega (arith, less, e)

    starts : (row : Row) → In row s.outs → Stays i s r ws row
    starts row inside = (
      tidy,
      record {
        marked = record { offered = old.offered; kept = λ k j le. offered_more ws (record { by = i; before = s; entry = r } ∷ []) (record { sequence = row.sequence; number = k.number }) (old.kept k j le) };
        bound = λ mark raises same. let g = made_marks s r made mark raises in let one = one_row s.outs g.row row h.0.0.0.0.0.rise (get_in s.outs g.index g.row g.there) inside (sym g.ordinal ∙ sym same) in
            let le = all_in (λ k. k.number ≤ row.committed) row.kept g.kept tidy.within (subst (λ (x : Row). In g.kept x.kept) one g.inside) in let e = g.numbered in omega (arith, le, e);
      },
    )
      where
        tidy : IsTidy (lines_written ws) row
        tidy = all_in (IsTidy (lines_written ws)) s.outs row h.0.1 inside

        old : IsMarked ws row
        old = all_in (IsMarked ws) s.outs row h.1 inside

pub marked_by_records : IsByRecords AreMarked
marked_by_records = record {
  starts = λ own peers. (tidy_by_records.starts own peers, subst (AllByRecursion (IsMarked [])) (sym (joined_outs (empty own) peers)) tt);
  quiet = λ a b ws same h. (tidy_by_records.quiet a b ws same h.0, subst (AllByRecursion (IsMarked ws)) (sym same.outs) h.1);
  grows = λ i s r ws made h. (tidy_by_records.grows i s r ws made h.0, record_marked i s r ws made h);
}
