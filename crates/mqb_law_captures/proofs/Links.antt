-- Links that are sent, one after another, and the rows from which they come.
use Rattle.std.proofs.Common.{refl, ap, sym, subst, ◌∙◌, inl, inr, arith}
use Rattle.std.proofs.lemmas.List.Elements.{recursion_from_All}
use Rattle.std.specs.List.{AllByRecursion}
use Rattle.std.specs.Prelude.{[], ◌++◌, ◌<◌, ◌∷◌, ◌≡◌, ◌≤◌, List, Some, length, slice_get, slice_set, suc, zero, ℕ}
use Rattle.mqb_base.specs.declared.ids.Guid.{Guid}
use Rattle.mqb_base.specs.declared.ids.SequenceId.{SequenceId}
use Rattle.mqb_orders.specs.KeptLists.{numbers}
use Rattle.mqb_orders.specs.Rows.{Row, greatest_below, link_before}
use Rattle.mqb_orders.specs.declared.kept.Kept.{Kept}
use Rattle.mqb_orders.proofs.Greatest.{below, floor, greatest}
use Rattle.mqb_capture.specs.Links.{AreLinked, Fit}
use Rattle.mqb_capture.specs.declared.link.Link.{Link}
use Rattle.mqb_law_captures.proofs.Rows.{HasNumber, IsCovered, RowsGo}
use Rattle.mqb_law_captures.proofs.Lists.{PairsByRecursion, all_append, all_weaker, some_is}

-- Lists.

all_with : {X : Type 0} (P Q R : X → Type 0) → ((x : X) → P x → Q x → R x) → (xs : List X) → AllByRecursion P xs → AllByRecursion Q xs → AllByRecursion R xs
all_with P Q R f [] p q = tt
all_with P Q R f (x ∷ xs) p q = (f x p.0 q.0, all_with P Q R f xs p.1 q.1)

pub set_hit : {X : Type 0} (xs : List X) (i : ℕ) (x y : X) → slice_get xs i ≡ Some x → slice_get (slice_set xs i y) i ≡ Some y
set_hit [] i x y e = absurd (let none : ⊥ = cc in none)
set_hit (z ∷ zs) zero x y e = refl
set_hit (z ∷ zs) (suc i) x y e = set_hit zs i x y e

pub set_missed : {X : Type 0} (xs : List X) (i j : ℕ) (y : X) → (i ≡ j → ⊥) → slice_get (slice_set xs i y) j ≡ slice_get xs j
set_missed [] i j y apart = refl
set_missed (z ∷ zs) zero zero y apart = absurd (apart refl)
set_missed (z ∷ zs) zero (suc j) y apart = refl
set_missed (z ∷ zs) (suc i) zero y apart = refl
set_missed (z ∷ zs) (suc i) (suc j) y apart = set_missed zs i j y (λ e. apart (ap (λ (n : ℕ). suc n) e))

-- One link more.

pub record Joins (ls : List Link) (l : Link) : Type 0 where
  pub below : l.tx.previous < l.tx.number
  pub before : AllByRecursion (λ a. Fit a l) ls
  pub behind : AllByRecursion (Fit l) ls

fits_itself : (l : Link) → Fit l l
fits_itself l = record { later = λ one less. absurd (omega (arith, less)); again = λ one same. (refl, refl) }

pub linked_more : (ls : List Link) (l : Link) → AreLinked ls → Joins ls l → AreLinked (ls ++ l ∷ [])
linked_more ls l h j = record {
  below = all_append (λ (a : Link). a.tx.previous < a.tx.number) ls (l ∷ []) h.below (j.below, tt);
  fit = all_append (λ (a : Link). AllByRecursion (Fit a) (ls ++ l ∷ [])) ls (l ∷ [])
      (all_with (λ (a : Link). AllByRecursion (Fit a) ls) (λ (a : Link). Fit a l) (λ (a : Link). AllByRecursion (Fit a) (ls ++ l ∷ []))
      (λ a old new. all_append (Fit a) ls (l ∷ []) old (new, tt)) ls h.fit j.before)
      (all_append (Fit l) ls (l ∷ []) j.behind (fits_itself l, tt), tt);
}

-- Rows whose ordinals rise.

abbrev pub Rising : List Row → Type 0
Rising rows = PairsByRecursion (λ (a b : Row). a.sequence.ordinal < b.sequence.ordinal) rows

above_go : (own : Guid) (ordinal : ℕ) (olds news : List Row) → RowsGo own olds news → AllByRecursion (λ (b : Row). ordinal < b.sequence.ordinal) olds
    → AllByRecursion (λ (b : Row). ordinal < b.sequence.ordinal) news
above_go own ordinal [] [] g h = tt
above_go own ordinal [] (b ∷ news) g h = absurd g
above_go own ordinal (a ∷ olds) [] g h = absurd g
above_go own ordinal (a ∷ olds) (b ∷ news) g h = (subst (λ (s : SequenceId). ordinal < s.ordinal) (sym g.0.sequence) h.0, above_go own ordinal olds news g.1 h.1)

pub rising_go : (own : Guid) (olds news : List Row) → RowsGo own olds news → Rising olds → Rising news
rising_go own [] [] g h = tt
rising_go own [] (b ∷ news) g h = absurd g
rising_go own (a ∷ olds) [] g h = absurd g
rising_go own (a ∷ olds) (b ∷ news) g h = (
  subst (λ (s : SequenceId). AllByRecursion (λ (x : Row). s.ordinal < x.sequence.ordinal) news) (sym g.0.sequence) (above_go own a.sequence.ordinal olds news g.1 h.0),
  rising_go own olds news g.1 h.1,
)

-- What is known of the links that were sent of a row: their numbers are up to its cursor, and covered.

abbrev pub IsNoted : Row → ℕ → Link → Type 0
IsNoted row cursor l = l.tx.sequence ≡ row.sequence → (l.tx.number ≤ cursor) × IsCovered l.tx.number row

abbrev pub AreNoted : List Link → List Row → List ℕ → Type 0
AreNoted ls [] cursors = Unit {0}
AreNoted ls (row ∷ rows) [] = ⊥
AreNoted ls (row ∷ rows) (cursor ∷ cursors) = AllByRecursion (IsNoted row cursor) ls × AreNoted ls rows cursors

pub noted_none : (rows : List Row) (cursors : List ℕ) → length rows ≤ length cursors → AreNoted [] rows cursors
noted_none [] cursors few = tt
noted_none (row ∷ rows) [] few = absurd (omega (arith, few))
noted_none (row ∷ rows) (cursor ∷ cursors) few = (tt, noted_none rows cursors (omega (arith, few)))

pub noted_grown : (ls : List Link) (rows : List Row) (cursors more : List ℕ) → AreNoted ls rows cursors → AreNoted ls rows (cursors ++ more)
noted_grown ls [] cursors more h = tt
noted_grown ls (row ∷ rows) [] more h = absurd h
noted_grown ls (row ∷ rows) (cursor ∷ cursors) more h = (h.0, noted_grown ls rows cursors more h.1)

pub noted_rows : (own : Guid) (ls : List Link) (olds news : List Row) (cursors : List ℕ) → RowsGo own olds news → AreNoted ls olds cursors → AreNoted ls news cursors
noted_rows own ls [] [] cursors g h = tt
noted_rows own ls [] (b ∷ news) cursors g h = absurd g
noted_rows own ls (a ∷ olds) [] cursors g h = absurd g
noted_rows own ls (a ∷ olds) (b ∷ news) [] g h = absurd h
noted_rows own ls (a ∷ olds) (b ∷ news) (cursor ∷ cursors) g h = (
  all_weaker (IsNoted a cursor) (IsNoted b cursor) (λ l is e. (let known = is (e ∙ g.0.sequence) in (known.0, g.0.covered l.tx.number known.1))) ls h.0,
  noted_rows own ls olds news cursors g.1 h.1,
)

pub noted_at : (ls : List Link) (rows : List Row) (cursors : List ℕ) (i : ℕ) (row : Row) (cursor : ℕ) → slice_get rows i ≡ Some row → slice_get cursors i ≡ Some cursor → AreNoted ls rows cursors
    → AllByRecursion (IsNoted row cursor) ls
noted_at ls [] cursors i row cursor e f h = absurd (let none : ⊥ = cc in none)
noted_at ls (r ∷ rows) [] i row cursor e f h = absurd h
noted_at ls (r ∷ rows) (c ∷ cursors) zero row cursor e f h = subst (λ (x : Row). AllByRecursion (IsNoted x cursor) ls) (some_is r row e)
    (subst (λ (n : ℕ). AllByRecursion (IsNoted r n) ls) (some_is c cursor f) h.0)
noted_at ls (r ∷ rows) (c ∷ cursors) (suc i) row cursor e f h = noted_at ls rows cursors i row cursor e f h.1

-- a cursor rises
pub noted_raised : (ls : List Link) (rows : List Row) (cursors : List ℕ) (i cursor n : ℕ) → slice_get cursors i ≡ Some cursor → cursor ≤ n → AreNoted ls rows cursors → AreNoted ls rows (slice_set cursors i n)
noted_raised ls [] cursors i cursor n f le h = tt
noted_raised ls (r ∷ rows) [] i cursor n f le h = absurd h
noted_raised ls (r ∷ rows) (c ∷ cursors) zero cursor n f le h = (
  all_weaker (IsNoted r c) (IsNoted r n) (λ l is e. (let known = is e in let same = some_is c cursor f in let low = known.0 in (omega (arith, low, same, le), known.1))) ls h.0,
  h.1,
)
noted_raised ls (r ∷ rows) (c ∷ cursors) (suc i) cursor n f le h = (h.0, noted_raised ls rows cursors i cursor n f le h.1)

-- a link that is of none of these rows
noted_elsewhere : (ls : List Link) (l : Link) (rows : List Row) (cursors : List ℕ) → AllByRecursion (λ (x : Row). l.tx.sequence ≡ x.sequence → ⊥) rows → AreNoted ls rows cursors
    → AreNoted (ls ++ l ∷ []) rows cursors
noted_elsewhere ls l [] cursors apart h = tt
noted_elsewhere ls l (r ∷ rows) [] apart h = absurd h
noted_elsewhere ls l (r ∷ rows) (c ∷ cursors) apart h = (
  all_append (IsNoted r c) ls (l ∷ []) h.0 (λ e. absurd (apart.0 e), tt),
  noted_elsewhere ls l rows cursors apart.1 h.1,
)

get_above : (ordinal : ℕ) (rows : List Row) (i : ℕ) (row : Row) → slice_get rows i ≡ Some row → AllByRecursion (λ (x : Row). ordinal < x.sequence.ordinal) rows → ordinal < row.sequence.ordinal
get_above ordinal [] i row e h = absurd (let none : ⊥ = cc in none)
get_above ordinal (r ∷ rows) zero row e h = subst (λ (x : Row). ordinal < x.sequence.ordinal) (some_is r row e) h.0
get_above ordinal (r ∷ rows) (suc i) row e h = get_above ordinal rows i row e h.1

-- a link of the row at an index
pub noted_joined : (ls : List Link) (l : Link) (rows : List Row) (cursors : List ℕ) (i : ℕ) (row : Row) (cursor : ℕ) → Rising rows → slice_get rows i ≡ Some row → slice_get cursors i ≡ Some cursor
    → l.tx.sequence ≡ row.sequence → l.tx.number ≤ cursor → IsCovered l.tx.number row → AreNoted ls rows cursors → AreNoted (ls ++ l ∷ []) rows cursors
noted_joined ls l [] cursors i row cursor rise e f is le covered h = tt
noted_joined ls l (r ∷ rows) [] i row cursor rise e f is le covered h = absurd h
noted_joined ls l (r ∷ rows) (c ∷ cursors) zero row cursor rise e f is le covered h = (
  all_append (IsNoted r c) ls (l ∷ []) h.0 (
    λ same. (let at = some_is c cursor f in omega (arith, le, at), subst (IsCovered l.tx.number) (sym (some_is r row e)) covered),
    tt,
  ),
  noted_elsewhere ls l rows cursors (all_weaker (λ (x : Row). r.sequence.ordinal < x.sequence.ordinal) (λ (x : Row). l.tx.sequence ≡ x.sequence → ⊥)
      (λ x less same. apart x less (ap (λ (y : Row). y.sequence) (some_is r row e) ∙ sym is ∙ same)) rows rise.0) h.1,
)
  where
    apart : (x : Row) → r.sequence.ordinal < x.sequence.ordinal → r.sequence ≡ x.sequence → ⊥
    apart x less same = let equal = ap (λ (s : SequenceId). s.ordinal) same in absurd (omega (arith, less, equal))
noted_joined ls l (r ∷ rows) (c ∷ cursors) (suc i) row cursor rise e f is le covered h = (
  all_append (IsNoted r c) ls (l ∷ []) h.0 (λ same. absurd (apart (sym is ∙ same)), tt),
  noted_joined ls l rows cursors i row cursor rise.1 e f is le covered h.1,
)
  where
    apart : row.sequence ≡ r.sequence → ⊥
    apart same = let equal = ap (λ (s : SequenceId). s.ordinal) same in let less = get_above r.sequence.ordinal rows i row e rise.0 in absurd (omega (arith, less, equal))

-- A number above the cursor of its row, and above what is acknowledged there.

number_under : (low n : ℕ) (ks : List Kept) (m : ℕ) → (P : ℕ → Type 0) → AllByRecursion P (numbers ks) → HasNumber m ks → P m
number_under low n [] m P all h = absurd h
number_under low n (k ∷ ks) m P all (inl e) = subst P e all.0
number_under low n (k ∷ ks) m P all (inr i) = number_under low n ks m P all.1 i

-- a number that is covered stands at or below the one before a greater number
covered_before : (row : Row) (m n : ℕ) → IsCovered m row → m < n → m ≤ link_before row.acked row.kept n
covered_before row m n (inl le) less = let low = floor row.acked n (numbers row.kept) in omega (arith, le, low)
covered_before row m n (inr has) less = number_under row.acked n row.kept m (λ x. x < n → x ≤ link_before row.acked row.kept n)
    (recursion_from_All (λ x. x < n → x ≤ greatest_below row.acked n (numbers row.kept)) (numbers row.kept) (greatest row.acked n (numbers row.kept))) has less

pub joins : (ls : List Link) (l : Link) (row : Row) (cursor : ℕ) → l.tx.sequence ≡ row.sequence → l.tx.previous ≡ link_before row.acked row.kept l.tx.number → row.acked < l.tx.number → cursor < l.tx.number
    → AllByRecursion (IsNoted row cursor) ls → Joins ls l
joins ls l row cursor is previous unacked above h = record {
  below = let low = below row.acked l.tx.number (numbers row.kept) unacked in omega (arith, low, previous);
  before = all_weaker (IsNoted row cursor) (λ a. Fit a l) before ls h;
  behind = all_weaker (IsNoted row cursor) (Fit l) behind ls h;
}
  where
    before : (a : Link) → IsNoted row cursor a → Fit a l
    before a noted = record {
      later = λ one less. (let known = noted (one.sequence ∙ is) in let le = covered_before row a.tx.number l.tx.number known.1 less in omega (arith, le, previous));
      again = λ one same. absurd (let known = noted (one.sequence ∙ is) in let low = known.0 in omega (arith, low, above, same));
    }

    behind : (a : Link) → IsNoted row cursor a → Fit l a
    behind a noted = record {
      later = λ one less. absurd (let known = noted (sym one.sequence ∙ is) in let low = known.0 in omega (arith, low, above, less));
      again = λ one same. absurd (let known = noted (sym one.sequence ∙ is) in let low = known.0 in omega (arith, low, above, same));
    }
