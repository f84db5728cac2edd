-- Rows of which one is another now.
use Rattle.std.proofs.Common.{refl, ap, sym, subst, ◌∙◌, arith, inl, inr}
use Rattle.std.specs.List.{AllByRecursion}
use Rattle.std.specs.Option.{option_map_or}
use Rattle.std.specs.Prelude.{[], ◌<◌, ◌==◌, ◌∷◌, ◌≡◌, ◌⊎◌, Bool, List, Some, cond, false, slice_get, slice_set, suc, true, zero, ℕ}
use Rattle.mqb_exactly_once.specs.Words.{In}
use Rattle.mqb_model.specs.Lists.{with_changed, with_first_changed}
use Rattle.mqb_model.specs.state.Rows.{has_ordinal}
use Rattle.mqb_orders.specs.Rows.{Row}
use Rattle.mqb_history.proofs.Committing.{OrdinalsRise, all_in, first_changed, is_first_changed}
use Rattle.mqb_history.proofs.Lists.{clash, equal_numbers, other_numbers, same_number, some_is}

-- each row is the new one, or an old one of another ordinal; and each old one is there, or is the one that was replaced
pub record Replaced (olds news : List Row) (a b : Row) : Type 0 where
  pub each : (r : Row) → In r news → (b ≡ r) ⊎ (In r olds × (r.sequence.ordinal ≡ a.sequence.ordinal → ⊥))
  pub back : (r : Row) → In r olds → (a ≡ r) ⊎ In r news
  pub there : In b news

replaced_behind : (x : Row) (olds news : List Row) (a b : Row) → (x.sequence.ordinal ≡ a.sequence.ordinal → ⊥) → Replaced olds news a b → Replaced (x ∷ olds) (x ∷ news) a b
replaced_behind x olds news a b apart h = record {
  each = λ r i. each r i;
  back = λ r i. back r i;
  there = inr h.there;
}
  where
    weaker : (r : Row) → (b ≡ r) ⊎ (In r olds × (r.sequence.ordinal ≡ a.sequence.ordinal → ⊥)) → (b ≡ r) ⊎ (In r (x ∷ olds) × (r.sequence.ordinal ≡ a.sequence.ordinal → ⊥))
    weaker r (inl e) = inl e
    weaker r (inr g) = inr (inr g.0, g.1)

    each : (r : Row) → In r (x ∷ news) → (b ≡ r) ⊎ (In r (x ∷ olds) × (r.sequence.ordinal ≡ a.sequence.ordinal → ⊥))
    each r (inl e) = inr (inl e, λ same. apart (ap (λ (y : Row). y.sequence.ordinal) e ∙ same))
    each r (inr i) = weaker r (h.each r i)

    more : (r : Row) → (a ≡ r) ⊎ In r news → (a ≡ r) ⊎ In r (x ∷ news)
    more r (inl e) = inl e
    more r (inr i) = inr (inr i)

    back : (r : Row) → In r (x ∷ olds) → (a ≡ r) ⊎ In r (x ∷ news)
    back r (inl e) = inr (inl e)
    back r (inr i) = more r (h.back r i)

replaced_here : (a b : Row) (olds : List Row) → AllByRecursion (λ r. a.sequence.ordinal < r.sequence.ordinal) olds → Replaced (a ∷ olds) (b ∷ olds) a b
replaced_here a b olds low = record {
  each = λ r i. each r i;
  back = λ r i. back r i;
  there = inl refl;
}
  where
    each : (r : Row) → In r (b ∷ olds) → (b ≡ r) ⊎ (In r (a ∷ olds) × (r.sequence.ordinal ≡ a.sequence.ordinal → ⊥))
    each r (inl e) = inl e
    each r (inr i) = inr (inr i, λ same. let less = all_in (λ (x : Row). a.sequence.ordinal < x.sequence.ordinal) olds r low i in omega (arith, less, same))

    back : (r : Row) → In r (a ∷ olds) → (a ≡ r) ⊎ In r (b ∷ olds)
    back r (inl e) = inl e
    back r (inr i) = inr (inr i)

first_replaced : (change : Row → Row) (rows : List Row) (a : Row) → OrdinalsRise rows → In a rows
    → Replaced rows (first_changed change (has_ordinal a.sequence.ordinal) rows) a (change a)
first_replaced change [] a rise i = absurd i
first_replaced change (x ∷ rows) a rise (inl e) = at (has_ordinal a.sequence.ordinal x) (subst (λ (y : Row). has_ordinal a.sequence.ordinal y ≡ true) (sym e) (same_number a.sequence.ordinal))
  where
    at : (b : Bool) → b ≡ true → Replaced (x ∷ rows) (cond b (change x ∷ rows) (x ∷ first_changed change (has_ordinal a.sequence.ordinal) rows)) a (change a)
    at true f = subst (λ y. Replaced (x ∷ rows) (change x ∷ rows) y (change y)) e (replaced_here x (change x) rows rise.0)
    at false f = absurd (clash (sym f))
first_replaced change (x ∷ rows) a rise (inr i) = at (has_ordinal a.sequence.ordinal x) (other_numbers x.sequence.ordinal a.sequence.ordinal apart) (first_replaced change rows a rise.1 i)
  where
    apart : x.sequence.ordinal ≡ a.sequence.ordinal → ⊥
    apart same = let less = all_in (λ (y : Row). x.sequence.ordinal < y.sequence.ordinal) rows a rise.0 i in omega (arith, less, same)

    at : (b : Bool) → b ≡ false → Replaced rows (first_changed change (has_ordinal a.sequence.ordinal) rows) a (change a)
        → Replaced (x ∷ rows) (cond b (change x ∷ rows) (x ∷ first_changed change (has_ordinal a.sequence.ordinal) rows)) a (change a)
    at true f rest = absurd (clash f)
    at false f rest = replaced_behind x rows (first_changed change (has_ordinal a.sequence.ordinal) rows) a (change a) apart rest

-- the row of an ordinal changes
pub ordinal_replaced : (change : Row → Row) (rows : List Row) (a : Row) → OrdinalsRise rows → In a rows
    → Replaced rows (with_first_changed change (has_ordinal a.sequence.ordinal) rows) a (change a)
ordinal_replaced change rows a rise i = subst (λ news. Replaced rows news a (change a)) (sym (is_first_changed change (has_ordinal a.sequence.ordinal) rows)) (first_replaced change rows a rise i)

set_replaced : (rows : List Row) (k : ℕ) (a b : Row) → OrdinalsRise rows → slice_get rows k ≡ Some a → Replaced rows (slice_set rows k b) a b
set_replaced [] k a b rise e = absurd (let none : ⊥ = cc in none)
set_replaced (x ∷ rows) zero a b rise e = subst (λ y. Replaced (x ∷ rows) (b ∷ rows) y b) (some_is x a e) (replaced_here x b rows rise.0)
set_replaced (x ∷ rows) (suc k) a b rise e = replaced_behind x rows (slice_set rows k b) a b
    (λ same. let less = all_in (λ (y : Row). x.sequence.ordinal < y.sequence.ordinal) rows a rise.0 (get rows k e) in omega (arith, less, same)) (set_replaced rows k a b rise.1 e)
  where
    get : (rows : List Row) (k : ℕ) → slice_get rows k ≡ Some a → In a rows
    get [] k f = absurd (let none : ⊥ = cc in none)
    get (y ∷ ys) zero f = inl (some_is y a f)
    get (y ∷ ys) (suc k) f = inr (get ys k f)

-- the row at an index does
pub index_replaced : (change : Row → Row) (rows : List Row) (k : ℕ) (a : Row) → OrdinalsRise rows → slice_get rows k ≡ Some a
    → Replaced rows (with_changed change rows k) a (change a)
index_replaced change rows k a rise e = subst (λ o. Replaced rows (option_map_or (λ x. slice_set rows k (change x)) o rows) a (change a)) (sym e) (set_replaced rows k a (change a) rise e)

-- where no row has an ordinal nothing changes
pub none_replaced : (change : Row → Row) (ordinal : ℕ) (rows : List Row) → ((r : Row) → In r rows → r.sequence.ordinal ≡ ordinal → ⊥)
    → with_first_changed change (has_ordinal ordinal) rows ≡ rows
none_replaced change ordinal rows none = is_first_changed change (has_ordinal ordinal) rows ∙ all rows none
  where
    all : (rows : List Row) → ((r : Row) → In r rows → r.sequence.ordinal ≡ ordinal → ⊥) → first_changed change (has_ordinal ordinal) rows ≡ rows
    all [] none = refl
    all (x ∷ rows) none = ap (λ b. cond b (change x ∷ rows) (x ∷ first_changed change (has_ordinal ordinal) rows)) (other_numbers x.sequence.ordinal ordinal (none x (inl refl)))
        ∙ ap (λ ys. x ∷ ys) (all rows (λ r i. none r (inr i)))

-- there is one, or none
pub has_row_of : (ordinal : ℕ) (rows : List Row) → ((a : Row) × In a rows × (a.sequence.ordinal ≡ ordinal)) ⊎ ((r : Row) → In r rows → r.sequence.ordinal ≡ ordinal → ⊥)
has_row_of ordinal [] = inr (λ r i same. i)
has_row_of ordinal (x ∷ rows) = at (has_ordinal ordinal x) refl (has_row_of ordinal rows)
  where
    Some_of : List Row → Type 0
    Some_of rows = (a : Row) × In a rows × (a.sequence.ordinal ≡ ordinal)

    None_of : List Row → Type 0
    None_of rows = (r : Row) → In r rows → r.sequence.ordinal ≡ ordinal → ⊥

    apart : has_ordinal ordinal x ≡ false → x.sequence.ordinal ≡ ordinal → ⊥
    apart e same = clash (sym (subst (λ n. (n == ordinal) ≡ true) (sym same) (same_number ordinal)) ∙ e)

    none : has_ordinal ordinal x ≡ false → None_of rows → None_of (x ∷ rows)
    none e rest r (inl f) same = apart e (ap (λ (y : Row). y.sequence.ordinal) f ∙ same)
    none e rest r (inr i) same = rest r i same

    behind : has_ordinal ordinal x ≡ false → Some_of rows ⊎ None_of rows → Some_of (x ∷ rows) ⊎ None_of (x ∷ rows)
    behind e (inl g) = inl (g.0, inr g.1, g.2)
    behind e (inr rest) = inr (none e rest)

    at : (b : Bool) → has_ordinal ordinal x ≡ b → Some_of rows ⊎ None_of rows → Some_of (x ∷ rows) ⊎ None_of (x ∷ rows)
    at true e rest = inl (x, inl refl, equal_numbers x.sequence.ordinal ordinal e)
    at false e rest = behind e rest
