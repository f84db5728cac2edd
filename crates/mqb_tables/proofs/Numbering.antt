-- A table of the ordinals of outgoing rows.
use Rattle.std.proofs.Common.{◌≡◌, ◌⊎◌, inl, inr, ℕ, zero, suc, ◌+◌, ◌<◌, ◌≤◌, ◌==◌, Bool, true, false, cond, List, [], ◌∷◌, ◌++◌, length, map, set, take, Option, Some, None, refl, sym, ap, ◌∙◌, subst, arith}
use Rattle.std.specs.List.{position}
use Rattle.std.specs.Map.{lookup}
use Rattle.std.specs.Option.{option_map}
use Rattle.std.specs.Prelude.{IfSome, nat_eq, slice_get}
use Rattle.std.proofs.lemmas.Bool.Decides.{nat_tests}
use Rattle.std.proofs.lemmas.List.{length-map, length-take-le, length_push, map-append, map-set, take_more}
use Rattle.std.proofs.lemmas.List.Quantifiers.{position-Some}
use Rattle.std.proofs.lemmas.Option.{get_or_from_slice_get, none-some, same_Some, slice_get-map, slice_get_within}
use Rattle.indexmap.specs.IndexMap.{IndexMap, get, index_map_len, spare}
use Rattle.mqb_model.specs.state.Rows.{has_ordinal}
use Rattle.mqb_orders.specs.Rows.{Row, row_of}
use Rattle.mqb_orders.specs.declared.rows.OutRow.{OutRow}
use Rattle.mqb_model.proofs.mqb_queue.Positions.{none_passes, position_behind, position_joined, position_map, position_step}
use Rattle.mqb_tables.specs.Tables.{AreNumbered, HaveOwnOrdinals, LeadsTo}
use Rattle.mqb_model.proofs.mqb_queue.Lens.{set_same}

abbrev pub Table : Type 0 → Type 0
Table S = IndexMap ℕ ℕ S

-- an ordinal was entered: those that were there stay
pub record IsEntered {S : Type 0} (m n : Table S) (ordinal number : ℕ) : Type 0 where
  pub kept : (o k : ℕ) → get nat_eq m o ≡ Some k → get nat_eq n o ≡ Some k
  pub entered : (o : ℕ) → get nat_eq m o ≡ None → get nat_eq n o ≡ cond (ordinal == o) (Some number) None
  pub own : index_map_len m < index_map_len n → get nat_eq m ordinal ≡ None

pub leads_empty : {S : Type 0} (m : Table S) → m.entries ≡ [] → LeadsTo [] m
leads_empty m none o = ap (λ (es : List (ℕ × ℕ)). lookup (nat_eq o) es) none

pub leads_same : {S : Type 0} (rows : List Row) (m n : Table S) → n.entries ≡ m.entries → LeadsTo rows m → LeadsTo rows n
leads_same rows m n same leads o = ap (λ (es : List (ℕ × ℕ)). lookup (nat_eq o) es) same ∙ leads o

pub leads_on : {S : Type 0} (rows : List Row) (r : Row) (m n : Table S) (number : ℕ) → LeadsTo rows m → number ≡ length rows → IsEntered m n r.sequence.ordinal number
    → LeadsTo (rows ++ r ∷ []) n
leads_on rows r m n number leads is h o = at (position (has_ordinal o) rows) refl
  where
    last : (b : Bool) → cond b (Some number) None ≡ option_map (λ k. length rows + k) (cond b (Some 0) None)
    last true = ap Some (omega (arith, is))
    last false = refl

    at : (p : Option ℕ) → position (has_ordinal o) rows ≡ p → get nat_eq n o ≡ position (has_ordinal o) (rows ++ r ∷ [])
    at (Some j) there = h.kept o j (leads o ∙ there) ∙ sym (position_joined (has_ordinal o) rows (r ∷ []) j there)
    at None none =
        h.entered o (leads o ∙ none)
        ∙ (last (has_ordinal o r)
        ∙ (sym (ap (option_map (λ k. length rows + k)) (position_step (has_ordinal o) r []))
        ∙ sym (position_behind (has_ordinal o) rows (r ∷ []) (none_passes (has_ordinal o) rows none))))

-- ---- rows that have ordinals of their own

get_pushed : {X : Type 0} (xs : List X) (x : X) (k : ℕ) (y : X) → slice_get (xs ++ x ∷ []) k ≡ Some y → (slice_get xs k ≡ Some y) ⊎ ((k ≡ length xs) × (x ≡ y))
get_pushed [] x zero y is = inr (refl, same_Some x y is)
get_pushed [] x (suc k) y is = absurd (none-some y is)
get_pushed (z ∷ xs) x zero y is = inl is
get_pushed (z ∷ xs) x (suc k) y is = at (get_pushed xs x k y is)
  where
    at : (slice_get xs k ≡ Some y) ⊎ ((k ≡ length xs) × (x ≡ y)) → (slice_get (z ∷ xs) (suc k) ≡ Some y) ⊎ ((suc k ≡ length (z ∷ xs)) × (x ≡ y))
    at (inl e) = inl e
    at (inr e) = inr (ap suc e.0, e.1)

own_of : (rows : List Row) → HaveOwnOrdinals rows → (k : ℕ) (r : Row) → slice_get rows k ≡ Some r → position (has_ordinal r.sequence.ordinal) rows ≡ Some k
own_of rows own k r is = subst (λ (o : Option Row). IfSome o (λ row. position (has_ordinal row.sequence.ordinal) rows ≡ Some k)) is (own k)

own_from : (rows : List Row) → ((k : ℕ) (r : Row) → slice_get rows k ≡ Some r → position (has_ordinal r.sequence.ordinal) rows ≡ Some k) → HaveOwnOrdinals rows
own_from rows own k = at (slice_get rows k) refl
  where
    at : (o : Option Row) → slice_get rows k ≡ o → IfSome o (λ row. position (has_ordinal row.sequence.ordinal) rows ≡ Some k)
    at None is = tt
    at (Some r) is = own k r is

pub own_on : {S : Type 0} (rows : List Row) (r : Row) (m n : Table S) (number : ℕ) → LeadsTo rows m → IsEntered m n r.sequence.ordinal number
    → index_map_len m ≤ length rows → index_map_len n ≤ index_map_len m + 1 → (length rows ≤ index_map_len m → HaveOwnOrdinals rows)
    → length (rows ++ r ∷ []) ≤ index_map_len n → HaveOwnOrdinals (rows ++ r ∷ [])
own_on rows r m n number leads h few grows own all = own_from (rows ++ r ∷ []) (λ k x is. at k x (get_pushed rows r k x is))
  where
    long : length (rows ++ r ∷ []) ≡ length rows + 1
    long = length_push rows r

    none : position (has_ordinal r.sequence.ordinal) rows ≡ None
    none = sym (leads r.sequence.ordinal) ∙ h.own (let e : length (rows ++ r ∷ []) ≡ length rows + 1 = length_push rows r in omega (arith, few, all, e))

    itself : has_ordinal r.sequence.ordinal r ≡ true
    itself = grind (arith, nat_tests)

    at : (k : ℕ) (x : Row) → (slice_get rows k ≡ Some x) ⊎ ((k ≡ length rows) × (r ≡ x)) → position (has_ordinal x.sequence.ordinal) (rows ++ r ∷ []) ≡ Some k
    at k x (inl is) =
        position_joined (has_ordinal x.sequence.ordinal) rows (r ∷ []) k
        (own_of rows (own (let e : length (rows ++ r ∷ []) ≡ length rows + 1 = length_push rows r in omega (arith, grows, all, e))) k x is)
    at k x (inr e) =
        subst (λ (y : Row). position (has_ordinal y.sequence.ordinal) (rows ++ r ∷ []) ≡ Some k) e.1
        (position_behind (has_ordinal r.sequence.ordinal) rows (r ∷ []) (none_passes (has_ordinal r.sequence.ordinal) rows none)
        ∙ (ap (option_map (λ j. length rows + j)) (position_step (has_ordinal r.sequence.ordinal) r [] ∙ ap (λ b. cond b (Some 0) None) itself)
        ∙ ap Some (omega (arith, e.0))))

-- a row joins the others
pub numbered_more : {S : Type 0} (rows : List Row) (r : Row) (most number : ℕ) (m n : Table S) → number ≡ length rows → IsEntered m n r.sequence.ordinal number
    → index_map_len n ≤ index_map_len m + 1 → index_map_len m + spare m ≤ index_map_len n + spare n → AreNumbered rows most m → AreNumbered (rows ++ r ∷ []) most n
numbered_more rows r most number m n is entered few room h = record {
  leads = leads_on rows r m n number h.leads is entered;
  few = let e : length (rows ++ r ∷ []) ≡ length rows + 1 = length_push rows r in omega (arith, few, h.few, e);
  own = own_on rows r m n number h.leads entered h.few few h.own;
  room = omega (arith, room, h.room);
}

own_same : (rows others : List Row) → map (λ (r : Row). r.sequence.ordinal) others ≡ map (λ (r : Row). r.sequence.ordinal) rows → HaveOwnOrdinals rows → HaveOwnOrdinals others
own_same rows others same own = own_from others (λ k x is. at k x (slice_get rows k) refl (seen k x is))
  where
    seen : (k : ℕ) (x : Row) → slice_get others k ≡ Some x → option_map (λ (r : Row). r.sequence.ordinal) (slice_get rows k) ≡ Some x.sequence.ordinal
    seen k x is =
        sym (slice_get-map (λ (r : Row). r.sequence.ordinal) rows k)
        ∙ (ap (λ (os : List ℕ). slice_get os k) (sym same)
        ∙ (slice_get-map (λ (r : Row). r.sequence.ordinal) others k ∙ ap (option_map (λ (r : Row). r.sequence.ordinal)) is))

    at : (k : ℕ) (x : Row) (o : Option Row) → slice_get rows k ≡ o → option_map (λ (r : Row). r.sequence.ordinal) o ≡ Some x.sequence.ordinal
        → position (has_ordinal x.sequence.ordinal) others ≡ Some k
    at k x None is e = absurd (none-some x.sequence.ordinal e)
    at k x (Some y) is e =
        let ordinal_of : Row → ℕ = λ r. r.sequence.ordinal in
        sym (position_map ordinal_of (λ n. n == x.sequence.ordinal) others)
        ∙ (ap (λ (ns : List ℕ). position (λ n. n == x.sequence.ordinal) ns) same
        ∙ (position_map ordinal_of (λ n. n == x.sequence.ordinal) rows
        ∙ (ap (λ n. position (has_ordinal n) rows) (sym (same_Some y.sequence.ordinal x.sequence.ordinal e)) ∙ own_of rows own k y is)))

-- other rows with the same ordinals
numbered_same : {S : Type 0} (rows others : List Row) (most : ℕ) (m : Table S)
    → map (λ (r : Row). r.sequence.ordinal) others ≡ map (λ (r : Row). r.sequence.ordinal) rows → AreNumbered rows most m → AreNumbered others most m
numbered_same rows others most m same h =
    let ordinal_of : Row → ℕ = λ r. r.sequence.ordinal in
    let e : length others ≡ length rows = sym (length-map others ordinal_of) ∙ (ap length same ∙ length-map rows ordinal_of) in
    record {
      leads = λ o. h.leads o
          ∙ (sym (position_map ordinal_of (λ n. n == o) rows)
          ∙ (ap (λ (ns : List ℕ). position (λ n. n == o) ns) (sym same)
          ∙ position_map ordinal_of (λ n. n == o) others));
      few = omega (arith, h.few, e);
      own = λ all. own_same rows others same (h.own (omega (arith, e, all)));
      room = h.room;
    }

-- one of them is written, and its ordinal stays
pub numbered_written : {S : Type 0} (items : List OutRow) (k : ℕ) (x y : OutRow) (most : ℕ) (m : Table S) → slice_get items k ≡ Some x
    → y.sequence.ordinal ≡ x.sequence.ordinal → AreNumbered (map row_of items) most m → AreNumbered (map row_of (set items k y)) most m
numbered_written items k x y most m is same h =
    let ordinal_of : Row → ℕ = λ r. r.sequence.ordinal in
    numbered_same (map row_of items) (map row_of (set items k y)) most m
    (ap (map ordinal_of) (map-set row_of items k y)
    ∙ (map-set ordinal_of (map row_of items) k (row_of y)
    ∙ set_same (map ordinal_of (map row_of items)) k y.sequence.ordinal
    (slice_get-map ordinal_of (map row_of items) k
    ∙ (ap (option_map ordinal_of) (slice_get-map row_of items k ∙ ap (option_map row_of) is) ∙ ap Some (sym same))))) h

-- the next one of the first rows of a list
pub leads_next : {S : Type 0} (items : List OutRow) (k : ℕ) (x : OutRow) (m n : Table S) → LeadsTo (map row_of (take k items)) m → slice_get items k ≡ Some x
    → IsEntered m n x.sequence.ordinal k → LeadsTo (map row_of (take (k + 1) items)) n
leads_next items k x m n leads is entered =
    let within : k < length items = slice_get_within items k x is in
    let long : k ≡ length (map row_of (take k items)) = sym (length-map (take k items) row_of ∙ length-take-le k items (omega (arith, within))) in
    let more : take (k + 1) items ≡ take k items ++ x ∷ [] =
    take_more items k x within ∙ ap (λ (y : OutRow). take k items ++ y ∷ []) (get_or_from_slice_get items k x x is) in
    subst (λ (rs : List Row). LeadsTo rs n) (sym (ap (map row_of) more ∙ map-append row_of (take k items) (x ∷ [])))
    (leads_on (map row_of (take k items)) (row_of x) m n k leads long entered)

pub own_next : {S : Type 0} (items : List OutRow) (k : ℕ) (x : OutRow) (m n : Table S) → LeadsTo (map row_of (take k items)) m → slice_get items k ≡ Some x
    → IsEntered m n x.sequence.ordinal k → index_map_len m ≤ k → index_map_len n ≤ index_map_len m + 1 → (k ≤ index_map_len m → HaveOwnOrdinals (map row_of (take k items)))
    → k + 1 ≤ index_map_len n → HaveOwnOrdinals (map row_of (take (k + 1) items))
own_next items k x m n leads is entered few grows own all =
    let within : k < length items = slice_get_within items k x is in
    let first : List Row = map row_of (take k items) in
    let long : length first ≡ k = length-map (take k items) row_of ∙ length-take-le k items (omega (arith, within)) in
    let pushed : length (first ++ row_of x ∷ []) ≡ length first + 1 = length_push first (row_of x) in
    let more : take (k + 1) items ≡ take k items ++ x ∷ [] =
    take_more items k x within ∙ ap (λ (y : OutRow). take k items ++ y ∷ []) (get_or_from_slice_get items k x x is) in
    subst HaveOwnOrdinals (sym (ap (map row_of) more ∙ map-append row_of (take k items) (x ∷ [])))
    (own_on first (row_of x) m n k leads entered (omega (arith, few, long)) grows (λ h. own (omega (arith, h, long))) (omega (arith, all, long, pushed)))
