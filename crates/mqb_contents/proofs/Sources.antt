-- A table of the sources and destinations of incoming rows.
use Rattle.std.proofs.Common.{◌≡◌, ℕ, ◌+◌, ◌-◌, ◌<◌, Bool, true, false, cond, List, [], ◌∷◌, ◌++◌, length, get_or, map, set, take, drop, Option, Some, None, refl, sym, ap, ◌∙◌, subst, true≢false, arith}
use Rattle.std.specs.List.{position}
use Rattle.std.specs.Option.{option_map, option_map_or}
use Rattle.std.specs.Prelude.{IfSome, slice_get}
use Rattle.std.proofs.lemmas.List.{map-set, take-append-drop}
use Rattle.std.proofs.lemmas.List.Quantifiers.{position-Some}
use Rattle.std.proofs.lemmas.Option.{none-some, same_Some, slice_get-get_or, slice_get-map, slice_get_within}
use Rattle.indexmap.specs.IndexMap.{IndexMap, get, keys}
use Rattle.mqb_tables.specs.mqb_model.state.Rows.{is_row_of}
use Rattle.mqb_orders.specs.declared.keys.InKey.{InKey}
use Rattle.mqb_orders.specs.declared.rows.InRow.{InRow}
use Rattle.mqb_queue.proofs.Positions.{none_passes, position_behind, position_joined, position_map, position_step}
use Rattle.mqb_tables.specs.Keys.{HasKey, same_in_key}
use Rattle.mqb_tables.proofs.Keyed.{key_of_number}
use Rattle.mqb_tables.proofs.Names.{same_in_key_is, same_in_key_refl}
use Rattle.mqb_tables.specs.Ends.{without_last}
use Rattle.mqb_tables.specs.Tables.{LeadsToSource}
use Rattle.mqb_tables.proofs.Members.{all_at, set_same}

abbrev pub Sources : Type 0 → Type 0
Sources S = IndexMap InKey ℕ S

abbrev pub key_of : InRow → InKey
key_of row = record { source = row.source; destination = row.destination }

abbrev of : InKey → InRow → Bool
of key row = is_row_of key.source key.destination row

abbrev Leads : {S : Type 0} → Sources S → InKey → Option ℕ → Type 0
Leads m key o = IfSome o (λ k. get same_in_key m key ≡ Some k)

-- a row joins the others, the first of its key
pub sources_more : {S : Type 0} (rows : List InRow) (r : InRow) (number : ℕ) (m n : Sources S) → number ≡ length rows → position (of (key_of r)) rows ≡ None
    → ((key : InKey) → get same_in_key n key ≡ cond (same_in_key (key_of r) key) (Some number) (get same_in_key m key))
    → LeadsToSource rows m → LeadsToSource (rows ++ r ∷ []) n
sources_more {S} rows r number m n is new updates leads key = at (position (of key) rows) refl (of key r) refl
  where
    at : (o : Option ℕ) → position (of key) rows ≡ o → (b : Bool) → of key r ≡ b → Leads n key (position (of key) (rows ++ r ∷ []))
    at (Some k) there true same =
        absurd (none-some k (sym new ∙ (ap (λ (j : InKey). position (of j) rows) (same_in_key_is (key_of r) key same) ∙ there)))
    at (Some k) there false same =
        subst (Leads n key) (sym (position_joined (of key) rows (r ∷ []) k there))
        (updates key ∙ (ap (λ b. cond b (Some number) (get same_in_key m key)) same ∙ subst (Leads m key) there (leads key)))
    at None none b same =
        subst (Leads n key) (sym (position_behind (of key) rows (r ∷ []) (none_passes (of key) rows none)
        ∙ ap (option_map (λ k. length rows + k)) (position_step (of key) r [] ∙ ap (λ c. cond c (Some 0) None) same))) (last b same)
      where
        last : (b : Bool) → of key r ≡ b → Leads n key (option_map (λ k. length rows + k) (cond b (Some 0) None))
        last false e = tt
        last true e = updates key ∙ (ap (λ b. cond b (Some number) (get same_in_key m key)) e ∙ ap Some (omega (arith, is)))

-- or behind one that has its key
pub sources_again : {S : Type 0} (rows : List InRow) (r : InRow) (j : ℕ) (m : Sources S) → position (of (key_of r)) rows ≡ Some j
    → LeadsToSource rows m → LeadsToSource (rows ++ r ∷ []) m
sources_again {S} rows r j m known leads key = at (position (of key) rows) refl (of key r) refl
  where
    at : (o : Option ℕ) → position (of key) rows ≡ o → (b : Bool) → of key r ≡ b → Leads m key (position (of key) (rows ++ r ∷ []))
    at (Some k) there b same = subst (Leads m key) (sym (position_joined (of key) rows (r ∷ []) k there)) (subst (Leads m key) there (leads key))
    at None none true same =
        absurd (none-some j (sym none ∙ (ap (λ (i : InKey). position (of i) rows) (sym (same_in_key_is (key_of r) key same)) ∙ known)))
    at None none false same =
        subst (Leads m key) (sym (position_behind (of key) rows (r ∷ []) (none_passes (of key) rows none)
        ∙ ap (option_map (λ k. length rows + k)) (position_step (of key) r [] ∙ ap (λ c. cond c (Some 0) None) same))) tt

-- the last one leaves
pub sources_fewer : {S : Type 0} (rows : List InRow) (m : Sources S) → LeadsToSource rows m → LeadsToSource (without_last rows) m
sources_fewer {S} rows m leads key = at (position (of key) (without_last rows)) refl
  where
    whole : take (length rows - 1) rows ++ drop (length rows - 1) rows ≡ rows
    whole = take-append-drop (length rows - 1) rows

    at : (o : Option ℕ) → position (of key) (without_last rows) ≡ o → Leads m key o
    at None none = tt
    at (Some k) there =
        subst (Leads m key) (ap (position (of key)) (sym whole) ∙ position_joined (of key) (without_last rows) (drop (length rows - 1) rows) k there) (leads key)

-- one of them is written, and its key stays
pub sources_written : {S : Type 0} (rows : List InRow) (k : ℕ) (x y : InRow) (m : Sources S) → slice_get rows k ≡ Some x → key_of y ≡ key_of x
    → LeadsToSource rows m → LeadsToSource (set rows k y) m
sources_written {S} rows k x y m is same leads key =
    let has : InKey → Bool = λ j. same_in_key j key in
    let seen : map key_of (set rows k y) ≡ map key_of rows =
    map-set key_of rows k y ∙ (ap (set (map key_of rows) k) same ∙ set_same (map key_of rows) k (key_of x) (slice_get-map key_of rows k ∙ ap (option_map key_of) is)) in
    subst (Leads m key) (sym (position_map key_of has rows) ∙ (ap (position has) (sym seen) ∙ position_map key_of has (set rows k y))) (leads key)

some_position : {X : Type 0} (p : X → Bool) (xs : List X) (k : ℕ) (x : X) → slice_get xs k ≡ Some x → p x ≡ true → (j : ℕ) × (position p xs ≡ Some j)
some_position {X} p xs k x is passes = at (position p xs) refl
  where
    at : (o : Option ℕ) → position p xs ≡ o → (j : ℕ) × (position p xs ≡ Some j)
    at None none = absurd (true≢false (sym passes ∙ all_at (λ y. p y ≡ false) xs k x is (none_passes p xs none)))
    at (Some j) there = (j, there)

-- what a search finds
pub position_there : {X : Type 0} (p : X → Bool) (xs : List X) (k : ℕ) → position p xs ≡ Some k → (x : X) × (slice_get xs k ≡ Some x) × (p x ≡ true)
position_there p [] k is = absurd (none-some k is)
position_there p (x ∷ xs) k is = let f = position-Some p (x ∷ xs) k x is in (get_or (x ∷ xs) k x, slice_get-get_or (x ∷ xs) k x f.0, f.1)

-- the table has the key of each row
pub key_is_there : {S : Type 0} (rows : List InRow) (k : ℕ) (r : InRow) (m : Sources S) → slice_get rows k ≡ Some r → LeadsToSource rows m → HasKey same_in_key (keys m) (key_of r)
key_is_there rows k r m is leads =
    let j = some_position (of (key_of r)) rows k r is (same_in_key_refl (key_of r)) in
    key_of_number same_in_key m (key_of r) j.0 (subst (Leads m (key_of r)) j.1 (leads (key_of r)))

-- the number that the table gives is a row's, or no row has the key
module _ {S : Type 0} (rows : List InRow) (key : InKey) (m : Sources S) (leads : LeadsToSource rows m) where
  pub not_entered : get same_in_key m key ≡ None → position (of key) rows ≡ None
  not_entered none = at (position (of key) rows) (leads key)
    where
      at : (o : Option ℕ) → Leads m key o → o ≡ None
      at None h = refl
      at (Some k) h = absurd (none-some k (sym none ∙ h))

  pub entered_row : (n : ℕ) → get same_in_key m key ≡ Some n → option_map_or (of key) (slice_get rows n) false ≡ true → position (of key) rows ≡ Some n
  entered_row n is passes = at (slice_get rows n) refl passes
    where
      at : (o : Option InRow) → slice_get rows n ≡ o → option_map_or (of key) o false ≡ true → position (of key) rows ≡ Some n
      at None none h = absurd (true≢false (sym h))
      at (Some r) there h =
          let j = some_position (of key) rows n r there h in
          j.1 ∙ (sym (subst (Leads m key) j.1 (leads key)) ∙ is)

  pub entered_else : (n : ℕ) → get same_in_key m key ≡ Some n → option_map_or (of key) (slice_get rows n) false ≡ false → position (of key) rows ≡ None
  entered_else n is fails = at (position (of key) rows) refl
    where
      at : (o : Option ℕ) → position (of key) rows ≡ o → o ≡ None
      at None none = refl
      at (Some k) there =
          let x = position_there (of key) rows k there in
          let same : n ≡ k = same_Some n k (sym is ∙ subst (Leads m key) there (leads key)) in
          absurd (true≢false (sym (ap (λ i. option_map_or (of key) (slice_get rows i) false) same ∙ (ap (λ (o : Option InRow). option_map_or (of key) o false) x.1 ∙ x.2)) ∙ fails))

-- the search gives a place in the list
pub source_within : (key : InKey) (rows : List InRow) (k : ℕ) → position (of key) rows ≡ Some k → k < length rows
source_within key rows k is = let x = position_there (of key) rows k is in slice_get_within rows k x.0 x.1
