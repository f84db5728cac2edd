-- A table of the peers and destinations of outgoing rows.
use Rattle.std.proofs.Common.{◌≡◌, ℕ, Bool, true, false, cond, List, [], ◌∷◌, ◌++◌, map, set, filter, Option, Some, None, refl, sym, ap, ◌∙◌, subst, true≢false}
use Rattle.std.specs.List.{last_or, position}
use Rattle.std.specs.Option.{option_map, option_map_or}
use Rattle.std.specs.Prelude.{IfSome, nat_eq, slice_get}
use Rattle.std.proofs.lemmas.List.{map-set}
use Rattle.std.proofs.lemmas.Option.{none-some, same_Some, slice_get-map}
use Rattle.indexmap.specs.IndexMap.{IndexMap, get, keys}
use Rattle.mqb_base.specs.Rooms.{Room, WithRooms}
use Rattle.mqb_tables.specs.mqb_model.Lists.{with_changed}
use Rattle.mqb_tables.specs.mqb_model.state.Rows.{has_ordinal}
use Rattle.mqb_orders.specs.Rows.{Row, leads_to, row_of}
use Rattle.mqb_orders.specs.declared.keys.OutKey.{OutKey}
use Rattle.mqb_orders.specs.declared.rows.OutRow.{OutRow}
use Rattle.mqb_tables.specs.Keys.{HasKey, same_out_key}
use Rattle.mqb_tables.proofs.Keyed.{key_of_number}
use Rattle.mqb_tables.proofs.Names.{same_out_key_is, same_out_key_refl}
use Rattle.mqb_tables.specs.Ends.{last_of, without_last}
use Rattle.mqb_contents.specs.Rooms.{OutRooms}
use Rattle.mqb_tables.specs.Rooms.{MemberRooms}
use Rattle.mqb_contents.specs.Seen.{room_of, with_keys}
use Rattle.mqb_tables.specs.Seen.{seen_members}
use Rattle.mqb_tables.specs.Tables.{HaveOwnOrdinals, LeadsTo, LeadsToLast}
use Rattle.mqb_tables.proofs.Lasts.{last_is_there, last_pushed, last_tagged, last_there}
use Rattle.mqb_tables.proofs.Lens.{changed}
use Rattle.mqb_tables.proofs.Members.{set_same, without_last_pushed}

abbrev pub InUse : Type 0 → Type 0
InUse S = IndexMap OutKey ℕ S

abbrev pub key_of : Row → OutKey
key_of row = record { peer = row.peer; destination = row.destination }

abbrev of : OutKey → Row → Bool
of key row = leads_to key.peer key.destination row

abbrev last : OutKey → List Row → Option Row
last key rows = last_or None (filter (of key) rows)

abbrev Leads : {S : Type 0} → InUse S → OutKey → Option Row → Type 0
Leads m key o = IfSome o (λ row. get same_out_key m key ≡ Some row.sequence.ordinal)

-- a row joins the others
pub in_use_more : {S : Type 0} (rows : List Row) (r : Row) (m n : InUse S)
    → ((key : OutKey) → get same_out_key n key ≡ cond (same_out_key (key_of r) key) (Some r.sequence.ordinal) (get same_out_key m key))
    → LeadsToLast rows m → LeadsToLast (rows ++ r ∷ []) n
in_use_more {S} rows r m n updates leads key = subst (Leads n key) (sym (last_pushed (of key) rows r)) (at (of key r) refl)
  where
    old : (b : Bool) → of key r ≡ b → get same_out_key n key ≡ cond b (Some r.sequence.ordinal) (get same_out_key m key)
    old b e = updates key ∙ ap (λ c. cond c (Some r.sequence.ordinal) (get same_out_key m key)) e

    others : (o : Option Row) → of key r ≡ false → Leads m key o → Leads n key o
    others None e h = tt
    others (Some x) e h = old false e ∙ h

    at : (b : Bool) → of key r ≡ b → Leads n key (cond (of key r) (Some r) (last key rows))
    at true e = subst (λ c. Leads n key (cond c (Some r) (last key rows))) (sym e) (old true e)
    at false e = subst (λ c. Leads n key (cond c (Some r) (last key rows))) (sym e) (others (last key rows) e (leads key))

-- the last one leaves, and the table leads back from its key
pub in_use_fewer : {S : Type 0} (rows : List Row) (r : Row) (m n : InUse S) → last_of rows ≡ Some r
    → IfSome (last (key_of r) (without_last rows)) (λ row. get same_out_key n (key_of r) ≡ Some row.sequence.ordinal)
    → ((key : OutKey) → same_out_key (key_of r) key ≡ false → get same_out_key n key ≡ get same_out_key m key)
    → LeadsToLast rows m → LeadsToLast (without_last rows) n
in_use_fewer {S} rows r m n is back others leads key = at (of key r) refl
  where
    before : last key rows ≡ cond (of key r) (Some r) (last key (without_last rows))
    before = ap (last key) (sym (without_last_pushed rows r is)) ∙ last_pushed (of key) (without_last rows) r

    stays : (o : Option Row) → of key r ≡ false → Leads m key o → Leads n key o
    stays None e h = tt
    stays (Some x) e h = others key e ∙ h

    at : (b : Bool) → of key r ≡ b → Leads n key (last key (without_last rows))
    at true e = subst (λ (k : OutKey). Leads n k (last k (without_last rows))) (same_out_key_is (key_of r) key e) back
    at false e = stays (last key (without_last rows)) e (subst (Leads m key) (before ∙ ap (λ c. cond c (Some r) (last key (without_last rows))) e) (leads key))

-- other rows that have the same keys and ordinals
abbrev pub tag : Row → OutKey × ℕ
tag row = (key_of row, row.sequence.ordinal)

in_use_same : {S : Type 0} (rows others : List Row) (m : InUse S) → map tag others ≡ map tag rows → LeadsToLast rows m → LeadsToLast others m
in_use_same {S} rows others m same leads key = at (last key others) (last key rows) seen (leads key)
  where
    has : OutKey × ℕ → Bool
    has t = same_out_key t.0 key

    seen : option_map tag (last key others) ≡ option_map tag (last key rows)
    seen = sym (last_tagged tag (λ t. same_out_key t.0 key) others) ∙ (ap (λ (ts : List (OutKey × ℕ)). last_or None (filter (λ t. same_out_key t.0 key) ts)) same
        ∙ last_tagged tag (λ t. same_out_key t.0 key) rows)

    at : (o p : Option Row) → option_map tag o ≡ option_map tag p → Leads m key p → Leads m key o
    at None p e h = tt
    at (Some x) None e h = absurd (none-some (tag x) (sym e))
    at (Some x) (Some y) e h = h ∙ ap (λ (o : Option (OutKey × ℕ)). option_map (λ t. t.1) o) (sym e)

-- one of them is written, and its key and its ordinal stay
pub in_use_written : {S : Type 0} (items : List OutRow) (k : ℕ) (x y : OutRow) (m : InUse S) → slice_get items k ≡ Some x
    → tag (row_of y) ≡ tag (row_of x) → LeadsToLast (map row_of items) m → LeadsToLast (map row_of (set items k y)) m
in_use_written items k x y m is same leads =
    in_use_same (map row_of items) (map row_of (set items k y)) m
    (ap (map tag) (map-set row_of items k y)
    ∙ (map-set tag (map row_of items) k (row_of y)
    ∙ set_same (map tag (map row_of items)) k (tag (row_of y))
    (slice_get-map tag (map row_of items) k
    ∙ (ap (option_map tag) (slice_get-map row_of items k ∙ ap (option_map row_of) is) ∙ ap Some (sym same))))) leads

-- the table has the key of each row
pub key_is_there : {S : Type 0} (rows : List Row) (k : ℕ) (r : Row) (m : InUse S) → slice_get rows k ≡ Some r → LeadsToLast rows m → HasKey same_out_key (keys m) (key_of r)
key_is_there rows k r m is leads =
    let x = last_is_there (of (key_of r)) rows k r is (same_out_key_refl (key_of r)) in
    key_of_number same_out_key m (key_of r) x.0.sequence.ordinal (subst (Leads m (key_of r)) x.1 (leads (key_of r)))

-- ---- the last row by the tables

module _ {S R : Type 0} (rows : List Row) (key : OutKey) (in_use : InUse S) (ordinals : IndexMap ℕ ℕ R) (leads : LeadsToLast rows in_use) (numbers : LeadsTo rows ordinals)
    (own : HaveOwnOrdinals rows) where
  -- where it stands
  at_its_ordinal : (x : Row) → last key rows ≡ Some x → (k : ℕ) × (slice_get rows k ≡ Some x) × (of key x ≡ true) × (get nat_eq ordinals x.sequence.ordinal ≡ Some k)
  at_its_ordinal x is =
      let t = last_there (of key) rows x is in
      let found : position (has_ordinal x.sequence.ordinal) rows ≡ Some t.0 =
      subst (λ (o : Option Row). IfSome o (λ row. position (has_ordinal row.sequence.ordinal) rows ≡ Some t.0)) t.1 (own t.0) in
      (t.0, t.1, t.2, numbers x.sequence.ordinal ∙ found)

  pub none_in_use : get same_out_key in_use key ≡ None → last key rows ≡ None
  none_in_use none = at (last key rows) (leads key)
    where
      at : (o : Option Row) → Leads in_use key o → o ≡ None
      at None h = refl
      at (Some x) h = absurd (none-some x.sequence.ordinal (sym none ∙ h))

  module _ (o : ℕ) (number : get same_out_key in_use key ≡ Some o) where
    its_number : (x : Row) → last key rows ≡ Some x → x.sequence.ordinal ≡ o
    its_number x is = same_Some x.sequence.ordinal o (sym (subst (Leads in_use key) is (leads key)) ∙ number)

    pub none_numbered : get nat_eq ordinals o ≡ None → last key rows ≡ None
    none_numbered none = at (last key rows) refl
      where
        at : (l : Option Row) → last key rows ≡ l → l ≡ None
        at None is = refl
        at (Some x) is = let t = at_its_ordinal x is in absurd (none-some t.0 (sym none ∙ (ap (get nat_eq ordinals) (sym (its_number x is)) ∙ t.3)))

    module _ (n : ℕ) (place : get nat_eq ordinals o ≡ Some n) where
      its_place : (x : Row) → last key rows ≡ Some x → (slice_get rows n ≡ Some x) × (of key x ≡ true)
      its_place x is =
          let t = at_its_ordinal x is in
          let same : n ≡ t.0 = same_Some n t.0 (sym place ∙ (ap (get nat_eq ordinals) (sym (its_number x is)) ∙ t.3)) in
          (ap (slice_get rows) same ∙ t.1, t.2)

      pub last_at_place : option_map_or (of key) (slice_get rows n) false ≡ true → slice_get rows n ≡ last key rows
      last_at_place passes = there (slice_get rows n) refl passes
        where
          there : (r : Option Row) → slice_get rows n ≡ r → option_map_or (of key) r false ≡ true → slice_get rows n ≡ last key rows
          there None is h = absurd (true≢false (sym h))
          there (Some r) is h = let x = last_is_there (of key) rows n r is h in (its_place x.0 x.1).0 ∙ sym x.1

      pub no_last : option_map_or (of key) (slice_get rows n) false ≡ false → last key rows ≡ None
      no_last fails = at (last key rows) refl
        where
          at : (l : Option Row) → last key rows ≡ l → l ≡ None
          at None is = refl
          at (Some x) is =
              let p = its_place x is in
              absurd (true≢false (sym (ap (λ (r : Option Row). option_map_or (of key) r false) p.0 ∙ p.1) ∙ fails))

-- ---- as the rows are seen with the keys of the table

abbrev pub members_of : WithRooms (List Row) OutRooms → WithRooms (List Row) (MemberRooms ℕ)
members_of w = record { lists = w.lists; rooms = w.rooms.members }

module _ (l : Room OutRow) (keys : List OutKey) (s : WithRooms (List Row) OutRooms) (view : with_keys keys (seen_members row_of room_of l) ≡ s) where
  pub members_view : seen_members row_of room_of l ≡ members_of s
  members_view = ap members_of view

  pub rows_changed : (k : ℕ) (x : OutRow) → slice_get l.items k ≡ Some x → (y : OutRow) (change : Row → Row) → row_of y ≡ change (row_of x) → room_of y ≡ room_of x
      → with_keys keys (seen_members row_of room_of (record l { items = set l.items k y })) ≡ record s { lists = with_changed change s.lists k }
  rows_changed k x is y change lists rooms =
      ap (with_keys keys) (changed row_of room_of l (members_of s) (ap members_of view) k x is y change lists rooms)
      ∙ ap (λ (w : WithRooms (List Row) OutRooms). record { lists = with_changed change s.lists k; rooms = record { members = s.rooms.members; keys = w.rooms.keys } }) view
