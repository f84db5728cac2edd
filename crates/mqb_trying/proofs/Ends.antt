-- How far sequences have come once a message joined one.
use Rattle.std.proofs.Common.{refl, ap, sym, subst, ◌∙◌, ◌⊎◌, inl, inr, arith, append_assoc}
use Rattle.std.proofs.lemmas.Bool.Decides.{nat_tests}
use Rattle.std.proofs.lemmas.List.{map-append}
use Rattle.std.proofs.lemmas.List.Elements.{filter-append}
use Rattle.std.proofs.lemmas.Option.{none-some, same_Some}
use Rattle.std.specs.List.{AllByRecursion, last_or}
use Rattle.std.specs.Option.{option_map_or}
use Rattle.std.specs.Prelude.{[], ◌++◌, ◌+◌, ◌<◌, ◌==◌, ◌∷◌, ◌≡◌, Bool, List, None, Option, Some, cond, false, filter, map, option_map, position, set, slice_get, suc, true, ℕ}
use Rattle.mqb_base.specs.declared.message.Message.{Message}
use Rattle.mqb_orders.specs.Rows.{Row, leads_to}
use Rattle.mqb_orders.specs.declared.keys.OutKey.{OutKey}
use Rattle.mqb_queue.proofs.Positions.{position_step}
use Rattle.mqb_contents.specs.mqb_tables.Keys.{same_out_key}
use Rattle.mqb_contents.proofs.mqb_tables.Lasts.{last_pushed}
use Rattle.mqb_contents.proofs.mqb_tables.Names.{same_out_key_is}
use Rattle.mqb_model.specs.Lists.{with_changed, with_first_changed}
use Rattle.mqb_model.specs.rules.Sequences.{with_kept}
use Rattle.mqb_model.specs.state.Rows.{has_ordinal}
use Rattle.mqb_trying.specs.Sends.{end_of}

-- the ordinals of rows
abbrev pub ordinal_of : Row → ℕ
ordinal_of row = row.sequence.ordinal

-- They rise, up to the next one.
abbrev pub Rise : ℕ → List ℕ → Type 0
Rise next [] = Unit {0}
Rise next (n ∷ ns) = (n < next) × AllByRecursion (λ m. n < m) ns × Rise next ns

all_pushed : (n m : ℕ) (ns : List ℕ) → AllByRecursion (λ x. n < x) ns → n < m → AllByRecursion (λ x. n < x) (ns ++ m ∷ [])
all_pushed n m [] h lt = (lt, tt)
all_pushed n m (x ∷ ns) h lt = (h.0, all_pushed n m ns h.1 lt)

-- the next one joins them
pub rise_more : (next : ℕ) (ns : List ℕ) → Rise next ns → Rise (next + 1) (ns ++ next ∷ [])
rise_more next [] h = (omega arith, tt, tt)
rise_more next (n ∷ ns) h = let lt : n < next = h.0 in (omega (arith, lt), all_pushed n next ns h.1 h.0, rise_more next ns h.2)

-- The first row that passes is changed.

pub first_cons : (change : Row → Row) (p : Row → Bool) (r : Row) (rs : List Row) → with_first_changed change p (r ∷ rs) ≡ cond (p r) (change r ∷ rs) (r ∷ with_first_changed change p rs)
first_cons change p r rs = ap (λ o. option_map_or (with_changed change (r ∷ rs)) o (r ∷ rs)) (position_step p r rs) ∙ at (p r) (position p rs)
  where
    later : (i : ℕ) (o : Option Row) → slice_get rs i ≡ o
        → option_map_or (λ x. set (r ∷ rs) (suc i) (change x)) o (r ∷ rs) ≡ r ∷ option_map_or (λ x. set rs i (change x)) o rs
    later i None e = refl
    later i (Some x) e = refl

    at : (b : Bool) (o : Option ℕ) → option_map_or (with_changed change (r ∷ rs)) (cond b (Some 0) (option_map (λ i. suc i) o)) (r ∷ rs)
        ≡ cond b (change r ∷ rs) (r ∷ option_map_or (with_changed change rs) o rs)
    at true o = refl
    at false None = refl
    at false (Some i) = later i (slice_get rs i) refl

-- A row among others, none of which before it has its ordinal, and none behind it its destination.

pub record IsLast (passes : Row → Bool) (rows : List Row) (row : Row) : Type 0 where
  pub before : List Row
  pub behind : List Row
  pub split : rows ≡ before ++ row ∷ behind
  pub itself : passes row ≡ true
  pub others : AllByRecursion (λ r. passes r ≡ false) behind

last_or_none : (passes : Row → Bool) (rows : List Row) (o : Option Row) (row : Row) → last_or o (filter passes rows) ≡ Some row
    → ((o ≡ Some row) × AllByRecursion (λ r. passes r ≡ false) rows) ⊎ IsLast passes rows row
last_or_none passes [] o row e = inl (e, tt)
last_or_none passes (r ∷ rs) o row e = at (passes r) refl e (λ o. last_or_none passes rs o row)
  where
    at : (b : Bool) → passes r ≡ b → last_or o (cond b (r ∷ filter passes rs) (filter passes rs)) ≡ Some row
        → ((o : Option Row) → last_or o (filter passes rs) ≡ Some row → ((o ≡ Some row) × AllByRecursion (λ r. passes r ≡ false) rs) ⊎ IsLast passes rs row)
        → ((o ≡ Some row) × AllByRecursion (λ r. passes r ≡ false) (r ∷ rs)) ⊎ IsLast passes (r ∷ rs) row
    at true p e more = here (more (Some r) e)
      where
        here : ((Some r ≡ Some row) × AllByRecursion (λ r. passes r ≡ false) rs) ⊎ IsLast passes rs row → ((o ≡ Some row) × AllByRecursion (λ r. passes r ≡ false) (r ∷ rs)) ⊎ IsLast passes (r ∷ rs) row
        here (inl h) = inr (record { before = []; behind = rs; split = ap (λ x. x ∷ rs) (same_Some r row h.0); itself = subst (λ x. passes x ≡ true) (same_Some r row h.0) p; others = h.1 })
        here (inr h) = inr (record { before = r ∷ h.before; behind = h.behind; split = ap (λ xs. r ∷ xs) h.split; itself = h.itself; others = h.others })
    at false p e more = there (more o e)
      where
        there : ((o ≡ Some row) × AllByRecursion (λ r. passes r ≡ false) rs) ⊎ IsLast passes rs row → ((o ≡ Some row) × AllByRecursion (λ r. passes r ≡ false) (r ∷ rs)) ⊎ IsLast passes (r ∷ rs) row
        there (inl h) = inl (h.0, (p, h.1))
        there (inr h) = inr (record { before = r ∷ h.before; behind = h.behind; split = ap (λ xs. r ∷ xs) h.split; itself = h.itself; others = h.others })

pub last_splits : (passes : Row → Bool) (rows : List Row) (row : Row) → last_or None (filter passes rows) ≡ Some row → IsLast passes rows row
last_splits passes rows row e = at (last_or_none passes rows None row e)
  where
    at : ((None ≡ Some row) × AllByRecursion (λ r. passes r ≡ false) rows) ⊎ IsLast passes rows row → IsLast passes rows row
    at (inl h) = absurd (none-some row h.0)
    at (inr h) = h

differ : (a b : ℕ) → a < b → (a == b) ≡ false
differ a b lt = grind (arith, nat_tests)

same_as : (a : ℕ) → (a == a) ≡ true
same_as a = grind (arith, nat_tests)

below : (n m : ℕ) (before behind : List ℕ) → AllByRecursion (λ x. n < x) (before ++ m ∷ behind) → n < m
below n m [] behind h = h.0
below n m (x ∷ before) behind h = below n m before behind h.1

-- where ordinals rise, that row is the one that is changed
pub changed_there : (change : Row → Row) (next : ℕ) (before : List Row) (row : Row) (behind : List Row) → Rise next (map ordinal_of (before ++ row ∷ behind))
    → with_first_changed change (has_ordinal (ordinal_of row)) (before ++ row ∷ behind) ≡ before ++ change row ∷ behind
changed_there change next [] row behind h = first_cons change (has_ordinal (ordinal_of row)) row behind
    ∙ ap (λ b. cond b (change row ∷ behind) (row ∷ with_first_changed change (has_ordinal (ordinal_of row)) behind)) (same_as (ordinal_of row))
changed_there change next (r ∷ before) row behind h = first_cons change (has_ordinal (ordinal_of row)) r (before ++ row ∷ behind)
    ∙ ap (λ b. cond b (change r ∷ before ++ row ∷ behind) (r ∷ with_first_changed change (has_ordinal (ordinal_of row)) (before ++ row ∷ behind)))
    (differ (ordinal_of r) (ordinal_of row) (below (ordinal_of r) (ordinal_of row) (map ordinal_of before) (map ordinal_of behind)
    (subst (AllByRecursion (λ x. ordinal_of r < x)) (map-append ordinal_of before (row ∷ behind)) h.1)))
    ∙ ap (λ rows. r ∷ rows) (changed_there change next before row behind h.2)

-- the ordinals stay
pub ordinals_stay : (change : Row → Row) (before : List Row) (row : Row) (behind : List Row) → ordinal_of (change row) ≡ ordinal_of row
    → map ordinal_of (before ++ change row ∷ behind) ≡ map ordinal_of (before ++ row ∷ behind)
ordinals_stay change [] row behind same = ap (λ n. n ∷ map ordinal_of behind) same
ordinals_stay change (r ∷ before) row behind same = ap (λ ns. ordinal_of r ∷ ns) (ordinals_stay change before row behind same)

-- The last row to each destination.

last_append : {X : Type 0} (o : Option X) (xs ys : List X) → last_or o (xs ++ ys) ≡ last_or (last_or o xs) ys
last_append o [] ys = refl
last_append o (x ∷ xs) ys = last_append (Some x) xs ys

last_middle : (p : Row → Bool) (before : List Row) (x : Row) (behind : List Row)
    → last_or None (filter p (before ++ x ∷ behind)) ≡ last_or (cond (p x) (Some x) (last_or None (filter p before))) (filter p behind)
last_middle p before x behind =
    ap (λ xs. last_or None (filter p xs)) (sym (append_assoc before (x ∷ []) behind))
    ∙ ap (λ xs. last_or None xs) (filter-append p (before ++ x ∷ []) behind)
    ∙ last_append None (filter p (before ++ x ∷ [])) (filter p behind)
    ∙ ap (λ o. last_or o (filter p behind)) (last_pushed p before x)

no_more : (p : Row → Bool) (o : Option Row) (rows : List Row) → AllByRecursion (λ r. p r ≡ false) rows → last_or o (filter p rows) ≡ o
no_more p o [] h = refl
no_more p o (r ∷ rows) h = ap (λ b. last_or o (cond b (r ∷ filter p rows) (filter p rows))) h.0 ∙ no_more p o rows h.1

abbrev pub of : OutKey → Row → Bool
of key row = leads_to key.peer key.destination row

abbrev pub key_of : Row → OutKey
key_of row = record { peer = row.peer; destination = row.destination }

-- the last row of a key came to another end, and those of all other keys stay as they are
pub ends_changed : (before : List Row) (row : Row) (behind : List Row) (m : Message) (own key : OutKey) → of own row ≡ true → AllByRecursion (λ r. of own r ≡ false) behind
    → option_map end_of (last_or None (filter (of key) (before ++ with_kept m row ∷ behind)))
    ≡ cond (same_out_key own key) (Some (row.sequence, row.committed + 1)) (option_map end_of (last_or None (filter (of key) (before ++ row ∷ behind))))
ends_changed before row behind m own key leads others =
    ap (option_map end_of) (last_middle (of key) before (with_kept m row) behind)
    ∙ at (same_out_key own key) refl
    ∙ sym (ap (λ o. cond (same_out_key own key) (Some (row.sequence, row.committed + 1)) (option_map end_of o)) (last_middle (of key) before row behind))
  where
    old : Option Row
    old = last_or None (filter (of key) before)

    passes : of key row ≡ same_out_key own key
    passes = ap (λ k. same_out_key k key) (same_out_key_is (key_of row) own leads)

    at : (b : Bool) → same_out_key own key ≡ b
        → option_map end_of (last_or (cond (of key row) (Some (with_kept m row)) old) (filter (of key) behind))
        ≡ cond (same_out_key own key) (Some (row.sequence, row.committed + 1)) (option_map end_of (last_or (cond (of key row) (Some row) old) (filter (of key) behind)))
    at true e = ap (λ b. option_map end_of (last_or (cond b (Some (with_kept m row)) old) (filter (of key) behind))) (passes ∙ e)
        ∙ ap (option_map end_of) (no_more (of key) (Some (with_kept m row)) behind (subst (λ k. AllByRecursion (λ r. of k r ≡ false) behind) (same_out_key_is own key e) others))
        ∙ sym (ap (λ b. cond b (Some (row.sequence, row.committed + 1)) (option_map end_of (last_or (cond (of key row) (Some row) old) (filter (of key) behind)))) e)
    at false e = ap (λ b. option_map end_of (last_or (cond b (Some (with_kept m row)) old) (filter (of key) behind))) (passes ∙ e)
        ∙ sym (ap (λ b. option_map end_of (last_or (cond b (Some row) old) (filter (of key) behind))) (passes ∙ e))
        ∙ sym (ap (λ b. cond b (Some (row.sequence, row.committed + 1)) (option_map end_of (last_or (cond (of key row) (Some row) old) (filter (of key) behind)))) e)

-- a row joins the others
pub ends_pushed : (rows : List Row) (row : Row) (key : OutKey)
    → option_map end_of (last_or None (filter (of key) (rows ++ row ∷ [])))
    ≡ cond (same_out_key (key_of row) key) (Some (end_of row)) (option_map end_of (last_or None (filter (of key) rows)))
ends_pushed rows row key = ap (option_map end_of) (last_pushed (of key) rows row) ∙ at (of key row)
  where
    at : (b : Bool) → option_map end_of (cond b (Some row) (last_or None (filter (of key) rows))) ≡ cond b (Some (end_of row)) (option_map end_of (last_or None (filter (of key) rows)))
    at true = refl
    at false = refl
