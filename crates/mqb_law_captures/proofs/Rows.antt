-- What calls of a connection leave of outgoing rows: each keeps its sequence, and what it kept it keeps still, or it is acknowledged.
use Rattle.std.proofs.Common.{refl, ap, sym, subst, ◌∙◌, inl, inr, arith}
use Rattle.std.proofs.lemmas.Bool.Decides.{nat_tests}
use Rattle.std.specs.List.{AllByRecursion}
use Rattle.std.specs.Option.{option_map_or}
use Rattle.std.specs.Prelude.{[], ◌<◌, ◌||◌, ◌∷◌, ◌≡◌, ◌≤◌, ◌⊎◌, Bool, List, None, Option, Some, cond, false, max, nat_lt, option_map, position, remove, slice_get, slice_set, suc, true, zero, ℕ}
use Rattle.mqb_base.specs.Bits.{keeps_dead}
use Rattle.mqb_base.specs.declared.ids.Guid.{Guid}
use Rattle.mqb_base.specs.declared.ids.MessageId.{MessageId}
use Rattle.mqb_base.specs.declared.message.Message.{Message}
use Rattle.mqb_orders.specs.KeptLists.{released}
use Rattle.mqb_orders.specs.Rows.{Row, acknowledged}
use Rattle.mqb_orders.specs.declared.kept.Kept.{Kept}
use Rattle.mqb_session.specs.declared.heads.Kind.{Kind}
use Rattle.mqb_session.specs.declared.heads.Kind.TheVariants as kind
use Rattle.mqb_model.specs.Lists.{first_where, with_changed, with_first_changed, without_first}
use Rattle.mqb_model.specs.records.Finals.{finished_row, is_offered_as}
use Rattle.mqb_model.specs.records.Offered.{with_offered}
use Rattle.mqb_capture.specs.Lawful.{kind_for}
use Rattle.mqb_law_captures.proofs.Lists.{PairsByRecursion, fewer_all, fewer_filter, fewer_pairs, fewer_without, first_cons, position_cons, some_is}

-- a message of this manager, which goes under a kind
abbrev pub IsOwnOf : Guid → Kind → Message → Type 0
IsOwnOf own k m = (m.id.qm ≡ own) × (kind_for m.delivery ≡ k)

-- numbers rise from one to the next
abbrev pub KeptRise : List Kept → Type 0
KeptRise kept = PairsByRecursion (λ (j k : Kept). j.number < k.number) kept

-- a number is kept
abbrev pub HasNumber : ℕ → List Kept → Type 0
HasNumber n [] = ⊥
HasNumber n (k ∷ ks) = (k.number ≡ n) ⊎ HasNumber n ks

-- a number is kept, or acknowledged
abbrev pub IsCovered : ℕ → Row → Type 0
IsCovered n row = (n ≤ row.acked) ⊎ HasNumber n row.kept

pub record RowGoes (own : Guid) (a b : Row) : Type 0 where
  pub sequence : b.sequence ≡ a.sequence
  pub covered : (n : ℕ) → IsCovered n a → IsCovered n b
  pub kept : AllByRecursion (λ (k : Kept). IsOwnOf own kind.Plain k.message) a.kept → AllByRecursion (λ (k : Kept). IsOwnOf own kind.Plain k.message) b.kept
  pub rises : KeptRise a.kept → KeptRise b.kept

row_same : (own : Guid) (a : Row) → RowGoes own a a
row_same own a = record { sequence = refl; covered = λ n h. h; kept = λ h. h; rises = λ h. h }

row_then : (own : Guid) (a b c : Row) → RowGoes own a b → RowGoes own b c → RowGoes own a c
row_then own a b c f g = record {
  sequence = g.sequence ∙ f.sequence;
  covered = λ n h. g.covered n (f.covered n h);
  kept = λ h. g.kept (f.kept h);
  rises = λ h. g.rises (f.rises h);
}

-- Rows, one by one.

abbrev pub RowsGo : Guid → List Row → List Row → Type 0
RowsGo own [] [] = Unit {0}
RowsGo own [] (b ∷ news) = ⊥
RowsGo own (a ∷ olds) [] = ⊥
RowsGo own (a ∷ olds) (b ∷ news) = RowGoes own a b × RowsGo own olds news

pub rows_same : (own : Guid) (rows : List Row) → RowsGo own rows rows
rows_same own [] = tt
rows_same own (a ∷ rows) = (row_same own a, rows_same own rows)

pub rows_then : (own : Guid) (xs ys zs : List Row) → RowsGo own xs ys → RowsGo own ys zs → RowsGo own xs zs
rows_then own [] [] [] f g = tt
rows_then own [] [] (z ∷ zs) f g = absurd g
rows_then own [] (y ∷ ys) zs f g = absurd f
rows_then own (x ∷ xs) [] zs f g = absurd f
rows_then own (x ∷ xs) (y ∷ ys) [] f g = absurd g
rows_then own (x ∷ xs) (y ∷ ys) (z ∷ zs) f g = (row_then own x y z f.0 g.0, rows_then own xs ys zs f.1 g.1)

set_goes : (own : Guid) (rows : List Row) (k : ℕ) (a b : Row) → slice_get rows k ≡ Some a → RowGoes own a b → RowsGo own rows (slice_set rows k b)
set_goes own [] k a b e h = tt
set_goes own (x ∷ xs) zero a b e h = (subst (λ y. RowGoes own y b) (sym (some_is x a e)) h, rows_same own xs)
set_goes own (x ∷ xs) (suc k) a b e h = (row_same own x, set_goes own xs k a b e h)

pub changed_goes : (own : Guid) (change : Row → Row) (rows : List Row) (k : ℕ) → ((a : Row) → slice_get rows k ≡ Some a → RowGoes own a (change a)) → RowsGo own rows (with_changed change rows k)
changed_goes own change rows k h = at (slice_get rows k) refl
  where
    at : (o : Option Row) → slice_get rows k ≡ o → RowsGo own rows (option_map_or (λ x. slice_set rows k (change x)) o rows)
    at None e = rows_same own rows
    at (Some a) e = set_goes own rows k a (change a) e (h a e)

pub first_goes : (own : Guid) (change : Row → Row) (passes : Row → Bool) (rows : List Row) → ((a : Row) → RowGoes own a (change a)) → RowsGo own rows (with_first_changed change passes rows)
first_goes own change passes rows h = at (position passes rows)
  where
    at : (o : Option ℕ) → RowsGo own rows (option_map_or (with_changed change rows) o rows)
    at None = rows_same own rows
    at (Some k) = changed_goes own change rows k (λ a e. h a)

-- What is acknowledged is released.

at_most : (m n : ℕ) → nat_lt m n ≡ false → n ≤ m
at_most m n e = grind (arith, nat_tests)

kept_or_acked : (mark : ℕ) (ks : List Kept) (n : ℕ) → HasNumber n ks → (n ≤ mark) ⊎ HasNumber n (released mark ks)
kept_or_acked mark [] n h = absurd h
kept_or_acked mark (k ∷ ks) n (inl e) = at (nat_lt mark k.number) refl
  where
    at : (b : Bool) → nat_lt mark k.number ≡ b → (n ≤ mark) ⊎ HasNumber n (cond (b || keeps_dead k.message) (k ∷ released mark ks) (released mark ks))
    at true less = inr (inl e)
    at false more = let le = at_most mark k.number more in inl (omega (arith, le, e))
kept_or_acked mark (k ∷ ks) n (inr h) = at (nat_lt mark k.number || keeps_dead k.message) (kept_or_acked mark ks n h)
  where
    at : (b : Bool) → (n ≤ mark) ⊎ HasNumber n (released mark ks) → (n ≤ mark) ⊎ HasNumber n (cond b (k ∷ released mark ks) (released mark ks))
    at b (inl le) = inl le
    at true (inr i) = inr (inr i)
    at false (inr i) = inr i

-- of what was kept or acknowledged some more is acknowledged
acked_covers : (n number : ℕ) (a : Row) → IsCovered n a → IsCovered n (acknowledged number a)
acked_covers n number a (inl le) = inl (omega (arith, le))
acked_covers n number a (inr h) = kept_or_acked (max a.acked number) a.kept n h

pub acknowledged_goes : (own : Guid) (number : ℕ) (a : Row) → RowGoes own a (acknowledged number a)
acknowledged_goes own number a = record {
  sequence = refl;
  covered = λ n h. acked_covers n number a h;
  kept = λ h. fewer_all (λ (k : Kept). IsOwnOf own kind.Plain k.message) (fewer_filter (λ k. nat_lt (max a.acked number) k.number || keeps_dead k.message) a.kept) h;
  rises = λ h. fewer_pairs (λ (j k : Kept). j.number < k.number) (fewer_filter (λ k. nat_lt (max a.acked number) k.number || keeps_dead k.message) a.kept) h;
}

-- What is finished leaves.

without_cons : (p : Kept → Bool) (x : Kept) (xs : List Kept) → without_first p (x ∷ xs) ≡ cond (p x) xs (x ∷ without_first p xs)
without_cons p x xs = ap (λ o. option_map_or (remove (x ∷ xs)) o (x ∷ xs)) (position_cons p x xs) ∙ at (p x)
  where
    shifted : (o : Option ℕ) → option_map_or (remove (x ∷ xs)) (option_map (λ k. suc k) o) (x ∷ xs) ≡ x ∷ option_map_or (remove xs) o xs
    shifted None = refl
    shifted (Some k) = refl

    at : (b : Bool) → option_map_or (remove (x ∷ xs)) (cond b (Some 0) (option_map (λ k. suc k) (position p xs))) (x ∷ xs) ≡ cond b xs (x ∷ without_first p xs)
    at true = refl
    at false = shifted (position p xs)

left_or_it : (p : Kept → Bool) (ks : List Kept) (k : Kept) (n : ℕ) → first_where p ks ≡ Some k → HasNumber n ks → (n ≡ k.number) ⊎ HasNumber n (without_first p ks)
left_or_it p [] k n e h = absurd h
left_or_it p (x ∷ xs) k n e h = subst (λ ks. (n ≡ k.number) ⊎ HasNumber n ks) (sym (without_cons p x xs)) (at (left_or_it p xs k n) (p x) (sym (first_cons p x xs) ∙ e) h)
  where
    by : (n ≡ k.number) ⊎ HasNumber n (without_first p xs) → (n ≡ k.number) ⊎ HasNumber n (x ∷ without_first p xs)
    by (inl g) = inl g
    by (inr j) = inr (inr j)

    at : (first_where p xs ≡ Some k → HasNumber n xs → (n ≡ k.number) ⊎ HasNumber n (without_first p xs)) → (b : Bool) → cond b (Some x) (first_where p xs) ≡ Some k → HasNumber n (x ∷ xs)
        → (n ≡ k.number) ⊎ HasNumber n (cond b xs (x ∷ without_first p xs))
    at later true f (inl g) = inl (sym g ∙ ap (λ (y : Kept). y.number) (some_is x k f))
    at later true f (inr i) = inr i
    at later false f (inl g) = inr (inl g)
    at later false f (inr i) = by (later f i)

pub finished_goes : (own : Guid) (id : MessageId) (k : Kept) (a : Row) → first_where (is_offered_as id a) a.kept ≡ Some k → RowGoes own a (finished_row id k.number a)
finished_goes own id k a e = record {
  sequence = refl;
  covered = covers;
  kept = λ h. (acknowledged_goes own k.number less).kept (fewer_all (λ (k : Kept). IsOwnOf own kind.Plain k.message) (fewer_without (is_offered_as id a) a.kept) h);
  rises = λ h. (acknowledged_goes own k.number less).rises (fewer_pairs (λ (j k : Kept). j.number < k.number) (fewer_without (is_offered_as id a) a.kept) h);
}
  where
    less : Row
    less = record a { kept = without_first (is_offered_as id a) a.kept }

    covers : (n : ℕ) → IsCovered n a → IsCovered n (finished_row id k.number a)
    covers n (inl le) = inl (omega (arith, le))
    covers n (inr h) = by (left_or_it (is_offered_as id a) a.kept k n e h)
      where
        by : (n ≡ k.number) ⊎ HasNumber n (without_first (is_offered_as id a) a.kept) → IsCovered n (finished_row id k.number a)
        by (inl same) = inl (omega (arith, same))
        by (inr i) = kept_or_acked (max a.acked k.number) (without_first (is_offered_as id a) a.kept) n i

pub offered_goes : (own : Guid) (number : ℕ) (a : Row) → RowGoes own a (with_offered number a)
offered_goes own number a = record { sequence = refl; covered = λ n h. h; kept = λ h. h; rises = λ h. h }
