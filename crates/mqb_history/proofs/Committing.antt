-- Each manager numbers the messages of each sequence from 1 on: its rows count them, and keep no others.
use Rattle.std.proofs.Common.{refl, ap, sym, subst, ◌∙◌, arith, inl, inr}
use Rattle.std.specs.List.{AllByRecursion, cons_option, prefix_len, range_with_len}
use Rattle.std.specs.Option.{option_map_or}
use Rattle.std.specs.Prelude.{[], ◌&&◌, ◌+◌, ◌++◌, ◌<◌, ◌==◌, ◌∷◌, ◌≡◌, ◌⊎◌, Bool, List, None, Option, Some, cond, false, length, nat_lt, not, slice_get, slice_set, suc, true, zero, ℕ}
use Rattle.mqb_base.specs.Sequences.{same_sequence}
use Rattle.mqb_base.specs.declared.ids.Guid.{Guid}
use Rattle.mqb_base.specs.declared.ids.SequenceId.{SequenceId}
use Rattle.mqb_base.specs.declared.message.Message.{Message}
use Rattle.mqb_exactly_once.specs.Words.{In}
use Rattle.mqb_exactly_once.specs.World.{Commitment}
use Rattle.mqb_model.specs.Lists.{with_changed, with_first_changed}
use Rattle.mqb_model.specs.rules.Sequences.{with_kept}
use Rattle.mqb_model.specs.state.Rows.{has_ordinal}
use Rattle.mqb_orders.specs.Rows.{Row}
use Rattle.mqb_orders.specs.declared.kept.Kept.{Kept}
use Rattle.mqb_history.specs.Committed.{IdentifiersDiffer, commitment_to, number_in, numbers_in}
use Rattle.mqb_history.proofs.Knowing.{counted, none_below}
use Rattle.mqb_history.proofs.Lists.{append_nothing, clash, other_numbers, same_number}

-- Lists.

pub in_append : {X : Type 0} (xs ys : List X) (x : X) → In x xs → In x (xs ++ ys)
in_append [] ys x h = absurd h
in_append (z ∷ zs) ys x (inl e) = inl e
in_append (z ∷ zs) ys x (inr h) = inr (in_append zs ys x h)

pub in_end : {X : Type 0} (xs : List X) (x : X) → In x (xs ++ x ∷ [])
in_end [] x = inl refl
in_end (z ∷ zs) x = inr (in_end zs x)

pub in_split : {X : Type 0} (xs ys : List X) (x : X) → In x (xs ++ ys) → In x xs ⊎ In x ys
in_split [] ys x h = inr h
in_split (z ∷ zs) ys x (inl e) = inl (inl e)
in_split (z ∷ zs) ys x (inr h) = at (in_split zs ys x h)
  where
    at : In x zs ⊎ In x ys → In x (z ∷ zs) ⊎ In x ys
    at (inl g) = inl (inr g)
    at (inr g) = inr g

pub all_in : {X : Type 0} (P : X → Type 0) (xs : List X) (x : X) → AllByRecursion P xs → In x xs → P x
all_in P [] x h i = absurd i
all_in P (z ∷ zs) x h (inl e) = subst P e h.0
all_in P (z ∷ zs) x h (inr i) = all_in P zs x h.1 i

pub length_more : {X : Type 0} (xs : List X) (x : X) → length (xs ++ x ∷ []) ≡ length xs + 1
length_more [] x = refl
length_more (y ∷ ys) x = let e = length_more ys x in omega (arith, e)

pub range_more : (a n : ℕ) → range_with_len a (n + 1) ≡ range_with_len a n ++ (a + n) ∷ []
range_more a n = ap (range_with_len a) (let e : n + 1 ≡ suc n = omega arith in e) ∙ by_one a n
  where
    by_one : (a n : ℕ) → range_with_len a (suc n) ≡ range_with_len a n ++ (a + n) ∷ []
    by_one a zero = ap (λ k. k ∷ []) (let e : a ≡ a + 0 = omega arith in e)
    by_one a (suc n) = ap (λ ks. a ∷ ks) (by_one (a + 1) n ∙ ap (λ k. range_with_len (a + 1) n ++ k ∷ []) (let e : a + 1 + n ≡ a + suc n = omega arith in e))

-- the first that passes is another one now
abbrev pub first_changed : {X : Type 0} → (X → X) → (X → Bool) → List X → List X
first_changed change p [] = []
first_changed change p (x ∷ xs) = cond (p x) (change x ∷ xs) (x ∷ first_changed change p xs)

changed_behind : {X : Type 0} (change : X → X) (x : X) (xs : List X) (k : ℕ) → with_changed change (x ∷ xs) (suc k) ≡ x ∷ with_changed change xs k
changed_behind change x xs k = at (slice_get xs k)
  where
    at : (o : Option _) → option_map_or (λ y. slice_set (x ∷ xs) (suc k) (change y)) o (x ∷ xs) ≡ x ∷ option_map_or (λ y. slice_set xs k (change y)) o xs
    at None = refl
    at (Some y) = refl

pub is_first_changed : {X : Type 0} (change : X → X) (p : X → Bool) (xs : List X) → with_first_changed change p xs ≡ first_changed change p xs
is_first_changed change p [] = refl
is_first_changed change p (x ∷ xs) = at (p x) (is_first_changed change p xs)
  where
    behind : (b : Bool) → option_map_or (with_changed change (x ∷ xs)) (cond b (Some (1 + prefix_len (λ x. not (p x)) xs)) None) (x ∷ xs)
        ≡ x ∷ option_map_or (with_changed change xs) (cond b (Some (prefix_len (λ x. not (p x)) xs)) None) xs
    behind true = ap (with_changed change (x ∷ xs)) (let f : 1 + prefix_len (λ x. not (p x)) xs ≡ suc (prefix_len (λ x. not (p x)) xs) = omega arith in f)
        ∙ changed_behind change x xs (prefix_len (λ x. not (p x)) xs)
    behind false = refl

    at : (b : Bool) → with_first_changed change p xs ≡ first_changed change p xs
        → option_map_or (with_changed change (x ∷ xs)) (cond (nat_lt (cond (not b) (1 + prefix_len (λ x. not (p x)) xs) 0) (suc (length xs)))
        (Some (cond (not b) (1 + prefix_len (λ x. not (p x)) xs) 0)) None) (x ∷ xs) ≡ cond b (change x ∷ xs) (x ∷ first_changed change p xs)
    at true rest = ap (λ b. option_map_or (with_changed change (x ∷ xs)) (cond b (Some 0) None) (x ∷ xs)) (none_below (length xs))
    at false rest = ap (λ b. option_map_or (with_changed change (x ∷ xs)) (cond b (Some (1 + prefix_len (λ x. not (p x)) xs)) None) (x ∷ xs))
        (counted (prefix_len (λ x. not (p x)) xs) (length xs)) ∙ behind (nat_lt (prefix_len (λ x. not (p x)) xs) (length xs)) ∙ ap (λ zs. x ∷ zs) rest

-- Rows that count commitments.

-- the message at a number of a row
abbrev pub kept_at : Row → Kept → Commitment
kept_at row k = record { position = record { sequence = row.sequence; number = k.number }; message = k.message }

-- a row counts the commitments of its sequence, and keeps no others
pub record IsCounted (cs : List Commitment) (row : Row) : Type 0 where
  pub count : length (numbers_in row.sequence cs) ≡ row.committed
  pub kept : (k : Kept) → In k row.kept → In (kept_at row k) cs

-- ordinals rise from row to row
abbrev pub OrdinalsRise : List Row → Type 0
OrdinalsRise [] = Unit {0}
OrdinalsRise (a ∷ olds) = AllByRecursion (λ b. a.sequence.ordinal < b.sequence.ordinal) olds × OrdinalsRise olds

-- a manager's identifiers below a number
abbrev pub IsOwnBelow : Guid → ℕ → Commitment → Type 0
IsOwnBelow own low c = (c.message.id.qm ≡ own) × (c.message.id.number < low)

pub record Commits (own : Guid) (outs : List Row) (next low : ℕ) (cs : List Commitment) : Type 0 where
  pub rise : OrdinalsRise outs
  pub below : AllByRecursion (λ row. row.sequence.ordinal < next) outs
  pub rows : AllByRecursion (IsCounted cs) outs
  pub given : AllByRecursion (λ c. c.position.sequence.ordinal < next) cs
  pub numbered : (q : SequenceId) → numbers_in q cs ≡ range_with_len 1 (length (numbers_in q cs))
  pub own_ids : AllByRecursion (IsOwnBelow own low) cs
  pub differ : IdentifiersDiffer cs

-- the numbers of a sequence with one commitment more
pub numbers_more : (q : SequenceId) (cs : List Commitment) (c : Commitment) → numbers_in q (cs ++ c ∷ []) ≡ numbers_in q cs ++ cons_option (number_in q c) []
numbers_more q [] c = refl
numbers_more q (x ∷ cs) c = at (number_in q x) (numbers_more q cs c)
  where
    at : (o : Option ℕ) → numbers_in q (cs ++ c ∷ []) ≡ numbers_in q cs ++ cons_option (number_in q c) []
        → cons_option o (numbers_in q (cs ++ c ∷ [])) ≡ cons_option o (numbers_in q cs) ++ cons_option (number_in q c) []
    at None rest = rest
    at (Some n) rest = ap (λ ns. n ∷ ns) rest

pub differ_by_ordinal : (a b : SequenceId) → (a.ordinal ≡ b.ordinal → ⊥) → same_sequence a b ≡ false
differ_by_ordinal a b apart = ap (λ t. t && a.stamp == b.stamp) (other_numbers a.ordinal b.ordinal apart)

-- of another sequence nothing is added
pub numbers_apart : (q : SequenceId) (cs : List Commitment) (c : Commitment) → same_sequence c.position.sequence q ≡ false → numbers_in q (cs ++ c ∷ []) ≡ numbers_in q cs
numbers_apart q cs c apart = numbers_more q cs c ∙ ap (λ b. numbers_in q cs ++ cons_option (cond b (Some c.position.number) None) []) apart ∙ append_nothing (numbers_in q cs)

-- of its own one number is
pub numbers_own : (q : SequenceId) (cs : List Commitment) (c : Commitment) → same_sequence c.position.sequence q ≡ true
    → numbers_in q (cs ++ c ∷ []) ≡ numbers_in q cs ++ c.position.number ∷ []
numbers_own q cs c same = numbers_more q cs c ∙ ap (λ b. numbers_in q cs ++ cons_option (cond b (Some c.position.number) None) []) same

pub counted_apart : (cs : List Commitment) (c : Commitment) (row : Row) → (c.position.sequence.ordinal ≡ row.sequence.ordinal → ⊥) → IsCounted cs row → IsCounted (cs ++ c ∷ []) row
counted_apart cs c row apart h = record {
  count = ap (λ (ns : List ℕ). length ns) (numbers_apart row.sequence cs c (differ_by_ordinal c.position.sequence row.sequence apart)) ∙ h.count;
  kept = λ k i. in_append cs (c ∷ []) (kept_at row k) (h.kept k i);
}

pub itself : (q : SequenceId) → same_sequence q q ≡ true
itself q = ap (λ t. t && q.stamp == q.stamp) (same_number q.ordinal) ∙ same_number q.stamp

pub counted_own : (cs : List Commitment) (row : Row) (m : Message) → IsCounted cs row → IsCounted (cs ++ commitment_to row m ∷ []) (with_kept m row)
counted_own cs row m h = record {
  count = ap (λ (ns : List ℕ). length ns) (numbers_own row.sequence cs (commitment_to row m) (itself row.sequence))
      ∙ length_more (numbers_in row.sequence cs) (row.committed + 1) ∙ ap (λ n. n + 1) h.count;
  kept = λ k i. by k (in_split row.kept (record { number = row.committed + 1; message = m } ∷ []) k i);
}
  where
    by : (k : Kept) → In k row.kept ⊎ In k (record { number = row.committed + 1; message = m } ∷ []) → In (kept_at (with_kept m row) k) (cs ++ commitment_to row m ∷ [])
    by k (inl i) = in_append cs (commitment_to row m ∷ []) (kept_at row k) (h.kept k i)
    by k (inr (inl e)) = subst (λ x. In (kept_at row x) (cs ++ commitment_to row m ∷ [])) e (in_end cs (commitment_to row m))
    by k (inr (inr i)) = absurd i

-- the rows with a message more in one of them
pub rows_join : (cs : List Commitment) (rows : List Row) (row : Row) (m : Message) → In row rows → OrdinalsRise rows → AllByRecursion (IsCounted cs) rows
    → AllByRecursion (IsCounted (cs ++ commitment_to row m ∷ [])) (first_changed (with_kept m) (has_ordinal row.sequence.ordinal) rows)
rows_join cs [] row m i rise h = absurd i
rows_join cs (a ∷ olds) row m (inl e) rise h = at (has_ordinal row.sequence.ordinal a) (subst (λ x. (a.sequence.ordinal == x.sequence.ordinal) ≡ true) e (same_number a.sequence.ordinal))
  where
    behind : AllByRecursion (IsCounted (cs ++ commitment_to row m ∷ [])) olds
    behind = both olds rise.0 h.1
      where
        both : (news : List Row) → AllByRecursion (λ b. a.sequence.ordinal < b.sequence.ordinal) news → AllByRecursion (IsCounted cs) news
            → AllByRecursion (IsCounted (cs ++ commitment_to row m ∷ [])) news
        both [] r g = tt
        both (b ∷ news) r g = (
          counted_apart cs (commitment_to row m) b
              (λ same. let less = r.0 in let f = ap (λ (x : Row). x.sequence.ordinal) e in omega (arith, less, f, same)) g.0,
          both news r.1 g.1,
        )

    at : (b : Bool) → b ≡ true → AllByRecursion (IsCounted (cs ++ commitment_to row m ∷ [])) (cond b (with_kept m a ∷ olds) (a ∷ first_changed (with_kept m) (has_ordinal row.sequence.ordinal) olds))
    at true f = (subst (λ x. IsCounted (cs ++ commitment_to x m ∷ []) (with_kept m a)) e (counted_own cs a m h.0), behind)
    at false f = absurd (clash (sym f))
rows_join cs (a ∷ olds) row m (inr i) rise h = at (has_ordinal row.sequence.ordinal a) (other_numbers a.sequence.ordinal row.sequence.ordinal apart) (rows_join cs olds row m i rise.1 h.1)
  where
    apart : a.sequence.ordinal ≡ row.sequence.ordinal → ⊥
    apart same = let less = all_in (λ b. a.sequence.ordinal < b.sequence.ordinal) olds row rise.0 i in omega (arith, less, same)

    at : (b : Bool) → b ≡ false → AllByRecursion (IsCounted (cs ++ commitment_to row m ∷ [])) (first_changed (with_kept m) (has_ordinal row.sequence.ordinal) olds)
        → AllByRecursion (IsCounted (cs ++ commitment_to row m ∷ [])) (cond b (with_kept m a ∷ olds) (a ∷ first_changed (with_kept m) (has_ordinal row.sequence.ordinal) olds))
    at true f rest = absurd (clash f)
    at false f rest = (counted_apart cs (commitment_to row m) a (λ same. apart (sym same)) h.0, rest)
