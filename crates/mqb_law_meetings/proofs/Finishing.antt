-- A number of a row that is done with: it is kept no more, and acknowledged.
use Rattle.std.proofs.Common.{◌≡◌, ℕ, zero, suc, ◌+◌, ◌≤◌, ◌<◌, ◌==◌, ◌&&◌, ◌||◌, ◌⊎◌, inl, inr, Bool, true, false, cond, max, nat_le, nat_lt, List, [], ◌∷◌, Option, Some, None, refl, sym, ap, subst, ◌∙◌, arith}
use Rattle.std.proofs.lemmas.Bool.{cases_lt}
use Rattle.std.proofs.lemmas.Bool.Decides.{nat_tests}
use Rattle.std.specs.List.{list_any}
use Rattle.std.specs.Option.{option_map_or}
use Rattle.std.specs.Prelude.{◌*◌, filter, length, map, option_and_then, option_map, position, remove, slice_get, slice_set, sum}
use Rattle.mqb_base.specs.Bits.{keeps_dead}
use Rattle.mqb_base.specs.Classes.{is_negative}
use Rattle.mqb_base.specs.declared.ids.MessageId.{MessageId}
use Rattle.mqb_base.specs.declared.message.Message.{Message}
use Rattle.mqb_base.specs.declared.queues.EntryPlace.TheVariants as place
use Rattle.mqb_exactly_once.specs.Words.{In}
use Rattle.mqb_law_progress.proofs.Falling.{acknowledging_falls}
use Rattle.mqb_law_progress.specs.Progress.{unacknowledged}
use Rattle.mqb_model.specs.Lists.{first_where, with_changed, without_first}
use Rattle.mqb_model.specs.managers.Readers.{awaits}
use Rattle.mqb_model.specs.records.Finals.{dead_for, finished_at, finished_by, finished_row, index_finished, is_offered_as, kept_named, with_finished}
use Rattle.mqb_model.specs.state.Places.{put_at}
use Rattle.mqb_model.specs.state.Resolving.{peer_known}
use Rattle.mqb_model.specs.state.Rows.{in_row}
use Rattle.mqb_model.specs.state.State.{State}
use Rattle.mqb_orders.specs.Judging.{decided}
use Rattle.mqb_orders.specs.KeptLists.{released}
use Rattle.mqb_orders.specs.Rows.{Row, acknowledged, has_unacknowledged}
use Rattle.mqb_orders.specs.declared.kept.Kept.{Kept}
use Rattle.mqb_law_meetings.proofs.Firsts.{changed_falls, first_cons, position_cons}
use Rattle.mqb_law_meetings.proofs.Lists.{changed_length}
use Rattle.mqb_law_meetings.proofs.Members.{first_set, set_cases}
use Rattle.mqb_law_meetings.proofs.Turns.{AreRaised, credit, first_unacked, row_credit}

-- Filters.

abbrev head_or_none : {X : Type 0} → List X → Option X
head_or_none [] = None
head_or_none (x ∷ xs) = Some x

abbrev is_some_list : {X : Type 0} → List X → Bool
is_some_list [] = false
is_some_list (x ∷ xs) = true

first_of : {X : Type 0} (p : X → Bool) (xs : List X) → first_where p xs ≡ head_or_none (filter p xs)
first_of p [] = refl
first_of p (x ∷ xs) = first_cons p x xs ∙ at (p x) (first_of p xs)
  where
    at : (b : Bool) → first_where p xs ≡ head_or_none (filter p xs) → cond b (Some x) (first_where p xs) ≡ head_or_none (cond b (x ∷ filter p xs) (filter p xs))
    at true rest = refl
    at false rest = rest

any_of : {X : Type 0} (p : X → Bool) (xs : List X) → list_any p xs ≡ is_some_list (filter p xs)
any_of p [] = refl
any_of p (x ∷ xs) = at (p x) (any_of p xs)
  where
    at : (b : Bool) → list_any p xs ≡ is_some_list (filter p xs) → (b || list_any p xs) ≡ is_some_list (cond b (x ∷ filter p xs) (filter p xs))
    at true rest = refl
    at false rest = rest

-- the first member that passes is one, and passes
pub first_in : {X : Type 0} (p : X → Bool) (xs : List X) (x : X) → first_where p xs ≡ Some x → In x xs × (p x ≡ true)
first_in p [] x e = absurd (let none : ⊥ = cc in none)
first_in p (y ∷ ys) x e = at (p y) refl (sym (first_cons p y ys) ∙ e) (first_in p ys x)
  where
    at : (b : Bool) → p y ≡ b → cond b (Some y) (first_where p ys) ≡ Some x → (first_where p ys ≡ Some x → In x ys × (p x ≡ true)) → In x (y ∷ ys) × (p x ≡ true)
    at true is found rest = let same : y ≡ x = cc in (inl same, subst (λ z. p z ≡ true) same is)
    at false is found rest = let both = rest found in (inr both.0, both.1)

-- what is removed does not pass the other test
removed_same : {X : Type 0} (p q : X → Bool) (xs : List X) (x : X) → first_where p xs ≡ Some x → q x ≡ false → filter q (without_first p xs) ≡ filter q xs
removed_same p q [] x e not = absurd (let none : ⊥ = cc in none)
removed_same p q (y ∷ ys) x e not = ap (λ o. filter q (option_map_or (remove (y ∷ ys)) o (y ∷ ys))) (position_cons p y ys) ∙ at (p y) (sym (first_cons p y ys) ∙ e) (removed_same p q ys x)
  where
    behind : (o : Option ℕ) → filter q (option_map_or (remove ys) o ys) ≡ filter q ys → filter q (option_map_or (remove (y ∷ ys)) (option_map (λ k. suc k) o) (y ∷ ys)) ≡ filter q (y ∷ ys)
    behind None same = refl
    behind (Some k) same = ap (λ zs. cond (q y) (y ∷ zs) zs) same

    at : (b : Bool) → cond b (Some y) (first_where p ys) ≡ Some x → (first_where p ys ≡ Some x → q x ≡ false → filter q (without_first p ys) ≡ filter q ys)
        → filter q (option_map_or (remove (y ∷ ys)) (cond b (Some 0) (option_map (λ k. suc k) (position p ys))) (y ∷ ys)) ≡ filter q (y ∷ ys)
    at true found rest = let same : y ≡ x = cc in sym (ap (λ t. cond t (y ∷ filter q ys) (filter q ys)) (ap q same ∙ not))
    at false found rest = behind (position p ys) (rest found not)

removed_count : {X : Type 0} (f : X → Bool) (xs : List X) (i : ℕ) → length (filter f (remove xs i)) ≤ length (filter f xs)
removed_count f [] zero = omega arith
removed_count f [] (suc i) = omega arith
removed_count f (x ∷ xs) zero = at (f x)
  where
    at : (b : Bool) → length (filter f xs) ≤ length (cond b (x ∷ filter f xs) (filter f xs))
    at true = omega arith
    at false = omega arith
removed_count f (x ∷ xs) (suc i) = at (f x) (removed_count f xs i)
  where
    at : (b : Bool) → length (filter f (remove xs i)) ≤ length (filter f xs)
        → length (cond b (x ∷ filter f (remove xs i)) (filter f (remove xs i))) ≤ length (cond b (x ∷ filter f xs) (filter f xs))
    at true less = omega (arith, less)
    at false less = less

fewer_without : {X : Type 0} (f p : X → Bool) (xs : List X) → length (filter f (without_first p xs)) ≤ length (filter f xs)
fewer_without f p xs = at (position p xs)
  where
    at : (o : Option ℕ) → length (filter f (option_map_or (remove xs) o xs)) ≤ length (filter f xs)
    at None = omega arith
    at (Some i) = removed_count f xs i

-- What of a row is not acknowledged.

abbrev pub above : ℕ → List Kept → List Kept
above number kept = filter (λ k. nat_lt number k.number) kept

kept_above : (number : ℕ) (kept : List Kept) → above number (released number kept) ≡ above number kept
kept_above number [] = refl
kept_above number (k ∷ kept) = at (nat_lt number k.number) refl (keeps_dead k.message) (kept_above number kept)
  where
    at : (a : Bool) → nat_lt number k.number ≡ a → (d : Bool) → above number (released number kept) ≡ above number kept
        → above number (cond (a || d) (k ∷ released number kept) (released number kept)) ≡ cond a (k ∷ above number kept) (above number kept)
    at true is d rest = ap (λ t. cond t (k ∷ above number (released number kept)) (above number (released number kept))) is ∙ ap (λ ks. k ∷ ks) rest
    at false is true rest = ap (λ t. cond t (k ∷ above number (released number kept)) (above number (released number kept))) is ∙ rest
    at false is false rest = rest

-- rows of which the same is not acknowledged
pub record AreAlike (r z : Row) : Type 0 where
  pub peer : z.peer ≡ r.peer
  pub sequence : z.sequence ≡ r.sequence
  pub left : above z.acked z.kept ≡ above r.acked r.kept

alike_awaits : (k : ℕ) (r z : Row) → AreAlike r z → awaits k z ≡ awaits k r
alike_awaits k r z a = ap (λ p. p == k && has_unacknowledged z) a.peer ∙ ap (λ t. r.peer == k && t)
    (any_of (λ x. nat_lt z.acked x.number) z.kept ∙ ap is_some_list a.left ∙ sym (any_of (λ x. nat_lt r.acked x.number) r.kept))

alike_credit : (t : State) (r z : Row) → AreAlike r z → row_credit t z ≡ row_credit t r
alike_credit t r z a = ap (λ q. option_map_or (λ (k : Kept). cond (nat_le k.number (decided (in_row t k.message) q)) 2 0) (first_unacked z) 0) a.sequence
    ∙ ap (λ o. option_map_or (λ (k : Kept). cond (nat_le k.number (decided (in_row t k.message) r.sequence)) 2 0) o 0)
    (first_of (λ x. nat_lt z.acked x.number) z.kept ∙ ap head_or_none a.left ∙ sym (first_of (λ x. nat_lt r.acked x.number) r.kept))

-- of lists of rows of which one is another one that is alike
module _ (t : State) (k : ℕ) where
  abbrev credit_of : List Row → ℕ
  credit_of rows = option_map_or (row_credit t) (first_where (awaits k) rows) 0

  credit_set : (rows : List Row) (i : ℕ) (r z : Row) → slice_get rows i ≡ Some r → AreAlike r z → credit_of (slice_set rows i z) ≡ credit_of rows
  credit_set rows i r z e a = first_set (awaits k) (row_credit t) 0 rows i r z e (alike_awaits k r z a) (alike_credit t r z a)

pub credit_most : (s t : State) (k : ℕ) → credit s t k ≤ 2
credit_most s t k = at (first_where (awaits k) s.outs)
  where
    test : (b : Bool) → cond b 2 0 ≤ 2
    test true = omega arith
    test false = omega arith

    of : (row : Row) (o : Option Kept) → option_map_or (λ (x : Kept). cond (nat_le x.number (decided (in_row t x.message) row.sequence)) 2 0) o 0 ≤ 2
    of row None = omega arith
    of row (Some x) = test (nat_le x.number (decided (in_row t x.message) row.sequence))

    at : (o : Option Row) → option_map_or (row_credit t) o 0 ≤ 2
    at None = omega arith
    at (Some row) = of row (first_unacked row)

-- One row of a state is another one now.

abbrev pub unacked_in : List Row → ℕ
unacked_in rows = sum (map unacknowledged rows)

module _ (s u : State) (change : Row → Row) (i : ℕ) (row : Row) (there : slice_get s.outs i ≡ Some row) (are : u.outs ≡ with_changed change s.outs i) where
  set_is : u.outs ≡ slice_set s.outs i (change row)
  set_is = are ∙ ap (λ o. option_map_or (λ x. slice_set s.outs i (change x)) o s.outs) there

  -- less of it is not acknowledged
  pub falls_pays : unacknowledged (change row) < unacknowledged row → (t : State) (k : ℕ) → 3 * unacked_in u.outs + credit s t k + 1 ≤ 3 * unacked_in s.outs + credit u t k
  falls_pays less t k = let f : unacked_in u.outs + 1 ≤ unacked_in s.outs = subst (λ rows. unacked_in rows + 1 ≤ unacked_in s.outs) (sym are)
      (changed_falls unacknowledged change 1 s.outs i row there (omega (arith, less))) in let c = credit_most s t k in omega (arith, f, c)

  -- or it is alike
  pub alike_pays : AreAlike row (change row) → (t : State) (k : ℕ) → 3 * unacked_in u.outs + credit s t k ≤ 3 * unacked_in s.outs + credit u t k
  alike_pays a t k = let g : unacknowledged (change row) ≡ unacknowledged row = ap length a.left in
      let f : unacked_in u.outs + 0 ≤ unacked_in s.outs = subst (λ rows. unacked_in rows + 0 ≤ unacked_in s.outs) (sym are) (changed_falls unacknowledged change 0 s.outs i row there (omega (arith, g))) in
      let c : credit u t k ≡ credit s t k = ap (credit_of t k) set_is ∙ credit_set t k s.outs i row (change row) there a in omega (arith, f, c)

  pub changed_raised : (change row).peer ≡ row.peer → (change row).sequence ≡ row.sequence → row.acked ≤ (change row).acked → AreRaised s.outs u.outs
  changed_raised peer sequence acked j r e = set_cases Before s.outs i j (change row) r (subst (λ rows. slice_get rows j ≡ Some r) set_is e)
      (λ same. (row, subst (λ v. slice_get s.outs v ≡ Some row) (sym same) there, sym peer, sym sequence, acked)) (λ f. (r, f, refl, refl, omega arith))
    where
      Before : Row → Type 0
      Before z = (before : Row) × (slice_get s.outs j ≡ Some before) × (before.peer ≡ z.peer) × (before.sequence ≡ z.sequence) × (before.acked ≤ z.acked)

  pub changed_count : length u.outs ≡ length s.outs
  changed_count = ap length are ∙ changed_length change s.outs i

pub raised_same : (xs ys : List Row) → ys ≡ xs → AreRaised xs ys
raised_same xs ys are i row e = (row, subst (λ rows. slice_get rows i ≡ Some row) are e, refl, refl, omega arith)

-- A message of a row is finished.

pub record Finishes (s t : State) (l : ℕ) : Type 0 where
  pub identity : t.identity ≡ s.identity
  pub peers : t.peers ≡ s.peers
  pub ins : t.ins ≡ s.ins
  pub plain : t.plain ≡ s.plain
  pub raised : AreRaised s.outs t.outs
  pub count : length t.outs ≡ length s.outs
  pub pays : (o : State) → 3 * unacked_in t.outs + credit s o l ≤ 3 * unacked_in s.outs + credit t o l

finishes_none : (s : State) (l : ℕ) → Finishes s s l
finishes_none s l = record { identity = refl; peers = refl; ins = refl; plain = refl; raised = raised_same s.outs s.outs refl; count = refl; pays = λ o. omega arith }

module _ (s u : State) (l : ℕ) (id : MessageId) (index : ℕ) (row : Row) (k : Kept) (there : slice_get s.outs index ≡ Some row) (named : kept_named id row ≡ Some k)
    (identity : u.identity ≡ s.identity) (peers : u.peers ≡ s.peers) (ins : u.ins ≡ s.ins) (plain : u.plain ≡ s.plain)
    (are : u.outs ≡ with_changed (finished_row id k.number) s.outs index) where
  abbrev less : Row
  less = record row { kept = without_first (is_offered_as id row) row.kept }

  falls : row.acked < k.number → unacknowledged (finished_row id k.number row) < unacknowledged row
  falls over = let most = max row.acked k.number in
      let a : unacknowledged (finished_row id k.number row) ≡ length (above most less.kept) = ap length (kept_above most less.kept) in
      let b : length (above most less.kept) ≤ length (above most row.kept) = fewer_without (λ (x : Kept). nat_lt most x.number) (is_offered_as id row) row.kept in
      let c : unacknowledged (acknowledged k.number row) ≡ length (above most row.kept) = ap length (kept_above most row.kept) in
      let d = acknowledging_falls row k k.number (first_in (is_offered_as id row) row.kept k named).0 over (omega arith) in omega (arith, a, b, c, d)

  alike : k.number ≤ row.acked → AreAlike row (finished_row id k.number row)
  alike within = record {
    peer = refl;
    sequence = refl;
    left = kept_above (max row.acked k.number) less.kept ∙ ap (λ n. above n less.kept) (let e : max row.acked k.number ≡ row.acked = omega (arith, within) in e)
        ∙ removed_same (is_offered_as id row) (λ (x : Kept). nat_lt row.acked x.number) row.kept k named not;
  }
    where
      not : nat_lt row.acked k.number ≡ false
      not = grind (arith, nat_tests)

  finishes_one : Finishes s u l
  finishes_one = record {
    identity = identity;
    peers = peers;
    ins = ins;
    plain = plain;
    raised = changed_raised s u (finished_row id k.number) index row there are refl refl (omega arith);
    count = changed_count s u (finished_row id k.number) index row there are;
    pays = pays (cases_lt row.acked k.number);
  }
    where
      pays : (row.acked < k.number) ⊎ (k.number ≤ row.acked) → (o : State) → 3 * unacked_in u.outs + credit s o l ≤ 3 * unacked_in s.outs + credit u o l
      pays (inl over) o = let f = falls_pays s u (finished_row id k.number) index row there are (falls over) o l in omega (arith, f)
      pays (inr within) o = alike_pays s u (finished_row id k.number) index row there are (alike within) o l

-- what a final acknowledgement does
pub finishes : (s : State) (m : Message) (l : ℕ) → Finishes s (option_map_or (λ peer. finished_by s peer m) (peer_known s m.id.qm) s) l
finishes s m l = known (peer_known s m.id.qm)
  where
    named : (index : ℕ) (row : Row) → slice_get s.outs index ≡ Some row → (o : Option Kept) → kept_named m.correlation row ≡ o
        → Finishes s (option_map_or (λ k. dead_for m.class (with_finished m.correlation s index k) k.message) o s) l
    named index row there None e = finishes_none s l
    named index row there (Some k) e = buried (is_negative m.class.0)
      where
        buried : (b : Bool) → Finishes s (cond b (put_at (with_finished m.correlation s index k) place.DeadXact k.message) (with_finished m.correlation s index k)) l
        buried true = finishes_one s (put_at (with_finished m.correlation s index k) place.DeadXact k.message) l m.correlation index row k there e refl refl refl refl refl
        buried false = finishes_one s (with_finished m.correlation s index k) l m.correlation index row k there e refl refl refl refl refl

    at : (index : ℕ) (o : Option Row) → slice_get s.outs index ≡ o
        → Finishes s (option_map_or (λ k. dead_for m.class (with_finished m.correlation s index k) k.message) (option_and_then (kept_named m.correlation) o) s) l
    at index None e = finishes_none s l
    at index (Some row) e = named index row e (kept_named m.correlation row) refl

    indexed : (o : Option ℕ) → Finishes s (option_map_or (finished_at s m) o s) l
    indexed None = finishes_none s l
    indexed (Some index) = at index (slice_get s.outs index) refl

    known : (o : Option ℕ) → Finishes s (option_map_or (λ peer. finished_by s peer m) o s) l
    known None = finishes_none s l
    known (Some peer) = indexed (index_finished s peer m)
