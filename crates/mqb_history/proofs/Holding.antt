-- A row keeps each number above the acknowledged one but those that expired.
use Rattle.std.proofs.Common.{refl, ap, sym, subst, ◌∙◌, arith, inl, inr}
use Rattle.std.proofs.lemmas.Bool.Decides.{nat_tests}
use Rattle.std.specs.List.{AllByRecursion, prefix_len}
use Rattle.std.specs.Option.{option_map_or}
use Rattle.std.specs.Prelude.{[], ◌+◌, ◌++◌, ◌<◌, ◌||◌, ◌∷◌, ◌≡◌, ◌≤◌, ◌⊎◌, Bool, List, None, Some, cond, false, filter, find, length, max, nat_le, nat_lt, not, remove, slice_get, slice_set, suc, true, zero, ℕ}
use Rattle.mqb_base.specs.Bits.{keeps_dead}
use Rattle.mqb_base.specs.declared.ids.MessageId.{MessageId}
use Rattle.mqb_base.specs.declared.ids.SequenceId.{SequenceId}
use Rattle.mqb_base.specs.declared.ledger.Line.{Line}
use Rattle.mqb_base.specs.declared.ledger.Line.TheVariants as line
use Rattle.mqb_base.specs.declared.message.Message.{Message}
use Rattle.mqb_exactly_once.specs.Words.{In}
use Rattle.mqb_model.specs.Lists.{first_where, with_changed, without_first}
use Rattle.mqb_model.specs.records.Finals.{finished_row, is_offered_as, kept_named}
use Rattle.mqb_model.specs.rules.Sequences.{with_kept}
use Rattle.mqb_model.specs.rules.Timeouts.{expires, expiring, without_expired}
use Rattle.mqb_model.specs.state.Rows.{stream_of}
use Rattle.mqb_model.specs.state.State.{State}
use Rattle.mqb_orders.specs.Rows.{Row, acknowledged}
use Rattle.mqb_orders.specs.declared.kept.Kept.{Kept}
use Rattle.mqb_history.specs.Expired.{expiries_told, expiry_told}
use Rattle.mqb_history.proofs.Committing.{in_append, in_end}
use Rattle.mqb_history.proofs.Deciding.{first_is_found}
use Rattle.mqb_history.proofs.Knowing.{counted, none_below}
use Rattle.mqb_history.proofs.Lines.{told_append}
use Rattle.mqb_history.proofs.Lists.{some_is}

-- a number expired
abbrev pub HasExpired : List Line → SequenceId → ℕ → Type 0
HasExpired ls q n = In (record { sequence = q; number = n }) (expiries_told ls)

-- a row keeps a number
abbrev pub Keeps : Row → ℕ → Type 0
Keeps row n = (k : Kept) × In k row.kept × (k.number ≡ n)

-- a row keeps each number above the acknowledged one, or it expired
abbrev pub IsWhole : List Line → Row → Type 0
IsWhole ls row = (n : ℕ) → row.acked < n → n ≤ row.committed → Keeps row n ⊎ HasExpired ls row.sequence n

pub expired_more : (ls more : List Line) (q : SequenceId) (n : ℕ) → HasExpired ls q n → HasExpired (ls ++ more) q n
expired_more ls more q n h = subst (In (record { sequence = q; number = n })) (sym (told_append expiry_told ls more))
    (in_append (expiries_told ls) (expiries_told more) (record { sequence = q; number = n }) h)

pub whole_more : (ls more : List Line) (row : Row) → IsWhole ls row → IsWhole (ls ++ more) row
whole_more ls more row h = λ n low high. at n (h n low high)
  where
    at : (n : ℕ) → Keeps row n ⊎ HasExpired ls row.sequence n → Keeps row n ⊎ HasExpired (ls ++ more) row.sequence n
    at n (inl k) = inl k
    at n (inr e) = inr (expired_more ls more row.sequence n e)

-- Lists.

pub in_filter : {X : Type 0} (test : X → Bool) (xs : List X) (x : X) → test x ≡ true → In x xs → In x (filter test xs)
in_filter test [] x e i = absurd i
in_filter test (y ∷ ys) x e (inl same) = at (test y) (ap test same ∙ e)
  where
    at : (b : Bool) → b ≡ true → In x (cond b (y ∷ filter test ys) (filter test ys))
    at true f = inl same
    at false f = absurd (let none : ⊥ = cc in none)
in_filter test (y ∷ ys) x e (inr i) = at (test y) (in_filter test ys x e i)
  where
    at : (b : Bool) → In x (filter test ys) → In x (cond b (y ∷ filter test ys) (filter test ys))
    at true rest = inr rest
    at false rest = rest

-- the others stay where the first that passes leaves
abbrev pub others_of : {X : Type 0} → (X → Bool) → List X → List X
others_of p [] = []
others_of p (x ∷ xs) = cond (p x) xs (x ∷ others_of p xs)

pub without_is : {X : Type 0} (p : X → Bool) (xs : List X) → without_first p xs ≡ others_of p xs
without_is p [] = refl
without_is p (x ∷ xs) = at (p x) (without_is p xs)
  where
    behind : (b : Bool) → option_map_or (remove (x ∷ xs)) (cond b (Some (1 + prefix_len (λ x. not (p x)) xs)) None) (x ∷ xs)
        ≡ x ∷ option_map_or (remove xs) (cond b (Some (prefix_len (λ x. not (p x)) xs)) None) xs
    behind true = ap (remove (x ∷ xs)) (let f : 1 + prefix_len (λ x. not (p x)) xs ≡ suc (prefix_len (λ x. not (p x)) xs) = omega arith in f)
    behind false = refl

    at : (b : Bool) → without_first p xs ≡ others_of p xs
        → option_map_or (remove (x ∷ xs)) (cond (nat_lt (cond (not b) (1 + prefix_len (λ x. not (p x)) xs) 0) (suc (length xs)))
        (Some (cond (not b) (1 + prefix_len (λ x. not (p x)) xs) 0)) None) (x ∷ xs) ≡ cond b xs (x ∷ others_of p xs)
    at true rest = ap (λ b. option_map_or (remove (x ∷ xs)) (cond b (Some 0) None) (x ∷ xs)) (none_below (length xs))
    at false rest = ap (λ b. option_map_or (remove (x ∷ xs)) (cond b (Some (1 + prefix_len (λ x. not (p x)) xs)) None) (x ∷ xs))
        (counted (prefix_len (λ x. not (p x)) xs) (length xs)) ∙ behind (nat_lt (prefix_len (λ x. not (p x)) xs) (length xs)) ∙ ap (λ zs. x ∷ zs) rest

-- a member stays, or is the one that leaves
stays_or : {X : Type 0} (p : X → Bool) (xs : List X) (x : X) → In x xs → In x (without_first p xs) ⊎ (first_where p xs ≡ Some x)
stays_or p xs x i = at (by xs i)
  where
    by : (ys : List _) → In x ys → In x (others_of p ys) ⊎ (find p ys ≡ Some x)
    by [] i = absurd i
    by (y ∷ ys) (inl e) = here (p y)
      where
        here : (b : Bool) → In x (cond b ys (y ∷ others_of p ys)) ⊎ (cond b (Some y) (find p ys) ≡ Some x)
        here true = inr (ap (λ z. Some z) e)
        here false = inl (inl e)
    by (y ∷ ys) (inr i) = behind (by ys i) (p y)
      where
        behind : In x (others_of p ys) ⊎ (find p ys ≡ Some x) → (b : Bool) → In x (cond b ys (y ∷ others_of p ys)) ⊎ (cond b (Some y) (find p ys) ≡ Some x)
        behind rest true = inl i
        behind (inl j) false = inl (inr j)
        behind (inr f) false = inr f

    at : In x (others_of p xs) ⊎ (find p xs ≡ Some x) → In x (without_first p xs) ⊎ (first_where p xs ≡ Some x)
    at (inl j) = inl (subst (In x) (sym (without_is p xs)) j)
    at (inr f) = inr (first_is_found p xs ∙ f)

pub set_all : (P : Row → Type 0) (rows : List Row) (k : ℕ) (row : Row) → P row → AllByRecursion P rows → AllByRecursion P (slice_set rows k row)
set_all P [] k row new h = tt
set_all P (x ∷ rows) zero row new h = (new, h.1)
set_all P (x ∷ rows) (suc k) row new h = (h.0, set_all P rows k row new h.1)

pub changed_at : (P : Row → Type 0) (change : Row → Row) (rows : List Row) (k : ℕ) (row : Row) → slice_get rows k ≡ Some row → P (change row) → AllByRecursion P rows
    → AllByRecursion P (with_changed change rows k)
changed_at P change rows k row e new h = subst (λ o. AllByRecursion P (option_map_or (λ x. slice_set rows k (change x)) o rows)) (sym e) (set_all P rows k (change row) new h)

-- One row changes.

above_low : (a b n : ℕ) → max a b < n → (nat_lt (max a b) n ≡ true) × (a < n) × (b < n)
above_low a b n less = (grind (arith, nat_tests), omega (arith, less), omega (arith, less))

released_whole : (ls : List Line) (row : Row) (number : ℕ) (kept : List Kept) → ((n : ℕ) → max row.acked number < n → n ≤ row.committed
    → ((k : Kept) × In k kept × (k.number ≡ n)) ⊎ HasExpired ls row.sequence n) → IsWhole ls (acknowledged number (record row { kept = kept }))
released_whole ls row number kept h = λ n low high. at n low (h n low high)
  where
    at : (n : ℕ) → max row.acked number < n → ((k : Kept) × In k kept × (k.number ≡ n)) ⊎ HasExpired ls row.sequence n
        → Keeps (acknowledged number (record row { kept = kept })) n ⊎ HasExpired ls row.sequence n
    at n low (inl k) = inl (
      k.0,
      in_filter (λ (x : Kept). nat_lt (max row.acked number) x.number || keeps_dead x.message) kept k.0
          (ap (λ b. b || keeps_dead k.0.message) (ap (nat_lt (max row.acked number)) k.2 ∙ (above_low row.acked number n low).0)) k.1,
      k.2,
    )
    at n low (inr e) = inr e

pub acknowledged_whole : (ls : List Line) (number : ℕ) (row : Row) → IsWhole ls row → IsWhole ls (acknowledged number row)
acknowledged_whole ls number row h = released_whole ls row number row.kept (λ n low high. h n (above_low row.acked number n low).1 high)

pub finished_whole : (ls : List Line) (id : MessageId) (row : Row) (k : Kept) → kept_named id row ≡ Some k → IsWhole ls row → IsWhole ls (finished_row id k.number row)
finished_whole ls id row k named h = released_whole ls row k.number (without_first (is_offered_as id row) row.kept)
    (λ n low high. at n (above_low row.acked k.number n low).2 (h n (above_low row.acked k.number n low).1 high))
  where
    left : (n : ℕ) → k.number < n → (x : Kept) → x.number ≡ n → In x (without_first (is_offered_as id row) row.kept) ⊎ (first_where (is_offered_as id row) row.kept ≡ Some x)
        → ((y : Kept) × In y (without_first (is_offered_as id row) row.kept) × (y.number ≡ n)) ⊎ HasExpired ls row.sequence n
    left n less x e (inl i) = inl (x, i, e)
    left n less x e (inr f) = let same = ap (λ (y : Kept). y.number) (some_is k x (sym named ∙ f)) in absurd (omega (arith, less, e, same))

    at : (n : ℕ) → k.number < n → Keeps row n ⊎ HasExpired ls row.sequence n
        → ((y : Kept) × In y (without_first (is_offered_as id row) row.kept) × (y.number ≡ n)) ⊎ HasExpired ls row.sequence n
    at n less (inl x) = left n less x.0 x.2 (stays_or (is_offered_as id row) row.kept x.0 x.1)
    at n less (inr e) = inr e

pub expired_whole : (ls : List Line) (s : State) (now : ℕ) (row : Row) (kept : Kept) → expiring now row ≡ Some kept → IsWhole ls row
    → IsWhole (ls ++ line.Expired (stream_of s row) kept.number kept.message.id now ∷ []) (without_expired now row)
expired_whole ls s now row kept found h = λ n low high. at n (h n low high)
  where
    l : Line
    l = line.Expired (stream_of s row) kept.number kept.message.id now

    gone : HasExpired (ls ++ l ∷ []) row.sequence kept.number
    gone = subst (In (record { sequence = row.sequence; number = kept.number })) (sym (told_append expiry_told ls (l ∷ [])))
        (in_end (expiries_told ls) (record { sequence = row.sequence; number = kept.number }))

    left : (n : ℕ) (x : Kept) → x.number ≡ n → In x (without_first (expires now row) row.kept) ⊎ (first_where (expires now row) row.kept ≡ Some x)
        → Keeps (without_expired now row) n ⊎ HasExpired (ls ++ l ∷ []) row.sequence n
    left n x e (inl i) = inl (x, i, e)
    left n x e (inr f) = inr (subst (HasExpired (ls ++ l ∷ []) row.sequence) (ap (λ (y : Kept). y.number) (some_is kept x (sym found ∙ f)) ∙ e) gone)

    at : (n : ℕ) → Keeps row n ⊎ HasExpired ls row.sequence n → Keeps (without_expired now row) n ⊎ HasExpired (ls ++ l ∷ []) row.sequence n
    at n (inl x) = left n x.0 x.2 (stays_or (expires now row) row.kept x.0 x.1)
    at n (inr e) = inr (expired_more ls (l ∷ []) row.sequence n e)

pub joined_whole : (ls : List Line) (m : Message) (row : Row) → IsWhole ls row → IsWhole ls (with_kept m row)
joined_whole ls m row h = λ n low high. at n low high (nat_le n row.committed) refl
  where
    new : List Kept
    new = record { number = row.committed + 1; message = m } ∷ []

    old : (n : ℕ) → Keeps row n ⊎ HasExpired ls row.sequence n → Keeps (with_kept m row) n ⊎ HasExpired ls row.sequence n
    old n (inl x) = inl (x.0, in_append row.kept new x.0 x.1, x.2)
    old n (inr e) = inr e

    within : (n : ℕ) → nat_le n row.committed ≡ true → n ≤ row.committed
    within n e = grind (arith, nat_tests)

    beyond : (n : ℕ) → nat_le n row.committed ≡ false → row.committed < n
    beyond n e = grind (arith, nat_tests)

    at : (n : ℕ) → row.acked < n → n ≤ row.committed + 1 → (b : Bool) → nat_le n row.committed ≡ b → Keeps (with_kept m row) n ⊎ HasExpired ls row.sequence n
    at n low high true e = old n (h n low (within n e))
    at n low high false e = let more = beyond n e in inl (
      record { number = row.committed + 1; message = m },
      in_end row.kept (record { number = row.committed + 1; message = m }),
      let f : row.committed + 1 ≡ n = omega (arith, high, more) in f,
    )
