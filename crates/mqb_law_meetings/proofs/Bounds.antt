-- Work and credits: what is outstanding is work, and a credit is less than that.
use Rattle.std.proofs.Common.{◌≡◌, ℕ, zero, suc, ◌+◌, ◌≤◌, ◌==◌, ◌⊎◌, inl, inr, ◌||◌, ◌&&◌, Bool, true, false, cond, nat_lt, not, List, [], ◌∷◌, Option, Some, None, refl, sym, ap, subst, ◌∙◌, arith}
use Rattle.std.proofs.lemmas.Bool.{or_cases, true≢false}
use Rattle.std.proofs.lemmas.Bool.Decides.{nat_tests}
use Rattle.std.specs.List.{list_any}
use Rattle.std.specs.Option.{option_map_or}
use Rattle.std.specs.Prelude.{filter, length, map, slice_get, sum}
use Rattle.mqb_base.specs.declared.message.Message.{Message}
use Rattle.mqb_fate.specs.Asking.{is_ordinary}
use Rattle.mqb_law_progress.proofs.Lists.{some_kept}
use Rattle.mqb_law_progress.specs.Progress.{unacknowledged}
use Rattle.mqb_model.specs.Lists.{first_where}
use Rattle.mqb_model.specs.managers.Readers.{awaits, has_plain, is_outstanding_to}
use Rattle.mqb_model.specs.state.State.{State}
use Rattle.mqb_orders.specs.Rows.{Row, has_unacknowledged}
use Rattle.mqb_orders.specs.declared.kept.Kept.{Kept}
use Rattle.mqb_plain.specs.Lists.{messages_of}
use Rattle.mqb_plain.specs.Plain.{PlainLists}
use Rattle.mqb_plain.specs.declared.outgoing.Outgoing.{Outgoing}
use Rattle.mqb_law_meetings.specs.Work.{plain_work, state_work, work_for}
use Rattle.mqb_law_meetings.proofs.Finishing.{credit_most}
use Rattle.mqb_law_meetings.proofs.Firsts.{first_cons, sum_cons}
use Rattle.mqb_law_meetings.proofs.Members.{all_there}
use Rattle.mqb_law_meetings.proofs.Turns.{IsWithoutExpress, Way, Clear, Carries, Brings, credit, ordinaries, promise, row_credit}

-- Sums of which one part is something.

sum_there : {X : Type 0} (f : X → ℕ) (xs : List X) (k : ℕ) (x : X) → slice_get xs k ≡ Some x → f x ≤ sum (map f xs)
sum_there f [] k x e = absurd (let none : ⊥ = cc in none)
sum_there f (y ∷ ys) zero x e = let same : y ≡ x = cc in let a = sum_cons (f y) (map f ys) in let b = ap f same in omega (arith, a, b)
sum_there f (y ∷ ys) (suc k) x e = let a = sum_cons (f y) (map f ys) in let b = sum_there f ys k x e in omega (arith, a, b)

sum_any : {X : Type 0} (p : X → Bool) (f : X → ℕ) → ((x : X) → p x ≡ true → 1 ≤ f x) → (xs : List X) → list_any p xs ≡ true → 1 ≤ sum (map f xs)
sum_any p f some [] any = absurd (true≢false (sym any))
sum_any p f some (x ∷ xs) any = at (or_cases (p x) (list_any p xs) any) (sum_cons (f x) (map f xs)) (sum_any p f some xs)
  where
    at : (p x ≡ true) ⊎ (list_any p xs ≡ true) → sum (f x ∷ map f xs) ≡ f x + sum (map f xs) → (list_any p xs ≡ true → 1 ≤ sum (map f xs)) → 1 ≤ sum (f x ∷ map f xs)
    at (inl is) e rest = let a = some x is in omega (arith, a, e)
    at (inr any) e rest = let a = rest any in omega (arith, a, e)

-- What is outstanding is work.

module _ (s : State) (k : ℕ) where
  rows_work : list_any (awaits k) s.outs ≡ true → 1 ≤ sum (map unacknowledged s.outs)
  rows_work any = sum_any (awaits k) unacknowledged waits s.outs any
    where
      waits : (row : Row) → awaits k row ≡ true → 1 ≤ unacknowledged row
      waits row h = let a = some_kept (λ (x : Kept). nat_lt row.acked x.number) row.kept (behind (row.peer == k) (has_unacknowledged row) h) in omega (arith, a)
        where
          behind : (a b : Bool) → (a && b) ≡ true → b ≡ true
          behind true b e = e
          behind false b e = absurd (true≢false (sym e))

  some_plain : (p : PlainLists) → p.express ≡ [] → has_plain p ≡ true → 1 ≤ plain_work p
  some_plain p none has = at p.recoverable refl
    where
      at : (os : List Outgoing) → p.recoverable ≡ os → 1 ≤ plain_work p
      at [] e = absurd (true≢false (sym has ∙ empty))
        where
          empty : has_plain p ≡ false
          empty = let one = ap (λ (xs : List Outgoing). length xs) e in let two = ap (λ (xs : List Outgoing). length xs) none in
              ap (λ n. not (n == 0)) (let both : length p.recoverable + length p.express ≡ 0 = omega (arith, one, two) in both)
      at (o ∷ os) e = subst (λ (xs : List Outgoing). 1 ≤ sum (map work_for (messages_of xs))) (sym e) (head o os)
        where
          one : (m : Message) → 1 ≤ work_for m
          one m = by (is_ordinary m)
            where
              by : (b : Bool) → 1 ≤ cond b 3 1
              by true = omega arith
              by false = omega arith

          head : (o : Outgoing) (os : List Outgoing) → 1 ≤ sum (map work_for (messages_of (o ∷ os)))
          head o os = let a = sum_cons (work_for o.message) (map work_for (messages_of os)) in let b = one o.message in omega (arith, a, b)

  pub work_there : IsWithoutExpress s → is_outstanding_to s k ≡ true → 1 ≤ state_work s
  work_there express out = at (slice_get s.plain k) refl out
    where
      rows : list_any (awaits k) s.outs ≡ true → 1 ≤ state_work s
      rows any = let a = rows_work any in omega (arith, a)

      at : (o : Option PlainLists) → slice_get s.plain k ≡ o → (option_map_or has_plain o false || list_any (awaits k) s.outs) ≡ true → 1 ≤ state_work s
      at None e any = rows any
      at (Some p) e any = by (or_cases (has_plain p) (list_any (awaits k) s.outs) any)
        where
          by : (has_plain p ≡ true) ⊎ (list_any (awaits k) s.outs ≡ true) → 1 ≤ state_work s
          by (inl has) = let a = some_plain p (all_there (λ (q : PlainLists). q.express ≡ []) s.plain k p express e) has in let b = sum_there plain_work s.plain k p e in omega (arith, a, b)
          by (inr any) = rows any

  -- A credit is less than the work.
  pub none_first : {X : Type 0} (p : X → Bool) (xs : List X) → list_any p xs ≡ false → first_where p xs ≡ None
  none_first p [] none = refl
  none_first p (x ∷ xs) none = first_cons p x xs ∙ by (p x) none (none_first p xs)
    where
      by : (b : Bool) → (b || list_any p xs) ≡ false → (list_any p xs ≡ false → first_where p xs ≡ None) → cond b (Some x) (first_where p xs) ≡ None
      by true e rest = absurd (true≢false e)
      by false e rest = rest e

  pub credit_below : (t : State) → (credit s t k ≡ 0) ⊎ (credit s t k + 1 ≤ state_work s)
  credit_below t = at (list_any (awaits k) s.outs) refl
    where
      at : (b : Bool) → list_any (awaits k) s.outs ≡ b → (credit s t k ≡ 0) ⊎ (credit s t k + 1 ≤ state_work s)
      at true any = inr (let a = rows_work any in let b = credit_most s t k in omega (arith, a, b))
      at false none = inl (ap (λ o. option_map_or (row_credit t) o 0) (none_first (awaits k) s.outs none))

  -- Ordinary plain messages are outstanding.
  pub some_ordinary : 1 ≤ ordinaries s k → is_outstanding_to s k ≡ true
  some_ordinary some = at (slice_get s.plain k) some
    where
      at : (o : Option PlainLists) → 1 ≤ option_map_or (λ (p : PlainLists). length (filter is_ordinary (messages_of p.recoverable))) o 0 → (option_map_or has_plain o false || list_any (awaits k) s.outs) ≡ true
      at None some = absurd (let no : ⊥ = omega (arith, some) in no)
      at (Some p) some = by p.recoverable refl some
        where
          by : (os : List Outgoing) → p.recoverable ≡ os → 1 ≤ length (filter is_ordinary (messages_of p.recoverable)) → (has_plain p || list_any (awaits k) s.outs) ≡ true
          by [] e some = absurd (let same = ap (λ (os : List Outgoing). length (filter is_ordinary (messages_of os))) e in let no : ⊥ = omega (arith, same, some) in no)
          by (o ∷ os) e some = let one = ap (λ (xs : List Outgoing). length xs) e in
              ap (λ b. b || list_any (awaits k) s.outs) (ap (λ n. not (n == 0)) (let more : length p.recoverable + length p.express ≡ suc (length os + length p.express) = omega (arith, one) in more)
              ∙ full (length os + length p.express))
            where
              full : (n : ℕ) → not (suc n == 0) ≡ true
              full n = grind (arith, nat_tests)

pub promise_most : (w : Way) → promise w ≤ 2
promise_most Clear = omega arith
promise_most (Carries q) = at (is_ordinary q)
  where
    at : (b : Bool) → cond b 2 1 ≤ 2
    at true = omega arith
    at false = omega arith
promise_most (Brings i n j) = omega arith
