-- The work of all managers, of which two change.
use Rattle.std.proofs.Common.{◌≡◌, ℕ, zero, suc, ◌+◌, ◌<◌, ◌≤◌, ◌==◌, Bool, true, false, List, [], ◌∷◌, Option, refl, sym, ap, subst, ◌∙◌, arith}
use Rattle.std.specs.Prelude.{length, map, slice_get, slice_set, sum, unwrap_or}
use Rattle.mqb_model.specs.managers.Manager.{Manager}
use Rattle.mqb_network.specs.Network.{nobody}
use Rattle.mqb_law_meetings.specs.Work.{state_work}
use Rattle.mqb_law_meetings.proofs.Firsts.{sum_cons}
use Rattle.mqb_law_meetings.proofs.Lists.{apart_numbers, equal_numbers, set_apart, set_length, set_there}

abbrev at : List Manager → ℕ → Manager
at ms i = unwrap_or (slice_get ms i) nobody

abbrev work_at : List Manager → ℕ → ℕ
work_at ms i = state_work (at ms i).state

abbrev total : List Manager → ℕ
total ms = sum (map (λ m. state_work m.state) ms)

set_total : (ms : List Manager) (i : ℕ) (m : Manager) → i < length ms → total (slice_set ms i m) + work_at ms i ≡ total ms + state_work m.state
set_total [] i m inside = absurd (omega (arith, inside))
set_total (x ∷ xs) zero m inside = let a = sum_cons (state_work m.state) (map (λ y. state_work y.state) xs) in let b = sum_cons (state_work x.state) (map (λ y. state_work y.state) xs) in omega (arith, a, b)
set_total (x ∷ xs) (suc i) m inside =
    let a = sum_cons (state_work x.state) (map (λ y. state_work y.state) (slice_set xs i m)) in
    let b = sum_cons (state_work x.state) (map (λ y. state_work y.state) xs) in
    let r = set_total xs i m (omega (arith, inside)) in
    omega (arith, a, b, r)

-- lists of managers that are the same, index by index
same_lists : (xs ys : List Manager) → length ys ≡ length xs → ((v : ℕ) → at ys v ≡ at xs v) → ys ≡ xs
same_lists [] [] count same = refl
same_lists [] (y ∷ ys) count same = absurd (let no : ⊥ = omega (arith, count) in no)
same_lists (x ∷ xs) [] count same = absurd (let no : ⊥ = omega (arith, count) in no)
same_lists (x ∷ xs) (y ∷ ys) count same = ap (λ m. m ∷ ys) (same 0) ∙ ap (λ ms. x ∷ ms) (same_lists xs ys (omega (arith, count)) (λ v. same (suc v)))

module _ (xs : List Manager) (a b : ℕ) (in_a : a < length xs) (in_b : b < length xs) (differ : a ≡ b → ⊥) where
  two_set : (m n : Manager) → total (slice_set (slice_set xs a m) b n) + (work_at xs a + work_at xs b) ≡ total xs + (state_work m.state + state_work n.state)
  two_set m n =
      let one = set_total xs a m in_a in
      let two = set_total (slice_set xs a m) b n (subst (λ k. b < k) (sym (set_length xs a m)) in_b) in
      let same : work_at (slice_set xs a m) b ≡ work_at xs b = ap (λ (o : Option Manager). state_work (unwrap_or o nobody).state) (set_apart xs a b m differ) in
      omega (arith, one, two, same)

  -- two of all have at most what all have
  pub two_within : work_at xs a + work_at xs b ≤ total xs
  two_within = let e = two_set nobody nobody in let none : state_work nobody.state ≡ 0 = refl in omega (arith, e, none)

  -- where only two change
  pub two_changed : (ys : List Manager) → length ys ≡ length xs → ((v : ℕ) → (a ≡ v → ⊥) → (b ≡ v → ⊥) → at ys v ≡ at xs v) → total ys + (work_at xs a + work_at xs b) ≡ total xs + (work_at ys a + work_at ys b)
  two_changed ys count others = subst (λ (zs : List Manager). total zs + (work_at xs a + work_at xs b) ≡ total xs + (work_at ys a + work_at ys b)) (sym (same_lists zs ys (count ∙ sym (zs_count)) each)) (two_set (at ys a) (at ys b))
    where
      first : List Manager
      first = slice_set xs a (at ys a)

      zs : List Manager
      zs = slice_set first b (at ys b)

      zs_count : length zs ≡ length xs
      zs_count = set_length first b (at ys b) ∙ set_length xs a (at ys a)

      in_first : b < length first
      in_first = subst (λ k. b < k) (sym (set_length xs a (at ys a))) in_b

      each : (v : ℕ) → at ys v ≡ at zs v
      each v = by (b == v) refl (a == v) refl
        where
          by : (p : Bool) → (b == v) ≡ p → (q : Bool) → (a == v) ≡ q → at ys v ≡ at zs v
          by true e q f = subst (λ k. at ys k ≡ at zs k) (equal_numbers b v e) (ap (λ (o : Option Manager). unwrap_or o nobody) (sym (set_there first b (at ys b) in_first)))
          by false e true f = subst (λ k. at ys k ≡ at zs k) (equal_numbers a v f)
              (ap (λ (o : Option Manager). unwrap_or o nobody) (sym (set_apart first b a (at ys b) (λ g. differ (sym g)) ∙ set_there xs a (at ys a) in_a)))
          by false e false f = others v (apart_numbers a v f) (apart_numbers b v e)
              ∙ ap (λ (o : Option Manager). unwrap_or o nobody) (sym (set_apart first b v (at ys b) (apart_numbers b v e) ∙ set_apart xs a v (at ys a) (apart_numbers a v f)))
