-- Of the messages of a queue that are not due, those that do not come after the last take of it are the ones that were taken.
use Rattle.std.proofs.Common.{refl, ap, ap₂, sym, subst, ◌∙◌, arith}
use Rattle.std.proofs.lemmas.Bool.Decides.{nat_tests}
use Rattle.std.proofs.lemmas.List.Sums.{fold-append}
use Rattle.std.proofs.lemmas.Option.{none-some, same_Some}
use Rattle.std.specs.Option.{option_map_or}
use Rattle.std.specs.Prelude.{[], ◌&&◌, ◌+◌, ◌<◌, ◌==◌, ◌||◌, ◌∷◌, ◌≡◌, ◌≤◌, Bool, List, None, Option, Some, cond, false, max, nat_le, nat_lt, not, option_and_then, option_map, slice_get, suc, true, zero, ℕ}
use Rattle.mqb_base.specs.Times.{is_due}
use Rattle.mqb_base.specs.declared.message.Message.{Message}
use Rattle.mqb_trying.specs.declared.notes.Take.{Take}
use Rattle.mqb_trying.specs.declared.takes.Mark.{Mark}
use Rattle.mqb_trying.specs.Takes.{comes_after, index_from, last_index, mark_at, mark_of, may_take, next_index, next_of, top_from}
use Rattle.mqb_trying.proofs.Left.{is_taken, itself, one_more, untaken, with_one}
use Rattle.mqb_trying.proofs.Walks.{Each, each, top_floor}

-- Each message.

each_behind : (P : ℕ → Message → Type 0) (i : ℕ) (ms : List Message) → ((j : ℕ) (m : Message) → i ≤ j → P j m) → Each P i ms
each_behind P i [] h = tt
each_behind P i (m ∷ ms) h = (h i m (omega arith), each_behind P (i + 1) ms (λ j m le. h j m (omega (arith, le))))

each_both : (P Q R : ℕ → Message → Type 0) (i : ℕ) (ms : List Message) → ((j : ℕ) (m : Message) → P j m → Q j m → R j m) → Each P i ms → Each Q i ms → Each R i ms
each_both P Q R i [] both p q = tt
each_both P Q R i (m ∷ ms) both p q = (both i m p.0 q.0, each_both P Q R (i + 1) ms both p.1 q.1)

-- of the one that stands at an index
each_at : (P : ℕ → Message → Type 0) (i offset : ℕ) (ms : List Message) (m : Message) → Each P i ms → slice_get ms offset ≡ Some m → P (i + offset) m
each_at P i offset [] m all there = absurd (none-some m there)
each_at P i zero (x ∷ ms) m all there = let same : i ≡ i + 0 = omega arith in subst (λ j. P j m) same (subst (P i) (same_Some x m there) all.0)
each_at P i (suc offset) (x ∷ ms) m all there =
    let same : i + 1 + offset ≡ i + suc offset = omega arith in
    subst (λ j. P j m) same (each_at P (i + 1) offset ms m all.1 there)

each_there : (i offset : ℕ) (ms : List Message) (m : Message) → slice_get ms offset ≡ Some m → Each (λ j x. j ≡ i + offset → x ≡ m) i ms
each_there i offset [] m there = tt
each_there i zero (x ∷ ms) m there = (λ e. same_Some x m there, each_behind (λ j x. j ≡ i + 0 → x ≡ m) (i + 1) ms (λ j x le e. absurd (omega (arith, le, e))))
each_there i (suc offset) (x ∷ ms) m there =
    let same : i + 1 + offset ≡ i + suc offset = omega arith in
    (λ e. absurd (omega (arith, e)), subst (λ k. Each (λ j x. j ≡ k → x ≡ m) (i + 1) ms) same (each_there (i + 1) offset ms m there))

-- Two tests that agree on each message find the same one.

same_top : (f g : ℕ → Message → Bool) (i top : ℕ) (ms : List Message) → Each (λ j m. f j m ≡ g j m) i ms → top_from f i top ms ≡ top_from g i top ms
same_top f g i top [] same = refl
same_top f g i top (m ∷ ms) same =
    ap (λ b. top_from f (i + 1) (cond b (max top m.priority) top) ms) same.0 ∙ same_top f g (i + 1) (cond (g i m) (max top m.priority) top) ms same.1

same_index : (f g : ℕ → Message → Bool) (least i : ℕ) (ms : List Message) → Each (λ j m. f j m ≡ g j m) i ms → index_from f least i ms ≡ index_from g least i ms
same_index f g least i [] same = refl
same_index f g least i (m ∷ ms) same =
    ap (λ b. cond (b && nat_le least m.priority) (Some i) (index_from f least (i + 1) ms)) same.0
    ∙ ap (λ o. cond (g i m && nat_le least m.priority) (Some i) o) (same_index f g least (i + 1) ms same.1)

pub same_next : (f g : ℕ → Message → Bool) (ms : List Message) → Each (λ j m. f j m ≡ g j m) 0 ms → next_of f ms ≡ next_of g ms
same_next f g ms same = ap (λ top. index_from f top 0 ms) (same_top f g 0 0 ms same) ∙ same_index f g (top_from g 0 0 ms) 0 ms same

-- What a search tells of each message.

top_tells : (may : ℕ → Message → Bool) (i low top : ℕ) (ms : List Message) → top_from may i low ms ≤ top → Each (λ j m. may j m ≡ true → m.priority ≤ top) i ms
top_tells may i low top [] le = tt
top_tells may i low top (m ∷ ms) le = at (may i m) refl le (top_tells may (i + 1) (max low m.priority) top ms) (top_tells may (i + 1) low top ms)
  where
    at : (b : Bool) → may i m ≡ b → top_from may (i + 1) (cond b (max low m.priority) low) ms ≤ top
        → (top_from may (i + 1) (max low m.priority) ms ≤ top → Each (λ j m. may j m ≡ true → m.priority ≤ top) (i + 1) ms)
        → (top_from may (i + 1) low ms ≤ top → Each (λ j m. may j m ≡ true → m.priority ≤ top) (i + 1) ms)
        → Each (λ j m. may j m ≡ true → m.priority ≤ top) i (m ∷ ms)
    at true e le h g = (λ e. omega (arith, le, top_floor may (i + 1) (max low m.priority) ms), h le)
    at false e le h g = (λ passes. absurd (let none : ⊥ = cc in none), g le)

index_low : (may : ℕ → Message → Bool) (least i k : ℕ) (ms : List Message) → index_from may least i ms ≡ Some k → i ≤ k
index_low may least i k [] found = absurd (none-some k found)
index_low may least i k (m ∷ ms) found = at (may i m && nat_le least m.priority) found (index_low may least (i + 1) k ms)
  where
    at : (b : Bool) → cond b (Some i) (index_from may least (i + 1) ms) ≡ Some k → (index_from may least (i + 1) ms ≡ Some k → i + 1 ≤ k) → i ≤ k
    at true found h = let same = same_Some i k found in omega (arith, same)
    at false found h = omega (arith, h found)

abbrev passes : (ℕ → Message → Bool) → ℕ → ℕ → Message → Bool
passes may least j m = may j m && nat_le least m.priority

abbrev IsFirst : (ℕ → Message → Bool) → ℕ → ℕ → ℕ → Message → Type 0
IsFirst may least k j m = (j < k → passes may least j m ≡ false) × (j ≡ k → passes may least j m ≡ true)

index_tells : (may : ℕ → Message → Bool) (least i k : ℕ) (ms : List Message) → index_from may least i ms ≡ Some k → Each (IsFirst may least k) i ms
index_tells may least i k [] found = tt
index_tells may least i k (m ∷ ms) found = at (passes may least i m) refl found (index_tells may least (i + 1) k ms)
  where
    at : (b : Bool) → passes may least i m ≡ b → cond b (Some i) (index_from may least (i + 1) ms) ≡ Some k
        → (index_from may least (i + 1) ms ≡ Some k → Each (IsFirst may least k) (i + 1) ms) → Each (IsFirst may least k) i (m ∷ ms)
    at true e found h =
        let same : i ≡ k = same_Some i k found in (
          (λ lt. absurd (omega (arith, lt, same)), λ _. e),
          each_behind (IsFirst may least k) (i + 1) ms (λ j m le. (λ lt. absurd (omega (arith, lt, le, same)), λ at. absurd (omega (arith, at, le, same)))),
        )
    at false e found h =
        let low : i + 1 ≤ k = index_low may least (i + 1) k ms found in
        ((λ _. e, λ at. absurd (omega (arith, at, low))), h found)

-- The order.

abbrev pub IsOrdered : List Take → ℕ → ℕ → List Message → Type 0
IsOrdered takes queue now ms = Each (λ j m. untaken takes queue now j m ≡ may_take (mark_of takes queue ms) now j m) 0 ms

-- A message at an index, once the one at another was taken that stood first.
first_taken : (t : Bool) (j k priority top : ℕ) → (j ≡ k → priority ≡ top) → (not t ≡ true → priority ≤ top) → (j < k → (not t && nat_le top priority) ≡ false)
    → (t ≡ true → top ≤ priority) → (t ≡ true → priority ≡ top → j < k)
    → not (t || k == j) ≡ (nat_lt priority top || (priority == top && nat_lt k j))
first_taken t j k priority top same left before taken less = grind (arith, nat_tests)

and_first : (a b : Bool) → (a && b) ≡ true → a ≡ true
and_first true b e = refl
and_first false b e = e

-- where one comes after a mark and another one does not
parted : (mark : Option Mark) (j k : ℕ) (m first : Message) → option_map_or (λ mark. comes_after mark j m) mark true ≡ false → option_map_or (λ mark. comes_after mark k first) mark true ≡ true
    → (first.priority ≤ m.priority) × (m.priority ≡ first.priority → j < k)
parted None j k m first out is = absurd (let none : ⊥ = cc in none)
parted (Some mark) j k m first out is = (grind (arith, nat_tests), λ same. grind (arith, nat_tests))

-- the first one is taken
module _ (takes : List Take) (queue now k offset : ℕ) (ms : List Message) (first : Message) (place : k ≡ 0 + offset) (there : slice_get ms offset ≡ Some first)
    (order : IsOrdered takes queue now ms) (next : next_index (mark_of takes queue ms) now ms ≡ Some k) where
  abbrev mark : Option Mark
  mark = mark_of takes queue ms

  abbrev may : ℕ → Message → Bool
  may = may_take mark now

  abbrev top : ℕ
  top = top_from may 0 0 ms

  below : Each (λ j m. may j m ≡ true → m.priority ≤ top) 0 ms
  below = top_tells may 0 0 top ms (omega arith)

  tells : Each (IsFirst may top k) 0 ms
  tells = index_tells may top 0 k ms next

  passing : passes may top k first ≡ true
  passing = subst (λ i. i ≡ k → passes may top i first ≡ true) (sym place) (each_at (IsFirst may top k) 0 offset ms first tells there).1 refl

  is_top : first.priority ≡ top
  is_top =
      let low = subst (λ i. may i first ≡ true → first.priority ≤ top) (sym place) (each_at (λ j m. may j m ≡ true → m.priority ≤ top) 0 offset ms first below there)
      (and_first (may k first) (nat_le top first.priority) passing) in
      high (may k first) passing low
    where
      high : (b : Bool) → (b && nat_le top first.priority) ≡ true → first.priority ≤ top → first.priority ≡ top
      high b e low = grind (arith, nat_tests)

  after : option_map_or (λ mark. comes_after mark k first) mark true ≡ true
  after = and_first (option_map_or (λ mark. comes_after mark k first) mark true) (not (is_due first.sent first.life now)) (and_first (may k first) (nat_le top first.priority) passing)

  step : (j : ℕ) (m : Message) → (untaken takes queue now j m ≡ may j m) × (may j m ≡ true → m.priority ≤ top) → IsFirst may top k j m × (j ≡ k → m ≡ first)
      → untaken (with_one takes queue k) queue now j m ≡ may_take (Some (record { index = k; priority = first.priority })) now j m
  step j m (same, under) (is, here) =
      ap (λ t. not t && not (is_due m.sent m.life now)) (one_more takes queue k queue j ∙ ap (λ b. is_taken takes queue j || (b && k == j)) (itself queue))
      ∙ at (is_due m.sent m.life now) same under is.0
    where
      t : Bool
      t = is_taken takes queue j

      left : (b : Bool) → Bool
      left b = option_map_or (λ mark. comes_after mark j m) mark true && not b

      at : (d : Bool) → (not t && not d) ≡ left d → (left d ≡ true → m.priority ≤ top) → (j < k → (left d && nat_le top m.priority) ≡ false)
          → (not (t || k == j) && not d) ≡ (comes_after (record { index = k; priority = first.priority }) j m && not d)
      at true same under before = none (not (t || k == j)) (comes_after (record { index = k; priority = first.priority }) j m)
        where
          none : (a b : Bool) → (a && false) ≡ (b && false)
          none true true = refl
          none true false = refl
          none false true = refl
          none false false = refl
      at false same under before =
          let kept : t ≡ true → option_map_or (λ mark. comes_after mark j m) mark true ≡ false = λ e. plain (option_map_or (λ mark. comes_after mark j m) mark true) (not t) (sym same) ∙ ap not e in
          ap (λ b. b && true)
          (first_taken t j k m.priority first.priority
          (λ e. ap (λ (x : Message). x.priority) (here e))
          (λ e. let low = under (sym same ∙ ap (λ b. b && true) e) in omega (arith, low, is_top))
          (λ lt. ap₂ (λ b p. b && nat_le p m.priority) (with_true (not t) ∙ same) is_top ∙ before lt)
          (λ e. (parted mark j k m first (kept e) after).0)
          (λ e. (parted mark j k m first (kept e) after).1))
        where
          with_true : (b : Bool) → b ≡ (b && true)
          with_true true = refl
          with_true false = refl

          plain : (a b : Bool) → (a && true) ≡ (b && true) → a ≡ b
          plain a b e = with_true a ∙ e ∙ sym (with_true b)

  each_taken : Each (λ j m. untaken (with_one takes queue k) queue now j m ≡ may_take (Some (record { index = k; priority = first.priority })) now j m) 0 ms
  each_taken = each_both (λ j m. (untaken takes queue now j m ≡ may j m) × (may j m ≡ true → m.priority ≤ top)) (λ j m. IsFirst may top k j m × (j ≡ k → m ≡ first)) _ 0 ms step
      (each_both (λ j m. untaken takes queue now j m ≡ may j m) (λ j m. may j m ≡ true → m.priority ≤ top) _ 0 ms (λ j m a b. (a, b)) order below)
      (each_both (IsFirst may top k) (λ j m. j ≡ k → m ≡ first) _ 0 ms (λ j m a b. (a, b)) tells
      (subst (λ i. Each (λ j m. j ≡ i → m ≡ first) 0 ms) (sym place) (each_there 0 offset ms first there)))

  is_last : mark_of (with_one takes queue k) queue ms ≡ Some (record { index = k; priority = first.priority })
  is_last =
      ap (λ o. option_and_then (mark_at ms) o) (fold-append (λ last t. cond (t.queue == queue) (Some t.index) last) None takes (record { queue = queue; index = k } ∷ []))
      ∙ ap (λ b. option_and_then (mark_at ms) (cond b (Some k) (last_index takes queue))) (itself queue)
      ∙ ap (option_map (λ m. record { index = k; priority = m.priority })) (let same : k ≡ offset = omega (arith, place) in ap (slice_get ms) same ∙ there)

  pub still_ordered : IsOrdered (with_one takes queue k) queue now ms
  still_ordered = subst (λ mark. Each (λ j m. untaken (with_one takes queue k) queue now j m ≡ may_take mark now j m) 0 ms) (sym is_last) each_taken

-- another queue
pub other_ordered : (takes : List Take) (of index queue now : ℕ) (ms : List Message) → (of == queue) ≡ false → IsOrdered takes queue now ms → IsOrdered (with_one takes of index) queue now ms
other_ordered takes of index queue now ms other order =
    each_both (λ j m. untaken takes queue now j m ≡ may_take (mark_of takes queue ms) now j m) (λ j m. Unit {0}) _ 0 ms
    (λ j m same _. ap (λ t. not t && not (is_due m.sent m.life now)) (one_more takes of index queue j ∙ ap (λ b. is_taken takes queue j || (b && index == j)) other ∙ or_false (is_taken takes queue j))
    ∙ same
    ∙ sym (ap (λ mark. may_take mark now j m) last))
    order (each (λ j m. Unit {0}) (λ j m. tt) 0 ms)
  where
    or_false : (b : Bool) → (b || false) ≡ b
    or_false true = refl
    or_false false = refl

    last : mark_of (with_one takes of index) queue ms ≡ mark_of takes queue ms
    last =
        ap (λ o. option_and_then (mark_at ms) o) (fold-append (λ last t. cond (t.queue == queue) (Some t.index) last) None takes (record { queue = of; index = index } ∷ []))
        ∙ ap (λ b. option_and_then (mark_at ms) (cond b (Some index) (last_index takes queue))) other

-- nothing was taken
pub first_ordered : (queue now : ℕ) (ms : List Message) → IsOrdered [] queue now ms
first_ordered queue now ms = each (λ j m. untaken [] queue now j m ≡ may_take (mark_of [] queue ms) now j m) (λ j m. refl) 0 ms
