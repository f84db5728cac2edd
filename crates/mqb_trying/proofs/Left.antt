-- The messages that are left in a queue, and the first of them.
use Rattle.std.proofs.Common.{refl, ap, sym, subst, ◌∙◌, arith}
use Rattle.std.proofs.lemmas.Bool.Decides.{nat_tests}
use Rattle.std.proofs.lemmas.List.Folds.{list_any-append}
use Rattle.std.specs.List.{list_any}
use Rattle.std.specs.Prelude.{[], ◌&&◌, ◌++◌, ◌+◌, ◌<◌, ◌==◌, ◌||◌, ◌∷◌, ◌≡◌, ◌≤◌, Bool, List, None, Option, Some, cond, false, filter, fold, map, max, nat_le, not, option_map, position, remove, slice_get, suc, true, ℕ}
use Rattle.mqb_base.specs.declared.message.Message.{Message}
use Rattle.mqb_base.specs.declared.queues.EntryPlace.TheVariants as place
use Rattle.mqb_queue.specs.First.{first_index, is_free, top_priority}
use Rattle.mqb_queue.proofs.Positions.{position_step}
use Rattle.mqb_trying.specs.declared.notes.Take.{Take}
use Rattle.mqb_trying.specs.Takes.{index_from, next_of, top_from}

-- the message at an index of a queue was taken
abbrev pub is_taken : List Take → ℕ → ℕ → Bool
is_taken takes queue k = list_any (λ t. t.queue == queue && t.index == k) takes

-- it is left, and not due
abbrev pub untaken : List Take → ℕ → ℕ → ℕ → Message → Bool
untaken takes queue now k m = not (is_taken takes queue k) && is_free (place.Queue queue) now m

-- the messages from an index on that were not taken
abbrev pub left_from : List Take → ℕ → ℕ → List Message → List Message
left_from takes queue i [] = []
left_from takes queue i (m ∷ ms) = cond (is_taken takes queue i) (left_from takes queue (i + 1) ms) (m ∷ left_from takes queue (i + 1) ms)

-- of all
abbrev pub left_in : List Take → ℕ → List Message → List Message
left_in takes queue ms = left_from takes queue 0 ms

pub nothing_taken : (queue i : ℕ) (ms : List Message) → left_from [] queue i ms ≡ ms
nothing_taken queue i [] = refl
nothing_taken queue i (m ∷ ms) = ap (λ ms. m ∷ ms) (nothing_taken queue (i + 1) ms)

-- where the same were taken, the same are left
left_same : (a b : List Take) (queue i : ℕ) (ms : List Message) → ((j : ℕ) → i ≤ j → is_taken a queue j ≡ is_taken b queue j) → left_from a queue i ms ≡ left_from b queue i ms
left_same a b queue i [] same = refl
left_same a b queue i (m ∷ ms) same =
    ap (λ t. cond t (left_from a queue (i + 1) ms) (m ∷ left_from a queue (i + 1) ms)) (same i (omega arith))
    ∙ ap (λ rest. cond (is_taken b queue i) rest (m ∷ rest)) (left_same a b queue (i + 1) ms (λ j h. same j (omega (arith, h))))

-- one take more
abbrev pub with_one : List Take → ℕ → ℕ → List Take
with_one takes queue index = takes ++ record { queue = queue; index = index } ∷ []

pub one_more : (takes : List Take) (of index queue j : ℕ) → is_taken (with_one takes of index) queue j ≡ (is_taken takes queue j || (of == queue && index == j))
one_more takes of index queue j = list_any-append (λ t. t.queue == queue && t.index == j) takes (record { queue = of; index = index } ∷ [])
    ∙ ap (λ b. is_taken takes queue j || b) (end (of == queue && index == j))
  where
    end : (b : Bool) → (b || false) ≡ b
    end true = refl
    end false = refl

or_false : (a b : Bool) → b ≡ false → (a || b) ≡ a
or_false true b e = refl
or_false false b e = e

and_not : (a b : Bool) → b ≡ false → (a && b) ≡ false
and_not true b e = e
and_not false b e = refl

not_and : (a b : Bool) → a ≡ false → (a && b) ≡ false
not_and a b e = ap (λ a. a && b) e

differ : (a b : ℕ) → a < b → (a == b) ≡ false
differ a b lt = grind (arith, nat_tests)

differ_too : (a b : ℕ) → b < a → (a == b) ≡ false
differ_too a b lt = grind (arith, nat_tests)

pub itself : (a : ℕ) → (a == a) ≡ true
itself a = grind (arith, nat_tests)

-- behind it the same are left
behind_same : (takes : List Take) (queue index i : ℕ) (ms : List Message) → index < i → left_from (with_one takes queue index) queue i ms ≡ left_from takes queue i ms
behind_same takes queue index i ms lt = left_same (with_one takes queue index) takes queue i ms (λ j h.
    one_more takes queue index queue j
    ∙ or_false (is_taken takes queue j) (queue == queue && index == j) (and_not (queue == queue) (index == j) (differ index j (omega (arith, lt, h)))))

-- and in another queue
pub other_same : (takes : List Take) (of index queue : ℕ) (ms : List Message) → (of == queue) ≡ false → left_in (with_one takes of index) queue ms ≡ left_in takes queue ms
other_same takes of index queue ms other = left_same (with_one takes of index) takes queue 0 ms (λ j h.
    one_more takes of index queue j ∙ or_false (is_taken takes queue j) (of == queue && index == j) (not_and (of == queue) (index == j) other))

-- it is taken
one_taken : (takes : List Take) (queue index : ℕ) → is_taken (with_one takes queue index) queue index ≡ true
one_taken takes queue index = one_more takes queue index queue index
    ∙ ap (λ b. is_taken takes queue index || (b && index == index)) (itself queue) ∙ ap (λ b. is_taken takes queue index || b) (itself index) ∙ end (is_taken takes queue index)
  where
    end : (b : Bool) → (b || true) ≡ true
    end true = refl
    end false = refl

-- what was taken stays so
still_taken : (takes : List Take) (queue index j : ℕ) → is_taken takes queue j ≡ true → is_taken (with_one takes queue index) queue j ≡ true
still_taken takes queue index j e = one_more takes queue index queue j ∙ ap (λ b. b || (queue == queue && index == j)) e

-- what stands before it is as it was
before_same : (takes : List Take) (queue index j : ℕ) → j < index → is_taken (with_one takes queue index) queue j ≡ is_taken takes queue j
before_same takes queue index j lt = one_more takes queue index queue j
    ∙ or_false (is_taken takes queue j) (queue == queue && index == j) (and_not (queue == queue) (index == j) (differ_too index j lt))

module _ (takes : List Take) (queue now : ℕ) where
  abbrev free : Message → Bool
  free m = is_free (place.Queue queue) now m

  -- the greatest priority
  top_is : (i low : ℕ) (ms : List Message) → top_from (untaken takes queue now) i low ms ≡ fold max low (map (λ m. m.priority) (filter free (left_from takes queue i ms)))
  top_is i low [] = refl
  top_is i low (m ∷ ms) = at (is_taken takes queue i) (free m) refl (λ low. top_is (i + 1) low ms)
    where
      rest : List Message
      rest = left_from takes queue (i + 1) ms

      top : Bool → List Message → ℕ → ℕ
      top f more low = fold max low (map (λ m. m.priority) (cond f (m ∷ more) more))

      at : (t f : Bool) → free m ≡ f → ((low : ℕ) → top_from (untaken takes queue now) (i + 1) low ms ≡ fold max low (map (λ m. m.priority) (filter free rest)))
          → top_from (untaken takes queue now) (i + 1) (cond (not t && f) (max low m.priority) low) ms
          ≡ fold max low (map (λ m. m.priority) (filter free (cond t rest (m ∷ rest))))
      at true f e more = more low
      at false true e more = more (max low m.priority) ∙ sym (ap (λ f. top f (filter free rest) low) e)
      at false false e more = more low ∙ sym (ap (λ f. top f (filter free rest) low) e)

  -- a message that is found at an index is found among those that are left, and leaves them
  pub record IsFound (i : ℕ) (ms : List Message) (j k : ℕ) : Type 0 where
    pub offset : ℕ
    pub place : j ≡ i + offset
    pub message : Message
    pub there : slice_get ms offset ≡ Some message
    pub left : slice_get (left_from takes queue i ms) k ≡ Some message
    pub rest : left_from (with_one takes queue j) queue i ms ≡ remove (left_from takes queue i ms) k

  -- one is found exactly where one is found among those that are left
  abbrev pub Finds : ℕ → List Message → Option ℕ → Option ℕ → Type 0
  Finds i ms None None = Unit {0}
  Finds i ms (Some j) (Some k) = IsFound i ms j k
  Finds i ms None (Some k) = ⊥
  Finds i ms (Some j) None = ⊥

  module _ (i : ℕ) (m : Message) (ms : List Message) where
    abbrev behind : List Message
    behind = left_from takes queue (i + 1) ms

    -- the first one was taken before
    passed : is_taken takes queue i ≡ true → (o p : Option ℕ) → Finds (i + 1) ms o p → Finds i (m ∷ ms) o p
    passed e None None f = tt
    passed e None (Some k) f = f
    passed e (Some j) None f = f
    passed e (Some j) (Some k) f = record {
      offset = suc f.offset;
      place = let p = f.place in omega (arith, p);
      message = f.message;
      there = f.there;
      left = ap (λ b. slice_get (cond b behind (m ∷ behind)) k) e ∙ f.left;
      rest = ap (λ b. cond b (left_from (with_one takes queue j) queue (i + 1) ms) (m ∷ left_from (with_one takes queue j) queue (i + 1) ms)) (still_taken takes queue j i e)
          ∙ f.rest ∙ sym (ap (λ b. remove (cond b behind (m ∷ behind)) k) e);
    }

    -- it is left, and another one is found
    left_there : is_taken takes queue i ≡ false → (o p : Option ℕ) → Finds (i + 1) ms o p → Finds i (m ∷ ms) o (option_map (λ k. suc k) p)
    left_there e None None f = tt
    left_there e None (Some k) f = f
    left_there e (Some j) None f = f
    left_there e (Some j) (Some k) f = let p = f.place in record {
      offset = suc f.offset;
      place = omega (arith, p);
      message = f.message;
      there = f.there;
      left = ap (λ b. slice_get (cond b behind (m ∷ behind)) (suc k)) e ∙ f.left;
      rest = ap (λ b. cond b (left_from (with_one takes queue j) queue (i + 1) ms) (m ∷ left_from (with_one takes queue j) queue (i + 1) ms))
          (before_same takes queue j i (omega (arith, p)) ∙ e)
          ∙ ap (λ ms. m ∷ ms) f.rest ∙ sym (ap (λ b. remove (cond b behind (m ∷ behind)) (suc k)) e);
    }

    -- it is found
    found_here : is_taken takes queue i ≡ false → IsFound i (m ∷ ms) i 0
    found_here e = record {
      offset = 0;
      place = omega arith;
      message = m;
      there = refl;
      left = ap (λ b. slice_get (cond b behind (m ∷ behind)) 0) e;
      rest = ap (λ b. cond b (left_from (with_one takes queue i) queue (i + 1) ms) (m ∷ left_from (with_one takes queue i) queue (i + 1) ms)) (one_taken takes queue i)
          ∙ behind_same takes queue i (i + 1) ms (omega arith) ∙ sym (ap (λ b. remove (cond b behind (m ∷ behind)) 0) e);
    }

  finds : (top i : ℕ) (ms : List Message)
      → Finds i ms (index_from (untaken takes queue now) top i ms) (position (λ m. free m && nat_le top m.priority) (left_from takes queue i ms))
  finds top i [] = tt
  finds top i (m ∷ ms) = at (is_taken takes queue i) (free m) (nat_le top m.priority) refl refl (finds top (i + 1) ms)
    where
      test : Message → Bool
      test m = free m && nat_le top m.priority

      rest : List Message
      rest = left_from takes queue (i + 1) ms

      next : Option ℕ
      next = index_from (untaken takes queue now) top (i + 1) ms

      step : (b : Bool) → test m ≡ b → position test (m ∷ rest) ≡ cond b (Some 0) (option_map (λ k. suc k) (position test rest))
      step b e = position_step test m rest ∙ ap (λ b. cond b (Some 0) (option_map (λ k. suc k) (position test rest))) e

      at : (t f l : Bool) → is_taken takes queue i ≡ t → test m ≡ (f && l) → Finds (i + 1) ms next (position test rest)
          → Finds i (m ∷ ms) (cond ((not t && f) && l) (Some i) next) (position test (cond t rest (m ∷ rest)))
      at true f l e test_is more = passed i m ms e next (position test rest) more
      at false true true e test_is more = subst (Finds i (m ∷ ms) (Some i)) (sym (step true test_is)) (found_here i m ms e)
      at false true false e test_is more = subst (Finds i (m ∷ ms) next) (sym (step false test_is)) (left_there i m ms e next (position test rest) more)
      at false false l e test_is more = subst (Finds i (m ∷ ms) next) (sym (step false test_is)) (left_there i m ms e next (position test rest) more)

  -- the next one is the first of those that are left
  pub next_is_first : (ms : List Message) → Finds 0 ms (next_of (untaken takes queue now) ms) (first_index free (left_in takes queue ms))
  next_is_first ms = subst (λ top. Finds 0 ms (index_from (untaken takes queue now) top 0 ms) (first_index free held)) (sym (top_is 0 0 ms)) (finds (top_priority free held) 0 ms)
    where
      held : List Message
      held = left_in takes queue ms
