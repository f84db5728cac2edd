-- Which message of a list is first.
use Rattle.std.proofs.Common.{◌≡◌, ℕ, suc, ◌<◌, ◌≤◌, ◌+◌, Bool, true, false, cond, leb, max, ◌&&◌, List, [], ◌∷◌, ◌++◌, length, map, Option, Some, None, refl, sym, ap, ◌∙◌, subst, arith}
use Rattle.std.specs.List.{All, filter, fold, position, slice_get}
use Rattle.std.specs.Option.{option_map, option_and_then}
use Rattle.std.proofs.lemmas.Bool.{true≢false, leb-true, leb-false, le-leb, lt-leb}
use Rattle.std.proofs.lemmas.List.Elements.{All-nil, All-cons, All-head, All-tail, All-append, All-weaker}
use Rattle.mqb_base.specs.declared.message.Message.{Message}
use Rattle.mqb_queue.specs.First.{First, IsFirst, first_index, first_of, top_priority}
use Rattle.mqb_queue.proofs.Positions.{position_step, position_behind, none_passes, passes_none, passing}

-- the greatest priority

abbrev top_from : (Message → Bool) → ℕ → List Message → ℕ
top_from free low held = fold max low (map (λ m. m.priority) (filter free held))

top_from_floor : (free : Message → Bool) (low : ℕ) (held : List Message) → low ≤ top_from free low held
top_from_floor free low [] = omega arith
top_from_floor free low (m ∷ held) = at (free m) (top_from_floor free (max low m.priority) held) (top_from_floor free low held)
  where
    at : (b : Bool) → max low m.priority ≤ top_from free (max low m.priority) held → low ≤ top_from free low held
        → low ≤ fold max low (map (λ n. n.priority) (cond b (m ∷ filter free held) (filter free held)))
    at true h g = omega (arith, h)
    at false h g = g

-- each free message has at most the greatest priority
pub at_most_top : (free : Message → Bool) (low : ℕ) (held : List Message) → All (λ m. free m ≡ true → m.priority ≤ top_from free low held) held
at_most_top free low [] = All-nil (λ m. free m ≡ true → m.priority ≤ low)
at_most_top free low (m ∷ held) = at (free m) refl (at_most_top free (max low m.priority) held) (at_most_top free low held)
  where
    at : (b : Bool) → free m ≡ b → All (λ n. free n ≡ true → n.priority ≤ top_from free (max low m.priority) held) held
        → All (λ n. free n ≡ true → n.priority ≤ top_from free low held) held
        → All (λ n. free n ≡ true → n.priority ≤ fold max low (map (λ n. n.priority) (cond b (m ∷ filter free held) (filter free held)))) (m ∷ held)
    at true is h g = All-cons (λ n. free n ≡ true → n.priority ≤ top_from free (max low m.priority) held) m held
        (λ so. omega (arith, top_from_floor free (max low m.priority) held)) h
    at false is h g = All-cons (λ n. free n ≡ true → n.priority ≤ top_from free low held) m held
        (λ so. absurd (true≢false (sym so ∙ is))) g

-- where each free message is at most a number, so is the greatest priority
free_at_most : (free : Message → Bool) (low bound : ℕ) (held : List Message) → low ≤ bound → All (λ m. free m ≡ true → m.priority ≤ bound) held
    → top_from free low held ≤ bound
free_at_most free low bound [] floor all = floor
free_at_most free low bound (m ∷ held) floor all =
    at (free m) refl (free_at_most free (max low m.priority) bound held) (free_at_most free low bound held floor rest)
  where
    P : Message → Type 0
    P n = free n ≡ true → n.priority ≤ bound

    rest : All (λ n. free n ≡ true → n.priority ≤ bound) held
    rest = All-tail (λ n. free n ≡ true → n.priority ≤ bound) m held all

    at : (b : Bool) → free m ≡ b → (max low m.priority ≤ bound → All (λ n. free n ≡ true → n.priority ≤ bound) held → top_from free (max low m.priority) held ≤ bound)
        → top_from free low held ≤ bound
        → fold max low (map (λ n. n.priority) (cond b (m ∷ filter free held) (filter free held))) ≤ bound
    at true is h g =
        h (omega (arith, floor, All-head (λ n. free n ≡ true → n.priority ≤ bound) m held all is)) (All-tail (λ n. free n ≡ true → n.priority ≤ bound) m held all)
    at false is h g = g

-- where none is free of at least the greatest priority, nothing raises it
unraised : (free : Message → Bool) (low : ℕ) (held : List Message)
    → All (λ m. (free m && leb (top_from free low held) m.priority) ≡ false) held → top_from free low held ≡ low
unraised free low [] none = refl
unraised free low (m ∷ held) none = at (free m) refl none (unraised free (max low m.priority) held) (unraised free low held)
  where
    T : Bool → ℕ
    T b = fold max low (map (λ n. n.priority) (cond b (m ∷ filter free held) (filter free held)))

    at : (b : Bool) → free m ≡ b → All (λ n. (free n && leb (T b) n.priority) ≡ false) (m ∷ held)
        → (All (λ n. (free n && leb (T true) n.priority) ≡ false) held → T true ≡ max low m.priority)
        → (All (λ n. (free n && leb (T false) n.priority) ≡ false) held → T false ≡ low)
        → T b ≡ low
    at true is h lifted same =
        let is_max : T true ≡ max low m.priority = lifted (All-tail (λ n. (free n && leb (T true) n.priority) ≡ false) m held h) in
        let head : leb (T true) m.priority ≡ false =
        sym (ap (λ b. b && leb (T true) m.priority) is) ∙ All-head (λ n. (free n && leb (T true) n.priority) ≡ false) m held h in
        omega (arith, is_max, leb-false (T true) m.priority head)
    at false is h lifted same = same (All-tail (λ n. (free n && leb (T false) n.priority) ≡ false) m held h)

abbrev highest : (Message → Bool) → List Message → Message → Bool
highest free held m = free m && leb (top_priority free held) m.priority

-- no message is first where none is free
pub none_is_free : (free : Message → Bool) (held : List Message) → first_index free held ≡ None → All (λ m. free m ≡ false) held
none_is_free free held none =
    All-weaker (λ m. highest free held m ≡ false) (λ m. free m ≡ false) not_free held passing
  where
    passing : All (λ m. highest free held m ≡ false) held
    passing = none_passes (highest free held) held none

    not_free : (m : Message) → highest free held m ≡ false → free m ≡ false
    not_free m is = at (free m) is
      where
        low : leb (top_priority free held) m.priority ≡ true
        low = ap (λ t. leb t m.priority) (unraised free 0 held passing) ∙ le-leb 0 m.priority (omega arith)

        at : (b : Bool) → (b && leb (top_priority free held) m.priority) ≡ false → b ≡ false
        at true h = absurd (true≢false (sym low ∙ h))
        at false h = refl

pub none_is_first : (free : Message → Bool) (held : List Message) → All (λ m. free m ≡ false) held → first_index free held ≡ None
none_is_first free held none =
    passes_none (highest free held) held
    (All-weaker (λ m. free m ≡ false) (λ m. highest free held m ≡ false) (λ m is. ap (λ b. b && leb (top_priority free held) m.priority) is) held none)

-- The first message stands where no free one before it has its priority, and none has a greater one.
pub is_first_index : (free : Message → Bool) (before : List Message) (m : Message) (behind : List Message) → IsFirst free before m behind
    → first_index free (before ++ m ∷ behind) ≡ Some (length before)
is_first_index free before m behind h =
    position_behind (highest free held) before (m ∷ behind) before_lower
    ∙ (ap (option_map (λ k. length before + k)) (position_step (highest free held) m behind ∙ ap (λ b. cond b (Some 0) (option_map suc (position (highest free held) behind))) passes)
    ∙ ap Some (omega arith))
  where
    held : List Message
    held = before ++ m ∷ behind

    P : Message → Type 0
    P n = free n ≡ true → n.priority ≤ m.priority

    all : All (λ n. free n ≡ true → n.priority ≤ m.priority) (before ++ m ∷ behind)
    all = All-append (λ n. free n ≡ true → n.priority ≤ m.priority) before (m ∷ behind)
        (All-weaker (λ n. free n ≡ true → n.priority < m.priority) (λ n. free n ≡ true → n.priority ≤ m.priority)
        (λ n lower so. let l : n.priority < m.priority = lower so in omega (arith, l)) before h.before_lower)
        (All-cons (λ n. free n ≡ true → n.priority ≤ m.priority) m behind (λ so. omega arith) h.behind_no_higher)

    top_is : top_priority free (before ++ m ∷ behind) ≡ m.priority
    top_is = antisymmetric (free_at_most free 0 m.priority (before ++ m ∷ behind) (omega arith) all)
        (All-head (λ n. free n ≡ true → n.priority ≤ top_priority free (before ++ m ∷ behind)) m behind
        (All-behind before (at_most_top free 0 (before ++ m ∷ behind))) h.first_is_free)
      where
        antisymmetric : top_priority free (before ++ m ∷ behind) ≤ m.priority → m.priority ≤ top_priority free (before ++ m ∷ behind)
            → top_priority free (before ++ m ∷ behind) ≡ m.priority
        antisymmetric a b = omega (arith, a, b)

        All-behind : (xs : List Message) → All (λ n. free n ≡ true → n.priority ≤ top_priority free (before ++ m ∷ behind)) (xs ++ m ∷ behind)
            → All (λ n. free n ≡ true → n.priority ≤ top_priority free (before ++ m ∷ behind)) (m ∷ behind)
        All-behind [] g = g
        All-behind (x ∷ xs) g =
            All-behind xs (All-tail (λ n. free n ≡ true → n.priority ≤ top_priority free (before ++ m ∷ behind)) x (xs ++ m ∷ behind) g)

    passes : highest free (before ++ m ∷ behind) m ≡ true
    passes =
        ap (λ b. b && leb (top_priority free (before ++ m ∷ behind)) m.priority) h.first_is_free
        ∙ (ap (λ t. leb t m.priority) top_is ∙ le-leb m.priority m.priority (omega arith))

    before_lower : All (λ n. highest free (before ++ m ∷ behind) n ≡ false) before
    before_lower = All-weaker (λ n. free n ≡ true → n.priority < m.priority) (λ n. highest free (before ++ m ∷ behind) n ≡ false) lower before h.before_lower
      where
        lower : (n : Message) → (free n ≡ true → n.priority < m.priority) → highest free (before ++ m ∷ behind) n ≡ false
        lower n is = at (free n) is
          where
            at : (b : Bool) → (b ≡ true → n.priority < m.priority) → (b && leb (top_priority free (before ++ m ∷ behind)) n.priority) ≡ false
            at true g = ap (λ t. leb t n.priority) top_is ∙ lt-leb m.priority n.priority (g refl)
            at false g = refl

-- And where a first message stands, it is the first.
pub record IsSplit (free : Message → Bool) (held : List Message) (k : ℕ) : Type 0 where
  pub before : List Message
  pub first : Message
  pub behind : List Message
  pub whole : held ≡ before ++ first ∷ behind
  pub place : length before ≡ k
  pub is_first : IsFirst free before first behind

pub splits_at : (free : Message → Bool) (held : List Message) (k : ℕ) → first_index free held ≡ Some k → IsSplit free held k
splits_at free held k is =
    let s = passing (highest free held) held k is in
    record {
      before = s.before;
      first = s.at;
      behind = s.behind;
      whole = s.whole;
      place = s.place;
      is_first = first_of_split s.before s.at s.behind s.whole s.passes s.none_before;
    }
  where
    t : ℕ
    t = top_priority free held

    both : (a b : Bool) → (a && b) ≡ true → (a ≡ true) × (b ≡ true)
    both true b h = (refl, h)
    both false b h = absurd (true≢false (sym h))

    first_of_split : (before : List Message) (m : Message) (behind : List Message) → held ≡ before ++ m ∷ behind → highest free held m ≡ true
        → All (λ n. highest free held n ≡ false) before → IsFirst free before m behind
    first_of_split before m behind whole so none =
        record {
          first_is_free = (both (free m) (leb (top_priority free held) m.priority) so).0;
          before_lower = All-weaker (λ n. highest free held n ≡ false) (λ n. free n ≡ true → n.priority < m.priority) lower before none;
          behind_no_higher = All-weaker (λ n. free n ≡ true → n.priority ≤ top_priority free held) (λ n. free n ≡ true → n.priority ≤ m.priority)
              (λ n most so_is. omega (arith, most so_is, high)) behind
              (behind_of before (subst (λ ms. All (λ n. free n ≡ true → n.priority ≤ top_priority free held) ms) whole (at_most_top free 0 held)));
        }
      where
        high : top_priority free held ≤ m.priority
        high = leb-true (top_priority free held) m.priority (both (free m) (leb (top_priority free held) m.priority) so).1

        lower : (n : Message) → highest free held n ≡ false → free n ≡ true → n.priority < m.priority
        lower n not_so is =
            let below = leb-false (top_priority free held) n.priority (sym (ap (λ b. b && leb (top_priority free held) n.priority) is) ∙ not_so) in
            omega (arith, below, high)

        behind_of : (xs : List Message) → All (λ n. free n ≡ true → n.priority ≤ top_priority free held) (xs ++ m ∷ behind)
            → All (λ n. free n ≡ true → n.priority ≤ top_priority free held) behind
        behind_of [] g = All-tail (λ n. free n ≡ true → n.priority ≤ top_priority free held) m behind g
        behind_of (x ∷ xs) g = behind_of xs (All-tail (λ n. free n ≡ true → n.priority ≤ top_priority free held) x (xs ++ m ∷ behind) g)

-- the message that stands there
pub middle : {X : Type 0} (before : List X) (x : X) (behind : List X) → slice_get (before ++ x ∷ behind) (length before) ≡ Some x
middle [] x behind = refl
middle (y ∷ before) x behind = middle before x behind

pub first_there : (free : Message → Bool) (held : List Message) (k : ℕ) → (s : IsSplit free held k) → slice_get held k ≡ Some s.first
first_there free held k s =
    ap (λ ms. slice_get ms k) s.whole ∙ (ap (λ j. slice_get (s.before ++ s.first ∷ s.behind) j) (sym s.place) ∙ middle s.before s.first s.behind)

-- the oldest free message of the greatest priority is the first one
pub oldest_is_first : (free : Message → Bool) (held : List Message) → First free held (first_of free held)
oldest_is_first free held = at (first_index free held) refl
  where
    at : (o : Option ℕ) → first_index free held ≡ o → First free held (option_and_then (slice_get held) o)
    at None is = none_is_free free held is
    at (Some k) is =
        let s = splits_at free held k is in
        subst (First free held) (sym (first_there free held k s)) (s.before, s.behind, s.whole, s.is_first)

-- A search that ends at a message of at least a priority that none is above finds the first one.
pub found_early : (free : Message → Bool) (bound : ℕ) (held : List Message) (k : ℕ) → All (λ m. free m ≡ true → m.priority ≤ bound) held
    → position (λ m. free m && leb bound m.priority) held ≡ Some k → first_index free held ≡ Some k
found_early free bound held k all is =
    let s = passing (λ m. free m && leb bound m.priority) held k is in
    subst (λ ms. first_index free ms ≡ Some k) (sym s.whole)
    (is_first_index free s.before s.at s.behind
    (early s.before s.at s.behind (subst (λ ms. All (λ m. free m ≡ true → m.priority ≤ bound) ms) s.whole all) s.passes s.none_before)
    ∙ ap Some s.place)
  where
    both : (a b : Bool) → (a && b) ≡ true → (a ≡ true) × (b ≡ true)
    both true b h = (refl, h)
    both false b h = absurd (true≢false (sym h))

    early : (before : List Message) (m : Message) (behind : List Message) → All (λ n. free n ≡ true → n.priority ≤ bound) (before ++ m ∷ behind)
        → (free m && leb bound m.priority) ≡ true → All (λ n. (free n && leb bound n.priority) ≡ false) before → IsFirst free before m behind
    early before m behind most so none =
        record {
          first_is_free = (both (free m) (leb bound m.priority) so).0;
          before_lower = All-weaker (λ n. (free n && leb bound n.priority) ≡ false) (λ n. free n ≡ true → n.priority < m.priority) lower before none;
          behind_no_higher = All-weaker (λ n. free n ≡ true → n.priority ≤ bound) (λ n. free n ≡ true → n.priority ≤ m.priority)
              (λ n low is_free. omega (arith, low is_free, high)) behind (behind_of before most);
        }
      where
        high : bound ≤ m.priority
        high = leb-true bound m.priority (both (free m) (leb bound m.priority) so).1

        lower : (n : Message) → (free n && leb bound n.priority) ≡ false → free n ≡ true → n.priority < m.priority
        lower n not_so is_free =
            let below = leb-false bound n.priority (sym (ap (λ b. b && leb bound n.priority) is_free) ∙ not_so) in
            omega (arith, below, high)

        behind_of : (xs : List Message) → All (λ n. free n ≡ true → n.priority ≤ bound) (xs ++ m ∷ behind) → All (λ n. free n ≡ true → n.priority ≤ bound) behind
        behind_of [] g = All-tail (λ n. free n ≡ true → n.priority ≤ bound) m behind g
        behind_of (x ∷ xs) g = behind_of xs (All-tail (λ n. free n ≡ true → n.priority ≤ bound) x (xs ++ m ∷ behind) g)
