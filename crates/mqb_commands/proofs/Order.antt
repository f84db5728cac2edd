-- The free messages of a list by their priorities, and that this is the order in which they are taken.
use Rattle.std.proofs.Common.{◌≡◌, ℕ, zero, suc, ◌<◌, ◌≤◌, Bool, true, false, cond, eqb, ◌&&◌, List, [], ◌∷◌, ◌++◌, take, refl, sym, ap, ◌∙◌, subst, arith}
use Rattle.std.specs.List.{All, filter}
use Rattle.std.proofs.lemmas.Bool.{true≢false, eqb-true, eqb-false, ne_eqb}
use Rattle.std.proofs.lemmas.List.Elements.{All-nil, All-cons, All-head, All-tail, All-weaker, filter-append}
use Rattle.mqb_base.specs.declared.message.Message.{Message}
use Rattle.mqb_commands.specs.Turns.{TakenInTurn}

-- free, and of this priority
abbrev pub is_of : (Message → Bool) → ℕ → Message → Bool
is_of free p m = free m && eqb m.priority p

-- the free messages of priorities below a number, those of the greatest one first
abbrev pub by_priority : (Message → Bool) → ℕ → List Message → List Message
by_priority free zero held = []
by_priority free (suc p) held = filter (is_of free p) held ++ by_priority free p held

-- Tests.

both : (a b : Bool) → (a && b) ≡ true → (a ≡ true) × (b ≡ true)
both true b h = (refl, h)
both false b h = absurd (true≢false (sym h))

other : (free : Message → Bool) (p : ℕ) (m : Message) → (m.priority ≡ p → ⊥) → is_of free p m ≡ false
other free p m differs = at (free m)
  where
    at : (b : Bool) → (b && eqb m.priority p) ≡ false
    at true = ne_eqb m.priority p differs
    at false = refl

-- a free message that is not of a priority has another one
differs : (free : Message → Bool) (p : ℕ) (m : Message) → is_of free p m ≡ false → free m ≡ true → m.priority ≡ p → ⊥
differs free p m not_so is = eqb-false m.priority p (sym (ap (λ b. b && eqb m.priority p) is) ∙ not_so)

-- Where the first member stands that a filter keeps.

pub filter_keeps : {X : Type 0} (w : X → Bool) (x : X) (xs : List X) → w x ≡ true → filter w (x ∷ xs) ≡ x ∷ filter w xs
filter_keeps w x xs is = ap (λ b. cond b (x ∷ filter w xs) (filter w xs)) is

pub filter_leaves : {X : Type 0} (w : X → Bool) (x : X) (xs : List X) → w x ≡ false → filter w (x ∷ xs) ≡ filter w xs
filter_leaves w x xs is = ap (λ b. cond b (x ∷ filter w xs) (filter w xs)) is

record IsKept (w : Message → Bool) (held : List Message) (first : Message) (more : List Message) : Type 0 where
  before : List Message
  behind : List Message
  whole : held ≡ before ++ first ∷ behind
  none_before : All (λ m. w m ≡ false) before
  before_empty : filter w before ≡ []
  kept : w first ≡ true
  rest : filter w behind ≡ more

heads : {x y : Message} {xs ys : List Message} → x ∷ xs ≡ y ∷ ys → x ≡ y
heads e = cc

tails : {x y : Message} {xs ys : List Message} → x ∷ xs ≡ y ∷ ys → xs ≡ ys
tails e = cc

no_member : (first : Message) (more : List Message) → [] ≡ first ∷ more → ⊥
no_member first more e = cc

first_kept : (w : Message → Bool) (held : List Message) (first : Message) (more : List Message) → filter w held ≡ first ∷ more → IsKept w held first more
first_kept w [] first more is = absurd (no_member first more is)
first_kept w (x ∷ held) first more is = at (w x) refl (first_kept w held first more)
  where
    at : (b : Bool) → w x ≡ b → (filter w held ≡ first ∷ more → IsKept w held first more) → IsKept w (x ∷ held) first more
    at true so within =
        let same : x ∷ filter w held ≡ first ∷ more = sym (filter_keeps w x held so) ∙ is in
        record {
          before = [];
          behind = held;
          whole = ap (λ m. m ∷ held) (heads same);
          none_before = All-nil (λ m. w m ≡ false);
          before_empty = refl;
          kept = subst (λ m. w m ≡ true) (heads same) so;
          rest = tails same;
        }
    at false so within =
        let inner : IsKept w held first more = within (sym (filter_leaves w x held so) ∙ is) in
        record {
          before = x ∷ inner.before;
          behind = inner.behind;
          whole = ap (λ ms. x ∷ ms) inner.whole;
          none_before = All-cons (λ m. w m ≡ false) x inner.before so inner.none_before;
          before_empty = filter_leaves w x inner.before so ∙ inner.before_empty;
          kept = inner.kept;
          rest = inner.rest;
        }

none_kept : (w : Message → Bool) (held : List Message) → filter w held ≡ [] → All (λ m. w m ≡ false) held
none_kept w [] is = All-nil (λ m. w m ≡ false)
none_kept w (x ∷ held) is = at (w x) refl (none_kept w held)
  where
    at : (b : Bool) → w x ≡ b → (filter w held ≡ [] → All (λ m. w m ≡ false) held) → All (λ m. w m ≡ false) (x ∷ held)
    at true so within = absurd (no_member x (filter w held) (sym is ∙ filter_keeps w x held so))
    at false so within = All-cons (λ m. w m ≡ false) x held so (within (sym (filter_leaves w x held so) ∙ is))

-- A message that leaves changes nothing below its priority.
unchanged_below : (free : Message → Bool) (n : ℕ) (before : List Message) (m : Message) (behind : List Message) → n ≤ m.priority
    → by_priority free n (before ++ m ∷ behind) ≡ by_priority free n (before ++ behind)
unchanged_below free zero before m behind low = refl
unchanged_below free (suc p) before m behind low =
    let apart : is_of free p m ≡ false = other free p m (λ e. let e2 : m.priority ≡ p = e in let l : suc p ≤ m.priority = low in omega arith) in
    let same : filter (is_of free p) (before ++ m ∷ behind) ≡ filter (is_of free p) (before ++ behind) =
    filter-append (is_of free p) before (m ∷ behind)
    ∙ ap (λ ms. filter (is_of free p) before ++ ms) (filter_leaves (is_of free p) m behind apart)
    ∙ sym (filter-append (is_of free p) before behind) in
    let below : by_priority free p (before ++ m ∷ behind) ≡ by_priority free p (before ++ behind) =
    unchanged_below free p before m behind (let l : suc p ≤ m.priority = low in omega arith) in
    ap (λ ms. ms ++ by_priority free p (before ++ m ∷ behind)) same ∙ ap (λ ms. filter (is_of free p) (before ++ behind) ++ ms) below

abbrev AllBelow : (Message → Bool) → ℕ → List Message → Type 0
AllBelow free n held = All (λ m. free m ≡ true → m.priority < n) held

abbrev Turns : (Message → Bool) → ℕ → Type 0
Turns free count = (n : ℕ) (held : List Message) → AllBelow free n held → TakenInTurn free count held (take count (by_priority free n held))

all_but : (P : Message → Type 0) (before : List Message) (m : Message) (behind : List Message) → All P (before ++ m ∷ behind) → All P (before ++ behind)
all_but P [] m behind all = All-tail P m behind all
all_but P (x ∷ before) m behind all = All-cons P x (before ++ behind) (All-head P x (before ++ m ∷ behind) all)
    (all_but P before m behind (All-tail P x (before ++ m ∷ behind) all))

all_front : (P : Message → Type 0) (before after : List Message) → All P (before ++ after) → All P before
all_front P [] after all = All-nil P
all_front P (x ∷ before) after all = All-cons P x before (All-head P x (before ++ after) all) (all_front P before after (All-tail P x (before ++ after) all))

all_back : (P : Message → Type 0) (before after : List Message) → All P (before ++ after) → All P after
all_back P [] after all = all
all_back P (x ∷ before) after all = all_back P before after (All-tail P x (before ++ after) all)

-- what holds of each by two facts
all_with : (P Q R : Message → Type 0) → ((m : Message) → P m → Q m → R m) → (ms : List Message) → All P ms → All Q ms → All R ms
all_with P Q R joins [] p q = All-nil R
all_with P Q R joins (m ∷ ms) p q = All-cons R m ms (joins m (All-head P m ms p) (All-head Q m ms q)) (all_with P Q R joins ms (All-tail P m ms p) (All-tail Q m ms q))

-- One more message in turn, where so many are in turn.
module _ (free : Message → Bool) (count : ℕ) (in_turn : Turns free count) where
  -- the first of the greatest priority is first of all
  begins : (p : ℕ) (held : List Message) → AllBelow free (suc p) held → (first : Message) (more : List Message) → IsKept (is_of free p) held first more
      → TakenInTurn free (suc count) held (first ∷ take count (more ++ by_priority free p held))
  begins p held below first more k =
      let split = both (free first) (eqb first.priority p) k.kept in
      let level : first.priority ≡ p = eqb-true first.priority p split.1 in
      let all : AllBelow free (suc p) (k.before ++ first ∷ k.behind) = subst (AllBelow free (suc p)) k.whole below in (
        k.before,
        k.behind,
        k.whole,
        record {
          first_is_free = split.0;
          before_lower = all_with (λ m. free m ≡ true → m.priority < suc p) (λ m. is_of free p m ≡ false) (λ m. free m ≡ true → m.priority < first.priority)
              (λ m under not_so is. let low : m.priority < suc p = under is in lower m.priority low (differs free p m not_so is) level)
              k.before (all_front (λ m. free m ≡ true → m.priority < suc p) k.before (first ∷ k.behind) all) k.none_before;
          behind_no_higher = All-weaker (λ m. free m ≡ true → m.priority < suc p) (λ m. free m ≡ true → m.priority ≤ first.priority)
              (λ m under is. let low : m.priority < suc p = under is in omega (arith, low, level)) k.behind
              (All-tail (λ m. free m ≡ true → m.priority < suc p) first k.behind (all_back (λ m. free m ≡ true → m.priority < suc p) k.before (first ∷ k.behind) all));
        },
        subst (λ ms. TakenInTurn free count (k.before ++ k.behind) (take count ms)) (left level)
            (in_turn (suc p) (k.before ++ k.behind) (all_but (λ m. free m ≡ true → m.priority < suc p) k.before first k.behind all)),
      )
    where
      lower : (q : ℕ) → q < suc p → (q ≡ p → ⊥) → first.priority ≡ p → q < first.priority
      lower q under apart level = at (eqb q p) refl
        where
          at : (b : Bool) → eqb q p ≡ b → q < first.priority
          at true so = absurd (apart (eqb-true q p so))
          at false so = let e : (q ≡ p → ⊥) = apart in omega (arith, under, level, apart)

      left : first.priority ≡ p → by_priority free (suc p) (k.before ++ k.behind) ≡ more ++ by_priority free p held
      left level =
          let upper : filter (is_of free p) (k.before ++ k.behind) ≡ more =
          filter-append (is_of free p) k.before k.behind ∙ ap (λ ms. ms ++ filter (is_of free p) k.behind) k.before_empty ∙ k.rest in
          let under : by_priority free p (k.before ++ k.behind) ≡ by_priority free p held =
          sym (unchanged_below free p k.before first k.behind (let l : first.priority ≡ p = level in omega arith))
          ∙ ap (by_priority free p) (sym k.whole) in
          ap (λ ms. ms ++ by_priority free p (k.before ++ k.behind)) upper ∙ ap (λ ms. more ++ ms) under

  one_more : Turns free (suc count)
  one_more zero held below = All-weaker (λ m. free m ≡ true → m.priority < 0) (λ m. free m ≡ false) none held below
    where
      none : (m : Message) → (free m ≡ true → m.priority < 0) → free m ≡ false
      none m under = at (free m) refl
        where
          at : (b : Bool) → free m ≡ b → free m ≡ false
          at true so = absurd (let no : m.priority < 0 = under so in omega arith)
          at false so = so
  one_more (suc p) held below = at (filter (is_of free p) held) refl (one_more p held)
    where
      at : (kept : List Message) → filter (is_of free p) held ≡ kept
          → (AllBelow free p held → TakenInTurn free (suc count) held (take (suc count) (by_priority free p held)))
          → TakenInTurn free (suc count) held (take (suc count) (filter (is_of free p) held ++ by_priority free p held))
      at [] is lower = subst (λ ms. TakenInTurn free (suc count) held (take (suc count) (ms ++ by_priority free p held))) (sym is)
          (lower (all_with (λ m. free m ≡ true → m.priority < suc p) (λ m. is_of free p m ≡ false) (λ m. free m ≡ true → m.priority < p)
          (λ m under not_so so. let low : m.priority < suc p = under so in let apart : (m.priority ≡ p → ⊥) = differs free p m not_so so in omega (arith, low, apart))
          held below (none_kept (is_of free p) held is)))
      at (first ∷ more) is lower = subst (λ ms. TakenInTurn free (suc count) held (take (suc count) (ms ++ by_priority free p held))) (sym is)
          (begins p held below first more (first_kept (is_of free p) held first more is))

-- The free messages of priorities below a number, where all are, in this order: so many of them are taken in turn.
pub by_priority_in_turn : (free : Message → Bool) (count : ℕ) → Turns free count
by_priority_in_turn free zero n held below = refl
by_priority_in_turn free (suc count) n held below = one_more free count (by_priority_in_turn free count) n held below
