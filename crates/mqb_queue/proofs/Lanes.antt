-- The first message of both lanes of a place.
use Rattle.std.proofs.Common.{◌≡◌, ℕ, ◌<◌, ◌≤◌, ◌+◌, ◌-◌, Bool, true, false, cond, ltb, List, ◌∷◌, ◌++◌, length, append_assoc, length-append, Some, None, sym, ap, ◌∙◌, subst, arith}
use Rattle.std.specs.List.{All, slice_get}
use Rattle.std.specs.Option.{option_map}
use Rattle.std.proofs.lemmas.Bool.{true≢false, ltb-true, ltb-false, le-ltb, lt-ltb}
use Rattle.std.proofs.lemmas.List.Elements.{All-cons, All-append, All-weaker}
use Rattle.std.proofs.lemmas.Option.{same_Some}
use Rattle.mqb_base.specs.declared.message.Lane.TheVariants as lane
use Rattle.mqb_base.specs.declared.message.Message.{Message}
use Rattle.mqb_queue.specs.First.{first_index, first_position, position_of}
use Rattle.mqb_queue.specs.Lists.{Lists}
use Rattle.mqb_queue.proofs.Tops.{IsSplit, splits_at, first_there, is_first_index, none_is_first, none_is_free}

-- Of two lists one after the other.

-- no free message has a greater priority than the first
first_is_most : (free : Message → Bool) (held : List Message) (k : ℕ) (s : IsSplit free held k) → All (λ m. free m ≡ true → m.priority ≤ s.first.priority) held
first_is_most free held k s =
    subst (λ ms. All (λ m. free m ≡ true → m.priority ≤ s.first.priority) ms) (sym s.whole)
    (All-append (λ m. free m ≡ true → m.priority ≤ s.first.priority) s.before (s.first ∷ s.behind)
    (All-weaker (λ m. free m ≡ true → m.priority < s.first.priority) (λ m. free m ≡ true → m.priority ≤ s.first.priority)
    (λ m lower so. let l : m.priority < s.first.priority = lower so in omega (arith, l)) s.before s.is_first.before_lower)
    (All-cons (λ m. free m ≡ true → m.priority ≤ s.first.priority) s.first s.behind (λ so. omega arith) s.is_first.behind_no_higher))

-- where none is free, each free one is anything
pub vacuous : (free : Message → Bool) (P : Message → Type 0) (held : List Message) → All (λ m. free m ≡ false) held → All (λ m. free m ≡ true → P m) held
vacuous free P held none = All-weaker (λ m. free m ≡ false) (λ m. free m ≡ true → P m) (λ m is so. absurd (true≢false (sym so ∙ is))) held none

former_first : (free : Message → Bool) (xs ys : List Message) (k : ℕ) (s : IsSplit free xs k) → All (λ m. free m ≡ true → m.priority ≤ s.first.priority) ys
    → first_index free (xs ++ ys) ≡ Some k
former_first free xs ys k s low =
    ap (λ ms. first_index free (ms ++ ys)) s.whole
    ∙ (ap (first_index free) (append_assoc s.before (s.first ∷ s.behind) ys)
    ∙ (is_first_index free s.before s.first (s.behind ++ ys) (record {
      first_is_free = s.is_first.first_is_free;
      before_lower = s.is_first.before_lower;
      behind_no_higher = All-append (λ m. free m ≡ true → m.priority ≤ s.first.priority) s.behind ys s.is_first.behind_no_higher low;
    })
    ∙ ap Some s.place))

latter_first : (free : Message → Bool) (xs ys : List Message) (k : ℕ) (s : IsSplit free ys k) → All (λ m. free m ≡ true → m.priority < s.first.priority) xs
    → first_index free (xs ++ ys) ≡ Some (length xs + k)
latter_first free xs ys k s low =
    ap (λ ms. first_index free (xs ++ ms)) s.whole
    ∙ (ap (first_index free) (sym (append_assoc xs s.before (s.first ∷ s.behind)))
    ∙ (is_first_index free (xs ++ s.before) s.first s.behind (record {
      first_is_free = s.is_first.first_is_free;
      before_lower = All-append (λ m. free m ≡ true → m.priority < s.first.priority) xs s.before low s.is_first.before_lower;
      behind_no_higher = s.is_first.behind_no_higher;
    })
    ∙ ap Some (length-append xs s.before ∙ ap (λ j. length xs + j) s.place)))

pub both_none : (free : Message → Bool) (xs ys : List Message) → first_index free xs ≡ None → first_index free ys ≡ None → first_index free (xs ++ ys) ≡ None
both_none free xs ys h g =
    none_is_first free (xs ++ ys) (All-append (λ m. free m ≡ false) xs ys (none_is_free free xs h) (none_is_free free ys g))

pub former_alone : (free : Message → Bool) (xs ys : List Message) (k : ℕ) → first_index free xs ≡ Some k → first_index free ys ≡ None
    → first_index free (xs ++ ys) ≡ Some k
former_alone free xs ys k h g =
    let s = splits_at free xs k h in
    former_first free xs ys k s (vacuous free (λ m. m.priority ≤ s.first.priority) ys (none_is_free free ys g))

pub latter_alone : (free : Message → Bool) (xs ys : List Message) (k : ℕ) → first_index free xs ≡ None → first_index free ys ≡ Some k
    → first_index free (xs ++ ys) ≡ Some (length xs + k)
latter_alone free xs ys k h g =
    let s = splits_at free ys k g in
    latter_first free xs ys k s (vacuous free (λ m. m.priority < s.first.priority) xs (none_is_free free xs h))

pub former_of_both : (free : Message → Bool) (xs ys : List Message) (j k : ℕ) (a b : Message) → first_index free xs ≡ Some j → first_index free ys ≡ Some k
    → slice_get xs j ≡ Some a → slice_get ys k ≡ Some b → b.priority ≤ a.priority → first_index free (xs ++ ys) ≡ Some j
former_of_both free xs ys j k a b h g at_j at_k low =
    let s = splits_at free xs j h in
    let t = splits_at free ys k g in
    let is_a : s.first ≡ a = same_Some s.first a (sym (first_there free xs j s) ∙ at_j) in
    let is_b : t.first ≡ b = same_Some t.first b (sym (first_there free ys k t) ∙ at_k) in
    let lower : t.first.priority ≤ s.first.priority = subst (λ (m : Message). t.first.priority ≤ m.priority) (sym is_a) (subst (λ (m : Message). m.priority ≤ a.priority) (sym is_b) low) in
    former_first free xs ys j s
    (All-weaker (λ m. free m ≡ true → m.priority ≤ t.first.priority) (λ m. free m ≡ true → m.priority ≤ s.first.priority)
    (λ m most so. omega (arith, most so, lower)) ys (first_is_most free ys k t))

pub latter_of_both : (free : Message → Bool) (xs ys : List Message) (j k : ℕ) (a b : Message) → first_index free xs ≡ Some j → first_index free ys ≡ Some k
    → slice_get xs j ≡ Some a → slice_get ys k ≡ Some b → a.priority < b.priority → first_index free (xs ++ ys) ≡ Some (length xs + k)
latter_of_both free xs ys j k a b h g at_j at_k low =
    let s = splits_at free xs j h in
    let t = splits_at free ys k g in
    let is_a : s.first ≡ a = same_Some s.first a (sym (first_there free xs j s) ∙ at_j) in
    let is_b : t.first ≡ b = same_Some t.first b (sym (first_there free ys k t) ∙ at_k) in
    let lower : s.first.priority < t.first.priority = subst (λ (m : Message). s.first.priority < m.priority) (sym is_b) (subst (λ (m : Message). m.priority < b.priority) (sym is_a) low) in
    latter_first free xs ys k t
    (All-weaker (λ m. free m ≡ true → m.priority ≤ s.first.priority) (λ m. free m ≡ true → m.priority < t.first.priority)
    (λ m most so. omega (arith, most so, lower)) xs (first_is_most free xs j s))

-- the place of a lane where the first message of both stands
pub durable_position : (free : Message → Bool) (l : Lists) (k : ℕ) → first_index free (l.durable ++ l.express) ≡ Some k → k < length l.durable
    → first_position free l ≡ Some (record { lane = lane.Durable; index = k })
durable_position free l k is within =
    ap (option_map (position_of l)) is
    ∙ ap (λ (b : Bool). Some (cond b (record { lane = lane.Durable; index = k }) (record { lane = lane.Express; index = k - length l.durable }))) (lt-ltb k (length l.durable) within)

pub express_position : (free : Message → Bool) (l : Lists) (k : ℕ) → first_index free (l.durable ++ l.express) ≡ Some (length l.durable + k)
    → first_position free l ≡ Some (record { lane = lane.Express; index = k })
express_position free l k is =
    ap (option_map (position_of l)) is
    ∙ (ap (λ (b : Bool). Some (cond b (record { lane = lane.Durable; index = length l.durable + k }) (record { lane = lane.Express; index = (length l.durable + k) - length l.durable })))
    (le-ltb (length l.durable + k) (length l.durable) (omega arith))
    ∙ ap (λ (j : ℕ). Some (record { lane = lane.Express; index = j })) (omega arith))

pub no_position : (free : Message → Bool) (l : Lists) → first_index free l.durable ≡ None → first_index free l.express ≡ None → first_position free l ≡ None
no_position free l h g = ap (option_map (position_of l)) (both_none free l.durable l.express h g)

-- as the first messages of both lanes tell it
pub latter_position : (free : Message → Bool) (l : Lists) (k : ℕ) → first_index free l.durable ≡ None → first_index free l.express ≡ Some k
    → first_position free l ≡ Some (record { lane = lane.Express; index = k })
latter_position free l k h g = express_position free l k (latter_alone free l.durable l.express k h g)

pub former_position : (free : Message → Bool) (l : Lists) (k : ℕ) → first_index free l.durable ≡ Some k → first_index free l.express ≡ None
    → k < length l.durable → first_position free l ≡ Some (record { lane = lane.Durable; index = k })
former_position free l k h g within = durable_position free l k (former_alone free l.durable l.express k h g) within

abbrev pub IsLower : Lists → ℕ → ℕ → Bool → Type 0
IsLower l j k lower = (a b : Message) → slice_get l.durable j ≡ Some a → slice_get l.express k ≡ Some b → lower ≡ ltb a.priority b.priority

pub lower_position : (free : Message → Bool) (l : Lists) (j k : ℕ) (lower : Bool) → first_index free l.durable ≡ Some j → first_index free l.express ≡ Some k
    → IsLower l j k lower → lower ≡ true → first_position free l ≡ Some (record { lane = lane.Express; index = k })
lower_position free l j k lower h g tells is =
    let s = splits_at free l.durable j h in
    let t = splits_at free l.express k g in
    let at_j = first_there free l.durable j s in
    let at_k = first_there free l.express k t in
    express_position free l k (latter_of_both free l.durable l.express j k s.first t.first h g at_j at_k
    (ltb-true s.first.priority t.first.priority (sym (tells s.first t.first at_j at_k) ∙ is)))

pub no_lower_position : (free : Message → Bool) (l : Lists) (j k : ℕ) (lower : Bool) → first_index free l.durable ≡ Some j → first_index free l.express ≡ Some k
    → IsLower l j k lower → lower ≡ false → j < length l.durable → first_position free l ≡ Some (record { lane = lane.Durable; index = j })
no_lower_position free l j k lower h g tells is within =
    let s = splits_at free l.durable j h in
    let t = splits_at free l.express k g in
    let at_j = first_there free l.durable j s in
    let at_k = first_there free l.express k t in
    durable_position free l j (former_of_both free l.durable l.express j k s.first t.first h g at_j at_k
    (ltb-false s.first.priority t.first.priority (sym (tells s.first t.first at_j at_k) ∙ is))) within
