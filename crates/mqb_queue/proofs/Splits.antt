-- A list has at most one first message.
use Rattle.std.proofs.Common.{◌≡◌, ◌<◌, ◌≤◌, Bool, true, false, List, [], ◌∷◌, ◌++◌, Option, Some, None, refl, sym, ap, ◌∙◌, subst, arith}
use Rattle.std.specs.List.{All}
use Rattle.std.proofs.lemmas.Bool.{true≢false}
use Rattle.std.proofs.lemmas.List.Elements.{All-head, All-tail}
use Rattle.mqb_base.specs.declared.message.Message.{Message}
use Rattle.mqb_queue.specs.First.{First, IsFirst}

-- what holds of each member holds of one that stands in the list
holds_inside : (P : Message → Type 0) (held before behind : List Message) (m : Message) → held ≡ before ++ m ∷ behind → All P held → P m
holds_inside P held [] behind m is all = All-head P m behind (subst (λ ms. All P ms) is all)
holds_inside P held (x ∷ before) behind m is all = holds_inside P (before ++ m ∷ behind) before behind m refl (All-tail P x
    (before ++ m ∷ behind) (subst (λ ms. All P ms) is all))

not_none : (free : Message → Bool) (held : List Message) (a : Message) → All (λ m. free m ≡ false) held → First free held (Some a) → ⊥
not_none free held a none (before, behind, is, h) = true≢false (sym h.first_is_free
    ∙ holds_inside (λ m. free m ≡ false) held before behind a is none)

heads : {x y : Message} {xs ys : List Message} → x ∷ xs ≡ y ∷ ys → x ≡ y
heads e = cc

tails : {x y : Message} {xs ys : List Message} → x ∷ xs ≡ y ∷ ys → xs ≡ ys
tails e = cc

-- a message cannot be first where another one before it is
not_behind : (free : Message → Bool) (a b : Message) (behind before after : List Message) → behind ≡ before ++ b ∷ after → free a ≡ true
    → free b ≡ true
    → All (λ m. free m ≡ true → m.priority ≤ a.priority) behind → (free a ≡ true → a.priority < b.priority) → ⊥
not_behind free a b behind before after is free_a free_b low lower =
    let l : b.priority ≤ a.priority = holds_inside (λ m. free m ≡ true → m.priority ≤ a.priority) behind before after b is low free_b in
    let k : a.priority < b.priority = lower free_a in
    omega arith

pub one_first : (free : Message → Bool) (a b : Message) (before behind over under : List Message) → before ++ a ∷ behind ≡ over ++ b ∷ under
    → IsFirst free before a behind → IsFirst free over b under → a ≡ b
one_first free a b [] behind [] under same h k = heads same
one_first free a b [] behind (x ∷ over) under same h k =
    absurd (not_behind free a b behind over under (tails same) h.first_is_free k.first_is_free h.behind_no_higher
    (subst (λ m. free m ≡ true → m.priority < b.priority) (sym (heads same)) (All-head (λ m. free m ≡ true
    → m.priority < b.priority) x over k.before_lower)))
one_first free a b (x ∷ before) behind [] under same h k =
    absurd (not_behind free b a under before behind (sym (tails same)) k.first_is_free h.first_is_free k.behind_no_higher
    (subst (λ m. free m ≡ true → m.priority < a.priority) (heads same) (All-head (λ m. free m ≡ true
    → m.priority < a.priority) x before h.before_lower)))
one_first free a b (x ∷ before) behind (y ∷ over) under same h k =
    one_first free a b before behind over under (tails same)
    (record {
      first_is_free = h.first_is_free;
      before_lower = All-tail (λ m. free m ≡ true
          → m.priority < a.priority) x before h.before_lower;
      behind_no_higher = h.behind_no_higher;
    })
    (record {
      first_is_free = k.first_is_free;
      before_lower = All-tail (λ m. free m ≡ true
          → m.priority < b.priority) y over k.before_lower;
      behind_no_higher = k.behind_no_higher;
    })

pub same_first : (free : Message → Bool) (held : List Message) (a b : Option Message) → First free held a → First free held b → a ≡ b
same_first free held None None h k = refl
same_first free held None (Some b) h k = absurd (not_none free held b h k)
same_first free held (Some a) None h k = absurd (not_none free held a k h)
same_first free held (Some a) (Some b) (before, behind, is, h) (over, under, is_too, k) = ap (λ m. Some m)
    (one_first free a b before behind over under (sym is ∙ is_too) h k)
