-- How many messages have each priority, as messages come and go.
use Rattle.std.proofs.Common.{◌≡◌, ℕ, zero, suc, ◌<◌, ◌≤◌, ◌+◌, ◌-◌, ◌==◌, Bool, true, false, cond, eqb, List, [], ◌∷◌, ◌++◌, length, take, drop, get_or, set, refl, sym, ap, ◌∙◌, subst, arith}
use Rattle.std.specs.List.{All, insert, remove, slice_get}
use Rattle.std.proofs.lemmas.List.{take-append-drop, length-set, get_or-set_same, get_or-set_other}
use Rattle.std.proofs.lemmas.List.Elements.{All-nil, All-cons, All-head, All-tail, All-append, All-take, All-drop, All-weaker}
use Rattle.std.specs.Prelude.{Some}
use Rattle.std.proofs.lemmas.Bool.{true≢false, eqb-true, eq-eqb}
use Rattle.std.proofs.lemmas.Option.{none-some, same_Some}
use Rattle.mqb_base.specs.declared.message.Message.{Message}
use Rattle.mqb_queue.specs.Levels.{level, one_at, at_level, Counted}

at_level_joined : (k : ℕ) (xs ys : List Message) → at_level k (xs ++ ys) ≡ at_level k xs + at_level k ys
at_level_joined k [] ys = omega arith
at_level_joined k (m ∷ xs) ys = omega (arith, at_level_joined k xs ys)

one_at_most : (k l : ℕ) → one_at k l ≤ 1
one_at_most k l = at (k == l)
  where
    at : (b : Bool) → cond b 1 0 ≤ 1
    at true = omega arith
    at false = omega arith

pub at_level_most : (k : ℕ) (xs : List Message) → at_level k xs ≤ length xs
at_level_most k [] = omega arith
at_level_most k (m ∷ xs) = omega (arith, at_level_most k xs, one_at_most k (level m.priority))

pub at_level_inserted : (k at : ℕ) (m : Message) (xs : List Message) → at_level k (insert xs at m) ≡ at_level k xs + one_at k (level m.priority)
at_level_inserted k at m xs =
    let whole : at_level k (take at xs ++ drop at xs) ≡ at_level k xs = ap (at_level k) (take-append-drop at xs) in
    omega (arith, whole, at_level_joined k (take at xs) (drop at xs), at_level_joined k (take at xs) (m ∷ drop at xs))

pub at_level_removed : (k at : ℕ) (m : Message) (xs : List Message) → slice_get xs at ≡ Some m → at_level k (remove xs at) + one_at k (level m.priority) ≡ at_level k xs
at_level_removed k at m [] is = absurd (none-some m is)
at_level_removed k zero m (x ∷ xs) is =
    let same : one_at k (level x.priority) ≡ one_at k (level m.priority) = ap (λ (n : Message). one_at k (level n.priority)) (same_Some x m is) in
    omega (arith, same)
at_level_removed k (suc at) m (x ∷ xs) is = omega (arith, at_level_removed k at m xs is)

-- one more is counted
pub counted_more : (counts : List ℕ) (xs ys : List Message) (l : ℕ) → Counted counts xs → ((k : ℕ) → at_level k ys ≡ at_level k xs + one_at k l)
    → Counted (set counts l (get_or counts l 0 + 1)) ys
counted_more counts xs ys l c more = record {
  eight = length-set counts l (get_or counts l 0 + 1) ∙ c.eight;
  counted = λ k within. at k within (eqb k l) refl;
}
  where
    at : (k : ℕ) → k < 8 → (b : Bool) → eqb k l ≡ b → get_or (set counts l (get_or counts l 0 + 1)) k 0 ≡ at_level k ys
    at k within true is =
        let same : k ≡ l = eqb-true k l is in
        let one : one_at k l ≡ 1 = ap (λ (b : Bool). cond b 1 0) is in
        let stands : get_or (set counts l (get_or counts l 0 + 1)) k 0 ≡ get_or counts k 0 + 1 =
        subst (λ (j : ℕ). get_or (set counts j (get_or counts j 0 + 1)) k 0 ≡ get_or counts k 0 + 1) same
        (get_or-set_same counts k (get_or counts k 0 + 1) 0 (omega (arith, within, c.eight))) in
        omega (arith, stands, one, more k, c.counted k within)
    at k within false is =
        let one : one_at k l ≡ 0 = ap (λ (b : Bool). cond b 1 0) is in
        let stands : get_or (set counts l (get_or counts l 0 + 1)) k 0 ≡ get_or counts k 0 =
        get_or-set_other counts l k (get_or counts l 0 + 1) 0 (λ e. true≢false (sym (eq-eqb k l e) ∙ is)) in
        omega (arith, stands, one, more k, c.counted k within)

-- one less is counted
pub counted_less : (counts : List ℕ) (xs ys : List Message) (l : ℕ) → Counted counts xs → ((k : ℕ) → at_level k ys + one_at k l ≡ at_level k xs)
    → Counted (set counts l (get_or counts l 0 - 1)) ys
counted_less counts xs ys l c less = record {
  eight = length-set counts l (get_or counts l 0 - 1) ∙ c.eight;
  counted = λ k within. at k within (eqb k l) refl;
}
  where
    at : (k : ℕ) → k < 8 → (b : Bool) → eqb k l ≡ b → get_or (set counts l (get_or counts l 0 - 1)) k 0 ≡ at_level k ys
    at k within true is =
        let same : k ≡ l = eqb-true k l is in
        let one : one_at k l ≡ 1 = ap (λ (b : Bool). cond b 1 0) is in
        let stands : get_or (set counts l (get_or counts l 0 - 1)) k 0 ≡ get_or counts k 0 - 1 =
        subst (λ (j : ℕ). get_or (set counts j (get_or counts j 0 - 1)) k 0 ≡ get_or counts k 0 - 1) same
        (get_or-set_same counts k (get_or counts k 0 - 1) 0 (omega (arith, within, c.eight))) in
        omega (arith, stands, one, less k, c.counted k within)
    at k within false is =
        let one : one_at k l ≡ 0 = ap (λ (b : Bool). cond b 1 0) is in
        let stands : get_or (set counts l (get_or counts l 0 - 1)) k 0 ≡ get_or counts k 0 =
        get_or-set_other counts l k (get_or counts l 0 - 1) 0 (λ e. true≢false (sym (eq-eqb k l e) ∙ is)) in
        omega (arith, stands, one, less k, c.counted k within)

-- one that is there is counted
pub counted_there : (counts : List ℕ) (xs : List Message) (at : ℕ) (m : Message) → Counted counts xs → slice_get xs at ≡ Some m
    → 0 < get_or counts (level m.priority) 0
counted_there counts xs at m c is =
    let l : ℕ = level m.priority in
    let one : one_at l l ≡ 1 = ap (λ (b : Bool). cond b 1 0) (eq-eqb l l refl) in
    let within : l < 8 = omega arith in
    omega (arith, one, at_level_removed l at m xs is, c.counted l within)

-- where no level above a priority is counted, none of the messages has a greater one
bounded : (top bound : ℕ) (f : ℕ → ℕ) (xs : List Message) → ((k : ℕ) → k < 8 → at_level k xs ≤ f k)
    → ((p : ℕ) → p ≤ top → 0 < f (level p) → p ≤ bound) → All (λ m. m.priority ≤ top) xs → All (λ m. m.priority ≤ bound) xs
bounded top bound f [] most above all = All-nil (λ m. m.priority ≤ bound)
bounded top bound f (x ∷ xs) most above all =
    All-cons (λ m. m.priority ≤ bound) x xs
    (above x.priority (All-head (λ m. m.priority ≤ top) x xs all) (omega (arith, one, most l within)))
    (bounded top bound f xs (λ k lower. let h = most k lower in omega (arith, h)) above (All-tail (λ m. m.priority ≤ top) x xs all))
  where
    l : ℕ
    l = level x.priority

    within : l < 8
    within = omega arith

    one : one_at l l ≡ 1
    one = ap (λ (b : Bool). cond b 1 0) (eq-eqb l l refl)

pub none_above : (counts : List ℕ) (top bound : ℕ) (xs : List Message) → Counted counts xs
    → ((p : ℕ) → p ≤ top → 0 < get_or counts (level p) 0 → p ≤ bound) → All (λ m. m.priority ≤ top) xs → All (λ m. m.priority ≤ bound) xs
none_above counts top bound xs c above all =
    bounded top bound (λ k. get_or counts k 0) xs (λ k within. let h = c.counted k within in omega (arith, h)) above all

pub at_level_pushed : (k : ℕ) (m : Message) (xs : List Message) → at_level k (xs ++ m ∷ []) ≡ at_level k xs + one_at k (level m.priority)
at_level_pushed k m xs = omega (arith, at_level_joined k xs (m ∷ []))

-- a bound holds of one message more
higher : (low high : ℕ) (xs : List Message) → low ≤ high → All (λ m. m.priority ≤ low) xs → All (λ m. m.priority ≤ high) xs
higher low high xs le all = All-weaker (λ m. m.priority ≤ low) (λ m. m.priority ≤ high) (λ m h. omega (arith, h, le)) xs all

pub all_inserted : (low high at : ℕ) (m : Message) (xs : List Message) → low ≤ high → m.priority ≤ high → All (λ n. n.priority ≤ low) xs
    → All (λ n. n.priority ≤ high) (insert xs at m)
all_inserted low high at m xs le mine all =
    let all_high = higher low high xs le all in
    All-append (λ n. n.priority ≤ high) (take at xs) (m ∷ drop at xs) (All-take (λ n. n.priority ≤ high) at xs all_high)
    (All-cons (λ n. n.priority ≤ high) m (drop at xs) mine (All-drop (λ n. n.priority ≤ high) at xs all_high))

pub all_pushed : (low high : ℕ) (m : Message) (xs : List Message) → low ≤ high → m.priority ≤ high → All (λ n. n.priority ≤ low) xs
    → All (λ n. n.priority ≤ high) (xs ++ m ∷ [])
all_pushed low high m xs le mine all =
    All-append (λ n. n.priority ≤ high) xs (m ∷ []) (higher low high xs le all)
    (All-cons (λ n. n.priority ≤ high) m [] mine (All-nil (λ n. n.priority ≤ high)))
