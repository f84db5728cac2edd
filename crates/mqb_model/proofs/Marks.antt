-- Which changes of plain lists keep their marks in order, and within what a session sent.
use Rattle.std.proofs.Common.{refl, sym, subst, arith}
use Rattle.std.proofs.lemmas.List.Elements.{All-from_recursion, All-head, All-nil, All-push, All-tail, recursion_from_All}
use Rattle.std.specs.List.{AllByRecursion}
use Rattle.std.specs.Option.{option_map_or}
use Rattle.std.specs.Prelude.{◌+◌, ◌++◌, ◌<◌, ◌==◌, ◌∷◌, ◌≡◌, ◌≤◌, [], All, Bool, IfSome, IsNone, List, MatchOption, None, Option, Some, cond, false, is_none, position, slice_get, slice_set, suc, true, zero, ℕ}
use Rattle.mqb_base.specs.declared.message.Message.{Message}
use Rattle.mqb_plain.specs.Lists.{InOrder, RisesFrom, marked_next, unsent}
use Rattle.mqb_plain.specs.Plain.{PlainLists}
use Rattle.mqb_plain.specs.declared.outgoing.Outgoing.{Outgoing}
use Rattle.mqb_session.specs.State as one_end
use Rattle.mqb_model.specs.Lists.{with_changed, with_first_changed}
use Rattle.mqb_model.specs.managers.Valid.{BearMarks, IsUnsent, MarksRise, MayBear}
use Rattle.mqb_model.proofs.Members.{Fewer, all_append, fewer_all, keep, none, skip, some_is}

-- no mark
abbrev pub IsBlank : Outgoing → Type 0
IsBlank o = IsNone o.mark

-- What was not sent is in order.

unsent_rises : (low : ℕ) (xs : List Outgoing) → All IsBlank xs → RisesFrom low xs
unsent_rises low [] h = tt
unsent_rises low (o ∷ xs) h = at o.mark (All-head IsBlank o xs h)
  where
    at : (k : Option ℕ) → IsNone k → MatchOption k (All IsBlank xs) (λ mark. (low < mark) × RisesFrom mark xs)
    at None n = All-tail IsBlank o xs h
    at (Some mark) n = absurd (let e : ⊥ = cc in e)

lower_rises : (low high : ℕ) (xs : List Outgoing) → low ≤ high → RisesFrom high xs → RisesFrom low xs
lower_rises low high [] le h = tt
lower_rises low high (o ∷ xs) le h = at o.mark h
  where
    at : (k : Option ℕ) → MatchOption k (All IsBlank xs) (λ mark. (high < mark) × RisesFrom mark xs) → MatchOption k (All IsBlank xs) (λ mark. (low < mark) × RisesFrom mark xs)
    at None n = n
    at (Some mark) n = (let lt : high < mark = n.0 in omega (arith, le, lt), n.1)

-- Lists that lost messages.

fewer_blank : {xs ys : List Outgoing} → Fewer xs ys → All IsBlank ys → All IsBlank xs
fewer_blank f h = All-from_recursion IsBlank _ (fewer_all IsBlank f (recursion_from_All IsBlank _ h))

kept_rises : (low : ℕ) (o : Outgoing) (xs ys : List Outgoing) → (All IsBlank ys → All IsBlank xs) → ((mark : ℕ) → RisesFrom mark ys → RisesFrom mark xs)
    → RisesFrom low (o ∷ ys) → RisesFrom low (o ∷ xs)
kept_rises low o xs ys blank rises h = at o.mark h
  where
    at : (k : Option ℕ) → MatchOption k (All IsBlank ys) (λ mark. (low < mark) × RisesFrom mark ys) → MatchOption k (All IsBlank xs) (λ mark. (low < mark) × RisesFrom mark xs)
    at None n = blank n
    at (Some mark) n = (n.0, rises mark n.1)

skipped_rises : (low : ℕ) (o : Outgoing) (xs ys : List Outgoing) → (All IsBlank ys → All IsBlank xs) → ((mark : ℕ) → RisesFrom mark ys → RisesFrom mark xs)
    → RisesFrom low (o ∷ ys) → RisesFrom low xs
skipped_rises low o xs ys blank rises h = at o.mark h
  where
    at : (k : Option ℕ) → MatchOption k (All IsBlank ys) (λ mark. (low < mark) × RisesFrom mark ys) → RisesFrom low xs
    at None n = unsent_rises low xs (blank n)
    at (Some mark) n = lower_rises low mark xs (let lt : low < mark = n.0 in omega (arith, lt)) (rises mark n.1)

fewer_rises : (low : ℕ) {xs ys : List Outgoing} → Fewer xs ys → RisesFrom low ys → RisesFrom low xs
fewer_rises low none h = tt
fewer_rises low (keep o f) h = kept_rises low o _ _ (λ n. fewer_blank f n) (λ mark r. fewer_rises mark f r) h
fewer_rises low (skip o f) h = skipped_rises low o _ _ (λ n. fewer_blank f n) (λ mark r. fewer_rises mark f r) h

push_rises : (low : ℕ) (ys : List Outgoing) (m : Message) → RisesFrom low ys → RisesFrom low (ys ++ unsent m ∷ [])
push_rises low [] m h = All-nil IsBlank
push_rises low (o ∷ ys) m h = at (λ mark r. push_rises mark ys m r) o.mark h
  where
    at : ((mark : ℕ) → RisesFrom mark ys → RisesFrom mark (ys ++ unsent m ∷ [])) → (k : Option ℕ) → MatchOption k (All IsBlank ys) (λ mark. (low < mark) × RisesFrom mark ys)
        → MatchOption k (All IsBlank (ys ++ unsent m ∷ [])) (λ mark. (low < mark) × RisesFrom mark (ys ++ unsent m ∷ []))
    at more None n = All-push IsBlank ys (unsent m) n refl
    at more (Some mark) n = (n.0, more mark n.1)

-- The first list has members of the second, and perhaps one that was not sent behind them.
pub data Thins : List Outgoing → List Outgoing → Type 0 where
  lost : {xs ys : List Outgoing} → Fewer xs ys → Thins xs ys
  gained : (m : Message) (xs ys : List Outgoing) → xs ≡ ys ++ unsent m ∷ [] → Thins xs ys

pub thins_all : (Q : Outgoing → Type 0) → ((m : Message) → Q (unsent m)) → {xs ys : List Outgoing} → Thins xs ys → AllByRecursion Q ys → AllByRecursion Q xs
thins_all Q new (lost f) h = fewer_all Q f h
thins_all Q new (gained m xs ys e) h = subst (AllByRecursion Q) (sym e) (all_append Q ys (unsent m ∷ []) h (new m, tt))

thins_rise : {xs ys : List Outgoing} → Thins xs ys → InOrder ys → InOrder xs
thins_rise (lost f) h = fewer_rises 0 f h
thins_rise (gained m xs ys e) h = subst (RisesFrom 0) (sym e) (push_rises 0 ys m h)

-- both lists for a peer do so
pub record Thinned (after before : PlainLists) : Type 0 where
  pub recoverable : Thins after.recoverable before.recoverable
  pub express : Thins after.express before.express

pub thinned_rise : (q p : PlainLists) → Thinned q p → MarksRise p → MarksRise q
thinned_rise q p t h = record { recoverable = thins_rise t.recoverable h.recoverable; express = thins_rise t.express h.express }

thins_whole : (Q : Outgoing → Type 0) → ((m : Message) → Q (unsent m)) → {xs ys : List Outgoing} → Thins xs ys → All Q ys → All Q xs
thins_whole Q new t h = All-from_recursion Q _ (thins_all Q new t (recursion_from_All Q _ h))

pub thinned_unsent : (q p : PlainLists) → Thinned q p → IsUnsent p → IsUnsent q
thinned_unsent q p t h = record {
  recoverable = thins_whole IsBlank (λ m. refl) t.recoverable h.recoverable;
  express = thins_whole IsBlank (λ m. refl) t.express h.express;
}

thinned_bears : (session : one_end.State) (q p : PlainLists) → Thinned q p → (b : Bool) → MayBear b session p → MayBear b session q
thinned_bears session q p t false h = thinned_unsent q p t h
thinned_bears session q p t true h = record {
  recoverable = thins_whole (λ o. IfSome o.mark (λ mark. mark ≤ session.recoverable_sent)) (λ m. tt) t.recoverable h.recoverable;
  express = thins_whole (λ o. IfSome o.mark (λ mark. mark ≤ session.sent)) (λ m. tt) t.express h.express;
}

-- The lists for all peers.

pub bear_set : (session : one_end.State) (peer j : ℕ) (ps : List PlainLists) (k : ℕ) (p q : PlainLists) → slice_get ps k ≡ Some p
    → ((b : Bool) → MayBear b session p → MayBear b session q) → BearMarks session peer j ps → BearMarks session peer j (slice_set ps k q)
bear_set session peer j [] k p q e f h = tt
bear_set session peer j (z ∷ zs) zero p q e f h = (f (j == peer) (subst (λ w. MayBear (j == peer) session w) (some_is z p e) h.0), h.1)
bear_set session peer j (z ∷ zs) (suc k) p q e f h = (h.0, bear_set session peer (j + 1) zs k p q e f h.1)

pub bear_changed : (session : one_end.State) (peer j : ℕ) (change : PlainLists → PlainLists) (ps : List PlainLists) (k : ℕ) → ((p : PlainLists) → Thinned (change p) p)
    → BearMarks session peer j ps → BearMarks session peer j (with_changed change ps k)
bear_changed session peer j change ps k thins h = at (slice_get ps k) refl
  where
    at : (o : Option PlainLists) → slice_get ps k ≡ o → BearMarks session peer j (option_map_or (λ x. slice_set ps k (change x)) o ps)
    at None e = h
    at (Some p) e = bear_set session peer j ps k p (change p) e (thinned_bears session (change p) p (thins p)) h

pub bear_first : (session : one_end.State) (peer j : ℕ) (change : PlainLists → PlainLists) (passes : PlainLists → Bool) (ps : List PlainLists)
    → ((p : PlainLists) → Thinned (change p) p) → BearMarks session peer j ps → BearMarks session peer j (with_first_changed change passes ps)
bear_first session peer j change passes ps thins h = at (position passes ps)
  where
    at : (o : Option ℕ) → BearMarks session peer j (option_map_or (with_changed change ps) o ps)
    at None = h
    at (Some k) = bear_changed session peer j change ps k thins h

-- a session that sent more bears the same marks
pub may_bear_more : (one two : one_end.State) (p : PlainLists) (b : Bool) → one.sent ≤ two.sent → one.recoverable_sent ≤ two.recoverable_sent → MayBear b one p → MayBear b two p
may_bear_more one two p false s r h = h
may_bear_more one two p true s r h = record {
  recoverable = λ k d lt. more _ one.recoverable_sent two.recoverable_sent r (h.recoverable k d lt);
  express = λ k d lt. more _ one.sent two.sent s (h.express k d lt);
}
  where
    more : (o : Option ℕ) (a b : ℕ) → a ≤ b → IfSome o (λ mark. mark ≤ a) → IfSome o (λ mark. mark ≤ b)
    more None a b le h = tt
    more (Some mark) a b le h = omega (arith, le, h)

pub bear_more : (one two : one_end.State) (peer j : ℕ) (ps : List PlainLists) → one.sent ≤ two.sent → one.recoverable_sent ≤ two.recoverable_sent
    → BearMarks one peer j ps → BearMarks two peer j ps
bear_more one two peer j [] s r h = tt
bear_more one two peer j (p ∷ ps) s r h = (may_bear_more one two p (j == peer) s r h.0, bear_more one two peer (j + 1) ps s r h.1)

-- A session that has sent nothing.

none_marked : (low : ℕ) (xs : List Outgoing) → AllByRecursion (λ o. IfSome o.mark (λ mark. mark ≤ 0)) xs → RisesFrom low xs → AllByRecursion IsBlank xs
none_marked low [] few h = tt
none_marked low (o ∷ xs) few h = at o.mark refl few.0 h
  where
    blank : (k : Option ℕ) → k ≡ None → IsNone k
    blank None e = refl
    blank (Some mark) e = absurd (let none : ⊥ = cc in none)

    at : (k : Option ℕ) → o.mark ≡ k → IfSome k (λ mark. mark ≤ 0) → MatchOption k (All IsBlank xs) (λ mark. (low < mark) × RisesFrom mark xs) → AllByRecursion IsBlank (o ∷ xs)
    at None e f n = (blank o.mark e, recursion_from_All IsBlank xs n)
    at (Some mark) e f n = absurd (let lt : low < mark = n.0 in omega (arith, f, lt))

nothing_sent : (session : one_end.State) (p : PlainLists) (b : Bool) → session.sent ≡ 0 → session.recoverable_sent ≤ session.sent → MarksRise p → MayBear b session p → IsUnsent p
nothing_sent session p false e le rise h = h
nothing_sent session p true e le rise h = record {
  recoverable = All-from_recursion IsBlank p.recoverable (none_marked 0 p.recoverable (few p.recoverable session.recoverable_sent (omega (arith, e, le)) h.recoverable) rise.recoverable);
  express = All-from_recursion IsBlank p.express (none_marked 0 p.express (few p.express session.sent (omega (arith, e)) h.express) rise.express);
}
  where
    one : (o : Option ℕ) (n : ℕ) → n ≤ 0 → IfSome o (λ mark. mark ≤ n) → IfSome o (λ mark. mark ≤ 0)
    one None n le h = tt
    one (Some mark) n le h = omega (arith, le, h)

    few : (items : List Outgoing) (n : ℕ) → n ≤ 0 → All (λ o. IfSome o.mark (λ mark. mark ≤ n)) items → AllByRecursion (λ o. IfSome o.mark (λ mark. mark ≤ 0)) items
    few items n le h = recursion_from_All (λ o. IfSome o.mark (λ mark. mark ≤ 0)) items (λ k d lt. one _ n le (h k d lt))

pub none_sent_yet : (session : one_end.State) (peer j : ℕ) (ps : List PlainLists) → session.sent ≡ 0 → session.recoverable_sent ≤ session.sent → AllByRecursion MarksRise ps
    → BearMarks session peer j ps → AllByRecursion IsUnsent ps
none_sent_yet session peer j [] e le rise h = tt
none_sent_yet session peer j (p ∷ ps) e le rise h = (nothing_sent session p (j == peer) e le rise.0 h.0, none_sent_yet session peer (j + 1) ps e le rise.1 h.1)

-- One message more was sent.

blank_rises : (low bound number : ℕ) (items : List Outgoing) → low ≤ bound → bound < number → AllByRecursion (λ o. IfSome o.mark (λ mark. mark ≤ bound)) items
    → RisesFrom low items → RisesFrom low (marked_next number items)
blank_rises low bound number [] le lt few h = tt
blank_rises low bound number (o ∷ items) le lt few h = at (λ mark le r. blank_rises mark bound number items le lt few.1 r) o.mark refl few.0 h
  where
    marked : Outgoing
    marked = record o { mark = Some number }

    at : ((mark : ℕ) → mark ≤ bound → RisesFrom mark items → RisesFrom mark (marked_next number items))
        → (k : Option ℕ) → o.mark ≡ k → IfSome k (λ mark. mark ≤ bound) → MatchOption k (All IsBlank items) (λ mark. (low < mark) × RisesFrom mark items)
        → RisesFrom low (cond (is_none k) (marked ∷ items) (o ∷ marked_next number items))
    at more None e f n = (omega (arith, le, lt), unsent_rises number items n)
    at more (Some mark) e f n = subst (λ k. MatchOption k (All IsBlank (marked_next number items)) (λ mark. (low < mark) × RisesFrom mark (marked_next number items))) (sym e)
        (n.0, more mark f n.1)

pub marked_rise : (bound number : ℕ) (items : List Outgoing) → bound < number → All (λ o. IfSome o.mark (λ mark. mark ≤ bound)) items → InOrder items
    → InOrder (marked_next number items)
marked_rise bound number items lt few h = blank_rises 0 bound number items (omega arith) lt (recursion_from_All (λ o. IfSome o.mark (λ mark. mark ≤ bound)) items few) h

-- a fact of messages, and of the mark that is given, holds of all items where it did
pub marked_all : (Q : Outgoing → Type 0) (number : ℕ) (items : List Outgoing) → ((o : Outgoing) → Q o → Q (record o { mark = Some number })) → AllByRecursion Q items
    → AllByRecursion Q (marked_next number items)
marked_all Q number [] f h = tt
marked_all Q number (o ∷ items) f h = at (marked_all Q number items f h.1) (is_none o.mark)
  where
    at : AllByRecursion Q (marked_next number items) → (b : Bool) → AllByRecursion Q (cond b (record o { mark = Some number } ∷ items) (o ∷ marked_next number items))
    at more true = (f o h.0, h.1)
    at more false = (h.0, more)
