-- What a header releases is there, each number once, and few.
use Rattle.std.proofs.Common.{refl, ap, sym, subst, ◌∙◌, length, arith}
use Rattle.std.proofs.lemmas.Bool.Decides.{nat_tests}
use Rattle.std.proofs.lemmas.List.{length-map}
use Rattle.std.proofs.lemmas.List.Elements.{recursion_from_All}
use Rattle.std.specs.List.{AllByRecursion, flat_map, list_any}
use Rattle.std.specs.Option.{option_map_or}
use Rattle.std.specs.Prelude.{◌&&◌, ◌+◌, ◌++◌, ◌<◌, ◌==◌, ◌||◌, ◌∷◌, ◌≡◌, ◌≤◌, [], All, Bool, IfSome, IsNone, List, MatchOption, None, Option, Some, cond, false, filter, map, max, nat_le, option_and_then, position, remove, slice_get, slice_set, suc, true, zero, ℕ}
use Rattle.mqb_base.specs.Same.{same_guid}
use Rattle.mqb_base.specs.declared.ids.Guid.{Guid}
use Rattle.mqb_plain.specs.Lists.{InOrder, RisesFrom, at_most, is_sent_by, messages_of}
use Rattle.mqb_plain.specs.Plain.{PlainLists}
use Rattle.mqb_plain.specs.declared.outgoing.Outgoing.{Outgoing}
use Rattle.mqb_model.specs.Lists.{with_changed, with_first_changed, without_first}
use Rattle.mqb_model.specs.calls.hear.Session.{released_of}
use Rattle.mqb_model.specs.records.Releases.{has_recoverable, is_released_by, message_released, release_fits, releases_fit, without_recoverable, without_released}
use Rattle.mqb_model.specs.rules.Effects.{Effect}
use Rattle.mqb_model.specs.state.State.{State}
use Rattle.mqb_model.specs.state.Valid.{IsOwn, IsValidState, kept_messages}
use Rattle.mqb_model.proofs.Followed.{and_false}
use Rattle.mqb_model.proofs.Linking.{itself}
use Rattle.mqb_model.proofs.Members.{Fewer, PairsByRecursion, all_weaker, fewer_all, fewer_filter, fewer_pairs, first_passes, keep, none, pairs_of, skip, some_is, split_and}
use Rattle.mqb_model.proofs.Names.{same_guid_is}
use Rattle.mqb_model.proofs.Offering.{Differ}
use Rattle.mqb_model.proofs.Remaining.{waiting}

-- Tests of lists.

pub or_right : (a b : Bool) → b ≡ true → (a || b) ≡ true
or_right true b e = refl
or_right false b e = e

any_set : {X : Type 0} (q : X → Bool) (xs : List X) (k : ℕ) (x y : X) → slice_get xs k ≡ Some x → q y ≡ q x → list_any q (slice_set xs k y) ≡ list_any q xs
any_set q [] k x y e same = refl
any_set q (z ∷ zs) zero x y e same = ap (λ b. b || list_any q zs) (same ∙ ap q (sym (some_is z x e)))
any_set q (z ∷ zs) (suc k) x y e same = ap (λ b. q z || b) (any_set q zs k x y e same)

any_first : {X : Type 0} (q : X → Bool) (change : X → X) (passes : X → Bool) (xs : List X) → ((x : X) → q (change x) ≡ q x)
    → list_any q (with_first_changed change passes xs) ≡ list_any q xs
any_first q change passes xs same = at (position passes xs)
  where
    changed : (k : ℕ) (o : Option _) → slice_get xs k ≡ o → list_any q (option_map_or (λ x. slice_set xs k (change x)) o xs) ≡ list_any q xs
    changed k None e = refl
    changed k (Some x) e = any_set q xs k x (change x) e (same x)

    at : (o : Option ℕ) → list_any q (option_map_or (with_changed change xs) o xs) ≡ list_any q xs
    at None = refl
    at (Some k) = changed k (slice_get xs k) refl

any_removed : {X : Type 0} (q : X → Bool) (xs : List X) (k : ℕ) → IfSome (slice_get xs k) (λ x. q x ≡ false) → list_any q (remove xs k) ≡ list_any q xs
any_removed q [] zero h = refl
any_removed q [] (suc k) h = refl
any_removed q (x ∷ xs) zero h = ap (λ b. b || list_any q xs) (sym h)
any_removed q (x ∷ xs) (suc k) h = ap (λ b. q x || b) (any_removed q xs k h)

any_without : {X : Type 0} (p q : X → Bool) (xs : List X) → ((x : X) → p x ≡ true → q x ≡ false) → list_any q (without_first p xs) ≡ list_any q xs
any_without p q xs apart = at (position p xs) (first_passes p xs)
  where
    other : (o : Option _) → IfSome o (λ x. p x ≡ true) → IfSome o (λ x. q x ≡ false)
    other None h = tt
    other (Some x) h = apart x h

    at : (o : Option ℕ) → IfSome (option_and_then (slice_get xs) o) (λ x. p x ≡ true) → list_any q (option_map_or (remove xs) o xs) ≡ list_any q xs
    at None h = refl
    at (Some k) h = any_removed q xs k (other (slice_get xs k) h)

pub any_at : {X : Type 0} (q : X → Bool) (xs : List X) (k : ℕ) (x : X) → slice_get xs k ≡ Some x → q x ≡ true → list_any q xs ≡ true
any_at q [] k x e h = absurd (let none : ⊥ = cc in none)
any_at q (z ∷ zs) zero x e h = ap (λ b. b || list_any q zs) (ap q (some_is z x e) ∙ h)
any_at q (z ∷ zs) (suc k) x e h = or_right (q z) (list_any q zs) (any_at q zs k x e h)

-- each member passes beside some member where it passes beside itself
pub any_itself : {X : Type 0} (t : X → X → Bool) (xs : List X) → AllByRecursion (λ x. t x x ≡ true) xs → AllByRecursion (λ x. list_any (t x) xs ≡ true) xs
any_itself t [] h = tt
any_itself t (x ∷ xs) h = (
  ap (λ b. b || list_any (t x) xs) h.0,
  all_weaker (λ y. list_any (t y) xs ≡ true) (λ y. list_any (t y) (x ∷ xs) ≡ true) (λ y e. or_right (t y x) (list_any (t y) xs) e) xs (any_itself t xs h.1),
)

-- Releases one after another.

abbrev pub Apart : ℕ → ℕ → Type 0
Apart a b = (a == b) ≡ false

abbrev pub AreThere : State → List ℕ → Type 0
AreThere s numbers = AllByRecursion (λ n. release_fits s n ≡ true) numbers

number_apart : (a n k : ℕ) → (a == n) ≡ true → (n == k) ≡ false → (a == k) ≡ false
number_apart a n k e f = grind (arith, nat_tests)

other_release : (s : State) (n k : ℕ) (o : Outgoing) → Apart n k → is_released_by s n o ≡ true → is_released_by s k o ≡ false
other_release s n k o apart h = let both = split_and (same_guid o.message.id.qm s.identity.guid) (o.message.id.number == n) h in
    and_false (same_guid o.message.id.qm s.identity.guid) (o.message.id.number == k) (number_apart o.message.id.number n k both.1 apart)

still_there : (s : State) (n k : ℕ) → Apart n k → release_fits s k ≡ true → release_fits (without_released s n) k ≡ true
still_there s n k apart h = any_first (has_recoverable s k) (without_recoverable s n) (has_recoverable s n) s.plain
    (λ p. any_without (is_released_by s n) (is_released_by s k) p.recoverable (λ o e. other_release s n k o apart e)) ∙ h

pub releases_go : (e : Effect) (numbers : List ℕ) → AreThere e.state numbers → PairsByRecursion Apart numbers → releases_fit e numbers ≡ true
releases_go e [] there apart = refl
releases_go e (n ∷ numbers) there apart = ap (λ b. b && releases_fit (message_released e n) numbers) there.0
    ∙ releases_go (message_released e n) numbers (each numbers apart.0 there.1) apart.1
  where
    each : (ks : List ℕ) → AllByRecursion (Apart n) ks → AreThere e.state ks → AreThere (message_released e n).state ks
    each [] a t = tt
    each (k ∷ ks) a t = (still_there e.state n k a.0 t.0, each ks a.1 t.1)

-- The released messages of a valid state.

pub all_mapped : {X Y : Type 0} (P : Y → Type 0) (f : X → Y) (xs : List X) → AllByRecursion (λ x. P (f x)) xs → AllByRecursion P (map f xs)
all_mapped P f [] h = tt
all_mapped P f (x ∷ xs) h = (h.0, all_mapped P f xs h.1)

pub mapped_all : {X Y : Type 0} (P : Y → Type 0) (f : X → Y) (xs : List X) → AllByRecursion P (map f xs) → AllByRecursion (λ x. P (f x)) xs
mapped_all P f [] h = tt
mapped_all P f (x ∷ xs) h = (h.0, mapped_all P f xs h.1)

pairs_mapped : {X Y : Type 0} (R : Y → Y → Type 0) (f : X → Y) (xs : List X) → PairsByRecursion (λ a b. R (f a) (f b)) xs → PairsByRecursion R (map f xs)
pairs_mapped R f [] h = tt
pairs_mapped R f (x ∷ xs) h = (all_mapped (R (f x)) f xs h.0, pairs_mapped R f xs h.1)

mapped_pairs : {X Y : Type 0} (R : Y → Y → Type 0) (f : X → Y) (xs : List X) → PairsByRecursion R (map f xs) → PairsByRecursion (λ a b. R (f a) (f b)) xs
mapped_pairs R f [] h = tt
mapped_pairs R f (x ∷ xs) h = (mapped_all (R (f x)) f xs h.0, mapped_pairs R f xs h.1)

fewer_none : {X : Type 0} (xs : List X) → Fewer [] xs
fewer_none [] = none
fewer_none (x ∷ xs) = skip x (fewer_none xs)

fewer_left : {X : Type 0} (xs zs : List X) → Fewer xs (xs ++ zs)
fewer_left [] zs = fewer_none zs
fewer_left (x ∷ xs) zs = keep x (fewer_left xs zs)

fewer_right : {X : Type 0} (zs : List X) {xs ys : List X} → Fewer xs ys → Fewer xs (zs ++ ys)
fewer_right [] f = f
fewer_right (z ∷ zs) f = skip z (fewer_right zs f)

pub fewer_at : {X Y : Type 0} (of : X → List Y) (xs : List X) (k : ℕ) (x : X) → slice_get xs k ≡ Some x → Fewer (of x) (flat_map of xs)
fewer_at of [] k x e = absurd (let none : ⊥ = cc in none)
fewer_at of (z ∷ zs) zero x e = subst (λ w. Fewer (of x) (of w ++ flat_map of zs)) (sym (some_is z x e)) (fewer_left (of x) (flat_map of zs))
fewer_at of (z ∷ zs) (suc k) x e = fewer_right (of z) (fewer_at of zs k x e)

numbers_differ : (own : Guid) (items : List Outgoing) → AllByRecursion (λ o. same_guid o.message.id.qm own ≡ true) items → PairsByRecursion (λ a b. Differ a.message b.message) items
    → PairsByRecursion (λ a b. Apart a.message.id.number b.message.id.number) items
numbers_differ own [] mine d = tt
numbers_differ own (o ∷ items) mine d = (each items mine.1 d.0, numbers_differ own items mine.1 d.1)
  where
    split : (a b : Bool) → a ≡ true → (a && b) ≡ false → b ≡ false
    split true b e f = f
    split false b e f = absurd (let none : ⊥ = cc in none)

    each : (others : List Outgoing) → AllByRecursion (λ x. same_guid x.message.id.qm own ≡ true) others → AllByRecursion (λ x. Differ o.message x.message) others
        → AllByRecursion (λ x. Apart o.message.id.number x.message.id.number) others
    each [] m f = tt
    each (x ∷ others) m f = (
      split (same_guid o.message.id.qm x.message.id.qm) (o.message.id.number == x.message.id.number)
          (ap (λ g. same_guid o.message.id.qm g) (same_guid_is x.message.id.qm own m.0) ∙ mine.0) f.0,
      each others m.1 f.1,
    )

-- the recoverable messages that a peer acknowledged up to a number
module _ (s : State) (v : IsValidState s) (k : ℕ) (p : PlainLists) (at : slice_get s.plain k ≡ Some p) (number : ℕ) where
  within : Fewer (messages_of p.recoverable) (waiting s)
  within = fewer_right (kept_messages s) (fewer_at (λ p. messages_of p.recoverable) s.plain k p at)

  mine : AllByRecursion (λ o. same_guid o.message.id.qm s.identity.guid ≡ true) p.recoverable
  mine = mapped_all (λ m. same_guid m.id.qm s.identity.guid ≡ true) (λ o. o.message) p.recoverable
      (all_weaker (IsOwn s.identity.guid s.next_number) (λ m. same_guid m.id.qm s.identity.guid ≡ true) (λ m w. w.source) (messages_of p.recoverable)
      (fewer_all (IsOwn s.identity.guid s.next_number) within (recursion_from_All (IsOwn s.identity.guid s.next_number) (waiting s) v.own)))

  named : AllByRecursion (λ o. has_recoverable s o.message.id.number p ≡ true) p.recoverable
  named = any_itself (λ o x. is_released_by s o.message.id.number x) p.recoverable (all_weaker (λ o. same_guid o.message.id.qm s.identity.guid ≡ true)
      (λ o. is_released_by s o.message.id.number o ≡ true) (λ o e. ap (λ b. b && o.message.id.number == o.message.id.number) e ∙ itself o.message.id.number) p.recoverable mine)

  abbrev chosen : List Outgoing
  chosen = filter (is_sent_by number) p.recoverable

  pub released_there : AreThere s (released_of number p)
  released_there = all_mapped (λ n. release_fits s n ≡ true) (λ o. o.message.id.number) chosen
      (all_weaker (λ o. has_recoverable s o.message.id.number p ≡ true) (λ o. release_fits s o.message.id.number ≡ true)
      (λ o e. any_at (has_recoverable s o.message.id.number) s.plain k p at e) chosen
      (fewer_all (λ o. has_recoverable s o.message.id.number p ≡ true) (fewer_filter (is_sent_by number) p.recoverable) named))

  pub released_apart : PairsByRecursion Apart (released_of number p)
  released_apart = pairs_mapped Apart (λ o. o.message.id.number) chosen (fewer_pairs (λ a b. Apart a.message.id.number b.message.id.number) (fewer_filter (is_sent_by number) p.recoverable)
      (numbers_differ s.identity.guid p.recoverable mine (mapped_pairs Differ (λ o. o.message) p.recoverable (fewer_pairs Differ within (pairs_of Differ (waiting s) v.ids_differ)))))

-- How many there are.

none_sent : (number : ℕ) (items : List Outgoing) → AllByRecursion (λ o. IsNone o.mark) items → length (filter (is_sent_by number) items) ≡ 0
none_sent number [] h = refl
none_sent number (o ∷ items) h = at (none_sent number items h.1) o.mark h.0
  where
    at : length (filter (is_sent_by number) items) ≡ 0 → (k : Option ℕ) → IsNone k → length (cond (at_most number k) (o ∷ filter (is_sent_by number) items) (filter (is_sent_by number) items)) ≡ 0
    at few None n = few
    at few (Some mark) n = absurd (let e : ⊥ = cc in e)

count_rises : (low number : ℕ) (items : List Outgoing) → RisesFrom low items → length (filter (is_sent_by number) items) + low ≤ max low number
count_rises low number [] h = omega arith
count_rises low number (o ∷ items) h = at (λ mark r. count_rises mark number items r) o.mark h
  where
    at : ((mark : ℕ) → RisesFrom mark items → length (filter (is_sent_by number) items) + mark ≤ max mark number) → (k : Option ℕ) → MatchOption k (All (λ p. IsNone p.mark) items) (λ mark. (low < mark) × RisesFrom mark items)
        → length (cond (at_most number k) (o ∷ filter (is_sent_by number) items) (filter (is_sent_by number) items)) + low ≤ max low number
    at more None n = let few = none_sent number items (recursion_from_All (λ p. IsNone p.mark) items n) in omega (arith, few)
    at more (Some mark) n = by (nat_le mark number) refl
      where
        lt : low < mark
        lt = n.0

        rest : length (filter (is_sent_by number) items) + mark ≤ max mark number
        rest = more mark n.1

        counted : (a low mark number : ℕ) → nat_le mark number ≡ true → low < mark → a + mark ≤ max mark number → suc a + low ≤ max low number
        counted a low mark number e lt le = let within : mark ≤ number = grind (arith, nat_tests) in omega (arith, within, lt, le)

        left : (a low mark number : ℕ) → nat_le mark number ≡ false → low < mark → a + mark ≤ max mark number → a + low ≤ max low number
        left a low mark number e lt le = let above : number < mark = grind (arith, nat_tests) in omega (arith, above, lt, le)

        by : (b : Bool) → nat_le mark number ≡ b
            → length (cond b (o ∷ filter (is_sent_by number) items) (filter (is_sent_by number) items)) + low ≤ max low number
        by true e = counted (length (filter (is_sent_by number) items)) low mark number e lt rest
        by false e = left (length (filter (is_sent_by number) items)) low mark number e lt rest

pub released_few : (number : ℕ) (p : PlainLists) → InOrder p.recoverable → length (released_of number p) ≤ number
released_few number p h = let counted = count_rises 0 number p.recoverable h in let same = length-map (filter (is_sent_by number) p.recoverable) (λ o. o.message.id.number) in
    omega (arith, counted, same)
