-- The numbers that are released.
use Rattle.std.proofs.Common.{◌≡◌, ◌+◌, ◌<◌, ◌≤◌, ℕ, suc, Bool, true, false, cond, List, [], ◌∷◌, map, length, Option, None, Some, refl, sym, ap, subst, ◌∙◌, take, arith}
use Rattle.std.proofs.lemmas.Bool.Decides.{nat_tests}
use Rattle.std.proofs.lemmas.List.{length-map}
use Rattle.std.proofs.lemmas.List.Elements.{recursion_from_All}
use Rattle.std.specs.List.{AllByRecursion}
use Rattle.std.proofs.lemmas.List.{take-map}
use Rattle.std.proofs.lemmas.Option.{slice_get_past}
use Rattle.std.specs.Option.{option_map_or}
use Rattle.std.specs.Prelude.{All, filter, max, IsNone, MatchOption, nat_le, slice_get}
use Rattle.mqb_base.specs.declared.message.Message.{Message}
use Rattle.mqb_plain.specs.Lists.{InOrder, RisesFrom, at_most, is_sent_by, messages_of}
use Rattle.mqb_plain.specs.Plain.{PlainLists}
use Rattle.mqb_plain.specs.declared.outgoing.Outgoing.{Outgoing}
use Rattle.mqb_model.specs.calls.hear.Session.{Listening, numbers_released, released_of}
use Rattle.mqb_model.specs.managers.Manager.{linked_peer}
use Rattle.mqb_model.specs.declared.limits.TheConstants.{MAX_RELEASED}

-- How many there are.

none_sent : (number : ℕ) (items : List Outgoing) → AllByRecursion (λ o. IsNone o.mark) items → length (filter (is_sent_by number) items) ≡ 0
none_sent number [] h = refl
none_sent number (o ∷ items) h = at (none_sent number items h.1) o.mark h.0
  where
    at : length (filter (is_sent_by number) items) ≡ 0 → (k : Option ℕ) → IsNone k → length (cond (at_most number k) (o ∷ filter (is_sent_by number) items) (filter (is_sent_by number) items)) ≡ 0
    at few None n = few
    at few (Some mark) n = absurd (let e : ⊥ = cc in e)

count_rises : (low number : ℕ) (items : List Outgoing) → RisesFrom low items → length (filter (is_sent_by number) items) + low ≤ max low number
count_rises low number [] h = omega arith
count_rises low number (o ∷ items) h = at (λ mark r. count_rises mark number items r) o.mark h
  where
    at : ((mark : ℕ) → RisesFrom mark items → length (filter (is_sent_by number) items) + mark ≤ max mark number) → (k : Option ℕ) → MatchOption k (All (λ p. IsNone p.mark) items) (λ mark. (low < mark) × RisesFrom mark items)
        → length (cond (at_most number k) (o ∷ filter (is_sent_by number) items) (filter (is_sent_by number) items)) + low ≤ max low number
    at more None n = let few = none_sent number items (recursion_from_All (λ p. IsNone p.mark) items n) in omega (arith, few)
    at more (Some mark) n = by (nat_le mark number) refl
      where
        lt : low < mark
        lt = n.0

        rest : length (filter (is_sent_by number) items) + mark ≤ max mark number
        rest = more mark n.1

        counted : (a low mark number : ℕ) → nat_le mark number ≡ true → low < mark → a + mark ≤ max mark number → suc a + low ≤ max low number
        counted a low mark number e lt le = let within : mark ≤ number = grind (arith, nat_tests) in omega (arith, within, lt, le)

        left : (a low mark number : ℕ) → nat_le mark number ≡ false → low < mark → a + mark ≤ max mark number → a + low ≤ max low number
        left a low mark number e lt le = let above : number < mark = grind (arith, nat_tests) in omega (arith, above, lt, le)

        by : (b : Bool) → nat_le mark number ≡ b
            → length (cond b (o ∷ filter (is_sent_by number) items) (filter (is_sent_by number) items)) + low ≤ max low number
        by true e = counted (length (filter (is_sent_by number) items)) low mark number e lt rest
        by false e = left (length (filter (is_sent_by number) items)) low mark number e lt rest

released_few : (number : ℕ) (p : PlainLists) → InOrder p.recoverable → length (released_of number p) ≤ number
released_few number p h = let counted = count_rises 0 number p.recoverable h in let same = length-map (filter (is_sent_by number) p.recoverable) (λ o. o.message.id.number) in
    omega (arith, counted, same)

-- Which they are.

twice : {X Y Z : Type 0} (f : Y → Z) (g : X → Y) (xs : List X) → map f (map g xs) ≡ map (λ x. f (g x)) xs
twice f g [] = refl
twice {Z} f g (x ∷ xs) = ap (λ (rest : List Z). f (g x) ∷ rest) (twice f g xs)

-- the first messages of a list are those that were sent with a number up to this one
first_released : (number count : ℕ) (p : PlainLists) → filter (is_sent_by number) p.recoverable ≡ take count p.recoverable
    → map (λ (m : Message). m.id.number) (take count (messages_of p.recoverable)) ≡ released_of number p
first_released number count p first = ap (map (λ (m : Message). m.id.number)) (take-map (λ (o : Outgoing). o.message) count p.recoverable)
    ∙ twice (λ (m : Message). m.id.number) (λ (o : Outgoing). o.message) (take count p.recoverable)
    ∙ ap (map (λ (o : Outgoing). o.message.id.number)) (sym first)

-- those of the peer that is heard
pub released_is : (l : Listening) (peer number count : ℕ) (p : PlainLists) → peer ≡ linked_peer l.manager.state l.session → number ≡ l.session.recoverable_acked
    → slice_get l.manager.state.plain peer ≡ Some p → filter (is_sent_by number) p.recoverable ≡ take count p.recoverable
    → map (λ (m : Message). m.id.number) (take count (messages_of p.recoverable)) ≡ numbers_released l
released_is l peer number count p whose acked there first = first_released number count p first
    ∙ ap (λ (n : ℕ). released_of n p) acked
    ∙ sym (ap (λ (o : Option PlainLists). option_map_or (released_of l.session.recoverable_acked) o []) (ap (slice_get l.manager.state.plain) (sym whose) ∙ there))

-- they are few
pub few_released : (number count : ℕ) (p : PlainLists) → number ≤ MAX_RELEASED → InOrder p.recoverable → filter (is_sent_by number) p.recoverable ≡ take count p.recoverable
    → length (map (λ (m : Message). m.id.number) (take count (messages_of p.recoverable))) ≤ MAX_RELEASED
few_released number count p le in_order first = subst (λ (ns : List ℕ). length ns ≤ MAX_RELEASED) (sym (first_released number count p first))
    (let few = released_few number p in_order in omega (arith, few, le))

-- of no peer none are
pub none_released : (l : Listening) (peer : ℕ) → peer ≡ linked_peer l.manager.state l.session → length l.manager.state.plain ≤ peer → numbers_released l ≡ []
none_released l peer whose past = ap (λ (o : Option PlainLists). option_map_or (released_of l.session.recoverable_acked) o [])
    (ap (slice_get l.manager.state.plain) (sym whose) ∙ slice_get_past l.manager.state.plain peer past)
