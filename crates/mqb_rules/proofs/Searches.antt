-- A search from member to member.
use Rattle.std.proofs.Common.{◌≡◌, ℕ, zero, suc, ◌+◌, ◌-◌, ◌<◌, ◌≤◌, Bool, true, false, cond, List, [], ◌∷◌, ◌++◌, length, take, drop, Option, Some, None, refl, sym, ap, ◌∙◌, subst, arith, length-drop}
use Rattle.std.specs.Prelude.{option_and_then, slice_get}
use Rattle.std.specs.List.{All, position}
use Rattle.std.specs.Option.{IsSomeAnd, option_map}
use Rattle.std.proofs.lemmas.List.{length-take-le, take-append-drop, take_all, take_more}
use Rattle.std.proofs.lemmas.List.Elements.{All-head, All-push, All-tail}
use Rattle.std.proofs.lemmas.Option.{get_or_from_slice_get, none-some, same_Some, slice_get_within}
use Rattle.mqb_base.specs.declared.message.Lane.{Lane}
use Rattle.mqb_base.specs.declared.message.Message.{Message}
use Rattle.mqb_base.specs.declared.queues.EntryPlace.{EntryPlace}
use Rattle.mqb_queue.specs.Lists.{Lists, messages_in}
use Rattle.mqb_queue.specs.Places.{lists_at}
use Rattle.mqb_queue.proofs.Positions.{found_here, none_more, position_behind}
use Rattle.mqb_model.specs.rules.Takes.{message_at}
use Rattle.mqb_model.specs.state.State.{State}

-- a search behind members that do not pass
pub found_behind : {X : Type 0} (p : X → Bool) (xs : List X) (n : ℕ) → All (λ y. p y ≡ false) (take n xs) → n ≤ length xs
    → position p xs ≡ option_map (λ k. n + k) (position p (take (length xs - n) (drop n xs)))
found_behind {X} p xs n none within =
    let rest : length (drop n xs) ≤ length xs - n = omega (arith, length-drop n xs) in
    ap (position p) (sym (take-append-drop n xs))
    ∙ (position_behind p (take n xs) (drop n xs) none
    ∙ (ap (λ (m : ℕ). option_map (λ k. m + k) (position p (drop n xs))) (length-take-le n xs within)
    ∙ ap (λ (ys : List X). option_map (λ k. n + k) (position p ys)) (sym (take_all (length xs - n) (drop n xs) rest))))

-- The same of members that are seen by a part of them.

pub found_seen : {X Y : Type 0} (see : X → Y) (p : Y → Bool) (xs : List X) (k : ℕ) (y : Y) → All (λ x. p (see x) ≡ false) (take k xs)
    → option_map see (slice_get xs k) ≡ Some y → p y ≡ true → position (λ x. p (see x)) xs ≡ Some k
found_seen {X} see p xs k y none is passes = at (slice_get xs k) refl is
  where
    at : (o : Option X) → slice_get xs k ≡ o → option_map see o ≡ Some y → position (λ x. p (see x)) xs ≡ Some k
    at None e h = absurd (none-some y h)
    at (Some x) e h = found_here (λ z. p (see z)) xs k x none e (ap p (same_Some (see x) y h) ∙ passes)

pub more_seen : {X Y : Type 0} (see : X → Y) (p : Y → Bool) (xs : List X) (k : ℕ) (y : Y) → All (λ x. p (see x) ≡ false) (take k xs)
    → option_map see (slice_get xs k) ≡ Some y → p y ≡ false → All (λ x. p (see x) ≡ false) (take (k + 1) xs)
more_seen {X} see p xs k y none is fails = at (slice_get xs k) refl is
  where
    at : (o : Option X) → slice_get xs k ≡ o → option_map see o ≡ Some y → All (λ x. p (see x) ≡ false) (take (k + 1) xs)
    at None e h = absurd (none-some y h)
    at (Some x) e h = none_more (λ z. p (see z)) xs k x none e (ap p (same_Some (see x) y h) ∙ fails)

-- a message that is at an index of a place
pub message_within : (kind : Lane) (s : State) (at : EntryPlace) (k : ℕ) (m : Message) → message_at kind s at k ≡ Some m
    → IsSomeAnd (lists_at s.places at) (λ l. k < length (messages_in kind l))
message_within kind s at k m is = by (lists_at s.places at) is
  where
    by : (o : Option Lists) → option_and_then (λ l. slice_get (messages_in kind l) k) o ≡ Some m → IsSomeAnd o (λ l. k < length (messages_in kind l))
    by None h = absurd (none-some m h)
    by (Some l) h = slice_get_within (messages_in kind l) k m h
