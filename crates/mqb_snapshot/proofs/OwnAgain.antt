-- The numbers of a manager's own messages differ, in the order in which a snapshot has them: kept messages come last.
use Rattle.std.proofs.Common.{◌≡◌, ℕ, Bool, true, false, List, [], ◌∷◌, ◌++◌, map, sym, ap, subst, ◌∙◌, append_assoc, arith}
use Rattle.std.proofs.lemmas.Bool.{and_from}
use Rattle.std.proofs.lemmas.Bool.Decides.{nat_tests}
use Rattle.std.proofs.lemmas.List.{map-append}
use Rattle.std.proofs.lemmas.List.Elements.{recursion_from_All}
use Rattle.std.specs.Cmp.Lexicographic.{bytes_decides}
use Rattle.std.specs.List.{AllByRecursion, list_any}
use Rattle.std.specs.Prelude.{◌&&◌, ◌==◌, not}
use Rattle.mqb_base.specs.Same.{same_guid, same_id}
use Rattle.mqb_base.specs.declared.ids.Guid.{Guid}
use Rattle.mqb_base.specs.declared.message.Message.{Message}
use Rattle.mqb_model.specs.state.State.{State}
use Rattle.mqb_model.specs.state.Valid.{IsOwn, IsValidState, kept_messages, recoverable_messages}
use Rattle.mqb_snapshot.proofs.Members.{Pairs, all_mapped, all_weaker, no_member, pairs_before, pairs_of}
use Rattle.mqb_snapshot.specs.Fields.{is_own}
use Rattle.mqb_snapshot.specs.Parts.{Parts}

abbrev pub numbers_of : List Message → List ℕ
numbers_of ms = map (λ m. m.id.number) ms

-- messages of different numbers
abbrev pub Apart : Message → Message → Type 0
Apart a b = (b.id.number == a.id.number) ≡ false

-- Pairs of two lists, one behind the other.

pub all_front : {X : Type 0} (P : X → Type 0) (xs ys : List X) → AllByRecursion P (xs ++ ys) → AllByRecursion P xs
all_front P [] ys h = tt
all_front P (x ∷ xs) ys h = (h.0, all_front P xs ys h.1)

pub all_behind : {X : Type 0} (P : X → Type 0) (xs ys : List X) → AllByRecursion P (xs ++ ys) → AllByRecursion P ys
all_behind P [] ys h = h
all_behind P (x ∷ xs) ys h = all_behind P xs ys h.1

pub all_both : {X : Type 0} (P : X → Type 0) (xs ys : List X) → AllByRecursion P xs → AllByRecursion P ys → AllByRecursion P (xs ++ ys)
all_both P [] ys h k = k
all_both P (x ∷ xs) ys h k = (h.0, all_both P xs ys h.1 k)

-- each member of one with each of the other
abbrev Across : {X : Type 0} → (X → X → Type 0) → List X → List X → Type 0
Across R xs ys = AllByRecursion (λ x. AllByRecursion (R x) ys) xs

split_pairs : {X : Type 0} (R : X → X → Type 0) (xs ys : List X) → Pairs R (xs ++ ys) → Pairs R xs × Pairs R ys × Across R xs ys
split_pairs R [] ys h = (tt, h, tt)
split_pairs R (x ∷ xs) ys h = let rest = split_pairs R xs ys h.1 in ((all_front (R x) xs ys h.0, rest.0), rest.1, (all_behind (R x) xs ys h.0, rest.2))

join_pairs : {X : Type 0} (R : X → X → Type 0) (xs ys : List X) → Pairs R xs → Pairs R ys → Across R xs ys → Pairs R (xs ++ ys)
join_pairs R [] ys a b c = b
join_pairs R (x ∷ xs) ys a b c = (all_both (R x) xs ys a.0 c.0, join_pairs R xs ys a.1 b c.1)

turned_across : {X : Type 0} (R : X → X → Type 0) → ((x y : X) → R x y → R y x) → (xs ys : List X) → Across R xs ys → Across R ys xs
turned_across R turn xs [] h = tt
turned_across R turn xs (y ∷ ys) h = (
  all_weaker (λ x. AllByRecursion (R x) (y ∷ ys)) (R y) (λ x k. turn x y k.0) xs h,
  turned_across R turn xs ys (all_weaker (λ x. AllByRecursion (R x) (y ∷ ys)) (λ x. AllByRecursion (R x) ys) (λ x k. k.1) xs h),
)

turned_pairs : {X : Type 0} (R : X → X → Type 0) → ((x y : X) → R x y → R y x) → (xs ys : List X) → Pairs R (xs ++ ys) → Pairs R (ys ++ xs)
turned_pairs R turn xs ys h = let parts = split_pairs R xs ys h in join_pairs R ys xs parts.1 parts.0 (turned_across R turn xs ys parts.2)

-- Own messages with different identifiers.

turned : (m n : ℕ) → (m == n) ≡ false → (n == m) ≡ false
turned m n e = grind (arith, nat_tests)

rest_false : (a b : Bool) → a ≡ true → (a && b) ≡ false → b ≡ false
rest_false a b e f = sym (ap (λ x. x && b) e) ∙ f

same_guid_is : (a b : Guid) → same_guid a b ≡ true → a ≡ b
same_guid_is a b h = ap (λ (x : List ℕ). record { 0 = x }) ((bytes_decides a.0 b.0).0 h)

apart_of : (own : Guid) (a b : Message) → same_guid a.id.qm own ≡ true → same_guid b.id.qm own ≡ true → same_id a.id b.id ≡ false → Apart a b
apart_of own a b one two e = turned a.id.number b.id.number
    (rest_false (same_guid a.id.qm b.id.qm) (a.id.number == b.id.number) (ap (λ g. same_guid a.id.qm g) (same_guid_is b.id.qm own two) ∙ one) e)

apart_all : (own : Guid) (a : Message) (ms : List Message) → same_guid a.id.qm own ≡ true → AllByRecursion (λ m. same_guid m.id.qm own ≡ true) ms
    → AllByRecursion (λ m. same_id a.id m.id ≡ false) ms → AllByRecursion (Apart a) ms
apart_all own a [] one two e = tt
apart_all own a (m ∷ ms) one two e = (apart_of own a m one two.0 e.0, apart_all own a ms one two.1 e.1)

apart_pairs : (own : Guid) (ms : List Message) → AllByRecursion (λ m. same_guid m.id.qm own ≡ true) ms → Pairs (λ a b. same_id a.id b.id ≡ false) ms → Pairs Apart ms
apart_pairs own [] w e = tt
apart_pairs own (m ∷ ms) w e = (apart_all own m ms w.0 w.1 e.0, apart_pairs own ms w.1 e.1)

pub numbers_apart : (s : State) → IsValidState s → Pairs Apart (recoverable_messages s ++ kept_messages s)
numbers_apart s v = turned_pairs Apart (λ a b e. turned b.id.number a.id.number e) (kept_messages s) (recoverable_messages s)
    (apart_pairs s.identity.guid (kept_messages s ++ recoverable_messages s)
    (all_weaker (IsOwn s.identity.guid s.next_number) (λ m. same_guid m.id.qm s.identity.guid ≡ true) (λ m w. w.source) (kept_messages s ++ recoverable_messages s)
    (recursion_from_All (IsOwn s.identity.guid s.next_number) (kept_messages s ++ recoverable_messages s) v.own))
    (pairs_of (λ a b. same_id a.id b.id ≡ false) (kept_messages s ++ recoverable_messages s) v.ids_differ))

-- A message that is read beside those before it.

in_place : {X : Type 0} (front before : List X) (x : X) (behind more : List X) → front ++ ((before ++ (x ∷ behind)) ++ more) ≡ (front ++ before) ++ (x ∷ (behind ++ more))
in_place front before x behind more = ap (λ rest. front ++ rest) (append_assoc before (x ∷ behind) more) ∙ sym (append_assoc front before (x ∷ (behind ++ more)))

-- own messages in parts of a list: those in front, those of the part, and more behind them
pub record IsPart (all front part more : List Message) : Type 0 where
  pub apart : Pairs Apart all
  pub whole : all ≡ front ++ (part ++ more)

pub own_here : (p : Parts) (all front part more before : List Message) (m : Message) (behind : List Message) → IsPart all front part more → part ≡ before ++ (m ∷ behind)
    → p.numbers ≡ numbers_of (front ++ before) → same_guid m.id.qm p.state.identity.guid ≡ true → is_own p m ≡ true
own_here p all front part more before m behind is e counted own = and_from _ _ own (ap not (ap (λ (ns : List ℕ). list_any (λ n. m.id.number == n) ns) counted ∙ none))
  where
    at : all ≡ (front ++ before) ++ (m ∷ (behind ++ more))
    at = is.whole ∙ ap (λ (ms : List Message). front ++ (ms ++ more)) e ∙ in_place front before m behind more

    none : list_any (λ n. m.id.number == n) (numbers_of (front ++ before)) ≡ false
    none = no_member (λ n. m.id.number == n) (numbers_of (front ++ before)) (all_mapped (λ n. (m.id.number == n) ≡ false) (λ a. a.id.number) (front ++ before)
        (pairs_before Apart (front ++ before) m (behind ++ more) (subst (Pairs Apart) at is.apart)))

pub numbers_more : (front before : List Message) (m : Message) → numbers_of (front ++ before) ++ m.id.number ∷ [] ≡ numbers_of (front ++ (before ++ m ∷ []))
numbers_more front before m = sym (map-append (λ a. a.id.number) (front ++ before) (m ∷ [])) ∙ ap numbers_of (append_assoc front before (m ∷ []))
