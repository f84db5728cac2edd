-- The neighbours of a message decide whether it fits each that came.
use Rattle.std.proofs.Common.{rules, ◌≡◌, ◌<◌, ◌≤◌, ◌⊎◌, ◌&&◌, ℕ, suc, zero, Bool, true, false, cond, List, [], ◌∷◌, ◌++◌, length, nat_lt, Option, None, Some, inl, inr, refl, sym, ap, subst, ◌∙◌, arith}
use Rattle.std.specs.BTreeMap.{BTreeMap, get, is_at}
use Rattle.std.specs.List.{AllByRecursion, IsDistinct, slice_get}
use Rattle.std.specs.Map.{lookup}
use Rattle.std.specs.Option.{option_map_or}
use Rattle.std.specs.Ordering.{MatchOrdering, is_eq, is_gt, is_lt, nat_cmp, ordering_then}
use Rattle.std.specs.declared.cmp.Ordering.{Ordering}
use Rattle.std.specs.declared.cmp.Ordering.TheVariants.{Equal, Greater, Less}
use Rattle.std.specs.Prelude.{◌==◌, IsSome}
use Rattle.std.proofs.lemmas.Bool.{and_from, eqb-false, eqb-true, ltb-false, ltb-true, true≢false}
use Rattle.std.proofs.lemmas.Cmp.{ranked}
use Rattle.mqb_base.specs.Same.{same_host, same_kind, same_name}
use Rattle.mqb_base.specs.Sequences.{same_sequence}
use Rattle.mqb_base.specs.contracts.queue_names.HostPartialEq.TheImpl as host_eq
use Rattle.mqb_base.specs.contracts.queue_names.MachineQueuePartialEq.TheImpl as kind_eq
use Rattle.mqb_base.specs.contracts.queue_names.QueueNamePartialEq.TheImpl as name_eq
use Rattle.mqb_base.specs.declared.message.Message.{Message}
use Rattle.mqb_base.specs.declared.queue_names.Host.{Host}
use Rattle.mqb_base.specs.declared.queue_names.Host.TheVariants.{Os, Tcp}
use Rattle.mqb_base.specs.declared.queue_names.MachineQueue.{MachineQueue}
use Rattle.mqb_base.specs.declared.queue_names.MachineQueue.TheVariants.{DeadLetter, DeadXact, Journal}
use Rattle.mqb_base.specs.declared.queue_names.QueueName.{QueueName}
use Rattle.mqb_capture.specs.Links.{AreLinked, AreOfOneSequence, AreSameMessage, Fit}
use Rattle.mqb_capture.specs.declared.link.Link.{Link}
use Rattle.mqb_capture.proofs.Judging.{tests_fit}
use Rattle.mqb_capture.proofs.Lists.{all_both, all_map}
use Rattle.mqb_capture.proofs.Sames.{Tests, tests_all, tests_and, tests_name, tests_sequence}
use Rattle.mqb_inspect.specs.Keeping.{AreKept, AreOnce, HasKey, IsBefore, IsFrom, fits_found, key_cmp, sequence_of}
use Rattle.mqb_inspect.specs.Linking.{fit_both, fits_all, may_join}
use Rattle.mqb_inspect.specs.contracts.links.SequenceKeyPartialEq.TheImpl as key_eq
use Rattle.mqb_inspect.specs.declared.links.LinkKey.{LinkKey}
use Rattle.mqb_inspect.specs.declared.links.SequenceKey.{SequenceKey}

-- What an order of keys says.

abbrev IsLess : LinkKey → LinkKey → Type 0
IsLess a b = (a.sequence < b.sequence) ⊎ ((a.sequence ≡ b.sequence) × (a.number < b.number))

abbrev IsSame : LinkKey → LinkKey → Type 0
IsSame a b = (a.sequence ≡ b.sequence) × (a.number ≡ b.number)

ranked_by : (a b : LinkKey) (o p : Ordering) → MatchOrdering o (a.sequence < b.sequence) (a.sequence ≡ b.sequence) (b.sequence < a.sequence)
    → MatchOrdering p (a.number < b.number) (a.number ≡ b.number) (b.number < a.number) → MatchOrdering (ordering_then o p) (IsLess a b) (IsSame a b) (IsLess b a)
ranked_by a b Less p s n = inl s
ranked_by a b Greater p s n = inl s
ranked_by a b Equal Less s n = inr (s, n)
ranked_by a b Equal Equal s n = (s, n)
ranked_by a b Equal Greater s n = inr (sym s, n)

key_ranked : (a b : LinkKey) → MatchOrdering (key_cmp a b) (IsLess a b) (IsSame a b) (IsLess b a)
key_ranked a b = ranked_by a b (nat_cmp a.sequence b.sequence) (nat_cmp a.number b.number) (ranked a.sequence b.sequence _ refl) (ranked a.number b.number _ refl)

is_less : (a b : LinkKey) → key_cmp a b ≡ Less → IsLess a b
is_less a b e = subst (λ (o : Ordering). MatchOrdering o (IsLess a b) (IsSame a b) (IsLess b a)) e (key_ranked a b)

by_not_less : (P Q R : Type 0) (o : Ordering) → MatchOrdering o P Q R → is_lt o ≡ false → Q ⊎ R
by_not_less P Q R Less m e = absurd (true≢false e)
by_not_less P Q R Equal m e = inl m
by_not_less P Q R Greater m e = inr m

not_less : (a b : LinkKey) → is_lt (key_cmp a b) ≡ false → IsSame a b ⊎ IsLess b a
not_less a b e = by_not_less (IsLess a b) (IsSame a b) (IsLess b a) (key_cmp a b) (key_ranked a b) e

by_not_more : (P Q R : Type 0) (o : Ordering) → MatchOrdering o P Q R → is_gt o ≡ false → P ⊎ Q
by_not_more P Q R Less m e = inl m
by_not_more P Q R Equal m e = inr m
by_not_more P Q R Greater m e = absurd (true≢false e)

not_more : (a b : LinkKey) → is_gt (key_cmp a b) ≡ false → IsLess a b ⊎ IsSame a b
not_more a b e = by_not_more (IsLess a b) (IsSame a b) (IsLess b a) (key_cmp a b) (key_ranked a b) e

less_then : (a b : LinkKey) (o : Ordering) → MatchOrdering o (IsLess a b) (IsSame a b) (IsLess b a) → a.sequence ≡ b.sequence → a.number < b.number → o ≡ Less
less_then a b Less m s n = refl
less_then a b Equal m s n = absurd (let e = m.1 in omega (arith, e, n))
less_then a b Greater (inl m) s n = absurd (omega (arith, m, s))
less_then a b Greater (inr m) s n = absurd (let e = m.1 in omega (arith, e, n))

most_then : (a b : LinkKey) (o : Ordering) → MatchOrdering o (IsLess a b) (IsSame a b) (IsLess b a) → a.sequence ≡ b.sequence → a.number ≤ b.number → is_gt o ≡ false
most_then a b Less m s n = refl
most_then a b Equal m s n = refl
most_then a b Greater (inl m) s n = absurd (omega (arith, m, s))
most_then a b Greater (inr m) s n = absurd (let e = m.1 in omega (arith, e, n))

-- Where a key stands that lies at or behind one of a sequence, and before another one.

between_by : (a b c : LinkKey) → a.sequence ≡ c.sequence → IsLess b c → IsSame b a ⊎ IsLess a b → (b.sequence ≡ c.sequence) × (a.number ≤ b.number) × (b.number < c.number)
between_by a b c s (inl m) (inl n) = absurd (let e = n.0 in omega (arith, m, e, s))
between_by a b c s (inl m) (inr (inl n)) = absurd (omega (arith, m, n, s))
between_by a b c s (inl m) (inr (inr n)) = absurd (let e = n.0 in omega (arith, m, e, s))
between_by a b c s (inr m) (inl n) = (m.0, (let e = n.1 in omega (arith, e)), m.1)
between_by a b c s (inr m) (inr (inl n)) = absurd (let e = m.0 in omega (arith, n, e, s))
between_by a b c s (inr m) (inr (inr n)) = (m.0, (let e = n.1 in omega (arith, e)), m.1)

from_by : (a b c : LinkKey) → a.sequence ≡ c.sequence → IsLess a b ⊎ IsSame a b → IsLess b c ⊎ IsSame b c → (b.sequence ≡ a.sequence) × (a.number ≤ b.number) × (b.number ≤ c.number)
from_by a b c s (inl (inl m)) (inl (inl n)) = absurd (omega (arith, m, n, s))
from_by a b c s (inl (inl m)) (inl (inr n)) = absurd (let e = n.0 in omega (arith, m, e, s))
from_by a b c s (inl (inl m)) (inr n) = absurd (let e = n.0 in omega (arith, m, e, s))
from_by a b c s (inl (inr m)) (inl (inl n)) = absurd (let e = m.0 in omega (arith, n, e, s))
from_by a b c s (inl (inr m)) (inl (inr n)) = (sym m.0, (let e = m.1 in omega (arith, e)), (let e = n.1 in omega (arith, e)))
from_by a b c s (inl (inr m)) (inr n) = (sym m.0, (let e = m.1 in omega (arith, e)), (let e = n.1 in omega (arith, e)))
from_by a b c s (inr m) (inl (inl n)) = absurd (let e = m.0 in omega (arith, n, e, s))
from_by a b c s (inr m) (inl (inr n)) = (sym m.0, (let e = m.1 in omega (arith, e)), (let e = n.1 in omega (arith, e)))
from_by a b c s (inr m) (inr n) = (sym m.0, (let e = m.1 in omega (arith, e)), (let e = n.1 in omega (arith, e)))

-- Lists.

pub all_at : {X : Type 0} (P : X → Type 0) (xs : List X) (i : ℕ) (x : X) → slice_get xs i ≡ Some x → AllByRecursion P xs → P x
all_at P [] i x e all = absurd (cc)
all_at P (y ∷ xs) zero x e all = subst P (cc) all.0
all_at P (y ∷ xs) (suc i) x e all = all_at P xs i x e all.1

some_one : {X : Type 0} (x y : X) → Some x ≡ Some y → x ≡ y
some_one x y e = cc

get_last : {X : Type 0} (xs : List X) (x : X) → slice_get (xs ++ x ∷ []) (length xs) ≡ Some x
get_last [] x = refl
get_last (y ∷ xs) x = get_last xs x

get_front : {X : Type 0} (xs : List X) (y : X) (i : ℕ) (x : X) → slice_get xs i ≡ Some x → slice_get (xs ++ y ∷ []) i ≡ Some x
get_front [] y i x e = absurd (cc)
get_front (z ∷ xs) y zero x e = e
get_front (z ∷ xs) y (suc i) x e = get_front xs y i x e

all_members : {X : Type 0} (P : X → Type 0) (xs : List X) → ((i : ℕ) (x : X) → slice_get xs i ≡ Some x → P x) → AllByRecursion P xs
all_members P [] f = tt
all_members P (x ∷ xs) f = (f 0 x refl, all_members P xs (λ i y e. f (suc i) y e))

-- Messages.

one_of : (a b : Link) → sequence_of a ≡ sequence_of b → AreOfOneSequence a b
one_of a b e = record { destination = ap (λ (k : SequenceKey). k.destination) e; sequence = ap (λ (k : SequenceKey). k.sequence) e }

sequence_is : (a b : Link) → AreOfOneSequence a b → sequence_of a ≡ sequence_of b
sequence_is a b o = cc

same_on : (a b c : Message) → AreSameMessage a b → AreSameMessage b c → AreSameMessage a c
same_on a b c e f = ap (λ (m : Message). record m { reach = c.reach }) e ∙ f

abbrev FitEach : Link → Link → Type 0
FitEach n a = Fit a n × Fit n a

tests_both : (n a : Link) → Tests (fit_both a n) (FitEach n a)
tests_both n a = tests_and _ _ (tests_fit a n) (tests_fit n a)

tests_fits : (came : List Link) (n : Link) → Tests (fits_all came n) (AllByRecursion (FitEach n) came)
tests_fits came n = tests_all (λ a. fit_both a n) (FitEach n) (tests_both n) came

-- a message fits one of a greater number, where it fits the one below that
fits_below : (a b n : Link) → sequence_of b ≡ sequence_of n → a.tx.number ≤ b.tx.number → b.tx.number < n.tx.number → FitEach n b → FitEach n a
fits_below a b n one least less fit = (
  record {
    later = λ _ _. (let most = fit.0.later (one_of b n one) less in omega (arith, most, least));
    again = λ _ same. absurd (omega (arith, same, least, less));
  },
  record {
    later = λ _ more. absurd (omega (arith, more, least, less));
    again = λ _ same. absurd (omega (arith, same, least, less));
  },
)

-- and one of its own number or a smaller one, where it fits the one at or behind it
fits_from : (a b n : Link) → sequence_of a ≡ sequence_of n → sequence_of b ≡ sequence_of n → n.tx.number ≤ b.tx.number → b.tx.number ≤ a.tx.number → FitEach n b → FitEach b a → FitEach n a
fits_from a b n one_a one_b least most fit other =
    let b_n = one_of b n one_b in
    let n_b = one_of n b (sym one_b) in
    let a_b = one_of a b (one_a ∙ sym one_b) in
    let b_a = one_of b a (one_b ∙ sym one_a) in (
      record {
        later = λ _ less. absurd (omega (arith, less, least, most));
        again = λ _ same. (
            let mine : a.tx.number ≡ b.tx.number = omega (arith, same, least, most) in
            let its : b.tx.number ≡ n.tx.number = omega (arith, same, least, most) in
            let first = other.0.again a_b mine in
            let second = fit.0.again b_n its in
            (first.0 ∙ second.0, same_on a.message b.message n.message first.1 second.1));
      },
      record {
        later = λ _ less. linked_to (by_cases b.tx.number a.tx.number most) less;
        again = λ _ same. (
            let mine : n.tx.number ≡ b.tx.number = omega (arith, same, least, most) in
            let its : b.tx.number ≡ a.tx.number = omega (arith, same, least, most) in
            let first = fit.1.again n_b mine in
            let second = other.1.again b_a its in
            (first.0 ∙ second.0, same_on n.message b.message a.message first.1 second.1));
      },
    )
  where
    by_cases : (x y : ℕ) → x ≤ y → (x < y) ⊎ (x ≡ y)
    by_cases x y h = grind arith

    linked_to : (b.tx.number < a.tx.number) ⊎ (b.tx.number ≡ a.tx.number) → n.tx.number < a.tx.number → n.tx.number ≤ a.tx.previous
    linked_to (inl less) more = let is = other.1.later (one_of b a (one_b ∙ sym one_a)) less in omega (arith, is, least)
    linked_to (inr same) more =
        let is = fit.1.later (one_of n b (sym one_b)) (omega (arith, same, more)) in
        let link = (other.1.again (one_of b a (one_b ∙ sym one_a)) same).0 in
        omega (arith, is, link)

apart : (a n : Link) → (sequence_of a ≡ sequence_of n → ⊥) → FitEach n a
apart a n other = (
  record { later = λ one. absurd (other (sequence_is a n one)); again = λ one. absurd (other (sequence_is a n one)) },
  record { later = λ one. absurd (other (sym (sequence_is n a one))); again = λ one. absurd (other (sym (sequence_is n a one))) },
)

-- What was found on both sides of a key.

-- the key of a message leads somewhere
abbrev KeptIn : List SequenceKey → BTreeMap LinkKey ℕ → Link → Type 0
KeptIn sequences m x = (q : LinkKey) × HasKey sequences x q × IsSome (get key_cmp m q)

abbrev Found : List Link → Option ℕ → Link → Type 0
Found came None n = Unit {0}
Found came (Some place) n = (a : Link) → slice_get came place ≡ Some a → FitEach n a

none_some : {X : Type 0} (x : X) (o : Option X) → o ≡ None → o ≡ Some x → ⊥
none_some x o e f = cc

none_is : {X : Type 0} (o : Option X) → o ≡ None → IsSome o → ⊥
none_is None e s = true≢false (sym s)
none_is (Some x) e s = none_some x (Some x) e refl

tests_place : (n : Link) (o : Option Link) → Tests (option_map_or (λ a. fit_both a n) o true) ((a : Link) → o ≡ Some a → FitEach n a)
tests_place n None = record { holds = λ _ a e. absurd (none_some a None refl e); passes = λ _. refl }
tests_place n (Some a) = record {
  holds = λ e b is. subst (FitEach n) (some_one a b is) ((tests_both n a).holds e);
  passes = λ f. (tests_both n a).passes (f a refl);
}

tests_found : (came : List Link) (o : Option ℕ) (n : Link) → Tests (fits_found came o n) (Found came o n)
tests_found came None n = record { holds = λ _. tt; passes = λ _. refl }
tests_found came (Some place) n = tests_place n (slice_get came place)

found_of : (came : List Link) (n : Link) (o : Option ℕ) → AllByRecursion (FitEach n) came → Found came o n
found_of came n None all = tt
found_of came n (Some place) all = λ a e. all_at (FitEach n) came place a e all

not_true : (x : Bool) → (x ≡ true → ⊥) → x ≡ false
not_true true f = absurd (f refl)
not_true false f = refl

-- one that does not fit what was found does not fit all
pub found_refuses : (came : List Link) (n : Link) (o : Option ℕ) → fits_found came o n ≡ false → fits_all came n ≡ false
found_refuses came n o e = not_true (fits_all came n) (λ all. true≢false (sym ((tests_found came o n).passes (found_of came n o ((tests_fits came n).holds all))) ∙ e))

same_number : (x y : ℕ) → (x ≡ y) ⊎ (x ≡ y → ⊥)
same_number x y = by (x == y) refl
  where
    by : (b : Bool) → (x == y) ≡ b → (x ≡ y) ⊎ (x ≡ y → ⊥)
    by true e = inl (eqb-true x y e)
    by false e = inr (eqb-false x y e)

less_or_most : (x y : ℕ) → (x < y) ⊎ (y ≤ x)
less_or_most x y = by (nat_lt x y) refl
  where
    by : (b : Bool) → nat_lt x y ≡ b → (x < y) ⊎ (y ≤ x)
    by true e = inl (ltb-true x y e)
    by false e = inr (ltb-false x y e)

both_same : (x y : Bool) → (x ≡ true → y ≡ true) → (y ≡ true → x ≡ true) → x ≡ y
both_same true y f g = sym (f refl)
both_same false true f g = g refl
both_same false false f g = refl

module _ (sequences : List SequenceKey) (places : BTreeMap LinkKey ℕ) (came : List Link) (kept : AreKept sequences places came) (linked : AreLinked came)
    (n : Link) (key : LinkKey) (has : HasKey sequences n key) where
  fit_two : (a b : Link) (i j : ℕ) → slice_get came i ≡ Some a → slice_get came j ≡ Some b → Fit a b
  fit_two a b i j e f = all_at (Fit a) came j b f (all_at (λ (x : Link). AllByRecursion (Fit x) came) came i a e linked.fit)

  one_sequence : (a : Link) (k : LinkKey) → HasKey sequences a k → k.sequence ≡ key.sequence → sequence_of a ≡ sequence_of n
  one_sequence a k h s = some_one (sequence_of a) (sequence_of n) (sym h.sequence ∙ (ap (λ (i : ℕ). slice_get sequences i) s ∙ has.sequence))

  -- one before it in its sequence
  from_before : (b : Option ℕ) → IsBefore places key b → Found came b n → (a : Link) (k : LinkKey) → HasKey sequences a k → IsSome (get key_cmp places k)
      → k.sequence ≡ key.sequence → a.tx.number < n.tx.number → FitEach n a
  from_before None is found a k h there s less =
      absurd (none_is (get key_cmp places k) (is k (less_then k key (key_cmp k key) (key_ranked k key) s (omega (arith, less, h.number, has.number)))) there)
  from_before (Some place) is found a k h there s less =
      let under = less_then k key (key_cmp k key) (key_ranked k key) s (omega (arith, less, h.number, has.number)) in
      let at = between_by k is.0 key s (is_less is.0 key is.2) (not_less is.0 k (is.3 k under there)) in
      let lead = kept.leads is.0 place is.1 in
      let mine = lead.2.number in
      let least = at.1 in
      let most = at.2 in
      fits_below a lead.0 n (one_sequence lead.0 is.0 lead.2 at.0) (omega (arith, least, mine, h.number)) (omega (arith, most, mine, has.number)) (found lead.0 lead.1)

  -- one that is not before it
  from_behind : (f : Option ℕ) → IsFrom places key f → Found came f n → (a : Link) (i : ℕ) → slice_get came i ≡ Some a → (k : LinkKey) → HasKey sequences a k
      → IsSome (get key_cmp places k) → k.sequence ≡ key.sequence → n.tx.number ≤ a.tx.number → FitEach n a
  from_behind None is found a i e k h there s most =
      absurd (none_is (get key_cmp places k) (is k (most_then key k (key_cmp key k) (key_ranked key k) (sym s) (omega (arith, most, h.number, has.number)))) there)
  from_behind (Some place) is found a i e k h there s most =
      let over = most_then key k (key_cmp key k) (key_ranked key k) (sym s) (omega (arith, most, h.number, has.number)) in
      let at = from_by key is.0 k (sym s) (not_more key is.0 is.2) (not_more is.0 k (is.3 k over there)) in
      let lead = kept.leads is.0 place is.1 in
      let mine = lead.2.number in
      let low = at.1 in
      let high = at.2 in
      fits_from a lead.0 n (one_sequence a k h s) (one_sequence lead.0 is.0 lead.2 at.0) (omega (arith, low, mine, has.number)) (omega (arith, high, mine, h.number))
      (found lead.0 lead.1) (fit_two a lead.0 i place e lead.1, fit_two lead.0 a place i lead.1 e)

  each_fits : (b f : Option ℕ) → IsBefore places key b → IsFrom places key f → Found came b n → Found came f n → (i : ℕ) (a : Link) → slice_get came i ≡ Some a → FitEach n a
  each_fits b f before from first second i a e =
      let k = all_at (KeptIn sequences places) came i a e kept.all in
      by k.0 k.1 k.2 (same_number k.0.sequence key.sequence) (less_or_most a.tx.number n.tx.number)
    where
      by : (k : LinkKey) → HasKey sequences a k → IsSome (get key_cmp places k) → (k.sequence ≡ key.sequence) ⊎ (k.sequence ≡ key.sequence → ⊥)
          → (a.tx.number < n.tx.number) ⊎ (n.tx.number ≤ a.tx.number) → FitEach n a
      by k h there (inr other) _ = apart a n (λ is. other (kept.once k.sequence key.sequence (sequence_of n) (h.sequence ∙ ap (λ (x : SequenceKey). Some x) is) has.sequence))
      by k h there (inl s) (inl less) = from_before b before first a k h there s less
      by k h there (inl s) (inr most) = from_behind f from second a i e k h there s most

  pub neighbours_fit : (b f : Option ℕ) → IsBefore places key b → IsFrom places key f → (fits_found came b n && fits_found came f n) ≡ fits_all came n
  neighbours_fit b f before from =
      let both = tests_and _ _ (tests_found came b n) (tests_found came f n) in
      both_same (fits_found came b n && fits_found came f n) (fits_all came n)
      (λ e. (let found = both.holds e in (tests_fits came n).passes (all_members (FitEach n) came (each_fits b f before from found.0 found.1))))
      (λ e. (let all = (tests_fits came n).holds e in both.passes (found_of came n b all, found_of came n f all)))

-- One more.

pub kept_entered : (old new : List SequenceKey) (places : BTreeMap LinkKey ℕ) (came : List Link) → AreOnce new
    → ((i : ℕ) (k : SequenceKey) → slice_get old i ≡ Some k → slice_get new i ≡ Some k) → AreKept old places came → AreKept new places came
kept_entered old new places came once stay kept = record {
  once = once;
  all = all_map (KeptIn old places) (KeptIn new places) came
      (λ x k. (k.0, record { sequence = stay k.0.sequence (sequence_of x) k.1.sequence; number = k.1.number }, k.2)) kept.all;
  leads = λ key place e. (let l = kept.leads key place e in (l.0, l.1, record { sequence = stay key.sequence (sequence_of l.0) l.2.sequence; number = l.2.number }));
}

some_still : {X : Type 0} (b : Bool) (x : X) (o : Option X) → IsSome o → IsSome (cond b (Some x) o)
some_still true x o s = refl
some_still false x o s = s

same_key : (a b : LinkKey) → is_at (key_cmp a) b ≡ true → IsSame a b
same_key a b e = by (key_cmp a b) (key_ranked a b) e
  where
    by : (o : Ordering) → MatchOrdering o (IsLess a b) (IsSame a b) (IsLess b a) → is_eq o ≡ true → IsSame a b
    by Less m e = absurd (true≢false (sym e))
    by Equal m e = m
    by Greater m e = absurd (true≢false (sym e))

pub kept_more : (sequences : List SequenceKey) (old new : BTreeMap LinkKey ℕ) (came : List Link) (n : Link) (key : LinkKey) → HasKey sequences n key
    → ((q : LinkKey) → get key_cmp new q ≡ cond (is_at (key_cmp key) q) (Some (length came)) (get key_cmp old q)) → get key_cmp new key ≡ Some (length came)
    → AreKept sequences old came → AreKept sequences new (came ++ n ∷ [])
kept_more sequences old new came n key has updates at kept = record {
  once = kept.once;
  all = all_both (KeptIn sequences new) came (n ∷ []) (all_map (KeptIn sequences old) (KeptIn sequences new) came (λ x k. (k.0, k.1, still k.0 k.2)) kept.all) ((key, has, subst (λ (o : Option ℕ). IsSome o) (sym at) refl), tt);
  leads = λ q place e. led q place (is_at (key_cmp key) q) refl (sym (updates q) ∙ e);
}
  where
    still : (q : LinkKey) → IsSome (get key_cmp old q) → IsSome (get key_cmp new q)
    still q s = subst (λ (o : Option ℕ). IsSome o) (sym (updates q)) (some_still (is_at (key_cmp key) q) (length came) (get key_cmp old q) s)

    led : (q : LinkKey) (place : ℕ) (b : Bool) → is_at (key_cmp key) q ≡ b → cond b (Some (length came)) (get key_cmp old q) ≡ Some place
        → (x : Link) × (slice_get (came ++ n ∷ []) place ≡ Some x) × HasKey sequences x q
    led q place true is e =
        let same = same_key key q is in (
          n,
          subst (λ (p : ℕ). slice_get (came ++ n ∷ []) p ≡ Some n) (some_one (length came) place e) (get_last came n),
          record { sequence = ap (λ (i : ℕ). slice_get sequences i) (sym same.0) ∙ has.sequence; number = sym same.1 ∙ has.number },
        )
    led q place false is e = (let l = kept.leads q place e in (l.0, get_front came n place l.0 l.1, l.2))

-- the same entries lead to the same places
pub kept_same : (sequences : List SequenceKey) (old new : BTreeMap LinkKey ℕ) (came : List Link) → new.entries ≡ old.entries → AreKept sequences old came → AreKept sequences new came
kept_same sequences old new came same kept = record {
  once = kept.once;
  all = all_map (KeptIn sequences old) (KeptIn sequences new) came (λ x k. (k.0, k.1, subst (λ (o : Option ℕ). IsSome o) (sym (found k.0)) k.2)) kept.all;
  leads = λ q place e. kept.leads q place (sym (found q) ∙ e);
}
  where
    found : (q : LinkKey) → get key_cmp new q ≡ get key_cmp old q
    found q = ap (λ (es : List (LinkKey × ℕ)). lookup (is_at (key_cmp q)) es) same

-- what is said of a list that is lent is said of the list
pub joins_by : (sequences : List SequenceKey) (places : BTreeMap LinkKey ℕ) (lent came : List Link) (n : Link) (r : Bool) → lent ≡ came → AreKept sequences places came → AreLinked came
    → (AreKept sequences places lent → AreLinked lent → r ≡ may_join lent n) → r ≡ may_join came n
joins_by sequences places lent came n r same kept linked f =
    subst (λ (t : List Link). r ≡ may_join t n) same (f (subst (λ (t : List Link). AreKept sequences places t) (sym same) kept) (subst AreLinked (sym same) linked))

-- Sequences that are all apart stand once.
pub once_from : {K : Type 0} (eq : K → K → Bool) → ((k : K) → eq k k ≡ true) → (ks : List K) → IsDistinct eq ks → (i j : ℕ) (k : K) → slice_get ks i ≡ Some k → slice_get ks j ≡ Some k → i ≡ j
unfolding IsDistinct
once_from eq itself [] d i j k e f = absurd (none_some k None refl e)
once_from eq itself (x ∷ ks) d zero zero k e f = refl
once_from eq itself (x ∷ ks) d zero (suc j) k e f =
    absurd (true≢false (sym (itself k) ∙ subst (λ y. eq y k ≡ false) (some_one x k e) (all_at (λ y. eq x y ≡ false) ks j k f d.0)))
once_from eq itself (x ∷ ks) d (suc i) zero k e f =
    absurd (true≢false (sym (itself k) ∙ subst (λ y. eq y k ≡ false) (some_one x k f) (all_at (λ y. eq x y ≡ false) ks i k e d.0)))
once_from eq itself (x ∷ ks) d (suc i) (suc j) k e f = ap (λ (m : ℕ). suc m) (once_from eq itself ks d.1 i j k e f)

-- `==` of sequences is the test of the definitions.

hosts : (a b : Host) → host_eq.ghosts.eq a b ≡ same_host a b
hosts (Os a) (Os b) = refl
hosts (Tcp a) (Tcp b) = refl
hosts (Os a) (Tcp b) = refl
hosts (Tcp a) (Os b) = refl

kinds : (a b : MachineQueue) → kind_eq.ghosts.eq a b ≡ same_kind a b
kinds DeadLetter DeadLetter = refl
kinds DeadXact DeadXact = refl
kinds Journal Journal = refl
kinds DeadLetter DeadXact = refl
kinds DeadLetter Journal = refl
kinds DeadXact DeadLetter = refl
kinds DeadXact Journal = refl
kinds Journal DeadLetter = refl
kinds Journal DeadXact = refl

names : (a b : QueueName) → name_eq.ghosts.eq a b ≡ same_name a b
names a b = search rules

keys_alike : (a b : SequenceKey) → key_eq.ghosts.eq a b ≡ (same_name a.destination b.destination && same_sequence a.sequence b.sequence)
keys_alike a b = ap (λ (t : Bool). t && same_sequence a.sequence b.sequence) (names a.destination b.destination)

key_itself : (k : SequenceKey) → key_eq.ghosts.eq k k ≡ true
key_itself k = keys_alike k k ∙ and_from _ _ ((tests_name k.destination k.destination).passes refl) ((tests_sequence k.sequence k.sequence).passes refl)

pub keys_once : (sequences : List SequenceKey) → IsDistinct key_eq.ghosts.eq sequences → AreOnce sequences
keys_once sequences distinct i j k e f = once_from key_eq.ghosts.eq key_itself sequences distinct i j k e f
