-- How often the recoverable messages that wait for peers bear an identifier, and whether a manager gave its number.
use Rattle.std.proofs.Common.{refl, ap, subst, ◌∙◌, arith, inl, inr}
use Rattle.std.proofs.lemmas.Bool.Decides.{nat_tests}
use Rattle.std.specs.List.{AllByRecursion}
use Rattle.std.specs.Option.{option_map_or}
use Rattle.std.specs.Prelude.{[], ◌&&◌, ◌+◌, ◌++◌, ◌<◌, ◌==◌, ◌∷◌, ◌≡◌, ◌≤◌, Bool, List, None, Option, Some, cond, false, is_none, length, map, nat_lt, position, remove, slice_get, slice_set, suc, true, zero, ℕ}
use Rattle.mqb_base.specs.Lanes.{lane_of}
use Rattle.mqb_base.specs.Same.{same_guid}
use Rattle.mqb_base.specs.declared.ids.Guid.{Guid}
use Rattle.mqb_base.specs.declared.ids.Identity.{Identity}
use Rattle.mqb_base.specs.declared.ids.MessageId.{MessageId}
use Rattle.mqb_base.specs.declared.message.Delivery.{Delivery}
use Rattle.mqb_base.specs.declared.message.Delivery.TheVariants as delivery
use Rattle.mqb_base.specs.declared.message.Lane.{Lane}
use Rattle.mqb_base.specs.declared.message.Lane.TheVariants as lane
use Rattle.mqb_base.specs.declared.message.Message.{Message}
use Rattle.mqb_exactly_once.specs.Words.{In}
use Rattle.mqb_model.specs.Lists.{with_changed, with_first_changed}
use Rattle.mqb_model.specs.records.Releases.{is_released_by, without_recoverable}
use Rattle.mqb_model.specs.state.Places.{is_express}
use Rattle.mqb_model.specs.state.State.{State}
use Rattle.mqb_plain.specs.Lists.{marked_next, unmarked, unsent}
use Rattle.mqb_plain.specs.Plain.{PlainLists, outgoing_in, pushed, with_outgoing, without}
use Rattle.mqb_plain.specs.declared.outgoing.Outgoing.{Outgoing}
use Rattle.mqb_history.specs.Made.{AreNumbered}
use Rattle.mqb_history.proofs.Lists.{equal_numbers, get_in, join_and}
use Rattle.mqb_history.proofs.Names.{same_guid_refl}
use Rattle.mqb_history.proofs.Tallies.{one_if, tally, tally_append, tally_set, tally_there, weight, weight_own}

-- Lists.

pub tally_changed : {X : Type 0} (f : X → ℕ) (change : X → X) (xs : List X) (k n : ℕ) → ((x : X) → f (change x) ≤ f x + n) → tally f (with_changed change xs k) ≤ tally f xs + n
tally_changed {X} f change xs k n more = at (slice_get xs k) refl
  where
    at : (o : Option X) → slice_get xs k ≡ o → tally f (option_map_or (λ x. slice_set xs k (change x)) o xs) ≤ tally f xs + n
    at None e = omega arith
    at (Some x) e = let set = tally_set f xs k x (change x) e in let le = more x in omega (arith, set, le)

pub tally_first_changed : {X : Type 0} (f : X → ℕ) (change : X → X) (passes : X → Bool) (xs : List X) → ((x : X) → f (change x) ≤ f x) → tally f (with_first_changed change passes xs) ≤ tally f xs
tally_first_changed f change passes xs less = at (position passes xs)
  where
    at : (o : Option ℕ) → tally f (option_map_or (with_changed change xs) o xs) ≤ tally f xs
    at None = omega arith
    at (Some k) = let le = tally_changed f change xs k 0 (λ x. let le = less x in omega (arith, le)) in omega (arith, le)

pub tally_mapped : {X : Type 0} (f : X → ℕ) (change : X → X) (xs : List X) → ((x : X) → f (change x) ≤ f x) → tally f (map change xs) ≤ tally f xs
tally_mapped f change [] less = omega arith
tally_mapped f change (x ∷ xs) less = let le = less x in let rest = tally_mapped f change xs less in omega (arith, le, rest)

tally_without : {X : Type 0} (f : X → ℕ) (xs : List X) (k : ℕ) → tally f (remove xs k) ≤ tally f xs
tally_without {X} f xs k = at xs k
  where
    at : (xs : List X) (k : ℕ) → tally f (remove xs k) ≤ tally f xs
    at [] zero = omega arith
    at [] (suc k) = omega arith
    at (x ∷ xs) zero = omega arith
    at (x ∷ xs) (suc k) = let rest = at xs k in omega (arith, rest)

-- Messages that wait.

-- those that wait for one peer, for all peers
abbrev pub in_list : MessageId → List Outgoing → ℕ
in_list x os = tally (λ (o : Outgoing). weight x o.message.id) os

abbrev pub in_plain : MessageId → State → ℕ
in_plain x s = tally (λ (p : PlainLists). in_list x p.recoverable) s.plain

-- each of a list waits
pub waits_there : (s : State) (k : ℕ) (p : PlainLists) → slice_get s.plain k ≡ Some p → AllByRecursion (λ (o : Outgoing). 1 ≤ in_plain o.message.id s) p.recoverable
waits_there s k p there = each p.recoverable (λ o i. i)
  where
    one : (o : Outgoing) → In o p.recoverable → 1 ≤ in_plain o.message.id s
    one o i = let own = weight_own o.message.id in let first = tally_there (λ (q : Outgoing). weight o.message.id q.message.id) p.recoverable o i in
        let all = tally_there (λ (q : PlainLists). in_list o.message.id q.recoverable) s.plain p (get_in s.plain k p there) in omega (arith, own, first, all)

    each : (os : List Outgoing) → ((o : Outgoing) → In o os → In o p.recoverable) → AllByRecursion (λ (o : Outgoing). 1 ≤ in_plain o.message.id s) os
    each [] sub = tt
    each (o ∷ os) sub = (one o (sub o (inl refl)), each os (λ q i. sub q (inr i)))

module _ (x : MessageId) where
  pub pushed_more : (m : Message) (p : PlainLists) (n : ℕ) → (is_express m.delivery ≡ false → weight x m.id ≤ n) → in_list x (pushed (lane_of m.delivery) m p).recoverable ≤ in_list x p.recoverable + n
  pushed_more m p n few = by m.delivery few
    where
      durable : weight x m.id ≤ n → in_list x (p.recoverable ++ unsent m ∷ []) ≤ in_list x p.recoverable + n
      durable le = let e = tally_append (λ (o : Outgoing). weight x o.message.id) p.recoverable (unsent m ∷ []) in omega (arith, e, le)

      by : (d : Delivery) → (is_express d ≡ false → weight x m.id ≤ n) → in_list x (pushed (lane_of d) m p).recoverable ≤ in_list x p.recoverable + n
      by delivery.Express f = omega arith
      by delivery.Recoverable f = durable (f refl)
      by delivery.Transactional f = durable (f refl)

  pub without_waits : (kind : Lane) (k : ℕ) (p : PlainLists) → in_list x (without kind k p).recoverable ≤ in_list x p.recoverable
  without_waits lane.Durable k p = tally_without (λ (o : Outgoing). weight x o.message.id) p.recoverable k
  without_waits lane.Express k p = omega arith

  pub released_waits : (s : State) (number : ℕ) (p : PlainLists) → in_list x (without_recoverable s number p).recoverable ≤ in_list x p.recoverable
  released_waits s number p = at (position (is_released_by s number) p.recoverable)
    where
      at : (o : Option ℕ) → in_list x (option_map_or (remove p.recoverable) o p.recoverable) ≤ in_list x p.recoverable
      at None = omega arith
      at (Some k) = tally_without (λ (o : Outgoing). weight x o.message.id) p.recoverable k

  pub unmarked_waits : (os : List Outgoing) → in_list x (unmarked os) ≤ in_list x os
  unmarked_waits os = tally_mapped (λ (o : Outgoing). weight x o.message.id) (λ o. unsent o.message) os (λ o. omega arith)

  marked_next_waits : (number : ℕ) (os : List Outgoing) → in_list x (marked_next number os) ≤ in_list x os
  marked_next_waits number [] = omega arith
  marked_next_waits number (o ∷ os) = at (is_none o.mark) (marked_next_waits number os)
    where
      at : (b : Bool) → in_list x (marked_next number os) ≤ in_list x os → in_list x (cond b (record o { mark = Some number } ∷ os) (o ∷ marked_next number os)) ≤ in_list x (o ∷ os)
      at true rest = omega arith
      at false rest = omega (arith, rest)

  pub marked_waits : (kind : Lane) (number : ℕ) (p : PlainLists) → in_list x (with_outgoing kind (marked_next number (outgoing_in kind p)) p).recoverable ≤ in_list x p.recoverable
  marked_waits lane.Durable number p = marked_next_waits number p.recoverable
  marked_waits lane.Express number p = omega arith

-- Numbers.

-- a manager gave the number of an identifier of its own
abbrev pub given_below : MessageId → Guid → ℕ → ℕ
given_below x own next = one_if (same_guid x.qm own && nat_lt x.number next)

abbrev pub given : MessageId → State → ℕ
given x s = given_below x s.identity.guid s.next_number

below : (n k : ℕ) → nat_lt n k ≡ true → n < k
below n k e = grind (arith, nat_tests, e)

is_below : (n k : ℕ) → n < k → nat_lt n k ≡ true
is_below n k lt = grind (arith, nat_tests)

not_below : (n k : ℕ) → nat_lt n k ≡ false → k ≤ n
not_below n k e = grind (arith, nat_tests, e)

less_up : (n m k : ℕ) → m ≤ k → one_if (nat_lt n m) ≤ one_if (nat_lt n k)
less_up n m k le = at (nat_lt n m) (nat_lt n k) refl refl
  where
    at : (a b : Bool) → nat_lt n m ≡ a → nat_lt n k ≡ b → one_if a ≤ one_if b
    at false b e f = omega arith
    at true true e f = omega arith
    at true false e f = let low = below n m e in let up = not_below n k f in absurd (omega (arith, low, up, le))

less_next : (n k : ℕ) → one_if (nat_lt n k) + one_if (n == k) ≤ one_if (nat_lt n (k + 1))
less_next n k = at (nat_lt n k) (n == k) (nat_lt n (k + 1)) refl refl refl
  where
    at : (a b c : Bool) → nat_lt n k ≡ a → (n == k) ≡ b → nat_lt n (k + 1) ≡ c → one_if a + one_if b ≤ one_if c
    at false false c e f g = omega arith
    at true false true e f g = omega arith
    at false true true e f g = omega arith
    at true true c e f g = let low = below n k e in let is = equal_numbers n k f in absurd (omega (arith, low, is))
    at true false false e f g = let low = below n k e in let up = not_below n (k + 1) g in absurd (omega (arith, low, up))
    at false true false e f g = let is = equal_numbers n k f in let up = not_below n (k + 1) g in absurd (omega (arith, is, up))

module _ (x : MessageId) where
  pub given_once : (s : State) → given x s ≤ 1
  given_once s = at (same_guid x.qm s.identity.guid && nat_lt x.number s.next_number)
    where
      at : (b : Bool) → one_if b ≤ 1
      at true = omega arith
      at false = omega arith

  pub given_there : (s : State) → x.qm ≡ s.identity.guid → x.number < s.next_number → 1 ≤ given x s
  given_there s own lt = let e = join_and (same_guid x.qm s.identity.guid) (nat_lt x.number s.next_number) (subst (λ g. same_guid x.qm g ≡ true) own (same_guid_refl x.qm)) (is_below x.number s.next_number lt) in
      let one = ap one_if e in omega (arith, one)

  pub given_same : (a b : State) → b.identity ≡ a.identity → b.next_number ≡ a.next_number → given x b ≡ given x a
  given_same a b own next = ap (λ (i : Identity). given_below x i.guid b.next_number) own ∙ ap (λ n. given_below x a.identity.guid n) next

  pub given_more : (own : Guid) (m n : ℕ) → m ≤ n → given_below x own m ≤ given_below x own n
  given_more own m n le = at (same_guid x.qm own)
    where
      at : (t : Bool) → one_if (t && nat_lt x.number m) ≤ one_if (t && nat_lt x.number n)
      at true = less_up x.number m n le
      at false = omega arith

  pub given_up : (a b : State) → b.identity ≡ a.identity → a.next_number ≤ b.next_number → given x a ≤ given x b
  given_up a b own le = let same = ap (λ (i : Identity). given_below x i.guid b.next_number) own in let up = given_more a.identity.guid a.next_number b.next_number le in omega (arith, same, up)

  -- one number more is given
  pub given_next : (own : Guid) (n : ℕ) → given_below x own n + weight x (record { qm = own; number = n }) ≤ given_below x own (n + 1)
  given_next own n = at (same_guid x.qm own)
    where
      at : (t : Bool) → one_if (t && nat_lt x.number n) + one_if (t && x.number == n) ≤ one_if (t && nat_lt x.number (n + 1))
      at true = less_next x.number n
      at false = omega arith

  -- and those of messages that bear them one after another
  pub numbers_given : (own : Guid) (n : ℕ) (ms : List Message) → AreNumbered own n ms → given_below x own n + tally (λ (m : Message). weight x m.id) ms ≤ given_below x own (n + length ms)
  numbers_given own n [] h = let up = given_more own n (n + 0) (omega arith) in omega (arith, up)
  numbers_given own n (m ∷ ms) h = let same = ap (weight x) h.0 in let one = given_next own n in let rest = numbers_given own (n + 1) ms h.1 in
      let up = given_more own (n + 1 + length ms) (n + length (m ∷ ms)) (omega arith) in omega (arith, same, one, rest, up)
