-- What a header acknowledges leaves: of the plain messages for a peer the one that was sent last.
use Rattle.std.proofs.Common.{◌≡◌, ℕ, zero, suc, ◌+◌, ◌≤◌, ◌<◌, ◌==◌, ◌&&◌, ◌||◌, Bool, true, false, cond, nat_le, List, [], ◌∷◌, ◌++◌, Option, Some, None, refl, sym, ap, subst, ◌∙◌, arith}
use Rattle.std.proofs.lemmas.Bool.Decides.{nat_tests}
use Rattle.std.proofs.lemmas.List.Elements.{recursion_from_All}
use Rattle.std.specs.List.{AllByRecursion, flat_map, list_any}
use Rattle.std.specs.Option.{option_map_or}
use Rattle.std.specs.Prelude.{IfSome, IsNone, filter, length, map, option_map, position, remove, slice_get, sum}
use Rattle.mqb_base.specs.Same.{same_id}
use Rattle.mqb_base.specs.declared.message.Message.{Message}
use Rattle.mqb_fate.specs.Asking.{is_ordinary}
use Rattle.mqb_model.specs.Lists.{with_changed, with_first_changed, without_first}
use Rattle.mqb_model.specs.calls.hear.Session.{released_of}
use Rattle.mqb_model.specs.managers.Valid.{BearMarks, IsUnsent, MayBear}
use Rattle.mqb_model.specs.records.Releases.{has_recoverable, is_released_by, releases_made, without_recoverable}
use Rattle.mqb_model.specs.rules.Numbers.{own_id}
use Rattle.mqb_model.specs.state.State.{State}
use Rattle.mqb_model.specs.state.Valid.{IsOwn, IsValidState, kept_messages, recoverable_messages}
use Rattle.mqb_plain.specs.Lists.{at_most, is_sent_by, messages_of}
use Rattle.mqb_plain.specs.Plain.{PlainLists}
use Rattle.mqb_plain.specs.declared.outgoing.Outgoing.{Outgoing}
use Rattle.mqb_session.specs.State as one_end
use Rattle.mqb_law_meetings.specs.Work.{plain_work, work_for}
use Rattle.mqb_law_meetings.proofs.Firsts.{PairsByRecursion, all_got, changed_at_most, changed_cons, changed_falls, changed_same, first_at, pairs_between, pairs_of, pairs_right, position_cons, sum_cons}
use Rattle.mqb_law_meetings.proofs.Lists.{other_numbers, same_guid_is, same_guid_refl, same_number}
use Rattle.mqb_law_meetings.proofs.Noticing.{IsFresh, ordinary_in}

-- A state of which plain messages left, and in which none counts as sent.
pub record Clears (s t : State) (lowers : ℕ) : Type 0 where
  pub identity : t.identity ≡ s.identity
  pub peers : t.peers ≡ s.peers
  pub outs : t.outs ≡ s.outs
  pub ins : t.ins ≡ s.ins
  pub work : sum (map plain_work t.plain) + lowers ≤ sum (map plain_work s.plain)
  pub fresh : AllByRecursion IsFresh t.plain
  pub ordinary : (k : ℕ) → option_map_or ordinary_in (slice_get t.plain k) 0 ≤ option_map_or ordinary_in (slice_get s.plain k) 0

-- Lists for other peers than that of the session.

unmarked : (mark : Option ℕ) → IsNone mark → mark ≡ None
unmarked None h = refl
unmarked (Some n) h = absurd (let none : ⊥ = cc in none)

pub all_unmarked : (items : List Outgoing) → AllByRecursion (λ o. IsNone o.mark) items → AllByRecursion (λ o. o.mark ≡ None) items
all_unmarked [] h = tt
all_unmarked (o ∷ items) h = (unmarked o.mark h.0, all_unmarked items h.1)

is_fresh : (p : PlainLists) → p.express ≡ [] → IsUnsent p → IsFresh p
is_fresh p none unsent = record { express = none; unsent = all_unmarked p.recoverable (recursion_from_All (λ (o : Outgoing). IsNone o.mark) p.recoverable unsent.recoverable) }

module _ (x : one_end.State) (peer : ℕ) where
  one_fresh : (k : ℕ) (p : PlainLists) → (k ≡ peer → ⊥) → MayBear (k == peer) x p → p.express ≡ [] → IsFresh p
  one_fresh k p apart bears none = is_fresh p none (subst (λ b. MayBear b x p) (other_numbers k peer apart) bears)

  behind_fresh : (k : ℕ) (ps : List PlainLists) → peer < k → BearMarks x peer k ps → AllByRecursion (λ p. p.express ≡ []) ps → AllByRecursion IsFresh ps
  behind_fresh k [] over bears none = tt
  behind_fresh k (p ∷ ps) over bears none = (
    one_fresh k p (λ e. omega (arith, e, over)) bears.0 none.0,
    behind_fresh (k + 1) ps (omega (arith, over)) bears.1 none.1,
  )

  -- all are fresh once that for the peer is
  pub fresh_but : (change : PlainLists → PlainLists) (from k : ℕ) (ps : List PlainLists) → from + k ≡ peer → BearMarks x peer from ps → AllByRecursion (λ p. p.express ≡ []) ps
      → IfSome (slice_get ps k) (λ p. IsFresh (change p)) → AllByRecursion IsFresh (with_changed change ps k)
  fresh_but change from k [] at bears none this = tt
  fresh_but change from zero (p ∷ ps) at bears none this = (this, behind_fresh (from + 1) ps (omega (arith, at)) bears.1 none.1)
  fresh_but change from (suc k) (p ∷ ps) at bears none this = subst (AllByRecursion IsFresh) (sym (changed_cons change p ps k)) (
    one_fresh from p (λ e. omega (arith, e, at)) bears.0 none.0,
    fresh_but change (from + 1) k ps (omega (arith, at)) bears.1 none.1 this,
  )

-- The first list that has the message of a number.

abbrev Differ : Message → Message → Type 0
Differ a b = same_id a.id b.id ≡ false

flat_got : (P : Message → Type 0) (ps : List PlainLists) (k : ℕ) (p : PlainLists) → slice_get ps k ≡ Some p → AllByRecursion P (flat_map (λ p. messages_of p.recoverable) ps)
    → AllByRecursion P (messages_of p.recoverable)
flat_got P [] k p e h = absurd (let none : ⊥ = cc in none)
flat_got P (y ∷ ys) zero p e h = subst (λ (z : PlainLists). AllByRecursion P (messages_of z.recoverable)) (let same : y ≡ p = cc in same) (left (messages_of y.recoverable) h)
  where
    left : (ms : List Message) → AllByRecursion P (ms ++ flat_map (λ p. messages_of p.recoverable) ys) → AllByRecursion P ms
    left [] a = tt
    left (m ∷ ms) a = (a.0, left ms a.1)
flat_got P (y ∷ ys) (suc k) p e h = flat_got P ys k p e (right (messages_of y.recoverable) h)
  where
    right : (ms : List Message) → AllByRecursion P (ms ++ flat_map (λ p. messages_of p.recoverable) ys) → AllByRecursion P (flat_map (λ p. messages_of p.recoverable) ys)
    right [] a = a
    right (m ∷ ms) a = right ms a.1

module _ (s : State) (q : Message) (own : q.id ≡ own_id s q.id.number) where
  abbrev n : ℕ
  n = q.id.number

  itself : same_id q.id (own_id s n) ≡ true
  itself = subst (λ i. same_id q.id i ≡ true) own (ap (λ b. b && n == n) (same_guid_refl q.id.qm) ∙ same_number n)

  none_of : (items : List Outgoing) → AllByRecursion (λ m. Differ m q) (messages_of items) → list_any (is_released_by s n) items ≡ false
  none_of [] h = refl
  none_of (o ∷ items) h = ap (λ b. b || list_any (is_released_by s n) items) (subst (λ i. same_id o.message.id i ≡ false) own h.0) ∙ none_of items h.1

  -- of its list it is the first one
  module _ (p : PlainLists) (mark : Option ℕ) (rest : List Outgoing) (are : p.recoverable ≡ record { message = q; mark = mark } ∷ rest) where
    pub has_it : has_recoverable s n p ≡ true
    has_it = ap (λ items. list_any (is_released_by s n) items) are ∙ ap (λ b. b || list_any (is_released_by s n) rest) itself

    pub without_it : without_recoverable s n p ≡ record p { recoverable = rest }
    without_it = ap (λ items. record p { recoverable = without_first (is_released_by s n) items }) are
        ∙ ap (λ o. record p { recoverable = option_map_or (remove (record { message = q; mark = mark } ∷ rest)) o (record { message = q; mark = mark } ∷ rest) })
        (position_cons (is_released_by s n) (record { message = q; mark = mark }) rest
        ∙ ap (λ b. cond b (Some 0) (option_map (λ k. suc k) (position (is_released_by s n) rest))) itself)

    among : messages_of p.recoverable ≡ q ∷ messages_of rest
    among = ap messages_of are

    pub first_list : (ps : List PlainLists) (k : ℕ) → slice_get ps k ≡ Some p → PairsByRecursion Differ (flat_map (λ p. messages_of p.recoverable) ps)
        → position (has_recoverable s n) ps ≡ Some k
    first_list [] k e d = absurd (let none : ⊥ = cc in none)
    first_list (y ∷ ys) zero e d = position_cons (has_recoverable s n) y ys ∙ ap (λ b. cond b (Some 0) (option_map (λ k. suc k) (position (has_recoverable s n) ys)))
        (subst (λ z. has_recoverable s n z ≡ true) (let same : p ≡ y = cc in same) has_it)
    first_list (y ∷ ys) (suc k) e d = position_cons (has_recoverable s n) y ys
        ∙ ap (λ b. cond b (Some 0) (option_map (λ k. suc k) (position (has_recoverable s n) ys))) (none_of y.recoverable (differ (messages_of y.recoverable) (pairs_between Differ _ _ d)))
        ∙ ap (option_map (λ k. suc k)) (first_list ys k e (pairs_right Differ (messages_of y.recoverable) _ d))
      where
        differ : (ms : List Message) → AllByRecursion (λ m. AllByRecursion (Differ m) (flat_map (λ p. messages_of p.recoverable) ys)) ms → AllByRecursion (λ m. Differ m q) ms
        differ [] h = tt
        differ (m ∷ ms) h = ((subst (AllByRecursion (Differ m)) among (flat_got (Differ m) ys k p e h.0)).0, differ ms h.1)

-- What a header releases.

none_sent : (number : ℕ) (items : List Outgoing) → AllByRecursion (λ o. o.mark ≡ None) items → filter (is_sent_by number) items ≡ []
none_sent number [] h = refl
none_sent number (o ∷ items) h = ap (λ mark. cond (at_most number mark) (o ∷ filter (is_sent_by number) items) (filter (is_sent_by number) items)) h.0 ∙ none_sent number items h.1

up_to_itself : (n : ℕ) → nat_le n n ≡ true
up_to_itself n = grind (arith, nat_tests)

module _ (s : State) (valid : IsValidState s) (x : one_end.State) (k : ℕ) (bears : BearMarks x k 0 s.plain) (express : AllByRecursion (λ p. p.express ≡ []) s.plain)
    (p : PlainLists) (there : slice_get s.plain k ≡ Some p) (number : ℕ) (rest : List Outgoing) (rest_unsent : AllByRecursion (λ o. o.mark ≡ None) rest) where
  none_express : p.express ≡ []
  none_express = all_got (λ (p : PlainLists). p.express ≡ []) s.plain k p there express

  this : (change : PlainLists → PlainLists) → IsFresh (change p) → IfSome (slice_get s.plain k) (λ p. IsFresh (change p))
  this change f = subst (λ o. IfSome o (λ p. IsFresh (change p))) (sym there) f

  -- nothing was sent
  pub none_released : p.recoverable ≡ rest → released_of number p ≡ []
  none_released are = ap (λ items. map (λ (o : Outgoing). o.message.id.number) (filter (is_sent_by number) items)) are
      ∙ ap (map (λ (o : Outgoing). o.message.id.number)) (none_sent number rest rest_unsent)

  pub clears_none : p.recoverable ≡ rest → Clears s s 0
  clears_none are = record {
    identity = refl;
    peers = refl;
    outs = refl;
    ins = refl;
    work = omega arith;
    fresh = subst (AllByRecursion IsFresh) (changed_same (λ p. p) s.plain k (kept (slice_get s.plain k)))
        (fresh_but x k (λ p. p) 0 k s.plain (omega arith) bears express (this (λ p. p)
        (record { express = none_express; unsent = subst (AllByRecursion (λ (o : Outgoing). o.mark ≡ None)) (sym are) rest_unsent })));
    ordinary = λ j. omega arith;
  }
    where
      kept : (o : Option PlainLists) → IfSome o (λ p. p ≡ p)
      kept None = tt
      kept (Some q) = refl

  -- one message was
  module _ (q : Message) (are : p.recoverable ≡ record { message = q; mark = Some number } ∷ rest) where
    pub one_released : released_of number p ≡ q.id.number ∷ []
    one_released = ap (λ items. map (λ (o : Outgoing). o.message.id.number) (filter (is_sent_by number) items)) are
        ∙ ap (λ b. map (λ (o : Outgoing). o.message.id.number) (cond b (record { message = q; mark = Some number } ∷ filter (is_sent_by number) rest) (filter (is_sent_by number) rest))) (up_to_itself number)
        ∙ ap (λ xs. q.id.number ∷ map (λ (o : Outgoing). o.message.id.number) xs) (none_sent number rest rest_unsent)

    left_over : messages_of p.recoverable ≡ q ∷ messages_of rest
    left_over = ap messages_of are

    owned : IsOwn s.identity.guid s.next_number q
    owned = (subst (AllByRecursion (IsOwn s.identity.guid s.next_number)) left_over (flat_got (IsOwn s.identity.guid s.next_number) s.plain k p there
        (right (kept_messages s) (recursion_from_All (IsOwn s.identity.guid s.next_number) (kept_messages s ++ recoverable_messages s) valid.own)))).0
      where
        right : (ms : List Message) → AllByRecursion (IsOwn s.identity.guid s.next_number) (ms ++ recoverable_messages s) → AllByRecursion (IsOwn s.identity.guid s.next_number) (recoverable_messages s)
        right [] a = a
        right (m ∷ ms) a = right ms a.1

    own : q.id ≡ own_id s q.id.number
    own = ap (λ g. record { qm = g; number = q.id.number }) (same_guid_is q.id.qm s.identity.guid owned.source)

    abbrev change : PlainLists → PlainLists
    change = without_recoverable s q.id.number

    found : with_first_changed change (has_recoverable s q.id.number) s.plain ≡ with_changed change s.plain k
    found = first_at change (has_recoverable s q.id.number) s.plain k (first_list s q own p (Some number) rest are s.plain k there
        (pairs_right Differ (kept_messages s) (recoverable_messages s) (pairs_of Differ (kept_messages s ++ recoverable_messages s) valid.ids_differ)))

    changed_is : change p ≡ record p { recoverable = rest }
    changed_is = without_it s q own p (Some number) rest are

    less_work : plain_work (change p) + work_for q ≤ plain_work p
    less_work = let a = ap plain_work changed_is in let b = ap (λ ms. sum (map work_for ms)) left_over in let c = sum_cons (work_for q) (map work_for (messages_of rest)) in
        omega (arith, a, b, c)

    no_more : (z : PlainLists) → ordinary_in (change z) ≤ ordinary_in z
    no_more z = fewer (position (is_released_by s q.id.number) z.recoverable) z.recoverable
      where
        left : List Outgoing → ℕ
        left items = length (filter is_ordinary (messages_of items))

        less : (o : Outgoing) (items others : List Outgoing) → left items ≤ left others → left (o ∷ items) ≤ left (o ∷ others)
        less o items others h = at (is_ordinary o.message)
          where
            at : (b : Bool) → length (cond b (o.message ∷ filter is_ordinary (messages_of items)) (filter is_ordinary (messages_of items)))
                ≤ length (cond b (o.message ∷ filter is_ordinary (messages_of others)) (filter is_ordinary (messages_of others)))
            at true = omega (arith, h)
            at false = h

        skip : (o : Outgoing) (items : List Outgoing) → left items ≤ left (o ∷ items)
        skip o items = at (is_ordinary o.message)
          where
            at : (b : Bool) → length (filter is_ordinary (messages_of items)) ≤ length (cond b (o.message ∷ filter is_ordinary (messages_of items)) (filter is_ordinary (messages_of items)))
            at true = omega arith
            at false = omega arith

        removed : (items : List Outgoing) (i : ℕ) → left (remove items i) ≤ left items
        removed [] zero = omega arith
        removed [] (suc i) = omega arith
        removed (o ∷ items) zero = skip o items
        removed (o ∷ items) (suc i) = less o (remove items i) items (removed items i)

        fewer : (o : Option ℕ) (items : List Outgoing) → left (option_map_or (remove items) o items) ≤ left items
        fewer None items = omega arith
        fewer (Some i) items = removed items i

    pub clears_one : Clears s (releases_made s (q.id.number ∷ [])).state (work_for q)
    clears_one = record {
      identity = refl;
      peers = refl;
      outs = refl;
      ins = refl;
      work = subst (λ ps. sum (map plain_work ps) + work_for q ≤ sum (map plain_work s.plain)) (sym found) (changed_falls plain_work change (work_for q) s.plain k p there less_work);
      fresh = subst (AllByRecursion IsFresh) (sym found) (fresh_but x k change 0 k s.plain (omega arith) bears express (this change
          (subst IsFresh (sym changed_is) (record { express = none_express; unsent = rest_unsent }))));
      ordinary = λ j. subst (λ ps. option_map_or ordinary_in (slice_get ps j) 0 ≤ option_map_or ordinary_in (slice_get s.plain j) 0) (sym found)
          (changed_at_most ordinary_in change no_more s.plain k j);
    }
