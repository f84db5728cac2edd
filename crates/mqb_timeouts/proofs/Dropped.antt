-- Express messages that a peer acknowledged leave, the first before the others.
use Rattle.std.proofs.Common.{◌≡◌, ℕ, ◌+◌, ◌<◌, ◌≤◌, Bool, true, false, cond, not, leb, List, [], ◌∷◌, length, set, Option, Some, None, refl, sym, ap, ◌∙◌, subst, arith}
use Rattle.std.specs.List.{filter, remove}
use Rattle.std.specs.Option.{IsSomeAnd, option_map_or}
use Rattle.std.specs.Prelude.{All, IsNone, slice_get}
use Rattle.std.proofs.lemmas.Bool.Decides.{nat_tests}
use Rattle.std.proofs.lemmas.List.{set-set}
use Rattle.std.proofs.lemmas.List.Edits.{length-remove}
use Rattle.std.proofs.lemmas.List.Elements.{All-head, All-tail}
use Rattle.std.proofs.lemmas.Option.{none-some, same_Some, slice_get_within}
use Rattle.mqb_base.specs.declared.message.Lane.TheVariants as lane
use Rattle.mqb_base.specs.declared.message.Message.{Message}
use Rattle.mqb_contents.specs.mqb_tables.Waits.{plain_count}
use Rattle.mqb_contents.proofs.mqb_tables.Members.{at_some, changed_is, changed_there, get-set, set_same}
use Rattle.mqb_model.specs.Lists.{with_changed}
use Rattle.mqb_model.specs.managers.Beside.{without_acked}
use Rattle.mqb_model.specs.state.Places.{with_plain}
use Rattle.mqb_model.specs.state.State.{State}
use Rattle.mqb_plain.specs.Lists.{InOrder, RisesFrom, is_sent_by, marks_of, unsent}
use Rattle.mqb_plain.specs.Plain.{PlainLists, without}
use Rattle.mqb_plain.specs.declared.outgoing.Outgoing.{Outgoing}

-- ---- messages

abbrev left : ℕ → List Outgoing → List Outgoing
left number items = filter (λ o. not (is_sent_by number o)) items

abbrev sent_as : Message → ℕ → Outgoing
sent_as m k = record { message = m; mark = Some k }

unsent_stay : (number : ℕ) (items : List Outgoing) → All (λ o. IsNone o.mark) items → left number items ≡ items
unsent_stay number [] none = refl
unsent_stay number (o ∷ items) none =
    by o.message o.mark (All-head (λ o. IsNone o.mark) o items none) (unsent_stay number items (All-tail (λ o. IsNone o.mark) o items none))
  where
    by : (m : Message) (mark : Option ℕ) → IsNone mark → left number items ≡ items
        → left number (record { message = m; mark = mark } ∷ items) ≡ record { message = m; mark = mark } ∷ items
    by m None is rest = ap (λ (xs : List Outgoing). unsent m ∷ xs) rest
    by m (Some k) is rest = absurd cc

unsent_unmarked : (items : List Outgoing) → All (λ o. IsNone o.mark) items → marks_of items ≡ []
unsent_unmarked [] none = refl
unsent_unmarked (o ∷ items) none =
    by o.message o.mark (All-head (λ o. IsNone o.mark) o items none) (unsent_unmarked items (All-tail (λ o. IsNone o.mark) o items none))
  where
    by : (m : Message) (mark : Option ℕ) → IsNone mark → marks_of items ≡ [] → marks_of (record { message = m; mark = mark } ∷ items) ≡ []
    by m None is rest = rest
    by m (Some k) is rest = absurd cc

-- above a number all stay
above_stay : (number low : ℕ) (items : List Outgoing) → number ≤ low → RisesFrom low items → left number items ≡ items
above_stay number low [] le rises = refl
above_stay number low (o ∷ items) le rises = by o.message o.mark rises (λ k le rises. above_stay number k items le rises)
  where
    by : (m : Message) (mark : Option ℕ) → RisesFrom low (record { message = m; mark = mark } ∷ items)
        → ((k : ℕ) → number ≤ k → RisesFrom k items → left number items ≡ items)
        → left number (record { message = m; mark = mark } ∷ items) ≡ record { message = m; mark = mark } ∷ items
    by m None rises rest = ap (λ (xs : List Outgoing). unsent m ∷ xs) (unsent_stay number items rises)
    by m (Some k) rises rest =
        let above : leb k number ≡ false = let more = rises.0 in grind (arith, nat_tests) in
        ap (λ (b : Bool). cond (not b) (sent_as m k ∷ left number items) (left number items)) above
        ∙ ap (λ (xs : List Outgoing). sent_as m k ∷ xs) (rest k (omega (arith, le, rises.0)) rises.1)

-- all stay where the first number is greater, or there is none
none_left : (number : ℕ) (items : List Outgoing) (first : Option ℕ) → InOrder items → first ≡ slice_get (marks_of items) 0
    → option_map_or (λ mark. leb mark number) first false ≡ false → left number items ≡ items
none_left number [] first rises is above = refl
none_left number (o ∷ items) first rises is above = by o.message o.mark rises is
  where
    by : (m : Message) (mark : Option ℕ) → InOrder (record { message = m; mark = mark } ∷ items)
        → first ≡ slice_get (marks_of (record { message = m; mark = mark } ∷ items)) 0
        → left number (record { message = m; mark = mark } ∷ items) ≡ record { message = m; mark = mark } ∷ items
    by m None rises is = ap (λ (xs : List Outgoing). unsent m ∷ xs) (unsent_stay number items rises)
    by m (Some k) rises is =
        let greater : leb k number ≡ false = sym (ap (λ (o : Option ℕ). option_map_or (λ mark. leb mark number) o false) is) ∙ above in
        ap (λ (b : Bool). cond (not b) (sent_as m k ∷ left number items) (left number items)) greater
        ∙ ap (λ (xs : List Outgoing). sent_as m k ∷ xs) (above_stay number k items (grind (arith, nat_tests)) rises.1)

pub none_leaves : (number : ℕ) (p : PlainLists) (first : Option ℕ) → InOrder p.express → first ≡ slice_get (marks_of p.express) 0
    → option_map_or (λ mark. leb mark number) first false ≡ false → without_acked number p ≡ p
none_leaves number p first rises is above = ap (λ (l : List Outgoing). record p { express = l }) (none_left number p.express first rises is above)

-- the first one leaves where its number is not
pub first_leaves : (number : ℕ) (items : List Outgoing) (mark : ℕ) → InOrder items → Some mark ≡ slice_get (marks_of items) 0 → leb mark number ≡ true
    → IsSomeAnd (slice_get items 0) (λ o. is_sent_by number o ≡ true)
first_leaves number [] mark rises is low = absurd (none-some mark (sym is))
first_leaves number (o ∷ items) mark rises is low = by o.message o.mark rises is
  where
    by : (m : Message) (k : Option ℕ) → InOrder (record { message = m; mark = k } ∷ items)
        → Some mark ≡ slice_get (marks_of (record { message = m; mark = k } ∷ items)) 0 → is_sent_by number (record { message = m; mark = k }) ≡ true
    by m None rises is = absurd (none-some mark (sym (is ∙ ap (λ (l : List ℕ). slice_get l 0) (unsent_unmarked items rises))))
    by m (Some k) rises is = subst (λ n. leb n number ≡ true) (same_Some mark k is) low

one_leaves : (number : ℕ) (items : List Outgoing) (o : Outgoing) → slice_get items 0 ≡ Some o → is_sent_by number o ≡ true
    → left number (remove items 0) ≡ left number items
one_leaves number [] o is low = absurd (none-some o is)
one_leaves number (x ∷ items) o is low =
    sym (ap (λ (b : Bool). cond (not b) (x ∷ left number items) (left number items)) (ap (is_sent_by number) (same_Some x o is) ∙ low))

-- ---- those for a peer

abbrev pub FirstLeaves : ℕ → State → ℕ → Type 0
FirstLeaves number s peer = IsSomeAnd (slice_get s.plain peer) (λ p. IsSomeAnd (slice_get p.express 0) (λ o. is_sent_by number o ≡ true))

pub same_lists : (number : ℕ) (s : State) (peer : ℕ) (p : PlainLists) → slice_get s.plain peer ≡ Some p → without_acked number p ≡ p
    → with_plain (without_acked number) s peer ≡ s
same_lists number s peer p is same =
    ap (λ (l : List PlainLists). record s { plain = l })
    (changed_is (without_acked number) s.plain peer p is ∙ (ap (λ (x : PlainLists). set s.plain peer x) same ∙ set_same s.plain peer p is))

pub acked_twice : (number : ℕ) (s : State) (peer : ℕ) → FirstLeaves number s peer
    → with_plain (without_acked number) (with_plain (without lane.Express 0) s peer) peer ≡ with_plain (without_acked number) s peer
acked_twice number s peer h =
    let a = at_some (λ p. IsSomeAnd (slice_get p.express 0) (λ o. is_sent_by number o ≡ true)) (slice_get s.plain peer) h in
    let b = at_some (λ o. is_sent_by number o ≡ true) (slice_get a.0.express 0) a.2 in
    let p = a.0 in
    let q = without lane.Express 0 p in
    let once : with_changed (without lane.Express 0) s.plain peer ≡ set s.plain peer q = changed_is (without lane.Express 0) s.plain peer p a.1 in
    let twice : with_changed (without_acked number) (set s.plain peer q) peer ≡ set (set s.plain peer q) peer (without_acked number q) =
    changed_is (without_acked number) (set s.plain peer q) peer q (get-set s.plain peer p q a.1) in
    let same : without_acked number q ≡ without_acked number p = ap (λ (l : List Outgoing). record p { express = l }) (one_leaves number p.express b.0 b.1 b.2) in
    ap (λ (l : List PlainLists). record s { plain = l })
    (ap (λ (l : List PlainLists). with_changed (without_acked number) l peer) once
    ∙ (twice ∙ (set-set s.plain peer q (without_acked number q)
    ∙ (ap (λ (x : PlainLists). set s.plain peer x) same ∙ sym (changed_is (without_acked number) s.plain peer p a.1)))))

pub fewer : (number : ℕ) (s : State) (peer : ℕ) → FirstLeaves number s peer
    → plain_count (with_plain (without lane.Express 0) s peer).plain peer lane.Express < plain_count s.plain peer lane.Express
fewer number s peer h =
    let a = at_some (λ p. IsSomeAnd (slice_get p.express 0) (λ o. is_sent_by number o ≡ true)) (slice_get s.plain peer) h in
    let b = at_some (λ o. is_sent_by number o ≡ true) (slice_get a.0.express 0) a.2 in
    let within : 0 < length a.0.express = slice_get_within a.0.express 0 b.0 b.1 in
    let count : plain_count s.plain peer lane.Express ≡ length a.0.express = ap (λ (o : Option PlainLists). option_map_or (λ p. length p.express) o 0) a.1 in
    let then : plain_count (with_plain (without lane.Express 0) s peer).plain peer lane.Express ≡ length (remove a.0.express 0) =
    ap (λ (o : Option PlainLists). option_map_or (λ p. length p.express) o 0) (changed_there (without lane.Express 0) s.plain peer a.0 a.1) in
    let less : length (remove a.0.express 0) + 1 ≡ length a.0.express = length-remove a.0.express 0 within in
    omega (arith, within, count, then, less)
