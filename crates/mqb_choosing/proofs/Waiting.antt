-- What waits behind what was sent.
use Rattle.std.proofs.Common.{◌≡◌, ℕ, zero, suc, ◌+◌, ◌<◌, ◌≤◌, Bool, true, cond, List, [], ◌∷◌, ◌++◌, length, take, drop, map, get_or, Option, Some, None, inl, inr, refl, sym, ap, subst, ◌∙◌, arith}
use Rattle.std.proofs.lemmas.Bool.{cases_lt, le-ltb, lt-ltb, true≢false}
use Rattle.std.proofs.lemmas.List.{get_or-take, length-take}
use Rattle.std.proofs.lemmas.List.Elements.{All-head, All-tail, All-weaker, recursion_from_All}
use Rattle.std.proofs.lemmas.Option.{get_or_from_slice_get, slice_get_within}
use Rattle.std.specs.List.{AllByRecursion, cons_option, enumerate_from, flat_map}
use Rattle.std.specs.Prelude.{◌⊎◌, ◌==◌, ◌&&◌, All, IsSomeAnd, max, option_and_then, IsNone, MatchOption, filter, filter_map, is_none, nat_lt, slice_get, zip}
use Rattle.mqb_base.specs.declared.heads.TxHead.{TxHead}
use Rattle.mqb_base.specs.declared.message.Lane.{Lane}
use Rattle.mqb_base.specs.declared.message.Lane.TheVariants as lane
use Rattle.mqb_base.specs.declared.message.Message.{Message}
use Rattle.mqb_orders.specs.KeptLists.{Rises}
use Rattle.mqb_orders.specs.Rows.{Row, is_open}
use Rattle.mqb_orders.specs.declared.kept.Kept.{Kept}
use Rattle.mqb_plain.specs.Lists.{InOrder, RisesFrom, marks_of, messages_of}
use Rattle.mqb_plain.specs.Plain.{PlainLists, outgoing_in}
use Rattle.mqb_plain.specs.declared.outgoing.Outgoing.{Outgoing}
use Rattle.mqb_model.specs.calls.pump.Candidates.{Candidate, of_row, tx_of, unsent_from, waiting}
use Rattle.mqb_model.specs.managers.Beside.{Origin}
use Rattle.mqb_model.specs.state.State.{State}
use Rattle.mqb_choosing.specs.declared.choice.Origin.TheVariants as origin
use Rattle.mqb_choosing.specs.declared.choice.Origin.TheVariants.{Waiting}
use Rattle.mqb_choosing.specs.Choices.{AreSendable, IsOfStream, IsPlain, CanGo, IsSendable, coming_from, message_at, origin_in}
use Rattle.mqb_choosing.specs.Going.{Going, Offers, unsent_in}
use Rattle.mqb_choosing.proofs.Left.{AreLeft, front_is, left_more, left_none, left_same, zip_front, zip_past}
use Rattle.mqb_choosing.proofs.Members.{got_holds, there_holds}

-- Kept messages above a number.

-- the first ones are up to a number where the last of them is
pub low_to : (number : ℕ) (kept : List Kept) (middle : ℕ) (x : Kept) → Rises kept → slice_get kept middle ≡ Some x → x.number ≤ number
    → All (λ k. k.number ≤ number) (take (middle + 1) kept)
low_to number kept middle x rises is low k d within =
    let few : k < middle + 1 = omega (arith, within, length-take (middle + 1) kept) in
    subst (λ (m : Kept). m.number ≤ number) (sym (get_or-take (middle + 1) kept k d few)) (at (cases_lt k middle))
  where
    there : get_or kept middle d ≡ x
    there = get_or_from_slice_get kept middle x d is

    at : (k < middle) ⊎ (middle ≤ k) → (get_or kept k d).number ≤ number
    at (inl less) = let later = rises k middle d less (slice_get_within kept middle x is) in omega (arith, later, low, ap (λ (m : Kept). m.number) there)
    at (inr past) =
        let few : k < middle + 1 = omega (arith, within, length-take (middle + 1) kept) in
        let same : middle ≡ k = omega (arith, few, past) in
        subst (λ (i : ℕ). (get_or kept i d).number ≤ number) same (subst (λ (m : Kept). m.number ≤ number) (sym there) low)

pub filter_is : (number : ℕ) (kept : List Kept) (count : ℕ) → All (λ k. k.number ≤ number) (take count kept) → All (λ k. number < k.number) (drop count kept)
    → filter (λ k. nat_lt number k.number) kept ≡ drop count kept
filter_is number [] zero low high = refl
filter_is number [] (suc count) low high = refl
filter_is number (k ∷ kept) zero low high =
    ap (λ b. cond b (k ∷ filter (λ k. nat_lt number k.number) kept) (filter (λ k. nat_lt number k.number) kept))
    (lt-ltb number k.number (All-head (λ k. number < k.number) k kept high))
    ∙ ap (λ (ks : List Kept). k ∷ ks) (filter_is number kept zero low (All-tail (λ k. number < k.number) k kept high))
filter_is number (k ∷ kept) (suc count) low high =
    ap (λ b. cond b (k ∷ filter (λ k. nat_lt number k.number) kept) (filter (λ k. nat_lt number k.number) kept))
    (le-ltb number k.number (All-head (λ k. k.number ≤ number) k (take count kept) low))
    ∙ filter_is number kept count (All-tail (λ k. k.number ≤ number) k (take count kept) low) high

-- Plain messages that were not sent.

abbrev pub plain_from : Origin → Message → Candidate
plain_from origin m = record { origin = origin; message = m; tx = None }

abbrev pub plain_in : Lane → Message → Candidate
plain_in kind m = plain_from (origin_in kind) m

no_marks : (items : List Outgoing) → AllByRecursion (λ o. IsNone o.mark) items → length (marks_of items) ≡ 0
no_marks [] none = refl
no_marks (o ∷ items) none = at o.mark none.0 (no_marks items none.1)
  where
    at : (mark : Option ℕ) → IsNone mark → length (marks_of items) ≡ 0 → length (cons_option mark (marks_of items)) ≡ 0
    at None is same = same
    at (Some n) is same = absurd (true≢false is)

none_sent : (origin : Origin) (items : List Outgoing) → AllByRecursion (λ o. IsNone o.mark) items
    → filter_map (unsent_from origin) items ≡ map (plain_from origin) (drop (length (marks_of items)) (messages_of items))
none_sent origin [] none = refl
none_sent origin (o ∷ items) none = at o.mark none.0 (none_sent origin items none.1)
  where
    rest : List Candidate
    rest = filter_map (unsent_from origin) items

    at : (mark : Option ℕ) → IsNone mark → rest ≡ map (plain_from origin) (drop (length (marks_of items)) (messages_of items))
        → cons_option (cond (is_none mark) (Some (plain_from origin o.message)) None) rest
        ≡ map (plain_from origin) (drop (length (cons_option mark (marks_of items))) (o.message ∷ messages_of items))
    at None is same = ap (λ (cs : List Candidate). plain_from origin o.message ∷ cs) (same ∙ ap (λ (n : ℕ). map (plain_from origin) (drop n (messages_of items))) (no_marks items none.1))
        ∙ ap (λ (n : ℕ). map (plain_from origin) (drop n (o.message ∷ messages_of items))) (sym (no_marks items none.1))
    at (Some n) is same = absurd (true≢false is)

unsent_from_low : (low : ℕ) (origin : Origin) (items : List Outgoing) → RisesFrom low items
    → filter_map (unsent_from origin) items ≡ map (plain_from origin) (drop (length (marks_of items)) (messages_of items))
unsent_from_low low origin [] rises = refl
unsent_from_low low origin (o ∷ items) rises = at o.mark rises (λ mark more. unsent_from_low mark origin items more)
  where
    at : (mark : Option ℕ) → MatchOption mark (All (λ p. IsNone p.mark) items) (λ mark. (low < mark) × RisesFrom mark items)
        → ((mark : ℕ) → RisesFrom mark items → filter_map (unsent_from origin) items ≡ map (plain_from origin) (drop (length (marks_of items)) (messages_of items)))
        → cons_option (cond (is_none mark) (Some (plain_from origin o.message)) None) (filter_map (unsent_from origin) items)
        ≡ map (plain_from origin) (drop (length (cons_option mark (marks_of items))) (o.message ∷ messages_of items))
    at None none behind =
        let each = recursion_from_All (λ p. IsNone p.mark) items none in
        ap (λ (cs : List Candidate). plain_from origin o.message ∷ cs)
        (none_sent origin items each ∙ ap (λ (n : ℕ). map (plain_from origin) (drop n (messages_of items))) (no_marks items each))
        ∙ ap (λ (n : ℕ). map (plain_from origin) (drop n (o.message ∷ messages_of items))) (sym (no_marks items each))
    at (Some mark) more behind = behind mark more.1

pub unsent_is : (origin : Origin) (items : List Outgoing) → InOrder items
    → filter_map (unsent_from origin) items ≡ map (plain_from origin) (drop (length (marks_of items)) (messages_of items))
unsent_is origin items order = unsent_from_low 0 origin items order

-- A message of a lane at an index, and those behind it.

pub plain_ready : (s : State) (peer : ℕ) (kind : Lane) (index : ℕ) (p : PlainLists) → AreSendable s → slice_get s.plain peer ≡ Some p
    → index < length (messages_of (outgoing_in kind p)) → CanGo s (Waiting peer kind index)
plain_ready s peer kind index p sendable is within =
    subst (λ (o : Option PlainLists). IsSomeAnd (option_and_then (λ p. slice_get (messages_of (outgoing_in kind p)) index) o) (λ m. IsSendable (coming_from (Waiting peer kind index) m))) (sym is)
    (there_holds (λ m. IsSendable (coming_from (Waiting peer kind index) m)) (messages_of (outgoing_in kind p)) index each within)
  where
    plain : (kind : Lane) → All IsPlain (messages_of (outgoing_in kind p))
    plain lane.Durable = got_holds (λ p. All IsPlain (messages_of p.recoverable)) s.plain peer p sendable.recoverable is
    plain lane.Express = got_holds (λ p. All IsPlain (messages_of p.express)) s.plain peer p sendable.express is

    each : All (λ m. IsSendable (coming_from (Waiting peer kind index) m)) (messages_of (outgoing_in kind p))
    each = All-weaker IsPlain (λ m. IsSendable (coming_from (Waiting peer kind index) m)) (λ m h. record { carried = h.0; kind = sym h.1 }) (messages_of (outgoing_in kind p)) (plain kind)

-- it was offered
pub plain_offered : (s : State) (start now after : Going) (peer : ℕ) (kind : Lane) (index : ℕ) (p : PlainLists) → slice_get s.plain peer ≡ Some p
    → IsSomeAnd (message_at s (Waiting peer kind index)) (λ m. Offers s now after (coming_from (Waiting peer kind index) m ∷ []))
    → IsSomeAnd (slice_get s.plain peer) (λ p. AreLeft s start now (map (plain_in kind) (drop index (messages_of (outgoing_in kind p)))) (unsent_in kind p))
    → IsSomeAnd (slice_get s.plain peer) (λ p. AreLeft s start after (map (plain_in kind) (drop (index + 1) (messages_of (outgoing_in kind p)))) (unsent_in kind p))
plain_offered s start now after peer kind index p is offers left = rw is (at (slice_get ms index) refl
    (subst (λ (o : Option PlainLists). IsSomeAnd (option_and_then (λ p. slice_get (messages_of (outgoing_in kind p)) index) o) (λ m. Offers s now after (plain_in kind m ∷ []))) is offers))
  where
    ms : List Message
    ms = messages_of (outgoing_in kind p)

    here : AreLeft s start now (map (plain_in kind) (drop index ms)) (unsent_in kind p)
    here = subst (λ (o : Option PlainLists). IsSomeAnd o (λ p. AreLeft s start now (map (plain_in kind) (drop index (messages_of (outgoing_in kind p)))) (unsent_in kind p))) is left

    at : (o : Option Message) → slice_get ms index ≡ o → IsSomeAnd o (λ m. Offers s now after (plain_in kind m ∷ []))
        → AreLeft s start after (map (plain_in kind) (drop (index + 1) ms)) (unsent_in kind p)
    at None got offers = absurd offers
    at (Some m) got offers = left_more s start now after (plain_in kind m ∷ []) (map (plain_in kind) (drop (index + 1) ms)) (unsent_in kind p)
        (left_same s start now (map (plain_in kind) (drop index ms)) (plain_in kind m ∷ map (plain_in kind) (drop (index + 1) ms)) (unsent_in kind p)
        (ap (λ (ms : List Message). map (plain_in kind) ms) (front_is ms index m got)) here) offers

-- A kept message of a row at an index, and those behind it.

pub kept_ready : (s : State) (row : ℕ) (index : ℕ) (tx : TxHead) (r : Row) (k : Kept) → AreSendable s → slice_get s.outs row ≡ Some r
    → slice_get r.kept index ≡ Some k → CanGo s (origin.Kept row index tx)
kept_ready s row index tx r k sendable is got =
    rw is (rw got (let h = got_holds (λ (k : Kept). IsOfStream k.message) r.kept index k (got_holds (λ (r : Row). All (λ k. IsOfStream k.message) r.kept) s.outs row r sendable.kept is) got in
    record { carried = h.0; kind = sym h.1 }))

-- it was offered
pub kept_offered : (s : State) (start now after : Going) (row index from : ℕ) (tx : TxHead) (r : Row) (k : Kept) → slice_get s.outs row ≡ Some r
    → slice_get r.kept index ≡ Some k → tx ≡ tx_of r k
    → IsSomeAnd (message_at s (origin.Kept row index tx)) (λ m. Offers s now after (coming_from (origin.Kept row index tx) m ∷ []))
    → IsSomeAnd (slice_get s.outs row) (λ r. AreLeft s start now (map (of_row row r) (drop index r.kept)) (map (of_row row r) (drop from r.kept)))
    → IsSomeAnd (slice_get s.outs row) (λ r. AreLeft s start after (map (of_row row r) (drop (index + 1) r.kept)) (map (of_row row r) (drop from r.kept)))
kept_offered s start now after row index from tx r k is got header offers left = rw is
    (left_more s start now after (of_row row r k ∷ []) (map (of_row row r) (drop (index + 1) r.kept)) all
    (left_same s start now (map (of_row row r) (drop index r.kept)) (of_row row r k ∷ map (of_row row r) (drop (index + 1) r.kept)) all
    (ap (λ (ks : List Kept). map (of_row row r) ks) (front_is r.kept index k got)) here) one)
  where
    all : List Candidate
    all = map (of_row row r) (drop from r.kept)

    here : AreLeft s start now (map (of_row row r) (drop index r.kept)) all
    here = subst (λ (o : Option Row). IsSomeAnd o (λ r. AreLeft s start now (map (of_row row r) (drop index r.kept)) (map (of_row row r) (drop from r.kept)))) is left

    there : message_at s (origin.Kept row index tx) ≡ Some k.message
    there = rw is (rw got refl)

    told : Offers s now after (coming_from (origin.Kept row index tx) k.message ∷ [])
    told = subst (λ (o : Option Message). IsSomeAnd o (λ m. Offers s now after (coming_from (origin.Kept row index tx) m ∷ []))) there offers

    one : Offers s now after (of_row row r k ∷ [])
    one = subst (λ (tx : TxHead). Offers s now after (coming_from (origin.Kept row index tx) k.message ∷ [])) header told

-- What waits in a row.

pub row_offered : (s : State) (before after : Going) (row cursor peer from number : ℕ) (r : Row) → slice_get s.outs row ≡ Some r → number ≡ max r.acked cursor
    → filter (λ k. nat_lt number k.number) r.kept ≡ drop from r.kept → (r.peer == peer) ≡ true → is_open s.outs row ≡ true
    → IsSomeAnd (slice_get s.outs row) (λ r. Offers s before after (map (of_row row r) (drop from r.kept)))
    → IsSomeAnd (slice_get s.outs row) (λ r. Offers s before after (waiting s peer (row, (r, cursor))))
row_offered s before after row cursor peer from number r is top rest leads clear offers =
    subst (λ (o : Option Row). IsSomeAnd o (λ r. Offers s before after (waiting s peer (row, (r, cursor))))) (sym is)
    (subst (λ (b : Bool). Offers s before after (cond (b && is_open s.outs row) all [])) (sym leads)
    (subst (λ (b : Bool). Offers s before after (cond b all [])) (sym clear)
    (subst (λ (ks : List Kept). Offers s before after (map (of_row row r) ks)) (sym same) here)))
  where
    all : List Candidate
    all = map (of_row row r) (filter (λ k. nat_lt (max r.acked cursor) k.number) r.kept)

    same : filter (λ k. nat_lt (max r.acked cursor) k.number) r.kept ≡ drop from r.kept
    same = ap (λ (n : ℕ). filter (λ k. nat_lt n k.number) r.kept) (sym top) ∙ rest

    here : Offers s before after (map (of_row row r) (drop from r.kept))
    here = subst (λ (o : Option Row). IsSomeAnd o (λ r. Offers s before after (map (of_row row r) (drop from r.kept)))) is offers

-- What waits in all rows, of which some are left.

pub rows_offered : (s : State) (start now after : Going) (cursors : List ℕ) (peer row cursor : ℕ) (all : List Candidate) → slice_get cursors row ≡ Some cursor
    → IsSomeAnd (slice_get s.outs row) (λ r. Offers s now after (waiting s peer (row, (r, cursor))))
    → AreLeft s start now (flat_map (waiting s peer) (enumerate_from row (drop row (zip s.outs cursors)))) all
    → AreLeft s start after (flat_map (waiting s peer) (enumerate_from (row + 1) (drop (row + 1) (zip s.outs cursors)))) all
rows_offered s start now after cursors peer row cursor all got offers left = at (slice_get s.outs row) refl offers
  where
    behind : List Candidate
    behind = flat_map (waiting s peer) (enumerate_from (row + 1) (drop (row + 1) (zip s.outs cursors)))

    at : (o : Option Row) → slice_get s.outs row ≡ o → IsSomeAnd o (λ r. Offers s now after (waiting s peer (row, (r, cursor)))) → AreLeft s start after behind all
    at None is offers = absurd offers
    at (Some r) is offers = left_more s start now after (waiting s peer (row, (r, cursor))) behind all
        (left_same s start now (flat_map (waiting s peer) (enumerate_from row (drop row (zip s.outs cursors)))) (waiting s peer (row, (r, cursor)) ++ behind) all
        (ap (λ (rows : List (Row × ℕ)). flat_map (waiting s peer) (enumerate_from row rows)) (zip_front s.outs cursors row r cursor is got)) left) offers

pub rows_done : (s : State) (start now : Going) (cursors : List ℕ) (peer row : ℕ) (all : List Candidate) → length cursors ≤ row
    → AreLeft s start now (flat_map (waiting s peer) (enumerate_from row (drop row (zip s.outs cursors)))) all → Offers s start now all
rows_done s start now cursors peer row all past left = left_none s start now (flat_map (waiting s peer) (enumerate_from row (drop row (zip s.outs cursors)))) all
    (ap (λ (rows : List (Row × ℕ)). flat_map (waiting s peer) (enumerate_from row rows)) (zip_past s.outs cursors row past)) left
