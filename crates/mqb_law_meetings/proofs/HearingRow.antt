-- What a message of a stream leaves of the end that hears it: it is decided there, now or before, and its row owes the acknowledgement.
use Rattle.std.proofs.Common.{◌≡◌, ℕ, zero, suc, ◌+◌, ◌-◌, ◌≤◌, ◌<◌, ◌⊎◌, inl, inr, Bool, true, false, cond, not, nat_le, nat_lt, List, [], ◌∷◌, ◌++◌, Option, Some, None, Ok, refl, sym, ap, subst, ◌∙◌, arith}
use Rattle.std.proofs.lemmas.Bool.{and_from, and_parts, lt-ltb, ltb-true, true≢false}
use Rattle.std.proofs.lemmas.Bool.Decides.{nat_tests}
use Rattle.std.proofs.lemmas.List.{length-append, length-replicate}
use Rattle.std.proofs.lemmas.List.Elements.{All-from_recursion, recursion_from_All}
use Rattle.std.specs.List.{AllByRecursion, prefix_len}
use Rattle.std.specs.Option.{option_map_or}
use Rattle.std.specs.Prelude.{length, map, option_and_then, option_map, position, replicate, slice_get, slice_set, sum, unwrap_or}
use Rattle.mqb_base.specs.Same.{same_guid, same_name}
use Rattle.mqb_base.specs.Sequences.{earlier, same_sequence}
use Rattle.mqb_base.specs.declared.class.Class.{Class}
use Rattle.mqb_base.specs.declared.heads.TxHead.{TxHead}
use Rattle.mqb_base.specs.declared.heard.Heard.{Heard as Answer}
use Rattle.mqb_base.specs.declared.heard.Heard.TheVariants as answer
use Rattle.mqb_base.specs.declared.ids.Identity.{Identity}
use Rattle.mqb_base.specs.declared.message.Delivery.{Delivery}
use Rattle.mqb_base.specs.declared.message.Delivery.TheVariants as delivery
use Rattle.mqb_base.specs.declared.message.Message.{Message}
use Rattle.mqb_base.specs.declared.queue_names.QueueName.{QueueName}
use Rattle.mqb_base.specs.declared.queue_names.QueueName.TheVariants.{Direct, Machine, Private, Public}
use Rattle.mqb_fate.specs.Asking.{is_ordinary, is_transactional}
use Rattle.mqb_law_progress.proofs.Answering.{each_is_in_order}
use Rattle.mqb_law_progress.proofs.Judging.{first_is_no_gap}
use Rattle.mqb_law_progress.specs.Progress.{HasDecided, IsFirst}
use Rattle.mqb_law_progress.specs.Steps.{AreInStep}
use Rattle.mqb_model.specs.Lists.{first_where, grown}
use Rattle.mqb_model.specs.calls.hear.Hear.{hear, listening}
use Rattle.mqb_model.specs.calls.hear.Session.{discarded, heard_as, with_session}
use Rattle.mqb_model.specs.calls.hear.Streams.{decided_answer, duplicate_heard, index_for, judged, owing, with_owed}
use Rattle.mqb_model.specs.calls.pump.Candidates.{of_row, tx_of}
use Rattle.mqb_model.specs.calls.pump.Pump.{carriage_for}
use Rattle.mqb_model.specs.managers.Manager.{Manager, Rest}
use Rattle.mqb_model.specs.managers.Outcomes.{succeeded}
use Rattle.mqb_model.specs.managers.Readers.{awaits}
use Rattle.mqb_model.specs.records.Decisions.{decided_row, with_decided}
use Rattle.mqb_model.specs.records.Record.{Decided, Nothing, Part}
use Rattle.mqb_model.specs.rules.Arrivals.{refusal_of}
use Rattle.mqb_model.specs.rules.Notices.{arrived}
use Rattle.mqb_model.specs.state.Places.{is_express}
use Rattle.mqb_model.specs.state.Resolving.{resolved}
use Rattle.mqb_model.specs.state.Rows.{in_row, is_row_of}
use Rattle.mqb_model.specs.state.State.{State}
use Rattle.mqb_model.specs.state.Valid.{IsInOrder, IsKeptBy}
use Rattle.mqb_network.specs.Delivering.{closes}
use Rattle.mqb_orders.specs.Judging.{decided, decided_of, verdict_of}
use Rattle.mqb_orders.specs.KeptLists.{Rises}
use Rattle.mqb_orders.specs.Rows.{Row}
use Rattle.mqb_orders.specs.declared.judging.Verdict.TheVariants.{Duplicate, Gap, Next, Stale}
use Rattle.mqb_orders.specs.declared.kept.Kept.{Kept}
use Rattle.mqb_orders.specs.declared.rows.InRow.{InRow}
use Rattle.mqb_packet.specs.Plain.{carried_user}
use Rattle.mqb_packet.specs.declared.packet.Packet.TheVariants as packet
use Rattle.mqb_packet.specs.declared.packet.UserPacket.{UserPacket}
use Rattle.mqb_session.specs.Sending.{stamped}
use Rattle.mqb_session.specs.State as one_end
use Rattle.mqb_session.specs.declared.heads.Kind.TheVariants as kind
use Rattle.mqb_law_meetings.specs.Work.{work_for}
use Rattle.mqb_law_meetings.proofs.Chosen.{all_in}
use Rattle.mqb_law_meetings.proofs.Finishing.{first_in}
use Rattle.mqb_law_meetings.proofs.Firsts.{PairsByRecursion, first_cons, pairs_of, position_cons}
use Rattle.mqb_law_meetings.proofs.Hearing as hears
use Rattle.mqb_law_meetings.proofs.Hearing.{Takes}
use Rattle.mqb_law_meetings.proofs.HearingPlain.{takes_leaves, takes_of}
use Rattle.mqb_law_meetings.proofs.Lists.{get_within, same_guid_is, same_guid_refl, set_length, set_there}
use Rattle.mqb_law_meetings.proofs.Members.{grown_same}
use Rattle.mqb_law_meetings.proofs.Noticing.{Leaves, arrived_leaves, notices_of, puts, refuses, same, then}
use Rattle.mqb_law_meetings.proofs.Releasing.{Clears}
use Rattle.mqb_law_meetings.proofs.Same.{same_name_refl}
use Rattle.mqb_law_meetings.proofs.Sides.{Brought, HearsRow, after_user}
use Rattle.mqb_exactly_once.proofs.Positions.{same_sequence_is, same_sequence_refl}
use Rattle.mqb_law_meetings.proofs.Turns.{Heard, Hears, OwesAt, OwesNone, Pends, credit, first_unacked, row_credit}

-- The first number that is not acknowledged.

first_of_all : (acked : ℕ) (n : Kept) (kept : List Kept) → PairsByRecursion (λ j k. j.number < k.number) kept → first_where (λ k. nat_lt acked k.number) kept ≡ Some n
    → AllByRecursion (λ x. acked < x.number → n.number ≤ x.number) kept
first_of_all acked n [] rises e = tt
first_of_all acked n (k ∷ kept) rises e = at (nat_lt acked k.number) refl (sym (first_cons (λ k. nat_lt acked k.number) k kept) ∙ e) (first_of_all acked n kept rises.1)
  where
    behind : (z : Kept) → z ≡ n → (ks : List Kept) → AllByRecursion (λ x. z.number < x.number) ks → AllByRecursion (λ x. acked < x.number → n.number ≤ x.number) ks
    behind z is [] h = tt
    behind z is (x ∷ ks) h = ((λ over. let f = h.0 in let g : z.number ≡ n.number = ap (λ (y : Kept). y.number) is in omega (arith, f, g)), behind z is ks h.1)

    at : (b : Bool) → nat_lt acked k.number ≡ b → cond b (Some k) (first_where (λ k. nat_lt acked k.number) kept) ≡ Some n
        → (first_where (λ k. nat_lt acked k.number) kept ≡ Some n → AllByRecursion (λ x. acked < x.number → n.number ≤ x.number) kept)
        → AllByRecursion (λ x. acked < x.number → n.number ≤ x.number) (k ∷ kept)
    at true is found rest = let one : k ≡ n = cc in ((λ over. let g : k.number ≡ n.number = ap (λ (y : Kept). y.number) one in omega (arith, g)), behind k one kept rises.0)
    at false is found rest = ((λ over. absurd (true≢false (sym (lt-ltb acked k.number over) ∙ is))), rest found)

is_first : (row : Row) (n : Kept) → Rises row.kept → first_unacked row ≡ Some n → IsFirst row n
is_first row n rises found = record {
  above = ltb-true row.acked n.number (first_in (λ k. nat_lt row.acked k.number) row.kept n found).1;
  first = All-from_recursion (λ x. row.acked < x.number → n.number ≤ x.number) row.kept (first_of_all row.acked n row.kept (pairs_of (λ j k. j.number < k.number) row.kept rises) found);
}

-- What a verdict tells.

next_undecided : (there : Option InRow) (tx : TxHead) → verdict_of there tx ≡ Next → nat_le tx.number (decided there tx.sequence) ≡ false
next_undecided None tx e = at (nat_le tx.number 0) (nat_lt 0 tx.previous) e
  where
    at : (a b : Bool) → cond a Duplicate (cond b Gap Next) ≡ Next → a ≡ false
    at true b n = absurd (let none : ⊥ = cc in none)
    at false b n = refl
next_undecided (Some r) tx e = at (earlier tx.sequence r.sequence) (nat_le tx.number (decided_of r tx.sequence)) (nat_lt (decided_of r tx.sequence) tx.previous) e
  where
    at : (z a b : Bool) → cond z Stale (cond a Duplicate (cond b Gap Next)) ≡ Next → a ≡ false
    at true a b n = absurd (let none : ⊥ = cc in none)
    at false true b n = absurd (let none : ⊥ = cc in none)
    at false false b n = refl

-- a row of the same sequence that reached a number
pub record HasReached (there : Option InRow) (tx : TxHead) : Type 0 where
  pub row : InRow
  pub is : there ≡ Some row
  pub sequence : same_sequence row.sequence tx.sequence ≡ true
  pub reached : tx.number ≤ row.last

at_most_true : (n m : ℕ) → nat_le n m ≡ true → n ≤ m
at_most_true n m e = grind (arith, nat_tests)

duplicate_reached : (there : Option InRow) (tx : TxHead) → 1 ≤ tx.number → verdict_of there tx ≡ Duplicate → HasReached there tx
duplicate_reached None tx some e = absurd (let w = at_most_true tx.number 0 (at (nat_le tx.number 0) (nat_lt 0 tx.previous) e) in omega (arith, w, some))
  where
    at : (a b : Bool) → cond a Duplicate (cond b Gap Next) ≡ Duplicate → a ≡ true
    at true b n = refl
    at false true n = absurd (let none : ⊥ = cc in none)
    at false false n = absurd (let none : ⊥ = cc in none)
duplicate_reached (Some r) tx some e = by (same_sequence r.sequence tx.sequence) refl
    (at (earlier tx.sequence r.sequence) (nat_le tx.number (decided_of r tx.sequence)) (nat_lt (decided_of r tx.sequence) tx.previous) e)
  where
    at : (z a b : Bool) → cond z Stale (cond a Duplicate (cond b Gap Next)) ≡ Duplicate → a ≡ true
    at true a b n = absurd (let none : ⊥ = cc in none)
    at false true b n = refl
    at false false true n = absurd (let none : ⊥ = cc in none)
    at false false false n = absurd (let none : ⊥ = cc in none)

    by : (b : Bool) → same_sequence r.sequence tx.sequence ≡ b → nat_le tx.number (cond b r.last 0) ≡ true → HasReached (Some r) tx
    by true is w = record { row = r; is = refl; sequence = is; reached = at_most_true tx.number r.last w }
    by false is w = absurd (let v = at_most_true tx.number 0 w in omega (arith, v, some))

-- A row is another one now, or joins the others, and is the one that is found.

set_found : {X : Type 0} (p : X → Bool) (xs : List X) (j : ℕ) (r : X) → position p xs ≡ Some j → p r ≡ true → first_where p (slice_set xs j r) ≡ Some r
set_found p [] j r e is = absurd (let none : ⊥ = cc in none)
set_found p (x ∷ xs) j r e is = at (p x) refl (position p xs) refl (sym (position_cons p x xs) ∙ e) (λ k f. set_found p xs k r f is)
  where
    at : (b : Bool) → p x ≡ b → (o : Option ℕ) → position p xs ≡ o → cond b (Some 0) (option_map (λ k. suc k) o) ≡ Some j
        → ((k : ℕ) → position p xs ≡ Some k → first_where p (slice_set xs k r) ≡ Some r) → first_where p (slice_set (x ∷ xs) j r) ≡ Some r
    at true w o f g rest = let zero_is : 0 ≡ j = cc in subst (λ k. first_where p (slice_set (x ∷ xs) k r) ≡ Some r) zero_is (first_cons p r xs ∙ ap (λ b. cond b (Some r) (first_where p xs)) is)
    at false w None f g rest = absurd (let none : ⊥ = cc in none)
    at false w (Some k) f g rest = let more : suc k ≡ j = cc in subst (λ k. first_where p (slice_set (x ∷ xs) k r) ≡ Some r) more
        (first_cons p x (slice_set xs k r) ∙ ap (λ b. cond b (Some x) (first_where p (slice_set xs k r))) w ∙ rest k f)

last_found : {X : Type 0} (p : X → Bool) (xs : List X) (r : X) → position p xs ≡ None → p r ≡ true → first_where p (xs ++ r ∷ []) ≡ Some r
last_found p [] r e is = first_cons p r [] ∙ ap (λ b. cond b (Some r) None) is
last_found p (x ∷ xs) r e is = at (p x) refl (position p xs) refl (sym (position_cons p x xs) ∙ e) (λ f. last_found p xs r f is)
  where
    at : (b : Bool) → p x ≡ b → (o : Option ℕ) → position p xs ≡ o → cond b (Some 0) (option_map (λ k. suc k) o) ≡ None
        → (position p xs ≡ None → first_where p (xs ++ r ∷ []) ≡ Some r) → first_where p (x ∷ xs ++ r ∷ []) ≡ Some r
    at true w o f g rest = absurd (let none : ⊥ = cc in none)
    at false w (Some k) f g rest = absurd (let none : ⊥ = cc in none)
    at false w None f g rest = first_cons p x (xs ++ r ∷ []) ∙ ap (λ b. cond b (Some x) (first_where p (xs ++ r ∷ []))) w ∙ rest f

last_got : {X : Type 0} (xs : List X) (r : X) → slice_get (xs ++ r ∷ []) (length xs) ≡ Some r
last_got [] r = refl
last_got (x ∷ xs) r = last_got xs r

-- where a first member is, it has an index
pub record IsAt {X : Type 0} (p : X → Bool) (xs : List X) (x : X) : Type 0 where
  pub place : ℕ
  pub found : position p xs ≡ Some place
  pub there : slice_get xs place ≡ Some x

is_at : {X : Type 0} (p : X → Bool) (xs : List X) (x : X) → first_where p xs ≡ Some x → IsAt p xs x
is_at p xs x e = at (position p xs) refl e
  where
    at : (o : Option ℕ) → position p xs ≡ o → option_and_then (slice_get xs) o ≡ Some x → IsAt p xs x
    at None f g = absurd (let none : ⊥ = cc in none)
    at (Some k) f g = record { place = k; found = f; there = g }

pub placed_within : {X : Type 0} (p : X → Bool) (xs : List X) (j : ℕ) → position p xs ≡ Some j → j < length xs
placed_within p xs j e = at (nat_lt (prefix_len (λ x. not (p x)) xs) (length xs)) refl e
  where
    at : (b : Bool) → nat_lt (prefix_len (λ x. not (p x)) xs) (length xs) ≡ b → cond b (Some (prefix_len (λ x. not (p x)) xs)) None ≡ Some j → j < length xs
    at true is f = let same : prefix_len (λ x. not (p x)) xs ≡ j = cc in subst (λ k. k < length xs) same (ltb-true _ _ is)
    at false is f = absurd (let none : ⊥ = cc in none)

-- All alike, and so many more.
replicate_more : {X : Type 0} (x : X) (a b c : ℕ) → a + b ≡ c → replicate a x ++ replicate b x ≡ replicate c x
replicate_more x zero b c e = ap (λ n. replicate n x) (let f : b ≡ c = omega (arith, e) in f)
replicate_more x (suc a) b zero e = absurd (omega (arith, e))
replicate_more x (suc a) b (suc c) e = ap (λ xs. x ∷ xs) (replicate_more x a b c (omega (arith, e)))

grown_alike : (a b c : ℕ) → a ≤ c → b ≤ c → (a ≡ c) ⊎ (b ≡ c) → grown false b (replicate a false) ≡ replicate c false
grown_alike a b c aw bw one = ap (λ n. replicate a false ++ replicate (b - n) false) (length-replicate a false) ∙ replicate_more false a (b - a) c (sum_is one)
  where
    sum_is : (a ≡ c) ⊎ (b ≡ c) → a + (b - a) ≡ c
    sum_is (inl e) = omega (arith, aw, bw, e)
    sum_is (inr e) = omega (arith, aw, bw, e)

-- The number is heard.

module _ (y : Manager) (a b : one_end.State) (l : ℕ) (peer : Identity) (ps : List Message) (now : ℕ) (h : Hears y b l peer) (pd : Pends y b l ps) (step : AreInStep a b) (owes : OwesNone y)
    (s : State) (k i peers : ℕ) (row : Row) (n : Kept) (kept_in_order : IsInOrder peers row) (waits : first_where (awaits k) s.outs ≡ Some row) (first : first_unacked row ≡ Some n)
    (from : same_guid n.message.id.qm peer.guid ≡ true) (ordinary : is_ordinary n.message ≡ true) (decides : HasDecided row (in_row y.state n.message)) where
  abbrev tx : TxHead
  tx = tx_of row n

  abbrev u : UserPacket
  u = carried_user n.message (carriage_for y.state.identity.guid now (of_row i row n, (stamped kind.Plain a).0))

  abbrev x : one_end.State
  x = after_user b

  abbrev lowers : ℕ
  lowers = sum (map work_for ps)

  abbrev passes : InRow → Bool
  passes = is_row_of n.message.id.qm n.message.destination

  abbrev base : State
  base = hears.base y b l peer h ps pd

  clears : Clears y.state base lowers
  clears = hears.base_clears y b l peer h ps pd

  is_kept : IsKeptBy row n
  is_kept = all_in (IsKeptBy row) row.kept n (first_in (λ z. nat_lt row.acked z.number) row.kept n first).0 (recursion_from_All (IsKeptBy row) row.kept kept_in_order.kept)

  durable : is_express n.message.delivery ≡ false
  durable = by n.message.delivery is_kept.transactional
    where
      by : (d : Delivery) → is_transactional d ≡ true → is_express d ≡ false
      by delivery.Express e = absurd (let none : ⊥ = cc in none)
      by delivery.Recoverable e = refl
      by delivery.Transactional e = refl

  heard_is : hear y (packet.User u) now ≡ judged (listening y x now) u tx (verdict_of (in_row y.state n.message) tx)
  heard_is = hears.user_called y b l peer h u now (stamped kind.Plain a).0 x refl refl from (same_guid_refl y.state.identity.guid)
      (each_is_in_order a b h.ready step (hears.session y b l peer h).kept kind.Plain tt)
      ∙ ap (λ t. cond t (judged (listening y x now) u tx (verdict_of (in_row y.state n.message) tx)) (discarded (listening y x now))) ordinary

  -- what the credit is where such a state heard it
  credit_is : (t : State) → credit s t k ≡ cond (nat_le n.number (decided (in_row t n.message) row.sequence)) 2 0
  credit_is t = ap (λ o. option_map_or (row_credit t) o 0) waits
      ∙ ap (λ o. option_map_or (λ (z : Kept). cond (nat_le z.number (decided (in_row t z.message) row.sequence)) 2 0) o 0) first

  -- A part is made, and the row at an index owes.

  module _ (part : Part) (told : Answer) (j : ℕ) (stands : closes (Ok told) ≡ false) where
    abbrev made : State
    made = hears.made y b l peer h ps pd x now refl refl part told

    pub brought : (raises : ℕ) → Takes y.state made l lowers raises → raises + credit s y.state k ≤ credit s made k → (r : InRow) → slice_get made.ins j ≡ Some r → first_where passes made.ins ≡ Some r
        → same_guid r.source peer.guid ≡ true → r.sequence ≡ row.sequence → n.number ≤ r.last → grown false (j + 1) (replicate (length y.state.ins) false) ≡ replicate (length made.ins) false
        → Brought y (owing j (heard_as (listening y x now) part told)) l x peer s k row n lowers
    brought raises takes credited r there found source sequence reached grows = record {
      stands = stands;
      raises = raises;
      heard = subst (λ z. Heard y z l x lowers raises) (sym behind) (hears.heard_behind y b l peer h ps pd x now refl refl part told rest refl refl lowers raises takes);
      credited = subst (λ z. raises + credit s y.state k ≤ credit s z.state k) (sym behind) credited;
      place = j;
      owing = r;
      there = ap (λ (z : Manager). slice_get z.state.ins j) behind ∙ there;
      found = ap (λ (z : Manager). first_where passes z.state.ins) behind ∙ found;
      source = source;
      sequence = sequence;
      reached = reached;
      owes = subst (λ z. OwesAt z j) (sym behind) owed;
    }
      where
        rest : Rest
        rest = with_owed j (with_session y.rest x)

        behind : succeeded y (owing j (heard_as (listening y x now) part told)) ≡ hears.behind y b l peer h ps pd x now refl refl part told rest refl refl lowers raises takes
        behind = hears.behind_is y b l peer h ps pd x now refl refl part told rest refl refl lowers raises takes

        owed : grown false (length made.ins) (slice_set (grown false (j + 1) y.rest.owes) j true) ≡ slice_set (replicate (length made.ins) false) j true
        owed = ap (λ bs. grown false (length made.ins) (slice_set bs j true)) (ap (grown false (j + 1)) owes ∙ grows)
            ∙ grown_same false (slice_set (replicate (length made.ins) false) j true) (length made.ins) (set_length (replicate (length made.ins) false) j true ∙ length-replicate (length made.ins) false)

  -- It is next.

  module _ (next : verdict_of (in_row y.state n.message) tx ≡ Next) where
    abbrev met : State
    met = with_decided base u.message tx

    abbrev refused : Option Class
    refused = refusal_of base u

    resolves : (d : QueueName) → resolved met d ≡ resolved base d
    resolves (Public g true) = refl
    resolves (Public g false) = refl
    resolves (Private g m true) = refl
    resolves (Private g m false) = refl
    resolves (Direct z q true) = refl
    resolves (Direct z q false) = refl
    resolves (Machine g q) = refl

    leaves : Leaves met (arrived met u.message now refused) 2
    leaves = then met (arrived met u.message now refused) (arrived met u.message now refused) (notices_of u.message) 0 2 (most (is_ordinary n.message) (is_transactional n.message.delivery))
        (arrived_leaves met u.message now refused durable (refuses base u) (λ none. puts base u none met (resolves n.message.destination) u.message)) (same (arrived met u.message now refused) 0)
      where
        most : (o t : Bool) → cond o (cond t 2 1) 0 + 0 ≤ 2
        most true true = omega arith
        most true false = omega arith
        most false t = omega arith

    abbrev told : Answer
    told = decided_answer tx (refusal_of y.state u)

    told_stands : (r : Option Class) → closes (Ok (decided_answer tx r)) ≡ false
    told_stands None = refl
    told_stands (Some class) = refl

    abbrev after : State
    after = arrived met u.message now refused

    takes : Takes y.state after l lowers 2
    takes = takes_of y.state after l lowers 2 (leaves.identity ∙ clears.identity) (leaves.peers ∙ clears.peers) (leaves.outs ∙ clears.outs) (leaves.fresh clears.fresh)
        (let c = clears.ordinary l in let v = leaves.ordinary l in omega (arith, c, v)) (let c = clears.work in let v = leaves.work in omega (arith, c, v))

    abbrev r : InRow
    r = decided_row u.message tx

    r_passes : passes r ≡ true
    r_passes = and_from (same_guid n.message.id.qm n.message.id.qm) (same_name n.message.destination n.message.destination) (same_guid_refl n.message.id.qm) (same_name_refl n.message.destination)

    ins_are : (o : Option ℕ) → position passes y.state.ins ≡ o → after.ins ≡ option_map_or (λ j. slice_set y.state.ins j r) o (y.state.ins ++ r ∷ [])
    ins_are o e = leaves.ins ∙ ap (λ ins. option_map_or (λ j. slice_set ins j r) (position passes ins) (ins ++ r ∷ [])) clears.ins
        ∙ ap (λ o. option_map_or (λ j. slice_set y.state.ins j r) o (y.state.ins ++ r ∷ [])) e

    credited : first_where passes after.ins ≡ Some r → 2 + credit s y.state k ≤ credit s after k
    credited found = let before : credit s y.state k ≡ 0 = credit_is y.state ∙ ap (λ t. cond t 2 0) (next_undecided (in_row y.state n.message) tx next) in
        let now_is : credit s after k ≡ 2 = credit_is after ∙ ap (λ o. cond (nat_le n.number (decided o row.sequence)) 2 0) found
        ∙ ap (λ t. cond (nat_le n.number (cond t n.number 0)) 2 0) (same_sequence_refl row.sequence) ∙ ap (λ t. cond t 2 0) (up_to n.number) in omega (arith, before, now_is)
      where
        up_to : (m : ℕ) → nat_le m m ≡ true
        up_to m = grind (arith, nat_tests)

    by_place : (o : Option ℕ) → position passes y.state.ins ≡ o → Brought y (owing (unwrap_or o (length y.state.ins)) (heard_as (listening y x now) (Decided u) told)) l x peer s k row n lowers
    by_place (Some j) e = let are = ins_are (Some j) e in let inside = placed_within passes y.state.ins j e in
        let found : first_where passes after.ins ≡ Some r = ap (first_where passes) are ∙ set_found passes y.state.ins j r e r_passes in
        let count : length after.ins ≡ length y.state.ins = ap length are ∙ set_length y.state.ins j r in
        brought (Decided u) told j (told_stands (refusal_of y.state u)) 2 takes (credited found) r (ap (λ ins. slice_get ins j) are ∙ set_there y.state.ins j r inside) found from refl (omega arith)
        (grown_alike (length y.state.ins) (j + 1) (length after.ins) (omega (arith, count)) (omega (arith, count, inside)) (inl (sym count)))
    by_place None e = let are = ins_are None e in
        let found : first_where passes after.ins ≡ Some r = ap (first_where passes) are ∙ last_found passes y.state.ins r e r_passes in
        let count : length after.ins ≡ length y.state.ins + 1 = ap length are ∙ length-append y.state.ins (r ∷ []) in
        brought (Decided u) told (length y.state.ins) (told_stands (refusal_of y.state u)) 2 takes (credited found) r (ap (λ ins. slice_get ins (length y.state.ins)) are ∙ last_got y.state.ins r) found from refl (omega arith)
        (grown_alike (length y.state.ins) (length y.state.ins + 1) (length after.ins) (omega (arith, count)) (omega (arith, count)) (inr (sym count)))

    next_brought : Brought y (hear y (packet.User u) now) l x peer s k row n lowers
    next_brought = subst (λ o. Brought y o l x peer s k row n lowers) (sym (heard_is ∙ ap (judged (listening y x now) u tx) next)) (by_place (position passes y.state.ins) refl)

  -- It was decided before.

  module _ (duplicate : verdict_of (in_row y.state n.message) tx ≡ Duplicate) where
    reached : HasReached (in_row y.state n.message) tx
    reached = duplicate_reached (in_row y.state n.message) tx is_kept.first duplicate

    place : IsAt passes y.state.ins reached.row
    place = is_at passes y.state.ins reached.row reached.is

    is_duplicate : hear y (packet.User u) now ≡ owing place.place (duplicate_heard (listening y x now) tx)
    is_duplicate = heard_is ∙ ap (judged (listening y x now) u tx) duplicate
        ∙ ap (λ t. cond t (owing (index_for y.state u.message) (duplicate_heard (listening y x now) tx)) (duplicate_heard (listening y x now) tx))
        (ap (λ o. option_map_or (λ (z : InRow). same_sequence z.sequence tx.sequence) o false) reached.is ∙ reached.sequence)
        ∙ ap (λ o. owing (unwrap_or o (length y.state.ins)) (duplicate_heard (listening y x now) tx)) place.found

    source : same_guid reached.row.source peer.guid ≡ true
    source = subst (λ g. same_guid g peer.guid ≡ true) (sym (same_guid_is reached.row.source n.message.id.qm
        (and_parts (same_guid reached.row.source n.message.id.qm) (same_name reached.row.destination n.message.destination) (first_in passes y.state.ins reached.row reached.is).1).0)) from

    duplicate_brought : Brought y (hear y (packet.User u) now) l x peer s k row n lowers
    duplicate_brought = subst (λ o. Brought y o l x peer s k row n lowers) (sym is_duplicate)
        (brought Nothing (answer.Duplicate tx.sequence tx.number) place.place refl 0 (takes_leaves y.state base base l lowers 0 clears (same base 0)) (omega (arith, alike))
        reached.row (ap (λ ins. slice_get ins place.place) clears.ins ∙ place.there) (ap (first_where passes) clears.ins ∙ reached.is) source
        (same_sequence_is reached.row.sequence tx.sequence reached.sequence) reached.reached
        (grown_alike (length y.state.ins) (place.place + 1) (length base.ins) (omega (arith, count)) (omega (arith, count, inside)) (inl (sym count))))
      where
        alike : credit s base k ≡ credit s y.state k
        alike = ap (λ ins. credit s (record y.state { ins = ins }) k) clears.ins

        count : length base.ins ≡ length y.state.ins
        count = ap length clears.ins

        inside : place.place < length y.state.ins
        inside = get_within y.state.ins place.place reached.row place.there

  pub row_heard : Brought y (hear y (packet.User u) now) l x peer s k row n lowers
  row_heard = by (first_is_no_gap row n (in_row y.state n.message) (is_first row n kept_in_order.rises first) decides)
    where
      by : (verdict_of (in_row y.state n.message) tx ≡ Next) ⊎ (verdict_of (in_row y.state n.message) tx ≡ Duplicate) → Brought y (hear y (packet.User u) now) l x peer s k row n lowers
      by (inl next) = next_brought next
      by (inr duplicate) = duplicate_brought duplicate

pub hears_row : HearsRow
hears_row y a b l peer ps now h pd step owes s k i peers row n kept waits first from ordinary decides = row_heard y a b l peer ps now h pd step owes s k i peers row n kept waits first from ordinary decides
