-- Plain messages that go are the next ones, with numbers above those of their lists.
use Rattle.std.proofs.Common.{◌≡◌, ℕ, suc, ◌+◌, ◌<◌, ◌≤◌, Bool, true, false, cond, List, [], ◌∷◌, ◌++◌, map, max, Option, Some, None, refl, sym, ap, subst, ◌∙◌, append_assoc, arith}
use Rattle.std.proofs.lemmas.Bool.{true≢false}
use Rattle.std.proofs.lemmas.List.Elements.{recursion_from_All}
use Rattle.std.specs.List.{AllByRecursion, cons_option, enumerate_from, flat_map}
use Rattle.std.specs.Prelude.{◌&&◌, ◌==◌, IfSome, IsNone, IsSome, MatchOption, filter_map, find, fold, is_none, option_map, unwrap_or, zip}
use Rattle.mqb_base.specs.declared.ids.Identity.{Identity}
use Rattle.mqb_base.specs.declared.message.Message.{Message}
use Rattle.mqb_orders.specs.Rows.{Row, is_open}
use Rattle.mqb_orders.specs.declared.kept.Kept.{Kept}
use Rattle.mqb_orders.specs.declared.rows.InRow.{InRow}
use Rattle.mqb_plain.specs.Lists.{first_unsent, greatest_mark, marked_next}
use Rattle.mqb_plain.specs.Plain.{PlainLists}
use Rattle.mqb_plain.specs.declared.outgoing.Outgoing.{Outgoing}
use Rattle.mqb_session.specs.Sending.{stamped}
use Rattle.mqb_session.specs.State as one_end
use Rattle.mqb_model.specs.calls.pump.Candidates.{Candidate, acks, candidates, of_row, rows_owing, unsent_from, unsent_of, waiting}
use Rattle.mqb_model.specs.calls.pump.Choosing.{candidate_size, chosen, kind_of, may_follow, session_after, with_heads}
use Rattle.mqb_model.specs.calls.pump.Pump.{origin_of}
use Rattle.mqb_model.specs.managers.Beside.{OfExpress, OfRecoverable, OfRow, Origin, Owed}
use Rattle.mqb_model.specs.managers.Manager.{Rest}
use Rattle.mqb_model.specs.managers.Valid.{IsSentIn}
use Rattle.mqb_model.specs.rules.Numbers.{express_after}
use Rattle.mqb_model.specs.state.State.{State}
use Rattle.mqb_choosing.specs.Noting.{AreNextSent, IsNextSent, with_noted}

-- how many of a list were not sent
abbrev count_unsent : List Outgoing → ℕ
count_unsent [] = 0
count_unsent (o ∷ items) = cond (is_none o.mark) (suc (count_unsent items)) (count_unsent items)

-- marks are at most a number
abbrev Below : ℕ → Outgoing → Type 0
Below n o = IfSome o.mark (λ mark. mark ≤ n)

some_unsent : (items : List Outgoing) (n : ℕ) → count_unsent items ≡ suc n → IsSome (first_unsent items)
some_unsent [] n is = absurd (omega (arith, is))
some_unsent (o ∷ items) n is = at (is_none o.mark) is (λ less. some_unsent items n less)
  where
    at : (b : Bool) → cond b (suc (count_unsent items)) (count_unsent items) ≡ suc n → (count_unsent items ≡ suc n → IsSome (first_unsent items))
        → IsSome (option_map (λ o. o.message) (cond b (Some o) (find (λ o. is_none o.mark) items)))
    at true is later = refl
    at false is later = later is

none_unsent : (items : List Outgoing) → count_unsent items ≡ 0 → IsNone (first_unsent items)
none_unsent [] is = refl
none_unsent (o ∷ items) is = at (is_none o.mark) is (λ none. none_unsent items none)
  where
    at : (b : Bool) → cond b (suc (count_unsent items)) (count_unsent items) ≡ 0 → (count_unsent items ≡ 0 → IsNone (first_unsent items))
        → IsNone (option_map (λ o. o.message) (cond b (Some o) (find (λ o. is_none o.mark) items)))
    at true is later = absurd (omega (arith, is))
    at false is later = later is

one_less : (number : ℕ) (items : List Outgoing) (n : ℕ) → count_unsent items ≡ suc n → count_unsent (marked_next number items) ≡ n
one_less number [] n is = absurd (omega (arith, is))
one_less number (o ∷ items) n is = at o.mark refl is (λ less. one_less number items n less)
  where
    at : (mark : Option ℕ) → o.mark ≡ mark → cond (is_none mark) (suc (count_unsent items)) (count_unsent items) ≡ suc n
        → (count_unsent items ≡ suc n → count_unsent (marked_next number items) ≡ n)
        → count_unsent (cond (is_none mark) (record o { mark = Some number } ∷ items) (o ∷ marked_next number items)) ≡ n
    at None e is later = omega (arith, is)
    at (Some m) e is later = ap (λ (mark : Option ℕ). cond (is_none mark) (suc (count_unsent (marked_next number items))) (count_unsent (marked_next number items))) e ∙ later is

below_next : (n : ℕ) (items : List Outgoing) → AllByRecursion (Below n) items → AllByRecursion (Below (n + 1)) (marked_next (n + 1) items)
below_next n [] h = tt
below_next n (o ∷ items) h = at (is_none o.mark) (below_next n items h.1)
  where
    raised : (mark : Option ℕ) → IfSome mark (λ m. m ≤ n) → IfSome mark (λ m. m ≤ n + 1)
    raised None h = tt
    raised (Some m) h = omega (arith, h)

    all_raised : (items : List Outgoing) → AllByRecursion (Below n) items → AllByRecursion (Below (n + 1)) items
    all_raised [] h = tt
    all_raised (o ∷ items) h = (raised o.mark h.0, all_raised items h.1)

    at : (b : Bool) → AllByRecursion (Below (n + 1)) (marked_next (n + 1) items)
        → AllByRecursion (Below (n + 1)) (cond b (record o { mark = Some (n + 1) } ∷ items) (o ∷ marked_next (n + 1) items))
    at true later = (omega arith, all_raised items h.1)
    at false later = (raised o.mark h.0, later)

below_more : (n : ℕ) (items : List Outgoing) → AllByRecursion (Below n) items → AllByRecursion (Below (n + 1)) items
below_more n [] h = tt
below_more n (o ∷ items) h = (raised o.mark h.0, below_more n items h.1)
  where
    raised : (mark : Option ℕ) → IfSome mark (λ m. m ≤ n) → IfSome mark (λ m. m ≤ n + 1)
    raised None h = tt
    raised (Some m) h = omega (arith, h)

greatest_within : (n : ℕ) (items : List Outgoing) → AllByRecursion (Below n) items → greatest_mark items ≤ n
greatest_within n items h = from 0 items h (omega arith)
  where
    higher : (a : ℕ) (mark : Option ℕ) → a ≤ n → IfSome mark (λ m. m ≤ n) → max a (unwrap_or mark 0) ≤ n
    higher a None le h = omega (arith, le)
    higher a (Some m) le h = omega (arith, le, h)

    from : (a : ℕ) (items : List Outgoing) → AllByRecursion (Below n) items → a ≤ n → fold (λ n o. max n (unwrap_or o.mark 0)) a items ≤ n
    from a [] h le = le
    from a (o ∷ items) h le = from (max a (unwrap_or o.mark 0)) items h.1 (higher a o.mark le h.0)

-- One that goes in its turn, where so many recoverable and so many express messages were not sent.
abbrev OneInTurn : Origin → ℕ → ℕ → (ℕ → ℕ → Type 0) → Type 0
OneInTurn OfRecoverable r e next = (left : ℕ) × (r ≡ suc left) × next left e
OneInTurn OfExpress r e next = (r ≡ 0) × (left : ℕ) × (e ≡ suc left) × next 0 left
OneInTurn (Owed row) r e next = next r e
OneInTurn (OfRow row number) r e next = next r e

abbrev InTurn : ℕ → ℕ → List Candidate → Type 0
InTurn r e [] = Unit {0}
InTurn r e (c ∷ cs) = OneInTurn c.origin r e (λ r e. InTurn r e cs)

acks_in_turn : (r e : ℕ) (s : State) (peer : Identity) (now number : ℕ) (rows : List (ℕ × InRow)) (cs : List Candidate) → InTurn r e cs → InTurn r e (acks s peer now number rows ++ cs)
acks_in_turn r e s peer now number [] cs h = h
acks_in_turn r e s peer now number (row ∷ rows) cs h = acks_in_turn r e s peer now (express_after number) rows cs h

recoverable_in_turn : (e : ℕ) (items : List Outgoing) (cs : List Candidate) → InTurn 0 e cs → InTurn (count_unsent items) e (filter_map (unsent_from OfRecoverable) items ++ cs)
recoverable_in_turn e [] cs h = h
recoverable_in_turn e (o ∷ items) cs h = at (is_none o.mark) (recoverable_in_turn e items cs h)
  where
    rest : List Candidate
    rest = filter_map (unsent_from OfRecoverable) items

    at : (b : Bool) → InTurn (count_unsent items) e (rest ++ cs) → InTurn (cond b (suc (count_unsent items)) (count_unsent items)) e
        (cons_option (cond b (Some (record { origin = OfRecoverable; message = o.message; tx = None })) None) rest ++ cs)
    at true later = (count_unsent items, refl, later)
    at false later = later

express_in_turn : (items : List Outgoing) (cs : List Candidate) → InTurn 0 0 cs → InTurn 0 (count_unsent items) (filter_map (unsent_from OfExpress) items ++ cs)
express_in_turn [] cs h = h
express_in_turn (o ∷ items) cs h = at (is_none o.mark) (express_in_turn items cs h)
  where
    rest : List Candidate
    rest = filter_map (unsent_from OfExpress) items

    at : (b : Bool) → InTurn 0 (count_unsent items) (rest ++ cs) → InTurn 0 (cond b (suc (count_unsent items)) (count_unsent items))
        (cons_option (cond b (Some (record { origin = OfExpress; message = o.message; tx = None })) None) rest ++ cs)
    at true later = (refl, count_unsent items, refl, later)
    at false later = later

row_in_turn : (s : State) (peer n : ℕ) (row : Row) (cursor : ℕ) (cs : List Candidate) → InTurn 0 0 cs → InTurn 0 0 (waiting s peer (n, (row, cursor)) ++ cs)
row_in_turn s peer n row cursor cs h = at (row.peer == peer && is_open s.outs n)
  where
    each : (ks : List Kept) → InTurn 0 0 (map (of_row n row) ks ++ cs)
    each [] = h
    each (k ∷ ks) = each ks

    at : (b : Bool) → InTurn 0 0 (cond b (map (of_row n row) (unsent_of row cursor)) [] ++ cs)
    at true = each (unsent_of row cursor)
    at false = h

rows_in_turn : (s : State) (peer n : ℕ) (outs : List Row) (cursors : List ℕ) → InTurn 0 0 (flat_map (waiting s peer) (enumerate_from n (zip outs cursors)))
rows_in_turn s peer n [] [] = tt
rows_in_turn s peer n [] (c ∷ cursors) = tt
rows_in_turn s peer n (row ∷ outs) [] = tt
rows_in_turn s peer n (row ∷ outs) (c ∷ cursors) = row_in_turn s peer n row c (flat_map (waiting s peer) (enumerate_from (n + 1) (zip outs cursors))) (rows_in_turn s peer (n + 1) outs cursors)

candidates_in_turn : (s : State) (rest : Rest) (now k : ℕ) (peer : Identity) (p : PlainLists) → InTurn (count_unsent p.recoverable) (count_unsent p.express) (candidates s rest now k peer p)
candidates_in_turn s rest now k peer p =
    subst (λ (cs : List Candidate). InTurn (count_unsent p.recoverable) (count_unsent p.express) cs) (sym same)
    (acks_in_turn (count_unsent p.recoverable) (count_unsent p.express) s peer now s.next_express (rows_owing s rest peer.guid) (recoverable ++ (express ++ rows))
    (recoverable_in_turn (count_unsent p.express) p.recoverable (express ++ rows) (express_in_turn p.express rows (rows_in_turn s k 0 s.outs rest.cursors))))
  where
    told : List Candidate
    told = acks s peer now s.next_express (rows_owing s rest peer.guid)

    recoverable : List Candidate
    recoverable = filter_map (unsent_from OfRecoverable) p.recoverable

    express : List Candidate
    express = filter_map (unsent_from OfExpress) p.express

    rows : List Candidate
    rows = flat_map (waiting s k) (enumerate_from 0 (zip s.outs rest.cursors))

    same : (told ++ (recoverable ++ express)) ++ rows ≡ told ++ (recoverable ++ (express ++ rows))
    same = append_assoc told (recoverable ++ express) rows ∙ ap (λ (cs : List Candidate). told ++ cs) (append_assoc recoverable express rows)

-- What follows is noted in its turn.
abbrev Noted : List Candidate → Type 0
Noted cs = (p : PlainLists) (session : one_end.State) (count bytes r e : ℕ) → count_unsent p.recoverable ≡ r → count_unsent p.express ≡ e → InTurn r e cs
    → AllByRecursion (Below session.recoverable_sent) p.recoverable → AllByRecursion (Below session.sent) p.express
    → AreNextSent p (map origin_of (with_heads session (chosen session count bytes cs)))

-- one goes, and what follows is noted
record OneNoted (p : PlainLists) (session : one_end.State) (count bytes : ℕ) (o : Origin) (cs : List Candidate) : Type 0 where
  next : IsNextSent p (stamped (kind_of o) session).0 o
  rest : AreNextSent (with_noted p (stamped (kind_of o) session).0 o) (map origin_of (with_heads (stamped (kind_of o) session).1 (chosen (stamped (kind_of o) session).1 count bytes cs)))

there : (o : Option Message) (x n : ℕ) (X : Type 0) → IsSome o → x < n → MatchOption o X (λ m. x < n)
there None x n X some less = absurd (true≢false (sym some))
there (Some m) x n X some less = less

absent : (o : Option Message) (X : Type 0) (P : Message → Type 0) → IsNone o → X → MatchOption o X P
absent None X P none h = h
absent (Some m) X P none h = absurd (true≢false none)

one_noted : (p : PlainLists) (session : one_end.State) (count bytes r e : ℕ) (o : Origin) (cs : List Candidate) → Noted cs → count_unsent p.recoverable ≡ r
    → count_unsent p.express ≡ e → OneInTurn o r e (λ r e. InTurn r e cs) → AllByRecursion (Below session.recoverable_sent) p.recoverable
    → AllByRecursion (Below session.sent) p.express → OneNoted p session count bytes o cs
one_noted p session count bytes r e OfRecoverable cs noted is_r is_e turn low high =
    let some : count_unsent p.recoverable ≡ suc turn.0 = is_r ∙ turn.1 in
    record {
      next = (
        some_unsent p.recoverable turn.0 some,
        there (first_unsent p.recoverable) (greatest_mark p.recoverable) (session.recoverable_sent + 1) _ (some_unsent p.recoverable turn.0 some)
            (omega (arith, greatest_within session.recoverable_sent p.recoverable low)),
      );
      rest = noted (record { recoverable = marked_next (session.recoverable_sent + 1) p.recoverable; express = p.express }) (stamped (kind_of OfRecoverable) session).1 count bytes turn.0 e
          (one_less (session.recoverable_sent + 1) p.recoverable turn.0 some) is_e turn.2 (below_next session.recoverable_sent p.recoverable low) (below_more session.sent p.express high);
    }
one_noted p session count bytes r e OfExpress cs noted is_r is_e turn low high =
    let none : count_unsent p.recoverable ≡ 0 = is_r ∙ turn.0 in
    let left : ℕ = turn.1 in
    let some : count_unsent p.express ≡ suc left = is_e ∙ turn.2 in
    record {
      next = (
        none_unsent p.recoverable none,
        absent (first_unsent p.recoverable) _ _ (none_unsent p.recoverable none)
            (some_unsent p.express left some, omega (arith, greatest_within session.sent p.express high)),
      );
      rest = noted (record { recoverable = p.recoverable; express = marked_next (session.sent + 1) p.express }) (stamped (kind_of OfExpress) session).1 count bytes 0 left
          none (one_less (session.sent + 1) p.express left some) turn.3 low (below_next session.sent p.express high);
    }
one_noted p session count bytes r e (Owed row) cs noted is_r is_e turn low high = record {
  next = tt;
  rest = noted p (stamped (kind_of (Owed row)) session).1 count bytes r e is_r is_e turn low (below_more session.sent p.express high);
}
one_noted p session count bytes r e (OfRow row number) cs noted is_r is_e turn low high = record {
  next = tt;
  rest = noted p (stamped (kind_of (OfRow row number)) session).1 count bytes r e is_r is_e turn low (below_more session.sent p.express high);
}

all_noted : (cs : List Candidate) → Noted cs
all_noted [] p session count bytes r e is_r is_e turn low high = tt
all_noted (c ∷ cs) p session count bytes r e is_r is_e turn low high =
    at (may_follow session count bytes c) (one_noted p session (count + 1) (bytes + candidate_size c) r e c.origin cs (all_noted cs) is_r is_e turn low high)
  where
    at : (b : Bool) → OneNoted p session (count + 1) (bytes + candidate_size c) c.origin cs
        → AreNextSent p (map origin_of (with_heads session (cond b (c ∷ chosen (session_after session c) (count + 1) (bytes + candidate_size c) cs) [])))
    at true one = (one.next, one.rest)
    at false one = tt

pub sent_next : (s : State) (rest : Rest) (now k : ℕ) (peer : Identity) (p : PlainLists) (session : one_end.State) → IsSentIn session p
    → AreNextSent p (map origin_of (with_heads session (chosen session 0 0 (candidates s rest now k peer p))))
sent_next s rest now k peer p session sent =
    all_noted (candidates s rest now k peer p) p session 0 0 (count_unsent p.recoverable) (count_unsent p.express) refl refl (candidates_in_turn s rest now k peer p)
    (recursion_from_All (Below session.recoverable_sent) p.recoverable sent.recoverable) (recursion_from_All (Below session.sent) p.express sent.express)
