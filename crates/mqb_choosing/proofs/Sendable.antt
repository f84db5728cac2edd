-- Whatever waits in a valid state can be sent, and what is chosen of it.
use Rattle.std.proofs.Common.{◌≡◌, ℕ, ◌+◌, Bool, true, false, cond, List, [], ◌∷◌, ◌++◌, map, Some, None, refl, sym}
use Rattle.std.proofs.lemmas.List.Elements.{All-cons, All-head, All-nil, All-tail, recursion_from_All}
use Rattle.std.specs.List.{AllByRecursion, cons_option, enumerate_from, flat_map}
use Rattle.std.specs.Prelude.{◌==◌, ◌&&◌, All, filter, filter_map, is_none, max, nat_lt, slice_get, zip}
use Rattle.mqb_base.specs.declared.ids.Identity.{Identity}
use Rattle.mqb_base.specs.declared.message.Delivery.{Delivery}
use Rattle.mqb_base.specs.declared.message.Delivery.TheVariants as delivery
use Rattle.mqb_fate.specs.Asking.{is_transactional}
use Rattle.mqb_names.specs.Values.{IsName}
use Rattle.mqb_orders.specs.Rows.{Row, is_open}
use Rattle.mqb_orders.specs.declared.kept.Kept.{Kept}
use Rattle.mqb_orders.specs.declared.rows.InRow.{InRow}
use Rattle.mqb_packet.specs.declared.packet.Headers.TheVariants as headers
use Rattle.mqb_plain.specs.Lists.{messages_of}
use Rattle.mqb_plain.specs.Plain.{PlainLists}
use Rattle.mqb_plain.specs.declared.outgoing.Outgoing.{Outgoing}
use Rattle.mqb_session.specs.State as one_end
use Rattle.mqb_model.specs.calls.pump.Candidates.{Candidate, acks, candidates, of_row, rows_owing, unsent_from, unsent_of, waiting}
use Rattle.mqb_model.specs.calls.pump.Choosing.{candidate_size, chosen, may_follow, session_after, with_heads}
use Rattle.mqb_model.specs.managers.Beside.{OfExpress, OfRecoverable, Origin}
use Rattle.mqb_model.specs.managers.Manager.{Rest}
use Rattle.mqb_model.specs.managers.Valid.{IsExpressValid}
use Rattle.mqb_model.specs.records.Packets.{is_recoverable}
use Rattle.mqb_model.specs.rules.Numbers.{express_after}
use Rattle.mqb_model.specs.state.Places.{is_express}
use Rattle.mqb_model.specs.state.State.{State}
use Rattle.mqb_model.specs.state.Valid.{IsCarried, IsValidState}
use Rattle.mqb_choosing.specs.Choices.{AreSendable, IsOfStream, IsPlain, IsSendable}
use Rattle.mqb_choosing.proofs.Acks.{ack_sendable}
use Rattle.mqb_choosing.proofs.Members.{got_holds}

-- What holds of all members of lists holds of those of each.

append_left : {X : Type 0} (P : X → Type 0) (xs ys : List X) → All P (xs ++ ys) → All P xs
append_left P [] ys h = All-nil P
append_left P (x ∷ xs) ys h = All-cons P x xs (All-head P x (xs ++ ys) h) (append_left P xs ys (All-tail P x (xs ++ ys) h))

append_right : {X : Type 0} (P : X → Type 0) (xs ys : List X) → All P (xs ++ ys) → All P ys
append_right P [] ys h = h
append_right P (x ∷ xs) ys h = append_right P xs ys (All-tail P x (xs ++ ys) h)

each_of : {X Y : Type 0} (P : Y → Type 0) (f : X → List Y) (xs : List X) → All P (flat_map f xs) → All (λ x. All P (f x)) xs
each_of P f [] h = All-nil (λ x. All P (f x))
each_of P f (x ∷ xs) h =
    All-cons (λ x. All P (f x)) x xs (append_left P (f x) (flat_map f xs) h) (each_of P f xs (append_right P (f x) (flat_map f xs) h))

unmapped : {X Y : Type 0} (P : Y → Type 0) (f : X → Y) (xs : List X) → All P (map f xs) → All (λ x. P (f x)) xs
unmapped P f [] h = All-nil (λ x. P (f x))
unmapped P f (x ∷ xs) h = All-cons (λ x. P (f x)) x xs (All-head P (f x) (map f xs) h) (unmapped P f xs (All-tail P (f x) (map f xs) h))

-- A valid state.

recoverable_plain : (x : Delivery) → is_recoverable x ≡ true → is_transactional x ≡ false
recoverable_plain delivery.Express e = refl
recoverable_plain delivery.Recoverable e = refl
recoverable_plain delivery.Transactional e = absurd (let none : ⊥ = cc in none)

express_plain : (x : Delivery) → is_express x ≡ true → is_transactional x ≡ false
express_plain delivery.Express e = refl
express_plain delivery.Recoverable e = refl
express_plain delivery.Transactional e = absurd (let none : ⊥ = cc in none)

pub valid_sendable : (s : State) → IsValidState s → IsExpressValid s → AreSendable s
valid_sendable s v e = record {
  hosts = v.hosts;
  recoverable = each_of IsPlain (λ p. messages_of p.recoverable) s.plain (λ k d lt. (v.plain k d lt, recoverable_plain _ (v.recoverable k d lt)));
  express = each_of IsPlain (λ p. messages_of p.express) s.plain (λ k d lt. (e.waiting k d lt, express_plain _ (e.waiting_express k d lt)));
  kept = λ k d lt j x less. (
    unmapped (IsCarried headers.TxAndSession) (λ k. k.message) _ (each_of (IsCarried headers.TxAndSession) (λ row. map (λ k. k.message) row.kept) s.outs v.kept k d lt) j x less,
    ((v.rows k d lt).kept j x less).transactional,
  );
}

-- Candidates.

all_append : {X : Type 0} (P : X → Type 0) (xs ys : List X) → AllByRecursion P xs → AllByRecursion P ys → AllByRecursion P (xs ++ ys)
all_append P [] ys a b = b
all_append P (x ∷ xs) ys a b = (a.0, all_append P xs ys a.1 b)

acks_sendable : (s : State) (peer : Identity) (now number : ℕ) (rows : List (ℕ × InRow)) → IsName peer.host → AllByRecursion IsSendable (acks s peer now number rows)
acks_sendable s peer now number [] host = tt
acks_sendable s peer now number (row ∷ rows) host = (ack_sendable s peer now number row host, acks_sendable s peer now (express_after number) rows host)

unsent_sendable : (from : Origin) (items : List Outgoing) → AllByRecursion IsPlain (messages_of items) → AllByRecursion IsSendable (filter_map (unsent_from from) items)
unsent_sendable from [] h = tt
unsent_sendable from (o ∷ items) h = at (is_none o.mark) (unsent_sendable from items h.1)
  where
    at : (b : Bool) → AllByRecursion IsSendable (filter_map (unsent_from from) items)
        → AllByRecursion IsSendable (cons_option (cond b (Some (record { origin = from; message = o.message; tx = None })) None) (filter_map (unsent_from from) items))
    at true more = (record { carried = (h.0).0; kind = sym (h.0).1 }, more)
    at false more = more

filtered : {X : Type 0} (P : X → Type 0) (p : X → Bool) (xs : List X) → AllByRecursion P xs → AllByRecursion P (filter p xs)
filtered P p [] h = tt
filtered {X} P p (x ∷ xs) h = at (p x) (filtered P p xs h.1)
  where
    at : (b : Bool) → AllByRecursion P (filter p xs) → AllByRecursion P (cond b (x ∷ filter p xs) (filter p xs))
    at true more = (h.0, more)
    at false more = more

abbrev RowStreams : Row → Type 0
RowStreams row = AllByRecursion (λ k. IsOfStream k.message) row.kept

row_sendable : (s : State) (peer n : ℕ) (row : Row) (cursor : ℕ) → RowStreams row → AllByRecursion IsSendable (waiting s peer (n, (row, cursor)))
row_sendable s peer n row cursor h = at (row.peer == peer && is_open s.outs n)
  where
    each : (ks : List Kept) → AllByRecursion (λ k. IsOfStream k.message) ks → AllByRecursion IsSendable (map (of_row n row) ks)
    each [] a = tt
    each (k ∷ ks) a = (record { carried = (a.0).0; kind = sym (a.0).1 }, each ks a.1)

    at : (b : Bool) → AllByRecursion IsSendable (cond b (map (of_row n row) (unsent_of row cursor)) [])
    at true = each (unsent_of row cursor) (filtered (λ k. IsOfStream k.message) (λ k. nat_lt (max row.acked cursor) k.number) row.kept h)
    at false = tt

rows_sendable : (s : State) (peer n : ℕ) (outs : List Row) (cursors : List ℕ) → AllByRecursion RowStreams outs
    → AllByRecursion IsSendable (flat_map (waiting s peer) (enumerate_from n (zip outs cursors)))
rows_sendable s peer n [] [] h = tt
rows_sendable s peer n [] (c ∷ cursors) h = tt
rows_sendable s peer n (row ∷ outs) [] h = tt
rows_sendable s peer n (row ∷ outs) (c ∷ cursors) h = all_append IsSendable (waiting s peer (n, (row, c))) _ (row_sendable s peer n row c h.0)
    (rows_sendable s peer (n + 1) outs cursors h.1)

pub candidates_sendable : (s : State) (rest : Rest) (now k : ℕ) (peer : Identity) (p : PlainLists) → AreSendable s → slice_get s.peers k ≡ Some peer
    → slice_get s.plain k ≡ Some p → AllByRecursion IsSendable (candidates s rest now k peer p)
candidates_sendable s rest now k peer p h here there =
    all_append IsSendable (told ++ (recoverable ++ express)) rows
    (all_append IsSendable told (recoverable ++ express)
    (acks_sendable s peer now s.next_express (rows_owing s rest peer.guid) (got_holds (λ p. IsName p.host) s.peers k peer h.hosts here))
    (all_append IsSendable recoverable express
    (unsent_sendable OfRecoverable p.recoverable (recursion_from_All IsPlain (messages_of p.recoverable) (got_holds (λ p. All IsPlain (messages_of p.recoverable)) s.plain k p h.recoverable there)))
    (unsent_sendable OfExpress p.express (recursion_from_All IsPlain (messages_of p.express) (got_holds (λ p. All IsPlain (messages_of p.express)) s.plain k p h.express there)))))
    (rows_sendable s k 0 s.outs rest.cursors (recursion_from_All RowStreams s.outs
    (λ k d lt. recursion_from_All (λ k. IsOfStream k.message) _ (h.kept k d lt))))
  where
    told : List Candidate
    told = acks s peer now s.next_express (rows_owing s rest peer.guid)

    recoverable : List Candidate
    recoverable = filter_map (unsent_from OfRecoverable) p.recoverable

    express : List Candidate
    express = filter_map (unsent_from OfExpress) p.express

    rows : List Candidate
    rows = flat_map (waiting s k) (enumerate_from 0 (zip s.outs rest.cursors))

-- What is chosen.

pub heads_sendable : (session : one_end.State) (count bytes : ℕ) (cs : List Candidate) → AllByRecursion IsSendable cs
    → AllByRecursion (λ given. IsSendable given.0) (with_heads session (chosen session count bytes cs))
heads_sendable session count bytes [] h = tt
heads_sendable session count bytes (c ∷ cs) h =
    at (may_follow session count bytes c) (heads_sendable (session_after session c) (count + 1) (bytes + candidate_size c) cs h.1)
  where
    at : (b : Bool) → AllByRecursion (λ given. IsSendable given.0) (with_heads (session_after session c) (chosen (session_after session c) (count + 1) (bytes + candidate_size c) cs))
        → AllByRecursion (λ given. IsSendable given.0) (with_heads session (cond b (c ∷ chosen (session_after session c) (count + 1) (bytes + candidate_size c) cs) []))
    at true more = (h.0, more)
    at false more = tt
