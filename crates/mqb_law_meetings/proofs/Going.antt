-- Which packet of an end that may send goes: an order acknowledgement that is owed, a plain message, a number of a row, an acknowledgement of the session, or none.
use Rattle.std.proofs.Common.{◌≡◌, ℕ, ◌+◌, ◌<◌, ◌==◌, ◌||◌, Bool, true, false, cond, not, ◌++◌, List, [], ◌∷◌, Option, Some, None, refl, ap, subst, ◌∙◌, arith}
use Rattle.std.proofs.lemmas.Bool.{true≢false}
use Rattle.std.proofs.lemmas.List.Elements.{All-head}
use Rattle.std.specs.List.{enumerate_from, filter_map, list_any}
use Rattle.std.specs.Option.{option_map_or}
use Rattle.std.specs.Prelude.{All, IsNone, Ok, length, slice_get, zip}
use Rattle.mqb_base.specs.Same.{same_guid}
use Rattle.mqb_base.specs.declared.ids.Identity.{Identity}
use Rattle.mqb_model.specs.calls.pump.Candidates.{acks, candidates, of_row, owed_to, plain_candidates, row_candidates, unsent_from}
use Rattle.mqb_model.specs.calls.pump.Pump.{pump, sending_ack, sending_all, sending_one}
use Rattle.mqb_model.specs.managers.Beside.{OfExpress, OfRecoverable}
use Rattle.mqb_model.specs.managers.Manager.{Manager}
use Rattle.mqb_model.specs.managers.Outcomes.{answering}
use Rattle.mqb_model.specs.managers.Readers.{awaits, has_plain, is_outstanding_to}
use Rattle.mqb_model.specs.managers.Valid.{IsUnsent}
use Rattle.mqb_orders.specs.declared.rows.InRow.{InRow}
use Rattle.mqb_packet.specs.declared.packet.Packet.TheVariants as packet
use Rattle.mqb_plain.specs.Plain.{PlainLists}
use Rattle.mqb_plain.specs.declared.outgoing.Outgoing.{Outgoing}
use Rattle.mqb_session.specs.Sending.{stamped}
use Rattle.mqb_session.specs.State as one_end
use Rattle.mqb_session.specs.declared.heads.Kind.TheVariants as kind
use Rattle.mqb_law_meetings.proofs.Choosing.{Waits, no_rows, some_rows}
use Rattle.mqb_law_meetings.proofs.Idle.{none_owing}
use Rattle.mqb_law_meetings.proofs.Leaving.{order_of, plain_of}
use Rattle.mqb_law_meetings.proofs.Members.{all_there, one_owing}
use Rattle.mqb_law_meetings.proofs.Pumping.{first_goes, lists_there, none_goes}
use Rattle.mqb_law_meetings.proofs.Turns.{Hears, IsSettled, OwesAt, OwesNone}

plain_head : (o : Outgoing) (os : List Outgoing) → IsNone o.mark → filter_map (unsent_from OfRecoverable) (o ∷ os) ≡ plain_of o.message ∷ filter_map (unsent_from OfRecoverable) os
plain_head o os none = at o.mark refl none
  where
    at : (m : Option ℕ) → o.mark ≡ m → IsNone m → filter_map (unsent_from OfRecoverable) (o ∷ os) ≡ plain_of o.message ∷ filter_map (unsent_from OfRecoverable) os
    at None e n = rw e refl
    at (Some mark) e n = absurd (true≢false n)

none_count : (os es : List Outgoing) → os ≡ [] → es ≡ [] → length os + length es ≡ 0
none_count os es none nothing = let one = ap (λ (xs : List Outgoing). length xs) none in let two = ap (λ (xs : List Outgoing). length xs) nothing in omega (arith, one, two)

module _ (x : Manager) (a : one_end.State) (k : ℕ) (peer : Identity) (now : ℕ) (h : Hears x a k peer) (window : a.peer_window ≡ 1) (free : a.acked ≡ a.sent) (few : a.sent < 65535)
    (settled : IsSettled k x.state.outs x.rest.cursors) (unsent : All IsUnsent x.state.plain) where
  abbrev pub p : PlainLists
  p = (lists_there x a k peer now h window free few).0

  pub there : slice_get x.state.plain k ≡ Some p
  there = (lists_there x a k peer now h window free few).1

  pub unsent_p : IsUnsent p
  unsent_p = all_there IsUnsent x.state.plain k p unsent there

  no_express : p.express ≡ []
  no_express = all_there (λ (q : PlainLists). q.express ≡ []) x.state.plain k p h.express there

  -- an order acknowledgement is owed
  pub order_goes : (j : ℕ) (r : InRow) → slice_get x.state.ins j ≡ Some r → same_guid r.source peer.guid ≡ true → OwesAt x j
      → pump x now ≡ sending_all x now a k peer.guid (order_of x.state peer now j r ∷ [])
  order_goes j r there_r source owes = first_goes x a k peer now h window free few p (order_of x.state peer now j r) (plain_candidates p ++ row_candidates x.state x.rest k) there
      (ap (λ bs. acks x.state peer now x.state.next_express (filter_map (owed_to peer.guid) (enumerate_from 0 (zip x.state.ins bs))) ++ plain_candidates p ++ row_candidates x.state x.rest k) owes
      ∙ ap (λ os. acks x.state peer now x.state.next_express os ++ plain_candidates p ++ row_candidates x.state x.rest k)
      (one_owing peer.guid x.state.ins 0 j r there_r source ∙ ap (λ i. (i, r) ∷ []) (let e : 0 + j ≡ j = omega arith in e)))

  -- none is
  none_owed : OwesNone x → candidates x.state x.rest now k peer p ≡ plain_candidates p ++ row_candidates x.state x.rest k
  none_owed owes = ap (λ bs. acks x.state peer now x.state.next_express (filter_map (owed_to peer.guid) (enumerate_from 0 (zip x.state.ins bs))) ++ plain_candidates p ++ row_candidates x.state x.rest k) owes
      ∙ ap (λ os. acks x.state peer now x.state.next_express os ++ plain_candidates p ++ row_candidates x.state x.rest k) (none_owing peer.guid x.state.ins 0)

  plain_goes : (first : Outgoing) (rest : List Outgoing) → p.recoverable ≡ first ∷ rest → OwesNone x → pump x now ≡ sending_all x now a k peer.guid (plain_of first.message ∷ [])
  plain_goes first rest are owes = first_goes x a k peer now h window free few p (plain_of first.message)
      ((filter_map (unsent_from OfRecoverable) rest ++ filter_map (unsent_from OfExpress) p.express) ++ row_candidates x.state x.rest k) there
      (none_owed owes
      ∙ ap (λ os. (filter_map (unsent_from OfRecoverable) os ++ filter_map (unsent_from OfExpress) p.express) ++ row_candidates x.state x.rest k) are
      ∙ ap (λ cs. (cs ++ filter_map (unsent_from OfExpress) p.express) ++ row_candidates x.state x.rest k)
      (plain_head first rest (All-head (λ (o : Outgoing). IsNone o.mark) first rest (subst (All (λ (o : Outgoing). IsNone o.mark)) are unsent_p.recoverable))))

  no_plain : p.recoverable ≡ [] → plain_candidates p ≡ []
  no_plain none = ap (λ os. filter_map (unsent_from OfRecoverable) os ++ filter_map (unsent_from OfExpress) p.express) none ∙ ap (λ os. filter_map (unsent_from OfExpress) os) no_express

  row_goes : (w : Waits x.state k (enumerate_from 0 (zip x.state.outs x.rest.cursors))) → p.recoverable ≡ [] → OwesNone x
      → pump x now ≡ sending_all x now a k peer.guid (of_row w.index w.row w.number ∷ [])
  row_goes w none owes = first_goes x a k peer now h window free few p (of_row w.index w.row w.number) w.more there
      (none_owed owes ∙ ap (λ cs. cs ++ row_candidates x.state x.rest k) (no_plain none) ∙ w.are)

  nothing_goes : list_any (awaits k) x.state.outs ≡ false → p.recoverable ≡ [] → OwesNone x → pump x now ≡ sending_ack x a
  nothing_goes waits none owes = none_goes x a k peer now h window free few p there
      (none_owed owes ∙ ap (λ cs. cs ++ row_candidates x.state x.rest k) (no_plain none) ∙ no_rows x.state k x.rest settled waits)

  nothing_there : list_any (awaits k) x.state.outs ≡ false → p.recoverable ≡ [] → is_outstanding_to x.state k ≡ false
  nothing_there waits none = ap (λ o. option_map_or has_plain o false || list_any (awaits k) x.state.outs) there
      ∙ ap (λ n. not (n == 0) || list_any (awaits k) x.state.outs) (none_count p.recoverable p.express none no_express) ∙ waits

  -- where no row owes anything
  pub by_first : (P : Type 0) → OwesNone x
      → ((first : Outgoing) (rest : List Outgoing) → p.recoverable ≡ first ∷ rest → pump x now ≡ sending_all x now a k peer.guid (plain_of first.message ∷ []) → P)
      → ((w : Waits x.state k (enumerate_from 0 (zip x.state.outs x.rest.cursors))) → pump x now ≡ sending_all x now a k peer.guid (of_row w.index w.row w.number ∷ []) → P)
      → (is_outstanding_to x.state k ≡ false → a.owes ≡ true → pump x now ≡ sending_one x (packet.Ack (stamped kind.Ack a).0) (stamped kind.Ack a).1 → P)
      → (is_outstanding_to x.state k ≡ false → a.owes ≡ false → pump x now ≡ answering x (Ok 0) → P) → P
  by_first P owes plain row ack idle = at p.recoverable refl
    where
      quiet : list_any (awaits k) x.state.outs ≡ false → p.recoverable ≡ [] → (b : Bool) → a.owes ≡ b → P
      quiet waits none true is = ack (nothing_there waits none) is (nothing_goes waits none owes
          ∙ ap (λ b. cond b (sending_one x (packet.Ack (stamped kind.Ack a).0) (stamped kind.Ack a).1) (answering x (Ok 0))) is)
      quiet waits none false is = idle (nothing_there waits none) is (nothing_goes waits none owes
          ∙ ap (λ b. cond b (sending_one x (packet.Ack (stamped kind.Ack a).0) (stamped kind.Ack a).1) (answering x (Ok 0))) is)

      rows : p.recoverable ≡ [] → (b : Bool) → list_any (awaits k) x.state.outs ≡ b → P
      rows none true some = let w = some_rows x.state k x.rest h.valid.cursors settled some in row w (row_goes w none owes)
      rows none false waits = quiet waits none a.owes refl

      at : (os : List Outgoing) → p.recoverable ≡ os → P
      at [] none = rows none (list_any (awaits k) x.state.outs) refl
      at (first ∷ rest) are = plain first rest are (plain_goes first rest are owes)
