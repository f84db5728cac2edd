-- What a packet that goes leaves of the end that sends it: the session, one mark, one cursor, or one acknowledgement that was owed.
use Rattle.std.proofs.Common.{◌≡◌, ℕ, ◌*◌, ◌+◌, Bool, true, false, cond, List, [], ◌∷◌, Option, Some, None, refl, sym, ap, subst, ◌∙◌, arith}
use Rattle.std.specs.Option.{option_map_or}
use Rattle.std.specs.Prelude.{All, IsNone, Ok, Result, filter, is_none, length, map, option_map, slice_get, slice_set, sum}
use Rattle.std.proofs.lemmas.Bool.{true≢false}
use Rattle.std.proofs.lemmas.List.Elements.{All-head, All-tail}
use Rattle.mqb_base.specs.declared.ids.Identity.{Identity}
use Rattle.mqb_base.specs.declared.message.Lane.TheVariants as lane
use Rattle.mqb_base.specs.declared.message.Delivery.TheVariants.{Express}
use Rattle.mqb_base.specs.declared.message.Message.{Message}
use Rattle.mqb_fate.specs.Asking.{is_ordinary}
use Rattle.mqb_law_progress.specs.Progress.{unacknowledged}
use Rattle.mqb_model.specs.Lists.{grown, with_changed}
use Rattle.mqb_model.specs.calls.pump.Candidates.{Candidate, ack_candidate, of_row}
use Rattle.mqb_model.specs.calls.pump.Pump.{PumpOutcome, sending_all, sending_one}
use Rattle.mqb_model.specs.declared.faults.PumpFault.{PumpFault}
use Rattle.mqb_model.specs.managers.Beside.{OfRecoverable, with_marked}
use Rattle.mqb_model.specs.managers.Manager.{Manager, Rest, Up, rest_for}
use Rattle.mqb_model.specs.managers.Outcomes.{answering, succeeded}
use Rattle.mqb_model.specs.rules.Numbers.{number_taken}
use Rattle.mqb_model.specs.state.Places.{with_plain}
use Rattle.mqb_model.specs.state.State.{State}
use Rattle.mqb_orders.specs.Rows.{Row}
use Rattle.mqb_orders.specs.declared.kept.Kept.{Kept}
use Rattle.mqb_orders.specs.declared.rows.InRow.{InRow}
use Rattle.mqb_packet.specs.declared.packet.Packet.{Packet}
use Rattle.mqb_plain.specs.Lists.{marked_next, messages_of}
use Rattle.mqb_plain.specs.Plain.{PlainLists}
use Rattle.mqb_plain.specs.declared.outgoing.Outgoing.{Outgoing}
use Rattle.mqb_session.specs.Sending.{stamped}
use Rattle.mqb_session.specs.State as one_end
use Rattle.mqb_session.specs.declared.heads.Kind.TheVariants as kind
use Rattle.mqb_law_meetings.specs.Work.{plain_work, state_work, work_for}
use Rattle.mqb_law_meetings.proofs.Lists.{changed_there, set_length}
use Rattle.mqb_law_meetings.proofs.Members.{changed_each, changed_map, grown_same}
use Rattle.mqb_law_meetings.proofs.Pumping.{core, offered}
use Rattle.mqb_law_meetings.proofs.Turns.{Hears, IsWithoutExpress, Pends, credit, ordinaries}

-- what is left of the end that sends
pub record Gone (x n : Manager) (b : one_end.State) (k : ℕ) : Type 0 where
  pub up : n.condition ≡ Up
  pub linked : n.rest.session ≡ Some b
  pub identity : n.state.identity ≡ x.state.identity
  pub peers : n.state.peers ≡ x.state.peers
  pub ins : n.state.ins ≡ x.state.ins
  pub express : IsWithoutExpress n.state
  pub ordinary : ordinaries n.state k ≡ ordinaries x.state k
  pub work : state_work n.state ≡ state_work x.state
  pub credit : (t : State) (j : ℕ) → credit n.state t j ≡ credit x.state t j
  pub count : length n.state.outs ≡ length x.state.outs
  pub same : map core n.state.outs ≡ map core x.state.outs

-- the candidates of a plain message, and of what an incoming row acknowledges
abbrev pub plain_of : Message → Candidate
plain_of q = record { origin = OfRecoverable; message = q; tx = None }

abbrev pub order_of : State → Identity → ℕ → ℕ → InRow → Candidate
order_of s peer now j r = ack_candidate s peer now s.next_express (j, r)

-- A message that is marked is the same message.

marked_messages : (number : ℕ) (items : List Outgoing) → messages_of (marked_next number items) ≡ messages_of items
marked_messages number [] = refl
marked_messages number (o ∷ items) = at (is_none o.mark) (marked_messages number items)
  where
    at : (b : Bool) → messages_of (marked_next number items) ≡ messages_of items
        → messages_of (cond b (record o { mark = Some number } ∷ items) (o ∷ marked_next number items)) ≡ o.message ∷ messages_of items
    at true rest = refl
    at false rest = ap (λ ms. o.message ∷ ms) rest

module _ (x : Manager) (a : one_end.State) (k : ℕ) (peer : Identity) (h : Hears x a k peer) where
  cursors_same : (cs : List ℕ) (outs : List Row) → length cs ≡ length x.rest.cursors → length outs ≡ length x.state.outs → grown 0 (length outs) cs ≡ cs
  cursors_same cs outs e f = grown_same 0 cs (length outs) (e ∙ h.valid.cursors ∙ sym f)

  owes_same : (bs : List Bool) → length bs ≡ length x.rest.owes → grown false (length x.state.ins) bs ≡ bs
  owes_same bs e = grown_same false bs (length x.state.ins) (e ∙ h.valid.owes)

  abbrev kept : one_end.State → List ℕ → List Bool → Rest
  kept b cs bs = record { session = Some b; cursors = cs; owes = bs }

  -- the rest that has as many numbers and marks as there are rows
  rest_same : (outs : List Row) (cs : List ℕ) (bs : List Bool) (b : one_end.State) → length cs ≡ length x.rest.cursors → length bs ≡ length x.rest.owes → length outs ≡ length x.state.outs
      → ◌≡◌ {A = Rest} (record { session = Some b; cursors = grown 0 (length outs) cs; owes = grown false (length x.state.ins) bs }) (record { session = Some b; cursors = cs; owes = bs })
  rest_same outs cs bs b e f g = ap (λ c. kept b c (grown false (length x.state.ins) bs)) (cursors_same cs outs e g) ∙ ap (kept b cs) (owes_same bs f)

  -- Nothing goes.
  pub idle_is : succeeded {A = Result ℕ PumpFault} x (answering x (Ok 0)) ≡ x
  idle_is = ap (λ (r : Rest). record x { rest = r })
      (ap (λ c. record x.rest { cursors = c; owes = grown false (length x.state.ins) x.rest.owes }) (cursors_same x.rest.cursors x.state.outs refl refl)
      ∙ ap (λ o. record x.rest { cursors = x.rest.cursors; owes = o }) (owes_same x.rest.owes refl))

  -- An acknowledgement goes.
  abbrev pub told : one_end.State
  told = (stamped kind.Ack a).1

  abbrev pub ack_left : Manager
  ack_left = record x { rest = record x.rest { session = Some told } }

  pub ack_is : (p : Packet) → succeeded x (sending_one x p told) ≡ ack_left
  ack_is p = ap (λ (r : Rest). record x { rest = r }) (rest_same x.state.outs x.rest.cursors x.rest.owes told refl refl refl)

  pub ack_gone : Gone x ack_left told k
  ack_gone = record {
    up = h.up;
    linked = refl;
    identity = refl;
    peers = refl;
    ins = refl;
    express = h.express;
    ordinary = refl;
    work = refl;
    credit = λ t j. refl;
    count = refl;
    same = refl;
  }

  -- A candidate goes.
  module _ (now : ℕ) where
    abbrev pub went : Candidate → PumpOutcome
    went c = sending_all x now a k peer.guid (c ∷ [])

    -- A plain message.
    abbrev pub plain_told : one_end.State
    plain_told = (stamped kind.Recoverable a).1

    abbrev pub mark : PlainLists → PlainLists
    mark = with_marked lane.Durable (a.recoverable_sent + 1)

    abbrev pub plain_left : Message → Manager
    plain_left q = record {
      state = record x.state { outs = (offered x.state (plain_of q ∷ [])).outs; plain = with_changed mark x.state.plain k };
      rest = record { session = Some plain_told; cursors = x.rest.cursors; owes = x.rest.owes };
      condition = x.condition;
    }

    pub plain_is : (q : Message) → succeeded x (went (plain_of q)) ≡ plain_left q
    plain_is q = let o = offered x.state (plain_of q ∷ []) in
        ap (λ (t : State). record x { state = with_plain mark t k; rest = rest_for (with_plain mark t k) (record x.rest { session = Some plain_told }) }) o.is
        ∙ ap (λ (r : Rest). record { state = record x.state { outs = o.outs; plain = with_changed mark x.state.plain k }; rest = r; condition = x.condition })
        (rest_same o.outs x.rest.cursors x.rest.owes plain_told refl refl o.count)

    same_work : (p : PlainLists) → plain_work (mark p) ≡ plain_work p
    same_work p = ap (λ ms. sum (map work_for ms)) (marked_messages (a.recoverable_sent + 1) p.recoverable)

    abbrev pub counts : PlainLists → ℕ
    counts p = length (filter is_ordinary (messages_of p.recoverable))

    same_count : (o : Option PlainLists) → option_map_or counts (option_map mark o) 0 ≡ option_map_or counts o 0
    same_count None = refl
    same_count (Some p) = ap (λ ms. length (filter is_ordinary ms)) (marked_messages (a.recoverable_sent + 1) p.recoverable)

    pub plain_gone : (q : Message) → Gone x (plain_left q) plain_told k
    plain_gone q = let o = offered x.state (plain_of q ∷ []) in record {
      up = h.up;
      linked = refl;
      identity = refl;
      peers = refl;
      ins = refl;
      express = changed_each (λ (p : PlainLists). p.express ≡ []) mark (λ p e. e) x.state.plain k h.express;
      ordinary = ap (λ l. option_map_or counts l 0) (changed_there mark x.state.plain k) ∙ same_count (slice_get x.state.plain k);
      work = ap (λ ws. 3 * sum ws + sum (map plain_work (with_changed mark x.state.plain k))) o.work
          ∙ ap (λ ws. 3 * sum (map unacknowledged x.state.outs) + sum ws) (changed_map plain_work mark same_work x.state.plain k);
      credit = o.credit;
      count = o.count;
      same = o.same;
    }

    -- it is the last that was sent
    pub plain_pends : (p : PlainLists) (first : Outgoing) (rest : List Outgoing) → slice_get x.state.plain k ≡ Some p → p.recoverable ≡ first ∷ rest → All (λ (o : Outgoing). IsNone o.mark) p.recoverable
        → Pends (plain_left first.message) plain_told k (first.message ∷ [])
    plain_pends p first rest there are unsent = record {
      lists = mark p;
      there = changed_there mark x.state.plain k ∙ ap (option_map mark) there;
      rest = rest;
      are = ap (marked_next (a.recoverable_sent + 1)) are ∙ at first.mark refl (All-head (λ (o : Outgoing). IsNone o.mark) first rest all);
      unsent = All-tail (λ (o : Outgoing). IsNone o.mark) first rest all;
      single = omega arith;
    }
      where
        all : All (λ (o : Outgoing). IsNone o.mark) (first ∷ rest)
        all = subst (All (λ (o : Outgoing). IsNone o.mark)) are unsent

        at : (m : Option ℕ) → first.mark ≡ m → IsNone m
            → cond (is_none first.mark) (record first { mark = Some (a.recoverable_sent + 1) } ∷ rest) (first ∷ marked_next (a.recoverable_sent + 1) rest)
            ≡ record { message = first.message; mark = Some (a.recoverable_sent + 1) } ∷ rest
        at None e none = ap (λ o. cond (is_none o) (record first { mark = Some (a.recoverable_sent + 1) } ∷ rest) (first ∷ marked_next (a.recoverable_sent + 1) rest)) e
        at (Some n) e none = absurd (true≢false none)

    -- An order acknowledgement.
    abbrev pub user_told : one_end.State
    user_told = (stamped kind.Plain a).1

    abbrev pub order_left : ℕ → InRow → Manager
    order_left j r = record {
      state = number_taken (record x.state { outs = (offered x.state (order_of x.state peer now j r ∷ [])).outs }) Express;
      rest = record { session = Some user_told; cursors = x.rest.cursors; owes = slice_set x.rest.owes j false };
      condition = x.condition;
    }

    pub order_is : (j : ℕ) (r : InRow) → succeeded x (went (order_of x.state peer now j r)) ≡ order_left j r
    order_is j r = let o = offered x.state (order_of x.state peer now j r ∷ []) in
        ap (λ (t : State). record x { state = number_taken t Express; rest = rest_for (number_taken t Express) (record x.rest { session = Some user_told; owes = slice_set x.rest.owes j false }) }) o.is
        ∙ ap (λ (z : Rest). record { state = number_taken (record x.state { outs = o.outs }) Express; rest = z; condition = x.condition })
        (rest_same o.outs x.rest.cursors (slice_set x.rest.owes j false) user_told refl (set_length x.rest.owes j false) o.count)

    pub order_gone : (j : ℕ) (r : InRow) → Gone x (order_left j r) user_told k
    order_gone j r = let o = offered x.state (order_of x.state peer now j r ∷ []) in record {
      up = h.up;
      linked = refl;
      identity = refl;
      peers = refl;
      ins = refl;
      express = h.express;
      ordinary = refl;
      work = ap (λ ws. 3 * sum ws + sum (map plain_work x.state.plain)) o.work;
      credit = o.credit;
      count = o.count;
      same = o.same;
    }

    -- A number of a row.
    abbrev pub row_left : ℕ → Row → Kept → Manager
    row_left i row n = record {
      state = record x.state { outs = (offered x.state (of_row i row n ∷ [])).outs };
      rest = record { session = Some user_told; cursors = slice_set x.rest.cursors i n.number; owes = x.rest.owes };
      condition = x.condition;
    }

    pub row_is : (i : ℕ) (row : Row) (n : Kept) → succeeded x (went (of_row i row n)) ≡ row_left i row n
    row_is i row n = let o = offered x.state (of_row i row n ∷ []) in
        ap (λ (t : State). record x { state = t; rest = rest_for t (record x.rest { session = Some user_told; cursors = slice_set x.rest.cursors i n.number }) }) o.is
        ∙ ap (λ (z : Rest). record { state = record x.state { outs = o.outs }; rest = z; condition = x.condition })
        (rest_same o.outs (slice_set x.rest.cursors i n.number) x.rest.owes user_told (set_length x.rest.cursors i n.number) refl o.count)

    pub row_gone : (i : ℕ) (row : Row) (n : Kept) → Gone x (row_left i row n) user_told k
    row_gone i row n = let o = offered x.state (of_row i row n ∷ []) in record {
      up = h.up;
      linked = refl;
      identity = refl;
      peers = refl;
      ins = refl;
      express = h.express;
      ordinary = refl;
      work = ap (λ ws. 3 * sum ws + sum (map plain_work x.state.plain)) o.work;
      credit = o.credit;
      count = o.count;
      same = o.same;
    }
