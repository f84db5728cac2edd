-- A turn, whatever goes in it.
use Rattle.std.proofs.Common.{◌≡◌, ℕ, ◌+◌, ◌-◌, ◌<◌, ◌≤◌, ◌⊎◌, inl, inr, Bool, true, false, cond, ◌++◌, List, [], ◌∷◌, Some, refl, sym, ap, subst, ◌∙◌, arith}
use Rattle.std.proofs.lemmas.List.Elements.{recursion_from_All}
use Rattle.std.specs.List.{AllByRecursion}
use Rattle.std.specs.Option.{option_map_or}
use Rattle.std.specs.Prelude.{IfSome, filter, length, map, replicate, slice_get, sum}
use Rattle.mqb_base.specs.Same.{same_guid}
use Rattle.mqb_base.specs.declared.ids.Identity.{Identity}
use Rattle.mqb_base.specs.declared.message.Message.{Message}
use Rattle.mqb_fate.specs.Asking.{is_ordinary}
use Rattle.mqb_model.specs.calls.hear.Hear.{hear}
use Rattle.mqb_model.specs.calls.pump.Candidates.{Candidate}
use Rattle.mqb_model.specs.calls.pump.Choosing.{head_for}
use Rattle.mqb_model.specs.calls.pump.Pump.{PumpOutcome, packet_for, pump, sending_all, sending_one}
use Rattle.mqb_model.specs.managers.Manager.{Manager}
use Rattle.mqb_model.specs.managers.Outcomes.{succeeded}
use Rattle.mqb_model.specs.managers.Readers.{is_outstanding_to}
use Rattle.mqb_model.specs.managers.Valid.{IsValidManager}
use Rattle.mqb_model.specs.records.Packets.{is_recoverable}
use Rattle.mqb_model.specs.state.Valid.{IsOwn, kept_messages, recoverable_messages}
use Rattle.mqb_network.specs.Choices.{Well}
use Rattle.mqb_network.specs.Courses.{Course}
use Rattle.mqb_network.specs.Network.{Connection, manager_at}
use Rattle.mqb_network.specs.Sending.{flow}
use Rattle.mqb_orders.specs.declared.rows.InRow.{InRow}
use Rattle.mqb_packet.specs.declared.packet.Packet.{Packet}
use Rattle.mqb_packet.specs.declared.packet.Packet.TheVariants as packet
use Rattle.mqb_plain.specs.Lists.{messages_of}
use Rattle.mqb_plain.specs.Plain.{PlainLists}
use Rattle.mqb_plain.specs.declared.outgoing.Outgoing.{Outgoing}
use Rattle.mqb_session.specs.Sending.{noted_stored, stamped}
use Rattle.mqb_session.specs.State as one_end
use Rattle.mqb_session.specs.declared.heads.Kind.TheVariants as kind
use Rattle.mqb_law_meetings.specs.Work.{work_for}
use Rattle.mqb_law_meetings.proofs.Going as going
use Rattle.mqb_law_meetings.proofs.Lacking.{HasNone, NoneOf}
use Rattle.mqb_law_meetings.proofs.Leaving as leaves
use Rattle.mqb_law_meetings.proofs.Leaving.{order_of, plain_of}
use Rattle.mqb_law_meetings.proofs.Members.{all_parts, flat_part}
use Rattle.mqb_law_meetings.proofs.Sides.{HearsAck, HearsPlain, Quiet, after_ack, after_user}
use Rattle.mqb_law_meetings.proofs.Standing.{Stands}
use Rattle.mqb_law_meetings.proofs.Stepping.{Moved, Steps, credit_of, moved_by, none_pends, raised_settled, still_settled}
use Rattle.mqb_law_meetings.proofs.Turns.{Carries, Clear, IsSettled, IsUnder, OwesNone, Turn, Way, credit, ordinaries, promise, promised}

-- What is promised is at most what is let go.
pub enough_of : (w : Way) → (w ≡ Clear) ⊎ ((q : Message) × (w ≡ Carries q)) → promise w ≤ sum (map work_for (promised w))
enough_of w (inl e) = subst (λ v. promise v ≤ sum (map work_for (promised v))) (sym e) (omega arith)
enough_of w (inr e) = subst (λ v. promise v ≤ sum (map work_for (promised v))) (sym e.1) (at (is_ordinary e.0))
  where
    at : (b : Bool) → cond b 2 1 ≤ sum (cond b 3 1 ∷ [])
    at true = omega arith
    at false = omega arith

module _ (c z : Course) (i j now : ℕ) (d : Connection) (x y : Manager) (a b : one_end.State) (k l : ℕ) (own other : Identity) (way : Way) (n : ℕ)
    (t : Turn x y a b k l own other way n) (few : n < 65535) (st : Stands c.network i j d x y) (is : z ≡ (flow i now Well c).after) (valid : (v : ℕ) → IsValidManager (manager_at z.network v)) where
  abbrev Result : Type 0
  Result = Moved c z i j d x y k l own other way n

  pub few_a : a.sent < 65535
  few_a = let e = t.few in omega (arith, e, few)

  -- the packet of a candidate
  abbrev packet_of : Candidate → Packet
  packet_of e = packet_for other.guid now (e, head_for a e)

  -- Messages of an end are its own.

  pub owned : AllByRecursion (IsOwn x.state.identity.guid x.state.next_number) (kept_messages x.state) × AllByRecursion (IsOwn x.state.identity.guid x.state.next_number) (recoverable_messages x.state)
  owned = all_parts (IsOwn x.state.identity.guid x.state.next_number) (kept_messages x.state) (recoverable_messages x.state)
      (recursion_from_All (IsOwn x.state.identity.guid x.state.next_number) (kept_messages x.state ++ recoverable_messages x.state) t.one.valid.state.own)

  own_guid : x.state.identity.guid ≡ own.guid
  own_guid = ap (λ (v : Identity). v.guid) t.own_is

  -- The sessions behind a user packet.

  pub user_steps : Steps a b (stamped kind.Plain a).1 (after_user b)
  user_steps = record {
    ready = refl;
    other_ready = refl;
    peer = refl;
    other_peer = refl;
    window = refl;
    other_window = refl;
    step = record { there = t.step.back; stored_there = t.step.stored_back; back = ap (λ v. v + 1) t.step.there; stored_back = t.step.stored_there };
    free = refl;
    freed = refl;
    few = omega arith;
    other_few = refl;
    told = inl refl;
  }

  plain_steps : Steps a b (stamped kind.Recoverable a).1 (noted_stored (after_user b))
  plain_steps = record {
    ready = refl;
    other_ready = refl;
    peer = refl;
    other_peer = refl;
    window = refl;
    other_window = refl;
    step = record { there = t.step.back; stored_there = t.step.stored_back; back = ap (λ v. v + 1) t.step.there; stored_back = ap (λ v. v + 1) t.step.stored_there };
    free = refl;
    freed = refl;
    few = omega arith;
    other_few = refl;
    told = inl refl;
  }

  ack_steps : Steps a b (stamped kind.Ack a).1 (after_ack b)
  ack_steps = record {
    ready = refl;
    other_ready = refl;
    peer = refl;
    other_peer = refl;
    window = refl;
    other_window = refl;
    step = record { there = t.step.back; stored_there = t.step.stored_back; back = t.step.there; stored_back = t.step.stored_there };
    free = refl;
    freed = refl;
    few = omega arith;
    other_few = refl;
    told = inr (t.free, t.freed);
  }

  -- No row owes anything still.
  pub still_none : (m : Manager) → m.state.ins ≡ y.state.ins → m.rest.owes ≡ y.rest.owes → OwesNone m
  still_none m ins owes = owes ∙ t.still ∙ ap (λ (rs : List InRow). replicate (length rs) false) (sym ins)

  -- Nothing that is under way is of a row.
  module _ (small : (way ≡ Clear) ⊎ ((q : Message) × (way ≡ Carries q))) where
    pub under_settled : IsSettled l y.state.outs y.rest.cursors
    under_settled = at small
      where
        at : (way ≡ Clear) ⊎ ((q : Message) × (way ≡ Carries q)) → IsSettled l y.state.outs y.rest.cursors
        at (inl e) = let u : IsUnder Clear x y a l = subst (λ w. IsUnder w x y a l) e t.under in u.1
        at (inr e) = let u : IsUnder (Carries e.0) x y a l = subst (λ w. IsUnder w x y a l) e.1 t.under in u.1

    pub owes_none : OwesNone x
    owes_none = at small
      where
        at : (way ≡ Clear) ⊎ ((q : Message) × (way ≡ Carries q)) → OwesNone x
        at (inl e) = let u : IsUnder Clear x y a l = subst (λ w. IsUnder w x y a l) e t.under in u.2
        at (inr e) = let u : IsUnder (Carries e.0) x y a l = subst (λ w. IsUnder w x y a l) e.1 t.under in u.2

    -- An acknowledgement of the session.
    pub acks : HearsAck → is_outstanding_to x.state k ≡ false → pump x now ≡ sending_one x (packet.Ack (stamped kind.Ack a).0) (stamped kind.Ack a).1 → Result
    acks hears none goes =
        let p = packet.Ack (stamped kind.Ack a).0 in
        let s = leaves.ack_left x a k other t.one in
        let h = hears y a b l own (promised way) now t.two t.pends t.step in
        moved_by c z i j now d x y a b k l own other way n t st is valid p s (stamped kind.Ack a).1 (after_ack b) Clear (sum (map work_for (promised way))) 0 (record {
          after = ap (succeeded x) goes ∙ leaves.ack_is x a k other t.one p;
          packets = ap (λ (o : PumpOutcome). o.packets) goes;
          answer = ap (λ (o : PumpOutcome). o.answer) goes;
          gone = leaves.ack_gone x a k other t.one;
          open_ = h.stands;
          hearing = h.heard;
          steps = ack_steps;
          enough = enough_of way small;
          credited = let e = credit_of x.state y.state (succeeded y (hear y p now)).state k h.ins in omega (arith, e);
          settled = raised_settled l y.state.outs (succeeded y (hear y p now)).state.outs y.rest.cursors (succeeded y (hear y p now)).rest.cursors h.heard.raised h.heard.cursors under_settled;
          still = owes_none;
          pends = none_pends x s a (stamped kind.Ack a).1 k other t.one t.unsent refl;
          under = (t.unsent, t.settled, still_none (succeeded y (hear y p now)) h.ins h.owes);
          seldom = omega arith;
          live = λ some. absurd (let no : ⊥ = cc in no);
          says = λ lacks. tt;
        })

    -- A plain message.
    pub plain : HearsPlain → (first : Outgoing) (rest : List Outgoing) → (going.p x a k other now t.one t.window t.free few_a t.settled t.unsent).recoverable ≡ first ∷ rest
        → pump x now ≡ sending_all x now a k other.guid (plain_of first.message ∷ []) → Result
    plain hears first rest are goes =
        let p = packet_of (plain_of first.message) in
        let s = leaves.plain_left x a k other t.one now first.message in
        let lists = going.p x a k other now t.one t.window t.free few_a t.settled t.unsent in
        let there = going.there x a k other now t.one t.window t.free few_a t.settled t.unsent in
        let e = (stamped kind.Recoverable a).1 in
        let f = noted_stored (after_user b) in
        let m = succeeded y (hear y p now) in
        let h : Quiet y (hear y p now) l f (sum (map work_for (promised way))) (cond (is_ordinary first.message) 1 0) =
        subst (λ (g : Identity). Quiet y (hear y (packet_for g.guid now (plain_of first.message, (stamped kind.Recoverable a).0)) now) l f (sum (map work_for (promised way))) (cond (is_ordinary first.message) 1 0)) t.other_is
        (hears y a b l own (promised way) now t.two t.pends t.step first.message (mine first rest lists there are).0 (mine first rest lists there are).1) in
        moved_by c z i j now d x y a b k l own other way n t st is valid p s e f (Carries first.message) (sum (map work_for (promised way))) (cond (is_ordinary first.message) 1 0) (record {
          after = ap (succeeded x) goes ∙ leaves.plain_is x a k other t.one now first.message;
          packets = ap (λ (o : PumpOutcome). o.packets) goes;
          answer = ap (λ (o : PumpOutcome). o.answer) goes;
          gone = leaves.plain_gone x a k other t.one now first.message;
          open_ = h.stands;
          hearing = h.heard;
          steps = plain_steps;
          enough = enough_of way small;
          credited = credited (is_ordinary first.message) (credit s.state y.state k) (credit s.state m.state k) (credit_of s.state y.state m.state k h.ins);
          settled = raised_settled l y.state.outs m.state.outs y.rest.cursors m.rest.cursors h.heard.raised h.heard.cursors under_settled;
          still = owes_none;
          pends = leaves.plain_pends x a k other t.one now lists first rest there are (going.unsent_p x a k other now t.one t.window t.free few_a t.settled t.unsent).recoverable;
          under = (refl, still_settled k x s (leaves.plain_gone x a k other t.one now first.message).same refl t.settled, still_none m h.ins h.owes);
          seldom = seldom first rest lists there are;
          live = λ some. above (is_ordinary first.message) (promise way);
          says = λ lacks. none lists first rest are (subst (λ o. IfSome o (HasNone is_ordinary)) there lacks.plain);
        })
      where
        credited : (o : Bool) (before after : ℕ) → after ≡ before → cond o 1 0 + before ≤ after + (cond o 2 1 - 1)
        credited true before after same = omega (arith, same)
        credited false before after same = omega (arith, same)

        above : (o : Bool) (w : ℕ) → 0 < w + cond o 2 1
        above true w = omega arith
        above false w = omega arith

        none : (lists : PlainLists) (first : Outgoing) (rest : List Outgoing) → lists.recoverable ≡ first ∷ rest → HasNone is_ordinary lists → is_ordinary first.message ≡ false
        none lists first rest are h = let all : NoneOf is_ordinary (first ∷ rest) = subst (NoneOf is_ordinary) are h in all.0

        mine : (first : Outgoing) (rest : List Outgoing) (lists : PlainLists) → slice_get x.state.plain k ≡ Some lists → lists.recoverable ≡ first ∷ rest
            → (same_guid first.message.id.qm own.guid ≡ true) × (is_recoverable first.message.delivery ≡ true)
        mine first rest lists there are = (
          subst (λ g. same_guid first.message.id.qm g ≡ true) own_guid ((head first rest lists are (IsOwn x.state.identity.guid x.state.next_number)
              (flat_part (IsOwn x.state.identity.guid x.state.next_number) (λ (p : PlainLists). messages_of p.recoverable) x.state.plain k lists owned.1 there)).source),
          head first rest lists are (λ (m : Message). is_recoverable m.delivery ≡ true)
              (flat_part (λ (m : Message). is_recoverable m.delivery ≡ true) (λ (p : PlainLists). messages_of p.recoverable) x.state.plain k lists
              (recursion_from_All (λ (m : Message). is_recoverable m.delivery ≡ true) (recoverable_messages x.state) t.one.valid.state.recoverable) there),
        )
          where
            head : (first : Outgoing) (rest : List Outgoing) (lists : PlainLists) → lists.recoverable ≡ first ∷ rest → (P : Message → Type 0) → AllByRecursion P (messages_of lists.recoverable) → P first.message
            head first rest lists are P h = let all : AllByRecursion P (messages_of (first ∷ rest)) = subst (λ (os : List Outgoing). AllByRecursion P (messages_of os)) are h in all.0

        seldom : (first : Outgoing) (rest : List Outgoing) (lists : PlainLists) → slice_get x.state.plain k ≡ Some lists → lists.recoverable ≡ first ∷ rest
            → promise (Carries first.message) - 1 ≤ ordinaries x.state k
        seldom first rest lists there are = subst (λ v. promise (Carries first.message) - 1 ≤ v) (sym counted) (at (is_ordinary first.message))
          where
            counted : ordinaries x.state k ≡ length (filter is_ordinary (first.message ∷ messages_of rest))
            counted = ap (λ o. option_map_or (λ (p : PlainLists). length (filter is_ordinary (messages_of p.recoverable))) o 0) there
                ∙ ap (λ (os : List Outgoing). length (filter is_ordinary (messages_of os))) are

            at : (o : Bool) → cond o 2 1 - 1 ≤ length (cond o (first.message ∷ filter is_ordinary (messages_of rest)) (filter is_ordinary (messages_of rest)))
            at true = omega arith
            at false = omega arith
