-- What an acknowledgement and a plain message leave of the end that hears them.
use Rattle.std.proofs.Common.{◌≡◌, ℕ, ◌+◌, ◌≤◌, ◌==◌, ◌&&◌, ◌||◌, Bool, true, false, cond, max, nat_lt, List, Option, Some, None, Ok, refl, sym, ap, subst, ◌∙◌, arith}
use Rattle.std.proofs.lemmas.Bool.Decides.{nat_tests}
use Rattle.std.specs.List.{AllByRecursion}
use Rattle.std.specs.Option.{option_map_or}
use Rattle.std.specs.Prelude.{length, map, slice_get, sum}
use Rattle.mqb_base.specs.Same.{same_guid}
use Rattle.mqb_base.specs.declared.class.Class.{Class}
use Rattle.mqb_base.specs.declared.class.TheConstants.Class.{ORDER_ACKNOWLEDGEMENT}
use Rattle.mqb_base.specs.declared.heads.SessionHead.{SessionHead}
use Rattle.mqb_base.specs.declared.heard.Cause.TheVariants.{BadAck}
use Rattle.mqb_base.specs.declared.heard.Heard.{Heard as Answer}
use Rattle.mqb_base.specs.declared.heard.Heard.TheVariants as answer
use Rattle.mqb_base.specs.declared.ids.Identity.{Identity}
use Rattle.mqb_base.specs.declared.message.Delivery.{Delivery}
use Rattle.mqb_base.specs.declared.message.Delivery.TheVariants as delivery
use Rattle.mqb_base.specs.declared.message.Message.{Message}
use Rattle.mqb_fate.specs.Asking.{is_ordinary, is_transactional}
use Rattle.mqb_fate.specs.Orders.{acked_by}
use Rattle.mqb_model.specs.calls.hear.Hear.{hear, hear_acknowledgement, listening}
use Rattle.mqb_model.specs.calls.hear.Plain.{hear_express, hear_final, hear_message, hear_recoverable, hear_stored, stored_answer}
use Rattle.mqb_model.specs.calls.hear.Session.{HeardOutcome, ack_heard, heard_as, with_session}
use Rattle.mqb_model.specs.calls.hear.Streams.{hear_order_ack}
use Rattle.mqb_model.specs.calls.pump.Pump.{carriage_for}
use Rattle.mqb_model.specs.managers.Manager.{Manager}
use Rattle.mqb_model.specs.managers.Outcomes.{succeeded}
use Rattle.mqb_model.specs.records.Finals.{is_final}
use Rattle.mqb_model.specs.records.Packets.{is_recoverable}
use Rattle.mqb_model.specs.records.Record.{Final, Nothing, Part, Stored}
use Rattle.mqb_model.specs.rules.Arrivals.{storing_refusal}
use Rattle.mqb_model.specs.rules.Notices.{arrived}
use Rattle.mqb_model.specs.state.Places.{is_express}
use Rattle.mqb_model.specs.state.Resolving.{is_for_order_layer}
use Rattle.mqb_model.specs.state.State.{State}
use Rattle.mqb_network.specs.Delivering.{closes}
use Rattle.mqb_packet.specs.Plain.{carried_user}
use Rattle.mqb_packet.specs.declared.packet.Packet.TheVariants as packet
use Rattle.mqb_packet.specs.declared.packet.UserPacket.{UserPacket}
use Rattle.mqb_session.specs.Hearing.{acknowledged, closing, counted, head_in, is_bad_ack, order_of}
use Rattle.mqb_session.specs.Sending.{noted_stored, stamped}
use Rattle.mqb_session.specs.State as one_end
use Rattle.mqb_session.specs.State.{IsKept}
use Rattle.mqb_session.specs.declared.heads.HeadHeard.{HeadHeard}
use Rattle.mqb_session.specs.declared.heads.HeadHeard.TheVariants as head
use Rattle.mqb_session.specs.declared.heads.Kind.TheVariants as kind
use Rattle.mqb_session.specs.declared.phase.Phase.{Phase}
use Rattle.mqb_law_progress.specs.Steps.{AreInStep}
use Rattle.mqb_law_progress.proofs.Answering.{each_is_in_order}
use Rattle.mqb_law_meetings.specs.Work.{plain_work, work_for}
use Rattle.mqb_law_meetings.proofs.Finishing.{Finishes, finishes, raised_same, unacked_in}
use Rattle.mqb_law_meetings.proofs.Hearing as hears
use Rattle.mqb_law_meetings.proofs.Hearing.{Takes}
use Rattle.mqb_law_meetings.proofs.Leaving.{plain_of}
use Rattle.mqb_law_meetings.proofs.Lists.{same_guid_refl}
use Rattle.mqb_law_meetings.proofs.Members.{grown_same}
use Rattle.mqb_law_meetings.proofs.Noticing.{IsFresh, Leaves, arrived_leaves, ordinary_in, puts, refuses_stored, same, stored_unrefused}
use Rattle.mqb_law_meetings.proofs.Releasing.{Clears}
use Rattle.mqb_law_meetings.proofs.Sides.{HearsAck, HearsPlain, Quiet, after_ack, after_user}
use Rattle.mqb_law_meetings.proofs.Turns.{AreRaised, Heard, Hears, Pends, credit}

-- where the rows stay
pub takes_of : (s t : State) (l lowers raises : ℕ) → t.identity ≡ s.identity → t.peers ≡ s.peers → t.outs ≡ s.outs → AllByRecursion IsFresh t.plain
    → option_map_or ordinary_in (slice_get t.plain l) 0 ≤ option_map_or ordinary_in (slice_get s.plain l) 0
    → sum (map plain_work t.plain) + lowers ≤ sum (map plain_work s.plain) + raises → Takes s t l lowers raises
takes_of s t l lowers raises identity peers outs fresh ordinary work = record {
  identity = identity;
  peers = peers;
  fresh = fresh;
  ordinary = ordinary;
  raised = raised_same s.outs t.outs outs;
  count = ap length outs;
  work = λ o. let e : unacked_in t.outs ≡ unacked_in s.outs = ap unacked_in outs in
      let f : credit t o l ≡ credit s o l = ap (λ rows. credit (record s { outs = rows }) o l) outs in omega (arith, e, f, work);
}

-- what notices leave where plain messages left before
pub takes_leaves : (s base t : State) (l lowers raises : ℕ) → Clears s base lowers → Leaves base t raises → Takes s t l lowers raises
takes_leaves s base t l lowers raises c v = takes_of s t l lowers raises (v.identity ∙ c.identity) (v.peers ∙ c.peers) (v.outs ∙ c.outs) (v.fresh c.fresh)
    (let x = c.ordinary l in let y = v.ordinary l in omega (arith, x, y)) (let x = c.work in let y = v.work in omega (arith, x, y))

-- and a message that is finished
takes_finishes : (s base t : State) (l lowers : ℕ) → Clears s base lowers → Finishes base t l → Takes s t l lowers 0
takes_finishes s base t l lowers c f = record {
  identity = f.identity ∙ c.identity;
  peers = f.peers ∙ c.peers;
  fresh = subst (AllByRecursion IsFresh) (sym f.plain) c.fresh;
  ordinary = subst (λ ps. option_map_or ordinary_in (slice_get ps l) 0 ≤ option_map_or ordinary_in (slice_get s.plain l) 0) (sym f.plain) (c.ordinary l);
  raised = subst (λ rows. AreRaised rows t.outs) c.outs f.raised;
  count = f.count ∙ ap length c.outs;
  work = λ o. let e : unacked_in base.outs ≡ unacked_in s.outs = ap unacked_in c.outs in
      let g : credit base o l ≡ credit s o l = ap (λ rows. credit (record s { outs = rows }) o l) c.outs in
      let w : sum (map plain_work t.plain) ≡ sum (map plain_work base.plain) = ap (λ ps. sum (map plain_work ps)) f.plain in
      let x = c.work in let y = f.pays o in omega (arith, e, g, w, x, y);
}

none_less : (n m : ℕ) → n ≡ m → nat_lt n m ≡ false
none_less n m e = grind (arith, nat_tests)

all_of : (acked sent told : ℕ) → acked ≤ sent → sent ≡ told → max acked told ≡ sent
all_of acked sent told within e = omega (arith, within, e)

module _ (y : Manager) (a b : one_end.State) (l : ℕ) (peer : Identity) (ps : List Message) (now : ℕ) (h : Hears y b l peer) (pd : Pends y b l ps) (step : AreInStep a b) where
  -- what is heard as a part of which nothing is owed
  pub quiet : (o : HeardOutcome) (x : one_end.State) (who : x.peer ≡ b.peer) (acks : x.recoverable_acked ≡ b.recoverable_sent) (part : Part) (told : Answer) (lowers raises : ℕ)
      → o ≡ heard_as (listening y x now) part told → closes (Ok told) ≡ false
      → Takes y.state (hears.made y b l peer h ps pd x now who acks part told) l lowers raises
      → (hears.made y b l peer h ps pd x now who acks part told).ins ≡ y.state.ins → Quiet y o l x lowers raises
  quiet o x who acks part told lowers raises is stands takes ins = subst (λ o. Quiet y o l x lowers raises) (sym is) (record {
    stands = stands;
    heard = subst (λ n. Heard y n l x lowers raises) (sym behind) (hears.heard_behind y b l peer h ps pd x now who acks part told (with_session y.rest x) refl refl lowers raises takes);
    ins = ap (λ (n : Manager). n.state.ins) behind ∙ ins;
    owes = ap (λ (n : Manager). n.rest.owes) behind ∙ grown_same false y.rest.owes (length (hears.made y b l peer h ps pd x now who acks part told).ins) (h.valid.owes ∙ sym (ap length ins));
  })
    where
      behind : succeeded y (heard_as (listening y x now) part told) ≡ hears.behind y b l peer h ps pd x now who acks part told (with_session y.rest x) refl refl lowers raises takes
      behind = hears.behind_is y b l peer h ps pd x now who acks part told (with_session y.rest x) refl refl lowers raises takes

  -- An acknowledgement of the session.

  abbrev given : SessionHead
  given = record (stamped kind.Ack a).0 { user = 0 }

  ack_header : ack_heard (stamped kind.Ack a).0 b ≡ (head.AckOnly, after_ack b)
  ack_header = ap (λ (p : Phase). head_in p given b) h.ready
      ∙ ap (λ t. cond t (closing BadAck b) (order_of given b, counted (order_of given b) (acknowledged given b))) good
      ∙ ap (λ n. (head.AckOnly, record b { acked = n; recoverable_acked = max b.recoverable_acked a.stored })) (all_of b.acked b.sent a.got kept.acked step.back)
      ∙ ap (λ n. (head.AckOnly, record b { acked = b.sent; recoverable_acked = n })) (all_of b.recoverable_acked b.recoverable_sent a.stored kept.recoverable_acked step.stored_back)
    where
      kept : IsKept b
      kept = (hears.session y b l peer h).kept

      good : is_bad_ack given b ≡ false
      good = ap (λ t. t || nat_lt b.recoverable_sent a.stored) (none_less b.sent a.got step.back) ∙ none_less b.recoverable_sent a.stored step.stored_back

  pub ack : Quiet y (hear y (packet.Ack (stamped kind.Ack a).0) now) l (after_ack b) (sum (map work_for ps)) 0
  ack = quiet (hear y (packet.Ack (stamped kind.Ack a).0) now) (after_ack b) refl refl Nothing answer.Session (sum (map work_for ps)) 0
      (hears.ack_called y b l peer h (stamped kind.Ack a).0 now ∙ ap (λ (g : HeadHeard × one_end.State). hear_acknowledgement y now g.0 g.1) ack_header) refl
      (takes_leaves y.state base base l (sum (map work_for ps)) 0 clears (same base 0)) clears.ins
    where
      base : State
      base = hears.base y b l peer h ps pd

      clears : Clears y.state base (sum (map work_for ps))
      clears = hears.base_clears y b l peer h ps pd

  -- A recoverable message that is in no stream.

  module _ (q : Message) (from : same_guid q.id.qm peer.guid ≡ true) (recoverable : is_recoverable q.delivery ≡ true) where
    abbrev u : UserPacket
    u = carried_user q (carriage_for y.state.identity.guid now (plain_of q, (stamped kind.Recoverable a).0))

    abbrev now_session : one_end.State
    now_session = noted_stored (after_user b)

    abbrev base : State
    base = hears.base y b l peer h ps pd

    clears : Clears y.state base (sum (map work_for ps))
    clears = hears.base_clears y b l peer h ps pd

    durable : is_express q.delivery ≡ false
    durable = by q.delivery recoverable
      where
        by : (d : Delivery) → is_recoverable d ≡ true → is_express d ≡ false
        by delivery.Express e = absurd (let none : ⊥ = cc in none)
        by delivery.Recoverable e = refl
        by delivery.Transactional e = refl

    plain_one : is_transactional q.delivery ≡ false
    plain_one = by q.delivery recoverable
      where
        by : (d : Delivery) → is_recoverable d ≡ true → is_transactional d ≡ false
        by delivery.Express e = refl
        by delivery.Recoverable e = refl
        by delivery.Transactional e = absurd (let none : ⊥ = cc in none)

    heard_is : hear y (packet.User u) now ≡ hear_recoverable (listening y (after_user b) now) u
    heard_is = hears.user_called y b l peer h u now (stamped kind.Recoverable a).0 (after_user b) refl refl from (same_guid_refl y.state.identity.guid)
        (each_is_in_order a b h.ready step (hears.session y b l peer h).kept kind.Recoverable tt)
        ∙ ap (λ t. option_map_or (hear_order_ack (listening y (after_user b) now)) (cond (t && q.class.0 == ORDER_ACKNOWLEDGEMENT.0 && is_for_order_layer y.state q.destination) (acked_by q.body) None)
        (hear_message (listening y (after_user b) now) true u)) durable
        ∙ ap (λ t. cond t (hear_express (listening y (after_user b) now) u) (hear_recoverable (listening y (after_user b) now) u)) durable

    more : (s t : State) (lowers r : ℕ) → Takes s t l lowers 0 → Takes s t l lowers r
    more s t lowers r z = record {
      identity = z.identity;
      peers = z.peers;
      fresh = z.fresh;
      ordinary = z.ordinary;
      raised = z.raised;
      count = z.count;
      work = λ o. let w = z.work o in omega (arith, w);
    }

    stored_stands : (r : Option Class) → closes (Ok (stored_answer r)) ≡ false
    stored_stands None = refl
    stored_stands (Some class) = refl

    by_kind : (t : Bool) → is_final y.state u.message ≡ t → Quiet y (hear y (packet.User u) now) l now_session (sum (map work_for ps)) (cond (is_ordinary q) 1 0)
    by_kind true e = let f = finishes base u.message l in quiet (hear y (packet.User u) now) now_session refl refl (Final u) (answer.Final u.message.correlation u.message.class) (sum (map work_for ps)) (cond (is_ordinary q) 1 0)
        (heard_is ∙ ap (λ t. cond t (hear_final (listening y (after_user b) now) u) (hear_stored (listening y (after_user b) now) u)) e) refl
        (more y.state _ (sum (map work_for ps)) (cond (is_ordinary q) 1 0) (takes_finishes y.state base _ l (sum (map work_for ps)) clears f)) (f.ins ∙ clears.ins)
    by_kind false e = quiet (hear y (packet.User u) now) now_session refl refl (Stored u) (stored_answer (storing_refusal y.state u)) (sum (map work_for ps)) (cond (is_ordinary q) 1 0)
        (heard_is ∙ ap (λ t. cond t (hear_final (listening y (after_user b) now) u) (hear_stored (listening y (after_user b) now) u)) e) (stored_stands (storing_refusal y.state u))
        (takes_leaves y.state base _ l (sum (map work_for ps)) (cond (is_ordinary q) 1 0) clears leaves) (leaves.ins ∙ clears.ins)
      where
        leaves : Leaves base (arrived base u.message now (storing_refusal base u)) (cond (is_ordinary q) 1 0)
        leaves = subst (λ t. Leaves base (arrived base u.message now (storing_refusal base u)) (cond (is_ordinary q) (cond t 2 1) 0)) plain_one
            (arrived_leaves base u.message now (storing_refusal base u) durable (refuses_stored base u) (λ none. puts base u (stored_unrefused base u none) base refl u.message))

    pub plain : Quiet y (hear y (packet.User u) now) l now_session (sum (map work_for ps)) (cond (is_ordinary q) 1 0)
    plain = by_kind (is_final y.state u.message) refl

pub hears_ack : HearsAck
hears_ack y a b l peer ps now h pd step = ack y a b l peer ps now h pd step

pub hears_plain : HearsPlain
hears_plain y a b l peer ps now h pd step q from recoverable = plain y a b l peer ps now h pd step q from recoverable
