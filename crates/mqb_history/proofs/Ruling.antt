-- Each record at a destination: a stream world goes on by what it decides in the channel.
use Rattle.std.proofs.Common.{refl, ap, sym, subst, ◌∙◌, inl, inr}
use Rattle.std.specs.List.{cons_option}
use Rattle.std.specs.Option.{option_map_or}
use Rattle.std.specs.Prelude.{[], ◌&&◌, ◌++◌, ◌==◌, ◌∷◌, ◌≡◌, Bool, List, None, Option, Some, cond, false, find, nat_le, not, option_map, reverse, true, ℕ}
use Rattle.mqb_base.specs.Same.{same_guid, same_name}
use Rattle.mqb_base.specs.declared.class.Class.{Class}
use Rattle.mqb_base.specs.declared.class.TheConstants.Class.{BAD_DESTINATION, MESSAGE_NOT_TRANSACTIONAL, QUEUE_NOT_TRANSACTIONAL, QUOTA_EXCEEDED, REACH_TIMEOUT}
use Rattle.mqb_base.specs.declared.heads.TxHead.{TxHead}
use Rattle.mqb_base.specs.declared.message.Delivery.{Delivery}
use Rattle.mqb_base.specs.declared.message.Message.{Message}
use Rattle.mqb_exactly_once.proofs.Growing.{in_decided_after}
use Rattle.mqb_exactly_once.specs.Outcomes.{Departure, Outcome, Put, Refused, Was_put, is_late}
use Rattle.mqb_exactly_once.specs.Steps.{Arrive, decided_after, decision, fates_after, happens, verdict}
use Rattle.mqb_exactly_once.specs.Words.{In, position_of, row}
use Rattle.mqb_exactly_once.specs.World.{Channel, Decision, KnownFate, Position, StreamWorld, Transfer}
use Rattle.mqb_model.specs.Lists.{first_where}
use Rattle.mqb_model.specs.declared.target.Target.{Target}
use Rattle.mqb_model.specs.declared.target.Target.TheVariants.{Here}
use Rattle.mqb_model.specs.records.Applying.{apply}
use Rattle.mqb_model.specs.records.Decisions.{decided_row}
use Rattle.mqb_model.specs.records.Record.{Record}
use Rattle.mqb_model.specs.records.Record as entry
use Rattle.mqb_model.specs.rules.Arrivals.{is_recorded, refusal_by, refusal_of, target_refusal}
use Rattle.mqb_model.specs.state.Resolving.{resolved}
use Rattle.mqb_model.specs.state.Rows.{is_row_of}
use Rattle.mqb_model.specs.state.State.{State}
use Rattle.mqb_network.specs.Courses.{Written}
use Rattle.mqb_orders.specs.Judging.{verdict_of}
use Rattle.mqb_orders.specs.declared.judging.Verdict.{Verdict}
use Rattle.mqb_orders.specs.declared.judging.Verdict.TheVariants as verdicts
use Rattle.mqb_orders.specs.declared.rows.InRow.{InRow}
use Rattle.mqb_packet.specs.declared.packet.UserPacket.{UserPacket}
use Rattle.mqb_queue.specs.Arrival.{length_met}
use Rattle.mqb_queue.specs.Places.{Queue, numbered}
use Rattle.mqb_fate.specs.Asking.{is_transactional}
use Rattle.mqb_history.specs.Decided.{is_in_channel, position_in}
use Rattle.mqb_history.specs.Made.{IsMade, IsNext}
use Rattle.mqb_history.specs.Shown.{ShowsDestination, decision_in, decisions_made, outcome_by}
use Rattle.mqb_history.proofs.Deciding.{channel_of, first_is_found, found_put, in_its_channel, of_one, other_put, put, set_is_put}
use Rattle.mqb_history.proofs.Inside.{DecidesNothing, applied_ins, decided_ins}
use Rattle.mqb_history.proofs.Lists.{append_nothing, join_and}
use Rattle.mqb_history.proofs.Names.{same_guid_refl, same_name_refl}
use Rattle.mqb_history.proofs.Reaching.{Reached, chosen_append, more, reverse_last}

-- A message is refused as too late where no time is left for it, and nowhere else.

abbrev IsNotLate : Option Class → Type 0
IsNotLate o = is_late (outcome_by o) ≡ false

queue_not_late : (a b c : Bool) → IsNotLate (cond a (Some QUEUE_NOT_TRANSACTIONAL) (cond b (Some MESSAGE_NOT_TRANSACTIONAL) (cond c (Some QUOTA_EXCEEDED) None)))
queue_not_late true b c = refl
queue_not_late false true c = refl
queue_not_late false false true = refl
queue_not_late false false false = refl

refused_not_late : (delivery : Delivery) (q : Queue) → IsNotLate (refusal_by delivery q)
refused_not_late delivery q = queue_not_late (is_transactional delivery && not q.plan.transactional) (not (is_transactional delivery) && q.plan.transactional)
    (nat_le q.plan.quota (length_met (is_recorded delivery) q.lists))

target_not_late : (s : State) (t : Target) (delivery : Delivery) → IsNotLate (target_refusal s t delivery)
target_not_late s (Here (Some number)) delivery = at (numbered s.places.queues number)
  where
    at : (o : Option Queue) → IsNotLate (option_map_or (refusal_by delivery) o (Some BAD_DESTINATION))
    at None = refl
    at (Some q) = refused_not_late delivery q
target_not_late s t delivery = refl

late_by : (s : State) (p : UserPacket) → is_late (outcome_by (refusal_of s p)) ≡ (p.remaining == 0)
late_by s p = at (p.remaining == 0)
  where
    at : (b : Bool) → is_late (outcome_by (cond b (Some REACH_TIMEOUT) (target_refusal s (resolved s p.message.destination) p.message.delivery))) ≡ b
    at true = refl
    at false = target_not_late s (resolved s p.message.destination) p.message.delivery

-- What a record decides can arrive.

-- a packet is a transfer of the present connection
pub record HasTransfer (transfers : List Transfer) (number : ℕ) (p : UserPacket) (tx : TxHead) : Type 0 where
  pub transfer : Transfer
  pub there : In transfer transfers
  pub head : transfer.head ≡ tx
  pub message : transfer.message ≡ p.message
  pub connection : transfer.connection ≡ number
  pub late : (p.message.reach == 0) ≡ (p.remaining == 0)

abbrev pub MayRule : Channel → List Transfer → ℕ → Record → Type 0
MayRule c transfers number (entry.Arrived now numbers (entry.Decided p)) = (tx : TxHead) → p.tx ≡ Some tx → is_in_channel c p.message ≡ true → HasTransfer transfers number p tx
MayRule c transfers number _ = Unit {0}

-- and still can where more was sent
pub may_more : (c : Channel) (olds news : List Transfer) (number : ℕ) → ((t : Transfer) → In t olds → In t news) → (r : Record) → MayRule c olds number r → MayRule c news number r
may_more c olds news number more (entry.Arrived now numbers (entry.Decided p)) h = λ tx e inside. let g = h tx e inside in
    record { transfer = g.transfer; there = more g.transfer g.there; head = g.head; message = g.message; connection = g.connection; late = g.late }
may_more c olds news number more r h = tt

-- steps at the destination change nothing else
pub record IsSameAtSource (v w : StreamWorld) : Type 0 where
  pub channel : w.channel ≡ v.channel
  pub committed : w.committed ≡ v.committed
  pub expired : w.expired ≡ v.expired
  pub offered : w.offered ≡ v.offered
  pub acknowledged : w.acknowledged ≡ v.acknowledged
  pub transfers : w.transfers ≡ v.transfers
  pub order_acks : w.order_acks ≡ v.order_acks
  pub final_acks : w.final_acks ≡ v.final_acks
  pub connection : w.connection ≡ v.connection
  pub connected : w.connected ≡ v.connected

pub same_at_source : (w : StreamWorld) → IsSameAtSource w w
same_at_source w = record { channel = refl; committed = refl; expired = refl; offered = refl; acknowledged = refl; transfers = refl; order_acks = refl; final_acks = refl; connection = refl; connected = refl }

-- a message that was put came to this fate
abbrev pub IsOfPut : KnownFate → Type 0
IsOfPut f = (departure : Departure) × (f.fate ≡ Was_put departure)

-- an arrival tells no such fate
arrival_fates : (v : Verdict) (p : Position) (outcome : Outcome) (fs : List KnownFate) (f : KnownFate) → IsOfPut f → In f (fates_after v p outcome fs) → In f fs
arrival_fates verdicts.Next p Put fs f put i = i
arrival_fates verdicts.Next p (Refused reason) fs f put (inl e) = absurd (let same = ap (λ (x : KnownFate). x.fate) e ∙ put.1 in let none : ⊥ = cc in none)
arrival_fates verdicts.Next p (Refused reason) fs f put (inr i) = i
arrival_fates verdicts.Duplicate p outcome fs f put i = i
arrival_fates verdicts.Gap p outcome fs f put i = i
arrival_fates verdicts.Stale p outcome fs f put i = i

-- from a world a run goes on at the destination to one that shows these rows and records
pub record IsRuled (c : Channel) (v : StreamWorld) (ins : List InRow) (ws : List Written) : Type 0 where
  pub world : StreamWorld
  pub reached : Reached c world
  pub same : IsSameAtSource v world
  pub shown : ShowsDestination c ins ws world.decided
  pub more : (d : Decision) → In d v.decided → In d world.decided
  pub puts : (f : KnownFate) → IsOfPut f → In f world.fates → In f v.fates

-- decisions of one record more
made_more : (c : Channel) (ws : List Written) (w : Written) → decisions_made c (ws ++ w ∷ []) ≡ decisions_made c ws ++ cons_option (decision_in c w.before w.entry) []
made_more c ws w = chosen_append (λ (x : Written). decision_in c x.before x.entry) ws (w ∷ [])

module _ (c : Channel) (v : StreamWorld) (reached : Reached c v) (channel : v.channel ≡ c) (connected : v.connected ≡ true) (i : ℕ) (s : State) (ws : List Written)
    (h : ShowsDestination c s.ins ws v.decided) where
  -- a record that decides nothing in the channel
  nothing_ruled : (r : Record) → decision_in c s r ≡ None → first_where (is_row_of c.source c.destination) (apply s r).ins ≡ first_where (is_row_of c.source c.destination) s.ins
      → IsRuled c v (apply s r).ins (ws ++ record { by = i; before = s; entry = r } ∷ [])
  nothing_ruled r none same = record {
    world = v;
    reached = reached;
    same = same_at_source v;
    more = λ d i. i;
    puts = λ f put i. i;
    shown = record {
      decisions = h.decisions ∙ ap reverse (sym (made_more c ws (record { by = i; before = s; entry = r }) ∙ ap (λ o. decisions_made c ws ++ cons_option o []) none ∙ append_nothing (decisions_made c ws)));
      row = same ∙ h.row;
    };
  }

  quiet_ruled : (r : Record) → DecidesNothing r → decision_in c s r ≡ None → IsRuled c v (apply s r).ins (ws ++ record { by = i; before = s; entry = r } ∷ [])
  quiet_ruled r nothing none = nothing_ruled r none (ap (first_where (is_row_of c.source c.destination)) (applied_ins s r nothing))

  module _ (now : ℕ) (numbers : List ℕ) (p : UserPacket) (next : IsNext s.ins p) where
    abbrev r : Record
    r = entry.Arrived now numbers (entry.Decided p)

    abbrev here : InRow → Bool
    here = is_row_of p.message.id.qm p.message.destination

    abbrev new : InRow
    new = decided_row p.message next.head

    rows : (apply s r).ins ≡ put here new s.ins
    rows = decided_ins s now numbers p next.head next.there ∙ set_is_put here new s.ins

    itself : here new ≡ true
    itself = join_and (same_guid p.message.id.qm p.message.id.qm) (same_name p.message.destination p.message.destination)
        (same_guid_refl p.message.id.qm) (same_name_refl p.message.destination)

    abbrev made : Decision
    made = record { position = position_of next.head; message = p.message; outcome = outcome_by (refusal_of s p) }

    own_decision : is_in_channel c p.message ≡ true → decision_in c s r ≡ Some made
    own_decision e = ap (λ o. option_map (λ position. record { position = position; message = p.message; outcome = outcome_by (refusal_of s p) }) (position_in c p.message o)) next.there
        ∙ ap (λ b. option_map (λ position. record { position = position; message = p.message; outcome = outcome_by (refusal_of s p) }) (cond b (Some (position_of next.head)) None)) e

    no_decision : is_in_channel c p.message ≡ false → decision_in c s r ≡ None
    no_decision e = ap (λ o. option_map (λ position. record { position = position; message = p.message; outcome = outcome_by (refusal_of s p) }) (position_in c p.message o)) next.there
        ∙ ap (λ b. option_map (λ position. record { position = position; message = p.message; outcome = outcome_by (refusal_of s p) }) (cond b (Some (position_of next.head)) None)) e

    decided_ruled : is_in_channel c p.message ≡ true → HasTransfer v.transfers v.connection p next.head → IsRuled c v (apply s r).ins (ws ++ record { by = i; before = s; entry = r } ∷ [])
    decided_ruled e g = record {
      world = z;
      reached = more c v (Arrive g.transfer outcome) reached ((connected, g.connection), g.there, late_by s p ∙ sym g.late ∙ ap (λ (m : Message). m.reach == 0) (sym g.message));
      same = record { channel = refl; committed = refl; expired = refl; offered = refl; acknowledged = refl; transfers = refl; order_acks = refl; final_acks = refl; connection = refl; connected = refl };
      more = λ x i. in_decided_after (verdict v g.transfer) (decision g.transfer outcome) v.decided x i;
      puts = λ f put i. arrival_fates (verdict v g.transfer) (position_of g.transfer.head) outcome v.fates f put i;
      shown = record {
        decisions = after ∙ ap (λ ds. made ∷ ds) h.decisions ∙ sym (ap reverse (made_more c ws (record { by = i; before = s; entry = r }) ∙ ap (λ o. decisions_made c ws ++ cons_option o []) (own_decision e))
            ∙ reverse_last (decisions_made c ws) made);
        row = found ∙ sym (ap (row c) after);
      };
    }
      where
        outcome : Outcome
        outcome = outcome_by (refusal_of s p)

        z : StreamWorld
        z = happens v (Arrive g.transfer outcome)

        same : channel_of p.message ≡ c
        same = in_its_channel c p.message e

        judged : verdict v g.transfer ≡ verdicts.Next
        judged = ap (λ x. verdict_of (row x v.decided) g.transfer.head) channel ∙ ap (verdict_of (row c v.decided)) g.head
            ∙ ap (λ o. verdict_of o next.head) (sym h.row) ∙ ap (λ (x : Channel). verdict_of (first_where (is_row_of x.source x.destination) s.ins) next.head) (sym same) ∙ next.next

        after : z.decided ≡ made ∷ v.decided
        after = ap (λ x. decided_after x (decision g.transfer outcome) v.decided) judged
            ∙ ap (λ head. record { position = position_of head; message = g.transfer.message; outcome = outcome } ∷ v.decided) g.head
            ∙ ap (λ m. record { position = position_of next.head; message = m; outcome = outcome } ∷ v.decided) g.message

        found : first_where (is_row_of c.source c.destination) (apply s r).ins ≡ row c (made ∷ v.decided)
        found = first_is_found (is_row_of c.source c.destination) (apply s r).ins ∙ ap (find (is_row_of c.source c.destination)) rows
            ∙ subst (λ (x : Channel). find (is_row_of x.source x.destination) (put here new s.ins) ≡ row x (made ∷ v.decided)) same (found_put here new s.ins itself)

    apart_ruled : is_in_channel c p.message ≡ false → IsRuled c v (apply s r).ins (ws ++ record { by = i; before = s; entry = r } ∷ [])
    apart_ruled e = nothing_ruled r (no_decision e) (first_is_found (is_row_of c.source c.destination) (apply s r).ins ∙ ap (find (is_row_of c.source c.destination)) rows
        ∙ other_put here (is_row_of c.source c.destination) new s.ins (of_one c p.message e) e ∙ sym (first_is_found (is_row_of c.source c.destination) s.ins))

    arrived_ruled : MayRule c v.transfers v.connection r → IsRuled c v (apply s r).ins (ws ++ record { by = i; before = s; entry = r } ∷ [])
    arrived_ruled may = at (is_in_channel c p.message) refl
      where
        at : (b : Bool) → is_in_channel c p.message ≡ b → IsRuled c v (apply s r).ins (ws ++ record { by = i; before = s; entry = r } ∷ [])
        at true e = decided_ruled e (may next.head next.there e)
        at false e = apart_ruled e

  pub record_ruled : (r : Record) → IsMade s r → MayRule c v.transfers v.connection r → IsRuled c v (apply s r).ins (ws ++ record { by = i; before = s; entry = r } ∷ [])
  record_ruled (entry.Peer peer) made may = absurd made
  record_ruled (entry.Arrived now numbers (entry.Decided p)) made may = arrived_ruled now numbers p made may
  record_ruled r made may = quiet_ruled r tt refl
