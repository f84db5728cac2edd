-- What a pump sends from a row can be sent in the stream world, once its record is written.
use Rattle.std.proofs.Common.{refl, ap, sym, subst, ◌∙◌, arith, inl, inr}
use Rattle.std.specs.List.{AllByRecursion}
use Rattle.std.specs.Option.{option_map_or}
use Rattle.std.specs.Prelude.{[], ◌&&◌, ◌<◌, ◌==◌, ◌∷◌, ◌≡◌, ◌≤◌, ◌⊎◌, Bool, Err, IfSome, List, None, Ok, Option, Some, cond, length, not, slice_get, true, false, ℕ}
use Rattle.mqb_base.specs.declared.heads.TxHead.{TxHead}
use Rattle.mqb_base.specs.declared.ids.Guid.{Guid}
use Rattle.mqb_base.specs.declared.ids.Identity.{Identity}
use Rattle.mqb_base.specs.declared.ids.SequenceId.{SequenceId}
use Rattle.mqb_base.specs.declared.message.Message.{Message}
use Rattle.mqb_base.specs.declared.queue_names.QueueName.{QueueName}
use Rattle.mqb_entries.specs.declared.members.Mark.{Mark}
use Rattle.mqb_exactly_once.specs.Words.{In, carried}
use Rattle.mqb_exactly_once.specs.World.{Channel, StreamWorld}
use Rattle.mqb_model.specs.calls.pump.Candidates.{Candidate, candidates, tx_of}
use Rattle.mqb_model.specs.calls.pump.Choosing.{chosen}
use Rattle.mqb_model.specs.calls.pump.Pump.{PumpOutcome, marks_for, pump_at, pump_linked, pump_owed, pump_refusal, pump_to, sending_chosen, sending_one}
use Rattle.mqb_model.specs.declared.faults.PumpFault.{PumpFault}
use Rattle.mqb_model.specs.declared.faults.PumpFault.TheVariants as fault
use Rattle.mqb_model.specs.managers.Manager.{Manager, linked_peer}
use Rattle.mqb_model.specs.managers.Outcomes.{answering, recorded, unless}
use Rattle.mqb_model.specs.records.Record.{Record}
use Rattle.mqb_model.specs.records.Record as entry
use Rattle.mqb_model.specs.state.State.{State}
use Rattle.mqb_network.specs.Courses.{Written}
use Rattle.mqb_network.specs.Laws.{lines_written}
use Rattle.mqb_orders.specs.Rows.{Row, link_before}
use Rattle.mqb_orders.specs.declared.kept.Kept.{Kept}
use Rattle.mqb_packet.specs.declared.packet.Packet.{Packet}
use Rattle.mqb_packet.specs.declared.packet.Packet.TheVariants as packet
use Rattle.mqb_packet.specs.declared.packet.UserPacket.{UserPacket}
use Rattle.mqb_plain.specs.Plain.{PlainLists}
use Rattle.mqb_session.specs.Phases.{owed_by}
use Rattle.mqb_session.specs.Sending.{is_ready, is_spent, stamped}
use Rattle.mqb_session.specs.State as one_end
use Rattle.mqb_session.specs.declared.heads.Kind.TheVariants as kind
use Rattle.mqb_setup.specs.declared.internal.Internal.{Internal}
use Rattle.mqb_model.specs.calls.Call.{Pump, outcome_of}
use Rattle.mqb_history.specs.Committed.{commitments}
use Rattle.mqb_history.specs.Made.{IsMade}
use Rattle.mqb_history.proofs.Committing.{OrdinalsRise, all_in, kept_at}
use Rattle.mqb_history.proofs.Departing.{GoesFrom, IsMarkedBy, IsSentFrom, pump_goes}
use Rattle.mqb_history.proofs.Dispatching.{CanSend, IsRaisedRow, link_is_previous, marked_row, raised_row}
use Rattle.mqb_history.proofs.Due.{AreDue, one_row}
use Rattle.mqb_history.proofs.Lists.{get_in, none_some}
use Rattle.mqb_history.proofs.Numbering.{made_offers}
use Rattle.mqb_history.proofs.Pledging.{row_kept}
use Rattle.mqb_history.proofs.Pumping.{IsOfMarks}
use Rattle.mqb_history.proofs.Sending.{Carries, IsPacketOf, IsRowOf, pump_carries}
use Rattle.mqb_history.proofs.Sourcing.{IsRowShown, IsSourced}
use Rattle.mqb_history.proofs.Sparing.{all_of}

-- The record of a pump is one of marks.

abbrev IsMarking : PumpOutcome → Type 0
IsMarking outcome = IfSome outcome.entry IsOfMarks

marking_or : {X : Type 0} (f : X → PumpOutcome) (o : Option X) (other : PumpOutcome) → ((x : X) → IsMarking (f x)) → IsMarking other → IsMarking (option_map_or f o other)
marking_or f None other some none = none
marking_or f (Some x) other some none = some x

marking_either : (b : Bool) (x y : PumpOutcome) → IsMarking x → IsMarking y → IsMarking (cond b x y)
marking_either true x y left right = left
marking_either false x y left right = right

chosen_marks : (m : Manager) (now : ℕ) (session : one_end.State) (k : ℕ) (to : Guid) (cs : List Candidate) → IsMarking (sending_chosen m now session k to cs)
chosen_marks m now session k to [] = marking_either session.owes (sending_one m (packet.Ack (stamped kind.Ack session).0) (stamped kind.Ack session).1) (answering m (Ok 0)) tt tt
chosen_marks m now session k to (c ∷ cs) = at (length (marks_for m.state (c ∷ cs)) == 0)
  where
    at : (b : Bool) → IfSome (cond b None (Some (entry.Offered (marks_for m.state (c ∷ cs))))) IsOfMarks
    at true = tt
    at false = tt

owed_marks : (m : Manager) (now : ℕ) (session : one_end.State) (owed : Option Internal) → IsMarking (pump_owed m now session owed)
owed_marks m now session (Some owed) = tt
owed_marks m now session None = let k = linked_peer m.state session in
    marking_either (is_ready session.phase) (pump_at m now session k) (answering m (Ok 0))
    (marking_or (λ (peer : Identity). option_map_or (pump_to m now session k peer) (slice_get m.state.plain k) (answering m (Ok 0))) (slice_get m.state.peers k) (answering m (Ok 0))
    (λ (peer : Identity). marking_or (pump_to m now session k peer) (slice_get m.state.plain k) (answering m (Ok 0))
    (λ (p : PlainLists). let cs = candidates m.state m.rest now k peer p in marking_either (is_spent session && not (length cs == 0)) (answering m (Err fault.Spent))
    (sending_chosen m now session k peer.guid (chosen session 0 0 cs)) tt (chosen_marks m now session k peer.guid (chosen session 0 0 cs))) tt) tt) tt

pub pump_marks : (m : Manager) (now : ℕ) → IfSome (outcome_of m (Pump now)).entry IsOfMarks
pump_marks m now = at (pump_refusal m)
  where
    at : (o : Option PumpFault) → IsMarking (unless m o (option_map_or (pump_linked m now) m.rest.session (answering m (Err fault.NotLinked))))
    at (Some why) = tt
    at None = marking_or (pump_linked m now) m.rest.session (answering m (Err fault.NotLinked)) (λ session. owed_marks m now session (owed_by session.phase now session)) tt

-- Its packets are of rows.

-- a packet of a row
pub record IsOfRow (s : State) (o : Option Record) (now : ℕ) (p : UserPacket) (tx : TxHead) : Type 0 where
  pub row : Row
  pub there : In row s.outs
  pub kept : Kept
  pub inside : In kept row.kept
  pub head : tx ≡ tx_of row kept
  pub message : p.message ≡ carried kept.message now
  pub unacknowledged : row.acked < kept.number
  pub marked : (kept.number ≤ row.offered) ⊎ IsMarkedBy o row kept.number

-- a message under its header is kept by a row
record IsFromRow (outs : List Row) (m : Message) (tx : TxHead) : Type 0 where
  pub row : Row
  pub there : In row outs
  pub kept : Kept
  pub inside : In kept row.kept
  pub message : m ≡ kept.message
  pub head : tx ≡ tx_of row kept

rows_are : (outs : List Row) → AllByRecursion (IsRowOf (IsFromRow outs)) outs
rows_are outs = all_of (IsRowOf (IsFromRow outs)) outs (λ row i k inside. record { row = row; there = i; kept = k; inside = inside; message = refl; head = refl })

pub packet_of_row : (m : Manager) (now : ℕ) (x : Packet) (p : UserPacket) (tx : TxHead) → OrdinalsRise m.state.outs → In x (outcome_of m (Pump now)).packets → x ≡ packet.User p → p.tx ≡ Some tx
    → IsOfRow m.state (outcome_of m (Pump now)).entry now p tx
packet_of_row m now x p tx rise i e t = record {
  row = g.row;
  there = at_row;
  kept = f.kept;
  inside = subst (λ (r : Row). In f.kept r.kept) one f.inside;
  head = f.head ∙ ap (λ r. tx_of r f.kept) one;
  message = q.message ∙ ap (λ y. carried y now) f.message;
  unacknowledged = subst (λ n. g.row.acked < n) number g.unacknowledged;
  marked = marked g.marked;
}
  where
    g : IsSentFrom m.state (outcome_of m (Pump now)).entry tx
    g = all_in (GoesFrom m.state (outcome_of m (Pump now)).entry) (outcome_of m (Pump now)).packets x (pump_goes m now) i p tx e t

    q : Carries (IsFromRow m.state.outs) now p tx
    q = all_in (IsPacketOf (IsFromRow m.state.outs) now) (outcome_of m (Pump now)).packets x (pump_carries (IsFromRow m.state.outs) m now (rows_are m.state.outs)) i p tx e t

    f : IsFromRow m.state.outs q.source tx
    f = q.known

    at_row : In g.row m.state.outs
    at_row = get_in m.state.outs g.index g.row g.there

    same : tx_of f.row f.kept ≡ tx_of g.row g.kept
    same = sym f.head ∙ g.head

    one : f.row ≡ g.row
    one = one_row m.state.outs f.row g.row rise f.there at_row (ap (λ (h : TxHead). h.sequence.ordinal) same)

    number : g.kept.number ≡ f.kept.number
    number = ap (λ (h : TxHead). h.number) (sym same)

    marked : (g.kept.number ≤ g.row.offered) ⊎ IsMarkedBy (outcome_of m (Pump now)).entry g.row g.kept.number
        → (f.kept.number ≤ g.row.offered) ⊎ IsMarkedBy (outcome_of m (Pump now)).entry g.row f.kept.number
    marked (inl le) = inl (subst (λ n. n ≤ g.row.offered) number le)
    marked (inr h) = inr (subst (IsMarkedBy (outcome_of m (Pump now)).entry g.row) number h)

-- The row once the record is written.

same_marks : (xs ys : List Mark) → Some (entry.Offered xs) ≡ Some (entry.Offered ys) → xs ≡ ys
same_marks xs ys e = cc

abbrev HasRaised : State → Row → ℕ → List Row → Type 0
HasRaised s row n outs = (b : Row) × In b outs × IsRaisedRow row b × (n ≤ b.offered)

raised_after : (s : State) (o : Option Record) (row : Row) (n : ℕ) → OrdinalsRise s.outs → IfSome o (IsMade s) → IfSome o IsOfMarks → In row s.outs → (n ≤ row.offered) ⊎ IsMarkedBy o row n
    → HasRaised s row n (recorded s o).outs
raised_after s None row n rise made marks there (inl le) = (row, there, record { sequence = refl; destination = refl; acked = refl; kept = refl; offered = omega arith }, le)
raised_after s None row n rise made marks there (inr g) = absurd (none_some g.offers)
raised_after s (Some (entry.Identity identity)) row n rise made marks there h = absurd marks
raised_after s (Some (entry.Peer peer)) row n rise made marks there h = absurd marks
raised_after s (Some (entry.CreateQueue queue plan)) row n rise made marks there h = absurd marks
raised_after s (Some (entry.Commit now ops)) row n rise made marks there h = absurd marks
raised_after s (Some (entry.Plain now p)) row n rise made marks there h = absurd marks
raised_after s (Some (entry.Offered xs)) row n rise made marks there (inl le) = let g = raised_row s xs rise (made_offers s (entry.Offered xs) rise made) row there in
    (g.0, g.1, g.2, let high = g.2.offered in omega (arith, le, high))
raised_after s (Some (entry.Offered xs)) row n rise made marks there (inr h) =
    let g = marked_row s xs rise (made_offers s (entry.Offered xs) rise made) row there h.mark (subst (In h.mark) (sym (same_marks xs h.marks h.offers)) h.there) h.ordinal in
    (g.0, g.1, g.2, let low = h.enough in let high = g.3 in omega (arith, low, high))
raised_after s (Some (entry.Arrived now numbers part)) row n rise made marks there h = absurd marks
raised_after s (Some (entry.Taken now at id)) row n rise made marks there h = absurd marks
raised_after s (Some (entry.Purged now at)) row n rise made marks there h = absurd marks
raised_after s (Some (entry.Ticked now)) row n rise made marks there h = absurd marks
raised_after s (Some (entry.Set setting)) row n rise made marks there h = absurd marks

-- It can be sent.
module _ (d : QueueName) (peer : ℕ) (c : Channel) (v : StreamWorld) (s t : State) (ws : List Written) (o : Option Record) (now : ℕ) (due : AreDue t ws) (connected : v.connected ≡ true)
    (h : IsSourced d peer c v t.outs (commitments ws) (lines_written ws)) (rise : OrdinalsRise s.outs) (made : IfSome o (IsMade s)) (marks : IfSome o IsOfMarks)
    (outs : t.outs ≡ (recorded s o).outs) where
  pub row_can_send : (p : UserPacket) (tx : TxHead) → (g : IsOfRow s o now p tx) → g.row.destination ≡ d → CanSend h.world now p tx
  row_can_send p tx g leads = record {
    commitment = kept_at b g.kept;
    may = (h.same.connected ∙ connected, (shown.kept g.kept kept_there).0, row_kept h.world b g.kept shown kept_there, less, enough);
    head = ap (λ n. record { sequence = b.sequence; number = g.kept.number; previous = n }) (link_is_previous d peer c v t ws due h b g.kept inside b_leads kept_there unacknowledged)
        ∙ link ∙ sym g.head;
    message = sym g.message;
  }
    where
      found : HasRaised s g.row g.kept.number (recorded s o).outs
      found = raised_after s o g.row g.kept.number rise made marks g.there g.marked

      b : Row
      b = found.0

      inside : In b t.outs
      inside = subst (In b) (sym outs) found.1

      b_leads : b.destination ≡ d
      b_leads = found.2.destination ∙ leads

      shown : IsRowShown h.world b
      shown = h.rows.rows b inside b_leads

      kept_there : In g.kept b.kept
      kept_there = subst (In g.kept) (sym found.2.kept) g.inside

      unacknowledged : b.acked < g.kept.number
      unacknowledged = subst (λ n. n < g.kept.number) (sym found.2.acked) g.unacknowledged

      less : h.world.acknowledged b.sequence < g.kept.number
      less = subst (λ n. n < g.kept.number) (sym shown.acked) unacknowledged

      enough : g.kept.number ≤ h.world.offered b.sequence
      enough = subst (λ n. g.kept.number ≤ n) (sym shown.offered) found.3

      link : tx_of b g.kept ≡ tx_of g.row g.kept
      link = ap (λ (q : SequenceId). record { sequence = q; number = g.kept.number; previous = link_before b.acked b.kept g.kept.number }) found.2.sequence
          ∙ ap (λ a. record { sequence = g.row.sequence; number = g.kept.number; previous = link_before a b.kept g.kept.number }) found.2.acked
          ∙ ap (λ ks. record { sequence = g.row.sequence; number = g.kept.number; previous = link_before g.row.acked ks g.kept.number }) found.2.kept
