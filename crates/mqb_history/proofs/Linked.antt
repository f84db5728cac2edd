-- A stream world of each channel goes along with the course, step by step.
use Rattle.mqb_history.proofs.Committing.{in_append, kept_at}
use Rattle.std.proofs.Common.{refl, ap, sym, subst, ◌∙◌, inl, inr}
use Rattle.std.specs.Prelude.{position as place_of}
use Rattle.std.specs.Prelude.{[], ◌++◌, ◌==◌, ◌∷◌, ◌≡◌, ◌⊎◌, Bool, IfSome, List, None, Option, Some, false, option_map, reverse, true, ℕ}
use Rattle.mqb_base.specs.Same.{same_guid}
use Rattle.mqb_base.specs.declared.ids.Identity.{Identity}
use Rattle.mqb_base.specs.declared.ledger.Line.{Line}
use Rattle.mqb_base.specs.declared.queue_names.QueueName.{QueueName}
use Rattle.mqb_exactly_once.proofs.Members.{any_from_In}
use Rattle.mqb_exactly_once.proofs.Positions.{same_position_refl}
use Rattle.mqb_exactly_once.specs.Outcomes.{MessageFate, Was_put}
use Rattle.mqb_exactly_once.specs.Words.{In, is_decided, same_position}
use Rattle.mqb_exactly_once.specs.World.{Channel, Commitment, Decision, FinalAck, KnownFate, OrderAck, Position, StreamWorld}
use Rattle.mqb_model.specs.declared.target.Target.TheVariants.{AtPeer}
use Rattle.mqb_model.specs.managers.Manager.{Manager, doubt_of}
use Rattle.mqb_model.specs.managers.Outcomes.{recorded}
use Rattle.mqb_model.specs.records.Applying.{apply, lines_of}
use Rattle.mqb_model.specs.records.Record.{Record}
use Rattle.mqb_model.specs.records.Record as entry
use Rattle.mqb_model.specs.rules.Arrivals.{refusal_of}
use Rattle.mqb_model.specs.state.Resolving.{resolved}
use Rattle.mqb_network.specs.Courses.{Course, Written, written_by}
use Rattle.mqb_network.specs.Laws.{lines_written}
use Rattle.mqb_network.specs.Network.{Connection, Note, manager_at}
use Rattle.mqb_orders.specs.Rows.{Row}
use Rattle.mqb_orders.specs.declared.rows.InRow.{InRow}
use Rattle.mqb_packet.specs.declared.packet.Packet.{Packet}
use Rattle.mqb_packet.specs.declared.packet.Packet.TheVariants as packet
use Rattle.mqb_packet.specs.declared.packet.UserPacket.{UserPacket}
use Rattle.mqb_queue.specs.Places.{numbered}
use Rattle.mqb_history.specs.Committed.{commitments, commitments_in}
use Rattle.mqb_history.specs.Decided.{decided_in, decisions, written_of}
use Rattle.mqb_history.specs.Fates.{CameTo}
use Rattle.mqb_history.specs.Made.{IsMade}
use Rattle.mqb_history.specs.Shown.{AreAcksSent, AreFinalsSent, AreTransfersSent, CarriesFinal, ShowsDestination, ShowsPackets, ShowsReceipts, Went, commitments_to, decision_in, decisions_made, expiries_to, fate_of, is_final_ack, outcome_by}
use Rattle.mqb_history.proofs.Acquainting.{TellFates, came_more, commitments_grow, committed_to, finals_in, finals_known, finals_there, finals_went, to_committed}
use Rattle.mqb_history.proofs.Believing.{same_id_is}
use Rattle.mqb_history.proofs.Between.{AreEnds}
use Rattle.mqb_history.proofs.Carrying.{lines_append}
use Rattle.mqb_history.proofs.Finishing.{IsAckedTruly, MayFinish}
use Rattle.mqb_history.proofs.Lists.{append_nothing, apart_numbers, equal_numbers}
use Rattle.mqb_history.proofs.Marked.{AreMarked}
use Rattle.mqb_history.proofs.Noticed.{flat_in, in_flat}
use Rattle.mqb_history.proofs.Numbering.{commitments_more}
use Rattle.mqb_history.proofs.Outside.{filtered_in}
use Rattle.mqb_history.proofs.Posted.{IsSameNoteAt, acks_marked, finals_marked, finals_more, sent_marked, went_weaker}
use Rattle.mqb_history.proofs.Reaching.{Reached, chosen_append, chosen_from, chosen_in, in_reverse}
use Rattle.mqb_history.proofs.Recording.{Awaits, Finishes, record_sourced}
use Rattle.mqb_history.proofs.Ruling.{IsRuled, MayRule, record_ruled, same_at_source}
use Rattle.mqb_history.proofs.Settling.{ArePutsTold, final_only, final_told, finals_reached, puts_more, puts_settled, settled, settled_reached, shows_fates, told_now, with_finals}
use Rattle.mqb_history.proofs.Skipping.{Decides, decides}
use Rattle.mqb_history.proofs.Sourcing.{AreRowsShown, IsSourced, position_at, rows_over, same_elsewhere, sourced_outs}
use Rattle.mqb_history.proofs.Staying.{HasSameRows}
use Rattle.mqb_history.proofs.Telling.{lines_more}
use Rattle.mqb_history.proofs.Written.{of_append, other_more, own_more}

-- whatever is in doubt of an order acknowledgement is of this connection
abbrev pub AwaitsIn : QueueName → List OrderAck → ℕ → Manager → Type 0
AwaitsIn d acks connection m = IfSome (doubt_of m.condition) (Awaits d acks connection m.state.outs)

-- A run of the stream world goes along with a course: its connection stands, even if that of the course ended, until the next one begins. So whatever a record
-- in doubt decides can still arrive.
pub record IsLinked (c : Course) (i j : ℕ) (ch : Channel) (d : QueueName) (peer : ℕ) : Type 0 where
  pub world : StreamWorld
  pub reached : Reached ch world
  pub channel : world.channel ≡ ch
  pub connected : world.connected ≡ true
  pub rows : AreRowsShown d peer (manager_at c.network i).state.outs world
  pub committed : world.committed ≡ reverse (commitments_to d (commitments (written_of i c.written)))
  pub expired : world.expired ≡ reverse (expiries_to d (lines_written (written_of i c.written)))
  pub decided : ShowsDestination ch (manager_at c.network j).state.ins (written_of j c.written) world.decided
  pub number : ℕ
  pub standing : (e : Connection) → In e c.network.connections → AreEnds e i j → e.number ≡ number
  pub packets : ShowsPackets i j d c.network.notes c.sent number world.connection world.transfers
  pub transfers_sent : AreTransfersSent i j d c.network.notes c.sent world.transfers
  pub acks_sent : AreAcksSent i j c.network.notes c.sent world.order_acks
  pub finals_sent : AreFinalsSent i j world.committed c.network.notes c.sent world.final_acks
  pub receipts : ShowsReceipts i j ch (written_of j c.written) c.network.notes c.sent number world.connection world.order_acks
  pub doubt : IfSome (doubt_of (manager_at c.network j).condition) (MayRule ch world.transfers world.connection)
  pub fates : ArePutsTold (lines_written c.written) world.decided world.fates
  pub awaits : AwaitsIn d world.order_acks world.connection (manager_at c.network i)

-- its rows are acknowledged up to what was decided
abbrev pub IsAckedAt : Course → ℕ → ℕ → Channel → QueueName → ℕ → Type 0
IsAckedAt c i j ch d peer = (row : Row) → In row (manager_at c.network i).state.outs → row.destination ≡ d → row.peer ≡ peer
    → (row.acked ≡ 0) ⊎ In (record { sequence = row.sequence; number = row.acked }) (decisions ch (written_of j c.written))

-- A final acknowledgement went from one manager to another.
pub record IsSentBack (notes : List Note) (sent : List Packet) (i j : ℕ) (p : UserPacket) : Type 0 where
  pub place : ℕ
  pub note : Note
  pub noted : numbered notes place ≡ Some note
  pub there : numbered sent place ≡ Some (packet.User p)
  pub sender : note.sender ≡ j
  pub receiver : note.receiver ≡ i
  pub plain : p.tx ≡ None
  pub final : is_final_ack p.message ≡ true

-- so did that of which a record tells, where it came from the peer
abbrev pub ComesBack : ℕ → List Identity → List Note → List Packet → (i j : ℕ) → Record → Type 0
ComesBack peer peers notes sent i j (entry.Arrived now numbers (entry.Final p)) = place_of (λ (x : Identity). same_guid x.guid p.message.id.qm) peers ≡ Some peer → IsSentBack notes sent i j p
ComesBack peer peers notes sent i j _ = Unit {0}

-- One manager writes a record, or none does, and no connection begins, and nothing is sent.
pub record Goes (c z : Course) (a : ℕ) (o : Option Record) : Type 0 where
  pub others : (x : ℕ) → (a ≡ x → ⊥) → HasSameRows (manager_at c.network x).state (manager_at z.network x).state
  pub own : HasSameRows (recorded (manager_at c.network a).state o) (manager_at z.network a).state
  pub written : z.written ≡ c.written ++ written_by a (manager_at c.network a) o
  pub connections : (e : Connection) → In e z.network.connections → In e c.network.connections
  pub notes : (k : ℕ) (note : Note) → numbered z.network.notes k ≡ Some note → IsSameNoteAt c.network.notes k note
  pub notes_kept : (k : ℕ) (note : Note) → numbered c.network.notes k ≡ Some note → IsSameNoteAt z.network.notes k note
  pub sent : z.sent ≡ c.sent

-- what was decided is in the world
in_decisions_made : (ch : Channel) (ws : List Written) (p : Position) → In p (decisions ch ws) → (x : Decision) × In x (decisions_made ch ws) × (x.position ≡ p)
in_decisions_made ch ws p i = (record { position = p; message = g.packet.message; outcome = outcome_by (refusal_of f.0.before g.packet) }, chosen_in (λ w. decision_in ch w.before w.entry) ws f.0 _ f.1 made, refl)
  where
    f : (w : Written) × In w ws × (decided_in ch w.entry ≡ Some p)
    f = chosen_from (λ w. decided_in ch w.entry) ws p i

    g : Decides ch f.0.entry p
    g = decides ch f.0.entry p f.2

    made : decision_in ch f.0.before f.0.entry ≡ Some (record { position = p; message = g.packet.message; outcome = outcome_by (refusal_of f.0.before g.packet) })
    made = ap (decision_in ch f.0.before) g.entry
        ∙ ap (λ o. option_map (λ position. record { position = position; message = g.packet.message; outcome = outcome_by (refusal_of f.0.before g.packet) }) o)
        (sym (ap (decided_in ch) g.entry) ∙ f.2)

pub decided_shown : (ch : Channel) (ins : List InRow) (ws : List Written) (ds : List Decision) (p : Position) → ShowsDestination ch ins ws ds → In p (decisions ch ws) → is_decided ds p ≡ true
decided_shown ch ins ws ds p h i = let g = in_decisions_made ch ws p i in
    subst (λ q. is_decided ds q ≡ true) g.2 (any_from_In (λ (x : Decision). same_position x.position g.0.position) g.0 ds
    (subst (In g.0) (sym h.decisions) (in_reverse (decisions_made ch ws) g.0 g.1)) (same_position_refl g.0.position))

module _ (i j : ℕ) (ch : Channel) (d : QueueName) (peer : ℕ) (c z : Course) (a : ℕ) (o : Option Record) (g : Goes c z a o) (made : IfSome o (IsMade (manager_at c.network a).state))
    (apart : i ≡ j → ⊥) (h : IsLinked c i j ch d peer) where
  abbrev w : StreamWorld
  w = h.world

  -- the records of another manager stay
  other_written : (x : ℕ) → (a ≡ x → ⊥) → written_of x z.written ≡ written_of x c.written
  other_written x differ = ap (written_of x) g.written ∙ other_more a x (manager_at c.network a) o c.written differ

  own_written : written_of a z.written ≡ written_of a c.written ++ written_by a (manager_at c.network a) o
  own_written = ap (written_of a) g.written ∙ own_more a (manager_at c.network a) o c.written

  -- packets
  packets_stay : ShowsPackets i j d z.network.notes z.sent h.number w.connection w.transfers
  packets_stay k note p tx e f t sender receiver to = let n = g.notes k note e in
      let x = h.packets k n.old p tx n.there (ap (λ s. numbered s k) (sym g.sent) ∙ f) t (n.sender ∙ sender) (n.receiver ∙ receiver) to in
      (x.0, x.1, record { head = x.2.head; message = x.2.message; sent_at = x.2.sent_at ∙ n.moment }, λ same. x.3 (n.connection ∙ same))

  transfers_stay : AreTransfersSent i j d z.network.notes z.sent w.transfers
  transfers_stay = sent_marked i j d c.network.notes z.network.notes z.sent w.transfers g.notes_kept (subst (λ s. AreTransfersSent i j d c.network.notes s w.transfers) (sym g.sent) h.transfers_sent)

  -- order acknowledgements
  acks_stay : AreAcksSent i j z.network.notes z.sent w.order_acks
  acks_stay = acks_marked i j c.network.notes z.network.notes z.sent w.order_acks g.notes_kept (subst (λ s. AreAcksSent i j c.network.notes s w.order_acks) (sym g.sent) h.acks_sent)

  decided_stays : (channel : Channel) (p : Position) → In p (decisions channel (written_of j c.written)) → In p (decisions channel (written_of j z.written))
  decided_stays channel p inside = subst (λ ws. In p (decisions channel ws)) (sym (ap (written_of j) g.written ∙ of_append j c.written (written_by a (manager_at c.network a) o)))
      (subst (In p) (sym (chosen_append (λ (x : Written). decided_in channel x.entry) (written_of j c.written) (written_of j (written_by a (manager_at c.network a) o))))
      (in_append (decisions channel (written_of j c.written)) _ p inside))

  receipts_stay : ShowsReceipts i j ch (written_of j z.written) z.network.notes z.sent h.number w.connection w.order_acks
  receipts_stay k note p e f t is sender receiver = let n = g.notes k note e in
      let x = h.receipts k n.old p n.there (ap (λ s. numbered s k) (sym g.sent) ∙ f) t is (n.sender ∙ sender) (n.receiver ∙ receiver) in record {
        position = x.position;
        spelled = x.spelled;
        of = x.of;
        source = x.source;
        decided = decided_stays x.of x.position x.decided;
        shown = λ same. let y = x.shown same in (y.0, y.1, y.2, λ now. y.3 (n.connection ∙ now));
      }

  standing_stays : (e : Connection) → In e z.network.connections → AreEnds e i j → e.number ≡ h.number
  standing_stays e inside ends = h.standing e (g.connections e inside) ends

  -- the lines of the ledger stay
  ledger_stays : (l : Line) → In l (lines_written c.written) → In l (lines_written z.written)
  ledger_stays l inside = subst (λ ws. In l (lines_written ws)) (sym g.written) (subst (In l) (sym (lines_append c.written (written_by a (manager_at c.network a) o)))
      (in_append (lines_written c.written) (lines_written (written_by a (manager_at c.network a) o)) l inside))

  fates_stay : ArePutsTold (lines_written z.written) w.decided w.fates
  fates_stay = puts_more (lines_written c.written) (lines_written z.written) w.decided w.decided w.fates ledger_stays (λ x inside. inside) h.fates

  finals_stay : AreFinalsSent i j w.committed z.network.notes z.sent w.final_acks
  finals_stay = finals_marked i j w.committed c.network.notes z.network.notes z.sent w.final_acks g.notes_kept (subst (λ s. AreFinalsSent i j w.committed c.network.notes s w.final_acks) (sym g.sent) h.finals_sent)

  -- in the world that goes on all fates are known that lines tell by now
  abbrev settled_now : StreamWorld
  settled_now = settled w (lines_written z.written)

  -- and those are told that final acknowledgements told
  abbrev told_now_of : List KnownFate
  told_now_of = finals_in i j w.committed z.network.notes z.sent

  abbrev v : StreamWorld
  v = with_finals settled_now told_now_of

  module _ (same : a ≡ i) (tell : TellFates z i j ch d) (come : IfSome o (ComesBack peer (manager_at c.network a).state.peers c.network.notes c.sent i j)) where
    not_j : a ≡ j → ⊥
    not_j e = apart (sym same ∙ e)

    commits_stay : (x : Commitment) → In x w.committed → In x (commitments (written_of i z.written)) × (x.message.destination ≡ d)
    commits_stay x inside = let y = committed_to d (commitments (written_of i c.written)) x (subst (In x) h.committed inside) in (
      subst (λ ws. In x (commitments ws)) (sym (ap (written_of i) g.written ∙ of_append i c.written (written_by a (manager_at c.network a) o)))
          (commitments_grow (written_of i c.written) (written_of i (written_by a (manager_at c.network a) o)) x y.0),
      y.1,
    )

    own_lines : (l : Line) → In l (lines_written (written_of j z.written)) → In l (lines_written z.written)
    own_lines l inside = let y = in_flat (λ (x : Written). lines_of x.before x.entry) (written_of j z.written) l inside in
        flat_in (λ (x : Written). lines_of x.before x.entry) z.written y.0 l (filtered_in (λ (x : Written). x.by == j) z.written y.0 y.1) y.2

    fates_known : (x : Decision) (fate : MessageFate) → In x (decisions_made ch (written_of j z.written)) → CameTo (lines_written (written_of j z.written)) x fate
        → In (record { position = x.position; fate = fate }) settled_now.fates
    fates_known x fate inside came = (shows_fates ch w (lines_written z.written) h.reached fates_stay).known x fate
        (subst (In x) (sym h.decided.decisions) (in_reverse (decisions_made ch (written_of j c.written)) x (subst (λ ws. In x (decisions_made ch ws)) (other_written j not_j) inside)))
        (came_more (lines_written (written_of j z.written)) (lines_written z.written) x fate own_lines came)

    sourced : IsSourced d peer ch v (manager_at c.network i).state.outs (commitments (written_of i c.written)) (lines_written (written_of i c.written))
    sourced = record {
      world = v;
      reached = finals_reached ch settled_now (settled_reached ch w (lines_written z.written) h.reached) h.connected told_now_of
          (finals_known i j w.committed z ch d settled_now.fates tell commits_stay fates_known);
      same = same_elsewhere v;
      rows = rows_over d peer (manager_at c.network i).state.outs w v refl refl refl refl h.rows;
      committed = h.committed;
      expired = h.expired;
    }

    -- so what a record finishes is told of
    finish_told : (p : UserPacket) → (place_of (λ (x : Identity). same_guid x.guid p.message.id.qm) (manager_at c.network a).state.peers ≡ Some peer → IsSentBack c.network.notes c.sent i j p)
        → MayFinish d v (manager_at c.network a).state.peers (manager_at c.network a).state.outs p.message
    finish_told p back row k inside kept named to came decided = (told_now w.connection fate, final_told settled_now told_now_of fate there, refl, refl)
      where
        at_i : In row (manager_at c.network i).state.outs
        at_i = subst (λ n. In row (manager_at c.network n).state.outs) same inside

        x : IsSentBack c.network.notes c.sent i j p
        x = back (came ∙ ap (λ n. Some n) (h.rows.peers row at_i to))

        note : IsSameNoteAt z.network.notes x.place x.note
        note = g.notes_kept x.place x.note x.noted

        fate : KnownFate
        fate = record { position = position_at row k; fate = fate_of p.message.class }

        there : In fate told_now_of
        there = finals_there i j w.committed z.network.notes z.sent x.place note.old p (kept_at row k) note.there (ap (λ s. numbered s x.place) g.sent ∙ x.there) x.plain x.final
            (note.sender ∙ x.sender) (note.receiver ∙ x.receiver) ((h.rows.rows row at_i to).kept k kept).0 (same_id_is k.message.id p.message.correlation named)

    finishes : (x : Option Record) → IfSome x (ComesBack peer (manager_at c.network a).state.peers c.network.notes c.sent i j) → IfSome x (Finishes d v (manager_at c.network a).state)
    finishes (Some (entry.Arrived now numbers (entry.Final p))) e = finish_told p e
    finishes x e = tt

    -- each final acknowledgement of a world that goes on was sent
    finals_now : (u : StreamWorld) → u.final_acks ≡ v.final_acks → u.committed ≡ reverse (commitments_to d (commitments (written_of i z.written)))
        → AreFinalsSent i j u.committed z.network.notes z.sent u.final_acks
    finals_now u acks committed q inside = at (final_only settled_now told_now_of q (subst (In q) acks inside))
      where
        Goal : FinalAck → Type 0
        Goal y = Went z.network.notes z.sent (CarriesFinal i j u.committed y)

        grown : (y : FinalAck) → Went z.network.notes z.sent (CarriesFinal i j w.committed y) → Goal y
        grown y = went_weaker (CarriesFinal i j w.committed y) (CarriesFinal i j u.committed y)
            (λ note user. finals_more i j w.committed u.committed y note user (λ x there. let k = commits_stay x there in
            subst (In x) (sym committed) (to_committed d (commitments (written_of i z.written)) x k.0 k.1))) z.network.notes z.sent

        at : ((f : KnownFate) × In f told_now_of × (told_now w.connection f ≡ q)) ⊎ In q w.final_acks → Goal q
        at (inl x) = subst Goal x.2 (grown (told_now w.connection x.0) (finals_went i j w.committed w.connection z.network.notes z.sent x.0 x.1))
        at (inr old) = grown q (finals_stay q old)

  -- The source writes.
  module _ (same : a ≡ i) (held : AreMarked (manager_at c.network i).state (written_of i c.written)) (leads : resolved (manager_at c.network i).state d ≡ AtPeer peer)
      (truly : IsAckedTruly d peer w (manager_at z.network i).state.outs) (doubt : IfSome (doubt_of (manager_at z.network j).condition) (MayRule ch w.transfers w.connection))
      (hears : IfSome o (Awaits d w.order_acks w.connection (manager_at c.network a).state.outs)) (tell : TellFates z i j ch d)
      (come : IfSome o (ComesBack peer (manager_at c.network a).state.peers c.network.notes c.sent i j)) (awaits : AwaitsIn d w.order_acks w.connection (manager_at z.network i)) where
    source_goes : IsSourced d peer ch v (manager_at z.network i).state.outs (commitments (written_of i z.written)) (lines_written (written_of i z.written))
    source_goes = subst (λ k. IsSourced d peer ch v (manager_at z.network k).state.outs (commitments (written_of k z.written)) (lines_written (written_of k z.written))) same
        (subst (λ ws. IsSourced d peer ch v (manager_at z.network a).state.outs (commitments ws) (lines_written ws)) (sym own_written)
        (sourced_outs d peer ch v (recorded (manager_at c.network a).state o).outs (manager_at z.network a).state.outs _ _ g.own.outs
        (by o made hears (finishes same tell come o come) (subst (IsAckedTruly d peer w) (g.own.outs) (subst (λ k. IsAckedTruly d peer w (manager_at z.network k).state.outs) (sym same) truly)))))
      where
        at_a : IsSourced d peer ch v (manager_at c.network a).state.outs (commitments (written_of a c.written)) (lines_written (written_of a c.written))
        at_a = subst (λ k. IsSourced d peer ch v (manager_at c.network k).state.outs (commitments (written_of k c.written)) (lines_written (written_of k c.written))) (sym same) (sourced same tell come)

        held_a : AreMarked (manager_at c.network a).state (written_of a c.written)
        held_a = subst (λ k. AreMarked (manager_at c.network k).state (written_of k c.written)) (sym same) held

        leads_a : resolved (manager_at c.network a).state d ≡ AtPeer peer
        leads_a = subst (λ k. resolved (manager_at c.network k).state d ≡ AtPeer peer) (sym same) leads

        by : (x : Option Record) → IfSome x (IsMade (manager_at c.network a).state) → IfSome x (Awaits d w.order_acks w.connection (manager_at c.network a).state.outs)
            → IfSome x (Finishes d v (manager_at c.network a).state) → IsAckedTruly d peer w (recorded (manager_at c.network a).state x).outs
            → IsSourced d peer ch v (recorded (manager_at c.network a).state x).outs (commitments (written_of a c.written ++ written_by a (manager_at c.network a) x))
            (lines_written (written_of a c.written ++ written_by a (manager_at c.network a) x))
        by None m acks ends t = subst (λ ws. IsSourced d peer ch v (manager_at c.network a).state.outs (commitments ws) (lines_written ws)) (sym (append_nothing (written_of a c.written))) at_a
        by (Some r) m acks ends t = let s = (manager_at c.network a).state in let ws = written_of a c.written in let x : Written = record { by = a; before = s; entry = r } in
            subst (λ cs. IsSourced d peer ch v (apply s r).outs cs (lines_written (ws ++ x ∷ []))) (sym (commitments_more ws x))
            (subst (λ ls. IsSourced d peer ch v (apply s r).outs (commitments ws ++ commitments_in s r) ls) (sym (lines_more ws x))
            (record_sourced d peer ch v h.connected s ws held_a leads_a at_a r m t acks ends))

    pub source_linked : IsLinked z i j ch d peer
    source_linked = let n = source_goes in let not_j = λ (e : a ≡ j). apart (sym same ∙ e) in record {
      world = n.world;
      reached = n.reached;
      channel = n.same.channel ∙ h.channel;
      connected = n.same.connected ∙ h.connected;
      rows = n.rows;
      committed = n.committed;
      expired = n.expired;
      decided = subst (λ ds. ShowsDestination ch (manager_at z.network j).state.ins (written_of j z.written) ds) (sym n.same.decided)
          (subst (λ ins. ShowsDestination ch ins (written_of j z.written) w.decided) (sym (g.others j not_j).ins)
          (subst (λ ws. ShowsDestination ch (manager_at c.network j).state.ins ws w.decided) (sym (other_written j not_j)) h.decided));
      number = h.number;
      standing = standing_stays;
      packets = subst (λ ts. ShowsPackets i j d z.network.notes z.sent h.number n.world.connection ts) (sym n.same.transfers)
          (subst (λ k. ShowsPackets i j d z.network.notes z.sent h.number k w.transfers) (sym n.same.connection) packets_stay);
      transfers_sent = subst (AreTransfersSent i j d z.network.notes z.sent) (sym n.same.transfers) transfers_stay;
      acks_sent = subst (AreAcksSent i j z.network.notes z.sent) (sym n.same.order_acks) acks_stay;
      finals_sent = finals_now same tell come n.world n.same.final_acks n.committed;
      receipts = subst (λ acks. ShowsReceipts i j ch (written_of j z.written) z.network.notes z.sent h.number n.world.connection acks) (sym n.same.order_acks)
          (subst (λ k. ShowsReceipts i j ch (written_of j z.written) z.network.notes z.sent h.number k w.order_acks) (sym n.same.connection) receipts_stay);
      doubt = subst (λ ts. IfSome (doubt_of (manager_at z.network j).condition) (MayRule ch ts n.world.connection)) (sym n.same.transfers)
          (subst (λ k. IfSome (doubt_of (manager_at z.network j).condition) (MayRule ch w.transfers k)) (sym n.same.connection) doubt);
      fates = subst (λ ds. ArePutsTold (lines_written z.written) ds n.world.fates) (sym n.same.decided)
          (subst (ArePutsTold (lines_written z.written) w.decided) (sym n.same.fates) (puts_settled w (lines_written z.written) fates_stay));
      awaits = subst (λ acks. AwaitsIn d acks n.world.connection (manager_at z.network i)) (sym n.same.order_acks)
          (subst (λ k. AwaitsIn d w.order_acks k (manager_at z.network i)) (sym n.same.connection) awaits);
    }

  -- Another manager does.
  source_stays : (a ≡ i → ⊥) → AreRowsShown d peer (manager_at z.network i).state.outs w
  source_stays differ = subst (λ outs. AreRowsShown d peer outs w) (sym (g.others i differ).outs) h.rows

  -- The destination.
  module _ (same : a ≡ j) (may : IfSome o (MayRule ch w.transfers w.connection)) (doubt : IfSome (doubt_of (manager_at z.network j).condition) (MayRule ch w.transfers w.connection))
      (awaits : AwaitsIn d w.order_acks w.connection (manager_at z.network i)) where
    not_i : a ≡ i → ⊥
    not_i e = apart (sym e ∙ same)

    ruled : IsRuled ch w (manager_at z.network j).state.ins (written_of j z.written)
    ruled = subst (λ k. IsRuled ch w (manager_at z.network k).state.ins (written_of k z.written)) same
        (subst (λ ws. IsRuled ch w (manager_at z.network a).state.ins ws) (sym own_written)
        (subst (λ ins. IsRuled ch w ins (written_of a c.written ++ written_by a (manager_at c.network a) o)) (sym g.own.ins) (by o made may)))
      where
        at_a : ShowsDestination ch (manager_at c.network a).state.ins (written_of a c.written) w.decided
        at_a = subst (λ k. ShowsDestination ch (manager_at c.network k).state.ins (written_of k c.written) w.decided) (sym same) h.decided

        by : (x : Option Record) → IfSome x (IsMade (manager_at c.network a).state) → IfSome x (MayRule ch w.transfers w.connection)
            → IsRuled ch w (recorded (manager_at c.network a).state x).ins (written_of a c.written ++ written_by a (manager_at c.network a) x)
        by None m t = record {
          world = w;
          reached = h.reached;
          same = same_at_source w;
          more = λ x inside. inside;
          puts = λ f put inside. inside;
          shown = subst (λ ws. ShowsDestination ch (manager_at c.network a).state.ins ws w.decided) (sym (append_nothing (written_of a c.written))) at_a;
        }
        by (Some r) m t = record_ruled ch w h.reached h.channel h.connected a (manager_at c.network a).state (written_of a c.written) at_a r m t

    pub destination_linked : IsLinked z i j ch d peer
    destination_linked = let n = ruled in record {
      world = n.world;
      reached = n.reached;
      channel = n.same.channel ∙ h.channel;
      connected = n.same.connected ∙ h.connected;
      rows = rows_over d peer (manager_at z.network i).state.outs w n.world n.same.committed n.same.expired n.same.offered n.same.acknowledged (source_stays not_i);
      committed = n.same.committed ∙ h.committed ∙ ap (λ ws. reverse (commitments_to d (commitments ws))) (sym (other_written i not_i));
      expired = n.same.expired ∙ h.expired ∙ ap (λ ws. reverse (expiries_to d (lines_written ws))) (sym (other_written i not_i));
      decided = n.shown;
      number = h.number;
      standing = standing_stays;
      packets = subst (λ ts. ShowsPackets i j d z.network.notes z.sent h.number n.world.connection ts) (sym n.same.transfers)
          (subst (λ k. ShowsPackets i j d z.network.notes z.sent h.number k w.transfers) (sym n.same.connection) packets_stay);
      transfers_sent = subst (AreTransfersSent i j d z.network.notes z.sent) (sym n.same.transfers) transfers_stay;
      acks_sent = subst (AreAcksSent i j z.network.notes z.sent) (sym n.same.order_acks) acks_stay;
      finals_sent = subst (λ cs. AreFinalsSent i j cs z.network.notes z.sent n.world.final_acks) (sym n.same.committed)
          (subst (AreFinalsSent i j w.committed z.network.notes z.sent) (sym n.same.final_acks) finals_stay);
      receipts = subst (λ acks. ShowsReceipts i j ch (written_of j z.written) z.network.notes z.sent h.number n.world.connection acks) (sym n.same.order_acks)
          (subst (λ k. ShowsReceipts i j ch (written_of j z.written) z.network.notes z.sent h.number k w.order_acks) (sym n.same.connection) receipts_stay);
      doubt = subst (λ ts. IfSome (doubt_of (manager_at z.network j).condition) (MayRule ch ts n.world.connection)) (sym n.same.transfers)
          (subst (λ k. IfSome (doubt_of (manager_at z.network j).condition) (MayRule ch w.transfers k)) (sym n.same.connection) doubt);
      fates = λ p departure inside. let x = fates_stay p departure (n.puts (record { position = p; fate = Was_put departure }) (departure, refl) inside) in
          record { decision = x.decision; there = n.more x.decision x.there; position = x.position; put = x.put; told = x.told };
      awaits = subst (λ acks. AwaitsIn d acks n.world.connection (manager_at z.network i)) (sym n.same.order_acks)
          (subst (λ k. AwaitsIn d w.order_acks k (manager_at z.network i)) (sym n.same.connection) awaits);
    }

  -- Neither.
  pub neither_linked : (a ≡ i → ⊥) → (a ≡ j → ⊥) → IfSome (doubt_of (manager_at z.network j).condition) (MayRule ch w.transfers w.connection)
      → AwaitsIn d w.order_acks w.connection (manager_at z.network i) → IsLinked z i j ch d peer
  neither_linked not_i not_j doubt awaits = record {
    world = w;
    reached = h.reached;
    channel = h.channel;
    connected = h.connected;
    rows = source_stays not_i;
    committed = h.committed ∙ ap (λ ws. reverse (commitments_to d (commitments ws))) (sym (other_written i not_i));
    expired = h.expired ∙ ap (λ ws. reverse (expiries_to d (lines_written ws))) (sym (other_written i not_i));
    decided = subst (λ ins. ShowsDestination ch ins (written_of j z.written) w.decided) (sym (g.others j not_j).ins)
        (subst (λ ws. ShowsDestination ch (manager_at c.network j).state.ins ws w.decided) (sym (other_written j not_j)) h.decided);
    number = h.number;
    standing = standing_stays;
    packets = packets_stay;
    transfers_sent = transfers_stay;
    acks_sent = acks_stay;
    finals_sent = finals_stay;
    receipts = receipts_stay;
    doubt = doubt;
    fates = fates_stay;
    awaits = awaits;
  }

  -- what the rows of the source are acknowledged up to was decided, where the source writes
  acked_now : a ≡ i → IsAckedAt z i j ch d peer → IsAckedTruly d peer w (manager_at z.network i).state.outs
  acked_now same truly row inside to to_peer = at (truly row inside to to_peer)
    where
      not_j : a ≡ j → ⊥
      not_j e = apart (sym same ∙ e)

      at : (row.acked ≡ 0) ⊎ In (record { sequence = row.sequence; number = row.acked }) (decisions ch (written_of j z.written))
          → (row.acked ≡ 0) ⊎ (is_decided w.decided (record { sequence = row.sequence; number = row.acked }) ≡ true)
      at (inl e) = inl e
      at (inr k) = inr (decided_shown ch (manager_at c.network j).state.ins (written_of j c.written) w.decided (record { sequence = row.sequence; number = row.acked }) h.decided
          (subst (λ ws. In (record { sequence = row.sequence; number = row.acked }) (decisions ch ws)) (other_written j not_j) k))

  -- Whoever writes.
  pub goes_linked : AreMarked (manager_at c.network i).state (written_of i c.written) → resolved (manager_at c.network i).state d ≡ AtPeer peer → IsAckedAt z i j ch d peer
      → (a ≡ j → IfSome o (MayRule ch w.transfers w.connection)) → IfSome (doubt_of (manager_at z.network j).condition) (MayRule ch w.transfers w.connection)
      → (a ≡ i → IfSome o (Awaits d w.order_acks w.connection (manager_at c.network a).state.outs)) → TellFates z i j ch d
      → (a ≡ i → IfSome o (ComesBack peer (manager_at c.network a).state.peers c.network.notes c.sent i j)) → AwaitsIn d w.order_acks w.connection (manager_at z.network i)
      → IsLinked z i j ch d peer
  goes_linked held leads truly may doubt hears tell come awaits = at (a == i) refl (a == j) refl
    where
      at : (p : Bool) → (a == i) ≡ p → (q : Bool) → (a == j) ≡ q → IsLinked z i j ch d peer
      at true e q f = let same = equal_numbers a i e in source_linked same held leads (acked_now same truly) doubt (hears same) tell (come same) awaits
      at false e true f = let same = equal_numbers a j f in destination_linked same (may same) doubt awaits
      at false e false f = neither_linked (apart_numbers a i e) (apart_numbers a j f) doubt awaits
