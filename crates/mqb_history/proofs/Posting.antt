-- Packets are sent in the course, and in the stream world.
use Rattle.mqb_history.proofs.Receipting.{IsToldOn, Tells, told_on}
use Rattle.mqb_history.specs.Acked.{is_order_ack}
use Rattle.std.proofs.Common.{refl, ap, sym, subst, ◌∙◌, arith, inl, inr}
use Rattle.std.specs.Option.{option_map_or}
use Rattle.std.specs.Prelude.{◌++◌, ◌<◌, ◌==◌, ◌≡◌, ◌⊎◌, Bool, IfSome, List, None, Option, Some, false, length, replicate, true, ℕ}
use Rattle.mqb_base.specs.declared.heads.TxHead.{TxHead}
use Rattle.mqb_base.specs.declared.queue_names.QueueName.{QueueName}
use Rattle.mqb_exactly_once.specs.Words.{In}
use Rattle.mqb_exactly_once.specs.World.{Channel, OrderAck, StreamWorld, Transfer}
use Rattle.mqb_model.specs.managers.Manager.{doubt_of}
use Rattle.mqb_model.specs.records.Record.{Record}
use Rattle.mqb_network.specs.Changes.{note_by}
use Rattle.mqb_network.specs.Courses.{Course, posted}
use Rattle.mqb_network.specs.Laws.{lines_written}
use Rattle.mqb_network.specs.Network.{Connection, Network, Note, connection_of, manager_at, other_end}
use Rattle.mqb_packet.specs.declared.packet.Packet.{Packet}
use Rattle.mqb_packet.specs.declared.packet.Packet.TheVariants as packet
use Rattle.mqb_packet.specs.declared.packet.UserPacket.{UserPacket}
use Rattle.mqb_queue.specs.Places.{numbered}
use Rattle.mqb_history.specs.Decided.{written_of}
use Rattle.mqb_history.specs.Shown.{AreAcksSent, AreFinalsSent, AreTransfersSent, IsTransfer, ShowsDestination, ShowsPackets, IsReceipt, ShowsReceipts}
use Rattle.mqb_history.proofs.Carrying.{numbered_split, numbered_within, replicated}
use Rattle.mqb_history.proofs.Dispatching.{AreSentOn, CanSend, IsOfChannel, send_on}
use Rattle.mqb_history.proofs.Awaiting.{awaits_more}
use Rattle.mqb_history.proofs.Linked.{AwaitsIn, IsLinked}
use Rattle.mqb_history.proofs.Posted.{acks_behind, acks_posted, acks_still, finals_behind, finals_still, posted_sent, sent_behind, sent_still}
use Rattle.mqb_history.proofs.Lists.{apart_numbers, equal_numbers}
use Rattle.mqb_history.proofs.Ruling.{MayRule, may_more}
use Rattle.mqb_history.proofs.Settling.{ArePutsTold}
use Rattle.mqb_history.proofs.Sourcing.{rows_over}

module _ (c : Course) (i j : ℕ) (ch : Channel) (d : QueueName) (peer : ℕ) (a now : ℕ) (zs : List Packet) (noted : length c.network.notes ≡ length c.sent) (apart : i ≡ j → ⊥)
    (h : IsLinked c i j ch d peer) where
  abbrev with_notes : Option Connection → Network
  with_notes o = option_map_or (λ e. record c.network { notes = c.network.notes ++ replicate (length zs) (note_by a now e) }) o c.network

  abbrev after : Option Connection → Course
  after o = record c { network = with_notes o; sent = c.sent ++ zs }

  -- final acknowledgements stay packets that were sent
  finals_of : (w : StreamWorld) → w.committed ≡ h.world.committed → w.final_acks ≡ h.world.final_acks → AreFinalsSent i j w.committed c.network.notes c.sent w.final_acks
  finals_of w committed acks = subst (λ cs. AreFinalsSent i j cs c.network.notes c.sent w.final_acks) (sym committed)
      (subst (AreFinalsSent i j h.world.committed c.network.notes c.sent) (sym acks) h.finals_sent)

  finals_now : (e : Connection) (w : StreamWorld) → AreFinalsSent i j w.committed c.network.notes c.sent w.final_acks
      → AreFinalsSent i j w.committed (c.network.notes ++ replicate (length zs) (note_by a now e)) (c.sent ++ zs) w.final_acks
  finals_now e w sent = finals_still i j w.committed c.network.notes (replicate (length zs) (note_by a now e)) c.sent zs w.final_acks sent

  -- what stands in a packet, and is a transfer
  abbrev IsShownAs : Note → UserPacket → TxHead → ℕ → List Transfer → Type 0
  IsShownAs note p tx connection ts = (t : Transfer) × In t ts × IsTransfer note p tx t × (note.connection ≡ h.number → t.connection ≡ connection)

  -- packets where there is no connection: there are none
  none_shown : ShowsPackets i j d c.network.notes (c.sent ++ zs) h.number h.world.connection h.world.transfers
  none_shown k note p tx e f t sender receiver to = at (numbered_split c.sent zs k (packet.User p) f)
    where
      at : (numbered c.sent k ≡ Some (packet.User p)) ⊎ ((length c.sent < k) × In (packet.User p) zs) → IsShownAs note p tx h.world.connection h.world.transfers
      at (inl g) = h.packets k note p tx e g t sender receiver to
      at (inr g) = let low = numbered_within c.network.notes k note e in let high = g.0 in absurd (omega (arith, low, high, noted))

  -- receipts where there is no connection
  none_told : ShowsReceipts i j ch (written_of j c.written) c.network.notes (c.sent ++ zs) h.number h.world.connection h.world.order_acks
  none_told k note p e f t is sender receiver = at (numbered_split c.sent zs k (packet.User p) f)
    where
      at : (numbered c.sent k ≡ Some (packet.User p)) ⊎ ((length c.sent < k) × In (packet.User p) zs) → IsReceipt ch (written_of j c.written) note p h.number h.world.connection h.world.order_acks
      at (inl g) = h.receipts k note p e g t is sender receiver
      at (inr g) = let low = numbered_within c.network.notes k note e in let high = g.0 in absurd (omega (arith, low, high, noted))

  -- packets in a connection
  module _ (e : Connection) where
    abbrev notes : List Note
    notes = c.network.notes ++ replicate (length zs) (note_by a now e)

    split_shown : (connection : ℕ) (ts : List Transfer) → ShowsPackets i j d c.network.notes c.sent h.number connection ts
        → ((p : UserPacket) (tx : TxHead) → In (packet.User p) zs → p.tx ≡ Some tx → a ≡ i → other_end a e ≡ j → p.message.destination ≡ d → IsShownAs (note_by a now e) p tx connection ts)
        → ShowsPackets i j d notes (c.sent ++ zs) h.number connection ts
    split_shown connection ts old new k note p tx x f t sender receiver to = at (numbered_split c.network.notes (replicate (length zs) (note_by a now e)) k note x) (numbered_split c.sent zs k (packet.User p) f)
      where
        at : (numbered c.network.notes k ≡ Some note) ⊎ ((length c.network.notes < k) × In note (replicate (length zs) (note_by a now e)))
            → (numbered c.sent k ≡ Some (packet.User p)) ⊎ ((length c.sent < k) × In (packet.User p) zs) → IsShownAs note p tx connection ts
        at (inl g) (inl q) = old k note p tx g q t sender receiver to
        at (inl g) (inr q) = let low = numbered_within c.network.notes k note g in let high = q.0 in absurd (omega (arith, low, high, noted))
        at (inr g) (inl q) = let low = numbered_within c.sent k (packet.User p) q in let high = g.0 in absurd (omega (arith, low, high, noted))
        at (inr g) (inr q) = let same = replicated (length zs) (note_by a now e) note g.1 in
            subst (λ n. IsShownAs n p tx connection ts) same (new p tx q.1 t (ap (λ (n : Note). n.sender) same ∙ sender) (ap (λ (n : Note). n.receiver) same ∙ receiver) to)

    split_told : (connection : ℕ) (acks : List OrderAck) → ShowsReceipts i j ch (written_of j c.written) c.network.notes c.sent h.number connection acks
        → ((p : UserPacket) → In (packet.User p) zs → p.tx ≡ None → is_order_ack p.message ≡ true → a ≡ j → other_end a e ≡ i → IsReceipt ch (written_of j c.written) (note_by a now e) p h.number connection acks)
        → ShowsReceipts i j ch (written_of j c.written) notes (c.sent ++ zs) h.number connection acks
    split_told connection acks old new k note p x f t is sender receiver = at (numbered_split c.network.notes (replicate (length zs) (note_by a now e)) k note x) (numbered_split c.sent zs k (packet.User p) f)
      where
        at : (numbered c.network.notes k ≡ Some note) ⊎ ((length c.network.notes < k) × In note (replicate (length zs) (note_by a now e)))
            → (numbered c.sent k ≡ Some (packet.User p)) ⊎ ((length c.sent < k) × In (packet.User p) zs) → IsReceipt ch (written_of j c.written) note p h.number connection acks
        at (inl g) (inl q) = old k note p g q t is sender receiver
        at (inl g) (inr q) = let low = numbered_within c.network.notes k note g in let high = q.0 in absurd (omega (arith, low, high, noted))
        at (inr g) (inl q) = let low = numbered_within c.sent k (packet.User p) q in let high = g.0 in absurd (omega (arith, low, high, noted))
        at (inr g) (inr q) = let same = replicated (length zs) (note_by a now e) note g.1 in
            subst (λ n. IsReceipt ch (written_of j c.written) n p h.number connection acks) same
            (new p q.1 t is (ap (λ (n : Note). n.sender) same ∙ sender) (ap (λ (n : Note). n.receiver) same ∙ receiver))

    -- those of another pair
    other_posted : (a ≡ i → other_end a e ≡ j → ⊥) → (a ≡ j → other_end a e ≡ i → ⊥) → IsLinked (after (Some e)) i j ch d peer
    other_posted differ back = record {
      world = h.world;
      reached = h.reached;
      channel = h.channel;
      connected = h.connected;
      rows = h.rows;
      committed = h.committed;
      expired = h.expired;
      decided = h.decided;
      number = h.number;
      standing = h.standing;
      packets = split_shown h.world.connection h.world.transfers h.packets (λ p tx inside t from into to. absurd (differ from into));
      transfers_sent = sent_still i j d c.network.notes (replicate (length zs) (note_by a now e)) c.sent zs h.world.transfers h.transfers_sent;
      acks_sent = acks_still i j c.network.notes (replicate (length zs) (note_by a now e)) c.sent zs h.world.order_acks h.acks_sent;
      finals_sent = finals_now e h.world h.finals_sent;
      receipts = split_told h.world.connection h.world.order_acks h.receipts (λ p inside t is from into. absurd (back from into));
      doubt = h.doubt;
      fates = h.fates;
      awaits = h.awaits;
    }

    -- those of this one
    own_posted : a ≡ i → other_end a e ≡ j → ((p : UserPacket) (tx : TxHead) → IsOfChannel d zs p tx → CanSend h.world now p tx) → IsLinked (after (Some e)) i j ch d peer
    own_posted own into_j can = record {
      world = g.world;
      reached = g.reached;
      channel = g.same.channel ∙ h.channel;
      connected = g.same.connected ∙ h.connected;
      rows = rows_over d peer (manager_at c.network i).state.outs h.world g.world g.same.committed g.same.expired g.same.offered g.same.acknowledged h.rows;
      committed = g.same.committed ∙ h.committed;
      expired = g.same.expired ∙ h.expired;
      decided = subst (λ ds. ShowsDestination ch (manager_at c.network j).state.ins (written_of j c.written) ds) (sym g.same.decided) h.decided;
      number = h.number;
      standing = h.standing;
      packets = split_shown g.world.connection g.world.transfers old new;
      transfers_sent = posted_sent i j d c.network.notes c.sent zs (note_by a now e) h.world.transfers g.world.transfers noted own into_j g.only h.transfers_sent;
      acks_sent = subst (AreAcksSent i j notes (c.sent ++ zs)) (sym g.same.order_acks)
          (acks_still i j c.network.notes (replicate (length zs) (note_by a now e)) c.sent zs h.world.order_acks h.acks_sent);
      finals_sent = finals_now e g.world (finals_of g.world g.same.committed g.same.final_acks);
      receipts = split_told g.world.connection g.world.order_acks (subst (λ acks. ShowsReceipts i j ch (written_of j c.written) c.network.notes c.sent h.number g.world.connection acks) (sym g.same.order_acks)
          (subst (λ n. ShowsReceipts i j ch (written_of j c.written) c.network.notes c.sent h.number n h.world.order_acks) (sym g.same.connection) h.receipts))
          (λ p inside t is from into. absurd (apart (sym own ∙ from)));
      doubt = doubt (doubt_of (manager_at c.network j).condition) h.doubt;
      fates = subst (λ ds. ArePutsTold (lines_written c.written) ds g.world.fates) (sym g.same.decided)
          (subst (ArePutsTold (lines_written c.written) h.world.decided) (sym g.same.fates) h.fates);
      awaits = subst (λ acks. AwaitsIn d acks g.world.connection (manager_at c.network i)) (sym g.same.order_acks)
          (subst (λ n. AwaitsIn d h.world.order_acks n (manager_at c.network i)) (sym g.same.connection) h.awaits);
    }
      where
        g : AreSentOn d ch h.world now zs
        g = send_on d ch now h.world zs h.reached can

        old : ShowsPackets i j d c.network.notes c.sent h.number g.world.connection g.world.transfers
        old k note p tx x f t sender receiver to = let q = h.packets k note p tx x f t sender receiver to in (q.0, g.same.more q.0 q.1, q.2, λ same. q.3 same ∙ sym g.same.connection)

        new : (p : UserPacket) (tx : TxHead) → In (packet.User p) zs → p.tx ≡ Some tx → a ≡ i → other_end a e ≡ j → p.message.destination ≡ d
            → IsShownAs (note_by a now e) p tx g.world.connection g.world.transfers
        new p tx inside t from into to = let q = g.sent p tx (inside, t, to) in
            (q.transfer, q.there, record { head = q.head; message = q.message; sent_at = q.sent_at }, λ same. q.connection ∙ sym g.same.connection)

        doubt : (x : Option Record) → IfSome x (MayRule ch h.world.transfers h.world.connection) → IfSome x (MayRule ch g.world.transfers g.world.connection)
        doubt None y = tt
        doubt (Some r) y = subst (λ n. MayRule ch g.world.transfers n r) (sym g.same.connection) (may_more ch h.world.transfers g.world.transfers h.world.connection g.same.more r y)

    -- those that go back
    back_posted : a ≡ j → other_end a e ≡ i → ((p : UserPacket) → In (packet.User p) zs → p.tx ≡ None → is_order_ack p.message ≡ true → Tells ch (written_of j c.written) h.world.decided p) → IsLinked (after (Some e)) i j ch d peer
    back_posted from into_i tells = record {
      world = g.world;
      reached = g.reached;
      channel = g.same.channel ∙ h.channel;
      connected = g.same.connected ∙ h.connected;
      rows = rows_over d peer (manager_at c.network i).state.outs h.world g.world g.same.committed g.same.expired g.same.offered g.same.acknowledged h.rows;
      committed = g.same.committed ∙ h.committed;
      expired = g.same.expired ∙ h.expired;
      decided = subst (λ ds. ShowsDestination ch (manager_at c.network j).state.ins (written_of j c.written) ds) (sym g.same.decided) h.decided;
      number = h.number;
      standing = h.standing;
      packets = split_shown g.world.connection g.world.transfers (subst (λ ts. ShowsPackets i j d c.network.notes c.sent h.number g.world.connection ts) (sym g.same.transfers)
          (subst (λ n. ShowsPackets i j d c.network.notes c.sent h.number n h.world.transfers) (sym g.same.connection) h.packets))
          (λ p tx inside t own into to. absurd (apart (sym own ∙ from)));
      transfers_sent = subst (AreTransfersSent i j d notes (c.sent ++ zs)) (sym g.same.transfers)
          (sent_still i j d c.network.notes (replicate (length zs) (note_by a now e)) c.sent zs h.world.transfers h.transfers_sent);
      acks_sent = acks_posted i j c.network.notes c.sent zs (note_by a now e) h.world.order_acks g.world.order_acks noted from into_i g.only h.acks_sent;
      finals_sent = finals_now e g.world (finals_of g.world g.same.committed g.same.final_acks);
      receipts = split_told g.world.connection g.world.order_acks old new;
      doubt = subst (λ ts. IfSome (doubt_of (manager_at c.network j).condition) (MayRule ch ts g.world.connection)) (sym g.same.transfers)
          (subst (λ n. IfSome (doubt_of (manager_at c.network j).condition) (MayRule ch h.world.transfers n)) (sym g.same.connection) h.doubt);
      fates = subst (λ ds. ArePutsTold (lines_written c.written) ds g.world.fates) (sym g.same.decided)
          (subst (ArePutsTold (lines_written c.written) h.world.decided) (sym g.same.fates) h.fates);
      awaits = subst (λ n. AwaitsIn d g.world.order_acks n (manager_at c.network i)) (sym g.same.connection)
          (awaits_more d h.world.order_acks g.world.order_acks h.world.connection (manager_at c.network i) g.same.more h.awaits);
    }
      where
        g : IsToldOn ch h.world zs
        g = told_on ch h.world zs h.reached h.connected

        old : ShowsReceipts i j ch (written_of j c.written) c.network.notes c.sent h.number g.world.connection g.world.order_acks
        old k note p x f t is sender receiver = let q = h.receipts k note p x f t is sender receiver in record {
          position = q.position;
          spelled = q.spelled;
          of = q.of;
          source = q.source;
          decided = q.decided;
          shown = λ same. let y = q.shown same in (y.0, g.same.more y.0 y.1, y.2, λ now. y.3 now ∙ sym g.same.connection);
        }

        new : (p : UserPacket) → In (packet.User p) zs → p.tx ≡ None → is_order_ack p.message ≡ true → a ≡ j → other_end a e ≡ i
            → IsReceipt ch (written_of j c.written) (note_by a now e) p h.number g.world.connection g.world.order_acks
        new p inside t is own into = let q = tells p inside t is in record {
          position = q.position;
          spelled = q.spelled;
          of = q.of;
          source = q.source;
          decided = q.decided;
          shown = λ same. let y = g.told q.position (record { user = p; there = inside; plain = t; acks = is; spelled = q.spelled }) (q.last same) in (y.0, y.1, y.2, λ now. y.3 ∙ sym g.same.connection);
        }

  pub posted_linked : (a ≡ i → (p : UserPacket) (tx : TxHead) → IsOfChannel d zs p tx → CanSend h.world now p tx)
      → (a ≡ j → (p : UserPacket) → In (packet.User p) zs → p.tx ≡ None → is_order_ack p.message ≡ true → Tells ch (written_of j c.written) h.world.decided p)
      → IsLinked (posted a now zs c) i j ch d peer
  posted_linked can tells = at (connection_of c.network a)
    where
      none : IsLinked (after None) i j ch d peer
      none = record {
        world = h.world;
        reached = h.reached;
        channel = h.channel;
        connected = h.connected;
        rows = h.rows;
        committed = h.committed;
        expired = h.expired;
        decided = h.decided;
        number = h.number;
        standing = h.standing;
        packets = none_shown;
        transfers_sent = sent_behind i j d c.network.notes c.sent zs h.world.transfers h.transfers_sent;
        acks_sent = acks_behind i j c.network.notes c.sent zs h.world.order_acks h.acks_sent;
        finals_sent = finals_behind i j h.world.committed c.network.notes c.sent zs h.world.final_acks h.finals_sent;
        receipts = none_told;
        doubt = h.doubt;
        fates = h.fates;
        awaits = h.awaits;
      }

      by : (e : Connection) → (p : Bool) → (a == i) ≡ p → (q : Bool) → (other_end a e == j) ≡ q → (r : Bool) → (a == j) ≡ r → (s : Bool) → (other_end a e == i) ≡ s → IsLinked (after (Some e)) i j ch d peer
      by e true f true g r k s l = own_posted e (equal_numbers a i f) (equal_numbers (other_end a e) j g) (can (equal_numbers a i f))
      by e true f false g r k s l = other_posted e (λ from into. apart_numbers (other_end a e) j g into) (λ from into. apart (sym (equal_numbers a i f) ∙ from))
      by e false f q g true k true l = back_posted e (equal_numbers a j k) (equal_numbers (other_end a e) i l) (tells (equal_numbers a j k))
      by e false f q g true k false l = other_posted e (λ from into. apart_numbers a i f from) (λ from into. apart_numbers (other_end a e) i l into)
      by e false f q g false k s l = other_posted e (λ from into. apart_numbers a i f from) (λ from into. apart_numbers a j k from)

      at : (o : Option Connection) → IsLinked (after o) i j ch d peer
      at None = none
      at (Some e) = by e (a == i) refl (other_end a e == j) refl (a == j) refl (other_end a e == i) refl
