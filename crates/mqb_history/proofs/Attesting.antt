-- An order acknowledgement that a source hears is one of the present connection.
use Rattle.std.proofs.Common.{ap, sym, subst, ◌∙◌}
use Rattle.std.specs.List.{list_any}
use Rattle.std.specs.Prelude.{◌+◌, ◌==◌, ◌≡◌, ◌≤◌, List, Some, true, ℕ}
use Rattle.mqb_base.specs.declared.ids.Guid.{Guid}
use Rattle.mqb_base.specs.declared.ids.Identity.{Identity}
use Rattle.mqb_base.specs.declared.ids.SequenceId.{SequenceId}
use Rattle.mqb_base.specs.declared.queue_names.QueueName.{QueueName}
use Rattle.mqb_exactly_once.specs.Words.{In}
use Rattle.mqb_exactly_once.specs.World.{Channel, OrderAck, Position}
use Rattle.mqb_model.specs.declared.limits.TheConstants.{MAX_NUMBER}
use Rattle.mqb_network.specs.Courses.{Course}
use Rattle.mqb_network.specs.Laws.{AreApart}
use Rattle.mqb_network.specs.Network.{Connection, Note, is_underway, manager_at}
use Rattle.mqb_orders.specs.Rows.{Row}
use Rattle.mqb_packet.specs.declared.packet.Packet.{Packet}
use Rattle.mqb_packet.specs.declared.packet.Packet.TheVariants as packet
use Rattle.mqb_queue.specs.Places.{numbered}
use Rattle.mqb_history.specs.Acked.{IsDecidedThere, LeadsTo, SpellsDecided}
use Rattle.mqb_history.specs.Decided.{decisions, written_of}
use Rattle.mqb_history.specs.Led.{IsLedTo}
use Rattle.mqb_history.specs.Shown.{IsReceipt}
use Rattle.mqb_history.proofs.Acknowledged.{acknowledging}
use Rattle.mqb_history.proofs.Answering.{IsCredible, sound_of}
use Rattle.mqb_history.proofs.Between.{AreEnds, any_in, ends_turn}
use Rattle.mqb_history.proofs.Catching.{note_in}
use Rattle.mqb_history.proofs.Crediting.{IsAckOf, IsSound, ack_of, only_row}
use Rattle.mqb_history.proofs.Finishing.{MayAck}
use Rattle.mqb_history.proofs.Led.{where_led}
use Rattle.mqb_history.proofs.Linked.{IsLinked}
use Rattle.mqb_history.proofs.Lists.{equal_numbers, split_and}
use Rattle.mqb_history.proofs.Recorded.{IsAckHeard}
use Rattle.mqb_history.proofs.Storing.{KeepsStorage}

module _ (known : List Identity) (apart : AreApart known) (c : Course) (i j : ℕ) (ch : Channel) (d : QueueName) (peer : ℕ) (credible : IsCredible known c) (k : KeepsStorage c)
    (own : (manager_at c.network i).state.identity.guid ≡ ch.source) (leads : ch.destination ≡ d)
    (decider_is : (row : Row) (n : ℕ) → row.peer ≡ peer → (there : IsDecidedThere c i row n) → there.decider ≡ j) (h : IsLinked c i j ch d peer) where
  pub heard_ack : (n : ℕ) (note : Note) (x : Packet) → numbered c.network.notes n ≡ Some note → numbered c.sent n ≡ Some x → is_underway c.network note ≡ true → note.receiver ≡ i
      → (ordinal number : ℕ) → IsAckHeard (manager_at c.network i).state.identity.guid x ordinal number → MayAck d h.world.order_acks h.world.connection (manager_at c.network i).state.outs ordinal number
  heard_ack n note x e f underway receiver ordinal number a row inside same to = (y.0, y.1, y.2 ∙ second.place ∙ ap (λ m. record { sequence = row.sequence; number = m }) (sym a.number_is), y.3 present)
    where
      sound : IsSound known c
      sound = sound_of known c credible

      guid : Guid
      guid = (manager_at c.network i).state.identity.guid

      bounded : (manager_at c.network i).state.next_number ≤ MAX_NUMBER + 1
      bounded = (credible.honest.managers i).knows.bounded

      sent : numbered c.sent n ≡ Some (packet.User a.given)
      sent = f ∙ ap (λ z. Some z) a.heard

      ordinals : row.sequence.ordinal ≡ a.ack.sequence.ordinal
      ordinals = same ∙ a.ordinal_is

      -- its sender decided that of the row
      spells : SpellsDecided c note.sender a.given
      spells = (acknowledging known apart c credible n note a.given e sent a.plain).order a.kind

      first : IsAckOf known apart c sound i note.sender row a.given.to spells.destination spells.position a.ack.number
      first = ack_of known apart c sound i note.sender row a.given.to a.given.message.body spells.destination spells.position a.ack a.to bounded inside spells.spelled a.read spells.decided ordinals

      decided : In spells.position (decisions (record { source = guid; destination = row.destination }) (written_of note.sender c.written))
      decided = subst (λ z. In spells.position (decisions z (written_of note.sender c.written))) first.channel spells.decided

      led : IsLedTo c i first.commitment note.sender
      led = where_led known apart c credible i note.sender first.commitment first.there
          (subst (λ z. In first.commitment.position (decisions (record { source = guid; destination = z }) (written_of note.sender c.written))) (sym first.leads)
          (subst (λ q. In q (decisions (record { source = guid; destination = row.destination }) (written_of note.sender c.written))) (sym first.committed) decided))

      same_row : led.row ≡ row
      same_row = only_row known apart c sound i led.row row led.there inside (ap (λ (q : SequenceId). q.ordinal) (led.sequence ∙ ap (λ (q : Position). q.sequence) (first.committed ∙ first.place)))

      sender : note.sender ≡ j
      sender = decider_is row a.ack.number (h.rows.peers row inside to) (record {
        decider = note.sender;
        leads = subst (λ z. LeadsTo c i z note.sender) same_row led.leads;
        decided = subst (λ q. In q (decisions (record { source = guid; destination = row.destination }) (written_of note.sender c.written))) first.place decided;
      })

      -- so it is a receipt of this channel
      q : IsReceipt ch (written_of j c.written) note a.given h.number h.world.connection h.world.order_acks
      q = h.receipts n note a.given e sent a.plain a.kind sender receiver

      second : IsAckOf known apart c sound i j row a.given.to q.of.destination q.position a.ack.number
      second = ack_of known apart c sound i j row a.given.to a.given.message.body q.of.destination q.position a.ack a.to bounded inside q.spelled a.read
          (subst (λ g. In q.position (decisions (record { source = g; destination = q.of.destination }) (written_of j c.written))) q.source q.decided) ordinals

      channel : q.of ≡ ch
      channel = ap (λ g. record { source = g; destination = q.of.destination }) q.source ∙ second.channel ∙ ap (λ g. record { source = g; destination = row.destination }) own
          ∙ ap (λ z. record { source = ch.source; destination = z }) (to ∙ sym leads)

      y : (z : OrderAck) × In z h.world.order_acks × (z.position ≡ q.position) × (note.connection ≡ h.number → z.connection ≡ h.world.connection)
      y = q.shown channel

      stands : (z : Connection) × In z c.network.connections × ((z.number == note.connection) ≡ true)
      stands = any_in (λ (z : Connection). z.number == note.connection) c.network.connections (split_and _ (list_any (λ (z : Connection). z.number == note.connection) c.network.connections) underway).1

      ends : AreEnds stands.0 i j
      ends = ends_turn stands.0 j i (subst (λ b. AreEnds stands.0 b i) sender (subst (AreEnds stands.0 note.sender) receiver (k.ends note (note_in c.network.notes n note e) stands.0 stands.1
          (equal_numbers stands.0.number note.connection stands.2))))

      present : note.connection ≡ h.number
      present = sym (equal_numbers stands.0.number note.connection stands.2) ∙ h.standing stands.0 stands.1 ends
