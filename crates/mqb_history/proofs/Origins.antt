-- Each ordinary message that is not express was sent as it is.
use Rattle.std.proofs.Common.{refl, ap, sym, subst, ◌∙◌, inl, inr}
use Rattle.std.specs.List.{AllByRecursion, flat_map}
use Rattle.std.specs.Prelude.{[], ◌++◌, ◌==◌, ◌∷◌, ◌≡◌, ◌⊎◌, Bool, List, None, Option, Some, false, filter_map, map, true, unwrap_or, ℕ}
use Rattle.mqb_base.specs.declared.ids.Guid.{Guid}
use Rattle.mqb_base.specs.declared.ids.Identity.{Identity}
use Rattle.mqb_base.specs.declared.message.Lane.TheVariants as lane
use Rattle.mqb_base.specs.declared.message.Message.{Message}
use Rattle.mqb_exactly_once.specs.Words.{In}
use Rattle.mqb_fate.specs.Asking.{is_ordinary}
use Rattle.mqb_model.specs.managers.Manager.{Manager}
use Rattle.mqb_model.specs.records.Commit.{sends_of}
use Rattle.mqb_model.specs.records.Record.{Part, Record}
use Rattle.mqb_model.specs.records.Record as entry
use Rattle.mqb_model.specs.state.Places.{is_express}
use Rattle.mqb_model.specs.state.State.{State}
use Rattle.mqb_network.specs.Choices.{Failure}
use Rattle.mqb_network.specs.Courses.{Course, Written}
use Rattle.mqb_network.specs.Doubts.{settled}
use Rattle.mqb_network.specs.Laws.{AreApart}
use Rattle.mqb_network.specs.Network.{manager_at, nobody}
use Rattle.mqb_network.specs.Runs.{IsRun, Move, after_run}
use Rattle.mqb_orders.specs.declared.kept.Kept.{Kept}
use Rattle.mqb_packet.specs.declared.packet.Packet.TheVariants as packet
use Rattle.mqb_packet.specs.declared.packet.UserPacket.{UserPacket}
use Rattle.mqb_plain.specs.Plain.{PlainLists}
use Rattle.mqb_queue.specs.Lists.{Lists}
use Rattle.mqb_queue.specs.Places.{Places, Queue, numbered}
use Rattle.mqb_model.specs.calls.Call.{Pump, outcome_of}
use Rattle.mqb_history.specs.Changes.{Calls, Change, Hears, Pumps, changed, given_out, may_change}
use Rattle.mqb_history.specs.Sent.{AreAsSent, IsOneOf, all_sends, sends_in}
use Rattle.mqb_history.specs.Truths.{all_of, for_peer, held, in_places, in_queue, in_row, message_in}
use Rattle.mqb_history.proofs.Accounts.{HeardBy, PartFrom}
use Rattle.mqb_history.proofs.Agreeing.{IsAgreed, agreeing_closed, begins_agreeing}
use Rattle.mqb_history.proofs.Between.{in_either}
use Rattle.mqb_history.proofs.Bringing.{Brings, IsBrought, pumped_brings}
use Rattle.mqb_history.proofs.Committing.{all_in, in_append, in_end}
use Rattle.mqb_history.proofs.Containing.{IsFine, PartFine, beginning_holds, record_holds}
use Rattle.mqb_history.proofs.Contents.{Holds, InLane, IsCarried, ListsHold, PlainHolds, RowHolds, always_carried, holds_weaker}
use Rattle.mqb_history.proofs.Courses.{HeardIn}
use Rattle.mqb_history.proofs.Gone.{calling_sent, hearing_sent}
use Rattle.mqb_history.proofs.Having.{PlacesHave, QueueHas}
use Rattle.mqb_history.proofs.Keeping.{IsClosed}
use Rattle.mqb_history.proofs.Later.{change_written}
use Rattle.mqb_history.proofs.Leads.{AreLed, led_by_records}
use Rattle.mqb_history.proofs.Lists.{all_append, all_weaker, clash}
use Rattle.mqb_history.proofs.Noticed.{all_flat, all_got, all_messages, flat_in, in_flat, message_is, told_from}
use Rattle.mqb_history.proofs.Outside.{filtered_in}
use Rattle.mqb_history.proofs.Runs.{always_kept}
use Rattle.mqb_history.proofs.Sparing.{all_of as all_from}
use Rattle.mqb_history.proofs.Steady.{IsSteady, OfExpress, change_steady}
use Rattle.mqb_history.proofs.Written.{begins_with}

-- What is held.

module _ (P : Message → Type 0) where
  lists_all : (l : Lists) → ListsHold P l → AllByRecursion P (all_of l)
  lists_all l h = all_append P l.durable l.express (all_weaker (InLane P lane.Durable) P (λ m g. g.0) l.durable h.0) (all_weaker (InLane P lane.Express) P (λ m g. g.0) l.express h.1)

  queue_all : (q : Queue) → QueueHas (ListsHold P) q → AllByRecursion P (in_queue q)
  queue_all q h = all_append P (all_of q.lists) (all_of q.journal) (lists_all q.lists h.0) (lists_all q.journal h.1)

  places_all : (p : Places) → PlacesHave (ListsHold P) p → AllByRecursion P (in_places p)
  places_all p h = all_append P (flat_map in_queue p.queues ++ all_of p.dead ++ all_of p.dead_xact) (all_of p.journal)
      (all_append P (flat_map in_queue p.queues ++ all_of p.dead) (all_of p.dead_xact)
      (all_append P (flat_map in_queue p.queues) (all_of p.dead)
      (all_flat P in_queue p.queues (all_weaker (QueueHas (ListsHold P)) (λ q. AllByRecursion P (in_queue q)) queue_all p.queues h.queues))
      (lists_all p.dead h.dead)) (lists_all p.dead_xact h.dead_xact)) (lists_all p.journal h.journal)

  peer_all : (p : PlainLists) → PlainHolds P p → AllByRecursion P (for_peer p)
  peer_all p h = all_append P _ _ (all_messages P p.recoverable h.0) (all_messages P p.express h.1)

  row_all : (ks : List Kept) → AllByRecursion (λ (k : Kept). P k.message) ks → AllByRecursion P (map (λ k. k.message) ks)
  row_all [] h = tt
  row_all (k ∷ ks) h = (h.0, row_all ks h.1)

  pub held_all : (s : State) → Holds P s → AllByRecursion P (held s)
  held_all s h = all_append P (in_places s.places ++ flat_map for_peer s.plain) (flat_map in_row s.outs)
      (all_append P (in_places s.places) (flat_map for_peer s.plain) (places_all s.places h.places)
      (all_flat P for_peer s.plain (all_weaker (PlainHolds P) (λ p. AllByRecursion P (for_peer p)) peer_all s.plain h.plain)))
      (all_flat P in_row s.outs (all_weaker (RowHolds P) (λ row. AllByRecursion P (in_row row)) (λ row g. row_all row.kept g) s.outs h.outs))

-- Where the records are such, a manager's messages are.
abbrev Follows : (Message → Type 0) → ℕ → State → List Written → Type 0
Follows P i s ws = ((w : Written) → In w ws → IsFine P w.entry) → Holds P s

follows_steady : (P : Message → Type 0) → IsCarried (λ next. P) → OfExpress (λ next. P) → IsSteady (Follows P)
follows_steady P c express = record {
  quiet = λ i a b ws q h fine. q.2 (λ next. P) c express (h fine);
  grows = λ i s r ws made h fine. record_holds (λ next. P) c s r (fine (record { by = i; before = s; entry = r }) (in_end ws (record { by = i; before = s; entry = r })))
      (h (λ w inside. fine w (in_append ws (record { by = i; before = s; entry = r } ∷ []) w inside)));
}

-- What was sent.

abbrev pub IsSent : List Written → Message → Type 0
IsSent ws m = is_ordinary m ≡ true → is_express m.delivery ≡ false → IsOneOf (all_sends ws) m

sent_carried : (ws : List Written) → IsCarried (λ next. IsSent ws)
sent_carried ws = always_carried (IsSent ws) (λ m class d to id now o e g ordinary durable. absurd (clash (sym ordinary ∙ e)))

sent_brought : (ws : List Written) → IsBrought (IsSent ws)
sent_brought ws = record {
  acks = λ a host id now ordinary durable. absurd (clash (sym ordinary));
  left = λ m n g ordinary durable. let one = g ordinary durable in record { send = one.send; inside = one.inside; same = ap (λ (x : Message). record x { reach = n }) one.same };
}

sent_express : (ws : List Written) → OfExpress (λ next. IsSent ws)
sent_express ws next m e ordinary durable = absurd (clash (sym e ∙ durable))

sent_more : (ws more all : List Written) → all ≡ ws ++ more → (m : Message) → IsSent ws m → IsSent all m
sent_more ws more all e m g = λ ordinary durable. let one = g ordinary durable in let w = in_flat (λ (v : Written). sends_in v.entry) ws one.send one.inside in record {
  send = one.send;
  inside = subst (λ vs. In one.send (all_sends vs)) (sym e) (flat_in (λ (v : Written). sends_in v.entry) (ws ++ more) w.0 one.send (in_append ws more w.0 w.1) w.2);
  same = one.same;
}

-- what a record sends was sent
sends_are : (ws : List Written) (w : Written) → In w ws → (m : Message) → In m (sends_in w.entry) → IsSent ws m
sends_are ws w i m inside = λ ordinary durable. record { send = m; inside = flat_in (λ (v : Written). sends_in v.entry) ws w m i inside; same = refl }

-- Runs.

pub record AreSent (known : List Identity) (c : Course) : Type 0 where
  pub agreed : IsAgreed known c
  pub managers : (j : ℕ) → Holds (IsSent c.written) (manager_at c.network j).state
  pub packets : (p : UserPacket) → In (packet.User p) c.sent → IsSent c.written p.message

module _ (known : List Identity) (apart : AreApart known) (c : Course) (t : AreSent known c) (x : Change) (may : may_change c x ≡ true) where
  abbrev d : Course
  d = changed x c

  abbrev P : Message → Type 0
  P = IsSent d.written

  more : (m : Message) → IsSent c.written m → P m
  more m g = let grown = change_written c x in sent_more c.written grown.0 d.written grown.1 m g

  agreed_now : IsAgreed known d
  agreed_now = (agreeing_closed known apart).keeps c x may t.agreed

  same_packets : d.sent ≡ c.sent → (p : UserPacket) → In (packet.User p) d.sent → P p.message
  same_packets same p i = more p.message (t.packets p (subst (In (packet.User p)) same i))

  packets_now : (p : UserPacket) → In (packet.User p) d.sent → P p.message
  packets_now = by x refl
    where
      pumped : (i now : ℕ) (failure : Option Failure) (p : UserPacket) → In (packet.User p) (given_out (outcome_of (manager_at c.network i) (Pump now)) failure) → IsSent c.written p.message
      pumped i now None p inside = all_in (Brings (IsSent c.written)) (outcome_of (manager_at c.network i) (Pump now)).packets (packet.User p)
          (pumped_brings (IsSent c.written) (sent_brought c.written) (manager_at c.network i) (t.managers i) now) inside p refl
      pumped i now (Some how) p inside = absurd inside

      either : (i now : ℕ) (failure : Option Failure) (p : UserPacket) → In (packet.User p) c.sent ⊎ In (packet.User p) (given_out (outcome_of (manager_at c.network i) (Pump now)) failure) → IsSent c.written p.message
      either i now failure p (inl a) = t.packets p a
      either i now failure p (inr a) = pumped i now failure p a

      by : (y : Change) → y ≡ x → (p : UserPacket) → In (packet.User p) (changed y c).sent → P p.message
      by (Calls i call failure) e p inside = more p.message (t.packets p (subst (In (packet.User p)) (calling_sent i call failure c) inside))
      by (Pumps i now failure) e p inside = let out = given_out (outcome_of (manager_at c.network i) (Pump now)) failure in
          more p.message (either i now failure p (in_either c.sent out (packet.User p) (subst (λ xs. In (packet.User p) (xs ++ out)) (calling_sent i (Pump now) failure c) inside)))
      by (Hears k now failure) e p inside = more p.message (t.packets p (subst (In (packet.User p)) (hearing_sent (numbered c.network.notes k) (numbered c.sent k) now failure c) inside))
      by y e p inside = more p.message (t.packets p inside)

  -- each record is fine
  part_fine : (own : Guid) (part : Part) → PartFrom d.sent own part → PartFine P part
  part_fine own (entry.Decided p) h = packets_now p h.0
  part_fine own (entry.Stored p) h = packets_now p h.0
  part_fine own part h = tt

  record_fine : (own : Guid) (r : Record) → HeardBy d.sent own r → ((m : Message) → In m (sends_in r) → P m) → IsFine P r
  record_fine own (entry.Commit now ops) h sends = all_from P (sends_of ops) sends
  record_fine own (entry.Plain now p) h sends = sends p.message (inl refl)
  record_fine own (entry.Arrived now numbers part) h sends = part_fine own part h
  record_fine own r h sends = tt

  written_fine : (w : Written) → In w d.written → IsFine P w.entry
  written_fine w i = let heard = all_in (λ (v : Written). HeardIn known d.sent v.by v.entry) d.written w agreed_now.1.heard.written i in
      record_fine heard.0.guid w.entry heard.2 (sends_are d.written w i)

  change_sent : AreSent known d
  change_sent = record {
    agreed = agreed_now;
    managers = λ j. change_steady (Follows P) (follows_steady P (sent_carried d.written) (sent_express d.written)) known c x may t.agreed.0.0
        (λ k fine. holds_weaker (IsSent c.written) P more (manager_at c.network k).state (t.managers k)) j
        (λ w i. written_fine w (filtered_in (λ (v : Written). v.by == j) d.written w i));
    packets = packets_now;
  }

sent_closed : (known : List Identity) → AreApart known → IsClosed known (AreSent known)
sent_closed known apart = record { orderly = λ c t. t.agreed.0.0; keeps = λ c x may t. change_sent known apart c t x may }

pub always_sent : (known : List Identity) → AreApart known → (ms : List Move) → IsRun known ms → (kept : ℕ → Bool) → AreSent known (settled kept (after_run known ms))
always_sent known apart ms run kept = always_kept known (AreSent known) (sent_closed known apart) ms run kept (record {
  agreed = (begins_with known AreLed led_by_records, begins_agreeing known);
  managers = beginning_holds (IsSent []) known;
  packets = λ p inside. absurd inside;
})

pub noticed_sent : (known : List Identity) (c : Course) → AreSent known c → AreAsSent c
noticed_sent known c t m i ordinary durable = at (in_either (flat_map (λ (x : Manager). held x.state) c.network.managers) (filter_map message_in c.sent) m i) ordinary durable
  where
    managers : AllByRecursion (λ (x : Manager). AllByRecursion (IsSent c.written) (held x.state)) c.network.managers
    managers = all_got (λ (x : Manager). AllByRecursion (IsSent c.written) (held x.state)) c.network.managers (λ k x e.
        subst (λ (y : Option Manager). AllByRecursion (IsSent c.written) (held (unwrap_or y nobody).state)) e (held_all (IsSent c.written) (manager_at c.network k).state (t.managers k)))

    at : In m (flat_map (λ (x : Manager). held x.state) c.network.managers) ⊎ In m (filter_map message_in c.sent) → IsSent c.written m
    at (inl j) = all_in (IsSent c.written) (flat_map (λ (x : Manager). held x.state) c.network.managers) m (all_flat (IsSent c.written) (λ (x : Manager). held x.state) c.network.managers managers) j
    at (inr j) = let x = told_from message_in c.sent m j in let p = message_is x.0 m x.2 in subst (IsSent c.written) p.2 (t.packets p.0 (subst (λ y. In y c.sent) p.1 x.1))
