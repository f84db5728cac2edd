-- Every change keeps managers and packets in agreement with the ledger.
use Rattle.std.proofs.Common.{refl, ap, sym, subst, ◌∙◌, inl, inr}
use Rattle.std.specs.Prelude.{[], ◌-◌, ◌++◌, ◌==◌, ◌∷◌, ◌≡◌, ◌⊎◌, Bool, IfSome, List, None, Option, Some, cond, false, length, not, slice_get, true, unwrap_or, ◌<◌, ℕ}
use Rattle.mqb_base.specs.Same.{same_guid}
use Rattle.mqb_base.specs.declared.heads.TxHead.{TxHead}
use Rattle.mqb_base.specs.declared.ids.Guid.{Guid}
use Rattle.mqb_base.specs.declared.ids.Identity.{Identity}
use Rattle.mqb_base.specs.declared.ledger.Line.{Line}
use Rattle.mqb_exactly_once.specs.Words.{In}
use Rattle.mqb_model.specs.calls.Link.{unlink}
use Rattle.mqb_model.specs.declared.answers.Role.TheVariants as role
use Rattle.mqb_model.specs.managers.Manager.{Manager, doubt_of, is_down}
use Rattle.mqb_model.specs.managers.Outcomes.{Outcome, failed, recorded, succeeded}
use Rattle.mqb_model.specs.managers.Restarts.{restarted, unread}
use Rattle.mqb_model.specs.records.Record.{Part, Record}
use Rattle.mqb_model.specs.records.Record as entry
use Rattle.mqb_model.specs.state.State.{State}
use Rattle.mqb_network.specs.Changes.{ended, parted}
use Rattle.mqb_network.specs.Choices.{Failure}
use Rattle.mqb_network.specs.Connecting.{asking, linked_as}
use Rattle.mqb_network.specs.Courses.{Course, Written, posted, written_by}
use Rattle.mqb_network.specs.Laws.{AreApart, lines_written}
use Rattle.mqb_network.specs.Network.{Network, Note, manager_at, nobody, others, with_manager}
use Rattle.mqb_packet.specs.declared.packet.Packet.{Packet}
use Rattle.mqb_packet.specs.declared.packet.Packet.TheVariants as packet
use Rattle.mqb_packet.specs.declared.packet.UserPacket.{UserPacket}
use Rattle.mqb_queue.specs.Places.{numbered}
use Rattle.mqb_model.specs.calls.Call.{Answer, Call, Hear, Pump, outcome_of}
use Rattle.mqb_history.specs.Changes.{Calls, Change, Drops, Ends, Fails, Finds, Hears, Links, Pumps, Restarts, calling, changed, hearing, is_of_packets, may_change}
use Rattle.mqb_history.specs.Decided.{written_of}
use Rattle.mqb_history.specs.Orderly.{AreThemselves, IsItself, IsOrderly}
use Rattle.mqb_history.proofs.Accounted.{LeadsTo, Stands}
use Rattle.mqb_history.proofs.Accounts.{AllFair, CallSent, HeardBy, MayStill, MayWrite, PartFrom, StillMay, all_fair_more, befores, call_may, call_stands, lines_by, lines_if, parted_stands, past_if, recorded_stands, stands_written}
use Rattle.mqb_history.proofs.Applied.{durable_stands, packets_stand}
use Rattle.mqb_history.proofs.Beginning.{linked_condition, linked_same_state}
use Rattle.mqb_history.proofs.Between.{all_in, in_either}
use Rattle.mqb_history.proofs.Each.{EachRecord, each_change, each_weaker}
use Rattle.mqb_history.proofs.Ending.{parted_at}
use Rattle.mqb_history.proofs.Fates.{IsFair}
use Rattle.mqb_history.proofs.Knowing.{apart_guids}
use Rattle.mqb_history.proofs.Leads.{GoesAs, RowsLead}
use Rattle.mqb_history.proofs.Lists.{append_nothing, apart_numbers, clash, equal_numbers, get_in, get_within, none_some, not_true, split_and, within_get}
use Rattle.mqb_history.proofs.Names.{same_guid_refl}
use Rattle.mqb_history.proofs.Ordering.{with_at}
use Rattle.mqb_history.proofs.Packets.{IsRight, IsRightPacket, pumped_right}
use Rattle.mqb_history.proofs.Putting.{number_place}
use Rattle.mqb_history.proofs.Recorded.{IsPlainPacket}
use Rattle.mqb_history.proofs.Refusing.{down_changes_nothing, down_is_idle}
use Rattle.mqb_history.proofs.Storing.{up_doubt}
use Rattle.mqb_history.proofs.Written.{noted_managers}

-- a record in a course was heard by the manager that is known under its index
abbrev pub HeardIn : List Identity → List Packet → ℕ → Record → Type 0
HeardIn known sent i r = (own : Identity) × (slice_get known i ≡ Some own) × HeardBy sent own.guid r

-- a plain packet was sent by a manager
pub record HasSender (known : List Identity) (p : UserPacket) : Type 0 where
  pub sender : ℕ
  pub own : Identity
  pub there : slice_get known sender ≡ Some own
  pub source : p.message.id.qm ≡ own.guid

-- a packet of a stream was sent by a manager, to the peer to which its message leads
pub record GoesTo (known : List Identity) (p : UserPacket) : Type 0 where
  pub sender : ℕ
  pub own : Identity
  pub there : slice_get known sender ≡ Some own
  pub index : ℕ
  pub goes : GoesAs own (others known own) index p.message
  pub leads : LeadsTo (others known own) index p.to

-- each manager stands, and each packet is fair and has a sender
abbrev pub AllStand : List Identity → Network → List Packet → List Written → Type 0
AllStand known n sent ws = (i : ℕ) (own : Identity) → slice_get known i ≡ Some own → Stands (lines_written ws) (lines_written (written_of i ws)) (befores (written_of i ws)) sent (manager_at n i).state

pub record Agrees (known : List Identity) (c : Course) : Type 0 where
  pub stand : AllStand known c.network c.sent c.written
  pub fair : AllFair (lines_written c.written) c.sent
  pub senders : (p : UserPacket) → In (packet.User p) c.sent → IsPlainPacket p → HasSender known p
  pub streams : (p : UserPacket) → In (packet.User p) c.sent → (tx : TxHead) → p.tx ≡ Some tx → GoesTo known p
  pub heard : EachRecord (HeardIn known c.sent) c
  pub still : (i : ℕ) → StillMay (manager_at c.network i)

-- managers are who they are
pub record AreKnown (known : List Identity) (n : Network) : Type 0 where
  pub count : length n.managers ≡ length known
  pub themselves : AreThemselves known n

pub known_of : (known : List Identity) (c : Course) → IsOrderly known c → AreKnown known c.network
known_of known c o = record { count = o.count; themselves = o.themselves }

pub who_is : (known : List Identity) (c : Course) (i : ℕ) (own : Identity) → AreKnown known c.network → slice_get known i ≡ Some own → (manager_at c.network i).state.identity ≡ own
who_is known c i own o e = (subst (λ x. IfSome x (λ y. IsItself known y (manager_at c.network i).state)) e (o.themselves i)).identity

-- one that is not known is as if it were down
pub unknown_down : (known : List Identity) (n : Network) (i : ℕ) → AreKnown known n → slice_get known i ≡ None → is_down (manager_at n i) ≡ true
unknown_down known n i o e = at (slice_get n.managers i) refl
  where
    at : (x : Option Manager) → slice_get n.managers i ≡ x → is_down (manager_at n i) ≡ true
    at None f = ap (λ y. is_down (unwrap_or y nobody)) f
    at (Some m) f = let found = within_get known i (subst (λ k. i < k) o.count (get_within n.managers i m f)) in absurd (none_some (sym e ∙ found.1))

-- Doubts.

-- a manager in doubt makes no record, and the numbers of its sends are left
still_after : (m : Manager) (call : Call) → StillMay m → StillMay (succeeded m (outcome_of m call))
still_after m call h = at (is_down m) refl
  where
    at : (b : Bool) → is_down m ≡ b → StillMay (succeeded m (outcome_of m call))
    at false e = up_doubt m.condition _ e
    at true e = subst (λ (s : State). IfSome (doubt_of m.condition) (MayStill s.identity.guid s.next_number)) (sym (down_changes_nothing m call e)) h

still_parted : (m : Manager) → StillMay m → StillMay (parted m)
still_parted m h = at (is_down m) refl
  where
    at : (b : Bool) → is_down m ≡ b → StillMay (cond b m (succeeded m (unlink m)))
    at true e = h
    at false e = up_doubt m.condition _ e

-- Calls.

module _ (known : List Identity) (c : Course) (o : AreKnown known c.network) (h : Agrees known c) (i : ℕ) (call : Call) (sends : CallSent c.sent call) where
  abbrev m : Manager
  m = manager_at c.network i

  abbrev outcome : Outcome Answer
  outcome = outcome_of m call

  writes : MayWrite c.sent m call outcome.entry
  writes = call_may c.sent m call sends

  -- what it writes was heard
  pub call_heard : IfSome outcome.entry (HeardIn known c.sent i)
  call_heard = by (slice_get known i) refl
    where
      at : (own : Identity) → slice_get known i ≡ Some own → (r : Option Record) → IfSome r (HeardBy c.sent m.state.identity.guid) → IfSome r (HeardIn known c.sent i)
      at own e None g = tt
      at own e (Some r) g = (own, e, subst (λ (x : Identity). HeardBy c.sent x.guid r) (who_is known c i own o e) g)

      by : (x : Option Identity) → slice_get known i ≡ x → IfSome outcome.entry (HeardIn known c.sent i)
      by None e = subst (λ r. IfSome r (HeardIn known c.sent i)) (sym (down_is_idle m call (unknown_down known c.network i o e)).entry) tt
      by (Some own) e = at own e outcome.entry writes.heard

  well_stand : AllStand known (with_manager c.network i (succeeded m outcome)) c.sent (c.written ++ written_by i m outcome.entry)
  well_stand = stands_written known c.network o.count c.sent c.written i (succeeded m outcome) outcome.entry h.stand
      (λ own e. call_stands (lines_written c.written) (lines_written (written_of i c.written)) (befores (written_of i c.written)) c.sent m call h.fair sends (h.stand i own e))

  ill_stand : (own : Identity) (j : ℕ) → slice_get known j ≡ Some own
      → Stands (lines_written c.written) (lines_written (written_of j c.written)) (befores (written_of j c.written)) c.sent (manager_at (ended i (with_manager c.network i (failed m outcome))) j).state
  ill_stand own j e = parted_at (λ x. Stands (lines_written c.written) (lines_written (written_of j c.written)) (befores (written_of j c.written)) c.sent x.state) (with_manager c.network i (failed m outcome)) i j
      (λ x g. parted_stands (lines_written c.written) (lines_written (written_of j c.written)) (befores (written_of j c.written)) c.sent x g)
      (with_at (λ x. Stands (lines_written c.written) (lines_written (written_of j c.written)) (befores (written_of j c.written)) c.sent x.state) c.network i j (failed m outcome) (h.stand j own e)
      (λ same. subst (λ k. Stands (lines_written c.written) (lines_written (written_of j c.written)) (befores (written_of j c.written)) c.sent (manager_at c.network k).state) (sym same) (h.stand j own e)))

  pub call_stand : (failure : Option Failure) → AllStand known (calling i call failure c).network (calling i call failure c).sent (calling i call failure c).written
  call_stand None = well_stand
  call_stand (Some how) = λ j own e. ill_stand own j e

  pub call_fair : (failure : Option Failure) → AllFair (lines_written (calling i call failure c).written) c.sent
  call_fair None = subst (λ ls. AllFair ls c.sent) (sym (lines_by i m outcome.entry c.written)) (all_fair_more (lines_written c.written) (lines_if m.state outcome.entry) c.sent h.fair)
  call_fair (Some how) = h.fair

  pub call_still : (failure : Option Failure) (j : ℕ) → StillMay (manager_at (calling i call failure c).network j)
  call_still None j = with_at StillMay c.network i j (succeeded m outcome) (h.still j) (λ e. still_after m call (h.still i))
  call_still (Some how) j = parted_at StillMay (with_manager c.network i (failed m outcome)) i j still_parted (with_at StillMay c.network i j (failed m outcome) (h.still j) (λ e. writes.may))

  pub call_agrees : (failure : Option Failure) → Agrees known (calling i call failure c)
  call_agrees failure = record {
    stand = call_stand failure;
    fair = sent_same failure (call_fair failure);
    senders = λ p inside plain. h.senders p (same_sent failure p inside) plain;
    streams = λ p inside tx e. h.streams p (same_sent failure p inside) tx e;
    heard = each failure;
    still = call_still failure;
  }
    where
      sent_same : (f : Option Failure) → AllFair (lines_written (calling i call f c).written) c.sent → AllFair (lines_written (calling i call f c).written) (calling i call f c).sent
      sent_same None g = g
      sent_same (Some how) g = g

      same_sent : (f : Option Failure) (p : UserPacket) → In (packet.User p) (calling i call f c).sent → In (packet.User p) c.sent
      same_sent None p g = g
      same_sent (Some how) p g = g

      each : (f : Option Failure) → EachRecord (HeardIn known (calling i call f c).sent) (calling i call f c)
      each None = each_change (HeardIn known c.sent) c (Calls i call None) call_heard h.heard
      each (Some how) = each_change (HeardIn known c.sent) c (Calls i call (Some how)) call_heard h.heard

-- a call that has nothing to do with packets hears none
pub none_heard : (sent : List Packet) (call : Call) → is_of_packets call ≡ false → CallSent sent call
none_heard sent (Hear now p) e = absurd (clash e)
none_heard sent call e = tt

-- Packets join.

behind_in : (xs ys : List Packet) (x : Packet) → In x xs → In x (xs ++ ys)
behind_in [] ys x i = absurd i
behind_in (z ∷ xs) ys x (inl e) = inl e
behind_in (z ∷ xs) ys x (inr i) = inr (behind_in xs ys x i)

part_more : (sent more : List Packet) (own : Guid) (part : Part) → PartFrom sent own part → PartFrom (sent ++ more) own part
part_more sent more own entry.Nothing h = tt
part_more sent more own (entry.Decided p) h = (behind_in sent more (packet.User p) h.0, h.1)
part_more sent more own (entry.Stored p) h = (behind_in sent more (packet.User p) h.0, h.1, h.2)
part_more sent more own (entry.OrderAcknowledged ordinal number) h = tt
part_more sent more own (entry.Final p) h = (behind_in sent more (packet.User p) h.0, h.1, h.2, h.3)

heard_more : (sent more : List Packet) (own : Guid) (r : Record) → HeardBy sent own r → HeardBy (sent ++ more) own r
heard_more sent more own (entry.Arrived now numbers part) h = part_more sent more own part h
heard_more sent more own r h = tt

-- no two managers have one GUID
pub one_guid : (known : List Identity) (i j : ℕ) (a b : Identity) → AreApart known → slice_get known i ≡ Some a → slice_get known j ≡ Some b → a.guid ≡ b.guid → i ≡ j
one_guid known i j a b apart x y e = at (i == j) refl
  where
    at : (t : Bool) → (i == j) ≡ t → i ≡ j
    at true f = equal_numbers i j f
    at false f = absurd (clash (sym (subst (λ (g : Guid). same_guid b.guid g ≡ true) (sym e) (same_guid_refl b.guid))
        ∙ apart_guids known i j a b apart x y (apart_numbers i j f)))

module _ (known : List Identity) (apart : AreApart known) (c : Course) (o : AreKnown known c.network) (h : Agrees known c) (i now : ℕ) (rows : RowsLead (manager_at c.network i).state) where
  abbrev pumper : Manager
  pumper = manager_at c.network i

  abbrev packets : List Packet
  packets = (outcome_of pumper (Pump now)).packets

  abbrev all : List Line
  all = lines_written c.written

  abbrev mine : ℕ → List Line
  mine j = lines_written (written_of j c.written)

  abbrev past : ℕ → List State
  past j = befores (written_of j c.written)

  -- what goes
  pub goes : (own : Identity) (e : slice_get known i ≡ Some own) (p : UserPacket) → In (packet.User p) packets → IsRightPacket all (mine i) (past i) c.sent pumper (h.stand i own e) rows p
  goes own e p inside = all_in (IsRight all (mine i) (past i) c.sent pumper (h.stand i own e) rows) packets (packet.User p) (pumped_right all (mine i) (past i) c.sent pumper (h.stand i own e) rows now) inside p refl

  -- a manager that is not known gives nothing out
  pub none_given : slice_get known i ≡ None → packets ≡ []
  none_given e = (down_is_idle pumper (Pump now) (unknown_down known c.network i o e)).packets

  -- who sent it
  sender_of : (p : UserPacket) → In (packet.User p) packets → IsPlainPacket p → (own : Identity) × (slice_get known i ≡ Some own) × (p.message.id.qm ≡ own.guid)
  sender_of p inside plain = at (slice_get known i) refl
    where
      at : (x : Option Identity) → slice_get known i ≡ x → (own : Identity) × (slice_get known i ≡ Some own) × (p.message.id.qm ≡ own.guid)
      at None e = absurd (subst (In (packet.User p)) (none_given e) inside)
      at (Some own) e = (own, e, ((goes own e p inside).1 plain).0 ∙ ap (λ (x : Identity). x.guid) (who_is known c i own o e))

  -- and where one of a stream goes
  goes_to : (p : UserPacket) → In (packet.User p) packets → (tx : TxHead) → p.tx ≡ Some tx → GoesTo known p
  goes_to p inside tx f = at (slice_get known i) refl
    where
      at : (x : Option Identity) → slice_get known i ≡ x → GoesTo known p
      at None e = absurd (subst (In (packet.User p)) (none_given e) inside)
      at (Some own) e = let g = (goes own e p inside).2 tx f in let self = subst (λ x. IfSome x (λ y. IsItself known y pumper.state)) e (o.themselves i) in record {
        sender = i;
        own = own;
        there = e;
        index = g.0;
        goes = subst (λ x. GoesAs x (others known own) g.0 p.message) self.identity (subst (λ ps. GoesAs pumper.state.identity ps g.0 p.message) self.peers g.1);
        leads = subst (λ ps. LeadsTo ps g.0 p.to) self.peers g.2;
      }

  fair_now : (p : UserPacket) → In (packet.User p) packets → IsFair (λ l. In l all) p.message
  fair_now p inside = at (slice_get known i) refl
    where
      at : (x : Option Identity) → slice_get known i ≡ x → IsFair (λ l. In l all) p.message
      at None e = absurd (subst (In (packet.User p)) (none_given e) inside)
      at (Some own) e = (goes own e p inside).0

  own_stands : (own : Identity) → slice_get known i ≡ Some own → Stands all (mine i) (past i) (c.sent ++ packets) pumper.state
  own_stands own e = packets_stand all (mine i) (past i) c.sent pumper.state (h.stand i own e) packets (λ p inside qm plain. ((goes own e p inside).1 plain).1)

  stand_now : AllStand known c.network (c.sent ++ packets) c.written
  stand_now j own e = at (i == j) refl
    where
      at : (b : Bool) → (i == j) ≡ b → Stands all (mine j) (past j) (c.sent ++ packets) (manager_at c.network j).state
      at true f = subst (λ k. Stands all (mine k) (past k) (c.sent ++ packets) (manager_at c.network k).state) (equal_numbers i j f) (own_stands own (ap (slice_get known) (equal_numbers i j f) ∙ e))
      at false f = packets_stand all (mine j) (past j) c.sent (manager_at c.network j).state (h.stand j own e) packets (λ p inside qm plain. let sender = sender_of p inside plain in
          absurd (apart_numbers i j f (one_guid known i j sender.0 own apart sender.1 e (sym sender.2 ∙ qm ∙ ap (λ (x : Identity). x.guid) (who_is known c j own o e)))))

  -- they join the others
  abbrev pub with_packets : Course
  with_packets = record c { sent = c.sent ++ packets }

  pub packets_agree : Agrees known with_packets
  packets_agree = record {
    stand = stand_now;
    fair = λ p inside. fair_of p (in_either c.sent packets (packet.User p) inside);
    senders = λ p inside plain. senders_of p plain (in_either c.sent packets (packet.User p) inside);
    streams = λ p inside tx e. streams_of p tx e (in_either c.sent packets (packet.User p) inside);
    heard = grow (each_weaker (HeardIn known c.sent) (HeardIn known (c.sent ++ packets)) (λ j r g. (g.0, g.1, heard_more c.sent packets g.0.guid r g.2)) c h.heard);
    still = h.still;
  }
    where
      fair_of : (p : UserPacket) → In (packet.User p) c.sent ⊎ In (packet.User p) packets → IsFair (λ l. In l all) p.message
      fair_of p (inl g) = h.fair p g
      fair_of p (inr g) = fair_now p g

      senders_of : (p : UserPacket) → IsPlainPacket p → In (packet.User p) c.sent ⊎ In (packet.User p) packets → HasSender known p
      senders_of p plain (inl g) = h.senders p g plain
      senders_of p plain (inr g) = let s = sender_of p g plain in record { sender = i; own = s.0; there = s.1; source = s.2 }

      streams_of : (p : UserPacket) (tx : TxHead) → p.tx ≡ Some tx → In (packet.User p) c.sent ⊎ In (packet.User p) packets → GoesTo known p
      streams_of p tx e (inl g) = h.streams p g tx e
      streams_of p tx e (inr g) = goes_to p g tx e

      grow : EachRecord (HeardIn known (c.sent ++ packets)) c → EachRecord (HeardIn known (c.sent ++ packets)) with_packets
      grow g = record { written = g.written; doubts = g.doubts }

-- notes are nothing to it
noted_agrees : (known : List Identity) (c : Course) (n : Network) → n.managers ≡ c.network.managers → Agrees known c → Agrees known (record c { network = n })
noted_agrees known c n same h = record {
  stand = λ j own e. subst (λ ms. Stands (lines_written c.written) (lines_written (written_of j c.written)) (befores (written_of j c.written)) c.sent (unwrap_or (slice_get ms j) nobody).state) (sym same) (h.stand j own e);
  fair = h.fair;
  senders = h.senders;
  streams = h.streams;
  heard = record {
    written = h.heard.written;
    doubts = λ j. subst (λ ms. IfSome (doubt_of (unwrap_or (slice_get ms j) nobody).condition) (HeardIn known c.sent j)) (sym same) (h.heard.doubts j);
  };
  still = λ j. subst (λ ms. StillMay (unwrap_or (slice_get ms j) nobody)) (sym same) (h.still j);
}

pump_agrees : (known : List Identity) → AreApart known → (i now : ℕ) (failure : Option Failure) (c : Course) → AreKnown known c.network → RowsLead (manager_at c.network i).state → Agrees known c → Agrees known (changed (Pumps i now failure) c)
pump_agrees known apart i now None c o rows h = let packets = (outcome_of (manager_at c.network i) (Pump now)).packets in
    noted_agrees known (calling i (Pump now) None (record c { sent = c.sent ++ packets })) (posted i now packets (calling i (Pump now) None c)).network
    (noted_managers i now (length packets) (calling i (Pump now) None c).network)
    (call_agrees known (record c { sent = c.sent ++ packets }) o (packets_agree known apart c o h i now rows) i (Pump now) tt None)
pump_agrees known apart i now (Some how) c o rows h = noted_agrees known (record d { sent = d.sent ++ [] }) (posted i now [] d).network (noted_managers i now 0 d.network)
    (subst (λ xs. Agrees known (record d { sent = xs })) (sym (append_nothing d.sent)) (call_agrees known c o h i (Pump now) tt (Some how)))
  where
    d : Course
    d = calling i (Pump now) (Some how) c

-- Hears.

hears_agree : (known : List Identity) (c : Course) (k now : ℕ) (failure : Option Failure) (note : Option Note) (x : Option Packet) → numbered c.sent k ≡ x → AreKnown known c.network → Agrees known c
    → Agrees known (hearing note x now failure c)
hears_agree known c k now failure None x e o h = h
hears_agree known c k now failure (Some note) None e o h = h
hears_agree known c k now failure (Some note) (Some x) e o h = call_agrees known c o h note.receiver (Hear now x) (get_in c.sent (k - 1) x (number_place c.sent k x e).1) failure

-- Other changes.

-- one manager is another one, that stands as it did
alone_stand : (known : List Identity) (c : Course) (i : ℕ) (m : Manager) → AllStand known c.network c.sent c.written
    → ((own : Identity) → slice_get known i ≡ Some own → Stands (lines_written c.written) (lines_written (written_of i c.written)) (befores (written_of i c.written)) c.sent m.state) → AllStand known (with_manager c.network i m) c.sent c.written
alone_stand known c i m h new j own e = with_at (λ x. Stands (lines_written c.written) (lines_written (written_of j c.written)) (befores (written_of j c.written)) c.sent x.state) c.network i j m (h j own e)
    (λ same. subst (λ k. Stands (lines_written c.written) (lines_written (written_of k c.written)) (befores (written_of k c.written)) c.sent m.state) same (new own (ap (slice_get known) same ∙ e)))

pub change_agrees : (known : List Identity) → AreApart known → (c : Course) (x : Change) → may_change c x ≡ true → IsOrderly known c → ((i : ℕ) → RowsLead (manager_at c.network i).state) → Agrees known c → Agrees known (changed x c)
change_agrees known apart c (Calls i call failure) may o rows h = call_agrees known c (known_of known c o) h i call (none_heard c.sent call (not_true (is_of_packets call) (split_and (not (is_of_packets call)) _ may).0)) failure
change_agrees known apart c (Pumps i now failure) may o rows h = pump_agrees known apart i now failure c (known_of known c o) (rows i) h
change_agrees known apart c (Hears k now failure) may o rows h = hears_agree known c k now failure (numbered c.network.notes k) (numbered c.sent k) refl (known_of known c o) h
change_agrees known apart c (Links a b window_a window_b) may o rows h = record {
  stand = λ j own e. subst (Stands (lines_written c.written) (lines_written (written_of j c.written)) (befores (written_of j c.written)) c.sent) (sym (same j)) (h.stand j own e);
  fair = h.fair;
  senders = h.senders;
  streams = h.streams;
  heard = each_change (HeardIn known c.sent) c (Links a b window_a window_b) tt h.heard;
  still = λ j. subst (λ (s : State). IfSome (doubt_of (manager_at (changed (Links a b window_a window_b) c).network j).condition) (MayStill s.identity.guid s.next_number)) (sym (same j))
      (subst (λ y. IfSome (doubt_of y) (MayStill (manager_at c.network j).state.identity.guid (manager_at c.network j).state.next_number)) (sym (condition j)) (h.still j));
}
  where
    first : Network
    first = linked_as a (asking (manager_at c.network a).state (manager_at c.network b).state.identity.guid) window_a c.network

    same : (j : ℕ) → (manager_at (changed (Links a b window_a window_b) c).network j).state ≡ (manager_at c.network j).state
    same j = linked_same_state first b j role.Acceptor window_b ∙ linked_same_state c.network a j (asking (manager_at c.network a).state (manager_at c.network b).state.identity.guid) window_a

    condition : (j : ℕ) → (manager_at (changed (Links a b window_a window_b) c).network j).condition ≡ (manager_at c.network j).condition
    condition j = linked_condition first b j role.Acceptor window_b ∙ linked_condition c.network a j (asking (manager_at c.network a).state (manager_at c.network b).state.identity.guid) window_a
change_agrees known apart c (Ends i) may o rows h = record {
  stand = λ j own e. parted_at (λ x. Stands (lines_written c.written) (lines_written (written_of j c.written)) (befores (written_of j c.written)) c.sent x.state) c.network i j
      (λ x g. parted_stands (lines_written c.written) (lines_written (written_of j c.written)) (befores (written_of j c.written)) c.sent x g) (h.stand j own e);
  fair = h.fair;
  senders = h.senders;
  streams = h.streams;
  heard = each_change (HeardIn known c.sent) c (Ends i) tt h.heard;
  still = λ j. parted_at StillMay c.network i j still_parted (h.still j);
}
change_agrees known apart c (Drops k) may o rows h = record { stand = h.stand; fair = h.fair; senders = h.senders; streams = h.streams; heard = each_change (HeardIn known c.sent) c (Drops k) tt h.heard; still = h.still }
change_agrees known apart c (Restarts i) may o rows h = record {
  stand = alone_stand known c i (restarted (manager_at c.network i) false) h.stand
      (λ own e. durable_stands (lines_written c.written) (lines_written (written_of i c.written)) (befores (written_of i c.written)) c.sent (manager_at c.network i).state (h.stand i own e));
  fair = h.fair;
  senders = h.senders;
  streams = h.streams;
  heard = each_change (HeardIn known c.sent) c (Restarts i) tt h.heard;
  still = λ j. with_at StillMay c.network i j (restarted (manager_at c.network i) false) (h.still j) (λ e. tt);
}
change_agrees known apart c (Finds i) may o rows h = record {
  stand = stands_written known c.network o.count c.sent c.written i (restarted m true) (doubt_of m.condition) h.stand
      (λ own e. durable_stands (all ++ more) (lines_written (written_of i c.written) ++ more) (past_if (befores (written_of i c.written)) m.state (doubt_of m.condition)) c.sent (recorded m.state (doubt_of m.condition))
      (recorded_stands all (lines_written (written_of i c.written)) (befores (written_of i c.written)) c.sent m.state (doubt_of m.condition) h.fair (o.doubts i) (h.still i) heard_by (h.stand i own e)));
  fair = subst (λ ls. AllFair ls c.sent) (sym (lines_by i m (doubt_of m.condition) c.written)) (all_fair_more all more c.sent h.fair);
  senders = h.senders;
  streams = h.streams;
  heard = each_change (HeardIn known c.sent) c (Finds i) tt h.heard;
  still = λ j. with_at StillMay c.network i j (restarted m true) (h.still j) (λ e. tt);
}
  where
    m : Manager
    m = manager_at c.network i

    all : List Line
    all = lines_written c.written

    more : List Line
    more = lines_if m.state (doubt_of m.condition)

    heard_by : IfSome (doubt_of m.condition) (HeardBy c.sent m.state.identity.guid)
    heard_by = at (doubt_of m.condition) (h.heard.doubts i)
      where
        at : (x : Option Record) → IfSome x (HeardIn known c.sent i) → IfSome x (HeardBy c.sent m.state.identity.guid)
        at None g = tt
        at (Some r) g = subst (λ (y : Identity). HeardBy c.sent y.guid r) (sym (who_is known c i g.0 (known_of known c o) g.1)) g.2
change_agrees known apart c (Fails i) may o rows h = record {
  stand = alone_stand known c i (unread (manager_at c.network i)) h.stand
      (λ own e. durable_stands (lines_written c.written) (lines_written (written_of i c.written)) (befores (written_of i c.written)) c.sent (manager_at c.network i).state (h.stand i own e));
  fair = h.fair;
  senders = h.senders;
  streams = h.streams;
  heard = each_change (HeardIn known c.sent) c (Fails i) tt h.heard;
  still = λ j. with_at StillMay c.network i j (unread (manager_at c.network i)) (h.still j) (λ e. h.still i);
}
