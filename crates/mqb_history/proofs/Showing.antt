-- Each channel is shown by a stream world that a run reaches.
use Rattle.mqb_packet.specs.declared.packet.Packet.TheVariants as packet
use Rattle.mqb_packet.specs.declared.packet.UserPacket.{UserPacket}
use Rattle.mqb_model.specs.calls.Call.{Pump, outcome_of}
use Rattle.mqb_history.specs.Acked.{IsDecidedThere, is_order_ack}
use Rattle.mqb_history.proofs.Spelling.{SpellsRow}
use Rattle.mqb_history.proofs.Receipting.{AreTelling}
use Rattle.std.proofs.Common.{refl, ap, sym, subst, ◌∙◌, inl, inr}
use Rattle.std.specs.List.{list_any}
use Rattle.std.specs.Prelude.{[], ◌-◌, ◌<◌, ◌==◌, ◌||◌, ◌∷◌, ◌≡◌, ◌⊎◌, Bool, IfSome, List, None, Option, Some, cond, false, option_map, slice_get, suc, true, unwrap_or, zero, ℕ}
use Rattle.mqb_base.specs.declared.ids.Identity.{Identity}
use Rattle.mqb_base.specs.declared.ledger.Line.{Line}
use Rattle.mqb_base.specs.declared.queue_names.QueueName.{QueueName}
use Rattle.mqb_exactly_once.specs.Runs.{IsRun, after}
use Rattle.mqb_exactly_once.specs.Steps.{Connect, End, happens}
use Rattle.mqb_exactly_once.specs.Words.{In}
use Rattle.mqb_exactly_once.specs.Outcomes.{Departure, Put}
use Rattle.mqb_exactly_once.specs.World.{Channel, Decision, KnownFate, StreamWorld, start}
use Rattle.mqb_model.specs.Lists.{first_where}
use Rattle.mqb_model.specs.managers.Manager.{Manager, doubt_of}
use Rattle.mqb_model.specs.state.Rows.{is_row_of}
use Rattle.mqb_model.specs.state.State.{State, empty}
use Rattle.mqb_network.specs.Courses.{Course}
use Rattle.mqb_network.specs.Laws.{AreApart, lines_written}
use Rattle.mqb_network.specs.Network.{Connection, Note, formatted, is_end, manager_at, nobody, others}
use Rattle.mqb_network.specs.Runs.{beginning}
use Rattle.mqb_queue.specs.Places.{numbered}
use Rattle.mqb_orders.specs.Rows.{Row}
use Rattle.mqb_history.specs.Committed.{commitments}
use Rattle.mqb_history.specs.Decided.{written_of}
use Rattle.mqb_history.specs.Fates.{ShowsFates, departure_line}
use Rattle.mqb_history.specs.Finals.{AreFatesTold, KnowsFate}
use Rattle.mqb_history.specs.Orderly.{IsItself, IsOrderly}
use Rattle.mqb_history.specs.Shown.{AreFinalsSent, CarriesFinal, Went, AreShown, AreAcksSent, AreTransfersSent, IsShown, Leads, Shows, ShowsDestination, ShowsFinals, ShowsPackets, ShowsReceipts, channel_of, decisions_made, fate_of, joins}
use Rattle.mqb_history.proofs.Answering.{IsCredible}
use Rattle.mqb_history.proofs.Between.{AreEnds}
use Rattle.mqb_history.proofs.Carrying.{IsCarrying, carrying_begins, carrying_closed}
use Rattle.mqb_history.proofs.Chained.{Route, change_linked, channel_on, route_apart}
use Rattle.mqb_history.proofs.Deciding.{joined_ins}
use Rattle.mqb_history.proofs.Enlisting.{leads_same}
use Rattle.mqb_history.proofs.Keeping.{IsClosed}
use Rattle.mqb_history.proofs.Acquainting.{TellFates, committed_to, finals_in, finals_known, finals_there, finals_went}
use Rattle.mqb_history.proofs.Linked.{IsAckedAt, IsLinked}
use Rattle.mqb_history.proofs.Receiving.{AreFinalsReceived}
use Rattle.mqb_history.proofs.Lists.{clash, equal_numbers, get_within, none_some, split_and, within_get}
use Rattle.mqb_history.proofs.Numbering.{joined_outs}
use Rattle.mqb_history.proofs.Orderly.{begins_orderly, map_get}
use Rattle.mqb_history.proofs.Reaching.{Reached, in_reverse, in_reversed}
use Rattle.mqb_history.proofs.Recording.{Awaits}
use Rattle.mqb_history.proofs.Ruling.{MayRule}
use Rattle.mqb_history.proofs.Settling.{ArePutsTold, final_only, final_told, finals_reached, settled, settled_reached, shows_fates, told_now, with_finals}
use Rattle.mqb_history.proofs.Sourcing.{AreRowsShown}
use Rattle.mqb_history.proofs.Storage.{IsStoring, begins_storing, storing_closed}

-- Where courses begin.

-- managers that begin have no rows
record HasNoRows (s : State) : Type 0 where
  pub outs : s.outs ≡ []
  pub ins : s.ins ≡ []

begun_rows : (known : List Identity) (i : ℕ) → HasNoRows (manager_at (beginning known).network i).state
begun_rows known i = subst (λ o. HasNoRows (unwrap_or o nobody).state) (sym (map_get (λ own. formatted own (others known own)) known i)) (at (slice_get known i))
  where
    at : (o : Option Identity) → HasNoRows (unwrap_or (option_map (λ own. formatted own (others known own)) o) nobody).state
    at None = record { outs = refl; ins = refl }
    at (Some own) = record { outs = joined_outs (empty own) (others known own); ins = joined_ins (empty own) (others known own) }

begun_doubt : (known : List Identity) (i : ℕ) → doubt_of (manager_at (beginning known).network i).condition ≡ None
begun_doubt known i = subst (λ o. doubt_of (unwrap_or o nobody).condition ≡ None) (sym (map_get (λ own. formatted own (others known own)) known i)) (at (slice_get known i))
  where
    at : (o : Option Identity) → doubt_of (unwrap_or (option_map (λ own. formatted own (others known own)) o) nobody).condition ≡ None
    at None = refl
    at (Some own) = refl

none_numbered : (k : ℕ) (note : Note) → numbered {X = Note} [] k ≡ Some note → ⊥
none_numbered zero note e = none_some e
none_numbered (suc k) note e = at (suc k == 0) e
  where
    at : (b : Bool) → cond b None (slice_get [] (suc k - 1)) ≡ Some note → ⊥
    at true f = none_some f
    at false f = none_some f

begins_linked : (known : List Identity) (i j : ℕ) (d : QueueName) (r : Route known i j d) → IsLinked (beginning known) i j (channel_on known i j d r) d r.peer
begins_linked known i j d r = record {
  world = happens (start ch) Connect;
  reached = record { steps = Connect ∷ []; run = (refl, tt); end = refl };
  channel = refl;
  connected = refl;
  rows = subst (λ outs. AreRowsShown d r.peer outs (happens (start ch) Connect)) (sym (begun_rows known i).outs)
      (record { rows = λ x inside. absurd inside; peers = λ x inside. absurd inside; rowed = λ x inside. absurd inside });
  committed = refl;
  expired = refl;
  decided = record { decisions = refl; row = ap (first_where (is_row_of ch.source ch.destination)) (begun_rows known j).ins };
  number = 0;
  standing = λ e inside. absurd inside;
  packets = λ k note p tx e. absurd (none_numbered k note e);
  transfers_sent = λ t inside. absurd inside;
  acks_sent = λ a inside. absurd inside;
  finals_sent = λ a inside. absurd inside;
  receipts = λ k note p e. absurd (none_numbered k note e);
  doubt = subst (λ o. IfSome o (MayRule ch [] 1)) (sym (begun_doubt known j)) tt;
  fates = λ p departure inside. absurd inside;
  awaits = subst (λ o. IfSome o (Awaits d [] 1 (manager_at (beginning known).network i).state.outs)) (sym (begun_doubt known i)) tt;
}
  where
    ch : Channel
    ch = channel_on known i j d r

-- What final acknowledgements tell of a channel.
tell_fates : (known : List Identity) (i j : ℕ) (d : QueueName) (r : Route known i j d) (c : Course) → IsOrderly known c → AreFatesTold c → TellFates c i j (channel_on known i j d r) d
tell_fates known i j d r c o finals k note p e f plain final sender receiver m inside to named = (knows.decision, there, knows.position, knows.fate)
  where
    knows : KnowsFate c i j m p.message.class
    knows = subst (λ n. KnowsFate c i n m p.message.class) sender (finals k note p e f plain final i m (λ n. route_apart known i j d r (n ∙ sender)) inside named)

    same : channel_of c.network i m.message.destination ≡ channel_on known i j d r
    same = ap (λ n. record { source = (manager_at c.network i).state.identity.guid; destination = n }) to
        ∙ ap (λ g. record { source = g; destination = d }) (ap (λ (x : Identity). x.guid) (subst (λ x. IfSome x (λ y. IsItself known y (manager_at c.network i).state)) r.own_there (o.themselves i)).identity)

    there : In knows.decision (decisions_made (channel_on known i j d r) (written_of j c.written))
    there = subst (λ z. In knows.decision (decisions_made z (written_of j c.written))) same knows.there

-- What holds of each course, where what is acknowledged was decided.
module _ (known : List Identity) (apart : AreApart known) (A : Course → Type 0) (closed : IsClosed known A)
    (acked : (c : Course) → A c → (i j : ℕ) (d : QueueName) (r : Route known i j d) → IsAckedAt c i j (channel_on known i j d r) d r.peer)
    (telling : (c : Course) → A c → (a : ℕ) → AreTelling (manager_at c.network a).state (written_of a c.written))
    (spells : (c : Course) → A c → (a now : ℕ) (p : UserPacket) → In (packet.User p) (outcome_of (manager_at c.network a) (Pump now)).packets → p.tx ≡ None → is_order_ack p.message ≡ true
    → SpellsRow (manager_at c.network a).state p.to p.message)
    (credible : (c : Course) → A c → IsCredible known c)
    (decider_is : (c : Course) → A c → (i j : ℕ) (d : QueueName) (r : Route known i j d) (row : Row) (n : ℕ) → row.peer ≡ r.peer → (there : IsDecidedThere c i row n) → there.decider ≡ j)
    (fates : (c : Course) → A c → AreFatesTold c) (received : (c : Course) → A c → AreFinalsReceived c) where
  pub record IsChained (c : Course) : Type 0 where
    pub carrying : IsCarrying known c
    pub storing : IsStoring known c
    pub acks : A c
    pub linked : (i j : ℕ) (d : QueueName) (r : Route known i j d) → IsLinked c i j (channel_on known i j d r) d r.peer

  pub chained_closed : IsClosed known IsChained
  chained_closed = record {
    orderly = λ c h. h.carrying.0.0;
    keeps = λ c x may h. let carrying = (carrying_closed known apart).keeps c x may h.carrying in let acks = closed.keeps c x may h.acks in record {
      carrying = carrying;
      storing = (storing_closed known apart).keeps c x may h.storing;
      acks = acks;
      linked = λ i j d r. change_linked known apart i j d r c h.carrying.0.0 h.carrying.0.1 h.carrying h.storing.1 (spells c h.acks) (credible c h.acks) (decider_is c h.acks i j d r) (received c h.acks) x may
          (acked _ acks i j d r) carrying.0.1 (telling _ acks) (tell_fates known i j d r _ carrying.0.0 (fates _ acks)) (h.linked i j d r);
    };
  }

  pub chained_begins : A (beginning known) → IsChained (beginning known)
  chained_begins a = record {
    carrying = carrying_begins known;
    storing = (begins_orderly known, begins_storing known);
    acks = a;
    linked = begins_linked known;
  }

-- Where a destination leads in a course, it leads always.

pub route_of : (known : List Identity) (c : Course) (i j : ℕ) (d : QueueName) → IsOrderly known c → Leads c.network i j d → Route known i j d
route_of known c i j d o h = record {
  own = own.0;
  other = other.0;
  own_there = own.1;
  other_there = other.1;
  peer = h.peer;
  target = leads_same (manager_at c.network i).state (record (empty own.0) { peers = others known own.0 }) d h.peer (record { identity = sym mine.identity; peers = sym mine.peers }) h.target;
  identity = ap (λ (ps : List Identity). option_map (λ (p : Identity). p.guid) (slice_get ps h.peer)) (sym mine.peers) ∙ h.identity ∙ ap (λ (x : Identity). Some x.guid) theirs.identity;
}
  where
    other : (x : Identity) × (slice_get known j ≡ Some x)
    other = within_get known j (subst (λ n. j < n) o.count h.there)

    own : (x : Identity) × (slice_get known i ≡ Some x)
    own = at (slice_get c.network.managers i) refl
      where
        none : slice_get c.network.managers i ≡ None → ⊥
        none e = none_some (sym (ap (λ (x : Option Manager). option_map (λ (p : Identity). p.guid) (slice_get (unwrap_or x nobody).state.peers h.peer)) e) ∙ h.identity)

        at : (x : Option Manager) → slice_get c.network.managers i ≡ x → (y : Identity) × (slice_get known i ≡ Some y)
        at None e = absurd (none e)
        at (Some m) e = within_get known i (subst (λ n. i < n) o.count (get_within c.network.managers i m e))

    mine : IsItself known own.0 (manager_at c.network i).state
    mine = subst (λ x. IfSome x (λ y. IsItself known y (manager_at c.network i).state)) own.1 (o.themselves i)

    theirs : IsItself known other.0 (manager_at c.network j).state
    theirs = subst (λ x. IfSome x (λ y. IsItself known y (manager_at c.network j).state)) other.1 (o.themselves j)

-- two managers that a connection joins are its ends
ends_of : (i j : ℕ) (e : Connection) → (i ≡ j → ⊥) → joins i j e ≡ true → AreEnds e i j
ends_of i j e differ h = at (e.first == i) refl (e.second == i) refl (e.first == j) refl (e.second == j) refl (split_and (is_end i e) (is_end j e) h).0 (split_and (is_end i e) (is_end j e) h).1
  where
    at : (p : Bool) → (e.first == i) ≡ p → (q : Bool) → (e.second == i) ≡ q → (r : Bool) → (e.first == j) ≡ r → (s : Bool) → (e.second == j) ≡ s → (p || q) ≡ true → (r || s) ≡ true → AreEnds e i j
    at true f q g true k s l x y = absurd (differ (sym (equal_numbers e.first i f) ∙ equal_numbers e.first j k))
    at true f q g false k true l x y = inl (sym (equal_numbers e.first i f), sym (equal_numbers e.second j l))
    at true f q g false k false l x y = absurd (clash (sym y))
    at false f true g true k s l x y = inr (sym (equal_numbers e.second i g), sym (equal_numbers e.first j k))
    at false f true g false k true l x y = absurd (differ (sym (equal_numbers e.second i g) ∙ equal_numbers e.second j l))
    at false f true g false k false l x y = absurd (clash (sym y))
    at false f false g r k s l x y = absurd (clash (sym x))

-- what left a queue left that of the manager which put it
abbrev pub LeaveTheirQueues : Course → Type 0
LeaveTheirQueues c = (j : ℕ) (channel : Channel) (x : Decision) (departure : Departure) → In x (decisions_made channel (written_of j c.written)) → x.outcome ≡ Put
    → In (departure_line departure x.message.id) (lines_written c.written) → In (departure_line departure x.message.id) (lines_written (written_of j c.written))

module _ (known : List Identity) (c : Course) (i j : ℕ) (d : QueueName) (o : IsOrderly known c) (r : Route known i j d) (leave : LeaveTheirQueues c) (finals : AreFatesTold c)
    (h : IsLinked c i j (channel_on known i j d r) d r.peer) where
  abbrev own_channel : Channel
  own_channel = channel_of c.network i d

  abbrev ch : Channel
  ch = channel_on known i j d r

  same : ch ≡ own_channel
  same = ap (λ g. record { source = g; destination = d }) (sym (ap (λ (x : Identity). x.guid) (subst (λ x. IfSome x (λ y. IsItself known y (manager_at c.network i).state)) r.own_there (o.themselves i)).identity))

  standing : (e : Connection) → In e c.network.connections → joins i j e ≡ true → e.number ≡ h.number
  standing e inside t = h.standing e inside (ends_of i j e (route_apart known i j d r) t)

  -- Whatever left its queue is known, and told.

  abbrev ledger : List Line
  ledger = lines_written (written_of j c.written)

  decided_in : (x : Decision) → In x h.world.decided → In x (decisions_made ch (written_of j c.written))
  decided_in x inside = in_reversed (decisions_made ch (written_of j c.written)) x (subst (In x) h.decided.decisions inside)

  puts_own : ArePutsTold ledger h.world.decided h.world.fates
  puts_own p departure inside = let x = h.fates p departure inside in
      record { decision = x.decision; there = x.there; position = x.position; put = x.put; told = leave j ch x.decision departure (decided_in x.decision x.there) x.put x.told }

  abbrev with_fates : StreamWorld
  with_fates = settled h.world ledger

  -- what was told, and nothing else
  abbrev told : List KnownFate
  told = finals_in i j h.world.committed c.network.notes c.sent

  abbrev world : StreamWorld
  world = with_finals with_fates told

  fates : ShowsFates ledger world.decided world.fates
  fates = shows_fates ch h.world ledger h.reached puts_own

  tell : TellFates c i j ch d
  tell = tell_fates known i j d r c o finals

  in_world : (x : Decision) → In x (decisions_made ch (written_of j c.written)) → In x h.world.decided
  in_world x inside = subst (In x) (sym h.decided.decisions) (in_reverse (decisions_made ch (written_of j c.written)) x inside)

  reached : Reached ch world
  reached = finals_reached ch with_fates (settled_reached ch h.world ledger h.reached) h.connected told
      (finals_known i j h.world.committed c ch d with_fates.fates tell (λ x inside. committed_to d (commitments (written_of i c.written)) x (subst (In x) h.committed inside))
      (λ x fate inside came. fates.known x fate (in_world x inside) came))

  finals_shown : ShowsFinals i j world.committed c.network.notes c.sent h.number world.connection world.final_acks
  finals_shown k note p x e f t is sender receiver inside named = (
    told_now world.connection fate,
    final_told with_fates told fate
        (finals_there i j h.world.committed c.network.notes c.sent k note p x e f t is sender receiver inside named),
    refl,
    refl,
    λ n. refl,
  )
    where
      fate : KnownFate
      fate = record { position = x.position; fate = fate_of p.message.class }

  finals_sent : AreFinalsSent i j world.committed c.network.notes c.sent world.final_acks
  finals_sent a inside = at (final_only with_fates told a inside)
    where
      at : ((f : KnownFate) × In f told × (told_now world.connection f ≡ a)) ⊎ In a h.world.final_acks → Went c.network.notes c.sent (CarriesFinal i j world.committed a)
      at (inl x) = subst (λ y. Went c.network.notes c.sent (CarriesFinal i j world.committed y)) x.2 (finals_went i j h.world.committed world.connection c.network.notes c.sent x.0 x.1)
      at (inr old) = h.finals_sent a old

  -- with the connection as it is
  shown_by : (w : StreamWorld) → w.channel ≡ h.world.channel → w.committed ≡ h.world.committed → w.expired ≡ h.world.expired → w.offered ≡ h.world.offered → w.acknowledged ≡ h.world.acknowledged
      → w.decided ≡ h.world.decided → w.fates ≡ world.fates → w.connection ≡ h.world.connection → w.transfers ≡ h.world.transfers → w.order_acks ≡ h.world.order_acks → w.final_acks ≡ world.final_acks
      → w.connected ≡ list_any (joins i j) c.network.connections → Shows c i j d w
  shown_by w channel committed expired offered acknowledged decided known_fates connection transfers order_acks final_acks connected = record {
    channel = channel ∙ h.channel ∙ same;
    at_source = record {
      commits = committed ∙ h.committed;
      expiries = expired ∙ h.expired;
      marks = λ x inside to. let g = h.rows.rows x inside to in record { offers = ap (λ marks. marks x.sequence) offered ∙ g.offered; acks = ap (λ marks. marks x.sequence) acknowledged ∙ g.acked };
    };
    at_destination = subst (λ ds. ShowsDestination own_channel (manager_at c.network j).state.ins (written_of j c.written) ds) (sym decided)
        (subst (λ (x : Channel). ShowsDestination x (manager_at c.network j).state.ins (written_of j c.written) h.world.decided) same h.decided);
    fates = subst (λ ds. ShowsFates ledger ds w.fates) (sym decided) (subst (ShowsFates ledger h.world.decided) (sym known_fates) fates);
    number = h.number;
    standing = standing;
    between = subst (λ ts. ShowsPackets i j d c.network.notes c.sent h.number w.connection ts) (sym transfers)
        (subst (λ n. ShowsPackets i j d c.network.notes c.sent h.number n h.world.transfers) (sym connection) h.packets);
    transfers_sent = subst (AreTransfersSent i j d c.network.notes c.sent) (sym transfers) h.transfers_sent;
    acks_sent = subst (AreAcksSent i j c.network.notes c.sent) (sym order_acks) h.acks_sent;
    back = subst (λ acks. ShowsReceipts i j own_channel (written_of j c.written) c.network.notes c.sent h.number w.connection acks) (sym order_acks)
        (subst (λ n. ShowsReceipts i j own_channel (written_of j c.written) c.network.notes c.sent h.number n h.world.order_acks) (sym connection)
        (subst (λ (x : Channel). ShowsReceipts i j x (written_of j c.written) c.network.notes c.sent h.number h.world.connection h.world.order_acks) same h.receipts));
    finals = subst (λ cs. ShowsFinals i j cs c.network.notes c.sent h.number w.connection w.final_acks) (sym committed)
        (subst (λ n. ShowsFinals i j h.world.committed c.network.notes c.sent h.number n w.final_acks) (sym connection)
        (subst (ShowsFinals i j h.world.committed c.network.notes c.sent h.number h.world.connection) (sym final_acks) finals_shown));
    finals_sent = subst (λ cs. AreFinalsSent i j cs c.network.notes c.sent w.final_acks) (sym committed) (subst (AreFinalsSent i j h.world.committed c.network.notes c.sent) (sym final_acks) finals_sent);
    connected = connected;
  }

  shown_from : IsRun own_channel reached.steps → after own_channel reached.steps ≡ world → IsShown c i j d
  shown_from run end = at (list_any (joins i j) c.network.connections) refl
    where
      at : (b : Bool) → list_any (joins i j) c.network.connections ≡ b → IsShown c i j d
      at true e = record {
        steps = reached.steps;
        run = run;
        shown = subst (Shows c i j d) (sym end) (shown_by world refl refl refl refl refl refl refl refl refl refl refl (h.connected ∙ sym e));
      }
      at false e = record {
        steps = End ∷ reached.steps;
        run = (tt, run);
        shown = subst (λ w. Shows c i j d (happens w End)) (sym end) (shown_by (happens world End) refl refl refl refl refl refl refl refl refl refl refl (sym e));
      }

  pub is_shown : IsShown c i j d
  is_shown = shown_from (subst (λ x. IsRun x reached.steps) same reached.run) (subst (λ x. after x reached.steps ≡ world) same reached.end)

-- each channel of a course
pub are_shown : (known : List Identity) (c : Course) → IsOrderly known c → LeaveTheirQueues c → AreFatesTold c → ((i j : ℕ) (d : QueueName) (r : Route known i j d) → IsLinked c i j (channel_on known i j d r) d r.peer) → AreShown c
are_shown known c o leave finals h i j d leads = let r = route_of known c i j d o leads in is_shown known c i j d o r leave finals (h i j d r)
