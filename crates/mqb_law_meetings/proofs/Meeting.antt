-- How a meeting begins: behind `connect` both ends are ready, and nothing else has changed.
use Rattle.std.proofs.Common.{◌≡◌, ℕ, ◌<◌, ◌==◌, ◌||◌, Bool, true, false, ◌++◌, List, [], ◌∷◌, Option, Some, refl, sym, ap, subst, ◌∙◌}
use Rattle.std.specs.Prelude.{length, slice_get}
use Rattle.std.proofs.lemmas.List.{append_assoc}
use Rattle.mqb_base.specs.declared.ids.Identity.{Identity}
use Rattle.mqb_model.specs.calls.Link.{link}
use Rattle.mqb_model.specs.calls.pump.Pump.{PumpOutcome, pump}
use Rattle.mqb_model.specs.declared.answers.Role.TheVariants as end
use Rattle.mqb_model.specs.managers.Manager.{Manager, unlinked}
use Rattle.mqb_model.specs.managers.Outcomes.{succeeded}
use Rattle.mqb_model.specs.records.Record.{Record}
use Rattle.mqb_model.specs.state.Resolving.{peer_known}
use Rattle.mqb_model.specs.state.State.{State}
use Rattle.mqb_network.specs.Changes.{connection_to}
use Rattle.mqb_network.specs.Choices.{Well}
use Rattle.mqb_network.specs.Connecting.{asking, both_linked, exchanged, linked_as, linked_to, set_up}
use Rattle.mqb_network.specs.Courses.{Course, Written, moved, written_by}
use Rattle.mqb_network.specs.Network.{Connection, Network, is_connected, is_end, manager_at}
use Rattle.mqb_network.specs.Sending.{flow}
use Rattle.mqb_packet.specs.declared.packet.Packet.{Packet}
use Rattle.mqb_packet.specs.declared.packet.Packet.TheVariants as packet
use Rattle.mqb_session.specs.Phases.{own_parameters}
use Rattle.mqb_session.specs.State.{new_acceptor, new_initiator}
use Rattle.mqb_session.specs.declared.phase.Phase.{Phase}
use Rattle.mqb_session.specs.declared.phase.Phase.TheVariants as phase
use Rattle.mqb_law_meetings.proofs.Lists.{found_last, other_numbers, same_number, set_length}
use Rattle.mqb_law_meetings.proofs.Setting as one
use Rattle.mqb_law_meetings.proofs.Setting.{Hears, Pumps, linked_with, sends_nothing}
use Rattle.mqb_law_meetings.proofs.Standing.{Keeps, Stands, behind, elsewhere, flow_none, flow_one, keeps_behind, keeps_none, stands_behind, stands_none, there_at, turned}

-- A flow of one packet, without a record.

record Flows (c z : Course) (i j : ℕ) (d : Connection) (ni nj : Manager) (p : Packet) : Type 0 where
  stands : Stands z.network i j d ni nj
  keeps : Keeps c z i j (p ∷ []) []

flow_quiet : (c z : Course) (i j now : ℕ) (d : Connection) (mi mj ni nj : Manager) (p : Packet) → z ≡ (flow i now Well c).after → Stands c.network i j d mi mj
    → Pumps mi now p ni → Hears mj p now nj → Flows c z i j d ni nj p
flow_quiet c z i j now d mi mj ni nj p is h pumps hears =
    subst (λ (y : Course). Flows c y i j d ni nj p) (sym (is ∙ flow_one c i j now d mi mj h p 1 pumps.answer pumps.packets hears.stands))
    (record { stands = stands; keeps = keeps })
  where
    stands : Stands (behind c i j now d mi mj h p).network i j d ni nj
    stands = subst (λ (m : Manager). Stands (behind c i j now d mi mj h p).network i j d m nj) pumps.after
        (subst (λ (m : Manager). Stands (behind c i j now d mi mj h p).network i j d (succeeded mi (pump mi now)) m) hears.after
        (stands_behind c i j now d mi mj h p))

    keeps : Keeps c (behind c i j now d mi mj h p) i j (p ∷ []) []
    keeps = subst (λ (o : Option Record). Keeps c (behind c i j now d mi mj h p) i j (p ∷ []) (written_by i mi o ++ [])) pumps.entry
        (subst (λ (o : Option Record). Keeps c (behind c i j now d mi mj h p) i j (p ∷ []) (written_by i mi (pump mi now).entry ++ written_by j mj o)) hears.entry
        (keeps_behind c i j now d mi mj h p))

-- one behind another
pub keeps_then : (c y z : Course) (i j : ℕ) (ps qs : List Packet) (ws vs : List Written) → Keeps c y i j ps ws → Keeps y z i j qs vs → Keeps c z i j (ps ++ qs) (ws ++ vs)
keeps_then c y z i j ps qs ws vs one two = record {
  others = λ x not_i not_j. two.others x not_i not_j ∙ one.others x not_i not_j;
  count = two.count ∙ one.count;
  connections = two.connections ∙ one.connections;
  sent = two.sent ∙ ap (λ xs. xs ++ qs) one.sent ∙ append_assoc c.sent ps qs;
  written = two.written ∙ ap (λ xs. xs ++ vs) one.written ∙ append_assoc c.written ws vs;
}

keeps_turned : (c z : Course) (i j : ℕ) (ps : List Packet) (ws : List Written) → Keeps c z i j ps ws → Keeps c z j i ps ws
keeps_turned c z i j ps ws h = record {
  others = λ x not_j not_i. h.others x not_i not_j;
  count = h.count;
  connections = h.connections;
  sent = h.sent;
  written = h.written;
}

-- A flow of none.

pub record Idles (c z : Course) (i j : ℕ) (d : Connection) (mi mj : Manager) : Type 0 where
  pub stands : Stands z.network i j d mi mj
  pub keeps : Keeps c z i j [] []

pub flow_idle : (c z : Course) (i j now : ℕ) (d : Connection) (mi mj : Manager) → z ≡ (flow i now Well c).after → Stands c.network i j d mi mj
    → pump mi now ≡ sends_nothing mi → succeeded mi (sends_nothing mi) ≡ mi → Idles c z i j d mi mj
flow_idle c z i j now d mi mj is h idle same =
    subst (λ (y : Course). Idles c y i j d mi mj) (sym (is ∙ flow_none c i j now d mi mj h 0 (ap (λ (o : PumpOutcome). o.answer) idle) (ap (λ (o : PumpOutcome). o.packets) idle)))
    (record {
      stands = stands_none c i j now d mi mj h (ap (succeeded mi) idle ∙ same);
      keeps = keeps_none c i j now d mi mj h (ap (λ (o : PumpOutcome). o.entry) idle);
    })

-- Two managers are linked, and set a session up.

-- two managers that are up and know each other, and have no connection
pub record ArePartners (n : Network) (a b : ℕ) (s t : State) : Type 0 where
  pub apart : a ≡ b → ⊥
  pub at_a : manager_at n a ≡ unlinked s
  pub at_b : manager_at n b ≡ unlinked t
  pub in_a : a < length n.managers
  pub in_b : b < length n.managers
  pub free_a : is_connected n a ≡ false
  pub free_b : is_connected n b ≡ false
  pub place_a : ℕ
  pub place_b : ℕ
  pub peer : Identity
  pub knows : peer_known s t.identity.guid ≡ Some place_a
  pub there : slice_get s.peers place_a ≡ Some peer
  pub is : peer.guid ≡ t.identity.guid
  pub known : peer_known t s.identity.guid ≡ Some place_b
  pub peer_b : Identity
  pub there_b : slice_get t.peers place_b ≡ Some peer_b

module _ (n : Network) (a b now window_a window_b : ℕ) (s t : State) (h : ArePartners n a b s t) where
  -- both ends, in these phases, and with what they know of the other's window
  abbrev pub asking_with : Phase → ℕ → Manager
  asking_with p window = linked_with s (Some (one.asking_in s t h.place_a h.place_b h.peer h.knows h.there h.is h.known now window_a window_b p window))

  abbrev pub asked_with : Phase → ℕ → Manager
  asked_with p window = linked_with t (Some (one.asked_in s t h.place_a h.place_b h.peer h.knows h.there h.is h.known now window_a window_b p window))

  abbrev pub asks : Manager
  asks = linked_with s (Some (new_initiator s.identity.guid t.identity.guid window_a))

  abbrev pub waits : Manager
  waits = linked_with t (Some (new_acceptor t.identity.guid window_b))

  abbrev said : Packet
  said = packet.Establish (one.said s t h.place_a h.place_b h.peer h.knows h.there h.is h.known now window_a window_b)

  -- the four packets
  abbrev pub went : List Packet
  went = ((said ∷ []) ++ said ∷ []) ++ (packet.Parameters (own_parameters window_a) ∷ []) ++ packet.Parameters (own_parameters window_b) ∷ []

  -- four flows
  module _ (c one_on two_on three_on ready : Course) (d : Connection) (is_1 : one_on ≡ (flow a now Well c).after) (is_2 : two_on ≡ (flow b now Well one_on).after)
      (is_3 : three_on ≡ (flow a now Well two_on).after) (is_4 : ready ≡ (flow b now Well three_on).after) (begins : Stands c.network a b d asks waits) where
    flow_1 : Flows c one_on a b d (asking_with phase.WaitEstablish 0) (asked_with phase.OweEstablish 0) said
    flow_1 = flow_quiet c one_on a b now d asks waits (asking_with phase.WaitEstablish 0) (asked_with phase.OweEstablish 0) said is_1 begins
        (one.asks_pumps s t h.place_a h.place_b h.peer h.knows h.there h.is h.known now window_a window_b)
        (one.asked_hears s t h.place_a h.place_b h.peer h.knows h.there h.is h.known now window_a window_b)

    flow_2 : Flows one_on two_on b a d (asked_with phase.WaitParameters 0) (asking_with phase.OweParameters 0) said
    flow_2 = flow_quiet one_on two_on b a now d (asked_with phase.OweEstablish 0) (asking_with phase.WaitEstablish 0) (asked_with phase.WaitParameters 0) (asking_with phase.OweParameters 0) said is_2
        (turned one_on.network a b d (asking_with phase.WaitEstablish 0) (asked_with phase.OweEstablish 0) flow_1.stands)
        (one.asked_pumps s t h.place_a h.place_b h.peer h.knows h.there h.is h.known now window_a window_b)
        (one.asks_hears s t h.place_a h.place_b h.peer h.knows h.there h.is h.known now window_a window_b)

    flow_3 : Flows two_on three_on a b d (asking_with phase.WaitParameters 0) (asked_with phase.OweParameters window_a) (packet.Parameters (own_parameters window_a))
    flow_3 = flow_quiet two_on three_on a b now d (asking_with phase.OweParameters 0) (asked_with phase.WaitParameters 0) (asking_with phase.WaitParameters 0) (asked_with phase.OweParameters window_a)
        (packet.Parameters (own_parameters window_a)) is_3
        (turned two_on.network b a d (asked_with phase.WaitParameters 0) (asking_with phase.OweParameters 0) flow_2.stands)
        (one.asks_tells s t h.place_a h.place_b h.peer h.knows h.there h.is h.known now window_a window_b)
        (one.asked_is_told s t h.place_a h.place_b h.peer h.knows h.there h.is h.known now window_a window_b)

    flow_4 : Flows three_on ready b a d (asked_with phase.Ready window_a) (asking_with phase.Ready window_b) (packet.Parameters (own_parameters window_b))
    flow_4 = flow_quiet three_on ready b a now d (asked_with phase.OweParameters window_a) (asking_with phase.WaitParameters 0) (asked_with phase.Ready window_a) (asking_with phase.Ready window_b)
        (packet.Parameters (own_parameters window_b)) is_4
        (turned three_on.network a b d (asking_with phase.WaitParameters 0) (asked_with phase.OweParameters window_a) flow_3.stands)
        (one.asked_tells s t h.place_a h.place_b h.peer h.knows h.there h.is h.known now window_a window_b)
        (one.asks_is_told s t h.place_a h.place_b h.peer h.knows h.there h.is h.known now window_a window_b)

    pub ends_ready : Stands ready.network a b d (asking_with phase.Ready window_b) (asked_with phase.Ready window_a)
    ends_ready = turned ready.network b a d (asked_with phase.Ready window_a) (asking_with phase.Ready window_b) flow_4.stands

    pub keeps_ready : Keeps c ready a b went []
    keeps_ready = keeps_then c two_on ready a b ((said ∷ []) ++ said ∷ []) ((packet.Parameters (own_parameters window_a) ∷ []) ++ packet.Parameters (own_parameters window_b) ∷ []) [] []
        (keeps_then c one_on two_on a b (said ∷ []) (said ∷ []) [] [] flow_1.keeps (keeps_turned one_on two_on b a (said ∷ []) [] flow_2.keeps))
        (keeps_then two_on three_on ready a b (packet.Parameters (own_parameters window_a) ∷ []) (packet.Parameters (own_parameters window_b) ∷ []) [] [] flow_3.keeps
        (keeps_turned three_on ready b a (packet.Parameters (own_parameters window_b) ∷ []) [] flow_4.keeps))

module _ (c : Course) (a b now window_a window_b : ℕ) (s t : State) (h : ArePartners c.network a b s t) where
  abbrev first : Network
  first = linked_to a b window_a c.network

  abbrev both : Network
  both = linked_as b end.Acceptor window_b first

  abbrev pub between : Connection
  between = connection_to both a b

  abbrev begins : Course
  begins = moved (both_linked a b window_a window_b) c

  abbrev asks_now : Manager
  asks_now = asks c.network a b now window_a window_b s t h

  abbrev waits_now : Manager
  waits_now = waits c.network a b now window_a window_b s t h

  abbrev asked_a : Manager
  asked_a = succeeded (manager_at c.network a) (link (manager_at c.network a) (asking (manager_at c.network a).state (manager_at c.network b).state.identity.guid) window_a)

  first_a : manager_at first a ≡ asks_now
  first_a = there_at c.network a asked_a h.in_a
      ∙ ap (λ (m : Manager). succeeded m (link m (asking m.state (manager_at c.network b).state.identity.guid) window_a)) h.at_a
      ∙ ap (λ (m : Manager). succeeded (unlinked s) (link (unlinked s) (asking s m.state.identity.guid) window_a)) h.at_b
      ∙ one.link_asking s t h.place_a h.place_b h.peer h.knows h.there h.is h.known now window_a window_b

  first_b : manager_at first b ≡ unlinked t
  first_b = elsewhere c.network a b asked_a h.apart ∙ h.at_b

  in_first : length first.managers ≡ length c.network.managers
  in_first = set_length c.network.managers a asked_a

  abbrev asked_b : Manager
  asked_b = succeeded (manager_at first b) (link (manager_at first b) end.Acceptor window_b)

  both_a : manager_at both a ≡ asks_now
  both_a = elsewhere first b a asked_b (λ e. h.apart (sym e)) ∙ first_a

  both_b : manager_at both b ≡ waits_now
  both_b = there_at first b asked_b (subst (λ k. b < k) (sym in_first) h.in_b)
      ∙ ap (λ (m : Manager). succeeded m (link m end.Acceptor window_b)) first_b
      ∙ one.link_asked s t h.place_a h.place_b h.peer h.knows h.there h.is h.known now window_a window_b

  in_both : length both.managers ≡ length c.network.managers
  in_both = set_length first.managers b asked_b ∙ in_first

  either_end : (x : Bool) → (x || true) ≡ true
  either_end true = refl
  either_end false = refl

  begins_stands : Stands begins.network a b between asks_now waits_now
  begins_stands = record {
    apart = h.apart;
    at_i = both_a;
    at_j = both_b;
    in_i = subst (λ k. a < k) (sym in_both) h.in_a;
    in_j = subst (λ k. b < k) (sym in_both) h.in_b;
    of_i = found_last (is_end a) c.network.connections between h.free_a (rw (same_number a) refl);
    of_j = found_last (is_end b) c.network.connections between h.free_b (rw (same_number b) (either_end (a == b)));
    other_i = rw (same_number a) refl;
    other_j = rw (other_numbers a b h.apart) refl;
  }

  abbrev pub ready_on : Course
  ready_on = set_up a b now begins

  pub ready_stands : Stands ready_on.network a b between (asking_with c.network a b now window_a window_b s t h phase.Ready window_b)
      (asked_with c.network a b now window_a window_b s t h phase.Ready window_a)
  ready_stands = ends_ready c.network a b now window_a window_b s t h begins (flow a now Well begins).after (exchanged a b now begins)
      (flow a now Well (exchanged a b now begins)).after ready_on between refl refl refl refl begins_stands

  pub ready_keeps : Keeps begins ready_on a b (went c.network a b now window_a window_b s t h) []
  ready_keeps = keeps_ready c.network a b now window_a window_b s t h begins (flow a now Well begins).after (exchanged a b now begins)
      (flow a now Well (exchanged a b now begins)).after ready_on between refl refl refl refl begins_stands

  -- other managers stay
  pub ready_others : (v : ℕ) → (a ≡ v → ⊥) → (b ≡ v → ⊥) → manager_at ready_on.network v ≡ manager_at c.network v
  ready_others v not_a not_b = ready_keeps.others v not_a not_b ∙ elsewhere first b v asked_b not_b ∙ elsewhere c.network a v asked_a not_a
