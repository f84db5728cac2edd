-- Four packets set a session up, and none of them is recorded.
use Rattle.std.proofs.Common.{◌≡◌, ℕ, ◌+◌, Bool, true, false, List, [], ◌∷◌, ◌++◌, Option, Some}
use Rattle.std.proofs.Common.{None, Result, length, refl, sym, ap, subst, ◌∙◌, arith, length-append}
use Rattle.std.proofs.lemmas.List.{append-nil}
use Rattle.std.specs.Cmp.Lexicographic.{bytes_decides}
use Rattle.std.specs.Prelude.{◌&&◌, ◌||◌, if◌then◌else◌, is_none, is_some, option_map, position}
use Rattle.std.specs.Prelude.{slice_get, unwrap_or}
use Rattle.mqb_base.specs.Same.{same_guid}
use Rattle.mqb_base.specs.declared.heard.Heard.TheVariants.{SetUp}
use Rattle.mqb_base.specs.declared.ids.Guid.{Guid}
use Rattle.mqb_base.specs.declared.ids.Identity.{Identity}
use Rattle.mqb_base.specs.declared.ledger.Line.{Line}
use Rattle.mqb_model.specs.calls.Link.{link, link_refusal, linking, session_for}
use Rattle.mqb_model.specs.calls.hear.Hear.{hear}
use Rattle.mqb_model.specs.calls.hear.Session.{by_session, hear_set_up}
use Rattle.mqb_model.specs.calls.pump.Pump.{set_up_packet}
use Rattle.mqb_model.specs.declared.answers.Role.{Role}
use Rattle.mqb_model.specs.declared.answers.Role.TheVariants as role
use Rattle.mqb_model.specs.declared.faults.LinkFault.{LinkFault}
use Rattle.mqb_model.specs.declared.faults.LinkFault.TheVariants as link_fault
use Rattle.mqb_model.specs.managers.Manager.{Manager, is_down}
use Rattle.mqb_model.specs.managers.Outcomes.{Outcome, lines_after, succeeded, unless}
use Rattle.mqb_model.specs.state.Resolving.{peer_known}
use Rattle.mqb_model.specs.state.State.{State}
use Rattle.mqb_network.specs.Answers.{Answer}
use Rattle.mqb_network.specs.Choices.{Well}
use Rattle.mqb_network.specs.Connecting.{asking, both_linked, exchanged, set_up}
use Rattle.mqb_network.specs.Courses.{Course, Written}
use Rattle.mqb_network.specs.Network.{Connection, Network, Note}
use Rattle.mqb_network.specs.Sending.{flow}
use Rattle.mqb_packet.specs.declared.packet.Packet.{Packet}
use Rattle.mqb_script.specs.Managers.{other}
use Rattle.mqb_script.specs.declared.managers.Which.{Which}
use Rattle.mqb_script.specs.declared.managers.Which.TheVariants.{Alpha, Beta}
use Rattle.mqb_session.specs.Hearing.{after_owed, establish_after, on_establish}
use Rattle.mqb_session.specs.Hearing.{on_parameters, peer_after}
use Rattle.mqb_session.specs.Phases.{own_parameters, phase_after_establish}
use Rattle.mqb_session.specs.State as one_end
use Rattle.mqb_session.specs.State.{new_acceptor, new_initiator, no_guid}
use Rattle.mqb_setup.specs.declared.internal.Establish.{Establish}
use Rattle.mqb_setup.specs.declared.internal.Internal.TheVariants as part
use Rattle.mqb_traffic.specs.Networks as traffic
use Rattle.mqb_traffic.specs.Networks.{index_of}
use Rattle.mqb_traffic.specs.declared.notes.Link.{Link}
use Rattle.mqb_turns.specs.Passes.{course_in}
use Rattle.mqb_deliveries.specs.Peers.{KnowEachOther}
use Rattle.mqb_deliveries.specs.lemmas.Exchanging.{Exchanges, IsAt, exchanges, hears_so, network_as}
use Rattle.mqb_deliveries.specs.lemmas.Exchanging.{note_to, pair_of, turned}

-- The peers.

same_guids : (a : Guid) → same_guid a a ≡ true
same_guids a = (bytes_decides a.0 a.0).1 refl

abbrev peer_in : List Identity → Guid → Option ℕ
peer_in peers guid = position (λ p. same_guid p.guid guid) peers

peer_first : (g : Identity) → peer_in (g ∷ []) g.guid ≡ Some 0
peer_first g = let same : same_guid g.guid g.guid ≡ true = same_guids g.guid in rw same refl

-- a manager knows its only peer
knows : (s : State) (g : Identity) → s.peers ≡ g ∷ [] → peer_known s g.guid ≡ Some 0
knows s g only = ap (λ (ps : List Identity). peer_in ps g.guid) only ∙ peer_first g

-- and asks that one
pub asks_first : (s : State) (g : Identity) → s.peers ≡ g ∷ [] → asking s g.guid ≡ role.Initiator 0
asks_first s g only =
    ap (λ (o : Option ℕ). role.Initiator (unwrap_or o (length s.peers))) (knows s g only)

-- How a session begins.

-- no record is written
link_lines : (k m : Manager) (end : Role) (window : ℕ) → lines_after k (link m end window) ≡ []
link_lines k m end window = at (link_refusal m end window)
  where
    at : (o : Option LinkFault) → lines_after k (unless m o (linking m end window)) ≡ []
    at None = refl
    at (Some why) = refl

linked_at : (m : Manager) (end : Role) (window : ℕ) (x : one_end.State) → is_down m ≡ false
    → m.rest.session ≡ None → session_for m.state end window ≡ Some x
    → IsAt (succeeded m (link m end window)) m.state x
linked_at m end window x up free begins =
    subst (λ (q : Outcome (Result (Unit {0}) LinkFault)). IsAt (succeeded m q) m.state x)
    (sym link_is) (record { up = up; state = refl; session = begins })
  where
    link_is : link m end window ≡ linking m end window
    link_is = ap (λ (b : Bool). unless m
        (if b then Some link_fault.Down else if is_some m.rest.session then Some link_fault.Linked
        else if is_none (session_for m.state end window) then Some link_fault.NoPeer else None)
        (linking m end window)) up
        ∙ ap (λ (o : Option one_end.State). unless m (if is_some o then Some link_fault.Linked
        else if is_none (session_for m.state end window) then Some link_fault.NoPeer else None)
        (linking m end window)) free
        ∙ ap (λ (o : Option one_end.State). unless m
        (if is_none o then Some link_fault.NoPeer else None) (linking m end window)) begins

-- two managers without a connection
abbrev pub apart_as : Which → Manager → Manager → ℕ → List Note → List Line → Network
apart_as which m o k notes ledger = record {
  managers = pair_of which m o;
  connections = [];
  connected = k;
  notes = notes;
  ledger = ledger;
}

-- both are linked
abbrev pub asks : Manager → Manager → ℕ → Manager
asks m o window = succeeded m (link m (asking m.state o.state.identity.guid) window)

abbrev pub accepts : Manager → ℕ → Manager
accepts o window = succeeded o (link o role.Acceptor window)

abbrev begun_by : Which → ℕ → Link
begun_by which k = record { number = k + 1; initiator = which }

both_are : (which : Which) (m o : Manager) (k : ℕ) (notes : List Note) (ledger : List Line)
    (window_a window_b : ℕ)
    → both_linked (index_of which) (index_of (other which)) window_a window_b
    (apart_as which m o k notes ledger)
    ≡ network_as which (asks m o window_a) (accepts o window_b) (begun_by which k)
    (k + 1) notes ledger
both_are which m o k notes ledger window_a window_b = at which
    ∙ ap (λ (ls : List Line).
    network_as which (asks m o window_a) (accepts o window_b) (begun_by which k) (k + 1) notes
    ((ledger ++ ls) ++ lines_after o (link o role.Acceptor window_b)))
    (link_lines m m (asking m.state o.state.identity.guid) window_a)
    ∙ ap (λ (ls : List Line). network_as which (asks m o window_a) (accepts o window_b)
    (begun_by which k) (k + 1) notes ((ledger ++ []) ++ ls))
    (link_lines o o role.Acceptor window_b)
    ∙ ap
    (network_as which (asks m o window_a) (accepts o window_b) (begun_by which k) (k + 1) notes)
    (append-nil (ledger ++ []) ∙ append-nil ledger)
  where
    at : (w : Which) → both_linked (index_of w) (index_of (other w)) window_a window_b
        (apart_as w m o k notes ledger)
        ≡ network_as w (asks m o window_a) (accepts o window_b) (begun_by w k) (k + 1) notes
        ((ledger ++ lines_after m (link m (asking m.state o.state.identity.guid) window_a))
        ++ lines_after o (link o role.Acceptor window_b))
    at Alpha = refl
    at Beta = refl

-- The four packets.

-- an Establish is heard, which is the one that is wanted or another
abbrev on_wanted : Establish → Bool → one_end.State → one_end.State
on_wanted e wanted s = record s {
  phase = phase_after_establish s.phase s.role wanted;
  establish = establish_after s.phase s.role e s.establish;
  peer = peer_after s.phase s.role wanted e.client s.peer;
}

-- The session is set up, without a record.
pub record IsSetUp (which : Which) (now : ℕ) (before : Course) (count : ℕ) : Type 0 where
  pub written : (set_up (index_of which) (index_of (other which)) now before).written
      ≡ before.written
  pub notes : length (set_up (index_of which) (index_of (other which)) now before).network.notes
      ≡ count + 4
  pub stands : (set_up (index_of which) (index_of (other which)) now before).network.connections
      ≡ [] → ⊥

module _ (which : Which) (s t : State) (know : KnowEachOther s t) (l : Link)
    (k now window_a window_b : ℕ) (ledger : List Line) where
  abbrev client : Guid
  client = s.identity.guid

  abbrev server : Guid
  server = t.identity.guid

  abbrev e : Establish
  e = record { client = client; server = server; stamp = now; refused = false }

  -- the initiator, from phase to phase
  abbrev x0 : one_end.State
  x0 = new_initiator client server window_a

  abbrev x1 : one_end.State
  x1 = after_owed now x0

  abbrev x2 : one_end.State
  x2 = on_wanted e true x1

  abbrev x3 : one_end.State
  x3 = after_owed now x2

  -- and the acceptor
  abbrev y0 : one_end.State
  y0 = new_acceptor server window_b

  abbrev y1 : one_end.State
  y1 = on_wanted e true y0

  abbrev y2 : one_end.State
  y2 = after_owed now y1

  abbrev y3 : one_end.State
  y3 = on_parameters (own_parameters window_a) y2

  abbrev y4 : one_end.State
  y4 = after_owed now y3

  abbrev x4 : one_end.State
  x4 = on_parameters (own_parameters window_b) x3

  first_heard : (o : Manager) → IsAt o t y0
      → hear o (set_up_packet (part.Establish e)) now ≡ by_session o y1 SetUp
  first_heard o at = hears_so o t y0 (set_up_packet (part.Establish e)) now at
      ∙ ap (λ (b : Bool). hear_set_up o (on_establish e b y0)) known
      ∙ ap (λ (b : Bool). hear_set_up o (on_wanted e (b || same_guid server no_guid) y0))
      (same_guids server)
    where
      known : is_some (peer_known o.state client) ≡ true
      known = ap (λ (r : State). is_some (peer_known r client)) at.state
          ∙ ap is_some (knows t s.identity know.second)

  second_heard : (m : Manager) → IsAt m s x1
      → hear m (set_up_packet (part.Establish e)) now ≡ by_session m x2 SetUp
  second_heard m at = hears_so m s x1 (set_up_packet (part.Establish e)) now at
      ∙ ap (λ (b : Bool). hear_set_up m (on_wanted e (b && same_guid server server) x1))
      (same_guids client)
      ∙ ap (λ (b : Bool). hear_set_up m (on_wanted e b x1)) (same_guids server)

  third_heard : (o : Manager) → IsAt o t y2
      → hear o (set_up_packet (part.Parameters (own_parameters window_a))) now
      ≡ by_session o y3 SetUp
  third_heard o at =
      hears_so o t y2 (set_up_packet (part.Parameters (own_parameters window_a))) now at

  fourth_heard : (m : Manager) → IsAt m s x3
      → hear m (set_up_packet (part.Parameters (own_parameters window_b))) now
      ≡ by_session m x4 SetUp
  fourth_heard m at =
      hears_so m s x3 (set_up_packet (part.Parameters (own_parameters window_b))) now at

  module _ (m o : Manager) (notes : List Note) (sent : List Packet) (written : List Written)
      (m_at : IsAt m s x0) (o_at : IsAt o t y0) where
    abbrev there : Note
    there = note_to which now l

    abbrev back : Note
    back = note_to (other which) now l

    abbrev notes1 : List Note
    notes1 = notes ++ there ∷ []

    abbrev notes2 : List Note
    notes2 = notes1 ++ back ∷ []

    abbrev notes3 : List Note
    notes3 = notes2 ++ there ∷ []

    abbrev notes4 : List Note
    notes4 = notes3 ++ back ∷ []

    one : Exchanges which m o l k now notes ledger s t x1 y1 (set_up_packet (part.Establish e))
    one = exchanges which m o l k now notes ledger s t x0 y0 y1 (part.Establish e) m_at o_at refl
        (first_heard o o_at)

    two : Exchanges (other which) one.far one.own l k now notes1 ledger t s y2 x2
        (set_up_packet (part.Establish e))
    two = exchanges (other which) one.far one.own l k now notes1 ledger t s y1 x1 x2
        (part.Establish e) one.far_at one.own_at refl (second_heard one.own one.own_at)

    three : Exchanges which two.far two.own l k now notes2 ledger s t x3 y3
        (set_up_packet (part.Parameters (own_parameters window_a)))
    three = exchanges which two.far two.own l k now notes2 ledger s t x2 y2 y3
        (part.Parameters (own_parameters window_a))
        two.far_at two.own_at refl (third_heard two.own two.own_at)

    four : Exchanges (other which) three.far three.own l k now notes3 ledger t s y4 x4
        (set_up_packet (part.Parameters (own_parameters window_b)))
    four = exchanges (other which) three.far three.own l k now notes3 ledger t s y3 x3 x4
        (part.Parameters (own_parameters window_b)) three.far_at three.own_at refl
        (fourth_heard three.own three.own_at)

    abbrev mine : ℕ
    mine = index_of which

    abbrev theirs : ℕ
    theirs = index_of (other which)

    abbrev p1 : Packet
    p1 = set_up_packet (part.Establish e)

    abbrev p3 : Packet
    p3 = set_up_packet (part.Parameters (own_parameters window_a))

    abbrev p4 : Packet
    p4 = set_up_packet (part.Parameters (own_parameters window_b))

    abbrev sent2 : List Packet
    sent2 = (sent ++ p1 ∷ []) ++ p1 ∷ []

    first :
        (flow mine now Well (course_in (network_as which m o l k notes ledger) sent written)).after
        ≡ course_in (network_as which one.own one.far l k notes1 ledger) (sent ++ p1 ∷ []) written
    first = ap (λ (a : Answer). a.after) (one.flows sent written)

    second : (flow theirs now Well (course_in (network_as which one.own one.far l k notes1 ledger)
        (sent ++ p1 ∷ []) written)).after
        ≡ course_in (network_as which two.far two.own l k notes2 ledger) sent2 written
    second =
        ap (λ (n : Network). (flow theirs now Well (course_in n (sent ++ p1 ∷ []) written)).after)
        (sym (turned which one.own one.far l k notes1 ledger))
        ∙ ap (λ (a : Answer). a.after) (two.flows (sent ++ p1 ∷ []) written)
        ∙ ap (λ (n : Network). course_in n sent2 written)
        (turned which two.far two.own l k notes2 ledger)

    third : (flow mine now Well
        (course_in (network_as which two.far two.own l k notes2 ledger) sent2 written)).after
        ≡ course_in (network_as which three.own three.far l k notes3 ledger)
        (sent2 ++ p3 ∷ []) written
    third = ap (λ (a : Answer). a.after) (three.flows sent2 written)

    fourth :
        (flow theirs now Well (course_in (network_as which three.own three.far l k notes3 ledger)
        (sent2 ++ p3 ∷ []) written)).after
        ≡ course_in (network_as which four.far four.own l k notes4 ledger)
        ((sent2 ++ p3 ∷ []) ++ p4 ∷ []) written
    fourth =
        ap (λ (n : Network). (flow theirs now Well (course_in n (sent2 ++ p3 ∷ []) written)).after)
        (sym (turned which three.own three.far l k notes3 ledger))
        ∙ ap (λ (a : Answer). a.after) (four.flows (sent2 ++ p3 ∷ []) written)
        ∙ ap (λ (n : Network). course_in n ((sent2 ++ p3 ∷ []) ++ p4 ∷ []) written)
        (turned which four.far four.own l k notes4 ledger)

    so : set_up mine theirs now (course_in (network_as which m o l k notes ledger) sent written)
        ≡ course_in (network_as which four.far four.own l k notes4 ledger)
        ((sent2 ++ p3 ∷ []) ++ p4 ∷ []) written
    so = ap (λ (c : Course). exchanged mine theirs now (flow theirs now Well c).after) first
        ∙ ap (λ (c : Course). exchanged mine theirs now c) second
        ∙ ap (λ (c : Course). (flow theirs now Well c).after) third ∙ fourth

    longer : length notes4 ≡ length notes + 4
    longer = let a = length-append notes (there ∷ []) in let b = length-append notes1 (back ∷ []) in
        let c = length-append notes2 (there ∷ []) in let d = length-append notes3 (back ∷ []) in
        omega (arith, a, b, c, d)

    pub is_set_up : IsSetUp which now
        (course_in (network_as which m o l k notes ledger) sent written) (length notes)
    is_set_up = record {
      written = ap (λ (c : Course). c.written) so;
      notes = ap (λ (c : Course). length c.network.notes) so ∙ longer;
      stands = λ none. some (sym (ap (λ (c : Course). c.network.connections) so) ∙ none);
    }
      where
        some : ◌≡◌ {A = List Connection} (traffic.connection_of l ∷ []) [] → ⊥
        some none = let no : ⊥ = cc in no

-- Two managers that are up, know one another, and have no connection, set one up.
pub sets_up : (which : Which) (m o : Manager) (k now window_a window_b : ℕ) (notes : List Note)
    (ledger : List Line) → (know : KnowEachOther m.state o.state)
    → is_down m ≡ false → is_down o ≡ false → m.rest.session ≡ None → o.rest.session ≡ None
    → IsSetUp which now
    (course_in (both_linked (index_of which) (index_of (other which)) window_a window_b
    (apart_as which m o k notes ledger)) [] []) (length notes)
sets_up which m o k now window_a window_b notes ledger know m_up o_up m_free o_free =
    subst (λ (n : Network). IsSetUp which now (course_in n [] []) (length notes))
    (sym (both_are which m o k notes ledger window_a window_b))
    (is_set_up which m.state o.state know (begun_by which k) (k + 1) now window_a window_b ledger
    (asks m o window_a) (accepts o window_b) notes [] []
    (linked_at m (asking m.state o.state.identity.guid) window_a
    (new_initiator m.state.identity.guid o.state.identity.guid window_a) m_up m_free begins)
    (linked_at o role.Acceptor window_b
    (new_acceptor o.state.identity.guid window_b) o_up o_free refl))
  where
    begins : session_for m.state (asking m.state o.state.identity.guid) window_a
        ≡ Some (new_initiator m.state.identity.guid o.state.identity.guid window_a)
    begins = ap (λ (end : Role). session_for m.state end window_a)
        (asks_first m.state o.state.identity know.first)
        ∙ ap (λ (ps : List Identity).
        option_map (λ (peer : Identity). new_initiator m.state.identity.guid peer.guid window_a)
        (slice_get ps 0)) know.first
