-- Two managers that know each other set a session up by four packets.
use Rattle.std.proofs.Common.{◌≡◌, ℕ, ◌-◌, ◌&&◌, ◌||◌, true, false, ◌++◌, [], ◌∷◌, Option, Some, None, refl, sym, ap, ◌∙◌, arith}
use Rattle.std.specs.Prelude.{Ok, is_some, length, replicate, slice_get}
use Rattle.std.proofs.lemmas.List.{append-nil, length-replicate}
use Rattle.mqb_base.specs.Same.{same_guid}
use Rattle.mqb_base.specs.declared.ids.Guid.{Guid}
use Rattle.mqb_base.specs.declared.ids.Identity.{Identity}
use Rattle.mqb_model.specs.Lists.{grown}
use Rattle.mqb_model.specs.calls.Link.{link}
use Rattle.mqb_model.specs.calls.hear.Hear.{hear}
use Rattle.mqb_model.specs.calls.pump.Pump.{PumpOutcome, pump}
use Rattle.mqb_model.specs.declared.answers.Role.TheVariants as end
use Rattle.mqb_model.specs.managers.Manager.{Manager, Rest, Up, no_rest, rest_for, unlinked}
use Rattle.mqb_model.specs.managers.Outcomes.{answering, succeeded}
use Rattle.mqb_model.specs.state.Resolving.{peer_known}
use Rattle.mqb_model.specs.state.State.{State}
use Rattle.mqb_law_meetings.proofs.Lists.{same_guid_refl}
use Rattle.mqb_packet.specs.declared.packet.Packet.{Packet}
use Rattle.mqb_packet.specs.declared.packet.Packet.TheVariants as packet
use Rattle.mqb_session.specs.Phases.{own_parameters}
use Rattle.mqb_session.specs.State as one_end
use Rattle.mqb_session.specs.State.{asking, new_acceptor, new_initiator, new_session, no_guid}
use Rattle.mqb_session.specs.declared.phase.Phase.{Phase}
use Rattle.mqb_session.specs.declared.phase.Phase.TheVariants as phase
use Rattle.mqb_session.specs.declared.phase.Role.TheVariants as role
use Rattle.mqb_setup.specs.declared.internal.Establish.{Establish}
use Rattle.mqb_network.specs.Connecting.{asking as asks}
use Rattle.mqb_network.specs.Delivering.{closes}

-- Of a connection nothing is known but the session.

abbrev pub known_by : Option one_end.State → Rest
known_by session = record no_rest { session = session }

-- a manager that is up, with this session
abbrev pub linked_with : State → Option one_end.State → Manager
linked_with s session = record { state = s; rest = rest_for s (known_by session); condition = Up }

pub grown_once : {X : Type 0} (x : X) (n : ℕ) → grown x n [] ≡ replicate n x
grown_once x n = ap (λ k. replicate k x) (let e : n - 0 ≡ n = omega arith in e)

grown_full : {X : Type 0} (x : X) (n : ℕ) → grown x n (replicate n x) ≡ replicate n x
grown_full x n = ap (λ k. replicate n x ++ replicate (n - k) x) (length-replicate n x)
    ∙ ap (λ k. replicate n x ++ replicate k x) (let e : n - n ≡ 0 = omega arith in e)
    ∙ append-nil (replicate n x)

grown_again : {X : Type 0} (x : X) (n : ℕ) → grown x n (grown x n []) ≡ grown x n []
grown_again x n = ap (grown x n) (grown_once x n) ∙ grown_full x n ∙ sym (grown_once x n)

rest_again : (s : State) (x y : Option one_end.State) → rest_for s (record (rest_for s (known_by x)) { session = y }) ≡ rest_for s (known_by y)
rest_again s x y = ap (λ ns. record { session = y; cursors = ns; owes = grown false (length s.ins) (grown false (length s.ins) []) }) (grown_again 0 (length s.outs))
    ∙ ap (λ bs. record { session = y; cursors = grown 0 (length s.outs) []; owes = bs }) (grown_again false (length s.ins))

-- what changes the session alone leaves a manager with the next one
pub again : (s : State) (x y : Option one_end.State)
    → record { state = s; rest = rest_for s (record (rest_for s (known_by x)) { session = y }); condition = Up } ≡ linked_with s y
again s x y = ap (λ (r : Rest). record { state = s; rest = r; condition = Up }) (rest_again s x y)

-- what a pump comes to in which nothing goes
abbrev pub sends_nothing : Manager → PumpOutcome
sends_nothing m = answering m (Ok 0)

-- One packet goes, and another manager hears it.

-- a pump sends this packet, writes nothing and leaves this manager
pub record Pumps (m : Manager) (now : ℕ) (p : Packet) (next : Manager) : Type 0 where
  pub after : succeeded m (pump m now) ≡ next
  pub entry : (pump m now).entry ≡ None
  pub packets : (pump m now).packets ≡ p ∷ []
  pub answer : (pump m now).answer ≡ Ok 1

-- a packet that is heard writes nothing, leaves this manager and closes no session
pub record Hears (m : Manager) (p : Packet) (now : ℕ) (next : Manager) : Type 0 where
  pub after : succeeded m (hear m p now) ≡ next
  pub entry : (hear m p now).entry ≡ None
  pub stands : closes (hear m p now).answer ≡ false

-- The sessions, step by step.

module _ (a b : State) (k l : ℕ) (peer : Identity) (knows : peer_known a b.identity.guid ≡ Some k) (there : slice_get a.peers k ≡ Some peer)
    (is : peer.guid ≡ b.identity.guid) (known : peer_known b a.identity.guid ≡ Some l) (now window_a window_b : ℕ) where
  abbrev pub own : Guid
  own = a.identity.guid

  abbrev pub other : Guid
  other = b.identity.guid

  -- the Establish of both
  abbrev pub said : Establish
  said = asking own other now

  -- of the one that asks
  abbrev pub asking_in : Phase → ℕ → one_end.State
  asking_in p window = record (new_session p role.Initiator own (Some other) said window_a) { peer_window = window }

  -- of the one that is asked
  abbrev pub asked_in : Phase → ℕ → one_end.State
  asked_in p window = record (new_session p role.Acceptor other (Some own) said window_b) { peer_window = window }

  pub link_asking : succeeded (unlinked a) (link (unlinked a) (asks a other) window_a) ≡ linked_with a (Some (new_initiator own other window_a))
  link_asking = rw (knows, there, is) (again a None (Some (new_initiator own other window_a)))

  pub link_asked : succeeded (unlinked b) (link (unlinked b) end.Acceptor window_b) ≡ linked_with b (Some (new_acceptor other window_b))
  link_asked = again b None (Some (new_acceptor other window_b))

  -- the first Establish
  pub asks_pumps : Pumps (linked_with a (Some (new_initiator own other window_a))) now (packet.Establish said) (linked_with a (Some (asking_in phase.WaitEstablish 0)))
  asks_pumps = record {
    after = again a (Some (new_initiator own other window_a)) (Some (asking_in phase.WaitEstablish 0));
    entry = refl;
    packets = refl;
    answer = refl;
  }

  is_asked : (is_some (peer_known b own) && (same_guid other other || same_guid other no_guid)) ≡ true
  is_asked = rw (known, same_guid_refl other) refl

  pub asked_hears : Hears (linked_with b (Some (new_acceptor other window_b))) (packet.Establish said) now (linked_with b (Some (asked_in phase.OweEstablish 0)))
  asked_hears = record { after = rw is_asked (again b (Some (new_acceptor other window_b)) (Some (asked_in phase.OweEstablish 0))); entry = refl; stands = rw is_asked refl }

  -- the second
  pub asked_pumps : Pumps (linked_with b (Some (asked_in phase.OweEstablish 0))) now (packet.Establish said) (linked_with b (Some (asked_in phase.WaitParameters 0)))
  asked_pumps = record {
    after = again b (Some (asked_in phase.OweEstablish 0)) (Some (asked_in phase.WaitParameters 0));
    entry = refl;
    packets = refl;
    answer = refl;
  }

  is_answered : (same_guid own own && same_guid other other) ≡ true
  is_answered = rw (same_guid_refl own, same_guid_refl other) refl

  pub asks_hears : Hears (linked_with a (Some (asking_in phase.WaitEstablish 0))) (packet.Establish said) now (linked_with a (Some (asking_in phase.OweParameters 0)))
  asks_hears = record { after = rw is_answered (again a (Some (asking_in phase.WaitEstablish 0)) (Some (asking_in phase.OweParameters 0))); entry = refl; stands = rw is_answered refl }

  -- the first Parameters
  pub asks_tells : Pumps (linked_with a (Some (asking_in phase.OweParameters 0))) now (packet.Parameters (own_parameters window_a)) (linked_with a (Some (asking_in phase.WaitParameters 0)))
  asks_tells = record {
    after = again a (Some (asking_in phase.OweParameters 0)) (Some (asking_in phase.WaitParameters 0));
    entry = refl;
    packets = refl;
    answer = refl;
  }

  pub asked_is_told : Hears (linked_with b (Some (asked_in phase.WaitParameters 0))) (packet.Parameters (own_parameters window_a)) now (linked_with b (Some (asked_in phase.OweParameters window_a)))
  asked_is_told = record { after = again b (Some (asked_in phase.WaitParameters 0)) (Some (asked_in phase.OweParameters window_a)); entry = refl; stands = refl }

  -- the second
  pub asked_tells : Pumps (linked_with b (Some (asked_in phase.OweParameters window_a))) now (packet.Parameters (own_parameters window_b)) (linked_with b (Some (asked_in phase.Ready window_a)))
  asked_tells = record {
    after = again b (Some (asked_in phase.OweParameters window_a)) (Some (asked_in phase.Ready window_a));
    entry = refl;
    packets = refl;
    answer = refl;
  }

  pub asks_is_told : Hears (linked_with a (Some (asking_in phase.WaitParameters 0))) (packet.Parameters (own_parameters window_b)) now (linked_with a (Some (asking_in phase.Ready window_b)))
  asks_is_told = record { after = again a (Some (asking_in phase.WaitParameters 0)) (Some (asking_in phase.Ready window_b)); entry = refl; stands = refl }
