-- Two managers that are linked both have a session.
use Rattle.std.proofs.Common.{refl, ap, ◌∙◌}
use Rattle.std.specs.Prelude.{◌≡◌, Bool, List, None, Ok, Option, Result, Some, cond, false, is_none, is_some, length, option_map, position, slice_get, true, unwrap_or, ℕ}
use Rattle.std.specs.List.{list_any}
use Rattle.mqb_base.specs.Same.{same_guid}
use Rattle.mqb_base.specs.declared.ids.Guid.{Guid}
use Rattle.mqb_base.specs.declared.ids.Identity.{Identity}
use Rattle.mqb_model.specs.calls.Link.{link, link_refusal, linking, session_for}
use Rattle.mqb_model.specs.declared.answers.Role.{Role}
use Rattle.mqb_model.specs.declared.faults.LinkFault.{LinkFault}
use Rattle.mqb_model.specs.declared.faults.LinkFault.TheVariants as fault
use Rattle.mqb_model.specs.managers.Manager.{Manager, is_down}
use Rattle.mqb_model.specs.managers.Outcomes.{Outcome, resting, succeeded, unless}
use Rattle.mqb_model.specs.state.State.{State}
use Rattle.mqb_network.specs.Connecting.{asking}
use Rattle.mqb_network.specs.Network.{others}
use Rattle.mqb_session.specs.State.{new_initiator}
use Rattle.mqb_session.specs.State as one_end
use Rattle.mqb_history.specs.Orderly.{IsItself}
use Rattle.mqb_history.proofs.Knowing.{found_place, not_own_peer, other_is_peer}
use Rattle.mqb_history.proofs.Lists.{clash}

-- a manager with this session
abbrev given_session : Manager → Option one_end.State → Outcome (Result (Unit {0}) LinkFault)
given_session m o = resting m (record m.rest { session = o }) (Ok tt)

-- a manager that is up and not linked has the session that there is for it
pub link_session : (m : Manager) (end : Role) (window : ℕ) → is_down m ≡ false → is_some m.rest.session ≡ false
    → is_some (succeeded m (link m end window)).rest.session ≡ is_some (session_for m.state end window)
link_session m end window up apart = at (is_down m) up (is_some m.rest.session) apart (session_for m.state end window)
  where
    at : (down : Bool) → down ≡ false → (linked : Bool) → linked ≡ false → (o : Option one_end.State)
        → is_some (succeeded m (unless m (cond down (Some fault.Down) (cond linked (Some fault.Linked) (cond (is_none o) (Some fault.NoPeer) None)))
        (given_session m o))).rest.session ≡ is_some o
    at true d linked l o = absurd (clash d)
    at false d true l o = absurd (clash l)
    at false d false l None = apart
    at false d false l (Some session) = refl

-- its state stays
pub link_state : (m : Manager) (end : Role) (window : ℕ) → (succeeded m (link m end window)).state ≡ m.state
link_state m end window = at (link_refusal m end window)
  where
    at : (o : Option LinkFault) → (succeeded m (unless m o (linking m end window))).state ≡ m.state
    at None = refl
    at (Some why) = refl

-- there is a session for the one that asks where the other is a peer
asked_session : (s : State) (guid : Guid) (window : ℕ) → is_some (session_for s (asking s guid) window) ≡ list_any (λ p. same_guid p.guid guid) s.peers
asked_session s guid window = at (slice_get s.peers (unwrap_or (position (λ p. same_guid p.guid guid) s.peers) (length s.peers)))
    ∙ found_place (λ p. same_guid p.guid guid) s.peers
  where
    at : (o : Option Identity) → is_some (option_map (λ peer. new_initiator s.identity.guid peer.guid window) o) ≡ is_some o
    at None = refl
    at (Some peer) = refl

-- it is not where it asks itself
pub asks_itself : (known : List Identity) (own : Identity) (s : State) (window : ℕ) → IsItself known own s
    → is_some (session_for s (asking s s.identity.guid) window) ≡ false
asks_itself known own s window h = asked_session s s.identity.guid window
    ∙ ap (λ (peers : List Identity). list_any (λ p. same_guid p.guid s.identity.guid) peers) h.peers
    ∙ ap (λ (i : Identity). list_any (λ p. same_guid p.guid i.guid) (others known own)) h.identity
    ∙ not_own_peer own.guid known

-- it is where it asks another
pub asks_other : (known : List Identity) (own other : Identity) (j : ℕ) (s : State) (guid : Guid) (window : ℕ) → IsItself known own s
    → slice_get known j ≡ Some other → same_guid other.guid own.guid ≡ false → guid ≡ other.guid
    → is_some (session_for s (asking s guid) window) ≡ true
asks_other known own other j s guid window h there apart e = asked_session s guid window
    ∙ ap (λ (peers : List Identity). list_any (λ p. same_guid p.guid guid) peers) h.peers
    ∙ ap (λ (g : Guid). list_any (λ p. same_guid p.guid g) (others known own)) e
    ∙ other_is_peer own.guid known j other there apart
