-- Which managers are valid.
use Rattle.std.specs.Prelude.{[], ◌++◌, ◌+◌, ◌==◌, ◌∷◌, ◌≡◌, ◌≤◌, All, Bool, IfSome, IsNone, IsSome}
use Rattle.std.specs.Prelude.{List, None, Option, Some, false, flat_map, length, true, ℕ}
use Rattle.mqb_base.specs.declared.message.Message.{Message}
use Rattle.mqb_packet.specs.declared.packet.Headers.TheVariants as headers
use Rattle.mqb_plain.specs.Lists.{InOrder, messages_of}
use Rattle.mqb_plain.specs.Plain.{PlainLists}
use Rattle.mqb_session.specs.Calls.{IsSettingUp}
use Rattle.mqb_session.specs.State.{IsKept}
use Rattle.mqb_session.specs.State as one_end
use Rattle.mqb_model.specs.declared.limits.TheConstants.{FIRST_EXPRESS, MAX_EXPRESS}
use Rattle.mqb_model.specs.managers.Manager.{Condition, Down, Manager, Up, doubt_of, linked_peer}
use Rattle.mqb_model.specs.records.Applying.{fits}
use Rattle.mqb_model.specs.records.Carrying.{IsRead}
use Rattle.mqb_model.specs.records.Record.{Record}
use Rattle.mqb_model.specs.state.Places.{is_express}
use Rattle.mqb_model.specs.state.Resolving.{peer_known}
use Rattle.mqb_model.specs.state.State.{State}
use Rattle.mqb_model.specs.state.Valid.{IsCarried, IsValidState}

-- the express messages of all places
abbrev pub express_placed : State → List Message
express_placed s = flat_map (λ q. q.lists.express ++ q.journal.express) s.places.queues
    ++ s.places.dead.express ++ s.places.dead_xact.express ++ s.places.journal.express

-- the express messages for peers
abbrev pub express_waiting : State → List Message
express_waiting s = flat_map (λ p. messages_of p.express) s.plain

-- express lists have express messages alone, which can be carried, and express
-- numbers are in their range
pub record IsExpressValid (s : State) : Type 0 where
  pub placed : All (IsCarried headers.Bare) (express_placed s)
  pub waiting : All (IsCarried headers.Session) (express_waiting s)
  pub placed_express : All (λ m. is_express m.delivery ≡ true) (express_placed s)
  pub waiting_express : All (λ m. is_express m.delivery ≡ true) (express_waiting s)
  pub next_express : (FIRST_EXPRESS ≤ s.next_express) × (s.next_express ≤ MAX_EXPRESS)

-- the messages that were sent come first in each list, and their numbers rise
pub record MarksRise (p : PlainLists) : Type 0 where
  pub recoverable : InOrder p.recoverable
  pub express : InOrder p.express

-- no message counts as sent
pub record IsUnsent (p : PlainLists) : Type 0 where
  pub recoverable : All (λ o. IsNone o.mark) p.recoverable
  pub express : All (λ o. IsNone o.mark) p.express

-- marks are at most what a session has sent
pub record IsSentIn (session : one_end.State) (p : PlainLists) : Type 0 where
  pub recoverable : All (λ o. IfSome o.mark (λ mark. mark ≤ session.recoverable_sent)) p.recoverable
  pub express : All (λ o. IfSome o.mark (λ mark. mark ≤ session.sent)) p.express

-- messages that may have been sent in a session, or that were not sent
abbrev pub MayBear : Bool → one_end.State → PlainLists → Type 0
MayBear true session p = IsSentIn session p
MayBear false session p = IsUnsent p

-- The messages for the peer of a session, at an index, were sent in it, and those for the others
-- from an index on were not sent.
abbrev pub BearMarks : one_end.State → ℕ → ℕ → List PlainLists → Type 0
BearMarks session peer k [] = Unit {0}
BearMarks session peer k (p ∷ ps) =
    MayBear (k == peer) session p × BearMarks session peer (k + 1) ps

-- a session of a manager: its own GUID and its peer are known, and the marks are what it sent
pub record IsSessionOf (s : State) (session : one_end.State) : Type 0 where
  pub kept : IsKept session
  pub own : session.own ≡ s.identity.guid
  pub peer : IfSome session.peer (λ guid. IsSome (peer_known s guid))
  -- before it is ready nothing is sent
  pub first : IsSettingUp session.phase → session.sent ≡ 0
  pub marks : BearMarks session (linked_peer s session) 0 s.plain

-- a manager that is up and not linked has sent nothing; one that is down is not linked
abbrev pub IsLinkedWell : State → Condition → Option one_end.State → Type 0
IsLinkedWell s Up (Some session) = IsSessionOf s session
IsLinkedWell s Up None = All IsUnsent s.plain
IsLinkedWell s (Down doubt) session = IsNone session

-- a record that may have been written: it fits the state, and can be read
pub record IsWritable (s : State) (r : Record) : Type 0 where
  pub fits : fits s r ≡ true
  pub read : IsRead r

-- A valid manager, point by point.
pub record IsValidManager (m : Manager) : Type 0 where
  pub state : IsValidState m.state
  pub express : IsExpressValid m.state
  pub marks : All MarksRise m.state.plain
  pub session : IsLinkedWell m.state m.condition m.rest.session
  -- a number and a mark for each row
  pub cursors : length m.rest.cursors ≡ length m.state.outs
  pub owes : length m.rest.owes ≡ length m.state.ins
  -- what is in doubt may have been written
  pub doubt : IfSome (doubt_of m.condition) (IsWritable m.state)
