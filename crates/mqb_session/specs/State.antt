-- A session as contracts see it.
use Rattle.std.specs.Prelude.{ℕ, ◌≤◌, Bool, false, Option, Some, None, replicate}
use Rattle.mqb_base.specs.declared.ids.Guid.{Guid}
use Rattle.mqb_setup.specs.declared.internal.Establish.{Establish}
use Rattle.mqb_session.specs.declared.phase.Phase.{Phase}
use Rattle.mqb_session.specs.declared.phase.Phase.TheVariants.{Start, WaitEstablish}
use Rattle.mqb_session.specs.declared.phase.Role.{Role}
use Rattle.mqb_session.specs.declared.phase.Role.TheVariants.{Initiator, Acceptor}

-- One end of a session. The Establish is the one that the initiator sends or the acceptor heard. Of
-- user packets, and among them of recoverable ones, so many were sent, and acknowledged; so many
-- were got in order, and of recoverable ones stored. An acknowledgement is owed or not.
pub record State : Type 0 where
  pub phase : Phase
  pub role : Role
  pub own : Guid
  pub peer : Option Guid
  pub establish : Establish
  pub window : ℕ
  pub peer_window : ℕ
  pub sent : ℕ
  pub acked : ℕ
  pub recoverable_sent : ℕ
  pub recoverable_acked : ℕ
  pub got : ℕ
  pub stored : ℕ
  pub owes : Bool

-- what holds of each session at any time
pub record IsKept (s : State) : Type 0 where
  pub acked : s.acked ≤ s.sent
  pub sent : s.sent ≤ 65535
  pub recoverable_acked : s.recoverable_acked ≤ s.recoverable_sent
  pub recoverable_sent : s.recoverable_sent ≤ s.sent
  pub stored : s.stored ≤ s.got
  pub got : s.got ≤ 65535

-- the GUID that names no manager
abbrev pub no_guid : Guid
no_guid = record { 0 = replicate 16 0 }

-- a session that begins: nothing was sent or got
abbrev pub new_session : Phase → Role → Guid → Option Guid → Establish → ℕ → State
new_session phase role own peer establish window = record {
  phase = phase;
  role = role;
  own = own;
  peer = peer;
  establish = establish;
  window = window;
  peer_window = 0;
  sent = 0;
  acked = 0;
  recoverable_sent = 0;
  recoverable_acked = 0;
  got = 0;
  stored = 0;
  owes = false;
}

-- an Establish of a client to a server
abbrev pub asking : Guid → Guid → ℕ → Establish
asking client server stamp =
    record { client = client; server = server; stamp = stamp; refused = false }

-- it asks its peer: the moment of its Establish is not known yet
abbrev pub new_initiator : Guid → Guid → ℕ → State
new_initiator own peer window =
    new_session Start Initiator own (Some peer) (asking own peer 0) window

-- it waits for an Establish, and has none yet
abbrev pub new_acceptor : Guid → ℕ → State
new_acceptor own window =
    new_session WaitEstablish Acceptor own None (asking no_guid no_guid 0) window
