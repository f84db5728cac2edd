-- The phase table: for each phase the packet that it owes, the phase that follows once that packet
-- was sent, and the phases that follow an Establish and Parameters that are heard.
use Rattle.std.specs.Prelude.{ℕ, Bool, true, false, Option, Some, None}
use Rattle.mqb_base.specs.declared.heard.Cause.TheVariants.{Early, Refused, Repeated}
use Rattle.mqb_setup.specs.declared.internal.Parameters.{Parameters}
use Rattle.mqb_setup.specs.declared.internal.Internal.{Internal}
use Rattle.mqb_setup.specs.declared.internal.Internal.TheVariants as part
use Rattle.mqb_session.specs.declared.phase.Phase.{Phase}
use Rattle.mqb_session.specs.declared.phase.Phase.TheVariants.{Start, WaitEstablish, OweEstablish}
use Rattle.mqb_session.specs.declared.phase.Phase.TheVariants.{OweRefusal, OweParameters}
use Rattle.mqb_session.specs.declared.phase.Phase.TheVariants.{WaitParameters, Ready, Closed}
use Rattle.mqb_session.specs.declared.phase.Role.{Role}
use Rattle.mqb_session.specs.declared.phase.Role.TheVariants.{Initiator, Acceptor}
use Rattle.mqb_session.specs.State.{State}

-- the Parameters that a session with this window sends
abbrev pub own_parameters : ℕ → Parameters
own_parameters window = record { storage_time = 10000; ack_time = 20000; window = window }

-- the packet that a phase owes at this moment
abbrev pub owed_by : Phase → ℕ → State → Option Internal
owed_by Start now s = Some (part.Establish (record s.establish { stamp = now; refused = false }))
owed_by OweEstablish now s = Some (part.Establish (record s.establish { refused = false }))
owed_by OweRefusal now s = Some (part.Establish (record s.establish { refused = true }))
owed_by OweParameters now s = Some (part.Parameters (own_parameters s.window))
owed_by WaitEstablish now s = None
owed_by WaitParameters now s = None
owed_by Ready now s = None
owed_by (Closed cause) now s = None

-- the phase once that packet was sent
abbrev pub phase_after_owed : Phase → Role → Phase
phase_after_owed Start role = WaitEstablish
phase_after_owed OweEstablish role = WaitParameters
phase_after_owed OweRefusal role = Closed Refused
phase_after_owed OweParameters Initiator = WaitParameters
phase_after_owed OweParameters Acceptor = Ready
phase_after_owed WaitEstablish role = WaitEstablish
phase_after_owed WaitParameters role = WaitParameters
phase_after_owed Ready role = Ready
phase_after_owed (Closed cause) role = Closed cause

-- the phase after an Establish, which is the one that is wanted or another
abbrev pub phase_after_establish : Phase → Role → Bool → Phase
phase_after_establish Start role wanted = Closed Repeated
phase_after_establish WaitEstablish Initiator true = OweParameters
phase_after_establish WaitEstablish Initiator false = Closed Refused
phase_after_establish WaitEstablish Acceptor true = OweEstablish
phase_after_establish WaitEstablish Acceptor false = OweRefusal
phase_after_establish OweEstablish role wanted = Closed Repeated
phase_after_establish OweRefusal role wanted = Closed Repeated
phase_after_establish OweParameters role wanted = Closed Repeated
phase_after_establish WaitParameters role wanted = Closed Repeated
phase_after_establish Ready role wanted = Closed Repeated
phase_after_establish (Closed cause) role wanted = Closed cause

-- the phase after Parameters
abbrev pub phase_after_parameters : Phase → Role → Phase
phase_after_parameters Start role = Closed Early
phase_after_parameters WaitEstablish role = Closed Early
phase_after_parameters OweEstablish role = Closed Early
phase_after_parameters OweRefusal role = Closed Early
phase_after_parameters OweParameters Initiator = Closed Early
phase_after_parameters OweParameters Acceptor = Closed Repeated
phase_after_parameters WaitParameters Initiator = Ready
phase_after_parameters WaitParameters Acceptor = OweParameters
phase_after_parameters Ready role = Closed Repeated
phase_after_parameters (Closed cause) role = Closed cause
