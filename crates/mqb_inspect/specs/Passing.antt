-- What a session sends.
use Rattle.std.specs.Option.{option_map_or}
use Rattle.std.specs.Prelude.{◌≡◌, Bool, true, Option, Some, None, ℕ}
use Rattle.mqb_base.specs.declared.ids.Guid.{Guid}
use Rattle.mqb_capture.specs.Judged.{goes_between}
use Rattle.mqb_capture.specs.Lawful.{after_head, IsOfPhase, IsOpen, IsStamped, IsWithinWindow, sent}
use Rattle.mqb_capture.specs.declared.answers.BreakCause.{BreakCause}
use Rattle.mqb_capture.specs.declared.answers.BreakCause.TheVariants as cause
use Rattle.mqb_packet.specs.declared.packet.Packet.{Packet}
use Rattle.mqb_packet.specs.declared.packet.Packet.TheVariants as packet
use Rattle.mqb_packet.specs.declared.packet.UserPacket.{UserPacket}
use Rattle.mqb_session.specs.Hearing.{after_owed, heard_head}
use Rattle.mqb_session.specs.Phases.{owed_by}
use Rattle.mqb_session.specs.State.{State}
use Rattle.mqb_setup.specs.declared.internal.Internal.{Internal}

-- A set-up packet is owed at a moment, and does not end the session.
abbrev pub IsOwed : Internal → (moment : ℕ) → State → Type 0
IsOwed part moment s = (owed_by s.phase moment s ≡ Some part) × IsOpen (after_owed moment s)

-- the first reason why a packet may not be sent
abbrev pub IsSentCause : BreakCause → Packet → State → Type 0
IsSentCause cause.Phase p s = IsOfPhase p s → ⊥
IsSentCause cause.Window p s = IsOfPhase p s × (IsWithinWindow p s → ⊥)
IsSentCause cause.Stamp p s = IsOfPhase p s × IsWithinWindow p s × (IsStamped p s → ⊥)
IsSentCause why p s = ⊥

-- A packet may be sent.
pub record IsSent (p : Packet) (s t : State) : Type 0 where
  pub phase : IsOfPhase p s
  pub window : IsWithinWindow p s
  pub stamp : IsStamped p s
  pub left : t ≡ sent p s

-- a packet was sent, and this is left; or it may not be, by this cause
abbrev pub Sends : Packet → State → State → Option BreakCause → Type 0
Sends p s t None = IsSent p s t
Sends p s t (Some why) = IsSentCause why p s

-- a user packet goes from one manager to another
abbrev pub goes_from : Guid → Guid → Packet → Bool
goes_from source target (packet.User p) = goes_between source target p
goes_from source target _ = true

-- what a user packet that is heard leaves, whoever the peer is
abbrev pub heard_user : UserPacket → State → State
heard_user p s =
    option_map_or (λ head. after_head p.message.delivery (heard_head head s)) p.session s
