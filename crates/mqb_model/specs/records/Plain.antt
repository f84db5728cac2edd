-- The record Plain: what it does, and when it fits.
use Rattle.std.specs.Prelude.{[], ◌∷◌, Bool, List, if◌then◌else◌, ℕ}
use Rattle.mqb_base.specs.declared.ledger.Line.{Line}
use Rattle.mqb_base.specs.declared.ledger.Line.TheVariants as line
use Rattle.mqb_base.specs.declared.message.Message.{Message}
use Rattle.mqb_packet.specs.declared.packet.Headers.TheVariants as headers
use Rattle.mqb_packet.specs.declared.packet.UserPacket.{UserPacket}
use Rattle.mqb_model.specs.records.Packets.{is_sendable}
use Rattle.mqb_model.specs.rules.Effects.{Effect}
use Rattle.mqb_model.specs.rules.Numbers.{numbers_taken}
use Rattle.mqb_model.specs.rules.Sends.{plain_sent}
use Rattle.mqb_model.specs.state.Resolving.{is_here, resolved}
use Rattle.mqb_model.specs.state.State.{State}

-- the lines of a plain message: one where it is put here
abbrev pub plain_lines : State → Message → List Line
plain_lines s m = if is_here (resolved s m.destination) then line.Local m.id ∷ [] else []

-- a recoverable message takes its number and is sent
abbrev pub plain_effect : State → ℕ → UserPacket → Effect
plain_effect s now p =
    record { state = plain_sent (numbers_taken s 1) p.message now; lines = plain_lines s p.message }

-- its packet bears the next number
abbrev pub plain_fits : State → UserPacket → Bool
plain_fits s p = is_sendable s headers.Session s.next_number p
