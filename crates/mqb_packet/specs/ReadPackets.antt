-- A user packet that was read.
use Rattle.std.specs.Prelude.{ℕ, ◌<◌, All, List}
use Rattle.mqb_packet.specs.declared.packet.Packet.TheVariants as packet
use Rattle.mqb_packet.specs.declared.packet.UserPacket.{UserPacket}
use Rattle.mqb_packet.specs.Spelled.{Spells}

-- These bytes spell the user packet.
abbrev pub IsReadOf : List ℕ → UserPacket → Type 0
IsReadOf bytes user = All (λ b. b < 256) bytes × Spells (packet.User user) bytes
