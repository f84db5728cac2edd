-- What a byte of one way completes.
use Rattle.std.specs.Prelude.{◌≡◌, ◌∷◌, ◌++◌, Bool, true, false, List, [], Err, ℕ}
use Rattle.mqb_inspect.specs.declared.cutting.Came.{Came}
use Rattle.mqb_inspect.specs.declared.cutting.Came.TheVariants as came
use Rattle.mqb_packet.specs.Parts.{packet_of}
use Rattle.mqb_packet.specs.Spelled.{Spells}
use Rattle.mqb_stream.specs.Framing.{Answer, Broken, Framing, Wants, Whole}

-- A frame is a packet, or it is not, by this fault.
abbrev pub IsReadAs : List ℕ → Came → Type 0
IsReadAs frame (came.Packet p) = Spells p frame
IsReadAs frame (came.Bad fault) = packet_of frame ≡ Err fault
IsReadAs frame came.Nothing = ⊥

-- what a framer answers is a packet, or is none, or is nothing yet
abbrev pub Comes : Answer → Came → Type 0
Comes (Whole frame) c = IsReadAs frame c
Comes (Broken why place) (came.Bad fault) = why ≡ fault
Comes (Wants need) came.Nothing = Unit {0}
Comes _ _ = ⊥

-- what is held behind it
abbrev pub held_behind : Came → List ℕ → List ℕ
held_behind (came.Packet p) held = []
held_behind _ held = held

-- more bytes may come behind it
abbrev pub wants_behind : Came → Bool
wants_behind (came.Bad fault) = false
wants_behind _ = true

-- a byte joins what a framer holds
abbrev pub fed_byte : Framing → ℕ → Framing
fed_byte f b = record f { held = f.held ++ b ∷ [] }
