-- What becomes of packets.
use Rattle.std.specs.Prelude.{ℕ, Bool, true, ◌+◌, ◌-◌, ◌==◌, ◌&&◌, ◌||◌, List, [], ◌∷◌, ◌++◌}
use Rattle.std.specs.Prelude.{length, drop, codes, Option, None, Result, Ok, Err, if◌then◌else◌}
use Rattle.std.specs.Prelude.{slice_get, slice_set}
use Rattle.std.specs.Fmt.{decimal}
use Rattle.std.specs.List.{list_any}
use Rattle.mqb_base.specs.Same.{same_bytes}
use Rattle.mqb_fields.specs.Reading.{◌>>=◌}
use Rattle.mqb_svg.specs.declared.sides.Side.{Side}
use Rattle.mqb_svg.specs.declared.fates.Fate.{Fate}
use Rattle.mqb_svg.specs.declared.fates.Fate.TheVariants.{Came, Lost, Repeated, Late}
use Rattle.mqb_svg.specs.Sides.{other, same_side}
use Rattle.mqb_picture.specs.declared.faults.Kind.{Kind}
use Rattle.mqb_picture.specs.declared.faults.Kind.TheVariants.{Line}
use Rattle.mqb_picture.specs.declared.packets.Packet.{Packet}

-- one packet more was sent
abbrev pub post : Side → Bool → List Packet → List Packet
post from heard packets = packets ++ record { from = from; heard = heard } ∷ []

-- A packet was sent, whose number a word of line n is: it is the next one. One of a
-- set-up is heard at once.
unfoldable pub posted_one : ℕ → Bool → Side → List Packet → List ℕ → Result (List Packet) Kind
posted_one n set_up from packets word =
    if same_bytes word (decimal (length packets + 1)) then Ok (post from set_up packets)
    else Err (Line n)

-- in a set-up the managers send in turn
abbrev pub next_sender : Bool → Side → Side
next_sender set_up from = if set_up then other from else from

-- Packets were sent, whose numbers words of line n are.
abbrev pub posted : ℕ → Bool → Side → List Packet → List (List ℕ) → Result (List Packet) Kind
posted n set_up from packets [] = Ok packets
posted n set_up from packets (word ∷ words) =
    posted_one n set_up from packets word >>= λ sent.
    posted n set_up (next_sender set_up from) sent words

-- packet k, where it was sent
unfoldable pub packet_at : ℕ → List Packet → Option Packet
packet_at k packets = if k == 0 then None else slice_get packets (k - 1)

-- whether a packet of this sender was heard
abbrev pub any_heard : Side → List Packet → Bool
any_heard from packets = list_any (λ p. p.heard && same_side p.from from) packets

-- whether a reply that begins with this word says that a packet did not come
unfoldable pub is_unheard : List ℕ → Bool
is_unheard word = same_bytes word (codes "dropped") || same_bytes word (codes "gone")
    || same_bytes word (codes "none") || same_bytes word (codes "down")

-- What became of packet k, of which a reply says so: it is late where one that its sender sent
-- later was heard before.
unfoldable pub fate_of : ℕ → Packet → List Packet → List ℕ → Fate
fate_of k packet packets word = if is_unheard word then Lost
    else if packet.heard then Repeated
    else if any_heard packet.from (drop k packets) then Late
    else Came

-- packet k after that
abbrev pub after : Fate → ℕ → Packet → List Packet → List Packet
after Lost k packet packets = packets
after _ k packet packets = slice_set packets (k - 1) (record { from = packet.from; heard = true })
