-- What a line of a script and its reply add to a picture.
use Rattle.std.specs.Prelude.{ℕ, Bool, true, false, ◌+◌, List, [], ◌∷◌, ◌++◌, length, codes, Option}
use Rattle.std.specs.Prelude.{Some, None, Result, Ok, Err, ok_or, unwrap_or, if◌then◌else◌}
use Rattle.std.specs.Fmt.{decimal}
use Rattle.mqb_base.specs.Same.{same_bytes}
use Rattle.mqb_svg.specs.declared.sides.Side.{Side}
use Rattle.mqb_svg.specs.declared.elements.Element.TheVariants.{Arrow, Note, Bar}
use Rattle.mqb_picture.specs.declared.faults.Kind.{Kind}
use Rattle.mqb_picture.specs.declared.faults.Kind.TheVariants.{Line}
use Rattle.mqb_picture.specs.declared.packets.Packet.{Packet}
use Rattle.mqb_picture.specs.declared.asked.Asked.{Asked}
use Rattle.mqb_picture.specs.declared.asked.Asked.TheVariants as asked
use Rattle.mqb_picture.specs.Words.{parts_by, words_of, behind, in_front_of}
use Rattle.mqb_picture.specs.Asked.{asked_of}
use Rattle.mqb_picture.specs.Fates.{post, posted, packet_at, fate_of, after}
use Rattle.mqb_picture.specs.Texts.{clipped, told, request_of, first_word, mark_of}
use Rattle.mqb_picture.specs.Elements.{Progress, add}
use Rattle.mqb_fields.specs.Reading.{◌>>=◌}

-- what a manager answers
unfoldable pub note : ℕ → Side → List ℕ → List ℕ → Progress → Progress
note n side request said p = add (Note n side (mark_of (first_word said)) (told request said)) p

-- what concerns both
unfoldable pub between : ℕ → List ℕ → List ℕ → Progress → Progress
between n request said p = add (Bar n (told request said)) p

-- packet k, which was sent, came or was lost
unfoldable pub arrived : ℕ → ℕ → Packet → List ℕ → Progress → Progress
arrived n k packet said p = record {
  packets = after (fate_of k packet p.packets (first_word said)) k packet p.packets;
  elements = p.elements ++ Arrow n packet.from k (fate_of k packet p.packets (first_word said))
      (mark_of (first_word said)) (clipped said) ∷ [];
}

abbrev pub heard_from : ℕ → ℕ → List ℕ → Progress → Option Packet → Progress
heard_from n k said p None = between n (codes "packet " ++ decimal k) said p
heard_from n k said p (Some packet) = arrived n k packet said p

-- this was said of packet k
unfoldable pub heard : ℕ → ℕ → List ℕ → Progress → Progress
heard n k said p = heard_from n k said p (packet_at k p.packets)

-- the packets that a reply tells were sent: the words behind its first one, where that is this word
abbrev pub told_packets : ℕ → Bool → Side → List ℕ → List (List ℕ) → List Packet
    → Result (List Packet) Kind
told_packets n set_up from told [] packets = Ok packets
told_packets n set_up from told (word ∷ words) packets =
    if same_bytes word told then posted n set_up from packets words else Ok packets

unfoldable pub sent : ℕ → Bool → Side → List ℕ → List ℕ → Progress → Result Progress Kind
sent n set_up from word said p = told_packets n set_up from word (words_of said) p.packets
    >>= λ packets. Ok (record p { packets = packets })

-- A part of a flow's reply, which is cut at its colons: each but the last ends with the number of
-- the packet that the next one is about.
unfoldable pub said_in : ℕ → ℕ → List ℕ → List (List ℕ) → Result (List ℕ) Kind
said_in n k part [] = Ok part
said_in n k part (next ∷ parts) = ok_or (in_front_of (codes " " ++ decimal k) part) (Line n)

-- the next packet is sent, and this was heard of it
unfoldable pub heard_next : ℕ → Side → List ℕ → Progress → Progress
heard_next n side said p =
    heard n (length p.packets + 1) (unwrap_or (behind (codes " ") said) said)
    (record p { packets = post side false p.packets })

-- the packets of a flow
abbrev pub flowed : ℕ → Side → Progress → List (List ℕ) → Result Progress Kind
flowed n side p [] = Ok p
flowed n side p (part ∷ parts) = said_in n (length p.packets + 2) part parts >>= λ said.
    flowed n side (heard_next n side said p) parts

abbrev pub flow_from : ℕ → Side → List ℕ → Progress → List (List ℕ) → Result Progress Kind
flow_from n side request p [] = Err (Line n)
flow_from n side request p (part ∷ parts) = said_in n (length p.packets + 1) part parts >>= λ said.
    flowed n side (note n side request said p) parts

unfoldable pub flow : ℕ → Side → List ℕ → List ℕ → Progress → Result Progress Kind
flow n side request said p = flow_from n side request p (parts_by 58 said)

-- this was said to a line
unfoldable pub answered : ℕ → Asked → List ℕ → List ℕ → Progress → Result Progress Kind
answered n (asked.Connect side) request said p =
    sent n true side (codes "connected") said p >>= λ q. Ok (between n request said q)
answered n asked.Disconnect request said p = Ok (between n request said p)
answered n (asked.Pump side) request said p =
    sent n false side (codes "pumped") said p >>= λ q. Ok (note n side request said q)
answered n (asked.Flow side) request said p = flow n side request said p
answered n (asked.Packet k) request said p = Ok (heard n k said p)
answered n (asked.At side) request said p = Ok (note n side request said p)

-- what stands behind the number of a reply, which is that of its line
unfoldable pub said_to : ℕ → List ℕ → Result (List ℕ) Kind
said_to n reply = ok_or (behind (decimal n ++ codes " ") reply) (Line n)

-- line n of a script and its reply
unfoldable pub drawn : ℕ → List ℕ → List ℕ → Progress → Result Progress Kind
drawn n line reply p = do
  said ← said_to n reply
  what ← ok_or (asked_of (words_of line)) (Line n)
  answered n what (request_of (words_of line)) said p
