-- The numbers of the transactional packets of class 0 that went one way.
use Rattle.std.specs.List.{AllByRecursion}
use Rattle.std.specs.Prelude.{◌≡◌, ◌<◌, ◌≤◌, ◌==◌, List, Option, None, option_map}
use Rattle.std.specs.Prelude.{filter_map, if◌then◌else◌}
use Rattle.mqb_base.specs.declared.class.TheConstants.Class.{NORMAL}
use Rattle.mqb_base.specs.declared.message.Message.{Message}
use Rattle.mqb_packet.specs.declared.packet.Packet.{Packet}
use Rattle.mqb_packet.specs.declared.packet.Packet.TheVariants as packet
use Rattle.mqb_capture.specs.declared.answers.Way.{Way}
use Rattle.mqb_capture.specs.declared.answers.Way.TheVariants as way
use Rattle.mqb_capture.specs.Events.{Event, Sent, Heard}
pub use Rattle.mqb_capture.specs.declared.link.Link.{Link}

-- the message of a packet with its place in a sequence, where it has one
abbrev pub link_of : Packet → Option Link
link_of (packet.User p) = if p.message.class.0 == NORMAL.0
    then option_map (λ tx. record { message = p.message; tx = tx }) p.tx else None
link_of _ = None

-- and which went this way
abbrev pub link_by : Way → Event → Option Link
link_by way.Sent (Sent p) = link_of p
link_by way.Heard (Heard p) = link_of p
link_by _ _ = None

-- all of them, in the order in which they came
abbrev pub links : Way → List Event → List Link
links direction events = filter_map (link_by direction) events

-- Two messages are of one sequence.
pub record AreOfOneSequence (a b : Link) : Type 0 where
  pub destination : a.message.destination ≡ b.message.destination
  pub sequence : a.tx.sequence ≡ b.tx.sequence

-- They are the same but for the time that is left to reach their queue.
abbrev pub AreSameMessage : Message → Message → Type 0
AreSameMessage a b = record a { reach = b.reach } ≡ b

-- Of two messages of one sequence the later one follows the other, or one that came between them.
-- What comes again is the same.
pub record Fit (a b : Link) : Type 0 where
  pub later : AreOfOneSequence a b → a.tx.number < b.tx.number → a.tx.number ≤ b.tx.previous
  pub again : AreOfOneSequence a b → a.tx.number ≡ b.tx.number
      → (a.tx.previous ≡ b.tx.previous) × AreSameMessage a.message b.message

-- Each message follows a number below its own, and each two of them fit, whichever came first.
pub record AreLinked (links : List Link) : Type 0 where
  pub below : AllByRecursion (λ a. a.tx.previous < a.tx.number) links
  pub fit : AllByRecursion (λ a. AllByRecursion (Fit a) links) links
