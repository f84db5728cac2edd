-- A picture as the elements that it shows.
use Rattle.std.specs.Prelude.{◌∷◌, [], ◌++◌, List}
use Rattle.mqb_svg.specs.declared.elements.Element.{Element}
use Rattle.mqb_picture.specs.declared.packets.Packet.{Packet}

-- a picture that is being made: the packets that were sent, the one of number 1 first,
-- and the elements so far
pub record Progress : Type 0 where
  pub packets : List Packet
  pub elements : List Element

-- with one element more
abbrev pub add : Element → Progress → Progress
add element p = record p { elements = p.elements ++ element ∷ [] }
