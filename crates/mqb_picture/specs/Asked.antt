-- What a line of a script asks, as far as a picture tells it apart.
use Rattle.std.specs.Prelude.{ℕ, ◌||◌, List, [], ◌∷◌, codes, Option, Some, None, if◌then◌else◌}
use Rattle.std.specs.Option.{option_map}
use Rattle.mqb_base.specs.Same.{same_bytes}
use Rattle.mqb_svg.specs.declared.sides.Side.{Side}
use Rattle.mqb_picture.specs.declared.asked.Asked.{Asked}
use Rattle.mqb_picture.specs.declared.asked.Asked.TheVariants.{Connect, Disconnect, Pump, Flow}
use Rattle.mqb_picture.specs.declared.asked.Asked.TheVariants.{Packet, At}
use Rattle.mqb_picture.specs.Words.{packet_of}
use Rattle.mqb_picture.specs.Sides.{side_of}

-- what the first word asks of a manager
unfoldable pub asked_at : List ℕ → Side → Asked
asked_at word side = if same_bytes word (codes "connect") then Connect side
    else if same_bytes word (codes "pump") then Pump side
    else if same_bytes word (codes "flow") then Flow side
    else At side

-- what the first word asks of the second, which is a packet or a manager
unfoldable pub asked_about : List ℕ → List ℕ → Option Asked
asked_about word object =
    if same_bytes word (codes "deliver") || same_bytes word (codes "drop")
    then option_map Packet (packet_of object)
    else option_map (asked_at word) (side_of object)

unfoldable pub asked_of : List (List ℕ) → Option Asked
asked_of [] = None
asked_of (word ∷ []) = if same_bytes word (codes "disconnect") then Some Disconnect else None
asked_of (word ∷ object ∷ words) = asked_about word object
