-- Messages join places, and the plain messages for peers.
use Rattle.std.specs.Option.{option_map_or}
use Rattle.std.specs.Prelude.{Bool, false, true, ℕ}
use Rattle.mqb_base.specs.Lanes.{lane_of}
use Rattle.mqb_base.specs.declared.message.Delivery.{Delivery}
use Rattle.mqb_base.specs.declared.message.Delivery.TheVariants.{Express}
use Rattle.mqb_base.specs.declared.message.Lane.{Lane}
use Rattle.mqb_base.specs.declared.message.Message.{Message}
use Rattle.mqb_base.specs.declared.queues.EntryPlace.{EntryPlace}
use Rattle.mqb_base.specs.declared.queues.EntryPlace.TheVariants as place
use Rattle.mqb_plain.specs.Plain.{PlainLists, pushed}
use Rattle.mqb_queue.specs.Lists.{Lists, put, without}
use Rattle.mqb_queue.specs.Places.{changed_at}
use Rattle.mqb_model.specs.Lists.{with_changed}
use Rattle.mqb_model.specs.declared.target.Target.{Target}
use Rattle.mqb_model.specs.declared.target.Target.TheVariants.{AtPeer, Here, Nowhere}
use Rattle.mqb_model.specs.state.State.{State}

-- what a place holds is changed, and every other place stays
abbrev pub with_place : (Lists → Lists) → State → EntryPlace → State
with_place change s at = record s { places = changed_at s.places at change }

-- a message joins the others of its lane of a place at the end
abbrev pub put_at : State → EntryPlace → Message → State
put_at s at m = with_place (put (lane_of m.delivery) m) s at

-- the message of a lane of a place at an index leaves
abbrev pub without_at : Lane → State → EntryPlace → ℕ → State
without_at kind s at k = with_place (without kind k) s at

-- the plain messages for the peer at an index are changed, and all others stay
abbrev pub with_plain : (PlainLists → PlainLists) → State → ℕ → State
with_plain change s k = record s { plain = with_changed change s.plain k }

-- a message goes where its name leads: into a queue here, or among those for a peer
abbrev pub placed : State → Target → Message → State
placed s (Here queue) m = option_map_or (λ number. put_at s (place.Queue number) m) queue s
placed s (AtPeer k) m = with_plain (pushed (lane_of m.delivery) m) s k
placed s Nowhere m = s

-- an express message
abbrev pub is_express : Delivery → Bool
is_express Express = true
is_express _ = false
