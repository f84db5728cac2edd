-- The plain messages that wait for one peer.
use Rattle.std.specs.Prelude.{ℕ, ◌+◌, ◌-◌, ◌<◌, max, List, [], ◌∷◌, ◌++◌, is_some, length, insert}
use Rattle.std.specs.Prelude.{remove, IsSome, MatchOption, Option, Some, None, if◌then◌else◌}
use Rattle.mqb_base.specs.declared.heads.SessionHead.{SessionHead}
use Rattle.mqb_base.specs.declared.message.Lane.{Lane}
use Rattle.mqb_base.specs.declared.message.Lane.TheVariants as lane
use Rattle.mqb_base.specs.declared.message.Message.{Message}
use Rattle.mqb_base.specs.Rooms.{WithRooms}
use Rattle.mqb_plain.specs.declared.outgoing.Outgoing.{Outgoing}
use Rattle.mqb_plain.specs.Lists.{first_unsent, greatest_mark, marked_next, unsent}

-- the recoverable and the express messages for a peer, in order
pub record PlainLists : Type 0 where
  pub recoverable : List Outgoing
  pub express : List Outgoing

-- how many messages each list can have without memory
pub record PlainRooms : Type 0 where
  pub recoverable : ℕ
  pub express : ℕ

abbrev pub no_plain : PlainLists
no_plain = record { recoverable = []; express = [] }

abbrev pub no_room : PlainRooms
no_room = record { recoverable = 0; express = 0 }

-- how many messages wait
abbrev pub count : PlainLists → ℕ
count p = length p.recoverable + length p.express

-- the messages of a lane
abbrev pub outgoing_in : Lane → PlainLists → List Outgoing
outgoing_in lane.Durable p = p.recoverable
outgoing_in lane.Express p = p.express

-- a lane has these messages, and the other one stays
abbrev pub with_outgoing : Lane → List Outgoing → PlainLists → PlainLists
with_outgoing lane.Durable items p = record p { recoverable = items }
with_outgoing lane.Express items p = record p { express = items }

abbrev pub room_in : Lane → PlainRooms → ℕ
room_in lane.Durable r = r.recoverable
room_in lane.Express r = r.express

-- how many more messages of a lane there can be without memory
abbrev pub spare : Lane → WithRooms PlainLists PlainRooms → ℕ
spare kind w = room_in kind w.rooms - length (outgoing_in kind w.lists)

-- a message joins a lane at the end, unsent
abbrev pub pushed : Lane → Message → PlainLists → PlainLists
pushed kind m p = with_outgoing kind (outgoing_in kind p ++ unsent m ∷ []) p

-- a message joins a lane before the one at k, or at the end, with its mark
abbrev pub inserted : Lane → ℕ → Outgoing → PlainLists → PlainLists
inserted kind k o p = with_outgoing kind (insert (outgoing_in kind p) k o) p

-- the message of a lane at k leaves
abbrev pub without : Lane → ℕ → PlainLists → PlainLists
without kind k p = with_outgoing kind (remove (outgoing_in kind p) k) p

-- there is room for so many more of each kind, and for no more than that where there was less
abbrev pub room_for : (recoverable express : ℕ) → PlainLists → PlainRooms → PlainRooms
room_for recoverable express p r = record {
  recoverable = max r.recoverable (length p.recoverable + recoverable);
  express = max r.express (length p.express + express);
}

-- and for one more of a lane
abbrev pub room_to_push : Lane → PlainLists → PlainRooms → PlainRooms
room_to_push lane.Durable p r = room_for 1 0 p r
room_to_push lane.Express p r = room_for 0 1 p r

abbrev pub or_else : Option Message → Option Message → Option Message
or_else (Some message) other = Some message
or_else None other = other

-- the next message to send: recoverable ones go first
abbrev pub next_unsent : PlainLists → Option Message
next_unsent p = or_else (first_unsent p.recoverable) (first_unsent p.express)

-- the lists once the next message was sent with a session header
abbrev pub sent : SessionHead → PlainLists → PlainLists
sent head p = if is_some (first_unsent p.recoverable)
    then record p { recoverable = marked_next head.recoverable p.recoverable }
    else record p { express = marked_next head.user p.express }

-- There is a next message, and the header's number for its list is above the number
-- of each that was sent.
abbrev pub MaySend : PlainLists → SessionHead → Type 0
MaySend p head = MatchOption (first_unsent p.recoverable)
    (IsSome (first_unsent p.express) × (greatest_mark p.express < head.user))
    (λ message. greatest_mark p.recoverable < head.recoverable)
