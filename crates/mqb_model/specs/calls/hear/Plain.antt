-- Messages that are not transactional: out of order they are discarded (10), express ones in order
-- are put or refused without a record (11), and recoverable ones in order are handled by one record
-- and then count as stored (12).
use Rattle.std.specs.Option.{option_map_or}
use Rattle.std.specs.Prelude.{Bool, None, Option, Some, if◌then◌else◌}
use Rattle.mqb_base.specs.declared.class.Class.{Class}
use Rattle.mqb_base.specs.declared.heard.Heard.{Heard}
use Rattle.mqb_base.specs.declared.heard.Heard.TheVariants as heard
use Rattle.mqb_base.specs.declared.message.Message.{Message}
use Rattle.mqb_packet.specs.declared.packet.UserPacket.{UserPacket}
use Rattle.mqb_session.specs.Sending.{noted_stored}
use Rattle.mqb_model.specs.calls.hear.Session.{HeardOutcome, Listening, discarded}
use Rattle.mqb_model.specs.calls.hear.Session.{heard_as, peer_heard}
use Rattle.mqb_model.specs.calls.hear.Streams.{acknowledged_in, hear_order_ack}
use Rattle.mqb_model.specs.managers.Beside as beside
use Rattle.mqb_model.specs.records.Finals.{is_final}
use Rattle.mqb_model.specs.records.Record.{Final, Nothing, Stored}
use Rattle.mqb_model.specs.rules.Arrivals.{refusal_of, storing_refusal}
use Rattle.mqb_model.specs.state.Places.{is_express}
use Rattle.mqb_model.specs.state.Resolving.{is_for_order_layer}

-- how an express message is answered
abbrev pub express_answer : Message → Option Class → Heard
express_answer m None = heard.ExpressPut m.id
express_answer m (Some class) = heard.ExpressBounced class m.id

-- an express message arrives, or is refused
abbrev pub express_arrived : Listening → Message → Option Class → beside.Beside
express_arrived l m refusal = beside.HearsExpress (peer_heard l) l.session.acked l.now m refusal

-- it is put or refused without a record
abbrev pub hear_arriving : Listening → Message → Option Class → HeardOutcome
hear_arriving l m refusal =
    record (heard_as l Nothing (express_answer m refusal)) { beside = express_arrived l m refusal }

-- the order layer takes none
abbrev pub hear_express : Listening → UserPacket → HeardOutcome
hear_express l p = if is_for_order_layer l.manager.state p.message.destination
    then discarded l
    else hear_arriving l p.message (refusal_of l.manager.state p)

-- one message more counts as stored
abbrev pub with_stored : Listening → Listening
with_stored l = record l { session = noted_stored l.session }

-- how a recoverable message is answered
abbrev pub stored_answer : Option Class → Heard
stored_answer None = heard.Stored
stored_answer (Some class) = heard.Bounced class

-- a final acknowledgement is stored
abbrev pub hear_final : Listening → UserPacket → HeardOutcome
hear_final l p =
    heard_as (with_stored l) (Final p) (heard.Final p.message.correlation p.message.class)

-- a message is, put or refused
abbrev pub hear_stored : Listening → UserPacket → HeardOutcome
hear_stored l p =
    heard_as (with_stored l) (Stored p) (stored_answer (storing_refusal l.manager.state p))

-- a recoverable message in order
abbrev pub hear_recoverable : Listening → UserPacket → HeardOutcome
hear_recoverable l p =
    if is_final l.manager.state p.message then hear_final l p else hear_stored l p

-- a message in order
abbrev pub hear_in_order : Listening → UserPacket → HeardOutcome
hear_in_order l p = if is_express p.message.delivery then hear_express l p else hear_recoverable l p

-- a message that acknowledges nothing
abbrev pub hear_message : Listening → Bool → UserPacket → HeardOutcome
hear_message l in_order p = if in_order then hear_in_order l p else discarded l

-- a message that is not transactional
abbrev pub hear_plain : Listening → Bool → UserPacket → HeardOutcome
hear_plain l in_order p = option_map_or (hear_order_ack l)
    (acknowledged_in l.manager.state p.message) (hear_message l in_order p)
