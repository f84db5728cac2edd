use Rattle.mqb_base.specs.declared.message.Delivery.{Delivery}
use Rattle.mqb_base.specs.declared.message.Delivery.TheVariants as delivery
use Rattle.mqb_base.specs.declared.message.Lane.{Lane}
use Rattle.mqb_base.specs.declared.message.Lane.TheVariants as lane

-- the list of a place, or of a peer, that a message of this delivery joins
abbrev pub lane_of : Delivery → Lane
lane_of delivery.Express = lane.Express
lane_of _ = lane.Durable
