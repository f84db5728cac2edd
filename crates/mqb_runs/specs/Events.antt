-- What the events of a script ask of a network.
use Rattle.std.specs.Option.{option_map_or}
use Rattle.mqb_network.specs.Events as network
use Rattle.mqb_script.specs.declared.events.Event.{Event}
use Rattle.mqb_script.specs.declared.events.Event.TheVariants as event
use Rattle.mqb_runs.specs.Requests.{actor, request_of}

-- one that is no request
abbrev pub apart : Event → network.Event
apart (event.Connect initiator acceptor now own other) =
    network.Connect initiator acceptor now own other
apart (event.Disconnect manager) = network.Disconnect manager
apart (event.Pump manager now) = network.Pump manager now
apart (event.Deliver packet now) = network.Deliver packet now
apart (event.Drop packet) = network.Drop packet
apart (event.Flow manager now) = network.Flow manager now
apart (event.Resend manager) = network.Resend manager
apart (event.Checkpoint manager) = network.Checkpoint manager
apart (event.Arm manager call mode) = network.Arm manager
apart (event.Restart manager pick) = network.Restart manager
apart _ = network.Disconnect 0

-- one event
abbrev pub event_of : Event → network.Event
event_of asked = option_map_or (network.Asks (actor asked)) (request_of asked) (apart asked)
