-- A small connection, worked out.
use Rattle.std.specs.Prelude.{[], ◌∷◌, ◌≡◌}
use Rattle.mqb_packet.specs.declared.packet.Packet.TheVariants as packet
use Rattle.mqb_serving.specs.Conversations.{bytes_of}
use Rattle.mqb_serving.specs.Worked.{establish, from_beta, last_ack, order, order_ack}
use Rattle.mqb_serving.specs.Worked.{parameters, pushing}
use Rattle.mqb_serving.specs.declared.purpose.Errand.TheVariants as errand
use Rattle.mqb_serving.specs.declared.purpose.Purpose.TheVariants as purpose
use Rattle.mqb_model.specs.runs.Samples.{alpha, beta}
use Rattle.mqb_capture.specs.Events.{Heard, Sent}
use Rattle.mqb_law_captures.specs.Traces.{events_of}

-- Alpha, which pushes a message to beta, sends and hears in turn: an Establish and Parameters of
-- either, the message and what acknowledges it, and a session acknowledgement.
abbrev pub OneIsTraced : Type 0
OneIsTraced = events_of pushing (purpose.Reach errand.Push 0) 1001 (bytes_of from_beta)
    ≡ Sent (establish alpha beta 1001) ∷ Heard (establish alpha beta 1001) ∷ Sent parameters
    ∷ Heard parameters ∷ Sent order ∷ Heard order_ack ∷ Sent (packet.Ack last_ack) ∷ []
