-- One event.
use Rattle.std.specs.Prelude.{Option}
use Rattle.mqb_packet.specs.declared.packet.Packet.{Packet}
use Rattle.mqb_network.specs.Answers.{Answer, asked_by, only}
use Rattle.mqb_network.specs.Checkpointing.{checkpoint_by}
use Rattle.mqb_network.specs.Choices.{Choice}
use Rattle.mqb_network.specs.Connecting.{connect, disconnect, resend_by}
use Rattle.mqb_network.specs.Courses.{Course, course_from}
use Rattle.mqb_network.specs.Delivering.{deliver, drop_packet}
use Rattle.mqb_network.specs.Events as event
use Rattle.mqb_network.specs.Network.{Network}
use Rattle.mqb_network.specs.Replies as reply
use Rattle.mqb_network.specs.Restarting.{restart}
use Rattle.mqb_network.specs.Sending.{flow, pump_out}

-- an event in the course of others; a packet that it delivers says this
abbrev pub answer_to : event.Event → Option Packet → Choice → Course → Answer
answer_to (event.Asks i request) p choice c = asked_by i request choice c
answer_to (event.Connect a b now window_a window_b) p choice c = connect a b now window_a window_b c
answer_to (event.Disconnect i) p choice c = disconnect i c
answer_to (event.Resend i) p choice c = resend_by i c
answer_to (event.Pump i now) p choice c = pump_out i now choice c
answer_to (event.Deliver k now) p choice c = deliver k p now choice c
answer_to (event.Drop k) p choice c = drop_packet k c
answer_to (event.Flow i now) p choice c = flow i now choice c
answer_to (event.Checkpoint i) p choice c = checkpoint_by i choice c
answer_to (event.Arm i) p choice c = only c reply.Armed
answer_to (event.Restart i) p choice c = restart i choice c

-- The reply to an event, the network after it, and the packets that were sent and the records
-- that were written in it.
abbrev pub step : Network → Option Packet → event.Event → Choice → Answer
step n p e choice = answer_to e p choice (course_from n)
