-- What the fields of an event keep that their types do not say.
use Rattle.std.specs.Prelude.{◌<◌, ◌≤◌, length}
use Rattle.std.specs.List.{AllByRecursion}
use Rattle.mqb_forms.specs.Values.{MOST_CALL, MOST_ROLL}
use Rattle.mqb_forms.specs.Formed.{IsPlain, IsFormedOp}
use Rattle.mqb_script.specs.declared.grammar.Grammar.{Grammar}
use Rattle.mqb_script.specs.declared.events.Event.{Event}
use Rattle.mqb_script.specs.declared.events.Event.TheVariants.{Queue, Commit, Send, Take, Purge}
use Rattle.mqb_script.specs.declared.events.Event.TheVariants.{Tick, Connect, Disconnect, Pump}
use Rattle.mqb_script.specs.declared.events.Event.TheVariants.{Deliver, Drop, Flow, Resend, Arm}
use Rattle.mqb_script.specs.declared.events.Event.TheVariants.{Restart, Roll, Checkpoint}
use Rattle.mqb_script.specs.Hosts.{count_of, AreEnds, IsEnd}

abbrev pub IsFormed : Grammar → Event → Type 0
IsFormed grammar (Queue manager plan) = manager < count_of grammar
IsFormed grammar (Commit manager now ops) =
    (manager < count_of grammar) × (1 ≤ length ops) × AllByRecursion IsFormedOp ops
IsFormed grammar (Send manager now recoverable parts) = (manager < count_of grammar) × IsPlain parts
IsFormed grammar (Take manager now place) = manager < count_of grammar
IsFormed grammar (Purge manager now place) = manager < count_of grammar
IsFormed grammar (Tick manager now) = manager < count_of grammar
IsFormed grammar (Connect initiator acceptor now own other) =
    AreEnds grammar initiator acceptor × (1 ≤ own) × (1 ≤ other)
IsFormed grammar (Disconnect manager) = IsEnd grammar manager
IsFormed grammar (Pump manager now) = manager < count_of grammar
IsFormed grammar (Deliver packet now) = 1 ≤ packet
IsFormed grammar (Drop packet) = 1 ≤ packet
IsFormed grammar (Flow manager now) = manager < count_of grammar
IsFormed grammar (Resend manager) = manager < count_of grammar
IsFormed grammar (Arm manager call mode) =
    (manager < count_of grammar) × (1 ≤ call) × (call ≤ MOST_CALL)
IsFormed grammar (Restart manager pick) = manager < count_of grammar
IsFormed grammar (Roll manager count) =
    (manager < count_of grammar) × (1 ≤ count) × (count ≤ MOST_ROLL)
IsFormed grammar (Checkpoint manager) = manager < count_of grammar
