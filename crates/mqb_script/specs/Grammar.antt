-- The event of a line, from the words behind the first one.
use Rattle.std.specs.Prelude.{ℕ, ◌==◌, List, [], ◌∷◌, Result, Ok, Err, if◌then◌else◌}
use Rattle.mqb_fields.specs.Reading.{◌>>=◌}
use Rattle.mqb_forms.specs.declared.faults.LineKind.{LineKind}
use Rattle.mqb_forms.specs.declared.faults.LineKind.TheVariants.{Value}
use Rattle.mqb_forms.specs.Values.{moment_of, packet_of, window_of, call_of, roll_of, mode_of}
use Rattle.mqb_forms.specs.Values.{pick_of, place_of}
use Rattle.mqb_forms.specs.Plans.{plan_of, how_of}
use Rattle.mqb_forms.specs.Sends.{send_of, ops_of}
use Rattle.mqb_script.specs.declared.grammar.Grammar.{Grammar}
use Rattle.mqb_script.specs.declared.grammar.Grammar.TheVariants.{Pair, Ring}
use Rattle.mqb_script.specs.declared.forms.Form.{Form}
use Rattle.mqb_script.specs.declared.forms.Form.TheVariants as form
use Rattle.mqb_script.specs.declared.events.Event.{Event}
use Rattle.mqb_script.specs.declared.events.Event.TheVariants.{Queue, Commit, Send, Take, Purge}
use Rattle.mqb_script.specs.declared.events.Event.TheVariants.{Tick, Connect, Disconnect, Pump}
use Rattle.mqb_script.specs.declared.events.Event.TheVariants.{Deliver, Drop, Flow, Resend, Arm}
use Rattle.mqb_script.specs.declared.events.Event.TheVariants.{Restart, Roll, Checkpoint}
use Rattle.mqb_script.specs.Hosts.{manager_of}

-- a manager and a moment
unfoldable pub at_of : Grammar → List ℕ → List ℕ → Result (ℕ × ℕ) LineKind
at_of grammar manager now = do
  index ← manager_of grammar manager
  moment ← moment_of now
  Ok (index, moment)

unfoldable pub queue_from : Grammar → List (List ℕ) → Result Event LineKind
queue_from grammar (manager ∷ name ∷ kind ∷ quota ∷ journal ∷ guid) = do
  index ← manager_of grammar manager
  plan ← plan_of name kind quota journal guid
  Ok (Queue index plan)
queue_from grammar _ = Err Value

unfoldable pub commit_from : Grammar → List (List ℕ) → Result Event LineKind
commit_from grammar (manager ∷ now ∷ ops) = do
  at ← at_of grammar manager now
  steps ← ops_of ops
  Ok (Commit at.0 at.1 steps)
commit_from grammar _ = Err Value

unfoldable pub sent_with : Grammar → List ℕ → List ℕ → List ℕ → List ℕ → List ℕ
    → Result Event LineKind
sent_with grammar manager now kind priority send = do
  at ← at_of grammar manager now
  how ← how_of kind priority
  parts ← send_of how.1 send
  Ok (Send at.0 at.1 how.0 parts)

unfoldable pub send_event : Grammar → List (List ℕ) → Result Event LineKind
send_event grammar (manager ∷ now ∷ kind ∷ priority ∷ send ∷ []) =
    sent_with grammar manager now kind priority send
send_event grammar _ = Err Value

unfoldable pub take_event : Grammar → List (List ℕ) → Result Event LineKind
take_event grammar (manager ∷ now ∷ place ∷ []) = do
  at ← at_of grammar manager now
  from ← place_of place
  Ok (Take at.0 at.1 from)
take_event grammar _ = Err Value

unfoldable pub purge_from : Grammar → List (List ℕ) → Result Event LineKind
purge_from grammar (manager ∷ now ∷ place ∷ []) = do
  at ← at_of grammar manager now
  from ← place_of place
  Ok (Purge at.0 at.1 from)
purge_from grammar _ = Err Value

unfoldable pub tick_from : Grammar → List (List ℕ) → Result Event LineKind
tick_from grammar (manager ∷ now ∷ []) = do
  at ← at_of grammar manager now
  Ok (Tick at.0 at.1)
tick_from grammar _ = Err Value

-- in a pair the other one accepts, and the windows are those of the first and the second
abbrev pub between_two : ℕ → ℕ → ℕ → ℕ → Event
between_two initiator now first second =
    if initiator == 0 then Connect 0 1 now first second else Connect 1 0 now second first

unfoldable pub connect_pair : List (List ℕ) → Result Event LineKind
connect_pair (manager ∷ now ∷ alpha ∷ beta ∷ []) = do
  at ← at_of Pair manager now
  first ← window_of alpha
  second ← window_of beta
  Ok (between_two at.0 at.1 first second)
connect_pair _ = Err Value

-- in a ring both are named, the initiator first, and so are their windows
unfoldable pub connect_named : Grammar → List (List ℕ) → Result Event LineKind
connect_named grammar (manager ∷ peer ∷ now ∷ own ∷ other ∷ []) = do
  at ← at_of grammar manager now
  acceptor ← manager_of grammar peer
  first ← window_of own
  second ← window_of other
  if at.0 == acceptor then Err Value else Ok (Connect at.0 acceptor at.1 first second)
connect_named grammar _ = Err Value

unfoldable pub connect_from : Grammar → List (List ℕ) → Result Event LineKind
connect_from Pair words = connect_pair words
connect_from (Ring count) words = connect_named (Ring count) words

unfoldable pub disconnect_from : Grammar → List (List ℕ) → Result Event LineKind
disconnect_from Pair [] = Ok (Disconnect 0)
disconnect_from (Ring count) (manager ∷ []) = do
  index ← manager_of (Ring count) manager
  Ok (Disconnect index)
disconnect_from grammar _ = Err Value

unfoldable pub pump_from : Grammar → List (List ℕ) → Result Event LineKind
pump_from grammar (manager ∷ now ∷ []) = do
  at ← at_of grammar manager now
  Ok (Pump at.0 at.1)
pump_from grammar _ = Err Value

unfoldable pub deliver_from : List (List ℕ) → Result Event LineKind
deliver_from (packet ∷ now ∷ []) = do
  number ← packet_of packet
  moment ← moment_of now
  Ok (Deliver number moment)
deliver_from _ = Err Value

unfoldable pub drop_from : List (List ℕ) → Result Event LineKind
drop_from (packet ∷ []) = do
  number ← packet_of packet
  Ok (Drop number)
drop_from _ = Err Value

unfoldable pub flow_from : Grammar → List (List ℕ) → Result Event LineKind
flow_from grammar (manager ∷ now ∷ []) = do
  at ← at_of grammar manager now
  Ok (Flow at.0 at.1)
flow_from grammar _ = Err Value

unfoldable pub resend_from : Grammar → List (List ℕ) → Result Event LineKind
resend_from grammar (manager ∷ []) = do
  index ← manager_of grammar manager
  Ok (Resend index)
resend_from grammar _ = Err Value

unfoldable pub arm_from : Grammar → List (List ℕ) → Result Event LineKind
arm_from grammar (manager ∷ call ∷ mode ∷ []) = do
  index ← manager_of grammar manager
  number ← call_of call
  how ← mode_of mode
  Ok (Arm index number how)
arm_from grammar _ = Err Value

unfoldable pub restart_from : Grammar → List (List ℕ) → Result Event LineKind
restart_from grammar (manager ∷ pick ∷ []) = do
  index ← manager_of grammar manager
  image ← pick_of pick
  Ok (Restart index image)
restart_from grammar _ = Err Value

unfoldable pub roll_from : Grammar → List (List ℕ) → Result Event LineKind
roll_from grammar (manager ∷ count ∷ []) = do
  index ← manager_of grammar manager
  most ← roll_of count
  Ok (Roll index most)
roll_from grammar _ = Err Value

unfoldable pub checkpoint_from : Grammar → List (List ℕ) → Result Event LineKind
checkpoint_from grammar (manager ∷ []) = do
  index ← manager_of grammar manager
  Ok (Checkpoint index)
checkpoint_from grammar _ = Err Value

-- the event that the words of a form describe
unfoldable pub event_from : Grammar → Form → List (List ℕ) → Result Event LineKind
event_from grammar form.Queue words = queue_from grammar words
event_from grammar form.Commit words = commit_from grammar words
event_from grammar form.Send words = send_event grammar words
event_from grammar form.Take words = take_event grammar words
event_from grammar form.Purge words = purge_from grammar words
event_from grammar form.Tick words = tick_from grammar words
event_from grammar form.Connect words = connect_from grammar words
event_from grammar form.Disconnect words = disconnect_from grammar words
event_from grammar form.Pump words = pump_from grammar words
event_from grammar form.Deliver words = deliver_from words
event_from grammar form.Drop words = drop_from words
event_from grammar form.Flow words = flow_from grammar words
event_from grammar form.Resend words = resend_from grammar words
event_from grammar form.Arm words = arm_from grammar words
event_from grammar form.Restart words = restart_from grammar words
event_from grammar form.Roll words = roll_from grammar words
event_from grammar form.Checkpoint words = checkpoint_from grammar words
