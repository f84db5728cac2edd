-- The events of one manager alone, and those that call none.
use Rattle.std.specs.Prelude.{◌≡◌, Bool, IsSome, List, None, Option, Result, map, ℕ}
use Rattle.mqb_outside.specs.Disk.{View}
use Rattle.mqb_deliveries.specs.Steps.{FallsShort, IsStep}
use Rattle.mqb_moves.specs.Holding.{StaysStored}
use Rattle.mqb_moves.specs.Seats.{IsHeldOn, records_of}
use Rattle.mqb_network.specs.Runs.{packet_of}
use Rattle.mqb_packet.specs.Plain.{plain_spelling}
use Rattle.mqb_packet.specs.declared.packet.Packet.{Packet}
use Rattle.mqb_posts.specs.Packets.{AreWritable}
use Rattle.mqb_posts.specs.declared.faults.PostFault.{PostFault}
use Rattle.mqb_runs.specs.Events.{event_of}
use Rattle.mqb_script.specs.declared.events.Event.{Event}
use Rattle.mqb_script.specs.declared.events.Event.TheVariants as event
use Rattle.mqb_script.specs.declared.managers.Which.{Which}
use Rattle.mqb_script.specs.declared.managers.Which.TheVariants.{Alpha, Beta}
use Rattle.mqb_traffic.specs.Networks.{index_of, notes_of}
use Rattle.mqb_transcript.specs.declared.replies.Reply.{Reply}
use Rattle.mqb_turns.specs.Counts.{counts_at}
use Rattle.mqb_turns.specs.Sides.{Side, network_at}
use Rattle.mqb_world.specs.Disks.{FarGoes, FaultsGo, RecordsGo, failures_alone, failures_told}
use Rattle.mqb_world.specs.Disks.{rewrites, switching}
use Rattle.mqb_runs.specs.Requests.{actor, request_of}
use Rattle.mqb_world.specs.Worlds.{WorldState, counts_of, network_of}

-- an event is a request of this manager
abbrev pub IsCallOf : Which → Event → Type 0
IsCallOf which e = IsSome (request_of e) × (actor e ≡ index_of which)

-- it is of this manager alone, or of none
abbrev pub IsOf : Which → Event → Type 0
IsOf which (event.Disconnect manager) = manager ≡ 0
IsOf which (event.Drop packet) = Unit {0}
IsOf which (event.Resend manager) = manager ≡ index_of which
IsOf which (event.Pump manager now) = manager ≡ index_of which
IsOf which (event.Checkpoint manager) = manager ≡ index_of which
IsOf which (event.Arm manager call mode) = manager ≡ index_of which
IsOf which (event.Restart manager pick) = manager ≡ index_of which
IsOf which e = IsCallOf which e

-- What it makes of the two managers, the medium and the disk.
pub record IsActed (which : Which) (x y : Side) (d e : View) (stopped : Bool) (asked : Event)
    (strings strings_now : List (List ℕ)) (given : Reply) : Type 0 where
  pub step : IsStep (network_at which x) (counts_at which x) None (event_of asked)
      (network_at which y) (counts_at which y) strings strings_now given
  pub held : IsHeldOn e y.own
  pub beside : StaysStored x.other y.other
  pub faults : FaultsGo asked stopped d.faults e.faults (failures_alone which asked given)
  pub records : RecordsGo (switching which asked) given (records_of x.own) (records_of y.own)
  pub far : FarGoes (rewrites which asked) x.own given

-- What an event makes of a world, its medium and both disks.
pub record Happens (w w_now : WorldState) (q : Option Packet) (asked : Event)
    (strings strings_now : List (List ℕ)) (first first_now second second_now : View)
    (first_stopped second_stopped : Bool) (given : Reply) : Type 0 where
  pub step : IsStep (network_of w) (counts_of w) q (event_of asked) (network_of w_now)
      (counts_of w_now) strings strings_now given
  pub alpha : IsHeldOn first_now w_now.alpha
  pub beta : IsHeldOn second_now w_now.beta
  pub alpha_faults : FaultsGo asked first_stopped first.faults first_now.faults
      (failures_told (notes_of w_now.traffic) Alpha asked given)
  pub beta_faults : FaultsGo asked second_stopped second.faults second_now.faults
      (failures_told (notes_of w_now.traffic) Beta asked given)
  pub alpha_records :
      RecordsGo (switching Alpha asked) given (records_of w.alpha) (records_of w_now.alpha)
  pub beta_records :
      RecordsGo (switching Beta asked) given (records_of w.beta) (records_of w_now.beta)
  pub alpha_far : FarGoes (rewrites Alpha asked) w.alpha given
  pub beta_far : FarGoes (rewrites Beta asked) w.beta given

-- It happens with whatever packets the strings of the medium spell.
abbrev pub HappensAmong : (w w_now : WorldState) → Event → (strings strings_now : List (List ℕ))
    → (first first_now second second_now : View) → (first_stopped second_stopped : Bool) → Reply
    → Type 0
HappensAmong w w_now asked strings strings_now first first_now second second_now first_stopped
    second_stopped given = (packets : List Packet) → AreWritable packets
    → strings ≡ map plain_spelling packets
    → Happens w w_now (packet_of packets (event_of asked)) asked strings strings_now first first_now
    second second_now first_stopped second_stopped given

-- or falls short with them
abbrev pub ShortAmong : {T : Type 0} → WorldState → Event → (strings strings_now : List (List ℕ))
    → Result T PostFault → Type 0
ShortAmong w asked strings strings_now result =
    (packets : List Packet) → AreWritable packets → strings ≡ map plain_spelling packets
    → FallsShort (network_of w) (packet_of packets (event_of asked))
    (event_of asked) strings strings_now result
