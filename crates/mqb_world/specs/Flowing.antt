-- Packets that were just sent are delivered in turn.
use Rattle.std.specs.Prelude.{◌≡◌, Bool, List, map, ℕ}
use Rattle.mqb_deliveries.specs.Failing.{CutBehind, FailsAs, failures_at}
use Rattle.mqb_deliveries.specs.Flows.{Flown, sent_behind}
use Rattle.mqb_outside.specs.Disk.{View}
use Rattle.mqb_turns.specs.mqb_seats.Lasting.{Lasts}
use Rattle.mqb_network.specs.Courses.{Course}
use Rattle.mqb_packet.specs.Plain.{plain_spelling}
use Rattle.mqb_packet.specs.declared.packet.Packet.{Packet}
use Rattle.mqb_posts.specs.Packets.{AreWritable}
use Rattle.mqb_transcript.specs.declared.arrivals.Arrival.{Arrival}
use Rattle.mqb_world.specs.Worlds.{WorldState, counts_of, network_of}

-- So many of them were, behind those before, and this became of them, of the
-- world and of both disks.
pub record Flows (w w_now : WorldState) (first first_now second second_now : View)
    (first_stopped second_stopped : Bool) (strings : List (List ℕ)) (now before count : ℕ)
    (arrivals : List Arrival) : Type 0 where
  pub flown : (packets : List Packet) → AreWritable packets → strings ≡ map plain_spelling packets
      → (c : Course) → c.network ≡ network_of w
      → Flown (counts_of w) (counts_of w_now) c now (sent_behind packets before count) arrivals
      (network_of w_now)
  pub notes : (network_of w_now).notes ≡ (network_of w).notes
  pub alpha : Lasts first first_now w.alpha w_now.alpha
  pub beta : Lasts second second_now w.beta w_now.beta
  pub alpha_faults : FailsAs
      (failures_at (network_of w).notes 0 arrivals) first_stopped first.faults first_now.faults
  pub beta_faults : FailsAs
      (failures_at (network_of w).notes 1 arrivals) second_stopped second.faults second_now.faults
  -- no connection stands behind a disk that failed
  pub alpha_cut : CutBehind (failures_at (network_of w).notes 0 arrivals) (network_of w_now)
  pub beta_cut : CutBehind (failures_at (network_of w).notes 1 arrivals) (network_of w_now)
  pub alpha_switch : first_now.switch ≡ first.switch
  pub beta_switch : second_now.switch ≡ second.switch
