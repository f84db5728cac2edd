-- The run of a network that stands behind a world and its medium, and what an event makes of it.
use Rattle.std.specs.Prelude.{[], ◌+◌, ◌++◌, ◌∷◌, ◌≡◌, ◌≤◌, Err, IsTrue, List, Ok, Result, length}
use Rattle.std.specs.Prelude.{map, ℕ}
use Rattle.mqb_network.specs.Checkpointing.{written_count}
use Rattle.mqb_network.specs.Choices.{Choice, Well}
use Rattle.mqb_network.specs.Courses.{Course}
use Rattle.mqb_network.specs.Events.{Event}
use Rattle.mqb_network.specs.Runs.{IsRun, Move, after_run, answer, may}
use Rattle.mqb_packet.specs.Plain.{plain_spelling}
use Rattle.mqb_posts.specs.Packets.{AreWritable}
use Rattle.mqb_posts.specs.Posting.{HasFront, IsCutOff, IsWithin}
use Rattle.mqb_script.specs.declared.managers.Which.{Which}
use Rattle.mqb_traffic.specs.Networks.{index_of}
use Rattle.mqb_transcript.specs.declared.replies.Reply.{Reply}
use Rattle.mqb_runs.specs.Hosts.{hosts}
use Rattle.mqb_turns.specs.Replies.{told}
use Rattle.mqb_world.specs.Worlds.{WorldState, counts_of, network_of}
use Rattle.mqb_world.specs.declared.faults.WorldFault.{WorldFault}
use Rattle.mqb_world.specs.declared.faults.WorldFault.TheVariants as fault

-- A course stands behind a world and its medium: the network is its network, and string k is the
-- plain spelling of the k-th packet that was ever sent.
pub record StandsIn (w : WorldState) (strings : List (List ℕ)) (c : Course) : Type 0 where
  pub network : network_of w ≡ c.network
  pub spelled : strings ≡ map plain_spelling c.sent
  pub writable : AreWritable c.sent
  pub within : IsWithin strings
  -- each store has had the records of its identity and of its peer, and those that were written
  pub counted : (which : Which)
      → counts_of w (index_of which) ≡ 2 + written_count (index_of which) c.written
  -- no more connections ever began than packets were sent
  pub begun : w.traffic.connected ≤ length w.traffic.notes

-- and it is that of a run of the two managers
pub record Stands (w : WorldState) (strings : List (List ℕ)) (ms : List Move) : Type 0 where
  pub run : IsRun hosts ms
  pub stands : StandsIn w strings (after_run hosts ms)

-- a move
abbrev pub move_of : Event → Choice → Move
move_of e choice = record { event = e; choice = choice }

-- The run goes on by the event, with a choice that may be made, which the reply shows.
pub record GoesOn (ms : List Move) (e : Event) (given : Reply) (w : WorldState)
    (strings : List (List ℕ)) : Type 0 where
  pub choice : Choice
  pub may : IsTrue (may (after_run hosts ms) e choice)
  pub reply : told (answer (after_run hosts ms) (move_of e choice)).reply ≡ Ok given
  pub stands : Stands w strings (ms ++ move_of e choice ∷ [])

-- the strings of the packets of an event, which are those of a pump that went well
abbrev pub strings_in : List Move → Event → List (List ℕ)
strings_in ms e = map plain_spelling (answer (after_run hosts ms) (move_of e Well)).after.sent

-- What becomes of a run in an event: it goes on; or a packet would not fit the medium, which has
-- those before it; or memory ran out.
abbrev pub Applied : List Move → Event → WorldState → (strings strings_now : List (List ℕ))
    → Result Reply WorldFault → Type 0
Applied ms e w strings strings_now (Ok given) = GoesOn ms e given w strings_now
Applied ms e w strings strings_now (Err fault.NetFull) =
    IsCutOff strings strings_now (strings_in ms e)
Applied ms e w strings strings_now (Err fault.Memory) =
    HasFront strings strings_now (strings_in ms e)
Applied ms e w strings strings_now (Err fault.NotEmpty) = ⊥
Applied ms e w strings strings_now (Err fault.DiskFault) = ⊥
