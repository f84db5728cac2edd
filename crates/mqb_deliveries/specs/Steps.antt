-- What an event is to the network of a world and to its medium.
use Rattle.std.specs.Prelude.{◌++◌, ◌≡◌, Bool, Err, IsTrue, List, Ok, Option, Result, length}
use Rattle.std.specs.Prelude.{map, ℕ}
use Rattle.mqb_network.specs.Checkpointing.{may_rewrite}
use Rattle.mqb_network.specs.Choices.{Choice, Well}
use Rattle.mqb_network.specs.Events.{Checkpoint, Event, Restart}
use Rattle.mqb_network.specs.Network.{Network}
use Rattle.mqb_network.specs.Runs.{may_fail, may_restart}
use Rattle.mqb_network.specs.Step.{step}
use Rattle.mqb_packet.specs.Plain.{plain_spelling}
use Rattle.mqb_packet.specs.declared.packet.Packet.{Packet}
use Rattle.mqb_posts.specs.Packets.{AreWritable}
use Rattle.mqb_posts.specs.Posting.{HasFront, IsCutOff, IsWithin}
use Rattle.mqb_posts.specs.declared.faults.PostFault.{PostFault}
use Rattle.mqb_posts.specs.declared.faults.PostFault.TheVariants as post
use Rattle.mqb_transcript.specs.declared.replies.Reply.{Reply}
use Rattle.mqb_turns.specs.Counts.{CountsGo}
use Rattle.mqb_turns.specs.Replies.{told}

-- what may be chosen in an event, where the managers have had so many records
abbrev pub may_at : Network → (counts : ℕ → ℕ) → Option Packet → Event → Choice → Bool
may_at n counts p (Restart i) choice = may_restart n i choice
may_at n counts p (Checkpoint i) choice = may_rewrite n i (counts i) choice
may_at n counts p e choice = may_fail (length (step n p e Well).after.written) choice

-- A choice that may be made comes to the reply and to the network, each manager has had as many
-- records more as were written, and each packet that is sent is a string of the medium.
pub record IsStep (n : Network) (counts : ℕ → ℕ) (p : Option Packet) (e : Event) (n_now : Network)
    (counts_now : ℕ → ℕ) (strings strings_now : List (List ℕ)) (given : Reply) : Type 0 where
  pub choice : Choice
  pub may : IsTrue (may_at n counts p e choice)
  pub reply : told (step n p e choice).reply ≡ Ok given
  pub network : (step n p e choice).after.network ≡ n_now
  pub counted : CountsGo counts counts_now (step n p e choice).after.written
  pub posted : strings_now ≡ strings ++ map plain_spelling (step n p e choice).after.sent
  pub writable : AreWritable (step n p e choice).after.sent
  pub within : IsWithin strings_now

-- the strings of the packets of an event, which are those of one in which no disk fails
abbrev pub strings_in : Network → Option Packet → Event → List (List ℕ)
strings_in n p e = map plain_spelling (step n p e Well).after.sent

-- Where there is no reply, one of the wanted strings would not fit the medium, which has those
-- before it; or memory ran out.
abbrev pub IsShort : {T : Type 0} → (wanted strings strings_now : List (List ℕ))
    → Result T PostFault → Type 0
IsShort wanted strings strings_now (Ok done) = Unit {0}
IsShort wanted strings strings_now (Err post.NetFull) = IsCutOff strings strings_now wanted
IsShort wanted strings strings_now (Err post.Memory) = HasFront strings strings_now wanted

-- those of an event
abbrev pub FallsShort : {T : Type 0} → Network → Option Packet → Event
    → (strings strings_now : List (List ℕ)) → Result T PostFault → Type 0
FallsShort n p e strings strings_now result = IsShort (strings_in n p e) strings strings_now result
