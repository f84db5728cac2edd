-- What the packets that a manager gives out are to the network, and to the medium.
use Rattle.std.specs.Option.{option_map_or}
use Rattle.std.specs.Prelude.{[], ◌+◌, ◌++◌, ◌≡◌, Bool, Err, IsSome, IsTrue, List, Ok, Result}
use Rattle.std.specs.Prelude.{length, map, ℕ}
use Rattle.mqb_outside.specs.Disk.{View}
use Rattle.mqb_model.specs.calls.pump.Pump.{PumpOutcome, pump}
use Rattle.mqb_seats.specs.Holding.{StaysStored}
use Rattle.mqb_seats.specs.Seats.{IsHeldOn, records_of, seated}
use Rattle.mqb_network.specs.Answers.{Answer}
use Rattle.mqb_network.specs.Changes.{failed_at, noted, succeeded_at}
use Rattle.mqb_network.specs.Choices.{Choice, Well}
use Rattle.mqb_network.specs.Runs.{may_fail}
use Rattle.mqb_outside.specs.Faults.{Rose}
use Rattle.mqb_packet.specs.Plain.{plain_spelling}
use Rattle.mqb_posts.specs.Packets.{AreWritable}
use Rattle.mqb_posts.specs.Posting.{HasFront, IsCutOff, IsWithin}
use Rattle.mqb_posts.specs.declared.faults.PostFault.{PostFault}
use Rattle.mqb_posts.specs.declared.faults.PostFault.TheVariants as post
use Rattle.mqb_script.specs.declared.managers.Which.{Which}
use Rattle.mqb_seats.specs.Called.{how_by}
use Rattle.mqb_seats.specs.Pumped.{IsRefused, packets_by}
use Rattle.mqb_seats.specs.declared.packets.Pumped.{Pumped}
use Rattle.mqb_seats.specs.declared.packets.Pumped.TheVariants.{Broke, Refused, Went}
use Rattle.mqb_traffic.specs.Networks.{index_of}
use Rattle.mqb_transcript.specs.declared.replies.Reply.{Reply}
use Rattle.mqb_turns.specs.Counts.{CountsGo, counts_at}
use Rattle.mqb_turns.specs.Replies.{told}
use Rattle.mqb_turns.specs.Sides.{Side, network_at}
use Rattle.mqb_turns.specs.Turns.{FailsAsAnswered}

-- what a pump of the manager comes to
abbrev pub pump_at : Which → Side → ℕ → PumpOutcome
pump_at which x now = pump (seated x.own) now

-- So many packets went and are noted; or the pump was refused; or the disk failed in it, and
-- the connection ended.
abbrev pub Leaves : Which → Side → Side → PumpOutcome → ℕ → Pumped → Type 0
Leaves which x y o now (Went count recorded) = (o.answer ≡ Ok count) × (count ≡ length o.packets)
    × (noted (index_of which) now (length o.packets)
    (succeeded_at (index_of which) o (network_at which x)) ≡ network_at which y)
Leaves which x y o now (Refused given) = IsRefused x.own o given
    × (succeeded_at (index_of which) o (network_at which x) ≡ network_at which y)
    × (network_at which y ≡ network_at which x)
Leaves which x y o now (Broke how) =
    IsSome o.entry × (failed_at (index_of which) o (network_at which x) ≡ network_at which y)

-- the disk failed where that is told
abbrev pub FailsAsTold : Bool → (before after : ℕ) → Pumped → Type 0
FailsAsTold stopped before after (Broke how) = Rose before after × (how ≡ how_by stopped)
FailsAsTold stopped before after _ = after ≡ before

-- how many records that added
abbrev pub records_by : PumpOutcome → Pumped → ℕ
records_by o (Broke how) = 0
records_by o _ = option_map_or (λ _. 1) o.entry 0

-- The packets of a manager went: each is a string of the medium.
pub record IsSent (which : Which) (x y : Side) (d e : View) (stopped : Bool)
    (strings strings_now : List (List ℕ)) (now : ℕ) (pumped : Pumped) : Type 0 where
  pub leaves : Leaves which x y (pump_at which x now) now pumped
  pub posted : strings_now ≡ strings ++ map plain_spelling (packets_by (pump_at which x now) pumped)
  pub within : IsWithin strings_now
  pub writable : AreWritable (packets_by (pump_at which x now) pumped)
  pub counted : records_of y.own ≡ records_of x.own + records_by (pump_at which x now) pumped
  pub held : IsHeldOn d x.own → IsHeldOn e y.own
  pub beside : StaysStored x.other y.other
  pub faults : FailsAsTold stopped d.faults e.faults pumped

-- One of the packets would not fit the medium, which has those before it; or memory ran out.
abbrev pub ComesShort : {T : Type 0} → (strings strings_now : List (List ℕ)) → PumpOutcome
    → Result T PostFault → Type 0
ComesShort strings strings_now o (Ok done) = Unit {0}
ComesShort strings strings_now o (Err post.NetFull) =
    IsCutOff strings strings_now (map plain_spelling o.packets)
ComesShort strings strings_now o (Err post.Memory) =
    HasFront strings strings_now (map plain_spelling o.packets)

-- The event of a pump: a choice that may be made comes to the reply and to the network, and each
-- packet is a string of the medium.
pub record IsPumpTurn (which : Which) (x y : Side) (d e : View) (stopped : Bool)
    (strings strings_now : List (List ℕ)) (answers : Choice → Answer) (given : Reply) : Type 0 where
  pub choice : Choice
  pub may : IsTrue (may_fail (length (answers Well).after.written) choice)
  pub reply : told (answers choice).reply ≡ Ok given
  pub network : (answers choice).after.network ≡ network_at which y
  pub posted : strings_now ≡ strings ++ map plain_spelling (answers choice).after.sent
  pub within : IsWithin strings_now
  pub writable : AreWritable (answers choice).after.sent
  pub counted : CountsGo (counts_at which x) (counts_at which y) (answers choice).after.written
  pub held : IsHeldOn d x.own → IsHeldOn e y.own
  pub beside : StaysStored x.other y.other
  pub faults : FailsAsAnswered stopped d.faults e.faults (answers choice).reply
