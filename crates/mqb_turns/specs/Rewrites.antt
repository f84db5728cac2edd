-- What it is to the network of a world that a manager writes its state anew.
use Rattle.std.specs.Prelude.{◌↔◌, ◌≡◌, Bool, false, true}
use Rattle.mqb_outside.specs.Disk.{View}
use Rattle.mqb_model.specs.managers.Manager.{is_down}
use Rattle.mqb_network.specs.Checkpointing.{may_rewrite}
use Rattle.mqb_network.specs.Events.{Checkpoint}
use Rattle.mqb_script.specs.declared.managers.Which.{Which}
use Rattle.mqb_seats.specs.Seats.{SeatState, is_far_on, records_of, seated}
use Rattle.mqb_traffic.specs.Networks.{index_of}
use Rattle.mqb_transcript.specs.declared.replies.Reply.{Reply}
use Rattle.mqb_transcript.specs.declared.replies.Reply.TheVariants as reply
use Rattle.mqb_turns.specs.Sides.{Side, network_at}
use Rattle.mqb_turns.specs.Turns.{IsTurnWhere, answers_to}

-- It is told that a store is too far on exactly where its manager is up and its journal says so.
abbrev pub IsFarAsSaid : SeatState → Reply → Type 0
IsFarAsSaid s given = (given ≡ reply.TooFar) ↔ ((is_down (seated s) ≡ false) × (is_far_on s ≡ true))

-- A turn of the network in which the disk may fail without a record, and a store of so many records
-- be too far on; it is told so as the journal says.
pub record IsRewriteTurn (which : Which) (x y : Side) (d e : View) (stopped : Bool)
    (given : Reply) : Type 0 where
  pub turn : IsTurnWhere (may_rewrite (network_at which x) (index_of which) (records_of x.own))
      which x y d e stopped (answers_to which x (Checkpoint (index_of which))) given
  pub far : IsFarAsSaid x.own given
