use Rattle.std.proofs.Common.{◌≡◌, subst}
use Rattle.mqb_base.specs.Rooms.{WithRooms}
use Rattle.mqb_contents.specs.Rooms.{StateRooms}
use Rattle.mqb_contents.specs.mqb_model.state.State.{State}
use Rattle.std.specs.Option.{IsSomeAnd}
use Rattle.std.specs.Prelude.{slice_get}
use Rattle.mqb_contents.specs.mqb_tables.Waits.{plain_count}
use Rattle.mqb_plain.specs.Lists.{InOrder}
use Rattle.mqb_plain.specs.Plain.{outgoing_in}
use Rattle.mqb_drafts.specs.Drafts.{Drafted}
use Rattle.mqb_drafts.proofs.Unsent.{can_wait}
use Rattle.mqb_drafts.proofs.drafts.Draft.push_plain.Goals as goal

pub change-requires : goal.change-requires
change-requires c =
    can_wait c.lane-lane.result c.args.self.now.effect.state.plain c.args.peer c.plain_count-index.result c.args.message
    (subst (λ (d : Drafted). c.plain_count-index.result ≡ plain_count d.effect.state.plain c.args.peer c.lane-lane.result) c.self.view_is
    (subst (λ (w : WithRooms State StateRooms). c.plain_count-index.result ≡ plain_count w.lists.plain c.args.peer c.lane-lane.result) c.deref.ensures c.plain_count-index.ensures.count))
    (subst (λ (d : Drafted). IsSomeAnd (slice_get d.effect.state.plain c.args.peer) (λ p. InOrder (outgoing_in c.lane-lane.result p))) c.self.view_is
    (subst (λ (w : WithRooms State StateRooms). IsSomeAnd (slice_get w.lists.plain c.args.peer) (λ p. InOrder (outgoing_in c.lane-lane.result p))) c.deref.ensures
    c.plain_count-index.ensures.in_order))
