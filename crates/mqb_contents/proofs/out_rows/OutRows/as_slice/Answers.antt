use Rattle.std.proofs.Common.{List, subst}
use Rattle.std.specs.List.{All}
use Rattle.std.proofs.lemmas.List.Elements.{All-map}
use Rattle.mqb_base.specs.Rooms.{WithRooms}
use Rattle.mqb_contents.specs.Rooms.{OutRooms}
use Rattle.mqb_contents.specs.Rows.{KeepsCommitted}
use Rattle.mqb_orders.specs.Rows.{Row, row_of}
use Rattle.mqb_contents.proofs.out_rows.OutRows.as_slice.Goals as goal

pub returns-clause-committed : goal.returns-clause-committed
returns-clause-committed c =
    subst (λ (w : WithRooms (List Row) OutRooms). All KeepsCommitted w.lists) c.self.view_is
    (All-map KeepsCommitted row_of c.self.inside.rows.items c.self.invariant.1)
