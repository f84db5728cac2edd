-- A plain message that left can wait again where it was.
use Rattle.std.proofs.Common.{◌≡◌, ℕ, ◌≤◌, List, Some, insert, length, remove, sym, subst}
use Rattle.std.specs.Prelude.{slice_get}
use Rattle.std.proofs.lemmas.Option.{slice_get_within}
use Rattle.mqb_base.specs.declared.message.Lane.{Lane}
use Rattle.mqb_base.specs.declared.message.Lane.TheVariants as lane
use Rattle.mqb_plain.specs.Lists.{InOrder}
use Rattle.mqb_plain.specs.Plain.{PlainLists, outgoing_in, without}
use Rattle.mqb_plain.specs.declared.outgoing.Outgoing.{Outgoing}
use Rattle.mqb_tables.specs.Waits.{CanWait}
use Rattle.mqb_tables.proofs.Members.{insert-remove, length-removed}

back : (items : List Outgoing) (k : ℕ) (o : Outgoing) → slice_get items k ≡ Some o → InOrder items
    → (k ≤ length (remove items k)) × InOrder (insert (remove items k) k o)
back items k o is order =
    (length-removed items k (slice_get_within items k o is), subst InOrder (sym (insert-remove items k o is)) order)

pub can_wait_back : (kind : Lane) (k : ℕ) (o : Outgoing) (p : PlainLists) → slice_get (outgoing_in kind p) k ≡ Some o → InOrder (outgoing_in kind p)
    → CanWait kind k o (without kind k p)
can_wait_back lane.Durable k o p is order = back p.recoverable k o is order
can_wait_back lane.Express k o p is order = back p.express k o is order
