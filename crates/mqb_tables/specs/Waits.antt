-- Plain messages that wait for a peer.
use Rattle.std.specs.Option.{option_map_or}
use Rattle.std.specs.Prelude.{◌≤◌, List, insert, length, slice_get, ℕ}
use Rattle.mqb_base.specs.declared.message.Lane.{Lane}
use Rattle.mqb_plain.specs.Lists.{InOrder}
use Rattle.mqb_plain.specs.Plain.{PlainLists, outgoing_in}
use Rattle.mqb_plain.specs.declared.outgoing.Outgoing.{Outgoing}

-- A plain message can wait in a lane before the one at an index, or at the end:
-- the marks are in order.
abbrev pub CanWait : Lane → ℕ → Outgoing → PlainLists → Type 0
CanWait kind k o p = (k ≤ length (outgoing_in kind p)) × InOrder (insert (outgoing_in kind p) k o)

-- how many plain messages of a lane wait for the peer at an index
abbrev pub plain_count : List PlainLists → ℕ → Lane → ℕ
plain_count plain peer kind =
    option_map_or (λ p. length (outgoing_in kind p)) (slice_get plain peer) 0
