-- Which number stands before a kept one, by its row and by the ledger.
use Rattle.std.specs.Prelude.{◌<◌, ◌≡◌, ℕ}
use Rattle.mqb_exactly_once.specs.Words.{In}
use Rattle.mqb_model.specs.state.Rows.{stream_of}
use Rattle.mqb_network.specs.Courses.{Course}
use Rattle.mqb_network.specs.Laws.{Always, lines_written}
use Rattle.mqb_network.specs.Network.{manager_at}
use Rattle.mqb_orders.specs.Laws.{KeepsStream}
use Rattle.mqb_orders.specs.Rows.{Row, link_before}
use Rattle.mqb_orders.specs.Streams.{before}

-- Each outgoing row keeps its stream, as the ledger tells it.
abbrev pub AreStreamsKept : Course → Type 0
AreStreamsKept c = (i : ℕ) (row : Row) → In row (manager_at c.network i).state.outs
    → KeepsStream (stream_of (manager_at c.network i).state row)
    (lines_written c.written) row.acked row.kept

-- So the link of a number above the acknowledged one is the greatest number of the stream below it
-- that was committed and did not expire, or 0.
abbrev pub AreLinksBefore : Course → Type 0
AreLinksBefore c =
    (i : ℕ) (row : Row) (n : ℕ) → In row (manager_at c.network i).state.outs → row.acked < n
    → link_before row.acked row.kept n
    ≡ before (stream_of (manager_at c.network i).state row) n (lines_written c.written)

-- They are so at each point of each run.
abbrev pub LinksAreBefore : Type 0
LinksAreBefore = Always (λ c. AreStreamsKept c × AreLinksBefore c)
