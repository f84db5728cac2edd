use Rattle.std.specs.Prelude.{ℕ, ◌≤◌, Bool, not, ◌==◌, ◌&&◌, List, filter, Option, Some, None}
use Rattle.std.specs.Prelude.{IfSome, if◌then◌else◌}
use Rattle.std.specs.List.{list_any, filter_map}
use Rattle.mqb_base.specs.declared.ledger.Stream.{Stream}
use Rattle.mqb_base.specs.declared.ledger.Line.{Line}
use Rattle.mqb_base.specs.declared.ledger.Line.TheVariants.{Committed, Expired}
use Rattle.mqb_base.specs.Same.{same_guid, same_name}
use Rattle.mqb_base.specs.Sequences.{same_sequence}
use Rattle.mqb_orders.specs.Rows.{greatest_below}

abbrev pub same_stream : Stream → Stream → Bool
same_stream s t = same_guid s.source t.source
    && (same_name s.destination t.destination && same_sequence s.sequence t.sequence)

-- the number that a line commits in a stream
abbrev pub number_committed : Stream → Line → Option ℕ
number_committed s (Committed stream number id) = if same_stream s stream then Some number else None
number_committed s _ = None

-- the number of a stream that a line expires
abbrev pub number_expired : Stream → Line → Option ℕ
number_expired s (Expired stream number id moment) =
    if same_stream s stream then Some number else None
number_expired s _ = None

-- the numbers of a stream that expired at its source
abbrev pub expired_of : Stream → List Line → List ℕ
expired_of s lines = filter_map (λ line. number_expired s line) lines

-- the numbers that were committed and did not expire
abbrev pub kept_of : Stream → List Line → List ℕ
kept_of s lines = filter (λ n. not (list_any (λ m. m == n) (expired_of s lines)))
    (filter_map (λ line. number_committed s line) lines)

-- the greatest kept number below n, or 0
abbrev pub before : Stream → ℕ → List Line → ℕ
before s n lines = greatest_below 0 n (kept_of s lines)

-- a line commits and expires no number of a stream below n
pub record LeavesBelow (s : Stream) (n : ℕ) (line : Line) : Type 0 where
  pub committed : IfSome (number_committed s line) (λ m. n ≤ m)
  pub expired : IfSome (number_expired s line) (λ m. n ≤ m)
