use Rattle.std.specs.Prelude.{◌≡◌, ℕ, ◌<◌, ◌≤◌, ◌⊎◌, true, List, ◌++◌, All, Contains, Option, Some}
use Rattle.mqb_base.specs.declared.heads.TxHead.{TxHead}
use Rattle.mqb_base.specs.declared.ledger.Stream.{Stream}
use Rattle.mqb_base.specs.declared.ledger.Line.{Line}
use Rattle.mqb_base.specs.Sequences.{same_sequence}
use Rattle.mqb_orders.specs.declared.judging.Verdict.TheVariants.{Next, Duplicate}
use Rattle.mqb_orders.specs.declared.kept.Kept.{Kept}
use Rattle.mqb_orders.specs.declared.rows.InRow.{InRow}
use Rattle.mqb_orders.specs.KeptLists.{Rises, numbers}
use Rattle.mqb_orders.specs.Rows.{greatest_below, link_before, next_kept}
use Rattle.mqb_orders.specs.Rows.{IsGreatestBelow, IsNextAbove}
use Rattle.mqb_orders.specs.Streams.{kept_of, before, LeavesBelow}
use Rattle.mqb_orders.specs.Judging.{decided, verdict_of}

-- Where a packet links to the greatest kept number below its own, and is next, each kept number
-- below its own was decided.
abbrev pub NextLeavesNoneOut : Type 0
NextLeavesNoneOut = (row : Option InRow) (tx : TxHead) (low : ℕ) (kept : List ℕ)
    → tx.previous ≡ greatest_below low tx.number kept → verdict_of row tx ≡ Next
    → All (λ k. k < tx.number → k ≤ decided row tx.sequence) kept

-- What is next has a number above the last decided one.
abbrev pub NextIsAbove : Type 0
NextIsAbove = (row : Option InRow) (tx : TxHead) → verdict_of row tx ≡ Next
    → decided row tx.sequence < tx.number

-- Each number of the row's sequence up to its last decided one is a duplicate.
abbrev pub DecidedIsDuplicate : Type 0
DecidedIsDuplicate = (row : InRow) (tx : TxHead) → same_sequence row.sequence tx.sequence ≡ true
    → tx.number ≤ row.last → verdict_of (Some row) tx ≡ Duplicate

-- A link is the greatest number below a kept one, of the acknowledged number and the kept ones.
abbrev pub LinkIsGreatest : Type 0
LinkIsGreatest = (acked : ℕ) (kept : List Kept) (n : ℕ) → acked < n
    → IsGreatestBelow acked n (numbers kept) (link_before acked kept n)

-- The next kept number is the least one above.
abbrev pub NextKeptIsLeast : Type 0
NextKeptIsLeast = (kept : List Kept) (after : ℕ) → Rises kept
    → IsNextAbove after (numbers kept) (next_kept kept after)

-- What stands before a number stays, whatever is committed and expires from that number on.
abbrev pub BeforeStays : Type 0
BeforeStays = (s : Stream) (n : ℕ) (lines more : List Line) → All (LeavesBelow s n) more
    → before s n (lines ++ more) ≡ before s n lines

-- A row keeps each kept number of its stream above the acknowledged one, and no other above it. The
-- acknowledged one is 0 or a kept number.
pub record KeepsStream (s : Stream) (lines : List Line) (acked : ℕ)
    (kept : List Kept) : Type 0 where
  pub all : All (λ n. acked < n → Contains (numbers kept) n) (kept_of s lines)
  pub only : All (λ n. acked < n → Contains (kept_of s lines) n) (numbers kept)
  pub acked_kept : (acked ≡ 0) ⊎ Contains (kept_of s lines) acked

-- Then a link is the number that stands before in the stream.
abbrev pub LinkIsBefore : Type 0
LinkIsBefore = (s : Stream) (lines : List Line) (acked : ℕ) (kept : List Kept) (n : ℕ)
    → KeepsStream s lines acked kept → acked < n → link_before acked kept n ≡ before s n lines
