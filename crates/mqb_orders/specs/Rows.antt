use Rattle.std.specs.List.{list_any}
use Rattle.std.specs.Option.{option_map_or}
use Rattle.std.specs.Prelude.{◌≡◌, ℕ, ◌<◌, ◌≤◌, ◌==◌, ◌&&◌, ◌⊎◌, Bool, false, not, nat_lt, max}
use Rattle.std.specs.Prelude.{List, All, Contains, MatchOption, filter, fold, find, take}
use Rattle.std.specs.Prelude.{slice_get, Option}
use Rattle.mqb_base.specs.declared.queue_names.QueueName.{QueueName}
use Rattle.mqb_base.specs.declared.ids.SequenceId.{SequenceId}
use Rattle.mqb_base.specs.Same.{same_name}
use Rattle.mqb_orders.specs.declared.kept.Kept.{Kept}
use Rattle.mqb_orders.specs.declared.rows.OutRow.{OutRow}
use Rattle.mqb_orders.specs.KeptLists.{numbers, released}

-- an outgoing row, without its room
pub record Row : Type 0 where
  pub peer : ℕ
  pub destination : QueueName
  pub sequence : SequenceId
  pub committed : ℕ
  pub offered : ℕ
  pub acked : ℕ
  pub kept : List Kept

abbrev pub row_of : OutRow → Row
row_of r = record {
  peer = r.peer;
  destination = r.destination;
  sequence = r.sequence;
  committed = r.committed;
  offered = r.offered;
  acked = r.acked;
  kept = r.kept.items;
}

-- a row leads to a destination at a peer
abbrev pub leads_to : ℕ → QueueName → Row → Bool
leads_to peer destination row = row.peer == peer && same_name row.destination destination

-- a number that is kept was not acknowledged
abbrev pub has_unacknowledged : Row → Bool
has_unacknowledged row = list_any (λ k. nat_lt row.acked k.number) row.kept

-- no earlier row than the one at k leads where it leads and has a number that was not acknowledged
abbrev pub is_open : List Row → ℕ → Bool
is_open rows k = option_map_or (λ row.
    not (list_any (λ r. leads_to row.peer row.destination r && has_unacknowledged r) (take k rows)))
    (slice_get rows k) false

-- a row that is acknowledged up to a number
abbrev pub acknowledged : ℕ → Row → Row
acknowledged number row =
    record row { acked = max row.acked number; kept = released (max row.acked number) row.kept }

-- the greatest of low and the members below n
abbrev pub greatest_below : ℕ → ℕ → List ℕ → ℕ
greatest_below low n xs = fold max low (filter (λ x. nat_lt x n) xs)

-- the number that stands before a kept one: the greatest below it of the acknowledged
-- one and the kept ones
abbrev pub link_before : ℕ → List Kept → ℕ → ℕ
link_before acked kept n = greatest_below acked n (numbers kept)

-- the next kept number
abbrev pub next_kept : List Kept → ℕ → Option ℕ
next_kept kept after = find (λ k. nat_lt after k) (numbers kept)

-- m is the greatest of low and the members below n
pub record IsGreatestBelow (low n : ℕ) (xs : List ℕ) (m : ℕ) : Type 0 where
  pub below : m < n
  pub floor : low ≤ m
  pub member : (m ≡ low) ⊎ Contains xs m
  pub greatest : All (λ x. x < n → x ≤ m) xs

-- the least member above a number
pub record IsLeastAbove (after : ℕ) (xs : List ℕ) (m : ℕ) : Type 0 where
  pub above : after < m
  pub member : Contains xs m
  pub least : All (λ x. after < x → m ≤ x) xs

-- it is the least member above a number, or there is none
abbrev pub IsNextAbove : ℕ → List ℕ → Option ℕ → Type 0
IsNextAbove after xs next =
    MatchOption next (All (λ x. x ≤ after) xs) (λ m. IsLeastAbove after xs m)
