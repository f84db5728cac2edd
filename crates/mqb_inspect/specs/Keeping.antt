-- How the messages of one way are found: by the index of their sequence, and by their number there.
use Rattle.std.specs.BTreeMap.{BTreeMap, get}
use Rattle.std.specs.List.{AllByRecursion, slice_get}
use Rattle.std.specs.Option.{option_map_or}
use Rattle.std.specs.Ordering.{is_gt, is_lt, nat_cmp, ordering_then}
use Rattle.std.specs.declared.cmp.Ordering.{Ordering}
use Rattle.std.specs.declared.cmp.Ordering.TheVariants.{Less}
use Rattle.std.specs.Prelude.{◌≡◌, Bool, false, true, IsSome, List, Option, None, Some, ℕ}
use Rattle.mqb_capture.specs.declared.link.Link.{Link}
use Rattle.mqb_inspect.specs.Linking.{fit_both}
use Rattle.mqb_inspect.specs.declared.links.LinkKey.{LinkKey}
use Rattle.mqb_inspect.specs.declared.links.SequenceKey.{SequenceKey}

-- the sequence of a message
abbrev pub sequence_of : Link → SequenceKey
sequence_of n = record { destination = n.message.destination; sequence = n.tx.sequence }

-- No sequence stands twice.
abbrev pub AreOnce : List SequenceKey → Type 0
AreOnce sequences = (i j : ℕ) (key : SequenceKey) → slice_get sequences i ≡ Some key
    → slice_get sequences j ≡ Some key → i ≡ j

-- A message has this key.
pub record HasKey (sequences : List SequenceKey) (n : Link) (key : LinkKey) : Type 0 where
  pub sequence : slice_get sequences key.sequence ≡ Some (sequence_of n)
  pub number : key.number ≡ n.tx.number

-- by the sequence, and then by the number
abbrev pub key_cmp : LinkKey → LinkKey → Ordering
key_cmp a b = ordering_then (nat_cmp a.sequence b.sequence) (nat_cmp a.number b.number)

-- The key of each message that came leads to one that has it.
pub record AreKept (sequences : List SequenceKey) (places : BTreeMap LinkKey ℕ)
    (came : List Link) : Type 0 where
  pub once : AreOnce sequences
  pub all : AllByRecursion
      (λ n. (key : LinkKey) × HasKey sequences n key × IsSome (get key_cmp places key)) came
  pub leads : (key : LinkKey) (place : ℕ) → get key_cmp places key ≡ Some place
      → (n : Link) × (slice_get came place ≡ Some n) × HasKey sequences n key

-- the greatest key before this one leads to a place, or there is none
abbrev pub IsBefore : BTreeMap LinkKey ℕ → LinkKey → Option ℕ → Type 0
IsBefore places key None =
    (other : LinkKey) → key_cmp other key ≡ Less → get key_cmp places other ≡ None
IsBefore places key (Some place) =
    (before : LinkKey) × (get key_cmp places before ≡ Some place) × (key_cmp before key ≡ Less)
    × ((other : LinkKey) → key_cmp other key ≡ Less → IsSome (get key_cmp places other)
    → is_lt (key_cmp before other) ≡ false)

-- and the least one that is this one or behind it
abbrev pub IsFrom : BTreeMap LinkKey ℕ → LinkKey → Option ℕ → Type 0
IsFrom places key None =
    (other : LinkKey) → is_gt (key_cmp key other) ≡ false → get key_cmp places other ≡ None
IsFrom places key (Some place) =
    (from : LinkKey) × (get key_cmp places from ≡ Some place) × (is_gt (key_cmp key from) ≡ false)
    × ((other : LinkKey) → is_gt (key_cmp key other) ≡ false → IsSome (get key_cmp places other)
    → is_gt (key_cmp from other) ≡ false)

-- a message fits the one at a place that was found, or none was
abbrev pub fits_found : List Link → Option ℕ → Link → Bool
fits_found came None n = true
fits_found came (Some place) n = option_map_or (λ kept. fit_both kept n) (slice_get came place) true
