-- Lemmas of Changes.
use Rattle.std.specs.Prelude.{◌≡◌, ◌⊎◌, ℕ, ◌≤◌, List, [], ◌∷◌, length}
use Rattle.std.specs.List.{All}
use Rattle.std.proofs.Common.{⊎_elim, ap, arith}
use Rattle.std.proofs.lemmas.List.{length-take}
use Rattle.std.proofs.lemmas.List.Elements.{All-head, All-tail}
use Rattle.mqb_disk.specs.Picks.{lies_within}
use Rattle.mqb_disk.specs.declared.change.Change.{Change}
use Rattle.mqb_disk.specs.declared.change.Change.TheVariants.{Wrote, Cut}
use Rattle.mqb_disk.specs.Changes.{Step, Left}

step_within : (room : ℕ) (change : Change) (old new : List ℕ) → lies_within room change
    → length old ≤ room → Step change old new → length new ≤ room
step_within room (Wrote at n) old new fits within torn = omega (arith, fits, within, torn.no_longer)
step_within room (Cut n) old new fits within step =
    ⊎_elim (λ same. omega (arith, within, ap length same))
    (λ cut. omega (arith, within, ap length cut, length-take n old)) step

changed_within : (room : ℕ) (changes : List Change) (safe new : List ℕ)
    → All (lies_within room) changes → length safe ≤ room → Left changes safe new
    → length new ≤ room
changed_within room [] safe new fit within left = omega (arith, within, ap length left)
changed_within room (change ∷ changes) safe new fit within left =
    changed_within room changes left.0 new (All-tail (lies_within room) change changes fit)
    (step_within room change safe left.0
    (All-head (lies_within room) change changes fit) within left.1) left.2

-- no crash leaves more than there is room for
pub left_within : (room : ℕ) (changes : List Change) (safe now new : List ℕ)
    → All (lies_within room) changes → length safe ≤ room → length now ≤ room
    → (new ≡ now) ⊎ Left changes safe new → length new ≤ room
left_within room changes safe now new fit within here left =
    ⊎_elim (λ is. omega (arith, here, ap length is))
    (changed_within room changes safe new fit within) left
