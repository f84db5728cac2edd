use Rattle.std.specs.Prelude.{◌≡◌, ℕ, List, [], ◌∷◌}
use Rattle.mqb_outside.specs.Images.{Torn, MayBeCut}
use Rattle.mqb_disk.specs.declared.change.Change.{Change}
use Rattle.mqb_disk.specs.declared.change.Change.TheVariants.{Wrote, Cut}

-- what a crash may leave of one change
abbrev pub Step : Change → List ℕ → List ℕ → Type 0
Step (Wrote at n) old new = Torn at n old new
Step (Cut n) old new = MayBeCut n old new

-- what a crash may leave of these changes, the first of them first, over contents that were safe
abbrev pub Left : List Change → List ℕ → List ℕ → Type 0
Left [] safe new = new ≡ safe
Left (change ∷ changes) safe new =
    (between : List ℕ) × Step change safe between × Left changes between new
