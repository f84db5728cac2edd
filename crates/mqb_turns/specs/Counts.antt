-- How many records the stores of two managers have had, and how that goes on.
use Rattle.std.specs.Prelude.{◌+◌, ◌==◌, ◌≡◌, List, if◌then◌else◌, ℕ}
use Rattle.mqb_network.specs.Checkpointing.{written_count}
use Rattle.mqb_network.specs.Courses.{Written}
use Rattle.mqb_script.specs.declared.managers.Which.{Which}
use Rattle.mqb_script.specs.declared.managers.Which.TheVariants.{Alpha, Beta}
use Rattle.mqb_seats.specs.Seats.{SeatState, records_of}
use Rattle.mqb_traffic.specs.Networks.{index_of}
use Rattle.mqb_turns.specs.Sides.{Side}

-- those of alpha and beta, by their indexes
abbrev pub counts_with : (alpha beta : SeatState) → ℕ → ℕ
counts_with alpha beta i = if i == 0 then records_of alpha else records_of beta

-- as one of the two sees it
abbrev pub counts_at : Which → Side → ℕ → ℕ
counts_at Alpha x = counts_with x.own x.other
counts_at Beta x = counts_with x.other x.own

-- Each store has had as many more as were written of its manager.
abbrev pub CountsGo : (counts counts_now : ℕ → ℕ) → List Written → Type 0
CountsGo counts counts_now written = (which : Which)
    → counts_now (index_of which) ≡ counts (index_of which) + written_count (index_of which) written
