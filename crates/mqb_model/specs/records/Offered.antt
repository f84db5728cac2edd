-- The record Offered: what it does, and when it fits.
use Rattle.std.specs.List.{list_any}
use Rattle.std.specs.Option.{option_map_or}
use Rattle.std.specs.Prelude.{[], ◌&&◌, ◌==◌, ◌∷◌, Bool, List, false, fold, nat_lt, true, ℕ}
use Rattle.mqb_entries.specs.declared.members.Mark.{Mark}
use Rattle.mqb_orders.specs.Rows.{Row}
use Rattle.mqb_model.specs.rules.Effects.{Effect, begun}
use Rattle.mqb_model.specs.state.Rows.{row_of_ordinal, with_row}
use Rattle.mqb_model.specs.state.State.{State}

-- a row was offered up to a number
abbrev pub with_offered : ℕ → Row → Row
with_offered number row = record row { offered = number }

-- the sequence of a mark was offered up to its number
abbrev pub mark_raised : State → Mark → State
mark_raised s mark = with_row (with_offered mark.number) s mark.ordinal

-- each was
abbrev pub offered_effect : State → List Mark → Effect
offered_effect s marks = begun (fold mark_raised s marks)

-- a mark is of a number that the row keeps, above what was offered
abbrev pub raises_offer : Mark → Row → Bool
raises_offer mark row =
    nat_lt row.offered mark.number && list_any (λ k. k.number == mark.number) row.kept

-- its row is there
abbrev pub mark_fits : State → Mark → Bool
mark_fits s mark = option_map_or (raises_offer mark) (row_of_ordinal s mark.ordinal) false

-- each fits, after those before it
abbrev pub offered_fits : State → List Mark → Bool
offered_fits s [] = true
offered_fits s (mark ∷ marks) = mark_fits s mark && offered_fits (mark_raised s mark) marks
