use Rattle.std.specs.Prelude.{ℕ, List, slice_set}
use Rattle.std.specs.Borrow.{Lends, MutBor, Fml, RattleType}
use Rattle.mqb_base.specs.Rooms.{Room}
use Rattle.mqb_base.specs.contracts.roomed.Roomed as roomed

-- what is last written behind the reference is the member at a place, and every other member stays
abbrev pub LendsItem : (R : RattleType) → MutBor (Room R.Denot) → ℕ → MutBor R.Denot → Fml
LendsItem R l at item =
    Lends (roomed.the_row R) R l item (λ w. record l.now { items = slice_set l.now.items at w })
