-- How the records of stores are counted, event by event.
use Rattle.std.proofs.Common.{◌≡◌, ℕ, ◌+◌, ◌==◌, List, [], ◌++◌, Option, None, Some, length, refl}
use Rattle.std.proofs.Common.{sym, ap, ◌∙◌, arith, length-append}
use Rattle.std.proofs.lemmas.List.Elements.{filter-append}
use Rattle.std.specs.Option.{option_map_or}
use Rattle.std.specs.Prelude.{filter}
use Rattle.mqb_journal.specs.States.{JournalState}
use Rattle.mqb_model.specs.managers.Manager.{Manager}
use Rattle.mqb_model.specs.records.Record.{Record}
use Rattle.mqb_network.specs.Checkpointing.{written_count}
use Rattle.mqb_network.specs.Courses.{Written, written_by}
use Rattle.mqb_script.specs.Managers.{other}
use Rattle.mqb_script.specs.declared.managers.Which.{Which}
use Rattle.mqb_script.specs.declared.managers.Which.TheVariants.{Alpha, Beta}
use Rattle.mqb_seats.specs.Holding.{StaysStored}
use Rattle.mqb_seats.specs.Seats.{SeatState, records_of}
use Rattle.mqb_traffic.specs.Networks.{index_of}
use Rattle.mqb_turns.specs.Counts.{CountsGo, counts_at, counts_with}
use Rattle.mqb_turns.specs.Sides.{Side}

-- no record more
pub none_more : (n : ℕ) → n ≡ n + 0
none_more n = omega arith

pub counts_same : (counts : ℕ → ℕ) → CountsGo counts counts []
counts_same counts which = none_more (counts (index_of which))

-- some records, and then others
pub written_joined : (i : ℕ) (ws vs : List Written)
    → written_count i (ws ++ vs) ≡ written_count i ws + written_count i vs
written_joined i ws vs =
    ap (λ (xs : List Written). length xs) (filter-append (λ (w : Written). w.by == i) ws vs)
    ∙ length-append (filter (λ (w : Written). w.by == i) ws)
    (filter (λ (w : Written). w.by == i) vs)

pub counts_joined : (a b c : ℕ → ℕ) (ws vs : List Written) → CountsGo a b ws → CountsGo b c vs
    → CountsGo a c (ws ++ vs)
counts_joined a b c ws vs first second which =
    let one = first which in
    let two = second which in
    let all = written_joined (index_of which) ws vs in
    omega (arith, one, two, all)

-- from counts that are the same
pub counts_from : (a b c : ℕ → ℕ) (ws : List Written)
    → ((which : Which) → b (index_of which) ≡ a (index_of which)) → CountsGo b c ws
    → CountsGo a c ws
counts_from a b c ws same go which =
    go which ∙ ap (λ (k : ℕ). k + written_count (index_of which) ws) (same which)

-- that of a manager
pub own_count : (which : Which) (x : Side) → counts_at which x (index_of which) ≡ records_of x.own
own_count Alpha x = refl
own_count Beta x = refl

-- what a store has stays
pub stored_count : {s t : SeatState} → StaysStored s t → records_of t ≡ records_of s
stored_count stays = ap (λ (j : JournalState). j.count) stays.journal

-- The record of a manager is its own.

written_own : (which : Which) (m : Manager) (r : Option Record)
    → written_count (index_of which) (written_by (index_of which) m r) ≡ option_map_or (λ _. 1) r 0
written_own Alpha m None = refl
written_own Alpha m (Some r) = refl
written_own Beta m None = refl
written_own Beta m (Some r) = refl

written_other : (which : Which) (m : Manager) (r : Option Record)
    → written_count (index_of (other which)) (written_by (index_of which) m r) ≡ 0
written_other Alpha m None = refl
written_other Alpha m (Some r) = refl
written_other Beta m None = refl
written_other Beta m (Some r) = refl

own_counts : (which : Which) (before after : ℕ) (m : Manager) (r : Option Record)
    → after ≡ before + option_map_or (λ _. 1) r 0
    → after ≡ before + written_count (index_of which) (written_by (index_of which) m r)
own_counts which before after m r own =
    own ∙ ap (λ (k : ℕ). before + k) (sym (written_own which m r))

other_counts : (which : Which) (before after : ℕ) (m : Manager) (r : Option Record) → after ≡ before
    → after ≡ before + written_count (index_of (other which)) (written_by (index_of which) m r)
other_counts which before after m r same =
    same ∙ none_more before ∙ ap (λ (k : ℕ). before + k) (sym (written_other which m r))

-- one manager may have written a record
pub counts_called : (which : Which) (x y : Side) (m : Manager) (r : Option Record)
    → records_of y.own ≡ records_of x.own + option_map_or (λ _. 1) r 0 → StaysStored x.other y.other
    → CountsGo (counts_at which x) (counts_at which y) (written_by (index_of which) m r)
counts_called Alpha x y m r own beside Alpha =
    own_counts Alpha (records_of x.own) (records_of y.own) m r own
counts_called Alpha x y m r own beside Beta =
    other_counts Alpha (records_of x.other) (records_of y.other) m r (stored_count beside)
counts_called Beta x y m r own beside Alpha =
    other_counts Beta (records_of x.other) (records_of y.other) m r (stored_count beside)
counts_called Beta x y m r own beside Beta =
    own_counts Beta (records_of x.own) (records_of y.own) m r own

-- or none has
pub counts_quiet : (which : Which) (x y : Side) → records_of y.own ≡ records_of x.own
    → StaysStored x.other y.other → CountsGo (counts_at which x) (counts_at which y) []
counts_quiet Alpha x y own beside Alpha = own ∙ none_more (records_of x.own)
counts_quiet Alpha x y own beside Beta = stored_count beside ∙ none_more (records_of x.other)
counts_quiet Beta x y own beside Alpha = stored_count beside ∙ none_more (records_of x.other)
counts_quiet Beta x y own beside Beta = own ∙ none_more (records_of x.own)

pub both_stored : (a b c d : SeatState) → StaysStored a c → StaysStored b d → (which : Which)
    → counts_with c d (index_of which) ≡ counts_with a b (index_of which)
both_stored a b c d first second Alpha = stored_count first
both_stored a b c d first second Beta = stored_count second

pub counts_stored : (which : Which) (x y : Side) → StaysStored x.own y.own
    → StaysStored x.other y.other → CountsGo (counts_at which x) (counts_at which y) []
counts_stored which x y own beside = counts_quiet which x y (stored_count own) beside
