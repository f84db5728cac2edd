-- What lasts from one step to the next.
use Rattle.std.proofs.Common.{◌≡◌, ◌≤◌, ◌+◌, ◌++◌, ◌∷◌, List, [], length, ℕ, refl, sym, ap, subst}
use Rattle.std.proofs.Common.{◌∙◌, arith, length-append}
use Rattle.mqb_outside.specs.Disk.{View}
use Rattle.mqb_model.specs.records.Applying.{apply}
use Rattle.mqb_model.specs.records.Record.{Record}
use Rattle.mqb_model.specs.state.Durable.{durable}
use Rattle.mqb_model.specs.state.State.{State}
use Rattle.mqb_moves.specs.Holding.{StaysStored}
use Rattle.mqb_moves.specs.Seats.{IsHeldOn, SeatState}
use Rattle.mqb_moves.specs.lemmas.Stored.{stored_held}
use Rattle.mqb_journal.specs.States.{JournalState}
use Rattle.mqb_seats.specs.Lasting.{KeepsRecords, Lasts, LeadTo}

pub leads_from : (rs : List Record) (s t u : State) → durable t ≡ durable s → LeadTo rs t u
    → LeadTo rs s u
leads_from [] s t u same leads = leads ∙ same
leads_from (r ∷ rs) s t u same (v, is, rest) = (v, is ∙ same, rest)

pub leads_then : (rs qs : List Record) (s t u : State) → LeadTo rs s t → LeadTo qs t u
    → LeadTo (rs ++ qs) s u
leads_then [] qs s t u same more = leads_from qs s t u same more
leads_then (r ∷ rs) qs s t u (v, is, rest) more =
    (v, is, leads_then rs qs (apply v r) t u rest more)

pub keeps_then : {s t u : SeatState} → KeepsRecords s t → KeepsRecords t u → KeepsRecords s u
keeps_then {s} {t} {u} a b = record {
  added = a.added ++ b.added;
  count = omega (arith, a.count, b.count, length-append a.added b.added);
  leads = leads_then a.added b.added s.manager.store.state t.manager.store.state
      u.manager.store.state a.leads b.leads;
}

none_more : (n : ℕ) → n ≡ n + 0
none_more n = omega arith

-- no record more
pub keeps_all : {s t : SeatState} → t.manager.store.journal.count ≡ s.manager.store.journal.count
    → durable t.manager.store.state ≡ durable s.manager.store.state → KeepsRecords s t
keeps_all {s} {t} count same =
    record { added = []; count = count ∙ none_more s.manager.store.journal.count; leads = same }

-- where the manager stays as it is
pub lasts_held : {d e : View} {s : SeatState} → IsHeldOn e s → e.faults ≡ d.faults → Lasts d e s s
lasts_held {d} {e} {s} held same =
    record { held = held; keeps = keeps_all refl refl; faults = omega (arith, same) }

pub lasts_same : {d : View} {s : SeatState} → IsHeldOn d s → Lasts d d s s
lasts_same {d} {s} held = lasts_held held refl

-- where what its store has stays
pub lasts_stored : {d : View} {s t : SeatState} → IsHeldOn d s → StaysStored s t → Lasts d d s t
lasts_stored {d} {s} {t} held stays = record {
  held = stored_held d s t stays held;
  keeps = keeps_all (ap (λ (j : JournalState). j.count) stays.journal) stays.durable;
  faults = omega arith;
}

-- one step and another
pub lasts_then : {d e f : View} {s t u : SeatState} → Lasts d e s t → Lasts e f t u → Lasts d f s u
lasts_then {d} {e} {f} {s} {t} {u} a b = record {
  held = b.held;
  keeps = keeps_then a.keeps b.keeps;
  faults = omega (arith, a.faults, b.faults);
}

pub lasts_then_stored : {d e : View} {s t u : SeatState} → Lasts d e s t → StaysStored t u
    → Lasts d e s u
lasts_then_stored {d} {e} {s} {t} {u} a stays = lasts_then a (lasts_stored a.held stays)

pub stored_then_lasts : {d e : View} {s t u : SeatState} → IsHeldOn d s → StaysStored s t
    → Lasts d e t u → Lasts d e s u
stored_then_lasts {d} {e} {s} {t} {u} held stays b = lasts_then (lasts_stored held stays) b
