-- What a restart of the manager in a seat comes to.
use Rattle.std.proofs.Common.{◌≡◌, Bool, true, false, List, Some, ℕ, not, ◌==◌, refl, sym, ap, subst, ◌∙◌, arith}
use Rattle.mqb_outside.specs.Disk.{IsSettled, Switch, View}
use Rattle.mqb_outside.specs.Images.{Each}
use Rattle.mqb_model.specs.laws.Durable.{DurableIsApplied}
use Rattle.mqb_model.specs.managers.Valid.{IsValidManager}
use Rattle.mqb_outside.specs.Faults.{Rose}
use Rattle.mqb_store_laws.specs.Laws.{ImagesOpenToOne}
use Rattle.mqb_store_laws.specs.Settling.{OnlySettles}
use Rattle.mqb_moves.specs.States.{ManagerState, manager_of}
use Rattle.mqb_moves.specs.Calling.{seat_of}
use Rattle.mqb_moves.specs.lemmas.Restarting.{Restarts, StandsForOneList, Starts, held_unread, restarts_so, unread_is}
use Rattle.mqb_moves.specs.Seats.{IsHeldOn, SeatState}
use Rattle.mqb_seats.specs.Opened.{IsAsLeft, IsOpened, NotOpened, opened_by}
use Rattle.mqb_seats.specs.declared.restarting.Opened.{Opened}

-- behind a restart a start reads and syncs
pub as_left : (e f : View) → IsSettled e → Each e.reads (λ c. e.switch.last_left ≡ Some c) → OnlySettles e f → IsAsLeft f
as_left e f settled told settles c left = ap (λ (x : Switch). x.last_left) settles.switch ∙ told c (settled c (settles.run.now c left))

-- the count of records tells what was opened
told_by : (d e : View) (s : SeatState) (n : ManagerState) (kept : Bool) → Restarts e s n kept → e.faults ≡ d.faults → IsOpened d e s (seat_of n) (opened_by kept)
told_by d e s n true r same = record { doubt = r.doubt refl; manager = r.manager; count = r.count; lines = r.lines refl; held = r.held; faults = same }
told_by d e s n false r same = record { manager = r.manager; count = omega (arith, r.count); held = r.held; faults = same }

module _ (opens : ImagesOpenToOne) (d e f : View) (m : ManagerState) (u : Bool) (s : SeatState) (is : record { manager = m; unread = u } ≡ s) (held : IsHeldOn d s)
    (settled : IsSettled e) (one_of : Each e.reads d.leaves) where
  pub opened_so : StandsForOneList → DurableIsApplied → (n : ManagerState) → IsValidManager (manager_of m) → Starts e f n → (c : List ℕ) → e.reads c → f.faults ≡ d.faults
      → IsOpened d f s (seat_of n) (opened_by (not (n.store.journal.count == s.manager.store.journal.count)))
  opened_so lists law n valid starts c told same = told_by d f s n (not (n.store.journal.count == s.manager.store.journal.count))
      (restarts_so opens lists law d e f s n (subst (λ (k : ManagerState). IsValidManager (manager_of k)) manager valid) held starts c told (one_of c told)) same
    where
      manager : m ≡ s.manager
      manager = ap (λ (t : SeatState). t.manager) is

  pub not_opened : OnlySettles e f → Rose d.faults f.faults → NotOpened d f s (record { manager = m; unread = true })
  not_opened settles rose = subst (λ (k : ManagerState). NotOpened d f s (record { manager = k; unread = true })) (sym manager) (record {
    manager = unread_is s;
    count = refl;
    held = held_unread d e f s held settled one_of settles;
    faults = rose;
  })
    where
      manager : m ≡ s.manager
      manager = ap (λ (t : SeatState). t.manager) is
