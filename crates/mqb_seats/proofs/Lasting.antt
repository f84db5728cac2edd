-- What lasts of a manager through a call or a restart of it.
use Rattle.std.proofs.Common.{◌≡◌, ◌≤◌, ◌+◌, ◌∷◌, Bool, true, false, cond, List, [], Option, None, Some, Result, Err, ℕ, length, inl, inr, refl, sym, ap, subst, ◌∙◌, arith}
use Rattle.std.specs.Prelude.{IsSome}
use Rattle.mqb_base.specs.declared.ids.Guid.{Guid}
use Rattle.mqb_outside.specs.Disk.{IsSettled, Lawful, View}
use Rattle.mqb_outside.specs.Faults.{Rose}
use Rattle.mqb_outside.specs.Images.{Each}
use Rattle.mqb_journal.specs.States.{JournalState}
use Rattle.mqb_model.specs.managers.Manager.{Manager, doubt_of, is_down}
use Rattle.mqb_model.specs.managers.Outcomes.{Outcome, recorded}
use Rattle.mqb_model.specs.managers.Restarts.{unread}
use Rattle.mqb_model.specs.records.Applying.{apply}
use Rattle.mqb_model.specs.records.Record.{Record}
use Rattle.mqb_model.specs.state.Durable.{durable}
use Rattle.mqb_moves.specs.Calling.{seat_of}
use Rattle.mqb_moves.specs.Calls.{Ends, FailsUnder, IsCall, Succeeds}
use Rattle.mqb_moves.specs.Seats.{IsHeldOn, SeatState, seated}
use Rattle.mqb_moves.specs.States.{IsSame, IsUp, ManagerState, manager_of}
use Rattle.mqb_moves.specs.lemmas.Calling.{broke, not_up_of, up_of}
use Rattle.mqb_moves.specs.lemmas.Restarting.{durable_again}
use Rattle.mqb_moves.specs.mqb_network.Choices.{Failed}
use Rattle.mqb_store_laws.specs.Images.{Opens, OpensTo}
use Rattle.mqb_store_laws.specs.Laws.{ImagesOpenToOne}
use Rattle.mqb_store_laws.specs.Settling.{OnlySettles}
use Rattle.mqb_store_laws.specs.lemmas.Carrying.{on_told, opens_now}
use Rattle.mqb_seats.specs.Lasting.{KeepsRecords, Lasts}
use Rattle.mqb_seats.specs.Opened.{IsOpened, NotOpened, OpenedKept, OpenedSame}
use Rattle.mqb_seats.specs.declared.restarting.Opened.{Opened}
use Rattle.mqb_seats.specs.declared.restarting.Opened.TheVariants as what
use Rattle.mqb_seats.specs.lemmas.Keeping.{keeps_all}

same_faults : (a b : ℕ) → b ≡ a → a ≤ b
same_faults a b same = omega (arith, same)

more_faults : (a b : ℕ) → Rose a b → a ≤ b
more_faults a b rose = omega (arith, rose)

errs : {V E : Type 0} (f g : E) → ◌≡◌ {A = Result V E} (Err f) (Err g) → f ≡ g
errs f g same = cc

-- Calls.

module _ (opened : ImagesOpenToOne) {V E : Type 0} (memory broken : E) (d e : View) (m n : ManagerState) (o : Outcome (Result V E)) (r : Result V E) (call : IsCall memory broken d e m n o r)
    (up : is_down (manager_of m) ≡ false) (differ : memory ≡ broken → ⊥) (never : o.answer ≡ Err broken → ⊥) (lawful : Lawful e) (c : List ℕ) (told : e.reads c) (held : IsHeldOn d (seat_of m)) where
  held_up : length n.store.journal.guid.0 ≡ 16 → IsUp n → IsHeldOn e (seat_of n)
  held_up whole still_up = record {
    whole = whole;
    on = λ _. call.on (held.on up) still_up;
    settled = λ _. call.settled (held.on up) (held.settled up) still_up;
    opens = λ down. absurd (not_up_of n down still_up);
  }

  -- the record of the definition was written, or there is none
  keeps_by : IsUp n → (q : Option Record) → Opens m.store.journal m.store.state q c → KeepsRecords (seat_of m) (seat_of n)
  keeps_by still_up None old =
      let one = opened n.store.journal.guid m.store.journal.guid n.store.journal.count m.store.journal.count (durable n.store.state) (durable m.store.state) c
      (opens_now e n.store.journal n.store.state (call.on (held.on up) still_up) c told) old in
      keeps_all one.0 one.1
  keeps_by still_up (Some x) (inl old) =
      let one = opened n.store.journal.guid m.store.journal.guid n.store.journal.count m.store.journal.count (durable n.store.state) (durable m.store.state) c
      (opens_now e n.store.journal n.store.state (call.on (held.on up) still_up) c told) old in
      keeps_all one.0 one.1
  keeps_by still_up (Some x) (inr new) =
      let one = opened n.store.journal.guid m.store.journal.guid n.store.journal.count (m.store.journal.count + 1) (durable n.store.state) (durable (apply m.store.state x)) c
      (opens_now e n.store.journal n.store.state (call.on (held.on up) still_up) c told) new.0 in
      record { added = x ∷ []; count = one.0; leads = (m.store.state, refl, one.1) }

  went : r ≡ o.answer → Succeeds m n o → Lasts d e (seat_of m) (seat_of n)
  went answer left =
      let still_up = up_of n (ap is_down left.manager ∙ up) in
      record {
        held = held_up (ap (λ (g : Guid). length g.0) left.guid ∙ held.whole) still_up;
        keeps = keeps_by still_up o.entry ((call.moments (held.on up) (held.settled up)).now c (lawful.is_left c told));
        faults = same_faults d.faults e.faults (call.stayed (λ failed. never (sym answer ∙ failed)));
      }

  wanted : r ≡ Err memory → IsSame m n → Lasts d e (seat_of m) (seat_of n)
  wanted answer same =
      let still_up = up_of n (ap is_down same.manager ∙ up) in
      record {
        held = held_up (ap (λ (j : JournalState). length j.guid.0) same.store.journal ∙ held.whole) still_up;
        keeps = keeps_all (ap (λ (j : JournalState). j.count) same.store.journal) (ap durable same.store.state);
        faults = same_faults d.faults e.faults (call.stayed (λ failed. differ (errs memory broken (sym answer ∙ failed))));
      }

  failed : r ≡ Err broken → FailsUnder m n o → Lasts d e (seat_of m) (seat_of n)
  failed answer under = record {
    held = (broke memory broken d e m n o r call up differ never answer Failed).held held;
    keeps = keeps_all under.count (ap (λ (k : Manager). durable k.state) under.manager);
    faults = more_faults d.faults e.faults (call.rose answer);
  }

  -- However a call ends.
  pub call_ends : Lasts d e (seat_of m) (seat_of n)
  call_ends = at call.ends
    where
      at : Ends memory broken m n o r → Lasts d e (seat_of m) (seat_of n)
      at (inl h) = went h.0 h.1
      at (inr (inl h)) = wanted h.0 h.1
      at (inr (inr h)) = failed h.0 h.1

-- Restarts.

-- the state of the network's manager has what the store keeps
seat_state : (s : SeatState) → durable (seated s).state ≡ durable s.manager.store.state
seat_state s = at s.unread
  where
    at : (b : Bool) → durable (cond b (unread (manager_of s.manager)) (manager_of s.manager)).state ≡ durable s.manager.store.state
    at true = durable_again s.manager.store.state
    at false = refl

-- that of a manager which was started without the record in doubt, or could not be
state_back : (s t : SeatState) → (seated t).state ≡ durable (seated s).state → durable t.manager.store.state ≡ durable s.manager.store.state
state_back s t is = sym (seat_state t) ∙ ap durable is ∙ durable_again (seated s).state ∙ seat_state s

keeps_doubt : (d e : View) (s t : SeatState) → OpenedKept d e s t → (q : Option Record) → doubt_of (seated s).condition ≡ q → IsSome q → KeepsRecords s t
keeps_doubt d e s t kept None is some = absurd (let none : ⊥ = cc in none)
keeps_doubt d e s t kept (Some x) is some = record {
  added = x ∷ [];
  count = kept.count;
  leads = (
    (seated s).state,
    seat_state s,
    sym (seat_state t) ∙ ap (λ (k : Manager). durable k.state) kept.manager ∙ durable_again (recorded (seated s).state (doubt_of (seated s).condition))
        ∙ ap (λ (q : Option Record). durable (recorded (seated s).state q)) is,
  );
}

-- However a start ends.
pub opened_lasts : (d e : View) (s t : SeatState) (x : Opened) → IsOpened d e s t x → Lasts d e s t
opened_lasts d e s t what.Same same = record {
  held = same.held;
  keeps = keeps_all same.count (state_back s t (ap (λ (k : Manager). k.state) same.manager));
  faults = same_faults d.faults e.faults same.faults;
}
opened_lasts d e s t what.Kept kept = record {
  held = kept.held;
  keeps = keeps_doubt d e s t kept (doubt_of (seated s).condition) refl kept.doubt;
  faults = same_faults d.faults e.faults kept.faults;
}
opened_lasts d e s t what.Unread none = record {
  held = none.held;
  keeps = keeps_all none.count (state_back s t (ap (λ (k : Manager). k.state) none.manager));
  faults = more_faults d.faults e.faults none.faults;
}

-- Where a start wants memory, the manager of before has a disk that is one of those that it held.
pub unstarted_lasts : (d e f : View) (s : SeatState) → IsHeldOn d s → IsSettled e → Each e.reads d.leaves → OnlySettles e f → f.faults ≡ d.faults → Lasts d f s s
unstarted_lasts d e f s held settled one_of settles same = record {
  held = record {
    whole = held.whole;
    on = λ up. on_told d f s.manager.store.journal s.manager.store.state (held.on up) (λ c told. held.settled up c (one_of c (settles.reads.none_new c told)));
    settled = λ up c left. settles.reads.none_lost c (settled c (settles.run.now c left));
    opens = λ down c left. held.opens down c (one_of c (settled c (settles.run.now c left)));
  };
  keeps = keeps_all refl refl;
  faults = same_faults d.faults f.faults same;
}
