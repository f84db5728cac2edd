-- A call with a disk is a move, and so is one that a manager which is down refuses.
use Rattle.std.proofs.Common.{inl, inr, ap, refl, sym, subst, ◌∙◌, arith, cond}
use Rattle.std.proofs.lemmas.Bool.Decides.{nat_tests}
use Rattle.std.specs.Option.{option_map_or}
use Rattle.std.specs.Prelude.{[], ◌+◌, ◌==◌, ◌≡◌, Bool, Err, None, Option, Result, Some, false}
use Rattle.std.specs.Prelude.{length, true, ℕ}
use Rattle.mqb_base.specs.declared.ids.Guid.{Guid}
use Rattle.mqb_outside.specs.Disk.{View}
use Rattle.mqb_outside.specs.Images.{Each}
use Rattle.mqb_model.specs.laws.Validity.{RefusedIsSame}
use Rattle.mqb_model.specs.managers.Manager.{Condition, Down, Up, doubt_of, is_down}
use Rattle.mqb_model.specs.managers.Outcomes.{Outcome, answering, lines_after, succeeded}
use Rattle.mqb_model.specs.managers.Valid.{IsValidManager}
use Rattle.mqb_model.specs.records.Applying.{lines_of}
use Rattle.mqb_model.specs.records.Reading.{record_of}
use Rattle.mqb_model.specs.records.Record.{Record}
use Rattle.mqb_network.specs.Choices.{Failure}
use Rattle.mqb_manager.specs.Calls.{Ends, FailsUnder, IsCall, Succeeds}
use Rattle.mqb_manager.specs.States.{IsUp, ManagerState, manager_of}
use Rattle.mqb_network.specs.mqb_store_laws.Images.{Opens}
use Rattle.mqb_moves.specs.Moves.{IsMove}
use Rattle.mqb_moves.specs.Seats.{SeatState, records_of, seated}
use Rattle.mqb_moves.specs.Calling.{seat_of, Went}

-- Up and down.

abbrev down_in : Condition → Bool
down_in c = elim c [ Up ↦ false | Down doubt ↦ true ]

up_by : (b : Bool) (r : Option Record) → down_in (cond b (Down r) Up) ≡ false → b ≡ false
up_by false r up = refl
up_by true r up = up

never_both : (b : Bool) → b ≡ true → b ≡ false → ⊥
never_both true is not = let none : ⊥ = cc in none
never_both false is not = let none : ⊥ = cc in none

still_down : (b : Bool) (r : Option Record) → down_in (cond b (Down r) Up) ≡ true → b ≡ false → ⊥
still_down true r down up = never_both true refl up
still_down false r down up = never_both false down refl

-- a manager that is not down is up
pub up_of : (m : ManagerState) → is_down (manager_of m) ≡ false → IsUp m
up_of m up = up_by m.store.journal.down (record_of m.store.entry) up

-- one that is down is not up
pub not_up_of : (m : ManagerState) → is_down (manager_of m) ≡ true → IsUp m → ⊥
not_up_of m down up = still_down m.store.journal.down (record_of m.store.entry) down up

doubt_by : (b : Bool) (r : Option Record) → (b ≡ false → ⊥) → doubt_of (cond b (Down r) Up) ≡ r
doubt_by true r down = refl
doubt_by false r down = absurd (down refl)

-- its entry is in doubt then
pub doubt_is : (m : ManagerState) → (IsUp m → ⊥)
    → doubt_of (manager_of m).condition ≡ record_of m.store.entry
doubt_is m down = doubt_by m.store.journal.down (record_of m.store.entry) down

well : {V E : Type 0} (memory broken : E) (d e : View) (m n : ManagerState)
    (o : Outcome (Result V E)) (r : Result V E) → IsCall memory broken d e m n o r
    → is_down (manager_of m) ≡ false → (r ≡ Err broken → ⊥) → r ≡ o.answer → Succeeds m n o
    → Went d e m n o r
well memory broken d e m n o r call up whole answer left = record {
  answer = answer;
  left = left;
  move = record {
    manager = left.manager;
    counted = left.count;
    fails_where = λ none. absurd (let no : ⊥ = cc in no);
    held = λ held. record {
      whole = ap (λ (g : Guid). length g.0) left.guid ∙ held.whole;
      on = λ _. call.on (held.on up) still_up;
      settled = λ _. call.settled (held.on up) (held.settled up) still_up;
      opens = λ down. absurd (not_up_of n down still_up);
    };
    faults = call.stayed whole;
    switch = call.switch;
  };
}
  where
    still_up : IsUp n
    still_up = up_of n (ap is_down left.manager ∙ up)

-- a call of a manager that is up, which answers neither that memory ran out nor
-- that the disk failed
pub went_well : {V E : Type 0} (memory broken : E) (d e : View) (m n : ManagerState)
    (o : Outcome (Result V E)) (r : Result V E) → IsCall memory broken d e m n o r
    → is_down (manager_of m) ≡ false → (r ≡ Err memory → ⊥) → (r ≡ Err broken → ⊥)
    → Went d e m n o r
went_well memory broken d e m n o r call up rich whole = at call.ends
  where
    at : Ends memory broken m n o r → Went d e m n o r
    at (inl h) = well memory broken d e m n o r call up whole h.0 h.1
    at (inr (inl h)) = absurd (rich h.0)
    at (inr (inr h)) = absurd (whole h.0)

errs : {V E : Type 0} (f g : E) → ◌≡◌ {A = Result V E} (Err f) (Err g) → f ≡ g
errs f g same = cc

-- no record is added
pub none_more : (n : ℕ) → n ≡ n + 0
none_more n = omega arith

-- one that answers that it failed, which the definition never answers
pub broke : {V E : Type 0} (memory broken : E) (d e : View) (m n : ManagerState)
    (o : Outcome (Result V E)) (r : Result V E) → IsCall memory broken d e m n o r
    → is_down (manager_of m) ≡ false → (memory ≡ broken → ⊥) → (o.answer ≡ Err broken → ⊥)
    → r ≡ Err broken → (how : Failure)
    → IsMove d e (seat_of m) (seat_of n) o (Some how)
broke {V} {E} memory broken d e m n o r call up differ never failed_so how = at call.ends
  where
    by : FailsUnder m n o → IsMove d e (seat_of m) (seat_of n) o (Some how)
    by f = record {
      manager = f.manager;
      counted = f.count ∙ none_more m.store.journal.count;
      fails_where = λ _. f.entry;
      held = λ held. record {
        whole = ap (λ (g : Guid). length g.0) f.guid ∙ held.whole;
        on = λ now. absurd (never_both true refl (sym (ap is_down f.manager) ∙ now));
        settled = λ now. absurd (never_both true refl (sym (ap is_down f.manager) ∙ now));
        opens = λ down.
            subst (λ (o : Option Record). Each e.leaves (Opens n.store.journal n.store.state o))
            (sym (doubt_is n (not_up_of n down)))
            (call.doubt (held.on up) (held.settled up) (not_up_of n down));
      };
      faults = call.rose failed_so;
      switch = call.switch;
    }

    at : Ends memory broken m n o r → IsMove d e (seat_of m) (seat_of n) o (Some how)
    at (inl h) = absurd (never (sym h.0 ∙ failed_so))
    at (inr (inl h)) = absurd (differ (errs memory broken (sym h.0 ∙ failed_so)))
    at (inr (inr h)) = by h.1

-- The lines of a call's record: those of the last record, where there is one more.
pub lines_told : {A : Type 0} (m n : ManagerState) (o : Outcome A) → Succeeds m n o
    → cond (n.store.journal.count == m.store.journal.count) [] n.store.lines
    ≡ lines_after (manager_of m) o
lines_told m n o left = at o.entry left.count left.lines
  where
    at : (r : Option Record)
        → n.store.journal.count ≡ m.store.journal.count + option_map_or (λ _. 1) r 0
        → n.store.lines ≡ option_map_or (lines_of m.store.state) r m.store.lines
        → cond (n.store.journal.count == m.store.journal.count) [] n.store.lines
        ≡ option_map_or (lines_of m.store.state) r []
    at None count lines =
        let same : (n.store.journal.count == m.store.journal.count) ≡ true =
        grind (arith, nat_tests) in rw same refl
    at (Some r) count lines =
        let differ : (n.store.journal.count == m.store.journal.count) ≡ false =
        grind (arith, nat_tests) in rw differ lines

-- A manager that is down makes no call.
pub refused_while_down : {V E : Type 0} → RefusedIsSame
    → (d : View) (s : SeatState) (o : Outcome (Result V E)) (r : Result V E)
    → IsValidManager (seated s) → o ≡ answering (seated s) r
    → IsMove d d s s o None
refused_while_down {V} {E} same d s o r valid is = record {
  manager = sym
      (ap (λ (q : Outcome (Result V E)). succeeded (seated s) q) is ∙ same (seated s) true valid);
  counted = none_more (records_of s)
      ∙ ap (λ (q : Outcome (Result V E)). records_of s + option_map_or (λ _. 1) q.entry 0) (sym is);
  fails_where = λ none. absurd (let no : ⊥ = cc in no);
  held = λ held. held;
  faults = refl;
  switch = refl;
}
