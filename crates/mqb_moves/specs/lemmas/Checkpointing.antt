-- A checkpoint of a manager with its disk is a move.
use Rattle.std.proofs.Common.{inl, inr, ap, refl, sym, subst, ◌∙◌}
use Rattle.std.specs.Option.{option_map_or}
use Rattle.std.specs.Prelude.{◌+◌, ◌≡◌, Bool, Err, None, Option, Result, Some, false, length, true}
use Rattle.mqb_base.specs.declared.ids.Guid.{Guid}
use Rattle.mqb_outside.specs.Disk.{View}
use Rattle.mqb_outside.specs.Images.{Each}
use Rattle.mqb_journal.specs.States.{is_too_far}
use Rattle.mqb_journal.specs.declared.faults.CheckpointFault.{CheckpointFault}
use Rattle.mqb_journal.specs.declared.faults.CheckpointFault.TheVariants as fault
use Rattle.mqb_model.specs.laws.Validity.{RefusedIsSame}
use Rattle.mqb_model.specs.managers.Manager.{is_down}
use Rattle.mqb_model.specs.managers.Outcomes.{Outcome, failed_under, succeeded}
use Rattle.mqb_model.specs.managers.Valid.{IsValidManager}
use Rattle.mqb_model.specs.records.Record.{Record}
use Rattle.mqb_network.specs.mqb_store_laws.Images.{Opens}
use Rattle.mqb_network.specs.Choices.{Failure}
use Rattle.mqb_network.specs.lemmas.Checkpointing.{never_failed, refused_down, unrecorded}
use Rattle.mqb_manager.specs.Calls.{Succeeds}
use Rattle.mqb_manager.specs.Checkpoints.{EndsCheckpoint, FailsWithout, IsCheckpoint, checkpoint_of}
use Rattle.mqb_manager.specs.States.{IsUp, ManagerState, manager_of}
use Rattle.mqb_moves.specs.Calling.{seat_of}
use Rattle.mqb_moves.specs.Moves.{IsRewriting}
use Rattle.mqb_moves.specs.Seats.{SeatState, is_far_on, records_of, seated}
use Rattle.mqb_moves.specs.lemmas.Calling.{doubt_is, none_more, not_up_of, up_of}

errs : (f g : CheckpointFault) → ◌≡◌ {A = Result (Unit {0}) CheckpointFault} (Err f) (Err g) → f ≡ g
errs f g same = cc

differ : fault.Memory ≡ fault.DiskFault → ⊥
differ same = let none : ⊥ = cc in none

never_both : (b : Bool) → b ≡ true → b ≡ false → ⊥
never_both true is not = let none : ⊥ = cc in none
never_both false is not = let none : ⊥ = cc in none

module _ (d e : View) (m n : ManagerState) (r : Result (Unit {0}) CheckpointFault)
    (made : IsCheckpoint d e m n r) (up : is_down (manager_of m) ≡ false) where
  went : (r ≡ Err fault.DiskFault → ⊥) → r ≡ (checkpoint_of m).answer
      → Succeeds m n (checkpoint_of m)
      → (r ≡ (checkpoint_of m).answer) × IsRewriting d e (seat_of m) (seat_of n) None
  went whole answer left = (
    answer,
    record {
      manager = left.manager;
      counted = left.count;
      fails_where = λ none. absurd (let no : ⊥ = cc in no);
      held = λ held. record {
        whole = ap (λ (g : Guid). length g.0) left.guid ∙ held.whole;
        on = λ _. made.on (held.on up) still_up;
        settled = λ _. made.settled (held.on up) (held.settled up) still_up;
        opens = λ down. absurd (not_up_of n down still_up);
      };
      faults = made.stayed whole;
      switch = made.switch;
    },
  )
    where
      still_up : IsUp n
      still_up = up_of n (ap is_down left.manager ∙ up)

  -- one that answers neither that memory ran out nor that the disk failed
  pub rewrote : (r ≡ Err fault.Memory → ⊥) → (r ≡ Err fault.DiskFault → ⊥)
      → (r ≡ (checkpoint_of m).answer) × IsRewriting d e (seat_of m) (seat_of n) None
  rewrote rich whole = at made.ends
    where
      at : EndsCheckpoint m n r
          → (r ≡ (checkpoint_of m).answer) × IsRewriting d e (seat_of m) (seat_of n) None
      at (inl h) = went whole h.0 h.1
      at (inr (inl h)) = absurd (rich h.0)
      at (inr (inr h)) = absurd (whole h.0)

  -- one that answers that it failed, which the definition never answers
  pub broke_rewriting : r ≡ Err fault.DiskFault → (how : Failure)
      → IsRewriting d e (seat_of m) (seat_of n) (Some how)
  broke_rewriting failed how = at made.ends
    where
      by : FailsWithout m n → IsRewriting d e (seat_of m) (seat_of n) (Some how)
      by f = record {
        manager = f.manager ∙ ap (failed_under (manager_of m))
            (sym (unrecorded (manager_of m) (is_too_far m.store.journal)));
        counted = f.count ∙ none_more m.store.journal.count;
        fails_where = λ _. f.touches;
        held = λ held. record {
          whole = ap (λ (g : Guid). length g.0) f.guid ∙ held.whole;
          on = λ now. absurd (never_both true refl (sym (ap is_down f.manager) ∙ now));
          settled = λ now. absurd (never_both true refl (sym (ap is_down f.manager) ∙ now));
          opens = λ down.
              subst (λ (o : Option Record). Each e.leaves (Opens n.store.journal n.store.state o))
              (sym (doubt_is n (not_up_of n down)))
              (made.doubt (held.on up) (held.settled up) (not_up_of n down));
        };
        faults = made.rose failed;
        switch = made.switch;
      }

      at : EndsCheckpoint m n r → IsRewriting d e (seat_of m) (seat_of n) (Some how)
      at (inl h) =
          absurd (never_failed (manager_of m) (is_too_far m.store.journal) (sym h.0 ∙ failed))
      at (inr (inl h)) = absurd (differ (errs fault.Memory fault.DiskFault (sym h.0 ∙ failed)))
      at (inr (inr h)) = by h.1

-- A manager that is down writes nothing.
pub refused_rewriting : RefusedIsSame → (d : View) (s : SeatState) → IsValidManager (seated s)
    → is_down (seated s) ≡ true → IsRewriting d d s s None
refused_rewriting same d s valid down = record {
  manager = sym (ap (λ (o : Outcome (Result (Unit {0}) CheckpointFault)). succeeded (seated s) o)
      (refused_down (seated s) (is_far_on s) down) ∙ same (seated s) true valid);
  counted = none_more (records_of s)
      ∙ ap (λ (q : Option Record). records_of s + option_map_or (λ _. 1) q 0)
      (sym (unrecorded (seated s) (is_far_on s)));
  fails_where = λ none. absurd (let no : ⊥ = cc in no);
  held = λ held. held;
  faults = refl;
  switch = refl;
}
