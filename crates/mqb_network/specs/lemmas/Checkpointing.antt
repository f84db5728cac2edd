-- What a checkpoint comes to, by the reasons that are against it.
use Rattle.std.proofs.Common.{ap, cond, refl, sym, ◌∙◌}
use Rattle.std.proofs.lemmas.Bool.{true≢false}
use Rattle.std.specs.Prelude.{◌≡◌, Bool, Err, None, Result, Some, false, true}
use Rattle.mqb_journal.specs.declared.faults.CheckpointFault.{CheckpointFault}
use Rattle.mqb_journal.specs.declared.faults.CheckpointFault.TheVariants as fault
use Rattle.mqb_model.specs.managers.Manager.{Manager, is_down}
use Rattle.mqb_model.specs.managers.Outcomes.{answering, unless}
use Rattle.mqb_store_laws.specs.Checkpoints.{checkpoint, checkpoint_made, is_large}

-- It has no record.
pub unrecorded : (m : Manager) (far : Bool) → (checkpoint m far).entry ≡ None
unrecorded m far = at (is_down m) far (is_large m.state)
  where
    at : (down far large : Bool)
        → (unless m (cond down (Some fault.Down)
        (cond far (Some fault.TooFar) (cond large (Some fault.TooLarge) None)))
        (checkpoint_made m)).entry ≡ None
    at true far large = refl
    at false true large = refl
    at false false true = refl
    at false false false = refl

-- A manager that is down says so, whether its store is too far on or not.
pub refused_down : (m : Manager) (far : Bool) → is_down m ≡ true
    → checkpoint m far ≡ answering m (Err fault.Down)
refused_down m far down =
    ap (λ (b : Bool). unless m (cond b (Some fault.Down)
    (cond far (Some fault.TooFar) (cond (is_large m.state) (Some fault.TooLarge) None)))
    (checkpoint_made m)) down

-- an answer says that the disk failed
abbrev says_failed : Result (Unit {0}) CheckpointFault → Bool
says_failed (Err fault.DiskFault) = true
says_failed _ = false

-- It never says so: that is for the code alone.
pub never_failed : (m : Manager) (far : Bool) → (checkpoint m far).answer ≡ Err fault.DiskFault → ⊥
never_failed m far same =
    true≢false (sym (ap says_failed same) ∙ at (is_down m) far (is_large m.state))
  where
    at : (down far large : Bool)
        → says_failed (unless m (cond down (Some fault.Down)
        (cond far (Some fault.TooFar) (cond large (Some fault.TooLarge) None)))
        (checkpoint_made m)).answer ≡ false
    at true far large = refl
    at false true large = refl
    at false false true = refl
    at false false false = refl

-- One of a store that is too far on calls no disk.
pub far_calls_none : (m : Manager) → (checkpoint m true).touches ≡ false
far_calls_none m = at (is_down m)
  where
    at : (down : Bool)
        → (unless m (cond down (Some fault.Down) (Some fault.TooFar)) (checkpoint_made m)).touches
        ≡ false
    at true = refl
    at false = refl
