-- Each packet that went can be noted in its turn.
use Rattle.std.proofs.Common.{refl, sym, subst, zero, suc}
use Rattle.std.proofs.lemmas.Option.{none-some}
use Rattle.std.specs.Option.{option_map_or}
use Rattle.std.specs.Prelude.{[], ◌∷◌, ◌≡◌, IsNone, IsSome, IsSomeAnd, List, Option, Some, slice_get, slice_set, ℕ}
use Rattle.mqb_base.specs.declared.heads.SessionHead.{SessionHead}
use Rattle.mqb_base.specs.declared.message.Lane.TheVariants as lane
use Rattle.mqb_plain.specs.Lists.{first_unsent}
use Rattle.mqb_plain.specs.Plain.{MaySend, PlainLists}
use Rattle.mqb_model.specs.Lists.{with_changed}
use Rattle.mqb_model.specs.managers.Beside.{OfExpress, OfRecoverable, OfRow, Origin, Owed, noted, noted_as, with_marked}
use Rattle.mqb_model.specs.state.State.{State}
use Rattle.mqb_choosing.specs.Noting.{AreNextSent, IsNextSent, with_noted}
use Rattle.mqb_store.specs.Noting.{CanNote}
use Rattle.mqb_manager.specs.Pumps.{CanNoteAll}

got_set : {X : Type 0} (xs : List X) (k : ℕ) (x y : X) → slice_get xs k ≡ Some y → slice_get (slice_set xs k x) k ≡ Some x
got_set [] k x y is = absurd (none-some y is)
got_set (z ∷ xs) zero x y is = refl
got_set (z ∷ xs) (suc k) x y is = got_set xs k x y is

got_changed : {X : Type 0} (change : X → X) (xs : List X) (k : ℕ) (x : X) → slice_get xs k ≡ Some x → slice_get (with_changed change xs k) k ≡ Some (change x)
got_changed {X} change xs k x is = subst (λ (o : Option X). slice_get (option_map_or (λ x. slice_set xs k (change x)) o xs) k ≡ Some (change x)) (sym is)
    (got_set xs k (change x) x is)

module _ (peer : ℕ) (head : SessionHead) (s : State) (p : PlainLists) (here : slice_get s.plain peer ≡ Some p) where
  can_note : (o : Origin) → IsNextSent p head o → CanNote peer head s o
  can_note OfRecoverable next = subst (λ (o : Option PlainLists). IsSomeAnd o (λ p. IsSome (first_unsent p.recoverable) × MaySend p head)) (sym here) next
  can_note OfExpress next = subst (λ (o : Option PlainLists). IsSomeAnd o (λ p. IsNone (first_unsent p.recoverable) × MaySend p head)) (sym here) next
  can_note (Owed row) next = tt
  can_note (OfRow row number) next = tt

  still_here : (o : Origin) → slice_get (noted_as peer head s o).plain peer ≡ Some (with_noted p head o)
  still_here OfRecoverable = got_changed (with_marked lane.Durable head.recoverable) s.plain peer p here
  still_here OfExpress = got_changed (with_marked lane.Express head.user) s.plain peer p here
  still_here (Owed row) = here
  still_here (OfRow row number) = here

pub can_note_all : (peer : ℕ) (s : State) (p : PlainLists) (sent : List (Origin × SessionHead)) → slice_get s.plain peer ≡ Some p → AreNextSent p sent
    → CanNoteAll peer s sent
can_note_all peer s p [] here next = tt
can_note_all peer s p (given ∷ sent) here next = (
  can_note peer given.1 s p here given.0 next.0,
  can_note_all peer (noted peer s given) (with_noted p given.1 given.0) sent (still_here peer given.1 s p here given.0) next.1,
)
