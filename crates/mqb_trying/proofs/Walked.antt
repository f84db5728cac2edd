-- Loops that try ops and show them.
use Rattle.std.proofs.Common.{ap, sym, subst, ◌∙◌, append_assoc, drop, get_or, length, take}
use Rattle.std.proofs.lemmas.List.{take_more}
use Rattle.std.proofs.lemmas.List.Elements.{All-push}
use Rattle.std.specs.Prelude.{[], ◌+◌, ◌++◌, ◌<◌, ◌∷◌, ◌≡◌, ◌≤◌, All, Err, List, Ok, Result, map, ℕ}
use Rattle.mqb_base.specs.declared.draft.Op.{Op}
use Rattle.mqb_entries.specs.declared.members.OpView.{OpView}
use Rattle.mqb_fields.specs.Reading.{◌>>=◌}
use Rattle.mqb_model.specs.declared.faults.CommitFault.{CommitFault}
use Rattle.mqb_model.specs.declared.faults.CommitFault.TheVariants as fault
use Rattle.mqb_model.specs.declared.faults.OpFault.{OpFault}
use Rattle.mqb_model.specs.state.State.{State}
use Rattle.mqb_trying.specs.declared.notes.PlannedOp.{PlannedOp}
use Rattle.mqb_trying.specs.Notes.{Noted, record_op}
use Rattle.mqb_trying.specs.Trials.{op_view, shown_ops}
use Rattle.mqb_trying.specs.Trying.{IsRefusedBy, at_op, try_all, try_op}

-- One op more is tried.

pub all_more : (s : State) (now i : ℕ) (n next : Noted) (total : Result Noted CommitFault) (ops : List Op) (op : Op) → drop i ops ≡ op ∷ drop (i + 1) ops
    → try_op s now n op ≡ Ok next → try_all s now i n (drop i ops) ≡ total → try_all s now (i + 1) next (drop (i + 1) ops) ≡ total
all_more s now i n next total ops op front tried left =
    sym (ap (λ (r : Result Noted OpFault). at_op i r >>= λ n. try_all s now (i + 1) n (drop (i + 1) ops)) tried) ∙ sym (ap (try_all s now i n) front) ∙ left

-- One op more is shown.

pub views_more : (i : ℕ) (now next : List OpView) (v : OpView) (op : PlannedOp) (ops : List PlannedOp) (total : List OpView) → drop i ops ≡ op ∷ drop (i + 1) ops
    → v ≡ op_view (record_op op) → next ≡ now ++ v ∷ [] → now ++ shown_ops (drop i ops) ≡ total → next ++ shown_ops (drop (i + 1) ops) ≡ total
views_more i now next v op ops total front is pushed left =
    ap (λ (vs : List OpView). vs ++ shown_ops (drop (i + 1) ops)) pushed
    ∙ append_assoc now (v ∷ []) (shown_ops (drop (i + 1) ops))
    ∙ ap (λ (v : OpView). now ++ (v ∷ shown_ops (drop (i + 1) ops))) is
    ∙ sym (ap (λ (os : List PlannedOp). now ++ shown_ops os) front)
    ∙ left

-- What holds of the members so far.
pub all_taken : {X : Type 0} (P : X → Type 0) (xs : List X) (i : ℕ) (x : X) → i < length xs → x ≡ get_or xs i x → All P (take i xs) → P x → All P (take (i + 1) xs)
all_taken {X} P xs i x within is h px = subst (All P) (sym (take_more xs i x within ∙ ap (λ (y : X). take i xs ++ y ∷ []) (sym is))) (All-push P (take i xs) x h px)
