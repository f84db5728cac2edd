-- What was tried in a draft, and taken back or kept.
use Rattle.std.proofs.Common.{◌∙◌, ap, arith, subst, sym}
use Rattle.std.specs.Prelude.{◌*◌, ◌+◌, ◌≡◌, ◌≤◌, IfSome, IsSomeAnd, List, None, Option, Some, true, ℕ}
use Rattle.mqb_base.specs.Rooms.{WithRooms}
use Rattle.mqb_base.specs.declared.ledger.Line.{Line}
use Rattle.mqb_contents.specs.Changes.{redone}
use Rattle.mqb_contents.specs.Rooms.{StateRooms}
use Rattle.mqb_entries.specs.declared.entry.Entry.{Entry}
use Rattle.mqb_timeouts.specs.declared.work.ExpressWork.{ExpressWork}
use Rattle.mqb_timeouts.specs.declared.work.ExpressWork.TheVariants as work
use Rattle.mqb_model.specs.managers.Beside.{Beside, beside_done}
use Rattle.mqb_model.specs.managers.Outcomes.{recorded}
use Rattle.mqb_model.specs.records.Applying.{effect_of, fits}
use Rattle.mqb_model.specs.records.Counting.{named_count}
use Rattle.mqb_model.specs.records.Reading.{record_in}
use Rattle.mqb_model.specs.records.Record.{Record}
use Rattle.mqb_model.specs.rules.Effects.{Effect}
use Rattle.mqb_model.specs.state.State.{State}
use Rattle.mqb_model.specs.state.Valid.{IsValidState}
use Rattle.mqb_state.specs.Prepared.{IsPrepared, IsPreparedFrom, Preparation}
use Rattle.mqb_state.specs.Together.{IsTried, LeavesValid, count_with, effect_with}

-- What was tried and kept is the effect of both.
pub record Kept (s : State) (o : Option Entry) (b : Beside) (t : State) (lines : List Line) : Type 0 where
  pub effect : IsTried s o (λ r. effect_with s r b ≡ record { state = t; lines = lines })
  pub valid : IsValidState t

pub kept_as : (s : State) (o : Option Entry) (b : Beside) (d : Effect) (t : State) (lines : List Line) → t ≡ d.state → lines ≡ d.lines
    → LeavesValid s o b → IsTried s o (λ r. d ≡ effect_with s r b) → Kept s o b t lines
kept_as s o b d t lines state told leaves done = by o leaves done
  where
    same : (r : Option Record) → d ≡ effect_with s r b → effect_with s r b ≡ record { state = t; lines = lines }
    same r done = sym done ∙ sym (ap (λ (x : State). record { state = x; lines = lines }) state ∙ ap (λ (l : List Line). record { state = d.state; lines = l }) told)

    valid : (r : Option Record) → d ≡ effect_with s r b → IsValidState (beside_done b (recorded s r)) → IsValidState t
    valid r done v = subst IsValidState (sym (state ∙ ap (λ (e : Effect). e.state) done)) v

    of_record : (o : Option Record) → IfSome o (λ r. fits s r ≡ true → IsValidState (beside_done b (recorded s (Some r))))
        → IsSomeAnd o (λ r. (fits s r ≡ true) × (d ≡ effect_with s (Some r) b))
        → IsSomeAnd o (λ r. (fits s r ≡ true) × (effect_with s (Some r) b ≡ record { state = t; lines = lines })) × IsValidState t
    of_record None leaves done = absurd done
    of_record (Some r) leaves done = ((done.0, same (Some r) done.1), valid (Some r) done.1 (leaves done.0))

    by : (o : Option Entry) → LeavesValid s o b → IsTried s o (λ r. d ≡ effect_with s r b) → Kept s o b t lines
    by None leaves done = record { effect = same None done; valid = valid None done leaves }
    by (Some e) leaves done = let both = of_record (record_in e) leaves done in record { effect = both.0; valid = both.1 }

-- what leads to where the effect is, with its lines, prepares it
pub prepared_as : (s : State) (o : Option Record) (w : WithRooms State StateRooms) (p : Preparation) (t : State) (lines : List Line) → IsPreparedFrom w p
    → redone w.lists p.changes ≡ t → p.lines ≡ lines → IsSomeAnd o (λ r. (fits s r ≡ true) × (effect_of s r ≡ record { state = t; lines = lines }))
    → IsSomeAnd o (λ r. (fits s r ≡ true) × IsPrepared w p (effect_of s r))
prepared_as s None w p t lines from gives told done = absurd done
prepared_as s (Some r) w p t lines from gives told done = (
  done.0,
  record {
    from = from;
    gives = gives ∙ sym (ap (λ (e : Effect). e.state) done.1);
    lines = told ∙ sym (ap (λ (e : Effect). e.lines) done.1);
  },
)

-- it holds few messages
pub few_as : (s : State) (o : Option Entry) (work : ExpressWork) (count before after : ℕ) → count ≡ after → before ≡ 0
    → IsTried s o (λ r. after ≤ before + 3 * count_with s r work) → IsTried s o (λ r. count ≤ 3 * count_with s r work)
few_as s None work count before after same none few = omega (arith, same, none, few)
few_as s (Some e) work count before after same none few = at (record_in e) few
  where
    at : (o : Option Record) → IsSomeAnd o (λ r. (fits s r ≡ true) × (after ≤ before + 3 * count_with s (Some r) work))
        → IsSomeAnd o (λ r. (fits s r ≡ true) × (count ≤ 3 * count_with s (Some r) work))
    at None few = absurd few
    at (Some r) few = (few.0, let small = few.1 in omega (arith, same, none, small))

-- what leads there again holds as few
pub few_named : (s : State) (o : Option Record) (count back : ℕ) → count ≡ back
    → IsSomeAnd o (λ r. (fits s r ≡ true) × (back ≤ 3 * count_with s (Some r) work.Nothing)) → IsSomeAnd o (λ r. count ≤ 3 * named_count s r)
few_named s None count back same few = absurd few
few_named s (Some r) count back same few = let small = few.1 in omega (arith, same, small)
