use Rattle.std.proofs.Common.{◌∙◌, ◌+◌, ℕ, List, Option, drop, ap, sym}
use Rattle.std.proofs.lemmas.List.{drop_all}
use Rattle.std.specs.List.{cons_option}
use Rattle.std.specs.Prelude.{fold, max}
use Rattle.mqb_choosing.specs.declared.choice.Choice.{Choice}
use Rattle.mqb_choosing.specs.Marks.{greatest_chosen}
use Rattle.mqb_choosing.proofs.Walks.{greatest_more, numbers_in}
use Rattle.mqb_choosing.proofs.marks.greatest_chosen.Goals.{in-Some, in_default}
use Rattle.mqb_choosing.proofs.marks.greatest_chosen.Goals as goal

pub loop-choice-preserved : goal.loop-choice-preserved
loop-choice-preserved c =
    let rest : List ℕ = numbers_in c.args.row (drop (c.loop-choice.choice-index + 1) c.args.choices.now) in
    record {
      left = greatest_more c.args.row c.args.choices.now c.loop-choice.choice-index c.choice-item.result c.number_of_row.result c.loop-choice.greatest c.match-number_of_row.greatest
          (greatest_chosen c.args.choices.now c.args.row) c.loop-choice-test.true c.choice-item.is c.number_of_row.ensures
          (elim c.match-number_of_row.branch [
            | in-Some w ↦ ap (λ (n : ℕ). fold max n rest) (w.greatest-is ∙ w.max-greatest.ensures)
                ∙ sym (ap (λ (o : Option ℕ). fold max c.loop-choice.greatest (cons_option o rest)) w.in-Some.is)
            | in_default w ↦ ap (λ (n : ℕ). fold max n rest) w.greatest-is ∙ sym (ap (λ (o : Option ℕ). fold max c.loop-choice.greatest (cons_option o rest)) w.in_default.is)
          ]) c.loop-choice.invariant.left;
    }

pub returns : goal.returns
returns c = sym (ap (λ (cs : List Choice). fold max c.loop-choice.greatest (numbers_in c.args.row cs)) (drop_all c.loop-choice.choice-index c.args.choices.now c.loop-choice-test.false))
    ∙ c.loop-choice.invariant.left
