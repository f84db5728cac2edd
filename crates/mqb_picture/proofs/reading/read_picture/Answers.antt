use Rattle.std.proofs.Common.{◌≡◌, sym, subst, ◌∙◌, Result, Ok, IfOk, IfErr}
use Rattle.mqb_picture.specs.declared.faults.Kind.{Kind}
use Rattle.mqb_picture.specs.Faults.{IsFaultOf}
use Rattle.mqb_picture.specs.Elements.{Progress}
use Rattle.mqb_picture.proofs.Drawing.{split_is}
use Rattle.mqb_picture.proofs.reading.read_picture.Goals as goal

pub returns-clause-ok : goal.returns-clause-ok
returns-clause-ok c =
    subst (λ (whole : Result Progress Kind). IfOk c.read_lines.result (λ p. whole ≡ Ok p))
    (split_is c.args.text.now c.in_ok-lines.lines.items _ _ _ _ c.in_ok-lines.ensures c.deref.ensures.value c.deref-2.ensures.value c.deref-3.ensures.value
    (sym c.transcript_at.ensures ∙ c.in-Some.is))
    c.read_lines.ensures.ok

pub returns-clause-err : goal.returns-clause-err
returns-clause-err c =
    subst (λ (whole : Result Progress Kind). IfErr c.read_lines.result (IsFaultOf whole))
    (split_is c.args.text.now c.in_ok-lines.lines.items _ _ _ _ c.in_ok-lines.ensures c.deref.ensures.value c.deref-2.ensures.value c.deref-3.ensures.value
    (sym c.transcript_at.ensures ∙ c.in-Some.is))
    c.read_lines.ensures.err
