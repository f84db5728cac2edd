use Rattle.std.proofs.Common.{◌≡◌, ◌+◌, ℕ, List, length, take, refl, sym, ◌∙◌, ap, subst, arith}
use Rattle.std.proofs.lemmas.List.{length-take-le}
use Rattle.mqb_layout.specs.Gates.{HasGate}
use Rattle.mqb_journal.specs.Scan.{HasNext, IsBadAt, ReadsOnlyAt}
use Rattle.mqb_journal.specs.States.{ScanState}
use Rattle.mqb_journal.specs.Journals.{Lent}
use Rattle.mqb_journal.proofs.Chains.{next_not_bad}
use Rattle.mqb_journal.proofs.Lending.{lent_more, front_of_written}
use Rattle.mqb_journal.proofs.scan.Scan.advance.Goals as goal

pub returns-clause-more : goal.returns-clause-more
returns-clause-more g c base records lent is =
    let n = c.in_ok-n.n in
    let gate = c.self.inside.gate in
    let buffer = c.read_next.new.buffer in
    let at : Lent (g.D.Disk.view c.args.disk.now) _ base records = subst (λ (s : ScanState). Lent (g.D.Disk.view c.args.disk.now) s base records) (sym c.self.view_is) lent in
    let size : length (take n buffer) ≡ n = length-take-le n buffer (omega (arith, c.in_ok-n.ensures.small, c.read_next.auto.buffer, c.deref_mut.ensures.len, c.self.invariant.room)) in
    let whole = front_of_written n c.self.inside.buffer.len buffer c.self.inside.buffer.items (omega (arith, c.read_next.auto.buffer, c.deref_mut.ensures.len)) in
    lent_more _ _ _ _ base records _ at c.read_next.ensures.reads
    (λ d told. subst (λ (l : List ℕ). HasNext gate l d) (sym whole) (c.in_ok-n.ensures.next d told))
    (omega (arith, ap length whole, size, c.in_ok-n.ensures.small))
    (λ d told. subst (λ (k : ℕ). HasGate (gate + 5 + k) c.in_ok-n.is_open d) (sym (ap length whole ∙ size)) (c.in_ok-n.ensures.gate d told))
    refl refl refl (omega (arith, ap length whole, size, c.from.ensures)) refl refl
    (ap (λ (s : ScanState). s.ended) c.self.view_is ∙ c.requires.going)

pub returns-clause-not_bad : goal.returns-clause-not_bad
returns-clause-not_bad g c d told bad =
    next_not_bad c.self.inside.gate _ d (c.in_ok-n.ensures.next d told)
    (subst (λ (k : ℕ). IsBadAt k d) (sym (ap (λ (s : ScanState). s.gate) c.self.view_is)) bad)

pub returns-clause-no_further : goal.returns-clause-no_further
returns-clause-no_further g c d told =
    subst (λ (s : ScanState). ReadsOnlyAt s.gate (g.D.Disk.view c.args.disk.now).reached (g.D.Disk.view c.read_next.new.disk).reached d) c.self.view_is
    (c.read_next.ensures.no_further d told)
