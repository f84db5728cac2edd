use Rattle.std.proofs.Common.{rules, ℕ, List, [], ◌∷◌, ◌++◌, sym, subst}
use Rattle.mqb_journal.specs.Journals.{Lent}
use Rattle.mqb_journal.proofs.scan.Scan.next.Goals as goal

-- what is lent is what the scan has read
pub returns-then-branch : goal.returns-then-branch
returns-then-branch g c = (
  (
    search rules,
    search rules,
    record {
      more = λ base records lent.
          let d = g.D.Disk.view c.advance.new.disk in
          subst (λ (l : List ℕ). Lent d c.advance.new.self base (records ++ l ∷ []))
          (sym c.record.ensures.lent) (c.in_ok-advance.ensures.more base records lent c.if-branch.true);
      all = search rules;
      advanced = search rules;
      ended = search rules;
      within = search rules;
      reached = search rules;
    },
  ),
  search rules,
)
