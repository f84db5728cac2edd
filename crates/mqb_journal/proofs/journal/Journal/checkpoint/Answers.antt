use Rattle.std.proofs.Common.{ℕ, ◌+◌, vec_capacity, [], length, None, Some, ◌≡◌, sym, ap, arith, subst}
use Rattle.std.proofs.lemmas.List.Elements.{All-nil}
use Rattle.mqb_outside.specs.Images.{Each}
use Rattle.mqb_journal.specs.Store.{IsSmall, After}
use Rattle.mqb_layout.specs.declared.layout.Layout.{Layout}
use Rattle.mqb_journal.specs.States.{JournalState}
use Rattle.mqb_journal.specs.Journals.{GoesOn, StandsIn}
use Rattle.mqb_journal.proofs.Outcomes.{ok_fact}
use Rattle.mqb_journal.proofs.journal.Journal.checkpoint.Goals as goal

pub returns-clause-done : goal.returns-clause-done
returns-clause-done g c old records on =
    let at = subst (λ (j : JournalState). GoesOn (g.D.Disk.view c.args.disk.now) j old records) (sym c.self.view_is) on in
    let size : ℕ = length c.args.base.now in
    let next : Layout = c.layout_then-next.result in
    let stands = subst (λ (j : JournalState). Each (g.D.Disk.view c.write_base.new.disk).reads (StandsIn j.guid.0 (Some next) (next.place + 12 + size) (After j.count c.args.base.now) []))
    (sym c.self.view_is) (ok_fact _ _ _ c.in-Ok.is (c.write_base.ensures.done old records on)) in
    let j : JournalState = record { guid = c.self.inside.guid; later = Some next; end = next.place + 12 + size; count = c.self.inside.count; down = c.self.inside.down; room = vec_capacity c.self.inside.block } in
    subst (λ (k : ℕ). GoesOn (g.D.Disk.view c.write_base.new.disk) j (After k c.args.base.now) []) (ap (λ (j : JournalState). j.count) c.self.view_is) (record {
      first = next.place + 12 + size;
      behind = λ none. absurd (let no : Some next ≡ None = none in cc);
      stands = stands;
      small = All-nil IsSmall;
      end = omega arith;
      count = omega arith;
      up = at.up;
    })
