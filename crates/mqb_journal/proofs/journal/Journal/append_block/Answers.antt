use Rattle.std.proofs.Common.{◌≡◌, [], ◌∷◌, ◌++◌, ℕ, ◌+◌, length, take, drop, sym, ◌∙◌, ap, subst, arith, length-append}
use Rattle.std.proofs.lemmas.List.Elements.{All-push}
use Rattle.mqb_journal.specs.Blocks.{record_of_block}
use Rattle.mqb_journal.specs.States.{JournalState}
use Rattle.mqb_journal.specs.Store.{IsSmall}
use Rattle.mqb_journal.specs.Journals.{GoesOn}
use Rattle.mqb_journal.proofs.Outcomes.{ok_fact}
use Rattle.mqb_journal.proofs.Records.{length-block, length-chain-more, record_stands, closed_at, run_before_or_after}
use Rattle.mqb_journal.proofs.journal.Journal.append_block.Goals as goal

pub returns-in_default-clause-moments : goal.returns-in_default-clause-moments
returns-in_default-clause-moments g c base records on settled =
    let at = ap (λ (j : JournalState). j.end) c.self.view_is in
    run_before_or_after _ _ c.args.self.now base records (record_of_block c.args.block.now) _ c.self.inside.end on c.requires.closed.small at c.requires.closed.closed
    (c.write_behind.ensures.any_moment settled (closed_at _ c.args.self.now base records c.self.inside.end on at))

pub returns-clause-moments : goal.returns-clause-moments
returns-clause-moments g c base records on settled =
    let at = ap (λ (j : JournalState). j.end) c.self.view_is in
    run_before_or_after _ _ c.args.self.now base records (record_of_block c.args.block.now) _ c.self.inside.end on c.requires.closed.small at c.requires.closed.closed
    (c.write_behind.ensures.any_moment settled (closed_at _ c.args.self.now base records c.self.inside.end on at))

pub returns-clause-done : goal.returns-clause-done
returns-clause-done g c base records on =
    let entry = record_of_block c.args.block.now in
    let at : GoesOn (g.D.Disk.view c.args.disk.now) _ base records = subst (λ (j : JournalState). GoesOn (g.D.Disk.view c.args.disk.now) j base records) (sym c.self.view_is) on in
    let written = ok_fact _ _ _ c.in-Ok.is c.write_behind.ensures.written in
    record {
      first = at.first;
      behind = at.behind;
      stands = λ d told. (let from = written d told in record_stands c.self.inside.guid.0 c.self.inside.later at.first c.self.inside.end base records entry c.args.block.now from.0 d (at.stands from.0 from.1) at.end c.requires.closed.closed from.2);
      small = All-push IsSmall records entry at.small c.requires.closed.small;
      end = omega (arith, at.end, length-chain-more records entry, length-block entry, ap length c.requires.closed.closed);
      count = omega (arith, at.count, length-append records (entry ∷ []));
      up = at.up;
    }

pub returns-clause-wrote : goal.returns-clause-wrote
returns-clause-wrote g c =
    let end : c.self.inside.end ≡ c.args.self.now.end = ap (λ (j : JournalState). j.end) c.self.view_is in
    let wrote = ok_fact _ _ _ c.in-Ok.is c.write_behind.ensures.wrote in
    λ f told. (let from = wrote f told in (
      from.0,
      from.1,
      from.2 ∙ ap (λ (k : ℕ). take k from.0 ++ (1 ∷ c.args.block.now) ++ drop (k + length (1 ∷ c.args.block.now)) from.0) end,
    ))
