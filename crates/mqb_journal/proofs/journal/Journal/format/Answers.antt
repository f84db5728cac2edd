use Rattle.std.proofs.Common.{refl, ◌∙◌, arith}
use Rattle.std.proofs.lemmas.List.Elements.{All-nil}
use Rattle.mqb_journal.specs.Store.{IsSmall}
use Rattle.mqb_journal.proofs.Records.{formatted_stands, formatted_whole}
use Rattle.mqb_journal.proofs.journal.Journal.format.Goals as goal

pub returns-clause-formatted : goal.returns-clause-formatted
returns-clause-formatted g c = record {
  first = 24;
  behind = λ _. refl;
  stands = λ d told. (let from = c.in_ok-write_durably.ensures.written d told in
      formatted_stands c.args.guid.0 _ from.0 d c.empty_store.ensures from.2);
  small = All-nil IsSmall;
  end = refl;
  count = refl;
  up = refl;
}

pub returns-clause-wrote : goal.returns-clause-wrote
returns-clause-wrote g c d told =
    let from = c.in_ok-write_durably.ensures.written d told in
    let long = c.in_ok-len.ensures.length from.0 (c.len.ensures.reads.unchanged.reads.none_new from.0 from.1) in
    formatted_whole _ from.0 d (omega (arith, long, c.if-branch-gt0.false)) from.2 ∙ c.empty_store.ensures
