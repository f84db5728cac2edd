use Rattle.std.proofs.Common.{ℕ, ◌++◌, ap, ◌∙◌}
use Rattle.mqb_snapshot.specs.Spelled.{word}
use Rattle.mqb_snapshot.proofs.Walks.{chained}
use Rattle.mqb_snapshot.proofs.tail.Tail.counters.Goals as goal

pub returns-clause-added : goal.returns-clause-added
returns-clause-added c =
    let s = c.args.contents.now.lists in
    let old = c.args.self.now.text in
    let one = c.in_ok-u32.ensures.added ∙ ap (λ (n : ℕ). old ++ word n) c.next_number.ensures in
    let two = chained word old (word s.next_number) c.u32.new.self.text c.u32-2.new.self.text c.next_ordinal.result s.next_ordinal one c.in_ok-u32-2.ensures.added c.next_ordinal.ensures in
    chained word old (word s.next_number ++ word s.next_ordinal) c.u32-2.new.self.text c.u32-3.new.self.text c.roll.result s.roll two c.in_ok-u32-3.ensures.added c.roll.ensures
