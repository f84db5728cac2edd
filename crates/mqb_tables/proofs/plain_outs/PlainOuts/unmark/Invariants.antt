use Rattle.std.proofs.Common.{◌≡◌, length}
use Rattle.mqb_tables.proofs.Each.{first_changed}
use Rattle.mqb_model.specs.managers.Beside.{all_unmarked}
use Rattle.mqb_tables.proofs.plain_outs.PlainOuts.unmark.Given as goal

abbrev pub invariant-loop-peer : goal.invariant-loop-peer
invariant-loop-peer l = record {
  so_far : l.self ≡ record l.initial.self { lists = first_changed all_unmarked l.initial.self.lists l.peer };
  end : l.peer-end ≡ length l.initial.self.lists;
}
