use Rattle.std.specs.Prelude.{◌≡◌, ◌≤◌, false, length, max}
use Rattle.std.specs.Vec.{vec_capacity}
use Rattle.mqb_model.specs.Lists.{grown}
use Rattle.mqb_choosing.proofs.rows.grow.Given as goal

abbrev pub invariant-loop : goal.invariant-loop
invariant-loop l = record {
  items : l.owes.items ≡ grown false l.counter l.fn.owes.items;
  longer : length l.fn.owes.items ≤ l.counter;
  most : l.counter ≤ max l.len (length l.fn.owes.items);
  room : l.len ≤ vec_capacity l.owes;
}
