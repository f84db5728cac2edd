use Rattle.std.proofs.Common.{◌≡◌, ◌-◌}
use Rattle.mqb_entries.specs.Lists.{passed}
use Rattle.mqb_entries.proofs.lists.pass_all.Given as goal

abbrev pub invariant-loop : goal.invariant-loop
invariant-loop g l = passed g.M.Member.member_at (l.count - l.counter) l.cursor ≡ passed g.M.Member.member_at l.count l.fn.cursor
