use Rattle.mqb_entries.proofs.Walks.{LenSoFar}
use Rattle.mqb_entries.proofs.lists.len_of_all.Given as goal

abbrev pub invariant-loop-member : goal.invariant-loop-member
invariant-loop-member g l = LenSoFar g.M.Member.spelled l.members l.member-index l.len
