use Rattle.mqb_entries.specs.Writing.{room_of}
use Rattle.mqb_entries.proofs.Walks.{PutSoFar}
use Rattle.mqb_entries.proofs.lists.put_all.Given as goal

abbrev pub invariant-loop-member : goal.invariant-loop-member
invariant-loop-member g l = PutSoFar g.M.Member.spelled g.M.Member.fits l.members l.member-index l.fn.out.items l.out.items (room_of l.fn.out) (room_of l.out)
