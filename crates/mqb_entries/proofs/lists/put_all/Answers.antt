use Rattle.std.proofs.Common.{arith}
use Rattle.mqb_entries.specs.Writing.{room_of}
use Rattle.mqb_entries.proofs.Walks.{put_begins, put_room, put_more, put_done}
use Rattle.mqb_entries.proofs.lists.put_all.Goals as goal

pub loop-member-init : goal.loop-member-init
loop-member-init g c = put_begins g.M.Member.spelled g.M.Member.fits c.args.members.now c.args.out.now.items (room_of c.args.out.now) c.requires

pub put-requires : goal.put-requires
put-requires g c =
    put_room g.M.Member.spelled g.M.Member.fits c.args.members.now c.loop-member.member-index c.args.out.now.items c.loop-member.out.items
    (room_of c.args.out.now) (room_of c.loop-member.out) c.member-item.result c.loop-member.invariant c.loop-member-test.true c.member-item.is

pub loop-member-preserved : goal.loop-member-preserved
loop-member-preserved g c =
    put_more g.M.Member.spelled g.M.Member.fits c.args.members.now c.loop-member.member-index c.args.out.now.items c.loop-member.out.items
    (room_of c.args.out.now) (room_of c.loop-member.out) c.member-item.result c.put.new.out.items (room_of c.put.new.out)
    c.loop-member.invariant c.loop-member-test.true c.member-item.is c.put.ensures.items c.put.ensures.room c.put.ensures.fits

pub returns : goal.returns
returns g c =
    let all = put_done g.M.Member.spelled g.M.Member.fits c.args.members.now c.loop-member.member-index c.args.out.now.items c.loop-member.out.items
    (room_of c.args.out.now) (room_of c.loop-member.out) c.loop-member.invariant (omega (arith, c.loop-member-test.false)) in
    record { items = all.items; room = all.room; fits = all.fits }
