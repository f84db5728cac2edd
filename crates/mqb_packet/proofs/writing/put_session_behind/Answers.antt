use Rattle.std.proofs.Common.{◌≤◌, ◌+◌, length}
use Rattle.mqb_setup.specs.Sessions.{plain_session}
use Rattle.mqb_packet.specs.Plain.{session_size}
use Rattle.mqb_packet.proofs.Behind.{wrote_behind}
use Rattle.mqb_packet.proofs.writing.put_session_behind.Goals as goal

pub returns-in-Some : goal.returns-in-Some
returns-in-Some c =
    let room : c.args.at + 16 ≤ length c.args.to.now = rw c.in-Some.is at c.requires in
    rw c.in-Some.is (wrote_behind c.args.to.now c.put_session.new.to (plain_session c.in-Some.head) c.args.at c.put_session.result room c.put_session.ensures.put c.put_session.ensures.count)
