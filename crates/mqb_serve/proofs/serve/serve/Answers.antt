use Rattle.std.proofs.Common.{Err, Result, ap, refl, subst, sym, ◌∙◌, ◌≡◌}
use Rattle.mqb_journal.specs.Causes.{FaultsAsSaid}
use Rattle.mqb_serving.specs.Conversations.{End}
use Rattle.mqb_serving.specs.declared.faults.ConnFault.{ConnFault}
use Rattle.mqb_serving.specs.Serving.{Answer, Serves, ServesWhole, is_disk_fault, is_read_fault, is_write_fault}
use Rattle.mqb_serve.specs.Talking.{Keeps, stored_of}
use Rattle.mqb_serve.proofs.Closing.{cut_served, cut_whole, disk_is, down_keeps, down_served, down_unlinked, down_whole, end_served, end_whole, gone_keeps, gone_unlinked, gone_up, linked_on, linked_up, not_disk, said_end, up_but}
use Rattle.mqb_serve.proofs.serve.serve.Goals as goal

pub converse-requires-clause-up : goal.converse-requires-clause-up
converse-requires-clause-up g c =
    linked_up c.args.manager.now c.link-linked.new.self c.args.purpose c.role.result c.role.ensures c.link-linked.ensures.left c.link-linked.ensures.journal c.requires.up

pub converse-requires-clause-on : goal.converse-requires-clause-on
converse-requires-clause-on g c =
    linked_on c.args.manager.now c.link-linked.new.self c.args.purpose c.role.result c.role.ensures c.link-linked.ensures.left c.link-linked.ensures.journal (g.D.Disk.view c.args.disk.now) c.requires.up c.requires.on

pub returns-in-Ok-clause-served : goal.returns-in-Ok-clause-served
returns-in-Ok-clause-served g c =
    subst (λ (r : Answer). Serves c.args.purpose c.args.now (stored_of c.args.manager.now) (stored_of c.unlink.new.self) (g.C.Source.held c.args.conn.now) (g.C.Source.held c.converse.new.conn) (g.C.Sink.taken c.args.conn.now) (g.C.Sink.taken c.converse.new.conn) r) (sym c.answer_of.ensures)
    (end_served c.args.manager.now c.link-linked.new.self c.args.purpose c.role.result c.role.ensures c.link-linked.ensures.left c.link-linked.ensures.journal c.args.now c.converse.new.manager (g.C.Source.held c.args.conn.now) (g.C.Source.held c.converse.new.conn) (g.C.Sink.taken c.args.conn.now) (g.C.Sink.taken c.converse.new.conn) c.converse.result c.converse.ensures.converses c.unlink.new.self c.unlink.ensures.left c.in-Ok.end c.in-Ok.is)

pub returns-in-Ok-clause-whole : goal.returns-in-Ok-clause-whole
returns-in-Ok-clause-whole g c =
    subst (λ (r : Answer). ServesWhole r c.args.purpose c.args.now (stored_of c.args.manager.now) (stored_of c.unlink.new.self) (g.C.Source.held c.args.conn.now) (g.C.Sink.taken c.args.conn.now) (g.C.Sink.taken c.converse.new.conn)) (sym c.answer_of.ensures)
    (end_whole c.args.manager.now c.link-linked.new.self c.args.purpose c.role.result c.role.ensures c.link-linked.ensures.left c.link-linked.ensures.journal c.args.now c.converse.new.manager (g.C.Source.held c.args.conn.now) (g.C.Source.held c.converse.new.conn) (g.C.Sink.taken c.args.conn.now) (g.C.Sink.taken c.converse.new.conn) c.converse.result c.converse.ensures.converses c.unlink.new.self c.unlink.ensures.left c.in-Ok.end c.in-Ok.is)

pub returns-in-Ok-clause-unlinked : goal.returns-in-Ok-clause-unlinked
returns-in-Ok-clause-unlinked g c =
    gone_unlinked c.args.manager.now c.link-linked.new.self c.args.purpose c.role.result c.role.ensures c.link-linked.ensures.left c.link-linked.ensures.journal c.args.now c.converse.new.manager (g.C.Source.held c.args.conn.now) (g.C.Source.held c.converse.new.conn) (g.C.Sink.taken c.args.conn.now) (g.C.Sink.taken c.converse.new.conn) c.converse.result c.converse.ensures.converses c.unlink.new.self c.unlink.ensures.left

pub returns-in-Ok-clause-up : goal.returns-in-Ok-clause-up
returns-in-Ok-clause-up g c =
    let k = subst (λ (r : Result End ConnFault). Keeps (g.D.Disk.view c.args.disk.now) (g.D.Disk.view c.converse.new.disk) c.link-linked.new.self c.converse.new.manager r) c.in-Ok.is c.converse.ensures.keeps in
    λ _. gone_up c.args.manager.now c.link-linked.new.self c.args.purpose c.role.result c.role.ensures c.link-linked.ensures.left c.link-linked.ensures.journal c.args.now c.converse.new.manager (g.C.Source.held c.args.conn.now) (g.C.Source.held c.converse.new.conn) (g.C.Sink.taken c.args.conn.now) (g.C.Sink.taken c.converse.new.conn) c.converse.result c.converse.ensures.converses c.unlink.new.self c.unlink.ensures.left k.up

pub returns-in-Ok-clause-disk : goal.returns-in-Ok-clause-disk
returns-in-Ok-clause-disk g c =
    let k = subst (λ (r : Result End ConnFault). Keeps (g.D.Disk.view c.args.disk.now) (g.D.Disk.view c.converse.new.disk) c.link-linked.new.self c.converse.new.manager r) c.in-Ok.is c.converse.ensures.keeps in
    gone_keeps c.args.manager.now c.link-linked.new.self c.args.purpose c.role.result c.role.ensures c.link-linked.ensures.left c.link-linked.ensures.journal c.args.now c.converse.new.manager (g.C.Source.held c.args.conn.now) (g.C.Source.held c.converse.new.conn) (g.C.Sink.taken c.args.conn.now) (g.C.Sink.taken c.converse.new.conn) c.converse.result c.converse.ensures.converses c.unlink.new.self c.unlink.ensures.left (g.D.Disk.view c.args.disk.now) (g.D.Disk.view c.converse.new.disk) c.unlink.ensures.journal c.requires.up k.up k.disk

pub returns-in-Ok-clause-disk_faults : goal.returns-in-Ok-clause-disk_faults
returns-in-Ok-clause-disk_faults g c =
    let k = subst (λ (r : Result End ConnFault). Keeps (g.D.Disk.view c.args.disk.now) (g.D.Disk.view c.converse.new.disk) c.link-linked.new.self c.converse.new.manager r) c.in-Ok.is c.converse.ensures.keeps in
    subst (λ (r : Answer). FaultsAsSaid is_disk_fault (g.D.Disk.view c.args.disk.now).faults (g.D.Disk.view c.converse.new.disk).faults r) (sym c.answer_of.ensures) (said_end is_disk_fault (g.D.Disk.view c.args.disk.now).faults (g.D.Disk.view c.converse.new.disk).faults c.in-Ok.end (λ _. refl) k.faults)

pub returns-in-Ok-clause-read_faults : goal.returns-in-Ok-clause-read_faults
returns-in-Ok-clause-read_faults g c =
    let same : g.C.Source.read_faults c.converse.new.conn ≡ g.C.Source.read_faults c.args.conn.now = subst (λ (r : Result End ConnFault). FaultsAsSaid is_read_fault (g.C.Source.read_faults c.args.conn.now) (g.C.Source.read_faults c.converse.new.conn) r) c.in-Ok.is c.converse.ensures.read_faults in
    subst (λ (r : Answer). FaultsAsSaid is_read_fault (g.C.Source.read_faults c.args.conn.now) (g.C.Source.read_faults c.converse.new.conn) r) (sym c.answer_of.ensures) (said_end is_read_fault (g.C.Source.read_faults c.args.conn.now) (g.C.Source.read_faults c.converse.new.conn) c.in-Ok.end (λ _. refl) same)

pub returns-in-Ok-clause-write_faults : goal.returns-in-Ok-clause-write_faults
returns-in-Ok-clause-write_faults g c =
    let same : g.C.Sink.write_faults c.converse.new.conn ≡ g.C.Sink.write_faults c.args.conn.now = subst (λ (r : Result End ConnFault). FaultsAsSaid is_write_fault (g.C.Sink.write_faults c.args.conn.now) (g.C.Sink.write_faults c.converse.new.conn) r) c.in-Ok.is c.converse.ensures.write_faults in
    subst (λ (r : Answer). FaultsAsSaid is_write_fault (g.C.Sink.write_faults c.args.conn.now) (g.C.Sink.write_faults c.converse.new.conn) r) (sym c.answer_of.ensures) (said_end is_write_fault (g.C.Sink.write_faults c.args.conn.now) (g.C.Sink.write_faults c.converse.new.conn) c.in-Ok.end (λ _. refl) same)

pub returns-then-is_disk_fault-clause-served : goal.returns-then-is_disk_fault-clause-served
returns-then-is_disk_fault-clause-served g c =
    down_served c.args.manager.now c.link-linked.new.self c.args.purpose c.role.result c.role.ensures c.link-linked.ensures.left c.link-linked.ensures.journal c.args.now c.converse.new.manager (g.C.Source.held c.args.conn.now) (g.C.Source.held c.converse.new.conn) (g.C.Sink.taken c.args.conn.now) (g.C.Sink.taken c.converse.new.conn) c.converse.result c.converse.ensures.converses c.in-Err.fault c.in-Err.is (sym c.is_disk_fault.ensures ∙ c.if-is_disk_fault.true)

pub returns-then-is_disk_fault-clause-whole : goal.returns-then-is_disk_fault-clause-whole
returns-then-is_disk_fault-clause-whole g c =
    down_whole c.args.manager.now c.link-linked.new.self c.args.purpose c.role.result c.role.ensures c.link-linked.ensures.left c.link-linked.ensures.journal c.args.now c.converse.new.manager (g.C.Source.held c.args.conn.now) (g.C.Source.held c.converse.new.conn) (g.C.Sink.taken c.args.conn.now) (g.C.Sink.taken c.converse.new.conn) c.converse.result c.converse.ensures.converses c.in-Err.fault c.in-Err.is

pub returns-then-is_disk_fault-clause-unlinked : goal.returns-then-is_disk_fault-clause-unlinked
returns-then-is_disk_fault-clause-unlinked g c =
    down_unlinked c.args.manager.now c.link-linked.new.self c.args.purpose c.role.result c.role.ensures c.link-linked.ensures.left c.link-linked.ensures.journal c.args.now c.converse.new.manager (g.C.Source.held c.args.conn.now) (g.C.Source.held c.converse.new.conn) (g.C.Sink.taken c.args.conn.now) (g.C.Sink.taken c.converse.new.conn) c.converse.result c.converse.ensures.converses c.in-Err.fault c.in-Err.is (sym c.is_disk_fault.ensures ∙ c.if-is_disk_fault.true)

pub returns-then-is_disk_fault-clause-up : goal.returns-then-is_disk_fault-clause-up
returns-then-is_disk_fault-clause-up g c = λ other.
    absurd (other (ap Err (disk_is c.in-Err.fault (sym c.is_disk_fault.ensures ∙ c.if-is_disk_fault.true))))

pub returns-then-is_disk_fault-clause-disk : goal.returns-then-is_disk_fault-clause-disk
returns-then-is_disk_fault-clause-disk g c =
    let k = subst (λ (r : Result End ConnFault). Keeps (g.D.Disk.view c.args.disk.now) (g.D.Disk.view c.converse.new.disk) c.link-linked.new.self c.converse.new.manager r) c.in-Err.is c.converse.ensures.keeps in
    down_keeps c.args.manager.now c.link-linked.new.self c.args.purpose c.role.result c.role.ensures c.link-linked.ensures.left c.link-linked.ensures.journal c.args.now c.converse.new.manager (g.C.Source.held c.args.conn.now) (g.C.Source.held c.converse.new.conn) (g.C.Sink.taken c.args.conn.now) (g.C.Sink.taken c.converse.new.conn) c.converse.result c.converse.ensures.converses (g.D.Disk.view c.args.disk.now) (g.D.Disk.view c.converse.new.disk) c.requires.up k.disk

pub returns-then-is_disk_fault-clause-disk_faults : goal.returns-then-is_disk_fault-clause-disk_faults
returns-then-is_disk_fault-clause-disk_faults g c =
    let k = subst (λ (r : Result End ConnFault). Keeps (g.D.Disk.view c.args.disk.now) (g.D.Disk.view c.converse.new.disk) c.link-linked.new.self c.converse.new.manager r) c.in-Err.is c.converse.ensures.keeps in k.faults

pub returns-else-is_disk_fault-clause-served : goal.returns-else-is_disk_fault-clause-served
returns-else-is_disk_fault-clause-served g c =
    cut_served c.args.manager.now c.link-linked.new.self c.args.purpose c.role.result c.role.ensures c.link-linked.ensures.left c.link-linked.ensures.journal c.args.now c.converse.new.manager (g.C.Source.held c.args.conn.now) (g.C.Source.held c.converse.new.conn) (g.C.Sink.taken c.args.conn.now) (g.C.Sink.taken c.converse.new.conn) c.converse.result c.converse.ensures.converses c.unlink-in-Err.new.self c.unlink-in-Err.ensures.left c.in-Err.fault c.in-Err.is (not_disk c.in-Err.fault (sym c.is_disk_fault.ensures ∙ c.if-is_disk_fault.false))

pub returns-else-is_disk_fault-clause-whole : goal.returns-else-is_disk_fault-clause-whole
returns-else-is_disk_fault-clause-whole g c =
    cut_whole c.args.manager.now c.link-linked.new.self c.args.purpose c.role.result c.role.ensures c.link-linked.ensures.left c.link-linked.ensures.journal c.args.now c.converse.new.manager (g.C.Source.held c.args.conn.now) (g.C.Source.held c.converse.new.conn) (g.C.Sink.taken c.args.conn.now) (g.C.Sink.taken c.converse.new.conn) c.converse.result c.converse.ensures.converses c.unlink-in-Err.new.self c.unlink-in-Err.ensures.left c.in-Err.fault c.in-Err.is

pub returns-else-is_disk_fault-clause-unlinked : goal.returns-else-is_disk_fault-clause-unlinked
returns-else-is_disk_fault-clause-unlinked g c =
    gone_unlinked c.args.manager.now c.link-linked.new.self c.args.purpose c.role.result c.role.ensures c.link-linked.ensures.left c.link-linked.ensures.journal c.args.now c.converse.new.manager (g.C.Source.held c.args.conn.now) (g.C.Source.held c.converse.new.conn) (g.C.Sink.taken c.args.conn.now) (g.C.Sink.taken c.converse.new.conn) c.converse.result c.converse.ensures.converses c.unlink-in-Err.new.self c.unlink-in-Err.ensures.left

pub returns-else-is_disk_fault-clause-up : goal.returns-else-is_disk_fault-clause-up
returns-else-is_disk_fault-clause-up g c =
    let k = subst (λ (r : Result End ConnFault). Keeps (g.D.Disk.view c.args.disk.now) (g.D.Disk.view c.converse.new.disk) c.link-linked.new.self c.converse.new.manager r) c.in-Err.is c.converse.ensures.keeps in
    λ _. gone_up c.args.manager.now c.link-linked.new.self c.args.purpose c.role.result c.role.ensures c.link-linked.ensures.left c.link-linked.ensures.journal c.args.now c.converse.new.manager (g.C.Source.held c.args.conn.now) (g.C.Source.held c.converse.new.conn) (g.C.Sink.taken c.args.conn.now) (g.C.Sink.taken c.converse.new.conn) c.converse.result c.converse.ensures.converses c.unlink-in-Err.new.self c.unlink-in-Err.ensures.left (up_but c.converse.new.manager c.in-Err.fault (sym c.is_disk_fault.ensures ∙ c.if-is_disk_fault.false) k.up)

pub returns-else-is_disk_fault-clause-disk : goal.returns-else-is_disk_fault-clause-disk
returns-else-is_disk_fault-clause-disk g c =
    let k = subst (λ (r : Result End ConnFault). Keeps (g.D.Disk.view c.args.disk.now) (g.D.Disk.view c.converse.new.disk) c.link-linked.new.self c.converse.new.manager r) c.in-Err.is c.converse.ensures.keeps in
    gone_keeps c.args.manager.now c.link-linked.new.self c.args.purpose c.role.result c.role.ensures c.link-linked.ensures.left c.link-linked.ensures.journal c.args.now c.converse.new.manager (g.C.Source.held c.args.conn.now) (g.C.Source.held c.converse.new.conn) (g.C.Sink.taken c.args.conn.now) (g.C.Sink.taken c.converse.new.conn) c.converse.result c.converse.ensures.converses c.unlink-in-Err.new.self c.unlink-in-Err.ensures.left (g.D.Disk.view c.args.disk.now) (g.D.Disk.view c.converse.new.disk) c.unlink-in-Err.ensures.journal c.requires.up (up_but c.converse.new.manager c.in-Err.fault (sym c.is_disk_fault.ensures ∙ c.if-is_disk_fault.false) k.up) k.disk

pub returns-else-is_disk_fault-clause-disk_faults : goal.returns-else-is_disk_fault-clause-disk_faults
returns-else-is_disk_fault-clause-disk_faults g c =
    let k = subst (λ (r : Result End ConnFault). Keeps (g.D.Disk.view c.args.disk.now) (g.D.Disk.view c.converse.new.disk) c.link-linked.new.self c.converse.new.manager r) c.in-Err.is c.converse.ensures.keeps in k.faults
