use Rattle.std.proofs.Common.{◌≡◌, ◌==◌, Err, Result, not, rules, ap, subst, sym, ◌∙◌, ℕ}
use Rattle.mqb_journal.specs.Causes.{FaultsAsSaid, open_failed}
use Rattle.mqb_journal.specs.declared.faults.OpenFault.{OpenFault}
use Rattle.mqb_moves.specs.States.{ManagerState}
use Rattle.mqb_journal.specs.declared.faults.OpenFault.TheVariants as fault
use Rattle.mqb_moves.specs.lemmas.Restarting.{not_bad}
use Rattle.mqb_moves.specs.Seats.{SeatState}
use Rattle.mqb_outside.specs.Faults.{Rose}
use Rattle.mqb_seats.specs.Opened.{IsOpened, opened_by}
use Rattle.mqb_seats.specs.declared.restarting.Opened.{Opened}
use Rattle.mqb_seats.specs.declared.restarting.Opened.TheVariants.{Unread}
use Rattle.mqb_seats.proofs.Lasting.{opened_lasts, unstarted_lasts}
use Rattle.mqb_seats.proofs.Opening.{as_left, not_opened, opened_so}
use Rattle.mqb_seats.proofs.seat.Seat.restart.Goals as goal

pub returns-in-Err-DiskFault-clause-opened : goal.returns-in-Err-DiskFault-clause-opened
returns-in-Err-DiskFault-clause-opened g c =
    let failed : c.start.result ≡ Err fault.DiskFault = search rules in
    not_opened c.images_open_to_one.ensures _ (g.P.Disk.view c.restart.new.self) _ c.self.inside.manager c.self.inside.unread c.args.self.now c.self.view_is c.requires
    c.restart.ensures.settled c.restart.ensures.one_of c.start.ensures.reads
    (subst (λ (k : ℕ). Rose k (g.P.Disk.view c.start.new.disk).faults) c.restart.ensures.faults
    (subst (λ (r : Result ManagerState OpenFault). FaultsAsSaid open_failed (g.P.Disk.view c.restart.new.self).faults (g.P.Disk.view c.start.new.disk).faults r) failed c.start.ensures.cause))

pub unreachable-requires-in-Err-BadStore : goal.unreachable-requires-in-Err-BadStore
unreachable-requires-in-Err-BadStore g c =
    let bad : c.start.result ≡ Err (fault.BadStore c.in-Err-BadStore.field-0-0) = c.in-Err-BadStore.is ∙ ap Err c.in-Err-BadStore.field-0-is in
    let told = g.met.P.Power.tells c.restart.new.self in
    not_bad c.opened_is_not_bad.ensures _ (g.P.Disk.view c.restart.new.self) c.args.self.now c.requires c.restart.ensures.one_of told.0 told.1 c.in-Err-BadStore.field-0-0
    (c.start.ensures.bad c.in-Err-BadStore.field-0-0 bad)

pub returns-in-Ok-clause-opened : goal.returns-in-Ok-clause-opened
returns-in-Ok-clause-opened g c =
    let told = g.met.P.Power.tells c.restart.new.self in
    let start = c.in-Ok.ensures {u = tt} in
    let d = g.P.Disk.view c.args.disk.now in
    let f = g.P.Disk.view c.start.new.disk in
    subst (λ (x : Opened). IsOpened d f c.args.self.now c.opened.new.self x) (sym c.opened.ensures.opened)
    (subst (λ (t : SeatState). IsOpened d f c.args.self.now t (opened_by (not (c.in-Ok.manager.store.journal.count == c.args.self.now.manager.store.journal.count)))) (sym c.opened.ensures.seat)
    (opened_so c.images_open_to_one.ensures d (g.P.Disk.view c.restart.new.self) f c.self.inside.manager c.self.inside.unread c.args.self.now c.self.view_is c.requires
    c.restart.ensures.settled c.restart.ensures.one_of c.stands_for_one_list.ensures.records c.durable_is_applied.ensures c.in-Ok.manager c.is_valid.ensures
    (record { manager = start.manager; on = start.on; up = start.up; opens = start.opens; lines = start.lines; settled = start.settled })
    told.0 told.1 (start.cause ∙ c.restart.ensures.faults)))

pub returns-in-Ok-clause-left : goal.returns-in-Ok-clause-left
returns-in-Ok-clause-left g c = as_left (g.P.Disk.view c.restart.new.self) _ c.restart.ensures.settled c.restart.ensures.last_left c.start.ensures.reads

pub returns-in-Err-Memory-clause-left : goal.returns-in-Err-Memory-clause-left
returns-in-Err-Memory-clause-left g c = as_left (g.P.Disk.view c.restart.new.self) _ c.restart.ensures.settled c.restart.ensures.last_left c.start.ensures.reads

pub returns-in-Err-DiskFault-clause-left : goal.returns-in-Err-DiskFault-clause-left
returns-in-Err-DiskFault-clause-left g c = as_left (g.P.Disk.view c.restart.new.self) _ c.restart.ensures.settled c.restart.ensures.last_left c.start.ensures.reads

pub returns-in-Ok-clause-lasts : goal.returns-in-Ok-clause-lasts
returns-in-Ok-clause-lasts g c = opened_lasts _ _ c.args.self.now c.opened.new.self c.opened.result (returns-in-Ok-clause-opened g c)

pub returns-in-Err-DiskFault-clause-lasts : goal.returns-in-Err-DiskFault-clause-lasts
returns-in-Err-DiskFault-clause-lasts g c = opened_lasts _ _ c.args.self.now _ Unread (returns-in-Err-DiskFault-clause-opened g c)

pub returns-in-Err-Memory-clause-lasts : goal.returns-in-Err-Memory-clause-lasts
returns-in-Err-Memory-clause-lasts g c =
    let wanted : c.start.result ≡ Err fault.Memory = search rules in
    unstarted_lasts _ (g.P.Disk.view c.restart.new.self) _ c.args.self.now c.requires c.restart.ensures.settled c.restart.ensures.one_of c.start.ensures.reads
    (subst (λ (r : Result ManagerState OpenFault). FaultsAsSaid open_failed (g.P.Disk.view c.restart.new.self).faults (g.P.Disk.view c.start.new.disk).faults r) wanted c.start.ensures.cause
    ∙ c.restart.ensures.faults)
