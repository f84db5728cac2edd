use Rattle.std.proofs.Common.{Bool, Err, List, Option, ap, length, subst, sym, ◌≡◌, ◌≤◌, ◌∙◌}
use Rattle.std.proofs.lemmas.Result.{err_from_is_err_and}
use Rattle.std.specs.Prelude.{IfSome, Result, option_copied, option_map}
use Rattle.mqb_base.specs.declared.heard.Heard.{Heard}
use Rattle.mqb_entries.specs.SpelledEntries.{Fits, spelled}
use Rattle.mqb_entries.specs.declared.entry.Entry.{Entry}
use Rattle.mqb_model.specs.declared.faults.HearFault.{HearFault}
use Rattle.mqb_model.specs.declared.faults.HearFault.TheVariants as fault
use Rattle.mqb_model.specs.declared.limits.TheConstants.{MAX_RECORD}
use Rattle.mqb_model.specs.records.Reading.{record_in}
use Rattle.mqb_manager.specs.Calls.{IsCall}
use Rattle.mqb_choosing.specs.Owed.{marked}
use Rattle.mqb_hearing.specs.Arrivals.{bytes_of_packet}
use Rattle.mqb_hearing.specs.Plans.{outcome_of}
use Rattle.mqb_manager.specs.Seen.{seen}
use Rattle.mqb_manager.specs.States.{ManagerState, manager_of}
use Rattle.mqb_manager.proofs.Calls.{unmade_call}
use Rattle.mqb_manager.proofs.Heard.{entry_there, fault_call, fault_valid, leaves_store, may_leave, may_write, memory_call, ok_call, ok_valid, some_then, spelled_as}
use Rattle.mqb_manager.proofs.Written.{cause_rose}
use Rattle.mqb_manager.proofs.manager.Manager.follow.Goals as goal

pub returns-in_err-make_room-clause-call : goal.returns-in_err-make_room-clause-call
returns-in_err-make_room-clause-call g c =
    let told = err_from_is_err_and c.from_residual.result c.from_residual.ensures.1 in
    subst (λ (r : Result Heard HearFault). IsCall fault.Memory fault.DiskFault (g.D.Disk.view c.args.disk.now) (g.D.Disk.view c.args.disk.now) c.args.self.now
    (seen c.self.inside.store c.self.inside.session c.self.inside.cursors.items c.make_room.new.owes.items) (outcome_of (manager_of c.args.self.now) c.args.hearing) r) (sym (told.1 ∙ ap Err told.2))
    (rw c.in_err-make_room.ensures.items (subst (λ (k : ManagerState). IsCall fault.Memory fault.DiskFault (g.D.Disk.view c.args.disk.now) (g.D.Disk.view c.args.disk.now) c.args.self.now
    k (outcome_of (manager_of c.args.self.now) c.args.hearing) (Err fault.Memory)) (sym c.self.view_is)
    (unmade_call fault.Memory fault.DiskFault (g.D.Disk.view c.args.disk.now) c.args.self.now (outcome_of (manager_of c.args.self.now) c.args.hearing)
    (g.met.D.Disk.lawful c.args.disk.now) (λ same. let none : ⊥ = cc in none))))

pub write-requires-clause-can : goal.write-requires-clause-can
write-requires-clause-can g c =
    let shows = ap (λ (o : Option Entry). option_map record_in o) c.as_ref.ensures.value ∙ c.entry-entry.ensures.«record» in
    may_write c.self.inside.store c.self.inside.store c.self.inside.session c.self.inside.cursors.items c.self.inside.owes.items c.args.hearing (g.D.Disk.view c.args.disk.now) (g.D.Disk.view c.args.disk.now) (option_copied c.as_ref.result) shows c.args.self.now c.self.view_is
    (record { up = c.requires.up; fits = c.requires.fits; valid = c.requires.valid; stored = c.requires.stored })
    (subst (λ (o : Option Entry). IfSome o Fits) (sym c.as_ref.ensures.value) c.entry-entry.ensures.fits)
    (subst (λ (o : Option Entry). IfSome o (λ e. length (spelled e) ≤ MAX_RECORD)) (sym c.as_ref.ensures.value) c.entry-entry.ensures.size)

pub write-requires-clause-valid : goal.write-requires-clause-valid
write-requires-clause-valid g c =
    let shows = ap (λ (o : Option Entry). option_map record_in o) c.as_ref.ensures.value ∙ c.entry-entry.ensures.«record» in
    may_leave c.self.inside.store c.self.inside.store c.self.inside.session c.self.inside.cursors.items c.self.inside.owes.items c.args.hearing (g.D.Disk.view c.args.disk.now) (g.D.Disk.view c.args.disk.now) (option_copied c.as_ref.result) shows c.args.self.now c.self.view_is
    (record { up = c.requires.up; fits = c.requires.fits; valid = c.requires.valid; stored = c.requires.stored })

pub write-requires-clause-stored : goal.write-requires-clause-stored
write-requires-clause-stored g c =
    let shows = ap (λ (o : Option Entry). option_map record_in o) c.as_ref.ensures.value ∙ c.entry-entry.ensures.«record» in
    leaves_store c.self.inside.store c.self.inside.store c.self.inside.session c.self.inside.cursors.items c.self.inside.owes.items c.args.hearing (g.D.Disk.view c.args.disk.now) (g.D.Disk.view c.args.disk.now) (option_copied c.as_ref.result) shows c.args.self.now c.self.view_is
    (record { up = c.requires.up; fits = c.requires.fits; valid = c.requires.valid; stored = c.requires.stored })

pub invariant_of-self-in-Ok : goal.invariant_of-self-in-Ok
invariant_of-self-in-Ok g c =
    let shows = ap (λ (o : Option Entry). option_map record_in o) c.as_ref.ensures.value ∙ c.entry-entry.ensures.«record» in
    let h = c.in-Ok.ensures in
    ok_valid c.self.inside.store c.write.new.self c.self.inside.session c.self.inside.cursors.items c.self.inside.owes.items c.args.hearing (g.D.Disk.view c.args.disk.now) (g.D.Disk.view c.write.new.disk) (option_copied c.as_ref.result) shows c.args.self.now c.self.view_is
    (record { up = c.requires.up; fits = c.requires.fits; valid = c.requires.valid; stored = c.requires.stored }) (record {
      on = h.on;
      state = h.state;
      lines = h.lines;
      up = h.up;
      guid = h.guid;
      count = h.count;
      settled = h.settled;
      wrote = h.wrote;
      moments = h.moments;
      stayed = h.cause;
      switch = h.switch;
    }) c.mark.new.owes.items (c.mark.ensures ∙ ap (λ (bs : List Bool). marked c.args.hearing.owes bs) c.in_ok-make_room.ensures.items)

pub returns-in-Ok-clause-call : goal.returns-in-Ok-clause-call
returns-in-Ok-clause-call g c =
    let shows = ap (λ (o : Option Entry). option_map record_in o) c.as_ref.ensures.value ∙ c.entry-entry.ensures.«record» in
    let h = c.in-Ok.ensures in
    ok_call c.self.inside.store c.write.new.self c.self.inside.session c.self.inside.cursors.items c.self.inside.owes.items c.args.hearing (g.D.Disk.view c.args.disk.now) (g.D.Disk.view c.write.new.disk) (option_copied c.as_ref.result) shows c.args.self.now c.self.view_is
    (record { up = c.requires.up; fits = c.requires.fits; valid = c.requires.valid; stored = c.requires.stored }) (record {
      on = h.on;
      state = h.state;
      lines = h.lines;
      up = h.up;
      guid = h.guid;
      count = h.count;
      settled = h.settled;
      wrote = h.wrote;
      moments = h.moments;
      stayed = h.cause;
      switch = h.switch;
    }) c.mark.new.owes.items (c.mark.ensures ∙ ap (λ (bs : List Bool). marked c.args.hearing.owes bs) c.in_ok-make_room.ensures.items)

pub returns-in-Ok-clause-calls : goal.returns-in-Ok-clause-calls
returns-in-Ok-clause-calls g c =
    let shows = ap (λ (o : Option Entry). option_map record_in o) c.as_ref.ensures.value ∙ c.entry-entry.ensures.«record» in
    entry_there (option_copied c.as_ref.result) c.args.hearing.arrival.written _ shows c.in-Ok.ensures.calls

pub returns-in-Err-Memory-clause-call : goal.returns-in-Err-Memory-clause-call
returns-in-Err-Memory-clause-call g c =
    let shows = ap (λ (o : Option Entry). option_map record_in o) c.as_ref.ensures.value ∙ c.entry-entry.ensures.«record» in
    let refused = c.write.ensures.refused (c.in-Err-Memory.is ∙ ap Err c.in-Err-Memory.field-0-is) in
    rw (refused.0, c.in_ok-make_room.ensures.items)
    (memory_call c.self.inside.store c.write.new.self c.self.inside.session c.self.inside.cursors.items c.self.inside.owes.items c.args.hearing (g.D.Disk.view c.args.disk.now) (g.D.Disk.view c.args.disk.now) (option_copied c.as_ref.result) shows c.args.self.now c.self.view_is
    (record { up = c.requires.up; fits = c.requires.fits; valid = c.requires.valid; stored = c.requires.stored }) refused.1 (g.met.D.Disk.lawful c.args.disk.now))

pub invariant_of-self-in-Err-DiskFault : goal.invariant_of-self-in-Err-DiskFault
invariant_of-self-in-Err-DiskFault g c =
    let shows = ap (λ (o : Option Entry). option_map record_in o) c.as_ref.ensures.value ∙ c.entry-entry.ensures.«record» in
    let h = c.write.ensures in
    let failed = c.in-Err-DiskFault.is ∙ ap Err c.in-Err-DiskFault.field-0-is in
    let after = h.failed failed in
    rw (c.clear.ensures.items, c.clear-in-Err-DiskFault.ensures.items) (fault_valid c.self.inside.store c.write.new.self c.self.inside.session c.self.inside.cursors.items c.self.inside.owes.items c.args.hearing (g.D.Disk.view c.args.disk.now) (g.D.Disk.view c.write.new.disk) (option_copied c.as_ref.result) shows c.args.self.now c.self.view_is
    (record { up = c.requires.up; fits = c.requires.fits; valid = c.requires.valid; stored = c.requires.stored }) (record {
      state = after.0;
      lines = after.1;
      journal = after.2;
      doubt = h.doubt failed;
      wrote = h.wrote;
      moments = h.moments;
      rose = cause_rose (g.D.Disk.view c.args.disk.now).faults (g.D.Disk.view c.write.new.disk).faults c.write.result failed h.cause;
      switch = h.switch;
    }))

pub returns-clause-call : goal.returns-clause-call
returns-clause-call g c =
    let shows = ap (λ (o : Option Entry). option_map record_in o) c.as_ref.ensures.value ∙ c.entry-entry.ensures.«record» in
    let h = c.write.ensures in
    let failed = c.in-Err-DiskFault.is ∙ ap Err c.in-Err-DiskFault.field-0-is in
    let after = h.failed failed in
    rw (c.clear.ensures.items, c.clear-in-Err-DiskFault.ensures.items) (fault_call c.self.inside.store c.write.new.self c.self.inside.session c.self.inside.cursors.items c.self.inside.owes.items c.args.hearing (g.D.Disk.view c.args.disk.now) (g.D.Disk.view c.write.new.disk) (option_copied c.as_ref.result) shows c.args.self.now c.self.view_is
    (record { up = c.requires.up; fits = c.requires.fits; valid = c.requires.valid; stored = c.requires.stored })
    (may_write c.self.inside.store c.self.inside.store c.self.inside.session c.self.inside.cursors.items c.self.inside.owes.items c.args.hearing (g.D.Disk.view c.args.disk.now) (g.D.Disk.view c.args.disk.now) (option_copied c.as_ref.result) shows c.args.self.now c.self.view_is
    (record { up = c.requires.up; fits = c.requires.fits; valid = c.requires.valid; stored = c.requires.stored })
    (subst (λ (o : Option Entry). IfSome o Fits) (sym c.as_ref.ensures.value) c.entry-entry.ensures.fits)
    (subst (λ (o : Option Entry). IfSome o (λ e. length (spelled e) ≤ MAX_RECORD)) (sym c.as_ref.ensures.value) c.entry-entry.ensures.size)) (record {
      state = after.0;
      lines = after.1;
      journal = after.2;
      doubt = h.doubt failed;
      wrote = h.wrote;
      moments = h.moments;
      rose = cause_rose (g.D.Disk.view c.args.disk.now).faults (g.D.Disk.view c.write.new.disk).faults c.write.result failed h.cause;
      switch = h.switch;
    }))

pub returns-in-Err-Memory-clause-memory : goal.returns-in-Err-Memory-clause-memory
returns-in-Err-Memory-clause-memory g c = λ same. (c.write.ensures.refused (c.in-Err-Memory.is ∙ ap Err c.in-Err-Memory.field-0-is)).0

pub returns-in_err-make_room-clause-heard : goal.returns-in_err-make_room-clause-heard
returns-in_err-make_room-clause-heard g c = let told = err_from_is_err_and c.from_residual.result c.from_residual.ensures.1 in λ not. absurd (not (told.1 ∙ ap Err told.2))

pub returns-in-Ok-clause-heard : goal.returns-in-Ok-clause-heard
returns-in-Ok-clause-heard g c = λ not.
    let shows = ap (λ (o : Option Entry). option_map record_in o) c.as_ref.ensures.value ∙ c.entry-entry.ensures.«record» in
    spelled_as c.write.new.self.entry c.args.hearing.arrival.packet (option_copied c.as_ref.result) c.args.hearing.arrival.written shows
    (subst (λ (o : Option Entry). IfSome o (λ e. bytes_of_packet e ≡ c.args.hearing.arrival.packet)) (sym c.as_ref.ensures.value) c.entry-entry.ensures.packet)
    c.in-Ok.ensures.spelled

pub returns-clause-heard : goal.returns-clause-heard
returns-clause-heard g c = λ not.
    let shows = ap (λ (o : Option Entry). option_map record_in o) c.as_ref.ensures.value ∙ c.entry-entry.ensures.«record» in
    spelled_as c.write.new.self.entry c.args.hearing.arrival.packet (option_copied c.as_ref.result) c.args.hearing.arrival.written shows
    (subst (λ (o : Option Entry). IfSome o (λ e. bytes_of_packet e ≡ c.args.hearing.arrival.packet)) (sym c.as_ref.ensures.value) c.entry-entry.ensures.packet)
    (some_then (option_copied c.as_ref.result) (λ e. c.write.new.self.entry ≡ spelled e) (c.write.ensures.kept (c.in-Err-DiskFault.is ∙ ap Err c.in-Err-DiskFault.field-0-is)))
