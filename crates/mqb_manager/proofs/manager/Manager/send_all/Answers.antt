use Rattle.std.proofs.Common.{◌≡◌, ◌<◌, ◌≤◌, arith, refl, sym, ap, subst, ◌∙◌}
use Rattle.std.specs.Prelude.{◌++◌, All, IsSomeAnd, List, flat_map, length, slice_get, ℕ}
use Rattle.std.specs.Vec.{vec_capacity}
use Rattle.mqb_base.specs.declared.ids.Identity.{Identity}
use Rattle.mqb_entries.specs.declared.members.Mark.{Mark}
use Rattle.mqb_packet.specs.Plain.{plain_spelling}
use Rattle.mqb_packet.specs.Values.{IsPacket}
use Rattle.mqb_choosing.specs.Choices.{shown_in}
use Rattle.mqb_model.specs.calls.pump.Pump.{packet_for, pump}
use Rattle.mqb_model.specs.declared.limits.TheConstants.{MAX_PACKETS}
use Rattle.mqb_manager.specs.States.{manager_of}
use Rattle.mqb_manager.proofs.Recorded.{can_note, few_planned, marks_few, of_before, peer_below, peers_then, ready, room_then, sent_pumped, target, there_then, unsent_pumped, valid_then}
use Rattle.mqb_manager.proofs.Sent.{memory_pumped, peer_there}
use Rattle.mqb_manager.proofs.manager.Manager.send_all.Goals as goal

pub overflow_cast-count : goal.overflow_cast-count
overflow_cast-count g c = let s = c.args.sending in
    let few = few_planned c.args.self.now c.args.session c.args.now s.peer s.choices s.cursors.items s.owes.items c.requires.planned in
    let same : length c.as_slice.result.now ≡ length s.choices.choices = ap length c.as_slice.ensures in
    record { fits = omega (arith, few, same) }

pub prepare_chosen-requires : goal.prepare_chosen-requires
prepare_chosen-requires g c = c.requires.planned.there

pub write_marks-requires-clause-few : goal.write_marks-requires-clause-few
write_marks-requires-clause-few g c = let m = c.args.self.now in let s = c.args.sending in let k = s.peer in
    subst (λ (ms : List Mark). length ms ≤ MAX_PACKETS) (sym c.deref.ensures.value)
    (marks_few m c.args.session c.args.now k s.choices s.cursors.items s.owes.items c.in-Ok.marks.items c.requires.planned c.requires.linked.session c.is_valid.ensures c.requires.linked.up
    (target m c.args.session c.args.now k c.requires.comes) c.in-Ok.ensures.marks c.calls_can_be_written.ensures.spelled)

pub write_marks-requires-clause-ready : goal.write_marks-requires-clause-ready
write_marks-requires-clause-ready g c = let m = c.args.self.now in let s = c.args.sending in let k = s.peer in let laws = c.calls_can_be_written.ensures in
    ready m c.args.session c.args.now k s.choices s.cursors.items s.owes.items c.deref.result.now c.requires.planned c.requires.linked.session c.is_valid.ensures c.requires.linked.up
    (target m c.args.session c.args.now k c.requires.comes) (c.deref.ensures.value ∙ c.in-Ok.ensures.marks) (g.D.Disk.view c.args.disk.now) c.requires.linked.on laws.fit laws.spelled laws.valid c.applied_is_valid.ensures

pub put_chosen-requires-clause-peer : goal.put_chosen-requires-clause-peer
put_chosen-requires-clause-peer g c = let m = c.args.self.now in let s = c.args.sending in let k = s.peer in
    subst (λ (peers : List Identity). k < length peers) (sym (peers_then m c.args.session c.args.now k s.choices s.cursors.items s.owes.items c.deref.result.now c.requires.planned c.requires.linked.session c.is_valid.ensures c.requires.linked.up
    (target m c.args.session c.args.now k c.requires.comes) (c.deref.ensures.value ∙ c.in-Ok.ensures.marks) (g.D.Disk.view c.args.disk.now) (g.D.Disk.view c.write_marks.new.disk) c.write_marks.new.self
    c.in-Ok-write_marks.ensures.call)) (peer_below m c.args.session c.args.now k c.requires.comes)

pub put_chosen-requires-clause-there : goal.put_chosen-requires-clause-there
put_chosen-requires-clause-there g c = let m = c.args.self.now in let s = c.args.sending in let k = s.peer in
    there_then m c.args.session c.args.now k s.choices s.cursors.items s.owes.items c.deref.result.now c.requires.planned c.requires.linked.session c.is_valid.ensures c.requires.linked.up
    (target m c.args.session c.args.now k c.requires.comes) (c.deref.ensures.value ∙ c.in-Ok.ensures.marks) (g.D.Disk.view c.args.disk.now) (g.D.Disk.view c.write_marks.new.disk) c.write_marks.new.self
    c.in-Ok-write_marks.ensures.call

pub put_chosen-requires-clause-room : goal.put_chosen-requires-clause-room
put_chosen-requires-clause-room g c = let m = c.args.self.now in let s = c.args.sending in let k = s.peer in
    room_then m c.args.session c.args.now k s.choices s.cursors.items s.owes.items c.deref.result.now c.requires.planned c.requires.linked.session c.is_valid.ensures c.requires.linked.up
    (target m c.args.session c.args.now k c.requires.comes) (c.deref.ensures.value ∙ c.in-Ok.ensures.marks) (g.D.Disk.view c.args.disk.now) (g.D.Disk.view c.write_marks.new.disk) c.write_marks.new.self
    (length c.prepare_chosen.new.out.items) (vec_capacity c.prepare_chosen.new.out) c.in-Ok-write_marks.ensures.call c.in-Ok.ensures.room

pub note_chosen-requires-clause-can : goal.note_chosen-requires-clause-can
note_chosen-requires-clause-can g c = let m = c.args.self.now in let s = c.args.sending in let k = s.peer in
    can_note m c.args.session c.args.now k s.choices s.cursors.items s.owes.items c.deref.result.now c.requires.planned c.requires.linked.session c.is_valid.ensures c.requires.linked.up
    (target m c.args.session c.args.now k c.requires.comes) (c.deref.ensures.value ∙ c.in-Ok.ensures.marks) (g.D.Disk.view c.args.disk.now) (g.D.Disk.view c.write_marks.new.disk) c.write_marks.new.self
    c.requires.index c.sent_are_next.ensures (peer_there (manager_of m) k c.is_valid.ensures (peer_below m c.args.session c.args.now k c.requires.comes)) c.in-Ok-write_marks.ensures.call

pub note_chosen-requires-clause-valid : goal.note_chosen-requires-clause-valid
note_chosen-requires-clause-valid g c = let m = c.args.self.now in let s = c.args.sending in let k = s.peer in
    valid_then m c.args.session c.args.now k s.choices s.cursors.items s.owes.items c.deref.result.now c.requires.planned c.requires.linked.session c.is_valid.ensures c.requires.linked.up
    (target m c.args.session c.args.now k c.requires.comes) (c.deref.ensures.value ∙ c.in-Ok.ensures.marks) (g.D.Disk.view c.args.disk.now) (g.D.Disk.view c.write_marks.new.disk) c.write_marks.new.self
    c.in-Ok-write_marks.ensures.call c.calls_can_be_written.ensures.valid

pub returns-in-Err : goal.returns-in-Err
returns-in-Err g c = let m = c.args.self.now in
    memory_pumped (g.D.Disk.view c.args.disk.now) (c.args.disk.now ≡ c.args.disk.now) m (g.met.D.Disk.lawful c.args.disk.now) refl (pump (manager_of m) c.args.now)
    c.args.out.now.items c.prepare_chosen.new.out.items c.prepare_chosen.ensures.stays

pub returns-in-Ok-write_marks : goal.returns-in-Ok-write_marks
returns-in-Ok-write_marks g c = let m = c.args.self.now in let s = c.args.sending in let k = s.peer in
    let put = of_before m c.args.session c.args.now k s.choices s.cursors.items s.owes.items c.deref.result.now c.requires.planned c.requires.linked.session c.is_valid.ensures c.requires.linked.up
    (target m c.args.session c.args.now k c.requires.comes) (c.deref.ensures.value ∙ c.in-Ok.ensures.marks) (g.D.Disk.view c.args.disk.now) (g.D.Disk.view c.write_marks.new.disk) c.write_marks.new.self
    (λ to given. c.put_chosen.new.out.items ≡ c.prepare_chosen.new.out.items ++ flat_map (λ given. plain_spelling (packet_for to c.args.now given)) given)
    c.in-Ok-write_marks.ensures.call c.put_chosen.ensures.put in
    let fits = of_before m c.args.session c.args.now k s.choices s.cursors.items s.owes.items c.deref.result.now c.requires.planned c.requires.linked.session c.is_valid.ensures c.requires.linked.up
    (target m c.args.session c.args.now k c.requires.comes) (c.deref.ensures.value ∙ c.in-Ok.ensures.marks) (g.D.Disk.view c.args.disk.now) (g.D.Disk.view c.write_marks.new.disk) c.write_marks.new.self
    (λ to given. All (λ given. IsPacket (packet_for to c.args.now given)) given) c.in-Ok-write_marks.ensures.call c.put_chosen.ensures.fits in
    sent_pumped m c.args.session c.args.now k s.choices s.cursors.items s.owes.items c.deref.result.now c.requires.planned c.requires.linked.session c.is_valid.ensures c.requires.linked.up
    (target m c.args.session c.args.now k c.requires.comes) (c.deref.ensures.value ∙ c.in-Ok.ensures.marks) (g.D.Disk.view c.args.disk.now) (g.D.Disk.view c.write_marks.new.disk) c.write_marks.new.self
    (c.write_marks.new.disk ≡ c.args.disk.now) c.note_chosen.new.self c.args.out.now.items c.put_chosen.new.out.items (length c.as_slice.result.now)
    c.in-Ok-write_marks.ensures.call c.calls_can_be_written.ensures.stored c.note_chosen.ensures (ap length c.as_slice.ensures)
    (subst (λ (before : List ℕ). IsSomeAnd (slice_get m.store.state.peers k) (λ to. c.put_chosen.new.out.items ≡ before
    ++ flat_map (λ given. plain_spelling (packet_for to.guid c.args.now given)) (shown_in m.store.state s.choices.choices))) c.prepare_chosen.ensures.stays put)
    fits c.in-Ok-write_marks.ensures.untouched c.in-Ok-write_marks.ensures.calls

pub returns-in-Err-write_marks : goal.returns-in-Err-write_marks
returns-in-Err-write_marks g c = let m = c.args.self.now in let s = c.args.sending in let k = s.peer in
    unsent_pumped m c.args.session c.args.now k s.choices s.cursors.items s.owes.items c.deref.result.now c.requires.planned c.requires.linked.session c.is_valid.ensures c.requires.linked.up
    (target m c.args.session c.args.now k c.requires.comes) (c.deref.ensures.value ∙ c.in-Ok.ensures.marks) (g.D.Disk.view c.args.disk.now) (g.D.Disk.view c.write_marks.new.disk) c.write_marks.new.self
    (c.write_marks.new.disk ≡ c.args.disk.now) c.args.out.now.items c.prepare_chosen.new.out.items c.in-Err-write_marks.fault c.pump_fault.result
    c.in-Err-write_marks.ensures.call c.pump_fault.ensures c.prepare_chosen.ensures.stays c.in-Err-write_marks.ensures.untouched c.in-Err-write_marks.ensures.memory
