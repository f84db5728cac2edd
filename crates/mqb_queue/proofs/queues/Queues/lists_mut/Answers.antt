use Rattle.std.proofs.Common.{◌-◌, refl}
use Rattle.mqb_queue.proofs.Keys.{named_written}
use Rattle.mqb_queue.proofs.Lens.{still_differ, queue_inside, queue_lists, queue_rooms, queue_lent, journal_inside, journal_lists, journal_rooms, journal_lent}
use Rattle.mqb_queue.proofs.queues.Queues.lists_mut.Goals as goal

pub get_mut-requires : goal.get_mut-requires
get_mut-requires c =
    let i = c.self.inside in
    (queue_inside i.queues i.dead i.dead_xact i.journal c.args.self.now c.self.view_is c.in-Queue.number c.args.at c.in-Queue.is c.requires).1

pub get_mut-requires-in-JournalOf : goal.get_mut-requires-in-JournalOf
get_mut-requires-in-JournalOf c =
    let i = c.self.inside in
    (journal_inside i.queues i.dead i.dead_xact i.journal c.args.self.now c.self.view_is c.in-JournalOf.number c.args.at c.in-JournalOf.is c.requires).1

pub invariant_of-self-lent : goal.invariant_of-self-lent
invariant_of-self-lent c =
    let i = c.self.inside in
    let inside = queue_inside i.queues i.dead i.dead_xact i.journal c.args.self.now c.self.view_is c.in-Queue.number c.args.at c.in-Queue.is c.requires in
    λ w. (
      c.self.invariant.0,
      still_differ i.queues.items c.in-Queue.number c.get_mut.result.now inside.0 c.get_mut.ensures.value _ refl c.self.invariant.1,
      named_written i.queues.items (c.in-Queue.number - 1) c.get_mut.result.now _ i.queues.room i.names c.get_mut.ensures.value refl c.self.invariant.2,
    )

pub invariant_of-self-lent-in-JournalOf : goal.invariant_of-self-lent-in-JournalOf
invariant_of-self-lent-in-JournalOf c =
    let i = c.self.inside in
    let inside = journal_inside i.queues i.dead i.dead_xact i.journal c.args.self.now c.self.view_is c.in-JournalOf.number c.args.at c.in-JournalOf.is c.requires in
    λ w. (
      c.self.invariant.0,
      still_differ i.queues.items c.in-JournalOf.number c.get_mut-in-JournalOf.result.now inside.0 c.get_mut-in-JournalOf.ensures.value _ refl c.self.invariant.1,
      named_written i.queues.items (c.in-JournalOf.number - 1) c.get_mut-in-JournalOf.result.now _ i.queues.room i.names c.get_mut-in-JournalOf.ensures.value refl c.self.invariant.2,
    )

pub returns-in-Queue : goal.returns-in-Queue
returns-in-Queue c =
    let i = c.self.inside in
    let inside = queue_inside i.queues i.dead i.dead_xact i.journal c.args.self.now c.self.view_is c.in-Queue.number c.args.at c.in-Queue.is c.requires in (
      (refl, λ w. queue_lent i.queues i.dead i.dead_xact i.journal c.args.self.now c.self.view_is c.in-Queue.number c.args.at c.get_mut.result.now inside.0 c.get_mut.ensures.value c.in-Queue.is w),
      record {
        lists = queue_lists i.queues i.dead i.dead_xact i.journal c.args.self.now c.self.view_is c.in-Queue.number c.args.at c.get_mut.result.now inside.0 c.get_mut.ensures.value c.in-Queue.is;
        rooms = queue_rooms i.queues i.dead i.dead_xact i.journal c.args.self.now c.self.view_is c.in-Queue.number c.args.at c.get_mut.result.now inside.0 c.get_mut.ensures.value c.in-Queue.is;
        back = tt;
      },
    )

pub returns-in-JournalOf : goal.returns-in-JournalOf
returns-in-JournalOf c =
    let i = c.self.inside in
    let inside = journal_inside i.queues i.dead i.dead_xact i.journal c.args.self.now c.self.view_is c.in-JournalOf.number c.args.at c.in-JournalOf.is c.requires in (
      (refl, λ w. journal_lent i.queues i.dead i.dead_xact i.journal c.args.self.now c.self.view_is c.in-JournalOf.number c.args.at c.get_mut-in-JournalOf.result.now inside.0 c.get_mut-in-JournalOf.ensures.value c.in-JournalOf.is w),
      record {
        lists = journal_lists i.queues i.dead i.dead_xact i.journal c.args.self.now c.self.view_is c.in-JournalOf.number c.args.at c.get_mut-in-JournalOf.result.now inside.0 c.get_mut-in-JournalOf.ensures.value c.in-JournalOf.is;
        rooms = journal_rooms i.queues i.dead i.dead_xact i.journal c.args.self.now c.self.view_is c.in-JournalOf.number c.args.at c.get_mut-in-JournalOf.result.now inside.0 c.get_mut-in-JournalOf.ensures.value c.in-JournalOf.is;
        back = tt;
      },
    )
