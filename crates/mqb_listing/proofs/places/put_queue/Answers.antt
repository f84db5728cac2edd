use Rattle.std.proofs.Common.{◌++◌, ◌+◌, [], ap, ◌∙◌, rules, codes}
use Rattle.std.specs.Option.{option_map_or}
use Rattle.mqb_base.specs.declared.queues.EntryPlace.TheVariants as entry
use Rattle.mqb_listing.specs.Lines.{place_line}
use Rattle.mqb_queue.specs.Places.{lists_at}
use Rattle.mqb_transcript.specs.Printing.{wrote}
use Rattle.mqb_listing.proofs.Writing.{last_told, queue_alone, queue_and_journal}
use Rattle.mqb_listing.proofs.places.put_queue.Goals as goal

pub returns-then-not-plan : goal.returns-then-not-plan
returns-then-not-plan c =
    let page = c.args.printer.now in
    c.in_ok-put_place.ensures ∙ ap (wrote page) (queue_alone page.hosts c.args.host.now c.as_slice-name.result.now c.plan-plan.result.now
    c.args.queues.now.lists c.args.k c.plan-plan.ensures c.as_slice-name.ensures.bytes (search rules))

pub returns : goal.returns
returns c =
    let page = c.args.printer.now in let host = c.args.host.now in let name = c.as_slice-name.result.now in let s = c.args.queues.now.lists in
    last_told (λ hosts. option_map_or (place_line hosts host (codes "journalof " ++ name)) (lists_at s (entry.JournalOf (c.args.k + 1))) []) _ page _ _ _ _
    c.in_ok-put_place.ensures c.put_place-2.ensures
    (queue_and_journal page.hosts host name c.plan-plan.result.now s c.args.k c.plan-plan.ensures c.as_slice-name.ensures.bytes (search rules))
