use Rattle.std.proofs.Common.{◌++◌, ap, sym, ◌∙◌}
use Rattle.mqb_base.specs.declared.message.Lane.TheVariants.{Durable}
use Rattle.mqb_listing.specs.Lines.{held_text}
use Rattle.mqb_queue.specs.Places.{lists_at}
use Rattle.mqb_transcript.specs.Printing.{wrote}
use Rattle.mqb_transcript.specs.lemmas.Wrote.{then_wrote, wrote_nothing}
use Rattle.mqb_listing.proofs.Writing.{last_part, line_at, line_of_parts, no_line, then_told}
use Rattle.mqb_listing.proofs.places.put_place.Goals as goal

pub returns-in_default : goal.returns-in_default
returns-in_default c =
    let page = c.args.printer.now in
    sym (wrote_nothing page) ∙ ap (wrote page) (no_line page.hosts c.args.host.now (c.args.word.now ++ c.args.name.now) Durable
    (lists_at c.args.queues.now.lists c.args.at) c.in_default.ensures.messages)

pub returns : goal.returns
returns c =
    let page = c.args.printer.now in let host = c.args.host.now in let word = c.args.word.now in let name = c.args.name.now in
    let durable = c.in-Some.durable in let express = c.in-Some-messages_at.express in
    let named = then_wrote _ _ _ _ _ c.in_ok-begin.ensures c.in_ok-put.ensures in
    let told = then_told (λ hosts. held_text hosts (record { durable = durable; express = express })) _ _ _ _ named c.in_ok-put_held.ensures in
    last_part _ _ _ _ _ _ _ told c.put-2.ensures
    (line_of_parts host word name (held_text page.hosts (record { durable = durable; express = express }))
    ∙ line_at page.hosts host (word ++ name) (lists_at c.args.queues.now.lists c.args.at) durable express c.in-Some.ensures.messages c.in-Some-messages_at.ensures.messages)
