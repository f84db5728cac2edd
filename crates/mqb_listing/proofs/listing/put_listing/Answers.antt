use Rattle.std.proofs.Common.{ap, ◌∙◌}
use Rattle.std.specs.List.{flat_map}
use Rattle.mqb_base.specs.declared.ids.Identity.{Identity}
use Rattle.mqb_listing.specs.Lines.{in_line, machine_lines}
use Rattle.mqb_transcript.specs.lemmas.Wrote.{then_wrote}
use Rattle.mqb_listing.proofs.Writing.{last_told, listed_of_parts, then_told}
use Rattle.mqb_listing.proofs.listing.put_listing.Goals as goal

pub returns : goal.returns
returns c =
    let s = c.args.contents.now.lists in let hosts = c.args.printer.now.hosts in let host = c.as_slice-host.result.now in
    let queues = c.in_ok-put_queues.ensures in
    let places = then_told (λ hosts. machine_lines hosts host c.queues-2.result.now.lists) _ _ _ _ queues c.in_ok-put_machine.ensures in
    let outs = then_wrote _ _ _ _ _ places c.in_ok-put_outs.ensures in
    last_told (λ hosts. flat_map (in_line hosts host) c.ins.result.now) _ _ _ _ _ _ outs c.put_ins.ensures
    (listed_of_parts hosts host s c.queues.result.now.lists c.queues-2.result.now.lists c.outs.result.now c.ins.result.now
    (c.as_slice-host.ensures.bytes ∙ ap (λ (i : Identity). i.host) c.identity.ensures) c.queues.ensures.places c.queues-2.ensures.places
    c.outs.ensures.rows c.ins.ensures.rows)
