use Rattle.std.proofs.Common.{inl, inr}
use Rattle.mqb_commands.specs.lemmas.Opening.{line_fails, memory_fails}
use Rattle.mqb_commands.proofs.listing.list.Goals as goal

pub returns-in-Err-clause-lists : goal.returns-in-Err-clause-lists
returns-in-Err-clause-lists g c = inr (line_fails (g.D.Disk.view c.args.disk.now) (g.D.Disk.view c.open.new.disk) c.in-Err.fault c.fault.result.end c.fault.result.text.items
    c.in-Err.ensures.fails c.open.ensures.reads c.fault.ensures)

pub returns-clause-lists : goal.returns-clause-lists
returns-clause-lists g c =
    let d = g.D.Disk.view c.args.disk.now in
    let f = g.D.Disk.view c.open.new.disk in
    let answer = c.answer_list-answer.result in
    elim c.answer_list-answer.ensures.lists [
      | inl listed ↦ inl (listed.0, record { manager = c.in-Ok.manager; opened = c.in-Ok.ensures.opened; reads = c.open.ensures.reads; said = listed.1 })
      | inr none ↦ inr (memory_fails d f answer.text.items answer.end c.open.ensures.reads none.1 none.0)
    ]
