use Rattle.std.proofs.Common.{ap, subst, ◌∙◌}
use Rattle.std.proofs.lemmas.Result.{IfOk-weaker}
use Rattle.mqb_transcript.specs.Printing.{Page}
use Rattle.mqb_commands.specs.Turns.{PutsTaken, held_at}
use Rattle.mqb_commands.specs.declared.answer.Answer.{Answer}
use Rattle.mqb_commands.proofs.Looking.{is_nothing, is_something, told_none, told_some}
use Rattle.mqb_commands.proofs.peeking.tell_place.Goals as goal

pub returns-then-is_empty-clause-tells : goal.returns-then-is_empty-clause-tells
returns-then-is_empty-clause-tells c =
    let places = c.args.queues.now.lists in
    let page = c.put_taken.new.printer in
    let puts = subst (λ (p : Page). PutsTaken c.args.at c.args.count c.args.now (held_at places c.args.at) p page) c.new-printer.ensures c.in_ok-put_taken.ensures in
    let none = is_nothing page.text c.text.result.now c.is_empty.result c.text.ensures c.is_empty.ensures c.if-is_empty.true in
    IfOk-weaker c.refuse.result _ _
    (λ (answer : Answer) refused. told_none c.args.hosts.now places c.args.at c.args.count c.args.now page answer.text.items answer.end puts none refused) c.refuse.ensures.refuses

pub returns-clause-tells : goal.returns-clause-tells
returns-clause-tells c =
    let places = c.args.queues.now.lists in
    let page = c.put_taken.new.printer in
    let puts = subst (λ (p : Page). PutsTaken c.args.at c.args.count c.args.now (held_at places c.args.at) p page) c.new-printer.ensures c.in_ok-put_taken.ensures in
    told_some c.args.hosts.now places c.args.at c.args.count c.args.now page c.new.result.text.items c.new.result.end puts
    (is_something page.text c.text.result.now c.is_empty.result c.text.ensures c.is_empty.ensures c.if-is_empty.false)
    (ap (λ v. v.items) c.new.ensures.text ∙ c.in_ok-text.ensures.items ∙ c.text-2.ensures) c.new.ensures.end
