use Rattle.std.proofs.Common.{◌≡◌, ◌∙◌, ap, sym, arith, length}
use Rattle.std.specs.Vec.{vec_len}
use Rattle.mqb_trying.specs.Sends.{last_leads_to}
use Rattle.mqb_trying.proofs.NotedEnds.{taken_on}
use Rattle.mqb_trying.proofs.sends.note_end.Goals as goal

pub returns-then-last_leads_to : goal.returns-then-last_leads_to
returns-then-last_leads_to c =
    let all : vec_len c.args.ends.now ≡ length c.args.ends.now.items = omega arith in
    taken_on c.args.ends.now.items (vec_len c.args.ends.now) c.in-Some.last.now
    (record { peer = c.args.peer; destination = c.args.destination.now; sequence = c.args.sequence; number = c.args.number })
    all c.in-Some.ensures.value
    (ap (last_leads_to c.args.peer c.args.destination.now) (sym c.deref.ensures.value) ∙ sym c.last_leads_to.ensures ∙ c.if-last_leads_to.true)
