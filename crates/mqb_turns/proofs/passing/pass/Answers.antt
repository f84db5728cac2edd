use Rattle.std.proofs.Common.{◌≡◌, false, true, ap, rules, ◌∙◌}
use Rattle.mqb_traffic.specs.Networks.{index_of, note_of}
use Rattle.mqb_seats.specs.lemmas.Keeping.{lasts_then_stored}
use Rattle.mqb_turns.proofs.Heard.{broke_by_seat, gone_by_seat, heard_by_seat, not_underway, underway_so}
use Rattle.mqb_turns.proofs.Parting.{ended_stored}
use Rattle.mqb_turns.specs.Sides.{side}
use Rattle.mqb_turns.proofs.passing.pass.Goals as goal

pub returns-then-not-is_underway-clause-passed : goal.returns-then-not-is_underway-clause-passed
returns-then-not-is_underway-clause-passed g c = let underway : c.is_underway.result ≡ false = search rules in λ p is.
    not_underway c.args.which (side c.args.own.now c.args.other.now c.args.traffic.now) (note_of c.args.sent.now) p c.args.now (ap index_of c.requires.receiver) _ _
    (underway_so c.args.which c.args.own.now c.args.other.now c.args.traffic.now (note_of c.args.sent.now) c.is_underway.result c.is_underway.ensures ∙ underway)

pub returns-in_ok-lines-in-Heard-clause-passed : goal.returns-in_ok-lines-in-Heard-clause-passed
returns-in_ok-lines-in-Heard-clause-passed g c = let underway : c.is_underway.result ≡ true = search rules in let heard = c.in_ok-passed.ensures {u = tt} in λ p is.
    heard_by_seat c.args.which c.args.own.now c.hear.new.self c.args.other.now c.args.traffic.now (note_of c.args.sent.now) p c.args.now (ap index_of c.requires.receiver) c.refusals_change_nothing.ensures
    (underway_so c.args.which c.args.own.now c.args.other.now c.args.traffic.now (note_of c.args.sent.now) c.is_underway.result c.is_underway.ensures ∙ underway) _ _ _
    c.in_ok-passed.passed c.in-Heard.heard c.in-Heard.recorded c.in-Heard.is (heard.heard p is) (side c.hear.new.self c.args.other.now c.note.new.traffic)
    (side c.part_where.new.own c.part_where.new.other c.part_where.new.traffic) (c.in_ok-note-in-Heard.ensures {u = tt} c.args.which)
    c.ends.result c.ends.ensures (c.part_where.ensures c.args.which) c.in_ok-lines-in-Heard.lines (c.in_ok-lines-in-Heard.ensures {u = tt})

pub returns-in-Gone-clause-passed : goal.returns-in-Gone-clause-passed
returns-in-Gone-clause-passed g c = let underway : c.is_underway.result ≡ true = search rules in let heard = c.in_ok-passed.ensures {u = tt} in λ p is.
    gone_by_seat c.args.which c.args.own.now c.hear.new.self c.args.other.now c.args.traffic.now (note_of c.args.sent.now) p c.args.now (ap index_of c.requires.receiver) c.refusals_change_nothing.ensures
    (underway_so c.args.which c.args.own.now c.args.other.now c.args.traffic.now (note_of c.args.sent.now) c.is_underway.result c.is_underway.ensures ∙ underway) _ _ _
    c.in_ok-passed.passed c.in-Gone.is (heard.heard p is)

pub returns-in-Broke-clause-passed : goal.returns-in-Broke-clause-passed
returns-in-Broke-clause-passed g c = let underway : c.is_underway.result ≡ true = search rules in let heard = c.in_ok-passed.ensures {u = tt} in λ p is.
    broke_by_seat c.args.which c.args.own.now c.hear.new.self c.args.other.now c.args.traffic.now (note_of c.args.sent.now) p c.args.now (ap index_of c.requires.receiver) c.refusals_change_nothing.ensures
    (underway_so c.args.which c.args.own.now c.args.other.now c.args.traffic.now (note_of c.args.sent.now) c.is_underway.result c.is_underway.ensures ∙ underway) _ _ _
    c.in_ok-passed.passed c.in-Broke.how c.in-Broke.is (heard.heard p is) (side c.part.new.own c.part.new.other c.part.new.traffic) (c.part.ensures c.args.which)
    c.failed.result c.failed.ensures

pub returns-in_ok-lines-in-Heard-clause-lasts : goal.returns-in_ok-lines-in-Heard-clause-lasts
returns-in_ok-lines-in-Heard-clause-lasts g c = lasts_then_stored c.hear.ensures.lasts (ended_stored c.args.which c.ends.result (side c.hear.new.self c.args.other.now c.note.new.traffic)
    (side c.part_where.new.own c.part_where.new.other c.part_where.new.traffic) (c.part_where.ensures c.args.which)).0

pub returns-in_ok-lines-in-Heard-clause-beside : goal.returns-in_ok-lines-in-Heard-clause-beside
returns-in_ok-lines-in-Heard-clause-beside g c = (ended_stored c.args.which c.ends.result (side c.hear.new.self c.args.other.now c.note.new.traffic)
    (side c.part_where.new.own c.part_where.new.other c.part_where.new.traffic) (c.part_where.ensures c.args.which)).1

pub returns-in-Broke-clause-lasts : goal.returns-in-Broke-clause-lasts
returns-in-Broke-clause-lasts g c = lasts_then_stored c.hear.ensures.lasts (c.part.ensures c.args.which).own

pub returns-in-Broke-clause-beside : goal.returns-in-Broke-clause-beside
returns-in-Broke-clause-beside g c = (c.part.ensures c.args.which).beside
