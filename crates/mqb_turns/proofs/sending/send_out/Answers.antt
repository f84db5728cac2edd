use Rattle.mqb_seats.specs.lemmas.Keeping.{lasts_then_stored}
use Rattle.mqb_turns.proofs.Posts.{few_notes, sent_broke, sent_went}
use Rattle.mqb_turns.specs.Sides.{side}
use Rattle.mqb_turns.proofs.sending.send_out.Goals as goal

pub note_sent-requires : goal.note_sent-requires
note_sent-requires g c = let pumped = c.in_ok-pumped.ensures {u = tt} in
    few_notes c.args.which c.args.own.now c.pump.new.self c.args.other.now c.args.traffic.now _ _ _ c.args.now _ _ c.in_ok-pumped.pumped pumped.pumped pumped.posted
    c.pumps_are_counted.ensures c.in-Went.count c.in-Went.recorded c.in-Went.is c.note.new.traffic (c.in_ok-note-in-Went.ensures {u = tt} c.args.which)
    c.requires.few (g.met.M.Medium.counted c.pump.new.medium).count

pub returns-in_ok-note_sent-in-Went-clause-sent : goal.returns-in_ok-note_sent-in-Went-clause-sent
returns-in_ok-note_sent-in-Went-clause-sent g c = let pumped = c.in_ok-pumped.ensures {u = tt} in
    sent_went c.args.which c.args.own.now c.pump.new.self c.args.other.now c.args.traffic.now _ _ _ c.args.now _ _ c.in_ok-pumped.pumped pumped.pumped pumped.posted
    c.pumps_are_counted.ensures c.in-Went.count c.in-Went.recorded c.in-Went.is c.note.new.traffic c.note_sent.new.self (c.in_ok-note-in-Went.ensures {u = tt} c.args.which)
    (c.in_ok-note_sent-in-Went.ensures {u = tt})

pub returns-in-Broke-clause-sent : goal.returns-in-Broke-clause-sent
returns-in-Broke-clause-sent g c = let pumped = c.in_ok-pumped.ensures {u = tt} in
    sent_broke c.args.which c.args.own.now c.pump.new.self c.args.other.now c.args.traffic.now _ _ _ c.args.now _ _ c.in_ok-pumped.pumped pumped.pumped pumped.posted
    c.in-Broke.how c.in-Broke.is (side c.part.new.own c.part.new.other c.part.new.traffic) (c.part.ensures c.args.which)

pub returns-in-Broke-clause-lasts : goal.returns-in-Broke-clause-lasts
returns-in-Broke-clause-lasts g c = lasts_then_stored c.pump.ensures.lasts (c.part.ensures c.args.which).own

pub returns-in-Broke-clause-beside : goal.returns-in-Broke-clause-beside
returns-in-Broke-clause-beside g c = (c.part.ensures c.args.which).beside
