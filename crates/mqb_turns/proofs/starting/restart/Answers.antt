use Rattle.std.proofs.Common.{Bool, subst}
use Rattle.mqb_seats.specs.Stored.{stored_held}
use Rattle.mqb_seats.specs.lemmas.Keeping.{stored_then_lasts}
use Rattle.mqb_turns.proofs.Started.{started_so}
use Rattle.mqb_turns.proofs.Turning.{if_ok}
use Rattle.mqb_turns.specs.Settling.{IsNoted}
use Rattle.mqb_turns.specs.Sides.{side}
use Rattle.mqb_turns.proofs.starting.restart.Goals as goal

pub restart-requires : goal.restart-requires
restart-requires g c = let parted = c.part.ensures c.args.which in stored_held _ c.args.own.now c.part.new.own parted.own c.requires.held

pub returns-clause-turn : goal.returns-clause-turn
returns-clause-turn g c = let opened = c.in_ok-opened.ensures {u = tt} in if_ok c.told.result (λ given given_is.
    started_so c.args.which c.args.own.now c.part.new.own c.restart.new.self c.args.other.now c.part.new.other c.args.traffic.now c.part.new.traffic
    (side c.restart.new.self c.part.new.other c.note.new.traffic) _ _ given (c.part.ensures c.args.which) c.is_down-was_down.result c.is_down-was_down.ensures
    c.in_ok-opened.opened opened.opened
    (subst (λ (kept : Bool). IsNoted c.args.which (side c.restart.new.self c.part.new.other c.part.new.traffic) (side c.restart.new.self c.part.new.other c.note.new.traffic) kept)
    c.was_kept.ensures (c.in_ok-note.ensures {u = tt} c.args.which)) given_is) c.told.ensures

pub returns-in_err-opened-clause-lasts : goal.returns-in_err-opened-clause-lasts
returns-in_err-opened-clause-lasts g c = stored_then_lasts c.requires.held (c.part.ensures c.args.which).own c.restart.ensures.lasts

pub returns-in_err-opened-clause-beside : goal.returns-in_err-opened-clause-beside
returns-in_err-opened-clause-beside g c = (c.part.ensures c.args.which).beside

pub returns-in_err-note-clause-lasts : goal.returns-in_err-note-clause-lasts
returns-in_err-note-clause-lasts g c = stored_then_lasts c.requires.held (c.part.ensures c.args.which).own c.restart.ensures.lasts

pub returns-in_err-note-clause-beside : goal.returns-in_err-note-clause-beside
returns-in_err-note-clause-beside g c = (c.part.ensures c.args.which).beside

pub returns-clause-lasts : goal.returns-clause-lasts
returns-clause-lasts g c = stored_then_lasts c.requires.held (c.part.ensures c.args.which).own c.restart.ensures.lasts

pub returns-clause-beside : goal.returns-clause-beside
returns-clause-beside g c = (c.part.ensures c.args.which).beside
