use Rattle.mqb_moves.specs.lemmas.Stored.{unchanged_held}
use Rattle.mqb_seats.proofs.seat.Seat.arm.Goals as goal

pub returns-clause-held : goal.returns-clause-held
returns-clause-held g c = unchanged_held _ _ c.args.self.now c.arm.ensures.unchanged c.requires.held
