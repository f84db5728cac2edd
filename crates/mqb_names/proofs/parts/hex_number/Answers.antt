use Rattle.std.proofs.Common.{arith}
use Rattle.mqb_names.proofs.Ends.{one_more_digit}
use Rattle.mqb_names.proofs.parts.hex_number.Goals as goal

pub overflow_mul-number : goal.overflow_mul-number
overflow_mul-number c =
    let room = (one_more_digit c.loop-digit.number c.loop-digit.digit-index c.loop-digit.invariant.small (omega (arith, c.loop-digit-test.true, c.requires))).0 in
    omega (arith, room)

pub overflow_add-number : goal.overflow_add-number
overflow_add-number c =
    let room = (one_more_digit c.loop-digit.number c.loop-digit.digit-index c.loop-digit.invariant.small (omega (arith, c.loop-digit-test.true, c.requires))).0 in
    omega (arith, room, c.hex_value.ensures.small, c.from.ensures)
