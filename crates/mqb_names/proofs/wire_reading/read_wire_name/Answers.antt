use Rattle.std.proofs.Common.{sym, ◌∙◌, arith}
use Rattle.std.proofs.lemmas.List.{length-take-le}
use Rattle.mqb_names.specs.lemmas.Lengths.{length_taken, length_long}
use Rattle.mqb_names.proofs.wire_reading.read_wire_name.Goals as goal

pub is_spelled-requires : goal.is_spelled-requires
is_spelled-requires c =
    let long = length_long c.args.kind c.args.bytes.now c.in_ok-len.len (sym c.length_at.ensures ∙ c.in_ok-len.was) in
    omega (arith, long, length-take-le c.in_ok-len.len c.args.bytes.now c.if-bytes-len.false)

pub returns-then-is_spelled-clause-form : goal.returns-then-is_spelled-clause-form
returns-then-is_spelled-clause-form c =
    (length_taken c.args.kind c.args.bytes.now c.in_ok-len.len (sym c.length_at.ensures ∙ c.in_ok-len.was) c.if-bytes-len.false, sym c.if-is_spelled.ensures)
