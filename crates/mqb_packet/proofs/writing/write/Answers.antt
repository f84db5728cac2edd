use Rattle.std.proofs.Common.{◌≡◌, ◌∙◌, ◌++◌, ℕ, List, false, ap, sym, arith}
use Rattle.mqb_heads.specs.Base.{plain_base}
use Rattle.mqb_setup.specs.declared.internal.Internal.TheVariants as part
use Rattle.mqb_setup.specs.Internals.{plain_internal}
use Rattle.mqb_packet.specs.Plain.{internal_base, packet_size, plain_spelling}
use Rattle.mqb_packet.proofs.Behind.{length_establish}
use Rattle.mqb_packet.proofs.writing.write.Goals as goal

pub put_internal_packet-requires-clause-size : goal.put_internal_packet-requires-clause-size
put_internal_packet-requires-clause-size c =
    let size : c.args.size ≡ 572 = c.requires.size ∙ ap packet_size c.in-Establish.is in
    omega (arith, size, length_establish c.in-Establish.establish)

pub returns-in-Establish : goal.returns-in-Establish
returns-in-Establish c =
    let size : c.args.size ≡ 572 = c.requires.size ∙ ap packet_size c.in-Establish.is in
    let spelled : ℕ → List ℕ = λ n. plain_base (internal_base false n) ++ plain_internal (part.Establish c.in-Establish.establish) in
    c.put_internal_packet.ensures ∙ ap spelled size ∙ sym (ap plain_spelling c.in-Establish.is)
