use Rattle.std.proofs.Common.{◌∙◌, ap, ℕ, arith, refl}
use Rattle.mqb_fields.specs.Writing.{bytes_of, put_at}
use Rattle.mqb_setup.specs.Internals.{flags_of, plain_part}
use Rattle.mqb_setup.specs.lemmas.Parts.{internal_put}
use Rattle.mqb_setup.proofs.writing.put_internal.Goals as goal

pub returns-clause-put : goal.returns-clause-put
returns-clause-put c =
    internal_put c.args.to.now (bytes_of 2 (flags_of c.args.part.now)) (bytes_of 2 0) (plain_part c.args.part.now) _ _ _ refl refl (omega (arith, c.requires.room))
    (c.put_u16.ensures ∙ ap (λ (flags : ℕ). put_at c.args.to.now 0 (bytes_of 2 flags)) c.flags_of.ensures) c.put_u16-2.ensures c.put_part.ensures.put
