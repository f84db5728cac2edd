use Rattle.std.proofs.Common.{◌/◌, ◌^◌, refl, arith}
use Rattle.std.proofs.lemmas.Grind.{one_shifted}
use Rattle.std.proofs.lemmas.Nat.{and_mask}
use Rattle.mqb_heads.proofs.flags.bits.Goals as goal

pub returns : goal.returns
returns c = rw ((one_shifted c.args.count 4294967295 refl (omega arith)).0) (and_mask (c.args.word / 2 ^ c.args.from) c.args.count)
