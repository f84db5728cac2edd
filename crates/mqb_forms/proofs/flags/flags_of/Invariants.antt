use Rattle.std.proofs.Common.{◌≡◌, ◌<◌, drop}
use Rattle.mqb_forms.proofs.FlagLetters.{flags_from}
use Rattle.mqb_forms.proofs.flags.flags_of.Given as goal

abbrev pub invariant-loop-letter : goal.invariant-loop-letter
invariant-loop-letter l = record { few : l.flags < 64; read : flags_from 0 l.word ≡ flags_from l.flags (drop l.letter-index l.word) }
