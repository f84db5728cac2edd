use Rattle.std.proofs.Common.{map}
use Rattle.mqb_forms.specs.Sends.{ops_of}
use Rattle.mqb_forms.proofs.Steps.{IsReadTo}
use Rattle.mqb_forms.proofs.sends.ops_of.Given as goal

abbrev pub invariant-loop-word : goal.invariant-loop-word
invariant-loop-word l = IsReadTo (ops_of (map (λ word. word.now) l.words)) l.word-index l.words l.ops
