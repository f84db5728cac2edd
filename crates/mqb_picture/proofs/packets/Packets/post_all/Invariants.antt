use Rattle.std.proofs.Common.{map}
use Rattle.mqb_picture.specs.Fates.{posted}
use Rattle.mqb_picture.proofs.Steps.{IsPostedTo}
use Rattle.mqb_picture.proofs.packets.Packets.post_all.Given as goal

abbrev pub invariant-loop-word : goal.invariant-loop-word
invariant-loop-word l =
    IsPostedTo (posted l.line l.set_up l.fn.from l.initial.self (map (λ word. word.now) l.words)) l.line l.set_up l.sender l.word-index l.words l.self
