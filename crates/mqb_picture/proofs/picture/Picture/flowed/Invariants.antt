use Rattle.std.proofs.Common.{◌≡◌, length, map}
use Rattle.mqb_picture.specs.Picture.{flowed}
use Rattle.mqb_picture.proofs.picture.Picture.flowed.Given as goal

abbrev pub invariant-loop-rest : goal.invariant-loop-rest
invariant-loop-rest l =
    flowed l.line l.side l.fn.self (map (λ part. part.now) l.parts) ≡ flowed l.line l.side l.self (map (λ part. part.now) l.rest)

abbrev pub decreases-loop-rest : goal.decreases-loop-rest
decreases-loop-rest l = length l.rest
