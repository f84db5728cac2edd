-- What is added at the end of bytes of which the first ones stand for themselves.
use Rattle.std.proofs.Common.{◌≡◌, ◌≤◌, ℕ, List, ◌++◌, length, take, drop, ap, ◌∙◌}
use Rattle.std.proofs.lemmas.List.{take-append-le, drop-append-le}

pub text_grows : (start : ℕ) (old new added : List ℕ) → start ≤ length old → new ≡ old ++ added → drop start new ≡ drop start old ++ added
text_grows start old new added within is = ap (drop start) is ∙ drop-append-le start old added within
