-- The five parts of a line, one behind the other.
use Rattle.std.proofs.Common.{◌≡◌, ℕ, List, ◌++◌, Result}
use Rattle.std.specs.Prelude.{OnOk}
use Rattle.mqb_transcript.specs.Printing.{Page, wrote}
use Rattle.mqb_transcript.specs.lemmas.Wrote.{last_wrote, then_wrote}

pub line_wrote : {T E : Type 0} (r : Result T E) (start p q s t last : Page) (a n b e c : List ℕ)
    → p ≡ wrote start a → q ≡ wrote p n → s ≡ wrote q b → t ≡ wrote s e → OnOk r (last ≡ wrote t c)
    → OnOk r (last ≡ wrote start (a ++ n ++ b ++ e ++ c))
line_wrote r start p q s t last a n b e c first second third fourth fifth =
    last_wrote r start t last (a ++ n ++ b ++ e) c
    (then_wrote start s t (a ++ n ++ b) e (then_wrote start q s (a ++ n) b (then_wrote start p q a n first second) third) fourth) fifth
