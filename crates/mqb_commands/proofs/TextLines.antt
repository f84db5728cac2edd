-- Texts in a row.
use Rattle.std.proofs.Common.{◌≡◌, ℕ, List, ◌++◌, Result, OnOk}
use Rattle.mqb_transcript.specs.Printing.{Page, wrote}
use Rattle.mqb_transcript.specs.lemmas.Wrote.{then_wrote, last_wrote}

pub three_wrote : {T E : Type 0} (r : Result T E) (start first second last : Page) (a b c : List ℕ) → first ≡ wrote start a → second ≡ wrote first b
    → OnOk r (last ≡ wrote second c) → OnOk r (last ≡ wrote start (a ++ b ++ c))
three_wrote r start first second last a b c one two three =
    last_wrote r start second last (a ++ b) c (then_wrote start first second a b one two) three

pub five_wrote : {T E : Type 0} (r : Result T E) (start first second third fourth last : Page) (a b c d e : List ℕ) → first ≡ wrote start a → second ≡ wrote first b
    → third ≡ wrote second c → fourth ≡ wrote third d → OnOk r (last ≡ wrote fourth e) → OnOk r (last ≡ wrote start (a ++ b ++ c ++ d ++ e))
five_wrote r start first second third fourth last a b c d e one two three four five =
    last_wrote r start fourth last (a ++ b ++ c ++ d) e
    (then_wrote start third fourth (a ++ b ++ c) d (then_wrote start second third (a ++ b) c (then_wrote start first second a b one two) three) four) five
