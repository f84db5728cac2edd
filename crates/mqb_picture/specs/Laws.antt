-- What is true of every picture.
use Rattle.std.specs.Prelude.{◌≡◌, ℕ, ◌+◌, List, length, Some, Ok}
use Rattle.mqb_picture.specs.declared.asked.Asked.{Asked}
use Rattle.mqb_picture.specs.declared.asked.Asked.TheVariants as asked
use Rattle.mqb_picture.specs.Words.{parts_by, words_of}
use Rattle.mqb_picture.specs.Asked.{asked_of}
use Rattle.mqb_picture.specs.Elements.{Progress}
use Rattle.mqb_picture.specs.Picture.{said_to, drawn}

-- how many answers a reply has: that of a flow has one more for each packet, of which a colon tells
abbrev pub answers_in : Asked → List ℕ → ℕ
answers_in (asked.Flow side) said = length (parts_by 58 said)
answers_in _ said = 1

-- A line and its reply, which is what was said to what it asks, add an element for each answer.
abbrev pub OneElementAnAnswer : ℕ → List ℕ → List ℕ → Progress → Progress → Type 0
OneElementAnAnswer n line reply p q = (what : Asked) (said : List ℕ) → said_to n reply ≡ Ok said
    → asked_of (words_of line) ≡ Some what
    → drawn n line reply p ≡ Ok q → length q.elements ≡ length p.elements + answers_in what said
