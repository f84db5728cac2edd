use Rattle.std.proofs.Common.{◌≡◌, map}
use Rattle.std.specs.List.{list_all}
use Rattle.mqb_script.specs.Lines.{is_some_word}
use Rattle.mqb_script.proofs.Counts.{are_some_from}
use Rattle.mqb_script.proofs.lines.are_some_words.Given as goal

abbrev pub invariant-loop-word : goal.invariant-loop-word
invariant-loop-word l = list_all is_some_word (map (λ word. word.now) l.words) ≡ are_some_from l.word-index l.words
