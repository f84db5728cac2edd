use Rattle.std.proofs.Common.{◌≡◌, take}
use Rattle.mqb_transcript.specs.Printing.{wrote}
use Rattle.mqb_transcript.specs.Texts.{numbers_text}
use Rattle.mqb_transcript.proofs.printer.Printer.numbers.Given as goal

abbrev pub invariant-loop-number : goal.invariant-loop-number
invariant-loop-number l = l.self ≡ wrote l.initial.self (numbers_text (take l.number-index l.numbers))
