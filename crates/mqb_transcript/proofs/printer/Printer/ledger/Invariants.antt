use Rattle.std.proofs.Common.{◌≡◌, take}
use Rattle.mqb_transcript.specs.Printing.{wrote}
use Rattle.mqb_transcript.specs.Texts.{lines_text}
use Rattle.mqb_transcript.proofs.printer.Printer.ledger.Given as goal

abbrev pub invariant-loop-line : goal.invariant-loop-line
invariant-loop-line l = l.self ≡ wrote l.initial.self (lines_text l.initial.self.hosts (take l.line-index l.lines))
