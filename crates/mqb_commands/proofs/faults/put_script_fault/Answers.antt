use Rattle.std.proofs.Common.{◌≡◌, List, ap, ◌∙◌, ℕ}
use Rattle.std.specs.Fmt.{decimal}
use Rattle.std.specs.Prelude.{codes}
use Rattle.mqb_commands.specs.Texts.{line_kind_text, script_fault_text}
use Rattle.mqb_transcript.specs.Printing.{wrote}
use Rattle.mqb_commands.proofs.TextLines.{five_wrote}
use Rattle.mqb_commands.proofs.faults.put_script_fault.Goals as goal

pub returns : goal.returns
unfolding script_fault_text
returns c =
    let kind : c.put-3.new.self ≡ wrote c.put-2.new.self (line_kind_text c.args.kind) =
    c.in_ok-put-3.ensures ∙ ap (λ (text : List ℕ). wrote c.put-2.new.self text) c.line_kind_text.ensures in
    five_wrote c.put-4.result c.args.printer.now c.put.new.self c.number.new.self c.put-2.new.self c.put-3.new.self c.put-4.new.self
    (codes "fault: script ") (decimal c.args.line) (codes " ") (line_kind_text c.args.kind) (codes "\n")
    c.in_ok-put.ensures c.in_ok-number.ensures c.in_ok-put-2.ensures kind c.put-4.ensures
