use Rattle.mqb_words.proofs.Formed.{asked_formed}
use Rattle.mqb_words.proofs.lines.command_in.Goals as goal

pub returns-then-is_open_command-clause-formed : goal.returns-then-is_open_command-clause-formed
returns-then-is_open_command-clause-formed c = asked_formed _ _ c.in_ok-command.ensures.0
