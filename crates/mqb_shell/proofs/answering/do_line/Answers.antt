use Rattle.std.proofs.Common.{inl, sym}
use Rattle.mqb_shell.proofs.answering.do_line.Goals as goal

pub returns-in-Ok-clause-does : goal.returns-in-Ok-clause-does
returns-in-Ok-clause-does g c = inl (rw (sym c.in-Ok.ensures.asked) c.do_command.ensures.does)
