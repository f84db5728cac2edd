use Rattle.std.specs.Prelude.{ℕ}
use Rattle.mqb_forms.specs.declared.faults.LineFault.{LineFault}
use Rattle.mqb_forms.specs.declared.faults.LineFault.TheVariants as line
use Rattle.mqb_script.specs.declared.faults.ScriptFault.{ScriptFault}
use Rattle.mqb_script.specs.declared.faults.ScriptFault.TheVariants as script

-- the fault of a script whose line n is the first that fails
abbrev pub at_line : ℕ → LineFault → ScriptFault
at_line n (line.Faulty kind) = script.Line n kind
at_line n line.Memory = script.Memory
