-- The faults of lines.
use Rattle.std.proofs.Common.{ℕ, Result, refl, ap}
use Rattle.mqb_forms.specs.declared.faults.LineKind.{LineKind}
use Rattle.mqb_forms.specs.declared.faults.LineFault.{LineFault}
use Rattle.mqb_forms.specs.declared.faults.LineFault.TheVariants.{Faulty, Memory}
use Rattle.mqb_forms.specs.Faults.{IsFaultOf}
use Rattle.mqb_script.specs.Faults.{at_line}
use Rattle.mqb_script.specs.Script.{numbered}
use Rattle.mqb_script.specs.Reading.{IsScriptFault}

pub at_line_fault : {T : Type 0} (n : ℕ) (read : Result T LineKind) (e : LineFault) → IsFaultOf read e → IsScriptFault (numbered n read) (at_line n e)
at_line_fault n read (Faulty kind) h = ap (numbered n) (h kind refl)
at_line_fault n read Memory h = tt
