use Rattle.std.specs.Prelude.{◌≡◌, Result, Ok, Err, IfOk, IfErr}
use Rattle.mqb_picture.specs.declared.faults.Kind.{Kind}
use Rattle.mqb_picture.specs.declared.faults.Fault.{Fault}
use Rattle.mqb_picture.specs.declared.faults.Fault.TheVariants.{Input}

-- a fault that is no want of memory is that of the definition
abbrev pub IsFaultOf : {T : Type 0} → Result T Kind → Fault → Type 0
IsFaultOf read fault = (kind : Kind) → fault ≡ Input kind → read ≡ Err kind

-- A call answers what the definition reads, or wants memory.
abbrev pub Reads : {T : Type 0} → Result T Kind → Result T Fault → Type 0
Reads read r = IfOk r (λ x. read ≡ Ok x) × IfErr r (IsFaultOf read)
