use Rattle.std.specs.Prelude.{◌≡◌, Bool, List, [], ◌∷◌, ◌++◌, Result, Ok, Err, IfOk, IfErr}
use Rattle.std.specs.Prelude.{OnOk, if◌then◌else◌}
use Rattle.mqb_fields.specs.Reading.{◌>>=◌}
use Rattle.mqb_forms.specs.declared.faults.LineKind.{LineKind}
use Rattle.mqb_forms.specs.declared.faults.LineKind.TheVariants.{Value}
use Rattle.mqb_forms.specs.declared.faults.LineFault.{LineFault}
use Rattle.mqb_forms.specs.declared.faults.LineFault.TheVariants.{Faulty}

-- what is read, where the test holds; a word is outside its form otherwise
abbrev pub only_if : {T : Type 0} → Bool → Result T LineKind → Result T LineKind
only_if test read = if test then read else Err Value

-- a fault that is no want of memory is that of the definition
abbrev pub IsFaultOf : {T : Type 0} → Result T LineKind → LineFault → Type 0
IsFaultOf read fault = (kind : LineKind) → fault ≡ Faulty kind → read ≡ Err kind

-- A call answers what the definition reads, or wants memory.
abbrev pub Reads : {T : Type 0} → Result T LineKind → Result T LineFault → Type 0
Reads read r = IfOk r (λ x. read ≡ Ok x) × IfErr r (IsFaultOf read)

-- the item of what was read, behind what was read before it
abbrev pub behind : {S T : Type 0} → (S → T) → List T → Result S LineKind → Result (List T) LineKind
behind item before read = read >>= λ x. Ok (before ++ item x ∷ [])

-- A call adds the item of what the definition reads, or wants memory.
abbrev pub Adds : {S T : Type 0} → (S → T) → Result S LineKind → (before after : List T)
    → Result (Unit {0}) LineFault → Type 0
Adds item read before after r =
    OnOk r (behind item before read ≡ Ok after) × IfErr r (IsFaultOf read)
