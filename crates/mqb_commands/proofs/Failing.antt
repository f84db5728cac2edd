-- What is said of a store that is not opened.
use Rattle.std.proofs.Common.{◌≡◌, ◌<◌, ℕ, List, [], Result, Err, length, refl, sym, subst, ◌∙◌, inl, inr}
use Rattle.mqb_outside.specs.Disk.{OnlyReads, View}
use Rattle.mqb_commands.specs.Outputs.{IsFaultLine}
use Rattle.mqb_commands.specs.Texts.{fault_text}
use Rattle.mqb_commands.specs.declared.status.Status.{Status}
use Rattle.mqb_commands.specs.declared.status.Status.TheVariants as status
use Rattle.mqb_base.specs.declared.ids.Identity.{Identity}
use Rattle.mqb_outside.specs.Images.{Each}
use Rattle.mqb_journal.specs.Causes.{FaultsAsSaid, open_failed}
use Rattle.mqb_journal.specs.declared.faults.OpenFault.{OpenFault}
use Rattle.mqb_journal.specs.declared.faults.OpenFault.TheVariants as opening
use Rattle.mqb_store_laws.specs.Faults.{IsBadStore}
use Rattle.mqb_store_laws.specs.Settling.{OnlySettles}
use Rattle.mqb_commands.specs.Causes.{open_status}
use Rattle.mqb_commands.specs.Opened.{IsNotOpened}
use Rattle.mqb_commands.specs.Said.{Inits}
use Rattle.mqb_commands.specs.lemmas.Opening.{memory_line}

-- an answer that is a fault
abbrev failing : {V : Type 0} → OpenFault → Result V OpenFault
failing fault = Err fault

pub start_fails : {V : Type 0} (d e : View) (fault : OpenFault) (r : Status) → r ≡ open_status fault → OnlySettles d e
    → FaultsAsSaid open_failed d.faults e.faults (failing {V = V} fault)
    → ((at : ℕ) → failing {V = V} fault ≡ failing {V = V} (opening.BadStore at) → Each d.reads (IsBadStore at))
    → (failing {V = V} fault ≡ failing {V = V} opening.NotEmpty → ⊥) → IsNotOpened d e r
start_fails d e opening.NotEmpty r is reads cause bad never = absurd (never refl)
start_fails d e (opening.BadStore at) r is reads cause bad never = subst (IsNotOpened d e) (sym is) (bad at refl, reads)
start_fails d e opening.Memory r is reads cause bad never = subst (IsNotOpened d e) (sym is) reads
start_fails d e opening.DiskFault r is reads cause bad never = subst (IsNotOpened d e) (sym is) (cause, reads)

pub format_fails : {V : Type 0} (identity : Identity) (d e : View) (fault : OpenFault) (s end : Status) (text : List ℕ) → s ≡ open_status fault → IsFaultLine s text end
    → FaultsAsSaid open_failed d.faults e.faults (failing {V = V} fault)
    → (failing {V = V} fault ≡ failing {V = V} opening.NotEmpty → Each d.reads (λ c. 0 < length c))
    → (failing {V = V} fault ≡ failing {V = V} opening.NotEmpty → OnlyReads d e)
    → (failing {V = V} fault ≡ failing {V = V} opening.Memory → OnlyReads d e)
    → ((at : ℕ) → failing {V = V} fault ≡ failing {V = V} (opening.BadStore at) → ⊥) → Inits identity d e text end
format_fails identity d e opening.NotEmpty s end text is line cause not_empty not_written memory never =
    elim (subst (λ (t : Status). IsFaultLine t text end) is line) [
      | inl said ↦ subst (Inits identity d e text) (sym said.0) (said.1, not_empty refl, not_written refl)
      | inr none ↦ subst (Inits identity d e text) (sym none.0) (none.1, inl (not_written refl))
    ]
format_fails identity d e (opening.BadStore at) s end text is line cause not_empty not_written memory never = absurd (never at refl)
format_fails identity d e opening.Memory s end text is line cause not_empty not_written memory never =
    elim (subst (λ (t : Status). IsFaultLine t text end) is line) [
      | inl said ↦ subst (Inits identity d e text) (sym said.0) (said.1 ∙ memory_line, inl (memory refl))
      | inr none ↦ subst (Inits identity d e text) (sym none.0) (none.1, inl (memory refl))
    ]
format_fails identity d e opening.DiskFault s end text is line cause not_empty not_written memory never =
    elim (subst (λ (t : Status). IsFaultLine t text end) is line) [
      | inl said ↦ subst (Inits identity d e text) (sym said.0) (said.1, cause)
      | inr none ↦ subst (Inits identity d e text) (sym none.0) (none.1, inr cause)
    ]
