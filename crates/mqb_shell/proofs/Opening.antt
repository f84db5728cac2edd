-- What a shell says of a store that is not opened.
use Rattle.std.proofs.Common.{[], ◌≡◌, List, Option, inl, inr, subst, sym, ℕ}
use Rattle.mqb_outside.specs.Disk.{View}
use Rattle.mqb_commands.specs.Opened.{IsNotOpened}
use Rattle.mqb_commands.specs.Outputs.{IsFaultLine, IsPlain, Says, Tells}
use Rattle.mqb_commands.specs.declared.status.Status.{Status}
use Rattle.mqb_commands.specs.declared.status.Status.TheVariants as status
use Rattle.mqb_shell.specs.Shells.{IsShellEnd}

-- that is no fault of the output
pub unopened_plain : (d e : View) (fault end : Status) {text : List ℕ} → IsNotOpened d e fault → IsFaultLine fault text end → IsPlain end
unopened_plain d e (status.BadStore at) end not line = elim line [ inl said ↦ subst IsPlain (sym said.0) tt | inr none ↦ subst IsPlain (sym none.0) tt ]
unopened_plain d e status.DiskFault end not line = elim line [ inl said ↦ subst IsPlain (sym said.0) tt | inr none ↦ subst IsPlain (sym none.0) tt ]
unopened_plain d e status.Memory end not line = elim line [ inl said ↦ subst IsPlain (sym said.0) tt | inr none ↦ subst IsPlain (sym none.0) tt ]
unopened_plain d e _ end not line = absurd not

-- and an end of a shell
pub unopened_end : (d e : View) (fault : Status) → IsNotOpened d e fault → IsShellEnd fault
unopened_end d e (status.BadStore at) not = tt
unopened_end d e status.DiskFault not = tt
unopened_end d e status.Memory not = tt
unopened_end d e _ not = absurd not

-- a fault line that was made and written
pub line_said : {fault end : Status} {text : List ℕ} {before after : Option (List ℕ)} {r : Status} → IsFaultLine fault text end → Tells text end before after r
    → (text ≡ [] → r ≡ end) → Says (IsFaultLine fault) before after r
line_said {end = end} {text = text} means told some = record { text = text; end = end; means = means; told = told; some = some }
