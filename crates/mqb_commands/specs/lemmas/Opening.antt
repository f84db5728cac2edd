-- From the disk before a store was opened to the disk behind what its manager did.
use Rattle.std.proofs.Common.{◌≡◌, ◌∙◌, List, [], inl, inr, refl, subst, sym, ℕ}
use Rattle.mqb_outside.specs.Disk.{View}
use Rattle.mqb_answers.specs.mqb_manager.Keeping.{KeepsDisk}
use Rattle.mqb_answers.specs.mqb_manager.lemmas.Keeping.{keeping_goes_on}
use Rattle.mqb_answers.specs.mqb_manager.States.{ManagerState}
use Rattle.mqb_store_laws.specs.lemmas.Settling.{on_settled, settled_still}
use Rattle.mqb_store_laws.specs.Settling.{OnlySettles}
use Rattle.mqb_commands.specs.Opened.{IsNotOpened, OnStore, OpensAs}
use Rattle.mqb_commands.specs.Outputs.{IsFaultLine}
use Rattle.mqb_commands.specs.Said.{FailsToOpen}
use Rattle.mqb_commands.specs.Texts.{fault_text}
use Rattle.mqb_commands.specs.declared.status.Status.{Status}
use Rattle.mqb_commands.specs.declared.status.Status.TheVariants as status

-- Opening reads and syncs, so the disk stands for the manager still.
pub opened_keeps : (d f : View) (m : ManagerState) → OnlySettles d f → KeepsDisk d f m m
opened_keeps d f m settles = record {
  up = λ up. up;
  on = λ on up. on_settled d f m.store.journal m.store.state (on up) settles;
  settled = λ on settled up. settled_still d f settled settles;
  doubt = λ up on settled down. absurd (down up);
  switch = settles.switch;
}

-- What a manager that is open does is done of the store that was opened.
pub on_store : {does : (m n : ManagerState) → Type 0} {d f e : View} {m n : ManagerState}
    → OpensAs d m → OnlySettles d f → does m n → KeepsDisk f e m n → OnStore does d e
on_store {does} {d} {f} {e} {m} {n} opened reads done disk = record {
  before = m;
  after = n;
  opened = opened;
  done = done;
  disk = keeping_goes_on d f e m m n (opened_keeps d f m reads) opened.up disk;
}

-- What is said of a store that is not opened.

pub memory_line : fault_text status.Memory ≡ []
unfolding fault_text
memory_line = refl

-- memory ran out
pub memory_fails : (d e : View) (text : List ℕ) (end : Status) → OnlySettles d e → text ≡ []
    → end ≡ status.Memory → FailsToOpen d e text end
memory_fails d e text end reads none is =
    subst (FailsToOpen d e text) (sym is) (reads, none ∙ sym memory_line)

pub line_fails : (d e : View) (fault end : Status) (text : List ℕ) → IsNotOpened d e fault
    → OnlySettles d e → IsFaultLine fault text end → FailsToOpen d e text end
line_fails d e fault end text not reads line = elim line [
  | inl said ↦ subst (FailsToOpen d e text) (sym said.0) (not, said.1)
  | inr none ↦ memory_fails d e text end reads none.1 none.0
]
