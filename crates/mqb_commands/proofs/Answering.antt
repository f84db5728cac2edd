-- A call of a manager that is open.
use Rattle.std.proofs.Common.{◌≡◌, ℕ, List, [], Bool, true, false, cond, Option, Result, Ok, Err, refl, sym, ap, subst, ◌∙◌, inl, inr}
use Rattle.std.specs.Prelude.{◌⊎◌, IsOk}
use Rattle.mqb_answers.proofs.Definitions.{outcomes_are_told}
use Rattle.mqb_answers.specs.Calls.{IsTold, Tells}
use Rattle.mqb_answers.specs.Outcomes.{outcome_of}
use Rattle.mqb_answers.specs.Texts.{hosts_of}
use Rattle.mqb_answers.specs.declared.told.CallEnd.{CallEnd}
use Rattle.mqb_answers.specs.declared.told.CallEnd.TheVariants as call
use Rattle.mqb_answers.specs.declared.told.Told.{Told}
use Rattle.mqb_outside.specs.Disk.{View}
use Rattle.mqb_outside.specs.Faults.{Rose}
use Rattle.mqb_answers.specs.mqb_manager.Calls.{Ends, FailsUnder, Succeeds}
use Rattle.mqb_answers.specs.mqb_manager.Keeping.{KeepsDisk}
use Rattle.mqb_answers.specs.mqb_manager.lemmas.Keeping.{calls_keep_disks}
use Rattle.mqb_answers.specs.mqb_manager.States.{IsSame, IsUp, ManagerState, condition_of, manager_of}
use Rattle.mqb_model.specs.managers.Manager.{Down, Manager, Up}
use Rattle.mqb_model.specs.managers.Outcomes.{Outcome}
use Rattle.mqb_model.specs.records.Record.{Record}
use Rattle.mqb_model.specs.records.Reading.{record_of}
use Rattle.mqb_answers.specs.mqb_replies.declared.faults.AnswerFault.{AnswerFault}
use Rattle.mqb_answers.specs.mqb_replies.declared.faults.AnswerFault.TheVariants as fault
use Rattle.mqb_words.specs.declared.commands.Call.{Call}
use Rattle.mqb_commands.specs.Outputs.{GoesOn, IsAnswerEnd, IsFaultLine, IsLookEnd}
use Rattle.mqb_commands.specs.declared.status.Status.{Status}
use Rattle.mqb_commands.specs.declared.status.Status.TheVariants as status
use Rattle.mqb_commands.specs.Causes.{DiskFaultHasCause, is_disk_fault}
use Rattle.mqb_commands.specs.Opened.{IsNotOpened}
use Rattle.mqb_commands.specs.Said.{FailsToOpen}
use Rattle.mqb_commands.specs.Called.{CallsOn, IsAnswered, IsBroken, IsNotTold, TellsFaults, status_of}

-- a manager that was up is up still where its condition stays
up_of : (b : Bool) (r : Option Record) → cond b (Down r) Up ≡ Up → b ≡ false
up_of true r same = absurd (let none : ⊥ = cc in none)
up_of false r same = refl

up_by : (b : Bool) (r : Option Record) → b ≡ false → cond b (Down r) Up ≡ Up
up_by true r same = absurd (let none : ⊥ = cc in none)
up_by false r same = refl

stays_up : (m n : ManagerState) → condition_of n.store ≡ condition_of m.store → IsUp m → IsUp n
stays_up m n same up = up_of n.store.journal.down (record_of n.store.entry) (same ∙ up_by m.store.journal.down (record_of m.store.entry) up)

pub up_after : {A : Type 0} (m n : ManagerState) (o : Outcome A) → Succeeds m n o → IsUp m → IsUp n
up_after m n o made up = stays_up m n (ap (λ (k : Manager). k.condition) made.manager) up

pub up_same : (m n : ManagerState) → IsSame m n → IsUp m → IsUp n
up_same m n same up = stays_up m n (ap (λ (k : Manager). k.condition) same.manager) up

pub up_either : {A : Type 0} {o : Outcome A} (m n : ManagerState) → Succeeds m n o ⊎ IsSame m n → IsUp m → IsUp n
up_either m n (inl made) up = up_after m n _ made up
up_either m n (inr same) up = up_same m n same up

abbrev Telling : Type 0
Telling = Result Told AnswerFault

abbrev told_ok : Told → Telling
told_ok t = Ok t

abbrev told_err : AnswerFault → Telling
told_err why = Err why

-- an answer that is told was made
made_if : (m n : ManagerState) (o : Outcome Telling) (t : Told) → Ends fault.Memory fault.DiskFault m n o (told_ok t) → (o.answer ≡ told_ok t) × Succeeds m n o
made_if m n o t (inl went) = (sym went.0, went.1)
made_if m n o t (inr (inl none)) = absurd (apart t none.0)
  where
    apart : (t : Told) → told_ok t ≡ told_err fault.Memory → ⊥
    apart t e = cc
made_if m n o t (inr (inr none)) = absurd (apart t none.0)
  where
    apart : (t : Told) → told_ok t ≡ told_err fault.DiskFault → ⊥
    apart t e = cc

-- want of memory: it was made, or not
made_or_not : (m n : ManagerState) (o : Outcome Telling) → Ends fault.Memory fault.DiskFault m n o (told_err fault.Memory) → Succeeds m n o ⊎ IsSame m n
made_or_not m n o (inl went) = inl went.1
made_or_not m n o (inr (inl none)) = inr none.1
made_or_not m n o (inr (inr none)) = absurd (apart none.0)
  where
    apart : told_err fault.Memory ≡ told_err fault.DiskFault → ⊥
    apart e = cc

-- a disk fault is the disk's, since no definition answers it
failed : (m n : ManagerState) (o : Outcome Telling) → IsOk o.answer → Ends fault.Memory fault.DiskFault m n o (told_err fault.DiskFault) → FailsUnder m n o
failed m n o told (inl went) = absurd (apart (subst (λ (answer : Telling). IsOk answer) (sym went.0) told))
  where
    apart : IsOk (told_err fault.DiskFault) → ⊥
    apart e = cc
failed m n o told (inr (inl none)) = absurd (apart none.0)
  where
    apart : told_err fault.DiskFault ≡ told_err fault.Memory → ⊥
    apart e = cc
failed m n o told (inr (inr broke)) = broke.1

abbrev End : Type 0
End = Result CallEnd AnswerFault

abbrev end_ok : CallEnd → End
end_ok end = Ok end

abbrev end_err : AnswerFault → End
end_err why = Err why

end_no_fault : (end : CallEnd) (why : AnswerFault) → end_ok end ≡ end_err why → ⊥
end_no_fault end why e = cc

told_no_fault : (t : Told) → told_ok t ≡ told_err fault.DiskFault → ⊥
told_no_fault t e = cc

module _ (asked : Call) (now : ℕ) (d e : View) (kept : Type 0) (m n : ManagerState) (text : List ℕ) where
  pub keeps : {before : List ℕ} {r : End} → IsTold d e kept m n (outcome_of asked (manager_of m) now) before text r → KeepsDisk d e m n
  keeps told = calls_keep_disks fault.Memory fault.DiskFault d e m n (outcome_of asked (manager_of m) now) told.answer told.call

  -- Where a call is told, or is not for want of memory, its disk did not fail.

  ok_no_fault : (answer : Telling) (end : CallEnd) → Tells (hosts_of n.store.state) answer [] text (end_ok end) → answer ≡ told_err fault.DiskFault → ⊥
  ok_no_fault (Ok t) end said same = told_no_fault t same
  ok_no_fault (Err why) end said same = end_no_fault end why said.0

  pub answered_stays : (end : CallEnd) → IsTold d e kept m n (outcome_of asked (manager_of m) now) [] text (end_ok end) → e.faults ≡ d.faults
  answered_stays end told = told.call.stayed (ok_no_fault told.answer end told.told)

  want_no_fault : (answer : Telling) → Tells (hosts_of n.store.state) answer [] text (end_err fault.Memory) → answer ≡ told_err fault.DiskFault → ⊥
  want_no_fault (Ok t) said same = told_no_fault t same
  want_no_fault (Err why) said same = apart why said.0 same
    where
      apart : (why : AnswerFault) → end_err fault.Memory ≡ end_err why → told_err why ≡ told_err fault.DiskFault → ⊥
      apart why e same = cc

  pub unanswered_stays : IsTold d e kept m n (outcome_of asked (manager_of m) now) [] text (end_err fault.Memory) → e.faults ≡ d.faults
  unanswered_stays told = told.call.stayed (want_no_fault told.answer told.told)

  by_answer : (answer : Telling) (end : CallEnd) → IsUp m → Ends fault.Memory fault.DiskFault m n (outcome_of asked (manager_of m) now) answer
      → Tells (hosts_of n.store.state) answer [] text (end_ok end) → e.faults ≡ d.faults → IsAnswered asked now d.faults e.faults m n text end
  by_answer (Ok t) end up ends (inl said) stayed =
      let is = made_if m n (outcome_of asked (manager_of m) now) t ends in
      record {
        told = t;
        made = is.1;
        answer = is.0;
        ended = same_end t end said.0;
        said = said.1;
        up = up_after m n (outcome_of asked (manager_of m) now) is.1 up;
        stayed = stayed;
      }
    where
      same_end : (t : Told) (end : CallEnd) → end_ok end ≡ end_ok t.end → t.end ≡ end
      same_end t end e = cc
  by_answer (Ok t) end up ends (inr none) stayed = absurd (end_no_fault end fault.Memory none.0)
  by_answer (Err why) end up ends said stayed = absurd (end_no_fault end why said.0)

  pub is_answered : (end : CallEnd) → IsUp m → IsTold d e kept m n (outcome_of asked (manager_of m) now) [] text (end_ok end)
      → IsAnswered asked now d.faults e.faults m n text end
  is_answered end up told = by_answer told.answer end up told.call.ends told.told (answered_stays end told)

  by_fault : (answer : Telling) → Tells (hosts_of n.store.state) answer [] text (end_err fault.DiskFault) → answer ≡ told_err fault.DiskFault
  by_fault (Ok t) (inl said) = absurd (end_no_fault t.end fault.DiskFault (sym said.0))
  by_fault (Ok t) (inr none) = absurd (no_memory none.0)
    where
      no_memory : end_err fault.DiskFault ≡ end_err fault.Memory → ⊥
      no_memory e = cc
  by_fault (Err why) said = same_why why said.0
    where
      same_why : (why : AnswerFault) → end_err fault.DiskFault ≡ end_err why → told_err why ≡ told_err fault.DiskFault
      same_why why e = cc

  pub is_broken : IsTold d e kept m n (outcome_of asked (manager_of m) now) [] text (end_err fault.DiskFault)
      → IsBroken (outcome_of asked (manager_of m) now) d.faults e.faults m n
  is_broken told =
      let is = by_fault told.answer told.told in
      record {
        failed = failed m n (outcome_of asked (manager_of m) now) (outcomes_are_told asked (manager_of m) now)
            (subst (Ends fault.Memory fault.DiskFault m n (outcome_of asked (manager_of m) now)) is told.call.ends);
        rose = told.call.rose is;
      }

  by_memory : (answer : Telling) → Ends fault.Memory fault.DiskFault m n (outcome_of asked (manager_of m) now) answer
      → Tells (hosts_of n.store.state) answer [] text (end_err fault.Memory)
      → Succeeds m n (outcome_of asked (manager_of m) now) ⊎ IsSame m n
  by_memory (Ok t) ends said = inl (made_if m n (outcome_of asked (manager_of m) now) t ends).1
  by_memory (Err fault.Memory) ends said = made_or_not m n (outcome_of asked (manager_of m) now) ends
  by_memory (Err fault.DiskFault) ends said = absurd (no_fault said.0)
    where
      no_fault : end_err fault.Memory ≡ end_err fault.DiskFault → ⊥
      no_fault e = cc

  pub is_not_told : IsUp m → IsTold d e kept m n (outcome_of asked (manager_of m) now) [] text (end_err fault.Memory)
      → IsNotTold (outcome_of asked (manager_of m) now) d.faults e.faults m n
  is_not_told up told =
      let made = by_memory told.answer told.call.ends told.told in
      record { made = made; up = up_either m n made up; stayed = unanswered_stays told }

-- Where a disk fault comes from.
pub has_cause : (before after : ℕ) (r : Status) → (r ≡ status.DiskFault → Rose before after) → DiskFaultHasCause before after r
has_cause before after status.DiskFault rose = rose refl
has_cause before after r rose = tt

pub fails_cause : (d e : View) (text : List ℕ) (r : Status) → FailsToOpen d e text r → DiskFaultHasCause d.faults e.faults r
fails_cause d e text r fails = has_cause d.faults e.faults r (λ is. (subst (IsNotOpened d e) is fails.0).0)

end_cause : (before after : ℕ) (end : CallEnd) (r : Status) → r ≡ status_of end → DiskFaultHasCause before after r
end_cause before after call.Done r is = subst (DiskFaultHasCause before after) (sym is) tt
end_cause before after call.Refused r is = subst (DiskFaultHasCause before after) (sym is) tt

pub rose_cause : (before after : ℕ) (r : Status) → Rose before after → DiskFaultHasCause before after r
rose_cause before after r rose = has_cause before after r (λ is. rose)

pub look_cause : (before after : ℕ) (r : Status) → IsLookEnd r → DiskFaultHasCause before after r
look_cause before after status.DiskFault ends = absurd ends
look_cause before after _ ends = tt

pub calls_cause : {asked : Call} {now before after : ℕ} {m n : ManagerState} {text : List ℕ} {r : Status} → CallsOn asked now before after m n text r
    → DiskFaultHasCause before after r
calls_cause {asked} {now} {before} {after} {m} {n} {text} {r} (inl told) = end_cause before after told.0 r told.1
calls_cause {asked} {now} {before} {after} {m} {n} {text} {r} (inr (inl broken)) = rose_cause before after r broken.1.rose
calls_cause {asked} {now} {before} {after} {m} {n} {text} {r} (inr (inr none)) = subst (DiskFaultHasCause before after) (sym none.0) tt

-- a fault of opening is told
pub opening_is_told : (before after : ℕ) (fault r : Status) (text : List ℕ) → cond (is_disk_fault fault) (Rose before after) (after ≡ before) → IsFaultLine fault text r
    → TellsFaults before after text r
opening_is_told before after status.DiskFault r text cause line = inr line
opening_is_told before after fault r text cause line = inl cause

-- A shell goes on behind no fault line of the disk, and behind no want of memory.
pub fault_stops : (text : List ℕ) (r : Status) → IsFaultLine status.DiskFault text r → GoesOn r → ⊥
fault_stops text r (inl said) goes = subst GoesOn said.0 goes
fault_stops text r (inr none) goes = subst GoesOn none.0 goes

pub calls_up : {asked : Call} {now before after : ℕ} {m n : ManagerState} {text : List ℕ} {r : Status} → CallsOn asked now before after m n text r → GoesOn r → IsUp n
calls_up (inl told) goes = told.2.up
calls_up {text = text} {r = r} (inr (inl broken)) goes = absurd (fault_stops text r broken.0 goes)
calls_up (inr (inr none)) goes = none.2.up

pub calls_calm : {asked : Call} {now before after : ℕ} {m n : ManagerState} {text : List ℕ} {r : Status} → CallsOn asked now before after m n text r → GoesOn r
    → after ≡ before
calls_calm (inl told) goes = told.2.stayed
calls_calm {text = text} {r = r} (inr (inl broken)) goes = absurd (fault_stops text r broken.0 goes)
calls_calm (inr (inr none)) goes = none.2.stayed

pub calls_tell : {asked : Call} {now before after : ℕ} {m n : ManagerState} {text : List ℕ} {r : Status} → CallsOn asked now before after m n text r
    → TellsFaults before after text r
calls_tell (inl told) = inl told.2.stayed
calls_tell (inr (inl broken)) = inr broken.0
calls_tell (inr (inr none)) = inl none.2.stayed

pub fault_ends : (text : List ℕ) (r : Status) → IsFaultLine status.DiskFault text r → IsAnswerEnd r
fault_ends text r (inl said) = subst IsAnswerEnd (sym said.0) tt
fault_ends text r (inr none) = subst IsAnswerEnd (sym none.0) tt

pub calls_end : {asked : Call} {now before after : ℕ} {m n : ManagerState} {text : List ℕ} {r : Status} → CallsOn asked now before after m n text r → IsAnswerEnd r
calls_end (inl told) = subst IsAnswerEnd (sym told.1) (by told.0)
  where
    by : (end : CallEnd) → IsAnswerEnd (status_of end)
    by call.Done = tt
    by call.Refused = tt
calls_end {text = text} {r = r} (inr (inl broken)) = fault_ends text r broken.0
calls_end (inr (inr none)) = subst IsAnswerEnd (sym none.0) tt
