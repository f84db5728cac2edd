-- What is told of a request.
use Rattle.std.proofs.Common.{◌≡◌, ◌+◌, ◌==◌, ℕ, Bool, true, false, cond, List, [], Option, None, Some, Result, Ok, Err, inl, inr, refl, sym, ap, subst, ◌∙◌, arith}
use Rattle.std.specs.Option.{option_map_or}
use Rattle.std.specs.Prelude.{IsOk, is_ok}
use Rattle.mqb_answers.proofs.Telling.{IsTelling, is_told, unprinted}
use Rattle.mqb_answers.specs.Calls.{IsTold, Tells}
use Rattle.mqb_answers.specs.Outcomes.{asked_told}
use Rattle.mqb_answers.specs.Texts.{hosts_of}
use Rattle.mqb_answers.specs.Told.{answer_told, end_by, taken_by, told_reply}
use Rattle.mqb_answers.specs.declared.told.CallEnd.{CallEnd}
use Rattle.mqb_answers.specs.declared.told.CallEnd.TheVariants.{Done}
use Rattle.mqb_answers.specs.declared.told.Taken.{Taken}
use Rattle.mqb_answers.specs.declared.told.Told.{Told}
use Rattle.mqb_base.specs.declared.ledger.Line.{Line}
use Rattle.mqb_replies.specs.mqb_manager.Calls.{Ends}
use Rattle.mqb_replies.specs.mqb_manager.States.{ManagerState, manager_of}
use Rattle.mqb_model.specs.calls.Call.{Answer, Request, requested}
use Rattle.mqb_model.specs.managers.Outcomes.{Outcome, lines_after}
use Rattle.mqb_model.specs.records.Applying.{lines_of}
use Rattle.mqb_model.specs.records.Record.{Record}
use Rattle.mqb_model.specs.state.State.{State}
use Rattle.mqb_outside.specs.Disk.{View}
use Rattle.mqb_replies.proofs.Faulted.{replied, unreplied, unreplied_by}
use Rattle.mqb_replies.specs.Asked.{IsAsked, RequestsAreReplied, faulted, faulting, told_as}
use Rattle.mqb_replies.specs.Requests.{is_done, reply_of}
use Rattle.mqb_replies.specs.declared.faults.AnswerFault.{AnswerFault}
use Rattle.mqb_replies.specs.declared.faults.AnswerFault.TheVariants as fault
use Rattle.mqb_transcript.specs.declared.replies.Reply.{Reply}

-- what is told of an answer whose faults are apart
abbrev told_apart : List Line → Result Answer AnswerFault → Result Told AnswerFault
told_apart lines (Ok a) = answer_told a lines
told_apart lines (Err why) = Err why

apart_so : (a : Answer) (lines : List Line) → told_apart lines (faulted a) ≡ answer_told a lines
apart_so a lines = by (reply_of a lines) refl
  where
    by : (q : Result Reply AnswerFault) → reply_of a lines ≡ q → told_apart lines (faulted a) ≡ answer_told a lines
    by (Ok given) is = ap (told_apart lines) (replied a lines given is)
    by (Err why) is = ap (told_apart lines) (unreplied a lines why is) ∙ sym (ap (told_reply (end_by (is_done a)) (taken_by a)) is)

-- where a fault is told, it is the answer's
told_fault : (a : Answer) (lines : List Line) (why : AnswerFault) → answer_told a lines ≡ Err why → faulted a ≡ Err why
told_fault a lines why told = by (reply_of a lines) refl told
  where
    by : (q : Result Reply AnswerFault) → reply_of a lines ≡ q → told_reply (end_by (is_done a)) (taken_by a) q ≡ Err why → faulted a ≡ Err why
    by (Ok given) is told = let none : ⊥ = cc in absurd none
    by (Err other) is told = let same : other ≡ why = cc in unreplied a lines why (is ∙ ap Err same)

fault_told : (a : Answer) (lines : List Line) (why : AnswerFault) → faulted a ≡ Err why → answer_told a lines ≡ Err why
fault_told a lines why is = ap (told_reply (end_by (is_done a)) (taken_by a)) (unreplied_by a lines why is)

asked_telling : (a : Answer) (lines : List Line) → IsTelling fault.Memory fault.DiskFault (told_apart lines) (faulted a)
asked_telling a lines = record {
  wanting = refl;
  breaking = refl;
  wants = λ same. told_fault a lines fault.Memory (sym (apart_so a lines) ∙ same);
  breaks = λ same. told_fault a lines fault.DiskFault (sym (apart_so a lines) ∙ same);
}

-- it is done where that is told
told_done : (a : Answer) (lines : List Line) (t : Told) → answer_told a lines ≡ Ok t → t.end ≡ Done → is_done a ≡ true
told_done a lines t told done = by (is_done a) (taken_by a) (reply_of a lines) told
  where
    by : (b : Bool) (taken : Taken) (q : Result Reply AnswerFault) → told_reply (end_by b) taken q ≡ Ok t → b ≡ true
    by true taken q told = refl
    by false taken (Ok given) told = let none : ⊥ = cc in absurd none
    by false taken (Err why) told = let none : ⊥ = cc in absurd none

-- The lines that are told are those of the request's record.

lines_by : (before after : ℕ) (s : State) (old lines : List Line) (entry : Option Record) → after ≡ before + option_map_or (λ _. 1) entry 0
    → lines ≡ option_map_or (lines_of s) entry old → cond (after == before) [] lines ≡ option_map_or (lines_of s) entry []
lines_by before after s old lines None count is = let same : (after == before) ≡ true = grind arith in rw same refl
lines_by before after s old lines (Some r) count is = let more : (after == before) ≡ false = grind arith in rw more is

module _ (d e : View) (kept : Type 0) (m n : ManagerState) (request : Request) (a : Answer) (asked : IsAsked d e kept m n (requested (manager_of m) request) a) where
  abbrev o : Outcome Answer
  o = requested (manager_of m) request

  abbrev own : List Line
  own = lines_after (manager_of m) o

  listed : (before : ℕ) (lines : List Line) → before ≡ m.store.journal.count → lines ≡ cond (n.store.journal.count == before) [] n.store.lines → answer_told a lines ≡ answer_told a own
  listed before lines same is = by asked.call.ends
    where
      by : Ends fault.Memory fault.DiskFault m n (faulting o) (faulted a) → answer_told a lines ≡ answer_told a own
      by (inl went) = ap (answer_told a) (is ∙ ap (λ (k : ℕ). cond (n.store.journal.count == k) [] n.store.lines) same
          ∙ lines_by m.store.journal.count n.store.journal.count m.store.state m.store.lines n.store.lines o.entry went.1.count went.1.lines)
      by (inr (inl wants)) = fault_told a lines fault.Memory wants.0 ∙ sym (fault_told a own fault.Memory wants.0)
      by (inr (inr breaks)) = fault_told a lines fault.DiskFault breaks.0 ∙ sym (fault_told a own fault.DiskFault breaks.0)

  told_so : (before after : List ℕ) (told : Result Told AnswerFault) (r : Result CallEnd AnswerFault) → told ≡ answer_told a own → Tells (hosts_of n.store.state) told before after r
      → IsTold d e kept m n (asked_told (manager_of m) request) before after r
  told_so before after told r is tells = subst (λ (x : Result Told AnswerFault). IsTold d e kept m n (told_as o x) before after r) (apart_so o.answer own)
      (is_told fault.Memory fault.DiskFault (told_apart own) d e m n (faulting o) (faulted a) (asked_telling a own) kept before after told r
      asked.call asked.untouched asked.memory (λ t says done. asked.calls (told_done a own t (sym (apart_so a own) ∙ says) done)) (is ∙ sym (apart_so a own)) tells)

  -- A request is told with the lines of its record.
  pub request_told : (before : ℕ) (lines : List Line) → before ≡ m.store.journal.count → lines ≡ cond (n.store.journal.count == before) [] n.store.lines
      → (text text_now : List ℕ) (told : Result Told AnswerFault) (r : Result CallEnd AnswerFault) → told ≡ answer_told a lines → Tells (hosts_of n.store.state) told text text_now r
      → IsTold d e kept m n (asked_told (manager_of m) request) text text_now r
  request_told before lines same is text text_now told r says tells = told_so text text_now told r (says ∙ listed before lines same is) tells

  -- Or memory runs out behind it, where its lines are copied.
  pub request_untold : RequestsAreReplied → (before : ℕ) → before ≡ m.store.journal.count → {X Y : Type 0} (lines : Result X Y) (why : Y) → lines ≡ Err why
      → (n.store.journal.count ≡ before → IsOk lines) → (text : List ℕ) (r : Result CallEnd AnswerFault) → r ≡ Err fault.Memory
      → IsTold d e kept m n (asked_told (manager_of m) request) text text r
  request_untold law before same {X} {Y} lines why is none text r wanting = subst (λ (r : Result CallEnd AnswerFault). IsTold d e kept m n (asked_told (manager_of m) request) text text r) (sym wanting)
      (told_so text text (answer_told a own) (Err fault.Memory) refl (unprinted (hosts_of n.store.state) text (answer_told a own) (λ broke. failed asked.call.ends (told_fault a own fault.DiskFault broke))))
    where
      answered : IsOk (reply_of o.answer []) → faulted o.answer ≡ Err fault.DiskFault → ⊥
      answered ok broke = let not : reply_of o.answer [] ≡ Err fault.DiskFault = unreplied_by o.answer [] fault.DiskFault broke in
          let no : is_ok (reply_of o.answer []) ≡ false = ap (λ (q : Result Reply AnswerFault). is_ok q) not in
          let none : ⊥ = cc in none

      failed : Ends fault.Memory fault.DiskFault m n (faulting o) (faulted a) → faulted a ≡ Err fault.DiskFault → ⊥
      failed (inl went) broke = answered (law (manager_of m) request []) (sym went.0 ∙ broke)
      failed (inr (inl wants)) broke = let none : ⊥ = cc in none
      failed (inr (inr breaks)) broke = let off : is_ok lines ≡ false = ap (λ (r : Result X Y). is_ok r) is in
          let on : IsOk lines = none (breaks.1.count ∙ sym same) in
          let no : ⊥ = cc in no
