-- What a request of the manager in a seat comes to.
use Rattle.std.proofs.Common.{◌≡◌, ◌==◌, ℕ, Bool, true, false, cond, List, [], Option, None, Some, Result, Ok, Err, refl, sym, ap, subst, ◌∙◌}
use Rattle.std.specs.Prelude.{IsOk, not}
use Rattle.std.specs.Result.{result_and}
use Rattle.mqb_base.specs.declared.ledger.Line.{Line}
use Rattle.mqb_model.specs.calls.Call.{Answer, Request, down_answer, requested}
use Rattle.mqb_model.specs.calls.Call as calls
use Rattle.mqb_model.specs.laws.Validity.{RefusedIsSame}
use Rattle.mqb_model.specs.managers.Manager.{Manager, is_down}
use Rattle.mqb_model.specs.managers.Outcomes.{Outcome, lines_after}
use Rattle.mqb_model.specs.managers.Valid.{IsValidManager}
use Rattle.mqb_moves.specs.Calls.{IsCall}
use Rattle.mqb_moves.specs.Downs.{DownRefusesAll}
use Rattle.mqb_moves.specs.Moves.{IsMove}
use Rattle.mqb_moves.specs.Seats.{IsHeldOn, SeatState, records_of, seated}
use Rattle.mqb_moves.specs.lemmas.Calling.{none_more}
use Rattle.mqb_moves.specs.States.{ManagerState, manager_of}
use Rattle.mqb_moves.specs.mqb_network.Choices.{Failure as HowItFailed}
use Rattle.mqb_outside.specs.Disk.{Lawful, View}
use Rattle.mqb_replies.proofs.Faulted.{answered_so, replied, unreplied}
use Rattle.mqb_replies.specs.Asked.{RequestsAreReplied, faulted, faulting, told_as}
use Rattle.mqb_replies.specs.Requests.{reply_of}
use Rattle.mqb_replies.specs.declared.faults.AnswerFault.{AnswerFault}
use Rattle.mqb_replies.specs.declared.faults.AnswerFault.TheVariants as fault
use Rattle.mqb_store_laws.specs.Laws.{ImagesOpenToOne}
use Rattle.mqb_transcript.specs.declared.replies.Reply.{Reply}
use Rattle.mqb_transcript.specs.declared.replies.Reply.TheVariants as reply
use Rattle.mqb_seats.proofs.Telling.{call_failed, call_lasts, call_went}
use Rattle.mqb_seats.specs.Called.{IsCalled, failure_of, how_by}
use Rattle.mqb_seats.specs.Lasting.{Lasts}
use Rattle.mqb_seats.specs.declared.called.Called.TheVariants.{Broke, Told}
use Rattle.mqb_seats.specs.declared.called.Failure.{Failure}

-- A manager that is down refuses each request.

down_replied : (request : Request) (lines : List Line) → reply_of (down_answer request) lines ≡ Ok reply.Down
down_replied (calls.CreateQueue plan) lines = refl
down_replied request lines = refl

pub down_called : DownRefusesAll → RefusedIsSame → (d : View) (stopped : Bool) (s : SeatState) → IsValidManager (seated s) → is_down (seated s) ≡ true → (request : Request)
    → IsCalled d d stopped s s (requested (seated s) request) (Told reply.Down false)
down_called downs same d stopped s valid down request =
    subst (λ (o : Outcome Answer). IsCalled d d stopped s s o (Told reply.Down false)) (sym ((downs (seated s) down).requests request)) (
      record { manager = sym (same (seated s) true valid); counted = none_more (records_of s); fails_where = λ some. some; held = λ held. held; faults = refl; switch = refl },
      down_replied request [],
      refl,
    )

-- No definition answers that the disk failed.

never : RequestsAreReplied → (request : Request) (k : Manager) → (faulting (requested k request)).answer ≡ Err fault.DiskFault → ⊥
never law request k = apart (requested k request).answer (reply_of (requested k request).answer []) (law k request [])
  where
    apart : (a : Answer) (q : Result Reply AnswerFault) → IsOk q → result_and q (Ok a) ≡ Err fault.DiskFault → ⊥
    apart a (Ok given) ok same = let none : ⊥ = cc in none
    apart a (Err why) ok same = let none : ⊥ = cc in none

-- What is told of an answer does not move a manager.

moved : {A B : Type 0} (d e : View) (s t : SeatState) (o : Outcome A) (told : B) (failure : Option HowItFailed) → IsMove d e s t (told_as o told) failure → IsMove d e s t o failure
moved d e s t o told None h = record { manager = h.manager; counted = h.counted; fails_where = h.fails_where; held = h.held; faults = h.faults; switch = h.switch }
moved d e s t o told (Some how) h = record { manager = h.manager; counted = h.counted; fails_where = h.fails_where; held = h.held; faults = h.faults; switch = h.switch }

turned : (b : Bool) (ls : List Line) → cond b [] ls ≡ cond (not b) ls []
turned true ls = refl
turned false ls = refl

ok_err : (a : Answer) (why : AnswerFault) → ◌≡◌ {A = Result Answer AnswerFault} (Ok a) (Err why) → ⊥
ok_err a why same = let none : ⊥ = cc in none

differ : fault.Memory ≡ fault.DiskFault → ⊥
differ same = let none : ⊥ = cc in none

module _ (law : RequestsAreReplied) (d e : View) (m n : ManagerState) (u stopped : Bool) (s : SeatState) (is : record { manager = m; unread = u } ≡ s) (up : is_down (seated s) ≡ false)
    (request : Request) (a : Answer) (call : IsCall fault.Memory fault.DiskFault d e m n (faulting (requested (manager_of m) request)) (faulted a)) where
  abbrev after : SeatState
  after = record { manager = n; unread = u }

  abbrev made : Manager → Outcome (Result Answer AnswerFault)
  made k = faulting (requested k request)

  abbrev o : Outcome Answer
  o = requested (seated s) request

  -- it has a reply
  pub asked_told : (before : ℕ) (lines : List Line) (given : Reply) (recorded : Bool) → before ≡ m.store.journal.count
      → lines ≡ cond (n.store.journal.count == before) [] n.store.lines → reply_of a lines ≡ Ok given → recorded ≡ not (n.store.journal.count == before)
      → IsCalled d e stopped s after o (Told given recorded)
  asked_told before lines given recorded counted are told records =
      let one : faulted a ≡ Ok a = replied a lines given told in
      let went = call_went d e m n u stopped s is up fault.Memory fault.DiskFault made (faulted a) call (λ same. ok_err a fault.Memory (sym one ∙ same)) (λ same. ok_err a fault.DiskFault (sym one ∙ same)) in
      let added = went.2 before counted in
      let same : o.answer ≡ a = answered_so o.answer a (sym went.1 ∙ one) in (
        moved d e s after o (faulted o.answer) None went.0,
        ap (λ (b : Answer). reply_of b (lines_after (seated s) o)) same
            ∙ ap (reply_of a) (sym (are ∙ turned (n.store.journal.count == before) n.store.lines ∙ added)) ∙ told,
        ap (λ (b : Bool). cond b n.store.lines []) records ∙ added,
      )

  -- or its disk failed in it
  pub asked_broke : (lines : List Line) (how : Failure) → reply_of a lines ≡ Err fault.DiskFault → how ≡ how_by stopped → IsCalled d e stopped s after o (Broke how)
  asked_broke lines how failed stops = (
    moved d e s after o (faulted o.answer) (Some (failure_of how))
        (call_failed d e m n u stopped s is up fault.Memory fault.DiskFault made (faulted a) how call differ (never law request) (unreplied a lines fault.DiskFault failed)),
    stops,
  )

  -- however it ends, what the store has lasts
  pub asked_lasts : ImagesOpenToOne → Lawful e → (c : List ℕ) → e.reads c → IsHeldOn d s → Lasts d e s after
  asked_lasts = call_lasts d e m n u stopped s is up fault.Memory fault.DiskFault made (faulted a) call differ (never law request)
