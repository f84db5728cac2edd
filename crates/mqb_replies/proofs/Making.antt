-- A call that answers a request is the request, made.
use Rattle.std.proofs.Common.{◌≡◌, true, false, [], None, Result, Ok, Err, ap, subst, sym, inl, inr, ◌∙◌}
use Rattle.std.specs.Prelude.{IfSome, IsOk, OnOk, is_ok}
use Rattle.mqb_manager.specs.Calls.{Ends, IsCall}
use Rattle.mqb_manager.specs.States.{ManagerState, manager_of}
use Rattle.mqb_model.specs.calls.Call.{Answer, answered, requested}
use Rattle.mqb_model.specs.managers.Outcomes.{Outcome}
use Rattle.mqb_outside.specs.Disk.{Counted, View}
use Rattle.mqb_replies.proofs.Faulted.{unreplied, unreplied_by}
use Rattle.mqb_replies.proofs.Refusals.{AreApart}
use Rattle.mqb_replies.specs.Asked.{IsAsked, faulted, faulting}
use Rattle.mqb_replies.specs.Requests.{is_done, reply_of, seen_request}
use Rattle.mqb_replies.specs.declared.requests.Request as code
use Rattle.mqb_replies.specs.declared.faults.AnswerFault.{AnswerFault}
use Rattle.mqb_replies.specs.declared.faults.AnswerFault.TheVariants as fault
use Rattle.mqb_transcript.specs.declared.replies.Reply.{Reply}

done_by : {V E : Type 0} (P : Type 0) (r : Result V E) → is_ok r ≡ true → OnOk r P → P
done_by P (Ok value) done h = h
done_by P (Err why) done h = let none : ⊥ = cc in absurd none

-- What a call answers is told, its refusals by replies that tell the faults of the machine apart.
module _ {V E : Type 0} {memory broken : E} {told : E → Result Reply AnswerFault} (apart : AreApart memory broken told) (says : Result V E → Answer)
    (replies : (value : V) → IsOk (reply_of (says (Ok value)) [])) (refuses : (why : E) → reply_of (says (Err why)) [] ≡ told why) (agrees : (q : Result V E) → is_done (says q) ≡ is_ok q)
    (d e : View) (m n : ManagerState) (o : Outcome (Result V E)) (r : Result V E) where
  wanting : faulted (says (Err memory)) ≡ Err fault.Memory
  wanting = unreplied (says (Err memory)) [] fault.Memory (refuses memory ∙ apart.wanting)

  breaking : faulted (says (Err broken)) ≡ Err fault.DiskFault
  breaking = unreplied (says (Err broken)) [] fault.DiskFault (refuses broken ∙ apart.breaking)

  -- where such a fault is told, it is the call's
  caused : (end : AnswerFault) (cause : E) → ((why : E) → told why ≡ Err end → why ≡ cause) → (q : Result V E) → reply_of (says q) [] ≡ Err end → q ≡ Err cause
  caused end cause alone (Ok value) is = let some : is_ok (reply_of (says (Ok value)) []) ≡ true = replies value in
      let not : is_ok (reply_of (says (Ok value)) []) ≡ false = ap (λ (q : Result Reply AnswerFault). is_ok q) is in
      let none : ⊥ = cc in absurd none
  caused end cause alone (Err why) is = ap (λ (why : E). Err why) (alone why (sym (refuses why) ∙ is))

  ends_asked : Ends memory broken m n o r → Ends fault.Memory fault.DiskFault m n (faulting (answered says o)) (faulted (says r))
  ends_asked (inl went) = inl (
    ap (λ (r : Result V E). faulted (says r)) went.0,
    record { manager = went.1.manager; lines = went.1.lines; count = went.1.count; guid = went.1.guid },
  )
  ends_asked (inr (inl wants)) = inr (inl (ap (λ (r : Result V E). faulted (says r)) wants.0 ∙ wanting, wants.1))
  ends_asked (inr (inr breaks)) = inr (inr (
    ap (λ (r : Result V E). faulted (says r)) breaks.0 ∙ breaking,
    record {
      entry = breaks.1.entry;
      manager = breaks.1.manager;
      lines = breaks.1.lines;
      count = breaks.1.count;
      guid = breaks.1.guid;
    },
  ))

  pub is_asked : (kept : Type 0) → IsCall memory broken d e m n o r → (o.entry ≡ None → kept) → (r ≡ Err memory → kept)
      → OnOk r (IfSome o.entry (λ _. Counted 4 d.calls e.calls)) → IsAsked d e kept m n (answered says o) (says r)
  is_asked kept call untouched wants calls = record {
    call = record {
      ends = ends_asked call.ends;
      on = call.on;
      settled = call.settled;
      wrote = call.wrote;
      moments = call.moments;
      doubt = call.doubt;
      rose = λ same. call.rose (caused fault.DiskFault broken apart.breaks r (unreplied_by (says r) [] fault.DiskFault same));
      stayed = λ not. call.stayed (λ same. not (ap (λ (r : Result V E). faulted (says r)) same ∙ breaking));
      switch = call.switch;
    };
    untouched = untouched;
    memory = λ same. wants (caused fault.Memory memory apart.wants r (unreplied_by (says r) [] fault.Memory same));
    calls = λ done. done_by (IfSome o.entry (λ _. Counted 4 d.calls e.calls)) r (sym (agrees r) ∙ done) calls;
  }

-- where the request is this one
pub asked_as : {d e : View} {kept : Type 0} {m n : ManagerState} {a : Answer} (request same : code.Request) → request ≡ same
    → IsAsked d e kept m n (requested (manager_of m) (seen_request same)) a → IsAsked d e kept m n (requested (manager_of m) (seen_request request)) a
asked_as {d} {e} {kept} {m} {n} {a} request same is = subst (λ (q : code.Request). IsAsked d e kept m n (requested (manager_of m) (seen_request q)) a) (sym is)
