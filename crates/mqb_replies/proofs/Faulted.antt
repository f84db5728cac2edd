-- An answer has a reply, whatever lines that tells, or it is a fault of the machine.
use Rattle.std.proofs.Common.{◌≡◌, List, [], Result, Ok, Err, false, refl, ap}
use Rattle.std.specs.Prelude.{IfOk}
use Rattle.std.specs.Result.{result_and}
use Rattle.mqb_base.specs.declared.ledger.Line.{Line}
use Rattle.mqb_model.specs.calls.Call.{Answer}
use Rattle.mqb_replies.proofs.Definitions.{AreAlike, alike, tells_of_disk}
use Rattle.mqb_replies.specs.Asked.{faulted}
use Rattle.mqb_replies.specs.Requests.{reply_of}
use Rattle.mqb_replies.specs.declared.faults.AnswerFault.{AnswerFault}
use Rattle.mqb_transcript.specs.declared.replies.Reply.{Reply}

-- one that has a reply is no fault
pub replied : (a : Answer) (lines : List Line) (given : Reply) → reply_of a lines ≡ Ok given → faulted a ≡ Ok a
replied a lines given told = by (reply_of a []) (reply_of a lines) (alike a lines) told
  where
    by : (q r : Result Reply AnswerFault) → AreAlike q r → r ≡ Ok given → result_and q (Ok a) ≡ Ok a
    by (Ok one) r same is = refl
    by (Err why) (Ok other) same is = absurd same
    by (Err why) (Err other) same is = let none : ⊥ = cc in absurd none

-- and what is replied tells of no disk
pub tells_no_disk : (a : Answer) (lines : List Line) → IfOk (reply_of a lines) (λ given. tells_of_disk given ≡ false)
tells_no_disk a lines = by (reply_of a []) (reply_of a lines) (alike a lines)
  where
    by : (q r : Result Reply AnswerFault) → AreAlike q r → IfOk r (λ given. tells_of_disk given ≡ false)
    by (Ok one) (Ok other) none = none
    by (Err why) (Ok other) same = absurd same
    by q (Err why) same = tt

-- one that has none is
pub unreplied : (a : Answer) (lines : List Line) (why : AnswerFault) → reply_of a lines ≡ Err why → faulted a ≡ Err why
unreplied a lines why told = by (reply_of a []) (reply_of a lines) (alike a lines) told
  where
    by : (q r : Result Reply AnswerFault) → AreAlike q r → r ≡ Err why → result_and q (Ok a) ≡ Err why
    by (Ok one) (Ok other) same is = let none : ⊥ = cc in absurd none
    by (Ok one) (Err other) same is = absurd same
    by (Err one) (Ok other) same is = absurd same
    by (Err one) (Err other) same is = let it : one ≡ why = cc in ap Err it

-- and the other way round
pub unreplied_by : (a : Answer) (lines : List Line) (why : AnswerFault) → faulted a ≡ Err why → reply_of a lines ≡ Err why
unreplied_by a lines why told = by (reply_of a []) (reply_of a lines) (alike a lines) told
  where
    by : (q r : Result Reply AnswerFault) → AreAlike q r → result_and q (Ok a) ≡ Err why → r ≡ Err why
    by (Ok one) r same is = let none : ⊥ = cc in absurd none
    by (Err one) (Ok other) same is = absurd same
    by (Err one) (Err other) same is = let it : other ≡ why = cc in ap Err it

-- a fault apart, an answer is as it was
pub answered_so : (b a : Answer) → faulted b ≡ Ok a → b ≡ a
answered_so b a told = by (reply_of b []) told
  where
    by : (q : Result Reply AnswerFault) → result_and q (Ok b) ≡ Ok a → b ≡ a
    by (Ok one) is = cc
    by (Err why) is = let none : ⊥ = cc in absurd none
