-- Small captures, worked out.
use Rattle.std.proofs.Common.{◌≡◌, ℕ, List, [], ◌∷◌, ◌++◌, take, Result, Ok, Err, refl, subst}
use Rattle.mqb_base.specs.declared.heard.Cause.TheVariants.{Early}
use Rattle.mqb_heads.specs.Base.{base_at}
use Rattle.mqb_packet.specs.Parts.{packet_of}
use Rattle.mqb_setup.specs.Internals.{internal_at}
use Rattle.mqb_setup.specs.Sessions.{session_at}
use Rattle.mqb_stream.specs.Cutting.{packet_size}
use Rattle.mqb_stream.specs.Framing.{next}
use Rattle.mqb_capture.specs.declared.answers.BreakCause.TheVariants as cause
use Rattle.mqb_capture.specs.declared.answers.InspectFault.{InspectFault}
use Rattle.mqb_capture.specs.declared.answers.InspectFault.TheVariants as fault
use Rattle.mqb_capture.specs.declared.answers.Verdict.{Verdict}
use Rattle.mqb_capture.specs.declared.answers.Verdict.TheVariants as verdict
use Rattle.mqb_capture.specs.Events.{watched}
use Rattle.mqb_capture.specs.Grammar.{head_at, piece_at}
use Rattle.mqb_capture.specs.Judged.{judged}
use Rattle.mqb_capture.specs.Verdicts.{Says}
use Rattle.mqb_capture.specs.Worked.{AckAlone, HeadAlone, ack, head_of}
use Rattle.mqb_capture.proofs.Answering.{answer_is_judged}

said : (bytes : List ℕ) (x : Result Verdict InspectFault) → judged bytes ≡ x → Says bytes x
said bytes x e = subst (Says bytes) e (answer_is_judged bytes).said

one : judged (head_of 0) ≡ Ok (verdict.Lawful 0 0)
unfolding head_at piece_at watched
one = refl

two : judged (take 38 (head_of 0)) ≡ Err (fault.Capture 38)
unfolding head_at piece_at watched
two = refl

three : judged (head_of 1 ++ (1 ∷ 36 ∷ 0 ∷ 0 ∷ 0 ∷ []) ++ ack) ≡ Ok (verdict.Broken 0 (cause.Closed Early))
unfolding head_at piece_at watched next packet_size base_at packet_of internal_at session_at
three = refl

four : judged (head_of 1 ++ (1 ∷ 15 ∷ 0 ∷ 0 ∷ 0 ∷ []) ++ take 15 ack) ≡ Ok (verdict.Broken 0 cause.Cut)
unfolding head_at piece_at watched next packet_size base_at packet_of internal_at session_at
four = refl

pub head_alone : HeadAlone
head_alone = record { whole = said (head_of 0) (Ok (verdict.Lawful 0 0)) one; short = said (take 38 (head_of 0)) (Err (fault.Capture 38)) two }

pub ack_alone : AckAlone
ack_alone = record {
  whole = said (head_of 1 ++ (1 ∷ 36 ∷ 0 ∷ 0 ∷ 0 ∷ []) ++ ack) (Ok (verdict.Broken 0 (cause.Closed Early))) three;
  short = said (head_of 1 ++ (1 ∷ 15 ∷ 0 ∷ 0 ∷ 0 ∷ []) ++ take 15 ack) (Ok (verdict.Broken 0 cause.Cut)) four;
}
