-- Small captures, worked out.
use Rattle.std.specs.Prelude.{ℕ, List, [], ◌∷◌, ◌++◌, replicate, take, Ok, Err}
use Rattle.mqb_base.specs.declared.heard.Cause.TheVariants.{Early}
use Rattle.mqb_capture.specs.declared.answers.BreakCause.TheVariants as cause
use Rattle.mqb_capture.specs.declared.answers.InspectFault.TheVariants as fault
use Rattle.mqb_capture.specs.declared.answers.Verdict.TheVariants as verdict
use Rattle.mqb_capture.specs.Verdicts.{Says}

-- the head of a capture with window 64, of the initiator, which is 0, or the acceptor, which is 1
abbrev pub head_of : ℕ → List ℕ
head_of role =
    (0x4D ∷ 0x51 ∷ 0x42 ∷ 0x43 ∷ role ∷ []) ++ replicate 16 1 ++ replicate 16 2 ++ 64 ∷ 0 ∷ []

-- a session acknowledgement of 36 bytes
abbrev pub ack : List ℕ
ack = (0x10 ∷ 0 ∷ 0x18 ∷ 0 ∷ 0x4C ∷ 0x49 ∷ 0x4F ∷ 0x52 ∷ 36 ∷ 0 ∷ 0 ∷ 0 ∷ []) ++ replicate 4 255
    ++ (1 ∷ 0 ∷ 0 ∷ 0 ∷ []) ++ replicate 16 0

-- A head alone is lawful, and one that is cut short is none.
pub record HeadAlone : Type 0 where
  pub whole : Says (head_of 0) (Ok (verdict.Lawful 0 0))
  pub short : Says (take 38 (head_of 0)) (Err (fault.Capture 38))

-- An acceptor that first hears an acknowledgement closes, and the first bytes of one are a rest.
pub record AckAlone : Type 0 where
  pub whole : Says (head_of 1 ++ (1 ∷ 36 ∷ 0 ∷ 0 ∷ 0 ∷ []) ++ ack)
      (Ok (verdict.Broken 0 (cause.Closed Early)))
  pub short :
      Says (head_of 1 ++ (1 ∷ 15 ∷ 0 ∷ 0 ∷ 0 ∷ []) ++ take 15 ack) (Ok (verdict.Broken 0 cause.Cut))
