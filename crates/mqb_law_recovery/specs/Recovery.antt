-- What can still be done of a channel, whatever happened before: all that waits is brought over.
use Rattle.std.specs.Prelude.{◌≡◌, ◌==◌, ◌&&◌, ◌*◌, ◌++◌, ◌≤◌, ◌∷◌, All, Bool, IsTrue, List, filter}
use Rattle.std.specs.Prelude.{length, nat_lt, ℕ, ⊤}
use Rattle.mqb_exactly_once.specs.Outcomes.{Outcome, is_late}
use Rattle.mqb_exactly_once.specs.Runs.{IsRun, after}
use Rattle.mqb_exactly_once.specs.Steps.{Acknowledge, Acknowledged, Arrive, Connect, End, Offer}
use Rattle.mqb_exactly_once.specs.Steps.{Send, StreamStep}
use Rattle.mqb_exactly_once.specs.Words.{is_decided, kept}
use Rattle.mqb_exactly_once.specs.World.{Channel, Commitment, Position, StreamWorld, Transfer}

-- a message waits: it did not expire, and is not acknowledged
abbrev pub waits : StreamWorld → Commitment → Bool
waits w c = kept w c.position && nat_lt (w.acknowledged c.position.sequence) c.position.number

-- how many wait
abbrev pub waiting : StreamWorld → ℕ
waiting w = length (filter (waits w) w.committed)

-- Nothing waits: each message that did not expire was put or refused, and its source was told so.
pub record IsDrained (w : StreamWorld) : Type 0 where
  pub decided : (p : Position) → IsTrue (kept w p) → IsTrue (is_decided w.decided p)
  pub acknowledged : (p : Position) → IsTrue (kept w p) → p.number ≤ w.acknowledged p.sequence

-- What a destination makes of each packet: it is too late exactly where no time is
-- left. All else is open.
abbrev pub IsJudge : (Transfer → Outcome) → Type 0
IsJudge judge = (t : Transfer) → is_late (judge t) ≡ (t.message.reach == 0)

-- A step in a good time, which is one moment: nothing new is asked for, no connection
-- ends, and packets arrive.
abbrev pub IsGood : ℕ → (Transfer → Outcome) → StreamStep → Type 0
IsGood now judge (Offer p) = ⊤
IsGood now judge (Send c moment) = moment ≡ now
IsGood now judge (Arrive t outcome) = outcome ≡ judge t
IsGood now judge (Acknowledge p) = ⊤
IsGood now judge (Acknowledged a) = ⊤
IsGood now judge _ = ⊥

-- Behind a run, a new connection and good steps in it, at most five for each message that waits:
-- then nothing waits, and nothing more expired.
pub record Recovers (channel : Channel) (xs : List StreamStep) (now : ℕ)
    (judge : Transfer → Outcome) : Type 0 where
  pub steps : List StreamStep
  pub good : All (IsGood now judge) steps
  pub run : IsRun channel (steps ++ Connect ∷ End ∷ xs)
  pub bound : length steps ≤ 5 * waiting (after channel xs)
  pub committed : (after channel (steps ++ Connect ∷ End ∷ xs)).committed
      ≡ (after channel xs).committed
  pub expired : (after channel (steps ++ Connect ∷ End ∷ xs)).expired ≡ (after channel xs).expired
  pub drained : IsDrained (after channel (steps ++ Connect ∷ End ∷ xs))

-- From each point of each run, at any moment, and whatever the destination makes of each packet.
abbrev pub CanRecover : Type 0
CanRecover = (channel : Channel) (xs : List StreamStep) (now : ℕ) (judge : Transfer → Outcome)
    → IsRun channel xs → IsJudge judge
    → Recovers channel xs now judge
