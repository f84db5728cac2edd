-- The first packet that breaks a capture, and why.
use Rattle.std.specs.Prelude.{◌≡◌, ℕ, List, [], ◌∷◌, ◌++◌, length, Option, Some, None}
use Rattle.mqb_session.specs.declared.phase.Phase.TheVariants as phase
use Rattle.mqb_capture.specs.declared.answers.BreakCause.{BreakCause}
use Rattle.mqb_capture.specs.declared.answers.BreakCause.TheVariants as cause
use Rattle.mqb_capture.specs.declared.answers.Way.TheVariants as way
use Rattle.mqb_capture.specs.Grammar.{Head}
use Rattle.mqb_capture.specs.Events.{Event, Sent, Heard, Bad}
use Rattle.mqb_capture.specs.Lawful.{AreLawful, IsBetween, IsOfPhase, IsStamped, IsWithinWindow}
use Rattle.mqb_capture.specs.Lawful.{MayCome, heard_by, session_behind}
use Rattle.mqb_capture.specs.Links.{AreLinked, links}

-- The numbers of both ways are linked.
pub record AreBothLinked (events : List Event) : Type 0 where
  pub sent : AreLinked (links way.Sent events)
  pub heard : AreLinked (links way.Heard events)

-- This is the first reason why an event may not come behind others that are lawful. The reasons are
-- in their order, and each takes the ones before it not to hold.
abbrev pub IsFirstCause : Head → List Event → Event → BreakCause → Type 0
IsFirstCause h before (Bad fault) (cause.Bad why) = fault ≡ why
IsFirstCause h before (Sent p) cause.Origin = IsBetween h (Sent p) → ⊥
IsFirstCause h before (Heard p) cause.Origin = IsBetween h (Heard p) → ⊥
IsFirstCause h before (Sent p) cause.Phase =
    let s = session_behind h before in IsBetween h (Sent p) × (IsOfPhase p s → ⊥)
IsFirstCause h before (Sent p) cause.Window =
    let s = session_behind h before in
    IsBetween h (Sent p) × IsOfPhase p s × (IsWithinWindow p s → ⊥)
IsFirstCause h before (Sent p) cause.Stamp = let s = session_behind h before in
    IsBetween h (Sent p) × IsOfPhase p s × IsWithinWindow p s × (IsStamped p s → ⊥)
IsFirstCause h before (Heard p) (cause.Closed why) =
    IsBetween h (Heard p) × ((heard_by h.peer p (session_behind h before)).phase ≡ phase.Closed why)
IsFirstCause h before e cause.Link =
    IsBetween h e × MayCome h (session_behind h before) e × (AreBothLinked (before ++ e ∷ []) → ⊥)
IsFirstCause h before e why = ⊥

-- what is said of an event behind others that are lawful: why it may not come, or that it may
abbrev pub Judges : Head → List Event → Event → Option BreakCause → Type 0
Judges h before e (Some why) = IsFirstCause h before e why
Judges h before e None =
    IsBetween h e × MayCome h (session_behind h before) e × AreBothLinked (before ++ e ∷ [])

-- The event at an index breaks events: those before it are lawful.
pub record BreaksAt (h : Head) (events : List Event) (index : ℕ) (why : BreakCause) : Type 0 where
  pub before : List Event
  pub event : Event
  pub behind : List Event
  pub is : events ≡ before ++ event ∷ behind
  pub at : index ≡ length before
  pub lawful : AreLawful h before
  pub cause : IsFirstCause h before event why
