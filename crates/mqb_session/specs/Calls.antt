-- Runs of calls on a session.
use Rattle.std.specs.Prelude.{◌≡◌, ℕ, ◌+◌, ◌≤◌, ◌<◌, zero, suc, Bool, List, [], ◌∷◌, ◌++◌, IsTrue}
use Rattle.mqb_base.specs.declared.heads.SessionHead.{SessionHead}
use Rattle.mqb_base.specs.declared.heard.Cause.{Cause}
use Rattle.mqb_setup.specs.declared.internal.Establish.{Establish}
use Rattle.mqb_setup.specs.declared.internal.Parameters.{Parameters}
use Rattle.mqb_session.specs.declared.heads.Kind.{Kind}
use Rattle.mqb_session.specs.declared.heads.Kind.TheVariants.{Plain, Recoverable}
use Rattle.mqb_session.specs.declared.phase.Phase.{Phase}
use Rattle.mqb_session.specs.declared.phase.Phase.TheVariants.{Ready, Closed}
use Rattle.mqb_session.specs.State.{State}
use Rattle.mqb_session.specs.Hearing.{on_establish, on_parameters, after_owed, on_close, heard_head}
use Rattle.mqb_session.specs.Sending.{may_go, stamped, noted_stored}

-- a call that may change a session
pub data Call : Type 0 where
  HearEstablish : Establish → (known : Bool) → Call
  HearParameters : Parameters → Call
  HearHead : SessionHead → Call
  Owed : (now : ℕ) → Call
  Stamp : Kind → Call
  NoteStored : Call
  Close : Cause → Call

-- what it leaves
abbrev pub after : Call → State → State
after (HearEstablish e known) s = on_establish e known s
after (HearParameters p) s = on_parameters p s
after (HearHead h) s = (heard_head h s).1
after (Owed now) s = after_owed now s
after (Stamp kind) s = (stamped kind s).1
after NoteStored s = noted_stored s
after (Close cause) s = on_close cause s

-- its condition
abbrev pub IsAllowed : Call → State → Type 0
IsAllowed (Stamp kind) s = IsTrue (may_go kind s)
IsAllowed NoteStored s = s.stored < s.got
IsAllowed _ s = Unit {0}

-- what they leave, one after another
abbrev pub after_all : List Call → State → State
after_all [] s = s
after_all (call ∷ calls) s = after_all calls (after call s)

-- each meets its condition in its turn
abbrev pub AreAllowed : List Call → State → Type 0
AreAllowed [] s = Unit {0}
AreAllowed (call ∷ calls) s = IsAllowed call s × AreAllowed calls (after call s)

-- before it is ready
abbrev pub IsSettingUp : Phase → Type 0
IsSettingUp Ready = ⊥
IsSettingUp (Closed cause) = ⊥
IsSettingUp _ = Unit {0}

-- At most as many user packets as the peer's window are sent and not acknowledged. Before the
-- session is ready none is sent.
pub record IsWithinWindow (s : State) : Type 0 where
  pub outstanding : s.sent ≤ s.acked + s.peer_window
  pub first : IsSettingUp s.phase → s.sent ≡ 0

-- the header of a call that numbers a user packet
abbrev pub user_heads : Call → State → List SessionHead
user_heads (Stamp Plain) s = (stamped Plain s).0 ∷ []
user_heads (Stamp Recoverable) s = (stamped Recoverable s).0 ∷ []
user_heads _ s = []

-- and one that numbers it among the recoverable ones
abbrev pub recoverable_heads : Call → State → List SessionHead
recoverable_heads (Stamp Recoverable) s = (stamped Recoverable s).0 ∷ []
recoverable_heads _ s = []

-- the headers of a run, in order
abbrev pub heads_of : (Call → State → List SessionHead) → List Call → State → List SessionHead
heads_of heads [] s = []
heads_of heads (call ∷ calls) s = heads call s ++ heads_of heads calls (after call s)

-- so many numbers one after another
abbrev pub from : ℕ → ℕ → List ℕ
from first zero = []
from first (suc count) = first ∷ from (first + 1) count
