-- How two ends of a session go on, where nothing is lost between them and each may have
-- one packet under way.
use Rattle.std.specs.Prelude.{◌+◌, ◌≡◌, ◌≤◌, Some, length, true, ℕ}
use Rattle.mqb_model.specs.calls.pump.Pump.{pump}
use Rattle.mqb_model.specs.managers.Manager.{Manager}
use Rattle.mqb_session.specs.Hearing.{heard_head}
use Rattle.mqb_session.specs.Sending.{stamped}
use Rattle.mqb_session.specs.State as one_end
use Rattle.mqb_session.specs.State.{IsKept}
use Rattle.mqb_session.specs.declared.heads.HeadHeard.TheVariants.{InOrder}
use Rattle.mqb_session.specs.declared.heads.Kind.{Kind}
use Rattle.mqb_session.specs.declared.heads.Kind.TheVariants as kind
use Rattle.mqb_session.specs.declared.phase.Phase.TheVariants.{Ready}

-- Into a window of 1 a pump gives one packet out at most.
abbrev pub OneAtATime : Type 0
OneAtATime = (m : Manager) (session : one_end.State) (now : ℕ) → m.rest.session ≡ Some session
    → session.acked ≤ session.sent → session.peer_window ≤ 1
    → length (pump m now).packets ≤ 1

-- what one end sent the other got and stored, and the other way round
pub record AreInStep (a b : one_end.State) : Type 0 where
  pub there : a.sent ≡ b.got
  pub stored_there : a.recoverable_sent ≡ b.stored
  pub back : b.sent ≡ a.got
  pub stored_back : b.recoverable_sent ≡ a.stored

-- a user packet is of this kind
abbrev pub IsOfUser : Kind → Type 0
IsOfUser kind.Ack = ⊥
IsOfUser _ = Unit {0}

-- Of two ends in step, whatever user packet goes is in order, and acknowledges all that the other
-- end sent: so that may send again.
abbrev pub EachIsInOrder : Type 0
EachIsInOrder =
    (a b : one_end.State) (k : Kind) → IsOfUser k → b.phase ≡ Ready → AreInStep a b → IsKept b
    → heard_head (stamped k a).0 b ≡ (
      InOrder,
      record b {
        acked = b.sent;
        recoverable_acked = b.recoverable_sent;
        got = b.got + 1;
        owes = true;
      },
    )
