-- One manager: what it keeps, what it knows only in a connection, and whether it is up.
use Rattle.std.specs.Prelude.{[], Bool, List, None, Option, false, length, option_and_then, true}
use Rattle.std.specs.Prelude.{unwrap_or, ℕ}
use Rattle.mqb_base.specs.declared.ids.Identity.{Identity}
use Rattle.mqb_session.specs.State as one_end
use Rattle.mqb_model.specs.Lists.{grown}
use Rattle.mqb_model.specs.records.Record.{Record}
use Rattle.mqb_model.specs.state.Resolving.{peer_known}
use Rattle.mqb_model.specs.state.State.{State, empty}

-- What is forgotten with a connection: this end of the session, for each outgoing row the number
-- that was sent last in it, and for each incoming row whether an acknowledgement is owed.
pub record Rest : Type 0 where
  pub session : Option one_end.State
  pub cursors : List ℕ
  pub owes : List Bool

-- up, or down with the record that may have been written
pub data Condition : Type 0 where
  Up : Condition
  Down : (doubt : Option Record) → Condition

-- one manager
pub record Manager : Type 0 where
  pub state : State
  pub rest : Rest
  pub condition : Condition

-- nothing is known of a connection
abbrev pub no_rest : Rest
no_rest = record { session = None; cursors = []; owes = [] }

-- its disk failed, and it was not started again since
abbrev pub is_down : Manager → Bool
is_down m = elim m.condition [ Up ↦ false | Down doubt ↦ true ]

-- the record in doubt
abbrev pub doubt_of : Condition → Option Record
doubt_of Up = None
doubt_of (Down doubt) = doubt

-- a number and a mark for each row: a new row has none yet
abbrev pub rest_for : State → Rest → Rest
rest_for s rest = record rest {
  cursors = grown 0 (length s.outs) rest.cursors;
  owes = grown false (length s.ins) rest.owes;
}

-- a manager that is up and not linked
abbrev pub unlinked : State → Manager
unlinked s = record { state = s; rest = rest_for s no_rest; condition = Up }

-- a manager with nothing but its identity
abbrev pub new_manager : Identity → Manager
new_manager identity = unlinked (empty identity)

-- The index of the peer to which a session leads. While it is not known, that is
-- the index of no peer.
abbrev pub linked_peer : State → one_end.State → ℕ
linked_peer s session = unwrap_or (option_and_then (peer_known s) session.peer) (length s.peers)
