-- The fields of a session.
use Rattle.mqb_session.specs.declared.session.Session.TheInside.{Inside}
use Rattle.mqb_session.specs.State.{State}

abbrev pub state_of : Inside → State
state_of s = record {
  phase = s.phase;
  role = s.role;
  own = s.own;
  peer = s.peer;
  establish = s.establish;
  window = s.window;
  peer_window = s.peer_window;
  sent = s.sent;
  acked = s.acked;
  recoverable_sent = s.recoverable_sent;
  recoverable_acked = s.recoverable_acked;
  got = s.got;
  stored = s.stored;
  owes = s.owes;
}

abbrev pub fields_of : State → Inside
fields_of s = record {
  phase = s.phase;
  role = s.role;
  own = s.own;
  peer = s.peer;
  establish = s.establish;
  window = s.window;
  peer_window = s.peer_window;
  sent = s.sent;
  acked = s.acked;
  recoverable_sent = s.recoverable_sent;
  recoverable_acked = s.recoverable_acked;
  got = s.got;
  stored = s.stored;
  owes = s.owes;
}
