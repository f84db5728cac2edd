-- The session header of a packet.
use Rattle.std.specs.Prelude.{ℕ, List, ◌++◌, Result, Ok}
use Rattle.mqb_base.specs.declared.heads.SessionHead.{SessionHead}
use Rattle.mqb_fields.specs.declared.faults.HeadFault.{HeadFault}
use Rattle.mqb_fields.specs.Packets.{field_at, skipped}
use Rattle.mqb_fields.specs.Reading.{◌>>=◌, Reading}
use Rattle.mqb_fields.specs.Writing.{bytes_of}

unfoldable pub session_at : Reading → Result (SessionHead × Reading) HeadFault
session_at r = do
  ack ← field_at 2 r
  stored ← field_at 2 ack.1
  stored_flags ← field_at 4 stored.1
  user ← field_at 2 stored_flags.1
  recoverable ← field_at 2 user.1
  window ← field_at 2 recoverable.1
  end ← skipped 2 window.1
  Ok (
    record {
      ack = ack.0;
      stored = stored.0;
      stored_flags = stored_flags.0;
      user = user.0;
      recoverable = recoverable.0;
      window = window.0;
    },
    end,
  )

abbrev pub plain_session : SessionHead → List ℕ
plain_session h = bytes_of 2 h.ack ++ bytes_of 2 h.stored ++ bytes_of 4 h.stored_flags
    ++ bytes_of 2 h.user ++ bytes_of 2 h.recoverable ++ bytes_of 2 h.window ++ bytes_of 2 0
