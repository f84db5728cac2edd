-- What is held stays held where the disk is left alone.
use Rattle.std.specs.Prelude.{◌≡◌, true}
use Rattle.mqb_model.specs.managers.Manager.{is_down}
use Rattle.mqb_model.specs.state.Durable.{durable}
use Rattle.mqb_moves.specs.Seats.{SeatState, seated}

-- What a store has stays, as where a connection begins or ends: one that is down stays as it is.
pub record StaysStored (s t : SeatState) : Type 0 where
  pub same : is_down (seated s) ≡ true → t ≡ s
  pub journal : t.manager.store.journal ≡ s.manager.store.journal
  pub durable : durable t.manager.store.state ≡ durable s.manager.store.state
  pub down : is_down (seated t) ≡ is_down (seated s)
