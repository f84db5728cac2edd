use Rattle.std.specs.Prelude.{ℕ, Bool, not, ◌&&◌, ◌==◌, nat_le, ◌%◌, List, [], ◌∷◌}
use Rattle.std.specs.List.{list_any}
use Rattle.mqb_base.specs.declared.class.Class.{Class}
use Rattle.mqb_base.specs.declared.class.TheConstants.Class.{
  NORMAL,
  REACHED_QUEUE,
  ORDER_ACKNOWLEDGEMENT,
  RECEIVED,
  BAD_DESTINATION,
  PURGED_AT_SOURCE,
  REACH_TIMEOUT,
  QUOTA_EXCEEDED,
  QUEUE_NOT_TRANSACTIONAL,
  MESSAGE_NOT_TRANSACTIONAL,
  QUEUE_DELETED,
  QUEUE_PURGED,
  RECEIVE_TIMEOUT,
}

-- the classes that a message may have
abbrev pub classes : List ℕ
classes = NORMAL.0 ∷ REACHED_QUEUE.0 ∷ ORDER_ACKNOWLEDGEMENT.0 ∷ RECEIVED.0 ∷ BAD_DESTINATION.0
    ∷ PURGED_AT_SOURCE.0 ∷ REACH_TIMEOUT.0
    ∷ QUOTA_EXCEEDED.0 ∷ QUEUE_NOT_TRANSACTIONAL.0 ∷ MESSAGE_NOT_TRANSACTIONAL.0 ∷ QUEUE_DELETED.0
    ∷ QUEUE_PURGED.0 ∷ RECEIVE_TIMEOUT.0 ∷ []

abbrev pub is_class : ℕ → Bool
is_class class = list_any (λ c. c == class) classes

-- bit 15
abbrev pub is_negative : ℕ → Bool
is_negative class = nat_le 0x8000 class

-- bit 14
abbrev pub is_receive : ℕ → Bool
is_receive class = nat_le 0x4000 (class % 0x8000)

abbrev pub is_arrival_refusal : ℕ → Bool
is_arrival_refusal class = is_negative class && not (is_receive class)
