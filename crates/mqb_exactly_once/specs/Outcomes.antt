use Rattle.std.specs.Prelude.{◌≡◌, Bool, true, false, ⊤}

-- why a destination refuses a message, in the order of the classes 0x8002,
-- 0x8000, 0x8009 and 0x8003
pub data Refusal : Type 0 where
  Reach_timeout : Refusal
  Bad_destination : Refusal
  Queue_not_transactional : Refusal
  Quota_exceeded : Refusal

-- what a destination decides of a message
pub data Outcome : Type 0 where
  Put : Outcome
  Refused : (reason : Refusal) → Outcome

-- how a message that was put left its queue, in the order of the classes 0x4000, 0xC001 and 0xC002
pub data Departure : Type 0 where
  Received : Departure
  Queue_purged : Departure
  Receive_timeout : Departure

-- what a source is told in the end of a message
pub data MessageFate : Type 0 where
  Was_refused : (reason : Refusal) → MessageFate
  Was_put : (departure : Departure) → MessageFate

-- it came too late
abbrev pub is_late : Outcome → Bool
is_late (Refused Reach_timeout) = true
is_late _ = false

-- a fate that may follow from what was decided
abbrev pub Follows : Outcome → MessageFate → Type 0
Follows Put (Was_put departure) = ⊤
Follows (Refused decided) (Was_refused told) = told ≡ decided
Follows _ _ = ⊥
