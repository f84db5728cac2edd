-- The numbers that messages take.
use Rattle.std.specs.Prelude.{◌+◌, ◌==◌, Bool, None, Option, Some, if◌then◌else◌, nat_le, ℕ}
use Rattle.mqb_base.specs.Same.{same_id}
use Rattle.mqb_base.specs.declared.ids.MessageId.{MessageId}
use Rattle.mqb_base.specs.declared.message.Delivery.{Delivery}
use Rattle.mqb_base.specs.declared.message.Delivery.TheVariants.{Express}
use Rattle.mqb_base.specs.declared.message.Message.{Message}
use Rattle.mqb_model.specs.declared.limits.TheConstants.{FIRST_EXPRESS, MAX_EXPRESS, MAX_NUMBER}
use Rattle.mqb_model.specs.state.State.{State}

-- behind the greatest express number comes the first again
abbrev pub express_after : ℕ → ℕ
express_after number = if number == MAX_EXPRESS then FIRST_EXPRESS else number + 1

-- the number of the next message of a delivery, where one is left
abbrev pub number_left : State → Delivery → Option ℕ
number_left s Express = Some s.next_express
number_left s _ = if nat_le s.next_number MAX_NUMBER then Some s.next_number else None

-- that number is taken
abbrev pub number_taken : State → Delivery → State
number_taken s Express = record s { next_express = express_after s.next_express }
number_taken s _ = record s { next_number = s.next_number + 1 }

-- so many durable numbers are taken
abbrev pub numbers_taken : State → ℕ → State
numbers_taken s count = record s { next_number = s.next_number + count }

-- an identifier of this manager
abbrev pub own_id : State → ℕ → MessageId
own_id s number = record { qm = s.identity.guid; number = number }

-- a message has it
abbrev pub is_numbered : State → ℕ → Message → Bool
is_numbered s number m = same_id m.id (own_id s number)
