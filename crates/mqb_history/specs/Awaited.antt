-- What a manager still keeps of the messages that another one decided: their
-- fates are still to come.
use Rattle.std.specs.Prelude.{◌<◌, ◌≡◌, ◌≤◌, ◌⊎◌, IsTrue, Some, length, slice_get, ℕ}
use Rattle.mqb_base.specs.Bits.{keeps_dead}
use Rattle.mqb_base.specs.declared.ids.MessageId.{MessageId}
use Rattle.mqb_base.specs.declared.message.Message.{Message}
use Rattle.mqb_exactly_once.specs.Words.{In}
use Rattle.mqb_fate.specs.Orders.{is_final_class}
use Rattle.mqb_model.specs.declared.limits.TheConstants.{MAX_NUMBER}
use Rattle.mqb_model.specs.state.Resolving.{peer_known}
use Rattle.mqb_network.specs.Courses.{Course}
use Rattle.mqb_network.specs.Laws.{Always}
use Rattle.mqb_network.specs.Network.{Network, manager_at}
use Rattle.mqb_orders.specs.Rows.{Row}
use Rattle.mqb_orders.specs.declared.kept.Kept.{Kept}
use Rattle.mqb_plain.specs.Lists.{messages_of}
use Rattle.mqb_plain.specs.Plain.{PlainLists}
use Rattle.mqb_queue.specs.Places.{Queue}
use Rattle.mqb_history.specs.Acked.{IsDecidedThere}

-- a message stands in a queue of a manager
pub record IsHeld (n : Network) (j : ℕ) (id : MessageId) : Type 0 where
  pub queue : Queue
  pub there : In queue (manager_at n j).state.places.queues
  pub message : Message
  pub inside : In message queue.lists.durable
  pub names : message.id ≡ id

-- a final acknowledgement that names it waits there for another manager
pub record WaitsToBeTold (n : Network) (i j : ℕ) (id : MessageId) : Type 0 where
  pub index : ℕ
  pub known : peer_known (manager_at n j).state (manager_at n i).state.identity.guid ≡ Some index
  pub lists : PlainLists
  pub there : slice_get (manager_at n j).state.plain index ≡ Some lists
  pub final : Message
  pub inside : In final (messages_of lists.recoverable)
  pub names : final.correlation ≡ id
  pub class : IsTrue (is_final_class final.class)

-- Its fate is still to come, or to be told; or the manager had no number left to tell it.
abbrev pub IsAwaited : Network → (i j : ℕ) → MessageId → Type 0
IsAwaited n i j id = IsHeld n j id ⊎ (WaitsToBeTold n i j id ⊎ (MAX_NUMBER < (manager_at n j).state.next_number))

-- So it is with each message with the dead-letter bit that a row to a manager keeps, and
-- that was decided there.
abbrev pub AreFatesAwaited : Course → Type 0
AreFatesAwaited c = (i j : ℕ) (row : Row) (k : Kept) → j < length c.network.managers
    → In row (manager_at c.network i).state.outs
    → peer_known (manager_at c.network i).state (manager_at c.network j).state.identity.guid
    ≡ Some row.peer → In k row.kept → IsTrue (keeps_dead k.message)
    → IsDecidedThere c i row k.number → IsAwaited c.network i j k.message.id

-- And what a row keeps at or below its acknowledged number has that bit, and was decided there.
abbrev pub AreKeptForFates : Course → Type 0
AreKeptForFates c = (i : ℕ) (row : Row) (k : Kept) → In row (manager_at c.network i).state.outs
    → In k row.kept → k.number ≤ row.acked
    → IsTrue (keeps_dead k.message) × IsDecidedThere c i row k.number

-- At each point of each run.
abbrev pub FatesAreAwaited : Type 0
FatesAreAwaited = Always (λ c. AreFatesAwaited c × AreKeptForFates c)
