-- States that can be spelled.
use Rattle.std.specs.Prelude.{All, IsTrue}
use Rattle.mqb_base.specs.QueueNames.{names_queue}
use Rattle.mqb_plain.specs.Lists.{messages_of}
use Rattle.mqb_queue.specs.Places.{Places}
use Rattle.mqb_model.specs.state.State.{State}
use Rattle.mqb_snapshot.specs.Spelled.{IsSized}

-- Each message of a place fits a packet.
pub record AreSized (p : Places) : Type 0 where
  pub queues : All (λ q. All IsSized q.lists.durable × All IsSized q.journal.durable) p.queues
  pub dead : All IsSized p.dead.durable
  pub dead_xact : All IsSized p.dead_xact.durable
  pub journal : All IsSized p.journal.durable

-- Each message fits a packet, and the destinations of rows name queues: only such
-- names have a wire form.
pub record IsSpellable (s : State) : Type 0 where
  pub places : AreSized s.places
  pub plain : All (λ p. All IsSized (messages_of p.recoverable)) s.plain
  pub kept : All (λ row. All (λ k. IsSized k.message) row.kept) s.outs
  pub outs : All (λ row. IsTrue (names_queue row.destination)) s.outs
  pub ins : All (λ row. IsTrue (names_queue row.destination)) s.ins
