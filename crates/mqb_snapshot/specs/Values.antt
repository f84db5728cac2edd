-- What holds of each state that a program has: its numbers fit their types, its names are names,
-- and its lists are counted in four bytes.
use Rattle.std.specs.Prelude.{◌<◌, ◌^◌, All, IfSome, List, length}
use Rattle.mqb_base.specs.declared.ids.Identity.{Identity}
use Rattle.mqb_base.specs.declared.message.Message.{Message}
use Rattle.mqb_base.specs.declared.queues.QueuePlan.{QueuePlan}
use Rattle.mqb_heads.specs.Values.{IsMessage}
use Rattle.mqb_names.specs.Values.{AreBytes, IsName, IsQueueName}
use Rattle.mqb_orders.specs.Rows.{Row}
use Rattle.mqb_orders.specs.declared.rows.InRow.{InRow}
use Rattle.mqb_plain.specs.Lists.{messages_of}
use Rattle.mqb_queue.specs.Places.{Places, Queue}
use Rattle.mqb_model.specs.state.State.{State}

-- a list that is counted in four bytes
abbrev pub IsCounted : {X : Type 0} → List X → Type 0
IsCounted xs = length xs < 2 ^ 32

pub record IsIdentity (m : Identity) : Type 0 where
  pub host : IsName m.host
  pub guid : AreBytes 16 m.guid.0
  pub address : AreBytes 4 m.address

pub record IsPlan (q : QueuePlan) : Type 0 where
  pub name : IsName q.name
  pub public : IfSome q.public (λ guid. AreBytes 16 guid.0)
  pub quota : q.quota < 2 ^ 32

-- a message, and its time to reach its queue
pub record IsHeld (m : Message) : Type 0 where
  pub message : IsMessage m
  pub reach : m.reach < 2 ^ 32

pub record AreHeld (messages : List Message) : Type 0 where
  pub few : IsCounted messages
  pub each : All IsHeld messages

pub record IsQueue (q : Queue) : Type 0 where
  pub plan : IsPlan q.plan
  pub lists : AreHeld q.lists.durable
  pub journal : AreHeld q.journal.durable

pub record ArePlaces (p : Places) : Type 0 where
  pub queues : All IsQueue p.queues
  pub dead : AreHeld p.dead.durable
  pub dead_xact : AreHeld p.dead_xact.durable
  pub journal : AreHeld p.journal.durable

pub record IsOut (row : Row) : Type 0 where
  pub destination : IsQueueName row.destination
  pub stamp : row.sequence.stamp < 2 ^ 32
  pub few : IsCounted row.kept
  pub each : All (λ k. IsHeld k.message) row.kept

pub record IsIn (row : InRow) : Type 0 where
  pub source : AreBytes 16 row.source.0
  pub destination : IsQueueName row.destination
  pub ordinal : row.sequence.ordinal < 2 ^ 32
  pub stamp : row.sequence.stamp < 2 ^ 32
  pub last : row.last < 2 ^ 32

pub record IsState (s : State) : Type 0 where
  pub identity : IsIdentity s.identity
  pub peers : All IsIdentity s.peers
  pub places : ArePlaces s.places
  pub plain : All (λ p. AreHeld (messages_of p.recoverable)) s.plain
  pub few_outs : IsCounted s.outs
  pub outs : All IsOut s.outs
  pub few_ins : IsCounted s.ins
  pub ins : All IsIn s.ins
