use Rattle.std.specs.Prelude.{◌≡◌, ◌≤◌}
use Rattle.mqb_base.specs.declared.ids.SequenceId.{SequenceId}
use Rattle.mqb_exactly_once.specs.World.{Position, Commitment, Expiry, Decision, KnownFate}
use Rattle.mqb_exactly_once.specs.World.{Transfer, OrderAck, FinalAck, StreamWorld}
use Rattle.mqb_exactly_once.specs.Words.{In, kept, last}

-- What no step takes back, from a world to a later one.
pub record Grows (v w : StreamWorld) : Type 0 where
  -- the channel is the same, and connections are numbered on
  pub channel : w.channel ≡ v.channel
  pub connection : v.connection ≤ w.connection
  -- of the numbers that were offered, the same ones are kept
  pub kept : (p : Position) → p.number ≤ v.offered p.sequence → kept w p ≡ kept v p
  -- the marks never fall
  pub offered : (s : SequenceId) → v.offered s ≤ w.offered s
  pub acknowledged : (s : SequenceId) → v.acknowledged s ≤ w.acknowledged s
  pub last : (s : SequenceId) → last v.decided s ≤ last w.decided s
  -- nothing leaves a list
  pub committed : (c : Commitment) → In c v.committed → In c w.committed
  pub expired : (e : Expiry) → In e v.expired → In e w.expired
  pub decided : (d : Decision) → In d v.decided → In d w.decided
  pub fates : (f : KnownFate) → In f v.fates → In f w.fates
  pub transfers : (t : Transfer) → In t v.transfers → In t w.transfers
  pub order_acks : (a : OrderAck) → In a v.order_acks → In a w.order_acks
  pub final_acks : (a : FinalAck) → In a v.final_acks → In a w.final_acks
