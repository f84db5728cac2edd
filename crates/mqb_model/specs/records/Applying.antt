-- What each record does to a state that it fits, and which records fit.
use Rattle.std.specs.Prelude.{◌&&◌, Bool, List, false, is_some, nat_le, true, ℕ}
use Rattle.mqb_base.specs.declared.ledger.Line.{Line}
use Rattle.mqb_base.specs.declared.message.Lane.TheVariants as lane
use Rattle.mqb_queue.specs.Places.{lists_at}
use Rattle.mqb_model.specs.declared.limits.TheConstants.{MAX_ROLL}
use Rattle.mqb_model.specs.records.Arrived.{arrived_effect, arrived_fits}
use Rattle.mqb_model.specs.records.Commit.{commit_effect, commit_fits, take_fits}
use Rattle.mqb_model.specs.records.Offered.{offered_effect, offered_fits}
use Rattle.mqb_model.specs.records.Peer.{peer_fits, queue_fits, with_new_queue, with_peer}
use Rattle.mqb_model.specs.records.Plain.{plain_effect, plain_fits}
use Rattle.mqb_model.specs.records.Record.{Record, Roll, Setting}
use Rattle.mqb_model.specs.records.Record as entry
use Rattle.mqb_model.specs.rules.Effects.{Effect, begun}
use Rattle.mqb_model.specs.rules.Purges.{purged}
use Rattle.mqb_model.specs.rules.Takes.{taken}
use Rattle.mqb_model.specs.rules.Timeouts.{lane_ticked, rows_expired}
use Rattle.mqb_model.specs.state.State.{State}

-- the count at which a sequence is full, behind a setting
abbrev pub roll_by : Setting → ℕ → ℕ
roll_by (Roll count) before = count

-- the state with a setting
abbrev pub with_setting : State → Setting → State
with_setting s setting = record s { roll = roll_by setting s.roll }

-- The state that a record leaves, and its lines. An identity is a first record alone, and
-- changes nothing later.
abbrev pub effect_of : State → Record → Effect
effect_of s (entry.Identity identity) = begun s
effect_of s (entry.Peer peer) = begun (with_peer s peer)
effect_of s (entry.CreateQueue number plan) = begun (with_new_queue s plan)
effect_of s (entry.Commit now ops) = commit_effect s now ops
effect_of s (entry.Plain now p) = plain_effect s now p
effect_of s (entry.Offered marks) = offered_effect s marks
effect_of s (entry.Arrived now numbers part) = arrived_effect s now numbers part
effect_of s (entry.Taken now at id) = taken at id now (begun s)
effect_of s (entry.Purged now at) = purged lane.Durable at now (begun s)
effect_of s (entry.Ticked now) = lane_ticked lane.Durable now (rows_expired now (begun s))
effect_of s (entry.Set setting) = begun (with_setting s setting)

-- the state that a record leaves
abbrev pub apply : State → Record → State
apply s r = (effect_of s r).state

-- its lines in the ledger
abbrev pub lines_of : State → Record → List Line
lines_of s r = (effect_of s r).lines

-- a count at which a sequence can be full
abbrev pub is_roll : ℕ → Bool
is_roll count = nat_le 1 count && nat_le count MAX_ROLL

-- a setting is one that a manager can have
abbrev pub is_setting : Setting → Bool
is_setting (Roll count) = is_roll count

-- A record fits a state: whatever it names is there, and its packets are of its kind.
abbrev pub fits : State → Record → Bool
fits s (entry.Identity identity) = false
fits s (entry.Peer peer) = peer_fits s peer
fits s (entry.CreateQueue number plan) = queue_fits s number plan
fits s (entry.Commit now ops) = commit_fits s now ops
fits s (entry.Plain now p) = plain_fits s p
fits s (entry.Offered marks) = offered_fits s marks
fits s (entry.Arrived now numbers part) = arrived_fits s numbers part
fits s (entry.Taken now at id) = take_fits s now at id
fits s (entry.Purged now at) = is_some (lists_at s.places at)
fits s (entry.Ticked now) = true
fits s (entry.Set setting) = is_setting setting
