-- A record is tried step by step, each step on the state that those before it leave, up to the
-- first that does not fit.
use Rattle.std.specs.Prelude.{[], ◌∷◌, List, None, Option, Some, if◌then◌else◌, option_and_then}
use Rattle.std.specs.Prelude.{option_map, ℕ}
use Rattle.mqb_base.specs.declared.message.Message.{Message}
use Rattle.mqb_base.specs.declared.queues.EntryPlace.TheVariants as place
use Rattle.mqb_entries.specs.declared.members.Mark.{Mark}
use Rattle.mqb_model.specs.records.Applying.{effect_of, fits}
use Rattle.mqb_model.specs.records.Arrived.{part_fits, part_made}
use Rattle.mqb_model.specs.records.Commit.{join_fits, send_made, sends_fit, sends_numbered}
use Rattle.mqb_model.specs.records.Commit.{sends_of, take_fits}
use Rattle.mqb_model.specs.records.Offered.{mark_fits, mark_raised}
use Rattle.mqb_model.specs.records.Record.{Part, Record, RecordOp, Send, Take}
use Rattle.mqb_model.specs.records.Record as entry
use Rattle.mqb_model.specs.records.Releases.{message_released, release_fits}
use Rattle.mqb_model.specs.rules.Effects.{Effect, begun}
use Rattle.mqb_model.specs.rules.Takes.{taken}
use Rattle.mqb_model.specs.state.Resolving.{resolved}
use Rattle.mqb_model.specs.state.State.{State}

-- the takes of a transaction, one after another
abbrev pub takes_stepwise : ℕ → Effect → List RecordOp → Option Effect
takes_stepwise now e [] = Some e
takes_stepwise now e (Send p ∷ ops) = takes_stepwise now e ops
takes_stepwise now e (Take queue id ∷ ops) = if take_fits e.state now (place.Queue queue) id
    then takes_stepwise now (taken (place.Queue queue) id now e) ops
    else None

-- the sends, one after another
abbrev pub sends_stepwise : ℕ → Effect → List Message → Option Effect
sends_stepwise now e [] = Some e
sends_stepwise now e (m ∷ ms) = if join_fits e.state (resolved e.state m.destination) m.destination
    then sends_stepwise now (send_made now e m) ms
    else None

-- the packets are looked at first, then the takes are made, and then the sends
abbrev pub commit_stepwise : State → ℕ → List RecordOp → Option Effect
commit_stepwise s now ops = if sends_fit s s.next_number ops
    then option_and_then (λ e. sends_stepwise now e (sends_of ops))
    (takes_stepwise now (sends_numbered s ops) ops)
    else None

-- marks, one after another
abbrev pub marks_stepwise : State → List Mark → Option State
marks_stepwise s [] = Some s
marks_stepwise s (mark ∷ marks) =
    if mark_fits s mark then marks_stepwise (mark_raised s mark) marks else None

-- releases, one after another
abbrev pub releases_stepwise : Effect → List ℕ → Option Effect
releases_stepwise e [] = Some e
releases_stepwise e (number ∷ numbers) = if release_fits e.state number
    then releases_stepwise (message_released e number) numbers
    else None

-- a part, where it fits
abbrev pub part_stepwise : ℕ → Effect → Part → Option Effect
part_stepwise now e part = if part_fits e.state part then Some (part_made now e part) else None

-- the releases are made first, and then what arrived is dealt with
abbrev pub arrived_stepwise : State → ℕ → List ℕ → Part → Option Effect
arrived_stepwise s now numbers part =
    option_and_then (λ e. part_stepwise now e part) (releases_stepwise (begun s) numbers)

-- A record, step by step: what it does, unless a step does not fit.
abbrev pub stepwise : State → Record → Option Effect
stepwise s (entry.Commit now ops) = commit_stepwise s now ops
stepwise s (entry.Offered marks) = option_map begun (marks_stepwise s marks)
stepwise s (entry.Arrived now numbers part) = arrived_stepwise s now numbers part
stepwise s r = if fits s r then Some (effect_of s r) else None
