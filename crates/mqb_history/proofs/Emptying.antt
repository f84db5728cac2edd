-- What a record takes out of a journal or a dead-letter queue stood there.
use Rattle.std.proofs.Common.{refl}
use Rattle.std.specs.List.{AllByRecursion}
use Rattle.std.specs.Option.{option_map_or}
use Rattle.std.specs.Prelude.{[], ◌∷◌, ◌≡◌, Bool, IfSome, List, None, Option, Some, cond, false, suc, true, zero, ℕ}
use Rattle.mqb_base.specs.Lanes.{lane_of}
use Rattle.mqb_base.specs.declared.ids.MessageId.{MessageId}
use Rattle.mqb_base.specs.declared.ledger.Line.{Line}
use Rattle.mqb_base.specs.declared.ledger.Line.TheVariants as line
use Rattle.mqb_base.specs.declared.message.Delivery.{Delivery}
use Rattle.mqb_base.specs.declared.message.Delivery.TheVariants as delivery
use Rattle.mqb_base.specs.declared.message.Lane.TheVariants as lane
use Rattle.mqb_base.specs.declared.message.Message.{Message}
use Rattle.mqb_base.specs.declared.queues.EntryPlace.{EntryPlace}
use Rattle.mqb_exactly_once.specs.Words.{In}
use Rattle.mqb_model.specs.Loops.{repeated}
use Rattle.mqb_model.specs.records.Applying.{lines_of}
use Rattle.mqb_model.specs.records.Commit.{sends_of}
use Rattle.mqb_model.specs.records.Record.{Part, Record}
use Rattle.mqb_model.specs.records.Record as entry
use Rattle.mqb_model.specs.rules.Effects.{Effect, begun, joined}
use Rattle.mqb_model.specs.rules.Purges.{count_at, message_purged, oldest_purged, purged}
use Rattle.mqb_model.specs.rules.Takes.{message_at, message_taken, taken, taken_at}
use Rattle.mqb_base.specs.declared.class.TheConstants.Class.{QUEUE_PURGED}
use Rattle.mqb_model.specs.rules.Notices.{meets}
use Rattle.mqb_model.specs.state.Places.{is_express, without_at}
use Rattle.mqb_model.specs.state.State.{State}
use Rattle.mqb_queue.specs.First.{index_named, is_queue}
use Rattle.mqb_history.proofs.Between.{all_in}
use Rattle.mqb_history.proofs.Contents.{Holds, InLane, lane_holds, without_holds}
use Rattle.mqb_history.proofs.Lists.{all_append, clash}
use Rattle.mqb_history.proofs.Saying.{RecordSays, Says, Sayings, record_says}

-- a message of the durable lane is not express
in_durable : (d : Delivery) → lane_of d ≡ lane.Durable → is_express d ≡ false
in_durable delivery.Express e = absurd (let none : ⊥ = cc in none)
in_durable delivery.Recoverable e = refl
in_durable delivery.Transactional e = refl

-- what takes nothing out of such places
abbrev empties_none : Sayings
empties_none = record { Sends = λ id. Unit {0}; Decides = λ id. Unit {0}; Stores = λ id. Unit {0}; Expires = λ id. Unit {0}; Empties = λ id. ⊥ }

module _ (P : Message → Type 0) where
  -- A message of which something holds has an identifier, and is not express.
  pub record IsOfOne (id : MessageId) : Type 0 where
    pub message : Message
    pub holds : P message
    pub durable : is_express message.delivery ≡ false
    pub names : message.id ≡ id

  abbrev IsTold : Line → Type 0
  IsTold (line.Emptied id) = IsOfOne id
  IsTold _ = Unit {0}

  abbrev AllTold : Effect → Type 0
  AllTold e = AllByRecursion IsTold e.lines

  -- it left a queue under another line, or such a place
  left_told : (b : Bool) (k : Line) (m : Message) → IsTold k → (b ≡ false → InLane P lane.Durable m) → IsTold (cond b k (line.Emptied m.id))
  left_told true k m told there = told
  left_told false k m told there = let h = there refl in record { message = m; holds = h.0; durable = in_durable m.delivery h.1; names = refl }

  taken_told : (at : EntryPlace) (id : MessageId) (now : ℕ) (s : State) → Holds P s → AllTold (taken at id now (begun s))
  taken_told at id now s h = by (index_named s.places at id now)
    where
      one : (k : ℕ) (o : Option Message) → IfSome o (InLane P lane.Durable) → AllTold (option_map_or (λ m. joined (begun s) (message_taken lane.Durable at k now s m)) o (begun s))
      one k None g = tt
      one k (Some m) g = (left_told (is_queue at) (line.Took m.id) m tt (λ none. g), tt)

      by : (o : Option ℕ) → AllTold (option_map_or (λ k. taken_at lane.Durable at k now (begun s)) o (begun s))
      by None = tt
      by (Some k) = one k (message_at lane.Durable s at k) (lane_holds P lane.Durable s at k h)

  -- out of such a place messages leave alone
  abbrev IsPurged : EntryPlace → Effect → Type 0
  IsPurged at e = (is_queue at ≡ false → Holds P e.state) × AllTold e

  oldest_told : (at : EntryPlace) (now : ℕ) (e : Effect) → IsPurged at e → IsPurged at (oldest_purged lane.Durable at now e)
  oldest_told at now e h = by (message_at lane.Durable e.state at 0) (λ none. lane_holds P lane.Durable e.state at 0 (h.0 none))
    where
      left : State
      left = without_at lane.Durable e.state at 0

      after : (m : Message) (b : Bool) → b ≡ false → Holds P left → Holds P (cond b (meets left m QUEUE_PURGED now) left)
      after m true none g = absurd (clash none)
      after m false none g = g

      by : (o : Option Message) → (is_queue at ≡ false → IfSome o (InLane P lane.Durable)) → IsPurged at (option_map_or (λ m. joined e (message_purged lane.Durable at now e.state m)) o e)
      by None there = h
      by (Some m) there = (
        λ none. after m (is_queue at) none (without_holds P lane.Durable e.state at 0 (h.0 none)),
        all_append IsTold e.lines (cond (is_queue at) (line.Purged m.id) (line.Emptied m.id) ∷ []) h.1 (left_told (is_queue at) (line.Purged m.id) m tt there, tt),
      )

  repeated_told : (at : EntryPlace) (now n : ℕ) (e : Effect) → IsPurged at e → IsPurged at (repeated n (oldest_purged lane.Durable at now) e)
  repeated_told at now zero e h = h
  repeated_told at now (suc n) e h = oldest_told at now (repeated n (oldest_purged lane.Durable at now) e) (repeated_told at now n e h)

  purged_told : (at : EntryPlace) (now : ℕ) (s : State) → Holds P s → AllTold (purged lane.Durable at now (begun s))
  purged_told at now s h = (repeated_told at now (count_at lane.Durable s at) (begun s) (λ none. h, tt)).1

  -- Records.

  nothing_sent : (ms : List Message) → AllByRecursion (λ (m : Message). Unit {0}) ms
  nothing_sent [] = tt
  nothing_sent (m ∷ ms) = (tt, nothing_sent ms)

  part_empties : (now : ℕ) (numbers : List ℕ) (part : Part) → RecordSays empties_none (entry.Arrived now numbers part)
  part_empties now numbers entry.Nothing = tt
  part_empties now numbers part = tt

  none_emptied : (s : State) (r : Record) (id : MessageId) → RecordSays empties_none r → In (line.Emptied id) (lines_of s r) → IsOfOne id
  none_emptied s r id says i = absurd (all_in (Says empties_none) (lines_of s r) (line.Emptied id) (record_says empties_none s r says) i)

  pub emptied_of : (s : State) (r : Record) (id : MessageId) → Holds P s → In (line.Emptied id) (lines_of s r) → IsOfOne id
  emptied_of s (entry.Commit now ops) id h i = none_emptied s (entry.Commit now ops) id (nothing_sent (sends_of ops)) i
  emptied_of s (entry.Arrived now numbers part) id h i = none_emptied s (entry.Arrived now numbers part) id (part_empties now numbers part) i
  emptied_of s (entry.Taken now at name) id h i = all_in IsTold (lines_of s (entry.Taken now at name)) (line.Emptied id) (taken_told at name now s h) i
  emptied_of s (entry.Purged now at) id h i = all_in IsTold (lines_of s (entry.Purged now at)) (line.Emptied id) (purged_told at now s h) i
  emptied_of s (entry.Ticked now) id h i = none_emptied s (entry.Ticked now) id (λ other. tt) i
  emptied_of s r id h i = none_emptied s r id tt i
