-- How serving goes from one conversation to another, and where it stops.
use Rattle.std.specs.Prelude.{[], ◌&&◌, ◌++◌, ◌==◌, ◌≡◌, ◌⊎◌, Bool, Err, IfSome, List, None, Ok}
use Rattle.std.specs.Prelude.{Option, Result, Some, if◌then◌else◌, length, unwrap_or, ℕ}
use Rattle.mqb_fields.specs.declared.faults.HeadFault.{HeadFault}
use Rattle.mqb_outside.specs.Told.{Gave, Took}
use Rattle.mqb_packet.specs.Parts.{packet_of}
use Rattle.mqb_packet.specs.Spelled.{Spells}
use Rattle.mqb_packet.specs.declared.packet.Packet.{Packet}
use Rattle.mqb_stream.specs.Framing.{Framing, Whole, advanced, next}
use Rattle.mqb_model.specs.calls.hear.Hear.{hear}
use Rattle.mqb_model.specs.calls.pump.Pump.{pump}
use Rattle.mqb_serving.specs.declared.purpose.Purpose.{Purpose}
use Rattle.mqb_model.specs.declared.faults.PumpFault.{PumpFault}
use Rattle.mqb_model.specs.records.Record.{Record}
use Rattle.mqb_serving.specs.Conversations.{Conversation, End, StoredManager, bytes_of}
use Rattle.mqb_serving.specs.Conversations.{end_of_bytes, pumped, read_on}
use Rattle.mqb_serving.specs.Conversations.{stored_after, stored_under}
use Rattle.mqb_serving.specs.Laws.{Begins}
use Rattle.mqb_serving.specs.declared.faults.PeerFault.TheVariants as peer
use Rattle.mqb_serving.specs.declared.limits.TheConstants.{MAX_PUMPS}
use Rattle.mqb_serving.specs.declared.faults.ConnFault.{ConnFault}
use Rattle.mqb_serving.specs.declared.faults.ConnFault.TheVariants as fault
use Rattle.mqb_serving.specs.Serving.{Hears, IsNext, IsStart, Starting, heard_by, hearing}

-- A sink that had taken before took a front of these bytes, and has taken after.
pub record TookFront (before after : Option (List ℕ)) (bytes : List ℕ) : Type 0 where
  pub written : List ℕ
  pub left : List ℕ
  pub whole : written ++ left ≡ bytes
  pub took : Took before after written

-- What a fault leaves: the disk failed under a record that may be under way, or nothing has
-- changed. No peer's fault does.
abbrev pub LeftBy : ConnFault → (under_way : Record → Type 0) → StoredManager → StoredManager
    → Type 0
LeftBy (fault.Peer why) under_way m n = ⊥
LeftBy fault.ReadFault under_way m n = n ≡ m
LeftBy fault.WriteFault under_way m n = n ≡ m
LeftBy fault.DiskFault under_way m n =
    (doubt : Record) × under_way doubt × (n ≡ stored_under m doubt)
LeftBy fault.Memory under_way m n = n ≡ m

-- One call of the manager.

-- A pump went as its definition does, and its packets were sent.
pub record IsPumped (m : StoredManager) (moment : ℕ) (n : StoredManager)
    (before after : Option (List ℕ)) (r : Result ℕ PumpFault) : Type 0 where
  pub answer : r ≡ (pump m.manager moment).answer
  pub manager : n ≡ stored_after m (pump m.manager moment)
  pub took : Took before after (bytes_of (pump m.manager moment).packets)

-- the record of a pump
abbrev pub PumpsBy : StoredManager → ℕ → Record → Type 0
PumpsBy m moment r = (pump m.manager moment).entry ≡ Some r

-- it was not made, and nothing was sent; or only a front of its packets was
abbrev pub PumpStops : StoredManager → ℕ → StoredManager → (before after : Option (List ℕ))
    → ConnFault → Type 0
PumpStops m moment n before after why = (LeftBy why (PumpsBy m moment) m n × (after ≡ before))
    ⊎ (LeftBy why (λ _. ⊥) (stored_after m (pump m.manager moment)) n
    × TookFront before after (bytes_of (pump m.manager moment).packets))

-- what a pump comes to, with what is sent of it
abbrev pub PumpsOnce : StoredManager → ℕ → StoredManager → (before after : Option (List ℕ))
    → Result (Result ℕ PumpFault) ConnFault → Type 0
PumpsOnce m moment n before after (Ok r) = IsPumped m moment n before after r
PumpsOnce m moment n before after (Err why) = PumpStops m moment n before after why

-- A frame is heard as the packet that it spells.
pub record IsHeard (frame : List ℕ) (m : StoredManager) (moment : ℕ)
    (n : StoredManager) : Type 0 where
  pub packet : Packet
  pub spells : Spells packet frame
  pub manager : n ≡ stored_after m (hear m.manager packet moment)

-- the record by which a frame is heard
pub record HearsBy (frame : List ℕ) (m : StoredManager) (moment : ℕ) (r : Record) : Type 0 where
  pub packet : Packet
  pub spells : Spells packet frame
  pub comes_to : (hear m.manager packet moment).entry ≡ Some r

-- what hearing a frame comes to, which may be no packet
abbrev pub HearsFrame : List ℕ → StoredManager → ℕ → StoredManager
    → Result (Result (Unit {0}) HeadFault) ConnFault → Type 0
HearsFrame frame m moment n (Ok (Ok done)) = IsHeard frame m moment n
HearsFrame frame m moment n (Ok (Err why)) = (packet_of frame ≡ Err why) × (n ≡ m)
HearsFrame frame m moment n (Err why) = LeftBy why (HearsBy frame m moment) m n

-- A step.

-- The program stands at this conversation, which goes on.
pub record Stands (c : Conversation) (asks : Purpose) (moment : ℕ) (m : StoredManager)
    (f : Framing) : Type 0 where
  pub purpose : c.purpose ≡ asks
  pub now : c.now ≡ moment
  pub manager : c.stored ≡ m
  pub framing : c.framing ≡ f
  pub end : c.end ≡ None

-- From one conversation another was reached: these packets were given besides, and sent.
pub record Gives (c d : Conversation) (before after : Option (List ℕ)) : Type 0 where
  pub packets : List Packet
  pub given : d.given ≡ c.given ++ packets
  pub took : Took before after (bytes_of packets)

-- The program reached it, and stands there unless it ended.
pub record Reaches (c d : Conversation) (before after : Option (List ℕ)) (asks : Purpose)
    (moment : ℕ) (m : StoredManager) (f : Framing) (r : Option End) : Type 0 where
  pub gives : Gives c d before after
  pub manager : d.stored ≡ m
  pub end : d.end ≡ r
  pub stands : r ≡ None → Stands d asks moment m f

-- the same manager with the same records, at the same moment, which gave the same packets
pub record IsSameSide (c d : Conversation) : Type 0 where
  pub manager : d.stored ≡ c.stored
  pub now : d.now ≡ c.now
  pub given : d.given ≡ c.given

-- Pumping went on from one of these starts.
pub record IsBehind (starts : Starting) (d : Conversation) : Type 0 where
  pub from : Conversation
  pub pumps : ℕ
  pub start : IsStart starts from
  pub manager : d.stored ≡ (pumped pumps from).stored
  pub now : d.now ≡ (pumped pumps from).now
  pub given : d.given ≡ (pumped pumps from).given

-- a conversation itself, or one behind some pumps from one of these starts
abbrev pub IsPast : Starting → Conversation → Conversation → Type 0
IsPast starts c d = IsSameSide c d ⊎ IsBehind starts d

-- A fault stops it there. What was written is a front of what was given.
pub record Stops (starts : Starting) (c : Conversation) (before after : Option (List ℕ))
    (n : StoredManager) (why : ConnFault) : Type 0 where
  pub at : Conversation
  pub past : IsPast starts c at
  pub written : List ℕ
  pub took : Took before after written
  pub begins : Begins (bytes_of c.given ++ written) (bytes_of at.given)
  pub left : LeftBy why (IsNext starts at.stored at.now) at.stored n

-- a step reaches another conversation, or is stopped
abbrev pub Goes : Starting → (c d : Conversation) → (before after : Option (List ℕ)) → Purpose → ℕ
    → StoredManager → Framing → Result (Option End) ConnFault → Type 0
Goes starts c d before after asks moment m f (Ok end) = Reaches c d before after asks moment m f end
Goes starts c d before after asks moment m f (Err why) = Stops starts c before after m why

-- Where pumping starts in a step.

-- at the conversation itself
abbrev pub Itself : Conversation → Starting
Itself c by entry from = (entry ≡ None) × (from ≡ c)

-- Where a packet that is held is heard.
pub record HearsHeld (c : Conversation) (by : StoredManager) (entry : Option Record)
    (from : Conversation) : Type 0 where
  pub frame : List ℕ
  pub packet : Packet
  pub whole : next c.framing ≡ Whole frame
  pub spells : Spells packet frame
  pub manager : by ≡ c.stored
  pub comes_to : heard_by c packet ≡ entry
  pub heard : from ≡ hearing (record c { framing = advanced c.framing }) packet

-- All steps.

-- the end where no more bytes come, by whether it is through and what is held
abbrev pub end_of : Bool → List ℕ → End
end_of through held = if through && length held == 0 then Ok tt else Err peer.PeerClosed

-- The bytes that were read came to this end, or nothing more came.
pub record Finishes (c d : Conversation) (before after held_now : Option (List ℕ))
    (m : StoredManager) (r : End) : Type 0 where
  pub gives : Gives c d before after
  pub manager : d.stored ≡ m
  pub end : unwrap_or d.end (end_of_bytes d) ≡ r
  pub all : d.end ≡ None → IfSome held_now (λ rest. rest ≡ [])

-- a conversation goes on to its end from where it is, or is stopped
abbrev pub EndsFrom : Starting → (c d : Conversation) → (before after held_now : Option (List ℕ))
    → StoredManager → Result End ConnFault → Type 0
EndsFrom starts c d before after held_now m (Ok end) = Finishes c d before after held_now m end
EndsFrom starts c d before after held_now m (Err why) = Stops starts c before after m why

-- The program reads what comes, from a conversation on.
pub record Listens (c : Conversation) (held held_now before after : Option (List ℕ))
    (m : StoredManager) (r : Result End ConnFault) : Type 0 where
  pub read : List ℕ
  pub gave : Gave held held_now read
  pub ends : EndsFrom (Hears c read) c (read_on c read) before after held_now m r

-- pumping starts at once, or where a packet is heard behind it
abbrev pub StartsAt : Conversation → List ℕ → Starting
StartsAt c read by entry from =
    Itself c by entry from ⊎ Hears (pumped MAX_PUMPS c) read by entry from

-- The program pumps first, and then reads what comes.
pub record Converses (c : Conversation) (held held_now before after : Option (List ℕ))
    (m : StoredManager) (r : Result End ConnFault) : Type 0 where
  pub read : List ℕ
  pub gave : Gave held held_now read
  pub ends :
      EndsFrom (StartsAt c read) c (read_on (pumped MAX_PUMPS c) read) before after held_now m r
