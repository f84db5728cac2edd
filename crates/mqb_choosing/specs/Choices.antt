-- What a packet that goes is, seen over a state.
use Rattle.std.specs.Prelude.{None, Option, Some, All, IsSomeAnd, List, false, filter_map}
use Rattle.std.specs.Prelude.{option_and_then, option_map, slice_get, sum_by, is_some, true, ◌≡◌, ℕ}
use Rattle.mqb_base.specs.declared.heads.SessionHead.{SessionHead}
use Rattle.mqb_base.specs.declared.heads.TxHead.{TxHead}
use Rattle.mqb_base.specs.declared.message.Lane.{Lane}
use Rattle.mqb_base.specs.declared.message.Lane.TheVariants as lane
use Rattle.mqb_base.specs.declared.message.Message.{Message}
use Rattle.mqb_fate.specs.Asking.{is_transactional}
use Rattle.mqb_names.specs.Values.{IsName}
use Rattle.mqb_packet.specs.declared.packet.Headers.TheVariants as headers
use Rattle.mqb_plain.specs.Lists.{messages_of}
use Rattle.mqb_plain.specs.Plain.{outgoing_in}
use Rattle.mqb_session.specs.declared.heads.Kind.{Kind}
use Rattle.mqb_model.specs.calls.pump.Candidates.{Candidate}
use Rattle.mqb_model.specs.calls.pump.Choosing.{candidate_size, headers_for, kind_of}
use Rattle.mqb_model.specs.managers.Beside as beside
use Rattle.mqb_model.specs.state.State.{State}
use Rattle.mqb_model.specs.state.Valid.{IsCarried}
use Rattle.mqb_choosing.specs.declared.choice.Choice.{Choice}
use Rattle.mqb_choosing.specs.declared.choice.Origin.{Origin}
use Rattle.mqb_choosing.specs.declared.choice.Origin.TheVariants.{Kept, Owed, Waiting}

-- the message that stands there
abbrev pub message_at : State → Origin → Option Message
message_at s (Owed row message) = Some message
message_at s (Waiting peer kind index) =
    option_and_then (λ p. slice_get (messages_of (outgoing_in kind p)) index)
    (slice_get s.plain peer)
message_at s (Kept row index tx) =
    option_and_then (λ r. option_map (λ k. k.message) (slice_get r.kept index))
    (slice_get s.outs row)

-- the plain messages of a lane
abbrev pub origin_in : Lane → beside.Origin
origin_in lane.Durable = beside.OfRecoverable
origin_in lane.Express = beside.OfExpress

-- where it comes from, in the definitions' words
abbrev pub origin_of : Origin → beside.Origin
origin_of (Owed row message) = beside.Owed row
origin_of (Waiting peer kind index) = origin_in kind
origin_of (Kept row index tx) = beside.OfRow row tx.number

-- the kind of its packet
abbrev pub kind_for : Origin → Kind
kind_for origin = kind_of (origin_of origin)

-- the transaction header of its packet
abbrev pub tx_for : Origin → Option TxHead
tx_for (Kept row index tx) = Some tx
tx_for _ = None

-- the candidate with a message that comes from there
abbrev pub coming_from : Origin → Message → Candidate
coming_from origin m = record { origin = origin_of origin; message = m; tx = tx_for origin }

-- a packet that goes, where its message is there
abbrev pub shown : State → Choice → Option (Candidate × SessionHead)
shown s choice =
    option_map (λ m. (coming_from choice.origin m, choice.head)) (message_at s choice.origin)

-- the packets that go
abbrev pub shown_in : State → List Choice → List (Candidate × SessionHead)
shown_in s choices = filter_map (shown s) choices

-- how many bytes their packets have
abbrev pub bytes_in : State → List Choice → ℕ
bytes_in s choices = sum_by (λ given. candidate_size given.0) (shown_in s choices)

-- A candidate can be carried with its headers, and is transactional exactly
-- where it is of a stream.
pub record IsSendable (c : Candidate) : Type 0 where
  pub carried : IsCarried (headers_for c.tx) c.message
  pub kind : is_some c.tx ≡ is_transactional c.message.delivery

-- the message that stands there can be sent
abbrev pub CanGo : State → Origin → Type 0
CanGo s origin = IsSomeAnd (message_at s origin) (λ m. IsSendable (coming_from origin m))

-- the message of a packet that goes is there, and it can be carried
abbrev pub IsThere : State → Choice → Type 0
IsThere s choice = IsSomeAnd (shown s choice) (λ given. IsSendable given.0)

-- a plain message that can be carried in a session
abbrev pub IsPlain : Message → Type 0
IsPlain m = IsCarried headers.Session m × (is_transactional m.delivery ≡ false)

-- a message of a stream that can be carried
abbrev pub IsOfStream : Message → Type 0
IsOfStream m = IsCarried headers.TxAndSession m × (is_transactional m.delivery ≡ true)

-- Whatever waits can be sent.
pub record AreSendable (s : State) : Type 0 where
  pub hosts : All (λ p. IsName p.host) s.peers
  pub recoverable : All (λ p. All IsPlain (messages_of p.recoverable)) s.plain
  pub express : All (λ p. All IsPlain (messages_of p.express)) s.plain
  pub kept : All (λ row. All (λ k. IsOfStream k.message) row.kept) s.outs
