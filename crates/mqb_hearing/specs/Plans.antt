-- What a manager makes of a packet, as a plan.
use Rattle.std.specs.Prelude.{[], ◌≡◌, ◌⊎◌, IfOk, IsSomeAnd, List, None, Ok, Option, Result, Some}
use Rattle.std.specs.Prelude.{is_some, ℕ}
use Rattle.mqb_base.specs.declared.answers.Memory.{Memory}
use Rattle.mqb_timeouts.specs.Work.{beside_of}
use Rattle.mqb_entries.specs.SpelledEntries.{spelled}
use Rattle.mqb_entries.specs.declared.entry.Entry.{Entry}
use Rattle.mqb_packet.specs.Parts.{seen_packet}
use Rattle.mqb_packet.specs.Spelled.{packet_in}
use Rattle.mqb_packet.specs.declared.lent.PacketView.{PacketView}
use Rattle.mqb_packet.specs.declared.lent.PacketView.TheVariants as view
use Rattle.mqb_packet.specs.declared.packet.Packet.{Packet}
use Rattle.mqb_session.specs.State as one_end
use Rattle.mqb_model.specs.calls.hear.Hear.{IsReadable, hear_linked, listening}
use Rattle.mqb_model.specs.calls.hear.Session.{HeardOutcome, Listening, with_session}
use Rattle.mqb_model.specs.calls.hear.Streams.{owing, with_owed}
use Rattle.mqb_model.specs.managers.Manager.{Manager, Rest, Up, no_rest}
use Rattle.mqb_model.specs.managers.Valid.{IsValidManager}
use Rattle.mqb_model.specs.records.Reading.{record_in}
use Rattle.mqb_model.specs.records.Record.{Record}
use Rattle.mqb_model.specs.state.State.{State}
use Rattle.mqb_hearing.specs.Arrivals.{bytes_of_packet}
use Rattle.mqb_hearing.specs.declared.hearing.Hearing.{Hearing}

-- an incoming row owes an acknowledgement besides, where there is one
abbrev pub owing_row : Option ℕ → Rest → Rest
owing_row None rest = rest
owing_row (Some k) rest = with_owed k rest

-- what a manager knows of its connection after a plan
abbrev pub rest_after : Hearing → Rest → Rest
rest_after h rest = owing_row h.owes (with_session rest h.session)

-- what hearing comes to for a manager by a plan
abbrev pub outcome_of : Manager → Hearing → HeardOutcome
outcome_of m h = record {
  answer = Ok h.answer;
  touches = is_some h.arrival.written;
  entry = h.arrival.written;
  beside = beside_of h.work;
  rest = rest_after h m.rest;
  packets = [];
}

-- a manager with this state
abbrev pub in_state : State → Manager → Manager
in_state s m = record m { state = s }

-- Whatever else a manager with this state knows, it comes to that.
abbrev pub Makes : State → Result Hearing Memory → (Manager → HeardOutcome) → Type 0
Makes s r heard = IfOk r (λ h. (m : Manager) → heard (in_state s m) ≡ outcome_of (in_state s m) h)

-- What is kept when a packet is heard, the session behind the packet's header, and the moment.
pub record Behind : Type 0 where
  pub state : State
  pub session : one_end.State
  pub moment : ℕ

-- Whoever listens so, it comes to that.
abbrev pub Hears : Behind → Result Hearing Memory → (Listening → HeardOutcome) → Type 0
Hears b r heard = Makes b.state r (λ m. heard (listening m b.session b.moment))

-- its incoming row owes an acknowledgement besides, where there is one
abbrev pub owing_at : Option ℕ → HeardOutcome → HeardOutcome
owing_at None outcome = outcome
owing_at (Some k) outcome = owing k outcome

-- one who listens so, and knows nothing else
abbrev pub listening_so : Behind → Listening
listening_so b =
    listening (record { state = b.state; rest = no_rest; condition = Up }) b.session b.moment

-- This holds of whatever a linked manager with this state makes of the packet that a view shows.
abbrev pub OnHeard : State → one_end.State → ℕ → PacketView → (Manager → HeardOutcome → Type 0)
    → Type 0
OnHeard s session now v P = (m : Manager) (p : Packet) → m.state ≡ s
    → packet_in (seen_packet v) ≡ Some p → P m (hear_linked m now p session)

-- This holds where a valid manager has this state and this session.
abbrev pub WhereValid : State → one_end.State → Type 0 → Type 0
WhereValid s session P =
    (m : Manager) → IsValidManager m → m.state ≡ s → m.rest.session ≡ Some session → P

-- A view shows a packet that can be heard.
abbrev pub ShowsReadable : PacketView → Type 0
ShowsReadable v = IsSomeAnd (packet_in (seen_packet v)) IsReadable

-- What is to be written has no packet, or the one of these bytes.
abbrev pub Brings : List ℕ → Result Hearing Memory → Type 0
Brings whole r = IfOk r (λ h. (h.arrival.packet ≡ []) ⊎ (h.arrival.packet ≡ whole))

-- the bytes of a user packet that a view shows
abbrev pub whole_of : PacketView → List ℕ
whole_of (view.User v) = v.whole.now
whole_of _ = []

-- These bytes spell a record, in which a packet that arrived has the bytes that were heard.
pub record IsAsHeard (whole bytes : List ℕ) (r : Record) : Type 0 where
  pub entry : Entry
  pub told : record_in entry ≡ Some r
  pub spells : bytes ≡ spelled entry
  pub packet : (bytes_of_packet entry ≡ []) ⊎ (bytes_of_packet entry ≡ whole)
