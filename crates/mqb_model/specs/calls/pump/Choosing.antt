-- Which candidates go: the first ones, as many as may.
use Rattle.std.specs.Prelude.{[], ◌&&◌, ◌+◌, ◌==◌, ◌||◌, ◌∷◌, Bool, List, None, Option, Some, fold}
use Rattle.std.specs.Prelude.{if◌then◌else◌, nat_le, nat_lt, ℕ}
use Rattle.mqb_base.specs.declared.heads.SessionHead.{SessionHead}
use Rattle.mqb_base.specs.declared.heads.TxHead.{TxHead}
use Rattle.mqb_packet.specs.Plain.{message_size}
use Rattle.mqb_packet.specs.declared.packet.Headers.{Headers}
use Rattle.mqb_packet.specs.declared.packet.Headers.TheVariants as headers
use Rattle.mqb_session.specs.Sending.{may_send, stamped}
use Rattle.mqb_session.specs.State as one_end
use Rattle.mqb_session.specs.declared.heads.Kind.{Kind}
use Rattle.mqb_session.specs.declared.heads.Kind.TheVariants as kind
use Rattle.mqb_model.specs.calls.pump.Candidates.{Candidate}
use Rattle.mqb_model.specs.declared.limits.TheConstants.{MAX_PACKETS, MAX_PUMP_BYTES}
use Rattle.mqb_model.specs.managers.Beside.{OfRecoverable, Origin}

-- the kind of a packet: recoverable ones that are in no stream have a numbering of their own
abbrev pub kind_of : Origin → Kind
kind_of OfRecoverable = kind.Recoverable
kind_of _ = kind.Plain

-- the headers that it goes with: one of the session, and in a stream one of the transaction
abbrev pub headers_for : Option TxHead → Headers
headers_for None = headers.Session
headers_for (Some tx) = headers.TxAndSession

-- how many bytes its packet has
abbrev pub candidate_size : Candidate → ℕ
candidate_size c = message_size (headers_for c.tx) c.message

-- a packet is the first of a pump, or the bytes with it are within the limit of a pump
abbrev pub is_within : ℕ → ℕ → Candidate → Bool
is_within count bytes c = count == 0 || nat_le (bytes + candidate_size c) MAX_PUMP_BYTES

-- one more may go behind so many packets and bytes
abbrev pub may_follow : one_end.State → ℕ → ℕ → Candidate → Bool
may_follow session count bytes c =
    may_send session && nat_lt count MAX_PACKETS && is_within count bytes c

-- the session once it went
abbrev pub session_after : one_end.State → Candidate → one_end.State
session_after session c = (stamped (kind_of c.origin) session).1

-- the header that it goes with
abbrev pub head_for : one_end.State → Candidate → SessionHead
head_for session c = (stamped (kind_of c.origin) session).0

-- the first ones, as many as may go
abbrev pub chosen : one_end.State → ℕ → ℕ → List Candidate → List Candidate
chosen session count bytes [] = []
chosen session count bytes (c ∷ cs) = if may_follow session count bytes c
    then c ∷ chosen (session_after session c) (count + 1) (bytes + candidate_size c) cs
    else []

-- each with the header that it goes with
abbrev pub with_heads : one_end.State → List Candidate → List (Candidate × SessionHead)
with_heads session [] = []
with_heads session (c ∷ cs) = (c, head_for session c) ∷ with_heads (session_after session c) cs

-- the session once they all went
abbrev pub session_behind : one_end.State → List Candidate → one_end.State
session_behind session cs = fold session_after session cs
