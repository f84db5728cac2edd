-- That no manager is ever stuck in a connection, in three parts.
use Rattle.std.specs.Prelude.{◌<◌, ◌≡◌, ◌≤◌, ◌⊎◌, All, IfSome, Option, Some, false, filter, length}
use Rattle.std.specs.Prelude.{nat_lt, replicate, slice_get, true, ℕ}
use Rattle.mqb_base.specs.Sequences.{earlier}
use Rattle.mqb_base.specs.declared.ids.Identity.{Identity}
use Rattle.mqb_exactly_once.specs.Words.{In}
use Rattle.mqb_model.specs.calls.pump.Candidates.{tx_of}
use Rattle.mqb_model.specs.calls.pump.Pump.{pump}
use Rattle.mqb_model.specs.managers.Manager.{Manager, is_down, linked_peer}
use Rattle.mqb_model.specs.managers.Readers.{is_outstanding}
use Rattle.mqb_model.specs.managers.Valid.{IsUnsent}
use Rattle.mqb_orders.specs.Judging.{decided, verdict_of}
use Rattle.mqb_orders.specs.Rows.{Row, acknowledged}
use Rattle.mqb_orders.specs.declared.judging.Verdict.TheVariants.{Duplicate, Next}
use Rattle.mqb_orders.specs.declared.kept.Kept.{Kept}
use Rattle.mqb_orders.specs.declared.rows.InRow.{InRow}
use Rattle.mqb_plain.specs.Plain.{PlainLists}
use Rattle.mqb_session.specs.Sending.{may_send}
use Rattle.mqb_session.specs.State as one_end

-- Something goes.

-- a manager that is up has a session that may send, with a peer that it knows
pub record MaySend (m : Manager) (session : one_end.State) : Type 0 where
  pub up : is_down m ≡ false
  pub linked : m.rest.session ≡ Some session
  pub may : may_send session ≡ true
  pub peer : Identity
  pub there : slice_get m.state.peers (linked_peer m.state session) ≡ Some peer
  pub plain : PlainLists
  pub lists : slice_get m.state.plain (linked_peer m.state session) ≡ Some plain

-- nothing was sent in this connection
pub record HasSentNothing (m : Manager) : Type 0 where
  pub cursors : m.rest.cursors ≡ replicate (length m.state.outs) 0
  pub unsent : All IsUnsent m.state.plain

-- Whatever is outstanding for the peer of a new connection, a packet goes: no sequence waits for
-- another one for ever, and no message for one that cannot go.
abbrev pub SomethingGoes : Type 0
SomethingGoes = (m : Manager) (session : one_end.State) (now : ℕ) → MaySend m session
    → HasSentNothing m → is_outstanding m ≡ true
    → 0 < length (pump m now).packets

-- It is no gap where it arrives.

-- of what a row keeps, the first number that is not acknowledged
pub record IsFirst (row : Row) (k : Kept) : Type 0 where
  pub above : row.acked < k.number
  pub first : All (λ x. row.acked < x.number → k.number ≤ x.number) row.kept

-- its receiver decided what is acknowledged of the sequence, and nothing of a later one
pub record HasDecided (row : Row) (there : Option InRow) : Type 0 where
  pub acknowledged : row.acked ≤ decided there row.sequence
  pub none_later : IfSome there (λ r. earlier row.sequence r.sequence ≡ false)

-- The first number that is not acknowledged is next at such a receiver, or was decided. In either
-- case it is acknowledged.
abbrev pub FirstIsNoGap : Type 0
FirstIsNoGap = (row : Row) (k : Kept) (there : Option InRow) → IsFirst row k → HasDecided row there
    → (verdict_of there (tx_of row k) ≡ Next) ⊎ (verdict_of there (tx_of row k) ≡ Duplicate)

-- Its acknowledgement leaves less.

-- how many kept numbers of a row are not acknowledged
abbrev pub unacknowledged : Row → ℕ
unacknowledged row = length (filter (λ k. nat_lt row.acked k.number) row.kept)

-- An acknowledgement of a kept number, or of one above it, leaves fewer that are not.
abbrev pub AcknowledgingFalls : Type 0
AcknowledgingFalls =
    (row : Row) (k : Kept) (number : ℕ) → In k row.kept → row.acked < k.number → k.number ≤ number
    → unacknowledged (acknowledged number row) < unacknowledged row
