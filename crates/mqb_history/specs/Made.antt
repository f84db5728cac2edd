-- What is known of a record that a call made, as long as its manager's rows and numbers stay.
use Rattle.std.specs.List.{AllByRecursion, enumerate_from}
use Rattle.std.specs.Prelude.{[], ◌<◌, ◌+◌, ◌∷◌, ◌≡◌, ◌≤◌, List, None, Option, Some, filter_map}
use Rattle.std.specs.Prelude.{length, slice_get, true, ℕ}
use Rattle.mqb_base.specs.declared.heads.TxHead.{TxHead}
use Rattle.mqb_base.specs.declared.ids.Guid.{Guid}
use Rattle.mqb_base.specs.declared.message.Message.{Message}
use Rattle.mqb_entries.specs.declared.members.Mark.{Mark}
use Rattle.mqb_exactly_once.specs.Words.{In}
use Rattle.mqb_fate.specs.Asking.{is_ordinary}
use Rattle.mqb_model.specs.Lists.{first_where}
use Rattle.mqb_model.specs.calls.pump.Candidates.{Candidate, tx_of}
use Rattle.mqb_model.specs.calls.pump.Pump.{mark_for}
use Rattle.mqb_model.specs.declared.limits.TheConstants.{MAX_NUMBER}
use Rattle.mqb_model.specs.managers.Beside.{OfRow, Origin}
use Rattle.mqb_model.specs.records.Commit.{sends_of}
use Rattle.mqb_model.specs.records.Record.{Record}
use Rattle.mqb_model.specs.records.Record as entry
use Rattle.mqb_model.specs.state.Rows.{is_row_of}
use Rattle.mqb_model.specs.state.State.{State}
use Rattle.mqb_orders.specs.Judging.{verdict_of}
use Rattle.mqb_orders.specs.Rows.{Row, is_open}
use Rattle.mqb_orders.specs.declared.judging.Verdict.TheVariants.{Next}
use Rattle.mqb_orders.specs.declared.kept.Kept.{Kept}
use Rattle.mqb_orders.specs.declared.rows.InRow.{InRow}
use Rattle.mqb_packet.specs.declared.packet.Packet.{Packet}
use Rattle.mqb_packet.specs.declared.packet.Packet.TheVariants as packet
use Rattle.mqb_packet.specs.declared.packet.UserPacket.{UserPacket}

-- messages bear a manager's numbers, one after another
abbrev pub AreNumbered : Guid → ℕ → List Message → Type 0
AreNumbered own number [] = Unit {0}
AreNumbered own number (m ∷ ms) =
    (m.id ≡ record { qm = own; number = number }) × AreNumbered own (number + 1) ms

-- the incoming row to which a message belongs
abbrev pub row_heard : List InRow → Message → Option InRow
row_heard ins m = first_where (is_row_of m.id.qm m.destination) ins

-- a message is the next one of its stream
pub record IsNext (ins : List InRow) (p : UserPacket) : Type 0 where
  pub head : TxHead
  pub there : p.tx ≡ Some head
  pub next : verdict_of (row_heard ins p.message) head ≡ Next

-- a message goes from a row: it is kept there above the acknowledged number, under the header that
-- names what stands before it, and the row is open
pub record IsOfOpenRow (outs : List Row) (index number : ℕ) (c : Candidate) : Type 0 where
  pub row : Row
  pub there : slice_get outs index ≡ Some row
  pub kept : Kept
  pub inside : In kept row.kept
  pub numbered : number ≡ kept.number
  pub unacknowledged : row.acked < kept.number
  pub message : c.message ≡ kept.message
  pub head : c.tx ≡ Some (tx_of row kept)
  pub open_ : is_open outs index ≡ true

-- what could go is of an open row, or of no stream
abbrev pub IsOfRows : List Row → Candidate → Origin → Type 0
IsOfRows outs c (OfRow index number) = IsOfOpenRow outs index number c
IsOfRows outs c _ = c.tx ≡ None

-- marks are those of candidates that a pump sends from these rows
abbrev pub AreSent : List Row → List Mark → Type 0
AreSent outs marks =
    (cs : List Candidate) × (marks ≡ filter_map (mark_for cs) (enumerate_from 0 outs))
    × AllByRecursion (λ c. IsOfRows outs c c.origin) cs

-- messages take the next numbers, of which so many are left
pub record TakeNumbers (own : Guid) (next : ℕ) (ms : List Message) : Type 0 where
  pub numbered : AreNumbered own next ms
  pub left : next + length ms ≤ MAX_NUMBER + 1

-- a plain message takes the next number, and is ordinary
pub record IsPlainNext (own : Guid) (next : ℕ) (m : Message) : Type 0 where
  pub id : m.id ≡ record { qm = own; number = next }
  pub left : next ≤ MAX_NUMBER
  pub ordinary : is_ordinary m ≡ true

-- A record adds no peer, the messages that it sends bear the next numbers, what is offered is sent,
-- and what is decided is next.
abbrev pub IsMadeBy : Guid → List Row → List InRow → ℕ → Record → Type 0
IsMadeBy own outs ins next (entry.Peer peer) = ⊥
IsMadeBy own outs ins next (entry.Commit now ops) = TakeNumbers own next (sends_of ops)
IsMadeBy own outs ins next (entry.Plain now p) = IsPlainNext own next p.message
IsMadeBy own outs ins next (entry.Offered marks) = AreSent outs marks
IsMadeBy own outs ins next (entry.Arrived now numbers (entry.Decided p)) = IsNext ins p
IsMadeBy own outs ins next _ = Unit {0}

-- it was made in this state
abbrev pub IsMade : State → Record → Type 0
IsMade s r = IsMadeBy s.identity.guid s.outs s.ins s.next_number r

-- What a record that a call made decides is the packet that the call heard.
abbrev pub IsFrom : Option Packet → Record → Type 0
IsFrom heard (entry.Arrived now numbers (entry.Decided p)) = heard ≡ Some (packet.User p)
IsFrom heard _ = Unit {0}
