-- What is wanted of each packet where it is heard.
use Rattle.std.proofs.Common.{◌≡◌, ◌≤◌, ◌+◌, ℕ, true, false, List, [], Some}
use Rattle.std.specs.Prelude.{if◌then◌else◌, map, slice_get, sum}
use Rattle.mqb_base.specs.Same.{same_guid}
use Rattle.mqb_base.specs.declared.ids.Identity.{Identity}
use Rattle.mqb_base.specs.declared.message.Message.{Message}
use Rattle.mqb_fate.specs.Asking.{is_ordinary}
use Rattle.mqb_law_progress.specs.Progress.{HasDecided}
use Rattle.mqb_law_progress.specs.Steps.{AreInStep}
use Rattle.mqb_model.specs.Lists.{first_where}
use Rattle.mqb_model.specs.calls.hear.Hear.{hear}
use Rattle.mqb_model.specs.calls.hear.Session.{HeardOutcome}
use Rattle.mqb_model.specs.calls.pump.Candidates.{of_row}
use Rattle.mqb_model.specs.calls.pump.Pump.{packet_for}
use Rattle.mqb_model.specs.managers.Manager.{Manager}
use Rattle.mqb_model.specs.managers.Outcomes.{succeeded}
use Rattle.mqb_model.specs.managers.Readers.{awaits}
use Rattle.mqb_model.specs.records.Packets.{is_recoverable}
use Rattle.mqb_model.specs.state.Rows.{in_row}
use Rattle.mqb_model.specs.state.State.{State}
use Rattle.mqb_model.specs.state.Valid.{IsInOrder}
use Rattle.mqb_network.specs.Delivering.{closes}
use Rattle.mqb_orders.specs.Rows.{Row}
use Rattle.mqb_orders.specs.declared.kept.Kept.{Kept}
use Rattle.mqb_orders.specs.declared.rows.InRow.{InRow}
use Rattle.mqb_packet.specs.declared.packet.Packet.TheVariants as packet
use Rattle.mqb_session.specs.Sending.{noted_stored, stamped}
use Rattle.mqb_session.specs.State as one_end
use Rattle.mqb_session.specs.declared.heads.Kind.TheVariants as kind
use Rattle.mqb_law_meetings.specs.Work.{work_for}
use Rattle.mqb_law_meetings.proofs.Leaving.{order_of, plain_of}
use Rattle.mqb_law_meetings.specs.Recovery.{AreStamped}
use Rattle.mqb_law_meetings.proofs.Turns.{Heard, Hears, IsBrought, OwesAt, OwesNone, Pends, credit, first_unacked}

-- what two states agree on of the rows that lead from the first to the second, its peer at an index: in each run they do
pub record Accord (s t : State) (k : ℕ) : Type 0 where
  -- what is acknowledged was decided, and nothing of a later sequence
  pub decided : (i : ℕ) (row : Row) (n : Kept) → slice_get s.outs i ≡ Some row → row.peer ≡ k → first_unacked row ≡ Some n → HasDecided row (in_row t n.message)
  -- messages of streams are ordinary
  pub ordinary : (i : ℕ) (row : Row) (n : Kept) → slice_get s.outs i ≡ Some row → row.peer ≡ k → first_unacked row ≡ Some n → is_ordinary n.message ≡ true
  -- what was decided was offered
  pub offered : (i : ℕ) (row : Row) (n : Kept) (r : InRow) → slice_get s.outs i ≡ Some row → row.peer ≡ k → first_unacked row ≡ Some n
      → in_row t n.message ≡ Some r → r.sequence ≡ row.sequence → r.last ≤ row.offered

-- the session behind a user packet that is in order, and behind an acknowledgement
abbrev pub after_user : one_end.State → one_end.State
after_user b = record b { acked = b.sent; recoverable_acked = b.recoverable_sent; got = b.got + 1; owes = true }

abbrev pub after_ack : one_end.State → one_end.State
after_ack b = record b { acked = b.sent; recoverable_acked = b.recoverable_sent }

-- a packet of no stream is heard
pub record Quiet (y : Manager) (o : HeardOutcome) (l : ℕ) (session : one_end.State) (lowers raises : ℕ) : Type 0 where
  pub stands : closes o.answer ≡ false
  pub heard : Heard y (succeeded y o) l session lowers raises
  pub ins : (succeeded y o).state.ins ≡ y.state.ins
  pub owes : (succeeded y o).rest.owes ≡ y.rest.owes

-- a number of a row is
pub record Brought (y : Manager) (o : HeardOutcome) (l : ℕ) (session : one_end.State) (peer : Identity) (s : State) (k : ℕ) (row : Row) (n : Kept) (lowers : ℕ) : Type 0 where
  pub stands : closes o.answer ≡ false
  pub raises : ℕ
  pub heard : Heard y (succeeded y o) l session lowers raises
  pub credited : raises + credit s y.state k ≤ credit s (succeeded y o).state k
  pub place : ℕ
  pub owing : InRow
  pub there : slice_get (succeeded y o).state.ins place ≡ Some owing
  pub found : in_row (succeeded y o).state n.message ≡ Some owing
  pub source : same_guid owing.source peer.guid ≡ true
  pub sequence : owing.sequence ≡ row.sequence
  pub reached : n.number ≤ owing.last
  pub owes : OwesAt (succeeded y o) place

abbrev pub HearsAck : Type 0
HearsAck = (y : Manager) (a b : one_end.State) (l : ℕ) (peer : Identity) (ps : List Message) (now : ℕ) → Hears y b l peer → Pends y b l ps → AreInStep a b
    → Quiet y (hear y (packet.Ack (stamped kind.Ack a).0) now) l (after_ack b) (sum (map work_for ps)) 0

abbrev pub HearsPlain : Type 0
HearsPlain = (y : Manager) (a b : one_end.State) (l : ℕ) (peer : Identity) (ps : List Message) (now : ℕ) → Hears y b l peer → Pends y b l ps → AreInStep a b
    → (q : Message) → same_guid q.id.qm peer.guid ≡ true → is_recoverable q.delivery ≡ true
    → Quiet y (hear y (packet_for y.state.identity.guid now (plain_of q, (stamped kind.Recoverable a).0)) now) l (noted_stored (after_user b)) (sum (map work_for ps)) (if is_ordinary q then 1 else 0)

abbrev pub HearsRow : Type 0
HearsRow = (y : Manager) (a b : one_end.State) (l : ℕ) (peer : Identity) (ps : List Message) (now : ℕ) → Hears y b l peer → Pends y b l ps → AreInStep a b → OwesNone y
    → (s : State) (k i peers : ℕ) (row : Row) (n : Kept) → IsInOrder peers row → first_where (awaits k) s.outs ≡ Some row → first_unacked row ≡ Some n → same_guid n.message.id.qm peer.guid ≡ true
    → is_ordinary n.message ≡ true → HasDecided row (in_row y.state n.message)
    → Brought y (hear y (packet_for y.state.identity.guid now (of_row i row n, (stamped kind.Plain a).0)) now) l (after_user b) peer s k row n (sum (map work_for ps))

-- an order acknowledgement is heard, of the row at an index
pub record Acknowledged (y : Manager) (o : HeardOutcome) (l : ℕ) (session : one_end.State) (i number : ℕ) : Type 0 where
  pub quiet : Quiet y o l session 1 0
  pub row : Row
  pub there : slice_get (succeeded y o).state.outs i ≡ Some row
  pub reached : number ≤ row.acked

abbrev pub HearsOrder : Type 0
HearsOrder = (x y : Manager) (a b : one_end.State) (l : ℕ) (peer : Identity) (now : ℕ) → Hears y b l peer → Pends y b l [] → AreInStep a b
    → x.state.identity ≡ peer → AreStamped y.state → Accord y.state x.state l
    → (i j : ℕ) (n : Kept) (h : IsBrought x y l i n j)
    → Acknowledged y (hear y (packet_for y.state.identity.guid now (order_of x.state y.state.identity now j h.owing, (stamped kind.Plain a).0)) now) l (after_user b) i n.number

-- all of it
pub record HearsAll : Type 0 where
  pub ack : HearsAck
  pub plain : HearsPlain
  pub row : HearsRow
  pub order : HearsOrder
