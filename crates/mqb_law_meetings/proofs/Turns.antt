-- What two ends of a connection are, packet by packet, and what a packet leaves of the end that hears it.
use Rattle.std.proofs.Common.{◌≡◌, ◌≤◌, ◌⊎◌, ◌+◌, ◌++◌, ℕ, true, false, nat_lt, List, [], ◌∷◌, Some}
use Rattle.std.specs.Option.{option_map_or}
use Rattle.std.specs.Prelude.{All, IsNone, Option, filter, if◌then◌else◌, length, map, nat_le, replicate, slice_get, slice_set}
use Rattle.mqb_base.specs.Same.{same_guid}
use Rattle.mqb_base.specs.declared.ids.Identity.{Identity}
use Rattle.mqb_base.specs.declared.message.Message.{Message}
use Rattle.mqb_fate.specs.Asking.{is_ordinary}
use Rattle.mqb_law_progress.specs.Steps.{AreInStep}
use Rattle.mqb_model.specs.Lists.{first_where}
use Rattle.mqb_model.specs.managers.Manager.{Manager, Up}
use Rattle.mqb_model.specs.managers.Readers.{awaits}
use Rattle.mqb_model.specs.managers.Valid.{IsUnsent, IsValidManager}
use Rattle.mqb_model.specs.state.Resolving.{peer_known}
use Rattle.mqb_model.specs.state.Rows.{in_row}
use Rattle.mqb_model.specs.state.State.{State}
use Rattle.mqb_orders.specs.Judging.{decided}
use Rattle.mqb_orders.specs.Rows.{Row}
use Rattle.mqb_orders.specs.declared.kept.Kept.{Kept}
use Rattle.mqb_orders.specs.declared.rows.InRow.{InRow}
use Rattle.mqb_plain.specs.Lists.{messages_of}
use Rattle.mqb_plain.specs.Plain.{PlainLists}
use Rattle.mqb_plain.specs.declared.outgoing.Outgoing.{Outgoing}
use Rattle.mqb_session.specs.State as one_end
use Rattle.mqb_session.specs.declared.phase.Phase.TheVariants.{Ready}
use Rattle.mqb_law_meetings.specs.Work.{state_work}

-- The measure: what is not acknowledged, less a credit for a number that was decided and waits for its acknowledgement.

-- the first number of a row that is not acknowledged
abbrev pub first_unacked : Row → Option Kept
first_unacked row = first_where (λ k. nat_lt row.acked k.number) row.kept

-- two, where its receiver decided it
abbrev pub row_credit : State → Row → ℕ
row_credit t row = option_map_or (λ k. if nat_le k.number (decided (in_row t k.message) row.sequence) then 2 else 0) (first_unacked row) 0

-- of the first row that waits for the peer at an index
abbrev pub credit : State → State → ℕ → ℕ
credit s t k = option_map_or (row_credit t) (first_where (awaits k) s.outs) 0

-- how many plain messages wait for a peer of which notices may come
abbrev pub ordinaries : State → ℕ → ℕ
ordinaries s k = option_map_or (λ (p : PlainLists). length (filter is_ordinary (messages_of p.recoverable))) (slice_get s.plain k) 0

abbrev pub IsWithoutExpress : State → Type 0
IsWithoutExpress s = All (λ (p : PlainLists). p.express ≡ []) s.plain

-- One end.

-- a manager is up and ready for another one, which is its peer at an index
pub record Hears (m : Manager) (x : one_end.State) (k : ℕ) (peer : Identity) : Type 0 where
  pub up : m.condition ≡ Up
  pub valid : IsValidManager m
  pub linked : m.rest.session ≡ Some x
  pub ready : x.phase ≡ Ready
  pub who : x.peer ≡ Some peer.guid
  pub knows : peer_known m.state peer.guid ≡ Some k
  pub there : slice_get m.state.peers k ≡ Some peer
  pub express : IsWithoutExpress m.state

-- a plain message that was sent last
abbrev pub sent_last : one_end.State → Message → Outgoing
sent_last x q = record { message = q; mark = Some x.recoverable_sent }

-- of the plain messages for its peer it sent these, last of all, and none other that waits
pub record Pends (m : Manager) (x : one_end.State) (k : ℕ) (promised : List Message) : Type 0 where
  pub lists : PlainLists
  pub there : slice_get m.state.plain k ≡ Some lists
  pub rest : List Outgoing
  pub are : lists.recoverable ≡ map (sent_last x) promised ++ rest
  pub unsent : All (λ (o : Outgoing). IsNone o.mark) rest
  pub single : length promised ≤ 1

-- rows of which more may be acknowledged now
abbrev pub AreRaised : List Row → List Row → Type 0
AreRaised xs ys = (i : ℕ) (row : Row) → slice_get ys i ≡ Some row
    → (before : Row) × (slice_get xs i ≡ Some before) × (before.peer ≡ row.peer) × (before.sequence ≡ row.sequence) × (before.acked ≤ row.acked)

-- What a packet leaves of the end that hears it: what the other end had promised is gone, and so much came beside.
pub record Heard (m n : Manager) (k : ℕ) (session : one_end.State) (lowers raises : ℕ) : Type 0 where
  pub up : n.condition ≡ Up
  pub linked : n.rest.session ≡ Some session
  pub identity : n.state.identity ≡ m.state.identity
  pub peers : n.state.peers ≡ m.state.peers
  pub express : IsWithoutExpress n.state
  pub unsent : All IsUnsent n.state.plain
  pub ordinary : ordinaries n.state k ≤ ordinaries m.state k
  pub cursors : n.rest.cursors ≡ m.rest.cursors
  pub raised : AreRaised m.state.outs n.state.outs
  pub count : length n.state.outs ≡ length m.state.outs
  pub work : (s : State) → state_work n.state + credit m.state s k + lowers ≤ state_work m.state + credit n.state s k + raises

-- What is under way.

-- nothing, or nothing of which anything is promised; a plain message; or a number of a row, which an incoming row of the other end owes
pub data Way : Type 0 where
  Clear : Way
  Carries : Message → Way
  Brings : (row : ℕ) → Kept → (owing : ℕ) → Way

-- by how much the work falls once the other end acknowledges it
abbrev pub promise : Way → ℕ
promise Clear = 0
promise (Carries q) = if is_ordinary q then 2 else 1
promise (Brings i n j) = 1

-- the plain messages among it
abbrev pub promised : Way → List Message
promised (Carries q) = q ∷ []
promised _ = []

-- nothing of a row was sent but what is acknowledged
abbrev pub IsSettled : ℕ → List Row → List ℕ → Type 0
IsSettled k rows cursors = (i : ℕ) (row : Row) (c : ℕ) → slice_get rows i ≡ Some row → slice_get cursors i ≡ Some c → row.peer ≡ k → c ≤ row.acked

-- but for one row, of which this number was
abbrev pub IsSettledBut : ℕ → ℕ → ℕ → List Row → List ℕ → Type 0
IsSettledBut at number k rows cursors = (i : ℕ) (row : Row) (c : ℕ) → slice_get rows i ≡ Some row → slice_get cursors i ≡ Some c → row.peer ≡ k
    → (c ≤ row.acked) ⊎ ((i ≡ at) × (c ≤ number))

-- no incoming row owes anything
abbrev pub OwesNone : Manager → Type 0
OwesNone m = m.rest.owes ≡ replicate (length m.state.ins) false

-- one does
abbrev pub OwesAt : Manager → ℕ → Type 0
OwesAt m j = m.rest.owes ≡ slice_set (replicate (length m.state.ins) false) j true

-- a number of a row of y is under way to x, which decided it, and owes its acknowledgement
pub record IsBrought (x y : Manager) (l : ℕ) (i : ℕ) (k : Kept) (j : ℕ) : Type 0 where
  pub row : Row
  pub there : slice_get y.state.outs i ≡ Some row
  pub peer : row.peer ≡ l
  pub first : first_unacked row ≡ Some k
  pub settled : IsSettledBut i k.number l y.state.outs y.rest.cursors
  pub owing : InRow
  pub owing_there : slice_get x.state.ins j ≡ Some owing
  pub found : in_row x.state k.message ≡ Some owing
  pub source : same_guid owing.source y.state.identity.guid ≡ true
  pub sequence : owing.sequence ≡ row.sequence
  pub reached : k.number ≤ owing.last
  pub owes : OwesAt x j

-- what is under way from y to x, which has this session
abbrev pub IsUnder : Way → Manager → Manager → one_end.State → ℕ → Type 0
IsUnder Clear x y a l = All IsUnsent y.state.plain × IsSettled l y.state.outs y.rest.cursors × OwesNone x
IsUnder (Carries q) x y a l = (a.owes ≡ true) × IsSettled l y.state.outs y.rest.cursors × OwesNone x
IsUnder (Brings i n j) x y a l = All IsUnsent y.state.plain × IsBrought x y l i n j

-- It is the turn of x to send: both ends are in step, and it may. Each has sent so many packets at most.
pub record Turn (x y : Manager) (a b : one_end.State) (k l : ℕ) (own other : Identity) (way : Way) (n : ℕ) : Type 0 where
  pub own_is : x.state.identity ≡ own
  pub other_is : y.state.identity ≡ other
  pub one : Hears x a k other
  pub two : Hears y b l own
  pub window : a.peer_window ≡ 1
  pub other_window : b.peer_window ≡ 1
  pub step : AreInStep a b
  pub free : a.acked ≡ a.sent
  pub freed : a.recoverable_acked ≡ a.recoverable_sent
  pub few : a.sent ≤ n
  pub other_few : b.sent ≤ n
  pub told : (a.owes ≡ true) ⊎ ((b.acked ≡ b.sent) × (b.recoverable_acked ≡ b.recoverable_sent))
  pub unsent : All IsUnsent x.state.plain
  pub settled : IsSettled k x.state.outs x.rest.cursors
  pub still : OwesNone y
  pub pends : Pends y b l (promised way)
  pub under : IsUnder way x y a l
