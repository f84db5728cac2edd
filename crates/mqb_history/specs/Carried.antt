-- What packets carry, and what is decided, was committed.
use Rattle.std.specs.Prelude.{◌++◌, ◌<◌, ◌==◌, ◌∷◌, ◌≡◌, List, Some, ℕ}
use Rattle.mqb_base.specs.declared.heads.TxHead.{TxHead}
use Rattle.mqb_exactly_once.specs.Words.{In, carried, due, position_of}
use Rattle.mqb_exactly_once.specs.World.{Commitment}
use Rattle.mqb_model.specs.records.Record as entry
use Rattle.mqb_network.specs.Courses.{Course, Written}
use Rattle.mqb_network.specs.Laws.{lines_written}
use Rattle.mqb_network.specs.Network.{Note, manager_at}
use Rattle.mqb_packet.specs.declared.packet.Packet.TheVariants as packet
use Rattle.mqb_packet.specs.declared.packet.UserPacket.{UserPacket}
use Rattle.mqb_queue.specs.Places.{numbered}
use Rattle.mqb_history.specs.Committed.{commitments}
use Rattle.mqb_history.specs.Decided.{written_of}
use Rattle.mqb_history.specs.Expired.{expiries_told}
use Rattle.mqb_history.specs.Offered.{IsOffered}

-- A manager committed what a packet carries that it sends at a moment: at the place that its header
-- names, and the same in every field but the time to reach its queue, which is what is left of it
-- then. It offered this place before, and whatever stands between it and the previous one that the
-- header names expired.
pub record IsCommittedBy (i : ℕ) (written : List Written) (moment : ℕ) (p : UserPacket)
    (tx : TxHead) : Type 0 where
  pub commitment : Commitment
  pub there : In commitment (commitments (written_of i written))
  pub position : commitment.position ≡ position_of tx
  pub message : p.message ≡ carried commitment.message moment
  -- no time is left where it is due
  pub late : (p.remaining == 0) ≡ due commitment.message moment
  pub offered : IsOffered (written_of i written) (position_of tx)
  pub between : (n : ℕ) → tx.previous < n → n < tx.number
      → In (record { sequence = tx.sequence; number = n })
      (expiries_told (lines_written (written_of i written)))

-- What a packet of a stream carries was committed by its sender.
abbrev pub AreCarriedTruly : Course → Type 0
AreCarriedTruly c =
    (k : ℕ) (note : Note) (p : UserPacket) (tx : TxHead) → numbered c.network.notes k ≡ Some note
    → numbered c.sent k ≡ Some (packet.User p) → p.tx ≡ Some tx
    → IsCommittedBy note.sender c.written note.moment p tx

-- a message was committed, by these records, by the manager whose identifier it bears
pub record ComesFromItsSource (c : Course) (before : List Written) (p : UserPacket)
    (tx : TxHead) : Type 0 where
  pub source : ℕ
  pub own : (manager_at c.network source).state.identity.guid ≡ p.message.id.qm
  pub moment : ℕ
  pub committed : IsCommittedBy source before moment p tx

-- What is decided was committed by its source before.
abbrev pub AreDecidedTruly : Course → Type 0
AreDecidedTruly c = (before behind : List Written) (w : Written) (now : ℕ) (numbers : List ℕ)
    (p : UserPacket) (tx : TxHead)
    → c.written ≡ before ++ w ∷ behind → w.entry ≡ entry.Arrived now numbers (entry.Decided p)
    → p.tx ≡ Some tx
    → ComesFromItsSource c before p tx
