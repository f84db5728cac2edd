-- What is told of a peer that is added.
use Rattle.std.proofs.Common.{refl}
use Rattle.std.specs.Prelude.{◌≡◌, Err, Ok, OnOk, Result, ℕ}
use Rattle.mqb_answers.proofs.Telling.{IsTelling}
use Rattle.mqb_answers.specs.Told.{peer_told}
use Rattle.mqb_answers.specs.declared.told.CallEnd.TheVariants.{Done}
use Rattle.mqb_answers.specs.declared.told.Told.{Told}
use Rattle.mqb_model.specs.declared.faults.AddPeerFault.{AddPeerFault}
use Rattle.mqb_model.specs.declared.faults.AddPeerFault.TheVariants as peer
use Rattle.mqb_replies.specs.declared.faults.AnswerFault.TheVariants as fault

pub peer_telling : (a : Result ℕ AddPeerFault) → IsTelling peer.Memory peer.DiskFault peer_told a
peer_telling a = record { wanting = refl; breaking = refl; wants = wants a; breaks = breaks a }
  where
    wants : (a : Result ℕ AddPeerFault) → peer_told a ≡ Err fault.Memory → a ≡ Err peer.Memory
    wants (Err peer.Memory) same = refl
    wants a same = let none : ⊥ = cc in absurd none

    breaks : (a : Result ℕ AddPeerFault) → peer_told a ≡ Err fault.DiskFault → a ≡ Err peer.DiskFault
    breaks (Err peer.DiskFault) same = refl
    breaks a same = let none : ⊥ = cc in absurd none

-- it is done where the manager has an answer
pub peer_done : (P : Type 0) (a : Result ℕ AddPeerFault) → OnOk a P → (t : Told) → peer_told a ≡ Ok t → t.end ≡ Done → P
peer_done P (Ok index) h t is done = h
peer_done P (Err peer.Down) h t is done = let none : ⊥ = cc in absurd none
peer_done P (Err why) h t is done = let none : ⊥ = cc in absurd none
