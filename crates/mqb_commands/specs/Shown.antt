-- What is shown of an input, and how that ends.
use Rattle.std.specs.Prelude.{[], ◌+◌, ◌++◌, ◌<◌, ◌≡◌, ◌≤◌, ◌⊎◌, IfSome, List, Option, length, ℕ}
use Rattle.mqb_outside.specs.Told.{Gave, Took}
use Rattle.mqb_serving.specs.declared.faults.PeerFault.TheVariants as peer
use Rattle.mqb_serving.specs.declared.limits.TheConstants.{MAX_READ}
use Rattle.mqb_stream.specs.Cutting.{joined}
use Rattle.mqb_commands.specs.Outputs.{TookFront}
use Rattle.mqb_commands.specs.Texts.{fault_text}
use Rattle.mqb_commands.specs.declared.status.Status.{Status}
use Rattle.mqb_commands.specs.declared.status.Status.TheVariants as status
use Rattle.mqb_commands.specs.Cuts.{BeginsBad, IsCut, IsUnfinished}
use Rattle.mqb_commands.specs.Lines.{lines_from}

-- where it is told what is left of the input, nothing is
abbrev pub IsAtEnd : Option (List ℕ) → Type 0
IsAtEnd left = IfSome left (λ rest. rest ≡ [])

-- Behind packets that are `place` bytes this followed, and the limit was not reached.
abbrev pub IsWithin : (place : ℕ) (rest : List ℕ) → Type 0
IsWithin place rest = place + length rest < MAX_READ

-- Why no more is shown behind packets that are `place` bytes: what follows them, and what is left
-- of the input. Done is where nothing follows.
abbrev pub EndsBehind : (place : ℕ) (rest : List ℕ) → Option (List ℕ) → Status → Type 0
EndsBehind place rest left status.Done = (rest ≡ []) × IsAtEnd left × IsWithin place rest
EndsBehind place rest left (status.Peer peer.PeerClosed) =
    (0 < length rest) × IsUnfinished place rest × IsAtEnd left × IsWithin place rest
EndsBehind place rest left (status.Peer (peer.Bad at why)) = (at ≡ place) × BeginsBad place rest why
EndsBehind place rest left (status.Peer peer.TooMuch) =
    (place + length rest ≡ MAX_READ) × IsUnfinished place rest
EndsBehind place rest left status.ReadFault = IsUnfinished place rest × IsWithin place rest
EndsBehind place rest left _ = ⊥

-- What was written of the lines of packets and a fault line.
abbrev pub Writes : (lines : List ℕ) → (meant : Status → Type 0) → (before after : Option (List ℕ))
    → Status → Type 0
Writes lines meant before after status.Memory = TookFront before after lines
Writes lines meant before after status.WriteFault = TookFront before after lines
    ⊎ ((fault : Status) × meant fault × TookFront before after (lines ++ fault_text fault))
Writes lines meant before after r = meant r × Took before after (lines ++ fault_text r)

-- The packets at the front of what an input gave were shown, from what it held and the
-- output had taken before.
pub record Shows (held left before after : Option (List ℕ)) (r : Status) : Type 0 where
  pub bytes : List ℕ
  pub most : length bytes ≤ MAX_READ
  pub packets : List (List ℕ)
  pub rest : List ℕ
  pub gave : Gave held left bytes
  pub cut : IsCut bytes packets rest
  pub wrote :
      Writes (lines_from 0 packets) (EndsBehind (length (joined packets)) rest left) before after r
