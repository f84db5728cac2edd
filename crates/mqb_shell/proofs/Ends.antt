-- How a shell ends.
use Rattle.std.proofs.Common.{◌≡◌, ◌⊎◌, ◌∙◌, [], List, None, Option, Some, ap, append-nil, inl, inr, refl, subst, sym, ℕ}
use Rattle.mqb_commands.specs.Outputs.{IsFaultLine, IsPlain, ReadFaultHasCause, Says, TookFront}
use Rattle.mqb_commands.specs.Texts.{fault_text}
use Rattle.mqb_commands.specs.declared.status.Status.{Status}
use Rattle.mqb_commands.specs.declared.status.Status.TheVariants as status
use Rattle.mqb_outside.specs.Told.{Took}
use Rattle.mqb_serving.specs.declared.faults.PeerFault.TheVariants as peer
use Rattle.mqb_shell.specs.Answered.{IsUnasked, StopsAt}
use Rattle.mqb_shell.specs.Ends.{IsReadingEnd, IsStop}
use Rattle.mqb_shell.specs.Lines.{IsOneLine}
use Rattle.mqb_shell.specs.Shells.{EndsBehind, EndsReading, IsShellEnd}
use Rattle.mqb_shell.specs.Standing.{Standing}

-- nothing was taken
pub took_nothing : (before after : Option (List ℕ)) → Took before after [] → after ≡ before
took_nothing None after took = took
took_nothing (Some text) after took = took ∙ ap (λ (t : List ℕ). Some t) (append-nil text)

module _ (steady : Option ℕ) (read rest : List ℕ) (left : Option (List ℕ)) (b a : Standing) (before after : Option (List ℕ)) where
  -- with a line, or for want of memory before one was whole
  pub stopped : (r : Status) → IsStop r → StopsAt rest steady b a before after r ⊎ IsUnasked b a before after r → EndsBehind steady read rest left b a before after r
  stopped status.DiskFault stop (inl at) = inl at
  stopped status.DiskFault stop (inr none) = inr (inl none)
  stopped status.WriteFault stop (inl at) = inl at
  stopped status.WriteFault stop (inr none) = inr (inl none)
  stopped status.Memory stop (inl at) = inl at
  stopped status.Memory stop (inr none) = inr (inl none)
  stopped _ stop at = absurd stop

-- It says why it reads no more.

no_fault : status.WriteFault ≡ status.Memory → ⊥
no_fault e = cc

module _ (steady : Option ℕ) (read rest : List ℕ) (left : Option (List ℕ)) (b : Standing) (before after : Option (List ℕ)) where
  told_as : (why : Status) → IsReadingEnd why → EndsReading read rest left why → IsOneLine rest → Took before after (fault_text why)
      → EndsBehind steady read rest left b b before after why
  told_as status.ReadFault is ends one took = inr (inr (one, (ends, took), refl))
  told_as (status.Peer peer.PeerClosed) is ends one took = inr (inr (one, (ends, took), refl))
  told_as (status.Peer peer.TooMuch) is ends one took = inr (inr (one, (ends, took), refl))
  told_as _ is ends one took = absurd is

  pub says_why : (why r : Status) → IsReadingEnd why → EndsReading read rest left why → IsOneLine rest → Says (IsFaultLine why) before after r
      → EndsBehind steady read rest left b b before after r
  says_why why r is ends one said = elim said.told [
    | inl told ↦ elim said.means [
      | inl line ↦ subst (EndsBehind steady read rest left b b before after) (sym (told.0 ∙ line.0)) (told_as why is ends one (subst (Took before after) line.1 told.1))
      | inr none ↦ subst (EndsBehind steady read rest left b b before after) (sym (told.0 ∙ none.0))
          (inr (inl (refl, refl, took_nothing before after (subst (Took before after) none.1 told.1))))
    ]
    | inr cut ↦ elim said.means [
      | inl line ↦ subst (EndsBehind steady read rest left b b before after) (sym cut.0)
          (inr (inr (one, (why, ends, subst (TookFront before after) line.1 cut.1), refl)))
      | inr none ↦ absurd (no_fault (sym cut.0 ∙ said.some none.1 ∙ none.0))
    ]
  ]

-- Which ends these are.

pub stop_is_end : (r : Status) → IsStop r → IsShellEnd r
stop_is_end status.DiskFault stop = tt
stop_is_end status.WriteFault stop = tt
stop_is_end status.Memory stop = tt
stop_is_end _ stop = absurd stop

pub said_is : (P : Status → Type 0) (why r : Status) {before after : Option (List ℕ)} → P why → P status.Memory → P status.WriteFault → Says (IsFaultLine why) before after r → P r
said_is P why r ended none cut said = elim said.told [
  | inl told ↦ elim said.means [
    | inl line ↦ subst P (sym (told.0 ∙ line.0)) ended
    | inr out ↦ subst P (sym (told.0 ∙ out.0)) none
  ]
  | inr told ↦ subst P (sym told.0) cut
]

-- A stop reads nothing.
pub stop_reads : (before after : ℕ) (r : Status) → IsStop r → ReadFaultHasCause before after r
stop_reads before after status.ReadFault stop = absurd stop
stop_reads before after _ stop = tt

-- A reason to read no more is no fault of the output.
pub reason_plain : (why : Status) {text : List ℕ} {r : Status} → IsReadingEnd why → IsFaultLine why text r → IsPlain r
reason_plain status.ReadFault is (inl said) = subst IsPlain (sym said.0) tt
reason_plain (status.Peer peer.PeerClosed) is (inl said) = subst IsPlain (sym said.0) tt
reason_plain (status.Peer peer.TooMuch) is (inl said) = subst IsPlain (sym said.0) tt
reason_plain _ is (inl said) = absurd is
reason_plain why is (inr none) = subst IsPlain (sym none.0) tt
