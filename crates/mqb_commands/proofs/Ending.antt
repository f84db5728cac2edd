-- The end of showing an input.
use Rattle.std.proofs.Common.{◌≡◌, ℕ, List, [], ◌++◌, Option, Result, Ok, Err, refl, sym, subst, ◌∙◌, inl, inr, append-nil}
use Rattle.mqb_outside.specs.Faults.{Rose}
use Rattle.mqb_outside.specs.Told.{Took}
use Rattle.mqb_stream.specs.Cutting.{joined}
use Rattle.std.specs.Prelude.{length}
use Rattle.mqb_commands.specs.lemmas.Taking.{front_then, took_then}
use Rattle.mqb_commands.specs.Outputs.{IsFaultLine, Says, TookFront, WriteFaultHasCause}
use Rattle.mqb_commands.specs.Texts.{fault_text}
use Rattle.mqb_commands.specs.declared.status.Status.{Status}
use Rattle.mqb_commands.specs.declared.status.Status.TheVariants as status
use Rattle.mqb_commands.specs.declared.shown_faults.ShowFault.{ShowFault}
use Rattle.mqb_commands.specs.declared.shown_faults.ShowFault.TheVariants as fault
use Rattle.mqb_commands.specs.Lines.{lines_from}
use Rattle.mqb_commands.specs.Shown.{EndsBehind, Shows, Writes}
use Rattle.mqb_commands.specs.Showing.{EndsWith, ShowCauses, ShowsAll, Stopped}

-- all was taken, which is a front
whole_front : (a b : Option (List ℕ)) (text : List ℕ) → Took a b text → TookFront a b text
whole_front a b text took = record { written = text; left = []; whole = append-nil text; took = took }

done_line : (lines : List ℕ) (a b : Option (List ℕ)) → Took a b lines → Took a b (lines ++ fault_text status.Done)
unfolding fault_text
done_line lines a b took = subst (Took a b) (sym (append-nil lines)) took

pub done_shows : (held left a b : Option (List ℕ)) → ShowsAll held left a b (Ok tt) → Shows held left a b status.Done
done_shows held left a b all = record {
  bytes = all.bytes;
  most = all.most;
  packets = all.packets;
  rest = all.rest;
  gave = all.gave;
  cut = all.cut;
  wrote = (all.ends.0, done_line (lines_from 0 all.packets) a b all.ends.1);
}

-- a fault line behind lines
by_line : (lines : List ℕ) (meant : Status → Type 0) (s : Status) (a b c : Option (List ℕ)) (r : Status) → meant s → Took a b lines
    → (Took a c (lines ++ fault_text s) → Writes lines meant a c s) → Says (IsFaultLine s) b c r → Writes lines meant a c r
by_line lines meant s a b c r is before whole said = elim said.told [
  | inl done ↦ elim said.means [
    | inl line ↦ subst (Writes lines meant a c) (sym (done.0 ∙ line.0)) (whole (took_then a b c lines (fault_text s) before (subst (Took b c) line.1 done.1)))
    | inr none ↦ subst (Writes lines meant a c) (sym (done.0 ∙ none.0)) (subst (TookFront a c) (append-nil lines)
        (whole_front a c (lines ++ []) (took_then a b c lines [] before (subst (Took b c) none.1 done.1))))
  ]
  | inr cut ↦ elim said.means [
    | inl line ↦ subst (Writes lines meant a c) (sym cut.0) (inr (s, is, front_then a b c lines (fault_text s) before (subst (TookFront b c) line.1 cut.1)))
    | inr none ↦ subst (Writes lines meant a c) (sym cut.0) (inl (subst (TookFront a c) (append-nil lines) (front_then a b c lines [] before (subst (TookFront b c) none.1 cut.1))))
  ]
]

by_stop : (place : ℕ) (rest lines : List ℕ) (left a b c : Option (List ℕ)) (why : ShowFault) (r : Status) → EndsWith place rest lines left a b (Err why) → Stopped why b c r
    → Writes lines (EndsBehind place rest left) a c r
by_stop place rest lines left a b c (fault.Peer why) r ends stopped =
    by_line lines (EndsBehind place rest left) (status.Peer why) a b c r ends.0 ends.1 (λ whole. (ends.0, whole)) stopped
by_stop place rest lines left a b c fault.ReadFault r ends stopped =
    by_line lines (EndsBehind place rest left) status.ReadFault a b c r ends.0 ends.1 (λ whole. (ends.0, whole)) stopped
by_stop place rest lines left a b c fault.WriteFault r ends stopped =
    subst (Writes lines (EndsBehind place rest left) a c) (sym stopped.0) (inl (subst (λ (o : Option (List ℕ)). TookFront a o lines) (sym stopped.1) ends))
by_stop place rest lines left a b c fault.Memory r ends stopped =
    subst (Writes lines (EndsBehind place rest left) a c) (sym stopped.0) (subst (λ (o : Option (List ℕ)). TookFront a o lines) (sym stopped.1) ends)

pub stop_shows : (held left a b c : Option (List ℕ)) (why : ShowFault) (r : Status) → ShowsAll held left a b (Err why) → Stopped why b c r → Shows held left a c r
stop_shows held left a b c why r all stopped = record {
  bytes = all.bytes;
  most = all.most;
  packets = all.packets;
  rest = all.rest;
  gave = all.gave;
  cut = all.cut;
  wrote = by_stop (length (joined all.packets)) all.rest (lines_from 0 all.packets) left a b c why r all.ends stopped;
}

-- where a fault of the output comes from
abbrev failed : ShowFault → Result (Unit {0}) ShowFault
failed why = Err why

inner : (why : ShowFault) → failed why ≡ failed fault.WriteFault → why ≡ fault.WriteFault
inner why e = cc

quiet_cause : (reads reads_now before mid after : ℕ) (why : ShowFault) (r : Status) → (why ≡ fault.WriteFault → ⊥) → ShowCauses reads reads_now before mid (Err why)
    → ((why ≡ fault.WriteFault → ⊥) → WriteFaultHasCause mid after r) → WriteFaultHasCause before after r
quiet_cause reads reads_now before mid after why r other causes cause =
    subst (λ (n : ℕ). WriteFaultHasCause n after r) (causes.quiet (λ e. other (inner why e))) (cause other)

pub fault_cause : (reads reads_now before mid after : ℕ) (b c : Option (List ℕ)) (why : ShowFault) (r : Status) → ShowCauses reads reads_now before mid (Err why)
    → ((why ≡ fault.WriteFault → ⊥) → WriteFaultHasCause mid after r) → (why ≡ fault.WriteFault → after ≡ mid) → Stopped why b c r → WriteFaultHasCause before after r
fault_cause reads reads_now before mid after b c fault.WriteFault r causes cause same stopped =
    subst (WriteFaultHasCause before after) (sym stopped.0) (subst (Rose before) (sym (same refl)) (causes.write refl))
fault_cause reads reads_now before mid after b c x r causes cause same stopped = quiet_cause reads reads_now before mid after x r (λ e. cc) causes cause
