-- What a trial that was made has.
use Rattle.std.proofs.Common.{ap, ap₂, sym, subst, ◌∙◌, arith, length}
use Rattle.std.specs.Prelude.{◌≡◌, ◌≤◌, Err, List, None, Ok, Result, Some, map, option_map, true, ℕ}
use Rattle.std.specs.Result.{IsOkAnd}
use Rattle.mqb_base.specs.declared.draft.Op.{Op}
use Rattle.mqb_entries.specs.SpelledEntries.{Fits, spelled}
use Rattle.mqb_entries.specs.declared.entry.Entry.TheVariants as form
use Rattle.mqb_entries.specs.declared.members.OpView.{OpView}
use Rattle.mqb_packet.specs.Plain.{packet_size, plain_spelling}
use Rattle.mqb_packet.specs.declared.packet.Packet.{Packet}
use Rattle.mqb_model.specs.calls.Commit.{Trial, trial_of, try_ops, whole_refusal}
use Rattle.mqb_model.specs.declared.answers.Done.{Done}
use Rattle.mqb_model.specs.declared.faults.CommitFault.{CommitFault}
use Rattle.mqb_model.specs.declared.faults.CommitFault.TheVariants as fault
use Rattle.mqb_fields.specs.Reading.{◌>>=◌}
use Rattle.mqb_model.specs.laws.Fitting.{RecordsAreSpelled, RecordsFit}
use Rattle.mqb_model.specs.records.Applying.{fits}
use Rattle.mqb_model.specs.records.Counting.{IsSpellable, commit_size}
use Rattle.mqb_model.specs.records.Reading.{all_some, op_of, record_in}
use Rattle.mqb_model.specs.records.Record.{RecordOp}
use Rattle.mqb_model.specs.records.Record as entry
use Rattle.mqb_model.specs.state.State.{State}
use Rattle.mqb_model.specs.state.Valid.{IsValidState}
use Rattle.mqb_trying.specs.Notes.{Noted, nothing_noted, record_op}
use Rattle.mqb_trying.specs.Trials.{Planned, op_view, planned}
use Rattle.mqb_trying.specs.Trying.{IsRefusedBy, count_refusal, tried, try_all, whole_fault}
use Rattle.mqb_trying.proofs.Agreeing.{all_agree, followed, refused_by, whole_agrees}
use Rattle.mqb_trying.proofs.Finishing.{entry_len, few_ops, fits_is, spellable, tried_is}
use Rattle.mqb_trying.proofs.Following.{Follows, follows_first}
use Rattle.mqb_trying.specs.Trying as trying

-- A fault of an op refuses the whole.
pub op_refuses : (s : State) (now : ℕ) (ops : List Op) (why : CommitFault) → IsValidState s → count_refusal (length ops) ≡ None
    → IsRefusedBy (try_all s now 0 (nothing_noted s) ops) why → IsRefusedBy (tried s now ops) why
op_refuses s now ops why v few r = refused_by s now why (count_refusal (length ops)) (try_all s now 0 (nothing_noted s) ops) (try_ops now 0 (trial_of s) ops) few
    (all_agree s now 0 (nothing_noted s) (trial_of s) ops (follows_first s now v)) r

-- a reason is that of the definition, where the outcome is it
pub is_refusal : {T : Type 0} (outcome : Result T CommitFault) (why : CommitFault) → outcome ≡ Err why → IsRefusedBy outcome why
is_refusal outcome fault.Memory e = tt
is_refusal outcome fault.Down e = e
is_refusal outcome fault.NoOps e = e
is_refusal outcome fault.TooManyOps e = e
is_refusal outcome (fault.AtOp index x) e = e
is_refusal outcome fault.NumbersSpent e = e
is_refusal outcome fault.TooLarge e = e
is_refusal outcome fault.DiskFault e = e

module _ (s : State) (now : ℕ) (ops : List Op) (n : Noted) (v : IsValidState s) (few : count_refusal (length ops) ≡ None) (noted : try_all s now 0 (nothing_noted s) ops ≡ Ok n) where
  there : (t : Trial) × (try_ops now 0 (trial_of s) ops ≡ Ok t) × Follows s now n t
  there = followed s now n (try_all s now 0 (nothing_noted s) ops) (try_ops now 0 (trial_of s) ops) noted (all_agree s now 0 (nothing_noted s) (trial_of s) ops (follows_first s now v))

  -- the whole may be refused
  pub whole_refuses : (why : CommitFault) → whole_fault n ≡ Some why → tried s now ops ≡ Err why
  whole_refuses why e =
      ap (λ c. trying.unless c (try_ops now 0 (trial_of s) ops >>= λ t. trying.unless (whole_refusal t) (Ok t))) few
      ∙ ap (λ r. r >>= λ t. trying.unless (whole_refusal t) (Ok t)) there.1
      ∙ ap (λ w. trying.unless w (Ok there.0)) (whole_agrees s now n there.0 there.2 ∙ e)

  module _ (passed : whole_fault n ≡ None) where
    whole : whole_refusal there.0 ≡ None
    whole = whole_agrees s now n there.0 there.2 ∙ passed

    made : tried s now ops ≡ Ok there.0
    made = tried_is s now ops there.0 few there.1 whole

    -- what holds of the trial holds of what was tried
    holds : (P : Trial → Type 0) → P there.0 → IsOkAnd (tried s now ops) P
    holds P h = subst (λ o. IsOkAnd o P) (sym made) h

    module _ (r : Planned) (ops_are : r.ops ≡ map op_view (map record_op n.ops)) (done_are : r.done ≡ n.done) where
      ops_shown : r.ops ≡ map op_view there.0.ops
      ops_shown = ops_are ∙ ap (map op_view) (sym there.2.ops)

      pub planned_is : IsOkAnd (tried s now ops) (λ t. r ≡ planned t)
      planned_is = holds (λ t. r ≡ planned t) (ap₂ (λ (ops : List OpView) (done : List Done). record { ops = ops; done = done }) ops_shown (done_are ∙ sym there.2.done))

      pub fits_too : RecordsFit → IsOkAnd (tried s now ops) (λ t. fits s (entry.Commit now t.ops) ≡ true)
      fits_too law = holds (λ t. fits s (entry.Commit now t.ops) ≡ true) (fits_is s now ops there.0 few there.1 whole law)

      sound : RecordsAreSpelled → IsSpellable (entry.Commit now there.0.ops)
      sound law = spellable s now ops there.0 few there.1 whole law

      pub put_too : RecordsAreSpelled → Fits (form.Commit now r.ops)
      put_too law = subst (λ views. Fits (form.Commit now views)) (sym ops_shown) (few_ops now there.0.ops ((sound law).0, (sound law).1))

      pub size_too : RecordsAreSpelled → ((p : Packet) → length (plain_spelling p) ≡ packet_size p) → length (spelled (form.Commit now r.ops)) ≤ 8388608
      size_too law sized =
          let long = ap (λ views. length (spelled (form.Commit now views))) ops_are in
          let counted = entry_len sized now n.ops in
          let same = ap commit_size there.2.ops in
          let most : commit_size there.0.ops ≤ 8388608 = (sound law).2 in
          omega (arith, long, counted, same, most)

      pub read_too : all_some (map op_of r.ops) ≡ Some (map record_op n.ops) → IsOkAnd (tried s now ops) (λ t. record_in (form.Commit now r.ops) ≡ Some (entry.Commit now t.ops))
      read_too read = holds (λ t. record_in (form.Commit now r.ops) ≡ Some (entry.Commit now t.ops))
          (ap (option_map (λ ops. entry.Commit now ops)) (read ∙ ap (λ ops. Some ops) (sym there.2.ops)))
