use Rattle.std.proofs.Common.{◌≡◌, [], ◌∷◌, ◌++◌, ℕ, ◌+◌, List, length, not, take, drop, sym, ◌∙◌, ap, subst}
use Rattle.mqb_outside.specs.Disk.{LeavesOnly}
use Rattle.mqb_journal.specs.Blocks.{block_of, record_of_block}
use Rattle.mqb_journal.specs.Journals.{GoesOn}
use Rattle.mqb_journal.specs.States.{JournalState}
use Rattle.mqb_journal.specs.Store.{IsBeforeOrAfter}
use Rattle.mqb_journal.proofs.Closing.{block_is, record_is}
use Rattle.mqb_journal.proofs.Records.{quiet_moments}
use Rattle.mqb_journal.specs.lemmas.Carrying.{goes_on_refused}
use Rattle.mqb_journal.proofs.journal.Journal.append.Goals as goal
use Rattle.mqb_journal.proofs.journal.Journal.append.Goals.{in-Ok, in-Err}

pub returns-then-entry-gt-MAX_RECORD-clause-moments : goal.returns-then-entry-gt-MAX_RECORD-clause-moments
returns-then-entry-gt-MAX_RECORD-clause-moments g c base records on settled = quiet_moments _ c.args.self.now base records c.args.entry.now (g.met.D.Disk.lawful c.args.disk.now) on settled

pub returns-in_err-begin_block-clause-moments : goal.returns-in_err-begin_block-clause-moments
returns-in_err-begin_block-clause-moments g c base records on settled = quiet_moments _ c.args.self.now base records c.args.entry.now (g.met.D.Disk.lawful c.args.disk.now) on settled

pub returns-in_err-close_block-clause-moments : goal.returns-in_err-close_block-clause-moments
returns-in_err-close_block-clause-moments g c base records on settled = quiet_moments _ c.args.self.now base records c.args.entry.now (g.met.D.Disk.lawful c.args.disk.now) on settled

pub returns-clause-moments : goal.returns-clause-moments
returns-clause-moments g c base records on settled =
    let d = g.D.Disk.view c.args.disk.now in
    let e = g.D.Disk.view c.append_block-done.new.disk in
    let entry = c.args.entry.now in
    let whole : c.deref.result.now ≡ block_of entry =
    block_is _ _ _ _ entry _ c.in_ok-begin_block.ensures.begun c.extend_from_slice.ensures.items (c.is_err.ensures.negation ∙ ap not c.if-is_err.false)
    c.in_ok-close_block.ensures.block c.in_ok-close_block.ensures.record (c.deref.ensures.value ∙ ap (λ v. v.items) c.replace-block.ensures.value) in
    let at = subst (λ (j : JournalState). GoesOn d j base records) (sym c.self.view_is) on in
    subst (λ (l : List ℕ). LeavesOnly d e (IsBeforeOrAfter c.args.self.now.guid.0 base records l)) (record_is c.deref.result.now entry whole)
    (subst (λ (j : JournalState). LeavesOnly d e (IsBeforeOrAfter j.guid.0 base records (record_of_block c.deref.result.now))) c.self.view_is
    (c.append_block-done.ensures.moments base records (goes_on_refused d _ _ base records at) settled))

pub returns-clause-done : goal.returns-clause-done
returns-clause-done g c base records on =
    let d = g.D.Disk.view c.args.disk.now in
    let e = g.D.Disk.view c.append_block-done.new.disk in
    let entry = c.args.entry.now in
    let whole : c.deref.result.now ≡ block_of entry =
    block_is _ _ _ _ entry _ c.in_ok-begin_block.ensures.begun c.extend_from_slice.ensures.items (c.is_err.ensures.negation ∙ ap not c.if-is_err.false)
    c.in_ok-close_block.ensures.block c.in_ok-close_block.ensures.record (c.deref.ensures.value ∙ ap (λ v. v.items) c.replace-block.ensures.value) in
    let at = subst (λ (j : JournalState). GoesOn d j base records) (sym c.self.view_is) on in
    elim c.match-done.branch [
      | in-Ok w ↦ rw w.result-is
          (goes_on_refused e _ _ base (records ++ entry ∷ [])
          (subst (λ (j : JournalState). GoesOn e j base (records ++ entry ∷ [])) (sym c.self-2.view_is)
          (subst (λ (l : List ℕ). GoesOn e c.append_block-done.new.self base (records ++ l ∷ [])) (record_is c.deref.result.now entry whole)
          (w.in-Ok.ensures.done base records (goes_on_refused d _ _ base records at)))))
      | in-Err w ↦ rw w.result-is tt
    ]

pub returns-clause-wrote : goal.returns-clause-wrote
returns-clause-wrote g c =
    let entry = c.args.entry.now in
    let whole : c.deref.result.now ≡ block_of entry =
    block_is _ _ _ _ entry _ c.in_ok-begin_block.ensures.begun c.extend_from_slice.ensures.items (c.is_err.ensures.negation ∙ ap not c.if-is_err.false)
    c.in_ok-close_block.ensures.block c.in_ok-close_block.ensures.record (c.deref.ensures.value ∙ ap (λ v. v.items) c.replace-block.ensures.value) in
    let end : c.self.inside.end ≡ c.args.self.now.end = ap (λ (j : JournalState). j.end) c.self.view_is in
    elim c.match-done.branch [
      | in-Ok w ↦ rw w.result-is
          (λ f told. (let from = w.in-Ok.ensures.wrote f told in (
            from.0,
            from.1,
            from.2
                ∙ ap (λ (k : ℕ). take k from.0 ++ (1 ∷ c.deref.result.now) ++ drop (k + length (1 ∷ c.deref.result.now)) from.0) end
                ∙ ap (λ (b : List ℕ). take c.args.self.now.end from.0 ++ (1 ∷ b) ++ drop (c.args.self.now.end + length (1 ∷ b)) from.0) whole,
          )))
      | in-Err w ↦ rw w.result-is tt
    ]
