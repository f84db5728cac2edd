use Rattle.std.proofs.Common.{◌≡◌, ◌∙◌, ap, subst, sym}
use Rattle.std.specs.Prelude.{IsSomeAnd, List, Some, true, ℕ}
use Rattle.mqb_outside.specs.Disk.{LeavesOnly}
use Rattle.mqb_state.specs.Work.{beside_of}
use Rattle.mqb_journal.specs.lemmas.Carrying.{goes_on_gate}
use Rattle.mqb_journal.specs.Blocks.{record_of_block}
use Rattle.mqb_journal.specs.States.{JournalState}
use Rattle.mqb_model.specs.records.Applying.{fits}
use Rattle.mqb_model.specs.records.Reading.{record_in, record_of}
use Rattle.mqb_model.specs.rules.Effects.{Effect}
use Rattle.mqb_store.proofs.Kept.{CanJoin, written_moments, written_on}
use Rattle.mqb_store.proofs.store.Store.write_entry.Goals as goal
use Rattle.mqb_store.specs.States.{IsStoredOn, StoreState}
use Rattle.mqb_store.specs.Writing.{LeavesStore}
use Rattle.mqb_store_laws.specs.lemmas.Carrying.{quiet_opens}
use Rattle.mqb_store_laws.specs.lemmas.Writing.{writes_entry, writes_none, writes_nothing}
use Rattle.mqb_store_laws.specs.Writing.{WritesOne}
use Rattle.mqb_store_laws.specs.Images.{IsOn, Opens}

pub append_block-requires-clause-gate : goal.append_block-requires-clause-gate
append_block-requires-clause-gate g c =
    let d = g.D.Disk.view c.args.disk.now in
    let at : IsOn d c.self.inside.journal c.self.inside.state.lists = subst (λ (w : StoreState). IsStoredOn d w) (sym c.self.view_is) c.requires.on in
    goes_on_gate d c.self.inside.journal at.base at.entries at.goes_on

pub returns-in_err-spell-clause-moments : goal.returns-in_err-spell-clause-moments
returns-in_err-spell-clause-moments g c settled =
    quiet_opens (g.D.Disk.view c.args.disk.now) c.args.self.now.journal c.args.self.now.state (record_in c.args.entry.now)
    (g.met.D.Disk.lawful c.args.disk.now) c.requires.on settled

pub returns-in_err-tried-clause-moments : goal.returns-in_err-tried-clause-moments
returns-in_err-tried-clause-moments g c settled =
    quiet_opens (g.D.Disk.view c.args.disk.now) c.args.self.now.journal c.args.self.now.state (record_in c.args.entry.now)
    (g.met.D.Disk.lawful c.args.disk.now) c.requires.on settled

pub returns-in-Err-clause-moments : goal.returns-in-Err-clause-moments
returns-in-Err-clause-moments g c settled =
    let d = g.D.Disk.view c.args.disk.now in
    let e = g.D.Disk.view c.append_block.new.disk in
    let o = record_in c.args.entry.now in
    let at : IsOn d c.self.inside.journal c.self.inside.state.lists = subst (λ (w : StoreState). IsStoredOn d w) (sym c.self.view_is) c.requires.on in
    let new : CanJoin c.self.inside.state.lists (record_of_block c.deref.result.now) o = record {
      valid = c.is_valid.ensures;
      reads = ap (λ (b : List ℕ). record_of (record_of_block b)) c.deref.ensures.value ∙ c.in_ok-spell.ensures.record;
      fit = subst (λ (w : StoreState). IsSomeAnd o (λ r. fits w.state r ≡ true)) (sym c.self.view_is) c.requires.can.fits;
    } in
    subst (λ (w : StoreState). LeavesOnly d e (Opens w.journal w.state o)) c.self.view_is
    (written_moments c.records_join.ensures d e c.self.inside.journal c.self.inside.state.lists (record_of_block c.deref.result.now) o at new c.append_block.ensures.moments settled)

pub returns-in-Ok-clause-moments : goal.returns-in-Ok-clause-moments
returns-in-Ok-clause-moments g c settled =
    let d = g.D.Disk.view c.args.disk.now in
    let e = g.D.Disk.view c.append_block.new.disk in
    let o = record_in c.args.entry.now in
    let at : IsOn d c.self.inside.journal c.self.inside.state.lists = subst (λ (w : StoreState). IsStoredOn d w) (sym c.self.view_is) c.requires.on in
    let new : CanJoin c.self.inside.state.lists (record_of_block c.deref.result.now) o = record {
      valid = c.is_valid.ensures;
      reads = ap (λ (b : List ℕ). record_of (record_of_block b)) c.deref.ensures.value ∙ c.in_ok-spell.ensures.record;
      fit = subst (λ (w : StoreState). IsSomeAnd o (λ r. fits w.state r ≡ true)) (sym c.self.view_is) c.requires.can.fits;
    } in
    subst (λ (w : StoreState). LeavesOnly d e (Opens w.journal w.state o)) c.self.view_is
    (written_moments c.records_join.ensures d e c.self.inside.journal c.self.inside.state.lists (record_of_block c.deref.result.now) o at new c.append_block.ensures.moments settled)

pub returns-in-Ok-clause-on : goal.returns-in-Ok-clause-on
returns-in-Ok-clause-on g c =
    let d = g.D.Disk.view c.args.disk.now in
    let e = g.D.Disk.view c.append_block.new.disk in
    let s = c.self.inside.state.lists in
    let o = record_in c.args.entry.now in
    let b = beside_of c.args.work in
    let at : IsOn d c.self.inside.journal s = subst (λ (w : StoreState). IsStoredOn d w) (sym c.self.view_is) c.requires.on in
    let new : CanJoin s (record_of_block c.deref.result.now) o = record {
      valid = c.is_valid.ensures;
      reads = ap (λ (b : List ℕ). record_of (record_of_block b)) c.deref.ensures.value ∙ c.in_ok-spell.ensures.record;
      fit = subst (λ (w : StoreState). IsSomeAnd o (λ r. fits w.state r ≡ true)) (sym c.self.view_is) c.requires.can.fits;
    } in
    written_on c.records_join.ensures d e c.self.inside.journal c.append_block.new.self s c.attempt.new.state.lists (record_of_block c.deref.result.now) o b at new
    c.in-Ok.ensures.done (ap (λ (j : JournalState). j.guid) c.in-Ok.ensures.appended)
    (subst (λ (w : StoreState). LeavesStore w.state (Some c.args.entry.now) b) (sym c.self.view_is) c.requires.stored)
    (sym (ap (λ (e : Effect). e.state) c.in_ok-tried.ensures.ok))

pub returns-in_err-spell-clause-wrote : goal.returns-in_err-spell-clause-wrote
returns-in_err-spell-clause-wrote g c =
    writes_nothing (g.D.Disk.view c.args.disk.now) c.args.self.now.journal _ _ (record_in c.args.entry.now)
    (g.met.D.Disk.lawful c.args.disk.now) (ap (λ (w : StoreState). w.journal.count) c.self.view_is)

pub returns-in_err-tried-clause-wrote : goal.returns-in_err-tried-clause-wrote
returns-in_err-tried-clause-wrote g c =
    writes_nothing (g.D.Disk.view c.args.disk.now) c.args.self.now.journal _ _ (record_in c.args.entry.now)
    (g.met.D.Disk.lawful c.args.disk.now) (ap (λ (w : StoreState). w.journal.count) c.self.view_is)

pub returns-in-Err-clause-wrote : goal.returns-in-Err-clause-wrote
returns-in-Err-clause-wrote g c =
    let d = g.D.Disk.view c.args.disk.now in
    let e = g.D.Disk.view c.append_block.new.disk in
    let o = record_in c.args.entry.now in
    let k = c.append_block.new.self in
    subst (λ (w : StoreState). WritesOne d e w.journal k (record_of_block c.spell.new.block.items) o) c.self.view_is
    (subst (λ (b : List ℕ). WritesOne d e c.self.inside.journal k (record_of_block b) o) c.deref.ensures.value
    (writes_none d e c.self.inside.journal k (record_of_block c.deref.result.now) o (ap (λ (j : JournalState). j.count) c.in-Err.ensures.failed)
    c.append_block.ensures.moments c.append_block.ensures.most))

pub returns-in-Ok-clause-wrote : goal.returns-in-Ok-clause-wrote
returns-in-Ok-clause-wrote g c =
    let d = g.D.Disk.view c.args.disk.now in
    let e = g.D.Disk.view c.append_block.new.disk in
    let o = record_in c.args.entry.now in
    let k = c.append_block.new.self in
    subst (λ (w : StoreState). WritesOne d e w.journal k (record_of_block c.spell.new.block.items) o) c.self.view_is
    (subst (λ (b : List ℕ). WritesOne d e c.self.inside.journal k (record_of_block b) o) c.deref.ensures.value
    (writes_entry d e c.self.inside.journal k (record_of_block c.deref.result.now) o
    (ap (λ (b : List ℕ). record_of (record_of_block b)) c.deref.ensures.value ∙ c.in_ok-spell.ensures.record) c.in-Ok.ensures.settled c.in-Ok.ensures.done c.append_block.ensures.moments c.append_block.ensures.most))
