use Rattle.std.proofs.Common.{◌≡◌, ◌∙◌, ap, arith, length, subst, sym}
use Rattle.std.specs.Prelude.{[], List, true, ℕ}
use Rattle.mqb_base.specs.Rooms.{WithRooms}
use Rattle.mqb_base.specs.Same.{same_guid}
use Rattle.mqb_base.specs.declared.ids.Guid.{Guid}
use Rattle.mqb_snapshot.specs.mqb_contents.Rooms.{StateRooms}
use Rattle.mqb_journal.specs.Blocks.{record_of_block}
use Rattle.mqb_journal.specs.States.{JournalState}
use Rattle.mqb_journal.specs.Store.{Nothing}
use Rattle.mqb_journal.specs.declared.faults.OpenFault.TheVariants as opening
use Rattle.mqb_journal.specs.lemmas.Carrying.{goes_on_gate}
use Rattle.mqb_model.specs.records.Reading.{record_of}
use Rattle.mqb_model.specs.state.State.{State}
use Rattle.mqb_store.proofs.Beginning.{first_on, same_guid_refl}
use Rattle.mqb_store.proofs.Steps.{cause_of}
use Rattle.mqb_store.proofs.store.Store.format.Goals as goal
use Rattle.mqb_store_laws.specs.Images.{IsOn}

pub returns-in-Err-append_block-clause-only_reads : goal.returns-in-Err-append_block-clause-only_reads
returns-in-Err-append_block-clause-only_reads g c content told long =
    let nothing : ⊥ = omega (arith, long, ap length (c.in-Ok.ensures.empty content told)) in absurd nothing

pub returns-in-Ok-append_block-clause-only_reads : goal.returns-in-Ok-append_block-clause-only_reads
returns-in-Ok-append_block-clause-only_reads g c content told long =
    let nothing : ⊥ = omega (arith, long, ap length (c.in-Ok.ensures.empty content told)) in absurd nothing

pub returns-in-Ok-append_block-clause-on : goal.returns-in-Ok-append_block-clause-on
returns-in-Ok-append_block-clause-on g c =
    let e = g.D.Disk.view c.append_block.new.disk in
    let j = c.append_block.new.self in
    subst (λ (w : WithRooms State StateRooms). IsOn e j w.lists) (sym c.in_ok-state.ensures)
    (first_on c.entries_begin.ensures e j (record_of_block c.deref.result.now) c.args.identity.now (c.in-Ok-append_block.ensures.done Nothing [] c.in-Ok.ensures.formatted)
    (ap (λ (b : List ℕ). record_of (record_of_block b)) c.deref.ensures.value ∙ c.in_ok-block.ensures.record)
    (subst (λ (i : Guid). same_guid c.args.identity.now.guid i ≡ true)
    (sym (ap (λ (k : JournalState). k.guid) c.in-Ok-append_block.ensures.appended ∙ c.in-Ok.ensures.guid))
    (same_guid_refl c.args.identity.now.guid)))

pub returns-in-Ok-append_block-clause-up : goal.returns-in-Ok-append_block-clause-up
returns-in-Ok-append_block-clause-up g c = ap (λ (k : JournalState). k.down) c.in-Ok-append_block.ensures.appended ∙ c.in-Ok.ensures.formatted.up

pub returns-in-Ok-append_block-clause-guid : goal.returns-in-Ok-append_block-clause-guid
returns-in-Ok-append_block-clause-guid g c = ap (λ (k : JournalState). k.guid) c.in-Ok-append_block.ensures.appended ∙ c.in-Ok.ensures.guid

pub returns-in-Ok-append_block-clause-count : goal.returns-in-Ok-append_block-clause-count
returns-in-Ok-append_block-clause-count g c =
    omega (arith, ap (λ (k : JournalState). k.count) c.in-Ok-append_block.ensures.appended, c.in-Ok.ensures.formatted.count)

pub append_block-requires-clause-up : goal.append_block-requires-clause-up
append_block-requires-clause-up g c = c.in-Ok.ensures.formatted.up

pub append_block-requires-clause-gate : goal.append_block-requires-clause-gate
append_block-requires-clause-gate g c = goes_on_gate (g.D.Disk.view c.format.new.disk) c.in-Ok.journal Nothing [] c.in-Ok.ensures.formatted

pub returns-in-Err-append_block-clause-cause : goal.returns-in-Err-append_block-clause-cause
returns-in-Err-append_block-clause-cause g c =
    cause_of opening.DiskFault (g.D.Disk.view c.args.disk.now).faults (g.D.Disk.view c.format.new.disk).faults
    (g.D.Disk.view c.append_block.new.disk).faults c.in-Ok.ensures.cause c.in-Err-append_block.ensures.cause
