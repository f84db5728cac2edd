use Rattle.std.proofs.Common.{[], ◌≡◌, ◌∙◌, ◌∷◌, ap, inl, refl, subst, sym}
use Rattle.std.proofs.lemmas.Result.{err_from_is_err_and}
use Rattle.std.specs.Prelude.{Err, false, true, ℕ}
use Rattle.mqb_base.specs.Rooms.{WithRooms}
use Rattle.mqb_base.specs.Same.{same_guid}
use Rattle.mqb_base.specs.declared.ids.Guid.{Guid}
use Rattle.mqb_snapshot.specs.mqb_contents.Rooms.{StateRooms}
use Rattle.mqb_outside.specs.Images.{Each}
use Rattle.mqb_model.specs.records.Reading.{record_of}
use Rattle.mqb_model.specs.state.State.{State}
use Rattle.mqb_journal.specs.Store.{Nothing}
use Rattle.mqb_journal.specs.declared.faults.OpenFault.TheVariants as opening
use Rattle.mqb_journal.specs.declared.faults.ScanFault.{ScanFault}
use Rattle.mqb_store.proofs.Faulty.{StandsBehind, breaks_off, other_guid}
use Rattle.mqb_store.proofs.Read.{read_first}
use Rattle.mqb_store.proofs.Steps.{HasEnded, HasGoneOn, bad_before, bad_scan, no_identity, none_then, not_false, not_true, same_fault, same_guid_then, same_place, stands_then, unfit_then}
use Rattle.mqb_store.proofs.replaying.first_state.Goals as goal
use Rattle.mqb_store.specs.Replaying.{IsReadUpTo}
use Rattle.mqb_store_laws.specs.Faults.{IsBadStore}
use Rattle.mqb_store_laws.specs.Images.{identity_in}

pub returns-then-not-branch-clause-bad : goal.returns-then-not-branch-clause-bad
returns-then-not-branch-clause-bad g c at is =
    let done : HasEnded (g.D.Disk.view c.args.disk.now) (g.D.Disk.view c.advance.new.disk) c.args.scan.now c.advance.new.self Nothing [] = record {
      behind = record {
        whole = c.requires.whole;
        within = c.requires.within;
        lent = c.requires.begun;
      };
      next = c.in_ok-advance.ensures.ended c.if-not-branch.true;
      within = c.advance.ensures.within;
      lent = c.in_ok-advance.ensures.all Nothing [] c.requires.begun c.if-not-branch.true;
      reads = c.advance.ensures.reads;
    } in
    none_then done at c.requires.place (sym (same_place c.place.result at is) ∙ c.place.ensures.place)

pub returns-in_default-clause-bad : goal.returns-in_default-clause-bad
returns-in_default-clause-bad g c at is =
    let t = c.advance.new.self in
    let gone : HasGoneOn (g.D.Disk.view c.args.disk.now) (g.D.Disk.view c.advance.new.disk) c.args.scan.now t Nothing [] = record {
      behind = record {
        whole = c.requires.whole;
        within = c.requires.within;
        lent = c.requires.begun;
      };
      next = c.in_ok-advance.ensures.advanced c.if-not-branch.false;
      within = c.advance.ensures.within;
      lent = c.in_ok-advance.ensures.more Nothing [] c.requires.begun c.if-not-branch.false;
      reads = c.advance.ensures.reads;
    } in
    unfit_then gone at (inl (refl, refl)) (sym (same_place c.place-in_default.result at is) ∙ c.place-in_default.ensures.place)
    (no_identity c.entries_begin.ensures t.lent (ap (λ l. identity_in (record_of l)) (sym c.record.ensures.lent) ∙ (sym c.in_ok-identity.ensures ∙ c.in_default.is)))

pub returns-then-ne-clause-bad : goal.returns-then-ne-clause-bad
returns-then-ne-clause-bad g c at is =
    let d = g.D.Disk.view c.args.disk.now in
    let e = g.D.Disk.view c.advance.new.disk in
    let t = c.advance.new.self in
    let gone : HasGoneOn d e c.args.scan.now t Nothing [] = record {
      behind = record {
        whole = c.requires.whole;
        within = c.requires.within;
        lent = c.requires.begun;
      };
      next = c.in_ok-advance.ensures.advanced c.if-not-branch.false;
      within = c.advance.ensures.within;
      lent = c.in_ok-advance.ensures.more Nothing [] c.requires.begun c.if-not-branch.false;
      reads = c.advance.ensures.reads;
    } in
    subst (λ (k : ℕ). Each d.reads (IsBadStore k)) (same_place 0 at is)
    (bad_before d e 0 c.advance.ensures.reads (other_guid e t Nothing (t.lent ∷ []) c.in-Some.identity (stands_then gone)
    (ap (λ l. identity_in (record_of l)) (sym c.record.ensures.lent) ∙ (sym c.in_ok-identity.ensures ∙ c.in-Some.is))
    (subst (λ (i : Guid). same_guid c.in-Some.identity.guid i ≡ false) (c.guid-guid.ensures ∙ sym (same_guid_then gone))
    (not_false (same_guid c.in-Some.identity.guid c.guid-guid.result) c.if-ne.ensures))))

pub returns-clause-read : goal.returns-clause-read
returns-clause-read g c =
    let e = g.D.Disk.view c.advance.new.disk in
    let t = c.advance.new.self in
    let gone : HasGoneOn (g.D.Disk.view c.args.disk.now) e c.args.scan.now t Nothing [] = record {
      behind = record {
        whole = c.requires.whole;
        within = c.requires.within;
        lent = c.requires.begun;
      };
      next = c.in_ok-advance.ensures.advanced c.if-not-branch.false;
      within = c.advance.ensures.within;
      lent = c.in_ok-advance.ensures.more Nothing [] c.requires.begun c.if-not-branch.false;
      reads = c.advance.ensures.reads;
    } in
    subst (λ (w : WithRooms State StateRooms). IsReadUpTo e t w.lists []) (sym c.in_ok-empty.ensures)
    (read_first c.entries_begin.ensures e t t.lent c.in-Some.identity (stands_then gone)
    (ap (λ l. identity_in (record_of l)) (sym c.record.ensures.lent) ∙ (sym c.in_ok-identity.ensures ∙ c.in-Some.is))
    (subst (λ (i : Guid). same_guid c.in-Some.identity.guid i ≡ true) (c.guid-guid.ensures ∙ sym (same_guid_then gone))
    (not_true (same_guid c.in-Some.identity.guid c.guid-guid.result) c.if-ne.ensures)))

pub returns-in_err-advance-clause-bad : goal.returns-in_err-advance-clause-bad
returns-in_err-advance-clause-bad g c at is =
    let p = err_from_is_err_and c.from_residual.result c.from_residual.ensures.1 in
    let h = c.in_err-advance.ensures.bad at (ap (λ (f : ScanFault). Err f)
    (bad_scan c.in_err-advance.field-0.0 at (sym p.2 ∙ same_fault p.0 (opening.BadStore at) (sym p.1 ∙ is)))) in
    let behind : StandsBehind (g.D.Disk.view c.args.disk.now) c.args.scan.now Nothing [] = record {
      whole = c.requires.whole;
      within = c.requires.within;
      lent = c.requires.begun;
    } in
    breaks_off (g.D.Disk.view c.args.disk.now) c.args.scan.now Nothing [] at behind (inl (refl, refl)) h.0 h.1
