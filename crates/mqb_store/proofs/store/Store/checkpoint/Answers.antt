use Rattle.std.proofs.Common.{◌≡◌, ◌∙◌, rules, subst, sym}
use Rattle.std.specs.Prelude.{None, OnOk, false, true}
use Rattle.mqb_outside.specs.Disk.{LeavesOnly}
use Rattle.mqb_journal.specs.lemmas.Carrying.{goes_on_gate}
use Rattle.mqb_snapshot.specs.Snapshot.{snapshot}
use Rattle.mqb_store.proofs.Based.{IsBaseOf, large_by, moments_based, on_based, small_by, small_where_ok}
use Rattle.mqb_store.proofs.store.Store.checkpoint.Goals as goal
use Rattle.mqb_store_laws.specs.Checkpoints.{is_large}
use Rattle.mqb_store.specs.States.{IsStoredOn, StoreState}
use Rattle.mqb_store_laws.specs.Images.{IsOn, Opens}
use Rattle.mqb_store_laws.specs.lemmas.Carrying.{quiet_opens}

pub returns-then-is_down-clause-moments : goal.returns-then-is_down-clause-moments
returns-then-is_down-clause-moments g c on settled =
    quiet_opens (g.D.Disk.view c.args.disk.now) c.args.self.now.journal c.args.self.now.state None (g.met.D.Disk.lawful c.args.disk.now) on settled

pub returns-then-is_too_far-clause-moments : goal.returns-then-is_too_far-clause-moments
returns-then-is_too_far-clause-moments g c on settled =
    quiet_opens (g.D.Disk.view c.args.disk.now) c.args.self.now.journal c.args.self.now.state None (g.met.D.Disk.lawful c.args.disk.now) on settled

pub returns-in_err-spell-clause-moments : goal.returns-in_err-spell-clause-moments
returns-in_err-spell-clause-moments g c on settled =
    quiet_opens (g.D.Disk.view c.args.disk.now) c.args.self.now.journal c.args.self.now.state None (g.met.D.Disk.lawful c.args.disk.now) on settled

pub checkpoint-requires : goal.checkpoint-requires
checkpoint-requires g c up =
    let d = g.D.Disk.view c.args.disk.now in
    let at : IsOn d c.self.inside.journal c.self.inside.state.lists =
    subst (λ (w : StoreState). IsStoredOn d w) (sym c.self.view_is) (c.requires.on (subst (λ (w : StoreState). w.journal.down ≡ false) c.self.view_is up)) in
    goes_on_gate d c.self.inside.journal at.base at.entries at.goes_on

pub returns-clause-moments : goal.returns-clause-moments
returns-clause-moments g c on settled =
    let d = g.D.Disk.view c.args.disk.now in
    let e = g.D.Disk.view c.checkpoint.new.disk in
    let j = c.self.inside.journal in
    let s = c.self.inside.state.lists in
    let at : IsOn d j s = subst (λ (w : StoreState). IsStoredOn d w) (sym c.self.view_is) on in
    let spelled : c.spell.new.out.items ≡ snapshot s = first_of (cc, search rules) in
    let of : IsBaseOf s c.deref.result.now = record { is = c.deref.ensures.value ∙ spelled; again = c.in_ok-spell.ensures.again } in
    subst (λ (w : StoreState). LeavesOnly d e (Opens w.journal w.state None)) c.self.view_is
    (moments_based c.bases_begin.ensures c.states_are_own.ensures d e j s c.deref.result.now of at c.checkpoint.ensures.moments settled)

pub returns-clause-on : goal.returns-clause-on
returns-clause-on g c =
    let d = g.D.Disk.view c.args.disk.now in
    let e = g.D.Disk.view c.checkpoint.new.disk in
    let j = c.self.inside.journal in
    let s = c.self.inside.state.lists in
    let up : j.down ≡ false = sym c.is_down.ensures ∙ c.if-is_down.false in
    let at : IsOn d j s = subst (λ (w : StoreState). IsStoredOn d w) (sym c.self.view_is) (c.requires.on (subst (λ (w : StoreState). w.journal.down ≡ false) c.self.view_is up)) in
    let spelled : c.spell.new.out.items ≡ snapshot s = first_of (cc, search rules) in
    let of : IsBaseOf s c.deref.result.now = record { is = c.deref.ensures.value ∙ spelled; again = c.in_ok-spell.ensures.again } in
    on_based c.bases_begin.ensures c.states_are_own.ensures d e j c.checkpoint.new.self s c.deref.result.now c.checkpoint.result of at
    c.checkpoint.ensures.done c.checkpoint.ensures.checkpointed

-- Whether the base is too large.

pub returns-clause-too_large : goal.returns-clause-too_large
returns-clause-too_large g c same =
    let s = c.self.inside.state.lists in
    let spelled : c.spell.new.out.items ≡ snapshot s = first_of (cc, search rules) in
    subst (λ (w : StoreState). is_large w.state ≡ true) c.self.view_is
    (large_by s c.deref.result.now (c.deref.ensures.value ∙ spelled) (c.checkpoint.ensures.too_large.0 same).2)

pub returns-clause-small : goal.returns-clause-small
returns-clause-small g c =
    let s = c.self.inside.state.lists in
    let spelled : c.spell.new.out.items ≡ snapshot s = first_of (cc, search rules) in
    subst (λ (w : StoreState). OnOk c.checkpoint.result (is_large w.state ≡ false)) c.self.view_is
    (small_where_ok c.self.inside.journal s c.deref.result.now c.checkpoint.result (c.deref.ensures.value ∙ spelled) c.checkpoint.ensures.too_large
    (sym c.is_down.ensures ∙ c.if-is_down.false) (sym c.is_too_far.ensures ∙ c.if-is_too_far.false))

pub returns-clause-small_failed : goal.returns-clause-small_failed
returns-clause-small_failed g c failed =
    let s = c.self.inside.state.lists in
    let spelled : c.spell.new.out.items ≡ snapshot s = first_of (cc, search rules) in
    subst (λ (w : StoreState). is_large w.state ≡ false) c.self.view_is
    (small_by c.self.inside.journal s c.deref.result.now c.checkpoint.result (c.deref.ensures.value ∙ spelled) c.checkpoint.ensures.too_large
    (sym c.is_down.ensures ∙ c.if-is_down.false) (sym c.is_too_far.ensures ∙ c.if-is_too_far.false) (λ same. let none : ⊥ = cc in none))
