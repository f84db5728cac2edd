use Rattle.std.proofs.Common.{◌≡◌, ◌∙◌, ap, inl, subst, sym}
use Rattle.std.specs.Prelude.{◌+◌, ◌≤◌, length, max}
use Rattle.mqb_base.specs.declared.ids.Guid.{Guid}
use Rattle.mqb_outside.specs.lemmas.Runs.{reads_none}
use Rattle.mqb_journal.specs.States.{ScanState}
use Rattle.mqb_journal.specs.Store.{count_of}
use Rattle.mqb_store.proofs.Fronts.{HasGiven, back_is_bad, back_is_read, given_by, quiet_fault, some_given, none_given, stands_first, stands_on}
use Rattle.mqb_store.proofs.Reaching.{stops_at_first}
use Rattle.mqb_store.proofs.replaying.first.Goals as goal

pub returns-in-Some-clause-read : goal.returns-in-Some-clause-read
returns-in-Some-clause-read g c =
    let d = g.D.Disk.view c.args.disk.now in
    let t = c.take_base.new.self in
    let given : HasGiven d c.args.scan.now t =
    given_by (subst (λ (i : Guid). length i.0 ≡ 16) c.guid-guid.ensures c.guid_is_whole.ensures) c.requires.within c.requires.begun c.take_base.ensures.gone in
    let same = c.guid-guid.ensures ∙ ap (λ (s : ScanState). s.guid) (sym c.take_base.ensures.gone) in
    back_is_read d t (count_of given.base) c.deref.result.now c.guid-guid.result c.base_state.result
    (stands_on given c.deref.result.now (some_given _ c.in-Some.is c.deref.ensures.value c.take_base.ensures.taken))
    same c.base_state.ensures.spelled c.base_state.ensures.durable c.base_state.ensures.own

pub returns-in-Some-clause-bad : goal.returns-in-Some-clause-bad
returns-in-Some-clause-bad g c at is =
    let d = g.D.Disk.view c.args.disk.now in
    let t = c.take_base.new.self in
    let given : HasGiven d c.args.scan.now t =
    given_by (subst (λ (i : Guid). length i.0 ≡ 16) c.guid-guid.ensures c.guid_is_whole.ensures) c.requires.within c.requires.begun c.take_base.ensures.gone in
    let same = c.guid-guid.ensures ∙ ap (λ (s : ScanState). s.guid) (sym c.take_base.ensures.gone) in
    back_is_bad d t (count_of given.base) c.deref.result.now c.guid-guid.result c.area.result at
    (stands_on given c.deref.result.now (some_given _ c.in-Some.is c.deref.ensures.value c.take_base.ensures.taken))
    same c.area.ensures (c.base_state.ensures.bad at is)

pub returns-in-Some-clause-reads : goal.returns-in-Some-clause-reads
returns-in-Some-clause-reads g c = reads_none (g.D.Disk.view c.args.disk.now) (g.met.D.Disk.lawful c.args.disk.now)

pub returns-in-Some-clause-no_further : goal.returns-in-Some-clause-no_further
returns-in-Some-clause-no_further g c before front so_far content told = inl (front content told)

pub returns-in-Some-clause-cause : goal.returns-in-Some-clause-cause
returns-in-Some-clause-cause g c = quiet_fault (g.D.Disk.view c.args.disk.now).faults c.base_state.result c.base_state.ensures.no_call

pub returns-in-None-clause-no_further : goal.returns-in-None-clause-no_further
returns-in-None-clause-no_further g c before front so_far =
    let d = g.D.Disk.view c.args.disk.now in
    let given : HasGiven d c.args.scan.now c.take_base.new.self =
    given_by (subst (λ (i : Guid). length i.0 ≡ 16) c.guid-guid.ensures c.guid_is_whole.ensures) c.requires.within c.requires.begun c.take_base.ensures.gone in
    stops_at_first d (g.D.Disk.view c.first_state.new.disk) before (stands_first given (none_given _ c.in-None.is c.take_base.ensures.taken))
    (subst (λ (s : ScanState). d.reached ≤ max before (s.gate + 1)) (sym c.take_base.ensures.gone) so_far) c.first_state.ensures.no_further

pub first_state-requires-clause-begun : goal.first_state-requires-clause-begun
first_state-requires-clause-begun g c =
    let d = g.D.Disk.view c.args.disk.now in
    let given : HasGiven d c.args.scan.now c.take_base.new.self =
    given_by (subst (λ (i : Guid). length i.0 ≡ 16) c.guid-guid.ensures c.guid_is_whole.ensures) c.requires.within c.requires.begun c.take_base.ensures.gone in
    (stands_first given (none_given _ c.in-None.is c.take_base.ensures.taken)).lent
