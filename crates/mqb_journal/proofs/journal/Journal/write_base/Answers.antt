use Rattle.std.proofs.Common.{◌≡◌, ◌+◌, ◌≤◌, length, ◌∙◌, ap, arith, refl}
use Rattle.mqb_outside.specs.declared.disk.TheConstants.{MAX_DISK}
use Rattle.mqb_journal.specs.States.{JournalState}
use Rattle.mqb_layout.specs.Layouts.{area_size}
use Rattle.mqb_layout.specs.Checkpoints.{switch_place, switch_byte}
use Rattle.mqb_journal.proofs.Halves.{made, long_enough, area_within, lengths, old_stands, either_stands, new_stands, rewritten}
use Rattle.mqb_journal.proofs.Outcomes.{on_ok, ok_always}
use Rattle.mqb_journal.proofs.journal.Journal.write_base.Goals as goal

pub returns-in_err-lay-clause-moments : goal.returns-in_err-lay-clause-moments
returns-in_err-lay-clause-moments g c old records on settled =
    let m = made _ c.args.self.now c.args.base.now c.args.next c.block_place-at.result c.args.block.now c.mark_place.result _ c.self.view_is c.requires.next c.requires.block
    c.block_place-at.ensures c.mark_place.ensures c.mark_for-width.ensures.bytes c.self.invariant.2 c.self.invariant.0 c.requires.near c.requires.small in
    old_stands c.args.self.now c.args.base.now c.args.next c.block_place-at.result c.args.block.now c.mark_place.result _ m (g.D.Disk.view c.args.disk.now) (g.D.Disk.view c.lay.new.disk) old records _ _ refl refl on settled c.lay.ensures.any_moment

pub switch_over-requires-clause-long : goal.switch_over-requires-clause-long
switch_over-requires-clause-long g c d told =
    let m = made _ c.args.self.now c.args.base.now c.args.next c.block_place-at.result c.args.block.now c.mark_place.result _ c.self.view_is c.requires.next c.requires.block
    c.block_place-at.ensures c.mark_place.ensures c.mark_for-width.ensures.bytes c.self.invariant.2 c.self.invariant.0 c.requires.near c.requires.small in
    let from = c.in_ok-lay.ensures.written d told in
    long_enough c.args.self.now c.args.base.now c.args.next c.block_place-at.result c.args.block.now c.mark_place.result _ m from.0 d (c.requires.place from.0 from.1) from.2

pub returns-clause-done : goal.returns-clause-done
returns-clause-done g c old records on =
    let m = made _ c.args.self.now c.args.base.now c.args.next c.block_place-at.result c.args.block.now c.mark_place.result _ c.self.view_is c.requires.next c.requires.block
    c.block_place-at.ensures c.mark_place.ensures c.mark_for-width.ensures.bytes c.self.invariant.2 c.self.invariant.0 c.requires.near c.requires.small in
    let place : c.switch_place.result ≡ switch_place c.args.self.now.later = c.switch_place.ensures ∙ ap (λ (j : JournalState). switch_place j.later) c.self.view_is in
    let byte : c.switch_byte.result ≡ switch_byte c.args.self.now.later = c.switch_byte.ensures ∙ ap (λ (j : JournalState). switch_byte j.later) c.self.view_is in
    on_ok _ _ _ (new_stands c.args.self.now c.args.base.now c.args.next c.block_place-at.result c.args.block.now c.mark_place.result _ m (g.D.Disk.view c.args.disk.now) (g.D.Disk.view c.lay.new.disk) (g.D.Disk.view c.switch_over.new.disk) old records _ _ _ place byte refl on c.in_ok-lay.ensures.written) c.switch_over.ensures.switched

pub returns-clause-moments : goal.returns-clause-moments
returns-clause-moments g c old records on settled =
    let m = made _ c.args.self.now c.args.base.now c.args.next c.block_place-at.result c.args.block.now c.mark_place.result _ c.self.view_is c.requires.next c.requires.block
    c.block_place-at.ensures c.mark_place.ensures c.mark_for-width.ensures.bytes c.self.invariant.2 c.self.invariant.0 c.requires.near c.requires.small in
    let place : c.switch_place.result ≡ switch_place c.args.self.now.later = c.switch_place.ensures ∙ ap (λ (j : JournalState). switch_place j.later) c.self.view_is in
    let byte : c.switch_byte.result ≡ switch_byte c.args.self.now.later = c.switch_byte.ensures ∙ ap (λ (j : JournalState). switch_byte j.later) c.self.view_is in
    either_stands c.args.self.now c.args.base.now c.args.next c.block_place-at.result c.args.block.now c.mark_place.result _ m (g.D.Disk.view c.args.disk.now) (g.D.Disk.view c.lay.new.disk) (g.D.Disk.view c.switch_over.new.disk) old records _ _ _ _ _ refl refl place byte refl on settled c.in_ok-lay.ensures.any_moment c.in_ok-lay.ensures.written c.switch_over.ensures.any_moment

pub returns-clause-wrote : goal.returns-clause-wrote
returns-clause-wrote g c =
    let m = made _ c.args.self.now c.args.base.now c.args.next c.block_place-at.result c.args.block.now c.mark_place.result _ c.self.view_is c.requires.next c.requires.block
    c.block_place-at.ensures c.mark_place.ensures c.mark_for-width.ensures.bytes c.self.invariant.2 c.self.invariant.0 c.requires.near c.requires.small in
    let place : c.switch_place.result ≡ switch_place c.args.self.now.later = c.switch_place.ensures ∙ ap (λ (j : JournalState). switch_place j.later) c.self.view_is in
    let byte : c.switch_byte.result ≡ switch_byte c.args.self.now.later = c.switch_byte.ensures ∙ ap (λ (j : JournalState). switch_byte j.later) c.self.view_is in
    on_ok _ _ _ (rewritten c.args.self.now c.args.base.now c.args.next c.block_place-at.result c.args.block.now c.mark_place.result _ m (g.D.Disk.view c.args.disk.now) (g.D.Disk.view c.lay.new.disk) (g.D.Disk.view c.switch_over.new.disk) _ _ _ place byte refl c.in_ok-lay.ensures.written) c.switch_over.ensures.switched

pub returns-clause-length : goal.returns-clause-length
returns-clause-length g c =
    let m = made _ c.args.self.now c.args.base.now c.args.next c.block_place-at.result c.args.block.now c.mark_place.result _ c.self.view_is c.requires.next c.requires.block
    c.block_place-at.ensures c.mark_place.ensures c.mark_for-width.ensures.bytes c.self.invariant.2 c.self.invariant.0 c.requires.near c.requires.small in
    let place : c.switch_place.result ≡ switch_place c.args.self.now.later = c.switch_place.ensures ∙ ap (λ (j : JournalState). switch_place j.later) c.self.view_is in
    on_ok _ _ _ (lengths c.args.self.now c.args.base.now c.args.next c.block_place-at.result c.args.block.now c.mark_place.result _ m (g.D.Disk.view c.args.disk.now) (g.D.Disk.view c.lay.new.disk) (g.D.Disk.view c.switch_over.new.disk) _ _ _ place refl c.requires.place c.in_ok-lay.ensures.written) c.switch_over.ensures.switched

pub returns-clause-bound : goal.returns-clause-bound
returns-clause-bound g c =
    let m = made _ c.args.self.now c.args.base.now c.args.next c.block_place-at.result c.args.block.now c.mark_place.result _ c.self.view_is c.requires.next c.requires.block
    c.block_place-at.ensures c.mark_place.ensures c.mark_for-width.ensures.bytes c.self.invariant.2 c.self.invariant.0 c.requires.near c.requires.small in
    let most = area_within c.args.self.now c.args.base.now c.args.next c.block_place-at.result c.args.block.now c.mark_place.result _ m _ c.in_ok-lay.ensures.bound in
    let fits : c.args.next.place + area_size (length c.args.base.now) ≤ MAX_DISK = omega (arith, most) in
    ok_always _ _ fits
