use Rattle.std.proofs.Common.{◌≡◌, List, inr, sym, ◌∙◌, subst}
use Rattle.mqb_disk.specs.Changes.{Left}
use Rattle.mqb_disk.specs.declared.change.Change.{Change}
use Rattle.mqb_disk.proofs.Tears.{left_by_pick}
use Rattle.mqb_disk.proofs.memory_disk.MemoryDiskPower.restart.Goals as goal

pub returns-clause-one_of : goal.returns-clause-one_of
returns-clause-one_of c d is =
    let before = c.args.self.now in
    let changes : c.deref.result.now ≡ before.changes.items = c.deref.ensures.value in
    let left : Left c.deref.result.now before.safe.contents d =
    subst (Left c.deref.result.now before.safe.contents) (sym (is ∙ c.follow.ensures.contents ∙ c.replay.ensures.left)) (left_by_pick _ _ c.deref.result.now before.safe.contents) in
    inr (subst (λ (l : List Change). Left l before.safe.contents d) changes left)
