use Rattle.std.proofs.Common.{◌≡◌, List, ◌∷◌, [], reverse, sym, ap, ◌∙◌}
use Rattle.std.proofs.lemmas.List.{reverse-append}
use Rattle.mqb_base.specs.Rooms.{Room}
use Rattle.mqb_contents.specs.mqb_tables.Ends.{without_last}
use Rattle.mqb_contents.specs.declared.change.Change.{Change}
use Rattle.mqb_contents.proofs.mqb_tables.Members.{without_last_pushed}
use Rattle.mqb_drafts.proofs.logs.Log.pop.Goals as goal

pub returns : goal.returns
returns c =
    let items : List Change = c.self.inside.changes.items in
    let x : Change = c.pop.result in
    let first : reverse items ≡ x ∷ reverse (without_last items) =
    ap (λ (l : List Change). reverse l) (sym (without_last_pushed items x c.pop.ensures.popped)) ∙ reverse-append (without_last items) (x ∷ []) in
    sym c.self.view_is
    ∙ (ap (λ (l : List Change). record { items = l; room = c.self.inside.changes.room }) first
    ∙ ap (λ (r : Room Change). record { items = x ∷ reverse r.items; room = r.room }) (sym c.pop.ensures.rest))
