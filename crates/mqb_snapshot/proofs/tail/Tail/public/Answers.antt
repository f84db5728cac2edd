use Rattle.std.proofs.Common.{[], ◌∷◌, ◌++◌, Option, sym, ap, ◌∙◌}
use Rattle.mqb_base.specs.declared.ids.Guid.{Guid}
use Rattle.mqb_entries.specs.Spelled.{spelled_guid, spelled_public}
use Rattle.mqb_snapshot.proofs.Walks.{two_added}
use Rattle.mqb_snapshot.proofs.tail.Tail.public.Goals as goal

pub returns-in_ok-guid-in-Some-clause-added : goal.returns-in_ok-guid-in-Some-clause-added
returns-in_ok-guid-in-Some-clause-added c =
    two_added c.args.self.now.text (1 ∷ []) (spelled_guid c.in-Some.guid) c.u8.new.self.text c.guid.new.self.text c.in_ok-u8-in-Some.ensures.added c.in_ok-guid-in-Some.ensures.added
    ∙ ap (λ (public : Option Guid). c.args.self.now.text ++ spelled_public public) (sym c.in-Some.is)
