use Rattle.std.proofs.Common.{[], ◌∷◌, ◌++◌, Option, sym, ap, ◌∙◌}
use Rattle.mqb_base.specs.declared.ids.Guid.{Guid}
use Rattle.mqb_entries.specs.Spelled.{spelled_guid, spelled_public}
use Rattle.mqb_entries.proofs.Joined.{two_added}
use Rattle.mqb_entries.proofs.puts.put_public.Goals as goal

pub returns-in-Some-clause-items : goal.returns-in-Some-clause-items
returns-in-Some-clause-items c =
    two_added c.args.out.now.items (1 ∷ []) (spelled_guid c.in-Some.guid) c.put_u8.new.out.items c.put_guid.new.out.items c.put_u8.ensures.items c.put_guid.ensures.items
    ∙ ap (λ (public : Option Guid). c.args.out.now.items ++ spelled_public public) (sym c.in-Some.is)
