use Rattle.mqb_history.proofs.Links as links
use Rattle.mqb_history.proofs.links_are_before.Goals as goal

pub returns : goal.returns
returns c = links.links_are_before c.link_is_before.ensures
