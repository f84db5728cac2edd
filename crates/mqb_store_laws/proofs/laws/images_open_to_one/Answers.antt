use Rattle.mqb_store_laws.proofs.Bad.{one_opening}
use Rattle.mqb_store_laws.proofs.laws.images_open_to_one.Goals as goal

pub returns : goal.returns
returns c = one_opening c.stands_for_one_list.ensures.records
