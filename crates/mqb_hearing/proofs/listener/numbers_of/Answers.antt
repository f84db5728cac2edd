use Rattle.std.proofs.Common.{rules}
use Rattle.std.proofs.lemmas.Iterator.{YieldsList-from_map, YieldsList-from_slice, items_from_collect}
use Rattle.std.proofs.lemmas.Iterator.Consumers.{YieldsList-at}
use Rattle.mqb_base.specs.declared.message.Message.{Message}
use Rattle.mqb_hearing.proofs.listener.numbers_of.Goals as goal

pub returns : goal.returns
returns c = items_from_collect _ c.collect.ensures.ran
    (YieldsList-from_map _ (λ (m : Message). m.id.number) (YieldsList-at c.map.ensures.source (YieldsList-from_slice c.args.messages.now c.iter.ensures.rest))
    c.map.ensures.closure (λ x r q k. search rules))
