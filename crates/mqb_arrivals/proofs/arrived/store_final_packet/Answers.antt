use Rattle.mqb_model.specs.records.Finals.{names_offered}
use Rattle.mqb_arrivals.proofs.Finishing.{few_final}
use Rattle.mqb_arrivals.proofs.arrived.store_final_packet.Goals as goal

pub returns-clause-few : goal.returns-clause-few
returns-clause-few c = few_final (names_offered c.args.draft.now.effect.state c.args.packet.now.message) c.args.draft.now.held c.store_final.new.draft.held
    c.in_ok-store_final.ensures.held
