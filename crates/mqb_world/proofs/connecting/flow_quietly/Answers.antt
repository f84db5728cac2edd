use Rattle.mqb_traffic.specs.Networks.{index_of, notes_of}
use Rattle.mqb_world.proofs.Joined.{from_ok, never_ok, on_any, quiet_ok, unlinked_then}
use Rattle.mqb_world.specs.Sides.{network_in, world}
use Rattle.mqb_world.proofs.connecting.flow_quietly.Goals.{in-Err, in-Ok}
use Rattle.mqb_world.proofs.connecting.flow_quietly.Goals as goal

pub flow-requires-clause-unlinked : goal.flow-requires-clause-unlinked
flow-requires-clause-unlinked g c = unlinked_then (world c.args.alpha.now c.args.beta.now c.args.traffic.now) (index_of c.args.which) c.args.now c.requires.stands

pub returns-clause-alpha_faults : goal.returns-clause-alpha_faults
returns-clause-alpha_faults g c = let n = network_in c.args.alpha.now c.args.beta.now c.args.traffic.now in let n_now = network_in c.flow.new.alpha c.flow.new.beta c.flow.new.traffic in
    elim c.match-flow.branch [
      | in-Ok w ↦ on_any c.match-flow.result (from_ok c.flow.result _ w.in-Ok.is
          (quiet_ok n _ n_now _ (index_of c.args.which) c.args.now _ _ c.requires.quiet c.flow.result c.flow.ensures.step (notes_of c.flow.new.traffic) 0 _ _ _ c.flow.ensures.alpha_faults))
      | in-Err w ↦ never_ok _ c.match-flow.result _ w.result-is
    ]

pub returns-clause-beta_faults : goal.returns-clause-beta_faults
returns-clause-beta_faults g c = let n = network_in c.args.alpha.now c.args.beta.now c.args.traffic.now in let n_now = network_in c.flow.new.alpha c.flow.new.beta c.flow.new.traffic in
    elim c.match-flow.branch [
      | in-Ok w ↦ on_any c.match-flow.result (from_ok c.flow.result _ w.in-Ok.is
          (quiet_ok n _ n_now _ (index_of c.args.which) c.args.now _ _ c.requires.quiet c.flow.result c.flow.ensures.step (notes_of c.flow.new.traffic) 1 _ _ _ c.flow.ensures.beta_faults))
      | in-Err w ↦ never_ok _ c.match-flow.result _ w.result-is
    ]
