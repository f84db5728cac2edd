use Rattle.std.proofs.Common.{List, ap, arith, length, ◌-◌, ◌∙◌}
use Rattle.std.proofs.lemmas.List.{with_items_is}
use Rattle.std.specs.Prelude.{nat_lt}
use Rattle.mqb_model.specs.Lists.{with_changed}
use Rattle.mqb_network.specs.Changes.{dropped}
use Rattle.mqb_traffic.specs.Networks.{marked, network_with}
use Rattle.mqb_traffic.specs.States.{TrafficState}
use Rattle.mqb_traffic.specs.declared.notes.Note.{Note}
use Rattle.mqb_traffic.proofs.Noting.{dropped_there, is_there}
use Rattle.mqb_traffic.proofs.traffic.Traffic.drop_packet.Goals as goal

pub returns-clause-there : goal.returns-clause-there
returns-clause-there c = c.mark.ensures.there ∙ ap (λ (ns : List Note). nat_lt (c.args.k - 1) (length ns)) (c.deref_mut.ensures.value ∙ ap (λ (s : TrafficState). s.notes) c.self.view_is)
    ∙ is_there c.args.self.now c.args.k c.requires

pub returns-clause-dropped : goal.returns-clause-dropped
returns-clause-dropped c alpha beta = let t : TrafficState = record { link = c.self.inside.link; connected = c.self.inside.connected; notes = c.self.inside.notes.items; ledger = c.self.inside.ledger.items } in
    ap (λ (ns : List Note). network_with alpha beta (record t { notes = ns }))
    (with_items_is c.self.inside.notes c.mark.new.notes (omega arith) ∙ c.mark.ensures.marked ∙ ap (λ (ns : List Note). with_changed marked ns (c.args.k - 1)) c.deref_mut.ensures.value)
    ∙ dropped_there alpha beta t c.args.k c.requires
    ∙ ap (λ (s : TrafficState). dropped c.args.k (network_with alpha beta s)) c.self.view_is
