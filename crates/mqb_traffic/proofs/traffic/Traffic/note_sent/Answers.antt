use Rattle.std.proofs.Common.{List, ap, ◌∙◌}
use Rattle.mqb_network.specs.Changes.{noted}
use Rattle.mqb_traffic.specs.Networks.{index_of, network_with}
use Rattle.mqb_traffic.specs.States.{TrafficState}
use Rattle.mqb_traffic.specs.declared.notes.Note.{Note}
use Rattle.mqb_traffic.proofs.Noting.{noted_in, on_ok}
use Rattle.mqb_traffic.proofs.traffic.Traffic.note_sent.Goals as goal

pub returns : goal.returns
returns c = let t : TrafficState = record { link = c.self.inside.link; connected = c.self.inside.connected; notes = c.self.inside.notes.items; ledger = c.self.inside.ledger.items } in
    on_ok c.add_notes.result _ _ c.add_notes.ensures (λ is alpha beta.
    ap (λ (ns : List Note). network_with alpha beta (record t { notes = ns })) is
    ∙ noted_in alpha beta t c.in-Some.link c.args.now c.args.count c.args.sender c.in-Some.is
    ∙ ap (λ (s : TrafficState). noted (index_of c.args.sender) c.args.now c.args.count (network_with alpha beta s)) c.self.view_is)
