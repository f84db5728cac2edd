-- The lines that say what a manager holds.
use Rattle.std.specs.List.{flat_map}
use Rattle.std.specs.Prelude.{◌++◌, ◌∷◌, List, ℕ}
use Rattle.mqb_base.specs.declared.ids.Identity.{Identity}
use Rattle.mqb_listing.specs.Lines.{in_line, machine_lines, out_line, queue_lines}
use Rattle.mqb_contents.specs.mqb_model.state.State.{State}

-- what a manager of a host holds, printed with some managers as their hosts
unfoldable pub listed : List Identity → List ℕ → State → List ℕ
listed hosts host s = flat_map (queue_lines hosts host) s.places.queues
    ++ machine_lines hosts host s.places
    ++ flat_map (out_line host) s.outs
    ++ flat_map (in_line hosts host) s.ins

-- The lines of a manager: it and its peers are printed as their hosts.
abbrev pub listing : State → List ℕ
listing s = listed (s.identity ∷ s.peers) s.identity.host s
