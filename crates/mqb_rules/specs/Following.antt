-- What follows when a message meets a class.
use Rattle.std.specs.Option.{option_map_or}
use Rattle.std.specs.Prelude.{Option}
use Rattle.mqb_base.specs.declared.message.Message.{Message}
use Rattle.mqb_model.specs.rules.Notices.{told}
use Rattle.mqb_model.specs.state.Resolving.{resolved}
use Rattle.mqb_model.specs.state.State.{State}

-- a notice that follows goes where it leads
abbrev pub told_of : State → Option Message → State
told_of s notice = option_map_or (λ n. told s (resolved s n.destination) n) notice s
