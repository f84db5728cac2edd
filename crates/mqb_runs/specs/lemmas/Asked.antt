-- What a network is asked for by an event that is a request.
use Rattle.std.proofs.Common.{◌≡◌, Option, None, Some, refl, ap}
use Rattle.std.specs.Option.{option_map_or}
use Rattle.std.specs.Prelude.{IsSome}
use Rattle.mqb_model.specs.calls.Call.{Request}
use Rattle.mqb_network.specs.Events as network
use Rattle.mqb_script.specs.declared.events.Event.{Event}
use Rattle.mqb_runs.specs.Events.{apart, event_of}
use Rattle.mqb_runs.specs.Requests.{actor, request_of}

pub none_some : IsSome {T = Request} None → ⊥
none_some some = let none : ⊥ = cc in none

pub asked_so : (asked : Event) (o : Option Request) → request_of asked ≡ o → IsSome o
    → (request : Request) × (o ≡ Some request)
    × (event_of asked ≡ network.Asks (actor asked) request)
asked_so asked (Some request) is some = (
  request,
  refl,
  ap (λ (o : Option Request). option_map_or (network.Asks (actor asked)) o (apart asked)) is,
)
asked_so asked None is some = absurd (none_some some)
