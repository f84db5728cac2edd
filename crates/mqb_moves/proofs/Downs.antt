-- A manager that is down refuses each call.
use Rattle.mqb_model.proofs.Requests.{refused, request_laws}
use Rattle.mqb_moves.specs.Downs.{DownRefusesAll}

pub down_refuses_all : DownRefusesAll
down_refuses_all m down = record {
  requests = λ request. (request_laws m request).down down;
  hears = λ p now. refused m _ _ _ _ down;
  pumps = λ now. refused m _ _ _ _ down;
}
