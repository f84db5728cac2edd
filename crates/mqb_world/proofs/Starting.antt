-- A world in which nothing happened yet.
use Rattle.std.proofs.Common.{◌≡◌, ◌+◌, [], ◌∷◌, None, refl, ap, ◌∙◌, arith}
use Rattle.mqb_model.specs.managers.Manager.{Manager}
use Rattle.mqb_moves.specs.Seats.{SeatState, records_of, seated}
use Rattle.mqb_network.specs.Network.{formatted}
use Rattle.mqb_script.specs.declared.managers.Which.{Which}
use Rattle.mqb_script.specs.declared.managers.Which.TheVariants.{Alpha, Beta}
use Rattle.mqb_traffic.specs.Networks.{index_of, network_with}
use Rattle.mqb_traffic.specs.States.{TrafficState}
use Rattle.mqb_turns.specs.Counts.{counts_with}
use Rattle.mqb_runs.specs.Hosts.{alpha, beta}
use Rattle.mqb_world.specs.Standing.{Stands}

-- no traffic
abbrev none_yet : TrafficState
none_yet = record { link = None; connected = 0; notes = []; ledger = [] }

-- the empty run stands behind it
pub begun : (a b : SeatState) → seated a ≡ formatted alpha (beta ∷ []) → seated b ≡ formatted beta (alpha ∷ []) → records_of a ≡ 2 → records_of b ≡ 2
    → Stands (record { alpha = a; beta = b; traffic = none_yet }) [] []
begun a b first second two also = record {
  run = tt;
  stands = record {
    network = ap (λ (m : Manager). network_with m (seated b) none_yet) first ∙ ap (λ (m : Manager). network_with (formatted alpha (beta ∷ [])) m none_yet) second;
    spelled = refl;
    writable = tt;
    within = record { bytes = omega arith; count = omega arith };
    counted = counted;
    begun = omega arith;
  };
}
  where
    counted : (which : Which) → counts_with a b (index_of which) ≡ 2 + 0
    counted Alpha = two
    counted Beta = also
