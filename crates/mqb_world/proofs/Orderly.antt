-- What holds of a world because a run stands behind it.
use Rattle.std.proofs.Common.{◌≡◌, ℕ, Bool, true, List, Option, None, Some, length, refl, sym, ap, subst, ◌∙◌}
use Rattle.std.proofs.lemmas.List.{length-map}
use Rattle.std.specs.Prelude.{is_some}
use Rattle.mqb_history.specs.Laws.{HistoriesAreOrderly, RunsHaveHistories}
use Rattle.mqb_history.specs.Orderly.{IsItself, IsLinkedRightly, IsOrderly}
use Rattle.mqb_model.specs.managers.Manager.{Manager}
use Rattle.mqb_moves.specs.Seats.{seated}
use Rattle.mqb_network.specs.Network.{Network, is_connected, manager_at}
use Rattle.mqb_network.specs.Runs.{Move, after_run}
use Rattle.mqb_packet.specs.Plain.{plain_spelling}
use Rattle.mqb_runs.specs.Hosts.{alpha, beta, hosts}
use Rattle.mqb_runs.specs.lemmas.Orderly.{run_is_orderly}
use Rattle.mqb_script.specs.declared.managers.Which.{Which}
use Rattle.mqb_script.specs.declared.managers.Which.TheVariants.{Alpha, Beta}
use Rattle.mqb_traffic.specs.Networks.{index_of, network_with, note_of}
use Rattle.mqb_traffic.specs.States.{TrafficState}
use Rattle.mqb_traffic.specs.declared.notes.Link.{Link}
use Rattle.mqb_world.specs.Ordered.{IsOrdered}
use Rattle.mqb_world.specs.Standing.{Stands}
use Rattle.mqb_world.specs.Worlds.{WorldState, network_of}

-- both are connected where a link stands
linked_is : (a b : Manager) (t : TrafficState) (which : Which) → is_connected (network_with a b t) (index_of which) ≡ is_some t.link
linked_is a b t which = at t.link which
  where
    by : (k : ℕ) (initiator which : Which) → is_connected (network_with a b (record t { link = Some (record { number = k; initiator = initiator }) })) (index_of which) ≡ true
    by k Alpha Alpha = refl
    by k Alpha Beta = refl
    by k Beta Alpha = refl
    by k Beta Beta = refl

    at : (o : Option Link) (which : Which) → is_connected (network_with a b (record t { link = o })) (index_of which) ≡ is_some o
    at None Alpha = refl
    at None Beta = refl
    at (Some l) which = by l.number l.initiator which

module _ (runs : RunsHaveHistories) (orderly : HistoriesAreOrderly) (w : WorldState) (strings : List (List ℕ)) (ms : List Move) (stands : Stands w strings ms) where
  is_orderly : IsOrderly hosts (after_run hosts ms)
  is_orderly = run_is_orderly runs orderly ms stands.run

  noted : length w.traffic.notes ≡ length strings
  noted = sym (length-map w.traffic.notes note_of) ∙ ap (λ (n : Network). length n.notes) stands.stands.network ∙ is_orderly.noted
      ∙ sym (length-map (after_run hosts ms).sent plain_spelling) ∙ ap length (sym stands.stands.spelled)

  linked : (which : Which) → IsLinkedRightly (is_some w.traffic.link) (manager_at (network_of w) (index_of which))
  linked which = subst (λ (b : Bool). IsLinkedRightly b (manager_at (network_of w) (index_of which))) (linked_is (seated w.alpha) (seated w.beta) w.traffic which)
      (subst (λ (n : Network). IsLinkedRightly (is_connected n (index_of which)) (manager_at n (index_of which))) (sym stands.stands.network) (is_orderly.linked (index_of which)))

  -- It is ordered.
  pub is_ordered : IsOrdered w strings
  is_ordered = record {
    packets = record { packets = (after_run hosts ms).sent; writable = stands.stands.writable; are = stands.stands.spelled };
    within = stands.stands.within;
    noted = noted;
    begun = stands.stands.begun;
    alpha_linked = linked Alpha;
    beta_linked = linked Beta;
    alpha_itself = subst (λ (n : Network). IsItself hosts alpha (manager_at n 0).state) (sym stands.stands.network) (is_orderly.themselves 0);
    beta_itself = subst (λ (n : Network). IsItself hosts beta (manager_at n 1).state) (sym stands.stands.network) (is_orderly.themselves 1);
  }
