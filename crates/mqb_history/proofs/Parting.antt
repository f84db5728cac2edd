-- A manager whose connection ended has none.
use Rattle.std.proofs.Common.{refl, ap, ◌∙◌}
use Rattle.std.specs.List.{list_any}
use Rattle.std.specs.Option.{option_map_or}
use Rattle.std.specs.Prelude.{◌&&◌, ◌≡◌, Bool, List, None, Option, Some, false, is_none, not, true, ℕ}
use Rattle.mqb_base.specs.declared.ids.Identity.{Identity}
use Rattle.mqb_model.specs.managers.Manager.{Condition, Down, Up, doubt_of, is_down}
use Rattle.mqb_network.specs.Changes.{ended, ended_by}
use Rattle.mqb_network.specs.Courses.{Course}
use Rattle.mqb_network.specs.Network.{Connection, Network, connection_of, is_connected, is_end, manager_at}
use Rattle.mqb_history.specs.Orderly.{AreAllDisjoint, IsOrderly}
use Rattle.mqb_history.proofs.Connections.{any_ended, found_passes, none_found}
use Rattle.mqb_history.proofs.Lists.{clash, true_not_false}

free : (n : Network) (i : ℕ) → AreAllDisjoint n.connections → is_connected (ended i n) i ≡ false
free n i disjoint = at (connection_of n i) refl
  where
    and_false : (b : Bool) → (b && false) ≡ false
    and_false true = refl
    and_false false = refl

    at : (o : Option Connection) → connection_of n i ≡ o → is_connected (option_map_or (ended_by n) o n) i ≡ false
    at None e = none_found (is_end i) n.connections e
    at (Some c) e = any_ended i i c n.connections disjoint e
        ∙ ap (λ b. list_any (is_end i) n.connections && not b) (found_passes (is_end i) n.connections c e)
        ∙ and_false (list_any (is_end i) n.connections)

pub ended_free : (known : List Identity) (c : Course) (i : ℕ) → IsOrderly known c → is_connected (ended i c.network) i ≡ false
ended_free known c i o = free c.network i o.disjoint

doubt_down : (x : Condition) → is_none (doubt_of x) ≡ false → (elim x [ Up ↦ false | Down doubt ↦ true ]) ≡ true
doubt_down Up e = absurd (clash e)
doubt_down (Down doubt) e = refl

-- a manager with a record in doubt is down, and so has none
pub doubt_free : (known : List Identity) (c : Course) (i : ℕ) → IsOrderly known c → is_none (doubt_of (manager_at c.network i).condition) ≡ false → is_connected c.network i ≡ false
doubt_free known c i o e = at (is_connected c.network i) refl
  where
    at : (b : Bool) → is_connected c.network i ≡ b → b ≡ false
    at true f = absurd (true_not_false (is_down (manager_at c.network i)) (doubt_down (manager_at c.network i).condition e) ((o.linked i).up f))
    at false f = refl
