-- How a connection ends between two managers.
use Rattle.std.proofs.Common.{◌≡◌, ◌==◌, ℕ, Bool, true, false, cond, [], ◌∷◌, Option, None, Some, refl, sym, ap, subst, ◌∙◌, arith}
use Rattle.std.proofs.lemmas.Bool.Decides.{nat_tests}
use Rattle.std.specs.Prelude.{filter, not}
use Rattle.mqb_model.specs.managers.Manager.{Manager}
use Rattle.mqb_seats.specs.Holding.{StaysStored}
use Rattle.mqb_seats.specs.Seats.{SeatState, seated}
use Rattle.mqb_seats.specs.Stored.{same_stores}
use Rattle.mqb_network.specs.Changes.{ended}
use Rattle.mqb_network.specs.Network.{Connection, Network, is_connected}
use Rattle.mqb_script.specs.declared.managers.Which.{Which}
use Rattle.mqb_script.specs.declared.managers.Which.TheVariants.{Alpha, Beta}
use Rattle.mqb_traffic.specs.Networks.{connection_of, connections_of, index_of, network_with, parted_where}
use Rattle.mqb_traffic.specs.States.{TrafficState}
use Rattle.mqb_traffic.specs.declared.notes.Link.{Link}
use Rattle.mqb_turns.specs.Settling.{EndedWhere}
use Rattle.mqb_turns.specs.Sides.{Side, network_at, side}

-- both managers forget the connection that stood
pub parted_so : (stood : Bool) (s t a b : SeatState) (u v : TrafficState)
    → ((alpha beta : Manager) (either : Which) → ended (index_of either) (network_with alpha beta u) ≡ network_with (parted_where stood alpha) (parted_where stood beta) v)
    → seated t ≡ parted_where stood (seated s) → seated b ≡ parted_where stood (seated a)
    → (which either : Which) → ended (index_of either) (network_at which (side s a u)) ≡ network_at which (side t b v)
parted_so stood s t a b u v ends own other Alpha either = ends (seated s) (seated a) either
    ∙ ap (λ (m : Manager). network_with m (parted_where stood (seated a)) v) (sym own) ∙ ap (λ (m : Manager). network_with (seated t) m v) (sym other)
parted_so stood s t a b u v ends own other Beta either = ends (seated a) (seated s) either
    ∙ ap (λ (m : Manager). network_with m (parted_where stood (seated s)) v) (sym other) ∙ ap (λ (m : Manager). network_with (seated b) m v) (sym own)

-- whether the two are connected
pub linked_so : (linked : Bool) (s a : SeatState) (u : TrafficState) → ((alpha beta : Manager) (either : Which) → linked ≡ is_connected (network_with alpha beta u) (index_of either))
    → (which either : Which) → is_connected (network_at which (side s a u)) (index_of either) ≡ linked
linked_so linked s a u says Alpha either = sym (says (seated s) (seated a) either)
linked_so linked s a u says Beta either = sym (says (seated a) (seated s) either)

-- Where none stands, none ends.

number_is : (k : ℕ) → (k == k) ≡ true
number_is k = grind (arith, nat_tests)

left_none : (l : Link) → filter (λ (d : Connection). not (d.number == l.number)) (connection_of l ∷ []) ≡ []
left_none l = ap (λ (b : Bool). cond (not b) (connection_of l ∷ []) []) (number_is l.number)

none_of : (o : Option Link) → connections_of o ≡ [] → o ≡ None
none_of None is = refl
none_of (Some l) is = absurd (let none : ⊥ = cc in none)

connections_left : (a b : Manager) (u : TrafficState) (o : Option Link) → u.link ≡ o → (ended 0 (network_with a b (record u { link = o }))).connections ≡ []
connections_left a b u None is = refl
connections_left a b u (Some l) is = at l.number l.initiator
  where
    at : (k : ℕ) (w : Which) → (ended 0 (network_with a b (record u { link = Some (record { number = k; initiator = w }) }))).connections ≡ []
    at k Alpha = left_none (record { number = k; initiator = Alpha })
    at k Beta = left_none (record { number = k; initiator = Beta })

link_left : (stood : Bool) (a b : Manager) (u v : TrafficState)
    → ((alpha beta : Manager) (either : Which) → ended (index_of either) (network_with alpha beta u) ≡ network_with (parted_where stood alpha) (parted_where stood beta) v)
    → v.link ≡ None
link_left stood a b u v ends = none_of v.link (sym (ap (λ (n : Network). n.connections) (ends a b Alpha)) ∙ connections_left a b u u.link refl)

none_ends : (a b : Manager) (v : TrafficState) (i : ℕ) → v.link ≡ None → ended i (network_with a b v) ≡ network_with a b v
none_ends a b v i is = subst (λ (o : Option Link). ended i (network_with a b (record v { link = o })) ≡ network_with a b (record v { link = o })) (sym is) refl

pub none_again : (stood : Bool) (t b : SeatState) (u v : TrafficState)
    → ((alpha beta : Manager) (either : Which) → ended (index_of either) (network_with alpha beta u) ≡ network_with (parted_where stood alpha) (parted_where stood beta) v)
    → (which either : Which) → ended (index_of either) (network_at which (side t b v)) ≡ network_at which (side t b v)
none_again stood t b u v ends Alpha either = none_ends (seated t) (seated b) v (index_of either) (link_left stood (seated t) (seated b) u v ends)
none_again stood t b u v ends Beta either = none_ends (seated b) (seated t) v (index_of either) (link_left stood (seated b) (seated t) u v ends)

pub none_left : (stood : Bool) (t b : SeatState) (u v : TrafficState)
    → ((alpha beta : Manager) (either : Which) → ended (index_of either) (network_with alpha beta u) ≡ network_with (parted_where stood alpha) (parted_where stood beta) v)
    → (which : Which) → (network_at which (side t b v)).connections ≡ []
none_left stood t b u v ends Alpha = ap connections_of (link_left stood (seated t) (seated b) u v ends)
none_left stood t b u v ends Beta = ap connections_of (link_left stood (seated b) (seated t) u v ends)

-- What both stores have stays, whether the connection ended or not.
pub ended_stored : (which : Which) (b : Bool) (x y : Side) → EndedWhere which b x y → StaysStored x.own y.own × StaysStored x.other y.other
ended_stored which true x y parted = (parted.own, parted.beside)
ended_stored which false x y same = (
  subst (λ (z : Side). StaysStored x.own z.own) (sym same) (same_stores x.own),
  subst (λ (z : Side). StaysStored x.other z.other) (sym same) (same_stores x.other),
)
