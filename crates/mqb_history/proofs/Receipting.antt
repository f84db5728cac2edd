-- What a manager acknowledges of a channel: a stream world goes on by acknowledging it.
use Rattle.mqb_history.proofs.Pumping.{IsOfMarks}
use Rattle.mqb_history.proofs.Inside.{applied_ins}
use Rattle.mqb_model.specs.managers.Outcomes.{recorded}
use Rattle.std.proofs.Common.{refl, ap, sym, subst, ◌∙◌, inl, inr}
use Rattle.std.specs.Prelude.{[], ◌∷◌, ◌≡◌, ◌⊎◌, Bool, List, None, Option, Some, false, option_map, true, ℕ, IfSome}
use Rattle.mqb_base.specs.Same.{same_bytes}
use Rattle.mqb_base.specs.declared.heads.TxHead.{TxHead}
use Rattle.mqb_exactly_once.specs.Steps.{Acknowledge, happens}
use Rattle.mqb_exactly_once.specs.Words.{In, newest}
use Rattle.mqb_exactly_once.specs.World.{Channel, Decision, OrderAck, Position, StreamWorld}
use Rattle.mqb_fate.specs.Orders.{ack_body}
use Rattle.mqb_model.specs.Lists.{first_where}
use Rattle.mqb_model.specs.records.Record.{Record}
use Rattle.mqb_model.specs.records.Record as entry
use Rattle.mqb_model.specs.state.Rows.{is_row_of}
use Rattle.mqb_model.specs.state.State.{State}
use Rattle.mqb_network.specs.Courses.{Written}
use Rattle.mqb_orders.specs.declared.rows.InRow.{InRow}
use Rattle.mqb_packet.specs.declared.packet.Packet.{Packet}
use Rattle.mqb_packet.specs.declared.packet.Packet.TheVariants as packet
use Rattle.mqb_packet.specs.declared.packet.UserPacket.{UserPacket}
use Rattle.mqb_history.specs.Acked.{is_order_ack}
use Rattle.mqb_history.specs.Decided.{decisions}
use Rattle.mqb_history.specs.Shown.{ShowsDestination}
use Rattle.mqb_history.proofs.Committing.{all_in}
use Rattle.mqb_history.proofs.Deciding.{first_is_found, place_of}
use Rattle.mqb_history.proofs.Distinct.{AreDistinctIn, found_itself}
use Rattle.mqb_history.proofs.Fresh.{AreTold, IsToldTruly}
use Rattle.mqb_history.proofs.Lists.{none_some, some_is, true_not_false}
use Rattle.mqb_history.proofs.Names.{same_bytes_is, same_bytes_refl}
use Rattle.mqb_history.proofs.Reaching.{Reached, more}
use Rattle.mqb_history.proofs.Spelling.{SpellsRow}

-- acknowledgements change nothing but what was told
pub record IsSameButTold (v w : StreamWorld) : Type 0 where
  pub channel : w.channel ≡ v.channel
  pub committed : w.committed ≡ v.committed
  pub expired : w.expired ≡ v.expired
  pub offered : w.offered ≡ v.offered
  pub acknowledged : w.acknowledged ≡ v.acknowledged
  pub decided : w.decided ≡ v.decided
  pub fates : w.fates ≡ v.fates
  pub transfers : w.transfers ≡ v.transfers
  pub final_acks : w.final_acks ≡ v.final_acks
  pub connection : w.connection ≡ v.connection
  pub connected : w.connected ≡ v.connected
  pub more : (a : OrderAck) → In a v.order_acks → In a w.order_acks

-- an acknowledgement of a position in a connection
abbrev pub HasAck : List OrderAck → Position → ℕ → Type 0
HasAck acks p connection = (a : OrderAck) × In a acks × (a.position ≡ p) × (a.connection ≡ connection)

-- one of these packets acknowledges a position
abbrev pub spelling : Position → List ℕ
spelling p = ack_body (record { sequence = p.sequence; number = p.number })

pub record HasTold (zs : List Packet) (p : Position) : Type 0 where
  pub user : UserPacket
  pub there : In (packet.User user) zs
  pub plain : user.tx ≡ None
  pub acks : is_order_ack user.message ≡ true
  pub spelled : user.message.body ≡ spelling p

-- or none does
abbrev pub NoneTells : List Packet → Position → Type 0
NoneTells zs p = (user : UserPacket) → In (packet.User user) zs → user.tx ≡ None → is_order_ack user.message ≡ true → user.message.body ≡ spelling p → ⊥

told_or_not : (p : Position) (zs : List Packet) → HasTold zs p ⊎ NoneTells zs p
told_or_not p [] = inr (λ user inside plain acks spelled. inside)
told_or_not p (x ∷ zs) = at x refl (told_or_not p zs)
  where
    same_user : (a b : UserPacket) → packet.User a ≡ packet.User b → a ≡ b
    same_user a b e = cc

    first : (user : UserPacket) → x ≡ packet.User user → (o : Option TxHead) → user.tx ≡ o → (b : Bool) → is_order_ack user.message ≡ b → (t : Bool) → same_bytes user.message.body (spelling p) ≡ t
        → HasTold zs p ⊎ NoneTells zs p → HasTold (x ∷ zs) p ⊎ NoneTells (x ∷ zs) p
    first user e None plain true acks true same rest = inl (record { user = user; there = inl e; plain = plain; acks = acks; spelled = same_bytes_is user.message.body (spelling p) same })
    first user e o f b g t h (inl rest) = inl (record { user = rest.user; there = inr rest.there; plain = rest.plain; acks = rest.acks; spelled = rest.spelled })
    first user e (Some tx) f b g t h (inr none) = inr (λ z inside plain acks spelled. by z inside plain acks spelled)
      where
        by : (z : UserPacket) → (x ≡ packet.User z) ⊎ In (packet.User z) zs → z.tx ≡ None → is_order_ack z.message ≡ true → z.message.body ≡ spelling p → ⊥
        by z (inl i) plain acks spelled = none_some (sym plain ∙ ap (λ (y : UserPacket). y.tx) (sym (same_user user z (sym e ∙ i))) ∙ f)
        by z (inr i) plain acks spelled = none z i plain acks spelled
    first user e None f false g t h (inr none) = inr (λ z inside plain acks spelled. by z inside plain acks spelled)
      where
        by : (z : UserPacket) → (x ≡ packet.User z) ⊎ In (packet.User z) zs → z.tx ≡ None → is_order_ack z.message ≡ true → z.message.body ≡ spelling p → ⊥
        by z (inl i) plain acks spelled = true_not_false (is_order_ack z.message) acks (ap (λ (y : UserPacket). is_order_ack y.message) (sym (same_user user z (sym e ∙ i))) ∙ g)
        by z (inr i) plain acks spelled = none z i plain acks spelled
    first user e None f true g false h (inr none) = inr (λ z inside plain acks spelled. by z inside plain acks spelled)
      where
        by : (z : UserPacket) → (x ≡ packet.User z) ⊎ In (packet.User z) zs → z.tx ≡ None → is_order_ack z.message ≡ true → z.message.body ≡ spelling p → ⊥
        by z (inl i) plain acks spelled = true_not_false (same_bytes user.message.body (spelling p))
            (subst (λ body. same_bytes body (spelling p) ≡ true) (sym (ap (λ (y : UserPacket). y.message.body) (same_user user z (sym e ∙ i)) ∙ spelled)) (same_bytes_refl (spelling p))) h
        by z (inr i) plain acks spelled = none z i plain acks spelled

    other : ((z : UserPacket) → x ≡ packet.User z → ⊥) → HasTold zs p ⊎ NoneTells zs p → HasTold (x ∷ zs) p ⊎ NoneTells (x ∷ zs) p
    other apart (inl rest) = inl (record { user = rest.user; there = inr rest.there; plain = rest.plain; acks = rest.acks; spelled = rest.spelled })
    other apart (inr none) = inr (λ z inside plain acks spelled. by z inside plain acks spelled)
      where
        by : (z : UserPacket) → (x ≡ packet.User z) ⊎ In (packet.User z) zs → z.tx ≡ None → is_order_ack z.message ≡ true → z.message.body ≡ spelling p → ⊥
        by z (inl i) plain acks spelled = apart z i
        by z (inr i) plain acks spelled = none z i plain acks spelled

    at : (y : Packet) → x ≡ y → HasTold zs p ⊎ NoneTells zs p → HasTold (x ∷ zs) p ⊎ NoneTells (x ∷ zs) p
    at (packet.User user) e rest = first user e user.tx refl (is_order_ack user.message) refl (same_bytes user.message.body (spelling p)) refl rest
    at y e rest = other (λ z f. let g = sym e ∙ f in let none : ⊥ = cc in none) rest

-- where packets tell what was decided last, the world does, and nothing else is told
pub record IsToldOn (c : Channel) (v : StreamWorld) (zs : List Packet) : Type 0 where
  pub world : StreamWorld
  pub reached : Reached c world
  pub same : IsSameButTold v world
  pub told : (p : Position) → HasTold zs p → newest v.decided ≡ Some p → HasAck world.order_acks p v.connection
  pub only : (a : OrderAck) → In a world.order_acks → In a v.order_acks ⊎ HasTold zs a.position

pub told_on : (c : Channel) (v : StreamWorld) (zs : List Packet) → Reached c v → v.connected ≡ true → IsToldOn c v zs
told_on c v zs r connected = at (newest v.decided) refl
  where
    nothing : ((p : Position) → HasTold zs p → newest v.decided ≡ Some p → ⊥) → IsToldOn c v zs
    nothing none = record {
      world = v;
      reached = r;
      same = record { channel = refl; committed = refl; expired = refl; offered = refl; acknowledged = refl; decided = refl; fates = refl; transfers = refl; final_acks = refl; connection = refl; connected = refl; more = λ a i. i };
      told = λ p tells f. absurd (none p tells f);
      only = λ a i. inl i;
    }

    by : (q : Position) → newest v.decided ≡ Some q → HasTold zs q ⊎ NoneTells zs q → IsToldOn c v zs
    by q e (inr none) = nothing (λ p tells f. none tells.user tells.there tells.plain tells.acks (subst (λ x. tells.user.message.body ≡ spelling x) (sym (some_is q p (sym e ∙ f))) tells.spelled))
    by q e (inl tells) = record {
      world = happens v (Acknowledge q);
      reached = more c v (Acknowledge q) r (connected, e);
      same = record { channel = refl; committed = refl; expired = refl; offered = refl; acknowledged = refl; decided = refl; fates = refl; transfers = refl; final_acks = refl; connection = refl; connected = refl; more = λ a i. inr i };
      told = λ p t f. (record { position = q; connection = v.connection }, inl refl, some_is q p (sym e ∙ f), refl);
      only = λ a i. first a i;
    }
      where
        first : (a : OrderAck) → In a (happens v (Acknowledge q)).order_acks → In a v.order_acks ⊎ HasTold zs a.position
        first a (inl same) = inr (subst (HasTold zs) (ap (λ (x : OrderAck). x.position) same) tells)
        first a (inr i) = inl i

    at : (o : Option Position) → newest v.decided ≡ o → IsToldOn c v zs
    at None e = nothing (λ p tells f. none_some (sym e ∙ f))
    at (Some q) e = by q e (told_or_not q zs)

-- a packet tells what was decided last of some channel
pub record Tells (c : Channel) (written : List Written) (ds : List Decision) (p : UserPacket) : Type 0 where
  pub position : Position
  pub spelled : p.message.body ≡ ack_body (record { sequence = position.sequence; number = position.number })
  pub of : Channel
  pub source : of.source ≡ p.to
  pub decided : In position (decisions of written)
  pub last : of ≡ c → newest ds ≡ Some position

row_newest : (c : Channel) (r : InRow) (o : Option Position) → Some r ≡ option_map (λ p. record { source = c.source; destination = c.destination; sequence = p.sequence; last = p.number }) o → o ≡ Some (place_of r)
row_newest c r None e = absurd (none_some (sym e))
row_newest c r (Some p) e = ap (λ x. Some (place_of x)) (some_is (record { source = c.source; destination = c.destination; sequence = p.sequence; last = p.number }) r (sym e))

-- what holds of a manager's incoming rows
abbrev pub AreTelling : State → List Written → Type 0
AreTelling s ws = AreDistinctIn s ws × AreTold s ws

pub row_tells : (c : Channel) (s t : State) (written : List Written) (ds : List Decision) (p : UserPacket) → AreTelling s written → ShowsDestination c s.ins written ds → s.ins ≡ t.ins
    → SpellsRow t p.to p.message → Tells c written ds p
row_tells c s t written ds p telling h same_ins g = record {
  position = place_of g.row;
  spelled = g.spelled;
  of = own;
  source = g.source;
  decided = all_in (IsToldTruly written) s.ins g.row telling.1.ins there;
  last = λ same. row_newest c g.row (newest ds) (sym (subst (λ (x : Channel). first_where (is_row_of x.source x.destination) s.ins ≡ Some g.row) same
      (first_is_found (is_row_of own.source own.destination) s.ins ∙ found_itself s.ins g.row telling.0 there)) ∙ h.row);
}
  where
    own : Channel
    own = record { source = g.row.source; destination = g.row.destination }

    there : In g.row s.ins
    there = subst (In g.row) (sym same_ins) g.there

-- a record of marks leaves them
pub marks_ins : (s : State) (o : Option Record) → IfSome o IsOfMarks → (recorded s o).ins ≡ s.ins
marks_ins s None h = refl
marks_ins s (Some (entry.Offered marks)) h = applied_ins s (entry.Offered marks) tt
marks_ins s o h = absurd h
