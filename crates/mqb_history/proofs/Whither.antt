-- What is acknowledged of a row was decided where its channel leads.
use Rattle.std.proofs.Common.{refl, ap, sym, subst, ◌∙◌, inl, inr}
use Rattle.std.specs.Prelude.{[], ◌∷◌, ◌≡◌, ◌⊎◌, IfSome, List, None, Option, Some, option_map, slice_get, unwrap_or, ℕ}
use Rattle.mqb_base.specs.declared.ids.Guid.{Guid}
use Rattle.mqb_base.specs.declared.ids.Identity.{Identity}
use Rattle.mqb_base.specs.declared.queue_names.QueueName.{QueueName}
use Rattle.mqb_exactly_once.specs.Words.{In}
use Rattle.mqb_exactly_once.specs.World.{Channel, Position}
use Rattle.mqb_model.specs.managers.Manager.{Manager}
use Rattle.mqb_model.specs.state.State.{State}
use Rattle.mqb_network.specs.Courses.{Course}
use Rattle.mqb_network.specs.Laws.{AreApart}
use Rattle.mqb_network.specs.Network.{manager_at, nobody, others}
use Rattle.mqb_orders.specs.Rows.{Row}
use Rattle.mqb_history.specs.Acked.{IsDecidedThere}
use Rattle.mqb_history.specs.Decided.{decisions, written_of}
use Rattle.mqb_history.specs.Orderly.{IsItself, IsOrderly}
use Rattle.mqb_history.proofs.Chained.{Route, channel_on}
use Rattle.mqb_history.proofs.Deciding.{AreInOrder, last_of, place_of, row_of}
use Rattle.mqb_history.proofs.Later.{IsAckedTruly}
use Rattle.mqb_history.proofs.Linked.{IsAckedAt}
use Rattle.mqb_history.proofs.Lists.{none_some, some_is}
use Rattle.mqb_history.proofs.Undecided.{IsKnown, known_one, one_manager}

no_last : (ps : List Position) (p : Position) → None ≡ last_of ps → In p ps → ⊥
no_last [] p e inside = inside
no_last (q ∷ []) p e inside = none_some e
no_last (q ∷ r ∷ ps) p e inside = no_last (r ∷ ps) r e (inl refl)

guid_at : (o : Option Identity) (p : Identity) (g : Guid) → o ≡ Some p → option_map (λ (x : Identity). x.guid) o ≡ Some g → p.guid ≡ g
guid_at o p g e f = some_is p.guid g (sym (ap (option_map (λ (x : Identity). x.guid)) e) ∙ f)

module _ (known : List Identity) (apart : AreApart known) (c : Course) (o : IsOrderly known c) (order : (i : ℕ) → AreInOrder (manager_at c.network i).state (written_of i c.written)) where
  abbrev state_at : ℕ → State
  state_at i = (manager_at c.network i).state

  -- a manager that decided is one of those that are known
  decider_known : (j : ℕ) (channel : Channel) (p : Position) → In p (decisions channel (written_of j c.written)) → IsKnown known c j
  decider_known j channel p inside = at (slice_get c.network.managers j) refl
    where
      at : (x : Option Manager) → slice_get c.network.managers j ≡ x → IsKnown known c j
      at None e = absurd (no_last (decisions channel (written_of j c.written)) p
          (subst (λ (y : Option Manager). option_map place_of (row_of channel (unwrap_or y nobody).state.ins) ≡ last_of (decisions channel (written_of j c.written))) e (order j channel).row) inside)
      at (Some x) e = known_one known c j x o e

  module _ (i j : ℕ) (d : QueueName) (r : Route known i j d) where
    mine : IsItself known r.own (state_at i)
    mine = subst (λ x. IfSome x (λ y. IsItself known y (state_at i))) r.own_there (o.themselves i)

    theirs : IsItself known r.other (state_at j)
    theirs = subst (λ x. IfSome x (λ y. IsItself known y (state_at j))) r.other_there (o.themselves j)

    pub it_is : (row : Row) (n : ℕ) → row.peer ≡ r.peer → (there : IsDecidedThere c i row n) → there.decider ≡ j
    it_is row n same there = one_manager known c there.decider j apart (decider_known there.decider channel (record { sequence = row.sequence; number = n }) there.decided)
        (record { own = r.other; there = r.other_there; guid = guid }) (there.leads.is ∙ peer ∙ sym guid)
      where
        channel : Channel
        channel = record { source = (state_at i).identity.guid; destination = row.destination }

        guid : (state_at j).identity.guid ≡ r.other.guid
        guid = ap (λ (x : Identity). x.guid) theirs.identity

        peer : there.leads.peer.guid ≡ r.other.guid
        peer = guid_at (slice_get (state_at i).peers row.peer) there.leads.peer r.other.guid there.leads.there
            (ap (λ (ps : List Identity). option_map (λ (x : Identity). x.guid) (slice_get ps row.peer)) mine.peers
            ∙ ap (λ n. option_map (λ (x : Identity). x.guid) (slice_get (others known r.own) n)) same ∙ r.identity)

    pub acked_at : ((row : Row) → In row (state_at i).outs → IsAckedTruly c i row) → IsAckedAt c i j (channel_on known i j d r) d r.peer
    acked_at truly row inside to same = at (truly row inside)
      where
        at : IsAckedTruly c i row → (row.acked ≡ 0) ⊎ In (record { sequence = row.sequence; number = row.acked }) (decisions (channel_on known i j d r) (written_of j c.written))
        at (inl e) = inl e
        at (inr h) = inr (subst (λ (ch : Channel). In {A = Position} (record { sequence = row.sequence; number = row.acked }) (decisions ch (written_of j c.written))) channel
            (subst (λ k. In {A = Position} (record { sequence = row.sequence; number = row.acked }) (decisions (record { source = (state_at i).identity.guid; destination = row.destination }) (written_of k c.written)))
            (it_is row row.acked same h) h.decided))
          where
            channel : ◌≡◌ {A = Channel} (record { source = (state_at i).identity.guid; destination = row.destination }) (channel_on known i j d r)
            channel = ap (λ g. record { source = g; destination = row.destination }) (ap (λ (x : Identity). x.guid) mine.identity) ∙ ap (λ x. record { source = r.own.guid; destination = x }) to
