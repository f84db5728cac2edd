-- A connection of a channel begins, in the course and in the stream world.
use Rattle.std.proofs.Common.{refl, ap, sym, subst, ◌∙◌, arith, inl, inr}
use Rattle.std.specs.Prelude.{[], ◌+◌, ◌==◌, ◌∷◌, ◌≡◌, ◌≤◌, ◌⊎◌, Bool, IfSome, None, false, suc, true, ℕ}
use Rattle.mqb_base.specs.declared.queue_names.QueueName.{QueueName}
use Rattle.mqb_exactly_once.specs.Steps.{Connect, End, happens}
use Rattle.mqb_exactly_once.specs.Words.{In}
use Rattle.mqb_exactly_once.specs.World.{Channel, StreamWorld}
use Rattle.mqb_model.specs.declared.answers.Role.{Role}
use Rattle.mqb_model.specs.declared.answers.Role.TheVariants as role
use Rattle.mqb_model.specs.managers.Manager.{doubt_of}
use Rattle.mqb_model.specs.state.State.{State}
use Rattle.mqb_network.specs.Changes.{connection_to}
use Rattle.mqb_network.specs.Connecting.{asking, linked_as}
use Rattle.mqb_network.specs.Courses.{Course}
use Rattle.mqb_network.specs.Network.{Connection, Network, Note, manager_at}
use Rattle.mqb_history.specs.Changes.{Links, changed}
use Rattle.mqb_history.specs.Decided.{written_of}
use Rattle.mqb_history.specs.Shown.{ShowsDestination, ShowsPackets, ShowsReceipts}
use Rattle.mqb_history.proofs.Beginning.{linked_condition, linked_same_state}
use Rattle.mqb_history.proofs.Between.{AreEnds, in_either}
use Rattle.mqb_history.proofs.Catching.{note_in}
use Rattle.mqb_history.proofs.Linked.{IsLinked}
use Rattle.mqb_history.proofs.Lists.{apart_numbers, equal_numbers}
use Rattle.mqb_history.proofs.Reaching.{more}
use Rattle.mqb_history.proofs.Recording.{Awaits}
use Rattle.mqb_history.proofs.Ruling.{MayRule}
use Rattle.mqb_history.proofs.Sourcing.{AreRowsShown, rows_over}

module _ (c : Course) (i j : ℕ) (ch : Channel) (d : QueueName) (peer : ℕ) (a b window_a window_b : ℕ) (low : (note : Note) → In note c.network.notes → note.connection ≤ c.network.connected)
    (up : (x : ℕ) → (x ≡ a) ⊎ (x ≡ b) → doubt_of (manager_at c.network x).condition ≡ None) (apart : i ≡ j → ⊥) (h : IsLinked c i j ch d peer) where
  abbrev z : Course
  z = changed (Links a b window_a window_b) c

  abbrev end : Role
  end = asking (manager_at c.network a).state (manager_at c.network b).state.identity.guid

  abbrev first : Network
  first = linked_as a end window_a c.network

  abbrev second : Network
  second = linked_as b role.Acceptor window_b first

  abbrev new : Connection
  new = connection_to second a b

  state : (x : ℕ) → (manager_at z.network x).state ≡ (manager_at c.network x).state
  state x = linked_same_state first b x role.Acceptor window_b ∙ linked_same_state c.network a x end window_a

  condition : (x : ℕ) → (manager_at z.network x).condition ≡ (manager_at c.network x).condition
  condition x = linked_condition first b x role.Acceptor window_b ∙ linked_condition c.network a x end window_a

  rows_now : AreRowsShown d peer (manager_at z.network i).state.outs h.world
  rows_now = subst (λ (s : State). AreRowsShown d peer s.outs h.world) (sym (state i)) h.rows

  decided_now : ShowsDestination ch (manager_at z.network j).state.ins (written_of j z.written) h.world.decided
  decided_now = subst (λ (s : State). ShowsDestination ch s.ins (written_of j c.written) h.world.decided) (sym (state j)) h.decided

  -- of another pair
  other_begins : ((i ≡ a) → (j ≡ b) → ⊥) → ((i ≡ b) → (j ≡ a) → ⊥) → IsLinked z i j ch d peer
  other_begins differ turned = record {
    world = h.world;
    reached = h.reached;
    channel = h.channel;
    connected = h.connected;
    rows = rows_now;
    committed = h.committed;
    expired = h.expired;
    decided = decided_now;
    number = h.number;
    standing = λ e inside ends. standing e ends (in_either c.network.connections (new ∷ []) e inside);
    packets = h.packets;
    transfers_sent = h.transfers_sent;
    acks_sent = h.acks_sent;
    finals_sent = h.finals_sent;
    receipts = h.receipts;
    doubt = subst (λ x. IfSome (doubt_of x) (MayRule ch h.world.transfers h.world.connection)) (sym (condition j)) h.doubt;
    fates = h.fates;
    awaits = subst (λ x. IfSome (doubt_of x) (Awaits d h.world.order_acks h.world.connection (manager_at z.network i).state.outs)) (sym (condition i))
        (subst (λ (s : State). IfSome (doubt_of (manager_at c.network i).condition) (Awaits d h.world.order_acks h.world.connection s.outs)) (sym (state i)) h.awaits);
  }
    where
      none : AreEnds new i j → ⊥
      none (inl f) = differ f.0 f.1
      none (inr f) = turned f.0 f.1

      standing : (e : Connection) → AreEnds e i j → In e c.network.connections ⊎ In e (new ∷ []) → e.number ≡ h.number
      standing e ends (inl inside) = h.standing e inside ends
      standing e ends (inr (inl same)) = absurd (none (subst (λ x. AreEnds x i j) (sym same) ends))
      standing e ends (inr (inr nothing)) = absurd nothing

  -- of this one
  own_begins : (i ≡ a) ⊎ (i ≡ b) → (j ≡ a) ⊎ (j ≡ b) → ((e : Connection) → In e c.network.connections → AreEnds e i j → ⊥) → IsLinked z i j ch d peer
  own_begins from into free = record {
    world = happens ended Connect;
    reached = more ch ended Connect (more ch h.world End h.reached tt) refl;
    channel = h.channel;
    connected = refl;
    rows = rows_over d peer (manager_at z.network i).state.outs h.world (happens ended Connect) refl refl refl refl rows_now;
    committed = h.committed;
    expired = h.expired;
    decided = decided_now;
    number = c.network.connected + 1;
    standing = λ e inside ends. standing e ends (in_either c.network.connections (new ∷ []) e inside);
    packets = packets;
    transfers_sent = h.transfers_sent;
    acks_sent = h.acks_sent;
    finals_sent = h.finals_sent;
    receipts = receipts;
    doubt = subst (λ x. IfSome x (MayRule ch h.world.transfers (suc h.world.connection))) (sym (ap doubt_of (condition j) ∙ up j into)) tt;
    fates = h.fates;
    awaits = subst (λ x. IfSome x (Awaits d h.world.order_acks (suc h.world.connection) (manager_at z.network i).state.outs)) (sym (ap doubt_of (condition i) ∙ up i from)) tt;
  }
    where
      ended : StreamWorld
      ended = happens h.world End

      standing : (e : Connection) → AreEnds e i j → In e c.network.connections ⊎ In e (new ∷ []) → e.number ≡ c.network.connected + 1
      standing e ends (inl inside) = absurd (free e inside ends)
      standing e ends (inr (inl same)) = ap (λ (x : Connection). x.number) (sym same)
      standing e ends (inr (inr nothing)) = absurd nothing

      packets : ShowsPackets i j d c.network.notes c.sent (c.network.connected + 1) (suc h.world.connection) h.world.transfers
      packets k note p tx e f t sender receiver to = let x = h.packets k note p tx e f t sender receiver to in
          (x.0, x.1, x.2, λ same. let le = low note (note_in c.network.notes k note e) in absurd (omega (arith, le, same)))

      receipts : ShowsReceipts i j ch (written_of j z.written) c.network.notes c.sent (c.network.connected + 1) (suc h.world.connection) h.world.order_acks
      receipts k note p e f t is sender receiver = let x = h.receipts k note p e f t is sender receiver in record {
        position = x.position;
        spelled = x.spelled;
        of = x.of;
        source = x.source;
        decided = x.decided;
        shown = λ own. let y = x.shown own in (y.0, y.1, y.2, λ same. let le = low note (note_in c.network.notes k note e) in absurd (omega (arith, le, same)));
      }

  pub begins_linked : ((x : ℕ) → (x ≡ a) ⊎ (x ≡ b) → (e : Connection) → In e c.network.connections → (y : ℕ) → AreEnds e x y → ⊥) → IsLinked z i j ch d peer
  begins_linked free = at (i == a) refl (j == b) refl (i == b) refl (j == a) refl
    where
      at : (p : Bool) → (i == a) ≡ p → (q : Bool) → (j == b) ≡ q → (r : Bool) → (i == b) ≡ r → (s : Bool) → (j == a) ≡ s → IsLinked z i j ch d peer
      at true e true f r g s k = own_begins (inl (equal_numbers i a e)) (inr (equal_numbers j b f)) (λ x inside ends. free i (inl (equal_numbers i a e)) x inside j ends)
      at p e false f true g true k = own_begins (inr (equal_numbers i b g)) (inl (equal_numbers j a k)) (λ x inside ends. free i (inr (equal_numbers i b g)) x inside j ends)
      at false e q f true g true k = own_begins (inr (equal_numbers i b g)) (inl (equal_numbers j a k)) (λ x inside ends. free i (inr (equal_numbers i b g)) x inside j ends)
      at p e false f false g s k = other_begins (λ x y. apart_numbers j b f y) (λ x y. apart_numbers i b g x)
      at p e false f true g false k = other_begins (λ x y. apart_numbers j b f y) (λ x y. apart_numbers j a k y)
      at false e true f false g s k = other_begins (λ x y. apart_numbers i a e x) (λ x y. apart_numbers i b g x)
      at false e true f true g false k = other_begins (λ x y. apart_numbers i a e x) (λ x y. apart_numbers j a k y)
