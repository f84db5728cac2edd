-- What managers know of messages and rows, and what is known of packets, stays so in a later course.
use Rattle.std.proofs.Common.{refl, ap, sym, subst, ◌∙◌, inl, inr}
use Rattle.std.specs.List.{AllByRecursion}
use Rattle.std.specs.Prelude.{[], ◌++◌, ◌==◌, ◌∷◌, ◌≡◌, ◌⊎◌, Bool, IfSome, List, None, Option, Some, cond, false, slice_get, true, unwrap_or, ℕ}
use Rattle.mqb_base.specs.declared.ids.Identity.{Identity}
use Rattle.mqb_model.specs.calls.Link.{unlink}
use Rattle.mqb_model.specs.managers.Beside.{Beside, beside_done}
use Rattle.mqb_model.specs.managers.Beside as beside
use Rattle.mqb_model.specs.managers.Manager.{Manager, doubt_of, is_down}
use Rattle.mqb_model.specs.managers.Outcomes.{failed, recorded, state_after, succeeded}
use Rattle.mqb_model.specs.records.Applying.{apply}
use Rattle.mqb_model.specs.records.Record.{Record}
use Rattle.mqb_model.specs.state.Durable.{durable}
use Rattle.mqb_model.specs.state.State.{State}
use Rattle.mqb_network.specs.Changes.{parted}
use Rattle.mqb_network.specs.Choices.{Failure}
use Rattle.mqb_network.specs.Courses.{Course, Written, written_by}
use Rattle.mqb_network.specs.Network.{Note, manager_at, nobody, with_manager}
use Rattle.mqb_orders.specs.Rows.{Row}
use Rattle.mqb_packet.specs.declared.packet.Packet.TheVariants as packet
use Rattle.mqb_packet.specs.declared.packet.UserPacket.{UserPacket}
use Rattle.mqb_queue.specs.Places.{numbered}
use Rattle.mqb_model.specs.calls.Call.{Call, outcome_of}
use Rattle.mqb_history.specs.Changes.{calling}
use Rattle.mqb_history.specs.Decided.{written_of}
use Rattle.mqb_history.specs.Made.{IsMade}
use Rattle.mqb_history.proofs.Acting.{DecidesPacket, IsTrueRecord}
use Rattle.mqb_history.proofs.Applying.{applied_manager, beside_rows, made_of_no_peer}
use Rattle.mqb_history.proofs.Ending.{parted_at}
use Rattle.mqb_history.proofs.Later.{CameRightly, IsAckedTruly, IsTold, Known, Later, LeadsFrom, Vacant, came_later, led_later, there_later, told_later}
use Rattle.mqb_history.proofs.Lists.{all_weaker, append_nothing, apart_numbers, equal_numbers, get_within, set_apart, set_get, set_there}
use Rattle.mqb_history.proofs.Named.{IsRightBeside, beside_knows, stored_knows}
use Rattle.mqb_history.proofs.Naming.{Knows}
use Rattle.mqb_history.proofs.Numbering.{AreCounted}
use Rattle.mqb_history.proofs.Ordering.{ended_notes, with_at}
use Rattle.mqb_history.proofs.Refusing.{down_changes_nothing}
use Rattle.mqb_history.proofs.Storing.{up_doubt}
use Rattle.mqb_history.proofs.Trusting.{beside_moved, quiet_knows, record_knows, record_rows, true_later}
use Rattle.mqb_history.proofs.Written.{absent_idle, of_append, other_more, own_more}
use Rattle.mqb_history.proofs.Committing.{in_split}
use Rattle.mqb_base.specs.declared.heads.TxHead.{TxHead}
use Rattle.mqb_exactly_once.specs.Words.{In}

-- what is known of a manager in a state
pub record IsRightAt (known : List Identity) (c : Course) (j : ℕ) (s : State) : Type 0 where
  pub knows : Knows (manager_at c.network j).state.identity.guid (Known known c j) (Vacant c j) s
  pub rows : AllByRecursion (IsAckedTruly c j) s.outs

-- what is known of a packet that a manager sent: whether it is in no stream, or in one
pub record IsTrulySent (known : List Identity) (c : Course) (j : ℕ) (p : UserPacket) : Type 0 where
  pub plain : p.tx ≡ None → IsTold known c j p
  pub stream : (tx : TxHead) → p.tx ≡ Some tx → LeadsFrom (manager_at c.network j).state p.to p.message.destination

abbrev pub AreTruePackets : List Identity → Course → Type 0
AreTruePackets known c = (k : ℕ) (note : Note) (p : UserPacket) → numbered c.network.notes k ≡ Some note → numbered c.sent k ≡ Some (packet.User p) → IsTrulySent known c note.sender p

-- what a manager decided came from where it leads there
abbrev pub HaveCome : List Identity → Course → ℕ → Type 0
HaveCome known c j = (w : Written) → In w (written_of j c.written) → (p : UserPacket) → DecidesPacket w.entry p → CameRightly known c j p

-- a record in doubt is true
abbrev pub HasTrueDoubt : List Identity → Course → ℕ → Manager → Type 0
HasTrueDoubt known c j m = IfSome (doubt_of m.condition) (IsTrueRecord known c j m.state)

-- What is known of managers and packets of a course.
pub record IsHonestly (known : List Identity) (c : Course) : Type 0 where
  pub managers : (j : ℕ) → IsRightAt known c j (manager_at c.network j).state
  pub packets : AreTruePackets known c
  pub doubts : (j : ℕ) → HasTrueDoubt known c j (manager_at c.network j)
  pub written : (j : ℕ) → HaveCome known c j

module _ (known : List Identity) (c d : Course) (later : Later known c d) (counted : (j : ℕ) → AreCounted (manager_at c.network j).state (written_of j c.written)) where
  abbrev old_state : ℕ → State
  old_state j = (manager_at c.network j).state

  own_as : (j : ℕ) (s : State) → Knows (old_state j).identity.guid (Known known d j) (Vacant d j) s → Knows (manager_at d.network j).state.identity.guid (Known known d j) (Vacant d j) s
  own_as j s h = subst (λ g. Knows g (Known known d j) (Vacant d j) s) (sym (later.guid j)) h

  acked_on : (j : ℕ) (row : Row) → IsAckedTruly c j row → IsAckedTruly d j row
  acked_on j row (inl e) = inl e
  acked_on j row (inr h) = inr (there_later known c d later j row row.acked h)

  -- without a record
  pub quiet_right : (j : ℕ) → written_of j d.written ≡ written_of j c.written → IsRightAt known c j (old_state j) → IsRightAt known d j (old_state j)
  quiet_right j same h = record {
    knows = own_as j (old_state j) (quiet_knows known c d later j (counted j) h.knows same);
    rows = all_weaker (IsAckedTruly c j) (IsAckedTruly d j) (acked_on j) (old_state j).outs h.rows;
  }

  -- with one
  pub recorded_right : (i : ℕ) (o : Option Record) → IfSome o (IsMade (old_state i)) → IfSome o (IsTrueRecord known c i (old_state i))
      → written_of i d.written ≡ written_of i c.written ++ written_by i (manager_at c.network i) o → IsRightAt known c i (old_state i) → IsRightAt known d i (recorded (old_state i) o)
  recorded_right i None made truly written h = quiet_right i (written ∙ append_nothing (written_of i c.written)) h
  recorded_right i (Some r) made truly written h = record {
    knows = own_as i (apply (old_state i) r) (record_knows known c d later i (counted i) h.knows r made truly written);
    rows = record_rows known c d later i (counted i) h.knows r made truly written h.rows;
  }

  -- with what is done beside it
  pub beside_right : (j : ℕ) (b : Beside) (s : State) → IsRightBeside s b → IsRightAt known d j s → IsRightAt known d j (beside_done b s)
  beside_right j b s right h = record {
    knows = beside_knows (manager_at d.network j).state.identity.guid (Known known d j) (Vacant d j) (λ id e. inl e) b s right h.knows;
    rows = subst (AllByRecursion (IsAckedTruly d j)) (sym (beside_rows b s).outs) h.rows;
  }

  pub stored_right : (j : ℕ) (s : State) → IsRightAt known d j s → IsRightAt known d j (durable s)
  stored_right j s h = record {
    knows = stored_knows (manager_at d.network j).state.identity.guid (Known known d j) (Vacant d j) (λ id e. inl e) s h.knows;
    rows = h.rows;
  }

  pub parted_right : (j : ℕ) (m : Manager) → IsRightAt known d j m.state → IsRightAt known d j (parted m).state
  parted_right j m h = at (is_down m)
    where
      at : (b : Bool) → IsRightAt known d j (cond b m (succeeded m (unlink m))).state
      at true = h
      at false = beside_right j beside.Unmarks m.state tt h

  -- what a call does beside its record is right behind it
  moved_beside : (i : ℕ) (o : Option Record) (b : Beside) → IfSome o (IsMade (old_state i)) → IsRightBeside (old_state i) b → IsRightBeside (recorded (old_state i) o) b
  moved_beside i None b made right = right
  moved_beside i (Some r) b made right = beside_moved b (old_state i) (apply (old_state i) r) (applied_manager (old_state i) r (made_of_no_peer (old_state i) r made)) right

  -- Managers.

  -- one manager is in this state now
  pub at_right : (i : ℕ) (m : Manager) → ((j : ℕ) → (i ≡ j → ⊥) → written_of j d.written ≡ written_of j c.written)
      → (slice_get c.network.managers i ≡ None → written_of i d.written ≡ written_of i c.written) → IsRightAt known d i m.state → ((j : ℕ) → IsRightAt known c j (old_state j))
      → (j : ℕ) → IsRightAt known d j (manager_at (with_manager c.network i m) j).state
  at_right i m elsewhere absent new old j = at (i == j) refl
    where
      here : (x : Option Manager) → slice_get c.network.managers i ≡ x → IsRightAt known d i (manager_at (with_manager c.network i m) i).state
      here None e = set_get (λ x. IsRightAt known d i (unwrap_or x nobody).state) c.network.managers i i m (quiet_right i (absent e) (old i)) (λ same lt. new)
      here (Some x) e = subst (λ y. IsRightAt known d i (unwrap_or y nobody).state) (sym (set_there c.network.managers i m (get_within c.network.managers i x e))) new

      at : (b : Bool) → (i == j) ≡ b → IsRightAt known d j (manager_at (with_manager c.network i m) j).state
      at true f = subst (λ k. IsRightAt known d k (manager_at (with_manager c.network i m) k).state) (equal_numbers i j f) (here (slice_get c.network.managers i) refl)
      at false f = subst (λ y. IsRightAt known d j (unwrap_or y nobody).state) (sym (set_apart c.network.managers i j m (apart_numbers i j f)))
          (quiet_right j (elsewhere j (apart_numbers i j f)) (old j))

  -- one is in another state, and none wrote anything
  pub still_right : (i : ℕ) (m : Manager) → d.written ≡ c.written → IsRightAt known d i m.state → ((j : ℕ) → IsRightAt known c j (old_state j))
      → (j : ℕ) → IsRightAt known d j (manager_at (with_manager c.network i m) j).state
  still_right i m same new old = at_right i m (λ j apart. ap (written_of j) same) (λ e. ap (written_of i) same) new old

  -- one wrote a record
  pub wrote_right : (i : ℕ) (m : Manager) (o : Option Record) → d.written ≡ c.written ++ written_by i (manager_at c.network i) o → (slice_get c.network.managers i ≡ None → o ≡ None)
      → IsRightAt known d i m.state → ((j : ℕ) → IsRightAt known c j (old_state j)) → (j : ℕ) → IsRightAt known d j (manager_at (with_manager c.network i m) j).state
  wrote_right i m o same absent new old = at_right i m (λ j apart. ap (written_of j) same ∙ other_more i j (manager_at c.network i) o c.written apart)
      (λ e. ap (written_of i) same ∙ own_more i (manager_at c.network i) o c.written ∙ ap (λ x. written_of i c.written ++ written_by i (manager_at c.network i) x) (absent e)
      ∙ append_nothing (written_of i c.written)) new old

  -- its record joined its own
  pub joined : (i : ℕ) (o : Option Record) → d.written ≡ c.written ++ written_by i (manager_at c.network i) o
      → written_of i d.written ≡ written_of i c.written ++ written_by i (manager_at c.network i) o
  joined i o same = ap (written_of i) same ∙ own_more i (manager_at c.network i) o c.written

  pub calling_right : (i : ℕ) (call : Call) (failure : Option Failure) → d.written ≡ (calling i call failure c).written
      → IfSome (outcome_of (manager_at c.network i) call).entry (IsMade (old_state i)) → IfSome (outcome_of (manager_at c.network i) call).entry (IsTrueRecord known c i (old_state i))
      → IsRightBeside (old_state i) (outcome_of (manager_at c.network i) call).beside → ((j : ℕ) → IsRightAt known c j (old_state j))
      → (j : ℕ) → IsRightAt known d j (manager_at (calling i call failure c).network j).state
  calling_right i call None same made truly right old j = let m = manager_at c.network i in let outcome = outcome_of m call in
      wrote_right i (succeeded m outcome) outcome.entry same (absent_idle c.network i call)
      (beside_right i outcome.beside (recorded m.state outcome.entry) (moved_beside i outcome.entry outcome.beside made right)
      (recorded_right i outcome.entry made truly (joined i outcome.entry same) (old i))) old j
  calling_right i call (Some how) same made truly right old j = let m = manager_at c.network i in let outcome = outcome_of m call in
      parted_at (λ x. IsRightAt known d j x.state) (with_manager c.network i (failed m outcome)) i j (parted_right j)
      (still_right i (failed m outcome) same (quiet_right i (ap (written_of i) same) (old i)) old j)

  -- Records in doubt.

  true_on : (j : ℕ) (s : State) (o : Option Record) → IfSome o (IsTrueRecord known c j s) → IfSome o (IsTrueRecord known d j s)
  true_on j s None h = tt
  true_on j s (Some r) h = true_later known c d later j s r h

  pub doubt_on : (j : ℕ) (m : Manager) → HasTrueDoubt known c j m → HasTrueDoubt known d j m
  doubt_on j m h = true_on j m.state (doubt_of m.condition) h

  pub parted_doubt_true : (j : ℕ) (m : Manager) → HasTrueDoubt known d j m → HasTrueDoubt known d j (parted m)
  parted_doubt_true j m h = at (is_down m) refl
    where
      at : (b : Bool) → is_down m ≡ b → HasTrueDoubt known d j (cond b m (succeeded m (unlink m)))
      at true e = h
      at false e = up_doubt m.condition (IsTrueRecord known d j (succeeded m (unlink m)).state) e

  after_doubt : (i : ℕ) (m : Manager) (call : Call) → HasTrueDoubt known d i m → HasTrueDoubt known d i (succeeded m (outcome_of m call))
  after_doubt i m call h = at (is_down m) refl
    where
      at : (b : Bool) → is_down m ≡ b → HasTrueDoubt known d i (succeeded m (outcome_of m call))
      at false e = up_doubt m.condition (IsTrueRecord known d i (state_after m (outcome_of m call))) e
      at true e = subst (λ s. IfSome (doubt_of m.condition) (IsTrueRecord known d i s)) (sym (down_changes_nothing m call e)) h

  -- one manager is another now
  pub at_doubt : (i : ℕ) (m : Manager) → HasTrueDoubt known d i m → ((j : ℕ) → HasTrueDoubt known c j (manager_at c.network j))
      → (j : ℕ) → HasTrueDoubt known d j (manager_at (with_manager c.network i m) j)
  at_doubt i m new old j = with_at (HasTrueDoubt known d j) c.network i j m (doubt_on j (manager_at c.network j) (old j)) (λ e. subst (λ k. HasTrueDoubt known d k m) e new)

  pub calling_doubts : (i : ℕ) (call : Call) (failure : Option Failure) → IfSome (outcome_of (manager_at c.network i) call).entry (IsTrueRecord known c i (old_state i))
      → ((j : ℕ) → HasTrueDoubt known c j (manager_at c.network j)) → (j : ℕ) → HasTrueDoubt known d j (manager_at (calling i call failure c).network j)
  calling_doubts i call None truly old j = let m = manager_at c.network i in at_doubt i (succeeded m (outcome_of m call)) (after_doubt i m call (doubt_on i m (old i))) old j
  calling_doubts i call (Some how) truly old j = let m = manager_at c.network i in let outcome = outcome_of m call in
      parted_at (HasTrueDoubt known d j) (with_manager c.network i (failed m outcome)) i j (parted_doubt_true j)
      (at_doubt i (failed m outcome) (true_on i m.state outcome.entry truly) old j)

  -- Packets.

  pub sent_later : (j : ℕ) (p : UserPacket) → IsTrulySent known c j p → IsTrulySent known d j p
  sent_later j p h = record {
    plain = λ t. told_later known c d later j p (h.plain t);
    stream = λ tx t. led_later known c d later j p.to p.message.destination (h.stream tx t);
  }

  pub packets_on : AreTruePackets known c → (k : ℕ) (note : Note) (p : UserPacket) → numbered c.network.notes k ≡ Some note → numbered c.sent k ≡ Some (packet.User p)
      → IsTrulySent known d note.sender p
  packets_on h k note p e f = sent_later note.sender p (h k note p e f)

  pub calling_packets : (i : ℕ) (call : Call) (failure : Option Failure) → AreTruePackets known c → (k : ℕ) (note : Note) (p : UserPacket)
      → numbered (calling i call failure c).network.notes k ≡ Some note → numbered (calling i call failure c).sent k ≡ Some (packet.User p) → IsTrulySent known d note.sender p
  calling_packets i call None h k note p e f = packets_on h k note p e f
  calling_packets i call (Some how) h k note p e f = packets_on h k note p
      (subst (λ (notes : List Note). numbered notes k ≡ Some note) (ended_notes (with_manager c.network i (failed (manager_at c.network i) (outcome_of (manager_at c.network i) call))) i) e) f

  -- Records.

  pub written_still : d.written ≡ c.written → ((j : ℕ) → HaveCome known c j) → (j : ℕ) → HaveCome known d j
  written_still same old j w inside p f = came_later known c d later j p (old j w (subst (λ ws. In w (written_of j ws)) same inside) p f)

  pub written_more : (i : ℕ) (o : Option Record) → d.written ≡ c.written ++ written_by i (manager_at c.network i) o → IfSome o (IsTrueRecord known c i (old_state i))
      → ((j : ℕ) → HaveCome known c j) → (j : ℕ) → HaveCome known d j
  written_more i None same truly old = written_still (same ∙ append_nothing c.written) old
  written_more i (Some r) same truly old = λ j w inside p f. at j w p f (in_split (written_of j c.written) (written_of j (one ∷ [])) w
      (subst (In w) (ap (written_of j) same ∙ of_append j c.written (one ∷ [])) inside))
    where
      one : Written
      one = record { by = i; before = old_state i; entry = r }

      new : (j : ℕ) (w : Written) (p : UserPacket) → DecidesPacket w.entry p → (b : Bool) → (i == j) ≡ b → In w (cond b (one ∷ []) []) → CameRightly known d j p
      new j w p f true e (inl g) = subst (λ k. CameRightly known d k p) (equal_numbers i j e)
          (came_later known c d later i p (truly.decided p (subst (λ (x : Written). DecidesPacket x.entry p) (sym g) f)))
      new j w p f true e (inr g) = absurd g
      new j w p f false e g = absurd g

      at : (j : ℕ) (w : Written) (p : UserPacket) → DecidesPacket w.entry p → In w (written_of j c.written) ⊎ In w (written_of j (one ∷ [])) → CameRightly known d j p
      at j w p f (inl g) = came_later known c d later j p (old j w g p f)
      at j w p f (inr g) = new j w p f (i == j) refl g

  pub calling_written : (i : ℕ) (call : Call) (failure : Option Failure) → d.written ≡ (calling i call failure c).written
      → IfSome (outcome_of (manager_at c.network i) call).entry (IsTrueRecord known c i (old_state i)) → ((j : ℕ) → HaveCome known c j) → (j : ℕ) → HaveCome known d j
  calling_written i call None same truly old = written_more i (outcome_of (manager_at c.network i) call).entry same truly old
  calling_written i call (Some how) same truly old = written_still same old
