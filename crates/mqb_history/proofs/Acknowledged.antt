-- What is acknowledged was decided: packets say so, rows know it, and committed messages wait until then.
use Rattle.std.proofs.Common.{refl, ap, sym, subst, ◌∙◌, arith, inl, inr}
use Rattle.std.proofs.lemmas.Bool.Decides.{nat_tests}
use Rattle.std.specs.Prelude.{◌<◌, ◌≡◌, ◌≤◌, ◌⊎◌, Bool, List, false, length, nat_le, nat_lt, true, ℕ}
use Rattle.mqb_base.specs.declared.class.TheConstants.Class.{NORMAL}
use Rattle.mqb_base.specs.declared.ids.Guid.{Guid}
use Rattle.mqb_base.specs.declared.ids.Identity.{Identity}
use Rattle.mqb_base.specs.declared.ids.MessageId.{MessageId}
use Rattle.mqb_base.specs.declared.ids.SequenceId.{SequenceId}
use Rattle.mqb_base.specs.declared.message.Message.{Message}
use Rattle.mqb_exactly_once.specs.Words.{In, position_of}
use Rattle.mqb_exactly_once.specs.World.{Channel, Commitment, Position}
use Rattle.mqb_fate.specs.Asking.{is_ordinary}
use Rattle.mqb_fate.specs.Orders.{is_final_class}
use Rattle.mqb_network.specs.Courses.{Course}
use Rattle.mqb_network.specs.Doubts.{settled}
use Rattle.mqb_network.specs.Laws.{AreApart, lines_written}
use Rattle.mqb_network.specs.Network.{manager_at}
use Rattle.mqb_network.specs.Runs.{after_run}
use Rattle.mqb_packet.specs.declared.packet.UserPacket.{UserPacket}
use Rattle.mqb_history.specs.Acked.{AreAcknowledgedTruly, AreAcknowledgingTruly, AreWaitingUntilDecided, IsDecidedThere, WaitsAbove, WasDecidedThere}
use Rattle.mqb_history.specs.Committed.{commitments, numbers_in}
use Rattle.mqb_history.specs.Decided.{decisions, written_of}
use Rattle.mqb_history.specs.Expired.{expiries_told}
use Rattle.mqb_history.specs.Laws.{AlwaysAcknowledgedTruly, AlwaysAcknowledgingTruly, AlwaysWaitingUntilDecided}
use Rattle.mqb_history.specs.Skipped.{AreUnskipped, HasExpiredAt}
use Rattle.mqb_history.specs.Waiting.{AreWaiting, IsInRow}
use Rattle.mqb_history.proofs.Answering.{IsCredible, credible_begins, credible_closed, sound_of}
use Rattle.mqb_history.proofs.Believing.{decides_in, same_committed}
use Rattle.mqb_history.proofs.Committing.{IsOwnBelow, all_in}
use Rattle.mqb_history.proofs.Crediting.{IsItsOwn, IsSound, own_decided, row_known, row_of}
use Rattle.mqb_history.proofs.Later.{DecideIt, IsAckedTruly, IsNote, Known, Unused}
use Rattle.mqb_history.proofs.Lists.{clash, equal_numbers, get_within, within_get}
use Rattle.mqb_history.proofs.Previous.{in_numbers}
use Rattle.mqb_history.proofs.Rows.{HasRow}
use Rattle.mqb_history.proofs.Runs.{always_kept}
use Rattle.mqb_history.proofs.Sparing.{expired_committed}
use Rattle.mqb_history.proofs.Undecided.{IsKnown, committed_one, known_one, one_manager}
use Rattle.mqb_history.proofs.Skipping.{always_unskipped}
use Rattle.mqb_history.proofs.Waiting.{always_waiting, range_from}

-- an ordinary message is no final acknowledgement
not_ordinary : (m : Message) → is_ordinary m ≡ true → is_final_class m.class ≡ true → ⊥
not_ordinary m e f = clash (sym (subst (λ n. is_final_class (record { 0 = n }) ≡ true) (equal_numbers m.class.0 NORMAL.0 e) f))

module _ (known : List Identity) (apart : AreApart known) (c : Course) (h : IsCredible known c) where
  sound : IsSound known c
  sound = sound_of known c h

  abbrev guid_at : ℕ → Guid
  guid_at i = (manager_at c.network i).state.identity.guid

  abbrev committed_by : ℕ → List Commitment
  committed_by i = commitments (written_of i c.written)

  -- Packets.

  pub committer : (i : ℕ) (m : Commitment) → In m (committed_by i) → IsKnown known c i
  committer i m inside = committed_one known c i m sound.orderly (sound.marked i).0.0.0 inside

  -- what a manager committed has its identifier
  own_id : (i : ℕ) (m : Commitment) → In m (committed_by i) → m.message.id.qm ≡ guid_at i
  own_id i m inside = (all_in (IsOwnBelow (guid_at i) (manager_at c.network i).state.next_number) (committed_by i) m (sound.marked i).0.0.0.0.0.own_ids inside).0

  -- a record of one manager decides what another one committed
  pub record IsNamedBy (i j : ℕ) (m : Commitment) : Type 0 where
    pub decided : DecideIt (written_of j c.written) m.message.id
    pub position : position_of decided.head ≡ m.position
    pub source : decided.packet.message.id.qm ≡ guid_at i
    pub destination : decided.packet.message.destination ≡ m.message.destination

  pub names_decided : (j : ℕ) (p : UserPacket) → IsNote known c j p → is_final_class p.message.class ≡ true → (i : ℕ) (m : Commitment) → (i ≡ j → ⊥) → In m (committed_by i)
      → m.message.id ≡ p.message.correlation → IsNamedBy i j m
  names_decided j p note final i m other inside same = by note.about
    where
      sender : IsKnown known c j
      sender = at note.within
        where
          at : j < length known → IsKnown known c j
          at low = let x = within_get c.network.managers j (let count = sound.orderly.count in omega (arith, low, count)) in known_one known c j x.0 sound.orderly x.1

      mine : guid_at i ≡ p.message.correlation.qm
      mine = sym (own_id i m inside) ∙ ap (λ (x : MessageId). x.qm) same

      place : HasRow (manager_at c.network i).state.outs m
      place = row_of known apart c sound i m inside

      decided : DecideIt (written_of j c.written) m.message.id → IsNamedBy i j m
      decided d = record {
        decided = d;
        position = sym own.position ∙ ap (λ (x : Commitment). x.position) one;
        source = qm;
        destination = own.destination ∙ ap (λ (x : Commitment). x.message.destination) one;
      }
        where
          qm : d.packet.message.id.qm ≡ guid_at i
          qm = ap (λ (x : MessageId). x.qm) (d.names ∙ same) ∙ sym mine

          own : IsItsOwn known apart c sound i d.packet d.head
          own = own_decided known apart c sound i j place.0 d.written d.now d.numbers d.packet d.head place.1 d.there d.entry d.tx qm

          one : own.commitment ≡ m
          one = same_committed (committed_by i) own.commitment m (sound.marked i).0.0.0.0.0.differ own.there inside (sym own.id ∙ d.names)

      unused : Unused known c p.message.correlation → ⊥
      unused u = let is = committer i m inside in (u i (get_within known i is.own is.there) mine).uncommitted m inside (ap (λ (x : MessageId). x.number) same)

      by : (is_ordinary p.message ≡ true) ⊎ Known known c j p.message.correlation → IsNamedBy i j m
      by (inl e) = absurd (not_ordinary p.message e final)
      by (inr (inl e)) = absurd (other (one_manager known c i j apart (committer i m inside) sender (mine ∙ e)))
      by (inr (inr (inl d))) = decided (subst (DecideIt (written_of j c.written)) (sym same) d)
      by (inr (inr (inr u))) = absurd (unused u)

  -- so it is among its decisions
  pub named_decided : (i j : ℕ) (m : Commitment) → IsNamedBy i j m → In m.position (decisions (record { source = guid_at i; destination = m.message.destination }) (written_of j c.written))
  named_decided i j m g = subst (λ (ch : Channel). In m.position (decisions ch (written_of j c.written))) channel
      (subst (λ (q : Position). In q (decisions (record { source = d.packet.message.id.qm; destination = d.packet.message.destination }) (written_of j c.written))) g.position
      (decides_in (written_of j c.written) d.written d.now d.numbers d.packet d.head d.there d.entry d.tx))
    where
      d : DecideIt (written_of j c.written) m.message.id
      d = g.decided

      channel : ◌≡◌ {A = Channel} (record { source = d.packet.message.id.qm; destination = d.packet.message.destination }) (record { source = guid_at i; destination = m.message.destination })
      channel = ap (λ x. record { source = x; destination = d.packet.message.destination }) g.source ∙ ap (λ x. record { source = guid_at i; destination = x }) g.destination

  pub acknowledging : AreAcknowledgingTruly c
  acknowledging k note p e f t = let told = (h.honest.packets k note p e f).plain t in
      record { order = told.order; final = λ durable final i m other inside same. named_decided i note.sender m (names_decided note.sender p (told.plain durable) final i m other inside same) }

  -- Rows.

  acknowledged : AreUnskipped c → AreAcknowledgedTruly c
  acknowledged unskipped i row n inside positive low = by (all_in (IsAckedTruly c i) (manager_at c.network i).state.outs row (h.honest.managers i).rows inside)
    where
      expired : HasExpiredAt c (guid_at i) (record { sequence = row.sequence; number = n }) → In {A = Position} (record { sequence = row.sequence; number = n }) (expiries_told (lines_written (written_of i c.written)))
      expired g = subst (λ k. In {A = Position} (record { sequence = row.sequence; number = n }) (expiries_told (lines_written (written_of k c.written)))) same g.told
        where
          found : (m : Commitment) × In m (committed_by g.manager) × (m.position ≡ record { sequence = row.sequence; number = n })
          found = expired_committed (manager_at c.network g.manager).state (written_of g.manager c.written) (record { sequence = row.sequence; number = n }) (sound.marked g.manager).0.0 g.told

          same : g.manager ≡ i
          same = one_manager known c g.manager i apart (committer g.manager found.0 found.1) (row_known known apart c sound i row inside) g.own

      under : nat_lt n row.acked ≡ false → row.acked ≡ n
      under e = grind (arith, nat_tests)

      below : nat_lt n row.acked ≡ true → n < row.acked
      below e = grind (arith, nat_tests)

      reached : (g : IsDecidedThere c i row row.acked) → (b : Bool) → nat_lt n row.acked ≡ b
          → IsDecidedThere c i row n ⊎ In {A = Position} (record { sequence = row.sequence; number = n }) (expiries_told (lines_written (written_of i c.written)))
      reached g false e = inl (subst (IsDecidedThere c i row) (under e) g)
      reached g true e = at (unskipped g.decider (record { source = guid_at i; destination = row.destination }) (record { sequence = row.sequence; number = row.acked }) n
          g.decided positive (below e))
        where
          at : In {A = Position} (record { sequence = row.sequence; number = n }) (decisions (record { source = guid_at i; destination = row.destination }) (written_of g.decider c.written))
              ⊎ HasExpiredAt c (guid_at i) (record { sequence = row.sequence; number = n })
              → IsDecidedThere c i row n ⊎ In {A = Position} (record { sequence = row.sequence; number = n }) (expiries_told (lines_written (written_of i c.written)))
          at (inl d) = inl (record { decider = g.decider; leads = g.leads; decided = d })
          at (inr x) = inr (expired x)

      by : (row.acked ≡ 0) ⊎ IsDecidedThere c i row row.acked
          → IsDecidedThere c i row n ⊎ In {A = Position} (record { sequence = row.sequence; number = n }) (expiries_told (lines_written (written_of i c.written)))
      by (inl e) = absurd (omega (arith, positive, low, e))
      by (inr g) = reached g (nat_lt n row.acked) refl

  -- Committed messages.

  -- numbers begin at 1
  pub numbered_up : (i : ℕ) (m : Commitment) → In m (committed_by i) → 0 < m.position.number
  numbered_up i m inside = let low = range_from 1 (length (numbers_in m.position.sequence (committed_by i))) m.position.number
      (subst (In m.position.number) ((sound.marked i).0.0.0.0.0.numbered m.position.sequence) (in_numbers (committed_by i) m inside)) in omega (arith, low)

  waiting : AreWaiting c → AreAcknowledgedTruly c → AreWaitingUntilDecided c
  waiting waits truly i m inside = by (waits i m inside)
    where
      Expires : Type 0
      Expires = In m.position (expiries_told (lines_written (written_of i c.written)))

      above : (a n : ℕ) → nat_le n a ≡ false → a < n
      above a n e = grind (arith, nat_tests)

      within : (a n : ℕ) → nat_le n a ≡ true → n ≤ a
      within a n e = grind (arith, nat_tests)

      acked : (g : IsInRow (manager_at c.network i).state m) → m.position.number ≤ g.row.acked
          → WaitsAbove (manager_at c.network i).state m ⊎ (WasDecidedThere c i m ⊎ Expires)
      acked g low = at (truly i g.row m.position.number g.there (numbered_up i m inside) low)
        where
          at : IsDecidedThere c i g.row m.position.number ⊎ In {A = Position} (record { sequence = g.row.sequence; number = m.position.number }) (expiries_told (lines_written (written_of i c.written)))
              → WaitsAbove (manager_at c.network i).state m ⊎ (WasDecidedThere c i m ⊎ Expires)
          at (inl d) = inr (inl (record { row = g.row; there = g.there; sequence = g.sequence; destination = g.destination; decided = d }))
          at (inr x) = inr (inr (subst (λ (q : SequenceId). In {A = Position} (record { sequence = q; number = m.position.number }) (expiries_told (lines_written (written_of i c.written)))) g.sequence x))

      of_row : (g : IsInRow (manager_at c.network i).state m) → (b : Bool) → nat_le m.position.number g.row.acked ≡ b
          → (m.position.number ≤ g.row.acked) ⊎ In (record { number = m.position.number; message = m.message }) g.row.kept
          → WaitsAbove (manager_at c.network i).state m ⊎ (WasDecidedThere c i m ⊎ Expires)
      of_row g true e w = acked g (within g.row.acked m.position.number e)
      of_row g false e (inl low) = acked g low
      of_row g false e (inr k) = inl (record { row = g.row; there = g.there; sequence = g.sequence; destination = g.destination; above = above g.row.acked m.position.number e; kept = k })

      by : IsInRow (manager_at c.network i).state m ⊎ Expires → WaitsAbove (manager_at c.network i).state m ⊎ (WasDecidedThere c i m ⊎ Expires)
      by (inl g) = of_row g (nat_le m.position.number g.row.acked) refl g.waits
      by (inr x) = inr (inr x)

-- The laws.

pub always_acknowledging_truly : AlwaysAcknowledgingTruly
always_acknowledging_truly known ms apart run kept = acknowledging known apart (settled kept (after_run known ms))
    (always_kept known (IsCredible known) (credible_closed known apart) ms run kept (credible_begins known))

pub always_acknowledged_truly : AlwaysAcknowledgedTruly
always_acknowledged_truly known ms apart run kept = acknowledged known apart (settled kept (after_run known ms))
    (always_kept known (IsCredible known) (credible_closed known apart) ms run kept (credible_begins known)) (always_unskipped known ms apart run kept)

pub always_waiting_until_decided : AlwaysWaitingUntilDecided
always_waiting_until_decided known ms apart run kept = waiting known apart (settled kept (after_run known ms))
    (always_kept known (IsCredible known) (credible_closed known apart) ms run kept (credible_begins known))
    (always_waiting known ms apart run kept) (always_acknowledged_truly known ms apart run kept)
