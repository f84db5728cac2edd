-- Sequences of one destination are decided one after another.
use Rattle.std.proofs.Common.{ap, sym, subst, ◌∙◌, arith, inl, inr}
use Rattle.std.specs.List.{AllByRecursion}
use Rattle.std.specs.Prelude.{[], ◌++◌, ◌<◌, ◌==◌, ◌∷◌, ◌≡◌, ◌≤◌, ◌⊎◌, List, true, ℕ}
use Rattle.mqb_base.specs.Same.{same_guid, same_name}
use Rattle.mqb_base.specs.declared.ids.Guid.{Guid}
use Rattle.mqb_base.specs.declared.ids.Identity.{Identity}
use Rattle.mqb_base.specs.declared.ids.SequenceId.{SequenceId}
use Rattle.mqb_base.specs.declared.message.Message.{Message}
use Rattle.mqb_exactly_once.specs.Words.{In}
use Rattle.mqb_exactly_once.specs.World.{Channel, Position}
use Rattle.mqb_model.specs.state.State.{State}
use Rattle.mqb_network.specs.Courses.{Course, Written}
use Rattle.mqb_network.specs.Doubts.{settled}
use Rattle.mqb_network.specs.Laws.{AreApart, lines_written}
use Rattle.mqb_network.specs.Network.{manager_at}
use Rattle.mqb_network.specs.Runs.{after_run}
use Rattle.mqb_orders.specs.Rows.{Row}
use Rattle.mqb_history.specs.Acked.{AreAcknowledgedTruly, IsDecidedThere}
use Rattle.mqb_history.specs.Begun.{AreBegunInOrder, AreDecidedAcross}
use Rattle.mqb_history.specs.Carried.{ComesFromItsSource, IsCommittedBy}
use Rattle.mqb_history.specs.Decided.{written_of}
use Rattle.mqb_history.specs.Expired.{expiries_told}
use Rattle.mqb_history.specs.Laws.{AlwaysDecidedAcross}
use Rattle.mqb_history.specs.Offered.{IsOffered}
use Rattle.mqb_history.proofs.Acknowledged.{always_acknowledged_truly, committer, numbered_up}
use Rattle.mqb_history.proofs.Answering.{IsCredible, credible_begins, credible_closed, sound_of}
use Rattle.mqb_history.proofs.Begun.{always_begun_in_order}
use Rattle.mqb_history.proofs.Committing.{all_in}
use Rattle.mqb_history.proofs.Crediting.{IsSound, row_of}
use Rattle.mqb_history.proofs.Led.{always_decided_by_one}
use Rattle.mqb_history.specs.Led.{AreDecidedByOne}
use Rattle.mqb_history.specs.Decided.{decisions}
use Rattle.mqb_base.specs.declared.queue_names.QueueName.{QueueName}
use Rattle.mqb_history.proofs.Lists.{split_and}
use Rattle.mqb_history.proofs.Names.{same_guid_is, same_name_is}
use Rattle.mqb_history.proofs.Offering.{AllStand, AreOffered, StandsIn, WasOffered, marks_in, offered_by_records}
use Rattle.mqb_history.proofs.Outside.{filtered_in}
use Rattle.mqb_history.proofs.Rows.{HasRow}
use Rattle.mqb_history.proofs.Runs.{always_kept}
use Rattle.mqb_history.proofs.Skipping.{Decides, sourced}
use Rattle.mqb_history.proofs.Undecided.{in_decisions, one_manager}
use Rattle.mqb_history.proofs.Written.{always_by_records}

-- the marks of each record stand
stand_at : (s : State) (before behind : List Written) (w : Written) → AllStand s (before ++ w ∷ behind) → AllByRecursion (StandsIn s) (marks_in w.entry)
stand_at s [] behind w h = h.0
stand_at s (x ∷ before) behind w h = stand_at s before behind w h.1

-- a row was offered as far as its manager offered a position of it
offered_row : (s : State) (ws : List Written) (row : Row) (p : Position) → AllStand s ws → In row s.outs → row.sequence ≡ p.sequence → IsOffered ws p → p.number ≤ row.offered
offered_row s ws row p stand inside same h = let low = g (ap (λ (q : SequenceId). q.ordinal) same ∙ sym h.ordinal) in let enough = h.enough in omega (arith, low, enough)
  where
    of_marks : AllByRecursion (StandsIn s) h.marks
    of_marks = subst (λ r. AllByRecursion (StandsIn s) (marks_in r)) h.offers (stand_at s h.before h.behind h.offering (subst (AllStand s) h.split stand))

    g : WasOffered h.mark row
    g = all_in (WasOffered h.mark) s.outs row (all_in (StandsIn s) h.marks h.mark of_marks h.there).offered inside

module _ (known : List Identity) (apart : AreApart known) (c : Course) (h : IsCredible known c) where
  abbrev guid_at : ℕ → Guid
  guid_at i = (manager_at c.network i).state.identity.guid

  across : ((i : ℕ) → AreOffered (manager_at c.network i).state (written_of i c.written)) → AreBegunInOrder c → AreAcknowledgedTruly c → AreDecidedByOne c → AreDecidedAcross c
  across offered begun truly by_one i j m p inside decided less = by done
    where
      channel : Channel
      channel = record { source = guid_at i; destination = m.message.destination }

      sound : IsSound known c
      sound = sound_of known c h

      found : (w : Written) × In w (written_of j c.written) × Decides channel w.entry p
      found = in_decisions channel p (written_of j c.written) decided

      d : Decides channel found.0.entry p
      d = found.2

      within : (same_guid d.packet.message.id.qm (guid_at i) ≡ true) × (same_name d.packet.message.destination m.message.destination ≡ true)
      within = split_and (same_guid d.packet.message.id.qm (guid_at i)) (same_name d.packet.message.destination m.message.destination) d.inside

      source : ComesFromItsSource c c.written d.packet d.head
      source = sourced c sound.truly found.0 (filtered_in (λ (w : Written). w.by == j) c.written found.0 found.1) d.now d.numbers d.packet d.head d.entry d.there

      same : source.source ≡ i
      same = one_manager known c source.source i apart (committer known apart c h source.source source.committed.commitment source.committed.there)
          (committer known apart c h i m inside) (source.own ∙ same_guid_is d.packet.message.id.qm (guid_at i) within.0)

      committed : IsCommittedBy i c.written source.moment d.packet d.head
      committed = subst (λ k. IsCommittedBy k c.written source.moment d.packet d.head) same source.committed

      earlier : HasRow (manager_at c.network i).state.outs m
      earlier = row_of known apart c sound i m inside

      later : HasRow (manager_at c.network i).state.outs committed.commitment
      later = row_of known apart c sound i committed.commitment committed.there

      leads : earlier.0.destination ≡ later.0.destination
      leads = earlier.3 ∙ sym (same_name_is d.packet.message.destination m.message.destination within.1) ∙ ap (λ (x : Message). x.destination) committed.message ∙ sym later.3

      place : committed.commitment.position ≡ p
      place = committed.position ∙ d.position

      ordinal : earlier.0.sequence.ordinal < later.0.sequence.ordinal
      ordinal = let a = ap (λ (q : SequenceId). q.ordinal) earlier.2 in let b = ap (λ (q : SequenceId). q.ordinal) (later.2 ∙ ap (λ (q : Position). q.sequence) place) in omega (arith, less, a, b)

      some : 0 < later.0.offered
      some = let low = offered_row (manager_at c.network i).state (written_of i c.written) later.0 p (offered i).stand later.1 (later.2 ∙ ap (λ (q : Position). q.sequence) place)
          (subst (IsOffered (written_of i c.written)) d.position committed.offered) in
          let positive = numbered_up known apart c h i committed.commitment committed.there in let number = ap (λ (q : Position). q.number) place in omega (arith, low, positive, number)

      done : (m.position.number ≤ earlier.0.acked) ⊎ In m.position (expiries_told (lines_written (written_of i c.written)))
      done = begun i earlier.0 later.0 earlier.1 later.1 leads ordinal some m inside (sym earlier.2)

      Expires : Type 0
      Expires = In m.position (expiries_told (lines_written (written_of i c.written)))

      there : IsDecidedThere c i earlier.0 m.position.number
          ⊎ In {A = Position} (record { sequence = earlier.0.sequence; number = m.position.number }) (expiries_told (lines_written (written_of i c.written)))
          → In m.position (decisions channel (written_of j c.written)) ⊎ Expires
      there (inl x) = inl (subst (λ k. In m.position (decisions channel (written_of k c.written))) (by_one x.decider j channel m.position p mine decided) mine)
        where
          mine : In m.position (decisions channel (written_of x.decider c.written))
          mine = subst (λ (q : SequenceId). In {A = Position} (record { sequence = q; number = m.position.number }) (decisions channel (written_of x.decider c.written))) earlier.2
              (subst (λ (name : QueueName). In {A = Position} (record { sequence = earlier.0.sequence; number = m.position.number })
              (decisions (record { source = guid_at i; destination = name }) (written_of x.decider c.written))) earlier.3 x.decided)
      there (inr x) = inr (subst (λ (q : SequenceId). In {A = Position} (record { sequence = q; number = m.position.number }) (expiries_told (lines_written (written_of i c.written)))) earlier.2 x)

      by : (m.position.number ≤ earlier.0.acked) ⊎ Expires → In m.position (decisions channel (written_of j c.written)) ⊎ Expires
      by (inl low) = there (truly i earlier.0 m.position.number earlier.1 (numbered_up known apart c h i m inside) low)
      by (inr x) = inr x

-- The law.

pub always_decided_across : AlwaysDecidedAcross
always_decided_across known ms apart run kept = across known apart (settled kept (after_run known ms))
    (always_kept known (IsCredible known) (credible_closed known apart) ms run kept (credible_begins known))
    (always_by_records AreOffered offered_by_records known ms apart run kept) (always_begun_in_order known ms apart run kept) (always_acknowledged_truly known ms apart run kept)
    (always_decided_by_one known ms apart run kept)
