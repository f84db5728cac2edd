-- Notices tell the truth.
use Rattle.std.proofs.Common.{refl, ap, sym, subst, ◌∙◌}
use Rattle.std.specs.Prelude.{◌≡◌, List, None, Some, cond, slice_get, true, ℕ}
use Rattle.mqb_base.specs.Same.{same_guid, same_name}
use Rattle.mqb_base.specs.declared.class.Class.{Class}
use Rattle.mqb_base.specs.declared.heads.TxHead.{TxHead}
use Rattle.mqb_base.specs.declared.ids.Identity.{Identity}
use Rattle.mqb_base.specs.declared.ids.MessageId.{MessageId}
use Rattle.mqb_base.specs.declared.ledger.Line.{Line}
use Rattle.mqb_base.specs.declared.ledger.Line.TheVariants as line
use Rattle.mqb_base.specs.declared.ledger.Stream.{Stream}
use Rattle.mqb_exactly_once.specs.Words.{In, position_of}
use Rattle.mqb_exactly_once.specs.World.{Channel, Commitment, Position}
use Rattle.mqb_model.specs.records.Applying.{lines_of}
use Rattle.mqb_network.specs.Courses.{Course, Written}
use Rattle.mqb_network.specs.Laws.{AreApart, lines_written}
use Rattle.mqb_network.specs.Network.{manager_at, others}
use Rattle.mqb_packet.specs.declared.packet.Packet.TheVariants as packet
use Rattle.mqb_packet.specs.declared.packet.UserPacket.{UserPacket}
use Rattle.mqb_history.specs.Carried.{AreDecidedTruly}
use Rattle.mqb_history.specs.Decided.{IsDecidedInOrder, RiseStrictly, written_of}
use Rattle.mqb_history.specs.Expired.{AreExpiredDuly, expiries_told, expiry_told}
use Rattle.mqb_history.specs.Orderly.{IsOrderly}
use Rattle.mqb_history.specs.Told.{AreCommitmentsTold, decision_told, is_of}
use Rattle.mqb_history.specs.Truths.{AlwaysTruthful, IsNoFailurePut, IsNoLocalRefused, IsTruthful, failed_in, local_in, put_in, told_by}
use Rattle.mqb_history.proofs.Courses.{Agrees, GoesTo, HeardIn, one_guid}
use Rattle.mqb_history.proofs.Lists.{join_and, none_some, some_is}
use Rattle.mqb_history.proofs.Names.{same_guid_refl, same_name_refl}
use Rattle.mqb_history.proofs.Noticed.{Told, failure_of, guid_of, heard_in, noticed_fair, own_line, refusals_true, sent_by, told_from, written_in}
use Rattle.mqb_history.proofs.Numbering.{AreCounted, counted_by_records}
use Rattle.mqb_history.proofs.Puts.{told_in}
use Rattle.mqb_history.proofs.Sources.{IsCommittedAt, IsDecidedAt, expired_at, not_here, one_commitment, one_decision, put_at, refused_at, told_once}
use Rattle.mqb_history.proofs.Telling.{always_told_commitments, lines_tell_decisions}
use Rattle.mqb_history.proofs.Agreeing.{agreeing}
use Rattle.mqb_history.proofs.Carrying.{always_decided_truly}
use Rattle.mqb_history.proofs.Deciding.{always_decided_in_order}
use Rattle.mqb_history.proofs.Due.{always_expired_duly}
use Rattle.mqb_history.proofs.Unexpired.{always_unexpired}
use Rattle.mqb_history.proofs.Written.{always_by_records}
use Rattle.mqb_network.specs.Doubts.{settled}
use Rattle.mqb_network.specs.Runs.{after_run}
use Rattle.mqb_history.proofs.Fates.{IsFailureOf, IsTold}

-- no manager with peers sent a packet of what it says expired
abbrev pub AreUnexpired : List Identity → Course → Type 0
AreUnexpired known c = (j : ℕ) (own : Identity) → slice_get known j ≡ Some own → (p : UserPacket) (tx : TxHead) → In (packet.User p) c.sent → p.tx ≡ Some tx → p.message.id.qm ≡ own.guid
    → (k : ℕ) (peer : Identity) → slice_get (others known own) k ≡ Some peer → In (position_of tx) (expiries_told (lines_written (written_of j c.written))) → ⊥

module _ (known : List Identity) (apart : AreApart known) (c : Course) (o : IsOrderly known c) (h : Agrees known c) (counted : (i : ℕ) → AreCounted (manager_at c.network i).state (written_of i c.written))
    (told : AreCommitmentsTold c) (duly : AreExpiredDuly c) (truly : AreDecidedTruly c) (rise : IsDecidedInOrder c) where
  -- what a line says failed, by the record that has the line
  record_of : (l : Line) → Told c l → (w : Written) × In w c.written × In l (lines_of w.before w.entry)
  record_of l i = written_in known apart c o h l i

  failed_source : (id : MessageId) → In id (told_by failed_in c) → IsCommittedAt known c id
  failed_source id i = let l = told_from failed_in (lines_written c.written) id i in by l.0 l.2 (record_of l.0 l.1)
    where
      by : (x : Line) → failed_in x ≡ Some id → (w : Written) × In w c.written × In x (lines_of w.before w.entry) → IsCommittedAt known c id
      by (line.Expired stream number other moment) e w = subst (IsCommittedAt known c) (some_is other id e) (expired_at known apart c o h counted duly w.0 stream number other moment w.1 w.2).0
      by (line.Refused stream number class other) e w = subst (IsCommittedAt known c) (some_is other id e) (refused_at known apart c o h counted truly w.0 stream number class other w.1 w.2).committed
      by x e w = absurd (none_some e)

  pub local_line : (id : MessageId) → In id (told_by local_in c) → Told c (line.Local id)
  local_line id i = let l = told_from local_in (lines_written c.written) id i in by l.0 l.2 l.1
    where
      by : (x : Line) → local_in x ≡ Some id → Told c x → Told c (line.Local id)
      by (line.Local other) e j = subst (λ k. Told c (line.Local k)) (some_is other id e) j
      by x e j = absurd (none_some e)

  pub not_local : IsNoLocalRefused c
  not_local m id inside refuses local = let l = local_line id local in let w = record_of (line.Local id) l in
      not_here known apart c o h counted told id (failed_source id (failure_of known apart c o h id (sent_by known apart c o h (line.Local id) id l refl)
      (subst (IsTold (Told c) IsFailureOf) refuses.0 ((noticed_fair known c o h m inside).fate.fails refuses.1)))) w.0 w.1 w.2

  -- What was put.

  pub put_line : (id : MessageId) → In id (told_by put_in c) → (stream : Stream) × (number : ℕ) × Told c (line.Put stream number id)
  put_line id i = let l = told_from put_in (lines_written c.written) id i in by l.0 l.2 l.1
    where
      by : (x : Line) → put_in x ≡ Some id → Told c x → (stream : Stream) × (number : ℕ) × Told c (line.Put stream number id)
      by (line.Put stream number other) e j = (stream, number, subst (λ k. Told c (line.Put stream number k)) (some_is other id e) j)
      by x e j = absurd (none_some e)

  abbrev channel_of : Stream → Channel
  channel_of stream = record { source = stream.source; destination = stream.destination }

  own_channel : (stream : Stream) → is_of (channel_of stream) stream ≡ true
  own_channel stream = join_and (same_guid stream.source stream.source) (same_name stream.destination stream.destination) (same_guid_refl stream.source) (same_name_refl stream.destination)

  abbrev mine : ℕ → List Line
  mine i = lines_written (written_of i c.written)

  -- what was refused was not put
  refused_not_put : (v w : Written) (s t : Stream) (m n : ℕ) (class : Class) (id : MessageId) → In v c.written → In (line.Refused s m class id) (lines_of v.before v.entry)
      → In w c.written → In (line.Put t n id) (lines_of w.before w.entry) → ⊥
  refused_not_put v w s t m n class id i a j b = clashing (told_once (decision_told (channel_of t)) (mine w.by) (line.Refused s m class id) (line.Put t n id) place there (own_line known apart c o h w (line.Put t n id) j b)
      (ap (λ x. decision_told (channel_of t) (line.Refused x m class id)) same.1 ∙ ap (λ k. decision_told (channel_of t) (line.Refused t k class id)) same.2 ∙ told_as) told_as
      (subst RiseStrictly (sym (lines_tell_decisions (channel_of t) (written_of w.by c.written))) (rise w.by (channel_of t))))
    where
      x : IsDecidedAt known c v.by s m id
      x = refused_at known apart c o h counted truly v s m class id i a

      y : IsDecidedAt known c w.by t n id
      y = put_at known apart c o h counted truly w t n id j b

      same : (v.by ≡ w.by) × (s ≡ t) × (m ≡ n)
      same = one_decision known apart c o h counted v.by w.by s t m n id x y

      place : Position
      place = record { sequence = t.sequence; number = n }

      told_as : decision_told (channel_of t) (line.Put t n id) ≡ Some (record { sequence = t.sequence; number = n })
      told_as = ap (λ b. cond b (Some (record { sequence = t.sequence; number = n })) None) (own_channel t)

      there : In (line.Refused s m class id) (mine w.by)
      there = subst (λ k. In (line.Refused s m class id) (mine k)) same.0 (own_line known apart c o h v (line.Refused s m class id) i a)

      clashing : line.Refused s m class id ≡ line.Put t n id → ⊥
      clashing e = let none : ⊥ = cc in none

  -- nor what expired
  expired_not_put : AreUnexpired known c → (v w : Written) (s t : Stream) (m n : ℕ) (id : MessageId) (moment : ℕ) → In v c.written → In (line.Expired s m id moment) (lines_of v.before v.entry)
      → In w c.written → In (line.Put t n id) (lines_of w.before w.entry) → ⊥
  expired_not_put unexpired v w s t m n id moment i a j b = unexpired goes.sender goes.own goes.there y.heard y.head y.sent_it y.has goes.goes.0 goes.index goes.leads.peer goes.leads.there
      (subst (λ k. In (position_of y.head) (expiries_told (mine k))) same
      (subst (λ p. In p (expiries_told (mine v.by))) (sym x.1 ∙ ap (λ (k : Commitment). k.position) (one_commitment known apart c o h counted id x.0 y.committed) ∙ y.position)
      (told_in expiry_told (mine v.by) (line.Expired s m id moment) (record { sequence = s.sequence; number = m }) (own_line known apart c o h v (line.Expired s m id moment) i a) refl)))
    where
      x : (x : IsCommittedAt known c id) × (x.commitment.position ≡ record { sequence = s.sequence; number = m }) × (id.qm ≡ (manager_at c.network v.by).state.identity.guid)
      x = expired_at known apart c o h counted duly v s m id moment i a

      y : IsDecidedAt known c w.by t n id
      y = put_at known apart c o h counted truly w t n id j b

      goes : GoesTo known y.heard
      goes = h.streams y.heard y.sent_it y.head y.has

      heard : HeardIn known c.sent v.by v.entry
      heard = heard_in known apart c o h v i

      same : v.by ≡ goes.sender
      same = one_guid known v.by goes.sender heard.0 goes.own apart heard.1 goes.there (sym (guid_of known apart c o h v.by heard.0 heard.1) ∙ sym x.2
          ∙ ap (λ (k : MessageId). k.qm) y.id_is ∙ goes.goes.0)

  pub not_put : AreUnexpired known c → IsNoFailurePut c
  not_put unexpired id failed put = let p = put_line id put in let w = record_of (line.Put p.0 p.1 id) p.2 in
      let l = told_from failed_in (lines_written c.written) id failed in by p.0 p.1 w.0 w.1 w.2 l.0 l.2 (record_of l.0 l.1)
    where
      by : (t : Stream) (n : ℕ) (w : Written) → In w c.written → In (line.Put t n id) (lines_of w.before w.entry) → (x : Line) → failed_in x ≡ Some id
          → (v : Written) × In v c.written × In x (lines_of v.before v.entry) → ⊥
      by t n w j b (line.Expired stream number other moment) e v = expired_not_put unexpired v.0 w stream t number n id moment v.1 (subst (λ k. In (line.Expired stream number k moment) (lines_of v.0.before v.0.entry)) (some_is other id e) v.2) j b
      by t n w j b (line.Refused stream number class other) e v = refused_not_put v.0 w stream t number n class id v.1 (subst (λ k. In (line.Refused stream number class k) (lines_of v.0.before v.0.entry)) (some_is other id e) v.2) j b
      by t n w j b x e v = absurd (none_some e)

-- The law.
pub always_truthful : AlwaysTruthful
always_truthful known ms apart run kept = of_course (settled kept (after_run known ms)) (agreeing known apart ms run kept) (always_by_records AreCounted counted_by_records known ms apart run kept)
    (always_told_commitments known ms apart run kept) (always_expired_duly known ms apart run kept) (always_decided_truly known ms apart run kept) (always_decided_in_order known ms apart run kept)
    (always_unexpired known apart ms run kept)
  where
    of_course : (c : Course) → IsOrderly known c × Agrees known c → ((i : ℕ) → AreCounted (manager_at c.network i).state (written_of i c.written)) → AreCommitmentsTold c → AreExpiredDuly c → AreDecidedTruly c
        → IsDecidedInOrder c → AreUnexpired known c → IsTruthful c
    of_course c h counted told duly truly rise unexpired = record {
      of_committed = refusals_true known apart c h.0 h.1;
      not_local = not_local known apart c h.0 h.1 counted told duly truly rise;
      not_put = not_put known apart c h.0 h.1 counted told duly truly rise unexpired;
    }
