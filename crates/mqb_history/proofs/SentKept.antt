-- What was sent or decided never expires.
use Rattle.std.proofs.Common.{refl, ap, sym, subst, ◌∙◌, inl, inr}
use Rattle.std.specs.Prelude.{[], ◌==◌, ◌∷◌, ◌≡◌, Bool, List, None, Option, Some, cond, false, slice_get, true, ℕ}
use Rattle.mqb_base.specs.Same.{same_guid, same_name}
use Rattle.mqb_base.specs.declared.heads.TxHead.{TxHead}
use Rattle.mqb_base.specs.declared.ids.Identity.{Identity}
use Rattle.mqb_base.specs.declared.ledger.Line.{Line}
use Rattle.mqb_exactly_once.specs.Words.{In, position_of}
use Rattle.mqb_exactly_once.specs.World.{Channel, Position}
use Rattle.mqb_model.specs.records.Applying.{lines_of}
use Rattle.mqb_model.specs.records.Record.{Record}
use Rattle.mqb_model.specs.records.Record as entry
use Rattle.mqb_network.specs.Courses.{Course, Written}
use Rattle.mqb_network.specs.Doubts.{settled}
use Rattle.mqb_network.specs.Laws.{AreApart, lines_written}
use Rattle.mqb_network.specs.Runs.{after_run}
use Rattle.mqb_packet.specs.declared.packet.UserPacket.{UserPacket}
use Rattle.mqb_history.specs.Decided.{decided_in, is_in_channel, position_in, written_of}
use Rattle.mqb_history.specs.Expired.{AreDecidedKept, AreSentKept, expiries_told, expiry_told}
use Rattle.mqb_history.specs.Laws.{SentNeverExpires}
use Rattle.mqb_history.specs.Orderly.{IsOrderly}
use Rattle.mqb_history.proofs.Agreeing.{agreeing}
use Rattle.mqb_history.proofs.Courses.{Agrees, GoesTo, HeardIn, one_guid}
use Rattle.mqb_history.proofs.Lists.{equal_numbers, none_some, some_is, split_and}
use Rattle.mqb_history.proofs.Names.{same_guid_is}
use Rattle.mqb_history.proofs.Noticed.{guid_of, heard_in, in_flat, told_from}
use Rattle.mqb_history.proofs.Outside.{filtered_in}
use Rattle.mqb_history.proofs.Truthful.{AreUnexpired}
use Rattle.mqb_history.proofs.Unexpired.{always_unexpired}

-- a manager's records are by it
by_it : (i : ℕ) (ws : List Written) (w : Written) → In w (written_of i ws) → w.by ≡ i
by_it i [] w inside = absurd inside
by_it i (v ∷ ws) w inside = at (v.by == i) refl inside (by_it i ws w)
  where
    at : (b : Bool) → (v.by == i) ≡ b → In w (cond b (v ∷ written_of i ws) (written_of i ws)) → (In w (written_of i ws) → w.by ≡ i) → w.by ≡ i
    at true e (inl f) rest = ap (λ (x : Written). x.by) (sym f) ∙ equal_numbers v.by i e
    at true e (inr j) rest = rest j
    at false e j rest = rest j

-- a record decides a packet of a channel at a position
record DecidesAt (channel : Channel) (r : Record) (p : Position) : Type 0 where
  pub now : ℕ
  pub numbers : List ℕ
  pub packet : UserPacket
  pub head : TxHead
  pub entry : r ≡ entry.Arrived now numbers (entry.Decided packet)
  pub there : packet.tx ≡ Some head
  pub source : packet.message.id.qm ≡ channel.source
  pub place : position_of head ≡ p

decides_at : (channel : Channel) (r : Record) (p : Position) → decided_in channel r ≡ Some p → DecidesAt channel r p
decides_at channel (entry.Arrived now numbers (entry.Decided q)) p e = at q.tx refl e
  where
    by : (tx : TxHead) → q.tx ≡ Some tx → (b : Bool) → is_in_channel channel q.message ≡ b → cond b (Some (position_of tx)) None ≡ Some p → DecidesAt channel (entry.Arrived now numbers (entry.Decided q)) p
    by tx f false g k = absurd (none_some k)
    by tx f true g k = record {
      now = now;
      numbers = numbers;
      packet = q;
      head = tx;
      entry = refl;
      there = f;
      source = same_guid_is q.message.id.qm channel.source (split_and (same_guid q.message.id.qm channel.source) (same_name q.message.destination channel.destination) g).0;
      place = some_is (position_of tx) p k;
    }

    at : (o : Option TxHead) → q.tx ≡ o → position_in channel q.message o ≡ Some p → DecidesAt channel (entry.Arrived now numbers (entry.Decided q)) p
    at None f g = absurd (none_some g)
    at (Some tx) f g = by tx f (is_in_channel channel q.message) refl g
decides_at channel r p e = absurd (none_some e)

module _ (known : List Identity) (apart : AreApart known) (c : Course) (o : IsOrderly known c) (h : Agrees known c) (unexpired : AreUnexpired known c) where
  sent_kept : AreSentKept c
  sent_kept i p tx inside e qm expired = unexpired goes.sender goes.own goes.there p tx inside e goes.goes.0 goes.index goes.leads.peer goes.leads.there
      (subst (λ k. In (position_of tx) (expiries_told (lines_written (written_of k c.written)))) same expired)
    where
      goes : GoesTo known p
      goes = h.streams p inside tx e

      told : (l : Line) × In l (lines_written (written_of i c.written)) × (expiry_told l ≡ Some (position_of tx))
      told = told_from expiry_told (lines_written (written_of i c.written)) (position_of tx) expired

      w : (w : Written) × In w (written_of i c.written) × In told.0 (lines_of w.before w.entry)
      w = in_flat (λ (v : Written). lines_of v.before v.entry) (written_of i c.written) told.0 told.1

      own : (own : Identity) × (slice_get known i ≡ Some own)
      own = let g = heard_in known apart c o h w.0 (filtered_in (λ (v : Written). v.by == i) c.written w.0 w.1) in (g.0, subst (λ k. slice_get known k ≡ Some g.0) (by_it i c.written w.0 w.1) g.1)

      same : i ≡ goes.sender
      same = one_guid known i goes.sender own.0 goes.own apart own.1 goes.there (sym (guid_of known apart c o h i own.0 own.1) ∙ sym qm ∙ goes.goes.0)

  decided_kept : AreDecidedKept c
  decided_kept i j channel p source inside expired = sent_kept i d.packet d.head heard.2.0 d.there (d.source ∙ sym source)
      (subst (λ q. In q (expiries_told (lines_written (written_of i c.written)))) (sym d.place) expired)
    where
      found : (w : Written) × In w (written_of j c.written) × (decided_in channel w.entry ≡ Some p)
      found = told_from (λ (w : Written). decided_in channel w.entry) (written_of j c.written) p inside

      d : DecidesAt channel found.0.entry p
      d = decides_at channel found.0.entry p found.2

      heard : HeardIn known c.sent found.0.by (entry.Arrived d.now d.numbers (entry.Decided d.packet))
      heard = subst (HeardIn known c.sent found.0.by) d.entry (heard_in known apart c o h found.0 (filtered_in (λ (v : Written). v.by == j) c.written found.0 found.1))

pub sent_never_expires : SentNeverExpires
sent_never_expires known ms apart run kept = of_course (settled kept (after_run known ms)) (agreeing known apart ms run kept) (always_unexpired known apart ms run kept)
  where
    of_course : (c : Course) → IsOrderly known c × Agrees known c → AreUnexpired known c → AreSentKept c × AreDecidedKept c
    of_course c h unexpired = (sent_kept known apart c h.0 h.1 unexpired, decided_kept known apart c h.0 h.1 unexpired)
