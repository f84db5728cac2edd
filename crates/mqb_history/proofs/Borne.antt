-- At each point of each run each message that is not express bears a number that its manager gave, and no notice that of a message which joined a stream.
use Rattle.std.proofs.Common.{refl, ap, sym, subst, ◌∙◌, arith, inl, inr}
use Rattle.std.specs.List.{AllByRecursion, flat_map}
use Rattle.std.specs.Prelude.{◌++◌, ◌<◌, ◌==◌, ◌≡◌, ◌⊎◌, Bool, IfSome, List, None, Option, Some, filter_map, length, not, slice_get, true, unwrap_or, ℕ}
use Rattle.mqb_base.specs.declared.class.Class.{Class}
use Rattle.mqb_base.specs.declared.class.TheConstants.Class.{NORMAL}
use Rattle.mqb_base.specs.declared.ids.Guid.{Guid}
use Rattle.mqb_base.specs.declared.ids.Identity.{Identity}
use Rattle.mqb_base.specs.declared.ids.MessageId.{MessageId}
use Rattle.mqb_base.specs.declared.ledger.Line.TheVariants as line
use Rattle.mqb_base.specs.declared.message.Message.{Message}
use Rattle.mqb_exactly_once.specs.Words.{In}
use Rattle.mqb_fate.specs.Asking.{is_ordinary}
use Rattle.mqb_model.specs.managers.Manager.{Manager}
use Rattle.mqb_model.specs.records.Commit.{sends_of}
use Rattle.mqb_model.specs.records.Record.{Part, Record}
use Rattle.mqb_model.specs.records.Record as entry
use Rattle.mqb_model.specs.state.State.{State}
use Rattle.mqb_network.specs.Choices.{Failure}
use Rattle.mqb_network.specs.Courses.{Course, Written}
use Rattle.mqb_network.specs.Doubts.{settled}
use Rattle.mqb_network.specs.Laws.{AreApart, lines_written}
use Rattle.mqb_network.specs.Network.{manager_at, nobody}
use Rattle.mqb_network.specs.Runs.{IsRun, Move, after_run, beginning}
use Rattle.mqb_packet.specs.declared.packet.Packet.TheVariants as packet
use Rattle.mqb_packet.specs.declared.packet.UserPacket.{UserPacket}
use Rattle.mqb_queue.specs.Places.{numbered}
use Rattle.mqb_model.specs.calls.Call.{Call, Hear, Pump, outcome_of}
use Rattle.mqb_history.specs.Changes.{Calls, Change, Hears, Pumps, changed, given_out, is_of_packets, may_change}
use Rattle.mqb_history.specs.Decided.{written_of}
use Rattle.mqb_history.specs.Numbers.{HasNumber}
use Rattle.mqb_history.specs.Orderly.{IsOrderly}
use Rattle.mqb_history.specs.Truths.{held, message_in, noticed}
use Rattle.mqb_history.proofs.Accounts.{CallSent, HeardBy, MayStill, PartFrom, call_may}
use Rattle.mqb_history.proofs.Agreeing.{IsAgreed, agreeing_closed, begins_agreeing}
use Rattle.mqb_history.proofs.Between.{all_in, in_either}
use Rattle.mqb_history.proofs.Bringing.{Brings, pumped_brings}
use Rattle.mqb_history.proofs.Containing.{PartFine, beginning_holds}
use Rattle.mqb_history.proofs.Contents.{Holds, holds_weaker, next_id}
use Rattle.mqb_history.proofs.Courses.{HeardIn, known_of, none_given, none_heard, one_guid}
use Rattle.mqb_history.proofs.Fated.{IsSent}
use Rattle.mqb_history.proofs.Each.{EachRecord, OfChange, each_begins, each_change}
use Rattle.mqb_history.proofs.Finality.{numbered_in}
use Rattle.mqb_history.proofs.Fresh.{record_rises}
use Rattle.mqb_history.proofs.Gone.{calling_sent, hearing_sent}
use Rattle.mqb_history.proofs.Keeping.{IsClosed}
use Rattle.mqb_history.proofs.Later.{IsUnused, Later, Unused, change_later}
use Rattle.mqb_history.proofs.Leads.{AreLed, led_by_records}
use Rattle.mqb_history.proofs.Lists.{all_weaker, get_within, not_true, split_and, within_get}
use Rattle.mqb_history.proofs.Noticed.{all_flat, all_got, guid_of, message_is, told_from}
use Rattle.mqb_history.proofs.Origins.{held_all}
use Rattle.mqb_history.proofs.Outside.{filtered_in}
use Rattle.mqb_history.proofs.Runs.{always_kept}
use Rattle.mqb_history.proofs.Steady.{IsSteady, change_steady}
use Rattle.mqb_history.proofs.Written.{IsLasting, begins_with, change_lasts}
use Rattle.mqb_history.proofs.Bearing.{AreEmptied, Arrives, Bears, Follows, IsFree, IsGiven, IsRight, Local, SendsOrdinary, bears_brought, follows_steady}

-- A number that was given stays so.

number_lasts : (by : ℕ) (n : ℕ) → IsLasting (λ i s ws. i ≡ by → n < s.next_number)
number_lasts by n = record {
  quiet = λ i a b ws same h e. let lt = h e in let le = same.numbers in omega (arith, lt, le);
  grows = λ i s r ws made h e. let lt = h e in let le = (record_rises s r made).numbers in omega (arith, lt, le);
}

-- Runs.

pub record AreBorne (known : List Identity) (c : Course) : Type 0 where
  pub agreed : IsAgreed known c
  pub managers : (j : ℕ) → j < length known → Holds (Bears known c) (manager_at c.network j).state
  pub packets : (p : UserPacket) → In (packet.User p) c.sent → Bears known c p.message
  pub emptied : (j : ℕ) → j < length known → (id : MessageId) → In (line.Emptied id) (lines_written (written_of j c.written)) → HasNumber c id
  pub ordinary : EachRecord (λ i. SendsOrdinary) c

-- what a record in doubt, or one that a call makes, may still do, sends such messages
sent_ordinary : (own : Guid) (next : ℕ) (r : Record) → MayStill own next r → SendsOrdinary r
sent_ordinary own next (entry.Commit now ops) may = all_weaker IsSent (λ m. is_ordinary m ≡ true) (λ m g. ap (λ (k : Class). k.0 == NORMAL.0) g.0) (sends_of ops) may.sent
sent_ordinary own next (entry.Plain now p) may = (ap (λ (k : Class). k.0 == NORMAL.0) may.0.0, tt)
sent_ordinary own next r may = tt

call_ordinary : (c : Course) (i : ℕ) (call : Call) → CallSent c.sent call → IfSome (outcome_of (manager_at c.network i) call).entry SendsOrdinary
call_ordinary c i call sends = at (outcome_of (manager_at c.network i) call).entry (call_may c.sent (manager_at c.network i) call sends).may
  where
    at : (o : Option Record) → IfSome o (MayStill (manager_at c.network i).state.identity.guid (manager_at c.network i).state.next_number) → IfSome o SendsOrdinary
    at None may = tt
    at (Some r) may = sent_ordinary (manager_at c.network i).state.identity.guid (manager_at c.network i).state.next_number r may

change_ordinary : (c : Course) (x : Change) → may_change c x ≡ true → OfChange (λ i. SendsOrdinary) c x
change_ordinary c (Calls i call failure) may = call_ordinary c i call (none_heard c.sent call (not_true (is_of_packets call) (split_and (not (is_of_packets call)) _ may).0))
change_ordinary c (Pumps i now failure) may = call_ordinary c i (Pump now) tt
change_ordinary c (Hears k now failure) may = λ note p e f. call_ordinary c note.receiver (Hear now p) (numbered_in c.sent k p f)
change_ordinary c x may = tt

module _ (known : List Identity) (apart : AreApart known) (c : Course) (t : AreBorne known c) (x : Change) (may : may_change c x ≡ true) where
  abbrev d : Course
  d = changed x c

  abbrev o : IsOrderly known c
  o = t.agreed.0.0

  agreed_now : IsAgreed known d
  agreed_now = (agreeing_closed known apart).keeps c x may t.agreed

  later : Later known c d
  later = change_later known c x may o

  same_count : length d.network.managers ≡ length c.network.managers
  same_count = agreed_now.0.0.count ∙ sym o.count

  -- what was given stays given
  number_now : (id : MessageId) → HasNumber c id → HasNumber d id
  number_now id h = record {
    by = h.by;
    there = let lt = h.there in omega (arith, lt, same_count);
    source = h.source ∙ sym (later.guid h.by);
    below = change_lasts known (λ i s ws. i ≡ h.by → id.number < s.next_number) (number_lasts h.by id.number) c x may o (λ j e. subst (λ k. id.number < (manager_at c.network k).state.next_number) (sym e) h.below) h.by refl;
  }

  borne_now : (m : Message) → Bears known c m → Bears known d m
  borne_now m g e = let b = g e in record { numbered = number_now m.id b.numbered; notice = λ other. let y = b.notice other in (later.unused m.id y.0, number_now m.correlation y.1) }

  -- Packets.

  packets_before : (p : UserPacket) → In (packet.User p) d.sent → Bears known c p.message
  packets_before = by x refl
    where
      pumped : (i now : ℕ) (failure : Option Failure) (p : UserPacket) → In (packet.User p) (given_out (outcome_of (manager_at c.network i) (Pump now)) failure) → Bears known c p.message
      pumped i now (Some how) p inside = absurd inside
      pumped i now None p inside = at (slice_get known i) refl
        where
          at : (y : Option Identity) → slice_get known i ≡ y → Bears known c p.message
          at None e = absurd (subst (In (packet.User p)) (none_given known apart c (known_of known c o) t.agreed.1 i now (t.agreed.0.1 i).1 e) inside)
          at (Some own) e = all_in (Brings (Bears known c)) (outcome_of (manager_at c.network i) (Pump now)).packets (packet.User p)
              (pumped_brings (Bears known c) (bears_brought known c) (manager_at c.network i) (t.managers i (get_within known i own e)) now) inside p refl

      either : (i now : ℕ) (failure : Option Failure) (p : UserPacket) → In (packet.User p) c.sent ⊎ In (packet.User p) (given_out (outcome_of (manager_at c.network i) (Pump now)) failure) → Bears known c p.message
      either i now failure p (inl a) = t.packets p a
      either i now failure p (inr a) = pumped i now failure p a

      by : (y : Change) → y ≡ x → (p : UserPacket) → In (packet.User p) (changed y c).sent → Bears known c p.message
      by (Calls i call failure) e p inside = t.packets p (subst (In (packet.User p)) (calling_sent i call failure c) inside)
      by (Pumps i now failure) e p inside = let out = given_out (outcome_of (manager_at c.network i) (Pump now)) failure in
          either i now failure p (in_either c.sent out (packet.User p) (subst (λ xs. In (packet.User p) (xs ++ out)) (calling_sent i (Pump now) failure c) inside))
      by (Hears k now failure) e p inside = t.packets p (subst (In (packet.User p)) (hearing_sent (numbered c.network.notes k) (numbered c.sent k) now failure c) inside)
      by y e p inside = t.packets p inside

  -- Records.

  ordinary_now : EachRecord (λ i. SendsOrdinary) d
  ordinary_now = each_change (λ i. SendsOrdinary) c x (change_ordinary c x may) t.ordinary

  part_right : (own : Guid) (part : Part) → PartFrom d.sent own part → PartFine (Bears known c) part
  part_right own (entry.Decided p) h = packets_before p h.0
  part_right own (entry.Stored p) h = packets_before p h.0
  part_right own part h = tt

  arrives : (own : Guid) (r : Record) → HeardBy d.sent own r → Arrives known c r
  arrives own (entry.Arrived now numbers part) h = part_right own part h
  arrives own r h = tt

  right_now : (w : Written) → In w d.written → IsRight known c w.entry
  right_now w i = let heard = all_in (λ (v : Written). HeardIn known d.sent v.by v.entry) d.written w agreed_now.1.heard.written i in (
    arrives heard.0.guid w.entry heard.2,
    all_in (λ (v : Written). SendsOrdinary v.entry) d.written w ordinary_now.written i,
  )

  -- Managers.

  local_before : (j : ℕ) → j < length known → (m : Message) → Bears known c m → Local known c (manager_at c.network j).state (written_of j c.written) m
  local_before j low m g e = let b = g e in record { numbered = inl b.numbered; notice = λ other. let y = b.notice other in (inl y.0, inl y.1) }

  follows_now : (j : ℕ) → j < length known → Holds (Local known c (manager_at d.network j).state (written_of j d.written)) (manager_at d.network j).state
      × AreEmptied known c (manager_at d.network j).state (written_of j d.written)
  follows_now j low = (change_steady (λ i s ws. i < length known → Follows known c i s ws) steady known c x may o before j low).1 (λ w i. right_now w (filtered_in (λ (v : Written). v.by == j) d.written w i))
    where
      steady : IsSteady (λ i s ws. i < length known → Follows known c i s ws)
      steady = let f = follows_steady known c in record {
        quiet = λ i a b ws q h within. f.quiet i a b ws q (h within);
        grows = λ i s r ws made h within. f.grows i s r ws made (h within);
      }

      before : (k : ℕ) → k < length known → Follows known c k (manager_at c.network k).state (written_of k c.written)
      before k within = (
        (t.agreed.0.1 k).0,
        λ right. (
          holds_weaker (Bears known c) (Local known c (manager_at c.network k).state (written_of k c.written)) (local_before k within) (manager_at c.network k).state (t.managers k within),
          λ id inside. inl (t.emptied k within id inside),
        ),
      )

  module _ (j : ℕ) (low : j < length known) where
    abbrev s : State
    s = (manager_at d.network j).state

    own_number : (id : MessageId) → IsGiven known c (next_id s) id → HasNumber d id
    own_number id (inl h) = number_now id h
    own_number id (inr h) = record { by = j; there = subst (λ n. j < n) (sym agreed_now.0.0.count) low; source = h.0; below = h.1 }

    -- no other manager has its GUID
    own_unused : (id : MessageId) → IsFree known c s (written_of j d.written) id → Unused known d id
    own_unused id (inl h) = later.unused id h
    own_unused id (inr h) = λ k within same. only k (within_get known k within) same
      where
        mine : (own : Identity) × (slice_get known j ≡ Some own)
        mine = within_get known j low

        only : (k : ℕ) → (theirs : Identity) × (slice_get known k ≡ Some theirs) → (manager_at d.network k).state.identity.guid ≡ id.qm → IsUnused (manager_at d.network k).state (written_of k d.written) id.number
        only k theirs same = subst (λ i. IsUnused (manager_at d.network i).state (written_of i d.written) id.number)
            (one_guid known j k mine.0 theirs.0 apart mine.1 theirs.1 (sym (guid_of known apart d agreed_now.0.0 agreed_now.1 j mine.0 mine.1) ∙ sym h.0 ∙ sym same
            ∙ guid_of known apart d agreed_now.0.0 agreed_now.1 k theirs.0 theirs.1)) h.1

    borne_there : (m : Message) → Local known c s (written_of j d.written) m → Bears known d m
    borne_there m g e = let b = g e in record { numbered = own_number m.id b.numbered; notice = λ other. let y = b.notice other in (own_unused m.id y.0, own_number m.correlation y.1) }

    manager_now : Holds (Bears known d) s
    manager_now = holds_weaker (Local known c s (written_of j d.written)) (Bears known d) borne_there s (follows_now j low).0

    emptied_now : (id : MessageId) → In (line.Emptied id) (lines_written (written_of j d.written)) → HasNumber d id
    emptied_now id inside = own_number id ((follows_now j low).1 id inside)

  change_borne : AreBorne known d
  change_borne = record {
    agreed = agreed_now;
    managers = manager_now;
    packets = λ p inside. borne_now p.message (packets_before p inside);
    emptied = emptied_now;
    ordinary = ordinary_now;
  }

borne_closed : (known : List Identity) → AreApart known → IsClosed known (AreBorne known)
borne_closed known apart = record { orderly = λ c t. t.agreed.0.0; keeps = λ c x may t. change_borne known apart c t x may }

pub always_borne : (known : List Identity) → AreApart known → (ms : List Move) → IsRun known ms → (kept : ℕ → Bool) → AreBorne known (settled kept (after_run known ms))
always_borne known apart ms run kept = always_kept known (AreBorne known) (borne_closed known apart) ms run kept (record {
  agreed = (begins_with known AreLed led_by_records, begins_agreeing known);
  managers = λ j low. beginning_holds (Bears known (beginning known)) known j;
  packets = λ p inside. absurd inside;
  emptied = λ j low id inside. absurd inside;
  ordinary = each_begins (λ i. SendsOrdinary) known;
})

-- each message that there is
pub noticed_borne : (known : List Identity) (c : Course) → AreBorne known c → (m : Message) → In m (noticed c) → Bears known c m
noticed_borne known c t m i = at (in_either (flat_map (λ (x : Manager). held x.state) c.network.managers) (filter_map message_in c.sent) m i)
  where
    managers : AllByRecursion (λ (x : Manager). AllByRecursion (Bears known c) (held x.state)) c.network.managers
    managers = all_got (λ (x : Manager). AllByRecursion (Bears known c) (held x.state)) c.network.managers (λ k x e.
        subst (λ (y : Option Manager). AllByRecursion (Bears known c) (held (unwrap_or y nobody).state)) e
        (held_all (Bears known c) (manager_at c.network k).state (t.managers k (subst (λ n. k < n) t.agreed.0.0.count (get_within c.network.managers k x e)))))

    at : In m (flat_map (λ (x : Manager). held x.state) c.network.managers) ⊎ In m (filter_map message_in c.sent) → Bears known c m
    at (inl j) = all_in (Bears known c) (flat_map (λ (x : Manager). held x.state) c.network.managers) m (all_flat (Bears known c) (λ (x : Manager). held x.state) c.network.managers managers) j
    at (inr j) = let x = told_from message_in c.sent m j in let p = message_is x.0 m x.2 in subst (Bears known c) p.2 (t.packets p.0 (subst (λ y. In y c.sent) p.1 x.1))
