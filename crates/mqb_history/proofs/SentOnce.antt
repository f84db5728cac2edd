-- No two messages that were sent bear one identifier, and what joined a stream is transactional wherever it is; and the law.
use Rattle.std.proofs.Common.{refl, ap, sym, ◌∙◌, arith, inl, inr}
use Rattle.std.specs.List.{flat_map}
use Rattle.std.specs.Prelude.{[], ◌+◌, ◌∷◌, ◌≡◌, ◌≤◌, Bool, List, Some, cond, false, length, true, ℕ}
use Rattle.mqb_base.specs.declared.ids.Identity.{Identity}
use Rattle.mqb_base.specs.declared.ids.MessageId.{MessageId}
use Rattle.mqb_base.specs.declared.ledger.Line.{Line}
use Rattle.mqb_base.specs.declared.ledger.Line.TheVariants as line
use Rattle.mqb_base.specs.declared.message.Delivery.TheVariants as delivery
use Rattle.mqb_base.specs.declared.message.Message.{Message}
use Rattle.mqb_exactly_once.specs.Words.{In}
use Rattle.mqb_fate.specs.Asking.{is_transactional}
use Rattle.mqb_model.specs.records.Applying.{lines_of}
use Rattle.mqb_model.specs.records.Commit.{sends_of, sent_in, takes_made}
use Rattle.mqb_model.specs.records.Record.{Record, RecordOp}
use Rattle.mqb_model.specs.records.Record as entry
use Rattle.mqb_model.specs.state.Resolving.{is_here, resolved}
use Rattle.mqb_model.specs.state.State.{State}
use Rattle.mqb_network.specs.Courses.{Course, Written}
use Rattle.mqb_network.specs.Doubts.{settled}
use Rattle.mqb_network.specs.Laws.{AreApart, lines_written}
use Rattle.mqb_network.specs.Network.{manager_at}
use Rattle.mqb_network.specs.Runs.{IsRun, Move, after_run}
use Rattle.mqb_history.specs.Decided.{written_of}
use Rattle.mqb_history.specs.Made.{IsMade}
use Rattle.mqb_history.specs.Orderly.{IsOrderly}
use Rattle.mqb_history.specs.Sent.{AlwaysSentRightly, AreAsSent, AreCommittedTransactional, IsEachSentOnce, IsOneOf, all_sends, sends_in}
use Rattle.mqb_history.specs.Truths.{committed_in}
use Rattle.mqb_history.proofs.Balance.{by_manager, numbered_once}
use Rattle.mqb_history.proofs.Fated.{numbered_for}
use Rattle.mqb_history.proofs.Giving.{none_begin, sends_begin}
use Rattle.mqb_history.proofs.Gone.{IsAccounted, always_accounted}
use Rattle.mqb_history.proofs.Keeping.{IsClosed}
use Rattle.mqb_history.proofs.Lists.{clash, none_some, some_is}
use Rattle.mqb_history.proofs.Locals.{part_silent, silent}
use Rattle.mqb_history.proofs.Noticed.{flat_in, in_flat, told_from}
use Rattle.mqb_history.proofs.Orderly.{begins_orderly, change_orderly}
use Rattle.mqb_history.proofs.Origins.{always_sent, noticed_sent}
use Rattle.mqb_history.proofs.Owned.{given, given_next, numbers_given}
use Rattle.mqb_history.proofs.Remaining.{record_moves}
use Rattle.mqb_history.proofs.Runs.{always_kept}
use Rattle.mqb_history.proofs.Saying.{RecordSays, record_says, takes_say}
use Rattle.mqb_history.proofs.Steady.{IsSteady, OfEach, change_steady}
use Rattle.mqb_history.proofs.Sums.{summed_less, tally_is, written_split}
use Rattle.mqb_history.proofs.Tallies.{begins, tally, tally_append, tally_both, tally_from, tally_there, weight, weight_is, weight_own}

tally_flat : {X Y : Type 0} (g : Y → ℕ) (f : X → List Y) (xs : List X) → tally g (flat_map f xs) ≡ tally (λ x. tally g (f x)) xs
tally_flat g f [] = omega arith
tally_flat g f (x ∷ xs) = let both = tally_append g (f x) (flat_map f xs) in let rest = tally_flat g f xs in omega (arith, both, rest)

module _ (x : MessageId) where
  abbrev pub bears : Message → ℕ
  bears m = weight x m.id

  -- how often a record sends it
  abbrev pub by_record : Record → ℕ
  by_record r = tally bears (sends_in r)

  abbrev pub by_records : List Written → ℕ
  by_records ws = tally (λ (w : Written). by_record w.entry) ws

  -- a number is given for each send
  record_numbers : (s : State) (r : Record) → IsMade s r → given x s + by_record r ≤ given x (numbered_for s r)
  record_numbers s (entry.Commit now ops) made = numbers_given x s.identity.guid s.next_number (sends_of ops) made.numbered
  record_numbers s (entry.Plain now p) made = let same = ap (weight x) made.id in let one = given_next x s.identity.guid s.next_number in omega (arith, same, one)
  record_numbers s r made = omega arith

  abbrev pub IsNumbered : ℕ → State → List Written → Type 0
  IsNumbered i s ws = by_records ws ≤ given x s

  numbered_steady : IsSteady IsNumbered
  numbered_steady = record {
    quiet = λ i a b ws q h. let up = (q.1 x).up in omega (arith, up, h);
    grows = λ i s r ws made h. let more = tally_append (λ (w : Written). by_record w.entry) ws (record { by = i; before = s; entry = r } ∷ []) in
        let gives = record_numbers s r made in let up = (record_moves x s r).up in omega (arith, h, more, gives, up);
  }

  abbrev AllNumbered : List Identity → Course → Type 0
  AllNumbered known c = IsOrderly known c × ((j : ℕ) → OfEach IsNumbered c j)

  numbered_closed : (known : List Identity) → AreApart known → IsClosed known (AllNumbered known)
  numbered_closed known apart = record {
    orderly = λ c h. h.0;
    keeps = λ c y may h. (change_orderly known c y apart may h.0, change_steady IsNumbered numbered_steady known c y may h.0 h.1);
  }

  pub always_numbered : (known : List Identity) → AreApart known → (ms : List Move) → IsRun known ms → (kept : ℕ → Bool) → (j : ℕ) → OfEach IsNumbered (settled kept (after_run known ms)) j
  always_numbered known apart ms run kept = (always_kept known (AllNumbered known) (numbered_closed known apart) ms run kept (begins_orderly known, λ j. omega arith)).1

  -- What a Committed line names.

  abbrev SendsIt : Record → Type 0
  SendsIt r = (m : Message) × In m (sends_in r) × (x ≡ m.id) × (m.delivery ≡ delivery.Transactional)

  of_transaction : (ops : List RecordOp) (m : Message) → In m (sends_of ops) → m.delivery ≡ delivery.Transactional
  of_transaction ops m i = let op = told_from sent_in ops m i in at op.0 op.2
    where
      at : (op : RecordOp) → sent_in op ≡ Some m → m.delivery ≡ delivery.Transactional
      at (entry.Send p) e = ap (λ (y : Message). y.delivery) (sym (some_is _ m e))
      at (entry.Take queue id) e = absurd (none_some e)

  committed_begins : (l : Line) → committed_in l ≡ Some x → begins x l ≡ 1
  committed_begins (line.Committed stream number id) e = ap (weight x) (some_is id x e) ∙ weight_own x
  committed_begins l e = absurd (none_some e)

  silent_record : (s : State) (r : Record) → RecordSays silent r → (l : Line) → In l (lines_of s r) → committed_in l ≡ Some x → ⊥
  silent_record s r says l i e = let none = none_begin x (lines_of s r) (record_says silent s r says) in let there = tally_there (begins x) (lines_of s r) l i in let one = committed_begins l e in omega (arith, none, there, one)

  pub committed_sends : (s : State) (r : Record) (l : Line) → In l (lines_of s r) → committed_in l ≡ Some x → SendsIt r
  committed_sends s (entry.Commit now ops) l i e = let none = none_begin x (takes_made s now ops).lines (takes_say silent s now ops) in let all = sends_begin x now (takes_made s now ops) (sends_of ops) in
      let there = tally_there (begins x) (lines_of s (entry.Commit now ops)) l i in let one = committed_begins l e in
      let m = tally_from bears (sends_of ops) (omega (arith, none, all, there, one)) in (m.0, m.1, weight_is x m.0.id m.2, of_transaction ops m.0 m.1)
  committed_sends s (entry.Plain now p) l i e = absurd (at (is_here (resolved s p.message.destination)) i)
    where
      at : (b : Bool) → In l (cond b (line.Local p.message.id ∷ []) []) → ⊥
      at true (inl f) = none_some (ap committed_in f ∙ e)
      at true (inr j) = j
      at false j = j
  committed_sends s (entry.Arrived now numbers part) l i e = absurd (silent_record s (entry.Arrived now numbers part) (part_silent now numbers part) l i e)
  committed_sends s (entry.Taken now at id) l i e = absurd (silent_record s (entry.Taken now at id) (λ none other. tt) l i e)
  committed_sends s (entry.Purged now at) l i e = absurd (silent_record s (entry.Purged now at) (λ none other. tt) l i e)
  committed_sends s (entry.Ticked now) l i e = absurd (silent_record s (entry.Ticked now) (λ id. tt) l i e)
  committed_sends s r l i e = absurd (silent_record s r tt l i e)

module _ (known : List Identity) (apart : AreApart known) (c : Course) (t : IsAccounted known c) (numbered : (x : MessageId) (j : ℕ) → OfEach (IsNumbered x) c j) (sent : AreAsSent c) where
  sends_once : (x : MessageId) → tally (bears x) (all_sends c.written) ≤ 1
  sends_once x = let flat = tally_flat (bears x) (λ (w : Written). sends_in w.entry) c.written in
      let all = written_split (λ (w : Written). by_record x w.entry) c.written (length c.network.managers) (by_manager known apart c t x) in
      let less = summed_less (λ k. by_records x (written_of k c.written)) (λ k. given x (manager_at c.network k).state) (length c.network.managers) (λ k lt. numbered x k) in
      let one = numbered_once known apart c t x in omega (arith, flat, all, less, one)

  pub each_once : IsEachSentOnce c
  each_once x = let same = tally_is (bears x) (all_sends c.written) in let one = sends_once x in omega (arith, same, one)

  pub committed_transactional : AreCommittedTransactional c
  committed_transactional m i ordinary durable committed = at (is_transactional one.send.delivery) refl
    where
      one : IsOneOf (all_sends c.written) m
      one = sent m i ordinary durable

      same : m.id ≡ one.send.id
      same = ap (λ (y : Message). y.id) one.same

      l : (l : Line) × In l (lines_written c.written) × (committed_in l ≡ Some m.id)
      l = told_from committed_in (lines_written c.written) m.id committed

      w : (w : Written) × In w c.written × In l.0 (lines_of w.before w.entry)
      w = in_flat (λ (v : Written). lines_of v.before v.entry) c.written l.0 l.1

      s : SendsIt m.id w.0.entry
      s = committed_sends m.id w.0.before w.0.entry l.0 w.2 l.2

      inside : In s.0 (all_sends c.written)
      inside = flat_in (λ (v : Written). sends_in v.entry) c.written w.0 s.0 w.1 s.1

      is : m.delivery ≡ one.send.delivery
      is = ap (λ (y : Message). y.delivery) one.same

      at : (b : Bool) → is_transactional one.send.delivery ≡ b → is_transactional m.delivery ≡ true
      at true e = ap is_transactional is ∙ e
      at false e = let both = tally_both (bears m.id) (all_sends c.written) one.send s.0 one.inside inside
          (λ f. clash (sym (ap (λ (y : Message). is_transactional y.delivery) f ∙ ap is_transactional s.3) ∙ e)) in
          let first = ap (weight m.id) (sym same) ∙ weight_own m.id in let second = ap (weight m.id) (sym s.2) ∙ weight_own m.id in
          let most = sends_once m.id in absurd (omega (arith, both, first, second, most))

pub always_sent_rightly : AlwaysSentRightly
always_sent_rightly known ms apart run kept = let c = settled kept (after_run known ms) in let sent = noticed_sent known c (always_sent known apart ms run kept) in
    let t = always_accounted known apart ms run kept in let numbered = λ (x : MessageId). always_numbered x known apart ms run kept in record {
      as_sent = sent;
      once = each_once known apart c t numbered sent;
      transactional = committed_transactional known apart c t numbered sent;
    }
