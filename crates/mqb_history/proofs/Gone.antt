-- What was sent in a plain packet stands in no queue of its sender, and left none there, but as often as it arrived.
use Rattle.std.proofs.Common.{refl, ap, sym, subst, ◌∙◌, arith, inl, inr}
use Rattle.std.specs.Prelude.{[], ◌+◌, ◌++◌, ◌∷◌, ◌≡◌, ◌≤◌, ◌⊎◌, Bool, List, None, Option, Some, slice_get, true, ℕ}
use Rattle.mqb_base.specs.declared.ids.Identity.{Identity}
use Rattle.mqb_base.specs.declared.ids.MessageId.{MessageId}
use Rattle.mqb_exactly_once.specs.Words.{In}
use Rattle.mqb_model.specs.managers.Manager.{Manager}
use Rattle.mqb_model.specs.managers.Outcomes.{Outcome}
use Rattle.mqb_model.specs.records.Applying.{apply, lines_of}
use Rattle.mqb_model.specs.records.Record.{Record}
use Rattle.mqb_model.specs.records.Record as entry
use Rattle.mqb_model.specs.state.State.{State}
use Rattle.mqb_network.specs.Choices.{Failure}
use Rattle.mqb_network.specs.Courses.{Course, Written}
use Rattle.mqb_network.specs.Doubts.{settled}
use Rattle.mqb_network.specs.Laws.{AreApart, lines_written}
use Rattle.mqb_network.specs.Network.{Note, manager_at}
use Rattle.mqb_network.specs.Runs.{IsRun, Move, after_run, beginning}
use Rattle.mqb_packet.specs.declared.packet.Packet.{Packet}
use Rattle.mqb_packet.specs.declared.packet.Packet.TheVariants as packet
use Rattle.mqb_packet.specs.declared.packet.UserPacket.{UserPacket}
use Rattle.mqb_queue.specs.Places.{numbered}
use Rattle.mqb_model.specs.calls.Call.{Answer, Call, Hear, Pump, outcome_of}
use Rattle.mqb_history.specs.Changes.{Calls, Change, Hears, Pumps, calling, changed, given_out, hearing, may_change}
use Rattle.mqb_history.specs.Decided.{written_of}
use Rattle.mqb_history.specs.Made.{IsMade}
use Rattle.mqb_history.specs.Orderly.{IsOrderly}
use Rattle.mqb_history.proofs.Accounted.{IsPacketOf}
use Rattle.mqb_history.proofs.Accounts.{befores}
use Rattle.mqb_history.proofs.Agreeing.{IsAgreed, agreeing_closed, begins_agreeing}
use Rattle.mqb_history.proofs.Between.{in_either}
use Rattle.mqb_history.proofs.Counting.{IsTallied, IsTalliedAt, starts_tallied, tallied_steady}
use Rattle.mqb_history.proofs.Courses.{Agrees, goes, known_of, none_given, one_guid, who_is}
use Rattle.mqb_history.proofs.Fated.{numbered_for}
use Rattle.mqb_history.proofs.Giving.{record_gives}
use Rattle.mqb_history.proofs.Keeping.{IsClosed}
use Rattle.mqb_history.proofs.Leads.{AreLed, led_by_records}
use Rattle.mqb_history.proofs.Owned.{given, given_once, given_there}
use Rattle.mqb_history.proofs.Packets.{WaitsHere}
use Rattle.mqb_history.proofs.Recorded.{IsPlainPacket}
use Rattle.mqb_history.proofs.Remaining.{arrivals, lefts, record_moves}
use Rattle.mqb_history.proofs.Runs.{always_kept}
use Rattle.mqb_history.proofs.Steady.{IsSteady, OfEach, Quiet, calling_steady, change_steady, posted_steady}
use Rattle.mqb_history.proofs.Tallies.{arrives, copies, left, tally_append}
use Rattle.mqb_history.proofs.Telling.{lines_more}
use Rattle.mqb_history.proofs.Written.{begins_with}

-- its number was given, and what is in the manager's queues, or left them, arrived
pub record IsGone (x : MessageId) (s : State) (ws : List Written) : Type 0 where
  pub numbered : 1 ≤ given x s
  pub none : copies x s + lefts x (lines_written ws) ≤ arrivals x (lines_written ws)

quiet_gone : (x : MessageId) (a b : State) (ws : List Written) → Quiet a b → IsGone x a ws → IsGone x b ws
quiet_gone x a b ws q h = let up = (q.1 x).up in let le = (q.1 x).queues in let once = given_once x b in let was = h.numbered in let none = h.none in record {
  numbered = omega (arith, up, was);
  none = omega (arith, le, once, was, none);
}

grows_gone : (x : MessageId) (i : ℕ) (s : State) (r : Record) (ws : List Written) → IsMade s r → IsGone x s ws → IsGone x (apply s r) (ws ++ record { by = i; before = s; entry = r } ∷ [])
grows_gone x i s r ws made h = let up = (record_moves x s r).up in let gives = record_gives x s r made in let was = h.numbered in record {
  numbered = omega (arith, up, gives, was);
  none = subst (λ ls. copies x (apply s r) + lefts x ls ≤ arrivals x ls) (sym (lines_more ws (record { by = i; before = s; entry = r })))
      (let le = (record_moves x s r).queues in let first = given_once x (numbered_for s r) in let last = given_once x (apply s r) in let none = h.none in let same = same_here r in
      let gone = tally_append (left x) (lines_written ws) (lines_of s r) in let came = tally_append (arrives x) (lines_written ws) (lines_of s r) in
      omega (arith, up, gives, was, le, first, last, none, same, gone, came));
}
  where
    same_here : (r : Record) → copies x (numbered_for s r) ≡ copies x s
    same_here (entry.Commit now ops) = refl
    same_here r = refl

-- so is what a manager sent in plain packets
abbrev pub AreGone : List Identity → List Packet → ℕ → State → List Written → Type 0
AreGone known sent i s ws = (own : Identity) → slice_get known i ≡ Some own → (p : UserPacket) → In (packet.User p) sent → IsPlainPacket p → p.message.id.qm ≡ own.guid → IsGone p.message.id s ws

gone_steady : (known : List Identity) (sent : List Packet) → IsSteady (AreGone known sent)
gone_steady known sent = record {
  quiet = λ i a b ws q h own there p inside plain source. quiet_gone p.message.id a b ws q (h own there p inside plain source);
  grows = λ i s r ws made h own there p inside plain source. grows_gone p.message.id i s r ws made (h own there p inside plain source);
}

-- Packets join.

pub calling_sent : (i : ℕ) (call : Call) (failure : Option Failure) (c : Course) → (calling i call failure c).sent ≡ c.sent
calling_sent i call None c = refl
calling_sent i call (Some how) c = refl

pub hearing_sent : (note : Option Note) (x : Option Packet) (now : ℕ) (failure : Option Failure) (c : Course) → (hearing note x now failure c).sent ≡ c.sent
hearing_sent None x now failure c = refl
hearing_sent (Some note) None now failure c = refl
hearing_sent (Some note) (Some x) now failure c = calling_sent note.receiver (Hear now x) failure c

abbrev pub AllGone : List Identity → Course → Type 0
AllGone known c = (j : ℕ) → OfEach (AreGone known c.sent) c j

-- All together: an agreed course that is tallied.
pub record IsAccounted (known : List Identity) (c : Course) : Type 0 where
  pub agreed : IsAgreed known c
  pub tallied : (j : ℕ) → IsTalliedAt c j
  pub gone : AllGone known c

module _ (known : List Identity) (apart : AreApart known) (c : Course) (t : IsAccounted known c) where
  abbrev o : IsOrderly known c
  o = t.agreed.0.0

  abbrev h : Agrees known c
  h = t.agreed.1

  -- what a pump sends waited until then
  sends_gone : (i now j : ℕ) (own : Identity) → slice_get known j ≡ Some own → (p : UserPacket) → In (packet.User p) (outcome_of (manager_at c.network i) (Pump now)).packets → IsPlainPacket p
      → p.message.id.qm ≡ own.guid → IsGone p.message.id (manager_at c.network j).state (written_of j c.written)
  sends_gone i now j own there p inside plain source = at (slice_get known i) refl
    where
      pumper : Manager
      pumper = manager_at c.network i

      at : (x : Option Identity) → slice_get known i ≡ x → IsGone p.message.id (manager_at c.network j).state (written_of j c.written)
      at None e = absurd (subst (In (packet.User p)) (none_given known apart c (known_of known c o) h i now (t.agreed.0.1 i).1 e) inside)
      at (Some self) e = subst (λ k. IsGone p.message.id (manager_at c.network k).state (written_of k c.written)) same (record {
        numbered = numbered;
        none = let all = (t.tallied i).remains p.message.id in let once = given_once p.message.id pumper.state in let waits = g.2.0 in omega (arith, all, once, waits);
      })
        where
          g : (p.message.id.qm ≡ pumper.state.identity.guid) × IsPacketOf pumper.state.identity.guid pumper.state.peers pumper.state.next_number (h.stand i self e).went (lines_written (written_of i c.written)) p
              × WaitsHere (lines_written c.written) (lines_written (written_of i c.written)) (befores (written_of i c.written)) c.sent pumper (h.stand i self e) (t.agreed.0.1 i).1 p.message
          g = (goes known apart c (known_of known c o) h i now (t.agreed.0.1 i).1 self e p inside).1 plain

          same : i ≡ j
          same = one_guid known i j self own apart e there (ap (λ (y : Identity). y.guid) (sym (who_is known c i self (known_of known c o) e)) ∙ sym g.0 ∙ source)

          numbered : 1 ≤ given p.message.id pumper.state
          numbered = given_there p.message.id pumper.state g.0 g.1.plain.below

  pump_gone : (i now : ℕ) (failure : Option Failure) → AllGone known (changed (Pumps i now failure) c)
  pump_gone i now failure j = subst (λ xs. AreGone known (xs ++ given_out outcome failure) j (manager_at (changed (Pumps i now failure) c).network j).state (written_of j (changed (Pumps i now failure) c).written))
      (sym (calling_sent i (Pump now) failure c)) (posted_steady Q (gone_steady known sent) i now (given_out outcome failure) (calling i (Pump now) failure c)
      (calling_steady Q (gone_steady known sent) i (Pump now) failure c (λ k own there p inside plain source. by k own there p plain source failure (in_either c.sent (given_out outcome failure) (packet.User p) inside))) j)
    where
      outcome : Outcome Answer
      outcome = outcome_of (manager_at c.network i) (Pump now)

      sent : List Packet
      sent = c.sent ++ given_out outcome failure

      Q : ℕ → State → List Written → Type 0
      Q = AreGone known sent

      by : (k : ℕ) (own : Identity) → slice_get known k ≡ Some own → (p : UserPacket) → IsPlainPacket p → p.message.id.qm ≡ own.guid → (f : Option Failure) → In (packet.User p) c.sent ⊎ In (packet.User p) (given_out outcome f)
          → IsGone p.message.id (manager_at c.network k).state (written_of k c.written)
      by k own there p plain source f (inl i) = t.gone k own there p i plain source
      by k own there p plain source None (inr i) = sends_gone _ now k own there p i plain source
      by k own there p plain source (Some how) (inr i) = absurd i

  stays_gone : (x : Change) → may_change c x ≡ true → (changed x c).sent ≡ c.sent → AllGone known (changed x c)
  stays_gone x may same j = subst (λ xs. AreGone known xs j (manager_at (changed x c).network j).state (written_of j (changed x c).written)) (sym same)
      (change_steady (AreGone known c.sent) (gone_steady known c.sent) known c x may o t.gone j)

  change_gone : (x : Change) → may_change c x ≡ true → AllGone known (changed x c)
  change_gone (Calls i call failure) may = stays_gone (Calls i call failure) may (calling_sent i call failure c)
  change_gone (Pumps i now failure) may = pump_gone i now failure
  change_gone (Hears k now failure) may = stays_gone (Hears k now failure) may (hearing_sent (numbered c.network.notes k) (numbered c.sent k) now failure c)
  change_gone x may = stays_gone x may refl

  change_accounted : (x : Change) → may_change c x ≡ true → IsAccounted known (changed x c)
  change_accounted x may = record {
    agreed = (agreeing_closed known apart).keeps c x may t.agreed;
    tallied = change_steady (λ i. IsTallied) tallied_steady known c x may o t.tallied;
    gone = change_gone x may;
  }

pub accounted_closed : (known : List Identity) → AreApart known → IsClosed known (IsAccounted known)
accounted_closed known apart = record { orderly = λ c t. t.agreed.0.0; keeps = λ c x may t. change_accounted known apart c t x may }

pub accounted_begins : (known : List Identity) → IsAccounted known (beginning known)
accounted_begins known = record {
  agreed = (begins_with known AreLed led_by_records, begins_agreeing known);
  tallied = (starts_tallied known).1;
  gone = λ j own there p inside plain source. absurd inside;
}

-- At each point of each run.
pub always_accounted : (known : List Identity) → AreApart known → (ms : List Move) → IsRun known ms → (kept : ℕ → Bool) → IsAccounted known (settled kept (after_run known ms))
always_accounted known apart ms run kept = always_kept known (IsAccounted known) (accounted_closed known apart) ms run kept (accounted_begins known)
