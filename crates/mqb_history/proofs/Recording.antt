-- Each record at a source: a stream world goes on by what it does in the channel.
use Rattle.std.proofs.Common.{refl, ap, sym, subst, ◌∙◌}
use Rattle.std.specs.List.{AllByRecursion, cons_option}
use Rattle.std.specs.Option.{option_map_or}
use Rattle.std.specs.Prelude.{[], ◌++◌, ◌<◌, ◌∷◌, ◌≡◌, List, None, Option, Some, true, ℕ}
use Rattle.mqb_base.specs.declared.heads.TxHead.{TxHead}
use Rattle.mqb_base.specs.declared.ledger.Line.{Line}
use Rattle.mqb_base.specs.declared.message.Lane.TheVariants as lane
use Rattle.mqb_base.specs.declared.queue_names.QueueName.{QueueName}
use Rattle.mqb_entries.specs.declared.members.Mark.{Mark}
use Rattle.mqb_exactly_once.specs.World.{Channel, Commitment, OrderAck, Position, StreamWorld}
use Rattle.mqb_model.specs.declared.target.Target.TheVariants.{AtPeer}
use Rattle.mqb_model.specs.records.Applying.{apply, lines_of}
use Rattle.mqb_model.specs.records.Commit.{sends_of, takes_made}
use Rattle.mqb_model.specs.records.Decisions.{message_decided, with_decided}
use Rattle.mqb_model.specs.records.Record.{Part, Record}
use Rattle.mqb_model.specs.records.Record as entry
use Rattle.mqb_model.specs.records.Releases.{releases_made}
use Rattle.mqb_model.specs.rules.Arrivals.{refusal_of, storing_refusal}
use Rattle.mqb_model.specs.rules.Effects.{Effect, begun, joined}
use Rattle.mqb_model.specs.rules.Numbers.{numbers_taken}
use Rattle.mqb_model.specs.state.Resolving.{resolved}
use Rattle.mqb_model.specs.state.State.{State}
use Rattle.mqb_network.specs.Courses.{Written}
use Rattle.mqb_network.specs.Laws.{lines_written}
use Rattle.mqb_orders.specs.Rows.{Row}
use Rattle.mqb_packet.specs.declared.packet.UserPacket.{UserPacket}
use Rattle.mqb_history.specs.Committed.{commitments, commitments_in}
use Rattle.mqb_history.specs.Expired.{expiries_told, expiry_told}
use Rattle.mqb_history.specs.Made.{IsMade}
use Rattle.mqb_history.specs.Shown.{expiries_to, expiry_to}
use Rattle.mqb_history.proofs.Applying.{releases_rows, takes_made_rows}
use Rattle.mqb_history.proofs.Committing.{OrdinalsRise}
use Rattle.mqb_history.proofs.Enlisting.{leads_same, sends_sourced}
use Rattle.mqb_history.proofs.Finishing.{IsAckedTruly, MayAck, MayFinish, final_sourced, order_sourced}
use Rattle.mqb_history.proofs.Lists.{append_nothing}
use Rattle.mqb_history.proofs.Marked.{AreMarked, IsMarkOf, made_marks}
use Rattle.mqb_history.proofs.Numbering.{made_offers}
use Rattle.mqb_history.proofs.Overdue.{no_expiry, sourced_lines, ticked_sourced}
use Rattle.mqb_history.proofs.Pledging.{offered_sourced}
use Rattle.mqb_history.proofs.Reaching.{chosen_append}
use Rattle.mqb_history.proofs.Sourcing.{IsSourced, sourced_outs}
use Rattle.mqb_history.proofs.Sparing.{IsNoTick, all_of, expires_nothing}
use Rattle.mqb_history.proofs.Staying.{arrived_rows, plain_sent_rows, purged_rows, taken_rows}

-- lines that tell of no expiry tell of none in a channel
none_expire : (d : QueueName) (ls : List Line) → expiries_told ls ≡ [] → expiries_to d ls ≡ []
none_expire d [] e = refl
none_expire d (l ∷ ls) e = at (expiry_told l) refl e (none_expire d ls)
  where
    at : (o : Option Position) → expiry_told l ≡ o → cons_option o (expiries_told ls) ≡ [] → (expiries_told ls ≡ [] → expiries_to d ls ≡ []) → expiries_to d (l ∷ ls) ≡ []
    at None f g rest = ap (λ x. cons_option x (expiries_to d ls)) (no_expiry d l f) ∙ rest g
    at (Some p) f g rest = absurd (let none : ⊥ = cc in none)

-- where a record tells of an order acknowledgement, that is of this connection
abbrev pub Awaits : QueueName → List OrderAck → ℕ → List Row → Record → Type 0
Awaits d acks connection outs (entry.Arrived now numbers (entry.OrderAcknowledged ordinal number)) = MayAck d acks connection outs ordinal number
Awaits d acks connection outs _ = Unit {0}

-- and where it tells of a final one, that is too
abbrev pub Finishes : QueueName → StreamWorld → State → Record → Type 0
Finishes d v s (entry.Arrived now numbers (entry.Final p)) = MayFinish d v s.peers s.outs p.message
Finishes d v s _ = Unit {0}

module _ (d : QueueName) (peer : ℕ) (c : Channel) (v : StreamWorld) (connected : v.connected ≡ true) (s : State) (ws : List Written) (held : AreMarked s ws) (leads : resolved s d ≡ AtPeer peer)
    (h : IsSourced d peer c v s.outs (commitments ws) (lines_written ws)) where
  abbrev cs : List Commitment
  cs = commitments ws

  abbrev ls : List Line
  ls = lines_written ws

  abbrev rise : OrdinalsRise s.outs
  rise = held.0.0.0.0.0.rise

  -- a record that has no line of an expiry
  with_lines : (r : Record) (outs : List Row) (xs : List Commitment) → IsNoTick r → IsSourced d peer c v outs xs ls → IsSourced d peer c v outs xs (ls ++ lines_of s r)
  with_lines r outs xs none g = sourced_lines d peer c v xs outs ls (ls ++ lines_of s r)
      (chosen_append (expiry_to d) ls (lines_of s r) ∙ ap (λ es. expiries_to d ls ++ es) (none_expire d (lines_of s r) (expires_nothing s r none)) ∙ append_nothing (expiries_to d ls)) g

  -- and commits nothing, and leaves the rows
  quiet : (r : Record) → IsNoTick r → commitments_in s r ≡ [] → (apply s r).outs ≡ s.outs → IsSourced d peer c v (apply s r).outs (cs ++ commitments_in s r) (ls ++ lines_of s r)
  quiet r none nothing same = with_lines r (apply s r).outs (cs ++ commitments_in s r) none
      (subst (λ xs. IsSourced d peer c v (apply s r).outs xs ls) (sym (ap (λ xs. cs ++ xs) nothing ∙ append_nothing cs)) (sourced_outs d peer c v s.outs (apply s r).outs cs ls same h))

  with_outs : (r : Record) → IsNoTick r → commitments_in s r ≡ [] → IsSourced d peer c v (apply s r).outs cs ls → IsSourced d peer c v (apply s r).outs (cs ++ commitments_in s r) (ls ++ lines_of s r)
  with_outs r none nothing g = with_lines r (apply s r).outs (cs ++ commitments_in s r) none
      (subst (λ xs. IsSourced d peer c v (apply s r).outs xs ls) (sym (ap (λ xs. cs ++ xs) nothing ∙ append_nothing cs)) g)

  decided_outs : (now : ℕ) (e : Effect) (p : _) (o : Option TxHead) → (option_map_or (λ tx. joined e (message_decided now e.state p tx)) o e).state.outs ≡ e.state.outs
  decided_outs now e p None = refl
  decided_outs now e p (Some tx) = (arrived_rows (with_decided e.state p.message tx) p.message now (refusal_of e.state p)).outs

  committed : (now : ℕ) (ops : List _) → IsSourced d peer c v (apply s (entry.Commit now ops)).outs (cs ++ commitments_in s (entry.Commit now ops)) ls
  committed now ops = let same = takes_made_rows s now ops in
      sends_sourced d peer c v ls now (takes_made s now ops) (sends_of ops) cs (leads_same s (takes_made s now ops).state d peer same.manager leads)
      (record {
        rise = subst OrdinalsRise (sym same.outs) rise;
        below = subst (λ rows. AllByRecursion (λ (r : Row). r.sequence.ordinal < (takes_made s now ops).state.next_ordinal) rows) (sym same.outs)
            (subst (λ n. AllByRecursion (λ (r : Row). r.sequence.ordinal < n) s.outs) (sym same.next_ordinal) held.0.0.0.0.0.below);
      }) (sourced_outs d peer c v s.outs (takes_made s now ops).state.outs cs ls same.outs h)

  releases_outs : (numbers : List ℕ) → (releases_made s numbers).state.outs ≡ s.outs
  releases_outs numbers = (releases_rows (begun s) numbers).outs

  acknowledged_part : (now : ℕ) (numbers : List ℕ) (ordinal number : ℕ) → IsAckedTruly d peer v (apply s (entry.Arrived now numbers (entry.OrderAcknowledged ordinal number))).outs
      → MayAck d v.order_acks v.connection s.outs ordinal number → IsSourced d peer c v (apply s (entry.Arrived now numbers (entry.OrderAcknowledged ordinal number))).outs cs ls
  acknowledged_part now numbers ordinal number truly may = order_sourced d peer c v cs ls connected (releases_made s numbers).state.outs ordinal number
      (subst OrdinalsRise (sym (releases_outs numbers)) rise) truly (subst (λ outs. MayAck d v.order_acks v.connection outs ordinal number) (sym (releases_outs numbers)) may) (sourced_outs d peer c v s.outs (releases_made s numbers).state.outs cs ls (releases_outs numbers) h)

  final_part : (now : ℕ) (numbers : List ℕ) (p : UserPacket) → IsAckedTruly d peer v (apply s (entry.Arrived now numbers (entry.Final p))).outs → MayFinish d v s.peers s.outs p.message
      → IsSourced d peer c v (apply s (entry.Arrived now numbers (entry.Final p))).outs cs ls
  final_part now numbers p truly may = final_sourced d peer c v cs ls connected (releases_made s numbers).state p.message
      (subst OrdinalsRise (sym (releases_outs numbers)) rise) truly (subst (λ outs. MayFinish d v (releases_made s numbers).state.peers outs p.message) (sym (releases_outs numbers))
      (subst (λ peers. MayFinish d v peers s.outs p.message) (sym (releases_rows (begun s) numbers).manager.peers) may)) (sourced_outs d peer c v s.outs (releases_made s numbers).state.outs cs ls (releases_outs numbers) h)

  marks_part : (marks : List Mark) → IsMade s (entry.Offered marks) → IsSourced d peer c v (apply s (entry.Offered marks)).outs cs ls
  marks_part marks made = offered_sourced d peer c v s ws held.0.0 h marks (made_offers s (entry.Offered marks) rise made).1
      (all_of (IsMarkOf s.outs) marks (λ mark i. made_marks s (entry.Offered marks) made mark i))

  pub record_sourced : (r : Record) → IsMade s r → IsAckedTruly d peer v (apply s r).outs → Awaits d v.order_acks v.connection s.outs r → Finishes d v s r → IsSourced d peer c v (apply s r).outs (cs ++ commitments_in s r) (ls ++ lines_of s r)
  record_sourced (entry.Peer other) made truly awaits ends = absurd made
  record_sourced (entry.Commit now ops) made truly awaits ends = with_lines (entry.Commit now ops) (apply s (entry.Commit now ops)).outs (cs ++ commitments_in s (entry.Commit now ops)) tt (committed now ops)
  record_sourced (entry.Plain now p) made truly awaits ends = quiet (entry.Plain now p) tt refl (plain_sent_rows (numbers_taken s 1) p.message now).outs
  record_sourced (entry.Offered marks) made truly awaits ends = with_outs (entry.Offered marks) tt refl (marks_part marks made)
  record_sourced (entry.Arrived now numbers entry.Nothing) made truly awaits ends = quiet (entry.Arrived now numbers entry.Nothing) tt refl (releases_outs numbers)
  record_sourced (entry.Arrived now numbers (entry.Decided p)) made truly awaits ends = quiet (entry.Arrived now numbers (entry.Decided p)) tt refl
      (decided_outs now (releases_made s numbers) p p.tx ∙ releases_outs numbers)
  record_sourced (entry.Arrived now numbers (entry.Stored p)) made truly awaits ends = let e = releases_made s numbers in quiet (entry.Arrived now numbers (entry.Stored p)) tt refl
      ((arrived_rows e.state p.message now (storing_refusal e.state p)).outs ∙ releases_outs numbers)
  record_sourced (entry.Arrived now numbers (entry.OrderAcknowledged ordinal number)) made truly awaits ends = with_outs (entry.Arrived now numbers (entry.OrderAcknowledged ordinal number)) tt refl
      (acknowledged_part now numbers ordinal number truly awaits)
  record_sourced (entry.Arrived now numbers (entry.Final p)) made truly awaits ends = with_outs (entry.Arrived now numbers (entry.Final p)) tt refl (final_part now numbers p truly ends)
  record_sourced (entry.Taken now at id) made truly awaits ends = quiet (entry.Taken now at id) tt refl (taken_rows at id now (begun s)).outs
  record_sourced (entry.Purged now at) made truly awaits ends = quiet (entry.Purged now at) tt refl (purged_rows lane.Durable at now (begun s)).outs
  record_sourced (entry.Ticked now) made truly awaits ends = subst (λ xs. IsSourced d peer c v (apply s (entry.Ticked now)).outs xs (ls ++ lines_of s (entry.Ticked now))) (sym (append_nothing cs))
      (ticked_sourced d peer c v cs s ws now held.0 h)
  record_sourced r made truly awaits ends = quiet r tt refl refl
