-- No packet of a stream carries what its source says expired.
use Rattle.std.proofs.Common.{refl, ap, sym, subst, ◌∙◌, arith, inl, inr}
use Rattle.std.specs.Prelude.{[], ◌++◌, ◌<◌, ◌∷◌, ◌≡◌, ◌⊎◌, Bool, IfSome, List, None, Option, Some, length, slice_get, true, unwrap_or, ℕ}
use Rattle.mqb_base.specs.declared.heads.TxHead.{TxHead}
use Rattle.mqb_base.specs.declared.ids.Identity.{Identity}
use Rattle.mqb_base.specs.declared.ids.MessageId.{MessageId}
use Rattle.mqb_base.specs.declared.ledger.Line.{Line}
use Rattle.mqb_base.specs.declared.ledger.Line.TheVariants as line
use Rattle.mqb_exactly_once.specs.Words.{In, position_of}
use Rattle.mqb_exactly_once.specs.World.{Position}
use Rattle.mqb_model.specs.managers.Manager.{Manager}
use Rattle.mqb_model.specs.managers.Outcomes.{Outcome, recorded, succeeded}
use Rattle.mqb_model.specs.records.Applying.{apply, lines_of}
use Rattle.mqb_model.specs.records.Record.{Record}
use Rattle.mqb_model.specs.records.Record as entry
use Rattle.mqb_model.specs.state.State.{State}
use Rattle.mqb_network.specs.Courses.{Course, Written, written_by}
use Rattle.mqb_network.specs.Choices.{Failure}
use Rattle.mqb_network.specs.Doubts.{settled}
use Rattle.mqb_network.specs.Laws.{AreApart, lines_written}
use Rattle.mqb_network.specs.Network.{Network, Note, manager_at, nobody, others}
use Rattle.mqb_network.specs.Runs.{IsRun, Move, after_run, beginning}
use Rattle.mqb_packet.specs.declared.packet.Packet.{Packet}
use Rattle.mqb_packet.specs.declared.packet.Packet.TheVariants as packet
use Rattle.mqb_packet.specs.declared.packet.UserPacket.{UserPacket}
use Rattle.mqb_orders.specs.Rows.{Row}
use Rattle.mqb_queue.specs.Places.{numbered}
use Rattle.mqb_model.specs.calls.Call.{Answer, Call, Hear, Pump, outcome_of}
use Rattle.mqb_history.specs.Changes.{Calls, Change, Hears, Pumps, calling, changed, hearing, may_change}
use Rattle.mqb_history.specs.Decided.{written_of}
use Rattle.mqb_history.specs.Expired.{expiries_told, expiry_told}
use Rattle.mqb_history.specs.Made.{IsMade}
use Rattle.mqb_history.specs.Orderly.{IsItself, IsOrderly}
use Rattle.mqb_history.proofs.Applying.{applied_manager, beside_rows, made_of_no_peer}
use Rattle.mqb_history.proofs.Calling.{calls_are_modest, made_only}
use Rattle.mqb_history.proofs.Between.{all_in, in_either}
use Rattle.mqb_history.proofs.Courses.{AreKnown, known_of, one_guid, who_is}
use Rattle.mqb_history.proofs.Expiring.{IsReasoned, record_reasoned}
use Rattle.mqb_history.proofs.Holding.{HasExpired}
use Rattle.mqb_history.proofs.Keeping.{IsClosed}
use Rattle.mqb_history.proofs.Kept.{KeepsLeft, left_by_records}
use Rattle.mqb_history.proofs.Leads.{AreLed, RowLeads, led_by_records}
use Rattle.mqb_history.proofs.Leaving.{IsClean, expired_either}
use Rattle.mqb_history.proofs.Lists.{append_nothing, get_within, none_some, set_there, some_is, within_get, clash}
use Rattle.mqb_history.proofs.Noticed.{told_from}
use Rattle.mqb_history.proofs.Offered.{IsOffered, mark_of, pumped_offers}
use Rattle.mqb_history.proofs.Offering.{IsAbove, StandsIn, line_above, record_stands, same_stands}
use Rattle.mqb_history.proofs.Orderly.{change_orderly}
use Rattle.mqb_history.proofs.Recorded.{RecordOf, calls_are_of}
use Rattle.mqb_history.proofs.Runs.{always_kept}
use Rattle.mqb_history.proofs.Staying.{IsSameManager}
use Rattle.mqb_history.proofs.Telling.{lines_more}
use Rattle.mqb_history.proofs.Written.{IsLasting, IsOrderlyWith, OfManager, begins_with, by_records, change_lasts, noted_managers, own_more}

-- a manager with peers
abbrev HasPeer : State → Type 0
HasPeer s = (k : ℕ) × (peer : Identity) × (slice_get s.peers k ≡ Some peer)

-- a packet of a stream is offered, and did not expire
pub record StandsFor (s : State) (ws : List Written) (tx : TxHead) : Type 0 where
  pub stands : StandsIn s (mark_of tx)
  pub lasts : HasExpired (lines_written ws) tx.sequence tx.number → ⊥

-- the packets that a manager sent are
abbrev pub AreKept : List Packet → State → List Written → Type 0
AreKept sent s ws = (p : UserPacket) (tx : TxHead) → In (packet.User p) sent → p.tx ≡ Some tx → p.message.id.qm ≡ s.identity.guid → HasPeer s → StandsFor s ws tx

abbrev pub Holds : List Packet → State → List Written → Type 0
Holds sent s ws = KeepsLeft s ws × AreKept sent s ws

-- what a record lets expire stands above
none_above : (s : State) (r : Record) (tx : TxHead) → StandsIn s (mark_of tx) → HasExpired (lines_of s r) tx.sequence tx.number → ⊥
none_above s r tx stands e = let l = told_from expiry_told (lines_of s r) (record { sequence = tx.sequence; number = tx.number }) e in
    at l.0 (line_above s (mark_of tx) stands.offered l.0 (all_in (IsReasoned s) (lines_of s r) l.0 (record_reasoned s r) l.1)) l.2
  where
    at : (x : Line) → IsAbove (mark_of tx) x → expiry_told x ≡ Some (record { sequence = tx.sequence; number = tx.number }) → ⊥
    at (line.Expired stream number id moment) g e = let same = some_is _ _ e in let lt = g (ap (λ (p : Position). p.sequence.ordinal) same) in let own = ap (λ (p : Position). p.number) same in omega (arith, lt, own)
    at x g e = none_some e

-- with one record more
stands_more : (i : ℕ) (s : State) (r : Record) (ws : List Written) (tx : TxHead) → IsMade s r → KeepsLeft s ws → StandsFor s ws tx
    → StandsFor (apply s r) (ws ++ record { by = i; before = s; entry = r } ∷ []) tx
stands_more i s r ws tx made k h = record {
  stands = record_stands s r k.0.0.0.0.rise made (mark_of tx) h.stands;
  lasts = λ e. at (expired_either (lines_written ws) (lines_of s r) tx.sequence tx.number (subst (λ xs. HasExpired xs tx.sequence tx.number) (lines_more ws (record { by = i; before = s; entry = r })) e));
}
  where
    at : HasExpired (lines_written ws) tx.sequence tx.number ⊎ HasExpired (lines_of s r) tx.sequence tx.number → ⊥
    at (inl e) = h.lasts e
    at (inr e) = none_above s r tx h.stands e

has_peer : (a b : State) → IsSameManager a b → HasPeer b → HasPeer a
has_peer a b same h = (h.0, h.1, ap (λ ps. slice_get ps h.0) (sym same.peers) ∙ h.2)

holds_by_records : (sent : List Packet) → IsLasting (λ i. Holds sent)
holds_by_records sent = record {
  quiet = λ k a b ws same h. (
    left_by_records.quiet a b ws same h.0,
    λ p tx i e qm peer. let g = h.1 p tx i e (qm ∙ ap (λ (x : Identity). x.guid) same.manager.identity) (has_peer a b same.manager peer) in
        record { stands = same_stands a b (mark_of tx) same g.stands; lasts = g.lasts },
  );
  grows = λ i s r ws made h. (
    left_by_records.grows i s r ws made h.0,
    λ p tx j e qm peer. let same = applied_manager s r (made_of_no_peer s r made) in
        stands_more i s r ws tx made h.0 (h.1 p tx j e (qm ∙ ap (λ (x : Identity). x.guid) same.identity) (has_peer s (apply s r) same peer)),
  );
}

-- What a pump sends.

-- its record says that nothing expires
abbrev SaysNothing : State → Option Record → Type 0
SaysNothing s o = IfSome o (λ r. lines_of s r ≡ [])

sent_stands : (i : ℕ) (m : Manager) (o : Option Record) (ws all : List Written) (p : UserPacket) (tx : TxHead) → SaysNothing m.state o → all ≡ ws ++ written_by i m o → KeepsLeft m.state ws → IsOffered m.state o p tx
    → StandsFor (recorded m.state o) all tx
sent_stands i m o ws all p tx nothing same k h = record { stands = h.stands; lasts = λ e. old (by o nothing (subst (λ xs. HasExpired (lines_written xs) tx.sequence tx.number) same e)) }
  where
    by : (x : Option Record) → SaysNothing m.state x → HasExpired (lines_written (ws ++ written_by i m x)) tx.sequence tx.number → HasExpired (lines_written ws) tx.sequence tx.number
    by None g e = subst (λ xs. HasExpired (lines_written xs) tx.sequence tx.number) (append_nothing ws) e
    by (Some r) g e = subst (λ xs. HasExpired xs tx.sequence tx.number) (lines_more ws (record { by = i; before = m.state; entry = r }) ∙ ap (λ ls. lines_written ws ++ ls) g ∙ append_nothing (lines_written ws)) e

    old : HasExpired (lines_written ws) tx.sequence tx.number → ⊥
    old e = (all_in (IsClean (lines_written ws)) m.state.outs h.row k.1 h.there).left h.kept h.inside (subst (λ n. HasExpired (lines_written ws) h.row.sequence n) h.number (subst (λ q. HasExpired (lines_written ws) q tx.number) h.sequence e))

offers_nothing : (s : State) (now : ℕ) (o : Option Record) → IfSome o (RecordOf s (Pump now)) → SaysNothing s o
offers_nothing s now None h = tt
offers_nothing s now (Some (entry.Identity identity)) h = absurd h
offers_nothing s now (Some (entry.Peer peer)) h = absurd h
offers_nothing s now (Some (entry.Commit at ops)) h = absurd (let none = h.call_is in cc)
offers_nothing s now (Some (entry.Plain at p)) h = absurd (let none = h.call_is in cc)
offers_nothing s now (Some (entry.Arrived at numbers part)) h = absurd (let none = h.call_is in cc)
offers_nothing s now (Some (entry.Taken at place id)) h = absurd (clash h)
offers_nothing s now (Some (entry.Purged at place)) h = absurd (clash h)
offers_nothing s now (Some (entry.Ticked at)) h = absurd (clash h)
offers_nothing s now o h = refl

-- Courses.

-- a manager that is not known has no peers and no rows
unknown_is_nobody : (known : List Identity) (n : Network) → AreKnown known n → (i : ℕ) → slice_get known i ≡ None → manager_at n i ≡ nobody
unknown_is_nobody known n o i e = at (slice_get n.managers i) refl
  where
    at : (x : Option Manager) → slice_get n.managers i ≡ x → manager_at n i ≡ nobody
    at None f = ap (λ y. unwrap_or y nobody) f
    at (Some m) f = let found = within_get known i (subst (λ k. i < k) o.count (get_within n.managers i m f)) in absurd (none_some (sym e ∙ found.1))

no_peer : (known : List Identity) (n : Network) → AreKnown known n → (i : ℕ) → slice_get known i ≡ None → HasPeer (manager_at n i).state → ⊥
no_peer known n o i e h = none_some (subst (λ (x : Manager). slice_get x.state.peers h.0 ≡ Some h.1) (unknown_is_nobody known n o i e) h.2)

no_row : (known : List Identity) (n : Network) → AreKnown known n → (i : ℕ) → slice_get known i ≡ None → (row : Row) → In row (manager_at n i).state.outs → ⊥
no_row known n o i e row inside = subst (λ (x : Manager). In row x.state.outs) (unknown_is_nobody known n o i e) inside

module _ (known : List Identity) (apart : AreApart known) (c : Course) (o : IsOrderly known c) (led : (i : ℕ) → OfManager AreLed i c) (h : (i : ℕ) → OfManager (Holds c.sent) i c)
    (i now : ℕ) (may : may_change c (Pumps i now None) ≡ true) where
  abbrev pumper : Manager
  pumper = manager_at c.network i

  abbrev outcome : Outcome Answer
  outcome = outcome_of pumper (Pump now)

  abbrev after : Course
  after = changed (Pumps i now None) c

  orderly : IsOrderly known after
  orderly = change_orderly known c (Pumps i now None) apart may o

  offered : (p : UserPacket) (tx : TxHead) → In (packet.User p) outcome.packets → p.tx ≡ Some tx → IsOffered pumper.state outcome.entry p tx
  offered p tx inside e = all_in (λ x. (q : UserPacket) (t : TxHead) → x ≡ packet.User q → q.tx ≡ Some t → IsOffered pumper.state outcome.entry q t) outcome.packets (packet.User p)
      (pumped_offers pumper (written_of i c.written) (led i).0 now (made_only _ pumper.state outcome.entry (calls_are_modest pumper (Pump now)).entry)) inside p tx refl e

  -- it is the pumper's own
  own_qm : (p : UserPacket) (tx : TxHead) → IsOffered pumper.state outcome.entry p tx → p.message.id.qm ≡ pumper.state.identity.guid
  own_qm p tx g = ap (λ (x : MessageId). x.qm) g.id ∙ (all_in (RowLeads pumper.state.identity pumper.state.peers) pumper.state.outs g.row (led i).1 g.there g.kept g.inside).0

  -- the pumper afterwards
  pumper_after : (own : Identity) → slice_get known i ≡ Some own → manager_at after.network i ≡ succeeded pumper outcome
  pumper_after own e = ap (λ ms. unwrap_or (slice_get ms i) nobody) (noted_managers i now (length outcome.packets) (calling i (Pump now) None c).network)
      ∙ ap (λ x. unwrap_or x nobody) (set_there c.network.managers i (succeeded pumper outcome) (subst (λ n. i < n) (sym o.count) (get_within known i own e)))

  stands_now : (own : Identity) → slice_get known i ≡ Some own → (p : UserPacket) (tx : TxHead) → IsOffered pumper.state outcome.entry p tx → StandsFor (manager_at after.network i).state (written_of i after.written) tx
  stands_now own e p tx g = subst (λ (m : Manager). StandsFor m.state (written_of i after.written) tx) (sym (pumper_after own e))
      (record { stands = same_stands (recorded pumper.state outcome.entry) (succeeded pumper outcome).state (mark_of tx) (beside_rows outcome.beside (recorded pumper.state outcome.entry)) s.stands; lasts = s.lasts })
    where
      s : StandsFor (recorded pumper.state outcome.entry) (written_of i after.written) tx
      s = sent_stands i pumper outcome.entry (written_of i c.written) (written_of i after.written) p tx
          (offers_nothing pumper.state now outcome.entry (calls_are_of pumper (Pump now)).entry) (own_more i pumper outcome.entry c.written) (h i).0 g

  sent_now : (j : ℕ) (p : UserPacket) (tx : TxHead) → In (packet.User p) outcome.packets → p.tx ≡ Some tx → p.message.id.qm ≡ (manager_at after.network j).state.identity.guid
      → HasPeer (manager_at after.network j).state → StandsFor (manager_at after.network j).state (written_of j after.written) tx
  sent_now j p tx inside e qm peer = at (slice_get known i) refl (slice_get known j) refl
    where
      g : IsOffered pumper.state outcome.entry p tx
      g = offered p tx inside e

      at : (a : Option Identity) → slice_get known i ≡ a → (b : Option Identity) → slice_get known j ≡ b → StandsFor (manager_at after.network j).state (written_of j after.written) tx
      at None x b y = absurd (no_row known c.network (known_of known c o) i x g.row g.there)
      at (Some own) x None y = absurd (no_peer known after.network (known_of known after orderly) j y peer)
      at (Some own) x (Some other) y = subst (λ k. StandsFor (manager_at after.network k).state (written_of k after.written) tx) same (stands_now own x p tx g)
        where
          same : i ≡ j
          same = one_guid known i j own other apart x y (ap (λ (z : Identity). z.guid) (sym (who_is known c i own (known_of known c o) x)) ∙ sym (own_qm p tx g) ∙ qm
              ∙ ap (λ (z : Identity). z.guid) (who_is known after j other (known_of known after orderly) y))

  pump_holds : (j : ℕ) → OfManager (Holds after.sent) j after
  pump_holds j = (old.0, λ p tx inside e qm peer. at p tx e qm peer (in_either c.sent outcome.packets (packet.User p) inside))
    where
      old : OfManager (Holds c.sent) j after
      old = change_lasts known (λ k. Holds c.sent) (holds_by_records c.sent) c (Pumps i now None) may o h j

      at : (p : UserPacket) (tx : TxHead) → p.tx ≡ Some tx → p.message.id.qm ≡ (manager_at after.network j).state.identity.guid → HasPeer (manager_at after.network j).state
          → In (packet.User p) c.sent ⊎ In (packet.User p) outcome.packets → StandsFor (manager_at after.network j).state (written_of j after.written) tx
      at p tx e qm peer (inl inside) = old.1 p tx inside e qm peer
      at p tx e qm peer (inr inside) = sent_now j p tx inside e qm peer

-- every other change sends nothing
calls_sent : (i : ℕ) (call : Call) (failure : Option Failure) (c : Course) → (calling i call failure c).sent ≡ c.sent
calls_sent i call None c = refl
calls_sent i call (Some how) c = refl

hearing_sent : (note : Option Note) (p : Option Packet) (now : ℕ) (failure : Option Failure) (c : Course) → (hearing note p now failure c).sent ≡ c.sent
hearing_sent None p now failure c = refl
hearing_sent (Some note) None now failure c = refl
hearing_sent (Some note) (Some p) now failure c = calls_sent note.receiver (Hear now p) failure c

abbrev pub AllHold : Course → Type 0
AllHold c = (i : ℕ) → OfManager (Holds c.sent) i c

quiet_holds : (known : List Identity) (c : Course) (x : Change) → may_change c x ≡ true → IsOrderly known c → (changed x c).sent ≡ c.sent → AllHold c → AllHold (changed x c)
quiet_holds known c x may o same h j = subst (λ sent. OfManager (Holds sent) j (changed x c)) (sym same) (change_lasts known (λ k. Holds c.sent) (holds_by_records c.sent) c x may o h j)

change_holds : (known : List Identity) → AreApart known → (c : Course) (x : Change) → may_change c x ≡ true → IsOrderly known c → ((i : ℕ) → OfManager AreLed i c) → AllHold c → AllHold (changed x c)
change_holds known apart c (Calls i call failure) may o led h = quiet_holds known c (Calls i call failure) may o (calls_sent i call failure c) h
change_holds known apart c (Pumps i now None) may o led h = pump_holds known apart c o led h i now may
change_holds known apart c (Pumps i now (Some how)) may o led h = quiet_holds known c (Pumps i now (Some how)) may o (append_nothing (calling i (Pump now) (Some how) c).sent ∙ calls_sent i (Pump now) (Some how) c) h
change_holds known apart c (Hears k now failure) may o led h = quiet_holds known c (Hears k now failure) may o (hearing_sent (numbered c.network.notes k) (numbered c.sent k) now failure c) h
change_holds known apart c x may o led h = quiet_holds known c x may o refl h

abbrev pub IsHolding : List Identity → Course → Type 0
IsHolding known c = IsOrderlyWith known AreLed c × AllHold c

pub holding_closed : (known : List Identity) → AreApart known → IsClosed known (IsHolding known)
holding_closed known apart = record {
  orderly = λ c h. h.0.0;
  keeps = λ c x may h. ((by_records known AreLed apart led_by_records).keeps c x may h.0, change_holds known apart c x may h.0.0 h.0.1 h.1);
}

pub begins_holding : (known : List Identity) → IsHolding known (beginning known)
begins_holding known = (begins_with known AreLed led_by_records, λ i. ((begins_with known KeepsLeft left_by_records).1 i, λ p tx inside e qm peer. absurd inside))

pub unexpired_of : (known : List Identity) (c : Course) → IsHolding known c → (j : ℕ) (own : Identity) → slice_get known j ≡ Some own → (p : UserPacket) (tx : TxHead) → In (packet.User p) c.sent
    → p.tx ≡ Some tx → p.message.id.qm ≡ own.guid → (k : ℕ) (peer : Identity) → slice_get (others known own) k ≡ Some peer
    → In (position_of tx) (expiries_told (lines_written (written_of j c.written))) → ⊥
unexpired_of known c h j own there p tx inside e qm k peer has = ((h.1 j).1 p tx inside e (qm ∙ ap (λ (x : Identity). x.guid) (sym self.identity)) (k, peer, ap (λ ps. slice_get ps k) self.peers ∙ has)).lasts
  where
    self : IsItself known own (manager_at c.network j).state
    self = subst (λ x. IfSome x (λ y. IsItself known y (manager_at c.network j).state)) there (h.0.0.themselves j)

-- At each point of each run.
pub always_unexpired : (known : List Identity) → AreApart known → (ms : List Move) → IsRun known ms → (kept : ℕ → Bool) → (j : ℕ) (own : Identity) → slice_get known j ≡ Some own
    → (p : UserPacket) (tx : TxHead) → In (packet.User p) (settled kept (after_run known ms)).sent → p.tx ≡ Some tx → p.message.id.qm ≡ own.guid
    → (k : ℕ) (peer : Identity) → slice_get (others known own) k ≡ Some peer
    → In (position_of tx) (expiries_told (lines_written (written_of j (settled kept (after_run known ms)).written))) → ⊥
always_unexpired known apart ms run kept = unexpired_of known (settled kept (after_run known ms))
    (always_kept known (IsHolding known) (holding_closed known apart) ms run kept (begins_holding known))
