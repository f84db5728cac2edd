-- A packet that is heard keeps what is stored.
use Rattle.std.proofs.Common.{refl, ap, sym, subst, ◌∙◌, arith, inl, inr}
use Rattle.std.specs.List.{AllByRecursion, list_any}
use Rattle.std.specs.Option.{option_map_or}
use Rattle.std.specs.Prelude.{[], ◌-◌, ◌++◌, ◌==◌, ◌∷◌, ◌≡◌, ◌≤◌, Bool, Err, IfSome, List, None, Option, Some, cond, false, is_some, not, slice_get, true, ℕ}
use Rattle.mqb_base.specs.declared.class.Class.{Class}
use Rattle.mqb_base.specs.declared.ids.Guid.{Guid}
use Rattle.mqb_base.specs.declared.ids.Identity.{Identity}
use Rattle.mqb_base.specs.declared.ids.MessageId.{MessageId}
use Rattle.mqb_base.specs.declared.message.Lane.{Lane}
use Rattle.mqb_base.specs.declared.ledger.Line.{Line}
use Rattle.mqb_base.specs.declared.ledger.Line.TheVariants as line
use Rattle.mqb_exactly_once.specs.Words.{In}
use Rattle.mqb_packet.specs.declared.packet.Packet.{Packet}
use Rattle.mqb_packet.specs.declared.packet.UserPacket.{UserPacket}
use Rattle.mqb_queue.specs.Places.{numbered}
use Rattle.mqb_session.specs.State as one_end
use Rattle.mqb_model.specs.calls.hear.Hear.{hear, hear_linked}
use Rattle.mqb_model.specs.declared.faults.HearFault.TheVariants as fault
use Rattle.mqb_model.specs.managers.Manager.{Manager, is_down}
use Rattle.mqb_model.specs.managers.Outcomes.{Outcome, answering, succeeded, unless}
use Rattle.mqb_model.specs.records.Applying.{lines_of}
use Rattle.mqb_model.specs.records.Decisions.{stored_line}
use Rattle.mqb_model.specs.records.Record.{Record}
use Rattle.mqb_model.specs.records.Record as entry
use Rattle.mqb_model.specs.records.Releases.{releases_made}
use Rattle.mqb_model.specs.rules.Arrivals.{storing_refusal}
use Rattle.mqb_model.specs.rules.Numbers.{own_id}
use Rattle.mqb_model.specs.state.State.{State}
use Rattle.mqb_network.specs.Choices.{Failure}
use Rattle.mqb_network.specs.Courses.{Course, Written, written_by}
use Rattle.mqb_network.specs.Network.{Connection, Network, Note, is_connected, is_end, is_underway, manager_at, with_manager}
use Rattle.mqb_model.specs.calls.Call.{Answer, Hear, outcome_of}
use Rattle.mqb_history.specs.Changes.{calling, hearing, may_hear}
use Rattle.mqb_history.specs.Orderly.{AreAllDisjoint, IsOrderly}
use Rattle.mqb_history.specs.Stored.{IsStorageOf, IsStoredIn, TellStorage, WaitsIn}
use Rattle.mqb_history.proofs.Between.{AreEnds, all_in, any_in, ends_turn, first_end, from_sender, in_any, one_end_of, sent_in}
use Rattle.mqb_history.proofs.Flowing.{Flows, flows_more, released_stored, source_hears, target_hears}
use Rattle.mqb_history.proofs.Heard.{Hears, IsReleasable, IsSound, Stores, linked_hears, stored_told}
use Rattle.mqb_history.proofs.Lists.{equal_numbers, get_in, if_some, none_some, some_is, split_and}
use Rattle.mqb_history.proofs.Ordering.{with_at}
use Rattle.mqb_history.proofs.Storing.{FlowsIn, KeepsStorage, ReleasesStored, call_waits, called_rests, failing_keeps, well_keeps}
use Rattle.mqb_history.proofs.Unreleased.{IsOfOwn, Waits}

-- The line of a record that stores a message.

last_in : (ls : List Line) (l : Line) → In l (ls ++ l ∷ [])
last_in [] l = inl refl
last_in (z ∷ ls) l = inr (last_in ls l)

stored_told_by : (s : State) (r : Record) (p : UserPacket) → Stores p (Some r) → TellStorage p.message.id (lines_of s r)
stored_told_by s r p (now, numbers, inl e) = subst (λ x. TellStorage p.message.id (lines_of s x)) (sym (some_is r (entry.Arrived now numbers (entry.Stored p)) e))
    (stored_line p.message refusal, last_in (releases_made s numbers).lines (stored_line p.message refusal), at refusal)
  where
    refusal : Option Class
    refusal = storing_refusal (releases_made s numbers).state p

    at : (o : Option Class) → IsStorageOf p.message.id (stored_line p.message o)
    at None = inl refl
    at (Some class) = inr (class, refl)
stored_told_by s r p (now, numbers, inr e) = subst (λ x. TellStorage p.message.id (lines_of s x)) (sym (some_is r (entry.Arrived now numbers (entry.Final p)) e))
    (line.Stored p.message.id, last_in (releases_made s numbers).lines (line.Stored p.message.id), inl refl)

last_written : (ws : List Written) (w : Written) → In w (ws ++ w ∷ [])
last_written [] w = inl refl
last_written (z ∷ ws) w = inr (last_written ws w)

stored_now : (ws : List Written) (x : ℕ) (m : Manager) (o : Option Record) (p : UserPacket) → Stores p o → IsStoredIn (ws ++ written_by x m o) p.message.id
stored_now ws x m None p (now, numbers, inl e) = absurd (none_some e)
stored_now ws x m None p (now, numbers, inr e) = absurd (none_some e)
stored_now ws x m (Some r) p g = record {
  storage = record { by = x; before = m.state; entry = r };
  there = last_written ws (record { by = x; before = m.state; entry = r });
  told = stored_told_by m.state r p g;
}

-- the other end of a connection
pub ends_other : (d : Connection) (i j s : ℕ) → AreEnds d i j → AreEnds d s i → s ≡ j
ends_other d i j s (inl e) (inl f) = f.0 ∙ sym e.0 ∙ f.1 ∙ sym e.1
ends_other d i j s (inl e) (inr f) = f.0 ∙ sym e.1
ends_other d i j s (inr e) (inl f) = f.0 ∙ sym e.1
ends_other d i j s (inr e) (inr f) = f.0 ∙ sym e.0 ∙ f.1 ∙ sym e.1

pub place_of : {X : Type 0} (xs : List X) (k : ℕ) (x : X) → numbered xs k ≡ Some x → slice_get xs (k - 1) ≡ Some x
place_of xs k x e = at (k == 0) e
  where
    at : (b : Bool) → cond b None (slice_get xs (k - 1)) ≡ Some x → slice_get xs (k - 1) ≡ Some x
    at true f = absurd (none_some f)
    at false f = f

hear_is : (m : Manager) (now : ℕ) (x : Packet) (before : one_end.State) → is_down m ≡ false → m.rest.session ≡ Some before → hear m x now ≡ hear_linked m now x before
hear_is m now x before up there = ap (λ b. unless m (cond b (Some fault.Down) None) (option_map_or (hear_linked m now x) m.rest.session (answering m (Err fault.NotLinked)))) up
    ∙ ap (λ o. option_map_or (hear_linked m now x) o (answering m (Err fault.NotLinked))) there

some_session : (o : Option one_end.State) → is_some o ≡ true → (s : one_end.State) × (o ≡ Some s)
some_session None e = absurd (let none : ⊥ = cc in none)
some_session (Some s) e = (s, refl)

pub session_of : (known : List Identity) (c : Course) (x : ℕ) → IsOrderly known c → is_connected c.network x ≡ true → (s : one_end.State) × ((manager_at c.network x).rest.session ≡ Some s)
session_of known c x o e = some_session (manager_at c.network x).rest.session ((o.linked x).session ∙ e)

-- A packet is heard by a manager in a connection of which it is an end, and the sender is the other one.
module _ (c : Course) (k : KeepsStorage c) (x sender now : ℕ) (p : Packet) (d : Connection) (before : one_end.State)
    (inside : In d c.network.connections) (ends : AreEnds d x sender) (sent : In p (from_sender d.number sender c.network.notes c.sent))
    (linked : (manager_at c.network x).rest.session ≡ Some before) (up : is_down (manager_at c.network x) ≡ false)
    (only : (e : Connection) → In e c.network.connections → is_end x e ≡ true → d ≡ e) where
  abbrev m : Manager
  m = manager_at c.network x

  abbrev outcome : Outcome Answer
  outcome = outcome_of m (Hear now p)

  abbrev next : Manager
  next = succeeded m outcome

  hears : (own : Guid) → Hears own m.state before p (hear m p now)
  hears own = subst (Hears own m.state before p) (sym (hear_is m now p before up linked)) (linked_hears own m now p before)

  h : FlowsIn c.network c.sent c.written x sender d.number
  h = k.flows d inside x sender ends

  sound_own : (own : Guid) → IfSome outcome.entry (IsOfOwn own)
  sound_own own = let g = hears own in if_some (IsSound own m.state g.after.recoverable_acked) (IsOfOwn own) outcome.entry (λ r s. s.1) g.answers.entry

  acked_stored : (own : Guid) → (hears own).after.recoverable_acked ≤ h.target.stored
  acked_stored own = let g = (hears own).acked in let high = all_in (λ z. stored_told z ≤ h.target.stored) (from_sender d.number sender c.network.notes c.sent) p h.told sent in
      let low = subst (λ (s : one_end.State). s.recoverable_acked ≤ h.target.stored) (some_is h.source before (sym h.sends ∙ linked)) h.acked in omega (arith, g, high, low)

  stores : IfSome outcome.entry (ReleasesStored c.written m.state)
  stores = let g = hears h.own in if_some (IsSound h.own m.state g.after.recoverable_acked) (ReleasesStored c.written m.state) outcome.entry (λ r s. of r s) g.answers.entry
    where
      each : (acked : ℕ) (ns : List ℕ) → acked ≤ h.target.stored → AllByRecursion (IsReleasable m.state acked) ns → AllByRecursion (λ n. IsStoredIn c.written (own_id m.state n) × WaitsIn m.state n) ns
      each acked [] le g = tt
      each acked (n ∷ ns) le g = (
        released_stored m (manager_at c.network sender) (from_sender d.number x c.network.notes c.sent) (from_sender d.number sender c.network.notes c.sent) c.written acked n h le g.0,
        each acked ns le g.1,
      )

      of : (r : Record) → IsSound h.own m.state (hears h.own).after.recoverable_acked r → ReleasesStored c.written m.state r
      of (entry.Arrived now numbers part) s = each (hears h.own).after.recoverable_acked numbers (acked_stored h.own) s.0
      of r s = tt

  abbrev more : List Written
  more = c.written ++ written_by x m outcome.entry

  keeps_waiting : (own : Guid) (Bears : Lane → ℕ → MessageId → Type 0) → Waits own Bears m.state → Waits own Bears next.state
  keeps_waiting own Bears w = call_waits own Bears m outcome (sound_own own) (hears own).answers.beside w

  flows : (e : Connection) → In e c.network.connections → (i j : ℕ) → AreEnds e i j → FlowsIn (with_manager c.network x next) c.sent more i j e.number
  flows e there i j ends_of = with_at (λ y. Flows (manager_at (with_manager n x next) i) y xs ys more) n x j next first
      (λ same. target_hears (manager_at (with_manager n x next) i) (manager_at n j) next xs ys more p outcome.entry before (hears h.own).after first (from_first same)
      (subst (λ y. (manager_at n y).rest.session ≡ Some before) same linked) (hears h.own).answers.session (hears h.own).counts
      (λ q g. stored_now c.written x m outcome.entry q g))
    where
      n : Network
      n = c.network

      xs : List Packet
      xs = from_sender e.number i n.notes c.sent

      ys : List Packet
      ys = from_sender e.number j n.notes c.sent

      same_number : is_end x e ≡ true → d.number ≡ e.number
      same_number f = ap (λ (y : Connection). y.number) (only e there f)

      same_ends : is_end x e ≡ true → AreEnds e sender x
      same_ends f = subst (λ y. AreEnds y sender x) (only e there f) (ends_turn d x sender ends)

      -- the packet is the other end's
      from_second : x ≡ i → In p ys
      from_second same = let f = subst (λ y. is_end y e ≡ true) (sym same) (first_end e i j ends_of) in
          subst (λ y. In p (from_sender e.number y n.notes c.sent)) (ends_other e i j sender ends_of (subst (λ y. AreEnds e sender y) same (same_ends f)))
          (subst (λ y. In p (from_sender y sender n.notes c.sent)) (same_number f) sent)

      from_first : x ≡ j → In p xs
      from_first same = let f = subst (λ y. is_end y e ≡ true) (sym same) (first_end e j i (ends_turn e i j ends_of)) in
          subst (λ y. In p (from_sender e.number y n.notes c.sent)) (ends_other e j i sender (ends_turn e i j ends_of) (subst (λ y. AreEnds e sender y) same (same_ends f)))
          (subst (λ y. In p (from_sender y sender n.notes c.sent)) (same_number f) sent)

      all : Flows (manager_at n i) (manager_at n j) xs ys more
      all = flows_more (manager_at n i) (manager_at n j) xs ys c.written (written_by x m outcome.entry) (k.flows e there i j ends_of)

      first : Flows (manager_at (with_manager n x next) i) (manager_at n j) xs ys more
      first = with_at (λ y. Flows y (manager_at n j) xs ys more) n x i next all
          (λ same. source_hears (manager_at n i) (manager_at n j) next xs ys more p before (hears all.own).after all (from_second same)
          (subst (λ y. (manager_at n y).rest.session ≡ Some before) same linked) (hears all.own).answers.session (hears all.own).sent (hears all.own).recoverable_sent (hears all.own).acked (hears all.own).got_acked
          (λ Bears w. keeps_waiting all.own Bears (subst (λ y. Waits all.own Bears (manager_at n y).state) (sym same) w)))

  pub heard_keeps : (disjoint : AreAllDisjoint c.network.connections) (failure : Option Failure) → KeepsStorage (calling x (Hear now p) failure c)
  heard_keeps disjoint None = well_keeps c x (Hear now p) k
      (called_rests m outcome (k.rests x) (ap is_some (hears (k.rests x).own).answers.session ∙ sym (ap is_some linked)) (sound_own (k.rests x).own) (hears (k.rests x).own).answers.beside)
      stores flows
  heard_keeps disjoint (Some how) = failing_keeps c x (Hear now p) how disjoint k (sound_own (k.rests x).own) stores

pub hearing_keeps : (known : List Identity) (c : Course) (number now : ℕ) (failure : Option Failure) (note : Option Note) (p : Option Packet) → numbered c.network.notes number ≡ note
    → numbered c.sent number ≡ p → may_hear c note p now failure ≡ true → IsOrderly known c → KeepsStorage c → KeepsStorage (hearing note p now failure c)
hearing_keeps known c number now failure None p e f may o k = k
hearing_keeps known c number now failure (Some note) None e f may o k = k
hearing_keeps known c number now failure (Some note) (Some p) e f may o k = heard_keeps c k note.receiver note.sender now p found.0 session.0 found.1 ends inside session.1 up only o.disjoint failure
  where
    underway : list_any (λ (y : Connection). y.number == note.connection) c.network.connections ≡ true
    underway = (split_and (not note.dropped) _ (split_and (is_underway c.network note) _ may).0).1

    found : (y : Connection) × In y c.network.connections × ((y.number == note.connection) ≡ true)
    found = any_in (λ (y : Connection). y.number == note.connection) c.network.connections underway

    same : found.0.number ≡ note.connection
    same = equal_numbers found.0.number note.connection found.2

    ends : AreEnds found.0 note.receiver note.sender
    ends = ends_turn found.0 note.sender note.receiver (k.ends note (get_in c.network.notes (number - 1) note (place_of c.network.notes number note e)) found.0 found.1 same)

    connected : is_connected c.network note.receiver ≡ true
    connected = in_any (is_end note.receiver) c.network.connections found.0 found.1 (first_end found.0 note.receiver note.sender ends)

    session : (s : one_end.State) × ((manager_at c.network note.receiver).rest.session ≡ Some s)
    session = session_of known c note.receiver o connected

    up : is_down (manager_at c.network note.receiver) ≡ false
    up = (o.linked note.receiver).up connected

    only : (y : Connection) → In y c.network.connections → is_end note.receiver y ≡ true → found.0 ≡ y
    only y there g = one_end_of c.network.connections found.0 y note.receiver o.disjoint found.1 there (first_end found.0 note.receiver note.sender ends) g

    inside : In p (from_sender found.0.number note.sender c.network.notes c.sent)
    inside = sent_in found.0.number note.sender c.network.notes c.sent (number - 1) note p (place_of c.network.notes number note e) (place_of c.sent number p f) (sym same) refl
