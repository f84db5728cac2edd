-- A valid manager pumps: the record fits, has a spelling and is as one that was read, and the manager is valid after it.
use Rattle.std.proofs.Common.{refl, ap, sym, subst, ◌∙◌, length, arith}
use Rattle.std.proofs.lemmas.Bool.Decides.{nat_tests}
use Rattle.std.proofs.lemmas.List.Elements.{All-from_recursion, recursion_from_All}
use Rattle.std.specs.List.{AllByRecursion}
use Rattle.std.specs.Option.{option_map_or}
use Rattle.std.specs.Prelude.{◌&&◌, ◌+◌, ◌==◌, ◌∷◌, ◌≡◌, ◌≤◌, [], All, Bool, Err, IfSome, List, None, Ok, Option, Some, cond, false, fold, map, not, option_and_then, position, slice_get, slice_set, suc, true, unwrap_or, zero, ℕ}
use Rattle.mqb_base.specs.Same.{same_guid}
use Rattle.mqb_base.specs.declared.heads.SessionHead.{SessionHead}
use Rattle.mqb_base.specs.declared.ids.Guid.{Guid}
use Rattle.mqb_base.specs.declared.ids.Identity.{Identity}
use Rattle.mqb_base.specs.declared.message.Delivery.TheVariants as delivery
use Rattle.mqb_base.specs.declared.message.Lane.{Lane}
use Rattle.mqb_base.specs.declared.message.Lane.TheVariants as lane
use Rattle.mqb_entries.specs.declared.members.Mark.{Mark}
use Rattle.mqb_packet.specs.declared.packet.Headers.TheVariants as headers
use Rattle.mqb_packet.specs.declared.packet.Packet.{Packet}
use Rattle.mqb_packet.specs.declared.packet.Packet.TheVariants as packet
use Rattle.mqb_plain.specs.Lists.{marked_next}
use Rattle.mqb_plain.specs.Plain.{PlainLists}
use Rattle.mqb_plain.specs.declared.outgoing.Outgoing.{Outgoing}
use Rattle.mqb_session.specs.Hearing.{after_owed}
use Rattle.mqb_session.specs.Phases.{owed_by}
use Rattle.mqb_session.specs.Sending.{is_ready, is_spent, may_send, stamped}
use Rattle.mqb_session.specs.State as one_end
use Rattle.mqb_session.specs.declared.heads.Kind.{Kind}
use Rattle.mqb_session.specs.declared.heads.Kind.TheVariants as kind
use Rattle.mqb_packet.specs.mqb_setup.declared.internal.Internal.{Internal}
use Rattle.mqb_model.specs.Lists.{with_changed}
use Rattle.mqb_model.specs.calls.hear.Session.{with_session}
use Rattle.mqb_model.specs.calls.pump.Candidates.{Candidate, candidates}
use Rattle.mqb_model.specs.calls.pump.Choosing.{chosen, head_for, kind_of, session_after, session_behind, with_heads}
use Rattle.mqb_model.specs.calls.pump.Pump.{marks_for, offered_entry, origin_of, pump, pump_at, pump_linked, pump_owed, pump_ready, pump_refusal, pump_to, pump_with, sending_ack, sending_all, sending_chosen, sending_one, set_up_packet, settled, settled_as}
use Rattle.mqb_model.specs.declared.faults.PumpFault.TheVariants as fault
use Rattle.mqb_model.specs.declared.limits.TheConstants.{MAX_PACKETS}
use Rattle.mqb_model.specs.managers.Beside.{OfExpress, OfRecoverable, OfRow, Origin, Owed, noted, noted_as, with_marked}
use Rattle.mqb_model.specs.managers.Manager.{Manager, Rest, is_down, linked_peer}
use Rattle.mqb_model.specs.managers.Outcomes.{answering, recorded}
use Rattle.mqb_model.specs.managers.Valid.{BearMarks, IsSentIn, IsValidManager, MarksRise, MayBear}
use Rattle.mqb_model.specs.records.Applying.{fits}
use Rattle.mqb_model.specs.records.Carrying.{IsRead}
use Rattle.mqb_model.specs.records.Counting.{IsSpellable}
use Rattle.mqb_model.specs.records.Offered.{mark_raised}
use Rattle.mqb_model.specs.records.Record.{Record}
use Rattle.mqb_model.specs.records.Record as entry
use Rattle.mqb_model.specs.state.Durable.{durable}
use Rattle.mqb_model.specs.state.Places.{with_plain}
use Rattle.mqb_model.specs.state.State.{State}
use Rattle.mqb_model.proofs.Accord.{Accords, IsHeld, IsLinked, IsLinkedTo, PlainHeld, number_accords, peer_in, plain_accords, rests_accord}
use Rattle.mqb_model.proofs.Calling.{up_where}
use Rattle.mqb_model.proofs.Heard.{unless_sound}
use Rattle.mqb_model.proofs.Hearing.{IsSound, same_sound}
use Rattle.mqb_model.proofs.Holding.{changed_holds}
use Rattle.mqb_model.proofs.Linking.{itself}
use Rattle.mqb_model.proofs.Marks.{marked_all, marked_rise}
use Rattle.mqb_model.proofs.Members.{changed_all, pairs_of, set_length, some_is}
use Rattle.mqb_model.proofs.Offering.{Precedes}
use Rattle.mqb_model.proofs.Offers.{Go, IsThere, candidates_stand, chosen_all, chosen_few, chosen_go, marks_few, marks_fit}
use Rattle.mqb_model.proofs.Recorded.{offered_accords}
use Rattle.mqb_model.proofs.Sessions.{Links, ack_linked, owed_linked, sent_linked}
use Rattle.mqb_model.proofs.Succeeding.{valid_accords, well_kept}
use Rattle.mqb_model.proofs.Volatile.{noted_volatile}

-- One plain message more was sent to the peer.

bear_peer : (session : one_end.State) (peer j : ℕ) (ps : List PlainLists) (i : ℕ) (p q : PlainLists) → slice_get ps i ≡ Some p → j + i ≡ peer
    → (IsSentIn session p → IsSentIn session q) → BearMarks session peer j ps → BearMarks session peer j (slice_set ps i q)
bear_peer session peer j [] i p q e at f h = tt
bear_peer session peer j (z ∷ zs) zero p q e at f h = (by (j == peer) (ap (λ n. j == n) (let same : peer ≡ j = omega (arith, at) in same) ∙ itself j) (subst (λ w. MayBear (j == peer) session w) (some_is z p e) h.0), h.1)
  where
    by : (b : Bool) → b ≡ true → MayBear b session p → MayBear b session q
    by true e h = f h
    by false e h = absurd (let none : ⊥ = cc in none)
bear_peer session peer j (z ∷ zs) (suc i) p q e at f h = (h.0, bear_peer session peer (j + 1) zs i p q e (omega (arith, at)) f h.1)

sent_at : (session : one_end.State) (peer j : ℕ) (ps : List PlainLists) (i : ℕ) (p : PlainLists) → slice_get ps i ≡ Some p → j + i ≡ peer → BearMarks session peer j ps
    → IsSentIn session p
sent_at session peer j [] i p e at h = absurd (let none : ⊥ = cc in none)
sent_at session peer j (z ∷ zs) zero p e at h = by (j == peer) (ap (λ n. j == n) (let same : peer ≡ j = omega (arith, at) in same) ∙ itself j) (subst (λ w. MayBear (j == peer) session w) (some_is z p e) h.0)
  where
    by : (b : Bool) → b ≡ true → MayBear b session p → IsSentIn session p
    by true e h = h
    by false e h = absurd (let none : ⊥ = cc in none)
sent_at session peer j (z ∷ zs) (suc i) p e at h = sent_at session peer (j + 1) zs i p e (omega (arith, at)) h.1

-- the first unsent message of a lane bears the next number of its kind
marked_held : (kind : Lane) (number : ℕ) (p : PlainLists) → PlainHeld p → PlainHeld (with_marked kind number p)
marked_held lane.Durable number p h = (marked_all (λ o. IsHeld lane.Durable headers.Session o.message) number p.recoverable (λ o q. q) h.0, h.1)
marked_held lane.Express number p h = (h.0, marked_all (λ o. IsHeld lane.Express headers.Session o.message) number p.express (λ o q. q) h.1)

within : (bound number : ℕ) (items : List Outgoing) → number ≤ bound → All (λ o. IfSome o.mark (λ mark. mark ≤ bound)) items
    → All (λ o. IfSome o.mark (λ mark. mark ≤ bound)) (marked_next number items)
within bound number items le h = All-from_recursion Within (marked_next number items) (marked_all Within number items (λ o q. le) (recursion_from_All Within items h))
  where
    Within : Outgoing → Type 0
    Within o = IfSome o.mark (λ mark. mark ≤ bound)

module _ (rest : Rest) (session : one_end.State) (m : may_send session ≡ true) where
  -- the session once a packet of a kind went
  abbrev sent : Kind → one_end.State
  sent k = (stamped k session).1

  resent : (k : Kind) (s : State) → Accords (with_session rest session) s → Accords (with_session rest (sent k)) s
  resent k s a = rests_accord (with_session rest session) (with_session rest (sent k)) s (sent_linked s.identity s.peers s.plain k session m a.linked) a.cursors a.owes a

  marked_accords : (k : Kind) (kind : Lane) (number : ℕ) (s : State) → peer_in s.peers (sent k) ≡ peer_in s.peers session
      → ((p : PlainLists) → IsSentIn session p → MarksRise p → MarksRise (with_marked kind number p)) → ((p : PlainLists) → IsSentIn (sent k) p → IsSentIn (sent k) (with_marked kind number p))
      → Accords (with_session rest session) s → Accords (with_session rest (sent k)) (with_plain (with_marked kind number) s (peer_in s.peers session))
  marked_accords k kind number s same rises bears a = plain_accords (with_session rest (sent k)) s (with_changed change s.plain at_peer)
      (changed_holds PlainHeld change s.plain at_peer (λ p h. marked_held kind number p h) a.plain)
      (changed_all MarksRise change s.plain at_peer (rise (slice_get s.plain at_peer) refl) a.marks) linked again
    where
      change : PlainLists → PlainLists
      change p = with_marked kind number p

      at_peer : ℕ
      at_peer = peer_in s.peers session

      again : Accords (with_session rest (sent k)) s
      again = resent k s a

      rise : (o : Option PlainLists) → slice_get s.plain at_peer ≡ o → IfSome o (λ p. MarksRise p → MarksRise (change p))
      rise None e = tt
      rise (Some p) e = λ r. rises p (sent_at session at_peer 0 s.plain at_peer p e (omega arith) a.linked.marks) r

      marks : (o : Option PlainLists) → slice_get s.plain at_peer ≡ o → BearMarks (sent k) at_peer 0 (option_map_or (λ x. slice_set s.plain at_peer (change x)) o s.plain)
      marks None e = subst (λ n. BearMarks (sent k) n 0 s.plain) same again.linked.marks
      marks (Some p) e = bear_peer (sent k) at_peer 0 s.plain at_peer p (change p) e (omega arith) (bears p) (subst (λ n. BearMarks (sent k) n 0 s.plain) same again.linked.marks)

      linked : IsLinkedTo s.identity s.peers (with_changed change s.plain at_peer) (sent k)
      linked = let l = again.linked in record {
        kept = l.kept;
        own = l.own;
        peer = l.peer;
        first = l.first;
        marks = subst (λ n. BearMarks (sent k) n 0 (with_changed change s.plain at_peer)) (sym same) (marks (slice_get s.plain at_peer) refl);
      }

  noted_accords : (s : State) (from : Origin) → Accords (with_session rest session) s
      → Accords (with_session rest (sent (kind_of from))) (noted_as (peer_in s.peers session) (stamped (kind_of from) session).0 s from)
  noted_accords s (Owed row) a = number_accords (with_session rest (sent kind.Plain)) s delivery.Express (resent kind.Plain s a)
  noted_accords s OfRecoverable a = marked_accords kind.Recoverable lane.Durable (session.recoverable_sent + 1) s refl
      (λ p b r. record { recoverable = marked_rise session.recoverable_sent (session.recoverable_sent + 1) p.recoverable (omega arith) b.recoverable r.recoverable; express = r.express })
      (λ p b. record { recoverable = within (session.recoverable_sent + 1) (session.recoverable_sent + 1) p.recoverable (omega arith) b.recoverable; express = b.express }) a
  noted_accords s OfExpress a = marked_accords kind.Plain lane.Express (session.sent + 1) s refl
      (λ p b r. record { recoverable = r.recoverable; express = marked_rise session.sent (session.sent + 1) p.express (omega arith) b.express r.express })
      (λ p b. record { recoverable = b.recoverable; express = within (session.sent + 1) (session.sent + 1) p.express (omega arith) b.express }) a
  noted_accords s (OfRow row number) a = resent kind.Plain s a

-- All packets.

noted_peers : (k : ℕ) (head : SessionHead) (s : State) (from : Origin) → (noted_as k head s from).peers ≡ s.peers
noted_peers k head s (Owed row) = refl
noted_peers k head s from = refl

sent_peer : (session : one_end.State) (from : Origin) → (stamped (kind_of from) session).1.peer ≡ session.peer
sent_peer session (Owed row) = refl
sent_peer session from = refl

all_noted : (rest : Rest) (session : one_end.State) (cs : List Candidate) (s : State) (k : ℕ) → k ≡ peer_in s.peers session → Go session cs → Accords (with_session rest session) s
    → Accords (with_session rest (session_behind session cs)) (fold (noted k) s (map origin_of (with_heads session cs)))
all_noted rest session [] s k e go a = a
all_noted rest session (c ∷ cs) s k e go a = all_noted rest (session_after session c) cs next k same go.1
    (subst (λ n. Accords (with_session rest (session_after session c)) (noted_as n (head_for session c) s c.origin)) (sym e) (noted_accords rest session go.0 s c.origin a))
  where
    next : State
    next = noted_as k (head_for session c) s c.origin

    same : k ≡ peer_in next.peers (session_after session c)
    same = e ∙ sym (ap (λ peers. peer_in peers (session_after session c)) (noted_peers k (head_for session c) s c.origin) ∙ of_peer (session_after session c).peer (sent_peer session c.origin))
      where
        -- the index of a peer with this GUID
        of_peer : (o : Option Guid) → o ≡ session.peer → unwrap_or (option_and_then (λ guid. position (λ p. same_guid p.guid guid) s.peers) o) (length s.peers) ≡ peer_in s.peers session
        of_peer o f = ap (λ o. unwrap_or (option_and_then (λ guid. position (λ p. same_guid p.guid guid) s.peers) o) (length s.peers)) f

all_volatile : (k : ℕ) (session : one_end.State) (cs : List Candidate) (s : State) → durable (fold (noted k) s (map origin_of (with_heads session cs))) ≡ durable s
all_volatile k session [] s = refl
all_volatile k session (c ∷ cs) s = all_volatile k (session_after session c) cs (noted_as k (head_for session c) s c.origin) ∙ noted_volatile k (head_for session c) s c.origin

-- What the connection knows.

settled_one : (rest : Rest) (from : Origin) → (length (settled_as rest from).cursors ≡ length rest.cursors) × (length (settled_as rest from).owes ≡ length rest.owes)
settled_one rest (Owed row) = (refl, set_length rest.owes row false)
settled_one rest OfRecoverable = (refl, refl)
settled_one rest OfExpress = (refl, refl)
settled_one rest (OfRow row number) = (set_length rest.cursors row number, refl)

settled_lengths : (rest : Rest) (cs : List Candidate) → (length (settled rest cs).cursors ≡ length rest.cursors) × (length (settled rest cs).owes ≡ length rest.owes)
settled_lengths rest [] = (refl, refl)
settled_lengths rest (c ∷ cs) = let more = settled_lengths (settled_as rest c.origin) cs in let one = settled_one rest c.origin in (more.0 ∙ one.0, more.1 ∙ one.1)

offered_peers : (s : State) (marks : List Mark) → (fold mark_raised s marks).peers ≡ s.peers
offered_peers s [] = refl
offered_peers s (mark ∷ marks) = offered_peers (mark_raised s mark) marks

-- The call.
module _ (m : Manager) (v : IsValidManager m) (up : is_down m ≡ false) (now : ℕ) (session : one_end.State) (there : m.rest.session ≡ Some session) where
  abbrev IsOne : one_end.State → Type 0
  IsOne session = Links m.state.identity m.state.peers m.state.plain session

  linked : IsOne session
  linked = subst (IsLinked m.state.identity m.state.peers m.state.plain) there (valid_accords m up v).linked

  one_sound : (p : Packet) (after : one_end.State) → IsOne after → IsSound m (sending_one m p after)
  one_sound p after l = record {
    written = record { fits = tt; read = tt };
    spelled = tt;
    kept = let a = valid_accords m up v in well_kept m (sending_one m p after) up v (record { fits = tt; read = tt })
        (record { accords = rests_accord m.rest (with_session m.rest after) m.state l a.cursors a.owes a; volatile = refl });
  }

  ack_sound : IsSound m (sending_ack m session)
  ack_sound = at session.owes
    where
      at : (b : Bool) → IsSound m (cond b (sending_one m (packet.Ack (stamped kind.Ack session).0) (stamped kind.Ack session).1) (answering m (Ok 0)))
      at true = one_sound (packet.Ack (stamped kind.Ack session).0) (stamped kind.Ack session).1 (ack_linked m.state.identity m.state.peers m.state.plain session linked)
      at false = same_sound m (Ok 0) v

  module _ (cs : List Candidate) (stand : AllByRecursion (IsThere m.state) cs) (few : length cs ≤ MAX_PACKETS) (go : Go session cs) where
    abbrev after : Rest
    after = settled m.rest cs

    -- the record, and what accords after it
    record HasOffered (o : Option Record) : Type 0 where
      pub fits : IfSome o (λ r. fits m.state r ≡ true)
      pub read : IfSome o IsRead
      pub spelled : IfSome o IsSpellable
      pub accords : Accords (with_session after session) (recorded m.state o)
      pub peers : (recorded m.state o).peers ≡ m.state.peers

    settled_accords : Accords (with_session after session) m.state
    settled_accords = let a = valid_accords m up v in let lengths = settled_lengths m.rest cs in let cursors = lengths.0 in let owes = lengths.1 in
        let few_cursors = a.cursors in let few_owes = a.owes in
        rests_accord m.rest (with_session after session) m.state linked (omega (arith, cursors, few_cursors)) (omega (arith, owes, few_owes)) a

    some : (n : ℕ) → (n == 0) ≡ false → 1 ≤ n
    some n e = grind (arith, nat_tests)

    offered : HasOffered (offered_entry m.state cs)
    offered = at (length (marks_for m.state cs) == 0) refl
      where
        at : (b : Bool) → (length (marks_for m.state cs) == 0) ≡ b → HasOffered (cond b None (Some (entry.Offered (marks_for m.state cs))))
        at true e = record { fits = tt; read = tt; spelled = tt; accords = settled_accords; peers = refl }
        at false e = record {
          fits = marks_fit m.state cs stand (pairs_of Precedes m.state.outs v.state.ordinals_rise);
          read = tt;
          spelled = (some (length (marks_for m.state cs)) e, let most = marks_few m.state cs in omega (arith, most, few));
          accords = offered_accords (with_session after session) m.state (marks_for m.state cs) settled_accords;
          peers = offered_peers m.state (marks_for m.state cs);
        }

    pub all_sound : (to : Guid) → IsSound m (sending_all m now session (linked_peer m.state session) to cs)
    all_sound to = record {
      written = record { fits = offered.fits; read = offered.read };
      spelled = offered.spelled;
      kept = well_kept m (sending_all m now session (linked_peer m.state session) to cs) up v (record { fits = offered.fits; read = offered.read }) (record {
        accords = all_noted after session cs (recorded m.state (offered_entry m.state cs)) (linked_peer m.state session) (sym (ap (λ peers. peer_in peers session) offered.peers)) go offered.accords;
        volatile = all_volatile (linked_peer m.state session) session cs (recorded m.state (offered_entry m.state cs));
      });
    }

  chosen_sound : (to : Guid) (cs : List Candidate) → AllByRecursion (IsThere m.state) cs → length cs ≤ MAX_PACKETS → Go session cs
      → IsSound m (sending_chosen m now session (linked_peer m.state session) to cs)
  chosen_sound to [] stand few go = ack_sound
  chosen_sound to (c ∷ cs) stand few go = all_sound (c ∷ cs) stand few go to

  with_sound : (to : Guid) (cs : List Candidate) → AllByRecursion (IsThere m.state) cs → IsSound m (pump_with m now session (linked_peer m.state session) to cs)
  with_sound to cs stand = at (is_spent session && not (length cs == 0))
    where
      at : (b : Bool) → IsSound m (cond b (answering m (Err fault.Spent)) (sending_chosen m now session (linked_peer m.state session) to (chosen session 0 0 cs)))
      at true = same_sound m (Err fault.Spent) v
      at false = chosen_sound to (chosen session 0 0 cs) (chosen_all (IsThere m.state) session 0 0 cs stand)
          (let most = chosen_few session 0 0 cs (omega arith) in omega (arith, most)) (chosen_go session 0 0 cs)

  to_sound : IsSound m (pump_at m now session (linked_peer m.state session))
  to_sound = at (slice_get m.state.peers k)
    where
      k : ℕ
      k = linked_peer m.state session

      lists : (peer : Identity) (o : Option PlainLists) → IsSound m (option_map_or (pump_to m now session k peer) o (answering m (Ok 0)))
      lists peer None = same_sound m (Ok 0) v
      lists peer (Some p) = with_sound peer.guid (candidates m.state m.rest now k peer p) (candidates_stand m.state m.rest now k peer p)

      at : (o : Option Identity) → IsSound m (option_map_or (λ peer. option_map_or (pump_to m now session k peer) (slice_get m.state.plain k) (answering m (Ok 0))) o (answering m (Ok 0)))
      at None = same_sound m (Ok 0) v
      at (Some peer) = lists peer (slice_get m.state.plain k)

  ready_sound : IsSound m (pump_ready m now session)
  ready_sound = at (is_ready session.phase)
    where
      at : (b : Bool) → IsSound m (cond b (pump_at m now session (linked_peer m.state session)) (answering m (Ok 0)))
      at true = to_sound
      at false = same_sound m (Ok 0) v

  linked_sound : IsSound m (pump_linked m now session)
  linked_sound = at (owed_by session.phase now session)
    where
      at : (o : Option Internal) → IsSound m (pump_owed m now session o)
      at None = ready_sound
      at (Some owed) = one_sound (set_up_packet owed) (after_owed now session) (owed_linked m.state.identity m.state.peers m.state.plain now session linked)

pub pump_sound : (m : Manager) (now : ℕ) → IsValidManager m → IsSound m (pump m now)
pump_sound m now v = unless_sound m (pump_refusal m) _ v (λ e. at (up_where (is_down m) _ _ e) m.rest.session refl)
  where
    at : is_down m ≡ false → (o : Option one_end.State) → m.rest.session ≡ o → IsSound m (option_map_or (pump_linked m now) o (answering m (Err fault.NotLinked)))
    at up None e = same_sound m (Err fault.NotLinked) v
    at up (Some session) e = linked_sound m v up now session e
