-- A valid manager hears any packet that was read.
use Rattle.std.proofs.Common.{refl, ap, sym, subst, ◌∙◌, arith}
use Rattle.std.proofs.lemmas.Bool.Decides.{nat_tests}
use Rattle.std.proofs.lemmas.List.Elements.{recursion_from_All}
use Rattle.std.specs.Option.{option_map_or}
use Rattle.std.specs.Prelude.{◌&&◌, ◌<◌, ◌^◌, ◌≡◌, ◌≤◌, Bool, Err, IfSome, IsSome, None, Option, Result, Some, cond, false, is_some, nat_lt, not, position, true, unwrap_or, ℕ}
use Rattle.mqb_base.specs.Same.{same_guid}
use Rattle.mqb_base.specs.declared.heads.SessionHead.{SessionHead}
use Rattle.mqb_base.specs.declared.heard.Cause.TheVariants as cause
use Rattle.mqb_base.specs.declared.heard.Heard.{Heard}
use Rattle.mqb_base.specs.declared.heard.Heard.TheVariants as heard
use Rattle.mqb_base.specs.declared.ids.Guid.{Guid}
use Rattle.mqb_packet.specs.mqb_heads.declared.base.TheConstants.{MAX_PACKET}
use Rattle.mqb_packet.specs.Plain.{message_size, user_packet_size}
use Rattle.mqb_packet.specs.declared.packet.Headers.TheVariants as headers
use Rattle.mqb_packet.specs.declared.packet.Packet.{Packet}
use Rattle.mqb_packet.specs.declared.packet.Packet.TheVariants as packet
use Rattle.mqb_packet.specs.declared.packet.UserPacket.{UserPacket}
use Rattle.mqb_session.specs.Hearing.{closing, head_in, on_establish, on_parameters}
use Rattle.mqb_session.specs.Sending.{is_ready}
use Rattle.mqb_session.specs.State as one_end
use Rattle.mqb_session.specs.declared.heads.HeadHeard.{HeadHeard}
use Rattle.mqb_session.specs.declared.heads.HeadHeard.TheVariants as head
use Rattle.mqb_session.specs.declared.phase.Phase.{Phase}
use Rattle.mqb_session.specs.declared.phase.Phase.TheVariants as phase
use Rattle.mqb_model.specs.calls.hear.Hear.{IsHead, IsReadable, hear, hear_acknowledgement, hear_behind, hear_linked, hear_refusal, listening}
use Rattle.mqb_model.specs.calls.hear.Session.{ack_heard, by_session, is_foreign, is_from, no_head, set_up_answer, user_heard, with_session}
use Rattle.mqb_model.specs.declared.faults.HearFault.TheVariants as fault
use Rattle.mqb_model.specs.managers.Manager.{Manager, is_down}
use Rattle.mqb_model.specs.managers.Outcomes.{Outcome, answering, unless}
use Rattle.mqb_model.specs.managers.Valid.{IsValidManager, MarksRise}
use Rattle.mqb_model.specs.records.Arrived.{is_from_peer}
use Rattle.mqb_model.specs.records.Carrying.{IsRecorded}
use Rattle.mqb_model.specs.state.Resolving.{peer_known}
use Rattle.mqb_model.proofs.Accord.{IsLinked, rests_accord}
use Rattle.mqb_model.proofs.Calling.{up_where}
use Rattle.mqb_model.proofs.Hearing.{IsGiven, IsSound, Listens, nothing_sound, same_sound, user_sound}
use Rattle.mqb_model.proofs.Members.{split_and}
use Rattle.mqb_model.proofs.Names.{same_guid_is}
use Rattle.mqb_model.proofs.Sessions.{HeardWith, IsKnown, Links, closed_linked, establish_linked, head_linked, parameters_linked}
use Rattle.mqb_model.proofs.Succeeding.{valid_accords, well_kept}

pub unless_sound : {V E : Type 0} (m : Manager) (refusal : Option E) (outcome : Outcome (Result V E)) → IsValidManager m → (refusal ≡ None → IsSound m outcome)
    → IsSound m (unless m refusal outcome)
unless_sound m (Some fault) outcome v h = same_sound m (Err fault) v
unless_sound m None outcome v h = h refl

-- A packet that was read carries what a record can tell of.

user_recorded : (p : UserPacket) → IsReadable (packet.User p) → IsRecorded p.message
user_recorded p r = record {
  well_formed = r.well_formed.message;
  named = r.names;
  size = less (message_size headers.Bare p.message) (user_packet_size p) MAX_PACKET r.size (let fewer : message_size headers.Bare p.message ≤ user_packet_size p = omega arith in fewer);
}
  where
    less : (a b limit : ℕ) → b ≤ limit → a ≤ b → nat_lt limit a ≡ false
    less a b limit le few = grind (arith, nat_tests)

-- the header of a user packet, or none
head_small : (o : Option SessionHead) → IfSome o IsHead → (unwrap_or o no_head).user < 2 ^ 16
head_small None h = omega arith
head_small (Some head) h = h

module _ (m : Manager) (v : IsValidManager m) (up : is_down m ≡ false) (now : ℕ) (session : one_end.State) (there : m.rest.session ≡ Some session) where
  -- a session of this manager
  abbrev IsOne : one_end.State → Type 0
  IsOne session = Links m.state.identity m.state.peers m.state.plain session

  linked : IsOne session
  linked = subst (IsLinked m.state.identity m.state.peers m.state.plain) there (valid_accords m up v).linked

  session_sound : (after : one_end.State) (answer : Heard) → IsOne after → IsSound m (by_session m after answer)
  session_sound after answer l = record {
    written = record { fits = tt; read = tt };
    spelled = tt;
    kept = let a = valid_accords m up v in well_kept m (by_session m after answer) up v (record { fits = tt; read = tt })
        (record { accords = rests_accord m.rest (with_session m.rest after) m.state l a.cursors a.owes a; volatile = refl });
  }

  listens : (after : one_end.State) → IsOne after → Listens (listening m after now)
  listens after l = record { valid = v; up = up; linked = l }

  ack_sound : (h : SessionHead) (given : HeadHeard) (after : one_end.State) → IsOne after → IsSound m (hear_acknowledgement m now given after)
  ack_sound h (head.Closed why) after l = session_sound after (heard.Closed why) l
  ack_sound h given after l = nothing_sound (listening m after now) (listens after l) heard.Session

  -- User packets.

  is_given : (p : UserPacket) → IsReadable (packet.User p) → (after : one_end.State) → is_from_peer m.state p.message ≡ true → IsGiven (listening m after now) p
  is_given p r after from = record { from = from; carried = user_recorded p r; kind = r.well_formed.tx }

  behind_sound : (p : UserPacket) → IsReadable (packet.User p) → (given : HeadHeard) (after : one_end.State) → IsOne after
      → HeardWith (is_from_peer m.state p.message ≡ true) given after → IsSound m (hear_behind m now p given after)
  behind_sound p r (head.Closed why) after l w = session_sound after (heard.Closed why) l
  behind_sound p r head.InOrder after l w = user_sound (listening m after now) (listens after l) p (is_given p r after w.0) true (λ e. w.1)
  behind_sound p r head.OutOfOrder after l w = user_sound (listening m after now) (listens after l) p (is_given p r after w) false (λ e. absurd (let none : ⊥ = cc in none))
  behind_sound p r head.AckOnly after l w = user_sound (listening m after now) (listens after l) p (is_given p r after w) false (λ e. absurd (let none : ⊥ = cc in none))

  -- a packet that is not foreign is from a peer
  from_peer : (p : UserPacket) → is_foreign m.state session p ≡ false → is_from_peer m.state p.message ≡ true
  from_peer p e = at session.peer linked.peer (split_and (is_from session p.message) (same_guid p.to m.state.identity.guid) (truly _ e)).0
    where
      truly : (b : Bool) → not b ≡ false → b ≡ true
      truly true e = refl
      truly false e = sym e

      at : (o : Option Guid) → IfSome o (IsKnown m.state.identity m.state.peers m.state.plain) → option_map_or (same_guid p.message.id.qm) o false ≡ true → is_from_peer m.state p.message ≡ true
      at None k f = absurd (let none : ⊥ = cc in none)
      at (Some guid) k f = subst (λ g. IsSome (position (λ p. same_guid p.guid g) m.state.peers)) (sym (same_guid_is p.message.id.qm guid f)) k

  user_well : (p : UserPacket) → IsReadable (packet.User p) → (b : Bool) → (is_ready session.phase && is_foreign m.state session p) ≡ b
      → let given = cond b (closing cause.Foreign session) (head_in session.phase (unwrap_or p.session no_head) session) in
      IsOne given.1 × HeardWith (is_from_peer m.state p.message ≡ true) given.0 given.1
  user_well p r true e = (closed_linked m.state.identity m.state.peers m.state.plain session cause.Foreign linked, tt)
  user_well p r false e = head_linked m.state.identity m.state.peers m.state.plain (is_from_peer m.state p.message ≡ true) (unwrap_or p.session no_head) session session.phase refl
      (head_small p.session r.number) (λ ready. from_peer p (not_foreign session.phase ready e)) linked
    where
      not_foreign : (ph : Phase) → ph ≡ phase.Ready → (is_ready ph && is_foreign m.state session p) ≡ false → is_foreign m.state session p ≡ false
      not_foreign ph same e = sym (ap (λ b. b && is_foreign m.state session p) (ap is_ready same)) ∙ e

  linked_sound : (p : Packet) → IsReadable p → IsSound m (hear_linked m now p session)
  linked_sound (packet.Establish e) r = let after = on_establish e (is_some (peer_known m.state e.client)) session in
      session_sound after (set_up_answer after.phase) (establish_linked m.state.identity m.state.peers m.state.plain e (is_some (peer_known m.state e.client)) session (λ known. known)
      (recursion_from_All MarksRise m.state.plain v.marks) linked)
  linked_sound (packet.Parameters p) r = let after = on_parameters p session in
      session_sound after (set_up_answer after.phase) (parameters_linked m.state.identity m.state.peers m.state.plain p session linked)
  linked_sound (packet.Ack h) r = let given = ack_heard h session in ack_sound h given.0 given.1
      (head_linked m.state.identity m.state.peers m.state.plain (Unit {0}) (record h { user = 0 }) session session.phase refl (omega arith) (λ ready. tt) linked).0
  linked_sound (packet.User p) r = let given = user_heard m.state session p in
      let w = user_well p r (is_ready session.phase && is_foreign m.state session p) refl in behind_sound p r given.0 given.1 w.0 w.1

pub hear_sound : (m : Manager) (p : Packet) (now : ℕ) → IsValidManager m → IsReadable p → IsSound m (hear m p now)
hear_sound m p now v r = unless_sound m (hear_refusal m) _ v (λ e. at (up_where (is_down m) _ _ e) m.rest.session refl)
  where
    at : is_down m ≡ false → (o : Option one_end.State) → m.rest.session ≡ o → IsSound m (option_map_or (hear_linked m now p) o (answering m (Err fault.NotLinked)))
    at up None e = same_sound m (Err fault.NotLinked) v
    at up (Some session) e = linked_sound m v up now session e p r
