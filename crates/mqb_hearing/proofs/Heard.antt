-- What follows from a plan for a manager, and from a header that was heard.
use Rattle.std.proofs.Common.{◌≡◌, ◌+◌, ◌<◌, ◌≤◌, ℕ, Bool, true, false, cond, Option, None, Some, Ok, Err, Result, refl, sym, ap, subst, ◌∙◌, arith}
use Rattle.std.specs.Option.{option_map_or}
use Rattle.std.specs.Prelude.{IfOk, IfSome, IsSomeAnd, OnOk}
use Rattle.mqb_base.specs.declared.answers.Memory.{Memory}
use Rattle.mqb_base.specs.declared.heads.SessionHead.{SessionHead}
use Rattle.mqb_base.specs.declared.heard.Cause.TheVariants as cause
use Rattle.mqb_timeouts.specs.Work.{beside_of}
use Rattle.mqb_packet.specs.Parts.{seen_packet}
use Rattle.mqb_packet.specs.Spelled.{packet_in}
use Rattle.mqb_packet.specs.declared.lent.PacketView.{PacketView}
use Rattle.mqb_packet.specs.declared.packet.Packet.{Packet}
use Rattle.mqb_session.specs.Hearing.{acknowledged, closing, counted, head_in, heard_head, is_bad_ack, order_of}
use Rattle.mqb_session.specs.State as one_end
use Rattle.mqb_session.specs.declared.heads.HeadHeard.{HeadHeard}
use Rattle.mqb_session.specs.declared.heads.HeadHeard.TheVariants as head
use Rattle.mqb_session.specs.declared.phase.Phase.{Phase}
use Rattle.mqb_session.specs.declared.phase.Phase.TheVariants as phase
use Rattle.mqb_model.specs.calls.hear.Hear.{IsReadable, hear, hear_linked}
use Rattle.mqb_model.specs.calls.hear.Session.{HeardOutcome}
use Rattle.mqb_model.specs.declared.faults.HearFault.TheVariants as fault
use Rattle.mqb_model.specs.laws.Fitting.{IsAsRead, IsFitting}
use Rattle.mqb_model.specs.managers.Beside.{beside_done}
use Rattle.mqb_model.specs.managers.Manager.{Condition, Down, Manager, Up, is_down}
use Rattle.mqb_model.specs.managers.Outcomes.{answering, recorded, state_after, unless}
use Rattle.mqb_model.specs.managers.Valid.{IsLinkedWell, IsValidManager, IsWritable}
use Rattle.mqb_model.specs.records.Applying.{fits}
use Rattle.mqb_model.specs.records.Carrying.{IsRead}
use Rattle.mqb_model.specs.records.Record.{Record}
use Rattle.mqb_model.specs.state.State.{State}
use Rattle.mqb_model.specs.state.Valid.{IsValidState}
use Rattle.mqb_hearing.specs.Plans.{Makes, OnHeard, ShowsReadable, WhereValid, in_state, outcome_of}
use Rattle.mqb_hearing.specs.declared.hearing.Hearing.{Hearing}

-- where it was a user packet in order, fewer were stored than got
abbrev Got : HeadHeard × one_end.State → Type 0
Got given = given.0 ≡ head.InOrder → given.1.stored < given.1.got

-- A user packet in order counts as got, and fewer were stored.
pub got_more : (h : SessionHead) (s : one_end.State) → one_end.IsKept s → (heard_head h s).0 ≡ head.InOrder → (heard_head h s).1.stored < (heard_head h s).1.got
got_more h s kept = at s.phase
  where
    less : (a b : ℕ) → a ≤ b → a < b + 1
    less a b le = omega (arith, le)

    by : (b : Bool) → Got (cond b (closing cause.BadAck s) (order_of h s, counted (order_of h s) (acknowledged h s)))
    by true e = absurd (let none : ⊥ = cc in none)
    by false e = subst (λ (o : HeadHeard). (counted o (acknowledged h s)).stored < (counted o (acknowledged h s)).got) (sym e) (less s.stored s.got kept.stored)

    at : (ph : Phase) → Got (head_in ph h s)
    at phase.Ready e = by (is_bad_ack h s) e
    at (phase.Closed why) e = absurd (let none : ⊥ = cc in none)
    at phase.Start e = absurd (let none : ⊥ = cc in none)
    at phase.WaitEstablish e = absurd (let none : ⊥ = cc in none)
    at phase.OweEstablish e = absurd (let none : ⊥ = cc in none)
    at phase.OweRefusal e = absurd (let none : ⊥ = cc in none)
    at phase.OweParameters e = absurd (let none : ⊥ = cc in none)
    at phase.WaitParameters e = absurd (let none : ⊥ = cc in none)

-- a valid manager that has a session is up
up : (s : State) (m : Manager) (session : one_end.State) (c : Condition) (o : Option one_end.State) → IsLinkedWell s c o → o ≡ Some session → is_down (record m { condition = c }) ≡ false
up s m session Up o l e = refl
up s m session (Down doubt) None l e = absurd (let none : ⊥ = cc in none)
up s m session (Down doubt) (Some other) l e = absurd (let none : ⊥ = cc in none)

-- it hears as a linked one does
pub linked_hears : (m : Manager) (p : Packet) (now : ℕ) (session : one_end.State) → IsValidManager m → m.rest.session ≡ Some session → hear m p now ≡ hear_linked m now p session
linked_hears m p now session v e =
    ap (λ (b : Bool). unless m (cond b (Some fault.Down) None) (option_map_or (hear_linked m now p) m.rest.session (answering m (Err fault.NotLinked))))
    (up m.state m session m.condition m.rest.session v.session e)
    ∙ ap (λ (o : Option one_end.State). option_map_or (hear_linked m now p) o (answering m (Err fault.NotLinked))) e

writable : (s : State) (o : Option Record) → IfSome o (λ r. fits s r ≡ true) → IfSome o IsRead → IfSome o (IsWritable s)
writable s None f r = tt
writable s (Some x) f r = record { fits = f; read = r }

module _ (s : State) (session : one_end.State) (now : ℕ) (v : PacketView) where
  -- a plan was made
  abbrev IsMade : Result Hearing Memory → Type 0
  IsMade r = (p : Packet) → packet_in (seen_packet v) ≡ Some p → Makes s r (λ m. hear_linked m now p session)

  made_for : (h : Hearing) → IsMade (Ok h) → (m : Manager) (p : Packet) → m.state ≡ s → packet_in (seen_packet v) ≡ Some p → hear_linked m now p session ≡ outcome_of m h
  made_for h made m p same there = subst (λ (x : State). hear_linked (in_state x m) now p session ≡ outcome_of (in_state x m) h) (sym same) (made p there m)

  -- what holds of the plan's outcome holds of what a manager makes of the packet
  pub told : (r : Result Hearing Memory) → IsMade r → (P : Hearing → Manager → HeardOutcome → Type 0) → ((h : Hearing) (m : Manager) → P h m (outcome_of m h))
      → IfOk r (λ h. OnHeard s session now v (P h))
  told (Ok h) made P holds = λ m p same there. subst (P h m) (sym (made_for h made m p same there)) (holds h m)
  told (Err e) made P holds = tt

  -- the packet that the view shows can be heard
  readable : (o : Option Packet) → packet_in (seen_packet v) ≡ o → IsSomeAnd o IsReadable → (p : Packet) × (packet_in (seen_packet v) ≡ Some p) × IsReadable p
  readable None e h = absurd h
  readable (Some p) e h = (p, e, h)

  -- and so does what holds of whatever a valid manager makes of it
  pub of_valid : (r : Result Hearing Memory) → IsMade r → OnOk r (ShowsReadable v) → (P : Hearing → Type 0)
      → ((h : Hearing) (m : Manager) (p : Packet) → IsValidManager m → m.state ≡ s → IsReadable p → hear m p now ≡ outcome_of m h → P h)
      → IfOk r (λ h. WhereValid s session (P h))
  of_valid (Ok h) made shows P holds = λ m valid same linked. let p = readable (packet_in (seen_packet v)) refl shows in
      holds h m p.0 valid same p.2 (linked_hears m p.0 now session valid linked ∙ made_for h made m p.0 same p.1)
  of_valid (Err e) made shows P holds = tt

  pub writes : (h : Hearing) (m : Manager) → m.state ≡ s → (given : HeardOutcome) → given ≡ outcome_of m h → IsFitting m given → IsAsRead given → IfSome h.arrival.written (IsWritable s)
  writes h m same given is goes read = subst (λ (x : State). IfSome h.arrival.written (IsWritable x)) same
      (writable m.state h.arrival.written (subst (λ (o : HeardOutcome). IsFitting m o) is goes) (subst (λ (o : HeardOutcome). IsAsRead o) is read))

  pub leaves : (h : Hearing) (m : Manager) → m.state ≡ s → (given : HeardOutcome) → given ≡ outcome_of m h → IsValidState (state_after m given)
      → IsValidState (beside_done (beside_of h.work) (recorded s h.arrival.written))
  leaves h m same given is stays = subst (λ (x : State). IsValidState (beside_done (beside_of h.work) (recorded x h.arrival.written))) same
      (subst (λ (o : HeardOutcome). IsValidState (state_after m o)) is stays)
