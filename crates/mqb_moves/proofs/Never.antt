-- What the definitions of a manager's calls answer is never that the disk failed.
use Rattle.std.proofs.Common.{◌≡◌, ℕ, Bool, true, false, cond, List, [], ◌∷◌, Option, None, Some, Result, Ok, Err}
use Rattle.std.specs.Option.{option_map_or}
use Rattle.std.specs.Prelude.{IfSome, slice_get}
use Rattle.mqb_base.specs.declared.heads.TxHead.{TxHead}
use Rattle.mqb_base.specs.declared.ids.Guid.{Guid}
use Rattle.mqb_fate.specs.Asking.{is_ordinary}
use Rattle.mqb_orders.specs.declared.judging.Verdict.{Verdict}
use Rattle.mqb_orders.specs.declared.judging.Verdict.TheVariants as verdict
use Rattle.mqb_packet.specs.declared.packet.Packet.{Packet}
use Rattle.mqb_packet.specs.declared.packet.Packet.TheVariants as packet
use Rattle.mqb_packet.specs.declared.packet.UserPacket.{UserPacket}
use Rattle.mqb_session.specs.Phases.{owed_by}
use Rattle.mqb_session.specs.Sending.{is_ready}
use Rattle.mqb_session.specs.State as one_end
use Rattle.mqb_session.specs.declared.heads.HeadHeard.{HeadHeard}
use Rattle.mqb_session.specs.declared.heads.HeadHeard.TheVariants as head
use Rattle.mqb_setup.specs.declared.internal.Internal.{Internal}
use Rattle.mqb_model.specs.calls.hear.Hear.{hear, hear_acknowledgement, hear_behind, hear_linked, hear_user, listening}
use Rattle.mqb_model.specs.calls.hear.Plain.{hear_express, hear_final, hear_in_order, hear_message, hear_plain, hear_recoverable, hear_stored}
use Rattle.mqb_model.specs.calls.hear.Session.{Listening, ack_heard, discarded, user_heard}
use Rattle.mqb_model.specs.calls.hear.Streams.{acknowledged_in, hear_in_stream, hear_order_ack, judged}
use Rattle.mqb_model.specs.calls.pump.Candidates.{Candidate, candidates}
use Rattle.mqb_model.specs.calls.pump.Choosing.{chosen}
use Rattle.mqb_model.specs.calls.pump.Pump.{pump, pump_at, pump_linked, pump_owed, pump_ready, pump_to, pump_with, sending_ack, sending_chosen}
use Rattle.mqb_model.specs.declared.faults.HearFault.TheVariants as hears
use Rattle.mqb_model.specs.declared.faults.PumpFault.TheVariants as pumps
use Rattle.mqb_model.specs.managers.Manager.{Manager, is_down, linked_peer}
use Rattle.mqb_model.specs.managers.Outcomes.{Outcome, answering, unless}
use Rattle.mqb_moves.specs.Never.{DefinitionsDoNotFail}

-- an outcome that does not answer this fault
abbrev Never : {V E : Type 0} → E → Outcome (Result V E) → Type 0
Never fault o = o.answer ≡ Err fault → ⊥

abbrev Differs : {E : Type 0} → E → Option E → Type 0
Differs fault o = IfSome o (λ f. f ≡ fault → ⊥)

errs : {V E : Type 0} (f g : E) → ◌≡◌ {A = Result V E} (Err f) (Err g) → f ≡ g
errs f g same = cc

oks : {V E : Type 0} (x : V) (g : E) → ◌≡◌ {A = Result V E} (Ok x) (Err g) → ⊥
oks x g same = let none : ⊥ = cc in none

refused : {V E : Type 0} (fault : E) (m : Manager) (o : Option E) (outcome : Outcome (Result V E)) → Differs fault o → Never fault outcome → Never fault (unless m o outcome)
refused fault m None outcome differs never = never
refused fault m (Some f) outcome differs never = λ same. differs (errs f fault same)

-- the first reason of some
first : {E : Type 0} (fault : E) (b : Bool) (f : E) (rest : Option E) → (f ≡ fault → ⊥) → Differs fault rest → Differs fault (cond b (Some f) rest)
first fault true f rest here behind = here
first fault false f rest here behind = behind

either : {V E : Type 0} (fault : E) (b : Bool) (x y : Outcome (Result V E)) → Never fault x → Never fault y → Never fault (cond b x y)
either fault true x y left right = left
either fault false x y left right = right

maybe : {X V E : Type 0} (fault : E) (o : Option X) (f : X → Outcome (Result V E)) (none : Outcome (Result V E)) → ((x : X) → Never fault (f x)) → Never fault none
    → Never fault (option_map_or f o none)
maybe fault None f none some nothing = nothing
maybe fault (Some x) f none some nothing = some x

-- Packets that are heard.

judged_never : (l : Listening) (p : UserPacket) (tx : TxHead) (v : Verdict) → Never hears.DiskFault (judged l p tx v)
judged_never l p tx verdict.Duplicate = either hears.DiskFault _ _ _ (oks _ hears.DiskFault) (oks _ hears.DiskFault)
judged_never l p tx v = oks _ hears.DiskFault

stream_never : (l : Listening) (p : UserPacket) (tx : TxHead) → Never hears.DiskFault (hear_in_stream l p tx)
stream_never l p tx = either hears.DiskFault (is_ordinary p.message) _ (discarded l) (judged_never l p tx _) (oks _ hears.DiskFault)

plain_never : (l : Listening) (in_order : Bool) (p : UserPacket) → Never hears.DiskFault (hear_plain l in_order p)
plain_never l in_order p = maybe hears.DiskFault (acknowledged_in l.manager.state p.message) (hear_order_ack l) (hear_message l in_order p)
    (λ ack. either hears.DiskFault _ _ _ (oks _ hears.DiskFault) (oks _ hears.DiskFault))
    (either hears.DiskFault in_order (hear_in_order l p) (discarded l)
    (either hears.DiskFault _ (hear_express l p) (hear_recoverable l p)
    (either hears.DiskFault _ (discarded l) _ (oks _ hears.DiskFault) (oks _ hears.DiskFault))
    (either hears.DiskFault _ (hear_final l p) (hear_stored l p) (oks _ hears.DiskFault) (oks _ hears.DiskFault)))
    (oks _ hears.DiskFault))

user_never : (l : Listening) (in_order : Bool) (p : UserPacket) → Never hears.DiskFault (hear_user l in_order p)
user_never l in_order p = maybe hears.DiskFault p.tx (hear_in_stream l p) (hear_plain l in_order p) (λ tx. stream_never l p tx) (plain_never l in_order p)

behind_never : (m : Manager) (now : ℕ) (p : UserPacket) (h : HeadHeard) (session : one_end.State) → Never hears.DiskFault (hear_behind m now p h session)
behind_never m now p (head.Closed why) session = oks _ hears.DiskFault
behind_never m now p head.InOrder session = user_never (listening m session now) true p
behind_never m now p head.OutOfOrder session = user_never (listening m session now) false p
behind_never m now p head.AckOnly session = user_never (listening m session now) false p

acks_never : (m : Manager) (now : ℕ) (h : HeadHeard) (session : one_end.State) → Never hears.DiskFault (hear_acknowledgement m now h session)
acks_never m now (head.Closed why) session = oks _ hears.DiskFault
acks_never m now h session = oks _ hears.DiskFault

linked_never : (m : Manager) (now : ℕ) (p : Packet) (session : one_end.State) → Never hears.DiskFault (hear_linked m now p session)
linked_never m now (packet.Establish e) session = oks _ hears.DiskFault
linked_never m now (packet.Parameters p) session = oks _ hears.DiskFault
linked_never m now (packet.Ack h) session = acks_never m now (ack_heard h session).0 (ack_heard h session).1
linked_never m now (packet.User p) session = behind_never m now p (user_heard m.state session p).0 (user_heard m.state session p).1

hears_never : (m : Manager) (p : Packet) (now : ℕ) → Never hears.DiskFault (hear m p now)
hears_never m p now = refused hears.DiskFault m _ _ (first hears.DiskFault (is_down m) hears.Down None (λ e. let none : ⊥ = cc in none) tt)
    (maybe hears.DiskFault m.rest.session (hear_linked m now p) (answering m (Err hears.NotLinked)) (λ session. linked_never m now p session)
    (λ same. let none : ⊥ = cc in none))

-- Packets that go.

ack_never : (m : Manager) (session : one_end.State) → Never pumps.DiskFault (sending_ack m session)
ack_never m session = either pumps.DiskFault session.owes _ _ (oks _ pumps.DiskFault) (oks _ pumps.DiskFault)

chosen_never : (m : Manager) (now : ℕ) (session : one_end.State) (k : ℕ) (to : Guid) (cs : List Candidate) → Never pumps.DiskFault (sending_chosen m now session k to cs)
chosen_never m now session k to [] = ack_never m session
chosen_never m now session k to (c ∷ cs) = oks _ pumps.DiskFault

pumped_never : (m : Manager) (now : ℕ) (session : one_end.State) (k : ℕ) (to : Guid) (cs : List Candidate) → Never pumps.DiskFault (pump_with m now session k to cs)
pumped_never m now session k to cs = either pumps.DiskFault _ (answering m (Err pumps.Spent)) _ (λ same. let none : ⊥ = cc in none)
    (chosen_never m now session k to (chosen session 0 0 cs))

pump_at_never : (m : Manager) (now : ℕ) (session : one_end.State) (k : ℕ) → Never pumps.DiskFault (pump_at m now session k)
pump_at_never m now session k = maybe pumps.DiskFault (slice_get m.state.peers k) _ (answering m (Ok 0))
    (λ peer. maybe pumps.DiskFault (slice_get m.state.plain k) (pump_to m now session k peer) (answering m (Ok 0))
    (λ p. pumped_never m now session k peer.guid (candidates m.state m.rest now k peer p)) (oks 0 pumps.DiskFault))
    (oks 0 pumps.DiskFault)

ready_never : (m : Manager) (now : ℕ) (session : one_end.State) → Never pumps.DiskFault (pump_ready m now session)
ready_never m now session = either pumps.DiskFault (is_ready session.phase) _ (answering m (Ok 0)) (pump_at_never m now session (linked_peer m.state session)) (oks 0 pumps.DiskFault)

owed_never : (m : Manager) (now : ℕ) (session : one_end.State) (o : Option Internal) → Never pumps.DiskFault (pump_owed m now session o)
owed_never m now session None = ready_never m now session
owed_never m now session (Some owed) = oks 1 pumps.DiskFault

pumps_never : (m : Manager) (now : ℕ) → Never pumps.DiskFault (pump m now)
pumps_never m now = refused pumps.DiskFault m _ _ (first pumps.DiskFault (is_down m) pumps.Down None (λ e. let none : ⊥ = cc in none) tt)
    (maybe pumps.DiskFault m.rest.session (pump_linked m now) (answering m (Err pumps.NotLinked))
    (λ session. owed_never m now session (owed_by session.phase now session))
    (λ same. let none : ⊥ = cc in none))

pub definitions_do_not_fail : DefinitionsDoNotFail
definitions_do_not_fail m = record {
  hears = hears_never m;
  pumps = pumps_never m;
}
