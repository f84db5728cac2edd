-- A call that is refused changes nothing, and the disk is called exactly where a record is written.
use Rattle.mqb_model.specs.calls.Call.{Answer, Request, answered, is_refusal, requested}
use Rattle.mqb_base.specs.declared.draft.Op.{Op}
use Rattle.mqb_base.specs.declared.draft.Parts.{Parts}
use Rattle.mqb_base.specs.declared.queues.Place.{Place}
use Rattle.mqb_base.specs.declared.queues.QueuePlan.{QueuePlan}
use Rattle.mqb_model.specs.records.Record.{Setting}
use Rattle.std.proofs.Common.{refl, ap, sym, ◌∙◌}
use Rattle.mqb_base.specs.declared.heads.TxHead.{TxHead}
use Rattle.mqb_base.specs.declared.heard.Heard.{Heard}
use Rattle.mqb_base.specs.declared.ids.Guid.{Guid}
use Rattle.mqb_base.specs.declared.ids.Identity.{Identity}
use Rattle.mqb_base.specs.declared.message.Message.{Message}
use Rattle.mqb_base.specs.declared.queues.EntryPlace.{EntryPlace}
use Rattle.mqb_fate.specs.declared.orders.OrderAck.{OrderAck}
use Rattle.mqb_orders.specs.declared.judging.Verdict.{Verdict}
use Rattle.mqb_orders.specs.declared.judging.Verdict.TheVariants as verdict
use Rattle.mqb_packet.specs.declared.packet.Packet.{Packet}
use Rattle.mqb_packet.specs.declared.packet.Packet.TheVariants as packet
use Rattle.mqb_packet.specs.declared.packet.UserPacket.{UserPacket}
use Rattle.mqb_queue.specs.declared.first.Position.{Position}
use Rattle.mqb_session.specs.State as one_end
use Rattle.mqb_session.specs.declared.heads.HeadHeard.{HeadHeard}
use Rattle.mqb_session.specs.declared.heads.HeadHeard.TheVariants as head
use Rattle.mqb_packet.specs.mqb_setup.declared.internal.Internal.{Internal}
use Rattle.mqb_model.specs.declared.faults.CommitFault.{CommitFault}
use Rattle.std.specs.List.{list_any}
use Rattle.std.specs.Option.{option_map_or}
use Rattle.std.specs.Prelude.{◌==◌, ◌&&◌, ◌∷◌, ◌≡◌, [], Bool, Err, IfErr, List, None, Ok, Option, Result, Some, cond, false, is_err, length, not, slice_get, true, ℕ}
use Rattle.mqb_base.specs.declared.heard.Heard.TheVariants as heard
use Rattle.mqb_base.specs.declared.message.Lane.{Lane}
use Rattle.mqb_base.specs.declared.message.Lane.TheVariants as lane
use Rattle.mqb_fate.specs.Asking.{is_ordinary}
use Rattle.mqb_orders.specs.Judging.{verdict_of}
use Rattle.mqb_queue.specs.Places.{lists_at, place_named}
use Rattle.mqb_session.specs.Phases.{owed_by}
use Rattle.mqb_session.specs.Sending.{is_ready, is_spent, stamped}
use Rattle.mqb_session.specs.declared.heads.Kind.TheVariants as kind
use Rattle.mqb_model.specs.calls.AddPeer.{add_peer_refusal}
use Rattle.mqb_model.specs.calls.Commit.{Trial, commit, commit_tried, ops_refusal, trial_of, try_ops, whole_refusal}
use Rattle.mqb_model.specs.calls.CreateQueue.{create_queue, create_refusal}
use Rattle.mqb_model.specs.calls.Link.{link_refusal, linking}
use Rattle.mqb_model.specs.calls.Messages.{plain_message}
use Rattle.mqb_model.specs.calls.Purge.{purge, purge_at, purge_refusal, purging}
use Rattle.mqb_model.specs.calls.Send.{send, send_refusal, sending}
use Rattle.mqb_model.specs.calls.SetRoll.{set_to, store_refusal}
use Rattle.mqb_model.specs.calls.Take.{first_in, take_at, take_message, take_position, take_refusal, taking}
use Rattle.mqb_model.specs.calls.Tick.{tick, ticking}
use Rattle.mqb_model.specs.calls.hear.Hear.{hear_acknowledgement, hear_behind, hear_linked, hear_refusal, hear_user, listening}
use Rattle.mqb_model.specs.calls.hear.Plain.{hear_arriving, hear_express, hear_final, hear_in_order, hear_message, hear_plain, hear_recoverable, hear_stored}
use Rattle.mqb_model.specs.calls.hear.Session.{Listening, ack_heard, discarded, heard_as, peer_heard, user_heard}
use Rattle.mqb_model.specs.calls.hear.Streams.{acknowledged_in, duplicate_heard, has_sequence, hear_duplicate, hear_in_stream, hear_order_ack, index_for, judged, order_acked, owing, raises}
use Rattle.mqb_model.specs.calls.pump.Candidates.{Candidate, candidates}
use Rattle.mqb_model.specs.calls.pump.Choosing.{chosen}
use Rattle.mqb_model.specs.calls.pump.Pump.{pump_at, pump_linked, pump_owed, pump_refusal, pump_to, pump_with, sending_ack, sending_chosen, sending_one}
use Rattle.mqb_model.specs.declared.faults.HearFault.TheVariants as hear_fault
use Rattle.mqb_model.specs.declared.faults.PumpFault.{PumpFault}
use Rattle.mqb_model.specs.declared.faults.PumpFault.TheVariants as pump_fault
use Rattle.mqb_model.specs.declared.faults.PurgeFault.TheVariants as purge_fault
use Rattle.mqb_model.specs.declared.faults.TakeFault.TheVariants as take_fault
use Rattle.mqb_model.specs.laws.Refusals.{CallsAreWhole, IsWhole, IsWholeRequest}
use Rattle.mqb_model.specs.managers.Manager.{Manager, linked_peer}
use Rattle.mqb_model.specs.managers.Outcomes.{Outcome, answering, recording, unless}
use Rattle.mqb_model.specs.records.Finals.{is_final}
use Rattle.mqb_model.specs.records.Peer.{next_queue}
use Rattle.mqb_model.specs.records.Record as entry
use Rattle.mqb_model.specs.records.Record.{Nothing, Part}
use Rattle.mqb_model.specs.rules.Arrivals.{refusal_of}
use Rattle.mqb_model.specs.rules.Takes.{message_at}
use Rattle.mqb_model.specs.state.Places.{is_express}
use Rattle.mqb_model.specs.state.Resolving.{is_for_order_layer}
use Rattle.mqb_model.specs.state.Rows.{in_row}

-- what an outcome is made of

pub whole_unless : {V E : Type 0} (m : Manager) (refusal : Option E) (outcome : Outcome (Result V E)) → IsWhole m outcome → IsWhole m (unless m refusal outcome)
whole_unless m (Some fault) outcome h = record { refused = refl; touches = refl }
whole_unless m None outcome h = h

refusing : {V E : Type 0} (m : Manager) (fault : E) → IsWhole {V = V} m (answering m (Err fault))
refusing m fault = record { refused = refl; touches = refl }

whole_or : {X V E : Type 0} (m : Manager) (f : X → Outcome (Result V E)) (o : Option X) (other : Outcome (Result V E))
    → ((x : X) → IsWhole m (f x)) → IsWhole m other → IsWhole m (option_map_or f o other)
whole_or m f None other some none = none
whole_or m f (Some x) other some none = some x

either : {V E : Type 0} (m : Manager) (b : Bool) (x y : Outcome (Result V E)) → IsWhole m x → IsWhole m y → IsWhole m (cond b x y)
either m true x y left right = left
either m false x y left right = right

-- calls on a store

commit_goes : (m : Manager) (now : ℕ) (tried : Result Trial CommitFault) → IsWhole m (commit_tried m now tried)
commit_goes m now (Err fault) = record { refused = refl; touches = refl }
commit_goes m now (Ok t) = whole_unless m (whole_refusal t) (recording m (entry.Commit now t.ops) (Ok t.done))
    (record { refused = tt; touches = refl })

sending_goes : (m : Manager) (recoverable : Bool) (message : Message) (now : ℕ) → IsWhole m (sending m recoverable message now)
sending_goes m true message now = record { refused = tt; touches = refl }
sending_goes m false message now = record { refused = tt; touches = refl }

taking_goes : (m : Manager) (at : EntryPlace) (now : ℕ) (kind : Lane) (k : ℕ) (message : Message) → IsWhole m (taking m at now kind k message)
taking_goes m at now lane.Durable k message = record { refused = tt; touches = refl }
taking_goes m at now lane.Express k message = record { refused = tt; touches = refl }

position_goes : (m : Manager) (at : EntryPlace) (now : ℕ) (p : Position) → IsWhole m (take_position m at now p)
position_goes m at now p = whole_or m (taking m at now p.lane p.index) (message_at p.lane m.state at p.index)
    (answering m (Err take_fault.QueueEmpty)) (taking_goes m at now p.lane p.index) (refusing m take_fault.QueueEmpty)

take_goes : (m : Manager) (now : ℕ) (at : EntryPlace) → IsWhole m (take_at m now at)
take_goes m now at = whole_or m (take_position m at now) (first_in m.state at now) (answering m (Err take_fault.QueueEmpty))
    (position_goes m at now) (refusing m take_fault.QueueEmpty)

purge_goes : (m : Manager) (now : ℕ) (at : EntryPlace) → IsWhole m (purge_at m now at)
purge_goes m now at = whole_or m (purging m now at) (lists_at m.state.places at) (answering m (Err purge_fault.NoQueue))
    (λ l. record { refused = tt; touches = refl }) (refusing m purge_fault.NoQueue)

-- hearing

duplicate_goes : (m : Manager) (l : Listening) (message : Message) (tx : TxHead) → IsWhole m (hear_duplicate l message tx)
duplicate_goes m l message tx = either m (has_sequence l.manager.state message tx)
    (owing (index_for l.manager.state message) (duplicate_heard l tx)) (duplicate_heard l tx)
    (record { refused = tt; touches = refl }) (record { refused = tt; touches = refl })

judged_goes : (m : Manager) (l : Listening) (p : UserPacket) (tx : TxHead) (verdict : Verdict) → IsWhole m (judged l p tx verdict)
judged_goes m l p tx verdict.Duplicate = duplicate_goes m l p.message tx
judged_goes m l p tx verdict = record { refused = tt; touches = refl }

stream_goes : (m : Manager) (l : Listening) (p : UserPacket) (tx : TxHead) → IsWhole m (hear_in_stream l p tx)
stream_goes m l p tx = let found = verdict_of (in_row l.manager.state p.message) tx in
    either m (is_ordinary p.message) (judged l p tx found) (discarded l) (judged_goes m l p tx found) (record { refused = tt; touches = refl })

ack_goes : (m : Manager) (l : Listening) (ack : OrderAck) → IsWhole m (hear_order_ack l ack)
ack_goes m l ack = either m (list_any (raises (peer_heard l) ack) l.manager.state.outs) (order_acked l ack) (heard_as l Nothing heard.OldAck)
    (record { refused = tt; touches = refl }) (record { refused = tt; touches = refl })

express_goes : (m : Manager) (l : Listening) (p : UserPacket) → IsWhole m (hear_express l p)
express_goes m l p = either m (is_for_order_layer l.manager.state p.message.destination) (discarded l)
    (hear_arriving l p.message (refusal_of l.manager.state p)) (record { refused = tt; touches = refl }) (record { refused = tt; touches = refl })

recoverable_goes : (m : Manager) (l : Listening) (p : UserPacket) → IsWhole m (hear_recoverable l p)
recoverable_goes m l p = either m (is_final l.manager.state p.message) (hear_final l p) (hear_stored l p)
    (record { refused = tt; touches = refl }) (record { refused = tt; touches = refl })

in_order_goes : (m : Manager) (l : Listening) (p : UserPacket) → IsWhole m (hear_in_order l p)
in_order_goes m l p = either m (is_express p.message.delivery) (hear_express l p) (hear_recoverable l p) (express_goes m l p) (recoverable_goes m l p)

message_goes : (m : Manager) (l : Listening) (in_order : Bool) (p : UserPacket) → IsWhole m (hear_message l in_order p)
message_goes m l true p = in_order_goes m l p
message_goes m l false p = record { refused = tt; touches = refl }

user_goes : (m : Manager) (l : Listening) (in_order : Bool) (p : UserPacket) → IsWhole m (hear_user l in_order p)
user_goes m l in_order p = whole_or m (hear_in_stream l p) p.tx (hear_plain l in_order p) (stream_goes m l p)
    (whole_or m (hear_order_ack l) (acknowledged_in l.manager.state p.message) (hear_message l in_order p) (ack_goes m l) (message_goes m l in_order p))

behind_goes : (m : Manager) (now : ℕ) (p : UserPacket) (given : HeadHeard) (session : one_end.State) → IsWhole m (hear_behind m now p given session)
behind_goes m now p (head.Closed why) session = record { refused = tt; touches = refl }
behind_goes m now p head.InOrder session = user_goes m (listening m session now) true p
behind_goes m now p head.OutOfOrder session = user_goes m (listening m session now) false p
behind_goes m now p head.AckOnly session = user_goes m (listening m session now) false p

acknowledgement_goes : (m : Manager) (now : ℕ) (given : HeadHeard) (session : one_end.State) → IsWhole m (hear_acknowledgement m now given session)
acknowledgement_goes m now (head.Closed why) session = record { refused = tt; touches = refl }
acknowledgement_goes m now given session = record { refused = tt; touches = refl }

linked_goes : (m : Manager) (now : ℕ) (p : Packet) (session : one_end.State) → IsWhole m (hear_linked m now p session)
linked_goes m now (packet.Establish e) session = record { refused = tt; touches = refl }
linked_goes m now (packet.Parameters p) session = record { refused = tt; touches = refl }
linked_goes m now (packet.Ack h) session = acknowledgement_goes m now (ack_heard h session).0 (ack_heard h session).1
linked_goes m now (packet.User p) session = behind_goes m now p (user_heard m.state session p).0 (user_heard m.state session p).1

-- pumping

nothing_goes : (m : Manager) → IsWhole {V = ℕ} {E = PumpFault} m (answering m (Ok 0))
nothing_goes m = record { refused = tt; touches = refl }

storage_goes : (m : Manager) (session : one_end.State) → IsWhole m (sending_ack m session)
storage_goes m session = either m session.owes (sending_one m (packet.Ack (stamped kind.Ack session).0) (stamped kind.Ack session).1) (answering m (Ok 0))
    (record { refused = tt; touches = refl }) (nothing_goes m)

chosen_go : (m : Manager) (now : ℕ) (session : one_end.State) (k : ℕ) (to : Guid) (cs : List Candidate) → IsWhole m (sending_chosen m now session k to cs)
chosen_go m now session k to [] = storage_goes m session
chosen_go m now session k to (c ∷ cs) = record { refused = tt; touches = refl }

pump_goes : (m : Manager) (now : ℕ) (session : one_end.State) (k : ℕ) (to : Guid) (cs : List Candidate) → IsWhole m (pump_with m now session k to cs)
pump_goes m now session k to cs = either m (is_spent session && not (length cs == 0)) (answering m (Err pump_fault.Spent))
    (sending_chosen m now session k to (chosen session 0 0 cs)) (refusing m pump_fault.Spent) (chosen_go m now session k to (chosen session 0 0 cs))

peer_goes : (m : Manager) (now : ℕ) (session : one_end.State) (k : ℕ) (peer : Identity) → IsWhole m (option_map_or (pump_to m now session k peer) (slice_get m.state.plain k) (answering m (Ok 0)))
peer_goes m now session k peer = whole_or m (pump_to m now session k peer) (slice_get m.state.plain k) (answering m (Ok 0))
    (λ p. pump_goes m now session k peer.guid (candidates m.state m.rest now k peer p)) (nothing_goes m)

to_peer_goes : (m : Manager) (now : ℕ) (session : one_end.State) (k : ℕ) → IsWhole m (pump_at m now session k)
to_peer_goes m now session k = whole_or m (λ peer. option_map_or (pump_to m now session k peer) (slice_get m.state.plain k) (answering m (Ok 0)))
    (slice_get m.state.peers k) (answering m (Ok 0)) (peer_goes m now session k) (nothing_goes m)

owed_goes : (m : Manager) (now : ℕ) (session : one_end.State) (owed : Option Internal) → IsWhole m (pump_owed m now session owed)
owed_goes m now session (Some owed) = record { refused = tt; touches = refl }
owed_goes m now session None = let k = linked_peer m.state session in
    either m (is_ready session.phase) (pump_at m now session k) (answering m (Ok 0)) (to_peer_goes m now session k) (nothing_goes m)

session_goes : (m : Manager) (now : ℕ) (session : one_end.State) → IsWhole m (pump_linked m now session)
session_goes m now session = owed_goes m now session (owed_by session.phase now session)

-- each call

pub created_whole : (m : Manager) (given : QueuePlan) → IsWhole m (create_queue m given)
created_whole m given = whole_unless m (create_refusal m given) (recording m (entry.CreateQueue (next_queue m.state) given) (Ok (next_queue m.state)))
    (record { refused = tt; touches = refl })

pub setting_whole : (m : Manager) (setting : Setting) → IsWhole m (set_to m setting)
setting_whole m setting = whole_unless m (store_refusal m) (recording m (entry.Set setting) (Ok tt)) (record { refused = tt; touches = refl })

pub committed_whole : (m : Manager) (ops : List Op) (now : ℕ) → IsWhole m (commit m ops now)
committed_whole m ops now = whole_unless m (ops_refusal m ops) (commit_tried m now (try_ops now 0 (trial_of m.state) ops))
    (commit_goes m now (try_ops now 0 (trial_of m.state) ops))

pub sent_whole : (m : Manager) (p : Parts) (recoverable : Bool) (now : ℕ) → IsWhole m (send m p recoverable now)
sent_whole m p recoverable now = let message = plain_message m.state recoverable now p in
    whole_unless m (send_refusal m recoverable message) (sending m recoverable message now) (sending_goes m recoverable message now)

pub taken_whole : (m : Manager) (p : Place) (now : ℕ) → IsWhole m (take_message m p now)
taken_whole m p now = whole_unless m (take_refusal m) (option_map_or (take_at m now) (place_named m.state.places.queues p) (answering m (Err take_fault.NoQueue)))
    (whole_or m (take_at m now) (place_named m.state.places.queues p) (answering m (Err take_fault.NoQueue)) (take_goes m now) (refusing m take_fault.NoQueue))

pub purged_whole : (m : Manager) (p : Place) (now : ℕ) → IsWhole m (purge m p now)
purged_whole m p now = whole_unless m (purge_refusal m) (option_map_or (purge_at m now) (place_named m.state.places.queues p) (answering m (Err purge_fault.NoQueue)))
    (whole_or m (purge_at m now) (place_named m.state.places.queues p) (answering m (Err purge_fault.NoQueue)) (purge_goes m now) (refusing m purge_fault.NoQueue))

pub ticked_whole : (m : Manager) (now : ℕ) → IsWhole m (tick m now)
ticked_whole m now = whole_unless m (store_refusal m) (ticking m now) (record { refused = tt; touches = refl })

-- A request is whole where the call is that it makes.
pub request_whole : {V E : Type 0} (m : Manager) (says : Result V E → Answer) (outcome : Outcome (Result V E))
    → ((r : Result V E) → is_refusal (says r) ≡ is_err r) → IsWhole m outcome → IsWholeRequest m (answered says outcome)
request_whole m says outcome shown h = record { refused = λ is. at outcome.answer refl h.refused (sym (shown outcome.answer) ∙ is); touches = h.touches }
  where
    at : (r : Result _ _) → outcome.answer ≡ r → IfErr r (λ fault. outcome ≡ answering m (Err fault)) → is_err r ≡ true
        → answered says outcome ≡ answering m (says outcome.answer)
    at (Ok value) e same is = absurd (let none : ⊥ = cc in none)
    at (Err why) e same is = ap (answered says) same ∙ ap (λ r. answering m (says r)) (sym e)

-- All calls are, where each request is.
pub calls_are_whole : (m : Manager) → ((given : Request) → IsWholeRequest m (requested m given)) → CallsAreWhole m
calls_are_whole m requests = record {
  add_peer_whole = λ peer. whole_unless m (add_peer_refusal m peer) (recording m (entry.Peer peer) (Ok (length m.state.peers)))
      (record { refused = tt; touches = refl });
  request_whole = requests;
  link_whole = λ end window. whole_unless m (link_refusal m end window) (linking m end window) (record { refused = tt; touches = refl });
  hear_whole = λ p now. whole_unless m (hear_refusal m) (option_map_or (hear_linked m now p) m.rest.session (answering m (Err hear_fault.NotLinked)))
      (whole_or m (hear_linked m now p) m.rest.session (answering m (Err hear_fault.NotLinked)) (linked_goes m now p) (refusing m hear_fault.NotLinked));
  pump_whole = λ now. whole_unless m (pump_refusal m) (option_map_or (pump_linked m now) m.rest.session (answering m (Err pump_fault.NotLinked)))
      (whole_or m (pump_linked m now) m.rest.session (answering m (Err pump_fault.NotLinked)) (session_goes m now) (refusing m pump_fault.NotLinked));
}
