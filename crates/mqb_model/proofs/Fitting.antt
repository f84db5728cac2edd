-- A record that a call makes fits.
use Rattle.std.proofs.Common.{refl, ap, sym, arith, ◌∙◌}
use Rattle.std.proofs.lemmas.Bool.Decides.{nat_tests}
use Rattle.std.specs.Option.{option_map_or, option_or}
use Rattle.std.specs.Prelude.{◌&&◌, ◌==◌, ◌∷◌, ◌≡◌, [], Bool, Err, IfSome, List, None, Ok, Option, Result, Some, cond, false, is_some, length, nat_le, nat_lt, not, true, ℕ}
use Rattle.mqb_base.specs.Same.{same_bytes, same_guid}
use Rattle.mqb_base.specs.declared.draft.Parts.{Parts}
use Rattle.mqb_base.specs.declared.ids.Identity.{Identity}
use Rattle.mqb_base.specs.declared.message.Message.{Message}
use Rattle.mqb_packet.specs.declared.packet.Headers.TheVariants as headers
use Rattle.mqb_base.specs.declared.queues.EntryPlace.{EntryPlace}
use Rattle.mqb_base.specs.declared.queues.Place.{Place}
use Rattle.mqb_base.specs.declared.queues.QueuePlan.{QueuePlan}
use Rattle.mqb_queue.specs.Lists.{Lists}
use Rattle.mqb_queue.specs.Places.{lists_at, place_named}
use Rattle.mqb_model.specs.calls.AddPeer.{add_peer}
use Rattle.mqb_model.specs.calls.CreateQueue.{create_queue}
use Rattle.mqb_model.specs.calls.Messages.{plain_message}
use Rattle.mqb_model.specs.calls.Send.{plain_entry, send, send_refusal, target_fault}
use Rattle.mqb_model.specs.calls.Purge.{purge, purge_at, purge_refusal, purging}
use Rattle.mqb_model.specs.calls.Take.{take_at, take_message, take_refusal}
use Rattle.mqb_model.specs.calls.SetRoll.{set_to, store_refusal}
use Rattle.mqb_model.specs.calls.Tick.{tick, ticking}
use Rattle.mqb_model.specs.declared.faults.AddPeerFault.TheVariants as peer_fault
use Rattle.mqb_model.specs.declared.faults.CreateFault.TheVariants as create_fault
use Rattle.mqb_model.specs.declared.faults.PurgeFault.TheVariants as purge_fault
use Rattle.mqb_model.specs.declared.faults.SendFault.{SendFault}
use Rattle.mqb_model.specs.declared.faults.SendFault.TheVariants as send_fault
use Rattle.mqb_model.specs.declared.faults.TakeFault.TheVariants as take_fault
use Rattle.mqb_model.specs.declared.limits.TheConstants.{MAX_NUMBER, MAX_PEERS, MAX_QUEUES}
use Rattle.mqb_model.specs.declared.target.Target.{Target}
use Rattle.mqb_model.specs.declared.target.Target.TheVariants.{AtPeer, Here, Nowhere}
use Rattle.mqb_model.specs.managers.Beside as beside
use Rattle.mqb_model.specs.records.Packets.{is_too_large, packet_to}
use Rattle.mqb_model.specs.records.Plain.{plain_fits}
use Rattle.mqb_model.specs.state.Resolving.{guid_at, is_found, resolved}
use Rattle.mqb_model.specs.state.State.{State}
use Rattle.mqb_model.specs.laws.Fitting.{IsFitting}
use Rattle.mqb_model.specs.managers.Manager.{Manager, is_down}
use Rattle.mqb_model.specs.managers.Outcomes.{Outcome, answering, changing, recording, unless}
use Rattle.mqb_model.specs.records.Applying.{fits, is_setting}
use Rattle.mqb_model.specs.records.Peer.{next_queue, peer_there, queue_there}
use Rattle.mqb_model.specs.records.Record as entry
use Rattle.mqb_model.specs.records.Record.{Setting}
use Rattle.mqb_model.specs.rules.Timeouts.{durable_due}
use Rattle.mqb_model.proofs.Taking.{taking_fits}

-- fewer than a limit
below : (n limit : ℕ) → nat_le limit n ≡ false → nat_lt n limit ≡ true
below n limit h = grind (arith, nat_tests)

-- a number is itself
itself : (n : ℕ) → (n == n) ≡ true
itself n = grind (arith, nat_tests)

pub peer_goes : (m : Manager) (peer : Identity) → IsFitting m (add_peer m peer)
peer_goes m peer = at (is_down m) (peer_there m.state peer) refl (nat_le MAX_PEERS (length m.state.peers)) refl
  where
    at : (down there : Bool) → peer_there m.state peer ≡ there → (many : Bool) → nat_le MAX_PEERS (length m.state.peers) ≡ many
        → IsFitting m (unless m (cond down (Some peer_fault.Down) (cond there (Some peer_fault.PeerThere) (cond many (Some peer_fault.TooManyPeers) None)))
        (recording m (entry.Peer peer) (Ok (length m.state.peers))))
    at true there e many f = tt
    at false true e many f = tt
    at false false e true f = tt
    at false false e false f = ap (λ b. not b && nat_lt (length m.state.peers) MAX_PEERS) e ∙ below (length m.state.peers) MAX_PEERS f

pub queue_goes : (m : Manager) (given : QueuePlan) → IsFitting m (create_queue m given)
queue_goes m given = at (is_down m) (queue_there m.state given) refl (nat_le MAX_QUEUES (length m.state.places.queues)) refl
  where
    at : (down there : Bool) → queue_there m.state given ≡ there → (many : Bool) → nat_le MAX_QUEUES (length m.state.places.queues) ≡ many
        → IsFitting m (unless m (cond down (Some create_fault.Down) (cond there (Some create_fault.QueueThere) (cond many (Some create_fault.TooManyQueues) None)))
        (recording m (entry.CreateQueue (next_queue m.state) given) (Ok (next_queue m.state))))
    at true there e many f = tt
    at false true e many f = tt
    at false false e true f = tt
    at false false e false f = ap (λ b. b && not (queue_there m.state given) && nat_lt (length m.state.places.queues) MAX_QUEUES) (itself (next_queue m.state))
        ∙ ap (λ b. not b && nat_lt (length m.state.places.queues) MAX_QUEUES) e ∙ below (length m.state.places.queues) MAX_QUEUES f

unless_fits : {V E : Type 0} (m : Manager) (refusal : Option E) (outcome : Outcome (Result V E)) → IsFitting m outcome → IsFitting m (unless m refusal outcome)
unless_fits m (Some fault) outcome h = tt
unless_fits m None outcome h = h

pub set_fits : (m : Manager) (setting : Setting) → is_setting setting ≡ true → IsFitting m (set_to m setting)
set_fits m setting h = unless_fits m (store_refusal m) (recording m (entry.Set setting) (Ok tt)) h

purging_fits : (m : Manager) (now : ℕ) (at : EntryPlace) → IsFitting m (purge_at m now at)
purging_fits m now at = by (lists_at m.state.places at) refl
  where
    some : (b : Bool) → is_some (lists_at m.state.places at) ≡ true → IfSome (cond b None (Some (entry.Purged now at))) (λ r. fits m.state r ≡ true)
    some true h = tt
    some false h = h

    by : (o : Option Lists) → lists_at m.state.places at ≡ o → IsFitting m (option_map_or (purging m now at) o (answering m (Err purge_fault.NoQueue)))
    by None e = tt
    by (Some l) e = some (length l.durable == 0) (ap is_some e)

place_fits : (m : Manager) (now : ℕ) (o : Option EntryPlace) → IsFitting m (option_map_or (purge_at m now) o (answering m (Err purge_fault.NoQueue)))
place_fits m now None = tt
place_fits m now (Some at) = purging_fits m now at

ticking_fits : (m : Manager) (now : ℕ) (b : Bool) → IfSome (cond b None (Some (entry.Ticked now))) (λ r. fits m.state r ≡ true)
ticking_fits m now true = tt
ticking_fits m now false = refl

-- Sends.

and : (a b : Bool) → a ≡ true → b ≡ true → (a && b) ≡ true
and a b h k = ap (λ x. x && b) h ∙ k

same_itself : (bytes : List ℕ) → same_bytes bytes bytes ≡ true
same_itself [] = refl
same_itself (b ∷ bytes) = and (b == b) (same_bytes bytes bytes) (itself b) (same_itself bytes)

found : (s : State) (t : Target) → target_fault s t ≡ None → is_found t ≡ true
found s (AtPeer k) h = refl
found s (Here (Some number)) h = refl
found s (Here None) h = absurd (let e : ⊥ = cc in e)
found s Nowhere h = absurd (let e : ⊥ = cc in e)

above : (n limit : ℕ) → nat_lt limit n ≡ false → nat_le n limit ≡ true
above n limit h = grind (arith, nat_tests)

not_so : (b : Bool) → b ≡ false → not b ≡ true
not_so true h = sym h
not_so false h = refl

sent_fits : (s : State) (now : ℕ) (p : Parts) → let message = plain_message s true now p in
    target_fault s (resolved s message.destination) ≡ None → nat_lt MAX_NUMBER s.next_number ≡ false → is_too_large headers.Session message ≡ false
    → plain_fits s (packet_to s (resolved s message.destination) message) ≡ true
sent_fits s now p led left small = all (same_guid s.identity.guid s.identity.guid && s.next_number == s.next_number) (nat_le s.next_number MAX_NUMBER)
    (is_found (resolved s p.destination)) (same_guid (guid_at s (resolved s p.destination)) (guid_at s (resolved s p.destination)))
    (not (is_too_large headers.Session (plain_message s true now p)))
    (and (same_guid s.identity.guid s.identity.guid) (s.next_number == s.next_number) (same_itself s.identity.guid.0) (itself s.next_number))
    (above s.next_number MAX_NUMBER left) (found s (resolved s p.destination) led) (same_itself (guid_at s (resolved s p.destination)).0)
    (not_so (is_too_large headers.Session (plain_message s true now p)) small)
  where
    all : (a b f g h : Bool) → a ≡ true → b ≡ true → f ≡ true → g ≡ true → h ≡ true → (((((((a && b) && true) && true) && true) && f) && g) && h) ≡ true
    all a b f g h ha hb hf hg hh = and ((((((a && b) && true) && true) && true) && f) && g) h
        (and (((((a && b) && true) && true) && true) && f) g
        (and ((((a && b) && true) && true) && true) f
        (and (((a && b) && true) && true) true (and ((a && b) && true) true (and (a && b) true (and a b ha hb) refl) refl) refl) hf) hg) hh

pub send_goes : (m : Manager) (p : Parts) (recoverable : Bool) (now : ℕ) → IsFitting m (send m p recoverable now)
send_goes m p false now = let message = plain_message m.state false now p in
    unless_fits m (send_refusal m false message) (changing m (beside.SendsExpress now message) (Ok message.id)) tt
send_goes m p true now = at (is_down m) (target_fault m.state (resolved m.state p.destination)) refl (nat_lt MAX_NUMBER m.state.next_number) refl
    (is_too_large headers.Session (plain_message m.state true now p)) refl
  where
    message : Message
    message = plain_message m.state true now p

    at : (down : Bool) (led : Option SendFault) → target_fault m.state (resolved m.state p.destination) ≡ led
        → (spent : Bool) → nat_lt MAX_NUMBER m.state.next_number ≡ spent → (large : Bool) → is_too_large headers.Session message ≡ large
        → IsFitting m (unless m (cond down (Some send_fault.Down) (option_or led (cond spent (Some send_fault.NumbersSpent) (cond large (Some send_fault.TooLarge) None))))
        (recording m (plain_entry m.state now message) (Ok message.id)))
    at true led e spent f large g = tt
    at false (Some why) e spent f large g = tt
    at false None e true f large g = tt
    at false None e false f true g = tt
    at false None e false f false g = sent_fits m.state now p e f g

-- Takes.

place_taken : (m : Manager) (now : ℕ) (o : Option EntryPlace) → IsFitting m (option_map_or (take_at m now) o (answering m (Err take_fault.NoQueue)))
place_taken m now None = tt
place_taken m now (Some at) = taking_fits m now at

pub take_fits : (m : Manager) (p : Place) (now : ℕ) → IsFitting m (take_message m p now)
take_fits m p now = unless_fits m (take_refusal m) (option_map_or (take_at m now) (place_named m.state.places.queues p) (answering m (Err take_fault.NoQueue)))
    (place_taken m now (place_named m.state.places.queues p))

pub purge_fits : (m : Manager) (p : Place) (now : ℕ) → IsFitting m (purge m p now)
purge_fits m p now = unless_fits m (purge_refusal m) (option_map_or (purge_at m now) (place_named m.state.places.queues p) (answering m (Err purge_fault.NoQueue)))
    (place_fits m now (place_named m.state.places.queues p))

pub tick_fits : (m : Manager) (now : ℕ) → IsFitting m (tick m now)
tick_fits m now = unless_fits m (store_refusal m) (ticking m now) (ticking_fits m now (durable_due m.state now == 0))
