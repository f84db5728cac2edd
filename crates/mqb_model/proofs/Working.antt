-- A valid manager stays valid where messages are sent, taken and purged, where what is due leaves, and where a transaction is made.
use Rattle.std.proofs.Common.{refl, length}
use Rattle.std.specs.Option.{option_or}
use Rattle.std.specs.Prelude.{◌+◌, ◌==◌, ◌≡◌, Bool, Err, List, None, Ok, Option, Result, Some, cond, false, true, ℕ}
use Rattle.mqb_base.specs.declared.draft.Op.{Op}
use Rattle.mqb_base.specs.declared.draft.Parts.{Parts}
use Rattle.mqb_base.specs.declared.message.Lane.{Lane}
use Rattle.mqb_base.specs.declared.message.Lane.TheVariants as lane
use Rattle.mqb_base.specs.declared.message.Message.{Message}
use Rattle.mqb_base.specs.declared.queues.EntryPlace.{EntryPlace}
use Rattle.mqb_base.specs.declared.queues.Place.{Place}
use Rattle.mqb_packet.specs.declared.packet.Headers.TheVariants as headers
use Rattle.mqb_queue.specs.Lists.{Lists}
use Rattle.mqb_queue.specs.Places.{lists_at, place_named}
use Rattle.mqb_model.specs.calls.Commit.{Trial, commit, commit_tried, ops_refusal, trial_of, try_ops, whole_refusal}
use Rattle.mqb_model.specs.calls.Messages.{plain_message}
use Rattle.mqb_model.specs.calls.Purge.{purge, purge_at, purge_entry, purge_refusal, purging}
use Rattle.mqb_model.specs.calls.Send.{send, send_refusal, sending, target_fault}
use Rattle.mqb_model.specs.calls.SetRoll.{store_refusal}
use Rattle.mqb_model.specs.calls.Take.{first_in, take_at, take_message, take_position, take_refusal, taking}
use Rattle.mqb_model.specs.calls.Tick.{tick, tick_entry, ticking}
use Rattle.mqb_model.specs.declared.faults.CommitFault.{CommitFault}
use Rattle.mqb_model.specs.declared.faults.PurgeFault.TheVariants as purge_fault
use Rattle.mqb_model.specs.declared.faults.SendFault.{SendFault}
use Rattle.mqb_model.specs.declared.faults.SendFault.TheVariants as send_fault
use Rattle.mqb_model.specs.declared.faults.TakeFault.TheVariants as take_fault
use Rattle.mqb_model.specs.laws.Fitting.{IsDrafted}
use Rattle.mqb_model.specs.managers.Manager.{Manager, is_down}
use Rattle.mqb_model.specs.managers.Outcomes.{answering, recorded, recording}
use Rattle.mqb_model.specs.managers.Valid.{IsValidManager}
use Rattle.mqb_model.specs.records.Packets.{is_too_large, packet_to}
use Rattle.mqb_model.specs.records.Record as entry
use Rattle.mqb_model.specs.records.Record.{Record}
use Rattle.mqb_model.specs.rules.Numbers.{numbers_taken}
use Rattle.mqb_model.specs.rules.Takes.{message_at}
use Rattle.mqb_model.specs.rules.Timeouts.{durable_due}
use Rattle.mqb_model.specs.state.Durable.{durable}
use Rattle.mqb_model.specs.state.Resolving.{resolved}
use Rattle.mqb_model.specs.state.State.{State}
use Rattle.mqb_model.specs.state.Valid.{IsCarried}
use Rattle.mqb_model.proofs.Accord.{Accords, durable_apt, numbers_accord}
use Rattle.mqb_model.proofs.Besides.{sent_accords}
use Rattle.mqb_model.proofs.Calling.{up_where}
use Rattle.mqb_model.proofs.Recorded.{commit_accords, purged_accords, taken_accords, ticked_accords}
use Rattle.mqb_model.proofs.Succeeding.{IsKept, IsWritten, or_written, same_kept, unless_written, valid_accords, well_kept}
use Rattle.mqb_model.proofs.Telling.{chosen}
use Rattle.mqb_model.proofs.Volatile.{volatile_purged, volatile_sent, volatile_taken, volatile_ticked}
use Rattle.mqb_model.specs.rules.Effects.{begun}

-- Sends.

express_carried : (s : State) (now : ℕ) (p : Parts) → IsDrafted p → is_too_large headers.Session (plain_message s false now p) ≡ false
    → IsCarried headers.Session (plain_message s false now p)
express_carried s now p d small = let well = chosen p d in record {
  well_formed = record {
    priority = well.priority;
    ack = well.ack;
    journal = well.journal;
    label = well.label;
    class = refl;
    destination = well.destination;
    admin = well.admin;
    response = well.response;
  };
  named = record { destination = d.destination; admin = d.admin; response = d.response };
  size = small;
}

sending_kept : (m : Manager) (p : Parts) (recoverable : Bool) (now : ℕ) → IsDrafted p → is_down m ≡ false → IsValidManager m
    → is_too_large headers.Session (plain_message m.state recoverable now p) ≡ false → IsWritten m (sending m recoverable (plain_message m.state recoverable now p) now)
    → IsKept m (sending m recoverable (plain_message m.state recoverable now p) now)
sending_kept m p true now d up v small w = let message = plain_message m.state true now p in
    let told = (packet_to m.state (resolved m.state message.destination) message).message in well_kept m (sending m true message now) up v w (record {
      accords = sent_accords m.rest (numbers_taken m.state 1) told now (durable_apt headers.Session told refl)
          (numbers_accord m.rest m.state (m.state.next_number + 1) (valid_accords m up v));
      volatile = refl;
    })
sending_kept m p false now d up v small w = let message = plain_message m.state false now p in
    let both = volatile_sent m.rest (durable m.state) now message m.state (express_carried m.state now p d small, refl) (valid_accords m up v, refl) in
    well_kept m (sending m false message now) up v w (record { accords = both.0; volatile = both.1 })

not_large : (down : Bool) (led : Option SendFault) (spent large : Bool)
    → cond down (Some send_fault.Down) (option_or led (cond spent (Some send_fault.NumbersSpent) (cond large (Some send_fault.TooLarge) None))) ≡ None → large ≡ false
not_large true led spent large e = absurd (let none : ⊥ = cc in none)
not_large false (Some why) spent large e = absurd (let none : ⊥ = cc in none)
not_large false None true large e = absurd (let none : ⊥ = cc in none)
not_large false None false true e = absurd (let none : ⊥ = cc in none)
not_large false None false false e = refl

pub send_kept : (m : Manager) (p : Parts) (recoverable : Bool) (now : ℕ) → IsDrafted p → IsValidManager m → IsWritten m (send m p recoverable now)
    → IsKept m (send m p recoverable now)
send_kept m p recoverable now d v w = let message = plain_message m.state recoverable now p in
    unless_written m (send_refusal m recoverable message) (sending m recoverable message now) v w
    (λ e w. sending_kept m p recoverable now d (up_where (is_down m) _ _ e) v (not_large (is_down m) (target_fault m.state (resolved m.state message.destination)) _ _ e) w)

-- Takes.

taking_kept : (m : Manager) (at : EntryPlace) (now : ℕ) (kind : Lane) (k : ℕ) (message : Message) → is_down m ≡ false → IsValidManager m
    → IsWritten m (taking m at now kind k message) → IsKept m (taking m at now kind k message)
taking_kept m at now lane.Durable k message up v w = well_kept m (taking m at now lane.Durable k message) up v w
    (record { accords = taken_accords m.rest at message.id now (begun m.state) (valid_accords m up v); volatile = refl })
taking_kept m at now lane.Express k message up v w = let both = volatile_taken m.rest (durable m.state) now at k m.state (valid_accords m up v, refl) in
    well_kept m (taking m at now lane.Express k message) up v w (record { accords = both.0; volatile = both.1 })

pub take_kept : (m : Manager) (p : Place) (now : ℕ) → IsValidManager m → IsWritten m (take_message m p now) → IsKept m (take_message m p now)
take_kept m p now v w = unless_written m (take_refusal m) _ v w (λ e w. let up = up_where (is_down m) _ _ e in
    or_written m (take_at m now) (place_named m.state.places.queues p) (answering m (Err take_fault.NoQueue)) (same_kept m _ v) w
    (λ at there w. or_written m (take_position m at now) (first_in m.state at now) (answering m (Err take_fault.QueueEmpty)) (same_kept m _ v) w
    (λ p there w. or_written m (taking m at now p.lane p.index) (message_at p.lane m.state at p.index) (answering m (Err take_fault.QueueEmpty)) (same_kept m _ v) w
    (λ message there w. taking_kept m at now p.lane p.index message up v w))))

-- Purges and ticks: a record where something durable leaves, and then the express messages.

purge_recorded : (m : Manager) (now : ℕ) (at : EntryPlace) (b : Bool) → Accords m.rest m.state → Accords m.rest (recorded m.state (cond b None (Some (entry.Purged now at))))
purge_recorded m now at true a = a
purge_recorded m now at false a = purged_accords m.rest at now m.state a

purging_kept : (m : Manager) (now : ℕ) (at : EntryPlace) (l : Lists) → is_down m ≡ false → IsValidManager m → IsWritten m (purging m now at l)
    → IsKept m (purging m now at l)
purging_kept m now at l up v w = let after = recorded m.state (purge_entry at now l) in let both = volatile_purged m.rest (durable after) now at after (purge_recorded m now at (length l.durable == 0) (valid_accords m up v), refl) in
    well_kept m (purging m now at l) up v w (record { accords = both.0; volatile = both.1 })

pub purge_kept : (m : Manager) (p : Place) (now : ℕ) → IsValidManager m → IsWritten m (purge m p now) → IsKept m (purge m p now)
purge_kept m p now v w = unless_written m (purge_refusal m) _ v w (λ e w. let up = up_where (is_down m) _ _ e in
    or_written m (purge_at m now) (place_named m.state.places.queues p) (answering m (Err purge_fault.NoQueue)) (same_kept m _ v) w
    (λ at there w. or_written m (purging m now at) (lists_at m.state.places at) (answering m (Err purge_fault.NoQueue)) (same_kept m _ v) w
    (λ l there w. purging_kept m now at l up v w)))

tick_recorded : (m : Manager) (now : ℕ) (b : Bool) → Accords m.rest m.state → Accords m.rest (recorded m.state (cond b None (Some (entry.Ticked now))))
tick_recorded m now true a = a
tick_recorded m now false a = ticked_accords m.rest now m.state a

pub tick_kept : (m : Manager) (now : ℕ) → IsValidManager m → IsWritten m (tick m now) → IsKept m (tick m now)
tick_kept m now v w = unless_written m (store_refusal m) (ticking m now) v w (λ e w. let up = up_where (is_down m) _ _ e in
    let after = recorded m.state (tick_entry m.state now) in let both = volatile_ticked m.rest (durable after) now after (tick_recorded m now (durable_due m.state now == 0) (valid_accords m up v), refl) in
    well_kept m (ticking m now) up v w (record { accords = both.0; volatile = both.1 }))

-- Transactions.

pub commit_kept : (m : Manager) (ops : List Op) (now : ℕ) → IsValidManager m → IsWritten m (commit m ops now) → IsKept m (commit m ops now)
commit_kept m ops now v w = unless_written m (ops_refusal m ops) (commit_tried m now (try_ops now 0 (trial_of m.state) ops)) v w
    (λ e w. tried (up_where (is_down m) _ _ e) (try_ops now 0 (trial_of m.state) ops) w)
  where
    tried : is_down m ≡ false → (r : Result Trial CommitFault) → IsWritten m (commit_tried m now r) → IsKept m (commit_tried m now r)
    tried up (Err why) w = same_kept m (Err why) v
    tried up (Ok t) w = unless_written m (whole_refusal t) (recording m (entry.Commit now t.ops) (Ok t.done)) v (record { fits = w.fits; read = w.read })
        (λ e w. well_kept m (recording m (entry.Commit now t.ops) (Ok t.done)) up v w
        (record { accords = commit_accords m.rest now m.state t.ops (valid_accords m up v); volatile = refl }))
