-- What each request of a manager comes to. What holds of all calls follows for requests: that they leave a session and who a manager is (`Calling`), what their records are of (`Recorded`),
-- that a manager which is down does nothing (`Refusing`), and that they keep what is stored (`Serving`). So a new request has a clause here, in `request_laws`, and in none of those.
use Rattle.std.proofs.Common.{arith, refl, sym}
use Rattle.std.proofs.lemmas.Bool.Decides.{nat_tests}
use Rattle.std.specs.List.{AllByRecursion}
use Rattle.std.specs.Option.{option_map_or, option_or}
use Rattle.std.specs.Prelude.{[], ◌+◌, ◌==◌, ◌≡◌, ◌≤◌, Bool, Err, IfSome, List, None, Ok, Option, Result, Some, cond, false, length, nat_lt, true, ℕ}
use Rattle.mqb_base.specs.declared.draft.Op.{Op}
use Rattle.mqb_base.specs.declared.draft.Parts.{Parts}
use Rattle.mqb_base.specs.declared.message.Lane.{Lane}
use Rattle.mqb_base.specs.declared.message.Lane.TheVariants as lane
use Rattle.mqb_base.specs.declared.message.Message.{Message}
use Rattle.mqb_base.specs.declared.queues.EntryPlace.{EntryPlace}
use Rattle.mqb_packet.specs.declared.packet.Headers.TheVariants as headers
use Rattle.mqb_queue.specs.Places.{lists_at, place_named}
use Rattle.mqb_model.specs.calls.Call as calls
use Rattle.mqb_model.specs.calls.Call.{Answer, Asks, Call, Commit, CreateQueue, Purge, Request, Send, Set, Take, Tick, answered, requested}
use Rattle.mqb_model.specs.calls.Commit.{Trial, commit_tried, has_too_large, trial_of, try_ops, whole_refusal}
use Rattle.mqb_model.specs.calls.Messages.{plain_message}
use Rattle.mqb_model.specs.calls.Purge.{purge_at, purging}
use Rattle.mqb_model.specs.calls.Send.{message_fault, send_refusal, sending, target_fault}
use Rattle.mqb_model.specs.calls.Take.{first_in, take_at, take_position, taking}
use Rattle.mqb_model.specs.declared.faults.CommitFault.{CommitFault}
use Rattle.mqb_model.specs.declared.faults.CommitFault.TheVariants as commit_fault
use Rattle.mqb_model.specs.declared.faults.SendFault.{SendFault}
use Rattle.mqb_model.specs.declared.faults.SendFault.TheVariants as send_fault
use Rattle.mqb_model.specs.declared.limits.TheConstants.{MAX_NUMBER}
use Rattle.mqb_model.specs.managers.Beside.{Beside}
use Rattle.mqb_model.specs.managers.Beside as beside
use Rattle.mqb_model.specs.managers.Manager.{Manager, is_down}
use Rattle.mqb_model.specs.managers.Outcomes.{Outcome, answering, recording, unless}
use Rattle.mqb_model.specs.records.Commit.{sends_of}
use Rattle.mqb_model.specs.records.Packets.{is_too_large}
use Rattle.mqb_model.specs.records.Record.{Record}
use Rattle.mqb_model.specs.records.Record as entry
use Rattle.mqb_model.specs.rules.Takes.{message_at}
use Rattle.mqb_model.specs.rules.Timeouts.{durable_due}
use Rattle.mqb_model.specs.state.Resolving.{resolved}
use Rattle.mqb_model.specs.state.State.{State}
use Rattle.mqb_history.specs.Made.{IsPlainNext, TakeNumbers}
use Rattle.mqb_history.proofs.Asking.{IfAsked, IsOfOps, ops_asked}
use Rattle.mqb_history.proofs.Lists.{clash}
use Rattle.mqb_history.proofs.Trying.{IfTried, ops_tried}

-- no record is written, no packet goes out, and the disk is not touched
pub record IsIdle (outcome : Outcome Answer) : Type 0 where
  pub touches : outcome.touches ≡ false
  pub entry : outcome.entry ≡ None
  pub beside : outcome.beside ≡ beside.Nothing
  pub packets : outcome.packets ≡ []

-- the first reason is that it is down
pub refused_first : {V E : Type 0} (says : Result V E → Answer) (m : Manager) (down : Bool) (why : E) (rest : Option E) (outcome : Outcome (Result V E)) → down ≡ true
    → IsIdle (answered says (unless m (cond down (Some why) rest) outcome))
refused_first says m true why rest outcome e = record { touches = refl; entry = refl; beside = refl; packets = refl }
refused_first says m false why rest outcome e = absurd (clash (sym e))

-- The record of a request, and what is done beside it.

-- the call makes a transaction, and what that sends is asked for
pub record IsCommitOf (call : Call) (sends : List Message) : Type 0 where
  pub now : ℕ
  pub ops : List Op
  pub call_is : call ≡ Asks (Commit now ops)
  pub asked : AllByRecursion (IsOfOps now ops) sends

-- the call sends a message
pub record IsPlainOf (s : State) (call : Call) (m : Message) : Type 0 where
  pub now : ℕ
  pub parts : Parts
  pub call_is : call ≡ Asks (Send now true parts)
  pub message : m ≡ plain_message s true now parts

-- the call sends a message beside its record, under the next express number
pub record IsSentBeside (s : State) (call : Call) (m : Message) : Type 0 where
  pub now : ℕ
  pub parts : Parts
  pub call_is : call ≡ Asks (Send now false parts)
  pub message : m ≡ plain_message s false now parts

-- The record of a request: what it sends takes the next numbers, and is what was asked for. It adds no peer, and has nothing to do with packets.
abbrev pub RecordFor : State → Request → Record → Type 0
RecordFor s given (entry.Identity identity) = ⊥
RecordFor s given (entry.Peer peer) = ⊥
RecordFor s given (entry.Commit at made) = TakeNumbers s.identity.guid s.next_number (sends_of made) × IsCommitOf (Asks given) (sends_of made)
RecordFor s given (entry.Plain at p) = IsPlainNext s.identity.guid s.next_number p.message × IsPlainOf s (Asks given) p.message
RecordFor s given (entry.Offered marks) = ⊥
RecordFor s given (entry.Arrived at numbers part) = ⊥
RecordFor s given _ = Unit {0}

-- beside it no packet is heard or noted
abbrev pub BesideFor : State → Request → Beside → Type 0
BesideFor s given (beside.SendsExpress at m) = IsSentBeside s (Asks given) m
BesideFor s given (beside.HearsExpress peer number at m refusal) = ⊥
BesideFor s given (beside.NotesSent peer sent) = ⊥
BesideFor s given _ = Unit {0}

-- a request leaves the session, and its record and what is done beside that are of it
record IsOutcomeFor {A : Type 0} (m : Manager) (given : Request) (outcome : Outcome A) : Type 0 where
  pub session : outcome.rest.session ≡ m.rest.session
  pub entry : IfSome outcome.entry (RecordFor m.state given)
  pub beside : BesideFor m.state given outcome.beside

nothing_for : {A : Type 0} (m : Manager) (given : Request) (answer : A) → IsOutcomeFor m given (answering m answer)
nothing_for m given answer = record { session = refl; entry = tt; beside = tt }

-- it is refused, or comes to this
unless_for : {V E : Type 0} (m : Manager) (given : Request) (refusal : Option E) (outcome : Outcome (Result V E)) → (refusal ≡ None → IsOutcomeFor m given outcome)
    → IsOutcomeFor m given (unless m refusal outcome)
unless_for m given (Some fault) outcome h = nothing_for m given (Err fault)
unless_for m given None outcome h = h refl

or_for : {X A : Type 0} (m : Manager) (given : Request) (f : X → Outcome A) (o : Option X) (other : A) → ((x : X) → IsOutcomeFor m given (f x))
    → IsOutcomeFor m given (option_map_or f o (answering m other))
or_for m given f None other some = nothing_for m given other
or_for m given f (Some x) other some = some x

-- a record, unless there is none
some_for : (s : State) (given : Request) (b : Bool) (r : Record) → RecordFor s given r → IfSome (cond b None (Some r)) (RecordFor s given)
some_for s given true r h = tt
some_for s given false r h = h

-- Transactions.

-- one that is not refused has its numbers
numbers_left : (t : Trial) → whole_refusal t ≡ None → t.sending.next_number ≤ MAX_NUMBER + 1
numbers_left t e = at (nat_lt (MAX_NUMBER + 1) t.sending.next_number) refl e
  where
    low : nat_lt (MAX_NUMBER + 1) t.sending.next_number ≡ false → t.sending.next_number ≤ MAX_NUMBER + 1
    low f = grind (arith, nat_tests)

    at : (b : Bool) → nat_lt (MAX_NUMBER + 1) t.sending.next_number ≡ b → cond b (Some commit_fault.NumbersSpent) (cond (has_too_large t.ops) (Some commit_fault.TooLarge) None) ≡ None
        → t.sending.next_number ≤ MAX_NUMBER + 1
    at true f g = absurd (let none : ⊥ = cc in none)
    at false f g = low f

commit_for : (m : Manager) (now : ℕ) (ops : List Op) (r : Result Trial CommitFault) → IfAsked now ops r → IfTried m.state r → IsOutcomeFor m (Commit now ops) (commit_tried m now r)
commit_for m now ops (Err why) asked tried = nothing_for m (Commit now ops) (Err why)
commit_for m now ops (Ok t) asked tried = unless_for m (Commit now ops) (whole_refusal t) (recording m (entry.Commit now t.ops) (Ok t.done)) (λ e. record {
  session = refl;
  entry = (
    record { numbered = tried.numbered; left = let low = numbers_left t e in let next = tried.next in omega (arith, low, next) },
    record { now = now; ops = ops; call_is = refl; asked = asked },
  );
  beside = tt;
})

-- Plain messages.

-- one that is not refused has a number
number_left_so : (m : Manager) (message : Message) → send_refusal m true message ≡ None → m.state.next_number ≤ MAX_NUMBER
number_left_so m message e = at (is_down m) (target_fault m.state (resolved m.state message.destination)) e
  where
    low : nat_lt MAX_NUMBER m.state.next_number ≡ false → m.state.next_number ≤ MAX_NUMBER
    low f = grind (arith, nat_tests)

    left : (b : Bool) → nat_lt MAX_NUMBER m.state.next_number ≡ b
        → cond b (Some send_fault.NumbersSpent) (cond (is_too_large headers.Session message) (Some send_fault.TooLarge) None) ≡ None → m.state.next_number ≤ MAX_NUMBER
    left true f g = absurd (let none : ⊥ = cc in none)
    left false f g = low f

    at : (down : Bool) (o : Option SendFault) → cond down (Some send_fault.Down) (option_or o (message_fault m.state true message)) ≡ None → m.state.next_number ≤ MAX_NUMBER
    at true o f = absurd (let none : ⊥ = cc in none)
    at false (Some why) f = absurd (let none : ⊥ = cc in none)
    at false None f = left (nat_lt MAX_NUMBER m.state.next_number) refl f

send_for : (m : Manager) (now : ℕ) (recoverable : Bool) (p : Parts) → send_refusal m recoverable (plain_message m.state recoverable now p) ≡ None
    → IsOutcomeFor m (Send now recoverable p) (sending m recoverable (plain_message m.state recoverable now p) now)
send_for m now true p e = record {
  session = refl;
  entry = (
    record { id = refl; left = number_left_so m (plain_message m.state true now p) e; ordinary = refl },
    record { now = now; parts = p; call_is = refl; message = refl },
  );
  beside = tt;
}
send_for m now false p e = record { session = refl; entry = tt; beside = record { now = now; parts = p; call_is = refl; message = refl } }

-- Each request.

take_for : (m : Manager) (given : Request) (at : EntryPlace) (now : ℕ) (kind : Lane) (k : ℕ) (message : Message) → IsOutcomeFor m given (taking m at now kind k message)
take_for m given at now lane.Durable k message = record { session = refl; entry = tt; beside = tt }
take_for m given at now lane.Express k message = record { session = refl; entry = tt; beside = tt }

-- what holds of what a request comes to
pub record RequestLaws (m : Manager) (given : Request) (outcome : Outcome Answer) : Type 0 where
  pub idle : is_down m ≡ true → IsIdle outcome
  pub session : outcome.rest.session ≡ m.rest.session
  pub entry : IfSome outcome.entry (RecordFor m.state given)
  pub beside : BesideFor m.state given outcome.beside

-- it is refused, first where the manager is down, or comes to this
unless_refused : {V E : Type 0} (says : Result V E → Answer) (m : Manager) (given : Request) (why : E) (rest : Option E) (outcome : Outcome (Result V E))
    → (cond (is_down m) (Some why) rest ≡ None → IsOutcomeFor m given outcome) → RequestLaws m given (answered says (unless m (cond (is_down m) (Some why) rest) outcome))
unless_refused says m given why rest outcome h = let g = unless_for m given (cond (is_down m) (Some why) rest) outcome h in
    record { idle = refused_first says m (is_down m) why rest outcome; session = g.session; entry = g.entry; beside = g.beside }

pub request_laws : (m : Manager) (given : Request) → RequestLaws m given (requested m given)
request_laws m (CreateQueue plan) = unless_refused calls.Created m (CreateQueue plan) _ _ _ (λ e. record { session = refl; entry = tt; beside = tt })
request_laws m (Set setting) = unless_refused calls.WasSet m (Set setting) _ _ _ (λ e. record { session = refl; entry = tt; beside = tt })
request_laws m (Commit now ops) = unless_refused calls.Committed m (Commit now ops) _ _ _
    (λ e. commit_for m now ops (try_ops now 0 (trial_of m.state) ops) (ops_asked m.state ops now) (ops_tried m.state ops now))
request_laws m (Send now recoverable p) = unless_refused calls.Sent m (Send now recoverable p) _ _ _ (send_for m now recoverable p)
request_laws m (Take now p) = unless_refused calls.Took m (Take now p) _ _ _ (λ e. or_for m (Take now p) (take_at m now) (place_named m.state.places.queues p) _
    (λ at. or_for m (Take now p) (take_position m at now) (first_in m.state at now) _ (λ q. or_for m (Take now p) (taking m at now q.lane q.index) (message_at q.lane m.state at q.index) _
    (take_for m (Take now p) at now q.lane q.index))))
request_laws m (Purge now p) = unless_refused calls.Purged m (Purge now p) _ _ _ (λ e. or_for m (Purge now p) (purge_at m now) (place_named m.state.places.queues p) _
    (λ at. or_for m (Purge now p) (purging m now at) (lists_at m.state.places at) _
    (λ l. record { session = refl; entry = some_for m.state (Purge now p) (length l.durable == 0) (entry.Purged now at) tt; beside = tt })))
request_laws m (Tick now) = unless_refused calls.Ticked m (Tick now) _ _ _
    (λ e. record { session = refl; entry = some_for m.state (Tick now) (durable_due m.state now == 0) (entry.Ticked now) tt; beside = tt })
