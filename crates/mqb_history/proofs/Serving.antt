-- Calls that have nothing to do with packets, and packets that are heard, keep what is stored.
use Rattle.std.proofs.Common.{refl, ap, sym, subst, ◌∙◌}
use Rattle.std.specs.Option.{option_map_or}
use Rattle.std.specs.Prelude.{◌++◌, ◌≡◌, IfSome, List, None, Option, Some, false, is_some, ℕ}
use Rattle.mqb_base.specs.declared.ids.Guid.{Guid}
use Rattle.mqb_base.specs.declared.ids.MessageId.{MessageId}
use Rattle.mqb_base.specs.declared.message.Lane.{Lane}
use Rattle.mqb_base.specs.declared.message.Message.{Message}
use Rattle.mqb_packet.specs.declared.packet.Packet.{Packet}
use Rattle.mqb_session.specs.State as one_end
use Rattle.mqb_model.specs.calls.Link.{rewound}
use Rattle.mqb_model.specs.managers.Beside.{Beside}
use Rattle.mqb_model.specs.managers.Beside as beside
use Rattle.mqb_model.specs.managers.Manager.{Manager, linked_peer}
use Rattle.mqb_model.specs.managers.Outcomes.{Outcome, succeeded}
use Rattle.mqb_model.specs.records.Record.{Record}
use Rattle.mqb_model.specs.records.Record as entry
use Rattle.mqb_model.specs.state.Places.{is_express}
use Rattle.mqb_model.specs.state.State.{State}
use Rattle.mqb_network.specs.Choices.{Failure}
use Rattle.mqb_network.specs.Courses.{Course, Written, written_by}
use Rattle.mqb_network.specs.Network.{Network, manager_at, with_manager}
use Rattle.mqb_model.specs.calls.Call.{Answer, Asks, Call, Checkpoint, Hear, Pump, Request, Resend, answered, outcome_of, requested}
use Rattle.mqb_history.specs.Changes.{calling, is_of_packets}
use Rattle.mqb_history.specs.Orderly.{AreAllDisjoint}
use Rattle.mqb_history.proofs.Between.{from_sender}
use Rattle.mqb_history.proofs.Flowing.{Flows, flows_more, source_works, target_works}
use Rattle.mqb_history.proofs.Lists.{clash, if_some}
use Rattle.mqb_history.proofs.Ordering.{with_at}
use Rattle.mqb_history.proofs.Requests.{BesideFor, RecordFor, request_laws}
use Rattle.mqb_history.proofs.Storing.{FlowsIn, KeepsStorage, ReleasesStored, call_waits, called_rests, failing_keeps, well_keeps}
use Rattle.mqb_history.proofs.Unreleased.{IsOfOwn, IsPlainBeside, Waits}

-- What a call that has nothing to do with packets does: it leaves the session, and its record releases nothing.

abbrev pub IsWork : Guid → Record → Type 0
IsWork own (entry.Plain now p) = p.message.id.qm ≡ own
IsWork own (entry.Arrived now numbers part) = ⊥
IsWork own _ = Unit {0}

pub record Works {A : Type 0} (own : Guid) (m : Manager) (outcome : Outcome A) : Type 0 where
  pub session : outcome.rest.session ≡ m.rest.session
  pub entry : IfSome outcome.entry (IsWork own)
  pub beside : IsPlainBeside outcome.beside

pub same_works : {A : Type 0} (says : A → Answer) (own : Guid) (m : Manager) (outcome : Outcome A) → Works own m outcome → Works own m (answered says outcome)
same_works says own m outcome h = record { session = h.session; entry = h.entry; beside = h.beside }

-- what a request records, and what it does beside that
request_works : (own : Guid) (s : State) (given : Request) (r : Record) → s.identity.guid ≡ own → RecordFor s given r → IsWork own r
request_works own s given (entry.Plain now p) e h = ap (λ (x : MessageId). x.qm) h.0.id ∙ e
request_works own s given (entry.Arrived now numbers part) e h = absurd h
request_works own s given r e h = tt

request_beside : (s : State) (given : Request) (b : Beside) → BesideFor s given b → IsPlainBeside b
request_beside s given (beside.SendsExpress now m) h = ap (λ (x : Message). is_express x.delivery) h.message
request_beside s given (beside.HearsExpress peer number now m refusal) h = absurd h
request_beside s given (beside.NotesSent peer sent) h = absurd h
request_beside s given b h = tt

resend_works : (own : Guid) (m : Manager) → Works own m (outcome_of m Resend)
resend_works own m = record { session = at m.rest.session refl; entry = tt; beside = tt }
  where
    at : (o : Option one_end.State) → m.rest.session ≡ o → (option_map_or (λ session. rewound m.state (linked_peer m.state session) m.rest) o m.rest).session ≡ m.rest.session
    at None e = refl
    at (Some session) e = refl

pub calls_work : (own : Guid) (m : Manager) (call : Call) → m.state.identity.guid ≡ own → is_of_packets call ≡ false → Works own m (outcome_of m call)
calls_work own m (Asks given) e f = let h = request_laws m given in record {
  session = h.session;
  entry = if_some (RecordFor m.state given) (IsWork own) (requested m given).entry (λ r g. request_works own m.state given r e g) h.entry;
  beside = request_beside m.state given (requested m given).beside h.beside;
}
calls_work own m Resend e f = resend_works own m
calls_work own m Checkpoint e f = record { session = refl; entry = tt; beside = tt }
calls_work own m (Pump now) e f = absurd (clash f)
calls_work own m (Hear now p) e f = absurd (clash f)

work_own : (own : Guid) (r : Record) → IsWork own r → IsOfOwn own r
work_own own (entry.Plain now p) h = h
work_own own r h = tt

work_stored : (own : Guid) (ws : List Written) (s : State) (r : Record) → IsWork own r → ReleasesStored ws s r
work_stored own ws s (entry.Arrived now numbers part) h = absurd h
work_stored own ws s r h = tt

-- Flows go on where one of two managers makes a call.
pub flows_call : (c : Course) (x : ℕ) (call : Call) (i j d : ℕ) → ((own : Guid) → (manager_at c.network x).state.identity.guid ≡ own → Works own (manager_at c.network x) (outcome_of (manager_at c.network x) call))
    → FlowsIn c.network c.sent c.written i j d
    → FlowsIn (with_manager c.network x (succeeded (manager_at c.network x) (outcome_of (manager_at c.network x) call))) c.sent
    (c.written ++ written_by x (manager_at c.network x) (outcome_of (manager_at c.network x) call).entry) i j d
flows_call c x call i j d works h = with_at (λ y. Flows (manager_at (with_manager n x next) i) y xs ys ws) n x j next first
    (λ e. target_works (manager_at (with_manager n x next) i) (manager_at n j) next xs ys ws first (subst (λ k. next.rest.session ≡ (manager_at n k).rest.session) e (works m.state.identity.guid refl).session))
  where
    n : Network
    n = c.network

    m : Manager
    m = manager_at n x

    outcome : Outcome Answer
    outcome = outcome_of m call

    next : Manager
    next = succeeded m outcome

    xs : List Packet
    xs = from_sender d i n.notes c.sent

    ys : List Packet
    ys = from_sender d j n.notes c.sent

    ws : List Written
    ws = c.written ++ written_by x m outcome.entry

    more : Flows (manager_at n i) (manager_at n j) xs ys ws
    more = flows_more (manager_at n i) (manager_at n j) xs ys c.written (written_by x m outcome.entry) h

    keeps : (e : x ≡ i) (Bears : Lane → ℕ → MessageId → Type 0) → Waits more.own Bears (manager_at n i).state → Waits more.own Bears next.state
    keeps e Bears w = let here = subst (λ k. Waits more.own Bears (manager_at n k).state) (sym e) w in let work = works more.own here.identity in
        call_waits more.own Bears m outcome (if_some (IsWork more.own) (IsOfOwn more.own) outcome.entry (work_own more.own) work.entry) work.beside here

    first : Flows (manager_at (with_manager n x next) i) (manager_at n j) xs ys ws
    first = with_at (λ y. Flows y (manager_at n j) xs ys ws) n x i next more
        (λ e. source_works (manager_at n i) (manager_at n j) next xs ys ws more (subst (λ k. next.rest.session ≡ (manager_at n k).rest.session) e (works m.state.identity.guid refl).session) (keeps e))

pub works_keep : (c : Course) (x : ℕ) (call : Call) (failure : Option Failure) → AreAllDisjoint c.network.connections
    → ((own : Guid) → (manager_at c.network x).state.identity.guid ≡ own → Works own (manager_at c.network x) (outcome_of (manager_at c.network x) call))
    → KeepsStorage c → KeepsStorage (calling x call failure c)
works_keep c x call None disjoint works k = let m = manager_at c.network x in let outcome = outcome_of m call in let work = works (k.rests x).own (k.rests x).waits.identity in
    well_keeps c x call k
    (called_rests m outcome (k.rests x) (ap is_some work.session) (if_some (IsWork (k.rests x).own) (IsOfOwn (k.rests x).own) outcome.entry (work_own (k.rests x).own) work.entry) work.beside)
    (if_some (IsWork (k.rests x).own) (ReleasesStored c.written m.state) outcome.entry (work_stored (k.rests x).own c.written m.state) work.entry)
    (λ d inside i j e. flows_call c x call i j d.number works (k.flows d inside i j e))
works_keep c x call (Some how) disjoint works k = let m = manager_at c.network x in let outcome = outcome_of m call in let work = works (k.rests x).own (k.rests x).waits.identity in
    failing_keeps c x call how disjoint k
    (if_some (IsWork (k.rests x).own) (IsOfOwn (k.rests x).own) outcome.entry (work_own (k.rests x).own) work.entry)
    (if_some (IsWork (k.rests x).own) (ReleasesStored c.written m.state) outcome.entry (work_stored (k.rests x).own c.written m.state) work.entry)

pub calls_keep : (c : Course) (x : ℕ) (call : Call) (failure : Option Failure) → AreAllDisjoint c.network.connections → is_of_packets call ≡ false → KeepsStorage c → KeepsStorage (calling x call failure c)
calls_keep c x call failure disjoint apart k = works_keep c x call failure disjoint (λ own e. calls_work own (manager_at c.network x) call e apart) k
