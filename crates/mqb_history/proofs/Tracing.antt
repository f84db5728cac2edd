-- Each message that there is, but for notices and express ones, is one that an event of the run asked for.
use Rattle.std.proofs.Common.{◌∙◌, ap, inl, inr, refl, subst, sym}
use Rattle.std.specs.List.{AllByRecursion}
use Rattle.std.specs.Prelude.{[], ◌+◌, ◌∷◌, ◌≡◌, ◌⊎◌, Bool, IfSome, List, None, Option, Some, false, slice_get, true, ℕ}
use Rattle.mqb_base.specs.declared.message.Delivery.TheVariants.{Express, Recoverable}
use Rattle.mqb_base.specs.declared.class.Class.{Class}
use Rattle.mqb_base.specs.declared.draft.Parts.{Parts}
use Rattle.mqb_base.specs.declared.ids.Guid.{Guid}
use Rattle.mqb_base.specs.declared.ids.Identity.{Identity}
use Rattle.mqb_base.specs.declared.message.Message.{Message}
use Rattle.mqb_exactly_once.specs.Words.{In}
use Rattle.mqb_fate.specs.Asking.{is_ordinary}
use Rattle.mqb_model.specs.calls.Messages.{plain_message, message_of}
use Rattle.mqb_model.specs.managers.Beside.{Beside}
use Rattle.mqb_model.specs.managers.Beside as beside
use Rattle.mqb_model.specs.managers.Manager.{Manager}
use Rattle.mqb_model.specs.records.Commit.{sends_of}
use Rattle.mqb_model.specs.records.Record.{Part, Record}
use Rattle.mqb_model.specs.records.Record as entry
use Rattle.mqb_model.specs.state.State.{State}
use Rattle.mqb_network.specs.Choices.{Failure}
use Rattle.mqb_network.specs.Courses.{Course}
use Rattle.mqb_network.specs.Network.{manager_at}
use Rattle.mqb_network.specs.Runs.{Move}
use Rattle.mqb_packet.specs.declared.packet.Packet.{Packet}
use Rattle.mqb_packet.specs.declared.packet.Packet.TheVariants as packet
use Rattle.mqb_packet.specs.declared.packet.UserPacket.{UserPacket}
use Rattle.mqb_history.specs.Asked.{IsAskedFor}
use Rattle.mqb_model.specs.calls.Call.{Asks, Call, Send, outcome_of}
use Rattle.mqb_history.specs.Changes.{Calls}
use Rattle.mqb_history.specs.Made.{AreNumbered, IsMade}
use Rattle.mqb_history.specs.Sent.{sends_in}
use Rattle.mqb_history.specs.Traced.{IsAbout, IsAskedAlone, IsTraced, is_order_acknowledgement}
use Rattle.mqb_history.proofs.Accounts.{CallSent, HeardBy, PartFrom}
use Rattle.mqb_history.proofs.AskedFor.{IsMoveOf, commit_asks}
use Rattle.mqb_history.proofs.Bringing.{IsBrought}
use Rattle.mqb_history.proofs.Calling.{calls_are_modest, made_only}
use Rattle.mqb_history.proofs.Committing.{all_in}
use Rattle.mqb_history.proofs.Containing.{IsFine, IsFineBeside, PartFine}
use Rattle.mqb_history.proofs.Contents.{IsCarried, always_carried}
use Rattle.mqb_history.proofs.Courses.{Agrees, AreKnown, HeardIn, call_heard, unknown_down, who_is}
use Rattle.mqb_history.proofs.Lists.{clash}
use Rattle.mqb_history.proofs.Recorded.{BesideOf, RecordOf, calls_are_of}
use Rattle.mqb_history.proofs.Refusing.{down_is_idle}
use Rattle.mqb_history.proofs.Sparing.{all_of as all_from}
use Rattle.mqb_history.proofs.Steady.{class_beside}

-- What a record sends is asked for, and bears the GUID of its manager.

abbrev Asked : List Move → ℕ → Message → Type 0
Asked ms i m = IsAskedFor ms i m ⊎ IsAskedAlone ms i m

abbrev IsOf : Guid → Message → Type 0
IsOf own m = m.id.qm ≡ own

numbered_own : (own : Guid) (n : ℕ) (ms : List Message) → AreNumbered own n ms → AllByRecursion (IsOf own) ms
numbered_own own n [] h = tt
numbered_own own n (m ∷ ms) h = (ap (λ i. i.qm) h.0, numbered_own own (n + 1) ms h.1)

record_own : (s : State) (r : Record) → IsMade s r → AllByRecursion (IsOf s.identity.guid) (sends_in r)
record_own s (entry.Commit now ops) made = numbered_own s.identity.guid s.next_number (sends_of ops) made.numbered
record_own s (entry.Plain now p) made = (ap (λ i. i.qm) made.id, tt)
record_own s r made = tt

-- Calls.

transaction_asked : (ms : List Move) (i : ℕ) (xs : List Message) → AllByRecursion (IsAskedFor ms i) xs → AllByRecursion (Asked ms i) xs
transaction_asked ms i [] h = tt
transaction_asked ms i (m ∷ xs) h = (inl h.0, transaction_asked ms i xs h.1)

-- what a call asks for by itself is one of the moves
alone_asked : (ms : List Move) (i : ℕ) (call : Call) (failure : Option Failure) (now : ℕ) (recoverable : Bool) (parts : Parts) (s : State) (m : Message) → IsMoveOf ms (Calls i call failure)
    → call ≡ Asks (Send now recoverable parts) → m ≡ plain_message s recoverable now parts → Asked ms i m
alone_asked ms i call failure now recoverable parts s m move same is = inr (asked recoverable (subst (λ x. IsMoveOf ms (Calls i x failure)) same move) is)
  where
    asked : (r : Bool) → IsMoveOf ms (Calls i (Asks (Send now r parts)) failure) → m ≡ plain_message s r now parts → IsAskedAlone ms i m
    asked true given e = record { move = given.0; now = now; recoverable = true; parts = parts; there = given.1; asks = given.2; message = e ∙ ap (λ (x : Message). message_of x.id Recoverable parts.priority now parts) (sym e) }
    asked false given e = record { move = given.0; now = now; recoverable = false; parts = parts; there = given.1; asks = given.2; message = e ∙ ap (λ (x : Message). message_of x.id Express parts.priority now parts) (sym e) }

record_asked : (ms : List Move) (i : ℕ) (s : State) (call : Call) (failure : Option Failure) (r : Record) → IsMoveOf ms (Calls i call failure) → RecordOf s call r → AllByRecursion (Asked ms i) (sends_in r)
record_asked ms i s call failure (entry.Commit now ops) move h = transaction_asked ms i (sends_of ops) (commit_asks ms i s call failure ops move now h)
record_asked ms i s call failure (entry.Plain now p) move h = (alone_asked ms i call failure h.now true h.parts s p.message move h.call_is h.message, tt)
record_asked ms i s call failure r move h = tt

call_asked : (ms : List Move) (i : ℕ) (m : Manager) (call : Call) (failure : Option Failure) → IsMoveOf ms (Calls i call failure) → IfSome (outcome_of m call).entry (λ r. AllByRecursion (Asked ms i) (sends_in r))
call_asked ms i m call failure move = at (outcome_of m call).entry (calls_are_of m call).entry
  where
    at : (o : Option Record) → IfSome o (RecordOf m.state call) → IfSome o (λ r. AllByRecursion (Asked ms i) (sends_in r))
    at None h = tt
    at (Some r) h = record_asked ms i m.state call failure r move h

-- What is heard beside a record.

heard_beside : (P : Message → Type 0) (sent : List Packet) → ((p : UserPacket) → In (packet.User p) sent → P p.message) → (s : State) (call : Call) (peer number now : ℕ) (m : Message) (refusal : Option Class)
    → CallSent sent call → BesideOf s call (beside.HearsExpress peer number now m refusal) → P m
heard_beside P sent packets s call peer number now m refusal i h = subst P h.message (packets h.given (subst (CallSent sent) h.call_is i))

module _ (known : List Identity) (ms : List Move) where
  -- A message was asked for, where it is ordinary; and otherwise that which it names was, unless it acknowledges an order.
  abbrev pub IsCaused : Message → Type 0
  IsCaused m = (is_ordinary m ≡ true → IsTraced known ms m) × (is_ordinary m ≡ false → is_order_acknowledgement m ≡ false → IsAbout known ms m)

  pub caused_carried : IsCarried (λ next. IsCaused)
  caused_carried = always_carried IsCaused (λ m class d to id now o e g. (λ ordinary. absurd (clash (sym ordinary ∙ e)), λ other apart. record { subject = m; names = refl; traced = g.0 o }))

  pub caused_brought : IsBrought IsCaused
  caused_brought = record {
    acks = λ a host id now. (λ ordinary. absurd (clash (sym ordinary)), λ other apart. absurd (clash apart));
    left = λ m n g. (
      λ ordinary. let one = g.0 ordinary in record {
        by = one.by;
        own = one.own;
        there = one.there;
        source = one.source;
        send = one.send;
        same = ap (λ (x : Message). record x { reach = n }) one.same;
        asked = one.asked;
      },
      λ other apart. let one = g.1 other apart in record { subject = one.subject; names = one.names; traced = one.traced },
    );
  }

  asked_ordinary : (i : ℕ) (m : Message) → Asked ms i m → is_ordinary m ≡ true
  asked_ordinary i m (inl a) = ap is_ordinary a.message
  asked_ordinary i m (inr a) = ap is_ordinary a.message

  caused : (i : ℕ) (own : Identity) → slice_get known i ≡ Some own → (m : Message) → IsOf own.guid m → Asked ms i m → IsCaused m
  caused i own there m source asked = (
    λ ordinary. record { by = i; own = own; there = there; source = source; send = m; same = refl; asked = asked },
    λ other apart. absurd (clash (sym (asked_ordinary i m asked) ∙ other)),
  )

  module _ (c : Course) (o : AreKnown known c.network) (h : Agrees known c) (packets : (p : UserPacket) → In (packet.User p) c.sent → IsCaused p.message)
      (i : ℕ) (call : Call) (failure : Option Failure) (move : IsMoveOf ms (Calls i call failure)) (sends : CallSent c.sent call) where
    abbrev m : Manager
    m = manager_at c.network i

    own_guid : (own : Identity) → slice_get known i ≡ Some own → m.state.identity.guid ≡ own.guid
    own_guid own there = ap (λ (x : Identity). x.guid) (who_is known c i own o there)

    part_fine : (own : Guid) (part : Part) → PartFrom c.sent own part → PartFine IsCaused part
    part_fine own (entry.Decided p) g = packets p g.0
    part_fine own (entry.Stored p) g = packets p g.0
    part_fine own part g = tt

    record_fine : (own : Guid) (r : Record) → HeardBy c.sent own r → ((x : Message) → In x (sends_in r) → IsCaused x) → IsFine IsCaused r
    record_fine own (entry.Commit now ops) g all = all_from IsCaused (sends_of ops) all
    record_fine own (entry.Plain now p) g all = all p.message (inl refl)
    record_fine own (entry.Arrived now numbers part) g all = part_fine own part g
    record_fine own r g all = tt

    -- what a call writes is fine
    pub call_fine : IfSome (outcome_of m call).entry (IsFine IsCaused)
    call_fine = at (outcome_of m call).entry (call_asked ms i m call failure move) (made_only _ m.state (outcome_of m call).entry (calls_are_modest m call).entry) (call_heard known c o h i call sends)
      where
        at : (r : Option Record) → IfSome r (λ r. AllByRecursion (Asked ms i) (sends_in r)) → IfSome r (IsMade m.state) → IfSome r (HeardIn known c.sent i) → IfSome r (IsFine IsCaused)
        at None asked made heard = tt
        at (Some r) asked made heard = record_fine heard.0.guid r heard.2 (λ x inside. caused i heard.0 heard.1 x
            (all_in (IsOf m.state.identity.guid) (sends_in r) x (record_own m.state r made) inside ∙ own_guid heard.0 heard.1) (all_in (Asked ms i) (sends_in r) x asked inside))

    -- and what is sent, or heard, beside it
    of_call : (own : Identity) → slice_get known i ≡ Some own → (b : Beside) → BesideOf m.state call b → IsFineBeside IsCaused b
    of_call own there (beside.SendsExpress at x) h = caused i own there x (ap (λ (y : Message). y.id.qm) h.message ∙ own_guid own there) (alone_asked ms i call failure h.now false h.parts m.state x move h.call_is h.message)
    of_call own there (beside.HearsExpress peer number now x refusal) h = (heard_beside IsCaused c.sent packets m.state call peer number now x refusal sends h, class_beside m.state call peer number now x refusal h)
    of_call own there b h = tt

    pub beside_fine : IsFineBeside IsCaused (outcome_of m call).beside
    beside_fine = at (slice_get known i) refl
      where
        at : (x : Option Identity) → slice_get known i ≡ x → IsFineBeside IsCaused (outcome_of m call).beside
        at (Some own) e = of_call own e (outcome_of m call).beside (calls_are_of m call).beside
        at None e = subst (IsFineBeside IsCaused) (sym (down_is_idle m call (unknown_down known c.network i o e)).beside) tt
