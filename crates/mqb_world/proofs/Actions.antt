-- The events of one manager, and those that call none, as steps of the network of a world.
use Rattle.std.proofs.Common.{◌≡◌, ◌&&◌, ℕ, Bool, true, false, cond, List, [], ◌++◌, Option, None, Some, Result, Ok, Err, length, refl, sym, ap, subst, ◌∙◌}
use Rattle.std.proofs.lemmas.List.{append-nil}
use Rattle.std.specs.Prelude.{IfOk, IsSome, is_some, map}
use Rattle.mqb_base.specs.declared.ledger.Line.{Line}
use Rattle.mqb_deliveries.specs.Steps.{FallsShort, may_at}
use Rattle.mqb_outside.specs.Disk.{Switch, View}
use Rattle.mqb_outside.specs.declared.power.Mode.{Mode}
use Rattle.mqb_outside.specs.declared.power.Pick.{Pick}
use Rattle.mqb_model.specs.calls.Call.{Request, requested}
use Rattle.mqb_model.specs.calls.pump.Pump.{PumpOutcome, pump}
use Rattle.mqb_model.specs.declared.faults.PumpFault.{PumpFault}
use Rattle.mqb_model.specs.managers.Manager.{Manager, is_down}
use Rattle.mqb_moves.specs.lemmas.Stored.{same_stores, stored_held}
use Rattle.mqb_moves.specs.Seats.{IsHeldOn, SeatState, records_of, seated}
use Rattle.mqb_network.specs.Answers.{Answer, lines_at}
use Rattle.mqb_network.specs.Changes.{ended}
use Rattle.mqb_network.specs.Courses.{course_from}
use Rattle.mqb_network.specs.Checkpointing.{may_rewrite}
use Rattle.mqb_network.specs.Checkpoints.{checkpoint}
use Rattle.mqb_network.specs.Choices.{Choice, Failure, Kept, Unread, Well, failure_in, is_far}
use Rattle.mqb_network.specs.Events as network
use Rattle.mqb_network.specs.Network.{Network, manager_at}
use Rattle.mqb_network.specs.Replies as answer
use Rattle.mqb_network.specs.Runs.{may_fail}
use Rattle.mqb_network.specs.Sending.{pumped}
use Rattle.mqb_network.specs.Step.{step}
use Rattle.mqb_packet.specs.Plain.{plain_spelling}
use Rattle.mqb_packet.specs.declared.packet.Packet.{Packet}
use Rattle.mqb_posts.specs.Packets.{AreWritable}
use Rattle.mqb_posts.specs.Posting.{HasFront, IsCutOff, IsWithin}
use Rattle.mqb_posts.specs.declared.faults.PostFault.{PostFault}
use Rattle.mqb_posts.specs.declared.faults.PostFault.TheVariants as post
use Rattle.mqb_runs.specs.Events.{event_of}
use Rattle.mqb_runs.specs.Requests.{actor, request_of}
use Rattle.mqb_runs.specs.lemmas.Asked.{asked_so, none_some}
use Rattle.mqb_script.specs.Managers.{which_at}
use Rattle.mqb_script.specs.declared.events.Event.{Event}
use Rattle.mqb_script.specs.declared.events.Event.TheVariants as event
use Rattle.mqb_script.specs.declared.managers.Which.{Which}
use Rattle.mqb_script.specs.declared.managers.Which.TheVariants.{Alpha, Beta}
use Rattle.mqb_turns.specs.mqb_seats.Called.{failure_of, how_by}
use Rattle.mqb_traffic.specs.Networks.{index_of}
use Rattle.mqb_transcript.specs.declared.replies.Reply.{Reply}
use Rattle.mqb_transcript.specs.declared.replies.Reply.TheVariants as reply
use Rattle.mqb_turns.specs.Counts.{counts_at}
use Rattle.mqb_turns.specs.Replies.{told}
use Rattle.mqb_turns.specs.Rewrites.{IsRewriteTurn}
use Rattle.mqb_turns.specs.Sends.{ComesShort, IsPumpTurn, pump_at}
use Rattle.mqb_turns.specs.Sides.{Side, network_at}
use Rattle.mqb_turns.specs.Starts.{FailsInStart, IsStarted}
use Rattle.mqb_turns.specs.Turns.{IsQuiet, IsTurn, IsTurnWhere, answers_to}
use Rattle.mqb_turns.specs.lemmas.Counting.{own_count}
use Rattle.mqb_world.specs.Acting.{IsActed, IsCallOf, IsOf}
use Rattle.mqb_world.specs.Disks.{Arms, FarGoes, FaultsGo, IsToldSo, LeavesIt, RecordsGo, Restarts, StaysAsLeft, SwitchGoes, Switching, calls_disk_of, failures_alone, failures_of, is_same, rewrites, switching}
use Rattle.mqb_world.proofs.Told.{IsNoDelivery, failures_in_told, faults_so, faults_told, none_delivered}

-- no packet joins the medium
pub none_posted : (strings : List (List ℕ)) (sent : List Packet) → sent ≡ [] → strings ≡ strings ++ map plain_spelling sent
none_posted strings sent none = sym (append-nil strings) ∙ ap (λ (ps : List Packet). strings ++ map plain_spelling ps) (sym none)

pub none_written : (sent : List Packet) → sent ≡ [] → AreWritable sent
none_written sent none = subst AreWritable (sym none) tt

-- Requests.

-- what the network is asked for
asked_of : (which : Which) (asked : Event) → IsCallOf which asked → (o : Option Request) → request_of asked ≡ o
    → (request : Request) × (o ≡ Some request) × (event_of asked ≡ network.Asks (index_of which) request)
asked_of which asked is o request_is =
    let so = asked_so asked o request_is (subst (λ (q : Option Request). IsSome q) request_is is.0) in
    (so.0, so.1, so.2 ∙ ap (λ (m : ℕ). network.Asks m so.0) is.1)

some_same : (a b : Request) → ◌≡◌ {A = Option Request} (Some a) (Some b) → a ≡ b
some_same a b same = cc

pub asks_so : (which : Which) (asked : Event) (request : Request) → IsCallOf which asked → request_of asked ≡ Some request → event_of asked ≡ network.Asks (index_of which) request
asks_so which asked request is request_is =
    let so = asked_of which asked is (Some request) request_is in
    so.2 ∙ ap (network.Asks (index_of which)) (sym (some_same request so.0 so.1))

may_of_call : (which : Which) (n : Network) (counts : ℕ → ℕ) (asked : Event) → IsCallOf which asked → (choice : Choice)
    → may_at n counts None (event_of asked) choice ≡ may_fail (length (step n None (event_of asked) Well).after.written) choice
may_of_call which n counts asked is choice =
    subst (λ (e : network.Event). may_at n counts None e choice ≡ may_fail (length (step n None e Well).after.written) choice) (sym (asked_of which asked is (request_of asked) refl).2) refl

asked_none : (n : Network) (i : ℕ) (request : Request) (choice : Choice) → IsNoDelivery (step n None (network.Asks i request) choice).reply
asked_none n i request choice = let outcome = requested (manager_at n i) request in
    none_delivered (failure_in choice outcome) (answer.Called outcome.answer (lines_at i outcome (course_from n))) tt

call_none : (which : Which) (n : Network) (asked : Event) → IsCallOf which asked → (choice : Choice) → IsNoDelivery (step n None (event_of asked) choice).reply
call_none which n asked is choice = let request = asked_of which asked is (request_of asked) refl in
    subst (λ (e : network.Event). IsNoDelivery (step n None e choice).reply) (sym request.2) (asked_none n (index_of which) request.0 choice)

call_says : (which : Which) (asked : Event) → IsCallOf which asked → (stopped : Bool) (how : Failure) → how ≡ failure_of (how_by stopped) → IsToldSo asked stopped how
call_says which (event.Restart m pick) is stopped how so = absurd (none_some is.0)
call_says which asked is stopped how so = so

same_self : (which : Which) → is_same which (which_at (index_of which)) ≡ true
same_self Alpha = refl
same_self Beta = refl

called_by_own : (b : Bool) (which : Which) (m : ℕ) → b ≡ true → m ≡ index_of which → (b && is_same which (which_at m)) ≡ true
called_by_own true which m some is = ap (λ (m : ℕ). is_same which (which_at m)) is ∙ same_self which
called_by_own false which m some is = some

calls_own : (which : Which) (asked : Event) → IsCallOf which asked → calls_disk_of which asked ≡ true
calls_own which (event.Pump m now) is = absurd (none_some is.0)
calls_own which (event.Checkpoint m) is = absurd (none_some is.0)
calls_own which (event.Restart m pick) is = absurd (none_some is.0)
calls_own which asked is = called_by_own (is_some (request_of asked)) which (actor asked) is.0 is.1

-- what is told of the disk of the one who acts
alone_so : (which : Which) (asked : Event) (stopped : Bool) (before after : ℕ) (given : Reply) → calls_disk_of which asked ≡ true → FaultsGo asked stopped before after (failures_of given)
    → FaultsGo asked stopped before after (failures_alone which asked given)
alone_so which asked stopped before after given is go = subst (λ (b : Bool). FaultsGo asked stopped before after (cond b (failures_of given) [])) (sym is) go

-- No switch is asked for anything, so nothing is told of records.
pub leaves_records : (asks : Switching) (given : Reply) (before after : ℕ) → asks ≡ LeavesIt → RecordsGo asks given before after
leaves_records asks given before after leaves = subst (λ (s : Switching). RecordsGo s given before after) (sym leaves) tt

-- No state is written anew, so nothing is told of that.
pub none_far : (b : Bool) (s : SeatState) (given : Reply) → b ≡ false → FarGoes b s given
none_far b s given none = subst (λ (b : Bool). FarGoes b s given) (sym none) tt

call_rewrites : (which : Which) (asked : Event) → IsCallOf which asked → rewrites which asked ≡ false
call_rewrites which (event.Checkpoint m) is = absurd (none_some is.0)
call_rewrites which asked is = refl

call_leaves : (which : Which) (asked : Event) → IsCallOf which asked → switching which asked ≡ LeavesIt
call_leaves which (event.Arm m call mode) is = absurd (none_some is.0)
call_leaves which (event.Restart m pick) is = absurd (none_some is.0)
call_leaves which asked is = refl

module _ (which : Which) (x y : Side) (asked : Event) (strings : List (List ℕ)) (within : IsWithin strings) (given : Reply) where
  abbrev answers : Choice → Answer
  answers = answers_to which x (event_of asked)

  pub call_acted : IsCallOf which asked → (d e : View) (stopped : Bool) → IsHeldOn d x.own → IsTurn which x y d e stopped answers given
      → IsActed which x y d e stopped asked strings strings given
  call_acted is d e stopped held t = record {
    step = record {
      choice = t.choice;
      may = may_of_call which (network_at which x) (counts_at which x) asked is t.choice ∙ t.may;
      reply = t.reply;
      network = t.network;
      counted = t.counted;
      posted = none_posted strings (answers t.choice).after.sent t.sent;
      writable = none_written (answers t.choice).after.sent t.sent;
      within = within;
    };
    held = t.held held;
    beside = t.beside;
    faults = alone_so which asked stopped d.faults e.faults given (calls_own which asked is)
        (faults_told asked stopped d.faults e.faults (told (answers t.choice).reply) given t.reply
        (faults_so asked stopped d.faults e.faults (call_says which asked is stopped) (answers t.choice).reply (call_none which (network_at which x) asked is t.choice) t.faults));
    records = leaves_records (switching which asked) given (records_of x.own) (records_of y.own) (call_leaves which asked is);
    far = none_far (rewrites which asked) x.own given (call_rewrites which asked is);
  }

-- A pump.

pump_none : (before : ℕ) (r : Result ℕ PumpFault) (ls : List Line) → IsNoDelivery (pumped before r ls)
pump_none before (Ok count) ls = tt
pump_none before (Err fault) ls = tt

pub pump_acted : (which : Which) (x y : Side) (now : ℕ) (strings strings_now : List (List ℕ)) (given : Reply) (d e : View) (stopped : Bool) → IsHeldOn d x.own
    → IsPumpTurn which x y d e stopped strings strings_now (answers_to which x (network.Pump (index_of which) now)) given
    → IsActed which x y d e stopped (event.Pump (index_of which) now) strings strings_now given
pump_acted which x y now strings strings_now given d e stopped held t = record {
  step = record {
    choice = t.choice;
    may = t.may;
    reply = t.reply;
    network = t.network;
    counted = t.counted;
    posted = t.posted;
    writable = t.writable;
    within = t.within;
  };
  held = t.held held;
  beside = t.beside;
  faults = alone_so which (event.Pump (index_of which) now) stopped d.faults e.faults given (same_self which)
      (faults_told (event.Pump (index_of which) now) stopped d.faults e.faults (told (answers_to which x (network.Pump (index_of which) now) t.choice).reply) given t.reply
      (faults_so (event.Pump (index_of which) now) stopped d.faults e.faults (λ how so. so) (answers_to which x (network.Pump (index_of which) now) t.choice).reply
      (none_delivered (failure_in t.choice o) (pumped (length (network_at which x).notes) o.answer ls) (pump_none (length (network_at which x).notes) o.answer ls)) t.faults));
  records = tt;
  far = tt;
}
  where
    o : PumpOutcome
    o = pump (manager_at (network_at which x) (index_of which)) now

    ls : List Line
    ls = lines_at (index_of which) o (course_from (network_at which x))

own_at : (which : Which) (x : Side) → manager_at (network_at which x) (index_of which) ≡ seated x.own
own_at Alpha x = refl
own_at Beta x = refl

-- A restart.

start_faults : (which : Which) (pick : Pick) (stopped : Bool) (before after : ℕ) (n : Network) (i : ℕ) (choice : Choice) → FailsInStart before after (step n None (network.Restart i) choice).reply
    → FaultsGo (event.Restart (index_of which) pick) stopped before after (failures_in_told (told (step n None (network.Restart i) choice).reply))
start_faults which pick stopped before after n i choice = at choice
  where
    opened_so : (b : Bool) → FailsInStart before after (cond b answer.OpenedLost answer.Opened)
        → FaultsGo (event.Restart (index_of which) pick) stopped before after (failures_in_told (told (cond b answer.OpenedLost answer.Opened)))
    opened_so true same = same
    opened_so false same = same

    at : (choice : Choice) → FailsInStart before after (step n None (network.Restart i) choice).reply
        → FaultsGo (event.Restart (index_of which) pick) stopped before after (failures_in_told (told (step n None (network.Restart i) choice).reply))
    at Unread rose = (rose, refl)
    at Kept same = same
    at choice same = opened_so (is_down (manager_at (ended i n) i)) same

pub start_acted : (which : Which) (x y : Side) (pick : Pick) (strings : List (List ℕ)) → IsWithin strings → (given : Reply) (d e : View) (stopped : Bool)
    → IsStarted which x y d e given → IsActed which x y d e stopped (event.Restart (index_of which) pick) strings strings given
start_acted which x y pick strings within given d e stopped t = record {
  step = record {
    choice = t.choice;
    may = t.may;
    reply = t.reply;
    network = t.network;
    counted = t.counted;
    posted = none_posted strings (answers_to which x (network.Restart (index_of which)) t.choice).after.sent t.sent;
    writable = none_written (answers_to which x (network.Restart (index_of which)) t.choice).after.sent t.sent;
    within = within;
  };
  held = t.held;
  beside = t.beside;
  faults = alone_so which (event.Restart (index_of which) pick) stopped d.faults e.faults given (same_self which)
      (faults_told (event.Restart (index_of which) pick) stopped d.faults e.faults (told (answers_to which x (network.Restart (index_of which)) t.choice).reply) given t.reply
      (start_faults which pick stopped d.faults e.faults (network_at which x) (index_of which) t.choice t.faults));
  records = subst (λ (b : Bool). RecordsGo (cond b (Restarts pick) LeavesIt) given (records_of x.own) (records_of y.own)) (sym (same_self which)) t.records;
  far = tt;
}

-- A checkpoint.

checkpoint_none : (n : Network) (i : ℕ) (choice : Choice) → IsNoDelivery (step n None (network.Checkpoint i) choice).reply
checkpoint_none n i choice = let outcome = checkpoint (manager_at n i) (is_far choice) in none_delivered (failure_in choice outcome) (answer.Checkpointed outcome.answer) tt

pub rewrite_acted : (which : Which) (x y : Side) (strings : List (List ℕ)) → IsWithin strings → (given : Reply) (d e : View) (stopped : Bool) → IsHeldOn d x.own
    → IsRewriteTurn which x y d e stopped given → IsActed which x y d e stopped (event.Checkpoint (index_of which)) strings strings given
rewrite_acted which x y strings within given d e stopped held r = record {
  step = record {
    choice = t.choice;
    may = subst (λ (k : ℕ). may_rewrite (network_at which x) (index_of which) k t.choice ≡ true) (sym (own_count which x)) t.may;
    reply = t.reply;
    network = t.network;
    counted = t.counted;
    posted = none_posted strings (answers t.choice).after.sent t.sent;
    writable = none_written (answers t.choice).after.sent t.sent;
    within = within;
  };
  held = t.held held;
  beside = t.beside;
  faults = alone_so which (event.Checkpoint (index_of which)) stopped d.faults e.faults given (same_self which)
      (faults_told (event.Checkpoint (index_of which)) stopped d.faults e.faults (told (answers t.choice).reply) given t.reply
      (faults_so (event.Checkpoint (index_of which)) stopped d.faults e.faults (λ how so. so) (answers t.choice).reply (checkpoint_none (network_at which x) (index_of which) t.choice) t.faults));
  records = tt;
  far = subst (λ (b : Bool). FarGoes b x.own given) (sym (same_self which)) r.far;
}
  where
    answers : Choice → Answer
    answers = answers_to which x (network.Checkpoint (index_of which))

    t : IsTurnWhere (may_rewrite (network_at which x) (index_of which) (records_of x.own)) which x y d e stopped answers given
    t = r.turn

-- An arming.

-- Events that call no disk.

module _ (which : Which) (x y : Side) (strings : List (List ℕ)) (within : IsWithin strings) (given : Reply) (d : View) (stopped : Bool) (held : IsHeldOn d x.own) where
  abbrev n : Network
  n = network_at which x

  quiet_acted : (asked : Event) → may_at n (counts_at which x) None (event_of asked) Well ≡ true → calls_disk_of which asked ≡ false → switching which asked ≡ LeavesIt → rewrites which asked ≡ false
      → IsQuiet which x y (step n None (event_of asked) Well) given → IsActed which x y d d stopped asked strings strings given
  quiet_acted asked may none leaves unwritten t = record {
    step = record {
      choice = Well;
      may = may;
      reply = t.reply;
      network = t.network;
      counted = t.counted;
      posted = none_posted strings (step n None (event_of asked) Well).after.sent t.sent;
      writable = none_written (step n None (event_of asked) Well).after.sent t.sent;
      within = within;
    };
    held = stored_held d x.own y.own t.own held;
    beside = t.beside;
    faults = subst (λ (b : Bool). FaultsGo asked stopped d.faults d.faults (cond b (failures_of given) [])) (sym none) refl;
    records = leaves_records (switching which asked) given (records_of x.own) (records_of y.own) leaves;
    far = none_far (rewrites which asked) x.own given unwritten;
  }

  pub disconnect_acted : IsQuiet which x y (step n None (network.Disconnect 0) Well) given → IsActed which x y d d stopped (event.Disconnect 0) strings strings given
  disconnect_acted = quiet_acted (event.Disconnect 0) refl refl refl refl

  pub resend_acted : IsQuiet which x y (step n None (network.Resend (index_of which)) Well) given → IsActed which x y d d stopped (event.Resend (index_of which)) strings strings given
  resend_acted = quiet_acted (event.Resend (index_of which)) refl refl refl refl

  pub drop_acted : (k : ℕ) → IsQuiet which x y (step n None (network.Drop k) Well) given → IsActed which x y d d stopped (event.Drop k) strings strings given
  drop_acted k = quiet_acted (event.Drop k) refl refl refl refl

-- What the event is.

pub acted_as : (which : Which) (x y : Side) (d e : View) (stopped : Bool) (strings strings_now : List (List ℕ)) (given : Reply) (asked b : Event) → asked ≡ b
    → IsActed which x y d e stopped b strings strings_now given → IsActed which x y d e stopped asked strings strings_now given
acted_as which x y d e stopped strings strings_now given asked b is = subst (λ (a : Event). IsActed which x y d e stopped a strings strings_now given) (sym is)

pub disconnect_is : (which : Which) (m : ℕ) (asked : Event) → asked ≡ event.Disconnect m → IsOf which asked → asked ≡ event.Disconnect 0
disconnect_is which m asked is of = is ∙ ap (λ (m : ℕ). event.Disconnect m) (subst (IsOf which) is of)

pub resend_is : (which : Which) (m : ℕ) (asked : Event) → asked ≡ event.Resend m → IsOf which asked → asked ≡ event.Resend (index_of which)
resend_is which m asked is of = is ∙ ap (λ (m : ℕ). event.Resend m) (subst (IsOf which) is of)

pub pump_is : (which : Which) (m : ℕ) (now : ℕ) (asked : Event) → asked ≡ event.Pump m now → IsOf which asked → asked ≡ event.Pump (index_of which) now
pump_is which m now asked is of = is ∙ ap (λ (m : ℕ). event.Pump m now) (subst (IsOf which) is of)

pub restart_is : (which : Which) (m : ℕ) (pick : Pick) (asked : Event) → asked ≡ event.Restart m pick → IsOf which asked → asked ≡ event.Restart (index_of which) pick
restart_is which m pick asked is of = is ∙ ap (λ (m : ℕ). event.Restart m pick) (subst (IsOf which) is of)

pub checkpoint_is : (which : Which) (m : ℕ) (asked : Event) → asked ≡ event.Checkpoint m → IsOf which asked → asked ≡ event.Checkpoint (index_of which)
checkpoint_is which m asked is of = is ∙ ap (λ (m : ℕ). event.Checkpoint m) (subst (IsOf which) is of)

pub is_call : (which : Which) (asked : Event) → ((m : ℕ) → asked ≡ event.Disconnect m → ⊥) → ((m : ℕ) → asked ≡ event.Resend m → ⊥) → ((k : ℕ) → asked ≡ event.Drop k → ⊥)
    → ((m now : ℕ) → asked ≡ event.Pump m now → ⊥) → ((m call : ℕ) (mode : Mode) → asked ≡ event.Arm m call mode → ⊥)
    → ((m : ℕ) (pick : Pick) → asked ≡ event.Restart m pick → ⊥) → ((m : ℕ) → asked ≡ event.Checkpoint m → ⊥) → IsOf which asked → IsCallOf which asked
is_call which (event.Disconnect m) a b c d e f g is = absurd (a m refl)
is_call which (event.Pump m now) a b c d e f g is = absurd (d m now refl)
is_call which (event.Drop k) a b c d e f g is = absurd (c k refl)
is_call which (event.Resend m) a b c d e f g is = absurd (b m refl)
is_call which (event.Arm m call mode) a b c d e f g is = absurd (e m call mode refl)
is_call which (event.Restart m pick) a b c d e f g is = absurd (f m pick refl)
is_call which (event.Checkpoint m) a b c d e f g is = absurd (g m refl)
is_call which asked a b c d e f g is = is

pub call_switch : (which : Which) (asked : Event) → IsCallOf which asked → (armed : Option (ℕ × Mode)) (s t : Switch) → t ≡ s → SwitchGoes (switching which asked) armed s t
call_switch which asked is armed s t same = subst (λ (x : Switching). SwitchGoes x armed s t) (sym (call_leaves which asked is)) same

-- and nothing is said of what a restart left
pub call_left : (which : Which) (asked : Event) → IsCallOf which asked → (d : View) → StaysAsLeft (switching which asked) d
call_left which asked is d = subst (λ (x : Switching). StaysAsLeft x d) (sym (call_leaves which asked is)) tt

pub ok_is_full : (given : Reply) → ◌≡◌ {A = Result Reply PostFault} (Ok given) (Err post.NetFull) → ⊥
ok_is_full given same = let none : ⊥ = cc in none

-- what follows of a result
pub if_ok : {A E : Type 0} {P Q : A → Type 0} (q : Result A E) → ((x : A) → P x → Q x) → IfOk q P → IfOk q Q
if_ok (Ok x) f h = f x h
if_ok (Err e) f h = h
