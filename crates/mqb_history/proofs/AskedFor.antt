-- What is committed in a run is what its events ask for.
use Rattle.std.proofs.Common.{refl, subst, inl, inr}
use Rattle.std.specs.List.{AllByRecursion, cons_option}
use Rattle.std.specs.Prelude.{[], ◌==◌, ◌∷◌, ◌≡◌, ◌⊎◌, Bool, IfSome, List, None, Option, Some, cond, false, true, ℕ}
use Rattle.mqb_base.specs.declared.ids.Identity.{Identity}
use Rattle.mqb_base.specs.declared.message.Message.{Message}
use Rattle.mqb_exactly_once.specs.Words.{In}
use Rattle.mqb_exactly_once.specs.World.{Commitment}
use Rattle.mqb_model.specs.declared.target.Target.{Target}
use Rattle.mqb_model.specs.declared.target.Target.TheVariants.{AtPeer, Here, Nowhere}
use Rattle.mqb_model.specs.records.Commit.{send_made, sends_of, takes_made}
use Rattle.mqb_model.specs.records.Record.{Record}
use Rattle.mqb_model.specs.records.Record as entry
use Rattle.mqb_model.specs.rules.Effects.{Effect}
use Rattle.mqb_model.specs.rules.Sends.{journalled}
use Rattle.mqb_model.specs.state.Resolving.{resolved}
use Rattle.mqb_model.specs.state.State.{State}
use Rattle.mqb_network.specs.Choices.{Failure}
use Rattle.mqb_network.specs.Courses.{Course, Written}
use Rattle.mqb_network.specs.Events.{Event}
use Rattle.mqb_network.specs.Events as event
use Rattle.mqb_network.specs.Laws.{AreApart}
use Rattle.mqb_network.specs.Network.{manager_at}
use Rattle.mqb_network.specs.Doubts.{settled}
use Rattle.mqb_network.specs.Runs.{Move, after_run}
use Rattle.mqb_history.specs.Asked.{CommittedIsAsked, IsAskedFor}
use Rattle.mqb_model.specs.calls.Call.{Asks, Call, Commit, Hear, Pump, outcome_of}
use Rattle.mqb_history.specs.Changes.{Calls, Change, Hears, Pumps}
use Rattle.mqb_history.specs.Committed.{commitment_at, commitments, commitments_in, commitments_of}
use Rattle.mqb_history.specs.Decided.{written_of}
use Rattle.mqb_history.specs.Orderly.{IsOrderly}
use Rattle.mqb_history.proofs.Asking.{IsOfOps}
use Rattle.mqb_history.proofs.Between.{in_either}
use Rattle.mqb_history.proofs.Each.{EachRecord, OfChange, each_begins, each_change}
use Rattle.mqb_history.proofs.Keeping.{IsClosedUnder, IsGiven, AsksNone}
use Rattle.mqb_history.proofs.Lists.{all_weaker, equal_numbers}
use Rattle.mqb_history.proofs.Orderly.{begins_orderly, change_orderly}
use Rattle.mqb_history.proofs.Recorded.{RecordOf, calls_are_of}
use Rattle.mqb_history.proofs.Runs.{always_given}

-- the messages of a record of a manager are asked for
abbrev AsksFor : List Move → ℕ → Record → Type 0
AsksFor ms i (entry.Commit now ops) = AllByRecursion (IsAskedFor ms i) (sends_of ops)
AsksFor ms i _ = Unit {0}

-- what a manager is asked for is one of these moves
abbrev pub IsMoveOf : List Move → Change → Type 0
IsMoveOf ms (Calls i (Asks request) failure) = (m : Move) × In m ms × (m.event ≡ event.Asks i request)
IsMoveOf ms _ = Unit {0}

pub moves_given : (ms : List Move) (m : Move) → In m ms → (e : Event) → m.event ≡ e → IsGiven (IsMoveOf ms) e
moves_given ms m there (event.Asks i request) same = λ failure. (m, there, same)
moves_given ms m there e same = tt

pub none_moves : (ms : List Move) (x : Change) → AsksNone x → IsMoveOf ms x
none_moves ms (Calls i (Asks request) failure) h = absurd h
none_moves ms x h = tt

-- the record of a call that is one of the moves, or commits nothing
pub commit_asks : (ms : List Move) (i : ℕ) (s : State) (call : Call) (failure : Option Failure) (ops : List _) → IsMoveOf ms (Calls i call failure) → (now : ℕ)
    → RecordOf s call (entry.Commit now ops) → AllByRecursion (IsAskedFor ms i) (sends_of ops)
commit_asks ms i s call failure ops move now h = all_weaker (IsOfOps h.now h.ops) (IsAskedFor ms i)
    (λ m g. record { move = given.0; now = h.now; ops = h.ops; parts = g.parts; there = given.1; asks = given.2; send = g.send; message = g.message }) (sends_of ops) h.asked
  where
    given : (m : Move) × In m ms × (m.event ≡ event.Asks i (Commit h.now h.ops))
    given = subst (λ x. IsMoveOf ms (Calls i x failure)) h.call_is move

record_asks : (ms : List Move) (i : ℕ) (s : State) (call : Call) (failure : Option Failure) (r : Record) → IsMoveOf ms (Calls i call failure) → RecordOf s call r → AsksFor ms i r
record_asks ms i s call failure (entry.Commit now ops) move h = commit_asks ms i s call failure ops move now h
record_asks ms i s call failure r move h = tt

call_asks : (ms : List Move) (c : Course) (i : ℕ) (call : Call) (failure : Option Failure) → IsMoveOf ms (Calls i call failure) → IfSome (outcome_of (manager_at c.network i) call).entry (AsksFor ms i)
call_asks ms c i call failure move = at (outcome_of (manager_at c.network i) call).entry (calls_are_of (manager_at c.network i) call).entry
  where
    at : (o : Option Record) → IfSome o (RecordOf (manager_at c.network i).state call) → IfSome o (AsksFor ms i)
    at None h = tt
    at (Some r) h = record_asks ms i (manager_at c.network i).state call failure r move h

change_asks : (ms : List Move) (c : Course) (x : Change) → IsMoveOf ms x → OfChange (AsksFor ms) c x
change_asks ms c (Calls i call failure) move = call_asks ms c i call failure move
change_asks ms c (Pumps i now failure) move = call_asks ms c i (Pump now) failure tt
change_asks ms c (Hears k now failure) move = λ note p e f. call_asks ms c note.receiver (Hear now p) failure tt
change_asks ms c x move = tt

asks_closed : (known : List Identity) (ms : List Move) → AreApart known → IsClosedUnder (IsMoveOf ms) known (λ c. IsOrderly known c × EachRecord (AsksFor ms) c)
asks_closed known ms apart = record {
  orderly = λ c h. h.0;
  others = none_moves ms;
  keeps = λ c x move may h. (change_orderly known c x apart may h.0, each_change (AsksFor ms) c x (change_asks ms c x move) h.1);
}

-- The law.

commits_asked : (ms : List Move) (i now : ℕ) (e : Effect) (xs : List Message) (x : Commitment) → AllByRecursion (IsAskedFor ms i) xs → In x (commitments_of now e xs) → IsAskedFor ms i x.message
commits_asked ms i now e [] x h inside = absurd inside
commits_asked ms i now e (m ∷ xs) x h inside = at (resolved e.state m.destination) inside (commits_asked ms i now (send_made now e m) xs x h.1)
  where
    at : (t : Target) → In x (cons_option (commitment_at now (journalled e.state m) t m) (commitments_of now (send_made now e m) xs))
        → (In x (commitments_of now (send_made now e m) xs) → IsAskedFor ms i x.message) → IsAskedFor ms i x.message
    at (AtPeer k) (inl e) rest = subst (λ (y : Commitment). IsAskedFor ms i y.message) e h.0
    at (AtPeer k) (inr g) rest = rest g
    at (Here queue) g rest = rest g
    at Nowhere g rest = rest g

record_asked : (ms : List Move) (i : ℕ) (s : State) (r : Record) (x : Commitment) → AsksFor ms i r → In x (commitments_in s r) → IsAskedFor ms i x.message
record_asked ms i s (entry.Commit now ops) x h inside = commits_asked ms i now (takes_made s now ops) (sends_of ops) x h inside
record_asked ms i s r x h inside = absurd inside

all_asked : (ms : List Move) (i : ℕ) (ws : List Written) (x : Commitment) → AllByRecursion (λ w. AsksFor ms w.by w.entry) ws → In x (commitments (written_of i ws)) → IsAskedFor ms i x.message
all_asked ms i [] x h inside = absurd inside
all_asked ms i (w ∷ ws) x h inside = at (w.by == i) (λ e. equal_numbers w.by i e) inside (all_asked ms i ws x h.1)
  where
    at : (b : Bool) → (b ≡ true → w.by ≡ i) → In x (commitments (cond b (w ∷ written_of i ws) (written_of i ws))) → (In x (commitments (written_of i ws)) → IsAskedFor ms i x.message)
        → IsAskedFor ms i x.message
    at false same g rest = rest g
    at true same g rest = by (in_either (commitments_in w.before w.entry) (commitments (written_of i ws)) x g)
      where
        by : In x (commitments_in w.before w.entry) ⊎ In x (commitments (written_of i ws)) → IsAskedFor ms i x.message
        by (inl d) = record_asked ms i w.before w.entry x (subst (λ k. AsksFor ms k w.entry) (same refl) h.0) d
        by (inr d) = rest d

pub committed_is_asked : CommittedIsAsked
committed_is_asked known ms apart run kept = λ i x inside. all_asked ms i (settled kept (after_run known ms)).written x
    (always_given (IsMoveOf ms) known (λ c. IsOrderly known c × EachRecord (AsksFor ms) c) (asks_closed known ms apart) ms (λ m there. moves_given ms m there m.event refl) run kept
    (begins_orderly known, each_begins (AsksFor ms) known)).1.written inside
