-- What was committed is decided, or expired, behind the meetings that bring all over.
use Rattle.std.proofs.Common.{◌≡◌, ℕ, zero, suc, ◌+◌, ◌≤◌, ◌==◌, ◌||◌, ◌⊎◌, arith, inl, inr, Bool, true, false, nat_lt, List, [], ◌∷◌, Some, refl, sym, ap, subst, ◌∙◌}
use Rattle.std.proofs.lemmas.Bool.Decides.{nat_tests}
use Rattle.std.proofs.lemmas.Bool.{and_from, lt-ltb, true≢false}
use Rattle.std.specs.List.{flat_map, list_any, range_with_len}
use Rattle.std.specs.Option.{option_map_or}
use Rattle.std.specs.Prelude.{length, map, not, slice_get}
use Rattle.mqb_base.specs.declared.ids.Identity.{Identity}
use Rattle.mqb_base.specs.declared.message.Message.{Message}
use Rattle.mqb_exactly_once.proofs.Members.{any_from_In}
use Rattle.mqb_exactly_once.specs.Words.{In}
use Rattle.mqb_exactly_once.specs.World.{Commitment}
use Rattle.mqb_history.specs.Acked.{AreWaitingUntilDecided, WaitsAbove, WasDecidedThere}
use Rattle.mqb_history.specs.Decided.{written_of}
use Rattle.mqb_history.specs.Expired.{expiries_told}
use Rattle.mqb_history.specs.Laws.{AlwaysWaitingUntilDecided}
use Rattle.mqb_history.specs.Leading.{AreRowsLed, RowsAreLed}
use Rattle.mqb_model.specs.declared.target.Target.TheVariants.{AtPeer}
use Rattle.mqb_model.specs.managers.Readers.{awaits, has_plain, is_outstanding_to}
use Rattle.mqb_model.specs.state.Resolving.{peer_known, resolved}
use Rattle.mqb_model.specs.state.State.{State}
use Rattle.mqb_network.specs.Courses.{Course}
use Rattle.mqb_network.specs.Laws.{Always, AreApart, lines_written}
use Rattle.mqb_network.specs.Network.{manager_at}
use Rattle.mqb_network.specs.Runs.{after_run, course_after}
use Rattle.mqb_network.specs.Scripts.{well}
use Rattle.mqb_orders.specs.Rows.{Row, has_unacknowledged}
use Rattle.mqb_orders.specs.declared.kept.Kept.{Kept}
use Rattle.mqb_plain.specs.Lists.{messages_of}
use Rattle.mqb_plain.specs.Plain.{PlainLists}
use Rattle.mqb_plain.specs.declared.outgoing.Outgoing.{Outgoing}
use Rattle.mqb_law_meetings.specs.Drained.{IsDrained, has_for}
use Rattle.mqb_law_meetings.specs.Meetings.{meeting, meetings}
use Rattle.mqb_law_meetings.specs.Recovery.{AreDelivered, Delivers, Recovers}
use Rattle.mqb_law_meetings.specs.Rounds.{AllDeliver, AllRecover, all_met, behind_round, pairs, work_of_all}
use Rattle.mqb_law_meetings.specs.Work.{met, work}
use Rattle.mqb_law_meetings.proofs.Agreeing.{now}
use Rattle.mqb_law_meetings.proofs.Lists.{same_number}
use Rattle.mqb_law_meetings.proofs.Pairs.{round_split}
use Rattle.mqb_law_meetings.proofs.Recovering.{meeting_drafted, meeting_runs, restarts_drafted, starts_drafted}
use Rattle.mqb_law_meetings.proofs.Running.{InRun, run_on}

-- The meetings go on a run.
pub meetings_run : (known : List Identity) (a b moment count : ℕ) (c : Course) → InRun known c → InRun known (course_after c (map well (meetings a b moment count)))
meetings_run known a b moment zero c r = r
meetings_run known a b moment (suc n) c r = meetings_run known a b moment n (course_after c (map well (meeting a b moment)))
    (run_on known c (map well (meeting a b moment)) r (meeting_runs c a b moment) (meeting_drafted a b moment))

-- a law of all runs, in a course of one
pub of_run : (P : Course → Type 0) → Always P → (known : List Identity) → AreApart known → (c : Course) → InRun known c → P c
of_run P always known apart c r = subst P (sym r.is) (now P (after_run known r.moves) (always known r.moves apart r.run (λ j. false)))

-- A row to a peer that keeps a number above the acknowledged one is outstanding.
pub outstanding : (c : Course) (a b k : ℕ) → peer_known (manager_at c.network a).state (manager_at c.network b).state.identity.guid ≡ Some k → (row : Row) → In row (manager_at c.network a).state.outs → row.peer ≡ k
    → (x : Kept) → In x row.kept → nat_lt row.acked x.number ≡ true → has_for c.network a b ≡ true
outstanding c a b k knows row there peer x kept above = ap (λ o. option_map_or (is_outstanding_to s) o false) knows
    ∙ ap (λ t. option_map_or has_plain (slice_get s.plain k) false || t) (any_from_In (awaits k) row s.outs there waits) ∙ or_true (option_map_or has_plain (slice_get s.plain k) false)
  where
    s : State
    s = (manager_at c.network a).state

    waits : awaits k row ≡ true
    waits = and_from (row.peer == k) (has_unacknowledged row) (ap (λ n. n == k) peer ∙ same_number k) (any_from_In (λ (y : Kept). nat_lt row.acked y.number) x row.kept kept above)

    or_true : (t : Bool) → (t || true) ≡ true
    or_true true = refl
    or_true false = refl

-- So are plain messages for it.
pub plain_outstanding : (c : Course) (a b k : ℕ) → peer_known (manager_at c.network a).state (manager_at c.network b).state.identity.guid ≡ Some k → (lists : PlainLists) → slice_get (manager_at c.network a).state.plain k ≡ Some lists
    → (m : Message) → In m (messages_of lists.recoverable) → has_for c.network a b ≡ true
plain_outstanding c a b k knows lists there m inside = ap (λ o. option_map_or (is_outstanding_to s) o false) knows
    ∙ ap (λ o. option_map_or has_plain o false || list_any (awaits k) s.outs) there ∙ ap (λ t. not t || list_any (awaits k) s.outs) (some_wait lists.recoverable inside)
  where
    s : State
    s = (manager_at c.network a).state

    more : (n : ℕ) → 1 ≤ n → (n == 0) ≡ false
    more n le = grind (arith, nat_tests)

    some_wait : (os : List Outgoing) → In m (messages_of os) → (length os + length lists.express == 0) ≡ false
    some_wait [] i = absurd i
    some_wait (o ∷ os) i = more (length (o ∷ os) + length lists.express) (omega arith)

-- And a message of a row that waits.
module _ (c : Course) (a b k : ℕ) (m : Commitment) (rows : AreRowsLed c) (leads : resolved (manager_at c.network a).state m.message.destination ≡ AtPeer k)
    (knows : peer_known (manager_at c.network a).state (manager_at c.network b).state.identity.guid ≡ Some k) (w : WaitsAbove (manager_at c.network a).state m) where
  abbrev s : State
  s = (manager_at c.network a).state

  peer_is : w.row.peer ≡ k
  peer_is = let same : AtPeer w.row.peer ≡ AtPeer k = sym (rows a w.row w.there) ∙ ap (resolved s) w.destination ∙ leads in cc

  has : has_for c.network a b ≡ true
  has = outstanding c a b k knows w.row w.there peer_is (record { number = m.position.number; message = m.message }) w.kept (lt-ltb w.row.acked m.position.number w.above)

-- Two that are drained have delivered what the one committed for the other.
delivered : AlwaysWaitingUntilDecided → RowsAreLed → (known : List Identity) → AreApart known → (z : Course) → InRun known z → (a b : ℕ) → IsDrained z.network a b → AreDelivered z a b
delivered waiting led known apart z in_run a b drained m k committed leads knows = by (of_run AreWaitingUntilDecided waiting known apart z in_run a m committed)
  where
    by : WaitsAbove (manager_at z.network a).state m ⊎ (WasDecidedThere z a m ⊎ In m.position (expiries_told (lines_written (written_of a z.written))))
        → WasDecidedThere z a m ⊎ In m.position (expiries_told (lines_written (written_of a z.written)))
    by (inl above) = absurd (true≢false (sym (has z a b k m (of_run AreRowsLed led known apart z in_run) leads knows above) ∙ drained.first))
    by (inr rest) = rest

pub delivers : Recovers → AlwaysWaitingUntilDecided → RowsAreLed → Delivers
delivers recovers waiting led known before ms a b moment order drafted run in_a in_b differ starts stamps other_stamps =
    delivered waiting led known order.apart (met c a b moment) (meetings_run known a b moment (work c.network a b) c in_run) a b
    (recovers known before ms a b moment order drafted run in_a in_b differ starts stamps other_stamps)
  where
    c : Course
    c = course_after (after_run known before) ms

    in_run : InRun known c
    in_run = run_on known (after_run known before) ms (record { moves = before; is = refl; drafted = drafted; run = run }) starts.run (starts_drafted ms a b starts.events)

-- A round goes on a run.
round_runs : (known : List Identity) (moment count : ℕ) (ps : List (ℕ × ℕ)) (c : Course) → InRun known c → InRun known (course_after c (map well (flat_map (λ (p : ℕ × ℕ). meetings p.0 p.1 moment count) ps)))
round_runs known moment count [] c r = r
round_runs known moment count (p ∷ ps) c r = subst (InRun known) (sym (round_split c p ps moment count))
    (round_runs known moment count ps (course_after c (map well (meetings p.0 p.1 moment count))) (meetings_run known p.0 p.1 moment count c r))

pub all_deliver : AllRecover → AlwaysWaitingUntilDecided → RowsAreLed → AllDeliver
all_deliver recover waiting led known before ms moment order drafted run starts stamps a b in_a in_b differ =
    delivered waiting led known order.apart (all_met c moment)
    (round_runs known moment (work_of_all c.network) (pairs (length first.network.managers)) first (round_runs known moment (work_of_all c.network) (pairs (length c.network.managers)) c in_run)) a b
    (recover known before ms moment order drafted run starts stamps a b in_a in_b differ)
  where
    c : Course
    c = course_after (after_run known before) ms

    first : Course
    first = behind_round (work_of_all c.network) moment c

    in_run : InRun known c
    in_run = run_on known (after_run known before) ms (record { moves = before; is = refl; drafted = drafted; run = run }) starts.run
        (restarts_drafted ms (range_with_len 0 (length (after_run known before).network.managers)) starts.events)
