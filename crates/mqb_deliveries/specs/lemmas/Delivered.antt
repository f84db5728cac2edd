-- A packet that is delivered.
use Rattle.std.proofs.Common.{◌≡◌, ℕ, ◌+◌, Bool, true, false, cond, List, [], ◌++◌, Option, Some}
use Rattle.std.proofs.Common.{None, Result, Ok, Err, length, refl, sym, ap, subst, ◌∙◌, arith}
use Rattle.std.proofs.lemmas.List.{append-nil}
use Rattle.std.specs.Option.{option_map_or}
use Rattle.std.specs.List.{cons_option, list_any}
use Rattle.std.specs.Prelude.{◌&&◌, ◌==◌, IsSome, MatchOption, if◌then◌else◌, nat_lt, not}
use Rattle.mqb_base.specs.declared.heard.Heard.{Heard}
use Rattle.mqb_base.specs.declared.ledger.Line.{Line}
use Rattle.mqb_outside.specs.Disk.{View}
use Rattle.mqb_model.specs.calls.hear.Hear.{hear}
use Rattle.mqb_model.specs.calls.hear.Session.{HeardOutcome}
use Rattle.mqb_model.specs.declared.faults.HearFault.{HearFault}
use Rattle.mqb_model.specs.declared.faults.HearFault.TheVariants as fault
use Rattle.mqb_model.specs.managers.Outcomes.{answering, failed}
use Rattle.mqb_turns.specs.Moves.{choice_of}
use Rattle.mqb_network.specs.Answers.{Answer, lines_at, only}
use Rattle.mqb_network.specs.Changes.{ended, ended_by}
use Rattle.mqb_network.specs.Choices.{Choice, Failed, Failure, Stopped, Well}
use Rattle.mqb_network.specs.Choices.{choice_behind, failure_in}
use Rattle.mqb_network.specs.Courses.{Course, Written, called, called_unless, moved}
use Rattle.mqb_network.specs.Delivering.{Delivered, closes, deliver_packet, delivered}
use Rattle.mqb_network.specs.Delivering.{delivery_reply, heard_by, heard_with, passed, unheard}
use Rattle.mqb_network.specs.Events.{Deliver}
use Rattle.mqb_network.specs.Network.{Connection, Network, Note, connection_of, is_underway}
use Rattle.mqb_network.specs.Network.{manager_at, nobody, with_manager}
use Rattle.mqb_network.specs.Replies.{Delivery}
use Rattle.mqb_network.specs.Replies as network
use Rattle.mqb_network.specs.Runs.{may_fail}
use Rattle.mqb_outside.specs.Faults.{Rose}
use Rattle.mqb_packet.specs.declared.packet.Packet.{Packet}
use Rattle.mqb_posts.specs.Posting.{IsWithin}
use Rattle.mqb_queue.specs.Places.{numbered}
use Rattle.mqb_script.specs.declared.managers.Which.{Which}
use Rattle.mqb_turns.specs.mqb_seats.Called.{failure_of, how_by}
use Rattle.mqb_transcript.specs.declared.arrivals.Outcome.{Outcome}
use Rattle.mqb_transcript.specs.declared.arrivals.Outcome.TheVariants as outcome
use Rattle.mqb_transcript.specs.declared.replies.Reply.TheVariants as reply
use Rattle.mqb_turns.specs.Counts.{CountsGo, counts_at}
use Rattle.mqb_turns.specs.Passes.{IsPassed, course_in, touched}
use Rattle.mqb_turns.specs.Replies.{outcome_of, told}
use Rattle.mqb_turns.specs.Sides.{Side, network_at}
use Rattle.mqb_turns.specs.lemmas.Counting.{counts_same}
use Rattle.mqb_deliveries.specs.Delivers.{Delivers, delivered_at, outcome_reply}
use Rattle.mqb_deliveries.specs.Failing.{FailsAs, arrived, failure_told, failures_at, is_for}
use Rattle.mqb_deliveries.specs.Steps.{IsStep}
use Rattle.mqb_deliveries.specs.lemmas.Unsent.{none_posted, none_written}

-- The notes stay.

ended_notes : (i : ℕ) (n : Network) → (ended i n).notes ≡ n.notes
ended_notes i n = at (connection_of n i)
  where
    at : (o : Option Connection) → (option_map_or (ended_by n) o n).notes ≡ n.notes
    at None = refl
    at (Some d) = refl

called_notes : (i : ℕ) (o : HeardOutcome) (choice : Choice) (c : Course)
    → (called i o choice c).network.notes ≡ c.network.notes
called_notes i o choice c = at (failure_in choice o)
  where
    at : (f : Option Failure) → (called_unless i o f c).network.notes ≡ c.network.notes
    at None = refl
    at (Some how) = ended_notes i (with_manager c.network i (failed (manager_at c.network i) o))

heard_notes : (i : ℕ) (o : HeardOutcome) (choice : Choice) (c : Course) (b : Bool)
    → (cond b (moved (ended i) (called i o choice c)) (called i o choice c)).network.notes
    ≡ c.network.notes
heard_notes i o choice c true =
    ended_notes i (called i o choice c).network ∙ called_notes i o choice c
heard_notes i o choice c false = called_notes i o choice c

passed_notes : (note : Note) (p : Packet) (now : ℕ) (choice : Choice) (c : Course)
    → (passed note p now choice c).after.network.notes ≡ c.network.notes
passed_notes note p now choice c = at (is_underway c.network note)
  where
    o : HeardOutcome
    o = hear (manager_at c.network note.receiver) p now

    at : (b : Bool)
        → (cond b (heard_by note.receiver o choice c) (unheard choice c)).after.network.notes
        ≡ c.network.notes
    at true = heard_notes note.receiver o choice c (closes o.answer)
    at false = refl

-- Where no disk fails, none is told.

-- how a disk failed, as it is told of a delivery
abbrev told_of : Delivery → Option Failure
told_of delivery = failure_told (outcome_of delivery)

told_unheard : (how : Failure) → told_of (network.Unheard how) ≡ Some how
told_unheard Stopped = refl
told_unheard Failed = refl

well_heard : (r : Result Heard HearFault) (ls : List Line) → told_of (heard_with r ls) ≡ None
well_heard (Ok heard) ls = refl
well_heard (Err why) ls = refl

well_told : (note : Note) (p : Packet) (now : ℕ) (c : Course)
    → told_of (passed note p now Well c).delivery ≡ None
well_told note p now c = at (is_underway c.network note)
  where
    o : HeardOutcome
    o = hear (manager_at c.network note.receiver) p now

    at : (b : Bool)
        → told_of (cond b (heard_by note.receiver o Well c) (unheard Well c)).delivery ≡ None
    at true = well_heard o.answer (lines_at note.receiver o c)
    at false = refl

-- the choice that shows how a disk behaved
fails_by : (o : HeardOutcome) (f : Option Failure) → (IsSome f → o.touches ≡ true)
    → failure_in (choice_of f) o ≡ f
fails_by o None touches = refl
fails_by o (Some how) touches = ap (λ (c : Bool). if c then Some how else None) (touches refl)

-- What is passed to its receiver is delivered.
module _ (which : Which) (x y : Side) (d e : View) (stopped : Bool) (note : Note) (p : Packet)
    (k now : ℕ) (given : Outcome)
    (is : numbered (network_at which x).notes k ≡ Some note)
    (one : IsPassed which x y d e stopped note p now given) where
  abbrev n : Network
  n = network_at which x

  at : (choice : Choice) (sent : List Packet) (before : List Written)
      → delivered_at n k p now choice sent before
      ≡ passed note p now choice (course_in n sent before)
  at choice sent before =
      ap (λ (o : Option Note). option_map_or (λ y. passed y p now choice (course_in n sent before))
      o (unheard choice (course_in n sent before))) is

  -- what the pass says of the disk
  abbrev FailsBy : Option Failure → Type 0
  FailsBy f = MatchOption f (e.faults ≡ d.faults) (λ how. Rose d.faults e.faults
      × (how ≡ failure_of (how_by stopped)) × (one.delivery ≡ network.Unheard how))

  -- the disk failed where that is told
  failure_is : failure_told given ≡ one.failure
  failure_is = by one.failure refl
    where
      by : (f : Option Failure) → one.failure ≡ f → failure_told given ≡ f
      by None none = ap failure_told (sym one.told)
          ∙ ap (λ (q : Delivered). told_of q.delivery) (sym (one.passes Well (sym none) [] []))
          ∙ well_told note p now (course_in n [] [])
      by (Some how) some = let facts : FailsBy (Some how) = subst FailsBy some one.faults in
          ap failure_told (sym one.told) ∙ ap told_of facts.2 ∙ told_unheard how

  chosen : failure_in (choice_of one.failure) one.outcome ≡ one.failure
  chosen = fails_by one.outcome one.failure one.touches

  pub delivers_so :
      Delivers n (counts_at which x) (network_at which y) (counts_at which y) k p now given
  delivers_so = record {
    delivery = one.delivery;
    outcome = one.outcome;
    written = one.written;
    told = one.told;
    passes = λ choice fails sent before. at choice sent before
        ∙ one.passes choice (fails ∙ failure_is) sent before;
    would = λ sent before. ap (λ (q : Delivered). length q.after.written) (at Well sent before)
        ∙ one.would sent before;
    touches = λ some. one.touches (subst (λ (o : Option Failure). IsSome o) failure_is some);
    counted = one.counted;
    notes = sym (ap (λ (q : Delivered). q.after.network.notes)
        (one.passes (choice_of one.failure) chosen [] []))
        ∙ passed_notes note p now (choice_of one.failure) (course_in n [] []);
    idle = λ none. ((one.idle none).0, failure_is ∙ (one.idle none).1);
    stays = one.stays;
    cut = λ some. one.cut (subst (λ (o : Option Failure). IsSome o) failure_is some);
  }

  -- the receiver's disk failed as is told
  pub disk_fails : (notes : List Note) (i : ℕ) → is_for notes i k ≡ true
      → FailsAs (failures_at notes i (arrived k (Some given))) stopped d.faults e.faults
  disk_fails notes i mine = subst (λ (b : Bool). FailsAs
      (cons_option (cond b (failure_told given) None) []) stopped d.faults e.faults) (sym mine)
      (subst (λ (f : Option Failure). FailsAs (cons_option f []) stopped d.faults e.faults)
      (sym failure_is) (by one.failure one.faults))
    where
      by : (f : Option Failure) → FailsBy f → FailsAs (cons_option f []) stopped d.faults e.faults
      by None same = same
      by (Some how) facts = (facts.0, facts.1)

-- The disk of another manager did not.
pub others_fail : (notes : List Note) (i k : ℕ) (given : Option Outcome) (stopped : Bool)
    (before : ℕ) → is_for notes i k ≡ false
    → FailsAs (failures_at notes i (arrived k given)) stopped before before
others_fail notes i k None stopped before other = refl
others_fail notes i k (Some given) stopped before other = subst (λ (b : Bool). FailsAs
    (cons_option (cond b (failure_told given) None) []) stopped before before) (sym other) refl

-- A packet that is not underway is gone.
module _ (n : Network) (counts : ℕ → ℕ) (note : Note) (k : ℕ) (p : Packet) (now : ℕ)
    (is : numbered n.notes k ≡ Some note) (gone : is_underway n note ≡ false) where
  -- what calls no disk
  abbrev idle_as : HeardOutcome
  idle_as = answering nobody (Err fault.NotLinked)

  left_is : (choice : Choice) → choice ≡ choice_behind choice idle_as
  left_is Well = refl
  left_is choice = refl

  unheard_so : (choice : Choice) (sent : List Packet) (before : List Written)
      → delivered_at n k p now choice sent before ≡ unheard choice (course_in n sent before)
  unheard_so choice sent before =
      ap (λ (o : Option Note). option_map_or (λ y. passed y p now choice (course_in n sent before))
      o (unheard choice (course_in n sent before))) is
      ∙ ap (λ (b : Bool). cond b (heard_by note.receiver (hear (manager_at n note.receiver) p now)
      choice (course_in n sent before)) (unheard choice (course_in n sent before))) gone

  abbrev gone_so : Choice → List Packet → List Written → Delivered
  gone_so choice sent ws =
      record { delivery = network.Gone; after = course_in n sent ws; left = choice }

  pub gone_delivers : Delivers n counts n counts k p now outcome.Gone
  gone_delivers = record {
    delivery = network.Gone;
    outcome = idle_as;
    written = [];
    told = refl;
    passes = λ choice none sent before. unheard_so choice sent before
        ∙ ap (λ (ws : List Written). gone_so choice sent ws) (sym (append-nil before))
        ∙ ap (λ (l : Choice). gone_so l sent (before ++ [])) (left_is choice);
    would = λ sent before.
        ap (λ (q : Delivered). length q.after.written) (unheard_so Well sent before) ∙ omega arith;
    touches = λ some. absurd (let none : ⊥ = cc in none);
    counted = counts_same counts;
    notes = refl;
    idle = λ _. (refl, refl);
    stays = λ _. refl;
    cut = λ some. absurd (let none : ⊥ = cc in none);
  }

-- nothing is underway, where no connection stands
pub never_underway : (n : Network) (note : Note) → is_underway n note ≡ true
    → n.connections ≡ [] → ⊥
never_underway n note is none = at note.dropped (sym (ap (λ (cs : List Connection). not note.dropped
    && list_any (λ (c : Connection). c.number == note.connection) cs) none) ∙ is)
  where
    at : (b : Bool) → (not b && false) ≡ true → ⊥
    at true is = let no : ⊥ = cc in no
    at false is = let no : ⊥ = cc in no

-- Alone, that is a step.

reply_so : (delivery : Delivery)
    → told (delivery_reply delivery) ≡ Ok (outcome_reply (outcome_of delivery))
reply_so network.Gone = refl
reply_so (network.Unheard Stopped) = refl
reply_so delivery = refl

module _ (n : Network) (counts : ℕ → ℕ) (n_now : Network) (counts_now : ℕ → ℕ) (k : ℕ) (p : Packet)
    (now : ℕ) (given : Outcome) (strings : List (List ℕ)) (within : IsWithin strings)
    (some : IsSome (numbered n.notes k))
    (one : Delivers n counts n_now counts_now k p now given) where
  -- the answer of the event, whose packet has a note
  abbrev answers : Choice → Answer
  answers choice = deliver_packet (numbered n.notes k) (Some p) now choice (course_in n [] [])

  answers_are : (choice : Choice) → answers choice ≡ delivered (delivered_at n k p now choice [] [])
  answers_are choice = at (numbered n.notes k) some
    where
      at : (o : Option Note) → IsSome o → deliver_packet o (Some p) now choice (course_in n [] [])
          ≡ delivered (option_map_or (λ note. passed note p now choice (course_in n [] [])) o
          (unheard choice (course_in n [] [])))
      at (Some note) there = refl
      at None there = absurd (let none : ⊥ = cc in none)

  may_by : (f : Option Failure) → (IsSome f → one.outcome.touches ≡ true)
      → may_fail (length (answers Well).after.written) (choice_of f) ≡ true
  may_by None touches = refl
  may_by (Some how) touches =
      ap (λ (a : Answer). nat_lt 0 (length a.after.written)) (answers_are Well)
      ∙ ap (nat_lt 0) (one.would [] [])
      ∙ ap (λ (b : Bool). nat_lt 0 (0 + touched b)) (touches refl)

  abbrev shown : Choice
  shown = choice_of (failure_told given)

  comes_to : answers shown ≡ record {
    reply = delivery_reply one.delivery;
    after = course_in n_now [] ([] ++ one.written);
  }
  comes_to = answers_are shown ∙ ap delivered
      (one.passes shown (fails_by one.outcome (failure_told given) one.touches) [] [])

  pub deliver_step : IsStep n counts (Some p) (Deliver k now) n_now counts_now strings strings
      (outcome_reply given)
  deliver_step = record {
    choice = shown;
    may = may_by (failure_told given) one.touches;
    reply = ap (λ (a : Answer). told a.reply) comes_to ∙ reply_so one.delivery
        ∙ ap (λ (o : Outcome). Ok (outcome_reply o)) one.told;
    network = ap (λ (a : Answer). a.after.network) comes_to;
    counted = subst (λ (a : Answer). CountsGo counts counts_now a.after.written)
        (sym comes_to) one.counted;
    posted =
        none_posted strings (answers shown).after.sent (ap (λ (a : Answer). a.after.sent) comes_to);
    writable = none_written (answers shown).after.sent (ap (λ (a : Answer). a.after.sent) comes_to);
    within = within;
  }

-- There is no packet.
pub none_step : (n : Network) (counts counts_now : ℕ → ℕ) (k : ℕ) (o : Option Packet) (now : ℕ)
    (strings : List (List ℕ)) → IsWithin strings → numbered n.notes k ≡ None
    → CountsGo counts counts_now []
    → IsStep n counts o (Deliver k now) n counts_now strings strings reply.NoPacket
none_step n counts counts_now k o now strings within none same = record {
  choice = Well;
  may = refl;
  reply = ap (λ (a : Answer). told a.reply) at;
  network = ap (λ (a : Answer). a.after.network) at;
  counted = subst (λ (a : Answer). CountsGo counts counts_now a.after.written) (sym at) same;
  posted = none_posted strings
      (deliver_packet (numbered n.notes k) o now Well (course_in n [] [])).after.sent
      (ap (λ (a : Answer). a.after.sent) at);
  writable =
      none_written (deliver_packet (numbered n.notes k) o now Well (course_in n [] [])).after.sent
      (ap (λ (a : Answer). a.after.sent) at);
  within = within;
}
  where
    at : deliver_packet (numbered n.notes k) o now Well (course_in n [] [])
        ≡ only (course_in n [] []) network.NoPacket
    at = ap (λ (q : Option Note). deliver_packet q o now Well (course_in n [] [])) none
