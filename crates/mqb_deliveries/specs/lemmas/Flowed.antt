-- A pump whose packets are delivered in turn is one step.
use Rattle.std.proofs.Common.{◌≡◌, ◌<◌, ℕ, ◌+◌, Bool, true, false, cond, List, [], ◌∷◌, ◌++◌}
use Rattle.std.proofs.Common.{Option, Some, None, Result, Ok, Err, length, refl, sym, ap, subst}
use Rattle.std.proofs.Common.{◌∙◌, arith}
use Rattle.std.proofs.Math.Seq.{drop-append_seam, take-length}
use Rattle.std.proofs.lemmas.Bool.Decides.{nat_tests}
use Rattle.std.proofs.lemmas.List.{append-nil, length-map, map-append}
use Rattle.std.specs.List.{enumerate_from}
use Rattle.std.specs.Option.{option_map_or}
use Rattle.std.specs.Prelude.{IsSome, drop, fold, if◌then◌else◌, is_some, map, nat_lt}
use Rattle.std.specs.Prelude.{replicate, take}
use Rattle.mqb_outside.specs.Disk.{View}
use Rattle.mqb_model.specs.calls.hear.Hear.{hear}
use Rattle.mqb_model.specs.calls.hear.Session.{HeardOutcome}
use Rattle.mqb_model.specs.calls.pump.Pump.{PumpOutcome, pump}
use Rattle.mqb_model.specs.declared.faults.PumpFault.{PumpFault}
use Rattle.mqb_model.specs.laws.Refusals.{RefusalsChangeNothing}
use Rattle.mqb_model.specs.managers.Manager.{Manager}
use Rattle.mqb_model.specs.records.Record.{Record}
use Rattle.mqb_turns.specs.Seats.{records_of, seated}
use Rattle.mqb_network.specs.Answers.{Answer, lines_at}
use Rattle.mqb_network.specs.Changes.{ended, failed_at, note_by, noted, succeeded_at}
use Rattle.mqb_network.specs.Choices.{Choice, Failure, Fails, Well, choice_behind, failure_in}
use Rattle.mqb_network.specs.Courses.{Course, called, called_unless, course_from, moved}
use Rattle.mqb_network.specs.Courses.{posted, written_by}
use Rattle.mqb_network.specs.Delivering.{closes, heard_by, passed, unheard}
use Rattle.mqb_network.specs.Events.{Flow}
use Rattle.mqb_network.specs.Network.{Connection, Network, Note, connection_of}
use Rattle.mqb_network.specs.Network.{is_underway, manager_at}
use Rattle.mqb_network.specs.Replies as network
use Rattle.mqb_network.specs.Runs.{may_fail}
use Rattle.mqb_network.specs.Sending.{Passing, all_passed, flow, flow_by, flow_with, flowed}
use Rattle.mqb_network.specs.Sending.{packets_unless, passed_on, pump_by, pumped, with_arrival}
use Rattle.mqb_packet.specs.Plain.{plain_spelling}
use Rattle.mqb_packet.specs.declared.packet.Packet.{Packet}
use Rattle.mqb_posts.specs.Packets.{AreWritable, ArePackets}
use Rattle.mqb_posts.specs.Posting.{HasFront, IsCutOff, IsWithin}
use Rattle.mqb_posts.specs.declared.faults.PostFault.{PostFault}
use Rattle.mqb_posts.specs.declared.faults.PostFault.TheVariants as post
use Rattle.mqb_queue.specs.Places.{numbered}
use Rattle.mqb_script.specs.declared.managers.Which.{Which}
use Rattle.mqb_script.specs.declared.managers.Which.TheVariants.{Alpha, Beta}
use Rattle.mqb_turns.specs.mqb_seats.Called.{failure_of}
use Rattle.mqb_turns.specs.mqb_seats.Pumped.{IsRefused, pump_fault_reply}
use Rattle.mqb_turns.specs.mqb_seats.declared.called.Failure.{Failure as HowItFailed}
use Rattle.mqb_turns.specs.mqb_seats.declared.packets.Pumped.{Pumped}
use Rattle.mqb_turns.specs.mqb_seats.declared.packets.Pumped.TheVariants.{Broke, Refused, Went}
use Rattle.mqb_traffic.specs.Networks.{index_of}
use Rattle.mqb_transcript.specs.declared.arrivals.Arrival.{Arrival}
use Rattle.mqb_transcript.specs.declared.replies.Reply.{Reply}
use Rattle.mqb_transcript.specs.declared.replies.Reply.TheVariants as reply
use Rattle.mqb_turns.specs.Counts.{CountsGo, counts_at}
use Rattle.mqb_turns.specs.Passes.{course_in, touched}
use Rattle.mqb_turns.specs.Replies.{failure_reply, told}
use Rattle.mqb_turns.specs.Sends.{ComesShort, IsSent, pump_at}
use Rattle.mqb_turns.specs.Sides.{Side, network_at}
use Rattle.mqb_turns.specs.lemmas.Counting.{counts_called, counts_joined, counts_quiet, none_more}
use Rattle.mqb_deliveries.specs.lemmas.Flowing.{more_flows, works_by}
use Rattle.mqb_deliveries.specs.Flows.{Flown, LeadsTo, flowing, later, sent_behind}
use Rattle.mqb_deliveries.specs.Steps.{FallsShort, IsStep}

-- a record is one
records_are : (i : ℕ) (m : Manager) (r : Option Record) (b : Bool) → b ≡ is_some r
    → length (written_by i m r) ≡ touched b
records_are i m None b is = ap touched (sym is)
records_are i m (Some r) b is = ap touched (sym is)

one_record : (i : ℕ) (m : Manager) (r : Option Record) → IsSome r → length (written_by i m r) ≡ 1
one_record i m (Some r) some = refl
one_record i m None some = absurd (let none : ⊥ = cc in none)

below : (a b : ℕ) → a < b → nat_lt a b ≡ true
below a b less = grind (arith, nat_tests)

-- no packet is noted
noted_none : (i now : ℕ) (n : Network) → noted i now 0 n ≡ n
noted_none i now n = at (connection_of n i)
  where
    at : (o : Option Connection) → option_map_or
        (λ (c : Connection). record n { notes = n.notes ++ replicate 0 (note_by i now c) }) o n ≡ n
    at None = refl
    at (Some c) = ap (λ (ns : List Note). record n { notes = ns }) (append-nil n.notes)

-- What a flow sends is what its pump sends.

called_sends : (i : ℕ) (o : HeardOutcome) (choice : Choice) (c : Course)
    → (called i o choice c).sent ≡ c.sent
called_sends i o choice c = at (failure_in choice o)
  where
    at : (f : Option Failure) → (called_unless i o f c).sent ≡ c.sent
    at None = refl
    at (Some how) = refl

heard_sends : (i : ℕ) (o : HeardOutcome) (choice : Choice) (c : Course) (b : Bool)
    → (cond b (moved (ended i) (called i o choice c)) (called i o choice c)).sent ≡ c.sent
heard_sends i o choice c true = called_sends i o choice c
heard_sends i o choice c false = called_sends i o choice c

passed_sends : (note : Note) (p : Packet) (now : ℕ) (choice : Choice) (c : Course)
    → (passed note p now choice c).after.sent ≡ c.sent
passed_sends note p now choice c = at (is_underway c.network note)
  where
    o : HeardOutcome
    o = hear (manager_at c.network note.receiver) p now

    at : (b : Bool)
        → (cond b (heard_by note.receiver o choice c) (unheard choice c)).after.sent ≡ c.sent
    at true = heard_sends note.receiver o choice c (closes o.answer)
    at false = refl

one_sends : (now : ℕ) (t : Passing) (given : ℕ × Packet)
    → (passed_on now t given).after.sent ≡ t.after.sent
one_sends now t given = at (numbered t.after.network.notes given.0)
  where
    at : (o : Option Note) → (with_arrival given.0 t.arrivals (option_map_or
        (λ note. passed note given.1 now t.left t.after) o (unheard t.left t.after))).after.sent
        ≡ t.after.sent
    at None = refl
    at (Some note) = passed_sends note given.1 now t.left t.after

flowing_sends : (now : ℕ) (t : Passing) (given : List (ℕ × Packet))
    → (fold (passed_on now) t given).after.sent ≡ t.after.sent
flowing_sends now t [] = refl
flowing_sends now t (x ∷ given) = flowing_sends now (passed_on now t x) given ∙ one_sends now t x

pub flow_sends : (n : Network) (i now : ℕ)
    → (flow i now Well (course_from n)).after.sent ≡ (pump (manager_at n i) now).packets
flow_sends n i now = at o.answer
  where
    o : PumpOutcome
    o = pump (manager_at n i) now

    at : (r : Result ℕ PumpFault) → (flow_by i now o Well (course_from n) r).after.sent ≡ o.packets
    at (Err why) = refl
    at (Ok count) = flowing_sends now (record {
      arrivals = [];
      after = (pump_by i now o Well (course_from n)).after;
      left = Well;
    }) (enumerate_from (length n.notes + 1) o.packets)

module _ (n : Network) (counts : ℕ → ℕ) (n_now : Network) (counts_now : ℕ → ℕ) (i now : ℕ)
    (o : PumpOutcome) (strings strings_now : List (List ℕ)) (given : Reply) where
  abbrev answers : PumpOutcome → Choice → Answer
  answers q choice = flow_with i now q choice (course_from n)

  -- A pump that came to this is a step of the flow.
  pub record Comes (q : PumpOutcome) : Type 0 where
    pub choice : Choice
    pub may : may_fail (length (answers q Well).after.written) choice ≡ true
    pub reply : told (answers q choice).reply ≡ Ok given
    pub network : (answers q choice).after.network ≡ n_now
    pub counted : CountsGo counts counts_now (answers q choice).after.written
    pub posted : strings_now ≡ strings ++ map plain_spelling (answers q choice).after.sent
    pub writable : AreWritable (answers q choice).after.sent

  step_of : pump (manager_at n i) now ≡ o → IsWithin strings_now → Comes o
      → IsStep n counts None (Flow i now) n_now counts_now strings strings_now given
  step_of is within c = at (subst Comes (sym is) c)
    where
      at : Comes (pump (manager_at n i) now)
          → IsStep n counts None (Flow i now) n_now counts_now strings strings_now given
      at k = record {
        choice = k.choice;
        may = k.may;
        reply = k.reply;
        network = k.network;
        counted = k.counted;
        posted = k.posted;
        writable = k.writable;
        within = within;
      }

  -- The pump is refused.
  refused_comes : (why : PumpFault) → o.answer ≡ Err why → o.packets ≡ []
      → pump_fault_reply why ≡ Ok given → succeeded_at i o n ≡ n_now
      → CountsGo counts counts_now (written_by i (manager_at n i) o.entry)
      → strings_now ≡ strings ++ [] → Comes o
  refused_comes why is none told_so left count added = record {
    choice = Well;
    may = refl;
    reply = ap (λ (a : Answer). told a.reply) so ∙ ap (λ (r : Result ℕ PumpFault).
        told (pumped (length n.notes) r (lines_at i o (course_from n)))) is ∙ told_so;
    network = ap (λ (a : Answer). a.after.network) so
        ∙ ap (λ (ps : List Packet). noted i now (length ps) (succeeded_at i o n)) none
        ∙ noted_none i now (succeeded_at i o n) ∙ left;
    counted = subst (λ (a : Answer). CountsGo counts counts_now a.after.written) (sym so) count;
    posted = added ∙ ap (λ (ps : List Packet). strings ++ map plain_spelling ps)
        (sym (ap (λ (a : Answer). a.after.sent) so ∙ none));
    writable = subst AreWritable (sym (ap (λ (a : Answer). a.after.sent) so ∙ none)) tt;
  }
    where
      so : answers o Well ≡ pump_by i now o Well (course_from n)
      so = ap (flow_by i now o Well (course_from n)) is

  -- The disk fails in the pump.
  broke_comes : (how : Failure) → IsSome o.entry → o.touches ≡ is_some o.entry
      → given ≡ failure_reply how → failed_at i o n ≡ n_now → CountsGo counts counts_now []
      → strings_now ≡ strings ++ [] → Comes o
  broke_comes how some whole given_is left count added = record {
    choice = Fails 0 how;
    may = below 0 (length (answers o Well).after.written) (records o.answer refl);
    reply = ap (λ (a : Answer). told a.reply) (so o.answer refl)
        ∙ ap (λ (f : Option Failure). told (option_map_or network.DiskFailed f
        (pumped (length n.notes) o.answer (lines_at i o (course_from n))))) fails
        ∙ failure_told_so how ∙ ap Ok (sym given_is);
    network = ap (λ (a : Answer). a.after.network) (so o.answer refl)
        ∙ ap (λ (f : Option Failure). (behind f).network) fails
        ∙ noted_none i now (failed_at i o n) ∙ left;
    counted = subst (CountsGo counts counts_now) (sym writes) count;
    posted = added ∙ ap (λ (ps : List Packet). strings ++ map plain_spelling ps) (sym sends);
    writable = subst AreWritable (sym sends) tt;
  }
    where
      failure_told_so : (f : Failure) → told (network.DiskFailed f) ≡ Ok (failure_reply f)
      failure_told_so f = refl

      fails : failure_in (Fails 0 how) o ≡ Some how
      fails = ap (λ (c : Bool). if c then Some how else None) (whole ∙ some)

      behind : Option Failure → Course
      behind f = posted i now (packets_unless o f) (called_unless i o f (course_from n))

      so : (r : Result ℕ PumpFault) → o.answer ≡ r
          → answers o (Fails 0 how) ≡ pump_by i now o (Fails 0 how) (course_from n)
      so (Err why) is = ap (flow_by i now o (Fails 0 how) (course_from n)) is
      so (Ok count) is = ap (flow_by i now o (Fails 0 how) (course_from n)) is
          ∙ ap (λ (f : Option Failure).
          cond (is_some f) (pump_by i now o (Fails 0 how) (course_from n))
          (flowed (all_passed now (choice_behind (Fails 0 how) o)
          (pump_by i now o (Fails 0 how) (course_from n)).after
          (enumerate_from (length n.notes + 1) o.packets)))) fails

      writes : (answers o (Fails 0 how)).after.written ≡ []
      writes = ap (λ (a : Answer). a.after.written) (so o.answer refl)
          ∙ ap (λ (f : Option Failure). (behind f).written) fails

      sends : (answers o (Fails 0 how)).after.sent ≡ []
      sends = ap (λ (a : Answer). a.after.sent) (so o.answer refl)
          ∙ ap (λ (f : Option Failure). (behind f).sent) fails

      records : (r : Result ℕ PumpFault) → o.answer ≡ r → 0 < length (answers o Well).after.written
      records (Err why) is = let one = one_record i (manager_at n i) o.entry some in
          let all = ap (λ (q : Result ℕ PumpFault).
          length (flow_by i now o Well (course_from n) q).after.written) is in
          omega (arith, one, all)
      records (Ok count) is = let one = one_record i (manager_at n i) o.entry some in
          let all = ap (λ (q : Result ℕ PumpFault).
          length (flow_by i now o Well (course_from n) q).after.written) is in
          let more = more_flows (pump_by i now o Well (course_from n)).after now
          (enumerate_from (length n.notes + 1) o.packets) Well in omega (arith, one, all, more)

-- Its packets flow.
module _ (n : Network) (counts : ℕ → ℕ) (n_sent : Network) (counts_sent : ℕ → ℕ) (n_now : Network)
    (counts_now : ℕ → ℕ) (i now : ℕ) (o : PumpOutcome) (count : ℕ) (answered : o.answer ≡ Ok count)
    (went : noted i now (length o.packets) (succeeded_at i o n) ≡ n_sent)
    (pumped_count : CountsGo counts counts_sent (written_by i (manager_at n i) o.entry))
    (whole : o.touches ≡ is_some o.entry) (arrivals : List Arrival)
    (flown : Flown counts_sent counts_now
    (course_in n_sent o.packets (written_by i (manager_at n i) o.entry)) now
    (enumerate_from (length n.notes + 1) o.packets) arrivals n_now) where
  abbrev sent : Course
  sent = course_in n_sent o.packets (written_by i (manager_at n i) o.entry)

  abbrev given : List (ℕ × Packet)
  given = enumerate_from (length n.notes + 1) o.packets

  abbrev answer_by : Choice → Answer
  answer_by choice = flow_with i now o choice (course_from n)

  abbrev behind_pump : Option Failure → Course
  behind_pump f = posted i now (packets_unless o f) (called_unless i o f (course_from n))

  sent_is : (choice : Choice) → failure_in choice o ≡ None
      → (pump_by i now o choice (course_from n)).after ≡ sent
  sent_is choice works = ap behind_pump works
      ∙ ap (λ (k : Network). course_in k o.packets (written_by i (manager_at n i) o.entry)) went

  -- the packets flow
  flows : (choice : Choice) → failure_in choice o ≡ None
      → answer_by choice ≡ flowed (flowing sent now given (choice_behind choice o))
  flows choice works = ap (flow_by i now o choice (course_from n)) answered
      ∙ ap (λ (f : Option Failure). cond (is_some f) (pump_by i now o choice (course_from n))
      (flowed (all_passed now (choice_behind choice o)
      (pump_by i now o choice (course_from n)).after given))) works
      ∙ ap (λ (c : Course). flowed (all_passed now (choice_behind choice o) c given))
      (sent_is choice works)

  abbrev ends : Choice → Answer
  ends left = flowed (record {
    arrivals = flown.passed;
    after = course_in n_now o.packets (sent.written ++ flown.written);
    left = left;
  })

  -- how the disks behaved, and what that comes to
  record Behaves : Type 0 where
    pub choice : Choice
    pub may : may_fail (length (answer_by Well).after.written) choice ≡ true
    pub left : Choice
    pub comes : answer_by choice ≡ ends left

  abbrev leads_by : Option Failure → Type 0
  leads_by f = LeadsTo sent now given flown.records flown.passed
      (course_in n_now sent.sent (sent.written ++ flown.written)) f

  well_behaves : flown.failure ≡ None → Behaves
  well_behaves is = record {
    choice = Well;
    may = refl;
    left = Well;
    comes = flows Well refl ∙ ap flowed (led Well tt);
  }
    where
      led : leads_by None
      led = subst leads_by is flown.leads

  broke_behaves : (how : Failure) → flown.failure ≡ Some how → Behaves
  broke_behaves how is = record {
    choice = later (touched o.touches) (Fails flown.records how);
    may = below (touched o.touches + flown.records) (length (answer_by Well).after.written) far;
    left = Fails 0 how;
    comes = flows (later (touched o.touches) (Fails flown.records how)) by.0
        ∙ ap (λ (l : Choice). flowed (flowing sent now given l)) by.1 ∙ ap flowed led.0;
  }
    where
      led : leads_by (Some how)
      led = subst leads_by is flown.leads

      by : (failure_in (later (touched o.touches) (Fails flown.records how)) o ≡ None)
          × (choice_behind (later (touched o.touches) (Fails flown.records how)) o
          ≡ Fails flown.records how)
      by = works_by o o.touches refl (Fails flown.records how) tt

      far : touched o.touches + flown.records < length (answer_by Well).after.written
      far = let all = ap (λ (a : Answer). length a.after.written) (flows Well refl) in
          let first = records_are i (manager_at n i) o.entry o.touches whole in
          let last = led.1 in
          omega (arith, all, first, last)

  behaves : Behaves
  behaves = at flown.failure refl
    where
      at : (f : Option Failure) → flown.failure ≡ f → Behaves
      at None is = well_behaves is
      at (Some how) is = broke_behaves how is

  pub went_comes : (strings strings_now : List (List ℕ))
      → strings_now ≡ strings ++ map plain_spelling o.packets → AreWritable o.packets
      → Comes n counts n_now counts_now i now o strings strings_now (reply.Flowed arrivals) o
  went_comes strings strings_now added writable = record {
    choice = behaves.choice;
    may = behaves.may;
    reply = ap (λ (a : Answer). told a.reply) behaves.comes
        ∙ ap (λ (arrived : List Arrival). Ok (reply.Flowed arrived)) flown.told;
    network = ap (λ (a : Answer). a.after.network) behaves.comes;
    counted = subst (λ (a : Answer). CountsGo counts counts_now a.after.written) (sym behaves.comes)
        (counts_joined counts counts_sent counts_now
        (written_by i (manager_at n i) o.entry) flown.written pumped_count flown.counted);
    posted = added ∙ ap (λ (ps : List Packet). strings ++ map plain_spelling ps)
        (sym (ap (λ (a : Answer). a.after.sent) behaves.comes));
    writable = subst AreWritable (sym (ap (λ (a : Answer). a.after.sent) behaves.comes)) writable;
  }

-- As the manager sees it that is pumped.

own_at : (which : Which) (x : Side)
    → manager_at (network_at which x) (index_of which) ≡ seated x.own
own_at Alpha x = refl
own_at Beta x = refl

module _ (which : Which) (x y : Side) (d e : View) (stopped : Bool)
    (strings strings_now : List (List ℕ)) (now : ℕ) where
  abbrev before : Network
  before = network_at which x

  abbrev counts : ℕ → ℕ
  counts = counts_at which x

  abbrev i : ℕ
  i = index_of which

  abbrev out : PumpOutcome
  out = pump_at which x now

  out_is : pump (manager_at before i) now ≡ out
  out_is = ap (λ (m : Manager). pump m now) (own_at which x)

  abbrev SentBy : Pumped → Type 0
  SentBy q = IsSent which x y d e stopped strings strings_now now q

  pub refused_step : (given : Reply) → SentBy (Refused given) → IsStep before counts None
      (Flow i now) (network_at which y) (counts_at which y) strings strings_now given
  refused_step given sent = step_of before counts (network_at which y)
      (counts_at which y) i now out strings strings_now given out_is sent.within
      (refused_comes before counts (network_at which y) (counts_at which y) i now out strings
      strings_now given refused.why (ap (λ (q : PumpOutcome). q.answer) refused.unchanged)
      (ap (λ (q : PumpOutcome). q.packets) refused.unchanged) refused.told sent.leaves.1
      (counts_called which x y (manager_at before i) out.entry sent.counted sent.beside)
      sent.posted)
    where
      refused : IsRefused x.own out given
      refused = sent.leaves.0

  pub broke_step : RefusalsChangeNothing → (how : HowItFailed) → SentBy (Broke how)
      → IsStep before counts None (Flow i now) (network_at which y)
      (counts_at which y) strings strings_now (failure_reply (failure_of how))
  broke_step law how sent =
      step_of before counts (network_at which y) (counts_at which y) i now out strings strings_now
      (failure_reply (failure_of how)) out_is sent.within
      (broke_comes before counts (network_at which y) (counts_at which y) i now out strings
      strings_now (failure_reply (failure_of how)) (failure_of how) sent.leaves.0
      ((law (seated x.own)).pump_whole now).touches refl sent.leaves.1
      (counts_quiet which x y (sent.counted ∙ sym (none_more (records_of x.own))) sent.beside)
      sent.posted)

  -- The packets that were sent are delivered.
  module _ (law : RefusalsChangeNothing) (count : ℕ) (recorded : Bool)
      (sent : SentBy (Went count recorded)) (noted : length before.notes ≡ length strings)
      (packets : ArePackets strings) where
    -- all that were ever sent
    abbrev pub all_packets : List Packet
    all_packets = packets.packets ++ out.packets

    written_twice : (ps qs : List Packet) → AreWritable ps → AreWritable qs → AreWritable (ps ++ qs)
    written_twice [] qs a b = b
    written_twice (p ∷ ps) qs a b = (a.0, written_twice ps qs a.1 b)

    pub all_writable : AreWritable all_packets
    all_writable = written_twice packets.packets out.packets packets.writable sent.writable

    pub all_spelled : strings_now ≡ map plain_spelling all_packets
    all_spelled =
        sent.posted ∙ ap (λ (ss : List (List ℕ)). ss ++ map plain_spelling out.packets) packets.are
        ∙ sym (map-append plain_spelling packets.packets out.packets)

    pub are_packets : ArePackets strings_now
    are_packets = record { packets = all_packets; writable = all_writable; are = all_spelled }

    -- those that were just sent
    behind_is : sent_behind all_packets (length before.notes) count
        ≡ enumerate_from (length before.notes + 1) out.packets
    behind_is =
        ap (λ (k : ℕ). enumerate_from (length before.notes + 1) (take count (drop k all_packets)))
        (noted ∙ ap length packets.are ∙ length-map packets.packets plain_spelling)
        ∙ ap (λ (ps : List Packet). enumerate_from (length before.notes + 1) (take count ps))
        (drop-append_seam packets.packets out.packets)
        ∙ ap (λ (k : ℕ). enumerate_from (length before.notes + 1) (take k out.packets))
        sent.leaves.1
        ∙ ap (enumerate_from (length before.notes + 1)) (take-length out.packets)

    -- the course behind the pump
    abbrev pub pumped_course : Course
    pumped_course =
        course_in (network_at which y) out.packets (written_by i (manager_at before i) out.entry)

    pub went_step : (n_now : Network) (counts_now : ℕ → ℕ) (arrivals : List Arrival)
        → Flown (counts_at which y) counts_now pumped_course now
        (sent_behind all_packets (length before.notes) count) arrivals n_now
        → IsStep before counts None (Flow i now) n_now counts_now strings strings_now
        (reply.Flowed arrivals)
    went_step n_now counts_now arrivals flown =
        step_of before counts n_now counts_now i now out strings strings_now
        (reply.Flowed arrivals) out_is sent.within
        (went_comes before counts (network_at which y)
        (counts_at which y) n_now counts_now i now out count sent.leaves.0 sent.leaves.2
        (counts_called which x y (manager_at before i) out.entry sent.counted sent.beside)
        ((law (seated x.own)).pump_whole now).touches arrivals
        (subst (λ (given : List (ℕ × Packet)). Flown
        (counts_at which y) counts_now pumped_course now given arrivals n_now) behind_is flown)
        strings strings_now sent.posted sent.writable)

    -- where memory runs out then, all of them are on the medium
    pub went_short : HasFront strings strings_now
        (map plain_spelling (flow i now Well (course_from before)).after.sent)
    went_short = record {
      front = map plain_spelling out.packets;
      rest = [];
      wanted_are = ap (map plain_spelling)
          (flow_sends before i now ∙ ap (λ (q : PumpOutcome). q.packets) out_is)
          ∙ sym (append-nil (map plain_spelling out.packets));
      added = sent.posted;
    }

  -- a pump that comes short does in the flow
  pub falls_short : (T U : Type 0) (fault : PostFault)
      → ComesShort {T = T} strings strings_now out (Err fault)
      → FallsShort {T = U} before None (Flow i now) strings strings_now (Err fault)
  falls_short T U fault short = at fault short
    where
      sends : map plain_spelling out.packets
          ≡ map plain_spelling (flow i now Well (course_from before)).after.sent
      sends = ap (map plain_spelling)
          (sym (flow_sends before i now ∙ ap (λ (q : PumpOutcome). q.packets) out_is))

      at : (f : PostFault) → ComesShort {T = T} strings strings_now out (Err f)
          → FallsShort {T = U} before None (Flow i now) strings strings_now (Err f)
      at post.NetFull cut =
          subst (λ (wanted : List (List ℕ)). IsCutOff strings strings_now wanted) sends cut
      at post.Memory front =
          subst (λ (wanted : List (List ℕ)). HasFront strings strings_now wanted) sends front
