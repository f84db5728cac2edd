-- The packets of one manager go.
use Rattle.std.proofs.Common.{◌≡◌, ℕ, ◌+◌, Bool, true, cond, List, [], ◌++◌, Option, Some, None, Result, Ok, length, ◌<◌, refl, sym, ap, subst, ◌∙◌, arith, length-append}
use Rattle.std.proofs.lemmas.List.{append-nil, length-map}
use Rattle.std.specs.Option.{option_map_or}
use Rattle.std.specs.Prelude.{IfOk, if◌then◌else◌, map, replicate}
use Rattle.mqb_base.specs.declared.ledger.Line.{Line}
use Rattle.mqb_outside.specs.Disk.{View}
use Rattle.mqb_model.specs.calls.pump.Pump.{PumpOutcome, pump}
use Rattle.mqb_model.specs.declared.faults.PumpFault.{PumpFault}
use Rattle.mqb_model.specs.managers.Manager.{Manager}
use Rattle.mqb_model.specs.laws.Refusals.{RefusalsChangeNothing}
use Rattle.mqb_model.specs.laws.Validity.{RefusedIsSame}
use Rattle.mqb_model.specs.managers.Outcomes.{lines_after, succeeded}
use Rattle.mqb_model.specs.managers.Valid.{IsValidManager}
use Rattle.mqb_seats.specs.Counting.{PumpsAreCounted}
use Rattle.mqb_seats.specs.Stored.{same_stores, stored_held}
use Rattle.mqb_seats.specs.Seats.{SeatState, records_of, seated}
use Rattle.mqb_network.specs.Answers.{Answer}
use Rattle.mqb_network.specs.Changes.{failed_at, note_by, noted, succeeded_at, with_lines}
use Rattle.mqb_network.specs.Choices.{Choice, Failure, Fails, Well, failure_in}
use Rattle.mqb_network.specs.Courses.{Course, called_unless, course_from, posted}
use Rattle.mqb_network.specs.Network.{Connection, Network, Note, connection_of, manager_at}
use Rattle.mqb_network.specs.Replies as network
use Rattle.mqb_network.specs.Sending.{numbers_behind, packets_unless, pump_by, pumped}
use Rattle.mqb_script.specs.declared.managers.Which.{Which}
use Rattle.mqb_script.specs.declared.managers.Which.TheVariants.{Alpha, Beta}
use Rattle.mqb_seats.specs.Called.{failure_of}
use Rattle.mqb_packet.specs.Plain.{plain_spelling}
use Rattle.mqb_packet.specs.declared.packet.Packet.{Packet}
use Rattle.mqb_posts.specs.Packets.{AreWritable}
use Rattle.mqb_seats.specs.Pumped.{ArePosted, IsPumped, IsRefused}
use Rattle.mqb_seats.specs.declared.called.Failure.{Failure as HowItFailed}
use Rattle.mqb_seats.specs.declared.packets.Pumped.{Pumped}
use Rattle.mqb_seats.specs.declared.packets.Pumped.TheVariants.{Broke, Refused, Went}
use Rattle.mqb_traffic.specs.Networks.{index_of, network_with, note_of}
use Rattle.mqb_traffic.specs.States.{TrafficState}
use Rattle.mqb_transcript.specs.declared.replies.Reply.{Reply}
use Rattle.mqb_transcript.specs.declared.replies.Reply.TheVariants as reply
use Rattle.mqb_turns.specs.Counts.{CountsGo, counts_at}
use Rattle.mqb_turns.specs.Replies.{failure_reply, told}
use Rattle.mqb_turns.specs.Sends.{IsPumpTurn, IsSent, Leaves, pump_at}
use Rattle.mqb_turns.specs.Settling.{IsNoted, IsParted}
use Rattle.mqb_turns.specs.Sides.{Side, network_at, side}
use Rattle.mqb_turns.specs.Turns.{FailsAsAnswered}
use Rattle.mqb_turns.specs.lemmas.Counting.{counts_called, counts_quiet, none_more, stored_count}
use Rattle.mqb_turns.proofs.Turning.{broke_so, one_written, own_at, went_so}

-- no packet is noted
pub noted_none : (i now : ℕ) (n : Network) → noted i now 0 n ≡ n
noted_none i now n = at (connection_of n i)
  where
    at : (o : Option Connection) → option_map_or (λ (c : Connection). record n { notes = n.notes ++ replicate 0 (note_by i now c) }) o n ≡ n
    at None = refl
    at (Some c) = ap (λ (ns : List Note). record n { notes = ns }) (append-nil n.notes)

no_lines : (m : Network) → with_lines [] m ≡ m
no_lines m = ap (λ (ls : List Line). record m { ledger = ls }) (append-nil m.ledger)

-- packets are noted
noted_so : (which : Which) (t b : SeatState) (u v : TrafficState) (now count : ℕ)
    → ((alpha beta : Manager) → network_with alpha beta v ≡ noted (index_of which) now count (network_with alpha beta u))
    → network_at which (side t b v) ≡ noted (index_of which) now count (network_at which (side t b u))
noted_so Alpha t b u v now count says = says (seated t) (seated b)
noted_so Beta t b u v now count says = says (seated b) (seated t)

-- a manager in the place of one that is the same
seat_network : (which : Which) (s t b : SeatState) (tr : TrafficState) → seated t ≡ seated s → network_at which (side t b tr) ≡ network_at which (side s b tr)
seat_network Alpha s t b tr same = ap (λ (m : Manager). network_with m (seated b) tr) same
seat_network Beta s t b tr same = ap (λ (m : Manager). network_with (seated b) m tr) same

-- there are as many notes
noted_length : (which : Which) (x : Side) → length (network_at which x).notes ≡ length x.traffic.notes
noted_length Alpha x = length-map x.traffic.notes note_of
noted_length Beta x = length-map x.traffic.notes note_of

module _ (which : Which) (s t b : SeatState) (tr : TrafficState) (d e : View) (stopped : Bool) (now : ℕ) where
  abbrev x : Side
  x = side s b tr

  abbrev o : PumpOutcome
  o = pump_at which x now

  pub leaves_went : PumpsAreCounted → (u v : TrafficState) (count : ℕ) (recorded : Bool) → IsPumped d e stopped s t o (Went count recorded)
      → IsNoted which (side t b tr) (side t b u) recorded
      → ((alpha beta : Manager) → network_with alpha beta v ≡ noted (index_of which) now count (network_with alpha beta u))
      → Leaves which x (side t b v) o now (Went count recorded)
  leaves_went law u v count recorded (mv, answer, lines) is_noted notes = (
    answer,
    counted,
    ap (noted (index_of which) now (length o.packets)) (went_so which s t b tr d e o mv (cond recorded t.manager.store.lines []) lines ∙ sym is_noted.0)
        ∙ ap (λ (c : ℕ). noted (index_of which) now c (network_at which (side t b u))) (sym counted)
        ∙ sym (noted_so which t b u v now count notes),
  )
    where
      counted : count ≡ length o.packets
      counted = subst (λ (r : Result ℕ PumpFault). IfOk r (λ c. c ≡ length o.packets)) answer (law (seated s) now)

  pub leaves_refused : RefusedIsSame → IsValidManager (seated s) → (given : Reply) → IsPumped d e stopped s t o (Refused given) → Leaves which x (side t b tr) o now (Refused given)
  leaves_refused same valid given (mv, refused) = (
    refused,
    went_so which s t b tr d e o mv [] (sym (ap (λ (q : PumpOutcome). lines_after (seated s) q) refused.unchanged)) ∙ no_lines (network_at which (side t b tr)),
    seat_network which s t b tr (mv.manager ∙ ap (λ (q : PumpOutcome). succeeded (seated s) q) refused.unchanged ∙ same (seated s) true valid),
  )

  pub leaves_broke : (y : Side) (how : HowItFailed) → IsPumped d e stopped s t o (Broke how) → IsParted which (side t b tr) y → Leaves which x y o now (Broke how)
  leaves_broke y how (mv, stops) parted = (mv.fails_where refl, broke_so which s t b tr d e o (failure_of how) mv ∙ parted.network which)

-- What is left of it.

module _ (which : Which) (s t b : SeatState) (tr : TrafficState) (d e : View) (stopped : Bool) (now : ℕ) (strings strings_now : List (List ℕ)) (q : Pumped)
    (it : IsPumped d e stopped s t (pump (seated s) now) q) (are : ArePosted strings strings_now (pump (seated s) now) (Ok q)) where
  abbrev it_is : PumpOutcome
  it_is = pump (seated s) now

  pub sent_went : PumpsAreCounted → (count : ℕ) (recorded : Bool) → q ≡ Went count recorded → (u v : TrafficState) → IsNoted which (side t b tr) (side t b u) recorded
      → ((alpha beta : Manager) → network_with alpha beta v ≡ noted (index_of which) now count (network_with alpha beta u))
      → IsSent which (side s b tr) (side t b v) d e stopped strings strings_now now (Went count recorded)
  sent_went law count recorded is u v is_noted notes = record {
    leaves = leaves_went which s t b tr d e stopped now law u v count recorded went is_noted notes;
    posted = posted_so.0;
    within = posted_so.1;
    writable = posted_so.2;
    counted = went.0.counted;
    held = went.0.held;
    beside = same_stores b;
    faults = went.0.faults;
  }
    where
      went : IsPumped d e stopped s t it_is (Went count recorded)
      went = subst (IsPumped d e stopped s t it_is) is it

      posted_so : ArePosted strings strings_now it_is (Ok (Went count recorded))
      posted_so = subst (λ (r : Pumped). ArePosted strings strings_now it_is (Ok r)) is are

  pub sent_refused : RefusedIsSame → IsValidManager (seated s) → (given : Reply) → q ≡ Refused given
      → IsSent which (side s b tr) (side t b tr) d e stopped strings strings_now now (Refused given)
  sent_refused same valid given is = record {
    leaves = leaves_refused which s t b tr d e stopped now same valid given refused;
    posted = posted_so.0;
    within = posted_so.1;
    writable = posted_so.2;
    counted = refused.0.counted;
    held = refused.0.held;
    beside = same_stores b;
    faults = refused.0.faults;
  }
    where
      refused : IsPumped d e stopped s t it_is (Refused given)
      refused = subst (IsPumped d e stopped s t it_is) is it

      posted_so : ArePosted strings strings_now it_is (Ok (Refused given))
      posted_so = subst (λ (r : Pumped). ArePosted strings strings_now it_is (Ok r)) is are

  pub sent_broke : (how : HowItFailed) → q ≡ Broke how → (y : Side) → IsParted which (side t b tr) y
      → IsSent which (side s b tr) y d e stopped strings strings_now now (Broke how)
  sent_broke how is y parted = record {
    leaves = leaves_broke which s t b tr d e stopped now y how broke parted;
    posted = posted_so.0;
    within = posted_so.1;
    writable = posted_so.2;
    counted = stored_count parted.own ∙ broke.0.counted;
    held = λ held. stored_held e t y.own parted.own (broke.0.held held);
    beside = parted.beside;
    faults = (broke.0.faults, broke.1);
  }
    where
      broke : IsPumped d e stopped s t it_is (Broke how)
      broke = subst (IsPumped d e stopped s t it_is) is it

      posted_so : ArePosted strings strings_now it_is (Ok (Broke how))
      posted_so = subst (λ (r : Pumped). ArePosted strings strings_now it_is (Ok r)) is are

  -- the number of notes fits
  pub few_notes : PumpsAreCounted → (count : ℕ) (recorded : Bool) → q ≡ Went count recorded → (u : TrafficState) → IsNoted which (side t b tr) (side t b u) recorded
      → length tr.notes < 4294967296 → length strings_now < 4294967296 → length u.notes + count < 9223372036854775808
  few_notes law count recorded is u is_noted few all = omega (arith, notes, sent, counted, few, all)
    where
      went : IsPumped d e stopped s t it_is (Went count recorded)
      went = subst (IsPumped d e stopped s t it_is) is it

      posted_so : ArePosted strings strings_now it_is (Ok (Went count recorded))
      posted_so = subst (λ (r : Pumped). ArePosted strings strings_now it_is (Ok r)) is are

      counted : count ≡ length it_is.packets
      counted = subst (λ (r : Result ℕ PumpFault). IfOk r (λ c. c ≡ length it_is.packets)) went.1 (law (seated s) now)

      notes : length u.notes ≡ length tr.notes
      notes = sym (noted_length which (side t b u)) ∙ ap (λ (n : Network). length n.notes) is_noted.0 ∙ noted_length which (side t b tr)

      sent : length strings_now ≡ length strings + length it_is.packets
      sent = ap length posted_so.0 ∙ length-append strings (map plain_spelling it_is.packets) ∙ ap (λ (k : ℕ). length strings + k) (length-map it_is.packets plain_spelling)

-- The event of a pump.

module _ (which : Which) (x y : Side) (d e : View) (stopped : Bool) (strings strings_now : List (List ℕ)) (now : ℕ) where
  abbrev n : Network
  n = network_at which x

  abbrev i : ℕ
  i = index_of which

  abbrev out : PumpOutcome
  out = pump_at which x now

  -- what is answered where a pump comes to this
  abbrev answers : PumpOutcome → Choice → Answer
  answers q choice = pump_by i now q choice (course_from n)

  notes_are : length n.notes ≡ length x.traffic.notes
  notes_are = noted_length which x

  turn_went : (count : ℕ) (recorded : Bool) (given : Reply) → IsSent which x y d e stopped strings strings_now now (Went count recorded)
      → given ≡ reply.Pumped (numbers_behind (length x.traffic.notes) count) → IsPumpTurn which x y d e stopped strings strings_now (answers out) given
  turn_went count recorded given sent given_is = record {
    choice = Well;
    may = refl;
    reply = ap told reply_is ∙ ap (λ (k : ℕ). Ok (reply.Pumped (numbers_behind k count))) notes_are ∙ ap Ok (sym given_is);
    network = sent.leaves.2;
    posted = sent.posted;
    within = sent.within;
    writable = sent.writable;
    counted = counts_called which x y (manager_at n i) out.entry sent.counted sent.beside;
    held = sent.held;
    beside = sent.beside;
    faults = subst (FailsAsAnswered stopped d.faults e.faults) (sym reply_is) sent.faults;
  }
    where
      reply_is : (answers out Well).reply ≡ network.Pumped (numbers_behind (length n.notes) count)
      reply_is = ap (λ (r : Result ℕ PumpFault). pumped (length n.notes) r (lines_after (manager_at n i) out)) sent.leaves.0

  turn_refused : (given : Reply) → IsSent which x y d e stopped strings strings_now now (Refused given) → IsPumpTurn which x y d e stopped strings strings_now (answers out) given
  turn_refused given sent = record {
    choice = Well;
    may = refl;
    reply = ap told reply_is ∙ refused.told;
    network = ap (λ (ps : List Packet). noted i now (length ps) (succeeded_at i out n)) none ∙ noted_none i now (succeeded_at i out n) ∙ sent.leaves.1;
    posted = sent.posted ∙ ap (λ (ps : List Packet). strings ++ map plain_spelling ps) (sym none);
    within = sent.within;
    writable = subst AreWritable (sym none) sent.writable;
    counted = counts_called which x y (manager_at n i) out.entry sent.counted sent.beside;
    held = sent.held;
    beside = sent.beside;
    faults = subst (FailsAsAnswered stopped d.faults e.faults) (sym reply_is) sent.faults;
  }
    where
      refused : IsRefused x.own out given
      refused = sent.leaves.0

      none : out.packets ≡ []
      none = ap (λ (q : PumpOutcome). q.packets) refused.unchanged

      reply_is : (answers out Well).reply ≡ network.NotPumped refused.why
      reply_is = ap (λ (q : PumpOutcome). pumped (length n.notes) q.answer (lines_after (manager_at n i) q)) refused.unchanged

  turn_broke : RefusalsChangeNothing → (how : HowItFailed) (given : Reply) → IsSent which x y d e stopped strings strings_now now (Broke how)
      → given ≡ failure_reply (failure_of how) → IsPumpTurn which x y d e stopped strings strings_now (answers out) given
  turn_broke law how given sent given_is = record {
    choice = Fails 0 f;
    may = one_written i (manager_at n i) out.entry sent.leaves.0;
    reply = ap told reply_is ∙ ap Ok (sym given_is);
    network = ap (λ (o : Option Failure). (after o).network) fails ∙ noted_none i now (failed_at i out n) ∙ sent.leaves.1;
    posted = sent.posted ∙ ap (λ (o : Option Failure). strings ++ map plain_spelling (after o).sent) (sym fails);
    within = sent.within;
    writable = subst (λ (o : Option Failure). AreWritable (after o).sent) (sym fails) sent.writable;
    counted = subst (λ (o : Option Failure). CountsGo (counts_at which x) (counts_at which y) (after o).written) (sym fails)
        (counts_quiet which x y (sent.counted ∙ sym (none_more (records_of x.own))) sent.beside);
    held = sent.held;
    beside = sent.beside;
    faults = subst (FailsAsAnswered stopped d.faults e.faults) (sym reply_is) (sent.faults.0, ap failure_of sent.faults.1);
  }
    where
      f : Failure
      f = failure_of how

      after : Option Failure → Course
      after o = posted i now (packets_unless out o) (called_unless i out o (course_from n))

      fails : failure_in (Fails 0 f) out ≡ Some f
      fails = ap (λ (c : Bool). if c then Some f else None) (((law (seated x.own)).pump_whole now).touches ∙ sent.leaves.0)

      reply_is : (answers out (Fails 0 f)).reply ≡ network.DiskFailed f
      reply_is = ap (λ (o : Option Failure). option_map_or network.DiskFailed o (pumped (length n.notes) out.answer (lines_after (manager_at n i) out))) fails

  -- the same of the manager at the index
  abbrev is_turn : Reply → Manager → Type 0
  is_turn given k = IsPumpTurn which x y d e stopped strings strings_now (answers (pump k now)) given

  pub pump_went : (count : ℕ) (recorded : Bool) (given : Reply) → IsSent which x y d e stopped strings strings_now now (Went count recorded)
      → given ≡ reply.Pumped (numbers_behind (length x.traffic.notes) count) → is_turn given (manager_at n i)
  pump_went count recorded given sent given_is = subst (is_turn given) (sym (own_at which x)) (turn_went count recorded given sent given_is)

  pub pump_refused : (given : Reply) → IsSent which x y d e stopped strings strings_now now (Refused given) → is_turn given (manager_at n i)
  pump_refused given sent = subst (is_turn given) (sym (own_at which x)) (turn_refused given sent)

  pub pump_broke : RefusalsChangeNothing → (how : HowItFailed) (given : Reply) → IsSent which x y d e stopped strings strings_now now (Broke how)
      → given ≡ failure_reply (failure_of how) → is_turn given (manager_at n i)
  pump_broke law how given sent given_is = subst (is_turn given) (sym (own_at which x)) (turn_broke law how given sent given_is)

  -- by what became of it
  pub broke_by : (q : Pumped) → IsSent which x y d e stopped strings strings_now now q → RefusalsChangeNothing → (how : HowItFailed) → q ≡ Broke how → (given : Reply)
      → given ≡ failure_reply (failure_of how) → is_turn given (manager_at n i)
  broke_by q sent law how is given given_is = pump_broke law how given (subst (IsSent which x y d e stopped strings strings_now now) is sent) given_is

  pub refused_by : (q : Pumped) → IsSent which x y d e stopped strings strings_now now q → (given : Reply) → q ≡ Refused given → is_turn given (manager_at n i)
  refused_by q sent given is = pump_refused given (subst (IsSent which x y d e stopped strings strings_now now) is sent)

  pub went_by : (q : Pumped) → IsSent which x y d e stopped strings strings_now now q → (count : ℕ) (recorded : Bool) → q ≡ Went count recorded → (given : Reply)
      → given ≡ reply.Pumped (numbers_behind (length x.traffic.notes) count) → is_turn given (manager_at n i)
  went_by q sent count recorded is given given_is = pump_went count recorded given (subst (IsSent which x y d e stopped strings strings_now now) is sent) given_is
