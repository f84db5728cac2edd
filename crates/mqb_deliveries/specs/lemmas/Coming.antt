-- What comes of flows in which no record is written: no disk fails in them.
use Rattle.std.proofs.Common.{◌≡◌, ℕ, ◌+◌, Bool, true, false, cond, List, [], ◌∷◌, ◌++◌, Option}
use Rattle.std.proofs.Common.{Some, None, Result, Ok, Err, length, refl, sym, ap, subst, ◌∙◌}
use Rattle.std.proofs.Common.{arith, append_assoc}
use Rattle.std.proofs.lemmas.Bool.Decides.{nat_tests}
use Rattle.std.proofs.lemmas.List.{map-append}
use Rattle.std.proofs.lemmas.List.Elements.{filter_map-append}
use Rattle.std.specs.List.{cons_option, enumerate_from}
use Rattle.std.specs.Option.{option_map_or}
use Rattle.std.specs.Prelude.{◌==◌, filter, fold, map, nat_lt, not, replicate}
use Rattle.mqb_base.specs.declared.heard.Heard.{Heard}
use Rattle.mqb_base.specs.declared.ledger.Line.{Line}
use Rattle.mqb_model.specs.calls.hear.Hear.{hear}
use Rattle.mqb_model.specs.calls.hear.Session.{HeardOutcome}
use Rattle.mqb_model.specs.calls.pump.Pump.{PumpOutcome, pump}
use Rattle.mqb_model.specs.declared.faults.HearFault.{HearFault}
use Rattle.mqb_model.specs.declared.faults.PumpFault.{PumpFault}
use Rattle.mqb_model.specs.declared.faults.PumpFault.TheVariants as pump_fault
use Rattle.mqb_model.specs.managers.Outcomes.{failed}
use Rattle.mqb_network.specs.Answers.{lines_at}
use Rattle.mqb_network.specs.Choices.{Choice, Failure, Fails, Well, failure_in}
use Rattle.mqb_network.specs.Changes.{ended, ended_by, note_by, noted, succeeded_at}
use Rattle.mqb_network.specs.Connecting.{exchanged}
use Rattle.mqb_network.specs.Courses.{Course, Written, called, called_unless, course_from, moved}
use Rattle.mqb_network.specs.Delivering.{Delivered, closes, heard_by, heard_with, passed, unheard}
use Rattle.mqb_network.specs.Events.{Flow}
use Rattle.mqb_network.specs.Laws.{MovesAreEvents}
use Rattle.mqb_network.specs.Network.{Connection, Network, Note, connection_of, is_underway}
use Rattle.mqb_network.specs.Network.{manager_at, with_manager}
use Rattle.mqb_network.specs.Replies.{Delivery}
use Rattle.mqb_network.specs.Replies as network
use Rattle.mqb_network.specs.Runs.{joined, may_fail}
use Rattle.mqb_network.specs.Sending.{Passing, flow, flow_by, passed_on, pump_by, pumped}
use Rattle.mqb_packet.specs.Plain.{plain_spelling}
use Rattle.mqb_packet.specs.declared.packet.Packet.{Packet}
use Rattle.mqb_posts.specs.Packets.{AreWritable}
use Rattle.mqb_posts.specs.declared.faults.PostFault.{PostFault}
use Rattle.mqb_posts.specs.declared.faults.PostFault.TheVariants as post
use Rattle.mqb_queue.specs.Places.{numbered}
use Rattle.mqb_transcript.specs.declared.replies.Reply.{Reply}
use Rattle.mqb_turns.specs.Counts.{CountsGo}
use Rattle.mqb_turns.specs.Replies.{arrival_of, outcome_of, told}
use Rattle.mqb_turns.specs.lemmas.Counting.{counts_joined}
use Rattle.mqb_deliveries.specs.Courses.{ComesTo, IsJoined}
use Rattle.mqb_deliveries.specs.Failing.{failure_at, failure_told, failures_at, failures_in, is_for}
use Rattle.mqb_deliveries.specs.Steps.{IsShort, IsStep}

-- What happens one after the other.

joined_twice : (c d e : Course) → joined (joined c d) e ≡ joined c (joined d e)
joined_twice c d e = ap (λ (ps : List Packet).
    record { network = e.network; sent = ps; written = (c.written ++ d.written) ++ e.written })
    (append_assoc c.sent d.sent e.sent)
    ∙ ap (λ (ws : List Written).
    record { network = e.network; sent = c.sent ++ (d.sent ++ e.sent); written = ws })
    (append_assoc c.written d.written e.written)

pub both_joined : (f g : Course → Course) → IsJoined f → IsJoined g → IsJoined (λ c. g (f c))
both_joined f g f_is g_is c =
    g_is (f c) ∙ ap (λ (d : Course). joined d (g (course_from d.network))) (f_is c)
    ∙ joined_twice c (f (course_from c.network))
    (g (course_from (f (course_from c.network)).network))
    ∙ ap (joined c) (sym (g_is (f (course_from c.network))))

pub flow_joined : MovesAreEvents → (i now : ℕ) → IsJoined (λ c. (flow i now Well c).after)
flow_joined law i now c = sym (law c (record { event = Flow i now; choice = Well }))

pub exchange_joined : MovesAreEvents → (a b now : ℕ) → IsJoined (exchanged a b now)
exchange_joined law a b now = both_joined (λ c. (flow a now Well c).after)
    (λ c. (flow b now Well c).after) (flow_joined law a now) (flow_joined law b now)

oks : {A E : Type 0} {a b : A} → ◌≡◌ {A = Result A E} (Ok a) (Ok b) → a ≡ b
oks same = cc

none_left : {X : Type 0} (xs ys : List X) → xs ++ ys ≡ [] → (xs ≡ []) × (ys ≡ [])
none_left [] ys none = (refl, none)
none_left (x ∷ xs) ys none = absurd (let no : ⊥ = cc in no)

module _ (f : Course → Course) (f_is : IsJoined f) where
  -- where no record is written there was none before
  pub quiet_parts : (c : Course) → (f c).written ≡ []
      → (c.written ≡ []) × ((f (course_from c.network)).written ≡ [])
  quiet_parts c none = none_left c.written (f (course_from c.network)).written
      (sym (ap (λ (d : Course). d.written) (f_is c)) ∙ none)

  module _ (c : Course) (counts : ℕ → ℕ) (n : Network) (counts_then : ℕ → ℕ)
      (strings strings_then : List (List ℕ))
      (first : ComesTo c counts n counts_then strings strings_then) where
    f_at : f c ≡ joined c (f (course_from n))
    f_at = f_is c ∙ ap (λ (m : Network). joined c (f (course_from m))) first.network

    sent_at : (f c).sent ≡ c.sent ++ (f (course_from n)).sent
    sent_at = ap (λ (d : Course). d.sent) f_at

    strings_at : map plain_spelling (f c).sent
        ≡ map plain_spelling c.sent ++ map plain_spelling (f (course_from n)).sent
    strings_at =
        ap (map plain_spelling) sent_at ∙ map-append plain_spelling c.sent (f (course_from n)).sent

    written_twice : (ps qs : List Packet) → AreWritable ps → AreWritable qs → AreWritable (ps ++ qs)
    written_twice [] qs a b = b
    written_twice (p ∷ ps) qs a b = (a.0, written_twice ps qs a.1 b)

    -- the second part went well too
    pub comes_then : (n_now : Network) (counts_now : ℕ → ℕ) (strings_now : List (List ℕ))
        → ComesTo (f (course_from n)) counts_then n_now counts_now strings_then strings_now
        → ComesTo (f c) counts n_now counts_now strings strings_now
    comes_then n_now counts_now strings_now second = record {
      network = ap (λ (d : Course). d.network) f_at ∙ second.network;
      counted = subst (λ (d : Course). CountsGo counts counts_now d.written) (sym f_at)
          (counts_joined counts counts_then counts_now c.written
          (f (course_from n)).written first.counted second.counted);
      posted = second.posted ∙ ap
          (λ (ss : List (List ℕ)). ss ++ map plain_spelling (f (course_from n)).sent) first.posted
          ∙ append_assoc strings (map plain_spelling c.sent)
          (map plain_spelling (f (course_from n)).sent)
          ∙ ap (λ (ss : List (List ℕ)). strings ++ ss) (sym strings_at);
      writable = subst AreWritable (sym sent_at)
          (written_twice c.sent (f (course_from n)).sent first.writable second.writable);
      within = second.within;
    }

    -- or it came short
    pub short_then : {T : Type 0} (strings_now : List (List ℕ)) (r : Result T PostFault)
        → IsShort (map plain_spelling (f (course_from n)).sent) strings_then strings_now r
        → IsShort (map plain_spelling (f c).sent) strings strings_now r
    short_then strings_now (Ok done) short = tt
    short_then strings_now (Err post.NetFull) cut = record {
      front = map plain_spelling c.sent ++ cut.front;
      next = cut.next;
      rest = cut.rest;
      wanted_are =
          strings_at ∙ ap (λ (ss : List (List ℕ)). map plain_spelling c.sent ++ ss) cut.wanted_are
          ∙ sym (append_assoc (map plain_spelling c.sent) cut.front (cut.next ∷ cut.rest));
      added = cut.added ∙ ap (λ (ss : List (List ℕ)). ss ++ cut.front) first.posted
          ∙ append_assoc strings (map plain_spelling c.sent) cut.front;
      full = cut.full;
    }
    short_then strings_now (Err post.Memory) short = record {
      front = map plain_spelling c.sent ++ short.front;
      rest = short.rest;
      wanted_are =
          strings_at ∙ ap (λ (ss : List (List ℕ)). map plain_spelling c.sent ++ ss) short.wanted_are
          ∙ sym (append_assoc (map plain_spelling c.sent) short.front short.rest);
      added = short.added ∙ ap (λ (ss : List (List ℕ)). ss ++ short.front) first.posted
          ∙ append_assoc strings (map plain_spelling c.sent) short.front;
    }

  -- the first part came short
  pub short_before : {T : Type 0} (c : Course) (strings strings_now : List (List ℕ))
      (r : Result T PostFault) → IsShort (map plain_spelling c.sent) strings strings_now r
      → IsShort (map plain_spelling (f c).sent) strings strings_now r
  short_before {T} c strings strings_now r short = at r short
    where
      more : map plain_spelling (f c).sent
          ≡ map plain_spelling c.sent ++ map plain_spelling (f (course_from c.network)).sent
      more = ap (λ (d : Course). map plain_spelling d.sent) (f_is c)
          ∙ map-append plain_spelling c.sent (f (course_from c.network)).sent

      at : (q : Result T PostFault) → IsShort (map plain_spelling c.sent) strings strings_now q
          → IsShort (map plain_spelling (f c).sent) strings strings_now q
      at (Ok done) s = tt
      at (Err post.NetFull) cut = record {
        front = cut.front;
        next = cut.next;
        rest = cut.rest ++ map plain_spelling (f (course_from c.network)).sent;
        wanted_are = more
            ∙ ap (λ (ss : List (List ℕ)). ss ++ map plain_spelling (f (course_from c.network)).sent)
            cut.wanted_are
            ∙ append_assoc cut.front (cut.next ∷ cut.rest)
            (map plain_spelling (f (course_from c.network)).sent);
        added = cut.added;
        full = cut.full;
      }
      at (Err post.Memory) s = record {
        front = s.front;
        rest = s.rest ++ map plain_spelling (f (course_from c.network)).sent;
        wanted_are = more
            ∙ ap (λ (ss : List (List ℕ)). ss ++ map plain_spelling (f (course_from c.network)).sent)
            s.wanted_are
            ∙ append_assoc s.front s.rest (map plain_spelling (f (course_from c.network)).sent);
        added = s.added;
      }

-- A flow that writes no record.

never_below : (a : ℕ) → nat_lt a 0 ≡ true → ⊥
never_below a below =
    let not : nat_lt a 0 ≡ false = grind (arith, nat_tests) in let no : ⊥ = cc in no

only_well : (l : Choice) → may_fail 0 l ≡ true → l ≡ Well
only_well Well may = refl
only_well (Fails a how) may = absurd (never_below a may)
only_well l may = absurd (let no : ⊥ = cc in no)

module _ (n : Network) (counts : ℕ → ℕ) (n_now : Network) (counts_now : ℕ → ℕ) (i now : ℕ)
    (strings strings_now : List (List ℕ)) (given : Reply)
    (step : IsStep n counts None (Flow i now) n_now counts_now strings strings_now given)
    (quiet : (flow i now Well (course_from n)).after.written ≡ []) where
  choice_is : step.choice ≡ Well
  choice_is = only_well step.choice
      (ap (λ (ws : List Written). may_fail (length ws) step.choice) (sym quiet) ∙ step.may)

  -- no disk failed in it
  pub flow_comes :
      ComesTo (flow i now Well (course_from n)).after counts n_now counts_now strings strings_now
  flow_comes = subst (λ (l : Choice). ComesTo (flow i now l (course_from n)).after counts n_now
      counts_now strings strings_now) choice_is (record {
        network = step.network;
        counted = step.counted;
        posted = step.posted;
        writable = step.writable;
        within = step.within;
      })

  pub flow_told : told (flow i now Well (course_from n)).reply ≡ Ok given
  flow_told =
      ap (λ (l : Choice). told (flow i now l (course_from n)).reply) (sym choice_is) ∙ step.reply

-- Where no disk fails, none is told.

abbrev tells_of : Delivery → Option Failure
tells_of delivery = failure_told (outcome_of delivery)

-- what became of one packet
abbrev WentWell : Delivered → Type 0
WentWell d = (d.left ≡ Well) × (tells_of d.delivery ≡ None)

-- and of all so far
abbrev AreWell : Passing → Type 0
AreWell t = (t.left ≡ Well)
    × ((notes : List Note) (q : ℕ) → failures_at notes q (map arrival_of t.arrivals) ≡ [])

well_heard : (r : Result Heard HearFault) (ls : List Line) → tells_of (heard_with r ls) ≡ None
well_heard (Ok heard) ls = refl
well_heard (Err why) ls = refl

well_passed : (note : Note) (p : Packet) (now : ℕ) (c : Course)
    → WentWell (passed note p now Well c)
well_passed note p now c = at (is_underway c.network note)
  where
    o : HeardOutcome
    o = hear (manager_at c.network note.receiver) p now

    at : (b : Bool) → WentWell (cond b (heard_by note.receiver o Well c) (unheard Well c))
    at true = (refl, well_heard o.answer (lines_at note.receiver o c))
    at false = (refl, refl)

well_delivered : (o : Option Note) (p : Packet) (now : ℕ) (l : Choice) (c : Course) → l ≡ Well
    → WentWell (option_map_or (λ note. passed note p now l c) o (unheard l c))
well_delivered o p now l c is =
    subst (λ (k : Choice). WentWell (option_map_or (λ note. passed note p now k c) o (unheard k c)))
    (sym is) (at o)
  where
    at : (x : Option Note)
        → WentWell (option_map_or (λ note. passed note p now Well c) x (unheard Well c))
    at None = (refl, refl)
    at (Some note) = well_passed note p now c

none_more : (b : Bool) (f : Option Failure) → f ≡ None → cons_option (cond b f None) [] ≡ []
none_more true f none = ap (λ (g : Option Failure). cons_option g []) none
none_more false f none = refl

well_on : (now : ℕ) (t : Passing) (x : ℕ × Packet) → AreWell t → AreWell (passed_on now t x)
well_on now t x (left, all) = (
  one.0,
  λ notes q. ap (failures_at notes q) (map-append arrival_of t.arrivals (last ∷ []))
      ∙ filter_map-append (failure_at notes q) (map arrival_of t.arrivals) (arrival_of last ∷ [])
      ∙ ap (λ (fs : List Failure). fs ++ cons_option (failure_at notes q (arrival_of last)) [])
      (all notes q)
      ∙ none_more (is_for notes q x.0) (tells_of d.delivery) one.1,
)
  where
    d : Delivered
    d = option_map_or (λ note. passed note x.1 now t.left t.after)
        (numbered t.after.network.notes x.0) (unheard t.left t.after)

    one : WentWell (option_map_or (λ note. passed note x.1 now t.left t.after)
        (numbered t.after.network.notes x.0) (unheard t.left t.after))
    one = well_delivered (numbered t.after.network.notes x.0) x.1 now t.left t.after left

    last : network.Arrival
    last = record { packet = x.0; delivery = d.delivery }

all_well : (now : ℕ) (t : Passing) (given : List (ℕ × Packet)) → AreWell t
    → AreWell (fold (passed_on now) t given)
all_well now t [] well = well
all_well now t (x ∷ given) well = all_well now (passed_on now t x) given (well_on now t x well)

refused_tells : (notes : List Note) (i q : ℕ) (why : PumpFault) (given : Reply)
    → told (network.NotPumped why) ≡ Ok given → failures_in notes i q given ≡ []
refused_tells notes i q pump_fault.Memory given is = absurd (let no : ⊥ = cc in no)
refused_tells notes i q pump_fault.DiskFault given is = absurd (let no : ⊥ = cc in no)
refused_tells notes i q why given is = ap (failures_in notes i q) (sym (oks is))

pub flow_tells_none : (n : Network) (i now : ℕ) (given : Reply)
    → told (flow i now Well (course_from n)).reply ≡ Ok given
    → (notes : List Note) (q : ℕ) → failures_in notes i q given ≡ []
flow_tells_none n i now given is notes q = by o.answer refl is
  where
    o : PumpOutcome
    o = pump (manager_at n i) now

    by : (r : Result ℕ PumpFault) → o.answer ≡ r
        → told (flow_by i now o Well (course_from n) r).reply ≡ Ok given
        → failures_in notes i q given ≡ []
    by (Err why) e t = refused_tells notes i q why given (ap (λ (r : Result ℕ PumpFault).
        told (pumped (length n.notes) r (lines_at i o (course_from n)))) (sym e) ∙ t)
    by (Ok count) e t = ap (failures_in notes i q) (sym (oks t))
        ∙ (all_well now (record {
          arrivals = [];
          after = (pump_by i now o Well (course_from n)).after;
          left = Well;
        }) (enumerate_from (length n.notes + 1) o.packets) (refl, λ notes q. refl)).1 notes q

-- No connection comes in a flow.

ended_none : (i : ℕ) (n : Network) → n.connections ≡ [] → (ended i n).connections ≡ []
ended_none i n none = at (connection_of n i)
  where
    at : (o : Option Connection) → (option_map_or (ended_by n) o n).connections ≡ []
    at None = none
    at (Some d) = ap (filter (λ (x : Connection). not (x.number == d.number))) none

noted_none : (i now count : ℕ) (n : Network) → n.connections ≡ []
    → (noted i now count n).connections ≡ []
noted_none i now count n none = at (connection_of n i)
  where
    at : (o : Option Connection) → (option_map_or
        (λ (d : Connection). record n { notes = n.notes ++ replicate count (note_by i now d) }) o
        n).connections ≡ []
    at None = none
    at (Some d) = none

passed_none : (note : Note) (p : Packet) (now : ℕ) (l : Choice) (c : Course)
    → c.network.connections ≡ [] → (passed note p now l c).after.network.connections ≡ []
passed_none note p now l c none = at (is_underway c.network note)
  where
    o : HeardOutcome
    o = hear (manager_at c.network note.receiver) p now

    called_none : (f : Option Failure)
        → (called_unless note.receiver o f c).network.connections ≡ []
    called_none None = none
    called_none (Some how) = ended_none note.receiver
        (with_manager c.network note.receiver (failed (manager_at c.network note.receiver) o)) none

    heard_none : (b : Bool) → (cond b (moved (ended note.receiver) (called note.receiver o l c))
        (called note.receiver o l c)).network.connections ≡ []
    heard_none true =
        ended_none note.receiver (called note.receiver o l c).network (called_none (failure_in l o))
    heard_none false = called_none (failure_in l o)

    at : (b : Bool)
        → (cond b (heard_by note.receiver o l c) (unheard l c)).after.network.connections ≡ []
    at true = heard_none (closes o.answer)
    at false = none

all_none : (now : ℕ) (t : Passing) (given : List (ℕ × Packet)) → t.after.network.connections ≡ []
    → (fold (passed_on now) t given).after.network.connections ≡ []
all_none now t [] none = none
all_none now t (x ∷ given) none =
    all_none now (passed_on now t x) given (at (numbered t.after.network.notes x.0))
  where
    at : (o : Option Note) → (option_map_or (λ note. passed note x.1 now t.left t.after) o
        (unheard t.left t.after)).after.network.connections ≡ []
    at None = none
    at (Some note) = passed_none note x.1 now t.left t.after none

pub flow_none : (i now : ℕ) (c : Course) → c.network.connections ≡ []
    → (flow i now Well c).after.network.connections ≡ []
flow_none i now c none = at o.answer
  where
    o : PumpOutcome
    o = pump (manager_at c.network i) now

    sent_none : (pump_by i now o Well c).after.network.connections ≡ []
    sent_none = noted_none i now (length o.packets) (succeeded_at i o c.network) none

    at : (r : Result ℕ PumpFault) → (flow_by i now o Well c r).after.network.connections ≡ []
    at (Err why) = sent_none
    at (Ok count) =
        all_none now (record { arrivals = []; after = (pump_by i now o Well c).after; left = Well })
        (enumerate_from (length c.network.notes + 1) o.packets) sent_none
