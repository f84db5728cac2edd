-- A pump whose packets are delivered at once is one step.
use Rattle.std.proofs.Common.{◌≡◌, ℕ, zero, suc, ◌+◌, Bool, true, List, [], ◌∷◌, ◌++◌, Option, Some, None, Result, Ok, Err, length, refl, sym, ap, subst, ◌∙◌, arith, length-append}
use Rattle.std.proofs.lemmas.List.{length-map}
use Rattle.std.specs.Option.{option_map_or}
use Rattle.std.specs.Prelude.{IfOk, find, is_some, map, replicate}
use Rattle.mqb_deliveries.specs.Failing.{FailsAs, failures_at, failures_in}
use Rattle.mqb_deliveries.specs.lemmas.Flowed.{all_packets, all_spelled, all_writable, are_packets, broke_step, flow_sends, pumped_course, refused_step, went_short, went_step}
use Rattle.mqb_deliveries.specs.Flows.{Flown, sent_behind}
use Rattle.mqb_deliveries.specs.Steps.{FallsShort, IsStep, strings_in}
use Rattle.mqb_outside.specs.Disk.{View}
use Rattle.mqb_model.specs.calls.pump.Pump.{PumpOutcome, pump, pump_linked, pump_refusal}
use Rattle.mqb_model.specs.declared.faults.PumpFault.{PumpFault}
use Rattle.mqb_model.specs.declared.faults.PumpFault.TheVariants as fault
use Rattle.mqb_model.specs.laws.Refusals.{RefusalsChangeNothing}
use Rattle.mqb_model.specs.managers.Manager.{Manager}
use Rattle.mqb_model.specs.managers.Outcomes.{answering, failed, unless}
use Rattle.mqb_moves.specs.Seats.{seated}
use Rattle.mqb_network.specs.Changes.{ended, ended_by, note_by, noted, succeeded_at}
use Rattle.mqb_network.specs.Choices.{Failure}
use Rattle.mqb_network.specs.Courses.{Course}
use Rattle.mqb_network.specs.Events.{Flow}
use Rattle.mqb_network.specs.Network.{Connection, Network, Note, connection_of, is_end, manager_at, with_manager}
use Rattle.mqb_packet.specs.Plain.{plain_spelling}
use Rattle.mqb_packet.specs.declared.packet.Packet.{Packet}
use Rattle.mqb_posts.specs.Packets.{ArePackets, AreWritable}
use Rattle.mqb_posts.specs.Posting.{HasFront, IsCutOff}
use Rattle.mqb_posts.specs.declared.faults.PostFault.{PostFault}
use Rattle.mqb_posts.specs.declared.faults.PostFault.TheVariants as post
use Rattle.mqb_script.specs.declared.managers.Which.{Which}
use Rattle.mqb_script.specs.declared.managers.Which.TheVariants.{Alpha, Beta}
use Rattle.mqb_turns.specs.mqb_seats.Called.{failure_of}
use Rattle.mqb_turns.specs.mqb_seats.Pumped.{packets_by, pump_fault_reply}
use Rattle.mqb_turns.specs.mqb_seats.declared.called.Failure.{Failure as HowItFailed}
use Rattle.mqb_turns.specs.mqb_seats.declared.called.Failure.TheVariants as how_it
use Rattle.mqb_turns.specs.mqb_seats.declared.packets.Pumped.{Pumped}
use Rattle.mqb_turns.specs.mqb_seats.declared.packets.Pumped.TheVariants.{Broke, Refused, Went}
use Rattle.mqb_traffic.specs.Networks as traffic
use Rattle.mqb_traffic.specs.Networks.{connections_of, index_of, note_of, notes_of}
use Rattle.mqb_traffic.specs.declared.notes.Link.{Link}
use Rattle.mqb_transcript.specs.declared.arrivals.Arrival.{Arrival}
use Rattle.mqb_transcript.specs.declared.replies.Reply.{Reply}
use Rattle.mqb_transcript.specs.declared.replies.Reply.TheVariants as reply
use Rattle.mqb_turns.specs.Counts.{counts_at}
use Rattle.mqb_turns.specs.Replies.{failure_reply}
use Rattle.mqb_turns.specs.Sends.{ComesShort, IsSent, pump_at}
use Rattle.mqb_turns.specs.Sides.{Side, network_at}
use Rattle.mqb_world.specs.Flowing.{Flows}
use Rattle.mqb_world.specs.Sides.{AreUnlinked, SentBy, side_of}
use Rattle.mqb_world.specs.Worlds.{WorldState, counts_of, network_of}

-- How many notes there are.

notes_at : (which : Which) (x : Side) → length (network_at which x).notes ≡ length x.traffic.notes
notes_at Alpha x = length-map x.traffic.notes note_of
notes_at Beta x = length-map x.traffic.notes note_of

connections_at : (which : Which) (x : Side) → (network_at which x).connections ≡ connections_of x.traffic.link
connections_at Alpha x = refl
connections_at Beta x = refl

ends_at : (which initiator : Which) (number : ℕ) → let l : Link = record { number = number; initiator = initiator } in is_some (find (is_end (index_of which)) (traffic.connection_of l ∷ [])) ≡ true
ends_at Alpha Alpha number = refl
ends_at Alpha Beta number = refl
ends_at Beta Alpha number = refl
ends_at Beta Beta number = refl

so_many : (k : ℕ) (x : Note) → length (replicate k x) ≡ k
so_many zero x = refl
so_many (suc k) x = ap suc (so_many k x)

noted_longer : (which : Which) (l : Link) (now k : ℕ) (m : Network) → m.connections ≡ connections_of (Some l) → length (noted (index_of which) now k m).notes ≡ length m.notes + k
noted_longer which l now k m are = at (connection_of m (index_of which)) (ap (λ (cs : List Connection). is_some (find (is_end (index_of which)) cs)) are ∙ ends_at which l.initiator l.number)
  where
    at : (o : Option Connection) → is_some o ≡ true
        → length (option_map_or (λ (d : Connection). record m { notes = m.notes ++ replicate k (note_by (index_of which) now d) }) o m).notes ≡ length m.notes + k
    at (Some d) some = length-append m.notes (replicate k (note_by (index_of which) now d)) ∙ ap (λ (j : ℕ). length m.notes + j) (so_many k (note_by (index_of which) now d))
    at None some = absurd (let no : ⊥ = cc in no)

ended_notes : (i : ℕ) (n : Network) → (ended i n).notes ≡ n.notes
ended_notes i n = at (connection_of n i)
  where
    at : (o : Option Connection) → (option_map_or (ended_by n) o n).notes ≡ n.notes
    at None = refl
    at (Some d) = refl

-- a manager without a session sends nothing
refused_alone : (m : Manager) (now : ℕ) → m.rest.session ≡ None → (why : PumpFault) × ((pump m now).answer ≡ Err why)
refused_alone m now free = (at.0, ap (λ o. (unless m (pump_refusal m) (option_map_or (pump_linked m now) o (answering m (Err fault.NotLinked)))).answer) free ∙ at.1)
  where
    by : (r : Option PumpFault) → (why : PumpFault) × ((unless {V = ℕ} m r (answering m (Err fault.NotLinked))).answer ≡ Err why)
    by None = (fault.NotLinked, refl)
    by (Some f) = (f, refl)

    at : (why : PumpFault) × ((unless {V = ℕ} m (pump_refusal m) (answering m (Err fault.NotLinked))).answer ≡ Err why)
    at = by (pump_refusal m)

module _ (which : Which) (x y : Side) (d e : View) (stopped : Bool) (strings strings_now : List (List ℕ)) (now : ℕ) where
  abbrev i : ℕ
  i = index_of which

  abbrev n : Network
  n = network_at which x

  abbrev o : PumpOutcome
  o = pump_at which x now

  strings_are : (q : Pumped) → IsSent which x y d e stopped strings strings_now now q → length strings_now ≡ length strings + length (packets_by o q)
  strings_are q sent = ap length sent.posted ∙ length-append strings (map plain_spelling (packets_by o q)) ∙ ap (λ (k : ℕ). length strings + k) (length-map (packets_by o q) plain_spelling)

  went_notes : (count : ℕ) (recorded : Bool) → IsSent which x y d e stopped strings strings_now now (Went count recorded) → (x.traffic.link ≡ None → (seated x.own).rest.session ≡ None)
      → length y.traffic.notes ≡ length x.traffic.notes + count
  went_notes count recorded sent free = at x.traffic.link refl
    where
      never : (r : Result ℕ PumpFault) (why : PumpFault) → r ≡ Ok count → r ≡ Err why → ⊥
      never (Ok k) why ok err = let no : ⊥ = cc in no
      never (Err f) why ok err = let no : ⊥ = cc in no

      at : (link : Option Link) → x.traffic.link ≡ link → length y.traffic.notes ≡ length x.traffic.notes + count
      at None none = let refused = refused_alone (seated x.own) now (free none) in absurd (never o.answer refused.0 sent.leaves.0 refused.1)
      at (Some l) is = sym (notes_at which y) ∙ ap (λ (m : Network). length m.notes) (sym sent.leaves.2)
          ∙ noted_longer which l now (length o.packets) (succeeded_at i o n) (connections_at which x ∙ ap connections_of is)
          ∙ ap (λ (k : ℕ). k + length o.packets) (notes_at which x) ∙ ap (λ (k : ℕ). length x.traffic.notes + k) (sym sent.leaves.1)

  -- there is one for each packet
  went_noted : (count : ℕ) (recorded : Bool) → IsSent which x y d e stopped strings strings_now now (Went count recorded) → (x.traffic.link ≡ None → (seated x.own).rest.session ≡ None)
      → length x.traffic.notes ≡ length strings → length y.traffic.notes ≡ length strings_now
  went_noted count recorded sent free noted = let notes = went_notes count recorded sent free in let strings = strings_are (Went count recorded) sent in
      let counted = sent.leaves.1 in omega (arith, notes, strings, counted, noted)

  refused_noted : (given : Reply) → IsSent which x y d e stopped strings strings_now now (Refused given) → length x.traffic.notes ≡ length strings → length y.traffic.notes ≡ length strings_now
  refused_noted given sent noted = let notes = sym (notes_at which y) ∙ ap (λ (m : Network). length m.notes) sent.leaves.2 ∙ notes_at which x in
      let strings = strings_are (Refused given) sent in omega (arith, notes, strings, noted)

  broke_noted : (how : HowItFailed) → IsSent which x y d e stopped strings strings_now now (Broke how) → length x.traffic.notes ≡ length strings → length y.traffic.notes ≡ length strings_now
  broke_noted how sent noted = let notes = sym (notes_at which y) ∙ ap (λ (m : Network). length m.notes) (sym sent.leaves.1)
      ∙ ap (λ (ns : List Note). length ns) (ended_notes i (with_manager n i (failed (manager_at n i) o))) ∙ notes_at which x in
      let strings = strings_are (Broke how) sent in omega (arith, notes, strings, noted)

  -- the packets that went are delivered
  module _ (law : RefusalsChangeNothing) (count : ℕ) (recorded : Bool) (sent : IsSent which x y d e stopped strings strings_now now (Went count recorded)) (noted : length x.traffic.notes ≡ length strings)
      (packets : ArePackets strings) where
    is_noted : length (network_at which x).notes ≡ length strings
    is_noted = notes_at which x ∙ noted

    abbrev all : List Packet
    all = all_packets which x y d e stopped strings strings_now now law count recorded sent is_noted packets

    abbrev course : Course
    course = pumped_course which x y d e stopped strings strings_now now law count recorded sent is_noted packets

    went_at : (m : Network) (counts_now : ℕ → ℕ) (arrivals : List Arrival) (before : ℕ) → before ≡ length x.traffic.notes
        → ((ps : List Packet) → AreWritable ps → strings_now ≡ map plain_spelling ps → (c : Course) → c.network ≡ network_at which y
        → Flown (counts_at which y) counts_now c now (sent_behind ps before count) arrivals m)
        → IsStep (network_at which x) (counts_at which x) None (Flow (index_of which) now) m counts_now strings strings_now (reply.Flowed arrivals)
    went_at m counts_now arrivals before number flown = went_step which x y d e stopped strings strings_now now law count recorded sent is_noted packets m counts_now arrivals
        (subst (λ (k : ℕ). Flown (counts_at which y) counts_now course now (sent_behind all k count) arrivals m) (number ∙ sym (notes_at which x))
        (flown all (all_writable which x y d e stopped strings strings_now now law count recorded sent is_noted packets)
        (all_spelled which x y d e stopped strings strings_now now law count recorded sent is_noted packets) course refl))

    are_all : ArePackets strings_now
    are_all = are_packets which x y d e stopped strings strings_now now law count recorded sent is_noted packets

    short_at : HasFront strings strings_now (strings_in (network_at which x) None (Flow (index_of which) now))
    short_at = went_short which x y d e stopped strings strings_now now law count recorded sent is_noted packets

wanted : (which : Which) (x : Side) (now : ℕ) → map plain_spelling (pump_at which x now).packets ≡ strings_in (network_at which x) None (Flow (index_of which) now)
wanted Alpha x now = ap (map plain_spelling) (sym (flow_sends (network_at Alpha x) 0 now))
wanted Beta x now = ap (map plain_spelling) (sym (flow_sends (network_at Beta x) 1 now))

-- a pump that comes short does in the flow
short_of : (which : Which) (x : Side) (strings strings_now : List (List ℕ)) (now : ℕ) (why : PostFault) → ComesShort {T = Pumped} strings strings_now (pump_at which x now) (Err why)
    → FallsShort {T = Reply} (network_at which x) None (Flow (index_of which) now) strings strings_now (Err why)
short_of which x strings strings_now now post.NetFull cut = subst (IsCutOff strings strings_now) (wanted which x now) cut
short_of which x strings strings_now now post.Memory front = subst (HasFront strings strings_now) (wanted which x now) front

oks : {A E : Type 0} {a b : A} → ◌≡◌ {A = Result A E} (Ok a) (Ok b) → a ≡ b
oks same = cc

-- Of a world.

module _ (which : Which) (w v : WorldState) (d e f g : View) (s t : Bool) (strings strings_now : List (List ℕ)) (now : ℕ) where
  abbrev By : Pumped → Type 0
  By q = SentBy which w v d e f g s t strings strings_now now q

  abbrev Steps : WorldState → Reply → Type 0
  Steps u given = IsStep (network_of w) (counts_of w) None (Flow (index_of which) now) (network_of u) (counts_of u) strings strings_now given

-- none went
pub refused_flow : (which : Which) (w v : WorldState) (d e f g : View) (s t : Bool) (strings strings_now : List (List ℕ)) (now : ℕ) (given : Reply)
    → By which w v d e f g s t strings strings_now now (Refused given) → Steps which w v d e f g s t strings strings_now now v given
refused_flow Alpha w v d e f g s t strings strings_now now given sent = refused_step Alpha (side_of w Alpha) (side_of v Alpha) d e s strings strings_now now given sent.0
refused_flow Beta w v d e f g s t strings strings_now now given sent = refused_step Beta (side_of w Beta) (side_of v Beta) f g t strings strings_now now given sent.0

pub broke_flow : RefusalsChangeNothing → (which : Which) (w v : WorldState) (d e f g : View) (s t : Bool) (strings strings_now : List (List ℕ)) (now : ℕ) (how : HowItFailed)
    → By which w v d e f g s t strings strings_now now (Broke how) → Steps which w v d e f g s t strings strings_now now v (failure_reply (failure_of how))
broke_flow law Alpha w v d e f g s t strings strings_now now how sent = broke_step Alpha (side_of w Alpha) (side_of v Alpha) d e s strings strings_now now law how sent.0
broke_flow law Beta w v d e f g s t strings strings_now now how sent = broke_step Beta (side_of w Beta) (side_of v Beta) f g t strings strings_now now law how sent.0

-- packets went
module _ (w v : WorldState) (d e f g : View) (s t : Bool) (strings strings_now : List (List ℕ)) (now count : ℕ) (recorded : Bool)
    (noted : length w.traffic.notes ≡ length strings) where
  abbrev WentBy : Which → Type 0
  WentBy which = SentBy which w v d e f g s t strings strings_now now (Went count recorded)

  pub went_length : (which : Which) → AreUnlinked w → WentBy which → length v.traffic.notes ≡ length w.traffic.notes + count
  went_length Alpha free sent = went_notes Alpha (side_of w Alpha) (side_of v Alpha) d e s strings strings_now now count recorded sent.0 free.alpha
  went_length Beta free sent = went_notes Beta (side_of w Beta) (side_of v Beta) f g t strings strings_now now count recorded sent.0 free.beta

  pub went_for_each : (which : Which) → AreUnlinked w → WentBy which → length v.traffic.notes ≡ length strings_now
  went_for_each Alpha free sent = went_noted Alpha (side_of w Alpha) (side_of v Alpha) d e s strings strings_now now count recorded sent.0 free.alpha noted
  went_for_each Beta free sent = went_noted Beta (side_of w Beta) (side_of v Beta) f g t strings strings_now now count recorded sent.0 free.beta noted

  went_faults : (which : Which) → WentBy which → (e.faults ≡ d.faults) × (g.faults ≡ f.faults)
  went_faults Alpha sent = (sent.0.faults, sent.1)
  went_faults Beta sent = (sent.1, sent.0.faults)

  module _ (law : RefusalsChangeNothing) (packets : ArePackets strings) where
    pub went_packets : (which : Which) → WentBy which → ArePackets strings_now
    went_packets Alpha sent = are_all Alpha (side_of w Alpha) (side_of v Alpha) d e s strings strings_now now law count recorded sent.0 noted packets
    went_packets Beta sent = are_all Beta (side_of w Beta) (side_of v Beta) f g t strings strings_now now law count recorded sent.0 noted packets

    pub went_front : (which : Which) → WentBy which → FallsShort {T = Reply} (network_of w) None (Flow (index_of which) now) strings strings_now (Err post.Memory)
    went_front Alpha sent = short_at Alpha (side_of w Alpha) (side_of v Alpha) d e s strings strings_now now law count recorded sent.0 noted packets
    went_front Beta sent = short_at Beta (side_of w Beta) (side_of v Beta) f g t strings strings_now now law count recorded sent.0 noted packets

    module _ (u : WorldState) (e1 g1 : View) (s1 t1 : Bool) (before : ℕ) (arrivals : List Arrival) (number : before ≡ length w.traffic.notes)
        (flows : Flows v u e e1 g g1 s1 t1 strings_now now before count arrivals) where
      pub went_flow : (which : Which) → WentBy which → IsStep (network_of w) (counts_of w) None (Flow (index_of which) now) (network_of u) (counts_of u) strings strings_now (reply.Flowed arrivals)
      went_flow Alpha sent = went_at Alpha (side_of w Alpha) (side_of v Alpha) d e s strings strings_now now law count recorded sent.0 noted packets (network_of u) (counts_of u) arrivals before number flows.flown
      went_flow Beta sent = went_at Beta (side_of w Beta) (side_of v Beta) f g t strings strings_now now law count recorded sent.0 noted packets (network_of u) (counts_of u) arrivals before number flows.flown

      -- how the disks failed
      pub went_alpha : (which : Which) → WentBy which → FailsAs (failures_at (notes_of u.traffic) 0 arrivals) s1 d.faults e1.faults
      went_alpha which sent = subst (λ (notes : List Note). FailsAs (failures_at notes 0 arrivals) s1 d.faults e1.faults) (sym flows.notes)
          (subst (λ (k : ℕ). FailsAs (failures_at (network_of v).notes 0 arrivals) s1 k e1.faults) (went_faults which sent).0 flows.alpha_faults)

      pub went_beta : (which : Which) → WentBy which → FailsAs (failures_at (notes_of u.traffic) 1 arrivals) t1 f.faults g1.faults
      went_beta which sent = subst (λ (notes : List Note). FailsAs (failures_at notes 1 arrivals) t1 f.faults g1.faults) (sym flows.notes)
          (subst (λ (k : ℕ). FailsAs (failures_at (network_of v).notes 1 arrivals) t1 k g1.faults) (went_faults which sent).1 flows.beta_faults)

-- None went.

tells_none : (notes : List Note) (i q : ℕ) (why : PumpFault) (given : Reply) → pump_fault_reply why ≡ Ok given → failures_in notes i q given ≡ []
tells_none notes i q fault.Memory given is = absurd (let no : ⊥ = cc in no)
tells_none notes i q fault.DiskFault given is = absurd (let no : ⊥ = cc in no)
tells_none notes i q why given is = ap (failures_in notes i q) (sym (oks is))

module _ (w v : WorldState) (d e f g : View) (s t : Bool) (strings strings_now : List (List ℕ)) (now : ℕ) (notes : List Note) where
  abbrev RefusedBy : Which → Reply → Type 0
  RefusedBy which given = SentBy which w v d e f g s t strings strings_now now (Refused given)

  abbrev BrokeBy : Which → HowItFailed → Type 0
  BrokeBy which how = SentBy which w v d e f g s t strings strings_now now (Broke how)

  pub refused_for_each : (which : Which) (given : Reply) → length w.traffic.notes ≡ length strings → RefusedBy which given → length v.traffic.notes ≡ length strings_now
  refused_for_each Alpha given noted sent = refused_noted Alpha (side_of w Alpha) (side_of v Alpha) d e s strings strings_now now given sent.0 noted
  refused_for_each Beta given noted sent = refused_noted Beta (side_of w Beta) (side_of v Beta) f g t strings strings_now now given sent.0 noted

  pub broke_for_each : (which : Which) (how : HowItFailed) → length w.traffic.notes ≡ length strings → BrokeBy which how → length v.traffic.notes ≡ length strings_now
  broke_for_each Alpha how noted sent = broke_noted Alpha (side_of w Alpha) (side_of v Alpha) d e s strings strings_now now how sent.0 noted
  broke_for_each Beta how noted sent = broke_noted Beta (side_of w Beta) (side_of v Beta) f g t strings strings_now now how sent.0 noted

  -- no disk failed
  none_fails : (fs : List Failure) (b : Bool) (j k : ℕ) → fs ≡ [] → k ≡ j → FailsAs fs b j k
  none_fails fs b j k none same = subst (λ (hs : List Failure). FailsAs hs b j k) (sym none) same

  pub refused_alpha : (which : Which) (given : Reply) → RefusedBy which given → FailsAs (failures_in notes (index_of which) 0 given) s d.faults e.faults
  refused_alpha Alpha given sent = none_fails (failures_in notes 0 0 given) s d.faults e.faults (tells_none notes 0 0 sent.0.leaves.0.why given sent.0.leaves.0.told) sent.0.faults
  refused_alpha Beta given sent = none_fails (failures_in notes 1 0 given) s d.faults e.faults (tells_none notes 1 0 sent.0.leaves.0.why given sent.0.leaves.0.told) sent.1

  pub refused_beta : (which : Which) (given : Reply) → RefusedBy which given → FailsAs (failures_in notes (index_of which) 1 given) t f.faults g.faults
  refused_beta Alpha given sent = none_fails (failures_in notes 0 1 given) t f.faults g.faults (tells_none notes 0 1 sent.0.leaves.0.why given sent.0.leaves.0.told) sent.1
  refused_beta Beta given sent = none_fails (failures_in notes 1 1 given) t f.faults g.faults (tells_none notes 1 1 sent.0.leaves.0.why given sent.0.leaves.0.told) sent.0.faults

  -- the one that was called did
  pub broke_alpha : (which : Which) (how : HowItFailed) → BrokeBy which how → FailsAs (failures_in notes (index_of which) 0 (failure_reply (failure_of how))) s d.faults e.faults
  broke_alpha Alpha how_it.Stopped sent = (sent.0.faults.0, ap failure_of sent.0.faults.1)
  broke_alpha Alpha how_it.Failed sent = (sent.0.faults.0, ap failure_of sent.0.faults.1)
  broke_alpha Beta how_it.Stopped sent = sent.1
  broke_alpha Beta how_it.Failed sent = sent.1

  pub broke_beta : (which : Which) (how : HowItFailed) → BrokeBy which how → FailsAs (failures_in notes (index_of which) 1 (failure_reply (failure_of how))) t f.faults g.faults
  broke_beta Alpha how_it.Stopped sent = sent.1
  broke_beta Alpha how_it.Failed sent = sent.1
  broke_beta Beta how_it.Stopped sent = (sent.0.faults.0, ap failure_of sent.0.faults.1)
  broke_beta Beta how_it.Failed sent = (sent.0.faults.0, ap failure_of sent.0.faults.1)

-- The pump comes short.
pub flow_short : (which : Which) (w : WorldState) (strings strings_now : List (List ℕ)) (now : ℕ) (why : PostFault)
    → ComesShort {T = Pumped} strings strings_now (pump_at which (side_of w which) now) (Err why) → FallsShort {T = Reply} (network_of w) None (Flow (index_of which) now) strings strings_now (Err why)
flow_short Alpha w strings strings_now now why short = short_of Alpha (side_of w Alpha) strings strings_now now why short
flow_short Beta w strings strings_now now why short = short_of Beta (side_of w Beta) strings strings_now now why short

-- What is known where a call answered well.

pub ok_of : {A E : Type 0} (P : A → Type 0) (r : Result A E) (x : A) → r ≡ Ok x → IfOk r P → P x
ok_of P (Ok y) x is h = subst P (oks is) h
ok_of P (Err e) x is h = absurd (let no : ⊥ = cc in no)

pub sent_as : (which : Which) (w v : WorldState) (d e f g : View) (s t : Bool) (strings strings_now : List (List ℕ)) (now : ℕ) (r : Result Pumped PostFault) (q p : Pumped)
    → IfOk r (SentBy which w v d e f g s t strings strings_now now) → r ≡ Ok q → q ≡ p → SentBy which w v d e f g s t strings strings_now now p
sent_as which w v d e f g s t strings strings_now now r q p sent is so = subst (SentBy which w v d e f g s t strings strings_now now) so
    (ok_of (SentBy which w v d e f g s t strings strings_now now) r q is sent)

pub flow_short_as : (which : Which) (w : WorldState) (strings strings_now : List (List ℕ)) (now : ℕ) (r : Result Pumped PostFault) (why : PostFault) → r ≡ Err why
    → ComesShort strings strings_now (pump_at which (side_of w which) now) r → FallsShort {T = Reply} (network_of w) None (Flow (index_of which) now) strings strings_now (Err why)
flow_short_as which w strings strings_now now r why is short = flow_short which w strings strings_now now why (subst (ComesShort strings strings_now (pump_at which (side_of w which) now)) is short)

pub broke_told : (which : Which) (w v : WorldState) (d e f g : View) (s t : Bool) (strings strings_now : List (List ℕ)) (now : ℕ) (how : HowItFailed) (given : Reply)
    → RefusalsChangeNothing → given ≡ failure_reply (failure_of how) → SentBy which w v d e f g s t strings strings_now now (Broke how)
    → IsStep (network_of w) (counts_of w) None (Flow (index_of which) now) (network_of v) (counts_of v) strings strings_now given
broke_told which w v d e f g s t strings strings_now now how given law is sent =
    subst (λ (r : Reply). IsStep (network_of w) (counts_of w) None (Flow (index_of which) now) (network_of v) (counts_of v) strings strings_now r) (sym is)
    (broke_flow law which w v d e f g s t strings strings_now now how sent)
