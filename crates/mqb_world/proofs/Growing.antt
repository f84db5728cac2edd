-- A run that goes on by one event.
use Rattle.std.proofs.Common.{◌≡◌, ℕ, zero, suc, ◌+◌, true, List, [], ◌∷◌, ◌++◌, ◌≤◌, length, Option, Err, refl, sym, ap, subst, ◌∙◌, arith}
use Rattle.std.proofs.lemmas.Bool.{true≢false}
use Rattle.std.proofs.lemmas.List.{length-map, map-append}
use Rattle.std.specs.Prelude.{◌&&◌, IsTrue, map, not}
use Rattle.mqb_base.specs.declared.ids.Identity.{Identity}
use Rattle.mqb_deliveries.specs.Steps.{FallsShort, IsStep, may_at}
use Rattle.mqb_model.specs.managers.Manager.{is_down}
use Rattle.mqb_network.specs.Checkpointing.{may_be_far, may_rewrite, record_count, written_count}
use Rattle.mqb_network.specs.Choices.{Choice, TooFar, Well}
use Rattle.mqb_network.specs.Courses.{Course}
use Rattle.mqb_network.specs.Events.{Event}
use Rattle.mqb_network.specs.Events as event
use Rattle.mqb_network.specs.Network.{Network, manager_at}
use Rattle.mqb_network.specs.Runs.{IsRunFrom, Move, after_run, beginning, course_after, may, moved_on, packet_of}
use Rattle.mqb_network.specs.Step.{step}
use Rattle.mqb_packet.specs.Plain.{plain_spelling}
use Rattle.mqb_packet.specs.declared.packet.Packet.{Packet}
use Rattle.mqb_posts.specs.Packets.{AreWritable}
use Rattle.mqb_posts.specs.Posting.{HasFront, IsCutOff}
use Rattle.mqb_posts.specs.declared.faults.PostFault.{PostFault}
use Rattle.mqb_posts.specs.declared.faults.PostFault.TheVariants as post
use Rattle.mqb_script.specs.declared.managers.Which.{Which}
use Rattle.mqb_script.specs.declared.managers.Which.TheVariants.{Alpha, Beta}
use Rattle.mqb_transcript.specs.declared.replies.Reply.{Reply}
use Rattle.mqb_traffic.specs.Networks.{index_of, note_of}
use Rattle.mqb_turns.specs.lemmas.Counting.{written_joined}
use Rattle.mqb_runs.specs.Hosts.{hosts}
use Rattle.mqb_world.proofs.Begun.{step_begun}
use Rattle.mqb_world.specs.Faults.{world_fault}
use Rattle.mqb_world.specs.Ordered.{IsOrdered}
use Rattle.mqb_world.specs.Standing.{Applied, GoesOn, Stands, StandsIn, move_of}
use Rattle.mqb_world.specs.Worlds.{WorldState, counts_of, network_of}

-- What may be chosen, in a course in which each of the two managers has had as many records as is counted. A third one is down.
may_so : (c : Course) (w : WorldState) → network_of w ≡ c.network → (counts : ℕ → ℕ) → ((which : Which) → counts (index_of which) ≡ record_count c (index_of which)) → (e : Event) (choice : Choice)
    → may_at c.network counts (packet_of c.sent e) e choice ≡ true → may c e choice ≡ true
may_so c w is counts counted (event.Checkpoint i) choice m = at i choice m
  where
    no_third : (k count : ℕ) → (not (is_down (manager_at c.network (suc (suc k)))) && may_be_far count) ≡ true → ⊥
    no_third k count m = true≢false (sym (subst (λ (n : Network). (not (is_down (manager_at n (suc (suc k)))) && may_be_far count) ≡ true) (sym is) m))

    at : (i : ℕ) (choice : Choice) → may_rewrite c.network i (counts i) choice ≡ true → may_rewrite c.network i (record_count c i) choice ≡ true
    at zero choice m = subst (λ (k : ℕ). may_rewrite c.network 0 k choice ≡ true) (counted Alpha) m
    at (suc zero) choice m = subst (λ (k : ℕ). may_rewrite c.network 1 k choice ≡ true) (counted Beta) m
    at (suc (suc k)) TooFar m = absurd (no_third k (counts (suc (suc k))) m)
    at (suc (suc k)) choice m = m
may_so c w is counts counted (event.Restart i) choice m = m
may_so c w is counts counted e choice m = m

-- one move more
course_grown : (c : Course) (ms : List Move) (m : Move) → course_after c (ms ++ m ∷ []) ≡ moved_on (course_after c ms) m
course_grown c [] m = refl
course_grown c (x ∷ ms) m = course_grown (moved_on c x) ms m

run_grown : (c : Course) (ms : List Move) (m : Move) → IsRunFrom c ms → IsTrue (may (course_after c ms) m.event m.choice) → IsRunFrom c (ms ++ m ∷ [])
run_grown c [] m run can = (can, tt)
run_grown c (x ∷ ms) m run can = (run.0, run_grown (moved_on c x) ms m run.1 can)

-- packets behind others can be written
both_writable : (ps qs : List Packet) → AreWritable ps → AreWritable qs → AreWritable (ps ++ qs)
both_writable [] qs front back = back
both_writable (p ∷ ps) qs front back = (front.0, both_writable ps qs front.1 back)

-- one peer each, and so the records of both formattings are two
two_first : (c : Course) (i : ℕ) → length (manager_at c.network i).state.peers ≡ 1 → record_count c i ≡ 2 + written_count i c.written
two_first c i one = ap (λ (k : ℕ). 1 + k + written_count i c.written) one

module _ (w : WorldState) (strings : List (List ℕ)) (ms : List Move) (e : Event) (given : Reply) (w_now : WorldState) (strings_now : List (List ℕ)) (stands : Stands w strings ms)
    (ordered : IsOrdered w strings) where
  abbrev c : Course
  c = after_run hosts ms

  abbrev p : Option Packet
  p = packet_of c.sent e

  -- of the network of the run
  of_run : IsStep (network_of w) (counts_of w) p e (network_of w_now) (counts_of w_now) strings strings_now given → IsStep c.network (counts_of w) p e (network_of w_now) (counts_of w_now) strings strings_now given
  of_run one = subst (λ (n : Network). IsStep n (counts_of w) p e (network_of w_now) (counts_of w_now) strings strings_now given) stands.stands.network one

  -- each has one peer
  one_peer : (which : Which) → length (manager_at c.network (index_of which)).state.peers ≡ 1
  one_peer Alpha = ap (λ (n : Network). length (manager_at n 0).state.peers) (sym stands.stands.network) ∙ ap (λ (ps : List Identity). length ps) ordered.alpha_itself.peers
  one_peer Beta = ap (λ (n : Network). length (manager_at n 1).state.peers) (sym stands.stands.network) ∙ ap (λ (ps : List Identity). length ps) ordered.beta_itself.peers

  counted : (which : Which) → counts_of w (index_of which) ≡ record_count c (index_of which)
  counted which = stands.stands.counted which ∙ sym (two_first c (index_of which) (one_peer which))

  -- The run goes on.
  pub goes_on : IsStep (network_of w) (counts_of w) p e (network_of w_now) (counts_of w_now) strings strings_now given → GoesOn ms e given w_now strings_now
  goes_on one = record {
    choice = s.choice;
    may = can;
    reply = s.reply;
    stands = record {
      run = run_grown (beginning hosts) ms m stands.run can;
      stands = subst (StandsIn w_now strings_now) (sym (course_grown (beginning hosts) ms m)) (record {
        network = sym s.network;
        spelled = s.posted ∙ ap (λ (ss : List (List ℕ)). ss ++ map plain_spelling sent) stands.stands.spelled ∙ sym (map-append plain_spelling c.sent sent);
        writable = both_writable c.sent sent stands.stands.writable s.writable;
        within = s.within;
        counted = counted_now;
        begun = begun_now;
      });
    };
  }
    where
      s : IsStep c.network (counts_of w) p e (network_of w_now) (counts_of w_now) strings strings_now given
      s = of_run one

      m : Move
      m = move_of e s.choice

      sent : List Packet
      sent = (step c.network p e s.choice).after.sent

      can : IsTrue (may c e s.choice)
      can = may_so c w stands.stands.network (counts_of w) counted e s.choice s.may

      counted_now : (which : Which) → counts_of w_now (index_of which) ≡ 2 + written_count (index_of which) (c.written ++ (step c.network p e s.choice).after.written)
      counted_now which =
          let before = stands.stands.counted which in
          let added = s.counted which in
          let all = written_joined (index_of which) c.written (step c.network p e s.choice).after.written in
          omega (arith, before, added, all)

      begun_before : c.network.connected ≤ length c.network.notes
      begun_before = subst (λ (n : Network). n.connected ≤ length n.notes) stands.stands.network
          (subst (λ (k : ℕ). w.traffic.connected ≤ k) (sym (length-map w.traffic.notes note_of)) stands.stands.begun)

      begun_now : w_now.traffic.connected ≤ length w_now.traffic.notes
      begun_now = subst (λ (k : ℕ). w_now.traffic.connected ≤ k) (length-map w_now.traffic.notes note_of)
          (subst (λ (n : Network). n.connected ≤ length n.notes) s.network (step_begun c.network p e s.choice given s.reply begun_before))

  -- Or it falls short.
  pub falls_short : (f : PostFault) → FallsShort {T = Reply} (network_of w) p e strings strings_now (Err f) → Applied ms e w_now strings strings_now (Err (world_fault f))
  falls_short post.NetFull short = subst (λ (n : Network). IsCutOff strings strings_now (map plain_spelling (step n p e Well).after.sent)) stands.stands.network short
  falls_short post.Memory short = subst (λ (n : Network). HasFront strings strings_now (map plain_spelling (step n p e Well).after.sent)) stands.stands.network short
