-- What becomes of two managers that are to be connected is one step.
use Rattle.std.proofs.Common.{◌≡◌, ℕ, ◌+◌, ◌-◌, Bool, true, false, List, [], ◌∷◌, ◌++◌, None}
use Rattle.std.proofs.Common.{Result, Ok, length, refl, sym, ap, subst, ◌∙◌, arith}
use Rattle.std.specs.Prelude.{if◌then◌else◌, map}
use Rattle.mqb_network.specs.Answers.{Answer, only}
use Rattle.mqb_network.specs.Choices.{Well}
use Rattle.mqb_network.specs.Connecting.{any_connected, any_down, both_linked, connect, connected}
use Rattle.mqb_network.specs.Connecting.{connecting, set_up}
use Rattle.mqb_network.specs.Courses.{Course, course_from}
use Rattle.mqb_network.specs.Events.{Connect}
use Rattle.mqb_network.specs.Network.{Network}
use Rattle.mqb_network.specs.Replies as network
use Rattle.mqb_network.specs.Sending.{numbers_behind}
use Rattle.mqb_packet.specs.Plain.{plain_spelling}
use Rattle.mqb_packet.specs.declared.packet.Packet.{Packet}
use Rattle.mqb_posts.specs.Packets.{AreWritable}
use Rattle.mqb_posts.specs.Posting.{IsWithin}
use Rattle.mqb_posts.specs.declared.faults.PostFault.{PostFault}
use Rattle.mqb_script.specs.Managers.{other}
use Rattle.mqb_script.specs.declared.managers.Which.{Which}
use Rattle.mqb_traffic.specs.Networks.{index_of}
use Rattle.mqb_transcript.specs.declared.replies.Reply.{Reply}
use Rattle.mqb_transcript.specs.declared.replies.Reply.TheVariants as reply
use Rattle.mqb_turns.specs.Counts.{CountsGo}
use Rattle.mqb_turns.specs.Replies.{told}
use Rattle.mqb_turns.specs.lemmas.Counting.{counts_same}
use Rattle.mqb_deliveries.specs.Courses.{ComesTo}
use Rattle.mqb_deliveries.specs.Steps.{FallsShort, IsShort, IsStep}
use Rattle.mqb_deliveries.specs.lemmas.Unsent.{none_posted, none_written}

module _ (which : Which) (n : Network) (counts : ℕ → ℕ) (now window_a window_b : ℕ)
    (strings : List (List ℕ)) where
  abbrev a : ℕ
  a = index_of which

  abbrev b : ℕ
  b = index_of (other which)

  abbrev answer_is : Answer
  answer_is = connect a b now window_a window_b (course_from n)

  quiet_step : (given : Reply) (said : network.Reply) → IsWithin strings
      → answer_is ≡ only (course_from n) said → told said ≡ Ok given
      → IsStep n counts None (Connect a b now window_a window_b) n counts strings strings given
  quiet_step given said within is tells = record {
    choice = Well;
    may = refl;
    reply = ap (λ (r : Answer). told r.reply) is ∙ tells;
    network = ap (λ (r : Answer). r.after.network) is;
    counted = subst (λ (r : Answer). CountsGo counts counts r.after.written) (sym is)
        (counts_same counts);
    posted = none_posted strings answer_is.after.sent (ap (λ (r : Answer). r.after.sent) is);
    writable = none_written answer_is.after.sent (ap (λ (r : Answer). r.after.sent) is);
    within = within;
  }

  -- one of them is down
  pub down_step : IsWithin strings → any_down n a b ≡ true
      → IsStep n counts None (Connect a b now window_a window_b) n counts strings strings reply.Down
  down_step within down = quiet_step reply.Down network.NotUp within
      (ap (λ (c : Bool). if c then only (course_from n) network.NotUp
      else if any_connected n a b then only (course_from n) network.Linked
      else connecting a b now window_a window_b (course_from n)) down) refl

  -- they have a connection
  pub linked_step : IsWithin strings → any_down n a b ≡ false → any_connected n a b ≡ true
      → IsStep n counts None
      (Connect a b now window_a window_b) n counts strings strings reply.Linked
  linked_step within up linked = quiet_step reply.Linked network.Linked within
      (ap (λ (c : Bool). if c then only (course_from n) network.NotUp
      else if any_connected n a b then only (course_from n) network.Linked
      else connecting a b now window_a window_b (course_from n)) up
      ∙ ap (λ (c : Bool). if c then only (course_from n) network.Linked
      else connecting a b now window_a window_b (course_from n)) linked) refl

  -- the course in which the session is set up
  abbrev pub set_up_course : Course
  set_up_course = set_up a b now (course_from (both_linked a b window_a window_b n))

  module _ (up : any_down n a b ≡ false) (free : any_connected n a b ≡ false) where
    connects : answer_is ≡ connected (length n.notes) set_up_course
    connects = ap (λ (c : Bool). if c then only (course_from n) network.NotUp
        else if any_connected n a b then only (course_from n) network.Linked
        else connecting a b now window_a window_b (course_from n)) up
        ∙ ap (λ (c : Bool). if c then only (course_from n) network.Linked
        else connecting a b now window_a window_b (course_from n)) free

    -- they are connected
    pub connect_step : (n_now : Network) (counts_now : ℕ → ℕ) (strings_now : List (List ℕ))
        → ComesTo set_up_course counts n_now counts_now strings strings_now
        → length set_up_course.network.notes ≡ length n.notes + 4
        → IsStep n counts None (Connect a b now window_a window_b) n_now counts_now strings
        strings_now (reply.Connected (numbers_behind (length n.notes) 4))
    connect_step n_now counts_now strings_now comes four = record {
      choice = Well;
      may = refl;
      reply = ap (λ (r : Answer). told r.reply) connects ∙ ap (λ (k : ℕ).
          told (network.Connected (numbers_behind (length n.notes) (k - length n.notes)))) four
          ∙ ap (λ (k : ℕ). told (network.Connected (numbers_behind (length n.notes) k))) more;
      network = ap (λ (r : Answer). r.after.network) connects ∙ comes.network;
      counted = subst (λ (r : Answer). CountsGo counts counts_now r.after.written)
          (sym connects) comes.counted;
      posted = comes.posted ∙ ap (λ (ps : List Packet). strings ++ map plain_spelling ps)
          (sym (ap (λ (r : Answer). r.after.sent) connects));
      writable =
          subst AreWritable (sym (ap (λ (r : Answer). r.after.sent) connects)) comes.writable;
      within = comes.within;
    }
      where
        more : length n.notes + 4 - length n.notes ≡ 4
        more = omega arith

    -- or a packet, or memory, comes short
    pub connect_short : {T : Type 0} (strings_now : List (List ℕ)) (r : Result T PostFault)
        → IsShort (map plain_spelling set_up_course.sent) strings strings_now r
        → FallsShort n None (Connect a b now window_a window_b) strings strings_now r
    connect_short strings_now r short =
        subst (λ (ps : List Packet). IsShort (map plain_spelling ps) strings strings_now r)
        (sym (ap (λ (q : Answer). q.after.sent) connects)) short

-- the numbers of four packets
pub four_numbers : (before : ℕ)
    → (before + 1) ∷ (before + 2) ∷ (before + 3) ∷ (before + 4) ∷ [] ≡ numbers_behind before 4
four_numbers before = ap (λ (k : ℕ). (before + 1) ∷ k ∷ (before + 3) ∷ (before + 4) ∷ []) two
    ∙ ap (λ (k : ℕ). (before + 1) ∷ (before + 1 + 1) ∷ k ∷ (before + 4) ∷ []) three
    ∙ ap (λ (k : ℕ). (before + 1) ∷ (before + 1 + 1) ∷ (before + 1 + 1 + 1) ∷ k ∷ []) four
  where
    two : before + 2 ≡ before + 1 + 1
    two = omega arith

    three : before + 3 ≡ before + 1 + 1 + 1
    three = omega arith

    four : before + 4 ≡ before + 1 + 1 + 1 + 1
    four = omega arith
