-- The line of an event is read back as the event.
use Rattle.std.proofs.Common.{◌≡◌, ℕ, zero, suc, ◌<◌, ◌≤◌, Bool, true, false, ◌==◌, List, [], ◌∷◌, length, drop, map, codes, Option, Some, None, Result, Ok, refl, ap, ◌∙◌, arith}
use Rattle.std.specs.List.{AllByRecursion, join_with_byte}
use Rattle.std.specs.Option.{IfSome}
use Rattle.std.specs.Fmt.{decimal}
use Rattle.std.proofs.lemmas.Bool.Decides.{nat_tests}
use Rattle.mqb_base.specs.declared.ids.Guid.{Guid}
use Rattle.mqb_base.specs.declared.queues.QueuePlan.{QueuePlan}
use Rattle.mqb_base.specs.declared.queues.Place.{Place}
use Rattle.mqb_base.specs.declared.draft.Op.{Op}
use Rattle.mqb_base.specs.Same.{same_bytes}
use Rattle.mqb_outside.specs.declared.power.Mode.{Mode}
use Rattle.mqb_outside.specs.declared.power.Pick.{Pick}
use Rattle.mqb_names.specs.Values.{AreBytes, IsName}
use Rattle.mqb_forms.specs.declared.faults.LineKind.{LineKind}
use Rattle.mqb_forms.specs.declared.sends.Names.{Names}
use Rattle.mqb_forms.specs.declared.sends.Terms.{Terms}
use Rattle.mqb_forms.specs.Words.{number_in}
use Rattle.mqb_forms.specs.Values.{MOST, MOST_WINDOW, MOST_CALL, MOST_ROLL, choice_of}
use Rattle.mqb_forms.specs.Sends.{parts_of}
use Rattle.mqb_forms.specs.Plans.{plan_of, how_of}
use Rattle.mqb_script.specs.declared.grammar.Grammar.{Grammar}
use Rattle.mqb_script.specs.declared.grammar.Grammar.TheVariants.{Pair, Ring}
use Rattle.mqb_script.specs.declared.forms.Form.{Form}
use Rattle.mqb_script.specs.declared.forms.Form.TheVariants as form
use Rattle.mqb_script.specs.declared.events.Event.{Event}
use Rattle.mqb_script.specs.declared.events.Event.TheVariants.{Queue, Commit, Send, Take, Purge, Tick, Connect, Disconnect, Pump, Deliver, Drop, Flow, Resend, Arm, Restart, Roll, Checkpoint}
use Rattle.mqb_script.specs.Hosts.{MOST_MANAGERS, count_of, host_at, AreEnds, IsEnd}
use Rattle.mqb_script.specs.Forms.{word_of, has_count}
use Rattle.mqb_script.specs.Grammar.{queue_from, commit_from, sent_with, send_event, take_event, purge_from, tick_from, connect_pair, connect_named, connect_from, disconnect_from, pump_from, deliver_from, drop_from, flow_from, resend_from, arm_from, restart_from, roll_from, checkpoint_from, event_from}
use Rattle.mqb_script.specs.Lines.{is_skipped, event_of}
use Rattle.mqb_script.specs.Spelling.{connect_words, disconnect_words, choice_text, mode_text, pick_text, place_text, public_words, op_text, words_from, line_of, IsTold, IsSpelledOp, IsPlaceName, IsSpelled}
use Rattle.mqb_script.proofs.Decimals.{number_up_to, number_back}
use Rattle.mqb_script.proofs.WordsBack.{Named, is_word, are_words, at_back, choice_word, host_word, line_back, manager_back, mode_back, mode_word, name_back, name_word, number_word, pick_back, pick_word, place_back, place_word, public_back, public_words_are}
use Rattle.mqb_script.proofs.StepsBack.{ops_back, ops_words, send_back, told_text, told_word, told_word_is}

-- The forms of lines.

queue_words : {g : Grammar} (which : Named g) (plan : QueuePlan) → IsName plan.name → plan.quota ≤ MOST
    → are_words (host_at g which.at ∷ plan.name ∷ choice_text (codes "tx") (codes "plain") plan.transactional ∷ decimal plan.quota
    ∷ choice_text (codes "journal") (codes "none") plan.journal ∷ public_words plan.public) ≡ true
queue_words which plan name quota =
    rw (
      host_word which,
      name_word plan.name name,
      choice_word (codes "tx") (codes "plain") plan.transactional refl refl,
      number_word plan.quota quota,
      choice_word (codes "journal") (codes "none") plan.journal refl refl,
      public_words_are plan.public,
    ) refl

queue_count : (g : Grammar) (a b c d e : List ℕ) (public : Option Guid) → has_count g form.Queue (length (a ∷ b ∷ c ∷ d ∷ e ∷ public_words public)) ≡ true
queue_count g a b c d e None = refl
queue_count g a b c d e (Some guid) = refl

choice_back : (first second : List ℕ) (choice : Bool) → same_bytes first first ≡ true → same_bytes second first ≡ false → same_bytes second second ≡ true
    → choice_of first second (choice_text first second choice) ≡ Ok choice
unfolding choice_of
choice_back first second true a b c = rw a refl
choice_back first second false a b c = rw (b, c) refl

plan_back : (plan : QueuePlan) → IsName plan.name → plan.quota ≤ MOST → IfSome plan.public (λ guid. AreBytes 16 guid.0)
    → plan_of plan.name (choice_text (codes "tx") (codes "plain") plan.transactional) (decimal plan.quota)
    (choice_text (codes "journal") (codes "none") plan.journal) (public_words plan.public) ≡ Ok plan
unfolding plan_of
plan_back plan name quota guid =
    rw (
      name_back plan.name name,
      public_back plan.public guid,
      choice_back (codes "tx") (codes "plain") plan.transactional refl refl refl,
      number_back 0 plan.quota (omega arith) quota,
      choice_back (codes "journal") (codes "none") plan.journal refl refl refl,
    ) refl

queue_back : {g : Grammar} (which : Named g) (plan : QueuePlan) → IsName plan.name → plan.quota ≤ MOST → IfSome plan.public (λ guid. AreBytes 16 guid.0)
    → queue_from g (host_at g which.at ∷ plan.name ∷ choice_text (codes "tx") (codes "plain") plan.transactional ∷ decimal plan.quota
    ∷ choice_text (codes "journal") (codes "none") plan.journal ∷ public_words plan.public) ≡ Ok (Queue which.at plan)
unfolding queue_from
queue_back which plan name quota guid = rw (manager_back which, plan_back plan name quota guid) refl

commit_words : {g : Grammar} (which : Named g) (now : ℕ) (ops : List Op) → now ≤ MOST → AllByRecursion IsSpelledOp ops
    → are_words (host_at g which.at ∷ decimal now ∷ map op_text ops) ≡ true
commit_words which now ops most all = rw (host_word which, number_word now most, ops_words ops all) refl

commit_count : (g : Grammar) (a b : List ℕ) (ops : List Op) → 1 ≤ length ops → has_count g form.Commit (length (a ∷ b ∷ map op_text ops)) ≡ true
commit_count g a b [] some = absurd (omega arith)
commit_count g a b (step ∷ ops) some = grind (arith, nat_tests)

commit_back : {g : Grammar} (which : Named g) (now : ℕ) (ops : List Op) → now ≤ MOST → AllByRecursion IsSpelledOp ops
    → commit_from g (host_at g which.at ∷ decimal now ∷ map op_text ops) ≡ Ok (Commit which.at now ops)
unfolding commit_from
commit_back which now ops most all = rw (at_back which now most, ops_back ops all) refl

sent_words : {g : Grammar} (which : Named g) (now : ℕ) (recoverable : Bool) (priority : ℕ) (names : Names) (terms : Terms) (body : List ℕ) → now ≤ MOST
    → priority ≤ 7 → IsTold names terms body
    → are_words (host_at g which.at ∷ decimal now ∷ choice_text (codes "recoverable") (codes "express") recoverable ∷ decimal priority
    ∷ told_word names terms body ∷ []) ≡ true
sent_words which now recoverable priority names terms body most seven told =
    rw (
      host_word which,
      number_word now most,
      choice_word (codes "recoverable") (codes "express") recoverable refl refl,
      number_word priority (omega arith),
      told_word_is names terms body told,
    ) refl

how_back : (recoverable : Bool) (priority : ℕ) → priority ≤ 7
    → how_of (choice_text (codes "recoverable") (codes "express") recoverable) (decimal priority) ≡ Ok (recoverable, priority)
unfolding how_of
how_back recoverable priority seven =
    rw (choice_back (codes "recoverable") (codes "express") recoverable refl refl refl, number_up_to 0 7 priority (omega arith) seven (omega arith)) refl

sent_back : {g : Grammar} (which : Named g) (now : ℕ) (recoverable : Bool) (priority : ℕ) (names : Names) (terms : Terms) (body : List ℕ) → now ≤ MOST
    → priority ≤ 7 → IsTold names terms body
    → send_event g (host_at g which.at ∷ decimal now ∷ choice_text (codes "recoverable") (codes "express") recoverable ∷ decimal priority
    ∷ told_word names terms body ∷ []) ≡ Ok (Send which.at now recoverable (parts_of priority names terms body))
unfolding send_event sent_with
sent_back which now recoverable priority names terms body most seven told =
    rw (at_back which now most, how_back recoverable priority seven, send_back priority names terms body told) refl

placed_words : {g : Grammar} (which : Named g) (now : ℕ) (from : Place) → now ≤ MOST → IsPlaceName from
    → are_words (host_at g which.at ∷ decimal now ∷ place_text from ∷ []) ≡ true
placed_words which now from most is = rw (host_word which, number_word now most, place_word from is) refl

take_back : {g : Grammar} (which : Named g) (now : ℕ) (from : Place) → now ≤ MOST → IsPlaceName from
    → take_event g (host_at g which.at ∷ decimal now ∷ place_text from ∷ []) ≡ Ok (Take which.at now from)
unfolding take_event
take_back which now from most is = rw (at_back which now most, place_back from is) refl

purge_back : {g : Grammar} (which : Named g) (now : ℕ) (from : Place) → now ≤ MOST → IsPlaceName from
    → purge_from g (host_at g which.at ∷ decimal now ∷ place_text from ∷ []) ≡ Ok (Purge which.at now from)
unfolding purge_from
purge_back which now from most is = rw (at_back which now most, place_back from is) refl

at_words : {g : Grammar} (which : Named g) (now : ℕ) → now ≤ MOST → are_words (host_at g which.at ∷ decimal now ∷ []) ≡ true
at_words which now most = rw (host_word which, number_word now most) refl

tick_back : {g : Grammar} (which : Named g) (now : ℕ) → now ≤ MOST → tick_from g (host_at g which.at ∷ decimal now ∷ []) ≡ Ok (Tick which.at now)
unfolding tick_from
tick_back which now most = rw (at_back which now most) refl

pump_back : {g : Grammar} (which : Named g) (now : ℕ) → now ≤ MOST → pump_from g (host_at g which.at ∷ decimal now ∷ []) ≡ Ok (Pump which.at now)
unfolding pump_from
pump_back which now most = rw (at_back which now most) refl

flow_back : {g : Grammar} (which : Named g) (now : ℕ) → now ≤ MOST → flow_from g (host_at g which.at ∷ decimal now ∷ []) ≡ Ok (Flow which.at now)
unfolding flow_from
flow_back which now most = rw (at_back which now most) refl

host_words : {g : Grammar} (which : Named g) → are_words (host_at g which.at ∷ []) ≡ true
host_words which = rw (host_word which) refl

window_back : (n : ℕ) → 1 ≤ n → n ≤ MOST_WINDOW → number_in 1 MOST_WINDOW (decimal n) ≡ Ok n
window_back n some most = number_up_to 1 MOST_WINDOW n some most (omega arith)

first_window : (n : ℕ) → 1 ≤ n → n ≤ MOST_WINDOW → is_word (decimal n) ≡ true
first_window n some most = number_word n (omega arith)

module _ (now own other : ℕ) (most : now ≤ MOST) (a : 1 ≤ own) (a_most : own ≤ MOST_WINDOW) (b : 1 ≤ other) (b_most : other ≤ MOST_WINDOW) where
  pair_words : (initiator acceptor : ℕ) → AreEnds Pair initiator acceptor → are_words (connect_words Pair initiator acceptor now own other) ≡ true
  pair_words zero acceptor ends = rw (number_word now most, first_window own a a_most, first_window other b b_most) refl
  pair_words (suc i) acceptor ends = rw (number_word now most, first_window own a a_most, first_window other b b_most) refl

  pair_count : (initiator acceptor : ℕ) → has_count Pair form.Connect (length (connect_words Pair initiator acceptor now own other)) ≡ true
  pair_count zero acceptor = refl
  pair_count (suc i) acceptor = refl

  second_of : (acceptor : ℕ) → AreEnds Pair 0 acceptor → acceptor ≡ 1
  second_of zero ends = absurd (ends.2 refl)
  second_of (suc zero) ends = refl
  second_of (suc (suc i)) ends = absurd (let small = ends.1 in omega (arith, small))

  first_of : (acceptor : ℕ) → AreEnds Pair 1 acceptor → acceptor ≡ 0
  first_of zero ends = refl
  first_of (suc zero) ends = absurd (ends.2 refl)
  first_of (suc (suc i)) ends = absurd (let small = ends.1 in omega (arith, small))

  abbrev pair_named : (i : ℕ) → i < 2 → Named Pair
  pair_named i one = record { at = i; one = one; few = omega arith }

  pair_back : (initiator acceptor : ℕ) → AreEnds Pair initiator acceptor
      → connect_pair (connect_words Pair initiator acceptor now own other) ≡ Ok (Connect initiator acceptor now own other)
  unfolding connect_pair
  pair_back zero acceptor ends = rw (at_back (pair_named 0 (omega arith)) now most, window_back own a a_most, window_back other b b_most, second_of acceptor ends) refl
  pair_back (suc zero) acceptor ends = rw (at_back (pair_named 1 (omega arith)) now most, window_back own a a_most, window_back other b b_most, first_of acceptor ends) refl
  pair_back (suc (suc i)) acceptor ends = absurd (let small = ends.0 in omega (arith, small))

  module _ (count initiator acceptor : ℕ) (ends : AreEnds (Ring count) initiator acceptor) (few : count ≤ MOST_MANAGERS) where
    abbrev first : Named (Ring count)
    first = record { at = initiator; one = ends.0; few = few }

    abbrev second : Named (Ring count)
    second = record { at = acceptor; one = ends.1; few = few }

    ring_words : are_words (connect_words (Ring count) initiator acceptor now own other) ≡ true
    ring_words = rw (host_word first, host_word second, number_word now most, first_window own a a_most, first_window other b b_most) refl

    not_same : (initiator == acceptor) ≡ false
    not_same = let apart = ends.2 in grind (arith, nat_tests)

    ring_back : connect_named (Ring count) (connect_words (Ring count) initiator acceptor now own other) ≡ Ok (Connect initiator acceptor now own other)
    unfolding connect_named
    ring_back = rw (at_back first now most, manager_back second, window_back own a a_most, window_back other b b_most, not_same) refl

  connect_line : (g : Grammar) (initiator acceptor : ℕ) → AreEnds g initiator acceptor → count_of g ≤ MOST_MANAGERS
      → event_of g (join_with_byte 32 (word_of form.Connect ∷ connect_words g initiator acceptor now own other)) ≡ Ok (Connect initiator acceptor now own other)
  unfolding event_from connect_from
  connect_line Pair initiator acceptor ends few = line_back Pair form.Connect (connect_words Pair initiator acceptor now own other)
      (Connect initiator acceptor now own other) (pair_words initiator acceptor ends) (pair_count initiator acceptor) (pair_back initiator acceptor ends)
  connect_line (Ring count) initiator acceptor ends few = line_back (Ring count) form.Connect (connect_words (Ring count) initiator acceptor now own other)
      (Connect initiator acceptor now own other) (ring_words count initiator acceptor ends few) refl (ring_back count initiator acceptor ends few)

disconnect_line : (g : Grammar) (manager : ℕ) → IsEnd g manager → count_of g ≤ MOST_MANAGERS
    → event_of g (join_with_byte 32 (word_of form.Disconnect ∷ disconnect_words g manager)) ≡ Ok (Disconnect manager)
unfolding event_from disconnect_from
disconnect_line Pair manager is few = line_back Pair form.Disconnect [] (Disconnect manager) refl refl (rw is refl)
disconnect_line (Ring count) manager is few =
    let which : Named (Ring count) = record { at = manager; one = is; few = few } in
    line_back (Ring count) form.Disconnect (host_at (Ring count) manager ∷ []) (Disconnect manager) (host_words which) refl (rw (manager_back which) refl)

deliver_words : (packet now : ℕ) → packet ≤ MOST → now ≤ MOST → are_words (decimal packet ∷ decimal now ∷ []) ≡ true
deliver_words packet now p most = rw (number_word packet p, number_word now most) refl

deliver_back : (packet now : ℕ) → 1 ≤ packet → packet ≤ MOST → now ≤ MOST → deliver_from (decimal packet ∷ decimal now ∷ []) ≡ Ok (Deliver packet now)
unfolding deliver_from
deliver_back packet now some p most = rw (number_back 1 packet some p, number_back 0 now (omega arith) most) refl

drop_words : (packet : ℕ) → packet ≤ MOST → are_words (decimal packet ∷ []) ≡ true
drop_words packet p = rw (number_word packet p) refl

drop_back : (packet : ℕ) → 1 ≤ packet → packet ≤ MOST → drop_from (decimal packet ∷ []) ≡ Ok (Drop packet)
unfolding drop_from
drop_back packet some p = rw (number_back 1 packet some p) refl

resend_back : {g : Grammar} (which : Named g) → resend_from g (host_at g which.at ∷ []) ≡ Ok (Resend which.at)
unfolding resend_from
resend_back which = rw (manager_back which) refl

arm_words : {g : Grammar} (which : Named g) (call : ℕ) (mode : Mode) → call ≤ MOST_CALL → are_words (host_at g which.at ∷ decimal call ∷ mode_text mode ∷ []) ≡ true
arm_words which call mode most = rw (host_word which, number_word call (omega arith), mode_word mode) refl

arm_back : {g : Grammar} (which : Named g) (call : ℕ) (mode : Mode) → 1 ≤ call → call ≤ MOST_CALL
    → arm_from g (host_at g which.at ∷ decimal call ∷ mode_text mode ∷ []) ≡ Ok (Arm which.at call mode)
unfolding arm_from
arm_back which call mode some most =
    rw (manager_back which, number_up_to 1 MOST_CALL call some most (omega arith), mode_back mode) refl

restart_words : {g : Grammar} (which : Named g) (pick : Pick) → are_words (host_at g which.at ∷ pick_text pick ∷ []) ≡ true
restart_words which pick = rw (host_word which, pick_word pick) refl

restart_back : {g : Grammar} (which : Named g) (pick : Pick) → restart_from g (host_at g which.at ∷ pick_text pick ∷ []) ≡ Ok (Restart which.at pick)
unfolding restart_from
restart_back which pick = rw (manager_back which, pick_back pick) refl

roll_words : {g : Grammar} (which : Named g) (count : ℕ) → count ≤ MOST_ROLL → are_words (host_at g which.at ∷ decimal count ∷ []) ≡ true
roll_words which count most = rw (host_word which, number_word count (omega arith)) refl

roll_back : {g : Grammar} (which : Named g) (count : ℕ) → 1 ≤ count → count ≤ MOST_ROLL → roll_from g (host_at g which.at ∷ decimal count ∷ []) ≡ Ok (Roll which.at count)
unfolding roll_from
roll_back which count some most = rw (manager_back which, number_up_to 1 MOST_ROLL count some most (omega arith)) refl

checkpoint_back : {g : Grammar} (which : Named g) → checkpoint_from g (host_at g which.at ∷ []) ≡ Ok (Checkpoint which.at)
unfolding checkpoint_from
checkpoint_back which = rw (manager_back which) refl

-- Every event that a line can tell.

abbrev named : (g : Grammar) (i : ℕ) → i < count_of g → count_of g ≤ MOST_MANAGERS → Named g
named g i one few = record { at = i; one = one; few = few }

pub read_back : (g : Grammar) → count_of g ≤ MOST_MANAGERS → {event : Event} → IsSpelled g event → event_of g (line_of g event) ≡ Ok event
unfolding event_from
read_back g few (IsSpelled.queue manager plan one name quota guid) =
    line_back g form.Queue (host_at g manager ∷ plan.name ∷ choice_text (codes "tx") (codes "plain") plan.transactional ∷ decimal plan.quota
    ∷ choice_text (codes "journal") (codes "none") plan.journal ∷ public_words plan.public) (Queue manager plan)
    (queue_words (named g manager one few) plan name quota) (queue_count g (host_at g manager) plan.name (choice_text (codes "tx") (codes "plain") plan.transactional) (decimal plan.quota)
    (choice_text (codes "journal") (codes "none") plan.journal) plan.public) (queue_back (named g manager one few) plan name quota guid)
read_back g few (IsSpelled.commit manager now ops one most some all) =
    line_back g form.Commit (host_at g manager ∷ decimal now ∷ map op_text ops) (Commit manager now ops) (commit_words (named g manager one few) now ops most all)
    (commit_count g (host_at g manager) (decimal now) ops some) (commit_back (named g manager one few) now ops most all)
read_back g few (IsSpelled.send manager now recoverable priority names terms body one most seven told) =
    ap (λ text. event_of g (join_with_byte 32 (word_of form.Send ∷ host_at g manager ∷ decimal now
    ∷ choice_text (codes "recoverable") (codes "express") recoverable ∷ decimal priority ∷ text ∷ []))) (told_text priority names terms body)
    ∙ line_back g form.Send (host_at g manager ∷ decimal now ∷ choice_text (codes "recoverable") (codes "express") recoverable ∷ decimal priority
    ∷ told_word names terms body ∷ []) (Send manager now recoverable (parts_of priority names terms body))
    (sent_words (named g manager one few) now recoverable priority names terms body most seven told) refl
    (sent_back (named g manager one few) now recoverable priority names terms body most seven told)
read_back g few (IsSpelled.take manager now from one most is) =
    line_back g form.Take (host_at g manager ∷ decimal now ∷ place_text from ∷ []) (Take manager now from) (placed_words (named g manager one few) now from most is) refl
    (take_back (named g manager one few) now from most is)
read_back g few (IsSpelled.purge manager now from one most is) =
    line_back g form.Purge (host_at g manager ∷ decimal now ∷ place_text from ∷ []) (Purge manager now from) (placed_words (named g manager one few) now from most is) refl
    (purge_back (named g manager one few) now from most is)
read_back g few (IsSpelled.tick manager now one most) =
    line_back g form.Tick (host_at g manager ∷ decimal now ∷ []) (Tick manager now) (at_words (named g manager one few) now most) refl (tick_back (named g manager one few) now most)
read_back g few (IsSpelled.connect initiator acceptor now own other ends most a a_most b b_most) =
    connect_line now own other most a a_most b b_most g initiator acceptor ends few
read_back g few (IsSpelled.disconnect manager is) = disconnect_line g manager is few
read_back g few (IsSpelled.pump manager now one most) =
    line_back g form.Pump (host_at g manager ∷ decimal now ∷ []) (Pump manager now) (at_words (named g manager one few) now most) refl (pump_back (named g manager one few) now most)
read_back g few (IsSpelled.deliver packet now some p most) =
    line_back g form.Deliver (decimal packet ∷ decimal now ∷ []) (Deliver packet now) (deliver_words packet now p most) refl
    (deliver_back packet now some p most)
read_back g few (IsSpelled.drop packet some p) =
    line_back g form.Drop (decimal packet ∷ []) (Drop packet) (drop_words packet p) refl (drop_back packet some p)
read_back g few (IsSpelled.flow manager now one most) =
    line_back g form.Flow (host_at g manager ∷ decimal now ∷ []) (Flow manager now) (at_words (named g manager one few) now most) refl (flow_back (named g manager one few) now most)
read_back g few (IsSpelled.resend manager one) =
    line_back g form.Resend (host_at g manager ∷ []) (Resend manager) (host_words (named g manager one few)) refl (resend_back (named g manager one few))
read_back g few (IsSpelled.arm manager call mode one some most) =
    line_back g form.Arm (host_at g manager ∷ decimal call ∷ mode_text mode ∷ []) (Arm manager call mode) (arm_words (named g manager one few) call mode most) refl
    (arm_back (named g manager one few) call mode some most)
read_back g few (IsSpelled.restart manager pick one) =
    line_back g form.Restart (host_at g manager ∷ pick_text pick ∷ []) (Restart manager pick) (restart_words (named g manager one few) pick) refl (restart_back (named g manager one few) pick)
read_back g few (IsSpelled.roll manager count one some most) =
    line_back g form.Roll (host_at g manager ∷ decimal count ∷ []) (Roll manager count) (roll_words (named g manager one few) count most) refl (roll_back (named g manager one few) count some most)
read_back g few (IsSpelled.checkpoint manager one) =
    line_back g form.Checkpoint (host_at g manager ∷ []) (Checkpoint manager) (host_words (named g manager one few)) refl (checkpoint_back (named g manager one few))

-- the first word begins with a letter
kept_line : (b : ℕ) (word : List ℕ) (words : List (List ℕ)) → (b == 0x23) ≡ false → is_skipped (join_with_byte 32 ((b ∷ word) ∷ words)) ≡ false
kept_line b word [] h = h
kept_line b word (next ∷ words) h = h

form_kept : (f : Form) (words : List (List ℕ)) → is_skipped (join_with_byte 32 (word_of f ∷ words)) ≡ false
form_kept form.Queue words = kept_line 113 (codes "ueue") words refl
form_kept form.Commit words = kept_line 99 (codes "ommit") words refl
form_kept form.Send words = kept_line 115 (codes "end") words refl
form_kept form.Take words = kept_line 116 (codes "ake") words refl
form_kept form.Purge words = kept_line 112 (codes "urge") words refl
form_kept form.Tick words = kept_line 116 (codes "ick") words refl
form_kept form.Connect words = kept_line 99 (codes "onnect") words refl
form_kept form.Disconnect words = kept_line 100 (codes "isconnect") words refl
form_kept form.Pump words = kept_line 112 (codes "ump") words refl
form_kept form.Deliver words = kept_line 100 (codes "eliver") words refl
form_kept form.Drop words = kept_line 100 (codes "rop") words refl
form_kept form.Flow words = kept_line 102 (codes "low") words refl
form_kept form.Resend words = kept_line 114 (codes "esend") words refl
form_kept form.Arm words = kept_line 97 (codes "rm") words refl
form_kept form.Restart words = kept_line 114 (codes "estart") words refl
form_kept form.Roll words = kept_line 114 (codes "oll") words refl
form_kept form.Checkpoint words = kept_line 99 (codes "heckpoint") words refl

pub line_kept : (g : Grammar) (event : Event) → is_skipped (line_of g event) ≡ false
line_kept g (Queue which plan) = form_kept form.Queue (drop 1 (words_from g (Queue which plan)))
line_kept g (Commit which now ops) = form_kept form.Commit (drop 1 (words_from g (Commit which now ops)))
line_kept g (Send which now recoverable parts) = form_kept form.Send (drop 1 (words_from g (Send which now recoverable parts)))
line_kept g (Take which now from) = form_kept form.Take (drop 1 (words_from g (Take which now from)))
line_kept g (Purge which now from) = form_kept form.Purge (drop 1 (words_from g (Purge which now from)))
line_kept g (Tick which now) = form_kept form.Tick (drop 1 (words_from g (Tick which now)))
line_kept g (Connect initiator acceptor now own other) = form_kept form.Connect (connect_words g initiator acceptor now own other)
line_kept g (Disconnect manager) = form_kept form.Disconnect (disconnect_words g manager)
line_kept g (Pump which now) = form_kept form.Pump (drop 1 (words_from g (Pump which now)))
line_kept g (Deliver packet now) = form_kept form.Deliver (drop 1 (words_from g (Deliver packet now)))
line_kept g (Drop packet) = form_kept form.Drop (drop 1 (words_from g (Drop packet)))
line_kept g (Flow which now) = form_kept form.Flow (drop 1 (words_from g (Flow which now)))
line_kept g (Resend which) = form_kept form.Resend (drop 1 (words_from g (Resend which)))
line_kept g (Arm which call mode) = form_kept form.Arm (drop 1 (words_from g (Arm which call mode)))
line_kept g (Restart which pick) = form_kept form.Restart (drop 1 (words_from g (Restart which pick)))
line_kept g (Roll which count) = form_kept form.Roll (drop 1 (words_from g (Roll which count)))
line_kept g (Checkpoint which) = form_kept form.Checkpoint (drop 1 (words_from g (Checkpoint which)))

same_event : (a b : Event) (r s : Result Event LineKind) → r ≡ Ok a → s ≡ Ok b → r ≡ s → a ≡ b
same_event a b r s is_a is_b same = cc

pub one_event : (g : Grammar) → count_of g ≤ MOST_MANAGERS → (a b : Event) → IsSpelled g a → IsSpelled g b → line_of g a ≡ line_of g b → a ≡ b
one_event g few a b is_a is_b same =
    same_event a b (event_of g (line_of g a)) (event_of g (line_of g b)) (read_back g few is_a) (read_back g few is_b) (ap (event_of g) same)
