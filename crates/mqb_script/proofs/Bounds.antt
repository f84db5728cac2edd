-- What the events of a script keep, and that there are no more events than lines.
use Rattle.std.proofs.Common.{◌≡◌, ◌≢◌, ℕ, ◌+◌, ◌<◌, ◌≤◌, Bool, true, false, refl, codes, if◌then◌else◌, ◌==◌, nat_le, List, [], ◌∷◌, length, Result, Ok, Err, arith}
use Rattle.std.specs.Result.{IfOk}
use Rattle.std.specs.List.{AllByRecursion, list_all}
use Rattle.std.proofs.lemmas.Result.{IfOk-at_ok}
use Rattle.std.proofs.lemmas.Bool.Decides.{nat_tests}
use Rattle.mqb_forms.specs.declared.faults.LineKind.{LineKind}
use Rattle.mqb_forms.specs.declared.faults.LineKind.TheVariants.{Value}
use Rattle.mqb_forms.specs.Words.{number_in}
use Rattle.mqb_forms.specs.Values.{MOST, MOST_WINDOW, MOST_CALL, MOST_ROLL, packet_of, window_of, call_of, roll_of, mode_of, pick_of, place_of, moment_of}
use Rattle.mqb_forms.specs.Sends.{send_of, ops_of}
use Rattle.mqb_forms.specs.Plans.{plan_of, how_of}
use Rattle.mqb_forms.proofs.Tests.{both}
use Rattle.mqb_forms.proofs.Formed.{then_gives, choice_gives, number_bounds, IsSent, word_sent, AreFormed, ops_formed}
use Rattle.mqb_script.specs.declared.faults.ScriptFault.{ScriptFault}
use Rattle.mqb_script.specs.declared.grammar.Grammar.{Grammar}
use Rattle.mqb_script.specs.declared.grammar.Grammar.TheVariants.{Pair, Ring}
use Rattle.mqb_script.specs.declared.forms.Form.{Form}
use Rattle.mqb_script.specs.declared.forms.Form.TheVariants.{Queue, Commit, Send, Take, Purge, Tick, Connect, Disconnect, Pump, Deliver, Drop, Flow, Resend, Arm, Restart, Roll, Checkpoint}
use Rattle.mqb_script.specs.declared.events.Event.{Event}
use Rattle.mqb_script.specs.declared.events.Event.TheVariants as event
use Rattle.mqb_script.specs.Lines.{words_of, is_skipped, is_printable, is_some_word, are_counted, event_of_words, event_of}
use Rattle.mqb_script.specs.Script.{lines_of, numbered, script_from, script_of}
use Rattle.mqb_script.specs.Hosts.{count_of, manager_of}
use Rattle.mqb_script.specs.Forms.{form_of, has_count}
use Rattle.mqb_script.specs.Grammar.{at_of, queue_from, commit_from, sent_with, send_event, take_event, purge_from, tick_from, connect_pair, connect_named, connect_from, disconnect_from, pump_from, deliver_from, drop_from, flow_from, resend_from, arm_from, restart_from, roll_from, checkpoint_from, event_from}
use Rattle.mqb_script.specs.Reading.{begun, line_count}
use Rattle.mqb_script.specs.Formed.{IsFormed}
use Rattle.mqb_base.specs.Same.{same_bytes}

pub numbered_gives : {T : Type 0} (P : T → Type 0) (n : ℕ) (r : Result T LineKind) → IfOk r P → IfOk (numbered n r) P
numbered_gives P n (Ok x) h = h
numbered_gives P n (Err kind) h = tt

-- Managers.

abbrev IsOne : Grammar → ℕ → Type 0
IsOne g i = i < count_of g

choice_one : (test : Bool) (i : ℕ) (rest : Result ℕ LineKind) → i < 2 → IfOk rest (IsOne Pair) → IfOk (if test then Ok i else rest) (IsOne Pair)
choice_one true i rest small h = small
choice_one false i rest small h = h

manager_one : (g : Grammar) (word : List ℕ) → IfOk (manager_of g word) (IsOne g)
unfolding manager_of
manager_one Pair word =
    choice_one (same_bytes word (codes "alpha")) 0 _ (omega arith) (choice_one (same_bytes word (codes "beta")) 1 (Err Value) (omega arith) tt)
manager_one (Ring count) [] = tt
manager_one (Ring count) (first ∷ number) =
    choice_gives (IsOne (Ring count)) (first == 0x6D) _ (Err Value)
    (λ _. then_gives (IsOne (Ring count)) _ (number_in 1 count number)
    (λ i is. let bounds = number_bounds 1 count i number is in let low = bounds.low in let high = bounds.high in omega (arith, low, high))) tt

abbrev IsAt : Grammar → ℕ × ℕ → Type 0
IsAt g at = IsOne g at.0

at_one : (g : Grammar) (manager now : List ℕ) → IfOk (at_of g manager now) (IsAt g)
unfolding at_of
at_one g manager now =
    then_gives (IsAt g) _ (manager_of g manager) (λ i is. then_gives (IsAt g) _ (moment_of now) (λ moment _. IfOk-at_ok (IsOne g) is (manager_one g manager)))

-- The forms of lines.

queue_formed : (g : Grammar) (words : List (List ℕ)) → IfOk (queue_from g words) (IsFormed g)
unfolding queue_from
queue_formed g (manager ∷ name ∷ kind ∷ quota ∷ journal ∷ guid) =
    then_gives (IsFormed g) _ (manager_of g manager) (λ which of. then_gives (IsFormed g) _ (plan_of name kind quota journal guid) (λ plan _. IfOk-at_ok (IsOne g) of (manager_one g manager)))
queue_formed g _ = tt

commit_formed : (g : Grammar) (words : List (List ℕ)) → 3 ≤ length words → IfOk (commit_from g words) (IsFormed g)
unfolding commit_from
commit_formed g [] some = tt
commit_formed g (manager ∷ []) some = tt
commit_formed g (manager ∷ now ∷ ops) some =
    then_gives (IsFormed g) _ (at_of g manager now)
    (λ at of. then_gives (IsFormed g) _ (ops_of ops)
    (λ steps is.
    let formed = IfOk-at_ok (AreFormed (length ops)) is (ops_formed ops) in
    let count : length steps ≡ length ops = formed.0 in
    (IfOk-at_ok (IsAt g) of (at_one g manager now), omega arith, formed.1)))

sent_formed : (g : Grammar) (manager now kind priority send : List ℕ) → IfOk (sent_with g manager now kind priority send) (IsFormed g)
unfolding sent_with
sent_formed g manager now kind priority send =
    then_gives (IsFormed g) _ (at_of g manager now)
    (λ at of. then_gives (IsFormed g) _ (how_of kind priority)
    (λ how _. then_gives (IsFormed g) _ (send_of how.1 send) (λ parts is. (IfOk-at_ok (IsAt g) of (at_one g manager now), (IfOk-at_ok (IsSent how.1) is (word_sent how.1 send)).1))))

send_formed : (g : Grammar) (words : List (List ℕ)) → IfOk (send_event g words) (IsFormed g)
unfolding send_event
send_formed g (manager ∷ now ∷ kind ∷ priority ∷ send ∷ []) = sent_formed g manager now kind priority send
send_formed g _ = tt

take_event_formed : (g : Grammar) (words : List (List ℕ)) → IfOk (take_event g words) (IsFormed g)
unfolding take_event
take_event_formed g (manager ∷ now ∷ place ∷ []) =
    then_gives (IsFormed g) _ (at_of g manager now) (λ at of. then_gives (IsFormed g) _ (place_of place) (λ from _. IfOk-at_ok (IsAt g) of (at_one g manager now)))
take_event_formed g _ = tt

purge_formed : (g : Grammar) (words : List (List ℕ)) → IfOk (purge_from g words) (IsFormed g)
unfolding purge_from
purge_formed g (manager ∷ now ∷ place ∷ []) =
    then_gives (IsFormed g) _ (at_of g manager now) (λ at of. then_gives (IsFormed g) _ (place_of place) (λ from _. IfOk-at_ok (IsAt g) of (at_one g manager now)))
purge_formed g _ = tt

between_at : (test : Bool) (now first second : ℕ) → 1 ≤ first → 1 ≤ second
    → IsFormed Pair (if test then event.Connect 0 1 now first second else event.Connect 1 0 now second first)
between_at true now first second a b = ((omega arith, omega arith, (λ same. cc)), a, b)
between_at false now first second a b = ((omega arith, omega arith, (λ same. cc)), b, a)

pair_formed : (words : List (List ℕ)) → IfOk (connect_pair words) (IsFormed Pair)
unfolding connect_pair
pair_formed (manager ∷ now ∷ alpha ∷ beta ∷ []) =
    then_gives (IsFormed Pair) _ (at_of Pair manager now)
    (λ at _. then_gives (IsFormed Pair) _ (window_of alpha)
    (λ first one. then_gives (IsFormed Pair) _ (window_of beta)
    (λ second two. between_at (at.0 == 0) at.1 first second (number_bounds 1 MOST_WINDOW first alpha one).low (number_bounds 1 MOST_WINDOW second beta two).low)))
pair_formed _ = tt

apart_formed : (g : Grammar) (i j : ℕ) (event : Event) (test : Bool) → (i == j) ≡ test → (i ≢ j → IsFormed g event)
    → IfOk (if test then Err Value else Ok event) (IsFormed g)
apart_formed g i j event true same formed = tt
apart_formed g i j event false same formed = formed (λ is. absurd (grind (arith, nat_tests)))

named_formed : (g : Grammar) (words : List (List ℕ)) → IfOk (connect_named g words) (IsFormed g)
unfolding connect_named
named_formed g (manager ∷ peer ∷ now ∷ own ∷ other ∷ []) =
    then_gives (IsFormed g) _ (at_of g manager now)
    (λ at of. then_gives (IsFormed g) _ (manager_of g peer)
    (λ acceptor is. then_gives (IsFormed g) _ (window_of own)
    (λ first one. then_gives (IsFormed g) _ (window_of other)
    (λ second two. apart_formed g at.0 acceptor (event.Connect at.0 acceptor at.1 first second) (at.0 == acceptor) refl
    (λ differ. (
      (IfOk-at_ok (IsAt g) of (at_one g manager now), IfOk-at_ok (IsOne g) is (manager_one g peer), differ),
      (number_bounds 1 MOST_WINDOW first own one).low,
      (number_bounds 1 MOST_WINDOW second other two).low,
    ))))))
named_formed g _ = tt

connect_formed : (g : Grammar) (words : List (List ℕ)) → IfOk (connect_from g words) (IsFormed g)
unfolding connect_from
connect_formed Pair words = pair_formed words
connect_formed (Ring count) words = named_formed (Ring count) words

disconnect_formed : (g : Grammar) (words : List (List ℕ)) → IfOk (disconnect_from g words) (IsFormed g)
unfolding disconnect_from
disconnect_formed Pair [] = refl
disconnect_formed (Ring count) (manager ∷ []) =
    then_gives (IsFormed (Ring count)) _ (manager_of (Ring count) manager) (λ which of. IfOk-at_ok (IsOne (Ring count)) of (manager_one (Ring count) manager))
disconnect_formed g _ = tt

deliver_formed : (g : Grammar) (words : List (List ℕ)) → IfOk (deliver_from words) (IsFormed g)
unfolding deliver_from
deliver_formed g (packet ∷ now ∷ []) =
    then_gives (IsFormed g) _ (packet_of packet)
    (λ number is. then_gives (IsFormed g) _ (moment_of now) (λ moment _. (number_bounds 1 MOST number packet is).low))
deliver_formed g _ = tt

drop_formed : (g : Grammar) (words : List (List ℕ)) → IfOk (drop_from words) (IsFormed g)
unfolding drop_from
drop_formed g (packet ∷ []) = then_gives (IsFormed g) _ (packet_of packet) (λ number is. (number_bounds 1 MOST number packet is).low)
drop_formed g _ = tt

resend_formed : (g : Grammar) (words : List (List ℕ)) → IfOk (resend_from g words) (IsFormed g)
unfolding resend_from
resend_formed g (manager ∷ []) = then_gives (IsFormed g) _ (manager_of g manager) (λ which of. IfOk-at_ok (IsOne g) of (manager_one g manager))
resend_formed g _ = tt

arm_formed : (g : Grammar) (words : List (List ℕ)) → IfOk (arm_from g words) (IsFormed g)
unfolding arm_from
arm_formed g (manager ∷ call ∷ mode ∷ []) =
    then_gives (IsFormed g) _ (manager_of g manager)
    (λ which of. then_gives (IsFormed g) _ (call_of call)
    (λ number is. then_gives (IsFormed g) _ (mode_of mode)
    (λ how _. let bounds = number_bounds 1 MOST_CALL number call is in (IfOk-at_ok (IsOne g) of (manager_one g manager), bounds.low, bounds.high))))
arm_formed g _ = tt

restart_formed : (g : Grammar) (words : List (List ℕ)) → IfOk (restart_from g words) (IsFormed g)
unfolding restart_from
restart_formed g (manager ∷ pick ∷ []) =
    then_gives (IsFormed g) _ (manager_of g manager) (λ which of. then_gives (IsFormed g) _ (pick_of pick) (λ image _. IfOk-at_ok (IsOne g) of (manager_one g manager)))
restart_formed g _ = tt

roll_formed : (g : Grammar) (words : List (List ℕ)) → IfOk (roll_from g words) (IsFormed g)
unfolding roll_from
roll_formed g (manager ∷ count ∷ []) =
    then_gives (IsFormed g) _ (manager_of g manager)
    (λ which of. then_gives (IsFormed g) _ (roll_of count)
    (λ most is. let bounds = number_bounds 1 MOST_ROLL most count is in (IfOk-at_ok (IsOne g) of (manager_one g manager), bounds.low, bounds.high)))
roll_formed g _ = tt

checkpoint_formed : (g : Grammar) (words : List (List ℕ)) → IfOk (checkpoint_from g words) (IsFormed g)
unfolding checkpoint_from
checkpoint_formed g (manager ∷ []) = then_gives (IsFormed g) _ (manager_of g manager) (λ which of. IfOk-at_ok (IsOne g) of (manager_one g manager))
checkpoint_formed g _ = tt

tick_formed : (g : Grammar) (words : List (List ℕ)) → IfOk (tick_from g words) (IsFormed g)
unfolding tick_from
tick_formed g (manager ∷ now ∷ []) = then_gives (IsFormed g) _ (at_of g manager now) (λ at of. IfOk-at_ok (IsAt g) of (at_one g manager now))
tick_formed g _ = tt

pump_formed : (g : Grammar) (words : List (List ℕ)) → IfOk (pump_from g words) (IsFormed g)
unfolding pump_from
pump_formed g (manager ∷ now ∷ []) = then_gives (IsFormed g) _ (at_of g manager now) (λ at of. IfOk-at_ok (IsAt g) of (at_one g manager now))
pump_formed g _ = tt

flow_formed : (g : Grammar) (words : List (List ℕ)) → IfOk (flow_from g words) (IsFormed g)
unfolding flow_from
flow_formed g (manager ∷ now ∷ []) = then_gives (IsFormed g) _ (at_of g manager now) (λ at of. IfOk-at_ok (IsAt g) of (at_one g manager now))
flow_formed g _ = tt

three_or_more : (n : ℕ) → nat_le 3 n ≡ true → 3 ≤ n
three_or_more n h = grind (arith, nat_tests)

event_formed : (g : Grammar) (which : Form) (words : List (List ℕ)) → has_count g which (length words) ≡ true → IfOk (event_from g which words) (IsFormed g)
unfolding event_from
event_formed g Queue words counted = queue_formed g words
event_formed g Commit words counted = commit_formed g words (three_or_more (length words) counted)
event_formed g Send words counted = send_formed g words
event_formed g Take words counted = take_event_formed g words
event_formed g Purge words counted = purge_formed g words
event_formed g Tick words counted = tick_formed g words
event_formed g Connect words counted = connect_formed g words
event_formed g Disconnect words counted = disconnect_formed g words
event_formed g Pump words counted = pump_formed g words
event_formed g Deliver words counted = deliver_formed g words
event_formed g Drop words counted = drop_formed g words
event_formed g Flow words counted = flow_formed g words
event_formed g Resend words counted = resend_formed g words
event_formed g Arm words counted = arm_formed g words
event_formed g Restart words counted = restart_formed g words
event_formed g Roll words counted = roll_formed g words
event_formed g Checkpoint words counted = checkpoint_formed g words

has_its_count : (g : Grammar) (which : Form) (words : List (List ℕ)) → are_counted g which words ≡ true → has_count g which (length words) ≡ true
unfolding are_counted
has_its_count g which words h = (both (list_all is_some_word words) (has_count g which (length words)) h).1

words_formed : (g : Grammar) (words : List (List ℕ)) → IfOk (event_of_words g words) (IsFormed g)
unfolding event_of_words
words_formed g [] = tt
words_formed g (word ∷ words) =
    then_gives (IsFormed g) _ (form_of word)
    (λ which _. choice_gives (IsFormed g) (are_counted g which words) _ _ (λ counted. event_formed g which words (has_its_count g which words counted)) tt)

line_formed : (g : Grammar) (line : List ℕ) → IfOk (event_of g line) (IsFormed g)
unfolding event_of
line_formed g line = choice_gives (IsFormed g) (list_all is_printable line) _ _ (λ _. words_formed g (words_of line)) tt

-- The events of lines.

abbrev pub AllFormed : Grammar → List (ℕ × Event) → Type 0
AllFormed g events = AllByRecursion (λ e. IsFormed g e.1) events

pub lines_formed : (g : Grammar) (n : ℕ) (lines : List (List ℕ)) → IfOk (script_from g n lines) (AllFormed g)
lines_formed g n [] = tt
lines_formed g n (line ∷ lines) =
    choice_gives (AllFormed g) (is_skipped line) (script_from g (n + 1) lines) _ (λ _. lines_formed g (n + 1) lines)
    (then_gives (AllFormed g) _ (numbered n (event_of g line))
    (λ event one. then_gives (AllFormed g) _ (script_from g (n + 1) lines)
    (λ events more.
    (IfOk-at_ok (IsFormed g) one (numbered_gives (IsFormed g) n (event_of g line) (line_formed g line)), IfOk-at_ok (AllFormed g) more (lines_formed g (n + 1) lines)))))

-- Their number.

-- the lines that have a byte
abbrev with_bytes : List (List ℕ) → ℕ
with_bytes [] = 0
with_bytes ([] ∷ lines) = with_bytes lines
with_bytes ((b ∷ bs) ∷ lines) = with_bytes lines + 1

few_with_bytes : (lines : List (List ℕ)) → with_bytes lines ≤ begun lines
few_with_bytes [] = omega arith
few_with_bytes ([] ∷ []) = omega arith
few_with_bytes ([] ∷ line ∷ lines) = let more : with_bytes (line ∷ lines) ≤ begun (line ∷ lines) = few_with_bytes (line ∷ lines) in omega arith
few_with_bytes ((b ∷ bs) ∷ lines) = let more : with_bytes lines ≤ begun lines = few_with_bytes lines in omega arith

abbrev AreFew : ℕ → List (ℕ × Event) → Type 0
AreFew n events = length events ≤ n

one_more : {E : Type 0} (n : ℕ) (r : Result (List (ℕ × Event)) E) → IfOk r (AreFew n) → IfOk r (AreFew (n + 1))
one_more n (Ok events) h = omega arith
one_more n (Err first) h = tt

few_from : (g : Grammar) (n : ℕ) (lines : List (List ℕ)) → IfOk (script_from g n lines) (AreFew (with_bytes lines))
few_from g n [] = omega arith
few_from g n ([] ∷ lines) = few_from g (n + 1) lines
few_from g n ((b ∷ line) ∷ lines) =
    choice_gives (AreFew (with_bytes lines + 1)) (b == 0x23) (script_from g (n + 1) lines) _
    (λ _. one_more (with_bytes lines) (script_from g (n + 1) lines) (few_from g (n + 1) lines))
    (then_gives (AreFew (with_bytes lines + 1)) _ (numbered n (event_of g (b ∷ line)))
    (λ event _. then_gives (AreFew (with_bytes lines + 1)) _ (script_from g (n + 1) lines)
    (λ events more.
    let few : length events ≤ with_bytes lines = IfOk-at_ok (AreFew (with_bytes lines)) more (few_from g (n + 1) lines) in omega arith)))

pub few_events : (g : Grammar) (n : ℕ) (lines : List (List ℕ)) (events : List (ℕ × Event)) → script_from g n lines ≡ Ok events → length events ≤ begun lines
few_events g n lines events is =
    let some : with_bytes lines ≤ begun lines = few_with_bytes lines in
    let few : length events ≤ with_bytes lines = IfOk-at_ok (AreFew (with_bytes lines)) is (few_from g n lines) in
    omega arith

-- What a call that reads a script answers keeps this.

pub answer_formed : (text : List ℕ) (r : Result (List (ℕ × Event)) ScriptFault) → IfOk r (λ script. script_of text ≡ Ok script)
    → IfOk r (λ script. AllFormed Pair script)
answer_formed text (Ok script) is = IfOk-at_ok (AllFormed Pair) is (lines_formed Pair 1 (lines_of text))
answer_formed text (Err fault) is = tt

pub answer_few : (text : List ℕ) (most : ℕ) (r : Result (List (ℕ × Event)) ScriptFault) → line_count text ≤ most
    → IfOk r (λ script. script_of text ≡ Ok script) → IfOk r (λ script. length script ≤ most)
answer_few text most (Ok script) short is = let few : length script ≤ line_count text = few_events Pair 1 (lines_of text) script is in omega arith
answer_few text most (Err fault) short is = tt
