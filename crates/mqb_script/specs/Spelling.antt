-- The lines of events.
use Rattle.std.specs.Prelude.{ℕ, zero, suc, ◌+◌, ◌*◌, ◌<◌, ◌≤◌, ◌==◌, Bool, IsTrue, ◌&&◌, not, List}
use Rattle.std.specs.Prelude.{[], ◌∷◌, ◌++◌, length, map, codes, Option, Some, None}
use Rattle.std.specs.Prelude.{IfSome, if◌then◌else◌}
use Rattle.std.specs.List.{list_all, AllByRecursion, join_with_byte}
use Rattle.std.specs.Fmt.{decimal}
use Rattle.mqb_base.specs.declared.ids.Guid.{Guid}
use Rattle.mqb_base.specs.declared.queue_names.QueueName.{QueueName}
use Rattle.mqb_base.specs.declared.queues.QueuePlan.{QueuePlan}
use Rattle.mqb_base.specs.declared.queues.Place.{Place}
use Rattle.mqb_base.specs.declared.queues.Place.TheVariants as place
use Rattle.mqb_base.specs.declared.draft.Parts.{Parts}
use Rattle.mqb_base.specs.declared.draft.Op.{Op}
use Rattle.mqb_base.specs.declared.draft.Op.TheVariants as op
use Rattle.mqb_outside.specs.declared.power.Mode.{Mode}
use Rattle.mqb_outside.specs.declared.power.Mode.TheVariants.{Stop, Fail}
use Rattle.mqb_outside.specs.declared.power.Pick.{Pick}
use Rattle.mqb_outside.specs.declared.power.Pick.TheVariants.{Old, New, Half, Ones}
use Rattle.mqb_names.specs.Printed.{printed, printed_guid}
use Rattle.mqb_names.specs.Values.{AreBytes, IsName, IsQueueName}
use Rattle.mqb_forms.specs.declared.sends.Names.{Names}
use Rattle.mqb_forms.specs.declared.sends.Terms.{Terms}
use Rattle.mqb_forms.specs.Values.{MOST, MOST_WINDOW, MOST_CALL, MOST_ROLL, journal_suffix}
use Rattle.mqb_forms.specs.Sends.{AreQueues, flags_text, is_body_byte, is_starred, parts_of}
use Rattle.mqb_script.specs.declared.grammar.Grammar.{Grammar}
use Rattle.mqb_script.specs.declared.grammar.Grammar.TheVariants.{Pair, Ring}
use Rattle.mqb_script.specs.declared.forms.Form.TheVariants as form
use Rattle.mqb_script.specs.declared.events.Event.{Event}
use Rattle.mqb_script.specs.declared.events.Event.TheVariants.{Queue, Commit, Send, Take, Purge}
use Rattle.mqb_script.specs.declared.events.Event.TheVariants.{Tick, Connect, Disconnect, Pump}
use Rattle.mqb_script.specs.declared.events.Event.TheVariants.{Deliver, Drop, Flow, Resend, Arm}
use Rattle.mqb_script.specs.declared.events.Event.TheVariants.{Restart, Roll, Checkpoint}
use Rattle.mqb_script.specs.Hosts.{count_of, host_at, AreEnds, IsEnd}
use Rattle.mqb_script.specs.Forms.{word_of}

abbrev pub choice_text : List ℕ → List ℕ → Bool → List ℕ
choice_text first second choice = if choice then first else second

abbrev pub mode_text : Mode → List ℕ
mode_text Stop = codes "stop"
mode_text Fail = codes "fail"

abbrev pub pick_text : Pick → List ℕ
pick_text Old = codes "old"
pick_text New = codes "new"
pick_text Half = codes "half"
pick_text Ones = codes "ones"

abbrev pub place_text : Place → List ℕ
place_text (place.Queue name) = name
place_text (place.JournalOf name) = name ++ journal_suffix
place_text place.Dead = codes ";deadletter"
place_text place.DeadXact = codes ";deadxact"
place_text place.Journal = journal_suffix

abbrev pub public_words : Option Guid → List (List ℕ)
public_words None = []
public_words (Some guid) = printed_guid guid ∷ []

abbrev pub optional_text : Option QueueName → List ℕ
optional_text None = codes "-"
optional_text (Some name) = printed name

abbrev pub seconds_text : ℕ → List ℕ
seconds_text seconds = if seconds == MOST then codes "-" else decimal seconds

-- a send, its fields between commas; its body is its text
abbrev pub send_text : Parts → List ℕ
send_text parts = join_with_byte 44
    (codes "send" ∷ printed parts.destination ∷ seconds_text parts.reach ∷ seconds_text parts.life
    ∷ flags_text (parts.journal + 4 * parts.ack)
    ∷ optional_text parts.admin ∷ optional_text parts.response ∷ parts.body ∷ [])

abbrev pub op_text : Op → List ℕ
op_text (op.Send parts) = send_text parts
op_text (op.Take name) = join_with_byte 44 (codes "take" ∷ name ∷ [])

-- the windows of a pair, alpha's and beta's
abbrev pub windows_of_pair : ℕ → (own other : ℕ) → List (List ℕ)
windows_of_pair zero own other = decimal own ∷ decimal other ∷ []
windows_of_pair (suc i) own other = decimal other ∷ decimal own ∷ []

abbrev pub connect_words : Grammar → (initiator acceptor now own other : ℕ) → List (List ℕ)
connect_words Pair initiator acceptor now own other =
    host_at Pair initiator ∷ decimal now ∷ windows_of_pair initiator own other
connect_words (Ring count) initiator acceptor now own other =
    host_at (Ring count) initiator ∷ host_at (Ring count) acceptor ∷ decimal now
    ∷ decimal own ∷ decimal other ∷ []

abbrev pub disconnect_words : Grammar → ℕ → List (List ℕ)
disconnect_words Pair manager = []
disconnect_words (Ring count) manager = host_at (Ring count) manager ∷ []

-- the words of an event's line
abbrev pub words_from : Grammar → Event → List (List ℕ)
words_from grammar (Queue manager plan) = word_of form.Queue ∷ host_at grammar manager ∷ plan.name
    ∷ choice_text (codes "tx") (codes "plain") plan.transactional
    ∷ decimal plan.quota ∷ choice_text (codes "journal") (codes "none") plan.journal
    ∷ public_words plan.public
words_from grammar (Commit manager now ops) =
    word_of form.Commit ∷ host_at grammar manager ∷ decimal now ∷ map op_text ops
words_from grammar (Send manager now recoverable parts) =
    word_of form.Send ∷ host_at grammar manager ∷ decimal now
    ∷ choice_text (codes "recoverable") (codes "express") recoverable ∷ decimal parts.priority
    ∷ send_text parts ∷ []
words_from grammar (Take manager now from) =
    word_of form.Take ∷ host_at grammar manager ∷ decimal now ∷ place_text from ∷ []
words_from grammar (Purge manager now from) =
    word_of form.Purge ∷ host_at grammar manager ∷ decimal now ∷ place_text from ∷ []
words_from grammar (Tick manager now) =
    word_of form.Tick ∷ host_at grammar manager ∷ decimal now ∷ []
words_from grammar (Connect initiator acceptor now own other) =
    word_of form.Connect ∷ connect_words grammar initiator acceptor now own other
words_from grammar (Disconnect manager) = word_of form.Disconnect ∷ disconnect_words grammar manager
words_from grammar (Pump manager now) =
    word_of form.Pump ∷ host_at grammar manager ∷ decimal now ∷ []
words_from grammar (Deliver packet now) = word_of form.Deliver ∷ decimal packet ∷ decimal now ∷ []
words_from grammar (Drop packet) = word_of form.Drop ∷ decimal packet ∷ []
words_from grammar (Flow manager now) =
    word_of form.Flow ∷ host_at grammar manager ∷ decimal now ∷ []
words_from grammar (Resend manager) = word_of form.Resend ∷ host_at grammar manager ∷ []
words_from grammar (Arm manager call mode) =
    word_of form.Arm ∷ host_at grammar manager ∷ decimal call ∷ mode_text mode ∷ []
words_from grammar (Restart manager pick) =
    word_of form.Restart ∷ host_at grammar manager ∷ pick_text pick ∷ []
words_from grammar (Roll manager count) =
    word_of form.Roll ∷ host_at grammar manager ∷ decimal count ∷ []
words_from grammar (Checkpoint manager) = word_of form.Checkpoint ∷ host_at grammar manager ∷ []

-- the line of an event
abbrev pub line_of : Grammar → Event → List ℕ
line_of grammar event = join_with_byte 32 (words_from grammar event)

-- a body that is its own text
abbrev pub is_plain : List ℕ → Bool
is_plain body = list_all is_body_byte body && not (is_starred body)

-- a message that a send can tell
pub record IsTold (names : Names) (terms : Terms) (body : List ℕ) : Type 0 where
  pub queues : AreQueues names
  pub destination : IsQueueName names.destination
  pub admin : IfSome names.admin IsQueueName
  pub response : IfSome names.response IsQueueName
  pub reach : terms.reach ≤ MOST
  pub life : terms.life ≤ MOST
  pub flags : terms.flags < 64
  pub plain : IsTrue (is_plain body)

pub data IsSpelledOp : Op → Type 0 where
  send : (names : Names) (terms : Terms) (body : List ℕ) → IsTold names terms body
      → IsSpelledOp (op.Send (parts_of 0 names terms body))
  take : (name : List ℕ) → IsName name → IsSpelledOp (op.Take name)

abbrev pub IsPlaceName : Place → Type 0
IsPlaceName (place.Queue name) = IsName name
IsPlaceName (place.JournalOf name) = IsName name
IsPlaceName _ = Unit {0}

-- The events that a line can tell.
pub data IsSpelled (grammar : Grammar) : Event → Type 0 where
  queue : (manager : ℕ) (plan : QueuePlan) → manager < count_of grammar → IsName plan.name
      → plan.quota ≤ MOST → IfSome plan.public (λ guid. AreBytes 16 guid.0)
      → IsSpelled grammar (Queue manager plan)
  commit : (manager now : ℕ) (ops : List Op) → manager < count_of grammar → now ≤ MOST
      → 1 ≤ length ops → AllByRecursion IsSpelledOp ops → IsSpelled grammar (Commit manager now ops)
  send : (manager now : ℕ) (recoverable : Bool) (priority : ℕ) (names : Names) (terms : Terms)
      (body : List ℕ) → manager < count_of grammar → now ≤ MOST → priority ≤ 7
      → IsTold names terms body
      → IsSpelled grammar (Send manager now recoverable (parts_of priority names terms body))
  take : (manager now : ℕ) (from : Place) → manager < count_of grammar → now ≤ MOST
      → IsPlaceName from → IsSpelled grammar (Take manager now from)
  purge : (manager now : ℕ) (from : Place) → manager < count_of grammar → now ≤ MOST
      → IsPlaceName from → IsSpelled grammar (Purge manager now from)
  tick : (manager now : ℕ) → manager < count_of grammar → now ≤ MOST
      → IsSpelled grammar (Tick manager now)
  connect : (initiator acceptor now own other : ℕ) → AreEnds grammar initiator acceptor → now ≤ MOST
      → 1 ≤ own → own ≤ MOST_WINDOW → 1 ≤ other
      → other ≤ MOST_WINDOW → IsSpelled grammar (Connect initiator acceptor now own other)
  disconnect : (manager : ℕ) → IsEnd grammar manager → IsSpelled grammar (Disconnect manager)
  pump : (manager now : ℕ) → manager < count_of grammar → now ≤ MOST
      → IsSpelled grammar (Pump manager now)
  deliver : (packet now : ℕ) → 1 ≤ packet → packet ≤ MOST → now ≤ MOST
      → IsSpelled grammar (Deliver packet now)
  drop : (packet : ℕ) → 1 ≤ packet → packet ≤ MOST → IsSpelled grammar (Drop packet)
  flow : (manager now : ℕ) → manager < count_of grammar → now ≤ MOST
      → IsSpelled grammar (Flow manager now)
  resend : (manager : ℕ) → manager < count_of grammar → IsSpelled grammar (Resend manager)
  arm : (manager call : ℕ) (mode : Mode) → manager < count_of grammar → 1 ≤ call → call ≤ MOST_CALL
      → IsSpelled grammar (Arm manager call mode)
  restart : (manager : ℕ) (pick : Pick) → manager < count_of grammar
      → IsSpelled grammar (Restart manager pick)
  roll : (manager count : ℕ) → manager < count_of grammar → 1 ≤ count → count ≤ MOST_ROLL
      → IsSpelled grammar (Roll manager count)
  checkpoint : (manager : ℕ) → manager < count_of grammar → IsSpelled grammar (Checkpoint manager)
