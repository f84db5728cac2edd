use Rattle.std.specs.Prelude.{ℕ, ◌+◌, ◌-◌, ◌/◌, ◌%◌, nat_lt, List, [], ◌∷◌, ◌++◌, codes, Option}
use Rattle.std.specs.Prelude.{Some, None, unwrap_or, if◌then◌else◌, find}
use Rattle.std.specs.Option.{option_map}
use Rattle.std.specs.List.{flat_map}
use Rattle.std.specs.Fmt.{decimal}
use Rattle.mqb_base.specs.declared.ids.Guid.{Guid}
use Rattle.mqb_base.specs.declared.ids.MessageId.{MessageId}
use Rattle.mqb_base.specs.declared.ids.SequenceId.{SequenceId}
use Rattle.mqb_base.specs.declared.ids.Identity.{Identity}
use Rattle.mqb_base.specs.declared.class.Class.{Class}
use Rattle.mqb_base.specs.declared.heard.Cause.{Cause}
use Rattle.mqb_base.specs.declared.heard.Cause.TheVariants.{Early, BadAck, Refused}
use Rattle.mqb_base.specs.declared.heard.Cause.TheVariants.{Repeated, Foreign}
use Rattle.mqb_base.specs.declared.heard.Heard.{Heard}
use Rattle.mqb_base.specs.declared.heard.Heard.TheVariants as heard
use Rattle.mqb_base.specs.declared.ledger.Line.{Line}
use Rattle.mqb_base.specs.declared.ledger.Line.TheVariants as line
use Rattle.mqb_base.specs.Same.{same_guid}
use Rattle.mqb_names.specs.Printed.{printed_guid}
use Rattle.mqb_transcript.specs.declared.arrivals.Arrival.{Arrival}
use Rattle.mqb_transcript.specs.declared.arrivals.Outcome.{Outcome}
use Rattle.mqb_transcript.specs.declared.arrivals.Outcome.TheVariants as outcome
use Rattle.mqb_transcript.specs.declared.replies.Reply.{Reply}
use Rattle.mqb_transcript.specs.declared.replies.Reply.TheVariants as reply

-- a space and what follows it
abbrev pub spaced : List ℕ → List ℕ
spaced text = 32 ∷ text

unfoldable pub numbers_text : List ℕ → List ℕ
numbers_text numbers = flat_map (λ n. spaced (decimal n)) numbers

-- Managers, messages, streams, classes and queues.

-- a manager is printed as its host, and one that is not among the hosts as its GUID
unfoldable pub manager_text : List Identity → Guid → List ℕ
manager_text hosts guid =
    unwrap_or (option_map (λ known. known.host) (find (λ known. same_guid known.guid guid) hosts))
    (printed_guid guid)

unfoldable pub id_text : List Identity → MessageId → List ℕ
id_text hosts id = manager_text hosts id.qm ++ codes "." ++ decimal id.number

-- the ordinal of a sequence and a number in it
unfoldable pub place_text : SequenceId → ℕ → List ℕ
place_text sequence number = decimal sequence.ordinal ++ spaced (decimal number)

-- a hexadecimal digit, in capitals
abbrev pub hex_digit : ℕ → ℕ
hex_digit n = if nat_lt n 10 then 48 + n else 65 + (n - 10)

-- four hexadecimal digits
unfoldable pub class_text : Class → List ℕ
class_text class = hex_digit (class.0 / 4096) ∷ hex_digit (class.0 / 256 % 16)
    ∷ hex_digit (class.0 / 16 % 16) ∷ hex_digit (class.0 % 16) ∷ []

-- Ledger lines.

unfoldable pub line_text : List Identity → Line → List ℕ
line_text hosts (line.Committed stream number id) =
    codes "committed " ++ place_text stream.sequence number ++ spaced (id_text hosts id)
line_text hosts (line.Expired stream number id moment) =
    codes "expired " ++ place_text stream.sequence number ++ spaced (id_text hosts id)
line_text hosts (line.Put stream number id) =
    codes "put " ++ place_text stream.sequence number ++ spaced (id_text hosts id)
line_text hosts (line.Refused stream number class id) =
    codes "refused " ++ place_text stream.sequence number ++ spaced (class_text class)
    ++ spaced (id_text hosts id)
line_text hosts (line.Local id) = codes "local " ++ id_text hosts id
line_text hosts (line.Stored id) = codes "stored " ++ id_text hosts id
line_text hosts (line.Bounced class id) =
    codes "bounced " ++ class_text class ++ spaced (id_text hosts id)
line_text hosts (line.Released id) = codes "released " ++ id_text hosts id
line_text hosts (line.Took id) = codes "took " ++ id_text hosts id
line_text hosts (line.Emptied id) = codes "emptied " ++ id_text hosts id
line_text hosts (line.Purged id) = codes "purged " ++ id_text hosts id
line_text hosts (line.Lapsed id) = codes "lapsed " ++ id_text hosts id
line_text hosts (line.Swept id) = codes "swept " ++ id_text hosts id

-- in brackets, behind a space
unfoldable pub bracketed : List Identity → Line → List ℕ
bracketed hosts l = codes " [" ++ line_text hosts l ++ codes "]"

unfoldable pub lines_text : List Identity → List Line → List ℕ
lines_text hosts lines = flat_map (bracketed hosts) lines

-- Replies.

unfoldable pub cause_text : Cause → List ℕ
cause_text Early = codes "early"
cause_text BadAck = codes "badack"
cause_text Refused = codes "refused"
cause_text Repeated = codes "repeated"
cause_text Foreign = codes "foreign"

unfoldable pub heard_text : List Identity → Heard → List ℕ
heard_text hosts heard.SetUp = codes "setup"
heard_text hosts heard.Session = codes "session"
heard_text hosts (heard.Put sequence number) = codes "put"
heard_text hosts (heard.Refused sequence number class) = codes "refused " ++ class_text class
heard_text hosts (heard.Duplicate sequence number) =
    codes "duplicate " ++ place_text sequence number
heard_text hosts (heard.Gap sequence number) = codes "gap " ++ place_text sequence number
heard_text hosts (heard.Stale sequence number) = codes "stale " ++ place_text sequence number
heard_text hosts heard.Stored = codes "stored"
heard_text hosts (heard.Bounced class) = codes "bounced " ++ class_text class
heard_text hosts (heard.ExpressPut id) = codes "express " ++ id_text hosts id
heard_text hosts (heard.ExpressBounced class id) =
    codes "expressbounced " ++ class_text class ++ spaced (id_text hosts id)
heard_text hosts (heard.OrderAcked ordinal number) =
    codes "acked " ++ decimal ordinal ++ spaced (decimal number)
heard_text hosts heard.OldAck = codes "oldack"
heard_text hosts (heard.Final id class) =
    codes "final " ++ class_text class ++ spaced (id_text hosts id)
heard_text hosts heard.Discarded = codes "discarded"
heard_text hosts (heard.Closed cause) = codes "closed " ++ cause_text cause

-- what a manager made of a packet, and the ledger lines of its record
abbrev pub heard_reply : List Identity → Heard → List Line → List ℕ
heard_reply hosts heard lines = heard_text hosts heard ++ lines_text hosts lines

unfoldable pub outcome_text : List Identity → Outcome → List ℕ
outcome_text hosts (outcome.Heard heard lines) = heard_reply hosts heard lines
outcome_text hosts outcome.Gone = codes "gone"
outcome_text hosts outcome.Stopped = codes "stopped"
outcome_text hosts outcome.Failed = codes "failed"

-- the packet's number, and what became of it
unfoldable pub arrival_text : List Identity → Arrival → List ℕ
arrival_text hosts a = spaced (decimal a.packet) ++ codes ": " ++ outcome_text hosts a.outcome

unfoldable pub arrivals_text : List Identity → List Arrival → List ℕ
arrivals_text hosts arrivals = flat_map (arrival_text hosts) arrivals

-- the place of an op, where a refusal has one
unfoldable pub op_text : Option ℕ → List ℕ
op_text None = []
op_text (Some op) = spaced (decimal op)

-- a reply of words alone, and nothing where it says more
unfoldable pub words_text : Reply → List ℕ
words_text reply.Done = codes "ok"
words_text reply.Down = codes "down"
words_text reply.Stopped = codes "stopped"
words_text reply.Failed = codes "failed"
words_text reply.QueueThere = codes "queuethere"
words_text reply.TooManyQueues = codes "toomanyqueues"
words_text reply.TooManyOps = codes "toomanyops"
words_text reply.TooLarge = codes "toolarge"
words_text reply.TooFar = codes "toofar"
words_text reply.NumbersSpent = codes "numbersspent"
words_text reply.Transactional = codes "transactional"
words_text reply.Linked = codes "linked"
words_text reply.Disconnected = codes "disconnected"
words_text reply.Unlinked = codes "unlinked"
words_text reply.Spent = codes "spent"
words_text reply.NoPacket = codes "none"
words_text reply.Gone = codes "gone"
words_text reply.Dropped = codes "dropped"
words_text reply.Armed = codes "armed"
words_text reply.Opened = codes "opened"
words_text reply.OpenedLost = codes "opened lost"
words_text _ = []

-- a reply, and the ledger lines of its record
unfoldable pub reply_text : List Identity → Reply → List ℕ
reply_text hosts (reply.Committed lines) = codes "committed" ++ lines_text hosts lines
reply_text hosts (reply.NoQueue op) = codes "noqueue" ++ op_text op
reply_text hosts (reply.NotTransactional op) = codes "nottransactional" ++ op_text (Some op)
reply_text hosts (reply.QueueEmpty op) = codes "queueempty" ++ op_text op
reply_text hosts (reply.UnknownPeer op) = codes "unknownpeer" ++ op_text op
reply_text hosts (reply.QueueFull op) = codes "queuefull" ++ op_text op
reply_text hosts (reply.SequenceSpent op) = codes "sequencespent" ++ op_text (Some op)
reply_text hosts (reply.Sent id lines) = codes "sent " ++ id_text hosts id ++ lines_text hosts lines
reply_text hosts (reply.Took id lines) = codes "took " ++ id_text hosts id ++ lines_text hosts lines
reply_text hosts (reply.Purged count lines) =
    codes "purged " ++ decimal count ++ lines_text hosts lines
reply_text hosts (reply.Ticked express lines) =
    codes "ticked " ++ decimal express ++ lines_text hosts lines
reply_text hosts (reply.Connected packets) = codes "connected" ++ numbers_text packets
reply_text hosts (reply.Pumped packets) = codes "pumped" ++ numbers_text packets
reply_text hosts (reply.Heard heard lines) = heard_reply hosts heard lines
reply_text hosts (reply.Flowed arrivals) = codes "flowed" ++ arrivals_text hosts arrivals
reply_text hosts (reply.OpenedKept lines) = codes "opened kept" ++ lines_text hosts lines
reply_text hosts answer = words_text answer

-- the script's line number, where there is one
unfoldable pub number_text : Option ℕ → List ℕ
number_text None = []
number_text (Some number) = decimal number ++ codes " "

-- a line of the transcript
abbrev pub printed : List Identity → Option ℕ → Reply → List ℕ
printed hosts line answer = number_text line ++ reply_text hosts answer ++ codes "\n"
