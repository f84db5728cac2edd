-- What a reply tells is read from its text.
use Rattle.std.proofs.Common.{◌≡◌, ℕ, List, ◌==◌, codes, if◌then◌else◌, refl, sym, ap, ◌∙◌}
use Rattle.std.specs.List.{starts_with}
use Rattle.mqb_base.specs.declared.ids.Identity.{Identity}
use Rattle.mqb_base.specs.declared.heard.Heard.{Heard}
use Rattle.mqb_base.specs.declared.heard.Heard.TheVariants as heard
use Rattle.mqb_base.specs.declared.ledger.Line.{Line}
use Rattle.mqb_base.specs.Same.{same_bytes}
use Rattle.mqb_transcript.specs.declared.arrivals.Outcome.{Outcome}
use Rattle.mqb_transcript.specs.declared.arrivals.Outcome.TheVariants as outcome
use Rattle.mqb_transcript.specs.declared.replies.Reply.{Reply}
use Rattle.mqb_transcript.specs.declared.replies.Reply.TheVariants as reply
use Rattle.mqb_transcript.specs.Texts.{heard_text, heard_reply, outcome_text, reply_text, words_text}
use Rattle.mqb_transcript.specs.Told.{Told, told, told_of}

-- what a text tells
abbrev read_from : List ℕ → Told
read_from text = if same_bytes text (codes "stopped") then Told.stopped
    else if same_bytes text (codes "failed") then Told.failed
    else if starts_with ◌==◌ text (codes "opened kept") then Told.kept
    else if same_bytes text (codes "opened lost") then Told.lost
    else if same_bytes text (codes "toofar") then Told.far
    else Told.answered

heard_told : (hosts : List Identity) (h : Heard) (lines : List Line) → read_from (heard_reply hosts h lines) ≡ Told.answered
unfolding heard_text
heard_told hosts heard.SetUp lines = refl
heard_told hosts heard.Session lines = refl
heard_told hosts (heard.Put sequence number) lines = refl
heard_told hosts (heard.Refused sequence number class) lines = refl
heard_told hosts (heard.Duplicate sequence number) lines = refl
heard_told hosts (heard.Gap sequence number) lines = refl
heard_told hosts (heard.Stale sequence number) lines = refl
heard_told hosts heard.Stored lines = refl
heard_told hosts (heard.Bounced class) lines = refl
heard_told hosts (heard.ExpressPut id) lines = refl
heard_told hosts (heard.ExpressBounced class id) lines = refl
heard_told hosts (heard.OrderAcked ordinal number) lines = refl
heard_told hosts heard.OldAck lines = refl
heard_told hosts (heard.Final id class) lines = refl
heard_told hosts heard.Discarded lines = refl
heard_told hosts (heard.Closed cause) lines = refl

outcome_told : (hosts : List Identity) (o : Outcome) → read_from (outcome_text hosts o) ≡ told_of o
unfolding outcome_text
outcome_told hosts (outcome.Heard h lines) = heard_told hosts h lines
outcome_told hosts outcome.Gone = refl
outcome_told hosts outcome.Stopped = refl
outcome_told hosts outcome.Failed = refl

reply_told : (hosts : List Identity) (r : Reply) → read_from (reply_text hosts r) ≡ told r
unfolding reply_text words_text
reply_told hosts reply.Done = refl
reply_told hosts reply.Down = refl
reply_told hosts reply.Stopped = refl
reply_told hosts reply.Failed = refl
reply_told hosts reply.QueueThere = refl
reply_told hosts reply.TooManyQueues = refl
reply_told hosts (reply.Committed lines) = refl
reply_told hosts reply.TooManyOps = refl
reply_told hosts reply.TooLarge = refl
reply_told hosts reply.TooFar = refl
reply_told hosts reply.NumbersSpent = refl
reply_told hosts (reply.NoQueue op) = refl
reply_told hosts (reply.NotTransactional op) = refl
reply_told hosts (reply.QueueEmpty op) = refl
reply_told hosts (reply.UnknownPeer op) = refl
reply_told hosts (reply.QueueFull op) = refl
reply_told hosts (reply.SequenceSpent op) = refl
reply_told hosts (reply.Sent id lines) = refl
reply_told hosts reply.Transactional = refl
reply_told hosts (reply.Took id lines) = refl
reply_told hosts (reply.Purged count lines) = refl
reply_told hosts (reply.Ticked express lines) = refl
reply_told hosts (reply.Connected packets) = refl
reply_told hosts reply.Linked = refl
reply_told hosts reply.Disconnected = refl
reply_told hosts reply.Unlinked = refl
reply_told hosts (reply.Pumped packets) = refl
reply_told hosts reply.Spent = refl
reply_told hosts reply.NoPacket = refl
reply_told hosts reply.Gone = refl
reply_told hosts reply.Dropped = refl
reply_told hosts (reply.Flowed arrivals) = refl
reply_told hosts reply.Armed = refl
reply_told hosts reply.Opened = refl
reply_told hosts (reply.OpenedKept lines) = refl
reply_told hosts reply.OpenedLost = refl
reply_told hosts (reply.Heard h lines) = heard_told hosts h lines

pub outcomes_apart : (hosts : List Identity) (a b : Outcome) → outcome_text hosts a ≡ outcome_text hosts b → told_of a ≡ told_of b
outcomes_apart hosts a b same = sym (outcome_told hosts a) ∙ ap read_from same ∙ outcome_told hosts b

pub replies_apart : (hosts : List Identity) (a b : Reply) → reply_text hosts a ≡ reply_text hosts b → told a ≡ told b
replies_apart hosts a b same = sym (reply_told hosts a) ∙ ap read_from same ∙ reply_told hosts b
