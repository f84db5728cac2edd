-- What an inspection makes of a packet.
use Rattle.std.specs.Prelude.{◌≡◌, ◌+◌, ◌⊎◌, ◌∷◌, ◌++◌, [], Bool, false, true, List, Option}
use Rattle.std.specs.Prelude.{None, Some}
use Rattle.mqb_capture.specs.Lawful.{cause_of, heard_by}
use Rattle.mqb_capture.specs.Links.{link_of}
use Rattle.mqb_capture.specs.declared.link.Link.{Link}
use Rattle.mqb_capture.specs.declared.answers.BreakCause.{BreakCause}
use Rattle.mqb_capture.specs.declared.answers.BreakCause.TheVariants as cause
use Rattle.mqb_inspect.specs.Linking.{may_join}
use Rattle.mqb_inspect.specs.Passing.{IsSent, IsSentCause, goes_from}
use Rattle.mqb_inspect.specs.declared.standing.Inspection.{Inspection}
use Rattle.mqb_packet.specs.declared.packet.Packet.{Packet}
use Rattle.mqb_session.specs.State.{State}

-- a packet's message joined those of its way, where it has a place in a sequence
abbrev pub JoinsBy : Option Link → List Link → List Link → Bool → Type 0
JoinsBy None came after added = (added ≡ true) × (after ≡ came)
JoinsBy (Some link) came after added =
    (added ≡ may_join came link) × (added ≡ true → after ≡ came ++ link ∷ [])

abbrev pub JoinsOf : Packet → List Link → List Link → Bool → Type 0
JoinsOf p came after added = JoinsBy (link_of p) came after added

-- Of an inspection nothing changed but what is known of the packets of one way, and the session.
pub record KeepsOther (i j : Inspection) : Type 0 where
  pub own : j.own ≡ i.own
  pub peer : j.peer ≡ i.peer
  pub sent : j.sent ≡ i.sent
  pub heard : j.heard ≡ i.heard

-- no packet was counted
pub record KeepsCounts (i j : Inspection) : Type 0 where
  pub sent : j.sent_count ≡ i.sent_count
  pub heard : j.heard_count ≡ i.heard_count

-- A packet that was sent was taken.
pub record IsTakenSent (p : Packet) (i j : Inspection) : Type 0 where
  pub keeps : KeepsOther i j
  pub between : goes_from i.own i.peer p ≡ true
  pub sends : IsSent p i.session j.session
  pub joins : JoinsOf p i.sent_links j.sent_links true
  pub links : j.heard_links ≡ i.heard_links
  pub count : j.sent_count ≡ i.sent_count + 1
  pub other : j.heard_count ≡ i.heard_count

-- It was sent between other managers; or the session does not send it; or its message does not
-- fit those of its way.
abbrev pub BreaksSent : BreakCause → Packet → Inspection → Type 0
BreaksSent why p i = ((why ≡ cause.Origin) × (goes_from i.own i.peer p ≡ false))
    ⊎ (((goes_from i.own i.peer p ≡ true) × IsSentCause why p i.session)
    ⊎ ((why ≡ cause.Link) × (goes_from i.own i.peer p ≡ true) × (s : State) × IsSent p i.session s
    × (after : List Link) × JoinsOf p i.sent_links after false))

abbrev pub TakesSent : Packet → Inspection → Inspection → Option BreakCause → Type 0
TakesSent p i j None = IsTakenSent p i j
TakesSent p i j (Some why) = BreaksSent why p i × KeepsCounts i j

-- A packet that was heard was taken.
pub record IsTakenHeard (p : Packet) (i j : Inspection) : Type 0 where
  pub keeps : KeepsOther i j
  pub between : goes_from i.peer i.own p ≡ true
  pub left : j.session ≡ heard_by i.peer p i.session
  pub goes_on : cause_of j.session.phase ≡ None
  pub joins : JoinsOf p i.heard_links j.heard_links true
  pub links : j.sent_links ≡ i.sent_links
  pub count : j.heard_count ≡ i.heard_count + 1
  pub other : j.sent_count ≡ i.sent_count

-- why a packet that was heard is not
abbrev pub BreaksHeard : BreakCause → Packet → Inspection → Type 0
BreaksHeard cause.Origin p i = goes_from i.peer i.own p ≡ false
BreaksHeard (cause.Closed why) p i =
    (goes_from i.peer i.own p ≡ true) × (cause_of (heard_by i.peer p i.session).phase ≡ Some why)
BreaksHeard cause.Link p i =
    (goes_from i.peer i.own p ≡ true) × (cause_of (heard_by i.peer p i.session).phase ≡ None)
    × (after : List Link) × JoinsOf p i.heard_links after false
BreaksHeard why p i = ⊥

abbrev pub TakesHeard : Packet → Inspection → Inspection → Option BreakCause → Type 0
TakesHeard p i j None = IsTakenHeard p i j
TakesHeard p i j (Some why) = BreaksHeard why p i × KeepsCounts i j
