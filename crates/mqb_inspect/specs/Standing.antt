-- Where an inspection stands.
use Rattle.std.specs.Prelude.{◌≡◌, ◌+◌, ◌++◌, ◌∷◌, ◌==◌, ◌&&◌, Bool, List, Option, None, Some}
use Rattle.std.specs.Prelude.{count_by, length, not, true}
use Rattle.mqb_capture.specs.Breaks.{IsFirstCause}
use Rattle.mqb_capture.specs.Events.{Event, Watch}
use Rattle.mqb_capture.specs.Grammar.{Head}
use Rattle.mqb_capture.specs.Lawful.{AreLawful, session_behind}
use Rattle.mqb_capture.specs.Links.{links}
use Rattle.mqb_capture.specs.Verdicts.{is_heard, is_sent}
use Rattle.mqb_capture.specs.declared.answers.BreakCause.{BreakCause}
use Rattle.mqb_capture.specs.declared.answers.Way.TheVariants as way
use Rattle.mqb_heads.specs.declared.base.TheConstants.{MAX_PACKET}
use Rattle.mqb_inspect.specs.declared.standing.Inspection.{Inspection}
use Rattle.mqb_stream.specs.Framing.{next, wants_more}

-- An inspection knows these events, which are lawful.
pub record Knows (h : Head) (events : List Event) (i : Inspection) : Type 0 where
  pub lawful : AreLawful h events
  pub own : i.own ≡ h.own
  pub peer : i.peer ≡ h.peer
  pub session : i.session ≡ session_behind h events
  pub sent_links : i.sent_links ≡ links way.Sent events
  pub heard_links : i.heard_links ≡ links way.Heard events
  pub sent_count : i.sent_count ≡ count_by is_sent events
  pub heard_count : i.heard_count ≡ count_by is_heard events

-- It stands behind pieces, of which it knows the events, and holds the bytes
-- that are no packet yet.
pub record Stands (h : Head) (w : Watch) (i : Inspection) : Type 0 where
  pub knows : Knows h w.events i
  pub sent : i.sent.held ≡ w.sent
  pub heard : i.heard.held ≡ w.heard

-- More bytes may come of both ways.
pub record IsWanting (i : Inspection) : Type 0 where
  pub sent_limit : i.sent.limit ≡ MAX_PACKET
  pub heard_limit : i.heard.limit ≡ MAX_PACKET
  pub sent : wants_more (next i.sent) ≡ true
  pub heard : wants_more (next i.heard) ≡ true

-- bytes are held that are no packet
abbrev pub holds_rest : Inspection → Bool
holds_rest i = not (length i.sent.held == 0 && length i.heard.held == 0)

-- An event breaks those before it, which are lawful and were counted.
pub record StopsAt (h : Head) (v : Watch) (why : BreakCause) (i : Inspection) : Type 0 where
  pub before : List Event
  pub event : Event
  pub behind : List Event
  pub is : v.events ≡ before ++ event ∷ behind
  pub lawful : AreLawful h before
  pub cause : IsFirstCause h before event why
  pub count : i.sent_count + i.heard_count ≡ length before

-- an inspection goes on to what is known then, or stops at an event
abbrev pub Goes : Head → (v : Watch) → Inspection → Option BreakCause → Type 0
Goes h v i None = Stands h v i
Goes h v i (Some why) = StopsAt h v why i
