-- What it is to the network that the packet of a number is delivered.
use Rattle.std.specs.Option.{option_map_or}
use Rattle.std.specs.Prelude.{[], ◌++◌, ◌+◌, ◌≡◌, IsSome, List, None, Option, Some, false, length}
use Rattle.std.specs.Prelude.{true, ℕ}
use Rattle.mqb_model.specs.calls.hear.Session.{HeardOutcome}
use Rattle.mqb_network.specs.Choices.{Choice, Well, choice_behind, failure_in}
use Rattle.mqb_network.specs.Courses.{Written}
use Rattle.mqb_network.specs.Delivering.{Delivered, passed, unheard}
use Rattle.mqb_network.specs.Network.{Network}
use Rattle.mqb_network.specs.Replies.{Delivery}
use Rattle.mqb_packet.specs.declared.packet.Packet.{Packet}
use Rattle.mqb_queue.specs.Places.{numbered}
use Rattle.mqb_transcript.specs.declared.arrivals.Outcome.{Outcome}
use Rattle.mqb_transcript.specs.declared.arrivals.Outcome.TheVariants as outcome
use Rattle.mqb_transcript.specs.declared.replies.Reply.{Reply}
use Rattle.mqb_transcript.specs.declared.replies.Reply.TheVariants as reply
use Rattle.mqb_turns.specs.Counts.{CountsGo}
use Rattle.mqb_turns.specs.Passes.{course_in, touched}
use Rattle.mqb_turns.specs.Replies.{outcome_of}
use Rattle.mqb_deliveries.specs.Failing.{failure_told}

-- the packet of a number, in a course that stands at a network
abbrev pub delivered_at : Network → ℕ → Packet → ℕ → Choice → List Packet → List Written → Delivered
delivered_at n k p now choice sent before =
    option_map_or (λ note. passed note p now choice (course_in n sent before)) (numbered n.notes k)
    (unheard choice (course_in n sent before))

-- What becomes of it, and of the course and of the choices: with each choice by which the disk
-- fails in it, or not, as is told.
pub record Delivers (n : Network) (counts : ℕ → ℕ) (n_now : Network) (counts_now : ℕ → ℕ) (k : ℕ)
    (p : Packet) (now : ℕ) (given : Outcome) : Type 0 where
  pub delivery : Delivery
  pub outcome : HeardOutcome
  pub written : List Written
  pub told : outcome_of delivery ≡ given
  pub passes : (choice : Choice) → failure_in choice outcome ≡ failure_told given
      → (sent : List Packet) (before : List Written)
      → delivered_at n k p now choice sent before
      ≡ record {
        delivery = delivery;
        after = course_in n_now sent (before ++ written);
        left = choice_behind choice outcome;
      }
  -- so many records are written where no disk fails
  pub would : (sent : List Packet) (before : List Written)
      → length (delivered_at n k p now Well sent before).after.written
      ≡ length before + touched outcome.touches
  pub touches : IsSome (failure_told given) → outcome.touches ≡ true
  pub counted : CountsGo counts counts_now written
  pub notes : n_now.notes ≡ n.notes
  -- without a connection nothing is heard, and where the disk failed there is none behind it
  pub idle : n.connections ≡ [] → (outcome.touches ≡ false) × (failure_told given ≡ None)
  pub stays : n.connections ≡ [] → n ≡ n_now
  pub cut : IsSome (failure_told given) → n_now.connections ≡ []

-- There is no packet of this number; or it is delivered.
abbrev pub WasDelivered : Network → (ℕ → ℕ) → Network → (ℕ → ℕ) → List Packet → ℕ → ℕ
    → Option Outcome → Type 0
WasDelivered n counts n_now counts_now packets k now None =
    (numbered n.notes k ≡ None) × (n_now ≡ n) × CountsGo counts counts_now []
WasDelivered n counts n_now counts_now packets k now (Some given) =
    (p : Packet) × (numbered packets k ≡ Some p) × IsSome (numbered n.notes k)
    × Delivers n counts n_now counts_now k p now given

-- what became of a packet that was delivered alone is told so
abbrev pub outcome_reply : Outcome → Reply
outcome_reply (outcome.Heard heard lines) = reply.Heard heard lines
outcome_reply outcome.Gone = reply.Gone
outcome_reply outcome.Stopped = reply.Stopped
outcome_reply outcome.Failed = reply.Failed
