-- What the text of a reply shows of the disks is read from its beginning, and of the packets of a flow behind each colon.
use Rattle.std.proofs.Common.{◌≡◌, ◌==◌, ◌&&◌, ◌∷◌, ◌++◌, ◌∙◌, ap, append_assoc, cond, false, if◌then◌else◌, List, [], map, not, refl, true, Bool, codes, ℕ}
use Rattle.std.specs.List.{flat_map, starts_with}
use Rattle.std.specs.Fmt.{decimal}
use Rattle.mqb_base.specs.declared.heard.Heard.{Heard}
use Rattle.mqb_base.specs.declared.heard.Heard.TheVariants as heard
use Rattle.mqb_base.specs.declared.ids.Identity.{Identity}
use Rattle.mqb_history.specs.Choosing.{Broke, Far, Found, Missed, Quiet, Sign}
use Rattle.mqb_network.specs.Choices as choice
use Rattle.mqb_transcript.specs.declared.arrivals.Arrival.{Arrival}
use Rattle.mqb_transcript.specs.declared.arrivals.Outcome.{Outcome}
use Rattle.mqb_transcript.specs.declared.arrivals.Outcome.TheVariants as outcome
use Rattle.mqb_transcript.specs.declared.replies.Reply.{Reply}
use Rattle.mqb_transcript.specs.declared.replies.Reply.TheVariants as reply
use Rattle.mqb_transcript.specs.Texts.{arrival_text, arrivals_text, heard_text, lines_text, outcome_text, reply_text, spaced, words_text}
use Rattle.mqb_transcript.specs.Told.{HaveNoColon}
use Rattle.mqb_transcript.proofs.Colons.{decimal_lacks, lacks, outcome_lacks}

-- The signs of a reply.

abbrev pub outcome_sign : Outcome → Sign
outcome_sign outcome.Stopped = Broke choice.Stopped
outcome_sign outcome.Failed = Broke choice.Failed
outcome_sign _ = Quiet

abbrev pub shown_by : Reply → List Sign
shown_by reply.Stopped = Broke choice.Stopped ∷ []
shown_by reply.Failed = Broke choice.Failed ∷ []
shown_by (reply.Flowed arrivals) = Quiet ∷ map (λ a. outcome_sign a.outcome) arrivals
shown_by (reply.OpenedKept lines) = Found ∷ []
shown_by reply.OpenedLost = Missed ∷ []
shown_by reply.TooFar = Far ∷ []
shown_by _ = Quiet ∷ []

-- The signs of a text.

abbrev first_read : List ℕ → Sign
first_read text = if starts_with ◌==◌ text (codes "stopped") then Broke choice.Stopped
    else if starts_with ◌==◌ text (codes "failed") then Broke choice.Failed
    else if starts_with ◌==◌ text (codes "opened kept") then Found
    else if starts_with ◌==◌ text (codes "opened lost") then Missed
    else if starts_with ◌==◌ text (codes "toofar") then Far
    else Quiet

-- behind a colon
abbrev part_read : List ℕ → Sign
part_read text = if starts_with ◌==◌ text (codes " stopped") then Broke choice.Stopped
    else if starts_with ◌==◌ text (codes " failed") then Broke choice.Failed
    else Quiet

-- behind each one
abbrev parts_read : List ℕ → List Sign
parts_read [] = []
parts_read (b ∷ text) = cond (b == 58) (part_read text ∷ parts_read text) (parts_read text)

abbrev pub signs_read : List ℕ → List Sign
signs_read text = first_read text ∷ parts_read text

-- What stands in a text is read from it, and something more behind it.

abbrev pub BeginsWith : List Sign → List Sign → Type 0
BeginsWith signs all = (more : List Sign) × (all ≡ signs ++ more)

differs_and : (a b : Bool) → (not a && b) ≡ true → (a ≡ false) × (b ≡ true)
differs_and true b h = cc
differs_and false b h = (refl, h)

past : (front text : List ℕ) → lacks front ≡ true → parts_read (front ++ text) ≡ parts_read text
past [] text h = refl
past (b ∷ front) text h = let k = differs_and (b == 58) (lacks front) h in
    ap (λ t. cond t (part_read (front ++ text) ∷ parts_read (front ++ text)) (parts_read (front ++ text))) k.0 ∙ past front text k.1

heard_part : (hosts : List Identity) (h : Heard) (rest : List ℕ) → part_read (spaced (heard_text hosts h ++ rest)) ≡ Quiet
unfolding heard_text
heard_part hosts heard.SetUp rest = refl
heard_part hosts h rest = refl

outcome_part : (hosts : List Identity) (o : Outcome) (rest : List ℕ) → part_read (spaced (outcome_text hosts o) ++ rest) ≡ outcome_sign o
unfolding outcome_text
outcome_part hosts (outcome.Heard h lines) rest = ap (λ text. part_read (spaced text)) (append_assoc (heard_text hosts h) (lines_text hosts lines) rest)
    ∙ heard_part hosts h (lines_text hosts lines ++ rest)
outcome_part hosts o rest = refl

regrouped : (number told arrivals rest : List ℕ) → ((number ++ 58 ∷ 32 ∷ []) ++ told ++ arrivals) ++ rest ≡ number ++ 58 ∷ ((32 ∷ told) ++ (arrivals ++ rest))
regrouped number told arrivals rest = simp append_assoc

flow_read : (hosts : List Identity) (arrivals : List Arrival) (rest : List ℕ) → HaveNoColon hosts
    → BeginsWith (map (λ a. outcome_sign a.outcome) arrivals) (parts_read (arrivals_text hosts arrivals ++ rest))
unfolding arrivals_text arrival_text
flow_read hosts [] rest none = (parts_read rest, refl)
flow_read hosts (a ∷ arrivals) rest none =
    let number : List ℕ = spaced (decimal a.packet) in
    let own : List ℕ = spaced (outcome_text hosts a.outcome) in
    let others : List ℕ = flat_map (arrival_text hosts) arrivals in
    let more : BeginsWith (map (λ a. outcome_sign a.outcome) arrivals) (parts_read (others ++ rest)) = flow_read hosts arrivals rest none in (
      more.0,
      ap parts_read (regrouped number (outcome_text hosts a.outcome) others rest)
          ∙ past number (58 ∷ (own ++ (others ++ rest))) (decimal_lacks a.packet)
          ∙ ap (λ sign. sign ∷ parts_read (own ++ (others ++ rest))) (outcome_part hosts a.outcome (others ++ rest))
          ∙ ap (λ signs. outcome_sign a.outcome ∷ signs) (past own (others ++ rest) (outcome_lacks hosts a.outcome none) ∙ more.1),
    )

-- Of the others the beginning tells all.

alone : (text : List ℕ) (sign : Sign) → first_read text ≡ sign → BeginsWith (sign ∷ []) (signs_read text)
alone text sign e = (parts_read text, ap (λ s. s ∷ parts_read text) e)

heard_read : (hosts : List Identity) (h : Heard) (rest : List ℕ) → first_read (heard_text hosts h ++ rest) ≡ Quiet
unfolding heard_text
heard_read hosts heard.SetUp rest = refl
heard_read hosts h rest = refl

-- The signs of a reply are the first that its line gives.
pub reply_read : (hosts : List Identity) (r : Reply) (rest : List ℕ) → HaveNoColon hosts → BeginsWith (shown_by r) (signs_read (reply_text hosts r ++ 10 ∷ rest))
unfolding reply_text words_text
reply_read hosts reply.Stopped rest none = alone (reply_text hosts reply.Stopped ++ 10 ∷ rest) (Broke choice.Stopped) refl
reply_read hosts reply.Failed rest none = alone (reply_text hosts reply.Failed ++ 10 ∷ rest) (Broke choice.Failed) refl
reply_read hosts (reply.Heard h lines) rest none = alone (reply_text hosts (reply.Heard h lines) ++ 10 ∷ rest) Quiet
    (ap first_read (append_assoc (heard_text hosts h) (lines_text hosts lines) (10 ∷ rest)) ∙ heard_read hosts h (lines_text hosts lines ++ 10 ∷ rest))
reply_read hosts (reply.Flowed arrivals) rest none = let flow = flow_read hosts arrivals (10 ∷ rest) none in (
  flow.0,
  ap (λ signs. Quiet ∷ signs) (ap parts_read (append_assoc (codes "flowed") (arrivals_text hosts arrivals) (10 ∷ rest))
      ∙ past (codes "flowed") (arrivals_text hosts arrivals ++ 10 ∷ rest) refl ∙ flow.1),
)
reply_read hosts (reply.OpenedKept lines) rest none = alone (reply_text hosts (reply.OpenedKept lines) ++ 10 ∷ rest) Found refl
reply_read hosts reply.OpenedLost rest none = alone (reply_text hosts reply.OpenedLost ++ 10 ∷ rest) Missed refl
reply_read hosts reply.TooFar rest none = alone (reply_text hosts reply.TooFar ++ 10 ∷ rest) Far refl
reply_read hosts r rest none = alone (reply_text hosts r ++ 10 ∷ rest) Quiet refl
