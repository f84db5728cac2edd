-- What a flow tells of each packet is read from its text, whose parts are told apart by colons.
use Rattle.std.proofs.Common.{◌≡◌, ℕ, Bool, true, false, ◌==◌, ◌&&◌, not, cond, if◌then◌else◌, List, [], ◌∷◌, ◌++◌, map, codes, refl, sym, ap, ◌∙◌, append_assoc, append-nil}
use Rattle.std.specs.List.{slice_split, onto_first, starts_with, flat_map}
use Rattle.std.specs.Fmt.{decimal}
use Rattle.mqb_base.specs.declared.ids.Identity.{Identity}
use Rattle.mqb_base.specs.declared.heard.Heard.{Heard}
use Rattle.mqb_base.specs.declared.heard.Heard.TheVariants as heard
use Rattle.mqb_transcript.specs.declared.arrivals.Arrival.{Arrival}
use Rattle.mqb_transcript.specs.declared.arrivals.Outcome.{Outcome}
use Rattle.mqb_transcript.specs.declared.arrivals.Outcome.TheVariants as outcome
use Rattle.mqb_transcript.specs.declared.replies.Reply.TheVariants as reply
use Rattle.mqb_transcript.specs.Texts.{spaced, heard_text, lines_text, outcome_text, arrival_text, arrivals_text, reply_text}
use Rattle.mqb_transcript.specs.Told.{Told, told_of, told_in_turn, HaveNoColon}
use Rattle.mqb_transcript.proofs.Colons.{lacks, lacks-append, decimal_lacks, outcome_lacks}

abbrev parts : List ℕ → List (List ℕ)
parts text = slice_split (λ b. b == 58) text

-- a text in front of the first part
abbrev onto : List ℕ → List (List ℕ) → List (List ℕ)
onto text [] = text ∷ []
onto text (part ∷ rest) = (text ++ part) ∷ rest

differs_and : (a b : Bool) → (not a && b) ≡ true → (a ≡ false) × (b ≡ true)
differs_and true b h = cc
differs_and false b h = (refl, h)

some_part : (ends : Bool) (b : ℕ) (rest : List (List ℕ)) → onto [] (cond ends ([] ∷ rest) (onto_first b rest)) ≡ cond ends ([] ∷ rest) (onto_first b rest)
some_part true b rest = refl
some_part false b [] = refl
some_part false b (part ∷ rest) = refl

onto_nothing : (text : List ℕ) → parts text ≡ onto [] (parts text)
onto_nothing [] = refl
onto_nothing (b ∷ text) = sym (some_part (b == 58) b (parts text))

first_onto : (b : ℕ) (front : List ℕ) (rest : List (List ℕ)) → onto_first b (onto front rest) ≡ onto (b ∷ front) rest
first_onto b front [] = refl
first_onto b front (part ∷ rest) = refl

parts_onto : (front text : List ℕ) → lacks front ≡ true → parts (front ++ text) ≡ onto front (parts text)
parts_onto [] text h = onto_nothing text
parts_onto (b ∷ front) text h =
    let k = differs_and (b == 58) (lacks front) h in rw (k.0, parts_onto front text k.1) (first_onto b front (parts text))

split_at : (part rest : List ℕ) → lacks part ≡ true → parts (part ++ 58 ∷ rest) ≡ part ∷ parts rest
split_at part rest h = parts_onto part (58 ∷ rest) h ∙ ap (λ first. first ∷ parts rest) (append-nil part)

-- what a part tells that begins with a packet's outcome
abbrev told_part : List ℕ → Told
told_part text = if starts_with ◌==◌ text (codes " stopped") then Told.stopped
    else if starts_with ◌==◌ text (codes " failed") then Told.failed
    else Told.answered

-- what the parts behind the first one tell
abbrev told_behind : List (List ℕ) → List Told
told_behind [] = []
told_behind (part ∷ rest) = map told_part rest

heard_part : (hosts : List Identity) (h : Heard) (rest : List ℕ) → told_part (spaced (heard_text hosts h ++ rest)) ≡ Told.answered
unfolding heard_text
heard_part hosts heard.SetUp rest = refl
heard_part hosts heard.Session rest = refl
heard_part hosts (heard.Put sequence number) rest = refl
heard_part hosts (heard.Refused sequence number class) rest = refl
heard_part hosts (heard.Duplicate sequence number) rest = refl
heard_part hosts (heard.Gap sequence number) rest = refl
heard_part hosts (heard.Stale sequence number) rest = refl
heard_part hosts heard.Stored rest = refl
heard_part hosts (heard.Bounced class) rest = refl
heard_part hosts (heard.ExpressPut id) rest = refl
heard_part hosts (heard.ExpressBounced class id) rest = refl
heard_part hosts (heard.OrderAcked ordinal number) rest = refl
heard_part hosts heard.OldAck rest = refl
heard_part hosts (heard.Final id class) rest = refl
heard_part hosts heard.Discarded rest = refl
heard_part hosts (heard.Closed cause) rest = refl

outcome_part : (hosts : List Identity) (o : Outcome) (rest : List ℕ) → told_part (spaced (outcome_text hosts o) ++ rest) ≡ told_of o
unfolding outcome_text
outcome_part hosts (outcome.Heard h lines) rest =
    ap (λ text. told_part (spaced text)) (append_assoc (heard_text hosts h) (lines_text hosts lines) rest)
    ∙ heard_part hosts h (lines_text hosts lines ++ rest)
outcome_part hosts outcome.Gone rest = refl
outcome_part hosts outcome.Stopped rest = refl
outcome_part hosts outcome.Failed rest = refl

first_told : (hosts : List Identity) (o : Outcome) (rest : List (List ℕ))
    → map told_part (onto (spaced (outcome_text hosts o)) rest) ≡ told_of o ∷ told_behind rest
first_told hosts o [] =
    ap (λ t. t ∷ []) (ap told_part (sym (append-nil (spaced (outcome_text hosts o)))) ∙ outcome_part hosts o [])
first_told hosts o (part ∷ rest) = ap (λ t. t ∷ map told_part rest) (outcome_part hosts o part)

regrouped : (front number outcome rest : List ℕ)
    → front ++ (((number ++ 58 ∷ 32 ∷ []) ++ outcome) ++ rest) ≡ (front ++ number) ++ 58 ∷ (32 ∷ (outcome ++ rest))
regrouped front number outcome rest = simp append_assoc

arrival_told : (hosts : List Identity) (o : Outcome) (rest : List ℕ) → HaveNoColon hosts
    → map told_part (parts (spaced (outcome_text hosts o) ++ rest)) ≡ told_of o ∷ told_behind (parts rest)
arrival_told hosts o rest none =
    ap (map told_part) (parts_onto (spaced (outcome_text hosts o)) rest (outcome_lacks hosts o none)) ∙ first_told hosts o (parts rest)

flow_told : (hosts : List Identity) (front : List ℕ) (arrivals : List Arrival) → HaveNoColon hosts → lacks front ≡ true
    → told_behind (parts (front ++ arrivals_text hosts arrivals)) ≡ told_in_turn arrivals
unfolding arrivals_text arrival_text
flow_told hosts front [] none h = ap told_behind (parts_onto front [] h)
flow_told hosts front (a ∷ arrivals) none h =
    let number : List ℕ = spaced (decimal a.packet) in
    let rest : List ℕ = flat_map (arrival_text hosts) arrivals in
    ap (λ text. told_behind (parts text)) (regrouped front number (outcome_text hosts a.outcome) rest)
    ∙ ap told_behind (split_at (front ++ number) (spaced (outcome_text hosts a.outcome) ++ rest)
    (lacks-append front number h (decimal_lacks a.packet)))
    ∙ arrival_told hosts a.outcome rest none
    ∙ ap (λ more. told_of a.outcome ∷ more) (flow_told hosts [] arrivals none refl)

pub flows_apart : (hosts : List Identity) (a b : List Arrival) → HaveNoColon hosts
    → reply_text hosts (reply.Flowed a) ≡ reply_text hosts (reply.Flowed b) → told_in_turn a ≡ told_in_turn b
unfolding reply_text
flows_apart hosts a b none same =
    sym (flow_told hosts (codes "flowed") a none refl) ∙ ap (λ text. told_behind (parts text)) same ∙ flow_told hosts (codes "flowed") b none refl
