-- The packets of a pump, and the record of its marks.
use Rattle.std.proofs.Common.{refl, sym, ap, ◌∙◌, arith, length-append}
use Rattle.std.proofs.lemmas.Bool.{true≢false}
use Rattle.std.proofs.lemmas.List.Elements.{recursion_from_All}
use Rattle.std.specs.List.{AllByRecursion, cons_option, flat_map}
use Rattle.std.specs.Option.{option_map_or}
use Rattle.std.specs.Prelude.{[], ◌*◌, ◌++◌, ◌∷◌, ◌≡◌, ◌≤◌, All, IsSome, IsSomeAnd, List, None, Option, Some, filter_map, length, map, option_map, slice_get, ℕ}
use Rattle.mqb_base.specs.declared.heads.SessionHead.{SessionHead}
use Rattle.mqb_base.specs.declared.ids.Guid.{Guid}
use Rattle.mqb_base.specs.declared.ids.Identity.{Identity}
use Rattle.mqb_base.specs.declared.message.Message.{Message}
use Rattle.mqb_entries.specs.Spelled.{spelled_mark}
use Rattle.mqb_entries.specs.SpelledEntries.{spelled}
use Rattle.mqb_entries.specs.declared.entry.Entry.TheVariants as form
use Rattle.mqb_entries.specs.declared.members.Mark.{Mark}
use Rattle.mqb_fields.specs.Writing.{bytes_of}
use Rattle.mqb_packet.specs.Plain.{plain_spelling}
use Rattle.mqb_plain.specs.Plain.{PlainLists}
use Rattle.mqb_session.specs.State as one_end
use Rattle.mqb_choosing.specs.Choices.{IsSendable, IsThere, coming_from, message_at, shown, shown_in}
use Rattle.mqb_choosing.specs.Going.{candidates_to}
use Rattle.mqb_choosing.specs.declared.choice.Choice.{Choice}
use Rattle.mqb_model.specs.calls.pump.Candidates.{Candidate, candidates}
use Rattle.mqb_model.specs.calls.pump.Choosing.{session_after, with_heads}
use Rattle.mqb_model.specs.calls.pump.Pump.{origin_of, packet_for}
use Rattle.mqb_model.specs.declared.limits.TheConstants.{MAX_RECORD}
use Rattle.mqb_model.specs.managers.Beside.{Origin}
use Rattle.mqb_model.specs.managers.Manager.{Rest}
use Rattle.mqb_model.specs.state.State.{State}
use Rattle.mqb_manager.specs.Pumps.{sent_as}

-- What goes, by what is shown of it.

shown_as : (s : State) (choice : Choice) (o : Option Message) → message_at s choice.origin ≡ o → IsSome o
    → (m : Message) × (shown s choice ≡ Some (coming_from choice.origin m, choice.head))
shown_as s choice None is some = absurd (true≢false (sym some))
shown_as s choice (Some m) is some = (m, ap (λ (o : Option Message). option_map (λ m. (coming_from choice.origin m, choice.head)) o) is)

message_there : (choice : Choice) (o : Option Message) → IsSomeAnd {T = Candidate × SessionHead} (option_map (λ m. (coming_from choice.origin m, choice.head)) o) (λ given. IsSendable given.0) → IsSome o
message_there choice None h = absurd h
message_there choice (Some m) h = refl

each_sent_as : (s : State) (choices : List Choice) → AllByRecursion (IsThere s) choices → map origin_of (shown_in s choices) ≡ map sent_as choices
each_sent_as s [] h = refl
each_sent_as s (choice ∷ choices) h =
    let one = shown_as s choice (message_at s choice.origin) refl (message_there choice (message_at s choice.origin) h.0) in
    ap (λ (o : Option (Candidate × SessionHead)). map origin_of (cons_option o (filter_map (shown s) choices))) one.1
    ∙ ap (λ (sent : List (Origin × SessionHead)). sent_as choice ∷ sent) (each_sent_as s choices h.1)

pub sent_shown : (s : State) (choices : List Choice) → All (IsThere s) choices → map origin_of (shown_in s choices) ≡ map sent_as choices
sent_shown s choices h = each_sent_as s choices (recursion_from_All (IsThere s) choices h)

pub with_heads_of : (session : one_end.State) (cs : List Candidate) → map (λ given. given.0) (with_heads session cs) ≡ cs
with_heads_of session [] = refl
with_heads_of session (c ∷ cs) = ap (λ (cs : List Candidate). c ∷ cs) (with_heads_of (session_after session c) cs)

pub spelled_all : (to : Guid) (now : ℕ) (given : List (Candidate × SessionHead))
    → flat_map (λ given. plain_spelling (packet_for to now given)) given ≡ flat_map plain_spelling (map (packet_for to now) given)
spelled_all to now [] = refl
spelled_all to now (g ∷ given) = ap (λ (bytes : List ℕ). plain_spelling (packet_for to now g) ++ bytes) (spelled_all to now given)

-- What could go to a peer that is there.
pub candidates_are : (s : State) (rest : Rest) (now k : ℕ) (peer : Identity) (p : PlainLists) → slice_get s.peers k ≡ Some peer → slice_get s.plain k ≡ Some p
    → candidates_to s rest now k ≡ candidates s rest now k peer p
candidates_are s rest now k peer p here there =
    ap (λ (o : Option Identity). option_map_or (λ peer. option_map_or (candidates s rest now k peer) (slice_get s.plain k) []) o []) here
    ∙ ap (λ (o : Option PlainLists). option_map_or (candidates s rest now k peer) o []) there

-- The entry of the marks can be put.

marks_size : (marks : List Mark) → length (flat_map spelled_mark marks) ≡ 8 * length marks
marks_size [] = refl
marks_size (mark ∷ marks) =
    let rest = marks_size marks in
    let one : length (spelled_mark mark) ≡ 8 = refl in
    let whole = length-append (spelled_mark mark) (flat_map spelled_mark marks) in
    omega (arith, rest, one, whole)

pub marks_small : (marks : List Mark) → length marks ≤ 64 → length (spelled (form.Offered marks)) ≤ MAX_RECORD
marks_small marks few =
    let size = marks_size marks in
    let one : length (bytes_of 1 (length marks)) ≡ 1 = refl in
    let whole = length-append (bytes_of 1 (length marks)) (flat_map spelled_mark marks) in
    omega (arith, few, size, one, whole)
