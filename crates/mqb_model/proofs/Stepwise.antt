-- A record is applied step by step exactly where it fits.
use Rattle.std.proofs.Common.{refl, ap, ◌∙◌}
use Rattle.std.specs.Prelude.{◌≡◌, ◌∷◌, ◌&&◌, [], Bool, List, None, Option, Some, cond, false, fold, option_and_then, option_map, true, ℕ}
use Rattle.mqb_base.specs.declared.message.Message.{Message}
use Rattle.mqb_base.specs.declared.queues.EntryPlace.TheVariants as place
use Rattle.mqb_entries.specs.declared.members.Mark.{Mark}
use Rattle.mqb_model.specs.laws.Stepwise.{StepwiseIsEffect}
use Rattle.mqb_model.specs.records.Applying.{effect_of, fits}
use Rattle.mqb_model.specs.records.Arrived.{part_fits, part_made}
use Rattle.mqb_model.specs.records.Commit.{join_fits, joins_fit, op_taken, send_made, sends_fit, sends_numbered, sends_of, take_fits, takes_fit, takes_made}
use Rattle.mqb_model.specs.records.Offered.{mark_fits, mark_raised, offered_fits}
use Rattle.mqb_model.specs.records.Record as entry
use Rattle.mqb_model.specs.records.Record.{Part, RecordOp, Send, Take}
use Rattle.mqb_model.specs.records.Releases.{message_released, release_fits, releases_fit, releases_made}
use Rattle.mqb_model.specs.records.Stepwise.{marks_stepwise, part_stepwise, releases_stepwise, sends_stepwise, stepwise, takes_stepwise}
use Rattle.mqb_model.specs.rules.Effects.{Effect, begun}
use Rattle.mqb_model.specs.rules.Takes.{taken}
use Rattle.mqb_model.specs.state.Resolving.{resolved}
use Rattle.mqb_model.specs.state.State.{State}

-- one step before others
one : {X : Type 0} (b c : Bool) (o : Option X) (x : X) → o ≡ cond c (Some x) None → cond b o None ≡ cond (b && c) (Some x) None
one true c o x h = h
one false c o x h = refl

-- steps, and then others
both : {X Y : Type 0} (b c : Bool) (f : X → Option Y) (o : Option X) (x : X) (y : Y) → o ≡ cond b (Some x) None
    → f x ≡ cond c (Some y) None → option_and_then f o ≡ cond (b && c) (Some y) None
both true c f o x y h g = ap (option_and_then f) h ∙ g
both false c f o x y h g = ap (option_and_then f) h

takes_law : (now : ℕ) (e : Effect) (ops : List RecordOp)
    → takes_stepwise now e ops ≡ cond (takes_fit e now ops) (Some (fold (op_taken now) e ops)) None
takes_law now e [] = refl
takes_law now e (Send p ∷ ops) = takes_law now e ops
takes_law now e (Take queue id ∷ ops) = let next = taken (place.Queue queue) id now e in
    one (take_fits e.state now (place.Queue queue) id) (takes_fit next now ops) (takes_stepwise now next ops)
    (fold (op_taken now) next ops) (takes_law now next ops)

sends_law : (now : ℕ) (e : Effect) (ms : List Message)
    → sends_stepwise now e ms ≡ cond (joins_fit e now ms) (Some (fold (send_made now) e ms)) None
sends_law now e [] = refl
sends_law now e (m ∷ ms) = let next = send_made now e m in
    one (join_fits e.state (resolved e.state m.destination) m.destination) (joins_fit next now ms) (sends_stepwise now next ms)
    (fold (send_made now) next ms) (sends_law now next ms)

marks_law : (s : State) (marks : List Mark)
    → marks_stepwise s marks ≡ cond (offered_fits s marks) (Some (fold mark_raised s marks)) None
marks_law s [] = refl
marks_law s (mark ∷ marks) = let next = mark_raised s mark in
    one (mark_fits s mark) (offered_fits next marks) (marks_stepwise next marks) (fold mark_raised next marks) (marks_law next marks)

releases_law : (e : Effect) (numbers : List ℕ)
    → releases_stepwise e numbers ≡ cond (releases_fit e numbers) (Some (fold message_released e numbers)) None
releases_law e [] = refl
releases_law e (number ∷ numbers) = let next = message_released e number in
    one (release_fits e.state number) (releases_fit next numbers) (releases_stepwise next numbers)
    (fold message_released next numbers) (releases_law next numbers)

commit_law : (s : State) (now : ℕ) (ops : List RecordOp)
    → stepwise s (entry.Commit now ops) ≡ cond (fits s (entry.Commit now ops)) (Some (effect_of s (entry.Commit now ops))) None
commit_law s now ops = at (sends_fit s s.next_number ops)
  where
    made : Effect
    made = takes_made s now ops

    rest : option_and_then (λ e. sends_stepwise now e (sends_of ops)) (takes_stepwise now (sends_numbered s ops) ops)
        ≡ cond (takes_fit (sends_numbered s ops) now ops && joins_fit made now (sends_of ops)) (Some (fold (send_made now) made (sends_of ops))) None
    rest = both (takes_fit (sends_numbered s ops) now ops) (joins_fit made now (sends_of ops)) (λ e. sends_stepwise now e (sends_of ops))
        (takes_stepwise now (sends_numbered s ops) ops) made (fold (send_made now) made (sends_of ops))
        (takes_law now (sends_numbered s ops) ops) (sends_law now made (sends_of ops))

    at : (b : Bool) → cond b (option_and_then (λ e. sends_stepwise now e (sends_of ops)) (takes_stepwise now (sends_numbered s ops) ops)) None
        ≡ cond ((b && takes_fit (sends_numbered s ops) now ops) && joins_fit made now (sends_of ops)) (Some (fold (send_made now) made (sends_of ops))) None
    at true = rest
    at false = refl

offered_law : (s : State) (marks : List Mark)
    → stepwise s (entry.Offered marks) ≡ cond (fits s (entry.Offered marks)) (Some (effect_of s (entry.Offered marks))) None
offered_law s marks = ap (option_map begun) (marks_law s marks) ∙ at (offered_fits s marks)
  where
    at : (b : Bool) → option_map begun (cond b (Some (fold mark_raised s marks)) None) ≡ cond b (Some (begun (fold mark_raised s marks))) None
    at true = refl
    at false = refl

arrived_law : (s : State) (now : ℕ) (numbers : List ℕ) (part : Part)
    → stepwise s (entry.Arrived now numbers part) ≡ cond (fits s (entry.Arrived now numbers part)) (Some (effect_of s (entry.Arrived now numbers part))) None
arrived_law s now numbers part = let made = releases_made s numbers in
    both (releases_fit (begun s) numbers) (part_fits made.state part) (λ e. part_stepwise now e part) (releases_stepwise (begun s) numbers)
    made (part_made now made part) (releases_law (begun s) numbers) refl

pub stepwise_is_effect : StepwiseIsEffect
stepwise_is_effect s (entry.Commit now ops) = commit_law s now ops
stepwise_is_effect s (entry.Offered marks) = offered_law s marks
stepwise_is_effect s (entry.Arrived now numbers part) = arrived_law s now numbers part
stepwise_is_effect s r = refl
