-- Steps that are tried one after another, behind other things that were done.
use Rattle.std.proofs.Common.{refl, ap, sym, ◌∙◌}
use Rattle.std.specs.Option.{option_map_or}
use Rattle.std.specs.Prelude.{◌∷◌, ◌≡◌, [], Bool, List, None, Option, Some, cond, false, option_map, true, ℕ}
use Rattle.mqb_base.specs.declared.heads.TxHead.{TxHead}
use Rattle.mqb_base.specs.declared.ids.MessageId.{MessageId}
use Rattle.mqb_base.specs.declared.ledger.Line.TheVariants as line
use Rattle.mqb_base.specs.declared.message.Message.{Message}
use Rattle.mqb_base.specs.declared.queues.EntryPlace.TheVariants as place
use Rattle.mqb_entries.specs.declared.members.Mark.{Mark}
use Rattle.mqb_entries.specs.declared.members.OpView.{OpView}
use Rattle.mqb_entries.specs.declared.members.OpView.TheVariants as view
use Rattle.mqb_packet.specs.declared.packet.UserPacket.{UserPacket}
use Rattle.mqb_model.specs.laws.Stepwise.{StepwiseIsEffect}
use Rattle.mqb_model.specs.records.Applying.{effect_of, fits}
use Rattle.mqb_model.specs.records.Arrived.{part_made}
use Rattle.mqb_model.specs.records.Commit.{join_fits, send_made, take_fits}
use Rattle.mqb_model.specs.records.Decisions.{message_decided}
use Rattle.mqb_model.specs.records.Offered.{mark_fits, mark_raised}
use Rattle.mqb_model.specs.records.Record.{Decided, Final, Nothing, OrderAcknowledged, Part, Record, RecordOp, Send, Stored, Take}
use Rattle.mqb_model.specs.records.Packets.{in_transaction}
use Rattle.mqb_model.specs.records.Releases.{message_released, release_fits, without_released}
use Rattle.mqb_model.specs.records.Stepwise.{marks_stepwise, releases_stepwise, sends_stepwise, stepwise, takes_stepwise}
use Rattle.mqb_model.specs.rules.Effects.{Effect, joined, with_line}
use Rattle.mqb_model.specs.rules.Numbers.{own_id}
use Rattle.mqb_model.specs.rules.Sends.{message_sent}
use Rattle.mqb_model.specs.rules.Takes.{taken}
use Rattle.mqb_model.specs.state.Resolving.{resolved}
use Rattle.mqb_model.specs.state.State.{State}
use Rattle.mqb_records.specs.Ops.{packet_joins, sends_tried, takes_tried}
use Rattle.mqb_records.proofs.Framing.{joined_again, taken_frames}

-- Steps behind others.

-- what one release does
abbrev one : State → ℕ → Effect
one s n = with_line (line.Released (own_id s n)) (without_released s n)

pub releases_frame : (e x : Effect) (numbers : List ℕ) → releases_stepwise (joined e x) numbers ≡ option_map (joined e) (releases_stepwise x numbers)
releases_frame e x [] = refl
releases_frame e x (n ∷ ns) = at (release_fits x.state n) (releases_frame e (message_released x n) ns)
  where
    at : (b : Bool) → releases_stepwise (joined e (message_released x n)) ns ≡ option_map (joined e) (releases_stepwise (message_released x n) ns)
        → cond b (releases_stepwise (message_released (joined e x) n) ns) None
        ≡ option_map (joined e) (cond b (releases_stepwise (message_released x n) ns) None)
    at true rest = ap (λ y. releases_stepwise y ns) (joined_again e x (one x.state n)) ∙ rest
    at false rest = refl

pub takes_frame : (now : ℕ) (e x : Effect) (ops : List RecordOp) → takes_stepwise now (joined e x) ops ≡ option_map (joined e) (takes_stepwise now x ops)
takes_frame now e x [] = refl
takes_frame now e x (Send p ∷ ops) = takes_frame now e x ops
takes_frame now e x (Take queue id ∷ ops) = at (take_fits x.state now (place.Queue queue) id) (takes_frame now e (taken (place.Queue queue) id now x) ops)
  where
    at : (b : Bool) → takes_stepwise now (joined e (taken (place.Queue queue) id now x)) ops ≡ option_map (joined e) (takes_stepwise now (taken (place.Queue queue) id now x) ops)
        → cond b (takes_stepwise now (taken (place.Queue queue) id now (joined e x)) ops) None
        ≡ option_map (joined e) (cond b (takes_stepwise now (taken (place.Queue queue) id now x) ops) None)
    at true rest = ap (λ y. takes_stepwise now y ops) (taken_frames (place.Queue queue) id now e x) ∙ rest
    at false rest = refl

pub sends_frame : (now : ℕ) (e x : Effect) (ms : List Message) → sends_stepwise now (joined e x) ms ≡ option_map (joined e) (sends_stepwise now x ms)
sends_frame now e x [] = refl
sends_frame now e x (m ∷ ms) = at (join_fits x.state (resolved x.state m.destination) m.destination) (sends_frame now e (send_made now x m) ms)
  where
    at : (b : Bool) → sends_stepwise now (joined e (send_made now x m)) ms ≡ option_map (joined e) (sends_stepwise now (send_made now x m) ms)
        → cond b (sends_stepwise now (send_made now (joined e x) m) ms) None
        ≡ option_map (joined e) (cond b (sends_stepwise now (send_made now x m) ms) None)
    at true rest = ap (λ y. sends_stepwise now y ms) (joined_again e x (message_sent now x.state m)) ∙ rest
    at false rest = refl

pub part_frames : (now : ℕ) (e x : Effect) (part : Part) → part_made now (joined e x) part ≡ joined e (part_made now x part)
part_frames now e x Nothing = refl
part_frames now e x (Decided p) = by p.tx
  where
    by : (tx : Option TxHead) → option_map_or (λ tx. joined (joined e x) (message_decided now x.state p tx)) tx (joined e x)
        ≡ joined e (option_map_or (λ tx. joined x (message_decided now x.state p tx)) tx x)
    by None = refl
    by (Some tx) = joined_again e x (message_decided now x.state p tx)
part_frames now e x (Stored p) = joined_again e x _
part_frames now e x (OrderAcknowledged ordinal number) = refl
part_frames now e x (Final p) = joined_again e x _

-- The law, for one record.

pub fits_of : StepwiseIsEffect → (s : State) (r : Record) (e : Effect) → stepwise s r ≡ Some e → (fits s r ≡ true) × (effect_of s r ≡ e)
fits_of law s r e h = at (fits s r) (sym (law s r) ∙ h)
  where
    at : (b : Bool) → cond b (Some (effect_of s r)) None ≡ Some e → (b ≡ true) × (effect_of s r ≡ e)
    at true h = (refl, ap (λ o. option_map_or (λ x. x) o e) h)
    at false h = absurd (let none : ⊥ = cc in none)

pub unfit_of : StepwiseIsEffect → (s : State) (r : Record) → stepwise s r ≡ None → fits s r ≡ false
unfit_of law s r h = at (fits s r) (sym (law s r) ∙ h)
  where
    at : (b : Bool) → cond b (Some (effect_of s r)) None ≡ None → b ≡ false
    at true h = absurd (let none : ⊥ = cc in none)
    at false h = refl

-- One step of a loop.

pub mark_step : (s t : State) (mark : Mark) (rest marks : List Mark) → marks ≡ mark ∷ rest → mark_fits s mark ≡ true → t ≡ mark_raised s mark
    → marks_stepwise t rest ≡ marks_stepwise s marks
mark_step s t mark rest marks are fit is = ap (λ t. marks_stepwise t rest) is
    ∙ sym (ap (marks_stepwise s) are ∙ ap (λ b. cond b (marks_stepwise (mark_raised s mark) rest) None) fit)

pub take_step : (now : ℕ) (e f : Effect) (queue : ℕ) (id : MessageId) (rest ops : List OpView) → ops ≡ view.Take queue id ∷ rest
    → take_fits e.state now (place.Queue queue) id ≡ true → f ≡ taken (place.Queue queue) id now e → takes_tried now f rest ≡ takes_tried now e ops
take_step now e f queue id rest ops are fit is = ap (λ f. takes_tried now f rest) is
    ∙ sym (ap (takes_tried now e) are ∙ ap (λ b. cond b (takes_tried now (taken (place.Queue queue) id now e) rest) None) fit)

pub send_step : (now : ℕ) (e f : Effect) (p : UserPacket) (rest packets : List UserPacket) → packets ≡ p ∷ rest → packet_joins e.state p ≡ true
    → f ≡ send_made now e (in_transaction p) → sends_tried now f rest ≡ sends_tried now e packets
send_step now e f p rest packets are fit is = ap (λ f. sends_tried now f rest) is
    ∙ sym (ap (sends_tried now e) are ∙ ap (λ b. cond b (sends_tried now (send_made now e (in_transaction p)) rest) None) fit)
