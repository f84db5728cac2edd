-- Messages for peers that code looks for.
use Rattle.std.proofs.Common.{refl, ap, sym, ◌∙◌}
use Rattle.std.specs.List.{list_any}
use Rattle.std.specs.Prelude.{◌+◌, ◌<◌, ◌∷◌, ◌≡◌, List, None, Option, Some, cond, false, is_some, length, option_and_then, position, slice_get, take, true, ℕ}
use Rattle.mqb_base.specs.Same.{same_id}
use Rattle.mqb_base.specs.declared.ids.MessageId.{MessageId}
use Rattle.mqb_base.specs.declared.message.Message.{Message}
use Rattle.mqb_plain.specs.Lists.{messages_of}
use Rattle.mqb_plain.specs.Plain.{PlainLists}
use Rattle.mqb_plain.specs.declared.outgoing.Outgoing.{Outgoing}
use Rattle.mqb_queue.proofs.Positions.{position_map}
use Rattle.mqb_contents.proofs.mqb_tables.Members.{there}
use Rattle.mqb_model.specs.records.Releases.{has_recoverable, is_released_by, message_released, release_fits}
use Rattle.mqb_model.specs.records.Stepwise.{releases_stepwise}
use Rattle.mqb_model.specs.rules.Effects.{Effect}
use Rattle.mqb_model.specs.rules.Numbers.{own_id}
use Rattle.mqb_model.specs.state.State.{State}
use Rattle.mqb_arrivals.proofs.Searching.{any_position, first_at, none_more}

pub index_is : (s : State) (number peer : ℕ) (p : PlainLists) (ms : List Message) (id : MessageId) (k : Option ℕ) → slice_get s.plain peer ≡ Some p
    → ms ≡ messages_of p.recoverable → id ≡ own_id s number → k ≡ position (λ m. same_id m.id id) ms
    → k ≡ option_and_then (λ p. position (is_released_by s number) p.recoverable) (slice_get s.plain peer)
index_is s number peer p ms id k there are same is = is
    ∙ (ap (λ i. position (λ m. same_id m.id i) ms) same
    ∙ (ap (position (λ m. same_id m.id (own_id s number))) are
    ∙ (position_map (λ (o : Outgoing). o.message) (λ m. same_id m.id (own_id s number)) p.recoverable
    ∙ sym (ap (option_and_then (λ p. position (is_released_by s number) p.recoverable)) there))))

abbrev pub waits_at : State → ℕ → ℕ → Option ℕ
waits_at s number peer = option_and_then (λ p. position (is_released_by s number) p.recoverable) (slice_get s.plain peer)

pub peer_found : (s : State) (number k index : ℕ) → list_any (has_recoverable s number) (take k s.plain) ≡ false → Some index ≡ waits_at s number k
    → position (has_recoverable s number) s.plain ≡ Some k
peer_found s number k index none h = by (slice_get s.plain k) refl h
  where
    by : (o : Option PlainLists) → slice_get s.plain k ≡ o → Some index ≡ option_and_then (λ p. position (is_released_by s number) p.recoverable) o
        → position (has_recoverable s number) s.plain ≡ Some k
    by None is h = absurd (let no : ⊥ = cc in no)
    by (Some p) is h = first_at (has_recoverable s number) s.plain k p none is (any_position (is_released_by s number) p.recoverable ∙ sym (ap is_some h))

pub peer_passed : (s : State) (number k : ℕ) → k < length s.plain → list_any (has_recoverable s number) (take k s.plain) ≡ false → None ≡ waits_at s number k
    → list_any (has_recoverable s number) (take (k + 1) s.plain) ≡ false
peer_passed s number k within none h = by (slice_get s.plain k) refl h
  where
    some_within : (xs : List PlainLists) (k : ℕ) → k < length xs → slice_get xs k ≡ None → ⊥
    some_within xs k lt h = let x = there xs k lt in let no : Some x.0 ≡ None = sym x.1 ∙ h in cc

    by : (o : Option PlainLists) → slice_get s.plain k ≡ o → None ≡ option_and_then (λ p. position (is_released_by s number) p.recoverable) o
        → list_any (has_recoverable s number) (take (k + 1) s.plain) ≡ false
    by None is h = absurd (some_within s.plain k within is)
    by (Some p) is h = none_more (has_recoverable s number) s.plain k p none is (any_position (is_released_by s number) p.recoverable ∙ sym (ap is_some h))

-- a message is there where a peer is that has it
pub is_there : (s : State) (number : ℕ) (peer : Option ℕ) → peer ≡ position (has_recoverable s number) s.plain → list_any (has_recoverable s number) s.plain ≡ is_some peer
is_there s number peer h = any_position (has_recoverable s number) s.plain ∙ ap is_some (sym h)

-- one release of a loop
pub release_step : (e f : Effect) (number : ℕ) (rest numbers : List ℕ) → numbers ≡ number ∷ rest → release_fits e.state number ≡ true → f ≡ message_released e number
    → releases_stepwise f rest ≡ releases_stepwise e numbers
release_step e f number rest numbers are fit is = ap (λ f. releases_stepwise f rest) is
    ∙ sym (ap (releases_stepwise e) are ∙ ap (λ b. cond b (releases_stepwise (message_released e number) rest) None) fit)
