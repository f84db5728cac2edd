-- Released messages: their peer has stored them.
use Rattle.std.specs.List.{list_any}
use Rattle.std.specs.Prelude.{[], ◌&&◌, ◌∷◌, Bool, List, fold, true, ℕ}
use Rattle.mqb_base.specs.declared.ledger.Line.TheVariants as line
use Rattle.mqb_plain.specs.Plain.{PlainLists}
use Rattle.mqb_plain.specs.declared.outgoing.Outgoing.{Outgoing}
use Rattle.mqb_model.specs.Lists.{with_first_changed, without_first}
use Rattle.mqb_model.specs.rules.Effects.{Effect, begun, joined, with_line}
use Rattle.mqb_model.specs.rules.Numbers.{is_numbered, own_id}
use Rattle.mqb_model.specs.state.State.{State}

-- a plain message is this manager's own of a number
abbrev pub is_released_by : State → ℕ → Outgoing → Bool
is_released_by s number o = is_numbered s number o.message

-- the recoverable message of a number leaves the list that has it
abbrev pub without_recoverable : State → ℕ → PlainLists → PlainLists
without_recoverable s number p =
    record p { recoverable = without_first (is_released_by s number) p.recoverable }

-- a peer's recoverable list has the message of a number
abbrev pub has_recoverable : State → ℕ → PlainLists → Bool
has_recoverable s number p = list_any (is_released_by s number) p.recoverable

-- the message of a number leaves the first list that has it
abbrev pub without_released : State → ℕ → State
without_released s number = record s {
  plain = with_first_changed (without_recoverable s number) (has_recoverable s number) s.plain;
}

-- the message of a number is released
abbrev pub message_released : Effect → ℕ → Effect
message_released e number =
    joined e (with_line (line.Released (own_id e.state number)) (without_released e.state number))

-- each is
abbrev pub releases_made : State → List ℕ → Effect
releases_made s numbers = fold message_released (begun s) numbers

-- the message of a number is there
abbrev pub release_fits : State → ℕ → Bool
release_fits s number = list_any (has_recoverable s number) s.plain

-- each is, after the releases before it
abbrev pub releases_fit : Effect → List ℕ → Bool
releases_fit e [] = true
releases_fit e (number ∷ numbers) =
    release_fits e.state number && releases_fit (message_released e number) numbers
