-- A message is refused for the reason that there is in the state in which it was heard.
use Rattle.std.proofs.Common.{refl, ap, sym, subst, ◌∙◌, inl}
use Rattle.std.specs.Option.{option_map_or}
use Rattle.std.specs.Prelude.{[], ◌++◌, ◌∷◌, ◌≡◌, Bool, List, None, Option, Some, cond, false, fold, option_map, true, ℕ}
use Rattle.mqb_base.specs.declared.class.Class.{Class}
use Rattle.mqb_base.specs.declared.heads.TxHead.{TxHead}
use Rattle.mqb_base.specs.declared.ids.MessageId.{MessageId}
use Rattle.mqb_base.specs.declared.ledger.Line.TheVariants as line
use Rattle.mqb_base.specs.declared.ledger.Stream.{Stream}
use Rattle.mqb_base.specs.declared.message.Message.{Message}
use Rattle.mqb_exactly_once.specs.Outcomes.{Put}
use Rattle.mqb_exactly_once.specs.Words.{In, position_of}
use Rattle.mqb_exactly_once.specs.World.{Channel, Decision, Position}
use Rattle.mqb_model.specs.records.Applying.{lines_of}
use Rattle.mqb_model.specs.records.Decisions.{decided_line, message_decided, stream_heard}
use Rattle.mqb_model.specs.records.Record.{Record}
use Rattle.mqb_model.specs.records.Record as entry
use Rattle.mqb_model.specs.records.Releases.{message_released, releases_made}
use Rattle.mqb_model.specs.rules.Arrivals.{refusal_of}
use Rattle.mqb_model.specs.rules.Effects.{Effect, begun, joined}
use Rattle.mqb_model.specs.state.State.{State}
use Rattle.mqb_packet.specs.declared.packet.UserPacket.{UserPacket}
use Rattle.mqb_history.specs.Decided.{is_in_channel, position_in}
use Rattle.mqb_history.specs.Laws.{DecisionsHaveReasons}
use Rattle.mqb_history.specs.Shown.{decision_in, outcome_by}
use Rattle.mqb_history.proofs.Lists.{none_some, some_is}
use Rattle.mqb_history.proofs.Reaching.{in_right}

-- what is released changes no reason
pub released_reason : (e : Effect) (numbers : List ℕ) (p : UserPacket) → refusal_of (fold message_released e numbers).state p ≡ refusal_of e.state p
released_reason e [] p = refl
released_reason e (n ∷ ns) p = released_reason (message_released e n) ns p

pub decisions_have_reasons : DecisionsHaveReasons
decisions_have_reasons s now numbers p tx there = (
  e.lines,
  ap (λ o. (option_map_or (λ tx. joined e (message_decided now e.state p tx)) o e).lines) there
      ∙ ap (λ (o : Option Class). e.lines ++ decided_line p.message tx o ∷ []) (released_reason (begun s) numbers p),
)
  where
    e : Effect
    e = releases_made s numbers

-- So a decision by which a message was put has its line.

put_reason : (o : Option Class) → outcome_by o ≡ Put → o ≡ None
put_reason None e = refl
put_reason (Some class) e = absurd (let none : ⊥ = cc in none)

-- the line of a message that was put
abbrev HasPut : State → Record → MessageId → Type 0
HasPut s r id = (stream : Stream) × (number : ℕ) × In (line.Put stream number id) (lines_of s r)

pub decision_put : (c : Channel) (s : State) (r : Record) (x : Decision) → decision_in c s r ≡ Some x → x.outcome ≡ Put → HasPut s r x.message.id
decision_put c s (entry.Arrived now numbers (entry.Decided p)) x e put = of_head p.tx refl e
  where
    r : Record
    r = entry.Arrived now numbers (entry.Decided p)

    made : Position → Decision
    made q = record { position = q; message = p.message; outcome = outcome_by (refusal_of s p) }

    put_there : (tx : TxHead) → p.tx ≡ Some tx → made (position_of tx) ≡ x → HasPut s r x.message.id
    put_there tx there same = (
      stream_heard p.message tx,
      tx.number,
      subst (λ (m : Message). In (line.Put (stream_heard p.message tx) tx.number m.id) (lines_of s r)) (ap (λ (y : Decision). y.message) same)
          (subst (λ (o : Option Class). In (decided_line p.message tx o) (lines_of s r)) (put_reason (refusal_of s p) (ap (λ (y : Decision). y.outcome) same ∙ put)) told),
    )
      where
        told : In (decided_line p.message tx (refusal_of s p)) (lines_of s r)
        told = let g = decisions_have_reasons s now numbers p tx there in subst (In (decided_line p.message tx (refusal_of s p))) (sym g.1)
            (in_right g.0 (decided_line p.message tx (refusal_of s p) ∷ []) (decided_line p.message tx (refusal_of s p)) (inl refl))

    of_head : (o : Option TxHead) → p.tx ≡ o → option_map made (position_in c p.message o) ≡ Some x → HasPut s r x.message.id
    of_head None there f = absurd (none_some f)
    of_head (Some tx) there f = at (is_in_channel c p.message) f
      where
        at : (b : Bool) → option_map made (cond b (Some (position_of tx)) None) ≡ Some x → HasPut s r x.message.id
        at true g = put_there tx there (some_is (made (position_of tx)) x g)
        at false g = absurd (none_some g)
decision_put c s r x e put = absurd (none_some e)
