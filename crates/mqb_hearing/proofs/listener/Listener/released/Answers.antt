use Rattle.std.proofs.Common.{◌≡◌, ◌≤◌, ℕ, List, length, map, take, ap, subst, sym, ◌∙◌, arith}
use Rattle.std.specs.Prelude.{slice_get}
use Rattle.mqb_base.specs.declared.message.Message.{Message}
use Rattle.mqb_model.specs.declared.limits.TheConstants.{MAX_RELEASED}
use Rattle.mqb_model.specs.state.State.{State}
use Rattle.mqb_plain.specs.Lists.{messages_of}
use Rattle.mqb_hearing.specs.Plans.{listening_so}
use Rattle.mqb_hearing.proofs.Released.{few_released, released_is}
use Rattle.mqb_hearing.proofs.listener.Listener.released.Goals as goal

pub returns-clause-numbers : goal.returns-clause-numbers
returns-clause-numbers c =
    let p = c.plain-plain.result.now.lists in
    let first : c.in_ok-numbers.numbers.items ≡ map (λ (m : Message). m.id.number) (take c.released_by-count.result (messages_of p.recoverable)) =
    c.in_ok-numbers.ensures ∙ ap (λ (ms : List Message). map (λ (m : Message). m.id.number) (take c.released_by-count.result ms)) c.recoverable.ensures.messages in
    first ∙ released_is (listening_so c.args.self.now) c.peer-peer.result c.recoverable_acked.result c.released_by-count.result p c.peer-peer.ensures c.recoverable_acked.ensures
    (sym (ap (λ (s : State). slice_get s.plain c.peer-peer.result) c.contents-contents.ensures) ∙ c.plain-plain.ensures) c.released_by-count.ensures.first

pub returns-clause-few : goal.returns-clause-few
returns-clause-few c =
    let p = c.plain-plain.result.now.lists in
    let first : c.in_ok-numbers.numbers.items ≡ map (λ (m : Message). m.id.number) (take c.released_by-count.result (messages_of p.recoverable)) =
    c.in_ok-numbers.ensures ∙ ap (λ (ms : List Message). map (λ (m : Message). m.id.number) (take c.released_by-count.result ms)) c.recoverable.ensures.messages in
    subst (λ (ns : List ℕ). length ns ≤ MAX_RELEASED) (sym first)
    (few_released c.recoverable_acked.result c.released_by-count.result p (omega arith) c.recoverable.ensures.in_order c.released_by-count.ensures.first)
