use Rattle.std.proofs.Common.{◌++◌, ℕ, List, ap, map, max, sym, ◌∙◌}
use Rattle.std.specs.List.{filter, fold}
use Rattle.std.proofs.lemmas.List.{map-append}
use Rattle.std.proofs.lemmas.List.Elements.{filter-append}
use Rattle.std.proofs.lemmas.List.Sums.{fold-append}
use Rattle.mqb_base.specs.declared.message.Message.{Message}
use Rattle.mqb_queue.specs.First.{is_free, top_priority}
use Rattle.mqb_commands.proofs.turns.Taking.top_priority.Goals as goal

pub returns : goal.returns
returns c =
    let free = is_free c.args.self.at c.args.self.now in
    let front = c.parts.result.0.now in
    let back = c.parts.result.1.now in
    let priorities : List Message → List ℕ = λ ms. map (λ m. m.priority) (filter free ms) in
    c.top_in.ensures
    ∙ (ap (λ (top : ℕ). fold max top (priorities back)) c.top_in-top.ensures
    ∙ (sym (fold-append max 0 (priorities front) (priorities back))
    ∙ (ap (fold max 0) (sym (map-append (λ (m : Message). m.priority) (filter free front) (filter free back)) ∙ ap (λ (ms : List Message). map (λ m. m.priority) ms) (sym (filter-append free front back)))
    ∙ ap (top_priority free) (sym c.parts.ensures.parts))))
