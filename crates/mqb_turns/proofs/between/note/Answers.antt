use Rattle.std.proofs.Common.{◌≡◌, Bool, List, [], cond, true, ap, refl, rules, sym, ◌∙◌}
use Rattle.mqb_base.specs.declared.ledger.Line.{Line}
use Rattle.mqb_network.specs.Changes.{with_lines}
use Rattle.mqb_turns.specs.Sides.{network_at, side}
use Rattle.mqb_turns.proofs.Turning.{lines_so}
use Rattle.mqb_turns.proofs.between.note.Goals as goal

pub returns : goal.returns
returns c = let noted : c.args.recorded ≡ true = search rules in λ which. (
  lines_so which c.args.own.now c.args.other.now c.args.traffic.now c.add_lines.new.self c.lines.result.now (c.in_ok-add_lines.ensures {u = tt})
      ∙ ap (λ (ls : List Line). with_lines ls (network_at which (side c.args.own.now c.args.other.now c.args.traffic.now)))
      (c.lines.ensures ∙ sym (ap (λ (b : Bool). cond b c.args.own.now.manager.store.lines []) noted)),
  refl,
  refl,
)
