use Rattle.std.proofs.Common.{ℕ, [], ◌∷◌, ◌∙◌, subst, sym}
use Rattle.mqb_commands.specs.Turns.{PutsFree}
use Rattle.mqb_commands.proofs.Putting.{none_may, not_put}
use Rattle.mqb_commands.proofs.turns.Taking.put_free.Goals as goal

pub returns-then-count-eq0 : goal.returns-then-count-eq0
returns-then-count-eq0 c =
    subst (λ (n : ℕ). PutsFree c.args.self.at c.args.self.now c.args.priority n (c.args.message.now ∷ []) c.args.printer.now c.args.printer.now 0)
    (sym c.if-count-eq0.true) (none_may c.args.self.at c.args.self.now c.args.priority c.args.message.now c.args.printer.now)

pub returns-then-not-is_free_of : goal.returns-then-not-is_free_of
returns-then-not-is_free_of c =
    not_put c.args.self.at c.args.self.now c.args.priority c.args.count c.args.message.now c.args.printer.now (sym c.is_free_of.ensures ∙ c.if-not-is_free_of.true)
