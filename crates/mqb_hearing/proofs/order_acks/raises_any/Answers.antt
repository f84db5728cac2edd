use Rattle.std.proofs.Common.{Option, None, Some, false, ap, sym, ◌∙◌}
use Rattle.std.specs.Option.{option_map_or}
use Rattle.mqb_model.specs.calls.hear.Streams.{raises}
use Rattle.mqb_orders.specs.Rows.{Row}
use Rattle.mqb_hearing.proofs.Acks.{raised_at}
use Rattle.mqb_hearing.proofs.order_acks.raises_any.Goals as goal

pub returns-in-Some : goal.returns-in-Some
returns-in-Some c = c.raises.ensures ∙ sym (
    raised_at c.args.peer c.args.ack c.args.contents.now.lists (Some c.in-Some.row) c.requires (sym c.row_of_ordinal.ensures.index ∙ c.in-Some.is)
    ∙ ap (λ (o : Option Row). option_map_or (raises c.args.peer c.args.ack) o false) c.out.ensures.row
    )

pub returns-in-None : goal.returns-in-None
returns-in-None c = sym (raised_at c.args.peer c.args.ack c.args.contents.now.lists None c.requires (sym c.row_of_ordinal.ensures.index ∙ c.in-None.is))
