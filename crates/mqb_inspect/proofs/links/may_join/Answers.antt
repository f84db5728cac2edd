use Rattle.std.proofs.Common.{◌&&◌, Bool, ap, sym, ◌∙◌}
use Rattle.mqb_inspect.specs.Linking.{fits_all}
use Rattle.mqb_inspect.proofs.links.may_join.Goals as goal

pub returns-then-links_below : goal.returns-then-links_below
returns-then-links_below c = λ sequences kept linked has.
    c.fits_all.ensures sequences kept linked has
    ∙ ap (λ (b : Bool). b && fits_all c.args.came.now c.args.link.now) (sym (sym c.links_below.ensures ∙ c.if-links_below.true))

pub returns-else-links_below : goal.returns-else-links_below
returns-else-links_below c = λ sequences kept linked has.
    c.if-links_below.false ∙ ap (λ (b : Bool). b && fits_all c.args.came.now c.args.link.now) (sym (sym c.links_below.ensures ∙ c.if-links_below.false))
