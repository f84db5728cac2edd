use Rattle.std.proofs.Common.{◌&&◌, Bool, ap, sym, ◌∙◌}
use Rattle.mqb_inspect.specs.Keeping.{fits_found}
use Rattle.mqb_inspect.proofs.Keeping.{found_refuses, neighbours_fit}
use Rattle.mqb_inspect.proofs.links.fits_all.Goals as goal

pub returns-then-fits_found : goal.returns-then-fits_found
returns-then-fits_found c = λ sequences kept linked has.
    c.fits_found-then-fits_found.ensures
    ∙ ap (λ (b : Bool). b && fits_found c.args.came.now c.place_from.result c.args.link.now) (sym (sym c.fits_found.ensures ∙ c.if-fits_found.true))
    ∙ neighbours_fit sequences c.args.places.now c.args.came.now kept linked c.args.link.now c.args.key has c.place_before.result c.place_from.result c.place_before.ensures c.place_from.ensures

pub returns-else-fits_found : goal.returns-else-fits_found
returns-else-fits_found c = λ sequences kept linked has.
    c.if-fits_found.false ∙ sym (found_refuses c.args.came.now c.args.link.now c.place_before.result (sym c.fits_found.ensures ∙ c.if-fits_found.false))
