use Rattle.std.proofs.Common.{List, ap, refl, sym, subst, ◌∙◌}
use Rattle.mqb_capture.specs.Links.{AreLinked}
use Rattle.mqb_capture.specs.declared.link.Link.{Link}
use Rattle.mqb_inspect.specs.Linking.{may_join}
use Rattle.mqb_inspect.proofs.Keeping.{joins_by, kept_entered}
use Rattle.mqb_inspect.proofs.Linking.{join_linked}
use Rattle.mqb_inspect.proofs.links.Links.add.Goals as goal

pub invariant_of-self : goal.invariant_of-self
invariant_of-self c = (
  c.self.invariant.0,
  (kept_entered c.self.inside.sequences.keys c.index_of.new.sequences.keys c.self.inside.places c.self.inside.came.items (c.index_of.ensures.once c.self.invariant.1.once)
      c.index_of.ensures.stay c.self.invariant.1),
)

pub invariant_of-self-else-may_join : goal.invariant_of-self-else-may_join
invariant_of-self-else-may_join c = (
  c.self.invariant.0,
  (kept_entered c.self.inside.sequences.keys c.index_of.new.sequences.keys c.self.inside.places c.self.inside.came.items (c.index_of.ensures.once c.self.invariant.1.once)
      c.index_of.ensures.stay c.self.invariant.1),
)

pub invariant_of-self-in_err-keep : goal.invariant_of-self-in_err-keep
invariant_of-self-in_err-keep c = (
  subst AreLinked (sym c.in_err-keep.ensures.err) c.self.invariant.0,
  c.keep.ensures.kept c.index_of.new.sequences.keys (kept_entered c.self.inside.sequences.keys c.index_of.new.sequences.keys c.self.inside.places c.self.inside.came.items (c.index_of.ensures.once c.self.invariant.1.once)
      c.index_of.ensures.stay c.self.invariant.1) (record { sequence = c.in_ok-index_of.ensures.at; number = refl }),
)

pub invariant_of-self-then-may_join : goal.invariant_of-self-then-may_join
invariant_of-self-then-may_join c = (
  subst AreLinked (sym c.in_ok-keep.ensures.ok) (join_linked c.self.inside.came.items c.args.link c.self.invariant.0 (sym c.if-may_join.true ∙ (joins_by c.index_of.new.sequences.keys c.self.inside.places c.deref.result.now c.self.inside.came.items c.args.link c.may_join.result c.deref.ensures.value
      (kept_entered c.self.inside.sequences.keys c.index_of.new.sequences.keys c.self.inside.places c.self.inside.came.items (c.index_of.ensures.once c.self.invariant.1.once)
      c.index_of.ensures.stay c.self.invariant.1) c.self.invariant.0 (λ kept linked. c.may_join.ensures c.index_of.new.sequences.keys kept linked (record { sequence = c.in_ok-index_of.ensures.at; number = refl }))))),
  c.keep.ensures.kept c.index_of.new.sequences.keys (kept_entered c.self.inside.sequences.keys c.index_of.new.sequences.keys c.self.inside.places c.self.inside.came.items (c.index_of.ensures.once c.self.invariant.1.once)
      c.index_of.ensures.stay c.self.invariant.1) (record { sequence = c.in_ok-index_of.ensures.at; number = refl }),
)

pub returns-then-may_join-clause-added : goal.returns-then-may_join-clause-added
returns-then-may_join-clause-added c = sym c.if-may_join.true ∙ (joins_by c.index_of.new.sequences.keys c.self.inside.places c.deref.result.now c.self.inside.came.items c.args.link c.may_join.result c.deref.ensures.value
    (kept_entered c.self.inside.sequences.keys c.index_of.new.sequences.keys c.self.inside.places c.self.inside.came.items (c.index_of.ensures.once c.self.invariant.1.once)
    c.index_of.ensures.stay c.self.invariant.1) c.self.invariant.0 (λ kept linked. c.may_join.ensures c.index_of.new.sequences.keys kept linked (record { sequence = c.in_ok-index_of.ensures.at; number = refl }))) ∙ ap (λ (t : List Link). may_join t c.args.link) c.self.view_is

pub returns-clause-added : goal.returns-clause-added
returns-clause-added c = sym c.if-may_join.false ∙ (joins_by c.index_of.new.sequences.keys c.self.inside.places c.deref.result.now c.self.inside.came.items c.args.link c.may_join.result c.deref.ensures.value
    (kept_entered c.self.inside.sequences.keys c.index_of.new.sequences.keys c.self.inside.places c.self.inside.came.items (c.index_of.ensures.once c.self.invariant.1.once)
    c.index_of.ensures.stay c.self.invariant.1) c.self.invariant.0 (λ kept linked. c.may_join.ensures c.index_of.new.sequences.keys kept linked (record { sequence = c.in_ok-index_of.ensures.at; number = refl }))) ∙ ap (λ (t : List Link). may_join t c.args.link) c.self.view_is
