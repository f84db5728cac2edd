use Rattle.mqb_names.specs.lemmas.Lengths.{length_long}
use Rattle.mqb_names.proofs.wire.NameView.to_owned.Goals as goal

pub slice_bounds-direct_name-count : goal.slice_bounds-direct_name-count
slice_bounds-direct_name-count c = length_long c.args.self.now.kind c.args.self.now.part.now _ c.requires.0

pub slice_bounds-direct_name-start : goal.slice_bounds-direct_name-start
slice_bounds-direct_name-start c = length_long c.args.self.now.kind c.args.self.now.part.now _ c.requires.0
