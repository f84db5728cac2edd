use Rattle.std.proofs.Common.{[], ◌∷◌, ◌+◌, length}
use Rattle.mqb_fields.specs.Writing.{bytes_of}
use Rattle.mqb_layout.proofs.Pieces.{joined}
use Rattle.mqb_layout.proofs.block.add_area.Goals as goal

pub returns : goal.returns
returns c =
    joined c.args.block.now.items _ _ _ c.push.new.self.items c.to_le_bytes.result c.to_le_bytes-2.result c.args.base.now (0 ∷ []) (bytes_of 4 (8 + length c.args.base.now)) (bytes_of 8 c.args.count)
    c.in_ok-extend_from_slice.ensures.items c.in_ok-extend_from_slice-2.ensures.items c.in_ok-extend_from_slice-3.ensures.items c.in_ok-push.ensures.items c.to_le_bytes.ensures c.to_le_bytes-2.ensures
