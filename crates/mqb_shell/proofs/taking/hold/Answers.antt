use Rattle.mqb_shell.proofs.Limits.{kept_grows}
use Rattle.mqb_shell.proofs.taking.hold.Goals as goal

pub returns : goal.returns
returns c text is =
    cc (kept_grows 16777217 text c.args.bytes.now c.args.line.now.items is, c.in_ok-extend_from_slice.ensures.items, c.min.ensures, c.saturating_sub-room.ensures, c.len.ensures)
