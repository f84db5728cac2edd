use Rattle.std.proofs.Common.{◌≡◌, ap, ◌∙◌}
use Rattle.mqb_posts.proofs.Packets.{begin_headed}
use Rattle.mqb_posts.proofs.posting.first_size.Goals as goal

pub unreachable-requires : goal.unreachable-requires
unreachable-requires c = let h = begin_headed c.args.bytes.now c.requires.rest c.requires.packet c.requires.writable c.requires.are in cc (h.read, c.read_base.ensures, c.in-Err.is)

pub returns : goal.returns
returns c p rest w are = let h = begin_headed c.args.bytes.now rest p w are in
    let same : c.in-Ok.base ≡ h.base = cc (h.read, c.read_base.ensures, c.in-Ok.is) in ap (λ b. b.size) same ∙ h.size
