use Rattle.std.proofs.Common.{arith}
use Rattle.mqb_posts.proofs.Adding.{one_cut_off}
use Rattle.mqb_posts.proofs.posting.post.Goals as goal

pub returns-then-bytes-gt-MAX_MEDIUM : goal.returns-then-bytes-gt-MAX_MEDIUM
returns-then-bytes-gt-MAX_MEDIUM g c = one_cut_off _ _ (omega arith)
