-- What words count of a line.
use Rattle.std.proofs.Common.{arith}
use Rattle.std.specs.Prelude.{[], ◌+◌, ◌∷◌, ◌≡◌, List}
use Rattle.mqb_base.specs.declared.ids.MessageId.{MessageId}
use Rattle.mqb_base.specs.declared.ledger.Line.{Line}
use Rattle.mqb_base.specs.declared.ledger.Line.TheVariants as line
use Rattle.mqb_history.specs.Copies.{came_in, left_in, sent_in}
use Rattle.mqb_history.specs.Truths.{committed_in, local_in}
use Rattle.mqb_history.proofs.Sums.{word}
use Rattle.mqb_history.proofs.Tallies.{arrives, begins, left, tally}

-- what left a queue, or joined a stream
pub left_word : (id : MessageId) (l : Line) → left id l ≡ word left_in id l + word committed_in id l
left_word id (line.Committed stream number other) = omega arith
left_word id l = omega arith

-- what arrived, or was put where it was sent
pub came_word : (id : MessageId) (l : Line) → word came_in id l ≡ arrives id l + word local_in id l
came_word id (line.Committed stream number other) = omega arith
came_word id l = omega arith

-- what was sent
pub begins_word : (id : MessageId) (l : Line) → begins id l ≡ word committed_in id l + word local_in id l
begins_word id (line.Committed stream number other) = omega arith
begins_word id l = omega arith

sent_line : (id : MessageId) (l : Line) → begins id l ≡ word sent_in id l
sent_line id (line.Committed stream number other) = omega arith
sent_line id l = omega arith

pub sent_word : (id : MessageId) (ls : List Line) → tally (word sent_in id) ls ≡ tally (begins id) ls
sent_word id [] = omega arith
sent_word id (l ∷ ls) = let one = sent_line id l in let rest = sent_word id ls in omega (arith, one, rest)
