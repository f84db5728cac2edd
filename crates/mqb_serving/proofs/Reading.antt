-- Bytes that come in pieces, and behind the end.
use Rattle.std.proofs.Common.{◌≡◌, List, [], ◌∷◌, ◌++◌, Some, ℕ, cond, is_some, refl, sym, ap, ◌∙◌}
use Rattle.std.specs.Prelude.{fold}
use Rattle.std.proofs.lemmas.List.Sums.{fold-append}
use Rattle.mqb_stream.specs.Cutting.{joined}
use Rattle.mqb_serving.specs.Conversations.{Conversation, End, byte_read, read_on}
use Rattle.mqb_serving.specs.Laws.{CuttingDoesNotMatter, EndsLast}

-- pieces are read as the bytes that they are
pub read_joined : (c : Conversation) (pieces : List (List ℕ)) → fold read_on c pieces ≡ read_on c (joined pieces)
read_joined c [] = refl
read_joined c (piece ∷ pieces) = read_joined (read_on c piece) pieces ∙ sym (fold-append byte_read c piece (joined pieces))

pub cutting_does_not_matter : CuttingDoesNotMatter
cutting_does_not_matter c pieces others same = read_joined c pieces ∙ ap (read_on c) same ∙ sym (read_joined c others)

-- one byte behind the end
byte_last : (c : Conversation) (end : End) (byte : ℕ) → c.end ≡ Some end → byte_read c byte ≡ c
byte_last c end byte e = rw e refl

pub ends_last : EndsLast
ends_last c end [] e = refl
ends_last c end (byte ∷ bytes) e = ap (λ (d : Conversation). read_on d bytes) (byte_last c end byte e) ∙ ends_last c end bytes e
