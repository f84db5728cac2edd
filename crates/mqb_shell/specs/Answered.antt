-- Lines that were answered one after another.
use Rattle.std.specs.Prelude.{[], ◌+◌, ◌++◌, ◌≡◌, ◌≢◌, ◌∷◌, ◌⊎◌, Err, List, Ok, Option, Result, map}
use Rattle.std.specs.Prelude.{take, ℕ}
use Rattle.mqb_commands.specs.Outputs.{GoesOn, IsFaultLine, Says, TookFront}
use Rattle.mqb_commands.specs.declared.status.Status.{Status}
use Rattle.mqb_commands.specs.declared.status.Status.TheVariants as status
use Rattle.mqb_outside.specs.Told.{Took}
use Rattle.mqb_shell.specs.Doing.{DoesOn}
use Rattle.mqb_shell.specs.Lines.{IsCut, IsOneLine, asked_in, end_line}
use Rattle.mqb_shell.specs.Standing.{Standing}
use Rattle.mqb_shell.specs.declared.asking.TheConstants.{MAX_LINE}
use Rattle.mqb_words.specs.declared.commands.Command.{Command}

-- what it asks is done; a fault is said, and nothing changes
abbrev pub DoesAsked : Result Command Status → (steady : Option ℕ) → (b a : Standing)
    → (before after : Option (List ℕ)) → Status → Type 0
DoesAsked (Ok asked) steady b a before after r = DoesOn asked steady b a before after r
DoesAsked (Err why) steady b a before after r = Says (IsFaultLine why) before after r × (a ≡ b)

-- What a line comes to. Memory may run out before it is read.
abbrev pub DoesLine : List ℕ → (steady : Option ℕ) → (b a : Standing)
    → (before after : Option (List ℕ)) → Status → Type 0
DoesLine line steady b a before after r = DoesAsked (asked_in line) steady b a before after r
    ⊎ ((r ≡ status.Memory) × (a ≡ b) × (after ≡ before))

-- a line whose answer was written whole: how that ended, what the output had taken before the end
-- of the answer, what it has taken behind that, and how all stands then
pub record Answered : Type 0 where
  pub line : List ℕ
  pub end : Status
  pub told : Option (List ℕ)
  pub taken : Option (List ℕ)
  pub behind : Standing

-- it was answered, and the shell goes on
pub record IsAnswered (steady : Option ℕ) (b : Standing) (before : Option (List ℕ))
    (x : Answered) : Type 0 where
  pub does : DoesLine x.line steady b x.behind before x.told x.end
  pub ended : Took x.told x.taken (end_line x.end)
  pub goes_on : GoesOn x.end

-- lines one after another, each by what the one before it left
abbrev pub Answers : (steady : Option ℕ) → (b : Standing) → (before : Option (List ℕ))
    → List Answered → (a : Standing) → (after : Option (List ℕ)) → Type 0
Answers steady b before [] a after = (a ≡ b) × (after ≡ before)
Answers steady b before (x ∷ xs) a after =
    IsAnswered steady b before x × Answers steady x.behind x.taken xs a after

abbrev pub lines_of : List Answered → List (List ℕ)
lines_of xs = map (λ x. x.line) xs

-- The line that ends an answer was written, and the shell goes on; or it ends, behind that or with
-- the output. Behind a fault of the output nothing is written.
abbrev pub EndsAnswer : (end : Status) → (before after : Option (List ℕ)) → Result (Unit {0}) Status
    → Type 0
EndsAnswer end before after (Ok done) = GoesOn end × Took before after (end_line end)
EndsAnswer end before after (Err status.WriteFault) =
    ((end ≡ status.WriteFault) × (after ≡ before))
    ⊎ ((end ≢ status.WriteFault) × TookFront before after (end_line end))
EndsAnswer end before after (Err why) =
    (why ≡ end) × (GoesOn end → ⊥) × Took before after (end_line end)

-- What a line came to, and how its answer ended.
pub record AnswersLine (line : List ℕ) (steady : Option ℕ) (b a : Standing)
    (before after : Option (List ℕ)) (r : Result (Unit {0}) Status) : Type 0 where
  pub end : Status
  pub told : Option (List ℕ)
  pub does : DoesLine line steady b a before told end
  pub ends : EndsAnswer end told after r

-- The first line of a text was answered, and the shell ended with that.
pub record StopsAt (text : List ℕ) (steady : Option ℕ) (b a : Standing)
    (before after : Option (List ℕ)) (r : Status) : Type 0 where
  pub line : List ℕ
  pub unread : List ℕ
  pub whole : text ≡ line ++ 10 ∷ unread
  pub one : IsOneLine line
  pub stops : AnswersLine line steady b a before after (Err r)

-- memory ran out before a line was whole: nothing was asked
abbrev pub IsUnasked : (b a : Standing) → (before after : Option (List ℕ)) → Status → Type 0
IsUnasked b a before after r = (r ≡ status.Memory) × (a ≡ b) × (after ≡ before)

-- The lines that end in bytes were answered, the first of which begins with what was held; and what
-- is behind the last line feed is held.
pub record GoesOver (steady : Option ℕ) (held bytes held_now : List ℕ) (b a : Standing)
    (before after : Option (List ℕ)) : Type 0 where
  pub done : List Answered
  pub cut : IsCut (held ++ bytes) (lines_of done) held_now
  pub one : IsOneLine held_now
  pub answers : Answers steady b before done a after

-- So many of them were, and the shell ended with the next one.
pub record StopsIn (steady : Option ℕ) (held bytes : List ℕ) (b a : Standing)
    (before after : Option (List ℕ)) (r : Status) : Type 0 where
  pub done : List Answered
  pub rest : List ℕ
  pub mid : Standing
  pub told : Option (List ℕ)
  pub cut : IsCut (held ++ bytes) (lines_of done) rest
  pub answers : Answers steady b before done mid told
  pub stops : StopsAt rest steady mid a told after r ⊎ IsUnasked mid a told after r

-- They were, and of what is held now as many bytes are kept as say whether the line is too long.
pub record Keeps (steady : Option ℕ) (held bytes kept : List ℕ) (b a : Standing)
    (before after : Option (List ℕ)) : Type 0 where
  pub held_now : List ℕ
  pub kept_of : kept ≡ take (MAX_LINE + 1) held_now
  pub goes : GoesOver steady held bytes held_now b a before after

-- so many bytes of a piece were taken, or the shell ended
abbrev pub TakesFront : (steady : Option ℕ) → (held piece kept : List ℕ) → (b a : Standing)
    → (before after : Option (List ℕ)) → Result ℕ Status → Type 0
TakesFront steady held piece kept b a before after (Ok n) =
    Keeps steady held (take n piece) kept b a before after
TakesFront steady held piece kept b a before after (Err r) =
    StopsIn steady held piece b a before after r

-- a piece was taken, or the shell ended
abbrev pub TakesPiece : (steady : Option ℕ) → (held piece kept : List ℕ) → (b a : Standing)
    → (before after : Option (List ℕ)) → Result (Unit {0}) Status → Type 0
TakesPiece steady held piece kept b a before after (Ok done) =
    Keeps steady held piece kept b a before after
TakesPiece steady held piece kept b a before after (Err r) =
    StopsIn steady held piece b a before after r
