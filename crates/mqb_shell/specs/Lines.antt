-- The lines of a text, what each asks, and the line that ends its answer.
use Rattle.std.specs.Fmt.{decimal}
use Rattle.std.specs.List.{AllByRecursion, flat_map}
use Rattle.std.specs.Prelude.{[], ◌++◌, ◌≡◌, ◌≢◌, ◌∷◌, All, Err, List, Result, codes, if◌then◌else◌}
use Rattle.std.specs.Prelude.{length, nat_le, ok_or, ℕ}
use Rattle.mqb_commands.specs.Exits.{exit_of}
use Rattle.mqb_commands.specs.declared.status.Status.{Status}
use Rattle.mqb_commands.specs.declared.status.Status.TheVariants as status
use Rattle.mqb_shell.specs.declared.asking.TheConstants.{MAX_LINE}
use Rattle.mqb_words.specs.Lines.{command_in}
use Rattle.mqb_words.specs.declared.commands.Command.{Command}

-- no byte of it is a line feed
abbrev pub IsOneLine : List ℕ → Type 0
IsOneLine text = All (λ b. b ≢ 10) text

-- lines, each with its line feed
abbrev pub joined : List (List ℕ) → List ℕ
joined lines = flat_map (λ line. line ++ 10 ∷ []) lines

-- a text begins with these lines, and this is behind them
pub record IsCut (text : List ℕ) (lines : List (List ℕ)) (rest : List ℕ) : Type 0 where
  pub whole : text ≡ joined lines ++ rest
  pub each : AllByRecursion IsOneLine lines

-- What a line asks of a manager that is open, or the fault that it is.
abbrev pub asked_in : List ℕ → Result Command Status
asked_in line = if nat_le (length line) MAX_LINE then ok_or (command_in line) status.Usage
    else Err status.TooLong

-- the line that ends an answer
abbrev pub end_line : Status → List ℕ
end_line r = codes "end " ++ decimal (exit_of r) ++ codes "\n"
