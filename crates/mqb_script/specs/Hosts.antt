-- The managers of a script, and their words.
use Rattle.std.specs.Prelude.{◌≡◌, ◌≢◌, ℕ, zero, suc, ◌+◌, ◌-◌, ◌<◌, ◌==◌, ◌++◌, List, [], ◌∷◌}
use Rattle.std.specs.Prelude.{codes, Result, Ok, Err, if◌then◌else◌}
use Rattle.std.specs.Fmt.{decimal}
use Rattle.mqb_base.specs.Same.{same_bytes}
use Rattle.mqb_fields.specs.Reading.{◌>>=◌}
use Rattle.mqb_forms.specs.declared.faults.LineKind.{LineKind}
use Rattle.mqb_forms.specs.declared.faults.LineKind.TheVariants.{Value}
use Rattle.mqb_forms.specs.Words.{number_in}
use Rattle.mqb_script.specs.declared.grammar.Grammar.{Grammar}
use Rattle.mqb_script.specs.declared.grammar.Grammar.TheVariants.{Pair, Ring}

-- the greatest number of managers
abbrev pub MOST_MANAGERS : ℕ
MOST_MANAGERS = 8

-- how many there are
abbrev pub count_of : Grammar → ℕ
count_of Pair = 2
count_of (Ring count) = count

-- a manager's host by its index, which is also its word
abbrev pub host_at : Grammar → ℕ → List ℕ
host_at Pair zero = codes "alpha"
host_at Pair (suc i) = codes "beta"
host_at (Ring count) i = codes "m" ++ decimal (i + 1)

abbrev pub one_of_pair : List ℕ → Result ℕ LineKind
one_of_pair word = if same_bytes word (codes "alpha") then Ok 0
    else if same_bytes word (codes "beta") then Ok 1
    else Err Value

-- an m and a number from 1 to the count
abbrev pub one_of_ring : ℕ → List ℕ → Result ℕ LineKind
one_of_ring count [] = Err Value
one_of_ring count (first ∷ number) =
    if first == 0x6D then (number_in 1 count number >>= λ i. Ok (i - 1)) else Err Value

-- the index of the manager that a word names
unfoldable pub manager_of : Grammar → List ℕ → Result ℕ LineKind
manager_of Pair word = one_of_pair word
manager_of (Ring count) word = one_of_ring count word

-- how many words more the lines of connections have than those of a pair, whose one
-- connection needs no names
abbrev pub more_words : Grammar → ℕ
more_words Pair = 0
more_words (Ring count) = 1

-- Two of them, which a connection may have as its ends.
abbrev pub AreEnds : Grammar → ℕ → ℕ → Type 0
AreEnds grammar initiator acceptor =
    (initiator < count_of grammar) × (acceptor < count_of grammar) × (initiator ≢ acceptor)

-- One whose connection a disconnect ends: in a pair it is named by the first.
abbrev pub IsEnd : Grammar → ℕ → Type 0
IsEnd Pair manager = manager ≡ 0
IsEnd (Ring count) manager = manager < count
