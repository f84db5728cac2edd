-- What the words of the command line ask for.
use Rattle.std.specs.List.{list_all}
use Rattle.std.specs.Prelude.{[], ◌&&◌, ◌∷◌, Bool, Err, List, Ok, Option, Result, codes, length}
use Rattle.std.specs.Prelude.{nat_le, ℕ}
use Rattle.std.specs.Result.{result_ok}
use Rattle.mqb_base.specs.Same.{same_bytes}
use Rattle.mqb_fields.specs.Reading.{◌>>=◌}
use Rattle.mqb_forms.specs.Faults.{only_if}
use Rattle.mqb_forms.specs.Values.{name_of}
use Rattle.mqb_forms.specs.Words.{number_in}
use Rattle.mqb_forms.specs.declared.faults.LineKind.{LineKind}
use Rattle.mqb_forms.specs.declared.faults.LineKind.TheVariants.{Value}
use Rattle.mqb_work.specs.declared.words.Job.{Job}

-- the most steps of one job
abbrev pub MOST_STEPS : ℕ
MOST_STEPS = 1000000

abbrev pub steps_of : List ℕ → Result ℕ LineKind
steps_of word = number_in 1 MOST_STEPS word

-- printable, and no blank
abbrev pub is_prefix_byte : ℕ → Bool
is_prefix_byte b = nat_le 0x21 b && nat_le b 0x7E

-- 1 to 64 such bytes
abbrev pub is_prefix : List ℕ → Bool
is_prefix word = nat_le 1 (length word) && nat_le (length word) 64 && list_all is_prefix_byte word

abbrev pub prefix_of : List ℕ → Result (List ℕ) LineKind
prefix_of word = only_if (is_prefix word) (Ok word)

-- a job, by its words
unfoldable pub job_by : (queue count prefix : List ℕ) → Result Job LineKind
job_by queue count prefix = do
  name ← name_of queue
  steps ← steps_of count
  bytes ← prefix_of prefix
  Ok (record { queue = name; count = steps; prefix = bytes })

-- `work`, the store, the queue, how many steps at most, and what stands before each body
unfoldable pub job_from : List (List ℕ) → Result Job LineKind
job_from (word ∷ store ∷ queue ∷ count ∷ prefix ∷ []) =
    only_if (same_bytes word (codes "work")) (job_by queue count prefix)
job_from _ = Err Value

-- what words ask for, where they are within their forms
abbrev pub job_of : List (List ℕ) → Option Job
job_of words = result_ok (job_from words)
