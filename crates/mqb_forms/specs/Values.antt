-- What single words stand for.
use Rattle.std.specs.Prelude.{ℕ, Bool, true, false, ◌==◌, ◌-◌, List, take, length, codes, is_none}
use Rattle.std.specs.Prelude.{Option, Some, None, Result, Ok, Err, if◌then◌else◌}
use Rattle.std.specs.List.{ends_with}
use Rattle.uuid.specs.Text.{parsed_hyphenated}
use Rattle.mqb_base.specs.declared.ids.Guid.{Guid}
use Rattle.mqb_base.specs.declared.queues.Place.{Place}
use Rattle.mqb_base.specs.declared.queues.Place.TheVariants.{Queue, JournalOf, Dead}
use Rattle.mqb_base.specs.declared.queues.Place.TheVariants.{DeadXact, Journal}
use Rattle.mqb_base.specs.Names.{name_fault}
use Rattle.mqb_base.specs.Same.{same_bytes}
use Rattle.mqb_fields.specs.Reading.{◌>>=◌}
use Rattle.mqb_outside.specs.declared.power.Mode.{Mode}
use Rattle.mqb_outside.specs.declared.power.Mode.TheVariants.{Stop, Fail}
use Rattle.mqb_outside.specs.declared.power.Pick.{Pick}
use Rattle.mqb_outside.specs.declared.power.Pick.TheVariants.{Old, New, Half, Ones}
use Rattle.mqb_forms.specs.declared.faults.LineKind.{LineKind}
use Rattle.mqb_forms.specs.declared.faults.LineKind.TheVariants.{Value}
use Rattle.mqb_forms.specs.Faults.{only_if}
use Rattle.mqb_forms.specs.Words.{number_in}

-- Numbers.

abbrev pub MOST : ℕ
MOST = 4294967295

abbrev pub moment_of : List ℕ → Result ℕ LineKind
moment_of word = number_in 0 MOST word

abbrev pub packet_of : List ℕ → Result ℕ LineKind
packet_of word = number_in 1 MOST word

abbrev pub quota_of : List ℕ → Result ℕ LineKind
quota_of word = number_in 0 MOST word

abbrev pub priority_of : List ℕ → Result ℕ LineKind
priority_of word = number_in 0 7 word

abbrev pub MOST_WINDOW : ℕ
MOST_WINDOW = 65535

abbrev pub window_of : List ℕ → Result ℕ LineKind
window_of word = number_in 1 MOST_WINDOW word

abbrev pub MOST_CALL : ℕ
MOST_CALL = 1000

abbrev pub call_of : List ℕ → Result ℕ LineKind
call_of word = number_in 1 MOST_CALL word

abbrev pub MOST_ROLL : ℕ
MOST_ROLL = 65535

abbrev pub roll_of : List ℕ → Result ℕ LineKind
roll_of word = number_in 1 MOST_ROLL word

-- Choices of two words.

-- true at the first word, false at the second
unfoldable pub choice_of : List ℕ → List ℕ → List ℕ → Result Bool LineKind
choice_of first second word = if same_bytes word first then Ok true
    else if same_bytes word second then Ok false
    else Err Value

unfoldable pub mode_of : List ℕ → Result Mode LineKind
mode_of word = if same_bytes word (codes "stop") then Ok Stop
    else if same_bytes word (codes "fail") then Ok Fail
    else Err Value

unfoldable pub pick_of : List ℕ → Result Pick LineKind
pick_of word = if same_bytes word (codes "old") then Ok Old
    else if same_bytes word (codes "new") then Ok New
    else if same_bytes word (codes "half") then Ok Half
    else if same_bytes word (codes "ones") then Ok Ones
    else Err Value

-- Names, GUIDs and places.

unfoldable pub name_of : List ℕ → Result (List ℕ) LineKind
name_of word = only_if (is_none (name_fault word)) (Ok word)

abbrev pub guid_from : Option (List ℕ) → Result Guid LineKind
guid_from None = Err Value
guid_from (Some bytes) = Ok (record { 0 = bytes })

-- 36 characters, in either case
unfoldable pub guid_of : List ℕ → Result Guid LineKind
guid_of word = guid_from (parsed_hyphenated word)

abbrev pub journal_suffix : List ℕ
journal_suffix = codes ";journal"

abbrev pub is_journal : List ℕ → Bool
is_journal word = ends_with ◌==◌ word journal_suffix

abbrev pub before_journal : List ℕ → List ℕ
before_journal word = take (length word - length journal_suffix) word

abbrev pub journal_of : List ℕ → Result Place LineKind
journal_of name = do
  called ← name_of name
  Ok (JournalOf called)

abbrev pub queue_of : List ℕ → Result Place LineKind
queue_of word = do
  name ← name_of word
  Ok (Queue name)

unfoldable pub place_of : List ℕ → Result Place LineKind
place_of word = if same_bytes word (codes ";deadletter") then Ok Dead
    else if same_bytes word (codes ";deadxact") then Ok DeadXact
    else if same_bytes word journal_suffix then Ok Journal
    else if is_journal word then journal_of (before_journal word)
    else queue_of word
