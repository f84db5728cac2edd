-- What the words of a command line ask for.
use Rattle.std.specs.Prelude.{◌≡◌, ℕ, List, [], ◌∷◌, Option, Some, None, Result, Ok, Err}
use Rattle.std.specs.Result.{result_ok}
use Rattle.mqb_fields.specs.Reading.{◌>>=◌}
use Rattle.mqb_forms.specs.declared.faults.LineKind.{LineKind}
use Rattle.mqb_forms.specs.declared.faults.LineKind.TheVariants.{Word, Value}
use Rattle.mqb_forms.specs.declared.faults.LineFault.{LineFault}
use Rattle.mqb_forms.specs.declared.faults.LineFault.TheVariants as line
use Rattle.mqb_forms.specs.Values.{name_of, place_of}
use Rattle.mqb_words.specs.declared.faults.WordsFault.{WordsFault}
use Rattle.mqb_words.specs.declared.faults.WordsFault.TheVariants.{Usage, Memory}
use Rattle.mqb_words.specs.declared.forms.Form.{Form}
use Rattle.mqb_words.specs.declared.forms.Form.TheVariants as form
use Rattle.mqb_words.specs.declared.commands.Call.{Call}
use Rattle.mqb_words.specs.declared.commands.Command.{Command}
use Rattle.mqb_words.specs.declared.commands.Command.TheVariants as command
use Rattle.mqb_words.specs.Table.{form_of}
use Rattle.mqb_words.specs.Values.{orders_of, connections_of, count_in, seconds_of, identity_of}
use Rattle.mqb_words.specs.Values.{address_in, wait_in}
use Rattle.mqb_words.specs.Calls.{peer_from, create_from, send_from, commit_from, take_from}
use Rattle.mqb_words.specs.Calls.{purge_from, tick_from, roll_from}

-- The words behind the first one.

-- none
unfoldable pub alone : Command → List (List ℕ) → Result Command LineKind
alone command [] = Ok command
alone command _ = Err Value

-- the store alone
unfoldable pub of_store : Command → List (List ℕ) → Result Command LineKind
of_store command (store ∷ []) = Ok command
of_store command _ = Err Value

-- a count of orders alone
unfoldable pub orders_from : List (List ℕ) → Result ℕ LineKind
orders_from (orders ∷ []) = orders_of orders
orders_from _ = Err Value

abbrev pub making : Result ℕ LineKind → Result Command LineKind
making read = do
  orders ← read
  Ok (command.Make orders)

abbrev pub trying : Result ℕ LineKind → Result Command LineKind
trying read = do
  orders ← read
  Ok (command.Trial orders)

unfoldable pub init_from : List (List ℕ) → Result Command LineKind
init_from (store ∷ host ∷ guid ∷ address ∷ []) = do
  identity ← identity_of host guid address
  Ok (command.Init identity)
init_from _ = Err Value

abbrev pub calling : Result Call LineKind → Result Command LineKind
calling read = do
  call ← read
  Ok (command.Call call)

unfoldable pub serve_from : List (List ℕ) → Result Command LineKind
serve_from (store ∷ count ∷ []) = do
  connections ← connections_of count
  Ok (command.Serve connections)
serve_from _ = Err Value

unfoldable pub peek_from : List (List ℕ) → Result Command LineKind
peek_from (store ∷ place ∷ words) = do
  from ← place_of place
  count ← count_in words
  Ok (command.Peek from count)
peek_from _ = Err Value

unfoldable pub attend_from : List (List ℕ) → Result Command LineKind
attend_from (store ∷ wait ∷ []) = do
  seconds ← seconds_of wait
  Ok (command.Attend seconds)
attend_from _ = Err Value

unfoldable pub push_from : List (List ℕ) → Result Command LineKind
push_from (store ∷ host ∷ words) = do
  name ← name_of host
  address ← address_in words
  Ok (command.Push name address)
push_from _ = Err Value

unfoldable pub fetch_from : List (List ℕ) → Result Command LineKind
fetch_from (store ∷ host ∷ words) = do
  name ← name_of host
  wait ← wait_in words
  Ok (command.Fetch name wait.0 wait.1)
fetch_from _ = Err Value

-- by the form that the first word tells
unfoldable pub command_with : Form → List (List ℕ) → Result Command LineKind
command_with form.Replay words = alone command.Replay words
command_with form.Make words = making (orders_from words)
command_with form.Trial words = trying (orders_from words)
command_with form.Show words = alone command.Show words
command_with form.Init words = init_from words
command_with form.Peer words = calling (peer_from words)
command_with form.Create words = calling (create_from words)
command_with form.Send words = calling (send_from words)
command_with form.Commit words = calling (commit_from words)
command_with form.Take words = calling (take_from words)
command_with form.Purge words = calling (purge_from words)
command_with form.Tick words = calling (tick_from words)
command_with form.Roll words = calling (roll_from words)
command_with form.Checkpoint words = of_store command.Checkpoint words
command_with form.List words = of_store command.List words
command_with form.Peek words = peek_from words
command_with form.Probe words = of_store command.Probe words
command_with form.Shell words = of_store command.Shell words
command_with form.Serve words = serve_from words
command_with form.Attend words = attend_from words
command_with form.Push words = push_from words
command_with form.Fetch words = fetch_from words
command_with form.Help words = alone command.Help words
command_with form.Version words = alone command.Version words

-- All the words.

unfoldable pub command_from : List (List ℕ) → Result Command LineKind
command_from [] = Err Word
command_from (word ∷ words) = do
  form ← form_of word
  command_with form words

-- what words ask for, where they are within their forms
abbrev pub command_of : List (List ℕ) → Option Command
command_of words = result_ok (command_from words)

abbrev pub fault_of : LineFault → WordsFault
fault_of (line.Faulty kind) = Usage
fault_of line.Memory = Memory

-- A call answers what words ask for, or that they ask for nothing, or wants memory.
abbrev pub Answers : Option Command → Result Command WordsFault → Type 0
Answers asked (Ok read) = asked ≡ Some read
Answers asked (Err Usage) = asked ≡ None
Answers asked (Err Memory) = Unit {0}
