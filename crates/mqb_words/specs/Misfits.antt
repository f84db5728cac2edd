-- Which word of a command line is at fault.
use Rattle.std.specs.Prelude.{◌≡◌, ◌<◌, ◌+◌, ◌==◌, ◌++◌, ℕ, Bool, true, false, List, [], ◌∷◌, codes}
use Rattle.std.specs.Prelude.{drop, is_some, length, take, IsNone, IsSome, Option, None, Some}
use Rattle.std.specs.Prelude.{Result, Ok, Err}
use Rattle.std.specs.List.{slice_split}
use Rattle.mqb_forms.specs.declared.faults.LineKind.{LineKind}
use Rattle.mqb_words.specs.declared.forms.Form.{Form}
use Rattle.mqb_words.specs.declared.forms.Form.TheVariants as form
use Rattle.mqb_words.specs.declared.misfits.Misfit.{Misfit}
use Rattle.mqb_words.specs.declared.misfits.Misfit.TheVariants.{Word, TooFew}
use Rattle.mqb_words.specs.Table.{form_of}
use Rattle.mqb_words.specs.Words.{command_of}

-- a command of each form, with all the words that one can have (of a commit, one step)
abbrev pub sample_of : Form → List ℕ
sample_of form.Replay = codes "replay"
sample_of form.Make = codes "make 1"
sample_of form.Trial = codes "trial 1"
sample_of form.Show = codes "show"
sample_of form.Init = codes "init STORE alpha 0a0b0c0d-1112-1314-1516-1718191a1b1c 10.0.0.1"
sample_of form.Peer = codes "peer STORE beta 2a2b2c2d-3132-3334-3536-3738393a3b3c 10.0.0.2"
sample_of form.Create = codes "create STORE orders tx 100 none 0a0b0c0d-1112-1314-1516-1718191a1b1c"
sample_of form.Send =
    codes "send STORE express 3 send,PUBLIC=0a0b0c0d-1112-1314-1516-1718191a1b1c,-,-,-,-,-,hello"
sample_of form.Commit = codes "commit STORE take,orders"
sample_of form.Take = codes "take STORE orders"
sample_of form.Purge = codes "purge STORE orders"
sample_of form.Tick = codes "tick STORE"
sample_of form.Roll = codes "roll STORE 1000"
sample_of form.Checkpoint = codes "checkpoint STORE"
sample_of form.List = codes "list STORE"
sample_of form.Peek = codes "peek STORE orders 1"
sample_of form.Probe = codes "probe STORE"
sample_of form.Shell = codes "shell STORE"
sample_of form.Serve = codes "serve STORE 1"
sample_of form.Attend = codes "attend STORE 60"
sample_of form.Push = codes "push STORE beta 10.0.0.2"
sample_of form.Fetch = codes "fetch STORE beta 10.0.0.2 5"
sample_of form.Help = codes "--help"
sample_of form.Version = codes "--version"

abbrev pub sample_by : Result Form LineKind → List (List ℕ)
sample_by (Ok form) = slice_split (λ b. b == 0x20) (sample_of form)
sample_by (Err kind) = []

-- the words of the sample of the form that the first word tells, where it tells one
abbrev pub sample_for : List (List ℕ) → List (List ℕ)
sample_for [] = []
sample_for (word ∷ words) = sample_by (form_of word)

-- So many first words are the beginning of a command: with the rest of the sample behind them
-- they ask for something.
abbrev pub begins : (words sample : List (List ℕ)) → ℕ → Bool
begins words sample count = is_some (command_of (take count words ++ drop count sample))

-- the words before this place fit: with those before it, each is the beginning of a command
abbrev pub Fit : (words sample : List (List ℕ)) → ℕ → Type 0
Fit words sample at = (k : ℕ) → k < at → begins words sample (k + 1) ≡ true

-- the word at this place is the first one that does not fit
pub record IsFirstUnfit (words sample : List (List ℕ)) (at : ℕ) : Type 0 where
  pub within : at < length words
  pub before : Fit words sample at
  pub unfit : begins words sample (at + 1) ≡ false

abbrev pub FindsUnfit : (words sample : List (List ℕ)) → Option ℕ → Type 0
FindsUnfit words sample (Some at) = IsFirstUnfit words sample at
FindsUnfit words sample None = Fit words sample (length words)

-- Words that are a command have no misfit. Of others it is the first word that does not fit, or
-- that more are wanted behind them.
abbrev pub TellsMisfit : List (List ℕ) → Option Misfit → Type 0
TellsMisfit words None = IsSome (command_of words)
TellsMisfit words (Some (Word at)) =
    IsNone (command_of words) × IsFirstUnfit words (sample_for words) at
TellsMisfit words (Some TooFew) =
    IsNone (command_of words) × Fit words (sample_for words) (length words)
