-- The forms of words, and the first word of each.
use Rattle.std.specs.Prelude.{ℕ, List, [], ◌∷◌, codes, find, Option, ok_or, Result}
use Rattle.mqb_base.specs.Same.{same_bytes}
use Rattle.mqb_forms.specs.declared.faults.LineKind.{LineKind}
use Rattle.mqb_forms.specs.declared.faults.LineKind.TheVariants.{Word}
use Rattle.mqb_words.specs.declared.forms.Form.{Form}
use Rattle.mqb_words.specs.declared.forms.Form.TheVariants as form

abbrev pub forms : List Form
forms = form.Replay ∷ form.Make ∷ form.Trial ∷ form.Show ∷ form.Init ∷ form.Peer ∷ form.Create
    ∷ form.Send ∷ form.Commit ∷ form.Take ∷ form.Purge
    ∷ form.Tick ∷ form.Roll ∷ form.Checkpoint ∷ form.List ∷ form.Peek ∷ form.Probe ∷ form.Shell
    ∷ form.Serve ∷ form.Attend ∷ form.Push ∷ form.Fetch ∷ form.Help
    ∷ form.Version ∷ []

abbrev pub word_of : Form → List ℕ
word_of form.Replay = codes "replay"
word_of form.Make = codes "make"
word_of form.Trial = codes "trial"
word_of form.Show = codes "show"
word_of form.Init = codes "init"
word_of form.Peer = codes "peer"
word_of form.Create = codes "create"
word_of form.Send = codes "send"
word_of form.Commit = codes "commit"
word_of form.Take = codes "take"
word_of form.Purge = codes "purge"
word_of form.Tick = codes "tick"
word_of form.Roll = codes "roll"
word_of form.Checkpoint = codes "checkpoint"
word_of form.List = codes "list"
word_of form.Peek = codes "peek"
word_of form.Probe = codes "probe"
word_of form.Shell = codes "shell"
word_of form.Serve = codes "serve"
word_of form.Attend = codes "attend"
word_of form.Push = codes "push"
word_of form.Fetch = codes "fetch"
word_of form.Help = codes "--help"
word_of form.Version = codes "--version"

abbrev pub form_among : List Form → List ℕ → Option Form
form_among among word = find (λ form. same_bytes (word_of form) word) among

unfoldable pub form_of : List ℕ → Result Form LineKind
form_of word = ok_or (form_among forms word) Word
