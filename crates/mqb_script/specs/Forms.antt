-- The forms of lines.
use Rattle.std.specs.Prelude.{ℕ, ◌+◌, Bool, ◌==◌, ◌||◌, nat_le, List, [], ◌∷◌, codes, find, Option}
use Rattle.std.specs.Prelude.{ok_or, Result}
use Rattle.mqb_base.specs.Same.{same_bytes}
use Rattle.mqb_forms.specs.declared.faults.LineKind.{LineKind}
use Rattle.mqb_forms.specs.declared.faults.LineKind.TheVariants.{Word}
use Rattle.mqb_script.specs.declared.grammar.Grammar.{Grammar}
use Rattle.mqb_script.specs.declared.forms.Form.{Form}
use Rattle.mqb_script.specs.Hosts.{more_words}
use Rattle.mqb_script.specs.declared.forms.Form.TheVariants.{Queue, Commit, Send, Take, Purge, Tick}
use Rattle.mqb_script.specs.declared.forms.Form.TheVariants.{Connect, Disconnect, Pump, Deliver}
use Rattle.mqb_script.specs.declared.forms.Form.TheVariants.{Drop, Flow, Resend, Arm, Restart}
use Rattle.mqb_script.specs.declared.forms.Form.TheVariants.{Roll, Checkpoint}

abbrev pub forms : List Form
forms = Queue ∷ Commit ∷ Send ∷ Take ∷ Purge ∷ Tick ∷ Connect ∷ Disconnect ∷ Pump ∷ Deliver ∷ Drop
    ∷ Flow ∷ Resend ∷ Arm ∷ Restart ∷ Roll ∷ Checkpoint ∷ []

-- the first word of a line of a form
abbrev pub word_of : Form → List ℕ
word_of Queue = codes "queue"
word_of Commit = codes "commit"
word_of Send = codes "send"
word_of Take = codes "take"
word_of Purge = codes "purge"
word_of Tick = codes "tick"
word_of Connect = codes "connect"
word_of Disconnect = codes "disconnect"
word_of Pump = codes "pump"
word_of Deliver = codes "deliver"
word_of Drop = codes "drop"
word_of Flow = codes "flow"
word_of Resend = codes "resend"
word_of Arm = codes "arm"
word_of Restart = codes "restart"
word_of Roll = codes "roll"
word_of Checkpoint = codes "checkpoint"

abbrev pub form_among : List Form → List ℕ → Option Form
form_among among word = find (λ form. same_bytes (word_of form) word) among

unfoldable pub form_of : List ℕ → Result Form LineKind
form_of word = ok_or (form_among forms word) Word

-- how many words stand behind the first one
abbrev pub has_count : Grammar → Form → ℕ → Bool
has_count grammar Queue n = n == 5 || n == 6
has_count grammar Commit n = nat_le 3 n
has_count grammar Send n = n == 5
has_count grammar Take n = n == 3
has_count grammar Purge n = n == 3
has_count grammar Tick n = n == 2
has_count grammar Connect n = n == 4 + more_words grammar
has_count grammar Disconnect n = n == more_words grammar
has_count grammar Pump n = n == 2
has_count grammar Deliver n = n == 2
has_count grammar Drop n = n == 1
has_count grammar Flow n = n == 2
has_count grammar Resend n = n == 1
has_count grammar Arm n = n == 3
has_count grammar Restart n = n == 2
has_count grammar Roll n = n == 2
has_count grammar Checkpoint n = n == 1
