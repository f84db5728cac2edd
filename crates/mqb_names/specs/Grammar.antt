-- Which texts spell a name: its parts, one behind the other.
use Rattle.std.specs.Prelude.{◌≡◌, ℕ, ◌≤◌, Bool, true, List, [], ◌∷◌, ◌++◌, length, codes}
use Rattle.std.specs.List.{list_all}
use Rattle.uuid.specs.Text.{is_hex_digit}
use Rattle.mqb_base.specs.declared.ids.Guid.{Guid}
use Rattle.mqb_base.specs.declared.queue_names.Host.{Host}
use Rattle.mqb_base.specs.declared.queue_names.Host.TheVariants.{Os, Tcp}
use Rattle.mqb_base.specs.declared.queue_names.QueueName.{QueueName}
use Rattle.mqb_base.specs.declared.queue_names.QueueName.TheVariants.{Public, Private}
use Rattle.mqb_base.specs.declared.queue_names.QueueName.TheVariants.{Direct, Machine}
use Rattle.mqb_names.specs.Printed.{backslash, path, printed_address, printed_guid}
use Rattle.mqb_names.specs.Printed.{printed_journal, printed_kind}
use Rattle.mqb_names.specs.Parts.{same_word, hex_number}

-- a text of the first form, and one of the second behind it
infixr 10 ◌then◌
abbrev pub ◌then◌ : (List ℕ → Type 0) → (List ℕ → Type 0) → List ℕ → Type 0
(First then Second) text =
    (first : List ℕ) × (second : List ℕ) × (first ++ second ≡ text) × First first × Second second

-- these bytes
abbrev pub Exactly : List ℕ → List ℕ → Type 0
Exactly bytes text = text ≡ bytes

-- this word, its letters in either case
abbrev pub Word : List ℕ → List ℕ → Type 0
Word word text = same_word text word ≡ true

-- a GUID as it is printed, its letters in either case
abbrev pub GuidText : Guid → List ℕ → Type 0
GuidText guid = Word (printed_guid guid)

-- one to eight hexadecimal digits, in either case, that stand for a number
abbrev pub Digits : ℕ → List ℕ → Type 0
Digits number text = (1 ≤ length text) × (length text ≤ 8) × (list_all is_hex_digit text ≡ true)
    × (hex_number text ≡ number)

-- a host behind its protocol
abbrev pub HostText : Host → List ℕ → Type 0
HostText (Os name) = Word (codes "OS:") then Exactly name
HostText (Tcp address) = Word (codes "TCP:") then Exactly (printed_address address)

-- nothing, or the suffix of a queue's journal
abbrev pub JournalText : Bool → List ℕ → Type 0
JournalText journal = Word (printed_journal journal)

-- the text is a spelling of the name
abbrev pub IsText : List ℕ → QueueName → Type 0
IsText text (Public guid journal) =
    (Word (codes "PUBLIC=") then GuidText guid then JournalText journal) text
IsText text (Private qm number journal) =
    (Word (codes "PRIVATE=") then GuidText qm then Word (backslash ∷ []) then Digits number
    then JournalText journal) text
IsText text (Direct host queue journal) = (Word (codes "DIRECT=") then HostText host then Word path
    then Exactly queue then JournalText journal) text
IsText text (Machine qm kind) =
    (Word (codes "MACHINE=") then GuidText qm then Word (printed_kind kind)) text
