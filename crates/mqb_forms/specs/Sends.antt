-- The steps of a transaction: each is one word, its fields between commas.
use Rattle.std.specs.Prelude.{◌≡◌, ℕ, Bool, true, false, ◌/◌, ◌%◌, ◌^◌, ◌==◌, ◌&&◌, not, nat_le}
use Rattle.std.specs.Prelude.{List, [], ◌∷◌, drop, codes, Option, Some, None, find, position, ok_or}
use Rattle.std.specs.Prelude.{Result, Ok, Err, replicate, if◌then◌else◌}
use Rattle.std.specs.List.{list_all, starts_with, filter_map, range_with_len, slice_get}
use Rattle.std.specs.Option.{option_map}
use Rattle.mqb_base.specs.declared.ids.MessageId.{MessageId}
use Rattle.mqb_base.specs.declared.queue_names.QueueName.{QueueName}
use Rattle.mqb_base.specs.declared.draft.Parts.{Parts}
use Rattle.mqb_base.specs.declared.draft.Op.{Op}
use Rattle.mqb_base.specs.declared.draft.Op.TheVariants.{Send, Take}
use Rattle.mqb_base.specs.QueueNames.{names_queue, absent_or_queue}
use Rattle.mqb_base.specs.Same.{same_bytes}
use Rattle.mqb_fields.specs.Reading.{◌>>=◌}
use Rattle.mqb_names.specs.declared.faults.PartFault.{PartFault}
use Rattle.mqb_names.specs.Reading as names
use Rattle.mqb_forms.specs.declared.faults.LineKind.{LineKind}
use Rattle.mqb_forms.specs.declared.faults.LineKind.TheVariants.{Value}
use Rattle.mqb_forms.specs.declared.sends.Names.{Names}
use Rattle.mqb_forms.specs.declared.sends.Terms.{Terms}
use Rattle.mqb_forms.specs.Faults.{only_if}
use Rattle.mqb_forms.specs.Words.{fields_of, number_in}
use Rattle.mqb_forms.specs.Values.{MOST, name_of}

abbrev pub is_dash : List ℕ → Bool
is_dash word = same_bytes word (codes "-")

-- Names of queues, in whatever spelling.

abbrev pub queue_name : Result QueueName PartFault → Result QueueName LineKind
queue_name (Ok name) = only_if (names_queue name) (Ok name)
queue_name (Err fault) = Err Value

-- a name of a queue, and of no journal and no machine's queue
unfoldable pub destination_of : List ℕ → Result QueueName LineKind
destination_of word = queue_name (names.name_of word)

abbrev pub some_destination : List ℕ → Result (Option QueueName) LineKind
some_destination word = do
  name ← destination_of word
  Ok (Some name)

unfoldable pub optional_of : List ℕ → Result (Option QueueName) LineKind
optional_of word = if is_dash word then Ok None else some_destination word

-- Times.

-- the greatest time that is no unlimited one
abbrev pub MOST_SECONDS : ℕ
MOST_SECONDS = 4294967294

unfoldable pub seconds_of : List ℕ → Result ℕ LineKind
seconds_of word = if is_dash word then Ok MOST else number_in 0 MOST_SECONDS word

-- Flags.

-- the letters of flags, in the order in which they stand: the bits of a journal, and then those
-- of an acknowledgement
abbrev pub flag_letters : List ℕ
flag_letters = codes "djprnm"

-- the bit of a letter
abbrev pub flag_bit : ℕ → Result ℕ LineKind
flag_bit letter =
    ok_or (option_map (λ place. 2 ^ place) (position (λ l. l == letter) flag_letters)) Value

abbrev pub has_flag : ℕ → ℕ → Bool
has_flag flags place = flags / 2 ^ place % 2 == 1

-- the letters of flags, each at most once and in their order
abbrev pub letters_of : ℕ → List ℕ
letters_of flags =
    filter_map (λ place. if has_flag flags place then slice_get flag_letters place else None)
    (range_with_len 0 6)

abbrev pub flags_text : ℕ → List ℕ
flags_text flags = if flags == 0 then codes "-" else letters_of flags

-- the flags that a word spells
unfoldable pub flags_of : List ℕ → Result ℕ LineKind
flags_of word =
    ok_or (find (λ flags. same_bytes (flags_text flags) word) (range_with_len 0 64)) Value

abbrev pub journal_bits : ℕ → ℕ
journal_bits flags = flags % 4

abbrev pub ack_bits : ℕ → ℕ
ack_bits flags = flags / 4

-- Bodies.

-- printable, and neither space nor comma
abbrev pub is_body_byte : ℕ → Bool
is_body_byte b = (nat_le 0x21 b && nat_le b 0x7E) && not (b == 0x2C)

abbrev pub is_starred : List ℕ → Bool
is_starred text = starts_with ◌==◌ text (codes "*")

-- the greatest number behind a star
abbrev pub MOST_COUNTED : ℕ
MOST_COUNTED = 4194304

-- a body that is told by the number of its bytes, each of them 0x78
abbrev pub counted_body : List ℕ → Result (List ℕ) LineKind
counted_body number = do
  count ← number_in 0 MOST_COUNTED number
  Ok (replicate count 0x78)

-- the body that a text stands for: behind a star the number of its bytes, and without a star the
-- text itself, where it is printable
unfoldable pub body_of : List ℕ → Result (List ℕ) LineKind
body_of text = if is_starred text then counted_body (drop 1 text)
    else only_if (list_all is_body_byte text) (Ok text)

-- Sends.

abbrev pub no_id : MessageId
no_id = record { qm = record { 0 = replicate 16 0 }; number = 0 }

unfoldable pub names_from : List ℕ → List ℕ → List ℕ → Result Names LineKind
names_from destination admin response = do
  to ← destination_of destination
  tells ← optional_of admin
  answers ← optional_of response
  Ok (record { destination = to; admin = tells; response = answers })

unfoldable pub terms_from : List ℕ → List ℕ → List ℕ → Result Terms LineKind
terms_from reach life flags = do
  reaches ← seconds_of reach
  lives ← seconds_of life
  bits ← flags_of flags
  Ok (record { reach = reaches; life = lives; flags = bits })

abbrev pub AreQueues : Names → Type 0
AreQueues names = (names_queue names.destination ≡ true) × (absent_or_queue names.admin ≡ true)
    × (absent_or_queue names.response ≡ true)

-- a message without label and extension, and with 0 in what no field tells
abbrev pub parts_of : ℕ → Names → Terms → List ℕ → Parts
parts_of priority names terms body = record {
  destination = names.destination;
  priority = priority;
  reach = terms.reach;
  life = terms.life;
  admin = names.admin;
  response = names.response;
  ack = ack_bits terms.flags;
  journal = journal_bits terms.flags;
  correlation = no_id;
  body_type = 0;
  tag = 0;
  label = [];
  extension = [];
  body = body;
}

unfoldable pub message_of : ℕ → List ℕ → List ℕ → List ℕ → List ℕ → List ℕ → List ℕ → List ℕ
    → Result Parts LineKind
message_of priority destination reach life flags admin response text = do
  names ← names_from destination admin response
  terms ← terms_from reach life flags
  body ← body_of text
  Ok (parts_of priority names terms body)

-- the message of this priority that the fields behind `send` describe
unfoldable pub parts_from : ℕ → List (List ℕ) → Result Parts LineKind
parts_from priority (destination ∷ reach ∷ life ∷ flags ∷ admin ∷ response ∷ text ∷ []) =
    message_of priority destination reach life flags admin response text
parts_from priority _ = Err Value

unfoldable pub send_from : ℕ → List (List ℕ) → Result Parts LineKind
send_from priority [] = Err Value
send_from priority (word ∷ fields) =
    only_if (same_bytes word (codes "send")) (parts_from priority fields)

-- the message of this priority that a word describes
unfoldable pub send_of : ℕ → List ℕ → Result Parts LineKind
send_of priority word = send_from priority (fields_of word)

unfoldable pub take_from : List (List ℕ) → Result Op LineKind
take_from (name ∷ []) = do
  queue ← name_of name
  Ok (Take queue)
take_from _ = Err Value

-- a send of a transaction has priority 0
abbrev pub sending : List (List ℕ) → Result Op LineKind
sending fields = do
  parts ← send_from 0 fields
  Ok (Send parts)

abbrev pub is_take : List (List ℕ) → Bool
is_take [] = false
is_take (word ∷ fields) = same_bytes word (codes "take")

-- a step of a transaction, from the fields of its word
unfoldable pub op_from : List (List ℕ) → Result Op LineKind
op_from fields = if is_take fields then take_from (drop 1 fields) else sending fields

-- a step of a transaction, which is a word
unfoldable pub op_of : List ℕ → Result Op LineKind
op_of word = op_from (fields_of word)

-- the steps that words are, in order
unfoldable pub ops_of : List (List ℕ) → Result (List Op) LineKind
ops_of [] = Ok []
ops_of (word ∷ words) = do
  op ← op_of word
  ops ← ops_of words
  Ok (op ∷ ops)
