-- The line of a message: ten words, none of them empty and none with a space in it.
use Rattle.hex.specs.Hex.{encode_lower}
use Rattle.std.specs.Fmt.{decimal}
use Rattle.std.specs.Int.{to_be_bytes, w16}
use Rattle.std.specs.List.{flat_map}
use Rattle.std.specs.Option.{option_map_or}
use Rattle.std.specs.Prelude.{[], ◌++◌, ◌==◌, ◌∷◌, List, Option, codes, if◌then◌else◌, ℕ}
use Rattle.mqb_base.specs.Same.{same_id}
use Rattle.mqb_base.specs.Times.{remaining}
use Rattle.mqb_base.specs.declared.ids.Identity.{Identity}
use Rattle.mqb_base.specs.declared.ids.MessageId.{MessageId}
use Rattle.mqb_base.specs.declared.message.Message.{Message}
use Rattle.mqb_base.specs.declared.queue_names.QueueName.{QueueName}
use Rattle.mqb_base.specs.declared.times.TheConstants.{UNLIMITED}
use Rattle.mqb_forms.specs.Sends.{no_id}
use Rattle.mqb_heads.specs.User.{is_durable, is_transactional}
use Rattle.mqb_names.specs.Printed.{printed}
use Rattle.mqb_transcript.specs.Texts.{class_text, id_text, spaced}
use Rattle.mqb_commands.specs.Lines.{delivery_text}

-- the seconds that are left at a moment of the time to be received, where that has a limit
unfoldable pub seconds_word : (sent life now : ℕ) → List ℕ
seconds_word sent life now =
    if life == UNLIMITED then codes "-" else decimal (remaining sent life now)

-- the queue that answers go to, where there is one
unfoldable pub response_word : Option QueueName → List ℕ
response_word response = option_map_or printed response (codes "-")

-- the message that it is about, where there is one
unfoldable pub correlation_word : List Identity → MessageId → List ℕ
correlation_word hosts id = if same_id id no_id then codes "-" else id_text hosts id

-- bytes in hexadecimal, where there is one
unfoldable pub hex_word : List ℕ → List ℕ
hex_word [] = codes "-"
hex_word (b ∷ bytes) = encode_lower (b ∷ bytes)

-- UTF-16 units as bytes, of each the high one first
abbrev pub unit_bytes : List ℕ → List ℕ
unit_bytes units = flat_map (to_be_bytes w16) units

-- what a message is, and how long it can be received
unfoldable pub head_text : List Identity → (now : ℕ) → Message → List ℕ
head_text hosts now m = id_text hosts m.id ++ spaced (class_text m.class)
    ++ spaced (delivery_text (is_transactional m.delivery) (is_durable m.delivery))
    ++ spaced (decimal m.priority) ++ spaced (seconds_word m.sent m.life now)

-- what its sender says with it
unfoldable pub content_text : List Identity → Message → List ℕ
content_text hosts m = spaced (decimal m.tag) ++ spaced (hex_word (unit_bytes m.label))
    ++ spaced (response_word m.response) ++ spaced (correlation_word hosts m.correlation)
    ++ spaced (hex_word m.body)

unfoldable pub message_line : List Identity → (now : ℕ) → Message → List ℕ
message_line hosts now m = head_text hosts now m ++ content_text hosts m ++ codes "\n"
