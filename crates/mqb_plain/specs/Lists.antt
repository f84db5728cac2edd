-- A list of plain messages for one peer, and which of them were sent in this connection.
use Rattle.std.specs.List.{filter_map}
use Rattle.std.specs.Prelude.{ℕ, ◌<◌, ◌≤◌, Bool, true, false, is_none, nat_le, max, List, [], ◌∷◌}
use Rattle.std.specs.Prelude.{length, map, find, fold, All, IsNone, MatchOption, Option, Some, None}
use Rattle.std.specs.Prelude.{option_map, unwrap_or, if◌then◌else◌}
use Rattle.mqb_base.specs.declared.message.Message.{Message}
use Rattle.mqb_plain.specs.declared.outgoing.Outgoing.{Outgoing}

abbrev pub messages_of : List Outgoing → List Message
messages_of items = map (λ o. o.message) items

-- the numbers of the messages that were sent
abbrev pub marks_of : List Outgoing → List ℕ
marks_of items = filter_map (λ o. o.mark) items

abbrev pub unsent : Message → Outgoing
unsent message = record { message = message; mark = None }

-- the first message that was not sent in this connection
abbrev pub first_unsent : List Outgoing → Option Message
first_unsent items = option_map (λ o. o.message) (find (λ o. is_none o.mark) items)

-- the list once its first unsent message was sent with a number
abbrev pub marked_next : ℕ → List Outgoing → List Outgoing
marked_next number [] = []
marked_next number (o ∷ items) =
    if is_none o.mark then record o { mark = Some number } ∷ items else o ∷ marked_next number items

-- the greatest number of a sent message, or 0
abbrev pub greatest_mark : List Outgoing → ℕ
greatest_mark items = fold (λ n o. max n (unwrap_or o.mark 0)) 0 items

-- the list in a new connection
abbrev pub unmarked : List Outgoing → List Outgoing
unmarked items = map (λ o. unsent o.message) items

abbrev pub at_most : ℕ → Option ℕ → Bool
at_most number None = false
at_most number (Some mark) = nat_le mark number

-- sent in this connection with a number up to this one
abbrev pub is_sent_by : ℕ → Outgoing → Bool
is_sent_by number o = at_most number o.mark

-- The numbers of sent messages rise from above low, and nothing behind an unsent message was sent.
abbrev pub RisesFrom : ℕ → List Outgoing → Type 0
RisesFrom low [] = Unit {0}
RisesFrom low (o ∷ items) = MatchOption o.mark (All (λ p. IsNone p.mark) items)
    (λ mark. (low < mark) × RisesFrom mark items)

-- The sent messages come first, and their numbers rise from 1 on.
abbrev pub InOrder : List Outgoing → Type 0
InOrder items = RisesFrom 0 items

-- messages of which the first ones were sent with these numbers
abbrev pub marked : List Message → List ℕ → List Outgoing
marked [] marks = []
marked (m ∷ messages) [] = unsent m ∷ marked messages []
marked (m ∷ messages) (k ∷ marks) = record { message = m; mark = Some k } ∷ marked messages marks

-- numbers that rise from above low
abbrev pub Rising : ℕ → List ℕ → Type 0
Rising low [] = Unit {0}
Rising low (k ∷ marks) = (low < k) × Rising k marks

-- There is room for as many numbers as messages.
pub record IsList (messages : List Message) (marks : List ℕ)
    (message_room mark_room : ℕ) : Type 0 where
  pub first_sent : length marks ≤ length messages
  pub rising : Rising 0 marks
  pub within : length messages ≤ message_room
  pub mark_fits : message_room ≤ mark_room
