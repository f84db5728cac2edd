-- What single words stand for that no line of a script has.
use Rattle.std.specs.Prelude.{ℕ, ◌==◌, List, [], ◌∷◌, Option, None, Some, Result, Ok, Err}
use Rattle.std.specs.List.{slice_split}
use Rattle.mqb_base.specs.declared.ids.Identity.{Identity}
use Rattle.mqb_fields.specs.Reading.{◌>>=◌}
use Rattle.mqb_forms.specs.declared.faults.LineKind.{LineKind}
use Rattle.mqb_forms.specs.declared.faults.LineKind.TheVariants.{Value}
use Rattle.mqb_forms.specs.Words.{number_in}
use Rattle.mqb_forms.specs.Values.{name_of, guid_of}

-- the most orders of a script that is made, or tried
abbrev pub MOST_ORDERS : ℕ
MOST_ORDERS = 10000

abbrev pub orders_of : List ℕ → Result ℕ LineKind
orders_of word = number_in 1 MOST_ORDERS word

-- the most connections that are served
abbrev pub MOST_CONNECTIONS : ℕ
MOST_CONNECTIONS = 1000000

abbrev pub connections_of : List ℕ → Result ℕ LineKind
connections_of word = number_in 1 MOST_CONNECTIONS word

-- the most messages that are shown, which is as many as a place holds
abbrev pub MOST_MESSAGES : ℕ
MOST_MESSAGES = 4294967295

abbrev pub messages_of : List ℕ → Result ℕ LineKind
messages_of word = number_in 1 MOST_MESSAGES word

-- a count of messages, or one
unfoldable pub count_in : List (List ℕ) → Result ℕ LineKind
count_in [] = Ok 1
count_in (count ∷ []) = messages_of count
count_in _ = Err Value

-- how many seconds a fetch waits where no word says it
abbrev pub SECONDS : ℕ
SECONDS = 5

-- the most of them
abbrev pub MOST_SECONDS : ℕ
MOST_SECONDS = 3600

abbrev pub seconds_of : List ℕ → Result ℕ LineKind
seconds_of word = number_in 1 MOST_SECONDS word

-- Addresses.

abbrev pub octet_of : List ℕ → Result ℕ LineKind
octet_of word = number_in 0 255 word

unfoldable pub address_from : List (List ℕ) → Result (List ℕ) LineKind
address_from (first ∷ second ∷ third ∷ fourth ∷ []) = do
  a ← octet_of first
  b ← octet_of second
  c ← octet_of third
  d ← octet_of fourth
  Ok (a ∷ b ∷ c ∷ d ∷ [])
address_from _ = Err Value

-- four numbers from 0 to 255, between dots
unfoldable pub address_of : List ℕ → Result (List ℕ) LineKind
address_of word = address_from (slice_split (λ b. b == 0x2E) word)

-- an address, or none
unfoldable pub address_in : List (List ℕ) → Result (Option (List ℕ)) LineKind
address_in [] = Ok None
address_in (address ∷ []) = do
  at ← address_of address
  Ok (Some at)
address_in _ = Err Value

-- one word is seconds, or else an address
abbrev pub either_of : List ℕ → Result ℕ LineKind → Result (Option (List ℕ) × ℕ) LineKind
either_of word (Ok seconds) = Ok (None, seconds)
either_of word (Err why) = do
  at ← address_of word
  Ok (Some at, SECONDS)

-- an address, seconds, both in this order, or neither
unfoldable pub wait_in : List (List ℕ) → Result (Option (List ℕ) × ℕ) LineKind
wait_in [] = Ok (None, SECONDS)
wait_in (word ∷ []) = either_of word (seconds_of word)
wait_in (address ∷ seconds ∷ []) = do
  at ← address_of address
  wait ← seconds_of seconds
  Ok (Some at, wait)
wait_in _ = Err Value

-- a manager, by its host, its GUID and its address
unfoldable pub identity_of : List ℕ → List ℕ → List ℕ → Result Identity LineKind
identity_of host guid address = do
  name ← name_of host
  id ← guid_of guid
  at ← address_of address
  Ok (record { host = name; guid = id; address = at })
