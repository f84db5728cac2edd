use Rattle.std.specs.Prelude.{ℕ, ◌+◌, ◌/◌, ◌%◌, ◌^◌, Bool, true, false, List, [], ◌∷◌, ◌++◌, map}
use Rattle.std.specs.Prelude.{slice_index, nat_lt, codes}
use Rattle.uuid.specs.Text.{lower, hex_digit, hyphenated_text}
use Rattle.mqb_base.specs.declared.ids.Guid.{Guid}
use Rattle.mqb_base.specs.declared.queue_names.Host.{Host}
use Rattle.mqb_base.specs.declared.queue_names.Host.TheVariants.{Os, Tcp}
use Rattle.mqb_base.specs.declared.queue_names.MachineQueue.{MachineQueue}
use Rattle.mqb_base.specs.declared.queue_names.MachineQueue.TheVariants.{DeadLetter, DeadXact}
use Rattle.mqb_base.specs.declared.queue_names.MachineQueue.TheVariants.{Journal}
use Rattle.mqb_base.specs.declared.queue_names.QueueName.{QueueName}
use Rattle.mqb_base.specs.declared.queue_names.QueueName.TheVariants.{Public, Private}
use Rattle.mqb_base.specs.declared.queue_names.QueueName.TheVariants.{Direct, Machine}

abbrev pub backslash : ℕ
backslash = 0x5C

abbrev pub dot : ℕ
dot = 0x2E

-- the text between host and queue
abbrev pub path : List ℕ
path = backslash ∷ codes "PRIVATE$" ++ backslash ∷ []

abbrev pub printed_guid : Guid → List ℕ
printed_guid guid = hyphenated_text lower guid.0

-- eight hexadecimal digits
abbrev pub printed_number : ℕ → List ℕ
printed_number number =
    map (λ place. hex_digit lower (number / 16 ^ place % 16)) (7 ∷ 6 ∷ 5 ∷ 4 ∷ 3 ∷ 2 ∷ 1 ∷ 0 ∷ [])

-- a byte of one, two or three decimal digits
abbrev pub decimal_octet : (one two : Bool) → ℕ → List ℕ
decimal_octet true two n = (48 + n) ∷ []
decimal_octet false true n = (48 + n / 10) ∷ (48 + n % 10) ∷ []
decimal_octet false false n = (48 + n / 100) ∷ (48 + n / 10 % 10) ∷ (48 + n % 10) ∷ []

-- a byte in decimal
abbrev pub printed_octet : ℕ → List ℕ
printed_octet n = decimal_octet (nat_lt n 10) (nat_lt n 100) n

abbrev pub printed_address : List ℕ → List ℕ
printed_address a =
    printed_octet (slice_index a 0) ++ dot ∷ printed_octet (slice_index a 1)
    ++ dot ∷ printed_octet (slice_index a 2) ++ dot ∷ printed_octet (slice_index a 3)

abbrev pub printed_host : Host → List ℕ
printed_host (Os name) = codes "OS:" ++ name
printed_host (Tcp address) = codes "TCP:" ++ printed_address address

-- a direct name behind DIRECT=
abbrev pub printed_direct : Host → List ℕ → List ℕ
printed_direct host queue = printed_host host ++ path ++ queue

abbrev pub printed_journal : Bool → List ℕ
printed_journal true = codes ";JOURNAL"
printed_journal false = []

abbrev pub printed_kind : MachineQueue → List ℕ
printed_kind DeadLetter = codes ";DEADLETTER"
printed_kind DeadXact = codes ";DEADXACT"
printed_kind Journal = codes ";JOURNAL"

-- the one form in which a name is printed
abbrev pub printed : QueueName → List ℕ
printed (Public guid journal) = codes "PUBLIC=" ++ printed_guid guid ++ printed_journal journal
printed (Private qm number journal) = codes "PRIVATE=" ++ printed_guid qm
    ++ backslash ∷ printed_number number ++ printed_journal journal
printed (Direct host queue journal) =
    codes "DIRECT=" ++ printed_direct host queue ++ printed_journal journal
printed (Machine qm kind) = codes "MACHINE=" ++ printed_guid qm ++ printed_kind kind
