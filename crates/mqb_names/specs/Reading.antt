-- What a text is read as, part by part from the left.
use Rattle.std.specs.Prelude.{◌≡◌, ℕ, ◌+◌, Bool, true, false, ◌&&◌, ◌==◌, nat_le, nat_lt, List, []}
use Rattle.std.specs.Prelude.{◌∷◌, length, drop, Option, Some, None, option_map, Result, Ok, Err}
use Rattle.std.specs.Prelude.{IsOk, codes, if◌then◌else◌}
use Rattle.std.specs.List.{before_first}
use Rattle.mqb_base.specs.declared.ids.Guid.{Guid}
use Rattle.mqb_base.specs.declared.queue_names.Host.{Host}
use Rattle.mqb_base.specs.declared.queue_names.Host.TheVariants.{Os, Tcp}
use Rattle.mqb_base.specs.declared.queue_names.MachineQueue.{MachineQueue}
use Rattle.mqb_base.specs.declared.queue_names.MachineQueue.TheVariants.{DeadLetter, DeadXact}
use Rattle.mqb_base.specs.declared.queue_names.MachineQueue.TheVariants.{Journal}
use Rattle.mqb_base.specs.declared.queue_names.QueueName.{QueueName}
use Rattle.mqb_base.specs.declared.queue_names.QueueName.TheVariants.{Public, Private}
use Rattle.mqb_base.specs.declared.queue_names.QueueName.TheVariants.{Direct, Machine}
use Rattle.mqb_fields.specs.Reading.{◌>>=◌, Reading, rest_of, moved}
use Rattle.mqb_names.specs.declared.faults.NameKind.{NameKind}
use Rattle.mqb_names.specs.declared.faults.NameKind.TheVariants as part
use Rattle.mqb_names.specs.declared.faults.NameFault.{NameFault}
use Rattle.mqb_names.specs.declared.faults.PartFault.{PartFault}
use Rattle.mqb_names.specs.declared.faults.NameFault.TheVariants as fault
use Rattle.mqb_names.specs.Printed.{backslash, path}
use Rattle.mqb_names.specs.Parts.{begins, same_word, guid_of, is_stop, is_name, hex_digits}
use Rattle.mqb_names.specs.Parts.{hex_number, address_of}

-- the part that begins here fails
abbrev pub bad : {X : Type 0} → Reading → NameKind → Result X PartFault
bad r kind = Err (record { at = r.at; kind = kind })

-- the value of the next count bytes, where they have one
abbrev pub or_bad : {X : Type 0} → Option X → ℕ → Reading → NameKind
    → Result (X × Reading) PartFault
or_bad (Some x) count r kind = Ok (x, moved count r)
or_bad None count r kind = bad r kind

abbrev pub word_at : List ℕ → NameKind → Reading → Result Reading PartFault
word_at word kind r = if begins (rest_of r) word then Ok (moved (length word) r) else bad r kind

abbrev pub guid_at : Reading → Result (Guid × Reading) PartFault
guid_at r = or_bad (option_map (λ bytes. record { 0 = bytes }) (guid_of (rest_of r))) 36 r part.Guid

-- a backslash and one to eight hexadecimal digits
abbrev pub number_at : Reading → Result (ℕ × Reading) PartFault
number_at r = let digits = hex_digits (drop 1 (rest_of r)) in
    if begins (rest_of r) (backslash ∷ []) && nat_lt 0 (length digits) && nat_le (length digits) 8
    then Ok (hex_number digits, moved (1 + length digits) r)
    else bad r part.Number

-- the bytes before the next backslash or semicolon
abbrev pub name_at : NameKind → Reading → Result (List ℕ × Reading) PartFault
name_at kind r =
    let name = before_first is_stop (rest_of r) in
    if is_name name then Ok (name, moved (length name) r) else bad r kind

abbrev pub os_at : Reading → Result (Host × Reading) PartFault
os_at r = do
  name ← name_at part.Host r
  Ok (Os name.0, name.1)

abbrev pub tcp_at : Reading → Result (Host × Reading) PartFault
tcp_at r =
    let text = before_first is_stop (rest_of r) in
    or_bad (option_map (λ address. Tcp address) (address_of text)) (length text) r part.Host

abbrev pub host_at : Reading → Result (Host × Reading) PartFault
host_at r = if begins (rest_of r) (codes "OS:") then os_at (moved 3 r)
    else if begins (rest_of r) (codes "TCP:") then tcp_at (moved 4 r)
    else bad r part.Protocol

-- host and queue of a direct name
unfoldable pub direct_at : Reading → Result ((Host × List ℕ) × Reading) PartFault
direct_at r = do
  host ← host_at r
  behind ← word_at path part.Path host.1
  queue ← name_at part.Queue behind
  Ok ((host.0, queue.0), queue.1)

-- whether the rest says that a queue's journal is meant
abbrev pub journal_at : Reading → Result Bool PartFault
journal_at r = if length (rest_of r) == 0 then Ok false
    else if same_word (rest_of r) (codes ";JOURNAL") then Ok true
    else bad r part.Suffix

-- which queue of a machine the rest says
abbrev pub kind_at : Reading → Result MachineQueue PartFault
kind_at r = if same_word (rest_of r) (codes ";DEADLETTER") then Ok DeadLetter
    else if same_word (rest_of r) (codes ";DEADXACT") then Ok DeadXact
    else if same_word (rest_of r) (codes ";JOURNAL") then Ok Journal
    else bad r part.Suffix

unfoldable pub public_at : Reading → Result QueueName PartFault
public_at r = do
  guid ← guid_at r
  journal ← journal_at guid.1
  Ok (Public guid.0 journal)

unfoldable pub private_at : Reading → Result QueueName PartFault
private_at r = do
  qm ← guid_at r
  number ← number_at qm.1
  journal ← journal_at number.1
  Ok (Private qm.0 number.0 journal)

unfoldable pub direct_name_at : Reading → Result QueueName PartFault
direct_name_at r = do
  direct ← direct_at r
  journal ← journal_at direct.1
  Ok (Direct direct.0.0 direct.0.1 journal)

unfoldable pub machine_at : Reading → Result QueueName PartFault
machine_at r = do
  qm ← guid_at r
  kind ← kind_at qm.1
  Ok (Machine qm.0 kind)

-- the name that a text is, or the first of its parts that fails
abbrev pub name_from : Reading → Result QueueName PartFault
name_from r = if begins (rest_of r) (codes "PUBLIC=") then public_at (moved 7 r)
    else if begins (rest_of r) (codes "PRIVATE=") then private_at (moved 8 r)
    else if begins (rest_of r) (codes "DIRECT=") then direct_name_at (moved 7 r)
    else if begins (rest_of r) (codes "MACHINE=") then machine_at (moved 8 r)
    else bad r part.Prefix

abbrev pub name_of : List ℕ → Result QueueName PartFault
name_of text = name_from (record { bytes = text; at = 0 })

-- A call answered what reading gives, or wanted memory for what it gives.
abbrev pub Gives : {X : Type 0} → Result X PartFault → Result X NameFault → Type 0
Gives read (Ok x) = read ≡ Ok x
Gives read (Err fault.Memory) = IsOk read
Gives read (Err (fault.Bad at kind)) = read ≡ Err (record { at = at; kind = kind })
