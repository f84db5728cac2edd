use Rattle.std.specs.Prelude.{ℕ, Bool, not, nat_lt, length, Option, Some, None, if◌then◌else◌}
use Rattle.mqb_base.specs.declared.draft.Parts.{Parts}
use Rattle.mqb_base.specs.declared.draft.DraftFault.{DraftFault}
use Rattle.mqb_base.specs.declared.draft.DraftFault.TheVariants.{Destination, Priority, Admin}
use Rattle.mqb_base.specs.declared.draft.DraftFault.TheVariants.{Response, Ack, Journal, Label}
use Rattle.mqb_base.specs.declared.bits.TheConstants.{MAX_ACK, MAX_JOURNAL}
use Rattle.mqb_base.specs.declared.message.TheConstants.{MAX_PRIORITY, MAX_LABEL}
use Rattle.mqb_base.specs.QueueNames.{names_queue, absent_or_queue}

-- why no message may be made of parts, the first reason
abbrev pub draft_fault : Parts → Option DraftFault
draft_fault p = if not (names_queue p.destination) then Some Destination
    else if nat_lt MAX_PRIORITY p.priority then Some Priority
    else if not (absent_or_queue p.admin) then Some Admin
    else if not (absent_or_queue p.response) then Some Response
    else if nat_lt MAX_ACK p.ack then Some Ack
    else if nat_lt MAX_JOURNAL p.journal then Some Journal
    else if nat_lt MAX_LABEL (length p.label) then Some Label
    else None
