-- The lines of places and rows.
use Rattle.std.specs.List.{flat_map}
use Rattle.std.specs.Prelude.{◌++◌, [], ◌∷◌, List, codes, if◌then◌else◌, ℕ}
use Rattle.std.specs.Fmt.{decimal}
use Rattle.mqb_base.specs.declared.ids.Identity.{Identity}
use Rattle.mqb_base.specs.declared.message.Message.{Message}
use Rattle.mqb_base.specs.declared.queue_names.QueueName.{QueueName}
use Rattle.mqb_names.specs.Printed.{printed}
use Rattle.mqb_orders.specs.Rows.{Row}
use Rattle.mqb_orders.specs.declared.rows.InRow.{InRow}
use Rattle.mqb_queue.specs.Lists.{Lists}
use Rattle.mqb_queue.specs.Places.{Places, Queue}
use Rattle.mqb_transcript.specs.Texts.{id_text, manager_text, numbers_text, spaced}

-- a line of a host
unfoldable pub host_line : List ℕ → List ℕ → List ℕ
host_line host text = host ++ spaced text ++ codes "\n"

-- the identifiers of messages
unfoldable pub ids_text : List Identity → List Message → List ℕ
ids_text hosts messages = flat_map (λ m. spaced (id_text hosts m.id)) messages

-- those of a place, durable messages before express ones
unfoldable pub held_text : List Identity → Lists → List ℕ
held_text hosts held = ids_text hosts held.durable ++ ids_text hosts held.express

-- the line of a place
abbrev pub place_line : List Identity → List ℕ → List ℕ → Lists → List ℕ
place_line hosts host place held = host_line host (place ++ held_text hosts held)

-- the line of a queue, and that of its journal where it keeps one
unfoldable pub queue_lines : List Identity → List ℕ → Queue → List ℕ
queue_lines hosts host q = place_line hosts host (codes "queue " ++ q.plan.name) q.lists
    ++ (if q.plan.journal then place_line hosts host (codes "journalof " ++ q.plan.name) q.journal
    else [])

-- the lines of the places that every manager has
unfoldable pub machine_lines : List Identity → List ℕ → Places → List ℕ
machine_lines hosts host s = place_line hosts host (codes "dead") s.dead
    ++ place_line hosts host (codes "deadxact") s.dead_xact
    ++ place_line hosts host (codes "journal") s.journal

-- where a row leads, and its numbers
unfoldable pub route_text : QueueName → List ℕ → List ℕ
route_text destination numbers = spaced (printed destination) ++ numbers_text numbers

-- the line of an outgoing row: its ordinal, where it leads, and how far it was committed,
-- offered and acknowledged
unfoldable pub out_line : List ℕ → Row → List ℕ
out_line host row = host_line host (codes "out " ++ decimal row.sequence.ordinal
    ++ route_text row.destination (row.committed ∷ row.offered ∷ row.acked ∷ []))

-- the line of an incoming row: its source, where it leads, its ordinal, and the last
-- number that was decided
unfoldable pub in_line : List Identity → List ℕ → InRow → List ℕ
in_line hosts host row = host_line host (codes "in " ++ manager_text hosts row.source
    ++ route_text row.destination (row.sequence.ordinal ∷ row.last ∷ []))
