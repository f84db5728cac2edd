-- What can be told.
use Rattle.std.specs.Prelude.{◌≡◌, Ok}
use Rattle.mqb_network.specs.Replies as network
use Rattle.mqb_transcript.specs.declared.replies.Reply.{Reply}
use Rattle.mqb_runs.specs.Replies.{told}

-- an answer of a network has a reply
abbrev pub IsTold : network.Reply → Type 0
IsTold r = (given : Reply) × (told r ≡ Ok given)
