-- A course in which no disk failed stands behind a network and a medium.
use Rattle.std.specs.Prelude.{◌++◌, ◌≡◌, List, map, ℕ}
use Rattle.mqb_network.specs.Courses.{Course, course_from}
use Rattle.mqb_network.specs.Network.{Network}
use Rattle.mqb_network.specs.Runs.{joined}
use Rattle.mqb_packet.specs.Plain.{plain_spelling}
use Rattle.mqb_posts.specs.Packets.{AreWritable}
use Rattle.mqb_posts.specs.Posting.{IsWithin}
use Rattle.mqb_turns.specs.Counts.{CountsGo}

-- It comes to the network, each manager has had as many records more as were written in it, and
-- each packet that was sent in it is a string of the medium.
pub record ComesTo (c : Course) (counts : ℕ → ℕ) (n_now : Network) (counts_now : ℕ → ℕ)
    (strings strings_now : List (List ℕ)) : Type 0 where
  pub network : c.network ≡ n_now
  pub counted : CountsGo counts counts_now c.written
  pub posted : strings_now ≡ strings ++ map plain_spelling c.sent
  pub writable : AreWritable c.sent
  pub within : IsWithin strings_now

-- What happens in a course joins what was before, and depends on the network alone.
abbrev pub IsJoined : (Course → Course) → Type 0
IsJoined f = (c : Course) → f c ≡ joined c (f (course_from c.network))
