-- The event restart: a manager is dropped and started again over its store.
use Rattle.std.specs.Prelude.{false, if◌then◌else◌, ℕ}
use Rattle.mqb_model.specs.managers.Manager.{is_down}
use Rattle.mqb_model.specs.managers.Restarts.{lines_in_doubt}
use Rattle.mqb_network.specs.Answers.{Answer}
use Rattle.mqb_network.specs.Changes.{ended, restarted_at, unread_at}
use Rattle.mqb_network.specs.Choices.{Choice, Failed, Kept, Unread}
use Rattle.mqb_network.specs.Courses.{Course, found_kept, moved}
use Rattle.mqb_network.specs.Network.{Network, manager_at}
use Rattle.mqb_network.specs.Replies as reply

-- the store has no more than before
abbrev pub opened : Network → ℕ → reply.Reply
opened n i = if is_down (manager_at n i) then reply.OpenedLost else reply.Opened

-- its connection has ended
abbrev pub reopen : ℕ → Choice → Course → Answer
reopen i Unread c = record { reply = reply.DiskFailed Failed; after = moved (unread_at i) c }
reopen i Kept c = record {
  reply = reply.OpenedKept (lines_in_doubt (manager_at c.network i));
  after = found_kept i c;
}
reopen i _ c = record { reply = opened c.network i; after = moved (restarted_at i false) c }

-- the event
abbrev pub restart : ℕ → Choice → Course → Answer
restart i choice c = reopen i choice (moved (ended i) c)
