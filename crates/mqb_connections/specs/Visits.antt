-- Connections that were served one after another.
use Rattle.std.specs.Fmt.{decimal}
use Rattle.std.specs.Prelude.{[], ◌+◌, ◌++◌, ◌∷◌, ◌≡◌, Err, IfSome, List, Option, codes, map}
use Rattle.std.specs.Prelude.{option_map, ℕ}
use Rattle.mqb_commands.specs.Opened.{IsMoment}
use Rattle.mqb_outside.specs.Net.{Ended}
use Rattle.mqb_journal.specs.Causes.{FaultsAsSaid}
use Rattle.mqb_manager.specs.States.{ManagerState}
use Rattle.mqb_serve.specs.Talking.{stored_of}
use Rattle.mqb_serving.specs.declared.purpose.Purpose.{Purpose}
use Rattle.mqb_serving.specs.Serving.{Answer, Serves, ServesWhole, is_read_fault, is_write_fault}
use Rattle.mqb_serving.specs.declared.faults.ConnFault.TheVariants as fault
use Rattle.mqb_commands.specs.Texts.{end_text}

-- a connection that was served and taken back: its moment, what the net tells of it, how it ended,
-- and the manager behind it
pub record Visit : Type 0 where
  pub now : ℕ
  pub ended : Ended
  pub end : Answer
  pub after : ManagerState

-- A manager served it, from the first byte that it held to its end.
pub record IsVisit (asks : Purpose) (steady : Option ℕ) (m : ManagerState)
    (v : Visit) : Type 0 where
  pub moment : IsMoment steady v.now
  -- what was sent on it before, which is nothing where it tells that
  pub sent : Option (List ℕ)
  pub fresh : IfSome sent (λ text. text ≡ [])
  pub serves : Serves asks v.now (stored_of m)
      (stored_of v.after) v.ended.given v.ended.held sent v.ended.taken v.end
  pub whole : ServesWhole v.end asks v.now (stored_of m)
      (stored_of v.after) v.ended.given sent v.ended.taken
  pub reads : FaultsAsSaid is_read_fault 0 v.ended.read_faults v.end
  pub writes : FaultsAsSaid is_write_fault 0 v.ended.write_faults v.end

-- connections one after another, the first served by the manager m, and each other by the one that
-- the connection before it left, up to n
abbrev pub Visits : Purpose → Option ℕ → ManagerState → List Visit → ManagerState → Type 0
Visits asks steady m [] n = n ≡ m
Visits asks steady m (v ∷ visits) n = IsVisit asks steady m v × Visits asks steady v.after visits n

-- the net tells them as finished, behind those before
abbrev pub AreFinished : (before after : Option (List Ended)) → List Visit → Type 0
AreFinished before after visits =
    after ≡ option_map (λ ended. ended ++ map (λ v. v.ended) visits) before

-- The next connection was served from m to n, and ended so; and the net tells it as finished.
pub record IsNext (asks : Purpose) (steady : Option ℕ) (m n : ManagerState)
    (before after : Option (List Ended)) (end : Answer) : Type 0 where
  pub visit : Visit
  pub is : IsVisit asks steady m visit
  pub left : visit.after ≡ n
  pub ended : visit.end ≡ end
  pub finished : AreFinished before after (visit ∷ [])

-- a connection's number and how it ended
unfoldable pub said_line : ℕ → Answer → List ℕ
said_line number end =
    codes "connection " ++ decimal number ++ codes ": " ++ end_text end ++ codes "\n"

-- The line of a connection: its number and how it ended. There is none where the disk
-- failed or memory ran out.
unfoldable pub end_line : ℕ → Answer → List ℕ
end_line number (Err fault.DiskFault) = []
end_line number (Err fault.Memory) = []
end_line number end = said_line number end

-- the lines of connections, the first of which has a number
abbrev pub lines_from : ℕ → List Visit → List ℕ
lines_from number [] = []
lines_from number (v ∷ visits) = end_line number v.end ++ lines_from (number + 1) visits
