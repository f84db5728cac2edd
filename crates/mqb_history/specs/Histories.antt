-- Histories: primitive changes one after another. The newest change comes first.
use Rattle.std.specs.Prelude.{[], ◌∷◌, ◌≡◌, IsTrue, List}
use Rattle.mqb_base.specs.declared.ids.Identity.{Identity}
use Rattle.mqb_network.specs.Courses.{Course}
use Rattle.mqb_network.specs.Runs.{beginning}
use Rattle.mqb_history.specs.Changes.{Change, changed, may_change}

-- the course behind changes, which begins as managers do
abbrev pub course_of : List Identity → List Change → Course
course_of known [] = beginning known
course_of known (x ∷ xs) = changed x (course_of known xs)

-- each of them may happen behind those before it
abbrev pub IsHistory : List Identity → List Change → Type 0
IsHistory known [] = Unit {0}
IsHistory known (x ∷ xs) = IsTrue (may_change (course_of known xs) x) × IsHistory known xs

-- a course has a history
abbrev pub HasHistory : List Identity → Course → Type 0
HasHistory known c = (xs : List Change) × IsHistory known xs × (course_of known xs ≡ c)
