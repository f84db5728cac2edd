-- The messages of one sequence, kept in the order of their numbers, each number once.
use Rattle.std.specs.List.{AllByRecursion}
use Rattle.std.specs.Prelude.{◌≡◌, ◌<◌, ◌≤◌, ◌⊎◌, ◌↔◌, ◌++◌, List, [], ◌∷◌}
use Rattle.mqb_capture.specs.Links.{AreLinked, AreOfOneSequence, AreSameMessage, Link}

-- The second has the greater number, and follows the first or one behind it.
pub record Follows (a b : Link) : Type 0 where
  pub rises : a.tx.number < b.tx.number
  pub links : a.tx.number ≤ b.tx.previous

-- Each follows the one just before it.
abbrev pub IsChain : List Link → Type 0
IsChain [] = Unit {0}
IsChain (a ∷ []) = Unit {0}
IsChain (a ∷ b ∷ links) = Follows a b × IsChain (b ∷ links)

-- The tests where a message is put between two that are neighbours.

abbrev pub FollowsLast : List Link → Link → Type 0
FollowsLast [] n = Unit {0}
FollowsLast (a ∷ []) n = Follows a n
FollowsLast (a ∷ b ∷ links) n = FollowsLast (b ∷ links) n

abbrev pub PrecedesFirst : Link → List Link → Type 0
PrecedesFirst n [] = Unit {0}
PrecedesFirst n (a ∷ links) = Follows n a

-- Each two are of one sequence.
abbrev pub IsOneSequence : List Link → Type 0
IsOneSequence links = AllByRecursion (λ a. AllByRecursion (AreOfOneSequence a) links) links

-- What a program keeps of the links of one way: of each sequence a chain.

-- A message is one that came before, but for the time that is left.
pub record Repeats (a b : Link) : Type 0 where
  pub one : AreOfOneSequence a b
  pub number : a.tx.number ≡ b.tx.number
  pub previous : a.tx.previous ≡ b.tx.previous
  pub message : AreSameMessage a.message b.message

-- some message of a list is repeated
abbrev pub RepeatsSome : Link → List Link → Type 0
RepeatsSome a [] = ⊥
RepeatsSome a (b ∷ links) = Repeats a b ⊎ RepeatsSome a links

-- A chain keeps what came of the sequence of a message: all of that, and nothing else.
pub record Keeps (chain came : List Link) (n : Link) : Type 0 where
  pub all : AllByRecursion (λ a. (AreOfOneSequence a n → ⊥) ⊎ RepeatsSome a chain) came
  pub only : AllByRecursion (λ e. RepeatsSome e came) chain
  pub one : AllByRecursion (λ e. AreOfOneSequence e n) chain

-- the numbers before a place are smaller, and those behind it greater
abbrev pub StandsBetween : List Link → Link → List Link → Type 0
StandsBetween front n back = AllByRecursion (λ e. e.tx.number < n.tx.number) front
    × AllByRecursion (λ e. n.tx.number < e.tx.number) back

-- The neighbours of a place decide whether a message may come.
pub record NeighboursDecide (front : List Link) (n : Link) (back came : List Link) : Type 0 where
  pub keeps : Keeps (front ++ back) came n
  pub chain : IsChain (front ++ back)
  pub place : StandsBetween front n back
  pub linked : AreLinked came

abbrev pub NeighboursAreEnough : Type 0
NeighboursAreEnough =
    (front : List Link) (n : Link) (back came : List Link) → NeighboursDecide front n back came
    → AreLinked (came ++ n ∷ [])
    ↔ ((n.tx.previous < n.tx.number) × FollowsLast front n × PrecedesFirst n back)

-- What comes again is the same, and otherwise it may not come.
abbrev pub AgainIsTheSame : Type 0
AgainIsTheSame = (chain came : List Link) (n e : Link) → Keeps chain came n → AreLinked came
    → AreOfOneSequence e n → RepeatsSome e came → e.tx.number ≡ n.tx.number
    → AreLinked (came ++ n ∷ [])
    ↔ ((n.tx.previous ≡ e.tx.previous) × AreSameMessage n.message e.message)
