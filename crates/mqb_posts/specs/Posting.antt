-- What a call adds to a medium, and what it leaves there when it is refused.
use Rattle.std.specs.Prelude.{◌≡◌, ℕ, ◌+◌, ◌<◌, ◌≤◌, List, ◌∷◌, ◌++◌, length, Result, Ok, Err}
use Rattle.mqb_outside.specs.Strings.{bytes_in}
use Rattle.mqb_posts.specs.declared.faults.PostFault.{PostFault}
use Rattle.mqb_posts.specs.declared.faults.PostFault.TheVariants.{NetFull, Memory}
use Rattle.mqb_posts.specs.declared.posting.TheConstants.{MAX_MEDIUM}

-- A medium is within its greatest size, and none of its strings is empty.
pub record IsWithin (strings : List (List ℕ)) : Type 0 where
  pub bytes : bytes_in strings ≤ MAX_MEDIUM
  pub count : length strings ≤ bytes_in strings

-- The first of the wanted strings were added, and the next one would pass the greatest size.
pub record IsCutOff (before after wanted : List (List ℕ)) : Type 0 where
  pub front : List (List ℕ)
  pub next : List ℕ
  pub rest : List (List ℕ)
  pub wanted_are : wanted ≡ front ++ next ∷ rest
  pub added : after ≡ before ++ front
  pub full : MAX_MEDIUM < bytes_in after + length next

-- The first of the wanted strings were added.
pub record HasFront (before after wanted : List (List ℕ)) : Type 0 where
  pub front : List (List ℕ)
  pub rest : List (List ℕ)
  pub wanted_are : wanted ≡ front ++ rest
  pub added : after ≡ before ++ front

-- A call with this result was to add the wanted strings to a medium: all of them were
-- added, or the first ones.
abbrev pub PostedBy : {T : Type 0} → (before after wanted : List (List ℕ)) → Result T PostFault
    → Type 0
PostedBy before after wanted (Ok done) = (after ≡ before ++ wanted) × IsWithin after
PostedBy before after wanted (Err NetFull) = IsCutOff before after wanted
PostedBy before after wanted (Err Memory) = HasFront before after wanted
