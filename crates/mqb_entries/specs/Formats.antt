-- A reader and a spelling that belong together: what is spelled is read, and what
-- was read is spelled so.
use Rattle.std.proofs.Common.{◌≡◌, ℕ, ◌+◌, ◌-◌, ◌<◌, List, ◌++◌, length, Result, Ok}
use Rattle.std.specs.List.{AllByRecursion}
use Rattle.mqb_fields.specs.Reading.{Reading, rest_of, moved}

abbrev pub IsBytes : List ℕ → Type 0
IsBytes bytes = AllByRecursion (λ b. b < 256) bytes

-- what a reader took: the text of its value
pub record Took {X : Type 0} (spell : X → List ℕ) (Fits : X → Type 0) (r : Reading)
    (x : X × Reading) : Type 0 where
  pub text : rest_of r ≡ spell x.0 ++ rest_of x.1
  pub place : x.1 ≡ moved (length (spell x.0)) r
  pub fits : Fits x.0

pub record IsFormat {X E : Type 0} (read : Reading → Result (X × Reading) E) (spell : X → List ℕ)
    (Fits : X → Type 0) : Type 0 where
  pub again : (r : Reading) (x : X) (rest : List ℕ) → Fits x → rest_of r ≡ spell x ++ rest
      → read r ≡ Ok (x, moved (length (spell x)) r)
  pub took : (r : Reading) (x : X × Reading) → IsBytes (rest_of r) → read r ≡ Ok x
      → Took spell Fits r x

-- what was read, seen otherwise
abbrev pub seen : {A B : Type 0} → (E : Type 0) → (A → B) → A × Reading → Result (B × Reading) E
seen E to x = Ok (to x.0, x.1)

-- what was read, behind what was read before it
abbrev pub behind : {A B : Type 0} → (E : Type 0) → A → B × Reading → Result ((A × B) × Reading) E
behind E a x = Ok ((a, x.0), x.1)
