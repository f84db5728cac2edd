-- The texts of a picture.
use Rattle.std.specs.Prelude.{ℕ, Bool, ◌==◌, ◌||◌, nat_le, List, [], ◌∷◌, ◌++◌, length, take}
use Rattle.std.specs.Prelude.{codes, if◌then◌else◌}
use Rattle.std.specs.List.{before_first, list_any}
use Rattle.mqb_base.specs.Same.{same_bytes}
use Rattle.mqb_svg.specs.declared.marks.Mark.{Mark}
use Rattle.mqb_svg.specs.declared.marks.Mark.TheVariants.{Commit, Put, Refusal, Stop}
use Rattle.mqb_svg.specs.declared.marks.Mark.TheVariants.{Restart, Plain}

-- a text, or its front and two dots where it is too long
unfoldable pub clipped : List ℕ → List ℕ
clipped text = if nat_le (length text) 64 then text else take 62 text ++ codes ".."

-- a request and what was said to it
unfoldable pub told : List ℕ → List ℕ → List ℕ
told request said = clipped (request ++ codes ": " ++ said)

-- the first word of a line, and the third where there is one: the second tells of whom
unfoldable pub request_of : List (List ℕ) → List ℕ
request_of [] = []
request_of (word ∷ []) = word
request_of (word ∷ object ∷ []) = word
request_of (word ∷ object ∷ more ∷ words) = word ++ codes " " ++ more

unfoldable pub first_word : List ℕ → List ℕ
first_word text = before_first (λ b. b == 32) text

abbrev pub is_commit : List ℕ → Bool
is_commit word = same_bytes word (codes "committed") || same_bytes word (codes "sent")

abbrev pub is_put : List ℕ → Bool
is_put word = same_bytes word (codes "put") || same_bytes word (codes "stored")
    || same_bytes word (codes "express")

-- the first words of the answers that refuse something
abbrev pub refusals : List (List ℕ)
refusals = codes "refused" ∷ codes "bounced" ∷ codes "expressbounced" ∷ codes "closed" ∷
    codes "queuethere" ∷
    codes "toomanyqueues" ∷ codes "toomanyops" ∷ codes "toolarge" ∷ codes "toofar" ∷
    codes "numbersspent" ∷
    codes "sequencespent" ∷ codes "noqueue" ∷ codes "nottransactional" ∷ codes "transactional" ∷
    codes "queueempty" ∷ codes "queuefull" ∷ codes "unknownpeer" ∷ codes "linked" ∷ codes "unlinked"
    ∷ codes "spent" ∷ []

abbrev pub is_refusal : List ℕ → Bool
is_refusal word = list_any (same_bytes word) refusals

abbrev pub is_stop : List ℕ → Bool
is_stop word = same_bytes word (codes "stopped") || same_bytes word (codes "failed")
    || same_bytes word (codes "down")

-- the mark of a reply that begins with this word
unfoldable pub mark_of : List ℕ → Mark
mark_of word = if is_commit word then Commit
    else if is_put word then Put
    else if is_refusal word then Refusal
    else if is_stop word then Stop
    else if same_bytes word (codes "opened") then Restart
    else Plain
