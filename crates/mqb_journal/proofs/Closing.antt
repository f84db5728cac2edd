-- A block is closed where its record is spelled.
use Rattle.std.proofs.Common.{◌≡◌, ◌<◌, ◌≤◌, if◌then◌else◌, ℕ, ◌-◌, Bool, true, List, [], ◌∷◌, ◌++◌, length, take, drop, sym, subst, ◌∙◌, ap, arith, length-append, length-drop}
use Rattle.std.proofs.lemmas.List.{drop-append-le, take_at}
use Rattle.mqb_fields.specs.Writing.{bytes_of, put_at}
use Rattle.mqb_journal.specs.Blocks.{IsBlock, block_of, record_of_block, spelled_in}
use Rattle.mqb_journal.specs.Store.{IsSmall}

-- the length in the place of the four bytes, and a gate behind
pub closed_so : (block : List ℕ) (len : ℕ) → 4 ≤ length block → len ≡ length block - 4 → put_at (block ++ 0 ∷ []) 0 (bytes_of 4 len) ≡ block_of (spelled_in block)
closed_so block len long is =
    let rest : drop 4 (block ++ 0 ∷ []) ≡ drop 4 block ++ 0 ∷ [] = drop-append-le 4 block (0 ∷ []) long in
    let size : len ≡ length (drop 4 block) = omega (arith, is, length-drop 4 block) in
    ap (λ (l : List ℕ). bytes_of 4 len ++ l) rest ∙ ap (λ (n : ℕ). bytes_of 4 n ++ drop 4 block ++ 0 ∷ []) size

-- and it is the record of the block
pub record_closed : (entry : List ℕ) → record_of_block (block_of entry) ≡ entry
record_closed entry = take_at entry (0 ∷ []) (length (block_of entry) - 5) (omega (arith, length-append (bytes_of 4 (length entry)) entry, length-append (bytes_of 4 (length entry) ++ entry) (0 ∷ [])))

-- and its record is what was spelled
pub record_is : (block entry : List ℕ) → block ≡ block_of entry → record_of_block block ≡ entry
record_is block entry is = ap record_of_block is ∙ record_closed entry

pub is_block : (block entry : List ℕ) → block ≡ block_of entry → IsSmall entry → IsBlock block
is_block block entry is small = record { closed = is ∙ ap block_of (sym (record_is block entry is)); small = subst IsSmall (sym (record_is block entry is)) small }

-- so it is a block
pub closed_is_block : (block : List ℕ) (len : ℕ) → 4 ≤ length block → len ≡ length block - 4 → IsSmall (spelled_in block) → IsBlock (put_at (block ++ 0 ∷ []) 0 (bytes_of 4 len))
closed_is_block block len long is small = is_block (put_at (block ++ 0 ∷ []) 0 (bytes_of 4 len)) (spelled_in block) (closed_so block len long is) small

-- what is shorter than a block has none
pub nothing_of_short : (block : List ℕ) → length block < 5 → record_of_block block ≡ []
nothing_of_short block short = ap (λ (n : ℕ). take n (drop 4 block)) (let none : length block - 5 ≡ 0 = omega (arith, short) in none)

-- A block of bytes is made in three steps.
pub block_is : (begun spelled closed block entry : List ℕ) (there : Bool) → begun ≡ 0 ∷ 0 ∷ 0 ∷ 0 ∷ [] → spelled ≡ (if there then begun ++ entry else begun) → there ≡ true → IsBlock closed
    → record_of_block closed ≡ spelled_in spelled → block ≡ closed → block ≡ block_of entry
block_is begun spelled closed block entry there begun_is spelled_is is whole held same =
    let behind : spelled ≡ begun ++ entry = spelled_is ∙ ap (λ (b : Bool). if b then begun ++ entry else begun) is in
    let held_is : record_of_block closed ≡ entry = held ∙ ap spelled_in (behind ∙ ap (λ (l : List ℕ). l ++ entry) begun_is) in
    same ∙ whole.closed ∙ ap block_of held_is
