-- The packet in which a store has a message, part by part.
use Rattle.std.proofs.Common.{◌≡◌, ℕ, List, [], ◌++◌, length, sym, ap, ◌∙◌, append_assoc, arith}
use Rattle.std.proofs.lemmas.List.{append-nil}
use Rattle.mqb_base.specs.declared.message.Message.{Message}
use Rattle.mqb_entries.specs.Spelled.{spelled_packet}
use Rattle.mqb_fields.specs.Writing.{bytes_of}
use Rattle.mqb_heads.specs.Base.{IsBaseHead, plain_base}
use Rattle.mqb_heads.specs.Properties.{FitsProps, plain_props}
use Rattle.mqb_heads.specs.User.{FitsUser, plain_user}
use Rattle.mqb_heads.specs.declared.base.BaseHead.{BaseHead}
use Rattle.mqb_packet.specs.Plain.{base_for, plain_user_packet}
use Rattle.mqb_packet.specs.lemmas.Fits.{fits_props}
use Rattle.mqb_snapshot.specs.Spelled.{IsSized, header_of, stored}
use Rattle.mqb_snapshot.specs.declared.messages.TheConstants.{NOBODY}

pub header_fits : (m : Message) → IsSized m → FitsUser (header_of m)
header_fits m s = record { destination = s.well_formed.destination; admin = s.well_formed.admin; response = s.well_formed.response; journal = s.well_formed.journal }

pub props_fit : (m : Message) → IsSized m → FitsProps m
props_fit m s = fits_props m s.well_formed (omega (arith, s.size)) (omega (arith, s.size))

pub base_fits : (m : Message) → IsSized m → IsBaseHead (base_for (stored m))
base_fits m s = record { priority = s.well_formed.priority; least = omega arith; most = s.size; internal = λ t. absurd cc }

-- without the headers that are not there
two_absent : (a b c : List ℕ) → (((a ++ b) ++ []) ++ c) ++ [] ≡ (a ++ b) ++ c
two_absent a b c = append-nil (((a ++ b) ++ []) ++ c) ∙ ap (λ (t : List ℕ). t ++ c) (append-nil (a ++ b))

regrouped : (old count a b c : List ℕ) → (((old ++ count) ++ a) ++ b) ++ c ≡ old ++ (count ++ ((a ++ b) ++ c))
regrouped old count a b c = simp append_assoc

four_added : (old count base user props a b c d : List ℕ) → a ≡ old ++ count → b ≡ a ++ base → c ≡ b ++ user → d ≡ c ++ props → d ≡ old ++ (count ++ ((base ++ user) ++ props))
four_added old count base user props a b c d one two three four =
    four
    ∙ ap (λ (t : List ℕ). t ++ props) (three ∙ ap (λ (t : List ℕ). t ++ user) (two ∙ ap (λ (t : List ℕ). t ++ base) one))
    ∙ regrouped old count base user props

packet_is : (m : Message) → plain_user_packet (stored m) ≡ (plain_base (base_for (stored m)) ++ plain_user (header_of m) NOBODY) ++ plain_props m
packet_is m = two_absent (plain_base (base_for (stored m))) (plain_user (header_of m) NOBODY) (plain_props m)

-- four parts that were added in turn are the packet behind its length
pub packet_added : (m header : Message) (size : ℕ) (head : BaseHead) (old a b c d : List ℕ) → size ≡ length (plain_user_packet (stored m)) → head ≡ base_for (stored m) → header ≡ header_of m
    → a ≡ old ++ bytes_of 4 size → b ≡ a ++ plain_base head → c ≡ b ++ plain_user header NOBODY → d ≡ c ++ plain_props m
    → d ≡ old ++ spelled_packet (plain_user_packet (stored m))
packet_added m header size head old a b c d is_size is_head is_header one two three four =
    let base : b ≡ a ++ plain_base (base_for (stored m)) = two ∙ ap (λ (h : BaseHead). a ++ plain_base h) is_head in
    let user : c ≡ b ++ plain_user (header_of m) NOBODY = three ∙ ap (λ (h : Message). b ++ plain_user h NOBODY) is_header in
    four_added old (bytes_of 4 size) (plain_base (base_for (stored m))) (plain_user (header_of m) NOBODY) (plain_props m) a b c d one base user four
    ∙ ap (λ (t : List ℕ). old ++ (bytes_of 4 size ++ t)) (sym (packet_is m))
    ∙ ap (λ (n : ℕ). old ++ (bytes_of 4 n ++ plain_user_packet (stored m))) is_size
