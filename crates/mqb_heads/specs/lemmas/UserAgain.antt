-- A user header that is written is read again.
use Rattle.std.proofs.Common.{◌≡◌, ◌≤◌, ◌<◌, ℕ, ◌+◌, ◌-◌, ◌/◌, ◌%◌, ◌^◌, ◌==◌, ◌||◌, true, false}
use Rattle.std.proofs.Common.{leb, List, ◌++◌, length, replicate, Option, Some, None, option_map}
use Rattle.std.proofs.Common.{Ok, refl, ap, ◌∙◌, arith, length-append, append_assoc}
use Rattle.std.specs.Prelude.{IsTrue}
use Rattle.std.proofs.lemmas.Bool.{le-leb}
use Rattle.mqb_base.specs.declared.ids.Guid.{Guid}
use Rattle.mqb_base.specs.declared.message.Delivery.{Delivery}
use Rattle.mqb_base.specs.declared.message.Delivery.TheVariants.{Express, Recoverable}
use Rattle.mqb_base.specs.declared.message.Delivery.TheVariants.{Transactional}
use Rattle.mqb_base.specs.declared.message.Message.{Message}
use Rattle.mqb_base.specs.declared.queue_names.QueueName.{QueueName}
use Rattle.mqb_base.specs.declared.queue_names.QueueName.TheVariants.{Public, Private}
use Rattle.mqb_base.specs.declared.queue_names.QueueName.TheVariants.{Direct, Machine}
use Rattle.mqb_base.specs.QueueNames.{names_queue}
use Rattle.mqb_fields.specs.Guids.{swapped}
use Rattle.mqb_fields.specs.Reading.{Reading, rest_of, moved}
use Rattle.mqb_fields.specs.Writing.{bytes_of}
use Rattle.mqb_names.specs.Values.{AreBytes}
use Rattle.mqb_names.specs.Wire.{kind_of, wire}
use Rattle.mqb_names.specs.lemmas.Again.{rest_again}
use Rattle.mqb_heads.specs.declared.user.UserFlags.{UserFlags}
use Rattle.mqb_heads.specs.Fields.{padding, wire_name, kind_or_none, wire_or_none}
use Rattle.mqb_heads.specs.Flags.{bit, flag}
use Rattle.mqb_heads.specs.User.{FitsUser, user_at, user_flags_at, flags_of, have_types, Names}
use Rattle.mqb_heads.specs.User.{names_at, is_durable, is_transactional, user_flags, user_fields}
use Rattle.mqb_heads.specs.User.{user_names, plain_user, user_of}
use Rattle.mqb_heads.specs.Values.{IsMessage}
use Rattle.mqb_heads.specs.lemmas.FieldsAgain.{field_again, source_again, name_again}
use Rattle.mqb_heads.specs.lemmas.FieldsAgain.{optional_again, padding_again, moved_to}
use Rattle.mqb_heads.specs.lemmas.Put.{length_padded, length_user}
use Rattle.mqb_heads.specs.lemmas.Words.{user_bits}

abbrev low_of : Delivery → ℕ
low_of d = flag 0 (is_durable d) + flag 1 (is_transactional d)

low_few : (d : Delivery) → low_of d ≤ 3
low_few Express = omega arith
low_few Recoverable = omega arith
low_few Transactional = omega arith

first_bit : (d : Delivery) (word : ℕ) → word / 2 ^ 0 % 2 ≡ low_of d % 2 → bit 0 word ≡ is_durable d
first_bit Express word e = ap (λ (n : ℕ). n == 1) e
first_bit Recoverable word e = ap (λ (n : ℕ). n == 1) e
first_bit Transactional word e = ap (λ (n : ℕ). n == 1) e

second_bit : (d : Delivery) (word : ℕ) → word / 2 ^ 1 % 2 ≡ low_of d / 2
    → bit 1 word ≡ is_transactional d
second_bit Express word e = ap (λ (n : ℕ). n == 1) e
second_bit Recoverable word e = ap (λ (n : ℕ). n == 1) e
second_bit Transactional word e = ap (λ (n : ℕ). n == 1) e

recoverable_or_not : (d : Delivery) → (is_durable d || is_transactional d) ≡ is_durable d
recoverable_or_not Express = refl
recoverable_or_not Recoverable = refl
recoverable_or_not Transactional = refl

few_kinds : (name : QueueName) → kind_of name ≤ 3
few_kinds (Public guid journal) = omega arith
few_kinds (Private qm number journal) = omega arith
few_kinds (Direct host queue journal) = omega arith
few_kinds (Machine qm kind) = omega arith

few_or_none : (name : Option QueueName) → kind_or_none name ≤ 3
few_or_none None = omega arith
few_or_none (Some name) = few_kinds name

has_kind : (name : QueueName) → IsTrue (names_queue name) → 1 ≤ kind_of name
has_kind (Public guid journal) queue = omega arith
has_kind (Private qm number journal) queue = omega arith
has_kind (Direct host queue journal) is_queue = omega arith
has_kind (Machine qm kind) queue = absurd cc

-- the flags of a message
abbrev flags_for : Message → UserFlags
flags_for m = record {
  recoverable = is_durable m.delivery;
  transaction = is_transactional m.delivery;
  destination = kind_of m.destination;
  admin = kind_or_none m.admin;
  response = kind_or_none m.response;
  journal = m.journal;
}

flags_are : (m : Message) → FitsUser m → (flags_of (user_flags m) ≡ flags_for m)
    × (bit 13 (user_flags m) ≡ false) × (user_flags m < 256 ^ 4)
flags_are m valid =
    let back = user_bits (low_of m.delivery) (kind_of m.destination) (kind_or_none m.admin)
    (kind_or_none m.response) m.journal
    (low_few m.delivery) (few_kinds m.destination) (few_or_none m.admin)
    (few_or_none m.response) valid.journal in (
      rw (
        first_bit m.delivery (user_flags m) back.first,
        second_bit m.delivery (user_flags m) back.second,
        recoverable_or_not m.delivery,
        back.destination_type,
        back.admin_type,
        back.response_type,
        back.journal_bits,
      ) refl,
      back.secured,
      back.fits,
    )

flags_again : (r : Reading) (m : Message) (rest : List ℕ) → FitsUser m
    → rest_of r ≡ bytes_of 4 (user_flags m) ++ rest → user_flags_at r ≡ Ok (flags_for m, moved 4 r)
flags_again r m rest valid e =
    let are = flags_are m valid in
    let least : leb 1 (kind_of m.destination) ≡ true =
    le-leb _ _ (has_kind m.destination valid.destination) in
    let most : leb (kind_of m.destination) 3 ≡ true = le-leb _ _ (few_kinds m.destination) in
    let admin : leb (kind_or_none m.admin) 3 ≡ true = le-leb _ _ (few_or_none m.admin) in
    let response : leb (kind_or_none m.response) 3 ≡ true = le-leb _ _ (few_or_none m.response) in
    let typed : have_types (flags_for m) ≡ true = rw (least, most, admin, response) refl in
    let typed_word : have_types (flags_of (user_flags m)) ≡ true = ap have_types are.0 ∙ typed in
    rw (field_again r 4 (user_flags m) rest refl are.2 e, are.1, typed_word)
    (ap (λ (flags : UserFlags). Ok (flags, moved 4 r)) are.0)

abbrev names_of : Message → Names
names_of m = record {
  destination = wire_name m.destination;
  admin = option_map wire_name m.admin;
  response = option_map wire_name m.response;
}

-- where the names end
abbrev behind_names : Message → Reading → Reading
behind_names m r = moved (length (wire_or_none m.response))
    (moved (length (wire_or_none m.admin)) (moved (length (wire m.destination)) r))

names_again : (r : Reading) (m : Message) (rest : List ℕ) → FitsUser m → IsMessage m
    → rest_of r ≡ wire m.destination ++ (wire_or_none m.admin ++ (wire_or_none m.response ++ rest))
    → (names_at (flags_for m) r ≡ Ok (names_of m, behind_names m r))
    × (rest_of (behind_names m r) ≡ rest)
names_again r m rest valid value e =
    let response = wire_or_none m.response ++ rest in
    let admin = wire_or_none m.admin ++ response in
    let r1 = moved (length (wire m.destination)) r in
    let at_admin = rest_again r (wire m.destination) admin (length (wire m.destination)) refl e in
    let r2 = moved (length (wire_or_none m.admin)) r1 in
    let at_response = rest_again r1 (wire_or_none m.admin) response
    (length (wire_or_none m.admin)) refl at_admin in (
      rw (
        name_again r m.destination admin value.destination valid.destination e,
        optional_again r1 m.admin response value.admin valid.admin at_admin,
        optional_again r2 m.response rest value.response valid.response at_response,
      ) refl,
      rest_again r2 (wire_or_none m.response) rest
          (length (wire_or_none m.response)) refl at_response,
    )

regrouped : (a b c z rest : List ℕ) → ((a ++ b ++ c) ++ z) ++ rest ≡ a ++ (b ++ (c ++ (z ++ rest)))
regrouped a b c z rest = simp append_assoc

length_names : (m : Message) → length (user_names m)
    ≡ length (wire m.destination) + length (wire_or_none m.admin) + length (wire_or_none m.response)
length_names m = omega (
  arith,
  length-append (wire m.destination ++ wire_or_none m.admin) (wire_or_none m.response),
  length-append (wire m.destination) (wire_or_none m.admin),
)

pub user_again : (r : Reading) (m : Message) (target : Guid) (rest : List ℕ) → FitsUser m
    → IsMessage m → AreBytes 16 target.0 → rest_of r ≡ plain_user m target ++ rest
    → user_at r ≡ Ok (user_of m target, moved (length (plain_user m target)) r)
unfolding user_at
user_again r m target rest valid value goes e =
    let len = length (user_fields m target ++ user_names m) in
    let zeros = replicate {A = ℕ} (padding len) 0 in
    let names = (user_names m ++ zeros) ++ rest in
    let flags = bytes_of 4 (user_flags m) ++ names in
    let number = bytes_of 4 m.id.number ++ flags in
    let sent = bytes_of 4 m.sent ++ number in
    let life = bytes_of 4 m.life ++ sent in
    let to_target = swapped target.0 ++ life in
    let r16 = moved 16 r in
    let at_target : rest_of r16 ≡ to_target =
    rest_again r (swapped m.id.qm.0) to_target 16 refl e in
    let r32 = moved 16 r16 in
    let at_life : rest_of r32 ≡ life = rest_again r16 (swapped target.0) life 16 refl at_target in
    let r36 = moved 4 r32 in
    let at_sent : rest_of r36 ≡ sent = rest_again r32 (bytes_of 4 m.life) sent 4 refl at_life in
    let r40 = moved 4 r36 in
    let at_number : rest_of r40 ≡ number =
    rest_again r36 (bytes_of 4 m.sent) number 4 refl at_sent in
    let r44 = moved 4 r40 in
    let at_flags : rest_of r44 ≡ flags =
    rest_again r40 (bytes_of 4 m.id.number) flags 4 refl at_number in
    let r48 = moved 4 r44 in
    let at_names : rest_of r48 ≡ names =
    rest_again r44 (bytes_of 4 (user_flags m)) names 4 refl at_flags in
    let named =
    names_again r48 m (zeros ++ rest) valid value (at_names ∙ regrouped (wire m.destination)
    (wire_or_none m.admin) (wire_or_none m.response) zeros rest) in
    let counts = length_user m target in
    let long = length_names m in
    let behind : (behind_names m r48).at - r.at ≡ len = omega (arith, counts, long) in
    rw (
      source_again r m.id.qm to_target value.id.qm e,
      source_again r16 target life goes at_target,
      field_again r32 4 m.life sent refl (omega (arith, value.life)) at_life,
      field_again r36 4 m.sent number refl (omega (arith, value.sent)) at_sent,
      field_again r40 4 m.id.number flags refl (omega (arith, value.id.number)) at_number,
      flags_again r44 m names valid at_flags,
      named.0,
      padding_again (behind_names m r48) r.at len rest behind named.1,
    )
    (ap (λ (end : Reading). Ok (user_of m target, end)) (moved_to r _ (length (plain_user m target))
    (omega (arith, counts, long, length_padded (user_fields m target ++ user_names m)))))
