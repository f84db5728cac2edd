-- A field that stands at a place is read there.
use Rattle.std.proofs.Common.{◌≡◌, ◌<◌, ℕ, ◌+◌, ◌-◌, ◌^◌, ◌==◌, false, ltb, List, ◌++◌, length}
use Rattle.std.proofs.Common.{take, replicate, Option, Some, None, option_map, Ok, refl, ap, ◌∙◌}
use Rattle.std.proofs.Common.{arith, length-append, length-drop}
use Rattle.std.specs.Prelude.{IfSome, IsTrue}
use Rattle.std.proofs.lemmas.Bool.{le-ltb}
use Rattle.std.proofs.lemmas.List.{take_at, length-replicate}
use Rattle.mqb_base.specs.declared.ids.Guid.{Guid}
use Rattle.mqb_base.specs.declared.ids.MessageId.{MessageId}
use Rattle.mqb_base.specs.declared.queue_names.QueueName.{QueueName}
use Rattle.mqb_base.specs.declared.queue_names.QueueName.TheVariants.{Public, Private}
use Rattle.mqb_base.specs.declared.queue_names.QueueName.TheVariants.{Direct, Machine}
use Rattle.mqb_base.specs.QueueNames.{names_queue, absent_or_queue}
use Rattle.mqb_fields.specs.Faults.{in_packet}
use Rattle.mqb_fields.specs.Guids.{swapped}
use Rattle.mqb_fields.specs.Reading.{Reading, rest_of, moved, part_at}
use Rattle.mqb_fields.specs.Writing.{bytes_of}
use Rattle.mqb_fields.specs.lemmas.Again.{number_back, swapped_twice}
use Rattle.mqb_names.specs.Values.{AreBytes, IsQueueName}
use Rattle.mqb_names.specs.Wire.{kind_of, wire, wire_at}
use Rattle.mqb_names.specs.lemmas.Again.{rest_again}
use Rattle.mqb_names.specs.lemmas.WireAgain.{wire_again}
use Rattle.mqb_fields.specs.Packets.{field_at, lent_at, skipped}
use Rattle.mqb_heads.specs.Fields.{source_at, id_at, name_at, optional_name_at, padding, padded_at}
use Rattle.mqb_heads.specs.Fields.{plain_id, wire_name, kind_or_none, wire_or_none}
use Rattle.mqb_heads.specs.Values.{IsMessageId}

pub part_again : (r : Reading) (part rest : List ℕ) (count : ℕ) → length part ≡ count
    → rest_of r ≡ part ++ rest → part_at count r ≡ Ok (part, moved count r)
part_again r part rest count len e =
    let enough : ltb (length r.bytes - r.at) count ≡ false = le-ltb _ _
    (omega (arith, length-drop r.at r.bytes, ap length e, length-append part rest)) in
    let front : take count (rest_of r) ≡ part = ap (take count) e ∙ take_at part rest count len in
    rw (enough, front) refl

pub lent_again : (r : Reading) (part rest : List ℕ) (count : ℕ) → length part ≡ count
    → rest_of r ≡ part ++ rest → lent_at count r ≡ Ok (part, moved count r)
lent_again r part rest count len e = ap in_packet (part_again r part rest count len e)

pub skip_again : (r : Reading) (part rest : List ℕ) (count : ℕ) → length part ≡ count
    → rest_of r ≡ part ++ rest → skipped count r ≡ Ok (moved count r)
skip_again r part rest count len e = rw (part_again r part rest count len e) refl

pub field_again : (r : Reading) (width number : ℕ) (rest : List ℕ)
    → length (bytes_of width number) ≡ width → number < 256 ^ width
    → rest_of r ≡ bytes_of width number ++ rest → field_at width r ≡ Ok (number, moved width r)
field_again r width number rest len fits e =
    rw (part_again r (bytes_of width number) rest width len e, number_back width number fits) refl

pub source_again : (r : Reading) (guid : Guid) (rest : List ℕ) → AreBytes 16 guid.0
    → rest_of r ≡ swapped guid.0 ++ rest → source_at r ≡ Ok (guid, moved 16 r)
source_again r guid rest valid e =
    rw (part_again r (swapped guid.0) rest 16 refl e, swapped_twice guid.0 valid.0) refl

pub id_again : (r : Reading) (id : MessageId) (rest : List ℕ) → IsMessageId id
    → rest_of r ≡ plain_id id ++ rest → id_at r ≡ Ok (id, moved 4 (moved 16 r))
id_again r id rest valid e =
    let behind = rest_again r (swapped id.qm.0) (bytes_of 4 id.number ++ rest) 16 refl e in
    rw (
      source_again r id.qm (bytes_of 4 id.number ++ rest) valid.qm e,
      field_again (moved 16 r) 4 id.number rest refl (omega (arith, valid.number)) behind,
    ) refl

pub name_again : (r : Reading) (name : QueueName) (rest : List ℕ) → IsQueueName name
    → IsTrue (names_queue name) → rest_of r ≡ wire name ++ rest
    → name_at (kind_of name) r ≡ Ok (wire_name name, moved (length (wire name)) r)
name_again r name rest valid queue e =
    let found : wire_at (kind_of name) (rest_of r) ≡ Ok (length (wire name)) =
    ap (wire_at (kind_of name)) e ∙ wire_again name rest valid queue in
    rw (found, lent_again r (wire name) rest (length (wire name)) refl e) refl

is_typed : (name : QueueName) → IsTrue (names_queue name) → (kind_of name == 0) ≡ false
is_typed (Public guid journal) queue = refl
is_typed (Private qm number journal) queue = refl
is_typed (Direct host queue journal) is_queue = refl
is_typed (Machine qm kind) queue = absurd cc

stays : (r : Reading) → r ≡ moved 0 r
stays r = ap (λ (at : ℕ). record r { at = at }) (omega arith)

pub optional_again : (r : Reading) (name : Option QueueName) (rest : List ℕ)
    → IfSome name IsQueueName → IsTrue (absent_or_queue name)
    → rest_of r ≡ wire_or_none name ++ rest
    → optional_name_at (kind_or_none name) r
    ≡ Ok (option_map wire_name name, moved (length (wire_or_none name)) r)
optional_again r None rest valid queue e = ap (λ (end : Reading). Ok (None, end)) (stays r)
optional_again r (Some name) rest valid queue e =
    rw (is_typed name queue, name_again r name rest valid queue e) refl

pub padding_again : (r : Reading) (start len : ℕ) (rest : List ℕ) → r.at - start ≡ len
    → rest_of r ≡ replicate (padding len) 0 ++ rest → padded_at start r ≡ Ok (moved (padding len) r)
padding_again r start len rest is e =
    ap (λ (n : ℕ). skipped (padding n) r) is ∙ skip_again r (replicate (padding len) 0) rest
    (padding len) (length-replicate {A = ℕ} (padding len) 0) e

pub moved_to : (r : Reading) (at end : ℕ) → at ≡ r.at + end → record r { at = at } ≡ moved end r
moved_to r at end e = ap (λ (n : ℕ). record r { at = n }) e
