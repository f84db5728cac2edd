-- The record of what arrived, and how long its entry is.
use Rattle.std.proofs.Common.{◌≡◌, ◌+◌, ◌*◌, ◌≤◌, ℕ, List, [], ◌∷◌, ◌++◌, Option, None, Some, length, refl, sym, ap, subst, arith}
use Rattle.std.proofs.lemmas.List.{length-append}
use Rattle.std.specs.List.{flat_map}
use Rattle.std.specs.Prelude.{IsSome, option_map, unwrap_or}
use Rattle.mqb_entries.specs.Spelled.{spelled_packet}
use Rattle.mqb_entries.specs.SpelledEntries.{spelled, spelled_numbers, spelled_part}
use Rattle.mqb_entries.specs.declared.entry.ArrivedPart.{ArrivedPart}
use Rattle.mqb_entries.specs.declared.entry.ArrivedPart.TheVariants as part
use Rattle.mqb_entries.specs.declared.entry.Entry.TheVariants as form
use Rattle.mqb_fields.specs.Writing.{bytes_of}
use Rattle.mqb_heads.specs.declared.base.TheConstants.{MAX_PACKET}
use Rattle.mqb_model.specs.calls.hear.Session.{Listening, arrival_entry, numbers_released}
use Rattle.mqb_model.specs.declared.limits.TheConstants.{MAX_RECORD}
use Rattle.mqb_model.specs.records.Reading.{part_of, user_packet_of}
use Rattle.mqb_model.specs.records.Record.{Part, Record}
use Rattle.mqb_model.specs.records.Record as entry
use Rattle.mqb_packet.specs.declared.packet.UserPacket.{UserPacket}
use Rattle.mqb_hearing.specs.Arrivals.{IsArrival, IsPartRead, arrival_of, bytes_in, part_shown}

-- The definitions' record is that.
pub entry_is : (l : Listening) (part : Part) → arrival_of l.now (numbers_released l) part ≡ arrival_entry l part
entry_is l entry.Nothing = refl
entry_is l (entry.Decided p) = refl
entry_is l (entry.Stored p) = refl
entry_is l (entry.OrderAcknowledged ordinal number) = refl
entry_is l (entry.Final p) = refl

four : (numbers : List ℕ) → length (flat_map (bytes_of 4) numbers) ≡ 4 * length numbers
four [] = refl
four (n ∷ numbers) = let rest = four numbers in let whole = length-append (bytes_of 4 n) (flat_map (bytes_of 4) numbers) in omega (arith, rest, whole)

packet_len : (bytes : List ℕ) → length (spelled_packet bytes) ≡ 4 + length bytes
packet_len bytes = length-append (bytes_of 4 (length bytes)) bytes

part_len : (part : ArrivedPart) → length (spelled_part part) ≤ 9 + length (bytes_in part)
part_len part.Nothing = omega arith
part_len (part.Decided bytes) = let len = packet_len bytes in omega (arith, len)
part_len (part.Stored bytes) = let len = packet_len bytes in omega (arith, len)
part_len (part.OrderAcknowledged ordinal number) = let len = length-append (bytes_of 4 ordinal) (bytes_of 4 number) in omega (arith, len)
part_len (part.Final bytes) = let len = packet_len bytes in omega (arith, len)

pub entry_len : (now : ℕ) (numbers : List ℕ) (part : ArrivedPart) → IsArrival numbers part → length (spelled (form.Arrived now numbers part)) ≤ MAX_RECORD
entry_len now numbers part h =
    let listed = four numbers in
    let counted = length-append (bytes_of 2 (length numbers)) (flat_map (bytes_of 4) numbers) in
    let behind = part_len part in
    let front = length-append (bytes_of 4 now ++ spelled_numbers numbers) (spelled_part part) in
    let start = length-append (bytes_of 4 now) (spelled_numbers numbers) in
    let few = h.few in
    let size = h.packet.size in
    omega (arith, listed, counted, behind, front, start, few, size)

-- A part that is a packet that was read.

shows : (made : UserPacket → Part) (bytes : List ℕ) (p : UserPacket) → user_packet_of bytes ≡ Some p → unwrap_or (option_map made (user_packet_of bytes)) entry.Nothing ≡ made p
shows made bytes p e = ap (λ (o : Option UserPacket). unwrap_or (option_map made o) entry.Nothing) e

is_some_of : (made : UserPacket → Part) (bytes : List ℕ) (p : UserPacket) → user_packet_of bytes ≡ Some p → IsSome (option_map made (user_packet_of bytes))
is_some_of made bytes p e = subst (λ (o : Option UserPacket). IsSome (option_map made o)) (sym e) refl

pub stored_read : (bytes : List ℕ) (p : UserPacket) → user_packet_of bytes ≡ Some p → length bytes ≤ MAX_PACKET → IsPartRead (part.Stored bytes)
stored_read bytes p e le = record { read = is_some_of (λ p. entry.Stored p) bytes p e; size = le }
