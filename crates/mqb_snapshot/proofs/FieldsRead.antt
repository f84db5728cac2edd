-- What holds of each field that is read.
use Rattle.std.proofs.Common.{◌≡◌, ◌≤◌, ◌<◌, ◌^◌, ℕ, Bool, true, false, cond, List, ◌++◌, length, take, Option, Some, None, Result, Ok, Err, refl, sym, ap, subst, ◌∙◌}
use Rattle.std.proofs.lemmas.Bool.{and_parts, leb-true, ltb-false}
use Rattle.std.proofs.lemmas.List.{take_at}
use Rattle.std.proofs.lemmas.List.Elements.{All-from_recursion}
use Rattle.std.specs.Prelude.{◌&&◌, IfSome, IsTrue, is_some, ltb, nat_le, not}
use Rattle.mqb_base.specs.QueueNames.{names_queue}
use Rattle.mqb_base.specs.declared.ids.Guid.{Guid}
use Rattle.mqb_base.specs.declared.queue_names.QueueName.{QueueName}
use Rattle.mqb_entries.specs.lemmas.FieldFormats.{address_format, flag_format, name_format, outside_apart, packet_format, u32_format, u8_format}
use Rattle.mqb_entries.specs.Fields.{address_at, field, flag_at, guid_at, guid_part, name_at, packet_at, u32_at}
use Rattle.mqb_entries.specs.Formats.{IsBytes}
use Rattle.mqb_entries.specs.lemmas.Formats.{bytes_stay, field_gives, part_format, text_bytes}
use Rattle.mqb_fields.specs.Reading.{◌>>=◌, Reading, moved, part_at, rest_of}
use Rattle.mqb_fields.specs.Reading as wire
use Rattle.mqb_fields.specs.Writing.{bytes_of}
use Rattle.mqb_heads.specs.lemmas.ReadLaws.{bind_ok, if_ok, unless_ok}
use Rattle.mqb_model.specs.state.State.{State}
use Rattle.mqb_names.specs.Values.{AreBytes, IsName, IsQueueName}
use Rattle.mqb_names.specs.Wire.{length_at, spelled, wire_at}
use Rattle.mqb_names.specs.declared.wire.WireFault.{WireFault}
use Rattle.mqb_names.specs.declared.wire.WireFault.TheVariants.{Bad, Short}
use Rattle.mqb_names.specs.lemmas.Lengths.{length_taken}
use Rattle.mqb_packet.proofs.Bytes.{both_small, guid_small}
use Rattle.mqb_packet.proofs.ReadNames.{name_is_read}
use Rattle.mqb_packet.proofs.Steps.{ok_is}
use Rattle.mqb_snapshot.specs.Fields.{destination_at, guid_registered, name_behind, name_in, queue_guid_at, registered_at, within_at}
use Rattle.mqb_snapshot.proofs.Readers.{Reads, behind, finished, found_gives, of_format, step, tested_reads, weaker}

pub word_reads : Reads u32_at (λ n. n < 2 ^ 32)
word_reads = of_format u32_format

pub flag_reads : Reads flag_at (λ flag. Unit {0})
flag_reads = of_format flag_format

pub name_reads : Reads name_at IsName
name_reads = of_format name_format

pub within_reads : (least most : ℕ) → Reads (within_at least most) (λ n. (least ≤ n) × (n ≤ most))
unfolding within_at
within_reads least most = weaker (λ n. (least ≤ n) × (n ≤ most))
    (λ n h. let both = and_parts (nat_le least n) (nat_le n most) h.1 in (leb-true _ _ both.0, leb-true _ _ both.1))
    (tested_reads (λ n. nat_le least n && nat_le n most) word_reads)

pub address_reads : Reads address_at (AreBytes 4)
address_reads = record {
  gives = λ r x all e.
      let t = address_format.took r x all e in
      ((t.fits, All-from_recursion (λ b. b < 256) x.0 (text_bytes r x.1 x.0 t.text all)), bytes_stay _ r x.1 t.place all);
}

pub guid_reads : Reads guid_at (λ guid. AreBytes 16 guid.0)
guid_reads = record {
  gives = λ r x all e.
      let guid = bind_ok (wire.guid_at r) _ x (field_gives r (guid_part r) x e) in
      let small = guid_small r guid.0 all guid.1 in
      let made : Guid × Reading = (record { 0 = guid.0.0 }, guid.0.1) in
      finished (λ g. AreBytes 16 g.0) made.0 made.1 x small.0 (bytes_stay 16 r guid.0.1 (sym small.1) all) (ap (λ (z : Guid × Reading). Ok z) (ok_is made x guid.2));
}

pub packet_reads : Reads packet_at IsBytes
packet_reads = record {
  gives = λ r x all e.
      let t = packet_format.took r x all e in
      let count = bytes_of 4 (length x.0) in
      ((both_small (count ++ x.0) count x.0 refl (text_bytes r x.1 (count ++ x.0) t.text all)).1, bytes_stay _ r x.1 t.place all);
}

-- Destinations.

in_name : (r behind : Reading) (kind : ℕ) (found : Result ℕ WireFault) (x : QueueName × Reading) → name_in r behind kind found ≡ Ok x
    → (len : ℕ) × (found ≡ Ok len) × (name_behind r behind kind len ≡ Ok x)
in_name r behind kind (Ok len) x e = (len, refl, e)
in_name r behind kind (Err fault) x e = absurd (outside_apart r x e)

-- bytes that have the length of a name of their type
sized : (kind : ℕ) (bytes : List ℕ) (len : ℕ) → wire_at kind bytes ≡ Ok len → length_at kind (take len bytes) ≡ Ok (length (take len bytes))
sized kind bytes len e =
    let long = bind_ok (length_at kind bytes) _ len e in
    let enough = unless_ok (ltb (length bytes) long.0) Short _ len long.2 in
    let named = if_ok (is_some (spelled kind (take long.0 bytes))) Bad long.0 len enough.1 in
    subst (λ (l : ℕ). length_at kind (take l bytes) ≡ Ok (length (take l bytes))) named.1 (length_taken kind bytes long.0 long.1 (ltb-false _ _ enough.0))

-- a name to whose queue a row leads
abbrev pub IsDestination : QueueName → Type 0
IsDestination name = IsQueueName name × IsTrue (names_queue name)

-- what is read behind the type of a name
named : (r behind : Reading) (kind len : ℕ) (x : QueueName × Reading) → IsBytes (rest_of behind) → wire_at kind (rest_of behind) ≡ Ok len → name_behind r behind kind len ≡ Ok x
    → IsDestination x.0 × IsBytes (rest_of x.1)
named r behind kind len x all long e =
    let part = bind_ok (field r (part_at len behind)) _ x e in
    let took = (part_format len).took behind part.0 all (field_gives r (part_at len behind) part.0 part.1) in
    let found = found_gives r part.0.1 (spelled kind part.0.0) x part.2 in
    let taken : take len (rest_of behind) ≡ part.0.0 = ap (take len) took.text ∙ take_at part.0.0 (rest_of part.0.1) len took.fits in
    let whole = subst (λ (t : List ℕ). length_at kind t ≡ Ok (length t)) taken (sized kind (rest_of behind) len long) in
    let read = name_is_read kind part.0.0 x.0 (text_bytes behind part.0.1 part.0.0 took.text all) whole found.0 in
    ((read.valid, read.queue), subst (λ (after : Reading). IsBytes (rest_of after)) found.1 (bytes_stay _ behind part.0.1 took.place all))

pub destination_reads : Reads destination_at IsDestination
unfolding destination_at
destination_reads = record {
  gives = λ r x all e. behind IsDestination (of_format u8_format) r _ x all e (λ kind after is left e.
      let found = in_name r after kind (wire_at kind (rest_of after)) x e in
      named r after kind found.0 x left found.1 found.2);
}

-- GUIDs of queues that are new.

abbrev pub IsNewGuid : State → Guid → Type 0
IsNewGuid s guid = AreBytes 16 guid.0 × (not (guid_registered s guid) ≡ true)

pub queue_guid_reads : (s : State) → Reads (queue_guid_at s) (IsNewGuid s)
unfolding queue_guid_at
queue_guid_reads s = tested_reads (λ guid. not (guid_registered s guid)) guid_reads

registered_behind : (s : State) (flag : Bool) (r : Reading) (x : Option Guid × Reading) → IsBytes (rest_of r)
    → cond flag (queue_guid_at s r >>= λ guid. Ok (Some guid.0, guid.1)) (Ok (None, r)) ≡ Ok x → IfSome x.0 (IsNewGuid s) × IsBytes (rest_of x.1)
registered_behind s true r x all e =
    let guid = step (queue_guid_reads s) r _ x all e in
    finished (λ public. IfSome public (IsNewGuid s)) (Some guid.part.0) guid.part.1 x guid.holds guid.bytes guid.rest
registered_behind s false r x all e = finished (λ public. IfSome public (IsNewGuid s)) None r x tt all e

pub registered_reads : (s : State) → Reads (registered_at s) (λ public. IfSome public (IsNewGuid s))
unfolding registered_at
registered_reads s = record {
  gives = λ r x all e.
      let flag = step flag_reads r _ x all e in
      registered_behind s flag.part.0 flag.part.1 x flag.bytes flag.rest;
}
