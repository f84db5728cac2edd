-- The record of an entry was read.
use Rattle.std.proofs.Common.{refl, subst}
use Rattle.std.proofs.lemmas.List.Elements.{All-from_recursion, recursion_from_All}
use Rattle.std.specs.List.{AllByRecursion}
use Rattle.std.specs.Prelude.{[], ◌∷◌, ◌≡◌, List, None, Option, Some, map, option_map}
use Rattle.mqb_entries.specs.declared.entry.ArrivedPart.{ArrivedPart}
use Rattle.mqb_entries.specs.declared.entry.ArrivedPart.TheVariants as part
use Rattle.mqb_entries.specs.declared.entry.Entry.{Entry}
use Rattle.mqb_entries.specs.declared.entry.Entry.TheVariants as form
use Rattle.mqb_entries.specs.declared.members.OpView.{OpView}
use Rattle.mqb_entries.specs.declared.members.OpView.TheVariants as op
use Rattle.mqb_packet.specs.declared.packet.UserPacket.{UserPacket}
use Rattle.mqb_model.specs.records.Carrying.{IsRead, IsRecorded, IsRecordedPart}
use Rattle.mqb_model.specs.records.Commit.{sends_of}
use Rattle.mqb_model.specs.records.Packets.{in_transaction}
use Rattle.mqb_model.specs.records.Reading.{all_some, op_of, part_of, record_in, user_packet_of}
use Rattle.mqb_model.specs.records.Record as entry
use Rattle.mqb_model.specs.records.Record.{Part, Record, RecordOp}
use Rattle.mqb_model.specs.Typed.{IsTyped, IsTypedOp, IsTypedPart}
use Rattle.mqb_model.proofs.Packets.{then_some}

map_some : {X Y : Type 0} (f : X → Y) (o : Option X) (y : Y) → option_map f o ≡ Some y → (x : X) × (o ≡ Some x) × (f x ≡ y)
map_some f (Some x) y e = (x, refl, cc)
map_some f None y e = absurd cc

abbrev AreRecorded : List RecordOp → Type 0
AreRecorded ops = AllByRecursion IsRecorded (sends_of ops)

-- a message is recorded whatever its delivery
in_transaction_is : (p : UserPacket) → IsRecorded p.message → IsRecorded (in_transaction p)
in_transaction_is p is =
    let form = is.well_formed in
    record {
      well_formed = record {
        priority = form.priority;
        ack = form.ack;
        journal = form.journal;
        label = form.label;
        class = form.class;
        destination = form.destination;
        admin = form.admin;
        response = form.response;
      };
      named = record { destination = is.named.destination; admin = is.named.admin; response = is.named.response };
      size = is.size;
    }

op_joins : (o : OpView) (r : RecordOp) (rs : List RecordOp) → IsTypedOp o → op_of o ≡ Some r → AreRecorded rs → AreRecorded (r ∷ rs)
op_joins (op.Send bytes) r rs typed e others =
    let sent = map_some (λ p. entry.Send p) (user_packet_of bytes) r e in
    subst (λ (r : RecordOp). AreRecorded (r ∷ rs)) sent.2 (in_transaction_is sent.0 (typed sent.0 sent.1), others)
op_joins (op.Take queue id) r rs typed e others =
    let same : entry.Take queue id ≡ r = cc in
    subst (λ (r : RecordOp). AreRecorded (r ∷ rs)) same others

ops_are : (ops : List OpView) (rs : List RecordOp) → AllByRecursion IsTypedOp ops → all_some (map op_of ops) ≡ Some rs → AreRecorded rs
ops_are [] rs typed e =
    let none : [] ≡ rs = cc in
    subst AreRecorded none tt
ops_are (o ∷ ops) rs typed e =
    let first = then_some (λ x. option_map (λ xs. x ∷ xs) (all_some (map op_of ops))) (op_of o) rs e in
    let others = map_some (λ xs. first.0 ∷ xs) (all_some (map op_of ops)) rs first.2 in
    subst AreRecorded others.2 (op_joins o first.0 others.0 typed.0 first.1 (ops_are ops others.0 typed.1 others.1))

part_is : (given : ArrivedPart) (p : Part) → IsTypedPart given → part_of given ≡ Some p → IsRecordedPart p
part_is part.Nothing p typed e =
    let same : entry.Nothing ≡ p = cc in
    subst IsRecordedPart same tt
part_is (part.Decided bytes) p typed e =
    let read = map_some (λ p. entry.Decided p) (user_packet_of bytes) p e in
    subst IsRecordedPart read.2 (typed read.0 read.1)
part_is (part.Stored bytes) p typed e =
    let read = map_some (λ p. entry.Stored p) (user_packet_of bytes) p e in
    subst IsRecordedPart read.2 (typed read.0 read.1)
part_is (part.OrderAcknowledged ordinal number) p typed e =
    let same : entry.OrderAcknowledged ordinal number ≡ p = cc in
    subst IsRecordedPart same tt
part_is (part.Final bytes) p typed e =
    let read = map_some (λ p. entry.Final p) (user_packet_of bytes) p e in
    subst IsRecordedPart read.2 tt

is_same : (a b : Record) → Some a ≡ Some b → IsRead a → IsRead b
is_same a b e is =
    let same : a ≡ b = cc in
    subst IsRead same is

pub entry_is_read : (given : Entry) (r : Record) → IsTyped given → record_in given ≡ Some r → IsRead r
entry_is_read (form.Peer v) r typed e = is_same _ r e typed
entry_is_read (form.Commit now ops) r typed e =
    let read = map_some (λ ops. entry.Commit now ops) (all_some (map op_of ops)) r e in
    subst IsRead read.2 (All-from_recursion IsRecorded (sends_of read.0) (ops_are ops read.0 (recursion_from_All IsTypedOp ops typed) read.1))
entry_is_read (form.Plain now bytes) r typed e =
    let read = map_some (λ p. entry.Plain now p) (user_packet_of bytes) r e in
    subst IsRead read.2 (typed read.0 read.1)
entry_is_read (form.Arrived now released given) r typed e =
    let read = map_some (λ part. entry.Arrived now released part) (part_of given) r e in
    subst IsRead read.2 (part_is given read.0 typed read.1)
entry_is_read x r typed e = is_same _ r e tt
