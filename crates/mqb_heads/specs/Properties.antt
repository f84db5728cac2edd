-- The properties header.
use Rattle.std.specs.Prelude.{◌≡◌, ℕ, ◌+◌, ◌*◌, ◌<◌, ◌≤◌, IsTrue, ◌^◌, ◌==◌, nat_lt, List, [], ◌∷◌}
use Rattle.std.specs.Prelude.{◌++◌, length, take, replicate, Result, Ok, if◌then◌else◌}
use Rattle.std.specs.List.{flat_map}
use Rattle.mqb_base.specs.declared.class.Class.{Class}
use Rattle.mqb_base.specs.declared.ids.MessageId.{MessageId}
use Rattle.mqb_base.specs.declared.message.Message.{Message}
use Rattle.mqb_base.specs.declared.bits.TheConstants.{MAX_ACK}
use Rattle.mqb_base.specs.declared.message.TheConstants.{MAX_LABEL}
use Rattle.mqb_base.specs.Classes.{is_class}
use Rattle.mqb_fields.specs.declared.faults.HeadFault.{HeadFault}
use Rattle.mqb_fields.specs.declared.faults.HeadKind.TheVariants as fault
use Rattle.mqb_fields.specs.Faults.{fault_at}
use Rattle.mqb_fields.specs.Packets.{field_at, lent_at}
use Rattle.mqb_fields.specs.Reading.{◌>>=◌, Reading}
use Rattle.mqb_fields.specs.Writing.{bytes_of}
use Rattle.mqb_heads.specs.declared.properties.PropsHead.{PropsHead}
use Rattle.mqb_heads.specs.declared.properties.Marks.{Marks}
use Rattle.mqb_heads.specs.declared.properties.Sizes.{Sizes}
use Rattle.mqb_heads.specs.declared.properties.Parts as declared
use Rattle.mqb_heads.specs.Fields.{id_at, padded_at, padding, padded, plain_id}
use Rattle.mqb_heads.specs.Flags.{bits}

-- what a properties header says
pub record Props : Type 0 where
  pub ack : ℕ
  pub class : Class
  pub correlation : MessageId
  pub body_type : ℕ
  pub tag : ℕ
  pub label : List ℕ
  pub extension : List ℕ
  pub body : List ℕ

abbrev pub seen_props : PropsHead → Props
seen_props head = record {
  ack = head.ack;
  class = head.class;
  correlation = head.correlation;
  body_type = head.body_type;
  tag = head.tag;
  label = head.label.now;
  extension = head.extension.now;
  body = head.body.now;
}

-- what holds of each properties header that was read
pub record IsPropsRead (props : Props) : Type 0 where
  pub ack : props.ack ≤ MAX_ACK
  pub class : IsTrue (is_class props.class.0)
  pub label : (units : ℕ) × (units ≤ MAX_LABEL) × (length props.label ≡ 2 * units)

-- the count of the label's units
abbrev pub label_len_at : Reading → Result (ℕ × Reading) HeadFault
label_len_at r = do
  len ← field_at 1 r
  if nat_lt MAX_LABEL len.0 then fault_at r.at fault.Label else Ok len

abbrev pub class_at : Reading → Result (Class × Reading) HeadFault
class_at r = do
  class ← field_at 2 r
  if is_class class.0 then Ok (record { 0 = class.0 }, class.1) else fault_at r.at fault.Class

-- The acknowledgement bits are the lowest four of their byte.
abbrev pub marks_at : Reading → Result (Marks × Reading) HeadFault
marks_at r = do
  ack ← field_at 1 r
  label_len ← label_len_at ack.1
  class ← class_at label_len.1
  Ok (record { ack = bits 0 4 ack.0; label_len = label_len.0; class = class.0 }, class.1)

-- how many bytes are kept for a body of this size
abbrev pub allocated_at : ℕ → Reading → Result (ℕ × Reading) HeadFault
allocated_at body r = do
  allocated ← field_at 4 r
  if nat_lt allocated.0 body then fault_at r.at fault.Sizes else Ok allocated

-- a number that is 0 in a packet that is not secured
abbrev pub unsecured_at : Reading → Result Reading HeadFault
unsecured_at r = do
  number ← field_at 4 r
  if number.0 == 0 then Ok number.1 else fault_at r.at fault.Secured

-- The sizes of the body, of the bytes that are allocated to it, and of the extension. Before the
-- last are privacy, hash and cipher.
abbrev pub sizes_at : Reading → Result (Sizes × Reading) HeadFault
sizes_at r = do
  body ← field_at 4 r
  allocated ← allocated_at body.0 body.1
  privacy ← unsecured_at allocated.1
  hash ← unsecured_at privacy
  cipher ← unsecured_at hash
  extension ← field_at 4 cipher
  Ok (record { body = body.0; allocated = allocated.0; extension = extension.0 }, extension.1)

-- the parts behind the fields
pub record Parts : Type 0 where
  pub label : List ℕ
  pub extension : List ℕ
  pub body : List ℕ

abbrev pub seen_parts : declared.Parts → Parts
seen_parts parts =
    record { label = parts.label.now; extension = parts.extension.now; body = parts.body.now }

-- The body is at the front of the bytes that are allocated to it.
abbrev pub parts_at : ℕ → Sizes → Reading → Result (Parts × Reading) HeadFault
parts_at label_len sizes r = do
  label ← lent_at (2 * label_len) r
  extension ← lent_at sizes.extension label.1
  allocated ← lent_at sizes.allocated extension.1
  Ok (
    record { label = label.0; extension = extension.0; body = take sizes.body allocated.0 },
    allocated.1,
  )

unfoldable pub props_at : Reading → Result (Props × Reading) HeadFault
props_at r = do
  marks ← marks_at r
  correlation ← id_at marks.1
  body_type ← field_at 4 correlation.1
  tag ← field_at 4 body_type.1
  sizes ← sizes_at tag.1
  parts ← parts_at marks.0.label_len sizes.0 sizes.1
  end ← padded_at r.at parts.1
  Ok (
    record {
      ack = marks.0.ack;
      class = marks.0.class;
      correlation = correlation.0;
      body_type = body_type.0;
      tag = tag.0;
      label = parts.0.label;
      extension = parts.0.extension;
      body = parts.0.body;
    },
    end,
  )

-- the bytes of a label
abbrev pub label_bytes : List ℕ → List ℕ
label_bytes units = flat_map (bytes_of 2) units

-- A message whose properties header may be written: its class is in the table, its acknowledgement
-- bits are four, and the sizes of its parts fit.
pub record FitsProps (m : Message) : Type 0 where
  pub ack : m.ack ≤ MAX_ACK
  pub class : IsTrue (is_class m.class.0)
  pub label : length m.label ≤ MAX_LABEL
  pub extension : length m.extension < 2 ^ 32
  pub body : length m.body < 2 ^ 32

-- the fields of a message's properties header before its parts
abbrev pub props_fields : Message → List ℕ
props_fields m = (m.ack ∷ length m.label ∷ []) ++ bytes_of 2 m.class.0 ++ plain_id m.correlation
    ++ bytes_of 4 m.body_type ++ bytes_of 4 m.tag
    ++ bytes_of 4 (length m.body) ++ bytes_of 4 (length m.body) ++ replicate 12 0
    ++ bytes_of 4 (length m.extension)

abbrev pub props_parts : Message → List ℕ
props_parts m = label_bytes m.label ++ m.extension ++ m.body

-- the properties header of a message
abbrev pub plain_props : Message → List ℕ
plain_props m = padded (props_fields m ++ props_parts m)

abbrev pub props_size : Message → ℕ
props_size m =
    let len = 56 + 2 * length m.label + length m.extension + length m.body in len + padding len

-- what the properties header of a message says
abbrev pub props_of : Message → Props
props_of m = record {
  ack = m.ack;
  class = m.class;
  correlation = m.correlation;
  body_type = m.body_type;
  tag = m.tag;
  label = label_bytes m.label;
  extension = m.extension;
  body = m.body;
}
