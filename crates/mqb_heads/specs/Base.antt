-- The base header, with which each packet begins.
use Rattle.std.specs.Prelude.{◌≡◌, ℕ, ◌+◌, ◌≤◌, ◌==◌, ◌&&◌, nat_lt, nat_le, IsTrue, List, [], ◌∷◌}
use Rattle.std.specs.Prelude.{◌++◌, length, Result, Ok, Err, if◌then◌else◌}
use Rattle.mqb_fields.specs.declared.faults.HeadFault.{HeadFault}
use Rattle.mqb_fields.specs.declared.faults.HeadKind.TheVariants.{Short, Version, Debug}
use Rattle.mqb_fields.specs.declared.faults.HeadKind.TheVariants.{Signature, Size}
use Rattle.mqb_fields.specs.Faults.{fault_at}
use Rattle.mqb_fields.specs.Packets.{field_at, skipped}
use Rattle.mqb_fields.specs.Reading.{◌>>=◌, Reading}
use Rattle.mqb_fields.specs.Writing.{bytes_of}
use Rattle.mqb_names.specs.Wire.{start}
use Rattle.mqb_base.specs.declared.message.TheConstants.{MAX_PRIORITY}
use Rattle.mqb_base.specs.declared.times.TheConstants.{UNLIMITED}
use Rattle.mqb_heads.specs.declared.base.TheConstants.{MIN_PACKET, MAX_PACKET}
use Rattle.mqb_heads.specs.declared.base.BaseHead.{BaseHead}
use Rattle.mqb_heads.specs.Flags.{bit, bits, flag}

abbrev pub version_at : Reading → Result Reading HeadFault
version_at r = do
  version ← field_at 1 r
  if version.0 == 0x10 then Ok version.1 else fault_at r.at Version

-- Bits 0 to 2 are the priority, bit 3 is set in an internal packet, bit 4 where a session header is
-- there, and bit 5 where a debug header is.
abbrev pub flags_at : Reading → Result (ℕ × Reading) HeadFault
flags_at r = do
  flags ← field_at 2 r
  if bit 5 flags.0 then fault_at r.at Debug else Ok flags

-- the bytes LIOR
abbrev pub signature_at : Reading → Result Reading HeadFault
signature_at r = do
  signature ← field_at 4 r
  if signature.0 == 0x524F494C then Ok signature.1 else fault_at r.at Signature

abbrev pub size_at : Reading → Result (ℕ × Reading) HeadFault
size_at r = do
  size ← field_at 4 r
  if nat_le MIN_PACKET size.0 && nat_le size.0 MAX_PACKET then Ok size else fault_at r.at Size

unfoldable pub base_at : Reading → Result (BaseHead × Reading) HeadFault
base_at r = do
  version ← version_at r
  reserved ← skipped 1 version
  flags ← flags_at reserved
  signature ← signature_at flags.1
  size ← size_at signature
  reach ← field_at 4 size.1
  Ok (
    record {
      priority = bits 0 3 flags.0;
      internal = bit 3 flags.0;
      session = bit 4 flags.0;
      size = size.0;
      reach = reach.0;
    },
    reach.1,
  )

abbrev pub head_of : {X : Type 0} → Result (X × Reading) HeadFault → Result X HeadFault
head_of (Ok x) = Ok x.0
head_of (Err fault) = Err fault

-- The base header at the front of bytes. That the packet's size is the count of the
-- bytes is not asked here.
abbrev pub base_of : List ℕ → Result BaseHead HeadFault
base_of bytes = if nat_lt (length bytes) 16 then fault_at (length bytes) Short
    else head_of (base_at (start bytes))

-- what holds of each base header that was read
pub record IsBaseRead (head : BaseHead) : Type 0 where
  pub priority : head.priority ≤ MAX_PRIORITY
  pub least : MIN_PACKET ≤ head.size
  pub most : head.size ≤ MAX_PACKET

-- A base header that may be written: an internal packet has no priority and no limit of time.
pub record IsBaseHead (head : BaseHead) : Type 0 where
  pub priority : head.priority ≤ MAX_PRIORITY
  pub least : MIN_PACKET ≤ head.size
  pub most : head.size ≤ MAX_PACKET
  pub internal : IsTrue head.internal → (head.priority ≡ 0) × (head.reach ≡ UNLIMITED)

abbrev pub base_flags : BaseHead → ℕ
base_flags head = head.priority + flag 3 head.internal + flag 4 head.session

abbrev pub plain_base : BaseHead → List ℕ
plain_base head = (0x10 ∷ 0 ∷ []) ++ bytes_of 2 (base_flags head) ++ bytes_of 4 0x524F494C
    ++ bytes_of 4 head.size ++ bytes_of 4 head.reach
