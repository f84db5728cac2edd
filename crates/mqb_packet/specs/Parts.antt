-- What a list of bytes says as a packet, and the first fault of one that is no packet.
use Rattle.std.specs.Prelude.{ℕ, ◌==◌, Bool, List, length, Option, Some, None, Result, Ok}
use Rattle.std.specs.Prelude.{Err, if◌then◌else◌}
use Rattle.mqb_base.specs.declared.heads.SessionHead.{SessionHead}
use Rattle.mqb_base.specs.declared.heads.TxHead.{TxHead}
use Rattle.mqb_fields.specs.declared.faults.HeadFault.{HeadFault}
use Rattle.mqb_fields.specs.Faults.{past_end}
use Rattle.mqb_fields.specs.Reading.{◌>>=◌, Reading, rest_of}
use Rattle.mqb_heads.specs.mqb_names.Wire.{start}
use Rattle.mqb_heads.specs.declared.base.BaseHead.{BaseHead}
use Rattle.mqb_heads.specs.Base.{base_of}
use Rattle.mqb_fields.specs.Packets.{skipped}
use Rattle.mqb_heads.specs.Properties.{Props, seen_props, props_at}
use Rattle.mqb_heads.specs.Transactions.{tx_at}
use Rattle.mqb_heads.specs.User as heads
use Rattle.mqb_setup.specs.declared.internal.Internal as setup
use Rattle.mqb_setup.specs.declared.internal.Internal.TheVariants as part
use Rattle.mqb_setup.specs.Internals.{internal_at}
use Rattle.mqb_setup.specs.Sessions.{session_at}
use Rattle.mqb_packet.specs.declared.lent.PacketView.{PacketView}
use Rattle.mqb_packet.specs.declared.lent.PacketView.TheVariants as view
use Rattle.mqb_packet.specs.declared.lent.UserView.{UserView}

-- what a user packet says, and all of its bytes
pub record UserParts : Type 0 where
  pub base : BaseHead
  pub user : heads.User
  pub tx : Option TxHead
  pub props : Props
  pub session : Option SessionHead
  pub whole : List ℕ

pub data PacketParts : Type 0 where
  User : UserParts → PacketParts
  Internal : setup.Internal → PacketParts

abbrev pub seen_user : UserView → UserParts
seen_user view = record {
  base = view.base;
  user = heads.seen_user view.user;
  tx = view.tx;
  props = seen_props view.props;
  session = view.session;
  whole = view.whole.now;
}

abbrev pub seen_packet : PacketView → PacketParts
seen_packet (view.User user) = User (seen_user user)
seen_packet (view.Establish establish) = Internal (part.Establish establish)
seen_packet (view.Parameters parameters) = Internal (part.Parameters parameters)
seen_packet (view.Ack head) = Internal (part.Ack head)

abbrev pub seen : Result PacketView HeadFault → Result PacketParts HeadFault
seen (Ok view) = Ok (seen_packet view)
seen (Err fault) = Err fault

abbrev pub some_head : {X : Type 0} → Result (X × Reading) HeadFault
    → Result (Option X × Reading) HeadFault
some_head (Ok head) = Ok (Some head.0, head.1)
some_head (Err fault) = Err fault

-- a header that is there only where a flag says so
abbrev pub head_if : {X : Type 0} → Bool → (Reading → Result (X × Reading) HeadFault) → Reading
    → Result (Option X × Reading) HeadFault
head_if present head_at r = if present then some_head (head_at r) else Ok (None, r)

unfoldable pub user_parts_at : BaseHead → List ℕ → Reading → Result (UserParts × Reading) HeadFault
user_parts_at base whole r = do
  user ← heads.user_at r
  tx ← head_if user.0.transaction tx_at user.1
  props ← props_at tx.1
  session ← head_if base.session session_at props.1
  Ok (
    record {
      base = base;
      user = user.0;
      tx = tx.0;
      props = props.0;
      session = session.0;
      whole = whole;
    },
    session.1,
  )

abbrev pub internal_parts_at : Reading → Result (PacketParts × Reading) HeadFault
internal_parts_at r = do
  internal ← internal_at r
  Ok (Internal internal.0, internal.1)

abbrev pub user_packet_at : BaseHead → List ℕ → Reading → Result (PacketParts × Reading) HeadFault
user_packet_at base whole r = do
  parts ← user_parts_at base whole r
  Ok (User parts.0, parts.1)

-- the parts behind the base header
abbrev pub parts_at : BaseHead → List ℕ → Reading → Result (PacketParts × Reading) HeadFault
parts_at base whole r = if base.internal then internal_parts_at r else user_packet_at base whole r

-- The size is the count of all bytes.
abbrev pub sized : BaseHead → List ℕ → Result Reading HeadFault
sized base bytes = if base.size == length bytes then skipped 16 (start bytes) else Err past_end

-- Nothing follows the last part.
abbrev pub ended : PacketParts × Reading → Result PacketParts HeadFault
ended parts = if length (rest_of parts.1) == 0 then Ok parts.0 else Err past_end

-- the packet that these bytes are, all of them
unfoldable pub packet_of : List ℕ → Result PacketParts HeadFault
packet_of bytes = do
  base ← base_of bytes
  behind ← sized base bytes
  parts ← parts_at base bytes behind
  ended parts
