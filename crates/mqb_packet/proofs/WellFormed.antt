-- What is read spells a packet, which may be written.
use Rattle.std.proofs.Common.{◌≡◌, ◌≤◌, ℕ, ◌*◌, ◌==◌, Bool, true, false, cond, ltb, is_some, List, length, drop, Option, Some, None, option_map, option_and_then, Result, Ok, Err, refl, sym, ap, subst, ◌∙◌, arith}
use Rattle.std.specs.Prelude.{IfSome, IsTrue}
use Rattle.std.specs.Result.{result_ok}
use Rattle.mqb_base.specs.declared.heads.TxHead.{TxHead}
use Rattle.mqb_base.specs.declared.message.Message.{Message}
use Rattle.mqb_base.specs.declared.queue_names.Host.{Host}
use Rattle.mqb_base.specs.declared.queue_names.QueueName.{QueueName}
use Rattle.mqb_base.specs.declared.queue_names.QueueName.TheVariants.{Public, Private, Direct}
use Rattle.mqb_base.specs.Messages.{IsWellFormed}
use Rattle.mqb_base.specs.QueueNames.{names_queue, absent_or_queue}
use Rattle.mqb_fields.specs.Reading.{◌>>=◌, Reading, rest_of, number_at, guid_at}
use Rattle.mqb_heads.specs.mqb_names.Wire.{start, text_of, direct_of, direct_from, public_from, private_from, spelled}
use Rattle.mqb_heads.specs.declared.base.BaseHead.{BaseHead}
use Rattle.mqb_heads.specs.Base.{IsBaseRead, base_of}
use Rattle.mqb_heads.specs.Fields.{WireName}
use Rattle.mqb_heads.specs.Properties.{IsPropsRead, props_at}
use Rattle.mqb_heads.specs.Transactions.{tx_at}
use Rattle.mqb_heads.specs.User as heads
use Rattle.mqb_heads.specs.lemmas.ReadLaws.{bind_ok, if_ok, base_read, user_read, props_read}
use Rattle.mqb_setup.specs.declared.internal.Internal.TheVariants as part
use Rattle.mqb_setup.specs.Internals.{internal_at}
use Rattle.mqb_setup.specs.Sessions.{session_at}
use Rattle.mqb_packet.specs.declared.packet.Packet.{Packet}
use Rattle.mqb_packet.specs.declared.packet.Packet.TheVariants as packet
use Rattle.mqb_packet.specs.declared.packet.UserPacket.{UserPacket}
use Rattle.mqb_packet.specs.Parts.{PacketParts, UserParts, User, Internal, head_if, user_parts_at, internal_parts_at, user_packet_at, parts_at, sized, packet_of}
use Rattle.mqb_packet.specs.Plain.{IsWellFormedUser, IsWellFormedPacket}
use Rattle.mqb_packet.specs.Spelled.{units_of, name_in, optional_name_in, delivery_of, message_with, message_in, user_packet, packet_in, Spells}
use Rattle.mqb_packet.proofs.LabelUnits.{length_units}

abbrev done : {X E : Type 0} → X → Result X E
done x = Ok x

ok_is : {X E : Type 0} (x y : X) → done {X = X} {E = E} x ≡ done y → x ≡ y
ok_is x y e = cc

some_is : {X : Type 0} (x y : X) → Some x ≡ Some y → x ≡ y
some_is x y e = cc

then_some : {A B : Type 0} (f : A → Option B) (o : Option A) (y : B) → option_and_then f o ≡ Some y → (x : A) × (o ≡ Some x) × (f x ≡ Some y)
then_some f (Some x) y e = (x, refl, e)
then_some f None y e = absurd cc

map_some : {A B : Type 0} (f : A → B) (o : Option A) (y : B) → option_map f o ≡ Some y → (x : A) × (o ≡ Some x) × (f x ≡ y)
map_some f (Some x) y e = (x, refl, cc)
map_some f None y e = absurd cc

result_some : {X E : Type 0} (r : Result X E) (y : X) → result_ok r ≡ Some y → r ≡ Ok y
result_some {X = X} (Ok x) y e = ap (λ (z : X). Ok z) (some_is x y e)
result_some (Err d) y e = absurd cc

-- what was read of a user packet
pub record IsPartsRead (parts : UserParts) : Type 0 where
  pub base : IsBaseRead parts.base
  pub user : heads.IsUserRead parts.user
  pub props : IsPropsRead parts.props

user_parts_read : (base : BaseHead) (whole : List ℕ) (r : Reading) (parts : UserParts) (end : Reading) → IsBaseRead base → user_parts_at base whole r ≡ Ok (parts, end) → IsPartsRead parts
unfolding user_parts_at
user_parts_read base whole r parts end valid e =
    let user = bind_ok (heads.user_at r) _ (parts, end) e in
    let tx = bind_ok (head_if user.0.0.transaction tx_at user.0.1) _ (parts, end) user.2 in
    let props = bind_ok (props_at tx.0.1) _ (parts, end) tx.2 in
    let session = bind_ok (head_if base.session session_at props.0.1) _ (parts, end) props.2 in
    subst (λ (p : UserParts × Reading). IsPartsRead p.0) (ok_is _ _ session.2)
    (record { base = valid; user = user_read r user.0.0 user.0.1 user.1; props = props_read tx.0.1 props.0.0 props.0.1 props.1 })

abbrev pub IsRead : PacketParts → Type 0
IsRead (User parts) = IsPartsRead parts
IsRead (Internal inner) = Unit {0}

parts_read : (base : BaseHead) (whole : List ℕ) (r : Reading) (parts : PacketParts) (end : Reading) → IsBaseRead base → parts_at base whole r ≡ Ok (parts, end) → IsRead parts
parts_read base whole r parts end valid e = elim base.internal as (λ v. cond v (internal_parts_at r) (user_packet_at base whole r) ≡ Ok (parts, end) → IsRead parts) [
  | true ↦ λ read.
      let inner = bind_ok (internal_at r) _ (parts, end) read in
      subst (λ (p : PacketParts × Reading). IsRead p.0) (ok_is _ _ inner.2) tt
  | false ↦ λ read.
      let user = bind_ok (user_parts_at base whole r) _ (parts, end) read in
      subst (λ (p : PacketParts × Reading). IsRead p.0) (ok_is _ _ user.2) (user_parts_read base whole r user.0.0 user.0.1 valid user.1)
] e

pub packet_read : (bytes : List ℕ) (parts : PacketParts) → packet_of bytes ≡ Ok parts → IsRead parts
unfolding packet_of
packet_read bytes parts e =
    let base = bind_ok (base_of bytes) _ parts e in
    let behind = bind_ok (sized base.0 bytes) _ parts base.2 in
    let found = bind_ok (parts_at base.0 bytes behind.0) _ parts behind.2 in
    let ended = if_ok (length (rest_of found.0.1) == 0) _ found.0.0 parts found.2 in
    subst IsRead ended.1 (parts_read base.0 bytes behind.0 found.0.0 found.0.1 (base_read bytes base.0 base.1) found.1)

-- A name that is spelled names a queue.

public_queue : (bytes : List ℕ) (name : QueueName) → result_ok (public_from (start bytes)) ≡ Some name → names_queue name ≡ true
public_queue bytes name e =
    let guid = bind_ok (guid_at (start bytes)) _ name (result_some _ name e) in
    sym (ap names_queue (ok_is _ _ guid.2))

private_queue : (bytes : List ℕ) (name : QueueName) → result_ok (private_from (start bytes)) ≡ Some name → names_queue name ≡ true
private_queue bytes name e =
    let qm = bind_ok (guid_at (start bytes)) _ name (result_some _ name e) in
    let number = bind_ok (number_at 4 qm.0.1) _ name qm.2 in
    sym (ap names_queue (ok_is _ _ number.2))

abbrev direct_named : Host × List ℕ → QueueName
direct_named direct = Direct direct.0 direct.1 false

direct_queue : (units : List ℕ) (name : QueueName) → direct_from units ≡ Some name → names_queue name ≡ true
direct_queue units name e = elim (ltb 282 (length units)) as (λ v. cond v None (option_map direct_named (option_and_then direct_of (text_of units))) ≡ Some name → names_queue name ≡ true) [
  | true ↦ λ none. absurd cc
  | false ↦ λ some. let found = map_some direct_named (option_and_then direct_of (text_of units)) name some in sym (ap names_queue found.2)
] e

one_of : (a b c : Bool) (x y z : Option QueueName) (name : QueueName) → (x ≡ Some name → names_queue name ≡ true) → (y ≡ Some name → names_queue name ≡ true) → (z ≡ Some name → names_queue name ≡ true)
    → cond a x (cond b y (cond c z None)) ≡ Some name → names_queue name ≡ true
one_of true b c x y z name p q s e = p e
one_of false true c x y z name p q s e = q e
one_of false false true x y z name p q s e = s e
one_of false false false x y z name p q s e = absurd cc

name_queue : (name : WireName) (queue : QueueName) → name_in name ≡ Some queue → names_queue queue ≡ true
unfolding spelled
name_queue name queue e =
    one_of (name.kind == 1) (name.kind == 2) (name.kind == 3) _ _ _ queue (public_queue name.part queue) (private_queue name.part queue) (direct_queue (drop 2 name.part) queue) e

optional_queue : (name : Option WireName) (queue : Option QueueName) → optional_name_in name ≡ Some queue → absent_or_queue queue ≡ true
optional_queue None queue e = sym (ap absent_or_queue (some_is None queue e))
optional_queue (Some name) queue e =
    let found = map_some (λ (q : QueueName). Some q) (name_in name) queue e in
    sym (ap absent_or_queue found.2) ∙ name_queue name found.0 found.1

-- what holds of the names of a message
pub record AreQueues (destination : QueueName) (admin response : Option QueueName) : Type 0 where
  pub destination_is : names_queue destination ≡ true
  pub admin_is : absent_or_queue admin ≡ true
  pub response_is : absent_or_queue response ≡ true

message_is : (parts : UserParts) (destination : QueueName) (admin response : Option QueueName) → IsPartsRead parts → AreQueues destination admin response → IsWellFormed (message_with parts destination admin response)
message_is parts destination admin response read queues = record {
  priority = read.base.priority;
  ack = read.props.ack;
  journal = read.user.journal;
  label = let len = length_units parts.props.label read.props.label.0 read.props.label.2 in omega (arith, len, read.props.label.1);
  class = read.props.class;
  destination = queues.destination_is;
  admin = queues.admin_is;
  response = queues.response_is;
}

transactional_is : (transaction recoverable : Bool) → transaction ≡ heads.is_transactional (delivery_of transaction recoverable)
transactional_is true recoverable = refl
transactional_is false true = refl
transactional_is false false = refl

user_is : (parts : UserParts) (destination : QueueName) (admin response : Option QueueName) → IsPartsRead parts → AreQueues destination admin response
    → IsWellFormedUser (user_packet parts (message_with parts destination admin response))
user_is parts destination admin response read queues = record {
  message = message_is parts destination admin response read queues;
  tx = transactional_is (is_some parts.tx) parts.user.recoverable;
  reach = refl;
}

pub user_well_formed : (parts : UserParts) (user : UserPacket) → IsPartsRead parts → option_map (user_packet parts) (message_in parts) ≡ Some user → IsWellFormedUser user
user_well_formed parts user read e =
    let message = map_some (user_packet parts) (message_in parts) user e in
    let destination = then_some _ (name_in parts.user.destination) message.0 message.1 in
    let admin = then_some _ (optional_name_in parts.user.admin) message.0 destination.2 in
    let response = map_some _ (optional_name_in parts.user.response) message.0 admin.2 in
    let queues : AreQueues destination.0 admin.0 response.0 = record {
      destination_is = name_queue parts.user.destination destination.0 destination.1;
      admin_is = optional_queue parts.user.admin admin.0 admin.1;
      response_is = optional_queue parts.user.response response.0 response.1;
    } in
    let whole : user_packet parts (message_with parts destination.0 admin.0 response.0) ≡ user = ap (user_packet parts) response.2 ∙ message.2 in
    subst IsWellFormedUser whole (user_is parts destination.0 admin.0 response.0 read queues)

-- Each part that was read spells a packet.

some_of : {X : Type 0} (o : Option X) → is_some o ≡ true → (x : X) × (o ≡ Some x)
some_of (Some x) is = (x, refl)
some_of None is = absurd cc

optional_of : (name : Option WireName) → IfSome name heads.IsNameRead → (queue : Option QueueName) × (optional_name_in name ≡ Some queue)
optional_of None read = (None, refl)
optional_of (Some name) read = let queue = some_of (name_in name) read.1 in (Some queue.0, ap (option_map (λ (q : QueueName). Some q)) queue.1)

message_said : (parts : UserParts) (destination : QueueName) (admin response : Option QueueName) → name_in parts.user.destination ≡ Some destination → optional_name_in parts.user.admin ≡ Some admin
    → optional_name_in parts.user.response ≡ Some response → message_in parts ≡ Some (message_with parts destination admin response)
message_said parts destination admin response to_it for_admin for_response = rw (to_it, for_admin, for_response) refl

user_said : (parts : UserParts) → IsPartsRead parts → (user : UserPacket) × (option_map (user_packet parts) (message_in parts) ≡ Some user)
user_said parts read =
    let destination = some_of (name_in parts.user.destination) read.user.destination.1 in
    let admin = optional_of parts.user.admin read.user.admin in
    let response = optional_of parts.user.response read.user.response in (
      user_packet parts (message_with parts destination.0 admin.0 response.0),
      ap (option_map (user_packet parts)) (message_said parts destination.0 admin.0 response.0 destination.1 admin.1 response.1),
    )

pub said_packet : (bytes : List ℕ) (parts : PacketParts) → packet_of bytes ≡ Ok parts → IsRead parts → (p : Packet) × Spells p bytes × IsWellFormedPacket p
said_packet bytes (User parts) e read =
    let user = user_said parts read in
    let message = map_some (user_packet parts) (message_in parts) user.0 user.1 in
    let said : packet_in (User parts) ≡ Some (packet.User user.0) =
    ap (option_map (λ (m : Message). packet.User (user_packet parts m))) message.1 ∙ ap (λ (u : UserPacket). Some (packet.User u)) message.2 in
    (packet.User user.0, record { parts = User parts; read = e; said = said }, user_well_formed parts user.0 read user.1)
said_packet bytes (Internal (part.Establish establish)) e read = (packet.Establish establish, record { parts = Internal (part.Establish establish); read = e; said = refl }, tt)
said_packet bytes (Internal (part.Parameters parameters)) e read = (packet.Parameters parameters, record { parts = Internal (part.Parameters parameters); read = e; said = refl }, tt)
said_packet bytes (Internal (part.Ack head)) e read = (packet.Ack head, record { parts = Internal (part.Ack head); read = e; said = refl }, tt)

pub one_packet : (a b : Packet) (bytes : List ℕ) → Spells a bytes → Spells b bytes → a ≡ b
one_packet a b bytes p q =
    let parts : p.parts ≡ q.parts = ok_is p.parts q.parts (sym p.read ∙ q.read) in
    some_is a b (sym p.said ∙ ap packet_in parts ∙ q.said)
