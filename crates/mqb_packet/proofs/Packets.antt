-- Packets, both ways.
use Rattle.std.proofs.Common.{◌≡◌, ◌≤◌, ◌<◌, ℕ, ◌+◌, ◌==◌, Bool, true, false, cond, ltb, eqb, List, [], ◌∷◌, ◌++◌, length, is_some, Option, Some, None, Result, Ok, Err, refl, sym, ap, subst, ◌∙◌, arith, length-append}
use Rattle.std.proofs.lemmas.Bool.{eqb-true, eq-eqb, le-ltb}
use Rattle.std.proofs.lemmas.List.{append-nil}
use Rattle.mqb_base.specs.declared.heads.SessionHead.{SessionHead}
use Rattle.mqb_base.specs.declared.heads.TxHead.{TxHead}
use Rattle.mqb_fields.specs.declared.faults.HeadFault.{HeadFault}
use Rattle.mqb_fields.specs.Faults.{past_end}
use Rattle.mqb_fields.specs.Packets.{skipped}
use Rattle.mqb_fields.specs.Reading.{◌>>=◌, Reading, rest_of, moved}
use Rattle.mqb_heads.specs.mqb_names.Grammar.{◌then◌, Exactly}
use Rattle.mqb_heads.specs.mqb_names.Wire.{start}
use Rattle.mqb_heads.specs.mqb_names.lemmas.Again.{rest_again}
use Rattle.mqb_heads.specs.declared.base.BaseHead.{BaseHead}
use Rattle.mqb_heads.specs.Base.{base_at, base_of, head_of}
use Rattle.mqb_heads.specs.Properties.{props_at}
use Rattle.mqb_heads.specs.Transactions.{tx_at}
use Rattle.mqb_heads.specs.User.{user_at}
use Rattle.mqb_heads.specs.lemmas.ReadLaws.{bind_ok, if_ok, unless_ok}
use Rattle.mqb_setup.specs.declared.internal.Internal as setup
use Rattle.mqb_setup.specs.Internals.{internal_at}
use Rattle.mqb_setup.specs.Sessions.{session_at}
use Rattle.mqb_packet.specs.Parts.{PacketParts, UserParts, User, Internal, some_head, head_if, user_parts_at, internal_parts_at, user_packet_at, parts_at, sized, ended, packet_of}
use Rattle.mqb_packet.specs.Forms.{Free, OptionalForm}
use Rattle.mqb_packet.specs.Grammar.{BaseForm, UserForm, TxForm, PropsForm, SessionForm, InternalForm, UserPacketForm, InternalPacketForm, IsPacketForm}
use Rattle.mqb_packet.proofs.Steps.{ok_is, Took, ◌&◌, in_form, Gives, gives_then, gives_last, opened}
use Rattle.mqb_packet.proofs.Fields.{skip_took, skip_passes}
use Rattle.mqb_packet.proofs.Bases.{base_took, base_gives, tx_took, tx_gives}
use Rattle.mqb_packet.proofs.Sessions.{session_took, session_gives, internal_took, internal_gives}
use Rattle.mqb_packet.proofs.Users.{nothing_took, user_took, user_gives}
use Rattle.mqb_packet.proofs.Properties.{props_took, props_gives}

-- a header that may be absent
abbrev OptionalTook : {X : Type 0} → Bool → (X → List ℕ → Type 0) → Reading → Option X × Reading → Type 0
OptionalTook present Form r x = (present ≡ is_some x.0) × Took (OptionalForm Form x.0) r x.1

some_took : {X : Type 0} (Form : X → List ℕ → Type 0) (r : Reading) (read : Result (X × Reading) HeadFault) (x : Option X × Reading)
    → ((n : X × Reading) → read ≡ Ok n → Took (Form n.0) r n.1) → some_head read ≡ Ok x → OptionalTook true Form r x
some_took {X = X} Form r (Ok n) x took e = subst (λ (x : Option X × Reading). OptionalTook true Form r x) (ok_is (Some n.0, n.1) x e) (refl, took n refl)
some_took Form r (Err d) x took e = absurd cc

head_took : {X : Type 0} (present : Bool) (head_at : Reading → Result (X × Reading) HeadFault) (Form : X → List ℕ → Type 0) (r : Reading) (x : Option X × Reading)
    → ((n : X × Reading) → head_at r ≡ Ok n → Took (Form n.0) r n.1) → head_if present head_at r ≡ Ok x → OptionalTook present Form r x
head_took true head_at Form r x took e = some_took Form r (head_at r) x took e
head_took {X = X} false head_at Form r x took e = subst (λ (x : Option X × Reading). OptionalTook false Form r x) (ok_is (None, r) x e) (refl, nothing_took r)

head_gives : {X : Type 0} (present : Bool) (head_at : Reading → Result (X × Reading) HeadFault) (Form : X → List ℕ → Type 0) (x : Option X)
    → present ≡ is_some x → ((head : X) → Gives head_at (Form head) head) → Gives (head_if present head_at) (OptionalForm Form x) x
head_gives present head_at Form None is gives r bytes rest e form =
    rw is (ap (λ (end : Reading). Ok (None, end)) (ap (λ (at : ℕ). record r { at = at }) (omega (arith, ap length form))))
head_gives present head_at Form (Some head) is gives r bytes rest e form = rw (is, gives head r bytes rest e form) refl

-- the headers behind the base header of a user packet
abbrev Headers : UserParts → List ℕ → Type 0
Headers parts = UserForm parts.user then OptionalForm TxForm parts.tx then PropsForm parts.props then OptionalForm SessionForm parts.session

record UserTook (base : BaseHead) (whole : List ℕ) (r : Reading) (x : UserParts × Reading) : Type 0 where
  pub base_is : x.0.base ≡ base
  pub whole_is : x.0.whole ≡ whole
  pub tx : x.0.user.transaction ≡ is_some x.0.tx
  pub session : base.session ≡ is_some x.0.session
  pub took : Took (Headers x.0) r x.1

user_parts_took : (base : BaseHead) (whole : List ℕ) (r : Reading) (x : UserParts × Reading) → user_parts_at base whole r ≡ Ok x → UserTook base whole r x
unfolding user_parts_at
user_parts_took base whole r x e =
    let user = bind_ok (user_at r) _ x e in
    let tx = bind_ok (head_if user.0.0.transaction tx_at user.0.1) _ x user.2 in
    let props = bind_ok (props_at tx.0.1) _ x tx.2 in
    let session = bind_ok (head_if base.session session_at props.0.1) _ x props.2 in
    let of_tx = head_took user.0.0.transaction tx_at TxForm user.0.1 tx.0 (λ n is. tx_took user.0.1 n is) tx.1 in
    let of_session = head_took base.session session_at SessionForm props.0.1 session.0 (λ n is. session_took props.0.1 n is) session.1 in
    subst (UserTook base whole r) (ok_is _ x session.2) (record {
      base_is = refl;
      whole_is = refl;
      tx = of_tx.0;
      session = of_session.0;
      took = user_took r user.0 user.1 & of_tx.1 & props_took tx.0.1 props.0 props.1 & of_session.1;
    })

-- the base header at the front of bytes
base_stands : (read : Result (BaseHead × Reading) HeadFault) (base : BaseHead) → head_of read ≡ Ok base → (end : Reading) × (read ≡ Ok (base, end))
base_stands (Ok x) base e = (x.1, ap (λ (base : BaseHead). Ok (base, x.1)) (ok_is x.0 base e))
base_stands (Err d) base e = absurd cc

pub base_length : (base : BaseHead) (bytes : List ℕ) → BaseForm base bytes → length bytes ≡ 16
base_length base bytes (flags, said, least, most, form) =
    let a = form in
    let b = a.4 in
    let c = b.4 in
    let d = c.4 in
    let f = d.4 in
    omega (
      arith,
      ap length a.2,
      length-append a.0 a.1,
      a.3.0,
      ap length b.2,
      length-append b.0 b.1,
      b.3,
      ap length c.2,
      length-append c.0 c.1,
      c.3.0,
      ap length d.2,
      length-append d.0 d.1,
      d.3.0,
      ap length f.2,
      length-append f.0 f.1,
      f.3.0,
      f.4.0,
    )

-- a packet, up to what it ends with
record Read (bytes : List ℕ) (parts : PacketParts) : Type 0 where
  pub base : BaseHead
  pub behind : Reading
  pub end : Reading
  pub head : Took (BaseForm base) (start bytes) behind
  pub size : base.size ≡ length bytes
  pub read : parts_at base bytes behind ≡ Ok (parts, end)
  pub nothing : rest_of end ≡ []

no_rest : (list : List ℕ) → (length list == 0) ≡ true → list ≡ []
no_rest [] e = refl
no_rest (b ∷ list) e = absurd (omega (arith, eqb-true (length (b ∷ list)) 0 e))

size_ok : (b : Bool) (read : Result Reading HeadFault) (end : Reading) → cond b read (Err past_end) ≡ Ok end → (b ≡ true) × (read ≡ Ok end)
size_ok true read end e = (refl, e)
size_ok false read end e = absurd cc

packet_read : (bytes : List ℕ) (parts : PacketParts) → packet_of bytes ≡ Ok parts → Read bytes parts
unfolding packet_of
packet_read bytes parts e =
    let base = bind_ok (base_of bytes) _ parts e in
    let behind = bind_ok (sized base.0 bytes) _ parts base.2 in
    let read = bind_ok (parts_at base.0 bytes behind.0) _ parts behind.2 in
    let long = unless_ok (ltb (length bytes) 16) _ (head_of (base_at (start bytes))) base.0 base.1 in
    let stands = base_stands (base_at (start bytes)) base.0 long.1 in
    let head = base_took (start bytes) (base.0, stands.0) stands.1 in
    let right = size_ok (base.0.size == length bytes) (skipped 16 (start bytes)) behind.0 behind.1 in
    let skip = skip_took 16 (start bytes) behind.0 right.1 in
    let same : stands.0 ≡ behind.0 =
    head.moves ∙ ap (λ (n : ℕ). moved n (start bytes)) (base_length base.0 head.part head.form ∙ sym skip.form) ∙ sym skip.moves in
    let over = if_ok (length (rest_of read.0.1) == 0) _ read.0.0 parts read.2 in
    record {
      base = base.0;
      behind = behind.0;
      end = read.0.1;
      head = subst (λ (end : Reading). Took (BaseForm base.0) (start bytes) end) same head;
      size = eqb-true _ _ right.0;
      read = read.1 ∙ ap (λ (parts : PacketParts). Ok (parts, read.0.1)) over.1;
      nothing = no_rest (rest_of read.0.1) over.0;
    }

-- what was read from a place to the end of the bytes is all that stands there
all_of : {Form : List ℕ → Type 0} (bytes : List ℕ) (end : Reading) → Took Form (start bytes) end → rest_of end ≡ [] → Form bytes
all_of {Form = Form} bytes end took nothing =
    subst Form (sym (took.split ∙ ap (λ (t : List ℕ). took.part ++ t) nothing ∙ append-nil took.part)) took.form

user_form : (bytes : List ℕ) (base : BaseHead) (behind : Reading) (parts : PacketParts) (end : Reading) → Took (BaseForm base) (start bytes) behind → base.size ≡ length bytes
    → base.internal ≡ false → user_packet_at base bytes behind ≡ Ok (parts, end) → rest_of end ≡ [] → IsPacketForm parts bytes
user_form bytes base behind parts end head size internal e nothing =
    let user = bind_ok (user_parts_at base bytes behind) _ (parts, end) e in
    let is = ok_is _ (parts, end) user.2 in
    let read = user_parts_took base bytes behind user.0 user.1 in
    let over : rest_of user.0.1 ≡ [] = ap (λ (x : PacketParts × Reading). rest_of x.1) is ∙ nothing in
    let base_is = sym read.base_is in
    subst (λ (parts : PacketParts). IsPacketForm parts bytes) (ap (λ (x : PacketParts × Reading). x.0) is) (record {
      headers = all_of bytes user.0.1 (subst (λ (base : BaseHead). Took (BaseForm base) (start bytes) behind) base_is head & read.took) over;
      internal = ap (λ (base : BaseHead). base.internal) read.base_is ∙ internal;
      tx = read.tx;
      session = ap (λ (base : BaseHead). base.session) read.base_is ∙ read.session;
      size = ap (λ (base : BaseHead). base.size) read.base_is ∙ size;
      whole = read.whole_is;
    })

internal_form : (bytes : List ℕ) (base : BaseHead) (behind : Reading) (parts : PacketParts) (end : Reading) → Took (BaseForm base) (start bytes) behind → base.size ≡ length bytes
    → base.internal ≡ true → internal_parts_at behind ≡ Ok (parts, end) → rest_of end ≡ [] → IsPacketForm parts bytes
internal_form bytes base behind parts end head size is_internal e nothing =
    let internal = bind_ok (internal_at behind) _ (parts, end) e in
    let is = ok_is _ (parts, end) internal.2 in
    let over : rest_of internal.0.1 ≡ [] = ap (λ (x : PacketParts × Reading). rest_of x.1) is ∙ nothing in
    subst (λ (parts : PacketParts). IsPacketForm parts bytes) (ap (λ (x : PacketParts × Reading). x.0) is) (record {
      base = base;
      headers = all_of bytes internal.0.1 (head & internal_took behind internal.0 internal.1) over;
      is_internal = is_internal;
      size = size;
    })

pub packet_form : (bytes : List ℕ) (parts : PacketParts) → packet_of bytes ≡ Ok parts → IsPacketForm parts bytes
packet_form bytes parts e =
    let p = packet_read bytes parts e in
    elim p.base.internal as (λ v. p.base.internal ≡ v → cond v (internal_parts_at p.behind) (user_packet_at p.base bytes p.behind) ≡ Ok (parts, p.end) → IsPacketForm parts bytes) [
      | true ↦ λ is read. internal_form bytes p.base p.behind parts p.end p.head p.size is read p.nothing
      | false ↦ λ is read. user_form bytes p.base p.behind parts p.end p.head p.size is read p.nothing
    ] refl p.read

-- Bytes that begin with a base header of their size are read as what is behind it.
behind_base : (bytes rest : List ℕ) (base : BaseHead) (front : List ℕ) (parts : PacketParts) → front ++ rest ≡ bytes → BaseForm base front → base.size ≡ length bytes
    → parts_at base bytes (moved (length front) (start bytes)) ≡ Ok (parts, moved (length rest) (moved (length front) (start bytes))) → packet_of bytes ≡ Ok parts
unfolding packet_of
behind_base bytes rest base front parts whole form size read =
    let r = start bytes in
    let sixteen : length front ≡ 16 = base_length base front form in
    let here : rest_of r ≡ front ++ rest = sym whole in
    let long : ltb (length bytes) 16 ≡ false = le-ltb _ _ (omega (arith, ap length whole, length-append front rest, sixteen)) in
    let base_is : base_of bytes ≡ Ok base = rw (long, base_gives base r front rest here form) refl in
    let same : eqb base.size (length bytes) ≡ true = eq-eqb _ _ size in
    let skip : skipped 16 r ≡ Ok (moved (length front) r) = skip_passes 16 r front rest here sixteen in
    let sized_is : sized base bytes ≡ Ok (moved (length front) r) = rw same skip in
    let behind : rest_of (moved (length front) r) ≡ rest ++ [] = rest_again r front rest (length front) refl here ∙ sym (append-nil rest) in
    let nothing : rest_of (moved (length rest) (moved (length front) r)) ≡ [] = rest_again (moved (length front) r) rest [] (length rest) refl behind in
    rw (base_is, sized_is, read, nothing) refl

user_parts_give : (parts : UserParts) → parts.user.transaction ≡ is_some parts.tx → parts.base.session ≡ is_some parts.session
    → Gives (user_parts_at parts.base parts.whole) (Headers parts) parts
unfolding user_parts_at
user_parts_give parts tx session =
    gives_then user_at _ (UserForm parts.user) _ parts.user parts (user_gives parts.user)
    (gives_then (head_if parts.user.transaction tx_at) _ (OptionalForm TxForm parts.tx) _ parts.tx parts (head_gives parts.user.transaction tx_at TxForm parts.tx tx tx_gives)
    (gives_then props_at _ (PropsForm parts.props) _ parts.props parts (props_gives parts.props)
    (gives_last (head_if parts.base.session session_at)
    (λ (session : Option SessionHead). record { base = parts.base; user = parts.user; tx = parts.tx; props = parts.props; session = session; whole = parts.whole })
    (OptionalForm SessionForm parts.session) parts.session (head_gives parts.base.session session_at SessionForm parts.session session session_gives))))

pub packet_spelled : (bytes : List ℕ) (parts : PacketParts) → IsPacketForm parts bytes → packet_of bytes ≡ Ok parts
packet_spelled bytes (User parts) form =
    let (front, rest, whole, is_base, is_rest) = form.headers in
    let r = moved (length front) (start bytes) in
    let behind : rest_of r ≡ rest ++ [] = rest_again (start bytes) front rest (length front) refl (sym whole) ∙ sym (append-nil rest) in
    let read = user_parts_give parts form.tx form.session r rest [] behind is_rest in
    let all : user_parts_at parts.base bytes r ≡ Ok (parts, moved (length rest) r) = ap (λ (t : List ℕ). user_parts_at parts.base t r) (sym form.whole) ∙ read in
    let packet : user_packet_at parts.base bytes r ≡ Ok (User parts, moved (length rest) r) = ap (λ t. t >>= (λ (x : UserParts × Reading). Ok (User x.0, x.1))) all in
    behind_base bytes rest parts.base front (User parts) whole is_base form.size
    (subst (λ (v : Bool). cond v (internal_parts_at r) (user_packet_at parts.base bytes r) ≡ Ok (User parts, moved (length rest) r)) (sym form.internal) packet)
packet_spelled bytes (Internal internal) form =
    let (front, rest, whole, is_base, is_rest) = form.headers in
    let r = moved (length front) (start bytes) in
    let behind : rest_of r ≡ rest ++ [] = rest_again (start bytes) front rest (length front) refl (sym whole) ∙ sym (append-nil rest) in
    let read = internal_gives internal r rest [] behind is_rest in
    behind_base bytes rest form.base front (Internal internal) whole is_base form.size (rw (form.is_internal, read) refl)
