-- What a header that was read is, and how long its plain form is.
use Rattle.std.proofs.Common.{◌≡◌, ◌≤◌, ◌<◌, ℕ, ◌+◌, ◌*◌, ◌-◌, ◌^◌, List, [], ◌∷◌, ◌++◌, length, Option, Some, None, sym, ap, subst, ◌∙◌, arith, length-append}
use Rattle.std.specs.Prelude.{All, IfSome, IsTrue}
use Rattle.std.specs.List.{AllByRecursion}
use Rattle.std.proofs.lemmas.List.Elements.{All-from_recursion}
use Rattle.mqb_base.specs.declared.ids.Guid.{Guid}
use Rattle.mqb_base.specs.declared.ids.MessageId.{MessageId}
use Rattle.mqb_base.specs.declared.heads.SessionHead.{SessionHead}
use Rattle.mqb_base.specs.declared.heads.TxHead.{TxHead}
use Rattle.mqb_base.specs.declared.message.Message.{Message}
use Rattle.mqb_base.specs.declared.queue_names.QueueName.{QueueName}
use Rattle.mqb_base.specs.Classes.{is_class}
use Rattle.mqb_heads.specs.mqb_names.Values.{AreBytes}
use Rattle.mqb_heads.specs.mqb_names.Wire.{wire}
use Rattle.mqb_heads.specs.declared.base.BaseHead.{BaseHead}
use Rattle.mqb_heads.specs.Fields.{padding, wire_or_none}
use Rattle.mqb_heads.specs.Flags.{bits}
use Rattle.mqb_heads.specs.Properties.{Props, props_size}
use Rattle.mqb_heads.specs.User.{user_names, user_size}
use Rattle.mqb_heads.specs.User as heads
use Rattle.mqb_heads.specs.Values.{IsMessageId, IsTxHead}
use Rattle.mqb_setup.specs.Widths.{IsSessionHead}
use Rattle.mqb_packet.specs.Plain.{tx_size, session_size}
use Rattle.mqb_packet.specs.Spelled.{units_of, name_in, optional_name_in}
use Rattle.mqb_packet.specs.Forms.{GuidForm, IdForm, Number, OptionalForm}
use Rattle.mqb_packet.specs.Grammar.{BaseForm, UserForm, TxForm, PropsForm, SessionForm}
use Rattle.mqb_packet.proofs.Bytes.{AreSmall, both_small, both_long, two_small, four_small, swapped_small}
use Rattle.mqb_packet.proofs.ReadNames.{IsReadName, IsReadOption, form_is_read, option_is_read}

-- a count and what it is padded with
abbrev whole : ℕ → ℕ
whole count = count + padding count

whole_more : (a b : ℕ) → a ≤ b → whole a ≤ whole b
whole_more a b less = omega (arith, less)

padded_long : (bytes head pad : List ℕ) → head ++ pad ≡ bytes → length pad ≡ padding (length head) → length bytes ≡ whole (length head)
padded_long bytes head pad all len = both_long bytes head pad all ∙ ap (λ (n : ℕ). length head + n) len

-- fields
guid_in : (guid : Guid) (bytes : List ℕ) → AreSmall bytes → GuidForm guid bytes → AreBytes 16 guid.0
guid_in guid bytes small form = subst (AreBytes 16) form.1 (swapped_small bytes small form.0)

half_in : (number : ℕ) (bytes : List ℕ) → AreSmall bytes → Number 2 number bytes → number < 2 ^ 16
half_in number bytes small form = subst (λ (n : ℕ). n < 2 ^ 16) form.1 (two_small bytes small form.0)

word_in : (number : ℕ) (bytes : List ℕ) → AreSmall bytes → Number 4 number bytes → number < 2 ^ 32
word_in number bytes small form = subst (λ (n : ℕ). n < 2 ^ 32) form.1 (four_small bytes small form.0)

id_in : (id : MessageId) (bytes : List ℕ) → AreSmall bytes → IdForm id bytes → IsMessageId id
id_in id bytes small form =
    let both = both_small bytes form.0 form.1 form.2 small in
    record { qm = guid_in id.qm form.0 both.0 form.3; number = word_in id.number form.1 both.1 form.4 }

-- the user header
pub record IsUserRead (user : heads.User) (destination : QueueName) (admin response : Option QueueName) (bytes : List ℕ) : Type 0 where
  pub first : List ℕ
  pub second : List ℕ
  pub third : List ℕ
  pub destination_is : IsReadName first destination
  pub admin_is : IsReadOption second admin
  pub response_is : IsReadOption third response
  pub size : length bytes ≡ whole (48 + (length first + (length second + length third)))
  pub journal : user.journal ≤ 3
  pub source : AreBytes 16 user.source.0
  pub target : AreBytes 16 user.target.0
  pub life : user.life < 2 ^ 32
  pub sent : user.sent < 2 ^ 32
  pub number : user.number < 2 ^ 32

few_bits : (word n : ℕ) → n ≡ bits 11 2 word → n ≤ 3
few_bits word n is = omega (arith, is)

pub user_read : (user : heads.User) (destination : QueueName) (admin response : Option QueueName) (bytes : List ℕ) → AreSmall bytes → UserForm user bytes
    → name_in user.destination ≡ Some destination → optional_name_in user.admin ≡ Some admin → optional_name_in user.response ≡ Some response
    → IsUserRead user destination admin response bytes
user_read user destination admin response bytes small (head, pad, all, (word, said, form), len) one two three =
    let f1 = form.4 in
    let f2 = f1.4 in
    let f3 = f2.4 in
    let f4 = f3.4 in
    let f5 = f4.4 in
    let names = f5.4 in
    let rest = names.4 in
    let s0 = (both_small bytes head pad all small).0 in
    let s1 = both_small head form.0 form.1 form.2 s0 in
    let s2 = both_small form.1 f1.0 f1.1 f1.2 s1.1 in
    let s3 = both_small f1.1 f2.0 f2.1 f2.2 s2.1 in
    let s4 = both_small f2.1 f3.0 f3.1 f3.2 s3.1 in
    let s5 = both_small f3.1 f4.0 f4.1 f4.2 s4.1 in
    let s6 = (both_small f4.1 f5.0 f5.1 f5.2 s5.1).1 in
    let s7 = both_small f5.1 names.0 names.1 names.2 s6 in
    let s8 = both_small names.1 rest.0 rest.1 rest.2 s7.1 in
    let total : length head ≡ 48 + (length names.0 + (length rest.0 + length rest.1)) =
    omega (
      arith,
      both_long head form.0 form.1 form.2,
      form.3.0,
      both_long form.1 f1.0 f1.1 f1.2,
      f1.3.0,
      both_long f1.1 f2.0 f2.1 f2.2,
      f2.3.0,
      both_long f2.1 f3.0 f3.1 f3.2,
      f3.3.0,
      both_long f3.1 f4.0 f4.1 f4.2,
      f4.3.0,
      both_long f4.1 f5.0 f5.1 f5.2,
      f5.3.0,
      both_long f5.1 names.0 names.1 names.2,
      both_long names.1 rest.0 rest.1 rest.2,
    ) in
    record {
      first = names.0;
      second = rest.0;
      third = rest.1;
      destination_is = form_is_read user.destination names.0 destination s7.0 names.3 one;
      admin_is = option_is_read user.admin rest.0 admin s8.0 rest.3 two;
      response_is = option_is_read user.response rest.1 response s8.1 rest.4 three;
      size = padded_long bytes head pad all len ∙ ap whole total;
      journal = few_bits word user.journal said.journal;
      source = guid_in user.source form.0 s1.0 form.3;
      target = guid_in user.target f1.0 s2.0 f1.3;
      life = word_in user.life f2.0 s3.0 f2.3;
      sent = word_in user.sent f3.0 s4.0 f3.3;
      number = word_in user.number f4.0 s5.0 f4.3;
    }

pub user_long : (user : heads.User) (m : Message) (bytes : List ℕ) → IsUserRead user m.destination m.admin m.response bytes → user_size m ≡ length bytes
user_long user m bytes read =
    let names : length (user_names m) ≡ length read.first + (length read.second + length read.third) =
    omega (
      arith,
      length-append (wire m.destination ++ wire_or_none m.admin) (wire_or_none m.response),
      length-append (wire m.destination) (wire_or_none m.admin),
      read.destination_is.size,
      read.admin_is.size,
      read.response_is.size,
    ) in
    ap (λ (n : ℕ). whole (48 + n)) names ∙ sym read.size

-- the properties header
pub record IsPropsRead (props : Props) (bytes : List ℕ) : Type 0 where
  pub units : ℕ
  pub ack : props.ack ≤ 15
  pub class : IsTrue (is_class props.class.0)
  pub few : units ≤ 250
  pub label : length props.label ≡ 2 * units
  pub size : whole (56 + 2 * units + length props.extension + length props.body) ≤ length bytes
  pub class_fits : props.class.0 < 2 ^ 16
  pub correlation : IsMessageId props.correlation
  pub body_type : props.body_type < 2 ^ 32
  pub tag : props.tag < 2 ^ 32
  pub units_fit : All (λ unit. unit < 2 ^ 16) (units_of props.label)

low_bits : (word n : ℕ) → n ≡ bits 0 4 word → n ≤ 15
low_bits word n is = omega (arith, is)

units_small : (bytes : List ℕ) → AreSmall bytes → AllByRecursion (λ unit. unit < 2 ^ 16) (units_of bytes)
units_small [] small = tt
units_small (a ∷ []) small = tt
units_small (a ∷ b ∷ rest) small = (omega (arith, small.0, small.1.0), units_small rest small.1.1)

pub props_read : (props : Props) (bytes : List ℕ) → AreSmall bytes → PropsForm props bytes → IsPropsRead props bytes
props_read props bytes small (head, pad, all, (units, allocated, form), len) =
    let marks = form.3 in
    let m = marks.4 in
    let f1 = form.4 in
    let f2 = f1.4 in
    let f3 = f2.4 in
    let f4 = f3.4 in
    let id = f1.3 in
    let sizes = f4.3.1 in
    let z1 = sizes.4 in
    let z2 = z1.4 in
    let z3 = z2.4 in
    let z4 = z3.4 in
    let parts = f4.4.1 in
    let p1 = parts.4 in
    let p2 = p1.4 in
    let s0 = (both_small bytes head pad all small).0 in
    let s1 = both_small head form.0 form.1 form.2 s0 in
    let s2 = both_small form.1 f1.0 f1.1 f1.2 s1.1 in
    let s3 = both_small f1.1 f2.0 f2.1 f2.2 s2.1 in
    let s4 = both_small f2.1 f3.0 f3.1 f3.2 s3.1 in
    let s5 = (both_small f3.1 f4.0 f4.1 f4.2 s4.1).1 in
    let label = (both_small f4.1 parts.0 parts.1 parts.2 s5).0 in
    let counted = (both_small form.0 m.0 m.1 m.2 s1.0).1 in
    let classed = (both_small m.1 m.4.0 m.4.1 m.4.2 counted).1 in
    let marked : length form.0 ≡ 4 = omega (arith, both_long form.0 m.0 m.1 m.2, m.3.0, both_long m.1 m.4.0 m.4.1 m.4.2, m.4.3.0, m.4.4.0) in
    let correlated : length f1.0 ≡ 20 = omega (arith, both_long f1.0 id.0 id.1 id.2, id.3.0, id.4.0) in
    let sized : length f4.0 ≡ 24 =
    omega (
      arith,
      both_long f4.0 sizes.0 sizes.1 sizes.2,
      sizes.3.0,
      both_long sizes.1 z1.0 z1.1 z1.2,
      z1.3.0,
      both_long z1.1 z2.0 z2.1 z2.2,
      z2.3.0,
      both_long z2.1 z3.0 z3.1 z3.2,
      z3.3.0,
      both_long z3.1 z4.0 z4.1 z4.2,
      z4.3.0,
      z4.4.0,
    ) in
    let filled : 2 * units + length props.extension + length props.body ≤ length f4.1 =
    omega (
      arith,
      both_long f4.1 parts.0 parts.1 parts.2,
      ap length parts.3,
      f4.4.0,
      both_long parts.1 p1.0 p1.1 p1.2,
      ap length p1.3,
      both_long p1.1 p2.0 p2.1 p2.2,
      ap length p2.3,
    ) in
    let total : 56 + 2 * units + length props.extension + length props.body ≤ length head =
    omega (
      arith,
      both_long head form.0 form.1 form.2,
      marked,
      both_long form.1 f1.0 f1.1 f1.2,
      correlated,
      both_long f1.1 f2.0 f2.1 f2.2,
      f2.3.0,
      both_long f2.1 f3.0 f3.1 f3.2,
      f3.3.0,
      both_long f3.1 f4.0 f4.1 f4.2,
      sized,
      filled,
    ) in
    let padded = padded_long bytes head pad all len in
    record {
      units = units;
      ack = low_bits marks.0 props.ack marks.1;
      class = marks.3;
      few = marks.2;
      label = f4.4.0;
      size = subst (λ (n : ℕ). whole (56 + 2 * units + length props.extension + length props.body) ≤ n) (sym padded) (whole_more _ _ total);
      class_fits = half_in props.class.0 m.4.1 classed m.4.4;
      correlation = id_in props.correlation f1.0 s2.0 f1.3;
      body_type = word_in props.body_type f2.0 s3.0 f2.3;
      tag = word_in props.tag f3.0 s4.0 f3.3;
      units_fit = All-from_recursion (λ unit. unit < 2 ^ 16) (units_of props.label) (units_small props.label (subst AreSmall parts.3 label));
    }

pub units_long : (bytes : List ℕ) (n : ℕ) → length bytes ≡ 2 * n → length (units_of bytes) ≡ n
units_long [] n len = omega (arith, len)
units_long (a ∷ []) n len = absurd (omega (arith, len))
units_long (a ∷ b ∷ rest) n len = omega (arith, len, units_long rest (n - 1) (omega (arith, len)))

pub props_long : (props : Props) (m : Message) (bytes : List ℕ) → m.label ≡ units_of props.label → m.extension ≡ props.extension → m.body ≡ props.body → IsPropsRead props bytes
    → props_size m ≤ length bytes
props_long props m bytes label extension body read =
    let count : 56 + 2 * length m.label + length m.extension + length m.body ≡ 56 + 2 * read.units + length props.extension + length props.body =
    omega (arith, ap length label, units_long props.label read.units read.label, ap length extension, ap length body) in
    subst (λ (n : ℕ). n ≤ length bytes) (sym (ap whole count)) read.size

-- the other headers
low_three : (word n : ℕ) → n ≡ bits 0 3 word → n ≤ 7
low_three word n is = omega (arith, is)

pub base_few : (base : BaseHead) (bytes : List ℕ) → BaseForm base bytes → base.priority ≤ 7
base_few base bytes (word, said, least, most, form) = low_three word base.priority said.priority

pub tx_long : (tx : Option TxHead) (bytes : List ℕ) → OptionalForm TxForm tx bytes → tx_size tx ≡ length bytes
tx_long None bytes form = sym (ap length form)
tx_long (Some head) bytes f1 =
    let f2 = f1.4 in
    let f3 = f2.4 in
    let f4 = f3.4 in
    omega (
      arith,
      both_long bytes f1.0 f1.1 f1.2,
      f1.3,
      both_long f1.1 f2.0 f2.1 f2.2,
      f2.3.0,
      both_long f2.1 f3.0 f3.1 f3.2,
      f3.3.0,
      both_long f3.1 f4.0 f4.1 f4.2,
      f4.3.0,
      f4.4.0,
    )

pub session_long : (session : Option SessionHead) (bytes : List ℕ) → OptionalForm SessionForm session bytes → session_size session ≡ length bytes
session_long None bytes form = sym (ap length form)
session_long (Some head) bytes f1 =
    let f2 = f1.4 in
    let f3 = f2.4 in
    let f4 = f3.4 in
    let f5 = f4.4 in
    let f6 = f5.4 in
    omega (
      arith,
      both_long bytes f1.0 f1.1 f1.2,
      f1.3.0,
      both_long f1.1 f2.0 f2.1 f2.2,
      f2.3.0,
      both_long f2.1 f3.0 f3.1 f3.2,
      f3.3.0,
      both_long f3.1 f4.0 f4.1 f4.2,
      f4.3.0,
      both_long f4.1 f5.0 f5.1 f5.2,
      f5.3.0,
      both_long f5.1 f6.0 f6.1 f6.2,
      f6.3.0,
      f6.4,
    )

pub base_reach : (base : BaseHead) (bytes : List ℕ) → AreSmall bytes → BaseForm base bytes → base.reach < 2 ^ 32
base_reach base bytes small (word, said, least, most, f1) =
    let f2 = f1.4 in
    let f3 = f2.4 in
    let f4 = f3.4 in
    let f5 = f4.4 in
    let s1 = (both_small bytes f1.0 f1.1 f1.2 small).1 in
    let s2 = (both_small f1.1 f2.0 f2.1 f2.2 s1).1 in
    let s3 = (both_small f2.1 f3.0 f3.1 f3.2 s2).1 in
    let s4 = (both_small f3.1 f4.0 f4.1 f4.2 s3).1 in
    word_in base.reach f5.1 (both_small f4.1 f5.0 f5.1 f5.2 s4).1 f5.4

pub tx_read : (tx : Option TxHead) (bytes : List ℕ) → AreSmall bytes → OptionalForm TxForm tx bytes → IfSome tx IsTxHead
tx_read None bytes small form = tt
tx_read (Some head) bytes small f1 =
    let f2 = f1.4 in
    let f3 = f2.4 in
    let f4 = f3.4 in
    let s1 = (both_small bytes f1.0 f1.1 f1.2 small).1 in
    let s2 = both_small f1.1 f2.0 f2.1 f2.2 s1 in
    let s3 = both_small f2.1 f3.0 f3.1 f3.2 s2.1 in
    let s4 = both_small f3.1 f4.0 f4.1 f4.2 s3.1 in
    record {
      ordinal = word_in head.sequence.ordinal f2.0 s2.0 f2.3;
      stamp = word_in head.sequence.stamp f3.0 s3.0 f3.3;
      number = word_in head.number f4.0 s4.0 f4.3;
      previous = word_in head.previous f4.1 s4.1 f4.4;
    }

pub session_read : (session : Option SessionHead) (bytes : List ℕ) → AreSmall bytes → OptionalForm SessionForm session bytes → IfSome session IsSessionHead
session_read None bytes small form = tt
session_read (Some head) bytes small f1 =
    let f2 = f1.4 in
    let f3 = f2.4 in
    let f4 = f3.4 in
    let f5 = f4.4 in
    let f6 = f5.4 in
    let s1 = both_small bytes f1.0 f1.1 f1.2 small in
    let s2 = both_small f1.1 f2.0 f2.1 f2.2 s1.1 in
    let s3 = both_small f2.1 f3.0 f3.1 f3.2 s2.1 in
    let s4 = both_small f3.1 f4.0 f4.1 f4.2 s3.1 in
    let s5 = both_small f4.1 f5.0 f5.1 f5.2 s4.1 in
    let s6 = both_small f5.1 f6.0 f6.1 f6.2 s5.1 in
    record {
      ack = half_in head.ack f1.0 s1.0 f1.3;
      stored = half_in head.stored f2.0 s2.0 f2.3;
      stored_flags = word_in head.stored_flags f3.0 s3.0 f3.3;
      user = half_in head.user f4.0 s4.0 f4.3;
      recoverable = half_in head.recoverable f5.0 s5.0 f5.3;
      window = half_in head.window f6.0 s6.0 f6.3;
    }
