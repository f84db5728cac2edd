-- What holds of each header that was read.
use Rattle.std.proofs.Common.{◌≡◌, ◌≤◌, ℕ, ◌*◌, ◌-◌, ◌==◌, Bool, true, false, ◌&&◌, ◌||◌, cond, ltb}
use Rattle.std.proofs.Common.{leb, List, length, take, is_some, Option, Some, None, Result, Ok, Err}
use Rattle.std.proofs.Common.{refl, sym, ap, subst, ◌∙◌, arith, length-drop}
use Rattle.std.specs.Prelude.{IfSome, IsTrue}
use Rattle.std.proofs.lemmas.Bool.{eqb-true, ltb-false, leb-true, and_parts}
use Rattle.std.proofs.lemmas.List.{length-take-le}
use Rattle.mqb_base.specs.declared.class.Class.{Class}
use Rattle.mqb_base.specs.Classes.{is_class}
use Rattle.mqb_fields.specs.declared.faults.HeadFault.{HeadFault}
use Rattle.mqb_fields.specs.declared.faults.Short as fields
use Rattle.mqb_fields.specs.Faults.{in_packet}
use Rattle.mqb_fields.specs.Reading.{◌>>=◌, Reading, rest_of, part_at, number_at, moved}
use Rattle.mqb_names.specs.declared.wire.WireFault.{WireFault}
use Rattle.mqb_names.specs.declared.wire.WireFault.TheVariants.{Short, Bad}
use Rattle.mqb_names.specs.Wire.{start, length_at, spelled, wire_at, IsWireForm}
use Rattle.mqb_names.specs.lemmas.Lengths.{length_taken}
use Rattle.mqb_heads.specs.declared.base.BaseHead.{BaseHead}
use Rattle.mqb_heads.specs.declared.properties.Marks.{Marks}
use Rattle.mqb_heads.specs.declared.properties.Sizes.{Sizes}
use Rattle.mqb_heads.specs.declared.user.UserFlags.{UserFlags}
use Rattle.mqb_heads.specs.Base.{IsBaseRead, version_at, flags_at, signature_at, size_at, base_at}
use Rattle.mqb_heads.specs.Base.{head_of, base_of}
use Rattle.mqb_fields.specs.Packets.{skipped, field_at, lent_at}
use Rattle.mqb_heads.specs.Fields.{WireName, source_at, id_at, in_name, name_at, some_name}
use Rattle.mqb_heads.specs.Fields.{optional_name_at, padded_at}
use Rattle.mqb_heads.specs.Flags.{bit, bits}
use Rattle.mqb_heads.specs.Properties.{Props, Parts, IsPropsRead, label_len_at, class_at, marks_at}
use Rattle.mqb_heads.specs.Properties.{allocated_at, unsecured_at, sizes_at, parts_at, props_at}
use Rattle.mqb_heads.specs.User.{User, Names, IsNameRead, IsUserRead, flags_of, have_types}
use Rattle.mqb_heads.specs.User.{user_flags_at, names_at, user_at}

abbrev done : {X E : Type 0} → X → Result X E
done x = Ok x

ok_is : {X E : Type 0} (x y : X) → done {X = X} {E = E} x ≡ done y → x ≡ y
ok_is x y e = cc

-- the value of a step that did not fail
pub bind_ok : {A B E : Type 0} (r : Result A E) (f : A → Result B E) (y : B) → (r >>= f) ≡ Ok y
    → (x : A) × (r ≡ Ok x) × (f x ≡ Ok y)
bind_ok (Ok x) f y e = (x, refl, e)
bind_ok (Err d) f y e = absurd cc

-- a test that let a value through
pub if_ok : {X E : Type 0} (b : Bool) (d : E) (x y : X) → cond b (Ok x) (Err d) ≡ Ok y
    → (b ≡ true) × (x ≡ y)
if_ok true d x y e = (refl, cc)
if_ok false d x y e = absurd cc

pub unless_ok : {X E : Type 0} (b : Bool) (d : E) (r : Result X E) (y : X) → cond b (Err d) r ≡ Ok y
    → (b ≡ false) × (r ≡ Ok y)
unless_ok true d r y e = absurd cc
unless_ok false d r y e = (refl, e)

packet_ok : {X : Type 0} (r : Result X fields.Short) (x : X) → in_packet r ≡ Ok x → r ≡ Ok x
packet_ok (Ok y) x e = cc
packet_ok (Err d) x e = absurd cc

lent_is : (count : ℕ) (r : Reading) (part : List ℕ) (end : Reading)
    → lent_at count r ≡ Ok (part, end) → (part ≡ take count (rest_of r)) × (length part ≡ count)
lent_is count r part end e =
    let read =
    unless_ok (ltb (length r.bytes - r.at) count) _ (Ok (take count (rest_of r), moved count r))
    (part, end) (packet_ok (part_at count r) (part, end) e) in
    let long : count ≤ length r.bytes - r.at = ltb-false _ _ read.0 in
    let is : part ≡ take count (rest_of r) =
    sym (ap (λ (p : List ℕ × Reading). p.0) (ok_is _ _ read.1)) in
    (is, ap length is ∙ length-take-le count (rest_of r) (omega (arith, length-drop r.at r.bytes)))

in_name_ok : (at : ℕ) (found : Result ℕ WireFault) (len : ℕ) → in_name at found ≡ Ok len
    → found ≡ Ok len
in_name_ok at (Ok l) len e = cc
in_name_ok at (Err Short) len e = absurd cc
in_name_ok at (Err Bad) len e = absurd cc

wire_form : (kind : ℕ) (bytes : List ℕ) (len : ℕ) → wire_at kind bytes ≡ Ok len
    → IsWireForm kind (take len bytes)
wire_form kind bytes len e =
    let sized = bind_ok (length_at kind bytes) _ len e in
    let enough = unless_ok (ltb (length bytes) sized.0) Short _ len sized.2 in
    let named = if_ok (is_some (spelled kind (take sized.0 bytes))) Bad sized.0 len enough.1 in
    subst (λ (l : ℕ). IsWireForm kind (take l bytes)) named.1
    (length_taken kind bytes sized.0 sized.1 (ltb-false _ _ enough.0), named.0)

pub name_read : (kind : ℕ) (r : Reading) (name : WireName) (end : Reading)
    → name_at kind r ≡ Ok (name, end) → IsNameRead name
name_read kind r name end e =
    let found = bind_ok (in_name r.at (wire_at kind (rest_of r))) _ (name, end) e in
    let part = bind_ok (lent_at found.0 r) _ (name, end) found.2 in
    let is = ok_is _ _ part.2 in
    let taken = (lent_is found.0 r part.0.0 part.0.1 part.1).0 in
    let form : IsWireForm kind part.0.0 =
    rw taken (wire_form kind (rest_of r) found.0 (in_name_ok r.at _ found.0 found.1)) in
    subst (λ (x : WireName × Reading). IsNameRead x.0) is form

some_name_ok : (read : Result (WireName × Reading) HeadFault) (name : Option WireName)
    (end : Reading) → ((n : WireName) (r : Reading) → read ≡ Ok (n, r) → IsNameRead n)
    → some_name read ≡ Ok (name, end)
    → IfSome name IsNameRead
some_name_ok (Ok x) name end is e =
    subst (λ (p : Option WireName × Reading). IfSome p.0 IsNameRead)
    (ok_is (Some x.0, x.1) (name, end) e) (is x.0 x.1 refl)
some_name_ok (Err d) name end is e = absurd cc

optional_read : (kind : ℕ) (r : Reading) (name : Option WireName) (end : Reading)
    → optional_name_at kind r ≡ Ok (name, end) → IfSome name IsNameRead
optional_read kind r name end e =
    elim (kind == 0) as (λ v. cond v (Ok (None, r)) (some_name (name_at kind r)) ≡ Ok (name, end)
    → IfSome name IsNameRead) [
      | true ↦ λ none. subst (λ (p : Option WireName × Reading). IfSome p.0 IsNameRead)
          (ok_is (None, r) (name, end) none) tt
      | false ↦
          λ some.
          some_name_ok (name_at kind r) name end (λ n behind. name_read kind r n behind) some
    ] e

pub record AreNamesRead (names : Names) : Type 0 where
  pub destination : IsNameRead names.destination
  pub admin : IfSome names.admin IsNameRead
  pub response : IfSome names.response IsNameRead

names_read : (flags : UserFlags) (r : Reading) (names : Names) (end : Reading)
    → names_at flags r ≡ Ok (names, end) → AreNamesRead names
names_read flags r names end e =
    let destination = bind_ok (name_at flags.destination r) _ (names, end) e in
    let admin =
    bind_ok (optional_name_at flags.admin destination.0.1) _ (names, end) destination.2 in
    let response = bind_ok (optional_name_at flags.response admin.0.1) _ (names, end) admin.2 in
    subst (λ (p : Names × Reading). AreNamesRead p.0) (ok_is _ _ response.2) (record {
      destination = name_read flags.destination r destination.0.0 destination.0.1 destination.1;
      admin = optional_read flags.admin destination.0.1 admin.0.0 admin.0.1 admin.1;
      response = optional_read flags.response admin.0.1 response.0.0 response.0.1 response.1;
    })

few_journal : (word : ℕ) → (flags_of word).journal ≤ 3
few_journal word = omega arith

-- what the flags say, bit by bit, of the word that they were read of
pub record FlagsRead (flags : UserFlags) (r end : Reading) : Type 0 where
  pub word : ℕ
  pub read : field_at 4 r ≡ Ok (word, end)
  pub recoverable : flags.recoverable ≡ (bit 0 word || bit 1 word)
  pub transaction : flags.transaction ≡ bit 1 word
  pub destination : flags.destination ≡ bits 2 3 word
  pub admin : flags.admin ≡ bits 5 3 word
  pub response : flags.response ≡ bits 8 3 word
  pub journal : flags.journal ≡ bits 11 2 word
  pub security : bit 13 word ≡ false

pub flags_word : (r : Reading) (flags : UserFlags) (end : Reading)
    → user_flags_at r ≡ Ok (flags, end) → FlagsRead flags r end
flags_word r flags end e =
    let word = bind_ok (field_at 4 r) _ (flags, end) e in
    let plain = unless_ok (bit 13 word.0.0) _ _ (flags, end) word.2 in
    let typed = if_ok (have_types (flags_of word.0.0)) _ (flags_of word.0.0, word.0.1)
    (flags, end) plain.1 in
    subst (λ (p : UserFlags × Reading). FlagsRead p.0 r p.1) typed.1 (record {
      word = word.0.0;
      read = word.1;
      recoverable = refl;
      transaction = refl;
      destination = refl;
      admin = refl;
      response = refl;
      journal = refl;
      security = plain.0;
    })

-- the names one after another, each of the type that the flags say
pub record NamesInTurn (flags : UserFlags) (r : Reading) (names : Names)
    (end : Reading) : Type 0 where
  pub behind_first : Reading
  pub behind_second : Reading
  pub destination : name_at flags.destination r ≡ Ok (names.destination, behind_first)
  pub admin : optional_name_at flags.admin behind_first ≡ Ok (names.admin, behind_second)
  pub response : optional_name_at flags.response behind_second ≡ Ok (names.response, end)

pub names_in_turn : (flags : UserFlags) (r : Reading) (names : Names) (end : Reading)
    → names_at flags r ≡ Ok (names, end) → NamesInTurn flags r names end
names_in_turn flags r names end e =
    let destination = bind_ok (name_at flags.destination r) _ (names, end) e in
    let admin =
    bind_ok (optional_name_at flags.admin destination.0.1) _ (names, end) destination.2 in
    let response = bind_ok (optional_name_at flags.response admin.0.1) _ (names, end) admin.2 in
    subst (λ (p : Names × Reading). NamesInTurn flags r p.0 p.1) (ok_is _ _ response.2)
    (record {
      behind_first = destination.0.1;
      behind_second = admin.0.1;
      destination = destination.1;
      admin = admin.1;
      response = response.1;
    })

flags_read : (r : Reading) (flags : UserFlags) (end : Reading) → user_flags_at r ≡ Ok (flags, end)
    → flags.journal ≤ 3
flags_read r flags end e =
    let word = bind_ok (field_at 4 r) _ (flags, end) e in
    let plain = unless_ok (bit 13 word.0.0) _ _ (flags, end) word.2 in
    let typed = if_ok (have_types (flags_of word.0.0)) _ (flags_of word.0.0, word.0.1)
    (flags, end) plain.1 in
    subst (λ (p : UserFlags × Reading). p.0.journal ≤ 3) typed.1 (few_journal word.0.0)

pub user_read : (r : Reading) (user : User) (end : Reading) → user_at r ≡ Ok (user, end)
    → IsUserRead user
unfolding user_at
user_read r user end e =
    let source = bind_ok (source_at r) _ (user, end) e in
    let target = bind_ok (source_at source.0.1) _ (user, end) source.2 in
    let life = bind_ok (field_at 4 target.0.1) _ (user, end) target.2 in
    let sent = bind_ok (field_at 4 life.0.1) _ (user, end) life.2 in
    let number = bind_ok (field_at 4 sent.0.1) _ (user, end) sent.2 in
    let flags = bind_ok (user_flags_at number.0.1) _ (user, end) number.2 in
    let names = bind_ok (names_at flags.0.0 flags.0.1) _ (user, end) flags.2 in
    let behind = bind_ok (padded_at r.at names.0.1) _ (user, end) names.2 in
    let are = names_read flags.0.0 flags.0.1 names.0.0 names.0.1 names.1 in
    subst (λ (p : User × Reading). IsUserRead p.0) (ok_is _ _ behind.2) (record {
      journal = flags_read number.0.1 flags.0.0 flags.0.1 flags.1;
      destination = are.destination;
      admin = are.admin;
      response = are.response;
    })

label_len_read : (r : Reading) (len : ℕ) (end : Reading) → label_len_at r ≡ Ok (len, end)
    → len ≤ 250
label_len_read r len end e =
    let field = bind_ok (field_at 1 r) _ (len, end) e in
    let few = unless_ok (ltb 250 field.0.0) _ (Ok field.0) (len, end) field.2 in
    subst (λ (p : ℕ × Reading). p.0 ≤ 250) (ok_is _ _ few.1) (ltb-false _ _ few.0)

class_read : (r : Reading) (class : Class) (end : Reading) → class_at r ≡ Ok (class, end)
    → IsTrue (is_class class.0)
class_read r class end e =
    let field = bind_ok (field_at 2 r) _ (class, end) e in
    let known =
    if_ok (is_class field.0.0) _ (record { 0 = field.0.0 }, field.0.1) (class, end) field.2 in
    subst (λ (p : Class × Reading). IsTrue (is_class p.0.0)) known.1 known.0

-- the marks field by field
pub record MarksInTurn (marks : Marks) (r end : Reading) : Type 0 where
  pub ack : ℕ
  pub behind_ack : Reading
  pub behind_len : Reading
  pub read_ack : field_at 1 r ≡ Ok (ack, behind_ack)
  pub read_len : field_at 1 behind_ack ≡ Ok (marks.label_len, behind_len)
  pub read_class : field_at 2 behind_len ≡ Ok (marks.class.0, end)
  pub ack_bits : marks.ack ≡ bits 0 4 ack
  pub most : marks.label_len ≤ 250
  pub class : IsTrue (is_class marks.class.0)

pub marks_in_turn : (r : Reading) (marks : Marks) (end : Reading) → marks_at r ≡ Ok (marks, end)
    → MarksInTurn marks r end
marks_in_turn r marks end e =
    let ack = bind_ok (field_at 1 r) _ (marks, end) e in
    let len = bind_ok (label_len_at ack.0.1) _ (marks, end) ack.2 in
    let class = bind_ok (class_at len.0.1) _ (marks, end) len.2 in
    let len_field = bind_ok (field_at 1 ack.0.1) _ len.0 len.1 in
    let few = unless_ok (ltb 250 len_field.0.0) _ (Ok len_field.0) len.0 len_field.2 in
    let class_field = bind_ok (field_at 2 len.0.1) _ class.0 class.1 in
    let known = if_ok (is_class class_field.0.0) _
    (record { 0 = class_field.0.0 }, class_field.0.1) class.0 class_field.2 in
    subst (λ (p : Marks × Reading). MarksInTurn p.0 r p.1) (ok_is _ _ class.2) (record {
      ack = ack.0.0;
      behind_ack = ack.0.1;
      behind_len = len.0.1;
      read_ack = ack.1;
      read_len = len_field.1 ∙ ap (λ (p : ℕ × Reading). done p) (ok_is _ _ few.1);
      read_class = class_field.1 ∙ ap (λ (p : Class × Reading). done (p.0.0, p.1)) known.1;
      ack_bits = refl;
      most = label_len_read ack.0.1 len.0.0 len.0.1 len.1;
      class = class_read len.0.1 class.0.0 class.0.1 class.1;
    })

-- the sizes field by field
pub record SizesInTurn (sizes : Sizes) (r end : Reading) : Type 0 where
  pub first : Reading
  pub second : Reading
  pub third : Reading
  pub fourth : Reading
  pub fifth : Reading
  pub body : field_at 4 r ≡ Ok (sizes.body, first)
  pub allocated : field_at 4 first ≡ Ok (sizes.allocated, second)
  pub privacy : field_at 4 second ≡ Ok (0, third)
  pub hash : field_at 4 third ≡ Ok (0, fourth)
  pub cipher : field_at 4 fourth ≡ Ok (0, fifth)
  pub extension : field_at 4 fifth ≡ Ok (sizes.extension, end)
  pub enough : sizes.body ≤ sizes.allocated

unsecured_is : (r end : Reading) → unsecured_at r ≡ Ok end → field_at 4 r ≡ Ok (0, end)
unsecured_is r end e =
    let number = bind_ok (field_at 4 r) _ end e in
    let none = if_ok (number.0.0 == 0) _ number.0.1 end number.2 in
    number.1 ∙ ap (λ (n : ℕ). done (n, number.0.1)) (eqb-true _ _ none.0)
    ∙ ap (λ (end : Reading). done (0, end)) none.1

allocated_is : (body : ℕ) (r : Reading) (x : ℕ × Reading) → allocated_at body r ≡ Ok x
    → (field_at 4 r ≡ Ok x) × (body ≤ x.0)
allocated_is body r x e =
    let number = bind_ok (field_at 4 r) _ x e in
    let enough = unless_ok (ltb number.0.0 body) _ (Ok number.0) x number.2 in
    subst (λ (x : ℕ × Reading). (field_at 4 r ≡ Ok x) × (body ≤ x.0)) (ok_is _ x enough.1)
    (number.1, ltb-false _ _ enough.0)

pub sizes_in_turn : (r : Reading) (sizes : Sizes) (end : Reading) → sizes_at r ≡ Ok (sizes, end)
    → SizesInTurn sizes r end
sizes_in_turn r sizes end e =
    let body = bind_ok (field_at 4 r) _ (sizes, end) e in
    let allocated = bind_ok (allocated_at body.0.0 body.0.1) _ (sizes, end) body.2 in
    let privacy = bind_ok (unsecured_at allocated.0.1) _ (sizes, end) allocated.2 in
    let hash = bind_ok (unsecured_at privacy.0) _ (sizes, end) privacy.2 in
    let cipher = bind_ok (unsecured_at hash.0) _ (sizes, end) hash.2 in
    let extension = bind_ok (field_at 4 cipher.0) _ (sizes, end) cipher.2 in
    let kept = allocated_is body.0.0 body.0.1 allocated.0 allocated.1 in
    subst (λ (p : Sizes × Reading). SizesInTurn p.0 r p.1) (ok_is _ _ extension.2) (record {
      first = body.0.1;
      second = allocated.0.1;
      third = privacy.0;
      fourth = hash.0;
      fifth = cipher.0;
      body = body.1;
      allocated = kept.0;
      privacy = unsecured_is allocated.0.1 privacy.0 privacy.1;
      hash = unsecured_is privacy.0 hash.0 hash.1;
      cipher = unsecured_is hash.0 cipher.0 cipher.1;
      extension = extension.1;
      enough = kept.1;
    })

-- the parts one after another
pub record PartsInTurn (label_len : ℕ) (sizes : Sizes) (r : Reading) (parts : Parts)
    (end : Reading) : Type 0 where
  pub first : Reading
  pub second : Reading
  pub kept : List ℕ
  pub label : lent_at (2 * label_len) r ≡ Ok (parts.label, first)
  pub extension : lent_at sizes.extension first ≡ Ok (parts.extension, second)
  pub allocated : lent_at sizes.allocated second ≡ Ok (kept, end)
  pub body : parts.body ≡ take sizes.body kept

pub parts_in_turn : (label_len : ℕ) (sizes : Sizes) (r : Reading) (parts : Parts) (end : Reading)
    → parts_at label_len sizes r ≡ Ok (parts, end)
    → PartsInTurn label_len sizes r parts end
parts_in_turn label_len sizes r parts end e =
    let label = bind_ok (lent_at (2 * label_len) r) _ (parts, end) e in
    let extension = bind_ok (lent_at sizes.extension label.0.1) _ (parts, end) label.2 in
    let allocated = bind_ok (lent_at sizes.allocated extension.0.1) _ (parts, end) extension.2 in
    subst (λ (p : Parts × Reading). PartsInTurn label_len sizes r p.0 p.1) (ok_is _ _ allocated.2)
    (record {
      first = label.0.1;
      second = extension.0.1;
      kept = allocated.0.0;
      label = label.1;
      extension = extension.1;
      allocated = allocated.1;
      body = refl;
    })

pub record AreMarksRead (marks : Marks) : Type 0 where
  pub ack : marks.ack ≤ 15
  pub label_len : marks.label_len ≤ 250
  pub class : IsTrue (is_class marks.class.0)

low_bits : (byte : ℕ) → bits 0 4 byte ≤ 15
low_bits byte = omega arith

marks_read : (r : Reading) (marks : Marks) (end : Reading) → marks_at r ≡ Ok (marks, end)
    → AreMarksRead marks
marks_read r marks end e =
    let ack = bind_ok (field_at 1 r) _ (marks, end) e in
    let len = bind_ok (label_len_at ack.0.1) _ (marks, end) ack.2 in
    let class = bind_ok (class_at len.0.1) _ (marks, end) len.2 in
    subst (λ (p : Marks × Reading). AreMarksRead p.0) (ok_is _ _ class.2) (record {
      ack = low_bits ack.0.0;
      label_len = label_len_read ack.0.1 len.0.0 len.0.1 len.1;
      class = class_read len.0.1 class.0.0 class.0.1 class.1;
    })

label_read : (label_len : ℕ) (sizes : Sizes) (r : Reading) (parts : Parts) (end : Reading)
    → parts_at label_len sizes r ≡ Ok (parts, end) → length parts.label ≡ 2 * label_len
label_read label_len sizes r parts end e =
    let label = bind_ok (lent_at (2 * label_len) r) _ (parts, end) e in
    let extension = bind_ok (lent_at sizes.extension label.0.1) _ (parts, end) label.2 in
    let allocated = bind_ok (lent_at sizes.allocated extension.0.1) _ (parts, end) extension.2 in
    subst (λ (p : Parts × Reading). length p.0.label ≡ 2 * label_len) (ok_is _ _ allocated.2)
    (lent_is (2 * label_len) r label.0.0 label.0.1 label.1).1

pub props_read : (r : Reading) (props : Props) (end : Reading) → props_at r ≡ Ok (props, end)
    → IsPropsRead props
unfolding props_at
props_read r props end e =
    let marks = bind_ok (marks_at r) _ (props, end) e in
    let correlation = bind_ok (id_at marks.0.1) _ (props, end) marks.2 in
    let body_type = bind_ok (field_at 4 correlation.0.1) _ (props, end) correlation.2 in
    let tag = bind_ok (field_at 4 body_type.0.1) _ (props, end) body_type.2 in
    let sizes = bind_ok (sizes_at tag.0.1) _ (props, end) tag.2 in
    let parts = bind_ok (parts_at marks.0.0.label_len sizes.0.0 sizes.0.1) _ (props, end) sizes.2 in
    let behind = bind_ok (padded_at r.at parts.0.1) _ (props, end) parts.2 in
    let are = marks_read r marks.0.0 marks.0.1 marks.1 in
    subst (λ (p : Props × Reading). IsPropsRead p.0) (ok_is _ _ behind.2) (record {
      ack = are.ack;
      class = are.class;
      label = (
        marks.0.0.label_len,
        are.label_len,
        label_read marks.0.0.label_len sizes.0.0 sizes.0.1 parts.0.0 parts.0.1 parts.1,
      );
    })

few_priorities : (word : ℕ) → bits 0 3 word ≤ 7
few_priorities word = omega arith

size_read : (r : Reading) (size : ℕ) (end : Reading) → size_at r ≡ Ok (size, end)
    → (20 ≤ size) × (size ≤ 4194304)
size_read r size end e =
    let field = bind_ok (field_at 4 r) _ (size, end) e in
    let fits = if_ok (leb 20 field.0.0 && leb field.0.0 4194304) _ field.0 (size, end) field.2 in
    let both = and_parts (leb 20 field.0.0) (leb field.0.0 4194304) fits.0 in
    subst (λ (p : ℕ × Reading). (20 ≤ p.0) × (p.0 ≤ 4194304)) fits.1
    (leb-true _ _ both.0, leb-true _ _ both.1)

base_at_read : (r : Reading) (head : BaseHead) (end : Reading) → base_at r ≡ Ok (head, end)
    → IsBaseRead head
unfolding base_at
base_at_read r head end e =
    let version = bind_ok (version_at r) _ (head, end) e in
    let reserved = bind_ok (skipped 1 version.0) _ (head, end) version.2 in
    let flags = bind_ok (flags_at reserved.0) _ (head, end) reserved.2 in
    let signature = bind_ok (signature_at flags.0.1) _ (head, end) flags.2 in
    let size = bind_ok (size_at signature.0) _ (head, end) signature.2 in
    let reach = bind_ok (field_at 4 size.0.1) _ (head, end) size.2 in
    let range = size_read signature.0 size.0.0 size.0.1 size.1 in
    subst (λ (p : BaseHead × Reading). IsBaseRead p.0) (ok_is _ _ reach.2)
    (record { priority = few_priorities flags.0.0; least = range.0; most = range.1 })

head_read : (read : Result (BaseHead × Reading) HeadFault) (head : BaseHead)
    → ((h : BaseHead) (end : Reading) → read ≡ Ok (h, end) → IsBaseRead h) → head_of read ≡ Ok head
    → IsBaseRead head
head_read (Ok x) head is e = subst (λ (h : BaseHead). IsBaseRead h) (ok_is _ _ e) (is x.0 x.1 refl)
head_read (Err d) head is e = absurd cc

pub base_read : (bytes : List ℕ) (head : BaseHead) → base_of bytes ≡ Ok head → IsBaseRead head
base_read bytes head e =
    let long = unless_ok (ltb (length bytes) 16) _ (head_of (base_at (start bytes))) head e in
    head_read (base_at (start bytes)) head (λ h end. base_at_read (start bytes) h end) long.1
