-- A name that was read of bytes is a name, and its wire form is as long as it stood there.
use Rattle.std.proofs.Common.{◌≡◌, ◌≤◌, ◌<◌, ℕ, ◌+◌, ◌*◌, ◌-◌, ◌==◌, ◌&&◌, Bool, true, false, cond, ltb, leb, is_none, List, [], ◌∷◌, ◌++◌, length, take, drop, Option, Some, None, option_map, Result, Ok, Err, refl, sym, ap, subst, ◌∙◌, arith, length-append}
use Rattle.std.specs.Prelude.{codes, nat_lt, option_and_then, position, IfSome}
use Rattle.std.specs.Result.{result_ok}
use Rattle.std.specs.List.{before_first}
use Rattle.std.proofs.lemmas.Bool.{and_parts, leb-true, ltb-true}
use Rattle.std.proofs.lemmas.List.Elements.{All-from_recursion}
use Rattle.mqb_base.specs.declared.names.NameError.{NameError}
use Rattle.mqb_base.specs.declared.queue_names.Host.{Host}
use Rattle.mqb_base.specs.declared.queue_names.Host.TheVariants.{Os, Tcp}
use Rattle.mqb_base.specs.declared.queue_names.QueueName.{QueueName}
use Rattle.mqb_base.specs.declared.queue_names.QueueName.TheVariants.{Public, Private, Direct}
use Rattle.mqb_base.specs.Names.{name_fault}
use Rattle.mqb_base.specs.QueueNames.{names_queue, absent_or_queue}
use Rattle.mqb_fields.specs.Reading as fields
use Rattle.mqb_fields.specs.Reading.{◌>>=◌, Reading, rest_of, moved}
use Rattle.mqb_heads.specs.mqb_names.declared.faults.PartFault.{PartFault}
use Rattle.mqb_heads.specs.mqb_names.declared.faults.NameKind.{NameKind}
use Rattle.mqb_heads.specs.mqb_names.declared.faults.NameKind.TheVariants as part
use Rattle.mqb_heads.specs.mqb_names.declared.wire.WireFault.{WireFault}
use Rattle.mqb_heads.specs.mqb_names.declared.wire.WireFault.TheVariants.{Bad}
use Rattle.mqb_heads.specs.mqb_names.Grammar.{◌then◌, Exactly, Word, HostText}
use Rattle.mqb_heads.specs.mqb_names.Parts.{begins, is_stop, is_name, is_digit, octet_of, octet_before, octet_and_rest, address_of}
use Rattle.mqb_heads.specs.mqb_names.Printed.{dot, path, printed_host, printed_direct}
use Rattle.mqb_heads.specs.mqb_names.Reading.{or_bad, word_at, name_at, os_at, tcp_at, host_at, direct_at}
use Rattle.mqb_heads.specs.mqb_names.Values.{AreBytes, IsHost, IsName, IsQueueName}
use Rattle.mqb_heads.specs.mqb_names.Wire.{text_of, start, wire, length_at, spelled, public_from, private_from, direct_from, direct_of}
use Rattle.mqb_heads.specs.mqb_names.lemmas.TextWords.{word_length}
use Rattle.mqb_heads.specs.mqb_names.lemmas.Units.{length_direct}
use Rattle.mqb_heads.specs.Fields.{WireName, wire_or_none}
use Rattle.mqb_heads.specs.lemmas.ReadLaws.{bind_ok, if_ok}
use Rattle.mqb_packet.specs.Spelled.{name_in, optional_name_in}
use Rattle.mqb_packet.specs.Forms.{NameForm, OptionalForm}
use Rattle.mqb_packet.proofs.Steps.{ok_is}
use Rattle.mqb_packet.proofs.DirectNames.{map_some, then_some, unless_some, some_if, whole_some, direct_form}
use Rattle.mqb_packet.proofs.Bytes.{AreSmall, cut_small, guid_small, number_small}

-- a byte in decimal is below 256
digit_bounds : (b : ℕ) → is_digit b ≡ true → (48 ≤ b) × (b ≤ 57)
digit_bounds b e = let both = and_parts (leb 48 b) (leb b 57) e in (leb-true _ _ both.0, leb-true _ _ both.1)

octet_small : (text : List ℕ) (n : ℕ) → octet_of text ≡ Some n → n < 256
octet_small [] n e = absurd cc
octet_small (a ∷ []) n e =
    let given = some_if (is_digit a) (a - 48) n e in
    omega (arith, given.1, (digit_bounds a given.0).1)
octet_small (a ∷ b ∷ []) n e =
    let given = some_if (is_digit a && is_digit b && nat_lt 48 a) ((a - 48) * 10 + (b - 48)) n e in
    let digits = and_parts (is_digit a) (is_digit b) (and_parts (is_digit a && is_digit b) (nat_lt 48 a) given.0).0 in
    omega (arith, given.1, (digit_bounds a digits.0).1, (digit_bounds b digits.1).1)
octet_small (a ∷ b ∷ c ∷ []) n e =
    let number = (a - 48) * 100 + (b - 48) * 10 + (c - 48) in
    let given = some_if (is_digit a && is_digit b && is_digit c && nat_lt 48 a && nat_lt number 256) number n e in
    let most = and_parts (is_digit a && is_digit b && is_digit c && nat_lt 48 a) (nat_lt number 256) given.0 in
    subst (λ (n : ℕ). n < 256) given.1 (ltb-true _ _ most.1)
octet_small (a ∷ b ∷ c ∷ d ∷ text) n e = absurd cc

dotted_small : (text : List ℕ) (x : ℕ × List ℕ) → octet_and_rest text ≡ Some x → x.0 < 256
dotted_small text x e =
    let at = then_some (octet_before text) (position (λ b. b == dot) text) x e in
    let octet = map_some (λ n. (n, drop (at.0 + 1) text)) (octet_of (take at.0 text)) x at.2 in
    subst (λ (y : ℕ × List ℕ). y.0 < 256) octet.2 (octet_small (take at.0 text) octet.0 octet.1)

-- addresses, from the last byte on
abbrev last_of : ℕ → ℕ → ℕ × List ℕ → Option (List ℕ)
last_of a b c = option_map (λ d. a ∷ b ∷ c.0 ∷ d ∷ []) (octet_of c.1)

abbrev third_of : ℕ → ℕ × List ℕ → Option (List ℕ)
third_of a b = option_and_then (last_of a b.0) (octet_and_rest b.1)

abbrev second_of : ℕ × List ℕ → Option (List ℕ)
second_of a = option_and_then (third_of a.0) (octet_and_rest a.1)

address_bytes : (text address : List ℕ) → address_of text ≡ Some address → AreBytes 4 address
address_bytes text address e =
    let a = then_some second_of (octet_and_rest text) address e in
    let b = then_some (third_of a.0.0) (octet_and_rest a.0.1) address a.2 in
    let c = then_some (last_of a.0.0 b.0.0) (octet_and_rest b.0.1) address b.2 in
    let d = map_some (λ d. a.0.0 ∷ b.0.0 ∷ c.0.0 ∷ d ∷ []) (octet_of c.0.1) address c.2 in
    let four : List ℕ = a.0.0 ∷ b.0.0 ∷ c.0.0 ∷ d.0 ∷ [] in
    let small : AreSmall four = (dotted_small text a.0 a.1, (dotted_small a.0.1 b.0 b.1, (dotted_small b.0.1 c.0 c.1, (octet_small c.0.1 d.0 d.1, tt)))) in
    subst (AreBytes 4) d.2 (refl, All-from_recursion (λ b. b < 256) four small)

-- hosts and queues
no_fault : (fault : Option NameError) → is_none fault ≡ true → fault ≡ None
no_fault None e = refl
no_fault (Some fault) e = absurd cc

name_named : (kind : NameKind) (r : Reading) (x : List ℕ × Reading) → name_at kind r ≡ Ok x → IsName x.0
name_named kind r x e =
    let name = before_first is_stop (rest_of r) in
    let given = if_ok (is_name name) _ (name, moved (length name) r) x e in
    subst (λ (y : List ℕ × Reading). IsName y.0) given.1 (no_fault (name_fault name) given.0)

os_named : (r : Reading) (x : Host × Reading) → os_at r ≡ Ok x → IsHost x.0
os_named r x e =
    let name = bind_ok (name_at part.Host r) _ x e in
    subst (λ (y : Host × Reading). IsHost y.0) (ok_is (Os name.0.0, name.0.1) x name.2) (name_named part.Host r name.0 name.1)

tcp_given : (found : Option (List ℕ)) (count : ℕ) (r : Reading) (x : Host × Reading) → or_bad (option_map (λ address. Tcp address) found) count r part.Host ≡ Ok x
    → (address : List ℕ) × (found ≡ Some address) × (Tcp address ≡ x.0)
tcp_given (Some address) count r x e = (address, refl, ap (λ (y : Host × Reading). y.0) (ok_is (Tcp address, moved count r) x e))
tcp_given None count r x e = absurd cc

tcp_named : (r : Reading) (x : Host × Reading) → tcp_at r ≡ Ok x → IsHost x.0
tcp_named r x e =
    let text = before_first is_stop (rest_of r) in
    let given = tcp_given (address_of text) (length text) r x e in
    subst IsHost given.2 (address_bytes text given.0 given.1)

one_host : (v w : Bool) (os tcp : Result (Host × Reading) PartFault) (x : Host × Reading) (fault : PartFault) → (os ≡ Ok x → IsHost x.0) → (tcp ≡ Ok x → IsHost x.0)
    → cond v os (cond w tcp (Err fault)) ≡ Ok x → IsHost x.0
one_host true w os tcp x fault p q e = p e
one_host false true os tcp x fault p q e = q e
one_host false false os tcp x fault p q e = absurd cc

host_named : (r : Reading) (x : Host × Reading) → host_at r ≡ Ok x → IsHost x.0
host_named r x e = one_host (begins (rest_of r) (codes "OS:")) (begins (rest_of r) (codes "TCP:")) _ _ x _ (os_named (moved 3 r) x) (tcp_named (moved 4 r) x) e

direct_named : (r : Reading) (x : (Host × List ℕ) × Reading) → direct_at r ≡ Ok x → IsHost x.0.0 × IsName x.0.1
unfolding direct_at
direct_named r x e =
    let host = bind_ok (host_at r) _ x e in
    let behind = bind_ok (word_at path part.Path host.0.1) _ x host.2 in
    let queue = bind_ok (name_at part.Queue behind.0) _ x behind.2 in
    subst (λ (y : (Host × List ℕ) × Reading). IsHost y.0.0 × IsName y.0.1) (ok_is ((host.0.0, queue.0.0), queue.0.1) x queue.2)
    (host_named r host.0 host.1, name_named part.Queue behind.0 queue.0 queue.1)

text_named : (text : List ℕ) (found : Host × List ℕ) → direct_of text ≡ Some found → IsHost found.0 × IsName found.1
unfolding direct_of
text_named text found e = let read = whole_some (direct_at (start text)) found e in direct_named (start text) (found, read.0) read.1

host_long : (host : Host) (text : List ℕ) → HostText host text → length text ≡ length (printed_host host)
host_long (Os name) text (word, rest, whole, is_word, is_rest) =
    let three : length word ≡ 3 = word_length word (codes "OS:") is_word in
    omega (arith, ap length whole, length-append word rest, three, ap length is_rest)
host_long (Tcp address) text (word, rest, whole, is_word, is_rest) =
    let four : length word ≡ 4 = word_length word (codes "TCP:") is_word in
    omega (arith, ap length whole, length-append word rest, four, ap length is_rest)

-- A word has one length, whatever its case.
text_long : (host : Host) (queue text : List ℕ) → (HostText host then Word path then Exactly queue) text → length text ≡ length (printed_direct host queue)
text_long host queue text (front, rest, whole, is_host, (middle, end, behind, is_path, is_queue)) =
    let ten : length middle ≡ 10 = word_length middle path is_path in
    let printed = printed_host host in
    omega (
      arith,
      ap length whole,
      length-append front rest,
      host_long host front is_host,
      ap length behind,
      length-append middle end,
      ten,
      ap length is_queue,
      length-append (printed ++ path) queue,
      length-append printed path,
    )

-- what holds of a name that was read of these bytes
pub record IsReadName (part : List ℕ) (name : QueueName) : Type 0 where
  pub valid : IsQueueName name
  pub queue : names_queue name ≡ true
  pub size : length (wire name) ≡ length part

result_some : {X E : Type 0} (r : Result X E) (y : X) → result_ok r ≡ Some y → r ≡ Ok y
result_some (Ok x) y e = cc
result_some (Err d) y e = absurd cc

public_read : (part : List ℕ) (name : QueueName) → AreSmall part → 16 ≡ length part → result_ok (public_from (start part)) ≡ Some name → IsReadName part name
public_read part name small len e =
    let guid = bind_ok (fields.guid_at (start part)) _ name (result_some _ name e) in
    subst (IsReadName part) (ok_is (Public (record { 0 = guid.0.0 }) false) name guid.2)
    (record { valid = (guid_small (start part) guid.0 small guid.1).0; queue = refl; size = len })

private_read : (part : List ℕ) (name : QueueName) → AreSmall part → 20 ≡ length part → result_ok (private_from (start part)) ≡ Some name → IsReadName part name
private_read part name small len e =
    let qm = bind_ok (fields.guid_at (start part)) _ name (result_some _ name e) in
    let number = bind_ok (fields.number_at 4 qm.0.1) _ name qm.2 in
    let guid = guid_small (start part) qm.0 small qm.1 in
    let behind : AreSmall (rest_of qm.0.1) = subst (λ (r : Reading). AreSmall (rest_of r)) guid.1 (cut_small 16 part small).1 in
    subst (IsReadName part) (ok_is (Private (record { 0 = qm.0.0 }) number.0.0 false) name number.2)
    (record { valid = (guid.0, number_small qm.0.1 number.0 behind number.1); queue = refl; size = len })

direct_read : (part : List ℕ) (name : QueueName) → AreSmall part → length_at 3 part ≡ Ok (length part) → direct_from (drop 2 part) ≡ Some name → IsReadName part name
unfolding spelled
direct_read part name small sized e =
    let named = map_some (λ (direct : Host × List ℕ). Direct direct.0 direct.1 false) (option_and_then direct_of (text_of (drop 2 part))) name
    (unless_some (ltb 282 (length (drop 2 part))) _ name e) in
    let found = then_some direct_of (text_of (drop 2 part)) named.0 named.1 in
    let host = named.0.0 in
    let queue = named.0.1 in
    let form = direct_form host queue part (All-from_recursion (λ b. b < 256) part small) sized (e ∙ ap (λ (n : QueueName). Some n) (sym named.2)) in
    let printed = printed_direct host queue in
    subst (IsReadName part) named.2 (record {
      valid = text_named found.0 named.0 found.2;
      queue = refl;
      size = omega (
        arith,
        length_direct (length printed) printed,
        text_long host queue form.text form.spelled,
        ap length form.units,
        length_direct (length form.text) form.text,
      );
    })

one_read : (a b c : Bool) (direct : Result ℕ WireFault) (x y z : Option QueueName) (part : List ℕ) (name : QueueName)
    → (16 ≡ length part → x ≡ Some name → IsReadName part name) → (20 ≡ length part → y ≡ Some name → IsReadName part name)
    → (direct ≡ Ok (length part) → z ≡ Some name → IsReadName part name)
    → cond a (Ok 16) (cond b (Ok 20) (cond c direct (Err Bad))) ≡ Ok (length part) → cond a x (cond b y (cond c z None)) ≡ Some name → IsReadName part name
one_read true b c direct x y z part name p q s len e = let same : 16 ≡ length part = cc in p same e
one_read false true c direct x y z part name p q s len e = let same : 20 ≡ length part = cc in q same e
one_read false false true direct x y z part name p q s len e = s len e
one_read false false false direct x y z part name p q s len e = absurd cc

pub name_is_read : (kind : ℕ) (part : List ℕ) (name : QueueName) → AreSmall part → length_at kind part ≡ Ok (length part) → spelled kind part ≡ Some name → IsReadName part name
unfolding length_at spelled
name_is_read kind part name small len e =
    one_read (kind == 1) (kind == 2) (kind == 3) _ _ _ _ part name (public_read part name small) (private_read part name small) (direct_read part name small) len e

pub form_is_read : (wired : WireName) (bytes : List ℕ) (name : QueueName) → AreSmall bytes → NameForm wired bytes → name_in wired ≡ Some name → IsReadName bytes name
form_is_read wired bytes name small form e =
    subst (λ (t : List ℕ). IsReadName t name) (sym form.0) (name_is_read wired.kind wired.part name (subst AreSmall form.0 small) form.1.0 e)

-- what holds of a name that may be absent
pub record IsReadOption (bytes : List ℕ) (name : Option QueueName) : Type 0 where
  pub valid : IfSome name IsQueueName
  pub queue : absent_or_queue name ≡ true
  pub size : length (wire_or_none name) ≡ length bytes

some_is : {X : Type 0} (x y : X) → Some x ≡ Some y → x ≡ y
some_is x y e = cc

pub option_is_read : (wired : Option WireName) (bytes : List ℕ) (name : Option QueueName) → AreSmall bytes → OptionalForm NameForm wired bytes → optional_name_in wired ≡ Some name
    → IsReadOption bytes name
option_is_read None bytes name small form e =
    subst (IsReadOption bytes) (some_is None name e) (record { valid = tt; queue = refl; size = sym (ap length form) })
option_is_read (Some wired) bytes name small form e =
    let queue = map_some (λ (q : QueueName). Some q) (name_in wired) name e in
    let read = form_is_read wired bytes queue.0 small form queue.1 in
    subst (IsReadOption bytes) queue.2 (record { valid = read.valid; queue = read.queue; size = read.size })
