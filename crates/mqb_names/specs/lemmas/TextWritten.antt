-- A text that is read as a name is a spelling of it.
use Rattle.std.proofs.Common.{◌≡◌, ◌≤◌, ℕ, ◌+◌, Bool, true, false, cond, not, ◌&&◌, ◌==◌, ltb, leb}
use Rattle.std.proofs.Common.{subst, append_assoc, List, [], ◌∷◌, ◌++◌, length, take, drop, Option}
use Rattle.std.proofs.Common.{Some, None, option_map, Result, Ok, Err, refl, sym, ap, ◌∙◌, arith}
use Rattle.std.proofs.Common.{◌⊎◌, inl, inr}
use Rattle.std.proofs.lemmas.Bool.Decides.{nat_tests}
use Rattle.std.proofs.lemmas.List.{take-append-drop, drop-drop}
use Rattle.std.proofs.lemmas.List.Folds.{length-prefix_len}
use Rattle.std.specs.List.{prefix_len, position_or_len, list_all, before_first}
use Rattle.std.proofs.Math.Numerals.{one-add}
use Rattle.std.specs.Prelude.{codes, nat_lt}
use Rattle.uuid.specs.Text.{is_hex_digit}
use Rattle.mqb_base.specs.declared.ids.Guid.{Guid}
use Rattle.mqb_base.specs.declared.queue_names.Host.{Host}
use Rattle.mqb_base.specs.declared.queue_names.Host.TheVariants.{Os, Tcp}
use Rattle.mqb_base.specs.declared.queue_names.MachineQueue.{MachineQueue}
use Rattle.mqb_base.specs.declared.queue_names.MachineQueue.TheVariants.{DeadLetter, DeadXact}
use Rattle.mqb_base.specs.declared.queue_names.MachineQueue.TheVariants.{Journal}
use Rattle.mqb_base.specs.declared.queue_names.QueueName.{QueueName}
use Rattle.mqb_base.specs.declared.queue_names.QueueName.TheVariants.{Public, Private}
use Rattle.mqb_base.specs.declared.queue_names.QueueName.TheVariants.{Direct, Machine}
use Rattle.mqb_fields.specs.Reading.{◌>>=◌, Reading, rest_of, moved}
use Rattle.mqb_names.specs.declared.faults.PartFault.{PartFault}
use Rattle.mqb_names.specs.declared.faults.NameKind.TheVariants as part
use Rattle.mqb_names.specs.declared.faults.NameKind.{NameKind}
use Rattle.mqb_names.specs.Printed.{backslash, path, printed_address, printed_kind}
use Rattle.mqb_names.specs.Parts.{same_word, begins, guid_of, is_stop, hex_digits}
use Rattle.mqb_names.specs.Parts.{hex_number, address_of}
use Rattle.mqb_names.specs.Reading.{or_bad, word_at, guid_at, number_at, name_at, os_at, tcp_at}
use Rattle.mqb_names.specs.Reading.{host_at, direct_at, journal_at, kind_at, public_at, private_at}
use Rattle.mqb_names.specs.Reading.{direct_name_at, machine_at, name_of}
use Rattle.mqb_names.specs.Grammar.{◌then◌, Exactly, Word, GuidText, Digits, HostText}
use Rattle.mqb_names.specs.Grammar.{JournalText, IsText}
use Rattle.mqb_names.specs.lemmas.DirectAgain.{further}
use Rattle.mqb_names.specs.lemmas.TextAddresses.{address_text}
use Rattle.mqb_names.specs.lemmas.TextWords.{both_hold}
use Rattle.mqb_names.specs.lemmas.TextGuids.{word_from_guid}

-- a text of this form stood there and was read
abbrev Took : (List ℕ → Type 0) → Reading → Reading → Type 0
Took Form before after = (text : List ℕ) × (text ++ rest_of after ≡ rest_of before) × Form text

abbrev PartOf : Type 0 → Type 0
PartOf X = Result X PartFault

abbrev good : {X : Type 0} → X → PartOf X
good x = Ok x

ok_same : {X : Type 0} (x y : X) → good x ≡ good y → x ≡ y
ok_same x y e = cc

bind_gives : {X Y : Type 0} (read : PartOf X) (next : X → PartOf Y) (y : Y) → (read >>= next) ≡ Ok y
    → (x : X) × (read ≡ Ok x) × (next x ≡ Ok y)
bind_gives (Ok x) next y e = (x, refl, e)
bind_gives (Err fault) next y e = absurd cc

if_gives : {X : Type 0} (b : Bool) (x y : X) (fault : PartFault) → cond b (Ok x) (Err fault) ≡ Ok y
    → (b ≡ true) × (x ≡ y)
if_gives true x y fault e = (refl, cc)
if_gives false x y fault e = absurd cc

split : (n : ℕ) (r : Reading) → take n (rest_of r) ++ rest_of (moved n r) ≡ rest_of r
split n r = ap (λ (t : List ℕ). take n (rest_of r) ++ t) (sym (drop-drop n r.at r.bytes))
    ∙ take-append-drop n (rest_of r)

took : (Form : List ℕ → Type 0) (n : ℕ) (before after : Reading) → after ≡ moved n before
    → Form (take n (rest_of before)) → Took Form before after
took Form n before after e is = (
  take n (rest_of before),
  ap (λ (r : Reading). take n (rest_of before) ++ rest_of r) e ∙ split n before,
  is,
)

both : (First Second : List ℕ → Type 0) (a b c : Reading) → Took First a b → Took Second b c
    → Took (First then Second) a c
both First Second a b c (first, e, is_first) (second, f, is_second) = (
  first ++ second,
  append_assoc first second (rest_of c) ∙ ap (λ (t : List ℕ). first ++ t) f ∙ e,
  (first, second, refl, is_first, is_second),
)

all : (First Second : List ℕ → Type 0) (a b : Reading) → Took First a b → Second (rest_of b)
    → (First then Second) (rest_of a)
all First Second a b (first, e, is_first) is_second = (first, rest_of b, e, is_first, is_second)

word_took : (word : List ℕ) (r : Reading) → begins (rest_of r) word ≡ true
    → Took (Word word) r (moved (length word) r)
word_took word r is = took (Word word) (length word) r (moved (length word) r) refl is

-- GUIDs
guid_given : (found : Option (List ℕ)) (r : Reading) (x : Guid × Reading)
    → or_bad (option_map (λ bytes. record { 0 = bytes }) found) 36 r part.Guid ≡ Ok x
    → (found ≡ Some x.0.0) × (x.1 ≡ moved 36 r)
guid_given (Some bytes) r x e = let same = ok_same (record { 0 = bytes }, moved 36 r) x e in
    (ap (λ (y : Guid × Reading). Some y.0.0) same, sym (ap (λ (y : Guid × Reading). y.1) same))
guid_given None r x e = absurd cc

guid_took : (r : Reading) (x : Guid × Reading) → guid_at r ≡ Ok x → Took (GuidText x.0) r x.1
unfolding guid_of
guid_took r x e =
    let given = guid_given (guid_of (rest_of r)) r x e in
    took (GuidText x.0) 36 r x.1 given.1 (word_from_guid (take 36 (rest_of r)) x.0.0 given.0)

-- what stands before an end
before_split : (p : ℕ → Bool) (r : Reading) → before_first p (rest_of r)
    ++ rest_of (moved (length (before_first p (rest_of r))) r) ≡ rest_of r
before_split p r =
    rw (length-prefix_len (λ b. not (p b)) (rest_of r)) (split (position_or_len p (rest_of r)) r)

hex_more : (b : ℕ) (text : List ℕ) (n : ℕ) (v : Bool) → is_hex_digit b ≡ v
    → list_all is_hex_digit (take n text) ≡ true
    → list_all is_hex_digit (take (cond (not (not v)) (1 + n) 0) (b ∷ text)) ≡ true
hex_more b text n true is before = rw (one-add n, is) before
hex_more b text n false is before = refl

hex_all : (text : List ℕ) → list_all is_hex_digit (hex_digits text) ≡ true
hex_all [] = refl
hex_all (b ∷ text) = hex_more b text (prefix_len (λ x. not (not (is_hex_digit x))) text)
    (is_hex_digit b) refl (hex_all text)

some_digits : (n : ℕ) → ltb 0 n ≡ true → 1 ≤ n
some_digits n e = grind (arith, nat_tests)

few_digits : (n : ℕ) → leb n 8 ≡ true → n ≤ 8
few_digits n e = grind (arith, nat_tests)

number_took : (r : Reading) (x : ℕ × Reading) → number_at r ≡ Ok x
    → Took (Word (backslash ∷ [])) r (moved 1 r) × Took (Digits x.0) (moved 1 r) x.1
number_took r x e =
    let digits = hex_digits (drop 1 (rest_of r)) in
    let given = if_gives
    (begins (rest_of r) (backslash ∷ []) && nat_lt 0 (length digits) && leb (length digits) 8)
    (hex_number digits, moved (1 + length digits) r) x
    (record { at = r.at; kind = part.Number }) e in
    let front = both_hold (begins (rest_of r) (backslash ∷ []) && nat_lt 0 (length digits))
    (leb (length digits) 8) given.0 in
    let begun =
    both_hold (begins (rest_of r) (backslash ∷ [])) (nat_lt 0 (length digits)) front.0 in
    let next = moved 1 r in
    let same : hex_digits (rest_of next) ≡ digits =
    ap hex_digits (sym (drop-drop 1 r.at r.bytes)) in
    let parts : digits ++ rest_of (moved (length digits) next) ≡ rest_of next =
    subst (λ (d : List ℕ). d ++ rest_of (moved (length d) next) ≡ rest_of next) same
    (before_split (λ b. not (is_hex_digit b)) next) in
    let last : moved (length digits) next ≡ x.1 =
    further 1 (length digits) r ∙ ap (λ (y : ℕ × Reading). y.1) given.1 in
    let whole : digits ++ rest_of x.1 ≡ rest_of next =
    ap (λ (y : Reading). digits ++ rest_of y) (sym last) ∙ parts in (
      word_took (backslash ∷ []) r begun.0,
      (
        digits,
        whole,
        (
          some_digits (length digits) begun.1,
          few_digits (length digits) front.1,
          hex_all (drop 1 (rest_of r)),
          ap (λ (y : ℕ × Reading). y.0) given.1,
        ),
      ),
    )

name_took : (kind : NameKind) (r : Reading) (x : List ℕ × Reading) → name_at kind r ≡ Ok x
    → Took (Exactly x.0) r x.1
name_took kind r x e =
    let name = before_first is_stop (rest_of r) in
    let given =
    (if_gives _ (name, moved (length name) r) x (record { at = r.at; kind = kind }) e).1 in (
      name,
      ap (λ (y : List ℕ × Reading). name ++ rest_of y.1) (sym given) ∙ before_split is_stop r,
      ap (λ (y : List ℕ × Reading). y.0) given,
    )

-- suffixes
journal_given : (v w : Bool) (journal : Bool) (fault : PartFault)
    → cond v (Ok false) (cond w (Ok true) (Err fault)) ≡ Ok journal
    → ((v ≡ true) × (journal ≡ false)) ⊎ ((w ≡ true) × (journal ≡ true))
journal_given true w journal fault e = inl (refl, cc)
journal_given false true journal fault e = inr (refl, cc)
journal_given false false journal fault e = absurd cc

no_length : (text : List ℕ) → (length text == 0) ≡ true → text ≡ []
no_length [] e = refl
no_length (b ∷ text) e = absurd (grind (arith, nat_tests))

journal_took : (r : Reading) (journal : Bool) → journal_at r ≡ Ok journal
    → JournalText journal (rest_of r)
unfolding same_word
journal_took r journal e =
    elim (journal_given (length (rest_of r) == 0) (same_word (rest_of r) (codes ";JOURNAL")) journal
    (record { at = r.at; kind = part.Suffix }) e) [
      | inl none ↦ rw (none.1, no_length (rest_of r) none.0) refl
      | inr is ↦ rw is.1 is.0
    ]

kind_given : (u v w : Bool) (kind : MachineQueue) (fault : PartFault)
    → cond u (Ok DeadLetter) (cond v (Ok DeadXact) (cond w (Ok Journal) (Err fault))) ≡ Ok kind
    → ((u ≡ true) × (kind ≡ DeadLetter))
    ⊎ (((v ≡ true) × (kind ≡ DeadXact)) ⊎ ((w ≡ true) × (kind ≡ Journal)))
kind_given true v w kind fault e = inl (refl, cc)
kind_given false true w kind fault e = inr (inl (refl, cc))
kind_given false false true kind fault e = inr (inr (refl, cc))
kind_given false false false kind fault e = absurd cc

kind_took : (r : Reading) (kind : MachineQueue) → kind_at r ≡ Ok kind
    → Word (printed_kind kind) (rest_of r)
kind_took r kind e = elim (kind_given (same_word (rest_of r) (codes ";DEADLETTER"))
    (same_word (rest_of r) (codes ";DEADXACT")) (same_word (rest_of r) (codes ";JOURNAL")) kind
    (record { at = r.at; kind = part.Suffix }) e) [
      | inl is ↦ rw is.1 is.0
      | inr more ↦ elim more [
        | inl is ↦ rw is.1 is.0
        | inr is ↦ rw is.1 is.0
      ]
    ]

-- hosts
os_took : (r : Reading) (x : Host × Reading) → os_at r ≡ Ok x
    → (name : List ℕ) × (x.0 ≡ Os name) × Took (Exactly name) r x.1
os_took r x e =
    let name = bind_gives (name_at part.Host r) (λ name. Ok (Os name.0, name.1)) x e in
    let same = ok_same (Os name.0.0, name.0.1) x name.2 in (
      name.0.0,
      sym (ap (λ (y : Host × Reading). y.0) same),
      subst (λ (y : Reading). Took (Exactly name.0.0) r y) (ap (λ (y : Host × Reading). y.1) same)
          (name_took part.Host r name.0 name.1),
    )

tcp_given : (found : Option (List ℕ)) (count : ℕ) (r : Reading) (x : Host × Reading)
    → or_bad (option_map (λ address. Tcp address) found) count r part.Host ≡ Ok x
    → (address : List ℕ) × (found ≡ Some address) × (x.0 ≡ Tcp address) × (moved count r ≡ x.1)
tcp_given (Some address) count r x e =
    let same = ok_same (Tcp address, moved count r) x e in (
      address,
      refl,
      sym (ap (λ (y : Host × Reading). y.0) same),
      ap (λ (y : Host × Reading). y.1) same,
    )
tcp_given None count r x e = absurd cc

tcp_took : (r : Reading) (x : Host × Reading) → tcp_at r ≡ Ok x
    → (address : List ℕ) × (x.0 ≡ Tcp address) × Took (Exactly (printed_address address)) r x.1
tcp_took r x e =
    let text = before_first is_stop (rest_of r) in
    let given = tcp_given (address_of text) (length text) r x e in
    let whole : text ++ rest_of x.1 ≡ rest_of r =
    ap (λ (y : Reading). text ++ rest_of y) (sym given.3) ∙ before_split is_stop r in
    (given.0, given.2, (text, whole, address_text text given.0 given.1))

host_given : (v w : Bool) (os tcp : PartOf (Host × Reading)) (x : Host × Reading)
    (fault : PartFault) → cond v os (cond w tcp (Err fault)) ≡ Ok x
    → ((v ≡ true) × (os ≡ Ok x)) ⊎ ((w ≡ true) × (tcp ≡ Ok x))
host_given true w os tcp x fault e = inl (refl, e)
host_given false true os tcp x fault e = inr (refl, e)
host_given false false os tcp x fault e = absurd cc

host_took : (r : Reading) (x : Host × Reading) → host_at r ≡ Ok x → Took (HostText x.0) r x.1
host_took r x e =
    elim (host_given (begins (rest_of r) (codes "OS:")) (begins (rest_of r) (codes "TCP:"))
    (os_at (moved 3 r)) (tcp_at (moved 4 r)) x (record { at = r.at; kind = part.Protocol }) e) [
      | inl given ↦
          let os = os_took (moved 3 r) x given.1 in
          let text = both (Word (codes "OS:")) (Exactly os.0) r (moved 3 r) x.1
          (word_took (codes "OS:") r given.0) os.2 in
          subst (λ (host : Host). Took (HostText host) r x.1) (sym os.1) text
      | inr given ↦
          let tcp = tcp_took (moved 4 r) x given.1 in
          let text = both (Word (codes "TCP:")) (Exactly (printed_address tcp.0)) r (moved 4 r) x.1
          (word_took (codes "TCP:") r given.0) tcp.2 in
          subst (λ (host : Host). Took (HostText host) r x.1) (sym tcp.1) text
    ]

-- host, path and queue
pub direct_took : (r : Reading) (x : (Host × List ℕ) × Reading) → direct_at r ≡ Ok x
    → (a : Reading) × (b : Reading) × Took (HostText x.0.0) r a × Took (Word path) a b
    × Took (Exactly x.0.1) b x.1
unfolding direct_at
direct_took r x e =
    let host = bind_gives (host_at r) (λ host. word_at path part.Path host.1 >>= λ behind.
    name_at part.Queue behind >>= λ queue. Ok ((host.0, queue.0), queue.1)) x e in
    let behind = bind_gives (word_at path part.Path host.0.1)
    (λ behind. name_at part.Queue behind >>= λ queue. Ok ((host.0.0, queue.0), queue.1)) x
    host.2 in
    let queue = bind_gives (name_at part.Queue behind.0)
    (λ queue. Ok ((host.0.0, queue.0), queue.1)) x behind.2 in
    let same = ok_same ((host.0.0, queue.0.0), queue.0.1) x queue.2 in
    let begun = if_gives (begins (rest_of host.0.1) path) (moved 10 host.0.1) behind.0
    (record { at = host.0.1.at; kind = part.Path }) behind.1 in (
      host.0.1,
      behind.0,
      subst (λ (y : Host). Took (HostText y) r host.0.1)
          (ap (λ (y : (Host × List ℕ) × Reading). y.0.0) same) (host_took r host.0 host.1),
      subst (λ (y : Reading). Took (Word path) host.0.1 y) begun.1
          (word_took path host.0.1 begun.0),
      subst (λ (y : (Host × List ℕ) × Reading). Took (Exactly y.0.1) behind.0 y.1) same
          (name_took part.Queue behind.0 queue.0 queue.1),
    )

-- what stands behind the prefix
public_took : (r : Reading) (name : QueueName) → public_at r ≡ Ok name
    → (g : Guid) × (journal : Bool) × (Public g journal ≡ name)
    × (GuidText g then JournalText journal) (rest_of r)
unfolding public_at
public_took r name e =
    let guid = bind_gives (guid_at r)
    (λ guid. journal_at guid.1 >>= λ journal. Ok (Public guid.0 journal)) name e in
    let journal =
    bind_gives (journal_at guid.0.1) (λ journal. Ok (Public guid.0.0 journal)) name guid.2 in (
      guid.0.0,
      journal.0,
      ok_same _ name journal.2,
      all (GuidText guid.0.0) (JournalText journal.0) r guid.0.1 (guid_took r guid.0 guid.1)
          (journal_took guid.0.1 journal.0 journal.1),
    )

machine_took : (r : Reading) (name : QueueName) → machine_at r ≡ Ok name
    → (g : Guid) × (kind : MachineQueue) × (Machine g kind ≡ name)
    × (GuidText g then Word (printed_kind kind)) (rest_of r)
unfolding machine_at
machine_took r name e =
    let guid = bind_gives (guid_at r)
    (λ guid. kind_at guid.1 >>= λ kind. Ok (Machine guid.0 kind)) name e in
    let kind = bind_gives (kind_at guid.0.1) (λ kind. Ok (Machine guid.0.0 kind)) name guid.2 in (
      guid.0.0,
      kind.0,
      ok_same _ name kind.2,
      all (GuidText guid.0.0) (Word (printed_kind kind.0)) r guid.0.1 (guid_took r guid.0 guid.1)
          (kind_took guid.0.1 kind.0 kind.1),
    )

private_took : (r : Reading) (name : QueueName) → private_at r ≡ Ok name
    → (g : Guid) × (n : ℕ) × (journal : Bool) × (Private g n journal ≡ name)
    × (GuidText g then Word (backslash ∷ []) then Digits n then JournalText journal) (rest_of r)
unfolding private_at
private_took r name e =
    let guid = bind_gives (guid_at r) (λ guid. number_at guid.1 >>= λ number.
    journal_at number.1 >>= λ journal. Ok (Private guid.0 number.0 journal)) name e in
    let number = bind_gives (number_at guid.0.1)
    (λ number. journal_at number.1 >>= λ journal. Ok (Private guid.0.0 number.0 journal)) name
    guid.2 in
    let journal = bind_gives (journal_at number.0.1)
    (λ journal. Ok (Private guid.0.0 number.0.0 journal)) name number.2 in
    let digits = number_took guid.0.1 number.0 number.1 in
    let tail = journal_took number.0.1 journal.0 journal.1 in
    let n = number.0.0 in (
      guid.0.0,
      n,
      journal.0,
      ok_same _ name journal.2,
      all (GuidText guid.0.0) (Word (backslash ∷ []) then Digits n then JournalText journal.0) r
          guid.0.1 (guid_took r guid.0 guid.1)
          (all (Word (backslash ∷ [])) (Digits n then JournalText journal.0) guid.0.1
          (moved 1 guid.0.1) digits.0
          (all (Digits n) (JournalText journal.0) (moved 1 guid.0.1) number.0.1 digits.1 tail)),
    )

direct_name_took : (r : Reading) (name : QueueName) → direct_name_at r ≡ Ok name
    → (host : Host) × (queue : List ℕ) × (journal : Bool) × (Direct host queue journal ≡ name)
    × (HostText host then Word path then Exactly queue then JournalText journal) (rest_of r)
unfolding direct_name_at
direct_name_took r name e =
    let direct = bind_gives (direct_at r)
    (λ direct. journal_at direct.1 >>= λ journal. Ok (Direct direct.0.0 direct.0.1 journal))
    name e in
    let journal = bind_gives (journal_at direct.0.1)
    (λ journal. Ok (Direct direct.0.0.0 direct.0.0.1 journal)) name direct.2 in
    let parts = direct_took r direct.0 direct.1 in
    let host = direct.0.0.0 in
    let queue = direct.0.0.1 in
    let tail = journal_took direct.0.1 journal.0 journal.1 in (
      host,
      queue,
      journal.0,
      ok_same _ name journal.2,
      all (HostText host)
          (Word path then Exactly queue then JournalText journal.0) r parts.0 parts.2
          (all (Word path) (Exactly queue then JournalText journal.0) parts.0 parts.1 parts.3
          (all (Exactly queue) (JournalText journal.0) parts.1 direct.0.1 parts.4 tail)),
    )

-- the whole text
prefix_given :
    (a b c d : Bool) (one two three four : PartOf QueueName) (name : QueueName) (fault : PartFault)
    → cond a one (cond b two (cond c three (cond d four (Err fault)))) ≡ Ok name
    → ((a ≡ true) × (one ≡ Ok name)) ⊎ (((b ≡ true) × (two ≡ Ok name))
    ⊎ (((c ≡ true) × (three ≡ Ok name)) ⊎ ((d ≡ true) × (four ≡ Ok name))))
prefix_given true b c d one two three four name fault e = inl (refl, e)
prefix_given false true c d one two three four name fault e = inr (inl (refl, e))
prefix_given false false true d one two three four name fault e = inr (inr (inl (refl, e)))
prefix_given false false false true one two three four name fault e = inr (inr (inr (refl, e)))
prefix_given false false false false one two three four name fault e = absurd cc

pub text_written : (text : List ℕ) (name : QueueName) → name_of text ≡ Ok name → IsText text name
text_written text name e =
    let r : Reading = record { bytes = text; at = 0 } in
    elim (prefix_given (begins text (codes "PUBLIC=")) (begins text (codes "PRIVATE="))
    (begins text (codes "DIRECT=")) (begins text (codes "MACHINE="))
    (public_at (moved 7 r)) (private_at (moved 8 r)) (direct_name_at (moved 7 r))
    (machine_at (moved 8 r)) name (record { at = 0; kind = part.Prefix }) e) [
      | inl given ↦
          let parts = public_took (moved 7 r) name given.1 in
          subst (IsText text) parts.2
          (all (Word (codes "PUBLIC=")) (GuidText parts.0 then JournalText parts.1) r
          (moved 7 r) (word_took (codes "PUBLIC=") r given.0) parts.3)
      | inr more ↦ elim more [
        | inl given ↦
            let parts = private_took (moved 8 r) name given.1 in
            subst (IsText text) parts.3
            (all (Word (codes "PRIVATE=")) (GuidText parts.0 then Word (backslash ∷ [])
            then Digits parts.1 then JournalText parts.2) r (moved 8 r)
            (word_took (codes "PRIVATE=") r given.0) parts.4)
        | inr more ↦ elim more [
          | inl given ↦
              let parts = direct_name_took (moved 7 r) name given.1 in
              subst (IsText text) parts.3
              (all (Word (codes "DIRECT="))
              (HostText parts.0 then Word path then Exactly parts.1 then JournalText parts.2) r
              (moved 7 r) (word_took (codes "DIRECT=") r given.0) parts.4)
          | inr given ↦
              let parts = machine_took (moved 8 r) name given.1 in
              subst (IsText text) parts.2 (all (Word (codes "MACHINE="))
              (GuidText parts.0 then Word (printed_kind parts.1)) r (moved 8 r)
              (word_took (codes "MACHINE=") r given.0) parts.3)
        ]
      ]
    ]
