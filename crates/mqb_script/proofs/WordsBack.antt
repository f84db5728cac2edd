-- The words of an event's line are read back.
use Rattle.std.proofs.Common.{◌≡◌, ℕ, zero, suc, ◌+◌, ◌-◌, ◌^◌, ◌<◌, ◌≤◌, Bool, true, false, ◌==◌, ◌&&◌, not, nat_le, if◌then◌else◌, List, [], ◌∷◌, ◌++◌, length, drop, codes, Option, Some, None, Ok, inl, refl, sym, ap, ◌∙◌, arith, length-append}
use Rattle.std.specs.List.{list_all, join_with_byte}
use Rattle.std.specs.Option.{IfSome}
use Rattle.std.specs.Fmt.{decimal}
use Rattle.uuid.specs.Text.{hyphenated_text, lower, hyphen, is_hyphen_place, digit_place, hex_digit, nibble}
use Rattle.uuid.proofs.TextLemmas.{by_index_length}
use Rattle.uuid.proofs.RoundTrips.{parses_hyphenated_text}
use Rattle.std.proofs.lemmas.List.{drop_at, take_at}
use Rattle.std.proofs.lemmas.List.Folds.{list_all-append}
use Rattle.std.proofs.lemmas.Bool.Decides.{nat_tests}
use Rattle.mqb_base.specs.declared.ids.Guid.{Guid}
use Rattle.mqb_base.specs.declared.queues.Place.{Place}
use Rattle.mqb_base.specs.declared.queues.Place.TheVariants as place
use Rattle.mqb_base.specs.Names.{is_name_byte}
use Rattle.mqb_base.specs.Same.{same_bytes}
use Rattle.mqb_outside.specs.declared.power.Mode.{Mode}
use Rattle.mqb_outside.specs.declared.power.Mode.TheVariants.{Stop, Fail}
use Rattle.mqb_outside.specs.declared.power.Pick.{Pick}
use Rattle.mqb_outside.specs.declared.power.Pick.TheVariants.{Old, New, Half, Ones}
use Rattle.mqb_names.specs.Printed.{printed_guid}
use Rattle.mqb_names.specs.Values.{AreBytes, IsName}
use Rattle.mqb_forms.specs.Values.{MOST, mode_of, pick_of, name_of, guid_from, guid_of, journal_suffix, is_journal, before_journal, place_of}
use Rattle.mqb_forms.specs.Sends.{is_body_byte}
use Rattle.mqb_forms.specs.Plans.{public_of}
use Rattle.mqb_forms.proofs.Tests.{both}
use Rattle.mqb_script.specs.declared.grammar.Grammar.{Grammar}
use Rattle.mqb_script.specs.declared.grammar.Grammar.TheVariants.{Pair, Ring}
use Rattle.mqb_script.specs.declared.forms.Form.{Form}
use Rattle.mqb_script.specs.declared.forms.Form.TheVariants as form
use Rattle.mqb_script.specs.declared.events.Event.{Event}
use Rattle.mqb_script.specs.Hosts.{MOST_MANAGERS, count_of, host_at, manager_of}
use Rattle.mqb_script.specs.Lines.{words_of, is_printable, is_some_word, are_counted, event_of_words, event_of}
use Rattle.mqb_script.specs.Forms.{word_of, form_of, has_count}
use Rattle.mqb_script.specs.Grammar.{at_of, event_from}
use Rattle.mqb_script.specs.Spelling.{choice_text, mode_text, pick_text, place_text, public_words, IsPlaceName}
use Rattle.mqb_script.proofs.Splitting.{all_lack, split_join, lacks_where}
use Rattle.mqb_script.proofs.Decimals.{number_back, number_up_to}
use Rattle.std.proofs.lemmas.Fmt.{decimal_nonempty}
use Rattle.mqb_script.proofs.Fields.{is_field, all_weaker, field-append, name_bytes, name_field, number_field, guid_field}

-- Words: neither empty nor with a space.

abbrev pub is_word_byte : ℕ → Bool
is_word_byte b = nat_le 0x21 b && nat_le b 0x7E

abbrev pub is_word : List ℕ → Bool
is_word word = is_some_word word && list_all is_word_byte word

abbrev pub are_words : List (List ℕ) → Bool
are_words words = list_all is_word words

byte_of_word : (b : ℕ) → is_body_byte b ≡ true → is_word_byte b ≡ true
byte_of_word b h = (both (is_word_byte b) (not (b == 0x2C)) h).0

no_space : (b : ℕ) → is_word_byte b ≡ true → (b == 32) ≡ false
no_space b h = grind (arith, nat_tests)

pub no_comma : (b : ℕ) → is_body_byte b ≡ true → (b == 44) ≡ false
no_comma b h = grind (arith, nat_tests)

word_printable : (b : ℕ) → is_word_byte b ≡ true → is_printable b ≡ true
word_printable b h = grind (arith, nat_tests)

pub field_bytes : (text : List ℕ) → is_field text ≡ true → list_all is_word_byte text ≡ true
field_bytes text h = all_weaker is_body_byte is_word_byte byte_of_word text h

and_is : (a b : Bool) → a ≡ true → b ≡ true → (a && b) ≡ true
and_is a b h k = rw (h, k) refl

some_word : (word : List ℕ) → 1 ≤ length word → is_some_word word ≡ true
some_word word some = grind (arith, nat_tests)

pub word_is : (word : List ℕ) → 1 ≤ length word → list_all is_word_byte word ≡ true → is_word word ≡ true
word_is word some bytes = and_is (is_some_word word) (list_all is_word_byte word) (some_word word some) bytes

word_from : (b : ℕ) (text : List ℕ) → list_all is_word_byte (b ∷ text) ≡ true → is_word (b ∷ text) ≡ true
word_from b text h = word_is (b ∷ text) (omega arith) h

-- what bytes joined by a byte keep
pub join_all : (p : ℕ → Bool) (c : ℕ) → p c ≡ true → (part : List ℕ) (parts : List (List ℕ)) → list_all (λ part. list_all p part) (part ∷ parts) ≡ true
    → list_all p (join_with_byte c (part ∷ parts)) ≡ true
join_all p c is part [] h = (both (list_all p part) true h).0
join_all p c is part (next ∷ parts) h =
    let k = both (list_all p part) (list_all (λ part. list_all p part) (next ∷ parts)) h in
    rw (list_all-append p part (c ∷ join_with_byte c (next ∷ parts)), k.0, is, join_all p c is next parts k.1) refl

words_lack : (words : List (List ℕ)) → are_words words ≡ true → all_lack 32 words ≡ true
words_lack [] h = refl
words_lack (word ∷ words) h =
    let k = both (is_word word) (are_words words) h in
    rw (lacks_where 32 is_word_byte no_space word (both (is_some_word word) (list_all is_word_byte word) k.0).1, words_lack words k.1) refl

words_printable : (words : List (List ℕ)) → are_words words ≡ true → list_all (λ word. list_all is_printable word) words ≡ true
words_printable [] h = refl
words_printable (word ∷ words) h =
    let k = both (is_word word) (are_words words) h in
    rw (
      all_weaker is_word_byte is_printable word_printable word (both (is_some_word word) (list_all is_word_byte word) k.0).1,
      words_printable words k.1,
    ) refl

words_some : (words : List (List ℕ)) → are_words words ≡ true → list_all is_some_word words ≡ true
words_some [] h = refl
words_some (word ∷ words) h =
    let k = both (is_word word) (are_words words) h in rw ((both (is_some_word word) (list_all is_word_byte word) k.0).0, words_some words k.1) refl

form_word : (f : Form) → is_word (word_of f) ≡ true
form_word form.Queue = refl
form_word form.Commit = refl
form_word form.Send = refl
form_word form.Take = refl
form_word form.Purge = refl
form_word form.Tick = refl
form_word form.Connect = refl
form_word form.Disconnect = refl
form_word form.Pump = refl
form_word form.Deliver = refl
form_word form.Drop = refl
form_word form.Flow = refl
form_word form.Resend = refl
form_word form.Arm = refl
form_word form.Restart = refl
form_word form.Roll = refl
form_word form.Checkpoint = refl

form_back : (f : Form) → form_of (word_of f) ≡ Ok f
unfolding form_of
form_back form.Queue = refl
form_back form.Commit = refl
form_back form.Send = refl
form_back form.Take = refl
form_back form.Purge = refl
form_back form.Tick = refl
form_back form.Connect = refl
form_back form.Disconnect = refl
form_back form.Pump = refl
form_back form.Deliver = refl
form_back form.Drop = refl
form_back form.Flow = refl
form_back form.Resend = refl
form_back form.Arm = refl
form_back form.Restart = refl
form_back form.Roll = refl
form_back form.Checkpoint = refl

counted_words : (g : Grammar) (f : Form) (words : List (List ℕ)) → are_words words ≡ true → has_count g f (length words) ≡ true → are_counted g f words ≡ true
unfolding are_counted
counted_words g f words are count = rw (words_some words are, count) refl

event_words : (g : Grammar) (f : Form) (words : List (List ℕ)) → are_words words ≡ true → has_count g f (length words) ≡ true
    → event_of_words g (word_of f ∷ words) ≡ event_from g f words
unfolding event_of_words
event_words g f words are count = rw (form_back f, counted_words g f words are count) refl

event_line : (g : Grammar) (words : List (List ℕ)) (line : List ℕ) → list_all is_printable line ≡ true → words_of line ≡ words → event_of g line ≡ event_of_words g words
unfolding event_of
event_line g words line printable is = rw (printable, is) refl

-- a line of a form, its words behind the first one
pub line_back : (g : Grammar) (f : Form) (words : List (List ℕ)) (event : Event) → are_words words ≡ true → has_count g f (length words) ≡ true
    → event_from g f words ≡ Ok event
    → event_of g (join_with_byte 32 (word_of f ∷ words)) ≡ Ok event
line_back g f words event are count is =
    let all : are_words (word_of f ∷ words) ≡ true = rw (form_word f, are) refl in
    event_line g (word_of f ∷ words) (join_with_byte 32 (word_of f ∷ words))
    (join_all is_printable 32 refl (word_of f) words (words_printable (word_of f ∷ words) all))
    (split_join 32 (word_of f) words (words_lack (word_of f ∷ words) all))
    ∙ event_words g f words are count ∙ is

-- Managers, moments and other numbers.

some_digits : (n : ℕ) → n < 2 ^ 64 → is_some_word (decimal n) ≡ true
some_digits n fits = let some = decimal_nonempty n fits in grind (arith, nat_tests)

pub number_word : (n : ℕ) → n ≤ MOST → is_word (decimal n) ≡ true
number_word n most =
    let fits : n < 2 ^ 64 = omega arith in rw (some_digits n fits, field_bytes (decimal n) (number_field n fits)) refl

-- one of the managers of a script
pub record Named (g : Grammar) : Type 0 where
  pub at : ℕ
  pub one : at < count_of g
  pub few : count_of g ≤ MOST_MANAGERS

ring_word : (i : ℕ) → i < MOST_MANAGERS → is_word (codes "m" ++ decimal (i + 1)) ≡ true
ring_word i small = word_from 0x6D (decimal (i + 1)) (field_bytes (decimal (i + 1)) (number_field (i + 1) (omega arith)))

named_word : (g : Grammar) (i : ℕ) → i < MOST_MANAGERS → is_word (host_at g i) ≡ true
named_word Pair zero small = refl
named_word Pair (suc i) small = refl
named_word (Ring count) i small = ring_word i small

pub host_word : {g : Grammar} (which : Named g) → is_word (host_at g which.at) ≡ true
host_word {g} which = let one = which.one in let few = which.few in named_word g which.at (omega (arith, one, few))

named_back : (g : Grammar) (i : ℕ) → i < count_of g → count_of g ≤ MOST_MANAGERS → manager_of g (host_at g i) ≡ Ok i
unfolding manager_of
named_back Pair zero one few = refl
named_back Pair (suc zero) one few = refl
named_back Pair (suc (suc i)) one few = absurd (omega arith)
named_back (Ring count) i one few = rw (number_up_to 1 count (i + 1) (omega arith) (omega arith) (omega arith)) (ap Ok (omega arith))

pub manager_back : {g : Grammar} (which : Named g) → manager_of g (host_at g which.at) ≡ Ok which.at
manager_back {g} which = named_back g which.at which.one which.few

pub at_back : {g : Grammar} (which : Named g) (now : ℕ) → now ≤ MOST → at_of g (host_at g which.at) (decimal now) ≡ Ok (which.at, now)
unfolding at_of
at_back which now most = rw (manager_back which, number_back 0 now (omega arith) most) refl

pub choice_word : (first second : List ℕ) (choice : Bool) → is_word first ≡ true → is_word second ≡ true → is_word (choice_text first second choice) ≡ true
choice_word first second true a b = a
choice_word first second false a b = b

pub mode_word : (mode : Mode) → is_word (mode_text mode) ≡ true
mode_word Stop = refl
mode_word Fail = refl

pub mode_back : (mode : Mode) → mode_of (mode_text mode) ≡ Ok mode
unfolding mode_of
mode_back Stop = refl
mode_back Fail = refl

pub pick_word : (pick : Pick) → is_word (pick_text pick) ≡ true
pick_word Old = refl
pick_word New = refl
pick_word Half = refl
pick_word Ones = refl

pub pick_back : (pick : Pick) → pick_of (pick_text pick) ≡ Ok pick
unfolding pick_of
pick_back Old = refl
pick_back New = refl
pick_back Half = refl
pick_back Ones = refl

-- Names, GUIDs and places.

pub name_back : (name : List ℕ) → IsName name → name_of name ≡ Ok name
unfolding name_of
name_back name is = rw is refl

pub name_word : (name : List ℕ) → IsName name → is_word name ≡ true
name_word [] is = cc
name_word (b ∷ name) is = word_from b name (field_bytes (b ∷ name) (name_field (b ∷ name) is))

guid_some : (text : List ℕ) → length text ≡ 36 → list_all is_word_byte text ≡ true → is_word text ≡ true
guid_some text long bytes = word_is text (omega arith) bytes

hyphenated_length : (bytes : List ℕ) → length (hyphenated_text lower bytes) ≡ 36
hyphenated_length bytes = by_index_length 36 (λ k. if is_hyphen_place k then hyphen else hex_digit lower (nibble bytes (digit_place k)))

guid_word : (guid : Guid) → is_word (printed_guid guid) ≡ true
guid_word guid = guid_some (printed_guid guid) (hyphenated_length guid.0) (field_bytes (printed_guid guid) (guid_field guid))

guid_back : (guid : Guid) → AreBytes 16 guid.0 → guid_of (printed_guid guid) ≡ Ok guid
unfolding guid_of
guid_back guid bytes = ap guid_from (sym (parses_hyphenated_text lower guid.0 (inl refl) bytes.0 bytes.1))

pub public_words_are : (public : Option Guid) → are_words (public_words public) ≡ true
public_words_are None = refl
public_words_are (Some guid) = rw (guid_word guid) refl

pub public_back : (public : Option Guid) → IfSome public (λ guid. AreBytes 16 guid.0) → public_of (public_words public) ≡ Ok public
unfolding public_of
public_back None bytes = refl
public_back (Some guid) bytes = rw (guid_back guid bytes) refl

-- a name has no semicolon
name_semicolon : (b : ℕ) → is_name_byte b ≡ true → (b == 59) ≡ false
name_semicolon b h = grind (arith, nat_tests)

other_byte : (b : ℕ) → (b == 59) ≡ false → (59 == b) ≡ false
other_byte b h = grind (arith, nat_tests)

no_suffix : (rest text : List ℕ) → list_all is_name_byte text ≡ true → same_bytes text (59 ∷ rest) ≡ false
no_suffix rest [] h = refl
no_suffix rest (b ∷ text) h = rw (name_semicolon b (both (is_name_byte b) (list_all is_name_byte text) h).0) refl

no_suffix_behind : (rest text : List ℕ) → list_all is_name_byte text ≡ true → same_bytes (59 ∷ rest) text ≡ false
no_suffix_behind rest [] h = refl
no_suffix_behind rest (b ∷ text) h =
    rw (other_byte b (name_semicolon b (both (is_name_byte b) (list_all is_name_byte text) h).0)) refl

drop_all_pass : (p : ℕ → Bool) (n : ℕ) (xs : List ℕ) → list_all p xs ≡ true → list_all p (drop n xs) ≡ true
drop_all_pass p zero xs h = h
drop_all_pass p (suc n) [] h = refl
drop_all_pass p (suc n) (x ∷ xs) h = drop_all_pass p n xs (both (p x) (list_all p xs) h).1

queue_place : (name : List ℕ) → IsName name → place_of name ≡ Ok (place.Queue name)
unfolding place_of
queue_place name is =
    let bytes = name_bytes name is in
    rw (
      no_suffix (codes "deadletter") name bytes,
      no_suffix (codes "deadxact") name bytes,
      no_suffix (codes "journal") name bytes,
      no_suffix_behind (codes "journal") (drop (length name - 8) name) (drop_all_pass is_name_byte (length name - 8) name bytes),
      name_back name is,
    ) refl

named_journal : (rest : List ℕ) (b : ℕ) (name : List ℕ) → is_name_byte b ≡ true → same_bytes ((b ∷ name) ++ journal_suffix) (59 ∷ rest) ≡ false
named_journal rest b name h = rw (name_semicolon b h) refl

suffix_there : (name : List ℕ) → is_journal (name ++ journal_suffix) ≡ true
suffix_there name =
    let place : length (name ++ journal_suffix) - length journal_suffix ≡ length name = omega (arith, length-append name journal_suffix) in
    rw (place, drop_at name journal_suffix (length name) refl) refl

suffix_off : (name : List ℕ) → before_journal (name ++ journal_suffix) ≡ name
suffix_off name =
    let place : length (name ++ journal_suffix) - length journal_suffix ≡ length name = omega (arith, length-append name journal_suffix) in
    rw (place, take_at name journal_suffix (length name) refl) refl

journal_place : (name : List ℕ) → IsName name → place_of (name ++ journal_suffix) ≡ Ok (place.JournalOf name)
unfolding place_of
journal_place [] is = cc
journal_place (b ∷ name) is =
    let first = (both (is_name_byte b) (list_all is_name_byte name) (name_bytes (b ∷ name) is)).0 in
    rw (
      named_journal (codes "deadletter") b name first,
      named_journal (codes "deadxact") b name first,
      named_journal (codes "journal") b name first,
      suffix_there (b ∷ name),
      suffix_off (b ∷ name),
      name_back (b ∷ name) is,
    ) refl

pub place_back : (from : Place) → IsPlaceName from → place_of (place_text from) ≡ Ok from
unfolding place_of
place_back (place.Queue name) is = queue_place name is
place_back (place.JournalOf name) is = journal_place name is
place_back place.Dead is = refl
place_back place.DeadXact is = refl
place_back place.Journal is = refl

journal_word : (name : List ℕ) → IsName name → is_word (name ++ journal_suffix) ≡ true
journal_word [] is = cc
journal_word (b ∷ name) is =
    word_from b (name ++ journal_suffix)
    (field_bytes ((b ∷ name) ++ journal_suffix) (field-append (b ∷ name) journal_suffix (name_field (b ∷ name) is) refl))

pub place_word : (from : Place) → IsPlaceName from → is_word (place_text from) ≡ true
place_word (place.Queue name) is = name_word name is
place_word (place.JournalOf name) is = journal_word name is
place_word place.Dead is = refl
place_word place.DeadXact is = refl
place_word place.Journal is = refl
