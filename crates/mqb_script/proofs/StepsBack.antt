-- The steps of a transaction are read back.
use Rattle.std.proofs.Common.{◌≡◌, ℕ, ◌+◌, ◌*◌, ◌/◌, ◌%◌, ◌^◌, ◌<◌, ◌≤◌, Bool, true, false, ◌==◌, not, if◌then◌else◌, List, [], ◌∷◌, ◌++◌, map, replicate, codes, Option, Some, None, Ok, refl, ap, ◌∙◌, arith}
use Rattle.std.specs.List.{list_all, AllByRecursion, join_with_byte}
use Rattle.std.specs.Option.{IfSome}
use Rattle.std.specs.Fmt.{decimal}
use Rattle.std.proofs.lemmas.Bool.Decides.{nat_tests}
use Rattle.mqb_base.specs.declared.queue_names.QueueName.{QueueName}
use Rattle.mqb_base.specs.declared.queue_names.QueueName.TheVariants.{Public, Private, Direct, Machine}
use Rattle.mqb_base.specs.declared.draft.Op.{Op}
use Rattle.mqb_base.specs.declared.draft.Op.TheVariants as op
use Rattle.mqb_base.specs.QueueNames.{names_queue, absent_or_queue}
use Rattle.mqb_names.specs.Printed.{printed}
use Rattle.mqb_names.specs.Values.{IsName, IsQueueName}
use Rattle.mqb_names.specs.lemmas.PrintedAgain.{printed_again}
use Rattle.mqb_forms.specs.declared.sends.Names.{Names}
use Rattle.mqb_forms.specs.declared.sends.Terms.{Terms}
use Rattle.mqb_forms.specs.Words.{fields_of, is_digit}
use Rattle.mqb_forms.specs.Values.{MOST}
use Rattle.mqb_forms.specs.Sends.{is_dash, queue_name, destination_of, optional_of, MOST_SECONDS, seconds_of, flags_text, is_body_byte, is_starred, MOST_COUNTED, body_of, names_from, terms_from, parts_of, message_of, parts_from, send_from, send_of, take_from, op_from, op_of, ops_of}
use Rattle.mqb_forms.proofs.Tests.{both}
use Rattle.mqb_forms.proofs.FlagLetters.{flags_back, flags_bytes}
use Rattle.mqb_script.specs.Spelling.{optional_text, seconds_text, send_text, op_text, is_plain, IsTold, IsSpelledOp}
use Rattle.mqb_script.proofs.Splitting.{lacks, all_lack, split_join, lacks_where}
use Rattle.mqb_script.proofs.Decimals.{decimal_spells, number_up_to}
use Rattle.mqb_script.proofs.Fields.{is_field, name_field, number_field, queue_field}
use Rattle.mqb_script.proofs.WordsBack.{are_words, field_bytes, is_word, is_word_byte, join_all, name_back, no_comma, word_is}

-- The fields of a send.

destination_back : (name : QueueName) → IsQueueName name → names_queue name ≡ true → destination_of (printed name) ≡ Ok name
unfolding destination_of
destination_back name valid queue = ap queue_name (printed_again name valid) ∙ rw queue refl

printed_no_dash : (name : QueueName) → is_dash (printed name) ≡ false
printed_no_dash (Public guid journal) = refl
printed_no_dash (Private qm number journal) = refl
printed_no_dash (Direct host queue journal) = refl
printed_no_dash (Machine qm kind) = refl

optional_back : (name : Option QueueName) → IfSome name IsQueueName → absent_or_queue name ≡ true → optional_of (optional_text name) ≡ Ok name
unfolding optional_of
optional_back None valid queue = refl
optional_back (Some name) valid queue = rw (printed_no_dash name, destination_back name valid queue) refl

optional_field : (name : Option QueueName) → IfSome name IsQueueName → absent_or_queue name ≡ true → is_field (optional_text name) ≡ true
optional_field None valid queue = refl
optional_field (Some name) valid queue = queue_field name valid queue

digits_no_dash : (digits : List ℕ) → list_all is_digit digits ≡ true → is_dash digits ≡ false
digits_no_dash [] h = refl
digits_no_dash (b ∷ digits) h =
    let digit : is_digit b ≡ true = (both (is_digit b) (list_all is_digit digits) h).0 in
    let other : (b == 45) ≡ false = grind (arith, nat_tests) in
    rw other refl

seconds_counted : (seconds : ℕ) → seconds ≤ MOST_SECONDS → seconds_of (decimal seconds) ≡ Ok seconds
unfolding seconds_of
seconds_counted seconds most =
    let fits : seconds < 2 ^ 64 = omega arith in
    rw (digits_no_dash (decimal seconds) (decimal_spells seconds fits).digit, number_up_to 0 MOST_SECONDS seconds (omega arith) most (omega arith)) refl

seconds_tested : (seconds : ℕ) (unlimited : Bool) → (seconds == MOST) ≡ unlimited → seconds ≤ MOST
    → seconds_of (if unlimited then codes "-" else decimal seconds) ≡ Ok seconds
unfolding seconds_of
seconds_tested seconds true e most = let is : MOST ≡ seconds = grind (arith, nat_tests) in ap Ok is
seconds_tested seconds false e most = seconds_counted seconds (grind (arith, nat_tests))

seconds_back : (seconds : ℕ) → seconds ≤ MOST → seconds_of (seconds_text seconds) ≡ Ok seconds
seconds_back seconds most = seconds_tested seconds (seconds == MOST) refl most

seconds_choice : (seconds : ℕ) (unlimited : Bool) → seconds ≤ MOST → is_field (if unlimited then codes "-" else decimal seconds) ≡ true
seconds_choice seconds true most = refl
seconds_choice seconds false most = number_field seconds (omega arith)

seconds_field : (seconds : ℕ) → seconds ≤ MOST → is_field (seconds_text seconds) ≡ true
seconds_field seconds most = seconds_choice seconds (seconds == MOST) most

is_unstarred : (b : Bool) → not b ≡ true → b ≡ false
is_unstarred true h = cc
is_unstarred false h = refl

body_back : (body : List ℕ) → is_plain body ≡ true → body_of body ≡ Ok body
unfolding body_of
body_back body h =
    let k = both (is_field body) (not (is_starred body)) h in rw (is_unstarred (is_starred body) k.1, k.0) refl

pub counted_back : (n : ℕ) → n ≤ MOST_COUNTED → body_of (codes "*" ++ decimal n) ≡ Ok (replicate n 0x78)
unfolding body_of
counted_back n most = rw (number_up_to 0 MOST_COUNTED n (omega arith) most (omega arith)) refl

-- a send of a message
abbrev pub told_fields : Names → Terms → List ℕ → List (List ℕ)
told_fields names terms body = printed names.destination ∷ seconds_text terms.reach ∷ seconds_text terms.life ∷ flags_text terms.flags
    ∷ optional_text names.admin ∷ optional_text names.response ∷ body ∷ []

abbrev pub told_word : Names → Terms → List ℕ → List ℕ
told_word names terms body = join_with_byte 44 (codes "send" ∷ told_fields names terms body)

pub told_text : (priority : ℕ) (names : Names) (terms : Terms) (body : List ℕ) → send_text (parts_of priority names terms body) ≡ told_word names terms body
told_text priority names terms body = let same : terms.flags % 4 + 4 * (terms.flags / 4) ≡ terms.flags = omega arith in rw same refl

all_fields_are : (names : Names) (terms : Terms) (body : List ℕ) → IsTold names terms body
    → list_all is_field (codes "send" ∷ told_fields names terms body) ≡ true
all_fields_are names terms body told =
    rw (
      queue_field names.destination told.destination told.queues.0,
      seconds_field terms.reach told.reach,
      seconds_field terms.life told.life,
      flags_bytes terms.flags told.flags,
      optional_field names.admin told.admin told.queues.1,
      optional_field names.response told.response told.queues.2,
      (both (is_field body) (not (is_starred body)) told.plain).0,
    ) refl

fields_lack : (fields : List (List ℕ)) → list_all is_field fields ≡ true → all_lack 44 fields ≡ true
fields_lack [] h = refl
fields_lack (field ∷ fields) h =
    let k = both (is_field field) (list_all is_field fields) h in
    rw (lacks_where 44 is_body_byte no_comma field k.0, fields_lack fields k.1) refl

fields_word_bytes : (fields : List (List ℕ)) → list_all is_field fields ≡ true → list_all (λ part. list_all is_word_byte part) fields ≡ true
fields_word_bytes [] h = refl
fields_word_bytes (field ∷ fields) h =
    let k = both (is_field field) (list_all is_field fields) h in rw (field_bytes field k.0, fields_word_bytes fields k.1) refl

pub told_word_is : (names : Names) (terms : Terms) (body : List ℕ) → IsTold names terms body → is_word (told_word names terms body) ≡ true
told_word_is names terms body told =
    word_is (told_word names terms body) (omega arith)
    (join_all is_word_byte 44 refl (codes "send") (told_fields names terms body)
    (fields_word_bytes (codes "send" ∷ told_fields names terms body) (all_fields_are names terms body told)))

told_split : (names : Names) (terms : Terms) (body : List ℕ) → IsTold names terms body
    → fields_of (told_word names terms body) ≡ codes "send" ∷ told_fields names terms body
told_split names terms body told =
    split_join 44 (codes "send") (told_fields names terms body)
    (fields_lack (codes "send" ∷ told_fields names terms body) (all_fields_are names terms body told))

names_back : (names : Names) (terms : Terms) (body : List ℕ) → IsTold names terms body
    → names_from (printed names.destination) (optional_text names.admin) (optional_text names.response) ≡ Ok names
unfolding names_from
names_back names terms body told =
    rw (
      destination_back names.destination told.destination told.queues.0,
      optional_back names.admin told.admin told.queues.1,
      optional_back names.response told.response told.queues.2,
    ) refl

terms_back : (names : Names) (terms : Terms) (body : List ℕ) → IsTold names terms body
    → terms_from (seconds_text terms.reach) (seconds_text terms.life) (flags_text terms.flags) ≡ Ok terms
unfolding terms_from
terms_back names terms body told =
    rw (seconds_back terms.reach told.reach, seconds_back terms.life told.life, flags_back terms.flags told.flags) refl

parts_back : (priority : ℕ) (names : Names) (terms : Terms) (body : List ℕ) → IsTold names terms body
    → send_from priority (codes "send" ∷ told_fields names terms body) ≡ Ok (parts_of priority names terms body)
unfolding send_from parts_from message_of
parts_back priority names terms body told =
    rw (names_back names terms body told, terms_back names terms body told, body_back body told.plain) refl

pub send_back : (priority : ℕ) (names : Names) (terms : Terms) (body : List ℕ) → IsTold names terms body
    → send_of priority (told_word names terms body) ≡ Ok (parts_of priority names terms body)
unfolding send_of
send_back priority names terms body told = ap (send_from priority) (told_split names terms body told) ∙ parts_back priority names terms body told

-- The steps of a transaction.

send_fields_back : (names : Names) (terms : Terms) (body : List ℕ) → IsTold names terms body
    → op_from (codes "send" ∷ told_fields names terms body) ≡ Ok (op.Send (parts_of 0 names terms body))
unfolding op_from
send_fields_back names terms body told = rw (parts_back 0 names terms body told) refl

send_op_back : (names : Names) (terms : Terms) (body : List ℕ) → IsTold names terms body
    → op_of (told_word names terms body) ≡ Ok (op.Send (parts_of 0 names terms body))
unfolding op_of
send_op_back names terms body told = ap op_from (told_split names terms body told) ∙ send_fields_back names terms body told

take_word : (name : List ℕ) → IsName name → is_word (join_with_byte 44 (codes "take" ∷ name ∷ [])) ≡ true
take_word name is =
    let bytes : list_all is_word_byte name ≡ true = field_bytes name (name_field name is) in
    word_is (join_with_byte 44 (codes "take" ∷ name ∷ [])) (omega arith) (join_all is_word_byte 44 refl (codes "take") (name ∷ []) (rw bytes refl))

take_split : (name : List ℕ) → IsName name → fields_of (join_with_byte 44 (codes "take" ∷ name ∷ [])) ≡ codes "take" ∷ name ∷ []
take_split name is =
    let lack : lacks 44 name ≡ true = lacks_where 44 is_body_byte no_comma name (name_field name is) in
    split_join 44 (codes "take") (name ∷ []) (rw lack refl)

take_fields_back : (name : List ℕ) → IsName name → op_from (codes "take" ∷ name ∷ []) ≡ Ok (op.Take name)
unfolding op_from take_from
take_fields_back name is = rw (name_back name is) refl

take_op_back : (name : List ℕ) → IsName name → op_of (join_with_byte 44 (codes "take" ∷ name ∷ [])) ≡ Ok (op.Take name)
unfolding op_of
take_op_back name is = ap op_from (take_split name is) ∙ take_fields_back name is

op_word : {step : Op} → IsSpelledOp step → is_word (op_text step) ≡ true
op_word (IsSpelledOp.send names terms body told) = ap is_word (told_text 0 names terms body) ∙ told_word_is names terms body told
op_word (IsSpelledOp.take name is) = take_word name is

op_back : {step : Op} → IsSpelledOp step → op_of (op_text step) ≡ Ok step
op_back (IsSpelledOp.send names terms body told) = ap op_of (told_text 0 names terms body) ∙ send_op_back names terms body told
op_back (IsSpelledOp.take name is) = take_op_back name is

pub ops_words : (ops : List Op) → AllByRecursion IsSpelledOp ops → are_words (map op_text ops) ≡ true
ops_words [] all = refl
ops_words (step ∷ ops) all = rw (op_word all.0, ops_words ops all.1) refl

pub ops_back : (ops : List Op) → AllByRecursion IsSpelledOp ops → ops_of (map op_text ops) ≡ Ok ops
unfolding ops_of
ops_back [] all = refl
ops_back (step ∷ ops) all = rw (op_back all.0, ops_back ops all.1) refl
