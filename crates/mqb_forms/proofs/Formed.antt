-- What numbers that are read keep, and the steps of a transaction.
use Rattle.std.proofs.Common.{◌≡◌, ℕ, ◌≤◌, Bool, true, false, ◌&&◌, nat_le, if◌then◌else◌, List, [], ◌∷◌, drop, length, codes, Result, Ok, Err, refl, arith}
use Rattle.std.specs.Result.{IfOk}
use Rattle.std.specs.List.{AllByRecursion}
use Rattle.std.proofs.lemmas.Result.{IfOk-at_ok}
use Rattle.std.proofs.lemmas.Bool.Decides.{nat_tests}
use Rattle.mqb_base.specs.Same.{same_bytes}
use Rattle.mqb_base.specs.declared.draft.Op.{Op}
use Rattle.mqb_base.specs.declared.draft.Parts.{Parts}
use Rattle.mqb_fields.specs.Reading.{◌>>=◌}
use Rattle.mqb_forms.specs.declared.faults.LineKind.{LineKind}
use Rattle.mqb_forms.specs.Faults.{only_if}
use Rattle.mqb_forms.specs.Words.{fields_of, value_of, is_decimal, is_within, number_in}
use Rattle.mqb_forms.specs.Values.{name_of}
use Rattle.mqb_forms.specs.Sends.{names_from, terms_from, body_of, message_of, parts_from, send_from, send_of, take_from, sending, is_take, op_from, op_of, ops_of}
use Rattle.mqb_forms.specs.Formed.{IsPlain, IsFormedOp}
use Rattle.mqb_forms.proofs.Tests.{both}

-- What holds of a value that is read.

pub then_gives : {S T E : Type 0} (P : T → Type 0) (f : S → Result T E) (r : Result S E) → ((x : S) → r ≡ Ok x → IfOk (f x) P) → IfOk (r >>= f) P
then_gives P f (Ok x) step = step x refl
then_gives P f (Err e) step = tt

pub choice_gives : {T E : Type 0} (P : T → Type 0) (test : Bool) (a b : Result T E) → (test ≡ true → IfOk a P) → IfOk b P
    → IfOk (if test then a else b) P
choice_gives P true a b h k = h refl
choice_gives P false a b h k = k

pub only_gives : {T : Type 0} (P : T → Type 0) (test : Bool) (r : Result T LineKind) → IfOk r P → IfOk (only_if test r) P
only_gives P true r h = h
only_gives P false r h = tt

-- Numbers.

pub record IsWithin (least greatest n : ℕ) : Type 0 where
  pub low : least ≤ n
  pub high : n ≤ greatest

within : (least greatest v : ℕ) → is_within least greatest v ≡ true → IsWithin least greatest v
within least greatest v h =
    let k = both (nat_le least v) (nat_le v greatest) h in
    let low : nat_le least v ≡ true = k.0 in
    let high : nat_le v greatest ≡ true = k.1 in
    record { low = grind (arith, nat_tests); high = grind (arith, nat_tests) }

number_tested : (least greatest v n : ℕ) (a b : Bool) → is_within least greatest v ≡ b → only_if (a && b) (Ok v) ≡ Ok n → IsWithin least greatest n
number_tested least greatest v n true true e h = let is : v ≡ n = cc in rw is at (within least greatest v e)
number_tested least greatest v n true false e h = cc
number_tested least greatest v n false b e h = cc

pub number_bounds : (least greatest n : ℕ) (word : List ℕ) → number_in least greatest word ≡ Ok n → IsWithin least greatest n
unfolding number_in
number_bounds least greatest n word h =
    number_tested least greatest (value_of word) n (is_decimal word) (is_within least greatest (value_of word)) refl h

-- Sends and other steps.

abbrev pub IsSent : ℕ → Parts → Type 0
IsSent priority parts = (parts.priority ≡ priority) × IsPlain parts

message_sent : (priority : ℕ) (destination reach life flags admin response text : List ℕ)
    → IfOk (message_of priority destination reach life flags admin response text) (IsSent priority)
unfolding message_of
message_sent priority destination reach life flags admin response text =
    then_gives (IsSent priority) _ (names_from destination admin response)
    (λ names _. then_gives (IsSent priority) _ (terms_from reach life flags)
    (λ terms _. then_gives (IsSent priority) _ (body_of text)
    (λ body _. (refl, record { label = refl; extension = refl; body_type = refl; tag = refl; correlation = refl }))))

parts_sent : (priority : ℕ) (fields : List (List ℕ)) → IfOk (parts_from priority fields) (IsSent priority)
unfolding parts_from
parts_sent priority (destination ∷ reach ∷ life ∷ flags ∷ admin ∷ response ∷ text ∷ []) =
    message_sent priority destination reach life flags admin response text
parts_sent priority _ = tt

send_sent : (priority : ℕ) (fields : List (List ℕ)) → IfOk (send_from priority fields) (IsSent priority)
unfolding send_from
send_sent priority [] = tt
send_sent priority (word ∷ fields) =
    only_gives (IsSent priority) (same_bytes word (codes "send")) (parts_from priority fields) (parts_sent priority fields)

pub word_sent : (priority : ℕ) (word : List ℕ) → IfOk (send_of priority word) (IsSent priority)
unfolding send_of
word_sent priority word = send_sent priority (fields_of word)

take_formed : (fields : List (List ℕ)) → IfOk (take_from fields) IsFormedOp
unfolding take_from
take_formed (name ∷ []) = then_gives IsFormedOp _ (name_of name) (λ queue _. tt)
take_formed _ = tt

sending_formed : (fields : List (List ℕ)) → IfOk (sending fields) IsFormedOp
sending_formed fields =
    then_gives IsFormedOp _ (send_from 0 fields) (λ parts is. IfOk-at_ok (IsSent 0) is (send_sent 0 fields))

op_formed : (word : List ℕ) → IfOk (op_of word) IsFormedOp
unfolding op_of op_from
op_formed word =
    let fields : List (List ℕ) = fields_of word in
    choice_gives IsFormedOp (is_take fields) (take_from (drop 1 fields)) (sending fields) (λ _. take_formed (drop 1 fields)) (sending_formed fields)

abbrev pub AreFormed : ℕ → List Op → Type 0
AreFormed n ops = (length ops ≡ n) × AllByRecursion IsFormedOp ops

pub ops_formed : (words : List (List ℕ)) → IfOk (ops_of words) (AreFormed (length words))
unfolding ops_of
ops_formed [] = (refl, tt)
ops_formed (word ∷ words) =
    then_gives (AreFormed (length (word ∷ words))) _ (op_of word)
    (λ op one. then_gives (AreFormed (length (word ∷ words))) _ (ops_of words)
    (λ ops more.
    let rest = IfOk-at_ok (AreFormed (length words)) more (ops_formed words) in
    let count : length ops ≡ length words = rest.0 in
    (omega arith, (IfOk-at_ok IsFormedOp one (op_formed word), rest.1))))
