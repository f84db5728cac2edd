-- What commands that are read keep.
use Rattle.std.proofs.Common.{◌≡◌, ℕ, ◌≤◌, IsTrue, List, [], ◌∷◌, length, Option, Result, Ok, Err, refl, arith}
use Rattle.std.specs.Result.{IfOk}
use Rattle.std.proofs.lemmas.Result.{IfOk-at_ok}
use Rattle.mqb_forms.specs.declared.faults.LineKind.{LineKind}
use Rattle.mqb_forms.specs.Values.{MOST_ROLL, roll_of, place_of, name_of}
use Rattle.mqb_forms.specs.Plans.{plan_of, how_of}
use Rattle.mqb_forms.specs.Sends.{send_of, ops_of}
use Rattle.mqb_forms.proofs.Formed.{then_gives, number_bounds, IsSent, word_sent, AreFormed, ops_formed}
use Rattle.mqb_words.specs.declared.forms.Form.{Form}
use Rattle.mqb_words.specs.declared.forms.Form.TheVariants as form
use Rattle.mqb_words.specs.declared.commands.Call.{Call}
use Rattle.mqb_words.specs.declared.commands.Command.{Command}
use Rattle.mqb_words.specs.declared.commands.Command.TheVariants as command
use Rattle.mqb_words.specs.Table.{form_of}
use Rattle.mqb_words.specs.Values.{MOST_ORDERS, MOST_CONNECTIONS, MOST_MESSAGES, MOST_SECONDS, connections_of, count_in, seconds_of, address_of, address_in, either_of, wait_in, identity_of}
use Rattle.mqb_words.specs.Calls.{peer_from, create_from, sent_with, send_from, commit_from, take_from, purge_from, tick_from, roll_from}
use Rattle.mqb_words.specs.Words.{alone, of_store, orders_from, making, trying, init_from, calling, peek_from, serve_from, attend_from, push_from, fetch_from, command_with, command_from}
use Rattle.mqb_words.specs.Stores.{has_store}
use Rattle.mqb_words.specs.Formed.{IsFormedCall, IsFormed}

-- Calls.

-- it keeps what it must, and a word stands behind the first one
abbrev IsGoodCall : List (List ℕ) → Call → Type 0
IsGoodCall words call = IsFormedCall call × 1 ≤ length words

peer_good : (words : List (List ℕ)) → IfOk (peer_from words) (IsGoodCall words)
unfolding peer_from
peer_good (store ∷ host ∷ guid ∷ address ∷ []) =
    then_gives (IsGoodCall (store ∷ host ∷ guid ∷ address ∷ [])) _ (identity_of host guid address) (λ peer _. (tt, omega arith))
peer_good _ = tt

create_good : (words : List (List ℕ)) → IfOk (create_from words) (IsGoodCall words)
unfolding create_from
create_good (store ∷ name ∷ kind ∷ quota ∷ journal ∷ guid) =
    then_gives (IsGoodCall (store ∷ name ∷ kind ∷ quota ∷ journal ∷ guid)) _ (plan_of name kind quota journal guid) (λ plan _. (tt, omega arith))
create_good _ = tt

sent_formed : (kind priority send : List ℕ) → IfOk (sent_with kind priority send) IsFormedCall
unfolding sent_with
sent_formed kind priority send =
    then_gives IsFormedCall _ (how_of kind priority)
    (λ how _. then_gives IsFormedCall _ (send_of how.1 send) (λ parts is. (IfOk-at_ok (IsSent how.1) is (word_sent how.1 send)).1))

with_a_word : (words : List (List ℕ)) (read : Result Call LineKind) → IfOk read IsFormedCall → 1 ≤ length words → IfOk read (IsGoodCall words)
with_a_word words (Ok call) formed some = (formed, some)
with_a_word words (Err kind) formed some = tt

send_good : (words : List (List ℕ)) → IfOk (send_from words) (IsGoodCall words)
unfolding send_from
send_good (store ∷ kind ∷ priority ∷ send ∷ []) =
    with_a_word (store ∷ kind ∷ priority ∷ send ∷ []) (sent_with kind priority send) (sent_formed kind priority send) (omega arith)
send_good _ = tt

commit_good : (words : List (List ℕ)) → IfOk (commit_from words) (IsGoodCall words)
unfolding commit_from
commit_good (store ∷ op ∷ ops) =
    then_gives (IsGoodCall (store ∷ op ∷ ops)) _ (ops_of (op ∷ ops))
    (λ steps is.
    let formed = IfOk-at_ok (AreFormed (length (op ∷ ops))) is (ops_formed (op ∷ ops)) in
    let count : length steps ≡ length (op ∷ ops) = formed.0 in
    ((omega arith, formed.1), omega arith))
commit_good _ = tt

take_good : (words : List (List ℕ)) → IfOk (take_from words) (IsGoodCall words)
unfolding take_from
take_good (store ∷ place ∷ []) = then_gives (IsGoodCall (store ∷ place ∷ [])) _ (place_of place) (λ from _. (tt, omega arith))
take_good _ = tt

purge_good : (words : List (List ℕ)) → IfOk (purge_from words) (IsGoodCall words)
unfolding purge_from
purge_good (store ∷ place ∷ []) = then_gives (IsGoodCall (store ∷ place ∷ [])) _ (place_of place) (λ from _. (tt, omega arith))
purge_good _ = tt

tick_good : (words : List (List ℕ)) → IfOk (tick_from words) (IsGoodCall words)
unfolding tick_from
tick_good (store ∷ []) = (tt, omega arith)
tick_good _ = tt

roll_good : (words : List (List ℕ)) → IfOk (roll_from words) (IsGoodCall words)
unfolding roll_from
roll_good (store ∷ count ∷ []) =
    then_gives (IsGoodCall (store ∷ count ∷ [])) _ (roll_of count)
    (λ most is. let bounds = number_bounds 1 MOST_ROLL most count is in ((bounds.low, bounds.high), omega arith))
roll_good _ = tt

-- Commands.

-- it keeps what it must, and behind the first word there is one where it has a store
abbrev IsGood : List (List ℕ) → Command → Type 0
IsGood words asked = IsFormed asked × (IsTrue (has_store asked) → 1 ≤ length words)

alone_good : (asked : Command) (words : List (List ℕ)) → IsFormed asked → (IsTrue (has_store asked) → 1 ≤ length words)
    → IfOk (alone asked words) (IsGood words)
unfolding alone
alone_good asked [] formed none = (formed, none)
alone_good asked _ formed none = tt

of_store_good : (asked : Command) (words : List (List ℕ)) → IsFormed asked → IfOk (of_store asked words) (IsGood words)
unfolding of_store
of_store_good asked (store ∷ []) formed = (formed, λ _. omega arith)
of_store_good asked _ formed = tt

orders_bounds : (words : List (List ℕ)) (count : ℕ) → orders_from words ≡ Ok count → (1 ≤ count) × (count ≤ MOST_ORDERS)
unfolding orders_from
orders_bounds (orders ∷ []) count is = let bounds = number_bounds 1 MOST_ORDERS count orders is in (bounds.low, bounds.high)
orders_bounds _ count is = absurd (let never : ⊥ = cc in never)

make_good : (words : List (List ℕ)) → IfOk (making (orders_from words)) (IsGood words)
make_good words = then_gives (IsGood words) _ (orders_from words) (λ count is. (orders_bounds words count is, λ none. cc))

trial_good : (words : List (List ℕ)) → IfOk (trying (orders_from words)) (IsGood words)
trial_good words = then_gives (IsGood words) _ (orders_from words) (λ count is. (orders_bounds words count is, λ none. cc))

init_good : (words : List (List ℕ)) → IfOk (init_from words) (IsGood words)
unfolding init_from
init_good (store ∷ host ∷ guid ∷ address ∷ []) =
    then_gives (IsGood (store ∷ host ∷ guid ∷ address ∷ [])) _ (identity_of host guid address) (λ identity _. (tt, λ _. omega arith))
init_good _ = tt

calling_good : (words : List (List ℕ)) (read : Result Call LineKind) → IfOk read (IsGoodCall words) → IfOk (calling read) (IsGood words)
calling_good words (Ok call) good = (good.0, λ _. good.1)
calling_good words (Err kind) good = tt

serve_good : (words : List (List ℕ)) → IfOk (serve_from words) (IsGood words)
unfolding serve_from
serve_good (store ∷ count ∷ []) =
    then_gives (IsGood (store ∷ count ∷ [])) _ (connections_of count)
    (λ connections is. let bounds = number_bounds 1 MOST_CONNECTIONS connections count is in ((bounds.low, bounds.high), λ _. omega arith))
serve_good _ = tt

-- so many messages are shown
abbrev IsCount : ℕ → Type 0
IsCount count = (1 ≤ count) × (count ≤ MOST_MESSAGES)

count_bounds : (words : List (List ℕ)) (count : ℕ) → count_in words ≡ Ok count → IsCount count
unfolding count_in
count_bounds [] count is = let one : 1 ≡ count = cc in (omega arith, omega arith)
count_bounds (word ∷ []) count is = let bounds = number_bounds 1 MOST_MESSAGES count word is in (bounds.low, bounds.high)
count_bounds (word ∷ more ∷ words) count is = absurd (let never : ⊥ = cc in never)

peek_good : (words : List (List ℕ)) → IfOk (peek_from words) (IsGood words)
unfolding peek_from
peek_good (store ∷ place ∷ behind) =
    then_gives (IsGood (store ∷ place ∷ behind)) _ (place_of place)
    (λ from _. then_gives (IsGood (store ∷ place ∷ behind)) _ (count_in behind) (λ count is. (count_bounds behind count is, λ _. omega arith)))
peek_good _ = tt

attend_good : (words : List (List ℕ)) → IfOk (attend_from words) (IsGood words)
unfolding attend_from
attend_good (store ∷ wait ∷ []) =
    then_gives (IsGood (store ∷ wait ∷ [])) _ (seconds_of wait)
    (λ seconds is. let bounds = number_bounds 1 MOST_SECONDS seconds wait is in ((bounds.low, bounds.high), λ _. omega arith))
attend_good _ = tt

push_good : (words : List (List ℕ)) → IfOk (push_from words) (IsGood words)
unfolding push_from
push_good (store ∷ host ∷ behind) =
    then_gives (IsGood (store ∷ host ∷ behind)) _ (name_of host)
    (λ name _. then_gives (IsGood (store ∷ host ∷ behind)) _ (address_in behind) (λ at _. (tt, λ _. omega arith)))
push_good _ = tt

-- so many seconds are waited
abbrev IsWait : Option (List ℕ) × ℕ → Type 0
IsWait wait = (1 ≤ wait.1) × (wait.1 ≤ MOST_SECONDS)

either_bounds : (word : List ℕ) (read : Result ℕ LineKind) → seconds_of word ≡ read → IfOk (either_of word read) IsWait
either_bounds word (Ok seconds) is = let bounds = number_bounds 1 MOST_SECONDS seconds word is in (bounds.low, bounds.high)
either_bounds word (Err why) is = then_gives IsWait _ (address_of word) (λ at _. (omega arith, omega arith))

wait_bounds : (words : List (List ℕ)) → IfOk (wait_in words) IsWait
unfolding wait_in
wait_bounds [] = (omega arith, omega arith)
wait_bounds (word ∷ []) = either_bounds word (seconds_of word) refl
wait_bounds (address ∷ seconds ∷ []) =
    then_gives IsWait _ (address_of address)
    (λ at _. then_gives IsWait _ (seconds_of seconds) (λ wait is. let bounds = number_bounds 1 MOST_SECONDS wait seconds is in (bounds.low, bounds.high)))
wait_bounds _ = tt

fetch_good : (words : List (List ℕ)) → IfOk (fetch_from words) (IsGood words)
unfolding fetch_from
fetch_good (store ∷ host ∷ behind) =
    then_gives (IsGood (store ∷ host ∷ behind)) _ (name_of host)
    (λ name _. then_gives (IsGood (store ∷ host ∷ behind)) _ (wait_in behind)
    (λ wait is. (IfOk-at_ok IsWait is (wait_bounds behind), λ _. omega arith)))
fetch_good _ = tt

command_good : (which : Form) (words : List (List ℕ)) → IfOk (command_with which words) (IsGood words)
unfolding command_with
command_good form.Replay words = alone_good command.Replay words tt (λ none. cc)
command_good form.Make words = make_good words
command_good form.Trial words = trial_good words
command_good form.Show words = alone_good command.Show words tt (λ none. cc)
command_good form.Init words = init_good words
command_good form.Peer words = calling_good words (peer_from words) (peer_good words)
command_good form.Create words = calling_good words (create_from words) (create_good words)
command_good form.Send words = calling_good words (send_from words) (send_good words)
command_good form.Commit words = calling_good words (commit_from words) (commit_good words)
command_good form.Take words = calling_good words (take_from words) (take_good words)
command_good form.Purge words = calling_good words (purge_from words) (purge_good words)
command_good form.Tick words = calling_good words (tick_from words) (tick_good words)
command_good form.Roll words = calling_good words (roll_from words) (roll_good words)
command_good form.Checkpoint words = of_store_good command.Checkpoint words tt
command_good form.List words = of_store_good command.List words tt
command_good form.Peek words = peek_good words
command_good form.Probe words = of_store_good command.Probe words tt
command_good form.Shell words = of_store_good command.Shell words tt
command_good form.Serve words = serve_good words
command_good form.Attend words = attend_good words
command_good form.Push words = push_good words
command_good form.Fetch words = fetch_good words
command_good form.Help words = alone_good command.Help words tt (λ none. cc)
command_good form.Version words = alone_good command.Version words tt (λ none. cc)

-- it keeps what it must, and there are two words where it has a store
abbrev IsKept : List (List ℕ) → Command → Type 0
IsKept words asked = IsFormed asked × (IsTrue (has_store asked) → 2 ≤ length words)

behind_one : (word : List ℕ) (words : List (List ℕ)) (read : Result Command LineKind) → IfOk read (IsGood words) → IfOk read (IsKept (word ∷ words))
behind_one word words (Ok asked) good = (good.0, λ stored. let some : 1 ≤ length words = good.1 stored in omega arith)
behind_one word words (Err kind) good = tt

words_kept : (words : List (List ℕ)) → IfOk (command_from words) (IsKept words)
unfolding command_from
words_kept [] = tt
words_kept (word ∷ words) =
    then_gives (IsKept (word ∷ words)) _ (form_of word) (λ which _. behind_one word words (command_with which words) (command_good which words))

pub asked_formed : (words : List (List ℕ)) (asked : Command) → command_from words ≡ Ok asked → IsFormed asked
asked_formed words asked is = (IfOk-at_ok (IsKept words) is (words_kept words)).0

pub asked_stored : (words : List (List ℕ)) (asked : Command) → command_from words ≡ Ok asked → IsTrue (has_store asked) → 2 ≤ length words
asked_stored words asked is = (IfOk-at_ok (IsKept words) is (words_kept words)).1
