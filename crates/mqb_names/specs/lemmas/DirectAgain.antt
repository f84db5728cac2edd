-- A direct name that is printed is read again.
use Rattle.std.proofs.Common.{◌≡◌, ◌≤◌, ◌<◌, ℕ, suc, ◌+◌, ◌-◌, ◌*◌, ◌/◌, ◌%◌, Bool, true, false}
use Rattle.std.proofs.Common.{cond, not, ◌||◌, ◌==◌, ltb, List, [], ◌∷◌, ◌++◌, length, drop, Option}
use Rattle.std.proofs.Common.{Some, None, option_map, Result, Ok, refl, sym, ap, ◌∙◌, arith}
use Rattle.std.proofs.Common.{append_assoc, slice_index, inl, inr, length-append}
use Rattle.std.proofs.lemmas.Bool.Decides.{nat_tests}
use Rattle.std.proofs.lemmas.Bool.{cases_lt, le-ltb, lt-ltb, ltb-false}
use Rattle.std.proofs.lemmas.List.{take_at, drop_at, drop-drop}
use Rattle.std.proofs.lemmas.List.Sums.{prefix_len-le-length}
use Rattle.std.specs.Prelude.{codes}
use Rattle.std.specs.List.{prefix_len, before_first}
use Rattle.mqb_base.specs.declared.names.NameError.{NameError}
use Rattle.mqb_base.specs.declared.names.NameError.TheVariants.{Length, Byte}
use Rattle.mqb_base.specs.declared.queue_names.Host.{Host}
use Rattle.mqb_base.specs.declared.queue_names.Host.TheVariants.{Os, Tcp}
use Rattle.mqb_base.specs.declared.queue_names.QueueName.TheVariants.{Direct}
use Rattle.mqb_base.specs.Names.{is_name_byte}
use Rattle.mqb_fields.specs.Reading.{Reading, rest_of, moved}
use Rattle.mqb_names.specs.declared.faults.PartFault.{PartFault}
use Rattle.mqb_names.specs.declared.faults.NameKind.{NameKind}
use Rattle.mqb_names.specs.declared.faults.NameKind.TheVariants as part
use Rattle.mqb_names.specs.Printed.{dot, path, printed, printed_address, printed_direct}
use Rattle.mqb_names.specs.Printed.{printed_host, printed_journal, printed_octet}
use Rattle.mqb_names.specs.Parts.{same_word, begins, is_stop, is_digit, octet_of}
use Rattle.mqb_names.specs.Parts.{octet_and_rest, address_of}
use Rattle.mqb_names.specs.Reading.{name_at, host_at, direct_at, direct_name_at, name_of}
use Rattle.mqb_names.specs.Values.{AreBytes, IsName, IsHost}
use Rattle.mqb_names.specs.lemmas.Again.{rest_again, journal_again}

-- the text that follows is empty or begins with a stop
abbrev pub Stops : List ℕ → Type 0
Stops rest = prefix_len (λ b. not (is_stop b)) rest ≡ 0

-- no stop is in it
abbrev pub Runs : List ℕ → Type 0
Runs [] = Unit {0}
Runs (b ∷ text) = (is_stop b ≡ false) × Runs text

runs_both : (first second : List ℕ) → Runs first → Runs second → Runs (first ++ second)
runs_both [] second one two = two
runs_both (b ∷ first) second one two = (one.0, runs_both first second one.1 two)

run_length : (text rest : List ℕ) → Runs text → Stops rest
    → prefix_len (λ b. not (is_stop b)) (text ++ rest) ≡ length text
run_length [] rest runs stops = stops
run_length (b ∷ text) rest runs stops = rw (runs.0, run_length text rest runs.1 stops) (omega arith)

pub runs_before : (text rest : List ℕ) → Runs text → Stops rest
    → before_first is_stop (text ++ rest) ≡ text
runs_before text rest runs stops =
    rw (run_length text rest runs stops) (take_at text rest (length text) refl)

-- names
name_byte_runs : (b : ℕ) → is_name_byte b ≡ true → is_stop b ≡ false
name_byte_runs b is_byte = grind (arith, nat_tests)

first_passes : (v : Bool) (n m : ℕ) → cond (not (not v)) (1 + n) 0 ≡ suc m → (v ≡ true) × (n ≡ m)
first_passes true n m e = (refl, omega (arith, e))
first_passes false n m e = absurd (omega (arith, e))

name_bytes_run : (text : List ℕ) → prefix_len (λ b. not (not (is_name_byte b))) text ≡ length text
    → Runs text
name_bytes_run [] all = tt
name_bytes_run (b ∷ text) all =
    let both = first_passes (is_name_byte b) _ (length text) all in
    (name_byte_runs b both.0, name_bytes_run text both.1)

no_fault : (v w : Bool) (k : ℕ)
    → cond v (Some Length) (option_map (λ at. Byte at) (cond w (Some k) None)) ≡ None → w ≡ false
no_fault true w k e = absurd cc
no_fault false true k e = absurd cc
no_fault false false k e = refl

name_all : (name : List ℕ) → IsName name
    → prefix_len (λ b. not (not (is_name_byte b))) name ≡ length name
name_all name valid =
    let within = prefix_len-le-length (λ b. not (not (is_name_byte b))) name in
    let past = ltb-false _ _ (no_fault _ _ _ valid) in
    omega (arith, within, past)

name_runs : (name : List ℕ) → IsName name → Runs name
name_runs name valid = name_bytes_run name (name_all name valid)

pub name_again : (kind : NameKind) (r : Reading) (name rest : List ℕ) → IsName name → Stops rest
    → rest_of r ≡ name ++ rest
    → name_at kind r ≡ Ok (name, moved (length name) r)
name_again kind r name rest valid stops e =
    let front : before_first is_stop (rest_of r) ≡ name =
    ap (before_first is_stop) e ∙ runs_before name rest (name_runs name valid) stops in
    rw (front, valid) refl

-- the one, two or three digits of an octet
octet_forms : (P : List ℕ → Type 0) (n : ℕ) → n < 256 → (n < 10 → P ((48 + n) ∷ []))
    → (10 ≤ n → n < 100 → P ((48 + n / 10) ∷ (48 + n % 10) ∷ []))
    → (100 ≤ n → P ((48 + n / 100) ∷ (48 + n / 10 % 10) ∷ (48 + n % 10) ∷ [])) → P (printed_octet n)
unfolding printed_octet
octet_forms P n small one two three = elim (cases_lt n 10) [
  | inl under_ten ↦ rw (lt-ltb n 10 under_ten) (one under_ten)
  | inr ten ↦ elim (cases_lt n 100) [
    | inl under_hundred ↦ rw (le-ltb n 10 ten, lt-ltb n 100 under_hundred) (two ten under_hundred)
    | inr hundred ↦ rw (le-ltb n 10 ten, le-ltb n 100 hundred) (three hundred)
  ]
]

digit_is : (d : ℕ) → d < 10 → is_digit (48 + d) ≡ true
digit_is d small = grind (arith, nat_tests)

digit_runs : (d : ℕ) → d < 10 → is_stop (48 + d) ≡ false
digit_runs d small = grind (arith, nat_tests)

digit_no_dot : (d : ℕ) → d < 10 → (48 + d == dot) ≡ false
digit_no_dot d small = grind (arith, nat_tests)

octet_again : (n : ℕ) → n < 256 → octet_of (printed_octet n) ≡ Some n
octet_again n small = octet_forms (λ text. octet_of text ≡ Some n) n small
    (λ under_ten. let value : 48 + n - 48 ≡ n = omega arith in
    rw (digit_is n under_ten, value) refl)
    (λ ten under_hundred.
    let value : (48 + n / 10 - 48) * 10 + (48 + n % 10 - 48) ≡ n = omega arith in
    rw (
      digit_is (n / 10) (omega arith),
      digit_is (n % 10) (omega arith),
      lt-ltb 48 (48 + n / 10) (omega arith),
      value,
    ) refl)
    (λ hundred.
    let value : (48 + n / 100 - 48) * 100 + (48 + n / 10 % 10 - 48) * 10 + (48 + n % 10 - 48) ≡ n =
    omega arith in
    rw (
      digit_is (n / 100) (omega arith),
      digit_is (n / 10 % 10) (omega arith),
      digit_is (n % 10) (omega arith),
      lt-ltb 48 (48 + n / 100) (omega arith),
      value,
      lt-ltb n 256 small,
    ) refl)

octet_runs : (n : ℕ) → n < 256 → Runs (printed_octet n)
octet_runs n small = octet_forms Runs n small
    (λ under_ten. (digit_runs n under_ten, tt))
    (λ ten under_hundred.
    (digit_runs (n / 10) (omega arith), (digit_runs (n % 10) (omega arith), tt)))
    (λ hundred. (
      digit_runs (n / 100) (omega arith),
      (digit_runs (n / 10 % 10) (omega arith), (digit_runs (n % 10) (omega arith), tt)),
    ))

-- no dot is in it
abbrev NoDot : List ℕ → Type 0
NoDot [] = Unit {0}
NoDot (b ∷ text) = ((b == dot) ≡ false) × NoDot text

octet_no_dot : (n : ℕ) → n < 256 → NoDot (printed_octet n)
octet_no_dot n small = octet_forms NoDot n small
    (λ under_ten. (digit_no_dot n under_ten, tt))
    (λ ten under_hundred.
    (digit_no_dot (n / 10) (omega arith), (digit_no_dot (n % 10) (omega arith), tt)))
    (λ hundred. (
      digit_no_dot (n / 100) (omega arith),
      (digit_no_dot (n / 10 % 10) (omega arith), (digit_no_dot (n % 10) (omega arith), tt)),
    ))

dot_at : (text rest : List ℕ) → NoDot text
    → prefix_len (λ b. not (b == dot)) (text ++ dot ∷ rest) ≡ length text
dot_at [] rest none = refl
dot_at (b ∷ text) rest none = rw (none.0, dot_at text rest none.1) (omega arith)

octet_dot : (n : ℕ) (rest : List ℕ) → n < 256
    → octet_and_rest (printed_octet n ++ dot ∷ rest) ≡ Some (n, rest)
octet_dot n rest small =
    let text = printed_octet n in
    let place = dot_at text rest (octet_no_dot n small) in
    let within : ltb (length text) (length (text ++ dot ∷ rest)) ≡ true =
    lt-ltb _ _ (omega (arith, length-append text (dot ∷ rest))) in
    let behind : drop (length text + 1) (text ++ dot ∷ rest) ≡ rest =
    sym (drop-drop 1 (length text) (text ++ dot ∷ rest))
    ∙ ap (drop 1) (drop_at text (dot ∷ rest) (length text) refl) in
    rw (place, within, take_at text (dot ∷ rest) (length text) refl, octet_again n small, behind)
    refl

-- addresses
pub apart : (a b c d : List ℕ)
    → a ++ dot ∷ b ++ dot ∷ c ++ dot ∷ d ≡ a ++ (dot ∷ (b ++ (dot ∷ (c ++ (dot ∷ d)))))
apart a b c d = append_assoc (a ++ dot ∷ b) (dot ∷ c) (dot ∷ d)
    ∙ append_assoc a (dot ∷ b) ((dot ∷ c) ++ (dot ∷ d))

address_of_four : (a b c d : ℕ) → a < 256 → b < 256 → c < 256 → d < 256
    → address_of (printed_address (a ∷ b ∷ c ∷ d ∷ [])) ≡ Some (a ∷ b ∷ c ∷ d ∷ [])
address_of_four a b c d is_a is_b is_c is_d =
    ap address_of (apart (printed_octet a) (printed_octet b) (printed_octet c) (printed_octet d))
    ∙ rw (octet_dot a _ is_a, octet_dot b _ is_b, octet_dot c _ is_c, octet_again d is_d) refl

four_run : (a b c d : ℕ) → a < 256 → b < 256 → c < 256 → d < 256
    → Runs (printed_address (a ∷ b ∷ c ∷ d ∷ []))
four_run a b c d is_a is_b is_c is_d =
    runs_both _ (dot ∷ printed_octet d) (runs_both _ (dot ∷ printed_octet c)
    (runs_both (printed_octet a) (dot ∷ printed_octet b) (octet_runs a is_a)
    (refl, octet_runs b is_b)) (refl, octet_runs c is_c)) (refl, octet_runs d is_d)

pub address_again : (address : List ℕ) → AreBytes 4 address
    → (address_of (printed_address address) ≡ Some address) × Runs (printed_address address)
address_again [] valid = absurd (omega (arith, valid.0))
address_again (a ∷ []) valid = absurd (omega (arith, valid.0))
address_again (a ∷ b ∷ []) valid = absurd (omega (arith, valid.0))
address_again (a ∷ b ∷ c ∷ []) valid = absurd (omega (arith, valid.0))
address_again (a ∷ b ∷ c ∷ d ∷ []) valid =
    let is_a = valid.1 0 0 (omega arith) in
    let is_b = valid.1 1 0 (omega arith) in
    let is_c = valid.1 2 0 (omega arith) in
    let is_d = valid.1 3 0 (omega arith) in
    (address_of_four a b c d is_a is_b is_c is_d, four_run a b c d is_a is_b is_c is_d)
address_again (a ∷ b ∷ c ∷ d ∷ e ∷ more) valid = absurd (omega (arith, valid.0))

-- hosts
pub further : (first second : ℕ) (r : Reading)
    → moved second (moved first r) ≡ moved (first + second) r
further first second r = ap (λ (at : ℕ). record r { at = at }) (omega arith)

host_again : (r : Reading) (host : Host) (rest : List ℕ) → IsHost host → Stops rest
    → rest_of r ≡ printed_host host ++ rest
    → host_at r ≡ Ok (host, moved (length (printed_host host)) r)
unfolding same_word
host_again r (Os name) rest valid stops e =
    let is_os : begins (rest_of r) (codes "OS:") ≡ true = rw e refl in
    let behind = rest_again r (codes "OS:") (name ++ rest) 3 refl e in
    let total : 3 + length name ≡ length (printed_host (Os name)) = omega arith in
    rw (
      is_os,
      name_again part.Host (moved 3 r) name rest valid stops behind,
      further 3 (length name) r,
      total,
    ) refl
host_again r (Tcp address) rest valid stops e =
    let again = address_again address valid in
    let text = printed_address address in
    let not_os : begins (rest_of r) (codes "OS:") ≡ false = rw e refl in
    let is_tcp : begins (rest_of r) (codes "TCP:") ≡ true = rw e refl in
    let behind = rest_again r (codes "TCP:") (text ++ rest) 4 refl e in
    let total : 4 + length text ≡ length (printed_host (Tcp address)) = omega arith in
    let front : before_first is_stop (rest_of (moved 4 r)) ≡ text =
    ap (before_first is_stop) behind ∙ runs_before text rest again.1 stops in
    rw (not_os, is_tcp, front, again.0, further 4 (length text) r, total) refl

abbrev found : Host → List ℕ → Reading → Result ((Host × List ℕ) × Reading) PartFault
found host queue r = Ok ((host, queue), r)

pub direct_again : (r : Reading) (host : Host) (queue rest : List ℕ) → IsHost host → IsName queue
    → Stops rest → rest_of r ≡ printed_direct host queue ++ rest
    → direct_at r ≡ Ok ((host, queue), moved (length (printed_direct host queue)) r)
unfolding direct_at same_word
direct_again r host queue rest valid is_queue stops e =
    let h = printed_host host in
    let parts : rest_of r ≡ h ++ (path ++ (queue ++ rest)) =
    e ∙ append_assoc (h ++ path) queue rest ∙ append_assoc h path (queue ++ rest) in
    let behind_host = rest_again r h (path ++ (queue ++ rest)) (length h) refl parts in
    let is_path : begins (rest_of (moved (length h) r)) path ≡ true = rw behind_host refl in
    let behind_path = rest_again (moved (length h) r) path (queue ++ rest) 10 refl behind_host in
    let place : r.at + length h + 10 + length queue ≡ r.at + length (printed_direct host queue) =
    omega (arith, length-append (h ++ path) queue, length-append h path) in
    rw (
      host_again r host (path ++ (queue ++ rest)) valid refl parts,
      is_path,
      name_again part.Queue (moved 10 (moved (length h) r)) queue rest is_queue stops behind_path,
    )
    (ap (λ (at : ℕ). found host queue (record r { at = at })) place)

journal_stops : (journal : Bool) → Stops (printed_journal journal)
journal_stops true = refl
journal_stops false = refl

direct_name_again : (r : Reading) (host : Host) (queue : List ℕ) (journal : Bool) → IsHost host
    → IsName queue
    → rest_of r ≡ printed_direct host queue ++ printed_journal journal
    → direct_name_at r ≡ Ok (Direct host queue journal)
unfolding direct_name_at
direct_name_again r host queue journal valid is_queue e =
    let count = length (printed_direct host queue) in
    let behind = rest_again r (printed_direct host queue) (printed_journal journal) count refl e in
    rw (
      direct_again r host queue (printed_journal journal) valid is_queue (journal_stops journal) e,
      journal_again (moved count r) journal behind,
    ) refl

pub direct_name : (host : Host) (queue : List ℕ) (journal : Bool) → IsHost host → IsName queue
    → name_of (printed (Direct host queue journal)) ≡ Ok (Direct host queue journal)
unfolding same_word
direct_name host queue journal valid is_queue =
    direct_name_again (moved 7 (record { bytes = printed (Direct host queue journal); at = 0 }))
    host queue journal valid is_queue refl

-- each byte is below 0x80
abbrev pub Ascii : List ℕ → Type 0
Ascii [] = Unit {0}
Ascii (b ∷ text) = (b < 128) × Ascii text

ascii_both : (first second : List ℕ) → Ascii first → Ascii second → Ascii (first ++ second)
ascii_both [] second one two = two
ascii_both (b ∷ first) second one two = (one.0, ascii_both first second one.1 two)

name_byte_ascii : (b : ℕ) → is_name_byte b ≡ true → b < 128
name_byte_ascii b is_byte = grind (arith, nat_tests)

name_bytes_ascii : (text : List ℕ) → prefix_len (λ b. not (not (is_name_byte b))) text ≡ length text
    → Ascii text
name_bytes_ascii [] all = tt
name_bytes_ascii (b ∷ text) all =
    let both = first_passes (is_name_byte b) _ (length text) all in
    (name_byte_ascii b both.0, name_bytes_ascii text both.1)

octet_ascii : (n : ℕ) → n < 256 → Ascii (printed_octet n) × (length (printed_octet n) ≤ 3)
octet_ascii n small = octet_forms (λ text. Ascii text × (length text ≤ 3)) n small
    (λ under_ten. ((omega arith, tt), omega arith))
    (λ ten under_hundred. ((omega arith, (omega arith, tt)), omega arith))
    (λ hundred. ((omega arith, (omega arith, (omega arith, tt))), omega arith))

address_ascii : (address : List ℕ) → AreBytes 4 address
    → Ascii (printed_address address) × (length (printed_address address) ≤ 15)
address_ascii address valid =
    let part = λ (k : ℕ). printed_octet (slice_index address k) in
    let a = octet_ascii (slice_index address 0) (valid.1 0 0 (omega (arith, valid.0))) in
    let b = octet_ascii (slice_index address 1) (valid.1 1 0 (omega (arith, valid.0))) in
    let c = octet_ascii (slice_index address 2) (valid.1 2 0 (omega (arith, valid.0))) in
    let d = octet_ascii (slice_index address 3) (valid.1 3 0 (omega (arith, valid.0))) in
    let dotted : 46 < 128 = omega arith in (
      ascii_both _ (dot ∷ part 3) (ascii_both _ (dot ∷ part 2)
          (ascii_both (part 0) (dot ∷ part 1) a.0 (dotted, b.0)) (dotted, c.0)) (dotted, d.0),
      omega (
        arith,
        a.1,
        b.1,
        c.1,
        d.1,
        length-append (part 0 ++ dot ∷ part 1 ++ dot ∷ part 2) (dot ∷ part 3),
        length-append (part 0 ++ dot ∷ part 1) (dot ∷ part 2),
        length-append (part 0) (dot ∷ part 1),
      ),
    )

or_false : (v w : Bool) → (v || w) ≡ false → w ≡ false
or_false true w e = absurd cc
or_false false w e = e

not_long : (v : Bool) (rest : Option NameError) → cond v (Some Length) rest ≡ None → v ≡ false
not_long true rest e = absurd cc
not_long false rest e = refl

name_most : (name : List ℕ) → IsName name → length name ≤ 64
name_most name valid = ltb-false _ _ (or_false _ _ (not_long _ _ valid))

host_ascii : (host : Host) → IsHost host
    → Ascii (printed_host host) × (length (printed_host host) ≤ 67)
host_ascii (Os name) valid = (
  (omega arith, (omega arith, (omega arith, name_bytes_ascii name (name_all name valid)))),
  omega (arith, name_most name valid),
)
host_ascii (Tcp address) valid =
    let part = address_ascii address valid in
    ((omega arith, (omega arith, (omega arith, (omega arith, part.0)))), omega (arith, part.1))

path_ascii : Ascii path
path_ascii = (
  omega arith,
  (
    omega arith,
    (
      omega arith,
      (
        omega arith,
        (
          omega arith,
          (omega arith, (omega arith, (omega arith, (omega arith, (omega arith, tt))))),
        ),
      ),
    ),
  ),
)

pub direct_ascii : (host : Host) (queue : List ℕ) → IsHost host → IsName queue
    → Ascii (printed_direct host queue)
direct_ascii host queue valid is_queue =
    ascii_both (printed_host host ++ path) queue
    (ascii_both (printed_host host) path (host_ascii host valid).0 path_ascii)
    (name_bytes_ascii queue (name_all queue is_queue))

pub direct_most : (host : Host) (queue : List ℕ) → IsHost host → IsName queue
    → length (printed_direct host queue) ≤ 141
direct_most host queue valid is_queue =
    omega (
      arith,
      (host_ascii host valid).1,
      name_most queue is_queue,
      length-append (printed_host host ++ path) queue,
      length-append (printed_host host) path,
    )
