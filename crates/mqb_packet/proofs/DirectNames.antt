-- The wire form of a direct name, both ways.
use Rattle.std.proofs.Common.{◌≡◌, ◌≤◌, ◌<◌, ℕ, ◌+◌, ◌*◌, ◌-◌, ◌==◌, ◌&&◌, Bool, true, false, cond, ltb, List, [], ◌∷◌, ◌++◌, length, take, drop, Option, Some, None, option_map, Result, Ok, Err, refl, sym, ap, subst, ◌∙◌, arith, length-append}
use Rattle.std.specs.Prelude.{All, option_and_then}
use Rattle.std.specs.Int.{byte_at}
use Rattle.std.specs.List.{AllByRecursion}
use Rattle.std.proofs.lemmas.Bool.{and_parts, eqb-true, ltb-true, le-ltb}
use Rattle.std.proofs.lemmas.List.{append-nil, take-append-drop}
use Rattle.mqb_base.specs.declared.queue_names.Host.{Host}
use Rattle.mqb_base.specs.declared.queue_names.QueueName.{QueueName}
use Rattle.mqb_base.specs.declared.queue_names.QueueName.TheVariants.{Direct}
use Rattle.mqb_fields.specs.Reading.{◌>>=◌, Reading, rest_of, moved, number_of}
use Rattle.mqb_fields.specs.Writing.{bytes_of}
use Rattle.mqb_heads.specs.mqb_names.declared.faults.PartFault.{PartFault}
use Rattle.mqb_heads.specs.mqb_names.Grammar.{◌then◌, Exactly, Word, HostText, JournalText}
use Rattle.mqb_heads.specs.mqb_names.Parts.{same_word}
use Rattle.mqb_heads.specs.mqb_names.Printed.{path}
use Rattle.mqb_heads.specs.mqb_names.Reading.{direct_at, direct_name_at, journal_at}
use Rattle.mqb_heads.specs.mqb_names.Values.{IsHost, IsName}
use Rattle.mqb_heads.specs.mqb_names.Wire.{text_of, units, direct_wire, start, length_at, direct_from, direct_of, whole, spelled}
use Rattle.mqb_heads.specs.mqb_names.lemmas.DirectAgain.{Ascii}
use Rattle.mqb_heads.specs.mqb_names.lemmas.Lengths.{count_is, counted_few}
use Rattle.mqb_heads.specs.mqb_names.lemmas.TextRead.{direct_read}
use Rattle.mqb_heads.specs.mqb_names.lemmas.TextWritten.{direct_took}
use Rattle.mqb_heads.specs.mqb_names.lemmas.Units.{length_units, length_direct}
use Rattle.mqb_heads.specs.mqb_names.lemmas.WireAgain.{text_again}
use Rattle.mqb_heads.specs.lemmas.ReadLaws.{bind_ok}
use Rattle.mqb_packet.specs.DirectNames.{IsDirectWire}
use Rattle.mqb_packet.proofs.Steps.{ok_is}

ascii_all : (text : List ℕ) → AllByRecursion (λ b. b < 128) text → Ascii text
ascii_all [] all = tt
ascii_all (b ∷ text) all = (all.0, ascii_all text all.1)

-- one unit more of a text
first_unit : (low : ℕ) (v : Bool) (behind : Option (List ℕ)) (text : List ℕ) → cond v (option_map (λ text. low ∷ text) behind) None ≡ Some text
    → (v ≡ true) × ((rest : List ℕ) × (behind ≡ Some rest) × (low ∷ rest ≡ text))
first_unit low true (Some rest) text e = (refl, (rest, refl, cc))
first_unit low true None text e = absurd cc
first_unit low false behind text e = absurd cc

-- the units of a text, of which each is an ASCII character
units_text : (bytes text : List ℕ) → text_of bytes ≡ Some text → (bytes ≡ units text) × AllByRecursion (λ b. b < 128) text
units_text [] text e =
    let none : [] ≡ text = cc in
    subst (λ (text : List ℕ). ([] ≡ units text) × AllByRecursion (λ b. b < 128) text) none (refl, tt)
units_text (low ∷ []) text e = absurd cc
units_text (low ∷ high ∷ bytes) text e =
    let first = first_unit low (ltb low 128 && high == 0) (text_of bytes) text e in
    let both = and_parts (ltb low 128) (high == 0) first.0 in
    let rest = units_text bytes first.1.0 first.1.1 in
    let zero : high ≡ 0 = eqb-true _ _ both.1 in
    subst (λ (text : List ℕ). (low ∷ high ∷ bytes ≡ units text) × AllByRecursion (λ b. b < 128) text) first.1.2
    (ap (λ (h : ℕ). low ∷ h ∷ bytes) zero ∙ ap (λ (b : List ℕ). low ∷ 0 ∷ b) rest.0, (ltb-true _ _ both.0, rest.1))

-- two bytes as a number, and the number as two bytes
pair_bytes : (a b : ℕ) → a < 256 → b < 256 → bytes_of 2 (number_of 2 (a ∷ b ∷ [])) ≡ a ∷ b ∷ []
pair_bytes a b a_small b_small =
    let low : byte_at 0 (number_of 2 (a ∷ b ∷ [])) ≡ a = omega arith in
    let high : byte_at 1 (number_of 2 (a ∷ b ∷ [])) ≡ b = omega arith in
    rw (low, high) refl

front_bytes : (bytes : List ℕ) → 2 ≤ length bytes → All (λ b. b < 256) bytes → bytes_of 2 (number_of 2 (take 2 bytes)) ++ drop 2 bytes ≡ bytes
front_bytes [] long small = absurd (omega arith)
front_bytes (a ∷ []) long small = absurd (omega arith)
front_bytes (a ∷ b ∷ bytes) long small = ap (λ (front : List ℕ). front ++ bytes) (pair_bytes a b (small 0 0 (omega arith)) (small 1 0 (omega arith)))

-- a value that was found in turn
pub map_some : {X Y : Type 0} (f : X → Y) (o : Option X) (y : Y) → option_map f o ≡ Some y → (x : X) × (o ≡ Some x) × (f x ≡ y)
map_some f (Some x) y e = (x, refl, cc)
map_some f None y e = absurd cc

pub then_some : {X Y : Type 0} (f : X → Option Y) (o : Option X) (y : Y) → option_and_then f o ≡ Some y → (x : X) × (o ≡ Some x) × (f x ≡ Some y)
then_some f (Some x) y e = (x, refl, e)
then_some f None y e = absurd cc

pub unless_some : {X : Type 0} (b : Bool) (o : Option X) (x : X) → cond b None o ≡ Some x → o ≡ Some x
unless_some true o x e = absurd cc
unless_some false o x e = e

no_rest : (list : List ℕ) → (length list == 0) ≡ true → list ≡ []
no_rest [] e = refl
no_rest (b ∷ list) e = absurd (omega (arith, eqb-true (length (b ∷ list)) 0 e))

pub some_if : {X : Type 0} (b : Bool) (x y : X) → cond b (Some x) None ≡ Some y → (b ≡ true) × (x ≡ y)
some_if true x y e = (refl, cc)
some_if false x y e = absurd cc

-- a text that is read to its end as host and queue
pub whole_some : (read : Result ((Host × List ℕ) × Reading) PartFault) (found : Host × List ℕ) → whole read ≡ Some found
    → (end : Reading) × (read ≡ Ok (found, end)) × (rest_of end ≡ [])
whole_some (Ok x) found e =
    let all = some_if (length (rest_of x.1) == 0) x.0 found e in
    (x.1, ap (λ (found : Host × List ℕ). Ok (found, x.1)) all.1, no_rest (rest_of x.1) all.0)
whole_some (Err d) found e = absurd cc

three_forms : (First Second Third : List ℕ → Type 0) (text a b c rest_a rest_b rest_c : List ℕ) → a ++ rest_a ≡ text → b ++ rest_b ≡ rest_a → c ++ rest_c ≡ rest_b → rest_c ≡ []
    → First a → Second b → Third c → (First then Second then Third) text
three_forms First Second Third text a b c rest_a rest_b rest_c one two three none is_a is_b is_c =
    (a, rest_a, one, is_a, (b, rest_b, two, is_b, subst Third (sym (append-nil c) ∙ ap (λ (t : List ℕ). c ++ t) (sym none) ∙ three) is_c))

text_form : (text : List ℕ) (host : Host) (queue : List ℕ) → direct_of text ≡ Some (host, queue) → (HostText host then Word path then Exactly queue) text
unfolding direct_of
text_form text host queue e =
    let (end, read, nothing) = whole_some (direct_at (start text)) (host, queue) e in
    let (a, b, is_host, is_path, is_queue) = direct_took (start text) ((host, queue), end) read in
    three_forms (HostText host) (Word path) (Exactly queue) text is_host.0 is_path.0 is_queue.0 (rest_of a) (rest_of b) (rest_of end)
    is_host.1 is_path.1 is_queue.1 nothing is_host.2 is_path.2 is_queue.2

pub direct_form : (host : Host) (queue bytes : List ℕ) → All (λ b. b < 256) bytes → length_at 3 bytes ≡ Ok (length bytes)
    → spelled 3 bytes ≡ Some (Direct host queue false) → IsDirectWire host queue bytes
unfolding spelled
direct_form host queue bytes small sized e =
    let count = count_is bytes (length bytes) sized in
    let named = map_some (λ (direct : Host × List ℕ). Direct direct.0 direct.1 false) (option_and_then direct_of (text_of (drop 2 bytes))) (Direct host queue false)
    (unless_some (ltb 282 (length (drop 2 bytes))) _ (Direct host queue false) e) in
    let found = then_some direct_of (text_of (drop 2 bytes)) named.0 named.1 in
    let text = found.0 in
    let is = units_text (drop 2 bytes) text found.1 in
    let same_host : named.0.0 ≡ host = cc in
    let same_queue : named.0.1 ≡ queue = cc in
    let form = text_form text named.0.0 named.0.1 found.2 in
    let whole : bytes_of 2 (number_of 2 (take 2 bytes)) ++ units text ≡ bytes =
    ap (λ (t : List ℕ). bytes_of 2 (number_of 2 (take 2 bytes)) ++ t) (sym is.0) ∙ front_bytes bytes count.0 small in
    let len : number_of 2 (take 2 bytes) ≡ length text =
    omega (arith, count.2, ap length whole, length_direct (number_of 2 (take 2 bytes)) text) in
    record {
      text = text;
      ascii = is.1;
      few = omega (arith, count.1, len);
      spelled = subst (λ (host : Host). (HostText host then Word path then Exactly queue) text) same_host
          (subst (λ (queue : List ℕ). (HostText named.0.0 then Word path then Exactly queue) text) same_queue form);
      units = sym whole ∙ ap (λ (n : ℕ). bytes_of 2 n ++ units text) len;
    }

-- a text that is read with no suffix is read to its end
journal_none : (v w : Bool) (d : PartFault) → cond v (Ok false) (cond w (Ok true) (Err d)) ≡ Ok false → v ≡ true
journal_none true w d e = refl
journal_none false true d e = absurd cc
journal_none false false d e = absurd cc

no_suffix : same_word [] [] ≡ true
unfolding same_word
no_suffix = refl

direct_whole : (text : List ℕ) (host : Host) (queue : List ℕ) → direct_name_at (start text) ≡ Ok (Direct host queue false) → direct_of text ≡ Some (host, queue)
unfolding direct_name_at direct_of
direct_whole text host queue e =
    let direct = bind_ok (direct_at (start text)) _ (Direct host queue false) e in
    let journal = bind_ok (journal_at direct.0.1) _ (Direct host queue false) direct.2 in
    let name : Direct direct.0.0.0 direct.0.0.1 journal.0 ≡ Direct host queue false = ok_is _ _ journal.2 in
    let none : journal.0 ≡ false = cc in
    let same_host : direct.0.0.0 ≡ host = cc in
    let same_queue : direct.0.0.1 ≡ queue = cc in
    let over = journal_none (length (rest_of direct.0.1) == 0) _ _ (journal.1 ∙ ap (λ (b : Bool). Ok b) none) in
    let pair : direct.0.0 ≡ (host, queue) = ap (λ (h : Host). (h, direct.0.0.1)) same_host ∙ ap (λ (q : List ℕ). (host, q)) same_queue in
    rw (direct.1, over) (ap (λ (d : Host × List ℕ). Some d) pair)

pub direct_spelled : (host : Host) (queue bytes : List ℕ) → IsHost host → IsName queue → IsDirectWire host queue bytes
    → (length_at 3 bytes ≡ Ok (length bytes)) × (spelled 3 bytes ≡ Some (Direct host queue false))
unfolding length_at spelled
direct_spelled host queue bytes valid is_queue form =
    let text = form.text in
    let (a, rest, one, is_host, (b, end, two, is_path, is_end)) = form.spelled in
    let read = direct_whole text host queue (direct_read (start text) host queue false valid is_queue
    (a, rest, one, is_host, (b, end, two, is_path, (end, [], append-nil end, is_end, no_suffix)))) in
    let few : ltb 282 (length (units text)) ≡ false = le-ltb _ _ (omega (arith, length_units text, form.few)) in
    subst (λ (bytes : List ℕ). (length_at 3 bytes ≡ Ok (length bytes)) × (spelled 3 bytes ≡ Some (Direct host queue false))) (sym form.units) (
      ap (λ (t : List ℕ). length_at 3 (bytes_of 2 (length text) ++ t)) (sym (append-nil (units text)))
          ∙ counted_few (length text) (units text ++ []) form.few ∙ ap (λ (n : ℕ). Ok n) (sym (length_direct (length text) text)),
      rw (few, text_again text (ascii_all text form.ascii), read) refl,
    )
